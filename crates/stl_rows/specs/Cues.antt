-- Cues: subtitles of a programme whose texts are stored in one common buffer.
use Rattle.std.specs.Prelude.{ℕ, ◌+◌, ◌≤◌, List, length, take, drop}
use Rattle.stl_file.specs.Subtitle.{IsSubtitle, SubtitleValue}
use Rattle.stl_rows.specs.declared.cues.Cue.{Cue}

-- The subtitle of the cue c, with its text taken from the buffer of all texts.
abbrev pub subtitle_of_cue : List ℕ → Cue → SubtitleValue
subtitle_of_cue texts c = record {
  sgn = c.sgn;
  sn = c.sn;
  tci = c.tci;
  tco = c.tco;
  vp = c.vp;
  jc = c.jc;
  text = take c.len (drop c.start texts);
}

-- The text of the cue c is within the buffer, and the cue has the fields of a valid subtitle.
pub record IsCueInTexts (texts : List ℕ) (c : Cue) : Type 0 where
  pub within : c.start + c.len ≤ length texts
  pub subtitle : IsSubtitle (subtitle_of_cue texts c)

-- The cue of a subtitle whose text begins at position `start` of the buffer.
abbrev pub cue_with_text_at : ℕ → SubtitleValue → Cue
cue_with_text_at start s = record {
  start = start;
  tci = s.tci;
  tco = s.tco;
  len = length s.text;
  sn = s.sn;
  sgn = s.sgn;
  vp = s.vp;
  jc = s.jc;
}
