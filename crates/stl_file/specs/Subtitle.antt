-- The subtitles of an EBU STL file.
use Rattle.std.specs.Prelude.{◌≡◌, ℕ, ◌<◌, ◌≤◌, Bool, true, false, ◌==◌, if◌then◌else◌}
use Rattle.std.specs.Prelude.{List, [], ◌∷◌, length}
use Rattle.stl_file.specs.TimeCode.{day}
use Rattle.stl_file.specs.Tti.{unused_space}

-- A subtitle (EBU Tech 3264, TTI block):
--
--   sgn       subtitle group number, one byte
--   sn        subtitle number, two bytes
--   tci, tco  time code in and out, as frames of the day
--   vp        vertical position: the row of the first line
--   jc        justification code
--   text      the text of all blocks of the subtitle, in the code of the file's CCT
pub record SubtitleValue : Type 0 where
  pub sgn : ℕ
  pub sn : ℕ
  pub tci : ℕ
  pub tco : ℕ
  pub vp : ℕ
  pub jc : ℕ
  pub text : List ℕ

-- A subtitle without text, in row 1 at frame 0 of the day.
abbrev pub empty_subtitle : SubtitleValue
empty_subtitle = record { sgn = 0; sn = 0; tci = 0; tco = 1; vp = 1; jc = 0; text = [] }

-- The maximum number of bytes of a subtitle's text: nine text fields of 112 bytes each.
abbrev pub max_text_size : ℕ
max_text_size = 1008

-- The text contains no unused space (8F). A text field is padded with 8F, and its text ends before
-- the first 8F, so a subtitle's text never contains that byte.
abbrev pub has_no_unused_space : List ℕ → Bool
has_no_unused_space [] = true
has_no_unused_space (x ∷ xs) = if x == unused_space then false else has_no_unused_space xs

-- A valid subtitle: TCI is before TCO and both are in the day, the row is 1 to 23, the
-- justification code 0 to 3, and the text has no unused space and at most 1008 bytes. SGN, SN and
-- the other codes in the text are not restricted.
pub record IsSubtitle (s : SubtitleValue) : Type 0 where
  pub times : s.tci < s.tco
  pub in_day : s.tco < day
  pub vp : (1 ≤ s.vp) × (s.vp ≤ 23)
  pub jc : s.jc ≤ 3
  pub text : has_no_unused_space s.text ≡ true
  pub few : length s.text ≤ max_text_size
