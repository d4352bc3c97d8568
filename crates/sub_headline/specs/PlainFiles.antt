-- The formats of the subtitle file and the PES file.
use Rattle.std.specs.Prelude.{ℕ, All, List}
use Rattle.stl_file.specs.File.{IsFileFor}
use Rattle.stl_file.specs.declared.scope.Scope.{Scope}
use Rattle.stl_file.specs.Subtitle.{SubtitleValue}
use Rattle.stl_rows.specs.Programme.{AreInOrder}
use Rattle.sub_rules.specs.PesFrames.{Carries}
use Rattle.sub_rules.specs.Transmission.{Transmission}
use Rattle.sub_headline.specs.EnglishPage.{IsDrawnCompletely}

-- The two files contain these subtitles and these frames, given the PTS of frame 0 and the selected
-- part of the subtitle file.
pub record AreReadFrom
    (scope : Scope) (origin : ℕ) (stl pes : List ℕ) (subtitles : List SubtitleValue)
    (transmission : Transmission)
    : Type 0 where
  -- The subtitle file consists of a GSI block and the TTI blocks of subtitles (EBU Tech 3264),
  -- among which comments and user data may be. The subtitles of the selected part are `subtitles`,
  -- in order and without overlap, and their texts can be drawn completely.
  pub gsi : List ℕ
  pub subtitle_file : IsFileFor scope stl gsi subtitles
  pub in_order : AreInOrder subtitles
  pub texts : All IsDrawnCompletely subtitles
  -- The PES file consists of PES packets (EN 300 472), one for each frame of the transmission, with
  -- the PTS of that frame.
  pub carries : Carries origin pes transmission
