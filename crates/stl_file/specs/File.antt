-- Definition of a subtitle file (EBU Tech 3264): an accepted GSI block, then at most 99,999 TTI
-- blocks: the blocks of its subtitles, with comments, user data and subtitles outside the scope
-- among them.
use Rattle.std.specs.Prelude.{◌≡◌, ℕ, List, ◌++◌}
use Rattle.std.specs.List.{concat}
use Rattle.stl_file.specs.Tti.{max_blocks}
use Rattle.stl_file.specs.Subtitle.{SubtitleValue}
use Rattle.stl_file.specs.SubtitleBlocks.{AreSubtitleBlocks}
use Rattle.stl_file.specs.Gsi.{IsGsiFor}
use Rattle.stl_file.specs.Scope.{whole}
use Rattle.stl_file.specs.declared.scope.Scope.{Scope}

-- The bytes s are a subtitle file with the GSI block g, and the subtitles of the file that are in
-- the scope are ts.
pub record IsFileFor (scope : Scope) (s g : List ℕ) (ts : List SubtitleValue) : Type 0 where
  pub gsi : IsGsiFor scope.takes_open g
  pub blocks : List (List ℕ)
  pub bytes : s ≡ g ++ concat blocks
  pub rest : AreSubtitleBlocks scope max_blocks blocks ts

-- The bytes s are a subtitle file for Teletext with the GSI block g and the subtitles ts.
abbrev pub IsFile : List ℕ → List ℕ → List SubtitleValue → Type 0
IsFile s g ts = IsFileFor whole s g ts
