-- Counts of blocks and subtitles for the two passes of `normal`. No public clause uses this file.
use Rattle.std.specs.Prelude.{ℕ, List, [], length, Bool, true, false, Result, Ok, Err}
use Rattle.stl_file.specs.declared.counts.Counts.{Counts}
use Rattle.stl_file.specs.declared.fault.StlFault.{StlFault}
use Rattle.stl_file.specs.declared.fault.NormalFault.{NormalFault}
use Rattle.stl_file.specs.declared.fault.NormalFault.TheVariants.{Refused}
use Rattle.stl_file.specs.Subtitle.{SubtitleValue}
use Rattle.stl_file.specs.NormalForm.{SubtitlesOrFault, blocks_of_subtitles, prepend_subtitle}

-- The subtitles of an accepted file; none for a rejected file.
abbrev pub accepted_subtitles : SubtitlesOrFault → List SubtitleValue
accepted_subtitles (Ok ts) = ts
accepted_subtitles (Err f) = []

-- The numbers of blocks and subtitles in the normal form of a file; the fault of a rejected file.
abbrev pub normal_counts : SubtitlesOrFault → Result Counts NormalFault
normal_counts (Ok ts) = Ok (record { tnb = length (blocks_of_subtitles ts); tns = length ts })
normal_counts (Err f) = Err f

-- The subtitles of the next call of the reader and of all later calls, or the first fault, given
-- the result of the next call, its subtitle and block number, and the result of the later calls.
abbrev pub subtitles_from_call : Result Bool StlFault → SubtitleValue → ℕ → SubtitlesOrFault
    → SubtitlesOrFault
subtitles_from_call (Ok true) s block left = prepend_subtitle s left
subtitles_from_call (Ok false) s block left = Ok []
subtitles_from_call (Err f) s block left = Err (Refused f block)
