-- The first pass of `normal` adds each subtitle and the blocks of its normal form to the counts TNS
-- and TNB. The second pass writes these blocks.
use Rattle.std.proofs.Common.{◌≡◌, ℕ, true, false, Bool, cond, List, length, arith, length-append}
use Rattle.std.proofs.Common.{Option, Some, Result, Ok, Err, ◌+◌, ◌≤◌, is_ok}
use Rattle.std.proofs.lemmas.Bool.Decides.{nat_tests}
use Rattle.std.specs.Io.KnownBytes.{Appends}
use Rattle.std.proofs.lemmas.List.Folds.{concat-append}
use Rattle.std.proofs.lemmas.Option.{same_Some}
use Rattle.std.specs.List.{concat}
use Rattle.sub_io.specs.Device.{Writes}
use Rattle.sub_io.proofs.DeviceLemmas.{Writes-after}
use Rattle.stl_file.specs.declared.counts.Counts.{Counts}
use Rattle.stl_file.specs.declared.fault.NormalFault.{NormalFault}
use Rattle.stl_file.specs.declared.fault.StlFault.{StlFault}
use Rattle.stl_file.specs.Reader.{GivesNextResult, ReaderValue, ConsumesSubtitle}
use Rattle.stl_file.specs.Reader.{yielded_subtitle}
use Rattle.stl_file.specs.Reader.{remaining_outcome}
use Rattle.stl_file.specs.Subtitle.{SubtitleValue}
use Rattle.stl_file.specs.NormalForm.{SubtitlesOrFault, blocks_of_subtitles, subtitles_of}
use Rattle.stl_file.specs.NormalForm.{blocks_of}
use Rattle.stl_file.specs.NormalForm.{prepend_subtitle}
use Rattle.stl_file.specs.NormalCounts.{accepted_subtitles, subtitles_from_call, normal_counts}
use Rattle.stl_file.proofs.SubtitleBlocksLemmas.{filtering_adds_no_blocks}
use Rattle.stl_file.proofs.BlocksOfLemmas.{respelling_needs_no_more_blocks}
use Rattle.stl_file.proofs.BlocksOfLemmas.{one_block_more_than_chunks}

pub same_count_means_no_failure : (b : Bool) → 0 ≡ 0 + cond b 1 0 → b ≡ false
same_count_means_no_failure b e = grind (arith, nat_tests)

pub call_splits_the_outcome : (old new : ReaderValue) (rest next : List ℕ)
    (r : Result Bool StlFault)
    (s : SubtitleValue)
    → GivesNextResult old rest new (Some next) (yielded_subtitle r s)
    → subtitles_of (remaining_outcome old rest)
    ≡ subtitles_from_call r s new.block (subtitles_of (remaining_outcome new next))
call_splits_the_outcome old new rest next r s a = grind (arith, nat_tests, same_Some)

-- The normal form of a subtitle has no more blocks than the file has for the subtitle.
pub respelled_blocks_fit : (from to : ℕ) (old new : Option (List ℕ)) (s : SubtitleValue)
    → ConsumesSubtitle from to old new s
    → from + length (blocks_of s) ≤ to
respelled_blocks_fit from to old new s t =
    omega (
      arith,
      t.counted,
      filtering_adds_no_blocks t.blocks,
      (respelling_needs_no_more_blocks s
          _ t.are_subtitle_blocks).1,
    )

-- `counts_added_to` adds the counts of the remaining subtitles to the counts so far. If reading the
-- remaining subtitles finds a fault, the result is that fault.
abbrev pub counts_added_to : Counts → Result Counts NormalFault → Result Counts NormalFault
counts_added_to c (Ok d) = Ok (record { tnb = c.tnb + d.tnb; tns = c.tns + d.tns })
counts_added_to c (Err f) = Err f

pub zero_counts_change_nothing : (j : SubtitlesOrFault)
    → counts_added_to (record { tnb = 0; tns = 0 }) (normal_counts j) ≡ normal_counts j
zero_counts_change_nothing j = grind arith

pub counts_grow_by_subtitle : (c : Counts) (s : SubtitleValue) (j : SubtitlesOrFault)
    → counts_added_to c (normal_counts (prepend_subtitle s j))
    ≡ counts_added_to (record { tnb = c.tnb + length (blocks_of s); tns = c.tns + 1 })
    (normal_counts j)
counts_grow_by_subtitle c s j = grind (arith, length-append)

pub ruleset judging = (
  zero_counts_change_nothing,
  counts_grow_by_subtitle,
  one_block_more_than_chunks,
)

pub ok_result_has_ok_tail : (s : SubtitleValue) (j : SubtitlesOrFault)
    → is_ok (prepend_subtitle s j) ≡ true →
    is_ok j ≡ true
ok_result_has_ok_tail s j e = grind arith

pub written_subtitles_join : {E : Type 0} (old mid new : Option (List ℕ)) (s : SubtitleValue)
    (j : SubtitlesOrFault)
    (result : Result (Unit {0}) E)
    → is_ok (prepend_subtitle s j) ≡ true
    → Appends old mid (concat (blocks_of s))
    → Writes mid new (concat (blocks_of_subtitles (accepted_subtitles j))) result
    → Writes old new (concat (blocks_of_subtitles (accepted_subtitles (prepend_subtitle s j))))
    result
written_subtitles_join old mid new s j result ok p q = grind (
  arith,
  nat_tests,
  concat-append,
  Writes-after,
)
