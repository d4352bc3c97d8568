-- Unless the source fails, the bytes that a call of a reader consumes determine its result.
use Rattle.std.proofs.Common.{◌≡◌, ℕ, true, List, [], ◌∷◌, ◌++◌, refl, sym, ap, ◌∙◌}
use Rattle.std.proofs.Common.{append_assoc, arith, Option, Some, None, Result, Ok, Err, ◌-◌, length}
use Rattle.std.proofs.lemmas.Bool.Decides.{nat_tests}
use Rattle.std.specs.Prelude.{filter, option_map}
use Rattle.std.specs.List.{AllByRecursion, concat, AllZip}
use Rattle.std.proofs.lemmas.List.{append-nil}
use Rattle.stl_file.specs.declared.fault.StlFault.{StlFault}
use Rattle.stl_file.specs.declared.resuming.Found.{Found}
use Rattle.stl_file.specs.declared.resuming.Found.TheVariants as found
use Rattle.stl_file.specs.Fault.{is_cut}
use Rattle.stl_file.specs.Tti.{is_unskipped_block, max_blocks}
use Rattle.stl_file.specs.SubtitleBlocks.{IsBlock, AreBlocksOf}
use Rattle.stl_file.specs.Reader.{EndsWithUnskippedBlock, LastIsUnskippedBlock, Refuses}
use Rattle.stl_file.specs.Reader.{ConsumesSkippedBlocks, ConsumesSubtitle}
use Rattle.stl_file.specs.Subtitle.{SubtitleValue}
use Rattle.stl_file.specs.Reading.{StartedSubtitle, fails, findings_from, skipped_subtitle_from}
use Rattle.stl_file.specs.Reading.{stopped}
use Rattle.stl_file.specs.Scope.{whole}
use Rattle.stl_file.specs.declared.scope.Scope.{Scope}
use Rattle.stl_file.specs.Resuming.{LeadsToResult, findings_after_call, depends_on_end, found_of}
use Rattle.stl_file.proofs.SubtitleBlocksLemmas.{length-concat}
use Rattle.stl_file.proofs.FindingsLemmas.{empty_bytes_end_the_findings}
use Rattle.stl_file.proofs.RestLemmas.{valid_blocks_are_read, accepted_bytes_are_valid_blocks}
use Rattle.stl_file.proofs.RestLemmas.{joined_groups}
use Rattle.stl_file.proofs.ScopeLemmas.{whole_scope_keeps_all_groups}

-- If the bytes before a call are known, the bytes left after the call are also known. The results
-- for the bytes before the call are the call's result, followed by the results for the bytes left.
pub left-then : (old new : Option (List ℕ)) (rest : List ℕ) {scope : Scope} {from to : ℕ}
    {refused next : Option StartedSubtitle} {t : SubtitleValue} {result : Result Found StlFault}
    → LeadsToResult scope from to refused next old new t result
    → old ≡ Some rest
    → (more : List ℕ) × (new ≡ Some more)
    × (findings_from scope from refused rest ≡ findings_after_call scope to next more t result)
left-then None new rest l is = absurd cc
left-then (Some all) None rest l is = absurd l.consumed
left-then (Some all) (Some more) rest l is =
    let same : rest ≡ l.bytes ++ more = let whole = l.consumed in cc in
    (more, refl, rw same (l.findings more l.ended))

-- A reader that stops at the first fault reports nothing after a fault, even if reading could
-- continue.
stopped_findings_fail : (to : ℕ) (next : Option StartedSubtitle) (more : List ℕ) (s : SubtitleValue)
    (f : StlFault)
    → stopped (findings_after_call whole to next more s (found_of (Err f))) ≡ fails f to
stopped_findings_fail to next more s f = grind arith

-- If more bytes could remove a fault, the fault is `Truncated` or `Unfinished`.
is_cut-by : (f : StlFault) → depends_on_end (found_of (Err f)) ≡ true → is_cut f ≡ true
is_cut-by f e = grind arith

-- No subtitle file continues with the bytes that led to a fault, unless the fault is `Truncated` or
-- `Unfinished`: then a file may continue with these bytes, but no file ends with them.
pub refuses : (from to : ℕ) (old new : Option (List ℕ)) (s : SubtitleValue)
    (next : Option StartedSubtitle)
    (x : StlFault)
    → LeadsToResult whole from to None next old new s (found_of (Err x))
    → Refuses from to old new x
refuses from to old new s next x l = record {
  bytes = l.bytes;
  consumed = l.consumed;
  block = l.block;
  none = λ more cut bs ts r e.
      let good = valid_blocks_are_read whole bs (max_blocks - from) ts r in
      let bad = ap stopped (l.findings more (λ end. cut (is_cut-by x end)))
      ∙ stopped_findings_fail to next more s x in
      grind arith;
}

-- If groups of blocks contain a single subtitle, the joined groups are the blocks of that subtitle.
one_subtitle_has_one_group : (s : SubtitleValue) (gs : List (List (List ℕ)))
    → AllZip AreBlocksOf (s ∷ []) gs
    → AreBlocksOf s (joined_groups gs)
one_subtitle_has_one_group s gs h = grind (arith, nat_tests, append-nil)

no_subtitle_has_no_group : (gs : List (List (List ℕ))) → AllZip AreBlocksOf [] gs → joined_groups gs
    ≡ []
no_subtitle_has_no_group gs h = grind (arith, nat_tests)

last_block_is_subtitle_block : (prefix b : List ℕ) (bs : List (List ℕ))
    → AllByRecursion IsBlock (b ∷ bs)
    → LastIsUnskippedBlock (prefix ++ concat (b ∷ bs))
    → EndsWithUnskippedBlock (b ∷ bs)
last_block_is_subtitle_block prefix b [] h k = k prefix b (ap (λ (x : List ℕ). prefix ++ x)
    (append-nil b)) h.0
last_block_is_subtitle_block prefix b (c ∷ bs) h k = last_block_is_subtitle_block (prefix ++ b) c bs
    h.1
    (λ start last e size. k start last (sym (append_assoc prefix b (concat (c ∷ bs))) ∙ e) size)

-- If the bytes of blocks do not end with a skipped block, and the blocks contain a subtitle, the
-- list of blocks ends with a block that is not skipped.
subtitle_blocks_end_the_list : (s : SubtitleValue) (bs : List (List ℕ))
    → AreBlocksOf s (filter is_unskipped_block bs)
    → AllByRecursion IsBlock bs
    → LastIsUnskippedBlock (concat bs)
    → EndsWithUnskippedBlock bs
subtitle_blocks_end_the_list s [] a h k = absurd cc
subtitle_blocks_end_the_list s (b ∷ bs) a h k = last_block_is_subtitle_block [] b bs h k

-- If a call returns a subtitle and no rejected subtitle remains to be skipped, the bytes consumed
-- are the blocks of the subtitle, with the skipped blocks before and inside them.
pub found_subtitle_is_consumed : (from to : ℕ) (old new : Option (List ℕ)) (s : SubtitleValue)
    (kept : Option (List ℕ))
    → kept ≡ None
    → LeadsToResult whole from to None (option_map skipped_subtitle_from kept) old new s
    (Ok found.Subtitle)
    → ConsumesSubtitle from to old new s
found_subtitle_is_consumed from to old new s kept over l =
    let r = accepted_bytes_are_valid_blocks whole (max_blocks - from) None [] l.bytes (s ∷ []) refl
    (let o = rw over at (l.findings [] (λ e. refl)) in grind
    (arith, append-nil, empty_bytes_end_the_findings)) in
    let are_subtitle_blocks : AreBlocksOf s (filter is_unskipped_block r.blocks) =
    rw r.kept (one_subtitle_has_one_group s r.groups (rw (whole_scope_keeps_all_groups r.groups) at
    r.inside_groups_match)) in
    record {
      blocks = r.blocks;
      counted = omega (arith, length-concat r.blocks r.each, ap length r.bytes);
      each = r.each;
      are_subtitle_blocks = are_subtitle_blocks;
      ends = subtitle_blocks_end_the_list s r.blocks are_subtitle_blocks r.each
          (rw r.bytes at (l.kept refl));
      consumed = rw r.bytes at l.consumed;
    }

-- If a call returns `None`, the bytes consumed are only skipped blocks.
pub file_end_consumes_skipped_blocks : (from to : ℕ) (old new : Option (List ℕ)) (s : SubtitleValue)
    (next : Option StartedSubtitle)
    → LeadsToResult whole from to None next old new s (Ok found.End)
    → ConsumesSkippedBlocks from to old new
file_end_consumes_skipped_blocks from to old new s next l =
    let r = accepted_bytes_are_valid_blocks whole (max_blocks - from) None [] l.bytes [] refl
    (let o = l.findings [] (λ e. refl) in grind (arith, append-nil)) in
    let none : joined_groups r.groups ≡ [] =
    no_subtitle_has_no_group r.groups
    (rw (whole_scope_keeps_all_groups r.groups) at r.inside_groups_match) in
    record {
      blocks = r.blocks;
      counted =
          let size = length-concat r.blocks r.each in
          let same = ap length r.bytes in
          let at = l.block in
          omega arith;
      each = r.each;
      skipped = r.kept ∙ none;
      consumed = rw r.bytes at l.consumed;
      ended = l.ended refl;
    }

pub ruleset led = (found_subtitle_is_consumed, file_end_consumes_skipped_blocks, refuses)
