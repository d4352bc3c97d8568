-- If no fault ends reading, removing the subtitles outside the scope changes only block numbers.
use Rattle.std.proofs.Common.{◌≡◌, ℕ, Bool, false, true, List, [], ◌∷◌, ◌++◌, length, refl}
use Rattle.std.proofs.Common.{arith, length-append, Option, Some, None, Result, Ok, Err}
use Rattle.std.proofs.Common.{zero, suc, ◌-◌, ◌<◌, ◌≤◌, ◌⊎◌, inl, inr, ◌∙◌, sym, ltb}
use Rattle.std.proofs.lemmas.List.{take_at, drop_at}
use Rattle.std.proofs.lemmas.Bool.{cases_Bool, le-ltb}
use Rattle.std.proofs.lemmas.Bool.Decides.{nat_tests}
use Rattle.std.specs.List.{AllByRecursion, concat}
use Rattle.stl_file.specs.declared.fault.StlFault.{StlFault}
use Rattle.stl_file.specs.declared.scope.Scope.{Scope}
use Rattle.stl_file.specs.Fault.{is_first_block_fault}
use Rattle.stl_file.specs.Gsi.{checked_gsi}
use Rattle.stl_file.specs.Reader.{findings_within_scope, findings_after_opening}
use Rattle.stl_file.specs.Reader.{checked_gsi_of_file}
use Rattle.stl_file.specs.Reading.{StartedSubtitle, BlockStep, Findings, Yield, More}
use Rattle.stl_file.specs.Reading.{findings_after_block}
use Rattle.stl_file.specs.Reading.{findings_with_room, subtitle_block_step}
use Rattle.stl_file.specs.Reading.{skipped_after_first_block, tti_block_step}
use Rattle.stl_file.specs.Scope.{begins_outside}
use Rattle.stl_file.specs.Subtitle.{SubtitleValue}
use Rattle.stl_file.specs.SubtitleBlocks.{IsBlock}
use Rattle.stl_file.specs.KeptBlocks.{LawOfScope, LawOfWholeDay, whole_day_scope}
use Rattle.stl_file.specs.KeptBlocks.{has_no_ending_fault, stays}
use Rattle.stl_file.specs.KeptBlocks.{scope_blocks}
use Rattle.stl_file.specs.KeptBlocks.{unnumbered, within_for_next_block}
use Rattle.stl_file.specs.Tti.{cf, ebn, is_skipped_block, max_blocks, tci}
use Rattle.stl_file.proofs.FindingsLemmas.{findings_take_the_front_block}
use Rattle.stl_file.proofs.FindingsLemmas.{empty_bytes_end_the_findings}
use Rattle.stl_file.proofs.FindingsLemmas.{findings_break_at_block_limit}
use Rattle.stl_file.proofs.StepLemmas.{subtitle_block_has_subtitle_step}
use Rattle.stl_file.proofs.StepLemmas.{skipped_block_changes_nothing}
use Rattle.stl_file.proofs.TimeCodeLemmas.{in_day}

pub whole_day_has_no_outside : LawOfWholeDay
unfolding begins_outside
whole_day_has_no_outside scope b = grind (arith, nat_tests, in_day (tci b))

-- The states of reading the original file (`full`) and the file without the removed blocks (`cut`)
-- agree: neither has a current subtitle, both have the same one, or only the original file has one,
-- and that subtitle is skipped.
abbrev StartedStatesAgree : Option Bool → Option StartedSubtitle → Option StartedSubtitle → Type 0
StartedStatesAgree None full cut = (full ≡ None) × (cut ≡ None)
StartedStatesAgree (Some true) full cut = (o : StartedSubtitle) × (full ≡ Some o) × (cut ≡ Some o)
StartedStatesAgree (Some false) full cut =
    (o : StartedSubtitle) × (full ≡ Some o) × (o.is_skipped ≡ true) × (cut ≡ None)

findings_agree_after_step : (room room' : ℕ) (next next' : Option StartedSubtitle → Findings)
    (b : List ℕ)
    (step : Result BlockStep StlFault) (within : Option Bool)
    → ((n : Option StartedSubtitle) → step ≡ Ok (More n) → StartedStatesAgree within n n)
    → ((s : SubtitleValue) → step ≡ Ok (Yield s) → StartedStatesAgree within None None)
    → StartedStatesAgree within (skipped_after_first_block b) (skipped_after_first_block b)
    → ((full cut : Option StartedSubtitle) → StartedStatesAgree within full cut
    → has_no_ending_fault (next full) ≡ true
    → unnumbered (next full) ≡ unnumbered (next' cut))
    → has_no_ending_fault (findings_after_block room next b step) ≡ true
    → unnumbered (findings_after_block room next b step) ≡ unnumbered (findings_after_block room'
    next' b step)
findings_agree_after_step room room' next next' b (Err f) within more give skipped on read =
    let rest = on (skipped_after_first_block b) (skipped_after_first_block b) skipped in grind
    (arith, nat_tests)
findings_agree_after_step room room' next next' b (Ok (More n)) within more give skipped on read =
    on n n (more n refl) read
findings_agree_after_step room room' next next' b (Ok (Yield s)) within more give skipped on read =
    let rest = on None None (give s refl) read in grind (arith, nat_tests)

-- If a block is not skipped, and no fault ends reading from this block on, the block has CF 0 and
-- the EBN of a subtitle's block (00 to EF, or FF).
read_block_has_subtitle_ebn : (scope : Scope) (begun : Option StartedSubtitle) (b : List ℕ)
    (room : ℕ)
    (next : Option StartedSubtitle → Findings)
    → is_skipped_block b ≡ false
    → has_no_ending_fault (findings_after_block room next b (tti_block_step scope begun b)) ≡ true
    → ((ebn b < 240) ⊎ (ebn b ≡ 255)) × (cf b ≡ 0)
unfolding tti_block_step
read_block_has_subtitle_ebn scope begun b room next kept read = grind (arith, nat_tests)

inside_first_block_ignores_scope : (scope : Scope) (b : List ℕ)
    → begins_outside scope b ≡ false
    → subtitle_block_step scope None b ≡ subtitle_block_step (whole_day_scope scope) None b
unfolding subtitle_block_step
inside_first_block_ignores_scope scope b inside = rw (inside, whole_day_has_no_outside scope b) refl

later_block_ignores_scope : (scope : Scope) (o : StartedSubtitle) (b : List ℕ)
    → subtitle_block_step scope (Some o) b ≡ subtitle_block_step (whole_day_scope scope) (Some o) b
unfolding subtitle_block_step
later_block_ignores_scope scope o b = refl

-- If a first block inside the scope yields no subtitle yet, the states of reading the original file
-- and the file without the removed blocks agree after that block.
first_block_keeps_agreement : (scope : Scope) (b : List ℕ) (n : Option StartedSubtitle)
    → begins_outside scope b ≡ false
    → subtitle_block_step scope None b ≡ Ok (More n)
    → StartedStatesAgree (within_for_next_block scope None b) n n
unfolding subtitle_block_step
first_block_keeps_agreement scope b n inside e = grind (arith, nat_tests)

yielding_ends_both_states : (scope : Scope) (b : List ℕ) (begun : Option StartedSubtitle)
    (within : Option Bool)
    (s : SubtitleValue)
    → subtitle_block_step scope begun b ≡ Ok (Yield s)
    → StartedStatesAgree (within_for_next_block scope within b) None None
unfolding subtitle_block_step
yielding_ends_both_states scope b None within s e = grind (arith, nat_tests)
yielding_ends_both_states scope b (Some o) within s e = grind (arith, nat_tests)

later_block_keeps_agreement : (scope : Scope) (o : StartedSubtitle) (b : List ℕ)
    (n : Option StartedSubtitle)
    → subtitle_block_step scope (Some o) b ≡ Ok (More n)
    → StartedStatesAgree (within_for_next_block scope (Some true) b) n n
unfolding subtitle_block_step
later_block_keeps_agreement scope o b n e = grind (arith, nat_tests)

both_skip_rejected_subtitle : (scope : Scope) (b : List ℕ) (within : Option Bool)
    → stays scope within b ≡ true
    → StartedStatesAgree (within_for_next_block scope within b) (skipped_after_first_block b)
    (skipped_after_first_block b)
both_skip_rejected_subtitle scope b within stay = grind (arith, nat_tests)

outside_first_block_is_skipped : (scope : Scope) (b : List ℕ)
    → begins_outside scope b ≡ true
    → subtitle_block_step scope None b ≡ Ok (More (skipped_after_first_block b))
unfolding subtitle_block_step
outside_first_block_is_skipped scope b outside = rw outside refl

cut_file_omits_outside_subtitle : (scope : Scope) (b : List ℕ)
    → begins_outside scope b ≡ true
    → StartedStatesAgree (within_for_next_block scope None b) (skipped_after_first_block b) None
cut_file_omits_outside_subtitle scope b outside = grind (arith, nat_tests)

skipped_block_keeps_agreement : (scope : Scope) (o : StartedSubtitle) (b : List ℕ)
    (n : Option StartedSubtitle)
    → o.is_skipped ≡ true
    → subtitle_block_step scope (Some o) b ≡ Ok (More n)
    → StartedStatesAgree (within_for_next_block scope (Some false) b) n None
unfolding subtitle_block_step
skipped_block_keeps_agreement scope o b n skipped e = grind (arith, nat_tests)

skipped_subtitle_never_yields : (scope : Scope) (o : StartedSubtitle) (b : List ℕ)
    (s : SubtitleValue)
    → o.is_skipped ≡ true
    → subtitle_block_step scope (Some o) b ≡ Ok (Yield s)
    → ⊥
unfolding subtitle_block_step
skipped_subtitle_never_yields scope o b s skipped e = grind (arith, nat_tests)

later_block_fault_breaks_reading : (scope : Scope) (o : StartedSubtitle) (b : List ℕ) (f : StlFault)
    → subtitle_block_step scope (Some o) b ≡ Err f
    → is_first_block_fault f ≡ false
unfolding subtitle_block_step
later_block_fault_breaks_reading scope o b f e = grind (arith, nat_tests)

-- If the first block of a list is not skipped and belongs to a subtitle inside the scope, the list
-- without the removed blocks begins with that block.
blocks_within_scope_keep_block : (scope : Scope) (within : Option Bool) (b : List ℕ)
    (bs : List (List ℕ))
    → is_skipped_block b ≡ false
    → stays scope within b ≡ true
    → scope_blocks scope within (b ∷ bs) ≡ b ∷ scope_blocks scope (within_for_next_block scope
    within b) bs
blocks_within_scope_keep_block scope within b bs kept stay = rw (kept, stay) refl

blocks_within_scope_drop_block : (scope : Scope) (within : Option Bool) (b : List ℕ)
    (bs : List (List ℕ))
    → is_skipped_block b ≡ false
    → stays scope within b ≡ false
    → scope_blocks scope within (b ∷ bs) ≡ scope_blocks scope (within_for_next_block scope within b)
    bs
blocks_within_scope_drop_block scope within b bs kept gone = rw (kept, gone) refl

module _ (scope : Scope) (b : List ℕ) (bs : List (List ℕ)) (within : Option Bool) (room room' : ℕ)
    (size : length b ≡ 128) (kept : is_skipped_block b ≡ false) (le : suc room ≤ room')
    (on : (full cut : Option StartedSubtitle) (more : ℕ) → StartedStatesAgree
    (within_for_next_block scope within b)
    full cut
    → room ≤ more
    → has_no_ending_fault (findings_with_room scope room full (concat bs)) ≡ true
    → unnumbered (findings_with_room scope room full (concat bs))
    ≡ unnumbered (findings_with_room (whole_day_scope scope) more cut
    (concat (scope_blocks scope (within_for_next_block scope within b) bs)))) where
  abbrev next : Option StartedSubtitle → Findings
  next n = findings_with_room scope room n (concat bs)

  abbrev next' : Option StartedSubtitle → Findings
  next' n = findings_with_room (whole_day_scope scope) (room' - 1) n
      (concat (scope_blocks scope (within_for_next_block scope within b) bs))

  kept_block_reads_the_same : (begun : Option StartedSubtitle)
      → stays scope within b ≡ true
      → tti_block_step (whole_day_scope scope) begun b ≡ tti_block_step scope begun b
      → ((n : Option StartedSubtitle) → tti_block_step scope begun b ≡ Ok (More n)
      → StartedStatesAgree (within_for_next_block scope within b) n n)
      → ((s : SubtitleValue) → tti_block_step scope begun b ≡ Ok (Yield s)
      → StartedStatesAgree (within_for_next_block scope within b) None None)
      → has_no_ending_fault (findings_after_block room next b (tti_block_step scope begun b)) ≡ true
      → unnumbered (findings_after_block room next b (tti_block_step scope begun b))
      ≡ unnumbered (findings_with_room (whole_day_scope scope) room' begun
      (concat (scope_blocks scope within (b ∷ bs))))
  kept_block_reads_the_same begun stay same more give read =
      rw (
        blocks_within_scope_keep_block scope within b bs kept stay,
        findings_take_the_front_block (whole_day_scope scope) room' (room' - 1) begun b
            (concat (scope_blocks scope (within_for_next_block scope within b) bs)) (omega arith)
            size,
        same,
      )
      (findings_agree_after_step room (room' - 1) next next' b (tti_block_step scope begun b)
      (within_for_next_block scope within b) more give (both_skip_rejected_subtitle scope b within
      stay)
      (λ full cut h. on full cut (room' - 1) h (omega arith)) read)

  dropped_block_reads_the_same : (step : Result BlockStep StlFault)
      → stays scope within b ≡ false
      → ((n : Option StartedSubtitle) → step ≡ Ok (More n)
      → StartedStatesAgree (within_for_next_block scope within b) n None)
      → ((s : SubtitleValue) → step ≡ Ok (Yield s) → ⊥)
      → ((f : StlFault) → step ≡ Err f → is_first_block_fault f ≡ false)
      → has_no_ending_fault (findings_after_block room next b step) ≡ true
      → unnumbered (findings_after_block room next b step)
      ≡ unnumbered (findings_with_room (whole_day_scope scope) room' None
      (concat (scope_blocks scope within (b ∷ bs))))
  dropped_block_reads_the_same (Err f) gone more give fault read =
      absurd (let no = fault f refl in grind (arith, nat_tests))
  dropped_block_reads_the_same (Ok (Yield s)) gone more give fault read = absurd (give s refl)
  dropped_block_reads_the_same (Ok (More n)) gone more give fault read =
      rw (blocks_within_scope_drop_block scope within b bs kept gone)
      (on n None room' (more n refl) (omega arith) read)

continuing_step_is_unique : {step : Result BlockStep StlFault} {n m : Option StartedSubtitle}
    → step ≡ Ok (More n)
    → step ≡ Ok (More m)
    → m ≡ n
continuing_step_is_unique a b = cc

continuing_step_yields_nothing : {step : Result BlockStep StlFault} {n : Option StartedSubtitle}
    {s : SubtitleValue}
    → step ≡ Ok (More n)
    → step ≡ Ok (Yield s)
    → ⊥
continuing_step_yields_nothing a b = cc

continuing_step_has_no_fault : {step : Result BlockStep StlFault} {n : Option StartedSubtitle}
    {f : StlFault}
    → step ≡ Ok (More n)
    → step ≡ Err f
    → ⊥
continuing_step_has_no_fault a b = cc

any_block_reads_the_same : (scope : Scope) (b : List ℕ) (bs : List (List ℕ)) (within : Option Bool)
    (full cut : Option StartedSubtitle) (room room' : ℕ)
    → length b ≡ 128
    → is_skipped_block b ≡ false
    → suc room ≤ room'
    → StartedStatesAgree within full cut
    → ((full' cut' : Option StartedSubtitle) (more : ℕ) → StartedStatesAgree
    (within_for_next_block scope within b)
    full' cut'
    → room ≤ more
    → has_no_ending_fault (findings_with_room scope room full' (concat bs)) ≡ true
    → unnumbered (findings_with_room scope room full' (concat bs))
    ≡ unnumbered (findings_with_room (whole_day_scope scope) more cut'
    (concat (scope_blocks scope (within_for_next_block scope within b) bs))))
    → has_no_ending_fault (findings_after_block room (λ n. findings_with_room scope room n
    (concat bs)) b
    (tti_block_step scope full b)) ≡ true
    → unnumbered (findings_after_block room (λ n. findings_with_room scope room n (concat bs)) b
    (tti_block_step scope full b))
    ≡ unnumbered (findings_with_room (whole_day_scope scope) room' cut
    (concat (scope_blocks scope within (b ∷ bs))))
any_block_reads_the_same scope b bs None full cut room room' size kept le begun on read =
    let now = rw begun.0 at read in
    let is = read_block_has_subtitle_ebn scope None b room (λ n. findings_with_room scope room n
    (concat bs)) kept now in
    let step = subtitle_block_has_subtitle_step scope None b is.0 is.1 in
    rw (begun.0, begun.1)
    (elim (cases_Bool (begins_outside scope b)) [
      | inl outside ↦
          let own = step ∙ outside_first_block_is_skipped scope b outside in
          dropped_block_reads_the_same scope b bs None room room' size kept le on
          (tti_block_step scope None b)
          (rw outside refl)
          (λ n e. rw (continuing_step_is_unique own e) (cut_file_omits_outside_subtitle scope b
          outside))
          (λ s e. continuing_step_yields_nothing own e)
          (λ f e. absurd (continuing_step_has_no_fault own e)) now
      | inr inside ↦
          let same = subtitle_block_has_subtitle_step (whole_day_scope scope) None b is.0 is.1
          ∙ sym (inside_first_block_ignores_scope scope b inside) ∙ sym step in
          kept_block_reads_the_same scope b bs None room room' size kept le on None (rw inside refl)
          same
          (λ n e. first_block_keeps_agreement scope b n inside (sym step ∙ e))
          (λ s e. yielding_ends_both_states scope b None None s (sym step ∙ e)) now
    ])
any_block_reads_the_same scope b bs (Some true) full cut room room' size kept le begun on read =
    let o = begun.0 in
    let now = rw begun.1 at read in
    let is =
    read_block_has_subtitle_ebn scope (Some o) b room (λ n. findings_with_room scope room n
    (concat bs)) kept now in
    let step = subtitle_block_has_subtitle_step scope (Some o) b is.0 is.1 in
    let same = subtitle_block_has_subtitle_step (whole_day_scope scope) (Some o) b is.0 is.1
    ∙ sym (later_block_ignores_scope scope o b) ∙ sym step in
    rw (begun.1, begun.2)
    (kept_block_reads_the_same scope b bs (Some true) room room' size kept le on (Some o) refl same
    (λ n e. later_block_keeps_agreement scope o b n (sym step ∙ e))
    (λ s e. yielding_ends_both_states scope b (Some o) (Some true) s (sym step ∙ e)) now)
any_block_reads_the_same scope b bs (Some false) full cut room room' size kept le begun on read =
    let o = begun.0 in
    let now = rw begun.1 at read in
    let is =
    read_block_has_subtitle_ebn scope (Some o) b room (λ n. findings_with_room scope room n
    (concat bs)) kept now in
    let step = subtitle_block_has_subtitle_step scope (Some o) b is.0 is.1 in
    rw (begun.1, begun.3)
    (dropped_block_reads_the_same scope b bs (Some false) room room' size kept le on
    (tti_block_step scope (Some o) b)
    refl
    (λ n e. skipped_block_keeps_agreement scope o b n begun.2 (sym step ∙ e))
    (λ s e. skipped_subtitle_never_yields scope o b s begun.2 (sym step ∙ e))
    (λ f e. later_block_fault_breaks_reading scope o b f (sym step ∙ e)) now)

file_end_reads_the_same : (scope : Scope) (within : Option Bool) (full cut : Option StartedSubtitle)
    (room room' : ℕ)
    → StartedStatesAgree within full cut
    → has_no_ending_fault (findings_with_room scope room full []) ≡ true
    → unnumbered (findings_with_room scope room full [])
    ≡ unnumbered (findings_with_room (whole_day_scope scope) room' cut [])
file_end_reads_the_same scope None full cut room room' begun read =
    rw (begun.0, begun.1)
    (rw (
      empty_bytes_end_the_findings scope room None,
      empty_bytes_end_the_findings
          (whole_day_scope scope) room' None,
    ) refl)
file_end_reads_the_same scope (Some true) full cut room room' begun read =
    absurd (let e = rw (begun.1, empty_bytes_end_the_findings scope room (Some begun.0)) at read
    in cc)
file_end_reads_the_same scope (Some false) full cut room room' begun read =
    absurd (let e = rw (begun.1, empty_bytes_end_the_findings scope room (Some begun.0)) at read
    in cc)

cut_blocks_read_the_same : (scope : Scope) (bs : List (List ℕ)) (within : Option Bool)
    (full cut : Option StartedSubtitle)
    (room room' : ℕ)
    → AllByRecursion IsBlock bs
    → StartedStatesAgree within full cut
    → room ≤ room'
    → has_no_ending_fault (findings_with_room scope room full (concat bs)) ≡ true
    → unnumbered (findings_with_room scope room full (concat bs))
    ≡ unnumbered (findings_with_room (whole_day_scope scope) room' cut
    (concat (scope_blocks scope within bs)))
cut_blocks_read_the_same scope [] within full cut room room' each begun le read =
    file_end_reads_the_same scope within full cut room room' begun read
cut_blocks_read_the_same scope (b ∷ bs) within full cut zero room' each begun le read =
    absurd
    (let e =
    rw (findings_break_at_block_limit scope full (b ++ concat bs)
    (omega (arith, each.0, length-append b (concat bs))))
    at read in
    cc)
cut_blocks_read_the_same scope (b ∷ bs) within full cut (suc room) room' each begun le read =
    let one = findings_take_the_front_block scope (suc room) room full b (concat bs) refl each.0 in
    let now = rw one at read in
    rw one
    (elim (cases_Bool (is_skipped_block b)) [
      | inl skipped ↦
          rw (
            skipped,
            skipped_block_changes_nothing scope full b skipped,
            findings_take_the_front_block (whole_day_scope scope) room' (room' - 1) cut b
                (concat (scope_blocks scope within bs)) (omega arith) each.0,
            skipped_block_changes_nothing (whole_day_scope scope) cut b skipped,
          )
          (cut_blocks_read_the_same scope bs within full cut room (room' - 1) each.1 begun
          (omega arith)
          (rw (skipped_block_changes_nothing scope full b skipped) at now))
      | inr kept ↦
          any_block_reads_the_same scope b bs within full cut room room' each.0 kept le begun
          (λ full' cut' more h few.
          cut_blocks_read_the_same scope bs (within_for_next_block scope within b) full' cut' room
          more each.1 h few) now
    ])

module _ (g : List ℕ) (size : length g ≡ 1024) where
  findings_start_after_gsi : (scope : Scope) (rest : List ℕ)
      → findings_within_scope scope (g ++ rest) ≡ findings_after_opening scope rest
      (checked_gsi scope.takes_open g)
  unfolding findings_within_scope checked_gsi_of_file
  findings_start_after_gsi scope rest =
      let long : ltb (length (g ++ rest)) 1024 ≡ false =
      le-ltb _ _ (omega (arith, size, length-append g rest)) in
      rw (long, drop_at g rest 1024 size, take_at g rest 1024 size) refl

cut_file_reads_the_same : (scope : Scope) (bs : List (List ℕ)) (gsi : Result (List ℕ) StlFault)
    → AllByRecursion IsBlock bs
    → has_no_ending_fault (findings_after_opening scope (concat bs) gsi) ≡ true
    → unnumbered (findings_after_opening scope (concat bs) gsi)
    ≡ unnumbered (findings_after_opening (whole_day_scope scope)
    (concat (scope_blocks scope None bs)) gsi)
cut_file_reads_the_same scope bs (Err f) each read = absurd cc
cut_file_reads_the_same scope bs (Ok g) each read =
    cut_blocks_read_the_same scope bs None None None max_blocks max_blocks each (refl, refl)
    (omega arith) read

-- If reading a part of a file is not ended by a fault, it gives the same results, except block
-- numbers, as reading the file from which the other subtitles are removed.
pub scope_reads_like_cut_file : LawOfScope
scope_reads_like_cut_file scope g bs size each read =
    rw (
      findings_start_after_gsi g size scope (concat bs),
      findings_start_after_gsi g size (whole_day_scope scope) (concat (scope_blocks scope None bs)),
    )
    (cut_file_reads_the_same scope bs (checked_gsi scope.takes_open g) each
    (rw (findings_start_after_gsi g size scope (concat bs)) at read))
