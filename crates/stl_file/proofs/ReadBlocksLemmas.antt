-- In the loop over the blocks of a file, the bytes read so far and the bytes after them determine
-- the results.
use Rattle.std.proofs.Common.{rules, ◌≡◌, ◌*◌, ℕ, false, true, List, [], ◌++◌, length, refl}
use Rattle.std.proofs.Common.{sym, ap, ◌∙◌}
use Rattle.std.proofs.Common.{append_assoc, arith, length-append, take, drop, Option, None, Result}
use Rattle.std.proofs.Common.{Ok, Err, suc, ◌+◌, ◌-◌, ◌<◌, ◌≤◌, ◌/◌, length-take}
use Rattle.std.proofs.lemmas.Bool.Decides.{nat_tests}
use Rattle.std.specs.Prelude.{is_ok}
use Rattle.std.specs.Io.KnownBytes.{Consumes}
use Rattle.std.proofs.lemmas.List.{append-nil, take_all, nil_from_length, drop_at}
use Rattle.std.proofs.KnownBytes.{Consumes-trans}
use Rattle.sub_io.specs.Device.{Fills}
use Rattle.stl_file.specs.declared.fault.StlFault.{StlFault}
use Rattle.stl_file.specs.declared.fault.StlFault.TheVariants as fault
use Rattle.stl_file.specs.declared.resuming.Found.{Found}
use Rattle.stl_file.specs.declared.resuming.Found.TheVariants as found
use Rattle.stl_file.specs.Tti.{max_blocks}
use Rattle.stl_file.specs.Reader.{FailsReading, LastIsUnskippedBlock, block_of_fault}
use Rattle.stl_file.specs.Subtitle.{SubtitleValue}
use Rattle.stl_file.specs.Reading.{StartedSubtitle, More, Yield, findings_after_block}
use Rattle.stl_file.specs.Reading.{findings_with_room}
use Rattle.stl_file.specs.Reading.{findings_from}
use Rattle.stl_file.specs.Reading.{skipped_after_first_block, tti_block_step}
use Rattle.stl_file.specs.declared.scope.Scope.{Scope}
use Rattle.stl_file.specs.Resuming.{LeadsToResult, findings_after_call, depends_on_end, found_of}
use Rattle.stl_file.specs.Fault.{is_cut, is_block_fault}
use Rattle.stl_file.proofs.StepLemmas.{yielding_block_is_subtitle_block}
use Rattle.stl_file.proofs.FindingsLemmas.{findings_take_the_front_block}
use Rattle.stl_file.proofs.FindingsLemmas.{findings_break_at_block_limit}
use Rattle.stl_file.proofs.FindingsLemmas.{findings_break_at_cut_block}
use Rattle.stl_file.proofs.FindingsLemmas.{findings_are_later}

-- The bytes read in the current call, after `from` blocks, are complete blocks up to number
-- `block`, and they determine the results, whatever bytes follow.
pub record HasRead
    (scope : Scope) (from : ℕ) (refused : Option StartedSubtitle) (old now : Option (List ℕ))
    (block : ℕ)
    (begun : Option StartedSubtitle)
    : Type 0 where
  pub bytes : List ℕ
  pub consumed : Consumes old now bytes
  pub size : 128 * from + length bytes ≡ 128 * block
  pub goes : (more : List ℕ)
      → findings_from scope from refused (bytes ++ more)
      ≡ findings_with_room scope (max_blocks - block) begun more

-- If the source fails within a block, every result from this call on has the number of this block
-- or a greater one, whatever bytes follow; only `Unfinished` may have the number of the block
-- before.
pub failed_source_fails_reading : (scope : Scope) (from block : ℕ)
    (refused : Option StartedSubtitle)
    (old mid new : Option (List ℕ)) (begun : Option StartedSubtitle) (bytes : List ℕ)
    → HasRead scope from refused old mid block begun
    → block ≤ max_blocks
    → length bytes < 128
    → Consumes mid new bytes
    → FailsReading scope from (block + 1) refused old new
failed_source_fails_reading scope from block refused old mid new begun bytes h few lt c = record {
  bytes = h.bytes ++ bytes;
  consumed = Consumes-trans old mid new h.bytes bytes h.consumed c;
  block = let s = h.size in omega (arith, length-append h.bytes bytes);
  none = λ more.
      rw (append_assoc h.bytes bytes more, h.goes (bytes ++ more))
      (findings_are_later scope (max_blocks - block) block begun (bytes ++ more) (omega arith));
}

module _ {scope : Scope} {from : ℕ} {refused : Option StartedSubtitle}
    {old mid new : Option (List ℕ)}
    {n block : ℕ} {begun : Option StartedSubtitle} {buffer : List ℕ}
    (h : HasRead scope from refused old mid block begun) (f : Fills mid n new buffer)
    (size : length buffer ≡ 128) (next : Option StartedSubtitle) (s : SubtitleValue) where
  prefix_has_its_length : length (take n buffer) ≡ n
  prefix_has_its_length = omega (arith, length-take n buffer)

  leads : (to : ℕ) (r : Result Found StlFault)
      → to ≡ block + (n + 127) / 128
      → (is_ok r ≡ true → 128 * block + n ≡ 128 * to)
      → (depends_on_end r ≡ false → 0 < n)
      → (depends_on_end r ≡ true → n < 128)
      → ((more : List ℕ)
      → (depends_on_end r ≡ true → more ≡ [])
      → findings_with_room scope (max_blocks - block) begun (take n buffer ++ more)
      ≡ findings_after_call scope to next more s r)
      → (r ≡ Ok found.Subtitle → LastIsUnskippedBlock (h.bytes ++ take n buffer))
      → LeadsToResult scope from to refused next old new s r
  leads to r at whole some cut gives kept =
      let both = Consumes-trans old mid new h.bytes (take n buffer) h.consumed f.bytes in
      let l = length-append h.bytes (take n buffer) in
      grind (arith, nat_tests, prefix_has_its_length, append_assoc)

  -- If no byte is left, the bytes read lead to the result: the end of the file, or `Unfinished`
  -- within a subtitle.
  pub file_end_leads_to_result : (r : Result Found StlFault)
      → n ≡ 0
      → block ≤ max_blocks
      → depends_on_end r ≡ true
      → (r ≡ Ok found.Subtitle → ⊥)
      → findings_with_room scope (max_blocks - block) begun [] ≡ findings_after_call scope block
      next [] s r
      → LeadsToResult scope from block refused next old new s r
  file_end_leads_to_result r z le cut never gives = grind (
    arith,
    nat_tests,
    nil_from_length,
    prefix_has_its_length,
    leads,
  )

  pub extra_byte_leads_to_fault : (n ≡ 0 → ⊥)
      → block ≡ max_blocks
      → LeadsToResult scope from (block + 1) refused next old new s (Err fault.TooManyBlocks)
  extra_byte_leads_to_fault some full =
      let positive : 0 < n = grind (arith, nat_tests) in
      search (rules, prefix_has_its_length, leads, findings_break_at_block_limit, length-append)

  pub cut_block_leads_to_fault : (n ≡ 0 → ⊥)
      → block < max_blocks
      → n < 128
      → LeadsToResult scope from (block + 1) refused next old new s (Err fault.Truncated)
  cut_block_leads_to_fault some few lt =
      let room : max_blocks - block ≡ suc (max_blocks - (block + 1)) = omega arith in
      grind (
        arith,
        nat_tests,
        prefix_has_its_length,
        leads,
        append-nil,
        findings_break_at_cut_block,
      )

  module _ (few : block < max_blocks) (long : 128 ≤ n) where
    findings_take_one_block : (more : List ℕ)
        → findings_with_room scope (max_blocks - block) begun (take n buffer ++ more)
        ≡ findings_after_block (max_blocks - (block + 1))
        (λ begun'. findings_with_room scope (max_blocks - (block + 1)) begun' more) buffer
        (tti_block_step scope begun buffer)
    findings_take_one_block more = rw (take_all n buffer (omega arith))
        (findings_take_the_front_block scope (max_blocks - block) (max_blocks - (block + 1)) begun
        buffer more
        (omega arith) size)

    number : max_blocks - (max_blocks - (block + 1)) ≡ block + 1
    number = omega arith

    pub rejected_block_leads_to_result : (x : StlFault)
        → is_block_fault x ≡ true
        → next ≡ skipped_after_first_block buffer
        → tti_block_step scope begun buffer ≡ Err x
        → LeadsToResult scope from (block_of_fault (block + 1) x) refused next old new s
        (found_of (Err x))
    rejected_block_leads_to_result x own is step =
        let same : block_of_fault (block + 1) x ≡ block + 1 = grind arith in
        let whole : is_cut x ≡ true → n < 128 = grind arith in
        rw same (leads (block + 1) (found_of (Err x)) (omega arith)
        (λ _. omega arith) (λ _. omega arith) (grind arith)
        (λ more _. findings_take_one_block more ∙ rw (step, number, is) (grind arith))
        (grind arith))

    pub yielding_block_leads_to_subtitle : next ≡ None
        → tti_block_step scope begun buffer ≡ Ok (Yield s)
        → LeadsToResult scope from (block + 1) refused next old new s (Ok found.Subtitle)
    yielding_block_leads_to_subtitle is step =
        leads (block + 1) (Ok found.Subtitle) (omega arith) (λ _. omega arith)
        (λ _. omega arith) (grind arith)
        (λ more _. findings_take_one_block more ∙ rw (step, is, number) refl)
        (λ _ prefix last e is.
        let l = length-append prefix last in
        let k = length-append h.bytes (take n buffer) in
        let a = ap length e in
        let m = prefix_has_its_length in
        let same = sym (drop_at h.bytes (take n buffer) (length prefix) (omega arith))
        ∙ ap (drop (length prefix)) e ∙ drop_at prefix last (length prefix) refl in
        rw (← take_all n buffer (omega arith), same) at (yielding_block_is_subtitle_block scope
        begun buffer s step))

    pub continuing_block_is_read : tti_block_step scope begun buffer ≡ Ok (More next)
        → HasRead scope from refused old new (block + 1) next
    continuing_block_is_read step =
        let both = Consumes-trans old mid new h.bytes (take n buffer) h.consumed f.bytes in
        let l = length-append h.bytes (take n buffer) in
        grind (arith, nat_tests, prefix_has_its_length, append_assoc, findings_take_one_block)
