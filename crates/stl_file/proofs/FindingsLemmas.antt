-- The bytes of the next blocks determine the results of reading them.
use Rattle.std.proofs.Common.{◌≡◌, ◌*◌, ℕ, List, [], ◌∷◌, ◌++◌, length, refl, arith}
use Rattle.std.proofs.Common.{length-append, length-take, take, drop, Option, Some, None, Result}
use Rattle.std.proofs.Common.{zero, suc, ◌+◌, ◌-◌, ◌<◌, ◌≤◌, inl, inr}
use Rattle.std.proofs.lemmas.List.{take_all, take-take, drop-take, take_at, drop_at}
use Rattle.std.proofs.lemmas.Bool.{cases_lt, le-ltb}
use Rattle.std.proofs.lemmas.Bool.Decides.{nat_tests}
use Rattle.stl_file.specs.declared.fault.StlFault.{StlFault}
use Rattle.stl_file.specs.declared.fault.StlFault.TheVariants as fault
use Rattle.stl_file.specs.Tti.{max_blocks}
use Rattle.stl_file.specs.Reader.{FindsFrom}
use Rattle.stl_file.specs.Reading.{StartedSubtitle, BlockStep, Findings, breaks}
use Rattle.stl_file.specs.Reading.{findings_after_block}
use Rattle.stl_file.specs.Reading.{findings_with_room}
use Rattle.stl_file.specs.Reading.{finds, no_more, refuses, tti_block_step}
use Rattle.stl_file.specs.declared.scope.Scope.{Scope}

abbrev pub findings_at_file_end : ℕ → Option StartedSubtitle → Findings
findings_at_file_end room None = no_more
findings_at_file_end room (Some begun) = breaks fault.Unfinished (max_blocks - room)

module _ (scope : Scope) where
  pub empty_bytes_end_the_findings : (room : ℕ) (begun : Option StartedSubtitle)
      → findings_with_room scope room begun [] ≡ findings_at_file_end room begun
  unfolding findings_with_room
  empty_bytes_end_the_findings room begun = grind arith

  pub findings_break_at_block_limit : (begun : Option StartedSubtitle) (b : List ℕ)
      → 0 < length b
      → findings_with_room scope 0 begun b ≡ breaks fault.TooManyBlocks (max_blocks + 1)
  unfolding findings_with_room
  findings_break_at_block_limit begun b h = grind arith

  pub findings_break_at_cut_block : (room : ℕ) (begun : Option StartedSubtitle) (b : List ℕ)
      → 0 < length b
      → length b < 128
      → findings_with_room scope (suc room) begun b ≡ breaks fault.Truncated (max_blocks - room)
  unfolding findings_with_room
  findings_break_at_cut_block room begun b h lt = grind (arith, nat_tests)

  pub findings_take_a_block : (room : ℕ) (begun : Option StartedSubtitle) (b : List ℕ)
      → 128 ≤ length b
      → findings_with_room scope (suc room) begun b
      ≡ findings_after_block room (λ next. findings_with_room scope room next (drop 128 b))
      (take 128 b)
      (tti_block_step scope begun (take 128 b))
  unfolding findings_with_room
  findings_take_a_block room begun [] le = absurd (let no : 128 ≤ 0 = le in omega arith)
  findings_take_a_block room None (x ∷ b) le = rw (le-ltb _ _ le) refl
  findings_take_a_block room (Some o) (x ∷ b) le = rw (le-ltb _ _ le) refl

  pub findings_take_the_front_block : (room next : ℕ) (begun : Option StartedSubtitle)
      (b rest : List ℕ)
      → room ≡ suc next
      → length b ≡ 128
      → findings_with_room scope room begun (b ++ rest)
      ≡ findings_after_block next (λ begun'. findings_with_room scope next begun' rest) b
      (tti_block_step scope begun b)
  findings_take_the_front_block room next begun b rest e size =
      rw (e, findings_take_a_block next begun (b ++ rest) (omega (arith, length-append b rest)))
      (rw (take_at b rest 128 size, drop_at b rest 128 size) refl)

-- The results depend only on the permitted blocks and the first byte after them, at which reading
-- stops at the latest.
pub findings_with_room-first : (scope : Scope) (room : ℕ) (begun : Option StartedSubtitle)
    (b : List ℕ)
    → findings_with_room scope room begun (take (128 * room + 1) b) ≡ findings_with_room scope room
    begun b
findings_with_room-first scope zero begun b = grind
    (arith, nat_tests, findings_break_at_block_limit)
findings_with_room-first scope (suc room) begun b = elim (cases_lt (length b) 128) [
  | inl short ↦ rw (take_all (128 * suc room + 1) b (omega arith)) refl
  | inr long ↦
      let k : ℕ = 128 * room + 1 in
      let m : 128 * suc room + 1 ≡ 128 + k = omega arith in
      let size : 128 ≤ length (take (128 + k) b) = omega (arith, length-take (128 + k) b) in
      rw (
        m,
        findings_take_a_block scope room begun (take (128 + k) b) size,
        findings_take_a_block scope room begun b long,
      ) (rw (take-take 128 (128 + k) b (omega arith), drop-take 128 k b)
      (simp (findings_with_room-first scope room)))
]

finds-before : (block : ℕ) (o : Findings) → FindsFrom (block + 1) o → FindsFrom block o
finds-before block no_more h = tt
finds-before block (breaks f at) h = grind arith
finds-before block (finds s at o) h = (grind arith, finds-before block o h.1)
finds-before block (refuses f at o) h = (grind arith, finds-before block o h.1)

finds-after : (room block : ℕ) (next : Option StartedSubtitle → Findings) (b : List ℕ)
    (r : Result BlockStep StlFault)
    → block ≤ max_blocks - room
    → ((begun : Option StartedSubtitle) → FindsFrom (block + 1) (next begun))
    → FindsFrom block (findings_after_block room next b r)
finds-after room block next b r le n = grind (arith, finds-before)

-- After `block` blocks were read, all results have a greater block number, except that `Unfinished`
-- may have the number `block`.
pub findings_are_later : (scope : Scope) (room block : ℕ) (begun : Option StartedSubtitle)
    (b : List ℕ)
    → block + room ≡ max_blocks
    → FindsFrom (block + 1) (findings_with_room scope room begun b)
findings_are_later scope room block begun [] e = rw empty_bytes_end_the_findings (grind arith)
findings_are_later scope zero block begun (x ∷ b) e =
    rw (findings_break_at_block_limit scope begun (x ∷ b) (omega arith)) (omega arith)
findings_are_later scope (suc room) block begun (x ∷ b) e = elim (cases_lt (length (x ∷ b)) 128) [
  | inl cut ↦ rw (findings_break_at_cut_block scope room begun (x ∷ b) (omega arith) cut)
      (omega arith)
  | inr long ↦ rw (findings_take_a_block scope room begun (x ∷ b) long)
      (finds-after room (block + 1) _ (take 128 (x ∷ b)) _ (omega arith)
      (λ next. findings_are_later scope room (block + 1) next _ (omega arith)))
]
