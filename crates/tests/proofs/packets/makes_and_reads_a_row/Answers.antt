use Rattle.std.proofs.Common.{ℕ, ◌<◌, true, replicate, slice_index, nat_lt, refl}
use Rattle.std.proofs.Common.{subst, sym, inl, inr, arith}
use Rattle.std.proofs.lemmas.List.{get_or_past}
use Rattle.std.proofs.lemmas.Bool.{agree_below_at, cases_lt, ltb-true}
use Rattle.tests.proofs.packets.makes_and_reads_a_row.Goals as goal

-- Each of the 40 codes is below 128.
letters : (k : ℕ) → k < 40 → slice_index (replicate 40 0x41) k < 0x80
letters k l =
    ltb-true _ _
    (agree_below_at (λ k. nat_lt (slice_index (replicate 40 0x41) k) 0x80) (λ k. true) 40 k
    refl l)

pub of_row-packet-requires-clause-codes : goal.of_row-packet-requires-clause-codes
of_row-packet-requires-clause-codes r c k =
    elim (cases_lt k 40) [
      | inl within ↦ letters k within
      | inr past ↦ subst (λ (n : ℕ). n < 0x80) (sym (get_or_past (replicate 40 0x41) k 0 past))
          (omega arith)
    ]
