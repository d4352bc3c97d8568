-- Reversing the bits of a byte twice gives the byte back.
use Rattle.std.proofs.Common.{◌≡◌, ℕ, ◌<◌, List, length, map, slice_index, arith, sym, ◌∙◌}
use Rattle.std.proofs.Common.{eqb-true}
use Rattle.std.proofs.lemmas.Bool.Decides.{nat_tests}
use Rattle.std.specs.Int.{reverse_bits_onto}
use Rattle.std.proofs.lemmas.Bool.{agree_below_at}
use Rattle.std.proofs.lemmas.List.{get_or-map, length-map, ext_get_or}
use Rattle.ttx_packet.specs.BitOrder.{mirror}

-- The function of std that reverses bits agrees with `mirror`, checked for all 256 bytes.
pub mirror_is_reversal : (b : ℕ) → b < 0x100 → reverse_bits_onto 8 b 0 ≡ mirror b
unfolding reverse_bits_onto mirror
mirror_is_reversal b l = grind (arith, nat_tests, eqb-true, agree_below_at)

-- Reversing the bits of a byte twice gives the same byte, checked for all 256 bytes.
pub mirror-mirror : (b : ℕ) → b < 0x100 → mirror (mirror b) ≡ b
unfolding mirror
mirror-mirror b l = grind (arith, nat_tests, eqb-true, agree_below_at)

pub map-from_places : (f : ℕ → ℕ) (xs ys : List ℕ) (n : ℕ)
    → length xs ≡ n
    → length ys ≡ n
    → ((k : ℕ) → k < n → slice_index ys k ≡ f (slice_index xs k))
    → ys ≡ map f xs
map-from_places f xs ys n lx ly at =
    ext_get_or 0 ys (map f xs) (ly ∙ sym lx ∙ sym (length-map xs f)) (λ k l.
    let in_xs : k < length xs = omega (arith, lx, ly) in
    at k (omega (arith, ly)) ∙ sym (get_or-map f xs k 0 0 in_xs))
