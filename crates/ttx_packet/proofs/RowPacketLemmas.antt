-- A search of the 40 data bytes for even parity gives the column of the first data byte with even
-- parity, and no column if all have odd parity.
use Rattle.std.proofs.Common.{◌≡◌, ℕ, ◌<◌, List, Option, Some, None, IsNone, ◌↔◌, true, false}
use Rattle.std.proofs.Common.{get_or, sym, refl, arith, drop}
use Rattle.std.proofs.lemmas.Bool.Decides.{nat_tests}
use Rattle.std.proofs.lemmas.List.{get_or-drop}
use Rattle.ttx_packet.specs.Lanes.{has_even_parity}
use Rattle.ttx_packet.specs.RowPacket.{text_byte, first_even_parity_column, HasOddParityText}
use Rattle.ttx_packet.proofs.BlockLemmas.{IsFirstMatch}
use Rattle.ttx_packet.proofs.OneBitLemmas.{first_below-at, first_below-none}

pub record IsFirstEvenByte (packet : List ℕ) (found : Option ℕ) : Type 0 where
  pub value : found ≡ first_even_parity_column packet
  pub odd : IsNone found ↔ HasOddParityText packet

text_starts_at_byte_2 : (packet : List ℕ) (k : ℕ) → get_or (drop 2 packet) k 0 ≡ text_byte packet k
text_starts_at_byte_2 packet k = grind (arith, nat_tests, get_or-drop)

pub first_even_parity_column-at : (packet : List ℕ) (column : ℕ)
    → column < 40
    → IsFirstMatch has_even_parity (drop 2 packet) column 0
    → IsFirstEvenByte packet (Some column)
unfolding first_even_parity_column
first_even_parity_column-at packet column small first =
    let here : has_even_parity (text_byte packet column) ≡ true = rw text_starts_at_byte_2 at
    first.passes in record {
      value = sym (first_below-at 40 (λ k. has_even_parity (text_byte packet k)) column small here
          (λ k l. rw text_starts_at_byte_2 at (first.before k l)));
      odd = (λ n. absurd cc, λ odd. let both = odd column small in grind (arith, nat_tests));
    }

pub first_even_parity_column-none : (packet : List ℕ)
    → ((k : ℕ) → k < 40 → has_even_parity (get_or (drop 2 packet) k 0) ≡ false)
    → IsFirstEvenByte packet None
unfolding first_even_parity_column
first_even_parity_column-none packet none = record {
  value = sym (first_below-none 40 (λ k. has_even_parity (text_byte packet k))
      (λ k l. rw text_starts_at_byte_2 at (none k l)));
  odd = (
    λ n k l. let odd = rw text_starts_at_byte_2 at (none k l) in grind (arith, nat_tests),
    λ all. refl,
  );
}
