-- One wrong bit in each byte changes neither the address nor the page header of a packet sent as
-- code words.
use Rattle.std.proofs.Common.{◌≡◌, ℕ, inl, ◌==◌, cond, List, [], ◌∷◌, slice_index, Option, Some}
use Rattle.std.proofs.Common.{None, refl, arith, option_and_then}
use Rattle.std.proofs.lemmas.Bool.Decides.{nat_tests}
use Rattle.ttx_packet.specs.OneBit.{IsNear, AreNear}
use Rattle.ttx_packet.specs.Hamming84.{IsCodeWord}
use Rattle.ttx_packet.specs.PacketAddress.{decoded_at, address, PacketAddress, HasExactAddress}
use Rattle.ttx_packet.specs.PageHeader.{decoded_header, header, HasExactHeader, HasExactCodeWords}
use Rattle.ttx_packet.proofs.Hamming84Lemmas.{decoded_nibble-near}

pub near_packets_have_near_bytes : (sent got : List ℕ) (k : ℕ) → AreNear sent got
    → IsNear (slice_index sent k) (slice_index got k)
near_packets_have_near_bytes [] [] k near = inl refl
near_packets_have_near_bytes [] (g ∷ gs) k near = elim near [ ]
near_packets_have_near_bytes (c ∷ cs) got k near = grind
    (arith, nat_tests, near_packets_have_near_bytes cs)

decoded_at-near : (sent got : List ℕ) (k : ℕ) → AreNear sent got → IsCodeWord (slice_index sent k)
    → decoded_at got k ≡ decoded_at sent k
decoded_at-near sent got k near exact = decoded_nibble-near _ _ exact (near_packets_have_near_bytes
    sent got k near)

pub address-near : (sent got : List ℕ) → HasExactAddress sent → AreNear sent got
    → address got ≡ address sent
unfolding address
address-near sent got exact near = grind (arith, nat_tests, decoded_at-near)

decoded_header-near : (sent got : List ℕ) → HasExactHeader sent → AreNear sent got
    → decoded_header got ≡ decoded_header sent
unfolding decoded_header
decoded_header-near sent got exact near = grind (arith, nat_tests, decoded_at-near)

pub header-near : (sent got : List ℕ) → HasExactCodeWords sent → AreNear sent got
    → header got ≡ header sent
unfolding header
header-near sent got exact near = rw (address-near sent got exact.0 near) (go (address sent) refl)
  where
    go : (o : Option PacketAddress) → address sent ≡ o
        → option_and_then (λ a. cond (a.packet_number == 0) (decoded_header got) None) o ≡
        option_and_then (λ a. cond (a.packet_number == 0) (decoded_header sent) None) o
    go None p = refl
    go (Some a) p =
        let decoded =
        λ (z : a.packet_number ≡ 0). decoded_header-near sent got (exact.1 a p z) near in
        grind (arith, nat_tests)

pub ruleset near_laws = (address-near, header-near)
