-- Teletext packets with bits that are received wrong. Packets are numbered from 0.
use Rattle.std.specs.Prelude.{ℕ, ◌-◌, ◌^◌, ◌==◌, Bool, ◌&&◌, List, [], ◌∷◌, bit_xor, nat_le}
use Rattle.std.specs.Prelude.{slice_index, slice_set, if◌then◌else◌}
use Rattle.sub_request.specs.declared.listening.Flip.{Flip}

-- The flip f is a valid bit of the packet with this number: byte 0 to 41, bit 1 to 8.
abbrev pub is_flip_of : Flip → ℕ → Bool
is_flip_of f number =
    (f.packet == number) && nat_le f.byte 41 && nat_le 1 f.bit && nat_le f.bit 8

-- The packet with one bit flipped if the flip f belongs to it. Bit 1 is the lowest of its byte.
abbrev pub with_flip : Flip → ℕ → List ℕ → List ℕ
with_flip f number packet =
    if is_flip_of f number
    then slice_set packet f.byte (bit_xor (slice_index packet f.byte) (2 ^ (f.bit - 1)))
    else packet

-- The packet as it is received, after `with_flip` for each flip, in order.
abbrev pub with_flips : List Flip → ℕ → List ℕ → List ℕ
with_flips [] number packet = packet
with_flips (f ∷ flips) number packet = with_flips flips number (with_flip f number packet)
