-- The effect of the option `--flip` of `listen` on Teletext packets.
use Rattle.std.specs.Prelude.{◌≡◌, ℕ, List, Some}
use Rattle.ttx_packet.specs.OneBit.{AreNear}
use Rattle.sub_request.specs.Flips.{with_flips}
use Rattle.sub_request.specs.declared.listening.Flip.{Flip}
use Rattle.sub_words.specs.Texts.{flips_of_text}

-- The flips that a text of `--flip` describes leave at most one wrong bit in each byte of each
-- packet. So the Hamming 8/4 code corrects, and odd parity detects, each of these errors.
abbrev pub LawOfFlips : Type 0
LawOfFlips =
    (text : List ℕ) (flips : List Flip) (number : ℕ) (packet : List ℕ)
    → flips_of_text text ≡ Some flips
    → AreNear packet (with_flips flips number packet)
