-- Definitions of when the next PES packet is completely buffered in a source, and of flushing
-- pending reports before a read that may block.
use Rattle.std.specs.Prelude.{◌≡◌, ◌⊎◌, ◌&&◌, ℕ, nat_le, Bool, true, false, List, length, take}
use Rattle.std.specs.Prelude.{Result, Ok, Err}
use Rattle.ttx_pes.specs.Reading.{size_at}
use Rattle.ttx_pes.specs.declared.fault.PesFault.{PesFault}

-- `count` bytes suffice to read a PES packet of this size, or the size is invalid.
abbrev pub is_enough_for_size : ℕ → Result ℕ PesFault → Bool
is_enough_for_size count (Ok size) = nat_le size count
is_enough_for_size count (Err f) = true

-- The bytes suffice to read the PES packet at their front: they contain the complete packet, or six
-- bytes with a wrong start code or length.
unfoldable pub has_enough_for_packet : List ℕ → Bool
has_enough_for_packet bytes = nat_le 6 (length bytes) && is_enough_for_size (length bytes)
    (size_at (take 6 bytes))

-- No report is pending while the next PES packet is read, unless reading it uses no device.
abbrev pub NothingIsPendingUnlessReady : Bool → Bool → Type 0
NothingIsPendingUnlessReady has_pending_reports ready = (has_pending_reports ≡ false)
    ⊎ (ready ≡ true)
