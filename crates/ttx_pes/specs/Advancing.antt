-- How a reader reads one PES packet, and which bytes remain if only a limited number of PES packets
-- may be read.
use Rattle.std.specs.Borrow.{GName}
use Rattle.std.specs.Prelude.{◌≡◌, ℕ, zero, suc, ◌+◌, ◌-◌, ◌<◌, nat_lt, Bool, true, false, List, []}
use Rattle.std.specs.Prelude.{Option, Some, None, Result, Ok, Err, length, take, if◌then◌else◌}
use Rattle.std.specs.Prelude.{◌∷◌, ◌++◌, ◌≤◌, option_map}
use Rattle.std.specs.Io.KnownBytes.{Consumes, IsAtEnd, Keeps, prepend_known}
use Rattle.sub_io.specs.Reading.{AreBytes, IfKnown}
use Rattle.ttx_pes.specs.declared.fault.PesFault.{PesFault}
use Rattle.ttx_pes.specs.declared.fault.PesFault.TheVariants.{Truncated}
use Rattle.ttx_pes.specs.PesPacketRange.{rest_after_pes_packets, count_pes_packets, limited_bytes}
use Rattle.ttx_pes.specs.PesPackets.{IsPesPacket}
use Rattle.ttx_pes.specs.BorrowedPacket.{has_enough_for_packet}
use Rattle.ttx_pes.specs.Reader.{FailsWithinPacket, IsIncompletePesPacket}
use Rattle.ttx_pes.specs.Reading.{size_at}
use Rattle.ttx_pes.specs.declared.pes_packets.Received.{Received}
use Rattle.ttx_pes.specs.declared.pes_packets.Received.TheVariants.{End, PesPacket, Rest}

-- ---- reading one PES packet

-- The fault of `count` bytes as a PES packet, for the size in their first six bytes: `Truncated`,
-- or a fault of these six bytes. `None` if the packet is complete.
abbrev pub fault_of_size : ℕ → Result ℕ PesFault → Option PesFault
fault_of_size count (Ok size) = if nat_lt count size then Some Truncated else None
fault_of_size count (Err f) = Some f

-- The fault because of which the bytes do not begin with a PES packet; `None` if they do.
unfoldable pub rest_fault : List ℕ → Option PesFault
rest_fault b =
    if nat_lt (length b) 6 then Some Truncated else fault_of_size (length b) (size_at (take 6 b))

-- The bytes read so far, at least one, do not begin with a PES packet, because of this fault,
-- whatever bytes can follow.
pub record IsRestWithFault (following : Option (List ℕ)) (bytes : List ℕ) (f : PesFault) : Type 0
  where
    pub some : 0 < length bytes
    pub all :
        (more : List ℕ) → (IsAtEnd following → more ≡ []) → rest_fault (bytes ++ more) ≡ Some f

-- The remaining bytes do not begin with a PES packet, because of this fault, as the bytes read so
-- far show.
pub record IsReportedRest (old following : Option (List ℕ)) (f : PesFault) : Type 0 where
  pub bytes : List ℕ
  pub consumed : Consumes old following bytes
  pub shows : IsRestWithFault following bytes f

-- Exactly one PES packet was consumed, and the taker processed it.
pub record TakesPesPacketWith
    {T A : Type 0} (is_take : T → List ℕ → A → T → Type 0) (old new : Option (List ℕ))
    (before : T) (answer : A) (after : T)
    : Type 0 where
  pub bytes : List ℕ
  pub is_pes_packet : IsPesPacket bytes
  pub fit : AreBytes bytes
  pub consumed : Consumes old new bytes
  pub takes : is_take before bytes answer after

-- The effect of a call of `next`. `old` and `new` are the remaining bytes of the reader before and
-- after the call, and `following` is its `left` afterwards. A PES packet is consumed completely,
-- and the taker processes it. Otherwise nothing is consumed; the bytes that were read before a
-- failure are too few for a PES packet.
abbrev pub Advances : {T A E : Type 0}
    → Option (List ℕ) → Option (List ℕ) → Option (List ℕ)
    → (T → List ℕ → A → T → Type 0) → T → T → Result (Received A) E → Type 0
Advances old new following is_take before after (Ok End) =
    Keeps old new × (following ≡ new) × IsAtEnd new × (after ≡ before)
Advances old new following is_take before after (Ok (PesPacket answer)) =
    TakesPesPacketWith is_take old new before answer after × (following ≡ new)
Advances old new following is_take before after (Ok (Rest f)) =
    Keeps old new × IsReportedRest old following f × (after ≡ before)
Advances old new following is_take before after (Err e) =
    Keeps old new × FailsWithinPacket old following × (after ≡ before)

-- The result is `Rest`: the remaining bytes do not begin with a PES packet.
abbrev pub faulty_rest_is_answer : {A E : Type 0} → Result (Received A) E → Bool
faulty_rest_is_answer (Ok (Rest f)) = true
faulty_rest_is_answer _ = false

-- The default of `ready`: the next call may use the device.
abbrev pub is_never_ready : {P : Type 0} → P → Bool
is_never_ready pes_packets = false

-- The default of `device`: the reader borrows no device.
abbrev pub no_borrowed_devices : {P : Type 0} → P → List GName
no_borrowed_devices pes_packets = []

-- ---- reading PES packets from a source

-- The buffered bytes, followed by the bytes of the source; `None` if these are unknown.
abbrev pub buffered_before_known : List ℕ → Option (List ℕ) → Option (List ℕ)
buffered_before_known [] known_bytes = known_bytes
buffered_before_known (x ∷ buffered) known_bytes = prepend_known (x ∷ buffered) known_bytes

-- The next call of `next` does not call the source's device: the reader's buffer is empty, and the
-- source has buffered the complete packet, or at least six bytes with a wrong start code or length.
abbrev pub has_borrowed_pes_packet : List ℕ → List ℕ → Bool
has_borrowed_pes_packet [] borrowed = has_enough_for_packet borrowed
has_borrowed_pes_packet (x ∷ buffered) borrowed = false

-- The bytes read for one PES packet agree with the result: no byte was read and the source has
-- ended, the bytes are a complete packet or have a fault, or the read failed before the packet was
-- complete.
abbrev pub AreReadForPacket : {E : Type 0} → Option (List ℕ) → List ℕ → Result (Received (Unit {0}))
    E → Type
    0
AreReadForPacket new bytes (Ok End) = (bytes ≡ []) × IsAtEnd new
AreReadForPacket new bytes (Ok (PesPacket answer)) =
    (6 ≤ length bytes) × (size_at (take 6 bytes) ≡ Ok (length bytes))
AreReadForPacket new bytes (Ok (Rest f)) = IsRestWithFault new bytes f
AreReadForPacket new bytes (Err e) = IsIncompletePesPacket bytes

-- The bytes read from the source for one PES packet agree with the result.
pub record ReadsTowardPesPacket
    {E : Type 0} (old new : Option (List ℕ)) (bytes : List ℕ) (result : Result (Received (Unit {0}))
    E)
    : Type 0 where
  pub consumed : Consumes old new bytes
  pub are_read : AreReadForPacket new bytes result

-- ---- skipping PES packets

-- If the bytes are known, k of the first n PES packets were skipped: skipping n - k more from here
-- has the same effect as skipping n from the start.
abbrev pub HasSkipped : ℕ → ℕ → Option (List ℕ) → Option (List ℕ) → Type 0
HasSkipped n k old new =
    IfKnown old (λ bytes. (rest : List ℕ)
    × (new ≡ Some rest)
    × (rest_after_pes_packets n bytes ≡ rest_after_pes_packets (n - k) rest)
    × (count_pes_packets n bytes ≡ k + count_pes_packets (n - k) rest))

-- If the bytes are known, the first n PES packets were skipped, or all if the file has fewer, and
-- `skipped` is their number.
abbrev pub SkipsPesPackets : ℕ → Option (List ℕ) → Option (List ℕ) → ℕ → Type 0
SkipsPesPackets n old new skipped =
    IfKnown old (λ bytes. (new ≡ Some (rest_after_pes_packets n bytes)) ×
    (skipped ≡ count_pes_packets n bytes))

-- ---- a limited number of PES packets

-- The limit is 0: no more PES packets may be read.
abbrev pub is_finished : Option ℕ → Bool
is_finished None = false
is_finished (Some zero) = true
is_finished (Some (suc n)) = false

-- The limit after one PES packet was read.
abbrev pub decremented_limit : Option ℕ → Option ℕ
decremented_limit None = None
decremented_limit (Some zero) = Some zero
decremented_limit (Some (suc n)) = Some n

-- The number of PES packets that may still be read after this result. `None` means no limit.
abbrev pub limit_after : {A : Type 0} → Option ℕ → Received A → Option ℕ
limit_after left End = left
limit_after left (PesPacket answer) = decremented_limit left
limit_after left (Rest f) = None

-- The bytes of the next PES packets up to the limit, or all bytes if fewer packets remain or there
-- is no limit.
abbrev pub limited_known_bytes : Option ℕ → Option (List ℕ) → Option (List ℕ)
limited_known_bytes None known_bytes = known_bytes
limited_known_bytes (Some n) known_bytes = option_map (limited_bytes (Some n)) known_bytes

-- `read_rest` may be called: the inner reader allows it (`rest`), and there is no limit. A limit
-- ends when the reader returns `Rest`.
abbrev pub is_unlimited_rest : Option ℕ → Bool → Bool
is_unlimited_rest None rest = rest
is_unlimited_rest (Some n) rest = false

-- `left` of a reader with a limit: the remaining bytes of the inner reader (`known`) up to the
-- limit, buffered bytes included. If there is no limit, it is `left` of the inner reader
-- (`following`).
abbrev pub left_within_limit : Option ℕ → Option (List ℕ) → Option (List ℕ) → Option (List ℕ)
left_within_limit None known following = following
left_within_limit (Some n) known following = option_map (limited_bytes (Some n)) known
