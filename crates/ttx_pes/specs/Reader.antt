-- The bytes that a reader of PES packets consumes, its results, and its progress.
use Rattle.std.specs.Prelude.{◌≡◌, ◌≢◌, ◌↔◌, ℕ, ◌+◌, ◌<◌, ◌≤◌, ◌⊎◌, Bool, true, false, Option}
use Rattle.std.specs.Prelude.{Some, None, Result, Ok, Err, IfOk, IfErr, IfSome, OnOk, List, ◌++◌}
use Rattle.std.specs.Prelude.{length, take}
use Rattle.std.specs.Io.KnownBytes.{Consumes}
use Rattle.std.specs.List.{AllByRecursion, concat}
use Rattle.sub_io.specs.Device.{failed}
use Rattle.sub_io.specs.Reading.{IfKnown}
use Rattle.ttx_pes.specs.declared.fault.PesFault.{PesFault}
use Rattle.ttx_pes.specs.declared.fault.PesFault.TheVariants.{Ended, TooMany, Write}
use Rattle.ttx_pes.specs.declared.progress.Progress.{Progress}
use Rattle.ttx_pes.specs.declared.progress.Progress.TheVariants.{Reading, AtEnd, Broken}
use Rattle.ttx_pes.specs.Fault.{is_read_fault}
use Rattle.ttx_pes.specs.PesGrammar.{PesValue, IsValidPesPacket}
use Rattle.ttx_pes.specs.Reading.{answer_at, is_format_fault, max_pes_packets, packet_at}
use Rattle.ttx_pes.specs.Reading.{rest_after}
use Rattle.ttx_pes.specs.Reading.{size_at}

-- After a fault, a reader's progress is `Broken`. After a packet in the progress `Reading`, the
-- number of packets that were read is one higher. After any other result, the progress is `AtEnd`.
abbrev pub progress_after : Progress → Result (Option PesValue) PesFault → Progress
progress_after p (Err _) = Broken
progress_after (Reading given) (Ok (Some _)) = Reading (given + 1)
progress_after p (Ok _) = AtEnd

-- The reader has read at most `most` PES packets, or has reached the end or reported a fault.
abbrev pub HasReadAtMost : ℕ → Progress → Type 0
HasReadAtMost most (Reading given) = given ≤ most
HasReadAtMost most AtEnd = Unit {0}
HasReadAtMost most Broken = Unit {0}

-- The result of `next_into`, with its frame, as a result of `next`.
abbrev pub frame_answer : Result Bool PesFault → PesValue → Result (Option PesValue) PesFault
frame_answer (Ok true) v = Ok (Some v)
frame_answer (Ok false) v = Ok None
frame_answer (Err f) v = Err f

-- Exactly one valid PES packet with the value v was consumed.
pub record TakesValidPesPacket (old new : Option (List ℕ)) (v : PesValue) : Type 0 where
  pub bytes : List ℕ
  pub is_packet : IsValidPesPacket v bytes
  pub consumed : Consumes old new bytes

-- The bytes are too few for a PES packet: they are fewer than six bytes, whatever these are, or
-- fewer than the packet size in their first six bytes, which are correct.
abbrev pub IsIncompletePesPacket : List ℕ → Type 0
IsIncompletePesPacket bytes =
    (length bytes < 6)
    ⊎ ((size : ℕ) × (size_at (take 6 bytes) ≡ Ok size) × (length bytes < size))

-- The consumed bytes are too few for a PES packet. Contracts state this if the source failed; the
-- failure itself is not part of this definition.
pub record FailsWithinPacket (old new : Option (List ℕ)) : Type 0 where
  pub bytes : List ℕ
  pub consumed : Consumes old new bytes
  pub begun : IsIncompletePesPacket bytes

-- The consumed bytes, without those that follow, are rejected for the format fault f.
pub record ConsumesRefusedBytes (old new : Option (List ℕ)) (f : PesFault) : Type 0 where
  pub bytes : List ℕ
  pub consumed : Consumes old new bytes
  pub refused : packet_at bytes ≡ Err f

-- The meaning of a reader's results. `before` is the reader's progress before the call; `old` and
-- `new` are the remaining bytes of its source before and after the call, if they are known.
pub record ReportsPacket
    (before : Progress)
    (old new : Option (List ℕ))
    (answer : Result (Option PesValue) PesFault)
    : Type 0 where
  -- If the reader returns a value, exactly a PES packet with this value was consumed.
  pub packet : IfOk answer (λ given. IfSome given (TakesValidPesPacket old new))
  -- Before the end and any fault, if the bytes of the source are known and it does not fail, they
  -- determine the result and, unless it is a fault, the remaining bytes.
  pub exact :
      (given : ℕ)
      → before ≡ Reading given
      → IfKnown old (λ bytes. failed is_read_fault answer ≡ false → answer_at given bytes ≡ answer)
  pub left :
      (given : ℕ)
      → before ≡ Reading given
      → IfKnown old (λ bytes. OnOk answer (new ≡ Some (rest_after bytes)))
  -- After a format fault, the consumed bytes have that fault, if the bytes of the source are known.
  pub refused : IfErr answer (λ fault. is_format_fault fault ≡ true → ConsumesRefusedBytes old new
      fault)
  pub packet_limit_refuses_packet : IfErr answer (λ fault. fault ≡ TooMany → before ≡ Reading
      max_pes_packets)
  -- If the source fails, the consumed bytes are too few for a PES packet.
  pub within : failed is_read_fault answer ≡ true → FailsWithinPacket old new
  pub returns_none_at_end : before ≡ AtEnd → answer ≡ Ok None
  pub ended : (before ≡ Broken) ↔ (answer ≡ Err Ended)
  -- A reader writes nothing, so no sink can fail.
  pub is_no_write_fault : IfErr answer (λ fault. fault ≢ Write)

-- Exactly n valid PES packets were consumed.
pub record TakesValidPesPackets (n : ℕ) (old new : Option (List ℕ)) : Type 0 where
  pub packets : List (List ℕ)
  pub number : length packets ≡ n
  pub each : AllByRecursion (λ b. (v : PesValue) × IsValidPesPacket v b) packets
  pub consumed : Consumes old new (concat packets)

-- Exactly n valid PES packets were consumed, and then too few bytes for a PES packet. Contracts
-- state this if the source failed; the failure itself is not part of this definition.
pub record FailsAfterValidPackets (n : ℕ) (old new : Option (List ℕ)) : Type 0 where
  pub following : Option (List ℕ)
  pub before : TakesValidPesPackets n old following
  pub within : FailsWithinPacket following new

-- The bytes do not begin with a valid PES packet.
abbrev pub StartsWithoutValidPacket : List ℕ → Type 0
StartsWithoutValidPacket bytes =
    (v : PesValue) (b rest : List ℕ) → IsValidPesPacket v b → bytes ≡ b ++ rest → ⊥
