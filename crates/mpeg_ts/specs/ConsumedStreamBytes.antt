-- How the consumed bytes of a source determine the output, whatever bytes follow.
use Rattle.std.specs.Prelude.{◌≡◌, ℕ, List, [], ◌++◌, Option, Some}
use Rattle.std.specs.Io.KnownBytes.{Consumes}
use Rattle.ttx_pes.specs.Reader.{FailsAfterValidPackets}
use Rattle.mpeg_ts.specs.CarriedPackets.{carried_bytes}
use Rattle.mpeg_ts.specs.Stream.{StreamValue, output_of, start_of_stream}

-- Bytes of a source were consumed. `old` and `new` map the remaining bytes of the source, before
-- and after that, to other bytes, such as the output still to be returned. Both results are equal,
-- whatever bytes follow.
pub data TakesPrefix : (List ℕ → List ℕ) → (List ℕ → List ℕ) → Option (List ℕ) → Option (List ℕ)
    → Type 0 where
  takes_bytes :
      (old new : List ℕ → List ℕ) (before after : Option (List ℕ)) (bytes : List ℕ)
      → Consumes before after bytes
      → ((more : List ℕ) → old (bytes ++ more) ≡ new more)
      → TakesPrefix old new before after

-- Bytes of a source were consumed, and `given` was returned. `given`, followed by the output still
-- to be returned afterwards, is the output that was to be returned before, whatever bytes follow.
pub record OutputsBetween (old new : StreamValue) (before after : Option (List ℕ)) : Type 0 where
  pub given : List ℕ
  pub takes : TakesPrefix (output_of old) (λ more. given ++ output_of new more) before after

-- ---- laws of consecutive calls

-- If `OutputsBetween` holds for each of two consecutive calls, it also holds for both together, as
-- for one call.
abbrev pub LawOfStreamCalls : Type 0
LawOfStreamCalls =
    (u v w : StreamValue) (before mid after : Option (List ℕ))
    → OutputsBetween u v before mid
    → OutputsBetween v w mid after
    → OutputsBetween u w before after

-- A recording was read up to some byte: its output is split there.
pub record SplitsOutput (number distance : ℕ) (v : StreamValue) (recording rest : List ℕ) :
    Type 0 where
  -- The consumed bytes of the recording.
  pub taken : List ℕ
  pub prefix : recording ≡ taken ++ rest
  -- The output for the recording is the output for the consumed bytes, followed by the output still
  -- to be returned.
  pub carries :
      carried_bytes number distance recording ≡ carried_bytes number distance taken ++ output_of v
      rest
  -- If a read fails within item number `index` of the output (counted from 0), and all items before
  -- it are valid PES packets, the consumed bytes carry these packets and no further complete one.
  pub place :
      (index : ℕ)
      → FailsAfterValidPackets index (Some (carried_bytes number distance recording))
      (Some (output_of v rest))
      → FailsAfterValidPackets index (Some (carried_bytes number distance taken)) (Some [])

-- If a recording was read from its start, and the consumed bytes give no more output, the output
-- for the recording is split at the byte where reading stopped.
abbrev pub LawOfFailedRead : Type 0
LawOfFailedRead =
    (number distance : ℕ) (v : StreamValue) (recording rest : List ℕ)
    → OutputsBetween (start_of_stream number distance) v (Some recording) (Some rest)
    → output_of v [] ≡ []
    → SplitsOutput number distance v recording rest
