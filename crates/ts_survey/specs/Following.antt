-- The receiver of a PID gets the data in the PID's packets in parts; the joined parts are all of
-- that data.
use Rattle.std.specs.Prelude.{◌≡◌, ℕ, List, [], ◌∷◌, ◌++◌, MatchBool}
use Rattle.std.specs.List.{concat}
use Rattle.mpeg_ts.specs.CarriedPackets.{carried_bytes}
use Rattle.mpeg_ts.specs.GoodPackets.{PidEvent, pid_events}
use Rattle.mpeg_ts.specs.Joining.{JoiningValue, after_pid_event, without_pending, has_ended}
use Rattle.mpeg_ts.specs.Joining.{initial_joining}
use Rattle.mpeg_ts.specs.PacketsInStep.{items_of}
use Rattle.ttx_page.specs.Receiver.{RunsBy}

-- The contract of a receiver with `accepts_any_state` does not restrict its state.
abbrev pub accepts_any_state : {T : Type 0} → T → List ℕ → T → Type 0
accepts_any_state old pes_packet new = Unit {0}

-- A receiver received these bytes in parts.
pub record ReceivesBytes
    {T : Type 0} (IsTaken : T → List ℕ → T → Type 0) (old : T) (bytes : List ℕ) (new : T)
    : Type 0 where
  pub received_parts : List (List ℕ)
  pub joined : concat received_parts ≡ bytes
  pub run : RunsBy IsTaken old received_parts new

-- A receiver got the next part of the bytes that are ready, or no bytes if none are ready.
pub record PassesOnNextPart
    {T : Type 0} (IsTaken : T → List ℕ → T → Type 0) (before : JoiningValue) (old : T)
    (after : JoiningValue) (new : T)
    : Type 0 where
  pub next_part : List ℕ
  pub joined : before.pending ≡ next_part ++ after.pending
  pub same : after ≡ record before { pending = after.pending }
  pub some : next_part ≡ [] → before.pending ≡ []
  pub taken : IsTaken old next_part new

-- The events of a PID are processed one after another: after each event, the receiver gets all data
-- that the event completes. Once the data has ended (`has_ended`), events have no effect.
abbrev pub ReceivesEventOutput :
    {T : Type 0} → (T → List ℕ → T → Type 0) → JoiningValue → T → List PidEvent → T → Type 0
ReceivesEventOutput IsTaken j old [] new = new ≡ old
ReceivesEventOutput {T} IsTaken j old (note ∷ more) new =
    MatchBool (has_ended j.part)
    (ReceivesEventOutput IsTaken j old more new)
    ((mid : T) × ReceivesBytes IsTaken old (after_pid_event j note).pending mid
    × ReceivesEventOutput IsTaken (without_pending (after_pid_event j note)) mid more new)

-- The data received from the transport packets of a PID is the data that they carry in the
-- recording.
abbrev pub LawOfReceivedData : {T : Type 0} → (T → List ℕ → T → Type 0) → Type 0
LawOfReceivedData {T} IsTaken =
    (number distance : ℕ) (recording : List ℕ) (old new : T)
    → ReceivesEventOutput IsTaken initial_joining old
    (pid_events distance number 0 (items_of distance recording)) new
    → ReceivesBytes IsTaken old (carried_bytes number distance recording) new
