-- The bytes of a PID that are received part by part are the bytes that its packets carry.
use Rattle.std.proofs.Common.{◌≡◌, ◌<◌, ℕ, Bool, true, false, List, [], ◌∷◌, ◌++◌, length}
use Rattle.std.proofs.Common.{refl, sym, ap, ◌∙◌, subst, arith, length-append}
use Rattle.std.proofs.lemmas.List.Folds.{concat-append}
use Rattle.std.specs.List.{concat}
use Rattle.mpeg_ts.specs.GoodPackets.{PidEvent, pid_events}
use Rattle.mpeg_ts.specs.Joining.{JoiningValue, after_pid_event, later_output, without_pending}
use Rattle.mpeg_ts.specs.Joining.{has_ended}
use Rattle.mpeg_ts.specs.Joining.{initial_joining}
use Rattle.mpeg_ts.specs.PacketsInStep.{items_of}
use Rattle.mpeg_ts.specs.Stream.{stream_output}
use Rattle.mpeg_ts.proofs.CarriedPacketLemmas.{stream_outputs_carried_bytes}
use Rattle.ttx_page.proofs.RunLemmas.{RunsBy-append}
use Rattle.ts_survey.specs.Following.{ReceivesEventOutput, PassesOnNextPart, LawOfReceivedData}
use Rattle.ts_survey.specs.Following.{ReceivesBytes}

-- If a receiver in the state `now` also receives the bytes `left`, it has received the bytes
-- `whole` since the state `old`.
abbrev pub CompletesReceivedBytes :
    {T : Type 0} → (T → List ℕ → T → Type 0) → T → List ℕ → T → List ℕ → Type 0
CompletesReceivedBytes {T} IsTaken old whole now left =
    (new : T) → ReceivesBytes IsTaken now left new → ReceivesBytes IsTaken old whole new

pub first-taken :
    {T : Type 0} (IsTaken : T → List ℕ → T → Type 0) (before after : JoiningValue)
    (old mid new : T)
    → PassesOnNextPart IsTaken before old after mid
    → ReceivesBytes IsTaken mid after.pending new
    → ReceivesBytes IsTaken old before.pending new
first-taken IsTaken before after old mid new first more = record {
  received_parts = first.next_part ∷ more.received_parts;
  joined = ap (λ l. first.next_part ++ l) more.joined ∙ sym first.joined;
  run = (mid, first.taken, more.run);
}

pub fewer_ready :
    {T : Type 0} (IsTaken : T → List ℕ → T → Type 0) (before after : JoiningValue) (old new : T)
    → PassesOnNextPart IsTaken before old after new
    → (before.pending ≡ [] → ⊥)
    → length after.pending < length before.pending
fewer_ready IsTaken before after old new first some =
    rest_is_shorter before.pending first.next_part after.pending first.joined
    (λ none. some (first.some none))
  where
    rest_is_shorter : (all pes_packet rest : List ℕ) → all ≡ pes_packet ++ rest →
        (pes_packet ≡ [] → ⊥)
        → length rest < length all
    rest_is_shorter all [] rest joined more = absurd (more refl)
    rest_is_shorter all (x ∷ pes_packet) rest joined more =
        let sum : length all ≡ length (x ∷ (pes_packet ++ rest)) = ap length joined in
        omega (arith, sum, length-append pes_packet rest)

taken-after :
    {T : Type 0} (IsTaken : T → List ℕ → T → Type 0) (old mid new : T) (first more : List ℕ)
    → ReceivesBytes IsTaken old first mid
    → ReceivesBytes IsTaken mid more new
    → ReceivesBytes IsTaken old (first ++ more) new
taken-after IsTaken old mid new first more one other = record {
  received_parts = one.received_parts ++ other.received_parts;
  joined = concat-append one.received_parts other.received_parts
      ∙ ap (λ l. l ++ concat other.received_parts) one.joined
      ∙ ap (λ l. first ++ l) other.joined;
  run = RunsBy-append IsTaken one.received_parts other.received_parts old mid new one.run other.run;
}

later_output-ended : (j : JoiningValue) (all : List PidEvent)
    → has_ended j.part ≡ true
    → later_output j all ≡ []
unfolding later_output
later_output-ended j [] ended = refl
later_output-ended j (note ∷ more) ended = rw ended refl

pub same-rest : (first before after : JoiningValue) (left : List ℕ)
    → before ≡ record first { pending = before.pending }
    → after ≡ record before { pending = left }
    → after ≡ record first { pending = after.pending }
same-rest first before after left same skipped_before =
    skipped_before
    ∙ ap (λ (j : JoiningValue). record j { pending = left }) same
    ∙ ap (λ (l : List ℕ). record first { pending = l })
    (sym (ap (λ (j : JoiningValue). j.pending) skipped_before))

follows-note :
    {T : Type 0} (IsTaken : T → List ℕ → T → Type 0) (j : JoiningValue) (note : PidEvent)
    (more : List PidEvent) (old new : T) (b : Bool)
    → has_ended j.part ≡ b
    → ReceivesEventOutput IsTaken j old (note ∷ more) new
    → (ReceivesEventOutput IsTaken j old more new → ReceivesBytes IsTaken old (later_output j more)
    new)
    → ((mid : T) → ReceivesEventOutput IsTaken (without_pending (after_pid_event j note)) mid more
    new
    → ReceivesBytes IsTaken mid (later_output (without_pending (after_pid_event j note)) more) new)
    → ReceivesBytes IsTaken old (later_output j (note ∷ more)) new
unfolding later_output
follows-note IsTaken j note more old new true ended is over going =
    let rest = over (rw ended at is) in
    let none = later_output-ended j (note ∷ more) ended in
    let same = later_output-ended j more ended ∙ sym none in
    subst (λ l. ReceivesBytes IsTaken old l new) same rest
follows-note IsTaken j note more old new false begun is over going =
    let here = rw begun at is in
    rw begun (taken-after IsTaken old here.0 new _ _ here.1 (going here.0 here.2))

-- By induction over the events of a PID, the receiver gets exactly the output of these events.
follows :
    {T : Type 0} (IsTaken : T → List ℕ → T → Type 0) (j : JoiningValue) (all : List PidEvent)
    (old new : T)
    → ReceivesEventOutput IsTaken j old all new
    → ReceivesBytes IsTaken old (later_output j all) new
unfolding later_output
follows IsTaken j [] old new is = record { received_parts = []; joined = refl; run = is }
follows IsTaken j (note ∷ more) old new is =
    follows-note IsTaken j note more old new (has_ended j.part) refl is
    (follows IsTaken j more old new)
    (λ mid. follows IsTaken (without_pending (after_pid_event j note)) more mid new)

pub law_of_received_data : {T : Type 0} (IsTaken : T → List ℕ → T → Type 0) → LawOfReceivedData
    IsTaken
unfolding stream_output
law_of_received_data IsTaken number distance recording old new is =
    subst (λ l. ReceivesBytes IsTaken old l new) (stream_outputs_carried_bytes number distance
    recording)
    (follows IsTaken initial_joining (pid_events distance number 0 (items_of distance recording))
    old new
    is)
