-- A receiver that drops rows has the same state as a receiver that does not receive these rows.
use Rattle.std.proofs.Common.{◌≡◌, ◌↔◌, ℕ, Bool, true, false, not, List, [], ◌∷◌, filter, inl, inr}
use Rattle.std.proofs.Common.{refl, arith}
use Rattle.std.proofs.lemmas.Bool.{cases_Bool}
use Rattle.std.proofs.lemmas.Bool.Decides.{nat_tests}
use Rattle.ttx_packet.specs.PageId.{PageIdValue}
use Rattle.ttx_page.specs.DroppedRows.{LawOfDropping}
use Rattle.ttx_page.specs.Receiver.{RunsBy, Step, StepBy, is_row_with_even_parity}
use Rattle.ttx_page.specs.Receiver.ReceiverClass.{Dropping}
use Rattle.ttx_page.specs.Screen.{Display, ShowsAt}

-- If dropped packets change nothing and each other packet has its usual effect, a list of packets
-- has the same effect as the list without the dropped packets.
module _
    {S : Type 0} (StepsBy PassesBy : S → List ℕ → S → Type 0) (dropped : List ℕ → Bool)
    (over : (old : S) (packet : List ℕ) (new : S)
    → dropped packet ≡ true
    → PassesBy old packet new ↔ (new ≡ old))
    (other : (old : S) (packet : List ℕ) (new : S)
    → dropped packet ≡ false
    → PassesBy old packet new ↔ StepsBy old packet new)
  where
    dropping_filters_packets : (packets : List (List ℕ)) (old new : S)
        → RunsBy PassesBy old packets new
        ↔ RunsBy StepsBy old (filter (λ packet. not (dropped packet)) packets) new
    dropping_filters_packets [] old new = (λ run. run, λ run. run)
    dropping_filters_packets (p ∷ ps) old new = elim (cases_Bool (dropped p)) [
      | inl drop ↦
          rw drop (
            λ run.
                let same : run.0 ≡ old = (over old p run.0 drop).0 run.1 in
                (dropping_filters_packets ps old new).0 (rw same at run.2),
            λ run. (old, (over old p old drop).1 refl, (dropping_filters_packets ps old new).1 run),
          )
      | inr hear ↦
          rw hear (
            λ run. (
              run.0,
              (other old p run.0 hear).0 run.1,
              (dropping_filters_packets ps run.0 new).0
                  run.2,
            ),
            λ run. (
              run.0,
              (other old p run.0 hear).1 run.1,
              (dropping_filters_packets ps run.0 new).1
                  run.2,
            ),
          )
    ]

dropped_packet_changes_nothing : (w : PageIdValue) (old : Display) (packet : List ℕ) (new : Display)
    → is_row_with_even_parity w packet ≡ true
    → StepBy Dropping w old.receiver_state packet new.receiver_state × ShowsAt w old packet new ↔
    (new ≡ old)
dropped_packet_changes_nothing w old packet new drop = grind (arith, nat_tests, cases_Bool)

pub law_of_dropping : LawOfDropping
law_of_dropping w packets = (
  dropping_filters_packets (Step w) (StepBy Dropping w) (is_row_with_even_parity w)
      (λ old packet new drop. rw drop (λ same. same, λ same. same))
      (λ old packet new hear. rw hear (λ step. step, λ step. step)) packets,
  dropping_filters_packets _ _ (is_row_with_even_parity w) (dropped_packet_changes_nothing w)
      (λ old packet new hear. rw hear (λ step. step, λ step. step)) packets,
)
