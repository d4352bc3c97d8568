-- The receiver that `listen` simulates takes each packet as `StepWithRepeats` requires. If the
-- receiver does not restart the page at each header, it also follows `Step`. If the option
-- `asks_complete` is set, its screen follows `ShowsAt`.
use Rattle.std.proofs.lemmas.Bool.Decides.{nat_tests}
use Rattle.std.proofs.Common.{◌≡◌, ◌∙◌, ℕ, Bool, true, false, List, [], ◌∷◌, ap, arith}
use Rattle.ttx_packet.specs.PageId.{PageIdValue}
use Rattle.ttx_page.specs.Receiver.{RunsBy, Step}
use Rattle.ttx_page.specs.Receiver.ReceiverClass.{Storing}
use Rattle.ttx_page.specs.Repeats.{StepWithRepeats}
use Rattle.ttx_page.specs.Screen.{Display, ShowsAt}
use Rattle.ttx_page.proofs.NoiseStepLemmas.{cell-blank}
use Rattle.ttx_page.proofs.RunLemmas.{RunsBy-as}
use Rattle.sub_listen.specs.Reception.{LawOfListening, TakesPacket, restarts_at_header}

module _ (asks_complete anew : Bool) (leaves : ℕ → ℕ) (w : PageIdValue) where
  steps :
      anew ≡ false
      → (old : Display) (packet : List ℕ) (new : Display)
      → TakesPacket asks_complete anew leaves w old packet new
      → Step w old.receiver_state packet new.receiver_state
  steps keeps old packet new takes = let step = takes.step in grind (arith, nat_tests)

  forgets :
      (old : Display) (packet : List ℕ) (new : Display)
      → TakesPacket asks_complete anew leaves w old packet new
      → StepWithRepeats Storing anew w old.receiver_state packet new.receiver_state
  forgets old packet new takes =
      let step = takes.step in grind (arith, nat_tests, cell-blank)

  shows_at :
      asks_complete ≡ true
      → (old : Display) (packet : List ℕ) (new : Display)
      → TakesPacket asks_complete anew leaves w old packet new
      → ShowsAt w old packet new
  shows_at asks old packet new takes =
      let step = takes.step in
      let screen = takes.screen in
      record {
        ended = grind (arith, nat_tests);
        again = grind (arith, nat_tests);
        stays = grind (arith, nat_tests);
      }

  stays :
      asks_complete ≡ false
      → (packets : List (List ℕ)) (old new : Display)
      → RunsBy (TakesPacket asks_complete anew leaves w) old packets new
      → new.screen ≡ old.screen
  stays without [] old new run = ap (λ (d : Display). d.screen) run
  stays without (p ∷ ps) old new (mid, takes, rest) =
      stays without ps mid new rest ∙ (let screen = takes.screen in grind (arith, nat_tests))

pub law_of_listening : LawOfListening
law_of_listening l leaves w packets old new run =
    let asks_complete = l.options.asks_complete in
    let anew = restarts_at_header l.receiver in (
      RunsBy-as _ (StepWithRepeats Storing anew w) (λ (d : Display). d.receiver_state) packets old
          new
          (forgets asks_complete anew leaves w) run,
      λ keeps.
          RunsBy-as _ (Step w) (λ (d : Display). d.receiver_state) packets old new
          (steps asks_complete anew leaves w keeps) run,
      λ asks. (
        RunsBy-as _ _ (λ (d : Display). d) packets old new
            (λ before packet after takes. (
              forgets asks_complete anew leaves w before packet after takes,
              shows_at asks_complete anew leaves w asks before packet after takes,
            )) run,
        λ keeps.
            RunsBy-as _ _ (λ (d : Display). d) packets old new
            (λ before packet after takes. (
              steps asks_complete anew leaves w keeps before packet after takes,
              shows_at asks_complete anew leaves w asks before packet after takes,
            )) run,
      ),
      λ without. stays asks_complete anew leaves w without packets old new run,
    )
