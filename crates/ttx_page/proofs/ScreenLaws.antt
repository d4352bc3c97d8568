-- After a header of the page, a page that is not open is on the screen.
use Rattle.std.proofs.Common.{◌≡◌, ℕ, Bool, false, List, [], ◌∷◌, Some, IsFalse, refl, arith}
use Rattle.std.proofs.lemmas.Bool.Decides.{nat_tests}
use Rattle.ttx_packet.specs.PageId.{PageIdValue}
use Rattle.ttx_page.specs.PacketKind.{kind}
use Rattle.ttx_page.specs.Receiver.{ReceiverClass}
use Rattle.ttx_page.specs.Span.{has_page_header}
use Rattle.ttx_page.specs.Repeats.{HearsRepeats, LawOfRepeatScreen, ShowsRepeats}
use Rattle.ttx_page.specs.Repeats.{StepWithRepeats}
use Rattle.ttx_page.specs.Screen.{Display, ShowsBy, LawOfScreen}
use Rattle.ttx_page.proofs.RepeatLaws.{step_is_repeat_step}
use Rattle.ttx_page.proofs.RunLemmas.{RunsBy-as}

abbrev ShowsClosedPage : Display → Type 0
ShowsClosedPage d = IsFalse d.receiver_state.is_open → d.screen ≡ Some d.receiver_state.page

-- If a header of the page is among the packets, or if a page that was not open before them was on
-- the screen, then a page that is not open after them is on the screen.
settles :
    (class : ReceiverClass) (anew : Bool) (w : PageIdValue) (packets : List (List ℕ))
    (old new : Display)
    → ShowsRepeats class anew w old packets new
    → (has_page_header (kind w) packets ≡ false → ShowsClosedPage old)
    → ShowsClosedPage new
settles class anew w [] old new run was = rw run (was refl)
settles class anew w (p ∷ ps) old new run was =
    settles class anew w ps run.0 new run.2 (λ none shut. grind (arith, nat_tests))

pub law_of_repeat_screen : LawOfRepeatScreen
law_of_repeat_screen class anew w packets old new run holds shut =
    grind (arith, nat_tests, settles)

pub shows_forgetting :
    (class : ReceiverClass) (w : PageIdValue) (packets : List (List ℕ)) (old new : Display)
    → ShowsBy class w old packets new
    → ShowsRepeats class false w old packets new
shows_forgetting class w packets old new run =
    RunsBy-as _ _ (λ (d : Display). d) packets old new
    (λ before packet after step.
    (step_is_repeat_step class w before.receiver_state packet after.receiver_state step.0, step.1))
    run

pub law_of_screen : LawOfScreen
law_of_screen class w packets old new run holds shut =
    law_of_repeat_screen class false w packets old new
    (shows_forgetting class w packets old new run) holds shut

pub held_forgetting :
    (class : ReceiverClass) (anew : Bool) (w : PageIdValue) (packets : List (List ℕ))
    (old new : Display)
    → ShowsRepeats class anew w old packets new
    → HearsRepeats class anew w old.receiver_state packets new.receiver_state
held_forgetting class anew w packets old new run =
    RunsBy-as _ (StepWithRepeats class anew w) (λ (d : Display). d.receiver_state) packets old new
    (λ before packet after step. step.0) run
