-- The reports of two lists of steps, one after another, are those of the first list, followed by
-- those of the second list, whose history then includes the first list.
use Rattle.std.proofs.lemmas.Bool.Decides.{nat_tests}
use Rattle.std.proofs.Common.{◌≡◌, ◌&&◌, List, [], ◌∷◌, ◌++◌, refl, sym, ap, ◌∙◌, append_assoc}
use Rattle.std.proofs.Common.{arith}
use Rattle.sub_rules.specs.declared.event.Event.{Event}
use Rattle.sub_rules.specs.Trusted.{CheckStep, reports_no_event, events_reported_after}
use Rattle.sub_rules.specs.Trusted.{events_reported_at_step}

pub reports_no_event-two : (xs ys : List Event) → reports_no_event (xs ++ ys) ≡
    (reports_no_event xs && reports_no_event ys)
reports_no_event-two xs ys = grind (arith, nat_tests)

unfoldable pub history_after : List CheckStep → List CheckStep → List CheckStep
history_after past [] = past
history_after past (m ∷ ms) = history_after (m ∷ past) ms

pub history_after-append : (t xs ys : List CheckStep)
    → history_after t (xs ++ ys) ≡ history_after (history_after t xs) ys
unfolding history_after
history_after-append t [] ys = refl
history_after-append t (x ∷ xs) ys = history_after-append (x ∷ t) xs ys

pub events_reported_after-append : (t xs ys : List CheckStep)
    → events_reported_after t (xs ++ ys) ≡ events_reported_after t xs ++ events_reported_after
    (history_after t xs) ys
unfolding events_reported_after history_after
events_reported_after-append t [] ys = refl
events_reported_after-append t (x ∷ xs) ys =
    ap (λ (l : List Event). events_reported_at_step t x ++ l) (events_reported_after-append (x ∷ t)
    xs ys)
    ∙ sym (append_assoc (events_reported_at_step t x) _ _)
