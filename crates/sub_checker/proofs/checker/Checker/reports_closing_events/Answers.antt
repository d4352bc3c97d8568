use Rattle.std.proofs.lemmas.Bool.Decides.{nat_tests}
use Rattle.std.proofs.Common.{◌≡◌, ◌∙◌, ◌||◌, Bool, ap, arith, false, is_some, not, true}
use Rattle.sub_rules.specs.Trusted.{has_no_active_faults}
use Rattle.sub_checker.specs.Checker.{CheckerValue}
use Rattle.sub_checker.proofs.LastEventsLemmas.{closing_reports_if_fault_is_left}
use Rattle.sub_checker.proofs.checker.Checker.reports_closing_events.Goals as goal

first : (x l s n : Bool) → x ≡ l → x ≡ true → (l || s) ≡ n → x ≡ n
first x l s n is reported all = grind (arith, nat_tests)

other : (x l s t n : Bool) → x ≡ l → x ≡ false → t ≡ s → (l || not s) ≡ n → not t ≡ n
other x l s t n is fault_free same all = grind (arith, nat_tests)

pub returns-then-is_reported : goal.returns-then-is_reported
returns-then-is_reported c =
    first _ _ _ _ (c.is_some-is_reported.ensures ∙ ap is_some c.last_fault.ensures)
    c.if-is_reported.true
    (closing_reports_if_fault_is_left c.args.pes c.args.fault c.args.self.now)

pub returns-else-is_reported : goal.returns-else-is_reported
returns-else-is_reported c =
    other _ _ _ _ _ (c.is_some-is_reported.ensures ∙ ap is_some c.last_fault.ensures)
    c.if-is_reported.false
    (c.has_none.ensures.none ∙ ap (λ (v : CheckerValue). has_no_active_faults v.active_faults)
    c.self.view_is)
    (closing_reports_if_fault_is_left c.args.pes c.args.fault c.args.self.now)
