-- At the end of a frame, no fault is active if and only if none of the rules that are checked there
-- is broken.
use Rattle.std.proofs.lemmas.Bool.Decides.{nat_tests}
use Rattle.std.proofs.Common.{◌≡◌, ℕ, Bool, true, false, List, [], ◌∷◌, Option, Some, None}
use Rattle.std.proofs.Common.{is_some, not, refl, ◌∙◌, ap, arith, flat_map}
use Rattle.std.proofs.lemmas.List.Folds.{list_any-append}
use Rattle.std.specs.List.{AllByRecursion, list_any}
use Rattle.sub_rules.specs.Events.{place_of_broken_rule, end_events, end_rule_fault, end_rules}
use Rattle.sub_rules.specs.Events.{no_active_faults, rule_events}
use Rattle.sub_rules.specs.Trusted.{has_no_active_faults}
use Rattle.sub_rules.specs.declared.end_rule.EndRule.{EndRule}
use Rattle.sub_rules.specs.declared.event.Event.{Event}
use Rattle.sub_rules.specs.declared.event.Event.TheVariants.{Ended, Reported}
use Rattle.sub_rules.specs.declared.active_faults.ActiveFaults.{ActiveFaults}

pub holds_for_each_end_rule : (P : EndRule → Type 0) → AllByRecursion P end_rules → (rule : EndRule)
    → P rule
unfolding end_rules
holds_for_each_end_rule P h rule = grind arith

pub no_active_faults_break_no_rule : (rule : EndRule) → place_of_broken_rule rule no_active_faults ≡
    None
no_active_faults_break_no_rule rule = grind arith

pub unbroken_rules_leave_no_faults : (s : ActiveFaults) → ((rule : EndRule) → place_of_broken_rule
    rule s ≡ None)
    → has_no_active_faults s ≡ true
unbroken_rules_leave_no_faults s none = ap not (go end_rules)
  where
    go : (rules : List EndRule) → list_any (λ rule. is_some (place_of_broken_rule rule s)) rules ≡
        false
    go [] = refl
    go (rule ∷ rules) = rw (none rule) (go rules)

pub no_active_faults_is_unique : (s : ActiveFaults) → has_no_active_faults s ≡ true → s ≡
    no_active_faults
unfolding end_rules
no_active_faults_is_unique s e = grind (arith, nat_tests)

pub no_active_faults_leave_rule_unbroken : (s : ActiveFaults) → has_no_active_faults s ≡ true →
    (rule : EndRule) →
    place_of_broken_rule rule
    s ≡ None
no_active_faults_leave_rule_unbroken s e rule = ap (place_of_broken_rule rule)
    (no_active_faults_is_unique s e) ∙ no_active_faults_break_no_rule rule

first_rule_events_ignore_previous_frame : (rule : EndRule) (a b : ℕ) (o : Option (ℕ × ℕ)) (f : ℕ)
    → rule_events rule None a o f ≡ rule_events rule None b o f
first_rule_events_ignore_previous_frame rule a b None f = refl
first_rule_events_ignore_previous_frame rule a b (Some cell) f = refl

pub first_end_events_ignore_previous_frame : (a b : ℕ) (new : ActiveFaults) (f : ℕ)
    → end_events no_active_faults a new f ≡ end_events no_active_faults b new f
unfolding end_events
first_end_events_ignore_previous_frame a b new f = grind
    (arith, nat_tests, no_active_faults_break_no_rule, first_rule_events_ignore_previous_frame)

module _ (test : Event → Bool)
    (reported : (rule : EndRule) (f : ℕ) (cell : ℕ × ℕ) → test
    (Reported (end_rule_fault rule f cell)) ≡
    false)
    (ended : (rule : EndRule) (f : ℕ) → test (Ended rule f) ≡ false) where
  rule_events_fail_test : (rule : EndRule) (before f : ℕ) (old new : Option (ℕ × ℕ))
      → list_any test (rule_events rule old before new f) ≡ false
  rule_events_fail_test rule before f old new = grind (arith, nat_tests)

  all_rule_events_fail_test : (old : ActiveFaults) (before : ℕ) (new : ActiveFaults) (f : ℕ)
      (rules : List EndRule)
      → list_any test
      (flat_map (λ rule. rule_events rule (place_of_broken_rule rule old) before
      (place_of_broken_rule rule new) f) rules)
      ≡ false
  all_rule_events_fail_test old before new f [] = refl
  all_rule_events_fail_test old before new f (rule ∷ rules) =
      let here = rule_events_fail_test rule before f (place_of_broken_rule rule old)
      (place_of_broken_rule rule new) in
      let rest = all_rule_events_fail_test old before new f rules in
      let both =
      list_any-append test (rule_events rule (place_of_broken_rule rule old) before
      (place_of_broken_rule rule new) f)
      (flat_map (λ r. rule_events r (place_of_broken_rule r old) before (place_of_broken_rule r new)
      f) rules) in
      grind (arith, nat_tests)

  pub end_events_fail_test : (old : ActiveFaults) (before : ℕ) (new : ActiveFaults) (f : ℕ)
      → list_any test (end_events old before new f) ≡ false
  unfolding end_events
  end_events_fail_test old before new f = all_rule_events_fail_test old before new f end_rules
