-- An empty set of rules has no events; otherwise the events begin with the event of the first rule
-- in the set.
use Rattle.std.proofs.Common.{◌≡◌, ℕ, suc, ◌+◌, ◌*◌, ◌/◌, ◌%◌, ◌<◌, Bool, true, false, ◌==◌}
use Rattle.std.proofs.Common.{List, [], ◌∷◌, ◌++◌, length, get_or, drop, map, refl, ◌∙◌, ap}
use Rattle.std.proofs.Common.{arith, cond, drop-cons}
use Rattle.std.specs.List.{filter}
use Rattle.std.proofs.lemmas.Bool.Decides.{nat_tests}
use Rattle.sub_packets.specs.Listener.{rule_set}
use Rattle.sub_rules.specs.declared.packet_rule.PacketRule.{PacketRule}

pub empty_rule_set_filters_nothing : (test : PacketRule → Bool) (rules : List PacketRule) → rule_set
    test rules ≡ 0
    → filter test rules ≡ []
unfolding rule_set
empty_rule_set_filters_nothing test [] e = refl
empty_rule_set_filters_nothing test (r ∷ rules) e = grind
    (arith, nat_tests, empty_rule_set_filters_nothing test rules)

-- A rule set is a number whose lowest bit is 1 exactly if the first rule is in the set. Half of
-- that number, rounded down, is the set of the other rules.
lowest_bit_and_quotient : (b : Bool) (n : ℕ)
    → (((cond b 1 0 + 2 * n) % 2 == 1) ≡ b) × ((cond b 1 0 + 2 * n) / 2 ≡ n)
lowest_bit_and_quotient true n = let bit : (1 + 2 * n) % 2 ≡ 1 = omega arith
    in (rw bit refl, omega arith)
lowest_bit_and_quotient false n = let bit : (0 + 2 * n) % 2 ≡ 0 = omega arith
    in (rw bit refl, omega arith)

module _ {A : Type 0} (report : PacketRule → A) (test : PacketRule → Bool) where
  filtered_reports_begin_with_first_rule : (r : PacketRule) (rules : List PacketRule)
      → map report (filter test (r ∷ rules))
      ≡ cond (test r) (report r ∷ []) [] ++ map report (filter test rules)
  filtered_reports_begin_with_first_rule r rules = grind (arith, nat_tests)

  pub next_bit_gives_next_report : (rules : List PacketRule) (i : ℕ) (d : PacketRule) (left : ℕ)
      (reported : A)
      → i < length rules
      → reported ≡ report (get_or rules i d)
      → left ≡ rule_set test (drop i rules)
      → (map report (filter test (drop i rules))
      ≡ cond (left % 2 == 1) (reported ∷ []) [] ++ map report (filter test (drop (i + 1) rules)))
      × (left / 2 ≡ rule_set test (drop (i + 1) rules))
  unfolding rule_set
  next_bit_gives_next_report rules i d left reported l is e =
      let r : PacketRule = get_or rules i d in
      let next : suc i ≡ i + 1 = omega arith in
      let rest : drop i rules ≡ r ∷ drop (i + 1) rules = drop-cons rules i d l ∙ rw next refl in
      let set : left ≡ cond (test r) 1 0 + 2 * rule_set test (drop (i + 1) rules) =
      e ∙ ap (rule_set test) rest in
      let bit = lowest_bit_and_quotient (test r) (rule_set test (drop (i + 1) rules)) in
      rw (rest, set, bit.0, bit.1, is)
      (filtered_reports_begin_with_first_rule r (drop (i + 1) rules), refl)
