-- The first match of a search in a list of events shows whether some requirements hold: there is no
-- match exactly if all of them hold.
use Rattle.std.proofs.lemmas.Bool.Decides.{nat_tests}
use Rattle.std.proofs.Common.{◌≡◌, ℕ, zero, suc, ◌<◌, Bool, true, List, [], ◌∷◌, ◌++◌, map, filter}
use Rattle.std.proofs.Common.{Option, Some, None, refl, arith, flat_map, get_or}
use Rattle.std.specs.List.{AllByRecursion}
use Rattle.std.specs.Option.{option_or}
use Rattle.std.proofs.lemmas.Bool.{cases_lt}
use Rattle.std.proofs.lemmas.List.Elements.{recursion_from_All}
use Rattle.sub_rules.specs.Events.{place_of_broken_rule, end_events, end_rules, packet_fault}
use Rattle.sub_rules.specs.Events.{rule_events, broken_rule_events}
use Rattle.sub_rules.specs.PacketTests.{breaks, broken_rules, packet_rules}
use Rattle.sub_rules.specs.declared.end_rule.EndRule.{EndRule}
use Rattle.sub_rules.specs.declared.event.Event.{Event}
use Rattle.sub_rules.specs.declared.event.Event.TheVariants.{Reported}
use Rattle.sub_rules.specs.declared.packet_rule.PacketRule.{PacketRule}
use Rattle.sub_rules.specs.declared.packet_rule.Watched.{Watched}
use Rattle.sub_rules.specs.declared.active_faults.ActiveFaults.{ActiveFaults}
use Rattle.sub_rules.proofs.EndRuleLemmas.{holds_for_each_end_rule}

module _ {X : Type 0} where
  -- The first value that the search `lookup` finds in the events of a list; `None` if it finds
  -- none.
  abbrev pub first_match : (Event → Option X) → List Event → Option X
  first_match lookup [] = None
  first_match lookup (e ∷ es) = option_or (lookup e) (first_match lookup es)

  pub found-append : (lookup : Event → Option X) (xs ys : List Event)
      → first_match lookup (xs ++ ys) ≡ option_or (first_match lookup xs) (first_match lookup ys)
  found-append lookup [] ys = refl
  found-append lookup (x ∷ xs) ys = let rest = found-append lookup xs ys in grind arith

  -- The first match has the property `At`. If there is no match, `Holds` is true; and if `Given` is
  -- true, there is no match.
  pub record MatchDecides (lookup : Event → Option X) (At : X → Type 0) (Given Holds : Type 0)
      (es : List Event) : Type 0 where
    pub at : (x : X) → first_match lookup es ≡ Some x → At x
    pub fault_free : first_match lookup es ≡ None → Holds
    pub calm : Given → first_match lookup es ≡ None

module _ {X : Type 0} {lookup : Event → Option X} {At : X → Type 0} where
  pub MatchDecides-none : {A B : Type 0} → B → MatchDecides lookup At A B []
  MatchDecides-none b = record { at = λ x e. cc; fault_free = λ e. b; calm = λ h. refl }

  -- Suppose that the first list has no match if A is true, and only if B is true; that the second
  -- list, if B is true, has no match if C is true, and only if D is true; and that C implies A.
  -- Then the joined list has no match if C is true, and only if D is true. Each first match has the
  -- property `At`.
  pub MatchDecides-append : {A B C D : Type 0} {xs ys : List Event} → MatchDecides lookup At A B xs
      → (B → MatchDecides lookup At C D ys) → (C → A) → MatchDecides lookup At C D (xs ++ ys)
  MatchDecides-append {xs = xs} {ys = ys} one next back =
      let both = found-append lookup xs ys in grind (arith, nat_tests)

  pub MatchDecides-like : {A B C D : Type 0} {xs : List Event} → (C → A) → (B → D)
      → MatchDecides lookup At A B xs → MatchDecides lookup At C D xs
  MatchDecides-like from to h = grind (arith, nat_tests)

  -- Suppose that each list `one n` shows by its first match whether P n is true, given P below n.
  -- Then the first m lists joined show whether P is true for all numbers below m.
  pub matches_of_earlier_parts_decide : (so_far one : ℕ → List Event) (P : ℕ → Type 0) (m : ℕ)
      → so_far 0 ≡ []
      → ((n : ℕ) → so_far (suc n) ≡ so_far n ++ one n)
      → ((n : ℕ) → n < m → ((j : ℕ) → j < n → P j) → MatchDecides lookup At (P n) (P n) (one n))
      → MatchDecides lookup At ((j : ℕ) → j < m → P j) ((j : ℕ) → j < m → P j) (so_far m)
  matches_of_earlier_parts_decide so_far one P zero none more each =
      rw none (MatchDecides-none (λ j l. absurd (omega arith)))
  matches_of_earlier_parts_decide so_far one P (suc m) none more each =
      rw (more m)
      (MatchDecides-append (matches_of_earlier_parts_decide so_far one P m none more
      (λ n l. each n (omega arith)))
      (λ before. MatchDecides-like (λ all. all m (omega arith))
      (λ here j l. grind (arith, nat_tests, cases_lt)) (each m (omega arith) before))
      (λ all j l. all j (omega arith)))

pub holds_for_each_packet_rule : (P : PacketRule → Type 0) → AllByRecursion P packet_rules →
    (r : PacketRule) → P r
unfolding packet_rules
holds_for_each_packet_rule P h r = grind arith

packet_rules_all_hold : (P : PacketRule → Type 0) → ((r : PacketRule) → P r) → AllByRecursion P
    packet_rules
packet_rules_all_hold P all = recursion_from_All P packet_rules
    (λ k d l. all (get_or packet_rules k d))

module _ {X : Type 0} (lookup : Event → Option X) (At : X → Type 0) (frame k : ℕ)
    (at : (r : PacketRule) (x : X) → lookup (Reported (packet_fault r frame k)) ≡ Some x → At x)
  where
    -- No rule in the list that passes the test has a fault that the search finds.
    abbrev NoRuleMatches : (PacketRule → Bool) → List PacketRule → Type 0
    NoRuleMatches test rs =
        AllByRecursion (λ r. test r ≡ true → lookup (Reported (packet_fault r frame k)) ≡ None) rs

    broken_rules_decide_match : (test : PacketRule → Bool) (rs : List PacketRule)
        → MatchDecides lookup At (NoRuleMatches test rs) (NoRuleMatches test rs)
        (map (λ (r : PacketRule). Reported (packet_fault r frame k)) (filter test rs))
    broken_rules_decide_match test [] = MatchDecides-none tt
    broken_rules_decide_match test (r ∷ rs) =
        let found = at r in let rest = broken_rules_decide_match test rs in grind (arith, nat_tests)

    pub packet_events_decide_match : (w : Watched) (before : List (List ℕ)) (p : List ℕ)
        → MatchDecides lookup At
        ((r : PacketRule) → breaks r w before p ≡ true
        → lookup (Reported (packet_fault r frame k)) ≡ None)
        ((r : PacketRule) → breaks r w before p ≡ true
        → lookup (Reported (packet_fault r frame k)) ≡ None)
        (broken_rule_events w frame k before p)
    unfolding broken_rule_events broken_rules
    packet_events_decide_match w before p =
        MatchDecides-like (packet_rules_all_hold _) (holds_for_each_packet_rule _)
        (broken_rules_decide_match (λ r. breaks r w before p) packet_rules)

module _ {X : Type 0} {lookup : Event → Option X} {At : X → Type 0} {Given Holds : EndRule → Type 0}
  where
    pub end_events_decide_match : (old : ActiveFaults) (before : ℕ) (new : ActiveFaults) (f : ℕ)
        → ((rule : EndRule)
        → MatchDecides lookup At (Given rule) (Holds rule)
        (rule_events rule (place_of_broken_rule rule old) before (place_of_broken_rule rule new) f))
        → MatchDecides lookup At ((rule : EndRule) → Given rule) ((rule : EndRule) → Holds rule)
        (end_events old before new f)
    unfolding end_events
    end_events_decide_match old before new f each =
        MatchDecides-like
        (λ given. recursion_from_All Given end_rules (λ k d l. given (get_or end_rules k d)))
        (holds_for_each_end_rule Holds) (go end_rules)
      where
        go : (rules : List EndRule)
            → MatchDecides lookup At (AllByRecursion Given rules) (AllByRecursion Holds rules)
            (flat_map (λ rule. rule_events rule (place_of_broken_rule rule old) before
            (place_of_broken_rule rule new) f)
            rules)
        go [] = MatchDecides-none tt
        go (rule ∷ rules) =
            MatchDecides-append (each rule)
            (λ one. MatchDecides-like (λ given. given.1) (λ others. (one, others)) (go rules))
            (λ given. given.0)
