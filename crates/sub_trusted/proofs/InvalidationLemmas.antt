-- If all trusted frames in a list of events have a property, they still have it after runs of
-- skipped PES packets are grouped.
use Rattle.std.proofs.lemmas.Bool.Decides.{nat_tests}
use Rattle.std.proofs.Common.{◌≡◌, ℕ, Bool, true, false, List, [], ◌∷◌, ◌++◌, All, Contains}
use Rattle.std.proofs.Common.{zero, suc, arith, cond}
use Rattle.std.proofs.lemmas.List.Elements.{All-append, All-cons, All-from_recursion, All-head}
use Rattle.std.proofs.lemmas.List.Elements.{All-nil, All-push, All-tail}
use Rattle.std.proofs.lemmas.List.Elements.{Contains-append_left, Contains-append_right}
use Rattle.std.proofs.lemmas.List.Elements.{Contains-push}
use Rattle.std.specs.List.{list_any}
use Rattle.std.specs.Prelude.{⊤}
use Rattle.sub_rules.specs.PesPacketEvents.{announced_events, announced, run_ending_events}
use Rattle.sub_rules.specs.PesPacketEvents.{continues_skipped_run}
use Rattle.sub_rules.specs.PesPacketEvents.{skipped_run_after}
use Rattle.sub_rules.specs.declared.event.Event.{Event}
use Rattle.sub_rules.specs.declared.event.Event.TheVariants.{Trusted}
use Rattle.sub_rules.proofs.AnyReportedLemmas.{has_other_pes_number}
use Rattle.sub_rules.proofs.PacketLists.{Each-map, Each-none}
use Rattle.sub_rules.specs.PesPacketEvents.{SkippedRun}

-- If the event reports trusted frames, the first and the last of them have the property P.
abbrev pub HoldsIfTrusted : (ℕ → ℕ → Type 0) → Event → Type 0
HoldsIfTrusted P (Trusted from to) = P from to
HoldsIfTrusted P e = ⊤

module _ (P : ℕ → ℕ → Type 0) where
  -- The first and the last trusted frame of each event that reports trusted frames have the
  -- property P.
  abbrev pub HoldsForEachTrusted : List Event → Type 0
  HoldsForEachTrusted es = All (HoldsIfTrusted P) es

  pub each-own : (pes : ℕ) (es : List Event) → list_any (has_other_pes_number pes) es ≡ false
      → HoldsForEachTrusted es
  each-own pes es own =
      All-from_recursion (HoldsIfTrusted P) es
      (Each-map (λ e. has_other_pes_number pes e ≡ false) (HoldsIfTrusted P) other es
      (Each-none (has_other_pes_number pes) es own))
    where
      other : (e : Event) → has_other_pes_number pes e ≡ false → HoldsIfTrusted P e
      other e own = grind (arith, nat_tests)

  pub each-ended : (run : SkippedRun) → HoldsForEachTrusted (run_ending_events run)
  each-ended run = grind (arith, nat_tests, All-nil, All-cons)

  pub each-announced : (run : SkippedRun) (es : List Event) → HoldsForEachTrusted es
      → HoldsForEachTrusted (announced_events run es)
  unfolding announced_events announced
  each-announced run [] p = p
  each-announced run (e ∷ es) p =
      All-append (HoldsIfTrusted P) (announced run e) _ (reported (continues_skipped_run run e))
      (each-announced (skipped_run_after run e) es (All-tail (HoldsIfTrusted P) e es p))
    where
      reported : (b : Bool) → HoldsForEachTrusted (cond b [] (run_ending_events run ++ e ∷ []))
      reported true = All-nil (HoldsIfTrusted P)
      reported false = grind (arith, nat_tests, All-push, each-ended, All-head)

pub each-weaker : (P Q : ℕ → ℕ → Type 0) (es : List Event)
    → ((from to : ℕ) → P from to → Q from to)
    → HoldsForEachTrusted P es
    → HoldsForEachTrusted Q es
each-weaker P Q es so = grind (arith, nat_tests)

pub contains-announced : (run : SkippedRun) (es : List Event) (from to : ℕ)
    → Contains es (Trusted from to) → Contains (announced_events run es) (Trusted from to)
unfolding announced_events announced continues_skipped_run
contains-announced run [] from to (k, l, e) = absurd (omega arith)
contains-announced run (x ∷ es) from to (zero, l, e) =
    Contains-append_left (announced run x) _ _
    (grind (arith, nat_tests, Contains-push (run_ending_events run) (Trusted from to)))
contains-announced run (x ∷ es) from to (suc k, l, e) =
    Contains-append_right (announced run x) _ _
    (contains-announced (skipped_run_after run x) es from to (k, omega arith, e))
