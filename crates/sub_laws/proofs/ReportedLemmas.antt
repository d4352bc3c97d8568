-- If `within` is 0, each broken rule of a transmission is reported at its place. A changed row is
-- reported if neither the earlier packets nor its own packet have other faults. If all packets have
-- 42 bytes and no fault is reported, the transmission has no events.
use Rattle.std.proofs.lemmas.Bool.Decides.{nat_tests}
use Rattle.std.proofs.Common.{◌≡◌, ◌<◌, List, [], ◌∷◌, length, Option, None, refl, ◌↔◌, sym}
use Rattle.std.proofs.Common.{subst, arith, false, IsFalse, IsTrue, map}
use Rattle.std.proofs.lemmas.Option.{none-some, same_Some}
use Rattle.ttx_packet.specs.PacketAddress.{IsPacket}
use Rattle.stl_rows.specs.Programme.{ProgrammeValue}
use Rattle.sub_plan.specs.Options.{OptionsValue}
use Rattle.sub_rules.specs.Events.{first_header_events, first_reported_fault, order_events}
use Rattle.sub_rules.specs.FrameRules.{Criteria, UnreadReason, criteria_of}
use Rattle.sub_rules.specs.Good.{Good}
use Rattle.sub_rules.specs.PesPacketEvents.{all_events_of_pes_packets}
use Rattle.sub_rules.specs.PesPackets.PesPacket.{Sent}
use Rattle.sub_rules.specs.Transmission.{EachPacket, Transmission}
use Rattle.sub_rules.specs.declared.event.Event.{Event}
use Rattle.sub_rules.specs.declared.event.Event.TheVariants.{Reported}
use Rattle.sub_rules.specs.declared.fault.CheckFault.{CheckFault}
use Rattle.sub_rules.proofs.FrameEvents.{events}
use Rattle.sub_laws.specs.BrokenPlaces.{ReportsBrokenPlaces}
use Rattle.sub_laws.specs.OnScreen.{Complete}
use Rattle.sub_laws.proofs.WithoutDelayLemmas.{Complete-from_holds, Good-from_holds}
use Rattle.sub_laws.proofs.WithoutDelayLemmas.{holds-from_good}
use Rattle.sub_laws.proofs.WithoutDelayLemmas.{no_delay_leaves_nothing_pending}
use Rattle.sub_laws.proofs.BrokenRuleLemmas.{failed_test_refutes_property, rule_test_is_exact}
use Rattle.sub_laws.proofs.EventLemmas.{HasFirstFault, all_faults_are_reported, reported_none}
use Rattle.sub_laws.proofs.FrameByFrame.{MeetsRequirements}
use Rattle.sub_laws.proofs.PrefixLemmas.{indexed_packet_holds, indexed_packets_hold_for_each}
use Rattle.sub_laws.proofs.ActiveFaultsLemmas.{active_faults_are_exact}

abbrev Any : CheckFault → Type 0
Any f = Unit {0}

pub no_fault_means_no_broken_place : (g : Criteria) (frames : Transmission) → g.within ≡ 0
    → (IsFalse g.any_unreliable
    → EachPacket IsPacket frames
    → first_reported_fault (all_events_of_pes_packets g (map Sent frames)) ≡ None
    → all_events_of_pes_packets g (map Sent frames) ≡ [])
    → ReportsBrokenPlaces g frames
unfolding order_events first_header_events
no_fault_means_no_broken_place g frames at_once refused = record {
  start = grind (arith, nat_tests, same_Some);
  order = λ i. grind (arith, nat_tests);
  rules = λ r before p comparable. failed_test_refutes_property _ (rule_test_is_exact g.watched
      before p r comparable);
  header = grind (arith, nat_tests);
  ends = λ n f l. active_faults_are_exact g frames n f at_once l;
  late = let none = no_delay_leaves_nothing_pending g frames at_once in grind
      (arith, nat_tests, same_Some);
  first = refused;
}

pub no_event_means_requirements_met : (g : Criteria) (frames : Transmission) → EachPacket IsPacket
    frames
    → (events g frames ≡ []) ↔ MeetsRequirements g frames
no_event_means_requirements_met g frames whole =
    reported_none (events g frames)
    (all_faults_are_reported g frames Any (λ f e. tt) (λ u e. tt) (λ n f x a b. tt) whole)

pub no_fault_leaves_no_event : (g : Criteria) (frames : Transmission) → EachPacket IsPacket frames
    → first_reported_fault (events g frames) ≡ None
    → events g frames ≡ []
no_fault_leaves_no_event g frames whole none =
    go (events g frames)
    (all_faults_are_reported g frames Any (λ f e. tt) (λ u e. tt) (λ n f x a b. tt) whole) none
  where
    go : (xs : List Event) → HasFirstFault Any (MeetsRequirements g frames) xs →
        first_reported_fault xs ≡ None
        → xs ≡ []
    go [] reported e = refl
    go (x ∷ xs) reported e =
        let (f, is, any) = reported.at x refl in
        let some : first_reported_fault (Reported f ∷ xs) ≡ None = rw is at e in
        absurd (none-some f (sym some))

pub packets_have_42_bytes : (frames : Transmission) → EachPacket IsPacket frames
    → EachPacket (λ packet. length packet ≡ 42) frames
packets_have_42_bytes frames whole = grind (
  arith,
  nat_tests,
  indexed_packets_hold_for_each,
  indexed_packet_holds,
)

pub none_reported : (programme : ProgrammeValue) (options : OptionsValue)
    (unread : Option UnreadReason)
    (frames : Transmission)
    → options.keeps ≡ false
    → options.within ≡ 0
    → 0 < options.every
    → EachPacket IsPacket frames
    → (events (criteria_of programme options unread) frames ≡ [])
    ↔ (Good programme frames options
    × (IsTrue options.asks_complete → Complete frames options)
    × (unread ≡ None))
none_reported programme options unread frames none at_once some whole =
    let reported = no_event_means_requirements_met (criteria_of programme options unread) frames
    whole in (
      λ fault_free.
          let h = reported.0 fault_free in (
            Good-from_holds programme options unread frames some h at_once none
                (packets_have_42_bytes frames whole),
            Complete-from_holds programme options unread frames some h at_once,
            h.unread,
          ),
      λ good.
          reported.1
          (subst (λ o. MeetsRequirements (criteria_of programme options o) frames) (sym good.2)
          (holds-from_good programme options frames at_once none good.0 good.1)),
    )
