-- If each header must have C4 (erase page) set and no delay is allowed, the guarantees hold for
-- trusted frames, whatever is on air before and after them. The law for repeats gives guarantees
-- without these two conditions.
use Rattle.std.proofs.lemmas.Bool.Decides.{nat_tests}
use Rattle.std.proofs.Common.{◌≡◌, ◌==◌, ℕ, ◌+◌, ◌<◌, ◌≤◌, inl, inr, Bool, true, false, List}
use Rattle.std.proofs.Common.{Contains, Option, refl, arith, le_refl}
use Rattle.std.proofs.lemmas.Bool.{cases_lt}
use Rattle.std.proofs.lemmas.List.Elements.{All-contains}
use Rattle.ttx_page.specs.PacketKind.{kind}
use Rattle.ttx_page.specs.Span.{has_text_beginning}
use Rattle.stl_rows.specs.Programme.{IsProgramme, ProgrammeValue}
use Rattle.sub_plan.specs.Options.{OptionsValue}
use Rattle.sub_rules.specs.Events.{active_faults_at}
use Rattle.sub_rules.specs.FrameRules.{Criteria, UnreadReason, frame_at}
use Rattle.sub_rules.specs.Good.{HoldsHeader}
use Rattle.sub_rules.specs.PesPacketEvents.{all_events_of_pes_packets, sent_by_pes_packets}
use Rattle.sub_rules.specs.PesPackets.{PesPacket}
use Rattle.sub_rules.specs.Repeats.{HasFinishedFrame}
use Rattle.sub_rules.specs.Transmission.{Transmission, first_frame, packets_of}
use Rattle.sub_rules.specs.declared.event.Event.TheVariants.{Trusted}
use Rattle.sub_laws.specs.CleanStretch.{HasNoReceiverFault, HasNoOpenEnd, criteria_if_unreliable}
use Rattle.sub_laws.specs.Repeats.{FinishesInTime}
use Rattle.sub_laws.specs.ReportedRepeats.{IsSufficientWithRepeats}
use Rattle.sub_trusted.specs.TrustedFrames.{MatchesReadPackets, LawOfTrustedFrames, LawOfKnownPages}
use Rattle.sub_trusted.specs.TrustedFrames.{MayStay}
use Rattle.sub_trusted.specs.TrustedFrames.{rising_part}
use Rattle.sub_trusted.specs.TrustedRepeats.{LawOfTrustedRepeats, MayStayWithRepeats}
use Rattle.sub_laws.proofs.DelayLemmas.{law_of_repeated_stretch}
use Rattle.sub_laws.proofs.GoodLemmas.{rising_frames_rise_at_each_index}
use Rattle.sub_laws.proofs.ErasingHeaderLemmas.{complete_unreported, sufficient_of}
use Rattle.sub_laws.proofs.PrefixLemmas.{frame_has_its_end, first-same, last-same}
use Rattle.sub_laws.proofs.ActiveFaultsLemmas.{decided_range_is_known}
use Rattle.sub_laws.proofs.StretchLemmas.{law_of_stretch}
use Rattle.sub_laws.proofs.SufficientDelayLemmas.{unreported_repeats_are_sufficient}
use Rattle.sub_laws.proofs.SufficientDelayLemmas.{unreported_stretch_finishes_in_time}
use Rattle.sub_trusted.proofs.InvalidationLemmas.{HoldsIfTrusted}
use Rattle.sub_trusted.proofs.TrustedAsReadLemmas.{beginning_is_on_air, pages_are_complete_on_air}
use Rattle.sub_trusted.proofs.TrustedAsReadLemmas.{stretch_finishes_on_air}
use Rattle.sub_trusted.proofs.TrustedAsReadLemmas.{on_air_begins_with_header}
use Rattle.sub_trusted.proofs.TrustedAsReadLemmas.{some_frame_finishes_on_air}
use Rattle.sub_trusted.proofs.TrustedAsReadLemmas.{repeats_are_sufficient_on_air}
use Rattle.sub_trusted.proofs.TrustedFinishedLemmas.{stretch_end_is_finished}
use Rattle.sub_trusted.proofs.TrustedFrameLemmas.{closed, begins_with_header, unreported}
use Rattle.sub_trusted.proofs.TrackerStateLemmas.{IsTrustedCorrect}
use Rattle.sub_trusted.proofs.TrustedSkippedLemmas.{skipped_packets_are_outside_stretch}
use Rattle.sub_trusted.proofs.TrustedPesPacketLemmas.{all_trusted_stretches_are_correct}

module _ (programme : ProgrammeValue) (options : OptionsValue) (unread : Option UnreadReason)
    (any_unreliable : Bool) (undecided : ℕ → Bool) (pes_packets : List PesPacket) (from to : ℕ)
    (reported :
    Contains (all_events_of_pes_packets
    (criteria_if_unreliable programme options unread any_unreliable
    undecided)
    pes_packets)
    (Trusted from to))
  where
    abbrev g : Criteria
    g = criteria_if_unreliable programme options unread any_unreliable undecided

    abbrev frames : Transmission
    frames = sent_by_pes_packets g pes_packets

    abbrev part : Transmission
    part = rising_part frames

    may : IsTrustedCorrect g frames from to
    may = grind (arith, nat_tests, all_trusted_stretches_are_correct)

    fault_free : HasNoReceiverFault g part from to
    fault_free = unreported g frames from to may.stays

    none_open_in_part : HasNoOpenEnd g part from to
    none_open_in_part = closed g frames from to may.stays

    begins : has_text_beginning options.keeps (kind options.page) (packets_of part from) ≡ true
    begins = begins_with_header g frames from to may.stays

    module _ (on_air : Transmission) (is : MatchesReadPackets part on_air from to) where
      sufficient_repeats_hold :
          IsSufficientWithRepeats options.keeps programme on_air options from to
      sufficient_repeats_hold =
          repeats_are_sufficient_on_air options.keeps programme options part on_air from to
          fault_free.rising
          fault_free.stretch.from is begins
          (unreported_repeats_are_sufficient programme options unread any_unreliable undecided part
          from to fault_free)

      first_frame_begins_text :
          has_text_beginning options.keeps (kind options.page) (packets_of on_air from) ≡ true
      first_frame_begins_text =
          beginning_is_on_air options.keeps programme options part on_air from to fault_free.rising
          fault_free.stretch.from is begins fault_free.stretch.in_order

      holds_header_at_start : HoldsHeader options.page on_air from
      holds_header_at_start =
          on_air_begins_with_header options.keeps programme options part on_air from to
          fault_free.rising
          fault_free.stretch.from is begins fault_free.stretch.in_order

      finishes_in_time_in_part : IsProgramme programme.drawing programme.records
          → FinishesInTime options.keeps programme on_air options from to
      finishes_in_time_in_part holds =
          stretch_finishes_on_air options.keeps programme options part on_air from to
          fault_free.rising
          fault_free.stretch.from is begins
          (unreported_stretch_finishes_in_time programme options unread any_unreliable undecided
          part
          from to
          fault_free
          none_open_in_part
          holds)

      some_end_finished : 0 < options.within
          → HasFinishedFrame options.keeps programme on_air options from to
      some_end_finished within =
          let some : (options.within == 0) ≡ false = grind (arith, nat_tests) in
          some_frame_finishes_on_air options.keeps programme options part on_air from to
          fault_free.rising
          fault_free.stretch.from is begins from to (le_refl from) (le_refl to)
          (stretch_end_is_finished programme options unread any_unreliable undecided frames from to
          may
          some)

      trusted_stretch_is_sufficient : IsProgramme programme.drawing programme.records
          → MayStayWithRepeats programme on_air options from to
      trusted_stretch_is_sufficient holds = record {
        header = first_frame_begins_text;
        trusted =
            (law_of_repeated_stretch options.keeps programme on_air options from to
            sufficient_repeats_hold.stretch sufficient_repeats_hold.codes).1
            (finishes_in_time_in_part holds);
        finished = some_end_finished;
      }

      undelayed_stretch_is_sufficient : options.keeps ≡ false → options.within ≡ 0
          → MayStay programme on_air options from to
      undelayed_stretch_is_sufficient none at_once = record {
        header = holds_header_at_start;
        trusted =
            law_of_stretch programme on_air options from to
            (sufficient_of programme on_air options from to none at_once sufficient_repeats_hold);
        complete = λ asks.
            pages_are_complete_on_air options.keeps programme options part on_air from to
            fault_free.rising
            fault_free.stretch.from is begins
            (complete_unreported programme part options unread any_unreliable undecided from to
            at_once
            fault_free
            asks none_open_in_part);
      }

pub law_of_trusted_repeats : LawOfTrustedRepeats
law_of_trusted_repeats programme options unread any_unreliable undecided pes_packets from to holds
    reported =
    record {
      skipped =
          skipped_packets_are_outside_stretch (criteria_if_unreliable programme options unread
          any_unreliable undecided)
          pes_packets
          from to
          reported;
      stays = λ on_air is.
          trusted_stretch_is_sufficient programme options unread any_unreliable undecided
          pes_packets
          from to reported
          on_air is
          holds;
    }

pub law_of_trusted_frames : LawOfTrustedFrames
law_of_trusted_frames programme options unread any_unreliable undecided pes_packets from to none
    at_once
    reported =
    record {
      skipped =
          skipped_packets_are_outside_stretch (criteria_if_unreliable programme options unread
          any_unreliable undecided)
          pes_packets
          from to
          reported;
      stays = λ on_air is.
          undelayed_stretch_is_sufficient programme options unread any_unreliable undecided
          pes_packets
          from to
          reported on_air
          is none at_once;
    }

known : (g : Criteria) (part : Transmission) (from to : ℕ) → HasNoReceiverFault g part from to
    → (f x : ℕ) → first_frame part ≤ f → x ≤ f + g.within
    → from ≤ x
    → x ≤ to
    → f ≤ x
    → g.undecided f ≡ false
unfolding active_faults_at
known g part from to fault_free f x first near low high order =
    let begins = first-same part in
    let ends = last-same part in
    let bottom = fault_free.stretch.from in
    let top = fault_free.stretch.to in
    let up = rising_frames_rise_at_each_index part fault_free.rising in
    let (n, end, on, l) =
    frame_has_its_end part up x fault_free.stretch.not_empty (omega arith) (omega arith) in
    decided_range_is_known g part n x (frame_at part 0) g.within (fault_free.undecided n x end low
    high) f
    order
    near
    (inl (omega arith))

pub law_of_known_pages : LawOfKnownPages
law_of_known_pages g pes_packets from to reported f first last near =
    let frames : Transmission = sent_by_pes_packets g pes_packets in
    let part : Transmission = rising_part frames in
    let may : IsTrustedCorrect g frames from to =
    All-contains (HoldsIfTrusted (IsTrustedCorrect g frames)) (all_events_of_pes_packets g
    pes_packets)
    (Trusted from to)
    (all_trusted_stretches_are_correct g frames pes_packets refl) reported in
    let fault_free : HasNoReceiverFault g part from to = unreported g frames from to may.stays in
    let order = fault_free.stretch.in_order in
    elim (cases_lt f from) [
      | inl before ↦ known g part from to fault_free f from first near (le_refl from) order
          (omega arith)
      | inr inside ↦ known g part from to fault_free f f first (omega arith) inside last (le_refl f)
    ]
