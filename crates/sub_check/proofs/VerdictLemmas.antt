-- If the source does not fail, the events for the whole PES file determine the result: the file is
-- accepted exactly if its bytes carry a transmission that is good by the options.
use Rattle.std.proofs.lemmas.Bool.Decides.{nat_tests}
use Rattle.std.proofs.lemmas.Slice.Zip.{AllZip-long}
use Rattle.std.proofs.Common.{◌≡◌, ◌≢◌, ◌↔◌, ℕ, ◌≤◌, List, [], Bool, All, Some, None}
use Rattle.std.proofs.Common.{Result, Ok, Err, IsOk, IfOk, false, MatchResult, refl, sym, ap, ◌∙◌}
use Rattle.std.proofs.Common.{subst, arith, length, append-nil}
use Rattle.std.proofs.lemmas.List.Elements.{All-from_recursion}
use Rattle.std.proofs.lemmas.Option.{none-some}
use Rattle.std.specs.List.{concat}
use Rattle.std.specs.Prelude.{IfErr, IfSome, IsTrue}
use Rattle.sub_io.specs.Device.{failed}
use Rattle.ttx_packet.specs.PacketAddress.{IsPacket}
use Rattle.ttx_pes.specs.PesGrammar.{IsValidPesPacket}
use Rattle.ttx_pes.specs.declared.fault.PesFault.TheVariants as Pes
use Rattle.stl_rows.specs.Programme.{IsProgramme, ProgrammeValue}
use Rattle.sub_plan.specs.FrameTime.{clock_of}
use Rattle.sub_plan.specs.Options.{OptionsValue, IsOptions}
use Rattle.sub_plan.specs.Schedule.{plan}
use Rattle.sub_rules.specs.Events.{first_reported_fault}
use Rattle.sub_rules.specs.Fault.{is_pes_read_failure}
use Rattle.sub_rules.specs.FrameRules.{Criteria, criteria_of}
use Rattle.sub_rules.specs.Good.{Good}
use Rattle.sub_rules.specs.PesFrames.{Carries, CarriesOnClock, IsReadAs}
use Rattle.sub_rules.specs.PesReading.{pes_file_of}
use Rattle.sub_rules.specs.PesPackets.{PesPacketFileValue, frames_of, joined}
use Rattle.sub_rules.specs.PesPackets.{pes_packet_file_of}
use Rattle.sub_rules.specs.Repeats.{GoodWithRepeats}
use Rattle.sub_rules.specs.Transmission.{EachPacket, SentFrame, Transmission}
use Rattle.sub_rules.specs.WrongContent.{IsWrongForEveryReceiver}
use Rattle.sub_rules.specs.declared.fault.CheckFault.{CheckFault}
use Rattle.sub_rules.specs.declared.fault.CheckFault.TheVariants as fault
use Rattle.sub_rules.proofs.JoinedLemmas.{joined-within, joined_after-read}
use Rattle.sub_checker.specs.PesFileEvents.{MatchesReadFile}
use Rattle.sub_checker.specs.ReadCounts.{AreCountsOfFrames}
use Rattle.sub_checker.specs.declared.accepted.Accepted.{Accepted}
use Rattle.sub_laws.specs.OnScreen.{Complete}
use Rattle.sub_laws.specs.Planned.{planned}
use Rattle.sub_laws.proofs.ContentLemmas.{wrong_cell_is_wrong_for_every_receiver}
use Rattle.sub_laws.proofs.GoodWithRepeatsLemmas.{law_of_good_with_repeats, law_of_no_delay}
use Rattle.sub_laws.proofs.GoodWithRepeatsLemmas.{law_of_plan_repeats}
use Rattle.sub_laws.proofs.GoodLemmas.{rising_frames_rise_at_each_index, whole-is}
use Rattle.sub_laws.proofs.JoinedRisingLemmas.{joined-rising}
use Rattle.sub_laws.proofs.PesFileLemmas.{carried_is_read, law_of_exact_frames}
use Rattle.sub_laws.proofs.PlanLemmas.{law_of_plan_read}
use Rattle.sub_laws.proofs.PrefixLemmas.{first-same, last-same}
use Rattle.sub_laws.proofs.ReadFileLemmas.{file_pes_packets_sound, sent_frames_are_complete}
use Rattle.sub_laws.proofs.RisingEndLemmas.{latest_at}
use Rattle.sub_laws.proofs.RobustLemmas.{law_of_good}
use Rattle.sub_laws.proofs.UnreportedLemmas.{no_fault_means_all_sent}
use Rattle.sub_laws.proofs.ReportedLemmas.{no_fault_leaves_no_event}
use Rattle.sub_laws.proofs.ReportedWithinLemmas.{met_requirements_report_nothing}
use Rattle.sub_check.specs.CheckedFiles.{HasCounts, IsChecked, IsCheckedBy, all_events_of}
use Rattle.sub_check.specs.CheckedFiles.{events_of_first_pes_packets, frames_read}
use Rattle.sub_check.proofs.FirstReportedLemmas.{first_reported_cell_differs, each_complete}
use Rattle.sub_check.proofs.CompleteReadLemmas.{complete_file_gives_frames}

-- The counts in the result are those of the PES packets that were not skipped. If no PES packet was
-- skipped and no bytes are unread, the bytes of the file are exactly its PES packets.
abbrev pub IsReadCompletely : ProgrammeValue → OptionsValue → List ℕ → Accepted → Type 0
IsReadCompletely programme options bytes a =
    let file = pes_packet_file_of (clock_of options) bytes in
    MatchesReadFile (criteria_of programme options file.unread) (clock_of options) bytes
    file.pes_packets a

-- If the file is accepted, it was read completely and no event is a fault; otherwise the returned
-- fault is the first fault among the events.
abbrev pub Decides : ProgrammeValue → OptionsValue → List ℕ → Result Accepted CheckFault → Type 0
Decides programme options bytes result =
    MatchResult result
    (λ a. IsReadCompletely programme options bytes a
    × (first_reported_fault (all_events_of programme options bytes) ≡ None))
    (λ f. first_reported_fault (all_events_of programme options bytes) ≡ Some f)

-- If the result is that the source failed while PES packet `pes` was read, the file has at least
-- `pes` PES packets, and no event of the first `pes` of them is a fault.
abbrev pub ReadsUntilAnswer : ProgrammeValue → OptionsValue → List ℕ → Result Accepted CheckFault →
    Type 0
ReadsUntilAnswer programme options bytes result =
    (pes : ℕ)
    → result ≡ Err (fault.Pes pes Pes.Read)
    → (pes ≤ length (pes_packet_file_of (clock_of options) bytes).pes_packets)
    × (first_reported_fault (events_of_first_pes_packets programme options bytes pes) ≡ None)

module _ (programme : ProgrammeValue) (options : OptionsValue) (is : IsOptions options)
    (p : IsProgramme programme.drawing programme.records) (bytes : List ℕ) where
  abbrev file : PesPacketFileValue
  file = pes_packet_file_of (clock_of options) bytes

  abbrev g : Criteria
  g = criteria_of programme options file.unread

  abbrev sent : Transmission
  sent = frames_read options bytes

  whole : EachPacket IsPacket sent
  whole =
      All-from_recursion (λ (s : SentFrame). All IsPacket s.packets) sent
      (each_complete sent
      (joined_after-read IsPacket options.within [] (frames_of file.pes_packets) tt
      (sent_frames_are_complete file.pes_packets (file_pes_packets_sound (clock_of options) 0
      bytes).each)))

  -- No fault is reported exactly if no PES packet is skipped, the transmission is good, and the
  -- file was read to its end.
  reported_none :
      (first_reported_fault (all_events_of programme options bytes) ≡ None)
      ↔ ((length (frames_of file.pes_packets) ≡ length file.pes_packets)
      × GoodWithRepeats options.keeps programme sent options
      × (file.unread ≡ None))
  reported_none =
      let none = no_fault_means_all_sent g file.pes_packets in
      let law =
      met_requirements_report_nothing programme options file.unread sent p is.least whole in (
        λ e.
            let parts = none.0 e in
            let good = law.0 (no_fault_leaves_no_event g sent whole parts.1) in
            (parts.0, good.0, good.1),
        λ all. none.1 (all.0, ap first_reported_fault (law.1 (all.1, all.2))),
      )

  carried :
      (a : Accepted)
      → IsReadCompletely programme options bytes a
      → length (frames_of file.pes_packets) ≡ length file.pes_packets
      → GoodWithRepeats options.keeps programme sent options
      → file.unread ≡ None
      → CarriesOnClock (clock_of options) options.within bytes sent
  carried a read all good none =
      let taken = read.taken all none in
      let few = read.few in
      record {
        values = taken.values;
        packets = taken.packets;
        sendings = frames_of file.pes_packets;
        each = taken.each;
        few = omega (
          arith,
          few,
          all,
          AllZip-long IsValidPesPacket taken.values taken.packets taken.each,
          AllZip-long (IsReadAs (clock_of options)) taken.values (frames_of file.pes_packets)
              taken.read,
        );
        is_whole = taken.joined ∙ append-nil (concat taken.packets);
        read = taken.read;
        are = refl;
        rising = good.rules.rising;
      }

  carried_sent :
      (frames : Transmission)
      → CarriesOnClock (clock_of options) options.within bytes frames
      → (frames ≡ sent)
      × (length (frames_of file.pes_packets) ≡ length file.pes_packets)
      × (file.unread ≡ None)
  carried_sent frames carries =
      let reads = carried_is_read (clock_of options) options.within bytes frames carries in
      let all = complete_file_gives_frames (clock_of options) bytes carries.sendings reads in
      (carries.are ∙ ap (joined options.within) (sym all.0), all.1, all.2)

  not_refused :
      (f : CheckFault)
      → first_reported_fault (all_events_of programme options bytes) ≡ Some f
      → length (frames_of file.pes_packets) ≡ length file.pes_packets
      → GoodWithRepeats options.keeps programme sent options
      → file.unread ≡ None
      → ⊥
  not_refused f first all good none = none-some f (sym (reported_none.1 (all, good, none)) ∙ first)

  -- If the events decide the result, the file is accepted exactly if its bytes carry a transmission
  -- that is good by the options.
  accepted_from :
      (result : Result Accepted CheckFault)
      → Decides programme options bytes result
      → IsOk result
      ↔ ((transmission : Transmission)
      × CarriesOnClock (clock_of options) options.within bytes transmission
      × GoodWithRepeats options.keeps programme transmission options)
  accepted_from (Ok a) decides =
      let (all, good, none) = reported_none.0 decides.1 in
      (λ ok. (sent, carried a decides.0 all good none, good), λ any. refl)
  accepted_from (Err f) decides = (
    λ ok. cc,
    λ any.
        let (same, all, none) = carried_sent any.0 any.1 in
        absurd
        (not_refused f decides all
        (subst (λ (t : Transmission). GoodWithRepeats options.keeps programme t options) same any.2)
        none),
  )

  accepted_is :
      (frames : Transmission) (result : Result Accepted CheckFault)
      → (failed is_pes_read_failure result ≡ false → Decides programme options bytes result)
      → CarriesOnClock (clock_of options) options.within bytes frames
      → IsOk result
      → GoodWithRepeats options.keeps programme frames options
  accepted_is frames (Ok a) decides carries ok =
      let (same, all, none) = carried_sent frames carries in
      let reported = decides refl in
      subst (λ (t : Transmission). GoodWithRepeats options.keeps programme t options) (sym same)
      (reported_none.0 reported.1).1
  accepted_is frames (Err f) decides carries ok = cc

  sent_counts :
      (frames : Transmission) (a : Accepted)
      → GoodWithRepeats options.keeps programme frames options
      → AreCountsOfFrames options.page frames a
      → HasCounts options.page frames a
  sent_counts frames a good counts =
      let some = good.rules.not_empty in
      grind (
        arith,
        nat_tests,
        first-same frames,
        last-same frames,
        latest_at frames (length frames)
            (rising_frames_rise_at_each_index frames good.rules.rising),
        whole-is frames,
      )

  counts_from :
      (frames : Transmission) (result : Result Accepted CheckFault)
      → (failed is_pes_read_failure result ≡ false → Decides programme options bytes result)
      → CarriesOnClock (clock_of options) options.within bytes frames
      → IfOk result (HasCounts options.page frames)
  counts_from frames (Ok a) decides carries =
      let (same, all, none) = carried_sent frames carries in
      let reported = decides refl in
      subst (λ (t : Transmission). HasCounts options.page t a) (sym same)
      (sent_counts sent a (reported_none.0 reported.1).1 reported.0.counts)
  counts_from frames (Err f) decides carries = tt

  first_from :
      (result : Result Accepted CheckFault)
      → Decides programme options bytes result
      → IfErr result (λ f. first_reported_fault (all_events_of programme options bytes) ≡ Some f)
  first_from (Ok a) decides = tt
  first_from (Err f) decides = decides

  plan_accepted :
      (serial : Bool) (result : Result Accepted CheckFault)
      → bytes ≡ plan programme options serial
      → programme.records ≢ []
      → IfSome options.pace (λ frames. options.every ≤ frames)
      → Decides programme options bytes result
      → IsOk result
  plan_accepted serial (Ok a) written some slow decides = refl
  plan_accepted serial (Err f) written some slow decides =
      let frames = planned programme options serial in
      let good = law_of_plan_repeats options.keeps programme options serial p some is slow in
      let reads =
      ap (pes_file_of (clock_of options)) written
      ∙ law_of_plan_read programme options serial p is in
      let all = complete_file_gives_frames (clock_of options) bytes frames reads in
      let same : sent ≡ frames =
      ap (joined options.within) all.0 ∙ joined-rising options.within frames good.rules.rising in
      absurd
      (not_refused f decides all.1
      (subst (λ (t : Transmission). GoodWithRepeats options.keeps programme t options) (sym same)
      good)
      all.2)

  module _ (result : Result Accepted CheckFault)
      (decides : failed is_pes_read_failure result ≡ false → Decides programme options bytes result)
      (so_far : ReadsUntilAnswer programme options bytes result) where
    answered_cell_was_reported : (frame row column : ℕ)
        → result ≡ Err (fault.Content frame row column)
        → first_reported_fault (all_events_of programme options bytes)
        ≡ Some (fault.Content frame row column)
    answered_cell_was_reported frame row column e =
        subst
        (λ r. IfErr r (λ f. first_reported_fault (all_events_of programme options bytes) ≡ Some f))
        e
        (first_from result (decides (ap (failed is_pes_read_failure) e)))

    pub answer_is_checked_within : IsCheckedBy programme options bytes result
    answer_is_checked_within = record {
      accepted = λ looked fine. accepted_from result (decides fine);
      serves = λ t carries ok.
          let good = accepted_is t result decides carries ok in
          (good, (law_of_good_with_repeats options.keeps programme t options good).1 p);
      counts = λ t carries. counts_from t result decides carries;
      first = λ looked fine. first_from result (decides fine);
      read = so_far;
      content = λ frame row column e.
          first_reported_cell_differs programme options bytes frame row column
          (answered_cell_was_reported frame row column e);
      schedule = λ serial written some slow looked fine.
          plan_accepted serial result written some slow (decides fine);
    }

    pub answer_is_checked : options.keeps ≡ false
        → options.within ≡ 0
        → IsChecked programme options bytes result
    answer_is_checked none at_once =
        let by = answer_is_checked_within in
        record {
          accepted = λ looked fine.
              let exactly = by.accepted looked fine in (
                λ ok.
                    let (t, carries, good) = exactly.0 ok in
                    let both = (good_by_splits_into_rules t).0 good in
                    (t, (exact t).0 carries, both.0, both.1),
                λ any.
                    exactly.1 (
                      any.0,
                      (exact any.0).1 any.1,
                      (good_by_splits_into_rules any.0).1 (any.2, any.3),
                    ),
              );
          serves = λ t carries ok.
              let both = (good_by_splits_into_rules t).0 (by.serves t ((exact t).1 carries) ok).0 in
              (law_of_good programme t options both.0, both.1);
          content = λ frame row column e.
              subst
              (λ (t : Transmission). IsWrongForEveryReceiver programme options t frame row column)
              (joined-within options.within (pes_file_of (clock_of options) bytes).frames at_once)
              (wrong_cell_is_wrong_for_every_receiver programme options _ frame row column none
              (by.content frame row column e));
        }
      where
        exact : (t : Transmission)
            → CarriesOnClock (clock_of options) options.within bytes t
            ↔ Carries options.origin bytes t
        exact t = law_of_exact_frames options bytes t at_once

        good_by_splits_into_rules : (t : Transmission)
            → GoodWithRepeats options.keeps programme t options
            ↔ (Good programme t options
            × (IsTrue options.asks_complete → Complete t options))
        good_by_splits_into_rules t =
            subst
            (λ (k : Bool).
            GoodWithRepeats k programme t options
            ↔ (Good programme t options
            × (IsTrue options.asks_complete → Complete t options)))
            (sym none) (law_of_no_delay programme t options p at_once)
