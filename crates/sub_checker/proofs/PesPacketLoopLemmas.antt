-- Whenever the check of a PES file ends, the device has received the events of the entire file or a
-- prefix of them.
use Rattle.std.proofs.lemmas.Bool.Decides.{nat_tests}
use Rattle.std.proofs.Common.{◌≡◌, ℕ, ◌+◌, ◌≤◌, Bool, true, false, List, [], ◌∷◌, ◌++◌, length}
use Rattle.std.proofs.Common.{take, Option, Some, None, Ok, Result, Err, refl, sym, ap, subst, ◌∙◌}
use Rattle.std.proofs.Common.{append_assoc, arith, length-append}
use Rattle.std.proofs.lemmas.List.{append-nil, take_at}
use Rattle.std.specs.Prelude.{IfSome}
use Rattle.stl_rows.specs.Judged.{JudgedValue}
use Rattle.sub_io.specs.Reporting.{Reports, ReportsPrefix}
use Rattle.sub_io.proofs.ReportingLemmas.{Reports-trans, ReportsPrefix-first, ReportsPrefix-second}
use Rattle.sub_io.proofs.ReportingLemmas.{ReportsPrefix-whole}
use Rattle.sub_plan.specs.FrameTime.{Clock, clock_of}
use Rattle.sub_plan.specs.Options.{OptionsValue}
use Rattle.sub_rules.specs.Events.{unread_fault}
use Rattle.sub_rules.specs.FrameRules.{Criteria, UnreadReason, criteria_of_judged}
use Rattle.sub_rules.specs.PacketRules.{packets_of_units}
use Rattle.sub_rules.specs.PesPacketEvents.{announced_events, all_events_of_pes_packets}
use Rattle.sub_rules.specs.PesPacketEvents.{events_of_pes_packets, no_run}
use Rattle.sub_rules.specs.PesPacketEvents.{sent_by_pes_packets, steps_of_each, steps_of_sent}
use Rattle.sub_rules.specs.PesPacketEvents.{ungrouped_events_of_pes_packets}
use Rattle.sub_rules.specs.PesPackets.{PesPacket, PesPacketFileValue, ReadsPesPacket}
use Rattle.sub_rules.specs.PesPackets.{ReadsPesPackets, frames_of}
use Rattle.sub_rules.specs.PesPackets.{ReportsPesPacket, joined_after, pes_packet_of}
use Rattle.sub_rules.specs.PesPackets.{pes_packets_at, sent_after}
use Rattle.sub_rules.specs.PesPackets.PesPacket.{Skipped, Sent}
use Rattle.sub_rules.specs.Transmission.{SentFrame, Transmission}
use Rattle.sub_rules.specs.Trusted.{CheckStep, events_reported_after}
use Rattle.sub_rules.specs.Trusted.CheckStep.{AtPes, Emits}
use Rattle.sub_rules.specs.declared.event.Event.{Event}
use Rattle.sub_rules.specs.declared.event.Event.TheVariants.{Reported}
use Rattle.sub_rules.specs.declared.fault.CheckFault.{CheckFault}
use Rattle.sub_rules.specs.declared.pes_packet.NextPesPacket.{NextPesPacket}
use Rattle.sub_rules.specs.declared.pes_packet.NextPesPacket.TheVariants as next
use Rattle.sub_rules.specs.declared.valid_pes_packet.ValidPesPacket.{ValidPesPacket}
use Rattle.sub_rules.proofs.JoinedLemmas.{frames_of-append, joined_after-push}
use Rattle.sub_rules.proofs.JoinedLemmas.{steps_of_each-append}
use Rattle.sub_rules.proofs.PesPacketFileLemmas.{pes_packets_at-next}
use Rattle.sub_rules.proofs.PesPacketFileLemmas.{failed_answer_leaves_no_packets}
use Rattle.sub_rules.proofs.PesPacketFileLemmas.{bad_answer_reads_skipped_packet}
use Rattle.sub_checker.specs.Checker.{CheckerValue}
use Rattle.sub_checker.specs.CheckedFrames.{BetweenPesPackets, steps_at_end_of_file}
use Rattle.sub_checker.specs.NextPesPackets.{frame_with_packets, last_packets_after_read}
use Rattle.sub_checker.specs.NextPesPackets.{frames_after_read, steps_of_read_packet}
use Rattle.sub_checker.specs.Relay.{initial_relay, relayed_events, relay_after}
use Rattle.sub_checker.specs.PesFileEvents.{MatchesReadFile, ReportsPesPackets, events_with_run_end}
use Rattle.sub_checker.specs.LastEvents.{FinishesReporting}
use Rattle.sub_checker.specs.ReadCounts.{CarryFrames, HaveCompletePackets, AreCountsOfFrames}
use Rattle.sub_checker.specs.declared.reporter.Relay.{Relay}
use Rattle.sub_checker.specs.declared.accepted.Accepted.{Accepted}
use Rattle.sub_checker.proofs.RelayLemmas.{after-append, after-none, skipped-append}
use Rattle.sub_checker.proofs.RemainingBytesLemmas.{ReadsRemainingBytes}
use Rattle.sub_checker.proofs.RemainingBytesLemmas.{reading_continues_after_skipped_packet}
use Rattle.sub_checker.proofs.RemainingBytesLemmas.{reading_continues_after_sent_packet}
use Rattle.sub_checker.proofs.TrustTrackerLemmas.{reports_agree}
use Rattle.ttx_pes.proofs.ReaderLemmas.{reader_answers_are_correct}
use Rattle.ttx_pes.specs.Fault.{is_packet_content_fault}
use Rattle.ttx_pes.specs.PesGrammar.{IsPesValue, PesValue}
use Rattle.ttx_pes.specs.PesPackets.{rest_after_pes_packet}
use Rattle.ttx_pes.specs.Reader.{TakesValidPesPacket}
use Rattle.ttx_pes.specs.Reading.{answer_at, max_pes_packets}
use Rattle.ttx_pes.specs.declared.fault.PesFault.{PesFault}

abbrev pub steps_of_all_pes_packets : Criteria → List PesPacket → List CheckStep
steps_of_all_pes_packets g done = steps_of_each g [] 0 done

abbrev pub frames_sent_by : Criteria → List PesPacket → Transmission
frames_sent_by g done = joined_after g.within [] (frames_of done)

-- After the first PES packets of a file, `done`, the states of the checker and of the reporter are
-- those of the rules; `last` are the Teletext packets of the last valid PES packet.
pub record TracksPesPackets
    (g : Criteria) (done : List PesPacket) (last : List (List ℕ)) (c : CheckerValue) (p : Relay) :
    Type
    0
  where
    pub keeps : BetweenPesPackets g (frames_sent_by g done) last c
    pub relay_eq : p ≡ relay_after initial_relay (steps_of_all_pes_packets g done)

pub new_checker_tracks_no_packets : (g : Criteria) (last : List (List ℕ)) (c : CheckerValue)
    (p : Relay)
    → BetweenPesPackets g [] last c
    → p ≡ initial_relay
    → TracksPesPackets g [] last c p
unfolding steps_of_each frames_of joined_after
new_checker_tracks_no_packets g last c p keeps none = grind (arith, nat_tests, after-none)

relayed_steps_give_events : (g : Criteria) (done : List PesPacket)
    → events_of_pes_packets g done ≡ relayed_events initial_relay (steps_of_all_pes_packets g done)
unfolding events_of_pes_packets relayed_events
relayed_steps_give_events g done = ap (announced_events no_run)
    (reports_agree (steps_of_all_pes_packets g done))

sent_packet_extends_frames : (g : Criteria) (done : List PesPacket) (s : SentFrame)
    → frames_sent_by g (done ++ Sent s ∷ []) ≡ sent_after g.within (frames_sent_by g done) s
unfolding frames_of
sent_packet_extends_frames g done s =
    ap (joined_after g.within []) (frames_of-append done (Sent s ∷ []))
    ∙ joined_after-push g.within [] (frames_of done) s

skipped_packet_keeps_frames : (g : Criteria) (done : List PesPacket) (u : UnreadReason)
    → frames_sent_by g (done ++ Skipped u ∷ []) ≡ frames_sent_by g done
unfolding frames_of
skipped_packet_keeps_frames g done u =
    ap (joined_after g.within []) (frames_of-append done (Skipped u ∷ [])
    ∙ append-nil (frames_of done))

module _ (g : Criteria) (done : List PesPacket) (pes : ℕ) (count : length done ≡ pes) where
  abbrev steps_of_added_packet : PesPacket → List CheckStep
  steps_of_added_packet p = steps_of_each g (frames_sent_by g done) pes (p ∷ [])

  added_packet_appends_steps : (p : PesPacket)
      → steps_of_all_pes_packets g (done ++ p ∷ []) ≡ steps_of_all_pes_packets g done ++
      steps_of_added_packet p
  added_packet_appends_steps p = steps_of_each-append g [] 0 pes done (p ∷ [])
      (omega (arith, count))

  pub added_packet_appends_events : (p : PesPacket) (q : Relay)
      → q ≡ relay_after initial_relay (steps_of_all_pes_packets g done)
      → events_of_pes_packets g (done ++ p ∷ [])
      ≡ events_of_pes_packets g done ++ relayed_events q (steps_of_added_packet p)
  added_packet_appends_events p q is = grind (
    arith,
    nat_tests,
    relayed_steps_give_events,
    added_packet_appends_steps,
    skipped-append,
  )

  pub added_packet_advances_relay : (p : PesPacket) (q new : Relay)
      → q ≡ relay_after initial_relay (steps_of_all_pes_packets g done)
      → new ≡ relay_after q (steps_of_added_packet p)
      → new ≡ relay_after initial_relay (steps_of_all_pes_packets g (done ++ p ∷ []))
  added_packet_advances_relay p q new was is = grind (
    arith,
    nat_tests,
    after-append,
    added_packet_appends_steps,
  )

  pub added_sent_packet_steps : (s : SentFrame)
      → steps_of_added_packet (Sent s) ≡ steps_of_sent g (frames_sent_by g done) pes s
  unfolding steps_of_each
  added_sent_packet_steps s = append-nil _

  pub skipped_steps : (u : UnreadReason)
      → steps_of_added_packet (Skipped u) ≡ AtPes pes ∷ Emits (Reported (unread_fault pes (Some u)))
      ∷ []
  unfolding steps_of_each
  skipped_steps u = refl

  tracking_continues_after_sent_packet : (s : SentFrame) (last : List (List ℕ)) (c : CheckerValue)
      (q new : Relay)
      → q ≡ relay_after initial_relay (steps_of_all_pes_packets g done)
      → BetweenPesPackets g (sent_after g.within (frames_sent_by g done) s) last c
      → new ≡ relay_after q (steps_of_sent g (frames_sent_by g done) pes s)
      → TracksPesPackets g (done ++ Sent s ∷ []) last c new
  tracking_continues_after_sent_packet s last c q new was keeps is = record {
    keeps = subst (λ (l : Transmission). BetweenPesPackets g l last c)
        (sym (sent_packet_extends_frames g done s))
        keeps;
    relay_eq =
        added_packet_advances_relay (Sent s) q new was
        (is ∙ ap (relay_after q) (sym (added_sent_packet_steps s)));
  }

  tracking_continues_after_skipped_packet : (u : UnreadReason) (last : List (List ℕ))
      (c : CheckerValue) (q new : Relay)
      → q ≡ relay_after initial_relay (steps_of_all_pes_packets g done)
      → BetweenPesPackets g (frames_sent_by g done) last c
      → new ≡ relay_after q (AtPes pes ∷ Emits (Reported (unread_fault pes (Some u))) ∷ [])
      → TracksPesPackets g (done ++ Skipped u ∷ []) last c new
  tracking_continues_after_skipped_packet u last c q new was keeps is = record {
    keeps = subst (λ (l : Transmission). BetweenPesPackets g l last c)
        (sym (skipped_packet_keeps_frames g done u))
        keeps;
    relay_eq =
        added_packet_advances_relay (Skipped u) q new was
        (is ∙ ap (relay_after q) (sym (skipped_steps u)));
  }

module _ (g : Criteria) (all : List PesPacket) where
  abbrev closing : List CheckStep
  closing = steps_at_end_of_file g (frames_sent_by g all) (length all)

  all_events_are_finished_events : all_events_of_pes_packets g all
      ≡ events_with_run_end initial_relay
      (steps_of_all_pes_packets g all ++ closing)
  unfolding all_events_of_pes_packets ungrouped_events_of_pes_packets relayed_events relay_after
  all_events_are_finished_events = grind (arith, nat_tests, reports_agree, append_assoc)

  whole : all_events_of_pes_packets g all
      ≡ events_of_pes_packets g all
      ++ events_with_run_end (relay_after initial_relay (steps_of_all_pes_packets g all)) closing
  whole = grind (
    arith,
    nat_tests,
    all_events_are_finished_events,
    skipped-append,
    after-append,
    append_assoc,
    relayed_steps_give_events,
  )

  -- If the events at the end of the file were reported, all events were reported and the counts are
  -- correct; otherwise the device stopped the check after a prefix of the events.
  reporting_ends_with_file : {D : Type 0} {IsReported : D → Event → D → Type 0} (clock : Clock)
      (bytes : List ℕ)
      (a b c : D) (r : Option Accepted) (p : Relay)
      → p ≡ relay_after initial_relay (steps_of_all_pes_packets g all)
      → Reports IsReported a b (events_of_pes_packets g all)
      → FinishesReporting IsReported b c (events_with_run_end p closing) r
      → IfSome r (MatchesReadFile g clock bytes all)
      → ReportsPesPackets g clock bytes all IsReported a c (Ok r)
  reporting_ends_with_file {D} {IsReported} clock bytes a b c (Some x) p is first second counts = (
    subst (Reports IsReported a c) (sym whole) (Reports-trans a b c _ _ first (rw is at second)),
    counts,
  )
  reporting_ends_with_file {D} {IsReported} clock bytes a b c None p is first second counts =
      subst (ReportsPrefix IsReported a c) (sym whole)
      (ReportsPrefix-second a b c _ _ first (rw is at second))

pub events_of_prefix_are_a_prefix : (g : Criteria) (all done more : List PesPacket)
    → all ≡ done ++ more
    → (rest : List Event) × (all_events_of_pes_packets g all ≡ events_of_pes_packets g done ++ rest)
events_of_prefix_are_a_prefix g all done more parts =
    let each = steps_of_all_pes_packets g done in
    let next = steps_of_each g (frames_sent_by g done) (length done) more in
    let end = events_with_run_end (relay_after initial_relay (steps_of_all_pes_packets g all))
    (closing g all)
    in (
      relayed_events (relay_after initial_relay each) next ++ end,
      whole g all
          ∙ ap (λ (l : List Event). l ++ end)
          (relayed_steps_give_events g all
          ∙ ap (relayed_events initial_relay)
          (ap (steps_of_all_pes_packets g) parts
          ∙ steps_of_each-append g [] 0 (length done) done more (omega arith))
          ∙ skipped-append initial_relay each next
          ∙ ap (λ (l : List Event). l ++ relayed_events (relay_after initial_relay each) next)
          (sym (relayed_steps_give_events g done)))
          ∙ append_assoc (events_of_pes_packets g done) _ _,
    )

no_packets_means_no_bytes : (clock : Clock) (n : ℕ) (rest : List ℕ)
    → n ≤ max_pes_packets
    → ReadsPesPackets clock n rest [] None
    → rest ≡ []
no_packets_means_no_bytes clock n rest few reads = by (answer_at n rest) refl
  where
    by : (r : Result (Option PesValue) PesFault) → answer_at n rest ≡ r → rest ≡ []
    by (Ok None) is = (reader_answers_are_correct n rest).0 is
    by (Ok (Some v)) is =
        let whole = sym reads ∙ pes_packets_at-next clock n rest (Ok (Some v)) few is in
        let none : [] ≡ pes_packet_of clock (Ok v)
        ∷ (pes_packets_at clock (n + 1) (rest_after_pes_packet rest)).pes_packets =
        ap (λ (f : PesPacketFileValue). f.pes_packets) whole in
        cc
    by (Err f) is = bad (is_packet_content_fault f) refl
      where
        bad : (b : Bool) → is_packet_content_fault f ≡ b → rest ≡ []
        bad true kind =
            let next = bad_answer_reads_skipped_packet clock n rest [] None f few reads is kind in
            let first = next.first in cc
        bad false kind =
            let stop = failed_answer_leaves_no_packets clock n rest [] None f few reads is kind in
            let some = stop.1 in cc

pub no_pes_packets_have_no_events : (g : Criteria) → events_of_pes_packets g [] ≡ []
unfolding events_of_pes_packets steps_of_each events_reported_after announced_events
no_pes_packets_have_no_events g = refl

module _ (judging : JudgedValue) {options : OptionsValue} {bytes : List ℕ}
    {all : List PesPacket} {unread : Option UnreadReason} {remaining : Option (List ℕ)} {pes : ℕ}
    {last : List (List ℕ)} {c : CheckerValue} {q : Relay} {done : List PesPacket}
    (at : ReadsRemainingBytes options bytes all unread remaining pes done)
    (tracks : TracksPesPackets (criteria_of_judged judging options unread) done last c q)
  where
    abbrev g : Criteria
    g = criteria_of_judged judging options unread

    abbrev clock : Clock
    clock = clock_of options

    pub prefix : (pes ≤ length all) × (take pes all ≡ done)
    prefix = (
      omega (arith, ap length at.parts, length-append done at.ahead, at.count),
      ap (take pes) at.parts ∙ take_at done at.ahead pes at.count,
    )

    pub reported_events_are_a_prefix : {D : Type 0} {IsReported : D → Event → D → Type 0} (a b : D)
        → Reports IsReported a b (events_of_pes_packets g done)
        → ReportsPrefix IsReported a b (all_events_of_pes_packets g all)
    reported_events_are_a_prefix {D} {IsReported} a b reported =
        let prefix = events_of_prefix_are_a_prefix g all done at.ahead at.parts in
        subst (ReportsPrefix IsReported a b) (sym prefix.1)
        (ReportsPrefix-first a b _ _ (ReportsPrefix-whole a b _ reported))

    stopping_device_got_a_prefix : {D : Type 0} {IsReported : D → Event → D → Type 0}
        (p : PesPacket)
        (more : List PesPacket) (ms : List CheckStep) (a b d : D)
        → at.ahead ≡ p ∷ more
        → steps_of_each g (frames_sent_by g done) pes (p ∷ []) ≡ ms
        → Reports IsReported a b (events_of_pes_packets g done)
        → ReportsPrefix IsReported b d (relayed_events q ms)
        → ReportsPrefix IsReported a d (all_events_of_pes_packets g all)
    stopping_device_got_a_prefix {D} {IsReported} p more ms a b d first of reported part =
        let prefix = events_of_prefix_are_a_prefix g all (done ++ p ∷ []) more
        (at.parts ∙ ap (λ (l : List PesPacket). done ++ l) first
        ∙ sym (append_assoc done (p ∷ []) more)) in
        subst (ReportsPrefix IsReported a d)
        (sym (prefix.1 ∙ ap (λ (l : List Event). l ++ prefix.0)
        (added_packet_appends_events g done pes at.count p q tracks.relay_eq)))
        (ReportsPrefix-first a d _ _ (ReportsPrefix-second a b d _ _ reported
        (subst (λ (l : List CheckStep). ReportsPrefix IsReported b d (relayed_events q l)) (sym of)
        part)))

    -- A device that stopped the check at PES packet `pes` received a prefix of the events.
    pub stopped_report_is_a_prefix : {D : Type 0} {IsReported : D → Event → D → Type 0}
        (v : PesValue)
        (r : NextPesPacket)
        (a b d : D)
        → ReportsPesPacket clock pes at.rest at.ahead unread v (Ok (Some r))
        → Reports IsReported a b (events_of_pes_packets g done)
        → ReportsPrefix IsReported b d
        (relayed_events q (steps_of_read_packet g (frames_sent_by g done) pes r
        (packets_of_units v.units)))
        → ReportsPrefix IsReported a d (all_events_of_pes_packets g all)
    stopped_report_is_a_prefix {D} {IsReported} v (next.Skipped f) a b d is reported part =
        stopping_device_got_a_prefix (Skipped is.0) is.2.more _ a b d is.2.first
        (skipped_steps g done pes at.count is.0
        ∙ ap (λ (x : CheckFault). AtPes pes ∷ Emits (Reported x) ∷ []) (sym is.1))
        reported part
    stopped_report_is_a_prefix {D} {IsReported} v (next.Sent s) a b d is reported part =
        stopping_device_got_a_prefix (Sent (frame_with_packets s (packets_of_units v.units)))
        is.0.more _ a b d is.0.first
        (added_sent_packet_steps g done pes at.count
        (frame_with_packets s (packets_of_units v.units))) reported part

    module _ (few : pes ≤ max_pes_packets) (last_pes_packet : at.ahead ≡ []) where
      no_packet_is_left : done ≡ all
      no_packet_is_left = sym (at.parts ∙ ap (λ (l : List PesPacket). done ++ l) last_pes_packet
          ∙ append-nil done)

      long : length all ≡ pes
      long = ap length (sym no_packet_is_left) ∙ at.count

      last_steps_are_closing_steps : steps_at_end_of_file g (frames_sent_by g done) pes ≡ closing g
          all
      last_steps_are_closing_steps =
          ap (steps_at_end_of_file g (frames_sent_by g done)) (sym long)
          ∙ ap (λ (l : List PesPacket). steps_at_end_of_file g (frames_sent_by g l) (length all))
          no_packet_is_left

      counts_match_read_file : (a : Accepted) → AreCountsOfFrames options.page
          (frames_sent_by g done) a
          → MatchesReadFile g clock bytes all a
      counts_match_read_file a counts = record {
        few = omega (arith, long);
        taken = λ sent none.
            let left = subst (λ (l : List PesPacket). ReadsPesPackets clock pes at.rest l unread)
            last_pes_packet at.left in
            let gone = no_packets_means_no_bytes clock pes at.rest few
            (subst (λ (u : Option UnreadReason). ReadsPesPackets clock pes at.rest [] u) none left)
            in
            let taken = at.taken (ap (λ (l : List PesPacket). length (frames_of l))
            no_packet_is_left ∙ sent
            ∙ ap length (sym no_packet_is_left)) in
            subst (λ (l : List ℕ). CarryFrames clock bytes (frames_of all) l) gone
            (subst (λ (l : List PesPacket). CarryFrames clock bytes (frames_of l) at.rest)
            no_packet_is_left
            taken);
        whole = subst (λ (l : List PesPacket). HaveCompletePackets (frames_of l)) no_packet_is_left
            at.whole;
        counts = subst (λ (l : List PesPacket). AreCountsOfFrames options.page
            (sent_by_pes_packets g l) a)
            no_packet_is_left
            counts;
      }

      accepted_counts_match_read_file : (r : Option Accepted)
          → IfSome r (AreCountsOfFrames options.page (frames_sent_by g done))
          → IfSome r (MatchesReadFile g clock bytes all)
      accepted_counts_match_read_file None counts = tt
      accepted_counts_match_read_file (Some a) counts = counts_match_read_file a counts

      -- After the last PES packet, the device has received all events, or a prefix of them if it
      -- stopped the check.
      pub whole_file_is_reported : {D : Type 0} {IsReported : D → Event → D → Type 0} (a b d : D)
          (r : Option Accepted)
          → Reports IsReported a b (events_of_pes_packets g done)
          → FinishesReporting IsReported b d
          (events_with_run_end q (steps_at_end_of_file g (frames_sent_by g done) pes)) r
          → IfSome r (AreCountsOfFrames options.page (frames_sent_by g done))
          → ReportsPesPackets g clock bytes all IsReported a d (Ok r)
      whole_file_is_reported {D} {IsReported} a b d r first second counts =
          reporting_ends_with_file g all clock bytes a b d r q
          (tracks.relay_eq
          ∙ ap (λ (l : List PesPacket). relay_after initial_relay (steps_of_all_pes_packets g l))
          no_packet_is_left)
          (subst (λ (l : List PesPacket). Reports IsReported a b (events_of_pes_packets g l))
          no_packet_is_left
          first)
          (subst (λ (l : List CheckStep). FinishesReporting IsReported b d (events_with_run_end q l)
          r)
          last_steps_are_closing_steps
          second)
          (accepted_counts_match_read_file r counts)

    pub record Steps
        {D : Type 0} (IsReported : D → Event → D → Type 0) (p : PesPacket) (after : Option (List ℕ))
        (heard : List (List ℕ)) (d : CheckerValue) (then : Relay) (a b : D)
        : Type 0 where
      pub reads : ReadsRemainingBytes options bytes all unread after (pes + 1) (done ++ p ∷ [])
      pub kept : TracksPesPackets g (done ++ p ∷ []) heard d then
      pub reported : Reports IsReported a b (events_of_pes_packets g (done ++ p ∷ []))

    added_packet_events_are_reported : {D : Type 0} {IsReported : D → Event → D → Type 0}
        (p : PesPacket)
        (ms : List CheckStep)
        (a b d : D)
        → steps_of_each g (frames_sent_by g done) pes (p ∷ []) ≡ ms
        → Reports IsReported a b (events_of_pes_packets g done)
        → Reports IsReported b d (relayed_events q ms)
        → Reports IsReported a d (events_of_pes_packets g (done ++ p ∷ []))
    added_packet_events_are_reported {D} {IsReported} p ms a b d of first second =
        subst (Reports IsReported a d)
        (sym (added_packet_appends_events g done pes at.count p q tracks.relay_eq))
        (Reports-trans a b d _ _ first
        (subst (λ (l : List CheckStep). Reports IsReported b d (relayed_events q l)) (sym of)
        second))

    skipped_packet_step_is_sound : {D : Type 0} (IsReported : D → Event → D → Type 0)
        (after : Option (List ℕ))
        (u : UnreadReason) (f : CheckFault) (e : CheckerValue) (then : Relay) (a b d : D)
        → after ≡ Some (rest_after_pes_packet at.rest)
        → ReadsPesPacket clock pes at.rest at.ahead unread (Skipped u)
        → f ≡ unread_fault pes (Some u)
        → BetweenPesPackets g (frames_sent_by g done) last e
        → then ≡ relay_after q (AtPes pes ∷ Emits (Reported f) ∷ [])
        → Reports IsReported a b (events_of_pes_packets g done)
        → Reports IsReported b d (relayed_events q (AtPes pes ∷ Emits (Reported f) ∷ []))
        → Steps IsReported (Skipped u) after last e then a d
    skipped_packet_step_is_sound {D} IsReported after u f e then a b d left next is keeps kept first
        second =
        let same : AtPes pes ∷ Emits (Reported f) ∷ []
        ≡ AtPes pes ∷ Emits (Reported (unread_fault pes (Some u))) ∷ [] =
        ap (λ (x : CheckFault). AtPes pes ∷ Emits (Reported x) ∷ []) is in
        record {
          reads = reading_continues_after_skipped_packet options bytes all unread remaining after
              pes done at left u next;
          kept =
              tracking_continues_after_skipped_packet g done pes at.count u last e q
              then tracks.relay_eq keeps
              (kept ∙ ap (relay_after q) same);
          reported =
              added_packet_events_are_reported (Skipped u) _ a b d (skipped_steps g done pes
              at.count u) first
              (subst (λ (l : List CheckStep). Reports IsReported b d (relayed_events q l)) same
              second);
        }

    sent_packet_step_is_sound : {D : Type 0} (IsReported : D → Event → D → Type 0)
        (after : Option (List ℕ))
        (v : PesValue) (frame : ℕ) (heard : List (List ℕ)) (e : CheckerValue) (then : Relay)
        (a b d : D) (left : after ≡ Some (rest_after_pes_packet at.rest))
        → ReadsPesPacket clock pes at.rest at.ahead unread
        (Sent (record { frame = frame; packets = packets_of_units v.units }))
        → clock v.pts ≡ Some frame
        → TakesValidPesPacket remaining after v
        → IsPesValue v
        → BetweenPesPackets g (sent_after g.within (frames_sent_by g done)
        (record { frame = frame; packets = packets_of_units v.units })) heard e
        → then ≡ relay_after q (steps_of_sent g (frames_sent_by g done) pes
        (record { frame = frame; packets = packets_of_units v.units }))
        → Reports IsReported a b (events_of_pes_packets g done)
        → Reports IsReported b d (relayed_events q (steps_of_sent g (frames_sent_by g done) pes
        (record { frame = frame; packets = packets_of_units v.units })))
        → Steps IsReported (Sent (record { frame = frame; packets = packets_of_units v.units }))
        after
        heard e then a d
    sent_packet_step_is_sound {D} IsReported after v frame heard e then a b d left next of takes
        value keeps kept
        first second =
        let s : SentFrame = record { frame = frame; packets = packets_of_units v.units } in
        record {
          reads = reading_continues_after_sent_packet options bytes all unread remaining after pes
              done at left v frame
              next of takes value;
          kept = tracking_continues_after_sent_packet g done pes at.count s heard e q
              then tracks.relay_eq keeps kept;
          reported = added_packet_events_are_reported (Sent s) _ a b d (added_sent_packet_steps g
              done pes at.count s) first second;
        }

    pub step : {D : Type 0} (IsReported : D → Event → D → Type 0) (after : Option (List ℕ))
        (v : PesValue) (r : NextPesPacket) (e : CheckerValue) (then : Relay) (a b d : D)
        → after ≡ Some (rest_after_pes_packet at.rest)
        → ReportsPesPacket clock pes at.rest at.ahead unread v (Ok (Some r))
        → ((s : ValidPesPacket)
        → r ≡ next.Sent s
        → TakesValidPesPacket remaining after v × IsPesValue v)
        → BetweenPesPackets g
        (frames_after_read g (frames_sent_by g done) r (packets_of_units v.units))
        (last_packets_after_read last r (packets_of_units v.units)) e
        → then
        ≡ relay_after q (steps_of_read_packet g (frames_sent_by g done) pes r
        (packets_of_units v.units))
        → Reports IsReported a b (events_of_pes_packets g done)
        → Reports IsReported b d
        (relayed_events q (steps_of_read_packet g (frames_sent_by g done) pes r
        (packets_of_units v.units)))
        → (p : PesPacket)
        × Steps IsReported p after (last_packets_after_read last r (packets_of_units v.units)) e
        then a d
    step {D} IsReported after v (next.Skipped f) e then a b d left is sent keeps kept first
        second = (
          Skipped is.0,
          skipped_packet_step_is_sound IsReported after is.0 f e then a b d left is.2 is.1 keeps
              kept first second,
        )
    step {D} IsReported after v (next.Sent s) e then a b d left is sent keeps kept first second =
        let both = sent s refl in (
          Sent (frame_with_packets s (packets_of_units v.units)),
          sent_packet_step_is_sound IsReported after v s.frame (packets_of_units v.units) e then a b
              d left is.0
              is.1
              both.0 both.1 keeps kept first second,
        )
