-- If fewer than 15 consecutive TS packets with payload are missing or damaged, or the first TS
-- packet of each PES packet contains its PTS, each PES packet that is read has the same start as
-- one that was sent. The laws of recordings follow.
use Rattle.std.proofs.Common.{◌≡◌, ℕ, ◌+◌, inl, inr, Bool, true, false, ◌&&◌, ◌||◌, List, [], ◌∷◌}
use Rattle.std.proofs.Common.{◌++◌, length, None, refl, sym, ap, ◌∙◌, subst, arith, nat_lt, ◌≤◌}
use Rattle.std.specs.List.{AllByRecursion, flat_map}
use Rattle.std.proofs.lemmas.List.{append-nil, take-append-le}
use Rattle.mpeg_ts.specs.CarriedPackets.{carried_bytes, gap_marker_where, with_gap_markers}
use Rattle.mpeg_ts.specs.GoodPackets.{GoodPacket, GoodPackets, good_packets_after}
use Rattle.mpeg_ts.specs.TransportPacket.{begins, payload}
use Rattle.mpeg_ts.specs.Parts.{PartOutcome, Pes, Gap, Other, outcome, Part, begins_part, is_break}
use Rattle.mpeg_ts.specs.Parts.{is_unlinked, outcomes, part_bytes, single_packet_part, parts}
use Rattle.mpeg_ts.specs.Parts.{parts_from}
use Rattle.recording_laws.specs.Laws.{LawOfPace}
use Rattle.std.proofs.lemmas.Bool.{cases_Bool}
use Rattle.std.proofs.lemmas.Bool.Decides.{nat_tests}
use Rattle.recording_laws.specs.Losses.{IsRecordingWithLosses, loses_few_in_row, arrives}
use Rattle.recording_laws.specs.Losses.{is_recorded, records_all_following}
use Rattle.recording_laws.specs.Losses.{is_damaged_after, units_before_copy, units_after_copy}
use Rattle.recording_laws.specs.Losses.{SentUnit}
use Rattle.recording_laws.specs.Losses.{any_unit_damaged}
use Rattle.recording_laws.specs.Losses.{sent_packet}
use Rattle.recording_laws.specs.Multiplex.{Multiplex, Carrier, SentPes, carriers_of}
use Rattle.recording_laws.specs.Multiplex.{carriers_of_pes}
use Rattle.recording_laws.specs.Multiplex.{items_of_carrier}
use Rattle.recording_laws.proofs.ReadingLemmas.{IsMarkerExpected, has_previous, PreviousPes, Fits}
use Rattle.recording_laws.proofs.ReadingLemmas.{PreviousResult, Nothing}
use Rattle.recording_laws.proofs.ReadingLemmas.{ReadsSent, WasSentInOrder, read-run}
use Rattle.recording_laws.specs.Pace.{FirstPacketContainsPts, up_to_pts}
use Rattle.recording_laws.proofs.LossyCarrierLemmas.{IsPacketCopy}
use Rattle.recording_laws.proofs.LossyCarriedLemmas.{all-carriers-left, all-pes, carried_bytes-left}
use Rattle.recording_laws.proofs.LossyCarriedLemmas.{first_counter, pes-rising, IsLossyPes}
use Rattle.recording_laws.proofs.OpenPartLemmas.{closed-by, payloads_of, YieldsResults}
use Rattle.recording_laws.proofs.OpenPartLemmas.{ContinuesReading}
use Rattle.recording_laws.proofs.OpenPartLemmas.{YieldsAtMostOneResult}
use Rattle.recording_laws.proofs.OpenPartLemmas.{carried_from, previous_with_marker, closing}
use Rattle.recording_laws.proofs.OpenPartLemmas.{going-ends, BeginsPes}
use Rattle.recording_laws.proofs.OpenPartLemmas.{gives-later, gives-one, gives-opened, going-fits}
use Rattle.recording_laws.proofs.OpenPartLemmas.{going-skip, headless-within, open-within}
use Rattle.recording_laws.proofs.OpenPartLemmas.{opens-later}
use Rattle.recording_laws.proofs.OpenPartLemmas.{PartContinues}
use Rattle.recording_laws.proofs.LossyNoteLemmas.{or-true, notes_of_unit, history_after_loss}
use Rattle.recording_laws.proofs.ClosedPartLemmas.{broken-unbegun, closes-broken}
use Rattle.recording_laws.proofs.PesPacketLemmas.{gap_markers-alone, gap_markers_where, one-way}
use Rattle.recording_laws.proofs.TraceLemmas.{IsGoodCopy, AreTraced, carriers_are_traced}
use Rattle.recording_laws.proofs.StartedPartLemmas.{IsPrefix}

gives-gap_markers : (few : Bool) (previous : PreviousResult) (marked : Bool)
    → (marked ≡ true → has_previous previous ≡ true)
    → YieldsResults few previous [] (gap_marker_where marked)
gives-gap_markers few previous true after = record {
  pes_packets = gap_markers_where true;
  each = gap_markers-alone true;
  joined = sym (append-nil (gap_marker_where true));
  reads = (true, refl, after);
}
gives-gap_markers few previous false after = record {
  pes_packets = [];
  each = tt;
  joined = refl;
  reads = (false, refl, after);
}

not-first : (s : SentPes SentUnit) → is_recorded s.first ≡ false → arrives s ≡ false
not-first s gone = ap (λ (b : Bool). b && records_all_following s.first s.others) gone

gap_marker-following-whole : (longer break wrong here skipped following : Bool) (n : ℕ)
    → longer ≡ false
    → break ≡ ((wrong || here) || nat_lt 0 n)
    → n ≡ 0
    → skipped ≡ false
    → wrong ≡ following
    → (true && (longer || break)) ≡ (true && ((skipped || following) || here))
gap_marker-following-whole longer break wrong here skipped following n h1 h2 h3 h4 h5 =
    grind (arith, nat_tests)

gap_marker-following-gone : (longer break wrong here skipped following : Bool) (n : ℕ)
    → break ≡ ((wrong || here) || nat_lt 0 n)
    → 1 ≤ n
    → skipped ≡ true
    → (true && (longer || break)) ≡ (true && ((skipped || following) || here))
gap_marker-following-gone longer break wrong here skipped following n h1 h2 h3 = grind
    (arith, nat_tests)

module _ (distance number : ℕ) (wrong_after few : Bool) where
  prefix-first : (s : SentPes SentUnit) (g : GoodPacket)
      → IsLossyPes distance number s
      → FirstPacketContainsPts distance s
      → IsPacketCopy (sent_packet distance s.first.packet) g.packet
      → IsPrefix (single_packet_part g) s
  prefix-first s g is holds copy = record {
    begins = copy.begins ∙ is.first.is_carrier.begins;
    long = omega (arith, holds, ap length bytes);
    same =
        ap up_to_pts bytes
        ∙ sym (take-append-le 14 first (payloads_of distance s.others) holds)
        ∙ ap up_to_pts is.joined;
    is_pes_packet = is.is_pes_packet;
  }
    where
      first : List ℕ
      first = payload (sent_packet distance s.first.packet)

      bytes : part_bytes (single_packet_part g) ≡ first
      bytes = append-nil (payload g.packet) ∙ copy.payload

  opening : (s : SentPes SentUnit) (more : List (SentPes SentUnit)) (g : GoodPacket)
      (later : List GoodPacket) (wrong_after_good : Bool) (previous : PreviousResult)
      (given gap : Bool)
      → ContinuesReading distance number wrong_after few more
      → IsLossyPes distance number s
      → (few ≡ false → FirstPacketContainsPts distance s)
      → IsPacketCopy (sent_packet distance s.first.packet) g.packet
      → (few ≡ true → (is_recorded s.first ≡ true) ×
      (wrong_after_good ≡ any_unit_damaged (units_after_copy s.first)))
      → AreTraced distance number few true 0 wrong_after_good (s.others ++ carriers_of more) later
      → has_previous previous ≡ given
      → Fits previous (given && (gap || is_break g.link))
      → IsMarkerExpected few previous s (given && (gap || is_break g.link))
      → YieldsResults few previous (s ∷ more)
      (carried_from distance number wrong_after few (single_packet_part g) given gap later)
  opening s more g later wrong_after_good previous given gap go is holds copy first
      carriers_are_traced
      buffered_eq
      fits exact =
      gives-opened few previous given (given && (gap || is_break g.link)) s more
      (carried_from distance number wrong_after few (single_packet_part g) given gap later)
      buffered_eq fits
      exact
      (open-within distance number wrong_after few more (single_packet_part g) given gap s
      (length s.others)
      false 0 wrong_after_good s.others later go
      (record {
        begins = copy.begins ∙ is.first.is_carrier.begins;
        is_pes_packet = is.is_pes_packet;
        prefix = λ e. prefix-first s g is (holds e) copy;
      })
      (inl
      (record {
        skips_nothing = refl;
        loses_no_packet = refl;
        joined =
            ap (λ (x : List ℕ). x ++ payloads_of distance s.others)
            (append-nil (payload g.packet) ∙ copy.payload)
            ∙ is.joined;
        near = omega arith;
        last = s.first;
        exact = λ e. (
          ap (λ (b : Bool). b && records_all_following s.first s.others) (first e).0,
          refl,
          (first e).1,
        );
      }))
      is.others carriers_are_traced)

  first-writes_only_prefix : (s : SentPes SentUnit) (g : GoodPacket)
      → IsLossyPes distance number s
      → IsPacketCopy (sent_packet distance s.first.packet) g.packet
      → begins_part g ≡ true
  first-writes_only_prefix s g is copy =
      ap (λ (b : Bool). b || is_unlinked g.link) (copy.begins ∙ is.first.is_carrier.begins)

  previous_with_marker-fits : (given b : Bool) → Fits (previous_with_marker given)
      (given && (true || b))
  previous_with_marker-fits true b = refl
  previous_with_marker-fits false b = tt

  previous_with_marker-previous : (given : Bool) → has_previous (previous_with_marker given) ≡ given
  previous_with_marker-previous true = refl
  previous_with_marker-previous false = refl

  previous_with_marker-exact : (given b : Bool) (s : SentPes SentUnit)
      → IsMarkerExpected few (previous_with_marker given) s (given && (true || b))
  previous_with_marker-exact true b s = λ e. refl
  previous_with_marker-exact false b s = λ e. refl

  going-exact : (part : Part) (s : SentPes SentUnit) (between : ℕ) (skipped : Bool) (n : ℕ)
      (wrong : Bool) (pes_packet : List ℕ) (longer : Bool) (t : SentPes SentUnit) (g : GoodPacket)
      → PartContinues distance number wrong_after few part s between skipped n wrong []
      → IsGoodCopy distance number few true n wrong t.first g
      → (few ≡ true → (arrives s ≡ true) × (longer ≡ false))
      → IsMarkerExpected few (PreviousPes pes_packet s between skipped) t
      (true && (longer || is_break g.link))
  going-exact part s between skipped n wrong pes_packet longer t g (inl all) heard is = λ e.
      gap_marker-following-whole longer (is_break g.link) wrong
      (any_unit_damaged (units_before_copy t.first))
      skipped
      (is_damaged_after s) n (is e).1 ((heard.linked_packet refl).exact e).1 all.loses_no_packet
      all.skips_nothing
      ((all.exact e).2 ∙ sym (all.exact e).1)
  going-exact part s between skipped n wrong pes_packet longer t g (inr (inl some)) heard is = λ e.
      elim (some.2 e) [
        | inl broken ↦ absurd (cc (broken.1, (is e).0))
        | inr whole ↦
            gap_marker-following-gone longer (is_break g.link) wrong
            (any_unit_damaged (units_before_copy t.first))
            skipped (is_damaged_after s) n ((heard.linked_packet refl).exact e).1 some.0 whole.2
      ]
  going-exact part s between skipped n wrong pes_packet longer t g (inr (inr far)) heard is = λ e.
      absurd (cc (e, far.1))

  end-headless : (part : Part) (given gap : Bool) (goods : List GoodPacket)
      → part.begins ≡ false
      → goods ≡ []
      → YieldsResults few (previous_with_marker given) []
      (carried_from distance number wrong_after few part given gap goods)
  unfolding parts_from
  end-headless part given gap goods headless none =
      let end = (closes-broken part given gap (broken-unbegun part headless)).last wrong_after in
      subst (YieldsResults few (previous_with_marker given) [])
      (sym (ap (carried_from distance number wrong_after few part given gap) none ∙
      end.bytes_are_equal))
      (gives-gap_markers few (previous_with_marker given) end.has_gap_marker
      (λ e. previous_with_marker-previous given ∙ end.marker_follows_packet e))

  end-open : (part : Part) (given gap : Bool) (s : SentPes SentUnit) (between : ℕ) (skipped : Bool)
      (n : ℕ) (wrong : Bool) (goods : List GoodPacket)
      → BeginsPes distance number wrong_after few part s
      → PartContinues distance number wrong_after few part s between skipped n wrong []
      → goods ≡ []
      → YieldsAtMostOneResult few given (given && (gap || part.after_break)) s between skipped []
      (carried_from distance number wrong_after few part given gap goods)
  unfolding parts_from
  end-open part given gap s between skipped n wrong goods first going none =
      elim (closing distance number wrong_after few part given gap s first
      (going-ends distance number wrong_after few part s between skipped n wrong first going)) [
        | inl one ↦
            let end = one.is.closes.last wrong_after in
            inl
            (gives-one few (given && (gap || part.after_break)) s between skipped []
            one.is.pes_packet
            (carried_from distance number wrong_after few part given gap goods)
            (gap_marker_where end.has_gap_marker) one.is.is_pes_packet one.is.prefix
            (λ e. ((one.exact e).0, (one.exact e).1))
            (ap (carried_from distance number wrong_after few part given gap) none
            ∙ end.bytes_are_equal)
            (gives-gap_markers few (PreviousPes one.is.pes_packet s between skipped)
            end.has_gap_marker
            (λ e. refl)))
        | inr broken ↦
            let end = broken.0.last wrong_after in
            inr (
              broken.1,
              subst (YieldsResults few (previous_with_marker given) [])
                  (sym
                  (ap (carried_from distance number wrong_after few part given gap) none
                  ∙ end.bytes_are_equal))
                  (gives-gap_markers few (previous_with_marker given) end.has_gap_marker
                  (λ e. previous_with_marker-previous given ∙ end.marker_follows_packet e)),
            )
      ]

  next-headless : (t : SentPes SentUnit) (more : List (SentPes SentUnit)) (part : Part)
      (given gap following : Bool) (n : ℕ) (wrong : Bool) (goods : List GoodPacket)
      → ContinuesReading distance number wrong_after few more
      → IsLossyPes distance number t
      → (few ≡ false → FirstPacketContainsPts distance t)
      → part.begins ≡ false
      → AreTraced distance number few following n wrong (t.first ∷ (t.others ++ carriers_of more))
      goods
      → YieldsResults few (previous_with_marker given) (t ∷ more)
      (carried_from distance number wrong_after few part given gap goods)
  next-headless t more part given gap following n wrong goods go is holds headless
      carriers_are_traced =
      elim carriers_are_traced [
        | inl gone ↦
            gives-later few given t more
            (carried_from distance number wrong_after few part given gap goods)
            (λ e. not-first t (gone.1 e))
            (headless-within distance number wrong_after few more part given gap following (n + 1)
            gone.0 t.others goods go headless is.others gone.2)
        | inr here ↦
            subst (YieldsResults few (previous_with_marker given) (t ∷ more))
            (sym
            (ap (carried_from distance number wrong_after few part given gap) here.2
            ∙ closed-by wrong_after part given gap [] given true here.0 here.1
            (closes-broken part given gap (broken-unbegun part headless))
            (first-writes_only_prefix t here.0 is here.3.copy)))
            (opening t more here.0 here.1 here.4 (previous_with_marker given) given true go is holds
            here.3.copy
            (λ e. (here.3.there e, here.5 e)) here.6
            (previous_with_marker-previous given)
            (previous_with_marker-fits given (is_break here.0.link))
            (previous_with_marker-exact given (is_break here.0.link) t))
      ]

  next-opened : (t : SentPes SentUnit) (more : List (SentPes SentUnit)) (part : Part)
      (given gap : Bool) (s : SentPes SentUnit) (between : ℕ) (skipped : Bool) (n : ℕ)
      (wrong : Bool) (g : GoodPacket) (later : List GoodPacket) (wrong_after_good : Bool)
      → ContinuesReading distance number wrong_after few more
      → IsLossyPes distance number t
      → (few ≡ false → FirstPacketContainsPts distance t)
      → BeginsPes distance number wrong_after few part s
      → PartContinues distance number wrong_after few part s between skipped n wrong []
      → IsGoodCopy distance number few true n wrong t.first g
      → (few ≡ true → wrong_after_good ≡ any_unit_damaged (units_after_copy t.first))
      → AreTraced distance number few true 0 wrong_after_good (t.others ++ carriers_of more) later
      → YieldsAtMostOneResult few given (given && (gap || part.after_break)) s between skipped
      (t ∷ more)
      (carried_from distance number wrong_after few part given gap (g ∷ later))
  next-opened t more part given gap s between skipped n wrong g later wrong_after_good go is holds
      first
      going
      heard following carriers_are_traced =
      elim (closing distance number wrong_after few part given gap s first
      (going-ends distance number wrong_after few part s between skipped n wrong first going)) [
        | inl one ↦
            inl
            (gives-one few (given && (gap || part.after_break)) s between skipped (t ∷ more)
            one.is.pes_packet
            (carried_from distance number wrong_after few part given gap (g ∷ later))
            (carried_from distance number wrong_after few (single_packet_part g) true
            one.is.longer later)
            one.is.is_pes_packet one.is.prefix
            (λ e. ((one.exact e).0, (one.exact e).1))
            (closed-by wrong_after part given gap
            (gap_marker_where (given && (gap || part.after_break)) ++ one.is.pes_packet) true
            one.is.longer g
            later one.is.closes (first-writes_only_prefix t g is heard.copy))
            (opening t more g later wrong_after_good (PreviousPes one.is.pes_packet s between
            skipped)
            true
            one.is.longer
            go is holds heard.copy (λ e. (heard.there e, following e)) carriers_are_traced refl
            (going-fits distance number wrong_after few part given gap s between skipped n wrong
            one.is.pes_packet one.is.longer (is_break g.link) one.is.equals_sent_bytes going
            (heard.linked_packet refl).far)
            (going-exact part s between skipped n wrong one.is.pes_packet one.is.longer t g going
            heard
            (λ e. ((one.exact e).0, (one.exact e).2)))))
        | inr broken ↦
            inr (
              broken.1,
              subst (YieldsResults few (previous_with_marker given) (t ∷ more))
                  (sym
                  (closed-by wrong_after part given gap [] given true g later broken.0
                  (first-writes_only_prefix t g is heard.copy)))
                  (opening t more g later wrong_after_good (previous_with_marker given) given true
                  go is holds
                  heard.copy
                  (λ e. (heard.there e, following e)) carriers_are_traced
                  (previous_with_marker-previous given) (previous_with_marker-fits given
                  (is_break g.link))
                  (previous_with_marker-exact given (is_break g.link) t)),
            )
      ]

  next-open : (t : SentPes SentUnit) (more : List (SentPes SentUnit)) (part : Part)
      (given gap : Bool)
      (s : SentPes SentUnit) (between : ℕ) (skipped : Bool) (n : ℕ) (wrong : Bool)
      (goods : List GoodPacket)
      → ContinuesReading distance number wrong_after few more
      → IsLossyPes distance number t
      → (few ≡ false → FirstPacketContainsPts distance t)
      → BeginsPes distance number wrong_after few part s
      → PartContinues distance number wrong_after few part s between skipped n wrong []
      → AreTraced distance number few true n wrong (t.first ∷ (t.others ++ carriers_of more)) goods
      → YieldsAtMostOneResult few given (given && (gap || part.after_break)) s between skipped
      (t ∷ more)
      (carried_from distance number wrong_after few part given gap goods)
  next-open t more part given gap s between skipped n wrong goods go is holds first going
      carriers_are_traced =
      elim carriers_are_traced [
        | inl gone ↦
            opens-later few given (given && (gap || part.after_break)) s between skipped t more
            (carried_from distance number wrong_after few part given gap goods)
            (λ e. not-first t (gone.1 e))
            (open-within distance number wrong_after few more part given gap s
            (between + length (carriers_of_pes t)) true (n + 1) gone.0 t.others goods go first
            (going-skip distance number wrong_after few part s between skipped n wrong gone.0 t
            first going) is.others gone.2)
        | inr here ↦
            subst
            (λ (l : List GoodPacket).
            YieldsAtMostOneResult few given (given && (gap || part.after_break)) s between skipped
            (t ∷ more)
            (carried_from distance number wrong_after few part given gap l))
            (sym here.2)
            (next-opened t more part given gap s between skipped n wrong here.0 here.1 here.4 go is
            holds first going here.3 here.5 here.6)
      ]

  abbrev AllHavePts : List (SentPes SentUnit) → Type 0
  AllHavePts sent = few ≡ false → AllByRecursion (FirstPacketContainsPts distance) sent

  reading_continues : (sent : List (SentPes SentUnit))
      → AllByRecursion (IsLossyPes distance number) sent
      → AllHavePts sent
      → ContinuesReading distance number wrong_after few sent
  reading_continues [] each holds = record {
    headless = λ part given gap following n wrong goods headless none.
        end-headless part given gap goods headless none;
    opened = λ part given gap s between skipped n wrong goods first going none.
        end-open part given gap s between skipped n wrong goods first going none;
  }
  reading_continues (t ∷ more) each holds = record {
    headless = λ part given gap following n wrong goods headless carriers_are_traced.
        next-headless t more part given gap following n wrong goods
        (reading_continues more each.1 (λ e. (holds e).1)) each.0 (λ e. (holds e).0) headless
        carriers_are_traced;
    opened = λ part given gap s between skipped n wrong goods first going carriers_are_traced.
        next-open t more part given gap s between skipped n wrong goods
        (reading_continues more each.1 (λ e. (holds e).1)) each.0 (λ e. (holds e).0) first going
        carriers_are_traced;
  }

  abbrev bytes_of_good_packets : List GoodPacket → List ℕ
  bytes_of_good_packets goods = with_gap_markers false false (outcomes wrong_after (parts goods))

  abbrev no_part : Part
  no_part = record { after_break = false; begins = false; payloads = [] }

  first_gap_is_not_marked : (a b : Bool) (os : List PartOutcome) → with_gap_markers false a os ≡
      with_gap_markers
      false b os
  unfolding with_gap_markers
  first_gap_is_not_marked a b [] = refl
  first_gap_is_not_marked a b (Gap ∷ os) = refl
  first_gap_is_not_marked a b (Pes bytes ∷ os) = refl
  first_gap_is_not_marked a b (Other bytes ∷ os) = refl

  from-no_part : (n : ℕ) (wrong : Bool) (cs : List (Carrier SentUnit)) (goods : List GoodPacket)
      → AreTraced distance number few false n wrong cs goods
      → bytes_of_good_packets goods ≡ carried_from distance number wrong_after few no_part false
      false goods
  unfolding with_gap_markers outcomes parts_from outcome
  from-no_part n wrong [] goods none =
      rw none (elim (cases_Bool wrong_after) [ inl e ↦ rw e | inr e ↦ rw e ])
  from-no_part n wrong (c ∷ cs) goods carriers_are_traced = elim carriers_are_traced [
    | inl gone ↦ from-no_part (n + 1) gone.0 cs goods gone.2
    | inr here ↦
        ap bytes_of_good_packets here.2
        ∙ first_gap_is_not_marked false true
        (outcomes wrong_after (parts_from (single_packet_part here.0) here.1))
        ∙ sym
        (ap (carried_from distance number wrong_after few no_part false false) here.2
        ∙ closed-by wrong_after no_part false false [] false true here.0 here.1
        (closes-broken no_part false false (broken-unbegun no_part refl))
        (ap (λ (b : Bool). begins here.0.packet || b) (here.3.first refl)
        ∙ or-true (begins here.0.packet)))
  ]

  pub reading_starts_before_packets : (sent : List (SentPes SentUnit)) (wrong : Bool)
      (goods : List GoodPacket)
      → AllByRecursion (IsLossyPes distance number) sent
      → AllHavePts sent
      → AreTraced distance number few false 0 wrong (carriers_of sent) goods
      → YieldsResults few Nothing sent (bytes_of_good_packets goods)
  reading_starts_before_packets sent wrong goods each holds carriers_are_traced =
      subst (YieldsResults few Nothing sent)
      (sym (from-no_part 0 wrong (carriers_of sent) goods carriers_are_traced))
      ((reading_continues sent each holds).headless no_part false false false 0 wrong goods refl
      carriers_are_traced)

-- Each PES packet in a recording, other than a gap marker, has the same start as a PES packet that
-- was sent, in the same order. Assumption: fewer than 15 consecutive TS packets with payload are
-- missing or damaged, or the first TS packet of each PES packet contains its PTS.
pub law_of_reading : (number distance : ℕ) (few : Bool) (m : Multiplex SentUnit)
    (recording : List ℕ)
    → IsRecordingWithLosses number distance m recording
    → (few ≡ true → loses_few_in_row 0 (carriers_of m.sent) ≡ true)
    → (few ≡ false → AllByRecursion (FirstPacketContainsPts distance) m.sent)
    → YieldsResults few Nothing m.sent (carried_bytes number distance recording)
law_of_reading number distance few m recording h small holds =
    subst (YieldsResults few Nothing m.sent)
    (sym (carried_bytes-left distance number m recording h))
    (reading_starts_before_packets distance number goods.wrong_after few m.sent
    (any_unit_damaged m.lead) goods.packets
    pes
    holds
    (carriers_are_traced distance number few None false (any_unit_damaged m.lead)
    (15 + first_counter distance number cs) 0 cs tt
    (all-carriers-left distance number m.sent pes) (pes-rising distance number m recording h)
    (λ e. (omega arith, small e))))
  where
    cs : List (Carrier SentUnit)
    cs = carriers_of m.sent

    pes : AllByRecursion (IsLossyPes distance number) m.sent
    pes = all-pes distance number m recording h

    goods : GoodPackets
    goods =
        good_packets_after (history_after_loss None false (any_unit_damaged m.lead))
        (flat_map (notes_of_unit distance number) (flat_map items_of_carrier cs))

pub law_of_pace : LawOfPace
law_of_pace number distance pace frame_of m recording before run following last h holds far each
    joined
    has_no_gap_marker keep =
    (sent.earlier, sent.later, sent.next, sent.sent_bytes_eq, sent.prefix)
  where
    gives : YieldsResults false Nothing m.sent (carried_bytes number distance recording)
    gives =
        law_of_reading number distance false m recording h (λ e. absurd (cc e)) (λ e. holds)

    same : gives.pes_packets ≡ before ++ (run ++ (last ∷ following))
    same =
        one-way gives.pes_packets (before ++ (run ++ (last ∷ following))) gives.each each
        (sym gives.joined ∙ joined)

    sent : WasSentInOrder frame_of pace m.sent run last
    sent =
        read-run frame_of pace Nothing m.sent before run last following
        (subst (ReadsSent false Nothing m.sent) same gives.reads) has_no_gap_marker keep far
