-- If the repeat bound is not 0 and all packets have 42 bytes, a transmission without faults keeps
-- rules 1 to 6. A fully read transmission that keeps them has no faults if none is active at any
-- frame end and no unfinished page may still become correct.
use Rattle.std.proofs.lemmas.Bool.Decides.{nat_tests}
use Rattle.std.proofs.Common.{◌≡◌, ℕ, ◌+◌, ◌-◌, ◌<◌, ◌≤◌, inl, inr, true, false, List, [], ◌∷◌}
use Rattle.std.proofs.Common.{◌++◌, Option, Some, None, length, take, get_or, refl, sym, ap, ◌∙◌}
use Rattle.std.proofs.Common.{subst, arith, IsFalse, ◌&&◌, not, Bool}
use Rattle.std.proofs.Math.Seq.{take-append-add}
use Rattle.std.specs.Option.{option_or}
use Rattle.std.specs.List.{AllByRecursion}
use Rattle.std.proofs.lemmas.List.{get_or-append-add, get_or_default, length-append}
use Rattle.std.proofs.lemmas.List.Elements.{All-from_recursion, recursion_from_All}
use Rattle.std.proofs.lemmas.Bool.{cases_eq, cases_lt}
use Rattle.std.proofs.lemmas.Option.{none-some, same_Some}
use Rattle.ttx_packet.specs.PageHeader.{HasExactCodeWords, header, c11}
use Rattle.ttx_packet.specs.declared.header.Header.{Header}
use Rattle.stl_rows.specs.Programme.{ProgrammeValue}
use Rattle.sub_plan.specs.Options.{OptionsValue}
use Rattle.sub_rules.specs.declared.packet_rule.Watched.{Watched}
use Rattle.ttx_page.specs.declared.packet_kind.PacketKind.TheVariants.{Other, Row}
use Rattle.ttx_page.specs.PacketKind.{kind, is_this_page, ends_page}
use Rattle.ttx_page.specs.Noise.{ErasesPageIfHeader}
use Rattle.ttx_page.specs.Span.{is_open_after, text_span}
use Rattle.sub_rules.specs.PacketRules.{first_header, KeepsRule, KeepsAllRules}
use Rattle.sub_rules.proofs.PacketLists.{first_header-push, Each-push, Each-map}
use Rattle.sub_rules.specs.Transmission.{EachPacket, SentFrame, Transmission, first_frame}
use Rattle.sub_rules.specs.Transmission.{last_frame, on_air_until}
use Rattle.sub_rules.specs.Events.{broken_cell, is_incomplete, is_late, is_pending}
use Rattle.sub_rules.specs.Good.{HoldsHeader, IsCleanSpan, IsEnhancement, HaveSameMode}
use Rattle.sub_rules.specs.Good.{KeepsPace, Repeats}
use Rattle.sub_rules.specs.Kept.{ErasesOrRepeats, HasSubtitleHeaderBits}
use Rattle.sub_rules.specs.Repeats.{KeepsRulesWithRepeats}
use Rattle.sub_rules.specs.FrameRules.{HasHeader, HasRecentPageHeader, HasRecentPesPacket}
use Rattle.sub_rules.specs.FrameRules.{UnreadReason, criteria_of}
use Rattle.sub_rules.specs.FrameRules.{end_frame, frame_at, packets_before, packets_of_frame}
use Rattle.sub_rules.specs.FrameRules.{watched_of}
use Rattle.sub_laws.specs.CleanStretch.{IsEnd}
use Rattle.sub_laws.proofs.FrameByFrame.{MeetsRequirements, IsFrameGood, IsFaultFree}
use Rattle.sub_laws.proofs.GoodLemmas.{header_at_index_is_in_frame, each_of_all_packets_holds}
use Rattle.sub_laws.proofs.GoodLemmas.{entry_has_its_frame_number, rising_frames_rise_at_each_index}
use Rattle.sub_laws.proofs.GoodLemmas.{header_in_frame_has_an_index}
use Rattle.sub_laws.proofs.GoodLemmas.{whole}
use Rattle.ttx_page.proofs.TextSpan.{text_begins_at_header, text_span-push}
use Rattle.sub_laws.proofs.PrefixLemmas.{before, packet_at, condition_holds_at_frame_start}
use Rattle.sub_laws.proofs.PrefixLemmas.{condition_holds_at_packet, indexed_packet_holds}
use Rattle.sub_laws.proofs.PrefixLemmas.{indexed_packets_hold_for_each}
use Rattle.sub_laws.proofs.PrefixLemmas.{EachPacketAfterEarlier, RiseTo}
use Rattle.sub_laws.proofs.PrefixLemmas.{packet_is_appended_to_earlier}
use Rattle.sub_laws.proofs.PrefixLemmas.{indexed_packets_hold_after_earlier}
use Rattle.sub_laws.proofs.PrefixLemmas.{rising_frames_are_ordered}
use Rattle.sub_laws.proofs.PrefixLemmas.{first-same, rising_frames_are_strictly_ordered, last-same}
use Rattle.sub_laws.proofs.PrefixLemmas.{packets_on_air_at_sent_frame, IsInGap}
use Rattle.sub_laws.proofs.PrefixLemmas.{frame_has_its_end, end_is_before_later_frames}
use Rattle.sub_laws.proofs.PrefixLemmas.{end_is_at_least_first, end_is_at_most_last}
use Rattle.sub_laws.proofs.PrefixLemmas.{packets_on_air_are_a_prefix}
use Rattle.sub_laws.proofs.ActiveFaultsLemmas.{no_refusals_leave_all_decided}
use Rattle.sub_laws.proofs.ActiveFaultsLemmas.{gap_test_is_exact, fault_free_means_no_active_fault}
use Rattle.sub_laws.proofs.ActiveFaultsLemmas.{silence_test_is_exact_for_pace}
use Rattle.sub_rules.proofs.FrameLists.{packets_before_appends_next_frame}
use Rattle.sub_laws.proofs.CleanSpanLemmas.{MayFollow, clean_cuts, last_clean}
use Rattle.sub_rules.specs.declared.packet_rule.PacketRule.TheVariants as rule

-- While the page is open, a packet that is no header of the page and does not end the page is one
-- of the packets since the page was erased.
span_open :
    (w : Watched) (heard : List (List ℕ)) (p : List ℕ)
    → is_this_page (kind w.page p) ≡ false
    → ends_page (kind w.page p) ≡ false
    → is_open_after (kind w.page) heard ≡ true
    → text_span w.keeps (kind w.page) (heard ++ p ∷ [])
    ≡ text_span w.keeps (kind w.page) heard ++ p ∷ []
span_open w heard p this ends opened = grind
    (arith, nat_tests, text_span-push, text_begins_at_header)

enhancement_is_other :
    (w : Watched) (p : List ℕ) → IsEnhancement w.page p → kind w.page p ≡ Other
unfolding kind
enhancement_is_other w p (a, e, m, low, high) =
    grind arith

pub rule_keeping_packets_have_clean_spans : (w : Watched) (packets : List (List ℕ)) →
    EachPacketAfterEarlier (KeepsAllRules w) packets
    → (n : ℕ)
    → IsCleanSpan w.page (text_span w.keeps (kind w.page) (take n packets))
rule_keeping_packets_have_clean_spans w packets each =
    clean_cuts w.keeps w.page packets (λ i d l opened this ends.
    let heard : List (List ℕ) = take i packets in
    let clean = each i l in
    subst (MayFollow w.page (text_span w.keeps (kind w.page) heard)) (get_or_default packets i [] d
    l) (record {
      odd = clean rule.Parity opened;
      same = λ k e m row a b.
          All-from_recursion (λ q. kind w.page q ≡ Row row → q ≡ get_or packets i [])
          (text_span w.keeps (kind w.page) heard) (clean rule.RowChanged opened row b) k e m a;
      plain = clean rule.Enhancement opened;
    }))

-- The packet is no page header, or has the same C11 (serial mode) as the first page header in the
-- list.
abbrev Agrees : List (List ℕ) → List ℕ → Type 0
Agrees heard q = (b : Header) → header q ≡ Some b
    → (f : Header) × (first_header heard ≡ Some f) × ((c11 b) ≡ (c11 f))

same_mode_extends_agreement : (heard : List (List ℕ)) (p : List ℕ)
    → ((h first : Header) → header p ≡ Some h → first_header heard ≡ Some first
    → (c11 h) ≡ (c11 first)) → AllByRecursion (Agrees heard) heard
    → AllByRecursion (Agrees (heard ++ p ∷ [])) (heard ++ p ∷ [])
same_mode_extends_agreement heard p mode h =
    grind (
      arith,
      nat_tests,
      Each-push (Agrees (heard ++ p ∷ [])) heard p,
      Each-map (Agrees heard) (Agrees (heard ++ p ∷ [])),
      first_header-push,
      first_header-push heard p,
    )

first_header_has_a_packet : (P : List ℕ → Type 0) (xs : List (List ℕ)) (f : Header) → first_header
    xs ≡ Some f
    → AllByRecursion P xs → (q : List ℕ) × (header q ≡ Some f) × P q
first_header_has_a_packet P [] f e h = absurd (none-some f e)
first_header_has_a_packet P (x ∷ xs) f e h = go (header x) refl e (λ d. first_header_has_a_packet P
    xs f d h.1)
  where
    go : (o : Option Header) → header x ≡ o → option_or o (first_header xs) ≡ Some f
        → (first_header xs ≡ Some f → (q : List ℕ) × (header q ≡ Some f) × P q)
        → (q : List ℕ) × (header q ≡ Some f) × P q
    go o q d ih = grind arith

module _ (programme : ProgrammeValue) (options : OptionsValue) (unread : Option UnreadReason)
    (t : Transmission) (repeat_bound_is_not_zero : 0 < options.every)
    (h : MeetsRequirements (criteria_of programme options unread) t) where
  some : 0 < length t
  some = h.some

  pub rising : RiseTo t (length t)
  rising i a b = (h.each i b).order.rises a

  earlier_entry_has_lower_frame : (i j : ℕ) (d : SentFrame) → i < j → j < length t
      → (get_or t i d).frame < (get_or t j d).frame
  earlier_entry_has_lower_frame i j d l m =
      let r = rising_frames_are_strictly_ordered t rising i j l m in
      grind (arith, nat_tests, entry_has_its_frame_number)

  packet_keeps_all_rules : (i k : ℕ) → i < length t → k < length (packets_of_frame t i)
      → KeepsAllRules (watched_of programme options) (before t i k) (packet_at t i k)
  packet_keeps_all_rules i k l m f = (h.each i l).packets k m f

  packets_on_air_keep_rules : (f : ℕ) → f ≤ last_frame t
      → EachPacketAfterEarlier (KeepsAllRules (watched_of programme options)) (on_air_until t f)
  packets_on_air_keep_rules f l =
      let last = last-same t in
      elim (cases_lt f (frame_at t 0)) [
        | inl early ↦ up_to 0 (omega arith)
            (packets_on_air_are_a_prefix t rising 0 f (omega arith) (λ s. absurd (omega arith))
            (λ m. early))
        | inr low ↦ let (m, end, is, from) = frame_has_its_end t rising f some low (omega arith) in
            up_to m end.1 is
      ]
    where
      up_to : (m : ℕ) → m ≤ length t → on_air_until t f ≡ packets_before t m
          → EachPacketAfterEarlier (KeepsAllRules (watched_of programme options)) (on_air_until t f)
      up_to m le is =
          subst (EachPacketAfterEarlier (KeepsAllRules (watched_of programme options))) (sym is)
          (indexed_packets_hold_after_earlier (KeepsAllRules (watched_of programme options)) t m le
          (λ i k l h. packet_keeps_all_rules i k (omega arith) h))

  pub fault_free_at : (n f : ℕ) → IsEnd t n f → IsFaultFree (criteria_of programme options unread) t
      n f
  fault_free_at n f h1 = grind (arith, nat_tests)

  end_has_recent_header : (n f : ℕ) → IsEnd t n f → HasRecentPageHeader
      (criteria_of programme options unread) t n f
  end_has_recent_header n f end =
      let parts = (fault_free_means_no_active_fault (criteria_of programme options unread) t n f).0
      (fault_free_at n f end) in
      (gap_test_is_exact (criteria_of programme options unread) t n f end.1).0 (ap not parts.1)

  paced : KeepsPace options.pace t
  paced frames f asks low high =
      let (n, end, on, from) =
      frame_has_its_end t rising f some (omega (arith, first-same t)) (omega (arith, last-same t))
      in
      let parts = (fault_free_means_no_active_fault (criteria_of programme options unread) t n f).0
      (fault_free_at n f end) in
      let (j, below, near) =
      (silence_test_is_exact_for_pace (criteria_of programme options unread) t n f).0
      (ap not parts.3) frames
      asks in
      let before = rising_frames_are_ordered t (length t) rising j (n - 1) (omega (arith, end.0))
      (omega (arith, end.0, end.1)) in
      (j, omega (arith, end.1), omega arith, near)

  pub frame_has_an_end : (f : ℕ) → first_frame t ≤ f → f ≤ last_frame t
      → (n : ℕ) × IsEnd t n f × (on_air_until t f ≡ packets_before t n) × (frame_at t (n - 1) ≤ f)
  frame_has_an_end f low high =
      frame_has_its_end t rising f some (omega (arith, first-same t)) (omega (arith, last-same t))

  opens : HoldsHeader options.page t (first_frame t)
  opens = header_at_index_is_in_frame (watched_of programme options) t 0 (first_frame t) some
      (sym (first-same t))
      ((h.each 0 some).header refl)

  frame_has_recent_header : (f : ℕ) → first_frame t ≤ f → f ≤ last_frame t
      → (n : ℕ) × (n ≤ f) × (f < n + options.every) × HoldsHeader options.page t n
  frame_has_recent_header f low high =
      let first = first-same t in
      let (n, end, on, from) = frame_has_its_end t rising f some (omega arith)
      (omega (arith, last-same t)) in
      elim (end_has_recent_header n f end) [
        | inl early ↦ (first_frame t, low, omega arith, opens)
        | inr (j, m, below, head) ↦
            let r = rising_frames_are_ordered t (length t) rising j (n - 1) (omega arith)
            (omega (arith, end.0, end.1)) in
            grind (
              arith,
              nat_tests,
              header_at_index_is_in_frame (watched_of programme options) t j
                  (frame_at t j),
            )
      ]

  repeats : Repeats options.page options.every t
  repeats start low high =
      let found = frame_has_recent_header (start + options.every - 1) (omega arith) (omega arith) in
      (found.0, omega (arith, found.2), omega (arith, found.1), found.3)

  all_packets_agree_in_mode : EachPacket (Agrees (whole t)) t
  all_packets_agree_in_mode =
      each_of_all_packets_holds (Agrees (whole t)) t
      (condition_holds_at_frame_start t (length t) (omega arith) (λ xs. AllByRecursion (Agrees xs)
      xs) tt
      (λ i k l m ih. same_mode_extends_agreement (before t i k) (packet_at t i k)
      (packet_keeps_all_rules i k l m rule.Mode) ih)
      (length t) (omega arith))

  pub Rules-from_holds :
      EachPacket (λ packet. length packet ≡ 42) t
      → KeepsRulesWithRepeats options.keeps programme t options
  Rules-from_holds sizes = record {
    not_empty = some;
    rising = earlier_entry_has_lower_frame;
    whole = sizes;
    starts = let starts = (h.each 0 some).order.start refl in grind (arith, first-same t);
    lasts = let lasts = h.late in grind (arith, last-same t);
    exact = indexed_packets_hold_for_each HasExactCodeWords t
        (λ i k l m. (
          packet_keeps_all_rules i k l m rule.Address,
          packet_keeps_all_rules i k l m
              rule.HeaderCode,
        ));
    serial = λ i d l k e m i' d' l' k' e' m' a b is too.
        grind (arith, nat_tests, all_packets_agree_in_mode, same_Some);
    control = indexed_packets_hold_for_each (HasSubtitleHeaderBits programme.drawing.national
        options.page) t
        (λ i k l m. (packet_keeps_all_rules i k l m rule.Control).control);
    erases = λ none.
        indexed_packets_hold_for_each (ErasesPageIfHeader options.page) t
        (λ i k l m. (packet_keeps_all_rules i k l m rule.Control).erases none);
    keeping = λ f n high below. (packets_on_air_keep_rules f high n below rule.Control).keeping;
    spans = λ f n high.
        rule_keeping_packets_have_clean_spans (watched_of programme options) (on_air_until t f)
        (packets_on_air_keep_rules f high) n;
    opens = opens;
    repeats = repeats;
    paced = paced;
  }

pub not_not : (b : Bool) → not b ≡ true → b ≡ false
not_not b e = grind (arith, nat_tests)

module _ (programme : ProgrammeValue) (options : OptionsValue) (t : Transmission)
    (rules : KeepsRulesWithRepeats options.keeps programme t options) where
  abbrev rises : RiseTo t (length t)
  rises = rising_frames_rise_at_each_index t rules.rising

  packet_keeps_mode_rule : (i k : ℕ) → i < length t → k < length (packets_of_frame t i)
      → KeepsRule rule.Mode (watched_of programme options) (before t i k) (packet_at t i k)
  packet_keeps_mode_rule i k l m a f ea ef =
      let P : List ℕ → Type 0 = HaveSameMode (packet_at t i k) in
      let row = indexed_packet_holds (λ one. EachPacket (HaveSameMode one) t) t i k rules.serial l m
      in
      let prefix =
      condition_holds_at_packet t (length t) (omega arith) (AllByRecursion P) tt
      (λ j n a b ih. Each-push P (before t j n) (packet_at t j n) ih (indexed_packet_holds P t j n
      row a b)) i
      k l (omega arith) in
      let q = first_header_has_a_packet P (before t i k) f ef prefix in
      q.2 a f ea q.1

  end_frame_is_the_greatest : (i : ℕ) → i < length t → frame_at t i ≤ end_frame t
  end_frame_is_the_greatest i l = rising_frames_are_ordered t (length t) rises i (length t - 1)
      (omega arith) (omega arith)

  on_air : (i : ℕ) → i < length t
      → on_air_until t (frame_at t i) ≡ packets_before t i ++ packets_of_frame t i
  on_air i l = packets_on_air_at_sent_frame t rises i l ∙ packets_before_appends_next_frame t i l

  frame_is_not_after_last : (i : ℕ) → i < length t → frame_at t i ≤ last_frame t
  frame_is_not_after_last i l = omega (arith, last-same t, end_frame_is_the_greatest i l)

  row_may_follow_packets : (i k : ℕ) → i < length t → k < length (packets_of_frame t i)
      → is_this_page (kind options.page (packet_at t i k)) ≡ false
      → ends_page (kind options.page (packet_at t i k)) ≡ false
      → is_open_after (kind options.page) (before t i k) ≡ true
      → MayFollow options.page (text_span options.keeps (kind options.page) (before t i k))
      (packet_at t i k)
  row_may_follow_packets i k l m this ends opened =
      let n : ℕ = length (packets_before t i) + (k + 1) in
      let up_to : take n (on_air_until t (frame_at t i)) ≡ before t i (k + 1) =
      ap (take n) (on_air i l) ∙ take-append-add (packets_before t i) (packets_of_frame t i) (k + 1)
      in
      last_clean options.page (text_span options.keeps (kind options.page) (before t i k))
      (packet_at t i k)
      (subst (IsCleanSpan options.page)
      (ap (text_span options.keeps (kind options.page)) (up_to ∙ packet_is_appended_to_earlier t i k
      m)
      ∙ span_open (watched_of programme options) (before t i k) (packet_at t i k) this ends
      opened)
      (rules.spans (frame_at t i) n (frame_is_not_after_last i l)))

  header_erases_or_repeats : (i k : ℕ) → i < length t → k < length (packets_of_frame t i)
      → ErasesOrRepeats options.asks_complete options.page (before t i k) (packet_at t i k)
  header_erases_or_repeats i k l m =
      let n : ℕ = length (packets_before t i) + k in
      let air = on_air i l in
      let up_to : take n (on_air_until t (frame_at t i)) ≡ before t i k =
      ap (take n) air ∙ take-append-add (packets_before t i) (packets_of_frame t i) k in
      let at : get_or (on_air_until t (frame_at t i)) n [] ≡ packet_at t i k =
      ap (λ (ps : List (List ℕ)). get_or ps n []) air
      ∙ get_or-append-add (packets_before t i) (packets_of_frame t i) k [] in
      let long : length (on_air_until t (frame_at t i))
      ≡ length (packets_before t i) + length (packets_of_frame t i) =
      ap (λ (ps : List (List ℕ)). length ps) air
      ∙ length-append (packets_before t i) (packets_of_frame t i) in
      subst (ErasesOrRepeats options.asks_complete options.page (before t i k)) at
      (subst
      (λ ps. ErasesOrRepeats options.asks_complete options.page ps
      (get_or (on_air_until t (frame_at t i)) n [])) up_to
      (rules.keeping (frame_at t i) n (frame_is_not_after_last i l) (omega arith)))

  good_packet_keeps_all_rules : (i k : ℕ) → i < length t → k < length (packets_of_frame t i)
      → KeepsAllRules (watched_of programme options) (before t i k) (packet_at t i k)
  good_packet_keeps_all_rules i k l m rule.Address = (indexed_packet_holds HasExactCodeWords t i k
      rules.exact l m).0
  good_packet_keeps_all_rules i k l m rule.HeaderCode = (indexed_packet_holds HasExactCodeWords t i
      k rules.exact l m).1
  good_packet_keeps_all_rules i k l m rule.Mode = packet_keeps_mode_rule i k l m
  good_packet_keeps_all_rules i k l m rule.Control = record {
    control =
        indexed_packet_holds (HasSubtitleHeaderBits programme.drawing.national options.page) t i k
        rules.control l m;
    erases = λ none. indexed_packet_holds (ErasesPageIfHeader options.page) t i k
        (rules.erases none) l m;
    keeping = header_erases_or_repeats i k l m;
  }
  good_packet_keeps_all_rules i k l m rule.Parity = λ opened row e.
      (row_may_follow_packets i k l m (ap is_this_page e) (ap ends_page e) opened).odd row e
  good_packet_keeps_all_rules i k l m rule.RowChanged =
      grind (arith, nat_tests, row_may_follow_packets i k l m, recursion_from_All)
  good_packet_keeps_all_rules i k l m rule.Enhancement = λ opened is.
      let e = enhancement_is_other (watched_of programme options) (packet_at t i k) is in
      (row_may_follow_packets i k l m (ap is_this_page e) (ap ends_page e) opened).plain is

  starts : HasHeader (criteria_of programme options None) t 0
  starts =
      let r = header_in_frame_has_an_index (watched_of programme options) t (first_frame t)
      rules.opens in
      grind (
        arith,
        nat_tests,
        first-same t,
        cases_eq r.0 0,
        rising_frames_are_strictly_ordered t
            rises 0 r.0,
      )

  later_end_has_recent_header : (n f : ℕ) → f ≤ end_frame t
      → ((j : ℕ) → n ≤ j → j < length t → f < frame_at t j)
      → HasRecentPageHeader (criteria_of programme options None) t n f
  later_end_has_recent_header n f high later = elim
      (cases_lt (f + 1) (frame_at t 0 + options.every)) [
        | inl early ↦ inl early
        | inr late ↦
            let first = first-same t in
            let last = last-same t in
            let r = rules.repeats (f + 1 - options.every) (omega arith) (omega arith) in
            grind (
              arith,
              nat_tests,
              header_in_frame_has_an_index (watched_of programme options) t r.0
                  r.3,
              cases_lt,
            )
      ]

  later_end_keeps_pace : (n f : ℕ) → first_frame t ≤ f → f ≤ end_frame t
      → ((j : ℕ) → n ≤ j → j < length t → f < frame_at t j)
      → HasRecentPesPacket (criteria_of programme options None) t n f
  later_end_keeps_pace n f low high later frames asks =
      let (j, there, from, near) =
      rules.paced frames f asks low (omega (arith, last-same t)) in
      elim (cases_lt j n) [
        | inl below ↦ (j, below, near)
        | inr above ↦ absurd (let after = later j above there in omega arith)
      ]

  module _ (still : (n f : ℕ) → IsEnd t n f
      → (broken_cell (criteria_of programme options None) t n f ≡ None)
      × IsFalse (is_late (criteria_of programme options None) t n f
      && is_incomplete (criteria_of programme options None) t n))
      (over : IsFalse (is_pending (criteria_of programme options None) t)) where
    good_end_is_fault_free : (n f : ℕ) → IsEnd t n f → IsFaultFree (criteria_of programme options
        None) t n f
    good_end_is_fault_free n f end =
        let covered =
        (gap_test_is_exact (criteria_of programme options None) t n f end.1).1
        (later_end_has_recent_header n f (end_is_at_most_last t rises n f end)
        (end_is_before_later_frames t rises n f end)) in
        let paced =
        (silence_test_is_exact_for_pace (criteria_of programme options None) t n f).1
        (later_end_keeps_pace n f
        (omega (arith, first-same t, end_is_at_least_first t rises n f end))
        (end_is_at_most_last t rises n f end) (end_is_before_later_frames t rises n f end)) in
        (fault_free_means_no_active_fault (criteria_of programme options None) t n f).1 (
          (still n f end).0,
          not_not _ covered,
          (still n f end).1,
          not_not _ paced,
          no_refusals_leave_all_decided (frame_at t 0) f options.within,
        )

    frame_meets_all_requirements : (i : ℕ) → i < length t → IsFrameGood
        (criteria_of programme options None) t i
    frame_meets_all_requirements i l = record {
      order = record {
        start = let starts = rules.starts in grind (arith, first-same t);
        rises = λ some. rises i some l;
      };
      gap = λ f gap. good_end_is_fault_free i f (gap_frame_is_an_end i f gap);
      packets = λ k m. good_packet_keeps_all_rules i k l m;
      header = λ z. starts;
      end =
          let back : frame_at t (i + 1 - 1) ≡ frame_at t i = ap (frame_at t) (omega arith) in
          good_end_is_fault_free (i + 1) (frame_at t i) (omega arith, omega arith, inl (sym back));
    }
      where
        gap_frame_is_an_end : (i f : ℕ) → IsInGap t i f → IsEnd t i f
        gap_frame_is_an_end i f (some, there, after, before) = (
          some,
          omega arith,
          inr (
            there,
            before,
            λ j below.
                let up = rising_frames_are_ordered t (length t) rises j (i - 1) (omega arith)
                (omega arith) in
                omega arith,
          ),
        )

    pub holds-from_rules : MeetsRequirements (criteria_of programme options None) t
    holds-from_rules = record {
      each = frame_meets_all_requirements;
      unread = refl;
      some = rules.not_empty;
      late = let lasts = rules.lasts in grind (arith, last-same t);
      whole = over;
    }
