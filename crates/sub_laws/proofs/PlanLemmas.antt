-- If no pace below the repeat bound is required, the schedule of a file with at least one subtitle
-- is a good transmission. Its PES file is read as this transmission.
use Rattle.sub_plan.proofs.ScheduleBases.{range_splits_in_two, last_sending_exists}
use Rattle.sub_plan.proofs.ScheduleBases.{every_gap_has_a_sending, sends-first}
use Rattle.sub_plan.proofs.ScheduleBases.{sends-last}
use Rattle.std.proofs.lemmas.List.Elements.{filter-append, All-weaker, recursion_from_All}
use Rattle.std.proofs.lemmas.List.{map-append}
use Rattle.std.proofs.lemmas.Bool.Decides.{nat_tests}
use Rattle.std.proofs.Common.{◌≡◌, ℕ, suc, ◌+◌, ◌-◌, ◌<◌, ◌≤◌, Bool, true, List, [], ◌∷◌, ◌++◌}
use Rattle.std.proofs.Common.{length, map, filter, take, flat_map, All, refl, sym, ap, ap₂, ◌∙◌}
use Rattle.std.proofs.Common.{subst, arith, IsTrue, append-nil, Option, Some, None, ◌*◌, lit<}
use Rattle.std.specs.List.{range_with_len, AllByRecursion}
use Rattle.std.specs.Prelude.{IfSome, bit_and, ◌==◌}
use Rattle.std.proofs.lemmas.Option.{same_Some}
use Rattle.ttx_packet.specs.declared.header.Header.{Header}
use Rattle.ttx_packet.specs.PacketAddress.{IsPacket}
use Rattle.ttx_packet.specs.PageHeader.{c11, header, HasExactCodeWords}
use Rattle.ttx_packet.specs.PageId.{PageIdValue}
use Rattle.ttx_packet.specs.RowPacket.{HasOddParityText}
use Rattle.ttx_page.specs.Page.{Rows, cell, IsCell, IsPage}
use Rattle.ttx_page.specs.Noise.{HasOddParityTextIfRow, AreEqualIfSameRow}
use Rattle.ttx_page.specs.declared.packet_kind.PacketKind.TheVariants.{Row}
use Rattle.ttx_page.specs.PacketKind.{kind}
use Rattle.ttx_page.specs.Span.{has_page_header, has_no_page_end, span}
use Rattle.ttx_page.specs.Shown.{shown}
use Rattle.stl_rows.specs.declared.national.National.{National}
use Rattle.stl_rows.specs.declared.national.NationalBits.{NationalBits}
use Rattle.stl_rows.specs.Programme.{first_tci, last_tco, IsProgramme, ProgrammeValue}
use Rattle.stl_rows.proofs.PageShapeLemmas.{due_is_page}
use Rattle.sub_plan.specs.Options.{IsOptions, IsWatchable, OptionsValue}
use Rattle.sub_plan.specs.Schedule.{due_page_in, is_sending, sendings_from, pes_value, plan_frames}
use Rattle.sub_plan.specs.Schedule.{sendings_at, sendings_between}
use Rattle.sub_plan.specs.Sending.{sending, watched_control, watched_header}
use Rattle.sub_plan.specs.Laws.{AreRowsOfOnePage, IsLastSending, IsRowOf, IsSentPacket}
use Rattle.sub_plan.proofs.SentPackets.{row_packet_has_row_kind, row_packet_is_made_row, row_of}
use Rattle.sub_plan.proofs.SendingLemmas.{sending_has_sent_packets, sending_ends_the_page}
use Rattle.sub_plan.proofs.SendingLemmas.{law_of_cut_sendings, sending_holds_header}
use Rattle.sub_plan.proofs.SendingLemmas.{sending_shows_the_page}
use Rattle.sub_plan.proofs.ProgrammeLemmas.{no_first_tci_means_empty, plan_frames-is, span-rises}
use Rattle.sub_plan.proofs.ProgrammeLemmas.{no_last_tco_means_empty}
use Rattle.sub_plan.proofs.ProgrammeLemmas.{law_of_day}
use Rattle.sub_rules.specs.Transmission.{SentFrame, Transmission, EachPacket, IsRising, first_frame}
use Rattle.sub_rules.specs.Transmission.{last_frame, packets_between, packets_of, on_air_until}
use Rattle.sub_rules.specs.Good.{Good, IsCleanSpan, IsControlled, IsEnhancement, IsSubtitleHeader}
use Rattle.sub_rules.specs.Good.{Repeats}
use Rattle.sub_laws.specs.OnScreen.{Complete, LawOfCompletePlan}
use Rattle.sub_laws.specs.Planned.{LawOfPlan, planned, planned_at, LawOfPlanRead}
use Rattle.sub_laws.proofs.TransmissionLemmas.{packets_between-split, each_made_frame_holds, frames}
use Rattle.sub_laws.proofs.TransmissionLemmas.{appended_frame_is_the_last}
use Rattle.sub_laws.proofs.TransmissionLemmas.{rises, selected_frame_sends_its_packets}
use Rattle.sub_laws.proofs.TransmissionLemmas.{no_selected_frame_sends_nothing, sent_some}
use Rattle.sub_laws.proofs.TransmissionLemmas.{starts_with}
use Rattle.std.proofs.Math.Nat.{mod-lt}
use Rattle.std.proofs.lemmas.List.FromFn.{length-range_with_len}
use Rattle.ttx_pes.specs.PesGrammar.{PesValue}
use Rattle.ttx_pes.specs.Reading.{max_pes_packets}
use Rattle.ttx_pes.proofs.LineOrderLemmas.{numbered_frame_is_valid}
use Rattle.ttx_pes.proofs.ReadingLemmas.{written_packet_reads_back}
use Rattle.stl_file.specs.TimeCode.{day}
use Rattle.sub_plan.specs.FrameTime.{clock_of, pts_of}
use Rattle.sub_plan.proofs.ClockLemmas.{law_of_clock}
use Rattle.sub_plan.proofs.SendingSize.{law_of_pes_values, law_of_size, filter_is_no_longer}
use Rattle.sub_rules.specs.PesFrames.{IsReadAs}
use Rattle.sub_rules.specs.PesReading.{ReadsAs}
use Rattle.sub_rules.proofs.PesReadingLemmas.{reads_ended, reads_more}
use Rattle.ttx_pes.proofs.ReaderLemmas.{nothing}
use Rattle.sub_laws.proofs.GoodLemmas.{repeated_header_keeps_pace}
use Rattle.sub_rules.specs.FrameRules.{watched_of}

module _ (w : PageIdValue) (ok : IsWatchable w) where
  kind_of_row : (page : Rows) (p : List ℕ) → IsPage page → (is : IsRowOf w page p)
      → kind w p ≡ Row is.row
  kind_of_row page p shape is = ap (kind w) is.is ∙ row_packet_has_row_kind w page is.row ok shape
      is.low is.high

  rows_are_the_same : (page : Rows) → IsPage page → (p q : List ℕ) → IsRowOf w page p → IsRowOf w
      page q
      → AreEqualIfSameRow w p q
  rows_are_the_same page shape p q one other row k l =
      grind (
        arith,
        nat_tests,
        kind_of_row page p shape one,
        kind_of_row page q shape other,
        row_of w page,
      )

  row_has_odd_parity : (page : Rows) → IsPage page → (p : List ℕ) → IsRowOf w page p
      → HasOddParityTextIfRow w p
  row_has_odd_parity page shape p is row k =
      subst HasOddParityText (sym is.is) (row_packet_is_made_row w page is.row ok shape is.low
      is.high).odd

  packet_is_no_enhancement : (page : Rows) → IsPage page → (p : List ℕ) → IsRowOf w page p →
      IsEnhancement w p
      → ⊥
  packet_is_no_enhancement page shape p is (a, at, m, low, high) =
      grind (
        arith,
        nat_tests,
        row_packet_is_made_row w page is.row ok shape is.low is.high,
        same_Some,
      )

  rows_of_page_are_clean : (packets : List (List ℕ)) → AreRowsOfOnePage w packets → IsCleanSpan w
      packets
  rows_of_page_are_clean packets are = grind (
    arith,
    nat_tests,
    All-weaker,
    row_has_odd_parity,
    rows_are_the_same,
    packet_is_no_enhancement,
  )

abbrev has_bit : ℕ → ℕ → Bool
has_bit flag n = bit_and n flag == flag

watched_control_has_c12 : (serial : Bool) (b : NationalBits) → has_bit 0x100
    (watched_control serial b) ≡ b.c12
watched_control_has_c12 serial b = grind (arith, nat_tests)

watched_control_has_c13 : (serial : Bool) (b : NationalBits) → has_bit 0x200
    (watched_control serial b) ≡ b.c13
watched_control_has_c13 serial b = grind (arith, nat_tests)

watched_control_has_c14 : (serial : Bool) (b : NationalBits) → has_bit 0x400
    (watched_control serial b) ≡ b.c14
watched_control_has_c14 serial b = grind (arith, nat_tests)

header_is_subtitle_header : (w : PageIdValue) (national : National) (serial : Bool)
    → IsSubtitleHeader national (watched_header w national serial)
header_is_subtitle_header w national serial = grind (
  arith,
  nat_tests,
  watched_control_has_c12,
  watched_control_has_c13,
  watched_control_has_c14,
)

module _
    (programme : ProgrammeValue) (o : OptionsValue) (serial : Bool) (first last : ℕ)
    (tci : Some first ≡ first_tci programme.records)
    (tco : Some last ≡ last_tco programme.records)
    (ok : IsOptions o) (order : first ≤ last) where
  abbrev w : PageIdValue
  w = o.page

  abbrev due : ℕ → Rows
  due = due_page_in programme

  abbrev p : ℕ → Bool
  p = is_sending due o.every first last

  abbrev frame_with_sending : ℕ → SentFrame
  frame_with_sending = planned_at due o programme.drawing.national serial

  abbrev num : (f : ℕ) → (frame_with_sending f).frame ≡ f
  num f = refl

  abbrev T : Transmission
  T = planned programme o serial

  shape : (f : ℕ) → IsPage (due f)
  shape f = due_is_page programme.drawing programme.records f

  plan_has_the_selected_frames : T ≡ map frame_with_sending
      (filter p (range_with_len first (last + 1 - first)))
  unfolding sendings_from
  plan_has_the_selected_frames = ap (map frame_with_sending)
      (sym (plan_frames-is programme o.every first last tci tco))

  first_frame_is_sent : p first ≡ true
  first_frame_is_sent = sends-first due o.every first last ok.least

  starts : T ≡ frame_with_sending first ∷ frames frame_with_sending num p (first + 1) (last - first)
  starts =
      let e : last + 1 - first ≡ suc (last - first) = omega arith in
      plan_has_the_selected_frames ∙ ap
      (λ n. map frame_with_sending (filter p (range_with_len first n))) e
      ∙ starts_with frame_with_sending num p first (last - first) first_frame_is_sent

  first_is : first_frame T ≡ first
  first_is = ap first_frame starts

  last_is : last_frame T ≡ last
  last_is =
      grind (
        arith,
        sends-last,
        plan_has_the_selected_frames,
        range_splits_in_two,
        filter-append,
        map-append,
        appended_frame_is_the_last,
      )

  rising : IsRising T
  rising = subst IsRising (sym plan_has_the_selected_frames) (rises frame_with_sending num p first
      (last + 1 - first))

  each : (Q : List ℕ → Type 0) → ((f : ℕ) → All Q (frame_with_sending f).packets) → EachPacket Q T
  each Q h = subst (EachPacket Q) (sym plan_has_the_selected_frames)
      (each_made_frame_holds frame_with_sending num p Q
      (filter p (range_with_len first (last + 1 - first))) h)

  each_sent : (Q : List ℕ → Type 0)
      → ((packet : List ℕ) → IsSentPacket w programme.drawing.national serial packet → Q packet)
      → EachPacket Q T
  each_sent Q h =
      each Q (λ f. All-weaker (IsSentPacket w programme.drawing.national serial) Q h
      (frame_with_sending f).packets
      (sending_has_sent_packets w programme.drawing.national serial (due f) ok.page (shape f)))

  frame_sends_its_packets : (g : ℕ) → p g ≡ true → first ≤ g → g ≤ last → packets_of T g ≡
      (frame_with_sending g).packets
  frame_sends_its_packets g h low high = grind
      (arith, nat_tests, frames, plan_has_the_selected_frames, selected_frame_sends_its_packets)

  sent_frame_has_header : (g : ℕ) → p g ≡ true → first ≤ g → g ≤ last
      → has_page_header (kind w) (packets_of T g) ≡ true
  sent_frame_has_header g h low high = grind (
    arith,
    nat_tests,
    frame_sends_its_packets,
    sending_holds_header,
    shape,
  )

  until : (f : ℕ) → on_air_until T f ≡ packets_between T first (f + 1)
  until f = ap (λ start. packets_between T start (f + 1)) first_is

  so_far : (f : ℕ) → first_frame T ≤ f → f ≤ last_frame T → (before : List (List ℕ))
      × (page : Rows) × (page ≡ due f) × IsPage page
      × (on_air_until T f ≡ before ++ sending w programme.drawing.national serial page)
  so_far f from to =
      let low : first ≤ f = omega (arith, first_is, from) in
      let high : f ≤ last = omega (arith, last_is, to) in
      let found = last_sending_exists due o.every first last f ok.least low in
      let g : ℕ = found.0 in
      let is : IsLastSending due o.every first last f g = found.1 in
      let none : packets_between T (g + 1) (f + 1) ≡ [] =
      grind (
        arith,
        nat_tests,
        plan_has_the_selected_frames,
        no_selected_frame_sends_nothing,
        frame_with_sending,
        num,
        p,
      ) in
      let split_g : packets_between T first (f + 1) ≡ packets_between T first g
      ++ packets_between T g (f + 1) =
      packets_between-split T first g (f + 1) rising is.low (omega (arith, is.high)) in
      let split_n : packets_between T g (f + 1) ≡ packets_of T g
      ++ packets_between T (g + 1) (f + 1) =
      packets_between-split T g (g + 1) (f + 1) rising (omega arith) (omega (arith, is.high)) in
      let here : packets_between T g (f + 1) ≡ (frame_with_sending g).packets = split_n
      ∙ ap₂ ◌++◌ (frame_sends_its_packets g is.sends is.low (omega (arith, is.high))) none
      ∙ append-nil (frame_with_sending g).packets in (
        packets_between T first g,
        due g,
        is.same,
        shape g,
        until f ∙ split_g ∙ ap (λ ps. packets_between T first g ++ ps) here,
      )

  content : (f row column : ℕ) → first_frame T ≤ f → f ≤ last_frame T → IsCell row column
      → shown w (on_air_until T f) row column ≡ cell (due f) row column
  content f row column low high named =
      let (before, page, same, good, is) = so_far f low high in
      grind (arith, nat_tests, sending_shows_the_page)

  spans : (f n : ℕ) → IsCleanSpan w (span (kind w) (take n (on_air_until T f)))
  spans f n =
      let some_of = sent_some frame_with_sending num p first (f + 1)
      (filter p (range_with_len first (last + 1 - first))) in
      let is : on_air_until T f ≡ flat_map (λ g. (frame_with_sending g).packets) some_of.0 =
      until f ∙ ap (λ frames. packets_between frames first (f + 1)) plan_has_the_selected_frames ∙
      some_of.1 in
      subst (λ ps. IsCleanSpan w (span (kind w) (take n ps))) (sym is)
      (rows_of_page_are_clean w ok.page _
      (law_of_cut_sendings w programme.drawing.national serial due some_of.0 n ok.page shape))

  abbrev HasSerialMode : List ℕ → Type 0
  HasSerialMode packet = (h : Header) → header packet ≡ Some h → c11 h ≡ serial

  repeats : Repeats w o.every T
  repeats start low high =
      let found = every_gap_has_a_sending due o.every first last start ok.least
      (omega (arith, first_is, low)) (omega (arith, last_is, high)) in (
        found.0,
        found.1,
        found.2,
        sent_frame_has_header found.0 found.3
            (omega (arith, found.1, first_is, low)) (omega (arith, found.2, last_is, high)),
      )

  some : 0 < length T
  some = subst (λ frames. 0 < length frames) (sym starts) (omega arith)

  good : IfSome o.pace (λ frames. o.every ≤ frames) → Good programme T o
  good slow =
      let serially : EachPacket HasSerialMode T = each_sent HasSerialMode (λ packet is. is.mode) in
      record {
        rules = record {
          not_empty = some;
          rising = rising;
          whole = each_sent (λ packet. length packet ≡ 42) (λ packet is. is.whole.size);
          starts = subst (λ x. IfSome x (λ t. first_frame T ≤ t)) tci (omega (arith, first_is));
          lasts = subst (λ x. IfSome x (λ t. t ≤ last_frame T)) tco (omega (arith, last_is));
          exact = each_sent HasExactCodeWords (λ packet is. is.exact);
          serial = λ k d l i e b k' d' l' i' e' b' h h' is is'. serially k d l i e b h is
              ∙ sym (serially k' d' l' i' e' b' h' is');
          control = each_sent (IsControlled programme.drawing.national w)
              (λ packet is h e.
              subst (IsSubtitleHeader programme.drawing.national) (sym (is.page_header h e))
              (header_is_subtitle_header w programme.drawing.national serial));
          spans = λ f n l. spans f n;
          opens = subst (λ g. IsTrue (has_page_header (kind w) (packets_of T g))) (sym first_is)
              (sent_frame_has_header first first_frame_is_sent (omega arith) order);
          repeats = repeats;
          paced = λ frames f asks.
              let slow_is = subst (λ x. IfSome x (λ k. o.every ≤ k)) asks slow in
              repeated_header_keeps_pace (watched_of programme o) o.every frames T some slow_is
              repeats f;
        };
        content = content;
      }

  complete : Complete T o
  complete f low high holds =
      let (before, page, same, shaped, is) = so_far f low high in
      ap (has_no_page_end (kind w)) is
      ∙ sending_ends_the_page w programme.drawing.national serial page ok.page shaped before

plan_between_cues_is_good : (programme : ProgrammeValue) (o : OptionsValue) (serial : Bool)
    (a b : Option ℕ)
    → a ≡ first_tci programme.records
    → b ≡ last_tco programme.records
    → IsProgramme programme.drawing programme.records
    → (programme.records ≡ [] → ⊥)
    → IsOptions o
    → (IfSome o.pace (λ frames. o.every ≤ frames) → Good programme (planned programme o serial) o)
    × Complete (planned programme o serial) o
plan_between_cues_is_good programme o serial None b h k is some ok = absurd
    (some (no_first_tci_means_empty programme.records h))
plan_between_cues_is_good programme o serial (Some a) None h k is some ok = grind
    (arith, nat_tests, no_last_tco_means_empty)
plan_between_cues_is_good programme o serial (Some a) (Some b) h k is some ok =
    let s = span-rises programme.drawing programme.records a b is h k in
    let order : a ≤ b = omega (arith, s.rises) in
    (good programme o serial a b h k ok order, complete programme o serial a b h k ok order)

pub law_of_plan : LawOfPlan
law_of_plan programme o serial is some ok slow =
    (plan_between_cues_is_good programme o serial (first_tci programme.records)
    (last_tco programme.records) refl refl is some ok).0 slow

pub law_of_complete_plan : LawOfCompletePlan
law_of_complete_plan programme o serial is some ok =
    (plan_between_cues_is_good programme o serial (first_tci programme.records)
    (last_tco programme.records) refl refl is some ok).1

module _
    (o : OptionsValue) (ok : IsOptions o) (national : National) (serial : Bool) (due : ℕ → Rows)
    (shape : (f : ℕ) → IsPage (due f))
  where
    is_read_fault : (f : ℕ)
        → f < day
        → IsReadAs (clock_of o) (pes_value o.origin (sending o.page national serial (due f)) f)
        (planned_at due o national serial f)
    is_read_fault f in_day =
        let packets : List (List ℕ) = sending o.page national serial (due f) in
        let each : All IsPacket packets =
        let sent = sending_has_sent_packets o.page national serial (due f) ok.page (shape f) in
        grind (arith, nat_tests, All-weaker) in
        record {
          frame = law_of_clock o.within o.origin f ok.origin in_day;
          packets =
              sym (numbered_frame_is_valid (pts_of o.origin f) packets
              (mod-lt (o.origin + 3600 * f) (lit< tt))
              (omega (arith, law_of_size o.page national serial (due f)))
              (recursion_from_All IsPacket packets each)).1;
        }

    sendings_read :
        (given : ℕ) (frames : List ℕ)
        → given + length frames ≤ max_pes_packets
        → AllByRecursion (λ f. f < day) frames
        → ReadsAs (clock_of o) given (sendings_at due o national serial frames)
        (map (planned_at due o national serial) frames) None
    sendings_read given [] few in_day =
        reads_ended (clock_of o) given [] (omega arith) (nothing given [] refl)
    sendings_read given (f ∷ fs) few in_day =
        let v : PesValue = pes_value o.origin (sending o.page national serial (due f)) f in
        let back =
        written_packet_reads_back given v (sendings_at due o national serial fs) (λ e. omega arith)
        (law_of_pes_values o national serial (due f) f ok (shape f)) in
        reads_more (clock_of o) given (sendings_at due o national serial (f ∷ fs)) v
        (planned_at due o national serial f) (map (planned_at due o national serial) fs) None
        (omega arith) back.0 (is_read_fault f in_day.0)
        (subst
        (λ bytes. ReadsAs (clock_of o) (given + 1) bytes (map (planned_at due o national serial) fs)
        None) (sym back.1) (sendings_read (given + 1) fs (omega arith) in_day.1))

few_between :
    (programme : ProgrammeValue) (every : ℕ) (a b : Option ℕ)
    → a ≡ first_tci programme.records
    → b ≡ last_tco programme.records
    → IsProgramme programme.drawing programme.records
    → length (sendings_between (due_page_in programme) every a b) ≤ max_pes_packets
unfolding sendings_from
few_between programme every None b h k is = omega arith
few_between programme every (Some a) None h k is = omega arith
few_between programme every (Some a) (Some b) h k is =
    grind (
      arith,
      nat_tests,
      span-rises programme.drawing programme.records a b is h k,
      filter_is_no_longer (is_sending (due_page_in programme) every a b)
          (range_with_len a (b + 1 - a)),
      length-range_with_len a (b + 1 - a),
    )

pub law_of_plan_read : LawOfPlanRead
law_of_plan_read programme options serial is ok =
    sendings_read options ok programme.drawing.national serial (due_page_in programme)
    (λ f. due_is_page programme.drawing programme.records f) 0
    (plan_frames programme options.every)
    (omega (
      arith,
      few_between programme options.every (first_tci programme.records)
          (last_tco programme.records) refl refl is,
    ))
    (grind (arith, nat_tests, recursion_from_All, law_of_day programme options.every is))
