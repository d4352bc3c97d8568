-- If each packet in a range of frames is allowed after the packets before it, and a header is sent
-- within the repeat bound, the range meets the conditions for recovery, apart from the text.
use Rattle.std.proofs.lemmas.Bool.Decides.{nat_tests}
use Rattle.std.proofs.Common.{◌≡◌, ℕ, ◌+◌, ◌-◌, ◌<◌, ◌≤◌, inl, inr, Bool, List, [], ◌++◌, length}
use Rattle.std.proofs.Common.{take, slice_index_or, sym, ◌∙◌, subst, arith}
use Rattle.std.proofs.lemmas.Bool.{cases_lt}
use Rattle.std.proofs.lemmas.List.{append-nil, get_or-append-add, length-append, length-take}
use Rattle.std.proofs.Math.Seq.{take-append-add}
use Rattle.ttx_packet.specs.PageId.{PageIdValue}
use Rattle.ttx_page.specs.Repeats.{MayFollow, SendsOnlyRowsOfText}
use Rattle.ttx_page.specs.Shown.{kept}
use Rattle.ttx_page.proofs.TextStart.{sends-joined}
use Rattle.sub_rules.specs.FrameRules.{frame_at, packets_before, packets_of_frame}
use Rattle.sub_rules.specs.Transmission.{IsRising, Transmission, first_frame, on_air_until}
use Rattle.sub_rules.specs.Transmission.{packets_between}
use Rattle.sub_laws.specs.CleanStretch.{IsEnd, IsWithinTransmission}
use Rattle.sub_laws.specs.Repeats.{LawOfFollowedStretch}
use Rattle.sub_rules.proofs.FrameLists.{packets_before_appends_next_frame}
use Rattle.sub_laws.proofs.GoodLemmas.{rising_frames_rise_at_each_index}
use Rattle.sub_laws.proofs.PrefixLemmas.{EachPacketAfterEarlier, RiseTo, before}
use Rattle.sub_laws.proofs.PrefixLemmas.{indexed_packets_hold_after_earlier, frame_has_its_end}
use Rattle.sub_laws.proofs.PrefixLemmas.{first-same}
use Rattle.sub_laws.proofs.PrefixLemmas.{last-same, packets_on_air_at_sent_frame, packet_at}
use Rattle.sub_laws.proofs.PrefixLemmas.{rising_frames_are_ordered}
use Rattle.sub_laws.proofs.TransmissionLemmas.{packets_between-split}

no_packets_send_no_text : (keeps : Bool) (page : PageIdValue) (text : ℕ → ℕ → ℕ)
    → SendsOnlyRowsOfText keeps page [] text
no_packets_send_no_text keeps page text = grind (arith, nat_tests)

module _ (transmission : Transmission) (a b : ℕ) (stretch : IsWithinTransmission transmission a b)
    (rises : IsRising transmission) where
  pub rising : RiseTo transmission (length transmission)
  rising = rising_frames_rise_at_each_index transmission rises

  pub frame_has_an_end : (f : ℕ) → a ≤ f → f ≤ b
      → (n : ℕ)
      × IsEnd transmission n f
      × (on_air_until transmission f ≡ packets_before transmission n)
      × (frame_at transmission (n - 1) ≤ f)
  frame_has_an_end f low high = grind (
    arith,
    nat_tests,
    first-same,
    last-same,
    frame_has_its_end,
    rising,
  )

  abbrev earlier : List (List ℕ)
  earlier = packets_between transmission (first_frame transmission) a

  not_earlier :
      (i k : ℕ)
      → i < length transmission
      → k < length (packets_of_frame transmission i)
      → length earlier ≤ length (before transmission i k)
      → a ≤ frame_at transmission i
  not_earlier i k l m far = elim (cases_lt (frame_at transmission i) a) [
    | inr from ↦ from
    | inl early ↦
        let first = first-same transmission in
        let low = rising_frames_are_ordered transmission (length transmission) rising 0 i
        (omega arith) l in
        let split =
        packets_between-split transmission (first_frame transmission)
        (frame_at transmission i + 1) a rises (omega arith) (omega arith) in
        let here = packets_on_air_at_sent_frame transmission rising i l ∙
        packets_before_appends_next_frame transmission i l in
        grind (arith, nat_tests, length-append, length-take)
  ]

  packets_send_text_from_start : (keeps : Bool) (page : PageIdValue)
      → ((i k : ℕ)
      → i < length transmission
      → k < length (packets_of_frame transmission i)
      → a ≤ frame_at transmission i
      → frame_at transmission i ≤ b
      → MayFollow keeps page (before transmission i k) (packet_at transmission i k))
      → (f : ℕ)
      → a ≤ f
      → f ≤ b
      → SendsOnlyRowsOfText keeps page (packets_between transmission a (f + 1))
      (kept keeps page (on_air_until transmission f))
  packets_send_text_from_start keeps page fit f low high =
      let (n, end, on, last) = frame_has_an_end f low high in
      let more : List (List ℕ) = packets_between transmission a (f + 1) in
      let split : on_air_until transmission f ≡ earlier ++ more =
      packets_between-split transmission (first_frame transmission) a (f + 1) rises stretch.from
      (omega arith) in
      let Fits : List (List ℕ) → List ℕ → Type 0 =
      λ heard p. length earlier ≤ length heard → MayFollow keeps page heard p in
      let each : EachPacketAfterEarlier Fits (earlier ++ more) =
      subst (EachPacketAfterEarlier Fits) (sym on ∙ split)
      (indexed_packets_hold_after_earlier Fits transmission n end.1 (λ i k l m far.
      let there : i < length transmission = omega (arith, end.1) in
      let up = rising_frames_are_ordered transmission (length transmission) rising i (n - 1)
      (omega arith)
      (omega (arith, end.0, end.1)) in
      fit i k there m (not_earlier i k there m far) (omega arith))) in
      let sends : SendsOnlyRowsOfText keeps page more (kept keeps page ((earlier ++ []) ++ more)) =
      sends-joined keeps page earlier [] more (no_packets_send_no_text keeps page _)
      (λ k l.
      let at : MayFollow keeps page (earlier ++ take k more) (slice_index_or more k []) =
      rw (← (take-append-add earlier more k), ← (get_or-append-add earlier more k []))
      (grind (arith, nat_tests, length-append, length-take)) in
      rw append-nil at) in
      grind (arith, nat_tests, append-nil)

pub law_of_followed_stretch : LawOfFollowedStretch
law_of_followed_stretch keeps transmission options a b followed = record {
  first = followed.stretch.from;
  rising = followed.rising;
  sends =
      packets_send_text_from_start transmission a b followed.stretch followed.rising keeps
      options.page
      followed.packets;
  repeats = followed.repeats;
}
