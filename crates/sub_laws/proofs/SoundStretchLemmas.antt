-- A receiver that starts anywhere in a range of frames and listens for the repeat bound gets a
-- header of the page. After a header it has the text that the packets of the range send, apart from
-- cells that noise or loss excuses.
use Rattle.std.proofs.lemmas.Bool.Decides.{nat_tests}
use Rattle.std.proofs.Common.{◌≡◌, ℕ, ◌+◌, ◌≤◌, ◌&&◌, Bool, true, false, List, [], ◌∷◌}
use Rattle.std.proofs.Common.{◌++◌}
use Rattle.std.proofs.Common.{drop, take, refl, sym, ap, ◌∙◌, subst, arith, append_assoc, le_trans}
use Rattle.std.proofs.Common.{take-append-drop}
use Rattle.std.specs.List.{AllByRecursion, AllZip, items_where_true}
use Rattle.std.proofs.lemmas.List.{drop-append-le}
use Rattle.std.proofs.lemmas.List.Elements.{recursion_from_All}
use Rattle.ttx_packet.specs.OneBit.{AreNear}
use Rattle.ttx_packet.specs.PageHeader.{HasExactCodeWords}
use Rattle.ttx_packet.specs.PageId.{PageIdValue}
use Rattle.ttx_page.specs.declared.packet_kind.PacketKind.{PacketKind}
use Rattle.ttx_page.specs.DroppedRows.{ExcusedBy}
use Rattle.ttx_page.specs.LostRows.{IsHitOrLost, LosesNoHeader, arrivals_from_flags}
use Rattle.ttx_page.specs.PacketKind.{kind}
use Rattle.ttx_page.specs.Receiver.{ReceiverClass, State}
use Rattle.ttx_page.specs.Repeats.{EndsAfterRepeats, HearsRepeats, SendsOnlyRowsOfText}
use Rattle.ttx_page.specs.Shown.{kept}
use Rattle.ttx_page.specs.Span.{has_page_header, is_open_after, has_no_page_end, span}
use Rattle.ttx_page.proofs.LateStart.{sends-later, span-later, unended-later}
use Rattle.ttx_page.proofs.RepeatLaws.{law_of_repeats}
use Rattle.ttx_page.proofs.NoiseStepLemmas.{kind-near, lost_packet_is_no_header}
use Rattle.ttx_page.proofs.SpanListLemmas.{holds-append_left, holds-append_right}
use Rattle.ttx_page.proofs.TextStart.{sound_packets_send_text, sending_text_is_sound}
use Rattle.sub_plan.specs.Options.{OptionsValue}
use Rattle.sub_rules.specs.Repeats.{IsPageClosed}
use Rattle.sub_rules.specs.Transmission.{Transmission, first_frame, packets_between}
use Rattle.sub_rules.specs.Transmission.{on_air, on_air_until, packets_of}
use Rattle.sub_laws.specs.LostRows.{IsReceivedWithLosses}
use Rattle.sub_laws.specs.Repeats.{IsSoundStretchWithRepeats}
use Rattle.sub_laws.specs.Robust.{IsListening}
use Rattle.sub_laws.specs.Sufficient.{IsSoundStretch}
use Rattle.sub_laws.proofs.TransmissionLemmas.{packets_between-split}

pub first_true_makes_second_false : (x y : Bool) → (x && y) ≡ false → x ≡ true → y ≡ false
first_true_makes_second_false x y h1 h2 = grind (arith, nat_tests)

module _ (transmission : Transmission) (options : OptionsValue) (a b : ℕ)
    (stretch : IsSoundStretch transmission options a b) where
  abbrev on_air_from_a : ℕ → List (List ℕ)
  on_air_from_a f = on_air transmission a 0 f

  sends_from :
      (f : ℕ)
      → a ≤ f
      → f ≤ b
      → SendsOnlyRowsOfText false options.page (on_air_from_a f)
      (kept false options.page (on_air_until transmission f))
  sends_from f low high =
      subst
      (λ (ps : List (List ℕ)). SendsOnlyRowsOfText false options.page (on_air_from_a f)
      (kept false options.page ps))
      (sym
      (packets_between-split transmission (first_frame transmission) a (f + 1) stretch.rising
      stretch.first (omega arith)))
      (sound_packets_send_text options.page (packets_between transmission (first_frame transmission)
      a)
      (on_air_from_a f) (stretch.sound f low high))

  pub sound_stretch_is_repeated : IsSoundStretchWithRepeats false transmission options a b
  sound_stretch_is_repeated = assumption (sends_from, stretch)

pub sound_of_repeated :
    (transmission : Transmission) (options : OptionsValue) (a b : ℕ)
    → IsSoundStretchWithRepeats false transmission options a b
    → IsSoundStretch transmission options a b
sound_of_repeated transmission options a b stretch = record {
  first = stretch.first;
  rising = stretch.rising;
  sound = λ f low high.
      sending_text_is_sound options.page (on_air transmission a 0 f) _ (stretch.sends f low high);
  repeats = stretch.repeats;
}

module _ (keeps : Bool) (transmission : Transmission) (options : OptionsValue) (a b : ℕ)
    (stretch : IsSoundStretchWithRepeats keeps transmission options a b)
    (g j f : ℕ) (listening : IsListening transmission a b g j f) where
  abbrev K : List ℕ → PacketKind
  K = kind options.page

  abbrev sent : List (List ℕ)
  sent = on_air transmission g j f

  abbrev later : List (List ℕ)
  later = packets_between transmission (g + 1) (f + 1)

  pub on_air-cut : sent ≡ drop j (packets_of transmission g) ++ later
  on_air-cut =
      ap (drop j)
      (packets_between-split transmission g (g + 1) (f + 1) stretch.rising (omega arith)
      (omega (arith, listening.in_order)))
      ∙ drop-append-le j (packets_of transmission g) later listening.in_frame

  later_holds :
      (n : ℕ)
      → g + 1 ≤ n
      → n ≤ f
      → has_page_header K (packets_of transmission n) ≡ true
      → has_page_header K later ≡ true
  later_holds n above below holds =
      let here : packets_between transmission n (f + 1)
      ≡ packets_of transmission n ++ packets_between transmission (n + 1) (f + 1) =
      packets_between-split transmission n (n + 1) (f + 1) stretch.rising (omega arith)
      (omega arith) in
      let split : later ≡ packets_between transmission (g + 1) n
      ++ packets_between transmission n (f + 1) =
      packets_between-split transmission (g + 1) n (f + 1) stretch.rising above (omega arith) in
      grind (arith, nat_tests, K, true, holds-append_right, holds-append_left)

  pub window_has_header : g + options.every ≤ f → has_page_header K sent ≡ true
  window_has_header far =
      let found =
      stretch.repeats (g + 1) (omega (arith, listening.from)) (omega (arith, listening.to)) in
      grind (arith, nat_tests, on_air-cut, holds-append_right, later_holds)

  abbrev before : ℕ → List (List ℕ)
  before c = packets_between transmission c g ++ take j (packets_between transmission g (f + 1))

  on_air-split : (c : ℕ) → c ≤ g → on_air transmission c 0 f ≡ before c ++ sent
  on_air-split c low =
      grind (arith, nat_tests, packets_between-split, take-append-drop, append_assoc)

  abbrev so_far : on_air_until transmission f ≡ before (first_frame transmission) ++ sent
  so_far = on_air-split (first_frame transmission) (le_trans stretch.first listening.from)

  pub heard_text :
      SendsOnlyRowsOfText keeps options.page sent
      (kept keeps options.page (on_air_until transmission f))
  heard_text =
      sends-later options.page (before a) sent keeps _
      (subst
      (λ (ps : List (List ℕ)).
      SendsOnlyRowsOfText keeps options.page ps
      (kept keeps options.page (on_air_until transmission f)))
      (on_air-split a listening.from)
      (stretch.sends f (le_trans listening.from listening.in_order) listening.to))

  pub span_so_far :
      has_page_header K sent ≡ true
      → span K (on_air_until transmission f) ≡ span K sent
  span_so_far holds =
      ap (span K) so_far ∙ span-later options.page (before (first_frame transmission)) sent holds

  pub ended :
      IsPageClosed options.page transmission f
      → has_page_header K sent ≡ true
      → has_no_page_end K sent ≡ false
  ended shut holds =
      sym (unended-later options.page (before (first_frame transmission)) sent holds)
      ∙ first_true_makes_second_false _ _ (ap (is_open_after K) (sym so_far) ∙ shut)
      (holds-append_right K (before (first_frame transmission)) sent holds)

holds-got :
    (w : PageIdValue) (sent : List (List ℕ)) (arrived : List Bool) (got : List (List ℕ))
    → AllByRecursion HasExactCodeWords sent
    → AllZip LosesNoHeader sent arrived
    → AllZip AreNear (items_where_true arrived sent) got
    → has_page_header (kind w) got ≡ has_page_header (kind w) sent
holds-got w [] [] [] exact may near = refl
holds-got w [] [] (g ∷ got) exact may near = grind arith
holds-got w [] (m ∷ arrived) got exact may near = grind arith
holds-got w (p ∷ ps) arrived got exact may near =
    grind (arith, nat_tests, lost_packet_is_no_header, kind-near, holds-got w ps)

module _ (keeps : Bool) (transmission : Transmission) (options : OptionsValue) (a b : ℕ)
    (stretch : IsSoundStretchWithRepeats keeps transmission options a b)
    (g j f : ℕ) (arrived : List Bool) (got : List (List ℕ))
    (is : IsReceivedWithLosses transmission a b g j f arrived got) where
  pub got_as :
      has_page_header (kind options.page) got
      ≡ has_page_header (kind options.page) (on_air transmission g j f)
  got_as =
      holds-got options.page (on_air transmission g j f) arrived got
      (recursion_from_All HasExactCodeWords (on_air transmission g j f)
      (heard_text keeps transmission options a b stretch g j f is.listening).exact)
      is.headers is.near

  pub forgetting :
      (anew : Bool) (class : ReceiverClass) (old new : State)
      → HearsRepeats class anew options.page old got new
      → EndsAfterRepeats keeps anew options.page (on_air transmission g j f)
      (kept keeps options.page (on_air_until transmission f))
      (ExcusedBy class
      (IsHitOrLost options.page (on_air transmission g j f) (arrivals_from_flags arrived got)))
      old new
  forgetting anew class old new hears =
      law_of_repeats keeps anew class options.page (on_air transmission g j f) arrived got _ old new
      (heard_text keeps transmission options a b stretch g j f is.listening) is.headers is.near
      hears
