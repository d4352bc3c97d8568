-- A property of all packets holds for the packets of each frame, and a frame has a header of the
-- page exactly if an entry of the transmission with its number has one.
use Rattle.std.proofs.Common.{◌≡◌, ℕ, zero, suc, ◌+◌, ◌-◌, ◌<◌, inl, inr, Bool, true, cond, ◌&&◌}
use Rattle.std.proofs.Common.{nat_le, nat_lt, List, [], ◌∷◌, ◌++◌, length, get_or, All, refl, ap}
use Rattle.std.proofs.Common.{arith, ◌⊎◌, ◌≤◌}
use Rattle.std.specs.List.{AllByRecursion, flat_map, list_any}
use Rattle.std.proofs.lemmas.List.{take_all}
use Rattle.std.proofs.lemmas.List.Elements.{All-from_recursion}
use Rattle.std.proofs.lemmas.List.Folds.{list_any-append}
use Rattle.std.proofs.lemmas.Bool.Decides.{nat_tests}
use Rattle.sub_rules.specs.FrameRules.{frame_at, packets_of_frame, packets_before}
use Rattle.sub_rules.specs.declared.packet_rule.Watched.{Watched}
use Rattle.ttx_page.specs.PacketKind.{kind, is_this_page}
use Rattle.ttx_page.specs.Span.{has_page_header}
use Rattle.sub_rules.specs.Transmission.{SentFrame, Transmission, EachPacket, IsRising, packets_of}
use Rattle.sub_rules.specs.Transmission.{first_frame, last_frame}
use Rattle.sub_rules.specs.Good.{Repeats}
use Rattle.std.proofs.lemmas.Bool.{cases_lt}

Each-left : (P : List ℕ → Type 0) (xs ys : List (List ℕ)) → AllByRecursion P (xs ++ ys)
    → AllByRecursion P xs × AllByRecursion P ys
Each-left P [] ys h = (tt, h)
Each-left P (x ∷ xs) ys h = let r = Each-left P xs ys h.1 in ((h.0, r.0), r.1)

Each-parts : (P : List ℕ → Type 0) (t : Transmission)
    → AllByRecursion P (flat_map (λ (s : SentFrame). s.packets) t)
    → AllByRecursion (λ (s : SentFrame). All P s.packets) t
Each-parts P [] h = tt
Each-parts P (s ∷ ss) h = let r =
    Each-left P s.packets (flat_map (λ (x : SentFrame). x.packets) ss) h in
    (All-from_recursion P s.packets r.0, Each-parts P ss r.1)

abbrev pub whole : Transmission → List (List ℕ)
whole frames = packets_before frames (length frames)

pub whole-is : (t : Transmission) → whole t ≡ flat_map (λ (s : SentFrame). s.packets) t
whole-is t = ap (flat_map (λ (s : SentFrame). s.packets)) (take_all (length t) t (omega arith))

pub each_of_all_packets_holds : (P : List ℕ → Type 0) (t : Transmission) → AllByRecursion P
    (whole t)
    → EachPacket P t
each_of_all_packets_holds P t h = grind (arith, All-from_recursion, Each-parts, whole-is)

pub passing_packet_is_in_frame : (test : List ℕ → Bool) (t : Transmission) (j n : ℕ)
    → j < length t
    → frame_at t j ≡ n
    → list_any test (packets_of_frame t j) ≡ true
    → list_any test (packets_of t n) ≡ true
passing_packet_is_in_frame test [] j n l e h = grind (arith, nat_tests)
passing_packet_is_in_frame test (s ∷ ss) zero n l e h = grind (arith, nat_tests, list_any-append)
passing_packet_is_in_frame test (s ∷ ss) (suc j) n l e h =
    grind (
      arith,
      nat_tests,
      list_any-append,
      (passing_packet_is_in_frame test ss j n (omega arith)
          e h),
    )

pub header_at_index_is_in_frame : (w : Watched) (t : Transmission) (j n : ℕ) → j < length t →
    frame_at t j ≡ n
    → has_page_header (kind w.page) (packets_of_frame t j) ≡ true
    → has_page_header (kind w.page) (packets_of t n) ≡ true
header_at_index_is_in_frame w t j n l e h = passing_packet_is_in_frame
    (λ p. is_this_page (kind w.page p)) t j n l e h

pub entry_has_its_frame_number : (t : Transmission) (i : ℕ) (d : SentFrame) → i < length t
    → (get_or t i d).frame ≡ frame_at t i
entry_has_its_frame_number [] i d l = absurd (omega arith)
entry_has_its_frame_number (s ∷ ss) zero d l = refl
entry_has_its_frame_number (s ∷ ss) (suc i) d l = entry_has_its_frame_number ss i d (omega arith)

pub rising_frames_rise_at_each_index : (t : Transmission) → IsRising t → (i : ℕ) → 0 < i → i <
    length t
    → frame_at t (i - 1) < frame_at t i
rising_frames_rise_at_each_index t rising i a l =
    let nothing : SentFrame = record { frame = 0; packets = [] } in
    grind (
      arith,
      nat_tests,
      entry_has_its_frame_number t (i - 1) nothing,
      entry_has_its_frame_number t i nothing l,
    )

any-split : {X : Type 0} (f : X → Bool) (xs ys : List X) → list_any f (xs ++ ys) ≡ true
    → (list_any f xs ≡ true) ⊎ (list_any f ys ≡ true)
any-split f xs ys e = let both = list_any-append f xs ys in grind arith

pub header_in_frame_has_an_index : (w : Watched) (t : Transmission) (n : ℕ)
    → has_page_header (kind w.page) (packets_of t n) ≡ true
    → (j : ℕ) × (j < length t) × (frame_at t j ≡ n) ×
    (has_page_header (kind w.page) (packets_of_frame t j) ≡ true)
header_in_frame_has_an_index w [] n e = cc
header_in_frame_has_an_index w (s ∷ ss) n e =
    let later = header_in_frame_has_an_index w ss n in
    elim (any-split (λ x. is_this_page (kind w.page x))
    (cond (nat_le n s.frame && nat_lt s.frame (n + 1)) s.packets []) (packets_of ss n) e) [
      | inl here ↦
          grind (arith, nat_tests)
      | inr there ↦ let r = later there in (suc r.0, omega (arith, r.1), r.2, r.3)
    ]

-- If a transmission is not empty and the headers of the page keep the repeat bound, the PES packets
-- keep any pace that is not less than the repeat bound.
pub repeated_header_keeps_pace : (w : Watched) (every frames : ℕ) (t : Transmission) → 0 < length t
    → every ≤ frames
    → Repeats w.page every t
    → (f : ℕ) → first_frame t ≤ f → f ≤ last_frame t
    → (j : ℕ) × (j < length t) × (frame_at t j ≤ f) × (f < frame_at t j + frames)
repeated_header_keeps_pace w every frames [] some l repeats f low high = absurd (omega arith)
repeated_header_keeps_pace w every frames (s ∷ ss) some l repeats f low high =
    elim (cases_lt f (s.frame + frames)) [
      | inl early ↦ (0, some, low, early)
      | inr late ↦
          let (g, from, to, holds) = repeats (f + 1 - every) (omega arith) (omega arith) in
          let (j, there, at, has) = header_in_frame_has_an_index w (s ∷ ss) g holds in
          (j, there, omega arith, omega arith)
    ]
