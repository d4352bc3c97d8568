-- If the empty list has a property that each further packet preserves, each prefix of a
-- transmission's packets has it.
use Rattle.std.proofs.lemmas.Bool.Decides.{nat_tests}
use Rattle.std.proofs.Common.{◌≡◌, ℕ, zero, suc, ◌+◌, ◌-◌, ◌<◌, ◌≤◌, ◌⊎◌, inl, inr, ◌&&◌, nat_le}
use Rattle.std.proofs.Common.{cond, List, [], ◌∷◌, ◌++◌, length, take, get_or, refl, sym, ap, ap₂}
use Rattle.std.proofs.Common.{◌∙◌, subst, arith, append_assoc, map}
use Rattle.std.proofs.lemmas.List.{take_more, take_all, append-nil, get_or-map, get_or_default}
use Rattle.std.proofs.lemmas.List.{get_or-append-add, get_or_append_left, length_push}
use Rattle.std.proofs.lemmas.List.{take-append-le, get_or-take, length-take-le, take-map}
use Rattle.std.proofs.Math.Seq.{take-append-add}
use Rattle.std.proofs.lemmas.Bool.{cases_eq, cases_lt, le-leb, le-ltb, lt-ltb, and_right}
use Rattle.sub_rules.specs.Transmission.{EachPacket, IsRising, SentFrame, Transmission, first_frame}
use Rattle.sub_rules.specs.Transmission.{last_frame, on_air_until, packets_between}
use Rattle.sub_rules.specs.FrameRules.{end_frame, frame_at, packets_of_frame, packets_before}
use Rattle.sub_laws.specs.CleanStretch.{IsEnd}
use Rattle.sub_rules.proofs.FrameLists.{packets_before_appends_next_frame}
use Rattle.sub_laws.proofs.GoodLemmas.{entry_has_its_frame_number}

abbrev pub IsInGap : Transmission → ℕ → ℕ → Type 0
IsInGap frames i f =
    (0 < i) × (i < length frames) × (frame_at frames (i - 1) < f) × (f < frame_at frames i)

abbrev pub before : Transmission → ℕ → ℕ → List (List ℕ)
before t i k = packets_before t i ++ take k (packets_of_frame t i)

abbrev pub packet_at : Transmission → ℕ → ℕ → List ℕ
packet_at t i k = get_or (packets_of_frame t i) k []

pub packet_is_appended_to_earlier : (t : Transmission) (i k : ℕ) → k < length (packets_of_frame t i)
    → before t i (k + 1) ≡ before t i k ++ packet_at t i k ∷ []
packet_is_appended_to_earlier t i k l = grind (arith, nat_tests, take_more, append_assoc)

first_packet_follows_earlier_frames : (t : Transmission) (i : ℕ) → before t i 0 ≡ packets_before t i
first_packet_follows_earlier_frames t i = append-nil (packets_before t i)

last_packet_completes_frame : (t : Transmission) (i : ℕ) → i < length t
    → before t i (length (packets_of_frame t i)) ≡ packets_before t (i + 1)
last_packet_completes_frame t i l = grind (arith, take_all, packets_before_appends_next_frame)

-- A property of lists of packets that holds for the empty list and is preserved by each packet of
-- the first m frames holds for each prefix of their packets.
module _ (t : Transmission) (m : ℕ) (fits : m ≤ length t) (Q : List (List ℕ) → Type 0) (none : Q [])
    (more : (i k : ℕ) → i < m → k < length (packets_of_frame t i) → Q (before t i k)
    → Q (before t i k ++ packet_at t i k ∷ [])) where
  within : (i : ℕ) → i < m → Q (packets_before t i) → (k : ℕ) → k ≤ length (packets_of_frame t i)
      → Q (before t i k)
  within i l base zero h = grind (arith, nat_tests, first_packet_follows_earlier_frames)
  within i l base (suc k) h =
      grind (arith, nat_tests, packet_is_appended_to_earlier, (within i l base k (omega arith)))

  pub condition_holds_at_frame_start : (n : ℕ) → n ≤ m → Q (packets_before t n)
  condition_holds_at_frame_start zero h = none
  condition_holds_at_frame_start (suc n) h =
      let e : n + 1 ≡ suc n = omega arith in
      subst (λ c. Q (packets_before t c)) e
      (subst Q (last_packet_completes_frame t n (omega arith))
      (within n (omega arith) (condition_holds_at_frame_start n (omega arith))
      (length (packets_of_frame t n))
      (omega arith)))

  pub condition_holds_at_packet : (i k : ℕ) → i < m → k ≤ length (packets_of_frame t i) → Q
      (before t i k)
  condition_holds_at_packet i k l h = within i l (condition_holds_at_frame_start i (omega arith)) k
      h

-- Each packet of the list has the property `Holds`, given the packets before it.
abbrev pub EachPacketAfterEarlier : (List (List ℕ) → List ℕ → Type 0) → List (List ℕ) → Type 0
EachPacketAfterEarlier Holds packets =
    (k : ℕ) → k < length packets → Holds (take k packets) (get_or packets k [])

pub EachPacketAfterEarlier-push : (Holds : List (List ℕ) → List ℕ → Type 0) (xs : List (List ℕ))
    (p : List ℕ)
    → EachPacketAfterEarlier Holds xs → Holds xs p → EachPacketAfterEarlier Holds (xs ++ p ∷ [])
EachPacketAfterEarlier-push Holds xs p each more k l = elim (cases_lt k (length xs)) [
  | inl within ↦
      grind (arith, nat_tests, get_or_append_left, within, take-append-le)
  | inr past ↦
      let at : length xs + 0 ≡ k = omega (arith, length_push xs p) in
      grind (arith, nat_tests, get_or-append-add, take-append-add, append-nil)
]

pub indexed_packets_hold_after_earlier : (Holds : List (List ℕ) → List ℕ → Type 0)
    (t : Transmission) (m : ℕ)
    → m ≤ length t
    → ((i k : ℕ) → i < m → k < length (packets_of_frame t i)
    → Holds (before t i k) (packet_at t i k))
    → EachPacketAfterEarlier Holds (packets_before t m)
indexed_packets_hold_after_earlier Holds t m fits each =
    grind (
      arith,
      nat_tests,
      condition_holds_at_frame_start t m fits (EachPacketAfterEarlier Holds),
      EachPacketAfterEarlier-push Holds,
    )

pub indexed_packet_holds : (P : List ℕ → Type 0) (t : Transmission) (i k : ℕ) → EachPacket P t → i <
    length t
    → k < length (packets_of_frame t i) → P (packet_at t i k)
indexed_packet_holds P t i k each l m =
    let d : SentFrame = record { frame = 0; packets = [] } in
    let at = get_or-map (λ (s : SentFrame). s.packets) t i d [] l in
    subst (λ ps. P (get_or ps k [])) (sym at) (each i d l k [] (subst (λ ps. k < length ps) at m))

pub indexed_packets_hold_for_each : (P : List ℕ → Type 0) (t : Transmission)
    → ((i k : ℕ) → i < length t → k < length (packets_of_frame t i) → P (packet_at t i k))
    → EachPacket P t
indexed_packets_hold_for_each P t every i d l k e m =
    grind (arith, nat_tests, get_or-map, get_or_default (packets_of_frame t i) k)

-- The frame numbers of the first n frames increase.
abbrev pub RiseTo : Transmission → ℕ → Type 0
RiseTo t n = (i : ℕ) → 0 < i → i < n → frame_at t (i - 1) < frame_at t i

pub rising_frames_are_ordered : (t : Transmission) (n : ℕ) → RiseTo t n → (i j : ℕ) → i ≤ j → j < n
    → frame_at t i ≤ frame_at t j
rising_frames_are_ordered t n rises i zero l m = grind (arith, nat_tests)
rising_frames_are_ordered t n rises i (suc j) l m = elim (cases_eq i (suc j)) [
  | inl same ↦ let e = ap (frame_at t) same in omega arith
  | inr other ↦
      let e : frame_at t (suc j - 1) ≡ frame_at t j = ap (frame_at t) (omega arith) in
      let one = rises (suc j) (omega arith) m in
      let rest = rising_frames_are_ordered t n rises i j (omega arith) (omega arith) in
      omega arith
]

module _ (t : Transmission) (rising : RiseTo t (length t)) where
  pub rising_frames_are_strictly_ordered : (i j : ℕ) → i < j → j < length t → frame_at t i <
      frame_at t j
  rising_frames_are_strictly_ordered i j h l =
      grind (arith, nat_tests, rising_frames_are_ordered t (length t) rising i (j - 1))

  pub frame_is_sent_or_skipped : (n f : ℕ) → n < length t → frame_at t 0 ≤ f → f ≤ frame_at t n
      → ((i : ℕ) × (i < length t) × (frame_at t i ≡ f)) ⊎ ((i : ℕ) × IsInGap t i f)
  frame_is_sent_or_skipped zero f l a b = inl (0, l, omega arith)
  frame_is_sent_or_skipped (suc n) f l a b = elim (cases_eq f (frame_at t (suc n))) [
    | inl e ↦ inl (suc n, l, sym e)
    | inr other ↦ elim (cases_lt (frame_at t n) f) [
      | inl after ↦ grind (arith, nat_tests)
      | inr before ↦ frame_is_sent_or_skipped n f (omega arith) a before
    ]
  ]

pub first-same : (t : Transmission) → first_frame t ≡ frame_at t 0
first-same t = grind arith

pub last-same : (t : Transmission) → last_frame t ≡ end_frame t
last-same [] = refl
last-same (s ∷ []) = refl
last-same (s ∷ u ∷ us) = grind (arith, nat_tests, last-same (u ∷ us))

packets_between_are_a_prefix : (t : Transmission) (n a b : ℕ)
    → ((j : ℕ) → j < length t → j < n → (a ≤ frame_at t j) × (frame_at t j < b))
    → ((j : ℕ) → n ≤ j → j < length t → b ≤ frame_at t j)
    → packets_between t a b ≡ packets_before t n
packets_between_are_a_prefix [] zero a b inside after = refl
packets_between_are_a_prefix [] (suc n) a b inside after = refl
packets_between_are_a_prefix (s ∷ ss) zero a b inside after =
    let l = after 0 (omega arith) (omega arith) in
    ap₂ ◌++◌ (ap (λ x. cond x s.packets []) (and_right (nat_le a s.frame) _ (le-ltb s.frame b l)))
    (packets_between_are_a_prefix ss zero a b (λ j l m. absurd (omega arith))
    (λ j l m. after (suc j) (omega arith) (omega arith)))
packets_between_are_a_prefix (s ∷ ss) (suc n) a b inside after =
    let l = inside 0 (omega arith) (omega arith) in
    ap₂ ◌++◌
    (ap₂ (λ x y. cond (x && y) s.packets []) (le-leb a s.frame l.0) (lt-ltb s.frame b l.1))
    (packets_between_are_a_prefix ss n a b (λ j l m. inside (suc j) (omega arith) (omega arith))
    (λ j l m. after (suc j) (omega arith) (omega arith)))

module _ (t : Transmission) (rising : RiseTo t (length t)) where
  pub packets_on_air_are_a_prefix : (n f : ℕ) → n ≤ length t → (0 < n → frame_at t (n - 1) ≤ f)
      → (n < length t → f < frame_at t n) → on_air_until t f ≡ packets_before t n
  packets_on_air_are_a_prefix n f le low high =
      let first = first-same t in
      packets_between_are_a_prefix t n (first_frame t) (f + 1)
      (grind (
        arith,
        nat_tests,
        rising_frames_are_ordered t (length t) rising 0,
        rising_frames_are_ordered t (length t) rising,
      ))
      (grind (arith, nat_tests, rising_frames_are_ordered t (length t) rising n))

  pub packets_on_air_at_sent_frame : (i : ℕ) → i < length t → on_air_until t (frame_at t i) ≡
      packets_before t (i + 1)
  packets_on_air_at_sent_frame i l = grind (arith, nat_tests, packets_on_air_are_a_prefix)

  pub frame_has_its_end : (f : ℕ) → 0 < length t → frame_at t 0 ≤ f → f ≤ end_frame t
      → (n : ℕ) × IsEnd t n f × (on_air_until t f ≡ packets_before t n) × (frame_at t (n - 1) ≤ f)
  frame_has_its_end f some low high =
      elim (frame_is_sent_or_skipped t rising (length t - 1) f (omega arith) low high) [
        | inl (i, l, is) ↦
            grind (arith, nat_tests, packets_on_air_at_sent_frame i l)
        | inr (i, gap) ↦
            grind (
              arith,
              nat_tests,
              rising_frames_are_ordered t (length t) rising,
              packets_on_air_are_a_prefix i f,
            )
      ]

  end_is_after_last_packet : (n f : ℕ) → IsEnd t n f → frame_at t (n - 1) ≤ f
  end_is_after_last_packet n f h1 = grind (arith, nat_tests)

  pub end_is_before_later_frames : (n f : ℕ) → IsEnd t n f
      → (j : ℕ)
      → n ≤ j
      → j < length t
      → f < frame_at t j
  end_is_before_later_frames n f (some, le, inl own) j l m =
      let after = rising_frames_are_strictly_ordered t rising (n - 1) j (omega arith) m in omega
      arith
  end_is_before_later_frames n f (some, le, inr (there, later, earlier)) j l m =
      let after = rising_frames_are_ordered t (length t) rising n j l m in omega arith

  pub end_is_on_air : (n f : ℕ) → IsEnd t n f → on_air_until t f ≡ packets_before t n
  end_is_on_air n f end =
      packets_on_air_are_a_prefix n f end.1 (λ some. end_is_after_last_packet n f end)
      (λ more. end_is_before_later_frames n f end n (omega arith) more)

  pub end_is_at_least_first : (n f : ℕ) → IsEnd t n f → frame_at t 0 ≤ f
  end_is_at_least_first n f end =
      let from = end_is_after_last_packet n f end in
      let first =
      rising_frames_are_ordered t (length t) rising 0 (n - 1) (omega arith)
      (omega (arith, end.0, end.1)) in
      omega arith

  pub end_is_at_most_last : (n f : ℕ) → IsEnd t n f → f ≤ end_frame t
  end_is_at_most_last n f (some, le, inl own) =
      let last = rising_frames_are_ordered t (length t) rising (n - 1) (length t - 1) (omega arith)
      (omega arith) in
      omega arith
  end_is_at_most_last n f (some, le, inr (there, later, earlier)) =
      let last = rising_frames_are_ordered t (length t) rising n (length t - 1) (omega arith)
      (omega arith) in
      omega arith

pub frame_at-take : (t : Transmission) (n i : ℕ) → i < n → frame_at (take n t) i ≡ frame_at t i
frame_at-take t n i l =
    ap (λ xs. get_or xs i 0) (sym (take-map (λ (s : SentFrame). s.frame) n t))
    ∙ get_or-take n (map (λ (s : SentFrame). s.frame) t) i 0 l

pub packets-take : (t : Transmission) (n i : ℕ) → i < n
    → packets_of_frame (take n t) i ≡ packets_of_frame t i
packets-take t n i l =
    ap (λ xs. get_or xs i []) (sym (take-map (λ (s : SentFrame). s.packets) n t))
    ∙ get_or-take n (map (λ (s : SentFrame). s.packets) t) i [] l

module _ (t : Transmission) (n : ℕ) (fits : n ≤ length t) where
  pub prefix_rises : RiseTo t n → RiseTo (take n t) (length (take n t))
  prefix_rises rises i a l = grind (arith, nat_tests, length-take-le, frame_at-take)

  pub prefix_is_rising : RiseTo t n → IsRising (take n t)
  prefix_is_rising rises i k d l high = grind (
    arith,
    nat_tests,
    entry_has_its_frame_number,
    rising_frames_are_strictly_ordered,
    prefix_rises,
  )

  pub prefix_ends_with_its_last_frame : 0 < n → last_frame (take n t) ≡ frame_at t (n - 1)
  prefix_ends_with_its_last_frame some = grind (
    arith,
    nat_tests,
    last-same,
    length-take-le,
    frame_at-take,
  )
