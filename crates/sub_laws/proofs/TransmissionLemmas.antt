-- If frame numbers increase, a range of frames has the packets of its first part, then those of its
-- second part.
use Rattle.std.proofs.Common.{◌≡◌, ℕ, zero, suc, ◌+◌, ◌<◌, ◌≤◌, inl, inr, Bool, true, false, ◌&&◌}
use Rattle.std.proofs.Common.{nat_le, nat_lt, cond, List, [], ◌∷◌, ◌++◌, map, filter, flat_map}
use Rattle.std.proofs.Common.{slice_index_or, All, refl, ap, ◌∙◌, arith, append_assoc, append-nil}
use Rattle.std.specs.List.{AllByRecursion, range_with_len}
use Rattle.std.proofs.lemmas.Bool.{cases_lt, le-ltb, and_right}
use Rattle.std.proofs.lemmas.Bool.Decides.{nat_tests}
use Rattle.std.proofs.lemmas.List.Elements.{All-append, All-from_recursion, All-head, All-map}
use Rattle.std.proofs.lemmas.List.Elements.{All-nil, All-tail, recursion_from_All}
use Rattle.sub_rules.specs.Transmission.{EachPacket, IsRising, SentFrame, Transmission, last_frame}
use Rattle.sub_rules.specs.Transmission.{packets_between}

abbrev pes_packet : ℕ → ℕ → SentFrame → List (List ℕ)
pes_packet a b s = cond (nat_le a s.frame && nat_lt s.frame b) s.packets []

pub packets_between-none :
    (frames : Transmission) (a b : ℕ)
    → AllByRecursion (λ (s : SentFrame). b ≤ s.frame) frames
    → packets_between frames a b ≡ []
packets_between-none [] a b later = refl
packets_between-none (s ∷ frames) a b later =
    let rest = packets_between-none frames a b later.1 in
    grind (arith, nat_tests, and_right, le-ltb)

pub packets_between-void :
    (frames : Transmission) (a b : ℕ) → b ≤ a → packets_between frames a b ≡ []
packets_between-void [] a b l = refl
packets_between-void (s ∷ frames) a b l =
    grind (arith, nat_tests, pes_packet a b s, packets_between-void frames a b l)

pub rising-tail :
    (s : SentFrame) (frames : Transmission) → IsRising (s ∷ frames) → IsRising frames
rising-tail s frames h i j d l m = h (suc i) (suc j) d (omega arith) (omega arith)

pub later_than :
    (s : SentFrame) (frames : Transmission) (b : ℕ)
    → IsRising (s ∷ frames)
    → b ≤ s.frame
    → AllByRecursion (λ (later : SentFrame). b ≤ later.frame) frames
later_than s frames b h l =
    recursion_from_All (λ (later : SentFrame). b ≤ later.frame) frames
    (λ k d below.
    let lt : s.frame < (slice_index_or frames k d).frame =
    h 0 (suc k) d (omega arith) (omega arith) in
    omega arith)

pub packets_between-split :
    (frames : Transmission) (a b c : ℕ)
    → IsRising frames
    → a ≤ b
    → b ≤ c
    → packets_between frames a c ≡ packets_between frames a b ++ packets_between frames b c
packets_between-split [] a b c rising l m = refl
packets_between-split (s ∷ frames) a b c rising l m =
    let ih = packets_between-split frames a b c (rising-tail s frames rising) l m in
    grind (
      arith,
      nat_tests,
      cases_lt s.frame b,
      append_assoc (pes_packet a b s),
      packets_between-none frames a b,
      later_than s frames b rising,
    )

pub packets_between-each :
    (P : List ℕ → Type 0) (frames : Transmission) (a b : ℕ)
    → EachPacket P frames
    → All P (packets_between frames a b)
packets_between-each P [] a b h = All-nil P
packets_between-each P (s ∷ frames) a b h =
    All-append P (pes_packet a b s) (packets_between frames a b)
    (grind (arith, nat_tests, All-head))
    (packets_between-each P frames a b
    (All-tail (λ (f : SentFrame). All P f.packets) s frames h))
  where
    packets_of_frame_hold : (t : Bool) → All P s.packets → All P (cond t s.packets [])
    packets_of_frame_hold true all = all
    packets_of_frame_hold false all = All-nil P

module _ (made : ℕ → SentFrame) (numbered : (f : ℕ) → (made f).frame ≡ f) (p : ℕ → Bool) where
  abbrev pub frames : ℕ → ℕ → Transmission
  frames a n = map made (filter p (range_with_len a n))

  abbrev frames_if_selected : Bool → ℕ → ℕ → Transmission
  frames_if_selected t a n = map made
      (cond t (a ∷ filter p (range_with_len (a + 1) n)) (filter p (range_with_len (a + 1) n)))

  later : (a n b : ℕ) → b ≤ a → AllByRecursion (λ (frame : SentFrame). b ≤ frame.frame) (frames a n)
  later a zero b l = tt
  later a (suc n) b l = grind (arith, nat_tests, later (a + 1) n b (omega arith))

  pub rises : (a n : ℕ) → IsRising (frames a n)
  rises a zero = λ i j d l m. absurd (omega arith)
  rises a (suc n) = go (p a) (rises (a + 1) n)
    where
      go : (t : Bool) → IsRising (frames (a + 1) n) → IsRising (frames_if_selected t a n)
      go t ih = grind (arith, nat_tests, All-from_recursion, later)

  pub no_selected_frame_sends_nothing : (from end a n : ℕ) → ((j : ℕ) → from ≤ j → j < end → p j ≡
      false)
      → packets_between (frames a n) from end ≡ []
  no_selected_frame_sends_nothing from end a zero none = refl
  no_selected_frame_sends_nothing from end a (suc n) none = grind
      (arith, nat_tests, no_selected_frame_sends_nothing from end (a + 1) n none)

  pub selected_frame_sends_its_packets : (g a n : ℕ) → p g ≡ true → a ≤ g → g < a + n
      → packets_between (frames a n) g (g + 1) ≡ (made g).packets
  selected_frame_sends_its_packets g a zero h low high = absurd (omega arith)
  selected_frame_sends_its_packets g a (suc n) h low high =
      elim (cases_lt a g) [
        | inl before ↦
            let ih = selected_frame_sends_its_packets g (a + 1) n h (omega arith) (omega arith) in
            grind (arith, nat_tests)
        | inr here ↦ let e : a ≡ g = omega arith in at (p a) (ap p e ∙ h) e
      ]
    where
      at : (t : Bool) → t ≡ true → a ≡ g
          → packets_between (frames_if_selected t a n) g (g + 1) ≡ (made g).packets
      at t h e = grind (arith, nat_tests, later, packets_between-none, append-nil)

  pub sent_some : (from end : ℕ) (fs : List ℕ) → (gs : List ℕ)
      × (packets_between (map made fs) from end ≡ flat_map (λ f. (made f).packets) gs)
  sent_some from end [] = ([], refl)
  sent_some from end (f ∷ fs) =
      go (nat_le from (made f).frame && nat_lt (made f).frame end) (sent_some from end fs)
    where
      go : (t : Bool) → (gs : List ℕ)
          × (packets_between (map made fs) from end ≡ flat_map (λ f. (made f).packets) gs)
          → (gs : List ℕ) × (cond t (made f).packets []
          ++ packets_between (map made fs) from end ≡ flat_map (λ f. (made f).packets) gs)
      go true ih = (f ∷ ih.0, ap (λ ps. (made f).packets ++ ps) ih.1)
      go false ih = ih

  pub each_made_frame_holds : (P : List ℕ → Type 0) (fs : List ℕ) →
      ((f : ℕ) → All P (made f).packets)
      → EachPacket P (map made fs)
  each_made_frame_holds P fs h = All-map (λ (frame : SentFrame). All P frame.packets) made fs
      (λ k d l. h (slice_index_or fs k d))

  pub starts_with : (a n : ℕ) → p a ≡ true → frames a (suc n) ≡ made a ∷ frames (a + 1) n
  starts_with a n h = grind arith

pub appended_frame_is_the_last : (frames : Transmission) (frame : SentFrame)
    → last_frame (frames ++ frame ∷ []) ≡ frame.frame
appended_frame_is_the_last [] frame = refl
appended_frame_is_the_last (f ∷ []) frame = refl
appended_frame_is_the_last (f ∷ g ∷ frames) frame = appended_frame_is_the_last (g ∷ frames) frame
