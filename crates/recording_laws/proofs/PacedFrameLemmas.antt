-- If frame numbers increase, `pace` is positive, and each frame from the first to the last has a
-- PES packet or is less than `pace` frames after a frame that has one, consecutive PES packets are
-- at most `pace` frames apart.
use Rattle.std.proofs.Common.{ℕ, zero, suc, ◌+◌, ◌<◌, ◌≤◌, inl, inr, List, [], ◌∷◌, length}
use Rattle.std.proofs.Common.{map, arith}
use Rattle.std.specs.Prelude.{⊤}
use Rattle.std.proofs.lemmas.Bool.{cases_lt}
use Rattle.sub_rules.specs.FrameRules.{frame_at}
use Rattle.sub_rules.specs.Transmission.{IsRising, SentFrame, Transmission, first_frame}
use Rattle.sub_rules.specs.Transmission.{last_frame}

-- Each number is at most `pace` greater than the number before it, and the first is at most `pace`
-- greater than `frame`.
abbrev pub AreNearFrom : ℕ → ℕ → List ℕ → Type 0
AreNearFrom pace frame [] = ⊤
AreNearFrom pace frame (x ∷ more) = (x ≤ frame + pace) × AreNearFrom pace x more

-- Each number is at most `pace` greater than the number before it.
abbrev pub AreNear : ℕ → List ℕ → Type 0
AreNear pace [] = ⊤
AreNear pace (x ∷ more) = AreNearFrom pace x more

abbrev pub numbers : Transmission → List ℕ
numbers frames = map (λ (s : SentFrame). s.frame) frames

-- Each frame from the first to the last has a PES packet, or is less than `pace` frames after a
-- frame that has one. If `pace` is 0, no frame meets this condition.
abbrev pub AreFramesCovered : ℕ → Transmission → Type 0
AreFramesCovered pace frames =
    (f : ℕ)
    → first_frame frames ≤ f
    → f ≤ last_frame frames
    → (j : ℕ)
    × (j < length frames)
    × (frame_at frames j ≤ f)
    × (f < frame_at frames j + pace)

rising-tail : (s : SentFrame) (frames : Transmission) → IsRising (s ∷ frames) → IsRising frames
rising-tail s frames h i j d l m = h (suc i) (suc j) d (omega arith) (omega arith)

rising-first : (s t : SentFrame) (more : Transmission)
    → IsRising (s ∷ t ∷ more)
    → s.frame < t.frame
rising-first s t more h = h 0 1 s (omega arith) (omega arith)

rising-at : (t : SentFrame) (more : Transmission) (i : ℕ)
    → IsRising (t ∷ more)
    → i < length (t ∷ more)
    → t.frame ≤ frame_at (t ∷ more) i
rising-at t more zero rising l = omega arith
rising-at t [] (suc i) rising l = absurd (omega arith)
rising-at t (u ∷ more) (suc i) rising l =
    let rest = rising-at u more i (rising-tail t (u ∷ more) rising) (omega arith) in
    omega (arith, rest, rising-first t u more rising)

rising-last : (t : SentFrame) (more : Transmission)
    → IsRising (t ∷ more)
    → t.frame ≤ last_frame (t ∷ more)
rising-last t [] rising = omega arith
rising-last t (u ∷ more) rising =
    let rest = rising-last u more (rising-tail t (u ∷ more) rising) in
    omega (arith, rest, rising-first t u more rising)

module _ (pace : ℕ) (s t : SentFrame) (more : Transmission) (rising : IsRising (s ∷ t ∷ more)) where
  frame_is_not_covered : (j : ℕ)
      → s.frame + pace < t.frame
      → j < length (s ∷ t ∷ more)
      → frame_at (s ∷ t ∷ more) j ≤ s.frame + pace
      → s.frame + pace < frame_at (s ∷ t ∷ more) j + pace
      → ⊥
  frame_is_not_covered zero gap l from to = absurd (omega arith)
  frame_is_not_covered (suc i) gap l from to =
      let rest = rising-at t more i (rising-tail s (t ∷ more) rising) (omega arith) in
      absurd (omega (arith, rest, from, gap))

  near-first : AreFramesCovered pace (s ∷ t ∷ more) → t.frame ≤ s.frame + pace
  near-first covered = elim (cases_lt (s.frame + pace) t.frame) [
    | inl gap ↦
        let last = rising-last t more (rising-tail s (t ∷ more) rising) in
        let at = covered (s.frame + pace) (omega arith) (omega (arith, gap, last)) in
        absurd (frame_is_not_covered at.0 gap at.1 at.2 at.3)
    | inr near ↦ near
  ]

  covered-by : (f j : ℕ)
      → t.frame ≤ f
      → j < length (s ∷ t ∷ more)
      → frame_at (s ∷ t ∷ more) j ≤ f
      → f < frame_at (s ∷ t ∷ more) j + pace
      → (i : ℕ)
      × (i < length (t ∷ more))
      × (frame_at (t ∷ more) i ≤ f)
      × (f < frame_at (t ∷ more) i + pace)
  covered-by f zero begun l from to =
      (0, omega arith, begun, omega (arith, to, rising-first s t more rising))
  covered-by f (suc i) begun l from to = (i, omega arith, from, to)

  covering-tail : AreFramesCovered pace (s ∷ t ∷ more) → AreFramesCovered pace (t ∷ more)
  covering-tail covered f begun lasts =
      let first = rising-first s t more rising in
      let at = covered f (omega (arith, first, begun)) lasts in
      covered-by f at.0 begun at.1 at.2 at.3

pub near-covered : (pace : ℕ) (frames : Transmission)
    → IsRising frames
    → AreFramesCovered pace frames
    → AreNear pace (numbers frames)
near-covered pace [] rising covered = tt
near-covered pace (s ∷ []) rising covered = tt
near-covered pace (s ∷ t ∷ more) rising covered = (
  near-first pace s t more rising covered,
  near-covered pace (t ∷ more) (rising-tail s (t ∷ more) rising)
      (covering-tail pace s t more rising covered),
)
