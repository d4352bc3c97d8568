-- If frame numbers increase, no PES packets are merged, whatever `within` is.
use Rattle.std.proofs.lemmas.Bool.Decides.{nat_tests}
use Rattle.std.proofs.Common.{◌≡◌, ℕ, zero, suc, ◌-◌, ◌<◌, ◌==◌, ◌&&◌, Bool, false, not}
use Rattle.std.proofs.Common.{[], ◌∷◌, ◌++◌, length, refl, sym, ap, ◌∙◌, subst, arith, append_assoc}
use Rattle.std.proofs.Common.{length-append}
use Rattle.std.proofs.lemmas.List.{append-nil}
use Rattle.sub_rules.specs.FrameRules.{end_frame, frame_at}
use Rattle.sub_rules.specs.PesPackets.{continues_with, joined, joined_after}
use Rattle.sub_rules.specs.Transmission.{IsRising, SentFrame, Transmission}
use Rattle.sub_rules.proofs.JoinedLemmas.{sent_after-other}
use Rattle.sub_laws.proofs.GoodLemmas.{rising_frames_rise_at_each_index}

pub frame_at-left : (xs ys : Transmission) (i : ℕ) → i < length xs
    → frame_at (xs ++ ys) i ≡ frame_at xs i
frame_at-left [] ys i l = absurd (omega arith)
frame_at-left (x ∷ xs) ys zero l = refl
frame_at-left (x ∷ xs) ys (suc i) l = frame_at-left xs ys i (omega arith)

pub frame_at-next : (xs : Transmission) (s : SentFrame) (ys : Transmission)
    → frame_at (xs ++ s ∷ ys) (length xs) ≡ s.frame
frame_at-next [] s ys = refl
frame_at-next (x ∷ xs) s ys = frame_at-next xs s ys

later_frame_does_not_continue : (within : ℕ) (sent : Transmission) (s : SentFrame)
    (frames : Transmission)
    → IsRising (sent ++ s ∷ frames)
    → continues_with within sent s ≡ false
later_frame_does_not_continue within [] s frames rising = refl
later_frame_does_not_continue within (x ∷ sent) s frames rising =
    let all : Transmission = x ∷ sent ++ s ∷ frames in
    let n : ℕ = length (x ∷ sent) in
    let size = length-append (x ∷ sent) (s ∷ frames) in
    let up = rising_frames_rise_at_each_index all rising n (omega arith) (omega (arith, size)) in
    let before = frame_at-left (x ∷ sent) (s ∷ frames) (n - 1) (omega arith) in
    let own = frame_at-next (x ∷ sent) s frames in
    go (not (within == 0)) (end_frame (x ∷ sent)) s.frame (omega (arith, up, before, own))
  where
    go : (b : Bool) (last next : ℕ) → last < next → (b && (last == next)) ≡ false
    go b last next l = grind (arith, nat_tests)

joined_after-rising : (within : ℕ) (sent frames : Transmission) → IsRising (sent ++ frames)
    → joined_after within sent frames ≡ sent ++ frames
unfolding joined_after
joined_after-rising within sent [] rising = sym (append-nil sent)
joined_after-rising within sent (s ∷ frames) rising =
    let more : sent ++ s ∷ frames ≡ sent ++ s ∷ [] ++ frames =
    sym (append_assoc sent (s ∷ []) frames) in
    ap (λ (x : Transmission). joined_after within x frames)
    (sent_after-other within sent s (later_frame_does_not_continue within sent s frames rising))
    ∙ joined_after-rising within (sent ++ s ∷ []) frames (subst IsRising more rising)
    ∙ sym more

pub joined-rising : (within : ℕ) (frames : Transmission) → IsRising frames
    → joined within frames ≡ frames
joined-rising within frames rising = joined_after-rising within [] frames rising
