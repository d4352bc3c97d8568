-- If each frame of a transmission is at most `pace` after the frame before it, the same is true of
-- the frames of the PES packets that were merged into this transmission.
use Rattle.std.proofs.lemmas.Bool.Decides.{nat_tests}
use Rattle.std.proofs.Common.{◌≡◌, ℕ, suc, ◌+◌, ◌-◌, ◌≤◌, ◌==◌, ◌&&◌, not, Bool, true, false, List}
use Rattle.std.proofs.Common.{[], ◌∷◌, ◌++◌, length, refl, sym, ap, ◌∙◌, subst, arith, cond}
use Rattle.std.proofs.Common.{length-append, slice_index}
use Rattle.sub_rules.specs.FrameRules.{end_frame}
use Rattle.sub_rules.specs.PesPackets.{continues_with, joined, joined_after, sent_after}
use Rattle.sub_rules.specs.PesPackets.{with_packets}
use Rattle.sub_rules.specs.Transmission.{SentFrame, Transmission}
use Rattle.sub_rules.proofs.JoinedLemmas.{with_packets-frames}
use Rattle.recording_laws.proofs.PacedFrameLemmas.{AreNear, AreNearFrom, numbers}

module _ (pace : ℕ) where
  near-from-init : (x : ℕ) (xs : List ℕ) (y : ℕ)
      → AreNearFrom pace x (xs ++ y ∷ [])
      → AreNearFrom pace x xs
  near-from-init x [] y h = tt
  near-from-init x (z ∷ xs) y h = (h.0, near-from-init z xs y h.1)

  near-init : (xs : List ℕ) (y : ℕ) → AreNear pace (xs ++ y ∷ []) → AreNear pace xs
  near-init [] y h = tt
  near-init (x ∷ xs) y h = near-from-init x xs y h

  near-from-two : (x : ℕ) (init : List ℕ) (last y : ℕ)
      → AreNearFrom pace x ((init ++ last ∷ []) ++ y ∷ [])
      → y ≤ last + pace
  near-from-two x [] last y h = h.1.0
  near-from-two x (z ∷ init) last y h = near-from-two z init last y h.1

  near-two : (init : List ℕ) (last y : ℕ)
      → AreNear pace ((init ++ last ∷ []) ++ y ∷ [])
      → y ≤ last + pace
  near-two [] last y h = h.0
  near-two (x ∷ init) last y h = near-from-two x init last y h

last-at : (init : List ℕ) (last : ℕ) → slice_index (init ++ last ∷ []) (length init) ≡ last
last-at [] last = refl
last-at (x ∷ init) last = last-at init last

numbers-push : (sent : Transmission) (s : SentFrame)
    → numbers (sent ++ s ∷ []) ≡ numbers sent ++ s.frame ∷ []
numbers-push [] s = refl
numbers-push (x ∷ sent) s = ap (λ (l : List ℕ). x.frame ∷ l) (numbers-push sent s)

numbers-length : (sent : Transmission) → length (numbers sent) ≡ length sent
numbers-length [] = refl
numbers-length (s ∷ sent) = ap suc (numbers-length sent)

record EndsWith (sent : Transmission) (last : ℕ) : Type 0 where
  pub init : List ℕ
  pub are : numbers sent ≡ init ++ last ∷ []

ends-at : (sent : Transmission) (last : ℕ) → EndsWith sent last → end_frame sent ≡ last
ends-at sent last h =
    let long = numbers-length sent in
    let more = ap length h.are ∙ length-append h.init (last ∷ []) in
    let place : length sent - 1 ≡ length h.init = omega (arith, long, more) in
    ap (slice_index (numbers sent)) place
    ∙ ap (λ (l : List ℕ). slice_index l (length h.init)) h.are
    ∙ last-at h.init last

both-hold : (b : Bool) (m n : ℕ) → (b && (m == n)) ≡ true → m ≡ n
both-hold b m n h = grind (arith, nat_tests)

goes-on : (within : ℕ) (sent : Transmission) (s : SentFrame)
    → continues_with within sent s ≡ true
    → end_frame sent ≡ s.frame
goes-on within [] s h = grind (arith, nat_tests)
goes-on within (x ∷ sent) s h = both-hold (not (within == 0)) (end_frame (x ∷ sent)) s.frame h

module _ (pace within : ℕ) where
  kept-near : (sent frames : Transmission)
      → AreNear pace (numbers (joined_after within sent frames))
      → AreNear pace (numbers sent)
  unfolding joined_after
  kept-near sent [] h = h
  kept-near sent (s ∷ frames) h =
      go (continues_with within sent s) (kept-near (sent_after within sent s) frames h)
    where
      go : (same : Bool)
          → AreNear pace (numbers (cond same (with_packets s.packets sent) (sent ++ s ∷ [])))
          → AreNear pace (numbers sent)
      go true near = subst (AreNear pace) (with_packets-frames s.packets sent) near
      go false near =
          near-init pace (numbers sent) s.frame (subst (AreNear pace) (numbers-push sent s) near)

  after-near : (last : ℕ) (sent frames : Transmission)
      → EndsWith sent last
      → AreNear pace (numbers (joined_after within sent frames))
      → AreNearFrom pace last (numbers frames)
  unfolding joined_after
  after-near last sent [] ends h = tt
  after-near last sent (s ∷ frames) ends h =
      go (continues_with within sent s) refl
      (λ f more. after-near f (sent_after within sent s) frames more h)
      (kept-near (sent_after within sent s) frames h)
    where
      go : (same : Bool)
          → continues_with within sent s ≡ same
          → ((f : ℕ)
          → EndsWith (cond same (with_packets s.packets sent) (sent ++ s ∷ [])) f
          → AreNearFrom pace f (numbers frames))
          → AreNear pace (numbers (cond same (with_packets s.packets sent) (sent ++ s ∷ [])))
          → AreNearFrom pace last (s.frame ∷ numbers frames)
      go true is more near =
          let own : last ≡ s.frame = sym (ends-at sent last ends) ∙ goes-on within sent s is in
          let rest = more last
          (record { init = ends.init; are = with_packets-frames s.packets sent ∙ ends.are }) in
          (omega (arith, own), subst (λ (f : ℕ). AreNearFrom pace f (numbers frames)) own rest)
      go false is more near = (
        near-two pace ends.init last s.frame
            (subst (AreNear pace)
            (numbers-push sent s ∙ ap (λ (l : List ℕ). l ++ s.frame ∷ []) ends.are)
            near),
        more s.frame (record { init = numbers sent; are = numbers-push sent s }),
      )

  pub near-sendings : (sendings : Transmission)
      → AreNear pace (numbers (joined within sendings))
      → AreNear pace (numbers sendings)
  unfolding joined_after
  near-sendings [] h = tt
  near-sendings (s ∷ frames) h =
      after-near s.frame (s ∷ []) frames (record { init = []; are = refl }) h
