-- Consecutive PES packets of one frame are merged, unless `within` is 0: then none are merged.
use Rattle.std.proofs.lemmas.Bool.Decides.{nat_tests}
use Rattle.std.proofs.Common.{◌≡◌, ℕ, zero, suc, ◌+◌, ◌<◌, ◌≤◌, true, false, List, [], ◌∷◌}
use Rattle.std.proofs.Common.{◌++◌, length, map, take, refl, sym, ap, ◌∙◌, arith}
use Rattle.std.proofs.Common.{append_assoc, cond, length-append, Bool}
use Rattle.std.proofs.Math.Seq.{take-append-add}
use Rattle.std.proofs.lemmas.List.{append-nil, get_or_append_left, get_or-append-add}
use Rattle.std.specs.List.{AllByRecursion}
use lib.Seq.{take-append-le}
use Rattle.sub_rules.specs.Events.{numbered_packet_events}
use Rattle.sub_rules.specs.FrameRules.{Criteria, frame_at, packets_before, packets_of_frame}
use Rattle.sub_rules.specs.PesPacketEvents.{steps_of_each}
use Rattle.sub_rules.specs.PesPackets.{PesPacket, frames_of, continues_with, joined, joined_after}
use Rattle.sub_rules.specs.PesPackets.{sent_after}
use Rattle.sub_rules.specs.PesPackets.{with_packets}
use Rattle.sub_rules.specs.PesPackets.PesPacket.{Skipped, Sent}
use Rattle.sub_rules.specs.Transmission.{SentFrame, Transmission}
use Rattle.sub_rules.specs.declared.packet_rule.Watched.{Watched}
use Rattle.sub_rules.proofs.PacketLists.{Each-append}

pub continues-none : (sent : Transmission) (s : SentFrame) → continues_with 0 sent s ≡ false
continues-none [] s = refl
continues-none (first ∷ sent) s = refl

pub sent_after-other : (within : ℕ) (sent : Transmission) (s : SentFrame)
    → continues_with within sent s ≡ false
    → sent_after within sent s ≡ sent ++ s ∷ []
sent_after-other within sent s other = rw other refl

pub sent_after-same : (within : ℕ) (sent : Transmission) (s : SentFrame)
    → continues_with within sent s ≡ true
    → sent_after within sent s ≡ with_packets s.packets sent
sent_after-same within sent s same = rw same refl

pub sent_after-none : (sent : Transmission) (s : SentFrame) → sent_after 0 sent s ≡ sent ++ s ∷ []
sent_after-none sent s = sent_after-other 0 sent s (continues-none sent s)

pub joined_after-append : (within : ℕ) (sent xs ys : Transmission)
    → joined_after within sent (xs ++ ys)
    ≡ joined_after within (joined_after within sent xs) ys
unfolding joined_after
joined_after-append within sent [] ys = refl
joined_after-append within sent (x ∷ xs) ys =
    joined_after-append within (sent_after within sent x) xs ys

pub joined_after-push : (within : ℕ) (sent xs : Transmission) (s : SentFrame)
    → joined_after within sent (xs ++ s ∷ [])
    ≡ sent_after within (joined_after within sent xs) s
unfolding joined_after
joined_after-push within sent xs s = joined_after-append within sent xs (s ∷ [])

pub joined_after-none : (sent frames : Transmission) → joined_after 0 sent frames ≡ sent ++ frames
unfolding joined_after
joined_after-none sent [] = sym (append-nil sent)
joined_after-none sent (s ∷ frames) =
    ap (λ (x : Transmission). joined_after 0 x frames) (sent_after-none sent s)
    ∙ joined_after-none (sent ++ s ∷ []) frames
    ∙ append_assoc sent (s ∷ []) frames

pub joined-none : (frames : Transmission) → joined 0 frames ≡ frames
joined-none frames = joined_after-none [] frames

pub joined-within : (within : ℕ) (frames : Transmission) → within ≡ 0
    → joined within frames ≡ frames
joined-within within frames none =
    ap (λ (w : ℕ). joined w frames) none ∙ joined-none frames

abbrev pub with_added_packets : List (List ℕ) → SentFrame → SentFrame
with_added_packets packets s = record { frame = s.frame; packets = s.packets ++ packets }

pub with_packets-push : (packets : List (List ℕ)) (init : Transmission) (s : SentFrame)
    → with_packets packets (init ++ s ∷ []) ≡ init ++ with_added_packets packets s ∷ []
unfolding with_packets
with_packets-push packets [] s = refl
with_packets-push packets (x ∷ []) s = refl
with_packets-push packets (x ∷ y ∷ init) s =
    ap (λ (l : Transmission). x ∷ l) (with_packets-push packets (y ∷ init) s)

pub with_packets-frames : (packets : List (List ℕ)) (sent : Transmission)
    → map (λ (s : SentFrame). s.frame) (with_packets packets sent)
    ≡ map (λ (s : SentFrame). s.frame) sent
unfolding with_packets
with_packets-frames packets [] = refl
with_packets-frames packets (s ∷ []) = refl
with_packets-frames packets (s ∷ next ∷ frames) =
    ap (λ (l : List ℕ). s.frame ∷ l) (with_packets-frames packets (next ∷ frames))

pub with_packets-length : (packets : List (List ℕ)) (sent : Transmission)
    → length (with_packets packets sent) ≡ length sent
unfolding with_packets
with_packets-length packets [] = refl
with_packets-length packets (s ∷ []) = refl
with_packets-length packets (s ∷ next ∷ frames) =
    ap suc (with_packets-length packets (next ∷ frames))

pub with_packets-frame_at : (packets : List (List ℕ)) (sent : Transmission) (i : ℕ)
    → frame_at (with_packets packets sent) i ≡ frame_at sent i
with_packets-frame_at packets sent i = rw (with_packets-frames packets sent) refl

pub with_packets-take : (packets : List (List ℕ)) (sent : Transmission) (n : ℕ)
    → n < length sent
    → take n (with_packets packets sent) ≡ take n sent
unfolding with_packets
with_packets-take packets [] n l = absurd (omega arith)
with_packets-take packets (s ∷ sent) zero l = refl
with_packets-take packets (s ∷ []) (suc n) l = absurd (omega arith)
with_packets-take packets (s ∷ next ∷ frames) (suc n) l =
    ap (λ (t : Transmission). s ∷ t) (with_packets-take packets (next ∷ frames) n (omega arith))

pub with_packets-before : (packets : List (List ℕ)) (sent : Transmission) (n : ℕ)
    → n < length sent
    → packets_before (with_packets packets sent) n ≡ packets_before sent n
with_packets-before packets sent n l = rw (with_packets-take packets sent n l) refl

pub with_packets-last : (packets : List (List ℕ)) (sent : Transmission) (i : ℕ)
    → suc i ≡ length sent
    → packets_of_frame (with_packets packets sent) i ≡ packets_of_frame sent i ++ packets
unfolding with_packets
with_packets-last packets [] i l = absurd (omega arith)
with_packets-last packets (s ∷ []) zero l = refl
with_packets-last packets (s ∷ []) (suc i) l = absurd (omega arith)
with_packets-last packets (s ∷ next ∷ frames) zero l = absurd (omega arith)
with_packets-last packets (s ∷ next ∷ frames) (suc i) l =
    with_packets-last packets (next ∷ frames) i (omega arith)

pub with_packets-all : (packets : List (List ℕ)) (sent : Transmission)
    → 0 < length sent
    → packets_before (with_packets packets sent) (length sent)
    ≡ packets_before sent (length sent) ++ packets
unfolding with_packets
with_packets-all packets [] l = absurd (omega arith)
with_packets-all packets (s ∷ []) l = grind (arith, nat_tests, append-nil)
with_packets-all packets (s ∷ next ∷ frames) l =
    ap (λ (t : List (List ℕ)). s.packets ++ t)
    (with_packets-all packets (next ∷ frames) (omega arith))
    ∙ sym (append_assoc s.packets (packets_before (next ∷ frames) (length (next ∷ frames))) packets)

module _ (P : List ℕ → Type 0) where
  -- Each packet of the transmission has the property P.
  abbrev pub EachReadPacket : Transmission → Type 0
  EachReadPacket frames = AllByRecursion (λ (s : SentFrame). AllByRecursion P s.packets) frames

  added_packets_keep_property : (packets : List (List ℕ)) (sent : Transmission) → EachReadPacket
      sent
      → AllByRecursion P packets
      → EachReadPacket (with_packets packets sent)
  unfolding with_packets
  added_packets_keep_property packets [] each more = each
  added_packets_keep_property packets (s ∷ []) each more = (
    Each-append P s.packets packets each.0
        more,
    tt,
  )
  added_packets_keep_property packets (s ∷ next ∷ frames) each more =
      (each.0, added_packets_keep_property packets (next ∷ frames) each.1 more)

  pub sent_after-read : (within : ℕ) (sent : Transmission) (s : SentFrame) → EachReadPacket sent
      → AllByRecursion P s.packets
      → EachReadPacket (sent_after within sent s)
  sent_after-read within sent s each more = go (continues_with within sent s)
    where
      go : (same : Bool) → EachReadPacket (cond same (with_packets s.packets sent) (sent ++ s ∷ []))
      go true = added_packets_keep_property s.packets sent each more
      go false =
          Each-append (λ (x : SentFrame). AllByRecursion P x.packets) sent (s ∷ []) each (more, tt)

  pub joined_after-read : (within : ℕ) (sent frames : Transmission) → EachReadPacket sent
      → EachReadPacket frames
      → EachReadPacket (joined_after within sent frames)
  unfolding joined_after
  joined_after-read within sent [] each more = each
  joined_after-read within sent (s ∷ frames) each more =
      joined_after-read within (sent_after within sent s) frames
      (sent_after-read within sent s each more.0) more.1

pub frames_of-append : (xs ys : List PesPacket) → frames_of (xs ++ ys) ≡ frames_of xs ++ frames_of
    ys
unfolding frames_of
frames_of-append [] ys = refl
frames_of-append (Sent s ∷ xs) ys = ap (λ (fs : Transmission). s ∷ fs) (frames_of-append xs ys)
frames_of-append (Skipped u ∷ xs) ys = frames_of-append xs ys

pub steps_of_each-append : (g : Criteria) (sent : Transmission) (pes n : ℕ) (xs ys : List PesPacket)
    → n ≡ pes + length xs
    → steps_of_each g sent pes (xs ++ ys)
    ≡ steps_of_each g sent pes xs
    ++ steps_of_each g (joined_after g.within sent (frames_of xs)) n ys
unfolding steps_of_each frames_of joined_after
steps_of_each-append g sent pes n [] ys d = ap (λ (k : ℕ). steps_of_each g sent k ys) (omega arith)
steps_of_each-append g sent pes n (Sent s ∷ xs) ys d =
    let next = sent_after g.within sent s in
    let rest = steps_of_each-append g next (suc pes) n xs ys (omega arith) in
    grind (arith, nat_tests, append_assoc)
steps_of_each-append g sent pes n (Skipped u ∷ xs) ys d =
    let rest = steps_of_each-append g sent (suc pes) n xs ys (omega arith) in
    grind (arith, nat_tests, append_assoc)

pub numbered_packet_events-first :
    (w : Watched) (frame from : ℕ) (before xs ys : List (List ℕ)) (n : ℕ)
    → n ≤ length xs
    → numbered_packet_events w frame from before (xs ++ ys) n ≡ numbered_packet_events w frame from
    before xs n
unfolding numbered_packet_events
numbered_packet_events-first w frame from before xs ys zero l = refl
numbered_packet_events-first w frame from before xs ys (suc n) l =
    rw (
      numbered_packet_events-first w frame from before xs ys n (omega arith),
      take-append-le n xs ys (omega arith),
      get_or_append_left xs ys [] n (omega arith),
    ) refl

numbered_packet_events-then :
    (w : Watched) (frame from : ℕ) (before xs ys : List (List ℕ)) (n : ℕ)
    → numbered_packet_events w frame from before (xs ++ ys) (length xs + n)
    ≡ numbered_packet_events w frame from before xs (length xs)
    ++ numbered_packet_events w frame (from + length xs) (before ++ xs) ys n
unfolding numbered_packet_events
numbered_packet_events-then w frame from before xs ys zero =
    let none : length xs + 0 ≡ length xs = omega arith in
    ap (numbered_packet_events w frame from before (xs ++ ys)) none
    ∙ numbered_packet_events-first w frame from before xs ys (length xs) (omega arith)
    ∙ sym (append-nil (numbered_packet_events w frame from before xs (length xs)))
numbered_packet_events-then w frame from before xs ys (suc n) =
    let more : length xs + suc n ≡ suc (length xs + n) = omega arith in
    let number : from + (length xs + n) ≡ from + length xs + n = omega arith in
    ap (numbered_packet_events w frame from before (xs ++ ys)) more
    ∙ rw (
      numbered_packet_events-then w frame from before xs ys n,
      take-append-add xs ys n,
      get_or-append-add xs ys n [],
      number,
      sym (append_assoc before xs (take n ys)),
    ) (append_assoc (numbered_packet_events w frame from before xs (length xs)) _ _)

pub numbered_packet_events-append :
    (w : Watched) (frame from : ℕ) (before xs ys : List (List ℕ))
    → numbered_packet_events w frame from before (xs ++ ys) (length (xs ++ ys))
    ≡ numbered_packet_events w frame from before xs (length xs)
    ++ numbered_packet_events w frame (from + length xs) (before ++ xs) ys (length ys)
numbered_packet_events-append w frame from before xs ys =
    ap (numbered_packet_events w frame from before (xs ++ ys)) (length-append xs ys)
    ∙ numbered_packet_events-then w frame from before xs ys (length ys)
