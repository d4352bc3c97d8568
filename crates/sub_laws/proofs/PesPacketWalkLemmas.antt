-- A relation T that holds for the steps of each frame and of each skipped PES packet holds for all
-- steps of a PES file.
use Rattle.std.proofs.lemmas.Bool.Decides.{nat_tests}
use Rattle.std.proofs.Common.{◌≡◌, ℕ, suc, ◌-◌, ◌<◌, ◌⊎◌, inl, inr, Bool, true, false, ◌==◌}
use Rattle.std.proofs.Common.{List, [], ◌∷◌, ◌++◌, length, map, Some, refl, sym, ap, ◌∙◌, subst}
use Rattle.std.proofs.Common.{arith, append-nil, cond, length-append, if◌then◌else◌}
use Rattle.std.proofs.lemmas.Bool.{true≢false}
use Rattle.std.specs.Prelude.{⊤}
use Rattle.sub_rules.specs.Events.{numbered_packet_events, unread_fault}
use Rattle.sub_rules.specs.FrameRules.{Criteria, UnreadReason, end_frame, frame_at, packets_before}
use Rattle.sub_rules.specs.FrameRules.{packets_of_frame}
use Rattle.sub_rules.specs.PesPacketEvents.{steps_of_arrival, steps_of_each, steps_of_ending}
use Rattle.sub_rules.specs.PesPacketEvents.{steps_of_more, steps_of_next, steps_of_sent}
use Rattle.sub_rules.specs.PesPacketEvents.{steps_of_pending_end}
use Rattle.sub_rules.specs.PesPackets.{PesPacket, frames_of, continues_with, joined_after}
use Rattle.sub_rules.specs.PesPackets.{sent_after}
use Rattle.sub_rules.specs.PesPackets.{with_packets}
use Rattle.sub_rules.specs.PesPackets.PesPacket.{Skipped, Sent}
use Rattle.sub_rules.specs.Transmission.{SentFrame, Transmission}
use Rattle.sub_rules.specs.Trusted.CheckStep.{AtPes, Emits}
use Rattle.sub_rules.specs.declared.event.Event.{Event}
use Rattle.sub_rules.specs.declared.event.Event.TheVariants.{Reported}
use Rattle.sub_rules.proofs.JoinedLemmas.{with_packets-last, with_packets-length}
use Rattle.sub_rules.proofs.PrefixEventLemmas.{packets_of_frame-prefix}
use Rattle.sub_laws.proofs.GrowingFrameLemmas.{GrowsTo, arrival_eq, before_eq, end_eq, ending_eq}
use Rattle.sub_laws.proofs.GrowingFrameLemmas.{frame_eq, continued_frame_is_delayed, grown, grows}
use Rattle.sub_laws.proofs.GrowingFrameLemmas.{growing_starts_before_sent_frame}
use Rattle.sub_laws.proofs.GrowingFrameLemmas.{long, packets_are, so_far, same_at_once}
use Rattle.sub_rules.specs.Trusted.{CheckStep}

growing_frame_keeps_its_packets : (g : Criteria) (sent frames : Transmission)
    (is : GrowsTo sent frames) (n : ℕ)
    → length sent ≡ suc n
    → packets_of_frame frames n ≡ packets_of_frame sent n ++ is.rest
growing_frame_keeps_its_packets g sent frames is n size =
    grind (arith, nat_tests, long, with_packets-length, packets_of_frame-prefix, with_packets-last)

-- The frames that were sent before each skipped PES packet have the property Q.
abbrev pub EachSkippedPacket : ℕ → (Transmission → Type 0) → Transmission → List PesPacket → Type 0
EachSkippedPacket within Q sent [] = ⊤
EachSkippedPacket within Q sent (Sent s ∷ ahead) = EachSkippedPacket within Q
    (sent_after within sent s) ahead
EachSkippedPacket within Q sent (Skipped u ∷ ahead) = Q sent × EachSkippedPacket within Q sent ahead

module _ (X : Type 0) (steps_with_packet_number : ℕ → X → X) (g : Criteria) (frames : Transmission)
    (T : (X → Type 0) → X → List CheckStep → Type 0)
    (C : ℕ → X → Type 0)
    (O : ℕ → List (List ℕ) → X → Type 0)
    (Q : Transmission → Type 0)
  where
    abbrev pub skipped_steps : ℕ → UnreadReason → List CheckStep
    skipped_steps pes u = map Emits (Reported (unread_fault pes (Some u)) ∷ [])

    -- The conditions on T, where `T P t steps` means: from the state t, the steps lead to a
    -- state with the property P. In a state with `C n`, the first n frames have ended. In a state
    -- with `O n packets`, frame n has these packets and may get more. The frames before a skipped
    -- PES packet have the property Q.
    pub record Steps : Type 0 where
      pub at_ended : (n pes : ℕ) (t : X) → C n t → C n (steps_with_packet_number pes t)
      pub at_open :
          (n pes : ℕ) (packets : List (List ℕ)) (t : X)
          → O n packets t
          → O n packets (steps_with_packet_number pes t)
      pub arrival :
          (n : ℕ) (t : X)
          → n < length frames
          → C n t
          → T (O n []) t (steps_of_arrival g frames n)
      pub more :
          (n : ℕ) (packets more rest : List (List ℕ)) (t : X)
          → n < length frames
          → packets_of_frame frames n ≡ packets ++ more ++ rest
          → O n packets t
          → T (O n (packets ++ more)) t
          (map Emits
          (numbered_packet_events g.watched (frame_at frames n) (length packets)
          (packets_before frames n ++ packets) more (length more)))
      pub ending :
          (n : ℕ) (t : X)
          → n < length frames
          → O n (packets_of_frame frames n) t
          → T (C (suc n)) t (steps_of_ending g frames n)
      pub skipped_packet_reports_good_stretches :
          (sent : Transmission) (pes : ℕ) (u : UnreadReason) (t : X)
          → GrowsTo sent frames
          → Q sent
          → C (length sent) t
          → T (C (length sent)) t (skipped_steps pes u)
      pub skipped_open :
          (sent : Transmission) (n pes : ℕ) (u : UnreadReason) (t : X)
          → GrowsTo sent frames
          → length sent ≡ suc n
          → Q sent
          → O n (packets_of_frame sent n) t
          → T (O n (packets_of_frame sent n)) t (skipped_steps pes u)

    -- After the frames `sent`, the state t is one in which all frames have ended or, if `within` is
    -- not 0, one in which the last frame is open.
    abbrev pub Sends : Transmission → X → Type 0
    Sends sent t =
        ((((g.within == 0) ≡ true) ⊎ (length sent ≡ 0)) × C (length sent) t)
        ⊎ (((g.within == 0) ≡ false)
        × (n : ℕ)
        × (length sent ≡ suc n)
        × O n (packets_of_frame sent n) t)

    module _ (nil : (S : X → Type 0) (t : X) → S t → T S t [])
        (with_pes_number : (S : X → Type 0) (t : X) (pes : ℕ) (ms : List CheckStep)
        → T S (steps_with_packet_number pes t) ms
        → T S t (AtPes pes ∷ ms))
        (append : (S U : X → Type 0) (t : X) (xs ys : List CheckStep)
        → T S t xs
        → ((u : X) → S u → T U u ys)
        → T U t (xs ++ ys))
        (steps : Steps)
      where
        weaker_state_holds_after_steps : (S U : X → Type 0) (t : X) (ms : List CheckStep) → T S t ms
            → ((u : X) → S u → U u)
            → T U t ms
        weaker_state_holds_after_steps S U t ms is so =
            subst (T U t) (append-nil ms) (append S U t ms [] is (λ u s. nil U u (so u s)))

        added_packets_keep_open_state : (sent : Transmission) (s : SentFrame) (t : X) (n : ℕ) →
            length sent ≡ suc n
            → GrowsTo sent frames
            → GrowsTo (with_packets s.packets sent) frames
            → O n (packets_of_frame sent n) t
            → T (O n (packets_of_frame (with_packets s.packets sent) n)) t
            (steps_of_more g sent s.packets)
        added_packets_keep_open_state sent s t n size is after open_here =
            let packets : List (List ℕ) = packets_of_frame sent n in
            let all : Transmission = with_packets s.packets sent in
            let last : length sent - 1 ≡ n = omega (arith, size) in
            let at : end_frame sent ≡ frame_at frames n = end_eq g sent frames is n size in
            let before : packets_before sent (length sent) ≡ packets_before frames n ++ packets =
            so_far g sent frames is n size in
            let reported :
            numbered_packet_events g.watched (frame_at frames n) (length packets)
            (packets_before frames n ++ packets) s.packets (length s.packets)
            ≡ numbered_packet_events g.watched (end_frame sent)
            (length (packets_of_frame sent (length sent - 1))) (packets_before sent (length sent))
            s.packets (length s.packets) =
            rw (at, before, last) refl in
            let now : packets_of_frame all n ≡ packets ++ s.packets =
            with_packets-last s.packets sent n (sym size) in
            let whole : packets_of_frame frames n ≡ packets ++ s.packets ++ after.rest =
            growing_frame_keeps_its_packets g all frames after n (with_packets-length s.packets sent
            ∙ size)
            ∙ ap (λ (ps : List (List ℕ)). ps ++ after.rest) now in
            subst (λ (ps : List (List ℕ)). T (O n ps) t (steps_of_more g sent s.packets)) (sym now)
            (subst (λ (es : List Event). T (O n (packets ++ s.packets)) t (map Emits es)) reported
            (steps.more n packets s.packets after.rest t (long g sent frames is n size) whole
            open_here))

        ends : (sent more : Transmission) (t : X) → frames ≡ sent ++ more
            → (n : ℕ) → length sent ≡ suc n
            → O n (packets_of_frame sent n) t
            → T (C (length sent)) t (steps_of_ending g sent n)
        ends sent more t whole n long_is open_here =
            let there : n < length frames =
            let size = ap (λ (l : Transmission). length l) whole in
            omega (arith, size, length-append sent more) in
            subst (λ (k : ℕ). T (C k) t (steps_of_ending g sent n)) (sym long_is)
            (subst (T (C (suc n)) t) (sym (ending_eq g sent more frames whole n (omega arith)))
            (steps.ending n t there
            (subst (λ (ps : List (List ℕ)). O n ps t)
            (packets_are g sent more frames whole n (omega arith)) open_here)))

        pub pending_end_reaches_closed_state : (sent more : Transmission) (t : X) → frames ≡ sent ++
            more → Sends sent t
            → T (C (length sent)) t (steps_of_pending_end g sent)
        unfolding steps_of_pending_end
        pending_end_reaches_closed_state [] more t whole (inl (ended, closed)) = nil (C 0) t closed
        pending_end_reaches_closed_state [] more t whole (inr (later, n, size, open_here)) = absurd
            (omega arith)
        pending_end_reaches_closed_state (s ∷ sent) more t whole (inl (inl at_once, closed)) =
            subst
            (λ (c : Bool). T (C (suc (length sent))) t
            (if c then [] else steps_of_ending g (s ∷ sent) (length sent))) (sym at_once)
            (nil (C (suc (length sent))) t closed)
        pending_end_reaches_closed_state (s ∷ sent) more t whole (inl (inr none, closed)) = absurd
            (omega arith)
        pending_end_reaches_closed_state (s ∷ sent) more t whole (inr (later, n, size, open_here)) =
            let last : n ≡ length sent = omega arith in
            subst
            (λ (c : Bool). T (C (suc (length sent))) t
            (if c then [] else steps_of_ending g (s ∷ sent) (length sent))) (sym later)
            (subst (λ (k : ℕ). T (C (suc (length sent))) t (steps_of_ending g (s ∷ sent) k)) last
            (ends (s ∷ sent) more t whole n size open_here))

        next_frame_reaches_sending_state : (sent more : Transmission) (s : SentFrame) (t : X)
            → GrowsTo (sent ++ s ∷ []) frames
            → ((g.within == 0) ≡ true → frames ≡ (sent ++ s ∷ []) ++ more)
            → C (length sent) t
            → T (Sends (sent ++ s ∷ [])) t (steps_of_next g sent s)
        next_frame_reaches_sending_state sent more s t is whole closed =
            let n : ℕ = length sent in
            let all : Transmission = sent ++ s ∷ [] in
            let size : length all ≡ suc n = omega (arith, length-append sent (s ∷ [])) in
            let packets : List (List ℕ) = packets_of_frame all n in
            let there = long g all frames is n size in
            let es : List Event =
            numbered_packet_events g.watched (frame_at all n) 0 (packets_before all n) packets
            (length packets) in
            let reported :
            numbered_packet_events g.watched (frame_at frames n) 0 (packets_before frames n ++ [])
            packets
            (length packets)
            ≡ es =
            rw (
              append-nil (packets_before frames n),
              frame_eq g all frames is n size n (omega arith),
              before_eq g all frames is n size,
            ) refl in
            let first : T (O n []) t (steps_of_arrival g all n) =
            subst (T (O n []) t) (sym (arrival_eq g all frames is n size))
            (steps.arrival n t there closed) in
            append (O n packets) (Sends all) t (steps_of_arrival g all n ++ map Emits es)
            (if g.within == 0 then steps_of_ending g all n else [])
            (append (O n []) (O n packets) t (steps_of_arrival g all n) (map Emits es) first
            (λ u so.
            subst (λ (l : List Event). T (O n packets) u (map Emits l)) reported
            (steps.more n [] packets is.rest u there (growing_frame_keeps_its_packets g all frames
            is n size) so)))
            (λ u so. go (g.within == 0) refl u size so)
          where
            go : (at_once : Bool) → (g.within == 0) ≡ at_once → (u : X)
                → length (sent ++ s ∷ []) ≡ suc (length sent)
                → O (length sent) (packets_of_frame (sent ++ s ∷ []) (length sent)) u
                → T (Sends (sent ++ s ∷ [])) u
                (if at_once then steps_of_ending g (sent ++ s ∷ []) (length sent) else [])
            go true at_once u size so =
                weaker_state_holds_after_steps (C (length (sent ++ s ∷ [])))
                (Sends (sent ++ s ∷ [])) u
                (steps_of_ending g (sent ++ s ∷ []) (length sent))
                (ends (sent ++ s ∷ []) more u (whole at_once) (length sent) size so)
                (λ v closed. inl (inl at_once, closed))
            go false later u size so =
                nil (Sends (sent ++ s ∷ [])) u (inr (later, length sent, size, so))

        sent_packet_keeps_sending_state : (sent more : Transmission) (pes : ℕ) (s : SentFrame)
            (t : X)
            → joined_after g.within (sent_after g.within sent s) more ≡ frames
            → Sends sent t
            → T (Sends (sent_after g.within sent s)) t (steps_of_sent g sent pes s)
        unfolding steps_of_sent
        sent_packet_keeps_sending_state sent more pes s t all sends =
            go (continues_with g.within sent s) refl
            (subst (GrowsTo (sent_after g.within sent s)) all
            (grows g.within (sent_after g.within sent s) more))
            (λ at_once.
            same_at_once g.within (sent_after g.within sent s) more frames at_once all) sends
          where
            go : (same : Bool)
                → continues_with g.within sent s ≡ same
                → GrowsTo (cond same (with_packets s.packets sent) (sent ++ s ∷ [])) frames
                → ((g.within == 0) ≡ true
                → frames ≡ (cond same (with_packets s.packets sent) (sent ++ s ∷ [])) ++ more)
                → Sends sent t
                → T (Sends (cond same (with_packets s.packets sent) (sent ++ s ∷ []))) t
                (cond same (AtPes pes ∷ steps_of_more g sent s.packets)
                (steps_of_pending_end g sent ++ AtPes pes ∷ steps_of_next g sent s))
            go true e is whole (inl (inl at_once, closed)) =
                let later = (continued_frame_is_delayed g.within sent s e).0 in
                absurd (true≢false (sym at_once ∙ later))
            go true e is whole (inl (inr none, closed)) =
                let some = (continued_frame_is_delayed g.within sent s e).1 in absurd (omega arith)
            go true e is whole (inr (later, n, size, open_here)) =
                let before : GrowsTo sent frames =
                growing_starts_before_sent_frame g.within sent s frames
                (subst
                (λ (b : Bool). GrowsTo (cond b (with_packets s.packets sent) (sent ++ s ∷ []))
                frames)
                (sym e) is) in
                let all : Transmission = with_packets s.packets sent in
                with_pes_number (Sends all) t pes (steps_of_more g sent s.packets)
                (weaker_state_holds_after_steps (O n (packets_of_frame all n)) (Sends all)
                (steps_with_packet_number pes t)
                (steps_of_more g sent s.packets)
                (added_packets_keep_open_state sent s (steps_with_packet_number pes t) n size before
                is
                (steps.at_open n pes (packets_of_frame sent n) t open_here))
                (λ u so. inr (later, n, with_packets-length s.packets sent ∙ size, so)))
            go false e is whole sends =
                let all = grown sent s frames is in
                append (C (length sent)) (Sends (sent ++ s ∷ [])) t (steps_of_pending_end g sent)
                (AtPes pes ∷ steps_of_next g sent s) (pending_end_reaches_closed_state sent all.0 t
                all.1 sends)
                (λ u closed.
                with_pes_number (Sends (sent ++ s ∷ [])) u pes (steps_of_next g sent s)
                (next_frame_reaches_sending_state sent more s (steps_with_packet_number pes u) is
                whole
                (steps.at_ended (length sent) pes u closed)))

        skipped_packet_keeps_sending_state : (sent : Transmission) (pes : ℕ) (u : UnreadReason)
            (t : X) → GrowsTo sent frames
            → Q sent
            → Sends sent t
            → T (Sends sent) t (AtPes pes ∷ skipped_steps pes u)
        skipped_packet_keeps_sending_state sent pes u t is requested (inl (ended, closed)) =
            with_pes_number (Sends sent) t pes (skipped_steps pes u)
            (weaker_state_holds_after_steps (C (length sent)) (Sends sent) (steps_with_packet_number
            pes t) (skipped_steps pes u)
            (steps.skipped_packet_reports_good_stretches sent pes u (steps_with_packet_number pes t)
            is requested
            (steps.at_ended (length sent) pes t closed))
            (λ v so. inl (ended, so)))
        skipped_packet_keeps_sending_state sent pes u t is requested
            (inr (later, n, size, open_here)) =
            with_pes_number (Sends sent) t pes (skipped_steps pes u)
            (weaker_state_holds_after_steps (O n (packets_of_frame sent n)) (Sends sent)
            (steps_with_packet_number pes t)
            (skipped_steps pes u)
            (steps.skipped_open sent n pes u (steps_with_packet_number pes t) is size requested
            (steps.at_open n pes (packets_of_frame sent n) t open_here))
            (λ v so. inr (later, n, size, so)))

        pub each_pes_packet : (sent : Transmission) (pes : ℕ) (t : X) (pes_packets : List PesPacket)
            → joined_after g.within sent (frames_of pes_packets) ≡ frames
            → EachSkippedPacket g.within Q sent pes_packets
            → Sends sent t
            → T (Sends frames) t (steps_of_each g sent pes pes_packets)
        unfolding steps_of_each frames_of joined_after
        each_pes_packet sent pes t [] all requested sends =
            nil (Sends frames) t (subst (λ (fs : Transmission). Sends fs t) all sends)
        each_pes_packet sent pes t (Sent s ∷ pes_packets) all requested sends =
            let next : Transmission = sent_after g.within sent s in
            append (Sends next) (Sends frames) t (steps_of_sent g sent pes s)
            (steps_of_each g next (suc pes) pes_packets)
            (sent_packet_keeps_sending_state sent (frames_of pes_packets) pes s t all sends)
            (λ u so. each_pes_packet next (suc pes) u pes_packets all requested so)
        each_pes_packet sent pes t (Skipped u ∷ pes_packets) all requested sends =
            let is : GrowsTo sent frames =
            subst (GrowsTo sent) all (grows g.within sent (frames_of pes_packets)) in
            append (Sends sent) (Sends frames) t (AtPes pes ∷ skipped_steps pes u)
            (steps_of_each g sent (suc pes) pes_packets) (skipped_packet_keeps_sending_state sent
            pes u t is requested.0
            sends)
            (λ v so. each_pes_packet sent (suc pes) v pes_packets all requested.1 so)
