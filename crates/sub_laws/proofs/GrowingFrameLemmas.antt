-- The frames sent so far are a prefix of all frames, except that the last one may get more packets.
use Rattle.std.proofs.Common.{◌≡◌, ℕ, suc, ◌+◌, ◌<◌, true, false, List, [], ◌∷◌, ◌++◌}
use Rattle.std.proofs.Common.{length, refl, sym, ap, ◌∙◌, arith, append_assoc, append-nil}
use Rattle.std.proofs.Common.{length-append, le_refl, ◌==◌, ◌≤◌}
use Rattle.std.proofs.lemmas.Bool.Decides.{nat_tests}
use Rattle.sub_rules.specs.FrameRules.{Criteria, end_frame, frame_at, packets_before}
use Rattle.sub_rules.specs.FrameRules.{packets_of_frame}
use Rattle.sub_rules.specs.PesPacketEvents.{steps_of_arrival, steps_of_ending}
use Rattle.sub_rules.specs.PesPackets.{continues_with, joined_after, sent_after, with_packets}
use Rattle.sub_rules.specs.Transmission.{SentFrame, Transmission}
use Rattle.sub_rules.proofs.FirstFrameLemmas.{steps_of_arrival-same}
use Rattle.sub_rules.proofs.FrameLists.{packets_before_appends_next_frame}
use Rattle.sub_rules.proofs.JoinedLemmas.{joined_after-none, with_added_packets}
use Rattle.sub_rules.proofs.JoinedLemmas.{with_packets-before}
use Rattle.sub_rules.proofs.JoinedLemmas.{with_packets-frame_at, with_packets-frames}
use Rattle.sub_rules.proofs.JoinedLemmas.{with_packets-length, with_packets-push, with_packets-take}
use Rattle.sub_rules.proofs.PrefixEventLemmas.{frame_at-prefix, steps_of_arrival-prefix}
use Rattle.sub_rules.proofs.PrefixEventLemmas.{steps_of_ending-prefix, packets_before-prefix}
use Rattle.sub_rules.proofs.PrefixEventLemmas.{packets_of_frame-prefix}

adding_no_packets_changes_nothing : (sent : Transmission) → with_packets [] sent ≡ sent
unfolding with_packets
adding_no_packets_changes_nothing [] = refl
adding_no_packets_changes_nothing (s ∷ []) = grind (arith, nat_tests, append-nil)
adding_no_packets_changes_nothing (s ∷ next ∷ frames) = grind
    (arith, nat_tests, (adding_no_packets_changes_nothing (next ∷ frames)))

adding_packets_keeps_first_frame : (ys : List (List ℕ)) (s : SentFrame) (l : Transmission) → 0 <
    length l
    → with_packets ys (s ∷ l) ≡ s ∷ with_packets ys l
unfolding with_packets
adding_packets_keeps_first_frame ys s [] some = absurd (omega arith)
adding_packets_keeps_first_frame ys s (x ∷ l) some = refl

with_packets_append : (xs ys : List (List ℕ)) (sent : Transmission)
    → with_packets ys (with_packets xs sent) ≡ with_packets (xs ++ ys) sent
unfolding with_packets
with_packets_append xs ys [] = refl
with_packets_append xs ys (s ∷ []) = grind (arith, nat_tests, append_assoc)
with_packets_append xs ys (s ∷ next ∷ frames) =
    grind (
      arith,
      nat_tests,
      with_packets-length,
      adding_packets_keeps_first_frame,
      (with_packets_append xs ys
          (next ∷ frames)),
    )

-- All frames are the frames sent so far, with more packets in the last one, and further frames.
pub record GrowsTo (sent frames : Transmission) : Type 0 where
  pub rest : List (List ℕ)
  pub more : Transmission
  pub whole : frames ≡ with_packets rest sent ++ more

-- Further PES packets do not change the frames before the last one.
pub grown : (sent : Transmission) (s : SentFrame) (frames : Transmission)
    → GrowsTo (sent ++ s ∷ []) frames
    → (more : Transmission) × (frames ≡ sent ++ more)
grown sent s frames is = grind (
  arith,
  nat_tests,
  with_added_packets,
  with_packets-push,
  append_assoc,
)

pub growing_includes_added_packets : (packets : List (List ℕ)) (sent frames : Transmission)
    → GrowsTo (with_packets packets sent) frames
    → GrowsTo sent frames
growing_includes_added_packets packets sent frames is = grind
    (arith, nat_tests, with_packets_append)

pub growing_starts_without_last_frame : (sent : Transmission) (s : SentFrame)
    (frames : Transmission)
    → GrowsTo (sent ++ s ∷ []) frames
    → GrowsTo sent frames
growing_starts_without_last_frame sent s frames is =
    let all = grown sent s frames is in
    record {
      rest = [];
      more = all.0;
      whole = all.1 ∙ sym (ap (λ (l : Transmission). l ++ all.0) (adding_no_packets_changes_nothing
          sent));
    }

pub growing_starts_before_sent_frame : (within : ℕ) (sent : Transmission) (s : SentFrame)
    (frames : Transmission)
    → GrowsTo (sent_after within sent s) frames
    → GrowsTo sent frames
growing_starts_before_sent_frame within sent s frames h1 = grind
    (arith, nat_tests, growing_includes_added_packets, growing_starts_without_last_frame)

pub grows : (within : ℕ) (sent more : Transmission)
    → GrowsTo sent (joined_after within sent more)
unfolding joined_after
grows within sent [] = record {
  rest = [];
  more = [];
  whole = sym (adding_no_packets_changes_nothing sent) ∙ sym (append-nil (with_packets [] sent));
}
grows within sent (s ∷ more) =
    growing_starts_before_sent_frame within sent s (joined_after within (sent_after within sent s)
    more)
    (grows within (sent_after within sent s) more)

-- If `within` is 0, each further PES packet adds a frame, and the frames sent so far do not change.
pub same_at_once : (within : ℕ) (sent more frames : Transmission) → (within == 0) ≡ true
    → joined_after within sent more ≡ frames
    → frames ≡ sent ++ more
same_at_once within sent more frames none all = grind (arith, nat_tests, joined_after-none)

pub continued_frame_is_delayed : (within : ℕ) (sent : Transmission) (s : SentFrame)
    → continues_with within sent s ≡ true
    → ((within == 0) ≡ false) × (0 < length sent)
continued_frame_is_delayed within sent s h1 = grind (arith, nat_tests)

pub growing_never_gets_shorter : (sent frames : Transmission) → GrowsTo sent frames
    → length sent ≤ length frames
growing_never_gets_shorter sent frames is = grind
    (arith, nat_tests, length-append, with_packets-length)

module _ (g : Criteria) (sent frames : Transmission) (is : GrowsTo sent frames) (n : ℕ)
    (size : length sent ≡ suc n)
  where
    abbrev all : Transmission
    all = with_packets is.rest sent

    all_frames_end_with_this : length all ≡ suc n
    all_frames_end_with_this = with_packets-length is.rest sent ∙ size

    pub long : n < length frames
    long = grind (arith, nat_tests, length-append, all_frames_end_with_this)

    pub frame_eq : (i : ℕ) → i < suc n → frame_at frames i ≡ frame_at sent i
    frame_eq i l = grind (
      arith,
      nat_tests,
      frame_at-prefix,
      all_frames_end_with_this,
      with_packets-frame_at,
    )

    pub before_eq : packets_before frames n ≡ packets_before sent n
    before_eq = grind (
      arith,
      nat_tests,
      packets_before-prefix,
      all_frames_end_with_this,
      with_packets-before,
    )

    pub so_far : packets_before sent (length sent)
        ≡ packets_before frames n ++ packets_of_frame sent n
    so_far =
        let next : length sent ≡ n + 1 = omega (arith, size) in
        grind (arith, nat_tests, packets_before_appends_next_frame, before_eq)

    pub end_eq : end_frame sent ≡ frame_at frames n
    end_eq = grind (arith, nat_tests, frame_eq)

    pub arrival_eq : steps_of_arrival g sent n ≡ steps_of_arrival g frames n
    arrival_eq =
        steps_of_arrival-same g sent all n (sym (with_packets-frames is.rest sent))
        (sym (with_packets-take is.rest sent n (omega (arith, size)))) n (le_refl n)
        ∙ sym (steps_of_arrival-prefix g g.unread all is.more n
        (omega (arith, all_frames_end_with_this)))
        ∙ ap (λ (fs : Transmission). steps_of_arrival g fs n) (sym is.whole)

module _ (g : Criteria) (sent more frames : Transmission) (whole : frames ≡ sent ++ more) (n : ℕ)
    (there : n < length sent)
  where
    pub ending_eq : steps_of_ending g sent n ≡ steps_of_ending g frames n
    ending_eq =
        sym (steps_of_ending-prefix g g.unread sent more n there)
        ∙ ap (λ (fs : Transmission). steps_of_ending g fs n) (sym whole)

    pub packets_are : packets_of_frame sent n ≡ packets_of_frame frames n
    packets_are = grind (arith, nat_tests, packets_of_frame-prefix)
