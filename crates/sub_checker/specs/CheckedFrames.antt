-- The state of the checker after some frames, and its steps for one frame.
use Rattle.std.specs.Prelude.{◌≡◌, ℕ, suc, ◌+◌, ◌-◌, ◌<◌, ◌==◌, List, [], ◌++◌, length, map}
use Rattle.std.specs.Prelude.{nat_le, false, true, Option, if◌then◌else◌}
use Rattle.ttx_page.specs.PacketKind.{kind}
use Rattle.ttx_page.specs.Span.{has_text_beginning}
use Rattle.sub_rules.specs.Transmission.{Transmission}
use Rattle.sub_checker.specs.Checker.{CheckerValue, needs_back_step, is_due_page_undecided}
use Rattle.sub_rules.specs.Events.{previous_end_frame, gap_length, is_gap, latest_frame}
use Rattle.sub_rules.specs.Events.{no_active_faults}
use Rattle.sub_rules.specs.Events.{order_events, first_unfinished_before}
use Rattle.sub_rules.specs.Events.{first_unfinished_in_frames, active_faults_at}
use Rattle.sub_rules.specs.Events.{active_faults_before}
use Rattle.sub_packets.specs.Listener.{KnowsLast}
use Rattle.sub_rules.specs.FrameRules.{Criteria, UnreadReason, criteria_with, frame_at}
use Rattle.sub_rules.specs.FrameRules.{packets_before}
use Rattle.sub_rules.specs.FrameRules.{packets_of_frame}
use Rattle.sub_rules.specs.PacketRules.{header_count}
use Rattle.sub_rules.specs.PesPacketEvents.{steps_of_arrival, steps_of_closing, steps_of_ending}
use Rattle.sub_rules.specs.PesPacketEvents.{steps_of_gap, steps_of_packets, steps_of_pending_end}
use Rattle.sub_rules.specs.Trusted.{CheckStep}
use Rattle.sub_rules.specs.Trusted.CheckStep.{GoesBack, Emits}
use Rattle.sub_checker.specs.Relay.{at_step}
use Rattle.sub_checker.specs.declared.reporter.Reporter.{Reporter}

-- ---- the state of the checker

-- The criteria in the state of the checker. `unread` says why the rest of the file could not be
-- read.
abbrev pub criteria_of_checker : CheckerValue → Option UnreadReason → Criteria
criteria_of_checker c unread =
    record (criteria_with c.programme c.listener.watched c.every c.within c.pace unread) {
      any_unreliable = c.any_unreliable;
      undecided = is_due_page_undecided c;
    }

-- The state of the checker agrees with the packets of the first n frames. `last` are the packets of
-- the last PES packet that was not skipped.
pub record AgreesWithPackets
    (g : Criteria) (frames : Transmission) (n : ℕ) (last : List (List ℕ)) (c : CheckerValue)
    : Type 0 where
  pub criteria_are : g ≡ criteria_of_checker c g.unread
  pub knows : KnowsLast (packets_before frames n) last c.listener
  pub count : c.counts.headers ≡ header_count g.watched.page (packets_before frames n)

-- Once a PES packet was received and not skipped, the state of the checker has the first frame, and
-- the frame after the first at whose end the repeat bound is exceeded if no header of the page
-- follows.
pub record HasStarted (g : Criteria) (frames : Transmission) (n : ℕ) (c : CheckerValue) : Type 0
  where
    pub first_is : c.first ≡ frame_at frames 0
    pub gap_eq : (f : ℕ) → is_gap g frames n f ≡ nat_le c.repeat_deadline (f + 1)

-- The state of the checker after the end of the first n frames of the transmission.
pub record AfterEnd
    (g : Criteria) (frames : Transmission) (n : ℕ) (last : List (List ℕ)) (c : CheckerValue)
    : Type 0 where
  pub known : AgreesWithPackets g frames n last c
  pub none : n ≡ 0 → c.active_faults ≡ no_active_faults
  pub begun : 0 < n → HasStarted g frames n c
  pub latest_is : 0 < n → c.latest_frame ≡ latest_frame frames n
  pub active_faults_eq :
      0 < n → c.active_faults ≡ active_faults_at g frames n (frame_at frames (n - 1))
  pub last_is : 0 < n → c.last ≡ frame_at frames (n - 1)
  pub first_unfinished_eq : 0 < g.within → c.first_unfinished ≡ first_unfinished_in_frames g frames
      n
  pub number : c.counts.frames ≡ n

-- The state of the checker before the end of frame f, after n frames of the transmission.
pub record BeforeEnd
    (g : Criteria) (frames : Transmission) (n f : ℕ) (last : List (List ℕ)) (c : CheckerValue)
    : Type 0 where
  pub known : AgreesWithPackets g frames n last c
  pub begun : HasStarted g frames n c
  pub active_faults_eq : c.active_faults ≡ active_faults_before g frames n f
  pub last_is : 0 < n → c.last ≡ previous_end_frame frames n f
  pub first_unfinished_eq : 0 < g.within → c.first_unfinished ≡ first_unfinished_before g frames n f
  pub number : c.counts.frames ≡ n

-- The state of the checker at frame n of the transmission, before its packets are received.
pub record BeforePackets
    (g : Criteria) (frames : Transmission) (n : ℕ) (last : List (List ℕ)) (c : CheckerValue)
    : Type 0 where
  pub has_pending : BeforeEnd g frames n (frame_at frames n) last c
  pub frame_eq : c.frame ≡ frame_at frames n
  pub latest_is : c.latest_frame ≡ latest_frame frames (suc n)

-- The state of the checker at frame n of the transmission, after its packets were received and
-- before the frame ends.
pub record AfterPackets
    (g : Criteria) (frames : Transmission) (n : ℕ) (last : List (List ℕ)) (c : CheckerValue)
    : Type 0 where
  pub known : AgreesWithPackets g frames (suc n) last c
  pub begun : HasStarted g frames (suc n) c
  pub active_faults_eq : c.active_faults ≡ active_faults_before g frames n (frame_at frames n)
  pub last_is : 0 < n → c.last ≡ previous_end_frame frames n (frame_at frames n)
  pub first_unfinished_eq : 0 < g.within → c.first_unfinished ≡ first_unfinished_before g frames n
      (frame_at frames n)
  pub number : c.counts.frames ≡ suc n
  pub frame_eq : c.frame ≡ frame_at frames n
  pub latest_is : c.latest_frame ≡ latest_frame frames (suc n)
  pub begins :
      c.listener.begun
      ≡ has_text_beginning g.watched.keeps (kind g.watched.page) (packets_of_frame frames n)

-- The state of the checker at frame n of the transmission, if more packets of that frame may
-- follow.
pub record StaysOpen
    (g : Criteria) (frames : Transmission) (n : ℕ) (last : List (List ℕ)) (c : CheckerValue)
    : Type 0 where
  pub heard : AfterPackets g frames n last c
  pub before : c.counts.headers_before ≡ header_count g.watched.page (packets_before frames n)
  pub packets : c.counts.packets ≡ length (packets_of_frame frames n)

-- The state of the checker after some PES packets, or before the first. The last frame, if there is
-- one, has ended if `within` is 0, and has not ended yet if it is not.
pub record BetweenPesPackets (g : Criteria) (sent : Transmission) (last : List (List ℕ))
    (c : CheckerValue) : Type 0
  where
    pub closed : c.counts.is_open ≡ false → AfterEnd g sent (length sent) last c
    pub none : c.counts.is_open ≡ false → 0 < g.within → sent ≡ []
    pub some : c.counts.is_open ≡ true → 0 < length sent
    pub within : c.counts.is_open ≡ true → 0 < g.within
    pub opens : c.counts.is_open ≡ true → StaysOpen g sent (length sent - 1) last c

-- ---- the steps of the checker

-- The steps before frame i of the transmission: its frame number is checked, and the frames without
-- a PES packet before it end.
abbrev pub steps_to_next_frame : Criteria → Transmission → ℕ → List CheckStep
steps_to_next_frame g frames i =
    map Emits (order_events g frames i) ++ steps_of_gap g frames i (gap_length frames i)

-- The steps for frame i of the transmission. They include its end only if `within` is 0.
abbrev pub steps_of_next_frame : Criteria → Transmission → ℕ → List CheckStep
steps_of_next_frame g frames i =
    steps_of_arrival g frames i
    ++ steps_of_packets g frames i
    ++ (if g.within == 0 then steps_of_ending g frames i else [])

-- The steps at the end of the file, after `pes` PES packets.
abbrev pub steps_at_end_of_file : Criteria → Transmission → ℕ → List CheckStep
steps_at_end_of_file g list pes = steps_of_pending_end g list ++ steps_of_closing g list pes
    (length list)

-- The reporter after a `GoesBack` step, if the checker needs that step.
unfoldable pub reporter_after_back_step : {D : Type 0} {g : _} → CheckerValue → Reporter D g →
    Reporter D g
reporter_after_back_step c s = if needs_back_step c then at_step (GoesBack c.first_unfinished) s
    else s
