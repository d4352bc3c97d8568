-- The steps at the end of a frame that come before its events do not end a run. If `within` is 0,
-- there are none. Otherwise they only record since when the page has been unfinished, whether it is
-- overdue and, if a subtitle is unreliable, since when it was unfinished at the frame before.
use Rattle.std.proofs.lemmas.Bool.Decides.{nat_tests}
use Rattle.std.proofs.Common.{◌≡◌, ℕ, ◌≤◌, true, false, not}
use Rattle.std.proofs.Common.{◌==◌, ◌&&◌, None, if◌then◌else◌, List, [], ◌∷◌}
use Rattle.std.proofs.Common.{map, Some, arith}
use Rattle.std.proofs.Common.{is_some}
use Rattle.std.proofs.lemmas.Option.{none-some}
use Rattle.std.specs.Option.{option_or}
use Rattle.sub_rules.specs.Events.{events_at_end, is_late}
use Rattle.sub_rules.specs.Events.{first_unfinished_before}
use Rattle.sub_rules.specs.FrameRules.{Criteria}
use Rattle.sub_rules.specs.PesPacketEvents.{needs_back_steps, steps_at_end}
use Rattle.sub_rules.specs.Transmission.{Transmission}
use Rattle.sub_rules.specs.Trusted.CheckStep.{Emits}
use Rattle.sub_laws.specs.CleanStretch.{IsEnd}
use Rattle.sub_trusted.proofs.TrackerStateLemmas.{SeesNoLateness}
use Rattle.sub_trusted.proofs.LateInvalidationLemmas.{seen_run_start}
use Rattle.sub_laws.proofs.PrefixLemmas.{RiseTo}
use Rattle.sub_trusted.proofs.EmittedStepLemmas.{has_risen}
use Rattle.sub_rules.specs.Trusted.{CheckStep, back_frame_of, last_packet_frame, late_run_start}
use Rattle.sub_rules.specs.Trusted.{run_of}
use Rattle.sub_rules.specs.Trusted.{first_unfinished_of}
use Rattle.sub_rules.specs.Trusted.{stays_fault_free, reports_order_fault, events_reported_at_step}
use Rattle.sub_rules.specs.Trusted.{frame_if_finished}
use Rattle.sub_rules.specs.Trusted.{first_finished_of}

module _ (g : Criteria) (frames : Transmission) where
  -- The values that decide about trusted frames after the steps `u` are those after the steps `t`
  -- and then the steps at the end of frame f that come before its events. By then, n frames of the
  -- transmission were sent.
  pub record ChecksFrameEnd (n f : ℕ) (t u : List CheckStep) : Type 0 where
    pub run_eq : run_of u ≡ run_of t
    pub first_finished_eq :
        is_some (run_of t) ≡ true
        → first_finished_of u ≡ option_or (first_finished_of t)
        (frame_if_finished f (seen_run_start g frames n f))
    pub last_is : last_packet_frame u ≡ last_packet_frame t
    pub rises_is : has_risen u ≡ has_risen t
    pub clean_flags_agree : stays_fault_free u ≡ stays_fault_free t
    pub first_unfinished_eq : first_unfinished_of u ≡ seen_run_start g frames n f
    pub late_eq :
        late_run_start u
        ≡ (if not (g.within == 0) && is_late g frames n f then seen_run_start g frames n f
        else None)
    pub plain : needs_back_steps g ≡ false → back_frame_of u ≡ back_frame_of t

  -- The frame of the last `GoesBack` step, if any, is the first of the run of unfinished frames up
  -- to the frame before f.
  abbrev pub IsWrongSince : ℕ → ℕ → List CheckStep → Type 0
  IsWrongSince i f u = (r : ℕ) → back_frame_of u ≡ Some r → first_unfinished_before g frames i f ≡
      Some r

  -- A relation T holds for all steps at the end of frame f if it holds for the events among them,
  -- and if T stays true when a step that reports nothing is put before the others. Assumptions: if
  -- `within` is 0, the steps `t` before them record no unfinished page; if the checker needs no
  -- `GoesBack` steps, `t` has no frame of such a step.
  pub end_steps_are_followed : (T : List CheckStep → List CheckStep → Type 0) (i n f : ℕ)
      (t : List CheckStep)
      → ((g.within == 0) ≡ true → SeesNoLateness t)
      → (needs_back_steps g ≡ false → back_frame_of t ≡ None)
      → ((v : List CheckStep) (m : CheckStep) (ms : List CheckStep)
      → events_reported_at_step v m ≡ []
      → T (m ∷ v) ms
      → T v (m ∷ ms))
      → ((u : List CheckStep)
      → ChecksFrameEnd n f t u
      → IsWrongSince i f u
      → T u (map Emits (events_at_end g frames i n f)))
      → T t (steps_at_end g frames i n f)
  unfolding events_reported_at_step run_of first_finished_of last_packet_frame first_unfinished_of
      late_run_start
      back_frame_of
      stays_fault_free reports_order_fault
  end_steps_are_followed T i n f t none plain cons so = grind (arith, nat_tests, none-some)

  -- Frame f ends after m frames of the transmission, whose numbers increase, and is not before
  -- `from`.
  abbrev pub HasEndInRun : ℕ → ℕ → ℕ → Type 0
  HasEndInRun m f from = (from ≤ f) × IsEnd frames m f × RiseTo frames m
