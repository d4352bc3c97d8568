-- Examples of trusted frames: which frames are reported as `trusted`, and before which events. The
-- files have PES packets for frame 0 and, except in the last example, frame 50.
use Rattle.std.specs.Prelude.{◌≡◌, ℕ, ◌++◌, true, false, List, [], ◌∷◌, Some, None}
use Rattle.ttx_pes.specs.declared.fault.PesFault.TheVariants.{DataId, Truncated}
use Rattle.sub_rules.specs.Trusted.{CheckStep, events_reported_after}
use Rattle.sub_rules.specs.Trusted.CheckStep.{AtEnd, AtPes, Begins, Closes, Ends, Emits}
use Rattle.sub_rules.specs.declared.end_rule.EndRule.TheVariants as end
use Rattle.sub_rules.specs.declared.event.Event.{Event}
use Rattle.sub_rules.specs.declared.event.Event.TheVariants.{Ended, Reported, Trusted}
use Rattle.sub_rules.specs.declared.fault.CheckFault.TheVariants as fault

-- Checking a file in the given steps reports the given events.
abbrev pub AreReportedEvents : List Event → List CheckStep → Type 0
AreReportedEvents events steps = events_reported_after [] steps ≡ events

-- The steps for a PES packet of frame `f` that has a header that erases the page, and no faults.
abbrev pub steps_of_good_frame : ℕ → ℕ → List CheckStep
steps_of_good_frame pes f = AtPes pes ∷ Begins f ∷ Ends f true true ∷ []

-- The steps at the end of a file without unread bytes, unreliable subtitles and further events.
abbrev pub closing_steps : ℕ → List CheckStep
closing_steps pes = AtPes pes ∷ Closes false false ∷ []

-- Examples for several kinds of faults: the steps, and the reported events with the trusted frames.
pub record ExamplesOfTrustedFrames : Type 0 where
  -- If there are no faults, no frame is reported as `trusted`, since nothing is reported.
  pub nothing :
      AreReportedEvents []
      (steps_of_good_frame 0 0 ++ steps_of_good_frame 1 50 ++ closing_steps 2)
  -- The repeat bound is exceeded at the ends of frames 25 to 49, so these frames are not clean.
  pub gap :
      AreReportedEvents
      (Trusted 0 24 ∷ Reported (fault.Gap 25) ∷ Ended end.Gap 49 ∷ Trusted 50 50 ∷ [])
      (steps_of_good_frame 0 0
      ++ AtPes 1 ∷ Emits (Reported (fault.Gap 25)) ∷ Begins 50 ∷ Emits (Ended end.Gap 49)
      ∷ Ends 50 true true ∷ closing_steps 2)
  -- The same two frames occur twice in one file. From the third PES packet on, no frame is clean.
  -- This packet may have been sent in frame 50, so frame 50 is not clean either.
  pub order :
      AreReportedEvents (Trusted 0 49 ∷ Reported (fault.Order 2) ∷ [])
      (steps_of_good_frame 0 0 ++ steps_of_good_frame 1 50
      ++ AtPes 2 ∷ Emits (Reported (fault.Order 1)) ∷ Begins 0 ∷ Ends 0 true true
      ∷ steps_of_good_frame 3 50 ++ closing_steps 4)
  -- A row of frame 0 has a byte with even parity, so frame 0 is not clean.
  pub parity :
      AreReportedEvents (Reported (fault.Parity 0 1) ∷ Trusted 50 50 ∷ [])
      (AtPes 0 ∷ Begins 0 ∷ Emits (Reported (fault.Parity 0 1)) ∷ Ends 0 true true
      ∷ steps_of_good_frame 1 50 ++ closing_steps 2)
  -- The fault `Mode`, another C11, is reported in frame 0. It does not matter to receivers, so the
  -- frame is clean.
  pub mode :
      AreReportedEvents (Reported (fault.Mode 0 0) ∷ Trusted 0 50 ∷ [])
      (AtPes 0 ∷ Begins 0 ∷ Emits (Reported (fault.Mode 0 0)) ∷ Ends 0 true true
      ∷ steps_of_good_frame 1 50 ++ closing_steps 2)
  -- The page is wrong at the ends of frames 0 to 49, so these frames are not clean.
  pub content :
      AreReportedEvents (Reported (fault.Content 0 22 19) ∷ Ended end.Content 49 ∷ Trusted 50 50 ∷
      [])
      (AtPes 0 ∷ Begins 0 ∷ Emits (Reported (fault.Content 0 22 19)) ∷ Ends 0 true false
      ∷ AtPes 1 ∷ Begins 50 ∷ Emits (Ended end.Content 49) ∷ Ends 50 true true ∷ closing_steps 2)
  -- A PES packet between the two frames is skipped. It may have been sent in frame 0, so frame 0 is
  -- not clean.
  pub skipped :
      AreReportedEvents (Reported (fault.Pes 1 DataId) ∷ Trusted 50 50 ∷ [])
      (steps_of_good_frame 0 0 ++ AtPes 1 ∷ Emits (Reported (fault.Pes 1 DataId)) ∷
      steps_of_good_frame 2 50 ++ closing_steps 3)
  -- Unread bytes follow frame 50. They may have been sent in this frame, so it is not clean.
  pub left :
      AreReportedEvents (Trusted 0 49 ∷ Reported (fault.Pes 2 Truncated) ∷ [])
      (steps_of_good_frame 0 0 ++ steps_of_good_frame 1 50
      ++ AtPes 2 ∷ Closes true true ∷ Emits (Reported (fault.Pes 2 Truncated)) ∷ [])
  -- With `within` 2, the page is right at the end of frame 0 and wrong at the ends of the next
  -- three frames.
  pub late :
      AreReportedEvents (Trusted 0 0 ∷ Reported (fault.Content 3 22 19) ∷ [])
      (AtPes 0 ∷ Begins 0 ∷ AtEnd 0 None false ∷ Ends 0 true true
      ∷ AtPes 1 ∷ AtEnd 1 (Some 1) false ∷ AtEnd 2 (Some 1) false
      ∷ AtEnd 3 (Some 1) true ∷ Emits (Reported (fault.Content 3 22 19)) ∷ closing_steps 1)
