-- The output of `survey` is complete, or it is a prefix because the sink failed, or it ends with
-- the line of a fault.
use Rattle.std.proofs.Common.{◌≡◌, ◌≢◌, ℕ, ◌+◌, List, ◌++◌, Option, refl, ◌∙◌, ap, arith, inl, inr}
use Rattle.std.proofs.KnownBytes.{Appends-trans}
use Rattle.mpeg_ts.specs.declared.survey_options.SurveyOptions.{SurveyOptions}
use Rattle.sub_io.proofs.DeviceLemmas.{AppendsPrefix-second, AppendsPrefix-whole}
use Rattle.sub_listing.specs.DeviceCall.{SinkCall}
use Rattle.sub_listing.specs.FaultLine.{text_of_fault_line, status_of}
use Rattle.sub_listing.specs.Listing.{PrintsOrFails, fault_listing}
use Rattle.sub_answer.specs.SurveyListing.{PrintsSurvey}
use Rattle.sub_listing.specs.declared.fault_line.FaultLine.{FaultLine}
use Rattle.sub_listing.specs.declared.status.Status.{Status}
use Rattle.sub_listing.specs.declared.status.Status.TheVariants.{Done, Fault}
use Rattle.ts_survey.specs.Listed as listed
use Rattle.ts_survey.specs.Survey.{AppendsSomeText}

pub printed-done : (options : SurveyOptions) (recording : Option (List ℕ)) (out : SinkCall)
    → listed.ReportsSurvey options recording out.old out.new
    → out.new_count ≡ out.old_count
    → PrintsSurvey options recording out Done
unfolding PrintsOrFails
printed-done options recording out surveys same = record {
  listing = record { text = surveys.0; status = Done };
  printed = inl (same, surveys.1, refl);
  done = λ is. (same, surveys.2);
  fault = λ other. absurd (other refl);
  line = λ other count. absurd (other refl);
}

pub printed-cut : (options : SurveyOptions) (recording : Option (List ℕ)) (out : SinkCall)
    → AppendsSomeText out.old out.new
    → out.new_count ≡ out.old_count + 1
    → PrintsSurvey options recording out Fault
unfolding PrintsOrFails
printed-cut options recording out grows risen = record {
  listing = record { text = grows.0; status = Done };
  printed = inr (risen, AppendsPrefix-whole out.old out.new grows.0 grows.1, refl);
  done = λ is. absurd cc;
  fault = λ other. refl;
  line = λ other count. absurd (omega (arith, risen, count));
}

pub printed-reported :
    (options : SurveyOptions) (recording : Option (List ℕ)) (out : SinkCall)
    (mid : Option (List ℕ)) (count : ℕ) (reported : FaultLine) (status : Status)
    → AppendsSomeText out.old mid
    → count ≡ out.old_count
    → PrintsOrFails (record out { old = mid; old_count = count }) (fault_listing reported) status
    → status_of reported.kind ≡ Fault
    → status ≢ Done
    → status ≡ Fault
    → PrintsSurvey options recording out status
unfolding PrintsOrFails
printed-reported _ _ out mid _ reported status grows same (inl p) is_fault other fault = record {
  listing = record {
    text = grows.0 ++ text_of_fault_line reported;
    status = status_of
        reported.kind;
  };
  printed = inl (
    p.0 ∙ same,
    Appends-trans out.old mid out.new grows.0 (text_of_fault_line reported) grows.1 p.1,
    p.2,
  );
  done = λ is. absurd (other is);
  fault = λ not. fault;
  line = λ not kept. record {
    before = grows.0;
    fault = reported;
    is_fault = is_fault;
    reported = refl;
  };
}
printed-reported _ _ out mid _ reported status grows same (inr p) is_fault other fault = record {
  listing = record {
    text = grows.0 ++ text_of_fault_line reported;
    status = status_of
        reported.kind;
  };
  printed = inr (
    p.0 ∙ ap (λ n. n + 1) same,
    AppendsPrefix-second out.old mid out.new grows.0 (text_of_fault_line reported) grows.1 p.1,
    p.2,
  );
  done = λ is. absurd (other is);
  fault = λ not. fault;
  line = λ not kept. record {
    before = grows.0;
    fault = reported;
    is_fault = is_fault;
    reported = refl;
  };
}

-- The proof of `print_survey` uses these two lemmas.
pub ruleset surveys = (printed-done, printed-cut)
