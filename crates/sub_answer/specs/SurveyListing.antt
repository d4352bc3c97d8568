-- The output of `survey`.
use Rattle.std.specs.Prelude.{◌≡◌, ◌≢◌, List, ◌++◌, ℕ, Option}
use Rattle.std.specs.Io.KnownBytes.{IsAtEnd}
use Rattle.mpeg_ts.specs.declared.survey_options.SurveyOptions.{SurveyOptions}
use Rattle.sub_listing.specs.DeviceCall.{SinkCall, SourceCall}
use Rattle.sub_listing.specs.FaultLine.{text_of_fault_line, status_of}
use Rattle.sub_listing.specs.Listing.{Listing, PrintsOrFails}
use Rattle.sub_listing.specs.declared.fault_line.FaultLine.{FaultLine}
use Rattle.sub_listing.specs.declared.status.Status.{Status}
use Rattle.sub_listing.specs.declared.status.Status.TheVariants.{Done, Fault}
use Rattle.ts_survey.specs.Listed.{IsSurveyOutput}

-- The text ends with the line of a fault whose exit status is `Fault`.
pub record EndsInFault (text : List ℕ) : Type 0 where
  pub before : List ℕ
  pub fault : FaultLine
  pub is_fault : status_of fault.kind ≡ Fault
  pub reported : text ≡ before ++ text_of_fault_line fault

-- Some lines were printed, or a prefix of them if the sink failed. If the status is `Done`, all of
-- them were printed, and the first lines and the last line are those of the requested survey of the
-- recording; the lines between them are not specified. Otherwise the status is `Fault`, and unless
-- the sink failed, the last line reports the failure.
pub record PrintsSurvey
    (options : SurveyOptions) (recording : Option (List ℕ)) (out : SinkCall) (status : Status)
    : Type 0 where
  pub listing : Listing
  pub printed : PrintsOrFails out listing status
  pub done :
      status ≡ Done → (out.new_count ≡ out.old_count) × IsSurveyOutput options recording
      listing.text
  pub fault : status ≢ Done → status ≡ Fault
  pub line : status ≢ Done → out.new_count ≡ out.old_count → EndsInFault listing.text

-- The output is as `PrintsSurvey` requires; and if the status is `Done`, the recording was read to
-- its end.
pub record AnswersSurvey
    (options : SurveyOptions) (recording : SourceCall) (out : SinkCall) (status : Status)
    : Type 0 where
  pub printed : PrintsSurvey options recording.known out status
  pub ended : status ≡ Done → IsAtEnd recording.left
