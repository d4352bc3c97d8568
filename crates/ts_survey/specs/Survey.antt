-- The output of `survey` is appended to a sink.
use Rattle.std.specs.Prelude.{ℕ, Bool, true, false, List, Option}
use Rattle.std.specs.Io.KnownBytes.{Appends}
use Rattle.ts_survey.specs.declared.reporting.SurveyFault.{SurveyFault}
use Rattle.ts_survey.specs.declared.reporting.SurveyFault.TheVariants.{Read, Write}

-- Some text, which may be empty, was appended to the sink.
abbrev pub AppendsSomeText : Option (List ℕ) → Option (List ℕ) → Type 0
AppendsSomeText old new = (text : List ℕ) × Appends old new text

-- The fault means that the source of the recording failed.
abbrev pub is_survey_read_failure : SurveyFault → Bool
is_survey_read_failure Read = true
is_survey_read_failure _ = false

-- The fault means that the sink failed.
abbrev pub is_survey_write_failure : SurveyFault → Bool
is_survey_write_failure Write = true
is_survey_write_failure _ = false
