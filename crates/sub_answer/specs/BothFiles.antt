-- Common parts of the answers of `check` and `check --all`.
use Rattle.std.specs.Prelude.{◌≡◌, ◌≢◌, ◌↔◌, ℕ, Bool, true, IsFalse, Result, Err}
use Rattle.sub_io.specs.Device.{CountRisesIf, failed}
use Rattle.sub_io.specs.Reading.{IfKnown}
use Rattle.ttx_pes.specs.declared.fault.PesFault.TheVariants.{Read}
use Rattle.stl_rows.specs.Fault.{is_load_read_failure}
use Rattle.stl_rows.specs.declared.fault.LoadFault.{LoadFault}
use Rattle.stl_rows.specs.declared.layout.Drawing.{Drawing}
use Rattle.sub_plan.specs.Options.{OptionsValue}
use Rattle.sub_check.specs.CheckedFiles.{IsAccepted, IsAcceptedBy}
use Rattle.sub_rules.specs.Fault.{is_pes_read_failure, is_stl_read_failure}
use Rattle.sub_rules.specs.declared.fault.CheckFault.{CheckFault}
use Rattle.sub_rules.specs.declared.fault.CheckFault.TheVariants.{Pes, Subtitles}
use Rattle.sub_listing.specs.DeviceCall.{SinkCall, SourceCall}
use Rattle.sub_listing.specs.declared.status.Status.{Status}
use Rattle.sub_listing.specs.declared.status.Status.TheVariants.{Done, Fault}

-- An answer reports the failures of the two sources, a subtitle file and a PES file. `FailsAtBlock`
-- and `FailsAtPes` specify at which block or PES packet a source failed.
pub record ReportsSources
    {Counts : Type 0} (FailsAtBlock FailsAtPes : ℕ → Type 0) (Untouched : Type 0)
    (concerns_subtitle_file : Bool) (stl pes : SourceCall) (answer : Result Counts CheckFault)
    : Type 0 where
  -- A source failed exactly if the answer reports it.
  pub stl_failure_count : CountRisesIf stl.old_count (failed is_stl_read_failure answer)
      stl.new_count
  pub pes_failure_count : CountRisesIf pes.old_count (failed is_pes_read_failure answer)
      pes.new_count
  -- The answer names the block or PES packet at which a source failed.
  pub stl_failure_is_at_block :
      (f : LoadFault) → answer ≡ Err (Subtitles f) → is_load_read_failure f ≡ true → FailsAtBlock
      f.block
  pub pes_failure_is_at_packet : (index : ℕ) → answer ≡ Err (Pes index Read) → FailsAtPes index
  -- If the answer concerns the subtitle file, no byte of the PES file is read.
  pub before : concerns_subtitle_file ≡ true → Untouched

-- The meaning of the exit status for both files. `PrintsMemory` specifies the output if memory ran
-- out.
pub record IsStatusOfFiles
    (drawing : Drawing) (options : OptionsValue) (stl pes : SourceCall) (out : SinkCall)
    (PrintsMemory : Type 0) (status : Status)
    : Type 0 where
  -- Unless a device failed or memory ran out, the status is `Done` exactly if the files are
  -- accepted. Clause `done` is for options that require each header of the page to erase the page,
  -- and the expected page at the end of each frame. Clause `done_by` is for any options.
  pub done :
      IsFalse options.keeps
      → options.within ≡ 0
      → IfKnown stl.known (λ file.
      IfKnown pes.known (λ bytes.
      status ≢ Fault
      → (status ≡ Done) ↔ IsAccepted drawing options file bytes))
  pub done_by :
      IfKnown stl.known (λ file.
      IfKnown pes.known (λ bytes.
      status ≢ Fault
      → (status ≡ Done) ↔ IsAcceptedBy drawing options file bytes))
  -- The status is `Fault` only if a device failed or the line about a lack of memory was printed.
  pub fault :
      status ≡ Fault
      → stl.new_count ≡ stl.old_count
      → pes.new_count ≡ pes.old_count
      → out.new_count ≡ out.old_count
      → PrintsMemory
