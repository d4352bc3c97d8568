-- Loop invariant of `load_all_with_allocator`: the faults reported so far, followed by the faults
-- of the rest of the file, are all faults of the file. The kept subtitles, followed by the reliable
-- subtitles of the rest, are all reliable subtitles of the file. The last kept subtitle is left out
-- if the next subtitle is compared with it and is not in order with it.
use Rattle.std.proofs.Common.{◌≡◌, ◌-◌, ℕ, false, List, Some}
use Rattle.std.specs.List.{All}
use Rattle.sub_io.specs.Reporting.{Reports}
use Rattle.stl_file.specs.declared.progress.Progress.TheVariants.{Reading}
use Rattle.stl_file.specs.Reading.{findings_from}
use Rattle.stl_rows.specs.declared.fault.LoadFault.{LoadFault}
use Rattle.stl_rows.proofs.FailedReadLemmas.{HasConsumedBlocks}
use Rattle.stl_rows.proofs.KeepingLemmas.{RecordsMatchFaults}
use Rattle.stl_rows.proofs.LoadingLemmas.{LoadingInvariant, IsReportedUpToBlock}
use Rattle.stl_rows.proofs.every_fault.load_all_with_allocator.Given as goal

abbrev pub invariant-subtitles : goal.invariant-subtitles
invariant-subtitles g l = record {
  early : List LoadFault;
  reported : Reports g.D.ReportSink.is_reported l.fn.report_sink l.report_sink early;
  early_reported : All (IsReportedUpToBlock l.reader.block) early;
  records_match_faults : RecordsMatchFaults l.drawing l.before early l.kept;
  audience_listens : g.D.ReportSink.has_stopped l.report_sink ≡ false;
  reading : l.reader.progress ≡ Reading;
  scope : l.reader.scope ≡ l.drawing.scope;
  count : g.S.Source.failure_count l.source ≡ g.S.Source.failure_count l.fn.source;
  taken : HasConsumedBlocks (g.S.Source.remaining l.fn.source) (g.S.Source.remaining l.source)
      l.reader.block;
  continues : (bytes : List ℕ) → g.S.Source.remaining l.fn.source ≡ Some bytes
      → (rest : List ℕ) × (g.S.Source.remaining l.source ≡ Some rest)
      × LoadingInvariant l.drawing bytes (findings_from l.drawing.scope l.reader.block
      l.reader.refused rest)
      l.before l.kept early;
}

abbrev pub decreases-subtitles : goal.decreases-subtitles
decreases-subtitles g l = 99999 - l.reader.block
