-- The printer's `report` reports exactly one fault of the subtitle file.
use Rattle.std.proofs.Common.{◌∙◌, sym}
use Rattle.std.proofs.lemmas.Bool.{true≢false}
use Rattle.sub_io.proofs.ReportingLemmas.{Reports-one}
use Rattle.sub_listing.proofs.printer.PrinterReportSinkLoadFault.report.Goals as goal

pub returns-clause-reported : goal.returns-clause-reported
returns-clause-reported g c =
    Reports-one c.args.self.now c.print.new.self c.args.item (
      c.print.ensures.same,
      c.print.ensures.prints,
      λ still. absurd (true≢false (sym c.print.ensures.has_pending ∙ still)),
    )
