use Rattle.stl_rows.proofs.PrintingCodeLaw.{drawing_keeps_printing_codes}
use Rattle.stl_rows.proofs.drawing.law_of_printing_codes.Goals as goal

pub returns : goal.returns
returns c = drawing_keeps_printing_codes
