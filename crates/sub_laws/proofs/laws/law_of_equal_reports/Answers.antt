use Rattle.sub_laws.proofs.JudgedFileLemmas.{law_of_equal_reports}
use Rattle.sub_laws.proofs.laws.law_of_equal_reports.Goals as goal

pub returns : goal.returns
returns c = law_of_equal_reports
