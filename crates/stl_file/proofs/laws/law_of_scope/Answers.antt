use Rattle.stl_file.proofs.KeptBlocksLemmas.{whole_day_has_no_outside, scope_reads_like_cut_file}
use Rattle.stl_file.proofs.laws.law_of_scope.Goals as goal

pub returns : goal.returns
returns c = record { part = scope_reads_like_cut_file; day = whole_day_has_no_outside }
