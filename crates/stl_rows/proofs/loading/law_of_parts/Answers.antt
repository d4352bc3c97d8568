use Rattle.stl_rows.proofs.PartLemmas.{parts_load_like_cut_files}
use Rattle.stl_rows.proofs.loading.law_of_parts.Goals as goal

pub returns : goal.returns
returns c = parts_load_like_cut_files c.law_of_scope.ensures.part
