use Rattle.stl_rows.proofs.PageShapeLemmas.{due_is_page}
use Rattle.stl_rows.proofs.programme.law_of_due_pages.Goals as goal

pub returns : goal.returns
returns c = due_is_page
