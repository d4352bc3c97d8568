use Rattle.stl_rows.proofs.LoadingLaw.{files_load_as_programmes}
use Rattle.stl_rows.proofs.loading.law_of_loading.Goals as goal

pub returns : goal.returns
returns c = files_load_as_programmes c.law_of_files.ensures
