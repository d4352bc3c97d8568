use Rattle.stl_file.proofs.FileLemmas.{file_iff_accepted}
use Rattle.stl_file.proofs.laws.law_of_files.Goals as goal

pub returns : goal.returns
returns c = file_iff_accepted
