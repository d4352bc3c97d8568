use Rattle.stl_file.proofs.FileLemmas.{file_has_one_reading}
use Rattle.stl_file.proofs.laws.law_of_one_reading.Goals as goal

pub returns : goal.returns
returns c = file_has_one_reading
