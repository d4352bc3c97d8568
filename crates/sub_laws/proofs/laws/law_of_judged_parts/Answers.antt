use Rattle.sub_laws.proofs.JudgedFileLemmas.{judging_needs_used_blocks_only}
use Rattle.sub_laws.proofs.laws.law_of_judged_parts.Goals as goal

pub returns : goal.returns
returns c = judging_needs_used_blocks_only c.law_of_scope.ensures.part
