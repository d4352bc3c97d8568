use Rattle.std.proofs.Common.{refl, arith}
use Rattle.sub_checker.proofs.CheckedFramesLemmas.{BetweenPesPackets-none}
use Rattle.sub_checker.proofs.checker.Checker.new.Goals as goal

pub returns-clause-keeps : goal.returns-clause-keeps
returns-clause-keeps c = λ last unread.
    BetweenPesPackets-none _ last _ (grind arith) (c.new.ensures.knows _) c.new-2.ensures refl
    c.none.ensures
