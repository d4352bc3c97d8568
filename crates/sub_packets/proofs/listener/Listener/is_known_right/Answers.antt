use Rattle.std.proofs.Common.{sym}
use Rattle.std.proofs.lemmas.Bool.{not-true}
use Rattle.sub_packets.proofs.WrongCellLemmas.{wrong_eq}
use Rattle.sub_packets.proofs.listener.Listener.is_known_right.Goals as goal

pub returns-then-is_known_right : goal.returns-then-is_known_right
returns-then-is_known_right c right =
    sym
    (wrong_eq c.args.self.now _ (not-true _ right)
    (c.is_known_right.ensures c.if-is_known_right.true))
