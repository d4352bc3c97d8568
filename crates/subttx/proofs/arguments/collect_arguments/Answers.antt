use Rattle.std.proofs.Common.{Ok, ap, map, string_bytes}
use Rattle.subttx.proofs.ArgumentTextLemmas.{collecting_keeps_items}
use Rattle.subttx.proofs.arguments.collect_arguments.Goals as goal

pub returns-in-Ok-collect-clause-arguments : goal.returns-in-Ok-collect-clause-arguments
returns-in-Ok-collect-clause-arguments c =
    rw c.in-Ok.is (ap (λ arguments. Ok (map (λ word. string_bytes word) arguments))
    (collecting_keeps_items c.in-Ok.arguments c.in-Ok-collect.arguments
    c.in-Ok-collect.ensures.ran))
