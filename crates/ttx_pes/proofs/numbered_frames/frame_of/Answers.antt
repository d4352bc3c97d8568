use Rattle.std.proofs.Common.{length-append, arith}
use Rattle.std.proofs.lemmas.Bool.Decides.{nat_tests}
use Rattle.ttx_pes.proofs.LineOrderLemmas.{numbered_units_unfold, numbered_unit_precedes_next_place}
use Rattle.ttx_pes.proofs.numbered_frames.frame_of.Goals as goal

pub loop-i-preserved : goal.loop-i-preserved
loop-i-preserved c = grind
    (arith, nat_tests, numbered_units_unfold, length-append, numbered_unit_precedes_next_place)
