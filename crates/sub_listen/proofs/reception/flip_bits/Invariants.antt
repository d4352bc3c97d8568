-- Loop invariant of `flip_bits`: the bytes so far, with the remaining bit flips, are the packet
-- with all bit flips.
use Rattle.std.proofs.Common.{◌≡◌, drop}
use Rattle.sub_request.specs.Flips.{with_flips}
use Rattle.sub_listen.proofs.reception.flip_bits.Given as goal

abbrev pub invariant-loop-flip : goal.invariant-loop-flip
invariant-loop-flip l =
    with_flips l.flips l.number l.packet
    ≡ with_flips (drop l.flip-index l.flips) l.number l.bytes
