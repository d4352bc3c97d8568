-- Loop invariant of `used_length`: the bytes of the text field so far contain no unused space.
use Rattle.std.proofs.Common.{◌≡◌, ◌++◌, take, drop}
use Rattle.stl_file.specs.Tti.{bytes_before_unused_space}
use Rattle.stl_file.proofs.subtitle.used_length.Given as goal

abbrev pub invariant-loop-at : goal.invariant-loop-at
invariant-loop-at l = take l.at l.field ++ bytes_before_unused_space (drop l.at l.field) ≡
    bytes_before_unused_space l.field
