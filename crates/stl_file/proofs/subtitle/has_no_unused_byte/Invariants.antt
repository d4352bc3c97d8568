-- Loop invariant of `has_no_unused_byte`: the rest of the text has no unused space if and only if
-- the whole text has none.
use Rattle.std.proofs.Common.{◌≡◌, drop}
use Rattle.stl_file.specs.Subtitle.{has_no_unused_space}
use Rattle.stl_file.proofs.subtitle.has_no_unused_byte.Given as goal

abbrev pub invariant-loop-byte : goal.invariant-loop-byte
invariant-loop-byte l = has_no_unused_space l.text ≡ has_no_unused_space (drop l.byte-index l.text)
