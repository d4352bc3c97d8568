-- Loop invariant of `push_text_line`: the characters of all earlier text bytes were appended.
use Rattle.std.proofs.Common.{◌≡◌, ◌++◌, ◌+◌, map, take}
use Rattle.arrayvec.specs.ArrayVec.{array_vec_len}
use Rattle.sub_listing.specs.Lines.{printed_text_character}
use Rattle.sub_listing.proofs.packet.push_text_line.Given as goal

abbrev pub invariant-loop-byte : goal.invariant-loop-byte
invariant-loop-byte l =
    (l.line.items ≡ l.initial.line.items ++ map printed_text_character (take l.byte-index l.bytes))
    × (array_vec_len l.line ≡ array_vec_len l.initial.line + l.byte-index)
