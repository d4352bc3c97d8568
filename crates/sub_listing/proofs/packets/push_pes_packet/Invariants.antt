-- Loop invariant of `push_pes_packet`: the buffer has room for the lines of the remaining Teletext
-- units, 192 bytes each and at most 35. The lines so far, followed by these, are the lines of all
-- units.
use Rattle.std.proofs.Common.{◌≡◌, ◌+◌, ◌*◌, ◌≤◌, ◌++◌, drop, length}
use Rattle.arrayvec.specs.ArrayVec.{array_vec_len}
use Rattle.sub_listing.specs.PacketsListing.{unit_lines}
use Rattle.sub_listing.proofs.packets.push_pes_packet.Given as goal

abbrev pub invariant-loop-number : goal.invariant-loop-number
invariant-loop-number l = record {
  room : array_vec_len l.text ≤ 64 + 192 * l.number;
  few : length l.units ≤ 35;
  lines :
      l.text.items ++ unit_lines l.number (drop l.number l.units)
      ≡ l.initial.text.items ++ unit_lines 0 l.units;
}
