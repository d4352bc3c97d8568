-- In the columns examined so far, each expected code is replaced by a space.
use Rattle.std.proofs.Common.{◌≡◌, ℕ, ◌<◌, length, slice_index}
use Rattle.ttx_page.specs.Page.{AreCodes}
use Rattle.sub_packets.specs.UnexpectedCodes.{space_if_due}
use Rattle.sub_packets.proofs.unexpected.codes_without_due.Given as goal

abbrev pub invariant-loop-column : goal.invariant-loop-column
invariant-loop-column l = record {
  size : length l.codes ≡ 40;
  done :
      (k : ℕ)
      → k < l.column
      → slice_index l.codes k ≡ space_if_due (slice_index l.due k) (slice_index l.shown k);
  codes : AreCodes l.codes;
}
