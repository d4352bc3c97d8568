-- Loop invariant of `read_input`: the buffer contains all bytes read so far, and no read has
-- failed.
use Rattle.std.proofs.Common.{◌≡◌, ◌≤◌, ◌-◌}
use Rattle.std.specs.Prelude.{vec_len}
use Rattle.std.specs.Io.KnownBytes.{Consumes}
use Rattle.sub_listing.specs.Writing.{read_limit}
use Rattle.sub_listing.proofs.normal.read_input.Given as goal

abbrev pub invariant-chunks : goal.invariant-chunks
invariant-chunks g l = record {
  most : vec_len l.bytes ≤ read_limit;
  taken : Consumes
      (g.S.Source.remaining l.initial.input) (g.S.Source.remaining l.input) l.bytes.items;
  count : g.S.Source.failure_count l.input ≡ g.S.Source.failure_count l.initial.input;
}

abbrev pub decreases-chunks : goal.decreases-chunks
decreases-chunks g l = read_limit - vec_len l.bytes
