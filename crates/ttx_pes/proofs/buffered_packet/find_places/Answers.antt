-- A data field with the same data unit headers as the stored one has its Teletext units at the same
-- offsets.
use Rattle.std.proofs.Common.{◌≡◌, length, arith, rules}
use Rattle.ttx_pes.specs.Accepting.{HaveSameUnitHeaders}
use Rattle.ttx_pes.proofs.DataUnitHeaderLemmas.{equal_headers_share_places}
use Rattle.ttx_pes.proofs.buffered_packet.find_places.Goals as goal

pub returns-then-are_unit_headers_equal-clause-all :
    goal.returns-then-are_unit_headers_equal-clause-all
returns-then-are_unit_headers_equal-clause-all c =
    let size : length c.args.kept.now ≡ length c.args.field.now = search rules in
    let heads : HaveSameUnitHeaders c.args.kept.now c.args.field.now = search rules in
    (equal_headers_share_places c.args.kept.now c.args.field.now c.args.places.now size
    (omega arith) heads
    c.requires.all c.requires.units).0

pub returns-then-are_unit_headers_equal-clause-ok :
    goal.returns-then-are_unit_headers_equal-clause-ok
returns-then-are_unit_headers_equal-clause-ok c =
    let size : length c.args.kept.now ≡ length c.args.field.now = search rules in
    let heads : HaveSameUnitHeaders c.args.kept.now c.args.field.now = search rules in
    (equal_headers_share_places c.args.kept.now c.args.field.now c.args.places.now size
    (omega arith) heads
    c.requires.all c.requires.units).1
