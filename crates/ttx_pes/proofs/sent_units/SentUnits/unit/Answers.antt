-- Teletext unit number k of a PES packet is in the data unit at offset number k.
use Rattle.std.proofs.Common.{◌≡◌, take, drop, get_or, rules, sym, ap, ◌∙◌}
use Rattle.ttx_pes.specs.Reading.{unit_of}
use Rattle.ttx_pes.proofs.SentUnitLemmas.{each_unit_has_place, is_unit_at_place, unit_at_place}
use Rattle.ttx_pes.proofs.sent_units.SentUnits.unit.Goals as goal

pub decode_unit-requires-clause-id : goal.decode_unit-requires-clause-id
decode_unit-requires-clause-id c =
    let field = c.self.inside.field.now in
    let places = c.self.inside.places.now in
    let l = each_unit_has_place field places _ c.args.number c.self.view_is c.requires in
    let block : c.split_at-2.result.0.now ≡ take 46 (drop (get_or places c.args.number 0) field) =
    search rules in
    rw block (is_unit_at_place field places c.args.number l c.self.invariant.2).id

pub returns : goal.returns
returns c = λ other.
    let field = c.self.inside.field.now in
    let places = c.self.inside.places.now in
    let l = each_unit_has_place field places _ c.args.number c.self.view_is c.requires in
    let block : c.split_at-2.result.0.now ≡ take 46 (drop (get_or places c.args.number 0) field) =
    search rules in
    rw (← c.self.view_is)
    (c.decode_unit.ensures ∙ ap unit_of block
    ∙ sym (unit_at_place field places c.args.number l other))
