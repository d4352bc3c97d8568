-- Teletext packet number k of a PES packet is in the data unit at offset number k.
use Rattle.std.proofs.Common.{◌≡◌, take, drop, get_or, rules, ◌∙◌}
use Rattle.ttx_pes.proofs.SentUnitLemmas.{each_unit_has_place, packet_at_place}
use Rattle.ttx_pes.proofs.sent_units.SentUnits.packet.Goals as goal

pub returns : goal.returns
returns c =
    let field = c.self.inside.field.now in
    let places = c.self.inside.places.now in
    let l = each_unit_has_place field places _ c.args.number c.self.view_is c.requires in
    let block
    : c.unwrap.result.now ≡ drop 4 (take 46 (drop (get_or places c.args.number 0) field)) =
    search rules in
    rw (← c.self.view_is)
    (c.new.ensures ∙ packet_at_place field places c.args.number l c.unwrap.result.now block)
