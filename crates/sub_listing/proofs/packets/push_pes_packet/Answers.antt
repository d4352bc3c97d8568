use Rattle.std.proofs.Common.{◌≡◌, ◌+◌, ◌<◌, ◌∷◌, ◌++◌, ℕ, List, drop, length, rules, arith, sym}
use Rattle.std.proofs.Common.{ap, ◌∙◌, append_assoc}
use Rattle.std.proofs.lemmas.List.{drop_more}
use Rattle.ttx_pes.specs.DataUnit.{UnitValue}
use Rattle.sub_listing.specs.Lines.{unit_line}
use Rattle.sub_listing.specs.PacketsListing.{unit_lines}
use Rattle.sub_listing.proofs.packets.push_pes_packet.Goals as goal

pub loop-number-preserved : goal.loop-number-preserved
loop-number-preserved c =
    let units = c.units-units.result in
    let k : ℕ = c.loop-number.number in
    let l : k < length units = search rules in
    let next : drop k units ≡ c.unit.result ∷ drop (k + 1) units =
    drop_more units k c.unit.result l
    ∙ ap (λ (u : UnitValue). u ∷ drop (k + 1) units) (sym (c.unit.ensures c.unit.result)) in
    let left = unit_lines (k + 1) (drop (k + 1) units) in
    record {
      room = omega (arith, c.push_unit.ensures.len, c.loop-number.invariant.room);
      few = c.loop-number.invariant.few;
      lines =
          ap (λ (lines : List ℕ). lines ++ left) c.push_unit.ensures.items
          ∙ append_assoc c.loop-number.text.items (unit_line k c.unit.result) left
          ∙ (rw next at c.loop-number.invariant.lines);
    }
