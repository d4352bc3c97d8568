-- `append_unit_places` stops at the first data unit with a fault.
use Rattle.std.proofs.Common.{◌≡◌, ◌-◌, ◌/◌, length, drop, rules, sym, ap, ◌∙◌}
use Rattle.std.proofs.lemmas.List.{length-drop}
use Rattle.std.proofs.lemmas.Result.{err_from_is_err_and}
use Rattle.ttx_pes.specs.SentUnits.{sent_units}
use Rattle.ttx_pes.proofs.SentUnitLemmas.{place_search_unfolds}
use Rattle.ttx_pes.proofs.unit_places.append_unit_places.Goals as goal

pub returns-in_err-last-clause-err : goal.returns-in_err-last-clause-err
returns-in_err-last-clause-err c =
    let p = err_from_is_err_and c.from_residual.result c.from_residual.ensures.1 in
    let field = c.args.field.now in
    let next =
    place_search_unfolds ((length field - 1) / 46) c.loop-k.k (sent_units field c.loop-k.places)
    field
    (search rules) in
    let refused = rw c.in_err-last.ensures.err at next in
    let count : length (drop 1 field) / 46 ≡ (length field - 1) / 46 =
    ap (λ n. n / 46) (length-drop 1 field) in
    rw (p.1, p.2, count) (sym c.loop-k.invariant.same ∙ refused)
