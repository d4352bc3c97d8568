-- After a fault was reported, a transmission can be checked only if at least one subtitle is kept
-- and the kept subtitles do not overlap.
use Rattle.std.proofs.Common.{ap, arith, refl, sym, ◌∙◌, ◌≡◌, ◌<◌, length, false}
use Rattle.std.proofs.lemmas.Bool.Decides.{nat_tests}
use Rattle.stl_rows.specs.Keeping.{are_all_kept}
use Rattle.stl_rows.proofs.KeepingLemmas.{enough-some}
use Rattle.stl_rows.proofs.keeping.KeptSubtitles.is_checkable.Goals as goal

pub returns : goal.returns
returns g c =
    let part : are_all_kept c.args.self.now ≡ false = sym c.are_all_kept.ensures ∙
    c.if-are_all_kept.false in
    let records : c.self.inside.subtitles ≡ c.args.self.now.records =
    ap (λ k. k.records) c.self.view_is in
    let some : 0 < length c.args.self.now.records = grind (arith, nat_tests) in
    c.are_in_order.ensures
    ∙ rw (records, enough-some c.args.self.now part some) refl
