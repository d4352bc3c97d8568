use Rattle.std.proofs.lemmas.Bool.Decides.{nat_tests}
use Rattle.std.proofs.Common.{arith, ◌≡◌, ◌∙◌, MatchOption, subst}
use Rattle.ttx_page.specs.Page.{DiffersFirst, Rows}
use Rattle.sub_packets.proofs.WrongCellLemmas.{wrong_eq, first_wrong_cell_of_kept_page}
use Rattle.sub_packets.proofs.listener.Listener.first_wrong.Goals as goal

pub returns-then-not-self : goal.returns-then-not-self
returns-then-not-self c =
    wrong_eq c.args.self.now _ c.if-not-self.true c.first_wrong-differing.ensures

pub returns : goal.returns
returns c =
    let keeps = c.if-not-self.false in
    c.earlier.ensures
    ∙ first_wrong_cell_of_kept_page c.args.self.now c.missing-missing.result
    c.first_wrong-differing.result
    c.first_difference.result (grind (arith, nat_tests)) c.missing-missing.ensures
    c.first_wrong-differing.ensures
    (subst (λ (page : Rows). MatchOption c.first_difference.result (c.missing-missing.result ≡ page)
    (λ place. DiffersFirst c.missing-missing.result page place.0 place.1)) c.blank.ensures
    c.first_difference.ensures)
