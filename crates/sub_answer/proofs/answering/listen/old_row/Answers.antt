use Rattle.std.proofs.Common.{refl, replicate, ◌==◌}
use Rattle.std.proofs.lemmas.Bool.{eqb-true}
use Rattle.std.proofs.lemmas.List.Sums.{AllPass-from_list_all}
use Rattle.ttx_page.proofs.PageLemmas.{code_test_is_correct}
use Rattle.sub_answer.proofs.answering.listen.old_row.Goals as goal

pub returns-clause-codes : goal.returns-clause-codes
returns-clause-codes c = code_test_is_correct (replicate 40 0x3F) refl

pub returns-clause-value : goal.returns-clause-value
returns-clause-value c = λ column within.
    eqb-true _ 0x3F
    (AllPass-from_list_all (λ x. x == 0x3F) (replicate 40 0x3F) refl column 0 within)
