use Rattle.std.proofs.Common.{◌≡◌, ap, inl, inr}
use Rattle.sub_listen.specs.Reception.{code_left_by_receiver}
use Rattle.sub_request.specs.declared.listening.ReceiverKind.TheVariants.{Blank, Keep}
use Rattle.sub_answer.proofs.ListenListingLemmas.{equal_fill_codes_give_equal_answers}
use Rattle.sub_answer.proofs.answering.listen.print_listening.Goals as goal

pub returns-in-Keep-clause-exact : goal.returns-in-Keep-clause-exact
returns-in-Keep-clause-exact g c =
    let l = c.args.listening.now in
    let same : code_left_by_receiver l.receiver ≡ code_left_by_receiver Keep =
    elim c.in-Keep.is [ inl e ↦ ap code_left_by_receiver e | inr e ↦ ap code_left_by_receiver e ] in
    equal_fill_codes_give_equal_answers _ _ l _ _ _ _ same c.print_state_of.ensures.exact

pub returns-in-Blank-clause-exact : goal.returns-in-Blank-clause-exact
returns-in-Blank-clause-exact g c =
    let l = c.args.listening.now in
    let same : code_left_by_receiver l.receiver ≡ code_left_by_receiver Blank =
    elim c.in-Blank.is [ inl e ↦ ap code_left_by_receiver e | inr e ↦ ap code_left_by_receiver e ]
    in
    equal_fill_codes_give_equal_answers _ _ l _ _ _ _ same c.print_state_of-in-Blank.ensures.exact
