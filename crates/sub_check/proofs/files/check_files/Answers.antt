-- If the bytes of both files are known, `check_files` accepts the files exactly if the subtitle
-- file gives a programme and the PES file has a good transmission of that programme, unless a
-- source fails or memory cannot be allocated.
use Rattle.std.proofs.lemmas.Bool.Decides.{nat_tests}
use Rattle.std.proofs.Common.{arith}
use Rattle.stl_rows.specs.Layout.{drawing_within}
use Rattle.sub_check.proofs.FilesLemmas.{checked_files_are_accepted, checked_files_accepted_within}
use Rattle.sub_check.proofs.FilesLemmas.{faulty_subtitles_are_refused}
use Rattle.sub_check.proofs.FilesLemmas.{faulty_subtitles_refused_within}
use Rattle.sub_check.proofs.files.check_files.Goals as goal

pub returns-in-Err-clause-accepted : goal.returns-in-Err-clause-accepted
returns-in-Err-clause-accepted g c = grind (arith, nat_tests, faulty_subtitles_are_refused)

pub returns-in-Err-clause-is_accepted_within : goal.returns-in-Err-clause-is_accepted_within
returns-in-Err-clause-is_accepted_within g c = grind
    (arith, nat_tests, faulty_subtitles_refused_within)

pub returns-in-Ok-clause-accepted : goal.returns-in-Ok-clause-accepted
returns-in-Ok-clause-accepted g c = λ none at_once file reported bytes heard.
    checked_files_are_accepted (drawing_within c.args.national c.args.layout c.args.scope)
    c.args.options.now file bytes
    c.law_of_loading.ensures c.in-Ok.programme (c.in-Ok.ensures.exact file reported)
    c.check.result c.check.ensures.own (c.check.ensures.checked none at_once bytes heard)

pub returns-in-Ok-clause-is_accepted_within : goal.returns-in-Ok-clause-is_accepted_within
returns-in-Ok-clause-is_accepted_within g c = λ file reported bytes heard.
    checked_files_accepted_within (drawing_within c.args.national c.args.layout c.args.scope)
    c.args.options.now file bytes
    c.law_of_loading.ensures c.in-Ok.programme (c.in-Ok.ensures.exact file reported)
    c.check.result c.check.ensures.own (c.check.ensures.answer_is_checked_within bytes heard)
