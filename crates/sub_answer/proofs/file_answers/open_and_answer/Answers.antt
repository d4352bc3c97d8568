use Rattle.sub_request.specs.Files.{files_of_request}
use Rattle.sub_answer.specs.Ending.{release}
use Rattle.sub_answer.proofs.EndingLemmas.{call_sequences_join}
use Rattle.sub_answer.proofs.OpenedKindLemmas.{fits}
use Rattle.sub_answer.proofs.file_answers.open_and_answer.Goals as goal

pub answer_opened-requires-clause-fits : goal.answer_opened-requires-clause-fits
answer_opened-requires-clause-fits g c =
    let opened = rw (c.in-Some-open.is, c.files-names.ensures) at c.open.ensures.calls in
    fits (files_of_request c.args.request.now) opened.calls c.in-Some-open.opened opened.opens

pub returns-in-Some-open-clause-ends : goal.returns-in-Some-open-clause-ends
returns-in-Some-open-clause-ends g c =
    let opened = rw (c.in-Some-open.is, c.files-names.ensures) at c.open.ensures.calls in
    let answered = c.answer_opened.ensures in
    record {
      files = c.in-Some-open.opened;
      left = answered.left;
      opened = record {
        calls = opened.calls;
        calls_were_made =
            call_sequences_join g.D.FileSystem.is_call c.args.files.now c.open.new.files
            c.answer_opened.new.files opened.calls (release answered.left) opened.calls_were_made
            answered.are_released;
        opens = opened.opens;
      };
      ends = answered.ends;
    }
