use Rattle.sub_answer.proofs.answering.answer_from_inputs.Goals as goal

pub returns-in-Packets-clause-answers : goal.returns-in-Packets-clause-answers
returns-in-Packets-clause-answers g c =
    rw c.in-Packets.is (record {
      answers = c.list_packets.ensures.listing;
      written = tt;
      followed = λ fails none. c.list_packets.ensures.followed none fails;
    })

pub returns-in-Show-clause-answers : goal.returns-in-Show-clause-answers
returns-in-Show-clause-answers g c =
    rw c.in-Show.is
    (record { answers = c.list_subtitles.ensures.listing; written = tt; followed = tt })

pub returns-in-Normal-clause-answers : goal.returns-in-Normal-clause-answers
returns-in-Normal-clause-answers g c =
    rw c.in-Normal.is
    (record { answers = c.write_normal.ensures.work; written = tt; followed = tt })

pub returns-in-Schedule-clause-answers : goal.returns-in-Schedule-clause-answers
returns-in-Schedule-clause-answers g c =
    rw c.in-Schedule.is (record {
      answers =
          rw (c.drawing_of-drawing.ensures, c.in-Schedule.is) at c.write_schedule.ensures.work;
      written = tt;
      followed = tt;
    })

pub returns-in-Listen-clause-answers : goal.returns-in-Listen-clause-answers
returns-in-Listen-clause-answers g c =
    rw c.in-Listen.is
    (record { answers = c.print_listening.ensures.exact; written = tt; followed = tt })

pub returns-in-Extract-clause-answers : goal.returns-in-Extract-clause-answers
returns-in-Extract-clause-answers g c =
    rw c.in-Extract.is (record {
      answers = c.extract_packets.ensures.extract;
      written = λ fails none. c.extract_packets.ensures.followed none fails;
      followed = tt;
    })

pub returns-in-Survey-clause-answers : goal.returns-in-Survey-clause-answers
returns-in-Survey-clause-answers g c =
    rw c.in-Survey.is (record {
      answers = record {
        printed = c.print_survey.ensures.printed;
        ended = c.print_survey.ensures.ended;
      };
      written = tt;
      followed = λ fails none. c.print_survey.ensures.followed none fails;
    })

pub returns-in-Check-clause-answers : goal.returns-in-Check-clause-answers
returns-in-Check-clause-answers g c =
    rw (c.in-Check.is, c.if-all.true) (record {
      answers =
          rw (c.drawing_of-drawing.ensures, c.in-Check.is) at c.print_every_fault.ensures.all;
      written = tt;
      followed = λ fails none. c.print_every_fault.ensures.followed none fails;
    })
