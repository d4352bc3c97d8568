-- If the PID that `add_carrier` follows is requested, no unrequested PID is added to the followed
-- PIDs. If memory does not run out, the line of the PID is added to the text.
use Rattle.std.proofs.Common.{refl, rules}
use Rattle.ts_survey.proofs.RequestedLemmas.{one-more-requested}
use Rattle.ts_survey.proofs.TextLemmas.{adds-last, adds-word}
use Rattle.ts_survey.proofs.multiplex.Multiplex.add_carrier.Goals as goal

pub returns-clause-requested : goal.returns-clause-requested
returns-clause-requested c = λ known.
    let old = c.args.self.now in
    let others =
    one-more-requested old.requested c.args.pid old.carriers.items c.push.new.self.items
    c.in_ok-carrier.carrier known (search rules) (search rules) in
    (refl, refl, others)

pub returns-clause-reported : goal.returns-clause-reported
returns-clause-reported c =
    adds-word c.put.ensures
    (adds-word c.number.ensures
    (adds-last c.put-2.ensures))
