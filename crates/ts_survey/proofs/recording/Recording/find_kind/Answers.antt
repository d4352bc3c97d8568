-- When `find_kind` calls `inspect`, the line `head` is printed in this call, or was printed before.
use Rattle.std.proofs.Common.{◌≡◌, ◌∙◌, ap, false, rules, subst}
use Rattle.ts_survey.specs.FirstLines.{kind_texts}
use Rattle.ts_survey.specs.Lines.{AddsTexts}
use Rattle.ts_survey.specs.Stream.{is_unknown}
use Rattle.ts_survey.proofs.FirstLinesLemmas.{found-following-head, found-with-head}
use Rattle.ts_survey.proofs.recording.Recording.find_kind.Goals as goal
use Rattle.ts_survey.proofs.recording.Recording.find_kind.Goals.{else-not-self}
use Rattle.ts_survey.proofs.recording.Recording.find_kind.Goals.{then-not-self+else-bytes-lt-HEAD}

pub returns-in-Unknown-clause-kind_is_found : goal.returns-in-Unknown-clause-kind_is_found
returns-in-Unknown-clause-kind_is_found c = λ unknown.
    let old = c.args.self.now in
    let inspected_bytes = c.inspect.ensures.reported (ap is_unknown c.in-Unknown.is) in
    let not = c.inspect.ensures.kind_is_not_pes (ap is_unknown c.in-Unknown.is) in
    elim c.if-not-self.branch [
      | then-not-self+else-bytes-lt-HEAD w ↦
          found-following-head old c.if-not-self.self c.inspect.new.self _ _ c.if-not-self.first _
          w.if-not-self.true (search rules) c.inspect.ensures.has_head c.in-Unknown.is
          (search rules) (search rules) c.inspect.ensures.memory_state inspected_bytes not
      | else-not-self w ↦
          found-with-head old c.inspect.new.self _ _ _ w.if-not-self.false
          (c.inspect.ensures.has_head ∙ ap (λ r. r.has_head) w.self-is)
          (subst (λ text. c.inspect.new.self.out_of_memory ≡ false
          → AddsTexts text (kind_texts c.inspect.new.self.kind) c.inspect.new.first)
          w.first-is inspected_bytes)
          not
    ]
