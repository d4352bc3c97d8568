use Rattle.std.proofs.Common.{◌∙◌, sym, refl}
use Rattle.std.proofs.lemmas.Bool.{true≢false}
use Rattle.sub_io.proofs.ReportingLemmas.{Reports-one}
use Rattle.sub_checker.proofs.fused_taker.FusedAudienceTaker.report.Goals as goal

pub returns-then-self : goal.returns-then-self
returns-then-self g c = Reports-one _ _ _ (record {
  same = refl;
  stays = λ e. (refl, e);
  goes = λ e. absurd (true≢false (sym c.if-self.true ∙ e));
})

pub returns : goal.returns
returns g c = Reports-one _ _ _ (record {
  same = refl;
  stays = λ e. absurd (true≢false (sym e ∙ c.if-self.false));
  goes = λ e. c.report.ensures.reported;
})
