-- Each iteration of `fill_until_end` stores the bytes of one pull after those of the earlier pulls.
use Rattle.std.proofs.Common.{rules}
use Rattle.sub_io.proofs.DeviceLemmas.{Consumes-more}
use Rattle.sub_io.proofs.CallLemmas.{fills-more}
use Rattle.sub_io.proofs.source.fill_until_end.Goals as goal

pub loop-at-preserved : goal.loop-at-preserved
loop-at-preserved g c = record {
  bound = search rules;
  bytes = Consumes-more _ _ _ _ _ _ _ _ (search rules) (search rules)
      c.loop-at.invariant.bytes c.in_ok-n.ensures.bytes.0;
  calls = λ ok end rest.
      c.loop-at.invariant.calls ok end
      (fills-more _ _ _ _ _ _ _ _ ok c.in_ok-n.ensures.call
      (search rules) (search rules) (search rules) rest);
  count = search rules;
}
