-- Each iteration of `push_all` appends the bytes of one push to those of the earlier pushes.
use Rattle.std.proofs.Common.{refl, rules}
use Rattle.sub_io.proofs.DeviceLemmas.{Appends-more}
use Rattle.std.proofs.lemmas.List.{take_rest}
use Rattle.sub_io.proofs.CallLemmas.{puts-more}
use Rattle.sub_io.proofs.sink.push_all.Goals as goal

pub loop-at-preserved : goal.loop-at-preserved
loop-at-preserved g c = record {
  bound = search rules;
  bytes = Appends-more _ _ _ _ _ _ _ refl c.loop-at.invariant.bytes c.in-Ok.ensures.bytes;
  calls = λ ok end rest.
      c.loop-at.invariant.calls ok end
      (puts-more _ _ _ _ _ _ _ _ ok c.in-Ok.ensures.call (take_rest c.args.from.now c.loop-at.at)
      (search rules) rest);
  count = search rules;
}
