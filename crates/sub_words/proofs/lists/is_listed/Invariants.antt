-- Loop invariant of `is_listed`: no item so far is the same by `is_same`, so the result depends
-- only on the other items.
use Rattle.std.proofs.Common.{◌≡◌, drop}
use Rattle.std.specs.List.{list_any}
use Rattle.sub_words.proofs.lists.is_listed.Given as goal

abbrev pub invariant-loop-other : goal.invariant-loop-other
invariant-loop-other g l =
    list_any (g.T.Item.same l.item) l.list
    ≡ list_any (g.T.Item.same l.item) (drop l.other-index l.list)
