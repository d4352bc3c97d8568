-- Loop invariant of `add_items`: the items so far, followed by the items of the remaining texts,
-- are the items of all texts.
use Rattle.std.proofs.Common.{◌≡◌, drop, map}
use Rattle.sub_words.specs.Texts.{list_after_texts}
use Rattle.sub_words.proofs.lists.add_items.Given as goal

abbrev pub invariant-loop-text : goal.invariant-loop-text
invariant-loop-text g l =
    let rest = list_after_texts g.T.Item.parsed g.T.Item.same in
    rest l.list.items (map (λ x. x.now) (drop l.text-index l.texts))
    ≡ rest l.fn.list.items (map (λ x. x.now) l.texts)
