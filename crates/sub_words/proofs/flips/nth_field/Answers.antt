-- `nth_field` splits the text at its colons and returns the field with the given index, if there is
-- one.
use Rattle.std.proofs.Common.{lit<}
use Rattle.std.proofs.lemmas.Iterator.Consumers.{nth_from_yields_List}
use Rattle.std.proofs.lemmas.Iterator.Splits.{YieldsList-from_str_split}
use Rattle.sub_words.proofs.flips.nth_field.Goals as goal

pub returns : goal.returns
returns c =
    nth_from_yields_List _ _ c.args.number c.nth.ensures.ran
    (YieldsList-from_str_split 58 c.args.text.now (lit< tt) c.split.ensures.text
    c.split.ensures.has_more c.split.ensures.pattern)
