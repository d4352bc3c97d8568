-- Loop invariant of `items_of_text`: parsing the rest of the text, with the items so far, gives the
-- result for the whole text.
use Rattle.std.proofs.Common.{◌≡◌, ◌==◌, false, length, replicate}
use Rattle.std.specs.List.{slice_split}
use Rattle.std.specs.Str.{IsUtf8}
use Rattle.stl_rows.specs.Layout.{default_items}
use Rattle.stl_rows.specs.LayoutText.{item_separator, items_with_all}
use Rattle.stl_rows.proofs.layout_text.items_of_text.Given as goal

abbrev pub invariant-texts : goal.invariant-texts
invariant-texts l = record {
  rest_is_utf8 : IsUtf8 l.rest;
  received : length l.received ≡ 15;
  reported :
      items_with_all l.items l.received (slice_split (λ c. c == item_separator) l.rest)
      ≡ items_with_all default_items (replicate 15 false) (slice_split (λ c. c == item_separator)
      l.text);
}

abbrev pub decreases-texts : goal.decreases-texts
decreases-texts l = length l.rest
