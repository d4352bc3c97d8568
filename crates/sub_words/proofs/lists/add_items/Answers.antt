-- `add_items` appends the item of each text, until a text is no item or repeats an earlier item.
use Rattle.std.proofs.Common.{◌≡◌, ◌∙◌, ◌+◌, ◌<◌, ◌≤◌, ℕ, Bool, true, false, List, ◌∷◌, Option}
use Rattle.std.proofs.Common.{Some, None, drop, get_or, length, map, subst, sym}
use Rattle.std.proofs.lemmas.List.{at_drop_all, at_drop_more}
use Rattle.std.specs.Borrow.{Bor}
use Rattle.std.specs.Prelude.{if◌then◌else◌}
use Rattle.sub_words.specs.Texts.{list_after_texts}
use Rattle.sub_words.proofs.lists.add_items.Goals as goal

next_item_is_added : {A : Type 0} (parsed : List ℕ → Option A) (same : A → A → Bool)
    (texts : List (Bor (List ℕ))) (i : ℕ) (d : Bor (List ℕ)) (items new : List A)
    (whole : Option (List A)) (added b : Bool)
    → i < length texts
    → list_after_texts parsed same items (map (λ x. x.now) (drop i texts)) ≡ whole
    → ((more : List (List ℕ))
    → list_after_texts parsed same items ((get_or texts i d).now ∷ more)
    ≡ (if added then list_after_texts parsed same new more else None))
    → added ≡ b
    → (if b then list_after_texts parsed same new (map (λ x. x.now) (drop (i + 1) texts)) else None)
    ≡ whole
next_item_is_added parsed same texts i d items new whole added b within so_far adds is =
    let left : List (List ℕ) = map (λ x. x.now) (drop (i + 1) texts) in
    subst (λ (o : Bool). (if o then list_after_texts parsed same new left else None) ≡ whole) is
    (sym (adds left)
    ∙ sym (at_drop_more (λ (rest : List (Bor (List ℕ))). list_after_texts parsed same items
    (map (λ x. x.now) rest)) texts i d within) ∙ so_far)

all_items_are_added : {A : Type 0} (parsed : List ℕ → Option A) (same : A → A → Bool)
    (texts : List (Bor (List ℕ))) (i : ℕ) (items : List A) (whole : Option (List A))
    → length texts ≤ i
    → list_after_texts parsed same items (map (λ x. x.now) (drop i texts)) ≡ whole
    → whole ≡ Some items
all_items_are_added parsed same texts i items whole over so_far =
    sym so_far
    ∙ at_drop_all (λ (rest : List (Bor (List ℕ))). list_after_texts parsed same items
    (map (λ x. x.now) rest)) texts i over

pub loop-text-preserved : goal.loop-text-preserved
loop-text-preserved g c =
    next_item_is_added g.T.Item.parsed g.T.Item.same c.args.texts.now c.loop-text.text-index _
    c.loop-text.list.items c.add_item.new.list.items _ c.in_ok-add_item.field-0 true
    c.loop-text-test.true c.loop-text.invariant c.in_ok-add_item.ensures c.if-not-branch.false

pub returns-then-not-branch : goal.returns-then-not-branch
returns-then-not-branch g c =
    sym (next_item_is_added g.T.Item.parsed g.T.Item.same c.args.texts.now c.loop-text.text-index _
    c.loop-text.list.items c.add_item.new.list.items _ c.in_ok-add_item.field-0 false
    c.loop-text-test.true c.loop-text.invariant c.in_ok-add_item.ensures c.if-not-branch.true)

pub returns : goal.returns
returns g c =
    all_items_are_added g.T.Item.parsed g.T.Item.same c.args.texts.now c.loop-text.text-index
    c.loop-text.list.items _ c.loop-text-test.false c.loop-text.invariant
