-- Mapping a list maps its last page transmission (span). Packets before the last header of the page
-- do not change the last page transmission.
use Rattle.std.proofs.Common.{◌≡◌, zero, suc, inl, inr, Bool, true, false, ◌||◌, cond, List, []}
use Rattle.std.proofs.Common.{◌∷◌, ◌++◌, Some, None, map, zip, find, Any, Contains, refl, ap, ◌∙◌}
use Rattle.std.proofs.Common.{arith}
use Rattle.std.specs.List.{list_any}
use Rattle.std.proofs.lemmas.List.{length-map, get_or-map}
use Rattle.std.proofs.lemmas.List.Folds.{list_any-append}
use Rattle.std.proofs.lemmas.Bool.{cases_Bool, or_right}
use Rattle.std.proofs.lemmas.Bool.Decides.{nat_tests}
use Rattle.ttx_page.specs.declared.packet_kind.PacketKind.{PacketKind}
use Rattle.ttx_page.specs.PacketKind.{is_this_page}
use Rattle.ttx_page.specs.Span.{has_page_header, after_last_header, before_page_end, span}

pub Any-map : {A B : Type 0} (P : B → Type 0) (f : A → B) (xs : List A)
    → Any P (map f xs)
    → Any (λ x. P (f x)) xs
Any-map P f [] h = grind arith
Any-map P f (x ∷ xs) (zero, y, l, e, p) = (0, x, omega arith, refl, rw e p)
Any-map P f (x ∷ xs) (suc k, y, l, e, p) =
    let r = Any-map P f xs (k, y, omega arith, e, p) in (suc r.0, r.1, omega (arith, r.2), r.3, r.4)

pub map-Any : {A B : Type 0} (P : B → Type 0) (f : A → B) (xs : List A)
    → Any (λ x. P (f x)) xs
    → Any P (map f xs)
map-Any P f xs (k, x, l, e, p) =
    (k, f x, simp length-map l, get_or-map f xs k x (f x) l ∙ ap f e, p)

pub zip-map : {A B C : Type 0} (f : B → C) (xs : List A) (ys : List B)
    → zip xs (map f ys) ≡ map (λ (pair : A × B). (pair.0, f pair.1)) (zip xs ys)
zip-map f [] ys = refl
zip-map f (x ∷ xs) ys = grind (arith, nat_tests, zip-map f xs)

pub found_item_passes_test : {X : Type 0} (test : X → Bool) (xs : List X) (z : X)
    → find test xs ≡ Some z
    → (test z ≡ true) × Contains xs z
found_item_passes_test test [] z e = grind arith
found_item_passes_test test (x ∷ xs) z e = elim (cases_Bool (test x)) [
  | inl passes ↦ grind (arith, nat_tests)
  | inr fails ↦
      let rest = found_item_passes_test test xs z (grind (arith, nat_tests)) in
      (rest.0, (suc rest.1.0, omega (arith, rest.1.1), rest.1.2))
]

pub find_none :
    {X : Type 0} (test : X → Bool) (xs : List X) → list_any test xs ≡ false → find test xs ≡ None
find_none test [] e = refl
find_none test (x ∷ xs) e = let rest = find_none test xs in grind (arith, nat_tests)

pub find_none_fails :
    {X : Type 0} (test : X → Bool) (xs : List X) → find test xs ≡ None → list_any test xs ≡ false
find_none_fails test [] e = refl
find_none_fails test (x ∷ xs) e = let rest = find_none_fails test xs in grind (arith, nat_tests)

pub list_any-map : {A B : Type 0} (f : A → B) (test : B → Bool) (xs : List A)
    → list_any test (map f xs) ≡ list_any (λ x. test (f x)) xs
list_any-map f test [] = refl
list_any-map f test (x ∷ xs) = ap (λ b. test (f x) || b) (list_any-map f test xs)

pub map-cond : {A B : Type 0} (f : A → B) (b : Bool) (xs ys : List A)
    → map f (cond b xs ys) ≡ cond b (map f xs) (map f ys)
map-cond f b xs ys = grind (arith, nat_tests)

module _ {A B : Type 0} (kind_of : B → PacketKind) (f : A → B) where
  pub after-map : (xs : List A)
      → after_last_header kind_of (map f xs) ≡ map f (after_last_header (λ x. kind_of (f x)) xs)
  after-map [] = refl
  after-map (x ∷ xs) = grind (arith, nat_tests, list_any-map, map-cond, after-map xs)

  before-map :
      (xs : List A) → before_page_end kind_of (map f xs) ≡ map f
      (before_page_end (λ x. kind_of (f x)) xs)
  before-map [] = refl
  before-map (x ∷ xs) = rw (before-map xs) (simp map-cond)

  -- Mapping a list maps its last page transmission (span), so one definition applies to packets and
  -- to pairs of packets.
  pub span-map : (xs : List A) → span kind_of (map f xs) ≡ map f (span (λ x. kind_of (f x)) xs)
  span-map xs = grind (arith, nat_tests, after-map, before-map)

pub after-here : {A : Type 0} (kind_of : A → PacketKind) (x : A) (xs : List A)
    → has_page_header kind_of xs ≡ false
    → is_this_page (kind_of x) ≡ true
    → after_last_header kind_of (x ∷ xs) ≡ xs
after-here kind_of x xs e h = rw (e, h)

pub after-none : {A : Type 0} (kind_of : A → PacketKind) (xs : List A)
    → has_page_header kind_of xs ≡ false
    → after_last_header kind_of xs ≡ []
after-none kind_of [] e = refl
after-none kind_of (x ∷ xs) e = grind (arith, nat_tests)

pub holds-append_right : {A : Type 0} (kind_of : A → PacketKind) (xs ys : List A)
    → has_page_header kind_of ys ≡ true
    → has_page_header kind_of (xs ++ ys) ≡ true
holds-append_right kind_of xs ys e = rw (list_any-append, e) (or_right _ _ refl)

pub holds-append_left : {A : Type 0} (kind_of : A → PacketKind) (xs ys : List A)
    → has_page_header kind_of xs ≡ true
    → has_page_header kind_of (xs ++ ys) ≡ true
holds-append_left kind_of xs ys e = rw (list_any-append, e)

-- If a list contains a header of the page, items before the list do not change the items after its
-- last header.
pub after-append : {A : Type 0} (kind_of : A → PacketKind) (xs ys : List A)
    → has_page_header kind_of ys ≡ true
    → after_last_header kind_of (xs ++ ys) ≡ after_last_header kind_of ys
after-append kind_of [] ys e = refl
after-append kind_of (x ∷ xs) ys e =
    rw (holds-append_right kind_of xs ys e) (after-append kind_of xs ys e)
