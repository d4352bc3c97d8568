-- A further packet empties the last page transmission (span), extends it, or leaves it the same.
use Rattle.std.proofs.Common.{◌≡◌, Bool, true, false, not, ◌&&◌, ◌||◌, cond, List, [], ◌∷◌, ◌++◌}
use Rattle.std.proofs.Common.{refl, arith}
use Rattle.std.specs.List.{list_any}
use Rattle.std.proofs.lemmas.Bool.Decides.{nat_tests}
use Rattle.std.proofs.lemmas.List.Folds.{list_any-append}
use Rattle.ttx_page.proofs.SpanListLemmas.{after-none}
use Rattle.ttx_page.specs.declared.packet_kind.PacketKind.{PacketKind}
use Rattle.ttx_page.specs.PacketKind.{is_this_page, ends_page}
use Rattle.ttx_page.specs.Span.{has_page_header, after_last_header, before_page_end, is_open_after}
use Rattle.ttx_page.specs.Span.{span}

module _ {A : Type 0} (kind_of : A → PacketKind) where
  pub list_any-push : (test : A → Bool) (xs : List A) (x : A)
      → list_any test (xs ++ x ∷ []) ≡ (list_any test xs || test x)
  list_any-push test xs x = grind (arith, nat_tests, list_any-append)

  pub holds-push : (xs : List A) (x : A)
      → has_page_header kind_of (xs ++ x ∷ []) ≡ (is_this_page (kind_of x) || has_page_header
      kind_of xs)
  holds-push xs x = grind (arith, nat_tests, list_any-push)

  after-push : (xs : List A) (x : A)
      → after_last_header kind_of (xs ++ x ∷ [])
      ≡ cond (is_this_page (kind_of x)) []
      (cond (has_page_header kind_of xs) (after_last_header kind_of xs ++ x ∷ []) [])
  after-push [] x = refl
  after-push (y ∷ ys) x = grind (arith, nat_tests, holds-push, after-push ys x)

  before-push : (xs : List A) (x : A)
      → before_page_end kind_of (xs ++ x ∷ [])
      ≡ cond (list_any (λ y. ends_page (kind_of y)) xs || ends_page (kind_of x))
      (before_page_end kind_of xs) (before_page_end kind_of xs ++ x ∷ [])
  before-push [] x = refl
  before-push (y ∷ ys) x = let rest = before-push ys x in grind (arith, nat_tests)

  -- A header of the page empties the last page transmission (span). Any other packet is appended to
  -- it if the page is open and the packet does not end it.
  pub span-push : (xs : List A) (x : A)
      → span kind_of (xs ++ x ∷ [])
      ≡ cond (is_this_page (kind_of x)) []
      (cond (is_open_after kind_of xs && not (ends_page (kind_of x)))
      (span kind_of xs ++ x ∷ []) (span kind_of xs))
  span-push xs x = grind (arith, nat_tests, after-push, before-push, after-none)

  pub open-this : (xs : List A) (x : A)
      → is_this_page (kind_of x) ≡ true
      → is_open_after kind_of (xs ++ x ∷ []) ≡ true
  open-this xs x e = grind (arith, nat_tests, holds-push, after-push)

  pub open-other : (xs : List A) (x : A)
      → is_this_page (kind_of x) ≡ false
      → is_open_after kind_of (xs ++ x ∷ [])
      ≡ (is_open_after kind_of xs && not (ends_page (kind_of x)))
  open-other xs x e = grind (arith, nat_tests, holds-push, after-push, list_any-push)
