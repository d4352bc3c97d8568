-- The first page header of a joined list is that of the first part that has one. A property of all
-- packets of two lists holds for the joined list.
use Rattle.std.proofs.lemmas.Bool.Decides.{nat_tests}
use Rattle.std.proofs.Common.{◌≡◌, ℕ, Bool, true, false, ◌||◌, List, [], ◌∷◌, ◌++◌, refl, ap}
use Rattle.std.proofs.Common.{◌∙◌, ◌+◌, arith, cond, find, nat_lt, Some, None, Option}
use Rattle.std.specs.List.{AllByRecursion, list_any}
use Rattle.std.proofs.lemmas.Bool.{or_parts, eq-eqb, both_ways}
use Rattle.std.proofs.lemmas.List.{length-append}
use Rattle.std.proofs.lemmas.List.Elements.{filter-append}
use Rattle.ttx_packet.specs.PageId.{PageIdValue}
use Rattle.ttx_page.specs.Span.{has_page_header}
use Rattle.sub_rules.specs.PacketRules.{header_count, first_header}
use Rattle.ttx_page.specs.declared.packet_kind.PacketKind.{PacketKind}
use Rattle.ttx_page.specs.declared.packet_kind.PacketKind.TheVariants.{Row}
use Rattle.ttx_page.specs.PacketKind.{is_row, is_this_page, kind}
use Rattle.std.specs.Option.{option_or}
use Rattle.ttx_packet.specs.PageHeader.{header}

module _ {X : Type 0} where
  pub Each-push : (P : X → Type 0) (xs : List X) (x : X) → AllByRecursion P xs → P x
      → AllByRecursion P (xs ++ x ∷ [])
  Each-push P [] x h p = (p, tt)
  Each-push P (y ∷ ys) x h p = (h.0, Each-push P ys x h.1 p)

  pub Each-append : (P : X → Type 0) (xs ys : List X) → AllByRecursion P xs → AllByRecursion P ys
      → AllByRecursion P (xs ++ ys)
  Each-append P [] ys h k = k
  Each-append P (x ∷ xs) ys h k = (h.0, Each-append P xs ys h.1 k)

  pub Each-map : (P Q : X → Type 0) → ((x : X) → P x → Q x) → (xs : List X) → AllByRecursion P xs
      → AllByRecursion Q xs
  Each-map P Q f [] h = tt
  Each-map P Q f (y ∷ ys) h = (f y h.0, Each-map P Q f ys h.1)

  pub Each-join : (P Q S : X → Type 0) → ((x : X) → P x → Q x → S x) → (xs : List X)
      → AllByRecursion P xs → AllByRecursion Q xs → AllByRecursion S xs
  Each-join P Q S f [] h k = tt
  Each-join P Q S f (y ∷ ys) h k = (f y h.0 k.0, Each-join P Q S f ys h.1 k.1)

  pub Each-none : (f : X → Bool) (xs : List X) → list_any f xs ≡ false
      → AllByRecursion (λ x. f x ≡ false) xs
  Each-none f [] e = tt
  Each-none f (y ∷ ys) e = let p = or_parts (f y) (list_any f ys) e in (p.0, Each-none f ys p.1)

  pub Each-find : (f : X → Bool) (P : X → Type 0) (xs : List X) → list_any f xs ≡ true
      → AllByRecursion P xs → (x : X) × (find f xs ≡ Some x) × (f x ≡ true) × P x
  Each-find f P [] e h = cc
  Each-find f P (y ∷ ys) e h = go (f y) refl e (λ d. Each-find f P ys d h.1)
    where
      go : (b : Bool) → f y ≡ b → (b || list_any f ys) ≡ true
          → (list_any f ys ≡ true → (x : X) × (find f ys ≡ Some x) × (f x ≡ true) × P x)
          → (x : X) × (cond b (Some y) (find f ys) ≡ Some x) × (f x ≡ true) × P x
      go b p d ih = grind arith

pub failed_row_test_excludes_row : (row : ℕ) (k : PacketKind) → is_row row k ≡ false → k ≡ Row row →
    ⊥
failed_row_test_excludes_row row k e s = both_ways (is_row row k) e (ap (is_row row) s ∙ eq-eqb row
    row refl)

pub header_count-append :
    (page : PageIdValue) (ps qs : List (List ℕ))
    → header_count page (ps ++ qs) ≡ header_count page ps + header_count page qs
header_count-append page ps qs = grind (arith, nat_tests, filter-append, length-append)

pub header_count-push :
    (page : PageIdValue) (ps : List (List ℕ)) (p : List ℕ)
    → header_count page (ps ++ p ∷ []) ≡ header_count page ps + cond (is_this_page (kind page p)) 1
    0
header_count-push page ps p =
    grind (arith, header_count-append)

pub holds-count :
    (page : PageIdValue) (ps : List (List ℕ))
    → has_page_header (kind page) ps ≡ nat_lt 0 (header_count page ps)
holds-count page [] = refl
holds-count page (q ∷ qs) = let ih = holds-count page qs in grind (arith, nat_tests)

pub or_assoc : {A : Type 0} (a b c : Option A)
    → option_or a (option_or b c) ≡ option_or (option_or a b) c
or_assoc a b c = grind arith

pub or-none : {A : Type 0} (a : Option A) → option_or a None ≡ a
or-none a = grind arith

pub first_header-append :
    (xs ys : List (List ℕ))
    → first_header (xs ++ ys) ≡ option_or (first_header xs) (first_header ys)
first_header-append [] ys = refl
first_header-append (x ∷ xs) ys = grind (arith, nat_tests, or_assoc, first_header-append xs ys)

pub first_header-push : (xs : List (List ℕ)) (x : List ℕ)
    → first_header (xs ++ x ∷ []) ≡ option_or (first_header xs) (header x)
first_header-push xs x = grind (arith, nat_tests, first_header-append, or-none)
