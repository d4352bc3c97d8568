-- A further packet empties, extends or keeps the transmissions of the current text (long span).
use Rattle.std.proofs.Common.{◌≡◌, Bool, true, false, not, ◌&&◌, ◌||◌, cond, List, [], ◌∷◌, ◌++◌}
use Rattle.std.proofs.Common.{refl, sym, ap, ◌∙◌, map, arith, append_assoc}
use Rattle.std.specs.List.{AllByRecursion, list_any}
use Rattle.std.proofs.lemmas.Bool.Decides.{nat_tests}
use Rattle.std.proofs.lemmas.List.Folds.{list_any-append}
use Rattle.ttx_page.proofs.SpanListLemmas.{after-none, list_any-map, map-cond}
use Rattle.ttx_page.proofs.SpanPushLemmas.{list_any-push}
use Rattle.ttx_page.specs.declared.packet_kind.PacketKind.{PacketKind}
use Rattle.ttx_page.specs.PacketKind.{begins_text, is_this_page, ends_page}
use Rattle.ttx_page.specs.Span.{has_page_header, before_page_end, is_open_after, span}
use Rattle.ttx_page.specs.Span.{from_text_beginning, has_text_beginning, has_no_page_end, text_span}
use Rattle.ttx_page.specs.Span.{while_open}

pub text_begins_at_header : (keeps : Bool) (k : PacketKind)
    → begins_text keeps k ≡ true
    → is_this_page k ≡ true
text_begins_at_header keeps k e = grind (arith, nat_tests)

pub header_alone_begins_text : (k : PacketKind) → begins_text false k ≡ is_this_page k
header_alone_begins_text k = grind (arith, nat_tests)

module _ {A : Type 0} (kind_of : A → PacketKind) where
  -- `is_open_from` states whether the page is open after the items, and `is_open` states whether
  -- the page is open before them.
  abbrev is_open_from : Bool → List A → Bool
  is_open_from is_open [] = is_open
  is_open_from is_open (x ∷ xs) =
      is_open_from (is_this_page (kind_of x) || (is_open && not (ends_page (kind_of x)))) xs

  is_open_from-is : (is_open : Bool) (xs : List A)
      → is_open_from is_open xs
      ≡ cond (has_page_header kind_of xs) (has_no_page_end kind_of xs)
      (is_open && not (list_any (λ x. ends_page (kind_of x)) xs))
  is_open_from-is is_open [] = grind (arith, nat_tests)
  is_open_from-is is_open (x ∷ xs) =
      let rest =
      is_open_from-is (is_this_page (kind_of x) || (is_open && not (ends_page (kind_of x)))) xs in
      grind (arith, nat_tests)

  while_open-push : (is_open : Bool) (xs : List A) (x : A)
      → while_open kind_of is_open (xs ++ x ∷ [])
      ≡ cond
      (is_open_from is_open xs && not (is_this_page (kind_of x)) && not (ends_page (kind_of x)))
      (while_open kind_of is_open xs ++ x ∷ []) (while_open kind_of is_open xs)
  while_open-push is_open [] x = grind (arith, nat_tests)
  while_open-push is_open (y ∷ ys) x =
      let headed = while_open-push true ys x in
      let ended = while_open-push false ys x in
      grind (arith, nat_tests)

  module _ (keeps : Bool) where
    pub beginning-push : (xs : List A) (x : A)
        → has_text_beginning keeps kind_of (xs ++ x ∷ [])
        ≡ (begins_text keeps (kind_of x) || has_text_beginning keeps kind_of xs)
    beginning-push xs x = grind (arith, nat_tests, list_any-push)

    pub beginning_is_header : (xs : List A)
        → has_text_beginning keeps kind_of xs ≡ true
        → has_page_header kind_of xs ≡ true
    beginning_is_header [] e = grind arith
    beginning_is_header (x ∷ xs) e =
        let rest = beginning_is_header xs in
        let here = text_begins_at_header keeps (kind_of x) in
        grind (arith, nat_tests)

    from-push : (xs : List A) (x : A)
        → from_text_beginning keeps kind_of (xs ++ x ∷ [])
        ≡ cond (begins_text keeps (kind_of x)) (x ∷ []) (from_text_beginning keeps kind_of xs ++ x ∷
        [])
    from-push [] x = grind (arith, nat_tests)
    from-push (y ∷ ys) x = grind (arith, nat_tests, beginning-push, from-push ys x)

    from-open : (xs : List A)
        → is_open_after kind_of (from_text_beginning keeps kind_of xs) ≡ is_open_after kind_of xs
    from-open [] = refl
    from-open (x ∷ xs) =
        let rest = from-open xs in
        let header = beginning_is_header xs in
        grind (arith, nat_tests)

    from-is_open_from : (xs : List A)
        → is_open_from false (from_text_beginning keeps kind_of xs) ≡ is_open_after kind_of xs
    from-is_open_from xs =
        let is = is_open_from-is false (from_text_beginning keeps kind_of xs) in
        let opened = from-open xs in
        grind (arith, nat_tests)

    -- A header that starts a new text empties the long span. Any other packet, except a header of
    -- the page, is appended if the page is open and the packet does not end it.
    pub text_span-push : (xs : List A) (x : A)
        → text_span keeps kind_of (xs ++ x ∷ [])
        ≡ cond (begins_text keeps (kind_of x)) []
        (cond
        (is_open_after kind_of xs && not (is_this_page (kind_of x)) && not (ends_page (kind_of x)))
        (text_span keeps kind_of xs ++ x ∷ []) (text_span keeps kind_of xs))
    text_span-push xs x =
        let text_span_after_packet = from-push xs x in
        let more = while_open-push false (from_text_beginning keeps kind_of xs) x in
        let one = while_open-push false [] x in
        let opened = from-is_open_from xs in
        let header = text_begins_at_header keeps (kind_of x) in
        grind (arith, nat_tests)

    abbrev pub EachHeaderBegins : List A → Type 0
    EachHeaderBegins xs =
        AllByRecursion
        (λ x. is_this_page (kind_of x) ≡ true → begins_text keeps (kind_of x) ≡ true) xs

    pub beginning-same : (xs : List A)
        → EachHeaderBegins xs
        → has_text_beginning keeps kind_of xs ≡ has_page_header kind_of xs
    beginning-same [] each = refl
    beginning-same (x ∷ xs) each =
        let rest = beginning-same xs each.1 in
        let first = each.0 in
        let header = text_begins_at_header keeps (kind_of x) in
        grind (arith, nat_tests)

    while_open-before : (is_open : Bool) (xs : List A)
        → has_page_header kind_of xs ≡ false
        → while_open kind_of is_open xs ≡ cond is_open (before_page_end kind_of xs) []
    while_open-before is_open [] e = grind (arith, nat_tests)
    while_open-before is_open (x ∷ xs) e =
        let on = while_open-before true xs in
        let off = while_open-before false xs in
        grind (arith, nat_tests)

    pub text_span-same : (xs : List A)
        → EachHeaderBegins xs
        → text_span keeps kind_of xs ≡ span kind_of xs
    text_span-same [] each = refl
    text_span-same (x ∷ xs) each =
        let rest = text_span-same xs each.1 in
        let same = beginning-same xs each.1 in
        let on = while_open-before true xs in
        let off = while_open-before false xs in
        let none = after-none kind_of xs in
        grind (arith, nat_tests)

  each_header_begins_text : (xs : List A) → EachHeaderBegins false xs
  each_header_begins_text [] = tt
  each_header_begins_text (x ∷ xs) =
      (λ this. header_alone_begins_text (kind_of x) ∙ this, each_header_begins_text xs)

  pub text_span-none_keeps : (xs : List A) → text_span false kind_of xs ≡ span kind_of xs
  text_span-none_keeps xs = text_span-same false xs (each_header_begins_text xs)

  pub beginning-none_keeps : (xs : List A)
      → has_text_beginning false kind_of xs ≡ has_page_header kind_of xs
  beginning-none_keeps xs = beginning-same false xs (each_header_begins_text xs)

module _ {A : Type 0} (kind_of : A → PacketKind) where
  while_open-append : (is_open : Bool) (xs ys : List A)
      → while_open kind_of is_open (xs ++ ys)
      ≡ while_open kind_of is_open xs ++ while_open kind_of (is_open_from kind_of is_open xs) ys
  while_open-append is_open [] ys = refl
  while_open-append is_open (x ∷ xs) ys =
      let on = while_open-append true xs ys in
      let off = while_open-append false xs ys in
      grind (arith, nat_tests)

  while_open-more : (is_open : Bool) (xs : List A)
      → (more : List A)
      × (while_open kind_of is_open xs ≡ more ++ while_open kind_of false xs)
  while_open-more false xs = ([], refl)
  while_open-more true [] = ([], refl)
  while_open-more true (x ∷ xs) =
      go (is_this_page (kind_of x)) (ends_page (kind_of x)) (while_open-more true xs)
    where
      go :
          (this ends : Bool)
          → (more : List A)
          × (while_open kind_of true xs ≡ more ++ while_open kind_of false xs)
          → (more : List A)
          × (cond this (while_open kind_of true xs)
          (cond (true && not ends) (x ∷ while_open kind_of true xs) (while_open kind_of false xs))
          ≡ more
          ++ cond this (while_open kind_of true xs)
          (cond (false && not ends) (x ∷ while_open kind_of true xs)
          (while_open kind_of false xs)))
      go true ends rest = ([], refl)
      go false true rest = ([], refl)
      go false false rest = (x ∷ rest.0, ap (λ zs. x ∷ zs) rest.1)

  module _ (keeps : Bool) where
    from-none : (xs : List A)
        → has_text_beginning keeps kind_of xs ≡ false
        → from_text_beginning keeps kind_of xs ≡ xs
    from-none [] e = refl
    from-none (x ∷ xs) e = grind (arith, nat_tests)

    from-append : (xs ys : List A)
        → from_text_beginning keeps kind_of (xs ++ ys)
        ≡ cond (has_text_beginning keeps kind_of ys) (from_text_beginning keeps kind_of ys)
        (from_text_beginning keeps kind_of xs ++ ys)
    from-append [] ys =
        let none = from-none ys in grind (arith, nat_tests)
    from-append (x ∷ xs) ys =
        let rest = from-append xs ys in
        let both = list_any-append (λ y. begins_text keeps (kind_of y)) xs ys in
        grind (arith, nat_tests)

    -- Packets put before a list can only add packets to the front of its current text (long span).
    pub text_span-later : (xs ys : List A)
        → (more : List A)
        × (text_span keeps kind_of (xs ++ ys) ≡ more ++ text_span keeps kind_of ys)
    text_span-later xs ys =
        go (has_text_beginning keeps kind_of ys) refl
      where
        first : List A
        first = from_text_beginning keeps kind_of xs

        go :
            (b : Bool)
            → has_text_beginning keeps kind_of ys ≡ b
            → (more : List A)
            × (text_span keeps kind_of (xs ++ ys) ≡ more ++ text_span keeps kind_of ys)
        go true e =
            ([], ap (while_open kind_of false) (from-append xs ys ∙ rw e refl))
        go false e =
            let rest = while_open-more (is_open_from kind_of false first) ys in
            let none = from-none ys e in (
              while_open kind_of false first ++ rest.0,
              ap (while_open kind_of false) (from-append xs ys ∙ rw e refl)
                  ∙ while_open-append false first ys
                  ∙ ap (λ zs. while_open kind_of false first ++ zs) rest.1
                  ∙ sym (append_assoc (while_open kind_of false first) rest.0
                  (while_open kind_of false ys))
                  ∙ ap (λ zs. (while_open kind_of false first ++ rest.0)
                  ++ while_open kind_of false zs) (sym none),
            )

module _ {A B : Type 0} (kind_of : B → PacketKind) (f : A → B) where
  while_open-map : (is_open : Bool) (xs : List A)
      → while_open kind_of is_open (map f xs)
      ≡ map f (while_open (λ x. kind_of (f x)) is_open xs)
  while_open-map is_open [] = refl
  while_open-map is_open (x ∷ xs) =
      let on = while_open-map true xs in
      let off = while_open-map false xs in
      grind (arith, nat_tests, map-cond)

  from_text_beginning-map : (keeps : Bool) (xs : List A)
      → from_text_beginning keeps kind_of (map f xs)
      ≡ map f (from_text_beginning keeps (λ x. kind_of (f x)) xs)
  from_text_beginning-map keeps [] = refl
  from_text_beginning-map keeps (x ∷ xs) =
      let rest = from_text_beginning-map keeps xs in grind (
        arith,
        nat_tests,
        list_any-map,
        map-cond,
      )

  pub text_span-map : (keeps : Bool) (xs : List A)
      → text_span keeps kind_of (map f xs) ≡ map f (text_span keeps (λ x. kind_of (f x)) xs)
  text_span-map keeps xs = grind (arith, nat_tests, while_open-map, from_text_beginning-map)
