-- The span of a list of packets: the packets of the last transmission of the page. They follow the
-- last header of the page, up to a header that ends the page (EN 300 706).
--
-- The items of a list are packets, or packets with additional data; `kind_of` returns the kind of
-- an item's packet. So one definition applies to sent packets, received packets, and pairs of both.
use Rattle.std.specs.Prelude.{◌≡◌, ℕ, ◌-◌, ◌<◌, ◌≤◌, ◌⊎◌, Bool, ◌&&◌, not, List, [], ◌∷◌, length}
use Rattle.std.specs.Prelude.{true, false, if◌then◌else◌, slice_range, All, HoldsAt, IsTrue}
use Rattle.std.specs.Prelude.{IsFalse}
use Rattle.std.specs.List.{list_any, AllWithin}
use Rattle.ttx_page.specs.declared.packet_kind.PacketKind.{PacketKind}
use Rattle.ttx_page.specs.PacketKind.{begins_text, is_this_page, ends_page}

-- The list contains a header of the page.
abbrev pub has_page_header : {A : Type 0} → (A → PacketKind) → List A → Bool
has_page_header kind_of items = list_any (λ x. is_this_page (kind_of x)) items

-- The items after the last header of the page, or none if the list has no header of the page.
abbrev pub after_last_header : {A : Type 0} → (A → PacketKind) → List A → List A
after_last_header kind_of [] = []
after_last_header kind_of (x ∷ xs) =
    if has_page_header kind_of xs
    then after_last_header kind_of xs
    else (if is_this_page (kind_of x) then xs else [])

-- The items before the first header that ends the page, or all items if no header ends the page.
abbrev pub before_page_end : {A : Type 0} → (A → PacketKind) → List A → List A
before_page_end kind_of [] = []
before_page_end kind_of (x ∷ xs) = if ends_page (kind_of x) then [] else x ∷ before_page_end kind_of
    xs

-- The span, the last transmission of the page: the items after the last header of the page, up to
-- the first later header that ends the page.
abbrev pub span : {A : Type 0} → (A → PacketKind) → List A → List A
span kind_of items = before_page_end kind_of (after_last_header kind_of items)

-- No header after the last header of the page ends the page. True if the list has no header of the
-- page.
abbrev pub has_no_page_end : {A : Type 0} → (A → PacketKind) → List A → Bool
has_no_page_end kind_of items =
    not (list_any (λ x. ends_page (kind_of x)) (after_last_header kind_of items))

-- The items contain a header of the page, and no header after the last one ends the page. So the
-- page is open after them, whatever was before.
abbrev pub is_open_after : {A : Type 0} → (A → PacketKind) → List A → Bool
is_open_after kind_of items = has_page_header kind_of items && has_no_page_end kind_of items

-- ---- the transmissions of the current text (long span)

-- The list contains a header that starts a new text.
abbrev pub has_text_beginning : {A : Type 0} → Bool → (A → PacketKind) → List A → Bool
has_text_beginning keeps kind_of items = list_any (λ x. begins_text keeps (kind_of x)) items

-- The items from the last header that starts a new text on, or all items if no header starts one.
abbrev pub from_text_beginning : {A : Type 0} → Bool → (A → PacketKind) → List A → List A
from_text_beginning keeps kind_of [] = []
from_text_beginning keeps kind_of (x ∷ xs) =
    if has_text_beginning keeps kind_of xs then from_text_beginning keeps kind_of xs else x ∷ xs

-- The items received while the page is open, without headers of the page: the spans of all headers
-- of the page. `is_open` is true if the page is open before the list; then the items before the
-- first header that begins or ends the page are included too.
abbrev pub while_open : {A : Type 0} → (A → PacketKind) → Bool → List A → List A
while_open kind_of is_open [] = []
while_open kind_of is_open (x ∷ xs) =
    if is_this_page (kind_of x)
    then while_open kind_of true xs
    else (if is_open && not (ends_page (kind_of x))
    then x ∷ while_open kind_of true xs
    else while_open kind_of false xs)

-- The long span, all transmissions of the current text: the spans of all headers of the page, from
-- the last header that starts a new text on, or of the whole list if no header starts one. If
-- repeats must not keep earlier text (`keeps` is false), it equals the span.
abbrev pub text_span : {A : Type 0} → Bool → (A → PacketKind) → List A → List A
text_span keeps kind_of items = while_open kind_of false (from_text_beginning keeps kind_of items)

-- ---- the bounds of the last page transmission (span)

-- The bounds of the span, the last transmission of the page: from the item after the last header of
-- the page to the first later header that ends the page, or to the end of the list.
pub record IsSpan {A : Type 0} (kind_of : A → PacketKind) (items : List A) (from to : ℕ)
    : Type 0 where
  pub order : (0 < from) × (from ≤ to) × (to ≤ length items)
  -- The item before the last page transmission (span) is a header of the page, and no later item is
  -- one.
  pub header : HoldsAt (λ x. IsTrue (is_this_page (kind_of x))) items (from - 1)
  pub no_later_header :
      AllWithin (λ x. IsFalse (is_this_page (kind_of x))) items from (length items)
  -- No item of the last page transmission (span) is a header that ends the page. The item after it,
  -- if there is one, is such a header.
  pub no_earlier_end : AllWithin (λ x. IsFalse (ends_page (kind_of x))) items from to
  pub end : (to ≡ length items) ⊎ HoldsAt (λ x. IsTrue (ends_page (kind_of x))) items to

-- The last transmission of the page (span) has exactly the items between the bounds of `IsSpan`, in
-- order, and is empty if the list has no header of the page. So the bounds may be read as its
-- definition.
abbrev pub LawOfSpan : Type 0 → Type 0
LawOfSpan A =
    (kind_of : A → PacketKind) (items : List A)
    → (All (λ x. IsFalse (is_this_page (kind_of x))) items × (span kind_of items ≡ []))
    ⊎ ((from to : ℕ)
    × IsSpan kind_of items from to
    × (span kind_of items ≡ slice_range items from to))
