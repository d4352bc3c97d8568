-- The text of a layout is parsed item by item, and the codes in an item are parsed as pairs of
-- digits.
use Rattle.std.proofs.Common.{◌≡◌, ℕ, zero, suc, ◌+◌, ◌<◌, ◌≤◌, Bool, true, false, List, [], ◌∷◌}
use Rattle.std.proofs.Common.{length, get_or}
use Rattle.std.proofs.Common.{drop, refl, ap, ◌∙◌, arith, nat_lt, add-one, drop-cons}
use Rattle.std.proofs.Common.{Option, Some, None, ◌⊎◌, inr}
use Rattle.std.proofs.lemmas.Bool.Decides.{nat_tests}
use Rattle.std.proofs.lemmas.List.{drop_all}
use Rattle.std.specs.Prelude.{if◌then◌else◌, slice_index_or, slice_set}
use Rattle.ttx_packet.specs.PacketAddress.{◌>>=◌}
use Rattle.stl_rows.specs.declared.layout.Attribute.{Attribute}
use Rattle.stl_rows.specs.declared.layout.LayoutItems.{LayoutItems}
use Rattle.stl_rows.specs.Layout.{attribute_of}
use Rattle.stl_rows.specs.LayoutText.{byte_of_digits, places_with_codes, items_with_item}
use Rattle.stl_rows.specs.LayoutText.{items_with_all}
use Rattle.stl_rows.specs.LayoutText.{strip_with_bytes}

received_bit_ignores_default : (received : List Bool) (k : ℕ) → k < length received → get_or
    received k true ≡ get_or
    received k false
received_bit_ignores_default [] k low = absurd (omega (arith, low))
received_bit_ignores_default (c ∷ received) zero low = refl
received_bit_ignores_default (c ∷ received) (suc k) low = received_bit_ignores_default received k
    (omega (arith, low))

received_or_absent_is_true : (received : List Bool) (k : ℕ)
    → (length received ≤ k) ⊎ (get_or received k false ≡ true)
    → get_or received k true ≡ true
received_or_absent_is_true [] k h = refl
received_or_absent_is_true (c ∷ received) zero h = grind (arith, nat_tests)
received_or_absent_is_true (c ∷ received) (suc k) h = grind
    (arith, nat_tests, received_or_absent_is_true received k)

drop_splits_at_element : (text : List ℕ) (at : ℕ) → at < length text
    → drop at text ≡ get_or text at 0 ∷ drop (at + 1) text
drop_splits_at_element text at low = rw (add-one, drop-cons text at 0) refl

drop_splits_at_pair : (text : List ℕ) (at : ℕ) → at + 1 < length text
    → drop at text ≡ get_or text at 0 ∷ get_or text (at + 1) 0 ∷ drop (at + 2) text
drop_splits_at_pair text at low = grind (arith, nat_tests, drop_splits_at_element)

drop_leaves_last_element : (text : List ℕ) (at : ℕ) → at + 1 ≡ length text → drop at text ≡ get_or
    text at 0 ∷ []
drop_leaves_last_element text at is =
    drop_splits_at_element text at (omega (arith, is))
    ∙ ap (λ rest. get_or text at 0 ∷ rest) (drop_all (at + 1) text (omega (arith, is)))

module _ (text : List ℕ) (at : ℕ) where
  pub places_with_codes-step : (places : List (Option Attribute)) (filled : ℕ)
      → at + 1 < length text
      → places_with_codes places filled (drop at text)
      ≡ (byte_of_digits (get_or text at 0) (get_or text (at + 1) 0) >>= (λ code.
      attribute_of code >>= (λ attribute.
      if nat_lt filled (length places)
      then places_with_codes (slice_set places filled (Some attribute)) (filled + 1)
      (drop (at + 2) text)
      else None)))
  unfolding places_with_codes
  places_with_codes-step places filled low = rw (drop_splits_at_pair text at low) refl

  pub places_with_codes-odd : (places : List (Option Attribute)) (filled : ℕ)
      → at + 1 ≡ length text
      → places_with_codes places filled (drop at text) ≡ None
  unfolding places_with_codes
  places_with_codes-odd places filled is = rw (drop_leaves_last_element text at is) refl

  pub places_with_codes-end : (places : List (Option Attribute)) (filled : ℕ)
      → length text ≤ at
      → places_with_codes places filled (drop at text) ≡ Some places
  unfolding places_with_codes
  places_with_codes-end places filled past = rw (drop_all at text past) refl

  strip_with_bytes-step : (strip : List Bool) (code : ℕ)
      → at + 1 < length text
      → byte_of_digits (get_or text at 0) (get_or text (at + 1) 0) ≡ Some code
      → strip_with_bytes strip (drop at text)
      ≡ (if slice_index_or strip code true then None
      else strip_with_bytes (slice_set strip code true) (drop (at + 2) text))
  unfolding strip_with_bytes
  strip_with_bytes-step strip code low is = rw (drop_splits_at_pair text at low, is) refl

  pub strip_with_bytes-more : (strip : List Bool) (code : ℕ)
      → at + 1 < length text
      → byte_of_digits (get_or text at 0) (get_or text (at + 1) 0) ≡ Some code
      → code < length strip
      → get_or strip code false ≡ false
      → strip_with_bytes strip (drop at text)
      ≡ strip_with_bytes (slice_set strip code true) (drop (at + 2) text)
  strip_with_bytes-more strip code low is within new =
      strip_with_bytes-step strip code low is ∙ rw (
        received_bit_ignores_default strip code within,
        new,
      ) refl

  pub strip_with_bytes-again : (strip : List Bool) (code : ℕ)
      → at + 1 < length text
      → byte_of_digits (get_or text at 0) (get_or text (at + 1) 0) ≡ Some code
      → (length strip ≤ code) ⊎ (get_or strip code false ≡ true)
      → strip_with_bytes strip (drop at text) ≡ None
  strip_with_bytes-again strip code low is received =
      strip_with_bytes-step strip code low is ∙ rw (received_or_absent_is_true strip code received)
      refl

  pub strip_with_bytes-bad : (strip : List Bool)
      → at + 1 < length text
      → byte_of_digits (get_or text at 0) (get_or text (at + 1) 0) ≡ None
      → strip_with_bytes strip (drop at text) ≡ None
  unfolding strip_with_bytes
  strip_with_bytes-bad strip low is = rw (drop_splits_at_pair text at low, is) refl

  pub strip_with_bytes-odd : (strip : List Bool)
      → at + 1 ≡ length text
      → strip_with_bytes strip (drop at text) ≡ None
  unfolding strip_with_bytes
  strip_with_bytes-odd strip is = rw (drop_leaves_last_element text at is) refl

  pub strip_with_bytes-end : (strip : List Bool)
      → length text ≤ at
      → strip_with_bytes strip (drop at text) ≡ Some strip
  unfolding strip_with_bytes
  strip_with_bytes-end strip past = rw (drop_all at text past) refl

pub items_with_all-more : (items next : LayoutItems) (received : List Bool) (number : ℕ)
    (text : List ℕ)
    (texts : List (List ℕ))
    → Some (number, next) ≡ items_with_item items text
    → number < length received
    → get_or received number false ≡ false
    → items_with_all items received (text ∷ texts)
    ≡ items_with_all next (slice_set received number true) texts
unfolding items_with_all
items_with_all-more items next received number text texts is within new =
    rw (← is, received_bit_ignores_default received number within, new) refl

pub items_with_all-again : (items next : LayoutItems) (received : List Bool) (number : ℕ)
    (text : List ℕ)
    (texts : List (List ℕ))
    → Some (number, next) ≡ items_with_item items text
    → get_or received number false ≡ true
    → items_with_all items received (text ∷ texts) ≡ None
unfolding items_with_all
items_with_all-again items next received number text texts is again =
    rw (← is, received_or_absent_is_true received number (inr again)) refl

pub items_with_all-bad : (items : LayoutItems) (received : List Bool) (text : List ℕ)
    (texts : List (List ℕ))
    → None ≡ items_with_item items text
    → items_with_all items received (text ∷ texts) ≡ None
unfolding items_with_all
items_with_all-bad items received text texts is = rw (← is) refl

pub items_with_all-end : (items : LayoutItems) (received : List Bool) → items_with_all items
    received [] ≡
    Some items
unfolding items_with_all
items_with_all-end items received = refl
