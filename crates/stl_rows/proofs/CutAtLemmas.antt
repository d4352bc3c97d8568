-- If a text has a character, the first occurrence of the character splits the text into the part
-- before it and a shorter rest. Otherwise the whole text is the only part.
use Rattle.std.proofs.Common.{◌≡◌, ℕ, ◌<◌, ◌≤◌, List, [], ◌∷◌, length, refl, ◌==◌, arith}
use Rattle.std.proofs.Common.{Bool, Option, Some, None, option_map, nat_lt, subst, sym}
use Rattle.std.proofs.lemmas.Bool.{ltb-false, ltb-true}
use Rattle.std.proofs.lemmas.Bool.Decides.{nat_tests}
use Rattle.std.proofs.lemmas.List.{length-drop}
use Rattle.std.proofs.lemmas.List.Splits.{slice_split_first}
use Rattle.std.specs.Borrow.{Bor}
use Rattle.std.specs.List.{position_or_len, slice_split}
use Rattle.std.specs.Option.{option_map_or}
use Rattle.std.specs.Prelude.{IfSome}
use Rattle.stl_rows.specs.LayoutText.{split_at_mark}

split_at_mark-none : (mark : ℕ) (text : List ℕ)
    → length text ≤ position_or_len (λ c. c == mark) text
    → slice_split (λ c. c == mark) text ≡ text ∷ []
split_at_mark-none mark [] none = refl
split_at_mark-none mark (c ∷ text) none = grind (arith, nat_tests, split_at_mark-none mark text)

abbrev AreFirstAndRest : ℕ → List ℕ → List ℕ × Option (List ℕ) → Type 0
AreFirstAndRest mark text parts =
    (slice_split (λ c. c == mark) text
    ≡ parts.0 ∷ option_map_or (λ more. slice_split (λ c. c == mark) more) parts.1 [])
    × (IfSome parts.1 (λ more. length more < length text))

are_first-by : (mark : ℕ) (text : List ℕ) (found : Bool)
    → nat_lt (position_or_len (λ c. c == mark) text) (length text) ≡ found
    → AreFirstAndRest mark text (split_at_mark mark text)
unfolding split_at_mark
are_first-by mark text found is =
    grind (
      arith,
      nat_tests,
      ltb-true,
      slice_split_first,
      length-drop,
      split_at_mark-none,
      ltb-false,
    )

pub split_at_mark-first : (mark : ℕ) (text prefix : List ℕ) (following : Option (Bor (List ℕ)))
    → (prefix, option_map (λ x. x.now) following) ≡ split_at_mark mark text
    → (slice_split (λ c. c == mark) text
    ≡ prefix ∷ option_map_or (λ more. slice_split (λ c. c == mark) more.now) following [])
    × (IfSome following (λ more. length more.now < length text))
split_at_mark-first mark text prefix None e =
    subst (AreFirstAndRest mark text) (sym e) (are_first-by mark text _ refl)
split_at_mark-first mark text prefix (Some more) e =
    subst (AreFirstAndRest mark text) (sym e) (are_first-by mark text _ refl)
