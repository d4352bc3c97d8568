-- The standard library parses up to 10 decimal or 8 hexadecimal digits as their value, which is
-- less than 10^10 or 16^8.
use Rattle.std.proofs.Common.{◌≡◌, ℕ, ◌^◌, ◌<◌, ◌≤◌, ◌∙◌, sym, ap, refl, List, [], ◌∷◌, ◌&&◌}
use Rattle.std.proofs.Common.{length, Ok, true, false, arith, ◌==◌, lit<, subst}
use Rattle.std.specs.Prelude.{Result}
use Rattle.std.specs.Char.{digit_value, is_ascii_digit, is_ascii_hexdigit}
use Rattle.std.specs.List.{list_all}
use Rattle.std.specs.Str.{all_ascii_digits}
use Rattle.std.specs.Result.{OkIff}
use Rattle.std.specs.Str.Parse.{AllDigits, IsNumeral, ParsesUnsigned, digits_value}
use Rattle.std.specs.Str.Parse.{without_leading_plus}
use Rattle.std.proofs.Math.Nat.{pow-le-pow_right}
use Rattle.std.proofs.lemmas.Bool.{and_parts}
use Rattle.std.proofs.lemmas.Bool.Decides.{nat_tests}
use Rattle.std.proofs.lemmas.Int.Digits.{digits_value-lt}
use Rattle.std.proofs.lemmas.Result.{Ok-from_Ok_iff}
use Rattle.std.proofs.lemmas.Str.Parse.{digits_value_short, numerals_by_value, parse_gives}
use Rattle.std.proofs.lemmas.Str.Parse.{tells_all_ascii_digits}

digit_tests_agree : (text : List ℕ) → list_all is_ascii_digit text ≡ all_ascii_digits text
digit_tests_agree [] = refl
digit_tests_agree (c ∷ cs) = ap (λ others. is_ascii_digit c && others) (digit_tests_agree cs)

pub parse-digits : {E : Type 0} (text : List ℕ) (result : Result ℕ E)
    → 1 ≤ length text
    → length text ≤ 10
    → list_all is_ascii_digit text ≡ true
    → ParsesUnsigned 64 10 text result
    → (result ≡ Ok (digits_value 10 text)) × (digits_value 10 text < 10 ^ 10)
parse-digits text result some few digits parses =
    let own = numerals_by_value (λ ds. all_ascii_digits ds ≡ true) tells_all_ascii_digits in
    let reported = sym (digit_tests_agree text) ∙ digits in
    let small = digits_value_short own text 10 reported few in
    (parse_gives own 64 text result parses reported some (omega arith), small)

hex_digit_is_below_16 : (c : ℕ)
    → is_ascii_hexdigit c ≡ true
    → (digit_value c < 16) × ((c == 43) ≡ false)
hex_digit_is_below_16 c is = grind (arith, nat_tests)

AllDigits-hex : (text : List ℕ) → list_all is_ascii_hexdigit text ≡ true → AllDigits 16 text
AllDigits-hex [] are = tt
AllDigits-hex (c ∷ cs) are =
    let parts = and_parts (is_ascii_hexdigit c) (list_all is_ascii_hexdigit cs) are in
    ((hex_digit_is_below_16 c parts.0).0, AllDigits-hex cs parts.1)

without_leading_plus-hex : (text : List ℕ)
    → list_all is_ascii_hexdigit text ≡ true
    → without_leading_plus text ≡ text
without_leading_plus-hex [] are = refl
without_leading_plus-hex (c ∷ cs) are =
    let parts = and_parts (is_ascii_hexdigit c) (list_all is_ascii_hexdigit cs) are in
    rw ((hex_digit_is_below_16 c parts.0).1) refl

pub read-hex_digits : {E : Type 0} (text : List ℕ) (result : Result ℕ E)
    → 1 ≤ length text
    → length text ≤ 8
    → list_all is_ascii_hexdigit text ≡ true
    → ParsesUnsigned 64 16 text result
    → (result ≡ Ok (digits_value 16 text)) × (digits_value 16 text < 2 ^ 32)
read-hex_digits text result some few digits parses =
    let plain = without_leading_plus-hex text digits in
    let all = AllDigits-hex text digits in
    let below = digits_value-lt 16 text all in
    let most : 16 ^ length text ≤ 16 ^ 8 = pow-le-pow_right (lit< tt) few in
    let bound : digits_value 16 text < 16 ^ 8 = omega arith in (
      Ok-from_Ok_iff result _ _ (subst (λ ds. OkIff result
          (IsNumeral 16 ds × (digits_value 16 ds < 2 ^ 64)) (digits_value 16 ds)) plain parses)
          ((omega arith, all), omega arith),
      bound,
    )
