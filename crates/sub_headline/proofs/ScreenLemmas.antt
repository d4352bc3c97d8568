-- The cells of an English page show the characters of its text. If a cell of a receiver has the
-- expected code, or a space because of an error, it shows the expected character, or a space.
use Rattle.std.proofs.lemmas.Bool.Decides.{nat_tests}
use Rattle.std.proofs.Common.{arith}
use Rattle.std.proofs.Common.{◌≡◌, ◌⊎◌, ◌∙◌, ℕ, Bool, List, Some, None, ap, inl, inr}
use Rattle.std.proofs.Common.{refl, true, false, if◌then◌else◌, ◌==◌, subst}
use Rattle.ttx_packet.specs.PageId.{PageIdValue}
use Rattle.ttx_page.specs.Page.{space}
use Rattle.ttx_page.specs.Receiver.{ReceiverClass}
use Rattle.stl_file.specs.Subtitle.{SubtitleValue}
use Rattle.stl_rows.specs.TextCode.{is_common}
use Rattle.sub_rules.specs.Transmission.{Transmission}
use Rattle.sub_headline.specs.BothClasses.{EachReceiverOfClassGets}
use Rattle.sub_headline.specs.EnglishPage.{english_code}
use Rattle.sub_headline.specs.EnglishScreen.{EachDecodedPageReads, LawOfEnglishCharacters}
use Rattle.sub_headline.specs.EnglishScreen.{space_character}
use Rattle.sub_headline.specs.EnglishScreen.{english_character, text_character}

-- A byte that means the same in all national options differs from each code whose character depends
-- on the national option.
common_bytes_differ_from_places : (place byte : ℕ)
    → is_common place ≡ false
    → is_common byte ≡ true
    → (place == byte) ≡ false
common_bytes_differ_from_places place byte is common = grind (arith, nat_tests)

common_bytes_show_equally : (byte : ℕ) → is_common byte ≡ true → english_character byte ≡
    text_character byte
unfolding is_common english_character text_character
common_bytes_show_equally byte is =
    rw (
      common_bytes_differ_from_places 0x23 byte refl is,
      common_bytes_differ_from_places 0x5B byte refl is,
      common_bytes_differ_from_places 0x5C byte refl is,
      common_bytes_differ_from_places 0x5D byte refl is,
      common_bytes_differ_from_places 0x5E byte refl is,
      common_bytes_differ_from_places 0x5F byte refl is,
      common_bytes_differ_from_places 0x60 byte refl is,
      common_bytes_differ_from_places 0x7B byte refl is,
      common_bytes_differ_from_places 0x7C byte refl is,
      common_bytes_differ_from_places 0x7D byte refl is,
      common_bytes_differ_from_places 0x7E byte refl is,
      common_bytes_differ_from_places 0x7F byte refl is,
      common_bytes_differ_from_places 0xA4 byte refl is,
    ) refl

code_23_is_pound : english_character 0x23 ≡ text_character 0xA3
unfolding english_character text_character
code_23_is_pound = refl

code_24_is_dollar : english_character 0x24 ≡ text_character 0x24
unfolding english_character text_character
code_24_is_dollar = refl

code_24_is_currency_sign : english_character 0x24 ≡ text_character 0xA4
unfolding english_character text_character
code_24_is_currency_sign = refl

code_40_is_at_sign : english_character 0x40 ≡ text_character 0x40
unfolding english_character text_character
code_40_is_at_sign = refl

code_5F_is_hash : english_character 0x5F ≡ text_character 0x23
unfolding english_character text_character
code_5F_is_hash = refl

uncommon_bytes_show_equally : (byte code : ℕ)
    → (if 0xA3 == byte then Some 0x23
    else (if 0x24 == byte then Some 0x24
    else (if 0xA4 == byte then Some 0x24
    else (if 0x40 == byte then Some 0x40
    else (if 0x23 == byte then Some 0x5F
    else None))))) ≡ Some code
    → english_character code ≡ text_character byte
uncommon_bytes_show_equally byte code is = grind (
  arith,
  nat_tests,
  code_23_is_pound,
  code_24_is_dollar,
  code_24_is_currency_sign,
  code_40_is_at_sign,
  code_5F_is_hash,
)

bytes_show_equally_by_test : (is_so : Bool) (byte code : ℕ)
    → is_common byte ≡ is_so
    → (if is_so then Some byte
    else (if 0xA3 == byte then Some 0x23
    else (if 0x24 == byte then Some 0x24
    else (if 0xA4 == byte then Some 0x24
    else (if 0x40 == byte then Some 0x40
    else (if 0x23 == byte then Some 0x5F
    else None)))))) ≡ Some code
    → english_character code ≡ text_character byte
bytes_show_equally_by_test true byte code so is =
    let same : byte ≡ code = cc in
    subst (λ (c : ℕ). english_character c ≡ text_character byte) same (common_bytes_show_equally
    byte so)
bytes_show_equally_by_test false byte code so is = uncommon_bytes_show_equally byte code is

pub law_of_english_characters : LawOfEnglishCharacters
unfolding english_code
law_of_english_characters byte code is = bytes_show_equally_by_test (is_common byte) byte code refl
    is

space_code_is_space_character : english_character space ≡ space_character
unfolding english_character
space_code_is_space_character = refl

shows_due_or_excused : (is due : ℕ) (IsExcused : Type 0)
    → (is ≡ due) ⊎ ((is ≡ space) × IsExcused)
    → (english_character is ≡ english_character due)
    ⊎ ((english_character is ≡ space_character) × IsExcused)
shows_due_or_excused is due IsExcused (inl same) = inl (ap english_character same)
shows_due_or_excused is due IsExcused (inr (none, excused)) = inr (
  ap english_character none ∙
      space_code_is_space_character,
  excused,
)

pub decoded_pages_have_expected_characters : (page : PageIdValue) (every : ℕ)
    (subtitles : List SubtitleValue)
    (transmission : Transmission)
    → ((class : ReceiverClass) → EachReceiverOfClassGets class page every subtitles transmission)
    → EachDecodedPageReads page subtitles transmission
decoded_pages_have_expected_characters page every subtitles transmission each =
    λ class g j f arrived got old new is_got hears header row column is_cell.
    shows_due_or_excused _ _ _
    ((each class g j f arrived got old new is_got hears).cells header row column is_cell)
