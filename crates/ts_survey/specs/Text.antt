-- The text of lines that are not written yet.
use Rattle.std.specs.Prelude.{◌≡◌, ℕ, true}
use Rattle.std.specs.Prelude.{false, List, ◌++◌}
use Rattle.hex.specs.Hex.{encode_lower}
use Rattle.ts_survey.specs.declared.text.Text.{Text}

-- The bytes were added to a text, unless the text is lost afterwards: then its bytes may be any. A
-- lost text stays lost.
pub record AddsBytes (old : Text) (bytes : List ℕ) (new : Text) : Type 0 where
  pub added : new.is_lost ≡ false → new.bytes.items ≡ old.bytes.items ++ bytes
  pub stays_lost : old.is_lost ≡ true → new.is_lost ≡ true

-- The bytes in hexadecimal, in lower case.
abbrev pub hex_text : List ℕ → List ℕ
hex_text bytes = encode_lower bytes
