-- The national option character sub-sets (EN 300 706), one row each: the option's name, its three
-- bits, and its characters with their bytes in a subtitle's text (EBU Tech 3264, code table 00,
-- which is Latin and has the bytes of ISO 6937).
--
-- The code table of level 1 has 13 places for a sub-set. These are the sub-sets of the default
-- region, 0000, with one for each value of C12 to C14 but 1 1 1, which is reserved there, and the
-- other Latin sub-sets: Polish of region 0001, Turkish of 0010, Croatian and Romanian of 0011,
-- Estonian and Lithuanian of 0100. A header names no region: C12 to C14 choose a sub-set within the
-- region to which a receiver is set.
use Rattle.std.specs.Prelude.{ℕ, Bool, ◌&&◌, ◌==◌, nat_eq, List, [], ◌∷◌, Option, Some, None}
use Rattle.std.specs.Prelude.{codes, if◌then◌else◌}
use Rattle.std.specs.List.{find}
use Rattle.std.specs.Option.{option_eq}
use Rattle.std.specs.Str.{bytes_eq}
use Rattle.stl_rows.specs.declared.national.National.{National}
use Rattle.stl_rows.specs.declared.national.National.TheVariants.{English, German, Swedish, Italian}
use Rattle.stl_rows.specs.declared.national.National.TheVariants.{French, Spanish, Czech, Polish}
use Rattle.stl_rows.specs.declared.national.National.TheVariants.{Turkish, Croatian, Romanian}
use Rattle.stl_rows.specs.declared.national.National.TheVariants.{Estonian, Lithuanian}
use Rattle.stl_rows.specs.declared.national.NationalBits.{NationalBits}
use Rattle.stl_rows.specs.declared.sub_sets.NationalCharacter.{NationalCharacter}

-- A row of the table of national options.
pub record SubSetValue : Type 0 where
  -- The name of the national option.
  pub word : List ℕ
  -- The control bits C12, C13 and C14 of the option's page headers.
  pub bits : NationalBits
  -- The characters of the option, by their places in the code table. A place that is missing cannot
  -- be reached by any text.
  pub characters : List NationalCharacter

-- The control bits C12, C13 and C14 from three numbers, 0 or 1.
abbrev pub three_bits : ℕ → ℕ → ℕ → NationalBits
three_bits c12 c13 c14 = record { c12 = c12 == 1; c13 = c13 == 1; c14 = c14 == 1 }

-- The character at the place `cell` that is encoded as a single byte.
abbrev pub plain : ℕ → ℕ → NationalCharacter
plain cell byte = record { cell = cell; mark = None; byte = byte }

-- The character at the place `cell` that is encoded as a diacritical mark and a letter.
abbrev pub marked_character : ℕ → ℕ → ℕ → NationalCharacter
marked_character cell mark letter = record { cell = cell; mark = Some mark; byte = letter }

-- The table of national options.
--
-- Both 24 and A4 are read as the dollar sign, since editions of the code table differ and files in
-- use have both. In a sub-set without a dollar sign, neither byte is accepted.
unfoldable pub sub_set : National → SubSetValue
sub_set English = record {
  word = codes "english";
  bits = three_bits 0 0 0;
  characters =
      plain 0x23 0xA3  -- £
      ∷ plain 0x24 0x24  -- $
      ∷ plain 0x24 0xA4  -- $
      ∷ plain 0x40 0x40  -- @
      ∷ plain 0x5F 0x23  -- #
      ∷ [];
}
sub_set German = record {
  word = codes "german";
  bits = three_bits 0 0 1;
  characters =
      plain 0x23 0x23  -- #
      ∷ plain 0x24 0x24  -- $
      ∷ plain 0x24 0xA4  -- $
      ∷ plain 0x40 0xA7  -- §
      ∷ marked_character 0x5B 0xC8 0x41  -- Ä
      ∷ marked_character 0x5C 0xC8 0x4F  -- Ö
      ∷ marked_character 0x5D 0xC8 0x55  -- Ü
      ∷ plain 0x60 0xB0  -- °
      ∷ marked_character 0x7B 0xC8 0x61  -- ä
      ∷ marked_character 0x7C 0xC8 0x6F  -- ö
      ∷ marked_character 0x7D 0xC8 0x75  -- ü
      ∷ plain 0x7E 0xFB  -- ß
      ∷ [];
}
sub_set Swedish = record {
  word = codes "swedish";
  bits = three_bits 0 1 0;
  characters =
      plain 0x23 0x23  -- #
      ∷ plain 0x24 0xA8  -- ¤
      ∷ marked_character 0x40 0xC2 0x45  -- É
      ∷ marked_character 0x5B 0xC8 0x41  -- Ä
      ∷ marked_character 0x5C 0xC8 0x4F  -- Ö
      ∷ marked_character 0x5D 0xCA 0x41  -- Å
      ∷ marked_character 0x5E 0xC8 0x55  -- Ü
      ∷ plain 0x5F 0x5F  -- _
      ∷ marked_character 0x60 0xC2 0x65  -- é
      ∷ marked_character 0x7B 0xC8 0x61  -- ä
      ∷ marked_character 0x7C 0xC8 0x6F  -- ö
      ∷ marked_character 0x7D 0xCA 0x61  -- å
      ∷ marked_character 0x7E 0xC8 0x75  -- ü
      ∷ [];
}
sub_set Italian = record {
  word = codes "italian";
  bits = three_bits 0 1 1;
  characters =
      plain 0x23 0xA3  -- £
      ∷ plain 0x24 0x24  -- $
      ∷ plain 0x24 0xA4  -- $
      ∷ marked_character 0x40 0xC2 0x65  -- é
      ∷ plain 0x5B 0xB0  -- °
      ∷ marked_character 0x5C 0xCB 0x63  -- ç
      ∷ plain 0x5D 0xAE  -- →
      ∷ plain 0x5E 0xAD  -- ↑
      ∷ plain 0x5F 0x23  -- #
      ∷ marked_character 0x60 0xC1 0x75  -- ù
      ∷ marked_character 0x7B 0xC1 0x61  -- à
      ∷ marked_character 0x7C 0xC1 0x6F  -- ò
      ∷ marked_character 0x7D 0xC1 0x65  -- è
      ∷ marked_character 0x7E 0xC1 0x69  -- ì
      ∷ [];
}
sub_set French = record {
  word = codes "french";
  bits = three_bits 1 0 0;
  characters =
      marked_character 0x23 0xC2 0x65  -- é
      ∷ marked_character 0x24 0xC8 0x69  -- ï
      ∷ marked_character 0x40 0xC1 0x61  -- à
      ∷ marked_character 0x5B 0xC8 0x65  -- ë
      ∷ marked_character 0x5C 0xC3 0x65  -- ê
      ∷ marked_character 0x5D 0xC1 0x75  -- ù
      ∷ marked_character 0x5E 0xC3 0x69  -- î
      ∷ plain 0x5F 0x23  -- #
      ∷ marked_character 0x60 0xC1 0x65  -- è
      ∷ marked_character 0x7B 0xC3 0x61  -- â
      ∷ marked_character 0x7C 0xC3 0x6F  -- ô
      ∷ marked_character 0x7D 0xC3 0x75  -- û
      ∷ marked_character 0x7E 0xCB 0x63  -- ç
      ∷ [];
}
sub_set Spanish = record {
  word = codes "spanish";
  bits = three_bits 1 0 1;
  characters =
      marked_character 0x23 0xCB 0x63  -- ç
      ∷ plain 0x24 0x24  -- $
      ∷ plain 0x24 0xA4  -- $
      ∷ plain 0x40 0xA1  -- ¡
      ∷ marked_character 0x5B 0xC2 0x61  -- á
      ∷ marked_character 0x5C 0xC2 0x65  -- é
      ∷ marked_character 0x5D 0xC2 0x69  -- í
      ∷ marked_character 0x5E 0xC2 0x6F  -- ó
      ∷ marked_character 0x5F 0xC2 0x75  -- ú
      ∷ plain 0x60 0xBF  -- ¿
      ∷ marked_character 0x7B 0xC8 0x75  -- ü
      ∷ marked_character 0x7C 0xC4 0x6E  -- ñ
      ∷ marked_character 0x7D 0xC1 0x65  -- è
      ∷ marked_character 0x7E 0xC1 0x61  -- à
      ∷ [];
}
sub_set Czech = record {
  word = codes "czech";
  bits = three_bits 1 1 0;
  characters =
      plain 0x23 0x23  -- #
      ∷ marked_character 0x24 0xCA 0x75  -- ů
      ∷ marked_character 0x40 0xCF 0x63  -- č
      ∷ marked_character 0x5B 0xCF 0x74  -- ť
      ∷ marked_character 0x5C 0xCF 0x7A  -- ž
      ∷ marked_character 0x5D 0xC2 0x79  -- ý
      ∷ marked_character 0x5E 0xC2 0x69  -- í
      ∷ marked_character 0x5F 0xCF 0x72  -- ř
      ∷ marked_character 0x60 0xC2 0x65  -- é
      ∷ marked_character 0x7B 0xC2 0x61  -- á
      ∷ marked_character 0x7C 0xCF 0x65  -- ě
      ∷ marked_character 0x7D 0xC2 0x75  -- ú
      ∷ marked_character 0x7E 0xCF 0x73  -- š
      ∷ [];
}
sub_set Polish = record {
  word = codes "polish";
  bits = three_bits 0 0 0;
  characters =
      plain 0x23 0x23  -- #
      ∷ marked_character 0x24 0xC2 0x6E  -- ń
      ∷ marked_character 0x40 0xCE 0x61  -- ą
      ∷ marked_character 0x5B 0xC7 0x5A  -- Ż
      ∷ marked_character 0x5C 0xC2 0x53  -- Ś
      ∷ plain 0x5D 0xE8  -- Ł
      ∷ marked_character 0x5E 0xC2 0x63  -- ć
      ∷ marked_character 0x5F 0xC2 0x6F  -- ó
      ∷ marked_character 0x60 0xCE 0x65  -- ę
      ∷ marked_character 0x7B 0xC7 0x7A  -- ż
      ∷ marked_character 0x7C 0xC2 0x73  -- ś
      ∷ plain 0x7D 0xF8  -- ł
      ∷ marked_character 0x7E 0xC2 0x7A  -- ź
      ∷ [];
}
sub_set Turkish = record {
  word = codes "turkish";
  bits = three_bits 1 1 0;
  characters =
      marked_character 0x24 0xC6 0x67  -- ğ
      ∷ marked_character 0x40 0xC7 0x49  -- İ
      ∷ marked_character 0x5B 0xCB 0x53  -- Ş
      ∷ marked_character 0x5C 0xC8 0x4F  -- Ö
      ∷ marked_character 0x5D 0xCB 0x43  -- Ç
      ∷ marked_character 0x5E 0xC8 0x55  -- Ü
      ∷ marked_character 0x5F 0xC6 0x47  -- Ğ
      ∷ plain 0x60 0xF5  -- ı
      ∷ marked_character 0x7B 0xCB 0x73  -- ş
      ∷ marked_character 0x7C 0xC8 0x6F  -- ö
      ∷ marked_character 0x7D 0xCB 0x63  -- ç
      ∷ marked_character 0x7E 0xC8 0x75  -- ü
      ∷ [];
}
sub_set Croatian = record {
  word = codes "croatian";
  bits = three_bits 1 0 1;
  characters =
      plain 0x23 0x23  -- #
      ∷ marked_character 0x24 0xC8 0x45  -- Ë
      ∷ marked_character 0x40 0xCF 0x43  -- Č
      ∷ marked_character 0x5B 0xC2 0x43  -- Ć
      ∷ marked_character 0x5C 0xCF 0x5A  -- Ž
      ∷ plain 0x5D 0xE2  -- Đ
      ∷ marked_character 0x5E 0xCF 0x53  -- Š
      ∷ marked_character 0x5F 0xC8 0x65  -- ë
      ∷ marked_character 0x60 0xCF 0x63  -- č
      ∷ marked_character 0x7B 0xC2 0x63  -- ć
      ∷ marked_character 0x7C 0xCF 0x7A  -- ž
      ∷ plain 0x7D 0xF2  -- đ
      ∷ marked_character 0x7E 0xCF 0x73  -- š
      ∷ [];
}
sub_set Romanian = record {
  word = codes "romanian";
  bits = three_bits 1 1 1;
  characters =
      plain 0x23 0x23  -- #
      ∷ plain 0x24 0xA8  -- ¤
      ∷ marked_character 0x40 0xCB 0x54  -- Ţ
      ∷ marked_character 0x5B 0xC3 0x41  -- Â
      ∷ marked_character 0x5C 0xCB 0x53  -- Ş
      ∷ marked_character 0x5D 0xC6 0x41  -- Ă
      ∷ marked_character 0x5E 0xC3 0x49  -- Î
      ∷ plain 0x5F 0xF5  -- ı
      ∷ marked_character 0x60 0xCB 0x74  -- ţ
      ∷ marked_character 0x7B 0xC3 0x61  -- â
      ∷ marked_character 0x7C 0xCB 0x73  -- ş
      ∷ marked_character 0x7D 0xC6 0x61  -- ă
      ∷ marked_character 0x7E 0xC3 0x69  -- î
      ∷ [];
}
sub_set Estonian = record {
  word = codes "estonian";
  bits = three_bits 0 1 0;
  characters =
      plain 0x23 0x23  -- #
      ∷ marked_character 0x24 0xC4 0x6F  -- õ
      ∷ marked_character 0x40 0xCF 0x53  -- Š
      ∷ marked_character 0x5B 0xC8 0x41  -- Ä
      ∷ marked_character 0x5C 0xC8 0x4F  -- Ö
      ∷ marked_character 0x5D 0xCF 0x5A  -- Ž
      ∷ marked_character 0x5E 0xC8 0x55  -- Ü
      ∷ marked_character 0x5F 0xC4 0x4F  -- Õ
      ∷ marked_character 0x60 0xCF 0x73  -- š
      ∷ marked_character 0x7B 0xC8 0x61  -- ä
      ∷ marked_character 0x7C 0xC8 0x6F  -- ö
      ∷ marked_character 0x7D 0xCF 0x7A  -- ž
      ∷ marked_character 0x7E 0xC8 0x75  -- ü
      ∷ [];
}
sub_set Lithuanian = record {
  word = codes "lithuanian";
  bits = three_bits 0 1 1;
  characters =
      plain 0x23 0x23  -- #
      ∷ plain 0x24 0x24  -- $
      ∷ plain 0x24 0xA4  -- $
      ∷ marked_character 0x40 0xCF 0x53  -- Š
      ∷ marked_character 0x5B 0xC7 0x65  -- ė
      ∷ marked_character 0x5C 0xCE 0x65  -- ę
      ∷ marked_character 0x5D 0xCF 0x5A  -- Ž
      ∷ marked_character 0x5E 0xCF 0x63  -- č
      ∷ marked_character 0x5F 0xC5 0x75  -- ū
      ∷ marked_character 0x60 0xCF 0x73  -- š
      ∷ marked_character 0x7B 0xCE 0x61  -- ą
      ∷ marked_character 0x7C 0xCE 0x75  -- ų
      ∷ marked_character 0x7D 0xCF 0x7A  -- ž
      ∷ marked_character 0x7E 0xCE 0x69  -- į
      ∷ [];
}

-- All national options.
abbrev pub options : List National
options =
    English ∷ German ∷ Swedish ∷ Italian ∷ French ∷ Spanish ∷ Czech
    ∷ Polish ∷ Turkish ∷ Croatian ∷ Romanian ∷ Estonian ∷ Lithuanian ∷ []

-- The national option with this name, in lower case; `None` for any other text.
unfoldable pub named_option : List ℕ → Option National
named_option text = find (λ n. bytes_eq (sub_set n).word text) options

-- The character c has this byte, and this diacritical mark or none.
unfoldable pub is_encoded_by : Option ℕ → ℕ → NationalCharacter → Bool
is_encoded_by mark byte c = c.byte == byte && option_eq nat_eq c.mark mark

-- The cell of the character with this byte and this diacritical mark, or none. `None` if no
-- character in the list matches.
abbrev pub cell_of_character : List NationalCharacter → Option ℕ → ℕ → Option ℕ
cell_of_character [] mark byte = None
cell_of_character (c ∷ characters) mark byte =
    if is_encoded_by mark byte c then Some c.cell else cell_of_character characters mark byte
