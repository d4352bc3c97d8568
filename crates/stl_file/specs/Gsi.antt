-- The GSI block (EBU Tech 3264), 1024 bytes. Each field with its offset and its length:
--
--   CPN    0   3   code page number           TNG  248   3   number of subtitle groups
--   DFC    3   8   disk format code           MNC  251   2   displayable characters in a row
--   DSC   11   1   display standard code      MNR  253   2   displayable rows
--   CCT   12   2   character code table       TCS  255   1   time code status
--   LC    14   2   language code              TCP  256   8   time code of the programme's start
--   OPT   16  32   original programme title   TCF  264   8   time code of the first in-cue
--   OET   48  32   original episode title     TND  272   1   number of disks
--   TPT   80  32   translated programme title DSN  273   1   disk sequence number
--   TET  112  32   translated episode title   CO   274   3   country of origin
--   TN   144  32   translator's name          PUB  277  32   publisher
--   TCD  176  32   translator's contact       EN   309  32   editor's name
--   SLR  208  16   subtitle list reference    ECD  341  32   editor's contact
--   CD   224   6   creation date                   373  75   spare
--   RD   230   6   revision date              UDA  448 576   user-defined area
--   RN   236   2   revision number
--   TNB  238   5   number of TTI blocks
--   TNS  243   5   number of subtitles
--
-- DFC, DSC and CCT decide whether the block is accepted; other bytes are not checked.
use Rattle.std.specs.Prelude.{◌≡◌, ℕ, ◌+◌, ◌/◌, ◌%◌, Bool, false, true, not, ◌&&◌, ◌||◌, ◌==◌}
use Rattle.std.specs.Prelude.{◌⊎◌, List, [], ◌∷◌, ◌++◌, length, take, drop, slice_index}
use Rattle.std.specs.Prelude.{bytes_eq, Result, Ok}
use Rattle.stl_file.specs.declared.fault.StlFault.{StlFault}
use Rattle.stl_file.specs.declared.fault.StlFault.TheVariants as fault
use Rattle.stl_file.specs.Questions.{Checks, result_of_checks}

-- Size of a GSI block in bytes.
abbrev pub gsi_size : ℕ
gsi_size = 1024

-- The `len` bytes of a block from the offset `at`; fewer if the block ends before.
abbrev pub field : ℕ → ℕ → List ℕ → List ℕ
field at len g = take len (drop at g)

-- The GSI field DFC, the disk format code.
abbrev pub dfc : List ℕ → List ℕ
dfc g = field 3 8 g

-- The GSI field DSC, the display standard code.
abbrev pub dsc : List ℕ → ℕ
dsc g = slice_index g 11

-- The GSI field CCT, the character code table.
abbrev pub cct : List ℕ → List ℕ
cct g = field 12 2 g

-- The DFC "STL25.01": 25 frames per second.
abbrev pub stl_25 : List ℕ
stl_25 = 0x53 ∷ 0x54 ∷ 0x4C ∷ 0x32 ∷ 0x35 ∷ 0x2E ∷ 0x30 ∷ 0x31 ∷ []

-- The DFC "STL30.01": 30 frames per second.
abbrev pub stl_30 : List ℕ
stl_30 = 0x53 ∷ 0x54 ∷ 0x4C ∷ 0x33 ∷ 0x30 ∷ 0x2E ∷ 0x30 ∷ 0x31 ∷ []

-- The DSC "1": level 1 Teletext.
abbrev pub teletext_level_1 : ℕ
teletext_level_1 = 0x31

-- The DSC "2": level 2 Teletext.
abbrev pub teletext_level_2 : ℕ
teletext_level_2 = 0x32

-- The DSC "0": open subtitles, which are part of the picture.
abbrev pub open_subtitles : ℕ
open_subtitles = 0x30

-- The DSC " ": the display is unspecified.
abbrev pub unspecified_display : ℕ
unspecified_display = 0x20

-- The CCT "00": the Latin table.
abbrev pub latin_alphabet : List ℕ
latin_alphabet = 0x30 ∷ 0x30 ∷ []

-- An accepted DSC: Teletext of level 1 or 2. If `takes_open` is set, open subtitles and an
-- unspecified display are accepted too.
abbrev pub IsAcceptedDisplay : Bool → ℕ → Type 0
IsAcceptedDisplay takes_open display =
    (display ≡ teletext_level_1) ⊎ (display ≡ teletext_level_2)
    ⊎ ((takes_open ≡ true) × ((display ≡ open_subtitles) ⊎ (display ≡ unspecified_display)))

-- An accepted GSI block: DFC for 25 frames per second, an accepted DSC, and CCT for the Latin
-- table.
pub record IsGsiFor (takes_open : Bool) (g : List ℕ) : Type 0 where
  pub size : length g ≡ gsi_size
  pub format : dfc g ≡ stl_25
  pub display : IsAcceptedDisplay takes_open (dsc g)
  pub alphabet : cct g ≡ latin_alphabet

-- An accepted GSI block of a file for Teletext.
abbrev pub IsGsi : List ℕ → Type 0
IsGsi g = IsGsiFor false g

-- The checks of a GSI block: format, frame rate, display and character code table.
abbrev pub gsi_checks : Bool → List ℕ → Checks
gsi_checks takes_open g =
    (fault.Format, not (bytes_eq (dfc g) stl_25) && not (bytes_eq (dfc g) stl_30))
    ∷ (fault.Rate, bytes_eq (dfc g) stl_30)
    ∷ (
      fault.Display,
      not (dsc g == teletext_level_1) && not (dsc g == teletext_level_2)
          && not (takes_open && ((dsc g == open_subtitles) || (dsc g == unspecified_display))),
    )
    ∷ (fault.Alphabet, not (bytes_eq (cct g) latin_alphabet))
    ∷ []

-- The GSI block g itself, or its first fault.
unfoldable pub checked_gsi : Bool → List ℕ → Result (List ℕ) StlFault
checked_gsi takes_open g = result_of_checks (gsi_checks takes_open g) (Ok g)

-- The ASCII digit of a number below ten.
abbrev pub digit : ℕ → ℕ
digit n = 0x30 + n

-- The five decimal digits of a number below 100,000 in ASCII, with leading zeros.
abbrev pub five_digits : ℕ → List ℕ
five_digits n =
    digit (n / 10000) ∷ digit ((n / 1000) % 10) ∷ digit ((n / 100) % 10)
    ∷ digit ((n / 10) % 10) ∷ digit (n % 10) ∷ []

-- The GSI block g with TNB and TNS set to two numbers below 100,000. All other bytes stay the same.
abbrev pub with_counts : ℕ → ℕ → List ℕ → List ℕ
with_counts tnb tns g = take 238 g ++ (five_digits tnb ++ (five_digits tns ++ drop 248 g))
