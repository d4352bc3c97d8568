-- The fields of a GSI block (EBU Tech 3264) by name, with their offsets and lengths. `dfc`, `dsc`
-- and `cct`, which decide whether the block is accepted, are in Gsi.
use Rattle.std.specs.Prelude.{ℕ, List, slice_index}
use Rattle.stl_file.specs.Gsi.{field}

-- The GSI field CPN, the code page number.
abbrev pub cpn : List ℕ → List ℕ
cpn g = field 0 3 g

-- The GSI field LC, the language code.
abbrev pub lc : List ℕ → List ℕ
lc g = field 14 2 g

-- The GSI field OPT, the original programme title.
abbrev pub opt : List ℕ → List ℕ
opt g = field 16 32 g

-- The GSI field OET, the original episode title.
abbrev pub oet : List ℕ → List ℕ
oet g = field 48 32 g

-- The GSI field TPT, the translated programme title.
abbrev pub tpt : List ℕ → List ℕ
tpt g = field 80 32 g

-- The GSI field TET, the translated episode title.
abbrev pub tet : List ℕ → List ℕ
tet g = field 112 32 g

-- The GSI field TN, the translator's name.
abbrev pub tn : List ℕ → List ℕ
tn g = field 144 32 g

-- The GSI field TCD, the translator's contact details.
abbrev pub tcd : List ℕ → List ℕ
tcd g = field 176 32 g

-- The GSI field SLR, the subtitle list reference code.
abbrev pub slr : List ℕ → List ℕ
slr g = field 208 16 g

-- The GSI field CD, the creation date, as YYMMDD.
abbrev pub cd : List ℕ → List ℕ
cd g = field 224 6 g

-- The GSI field RD, the revision date, as YYMMDD.
abbrev pub rd : List ℕ → List ℕ
rd g = field 230 6 g

-- The GSI field RN, the revision number.
abbrev pub rn : List ℕ → List ℕ
rn g = field 236 2 g

-- The GSI field TNB, the number of TTI blocks.
abbrev pub tnb : List ℕ → List ℕ
tnb g = field 238 5 g

-- The GSI field TNS, the number of subtitles.
abbrev pub tns : List ℕ → List ℕ
tns g = field 243 5 g

-- The GSI field TNG, the number of subtitle groups.
abbrev pub tng : List ℕ → List ℕ
tng g = field 248 3 g

-- The GSI field MNC, the maximum number of characters in a row.
abbrev pub mnc : List ℕ → List ℕ
mnc g = field 251 2 g

-- The GSI field MNR, the maximum number of rows.
abbrev pub mnr : List ℕ → List ℕ
mnr g = field 253 2 g

-- The GSI field TCS, the time code status.
abbrev pub tcs : List ℕ → ℕ
tcs g = slice_index g 255

-- The GSI field TCP, the time code of the programme's start.
abbrev pub tcp : List ℕ → List ℕ
tcp g = field 256 8 g

-- The GSI field TCF, the time code of the first in-cue.
abbrev pub tcf : List ℕ → List ℕ
tcf g = field 264 8 g

-- The GSI field TND, the number of disks.
abbrev pub tnd : List ℕ → ℕ
tnd g = slice_index g 272

-- The GSI field DSN, the disk sequence number.
abbrev pub dsn : List ℕ → ℕ
dsn g = slice_index g 273

-- The GSI field CO, the country of origin.
abbrev pub co : List ℕ → List ℕ
co g = field 274 3 g

-- The GSI field PUB, the publisher.
abbrev pub publisher : List ℕ → List ℕ
publisher g = field 277 32 g

-- The GSI field EN, the editor's name.
abbrev pub en : List ℕ → List ℕ
en g = field 309 32 g

-- The GSI field ECD, the editor's contact details.
abbrev pub ecd : List ℕ → List ℕ
ecd g = field 341 32 g

-- The spare bytes of the GSI block, 373 to 447.
abbrev pub spare : List ℕ → List ℕ
spare g = field 373 75 g

-- The GSI field UDA, the user-defined area.
abbrev pub uda : List ℕ → List ℕ
uda g = field 448 576 g
