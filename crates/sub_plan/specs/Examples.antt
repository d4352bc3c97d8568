-- Examples: the headers of a page transmission, byte by byte.
use Rattle.std.specs.Prelude.{◌≡◌, ℕ, true, false, List, [], ◌∷◌, ◌++◌, replicate}
use Rattle.ttx_packet.specs.PageHeader.{header_packet}
use Rattle.ttx_packet.specs.PageId.{PageIdValue}
use Rattle.stl_rows.specs.declared.national.National.{National}
use Rattle.stl_rows.specs.declared.national.National.TheVariants.{English, German, Swedish, Italian}
use Rattle.stl_rows.specs.declared.national.National.TheVariants.{French, Spanish, Czech, Polish}
use Rattle.stl_rows.specs.declared.national.National.TheVariants.{Turkish, Croatian, Romanian}
use Rattle.stl_rows.specs.declared.national.National.TheVariants.{Estonian, Lithuanian}
use Rattle.sub_plan.specs.Sending.{watched_header, closing_header}

-- Page 888, whose magazine 8 is sent as 0.
abbrev pub page_888 : PageIdValue
page_888 = record { magazine = 0; page = 0x88 }

-- A header packet of page 888: ten coded bytes, the last of them `last`, and 32 spaces.
abbrev pub header_of_888_with_last_coded_byte : ℕ → List ℕ
header_of_888_with_last_coded_byte last =
    (0x15 ∷ 0x15 ∷ 0xD0 ∷ 0xD0 ∷ 0x15 ∷ 0xD0 ∷ 0x15 ∷ 0xD0 ∷ 0x02 ∷ last ∷ []) ++ replicate 32 0x20

-- The last coded byte of the header of page 888 with a national option is `parallel` in parallel
-- mode and `serial` in serial mode. Its four data bits are C11 to C14.
abbrev pub HasLastCodedByte : National → ℕ → ℕ → Type 0
HasLastCodedByte national parallel serial =
    (header_packet 0 (watched_header page_888 national false)
    ≡ header_of_888_with_last_coded_byte parallel)
    × (header_packet 0 (watched_header page_888 national true)
    ≡ header_of_888_with_last_coded_byte serial)

-- The header of page 888 for each national option, in parallel and in serial mode.
abbrev pub ExampleOfWatchedHeaders : Type 0
ExampleOfWatchedHeaders =
    HasLastCodedByte English 0x15 0x02
    × HasLastCodedByte German 0xD0 0xC7
    × HasLastCodedByte Swedish 0x64 0x73
    × HasLastCodedByte Italian 0xA1 0xB6
    × HasLastCodedByte French 0x49 0x5E
    × HasLastCodedByte Spanish 0x8C 0x9B
    × HasLastCodedByte Czech 0x38 0x2F
    × HasLastCodedByte Polish 0x15 0x02
    × HasLastCodedByte Turkish 0x38 0x2F
    × HasLastCodedByte Croatian 0x8C 0x9B
    × HasLastCodedByte Romanian 0xFD 0xEA
    × HasLastCodedByte Estonian 0x64 0x73
    × HasLastCodedByte Lithuanian 0xA1 0xB6

-- The closing header of magazine 8, in parallel and in serial mode.
abbrev pub ExampleOfClosingHeaders : Type 0
ExampleOfClosingHeaders =
    (header_packet 0 (closing_header false)
    ≡ (0x15 ∷ 0x15 ∷ 0xEA ∷ 0xEA ∷ 0xEA ∷ 0x2F ∷ 0xEA ∷ 0x5E ∷ 0x15 ∷ 0x15 ∷ [])
    ++ replicate 32 0x20)
    × (header_packet 0 (closing_header true)
    ≡ (0x15 ∷ 0x15 ∷ 0xEA ∷ 0xEA ∷ 0xEA ∷ 0x2F ∷ 0xEA ∷ 0x5E ∷ 0x15 ∷ 0x02 ∷ [])
    ++ replicate 32 0x20)
