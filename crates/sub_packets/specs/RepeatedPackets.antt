-- Packets that are sent again: if the first packet is a header that starts a new text, they break
-- the same rules again.
use Rattle.std.specs.Prelude.{◌≡◌, ℕ, ◌<◌, List, [], ◌∷◌, ◌++◌, length, IsTrue, slice_index_or}
use Rattle.std.specs.Prelude.{take}
use Rattle.ttx_page.specs.PacketKind.{begins_text, kind}
use Rattle.ttx_page.specs.Span.{is_open_after, span, text_span}
use Rattle.sub_rules.specs.Kept.{last_header}
use Rattle.sub_rules.specs.PacketRules.{first_header}
use Rattle.sub_rules.specs.PacketTests.{broken_rules}
use Rattle.sub_rules.specs.declared.packet_rule.Watched.{Watched}

-- The first packet of the list is a header that starts a new text of the page (`begins_text`).
pub record BeginsWithHeader (w : Watched) (packets : List (List ℕ)) : Type 0 where
  pub first : List ℕ
  pub others : List (List ℕ)
  pub packets_are : packets ≡ first ∷ others
  pub is_header : IsTrue (begins_text w.keeps (kind w.page first))

-- Both lists of packets have the same effect on later packets: they have the same first page header
-- that can be decoded and the same last header of the page, the page is open after both or after
-- neither, and the packets sent while the page was open are the same, both since its last header
-- and since the last header that starts a new text (`begins_text`), or in the whole list if no
-- header starts one.
pub record HaveSameEffect (w : Watched) (one other : List (List ℕ)) : Type 0 where
  pub header_eq : first_header one ≡ first_header other
  pub last_is : last_header w.page one ≡ last_header w.page other
  pub open_eq : is_open_after (kind w.page) one ≡ is_open_after (kind w.page) other
  pub span_eq : span (kind w.page) one ≡ span (kind w.page) other
  pub text_eq : text_span w.keeps (kind w.page) one ≡ text_span w.keeps (kind w.page) other

-- Each of `packets` breaks the same rules after the packets `one` as after the packets `other`.
abbrev pub BreakSameRules : Watched → List (List ℕ) → List (List ℕ) → List (List ℕ) → Type 0
BreakSameRules w one other packets =
    (k : ℕ)
    → k < length packets
    → broken_rules w (one ++ take k packets) (slice_index_or packets k [])
    ≡ broken_rules w (other ++ take k packets) (slice_index_or packets k [])

-- Packets that begin with a header that starts a new text break the same rules when they are sent
-- again at once, and have the same effect on later packets. So a checker can skip repeated packets
-- that broke no rule.
abbrev pub LawOfRepeatedPackets : Type 0
LawOfRepeatedPackets =
    (w : Watched) (heard packets : List (List ℕ))
    → BeginsWithHeader w packets
    → BreakSameRules w heard (heard ++ packets) packets
    × HaveSameEffect w (heard ++ packets) ((heard ++ packets) ++ packets)
