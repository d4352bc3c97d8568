-- The reader outputs a PES packet unchanged when it has read all its TS packets.
use Rattle.std.proofs.Common.{◌≡◌, ℕ, ◌≤◌, inl, inr, Bool, true, false, List, [], ◌∷◌, ◌++◌, length}
use Rattle.std.proofs.Common.{append_assoc, take, arith, Ok}
use Rattle.std.proofs.lemmas.Bool.{cases_Bool}
use Rattle.std.proofs.lemmas.Bool.Decides.{nat_tests}
use Rattle.std.specs.List.{concat}
use Rattle.std.proofs.lemmas.List.{append-nil}
use Rattle.std.proofs.lemmas.List.Folds.{concat-append}
use Rattle.std.proofs.Math.Seq.{take-length}
use Rattle.ttx_pes.proofs.PesHeaderLemmas.{valid_header_decodes}
use Rattle.ttx_pes.specs.PesPackets.{IsPesPacket}
use Rattle.ttx_pes.specs.Reading.{size_at}
use Rattle.mpeg_ts.specs.Parts.{Part, Pes, part_bytes, outcome, gap_where}
use Rattle.mpeg_ts.specs.GoodPackets.{GoodPacket}
use Rattle.mpeg_ts.specs.Parts.{begins_part, may_be_cut_off, outcomes, single_packet_part}
use Rattle.mpeg_ts.specs.Parts.{parts_from}
use Rattle.mpeg_ts.specs.Parts.{with_packet}
use Rattle.mpeg_ts.specs.CarriedPackets.{with_gap_markers}

pub pes_packet-size : (b : List ℕ) → IsPesPacket b → size_at (take 6 b) ≡ Ok (length b)
pes_packet-size b h1 = grind (arith, nat_tests, valid_header_decodes)

pub pes_packet-long : (b : List ℕ) → IsPesPacket b → 184 ≤ length b
pes_packet-long b h1 = grind (arith, nat_tests)

-- The joined payloads start a PES packet, and are exactly its bytes.
pub record IsCompletePart (part : Part) (bytes : List ℕ) : Type 0 where
  pub begins : part.begins ≡ true
  pub bytes_are_equal : part_bytes part ≡ bytes
  pub is_pes_packet : IsPesPacket bytes

pub outcome-whole : (cut_off : Bool) (part : Part) (bytes : List ℕ)
    → IsCompletePart part bytes
    → outcome cut_off part ≡ Pes bytes ∷ []
unfolding outcome
outcome-whole cut_off part bytes h =
    let long = pes_packet-long bytes h.is_pes_packet in
    let size = pes_packet-size bytes h.is_pes_packet in
    let all = take-length bytes in
    grind (arith, nat_tests, h.begins, h.bytes_are_equal)

pub outcomes-whole : (wrong_after : Bool) (part : Part) (more : List Part) (bytes : List ℕ)
    → IsCompletePart part bytes
    → outcomes wrong_after (part ∷ more)
    ≡ gap_where part.after_break ++ (Pes bytes ∷ outcomes wrong_after more)
unfolding outcomes
outcomes-whole wrong_after part more bytes h =
    rw (outcome-whole (may_be_cut_off wrong_after more) part bytes h)

-- A complete PES packet is output without a gap marker if no data was lost before it.
pub with_gap_markers-whole : (given wrong_after : Bool) (part : Part) (more : List Part)
    (bytes : List ℕ)
    → IsCompletePart part bytes
    → part.after_break ≡ false
    → with_gap_markers given false (outcomes wrong_after (part ∷ more))
    ≡ bytes ++ with_gap_markers true false (outcomes wrong_after more)
unfolding with_gap_markers
with_gap_markers-whole given wrong_after part more bytes h whole =
    rw (outcomes-whole wrong_after part more bytes h, whole)
    (elim (cases_Bool given) [ inl e ↦ rw e | inr e ↦ rw e ])

pub parts_from-cut : (part : Part) (g : GoodPacket) (more : List GoodPacket)
    → begins_part g ≡ true
    → parts_from part (g ∷ more) ≡ part ∷ parts_from (single_packet_part g) more
unfolding parts_from
parts_from-cut part g more cut = rw cut

pub parts_from-follows : (part : Part) (g : GoodPacket) (more : List GoodPacket)
    → begins_part g ≡ false
    → parts_from part (g ∷ more) ≡ parts_from (with_packet part g) more
unfolding parts_from
parts_from-follows part g more within = rw within

pub concat-snoc : (xs : List (List ℕ)) (x y z : List ℕ)
    → concat xs ++ (x ++ y) ≡ z
    → concat (xs ++ x ∷ []) ++ y ≡ z
concat-snoc xs x y z h1 = grind (arith, nat_tests, concat-append, append-nil, append_assoc)
