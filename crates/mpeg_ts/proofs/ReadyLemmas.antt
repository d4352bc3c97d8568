-- An item of the reassembly is pending if and only if bytes are pending.
use Rattle.std.proofs.lemmas.Bool.Decides.{nat_tests}
use Rattle.std.proofs.Common.{◌≡◌, ℕ, ◌≤◌, ◌<◌, List, [], ◌++◌, length, take, Ok}
use Rattle.std.proofs.Common.{refl, sym, ap, ◌∙◌, arith, length-append}
use Rattle.std.proofs.Common.{length-take-le}
use Rattle.std.proofs.lemmas.List.{append-nil, take-take}
use Rattle.sub_io.specs.Reading.{AreBytes}
use Rattle.ttx_pes.specs.PesPackets.{IsPesPacket}
use Rattle.ttx_pes.specs.Reading.{size_at}
use Rattle.ttx_pes.specs.declared.fault.PesFault.{PesFault}
use Rattle.ttx_pes.proofs.DataUnitLemmas.{AreBytes-take}
use Rattle.ttx_pes.proofs.PesPacketLemmas.{stated_size_gives_pes_packet}
use Rattle.mpeg_ts.specs.CarriedPackets.{gap_marker, gap_marker_where}
use Rattle.mpeg_ts.specs.Joining.{IsRefusedAtStart, JoiningValue, TakesNextOrRest, TakesNext}
use Rattle.mpeg_ts.specs.Joining.{IsPendingFor}
use Rattle.mpeg_ts.specs.Joining.{found_in, pending_item_bytes}
use Rattle.mpeg_ts.specs.declared.joining.Found.TheVariants as found
use Rattle.mpeg_ts.specs.declared.pending_item.Next.{Next}
use Rattle.mpeg_ts.specs.declared.pending_item.Next.TheVariants as next
use Rattle.mpeg_ts.specs.declared.joining.PartState.{PartState}
use Rattle.mpeg_ts.specs.declared.pending_item.PendingItem.{PendingItem}
use Rattle.mpeg_ts.specs.declared.pending_item.PendingItem.TheVariants as pending_item
use Rattle.mpeg_ts.proofs.OutcomeLemmas.{boolean_cases, found-other, found_packet_is_complete}

pub length-gap_marker : length gap_marker ≡ 184
unfolding gap_marker
length-gap_marker = refl

pub pes_packet_has_184_bytes : (p : List ℕ) → IsPesPacket p → 184 ≤ length p
pes_packet_has_184_bytes p h =
    let long = h.long in
    let some = h.size.0 in
    omega (arith, long, some)

middle_of_empty_is_empty : (xs ys zs : List ℕ) → xs ++ (ys ++ zs) ≡ [] → length ys ≡ 0
middle_of_empty_is_empty xs ys zs e =
    let all : length (xs ++ (ys ++ zs)) ≡ 0 = ap length e in
    omega (arith, all, length-append xs (ys ++ zs), length-append ys zs)

-- If no byte is pending, no item is pending.
pub no_pending_bytes_no_item : (w : PendingItem) (part : PartState) (bytes : List ℕ)
    → IsPendingFor w part bytes
    → pending_item_bytes w bytes ≡ []
    → w ≡ pending_item.Nothing
no_pending_bytes_no_item pending_item.Nothing part bytes waits none = refl
no_pending_bytes_no_item pending_item.GapMarker part bytes waits none =
    let long : length gap_marker ≡ 0 = ap length none in absurd
    (omega (arith, long, length-gap_marker))
no_pending_bytes_no_item (pending_item.Packet before size following) part bytes waits none =
    let long = pes_packet_has_184_bytes (take size bytes) waits.0 in
    let zero_long = middle_of_empty_is_empty (gap_marker_where before) (take size bytes)
    (gap_marker_where following) none in
    absurd (omega (arith, long, zero_long))
no_pending_bytes_no_item (pending_item.Rest before fault) part bytes waits none =
    let all : length (gap_marker_where before ++ bytes) ≡ 0 = ap length none in
    let long = waits.0.0 in
    absurd (omega (arith, all, long, length-append (gap_marker_where before) bytes))

pub no_item_no_pending_bytes : (w : PendingItem) (bytes : List ℕ)
    → w ≡ pending_item.Nothing
    → pending_item_bytes w bytes ≡ []
no_item_no_pending_bytes w bytes h1 = grind (arith, nat_tests)

stated_size_covers_header : (h : List ℕ) (size : ℕ) → size_at h ≡ Ok size → 6 ≤ size
unfolding size_at
stated_size_covers_header h size e = grind (arith, nat_tests)

-- If bytes are classified as a complete PES packet of some size, they begin with a PES packet of
-- that size, whether its contents are valid or not.
pub found_packet_is_pes_packet : (bytes : List ℕ) (size : ℕ)
    → AreBytes bytes
    → found_in bytes ≡ found.CompletePesPacket size
    → IsPesPacket (take size bytes) × (size ≤ length bytes)
found_packet_is_pes_packet bytes size fit e =
    let w = found_packet_is_complete bytes size e in
    let long : length (take size bytes) ≡ size = length-take-le size bytes w.within in
    let lo : 6 ≤ size = stated_size_covers_header (take 6 bytes) size w.header_states_size in
    let head : take 6 (take size bytes) ≡ take 6 bytes = take-take 6 size bytes lo in (
      stated_size_gives_pes_packet (take size bytes) (AreBytes-take size bytes fit)
          (omega (arith, long, lo))
          (ap size_at head ∙ w.header_states_size ∙ ap Ok (sym long)),
      w.within,
    )

positive_length_is_not_empty : (l : List ℕ) → 0 < length l → l ≡ [] → ⊥
positive_length_is_not_empty l some none =
    let zero_long : length l ≡ 0 = ap length none in omega (arith, some, zero_long)

pub packet_is_taken_first : (old new : JoiningValue) (n : Next)
    → ((fault : PesFault) → n ≡ next.Rest fault → ⊥)
    → TakesNext old n new
    → TakesNextOrRest old n new
packet_is_taken_first old new next.Nothing other taken =
    (sym (ap (λ (j : JoiningValue). j.pending) taken.1), rw taken.1 refl, λ none. taken.0)
packet_is_taken_first old new (next.Rest fault) other taken = absurd (other fault refl)
packet_is_taken_first old new next.GapMarker other taken = (
  taken.0,
  taken.1,
  λ none. absurd (positive_length_is_not_empty gap_marker (omega (arith, length-gap_marker)) none),
)
packet_is_taken_first old new (next.Packet size) other taken =
    let same : new.bytes ≡ old.bytes = ap (λ (j : JoiningValue). j.bytes) taken.3 in
    let long = pes_packet_has_184_bytes (take size old.bytes) taken.0 in
    let some : 0 < length (take size old.bytes) = omega (arith, long) in
    let back : take size old.bytes ≡ take size new.bytes = ap (take size) (sym same) in (
      taken.2 ∙ ap (λ (l : List ℕ). l ++ new.pending) back,
      taken.3,
      λ none. absurd (positive_length_is_not_empty (take size old.bytes) some (back ∙ none)),
    )

pub rest_is_taken_first : (old mid new : JoiningValue) (fault : PesFault)
    → TakesNext old (next.Rest fault) mid
    → new ≡ record mid { pending = [] }
    → TakesNextOrRest old (next.Rest fault) new
rest_is_taken_first old mid new fault taken all =
    let has_six_bytes = taken.1.0 in
    let whole : new ≡ record old { pending = [] } =
    all ∙ ap (λ (j : JoiningValue). record j { pending = [] }) taken.3 in
    rw whole (
      taken.0 ∙ sym (append-nil old.bytes),
      refl,
      λ none. absurd (positive_length_is_not_empty old.bytes (omega (arith, has_six_bytes)) none),
    )

pub ruleset firsts = (packet_is_taken_first, rest_is_taken_first)

pub found_fault_is_refused : (bytes : List ℕ) (fault : PesFault)
    → found_in bytes ≡ found.Other fault
    → IsRefusedAtStart bytes fault
unfolding found_in
found_fault_is_refused bytes fault h1 = grind (arith, nat_tests, boolean_cases, found-other)

pub ruleset idling = (no_pending_bytes_no_item, no_item_no_pending_bytes)

pub ruleset growing = no_pending_bytes_no_item

pub ruleset taking = no_pending_bytes_no_item
