-- The header fields of a PES packet can be parsed exactly if they match the grammar.
use Rattle.std.proofs.Common.{rules, ◌≡◌, ℕ, ◌-◌, ◌*◌, ◌/◌, ◌%◌, ◌^◌, ◌<◌, ◌≤◌, List, [], ◌∷◌, ◌++◌}
use Rattle.std.proofs.Common.{length, get_or, take, drop, Ok, refl, sym, ap, ◌∙◌, append_assoc}
use Rattle.std.proofs.Common.{◌+◌, arith, nat_eq, subst, length-append, length-take, length-drop}
use Rattle.std.proofs.lemmas.Bool.Decides.{nat_tests}
use Rattle.std.proofs.lemmas.List.{drop_at, take-append-drop, drop_more, drop-drop, get_or_at}
use Rattle.std.proofs.lemmas.List.{nil_from_length}
use Rattle.std.specs.Int.{bytes_high_first}
use Rattle.sub_io.specs.Reading.{AreBytes}
use Rattle.ttx_pes.specs.DataUnit.{UnitValue}
use Rattle.ttx_pes.specs.PesGrammar.{IsValidPesPacket, PesValue, packet_length, packet_start}
use Rattle.ttx_pes.specs.PesGrammar.{pts_bytes}
use Rattle.ttx_pes.specs.Reading.{is_start, pts_at, pts_bits, size_at, stated_size, units_at}
use Rattle.ttx_pes.specs.Reading.{value_at}
use Rattle.ttx_pes.proofs.DataUnitLemmas.{AreBytes-drop, suffix_lists_its_bytes}
use Rattle.ttx_pes.proofs.DataUnitLemmas.{decoded_units_are_valid, valid_units_decode}
use Rattle.sub_io.proofs.ReadingLemmas.{ok_chain_has_value, Ok-injective, ok_result}

-- If a size can be parsed from six bytes, the size is 1 to 9 times 184, and the bytes are the first
-- six bytes of a packet of that size in the grammar.
pub decoded_header_has_size : (b : List ℕ) (size : ℕ) → length b ≡ 6 → AreBytes b → size_at b ≡ Ok
    size
    → (n : ℕ) × (1 ≤ n) × (n ≤ 9) × (size ≡ 184 * n)
    × (b ≡ 0 ∷ 0 ∷ 1 ∷ 189 ∷ bytes_high_first 2 (184 * n - 6))
unfolding size_at
decoded_header_has_size b size len fit e =
    let none = nil_from_length (drop 6 b) (length-drop 6 b ∙ omega arith) in
    let parts = suffix_lists_its_bytes 6 0 b (omega arith) in
    let start : (get_or b 0 0 ≡ 0) × (get_or b 1 0 ≡ 0) × (get_or b 2 0 ≡ 1)
    × (get_or b 3 0 ≡ 189) = search rules in
    let total : (stated_size b % 184 ≡ 0) × (stated_size b ≤ 1656) × (stated_size b ≡ size) =
    grind (arith, nat_tests) in
    let is-high : get_or b 4 0 ≡ ((184 * (size / 184) - 6) / 256) % 256 = omega arith in
    let is-low : get_or b 5 0 ≡ (184 * (size / 184) - 6) % 256 = omega arith in
    (size / 184, omega arith, omega arith, omega arith, parts ∙ cc)

-- The size of a packet of the grammar can be parsed from its first six bytes.
pub valid_header_decodes : (n : ℕ)
    → 1 ≤ n
    → n ≤ 9
    → size_at (0 ∷ 0 ∷ 1 ∷ 189 ∷ bytes_high_first 2 (184 * n - 6)) ≡ Ok (184 * n)
unfolding size_at
valid_header_decodes n lo hi = grind (arith, nat_tests)

pub start_code_comparison_is_correct : (b : List ℕ)
    → ((i : ℕ) → get_or b i 0 < 256)
    → nat_eq (get_or b 0 0 + 256 * (get_or b 1 0 + 256 * (get_or b 2 0
    + 256 * (get_or b 3 0 + 256 * 0)))) 0xBD010000
    ≡ is_start b
start_code_comparison_is_correct b h1 = grind (arith, nat_tests)

abbrev pub first_six_bytes : ℕ → List ℕ
first_six_bytes n = packet_start ++ bytes_high_first 2 (packet_length n)

record Header (b : List ℕ) (t : ℕ) : Type 0 where
  pub scrambling_bits_are_clear : get_or b 0 0 / 16 ≡ 8
  pub only_pts_is_present : get_or b 1 0 / 64 ≡ 2
  pub len : get_or b 2 0 ≡ 36
  pub prefix : get_or b 3 0 / 16 ≡ 2
  pub pts_marker_bits_are_set : (get_or b 3 0 % 2 ≡ 1) × (get_or b 5 0 % 2 ≡ 1) ×
      (get_or b 7 0 % 2 ≡ 1)
  pub is_ebu_teletext : get_or b 39 0 / 16 ≡ 1
  pub value : pts_bits b ≡ t

decoded_pes_header_is_valid : (b : List ℕ) (t : ℕ) → pts_at b ≡ Ok t → Header b t
unfolding pts_at
decoded_pes_header_is_valid b t e = grind (arith, nat_tests)

-- A parsed PTS has 33 bits, and encoding it gives the same five bytes.
decoded_pts_encodes_back : (b : List ℕ) (t : ℕ)
    → AreBytes b
    → Header b t
    → (pts_bytes t
    ≡ get_or b 3 0 ∷ get_or b 4 0 ∷ get_or b 5 0 ∷ get_or b 6 0 ∷ get_or b 7 0 ∷ [])
    × (t < 2 ^ 33)
decoded_pts_encodes_back b t fit h = grind (arith, nat_tests)

body_splits_at_byte_40 : (b : List ℕ) → 40 ≤ length b → drop 8 b ≡ take 31 (drop 8 b) ++
    (get_or b 39 0 ∷ drop 40 b)
body_splits_at_byte_40 b le = grind (
  arith,
  nat_tests,
  drop-drop 31 8 b,
  drop_more,
  take-append-drop
      31 (drop 8 b),
)

abbrev pub value_from_pts_and_units : ℕ → List UnitValue → PesValue
value_from_pts_and_units t us = record { pts = t; units = us }

-- If a value can be parsed from 184 * n - 6 bytes, they are a packet of the grammar from byte 6 on.
pub decoded_body_is_valid : (n : ℕ) (b : List ℕ) (v : PesValue)
    → 1 ≤ n
    → n ≤ 9
    → length b ≡ 184 * n - 6
    → AreBytes b
    → value_at b ≡ Ok v
    → IsValidPesPacket v (first_six_bytes n ++ b)
unfolding value_at
decoded_body_is_valid n b v lo hi len fit e =
    let p = ok_chain_has_value (pts_at b) _ v e in
    let q = ok_chain_has_value (units_at (length (drop 40 b) / 46) [] (drop 40 b)) _ v p.2 in
    let h = decoded_pes_header_is_valid b p.0 p.1 in
    let left : length (drop 40 b) ≡ 46 * (4 * n - 1) = length-drop 40 b ∙ omega arith in
    let count : length (drop 40 b) / 46 ≡ 4 * n - 1 = omega arith in
    let u = decoded_units_are_valid (4 * n - 1) [] q.0 (drop 40 b) left (AreBytes-drop 40 b fit)
    (ap (λ (k : ℕ). units_at k [] (drop 40 b)) (sym count) ∙ q.1) in
    let encoded_pts = decoded_pts_encodes_back b p.0 fit h in
    let first = suffix_lists_its_bytes 8 0 b (omega arith) in
    let others = body_splits_at_byte_40 b (omega arith) in
    let body : b ≡ (get_or b 0 0 ∷ get_or b 1 0 ∷ 36 ∷ [])
    ++ (pts_bytes p.0 ++ (take 31 (drop 8 b) ++ (get_or b 39 0 ∷ drop 40 b))) = cc in
    subst (λ (x : PesValue). IsValidPesPacket x (first_six_bytes n ++ b))
    (Ok-injective (value_from_pts_and_units p.0 q.0) v q.2)
    (record {
      n = n;
      flags = get_or b 0 0;
      pts_dts_flags = get_or b 1 0;
      header_stuffing = take 31 (drop 8 b);
      data_identifier = get_or b 39 0;
      data_units = drop 40 b;
      bytes = ap (λ (x : List ℕ). first_six_bytes n ++ x) body;
      size = (lo, hi);
      scrambling_is_off = h.scrambling_bits_are_clear;
      only_pts_is_present = h.only_pts_is_present;
      pts_fits = encoded_pts.1;
      header_stuffing_length_is_31 = length-take 31 (drop 8 b) ∙ omega (arith, length-drop 8 b);
      is_ebu_data = h.is_ebu_teletext;
      are_valid_units = rw u.1 u.2;
      in_order = rw u.1 u.3;
    })

pub pts_and_units_give_value : (b : List ℕ) (t n : ℕ) (us : List UnitValue)
    → pts_at b ≡ Ok t
    → length (drop 40 b) / 46 ≡ n
    → units_at n [] (drop 40 b) ≡ Ok us
    → value_at b ≡ Ok (value_from_pts_and_units t us)
unfolding value_at
pts_and_units_give_value b t n us e count eu = rw (e, count, eu) refl

-- `body_of_valid_packet` is a packet of the grammar without its first six bytes.
unfoldable pub body_of_valid_packet : (v : PesValue) (p : List ℕ) → IsValidPesPacket v p → List ℕ
body_of_valid_packet v p h =
    (h.flags ∷ h.pts_dts_flags ∷ 36 ∷ [])
    ++ (pts_bytes v.pts ++ (h.header_stuffing ++ (h.data_identifier ∷ h.data_units)))

pub packet_is_header_and_body : (v : PesValue) (p : List ℕ) (h : IsValidPesPacket v p)
    → p ≡ first_six_bytes h.n ++ body_of_valid_packet v p h
unfolding body_of_valid_packet
packet_is_header_and_body v p h = h.bytes

valid_pes_header_decodes : (v : PesValue) (p : List ℕ) (h : IsValidPesPacket v p)
    → pts_at (body_of_valid_packet v p h) ≡ Ok v.pts
unfolding pts_at body_of_valid_packet
valid_pes_header_decodes v p h = grind (arith, nat_tests, get_or_at, ok_result)

-- The value of a packet of the grammar can be parsed from its bytes from byte 6 on.
pub valid_body_decodes : (v : PesValue) (p : List ℕ) (h : IsValidPesPacket v p)
    → (value_at (body_of_valid_packet v p h) ≡ Ok v) × (length (body_of_valid_packet v p h) ≡ 184 *
    h.n - 6)
unfolding body_of_valid_packet
valid_body_decodes v p h =
    let following : drop 40 (body_of_valid_packet v p h) ≡ h.data_units =
    ap (drop 32) (sym (append_assoc h.header_stuffing (h.data_identifier ∷ []) h.data_units))
    ∙ drop_at (h.header_stuffing ++ h.data_identifier ∷ []) h.data_units 32
    (length-append h.header_stuffing (h.data_identifier ∷ []) ∙ omega arith) in
    let us = valid_units_decode (4 * h.n - 1) [] v.units h.data_units h.are_valid_units h.in_order
    in
    let count : length h.data_units / 46 ≡ 4 * h.n - 1 = omega (arith, us.1) in (
      pts_and_units_give_value (body_of_valid_packet v p h) v.pts (4 * h.n - 1) v.units
          (valid_pes_header_decodes v p h)
          (ap (λ (x : List ℕ). length x / 46) following ∙ count)
          (ap (units_at (4 * h.n - 1) []) following ∙ us.0),
      omega (arith, length-append h.header_stuffing (h.data_identifier ∷ h.data_units), us.1),
    )
