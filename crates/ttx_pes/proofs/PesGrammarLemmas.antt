-- The canonical packet of a value is a valid PES packet with that value, and the writer writes it.
use Rattle.std.proofs.Common.{List, Some, [], ap, append_assoc, arith, length, lit<, refl, suc}
use Rattle.std.proofs.Common.{drop, take, zero, ℕ, ◌*◌, ◌++◌, ◌+◌, ◌-◌, ◌/◌, ◌∷◌, ◌≡◌, ◌≤◌, ◌<◌}
use Rattle.std.proofs.lemmas.Bool.Decides.{nat_tests}
use Rattle.std.specs.Prelude.{replicate}
use Rattle.std.proofs.lemmas.List.{append-nil, take_all}
use Rattle.std.proofs.Math.Seq.{take-append_seam}
use Rattle.std.specs.List.{flat_map, AllByRecursion, refill}
use Rattle.ttx_pes.specs.DataUnit.{UnitValue, IsUnit, IsSkippedUnit, AreDataUnits, teletext_unit}
use Rattle.ttx_pes.specs.DataUnit.{stuffing_byte, stuffing_unit}
use Rattle.ttx_pes.specs.Laws.{LawOfCanonicalPacket, LawOfPacketValue}
use Rattle.ttx_pes.specs.PesGrammar.{PesValue, canonical_packet, pes_packet_header}
use Rattle.ttx_pes.specs.PesGrammar.{payload_count_for}
use Rattle.ttx_pes.specs.PesGrammar.{pts_bytes, repeated}

stuffing_is_skipped : IsSkippedUnit stuffing_unit
stuffing_is_skipped = grind (arith, nat_tests)

pub stuffing_units : (n : ℕ) → AreDataUnits n [] (repeated n stuffing_unit)
stuffing_units zero = (refl, refl)
stuffing_units (suc n) = grind (arith, nat_tests, stuffing_is_skipped, stuffing_units n)

-- The data units that a writer creates, followed by stuffing units, match the grammar.
pub encoded_units_are_valid : (us : List UnitValue) (n : ℕ)
    → AllByRecursion IsUnit us
    → AreDataUnits (length us + n) us (flat_map teletext_unit us ++ repeated n stuffing_unit)
encoded_units_are_valid [] n h = grind (arith, nat_tests, stuffing_units)
encoded_units_are_valid (u ∷ us) n h =
    let one : AreDataUnits (suc (length us + n)) (u ∷ us)
    (flat_map teletext_unit (u ∷ us) ++ repeated n stuffing_unit) = (
      Some u,
      us,
      teletext_unit u,
      flat_map teletext_unit us ++ repeated n stuffing_unit,
      record { reserved = 3; reserved_fits_two_bits = lit< tt; bytes = refl; is_unit = h.0 },
      encoded_units_are_valid us n h.1,
      refl,
      append_assoc (teletext_unit u) (flat_map teletext_unit us) (repeated n stuffing_unit),
    ) in
    let more : suc (length us + n) ≡ suc (length us) + n = omega arith in
    grind (arith, nat_tests)

pub canonical_packet_is_valid : LawOfCanonicalPacket
unfolding canonical_packet payload_count_for pes_packet_header
canonical_packet_is_valid v h =
    let k = payload_count_for (length v.units) in
    let count : length v.units + (4 * k - 1 - length v.units) ≡ 4 * k - 1 = omega arith in
    record {
      n = k;
      flags = 0x84;
      pts_dts_flags = 0x80;
      header_stuffing = replicate 31 stuffing_byte;
      data_identifier = 0x10;
      data_units =
          flat_map teletext_unit v.units ++ repeated (4 * k - 1 - length v.units) stuffing_unit;
      bytes = refl;
      size = (omega arith, omega arith);
      scrambling_is_off = refl;
      only_pts_is_present = refl;
      pts_fits = h.pts;
      header_stuffing_length_is_31 = refl;
      is_ebu_data = refl;
      are_valid_units = rw count at (encoded_units_are_valid v.units (4 * k - 1 - length v.units)
          h.each);
      in_order = h.in_order;
    }

pub has_room_for_pts : (v : PesValue) → 14 ≤ length (canonical_packet v)
unfolding canonical_packet pes_packet_header
has_room_for_pts v = omega arith

-- Replacing the five bytes of the PTS in a canonical packet gives the canonical packet with the new
-- PTS.
pub refill-pts : (v : PesValue) (pts : ℕ) (bytes : List ℕ)
    → bytes ≡ canonical_packet v
    → refill (length bytes) bytes (take 9 bytes ++ (pts_bytes pts ++ drop 14 bytes))
    ≡ canonical_packet (record v { pts = pts })
unfolding canonical_packet pes_packet_header
refill-pts v pts bytes is =
    let n = payload_count_for (length v.units) in
    let units : List ℕ =
    flat_map teletext_unit v.units ++ repeated (4 * n - 1 - length v.units) stuffing_unit in
    rw is
    (ap (λ rest. pes_packet_header n pts ++ rest)
    (take-append_seam units (drop (length units) units)))

pub stuffing_loop_step : (count i : ℕ) (out all : List ℕ)
    → i < count
    → out ++ repeated (count - i) stuffing_unit ≡ all
    → (out ++ stuffing_unit) ++ repeated (count - (i + 1)) stuffing_unit ≡ all
stuffing_loop_step count i out all lt e =
    let next : count - i ≡ suc (count - (i + 1)) = omega arith in
    grind (arith, nat_tests, append_assoc)

pub canonical_packet_loop_step : (v : PesValue) (us : List UnitValue) (pts : ℕ)
    (out base head : List ℕ) (n i j : ℕ)
    → us ≡ v.units
    → pts ≡ v.pts
    → out ++ repeated (n - j) stuffing_unit ≡ base ++ repeated n stuffing_unit
    → base ≡ head ++ flat_map teletext_unit (take i us)
    → length us ≤ i
    → head ≡ pes_packet_header (length us / 4 + 1) pts
    → n ≡ 4 * (length us / 4 + 1) - 1 - length us
    → n ≤ j
    → out ≡ canonical_packet v
unfolding canonical_packet payload_count_for
canonical_packet_loop_step v us pts out base head n i j same pts-same e f le h k done =
    grind (arith, nat_tests, take_all, append-nil, append_assoc)

record Holds (n : ℕ) (units : List UnitValue) : Type 0 where
  pub few : length units ≤ n
  pub each : AllByRecursion IsUnit units

decoded_units_are_bounded : (n : ℕ) (units : List UnitValue) (b : List ℕ) → AreDataUnits n units b →
    Holds n units
decoded_units_are_bounded zero units b h = rw h.0 (record { few = omega arith; each = tt })
decoded_units_are_bounded (suc n) units b u = grind (arith, nat_tests, decoded_units_are_bounded n)

pub packet_value_is_valid : LawOfPacketValue
packet_value_is_valid v b h = grind (arith, nat_tests, decoded_units_are_bounded)

pub ruleset packing = (stuffing_loop_step, canonical_packet_loop_step)
