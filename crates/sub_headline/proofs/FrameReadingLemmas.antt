-- The frames that a PES file carries are the frames that are read from the fixed positions of their
-- fields.
use Rattle.std.proofs.lemmas.Bool.Decides.{nat_tests}
use Rattle.std.proofs.Common.{◌≡◌, ◌∙◌, ℕ, zero, suc, ◌+◌, ◌-◌, ◌*◌, ◌/◌, ◌%◌, ◌^◌, ◌<◌, ◌≤◌, true}
use Rattle.std.proofs.Common.{List, [], ◌∷◌, ◌++◌, Option, Some, None, refl, sym, ap, arith, length}
use Rattle.std.proofs.Common.{take, drop, map, append_assoc, length-append}
use Rattle.std.specs.Prelude.{◌==◌, ◌||◌, option_to_list}
use Rattle.std.specs.List.{AllZip, concat, flat_map, range_with_len}
use Rattle.std.proofs.lemmas.List.{drop-drop, drop_at, map-append, take_at}
use Rattle.ttx_pes.specs.DataUnit.{AreDataUnits, IsDataUnit, IsTeletextUnit, UnitValue}
use Rattle.ttx_pes.specs.PesGrammar.{IsValidPesPacket, PesValue}
use Rattle.ttx_pes.proofs.DataUnitLemmas.{mirroring_twice_restores_bytes, valid_unit_decodes}
use Rattle.ttx_pes.proofs.PesHeaderLemmas.{valid_body_decodes, body_of_valid_packet}
use Rattle.ttx_pes.proofs.PesHeaderLemmas.{packet_is_header_and_body, first_six_bytes}
use Rattle.sub_rules.specs.PesFrames.{Carries, IsSentAs}
use Rattle.sub_rules.specs.Transmission.{SentFrame, Transmission}
use Rattle.sub_headline.specs.PlainReading.{frame_of_pes_packet, frames_by_place}
use Rattle.sub_headline.specs.PlainReading.{teletext_packet_of_unit, packets_by_size}
use Rattle.sub_headline.specs.PlainReading.{chunks_of_size, pts_of_packet, size_of_first_packet}

dropping_skips_first_packet : (size : ℕ) (first rest : List ℕ) (k : ℕ)
    → length first ≡ size
    → drop (size * suc k) (first ++ rest) ≡ drop (size * k) rest
dropping_skips_first_packet size first rest k is =
    let on : size * suc k ≡ size + size * k = omega arith in
    ap (λ n. drop n (first ++ rest)) on
    ∙ sym (drop-drop (size * k) size (first ++ rest))
    ∙ ap (drop (size * k)) (drop_at first rest size is)

abbrev pes_packet_at : ℕ → List ℕ → ℕ → List ℕ
pes_packet_at size bytes k = take size (drop (size * k) bytes)

packets_follow_first_packet : (size : ℕ) (first rest : List ℕ) (a b n : ℕ)
    → length first ≡ size
    → b ≡ suc a
    → map (pes_packet_at size (first ++ rest)) (range_with_len b n)
    ≡ map (pes_packet_at size rest) (range_with_len a n)
packets_follow_first_packet size first rest a b zero is next = refl
packets_follow_first_packet size first rest a b (suc n) is next =
    let later = map (pes_packet_at size (first ++ rest)) (range_with_len (b + 1) n) in
    ap (λ (k : ℕ). pes_packet_at size (first ++ rest) k ∷ later) next
    ∙ ap (λ (bytes : List ℕ). take size bytes ∷ later) (dropping_skips_first_packet size first rest
    a is)
    ∙ ap (λ (ps : List (List ℕ)). pes_packet_at size rest a ∷ ps)
    (packets_follow_first_packet size first rest (a + 1) (b + 1) n is (omega arith))

pub chunks_of_cons : (size : ℕ) (first rest : List ℕ)
    → length first ≡ size
    → length (first ++ rest) / size ≡ suc (length rest / size)
    → chunks_of_size size (first ++ rest) ≡ first ∷ chunks_of_size size rest
chunks_of_cons size first rest is count =
    let none : size * 0 ≡ 0 = omega arith in
    let others = packets_follow_first_packet size first rest 0 1 (length rest / size) is refl in
    rw (count, none, take_at first rest size is) (ap (λ (ps : List (List ℕ)). first ∷ ps) others)

teletext_id : (id : ℕ) → 2 ≤ id → id ≤ 3 → (id == 0x02) || (id == 0x03) ≡ true
teletext_id id low high = grind (arith, nat_tests)

abbrev packets_in : List UnitValue → List (List ℕ)
packets_in units = map (λ (u : UnitValue). u.packet) units

packet_eq : (u : UnitValue) (b : List ℕ) → IsTeletextUnit u b → teletext_packet_of_unit b ≡ u.packet
    ∷ []
packet_eq u b h = rw (
  h.bytes,
  teletext_id u.id h.is_unit.id.0 h.is_unit.id.1,
  mirroring_twice_restores_bytes u.packet h.is_unit.packet.bytes,
) refl

unit_eq : (u : Option UnitValue) (b : List ℕ)
    → IsDataUnit u b
    → teletext_packet_of_unit b ≡ packets_in (option_to_list u)
unit_eq (Some u) b h = packet_eq u b h
unit_eq None b h = rw (h.bytes, h.other) refl

chunks_are_data_units : (n : ℕ) (units : List UnitValue) (b : List ℕ)
    → AreDataUnits n units b
    → flat_map teletext_packet_of_unit (chunks_of_size 46 b) ≡ packets_in units
chunks_are_data_units zero units b h = rw (h.0, h.1) refl
chunks_are_data_units (suc n) units b (
  u,
  others,
  first,
  rest,
  held,
  after,
  units_are_so,
  b_is,
) =
    let size = (valid_unit_decodes u first held).1 in
    rw (
      b_is,
      chunks_of_cons 46 first rest size (omega (arith, length-append first rest, size)),
      unit_eq u first held,
      chunks_are_data_units n others rest after,
      units_are_so,
    ) (sym (map-append (λ (u : UnitValue). u.packet) (option_to_list u) others))

size_eq : (n : ℕ) (more : List ℕ) → 1 ≤ n → n ≤ 9 → size_of_first_packet (first_six_bytes n ++ more)
    ≡ 184 * n
size_eq n more low high = grind (arith, nat_tests)

encoded_pts_is_decoded : (t : ℕ)
    → t < 2 ^ 33
    → (0x21 + 2 * (t / 2 ^ 30)) / 2 % 8 * 2 ^ 30
    + (t / 2 ^ 22) % 0x100 * 2 ^ 22
    + (1 + 2 * ((t / 2 ^ 15) % 0x80)) / 2 * 2 ^ 15
    + (t / 2 ^ 7) % 0x100 * 2 ^ 7
    + (1 + 2 * (t % 0x80)) / 2
    ≡ t
encoded_pts_is_decoded t fits = omega arith

module _ (v : PesValue) (p : List ℕ) (h : IsValidPesPacket v p) where
  long : length p ≡ 184 * h.n
  long = ap length (packet_is_header_and_body v p h) ∙ omega (
    arith,
    (valid_body_decodes v p h).1,
    h.size.0,
  )

  packet_bytes_give_size : (rest : List ℕ) → size_of_first_packet (p ++ rest) ≡ length p
  packet_bytes_give_size rest =
      ap (λ (b : List ℕ). size_of_first_packet (b ++ rest)) (packet_is_header_and_body v p h)
      ∙ ap size_of_first_packet (append_assoc (first_six_bytes h.n) (body_of_valid_packet v p h)
      rest)
      ∙ size_eq h.n (body_of_valid_packet v p h ++ rest) h.size.0 h.size.1
      ∙ sym long

  packet_bytes_give_pts : pts_of_packet p ≡ v.pts
  packet_bytes_give_pts = ap pts_of_packet h.bytes ∙ encoded_pts_is_decoded v.pts h.pts_fits

  data_units_begin_at_46 : drop 46 p ≡ h.data_units
  data_units_begin_at_46 =
      ap (drop 46) h.bytes
      ∙ ap (drop 32) (sym (append_assoc h.header_stuffing (h.data_identifier ∷ []) h.data_units))
      ∙ drop_at (h.header_stuffing ++ h.data_identifier ∷ []) h.data_units 32
      (length-append h.header_stuffing (h.data_identifier ∷ []) ∙ omega
      (arith, h.header_stuffing_length_is_31))

abbrev sent_frame_with : ℕ → List (List ℕ) → SentFrame
sent_frame_with frame packets = record { frame = frame; packets = packets }

pts_gives_frame_number : (origin frame : ℕ)
    → origin < 2 ^ 33
    → frame < 2160000
    → ((origin + 3600 * frame) % 2 ^ 33 + (2 ^ 33 - origin)) % 2 ^ 33 / 3600 ≡ frame
pts_gives_frame_number origin frame fits in_day = omega arith

frame_eq : (origin : ℕ) (v : PesValue) (p : List ℕ) (s : SentFrame)
    → origin < 2 ^ 33
    → IsValidPesPacket v p
    → IsSentAs origin v s
    → frame_of_pes_packet origin p ≡ s
frame_eq origin v p s fits h sent =
    ap
    (λ (n : ℕ). sent_frame_with n
    (flat_map teletext_packet_of_unit (chunks_of_size 46 (drop 46 p))))
    (ap (λ (t : ℕ). (t + (2 ^ 33 - origin)) % 2 ^ 33 / 3600) (packet_bytes_give_pts v p h ∙
    sent.pts)
    ∙ pts_gives_frame_number origin s.frame fits sent.in_day)
    ∙ ap (sent_frame_with s.frame)
    (ap (λ (b : List ℕ). flat_map teletext_packet_of_unit (chunks_of_size 46 b))
    (data_units_begin_at_46 v p h)
    ∙ chunks_are_data_units (4 * h.n - 1) v.units h.data_units h.are_valid_units
    ∙ sym sent.packets)

first_packet_is_split_off : (most : ℕ) (p rest : List ℕ)
    → 0 < length p
    → size_of_first_packet (p ++ rest) ≡ length p
    → packets_by_size (suc most) (p ++ rest) ≡ p ∷ packets_by_size most rest
first_packet_is_split_off most [] rest some is = absurd (omega arith)
first_packet_is_split_off most (x ∷ p) rest some is =
    rw (is, take_at p rest (length p) refl, drop_at p rest (length p) refl) refl

reading_gives_nothing : (origin most : ℕ) → map (frame_of_pes_packet origin)
    (packets_by_size most []) ≡ []
reading_gives_nothing origin zero = refl
reading_gives_nothing origin (suc most) = refl

packets_give_frames : (origin most : ℕ) (values : List PesValue) (packets : List (List ℕ))
    (t : Transmission)
    → origin < 2 ^ 33
    → AllZip IsValidPesPacket values packets
    → AllZip (IsSentAs origin) values t
    → length (concat packets) ≤ most
    → map (frame_of_pes_packet origin) (packets_by_size most (concat packets)) ≡ t
packets_give_frames origin most [] [] [] fits each sent few = reading_gives_nothing origin most
packets_give_frames origin most [] [] (s ∷ t) fits each sent few = absurd sent
packets_give_frames origin most [] (p ∷ packets) t fits each sent few = absurd each
packets_give_frames origin most (v ∷ values) [] t fits each sent few = absurd each
packets_give_frames origin most (v ∷ values) (p ∷ packets) [] fits each sent few = absurd sent
packets_give_frames origin zero (v ∷ values) (p ∷ packets) (s ∷ t) fits each sent few =
    absurd
    (omega (arith, few, length-append p (concat packets), long v p each.0, each.0.size.0))
packets_give_frames origin (suc most) (v ∷ values) (p ∷ packets) (s ∷ t) fits each sent few =
    let some : 0 < length p = omega (arith, long v p each.0, each.0.size.0) in
    let left : length (concat packets) ≤ most =
    omega (arith, few, length-append p (concat packets), some) in
    rw (
      first_packet_is_split_off most p (concat packets) some (packet_bytes_give_size v p each.0
          (concat packets)),
      frame_eq origin v p s fits each.0 sent.0,
      packets_give_frames origin most values packets t fits each.1 sent.1 left,
    ) refl

pub bytes_give_transmission : (origin : ℕ) (bytes : List ℕ) (t : Transmission)
    → origin < 2 ^ 33
    → Carries origin bytes t
    → frames_by_place origin bytes ≡ t
bytes_give_transmission origin bytes t fits c =
    ap (frames_by_place origin) c.joined
    ∙ packets_give_frames origin (length (concat c.packets)) c.values c.packets t fits c.each c.sent
    (omega arith)
