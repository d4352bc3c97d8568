-- A data unit can be parsed exactly if it matches the grammar.
use Rattle.std.proofs.Common.{rules, ◌≡◌, ℕ, zero, suc, ◌+◌, ◌-◌, ◌*◌, ◌/◌, ◌%◌, ◌<◌, ◌≤◌, true}
use Rattle.std.proofs.Common.{cond, eqb, List, [], ◌∷◌, ◌++◌, length, take, get_or, drop, map}
use Rattle.std.proofs.Common.{Option, Some, Ok, refl, sym, ap, ◌∙◌, append_assoc, arith, inl, inr}
use Rattle.std.proofs.Common.{length-append, length-take, length-drop}
use Rattle.std.proofs.Math.Seq.{drop-cons}
use Rattle.std.proofs.lemmas.Bool.{cases_Bool, cases_lt}
use Rattle.std.proofs.lemmas.Bool.Decides.{nat_tests}
use Rattle.std.proofs.lemmas.List.{length-map, take_at, drop_at, take-append-drop, get_or-take}
use Rattle.std.proofs.lemmas.List.{get_or-drop, get_or_past, append-nil, nil_from_length}
use Rattle.std.specs.Option.{option_to_list}
use Rattle.sub_io.specs.Reading.{◌>>=◌, AreBytes}
use Rattle.ttx_packet.specs.BitOrder.{mirror}
use Rattle.ttx_pes.specs.DataUnit.{UnitValue, is_teletext, IsDataUnit, AreDataUnits}
use Rattle.ttx_pes.specs.LineOrder.{last_place, AreInLineOrder}
use Rattle.ttx_pes.specs.Reading.{unit_of, with_unit, teletext_at, unit_at, units_at}
use Rattle.ttx_packet.proofs.BitOrderLemmas.{mirror-mirror}
use Rattle.ttx_pes.proofs.LineOrderLemmas.{last_place-push}
use Rattle.sub_io.proofs.ReadingLemmas.{ok_chain_has_value, Ok-injective, ok_result}

pub AreBytes-take : (n : ℕ) (b : List ℕ) → AreBytes b → AreBytes (take n b)
AreBytes-take n b h i = grind (arith, nat_tests, cases_lt, get_or-take, get_or_past, length-take)

pub AreBytes-drop : (n : ℕ) (b : List ℕ) → AreBytes b → AreBytes (drop n b)
AreBytes-drop n b h i = rw get_or-drop (h (n + i))

abbrev pub bytes_from_index : ℕ → ℕ → List ℕ → List ℕ
bytes_from_index zero i b = drop i b
bytes_from_index (suc n) i b = get_or b i 0 ∷ bytes_from_index n (suc i) b

pub suffix_lists_its_bytes : (n i : ℕ) (b : List ℕ) → i + n ≤ length b → drop i b ≡ bytes_from_index
    n i b
suffix_lists_its_bytes zero i b le = grind (arith, nat_tests)
suffix_lists_its_bytes (suc n) i b le =
    grind (arith, nat_tests, drop-cons, (suffix_lists_its_bytes n (suc i) b (omega arith)))

pub mirrored_byte_is_byte : (b : ℕ) → b < 256 → mirror b < 256
unfolding mirror
mirrored_byte_is_byte b lt = omega arith

pub mirroring_twice_restores_bytes : (p : List ℕ) → AreBytes p → map mirror (map mirror p) ≡ p
mirroring_twice_restores_bytes [] h = refl
mirroring_twice_restores_bytes (x ∷ p) h =
    let first = mirror-mirror x (h 0) in
    let others = mirroring_twice_restores_bytes p (λ i. h (suc i)) in
    rw (first, others) refl

pub mirrored_bytes_are_bytes : (p : List ℕ) → AreBytes p → AreBytes (map mirror p)
mirrored_bytes_are_bytes [] h i = omega arith
mirrored_bytes_are_bytes (x ∷ p) h zero = mirrored_byte_is_byte x (h 0)
mirrored_bytes_are_bytes (x ∷ p) h (suc i) = mirrored_bytes_are_bytes p (λ k. h (suc k)) i

pub teletext_id_bounds : (id : ℕ) → is_teletext id ≡ true → (2 ≤ id) × (id ≤ 3)
teletext_id_bounds id e = grind (arith, nat_tests)

field_bit_decodes_and_encodes : (b : ℕ)
    → b < 256
    → (64 * (b / 64) + 32 * (2 - cond (eqb ((b / 32) % 2) 1) 1 2) + b % 32 ≡ b)
    × (1 ≤ cond (eqb ((b / 32) % 2) 1) 1 2) × (cond (eqb ((b / 32) % 2) 1) 1 2 ≤ 2)
field_bit_decodes_and_encodes b lt = grind (arith, nat_tests)

-- A data unit that can be parsed matches the grammar.
pub decoded_unit_is_valid : (b : List ℕ) (u : Option UnitValue)
    → length b ≡ 46
    → AreBytes b
    → teletext_at b ≡ Ok u
    → IsDataUnit u b
unfolding teletext_at
decoded_unit_is_valid b u len fit e = elim (cases_Bool (is_teletext (get_or b 0 0))) [
  | inr skipped ↦ grind (arith, nat_tests, suffix_lists_its_bytes, length-drop)
  | inl buffered ↦
      let read : (get_or b 1 0 ≡ 44) × (get_or b 3 0 ≡ 228) × (Some (unit_of b) ≡ u) =
      grind (arith, nat_tests) in
      let third = field_bit_decodes_and_encodes (get_or b 2 0) (fit 2) in
      let fits = AreBytes-drop 4 b fit in
      rw (← read.2) (record {
        reserved = get_or b 2 0 / 64;
        reserved_fits_two_bits = let l = fit 2 in omega arith;
        bytes = grind (arith, nat_tests, suffix_lists_its_bytes, mirroring_twice_restores_bytes);
        is_unit = grind (
          arith,
          nat_tests,
          teletext_id_bounds,
          length-map,
          length-drop,
          mirrored_bytes_are_bytes,
        );
      })
]

bounded_id_is_teletext : (id : ℕ) → 2 ≤ id → id ≤ 3 → is_teletext id ≡ true
bounded_id_is_teletext id lo hi = grind (arith, nat_tests)

encoded_field_decodes : (reserved field line : ℕ)
    → 1 ≤ field
    → field ≤ 2
    → line < 32
    → cond (eqb (((64 * reserved + 32 * (2 - field) + line) / 32) % 2) 1) 1 2 ≡ field
encoded_field_decodes reserved field line lo hi lt = grind (arith, nat_tests)

-- A data unit that matches the grammar can be parsed.
pub valid_unit_decodes : (u : Option UnitValue) (b : List ℕ)
    → IsDataUnit u b
    → (teletext_at b ≡ Ok u) × (length b ≡ 46)
unfolding teletext_at
valid_unit_decodes u b h =
    grind (
      arith,
      nat_tests,
      bounded_id_is_teletext,
      encoded_field_decodes,
      mirroring_twice_restores_bytes,
      length-map,
    )

-- A data unit appends its Teletext unit, if it has one, to the units read so far, and keeps them in
-- line order.
pub record AppendsUnit (prefix us : List UnitValue) (u : Option UnitValue) : Type 0 where
  pub is : us ≡ prefix ++ option_to_list u
  pub rises : (more : List UnitValue) → AreInLineOrder (last_place 0 us) more
      → AreInLineOrder (last_place 0 prefix) (option_to_list u ++ more)

accepted_unit_is_appended : (prefix us : List UnitValue) (u : Option UnitValue)
    → with_unit prefix u ≡ Ok us
    → AppendsUnit prefix us u
accepted_unit_is_appended prefix us u e = grind (
  arith,
  nat_tests,
  Ok-injective,
  append-nil,
  last_place-push,
)

-- If n data units can be parsed, they match the grammar, and their Teletext units are in line
-- order.
pub decoded_units_are_valid : (n : ℕ) (prefix us : List UnitValue) (b : List ℕ)
    → length b ≡ 46 * n
    → AreBytes b
    → units_at n prefix b ≡ Ok us
    → (more : List UnitValue) × (us ≡ prefix ++ more) × AreDataUnits n more b
    × AreInLineOrder (last_place 0 prefix) more
unfolding units_at unit_at
decoded_units_are_valid zero prefix us b len fit e = search (
  rules,
  Ok-injective,
  append-nil,
  nil_from_length,
)
decoded_units_are_valid (suc n) prefix us b len fit e =
    let p = ok_chain_has_value (unit_at prefix (take 46 b)) (λ x. units_at n x (drop 46 b)) us e in
    let q = ok_chain_has_value (teletext_at (take 46 b)) (with_unit prefix) p.0 p.1 in
    let long : length (take 46 b) ≡ 46 = length-take 46 b ∙ omega arith in
    let buffered = decoded_unit_is_valid (take 46 b) q.0 long (AreBytes-take 46 b fit) q.1 in
    let adds = accepted_unit_is_appended prefix p.0 q.0 q.2 in
    let rest : length (drop 46 b) ≡ 46 * n = length-drop 46 b ∙ omega arith in
    let r = decoded_units_are_valid n p.0 us (drop 46 b) rest (AreBytes-drop 46 b fit) p.2 in (
      option_to_list q.0 ++ r.0,
      r.1 ∙ ap (λ (x : List UnitValue). x ++ r.0) adds.is
          ∙ append_assoc prefix (option_to_list q.0) r.0,
      (q.0, r.0, take 46 b, drop 46 b, buffered, r.2, refl, sym (take-append-drop 46 b)),
      adds.rises r.0 r.3,
    )

ordered_unit_is_accepted : (prefix others : List UnitValue) (u : Option UnitValue)
    → AreInLineOrder (last_place 0 prefix) (option_to_list u ++ others)
    → (with_unit prefix u ≡ Ok (prefix ++ option_to_list u))
    × AreInLineOrder (last_place 0 (prefix ++ option_to_list u)) others
ordered_unit_is_accepted prefix others u r = grind (arith, nat_tests, append-nil, last_place-push)

-- If n data units match the grammar and their Teletext units are in line order, they can be parsed.
pub valid_units_decode : (n : ℕ) (prefix more : List UnitValue) (b : List ℕ)
    → AreDataUnits n more b
    → AreInLineOrder (last_place 0 prefix) more
    → (units_at n prefix b ≡ Ok (prefix ++ more)) × (length b ≡ 46 * n)
unfolding units_at unit_at
valid_units_decode zero prefix more b h r = rw (h.0, h.1, append-nil prefix) (refl, refl)
valid_units_decode (suc n) prefix more b (u, others, first, rest, buffered, after, us-is, b-is) r =
    let c = valid_unit_decodes u first buffered in
    let prefix-is : take 46 b ≡ first = ap (take 46) b-is ∙ take_at first rest 46 c.1 in
    let back-is : drop 46 b ≡ rest = ap (drop 46) b-is ∙ drop_at first rest 46 c.1 in
    let rises : AreInLineOrder (last_place 0 prefix) (option_to_list u ++ others) = search rules in
    let t = ordered_unit_is_accepted prefix others u rises in
    let i = valid_units_decode n (prefix ++ option_to_list u) others rest after t.1 in
    grind (arith, nat_tests, ok_result, append_assoc, length-append)

pub decode_units_unfolds : (count i : ℕ) (prefix : List UnitValue) (b : List ℕ)
    → i < count
    → units_at (count - i) prefix b
    ≡ (unit_at prefix (take 46 b) >>= λ units. units_at (count - (i + 1)) units (drop 46 b))
unfolding units_at
decode_units_unfolds count i prefix b lt = grind (arith, nat_tests)

pub no_units_left_to_decode : (count i : ℕ) (prefix : List UnitValue) (b : List ℕ)
    → count ≤ i
    → units_at (count - i) prefix b ≡ Ok prefix
unfolding units_at
no_units_left_to_decode count i prefix b le = grind (arith, nat_tests)

pub ruleset units_left = (decode_units_unfolds, no_units_left_to_decode)
