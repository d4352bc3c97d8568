-- Teletext units are found by their offsets in the data field.
use Rattle.std.proofs.lemmas.Bool.Decides.{nat_tests}
use Rattle.std.proofs.Common.{◌≡◌, ℕ, ◌+◌, ◌-◌, ◌*◌, ◌<◌, List, [], ◌∷◌, ◌++◌}
use Rattle.std.proofs.Common.{length, take, drop, get_or, map, refl, sym, ap, subst, ◌∙◌, arith}
use Rattle.std.specs.List.{AllByRecursion}
use Rattle.std.proofs.lemmas.List.{drop-drop, map-append, get_or-map, length-map}
use Rattle.std.proofs.lemmas.List.Elements.{All-from_recursion, All-push}
use Rattle.ttx_packet.specs.BitOrder.{mirror}
use Rattle.sub_io.specs.Reading.{◌>>=◌}
use Rattle.ttx_pes.specs.DataUnit.{IsUnit, UnitValue}
use Rattle.ttx_pes.specs.Reading.{teletext_at, unit_at, unit_of, units_at, with_unit}
use Rattle.ttx_pes.specs.SentUnits.{sent_units}
use Rattle.ttx_pes.proofs.DataUnitLemmas.{decode_units_unfolds, no_units_left_to_decode}
use Rattle.ttx_pes.proofs.DataUnitHeaderLemmas.{places_extend_by_unit, no_places_left}
use Rattle.ttx_pes.proofs.LineOrderLemmas.{last_place-push}

pub sent_units-push : (field places : List ℕ) (at : ℕ)
    → sent_units field (places ++ at ∷ [])
    ≡ sent_units field places ++ unit_of (take 46 (drop at field)) ∷ []
sent_units-push field places at = grind (arith, nat_tests, map-append)

pub unit_at-unit : (units : List UnitValue) (b : List ℕ)
    → unit_at units b ≡ (teletext_at b >>= λ unit. with_unit units unit)
unfolding unit_at
unit_at-unit units b = refl

pub ruleset one_more = (unit_at-unit, sent_units-push, last_place-push, All-push)

pub place_search_unfolds : (count k : ℕ) (units : List UnitValue) (field : List ℕ)
    → k < count
    → units_at (count - k) units (drop (1 + 46 * k) field)
    ≡ (unit_at units (take 46 (drop (1 + 46 * k) field)) >>= λ more.
    units_at (count - (k + 1)) more (drop (1 + 46 * (k + 1)) field))
place_search_unfolds count k units field l =
    let following : drop 46 (drop (1 + 46 * k) field) ≡ drop (1 + 46 * (k + 1)) field =
    drop-drop 46 (1 + 46 * k) field ∙ ap (λ n. drop n field) (omega arith) in
    decode_units_unfolds count k units (drop (1 + 46 * k) field) l
    ∙ ap (λ rest. unit_at units (take 46 (drop (1 + 46 * k) field)) >>= λ more.
    units_at (count - (k + 1)) more rest) following

pub ruleset places_left = (
  place_search_unfolds,
  no_units_left_to_decode,
  places_extend_by_unit,
  no_places_left,
)

pub each_unit_has_place : (field places : List ℕ) (units : List UnitValue) (k : ℕ)
    → sent_units field places ≡ units
    → k < length units
    → k < length places
each_unit_has_place field places units k h1 h2 = grind (arith, nat_tests, length-map)

module _ (field places : List ℕ) (k : ℕ) (l : k < length places) where
  pub unit_at_place : (other : UnitValue)
      → get_or (sent_units field places) k other
      ≡ unit_of (take 46 (drop (get_or places k 0) field))
  unit_at_place other =
      get_or-map (λ at. unit_of (take 46 (drop at field))) places k 0 other l

  pub packet_at_place : (block : List ℕ)
      → block ≡ drop 4 (take 46 (drop (get_or places k 0) field))
      → map mirror block
      ≡ get_or (map (λ (u : UnitValue). u.packet) (sent_units field places)) k []
  packet_at_place block is =
      let many : k < length (sent_units field places) =
      omega (arith, length-map places (λ at. unit_of (take 46 (drop at field)))) in
      ap (map mirror) is
      ∙ ap (λ (u : UnitValue). u.packet) (sym (unit_at_place (unit_of [])))
      ∙ sym (get_or-map (λ (u : UnitValue). u.packet) (sent_units field places) k (unit_of []) []
      many)

  pub is_unit_at_place : AllByRecursion IsUnit (sent_units field places)
      → IsUnit (unit_of (take 46 (drop (get_or places k 0) field)))
  is_unit_at_place all =
      let many : k < length (sent_units field places) =
      omega (arith, length-map places (λ at. unit_of (take 46 (drop at field)))) in
      subst IsUnit (unit_at_place (unit_of []))
      (All-from_recursion IsUnit (sent_units field places) all k (unit_of []) many)
