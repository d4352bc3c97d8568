-- The numbered Teletext packets of a frame are in line order.
use Rattle.std.proofs.Common.{rules, ◌≡◌, ℕ, ◌+◌, ◌<◌, ◌≤◌, true, false, cond, eqb, ltb, List, []}
use Rattle.std.proofs.Common.{◌∷◌, ◌++◌, length, get_or, drop, map, refl, append_assoc, arith}
use Rattle.std.proofs.lemmas.Bool.{lt-ltb}
use Rattle.std.proofs.lemmas.Bool.Decides.{nat_tests}
use Rattle.std.proofs.lemmas.List.{drop_more}
use Rattle.std.specs.List.{AllByRecursion}
use Rattle.ttx_packet.specs.PacketAddress.{IsPacket}
use Rattle.ttx_pes.specs.DataUnit.{UnitValue, IsUnit}
use Rattle.ttx_pes.specs.Laws.{LawOfNumberedFrame}
use Rattle.ttx_pes.specs.LineOrder.{line_order_place, last_place, may_follow, AreInLineOrder}
use Rattle.ttx_pes.specs.LineOrder.{numbered_units, numbered_unit, numbered_place}

pub last_place-push : (last : ℕ) (us : List UnitValue) (u : UnitValue)
    → last_place last (us ++ u ∷ []) ≡ cond (eqb u.line 0) (last_place last us) (line_order_place u)
last_place-push last [] u = refl
last_place-push last (t ∷ us) u =
    last_place-push (cond (eqb t.line 0) last (line_order_place t)) us u

pub AreInLineOrder-push : (last : ℕ) (us : List UnitValue) (u : UnitValue)
    → AreInLineOrder last us
    → may_follow (last_place last us) u ≡ true
    → AreInLineOrder last (us ++ u ∷ [])
AreInLineOrder-push last [] u h e = (e, tt)
AreInLineOrder-push last (t ∷ us) u h e =
    (h.0, AreInLineOrder-push (cond (eqb t.line 0) last (line_order_place t)) us u h.1 e)

pub units-push : (us : List UnitValue) (u : UnitValue)
    → AllByRecursion IsUnit us
    → IsUnit u
    → AllByRecursion IsUnit (us ++ u ∷ [])
units-push [] u h w = (w, tt)
units-push (t ∷ us) u h w = (h.0, units-push us u h.1 w)

pub ruleset order = (last_place-push, AreInLineOrder-push, units-push)

numbered_place_increases : (i : ℕ) → numbered_place i < numbered_place (i + 1)
numbered_place_increases i = grind (arith, nat_tests)

pub numbered_units_unfold : (i : ℕ) (ps : List (List ℕ)) (p : List ℕ) (us all : List UnitValue)
    → i < length ps
    → p ≡ get_or ps i p
    → us ++ numbered_units i (drop i ps) ≡ all
    → (us ++ numbered_unit i p ∷ []) ++ numbered_units (i + 1) (drop (i + 1) ps) ≡ all
numbered_units_unfold i ps p us all lt is e = grind (arith, nat_tests, append_assoc, drop_more)

-- If unit number i of a frame has a defined line, unit number i + 1 may follow it in line order.
pub numbered_unit_precedes_next_place : (i : ℕ) (u : UnitValue) (us : List UnitValue)
    → eqb u.line 0 ≡ false
    → line_order_place u ≡ numbered_place i
    → last_place 0 (us ++ u ∷ []) < numbered_place (i + 1)
numbered_unit_precedes_next_place i u us line at = grind (
  arith,
  nat_tests,
  last_place-push,
  numbered_place_increases,
)

packets-numbered_units : (i : ℕ) (ps : List (List ℕ))
    → map (λ (u : UnitValue). u.packet) (numbered_units i ps) ≡ ps
packets-numbered_units i [] = refl
packets-numbered_units i (p ∷ ps) = grind (arith, nat_tests, packets-numbered_units (i + 1) ps)

length-numbered_units : (i : ℕ) (ps : List (List ℕ)) → length (numbered_units i ps) ≡ length ps
length-numbered_units i [] = refl
length-numbered_units i (p ∷ ps) = grind (arith, nat_tests, length-numbered_units (i + 1) ps)

record IsNumbered (i : ℕ) (p : List ℕ) : Type 0 where
  pub unit : IsUnit (numbered_unit i p)
  pub line : eqb (numbered_unit i p).line 0 ≡ false
  pub place : line_order_place (numbered_unit i p) ≡ numbered_place i

packet_gives_numbered_unit : (i : ℕ) (p : List ℕ) → i < 32 → IsPacket p → IsNumbered i p
packet_gives_numbered_unit i p lt h = grind (arith, nat_tests)

numbered_units_are_valid : (i : ℕ) (ps : List (List ℕ)) → i + length ps ≤ 32 → AllByRecursion
    IsPacket ps
    → AllByRecursion IsUnit (numbered_units i ps)
numbered_units_are_valid i [] lt h = tt
numbered_units_are_valid i (p ∷ ps) lt h =
    let few : i + 1 + length ps ≤ 32 = omega arith in (
      (packet_gives_numbered_unit i p (omega arith) h.0).unit,
      numbered_units_are_valid (i + 1) ps
          few h.1,
    )

numbered_units_are_in_order : (i last : ℕ) (ps : List (List ℕ)) → i + length ps ≤ 32 →
    AllByRecursion IsPacket ps
    → last < numbered_place i
    → AreInLineOrder last (numbered_units i ps)
numbered_units_are_in_order i last [] few h lt = tt
numbered_units_are_in_order i last (p ∷ ps) few h lt =
    let one = packet_gives_numbered_unit i p (omega arith) h.0 in
    let unit_is_in_order : ltb last (line_order_place (numbered_unit i p)) ≡ true = search
    (rules, lt-ltb) in
    let next : i + 1 + length ps ≤ 32 = omega arith in
    let rises : line_order_place (numbered_unit i p) < numbered_place (i + 1) =
    rw one.place (numbered_place_increases i) in
    rw (one.line, unit_is_in_order) (
      refl,
      numbered_units_are_in_order (i + 1) (line_order_place (numbered_unit i p)) ps next h.1
          rises,
    )

-- The law of numbered frames: up to 32 Teletext packets and a PTS below 2^33 form a value that fits
-- in a `PesFrame`, and its units carry these packets.
pub numbered_frame_is_valid : LawOfNumberedFrame
numbered_frame_is_valid pts ps lt few h =
    search (
      rules,
      length-numbered_units,
      numbered_units_are_valid,
      numbered_units_are_in_order,
      packets-numbered_units,
    )
