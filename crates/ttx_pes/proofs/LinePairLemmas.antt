-- Units are in line order exactly if, for any two units with a defined line, the later unit has the
-- later line.
use Rattle.std.proofs.Common.{◌≡◌, ◌≢◌, ℕ, suc, ◌<◌, true, false, eqb, ltb, List, [], ◌∷◌, refl}
use Rattle.std.proofs.Common.{arith, inl, inr, eq-eqb}
use Rattle.std.proofs.lemmas.Bool.Decides.{nat_tests}
use Rattle.std.proofs.lemmas.Bool.{cases_eq, ne_eqb, lt-ltb, ltb-true}
use Rattle.std.proofs.lemmas.List.Elements.{All-cons}
use Rattle.std.proofs.lemmas.List.Kept.{AllPairs-cons}
use Rattle.std.specs.List.{All, AllPairs}
use Rattle.ttx_pes.specs.DataUnit.{UnitValue}
use Rattle.ttx_pes.specs.Laws.{LawOfLineOrder}
use Rattle.ttx_pes.specs.LineOrder.{line_order_place, AreInLineOrder, PrecedesInLineOrder}

abbrev ComesAfterPlace : ℕ → UnitValue → Type 0
ComesAfterPlace before u = u.line ≢ 0 → before < line_order_place u

-- If units are in line order after the position `before`, each unit with a defined line comes after
-- `before` and after all earlier units with a defined line.
line_order_gives_pairs : (before : ℕ) (us : List UnitValue)
    → AreInLineOrder before us
    → All (ComesAfterPlace before) us × AllPairs PrecedesInLineOrder us
line_order_gives_pairs before [] h = (
  λ k d l. absurd (omega arith),
  λ i j d l m. absurd
      (omega arith),
)
line_order_gives_pairs before (u ∷ us) h = elim (cases_eq u.line 0) [
  | inl none ↦
      let t : eqb u.line 0 ≡ true = eq-eqb u.line 0 none in
      let order : AreInLineOrder before us = rw t at h.1 in
      let rest = line_order_gives_pairs before us order in (
        All-cons (ComesAfterPlace before) u us (λ some. absurd (some none)) rest.0,
        AllPairs-cons PrecedesInLineOrder u us (λ k d l some more. absurd (some none)) rest.1,
      )
  | inr some ↦
      let t : eqb u.line 0 ≡ false = ne_eqb u.line 0 some in
      let order : AreInLineOrder (line_order_place u) us = rw t at h.1 in
      let past : ltb before (line_order_place u) ≡ true = rw t at h.0 in
      let here : before < line_order_place u = ltb-true before (line_order_place u) past in
      let rest = line_order_gives_pairs (line_order_place u) us order in (
        All-cons (ComesAfterPlace before) u us (λ _. here)
            (λ k d l more. let there = rest.0 k d l more in omega arith),
        AllPairs-cons PrecedesInLineOrder u us (λ k d l _ more. rest.0 k d l more) rest.1,
      )
]

pairs_give_line_order : (before : ℕ) (us : List UnitValue)
    → All (ComesAfterPlace before) us
    → AllPairs PrecedesInLineOrder us
    → AreInLineOrder before us
pairs_give_line_order before [] all pairs = tt
pairs_give_line_order before (u ∷ us) all pairs = elim (cases_eq u.line 0) [
  | inl none ↦
      let t : eqb u.line 0 ≡ true = eq-eqb u.line 0 none in
      let rest = pairs_give_line_order before us (λ k d l. all (suc k) d (omega arith))
      (λ i j d l m. pairs (suc i) (suc j) d (omega arith) (omega arith)) in
      rw t (refl, rest)
  | inr some ↦
      let t : eqb u.line 0 ≡ false = ne_eqb u.line 0 some in
      let here : before < line_order_place u = all 0 u (omega arith) some in
      let past : ltb before (line_order_place u) ≡ true = grind (arith, nat_tests, lt-ltb) in
      let rest = pairs_give_line_order (line_order_place u) us
      (λ k d l more. pairs 0 (suc k) d (omega arith) (omega arith) some more)
      (λ i j d l m. pairs (suc i) (suc j) d (omega arith) (omega arith)) in
      rw (t, past) (refl, rest)
]

pub line_order_is_pairwise : LawOfLineOrder
line_order_is_pairwise us = (
  λ h. (line_order_gives_pairs 0 us h).1,
  λ pairs. pairs_give_line_order 0 us (λ k d l some. omega arith) pairs,
)
