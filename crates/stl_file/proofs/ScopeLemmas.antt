-- In the scope of the whole day, no subtitle is outside the scope.
use Rattle.std.proofs.Common.{◌≡◌, ℕ, false, List, [], ◌∷◌, refl, ap, arith}
use Rattle.std.proofs.lemmas.Bool.Decides.{nat_tests}
use Rattle.std.specs.Prelude.{filter}
use Rattle.stl_file.specs.Scope.{begins_outside, is_inside, is_outside, whole}
use Rattle.stl_file.specs.Tti.{tci}
use Rattle.stl_file.proofs.TimeCodeLemmas.{in_day}

pub no_block_is_outside_day : (b : List ℕ) → begins_outside whole b ≡ false
unfolding begins_outside
no_block_is_outside_day b = grind (arith, nat_tests, in_day (tci b))

pub whole_scope_keeps_all_groups : (gs : List (List (List ℕ))) → filter (is_inside whole) gs ≡ gs
whole_scope_keeps_all_groups [] = refl
whole_scope_keeps_all_groups ([] ∷ gs) = ap (λ (l : List (List (List ℕ))). [] ∷ l)
    (whole_scope_keeps_all_groups gs)
whole_scope_keeps_all_groups ((b ∷ others) ∷ gs) =
    rw (no_block_is_outside_day b) (ap (λ (l : List (List (List ℕ))). (b ∷ others) ∷ l)
    (whole_scope_keeps_all_groups gs))

pub whole_scope_drops_no_group : (gs : List (List (List ℕ))) → filter (is_outside whole) gs ≡ []
whole_scope_drops_no_group [] = refl
whole_scope_drops_no_group ([] ∷ gs) = whole_scope_drops_no_group gs
whole_scope_drops_no_group ((b ∷ others) ∷ gs) = rw (no_block_is_outside_day b)
    (whole_scope_drops_no_group gs)
