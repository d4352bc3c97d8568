-- If the arguments from the system's iterator can be collected, the collected list has all of them,
-- in order.
use Rattle.std.proofs.Common.{◌≡◌, List, Ok, refl, sym}
use Rattle.std.proofs.lemmas.Iterator.{items_from_collect}
use Rattle.std.proofs.lemmas.Iterator.Adapters.{YieldsList-from_vec}
use Rattle.std.specs.Prelude.{⊤, Vec, length, vec_len}
use Rattle.std.specs.Iterator.{DrainsIf}
use Rattle.std.specs.Vec.Iter.{into_iter_items, into_iter_steps}
use Rattle.std.specs.declared.alloc.AllocError.{AllocError}
use Rattle.std.specs.declared.vec.IntoIter.{IntoIter}

pub collecting_keeps_items : {X Z : Type 0} (s : IntoIter X Z) (v : Vec X Z)
    → (xs : List X) × DrainsIf into_iter_steps ⊤ s xs × ((v.items ≡ xs) × (vec_len v ≡ length xs))
    → into_iter_items s ≡ v.items
collecting_keeps_items s v ran =
    sym (items_from_collect {E = AllocError} (Ok v) ran (YieldsList-from_vec _ refl s.rest.ok.0))
