-- If the first call of `fill` or `put_all` transfers bytes, the calls of that function are this
-- call and the calls for the bytes that remain.
use Rattle.std.proofs.Common.{◌≡◌, ℕ, ◌-◌, ◌<◌, Bool, List, ◌∷◌, length}
use Rattle.std.proofs.Common.{Option, Some, ◌+◌, arith, drop}
use Rattle.std.proofs.Common.{drop-drop, length-drop}
use Rattle.sub_io.specs.Calls.{FillsByPulls, PutsByPushes}

module _ {D : Type 0} (IsPull : D → ℕ → Option ℕ → D → Type 0) where
  pub fills-more : (old mid new : D) (borrowed room n left : ℕ) (ok : Bool)
      → IsPull old borrowed (Some n) mid
      → borrowed ≡ room
      → 0 < n
      → left ≡ room - n
      → FillsByPulls IsPull mid left ok new
      → FillsByPulls IsPull old room ok new
  fills-more old mid new borrowed room n left ok pull whole some is rest =
      let then = rw is at rest in
      record { given = n ∷ then.given; pulls = (mid, some, rw whole at pull, then.pulls) }

module _ {D : Type 0} (IsPush : D → List ℕ → Option ℕ → D → Type 0) where
  pub puts-more : (old mid new : D) (borrowed bytes : List ℕ) (n at : ℕ) (ok : Bool)
      → IsPush old borrowed (Some n) mid
      → borrowed ≡ drop at bytes
      → at < length bytes
      → PutsByPushes IsPush mid (drop (at + n) bytes) ok new
      → PutsByPushes IsPush old (drop at bytes) ok new
  puts-more old mid new borrowed bytes n at ok push whole some rest =
      let then = rw (← drop-drop n at bytes) at rest in
      let left = length-drop at bytes in
      record {
        taken = n ∷ then.taken;
        pushes = (mid, omega (arith, some, left), rw whole at push, then.pushes);
      }
