-- If a sequence of reading steps returns a value, each step returns a value.
use Rattle.std.proofs.Common.{◌≡◌, Result, Ok, Err, refl}
use Rattle.sub_io.specs.Reading.{◌>>=◌}

pub ok_chain_has_value : {A B E : Type 0} (r : Result A E) (f : A → Result B E) (y : B)
    → (r >>= f) ≡ Ok y
    → (x : A) × (r ≡ Ok x) × (f x ≡ Ok y)
ok_chain_has_value (Ok x) f y e = (x, refl, e)
ok_chain_has_value (Err fault) f y e = absurd cc

pub Ok-injective : {A E : Type 0} (x y : A) → ◌≡◌ {A = Result A E} (Ok x) (Ok y) → x ≡ y
Ok-injective x y e = cc

abbrev pub ok_result : {A : Type 0} (E : Type 0) → A → Result A E
ok_result E x = Ok x
