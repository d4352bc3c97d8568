-- Which of two cells of a page comes first.
use Rattle.std.specs.Prelude.{ℕ, ◌==◌, ◌&&◌, ◌||◌, Option, Some, None, nat_le, nat_lt, Bool}
use Rattle.std.specs.Prelude.{if◌then◌else◌}

-- Cell a is cell b or comes before it, by row and then by column.
abbrev pub is_before_or_same : ℕ × ℕ → ℕ × ℕ → Bool
is_before_or_same a b = nat_lt a.0 b.0 || (a.0 == b.0 && nat_le a.1 b.1)

-- The first of two optional cells, by row and then by column; `None` if both are `None`.
abbrev pub earlier : Option (ℕ × ℕ) → Option (ℕ × ℕ) → Option (ℕ × ℕ)
earlier None other = other
earlier (Some a) None = Some a
earlier (Some a) (Some b) = if is_before_or_same a b then Some a else Some b
