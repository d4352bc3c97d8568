use Rattle.std.proofs.Common.{◌≡◌, ℕ, ◌<◌, [], slice_index_or}
use Rattle.ttx_page.proofs.page.Page.first_difference.Given as goal

-- In each iteration of `first_difference`, the first i rows of both pages are equal.
abbrev pub invariant-loop-i : goal.invariant-loop-i
invariant-loop-i l =
    (k : ℕ)
    → k < l.i
    → slice_index_or l.self-inside.rows k [] ≡ slice_index_or l.other-inside.rows k []
