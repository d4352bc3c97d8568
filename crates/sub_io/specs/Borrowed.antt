-- The bytes that can be borrowed from a source: its buffered bytes, which it returns next. Pulling
-- them does not call the underlying device, so it neither blocks nor fails.
use Rattle.std.specs.Prelude.{◌≡◌, ◌≢◌, ℕ, List, [], ◌++◌, length, take, Result, MatchResult}

-- The borrowed bytes of a source from which no bytes can be borrowed.
abbrev pub no_borrowed_bytes : {D : Type 0} → D → List ℕ
no_borrowed_bytes device = []

-- If bytes can be borrowed from the source, a pull does not fail and returns a prefix of these
-- bytes, possibly empty. The others can be borrowed after it.
abbrev pub PullsBorrowed : {E : Type 0} → List ℕ → List ℕ → List ℕ → Result ℕ E → Type 0
PullsBorrowed old new buffer result =
    old ≢ [] → MatchResult result (λ n. old ≡ take n buffer ++ new) (λ _. ⊥)

-- The borrowed bytes begin with `bytes`.
abbrev pub AreBorrowedPrefix : List ℕ → List ℕ → Type 0
AreBorrowedPrefix bytes borrowed = take (length bytes) borrowed ≡ bytes
