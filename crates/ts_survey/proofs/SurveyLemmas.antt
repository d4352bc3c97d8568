-- The output of a survey is appended to the sink, in several writes.
use Rattle.std.proofs.Common.{ℕ, List, [], ◌++◌, Option, Some, None, sym}
use Rattle.std.proofs.Common.{append-nil}
use Rattle.std.proofs.KnownBytes.{Appends-trans}
use Rattle.ts_survey.specs.Survey.{AppendsSomeText}

pub grows-none : (old : Option (List ℕ)) → AppendsSomeText old old
grows-none None = ([], tt)
grows-none (Some xs) = ([], sym (append-nil xs))

pub grows-more : (old mid new : Option (List ℕ)) → AppendsSomeText old mid → AppendsSomeText mid new
    → AppendsSomeText old new
grows-more old mid new one more =
    (one.0 ++ more.0, Appends-trans old mid new one.0 more.0 one.1 more.1)

pub ruleset growing = (grows-none, grows-more)
