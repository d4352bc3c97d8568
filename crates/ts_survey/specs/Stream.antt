-- The effect of one call on a recording that is a transport stream.
use Rattle.std.specs.Prelude.{ℕ, Bool, true, false, List}
use Rattle.ts_survey.specs.Requested.{packet_keeps_requested}
use Rattle.ts_survey.specs.InStep.{TakesAll}
use Rattle.ts_survey.specs.declared.recording.Kind.{Kind}
use Rattle.ts_survey.specs.declared.recording.Kind.TheVariants.{Stream, Unknown}

-- The kind of the recording is still unknown.
abbrev pub is_unknown : Kind → Bool
is_unknown Unknown = true
is_unknown _ = false

-- If the recording is a transport stream, its packets in these bytes were processed, in order, each
-- once, and `used` bytes are no longer needed.
abbrev pub TakesPartOfStream : Kind → List ℕ → Bool → ℕ → Kind → Type 0
TakesPartOfStream (Stream packets multiplex) bytes is_end used (Stream after reported) =
    TakesAll packet_keeps_requested packets multiplex bytes is_end used after reported
TakesPartOfStream (Stream packets multiplex) bytes is_end used _ = ⊥
TakesPartOfStream _ bytes is_end used new = Unit {0}
