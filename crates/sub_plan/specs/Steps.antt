-- The frames with a page transmission from a base to before the next base or the last frame, in the
-- order in which the code visits them. No public clause uses this file.
use Rattle.std.specs.Prelude.{ℕ, ◌-◌, ◌%◌, List, ◌==◌, filter}
use Rattle.std.specs.List.{range_with_len}
use Rattle.ttx_pes.specs.PesGrammar.{canonical_packet}
use Rattle.sub_plan.specs.Schedule.{pes_value}

-- The frames from `from` to before `end` whose distance from `from` is a multiple of `every`.
unfoldable pub steps : ℕ → ℕ → ℕ → List ℕ
steps every from end = filter (λ f. (f - from) % every == 0) (range_with_len from (end - from))

-- The bytes of a PES packet that carries Teletext packets at a frame.
abbrev pub pes_packet_bytes_at : ℕ → List (List ℕ) → ℕ → List ℕ
pes_packet_bytes_at origin packets frame = canonical_packet (pes_value origin packets frame)
