-- The PES packets of a file are counted one after another, up to the first bytes that do not begin
-- with a complete PES packet.
use Rattle.std.proofs.Common.{◌≡◌, ◌<◌, ℕ, List, arith, drop, length, subst, sym}
use Rattle.std.proofs.lemmas.Bool.Decides.{nat_tests}
use Rattle.std.specs.Prelude.{Some, None}
use Rattle.ts_survey.specs.FilePesPackets.{CountsPesPackets, complete_packet_size}
use Rattle.ts_survey.specs.FilePesPackets.{next_packet_counted}
use Rattle.ts_survey.specs.FilePesPackets.{no_complete_packet}
use Rattle.ts_survey.specs.InStep.{saturating_count}

pub counts-next : (first old now new size : ℕ) (all bytes more rest : List ℕ)
    → ((left : List ℕ) (count : ℕ)
    → CountsPesPackets old bytes left count
    → CountsPesPackets first all left count)
    → Some size ≡ complete_packet_size bytes
    → more ≡ drop size bytes
    → now ≡ saturating_count old 1
    → CountsPesPackets now more rest new
    → CountsPesPackets first all rest new
counts-next first old now new size all bytes more rest before is left one counts =
    before rest new
    (next_packet_counted old new size bytes rest (sym is)
    (subst (λ l. CountsPesPackets (saturating_count old 1) l rest new) left
    (subst (λ n. CountsPesPackets n more rest new) one counts)))

pub counts-end : (first new : ℕ) (all rest : List ℕ)
    → ((left : List ℕ) (count : ℕ)
    → CountsPesPackets new rest left count
    → CountsPesPackets first all left count)
    → None ≡ complete_packet_size rest
    → CountsPesPackets first all rest new
counts-end first new all rest before none = before rest new (no_complete_packet new rest (sym none))

pub no-size : (bytes : List ℕ) → length bytes < 6 → None ≡ complete_packet_size bytes
unfolding complete_packet_size
no-size bytes few = grind (arith, nat_tests)

pub ruleset counted_one_by_one = (counts-next, counts-end, no-size)
