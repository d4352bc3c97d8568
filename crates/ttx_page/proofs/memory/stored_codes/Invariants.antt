use Rattle.ttx_page.proofs.MemoryLemmas.{IsStoredTo}
use Rattle.ttx_page.proofs.memory.stored_codes.Given as goal

abbrev pub invariant-loop-column : goal.invariant-loop-column
invariant-loop-column l = IsStoredTo l.even l.packet l.was l.column l.codes
