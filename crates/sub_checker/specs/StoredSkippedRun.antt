-- The stored state of a run of skipped PES packets.
use Rattle.sub_rules.specs.PesPacketEvents.{SkippedRun}
use Rattle.sub_checker.specs.declared.skipped_run.StoredSkippedRun.{StoredSkippedRun}

-- The run of skipped PES packets that the stored state represents.
abbrev pub skipped_run_of : StoredSkippedRun → SkippedRun
skipped_run_of stored = record { last = stored.last; many = stored.many }

-- The stored state that represents a run of skipped PES packets.
abbrev pub stored_run : SkippedRun → StoredSkippedRun
stored_run run = record { last = run.last; many = run.many }
