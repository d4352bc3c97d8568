-- The output of `packets`.
use Rattle.std.specs.Prelude.{ℕ, ◌+◌, List, [], ◌∷◌, ◌++◌, codes, decimal}
use Rattle.ttx_pes.specs.DataUnit.{UnitValue}
use Rattle.ttx_pes.specs.Outcome.{PesOutcome, ReadsPackets, ends, fails, gives, outcome_after}
use Rattle.ttx_pes.specs.PesGrammar.{PesValue}
use Rattle.sub_listing.specs.Faults.{check_line}
use Rattle.sub_rules.specs.declared.fault.CheckFault.TheVariants.{Pes}
use Rattle.sub_listing.specs.Lines.{number_in_file, pes_line, unit_line}
use Rattle.sub_listing.specs.Listing.{ListingRelation, Lists, Listing, done, followed}
use Rattle.sub_listing.specs.Listing.{fault_listing}
use Rattle.sub_listing.specs.FaultLine.{counted_from}

-- The lines of Teletext units. The first unit has this number among those of its PES packet.
abbrev pub unit_lines : ℕ → List UnitValue → List ℕ
unit_lines number [] = []
unit_lines number (u ∷ units) = unit_line number u ++ unit_lines (number + 1) units

-- The lines of a PES packet, with its number in the file, and of its Teletext units.
abbrev pub pes_packet_lines : ℕ → PesValue → List ℕ
pes_packet_lines number v = pes_line number v.pts ++ unit_lines 0 v.units

-- The output of `packets` after `index` PES packets: the lines of each further PES packet, and
-- finally the number of listed packets or the line of a fault. PES packets are counted from the
-- number `first`.
abbrev pub pes_listing : ℕ → ℕ → PesOutcome → Listing
pes_listing first index ends = done (decimal index ++ codes " pes\n")
pes_listing first index (fails f) = fault_listing (counted_from first (check_line (Pes index f)))
pes_listing first index (gives v more) =
    followed (pes_packet_lines (number_in_file first index) v) (pes_listing first (index + 1) more)

-- The PES packets of a source are listed, counted from the number `first`.
abbrev pub ListsPackets : ℕ → ListingRelation
ListsPackets first = Lists (pes_listing first 0) (outcome_after 0) ReadsPackets
