-- Loop invariant of `from_page`: the packets so far, followed by the remaining rows, are the header
-- of the page and all its rows that are sent.
use Rattle.std.proofs.Common.{◌≡◌, ◌-◌, ◌≤◌, ◌∷◌, ◌++◌, length}
use Rattle.ttx_packet.specs.PageHeader.{header_packet}
use Rattle.sub_plan.specs.Sending.{watched_header, rows_from}
use Rattle.sub_plan.proofs.sending.PageSending.from_page.Given as goal

abbrev pub invariant-loop-row : goal.invariant-loop-row
invariant-loop-row l = record {
  past : 1 ≤ l.row;
  short : length l.sent ≤ l.row;
  so_far :
      l.sent ++ rows_from l.magazine l.page l.row (25 - l.row)
      ≡ header_packet l.magazine (watched_header l.fn.watched l.fn.national l.serial)
      ∷ rows_from l.magazine l.page 1 24;
}
