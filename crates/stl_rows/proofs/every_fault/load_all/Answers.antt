-- If `load_all` returns subtitles, they are those against which a transmission is checked, and all
-- faults of the file have been reported.
use Rattle.std.proofs.Common.{sym}
use Rattle.stl_rows.proofs.every_fault.load_all.Goals as goal

pub returns-in-Ok-Some-clause-exact : goal.returns-in-Ok-Some-clause-exact
returns-in-Ok-Some-clause-exact g c = λ bytes e.
    rw (c.of.ensures, sym c.new-drawing.ensures)
    (rw c.in-Ok-Some.field-0-is at (c.in-Ok-Some.ensures.exact bytes e)).0

pub returns-in-Ok-Some-clause-reported_all : goal.returns-in-Ok-Some-clause-reported_all
returns-in-Ok-Some-clause-reported_all g c = λ bytes e.
    rw (sym c.new-drawing.ensures)
    (rw c.in-Ok-Some.field-0-is at (c.in-Ok-Some.ensures.exact bytes e)).1
