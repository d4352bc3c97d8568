-- Flushing keeps the printed lines, and the printer still prints to the same device.
use Rattle.std.proofs.Common.{◌≡◌, ◌∙◌, ℕ, Bool, List, Option, false, refl, true}
use Rattle.sub_io.proofs.FlushingLemmas.{error_is_not_ok}
use Rattle.sub_listing.proofs.PrinterLemmas.{failed_flush_is_recorded, flush_keeps_name}
use Rattle.sub_listing.proofs.PrinterLemmas.{flush_keeps_printed_lines}
use Rattle.sub_listing.specs.Printer.{FlushesLines, PrinterValue, printer_value}
use Rattle.sub_listing.specs.declared.printer.Printer.{Printer}
use Rattle.sub_listing.proofs.packets.flush_lines.Goals as goal

abbrev value_of : {K : Type 0} → (K → Option (List ℕ)) → (K → ℕ) → Printer K → PrinterValue
value_of contents count p =
    printer_value (contents p.out.now) (count p.out.now) p.fault_count p.failed p.first

abbrev IsFlushed : {K : Type 0} → (K → Option (List ℕ)) → (K → ℕ) → (K → ℕ)
    → Printer K → Bool → Printer K → Type 0
IsFlushed contents count buffered s ok t = (t.out.ghost_name ≡ s.out.ghost_name)
    × FlushesLines (value_of contents count s) ok (value_of contents count t)
    × (s.pending ≡ true → t.pending ≡ false → buffered t.out.now ≡ 0)

pub returns-clause-same : goal.returns-clause-same
returns-clause-same g c =
    flush_keeps_name (λ (p : Printer g.row.K.Denot). p.out.ghost_name)
    (value_of g.K.Sink.contents g.K.Sink.failure_count) (λ p. p.pending)
    (IsFlushed g.K.Sink.contents g.K.Sink.failure_count g.K.Flush.buffered) _ _ _
    c.flush_first.ensures.call
    (λ on. (on.0, on.1))

pub returns-clause-stays : goal.returns-clause-stays
returns-clause-stays g c =
    flush_keeps_printed_lines (λ (p : Printer g.row.K.Denot). p.out.ghost_name)
    (value_of g.K.Sink.contents g.K.Sink.failure_count) (λ p. p.pending)
    (IsFlushed g.K.Sink.contents g.K.Sink.failure_count g.K.Flush.buffered) _ _ _
    c.flush_first.ensures.call
    (λ on. (on.0, on.1))

pub returns-clause-failed : goal.returns-clause-failed
returns-clause-failed g c =
    failed_flush_is_recorded (λ (p : Printer g.row.K.Denot). p.out.ghost_name)
    (value_of g.K.Sink.contents g.K.Sink.failure_count) (λ p. p.pending)
    (IsFlushed g.K.Sink.contents g.K.Sink.failure_count g.K.Flush.buffered) _ _ _
    c.flush_first.ensures.call
    (λ on. (on.0, on.1)) c.requires.continues c.requires.out
    ∙ error_is_not_ok _ _ refl
