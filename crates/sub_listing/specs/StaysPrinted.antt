-- Flushing the lines of the printer does not change which events were reported. No contract uses
-- these lemmas.
use Rattle.std.proofs.Common.{◌≡◌, ◌∙◌, ap, refl, sym, ℕ, ◌+◌, Bool, true, false}
use Rattle.std.proofs.lemmas.Bool.{true≢false}
use Rattle.std.proofs.KnownBytes.{Appends-kept}
use Rattle.sub_io.proofs.DeviceLemmas.{AppendsPrefix-whole}
use Rattle.sub_io.specs.Device.{AppendsPrefix}
use Rattle.sub_rules.specs.declared.event.Event.{Event}
use Rattle.sub_listing.specs.EventLines.{event_line}
use Rattle.sub_listing.specs.Printer.{PrinterValue, PrintsEvent, StaysPrinted}

-- If the printer's sink works after flushing, it worked before.
sink_had_not_failed : (b c : PrinterValue) (was : Bool) → b.failed ≡ was → StaysPrinted b c
    → c.failed ≡ false
    → b.failed ≡ false
sink_had_not_failed b c false is on holds = is
sink_had_not_failed b c true is on holds =
    absurd (true≢false (sym (on.risen (λ same. true≢false (sym is ∙ sym same ∙ holds))).0 ∙ holds))

-- If the sink failed while writing or flushing a line, it received a prefix of the line, and failed
-- once.
cut_line_is_prefix : (a b c : PrinterValue) (e : Event) (was : Bool) → b.failed ≡ was
    → PrintsEvent a e b
    → StaysPrinted b c
    → c.failed ≡ true
    → AppendsPrefix a.contents c.contents (event_line a.first e) × (c.count ≡ a.count + 1)
cut_line_is_prefix a b c e true is one on fails =
    let part = one.cut is in (
      (part.0, part.1, Appends-kept _ _ _ _ part.2 on.kept),
      on.same (fails ∙ sym is) ∙ one.counts_failure is,
    )
cut_line_is_prefix a b c e false is one on fails = (
  AppendsPrefix-whole _ _ _ (Appends-kept _ _ _ _ (one.put is) on.kept),
  (on.risen (λ same. true≢false (sym fails ∙ same ∙ is))).1
      ∙ ap (λ (n : ℕ). n + 1) (one.keeps_failure_count is),
)

-- If `PrintsEvent` is true of the report of an event, it is still true after the printer was
-- flushed.
pub printed_line_remains : (a b c : PrinterValue) (e : Event)
    → PrintsEvent a e b
    → StaysPrinted b c
    → PrintsEvent a e c
printed_line_remains a b c e one on =
    let before = sink_had_not_failed b c b.failed refl on in
    record {
      continues = one.continues;
      keeps_first_number = on.keeps_first_number ∙ one.keeps_first_number;
      put = λ holds. Appends-kept _ _ _ _ (one.put (before holds)) on.kept;
      keeps_failure_count = λ holds. on.same (holds ∙ sym (before holds)) ∙ one.keeps_failure_count
          (before holds);
      counts_faults = λ holds. on.fault_count ∙ one.counts_faults (before holds);
      cut = λ fails. (cut_line_is_prefix a b c e b.failed refl one on fails).0;
      counts_failure = λ fails. (cut_line_is_prefix a b c e b.failed refl one on fails).1;
    }
