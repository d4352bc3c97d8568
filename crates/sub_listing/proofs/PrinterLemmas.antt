-- A printer prints exactly the lines of the events that are reported to it, until its sink fails.
use Rattle.std.proofs.Common.{◌≡◌, ◌∙◌, ap, refl, sym, subst, arith, ℕ, ◌+◌, ◌<◌, ◌≤◌, ◌||◌}
use Rattle.std.proofs.Common.{not, List, [], ◌∷◌, ◌++◌, map, Bool, true, false, append_assoc, drop}
use Rattle.std.proofs.Common.{take, inl, inr}
use Rattle.sub_io.specs.Flushing.{FlushesOnlyIfPending}
use Rattle.std.proofs.lemmas.List.{map-append, take-append-drop}
use Rattle.std.proofs.lemmas.Bool.{true≢false}
use Rattle.std.proofs.lemmas.Bool.Decides.{nat_tests}
use Rattle.std.proofs.KnownBytes.{Appends-nil, Appends-trans}
use Rattle.sub_io.proofs.DeviceLemmas.{AppendsPrefix-first, AppendsPrefix-second}
use Rattle.sub_io.specs.Device.{AppendsPrefix}
use Rattle.std.specs.Io.KnownBytes.{Appends}
use Rattle.sub_io.specs.Reporting.{Reports, ReportsInOrder, ReportsSome}
use Rattle.stl_rows.specs.declared.fault.LoadFault.{LoadFault}
use Rattle.stl_rows.specs.declared.fault.LoadFaultKind.{LoadFaultKind}
use Rattle.stl_rows.specs.declared.fault.LoadFaultKind.TheVariants as load
use Rattle.sub_rules.specs.Fault.{place_of_load_fault}
use Rattle.sub_rules.specs.declared.event.Event.{Event}
use Rattle.sub_listing.specs.EventLines.{event_line, event_lines, max_fault_count}
use Rattle.sub_listing.specs.EventLines.{fault_count_of_event, fault_count_of_events}
use Rattle.sub_listing.specs.EventLines.{subtitle_event, subtitle_events}
use Rattle.sub_listing.specs.FaultLine.{place_text}
use Rattle.sub_listing.specs.Printer.{PrinterValue, PrintsEvent, PrintsEvents, StaysPrinted}
use Rattle.sub_listing.specs.Printer.{FlushesLines, can_fail, counted}

counted-twice : (r m n : ℕ) → counted (counted r m) n ≡ counted r (m + n)
unfolding counted
counted-twice r m n = grind (arith, nat_tests)

pub counted-none : (r : ℕ) → r ≤ max_fault_count → counted r 0 ≡ r
unfolding counted
counted-none r few = grind (arith, nat_tests)

pub counted-few : (r m : ℕ) → counted r m ≤ max_fault_count
unfolding counted
counted-few r m = grind (arith, nat_tests)

prints-none : (p : PrinterValue) → p.failed ≡ false → p.fault_count ≤ max_fault_count
    → PrintsEvents p [] p
prints-none p goes few = record {
  keeps_first_number = refl;
  put = λ holds. Appends-nil p.contents;
  keeps_failure_count = λ holds. refl;
  counts_faults = λ holds. sym (counted-none p.fault_count few);
  cut = λ failing. absurd (true≢false (sym failing ∙ goes));
  counts_failure = λ failing. absurd (true≢false (sym failing ∙ goes));
}

prints-more : (a b c : PrinterValue) (e : Event) (events : List Event)
    → PrintsEvent a e b
    → b.failed ≡ false
    → PrintsEvents b events c
    → PrintsEvents a (e ∷ events) c
prints-more a b c e events one goes more = record {
  keeps_first_number = more.keeps_first_number ∙ one.keeps_first_number;
  put = λ holds.
      Appends-trans a.contents b.contents c.contents (event_line a.first e)
      (event_lines a.first events) (one.put goes)
      (rw one.keeps_first_number at (more.put holds));
  keeps_failure_count = λ holds. more.keeps_failure_count holds ∙ one.keeps_failure_count goes;
  counts_faults = λ holds.
      more.counts_faults holds
      ∙ ap (λ r. counted r (fault_count_of_events events)) (one.counts_faults goes)
      ∙ counted-twice a.fault_count (fault_count_of_event e) (fault_count_of_events events);
  cut = λ failing.
      AppendsPrefix-second a.contents b.contents c.contents (event_line a.first e)
      (event_lines a.first events) (one.put goes)
      (rw one.keeps_first_number at (more.cut failing));
  counts_failure = λ failing. more.counts_failure failing ∙ ap (λ n. n + 1) (one.keeps_failure_count
      goes);
}

pub prints-cut : (a b : PrinterValue) (e : Event) (events : List Event)
    → PrintsEvent a e b
    → b.failed ≡ true
    → PrintsEvents a (e ∷ events) b
prints-cut a b e events one failing = record {
  keeps_first_number = one.keeps_first_number;
  put = λ holds. absurd (true≢false (sym failing ∙ holds));
  keeps_failure_count = λ holds. absurd (true≢false (sym failing ∙ holds));
  counts_faults = λ holds. absurd (true≢false (sym failing ∙ holds));
  cut = λ fails.
      AppendsPrefix-first a.contents b.contents (event_line a.first e) (event_lines a.first events)
      (one.cut failing);
  counts_failure = λ fails. one.counts_failure failing;
}

event_lines-append : (first : ℕ) (xs ys : List Event)
    → event_lines first (xs ++ ys) ≡ event_lines first xs ++ event_lines first ys
event_lines-append first [] ys = refl
event_lines-append first (x ∷ xs) ys =
    ap (λ (l : List ℕ). event_line first x ++ l) (event_lines-append first xs ys)
    ∙ sym (append_assoc (event_line first x) (event_lines first xs) (event_lines first ys))

pub prints-prefix : (a b : PrinterValue) (events more : List Event)
    → b.failed ≡ true
    → PrintsEvents a events b
    → PrintsEvents a (events ++ more) b
prints-prefix a b events more failing prints = record {
  keeps_first_number = prints.keeps_first_number;
  put = λ holds. absurd (true≢false (sym failing ∙ holds));
  keeps_failure_count = λ holds. absurd (true≢false (sym failing ∙ holds));
  counts_faults = λ holds. absurd (true≢false (sym failing ∙ holds));
  cut = λ fails.
      subst (AppendsPrefix a.contents b.contents) (sym (event_lines-append a.first events more))
      (AppendsPrefix-first a.contents b.contents (event_lines a.first events)
      (event_lines a.first more) (prints.cut fails));
  counts_failure = λ fails. prints.counts_failure failing;
}

fault_count_of_events-append : (xs ys : List Event) → fault_count_of_events (xs ++ ys) ≡
    fault_count_of_events xs + fault_count_of_events ys
fault_count_of_events-append [] ys = omega arith
fault_count_of_events-append (x ∷ xs) ys = let rest = fault_count_of_events-append xs ys in omega
    (arith, rest)

pub prints-two : (a b c : PrinterValue) (xs ys : List Event)
    → PrintsEvents a xs b
    → b.failed ≡ false
    → PrintsEvents b ys c
    → PrintsEvents a (xs ++ ys) c
prints-two a b c xs ys some goes more =
    let lines = event_lines-append a.first xs ys in
    record {
      keeps_first_number = more.keeps_first_number ∙ some.keeps_first_number;
      put = λ holds.
          subst (Appends a.contents c.contents) (sym lines)
          (Appends-trans a.contents b.contents c.contents (event_lines a.first xs)
          (event_lines a.first ys) (some.put goes)
          (rw some.keeps_first_number at (more.put holds)));
      keeps_failure_count = λ holds. more.keeps_failure_count holds ∙ some.keeps_failure_count goes;
      counts_faults = λ holds.
          more.counts_faults holds
          ∙ ap (λ r. counted r (fault_count_of_events ys)) (some.counts_faults goes)
          ∙ counted-twice a.fault_count (fault_count_of_events xs) (fault_count_of_events ys)
          ∙ ap (counted a.fault_count) (sym (fault_count_of_events-append xs ys));
      cut = λ failing.
          subst (AppendsPrefix a.contents c.contents) (sym lines)
          (AppendsPrefix-second a.contents b.contents c.contents (event_lines a.first xs)
          (event_lines a.first ys) (some.put goes)
          (rw some.keeps_first_number at (more.cut failing)));
      counts_failure = λ failing. more.counts_failure failing ∙ ap (λ n. n + 1)
          (some.keeps_failure_count goes);
    }

place-same : (n m block : ℕ) (kind : LoadFaultKind)
    → place_text n (place_of_load_fault kind block) ≡ place_text m (place_of_load_fault kind block)
place-same n m block (load.Row f) = refl
place-same n m block kind = refl

lines-same : (n m : ℕ) (fs : List LoadFault)
    → event_lines n (subtitle_events fs) ≡ event_lines m (subtitle_events fs)
lines-same n m [] = refl
lines-same n m (f ∷ fs) =
    rw (place-same n m f.block f.kind)
    (ap (λ (l : List ℕ). event_line m (subtitle_event f) ++ l) (lines-same n m fs))

-- The lines about faults of the subtitle file do not depend on the number of the first PES packet.
pub prints-renumbered : (n : ℕ) (a b : PrinterValue) (fs : List LoadFault)
    → PrintsEvents a (subtitle_events fs) b
    → PrintsEvents (record a { first = n }) (subtitle_events fs) (record b { first = n })
prints-renumbered n a b fs prints = grind (arith, nat_tests, lines-same)

pub prints-taken : {A : Type 0} (event : A → Event) (a b : PrinterValue) (n : ℕ) (items : List A)
    → b.failed ≡ true
    → PrintsEvents a (map event (take n items)) b
    → PrintsEvents a (map event items) b
prints-taken event a b n items failing prints =
    let whole : map event (take n items) ++ map event (drop n items) ≡ map event items =
    sym (map-append event (take n items) (drop n items))
    ∙ ap (λ xs. map event xs) (take-append-drop n items) in
    subst (λ (es : List Event). PrintsEvents a es b) whole
    (prints-prefix a b (map event (take n items)) (map event (drop n items)) failing prints)

same-one_by_one : {A D N : Type 0} (IsReported : D → A → D → Type 0) (name : D → N)
    (one : (s t : D) (x : A) → IsReported s x t → name t ≡ name s) (old new : D) (items : List A)
    → ReportsInOrder IsReported old new items
    → name new ≡ name old
same-one_by_one IsReported name one old new [] reported = ap name reported
same-one_by_one IsReported name one old new (x ∷ xs) (mid, first, rest) =
    same-one_by_one IsReported name one mid new xs rest ∙ one old mid x first

pub reporting_keeps_name : {A D N : Type 0} (IsReported : D → A → D → Type 0) (name : D → N)
    (one : (s t : D) (x : A) → IsReported s x t → name t ≡ name s) (old new : D)
    → ReportsSome IsReported old new
    → name new ≡ name old
reporting_keeps_name IsReported name one old new some =
    same-one_by_one IsReported name one old new some.items
    some.reported.one_by_one

module _ {A D : Type 0} (IsReported : D → A → D → Type 0) (value : D → PrinterValue)
    (event : A → Event)
    (one : (s t : D) (x : A) → IsReported s x t → PrintsEvent (value s) (event x) (value t)) where
  -- No event is reported to a printer after its sink failed.
  failed_printer_reports_nothing : (mid new : D) (items : List A) → ReportsInOrder IsReported mid
      new items
      → (value mid).failed ≡ true
      → (items ≡ []) × (new ≡ mid)
  failed_printer_reports_nothing mid new [] reported failing = (refl, reported)
  failed_printer_reports_nothing mid new (y ∷ ys) (next, second, others) failing =
      absurd (true≢false (sym failing ∙ (one mid next y second).continues))

  step : (old mid new : D) (x : A) (xs : List A) (b : Bool) → (value mid).failed ≡ b
      → PrintsEvent (value old) (event x) (value mid)
      → ReportsInOrder IsReported mid new xs
      → ((value mid).failed ≡ false → (value mid).fault_count ≤ max_fault_count
      → PrintsEvents (value mid) (map event xs) (value new))
      → PrintsEvents (value old) (map event (x ∷ xs)) (value new)
  step old mid new x xs true failing here rest more =
      let end = failed_printer_reports_nothing mid new xs rest failing in
      rw (end.0, end.1) (prints-cut (value old) (value mid) (event x) [] here failing)
  step old mid new x xs false holds here rest more =
      let bound : (value mid).fault_count ≤ max_fault_count =
      rw (here.counts_faults holds)
      (counted-few (value old).fault_count (fault_count_of_event (event x))) in
      prints-more (value old) (value mid) (value new) (event x) (map event xs) here holds
      (more holds bound)

  one_by_one : (old new : D) (items : List A)
      → (value old).failed ≡ false
      → (value old).fault_count ≤ max_fault_count
      → ReportsInOrder IsReported old new items
      → PrintsEvents (value old) (map event items) (value new)
  one_by_one old new [] goes few reported = rw reported (prints-none (value old) goes
      few)
  one_by_one old new (x ∷ xs) goes few (mid, first, rest) =
      step old mid new x xs (value mid).failed refl (one old mid x first) rest
      (λ holds bound. one_by_one mid new xs holds bound rest)

  -- If the sink of a printer has not failed before, and the number of its faults is within the
  -- limit, the printer prints exactly the lines of the events that are reported to it, or a prefix
  -- of these lines if the sink fails.
  pub reported_items_are_printed : (old new : D) (items : List A)
      → (value old).failed ≡ false
      → (value old).fault_count ≤ max_fault_count
      → Reports IsReported old new items
      → PrintsEvents (value old) (map event items) (value new)
  reported_items_are_printed old new items goes few reported = one_by_one old new items
      goes few reported.one_by_one

map-same : (events : List Event) → map (λ (e : Event). e) events ≡ events
map-same [] = refl
map-same (e ∷ events) = ap (λ (es : List Event). e ∷ es) (map-same events)

pub mapped_events_are_printed : (a b : PrinterValue) (events : List Event)
    → PrintsEvents a (map (λ (e : Event). e) events) b
    → PrintsEvents a events b
mapped_events_are_printed a b events prints =
    subst (λ (es : List Event). PrintsEvents a es b) (map-same events) prints

pub continues_without_failure : (failed : Bool) (old new : ℕ)
    → old < 0xFFFF_FFFF_FFFF_FFFF
    → failed ≡ false
    → new ≡ old
    → (failed || not (can_fail new)) ≡ false
continues_without_failure failed old new room holds same = grind (arith, nat_tests)

pub has_stopped : (failed b : Bool) → failed ≡ true → (failed || b) ≡ true
has_stopped true b failing = refl
has_stopped false b failing = absurd (true≢false (sym failing))

pub device_has_not_failed : (failed b : Bool) → ((failed || b) ≡ true → ⊥) → failed ≡ false
device_has_not_failed true b holds = absurd (holds refl)
device_has_not_failed false b holds = refl

pub stays-none : (a : PrinterValue) → StaysPrinted a a
stays-none a = grind (arith, nat_tests)

pub stopped_printer_has_failed : (a b : PrinterValue) (is : Bool) → b.failed ≡ is
    → a.failed ≡ false
    → a.count < 0xFFFF_FFFF_FFFF_FFFF
    → StaysPrinted a b
    → (b.failed || not (can_fail b.count)) ≡ true
    → b.failed ≡ true
stopped_printer_has_failed a b is h1 goes room stays stopped = grind
    (arith, nat_tests, continues_without_failure)

failure_matches_flush_result : (a b : PrinterValue) (ok : Bool)
    → a.failed ≡ false
    → a.count < 0xFFFF_FFFF_FFFF_FFFF
    → FlushesLines a ok b
    → b.failed ≡ not ok
failure_matches_flush_result a b true goes room on = device_has_not_failed
    _ _ (λ is. true≢false (sym is ∙ on.stopped))
failure_matches_flush_result a b false goes room on = stopped_printer_has_failed a b b.failed refl
    goes room on.stays on.stopped

module _ {P N : Type 0} (name : P → N) (value : P → PrinterValue) (has_pending_reports : P → Bool)
    (IsFlushed : P → Bool → P → Type 0) (s t : P) (ok : Bool)
    (call : FlushesOnlyIfPending has_pending_reports IsFlushed s ok t)
    (one : IsFlushed s ok t → (name t ≡ name s) × FlushesLines (value s) ok (value t)) where
  pub flush_keeps_name : name t ≡ name s
  flush_keeps_name = elim call [ inl same ↦ ap name same.1 | inr on ↦ (one on.1).0 ]

  pub flush_keeps_printed_lines : StaysPrinted (value s) (value t)
  flush_keeps_printed_lines = grind (arith, nat_tests, stays-none)

  pub failed_flush_is_recorded : (value s).failed ≡ false
      → (value s).count < 0xFFFF_FFFF_FFFF_FFFF
      → (value t).failed ≡ not ok
  failed_flush_is_recorded goes room = grind (arith, nat_tests, failure_matches_flush_result)
