-- Flushing a report sink does not change which items it has received.
use Rattle.std.proofs.Common.{◌≡◌, ◌∙◌, ℕ, Bool, true, false, List, [], ◌∷◌, ap, inl, inr, sym}
use Rattle.std.proofs.Common.{not, refl, subst, Result, Ok, Err}
use Rattle.std.specs.Prelude.{OnOk, is_err, is_ok}
use Rattle.std.proofs.lemmas.Bool.{true≢false}
use Rattle.sub_io.specs.Flushing.{FlushesOnlyIfPending, BuffersOnlyWhilePending, KeepsReports}
use Rattle.sub_io.specs.Flushing.{FlushKeepsReports}
use Rattle.sub_io.specs.Reporting.{Reports, ReportsInOrder, ReportsSome}

module _
    {A D : Type 0} (IsReported : D → A → D → Type 0) (has_stopped has_pending_reports : D → Bool)
    (buffered : D → ℕ)
    (IsFlushed : D → Bool → D → Type 0)
    (stays : FlushKeepsReports IsReported has_stopped has_pending_reports buffered IsFlushed) where
  -- If a report sink with pending reports is flushed after one or more items, all these items still
  -- count as reported.
  flushing_keeps_report_order : (a b c : D) (x : A) (items : List A) (ok : Bool)
      → has_pending_reports b ≡ true
      → IsFlushed b ok c
      → ReportsInOrder IsReported a b (x ∷ items)
      → ReportsInOrder IsReported a c (x ∷ items)
  flushing_keeps_report_order a b c x [] ok has_pending on (mid, first, same) = (
    c,
    stays.reported a b c x ok (subst (λ d. IsReported a x d) (sym same) first) has_pending on,
    refl,
  )
  flushing_keeps_report_order a b c x (y ∷ items) ok has_pending on (mid, first, rest) =
      (mid, first, flushing_keeps_report_order mid b c y items ok has_pending on rest)

  -- If no report was pending before the first item and some are pending after the last, all items
  -- still count as reported after a flush.
  flushing_keeps_pending_reports : (a b c : D) (items : List A) (ok : Bool)
      → has_pending_reports a ≡ false
      → has_pending_reports b ≡ true
      → IsFlushed b ok c
      → ReportsInOrder IsReported a b items
      → ReportsInOrder IsReported a c items
  flushing_keeps_pending_reports a b c [] ok still has_pending on reported =
      absurd (true≢false (sym has_pending ∙ ap has_pending_reports reported ∙ still))
  flushing_keeps_pending_reports a b c (x ∷ items) ok still has_pending on reported =
      flushing_keeps_report_order a b c x items ok has_pending on reported

  pub keeps-reported : (old new : D) (ok : Bool)
      → FlushesOnlyIfPending has_pending_reports IsFlushed old ok new
      → KeepsReports IsReported has_pending_reports old new
  keeps-reported old new ok (inl same) = record {
    kept = λ start items still reported.
        subst (λ d. Reports IsReported start d items) (sym same.1) reported;
  }
  keeps-reported old new ok (inr on) = record {
    kept = λ start items still reported.
        record {
          one_by_one = flushing_keeps_pending_reports start old new items ok still on.0 on.1
              reported.one_by_one;
        };
  }

  reported-holds : (a b : D) (items : List A)
      → BuffersOnlyWhilePending has_pending_reports buffered a
      → ReportsInOrder IsReported a b items
      → BuffersOnlyWhilePending has_pending_reports buffered b
  reported-holds a b [] holds reported = subst (BuffersOnlyWhilePending has_pending_reports
      buffered) (sym reported) holds
  reported-holds a b (x ∷ items) holds (mid, first, rest) =
      reported-holds mid b items (stays.has_pending a mid x first) rest

  pub holds-reported : (a b : D)
      → BuffersOnlyWhilePending has_pending_reports buffered a
      → ReportsSome IsReported a b
      → BuffersOnlyWhilePending has_pending_reports buffered b
  holds-reported a b holds some = reported-holds a b some.items holds some.reported.one_by_one

pub ReportsSome-kept : {A D : Type 0} (IsReported : D → A → D → Type 0) (has_pending_reports : D →
    Bool)
    (start old new : D)
    → ReportsSome IsReported start old
    → has_pending_reports start ≡ false
    → KeepsReports IsReported has_pending_reports old new
    → ReportsSome IsReported start new
ReportsSome-kept IsReported has_pending_reports start old new some still keeps = record {
  items = some.items;
  reported = keeps.kept start some.items still some.reported;
}

pub error_is_not_ok : {X E : Type 0} (r : Result X E) (b : Bool) → is_err r ≡ b → not (is_ok r) ≡ b
error_is_not_ok (Ok x) b is = is
error_is_not_ok (Err e) b is = is

pub ok_property_applies : {X E : Type 0} {Q : Type 0} (r : Result X E) → is_err r ≡ false → OnOk r Q
    → Q
ok_property_applies (Ok x) is holds = holds
ok_property_applies (Err e) is holds = absurd (true≢false is)
