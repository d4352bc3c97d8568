-- Flushing a report sink does not change which items were reported to it.
use Rattle.std.specs.Prelude.{◌≡◌, ◌⊎◌, ℕ, List, Bool, true, false, not}
use Rattle.sub_io.specs.Reporting.{Reports}

-- The law of a report sink that can flush. After a pending report is flushed, its item still counts
-- as reported. Flushing fails exactly if the sink has stopped after it. After each report, the sink
-- buffers bytes only if reports are pending.
pub record FlushKeepsReports
    {A D : Type 0} (IsReported : D → A → D → Type 0) (has_stopped has_pending_reports : D → Bool)
    (buffered : D → ℕ)
    (IsFlushed : D → Bool → D → Type 0)
    : Type 0 where
  pub reported :
      (before old new : D) (item : A) (ok : Bool)
      → IsReported before item old
      → has_pending_reports old ≡ true
      → IsFlushed old ok new
      → IsReported before item new
  pub stopped : (old new : D) (ok : Bool) → IsFlushed old ok new → has_stopped new ≡ not ok
  pub has_pending :
      (before new : D) (item : A)
      → IsReported before item new
      → has_pending_reports new ≡ false
      → buffered new ≡ 0

-- The report sink is unchanged, or its pending reports were flushed; `ok` is false if flushing
-- failed.
abbrev pub FlushesOnlyIfPending :
    {D : Type 0} → (D → Bool) → (D → Bool → D → Type 0) → D → Bool → D → Type 0
FlushesOnlyIfPending has_pending_reports IsFlushed old ok new =
    ((ok ≡ true) × (new ≡ old)) ⊎ ((has_pending_reports old ≡ true) × IsFlushed old ok new)

-- All items that count as reported in the state `old` still count as reported in the state `new`,
-- if no report was pending before the first item.
pub record KeepsReports
    {A D : Type 0} (IsReported : D → A → D → Type 0) (has_pending_reports : D → Bool) (old new : D)
    : Type 0 where
  pub kept :
      (start : D) (items : List A)
      → has_pending_reports start ≡ false
      → Reports IsReported start old items
      → Reports IsReported start new items

-- The report sink buffers no bytes unless reports are pending.
abbrev pub BuffersOnlyWhilePending : {D : Type 0} → (D → Bool) → (D → ℕ) → D → Type 0
BuffersOnlyWhilePending has_pending_reports buffered a = has_pending_reports a ≡ false → buffered a
    ≡ 0
