-- Specifies how items are reported to a report sink one at a time, until the sink stops.
--
-- A report sink defines how one item changes it, as a relation of the old state, the item and the
-- new state. This file extends such a relation to lists of items.
use Rattle.std.specs.Prelude.{◌≡◌, ℕ, ◌≤◌, List, [], ◌∷◌, length, take, Option, Some, None}
use Rattle.std.specs.Prelude.{Result, MatchResult}

-- All items of the list were reported, in order.
abbrev pub ReportsInOrder : {A D : Type 0} → (D → A → D → Type 0) → D → D → List A → Type 0
ReportsInOrder IsReported old new [] = new ≡ old
ReportsInOrder {A} {D} IsReported old new (x ∷ xs) =
    (mid : D) × IsReported old x mid × ReportsInOrder IsReported mid new xs

-- All items of the list were reported, in order. A record, for use in contracts.
pub record Reports
    {A D : Type 0} (IsReported : D → A → D → Type 0) (old new : D) (items : List A) : Type 0
  where
    pub one_by_one : ReportsInOrder IsReported old new items

-- A prefix of the items was reported.
abbrev pub ReportsPrefix : {A D : Type 0} → (D → A → D → Type 0) → D → D → List A → Type 0
ReportsPrefix IsReported old new items =
    (n : ℕ) × (n ≤ length items) × Reports IsReported old new (take n items)

-- All items were reported if the function returned `Ok`. A prefix of the items, possibly all of
-- them, was reported if it returned `Err`.
abbrev pub ReportsUntilStopped : {A D X E : Type 0}
    → (D → A → D → Type 0) → D → D → List A → Result X E → Type 0
ReportsUntilStopped IsReported old new items result =
    MatchResult result (λ _. Reports IsReported old new items) (λ _. ReportsPrefix IsReported old
    new items)

-- Some list of items, possibly empty, was reported.
pub record ReportsSome {A D : Type 0} (IsReported : D → A → D → Type 0) (old new : D) : Type 0 where
  pub items : List A
  pub reported : Reports IsReported old new items

-- A report sink that keeps the first item and accepts no second item.
abbrev pub KeepsFirst : {A : Type 0} → Option A → A → Option A → Type 0
KeepsFirst old item new = (old ≡ None) × (new ≡ Some item)

-- The first item as a list: the items reported to a sink that stops at the first item.
abbrev pub first_as_list : {A : Type 0} → Option A → List A
first_as_list None = []
first_as_list (Some x) = x ∷ []
