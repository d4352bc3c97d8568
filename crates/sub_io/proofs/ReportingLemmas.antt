-- The lists of items reported in several calls are joined in order, until the report sink stops.
use Rattle.std.proofs.Common.{◌≡◌, ◌+◌, ◌≤◌, List, [], ◌∷◌, ◌++◌, length, take, Option, None}
use Rattle.std.proofs.Common.{Result, Ok, Err, refl, sym, subst, le_refl, arith}
use Rattle.std.proofs.Common.{length-append}
use Rattle.std.proofs.Math.Seq.{take-append-add, take-length}
use lib.Seq.{take-append-le}
use Rattle.sub_io.specs.Reporting.{KeepsFirst, Reports, ReportsInOrder, ReportsPrefix}
use Rattle.sub_io.specs.Reporting.{ReportsUntilStopped}
use Rattle.sub_io.specs.Reporting.{ReportsSome, first_as_list}

one_by_one-trans : {A D : Type 0} (IsReported : D → A → D → Type 0) (a b c : D) (xs ys : List A)
    → ReportsInOrder IsReported a b xs
    → ReportsInOrder IsReported b c ys
    → ReportsInOrder IsReported a c (xs ++ ys)
one_by_one-trans IsReported a b c [] ys p q = subst (λ d. ReportsInOrder IsReported d c ys) p q
one_by_one-trans IsReported a b c (x ∷ xs) ys (mid, first, rest) q =
    (mid, first, one_by_one-trans IsReported mid b c xs ys rest q)

module _ {A D : Type 0} {IsReported : D → A → D → Type 0} where
  pub Reports-trans : (a b c : D) (xs ys : List A)
      → Reports IsReported a b xs
      → Reports IsReported b c ys
      → Reports IsReported a c (xs ++ ys)
  Reports-trans a b c xs ys p q =
      record { one_by_one = one_by_one-trans IsReported a b c xs ys p.one_by_one q.one_by_one }

  pub Reports-none : (a : D) → Reports IsReported a a []
  Reports-none a = record { one_by_one = refl }

  pub Reports-one : (a b : D) (x : A) → IsReported a x b → Reports IsReported a b (x ∷ [])
  Reports-one a b x reported = record { one_by_one = (b, reported, refl) }

  -- If the report sink stops within the first of two lists, it has received a prefix of both lists
  -- together.
  pub ReportsPrefix-first : (old new : D) (xs ys : List A)
      → ReportsPrefix IsReported old new xs
      → ReportsPrefix IsReported old new (xs ++ ys)
  ReportsPrefix-first old new xs ys p =
      let room : p.0 ≤ length xs = p.1 in
      let same = sym (take-append-le p.0 xs ys room) in
      (p.0, omega (arith, length-append xs ys), subst (Reports IsReported old new) same p.2)

  -- If the report sink receives the first of two lists and stops within the second, it has received
  -- a prefix of both lists together.
  pub ReportsPrefix-second : (old mid new : D) (xs ys : List A)
      → Reports IsReported old mid xs
      → ReportsPrefix IsReported mid new ys
      → ReportsPrefix IsReported old new (xs ++ ys)
  ReportsPrefix-second old mid new xs ys p q =
      let room : q.0 ≤ length ys = q.1 in
      let whole = Reports-trans old mid new xs (take q.0 ys) p q.2 in
      let same = sym (take-append-add xs ys q.0) in (
        length xs + q.0,
        omega (arith, length-append xs ys),
        subst (Reports IsReported old new) same whole,
      )

  pub ReportsPrefix-whole : (old new : D) (xs : List A)
      → Reports IsReported old new xs
      → ReportsPrefix IsReported old new xs
  ReportsPrefix-whole old new xs p =
      (length xs, le_refl (length xs), subst (Reports IsReported old new) (sym (take-length xs)) p)

  pub ReportsUntilStopped-after : {X E : Type 0} (old mid new : D) (xs ys : List A)
      → (result : Result X E)
      → Reports IsReported old mid xs
      → ReportsUntilStopped IsReported mid new ys result
      → ReportsUntilStopped IsReported old new (xs ++ ys) result
  ReportsUntilStopped-after old mid new xs ys (Ok value) p q = Reports-trans old mid new xs ys p q
  ReportsUntilStopped-after old mid new xs ys (Err fault) p q =
      ReportsPrefix-second old mid new xs ys p q

module _ {A D : Type 0} {IsReported : D → A → D → Type 0} where
  pub ReportsSome-none : (a : D) → ReportsSome IsReported a a
  ReportsSome-none a = record { items = []; reported = Reports-none a }

  pub ReportsSome-trans : (a b c : D) → ReportsSome IsReported a b → ReportsSome IsReported b c
      → ReportsSome IsReported a c
  ReportsSome-trans a b c p q =
      record {
        items = p.items ++ q.items;
        reported = Reports-trans a b c p.items q.items p.reported
            q.reported;
      }

pub only_first_item_is_reported : {A : Type 0} (first : Option A) (xs : List A)
    → Reports KeepsFirst None first xs
    → first_as_list first ≡ xs
only_first_item_is_reported first [] reported = let same = reported.one_by_one in cc
only_first_item_is_reported first (x ∷ []) reported = let one = reported.one_by_one in cc
only_first_item_is_reported first (x ∷ y ∷ ys) reported = let two = reported.one_by_one in cc

pub ruleset tellings = (
  Reports-trans,
  Reports-none,
  Reports-one,
  ReportsPrefix-first,
  ReportsPrefix-second,
  ReportsPrefix-whole,
  ReportsUntilStopped-after,
)
