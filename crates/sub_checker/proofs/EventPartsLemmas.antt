-- If the two parts of a list of events are reported one after the other, the list is reported.
use Rattle.std.proofs.Common.{◌≡◌, List, ◌++◌, sym, subst}
use Rattle.sub_io.proofs.ReportingLemmas.{Reports-trans}
use Rattle.sub_io.specs.Reporting.{Reports}

module _ {A D : Type 0} {IsReported : D → A → D → Type 0} where
  pub reports_of_append : (a b c : D) (xs ys whole : List A)
      → whole ≡ xs ++ ys
      → Reports IsReported a b xs
      → Reports IsReported b c ys
      → Reports IsReported a c whole
  reports_of_append a b c xs ys whole is p q = rw is (Reports-trans a b c xs ys p q)

  pub reports_of_equal_lists : (a b : D) (xs whole : List A) → whole ≡ xs
      → Reports IsReported a b xs → Reports IsReported a b whole
  reports_of_equal_lists a b xs whole is p = subst (Reports IsReported a b) (sym is) p
