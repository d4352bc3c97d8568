-- The wrong and unexpected cells of the stored page, and whether it is incomplete, agree with the
-- packets received.
use Rattle.std.proofs.lemmas.Bool.Decides.{nat_tests}
use Rattle.std.proofs.Common.{◌≡◌, ℕ, ◌&&◌, List, Bool, arith, ap, refl}
use Rattle.ttx_page.specs.Page.{Rows}
use Rattle.ttx_page.specs.PacketKind.{kind}
use Rattle.ttx_page.specs.Span.{is_open_after}
use Rattle.sub_rules.specs.Events.{first_unexpected_cell_after, first_wrong_cell_after}
use Rattle.sub_packets.specs.StoredPage.{is_kept_page_incomplete, first_unexpected_kept_cell}
use Rattle.sub_packets.specs.StoredPage.{first_wrong_kept_cell}
use Rattle.sub_packets.specs.Listener.{Knows}
use Rattle.sub_packets.specs.declared.listener.Listener.{Listener}
use Rattle.sub_packets.proofs.KeptLemmas.{row_of_code}
use Rattle.sub_packets.proofs.WrongCellLemmas.{first_cell-same, shown_is}

module _ (heard : List (List ℕ)) (s : Listener) (known : Knows heard s) where
  pub wrong_heard :
      first_wrong_kept_cell s ≡ first_wrong_cell_after s.watched.keeps s.watched.page heard
      s.comparison.due
  unfolding first_wrong_kept_cell first_wrong_cell_after
  wrong_heard =
      first_cell-same _ _
      (λ row column is.
      let kept_eq = shown_is heard s known row column is in
      let received = row_of_code s.watched.keeps s.watched.page heard row column in
      let again = known.again_is row is.0 is.1 in
      grind (arith, nat_tests))

  pub unexpected_kept_is_that_after_packets : (due : ℕ → Rows) (first f n : ℕ)
      → first_unexpected_kept_cell s due first f n
      ≡ first_unexpected_cell_after s.watched.keeps s.watched.page heard due first f n
  unfolding first_unexpected_kept_cell first_unexpected_cell_after
  unexpected_kept_is_that_after_packets due first f n =
      first_cell-same _ _
      (λ row column is. let kept_eq = shown_is heard s known row column is in rw kept_eq refl)

  pub incomplete_heard :
      is_kept_page_incomplete s ≡ (s.watched.complete && is_open_after (kind s.watched.page) heard)
  incomplete_heard = ap (λ (opened : Bool). s.watched.complete && opened) known.open_eq
