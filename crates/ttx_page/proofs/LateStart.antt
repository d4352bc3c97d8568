-- Packets before a header of the page do not change the codes that all packets show, so a receiver
-- may start late.
use Rattle.std.proofs.Common.{◌≡◌, ℕ, Bool, true, List, [], ◌∷◌, ◌++◌}
use Rattle.std.proofs.Common.{unwrap_or, All, subst, arith}
use Rattle.std.proofs.lemmas.Bool.Decides.{nat_tests}
use Rattle.std.proofs.lemmas.List.Elements.{All-tail}
use Rattle.ttx_packet.specs.PageHeader.{HasExactCodeWords}
use Rattle.ttx_packet.specs.PageId.{PageIdValue}
use Rattle.ttx_page.specs.Noise.{ErasesPageIfHeader, HaveSameCodesIfSameRow, HasOddParityTextIfRow}
use Rattle.ttx_page.specs.Noise.{AreEqualIfSameRow}
use Rattle.ttx_page.specs.PacketKind.{kind}
use Rattle.ttx_page.specs.Shown.{shown}
use Rattle.ttx_page.specs.Repeats.{HasCodesIfRow, SendsOnlyRowsOfText}
use Rattle.ttx_page.specs.Span.{has_page_header, is_open_after, has_no_page_end, span, text_span}
use Rattle.ttx_page.proofs.SpanListLemmas.{after-append, holds-append_right}
use Rattle.ttx_page.proofs.TextSpan.{text_span-later}

All-later : {A : Type 0} (P : A → Type 0) (xs ys : List A)
    → All P (xs ++ ys)
    → All P ys
All-later P [] ys all = all
All-later P (x ∷ xs) ys all = All-later P xs ys (All-tail P x (xs ++ ys) all)

pub same_rows_have_same_codes : (w : PageIdValue) (packets : List (List ℕ))
    → All (λ first. All (AreEqualIfSameRow w first) packets) packets
    → All (λ first. All (HaveSameCodesIfSameRow w first) packets) packets
same_rows_have_same_codes w packets same i d l j e m row column one two below = grind
    (arith, nat_tests)

module _ (w : PageIdValue) (before heard : List (List ℕ)) where
  pub sends-later : (keeps : Bool) (text : ℕ → ℕ → ℕ)
      → SendsOnlyRowsOfText keeps w (before ++ heard) text
      → SendsOnlyRowsOfText keeps w heard text
  sends-later keeps text sends =
      let later = text_span-later (kind w) keeps before heard in
      let of_text : (P : List ℕ → Type 0)
      → All P (text_span keeps (kind w) (before ++ heard))
      → All P (text_span keeps (kind w) heard) =
      λ P all. All-later P later.0 (text_span keeps (kind w) heard) (subst (All P) later.1 all) in
      record {
        exact = All-later HasExactCodeWords before heard sends.exact;
        erases = λ none. All-later (ErasesPageIfHeader w) before heard (sends.erases none);
        odd = of_text (HasOddParityTextIfRow w) sends.odd;
        codes = of_text (HasCodesIfRow w text) sends.codes;
      }

  pub span-later : has_page_header (kind w) heard ≡ true
      → span (kind w) (before ++ heard) ≡ span (kind w) heard
  span-later holds = grind (arith, nat_tests, after-append)

  -- If a receiver starts late and then receives a header of the page, the received packets show the
  -- same codes as all sent packets.
  pub shown-later : has_page_header (kind w) heard ≡ true
      → (row column : ℕ)
      → shown w (before ++ heard) row column ≡ shown w heard row column
  shown-later holds row column = grind (arith, nat_tests, unwrap_or, after-append)

  pub unended-later : has_page_header (kind w) heard ≡ true
      → has_no_page_end (kind w) (before ++ heard) ≡ has_no_page_end (kind w) heard
  unended-later holds = grind (arith, nat_tests, after-append)

  -- If a receiver starts late and its page is open, the page is also open after all sent packets,
  -- and the last page transmission is the same in both lists.
  pub open-later : is_open_after (kind w) heard ≡ true
      → (is_open_after (kind w) (before ++ heard) ≡ true)
      × (span (kind w) (before ++ heard) ≡ span (kind w) heard)
  open-later up = grind (arith, nat_tests, after-append, unended-later, holds-append_right)
