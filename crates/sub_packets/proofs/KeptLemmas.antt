-- If a header of the page is received, it becomes the last header of the page, and no row has been
-- received since it. If the header erases the page, the text of the page has no rows yet.
use Rattle.std.proofs.Common.{◌≡◌, ℕ, Bool, true, false, not, ◌&&◌, ◌||◌, ◌==◌, cond, List, [], ◌∷◌}
use Rattle.std.proofs.Common.{◌++◌, Some, None, find, option_map, unwrap_or, refl, ap}
use Rattle.std.proofs.Common.{arith}
use Rattle.std.specs.List.{list_any}
use Rattle.std.specs.Option.{option_or}
use Rattle.std.proofs.lemmas.Bool.Decides.{nat_tests}
use Rattle.std.proofs.lemmas.List.Folds.{find-append, list_any-append}
use Rattle.ttx_packet.specs.PageId.{PageIdValue}
use Rattle.ttx_page.specs.Page.{space}
use Rattle.ttx_page.specs.PacketKind.{begins_text, ends_page, is_row, is_this_page, kind}
use Rattle.ttx_page.specs.Shown.{kept}
use Rattle.ttx_page.specs.Span.{from_text_beginning, has_text_beginning, is_open_after, text_span}
use Rattle.ttx_page.specs.Span.{while_open}
use Rattle.ttx_page.specs.declared.packet_kind.PacketKind.{PacketKind}
use Rattle.ttx_page.proofs.RepeatLaws.{kept_text_is_shown_text}
use Rattle.ttx_page.proofs.SpanPushLemmas.{list_any-push, span-push}
use Rattle.ttx_page.proofs.TextSpan.{text_span-push}
use Rattle.sub_rules.specs.Kept.{has_row, header_of_page, last_header}
use Rattle.sub_rules.specs.PacketTests.{first_packet_of_row}
use Rattle.sub_rules.specs.declared.packet_rule.Watched.{Watched}

pub last_header-append :
    (page : PageIdValue) (xs ys : List (List ℕ))
    → last_header page (xs ++ ys) ≡ option_or (last_header page ys) (last_header page xs)
last_header-append page [] ys = grind (arith, nat_tests)
last_header-append page (x ∷ xs) ys = grind (arith, nat_tests, (last_header-append page xs ys))

pub last_header-push :
    (page : PageIdValue) (xs : List (List ℕ)) (x : List ℕ)
    → last_header page (xs ++ x ∷ [])
    ≡ option_or (header_of_page (kind page x)) (last_header page xs)
last_header-push page xs x = last_header-append page xs (x ∷ [])

any-push :
    (k : PacketKind) (row : ℕ) (opened : Bool) (xs : List (List ℕ)) (p : List ℕ)
    (f : List ℕ → Bool)
    → f p ≡ is_row row k
    → list_any f (cond (is_this_page k) [] (cond (opened && not (ends_page k)) (xs ++ p ∷ []) xs))
    ≡ cond (is_this_page k) false (list_any f xs || (opened && is_row row k))
any-push k row opened xs p f e = grind (arith, nat_tests, list_any-append)

pub has_row-push :
    (page : PageIdValue) (heard : List (List ℕ)) (p : List ℕ) (row : ℕ)
    → has_row page (heard ++ p ∷ []) row
    ≡ cond (is_this_page (kind page p)) false
    (has_row page heard row || (is_open_after (kind page) heard && is_row row (kind page p)))
has_row-push page heard p row = grind (arith, nat_tests, span-push, any-push)

find-push :
    (keeps : Bool) (k : PacketKind) (row : ℕ) (opened : Bool) (xs : List (List ℕ)) (p : List ℕ)
    (f : List ℕ → Bool)
    → f p ≡ is_row row k
    → find f
    (cond (begins_text keeps k) []
    (cond (opened && not (is_this_page k) && not (ends_page k)) (xs ++ p ∷ []) xs))
    ≡ cond (begins_text keeps k) None
    (cond (opened && is_row row k) (option_or (find f xs) (Some p)) (find f xs))
find-push keeps k row opened xs p f e = grind (arith, nat_tests, find-append)

pub first_packet_of_row-push :
    (keeps : Bool) (page : PageIdValue) (heard : List (List ℕ)) (p : List ℕ) (row : ℕ)
    → first_packet_of_row page (text_span keeps (kind page) (heard ++ p ∷ [])) row
    ≡ cond (begins_text keeps (kind page p)) None
    (cond (is_open_after (kind page) heard && is_row row (kind page p))
    (option_or (first_packet_of_row page (text_span keeps (kind page) heard) row) (Some p))
    (first_packet_of_row page (text_span keeps (kind page) heard) row))
first_packet_of_row-push keeps page heard p row = grind (
  arith,
  nat_tests,
  text_span-push,
  find-push,
)

pub other_packet_begins_no_text : (keeps : Bool) (k : PacketKind)
    → is_this_page k ≡ false
    → begins_text keeps k ≡ false
other_packet_begins_no_text keeps k e = grind (arith, nat_tests)

pub or_assoc : (a b c : Bool) → ((a || b) || c) ≡ (a || (b || c))
or_assoc a b c = grind (arith, nat_tests)

pub beginning-more : (w : Watched) (xs : List (List ℕ)) (x : List ℕ)
    → has_text_beginning w.keeps (kind w.page) (xs ++ x ∷ [])
    ≡ (has_text_beginning w.keeps (kind w.page) xs || begins_text w.keeps (kind w.page x))
beginning-more w xs x = list_any-push (kind w.page) (λ y. begins_text w.keeps (kind w.page y)) xs x

-- If a list has a header that starts a new text, the packets from the last such header on do not
-- depend on the packets before the list.
from_beginning_ignores_earlier_packets : (keeps : Bool) (page : PageIdValue) (xs ys : List (List ℕ))
    → has_text_beginning keeps (kind page) ys ≡ true
    → from_text_beginning keeps (kind page) (xs ++ ys) ≡ from_text_beginning keeps (kind page) ys
from_beginning_ignores_earlier_packets keeps page [] ys e = refl
from_beginning_ignores_earlier_packets keeps page (x ∷ xs) ys e =
    let rest = from_beginning_ignores_earlier_packets keeps page xs ys e in
    let both = list_any-append (λ y. begins_text keeps (kind page y)) xs ys in
    grind (arith, nat_tests)

pub text_span-begins : (keeps : Bool) (page : PageIdValue) (xs ys : List (List ℕ))
    → has_text_beginning keeps (kind page) ys ≡ true
    → text_span keeps (kind page) (xs ++ ys) ≡ text_span keeps (kind page) ys
text_span-begins keeps page xs ys e =
    ap (while_open (kind page) false) (from_beginning_ignores_earlier_packets keeps page xs ys e)

found_code_means_a_packet_matches : (test : List ℕ → Bool) (ps : List (List ℕ)) (code : List ℕ → ℕ)
    → (unwrap_or (option_map code (find test ps)) space == space) ≡ false
    → list_any test ps ≡ true
found_code_means_a_packet_matches test [] code e = grind (arith, nat_tests)
found_code_means_a_packet_matches test (p ∷ ps) code e =
    let rest = found_code_means_a_packet_matches test ps code in grind (arith, nat_tests)

-- If each header of the page must have C4 (erase page) set, the row of each shown code other than a
-- space was received since the last header of the page.
pub row_of_code :
    (keeps : Bool) (page : PageIdValue) (heard : List (List ℕ)) (row column : ℕ)
    → keeps ≡ false
    → (kept keeps page heard row column == space) ≡ false
    → has_row page heard row ≡ true
row_of_code keeps page heard row column none e = grind
    (arith, nat_tests, found_code_means_a_packet_matches, kept_text_is_shown_text)
