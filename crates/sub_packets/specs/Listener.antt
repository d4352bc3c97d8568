-- How the state of a listener follows from the packets that it received, whether or not they broke
-- rules.
use Rattle.std.specs.Prelude.{◌≡◌, ℕ, ◌-◌, ◌<◌, ◌≤◌, Bool, false, List, [], ◌∷◌, ◌++◌, Option}
use Rattle.std.specs.Prelude.{None, Some, if◌then◌else◌, is_some, length, option_map, not}
use Rattle.std.specs.Prelude.{◌+◌, ◌*◌, ◌&&◌, ◌||◌, ◌==◌, nat_lt, true}
use Rattle.std.specs.Prelude.{slice_index_or, take}
use Rattle.ttx_packet.specs.PageHeader.{c11}
use Rattle.ttx_packet.specs.declared.header.Header.{Header}
use Rattle.ttx_page.specs.Page.{blank_row, row_at}
use Rattle.ttx_page.specs.PacketKind.{is_this_page, kind}
use Rattle.ttx_page.specs.Span.{has_text_beginning, is_open_after, text_span}
use Rattle.sub_rules.specs.Kept.{has_row, last_header}
use Rattle.sub_rules.specs.PacketRules.{codes_of, first_header, header_count}
use Rattle.sub_rules.specs.PacketTests.{breaks, broken_rules, first_packet_of_row, is_same_bit}
use Rattle.sub_rules.specs.PacketTests.{packet_rules}
use Rattle.sub_packets.specs.RepeatedPackets.{BeginsWithHeader}
use Rattle.sub_packets.specs.declared.listener.Listener.{Listener}
use Rattle.sub_rules.specs.declared.packet_rule.PacketRule.{PacketRule}
use Rattle.sub_rules.specs.declared.packet_rule.Watched.{Watched}

-- ---- sets of rules

-- The rules of a list that pass a test, as a set: one bit per rule, the first rule in the lowest
-- bit.
unfoldable pub rule_set : (PacketRule → Bool) → List PacketRule → ℕ
rule_set test [] = 0
rule_set test (r ∷ rules) = (if test r then 1 else 0) + 2 * rule_set test rules

-- ---- the state of a listener

-- The codes of a row's first packet; spaces if no packet of the row was received.
abbrev pub row_or_blank : Option (List ℕ) → List ℕ
row_or_blank None = blank_row
row_or_blank (Some p) = codes_of p

-- The listener's C11, open page, sub-code, received rows and shown page are those that follow from
-- the packets received so far, `heard`.
pub record Knows (heard : List (List ℕ)) (s : Listener) : Type 0 where
  pub serial_eq : s.serial ≡ option_map (λ (h : Header). c11 h) (first_header heard)
  pub open_eq : s.is_open ≡ is_open_after (kind s.watched.page) heard
  pub subcode_eq :
      s.subcode ≡ option_map (λ (h : Header). h.subcode) (last_header s.watched.page heard)
  -- The rows received while the page was open, since the last header that starts a new text, if
  -- any, with the codes of each row's first packet.
  pub sent_eq : (row : ℕ) → 1 ≤ row → row ≤ 24
      → slice_index_or s.sent (row - 1) false
      ≡ is_some
      (first_packet_of_row s.watched.page (text_span s.watched.keeps (kind s.watched.page) heard)
      row)
  pub page_is : (row : ℕ) → 1 ≤ row → row ≤ 24
      → row_at s.comparison.page row
      ≡ row_or_blank
      (first_packet_of_row s.watched.page (text_span s.watched.keeps (kind s.watched.page) heard)
      row)
  -- The rows received since the last header of the page, while the page was open.
  pub again_is : (row : ℕ) → 1 ≤ row → row ≤ 24
      → slice_index_or s.again (row - 1) false ≡ has_row s.watched.page heard row

-- The first n of `packets` break no rule when they are sent after the packets `before`.
abbrev pub BreakNoRule : Watched → List (List ℕ) → List (List ℕ) → ℕ → Type 0
BreakNoRule w before packets n =
    (k : ℕ) → k < n → broken_rules w (before ++ take k packets) (slice_index_or packets k []) ≡ []

-- The packets `last`, the last ones received, begin with a header that starts a new text, contain
-- `headers` headers of the page, and break no rule.
pub record LastPacketsAreClean (w : Watched) (heard last : List (List ℕ)) (headers : ℕ) : Type 0
  where
    pub before : List (List ℕ)
    pub heard_eq : heard ≡ before ++ last
    pub begins : BeginsWithHeader w last
    pub clean : BreakNoRule w before last (length last)
    pub count : header_count w.page last ≡ headers

-- The frame has a header that starts a new text: among `packets`, which begin with packet number
-- `from` of the frame, or among the packets of the frame before them. `before` says whether the
-- latter is so; it is ignored if `from` is 0, since then there are none.
abbrev pub frame_has_text_beginning : Watched → ℕ → Bool → List (List ℕ) → Bool
frame_has_text_beginning w from before packets =
    (nat_lt 0 from && before) || has_text_beginning w.keeps (kind w.page) packets

-- The listener's state agrees with all packets received, `heard`. If `s.last` is not `None`, it
-- also agrees with the packets of the last PES packet, `last`, and `s.begun` is true.
pub record KnowsLast (heard last : List (List ℕ)) (s : Listener) : Type 0 where
  pub knows : Knows heard s
  pub last_is : (headers : ℕ) → s.last ≡ Some headers → LastPacketsAreClean s.watched heard last
      headers
  pub started_eq : (headers : ℕ) → s.last ≡ Some headers → s.begun ≡ true

-- ---- packets that can be skipped

-- A header with the C11 `serial` has the same C11 (magazine serial) as the first page header that
-- could be decoded; false if there was none.
abbrev pub has_first_mode : Option Bool → Bool → Bool
has_first_mode None serial = false
has_first_mode (Some first) serial = is_same_bit first serial

-- A page header can be skipped: it has the C11 of the first page header that could be decoded, is
-- no header of the page, and does not end the open page.
abbrev pub can_skip_header : ℕ → Header → Listener → Bool
can_skip_header magazine h s =
    has_first_mode s.serial (c11 h)
    && (if s.is_open then not (magazine == s.watched.page.magazine) && not (c11 h)
    else not (magazine == s.watched.page.magazine && h.page == s.watched.page.page))

-- The packet p, received after `heard`, breaks no rule, and the listener's state agrees with the
-- packets up to p.
pub record CanBeSkipped (heard : List (List ℕ)) (p : List ℕ) (s : Listener) : Type 0 where
  pub breaks_none : rule_set (λ r. breaks r s.watched heard p) packet_rules ≡ 0
  pub knows : Knows (heard ++ p ∷ []) s

-- The packet p can always be skipped in state s: it is no header of the page, breaks no rule, and
-- does not change the state.
pub record CanAlwaysBeSkipped (p : List ℕ) (s : Listener) : Type 0 where
  pub no_header : is_this_page (kind s.watched.page p) ≡ false
  pub skipped : (heard : List (List ℕ)) → Knows heard s → CanBeSkipped heard p s
