-- If packets that begin with a header that erases the page are sent again, they break the same
-- rules, and the listener's state stays the same.
use Rattle.std.proofs.lemmas.Bool.Decides.{nat_tests}
use Rattle.std.proofs.Common.{◌≡◌, ℕ, zero, suc, ◌<◌, Bool, true, not, ◌&&◌, ◌||◌, cond, List, []}
use Rattle.std.proofs.Common.{◌∷◌}
use Rattle.std.proofs.Common.{◌++◌, Option, Some, None, option_map, length, get_or}
use Rattle.std.proofs.Common.{refl, sym, ap, ◌∙◌, subst, arith, append-nil}
use Rattle.std.specs.List.{filter}
use Rattle.std.specs.Option.{option_or}
use Rattle.std.proofs.lemmas.Bool.{or_left}
use Rattle.ttx_packet.specs.PageHeader.{c4, c11, header}
use Rattle.ttx_packet.specs.declared.header.Header.{Header}
use Rattle.ttx_page.specs.declared.packet_kind.PacketKind.TheVariants.{ThisPage}
use Rattle.ttx_page.specs.PacketKind.{begins_text, is_this_page, kind}
use Rattle.ttx_page.specs.Span.{before_page_end, has_text_beginning}
use Rattle.ttx_page.proofs.SpanListLemmas.{after-append, holds-append_right}
use Rattle.ttx_page.proofs.TextSpan.{text_begins_at_header}
use Rattle.sub_packets.proofs.KeptLemmas.{last_header-append, text_span-begins}
use Rattle.sub_packets.specs.Listener.{BreakNoRule, Knows, KnowsLast, LastPacketsAreClean}
use Rattle.sub_packets.specs.Listener.{frame_has_text_beginning}
use Rattle.sub_rules.specs.Kept.{last_header}
use Rattle.sub_rules.specs.PacketRules.{first_header, header_count}
use Rattle.sub_rules.specs.PacketTests.{broken_rules, breaks, has_different_mode, packet_rules}
use Rattle.sub_packets.specs.RepeatedPackets.{BeginsWithHeader, BreakSameRules}
use Rattle.sub_packets.specs.RepeatedPackets.{LawOfRepeatedPackets}
use Rattle.sub_packets.specs.RepeatedPackets.{HaveSameEffect}
use Rattle.sub_packets.specs.declared.listener.Listener.{Listener}
use Rattle.sub_rules.specs.declared.packet_rule.PacketRule.{PacketRule}
use Rattle.sub_rules.specs.declared.packet_rule.PacketRule.TheVariants as rule
use Rattle.sub_rules.specs.declared.packet_rule.Watched.{Watched}
use Rattle.sub_packets.proofs.PacketRuleLemmas.{no_enhancement}
use Rattle.sub_rules.proofs.PacketLists.{first_header-append}

header_from_numbers :
    (w : Watched) (p : List ℕ)
    → begins_text w.keeps (kind w.page p) ≡ true
    → (h : Header)
    × (header p ≡ Some h)
    × (kind w.page p ≡ ThisPage h)
    × ((c4 h || not w.keeps) ≡ true)
unfolding kind
header_from_numbers w p e = grind (arith, nat_tests)

rules_equal :
    (w : Watched) (b c : List (List ℕ)) (p : List ℕ)
    → ((r : PacketRule) → breaks r w b p ≡ breaks r w c p)
    → broken_rules w b p ≡ broken_rules w c p
unfolding broken_rules
rules_equal w b c p same = ap (λ test. filter test packet_rules) (λ k r. same r k)

breaks_equal :
    (w : Watched) (b c : List (List ℕ)) (p : List ℕ)
    → HaveSameEffect w b c
    → (r : PacketRule)
    → breaks r w b p ≡ breaks r w c p
unfolding breaks
breaks_equal w b c p same x = grind (arith, nat_tests)

state_fits_equal :
    (b c : List (List ℕ)) (s : Listener) → HaveSameEffect s.watched b c → Knows b s → Knows c s
state_fits_equal b c s same k = grind (arith, nat_tests)

first_header_is_unchanged_by_repeat : (o : Option Header) (h : Header)
    → option_or o (Some h) ≡ option_or (option_or o (Some h)) (Some h)
first_header_is_unchanged_by_repeat o h = grind arith

-- A header that is sent again breaks the rule for C11 (magazine serial) exactly if it broke that
-- rule the first time.
mode_is_the_same : (o : Option Header) (h : Header)
    → has_different_mode (option_map (λ (x : Header). c11 x) (option_or o (Some h))) (Some (c11 h))
    ≡ has_different_mode (option_map (λ (x : Header). c11 x) o) (Some (c11 h))
mode_is_the_same None h = grind (arith, nat_tests)
mode_is_the_same (Some x) h = refl

module _
    (w : Watched) (heard : List (List ℕ)) (first : List ℕ)
    (is : begins_text w.keeps (kind w.page first) ≡ true)
  where
    first_after :
        (xs others : List (List ℕ)) (h : Header)
        → header first ≡ Some h
        → first_header (xs ++ first ∷ others) ≡ option_or (first_header xs) (Some h)
    first_after xs others h e = grind (arith, first_header-append)

    is_header : is_this_page (kind w.page first) ≡ true
    is_header = text_begins_at_header w.keeps (kind w.page first) is

    last_header_after_page_header : (xs more : List (List ℕ)) (h : Header)
        → kind w.page first ≡ ThisPage h
        → last_header w.page (xs ++ first ∷ more) ≡ option_or (last_header w.page more) (Some h)
    last_header_after_page_header xs more h e =
        let both = last_header-append w.page xs (first ∷ more) in grind (arith, nat_tests)

    -- If the packet `first`, a header that erases the page, is sent again, the packets from that
    -- header on have the same effect as if `first` and `others` had not been sent before.
    alike :
        (others more : List (List ℕ))
        → HaveSameEffect w (heard ++ first ∷ more) ((heard ++ first ∷ others) ++ first ∷ more)
    alike others more =
        let h = header_from_numbers w first is in
        let has_header = or_left _ _ is_header in
        let begun = or_left _ _ is in
        let after =
        after-append (kind w.page) heard (first ∷ more) has_header
        ∙ sym (after-append (kind w.page) (heard ++ first ∷ others) (first ∷ more) has_header) in
        record {
          header_eq =
              first_after heard more h.0 h.1
              ∙ first_header_is_unchanged_by_repeat (first_header heard) h.0
              ∙ sym
              (first_after (heard ++ first ∷ others) more h.0 h.1
              ∙ ap (λ o. option_or o (Some h.0)) (first_after heard others h.0 h.1));
          last_is =
              last_header_after_page_header heard more h.0 h.2
              ∙ sym (last_header_after_page_header (heard ++ first ∷ others) more h.0 h.2);
          open_eq = grind (arith, nat_tests, holds-append_right);
          span_eq = ap (before_page_end (kind w.page)) after;
          text_eq =
              text_span-begins w.keeps w.page heard (first ∷ more) begun
              ∙ sym
              (text_span-begins w.keeps w.page (heard ++ first ∷ others) (first ∷ more) begun);
        }

    -- A header that erases the page breaks the same rules when it is sent again.
    first_again :
        (others : List (List ℕ)) (r : PacketRule)
        → breaks r w (heard ++ first ∷ others) first ≡ breaks r w heard first
    unfolding breaks
    first_again others rule.Address = refl
    first_again others rule.HeaderCode = refl
    first_again others rule.Mode =
        let h = header_from_numbers w first is in
        rw (first_after heard others h.0 h.1, h.1) (mode_is_the_same (first_header heard) h.0)
    first_again others rule.Control =
        let h = header_from_numbers w first is in
        let begins = h.3 in
        rw h.2 (grind (arith, nat_tests))
    first_again others rule.Parity =
        let h = header_from_numbers w first is in rw h.2 (grind (arith, nat_tests))
    first_again others rule.RowChanged =
        let h = header_from_numbers w first is in rw h.2 (grind (arith, nat_tests))
    first_again others rule.Enhancement = grind (
      arith,
      nat_tests,
      header_from_numbers,
      no_enhancement,
    )

    repeated_packets_break_same_rules : (others : List (List ℕ))
        → BreakSameRules w heard (heard ++ first ∷ others) (first ∷ others)
    repeated_packets_break_same_rules others zero l =
        rules_equal w (heard ++ []) ((heard ++ first ∷ others) ++ []) first
        (λ r.
        rw (append-nil heard, append-nil (heard ++ first ∷ others)) (sym (first_again others r)))
    repeated_packets_break_same_rules others (suc k) l = grind (
      arith,
      nat_tests,
      rules_equal,
      breaks_equal,
      alike,
    )

pub law_of_repeated_packets : LawOfRepeatedPackets
law_of_repeated_packets w heard packets begins =
    let first = begins.first in
    let others = begins.others in
    subst
    (λ ps. BreakSameRules w heard (heard ++ ps) ps
    × HaveSameEffect w (heard ++ ps) ((heard ++ ps) ++ ps)) (sym begins.packets_are) (
      repeated_packets_break_same_rules w heard first begins.is_header others,
      alike w heard first begins.is_header others others,
    )

leading_header_is_a_beginning : (w : Watched) (ps : List (List ℕ))
    → BeginsWithHeader w ps
    → has_text_beginning w.keeps (kind w.page) ps ≡ true
leading_header_is_a_beginning w ps begins =
    subst (λ (xs : List (List ℕ)). has_text_beginning w.keeps (kind w.page) xs ≡ true)
    (sym begins.packets_are) (or_left _ _ begins.is_header)

-- If the packets of the last PES packet begin with a header that starts a new text, broke no rule,
-- and are sent again, they break no rule again, and the listener's state stays the same.
pub received_again :
    (heard last ps : List (List ℕ)) (headers : ℕ) (s : Listener)
    → KnowsLast heard last s
    → s.last ≡ Some headers
    → last ≡ ps
    → BreakNoRule s.watched heard ps (length ps)
    × KnowsLast (heard ++ ps) ps s
    × (headers ≡ header_count s.watched.page ps)
    × ((from : ℕ) → s.begun ≡ frame_has_text_beginning s.watched from s.begun ps)
received_again heard last ps headers s known is same =
    let j = known.last_is headers is in
    let law = law_of_repeated_packets s.watched j.before last j.begins in
    let clean : BreakNoRule s.watched heard last (length last) =
    subst (λ xs. BreakNoRule s.watched xs last (length last)) (sym j.heard_eq)
    (λ k l. sym (law.0 k l) ∙ j.clean k l) in
    let alike : HaveSameEffect s.watched heard (heard ++ last) =
    subst (λ xs. HaveSameEffect s.watched xs (xs ++ last)) (sym j.heard_eq) law.1 in
    let begun = leading_header_is_a_beginning s.watched last j.begins in
    let started_eq = known.started_eq headers is in (
      subst (λ (xs : List (List ℕ)). BreakNoRule s.watched heard xs (length xs)) same clean,
      grind (arith, nat_tests, state_fits_equal, alike),
      sym j.count ∙ ap (header_count s.watched.page) same,
      λ from.
          sym
          (rw (
            started_eq,
            sym (ap (has_text_beginning s.watched.keeps (kind s.watched.page)) same),
            begun,
          )
          (grind (arith, nat_tests))),
    )

-- Let a listener whose state agrees with all packets store how many headers of the page the packets
-- `ps` contain if these begin with a header that erases the page and break no rule, and `None`
-- otherwise. Then the state also agrees with `ps` as the packets received last.
pub kept_last :
    (w : Watched) (heard ps : List (List ℕ)) (headers from : ℕ) (before begun begins clean : Bool)
    (s : Listener)
    → s.watched ≡ w
    → Knows (heard ++ ps) s
    → headers ≡ header_count w.page ps
    → (begins ≡ true
    → (0 < length ps) × (begins_text w.keeps (kind w.page (get_or ps 0 [])) ≡ true))
    → (clean ≡ true → BreakNoRule w heard ps (length ps))
    → begun ≡ frame_has_text_beginning w from before ps
    → KnowsLast (heard ++ ps) ps (record s {
      begun = begun;
      last = cond (begins && clean) (Some headers) None;
    })
kept_last w heard ps headers from before begun begins clean s same known count is none started_eq
    = record {
      knows = record {
        serial_eq = known.serial_eq;
        open_eq = known.open_eq;
        subcode_eq = known.subcode_eq;
        sent_eq = known.sent_eq;
        page_is = known.page_is;
        again_is = known.again_is;
      };
      last_is = λ m e.
          subst (λ v. LastPacketsAreClean v (heard ++ ps) ps m) (sym same) (go begins clean is none
          m e);
      started_eq = λ m e.
          let judged = go begins clean is none m e in
          let begins_here = leading_header_is_a_beginning w ps judged.begins in
          started_eq ∙ rw begins_here (grind (arith, nat_tests));
    }
  where
    first : (xs : List (List ℕ)) → 0 < length xs
        → begins_text w.keeps (kind w.page (get_or xs 0 [])) ≡ true
        → BeginsWithHeader w xs
    first [] some e = absurd (omega arith)
    first (x ∷ xs) some e = grind arith

    go :
        (b q : Bool)
        → (b ≡ true
        → (0 < length ps) × (begins_text w.keeps (kind w.page (get_or ps 0 [])) ≡ true))
        → (q ≡ true → BreakNoRule w heard ps (length ps))
        → (m : ℕ)
        → cond (b && q) (Some headers) None ≡ Some m
        → LastPacketsAreClean w (heard ++ ps) ps m
    go b q is none m e = grind (arith, nat_tests, first)
