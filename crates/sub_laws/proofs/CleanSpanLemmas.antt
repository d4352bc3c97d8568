-- If each packet is allowed after the packets before it, the packets since the page was erased are
-- clean, and conversely.
use Rattle.std.proofs.lemmas.Bool.Decides.{nat_tests}
use Rattle.std.proofs.Common.{◌≡◌, ℕ, zero, suc, ◌<◌, inl, inr, Bool, true, false, not, ◌&&◌, cond}
use Rattle.std.proofs.Common.{List, [], ◌∷◌, ◌++◌, length, take, slice_index_or, All, refl, sym, ap}
use Rattle.std.proofs.Common.{IsTrue, IsFalse, ◌∙◌, subst, arith, add-one}
use Rattle.std.proofs.lemmas.Bool.{cases_lt}
use Rattle.std.proofs.lemmas.List.{take_more, take_all, length_push}
use Rattle.std.proofs.lemmas.List.{get_or_append_left, get_or_at}
use Rattle.std.proofs.lemmas.List.Elements.{All-nil, All-push}
use Rattle.ttx_packet.specs.PageId.{PageIdValue}
use Rattle.ttx_page.specs.Noise.{HasOddParityTextIfRow, AreEqualIfSameRow}
use Rattle.ttx_page.specs.PacketKind.{begins_text, kind, is_this_page, ends_page}
use Rattle.ttx_page.specs.Span.{is_open_after, text_span}
use Rattle.ttx_page.proofs.TextSpan.{text_span-push}
use Rattle.sub_rules.specs.Good.{IsEnhancement, IsCleanSpan}

pub record MayFollow (page : PageIdValue) (packets : List (List ℕ)) (packet : List ℕ) : Type 0 where
  pub odd : HasOddParityTextIfRow page packet
  pub same : All (λ earlier. AreEqualIfSameRow page earlier packet) packets
  pub plain : IsEnhancement page packet → ⊥

-- Each packet that arrives while the page is open, and is neither a header of the page nor ends the
-- page, is allowed after the packets since the page was erased.
abbrev pub EachMayFollow : Bool → PageIdValue → List (List ℕ) → Type 0
EachMayFollow keeps page packets =
    (i : ℕ) (d : List ℕ)
    → i < length packets
    → IsTrue (is_open_after (kind page) (take i packets))
    → IsFalse (is_this_page (kind page (slice_index_or packets i d)))
    → IsFalse (ends_page (kind page (slice_index_or packets i d)))
    → MayFollow page (text_span keeps (kind page) (take i packets)) (slice_index_or packets i d)

push_clean :
    (page : PageIdValue) (packets : List (List ℕ)) (packet : List ℕ)
    → IsCleanSpan page packets
    → MayFollow page packets packet
    → IsCleanSpan page (packets ++ packet ∷ [])
push_clean page packets packet clean follows = record {
  odd = All-push (HasOddParityTextIfRow page) packets packet clean.odd follows.odd;
  same =
      All-push (λ first. All (AreEqualIfSameRow page first) (packets ++ packet ∷ [])) packets packet
      (λ k d l. All-push (AreEqualIfSameRow page (slice_index_or packets k d)) packets packet
      (clean.same k d l) (follows.same k d l))
      (grind (arith, nat_tests, All-push (AreEqualIfSameRow page packet) packets packet));
  plain = All-push (λ p. IsEnhancement page p → ⊥) packets packet clean.plain follows.plain;
}

pub last_clean :
    (page : PageIdValue) (packets : List (List ℕ)) (packet : List ℕ)
    → IsCleanSpan page (packets ++ packet ∷ [])
    → MayFollow page packets packet
last_clean page packets packet clean =
    let n : ℕ = length packets in
    let within : n < length (packets ++ packet ∷ []) =
    subst (λ m. n < m) (sym (length_push packets packet)) (omega arith) in
    let at : (d : List ℕ) → slice_index_or (packets ++ packet ∷ []) n d ≡ packet =
    λ d. get_or_at packets packet [] d n refl in
    record {
      odd = subst (HasOddParityTextIfRow page) (at []) (clean.odd n [] within);
      same = λ k d l.
          let before : slice_index_or (packets ++ packet ∷ []) k d ≡ slice_index_or packets k d =
          get_or_append_left packets (packet ∷ []) d k l in
          let far : k < length (packets ++ packet ∷ []) =
          subst (λ m. k < m) (sym (length_push packets packet)) (omega arith) in
          subst (λ p. AreEqualIfSameRow page p packet) before
          (subst (AreEqualIfSameRow page (slice_index_or (packets ++ packet ∷ []) k d)) (at [])
          (clean.same k d far n [] within));
      plain = subst (λ p. IsEnhancement page p → ⊥) (at []) (clean.plain n [] within);
    }

empty_span_is_clean : (page : PageIdValue) → IsCleanSpan page []
empty_span_is_clean page = record { odd = All-nil _; same = All-nil _; plain = All-nil _ }

text_span_after_packet :
    (keeps : Bool) (page : PageIdValue) (packets : List (List ℕ)) (packet : List ℕ)
    → IsCleanSpan page (text_span keeps (kind page) packets)
    → (is_open_after (kind page) packets ≡ true
    → is_this_page (kind page packet) ≡ false
    → ends_page (kind page packet) ≡ false
    → MayFollow page (text_span keeps (kind page) packets) packet)
    → IsCleanSpan page (text_span keeps (kind page) (packets ++ packet ∷ []))
text_span_after_packet keeps page packets packet clean follows =
    subst (IsCleanSpan page) (sym (text_span-push (kind page) keeps packets packet))
    (go (begins_text keeps (kind page packet)) (is_open_after (kind page) packets)
    (is_this_page (kind page packet)) (ends_page (kind page packet)) refl refl refl)
  where
    go :
        (b o t e : Bool)
        → is_open_after (kind page) packets ≡ o
        → is_this_page (kind page packet) ≡ t
        → ends_page (kind page packet) ≡ e
        → IsCleanSpan page
        (cond b []
        (cond (o && not t && not e) (text_span keeps (kind page) packets ++ packet ∷ [])
        (text_span keeps (kind page) packets)))
    go true o t e p q r = empty_span_is_clean page
    go false true false false p q r =
        push_clean page (text_span keeps (kind page) packets) packet clean (follows p q r)
    go false true false true p q r = clean
    go false true true e p q r = clean
    go false false t e p q r = clean

-- If each packet is allowed after the packets before it, the packets since the page was erased are
-- clean at every place of the list.
pub clean_cuts :
    (keeps : Bool) (page : PageIdValue) (packets : List (List ℕ))
    → EachMayFollow keeps page packets
    → (n : ℕ)
    → IsCleanSpan page (text_span keeps (kind page) (take n packets))
clean_cuts keeps page packets each zero = empty_span_is_clean page
clean_cuts keeps page packets each (suc n) =
    let ih = clean_cuts keeps page packets each n in
    elim (cases_lt n (length packets)) [
      | inl within ↦
          let more : take (suc n) packets ≡ take n packets ++ slice_index_or packets n [] ∷ [] =
          ap (λ m. take m packets) (sym (add-one n)) ∙ take_more packets n [] within in
          subst (λ ps. IsCleanSpan page (text_span keeps (kind page) ps)) (sym more)
          (text_span_after_packet keeps page (take n packets) (slice_index_or packets n []) ih
          (each n [] within))
      | inr past ↦
          grind (arith, nat_tests, take_all)
    ]
