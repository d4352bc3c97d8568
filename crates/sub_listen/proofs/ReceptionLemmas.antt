-- The packets of two joined lists that arrive are those of the first list that arrive, followed by
-- those of the second. The search for a packet that must not be lost may begin after packets that
-- may be lost.
use Rattle.std.proofs.Common.{◌≡◌, ℕ, ◌+◌, ◌<◌, ◌&&◌, true, false, not, List, [], ◌∷◌, ◌++◌, length}
use Rattle.std.proofs.Common.{get_or, drop, Option, Some, None, option_map, refl, sym, ap, ◌∙◌}
use Rattle.std.proofs.Common.{arith}
use Rattle.std.proofs.lemmas.Bool.Decides.{nat_tests}
use Rattle.std.proofs.lemmas.Bool.{and_right}
use Rattle.std.proofs.lemmas.List.{drop_more}
use Rattle.std.proofs.lemmas.List.Elements.{filter-append}
use Rattle.ttx_packet.specs.PacketAddress.{address}
use Rattle.sub_listen.specs.Reception.{Reception, packets_used_by, arriving_packets}
use Rattle.sub_listen.specs.Reception.{first_forbidden_loss, is_lost_packet}
use Rattle.sub_listen.specs.Reception.{may_be_lost_at}
use Rattle.sub_request.specs.declared.listening.Listening.{Listening}

arriving_packets-append : (r : Reception) (number : ℕ) (first more : List (List ℕ))
    → arriving_packets r number (first ++ more)
    ≡ arriving_packets r number first ++ arriving_packets r (number + length first) more
arriving_packets-append r number [] more = ap (λ n. arriving_packets r n more) (omega arith)
arriving_packets-append r number (p ∷ ps) more =
    grind (
      arith,
      nat_tests,
      length ps,
      length (p ∷ ps),
      arriving_packets-append r (number + 1) ps more,
      true,
      false,
    )

pub packets_used_by-append : (l : Listening) (number : ℕ) (first more : List (List ℕ))
    → packets_used_by l number (first ++ more)
    ≡ packets_used_by l number first ++ packets_used_by l (number + length first) more
packets_used_by-append l number first more =
    grind (arith, arriving_packets-append, filter-append)

pub packets_from_index_unfold : (ps : List (List ℕ)) (k : ℕ) (p : List ℕ)
    → k < length ps
    → p ≡ get_or ps k []
    → drop k ps ≡ p ∷ drop (k + 1) ps
packets_from_index_unfold ps k p l is = drop_more ps k [] l ∙ ap (λ (x : List ℕ). x ∷ drop (k + 1)
    ps) (sym is)

-- ---- the first packet that is lost but must not be lost

pub first_forbidden_loss-none : (r : Reception) (number : ℕ) (packets : List (List ℕ))
    → r.lost ≡ []
    → first_forbidden_loss r number packets ≡ None
first_forbidden_loss-none r number [] e = refl
first_forbidden_loss-none r number (packet ∷ packets) e =
    grind (
      arith,
      nat_tests,
      false,
      and_right,
      not,
      Some,
      option_map,
      first_forbidden_loss-none r (number + 1) packets e,
    )

later_place_is_shifted : (k : ℕ) (found : Option ℕ)
    → option_map (λ place. place + k) (option_map (λ place. place + 1) found)
    ≡ option_map (λ place. place + (k + 1)) found
later_place_is_shifted k None = refl
later_place_is_shifted k (Some place) = let e : place + 1 + k ≡ place + (k + 1) = omega arith in ap
    Some e

module _ (r : Reception) (number : ℕ) (ps : List (List ℕ)) (k : ℕ) (p : List ℕ)
    (l : k < length ps) (is : p ≡ get_or ps k [])
    (left : first_forbidden_loss r number ps
    ≡ option_map (λ place. place + k) (first_forbidden_loss r (number + k) (drop k ps))) where
  pub forbidden_loss_is_first :
      (is_lost_packet r (number + k) && not (may_be_lost_at (address p))) ≡ true
      → Some k ≡ first_forbidden_loss r number ps
  forbidden_loss_is_first lost =
      let on : 0 + k ≡ k = omega arith in
      sym (left ∙ rw (packets_from_index_unfold ps k p l is, lost) (ap Some on))

  pub forbidden_loss_is_later :
      (is_lost_packet r (number + k) && not (may_be_lost_at (address p))) ≡ false
      → first_forbidden_loss r number ps
      ≡ option_map (λ place. place + (k + 1)) (first_forbidden_loss r (number + (k + 1))
      (drop (k + 1) ps))
  forbidden_loss_is_later kept =
      let on : number + (k + 1) ≡ number + k + 1 = omega arith in
      left
      ∙ rw (packets_from_index_unfold ps k p l is, kept, on)
      (later_place_is_shifted k (first_forbidden_loss r (number + k + 1) (drop (k + 1) ps)))
