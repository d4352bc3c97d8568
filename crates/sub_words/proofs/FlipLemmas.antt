-- The bit flips that `listen` accepts change at most one bit in each byte of a packet.
use Rattle.std.proofs.Common.{◌≡◌, ◌∙◌, ap, refl, sym, subst, arith, ℕ, zero, suc, ◌<◌}
use Rattle.std.proofs.Common.{◌^◌, ◌==◌, inl, inr, Bool, true, false, List, []}
use Rattle.std.proofs.Common.{◌∷◌, ◌++◌, slice_index, Option, Some, None}
use Rattle.std.specs.Prelude.{bit_xor, if◌then◌else◌, slice_set}
use Rattle.std.specs.List.{list_any, slice_split}
use Rattle.std.proofs.lemmas.Bool.{or_parts}
use Rattle.std.proofs.lemmas.Bool.Decides.{nat_tests}
use Rattle.std.proofs.lemmas.List.{get_or-set_other}
use Rattle.std.proofs.lemmas.List.Folds.{list_any-append}
use Rattle.std.proofs.lemmas.Option.{option_and_then_some, same_Some}
use Rattle.ttx_packet.specs.OneBit.{AreNear}
use Rattle.sub_request.specs.Flips.{with_flip, with_flips}
use Rattle.sub_request.specs.declared.listening.Flip.{Flip}
use Rattle.sub_words.specs.Laws.{LawOfFlips}
use Rattle.sub_words.specs.Texts.{comma, flip_of_text, flips_of_text, is_same_byte}
use Rattle.sub_words.specs.Texts.{list_after_texts}

packet_is_near_itself : (sent : List ℕ) → AreNear sent sent
packet_is_near_itself [] = tt
packet_is_near_itself (x ∷ xs) = (inl refl, packet_is_near_itself xs)

near-set : (sent got : List ℕ) (k bit : ℕ)
    → AreNear sent got
    → slice_index got k ≡ slice_index sent k
    → bit < 8
    → AreNear sent (slice_set got k (bit_xor (slice_index got k) (2 ^ bit)))
near-set [] [] k bit near same below = near
near-set [] (g ∷ gs) k bit near same below = elim near [ ]
near-set (c ∷ cs) [] k bit near same below = elim near [ ]
near-set (c ∷ cs) (g ∷ gs) zero bit near same below =
    (inr (bit, below, ap (λ (x : ℕ). bit_xor x (2 ^ bit)) same), near.1)
near-set (c ∷ cs) (g ∷ gs) (suc k) bit near same below =
    (near.0, near-set cs gs k bit near.1 same below)

-- After one more flip, in a byte that was as sent, each byte still has at most one wrong bit.
with_flip-near : (f : Flip) (number : ℕ) (sent got : List ℕ)
    → AreNear sent got
    → (f.packet ≡ number → slice_index got f.byte ≡ slice_index sent f.byte)
    → AreNear sent (with_flip f number got)
with_flip-near f number sent got near unflipped_byte_is_as_sent = grind (arith, nat_tests, near-set)

with_flip-other : (f g : Flip) (number : ℕ) (got : List ℕ)
    → g.packet ≡ number
    → is_same_byte g f ≡ false
    → slice_index (with_flip f number got) g.byte ≡ slice_index got g.byte
with_flip-other f g number got is other = grind (arith, nat_tests, get_or-set_other)

with_flips-more : (flips : List Flip) (f : Flip) (number : ℕ) (packet : List ℕ)
    → with_flips (flips ++ f ∷ []) number packet
    ≡ with_flip f number (with_flips flips number packet)
with_flips-more [] f number packet = refl
with_flips-more (first ∷ flips) f number packet =
    with_flips-more flips f number (with_flip first number packet)

-- After these flips, each byte of the packet has at most one wrong bit, and bytes without a flip
-- have none.
record IsNoise (sent : List ℕ) (number : ℕ) (flips : List Flip) : Type 0 where
  near : AreNear sent (with_flips flips number sent)
  unflipped_byte_is_as_sent : (f : Flip)
      → f.packet ≡ number
      → list_any (is_same_byte f) flips ≡ false
      → slice_index (with_flips flips number sent) f.byte ≡ slice_index sent f.byte

IsNoise-more : (sent : List ℕ) (number : ℕ) (flips : List Flip) (f : Flip)
    → IsNoise sent number flips
    → list_any (is_same_byte f) flips ≡ false
    → IsNoise sent number (flips ++ f ∷ [])
IsNoise-more sent number flips f noise other =
    let got = with_flips flips number sent in
    record {
      near = rw with_flips-more
          (with_flip-near f number sent got noise.near (λ is. noise.unflipped_byte_is_as_sent f is
          other));
      unflipped_byte_is_as_sent = λ g is apart.
          let parts = or_parts (list_any (is_same_byte g) flips) _
          (sym (list_any-append (is_same_byte g) flips (f ∷ [])) ∙ apart) in
          rw with_flips-more (with_flip-other f g number got is (or_parts _ false parts.1).0
          ∙ noise.unflipped_byte_is_as_sent g is parts.0);
    }

else_branch_gives_value : {A : Type 0} (b : Bool) (o : Option A) (x : A)
    → (if b then None else o) ≡ Some x
    → (b ≡ false) × (o ≡ Some x)
else_branch_gives_value true o x e = cc
else_branch_gives_value false o x e = (refl, e)

list_after_texts-keeps : {A : Type 0} (parsed : List ℕ → Option A) (same : A → A → Bool)
    → (P : List A → Type 0)
    → ((items : List A) (x : A) → P items → list_any (same x) items ≡ false → P (items ++ x ∷ []))
    → (items : List A) (texts : List (List ℕ)) (all : List A)
    → P items
    → list_after_texts parsed same items texts ≡ Some all
    → P all
list_after_texts-keeps parsed same P more items [] all holds e = subst P (same_Some items all e)
    holds
list_after_texts-keeps parsed same P more items (text ∷ texts) all holds e =
    option_and_then_some _ (parsed text) all e (λ x is found.
    let parts = else_branch_gives_value (list_any (same x) items) _ all found in
    list_after_texts-keeps parsed same P more (items ++ x ∷ []) texts all
    (more items x holds parts.0)
    parts.1)

pub law_of_flips : LawOfFlips
unfolding flips_of_text
law_of_flips text flips number packet is =
    let texts = slice_split (λ c. c == comma) text in
    let read : list_after_texts flip_of_text is_same_byte [] texts ≡ Some flips =
    grind (arith, nat_tests) in
    (list_after_texts-keeps flip_of_text is_same_byte (IsNoise packet number)
    (IsNoise-more packet number) [] texts flips
    (record { near = packet_is_near_itself packet; unflipped_byte_is_as_sent = λ f is apart. refl })
    read).near
