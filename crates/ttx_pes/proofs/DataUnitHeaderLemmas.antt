-- Data fields with equal data unit headers have their Teletext units at the same offsets.
use Rattle.std.proofs.Common.{◌≡◌, ℕ, zero, suc, ◌+◌, ◌-◌, ◌*◌, ◌/◌, ◌%◌, ◌<◌, ◌≤◌, List, []}
use Rattle.std.proofs.Common.{◌∷◌, ◌++◌}
use Rattle.std.proofs.Common.{length, take, drop, get_or, cond, Ok, refl, sym, ap, subst, ◌∙◌}
use Rattle.std.proofs.Common.{append_assoc, arith, length-drop}
use Rattle.std.proofs.lemmas.Bool.Decides.{nat_tests}
use Rattle.std.proofs.lemmas.List.{append-nil, drop-drop, get_or-drop, get_or-take, map-append}
use Rattle.sub_io.specs.Reading.{◌>>=◌}
use Rattle.ttx_pes.specs.DataUnit.{UnitValue, is_teletext}
use Rattle.ttx_pes.specs.LineOrder.{last_place}
use Rattle.ttx_pes.specs.Reading.{teletext_at, unit_at, unit_of, units_at}
use Rattle.ttx_pes.specs.SentUnits.{sent_units}
use Rattle.ttx_pes.specs.Accepting.{AreAllUnitPlaces, HaveSameUnitHeaders, DecodesToUnits}
use Rattle.ttx_pes.specs.Accepting.{HasSameUnitHeader, teletext_place}
use Rattle.ttx_pes.specs.Accepting.{teletext_places}
use Rattle.ttx_pes.proofs.LineOrderLemmas.{last_place-push}
use Rattle.sub_io.proofs.ReadingLemmas.{ok_chain_has_value}

pub equal_words_have_equal_bytes : (a b : List ℕ) (at : ℕ)
    → ((i : ℕ) → get_or a i 0 < 256)
    → ((i : ℕ) → get_or b i 0 < 256)
    → get_or (drop at a) 0 0 + 256 * (get_or (drop at a) 1 0 + 256 * (get_or (drop at a) 2 0
    + 256 * (get_or (drop at a) 3 0 + 256 * 0)))
    ≡ get_or (drop at b) 0 0 + 256 * (get_or (drop at b) 1 0 + 256 * (get_or (drop at b) 2 0
    + 256 * (get_or (drop at b) 3 0 + 256 * 0)))
    → HasSameUnitHeader a b at
equal_words_have_equal_bytes a b at h1 h2 h3 = grind (arith, nat_tests, get_or-drop)

pub first_three_headers_match : (a b : List ℕ)
    → HasSameUnitHeader a b 1
    → HasSameUnitHeader a b (1 + 46)
    → HasSameUnitHeader a b (1 + 92)
    → (k : ℕ)
    → k < 3
    → HasSameUnitHeader a b (46 * k + 1)
first_three_headers_match a b h1 h2 h3 k h4 = grind (arith, nat_tests)

pub all_headers_match : (a b : List ℕ) (n : ℕ)
    → (length a + 45) % 184 ≡ 0
    → 139 ≤ length a
    → (length a - 139) / 184 ≤ n
    → ((k : ℕ) → k < 3 + 4 * n → HasSameUnitHeader a b (46 * k + 1))
    → HaveSameUnitHeaders a b
all_headers_match a b n whole long all same k l = same k (omega arith)

pub four_more_headers_match : (a b : List ℕ) (i : ℕ)
    → ((k : ℕ) → k < 3 + 4 * i → HasSameUnitHeader a b (46 * k + 1))
    → HasSameUnitHeader a b (139 + 184 * i)
    → HasSameUnitHeader a b (139 + 184 * i + 46)
    → HasSameUnitHeader a b (139 + 184 * i + 92)
    → HasSameUnitHeader a b (139 + 184 * i + 138)
    → (k : ℕ)
    → k < 3 + 4 * (i + 1)
    → HasSameUnitHeader a b (46 * k + 1)
four_more_headers_match a b i h1 h2 h3 h4 h5 k h6 = grind (arith, nat_tests)

pub places_extend_by_unit : (count k at : ℕ) (field places more : List ℕ)
    → k < count
    → at ≡ 1 + 46 * k
    → more ≡ places ++ teletext_place at field
    → more ++ teletext_places (count - (k + 1)) (1 + 46 * (k + 1)) field
    ≡ places ++ teletext_places (count - k) (1 + 46 * k) field
unfolding teletext_places
places_extend_by_unit count k at field places more l is e =
    let left : count - k ≡ suc (count - (k + 1)) = omega arith in
    let next : 1 + 46 * (k + 1) ≡ 1 + 46 * k + 46 = omega arith in
    rw (e, is, left, next)
    (append_assoc places (teletext_place (1 + 46 * k) field)
    (teletext_places (count - (k + 1)) (1 + 46 * k + 46) field))

pub no_places_left : (count k at : ℕ) (field places : List ℕ)
    → count ≤ k
    → places ++ teletext_places (count - k) at field ≡ places
unfolding teletext_places
no_places_left count k at field places l = grind (arith, nat_tests, append-nil)

pub empty_field_has_no_places : teletext_places 0 1 [] ≡ []
unfolding teletext_places
empty_field_has_no_places = refl

block_keeps_byte : (a : List ℕ) (at r : ℕ)
    → r < 46
    → get_or (take 46 (drop at a)) r 0 ≡ get_or a (at + r) 0
block_keeps_byte a at r l = get_or-take 46 (drop at a) r 0 l ∙ get_or-drop at a r 0

abbrev decoded_unit_list : List ℕ → List UnitValue
decoded_unit_list b = cond (is_teletext (get_or b 0 0)) (unit_of b ∷ []) []

-- The data unit b can be parsed after the units `us`, and leads to the line order position of the
-- units `more`.
record ReadsSameHead (us more : List UnitValue) (b : List ℕ) : Type 0 where
  pub read : unit_at us b ≡ Ok (us ++ decoded_unit_list b)
  pub last : last_place 0 more ≡ last_place 0 (us ++ decoded_unit_list b)

equal_headers_decode_equally : (b c : List ℕ) (us vs more : List UnitValue)
    → get_or b 0 0 ≡ get_or c 0 0
    → get_or b 1 0 ≡ get_or c 1 0
    → get_or b 2 0 ≡ get_or c 2 0
    → get_or b 3 0 ≡ get_or c 3 0
    → last_place 0 us ≡ last_place 0 vs
    → unit_at us b ≡ Ok more
    → ReadsSameHead vs more c
unfolding unit_at teletext_at
equal_headers_decode_equally b c us vs more e0 e1 e2 e3 last e =
    grind (arith, nat_tests, append-nil, last_place-push)

data_unit_gives_sent_unit : (field : List ℕ) (at : ℕ)
    → decoded_unit_list (take 46 (drop at field)) ≡ sent_units field (teletext_place at field)
data_unit_gives_sent_unit field at = grind (arith, nat_tests, block_keeps_byte field at 0)

-- If n data units can be parsed after the units `us`, n data units with the same headers can be
-- parsed after the units `vs`, provided that `us` and `vs` end at the same line order position.
equal_headers_let_units_decode : (n at : ℕ) (a b : List ℕ) (us vs all : List UnitValue)
    → ((k : ℕ) → k < n → HasSameUnitHeader a b (46 * k + at))
    → last_place 0 us ≡ last_place 0 vs
    → units_at n us (drop at a) ≡ Ok all
    → units_at n vs (drop at b) ≡ Ok (vs ++ sent_units b (teletext_places n at b))
unfolding units_at teletext_places
equal_headers_let_units_decode zero at a b us vs all same last e = ap (λ us. Ok us)
    (sym (append-nil vs))
equal_headers_let_units_decode (suc n) at a b us vs all same last e =
    let p =
    ok_chain_has_value (unit_at us (take 46 (drop at a))) (λ x. units_at n x (drop 46 (drop at a)))
    all e in
    let first : 46 * 0 + at ≡ at = omega arith in
    let head = subst (HasSameUnitHeader a b) first (same 0 (omega arith)) in
    let none : at + 0 ≡ at = omega arith in
    let here =
    equal_headers_decode_equally (take 46 (drop at a)) (take 46 (drop at b)) us vs p.0
    (block_keeps_byte a at 0 (omega arith) ∙ ap (λ n. get_or a n 0) none ∙ head.id
    ∙ sym (block_keeps_byte b at 0 (omega arith) ∙ ap (λ n. get_or b n 0) none))
    (block_keeps_byte a at 1 (omega arith) ∙ head.size ∙ sym (block_keeps_byte b at 1
    (omega arith)))
    (block_keeps_byte a at 2 (omega arith) ∙ head.line ∙ sym (block_keeps_byte b at 2
    (omega arith)))
    (block_keeps_byte a at 3 (omega arith) ∙ head.framing_code_matches ∙ sym
    (block_keeps_byte b at 3 (omega arith)))
    last p.1 in
    let next : ((k : ℕ) → k < n → HasSameUnitHeader a b (46 * k + (at + 46))) = λ k l.
    let e : 46 * suc k + at ≡ 46 * k + (at + 46) = omega arith in
    subst (HasSameUnitHeader a b) e (same (suc k) (omega arith)) in
    let following : (c : List ℕ) → drop 46 (drop at c) ≡ drop (at + 46) c =
    λ c. drop-drop 46 at c ∙ ap (λ n. drop n c) (omega arith) in
    let rest =
    equal_headers_let_units_decode n (at + 46) a b p.0
    (vs ++ decoded_unit_list (take 46 (drop at b))) all next here.last
    (ap (units_at n p.0) (sym (following a)) ∙ p.2) in
    let joined =
    append_assoc vs (sent_units b (teletext_place at b))
    (sent_units b (teletext_places n (at + 46) b)) in
    let mapped =
    map-append (λ k. unit_of (take 46 (drop k b))) (teletext_place at b)
    (teletext_places n (at + 46) b) in
    ap (λ r. r >>= λ x. units_at n x (drop 46 (drop at b))) here.read
    ∙ ap (units_at n (vs ++ decoded_unit_list (take 46 (drop at b)))) (following b)
    ∙ rest
    ∙ ap (λ us. Ok us) (ap (λ one. (vs ++ one) ++ sent_units b (teletext_places n (at + 46) b))
    (data_unit_gives_sent_unit b at) ∙ joined ∙ ap (λ us. vs ++ us) (sym mapped))

equal_headers_have_same_places : (n at : ℕ) (a b : List ℕ)
    → ((k : ℕ) → k < n → HasSameUnitHeader a b (46 * k + at))
    → teletext_places n at a ≡ teletext_places n at b
unfolding teletext_places
equal_headers_have_same_places zero at a b same = refl
equal_headers_have_same_places (suc n) at a b same =
    let first : 46 * 0 + at ≡ at = omega arith in
    let head = subst (HasSameUnitHeader a b) first (same 0 (omega arith)) in
    let next : ((k : ℕ) → k < n → HasSameUnitHeader a b (46 * k + (at + 46))) = λ k l.
    let e : 46 * suc k + at ≡ 46 * k + (at + 46) = omega arith in
    subst (HasSameUnitHeader a b) e (same (suc k) (omega arith)) in
    let rest = equal_headers_have_same_places n (at + 46) a b next in
    rw (head.id, rest) refl

-- If a data field can be parsed, a data field of the same length with the same data unit headers
-- can be parsed too, and has its Teletext units at the same offsets.
pub equal_headers_share_places : (a b places : List ℕ)
    → length a ≡ length b
    → 0 < length a
    → HaveSameUnitHeaders a b
    → AreAllUnitPlaces a places
    → DecodesToUnits a (sent_units a places)
    → AreAllUnitPlaces b places
    × (units_at (length (drop 1 b) / 46) [] (drop 1 b) ≡ Ok (sent_units b places))
equal_headers_share_places a b places size some same is units =
    let n : ℕ = length (drop 1 a) / 46 in
    let heads : ((k : ℕ) → k < n → HasSameUnitHeader a b (46 * k + 1)) =
    λ k l. same k (omega (arith, length-drop 1 a)) in
    let count : length (drop 1 b) / 46 ≡ n =
    ap (λ n. n / 46) (length-drop 1 b ∙ ap (λ n. n - 1) (sym size) ∙ sym (length-drop 1 a)) in
    let there = is ∙ equal_headers_have_same_places n 1 a b heads in
    let read = equal_headers_let_units_decode n 1 a b [] [] (sent_units a places) heads refl
    (units some) in
    rw count (there, read ∙ ap (λ ps. Ok (sent_units b ps)) (sym there))

pub ruleset equal_unit_headers = (
  first_three_headers_match,
  four_more_headers_match,
  all_headers_match,
)
