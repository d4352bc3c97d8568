-- The parser makes its checks in the order of their numbers: a PES packet can be parsed exactly if
-- the bytes pass all tests, and the first failed test determines the fault.
use Rattle.std.proofs.Common.{◌≡◌, ℕ, zero, suc, ◌+◌, ◌-◌, ◌*◌, ◌/◌, ◌%◌, ◌<◌, Bool, true, false}
use Rattle.std.proofs.Common.{cond, not, eqb, leb, ltb, List, [], ◌∷◌, length, get_or, take, drop}
use Rattle.std.proofs.Common.{Option, Some, None, Result, Ok, Err, refl, sym, ap, ◌∙◌, arith, inl}
use Rattle.std.proofs.Common.{inr, ◌⊎◌, length-take, length-drop}
use Rattle.std.proofs.lemmas.Bool.Decides.{nat_tests}
use Rattle.std.proofs.lemmas.Bool.{cases_Bool, cases_lt, and_parts, eqb-true, lt-ltb, le-ltb}
use Rattle.std.proofs.lemmas.List.{get_or-drop, get_or-take, get_or_past}
use Rattle.std.specs.Prelude.{◌&&◌, ◌||◌}
use Rattle.sub_io.specs.Reading.{◌>>=◌}
use Rattle.ttx_pes.specs.declared.fault.PesFault.{PesFault}
use Rattle.ttx_pes.specs.declared.fault.PesFault.TheVariants as fault
use Rattle.ttx_pes.specs.DataUnit.{UnitValue, is_teletext}
use Rattle.ttx_pes.specs.LineOrder.{last_place, line_order_place, may_follow}
use Rattle.ttx_pes.specs.PesGrammar.{PesValue}
use Rattle.ttx_pes.specs.Reading.{flags_fault, is_start, packet_at, pts_at, size_at, stated_size}
use Rattle.ttx_pes.specs.Reading.{teletext_at, unit_at, units_at, value_at}
use Rattle.ttx_pes.specs.Refusal.{fault_of_check, unit_faults}
use Rattle.ttx_pes.proofs.LineOrderLemmas.{last_place-push}

-- `first_failed_test` returns the fault of the first failed test of the list, or `None` if all
-- pass. The first test of the list has number i.
abbrev pub first_failed_test : List ℕ → ℕ → List Bool → Option PesFault
first_failed_test b i [] = None
first_failed_test b i (t ∷ ts) = cond (not t) (Some (fault_of_check b i))
    (first_failed_test b (i + 1) ts)

-- All tests of the list before test number i pass.
abbrev pub PassBelow : List Bool → ℕ → Type 0
PassBelow ts i = (j : ℕ) → j < i → get_or ts j true ≡ true

-- A test of the list fails, and all tests before it pass.
pub record FirstFailedTest (b : List ℕ) (i : ℕ) (ts : List Bool) : Type 0 where
  pub at : ℕ
  pub earlier_pass : PassBelow ts at
  pub wrong : get_or ts at true ≡ false
  pub reported : first_failed_test b i ts ≡ Some (fault_of_check b (i + at))

passing_test_extends_prefix : (ts : List Bool) (n : ℕ) → PassBelow ts n → PassBelow (true ∷ ts)
    (suc n)
passing_test_extends_prefix ts n h u lt = grind (arith, nat_tests)

pub all_pass_or_first_fails : (b : List ℕ) (i : ℕ) (ts : List Bool)
    → (((j : ℕ) → get_or ts j true ≡ true) × (first_failed_test b i ts ≡ None)) ⊎ FirstFailedTest b
    i ts
all_pass_or_first_fails b i [] = inl (λ j. refl, refl)
all_pass_or_first_fails b i (false ∷ ts) = inr (record {
  at = 0;
  earlier_pass = λ j lt. absurd (omega arith);
  wrong = refl;
  reported =
      let number : i ≡ i + 0 = omega arith in
      ap (λ (n : ℕ). Some (fault_of_check b n)) number;
})
all_pass_or_first_fails b i (true ∷ ts) = elim (all_pass_or_first_fails b (i + 1) ts) [
  | inl all ↦ inl (λ j. passing_test_extends_prefix ts j (λ k lt. all.0 k) j (omega arith), all.1)
  | inr found ↦ inr (record {
    at = suc found.at;
    earlier_pass = passing_test_extends_prefix ts found.at found.earlier_pass;
    wrong = found.wrong;
    reported = grind (arith, nat_tests);
  })
]

abbrev pub unit_place : ℕ → ℕ → ℕ
unit_place k i = 46 + (46 * k + i)

abbrev pub unit_byte : List ℕ → ℕ → ℕ → ℕ
unit_byte b k i = get_or b (unit_place k i) 0

abbrev unit_with_line : ℕ → ℕ → UnitValue
unit_with_line b0 b2 = record {
  id = b0;
  field = cond (eqb ((b2 / 32) % 2) 1) 1 2;
  line = b2 % 32;
  packet = [];
}

abbrev pub next_place : ℕ → ℕ → ℕ → ℕ
next_place before b0 b2 =
    let u = unit_with_line b0 b2 in
    cond (is_teletext u.id) (cond (eqb u.line 0) before (line_order_place u)) before

-- `units_tests` are the tests of n data units from number k on. The first unit must follow the line
-- order position `before`.
abbrev pub units_tests : List ℕ → ℕ → ℕ → ℕ → List Bool
units_tests b zero k before = []
units_tests b (suc n) k before =
    eqb (unit_byte b k 1) 44
    ∷ (not (is_teletext (unit_byte b k 0)) || eqb (unit_byte b k 3) 228)
    ∷ (not (is_teletext (unit_byte b k 0))
    || may_follow before (unit_with_line (unit_byte b k 0) (unit_byte b k 2)))
    ∷ units_tests b n (suc k) (next_place before (unit_byte b k 0) (unit_byte b k 2))

abbrev body_tests : List ℕ → ℕ → List Bool
body_tests b n =
    eqb (get_or b 6 0 / 16) 8
    ∷ eqb (get_or b 7 0 / 64) 2
    ∷ eqb (get_or b 8 0) 36
    ∷ (eqb (get_or b 9 0 / 16) 2 && eqb (get_or b 9 0 % 2) 1 && eqb (get_or b 11 0 % 2) 1
    && eqb (get_or b 13 0 % 2) 1)
    ∷ eqb (get_or b 45 0 / 16) 1
    ∷ units_tests b n 0 0

abbrev pub size_is_right : List ℕ → Bool
size_is_right b = eqb (stated_size b % 184) 0 && leb (stated_size b) 1656

abbrev pub tests : List ℕ → ℕ → List Bool
tests b n =
    not (ltb (length b) 6)
    ∷ is_start b
    ∷ size_is_right b
    ∷ not (ltb (length b) (stated_size b))
    ∷ body_tests b n

abbrev pub stated_units : List ℕ → ℕ
stated_units b = stated_size b / 46 - 1

abbrev pub refusal : {A : Type 0} → Result A PesFault → Option PesFault
refusal (Ok x) = None
refusal (Err f) = Some f

check_of_unit_gives_unit_fault : (b : List ℕ) (i k r : ℕ) → r < 3 → i ≡ 9 + 3 * k + r
    → fault_of_check b i ≡ get_or unit_faults r fault.Truncated
check_of_unit_gives_unit_fault b i k r lt e = grind (arith, nat_tests, get_or_past)

-- The n data units from number k on can be parsed exactly if all their tests pass; otherwise the
-- fault is that of the first failed test.
unit_tests_find_fault : (n k i before : ℕ) (prefix : List UnitValue) (b d : List ℕ)
    → i ≡ 9 + 3 * k
    → last_place 0 prefix ≡ before
    → ((j : ℕ) → j < 46 * n → get_or d j 0 ≡ get_or b (46 + (46 * k + j)) 0)
    → refusal (units_at n prefix d) ≡ first_failed_test b i (units_tests b n k before)
unfolding units_at unit_at teletext_at
unit_tests_find_fault zero k i before prefix b d number last same = refl
unit_tests_find_fault (suc n) k i before prefix b d number last same =
    let x = take 46 d in
    let at : (j : ℕ) → j < 46 → unit_byte b k j ≡ get_or x j 0 = λ j lt.
    sym (get_or-take 46 d j 0 lt ∙ same j (omega arith)) in
    let e1 = at 1 (omega arith) in
    let e2 = at 2 (omega arith) in
    let e3 = at 3 (omega arith) in
    let f0 = check_of_unit_gives_unit_fault b i k 0 (omega arith) (omega arith) in
    let f1 = check_of_unit_gives_unit_fault b (i + 1) k 1 (omega arith) (omega arith) in
    let f2 = check_of_unit_gives_unit_fault b (i + 1 + 1) k 2 (omega arith) (omega arith) in
    let rest : (j : ℕ) → j < 46 * n → get_or (drop 46 d) j 0 ≡ get_or b (46 + (46 * suc k + j)) 0 =
    λ j lt. get_or-drop 46 d j 0 ∙ same (46 + j) (omega arith)
    ∙ ap (λ (p : ℕ). get_or b p 0) (omega arith) in
    let on : (us : List UnitValue) (p : ℕ) → last_place 0 us ≡ p
    → refusal (units_at n us (drop 46 d))
    ≡ first_failed_test b (i + 1 + 1 + 1) (units_tests b n (suc k) p) = λ us p e.
    unit_tests_find_fault n (suc k) (i + 1 + 1 + 1) p us b (drop 46 d) (omega arith) e rest in
    grind (arith, nat_tests, cases_Bool, last_place-push)

fault_test_comes_first : {A B : Type 0} (c : Bool) (f : PesFault) (r : Result A PesFault)
    (g : A → Result B PesFault)
    → (cond c (Err f) r >>= g) ≡ cond c (Err f) (r >>= g)
fault_test_comes_first c f r g = grind (arith, nat_tests)

refusal-test : {A : Type 0} (c : Bool) (f : PesFault) (r : Result A PesFault)
    → refusal (cond c (Err f) r) ≡ cond c (Some f) (refusal r)
refusal-test c f r = grind (arith, nat_tests)

not-not : (c : Bool) → not (not c) ≡ c
not-not c = grind (arith, nat_tests)

-- The bytes of a PES packet from byte 6 on can be parsed exactly if all tests pass; otherwise the
-- fault is that of the first failed test.
body_tests_find_fault : (n : ℕ) (b y rest : List ℕ)
    → length y ≡ 40 + 46 * n
    → ((i : ℕ) → i < 40 + 46 * n → get_or y i 0 ≡ get_or b (6 + i) 0)
    → fault_of_check b 4 ≡ flags_fault y
    → refusal {A = PesValue × List ℕ} (value_at y >>= λ v. Ok (v, rest))
    ≡ first_failed_test b 4 (body_tests b n)
unfolding value_at pts_at
body_tests_find_fault n b y rest len same flags =
    let count : length (drop 40 y) / 46 ≡ n = rw length-drop (omega arith) in
    let units = unit_tests_find_fault n 0 9 0 [] b (drop 40 y) refl refl (λ i lt. get_or-drop 40 y i
    0
    ∙ same (40 + i) (omega arith) ∙ ap (λ (j : ℕ). get_or b j 0) (omega arith)) in
    grind (arith, nat_tests)

-- A PES packet can be parsed exactly if all tests pass; otherwise the fault is that of the first
-- failed test.
pub packet_tests_find_fault : (b : List ℕ)
    → refusal (packet_at b) ≡ first_failed_test b 0 (tests b (stated_units b))
unfolding packet_at size_at
packet_tests_find_fault b =
    simp (fault_test_comes_first, refusal-test, not-not)
    (rw (get_or-take 6 b 0 0 (omega arith), get_or-take 6 b 1 0 (omega arith))
    (rw (get_or-take 6 b 2 0 (omega arith), get_or-take 6 b 3 0 (omega arith))
    (rw (get_or-take 6 b 4 0 (omega arith), get_or-take 6 b 5 0 (omega arith))
    (elim (cases_Bool (size_is_right b)) [
      | inr wrong ↦ rw wrong refl
      | inl reported ↦ elim (cases_lt (length b) (stated_size b)) [
        | inl cut ↦ rw (reported, lt-ltb (length b) (stated_size b) cut) refl
        | inr all ↦
            let y = take (stated_size b - 6) (drop 6 b) in
            let whole : stated_size b % 184 ≡ 0 = eqb-true _ _ (and_parts _ _ reported).0 in
            let len : length y ≡ 40 + 46 * (stated_size b / 46 - 1) =
            rw (length-take, length-drop) (omega arith) in
            let body = body_tests_find_fault _ b y (drop (stated_size b) b) len (λ i lt.
            get_or-take (stated_size b - 6) (drop 6 b) i 0 (omega arith)
            ∙ get_or-drop 6 b i 0)
            (ap (λ (n : ℕ). flags_fault (take n (drop 6 b))) (omega arith)) in
            rw (reported, le-ltb (length b) (stated_size b) all, body) refl
      ]
    ]))))
