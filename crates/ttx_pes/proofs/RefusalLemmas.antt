-- If no PES packet can be read, the fault is that of the first check that the bytes fail.
use Rattle.std.proofs.Common.{rules, ◌≡◌, ℕ, zero, suc, ◌+◌, ◌-◌, ◌*◌, ◌/◌, ◌%◌, ◌<◌, ◌≤◌, true}
use Rattle.std.proofs.Common.{false, cond, not, ltb, List, [], ◌∷◌, ◌++◌, length, get_or, map}
use Rattle.std.proofs.Common.{None, Some}
use Rattle.std.proofs.Common.{Ok, Err, refl, sym, ap, ◌∙◌, arith, inl, inr, length-append, subst}
use Rattle.std.proofs.Math.Bool.{or-true}
use Rattle.std.proofs.lemmas.Bool.{cases_lt, eq-eqb, le-leb, le-ltb, lt-ltb}
use Rattle.std.proofs.lemmas.Bool.Decides.{nat_tests}
use Rattle.std.proofs.lemmas.List.{append-nil, get_or_append_left, get_or_past}
use Rattle.std.proofs.lemmas.List.FromFn.{get_or-map-range_with_len, length-map-range_with_len}
use Rattle.std.proofs.lemmas.Option.{same_Some}
use Rattle.std.specs.Int.{bytes_high_first}
use Rattle.std.specs.List.{range_with_len}
use Rattle.sub_io.specs.Reading.{AreBytes}
use Rattle.ttx_pes.specs.declared.fault.PesFault.{PesFault}
use Rattle.ttx_pes.specs.Laws.{LawOfRefusal}
use Rattle.ttx_pes.specs.PesGrammar.{IsValidPesPacket, PesValue, packet_length, packet_start}
use Rattle.ttx_pes.specs.PesGrammar.{pts_bytes}
use Rattle.ttx_pes.specs.Reading.{packet_at, stated_size}
use Rattle.ttx_pes.specs.Refusal.{AgreeBeforeCheck, FailsFirstAtCheck, check_of_byte}
use Rattle.ttx_pes.specs.Refusal.{header_byte_checks}
use Rattle.ttx_pes.specs.Refusal.{fault_of_check}
use Rattle.ttx_pes.specs.Refusal.{unit_byte_checks}
use Rattle.ttx_pes.proofs.CheckOrderLemmas.{PassBelow, first_failed_test, packet_tests_find_fault}
use Rattle.ttx_pes.proofs.CheckOrderLemmas.{refusal}
use Rattle.ttx_pes.proofs.CheckOrderLemmas.{size_is_right, stated_units, tests}
use Rattle.ttx_pes.proofs.CheckOrderLemmas.{all_pass_or_first_fails}
use Rattle.ttx_pes.proofs.CheckOrderLemmas.{unit_byte, unit_place, units_tests}
use Rattle.ttx_pes.proofs.ReadingLemmas.{result_is_ok_or_error, valid_packet_is_read}
use Rattle.ttx_pes.proofs.ReadingLemmas.{read_bytes_are_valid_packet}

failed_less_means_at_most : (m n : ℕ) → not (ltb m n) ≡ true → n ≤ m
failed_less_means_at_most m n h = grind (arith, nat_tests)

stated_size_gives_payload_count : (b : List ℕ)
    → size_is_right b ≡ true
    → (n : ℕ) × (1 ≤ n) × (n ≤ 9) × (stated_size b ≡ 184 * n)
stated_size_gives_payload_count b h =
    let parts : (stated_size b % 184 ≡ 0) × (stated_size b ≤ 1656) = grind (arith, nat_tests) in
    (stated_size b / 184, omega arith, omega arith, omega arith)

-- If a PES packet can be read from the bytes, they pass all tests.
read_packet_passes_tests : (b : List ℕ) (r : PesValue × List ℕ)
    → packet_at b ≡ Ok r
    → (j : ℕ) → get_or (tests b (stated_units b)) j true ≡ true
read_packet_passes_tests b r read =
    let requested : first_failed_test b 0 (tests b (stated_units b)) ≡ None =
    sym (packet_tests_find_fault b) ∙ ap refusal read in
    elim (all_pass_or_first_fails b 0 (tests b (stated_units b))) [
      | inl all ↦ all.0
      | inr found ↦ let reported = found.reported in absurd cc
    ]

packet_passing_tests_is_read : (b : List ℕ)
    → ((j : ℕ) → get_or (tests b (stated_units b)) j true ≡ true)
    → (r : PesValue × List ℕ) × (packet_at b ≡ Ok r)
packet_passing_tests_is_read b all =
    let requested = packet_tests_find_fault b in
    elim (all_pass_or_first_fails b 0 (tests b (stated_units b))) [
      | inr found ↦ let earlier_pass = all found.at in let wrong = found.wrong in absurd cc
      | inl none ↦ let nothing = none.1 in grind (
        arith,
        nat_tests,
        result_is_ok_or_error
            (packet_at b),
      )
    ]

unit_byte_has_its_check : (k i : ℕ) → i < 4 → check_of_byte (unit_place k i) ≡ get_or
    unit_byte_checks i
    114 + 3 * k
unit_byte_has_its_check k i lt =
    let place = unit_place k i in
    let rest : (place - 46) % 46 ≡ i = omega arith in
    let unit : (place - 46) / 46 ≡ k = omega arith in
    get_or_past header_byte_checks place _ (omega arith) ∙ rw (rest, unit) refl

-- If bytes agree with a packet in all checks before number i, and j is at most i, they agree in all
-- checks before number j.
agree_below : (i j : ℕ) (b c : List ℕ) → j ≤ i → AgreeBeforeCheck i b c → AgreeBeforeCheck j b c
agree_below i j b c le h = grind (arith, nat_tests)

agreeing_packets_share_byte : (i k j : ℕ) (b c : List ℕ)
    → AgreeBeforeCheck i b c
    → j < 4
    → get_or unit_byte_checks j 114 + 3 * k < i
    → unit_place k j < length c
    → unit_byte b k j ≡ unit_byte c k j
agreeing_packets_share_byte i k j b c h four lt = grind (
  arith,
  nat_tests,
  unit_byte_has_its_check,
  unit_place,
)

agreeing_packets_share_unit_tests : (n k before j : ℕ) (b c : List ℕ)
    → AgreeBeforeCheck (10 + 3 * k + j) b c
    → 46 + 46 * (k + n) ≤ length c
    → get_or (units_tests b n k before) j true ≡ get_or (units_tests c n k before) j true
agreeing_packets_share_unit_tests zero k before j b c h long = refl
agreeing_packets_share_unit_tests (suc n) k before zero b c h long = grind
    (arith, nat_tests, agreeing_packets_share_byte)
agreeing_packets_share_unit_tests (suc n) k before (suc zero) b c h long = grind
    (arith, nat_tests, agreeing_packets_share_byte)
agreeing_packets_share_unit_tests (suc n) k before j b c h long =
    grind (
      arith,
      nat_tests,
      agreeing_packets_share_byte,
      agree_below,
      agreeing_packets_share_unit_tests n (suc k),
    )

-- If the bytes b agree with a complete packet of n data units in all checks up to number j, test j
-- has the same result for both. If j is greater than 2, b is tested as n data units too.
agreeing_packets_share_test : (j m n : ℕ) (b c : List ℕ)
    → AgreeBeforeCheck (suc j) b c
    → (2 < j → m ≡ n)
    → 46 + 46 * n ≤ length c
    → stated_size c ≤ length c
    → get_or (tests b m) j true ≡ get_or (tests c n) j true
agreeing_packets_share_test zero m n b c h count long all = grind (arith, nat_tests, le-ltb)
agreeing_packets_share_test (suc zero) m n b c h count long all = grind (arith, nat_tests)
agreeing_packets_share_test (suc (suc zero)) m n b c h count long all = grind (arith, nat_tests)
agreeing_packets_share_test (suc (suc (suc zero))) m n b c h count long all = grind
    (arith, nat_tests, le-ltb)
agreeing_packets_share_test (suc (suc (suc (suc zero)))) m n b c h count long all = grind
    (arith, nat_tests)
agreeing_packets_share_test (suc (suc (suc (suc (suc zero))))) m n b c h count long all = grind
    (arith, nat_tests)
agreeing_packets_share_test (suc (suc (suc (suc (suc (suc zero)))))) m n b c h count long
    all = search rules
agreeing_packets_share_test (suc (suc (suc (suc (suc (suc (suc zero))))))) m n b c h count long
    all = search rules
agreeing_packets_share_test (suc (suc (suc (suc (suc (suc (suc (suc zero)))))))) m n b c h count
    long all =
    rw (h.same 45 (omega arith) (omega arith)) refl
agreeing_packets_share_test (suc (suc (suc (suc (suc (suc (suc (suc (suc j))))))))) m n b c h count
    long all =
    grind (arith, nat_tests, agreeing_packets_share_unit_tests, agree_below)

-- `blank_header n` has bytes 0 to 13 of a PES packet of n payloads without Teletext packets, and
-- `blank n i` is byte i of that packet. If bytes pass only the first checks, these bytes replace
-- those of the other checks, so that a packet of the grammar results.
abbrev blank_header : ℕ → List ℕ
blank_header n =
    packet_start ++ (bytes_high_first 2 (packet_length n) ++ (0x80 ∷ 0x80 ∷ 0x24 ∷ pts_bytes 0))

abbrev blank : ℕ → ℕ → ℕ
blank n i = get_or (blank_header n) i (get_or (0x10 ∷ 0x2C ∷ []) ((i - 46) % 46) 0)

blank_unit_is_stuffing : (n k i : ℕ) → i < 4 → blank n (unit_place k i) ≡ get_or (0x10 ∷ 0x2C ∷ [])
    i 0
blank_unit_is_stuffing n k i lt = grind (arith, nat_tests, unit_place, get_or_past)

-- `mixed_byte n q b i` is byte i of b if the check number of byte i is less than q, and otherwise
-- byte i of the blank packet.
abbrev mixed_byte : ℕ → ℕ → List ℕ → ℕ → ℕ
mixed_byte n q b i = cond (ltb (check_of_byte i) q) (get_or b i 0) (blank n i) % 256

-- This module constructs a packet of the grammar that agrees with the bytes b in all checks before
-- number q. It assumes that all tests before q pass, and that n is the number of payloads if the
-- length field was checked.
module _ (b : List ℕ) (fit : AreBytes b) (q n : ℕ) (lo : 1 ≤ n) (hi : n ≤ 9)
    (reported : 2 < q → stated_size b ≡ 184 * n)
    (earlier_pass : PassBelow (tests b (stated_units b)) q) where
  abbrev made : List ℕ
  made = map (mixed_byte n q b) (range_with_len 0 (184 * n))

  length-made : length made ≡ 184 * n
  length-made = length-map-range_with_len (mixed_byte n q b) 0 (184 * n)

  mixed_packet_byte : (i : ℕ) → i < 184 * n → get_or made i 0 ≡ mixed_byte n q b i
  mixed_packet_byte i lt = get_or-map-range_with_len (mixed_byte n q b) 0 (184 * n) i i 0 lt
      (omega arith)

  mixed_packet_has_bytes : AreBytes made
  mixed_packet_has_bytes i = grind (
    arith,
    nat_tests,
    cases_lt,
    mixed_packet_byte,
    get_or_past,
    length-made,
  )

  earlier_bytes_are_kept : (i : ℕ) → check_of_byte i < q → i < 184 * n → get_or made i 0 ≡ get_or b
      i 0
  earlier_bytes_are_kept i less lt = grind (arith, nat_tests, mixed_packet_byte, lt-ltb)

  later_bytes_are_blank : (i : ℕ) → q ≤ check_of_byte i → i < 184 * n → get_or made i 0 ≡ blank n i
      % 256
  later_bytes_are_blank i le lt = mixed_packet_byte i lt ∙ rw (le-ltb (check_of_byte i) q le) refl

  mixed_packet_agrees : (c rest : List ℕ) → made ≡ c ++ rest → AgreeBeforeCheck q b c
  mixed_packet_agrees c rest parts =
      let len : 184 * n ≡ length c + length rest = search (rules, length-made, length-append) in
      record {
        has_six_bytes = λ lt. failed_less_means_at_most (length b) 6 (earlier_pass 0 lt);
        all =
            λ lt.
            let all = failed_less_means_at_most (length b) (stated_size b) (earlier_pass 3 lt) in
            let size = reported (omega arith) in
            omega arith;
        same = grind (arith, nat_tests, earlier_bytes_are_kept, get_or_append_left);
      }

  reported-made : stated_size made ≡ 184 * n
  reported-made = grind (arith, nat_tests, cases_lt, earlier_bytes_are_kept, later_bytes_are_blank)

  blank_units_pass_tests : (m k before j : ℕ)
      → q ≤ 9 + 3 * k + j
      → k + m ≤ 4 * n - 1
      → get_or (units_tests made m k before) j true ≡ true
  blank_units_pass_tests zero k before j le few = refl
  blank_units_pass_tests (suc m) k before zero le few =
      grind (
        arith,
        nat_tests,
        unit_byte_has_its_check,
        later_bytes_are_blank,
        unit_place,
        blank_unit_is_stuffing,
      )
  blank_units_pass_tests (suc m) k before (suc zero) le few =
      search (
        rules,
        unit_byte_has_its_check,
        later_bytes_are_blank,
        unit_place,
        blank_unit_is_stuffing,
      )
  blank_units_pass_tests (suc m) k before (suc (suc zero)) le few =
      let requested = unit_byte_has_its_check k 2 (omega arith) in
      rw (later_bytes_are_blank (unit_place k 2) (omega arith) (omega arith))
      (rw (blank_unit_is_stuffing n k 2 (omega arith), or-true) refl)
  blank_units_pass_tests (suc m) k before (suc (suc (suc j))) le few =
      blank_units_pass_tests m (suc k) _ j (omega arith) (omega arith)

  later_tests_pass : (j : ℕ) → q ≤ j → get_or (tests made (4 * n - 1)) j true ≡ true
  later_tests_pass zero le = rw (le-ltb (length made) 6 (omega (arith, length-made))) refl
  later_tests_pass (suc zero) le = grind (arith, nat_tests, later_bytes_are_blank)
  later_tests_pass (suc (suc zero)) le = grind (arith, nat_tests, reported-made, eq-eqb, le-leb)
  later_tests_pass (suc (suc (suc zero))) le = grind (
    arith,
    nat_tests,
    reported-made,
    length-made,
    le-ltb,
  )
  later_tests_pass (suc (suc (suc (suc zero)))) le = rw (later_bytes_are_blank 6 le (omega arith))
      refl
  later_tests_pass (suc (suc (suc (suc (suc zero))))) le = rw (later_bytes_are_blank 7 le
      (omega arith)) refl
  later_tests_pass (suc (suc (suc (suc (suc (suc zero)))))) le = rw (later_bytes_are_blank 8 le
      (omega arith)) refl
  later_tests_pass (suc (suc (suc (suc (suc (suc (suc zero))))))) le = search
      (rules, later_bytes_are_blank)
  later_tests_pass (suc (suc (suc (suc (suc (suc (suc (suc zero)))))))) le = search
      (rules, later_bytes_are_blank)
  later_tests_pass (suc (suc (suc (suc (suc (suc (suc (suc (suc j))))))))) le =
      blank_units_pass_tests (4 * n - 1) 0 0 j (omega arith) (omega arith)

  mixed_packet_passes_tests : (j : ℕ) → get_or (tests made (stated_units made)) j true ≡ true
  mixed_packet_passes_tests j =
      let size = reported-made in
      let count : stated_units made ≡ 4 * n - 1 = omega arith in
      subst (λ (m : ℕ). get_or (tests made m) j true ≡ true) (sym count) (elim (cases_lt j q) [
        | inr le ↦ later_tests_pass j le
        | inl less ↦
            let agree = mixed_packet_agrees made [] (sym (append-nil made)) in
            let len = length-made in
            sym (agreeing_packets_share_test j (stated_units b) (4 * n - 1) b made
            (agree_below _ _ b made (omega arith) agree)
            (λ more. let same = reported (omega arith) in omega arith) (omega arith) (omega arith))
            ∙ earlier_pass j less
      ])

  agreeing_packet_exists : (v : PesValue) × (p : List ℕ) × IsValidPesPacket v p × AgreeBeforeCheck q
      b p
  agreeing_packet_exists =
      let read = packet_passing_tests_is_read made mixed_packet_passes_tests in
      let found = read_bytes_are_valid_packet read.0.0 made read.0.1 mixed_packet_has_bytes read.1
      in
      (read.0.0, found.0, found.1, mixed_packet_agrees found.0 read.0.1 found.2)

payloads : (b : List ℕ) (q : ℕ)
    → PassBelow (tests b (stated_units b)) q
    → (n : ℕ) × (1 ≤ n) × (n ≤ 9) × (2 < q → stated_size b ≡ 184 * n)
payloads b q earlier_pass = elim (cases_lt 2 q) [
  | inr le ↦ (1, omega arith, omega arith, λ more. absurd (omega arith))
  | inl more ↦ let t = stated_size_gives_payload_count b (earlier_pass 2 more)
      in (t.0, t.1, t.2, λ _. t.3)
]

-- If the bytes fail test q, no packet of the grammar agrees with them in all checks up to number q.
no_packet_agrees_further : (b : List ℕ) (q : ℕ) (v : PesValue) (p : List ℕ)
    → get_or (tests b (stated_units b)) q true ≡ false
    → IsValidPesPacket v p
    → AgreeBeforeCheck (suc q) b p
    → ⊥
no_packet_agrees_further b q v p wrong h agree =
    let read : packet_at p ≡ Ok (v, []) =
    ap packet_at (sym (append-nil p)) ∙ valid_packet_is_read v p [] h in
    let all = read_packet_passes_tests p (v, []) read in
    let t = stated_size_gives_payload_count p (all 2) in
    let full = failed_less_means_at_most (length p) (stated_size p) (all 3) in
    let count : 2 < q → stated_units b ≡ stated_units p = grind (arith, nat_tests) in
    let alike = agreeing_packets_share_test q (stated_units b) (stated_units p) b p agree count
    (omega arith) full in
    let yes = all q in
    absurd cc

refusal_names_first_failure : (b : List ℕ) (f : PesFault)
    → AreBytes b
    → packet_at b ≡ Err f
    → (q : ℕ) × (fault_of_check b q ≡ f) × FailsFirstAtCheck q b
refusal_names_first_failure b f fit e =
    let requested : first_failed_test b 0 (tests b (stated_units b)) ≡ Some f =
    sym (packet_tests_find_fault b) ∙ ap refusal e in
    elim (all_pass_or_first_fails b 0 (tests b (stated_units b))) [
      | inl all ↦ let none = all.1 in absurd cc
      | inr found ↦
          let n = payloads b found.at found.earlier_pass in
          let number : found.at ≡ 0 + found.at = omega arith in
          let a = agreeing_packet_exists b fit found.at n.0 n.1 n.2 n.3 found.earlier_pass in (
            found.at,
            ap (fault_of_check b) number ∙ same_Some _ _ (sym found.reported ∙ requested),
            record {
              value = a.0;
              packet = a.1;
              is_packet = a.2;
              before = a.3;
              none =
                  λ v p h agree. no_packet_agrees_further b found.at v p found.wrong h
                  (agree_below _ _ b p (omega arith) agree);
            },
          )
    ]

-- If check q is the first check that the bytes fail, no PES packet can be read from them, because a
-- packet that is read agrees with the bytes in all checks, also in check q.
failed_check_refuses : (b : List ℕ) (q : ℕ)
    → AreBytes b
    → FailsFirstAtCheck q b
    → (f : PesFault) × (packet_at b ≡ Err f)
failed_check_refuses b q fit h = elim (result_is_ok_or_error (packet_at b)) [
  | inr refused ↦ refused
  | inl ((v, rest), read) ↦
      let (c, packet, parts) = read_bytes_are_valid_packet v b rest fit read in
      let len = ap length parts ∙ length-append c rest in
      let long : 6 ≤ length c = rw packet.bytes (omega arith) in
      absurd (h.none v c packet (record {
        has_six_bytes = λ _. omega arith;
        all = λ _. omega arith;
        same = grind (arith, nat_tests, get_or_append_left);
      }))
]

pub refusal_is_first_failed_check : LawOfRefusal
refusal_is_first_failed_check b fit = (
  λ f e. refusal_names_first_failure b f fit e,
  λ q h.
      failed_check_refuses b q fit h,
)
