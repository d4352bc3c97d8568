-- A GSI block is accepted if and only if its fields satisfy the definition, whatever counts it has.
use Rattle.std.proofs.Common.{◌≡◌, ℕ, Bool, List, ◌++◌, length, refl, sym, ap, ◌∙◌, append_assoc}
use Rattle.std.proofs.Common.{arith}
use Rattle.std.proofs.Common.{length-append, take, drop, false, Ok, ◌+◌, ◌≤◌}
use Rattle.std.specs.Prelude.{bytes_eq, not, ◌&&◌, ◌||◌, ◌==◌}
use Rattle.std.proofs.lemmas.List.{drop-take, take-append-drop, length-drop, length-take}
use Rattle.std.proofs.lemmas.List.{length-take-le, take_at, drop_at, take-append-le, take-take}
use Rattle.std.proofs.lemmas.List.{get_or-take}
use Rattle.std.proofs.lemmas.Bool.Decides.{nat_tests}
use Rattle.std.proofs.lemmas.Slice.Eq.{bytes_eq-Decides}
use Rattle.std.proofs.lemmas.Slice.{take-put_mid, drop-put_mid}
use borrow.Rule.Slice.PartMut.{put_mid}
use Rattle.stl_file.specs.Gsi.{with_counts, checked_gsi, IsGsi, IsGsiFor, field}
use Rattle.stl_file.specs.Gsi.{IsAcceptedDisplay, gsi_checks, dfc, dsc, five_digits}
use Rattle.stl_file.specs.Gsi.{teletext_level_1, teletext_level_2}
use Rattle.stl_file.specs.Gsi.{unspecified_display, open_subtitles, stl_25, stl_30}
use Rattle.stl_file.proofs.StepLemmas.{result_of_checks-right}

passed_format_is_stl_25 : (g : List ℕ)
    → not (bytes_eq (dfc g) stl_25) && not (bytes_eq (dfc g) stl_30) ≡ false
    → bytes_eq (dfc g) stl_30 ≡ false
    → dfc g ≡ stl_25
passed_format_is_stl_25 g a b = grind (arith, nat_tests, bytes_eq-Decides)

passed_display_is_valid : (takes_open : Bool) (d : ℕ)
    → not (d == teletext_level_1) && not (d == teletext_level_2)
    && not (takes_open && ((d == open_subtitles) || (d == unspecified_display))) ≡ false
    → IsAcceptedDisplay takes_open d
passed_display_is_valid takes_open d e = grind (arith, nat_tests)

-- If reading a GSI block finds no fault, the block is valid and returned unchanged.
pub accepted_gsi_is_valid : (takes_open : Bool) (g h : List ℕ)
    → length g ≡ 1024
    → checked_gsi takes_open g ≡ Ok h
    → (h ≡ g) × IsGsiFor takes_open g
unfolding checked_gsi
accepted_gsi_is_valid takes_open g h size e =
    let right = result_of_checks-right (gsi_checks takes_open g) (Ok g) h e in
    let a = right.1 in (
      grind (arith, nat_tests),
      record {
        size = size;
        format = passed_format_is_stl_25 g a.0 a.1.0;
        display = passed_display_is_valid takes_open (dsc g) a.1.1.0;
        alphabet = grind (arith, nat_tests, bytes_eq-Decides);
      },
    )

-- If a GSI block satisfies the definition, reading it finds no fault and returns it unchanged.
pub valid_gsi_is_accepted : (takes_open : Bool) (g : List ℕ)
    → IsGsiFor takes_open g
    → checked_gsi takes_open g ≡ Ok g
unfolding checked_gsi
valid_gsi_is_accepted takes_open g h = grind (arith, nat_tests, bytes_eq-Decides)

pub counts_replace_ten_bytes : (xs ys : List ℕ)
    → length ys ≡ 10
    → 248 ≤ length xs
    → put_mid 238 10 xs ys ≡ take 238 xs ++ (ys ++ drop 248 xs)
counts_replace_ten_bytes xs ys size le =
    sym (take-append-drop 248 (put_mid 238 10 xs ys))
    ∙ rw (take-put_mid 238 10 xs ys 248 (omega arith) (omega arith))
    (rw (drop-put_mid 238 10 xs ys 248 (omega arith) (omega arith) size, append_assoc) refl)

pub setting_counts_is_idempotent : (tnb tns : ℕ) (g : List ℕ)
    → length g ≡ 1024
    → with_counts tnb tns (with_counts tnb tns g) ≡ with_counts tnb tns g
setting_counts_is_idempotent tnb tns g size =
    let digits = five_digits tnb ++ five_digits tns in
    let prefix : length (take 238 g) ≡ 238 = length-take-le 238 g (omega arith) in
    let back : drop 248 (with_counts tnb tns g) ≡ drop 248 g =
    ap (drop 248) (sym (append_assoc (take 238 g) digits (drop 248 g)))
    ∙ drop_at (take 238 g ++ digits) (drop 248 g) 248
    (omega (arith, length-append (take 238 g) digits)) in
    rw (take_at (take 238 g) (digits ++ drop 248 g) 238 prefix, back) refl

field_ignores_later_bytes : (at len n : ℕ) (g rest : List ℕ)
    → at + len ≤ n
    → n ≤ length g
    → field at len (take n g ++ rest) ≡ field at len g
field_ignores_later_bytes at len n g rest le size =
    rw (← drop-take at len (take n g ++ rest), ← drop-take at len g)
    (rw (take-append-le (at + len) (take n g) rest (omega (arith, length-take n g)))
    (rw (take-take (at + len) n g le) refl))

-- An accepted GSI block is also accepted with other values of TNB and TNS.
pub setting_counts_keeps_gsi_valid : (tnb tns : ℕ) (g : List ℕ) → IsGsi g → IsGsi
    (with_counts tnb tns g)
setting_counts_keeps_gsi_valid tnb tns g h =
    let back = length-drop 248 g in let prefix = length-take 238 g in
    grind (
      arith,
      nat_tests,
      get_or-take,
      take_at,
      length-take-le,
      length-append,
      field_ignores_later_bytes,
    )
