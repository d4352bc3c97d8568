-- Bytes are a subtitle file if and only if they can be read without a fault. Only the first
-- 12,800,897 bytes matter.
use Rattle.std.proofs.Common.{◌≡◌, ◌*◌, ℕ, false, List, [], ◌++◌, length, refl, sym, ap, ◌∙◌, arith}
use Rattle.std.proofs.Common.{length-append, take, drop, None, Result, Ok, Err, subst, ◌+◌}
use Rattle.std.proofs.Common.{inl, inr, length-take-le, ltb}
use Rattle.std.proofs.lemmas.Bool.Decides.{nat_tests}
use Rattle.std.specs.Prelude.{◌↔◌}
use Rattle.std.proofs.lemmas.List.{take_all, take-take, drop-take, take-append-drop, drop_at}
use Rattle.std.proofs.lemmas.Bool.{cases_lt, le-ltb}
use Rattle.std.specs.List.{concat}
use Rattle.stl_file.specs.declared.fault.StlFault.{StlFault}
use Rattle.stl_file.specs.declared.scope.Scope.{Scope}
use Rattle.stl_file.specs.Tti.{max_blocks}
use Rattle.stl_file.specs.Reader.{findings_within_scope, findings_of_file, findings_after_opening}
use Rattle.stl_file.specs.Reader.{checked_gsi_of_file, outcome_of_file}
use Rattle.stl_file.specs.Resuming.{ResumingValue, resuming_open_result}
use Rattle.stl_file.specs.Gsi.{checked_gsi, IsGsiFor}
use Rattle.stl_file.specs.Scope.{whole}
use Rattle.stl_file.specs.Subtitle.{SubtitleValue}
use Rattle.stl_file.specs.File.{IsFile, IsFileFor}
use Rattle.stl_file.specs.NormalForm.{subtitles_of}
use Rattle.stl_file.specs.Reading.{breaks, findings_from, stopped}
use Rattle.stl_file.proofs.FindingsLemmas.{findings_with_room-first}
use Rattle.stl_file.proofs.RestLemmas.{valid_blocks_are_read, accepted_bytes_are_valid_blocks}
use Rattle.stl_file.proofs.GsiLemmas.{valid_gsi_is_accepted}
use Rattle.stl_file.proofs.OpeningLemmas.{checked_gsi_of_file-sound, file_begins_with_gsi}

accepted_file_has_gsi : (scope : Scope) (b : List ℕ) (o : Result (List ℕ) StlFault)
    (ts : List SubtitleValue)
    → subtitles_of (stopped (findings_after_opening scope b o)) ≡ Ok ts
    → (g : List ℕ) × (o ≡ Ok g)
    × (subtitles_of (stopped (findings_from scope 0 None b)) ≡ Ok ts)
accepted_file_has_gsi scope b o ts e = grind (arith, nat_tests)

pub accepted_body_makes_file : (scope : Scope) (s : List ℕ) (ts : List SubtitleValue)
    → IsGsiFor scope.takes_open (take 1024 s)
    → subtitles_of (stopped (findings_from scope 0 None (drop 1024 s))) ≡ Ok ts
    → IsFileFor scope s (take 1024 s) ts
accepted_body_makes_file scope s ts g e =
    let sound = accepted_bytes_are_valid_blocks scope max_blocks None [] (drop 1024 s) ts refl e in
    record {
      gsi = g;
      blocks = sound.blocks;
      bytes = sym (take-append-drop 1024 s)
          ∙ ap (λ (x : List ℕ). take 1024 s ++ x) sound.bytes;
      rest = record {
        each = sound.each;
        few = sound.few;
        groups = sound.groups;
        kept = sound.kept;
        outside = sound.outside;
        are_subtitle_blocks = sound.inside_groups_match;
      };
    }

-- If bytes are read without a fault, the bytes are a subtitle file.
pub accepted_bytes_are_file : (scope : Scope) (s : List ℕ) (ts : List SubtitleValue)
    → subtitles_of (stopped (findings_within_scope scope s)) ≡ Ok ts
    → IsFileFor scope s (take 1024 s) ts
unfolding findings_within_scope
accepted_bytes_are_file scope s ts e =
    let j = accepted_file_has_gsi scope (drop 1024 s) (checked_gsi_of_file scope.takes_open s) ts e
    in
    let o = checked_gsi_of_file-sound scope.takes_open s j.0 j.1 in
    accepted_body_makes_file scope s ts o.1 j.2

pub file_is_accepted : (scope : Scope) (s g : List ℕ) (ts : List SubtitleValue)
    → IsFileFor scope s g ts
    → (take 1024 s ≡ g) × (subtitles_of (stopped (findings_within_scope scope s)) ≡ Ok ts)
unfolding findings_within_scope checked_gsi_of_file
file_is_accepted scope s g ts h =
    let size = h.gsi.size in
    let whole = ap length h.bytes in
    let parts = length-append g (concat h.blocks) in
    let prefix = file_begins_with_gsi scope s g ts h in
    let back : drop 1024 s ≡ concat h.blocks =
    ap (drop 1024) h.bytes ∙ drop_at g (concat h.blocks) 1024 size in
    let long : ltb (length s) 1024 ≡ false = le-ltb _ _ (omega arith) in (
      prefix,
      rw (long, prefix, back, valid_gsi_is_accepted scope.takes_open g h.gsi)
          (valid_blocks_are_read scope h.blocks max_blocks ts h.rest),
    )

pub file_iff_accepted : (scope : Scope) (s g : List ℕ) (ts : List SubtitleValue)
    → IsFileFor scope s g ts
    ↔ ((g ≡ take 1024 s) × (subtitles_of (stopped (findings_within_scope scope s)) ≡ Ok ts))
file_iff_accepted scope s g ts = (
  λ h. let c = file_is_accepted scope s g ts h in (sym c.0, c.1),
  λ h. subst (λ (x : List ℕ). IsFileFor scope s x ts) (sym h.0) (accepted_bytes_are_file scope s ts
      h.1),
)

-- The bytes of a file have only one reading: one GSI block and one list of subtitles.
pub file_has_one_reading : (s g h : List ℕ) (ts us : List SubtitleValue)
    → IsFile s g ts
    → IsFile s h us
    → (g ≡ h) × (ts ≡ us)
file_has_one_reading s g h ts us a b =
    grind (arith, nat_tests, file_is_accepted whole s g ts a, file_is_accepted whole s h us b)

pub findings_within_scope-begun : (scope : Scope) (s : List ℕ) (reader : ResumingValue)
    → resuming_open_result scope s ≡ (let r : Result ResumingValue StlFault = Ok reader in r)
    → findings_within_scope scope s ≡ findings_from scope 0 None (drop 1024 s)
unfolding findings_within_scope
findings_within_scope-begun scope s reader e = grind (arith, nat_tests)

pub findings_within_scope-refused : (scope : Scope) (s : List ℕ) (fault : StlFault)
    → resuming_open_result scope s ≡ (let r : Result ResumingValue StlFault = Err fault in r)
    → findings_within_scope scope s ≡ breaks fault 0
unfolding findings_within_scope
findings_within_scope-refused scope s fault e = grind (arith, nat_tests)

-- Given the result for the GSI block, the first 12,799,873 bytes after it determine the results:
-- one byte more than 99,999 blocks.
findings_after_opening-first : (scope : Scope) (r : Result (List ℕ) StlFault) (b : List ℕ)
    → findings_after_opening scope (take (128 * 99999 + 1) b) r ≡ findings_after_opening scope b r
findings_after_opening-first scope (Err e) b = refl
findings_after_opening-first scope (Ok g) b = findings_with_room-first scope 99999 None b

-- The first 12,800,897 bytes, one more than the longest file has, determine the results of reading
-- any bytes as a file for Teletext.
findings_of_file-first : (s : List ℕ) → findings_of_file (take 12800897 s) ≡ findings_of_file s
unfolding findings_within_scope checked_gsi_of_file
findings_of_file-first s = elim (cases_lt 12800897 (length s)) [
  | inr short ↦ ap findings_of_file (take_all 12800897 s short)
  | inl long ↦
      let size : length (take 12800897 s) ≡ 12800897 = length-take-le 12800897 s (omega arith) in
      rw (size, le-ltb (length s) 1024 (omega arith), take-take 1024 12800897 s (omega arith))
      (rw (drop-take 1024 (128 * 99999 + 1) s)
      (findings_after_opening-first whole (checked_gsi false (take 1024 s)) (drop 1024 s)))
]

pub outcome_of_file-first : (s : List ℕ) → outcome_of_file (take 12800897 s) ≡ outcome_of_file s
outcome_of_file-first s = ap stopped (findings_of_file-first s)
