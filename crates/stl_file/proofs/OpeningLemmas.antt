-- A file is opened only if it has a valid GSI block; no file begins with a rejected GSI block.
use Rattle.std.proofs.Common.{◌≡◌, ℕ, Bool, List, ◌++◌, length, refl, sym, ap, ◌∙◌, arith}
use Rattle.std.proofs.Common.{length-append, take, drop, Option, Some, Result, Ok, Err, ◌<◌, ◌≤◌}
use Rattle.std.proofs.Common.{length-take, false}
use Rattle.std.specs.Prelude.{IfErr, IfOk}
use Rattle.std.proofs.lemmas.List.{take_all, length-take-le, take_at, drop_at}
use Rattle.std.proofs.lemmas.Bool.{le-ltb}
use Rattle.std.proofs.lemmas.Bool.Decides.{nat_tests}
use Rattle.std.specs.List.{concat}
use Rattle.sub_io.specs.Device.{Fills, FillsFromKnown}
use Rattle.stl_file.specs.declared.fault.StlFault.{StlFault}
use Rattle.stl_file.specs.declared.fault.StlFault.TheVariants as fault
use Rattle.stl_file.specs.declared.progress.Progress.TheVariants.{Reading}
use Rattle.stl_file.specs.declared.scope.Scope.{Scope}
use Rattle.stl_file.specs.Reader.{ReaderValue, reader_after_gsi, open_result, checked_gsi_of_file}
use Rattle.stl_file.specs.Reader.{RefusesOpeningFor}
use Rattle.stl_file.specs.Gsi.{checked_gsi, IsGsi, IsGsiFor}
use Rattle.stl_file.specs.Subtitle.{SubtitleValue}
use Rattle.stl_file.specs.File.{IsFileFor}
use Rattle.stl_file.proofs.GsiLemmas.{accepted_gsi_is_valid, valid_gsi_is_accepted}

pub if_ok_of_constant : {A E P : Type 0} (r : Result A E) → P → IfOk r (λ a. P)
if_ok_of_constant (Ok a) p = p
if_ok_of_constant (Err e) p = tt

pub if_err_of_every_error : {A E : Type 0} (r : Result A E) (P : E → Type 0)
    → ((e : E) → r ≡ Err e → P e)
    → IfErr r P
if_err_of_every_error (Ok a) P h = tt
if_err_of_every_error (Err e) P h = h e refl

abbrev pub good : ReaderValue → Result ReaderValue StlFault
good r = Ok r

-- If a GSI block is accepted, it is the first 1024 bytes of the file.
pub checked_gsi_of_file-sound : (takes_open : Bool) (s g : List ℕ)
    → checked_gsi_of_file takes_open s ≡ Ok g
    → (1024 ≤ length s) × IsGsiFor takes_open (take 1024 s) × (g ≡ take 1024 s)
unfolding checked_gsi_of_file
checked_gsi_of_file-sound takes_open s g e =
    let le : 1024 ≤ length s = grind (arith, nat_tests) in
    let own = accepted_gsi_is_valid takes_open (take 1024 s) g (length-take-le 1024 s le)
    (rw (le-ltb _ _ le) at e) in
    (le, own.1, own.0)

pub opened_reader_has_gsi : (g : Result (List ℕ) StlFault) (r : ReaderValue)
    → reader_after_gsi g ≡ good r
    → (g ≡ Ok r.gsi) × (r ≡ record { gsi = r.gsi; block = 0; progress = Reading })
opened_reader_has_gsi (Err f) r e = absurd cc
opened_reader_has_gsi (Ok g) r e = grind arith

pub opening_fault_is_gsi_fault : (g : Result (List ℕ) StlFault) (f : StlFault)
    → reader_after_gsi g ≡ (let r : Result ReaderValue StlFault = Err f in r)
    → g ≡ Err f
opening_fault_is_gsi_fault (Err f') f e = grind arith
opening_fault_is_gsi_fault (Ok g) f e = absurd cc

-- If a file was opened, the file begins with an accepted GSI block.
pub opened_file_has_valid_gsi : (s : List ℕ) (r : ReaderValue)
    → open_result s ≡ good r
    → (1024 ≤ length s) × IsGsi (take 1024 s)
    × (r ≡ record { gsi = take 1024 s; block = 0; progress = Reading })
opened_file_has_valid_gsi s r e =
    let own = opened_reader_has_gsi (checked_gsi_of_file false s) r e in
    let is = checked_gsi_of_file-sound false s r.gsi own.0 in
    (is.0, is.1, own.1 ∙ ap reader_before_blocks is.2)
  where
    reader_before_blocks : List ℕ → ReaderValue
    reader_before_blocks g = record { gsi = g; block = 0; progress = Reading }

-- The GSI block of a file is the first 1024 bytes of the file.
pub file_begins_with_gsi : (scope : Scope) (s g : List ℕ) (ts : List SubtitleValue)
    → IsFileFor scope s g ts
    → take 1024 s ≡ g
file_begins_with_gsi scope s g ts h = ap (take 1024) h.bytes ∙ take_at g (concat h.blocks) 1024
    h.gsi.size

module _ {old new : Option (List ℕ)} {n : ℕ} {block : List ℕ} (f : Fills old n new block)
    (size : length block ≡ 1024) where
  -- If the first 1024 bytes are a GSI block with a fault, no subtitle file begins with these bytes.
  pub invalid_gsi_refuses_opening : (scope : Scope) (x : StlFault)
      → 1024 ≤ n
      → checked_gsi scope.takes_open block ≡ Err x
      → RefusesOpeningFor scope old new x
  invalid_gsi_refuses_opening scope x le bad = record {
    bytes = block;
    consumed = rw (take_all n block (omega arith)) at f.bytes;
    none = λ more cut g ts h.
        let same = sym (take_at block more 1024 size) ∙ file_begins_with_gsi scope (block ++ more) g
        ts h in
        let no = sym bad ∙ ap (checked_gsi scope.takes_open) same
        ∙ valid_gsi_is_accepted scope.takes_open g h.gsi in
        cc;
  }

module _ {bytes : List ℕ} {n : ℕ} {new : Option (List ℕ)} {block : List ℕ}
    (t : FillsFromKnown bytes n new block) (bound : n ≤ length block)
    (size : length block ≡ 1024) where
  pub short_file_is_truncated : (takes_open : Bool) → n < 1024 → checked_gsi_of_file takes_open
      bytes ≡ Err fault.Truncated
  unfolding checked_gsi_of_file
  short_file_is_truncated takes_open lt = grind (arith, nat_tests, length-append, length-take)

  pub complete_gsi_is_checked : (takes_open : Bool) (r : Result (List ℕ) StlFault)
      → 1024 ≤ n
      → checked_gsi takes_open block ≡ r
      → checked_gsi_of_file takes_open bytes ≡ r
  unfolding checked_gsi_of_file
  complete_gsi_is_checked takes_open r le e =
      let long : 1024 ≤ length bytes =
      omega (arith, ap length t.parts, length-append (take n block) t.rest, length-take n block) in
      rw (le-ltb _ _ long, t.parts, take_all n block (omega arith))
      (rw (take_at block t.rest 1024 size, e) refl)

  pub opening_leaves_the_body : 1024 ≤ n → new ≡ Some (drop 1024 bytes)
  opening_leaves_the_body le = grind (arith, nat_tests, take_all, drop_at block t.rest 1024 size)
