-- The command `normal` reads at most 12,800,897 bytes, and these bytes determine its result and the
-- file that it writes.
use Rattle.std.proofs.Common.{◌≡◌, ◌≢◌, ℕ, ◌≤◌, List, ◌++◌, length, take, arith, sym, ap, ◌∙◌, refl}
use Rattle.std.proofs.Common.{length-append, Option, Some, None, Result, Ok, Err, subst}
use Rattle.std.specs.Io.KnownBytes.{Consumes, IsAtEnd, Keeps}
use Rattle.std.proofs.KnownBytes.{Consumes-kept, Consumes-trans}
use Rattle.std.proofs.lemmas.List.{append-nil, take_all, take_at, take-take}
use lib.Seq.{length-take-le}
use Rattle.std.proofs.lemmas.Option.{same_Some}
use Rattle.sub_io.specs.Reading.{IfKnown}
use Rattle.stl_file.specs.declared.fault.NormalFault.{NormalFault}
use Rattle.stl_file.specs.declared.fault.NormalFault.TheVariants as normal
use Rattle.stl_file.specs.File.{IsFile}
use Rattle.stl_file.specs.NormalForm.{NormalAnswers, subtitles_of}
use Rattle.stl_file.specs.Reader.{block_of_byte}
use Rattle.stl_file.specs.Gsi.{gsi_size}
use Rattle.stl_file.specs.Scope.{whole}
use Rattle.stl_file.specs.Subtitle.{SubtitleValue}
use Rattle.stl_file.proofs.FileLemmas.{file_is_accepted, accepted_bytes_are_file}
use Rattle.stl_file.proofs.FileLemmas.{outcome_of_file-first}
use Rattle.sub_listing.specs.Writing.{ReportsRead, read_limit}
use Rattle.sub_listing.specs.declared.normal.InputFault.TheVariants as input

-- If the first 12,800,897 bytes of a file are a complete subtitle file, the entire file is that
-- subtitle file.
first-is_file : (s : List ℕ) (ts : List SubtitleValue)
    → IsFile (take read_limit s) (take gsi_size (take read_limit s)) ts
    → IsFile s (take gsi_size s) ts
first-is_file s ts is =
    accepted_bytes_are_file whole s ts
    (ap subtitles_of (sym (outcome_of_file-first s)) ∙ (file_is_accepted whole _ _ ts is).1)

-- The first 12,800,897 bytes of a file determine the result of `normal`.
pub read_limit_keeps_answer : (s read : List ℕ) (old new : Option (List ℕ))
    (answer : Result ℕ NormalFault)
    → read ≡ take read_limit s
    → NormalAnswers read old new answer
    → NormalAnswers s old new answer
read_limit_keeps_answer s read old new answer first answers =
    go answer (subst (λ (b : List ℕ). NormalAnswers b old new answer) first answers)
  where
    prefix : take gsi_size (take read_limit s) ≡ take gsi_size s
    prefix = take-take gsi_size read_limit s (omega arith)

    go : (answer : Result ℕ NormalFault)
        → NormalAnswers (take read_limit s) old new answer
        → NormalAnswers s old new answer
    go (Ok n) w = record {
      subtitles = w.subtitles;
      is_file = first-is_file s w.subtitles w.is_file;
      count = w.count;
      wrote = rw (← prefix) (w.wrote);
    }
    go (Err normal.Write) w = record {
      subtitles = w.subtitles;
      is_file = first-is_file s w.subtitles w.is_file;
      wrote = rw (← prefix) (w.wrote);
    }
    go (Err (normal.Refused f block)) w =
        (ap subtitles_of (sym (outcome_of_file-first s)) ∙ w.0, w.1)

pub Consumes-next : (x y z : Option (List ℕ)) (n : ℕ) (xs ps vs : List ℕ)
    → vs ≡ xs ++ take n ps
    → Consumes x y xs
    → Consumes y z (take n ps)
    → Consumes x z vs
Consumes-next x y z n xs ps vs is p q =
    subst (Consumes x z) (sym is) (Consumes-trans x y z _ _ p q)

pub taken-at_end : (x y z : Option (List ℕ)) (n : ℕ) (xs ps : List ℕ)
    → n ≡ 0
    → Consumes x y xs
    → Consumes y z (take n ps)
    → IsAtEnd z
    → length xs ≤ read_limit
    → IfKnown x (λ bytes. xs ≡ take read_limit bytes)
taken-at_end x y z n xs ps none p q end few =
    taken-to_end x z xs (Consumes-next x y z n xs ps xs same p q) end few
  where
    same : xs ≡ xs ++ take n ps
    same = rw none (sym (append-nil xs))

    taken-to_end : (x y : Option (List ℕ)) (xs : List ℕ)
        → Consumes x y xs
        → IsAtEnd y
        → length xs ≤ read_limit
        → IfKnown x (λ bytes. xs ≡ take read_limit bytes)
    taken-to_end None y xs p end few bytes e = absurd cc
    taken-to_end (Some b) None xs p end few bytes e = absurd p
    taken-to_end (Some b) (Some ys) xs p end few bytes e =
        let all : bytes ≡ xs =
        sym (same_Some b bytes e) ∙ p ∙ ap (λ l. xs ++ l) end ∙ append-nil xs in
        sym (ap (take read_limit) all ∙ take_all read_limit xs few)

pub taken-to_most : (x y : Option (List ℕ)) (xs : List ℕ)
    → Consumes x y xs
    → length xs ≡ read_limit
    → IfKnown x (λ bytes. xs ≡ take read_limit bytes)
taken-to_most None y xs p size bytes e = absurd cc
taken-to_most (Some b) None xs p size bytes e = absurd p
taken-to_most (Some b) (Some ys) xs p size bytes e =
    let all : bytes ≡ xs ++ ys = sym (same_Some b bytes e) ∙ p in
    sym (ap (take read_limit) all ∙ take_at xs ys read_limit size)

-- If the command `normal` has read at least one byte, it may report that memory for more input ran
-- out.
pub memory-expected : (x y z : Option (List ℕ)) (n : ℕ) (xs ps : List ℕ)
    → n ≤ length ps
    → n ≢ 0
    → Consumes x y xs
    → Consumes y z (take n ps)
    → ReportsRead x z input.Memory
memory-expected x y z n xs ps room some p q =
    let long = length-append xs (take n ps) in
    let part = length-take-le n ps room in
    (xs ++ take n ps, Consumes-next x y z n xs ps _ refl p q, omega (arith, long, part, some))

pub block-at : (x y z : Option (List ℕ)) (block : ℕ) (xs : List ℕ)
    → Consumes x y xs
    → Keeps y z
    → block ≡ block_of_byte (length xs)
    → ReportsRead x z (input.Read block)
block-at x y z block xs p kept is = (xs, Consumes-kept x y z _ p kept, is)
