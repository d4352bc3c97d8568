-- A buffered source returns its buffered bytes before those of the inner source. The contents of a
-- buffered sink are those of the inner sink followed by the buffered bytes.
use Rattle.std.proofs.Common.{◌≡◌, ℕ, ◌+◌, ◌-◌, ◌≤◌, List, [], ◌++◌, length, take, drop}
use Rattle.std.proofs.Common.{slice_range, ◌<◌, append_assoc, length-take-le, take-append-drop}
use Rattle.std.proofs.Common.{Option, Some, None, Result, sym, ap, ◌∙◌, arith, drop-drop}
use Rattle.std.proofs.Common.{length-drop, length-take}
use Rattle.std.proofs.KnownBytes.{append_known-moved, prepend_known-nil}
use Rattle.std.proofs.Math.Seq.{take-length}
use Rattle.std.proofs.lemmas.List.{drop-take}
use Rattle.std.proofs.lemmas.List.Edits.{take-paste}
use Rattle.std.proofs.lemmas.Option.{same_Some}
use Rattle.std.specs.Io.KnownBytes.{Appends, Keeps, append_known, prepend_known}
use lib.Seq.{paste, take-add, take-append_seam}
use Rattle.sub_io.specs.Buffered.{BufferedSourceValue}
use Rattle.sub_io.specs.Calls.{PullsBuffered}
use Rattle.sub_io.specs.Device.{SkipsOver, Pulls}
use Rattle.sub_io.specs.Reading.{AreNextBytes}

slice_range-split : (xs : List ℕ) (a e n : ℕ)
    → a + n ≤ e
    → slice_range xs a e ≡ slice_range xs a (a + n) ++ slice_range xs (a + n) e
slice_range-split xs a e n within =
    let whole : e - a ≡ n + (e - (a + n)) = omega arith in
    let first : (a + n) - a ≡ n = omega arith in
    ap (λ k. take k (drop a xs)) whole
    ∙ take-add n (e - (a + n)) (drop a xs)
    ∙ ap (λ l. take n (drop a xs) ++ take (e - (a + n)) l) (drop-drop n a xs)
    ∙ ap (λ k. take k (drop a xs) ++ slice_range xs (a + n) e) (sym first)

pub buffered-split : (xs ys copied rest : List ℕ) (a e n : ℕ)
    → ys ≡ xs
    → a + n ≤ e
    → length copied ≡ n
    → copied ≡ slice_range xs a (a + n)
    → slice_range xs a e ≡ take n (copied ++ rest) ++ slice_range ys (a + n) e
buffered-split xs ys copied rest a e n kept within long same =
    slice_range-split xs a e n within
    ∙ ap (λ l. l ++ slice_range xs (a + n) e)
    (sym same ∙ sym (take-append_seam copied rest) ∙ ap (λ k. take k (copied ++ rest)) long)
    ∙ ap (λ l. take n (copied ++ rest) ++ slice_range l (a + n) e) (sym kept)

pub Pulls-past : {E : Type 0} (x y : Option (List ℕ)) (old new to : List ℕ) (r : Result ℕ E)
    → old ≡ []
    → new ≡ []
    → Pulls x y to r
    → Pulls (prepend_known old x) (prepend_known new y) to r
Pulls-past x y old new to r none still p =
    rw (none, still, prepend_known-nil x, prepend_known-nil y) p

buffered-rest : (room : List ℕ) (n len : ℕ)
    → n ≤ len
    → len ≤ length room
    → take len room ≡ take n room ++ take (len - n) (paste room 0 (drop n room) (len - n))
buffered-rest room n len some within =
    let left = len - n in
    let whole : len ≡ n + left = omega arith in
    let same : 0 + left ≡ left = omega arith in
    let fits : left ≤ length (drop n room) = omega (arith, length-drop n room) in
    ap (λ k. take k room) whole
    ∙ take-add n left room
    ∙ ap (λ l. take n room ++ l)
    (sym (take-paste room 0 (drop n room) left (omega arith) fits)
    ∙ ap (λ k. take k (paste room 0 (drop n room) left)) same)

pub buffered-parts : (old room moved : List ℕ) (n len : ℕ)
    → n ≤ len
    → len ≤ length room
    → old ≡ take len room
    → moved ≡ paste room 0 (drop n room) (len - n)
    → old ≡ take n room ++ take (len - n) moved
buffered-parts old room moved n len some within was now =
    was ∙ buffered-rest room n len some within
    ∙ ap (λ l. take n room ++ take (len - n) l) (sym now)

-- If the first n buffered bytes are written to the inner sink and the others stay in the buffer,
-- the contents of the buffered sink do not change.
pub buffered-moved : (x y : Option (List ℕ)) (old room moved : List ℕ) (n len : ℕ)
    → n ≤ len
    → len ≤ length room
    → old ≡ take len room
    → moved ≡ paste room 0 (drop n room) (len - n)
    → Appends x y (take n room)
    → Keeps (append_known x old) (append_known y (take (len - n) moved))
buffered-moved x y old room moved n len some within was now p =
    append_known-moved x y (take n room) (take (len - n) moved) old p
    (buffered-parts old room moved n len some within was now)

pub buffered_range_length : (xs : List ℕ) (a e : ℕ)
    → a ≤ e
    → e ≤ length xs
    → length (slice_range xs a e) ≡ e - a
buffered_range_length xs a e le within = omega (
  arith,
  length-take (e - a) (drop a xs),
  length-drop
      a xs,
)

pub empty_range_stays_empty : (xs ys : List ℕ) (a e : ℕ)
    → a ≤ e
    → e ≤ length xs
    → slice_range xs a e ≡ []
    → slice_range ys a e ≡ []
empty_range_stays_empty xs ys a e le within none =
    let none_left : e - a ≡ 0 = omega (
      arith,
      ap length none,
      buffered_range_length xs a e le
          within,
    ) in
    ap (λ k. take k (drop a ys)) none_left

pub later_range_drops_prefix : (xs : List ℕ) (a e n : ℕ)
    → a + n ≤ e
    → slice_range xs (a + n) e ≡ drop n (slice_range xs a e)
later_range_drops_prefix xs a e n within =
    let whole : e - a ≡ n + (e - (a + n)) = omega arith in
    ap (take (e - (a + n))) (sym (drop-drop n a xs))
    ∙ sym (drop-take n (e - (a + n)) (drop a xs))
    ∙ ap (λ k. drop n (take k (drop a xs))) (sym whole)

pub all_bytes_come_next : (xs : List ℕ) → AreNextBytes xs (Some xs)
all_bytes_come_next xs bytes e = ap (take (length xs)) (sym (same_Some xs bytes e)) ∙ take-length xs

pub buffered_bytes_come_next : (buffered : List ℕ) (x : Option (List ℕ)) → AreNextBytes buffered
    (prepend_known buffered x)
buffered_bytes_come_next buffered None bytes e = absurd cc
buffered_bytes_come_next buffered (Some xs) bytes e =
    ap (take (length buffered)) (sym (same_Some (buffered ++ xs) bytes e)) ∙ take-append_seam
    buffered xs

pub skipping_drops_memory_prefix : (xs rest : List ℕ) (n : ℕ)
    → n ≤ length xs
    → rest ≡ drop n xs
    → SkipsOver (Some xs) n (Some rest)
skipping_drops_memory_prefix xs rest n le e = record {
  bytes = take n xs;
  number = length-take-le n xs le;
  consumed = sym (take-append-drop n xs) ∙ ap (λ l. take n xs ++ l) (sym e);
}

pub skipping_drops_buffered_prefix : (x : Option (List ℕ)) (buffered left : List ℕ) (n : ℕ)
    → n ≤ length buffered
    → left ≡ drop n buffered
    → SkipsOver (prepend_known buffered x) n (prepend_known left x)
skipping_drops_buffered_prefix None buffered left n le e =
    record { bytes = take n buffered; number = length-take-le n buffered le; consumed = tt }
skipping_drops_buffered_prefix (Some xs) buffered left n le e = record {
  bytes = take n buffered;
  number = length-take-le n buffered le;
  consumed = ap (λ l. l ++ xs) (sym (take-append-drop n buffered))
      ∙ append_assoc (take n buffered) (drop n buffered) xs
      ∙ ap (λ l. take n buffered ++ (l ++ xs)) (sym e);
}

pub reading_buffered_keeps_device : {D : Type 0} (IsPull : D → ℕ → Option ℕ → D → Type 0)
    (old new : BufferedSourceValue D) (n : ℕ)
    → 0 < n
    → n ≤ length old.buffered
    → new.device ≡ old.device
    → PullsBuffered IsPull old n (Some n) new
reading_buffered_keeps_device IsPull old new n some le same = record {
  buffered = λ _. same;
  reads_device_directly = λ none. absurd (omega (arith, ap length none, some, le));
  ahead = λ none. absurd (omega (arith, ap length none, some, le));
}
