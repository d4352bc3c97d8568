-- New bytes are appended to the buffered bytes; dropped bytes are no longer buffered.
use Rattle.std.proofs.Common.{◌≡◌, ℕ, ◌+◌, ◌-◌, ◌≤◌, List, ◌++◌, length, take, drop, Option}
use Rattle.std.proofs.Common.{ap, sym, ◌∙◌, append_assoc, arith, length-drop, length-take-le}
use Rattle.std.specs.Io.KnownBytes.{Consumes}
use Rattle.std.proofs.Math.Seq.{take-append-add}
use Rattle.std.proofs.lemmas.List.{drop-take, take-append-le, take-take}
use Rattle.std.proofs.lemmas.List.Edits.{take-paste}
use lib.Seq.{paste}
use Rattle.ts_survey.specs.ReadBuffer.{BuffersMore}

received_bytes_append : (prefix to post rest : List ℕ) (size n : ℕ)
    → length prefix + n ≤ size
    → n ≤ length to
    → take (length prefix + n) (take size ((prefix ++ (to ++ post)) ++ rest)) ≡ prefix ++ take n to
received_bytes_append prefix to post rest size n fits some =
    take-take (length prefix + n) size ((prefix ++ (to ++ post)) ++ rest) fits
    ∙ ap (take (length prefix + n)) (append_assoc prefix (to ++ post) rest)
    ∙ take-append-add prefix ((to ++ post) ++ rest) n
    ∙ ap (λ l. prefix ++ l)
    (ap (take n) (append_assoc to post rest) ∙ take-append-le n to (post ++ rest) some)

pub pull_buffers_more_bytes : (items slice to post rest : List ℕ) (size len n : ℕ)
    (left next : Option (List ℕ))
    → slice ≡ items
    → len ≤ length items
    → len + n ≤ size
    → n ≤ length to
    → Consumes left next (take n to)
    → BuffersMore (take len items)
    (take (len + n) (take size ((take len slice ++ (to ++ post)) ++ rest))) left next
pull_buffers_more_bytes items slice to post rest size len n left next same within fits some
    consumed =
    let prefix = take len items in
    let e : length prefix ≡ len = length-take-le len items within in
    record {
      received = take n to;
      buffered = rw same
          (ap (λ k. take (k + n) (take size ((prefix ++ (to ++ post)) ++ rest))) (sym e)
          ∙ received_bytes_append prefix to post rest size n (rw e fits) some);
      consumed = consumed;
    }

pub skipping_drops_buffered_bytes : (items slice moved rest : List ℕ) (size len count : ℕ)
    → slice ≡ items
    → count ≤ len
    → len ≤ length items
    → len ≤ size
    → length moved ≡ length slice
    → moved ≡ paste slice 0 (drop count slice) (len - count)
    → take (len - count) (take size (moved ++ rest)) ≡ drop count (take len items)
skipping_drops_buffered_bytes items slice moved rest size len count same some within fits long now =
    let left = len - count in
    let whole : count + left ≡ len = omega arith in
    let none : left ≡ 0 + left = omega arith in
    let buffer : left ≤ length (drop count items) = omega (arith, length-drop count items) in
    take-take left size (moved ++ rest) (omega arith)
    ∙ take-append-le left moved rest (omega (arith, ap length same))
    ∙ ap (take left) now
    ∙ ap (λ l. take left (paste l 0 (drop count l) left)) same
    ∙ ap (λ k. take k (paste items 0 (drop count items) left)) none
    ∙ take-paste items 0 (drop count items) left (omega arith) buffer
    ∙ sym (drop-take count left items)
    ∙ ap (λ k. drop count (take k items)) whole
