-- A read that takes no bytes requests none from the source. Skipping bytes that a source has
-- buffered consumes exactly these bytes.
use Rattle.std.proofs.Common.{◌≡◌, ℕ, ◌≤◌, Bool, true, List, ◌++◌, length, take}
use Rattle.std.proofs.Common.{Option, Some, None, refl, sym, ap, ◌∙◌}
use Rattle.std.proofs.lemmas.List.{take-take}
use Rattle.std.proofs.Math.Seq.{take-append_seam}
use Rattle.std.specs.Io.KnownBytes.{Consumes}
use Rattle.sub_io.specs.Requesting.{Requests, IsEnoughAfterReading, requests_nothing}
use Rattle.sub_io.specs.Device.{SkipsOver}
use Rattle.sub_io.specs.Reading.{AreNextBytes}

pub empty_read_requests_nothing : {D : Type 0} (IsPull : D → ℕ → Option ℕ → D → Type 0)
    (borrowed : D → List ℕ)
    (remaining : D → Option (List ℕ)) (is_enough : List ℕ → Bool) (source : D)
    → Requests IsPull borrowed remaining is_enough source true is_enough source
empty_read_requests_nothing IsPull borrowed remaining is_enough source =
    requests_nothing is_enough is_enough source (λ bytes is. is)

pub requests_shift_past_read_bytes : (taken : List ℕ) (old new : List ℕ → Bool)
    → ((bytes : List ℕ) → new bytes ≡ old (taken ++ bytes))
    → IsEnoughAfterReading taken old new
requests_shift_past_read_bytes taken old new same bytes is = same bytes ∙ is

pub skipping_consumes_borrowed_prefix : (x y : Option (List ℕ)) (borrowed : List ℕ) (count : ℕ)
    → AreNextBytes borrowed x
    → SkipsOver x count y
    → count ≤ length borrowed
    → Consumes x y (take count borrowed)
skipping_consumes_borrowed_prefix None y borrowed count next skipped within = tt
skipping_consumes_borrowed_prefix (Some xs) None borrowed count next skipped within = absurd
    skipped.consumed
skipping_consumes_borrowed_prefix (Some xs) (Some ys) borrowed count next skipped within =
    let same : skipped.bytes ≡ take count borrowed =
    sym (take-append_seam skipped.bytes ys)
    ∙ ap (λ n. take n (skipped.bytes ++ ys)) skipped.number
    ∙ ap (take count) (sym skipped.consumed)
    ∙ sym (take-take count (length borrowed) xs within)
    ∙ ap (take count) (next xs refl) in
    skipped.consumed ∙ ap (λ l. l ++ ys) same
