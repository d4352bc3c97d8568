-- The buffer receives the next bytes of a recording, and no more bytes are requested than allowed.
use Rattle.std.proofs.lemmas.Bool.Decides.{nat_tests}
use Rattle.std.proofs.Common.{◌≡◌, ℕ, zero, suc, ◌+◌, ◌<◌, List, ◌++◌, length, take}
use Rattle.std.proofs.Common.{Option, Some, None, refl, sym, ap, ◌∙◌, arith, append_assoc}
use Rattle.std.proofs.Common.{Bool, true, false, ◌≤◌, inr, length-append, length-take}
use Rattle.std.proofs.Math.Seq.{take-append-add}
use Rattle.std.specs.Prelude.{option_map}
use Rattle.std.specs.Io.KnownBytes.{Consumes, IsAtEnd}
use Rattle.sub_io.specs.Requesting.{requests_in_vain, requests_on, requests_once}
use Rattle.sub_io.proofs.RequestingLemmas.{requests_shift_past_read_bytes}
use Rattle.sub_io.proofs.RequestingLemmas.{empty_read_requests_nothing}
use Rattle.mpeg_ts.specs.ConsumedStreamBytes.{TakesPrefix, takes_bytes}
use Rattle.mpeg_ts.specs.Window.{RequestsUpTo, WindowValue, buffered_and_left, known_bytes_left}
use Rattle.mpeg_ts.proofs.ConsumedStreamBytesLemmas.{failed_take_keeps_output}
use Rattle.mpeg_ts.proofs.ConsumedStreamBytesLemmas.{empty_take_keeps_output, takes_compose}

abbrev pub window : List ℕ → ℕ → WindowValue
window buffered left = record { buffered = buffered; left = left }

short_request_is_not_enough : (buffered : List ℕ) (left room : ℕ) (is_enough : List ℕ → Bool)
    → ((bytes : List ℕ) → length bytes < length buffered + room → is_enough bytes ≡ false)
    → (bytes : List ℕ)
    → length bytes < room
    → is_enough (buffered_and_left (window buffered left) bytes) ≡ false
short_request_is_not_enough buffered left room is_enough h1 bytes h2 =
    grind (arith, nat_tests, length-append, length-take)

pub window-takes : (x y : Option (List ℕ)) (buffered got : List ℕ) (left less n : ℕ)
    → n ≡ length got
    → less + n ≡ left
    → Consumes x y got
    → TakesPrefix (buffered_and_left (window buffered left))
    (buffered_and_left (window (buffered ++ got) less)) x y
window-takes x y buffered got left less n long is consumed =
    let all : left ≡ length got + less = omega (arith, long, is) in
    takes_bytes _ _ x y got consumed
    (λ more. sym (append_assoc buffered got (take less more)
    ∙ ap (λ l. buffered ++ l) (sym (take-append-add got more less)
    ∙ ap (λ k. take k (got ++ more)) (sym all))))

nothing_left_to_take : (n : ℕ) (known_bytes : Option (List ℕ))
    → (0 < n → IsAtEnd known_bytes)
    → IsAtEnd (option_map (take n) known_bytes)
nothing_left_to_take zero None end = tt
nothing_left_to_take zero (Some b) end = refl
nothing_left_to_take (suc n) None end = tt
nothing_left_to_take (suc n) (Some b) end = ap (take (suc n)) (end (omega arith))

pub window_left_is_at_end : (w : WindowValue) (known_bytes : Option (List ℕ)) (room : ℕ)
    → (0 < w.left → 0 < room)
    → (0 < room → IsAtEnd known_bytes)
    → IsAtEnd (known_bytes_left w known_bytes)
window_left_is_at_end w known_bytes room some end = nothing_left_to_take w.left known_bytes
    (λ left. end (some left))

abbrev shifted_condition : WindowValue → (List ℕ → Bool) → List ℕ → Bool
shifted_condition w is_enough bytes = is_enough (buffered_and_left w bytes)

-- A successful pull that requests exactly `room` bytes requests no more bytes than `RequestsUpTo`
-- allows.
pub window-requested : {D : Type 0} (IsPull : D → ℕ → Option ℕ → D → Type 0) (borrowed : D → List ℕ)
    (remaining : D → Option (List ℕ)) (before after : D) (buffered got : List ℕ)
    (left less n requested room : ℕ)
    → IsPull before requested (Some n) after
    → requested ≡ room
    → n ≡ length got
    → less + n ≡ left
    → Consumes (remaining before) (remaining after) got
    → RequestsUpTo IsPull borrowed remaining (length buffered + room)
    (window buffered left) before true (window (buffered ++ got) less) after
window-requested IsPull borrowed remaining before after buffered got left less n requested room pull
    whole long is
    consumed = record {
      requests = λ is_enough few.
          requests_once (shifted_condition (window buffered left) is_enough)
          (shifted_condition (window (buffered ++ got) less) is_enough) before after room got
          (inr (short_request_is_not_enough buffered left room is_enough few))
          (rw (whole, long) at pull) consumed
          (requests_shift_past_read_bytes got (shifted_condition (window buffered left) is_enough)
          (shifted_condition (window (buffered ++ got) less) is_enough)
          (λ bytes. ap is_enough (append_assoc buffered got (take less bytes)
          ∙ ap (λ l. buffered ++ l) (sym (take-append-add got bytes less)
          ∙ ap (λ k. take k (got ++ bytes)) (all less n left got long is)))));
    }
  where
    all : (less n left : ℕ) (got : List ℕ) → n ≡ length got → less + n ≡ left
        → length got + less ≡ left
    all less n left got long is = omega (arith, long, is)

-- A pull that fails and requests `room` bytes requests no more than `RequestsUpTo` allows.
pub window-failed : {D : Type 0} (IsPull : D → ℕ → Option ℕ → D → Type 0) (borrowed : D → List ℕ)
    (remaining : D → Option (List ℕ)) (before after : D) (w v : WindowValue) (requested room : ℕ)
    → IsPull before requested None after
    → requested ≡ room
    → RequestsUpTo IsPull borrowed remaining (length w.buffered + room) w before false v after
window-failed IsPull borrowed remaining before after w v requested room pull whole = record {
  requests = λ is_enough few.
      requests_in_vain (shifted_condition w is_enough) (shifted_condition v is_enough) before after
      room
      (inr (short_request_is_not_enough w.buffered w.left room is_enough few)) (rw whole at pull);
}

pub window-on : {D : Type 0} (IsPull : D → ℕ → Option ℕ → D → Type 0) (borrowed : D → List ℕ)
    (remaining : D → Option (List ℕ)) (before mid after : D) (u v w : WindowValue)
    (count less : ℕ) (ok : Bool)
    → RequestsUpTo IsPull borrowed remaining count u before true v mid
    → RequestsUpTo IsPull borrowed remaining less v mid ok w after
    → less ≤ count
    → RequestsUpTo IsPull borrowed remaining count u before ok w after
window-on IsPull borrowed remaining before mid after u v w count less ok first then le = record {
  requests = λ is_enough few.
      requests_on (shifted_condition u is_enough) (shifted_condition v is_enough)
      (shifted_condition w is_enough) before mid
      after
      ok (first.requests is_enough few)
      (then.requests is_enough (λ bytes short. few bytes (omega (arith, short, le))));
}

pub window-none : {D : Type 0} (IsPull : D → ℕ → Option ℕ → D → Type 0) (borrowed : D → List ℕ)
    (remaining : D → Option (List ℕ)) (source : D) (w : WindowValue) (count : ℕ)
    → RequestsUpTo IsPull borrowed remaining count w source true w source
window-none IsPull borrowed remaining source w count = grind
    (arith, nat_tests, empty_read_requests_nothing)

pub ruleset pulling = (window-takes, failed_take_keeps_output, window-requested, window-failed)

pub ruleset filling = (
  window_left_is_at_end,
  window-on,
  window-none,
  takes_compose,
  empty_take_keeps_output,
)
