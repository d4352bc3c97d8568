-- Processing an item does not change the output still to be returned.
use Rattle.std.proofs.Common.{◌≡◌, ℕ, zero, suc, ◌+◌, ◌-◌, ◌≤◌, ◌<◌, List, [], ◌∷◌, ◌++◌}
use Rattle.std.proofs.Common.{length}
use Rattle.std.proofs.Common.{take, drop, Option, Some, Bool, true, false, refl, sym, ap, ◌∙◌}
use Rattle.std.proofs.Common.{arith, append_assoc, length-append, length-drop, drop-drop}
use Rattle.std.proofs.Common.{inl, length-take, length-take-le, take-append-drop}
use Rattle.std.proofs.lemmas.Bool.Decides.{nat_tests}
use Rattle.std.proofs.lemmas.List.{drop-append-le, drop_all, get_or-take}
use Rattle.std.proofs.lemmas.List.{take-take}
use Rattle.std.proofs.Math.Seq.{drop-append-add, drop-append_seam, take-append-add}
use Rattle.std.specs.Prelude.{◌&&◌, ◌||◌, ◌==◌, ◌%◌, ◌*◌, nat_lt, slice_index, if◌then◌else◌}
use Rattle.std.specs.Io.KnownBytes.{Consumes, IsAtEnd, Keeps}
use lib.Seq.{take-add, take-append-le}
use Rattle.sub_io.specs.Requesting.{Requests, requests_on, requests_once}
use Rattle.sub_io.specs.Device.{SkipsOver}
use Rattle.sub_io.specs.Reading.{AreNextBytes}
use Rattle.sub_io.proofs.RequestingLemmas.{requests_shift_past_read_bytes}
use Rattle.sub_io.proofs.RequestingLemmas.{empty_read_requests_nothing}
use Rattle.sub_io.proofs.RequestingLemmas.{skipping_consumes_borrowed_prefix}
use Rattle.mpeg_ts.specs.GoodPackets.{PidEvent, Loss, loss_size, event_of_packet, pid_events}
use Rattle.mpeg_ts.specs.Joining.{JoiningValue, after_pid_event, later_output, without_pending}
use Rattle.mpeg_ts.specs.Joining.{has_ended}
use Rattle.mpeg_ts.specs.PacketsInStep.{Packet, Skipped, begins_packet, bytes_needed, items}
use Rattle.mpeg_ts.specs.Stream.{StreamValue, after_packet, after_skipped, bytes_ahead}
use Rattle.mpeg_ts.specs.Stream.{output_of, has_output, remaining_output, stream_output}
use Rattle.mpeg_ts.specs.TransportPacket.{packet_size, pid}
use Rattle.mpeg_ts.specs.ConsumedStreamBytes.{TakesPrefix, takes_bytes}
use Rattle.mpeg_ts.specs.Window.{RequestsUpTo, WindowValue, buffered_and_left, known_bytes_left}
use Rattle.mpeg_ts.proofs.ConsumedStreamBytesLemmas.{take_keeps_output, empty_take_keeps_output}
use Rattle.mpeg_ts.proofs.ConsumedStreamBytesLemmas.{take_continues, takes_compose}

pub too_short_bytes_no_items : (distance : ℕ) (in_step : Bool) (room : ℕ) (bytes : List ℕ)
    → length bytes < 188
    → items distance in_step room bytes ≡ []
unfolding items
too_short_bytes_no_items distance in_step room bytes h1 = grind (arith, nat_tests)

pub packet_is_first_item : (distance : ℕ) (in_step : Bool) (room : ℕ) (bytes : List ℕ)
    → 188 ≤ length bytes
    → begins_packet distance in_step bytes ≡ true
    → items distance in_step (suc room) bytes
    ≡ Packet (take packet_size bytes) ∷ items distance true room (drop distance bytes)
unfolding items
packet_is_first_item distance in_step room bytes h1 h2 = grind (arith, nat_tests)

pub skipped_byte_is_first_item : (distance : ℕ) (in_step : Bool) (room : ℕ) (bytes : List ℕ)
    → 188 ≤ length bytes
    → begins_packet distance in_step bytes ≡ false
    → items distance in_step (suc room) bytes
    ≡ Skipped ∷ items distance false room (drop 1 bytes)
unfolding items
skipped_byte_is_first_item distance in_step room bytes h1 h2 = grind (arith, nat_tests)

pub boolean_cases : {P : Type 0} (b : Bool) → (b ≡ true → P) → (b ≡ false → P) → P
boolean_cases b h1 h2 = grind (arith, nat_tests)

-- The number of items is at most the number of bytes, so all bounds of at least this number give
-- the same items.
pub extra_steps_add_no_items : (distance : ℕ) (in_step : Bool) (room : ℕ) (more : ℕ)
    (bytes : List ℕ)
    → 188 ≤ distance
    → length bytes ≤ room
    → length bytes ≤ more
    → items distance in_step room bytes ≡ items distance in_step more bytes
extra_steps_add_no_items distance in_step zero more bytes far le le_more = grind
    (arith, nat_tests, too_short_bytes_no_items)
extra_steps_add_no_items distance in_step (suc room) zero bytes far le le_more =
    grind (arith, nat_tests, too_short_bytes_no_items)
extra_steps_add_no_items distance in_step (suc room) (suc more) bytes far le le_more =
    grind (
      arith,
      nat_tests,
      boolean_cases,
      too_short_bytes_no_items,
      packet_is_first_item,
      length-drop,
      skipped_byte_is_first_item,
      extra_steps_add_no_items distance true room more (drop distance bytes) far
          (omega (arith, length-drop distance bytes)) (omega (arith, length-drop distance bytes)),
      extra_steps_add_no_items distance false room more (drop 1 bytes) far
          (omega (arith, length-drop 1 bytes)) (omega (arith, length-drop 1 bytes)),
    )

packet_is_first_of_all : (distance : ℕ) (in_step : Bool) (bytes : List ℕ)
    → 188 ≤ distance
    → 188 ≤ length bytes
    → begins_packet distance in_step bytes ≡ true
    → items distance in_step (length bytes) bytes
    ≡ Packet (take packet_size bytes)
    ∷ items distance true (length (drop distance bytes)) (drop distance bytes)
packet_is_first_of_all distance in_step bytes h1 h2 h3 =
    grind (arith, nat_tests, packet_is_first_item, extra_steps_add_no_items, length-drop)

skipped_byte_comes_first : (distance : ℕ) (in_step : Bool) (bytes : List ℕ)
    → 188 ≤ distance
    → 188 ≤ length bytes
    → begins_packet distance in_step bytes ≡ false
    → items distance in_step (length bytes) bytes
    ≡ Skipped ∷ items distance false (length (drop 1 bytes)) (drop 1 bytes)
skipped_byte_comes_first distance in_step bytes h1 h2 h3 =
    grind (arith, nat_tests, skipped_byte_is_first_item, extra_steps_add_no_items, length-drop)

event_gives_later_output : (j : JoiningValue) (n : PidEvent) (more : List PidEvent)
    → has_ended j.part ≡ false
    → j.pending ≡ []
    → later_output (without_pending j) (n ∷ more)
    ≡ (after_pid_event j n).pending ++ later_output (without_pending (after_pid_event j n)) more
unfolding later_output
event_gives_later_output j n more not_ended idle =
    let same : without_pending j ≡ j = ap (λ (l : List ℕ). record j { pending = l }) (sym idle) in
    rw not_ended (ap (λ (v : JoiningValue).
    (after_pid_event v n).pending ++ later_output (without_pending (after_pid_event v n)) more)
    same)

no_events_no_later_output : (j : JoiningValue) → later_output j [] ≡ []
unfolding later_output
no_events_no_later_output j = refl

pub ended_part_no_later_output : (j : JoiningValue) (all : List PidEvent)
    → has_ended j.part ≡ true
    → later_output j all ≡ []
unfolding later_output
ended_part_no_later_output j [] ended = refl
ended_part_no_later_output j (n ∷ more) ended = rw ended refl

short_stream_outputs_nothing : (distance number run : ℕ) (in_step : Bool) (j : JoiningValue)
    (bytes : List ℕ)
    → length bytes < 188
    → j.pending ≡ []
    → stream_output distance number run in_step j bytes ≡ []
unfolding stream_output pid_events
short_stream_outputs_nothing distance number run in_step j bytes few idle =
    ap (λ l. l ++ later_output (without_pending j)
    (pid_events distance number run (items distance in_step (length bytes) bytes))) idle
    ∙ ap (λ l. later_output (without_pending j) (pid_events distance number run l))
    (too_short_bytes_no_items distance in_step (length bytes) bytes few)
    ∙ no_events_no_later_output (without_pending j)

ended_stream_outputs_nothing : (distance number run : ℕ) (in_step : Bool) (j : JoiningValue)
    (bytes : List ℕ)
    → has_ended j.part ≡ true
    → j.pending ≡ []
    → stream_output distance number run in_step j bytes ≡ []
unfolding stream_output
ended_stream_outputs_nothing distance number run in_step j bytes h1 h2 = grind
    (arith, nat_tests, ended_part_no_later_output)

packet_event_gives_output : (distance number : ℕ) (p : List ℕ) (j : JoiningValue)
    (more : List PidEvent)
    → has_ended j.part ≡ false
    → j.pending ≡ []
    → later_output (without_pending j)
    (if pid p == number then event_of_packet p ∷ more else more)
    ≡ (after_packet number p j).pending
    ++ later_output (without_pending (after_packet number p j)) more
packet_event_gives_output distance number p j more h1 h2 = grind (
  arith,
  nat_tests,
  boolean_cases,
  event_gives_later_output,
)

pub stream_outputs_packet : (distance number run : ℕ) (in_step : Bool) (j : JoiningValue)
    (bytes : List ℕ)
    → 188 ≤ distance
    → 188 ≤ length bytes
    → begins_packet distance in_step bytes ≡ true
    → has_ended j.part ≡ false
    → j.pending ≡ []
    → stream_output distance number 0 true (after_packet number (take packet_size bytes) j)
    (drop distance bytes)
    ≡ stream_output distance number run in_step j bytes
unfolding stream_output pid_events
stream_outputs_packet distance number run in_step j bytes far many begins not_ended idle =
    let rest = drop distance bytes in
    let more = pid_events distance number 0 (items distance true (length rest) rest) in
    sym (ap (λ l. l ++ later_output (without_pending j)
    (pid_events distance number run (items distance in_step (length bytes) bytes))) idle
    ∙ ap (λ l. later_output (without_pending j) (pid_events distance number run l))
    (packet_is_first_of_all distance in_step bytes far many begins)
    ∙ packet_event_gives_output distance number (take packet_size bytes) j more not_ended idle)

skipped_bytes_give_output : (distance run : ℕ) (j : JoiningValue) (more : List PidEvent)
    → has_ended j.part ≡ false
    → j.pending ≡ []
    → later_output (without_pending j)
    (if run + 1 == loss_size distance then Loss ∷ more else more)
    ≡ (after_skipped distance run j).pending
    ++ later_output (without_pending (after_skipped distance run j)) more
skipped_bytes_give_output distance run j more h1 h2 = grind (
  arith,
  nat_tests,
  boolean_cases,
  event_gives_later_output,
)

pub stream_skips_byte : (distance number run : ℕ) (in_step : Bool) (j : JoiningValue)
    (bytes : List ℕ)
    → 188 ≤ distance
    → 188 ≤ length bytes
    → begins_packet distance in_step bytes ≡ false
    → has_ended j.part ≡ false
    → j.pending ≡ []
    → stream_output distance number (run + 1) false (after_skipped distance run j) (drop 1 bytes)
    ≡ stream_output distance number run in_step j bytes
unfolding stream_output pid_events
stream_skips_byte distance number run in_step j bytes far many skips not_ended idle =
    let rest = drop 1 bytes in
    let more = pid_events distance number (run + 1) (items distance false (length rest) rest) in
    sym (ap (λ l. l ++ later_output (without_pending j)
    (pid_events distance number run (items distance in_step (length bytes) bytes))) idle
    ∙ ap (λ l. later_output (without_pending j) (pid_events distance number run l))
    (skipped_byte_comes_first distance in_step bytes far many skips)
    ∙ skipped_bytes_give_output distance run j more not_ended idle)

junk_byte_is_skipped : (distance number run : ℕ) (j : JoiningValue) (x : ℕ) (rest : List ℕ)
    → 188 ≤ distance
    → (x ≡ 0x47 → ⊥)
    → (run + 1 ≡ loss_size distance → ⊥)
    → has_ended j.part ≡ false
    → j.pending ≡ []
    → stream_output distance number (run + 1) false j rest
    ≡ stream_output distance number run false j (x ∷ rest)
junk_byte_is_skipped distance number run j x rest far other no_hole not_ended idle =
    boolean_cases (nat_lt (length (x ∷ rest)) 188)
    (λ lt. let short : length (x ∷ rest) < 188 = grind (arith, nat_tests) in
    short_stream_outputs_nothing distance number (run + 1) false j rest (omega (arith, short)) idle
    ∙ sym (short_stream_outputs_nothing distance number run false j (x ∷ rest) short idle))
    (λ ge. let long : 188 ≤ length (x ∷ rest) = grind (arith, nat_tests) in
    let begins : begins_packet distance false (x ∷ rest) ≡ false = grind (arith, nat_tests) in
    let same : after_skipped distance run j ≡ j = grind (arith, nat_tests) in
    ap (λ (k : JoiningValue). stream_output distance number (run + 1) false k rest) (sym same)
    ∙ stream_skips_byte distance number run false j (x ∷ rest) far long begins not_ended idle)

take-one : (at : ℕ) (bytes rest : List ℕ)
    → at < length bytes
    → take (suc at) bytes ++ rest ≡ take at bytes ++ (slice_index bytes at ∷ rest)
take-one at [] rest lt = absurd (omega arith)
take-one zero (x ∷ xs) rest lt = refl
take-one (suc at) (x ∷ xs) rest lt = ap (λ l. x ∷ l) (take-one at xs rest (omega arith))

pub junk_run_is_skipped : (distance number run at : ℕ) (j : JoiningValue) (bytes rest : List ℕ)
    → 188 ≤ distance
    → at < length bytes
    → (slice_index bytes at ≡ 0x47 → ⊥)
    → (run < loss_size distance → run + (at + 1) < loss_size distance)
    → has_ended j.part ≡ false
    → j.pending ≡ []
    → ((more : List ℕ)
    → (run < loss_size distance → run + at < loss_size distance)
    → stream_output distance number (run + at) false j more
    ≡ stream_output distance number run false j (take at bytes ++ more))
    → stream_output distance number (run + (at + 1)) false j rest
    ≡ stream_output distance number run false j (take (at + 1) bytes ++ rest)
junk_run_is_skipped distance number run at j bytes rest far within other room not_ended idle
    before =
    let not_last : (run + at) + 1 ≡ loss_size distance → ⊥ =
    λ last. order_cases run (loss_size distance)
    (λ lt. omega (arith, room lt, last)) (λ ge. omega (arith, ge, last)) in
    let there : run < loss_size distance → run + at < loss_size distance =
    λ lt. omega (arith, room lt) in
    let sum : run + (at + 1) ≡ (run + at) + 1 = omega arith in
    let next : suc at ≡ at + 1 = omega arith in
    ap (λ (n : ℕ). stream_output distance number n false j rest) sum
    ∙ junk_byte_is_skipped distance number (run + at) j (slice_index bytes at) rest far other
    not_last not_ended
    idle
    ∙ before (slice_index bytes at ∷ rest) there
    ∙ ap (stream_output distance number run false j) (sym (take-one at bytes rest within)
    ∙ ap (λ (n : ℕ). take n bytes ++ rest) next)
  where
    order_cases : {P : Type 0} (m n : ℕ) → (m < n → P) → (n ≤ m → P) → P
    order_cases m n h1 h2 = boolean_cases (nat_lt m n)
        (λ lt. h1 (grind (arith, nat_tests))) (λ ge. h2 (grind (arith, nat_tests)))

pub drop-across : (n : ℕ) (xs ys : List ℕ)
    → drop (n - length xs) (drop n xs ++ ys) ≡ drop n (xs ++ ys)
drop-across n xs ys = grind (
  arith,
  nat_tests,
  boolean_cases,
  drop-append-le,
  drop_all,
  drop-append-add,
)

bytes_ahead_are_buffered : (v : StreamValue) (bytes : List ℕ)
    → v.lead ≤ length v.window.buffered
    → bytes_ahead v bytes ≡ drop v.lead v.window.buffered ++ take v.window.left bytes
bytes_ahead_are_buffered v bytes le = drop-append-le v.lead v.window.buffered
    (take v.window.left bytes) le

pub index-append : (i : ℕ) (xs ys : List ℕ)
    → i < length xs
    → slice_index (xs ++ ys) i ≡ slice_index xs i
index-append i [] ys lt = absurd (omega arith)
index-append zero (x ∷ xs) ys lt = refl
index-append (suc i) (x ∷ xs) ys lt = index-append i xs ys (omega arith)

pub index-following : (i : ℕ) (xs : List ℕ) → length xs ≤ i → slice_index xs i ≡ 0
index-following i [] le = refl
index-following zero (x ∷ xs) le = absurd (omega arith)
index-following (suc i) (x ∷ xs) le = index-following i xs (omega arith)

index-ahead : (v : StreamValue) (bytes : List ℕ) (i : ℕ)
    → v.lead + i < length v.window.buffered
    → slice_index (bytes_ahead v bytes) i ≡ slice_index (drop v.lead v.window.buffered) i
index-ahead v bytes i h1 = grind (
  arith,
  nat_tests,
  bytes_ahead_are_buffered,
  index-append,
  length-drop,
)

pub window_consumes_prefix : (x y : Option (List ℕ)) (v : StreamValue) (w : WindowValue)
    → TakesPrefix (buffered_and_left v.window) (buffered_and_left w) x y
    → TakesPrefix (output_of v) (output_of (record v { window = w })) x y
window_consumes_prefix x y v w (takes_bytes _ _ _ _ bytes consumed same) =
    takes_bytes (output_of v) (output_of (record v { window = w })) x y bytes consumed
    (λ more. ap (λ (l : List ℕ).
    stream_output v.distance v.number v.run v.in_step v.joining (drop v.lead l)) (same more))

loss_outputs_nothing_more : (j : JoiningValue) (more : List PidEvent)
    → later_output (without_pending (record j { has_break = true })) more ≡ []
    → later_output (without_pending j) (Loss ∷ more) ≡ []
unfolding later_output
loss_outputs_nothing_more j more h1 = grind (arith, nat_tests, boolean_cases)

-- If reading is out of step and at most `distance` bytes remain, these bytes hold no transport
-- packet, since no sync byte follows at that distance. So they give no further output.
skipped_tail_outputs_nothing : (distance number run room : ℕ) (j : JoiningValue) (bytes : List ℕ)
    → length bytes ≤ distance
    → later_output (without_pending j)
    (pid_events distance number run (items distance false room bytes)) ≡ []
unfolding pid_events items
skipped_tail_outputs_nothing distance number run zero j bytes few = no_events_no_later_output
    (without_pending j)
skipped_tail_outputs_nothing distance number run (suc room) j bytes few =
    boolean_cases (nat_lt (length bytes) 188)
    (λ lt. let short : length bytes < 188 = grind (arith, nat_tests) in
    ap (λ l. later_output (without_pending j) (pid_events distance number run l))
    (too_short_bytes_no_items distance false (suc room) bytes short) ∙ no_events_no_later_output
    (without_pending j))
    (λ many. let long : 188 ≤ length bytes = grind (arith, nat_tests) in
    let skips : begins_packet distance false bytes ≡ false =
    rw (index-following distance bytes few) (conjunction_ends_false (slice_index bytes 0 == 0x47))
    in
    let less : length (drop 1 bytes) ≤ distance = omega (arith, length-drop 1 bytes) in
    ap (λ l. later_output (without_pending j) (pid_events distance number run l))
    (skipped_byte_is_first_item distance false room bytes long skips)
    ∙ boolean_cases (run + 1 == loss_size distance)
    (λ yes. rw yes (loss_outputs_nothing_more j _ (skipped_tail_outputs_nothing distance number
    (run + 1) room
    (record j { has_break = true }) (drop 1 bytes) less)))
    (λ no. rw no (skipped_tail_outputs_nothing distance number (run + 1) room j (drop 1 bytes)
    less)))
  where
    conjunction_ends_false : (b : Bool) → (b && false) ≡ false
    conjunction_ends_false true = refl
    conjunction_ends_false false = refl

-- If nothing is pending, too few bytes to determine the next item give no output.
too_few_bytes_output_nothing : (distance number run : ℕ) (in_step : Bool) (j : JoiningValue)
    (bytes : List ℕ)
    → length bytes < bytes_needed distance in_step
    → j.pending ≡ []
    → stream_output distance number run in_step j bytes ≡ []
unfolding stream_output
too_few_bytes_output_nothing distance number run in_step j bytes h1 h2 =
    grind (arith, nat_tests, short_stream_outputs_nothing, skipped_tail_outputs_nothing)

pub needed_bytes_hold_packet : (distance : ℕ) (in_step : Bool)
    → 188 ≤ distance
    → 188 ≤ bytes_needed distance in_step
needed_bytes_hold_packet distance in_step h1 = grind (arith, nat_tests)

pub cut_window_outputs_nothing : (v : StreamValue)
    → 188 ≤ v.distance
    → v.joining.pending ≡ []
    → length v.window.buffered < v.lead + bytes_needed v.distance v.in_step
    → output_of v [] ≡ []
cut_window_outputs_nothing v h1 h2 h3 =
    grind (
      arith,
      nat_tests,
      too_few_bytes_output_nothing,
      needed_bytes_hold_packet,
      length-append,
      length-drop,
      length-take,
    )

pub missing_bytes_mean_end : (known_bytes : Option (List ℕ)) (v : StreamValue)
    → 188 ≤ v.distance
    → v.joining.pending ≡ []
    → length v.window.buffered < v.lead + bytes_needed v.distance v.in_step
    → IsAtEnd (known_bytes_left v.window known_bytes)
    → IsAtEnd (remaining_output v known_bytes)
missing_bytes_mean_end known_bytes v h1 h2 h3 h4 =
    grind (
      arith,
      nat_tests,
      too_few_bytes_output_nothing,
      needed_bytes_hold_packet,
      length-append,
      length-drop,
    )

-- If nothing is pending, no byte is requested beyond those that determine the next item, since
-- fewer bytes give no output.
pub needed_bytes_are_requested : {D : Type 0} (IsPull : D → ℕ → Option ℕ → D → Type 0)
    (borrowed : D → List ℕ)
    (remaining : D → Option (List ℕ)) (v : StreamValue) (w : WindowValue) (before after : D)
    (ok : Bool) (count : ℕ)
    → RequestsUpTo IsPull borrowed remaining count v.window before ok w after
    → count ≡ v.lead + bytes_needed v.distance v.in_step
    → 188 ≤ v.distance
    → v.joining.pending ≡ []
    → Requests IsPull borrowed remaining (has_output v) before ok
    (has_output (record v { window = w })) after
needed_bytes_are_requested IsPull borrowed remaining v w before after ok count requests is near
    idle =
    requests.requests (λ bytes. nat_lt 0 (length
    (stream_output v.distance v.number v.run v.in_step v.joining (drop v.lead bytes))))
    (λ bytes few. ap (λ (l : List ℕ). nat_lt 0 (length l))
    (too_few_bytes_output_nothing v.distance v.number v.run v.in_step v.joining (drop v.lead bytes)
    (omega (
      arith,
      is,
      length-drop v.lead bytes,
      needed_bytes_hold_packet v.distance v.in_step
          near,
    )) idle))

pub ruleset needing = (
  window_consumes_prefix,
  cut_window_outputs_nothing,
  missing_bytes_mean_end,
  needed_bytes_are_requested,
)

pub window_decides_packet_start : (v : StreamValue) (bytes : List ℕ)
    → 188 ≤ v.distance
    → v.lead + bytes_needed v.distance v.in_step ≤ length v.window.buffered
    → begins_packet v.distance v.in_step (bytes_ahead v bytes)
    ≡ ((slice_index (drop v.lead v.window.buffered) 0 == 0x47)
    && (v.in_step || (slice_index (drop v.lead v.window.buffered) v.distance == 0x47)))
window_decides_packet_start v bytes h1 h2 = grind
    (arith, nat_tests, index-ahead, needed_bytes_hold_packet, boolean_cases)

pub advancing_moves_bytes_ahead : (v w : StreamValue) (count : ℕ) (bytes : List ℕ)
    → w.window.buffered ≡ drop (v.lead + count) v.window.buffered
    → w.window.left ≡ v.window.left
    → w.lead ≡ (v.lead + count) - length v.window.buffered
    → bytes_ahead w bytes ≡ drop count (bytes_ahead v bytes)
advancing_moves_bytes_ahead v w count bytes h1 h2 h3 = grind (
  arith,
  nat_tests,
  drop-across,
  drop-drop,
)

pub ruleset advancing = (advancing_moves_bytes_ahead, length-drop)

take-ahead : (v : StreamValue) (bytes : List ℕ)
    → v.lead + 188 ≤ length v.window.buffered
    → take 188 (bytes_ahead v bytes) ≡ take 188 (drop v.lead v.window.buffered)
take-ahead v bytes there =
    ap (take 188) (bytes_ahead_are_buffered v bytes (omega arith))
    ∙ take-append-le 188 (drop v.lead v.window.buffered) (take v.window.left bytes)
    (omega (arith, length-drop v.lead v.window.buffered))

bytes_ahead_hold_packet : (v : StreamValue) (bytes : List ℕ)
    → v.lead + 188 ≤ length v.window.buffered
    → 188 ≤ length (bytes_ahead v bytes)
bytes_ahead_hold_packet v bytes h1 = grind (arith, nat_tests, length-drop, length-append)

-- If nothing is pending and the part has not ended the stream, processing a buffered transport
-- packet does not change the output still to be returned.
pub packet_advances_stream : (v w : StreamValue) (bytes : List ℕ)
    → 188 ≤ v.distance
    → v.lead + 188 ≤ length v.window.buffered
    → has_ended v.joining.part ≡ false
    → v.joining.pending ≡ []
    → w.distance ≡ v.distance
    → w.number ≡ v.number
    → w.run ≡ 0
    → w.in_step ≡ true
    → w.joining ≡ after_packet v.number (take 188 (drop v.lead v.window.buffered)) v.joining
    → bytes_ahead w bytes ≡ drop v.distance (bytes_ahead v bytes)
    → begins_packet v.distance v.in_step (bytes_ahead v bytes) ≡ true
    → output_of w bytes ≡ output_of v bytes
packet_advances_stream v w bytes far there not_ended idle distance number run step joining ahead
    begins =
    let same = ap (λ (p : List ℕ). after_packet v.number p v.joining) (take-ahead v bytes there) in
    ap (λ (n : ℕ). stream_output n w.number w.run w.in_step w.joining (bytes_ahead w bytes))
    distance
    ∙ ap (λ (n : ℕ). stream_output v.distance n w.run w.in_step w.joining (bytes_ahead w bytes))
    number
    ∙ ap (λ (n : ℕ). stream_output v.distance v.number n w.in_step w.joining (bytes_ahead w bytes))
    run
    ∙ ap (λ (b : Bool). stream_output v.distance v.number 0 b w.joining (bytes_ahead w bytes)) step
    ∙ ap (λ (j : JoiningValue). stream_output v.distance v.number 0 true j (bytes_ahead w bytes))
    (joining ∙ sym same)
    ∙ ap (stream_output v.distance v.number 0 true
    (after_packet v.number (take 188 (bytes_ahead v bytes)) v.joining)) ahead
    ∙ stream_outputs_packet v.distance v.number v.run v.in_step v.joining (bytes_ahead v bytes) far
    (bytes_ahead_hold_packet v bytes there) begins not_ended idle

-- If nothing is pending and the part has not ended the stream, skipping a byte that belongs to no
-- packet does not change the output still to be returned.
pub skipping_advances_stream : (v w : StreamValue) (bytes : List ℕ)
    → 188 ≤ v.distance
    → v.lead + 188 ≤ length v.window.buffered
    → has_ended v.joining.part ≡ false
    → v.joining.pending ≡ []
    → w.distance ≡ v.distance
    → w.number ≡ v.number
    → w.run ≡ v.run + 1
    → w.in_step ≡ false
    → w.joining ≡ after_skipped v.distance v.run v.joining
    → bytes_ahead w bytes ≡ drop 1 (bytes_ahead v bytes)
    → begins_packet v.distance v.in_step (bytes_ahead v bytes) ≡ false
    → output_of w bytes ≡ output_of v bytes
skipping_advances_stream v w bytes h1 h2 h3 h4 h5 h6 h7 h8 h9 h10 h11 =
    grind (arith, nat_tests, stream_skips_byte, bytes_ahead_hold_packet)

pub other_pid_packet_is_ignored : (v : StreamValue) (p : List ℕ)
    → (pid p ≡ v.number → ⊥)
    → v ≡ record v { joining = after_packet v.number p v.joining }
other_pid_packet_is_ignored v p h1 = grind (arith, nat_tests)

-- If reading is out of step, skipping buffered bytes that contain no packet does not change the
-- output still to be returned.
pub junk_changes_no_output : (v w : StreamValue) (count : ℕ) (bytes : List ℕ)
    → count ≤ length v.window.buffered
    → v.in_step ≡ false
    → v.lead ≡ 0
    → w.distance ≡ v.distance
    → w.number ≡ v.number
    → w.run ≡ v.run + count
    → w.in_step ≡ v.in_step
    → w.joining ≡ v.joining
    → w.lead ≡ count - length v.window.buffered
    → w.window.buffered ≡ drop count v.window.buffered
    → w.window.left ≡ v.window.left
    → ((rest : List ℕ) → stream_output v.distance v.number (v.run + count) false v.joining rest
    ≡ stream_output v.distance v.number v.run false v.joining (take count v.window.buffered ++
    rest))
    → output_of w bytes ≡ output_of v bytes
junk_changes_no_output v w count bytes h1 h2 h3 h4 h5 h6 h7 h8 h9 h10 h11 h12 =
    let none : w.lead ≡ 0 = omega (arith, h1, h9) in
    let following = take v.window.left bytes in
    let all : v.window.buffered ++ following ≡ take count v.window.buffered
    ++ (drop count v.window.buffered ++ following) =
    ap (λ (l : List ℕ). l ++ following) (sym (take-append-drop count v.window.buffered))
    ∙ append_assoc (take count v.window.buffered) (drop count v.window.buffered) following in
    rw (none, h3, h4, h5, h6, h7, h2, h8, h10, h11)
    (h12 (drop count v.window.buffered ++ following)
    ∙ ap (stream_output v.distance v.number v.run false v.joining) (sym all))

pub ruleset packets = packet_advances_stream

pub skipping_keeps_pending : (distance run : ℕ) (j : JoiningValue)
    → (after_skipped distance run j).pending ≡ j.pending
skipping_keeps_pending distance run j = boolean_cases (run + 1 == loss_size distance)
    (λ yes. rw yes refl) (λ no. rw no refl)

pub skipping_keeps_has_ended : (distance run : ℕ) (j : JoiningValue)
    → has_ended (after_skipped distance run j).part ≡ has_ended j.part
skipping_keeps_has_ended distance run j = boolean_cases (run + 1 == loss_size distance)
    (λ yes. rw yes refl) (λ no. rw no refl)

pub ruleset skips = (skipping_advances_stream, skipping_keeps_pending, skipping_keeps_has_ended)

pub ruleset junk = (junk_run_is_skipped, junk_changes_no_output)

pub item_consumes_prefix : (before known_bytes : Option (List ℕ)) (u v w : StreamValue)
    (begins : Bool)
    → TakesPrefix (output_of u) (output_of v) before known_bytes
    → ((bytes : List ℕ) → begins_packet v.distance v.in_step (bytes_ahead v bytes) ≡ begins)
    → ((bytes : List ℕ)
    → begins_packet v.distance v.in_step (bytes_ahead v bytes) ≡ begins
    → output_of w bytes ≡ output_of v bytes)
    → TakesPrefix (output_of u) (output_of w) before known_bytes
item_consumes_prefix before known_bytes u v w begins takes unit_is_in_order same =
    take_continues (output_of u) (output_of v) (output_of w) before known_bytes takes
    (λ more. same more (unit_is_in_order more))

pub item_requests_needed_bytes : {D : Type 0} (IsPull : D → ℕ → Option ℕ → D → Type 0)
    (borrowed : D → List ℕ)
    (remaining : D → Option (List ℕ)) (u v w : StreamValue) (before after : D) (begins : Bool)
    → Requests IsPull borrowed remaining (has_output u) before true (has_output v) after
    → ((bytes : List ℕ) → begins_packet v.distance v.in_step (bytes_ahead v bytes) ≡ begins)
    → ((bytes : List ℕ)
    → begins_packet v.distance v.in_step (bytes_ahead v bytes) ≡ begins
    → output_of w bytes ≡ output_of v bytes)
    → Requests IsPull borrowed remaining (has_output u) before true (has_output w) after
item_requests_needed_bytes IsPull borrowed remaining u v w before after begins h1 h2 h3 =
    grind (arith, nat_tests, requests_shift_past_read_bytes)

pub ended_stream_is_at_end : (known_bytes : Option (List ℕ)) (v : StreamValue)
    → has_ended v.joining.part ≡ true
    → v.joining.pending ≡ []
    → IsAtEnd (remaining_output v known_bytes)
ended_stream_is_at_end known_bytes v h1 h2 = grind (arith, nat_tests, ended_stream_outputs_nothing)

pub ruleset steps = (item_consumes_prefix, item_requests_needed_bytes, requests_on, takes_compose)

pub ruleset reads = (
  ended_stream_is_at_end,
  requests_on,
  empty_read_requests_nothing,
  takes_compose,
  empty_take_keeps_output,
  take_keeps_output,
)

pub pending_prefix_is_output : (v : StreamValue) (rest got bytes : List ℕ)
    → v.joining.pending ≡ got ++ rest
    → output_of v bytes
    ≡ got ++ output_of (record v { joining = record v.joining { pending = rest } }) bytes
unfolding stream_output
pending_prefix_is_output v rest got bytes h1 = grind (arith, nat_tests, append_assoc)

pub output_prefix_is_consumed : (before known_bytes : Option (List ℕ)) (u v : StreamValue)
    (rest got : List ℕ)
    → Keeps (remaining_output u before) (remaining_output v known_bytes)
    → v.joining.pending ≡ got ++ rest
    → Consumes (remaining_output u before)
    (remaining_output (record v { joining = record v.joining { pending = rest } }) known_bytes) got
output_prefix_is_consumed before known_bytes u v rest got h1 h2 = grind
    (arith, nat_tests, pending_prefix_is_output)

consumed_bytes_change_output : (v w : StreamValue) (taken bytes : List ℕ)
    → v.window.buffered ≡ []
    → length taken ≤ v.window.left
    → ((rest : List ℕ) → stream_output w.distance w.number w.run w.in_step w.joining rest
    ≡ stream_output v.distance v.number v.run v.in_step v.joining (drop v.lead (taken ++ rest)))
    → w.lead ≡ 0
    → w.window ≡ record v.window { left = v.window.left - length taken }
    → output_of w bytes ≡ output_of v (taken ++ bytes)
consumed_bytes_change_output v w taken bytes none few gives lead window =
    let left = v.window.left in
    let all : left ≡ length taken + (left - length taken) = omega arith in
    ap (λ (n : ℕ). stream_output w.distance w.number w.run w.in_step w.joining
    (drop n (buffered_and_left w.window bytes))) lead
    ∙ ap (λ (u : WindowValue). stream_output w.distance w.number w.run w.in_step w.joining
    (buffered_and_left u bytes)) window
    ∙ ap (λ (l : List ℕ). stream_output w.distance w.number w.run w.in_step w.joining
    (l ++ take (left - length taken) bytes)) none
    ∙ gives (take (left - length taken) bytes)
    ∙ ap (λ (l : List ℕ). stream_output v.distance v.number v.run v.in_step v.joining
    (drop v.lead l))
    (sym (take-append-add taken bytes (left - length taken))
    ∙ ap (λ (n : ℕ). take n (taken ++ bytes)) (sym all))
    ∙ ap (λ (l : List ℕ). stream_output v.distance v.number v.run v.in_step v.joining
    (drop v.lead (l ++ take left (taken ++ bytes)))) (sym none)

pub borrowed_count_is_available : (borrowed all : List ℕ) (count : ℕ)
    → take (length borrowed) all ≡ borrowed
    → count ≤ length borrowed
    → count ≤ length all
borrowed_count_is_available borrowed all count h1 h2 = grind (arith, nat_tests, length-take)

pub skipping_borrowed_is_valid : {D : Type 0} (IsPull : D → ℕ → Option ℕ → D → Type 0)
    (borrowed : D → List ℕ)
    (remaining : D → Option (List ℕ)) (v w : StreamValue) (before after : D) (next : List ℕ)
    (count : ℕ)
    → AreNextBytes next (remaining before)
    → take (length next) (borrowed before) ≡ next
    → count ≤ length next
    → IsPull before count (Some count) after
    → SkipsOver (remaining before) count (remaining after)
    → ((bytes : List ℕ) → output_of w bytes ≡ output_of v (take count next ++ bytes))
    → TakesPrefix (output_of v) (output_of w) (remaining before) (remaining after)
    × Requests IsPull borrowed remaining (has_output v) before true (has_output w) after
skipping_borrowed_is_valid IsPull borrowed remaining v w before after next count are prefix fits
    pull skipped
    gives =
    let taken = take count next in
    let long : length taken ≡ count = length-take-le count next fits in
    let consumed = skipping_consumes_borrowed_prefix (remaining before) (remaining after) next count
    are skipped fits
    in (
      takes_bytes (output_of v) (output_of w) (remaining before) (remaining after) taken consumed
          (λ more. sym (gives more)),
      requests_once (has_output v) (has_output w) before after count taken
          (inl (borrowed_count_is_available next (borrowed before) count prefix fits))
          (rw long pull) consumed
          (requests_shift_past_read_bytes taken (has_output v) (has_output w)
          (λ bytes. ap (λ (l : List ℕ). nat_lt 0 (length l)) (gives bytes))),
    )

other_pid_unit_is_skipped : (distance number : ℕ) (j : JoiningValue) (unit rest : List ℕ)
    → 188 ≤ distance
    → length unit ≡ distance
    → slice_index unit 0 ≡ 0x47
    → (pid unit ≡ number → ⊥)
    → has_ended j.part ≡ false
    → j.pending ≡ []
    → stream_output distance number 0 true j rest
    ≡ stream_output distance number 0 true j (unit ++ rest)
other_pid_unit_is_skipped distance number j unit rest near long sync other not_ended idle =
    let all = unit ++ rest in
    let byte : (i : ℕ) → i < 188 → slice_index (take 188 all) i ≡ slice_index unit i =
    λ i lt. get_or-take 188 all i 0 lt ∙ index-append i unit rest (omega (arith, long)) in
    let begins : begins_packet distance true all ≡ true =
    ap (λ (n : ℕ). (n == 0x47) && true)
    (index-append 0 unit rest (omega (arith, long)) ∙ sync) in
    let same : pid (take 188 all) ≡ pid unit =
    ap (λ (n : ℕ). n % 0x20 * 0x100 + slice_index (take 188 all) 2) (byte 1 (omega arith))
    ∙ ap (λ (n : ℕ). slice_index unit 1 % 0x20 * 0x100 + n) (byte 2 (omega arith)) in
    let none : (pid (take 188 all) == number) ≡ false =
    unequal_numbers_compare_false (pid (take 188 all)) number (λ e. other (sym same ∙ e)) in
    let following : drop distance all ≡ rest =
    ap (λ (n : ℕ). drop n all) (sym long) ∙ drop-append_seam unit rest in
    ap (stream_output distance number 0 true j) (sym following)
    ∙ ap (λ (v : JoiningValue). stream_output distance number 0 true v (drop distance all))
    (sym (ap (λ (b : Bool). if b then after_pid_event j (event_of_packet (take 188 all)) else j)
    none))
    ∙ stream_outputs_packet distance number 0 true j all near
    (omega (arith, long, length-append unit rest)) begins not_ended idle
  where
    unequal_numbers_compare_false : (m n : ℕ) → (m ≡ n → ⊥) → (m == n) ≡ false
    unequal_numbers_compare_false m n differ = grind (arith, nat_tests)

pub unit_at_place_is_skipped : (distance number from at : ℕ) (j : JoiningValue)
    (bytes rest : List ℕ)
    → 188 ≤ distance
    → at + distance ≤ length bytes
    → slice_index (drop at bytes) 0 ≡ 0x47
    → (pid (drop at bytes) ≡ number → ⊥)
    → has_ended j.part ≡ false
    → j.pending ≡ []
    → ((more : List ℕ) → stream_output distance number 0 true j more
    ≡ stream_output distance number 0 true j (drop from (take at bytes ++ more)))
    → stream_output distance number 0 true j rest
    ≡ stream_output distance number 0 true j (drop from (take (at + distance) bytes ++ rest))
unit_at_place_is_skipped distance number from at j bytes rest near within sync other not_ended
    idle before =
    let unit = take distance (drop at bytes) in
    let long : length unit ≡ distance =
    omega (arith, length-take distance (drop at bytes), length-drop at bytes) in
    let byte : (i : ℕ) → i < distance → slice_index unit i ≡ slice_index (drop at bytes) i =
    λ i lt. get_or-take distance (drop at bytes) i 0 lt in
    let same : pid unit ≡ pid (drop at bytes) =
    ap (λ (n : ℕ). n % 0x20 * 0x100 + slice_index unit 2) (byte 1 (omega arith))
    ∙ ap (λ (n : ℕ). slice_index (drop at bytes) 1 % 0x20 * 0x100 + n) (byte 2 (omega arith)) in
    other_pid_unit_is_skipped distance number j unit rest near long (byte 0 (omega arith) ∙ sync)
    (λ e. other (sym same ∙ e)) not_ended idle
    ∙ before (unit ++ rest)
    ∙ ap (λ (l : List ℕ). stream_output distance number 0 true j (drop from l))
    (sym (append_assoc (take at bytes) unit rest)
    ∙ ap (λ (l : List ℕ). l ++ rest) (sym (take-add at distance bytes)))

-- If reading is in step and the window has no buffered bytes, skipping packets of other PIDs in the
-- source's buffer does not change the output still to be returned.
pub other_units_change_no_output : (v w : StreamValue) (taken bytes : List ℕ) (count : ℕ)
    → length taken ≡ count
    → v.window.buffered ≡ []
    → count ≤ v.window.left
    → v.in_step ≡ true
    → v.run ≡ 0
    → ((rest : List ℕ) → stream_output v.distance v.number 0 true v.joining rest
    ≡ stream_output v.distance v.number 0 true v.joining (drop v.lead (taken ++ rest)))
    → w ≡ record v { window = record v.window { left = v.window.left - count }; lead = 0 }
    → output_of w bytes ≡ output_of v (taken ++ bytes)
other_units_change_no_output v w taken bytes count h1 h2 h3 h4 h5 h6 h7 = grind
    (arith, nat_tests, consumed_bytes_change_output)

pub packet_of_pid_is_noted : (number : ℕ) (p : List ℕ) (j : JoiningValue)
    → pid p ≡ number
    → after_packet number p j ≡ after_pid_event j (event_of_packet p)
packet_of_pid_is_noted number p j h1 = grind (arith, nat_tests)

unit_of_pid_is_noted : (distance number : ℕ) (j : JoiningValue) (unit rest p : List ℕ)
    → 188 ≤ distance
    → length unit ≡ distance
    → p ≡ take 188 unit
    → slice_index p 0 ≡ 0x47
    → has_ended j.part ≡ false
    → j.pending ≡ []
    → stream_output distance number 0 true (after_packet number p j) rest
    ≡ stream_output distance number 0 true j (unit ++ rest)
unit_of_pid_is_noted distance number j unit rest p near size packet sync not_ended idle =
    let heads : take 188 (unit ++ rest) ≡ p =
    take-append-le 188 unit rest (omega (arith, size)) ∙ sym packet in
    let begins : begins_packet distance true (unit ++ rest) ≡ true =
    ap (λ (n : ℕ). (n == 0x47) && true)
    (sym (get_or-take 188 (unit ++ rest) 0 0 (omega arith))
    ∙ ap (λ (l : List ℕ). slice_index l 0) heads ∙ sync) in
    let following : drop distance (unit ++ rest) ≡ rest =
    ap (λ (n : ℕ). drop n (unit ++ rest)) (sym size) ∙ drop-append_seam unit rest in
    ap (stream_output distance number 0 true (after_packet number p j)) (sym following)
    ∙ ap (λ (l : List ℕ). stream_output distance number 0 true (after_packet number l j)
    (drop distance (unit ++ rest))) (sym heads)
    ∙ stream_outputs_packet distance number 0 true j (unit ++ rest) near
    (omega (arith, size, length-append unit rest)) begins not_ended idle

-- If nothing is pending and the part has not ended the stream, skipping packets of other PIDs in
-- the source's buffer, and processing the packet after them, does not change the output still to be
-- returned.
pub borrowed_packet_is_output : (v w : StreamValue) (borrowed p bytes : List ℕ) (place count : ℕ)
    → count ≡ place + v.distance
    → count ≤ length borrowed
    → v.window.buffered ≡ []
    → count ≤ v.window.left
    → v.in_step ≡ true
    → v.run ≡ 0
    → 188 ≤ v.distance
    → p ≡ take 188 (drop place borrowed)
    → slice_index p 0 ≡ 0x47
    → has_ended v.joining.part ≡ false
    → v.joining.pending ≡ []
    → ((rest : List ℕ) → stream_output v.distance v.number 0 true v.joining rest
    ≡ stream_output v.distance v.number 0 true v.joining
    (drop v.lead (take place borrowed ++ rest)))
    → w ≡ record v {
      window = record v.window { left = v.window.left - count };
      lead = 0;
      joining = after_packet v.number p v.joining;
    }
    → output_of w bytes ≡ output_of v (take count borrowed ++ bytes)
borrowed_packet_is_output v w borrowed p bytes place count sum fits none few step run near packet
    sync not_ended idle
    others is =
    let long : length (take count borrowed) ≡ count = length-take-le count borrowed fits in
    ap (λ (u : StreamValue). output_of u bytes) is
    ∙ consumed_bytes_change_output v (record v {
      window = record v.window { left = v.window.left - count };
      lead = 0;
      joining = after_packet v.number p v.joining;
    }) (take count borrowed) bytes none (omega (arith, long)) gives refl
    (ap (λ n. record v.window { left = v.window.left - n }) (sym long))
  where
    gives : (rest : List ℕ)
        → stream_output v.distance v.number v.run v.in_step (after_packet v.number p v.joining) rest
        ≡ stream_output v.distance v.number v.run v.in_step v.joining
        (drop v.lead (take count borrowed ++ rest))
    gives rest =
        let unit = take v.distance (drop place borrowed) in
        let size : length unit ≡ v.distance =
        omega
        (arith, sum, fits, length-take v.distance (drop place borrowed), length-drop place borrowed)
        in
        let parts : take count borrowed ≡ take place borrowed ++ unit =
        ap (λ (n : ℕ). take n borrowed) sum ∙ take-add place v.distance borrowed in
        let prefix : p ≡ take 188 unit =
        packet ∙ sym (take-take 188 v.distance (drop place borrowed) near) in
        rw (step, run)
        (unit_of_pid_is_noted v.distance v.number v.joining unit rest p near size prefix sync
        not_ended idle
        ∙ others (unit ++ rest)
        ∙ ap (λ (l : List ℕ). stream_output v.distance v.number 0 true v.joining (drop v.lead l))
        (sym (append_assoc (take place borrowed) unit rest)
        ∙ ap (λ (l : List ℕ). l ++ rest) (sym parts)))

pub ruleset others = unit_at_place_is_skipped

pub ruleset skims = (empty_read_requests_nothing, empty_take_keeps_output)
