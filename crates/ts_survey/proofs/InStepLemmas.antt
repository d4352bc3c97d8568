-- Two calls that each receive a part of the bytes find the same transport packets as one call that
-- receives all bytes.
use Rattle.std.proofs.Common.{◌≡◌, ℕ, zero, suc, ◌+◌, ◌-◌, ◌*◌, ◌<◌, ◌≤◌, Bool, true, false}
use Rattle.std.proofs.Common.{List, [], ◌∷◌, ◌++◌, ◌∙◌, drop, take, length, replicate}
use Rattle.std.proofs.Common.{refl, sym, ap, subst, arith, append-nil, append_assoc}
use Rattle.std.proofs.Common.{drop-drop, length-append, length-drop}
use Rattle.std.proofs.lemmas.Bool.Decides.{nat_tests}
use Rattle.std.proofs.lemmas.List.{get_or-drop, take-append-le, drop-append-le}
use Rattle.std.specs.Prelude.{slice_index, ◌==◌, ◌&&◌, ◌||◌, nat_le, nat_lt, if◌then◌else◌}
use Rattle.mpeg_ts.specs.GoodPackets.{loss_size}
use Rattle.mpeg_ts.specs.PacketSize.{bytes_of}
use Rattle.mpeg_ts.specs.declared.packet_size.PacketSize.{PacketSize}
use Rattle.mpeg_ts.specs.declared.packet_size.PacketSize.TheVariants.{Plain, TimeStamped}
use Rattle.mpeg_ts.specs.declared.packet_size.PacketSize.TheVariants.{ErrorCorrected}
use Rattle.mpeg_ts.specs.PacketsInStep.{Item, Packet, Skipped, begins_packet}
use Rattle.mpeg_ts.proofs.StreamLemmas.{index-append, index-following, too_short_bytes_no_items}
use Rattle.mpeg_ts.proofs.StreamLemmas.{packet_is_first_item}
use Rattle.mpeg_ts.proofs.StreamLemmas.{extra_steps_add_no_items, skipped_byte_is_first_item}
use Rattle.ttx_page.specs.Receiver.{RunsBy}
use Rattle.ttx_page.proofs.RunLemmas.{RunsBy-append}
use Rattle.ts_survey.specs.InStep.{ItemsFound, LawOfTwoCalls, unprocessed_at_end, saturating_count}
use Rattle.ts_survey.specs.InStep.{gap_report, items_from, packet_count, trailing_skipped_count}
use Rattle.ts_survey.specs.InStep.{skipped_byte_count}
use Rattle.ts_survey.specs.InStep.{reports_of_items}
use Rattle.ts_survey.specs.declared.packets_in_step.PacketsInStep.{PacketsInStep}

pub packet_size_at_least_188 : (size : PacketSize) → 188 ≤ bytes_of size
packet_size_at_least_188 Plain = omega arith
packet_size_at_least_188 TimeStamped = omega arith
packet_size_at_least_188 ErrorCorrected = omega arith

pub packet_size_at_most_204 : (size : PacketSize) → bytes_of size ≤ 204
packet_size_at_most_204 Plain = omega arith
packet_size_at_most_204 TimeStamped = omega arith
packet_size_at_most_204 ErrorCorrected = omega arith

pub ruleset sizes = (packet_size_at_least_188, packet_size_at_most_204)

-- Whether a packet begins at an offset of the bytes received so far depends only on the byte there
-- and, out of step, on the byte one packet size later.
pub two_bytes_decide_packet_start : (distance place : ℕ) (in_step : Bool) (bytes more : List ℕ)
    → place < length bytes
    → begins_packet distance in_step (drop place (bytes ++ more))
    ≡ ((slice_index bytes place == 0x47)
    && (in_step || (slice_index (bytes ++ more) (place + distance) == 0x47)))
two_bytes_decide_packet_start distance place in_step bytes more below =
    grind (arith, nat_tests, index-append, get_or-drop)

pub appending_empty_list_changes_nothing : (bytes more : List ℕ) → more ≡ [] → bytes ++ more ≡ bytes
appending_empty_list_changes_nothing bytes more none = ap (λ l. bytes ++ l) none ∙ append-nil bytes

pub ruleset starts = (
  index-append,
  index-following,
  two_bytes_decide_packet_start,
  appending_empty_list_changes_nothing,
)

items_begin_with_packet : (distance : ℕ) (in_step : Bool) (bytes : List ℕ)
    → 188 ≤ distance
    → 188 ≤ length bytes
    → begins_packet distance in_step bytes ≡ true
    → items_from distance in_step bytes
    ≡ Packet (take 188 bytes) ∷ items_from distance true (drop distance bytes)
unfolding items_from
items_begin_with_packet distance in_step bytes h1 h2 h3 =
    grind (arith, nat_tests, packet_is_first_item, extra_steps_add_no_items, length-drop)

items_begin_with_skipped_byte : (distance : ℕ) (in_step : Bool) (bytes : List ℕ)
    → 188 ≤ distance
    → 188 ≤ length bytes
    → begins_packet distance in_step bytes ≡ false
    → items_from distance in_step bytes ≡ Skipped ∷ items_from distance false (drop 1 bytes)
unfolding items_from
items_begin_with_skipped_byte distance in_step bytes h1 h2 h3 =
    grind (arith, nat_tests, skipped_byte_is_first_item, extra_steps_add_no_items, length-drop)

pub short_bytes_have_no_items : (distance : ℕ) (in_step : Bool) (bytes : List ℕ)
    → length bytes < 188
    → items_from distance in_step bytes ≡ []
unfolding items_from
short_bytes_have_no_items distance in_step bytes few = too_short_bytes_no_items distance in_step
    (length bytes) bytes few

replicate_absorbs_next_element : {A : Type 0} (k : ℕ) (x : A) (rest : List A)
    → replicate k x ++ (x ∷ rest) ≡ replicate (suc k) x ++ rest
replicate_absorbs_next_element zero x rest = refl
replicate_absorbs_next_element (suc k) x rest = ap (λ l. x ∷ l) (replicate_absorbs_next_element k x
    rest)

pub skipping_adds_skipped_items : (distance place start : ℕ) (bytes more : List ℕ)
    → 188 ≤ distance
    → place ≤ start
    → start + 188 ≤ length bytes
    → begins_packet distance false (drop start (bytes ++ more)) ≡ false
    → items_from distance false (drop place (bytes ++ more))
    ≡ replicate (start - place) Skipped ++ items_from distance false (drop start (bytes ++ more))
    → items_from distance false (drop place (bytes ++ more))
    ≡ replicate ((start + 1) - place) Skipped
    ++ items_from distance false (drop (start + 1) (bytes ++ more))
skipping_adds_skipped_items distance place start bytes more near from is_long_enough skips so_far =
    let long : 188 ≤ length (drop start (bytes ++ more)) =
    omega (arith, length-drop start (bytes ++ more), length-append bytes more) in
    let one = items_begin_with_skipped_byte distance false (drop start (bytes ++ more)) near long
    skips in
    let count : suc (start - place) ≡ (start + 1) - place = omega arith in
    so_far
    ∙ ap (λ l. replicate (start - place) Skipped ++ l)
    (one ∙ ap (λ l. Skipped ∷ items_from distance false l) (drop-drop 1 start (bytes ++ more)))
    ∙ replicate_absorbs_next_element (start - place) Skipped _
    ∙ ap (λ n. replicate n Skipped ++ items_from distance false (drop (start + 1) (bytes ++ more)))
    count

zero_add : (a : ℕ) → 0 + a ≡ a
zero_add a = omega arith

suc_add : (a b : ℕ) → suc a + b ≡ suc (a + b)
suc_add a b = omega arith

trailing_skipped_count-append : (run : ℕ) (xs ys : List Item)
    → trailing_skipped_count run (xs ++ ys) ≡ trailing_skipped_count (trailing_skipped_count run xs)
    ys
unfolding trailing_skipped_count
trailing_skipped_count-append run [] ys = refl
trailing_skipped_count-append run (Packet p ∷ xs) ys = trailing_skipped_count-append 0 xs ys
trailing_skipped_count-append run (Skipped ∷ xs) ys = trailing_skipped_count-append
    (saturating_count run 1) xs ys

trailing_skipped_count-small : (run : ℕ) (xs : List Item)
    → run ≤ 0xFFFF_FFFF_FFFF_FFFF
    → trailing_skipped_count run xs ≤ 0xFFFF_FFFF_FFFF_FFFF
unfolding trailing_skipped_count
trailing_skipped_count-small run [] small = small
trailing_skipped_count-small run (Packet p ∷ xs) small = trailing_skipped_count-small 0 xs
    (omega arith)
trailing_skipped_count-small run (Skipped ∷ xs) small =
    trailing_skipped_count-small (saturating_count run 1) xs (grind (arith, nat_tests))

reports_of_items-append : (distance run : ℕ) (xs ys : List Item)
    → reports_of_items distance run (xs ++ ys)
    ≡ reports_of_items distance run xs ++ reports_of_items distance (trailing_skipped_count run xs)
    ys
unfolding trailing_skipped_count reports_of_items
reports_of_items-append distance run [] ys = refl
reports_of_items-append distance run (Packet p ∷ xs) ys = ap (λ l. p ∷ l) (reports_of_items-append
    distance 0
    xs ys)
reports_of_items-append distance run (Skipped ∷ xs) ys =
    ap (λ l. gap_report distance (saturating_count run 1) ++ l)
    (reports_of_items-append distance (saturating_count run 1) xs ys)
    ∙ sym (append_assoc (gap_report distance (saturating_count run 1)) _ _)

packet_count-append : (xs ys : List Item)
    → packet_count (xs ++ ys) ≡ packet_count xs + packet_count ys
unfolding packet_count
packet_count-append [] ys = sym (zero_add (packet_count ys))
packet_count-append (Packet p ∷ xs) ys =
    ap suc (packet_count-append xs ys) ∙ sym (suc_add (packet_count xs) (packet_count ys))
packet_count-append (Skipped ∷ xs) ys = packet_count-append xs ys

skipped_byte_count-append : (xs ys : List Item) → skipped_byte_count (xs ++ ys) ≡ skipped_byte_count
    xs + skipped_byte_count ys
unfolding skipped_byte_count
skipped_byte_count-append [] ys = sym (zero_add (skipped_byte_count ys))
skipped_byte_count-append (Packet p ∷ xs) ys = skipped_byte_count-append xs ys
skipped_byte_count-append (Skipped ∷ xs) ys =
    ap suc (skipped_byte_count-append xs ys) ∙ sym
    (suc_add (skipped_byte_count xs) (skipped_byte_count ys))

trailing_skipped_count-skipped : (k run : ℕ)
    → run ≤ 0xFFFF_FFFF_FFFF_FFFF
    → trailing_skipped_count run (replicate k Skipped) ≡ saturating_count run k
unfolding trailing_skipped_count
trailing_skipped_count-skipped zero run small = grind (arith, nat_tests)
trailing_skipped_count-skipped (suc k) run small =
    grind (arith, nat_tests, trailing_skipped_count-skipped k (saturating_count run 1))

-- A loss is reported once, at the skipped byte with which the bytes skipped in a row become a loss.
reports_of_items-skipped : (distance k run : ℕ)
    → distance ≤ 204
    → run ≤ 0xFFFF_FFFF_FFFF_FFFF
    → reports_of_items distance run (replicate k Skipped)
    ≡ (if nat_lt run (loss_size distance) && nat_le (loss_size distance) (saturating_count run k)
    then [] ∷ [] else [])
unfolding reports_of_items
reports_of_items-skipped distance zero run far small = grind (arith, nat_tests)
reports_of_items-skipped distance (suc k) run far small =
    grind (arith, nat_tests, reports_of_items-skipped distance k (saturating_count run 1))

packet_count-skipped : (k : ℕ) → packet_count (replicate k Skipped) ≡ 0
unfolding packet_count
packet_count-skipped zero = refl
packet_count-skipped (suc k) = packet_count-skipped k

skipped_byte_count-skipped : (k : ℕ) → skipped_byte_count (replicate k Skipped) ≡ k
unfolding skipped_byte_count
skipped_byte_count-skipped zero = refl
skipped_byte_count-skipped (suc k) = ap suc (skipped_byte_count-skipped k)

pub loss_taken :
    {T : Type 0} (IsTaken : T → List ℕ → T → Type 0) (distance k run : ℕ) (old new : T)
    → distance ≤ 204
    → run ≤ 0xFFFF_FFFF_FFFF_FFFF
    → run < 15 * distance
    → 15 * distance ≤ saturating_count run k
    → IsTaken old [] new
    → RunsBy IsTaken old (reports_of_items distance run (replicate k Skipped)) new
loss_taken IsTaken distance k run old new far small before after_it taken =
    let ends : (nat_lt run (15 * distance) && nat_le (15 * distance) (saturating_count run k)) ≡
    true =
    grind (arith, nat_tests, before, after_it) in
    subst (λ l. RunsBy IsTaken old l new)
    (sym (reports_of_items-skipped distance k run far small ∙ ap (λ b. if b then [] ∷ [] else [])
    ends))
    (new, taken, refl)

pub none_taken_before :
    {T : Type 0} (IsTaken : T → List ℕ → T → Type 0) (distance k run : ℕ) (old : T)
    → distance ≤ 204
    → run ≤ 0xFFFF_FFFF_FFFF_FFFF
    → saturating_count run k < 15 * distance
    → RunsBy IsTaken old (reports_of_items distance run (replicate k Skipped)) old
none_taken_before IsTaken distance k run old far small before =
    let none : (nat_lt run (15 * distance) && nat_le (15 * distance) (saturating_count run k)) ≡
    false =
    grind (arith, nat_tests, before) in
    subst (λ l. RunsBy IsTaken old l old)
    (sym (reports_of_items-skipped distance k run far small ∙ ap (λ b. if b then [] ∷ [] else [])
    none))
    refl

pub none_taken_after :
    {T : Type 0} (IsTaken : T → List ℕ → T → Type 0) (distance k run : ℕ) (old : T)
    → distance ≤ 204
    → run ≤ 0xFFFF_FFFF_FFFF_FFFF
    → 15 * distance ≤ run
    → RunsBy IsTaken old (reports_of_items distance run (replicate k Skipped)) old
none_taken_after IsTaken distance k run old far small after_it =
    let none : (nat_lt run (15 * distance) && nat_le (15 * distance) (saturating_count run k)) ≡
    false =
    grind (arith, nat_tests, after_it) in
    subst (λ l. RunsBy IsTaken old l old)
    (sym (reports_of_items-skipped distance k run far small ∙ ap (λ b. if b then [] ∷ [] else [])
    none))
    refl

pub ruleset losses = (loss_taken, none_taken_before, none_taken_after)

pub found_none :
    {T : Type 0} (IsTaken : T → List ℕ → T → Type 0) (old : PacketsInStep) (before : T)
    (bytes : List ℕ) (is_end : Bool)
    → old.number ≤ 0xFFFF_FFFF_FFFF_FFFF
    → old.skipped ≤ 0xFFFF_FFFF_FFFF_FFFF
    → ItemsFound IsTaken old before bytes is_end old.lead 0 old before
unfolding packet_count trailing_skipped_count skipped_byte_count reports_of_items
found_none IsTaken old before bytes is_end number skipped = record {
  found = [];
  items_split_after_found = λ more none. refl;
  place_follows_items = grind (arith, nat_tests);
  taken = refl;
  run = refl;
  number = grind (arith, nat_tests);
  skipped = grind (arith, nat_tests);
  size = refl;
}

packet_lengths_add_up : (lead d a b s t : ℕ) → ((lead + d * a + s) + d * b) + t ≡ lead + d * (a + b)
    + (s + t)
packet_lengths_add_up lead d a b s t = grind arith

module _
    {T : Type 0} (IsTaken : T → List ℕ → T → Type 0) (old mid new : PacketsInStep)
    (before reported after : T) (bytes : List ℕ) (is_end : Bool) (at place rest : ℕ)
  where
    found_items_extend : (those : List Item)
        → ItemsFound IsTaken old before bytes is_end at 0 mid reported
        → ((more : List ℕ)
        → (is_end ≡ true → more ≡ [])
        → items_from (bytes_of mid.size) mid.in_step (drop at (bytes ++ more))
        ≡ those ++ items_from (bytes_of mid.size) new.in_step (drop place (bytes ++ more)))
        → place ≡ at + bytes_of mid.size * packet_count those + skipped_byte_count those
        → RunsBy IsTaken reported (reports_of_items (bytes_of mid.size) mid.run those) after
        → new.run ≡ trailing_skipped_count mid.run those
        → new.number ≡ saturating_count mid.number (packet_count those)
        → new.skipped ≡ saturating_count mid.skipped (skipped_byte_count those + rest)
        → new.size ≡ mid.size
        → ItemsFound IsTaken old before bytes is_end place rest new after
    found_items_extend those first items_split_after_found place_follows_items taken run number
        skipped size =
        let of_number = packet_count-append first.found those in
        let of_skipped = skipped_byte_count-append first.found those in
        let same : bytes_of mid.size ≡ bytes_of old.size = ap bytes_of first.size in
        record {
          found = first.found ++ those;
          items_split_after_found = λ more none.
              first.items_split_after_found more none
              ∙ ap (λ l. first.found ++ l) (rw same at (items_split_after_found more none))
              ∙ sym (append_assoc first.found those _);
          place_follows_items =
              let by = first.place_follows_items in
              rw (of_number, of_skipped)
              (place_follows_items ∙ rw (same, by)
              (packet_lengths_add_up old.lead (bytes_of old.size) _ _ _ _));
          taken =
              subst (λ l. RunsBy IsTaken before l after)
              (sym (reports_of_items-append (bytes_of old.size) old.run first.found those))
              (RunsBy-append IsTaken (reports_of_items (bytes_of old.size) old.run first.found)
              (reports_of_items (bytes_of old.size) (trailing_skipped_count old.run first.found)
              those)
              before reported after
              first.taken
              (subst (λ n. RunsBy IsTaken reported (reports_of_items (bytes_of old.size) n those)
              after)
              first.run
              (subst (λ n. RunsBy IsTaken reported (reports_of_items n mid.run those) after) same
              taken)));
          run =
              run ∙ ap (λ n. trailing_skipped_count n those) first.run
              ∙ sym (trailing_skipped_count-append old.run first.found those);
          number = grind (arith, nat_tests, of_number, first.number);
          skipped = grind (arith, nat_tests, of_skipped, first.skipped);
          size = size ∙ first.size;
        }

pub found_packet :
    {T : Type 0} (IsTaken : T → List ℕ → T → Type 0) (old mid new : PacketsInStep)
    (before reported after : T) (bytes packet : List ℕ) (is_end : Bool) (at : ℕ)
    → ItemsFound IsTaken old before bytes is_end at 0 mid reported
    → at + 188 ≤ length bytes
    → 188 ≤ bytes_of mid.size
    → mid.skipped ≤ 0xFFFF_FFFF_FFFF_FFFF
    → packet ≡ take 188 (drop at bytes)
    → ((more : List ℕ)
    → begins_packet (bytes_of mid.size) mid.in_step (drop at (bytes ++ more)) ≡ true)
    → new ≡ record mid { in_step = true; number = saturating_count mid.number 1; run = 0 }
    → IsTaken reported packet after
    → ItemsFound IsTaken old before bytes is_end (at + bytes_of mid.size) 0 new after
unfolding packet_count trailing_skipped_count skipped_byte_count reports_of_items
found_packet IsTaken old mid new before reported after bytes packet is_end at first is_long_enough
    near small
    is
    begins next taken =
    subst (λ (s : PacketsInStep).
    ItemsFound IsTaken old before bytes is_end (at + bytes_of mid.size) 0 s after) (sym next)
    (found_items_extend IsTaken old mid
    (record mid { in_step = true; number = saturating_count mid.number 1; run = 0 })
    before reported after bytes is_end at (at + bytes_of mid.size) 0 (Packet packet ∷ []) first
    (λ more none.
    items_begin_with_packet (bytes_of mid.size) mid.in_step (drop at (bytes ++ more)) near
    (omega (arith, length-drop at (bytes ++ more), length-append bytes more)) (begins more)
    ∙ ap (λ p. Packet p ∷ items_from (bytes_of mid.size) true
    (drop (bytes_of mid.size) (drop at (bytes ++ more))))
    (ap (take 188) (drop-append-le at bytes more (omega arith))
    ∙ take-append-le 188 (drop at bytes) more (omega (arith, length-drop at bytes)) ∙ sym is)
    ∙ ap (λ l. Packet packet ∷ items_from (bytes_of mid.size) true l)
    (drop-drop (bytes_of mid.size) at (bytes ++ more)))
    (omega arith)
    (after, taken, refl) refl refl (grind (arith, nat_tests)) refl)

pub found_skips :
    {T : Type 0} (IsTaken : T → List ℕ → T → Type 0) (old mid new : PacketsInStep)
    (before reported after : T) (bytes : List ℕ) (is_end : Bool) (at next : ℕ)
    → ItemsFound IsTaken old before bytes is_end at 0 mid reported
    → at + 188 ≤ length bytes
    → 188 ≤ bytes_of mid.size
    → mid.number ≤ 0xFFFF_FFFF_FFFF_FFFF
    → old.run ≤ 0xFFFF_FFFF_FFFF_FFFF
    → ((more : List ℕ)
    → (is_end ≡ true → more ≡ [])
    → begins_packet (bytes_of mid.size) mid.in_step (drop at (bytes ++ more)) ≡ false)
    → at + 1 ≤ next
    → ((more : List ℕ)
    → items_from (bytes_of mid.size) false (drop (at + 1) (bytes ++ more))
    ≡ replicate (next - (at + 1)) Skipped
    ++ items_from (bytes_of mid.size) false (drop next (bytes ++ more)))
    → new ≡ record mid {
      in_step = false;
      run = saturating_count mid.run (next - at);
      skipped = saturating_count mid.skipped (next - at);
    }
    → RunsBy IsTaken reported
    (reports_of_items (bytes_of mid.size) mid.run (replicate (next - at) Skipped)) after
    → ItemsFound IsTaken old before bytes is_end next 0 new after
found_skips IsTaken old mid new before reported after bytes is_end at next first is_long_enough near
    small
    small_run skips behind_at items_split_after_found is taken =
    let run : mid.run ≤ 0xFFFF_FFFF_FFFF_FFFF =
    subst (λ n. n ≤ 0xFFFF_FFFF_FFFF_FFFF) (sym first.run)
    (trailing_skipped_count-small old.run first.found small_run) in
    let count : suc (next - (at + 1)) ≡ next - at = omega arith in
    let skipped_before = skipped_byte_count-skipped (next - at) in
    let none_in = packet_count-skipped (next - at) in
    subst (λ (s : PacketsInStep). ItemsFound IsTaken old before bytes is_end next 0 s after)
    (sym is)
    (found_items_extend IsTaken old mid
    (record mid {
      in_step = false;
      run = saturating_count mid.run (next - at);
      skipped = saturating_count mid.skipped (next - at);
    })
    before reported after bytes is_end at next 0 (replicate (next - at) Skipped) first
    (λ more none.
    items_begin_with_skipped_byte (bytes_of mid.size) mid.in_step (drop at (bytes ++ more)) near
    (omega (arith, length-drop at (bytes ++ more), length-append bytes more)) (skips more none)
    ∙ ap (λ l. Skipped ∷ items_from (bytes_of mid.size) false l) (drop-drop 1 at (bytes ++ more))
    ∙ ap (λ l. Skipped ∷ l) (items_split_after_found more)
    ∙ ap (λ n. replicate n Skipped
    ++ items_from (bytes_of mid.size) false (drop next (bytes ++ more))) count)
    (rw (skipped_before, none_in) (omega arith))
    taken (sym (trailing_skipped_count-skipped (next - at) mid.run run))
    (rw none_in (grind (arith, nat_tests)))
    (rw skipped_before (grind (arith, nat_tests)))
    refl)

-- Items that were found in bytes before the end of a recording are also found in a longer list that
-- begins with these bytes.
found_ahead :
    {T : Type 0} (IsTaken : T → List ℕ → T → Type 0) (old new : PacketsInStep) (before after : T)
    (bytes more : List ℕ) (is_end : Bool) (place : ℕ)
    → ItemsFound IsTaken old before bytes false place 0 new after
    → ItemsFound IsTaken old before (bytes ++ more) is_end place 0 new after
found_ahead IsTaken old new before after bytes more is_end place first = record {
  found = first.found;
  items_split_after_found = λ rest none. rw (append_assoc bytes more rest)
      (first.items_split_after_found (more ++ rest)
      (λ is. grind (arith, nat_tests, is)));
  place_follows_items = first.place_follows_items;
  taken = first.taken;
  run = first.run;
  number = first.number;
  skipped = first.skipped;
  size = first.size;
}

pub law_of_two_calls : {T : Type 0} (IsTaken : T → List ℕ → T → Type 0) → LawOfTwoCalls IsTaken
law_of_two_calls IsTaken old mid new before reported after bytes more is_end used more_used one
    other =
    let within = one.within in
    let all = bytes ++ more in
    let place = used + more_used + new.lead in
    let at_place : used + (more_used + new.lead) ≡ place = omega arith in
    let size = length-append bytes more in
    let left = length-append (drop used bytes) more in
    let dropped = length-drop used bytes in
    let ahead : (at : ℕ) → drop at (drop used bytes ++ more) ≡ drop (used + at) all =
    λ at. ap (drop at) (sym (drop-append-le used bytes more within)) ∙ drop-drop at used all in
    let whole : (at : ℕ) (rest : List ℕ)
    → drop at ((drop used bytes ++ more) ++ rest) ≡ drop (used + at) (all ++ rest) =
    λ at rest.
    ap (λ l. drop at (l ++ rest)) (sym (drop-append-le used bytes more within))
    ∙ ap (drop at) (sym (drop-append-le used all rest (omega (arith, within, size))))
    ∙ drop-drop at used (all ++ rest) in
    let same : unprocessed_at_end is_end (drop used bytes ++ more) (more_used + new.lead)
    ≡ unprocessed_at_end is_end all place =
    ap (λ n. if is_end then n else 0) (omega (arith, within, size, left, dropped)) in
    let place_follows_items = other.found.place_follows_items in
    let others = other.found.found in
    let distance = bytes_of mid.size in
    record {
      within = omega (arith, within, size, left, dropped, other.within);
      found =
          found_items_extend IsTaken old mid new before reported after all is_end (used + mid.lead)
          place
          (unprocessed_at_end is_end all place) others
          (found_ahead IsTaken old mid before reported bytes more is_end (used + mid.lead)
          one.found)
          (λ rest none.
          ap (items_from distance mid.in_step) (sym (whole mid.lead rest))
          ∙ other.found.items_split_after_found rest none
          ∙ ap (λ l. others ++ items_from distance new.in_step l)
          (whole (more_used + new.lead) rest ∙ ap (λ n. drop n (all ++ rest)) at_place))
          (omega (arith, place_follows_items))
          other.found.taken other.found.run other.found.number
          (subst (λ n. new.skipped ≡ saturating_count mid.skipped (skipped_byte_count others + n))
          same
          other.found.skipped)
          other.found.size;
      left = omega (arith, within, size, left, dropped, other.left);
      all = λ is.
          ap (items_from (bytes_of new.size) new.in_step)
          (sym (ahead (more_used + new.lead) ∙ ap (λ n. drop n all) at_place))
          ∙ other.all is;
    }
