-- The transport packets and the bytes that belong to no packet, in bytes that arrive part by part
-- (by mpeg_ts.specs.PacketsInStep), and the packets that are passed to the receiver.
use Rattle.std.specs.Prelude.{◌≡◌, ℕ, suc, ◌+◌, ◌-◌, ◌*◌, ◌<◌, ◌≤◌, ◌==◌, min, Bool, true, false}
use Rattle.std.specs.Prelude.{if◌then◌else◌, List, [], ◌∷◌, ◌++◌, length, drop}
use Rattle.mpeg_ts.specs.GoodPackets.{loss_size}
use Rattle.mpeg_ts.specs.PacketSize.{bytes_of}
use Rattle.mpeg_ts.specs.PacketsInStep.{Item, Packet, Skipped, bytes_needed, items}
use Rattle.ttx_page.specs.Receiver.{RunsBy}
use Rattle.ts_survey.specs.declared.packets_in_step.PacketsInStep.{PacketsInStep}

-- Adds `more` to a count, saturating at 64 bits.
abbrev pub saturating_count : ℕ → ℕ → ℕ
saturating_count number more = min (number + more) 0xFFFF_FFFF_FFFF_FFFF

-- The items at the front of the bytes.
unfoldable pub items_from : ℕ → Bool → List ℕ → List Item
items_from distance in_step bytes = items distance in_step (length bytes) bytes

-- The number of transport packets among the items.
unfoldable pub packet_count : List Item → ℕ
packet_count [] = 0
packet_count (Packet p ∷ more) = suc (packet_count more)
packet_count (Skipped ∷ more) = packet_count more

-- The number of bytes among the items that belong to no transport packet.
unfoldable pub skipped_byte_count : List Item → ℕ
skipped_byte_count [] = 0
skipped_byte_count (Packet p ∷ more) = skipped_byte_count more
skipped_byte_count (Skipped ∷ more) = suc (skipped_byte_count more)

-- The number of bytes skipped in a row at the end of these items, if `run` bytes were skipped
-- directly before them. It saturates at 64 bits.
unfoldable pub trailing_skipped_count : ℕ → List Item → ℕ
trailing_skipped_count run [] = run
trailing_skipped_count run (Packet p ∷ more) = trailing_skipped_count 0 more
trailing_skipped_count run (Skipped ∷ more) = trailing_skipped_count (saturating_count run 1) more

-- Missing packets are reported as [], once, at the byte with which the skipped bytes have the size
-- of 15 packets; more bytes may be skipped after it. Packets of a PID may then be missing without a
-- break of the counter. After a shorter loss, the next continuity_counter (4 bits;
-- ISO/IEC 13818-1, 2.4.3.3) is neither the last counter, as in a repeat, nor the counter after it.
abbrev pub gap_report : ℕ → ℕ → List (List ℕ)
gap_report distance run = if run == loss_size distance then [] ∷ [] else []

-- The packets that are passed to the receiver for these items, after `run` skipped bytes: each
-- transport packet, and [] for each gap.
unfoldable pub reports_of_items : ℕ → ℕ → List Item → List (List ℕ)
reports_of_items distance run [] = []
reports_of_items distance run (Packet p ∷ more) = p ∷ reports_of_items distance 0 more
reports_of_items distance run (Skipped ∷ more) =
    gap_report distance (saturating_count run 1) ++ reports_of_items distance
    (saturating_count run 1) more

-- At the end of the recording, the number of bytes from `place` on, which belong to no packet; 0
-- before the end.
abbrev pub unprocessed_at_end : Bool → List ℕ → ℕ → ℕ
unprocessed_at_end is_end bytes place = if is_end then length bytes - place else 0

-- Items were found in the bytes, from the start of the search up to `place`: whatever bytes follow,
-- the bytes begin with these items, followed by those from `place` on. At the end no bytes follow.
-- The packets and gaps among the items were processed. The packets were counted, and so were the
-- bytes that belong to no packet, together with `rest` more bytes after them.
pub record ItemsFound
    {T : Type 0} (IsTaken : T → List ℕ → T → Type 0) (old : PacketsInStep) (before : T)
    (bytes : List ℕ) (is_end : Bool) (place rest : ℕ) (new : PacketsInStep) (after : T)
    : Type 0 where
  pub found : List Item
  pub items_split_after_found :
      (more : List ℕ)
      → (is_end ≡ true → more ≡ [])
      → items_from (bytes_of old.size) old.in_step (drop old.lead (bytes ++ more))
      ≡ found ++ items_from (bytes_of old.size) new.in_step (drop place (bytes ++ more))
  pub place_follows_items : place ≡ old.lead + bytes_of old.size * packet_count found +
      skipped_byte_count found
  pub taken : RunsBy IsTaken before (reports_of_items (bytes_of old.size) old.run found) after
  pub run : new.run ≡ trailing_skipped_count old.run found
  pub number : new.number ≡ saturating_count old.number (packet_count found)
  pub skipped : new.skipped ≡ saturating_count old.skipped (skipped_byte_count found + rest)
  pub size : new.size ≡ old.size

-- The packets and gaps in the bytes were processed, and `used` bytes are no longer needed. Fewer
-- bytes are left than show whether a packet begins (`bytes_needed`); at the end no packet is left.
pub record TakesAll
    {T : Type 0} (IsTaken : T → List ℕ → T → Type 0) (old : PacketsInStep) (before : T)
    (bytes : List ℕ) (is_end : Bool) (used : ℕ) (new : PacketsInStep) (after : T)
    : Type 0 where
  pub within : used ≤ length bytes
  pub found :
      ItemsFound IsTaken old before bytes is_end (used + new.lead)
      (unprocessed_at_end is_end bytes (used + new.lead)) new after
  pub left : length bytes < used + new.lead + bytes_needed (bytes_of new.size) new.in_step
  pub all :
      is_end ≡ true
      → items_from (bytes_of new.size) new.in_step (drop (used + new.lead) bytes) ≡ []

-- Bytes that arrive in two calls are processed as in one call, if the unprocessed rest of the first
-- part is put before the second part. So the packets and gaps that are processed do not depend on
-- the parts in which a recording arrives. The output does: a run of PES packets ends if no more
-- data is available for now.
abbrev pub LawOfTwoCalls : {T : Type 0} → (T → List ℕ → T → Type 0) → Type 0
LawOfTwoCalls {T} IsTaken =
    (old mid new : PacketsInStep) (before reported after : T) (bytes more : List ℕ) (is_end : Bool)
    (used more_used : ℕ)
    → TakesAll IsTaken old before bytes false used mid reported
    → TakesAll IsTaken mid reported (drop used bytes ++ more) is_end more_used new after
    → TakesAll IsTaken old before (bytes ++ more) is_end (used + more_used) new after
