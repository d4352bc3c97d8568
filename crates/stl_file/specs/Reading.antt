-- Reading TTI blocks in order: a reader skips subtitles outside the scope, and either continues
-- after a rejected subtitle or stops at the first fault.
use Rattle.std.specs.Prelude.{ℕ, zero, suc, ◌+◌, ◌-◌, ◌*◌, ◌≤◌, Bool, true, false, not, ◌==◌, ◌&&◌}
use Rattle.std.specs.Prelude.{nat_lt, nat_le, List, [], ◌∷◌, ◌++◌, length, take, drop}
use Rattle.std.specs.Prelude.{if◌then◌else◌, Option, Some, None, Result, Ok, Err}
use Rattle.sub_io.specs.Reading.{◌>>=◌}
use Rattle.stl_file.specs.declared.fault.StlFault.{StlFault}
use Rattle.stl_file.specs.declared.fault.StlFault.TheVariants as fault
use Rattle.stl_file.specs.Fault.{is_first_block_fault}
use Rattle.stl_file.specs.Questions.{Checks, result_of_checks}
use Rattle.stl_file.specs.TimeCode.{frame_from_bytes, is_valid_time_field}
use Rattle.stl_file.specs.Tti.{block_size, max_blocks, max_blocks_of_subtitle, first_reserved_ebn}
use Rattle.stl_file.specs.Tti.{user_data_ebn}
use Rattle.stl_file.specs.Tti.{last_block_ebn, not_cumulative, comment_flag, sgn, sn, ebn, cs, vp}
use Rattle.stl_file.specs.Tti.{jc, cf}
use Rattle.stl_file.specs.Tti.{text_of_block, tci, tco}
use Rattle.stl_file.specs.Scope.{begins_outside}
use Rattle.stl_file.specs.Subtitle.{SubtitleValue, empty_subtitle}
use Rattle.stl_file.specs.declared.scope.Scope.{Scope}
use Rattle.stl_file.specs.declared.subtitle_blocks.BlocksRead.{BlocksRead}

-- ---- reading one TTI block

-- A subtitle that has begun: its fields and the text so far (of a skipped subtitle, only SGN and SN
-- matter), the number of its blocks so far, 1 to 9, and whether the subtitle is skipped because it
-- is outside the scope or was rejected.
pub record StartedSubtitle : Type 0 where
  pub subtitle : SubtitleValue
  pub blocks : ℕ
  pub is_skipped : Bool

-- The effect of a block. `More`: this subtitle continues, or, if it is `None`, there is no current
-- subtitle. `Yield`: the block was the last block of this subtitle, which is not skipped.
pub data BlockStep : Type 0 where
  More : Option StartedSubtitle → BlockStep
  Yield : SubtitleValue → BlockStep

-- The checks of the first block of a subtitle.
abbrev pub first_block_checks : List ℕ → Checks
first_block_checks b =
    (fault.Cumulative, not (cs b == not_cumulative))
    ∷ (fault.Justify, nat_lt 3 (jc b))
    ∷ (fault.Row, not (nat_le 1 (vp b) && nat_le (vp b) 23))
    ∷ (fault.Time, not (is_valid_time_field (tci b)))
    ∷ (fault.Time, not (is_valid_time_field (tco b)))
    ∷ (fault.EmptyTime, not (nat_lt (frame_from_bytes (tci b)) (frame_from_bytes (tco b))))
    ∷ []

-- The subtitle that starts with the block b, with the text of that block; or the first fault of
-- `first_block_checks`.
unfoldable pub subtitle_of_first_block : List ℕ → Result SubtitleValue StlFault
subtitle_of_first_block b =
    result_of_checks (first_block_checks b) (Ok (record {
      sgn = sgn b;
      sn = sn b;
      tci = frame_from_bytes (tci b);
      tco = frame_from_bytes (tco b);
      vp = vp b;
      jc = jc b;
      text = text_of_block b;
    }))

-- The checks of the second and each later block of a subtitle.
abbrev pub later_block_checks : StartedSubtitle → List ℕ → Checks
later_block_checks begun b =
    (fault.Sequence, not ((sgn b == begun.subtitle.sgn) && (sn b == begun.subtitle.sn)))
    ∷ (fault.TooLong, begun.blocks == max_blocks_of_subtitle)
    ∷ []

-- The effect of a block with EBN n: FF ends a subtitle, any other EBN continues it. A skipped
-- subtitle is not returned.
abbrev pub step_after_block : ℕ → StartedSubtitle → BlockStep
step_after_block n begun =
    if n == last_block_ebn then (if begun.is_skipped then More None else Yield begun.subtitle)
    else More (Some begun)

-- A skipped subtitle that starts with the block b. Its later blocks must have the same SGN and SN,
-- and it must have at most 9 blocks.
abbrev pub skipped_subtitle_from : List ℕ → StartedSubtitle
skipped_subtitle_from b = record {
  subtitle = record empty_subtitle { sgn = sgn b; sn = sn b };
  blocks = 1;
  is_skipped = true;
}

-- The skipped subtitle that continues after its first block b; `None` if b is also its last block.
abbrev pub skipped_after_first_block : List ℕ → Option StartedSubtitle
skipped_after_first_block b = if ebn b == last_block_ebn then None else Some
    (skipped_subtitle_from b)

-- The effect of a block of a subtitle: its first block, or a later block of the current subtitle.
-- `first_block_checks` does not apply to a subtitle outside the scope.
unfoldable pub subtitle_block_step : Scope → Option StartedSubtitle → List ℕ → Result BlockStep
    StlFault
subtitle_block_step scope None b =
    if begins_outside scope b then Ok (More (skipped_after_first_block b))
    else do
      s ← subtitle_of_first_block b
      Ok (step_after_block (ebn b) (record { subtitle = s; blocks = 1; is_skipped = false }))
subtitle_block_step scope (Some begun) b =
    result_of_checks (later_block_checks begun b) (Ok (step_after_block (ebn b) (record begun {
      subtitle = record begun.subtitle { text = begun.subtitle.text ++ text_of_block b };
      blocks = begun.blocks + 1;
    })))

-- The current subtitle, given its contents so far and the state of reading its blocks.
abbrev pub started_subtitle_of : SubtitleValue → BlocksRead → StartedSubtitle
started_subtitle_of s read = record
    { subtitle = s; blocks = read.count; is_skipped = read.is_skipped }

-- The current subtitle; `None` before the first block of a subtitle.
abbrev pub current_subtitle : SubtitleValue → BlocksRead → Option StartedSubtitle
current_subtitle s read = if read.count == 0 then None else Some (started_subtitle_of s read)

-- The effect of a block, given the contents and the state that the block leaves, and whether it
-- completes a subtitle that is not skipped; or the block's fault.
abbrev pub step_by_result : SubtitleValue → BlocksRead → Result Bool StlFault → Result BlockStep
    StlFault
step_by_result s read (Err f) = Err f
step_by_result s read (Ok true) = Ok (Yield s)
step_by_result s read (Ok false) = Ok (More (current_subtitle s read))

-- The checks of every block except user data.
abbrev pub every_block_checks : List ℕ → Checks
every_block_checks b =
    (fault.Extension, nat_le first_reserved_ebn (ebn b) && not (ebn b == last_block_ebn))
    ∷ (fault.CommentFlag, nat_lt comment_flag (cf b))
    ∷ []

-- The effect of any block, or its fault. User data, and comments whose EBN is not reserved, do not
-- change the current subtitle.
unfoldable pub tti_block_step : Scope → Option StartedSubtitle → List ℕ → Result BlockStep StlFault
tti_block_step scope begun b =
    if ebn b == user_data_ebn then Ok (More begun)
    else result_of_checks (every_block_checks b)
    (if cf b == comment_flag then Ok (More begun) else subtitle_block_step scope begun b)

-- ---- reading all following TTI blocks

-- Five faults concern fields of a subtitle's first block: CS, JC, VP, TCI and TCO. After such a
-- fault it is still known which blocks belong to the subtitle: the first block and the next blocks
-- up to the first with EBN FF, without comments and user data. So the subtitle is rejected, and
-- reading can continue after its blocks. Any other fault ends reading.

-- The results for the rest of a file, in order, without subtitles outside the scope: each subtitle
-- with the number of its last block, each rejected subtitle with its fault and the number of its
-- first block; then the end of the file, or the fault that ends reading, with its block number.
pub data Findings : Type 0 where
  no_more : Findings
  breaks : StlFault → ℕ → Findings
  finds : SubtitleValue → ℕ → Findings → Findings
  refuses : StlFault → ℕ → Findings → Findings

-- The result of the block b, whose effect is given, and the results `next` of the later blocks, if
-- `room` more blocks may follow b.
abbrev pub findings_after_block :
    ℕ → (Option StartedSubtitle → Findings) → List ℕ → Result BlockStep StlFault → Findings
findings_after_block room next b (Err f) =
    if is_first_block_fault f then refuses f (max_blocks - room)
    (next (skipped_after_first_block b))
    else breaks f (max_blocks - room)
findings_after_block room next b (Ok (More begun)) = next begun
findings_after_block room next b (Ok (Yield s)) = finds s (max_blocks - room) (next None)

-- The results for bytes after the GSI block, if `room` blocks may still follow and `begun` is the
-- current subtitle. `Unfinished` is reported for the last complete block, and every other fault for
-- the block that was begun. A byte after 99,999 blocks is a block too many.
unfoldable pub findings_with_room : Scope → ℕ → Option StartedSubtitle → List ℕ → Findings
findings_with_room scope room None [] = no_more
findings_with_room scope room (Some begun) [] = breaks fault.Unfinished (max_blocks - room)
findings_with_room scope zero begun (x ∷ b) = breaks fault.TooManyBlocks (max_blocks + 1)
findings_with_room scope (suc room) begun (x ∷ b) =
    if nat_lt (length (x ∷ b)) block_size then breaks fault.Truncated (max_blocks - room)
    else findings_after_block room
    (λ next. findings_with_room scope room next (drop block_size (x ∷ b)))
    (take block_size (x ∷ b)) (tti_block_step scope begun (take block_size (x ∷ b)))

-- The results for the bytes b after `block` TTI blocks, either before the next subtitle or within a
-- rejected subtitle.
abbrev pub findings_from : Scope → ℕ → Option StartedSubtitle → List ℕ → Findings
findings_from scope block refused b = findings_with_room scope (max_blocks - block) refused b

-- ---- reading up to the first fault

-- The results of a reader that stops at the first fault: each subtitle with the number of its last
-- block, then the end of the file, or the first fault with its block number.
pub data Outcome : Type 0 where
  ends : Outcome
  fails : StlFault → ℕ → Outcome
  gives : SubtitleValue → ℕ → Outcome → Outcome

-- The results of a reader, cut after the first fault.
abbrev pub stopped : Findings → Outcome
stopped no_more = ends
stopped (breaks f block) = fails f block
stopped (finds s block more) = gives s block (stopped more)
stopped (refuses f block more) = fails f block

-- ---- the size of the current subtitle

-- The text of the current subtitle has at most 112 bytes per block, and the subtitle at most nine
-- blocks.
abbrev pub StartedSubtitleFits : Option StartedSubtitle → Type 0
StartedSubtitleFits None = Unit {0}
StartedSubtitleFits (Some begun) =
    (length begun.subtitle.text ≤ 112 * begun.blocks) × (begun.blocks ≤ max_blocks_of_subtitle)
