-- The state of loading a file: the subtitles kept so far. Each is reliable; the last only if the
-- next subtitle that is not rejected, if any, is in order with it.
use Rattle.std.specs.Prelude.{ℕ, ◌-◌, Bool, true, false, not, ◌&&◌, ◌||◌, if◌then◌else◌, List, []}
use Rattle.std.specs.Prelude.{◌∷◌, ◌++◌, length, take, replicate, ◌≡◌, ◌⊎◌, Option, Some, None}
use Rattle.std.specs.Prelude.{Result, Ok, Err}
use Rattle.sub_io.specs.Reporting.{Reports}
use Rattle.stl_file.specs.Subtitle.{SubtitleValue}
use Rattle.stl_rows.specs.declared.layout.Drawing.{Drawing}
use Rattle.stl_rows.specs.declared.fault.LoadFault.{LoadFault}
use Rattle.stl_rows.specs.declared.fault.LoadFaultKind.TheVariants.{Memory}
use Rattle.stl_rows.specs.EveryFault.{ReportsFaults, RunsOutOfMemory, faults}
use Rattle.stl_rows.specs.Judged.{ReliableSubtitle, JudgedValue, JudgesFile, are_in_order}
use Rattle.stl_rows.specs.Judged.{has_any_subtitle}
use Rattle.stl_rows.specs.Judged.{can_judge, judged_subtitles_with_bits}

-- The state of loading: the kept subtitles; for each, whether an unreliable subtitle directly
-- precedes it (a missing bit means false); whether an unreliable subtitle follows the last; and
-- whether the times of the next subtitle are compared with the times of the last kept subtitle.
pub record KeptRecords : Type 0 where
  pub records : List SubtitleValue
  pub after_unreliable_bits : List Bool
  pub is_before_unreliable : Bool
  pub compares_with_last_kept : Bool

-- The state of loading before the first subtitle.
abbrev pub no_subtitles_yet : KeptRecords
no_subtitles_yet =
    record {
      records = [];
      after_unreliable_bits = [];
      is_before_unreliable = false;
      compares_with_last_kept = false;
    }

-- The kept subtitles, each with its bit: whether an unreliable subtitle directly precedes it.
abbrev pub all_kept : KeptRecords → List ReliableSubtitle
all_kept k = judged_subtitles_with_bits k.records k.after_unreliable_bits

-- The programme of the kept subtitles, against which a transmission is checked.
abbrev pub judged_value_of : Drawing → KeptRecords → JudgedValue
judged_value_of drawing k = record {
  programme = record { drawing = drawing; records = k.records };
  after_unreliable_bits = k.after_unreliable_bits;
  is_before_unreliable = k.is_before_unreliable;
}

-- ---- the effect of the next subtitle

-- The bits of the kept subtitles after adding the bit `other` of the subtitle with the index n,
-- counted from 0. A true bit is added after filling missing bits with false; a false bit changes
-- nothing.
abbrev pub bits_with_next : ℕ → Bool → List Bool → List Bool
bits_with_next n other bits =
    if other then take n bits ++ (replicate (n - length bits) false ++ true ∷ []) else bits

-- The state after keeping the subtitle t.
abbrev pub after_kept_subtitle : SubtitleValue → KeptRecords → KeptRecords
after_kept_subtitle t k = record {
  records = k.records ++ t ∷ [];
  after_unreliable_bits = bits_with_next (length k.records) k.is_before_unreliable
      k.after_unreliable_bits;
  is_before_unreliable = false;
  compares_with_last_kept = true;
}

-- The state after a rejected subtitle. The times of the next subtitle are not compared with the
-- times of a rejected subtitle.
abbrev pub after_rejected_subtitle : KeptRecords → KeptRecords
after_rejected_subtitle k = record k { is_before_unreliable = true }

-- The state after a subtitle with a fault, which is not kept.
abbrev pub after_faulty_subtitle : KeptRecords → KeptRecords
after_faulty_subtitle k = record k { is_before_unreliable = true; compares_with_last_kept = false }

-- The state without the last kept subtitle, which is not reliable.
abbrev pub without_last_kept : KeptRecords → KeptRecords
without_last_kept k = record k {
  records = take (length k.records - 1) k.records;
  after_unreliable_bits = take (length k.records - 1) k.after_unreliable_bits;
}

-- The state after the next subtitle. `clean`: the subtitle has no fault, so it is kept. `in_order`:
-- its times are in order with the times of the previous subtitle. If neither holds, the previous
-- subtitle is not kept either.
abbrev pub records_after_subtitle : Bool → Bool → SubtitleValue → KeptRecords → KeptRecords
records_after_subtitle in_order clean t k =
    if clean then after_kept_subtitle t k
    else if k.compares_with_last_kept && not in_order
    then after_faulty_subtitle (without_last_kept k)
    else after_faulty_subtitle k

-- ---- the kept subtitles at the end of the file

-- The list has no bits, so no kept subtitle directly follows an unreliable subtitle.
abbrev pub has_no_bits : List Bool → Bool
has_no_bits [] = true
has_no_bits (bit ∷ bits) = false

-- All subtitles of the file are kept, so no fault was reported.
abbrev pub are_all_kept : KeptRecords → Bool
are_all_kept k = has_no_bits k.after_unreliable_bits && not k.is_before_unreliable

-- A transmission can be checked against the kept subtitles: no fault was reported, or there is at
-- least one kept subtitle, and none starts before the TCO of an earlier one.
abbrev pub is_checkable : KeptRecords → Bool
is_checkable k = are_all_kept k || (has_any_subtitle (all_kept k) && are_in_order (all_kept k))

-- ---- results of loading a whole file

-- The kept subtitles and the reports for each result of `load_all`. With subtitles: a transmission
-- can be checked against them, and all faults of the file were reported. With `None`: the receiver
-- of the reports stopped them, or a transmission cannot be checked; all faults were reported, or
-- those up to the stop. With `Memory`: the faults before the subtitle for which memory could not be
-- allocated were reported. Another error requires nothing here.
abbrev pub LoadsAll : {D : Type 0}
    → Drawing → List ℕ → (D → LoadFault → D → Type 0) → D → D → Bool
    → Result (Option KeptRecords) LoadFault → Type 0
LoadsAll drawing file IsReported old new has_stopped (Ok (Some kept)) =
    JudgesFile drawing file (judged_value_of drawing kept) × Reports IsReported old new
    (faults drawing file)
LoadsAll drawing file IsReported old new has_stopped (Ok None) =
    ReportsFaults IsReported old new has_stopped (faults drawing file)
    × ((has_stopped ≡ true) ⊎ (can_judge drawing file ≡ false))
LoadsAll drawing file IsReported old new has_stopped (Err f) =
    f.kind ≡ Memory → RunsOutOfMemory drawing file IsReported old new f.block
