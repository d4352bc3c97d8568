-- In the loop of `load_all`, the faults reported so far, followed by the faults of the rest of the
-- file, are all faults of the file.
use Rattle.std.proofs.Common.{rules, ◌≡◌, ◌<◌, ◌≤◌, ◌+◌, ℕ, Bool, true, false, List, ◌∷◌, ◌++◌, []}
use Rattle.std.proofs.Common.{take, length, map, Option, Some, None, refl, sym}
use Rattle.std.proofs.Common.{◌∙◌, ◌-◌, ap, inl, inr, arith, length-take, append_assoc, append-nil}
use Rattle.std.proofs.Common.{length-append}
use Rattle.std.proofs.Math.Seq.{take-append-add, take-length}
use Rattle.std.proofs.lemmas.Bool.Decides.{nat_tests}
use Rattle.std.proofs.lemmas.List.Elements.{All-append, All-head, All-push, All-tail, All-take}
use Rattle.std.proofs.lemmas.List.Elements.{All-weaker}
use Rattle.std.proofs.lemmas.List.Elements.{filter-append}
use Rattle.std.proofs.lemmas.List.Sums.{list_all-from_AllPass}
use Rattle.std.proofs.lemmas.List.Folds.{list_all-append}
use Rattle.std.specs.Prelude.{All, ◌≢◌, ◌&&◌, not, is_none}
use Rattle.std.proofs.lemmas.List.{map-append}
use Rattle.std.specs.List.{filter, list_all}
use lib.Seq.{take-append-le}
use Rattle.sub_io.specs.Reporting.{Reports, first_as_list}
use Rattle.sub_io.proofs.ReportingLemmas.{Reports-trans}
use Rattle.stl_file.specs.declared.fault.StlFault.{StlFault}
use Rattle.stl_file.specs.declared.fault.StlFault.TheVariants.{Ended}
use Rattle.stl_file.specs.Fault.{is_first_block_fault, is_file_read_failure}
use Rattle.stl_file.specs.Reading.{Findings, breaks, finds, no_more, refuses}
use Rattle.stl_file.specs.Subtitle.{SubtitleValue}
use Rattle.stl_file.specs.Reader.{FindsFrom, findings_within_scope}
use Rattle.stl_rows.specs.declared.layout.Drawing.{Drawing}
use Rattle.stl_rows.specs.declared.fault.LoadFault.{LoadFault}
use Rattle.stl_rows.specs.declared.fault.LoadFaultKind.{LoadFaultKind}
use Rattle.stl_rows.specs.declared.fault.LoadFaultKind.TheVariants.{File, OutOfOrder, Overlap, Row}
use Rattle.stl_rows.specs.declared.times.Times.{Times}
use Rattle.stl_rows.specs.DrawnPage.{drawn}
use Rattle.stl_rows.specs.EveryFault.{ReportsNonemptyPrefix, ReportsFaults, ReportsSomeFileFaults}
use Rattle.stl_rows.specs.EveryFault.{faults}
use Rattle.stl_rows.specs.EveryFault.{faults_after}
use Rattle.stl_rows.specs.EveryFault.{ends_in_subtitle, is_reported_before, is_file_fault}
use Rattle.stl_rows.specs.EveryFault.{EndsSubtitleAfter, RunsOutOfMemory, load_fault}
use Rattle.stl_rows.specs.Judged.{ReliableSubtitles, ReliableSubtitle, JudgesFile, are_in_order}
use Rattle.stl_rows.specs.Judged.{has_any_subtitle}
use Rattle.stl_rows.specs.Judged.{reliable_subtitles_of, can_judge}
use Rattle.stl_rows.specs.Keeping.{KeptRecords, all_kept, has_no_bits, is_checkable, are_all_kept}
use Rattle.stl_rows.specs.Keeping.{judged_value_of}
use Rattle.stl_rows.specs.Keeping.{records_after_subtitle, no_subtitles_yet}
use Rattle.stl_rows.specs.Keeping.{after_rejected_subtitle}
use Rattle.stl_rows.specs.Loading.{loaded_programme, subtitles_of_findings}
use Rattle.stl_rows.proofs.JudgedLemmas.{faultless_file_is_decided}
use Rattle.stl_rows.proofs.KeepingLemmas.{RecordsMatchFaults, judged-end, judged-next}
use Rattle.stl_rows.proofs.KeepingLemmas.{judged-refused}
use Rattle.stl_rows.proofs.KeepingLemmas.{judged-start, judged_with_kept, none-first}
use Rattle.stl_rows.proofs.KeepingLemmas.{all_kept_means_no_faults}
use Rattle.stl_rows.proofs.KeepingLemmas.{judged_subtitles_with_bits-subtitles}
use Rattle.stl_file.specs.KeptBlocks.{has_no_ending_fault}
use Rattle.stl_file.specs.Reading.{StartedSubtitle, findings_from}
use Rattle.stl_file.specs.Tti.{max_blocks}
use Rattle.stl_file.specs.declared.scope.Scope.{Scope}
use Rattle.stl_file.proofs.FindingsLemmas.{findings_are_later}
use Rattle.std.proofs.lemmas.Bool.{cases_Bool}
use Rattle.stl_rows.specs.Programme.{faults_of_next_subtitle, order_faults, row_faults, times_of}
use Rattle.stl_rows.specs.TextCode.{first_of}

-- The fault belongs to a single subtitle, so reading continues after the fault.
abbrev pub is_subtitle_load_fault : LoadFaultKind → Bool
is_subtitle_load_fault (File fault) = is_first_block_fault fault
is_subtitle_load_fault OutOfOrder = true
is_subtitle_load_fault Overlap = true
is_subtitle_load_fault (Row fault) = true
is_subtitle_load_fault _ = false

-- The fault belongs to a single subtitle, and was reported at this block or before.
abbrev pub IsReportedUpToBlock : ℕ → LoadFault → Type 0
IsReportedUpToBlock block fault = (is_subtitle_load_fault fault.kind ≡ true) × (fault.block ≤ block)

faults_are_reported_at_block : (drawing : Drawing) (before : Option Times) (t : SubtitleValue)
    (block : ℕ)
    → All (IsReportedUpToBlock block)
    (map (load_fault block) (faults_of_next_subtitle drawing before t))
faults_are_reported_at_block drawing before t block = grind (arith, nat_tests)

pub reported-next : (drawing : Drawing) (before : Option Times) (t : SubtitleValue) (from to : ℕ)
    (early : List LoadFault)
    → from ≤ to
    → All (IsReportedUpToBlock from) early
    → All (IsReportedUpToBlock to)
    (early ++ map (load_fault to) (faults_of_next_subtitle drawing before t))
reported-next drawing before t from to early le h =
    All-append (IsReportedUpToBlock to) early
    (map (load_fault to) (faults_of_next_subtitle drawing before t))
    (All-weaker (IsReportedUpToBlock from) (IsReportedUpToBlock to)
    (λ f reported. (reported.0, omega (arith, le, reported.1))) early
    h)
    (faults_are_reported_at_block drawing before t to)

pub reported-refused : (fault : StlFault) (from to : ℕ) (early : List LoadFault)
    → from ≤ to
    → is_first_block_fault fault ≡ true
    → All (IsReportedUpToBlock from) early
    → All (IsReportedUpToBlock to) (early ++ load_fault to (File fault) ∷ [])
reported-refused fault from to early le first h =
    All-push (IsReportedUpToBlock to) early (load_fault to (File fault))
    (All-weaker (IsReportedUpToBlock from) (IsReportedUpToBlock to)
    (λ f reported. (reported.0, omega (arith, le, reported.1))) early
    h)
    (first, omega arith)

pub first_block_fault_is_content : (fault : StlFault)
    → is_first_block_fault fault ≡ true
    → (is_file_read_failure fault ≡ false) × (fault ≢ Ended)
first_block_fault_is_content fault first = grind (arith, nat_tests)

fault_is_in_file : (kind : LoadFaultKind) → is_subtitle_load_fault kind ≡ true → is_file_fault kind
    ≡ true
fault_is_in_file kind h = grind (arith, nat_tests)

pub reported-fault_is_in_file : (block : ℕ) (early : List LoadFault)
    → All (IsReportedUpToBlock block) early
    → list_all (λ (f : LoadFault). is_file_fault f.kind) early ≡ true
reported-fault_is_in_file block early h = grind (
  arith,
  nat_tests,
  list_all-from_AllPass,
  All-weaker,
  fault_is_in_file,
)

at_most_one_order_fault : (before : Option Times) (t : Times)
    → first_as_list (first_of (order_faults before t)) ≡ order_faults before t
at_most_one_order_fault before t = grind (arith, nat_tests)

stops-whole : {D : Type 0} {IsReported : D → LoadFault → D → Type 0} {old new : D}
    {items : List LoadFault}
    → 0 < length items
    → Reports IsReported old new items
    → ReportsNonemptyPrefix IsReported old new items
stops-whole {items = items} some reported = search (rules, take-length)

pub stops-last : (drawing : Drawing) (before : Option Times) (t : SubtitleValue) (block : ℕ)
    {D : Type 0} {IsReported : D → LoadFault → D → Type 0} (old mid new : D)
    (order row : Option LoadFaultKind)
    → order ≡ first_of (order_faults before (times_of t))
    → first_as_list row ≡ row_faults (drawn drawing t)
    → is_none row ≡ false
    → Reports IsReported old mid (map (load_fault block) (first_as_list order))
    → Reports IsReported mid new (map (load_fault block) (first_as_list row))
    → ReportsNonemptyPrefix IsReported old new
    (map (load_fault block) (faults_of_next_subtitle drawing before t))
stops-last drawing before t block old mid new order row is_order is_row some p q =
    grind (
      arith,
      nat_tests,
      at_most_one_order_fault,
      map-append,
      stops-whole,
      length-append,
      Reports-trans,
    )

-- The faults reported so far, followed by the faults of the rest of the file, are all faults of the
-- file. The kept subtitles, followed by the reliable subtitles of the rest, are all reliable
-- subtitles of the file. The last kept subtitle is left out if the next subtitle is compared with
-- it and is not in order with it.
pub record LoadingInvariant (drawing : Drawing) (file : List ℕ) (left : Findings)
    (before : Option Times)
    (kept : KeptRecords) (early : List LoadFault) : Type 0 where
  pub same : faults drawing file ≡ early ++ faults_after drawing before left
  pub judged : reliable_subtitles_of drawing file ≡ judged_with_kept drawing before kept left
  pub whole : has_no_ending_fault (findings_within_scope drawing.scope file) ≡ has_no_ending_fault
      left
  pub ends_after : (rest : List LoadFault) (at : ℕ)
      → EndsSubtitleAfter drawing before rest at left
      → EndsSubtitleAfter drawing None (early ++ rest) at (findings_within_scope drawing.scope file)

pub continues-start : (drawing : Drawing) (file : List ℕ)
    → LoadingInvariant drawing file (findings_within_scope drawing.scope file) None no_subtitles_yet
    []
unfolding faults reliable_subtitles_of
continues-start drawing file = grind (arith, nat_tests, judged-start)

module _ {drawing : Drawing} {file : List ℕ} {rest : Findings} {before : Option Times}
    {kept : KeptRecords} {early : List LoadFault} where
  pub continues-next : (t : SubtitleValue) (block : ℕ) (in_order clean : Bool)
      → RecordsMatchFaults drawing before early kept
      → in_order ≡ is_none (first_of (order_faults before (times_of t)))
      → clean ≡ is_none (first_of (faults_of_next_subtitle drawing before t))
      → LoadingInvariant drawing file (finds t block rest) before kept early
      → LoadingInvariant drawing file rest (Some (times_of t)) (records_after_subtitle in_order
      clean t kept)
      (early ++ map (load_fault block) (faults_of_next_subtitle drawing before t))
  unfolding faults_after
  continues-next t block in_order clean records_match_faults is_order is_clean on =
      grind (arith, nat_tests, append_assoc, judged-next)

  pub continues-refused : (fault : StlFault) (block : ℕ)
      → LoadingInvariant drawing file (refuses fault block rest) before kept early
      → LoadingInvariant drawing file rest before (after_rejected_subtitle kept)
      (early ++ load_fault block (File fault) ∷ [])
  unfolding faults_after
  continues-refused fault block on = grind (arith, nat_tests, append_assoc, judged-refused)

reports-all : {D : Type 0} {IsReported : D → LoadFault → D → Type 0} {old new : D} {stopped : Bool}
    {early all : List LoadFault}
    → all ≡ early
    → 0 < length early
    → Reports IsReported old new early
    → ReportsFaults IsReported old new stopped all
reports-all same some reported = rw same
    (record { all = λ no. reported; prefix = stops-whole some reported })

module _ {D : Type 0} {IsReported : D → LoadFault → D → Type 0} {old mid new : D} where
  stops-more : (early items rest : List LoadFault)
      → Reports IsReported old mid early
      → ReportsNonemptyPrefix IsReported mid new items
      → ReportsNonemptyPrefix IsReported old new (early ++ (items ++ rest))
  stops-more early items rest reported s =
      let bound : s.0 ≤ length items = s.2 in
      let prefix_eq : take (length early + s.0) (early ++ (items ++ rest)) ≡ early ++
      take s.0 items =
      take-append-add early (items ++ rest) s.0
      ∙ ap (λ l. early ++ l) (take-append-le s.0 items rest bound) in (
        length early + s.0,
        omega (arith, s.1),
        omega (arith, s.2, length-append early (items ++ rest), length-append items rest),
        rw prefix_eq (Reports-trans old mid new early (take s.0 items) reported s.3),
      )

  pub fault_is_in_file-stopped : (early items : List LoadFault) {block : ℕ}
      → All (IsReportedUpToBlock block) (early ++ items)
      → Reports IsReported old mid early
      → ReportsNonemptyPrefix IsReported mid new items
      → ReportsSomeFileFaults IsReported old new
  fault_is_in_file-stopped early items {block} h reported s =
      let stops = stops-more early items [] reported s in
      let all : List LoadFault = early ++ (items ++ []) in
      record {
        faults = take stops.0 all;
        some = omega (arith, stops.1, stops.2, length-take stops.0 all);
        fault_is_in_file = reported-fault_is_in_file block (take stops.0 all)
            (All-take (IsReportedUpToBlock block) stops.0 all (rw append-nil h));
        reported = stops.3;
      }

  -- If reading ended with a fault that is neither a failed read of the source nor `Ended`, at least
  -- one fault was reported, and all reported faults are in the bytes of the file.
  pub fault_is_in_file-end : (early : List LoadFault) (fault : StlFault) {from block : ℕ}
      → All (IsReportedUpToBlock from) early
      → is_file_read_failure fault ≡ false
      → fault ≢ Ended
      → Reports IsReported old mid early
      → Reports IsReported mid new (load_fault block (File fault) ∷ [])
      → ReportsSomeFileFaults IsReported old new
  fault_is_in_file-end early fault {from} {block} early_reported read ended p q =
      let last : List LoadFault = load_fault block (File fault) ∷ [] in
      record {
        faults = early ++ last;
        some = omega (arith, length-append early last);
        fault_is_in_file =
            list_all-append (λ (f : LoadFault). is_file_fault f.kind) early last
            ∙ rw (
              reported-fault_is_in_file from early early_reported,
              file-fault_is_in_file fault
                  read ended,
            ) refl;
        reported = Reports-trans old mid new early last p q;
      }
    where
      file-fault_is_in_file : (fault : StlFault) → is_file_read_failure fault ≡ false → fault ≢
          Ended
          → is_file_fault (File fault) ≡ true
      file-fault_is_in_file fault read ended = grind (arith, nat_tests)

module _ {D : Type 0} {IsReported : D → LoadFault → D → Type 0} {old mid : D} {drawing : Drawing}
    {file : List ℕ} {left : Findings} {before : Option Times} {kept : KeptRecords}
    {early : List LoadFault} (on : LoadingInvariant drawing file left before kept early)
    (reported : Reports IsReported old mid early) where
  pub reports-none : {stopped : Bool}
      → left ≡ no_more
      → 0 < length early
      → ReportsFaults IsReported old mid stopped (faults drawing file)
  unfolding faults_after
  reports-none is some = reports-all (rw is at on.same ∙ append-nil early) some reported

  pub reports-end : {new : D} {stopped : Bool} {fault : StlFault} {block : ℕ}
      → left ≡ breaks fault block
      → Reports IsReported mid new (load_fault block (File fault) ∷ [])
      → ReportsFaults IsReported old new stopped (faults drawing file)
  unfolding faults_after
  reports-end {new} {stopped} {fault} {block} is q =
      let last : List LoadFault = load_fault block (File fault) ∷ [] in
      reports-all (rw is at on.same) (omega (arith, length-append early last))
      (Reports-trans old mid new early last reported q)

  reports-some : {new : D} (items rest : List LoadFault) (has_stopped : Bool)
      → faults_after drawing before left ≡ items ++ rest
      → has_stopped ≡ true
      → ReportsNonemptyPrefix IsReported mid new items
      → ReportsFaults IsReported old new has_stopped (faults drawing file)
  reports-some items rest has_stopped is is_stopped q =
      let s = stops-more early items rest reported q in
      grind (arith, nat_tests, on.same, is)

  pub reports-stop : {new : D} {rest : Findings} {t : SubtitleValue} {block : ℕ}
      (has_stopped : Bool)
      → left ≡ finds t block rest
      → has_stopped ≡ true
      → ReportsNonemptyPrefix IsReported mid new
      (map (load_fault block) (faults_of_next_subtitle drawing before t))
      → ReportsFaults IsReported old new has_stopped (faults drawing file)
  unfolding faults_after
  reports-stop {rest = rest} {t} {block} has_stopped is =
      reports-some (map (load_fault block) (faults_of_next_subtitle drawing before t))
      (faults_after drawing (Some (times_of t)) rest) has_stopped (rw is refl)

  pub reports-refused : {new : D} {rest : Findings} {fault : StlFault} {block : ℕ}
      (has_stopped : Bool)
      → left ≡ refuses fault block rest
      → has_stopped ≡ true
      → Reports IsReported mid new (load_fault block (File fault) ∷ [])
      → ReportsFaults IsReported old new has_stopped (faults drawing file)
  unfolding faults_after
  reports-refused {rest = rest} {fault} {block} has_stopped is is_stopped q =
      reports-some (load_fault block (File fault) ∷ []) (faults_after drawing before rest)
      has_stopped (rw is refl) is_stopped (stops-whole (omega arith) q)

pub some-first : {A : Type 0} (xs : List A) → is_none (first_of xs) ≡ false → 0 < length xs
some-first xs h = grind (arith, nat_tests)

clear_bits_mean_all_kept : (bits : List Bool) (other : Bool)
    → (has_no_bits bits && not other) ≡ true
    → (bits ≡ []) × (other ≡ false)
clear_bits_mean_all_kept [] false h = (refl, refl)
clear_bits_mean_all_kept [] true h = absurd cc
clear_bits_mean_all_kept (bit ∷ bits) other h = absurd cc

module _ {drawing : Drawing} {file : List ℕ} {left : Findings} {before : Option Times}
    {kept : KeptRecords} {early : List LoadFault}
    (on : LoadingInvariant drawing file left before kept early) where
  module _ (is : left ≡ no_more) where
    judged_equals_kept : reliable_subtitles_of drawing file
        ≡ record { judged = all_kept kept; is_before_unreliable = kept.is_before_unreliable }
    judged_equals_kept = rw is at on.judged ∙ judged-end drawing before kept

    read_to_the_end : has_no_ending_fault (findings_within_scope drawing.scope file) ≡ true
    read_to_the_end = rw is at on.whole

    pub reported-all : faults drawing file ≡ early
    unfolding faults_after
    reported-all = rw is at on.same ∙ append-nil early

    judges_if_kept_in_order : can_judge drawing file ≡ (has_any_subtitle (all_kept kept) &&
        are_in_order (all_kept kept))
    judges_if_kept_in_order = rw (judged_equals_kept, read_to_the_end) refl

    pub can_judge-enough : RecordsMatchFaults drawing before early kept
        → is_checkable kept ≡ true
        → JudgesFile drawing file (judged_value_of drawing kept)
    unfolding loaded_programme
    can_judge-enough records_match_faults enough = record {
      all = sym judged_equals_kept;
      enough = elim (cases_Bool (are_all_kept kept)) [
        | inl whole ↦ inr (reported-all ∙ all_kept_means_no_faults records_match_faults whole)
        | inr part ↦ inl (judges_if_kept_in_order ∙ rw part at enough)
      ];
      whole = λ none.
          let nothing = sym reported-all ∙ none in
          let bits =
          clear_bits_mean_all_kept kept.after_unreliable_bits kept.is_before_unreliable
          (records_match_faults.whole ∙ rw nothing refl) in
          let records : subtitles_of_findings (findings_within_scope drawing.scope file) ≡
          kept.records =
          sym (faultless_file_is_decided drawing file none).0
          ∙ ap (λ (all : ReliableSubtitles). map (λ (j : ReliableSubtitle). j.subtitle) all.judged)
          judged_equals_kept
          ∙ judged_subtitles_with_bits-subtitles kept.records kept.after_unreliable_bits in
          (rw (none, records) refl, rw (bits.0, bits.1) refl);
    }

    pub can_judge-not : is_checkable kept ≡ false → can_judge drawing file ≡ false
    can_judge-not few = judges_if_kept_in_order ∙ grind (arith, nat_tests)

  -- If reading ended before the end of the file, a transmission cannot be checked against the file.
  pub can_judge-broken : {fault : StlFault} {block : ℕ}
      → left ≡ breaks fault block
      → can_judge drawing file ≡ false
  can_judge-broken is =
      let broken : has_no_ending_fault (findings_within_scope drawing.scope file) ≡ false = rw is at
      on.whole
      in
      rw broken refl

pub some-few : {drawing : Drawing} {before : Option Times} {kept : KeptRecords}
    {early : List LoadFault}
    → RecordsMatchFaults drawing before early kept
    → is_checkable kept ≡ false
    → 0 < length early
some-few {kept = kept} {early} records_match_faults few =
    let part : are_all_kept kept ≡ false = grind (arith, nat_tests) in
    some-first early (sym records_match_faults.whole ∙ part)

subtitle_fault_is_not_unfinished : (kind : LoadFaultKind) → is_subtitle_load_fault kind ≡ true →
    ends_in_subtitle kind ≡ false
subtitle_fault_is_not_unfinished kind h = grind (arith, nat_tests)

filter-early : (from block : ℕ) (early : List LoadFault)
    → from < block
    → All (IsReportedUpToBlock from) early
    → filter (is_reported_before block) early ≡ early
filter-early from block [] lt h = refl
filter-early from block (f ∷ fs) lt h =
    let one = All-head (IsReportedUpToBlock from) f fs h in
    let rest = filter-early from block fs lt (All-tail (IsReportedUpToBlock from) f fs h) in
    grind (arith, nat_tests, subtitle_fault_is_not_unfinished f.kind, one.0, one.1)

later_kinds_are_not_before : (block at : ℕ) (kinds : List LoadFaultKind)
    → block ≤ at
    → filter (is_reported_before block) (map (load_fault at) kinds) ≡ []
later_kinds_are_not_before block at [] le = refl
later_kinds_are_not_before block at (k ∷ ks) le = grind
    (arith, nat_tests, later_kinds_are_not_before block at ks)

later_fault_is_not_before : (block at : ℕ) (f : StlFault)
    → FindsFrom block (breaks f at)
    → is_reported_before block (load_fault at (File f)) ≡ false
later_fault_is_not_before block at f names = grind (arith, nat_tests)

later_findings_are_not_before : (drawing : Drawing) (before : Option Times) (block : ℕ)
    (left : Findings)
    → FindsFrom block left
    → filter (is_reported_before block) (faults_after drawing before left) ≡ []
unfolding faults_after
later_findings_are_not_before drawing before block no_more names = grind (arith, nat_tests)
later_findings_are_not_before drawing before block (breaks f at) names = grind
    (arith, nat_tests, later_fault_is_not_before)
later_findings_are_not_before drawing before block (refuses f at left) names =
    grind (
      arith,
      nat_tests,
      filter-append,
      later_kinds_are_not_before,
      (later_findings_are_not_before drawing before block left names.1),
    )
later_findings_are_not_before drawing before block (finds t at left) names =
    grind (
      arith,
      nat_tests,
      filter-append,
      later_kinds_are_not_before,
      (later_findings_are_not_before drawing (Some (times_of t)) block left names.1),
    )

unread : {drawing : Drawing} {file : List ℕ} {left : Findings} {before : Option Times}
    {kept : KeptRecords} {early : List LoadFault} (from block : ℕ)
    → from < block
    → All (IsReportedUpToBlock from) early
    → FindsFrom block left
    → LoadingInvariant drawing file left before kept early
    → filter (is_reported_before block) (faults drawing file) ≡ early
unread {drawing} {left = left} {before} {early = early} from block lt early_reported names on =
    rw (
      on.same,
      filter-append (is_reported_before block) early (faults_after drawing before left),
      filter-early from block early lt early_reported,
      later_findings_are_not_before drawing before block left names,
    ) (append-nil early)

-- If the source failed at a block, exactly the faults that are found before that block had been
-- reported.
pub reports-unread : {D : Type 0} {IsReported : D → LoadFault → D → Type 0} {old new : D}
    {drawing : Drawing} {file : List ℕ} {left : Findings} {before : Option Times}
    {kept : KeptRecords} {early : List LoadFault} (from block : ℕ)
    → from < block
    → All (IsReportedUpToBlock from) early
    → FindsFrom block left
    → LoadingInvariant drawing file left before kept early
    → Reports IsReported old new early
    → Reports IsReported old new (filter (is_reported_before block) (faults drawing file))
reports-unread from block lt early_reported names on reported =
    rw (unread from block lt early_reported names on) reported

findings_start_no_earlier : (block : ℕ) (left : Findings) → FindsFrom (block + 1) left → FindsFrom
    block
    left
findings_start_no_earlier block no_more h = tt
findings_start_no_earlier block (breaks f at) h = grind arith
findings_start_no_earlier block (finds t at left) h = (
  grind arith,
  findings_start_no_earlier block
      left h.1,
)
findings_start_no_earlier block (refuses f at left) h = (
  grind arith,
  findings_start_no_earlier
      block left h.1,
)

pub found-from : (scope : Scope) (block : ℕ) (refused : Option StartedSubtitle) (b : List ℕ)
    → block ≤ max_blocks
    → FindsFrom block (findings_from scope block refused b)
found-from scope block refused b le =
    findings_start_no_earlier block (findings_from scope block refused b)
    (findings_are_later scope (max_blocks - block) block refused b (omega arith))

pub wants-memory : {D : Type 0} {IsReported : D → LoadFault → D → Type 0} {old new : D}
    {drawing : Drawing} {file : List ℕ} {before : Option Times} {kept : KeptRecords}
    {early : List LoadFault} (from block : ℕ) (t : SubtitleValue) (rest : Findings)
    → from < block
    → All (IsReportedUpToBlock from) early
    → FindsFrom block rest
    → is_none (first_of (faults_of_next_subtitle drawing before t)) ≡ true
    → LoadingInvariant drawing file (finds t block rest) before kept early
    → Reports IsReported old new
    (early ++ map (load_fault block) (faults_of_next_subtitle drawing before t))
    → RunsOutOfMemory drawing file IsReported old new block
wants-memory {drawing = drawing} {before = before} {early = early} from block t rest lt
    early_reported
    names clean on reported =
    let none = none-first (faults_of_next_subtitle drawing before t) clean in
    let all = unread from block lt early_reported (omega arith, names) on in
    record {
      reported = rw all (rw (none, append-nil early) at reported);
      ends = rw all
          (rw (append-nil early) at (on.ends_after [] block (inl (refl, refl, none))));
    }
