-- The fault that the report sink stored determines the result of `check`.
use Rattle.std.proofs.lemmas.Bool.Decides.{nat_tests}
use Rattle.std.proofs.Common.{◌≡◌, ◌≤◌, ℕ, zero, suc, List, Option, Some, None, Result, Ok, Err}
use Rattle.std.proofs.Common.{true, false, is_some, refl, sym, ◌∙◌, subst, arith, length, take}
use Rattle.std.proofs.Common.{replicate}
use Rattle.std.proofs.lemmas.List.{length-replicate}
use Rattle.std.proofs.lemmas.Bool.{true≢false}
use Rattle.std.specs.List.{AllByRecursion}
use Rattle.sub_io.specs.Device.{failed}
use Rattle.sub_io.specs.Reading.{IfKnown}
use Rattle.stl_rows.specs.Programme.{IsProgramme, ProgrammeValue}
use Rattle.ttx_pes.specs.PesGrammar.{IsValidPesPacket, IsPesValue, PesValue, canonical_packet}
use Rattle.ttx_pes.specs.PesGrammar.{empty_value}
use Rattle.ttx_pes.specs.Reader.{FailsAfterValidPackets}
use Rattle.ttx_pes.proofs.PesGrammarLemmas.{canonical_packet_is_valid}
use Rattle.sub_plan.specs.FrameTime.{clock_of}
use Rattle.sub_plan.specs.Options.{OptionsValue, IsOptions}
use Rattle.sub_check.specs.CheckedFiles.{all_events_of, events_of_first_pes_packets}
use Rattle.sub_check.specs.FirstReported.{KeepsFirstFault}
use Rattle.sub_checker.specs.PesFileEvents.{FailsWhileReadingOn, ReportsFile}
use Rattle.sub_rules.specs.Events.{first_reported_fault}
use Rattle.sub_rules.specs.FrameRules.{criteria_of}
use Rattle.sub_rules.specs.PesPackets.{pes_packet_file_of}
use Rattle.sub_checker.specs.declared.accepted.Accepted.{Accepted}
use Rattle.sub_rules.specs.declared.fault.CheckFault.{CheckFault}
use Rattle.sub_check.proofs.FirstReportedLemmas.{kept_fault_is_first_reported}
use Rattle.sub_check.proofs.CompleteReadLemmas.{fault_free_prefix_sends_all}
use Rattle.sub_check.proofs.CompleteReadLemmas.{fault_in_prefix_is_first}
use Rattle.sub_check.proofs.RuleReportedLemmas.{first_reported_breaks_rule}
use Rattle.sub_check.proofs.RuleReportedLemmas.{first_in_prefix_breaks_rule}
use Rattle.sub_rules.specs.Fault.{is_pes_read_failure}
use Rattle.ttx_pes.specs.declared.fault.PesFault.TheVariants as Pes
use Rattle.sub_rules.specs.declared.fault.CheckFault.TheVariants as fault
use Rattle.sub_check.proofs.FirstAnswerLemmas.{IsAnswerForFirstFault, accepted_none, answered}
use Rattle.sub_check.proofs.FirstAnswerLemmas.{refused_first}

abbrev ReportsFirst : ProgrammeValue → OptionsValue → List ℕ → Option CheckFault → Option CheckFault
    → Result (Option Accepted) CheckFault → Type 0
ReportsFirst programme options bytes empty kept r =
    ReportsFile (criteria_of programme options) (clock_of options) bytes KeepsFirstFault empty kept
    r

module _ (programme : ProgrammeValue) (options : OptionsValue) (bytes : List ℕ) where
  no_fault_before_failed_read : (empty kept : Option CheckFault) (f : CheckFault) (pes : ℕ)
      → empty ≡ None
      → is_some kept ≡ false
      → ReportsFirst programme options bytes empty kept (Err f)
      → f ≡ fault.Pes pes Pes.Read
      → (pes ≤ length (pes_packet_file_of (clock_of options) bytes).pes_packets)
      × (first_reported_fault (events_of_first_pes_packets programme options bytes pes) ≡ None)
  no_fault_before_failed_read (Some x) kept f pes e fault_free reported failed = cc
  no_fault_before_failed_read None (Some x) f pes e fault_free reported failed = cc
  no_fault_before_failed_read None None f pes e fault_free reported failed =
      let file = pes_packet_file_of (clock_of options) bytes in
      let (n, l, is, first) = reported file.pes_packets file.unread refl in
      let same : fault.Pes n Pes.Read ≡ fault.Pes pes Pes.Read = sym is ∙ failed in
      let at : n ≡ pes = cc in
      subst (λ (m : ℕ). (m ≤ length file.pes_packets)
      × (first_reported_fault (events_of_first_pes_packets programme options bytes m) ≡ None)) at (
        l,
        kept_fault_is_first_reported None (events_of_first_pes_packets programme options bytes n)
            (λ g h. first_in_prefix_breaks_rule programme options bytes n g h) first.one_by_one,
      )

  -- If all events were reported and no fault was stored, no event is a fault.
  no_fault_was_reported : (empty kept : Option CheckFault) (a : Accepted)
      → empty ≡ None
      → is_some kept ≡ false
      → ReportsFirst programme options bytes empty kept (Ok (Some a))
      → first_reported_fault (all_events_of programme options bytes) ≡ None
  no_fault_was_reported (Some x) kept a e fault_free reported = cc
  no_fault_was_reported None (Some x) a e fault_free reported = cc
  no_fault_was_reported None None a e fault_free reported =
      let file = pes_packet_file_of (clock_of options) bytes in
      kept_fault_is_first_reported None (all_events_of programme options bytes)
      (first_reported_breaks_rule programme options bytes)
      (reported file.pes_packets file.unread refl).0.one_by_one

  kept_fault_was_reported : (empty kept : Option CheckFault) (f : CheckFault)
      → empty ≡ None
      → kept ≡ Some f
      → ReportsFirst programme options bytes empty kept (Ok None)
      → first_reported_fault (all_events_of programme options bytes) ≡ Some f
  kept_fault_was_reported (Some x) kept f e is reported = cc
  kept_fault_was_reported None kept f e is reported =
      let file = pes_packet_file_of (clock_of options) bytes in
      let all = all_events_of programme options bytes in
      let (n, l, part) = reported file.pes_packets file.unread refl in
      fault_in_prefix_is_first n all f
      (kept_fault_is_first_reported kept (take n all)
      (λ g h. first_reported_breaks_rule programme options bytes g (fault_in_prefix_is_first n all g
      h)) part.one_by_one
      ∙ is)

  module _ (fine : IsOptions options) (p : IsProgramme programme.drawing programme.records) where
    pub no_kept_fault_is_accepted : (empty kept : Option CheckFault) (a : Accepted)
        → empty ≡ None
        → is_some kept ≡ false
        → ReportsFirst programme options bytes empty kept (Ok (Some a))
        → IsAnswerForFirstFault programme options bytes (Ok a)
    no_kept_fault_is_accepted empty kept a e fault_free reported =
        let file = pes_packet_file_of (clock_of options) bytes in
        accepted_none programme options fine p bytes a (reported file.pes_packets file.unread
        refl).1
        (no_fault_was_reported empty kept a e fault_free reported)

    pub kept_fault_is_answer : (empty kept : Option CheckFault) (f : CheckFault)
        → empty ≡ None
        → kept ≡ Some f
        → ReportsFirst programme options bytes empty kept (Ok None)
        → IsAnswerForFirstFault programme options bytes (Err f)
    kept_fault_is_answer empty kept f e is reported =
        refused_first programme options fine p bytes f (kept_fault_was_reported empty kept f e is
        reported)

    pub failed_read_is_answer : (empty kept : Option CheckFault) (f : CheckFault)
        → empty ≡ None
        → is_some kept ≡ false
        → ReportsFirst programme options bytes empty kept (Err f)
        → is_pes_read_failure f ≡ true
        → IsAnswerForFirstFault programme options bytes (Err f)
    failed_read_is_answer empty kept f e fault_free reported own =
        answered programme options fine p bytes (Err f)
        (λ looked. absurd (true≢false (sym own ∙ looked)))
        (λ pes is. no_fault_before_failed_read empty kept f pes e fault_free reported
        (let same = is in cc))

-- Any number of empty PES packets are valid PES packets. They stand for the PES packets of a source
-- whose bytes are unknown.
empty_packets_are_valid : (n : ℕ)
    → AllByRecursion (λ b. (v : PesValue) × IsValidPesPacket v b)
    (replicate n (canonical_packet empty_value))
empty_packets_are_valid zero = tt
empty_packets_are_valid (suc n) =
    let is : IsPesValue empty_value =
    record { pts = omega arith; few = omega arith; each = tt; in_order = tt } in
    ((empty_value, canonical_packet_is_valid empty_value is), empty_packets_are_valid n)

-- If the source failed while PES packet `pes` was read, and no fault was reported before, the PES
-- packets before it are valid.
pub failure_is_at_reported_packet : (programme : ProgrammeValue) (options : OptionsValue)
    (empty kept : Option CheckFault) (f : CheckFault) (pes : ℕ) (old new : Option (List ℕ))
    → empty ≡ None
    → is_some kept ≡ false
    → f ≡ fault.Pes pes Pes.Read
    → FailsWhileReadingOn (clock_of options) pes old new
    → IfKnown old (λ bytes. ReportsFirst programme options bytes empty kept (Err f))
    → FailsAfterValidPackets pes old new
failure_is_at_reported_packet programme options empty kept f pes None new e fault_free is at
    reported =
    let pes_packet = at.0 in
    grind (
      arith,
      nat_tests,
      length-replicate pes (canonical_packet empty_value),
      empty_packets_are_valid pes,
    )
failure_is_at_reported_packet programme options empty kept f pes (Some bytes) new e fault_free is at
    reported =
    let file = pes_packet_file_of (clock_of options) bytes in
    let before =
    no_fault_before_failed_read programme options bytes empty kept f pes e fault_free
    (reported bytes refl) is in
    at.1 file.pes_packets file.unread bytes refl refl
    (fault_free_prefix_sends_all programme options bytes pes before.0 before.1)
