-- If a report sink stores the first broken rule that is reported, the stored fault is the first
-- fault among the events.
use Rattle.std.proofs.lemmas.Bool.Decides.{nat_tests}
use Rattle.std.proofs.Common.{◌≡◌, ℕ, List, [], ◌∷◌, length, Option, Some, None, Result, Err, refl}
use Rattle.std.proofs.Common.{sym, subst, arith, All, true}
use Rattle.std.proofs.lemmas.Option.{same_Some}
use Rattle.std.specs.List.{AllByRecursion}
use Rattle.std.proofs.lemmas.Bool.{true≢false}
use Rattle.std.proofs.lemmas.List.Elements.{All-from_recursion}
use Rattle.sub_io.specs.Reporting.{ReportsInOrder}
use Rattle.ttx_packet.specs.PacketAddress.{IsPacket}
use Rattle.ttx_pes.specs.declared.fault.PesFault.TheVariants.{Read}
use Rattle.stl_rows.specs.Programme.{ProgrammeValue}
use Rattle.sub_plan.specs.FrameTime.{clock_of}
use Rattle.sub_plan.specs.Options.{OptionsValue}
use Rattle.sub_check.specs.FirstReported.{IsPesFileFault, KeepsFirstFault, is_pes_file_fault}
use Rattle.sub_checker.specs.declared.accepted.Accepted.{Accepted}
use Rattle.sub_rules.specs.Events.{broken_cell, first_reported_fault, unread_fault}
use Rattle.sub_rules.specs.FrameRules.{Criteria, UnreadReason, criteria_of}
use Rattle.sub_rules.specs.FrameRules.UnreadReason.{BadPacket, NoFrame}
use Rattle.sub_rules.specs.PesReading.{file_at, pes_file_of}
use Rattle.sub_rules.specs.PesPackets.{PesFileValue, joined, pes_packet_file_of}
use Rattle.sub_rules.specs.Transmission.{EachPacket, SentFrame, Transmission}
use Rattle.sub_rules.specs.declared.event.Event.{Event}
use Rattle.sub_rules.specs.declared.event.Event.TheVariants.{Ended, SkippedUntil, Reported, Trusted}
use Rattle.sub_rules.specs.declared.fault.CheckFault.{CheckFault}
use Rattle.sub_rules.specs.declared.fault.CheckFault.TheVariants as fault
use Rattle.sub_rules.proofs.JoinedLemmas.{joined_after-read}
use Rattle.sub_laws.specs.UnexpectedContent.{IsNotRightOnAir}
use Rattle.sub_laws.proofs.ContentLemmas.{content_fault_differs_everywhere}
use Rattle.sub_laws.proofs.EventLemmas.{HasFirstFault, all_faults_are_reported, is_plain}
use Rattle.sub_laws.proofs.FirstContentLemmas.{first_content_fault_is_in_prefix}
use Rattle.sub_laws.proofs.FrameByFrame.{MeetsRequirements, IsReadTo}
use Rattle.sub_laws.proofs.ReadFileLemmas.{file_frames_are_complete}
use Rattle.sub_check.specs.CheckedFiles.{all_events_of}
use Rattle.sub_rules.proofs.FrameEvents.{events}

pub each_complete :
    (frames : Transmission)
    → AllByRecursion (λ (s : SentFrame). AllByRecursion IsPacket s.packets) frames
    → AllByRecursion (λ (s : SentFrame). All IsPacket s.packets) frames
each_complete [] h = tt
each_complete (s ∷ frames) h =
    (All-from_recursion IsPacket s.packets h.0, each_complete frames h.1)

pub rule_fault_is_proved : (f : CheckFault) → is_pes_file_fault f ≡ true → IsPesFileFault f
rule_fault_is_proved f e = grind (arith, nat_tests)

pub failed_read_breaks_no_rule : (f : CheckFault) (pes : ℕ)
    → IsPesFileFault f
    → (let r : Result Accepted CheckFault = Err f in r) ≡ Err (fault.Pes pes Read)
    → ⊥
failed_read_breaks_no_rule f pes own is =
    grind (arith, nat_tests, true≢false)

nothing_after_first_fault : (f : CheckFault) (new : Option CheckFault) (xs : List Event)
    → ReportsInOrder KeepsFirstFault (Some f) new xs → new ≡ Some f
nothing_after_first_fault f new [] reported = reported
nothing_after_first_fault f new (x ∷ xs) (mid, keeps, rest) = let none = keeps.0 in cc

-- A report sink that stores the first broken rule stores the first fault among the events, if that
-- fault is a broken rule.
pub kept_fault_is_first_reported : (new : Option CheckFault) (xs : List Event)
    → ((f : CheckFault) → first_reported_fault xs ≡ Some f → is_pes_file_fault f ≡ true)
    → ReportsInOrder KeepsFirstFault None new xs
    → first_reported_fault xs ≡ new
kept_fault_is_first_reported new [] named reported = sym reported
kept_fault_is_first_reported new (Reported f ∷ xs) named (mid, keeps, rest) =
    grind (arith, nat_tests, nothing_after_first_fault)
kept_fault_is_first_reported new (Trusted from to ∷ xs) named (mid, keeps, rest) =
    kept_fault_is_first_reported new xs named (subst (λ m. ReportsInOrder KeepsFirstFault m new xs)
    keeps.1 rest)
kept_fault_is_first_reported new (Ended rule f ∷ xs) named (mid, keeps, rest) =
    kept_fault_is_first_reported new xs named (subst (λ m. ReportsInOrder KeepsFirstFault m new xs)
    keeps.1 rest)
kept_fault_is_first_reported new (SkippedUntil f ∷ xs) named (mid, keeps, rest) =
    kept_fault_is_first_reported new xs named (subst (λ m. ReportsInOrder KeepsFirstFault m new xs)
    keeps.1 rest)

module _ (g : Criteria) (frames : Transmission) (are_packets : EachPacket IsPacket frames)
    (IsSo : ℕ → ℕ → ℕ → Type 0)
    (so : (n f : ℕ) (x : ℕ × ℕ) → IsReadTo g frames n f → broken_cell g frames n f ≡ Some x
    → IsSo f x.0 x.1) where
  abbrev NamesRuleBroken : CheckFault → Type 0
  NamesRuleBroken f = (frame row column : ℕ) → f ≡ fault.Content frame row column → IsSo frame row
      column

  plain : (f : CheckFault) → is_plain f ≡ true → NamesRuleBroken f
  plain f e frame row column is = absurd (grind (arith, nat_tests))

  unread_fault_names_rule : (u : UnreadReason) → g.unread ≡ Some u → NamesRuleBroken
      (unread_fault (length frames) (Some u))
  unread_fault_names_rule (BadPacket f) e frame row column is = cc
  unread_fault_names_rule NoFrame e frame row column is = cc

  wrong_cell_names_rule : (n f : ℕ) (x : ℕ × ℕ) → IsReadTo g frames n f → broken_cell g frames n f ≡
      Some x
      → NamesRuleBroken (fault.Content f x.0 x.1)
  wrong_cell_names_rule n f x read broken frame row column is =
      let at : f ≡ frame = cc in
      let on_row : x.0 ≡ row = cc in
      let in_column : x.1 ≡ column = cc in
      subst (λ (k : ℕ). IsSo k row column) at
      (subst (λ (k : ℕ). IsSo f k column) on_row
      (subst (λ (k : ℕ). IsSo f x.0 k) in_column (so n f x read broken)))

  reported_cell_differs : (frame row column : ℕ)
      → first_reported_fault (events g frames) ≡ Some (fault.Content frame row column)
      → IsSo frame row column
  reported_cell_differs frame row column e =
      go (events g frames) (all_faults_are_reported g frames NamesRuleBroken plain
      unread_fault_names_rule wrong_cell_names_rule are_packets) e
      frame
      row column refl
    where
      go : (xs : List Event) → HasFirstFault NamesRuleBroken (MeetsRequirements g frames) xs
          → first_reported_fault xs ≡ Some (fault.Content frame row column)
          → NamesRuleBroken (fault.Content frame row column)
      go [] reported e = cc
      go (x ∷ xs) reported e =
          let (first, is, named) = reported.at x refl in
          let same : first ≡ fault.Content frame row column = first_is x first xs is e in
          subst NamesRuleBroken same named
        where
          first_is : (x : Event) (f : CheckFault) (xs : List Event) → x ≡ Reported f
              → first_reported_fault (x ∷ xs) ≡ Some (fault.Content frame row column)
              → f ≡ fault.Content frame row column
          first_is x f xs is e = let reported = rw is at e in same_Some _ _ reported

module _ (programme : ProgrammeValue) (options : OptionsValue) (bytes : List ℕ) where
  abbrev file : PesFileValue
  file = pes_file_of (clock_of options) bytes

  joined_frames_have_packets : EachPacket IsPacket (joined options.within file.frames)
  joined_frames_have_packets =
      All-from_recursion (λ (s : SentFrame). All IsPacket s.packets)
      (joined options.within file.frames)
      (each_complete (joined options.within file.frames)
      (joined_after-read IsPacket options.within [] file.frames tt
      (file_frames_are_complete (clock_of options) 0 bytes)))

  pub first_reported_cell_differs : (frame row column : ℕ)
      → first_reported_fault (all_events_of programme options bytes)
      ≡ Some (fault.Content frame row column)
      → IsNotRightOnAir programme options (joined options.within file.frames) frame row column
  unfolding file_at
  first_reported_cell_differs frame row column e =
      let pes_packets = pes_packet_file_of (clock_of options) bytes in
      let frames = joined options.within file.frames in
      reported_cell_differs (criteria_of programme options pes_packets.unread) frames
      joined_frames_have_packets
      (λ f row column. IsNotRightOnAir programme options frames f row column)
      (λ n f x read broken.
      content_fault_differs_everywhere programme options pes_packets.unread frames n f read x
      broken)
      frame row column
      (first_content_fault_is_in_prefix frame row column (criteria_of programme options
      pes_packets.unread)
      pes_packets.pes_packets e)
