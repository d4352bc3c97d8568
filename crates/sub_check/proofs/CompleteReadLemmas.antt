-- The frames and events of a PES file up to its first skipped PES packet are a prefix of those of
-- the whole file.
use Rattle.std.proofs.Common.{◌≡◌, ℕ, suc, ◌≤◌, List, [], ◌∷◌, ◌++◌, length, take, drop, Option}
use Rattle.std.proofs.Common.{Some, None, refl, sym, ap, ◌∙◌}
use Rattle.std.proofs.lemmas.List.{length-take-le, take-append-drop}
use Rattle.stl_rows.specs.Programme.{ProgrammeValue}
use Rattle.sub_plan.specs.FrameTime.{Clock, clock_of}
use Rattle.sub_plan.specs.Options.{OptionsValue}
use Rattle.sub_rules.specs.Events.{first_reported_fault}
use Rattle.sub_rules.specs.FrameRules.{UnreadReason, criteria_of}
use Rattle.sub_rules.specs.PesReading.{ReadsAs, file_at}
use Rattle.sub_rules.specs.PesPacketEvents.{steps_of_each}
use Rattle.sub_rules.specs.PesPackets.{PesFileValue, PesPacket, frames_of, pes_packet_file_of}
use Rattle.sub_rules.specs.PesPackets.{read_until_skipped}
use Rattle.sub_rules.specs.PesPackets.PesPacket.{Skipped, Sent}
use Rattle.sub_rules.specs.Transmission.{Transmission}
use Rattle.sub_rules.specs.declared.event.Event.{Event}
use Rattle.sub_rules.specs.declared.fault.CheckFault.{CheckFault}
use Rattle.sub_rules.proofs.StepEventLemmas.{first_fault_of_append}
use Rattle.sub_rules.proofs.PesPacketEventLemmas.{announcing_keeps_first_fault}
use Rattle.sub_laws.proofs.UnreportedLemmas.{each_sent, reported_and_emitted_have_no_fault}
use Rattle.sub_check.specs.CheckedFiles.{events_of_first_pes_packets}
use Rattle.sub_rules.specs.PesPacketEvents.{events_of_pes_packets}
use Rattle.sub_rules.specs.Trusted.{events_reported_after}

-- If reading a PES file up to its first skipped PES packet finds no reason to stop, no PES packet
-- is skipped, no bytes remain unread, and the frames are those of all its PES packets.
complete_read_sends_all_frames : (pes_packets : List PesPacket) (unread : Option UnreadReason)
    → (read_until_skipped pes_packets unread).unread ≡ None
    → ((read_until_skipped pes_packets unread).frames ≡ frames_of pes_packets)
    × (length (frames_of pes_packets) ≡ length pes_packets)
    × (unread ≡ None)
unfolding read_until_skipped frames_of
complete_read_sends_all_frames [] unread none = (refl, refl, none)
complete_read_sends_all_frames (Sent s ∷ pes_packets) unread none =
    let rest = complete_read_sends_all_frames pes_packets unread none in
    (ap (λ (fs : Transmission). s ∷ fs) rest.0, ap suc rest.1, rest.2)
complete_read_sends_all_frames (Skipped u ∷ pes_packets) unread none = cc

pub complete_file_gives_frames : (clock : Clock) (bytes : List ℕ) (frames : Transmission)
    → ReadsAs clock 0 bytes frames None
    → (frames_of (pes_packet_file_of clock bytes).pes_packets ≡ frames)
    × (length (frames_of (pes_packet_file_of clock bytes).pes_packets)
    ≡ length (pes_packet_file_of clock bytes).pes_packets)
    × ((pes_packet_file_of clock bytes).unread ≡ None)
unfolding file_at
complete_file_gives_frames clock bytes frames reads =
    let file = pes_packet_file_of clock bytes in
    let sent = complete_read_sends_all_frames file.pes_packets file.unread
    (ap (λ (f : PesFileValue). f.unread) reads) in
    (sym sent.0 ∙ ap (λ (f : PesFileValue). f.frames) reads, sent.1, sent.2)

first_fault_stays_first : (xs ys : List Event) (f : CheckFault) → first_reported_fault xs ≡ Some f
    → first_reported_fault (xs ++ ys) ≡ Some f
first_fault_stays_first xs ys f is = first_fault_of_append xs ys ∙ rw is refl

pub fault_in_prefix_is_first : (n : ℕ) (xs : List Event) (f : CheckFault) → first_reported_fault
    (take n xs) ≡ Some
    f
    → first_reported_fault xs ≡ Some f
fault_in_prefix_is_first n xs f is =
    ap first_reported_fault (sym (take-append-drop n xs)) ∙ first_fault_stays_first (take n xs)
    (drop n xs) f is

pub fault_free_prefix_sends_all : (programme : ProgrammeValue) (options : OptionsValue)
    (bytes : List ℕ) (n : ℕ)
    → n ≤ length (pes_packet_file_of (clock_of options) bytes).pes_packets
    → first_reported_fault (events_of_first_pes_packets programme options bytes n) ≡ None
    → length (frames_of (take n (pes_packet_file_of (clock_of options) bytes).pes_packets)) ≡ n
unfolding events_of_pes_packets
fault_free_prefix_sends_all programme options bytes n l none =
    let file = pes_packet_file_of (clock_of options) bytes in
    let g = criteria_of programme options file.unread in
    let done = take n file.pes_packets in
    let steps = steps_of_each g [] 0 done in
    each_sent g [] 0 done
    ((reported_and_emitted_have_no_fault [] steps).0
    (sym (announcing_keeps_first_fault (events_reported_after [] steps)) ∙ none))
    ∙ length-take-le n file.pes_packets l
