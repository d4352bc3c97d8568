-- Reception by `listen` ends at the end of the file, at a fault, after TIME, or before a packet
-- that is listed as lost and not skipped, but must not be lost.
use Rattle.std.proofs.lemmas.Bool.Decides.{nat_tests}
use Rattle.std.proofs.Common.{◌≡◌, ◌∙◌, ap, refl, sym, subst, arith, add-one, ℕ, zero, suc, ◌+◌}
use Rattle.std.proofs.Common.{◌<◌, ◌≤◌, ◌==◌, ◌&&◌, not, cond, inl, inr, true, List, ◌++◌, length}
use Rattle.std.proofs.Common.{drop}
use Rattle.std.proofs.Common.{MatchResult, Option, Result, Some, None, Ok, Err}
use Rattle.std.proofs.lemmas.List.{length-append, length-map}
use Rattle.std.proofs.lemmas.Bool.{cases_lt}
use Rattle.sub_io.specs.Reading.{IfKnown}
use Rattle.ttx_packet.specs.PageId.{PageIdValue}
use Rattle.ttx_page.specs.Screen.{Display}
use Rattle.ttx_page.proofs.RunLemmas.{RunsBy-append}
use Rattle.ttx_pes.specs.DataUnit.{UnitValue}
use Rattle.ttx_pes.specs.PesGrammar.{PesValue}
use Rattle.ttx_pes.specs.Reader.{FailsWithinPacket, TakesValidPesPackets}
use Rattle.ttx_pes.specs.PesPackets.{rest_after_pes_packet}
use Rattle.sub_rules.specs.Fault.{is_pes_read_failure}
use Rattle.sub_rules.specs.Events.{unread_fault}
use Rattle.sub_plan.specs.FrameTime.{clock_of}
use Rattle.sub_rules.specs.FrameRules.{UnreadReason, frame_at, packets_before, packets_of_frame}
use Rattle.sub_rules.specs.PacketRules.{packets_of_units}
use Rattle.sub_rules.specs.PesReading.{ReadsAs}
use Rattle.sub_rules.specs.Transmission.{Transmission}
use Rattle.sub_rules.specs.declared.fault.CheckFault.{CheckFault}
use Rattle.sub_rules.specs.declared.pes_packet.NextPesPacket.{NextPesPacket}
use Rattle.sub_rules.specs.declared.pes_packet.NextPesPacket.TheVariants.{Sent}
use Rattle.sub_rules.specs.declared.valid_pes_packet.ValidPesPacket.{ValidPesPacket}
use Rattle.sub_rules.proofs.PesReadingLemmas.{ReadsNext, ReportsNext, reads_end, reads_next}
use Rattle.sub_rules.proofs.PesReadingLemmas.{reads_unread, reported_fault}
use Rattle.sub_rules.proofs.FrameLists.{packets_before_appends_next_frame}
use Rattle.sub_listen.specs.Run.{AreReceivedPesPackets, EndsAfterPesPacket, FailsListening}
use Rattle.sub_listen.specs.Run.{ReceivesFile, IsReceivedPesPacket}
use Rattle.sub_listen.specs.Run.{RefusesAfterPesPacket, first_in_frame, least_frame_after}
use Rattle.sub_listen.specs.Run.{least_frame}
use Rattle.sub_listen.specs.Run.{sent_in_frame}
use Rattle.sub_listen.specs.Reception.{ReceivesPackets, packets_used_by, first_forbidden_loss}
use Rattle.sub_listen.specs.Reception.{reception_of}
use Rattle.sub_listen.proofs.ReceptionLemmas.{packets_used_by-append}
use Rattle.sub_request.specs.declared.listening.Listening.{Listening}
use Rattle.ttx_pes.specs.declared.fault.PesFault.TheVariants as pes
use Rattle.sub_rules.specs.declared.fault.CheckFault.TheVariants as check
use Rattle.sub_listen.specs.declared.listening.ListenFault.{ListenFault}
use Rattle.sub_listen.specs.declared.listening.ListenFault.TheVariants as fault

-- The receiver has received the first n PES packets, and the bytes `rest` are read as the other
-- frames. The counters `number`, `sent` and `least` have their values after these n PES packets.
pub record ReachesPesPacket
    (leaves : ℕ → ℕ) (l : Listening) (frames : Transmission) (unread : Option UnreadReason)
    (w : PageIdValue) (old : Display) (remaining : Option (List ℕ)) (n number sent least : ℕ)
    (now : Display)
    : Type 0 where
  pub within : n ≤ length frames
  pub rest : List ℕ
  pub rest_eq : remaining ≡ Some rest
  pub left : ReadsAs (clock_of l.options) n rest (drop n frames) unread
  pub heard : AreReceivedPesPackets l frames n
  pub run :
      ReceivesPackets l leaves w old
      (packets_used_by l 0 (packets_before frames n)) now
  pub number_is_first_index : number ≡ length (packets_before frames n)
  pub sent_count_is_current : sent ≡ sent_in_frame l.options.within frames n
  pub least_frame_is_current : least ≡ least_frame l.options.within frames n

first_packet_number_eq :
    (within : ℕ) (frames : Transmission) (n sent least frame : ℕ)
    → sent ≡ sent_in_frame within frames n
    → least ≡ least_frame within frames n
    → frame_at frames n ≡ frame
    → cond (not (within == 0) && (frame == least)) sent 0 ≡ first_in_frame within frames n
first_packet_number_eq within frames zero sent least frame sent_count_is_current
    least_frame_is_current frame_eq =
    grind (arith, nat_tests)
first_packet_number_eq within frames (suc n) sent least frame sent_count_is_current
    least_frame_is_current frame_eq =
    grind (arith, nat_tests)

sent_next :
    (within : ℕ) (frames : Transmission) (n before : ℕ) (packets : List (List ℕ))
    → before ≡ first_in_frame within frames n
    → packets_of_frame frames n ≡ packets
    → before + length packets ≡ sent_in_frame within frames (n + 1)
sent_next within frames n before packets before_eq packets_are =
    rw add-one (grind (arith, nat_tests))

pub failed_read_ends_listening : (l : Listening) (n : ℕ) (f : CheckFault)
    (old mid new : Option (List ℕ))
    → TakesValidPesPackets n old mid
    → (is_pes_read_failure f ≡ true → f ≡ check.Pes n pes.Read)
    → (is_pes_read_failure f ≡ true → FailsWithinPacket mid new)
    → ((frames : Transmission) (unread : Option UnreadReason)
    → IfKnown old (λ bytes.
    ReadsAs (clock_of l.options) 0 bytes frames unread → AreReceivedPesPackets l frames n))
    → is_pes_read_failure f ≡ true
    → FailsListening l old new (fault.File f)
failed_read_ends_listening l n f old mid new taken place within heard is =
    grind arith

module _
    (leaves : ℕ → ℕ) (l : Listening) (frames : Transmission) (unread : Option UnreadReason)
    (reported : Option (List ℕ)) (w : PageIdValue) (old : Display)
  where
    module _
        (n number sent least : ℕ) (remaining : Option (List ℕ)) (now : Display)
        (reached : ReachesPesPacket leaves l frames unread w old remaining n number sent least now)
        (left : Option (List ℕ))
      where
        reception_ends :
            (result : Result (Unit {0}) ListenFault)
            → MatchResult result (λ _. EndsAfterPesPacket l frames unread n)
            (RefusesAfterPesPacket l frames unread n)
            → (n < length frames → TakesValidPesPackets (n + 1) reported left)
            → ReceivesFile leaves l frames unread reported left w old now result
        reception_ends result ends stops = record {
          runs = record { n = n; heard = reached.heard; run = reached.run; ends = ends };
          stops = stops;
        }

        pub ends_at_end :
            (v : PesValue)
            → ReportsNext (clock_of l.options) n reached.rest v (Ok None)
            → ReceivesFile leaves l frames unread reported left w old now (Ok tt)
        ends_at_end v is =
            let at =
            reads_end (clock_of l.options) n reached.rest frames unread v reached.left is in
            let within = reached.within in
            reception_ends (Ok tt) (inl (omega (arith, at.0), at.1))
            (λ more. absurd (omega (arith, more, at.0)))

        -- If the next PES packet can't be read, reception ends with the fault of that read.
        pub ends_unread :
            (v : PesValue) (answer : Result (Option NextPesPacket) CheckFault) (f : CheckFault)
            → ReportsNext (clock_of l.options) n reached.rest v answer
            → reported_fault answer ≡ Some f
            → ReceivesFile leaves l frames unread reported left w old now (Err (fault.File f))
        ends_unread v answer f is of =
            let at =
            reads_unread (clock_of l.options) n reached.rest frames unread v answer f
            reached.left is of in
            let within = reached.within in
            let all : n ≡ length frames = omega (arith, at.0) in
            reception_ends (Err (fault.File f)) (grind arith)
            (λ more. absurd (omega (arith, more, all)))
          where
            refuses :
                (x : UnreadReason)
                → n ≡ length frames
                → unread ≡ Some x
                → RefusesAfterPesPacket l frames unread n (fault.File (unread_fault n (Some x)))
            refuses x all is = grind (arith, nat_tests)

        module _
            (v : PesValue) (sending : ValidPesPacket)
            (is : ReportsNext (clock_of l.options) n reached.rest v (Ok (Some (Sent sending))))
            (taken : TakesValidPesPackets (n + 1) reported left)
          where
            abbrev frame : ℕ
            frame = sending.frame

            next : ReadsNext (clock_of l.options) n reached.rest frames unread v frame
            next =
                reads_next (clock_of l.options) n reached.rest frames unread v sending
                reached.left is

            -- If the frame of the next PES packet is before `least`, the first frame that may
            -- follow the PES packets so far, reception ends with the fault `Order`.
            pub ends_order :
                frame < least
                → ReceivesFile leaves l frames unread reported left w old now
                (Err (fault.File (check.Order n)))
            ends_order early =
                let frame_eq = next.sent.frame_eq in
                let least_frame_is_current = reached.least_frame_is_current in
                reception_ends (Err (fault.File (check.Order n))) (
                  refl,
                  next.sent.there,
                  omega
                      arith,
                )
                (λ there. taken)

            -- If the frame of the next PES packet is not before `least` and is after TIME,
            -- reception ends without a fault.
            pub ends_late :
                least ≤ frame
                → l.at < frame
                → ReceivesFile leaves l frames unread reported left w old now (Ok tt)
            ends_late rises late =
                let frame_eq = next.sent.frame_eq in
                let least_frame_is_current = reached.least_frame_is_current in
                reception_ends (Ok tt) (inr (next.sent.there, omega arith, omega arith))
                (λ there. taken)

            first_is :
                (before : ℕ)
                → before ≡ cond (not (l.options.within == 0) && (frame == least)) sent 0
                → before ≡ first_in_frame l.options.within frames n
            first_is before is =
                is
                ∙ first_packet_number_eq l.options.within frames n sent least frame
                reached.sent_count_is_current
                reached.least_frame_is_current next.sent.frame_eq

            -- If the frame of the next PES packet is neither before `least` nor after TIME, and one
            -- of its packets is lost but must not be lost, reception ends with `LostHeader`.
            pub ends_lost :
                (before place : ℕ)
                → before ≡ cond (not (l.options.within == 0) && (frame == least)) sent 0
                → least ≤ frame
                → frame ≤ l.at
                → first_forbidden_loss (reception_of l) number (packets_of_units v.units)
                ≡ Some place
                → ReceivesFile leaves l frames unread reported left w old now
                (Err (fault.LostHeader frame (before + place)))
            ends_lost before place first rises in_time lost =
                let least_frame_is_current = reached.least_frame_is_current in
                let number_is_first_index = reached.number_is_first_index in
                let before_eq = first_is before first in
                reception_ends (Err (fault.LostHeader frame (before + place)))
                (grind (arith, next.sent.there, next.sent.frame_eq, next.sent.packets_are))
                (λ there. taken)

            pub reaches_next :
                (before : ℕ) (after : Display)
                → before ≡ cond (not (l.options.within == 0) && (frame == least)) sent 0
                → least ≤ frame
                → frame ≤ l.at
                → first_forbidden_loss (reception_of l) number (packets_of_units v.units) ≡ None
                → left ≡ Some (rest_after_pes_packet reached.rest)
                → ReceivesPackets l leaves w now
                (packets_used_by l number (packets_of_units v.units)) after
                → ReachesPesPacket leaves l frames unread w old left (n + 1)
                (number + length v.units)
                (before + length v.units) (least_frame_after l.options.within frame) after
            reaches_next before after first rises in_time no_forbidden_loss left_eq run =
                let before_eq = first_is before first in
                let frame_eq = next.sent.frame_eq in
                let least_frame_is_current = reached.least_frame_is_current in
                let there = next.sent.there in
                let more = packets_before_appends_next_frame frames n there
                ∙ ap (λ ps. packets_before frames n ++ ps) next.sent.packets_are in
                let r = reception_of l in
                let here : IsReceivedPesPacket l frames n = record {
                  there = there;
                  rises = omega arith;
                  in_time = omega arith;
                  no_forbidden_loss = grind (arith, next.sent.packets_are);
                } in
                let size = ap length more
                ∙ length-append (packets_before frames n) (packets_of_units v.units) in
                let units = length-map v.units (λ (u : UnitValue). u.packet) in
                let number_is_first_index = reached.number_is_first_index in
                let place : 0 + length (packets_before frames n) ≡ number = omega arith in
                record {
                  within = omega arith;
                  rest = rest_after_pes_packet reached.rest;
                  rest_eq = left_eq;
                  left = next.left;
                  heard = λ i below_next.
                      elim (cases_lt i n) [
                        | inl h ↦ reached.heard i h
                        | inr h ↦ subst (IsReceivedPesPacket l frames) (omega arith) here
                      ];
                  run =
                      rw (
                        more,
                        packets_used_by-append l 0 (packets_before frames n)
                            (packets_of_units v.units),
                        place,
                      ) (RunsBy-append _ _ _ _ _ _ reached.run run);
                  number_is_first_index = omega
                      (arith, size, units, number_is_first_index);
                  sent_count_is_current =
                      ap (λ k. before + k) (sym units)
                      ∙ sent_next l.options.within frames n before (packets_of_units v.units)
                      before_eq next.sent.packets_are;
                  least_frame_is_current = grind arith;
                }
