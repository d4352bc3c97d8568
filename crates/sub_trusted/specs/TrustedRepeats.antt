-- The guarantees for trusted frames if `within` is not 0 or repeats may have C4 (erase page) clear.
use Rattle.std.specs.Prelude.{ℕ, ◌<◌, Bool, Contains, IsTrue, List, Option}
use Rattle.ttx_page.specs.PacketKind.{kind}
use Rattle.ttx_page.specs.Span.{has_text_beginning}
use Rattle.stl_rows.specs.Programme.{IsProgramme, ProgrammeValue}
use Rattle.sub_plan.specs.Options.{OptionsValue}
use Rattle.sub_rules.specs.FrameRules.{UnreadReason}
use Rattle.sub_rules.specs.PesPacketEvents.{all_events_of_pes_packets}
use Rattle.sub_rules.specs.PesPackets.{PesPacket}
use Rattle.sub_rules.specs.Repeats.{HasFinishedFrame}
use Rattle.sub_rules.specs.Transmission.{Transmission, packets_of}
use Rattle.sub_rules.specs.declared.event.Event.TheVariants.{Trusted}
use Rattle.sub_laws.specs.CleanStretch.{criteria_if_unreliable}
use Rattle.sub_laws.specs.Repeats.{MayBeTrustedWithRepeats}
use Rattle.sub_trusted.specs.TrustedFrames.{StaysAsReadFromFile}

-- The guarantees for the frames `from` to `to`. Frame `from` has a header that erases the page (any
-- header of the page, if C4, erase page, must always be set), so a receiver that is tuned in at its
-- beginning recovers. A receiver that is tuned in later recovers from the next header in these
-- frames if its page was blank and not open, or if it erases it at each header, and otherwise from
-- the next one with C4 set. If `within` is not 0, at least one frame is finished.
pub record MayStayWithRepeats
    (programme : ProgrammeValue) (transmission : Transmission) (options : OptionsValue)
    (from to : ℕ)
    : Type 0 where
  pub header :
      IsTrue (has_text_beginning options.keeps (kind options.page) (packets_of transmission from))
  pub trusted : MayBeTrustedWithRepeats options.keeps programme transmission options from to
  pub finished :
      0 < options.within
      → HasFinishedFrame options.keeps programme transmission options from to

-- If the subtitles are valid, the guarantees hold for trusted frames of a PES file, whatever is on
-- air before and after them. So these frames need no repair. If `within` is not 0, consecutive PES
-- packets of one frame are merged. If there are also unreliable subtitles, this holds for the
-- reliable ones.
abbrev pub LawOfTrustedRepeats : Type 0
LawOfTrustedRepeats =
    (programme : ProgrammeValue) (options : OptionsValue) (unread : Option UnreadReason)
    → (any_unreliable : Bool) (undecided : ℕ → Bool) (pes_packets : List PesPacket) (from to : ℕ)
    → IsProgramme programme.drawing programme.records
    → Contains (all_events_of_pes_packets (criteria_if_unreliable programme options unread
    any_unreliable undecided)
    pes_packets)
    (Trusted from to)
    → StaysAsReadFromFile (criteria_if_unreliable programme options unread any_unreliable undecided)
    pes_packets from
    to
    (λ on_air. MayStayWithRepeats programme on_air options from to)
