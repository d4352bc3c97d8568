-- If `within` is 0, `every` is not 0 and C4 must always be set, a transmission of packets of 42
-- bytes without events is good.
use Rattle.std.proofs.lemmas.Bool.Decides.{Decides-and, Decides-like, Decides-eqb, Decides-ltb}
use Rattle.std.proofs.Common.{arith, ◌≡◌, ℕ, ◌<◌, inl, inr, ◌==◌, ◌&&◌, Bool, true, false}
use Rattle.std.proofs.Common.{List, [], length, nat_lt, slice_index, None}
use Rattle.std.specs.Bool.{Decides}
use Rattle.std.proofs.lemmas.Bool.{cases_lt}
use Rattle.std.proofs.lemmas.List.{get_or_past}
use Rattle.stl_rows.specs.Programme.{ProgrammeValue}
use Rattle.sub_plan.specs.Options.{OptionsValue}
use Rattle.ttx_packet.specs.PacketAddress.{IsPacket}
use Rattle.sub_rules.specs.FrameRules.{criteria_of}
use Rattle.sub_rules.specs.Good.{Good}
use Rattle.sub_rules.specs.Transmission.{Transmission}
use Rattle.sub_rules.proofs.TestLemmas.{passes_all_below, below, each_packet_passes}
use Rattle.sub_rules.proofs.TestLemmas.{packets_decided}
use Rattle.sub_laws.proofs.ReportedLemmas.{none_reported}
use Rattle.sub_rules.proofs.FrameEvents.{events}

abbrev is_packet : List ℕ → Bool
is_packet packet =
    length packet == 42 && passes_all_below (λ place. nat_lt (slice_index packet place) 0x100) 42

packet_test_is_decided : (packet : List ℕ) → Decides (is_packet packet) (IsPacket packet)
packet_test_is_decided packet =
    Decides-like (is_packet packet)
    (λ h. record {
      size = h.0;
      bytes = λ place. elim (cases_lt place 42) [
        | inl within ↦ h.1 place within
        | inr past ↦ grind (arith, h.0, get_or_past packet place 0)
      ];
    })
    (λ is. (is.size, λ place within. is.bytes place))
    (Decides-and _ _ (Decides-eqb (length packet) 42)
    (below _ (λ place. slice_index packet place < 0x100)
    (λ place. Decides-ltb (slice_index packet place) 0x100) 42))

abbrev pub are_packets : Transmission → Bool
are_packets frames = each_packet_passes is_packet frames

pub good_by_events :
    (programme : ProgrammeValue) (frames : Transmission) (o : OptionsValue)
    → o.keeps ≡ false
    → o.within ≡ 0
    → 0 < o.every
    → are_packets frames ≡ true
    → events (criteria_of programme o None) frames ≡ []
    → Good programme frames o
good_by_events programme frames o none at_once some whole fault_free =
    let packets = (packets_decided is_packet IsPacket packet_test_is_decided frames).0 whole in
    ((none_reported programme o None frames none at_once some packets).0 fault_free).0
