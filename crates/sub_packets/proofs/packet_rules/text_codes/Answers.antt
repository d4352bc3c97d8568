use Rattle.std.proofs.lemmas.Bool.Decides.{nat_tests}
use Rattle.std.proofs.Common.{arith}
use Rattle.std.proofs.lemmas.List.{get_or-drop, length-drop}
use Rattle.ttx_packet.proofs.BitOrderLemmas.{map-from_places}
use Rattle.sub_packets.proofs.packet_rules.text_codes.Goals as goal

pub returns-clause-value : goal.returns-clause-value
returns-clause-value c =
    grind (arith, nat_tests, map-from_places, length-drop, get_or-drop)
