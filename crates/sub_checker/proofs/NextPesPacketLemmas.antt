-- If a PES packet repeats the last one, and that one was not skipped, both have the same Teletext
-- packets. After a PES packet that is not skipped, the last Teletext packets are those of this PES
-- packet.
use Rattle.std.proofs.Common.{◌≡◌, ◌∙◌, ℕ, Bool, true, false, List, Ok, Option, Result, Some, sym}
use Rattle.std.proofs.Common.{ap, refl}
use Rattle.std.proofs.lemmas.Bool.{true≢false}
use Rattle.ttx_pes.specs.DataUnit.{UnitValue}
use Rattle.sub_rules.specs.PacketRules.{packets_of_units}
use Rattle.sub_rules.specs.declared.pes_packet.NextPesPacket.{NextPesPacket}
use Rattle.sub_rules.specs.declared.pes_packet.NextPesPacket.TheVariants as next
use Rattle.sub_rules.specs.declared.fault.CheckFault.{CheckFault}
use Rattle.sub_rules.specs.declared.valid_pes_packet.ValidPesPacket.{ValidPesPacket}
use Rattle.sub_checker.specs.NextPesPackets.{RepeatsLastPacket, is_skipped, last_packets_after_read}

pub result_is_sending : {n : Option NextPesPacket} {r : NextPesPacket} {s : ValidPesPacket}
    → n ≡ Some r
    → r ≡ next.Sent s
    → (let x : Result (Option NextPesPacket) CheckFault = Ok n in x) ≡ Ok (Some (next.Sent s))
result_is_sending is sent =
    ap (λ n. let x : Result (Option NextPesPacket) CheckFault = Ok n in x)
    (is ∙ ap (λ (p : NextPesPacket). Some p) sent)

pub again_is : {old new : List UnitValue} {n : Option NextPesPacket} (r : NextPesPacket)
    (skipped : Bool)
    (last : List (List ℕ))
    → n ≡ Some r
    → ((s : ValidPesPacket)
    → (let x : Result (Option NextPesPacket) CheckFault = Ok n in x) ≡ Ok (Some (next.Sent s))
    → s.again ≡ true
    → new ≡ old)
    → (skipped ≡ false → last ≡ packets_of_units old)
    → skipped ≡ false
    → RepeatsLastPacket r
    → last ≡ packets_of_units new
again_is (next.Skipped f) skipped last is here was sent same = absurd same
again_is (next.Sent s) skipped last is here was sent same =
    was sent ∙ ap packets_of_units (sym (here s (result_is_sending is refl) same))

pub last_is : (r : NextPesPacket) (last packets : List (List ℕ)) → is_skipped r ≡ false
    → last_packets_after_read last r packets ≡ packets
last_is (next.Skipped f) last packets sent = absurd (true≢false sent)
last_is (next.Sent s) last packets sent = refl
