-- Under the assumptions of the law of pace, the PES packets that `check --pace` accepts were sent
-- one after another.
use Rattle.std.proofs.Common.{◌≡◌, ℕ, ◌<◌, List, [], ◌∷◌, ◌++◌, length, refl, sym, ap, ◌∙◌}
use Rattle.std.proofs.Common.{subst, arith, append_assoc}
use Rattle.std.specs.List.{AllByRecursion, AllZip, concat}
use Rattle.ttx_pes.specs.PesGrammar.{IsValidPesPacket, PesValue}
use Rattle.ttx_pes.specs.PesPackets.{IsPesPacket}
use Rattle.mpeg_ts.specs.CarriedPackets.{gap_marker}
use Rattle.recording_laws.specs.Multiplex.{sent_pes_packets}
use Rattle.recording_laws.specs.Pace.{KeepPace, up_to_pts}
use Rattle.recording_laws.proofs.PesPacketLemmas.{one-way}
use Rattle.recording_laws.proofs.ReadingLaw.{law_of_pace}
use Rattle.recording_laws.proofs.CompleteFileLemmas.{law_of_complete_file}
use Rattle.sub_plan.specs.FrameTime.{clock_of}
use Rattle.sub_plan.specs.Options.{OptionsValue}
use Rattle.sub_rules.specs.PesFrames.{IsReadAs}
use Rattle.sub_rules.specs.PesPackets.{joined, joined_after}
use Rattle.sub_rules.specs.Transmission.{Transmission}
use Rattle.recording_laws.specs.PacedCheck.{LawOfPacedCheck, frame_by_clock}
use Rattle.recording_laws.proofs.JoinedPaceLemmas.{near-sendings}
use Rattle.recording_laws.proofs.PacedFrameLemmas.{AreNear, near-covered, numbers}
use Rattle.recording_laws.proofs.ReadPaceLemmas.{are-pes_packets, keeps-pace}

pes_packets-left : (xs ys : List (List ℕ))
    → AllByRecursion IsPesPacket (xs ++ ys)
    → AllByRecursion IsPesPacket xs
pes_packets-left [] ys each = tt
pes_packets-left (x ∷ xs) ys each = (each.0, pes_packets-left xs ys each.1)

pes_packets-right : (xs ys : List (List ℕ))
    → AllByRecursion IsPesPacket (xs ++ ys)
    → AllByRecursion IsPesPacket ys
pes_packets-right [] ys each = each
pes_packets-right (x ∷ xs) ys each = pes_packets-right xs ys each.1

record HasLastPacket (packets : List (List ℕ)) : Type 0 where
  pub run : List (List ℕ)
  pub last : List ℕ
  pub are : packets ≡ run ++ last ∷ []

has-last : (p : List ℕ) (packets : List (List ℕ)) → HasLastPacket (p ∷ packets)
has-last p [] = record { run = []; last = p; are = refl }
has-last p (q ∷ packets) =
    let rest = has-last q packets in
    record {
      run = p ∷ rest.run;
      last = rest.last;
      are = ap (λ (l : List (List ℕ)). p ∷ l) rest.are;
    }

sent-last : (options : OptionsValue) (within : ℕ) (values : List PesValue)
    (packets : List (List ℕ)) (sendings : Transmission)
    → AllZip IsValidPesPacket values packets
    → AllZip (IsReadAs (clock_of options)) values sendings
    → 0 < length (joined within sendings)
    → HasLastPacket packets
unfolding joined_after
sent-last options within values (p ∷ packets) sendings each read some = has-last p packets
sent-last options within (v ∷ values) [] sendings each read some = absurd each
sent-last options within [] [] (s ∷ sendings) each read some = absurd read
sent-last options within [] [] [] each read some = absurd (omega (arith, some))

pub law_of_paced_check : LawOfPacedCheck
law_of_paced_check number distance pace m recording before packets following programme transmission
    options losses holds far each carried_are carries good paced =
    record {
      run = parts.run;
      last = parts.last;
      packets_are_equal = parts.are;
      earlier = sent.0;
      later = sent.1;
      next = sent.2;
      sent_bytes_eq = sent.3;
      last_matches_up_to_pts = sent.4;
    }
  where
    same : carries.packets ≡ packets
    same =
        one-way carries.packets packets (are-pes_packets carries.values carries.packets
        carries.each)
        (pes_packets-left packets following (pes_packets-right before (packets ++ following) each))
        (sym carries.is_whole)

    are_packets : AllZip IsValidPesPacket carries.values packets
    are_packets = subst (AllZip IsValidPesPacket carries.values) same carries.each

    parts : HasLastPacket packets
    parts =
        sent-last options options.within carries.values packets carries.sendings are_packets
        carries.read
        (subst (λ (t : Transmission). 0 < length t) carries.are good.rules.not_empty)

    near : AreNear pace (numbers carries.sendings)
    near =
        near-sendings pace options.within carries.sendings
        (subst (λ (t : Transmission). AreNear pace (numbers t)) carries.are
        (near-covered pace transmission good.rules.rising
        (λ f from to. good.rules.paced pace f paced from to)))

    keep : KeepPace (frame_by_clock options) pace (parts.run ++ parts.last ∷ [])
    keep =
        subst (KeepPace (frame_by_clock options) pace) parts.are
        (keeps-pace options pace carries.values packets carries.sendings are_packets carries.read
        near)

    has_no_gap_marker : AllByRecursion (λ (p : List ℕ). p ≡ gap_marker → ⊥) packets
    has_no_gap_marker =
        (law_of_complete_file number distance recording before following carries.values packets
        (pes_packets-left before (packets ++ following) each)
        (pes_packets-right packets following (pes_packets-right before (packets ++ following) each))
        are_packets carried_are).0

    all : before ++ (packets ++ following) ≡ before ++ (parts.run ++ (parts.last ∷ following))
    all =
        ap (λ (l : List (List ℕ)). before ++ l)
        (ap (λ (l : List (List ℕ)). l ++ following) parts.are
        ∙ append_assoc parts.run (parts.last ∷ []) following)

    sent : (earlier later : List (List ℕ)) × (next : List ℕ)
        × (sent_pes_packets m ≡ earlier ++ (parts.run ++ (next ∷ later)))
        × (up_to_pts next ≡ up_to_pts parts.last)
    sent =
        law_of_pace number distance pace (frame_by_clock options) m recording before parts.run
        following parts.last losses holds far
        (subst (AllByRecursion IsPesPacket) all each)
        (carried_are ∙ ap concat all)
        (subst (AllByRecursion (λ (p : List ℕ). p ≡ gap_marker → ⊥)) parts.are has_no_gap_marker)
        keep
