use Rattle.std.proofs.Common.{◌∙◌, ◌++◌, [], ◌∷◌, length, refl, sym, subst}
use Rattle.sub_rules.specs.PacketRules.{packets_of_units}
use Rattle.sub_rules.specs.Transmission.{SentFrame, Transmission}
use Rattle.sub_rules.proofs.JoinedLemmas.{sent_after-other, sent_after-same}
use Rattle.sub_checker.specs.Checker.{sent_frame_of}
use Rattle.sub_checker.specs.CheckedFrames.{BetweenPesPackets}
use Rattle.sub_checker.proofs.CheckedFramesLemmas.{AfterEnd-prefix}
use Rattle.sub_checker.proofs.ReporterLemmas.{silent_step_is_relayed, appended_steps_are_relayed}
use Rattle.sub_checker.proofs.BetweenPesPacketsLemmas.{frame_continuation_test_is_exact}
use Rattle.sub_checker.proofs.BetweenPesPacketsLemmas.{appended_frame_is_sent}
use Rattle.sub_checker.proofs.BetweenPesPacketsLemmas.{continued_frame_steps, new_frame_steps}
use Rattle.sub_checker.proofs.BetweenPesPacketsLemmas.{appending_frame_adds_one}
use Rattle.sub_checker.proofs.checker.Checker.check_pes_packet.Goals as goal

pub returns-then-continues-clause-reported : goal.returns-then-continues-clause-reported
returns-then-continues-clause-reported g c = λ criteria sent last keeps again.
    let s : SentFrame = sent_frame_of c.args.sending c.args.units.now in
    let same =
    frame_continuation_test_is_exact criteria sent last c.args.self.now s c.continues.result keeps
    c.continues.ensures
    ∙ c.if-continues.true in
    let more = c.take_more.ensures.reported criteria sent last keeps again in (
      appended_steps_are_relayed (continued_frame_steps criteria sent c.args.pes s same)
          (silent_step_is_relayed refl c.go_to.ensures refl) more.0,
      subst (λ (l : Transmission). BetweenPesPackets criteria l
          (packets_of_units c.args.units.now) c.take_more.new.self)
          (sym (sent_after-same criteria.within sent s same)) more.1,
    )

pub check_first_of_frame-requires-clause-room : goal.check_first_of_frame-requires-clause-room
check_first_of_frame-requires-clause-room g c =
    c.end_pending_frame.ensures.few c.args.pes c.requires.room

pub returns-clause-reported : goal.returns-clause-reported
returns-clause-reported g c = λ criteria sent last keeps again.
    let s : SentFrame = sent_frame_of c.args.sending c.args.units.now in
    let other =
    frame_continuation_test_is_exact criteria sent last c.args.self.now s c.continues.result keeps
    c.continues.ensures
    ∙ c.if-continues.false in
    let end = c.end_pending_frame.ensures.reported criteria sent last keeps in
    let next =
    c.check_first_of_frame.ensures.reported criteria (sent ++ s ∷ []) (length sent) last
    (AfterEnd-prefix criteria sent (s ∷ []) last c.end_pending_frame.new.self end.1)
    (appending_frame_adds_one sent s)
    (appended_frame_is_sent sent s) again in (
      appended_steps_are_relayed (new_frame_steps criteria sent c.args.pes s other) end.0
          (appended_steps_are_relayed refl (silent_step_is_relayed refl c.go_to-2.ensures refl)
          next.0),
      subst (λ (l : Transmission). BetweenPesPackets criteria l
          (packets_of_units c.args.units.now) c.check_first_of_frame.new.self)
          (sym (sent_after-other criteria.within sent s other)) next.1,
    )
