use Rattle.std.proofs.Common.{refl, arith}
use Rattle.std.proofs.lemmas.Bool.Decides.{nat_tests}
use Rattle.std.proofs.lemmas.Bool.{cases_eq}
use Rattle.ttx_packet.proofs.packet.Packet.is_clean_header.Goals as goal

pub returns-then-not-is_word : goal.returns-then-not-is_word
returns-then-not-is_word c =
    rw (← c.self.view_is) (
      λ e. cc,
      λ exact. let word =
          c.is_word.ensures.1 (exact c.loop-place.place (omega arith) (omega arith)) in cc,
    )

pub returns : goal.returns
returns c =
    rw (← c.self.view_is)
    (λ e. λ k low high. c.loop-place.invariant k low (omega arith), λ exact. refl)

pub loop-place-preserved : goal.loop-place-preserved
loop-place-preserved c k low high = grind (arith, nat_tests, cases_eq k c.loop-place.place)
