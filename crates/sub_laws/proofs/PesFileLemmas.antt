-- A PES file that carries a transmission is read as its PES packets, to the end. If `within` is 0,
-- each PES packet has exactly the PTS of its frame.
use Rattle.std.proofs.lemmas.Bool.Decides.{nat_tests}
use Rattle.std.proofs.Common.{ℕ, ◌+◌, ◌≤◌, List, []}
use Rattle.std.proofs.Common.{◌∷◌, ◌++◌, ◌↔◌, length, None}
use Rattle.std.proofs.Common.{refl, sym, subst, arith}
use Rattle.std.specs.List.{AllZip, concat}
use Rattle.ttx_pes.specs.PesGrammar.{IsValidPesPacket, PesValue}
use Rattle.ttx_pes.specs.Reading.{max_pes_packets}
use Rattle.ttx_pes.proofs.ReadingLemmas.{decoded_packet_is_answer, valid_packet_is_read}
use Rattle.ttx_pes.proofs.ReadingLemmas.{rest_after-packet}
use Rattle.sub_plan.specs.FrameTime.{Clock, clock}
use Rattle.sub_plan.proofs.ClockLemmas.{law_of_exact_clock}
use Rattle.sub_rules.specs.PesFrames.{Carries, CarriesOnClock, IsReadAs, IsSentAs}
use Rattle.sub_rules.specs.PesReading.{LawOfExactFrames, ReadsAs}
use Rattle.sub_rules.proofs.JoinedLemmas.{joined-none}
use Rattle.sub_rules.specs.Transmission.{Transmission}
use Rattle.sub_rules.proofs.PesReadingLemmas.{reads_ended, reads_more}
use Rattle.ttx_pes.proofs.ReaderLemmas.{nothing}

reads_of :
    (clock : Clock) (given : ℕ) (values : List PesValue) (packets : List (List ℕ))
    (frames : Transmission)
    → AllZip IsValidPesPacket values packets
    → given + length packets ≤ max_pes_packets
    → AllZip (IsReadAs clock) values frames
    → ReadsAs clock given (concat packets) frames None
reads_of clock given [] [] [] each few sent =
    reads_ended clock given [] (omega arith) (nothing given [] refl)
reads_of clock given [] [] (s ∷ frames) each few sent = elim sent [ ]
reads_of clock given [] (p ∷ packets) frames each few sent = elim each [ ]
reads_of clock given (v ∷ values) [] frames each few sent = elim each [ ]
reads_of clock given (v ∷ values) (p ∷ packets) [] each few sent = elim sent [ ]
reads_of clock given (v ∷ values) (p ∷ packets) (s ∷ frames) each few sent =
    let rest = concat packets in
    let read = valid_packet_is_read v p rest each.0 in
    reads_more clock given (p ++ rest) v s frames None (omega arith)
    (decoded_packet_is_answer given (p ++ rest) v rest (λ e. omega arith) read) sent.0
    (subst (λ b. ReadsAs clock (given + 1) b frames None)
    (sym (rest_after-packet v (p ++ rest) rest read))
    (reads_of clock (given + 1) values packets frames each.1 (omega arith) sent.1))

pub carried_is_read :
    (clock : Clock) (within : ℕ) (bytes : List ℕ) (frames : Transmission)
    → (is : CarriesOnClock clock within bytes frames)
    → ReadsAs clock 0 bytes is.sendings None
carried_is_read clock within bytes frames is = grind (arith, nat_tests, reads_of)

sent_exactly :
    (origin : ℕ) (values : List PesValue) (frames : Transmission)
    → AllZip (IsReadAs (clock 0 origin)) values frames
    → AllZip (IsSentAs origin) values frames
sent_exactly origin [] [] each = tt
sent_exactly origin [] (s ∷ frames) each = elim each [ ]
sent_exactly origin (v ∷ values) [] each = elim each [ ]
sent_exactly origin (v ∷ values) (s ∷ frames) each =
    let is = (law_of_exact_clock origin v.pts s.frame).0 each.0.frame in (
      record { in_day = is.0; pts = sym is.1; packets = each.0.packets },
      sent_exactly origin values frames each.1,
    )

sent_frames_are_read_exactly :
    (origin : ℕ) (values : List PesValue) (frames : Transmission)
    → AllZip (IsSentAs origin) values frames
    → AllZip (IsReadAs (clock 0 origin)) values frames
sent_frames_are_read_exactly origin [] [] each = tt
sent_frames_are_read_exactly origin [] (s ∷ frames) each = elim each [ ]
sent_frames_are_read_exactly origin (v ∷ values) [] each = elim each [ ]
sent_frames_are_read_exactly origin (v ∷ values) (s ∷ frames) each = (
  record {
    frame = (law_of_exact_clock origin v.pts s.frame).1 (each.0.in_day, sym each.0.pts);
    packets = each.0.packets;
  },
  sent_frames_are_read_exactly origin values frames each.1,
)

exact_frames :
    (origin : ℕ) (bytes : List ℕ) (frames : Transmission)
    → CarriesOnClock (clock 0 origin) 0 bytes frames ↔ Carries origin bytes frames
exact_frames origin bytes frames = grind (
  arith,
  nat_tests,
  joined-none,
  sent_exactly,
  sent_frames_are_read_exactly,
)

pub law_of_exact_frames : LawOfExactFrames
law_of_exact_frames options bytes frames none =
    subst
    (λ (n : ℕ). CarriesOnClock (clock n options.origin) n bytes frames
    ↔ Carries options.origin bytes frames)
    (sym none) (exact_frames options.origin bytes frames)
