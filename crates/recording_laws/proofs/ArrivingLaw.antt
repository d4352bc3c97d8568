-- If fewer than 15 consecutive TS packets with payload are missing or damaged, a recording carries
-- exactly the PES packets that arrive. Those with no gap marker between them were sent in sequence.
use Rattle.std.proofs.Common.{◌≡◌, ℕ, inl, inr, Bool, true, false, ◌||◌, List, [], ◌∷◌, ◌++◌}
use Rattle.std.proofs.Common.{length, refl, sym, ap, ◌∙◌}
use Rattle.std.specs.List.{concat}
use Rattle.std.proofs.lemmas.List.{append-nil}
use Rattle.mpeg_ts.specs.CarriedPackets.{carried_bytes, gap_marker_where}
use Rattle.recording_laws.specs.Laws.{LawOfLosses, LawOfNeighbours}
use Rattle.recording_laws.specs.Losses.{SentUnit, arriving_bytes, HasOnlyShortLosses}
use Rattle.recording_laws.specs.Multiplex.{SentPes, Multiplex}
use Rattle.recording_laws.proofs.CarriesArrivingLemmas.{CarriesArriving, carries_arriving-gone}
use Rattle.recording_laws.proofs.CarriesArrivingLemmas.{carries_arriving-there}
use Rattle.recording_laws.proofs.CarriesArrivingLemmas.{carries_arriving-first_gap_is_not_marked}
use Rattle.recording_laws.proofs.PesPacketLemmas.{concat-gap_markers, gap_markers_where, one-way}
use Rattle.recording_laws.proofs.PesPacketLemmas.{sent_bytes}
use Rattle.recording_laws.proofs.ReadingLaw.{law_of_reading}
use Rattle.recording_laws.proofs.OpenPartLemmas.{YieldsResults}
use Rattle.recording_laws.proofs.ReadingLemmas.{PreviousPes, PreviousResult, PreviousMarker}
use Rattle.recording_laws.proofs.ReadingLemmas.{Nothing, ReadsSent, is_gap}
use Rattle.recording_laws.proofs.ReadingLemmas.{has_previous}
use Rattle.recording_laws.proofs.ReadingLemmas.{IsLocated, read_packet_was_sent, sent-next, skip}
use Rattle.std.specs.Bool.{⊤}

skip-gap : (previous : PreviousResult) (s : SentPes SentUnit)
    → (has_previous (skip previous s) ≡ has_previous previous) × (is_gap (skip previous s) ≡ true)
skip-gap Nothing s = (refl, refl)
skip-gap PreviousMarker s = (refl, refl)
skip-gap (PreviousPes x t between skipped) s = (refl, refl)

concat-alone : (marked : Bool) → concat (gap_markers_where marked) ≡ gap_marker_where marked
concat-alone true = append-nil (gap_marker_where true)
concat-alone false = refl

-- If fewer than 15 consecutive TS packets with payload are missing or damaged, the bytes that are
-- read are those of the PES packets that arrive, in order, with the gap markers between them.
reads-lead : (previous : PreviousResult) (sent : List (SentPes SentUnit))
    (pes_packets : List (List ℕ))
    → ReadsSent true previous sent pes_packets
    → CarriesArriving (has_previous previous) (is_gap previous) sent (concat pes_packets)
unfolding arriving_bytes
reads-lead previous [] pes_packets reads = record {
  has_gap_marker = reads.0;
  marker_follows_packet = λ e. ap (λ (b : Bool). b || false) (reads.2 e);
  bytes_are_equal = ap concat reads.1 ∙ concat-alone reads.0;
}
reads-lead previous (s ∷ more) pes_packets reads = elim reads [
  | inl later ↦
      let skipped = skip-gap previous s in
      carries_arriving-gone (has_previous previous) (is_gap previous) s more (concat pes_packets)
      (later.0 refl)
      (rw (skipped.0, skipped.1) at (reads-lead (skip previous s) more pes_packets later.1))
  | inr here ↦
      let all = here.7 refl in
      carries_arriving-there (has_previous previous) (is_gap previous) s more (concat pes_packets)
      (concat here.2) all.0
      (ap concat here.3
      ∙ concat-gap_markers here.0 here.1 here.2
      ∙ cc (here.8 refl, all.1))
      (reads-lead (PreviousPes here.1 s (length s.others) false) more here.2 here.6)
]

given-few : (number distance : ℕ) (m : Multiplex SentUnit) (recording : List ℕ)
    → HasOnlyShortLosses number distance m recording
    → YieldsResults true Nothing m.sent (carried_bytes number distance recording)
given-few number distance m recording h =
    law_of_reading number distance true m recording h.losses (λ e. h.few) (λ e. absurd (cc e))

pub law_of_losses : LawOfLosses
law_of_losses number distance m recording h = record {
  has_gap_marker = carries_arriving.has_gap_marker;
  marker_follows_packet = carries_arriving.marker_follows_packet;
  bytes_are_equal = gives.joined ∙ carries_arriving.bytes_are_equal;
}
  where
    gives : YieldsResults true Nothing m.sent (carried_bytes number distance recording)
    gives = given-few number distance m recording h

    carries_arriving : CarriesArriving false false m.sent (concat gives.pes_packets)
    carries_arriving =
        carries_arriving-first_gap_is_not_marked true false m.sent (concat gives.pes_packets)
        (reads-lead Nothing m.sent gives.pes_packets gives.reads)

pub law_of_neighbours : LawOfNeighbours
law_of_neighbours number distance m recording before [] following h each joined none =
    ([], sent_bytes m.sent, refl)
law_of_neighbours number distance m recording before (x ∷ run) following h each joined none = (
  found.earlier,
  next.0,
  found.sent_bytes_eq ∙ ap (λ (l : List (List ℕ)). found.earlier ++ l)
      rest,
)
  where
    gives : YieldsResults true Nothing m.sent (carried_bytes number distance recording)
    gives = given-few number distance m recording h

    same : gives.pes_packets ≡ before ++ (x ∷ (run ++ following))
    same =
        one-way gives.pes_packets (before ++ (x ∷ (run ++ following))) gives.each each
        (sym gives.joined ∙ joined)

    found : IsLocated true (λ sent. ⊤) (λ s more far. tt) x (run ++ following) m.sent
    found =
        read_packet_was_sent true (λ sent. ⊤) (λ s more far. tt) Nothing m.sent gives.pes_packets
        before
        (run ++ following) x gives.reads same none.0 tt

    next : (later : List (List ℕ)) × (sent_bytes found.later ≡ run ++ later)
    next =
        sent-next x found.here (length found.here.others) found.later (run ++ following) run
        following
        found.reads refl none.1

    rest : found.here.bytes ∷ sent_bytes found.later ≡ x ∷ (run ++ next.0)
    rest = let first = found.equals_sent_bytes refl in let more = next.1 in cc
