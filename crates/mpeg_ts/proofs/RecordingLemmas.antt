-- Each PES packet that a reader of a recording returns is the first item of its remaining output.
use Rattle.std.proofs.Common.{◌≡◌, ◌≢◌, ℕ, List, [], ◌++◌, length, take, Option, Some, None}
use Rattle.std.proofs.Common.{true, refl, sym, ap, ◌∙◌, arith, inl, subst}
use Rattle.std.proofs.lemmas.Bool.Decides.{nat_tests}
use Rattle.std.proofs.lemmas.List.{append-nil}
use Rattle.std.specs.Prelude.{nat_lt, option_map}
use Rattle.std.specs.Io.KnownBytes.{Consumes, IsAtEnd, Keeps}
use Rattle.ttx_pes.specs.Advancing.{IsReportedRest}
use Rattle.ttx_pes.specs.PesPackets.{IsPesPacket}
use Rattle.ttx_pes.specs.Reader.{FailsWithinPacket}
use Rattle.ttx_pes.specs.declared.fault.PesFault.{PesFault}
use Rattle.ttx_pes.proofs.PesPacketBufferLemmas.{size_fault_is_reported}
use Rattle.mpeg_ts.specs.CarriedPackets.{gap_marker}
use Rattle.mpeg_ts.specs.Joining.{IsRefusedAtStart, JoiningValue, TakesNext, with_no_bytes}
use Rattle.mpeg_ts.specs.Joining.{has_ended}
use Rattle.mpeg_ts.specs.Joining.{taken_bytes}
use Rattle.mpeg_ts.specs.Recording.{IsAtRest}
use Rattle.mpeg_ts.specs.Stream.{StreamValue, output_of, remaining_output, stream_output}
use Rattle.mpeg_ts.specs.declared.pending_item.Next.{Next}
use Rattle.mpeg_ts.specs.declared.pending_item.Next.TheVariants as next
use Rattle.mpeg_ts.proofs.ReadyLemmas.{length-gap_marker}
use Rattle.mpeg_ts.proofs.StreamLemmas.{output_prefix_is_consumed, ended_part_no_later_output}

pub gap_marker_is_pes_packet : IsPesPacket gap_marker
unfolding gap_marker
gap_marker_is_pes_packet = record {
  n = 1;
  body = _;
  bytes = refl;
  size = (omega arith, omega arith);
  long = length-gap_marker;
}

pub pending_packet_is_consumed : (before known_bytes : Option (List ℕ)) (u v w : StreamValue)
    (pes_packet : List ℕ)
    → Keeps (remaining_output u before) (remaining_output v known_bytes)
    → v.joining.pending ≡ pes_packet ++ w.joining.pending
    → w.joining ≡ record v.joining { pending = w.joining.pending }
    → w ≡ record v { joining = w.joining }
    → Consumes (remaining_output u before) (remaining_output w known_bytes) pes_packet
pending_packet_is_consumed before known_bytes u v w pes_packet keeps prefix same only =
    back (output_prefix_is_consumed before known_bytes u v w.joining.pending pes_packet keeps
    prefix)
  where
    whole : w ≡ record v { joining = record v.joining { pending = w.joining.pending } }
    whole = only ∙ ap (λ (j : JoiningValue). record v { joining = j }) same

    back :
        Consumes (remaining_output u before)
        (remaining_output (record v {
          joining = record v.joining { pending = w.joining.pending };
        }) known_bytes) pes_packet
        → Consumes (remaining_output u before) (remaining_output w known_bytes) pes_packet
    back p = rw whole p

-- If all collected bytes are pending and the part has ended the stream, they are the remaining
-- output.
ended_stream_outputs_rest : (v : StreamValue) (bytes : List ℕ)
    → v.joining.pending ≡ v.joining.bytes
    → has_ended v.joining.part ≡ true
    → output_of v bytes ≡ v.joining.bytes
unfolding stream_output
ended_stream_outputs_rest v bytes all ended =
    ap (λ (l : List ℕ). v.joining.pending ++ l) (ended_part_no_later_output _ _ ended)
    ∙ append-nil v.joining.pending
    ∙ all

pub ended_stream_keeps_rest : (before known_bytes : Option (List ℕ)) (u v : StreamValue)
    (f : PesFault)
    → Keeps (remaining_output u before) (remaining_output v known_bytes)
    → v.joining.pending ≡ v.joining.bytes
    → IsRefusedAtStart v.joining.bytes f
    → has_ended v.joining.part ≡ true
    → IsReportedRest (remaining_output u before)
    (option_map (λ bytes. []) (remaining_output v known_bytes))
    f
ended_stream_keeps_rest before known_bytes u v f keeps all refused ended = record {
  bytes = v.joining.bytes;
  consumed = read before known_bytes keeps;
  shows = size_fault_is_reported _ v.joining.bytes f refused.0 refused.1;
}
  where
    read :
        (x y : Option (List ℕ))
        → Keeps (remaining_output u x) (remaining_output v y)
        → Consumes (remaining_output u x) (option_map (λ bytes. []) (remaining_output v y))
        v.joining.bytes
    read None y kept = tt
    read (Some xs) None kept = absurd kept
    read (Some xs) (Some ys) kept =
        sym kept ∙ ended_stream_outputs_rest v ys all ended ∙ sym (append-nil v.joining.bytes)

emptied_stream_outputs_nothing : (v : StreamValue) (bytes : List ℕ)
    → has_ended v.joining.part ≡ true
    → output_of (record v { joining = with_no_bytes v.joining }) bytes ≡ []
unfolding stream_output
emptied_stream_outputs_nothing v bytes ended = ended_part_no_later_output _ _ ended

pub emptying_consumes_rest : (known_bytes : Option (List ℕ)) (v w : StreamValue)
    → IsAtRest v
    → w ≡ record v { joining = with_no_bytes v.joining }
    → Consumes (remaining_output v known_bytes) (remaining_output w known_bytes) v.joining.bytes
    × IsAtEnd (remaining_output w known_bytes)
emptying_consumes_rest None v w rest is = (tt, tt)
emptying_consumes_rest (Some xs) v w rest is =
    let none : output_of w xs ≡ [] =
    ap (λ (s : StreamValue). output_of s xs) is ∙ emptied_stream_outputs_nothing v xs rest.ended
    in (
      ended_stream_outputs_rest v xs rest.all rest.ended
          ∙ sym (append-nil v.joining.bytes)
          ∙ ap (λ (l : List ℕ). v.joining.bytes ++ l) (sym none),
      none,
    )

pub emptied_stream_is_at_rest : (v w : StreamValue) → IsAtRest v
    → w ≡ record v { joining = with_no_bytes v.joining }
    → IsAtRest w
emptied_stream_is_at_rest v w rest is = subst IsAtRest (sym is)
    (record { all = refl; ended = rest.ended })

pub ruleset rests = (emptying_consumes_rest, emptied_stream_is_at_rest)

pub nothing_consumed_means_end : (old new : Option (List ℕ)) → Keeps old new → FailsWithinPacket old
    new
nothing_consumed_means_end old new keeps = record {
  bytes = [];
  consumed = consumed old new keeps;
  begun = inl (omega arith);
}
  where
    consumed : (x y : Option (List ℕ)) → Keeps x y → Consumes x y []
    consumed None y kept = tt
    consumed (Some xs) None kept = absurd kept
    consumed (Some xs) (Some ys) kept = sym kept

pub positive_count_is_not_empty : (l : List ℕ) → nat_lt 0 (length l) ≡ true → l ≢ []
positive_count_is_not_empty l h1 = λ none. grind (arith, nat_tests)

module _ (before known_bytes : Option (List ℕ)) (u v w : StreamValue)
    (keeps : Keeps (remaining_output u before) (remaining_output v known_bytes))
    (only : w ≡ record v { joining = w.joining })
  where
    pub nothing_next_is_end : (v.joining.pending ≡ [] → IsAtEnd (remaining_output v known_bytes))
        → TakesNext v.joining next.Nothing w.joining
        → Keeps (remaining_output u before) (remaining_output w known_bytes) × IsAtEnd
        (remaining_output w known_bytes)
    nothing_next_is_end end taken =
        let same : w ≡ v = only ∙ ap (λ (j : JoiningValue). record v { joining = j }) taken.1 in
        rw same (keeps, end taken.0)

    pub rest_next_is_reported : (fault : PesFault)
        → TakesNext v.joining (next.Rest fault) w.joining
        → Keeps (remaining_output u before) (remaining_output w known_bytes)
        × IsReportedRest (remaining_output u before)
        (option_map (λ bytes. []) (remaining_output w known_bytes)) fault
    rest_next_is_reported fault taken =
        let same : w ≡ v = only ∙ ap (λ (j : JoiningValue). record v { joining = j }) taken.3 in
        rw same (
          keeps,
          ended_stream_keeps_rest before known_bytes u v fault keeps taken.0 taken.1
              taken.2,
        )

    pub rest_next_stays_at_rest : (fault : PesFault)
        → TakesNext v.joining (next.Rest fault) w.joining
        → IsAtRest w
    rest_next_stays_at_rest fault taken =
        let all : v.joining.pending ≡ v.joining.bytes = taken.0 in
        let same : w.joining ≡ v.joining = taken.3 in
        subst (λ (j : JoiningValue). IsAtRest (record w { joining = j })) (sym same)
        (record { all = all; ended = taken.2 })

    pub received_packet_is_taken : (n : Next)
        → (n ≡ next.Nothing → ⊥)
        → ((fault : PesFault) → n ≡ next.Rest fault → ⊥)
        → TakesNext v.joining n w.joining
        → IsPesPacket (taken_bytes n w.joining.bytes)
        × Consumes (remaining_output u before) (remaining_output w known_bytes)
        (taken_bytes n w.joining.bytes)
    received_packet_is_taken next.Nothing some more taken = absurd (some refl)
    received_packet_is_taken (next.Rest fault) some more taken = absurd (more fault refl)
    received_packet_is_taken next.GapMarker some more taken = (
      gap_marker_is_pes_packet,
      pending_packet_is_consumed before known_bytes u v w gap_marker keeps taken.0
          taken.1 only,
    )
    received_packet_is_taken (next.Packet size) some more taken =
        let same : w.joining.bytes ≡ v.joining.bytes =
        ap (λ (j : JoiningValue). j.bytes) taken.3 in
        subst (λ (l : List ℕ). IsPesPacket (take size l)
        × Consumes (remaining_output u before) (remaining_output w known_bytes) (take size l))
        (sym same) (
          taken.0,
          pending_packet_is_consumed before known_bytes u v w (take size v.joining.bytes) keeps
              taken.2
              taken.3 only,
        )

pub ruleset takes = (
  nothing_next_is_end,
  rest_next_is_reported,
  rest_next_stays_at_rest,
  received_packet_is_taken,
  nothing_consumed_means_end,
  positive_count_is_not_empty,
)
