-- If the consumed bytes of a recording give no more output, they carry the output so far.
use Rattle.std.proofs.Common.{◌≡◌, ℕ, List, [], ◌++◌, take, Option, Some, None, sym, ap, ◌∙◌}
use Rattle.std.proofs.Common.{append_assoc, subst}
use Rattle.std.proofs.lemmas.List.{append-nil, append_cancel_right}
use Rattle.std.proofs.KnownBytes.{Consumes-trans}
use Rattle.std.specs.List.{concat}
use Rattle.ttx_pes.specs.Reader.{FailsAfterValidPackets, FailsWithinPacket, TakesValidPesPackets}
use Rattle.mpeg_ts.specs.CarriedPackets.{carried_bytes, gap_marker}
use Rattle.mpeg_ts.specs.Joining.{JoiningValue, TakesNext}
use Rattle.mpeg_ts.specs.Stream.{StreamValue, output_of, start_of_stream}
use Rattle.mpeg_ts.specs.ConsumedStreamBytes.{OutputsBetween, SplitsOutput, TakesPrefix}
use Rattle.mpeg_ts.specs.ConsumedStreamBytes.{takes_bytes}
use Rattle.mpeg_ts.specs.declared.pending_item.Next.{Next}
use Rattle.mpeg_ts.specs.declared.pending_item.Next.TheVariants as next
use Rattle.mpeg_ts.proofs.CarriedPacketLemmas.{stream_outputs_carried_bytes}
use Rattle.mpeg_ts.proofs.StreamLemmas.{pending_prefix_is_output}
use Rattle.mpeg_ts.proofs.ConsumedStreamBytesLemmas.{take_continues}

pub outputs_compose : (u v w : StreamValue) (before mid after : Option (List ℕ))
    → OutputsBetween u v before mid
    → OutputsBetween v w mid after
    → OutputsBetween u w before after
outputs_compose u v w before mid after first then = record {
  given = first.given ++ then.given;
  takes = both first.given then.given first.takes then.takes;
}
  where
    both : (ys zs : List ℕ)
        → TakesPrefix (output_of u) (λ more. ys ++ output_of v more) before mid
        → TakesPrefix (output_of v) (λ more. zs ++ output_of w more) mid after
        → TakesPrefix (output_of u) (λ more. (ys ++ zs) ++ output_of w more) before after
    both ys zs (takes_bytes _ _ _ _ xs consumed same) (takes_bytes _ _ _ _ bytes left alike) =
        takes_bytes _ _ before after (xs ++ bytes)
        (Consumes-trans before mid after xs bytes consumed left)
        (λ more.
        ap (output_of u) (append_assoc xs bytes more)
        ∙ same (bytes ++ more)
        ∙ ap (λ (l : List ℕ). ys ++ l) (alike more)
        ∙ sym (append_assoc ys zs (output_of w more)))

-- If the consumed bytes of a recording give no more output, the output so far is what they carry.
consumed_bytes_give_output : (number distance : ℕ) (v : StreamValue) (bytes given : List ℕ)
    → ((more : List ℕ)
    → output_of (start_of_stream number distance) (bytes ++ more) ≡ given ++ output_of v more)
    → output_of v [] ≡ []
    → carried_bytes number distance bytes ≡ given
consumed_bytes_give_output number distance v bytes given same none =
    sym (stream_outputs_carried_bytes number distance bytes)
    ∙ ap (output_of (start_of_stream number distance)) (sym (append-nil bytes))
    ∙ same []
    ∙ ap (λ (l : List ℕ). given ++ l) none
    ∙ append-nil given

remaining_bytes_give_output : (number distance : ℕ) (v : StreamValue) (all taken rest given : List
    ℕ)
    → all ≡ taken ++ rest
    → ((more : List ℕ)
    → output_of (start_of_stream number distance) (taken ++ more) ≡ given ++ output_of v more)
    → output_of v [] ≡ []
    → carried_bytes number distance all ≡ carried_bytes number distance taken ++ output_of v rest
remaining_bytes_give_output number distance v all taken rest given is same none =
    sym (stream_outputs_carried_bytes number distance all)
    ∙ ap (output_of (start_of_stream number distance)) is
    ∙ same rest
    ∙ ap (λ (l : List ℕ). l ++ output_of v rest)
    (sym (consumed_bytes_give_output number distance v taken given same none))

-- If reading the bytes `all` fails within a PES packet, and all items before it are valid PES
-- packets, the bytes read (`prefix`) end within the same PES packet.
failure_moves_to_prefix : (index : ℕ) (all prefix left : List ℕ)
    → all ≡ prefix ++ left
    → FailsAfterValidPackets index (Some all) (Some left)
    → FailsAfterValidPackets index (Some prefix) (Some [])
failure_moves_to_prefix index all prefix left is failed =
    at failed.following failed.before failed.within
  where
    at : (following : Option (List ℕ))
        → TakesValidPesPackets index (Some all) following
        → FailsWithinPacket following (Some left)
        → FailsAfterValidPackets index (Some prefix) (Some [])
    at None before within = absurd before.consumed
    at (Some bytes) before within = record {
      following = Some within.bytes;
      before = record {
        packets = before.packets;
        number = before.number;
        each = before.each;
        consumed = append_cancel_right prefix (concat before.packets ++ within.bytes) left
            (sym is
            ∙ before.consumed
            ∙ ap (λ (l : List ℕ). concat before.packets ++ l) within.consumed
            ∙ sym (append_assoc (concat before.packets) within.bytes left));
      };
      within = record {
        bytes = within.bytes;
        consumed = sym (append-nil within.bytes);
        begun = within.begun;
      };
    }

pub read_failure_is_at_packet : (number distance : ℕ) (v : StreamValue) (recording rest : List ℕ)
    → OutputsBetween (start_of_stream number distance) v (Some recording) (Some rest)
    → output_of v [] ≡ []
    → SplitsOutput number distance v recording rest
read_failure_is_at_packet number distance v recording rest on none = reported on.given on.takes
  where
    reported : (given : List ℕ)
        → TakesPrefix (output_of (start_of_stream number distance))
        (λ more. given ++ output_of v more) (Some recording) (Some rest)
        → SplitsOutput number distance v recording rest
    reported given (takes_bytes _ _ _ _ taken consumed same) =
        let all = remaining_bytes_give_output number distance v recording taken rest given consumed
        same none in
        record {
          taken = taken;
          prefix = consumed;
          carries = all;
          place = λ index failed.
              failure_moves_to_prefix index (carried_bytes number distance recording)
              (carried_bytes number distance taken) (output_of v rest) all failed;
        }

packet_prefix_is_output : (before reported : Option (List ℕ)) (u v w : StreamValue)
    (pes_packet : List ℕ)
    → TakesPrefix (output_of u) (output_of v) before reported
    → v.joining.pending ≡ pes_packet ++ w.joining.pending
    → w.joining ≡ record v.joining { pending = w.joining.pending }
    → w ≡ record v { joining = w.joining }
    → OutputsBetween u w before reported
packet_prefix_is_output before reported u v w pes_packet takes prefix same only = record {
  given = pes_packet;
  takes = take_continues (output_of u) (output_of v) (λ more. pes_packet ++ output_of w more) before
      reported takes
      (λ more. sym (pending_prefix_is_output v w.joining.pending pes_packet more prefix
      ∙ ap (λ (s : StreamValue). pes_packet ++ output_of s more) (sym whole)));
}
  where
    whole : w ≡ record v { joining = record v.joining { pending = w.joining.pending } }
    whole = only ∙ ap (λ (j : JoiningValue). record v { joining = j }) same

nothing_changes_no_output : (before reported : Option (List ℕ)) (u v w : StreamValue)
    → TakesPrefix (output_of u) (output_of v) before reported
    → w.joining ≡ v.joining
    → w ≡ record v { joining = w.joining }
    → OutputsBetween u w before reported
nothing_changes_no_output before reported u v w takes same only =
    subst (λ (s : StreamValue). OutputsBetween u s before reported)
    (sym (only ∙ ap (λ (j : JoiningValue). record v { joining = j }) same))
    (record { given = []; takes = takes })

-- If bytes were consumed and the next pending item was then returned, that item is the start of the
-- output that was still to be returned before, whatever bytes follow.
pub next_item_is_output : (before reported : Option (List ℕ)) (u v w : StreamValue) (n : Next)
    → TakesPrefix (output_of u) (output_of v) before reported
    → TakesNext v.joining n w.joining
    → w ≡ record v { joining = w.joining }
    → OutputsBetween u w before reported
next_item_is_output before reported u v w next.Nothing takes taken only =
    nothing_changes_no_output before reported u v w takes taken.1 only
next_item_is_output before reported u v w (next.Rest fault) takes taken only =
    nothing_changes_no_output before reported u v w takes taken.3 only
next_item_is_output before reported u v w next.GapMarker takes taken only =
    packet_prefix_is_output before reported u v w gap_marker takes taken.0 taken.1 only
next_item_is_output before reported u v w (next.Packet size) takes taken only =
    packet_prefix_is_output before reported u v w (take size v.joining.bytes) takes taken.2 taken.3
    only
