-- If a request reads a part of a source, its input has exactly the bytes of the PES packets that
-- the request selects; otherwise its input is the entire source.
use Rattle.std.proofs.lemmas.Bool.Decides.{nat_tests}
use Rattle.std.proofs.Common.{◌≡◌, ◌∙◌, ap, arith, ℕ, List, Option, Some, None, true, false}
use Rattle.std.specs.Prelude.{◌⊎◌, option_map}
use Rattle.mpeg_ts.specs.CarriedPackets.{carried_bytes}
use Rattle.mpeg_ts.specs.PacketSize.{bytes_of}
use Rattle.ttx_pes.specs.PesPacketRange.{PesPacketRangeValue, first_index, range_bytes}
use Rattle.sub_request.specs.declared.pes_selection.TransportStream.{TransportStream}
use Rattle.sub_request.specs.declared.request.Request.{Request}
use Rattle.sub_answer.specs.Answering.{InputCall, pes_packets_call, reads_pes_packets}
use Rattle.sub_answer.specs.Answering.{call_without_range}
use Rattle.sub_answer.specs.Part.{IsPartOf, IsRangeOf, first_number_in_range, bytes_in_range}
use Rattle.sub_answer.specs.Part.{entire_file}
use Rattle.sub_answer.specs.declared.part.Part.{Part}
use Rattle.sub_answer.proofs.EndingLemmas.{entire_source_is_entire_part}

module _ {D : Type 0} (remaining : D → Option (List ℕ)) (failure_count : D → ℕ)
    (old left : D) (input : InputCall) where
  pub entire_source_is_part : (request : Request) (p : Part)
      → (p ≡ entire_file) ⊎ (reads_pes_packets request ≡ true)
      → reads_pes_packets request ≡ false
      → input ≡ call_without_range remaining failure_count old left
      → IsPartOf p remaining failure_count old left input
  entire_source_is_part request p fits none is = grind
      (arith, nat_tests, entire_source_is_entire_part)

  pub range_of_file_is_part : {P : Type 0} (given following : P → Option (List ℕ)) (count : P → ℕ)
      (before after : P) (p : Part)
      → IsRangeOf p.range given following count before after input
      → p.stream ≡ None
      → given before ≡ remaining old
      → following after ≡ remaining left
      → count before ≡ failure_count old
      → count after ≡ failure_count left
      → IsPartOf p remaining failure_count old left input
  range_of_file_is_part given following count before after p is stream gives leaves first
      last = record {
        known = rw stream (is.known ∙ ap (bytes_in_range p.range) gives);
        number = rw stream (is.number ∙ ap (first_number_in_range p.range) gives);
        old_count = is.old_count ∙ first;
        new_count = is.new_count ∙ last;
        left_eq = λ whole. is.left_eq (ap (λ (q : Part). q.range) whole) ∙ leaves;
      }

  pub range_of_stream_is_part : {P : Type 0} (given following : P → Option (List ℕ)) (count : P → ℕ)
      (before after : P) (p : Part) (s : TransportStream)
      → IsRangeOf p.range given following count before after input
      → p.stream ≡ Some s
      → given before ≡ option_map (carried_bytes s.pid (bytes_of s.packet_size)) (remaining old)
      → count before ≡ failure_count old
      → count after ≡ failure_count left
      → IsPartOf p remaining failure_count old left input
  range_of_stream_is_part given following count before after p s is stream carries first
      last = record {
        known = rw stream (is.known ∙ ap (bytes_in_range p.range) carries);
        number = rw stream (is.number ∙ ap (first_number_in_range p.range) carries);
        old_count = is.old_count ∙ first;
        new_count = is.new_count ∙ last;
        left_eq = λ whole. let none = ap (λ (q : Part). q.stream) whole in absurd cc;
      }

module _ {P : Type 0} (given following : P → Option (List ℕ)) (count : P → ℕ) (before after : P)
    (input : InputCall) where
  pub all_pes_packets_are_range : (first : P → Option ℕ) (skipped : P → ℕ)
      → first before ≡ Some 0
      → input ≡ pes_packets_call given following count first skipped before after
      → IsRangeOf None given following count before after input
  all_pes_packets_are_range first skipped start is = record {
    known = ap (λ (i : InputCall). i.call.known) is;
    number = ap (λ (i : InputCall). i.number.known) is ∙ start;
    old_count = ap (λ (i : InputCall). i.call.old_count) is;
    new_count = ap (λ (i : InputCall). i.call.new_count) is;
    left_eq = λ none. ap (λ (i : InputCall). i.call.left) is;
  }

  pub selected_pes_packets_are_range : (part : InputCall) (r : PesPacketRangeValue)
      → input ≡ part
      → part.call.known ≡ option_map (range_bytes r) (given before)
      → part.number.known ≡ option_map (first_index r) (given before)
      → part.call.old_count ≡ count before
      → part.call.new_count ≡ count after
      → IsRangeOf (Some r) given following count before after input
  selected_pes_packets_are_range part r is known number old_count new_count = record {
    known = ap (λ (i : InputCall). i.call.known) is ∙ known;
    number = ap (λ (i : InputCall). i.number.known) is ∙ number;
    old_count = ap (λ (i : InputCall). i.call.old_count) is ∙ old_count;
    new_count = ap (λ (i : InputCall). i.call.new_count) is ∙ new_count;
    left_eq = λ none. absurd cc;
  }
