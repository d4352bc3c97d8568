-- The output of the reassembly, packet by packet, is the output of the parts.
use Rattle.std.proofs.lemmas.Bool.Decides.{nat_tests}
use Rattle.std.proofs.Common.{◌≡◌, ℕ, List, [], ◌∷◌, ◌++◌, length, take, Bool, true, false}
use Rattle.std.proofs.Common.{refl, sym, ap, ◌∙◌, subst, arith, append_assoc}
use Rattle.std.proofs.lemmas.List.{append-nil}
use Rattle.std.specs.Prelude.{◌&&◌, ◌||◌, not, nat_lt, if◌then◌else◌}
use Rattle.mpeg_ts.specs.CarriedPackets.{gap_marker_where}
use Rattle.mpeg_ts.specs.GoodPackets.{GoodPacket}
use Rattle.mpeg_ts.specs.Joining.{JoiningValue, after_good_packet, begun, found_in, gave_pes_packet}
use Rattle.mpeg_ts.specs.Joining.{last_output_after}
use Rattle.mpeg_ts.specs.Joining.{without_pending, has_ended, with_buffered_payload, is_complete}
use Rattle.mpeg_ts.specs.Joining.{with_remembered_packet}
use Rattle.mpeg_ts.specs.Joining.{settle_found, with_gap}
use Rattle.mpeg_ts.specs.Parts.{PartOutcome, Part, begins_part, gap_where, is_break, outcome}
use Rattle.mpeg_ts.specs.Parts.{part_bytes, single_packet_part}
use Rattle.mpeg_ts.specs.Parts.{payloads_up_to, with_packet}
use Rattle.mpeg_ts.specs.TransportPacket.{begins, payload}
use Rattle.mpeg_ts.specs.declared.joining.Given.{Given}
use Rattle.mpeg_ts.specs.declared.joining.Given.TheVariants as given
use Rattle.mpeg_ts.specs.declared.joining.Found.{Found}
use Rattle.mpeg_ts.specs.declared.joining.Found.TheVariants as found
use Rattle.mpeg_ts.specs.declared.joining.PartState.TheVariants.{WithoutStart, Open, Complete}
use Rattle.mpeg_ts.specs.declared.joining.PartState.TheVariants.{Ended}
use Rattle.mpeg_ts.proofs.OutcomeLemmas.{HavePayloads, HasWrongStartOrLength, following}
use Rattle.mpeg_ts.proofs.OutcomeLemmas.{boolean_cases}
use Rattle.mpeg_ts.proofs.OutcomeLemmas.{bytes-with}
use Rattle.mpeg_ts.proofs.OutcomeLemmas.{output}
use Rattle.mpeg_ts.proofs.OutcomeLemmas.{output-again, output-end, output-end_complete}
use Rattle.mpeg_ts.proofs.OutcomeLemmas.{output-excess}
use Rattle.mpeg_ts.proofs.OutcomeLemmas.{output-gap_where, output-other}
use Rattle.mpeg_ts.proofs.OutcomeLemmas.{output-leading_gap}
use Rattle.mpeg_ts.proofs.OutcomeLemmas.{found_other_is_faulty}
use Rattle.mpeg_ts.proofs.OutcomeLemmas.{late_fault_needs_short_start, outcome-headless}
use Rattle.mpeg_ts.proofs.OutcomeLemmas.{outcome-unfinished}
use Rattle.mpeg_ts.proofs.OutcomeLemmas.{gap_ends_packet_output, tail, tail-whole}
use Rattle.mpeg_ts.proofs.OutcomeLemmas.{payloads_up_to-last}
use Rattle.mpeg_ts.proofs.OutcomeLemmas.{found_packet_is_complete}

-- `joined_output` is the output of further good packets, after all pending items were returned. If
-- `wrong` is true, an unusable packet follows them.
abbrev pub joined_output : JoiningValue → Bool → List GoodPacket → List ℕ
joined_output v wrong [] = if has_ended v.part then [] else gap_marker_where
    (wrong && gave_pes_packet v.given)
joined_output v wrong (g ∷ more) =
    if has_ended v.part then []
    else
    (after_good_packet g.link v g.packet).pending
    ++ joined_output (without_pending (after_good_packet g.link v g.packet)) wrong more

pub joined_output-ended : (v : JoiningValue) (wrong : Bool) (goods : List GoodPacket)
    → has_ended v.part ≡ true
    → joined_output v wrong goods ≡ []
joined_output-ended v wrong [] e = rw e refl
joined_output-ended v wrong (g ∷ more) e = rw e refl

-- The output of good transport packets is the output of their parts, in each state of reassembly in
-- which no part has ended the stream.
pub record OutputOfGoods (wrong : Bool) (goods : List GoodPacket) : Type 0 where
  pub headless :
      (v : JoiningValue) (part : Part)
      → part.begins ≡ false
      → joined_output (record v { part = WithoutStart }) wrong goods ≡ output v.given
      (tail wrong part goods)
  pub opened :
      (v : JoiningValue) (part : Part)
      → part.begins ≡ true
      → found_in (part_bytes part) ≡ found.IncompletePesPacket
      → joined_output (record v { part = Open; bytes = part_bytes part }) wrong goods
      ≡ output v.given (tail wrong part goods)
  pub complete :
      (v : JoiningValue) (excess : Bool)
      → (excess ≡ true → gave_pes_packet v.given ≡ false)
      → joined_output (record v { part = Complete }) wrong goods
      ≡ output v.given (following excess wrong goods)

abbrev pub output_after_settling : Found → JoiningValue → Bool → List GoodPacket → List ℕ
output_after_settling f v wrong more =
    (settle_found f v).pending ++ joined_output (without_pending (settle_found f v)) wrong more

abbrev pub output_of_open_part : Bool → JoiningValue → List ℕ → Bool → List GoodPacket → List ℕ
output_of_open_part gap v bytes wrong more =
    output_after_settling (found_in bytes) (with_gap gap (record v { part = Open; bytes = bytes }))
    wrong
    more

excess_bytes_end_packet : (excess : Bool)
    → excess ≡ true
    → gave_pes_packet (if excess then given.GapMarker else given.Packet) ≡ false
excess_bytes_end_packet excess h1 = grind (arith, nat_tests)

excess_bytes_give_marker : (excess wrong : Bool) (more : List GoodPacket)
    → gap_marker_where excess
    ++ output (if excess then given.GapMarker else given.Packet) (following excess wrong more)
    ≡ output given.Packet (following excess wrong more)
excess_bytes_give_marker excess wrong more = grind (arith, nat_tests, output-excess)

settling_by_cases : (gap : Bool) (v : JoiningValue) (part : Part) (wrong : Bool)
    (more : List GoodPacket)
    → HavePayloads more
    → OutputOfGoods wrong more
    → part.begins ≡ true
    → (HasWrongStartOrLength (part_bytes part) → payloads_up_to 6 part.payloads ≡ part_bytes part)
    → (f : Found)
    → found_in (part_bytes part) ≡ f
    → output_after_settling f (with_gap gap (record v { part = Open; bytes = part_bytes part }))
    wrong more
    ≡ gap_marker_where (gap && gave_pes_packet v.given)
    ++ output (last_output_after gap v.given) (tail wrong part more)
settling_by_cases gap v part wrong more all joined_output_is_correct begins last
    found.IncompletePesPacket e =
    ap (λ l. gap_marker_where (gap && gave_pes_packet v.given) ++ l)
    (joined_output_is_correct.opened
    (without_pending (with_gap gap (record v { part = Open; bytes = part_bytes part }))) part begins
    e)
settling_by_cases gap v part wrong more all joined_output_is_correct begins last (found.Other f) e =
    let before = gap_marker_where (gap && gave_pes_packet v.given) in
    let bytes = part_bytes part in
    let state : JoiningValue = record (with_gap gap (record v { part = Open; bytes = bytes })) {
      part = Ended;
      pending = [];
    } in
    let o = found_other_is_faulty bytes f e in
    ap (λ l. (before ++ bytes) ++ l) (joined_output-ended state wrong more refl)
    ∙ append-nil (before ++ bytes)
    ∙ ap (λ l. before ++ l)
    (sym (output-other (last_output_after gap v.given) wrong part more begins o ∙ last o))
settling_by_cases gap v part wrong more all joined_output_is_correct begins last
    (found.CompletePesPacket size) e =
    let before = gap_marker_where (gap && gave_pes_packet v.given) in
    let bytes = part_bytes part in
    let prefix = take size bytes in
    let excess = nat_lt size (length bytes) in
    let after = if excess then given.GapMarker else given.Packet in
    let state : JoiningValue = record (with_gap gap (record v { part = Open; bytes = bytes })) {
      part = Complete;
      given = after;
      pending = [];
    } in
    let w = found_packet_is_complete bytes size e in
    let rest = output after (following excess wrong more) in
    ap (λ l. (before ++ (prefix ++ gap_marker_where excess)) ++ l)
    (joined_output_is_correct.complete state excess (excess_bytes_end_packet excess))
    ∙ append_assoc before (prefix ++ gap_marker_where excess) rest
    ∙ ap (λ l. before ++ l) (append_assoc prefix (gap_marker_where excess) rest
    ∙ ap (λ l. prefix ++ l) (excess_bytes_give_marker excess wrong more))
    ∙ ap (λ l. before ++ l)
    (sym (ap (output (last_output_after gap v.given))
    (tail-whole wrong part size more all begins w)))

settling_gives_outcome : (gap : Bool) (v : JoiningValue) (part : Part) (wrong : Bool)
    (more : List GoodPacket)
    → HavePayloads more
    → OutputOfGoods wrong more
    → part.begins ≡ true
    → (HasWrongStartOrLength (part_bytes part) → payloads_up_to 6 part.payloads ≡ part_bytes part)
    → output_of_open_part gap v (part_bytes part) wrong more
    ≡ gap_marker_where (gap && gave_pes_packet v.given)
    ++ output (last_output_after gap v.given) (tail wrong part more)
settling_gives_outcome gap v part wrong more h1 h2 h3 h4 = grind
    (arith, nat_tests, settling_by_cases)

payloads_up_to-one : (g : GoodPacket) → payloads_up_to 6 (single_packet_part g).payloads ≡
    part_bytes (single_packet_part g)
payloads_up_to-one g =
    payloads_up_to-last 6 [] (payload g.packet) (omega arith) ∙ sym (append-nil (payload g.packet))

new_part_by_cases : (wrong : Bool) (more : List GoodPacket) (v : JoiningValue) (g : GoodPacket)
    → HavePayloads more
    → OutputOfGoods wrong more
    → (b : Bool)
    → begins g.packet ≡ b
    → (begun (is_break g.link) b (with_remembered_packet v g.packet) (payload g.packet)).pending
    ++ joined_output (without_pending (begun (is_break g.link) b (with_remembered_packet v g.packet)
    (payload g.packet)))
    wrong more
    ≡ gap_marker_where ((is_break g.link || not (is_complete v.part)) && gave_pes_packet v.given)
    ++ output (last_output_after (is_break g.link || not (is_complete v.part)) v.given)
    (tail wrong (single_packet_part g) more)
new_part_by_cases wrong more v g all joined_output_is_correct true e =
    let gap = is_break g.link || not (is_complete v.part) in
    let p = payload g.packet in
    let state : JoiningValue = record (with_remembered_packet v g.packet) { bytes = []; last = p }
    in
    ap (λ b. output_of_open_part gap state b wrong more) (sym (append-nil p))
    ∙ settling_gives_outcome gap state (single_packet_part g) wrong more all
    joined_output_is_correct e (λ o. payloads_up_to-one g)
new_part_by_cases wrong more v g all joined_output_is_correct false e =
    let gap = is_break g.link || not (is_complete v.part) in
    let state : JoiningValue =
    with_buffered_payload gap (record (with_remembered_packet v g.packet) { part = WithoutStart })
    (payload g.packet) in
    ap (λ l. gap_marker_where (gap && gave_pes_packet v.given) ++ l)
    (joined_output_is_correct.headless (without_pending state) (single_packet_part g) e)

pub new_part_gives_outcome : (wrong : Bool) (more : List GoodPacket) (v : JoiningValue)
    (g : GoodPacket)
    → HavePayloads more
    → OutputOfGoods wrong more
    → (begun (is_break g.link) (begins g.packet) (with_remembered_packet v g.packet)
    (payload g.packet)).pending
    ++ joined_output (without_pending
    (begun (is_break g.link) (begins g.packet) (with_remembered_packet v g.packet)
    (payload g.packet))) wrong more
    ≡ gap_marker_where ((is_break g.link || not (is_complete v.part)) && gave_pes_packet v.given)
    ++ output (last_output_after (is_break g.link || not (is_complete v.part)) v.given)
    (tail wrong (single_packet_part g) more)
new_part_gives_outcome wrong more v g all joined_output_is_correct =
    new_part_by_cases wrong more v g all joined_output_is_correct (begins g.packet) refl

pub disjunction_with_true : (b : Bool) → (b || true) ≡ true
disjunction_with_true b = grind (arith, nat_tests)

disjunction_with_false : (b : Bool) → (b || false) ≡ b
disjunction_with_false b = grind (arith, nat_tests)

output-excess_fault_free : (g : Given) (excess : Bool) (rest : List PartOutcome)
    → (excess ≡ true → gave_pes_packet g ≡ false)
    → output g rest ≡ output g (gap_where excess ++ rest)
output-excess_fault_free g excess rest h1 = grind (arith, nat_tests, output-leading_gap)

new_part_after_incomplete : (wrong : Bool) (more : List GoodPacket) (part : Part) (h : Given)
    (g : GoodPacket)
    → outcome false part ≡ gap_where true
    → gap_marker_where ((is_break g.link || true) && gave_pes_packet h)
    ++ output (last_output_after (is_break g.link || true) h) (tail wrong (single_packet_part g)
    more)
    ≡ output h (outcome false part ++
    (gap_where (is_break g.link) ++ tail wrong (single_packet_part g) more))
new_part_after_incomplete wrong more part h g h1 = grind (
  arith,
  nat_tests,
  tail,
  output,
  disjunction_with_true,
  output-again,
)

-- If no payload is empty, the output of good packets is the output of their parts, in each state of
-- reassembly in which no part has ended the stream.
pub joined_output_is_correct : (wrong : Bool) (goods : List GoodPacket) → HavePayloads goods →
    OutputOfGoods wrong
    goods
joined_output_is_correct wrong [] all = record {
  headless = λ v part begins.
      output-end v.given wrong
      ∙ sym (ap (λ l. output v.given (l ++ gap_where wrong))
      (outcome-headless (not wrong) part begins));
  opened = λ v part begins e.
      output-end v.given wrong
      ∙ sym (ap (λ l. output v.given (l ++ gap_where wrong))
      (outcome-unfinished (not wrong) part begins e));
  complete = λ v excess none_given. output-end_complete v.given excess wrong none_given;
}
joined_output_is_correct wrong (g ∷ more) all =
    let rest = joined_output_is_correct wrong more all.1 in
    let p = payload g.packet in
    record {
      headless = λ v part begins.
          let state : JoiningValue = record v { part = WithoutStart } in
          boolean_cases (begins_part g)
          (λ yes. rw yes (
          new_part_gives_outcome wrong more state g all.1 rest
          ∙ new_part_after_incomplete wrong more part v.given g (outcome-headless false part
          begins)))
          (λ no. rw no (
          rest.headless (without_pending
          (with_buffered_payload false (with_remembered_packet state g.packet) p))
          (with_packet part g) begins));
      opened = λ v part begins e.
          let state : JoiningValue = record v { part = Open; bytes = part_bytes part } in
          let grow_part : JoiningValue = record (with_remembered_packet state g.packet) { last = p }
          in
          boolean_cases (begins_part g)
          (λ yes. rw yes (
          new_part_gives_outcome wrong more state g all.1 rest
          ∙ new_part_after_incomplete wrong more part v.given g (outcome-unfinished false part
          begins e)))
          (λ no. rw no (
          ap (λ b. output_of_open_part false grow_part b wrong more) (sym (bytes-with part g))
          ∙ settling_gives_outcome false grow_part (with_packet part g) wrong more all.1 rest begins
          (λ o. payloads_up_to-last 6 part.payloads p
          (late_fault_needs_short_start (part_bytes part) p e (subst HasWrongStartOrLength
          (bytes-with part g)
          o))
          ∙ sym (bytes-with part g))));
      complete = λ v excess none_given.
          let state : JoiningValue = record v { part = Complete } in
          let after = tail wrong (single_packet_part g) more in
          boolean_cases (begins_part g)
          (λ yes. rw yes (
          new_part_gives_outcome wrong more state g all.1 rest
          ∙ ap (λ b. gap_marker_where (b && gave_pes_packet v.given) ++ output
          (last_output_after b v.given) after)
          (disjunction_with_false (is_break g.link))
          ∙ sym (output-gap_where v.given (is_break g.link) after)
          ∙ output-excess_fault_free v.given excess (gap_where (is_break g.link) ++ after)
          none_given))
          (λ no. rw no (
          ap (λ l. gap_marker_where (gave_pes_packet v.given) ++ l)
          (rest.complete (without_pending
          (with_buffered_payload true (with_remembered_packet state g.packet) p)) true
          (λ _. gap_ends_packet_output v.given))
          ∙ sym (output-excess v.given wrong more)));
    }
