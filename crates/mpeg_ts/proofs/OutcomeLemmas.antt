-- The output of parts can be determined packet by packet.
use Rattle.std.proofs.Common.{◌≡◌, ℕ, ◌+◌, ◌-◌, ◌≤◌, ◌<◌, List, [], ◌∷◌, ◌++◌, length, take}
use Rattle.std.proofs.Common.{Bool, true, false, refl, ap, ◌∙◌, arith, append_assoc}
use Rattle.std.proofs.Common.{length-append, Result, Ok, Err}
use Rattle.std.proofs.lemmas.Bool.Decides.{nat_tests}
use Rattle.std.proofs.lemmas.List.{append-nil}
use Rattle.std.specs.Prelude.{◌&&◌, not, nat_lt, nat_le, if◌then◌else◌}
use Rattle.std.specs.List.{concat}
use lib.Seq.{take-append-le}
use Rattle.ttx_pes.specs.Reading.{size_at}
use Rattle.ttx_pes.specs.declared.fault.PesFault.{PesFault}
use Rattle.mpeg_ts.specs.CarriedPackets.{gap_marker, gap_marker_where, with_gap_markers}
use Rattle.mpeg_ts.specs.GoodPackets.{GoodPacket}
use Rattle.mpeg_ts.specs.Joining.{found_in, found_by_size, gave_pes_packet, last_output_after}
use Rattle.mpeg_ts.specs.Parts.{PartOutcome, Pes, Gap, Other, Part, begins_part, part_bytes}
use Rattle.mpeg_ts.specs.Parts.{gap_where, is_break, may_be_cut_off, outcome, outcome_of_size}
use Rattle.mpeg_ts.specs.Parts.{outcomes, single_packet_part, parts_from, payloads_up_to}
use Rattle.mpeg_ts.specs.Parts.{with_packet}
use Rattle.mpeg_ts.specs.TransportPacket.{payload}
use Rattle.mpeg_ts.specs.declared.joining.Given.{Given}
use Rattle.mpeg_ts.specs.declared.joining.Given.TheVariants as given
use Rattle.mpeg_ts.specs.declared.joining.Found.TheVariants as found

pub boolean_cases : {P : Type 0} (b : Bool) → (b ≡ true → P) → (b ≡ false → P) → P
boolean_cases b h1 h2 = grind (arith, nat_tests)

-- `output` gives the bytes for the outcomes that come after an item of the given kind: a PES
-- packet, a gap marker, or no item. A gap marker is output as soon as a gap is detected, but only
-- if the item before the gap is a PES packet.
abbrev pub output : Given → List PartOutcome → List ℕ
output g [] = []
output g (Gap ∷ more) = gap_marker_where (gave_pes_packet g) ++ output (last_output_after true g)
    more
output g (Pes bytes ∷ more) = bytes ++ output given.Packet more
output g (Other bytes ∷ more) = bytes

gap_markers_match_output : (all : List PartOutcome)
    → (with_gap_markers true false all ≡ output given.Packet all)
    × (with_gap_markers true true all ≡ gap_marker ++ output given.GapMarker all)
unfolding with_gap_markers
gap_markers_match_output [] = grind (arith, nat_tests, append-nil)
gap_markers_match_output (Gap ∷ more) = grind (arith, nat_tests, (gap_markers_match_output more))
gap_markers_match_output (Pes b ∷ more) = grind (arith, nat_tests, (gap_markers_match_output more))
gap_markers_match_output (Other b ∷ more) = grind (arith, nat_tests)

pub with_gap_markers-nothing : (gap : Bool) (all : List PartOutcome)
    → with_gap_markers false gap all ≡ output given.Nothing all
unfolding with_gap_markers
with_gap_markers-nothing gap [] = refl
with_gap_markers-nothing gap (Gap ∷ more) = with_gap_markers-nothing true more
with_gap_markers-nothing gap (Pes b ∷ more) = ap (λ l. b ++ l) (gap_markers_match_output more).0
with_gap_markers-nothing gap (Other b ∷ more) = refl

pub gap_ends_packet_output : (g : Given) → gave_pes_packet (last_output_after true g) ≡ false
gap_ends_packet_output g = grind (arith, nat_tests)

pub output-leading_gap : (g : Given) (more : List PartOutcome)
    → gave_pes_packet g ≡ false
    → output g (Gap ∷ more) ≡ output g more
output-leading_gap g more h1 = grind (arith, nat_tests)

pub output-again : (g : Given) (b : Bool) (more : List PartOutcome)
    → output (last_output_after true g) (gap_where b ++ more) ≡ output (last_output_after true g)
    more
output-again g b more = grind
    (arith, nat_tests, output-leading_gap, gap_ends_packet_output)

pub output-gap_where : (g : Given) (b : Bool) (more : List PartOutcome)
    → output g (gap_where b ++ more)
    ≡ gap_marker_where (b && gave_pes_packet g) ++ output (last_output_after b g) more
output-gap_where g b more = grind (arith, nat_tests)

pub output-end : (g : Given) (wrong : Bool)
    → gap_marker_where (wrong && gave_pes_packet g)
    ≡ output g (gap_where (not (not wrong)) ++ gap_where wrong)
output-end g wrong = grind (arith, nat_tests, append-nil)

pub output-end_complete : (g : Given) (excess wrong : Bool)
    → (excess ≡ true → gave_pes_packet g ≡ false)
    → gap_marker_where (wrong && gave_pes_packet g) ≡ output g (gap_where excess ++ gap_where wrong)
output-end_complete g excess wrong h1 = grind (arith, nat_tests, append-nil)

-- `tail` gives the outcomes of the current part and of the good packets that follow, without a gap
-- before the part.
abbrev pub tail : Bool → Part → List GoodPacket → List PartOutcome
tail wrong part [] = outcome (not wrong) part ++ gap_where wrong
tail wrong part (g ∷ more) =
    if begins_part g then
    outcome false part ++ (gap_where (is_break g.link) ++ tail wrong (single_packet_part g)
    more)
    else tail wrong (with_packet part g) more

-- `following` gives the outcomes after the PES packet of a complete part. If `excess` is true, more
-- bytes follow the PES packet in the part.
abbrev pub following : Bool → Bool → List GoodPacket → List PartOutcome
following excess wrong [] = gap_where excess ++ gap_where wrong
following excess wrong (g ∷ more) =
    if begins_part g then
    gap_where excess ++ (gap_where (is_break g.link) ++ tail wrong (single_packet_part g) more)
    else following true wrong more

unfinished_parts_are_not_cut : (wrong : Bool) (part : Part) (goods : List GoodPacket)
    → may_be_cut_off wrong (parts_from part goods) ≡ false
unfolding parts_from
unfinished_parts_are_not_cut wrong part [] = grind (arith, nat_tests)
unfinished_parts_are_not_cut wrong part (g ∷ more) =
    grind (
      arith,
      nat_tests,
      boolean_cases,
      (unfinished_parts_are_not_cut wrong (with_packet part g)
          more),
    )

pub outcomes-from : (wrong : Bool) (part : Part) (goods : List GoodPacket)
    → outcomes wrong (parts_from part goods)
    ≡ gap_where part.after_break ++ tail wrong part goods
unfolding parts_from outcomes
outcomes-from wrong part [] = refl
outcomes-from wrong part (g ∷ more) =
    boolean_cases (begins_part g)
    (λ yes. rw yes (
    ap (λ c. gap_where part.after_break
    ++ (outcome c part ++ outcomes wrong (parts_from (single_packet_part g) more)))
    (unfinished_parts_are_not_cut wrong (single_packet_part g) more)
    ∙ ap (λ l. gap_where part.after_break ++ (outcome false part ++ l))
    (outcomes-from wrong (single_packet_part g) more)))
    (λ no. rw no (outcomes-from wrong (with_packet part g) more))

concat-following : (ps : List (List ℕ)) (x : List ℕ) → concat (ps ++ x ∷ []) ≡ concat ps ++ x
concat-following [] x = grind (arith, nat_tests, append-nil)
concat-following (f ∷ ps) x = grind (arith, nat_tests, append_assoc, (concat-following ps x))

pub bytes-with : (part : Part) (g : GoodPacket)
    → part_bytes (with_packet part g) ≡ part_bytes part ++ payload g.packet
bytes-with part g = concat-following part.payloads (payload g.packet)

payloads_up_to-reached : (c : ℕ) (ps : List (List ℕ)) (x : List ℕ)
    → 0 < c
    → c ≤ length (concat ps)
    → payloads_up_to c (ps ++ x ∷ []) ≡ payloads_up_to c ps
unfolding payloads_up_to
payloads_up_to-reached c [] x some le = absurd (omega arith)
payloads_up_to-reached c (f ∷ ps) x some le =
    boolean_cases (nat_le c (length f)) (λ yes. rw yes refl)
    (λ no. let lt : length f < c = grind (arith, nat_tests) in
    rw no (ap (λ l. f ++ l)
    (payloads_up_to-reached (c - length f) ps x (omega arith)
    (omega (arith, length-append f (concat ps))))))

pub payloads_up_to-last : (c : ℕ) (ps : List (List ℕ)) (x : List ℕ)
    → length (concat ps) < c
    → payloads_up_to c (ps ++ x ∷ []) ≡ concat ps ++ x
unfolding payloads_up_to
payloads_up_to-last c [] x lt = grind (arith, nat_tests, boolean_cases, append-nil)
payloads_up_to-last c (f ∷ ps) x lt =
    grind (
      arith,
      nat_tests,
      length-append,
      append_assoc,
      (payloads_up_to-last (c - length f) ps x (omega (arith, length-append f (concat ps)))),
    )

found-whole : (n size : ℕ) (r : Result ℕ PesFault)
    → found_by_size n r ≡ found.CompletePesPacket size
    → (r ≡ Ok size) × (size ≤ n)
found-whole n size r h1 = grind (arith, nat_tests, boolean_cases)

pub found-other : (n : ℕ) (r : Result ℕ PesFault) (f : PesFault)
    → found_by_size n r ≡ found.Other f
    → r ≡ Err f
found-other n r f h1 = grind (arith, nat_tests, boolean_cases)

-- The bytes begin with a complete PES packet of this size.
pub record IsCompletePacket (bytes : List ℕ) (size : ℕ) : Type 0 where
  pub has_six_bytes : 6 ≤ length bytes
  pub header_states_size : size_at (take 6 bytes) ≡ Ok size
  pub within : size ≤ length bytes

-- The first six bytes have a wrong start code or length.
pub record HasWrongStartOrLength (bytes : List ℕ) : Type 0 where
  pub has_six_bytes : 6 ≤ length bytes
  pub fault : PesFault
  pub refused : size_at (take 6 bytes) ≡ Err fault

pub found_packet_is_complete : (bytes : List ℕ) (size : ℕ)
    → found_in bytes ≡ found.CompletePesPacket size
    → IsCompletePacket bytes size
unfolding found_in
found_packet_is_complete bytes size h1 = grind (arith, nat_tests, boolean_cases, found-whole)

pub found_other_is_faulty : (bytes : List ℕ) (f : PesFault) → found_in bytes ≡ found.Other f →
    HasWrongStartOrLength bytes
unfolding found_in
found_other_is_faulty bytes f h1 = grind (arith, nat_tests, boolean_cases, found-other)

pub outcome-headless : (cut : Bool) (part : Part)
    → part.begins ≡ false
    → outcome cut part ≡ gap_where (not cut)
unfolding outcome
outcome-headless cut part headless = rw headless refl

outcome-of_unfinished : (cut : Bool) (part : Part) (r : Result ℕ PesFault)
    → found_by_size (length (part_bytes part)) r ≡ found.IncompletePesPacket
    → outcome_of_size cut part r ≡ gap_where (not cut)
outcome-of_unfinished cut part r h1 = grind (arith, nat_tests, boolean_cases)

pub outcome-unfinished : (cut : Bool) (part : Part)
    → part.begins ≡ true
    → found_in (part_bytes part) ≡ found.IncompletePesPacket
    → outcome cut part ≡ gap_where (not cut)
unfolding outcome found_in
outcome-unfinished cut part h1 h2 = grind (arith, nat_tests, boolean_cases, outcome-of_unfinished)

outcome-whole : (cut : Bool) (part : Part) (size : ℕ)
    → part.begins ≡ true
    → IsCompletePacket (part_bytes part) size
    → outcome cut part
    ≡ Pes (take size (part_bytes part)) ∷ gap_where (nat_lt size (length (part_bytes part)))
unfolding outcome
outcome-whole cut part size h1 h2 = grind (arith, nat_tests)

outcome-other : (cut : Bool) (part : Part)
    → part.begins ≡ true
    → HasWrongStartOrLength (part_bytes part)
    → outcome cut part ≡ Other (payloads_up_to 6 part.payloads) ∷ []
unfolding outcome
outcome-other cut part h1 h2 = grind (arith, nat_tests)

abbrev pub HavePayloads : List GoodPacket → Type 0
HavePayloads [] = Unit {0}
HavePayloads (g ∷ more) = (0 < length (payload g.packet)) × HavePayloads more

equal_headers_give_equal_size : (bytes more all : List ℕ)
    → all ≡ bytes ++ more
    → 6 ≤ length bytes
    → size_at (take 6 all) ≡ size_at (take 6 bytes)
equal_headers_give_equal_size bytes more all h1 h2 = grind (arith, nat_tests)

-- The first outcome of a complete part is its PES packet, whatever packets with payload follow.
pub tail-whole : (wrong : Bool) (part : Part) (size : ℕ) (goods : List GoodPacket)
    → HavePayloads goods
    → part.begins ≡ true
    → IsCompletePacket (part_bytes part) size
    → tail wrong part goods
    ≡ Pes (take size (part_bytes part))
    ∷ following (nat_lt size (length (part_bytes part))) wrong goods
tail-whole wrong part size [] all begins w =
    ap (λ l. l ++ gap_where wrong) (outcome-whole (not wrong) part size begins w)
tail-whole wrong part size (g ∷ more) all begins w =
    let bytes = part_bytes part in
    let p = payload g.packet in
    let grow_part = part_bytes (with_packet part g) in
    let same : grow_part ≡ bytes ++ p = bytes-with part g in
    let long : length grow_part ≡ length bytes + length p = ap length same ∙ length-append bytes p
    in
    let w2 : IsCompletePacket grow_part size = record {
      has_six_bytes = omega (arith, long, w.has_six_bytes);
      header_states_size = equal_headers_give_equal_size bytes p grow_part same w.has_six_bytes ∙
          w.header_states_size;
      within = omega (arith, long, w.within);
    } in
    let prefix : take size grow_part ≡ take size bytes =
    ap (take size) same ∙ take-append-le size bytes p w.within in
    let excess : nat_lt size (length grow_part) ≡ true =
    less_than_test_is_true size (length grow_part) (omega (arith, long, w.within, all.0)) in
    boolean_cases (begins_part g)
    (λ yes. rw yes (
    ap (λ l. l ++ (gap_where (is_break g.link) ++ tail wrong (single_packet_part g) more))
    (outcome-whole false part size begins w)))
    (λ no. rw no (
    tail-whole wrong (with_packet part g) size more all.1 begins w2
    ∙ ap (λ l. Pes l ∷ following (nat_lt size (length grow_part)) wrong more) prefix
    ∙ ap (λ b. Pes (take size bytes) ∷ following b wrong more) excess))
  where
    less_than_test_is_true : (m n : ℕ) → m < n → nat_lt m n ≡ true
    less_than_test_is_true m n lt = grind (arith, nat_tests)

-- If a part begins with a wrong start code or length, its output is its first payloads, up to the
-- payload with which they have at least six bytes, whatever packets follow.
pub output-other : (g : Given) (wrong : Bool) (part : Part) (goods : List GoodPacket)
    → part.begins ≡ true
    → HasWrongStartOrLength (part_bytes part)
    → output g (tail wrong part goods) ≡ payloads_up_to 6 part.payloads
output-other h wrong part [] begins o =
    ap (λ l. output h (l ++ gap_where wrong)) (outcome-other (not wrong) part begins o)
output-other h wrong part (g ∷ more) begins o =
    let bytes = part_bytes part in
    let p = payload g.packet in
    let grow_part = part_bytes (with_packet part g) in
    let same : grow_part ≡ bytes ++ p = bytes-with part g in
    let long : length grow_part ≡ length bytes + length p = ap length same ∙ length-append bytes p
    in
    let o2 : HasWrongStartOrLength grow_part = record {
      has_six_bytes = omega (arith, long, o.has_six_bytes);
      fault = o.fault;
      refused = equal_headers_give_equal_size bytes p grow_part same o.has_six_bytes ∙ o.refused;
    } in
    boolean_cases (begins_part g)
    (λ yes. rw yes (
    ap (λ l. output h (l ++ (gap_where (is_break g.link) ++ tail wrong (single_packet_part g)
    more)))
    (outcome-other false part begins o)))
    (λ no. rw no (
    output-other h wrong (with_packet part g) more begins o2
    ∙ payloads_up_to-reached 6 part.payloads p (omega arith) o.has_six_bytes))

pub output-excess : (g : Given) (wrong : Bool) (goods : List GoodPacket)
    → output g (following true wrong goods)
    ≡ gap_marker_where (gave_pes_packet g) ++ output (last_output_after true g)
    (following true wrong goods)
output-excess h wrong [] = grind
    (arith, nat_tests, output-leading_gap, gap_ends_packet_output)
output-excess h wrong (g ∷ more) =
    grind (
      arith,
      nat_tests,
      boolean_cases,
      output-leading_gap,
      gap_ends_packet_output,
      (output-excess h wrong more),
    )

-- If a part was an incomplete PES packet and one more payload shows a wrong start code or length,
-- the part had fewer than six bytes before that payload.
pub late_fault_needs_short_start : (bytes more : List ℕ)
    → found_in bytes ≡ found.IncompletePesPacket
    → HasWrongStartOrLength (bytes ++ more)
    → length bytes < 6
unfolding found_in
late_fault_needs_short_start bytes more h1 h2 = grind (
  arith,
  nat_tests,
  boolean_cases,
  equal_headers_give_equal_size,
)
