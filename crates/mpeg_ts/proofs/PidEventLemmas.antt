-- The output of the events of a PID is the output of the good packets among them.
use Rattle.std.proofs.lemmas.Bool.Decides.{nat_tests}
use Rattle.std.proofs.Common.{◌≡◌, ℕ, ◌<◌, List, [], ◌∷◌, ◌++◌, length, Bool, true, false}
use Rattle.std.proofs.Common.{Option, Some, None, refl, sym, ap, ◌∙◌, subst, arith, append_assoc}
use Rattle.std.proofs.lemmas.List.{append-nil, get_or-take}
use Rattle.std.specs.Prelude.{◌&&◌, ◌||◌, not, if◌then◌else◌, bytes_eq}
use Rattle.mpeg_ts.specs.CarriedPackets.{gap_marker, gap_marker_where}
use Rattle.mpeg_ts.specs.GoodPackets.{GoodPacket, GoodPackets, PacketLink, First, Follows, Seam}
use Rattle.mpeg_ts.specs.GoodPackets.{Break}
use Rattle.mpeg_ts.specs.GoodPackets.{PidEvent}
use Rattle.mpeg_ts.specs.GoodPackets.{Valid, Wrong, Loss, PacketHistory, good_packets_after}
use Rattle.mpeg_ts.specs.GoodPackets.{counter_is_next}
use Rattle.mpeg_ts.specs.GoodPackets.{is_repeat}
use Rattle.mpeg_ts.specs.GoodPackets.{is_repeat_of, link_from, linked_packet, empty_history}
use Rattle.mpeg_ts.specs.GoodPackets.{with_good_packet}
use Rattle.mpeg_ts.specs.Joining.{JoiningValue, after_good_packet, after_pid_event}
use Rattle.mpeg_ts.specs.Joining.{after_valid_packet, begun}
use Rattle.mpeg_ts.specs.Joining.{found_in}
use Rattle.mpeg_ts.specs.Joining.{counter_continues, gave_pes_packet, last_output_after}
use Rattle.mpeg_ts.specs.Joining.{later_output}
use Rattle.mpeg_ts.specs.Joining.{continue_part}
use Rattle.mpeg_ts.specs.Joining.{grow_part, without_pending, has_ended, link_after}
use Rattle.mpeg_ts.specs.Joining.{with_remembered_packet, repeats, settle_found}
use Rattle.mpeg_ts.specs.Parts.{is_unlinked}
use Rattle.mpeg_ts.specs.TransportPacket.{announces_jump, begins, has_payload}
use Rattle.mpeg_ts.specs.TransportPacket.{packet_header}
use Rattle.mpeg_ts.specs.TransportPacket.{payload}
use Rattle.mpeg_ts.specs.declared.joining.Given.{Given}
use Rattle.mpeg_ts.specs.declared.joining.Given.TheVariants as given
use Rattle.mpeg_ts.specs.declared.joining.Found.{Found}
use Rattle.mpeg_ts.specs.declared.joining.PartState.{PartState}
use Rattle.mpeg_ts.specs.declared.joining.PartState.TheVariants.{Open}
use Rattle.mpeg_ts.proofs.JoinedPacketLemmas.{joined_output, joined_output-ended}
use Rattle.mpeg_ts.proofs.JoinedPacketLemmas.{disjunction_with_true}
use Rattle.mpeg_ts.proofs.OutcomeLemmas.{HavePayloads, boolean_cases, gap_ends_packet_output}

-- The state of reassembly stores the transport packet p as the last good packet.
pub record IsLastHeader (v : JoiningValue) (p : List ℕ) : Type 0 where
  pub head : v.header ≡ packet_header p
  pub last_payload_matches : v.last ≡ payload p
  pub jump : v.announced ≡ announces_jump p

-- The state of reassembly stores p as the last good packet, and no event came after p.
pub record IsFresh (v : JoiningValue) (p : List ℕ) : Type 0 where
  pub is_last_packet : IsLastHeader v p
  pub repeat_is_cleared : v.has_repeat ≡ false
  pub jump_is_cleared : v.has_jump ≡ false
  pub break_is_cleared : v.has_break ≡ false

settling_keeps_fresh : (f : Found) (v : JoiningValue) (p : List ℕ)
    → IsFresh v p
    → IsFresh (settle_found f v) p
settling_keeps_fresh f v p h1 = grind (arith, nat_tests)

growing_keeps_fresh : (gap : Bool) (v : JoiningValue) (bytes p : List ℕ)
    → IsFresh (grow_part gap (record (with_remembered_packet v p) { bytes = bytes }) (payload p)) p
growing_keeps_fresh gap v bytes p = grind (arith, nat_tests, settling_keeps_fresh)

starting_keeps_fresh : (breaks b : Bool) (v : JoiningValue) (p : List ℕ)
    → IsFresh (begun breaks b (with_remembered_packet v p) (payload p)) p
starting_keeps_fresh breaks b v p = grind (arith, nat_tests, growing_keeps_fresh)

continuing_keeps_fresh : (part : PartState) (v : JoiningValue) (p : List ℕ)
    → IsFresh (continue_part part (with_remembered_packet v p) (payload p)) p
continuing_keeps_fresh part v p = grind (arith, nat_tests, growing_keeps_fresh)

good_packet_is_fresh : (link : PacketLink) (v : JoiningValue) (p : List ℕ) → IsFresh
    (after_good_packet link v p) p
good_packet_is_fresh link v p = grind
    (arith, nat_tests, starting_keeps_fresh, continuing_keeps_fresh)

-- The state of reassembly stores the last good packet, whose payload is not empty. If there is no
-- good packet (`None`), the stored payload is empty.
abbrev pub RemembersLast : JoiningValue → Option (List ℕ) → Type 0
RemembersLast v None = v.last ≡ []
RemembersLast v (Some q) = IsLastHeader v q × (0 < length (payload q))

-- The state of reassembly agrees with the history of events since the last good packet. After an
-- unusable packet, or if there is no good packet, the item that became pending last is not a PES
-- packet.
pub record RemembersHistory (v : JoiningValue) (s : PacketHistory) : Type 0 where
  pub repeat : v.has_repeat ≡ s.has_repeat
  pub jump : v.has_jump ≡ s.has_jump
  pub lost : v.has_break ≡ (s.has_unusable_packet || s.has_loss)
  pub no_pes_packet_after_unusable : s.has_unusable_packet ≡ true → gave_pes_packet v.given ≡ false
  pub none : s.good ≡ None → gave_pes_packet v.given ≡ false
  pub last : RemembersLast v s.good

conjunction_order : (a b c d e : Bool)
    → (not a && (not b && (c && (d && e)))) ≡ ((d && e) && not a && not b && c)
conjunction_order a b c d e = grind (arith, nat_tests)

conjunction_with_false : (a b c d : Bool) → (not a && (not b && (c && (d && false)))) ≡ false
conjunction_with_false a b c d = grind (arith, nat_tests)

empty_differs_from_nonempty : (xs : List ℕ) → 0 < length xs → bytes_eq [] xs ≡ false
empty_differs_from_nonempty xs h1 = grind (arith, nat_tests)

repeat_test_is_correct : (v : JoiningValue) (s : PacketHistory) (o : Option (List ℕ)) (p : List ℕ)
    → RemembersLast v o
    → v.has_repeat ≡ s.has_repeat
    → v.has_jump ≡ s.has_jump
    → 0 < length (payload p)
    → repeats v p ≡ is_repeat_of o s p
repeat_test_is_correct v s o p h1 h2 h3 h4 = grind (
  arith,
  nat_tests,
  empty_differs_from_nonempty,
  conjunction_with_false,
  conjunction_order,
)

abbrev pub link_by_flags : Bool → Bool → Bool → PacketLink
link_by_flags lost jumps follows =
    if lost then Break else if jumps then Seam else if follows then Follows else Break

link_of_nonempty_last : (v : JoiningValue) (l p : List ℕ)
    → 0 < length l
    → link_after v l p
    ≡ link_by_flags v.has_break (v.has_jump || announces_jump p) (counter_continues v.header p)
link_of_nonempty_last v l p h1 = grind (arith, nat_tests)

counter_test_is_correct : (v : JoiningValue) (q p : List ℕ)
    → v.header ≡ packet_header q
    → counter_continues v.header p ≡ counter_is_next q p
counter_test_is_correct v q p h1 = grind (arith, nat_tests, get_or-take)

-- If the state of reassembly agrees with the last good packet and with the events since then, both
-- give the same link for the next good packet p.
remembered_link_is_correct : (v : JoiningValue) (s : PacketHistory) (o : Option (List ℕ))
    (p : List ℕ)
    → RemembersLast v o
    → v.has_jump ≡ s.has_jump
    → v.has_break ≡ (s.has_unusable_packet || s.has_loss)
    → link_after v v.last p ≡ link_from o s p
remembered_link_is_correct v s o p h1 h2 h3 = grind (
  arith,
  nat_tests,
  link_of_nonempty_last,
  counter_test_is_correct,
)

-- If a usable transport packet among the events has a payload, the payload is not empty.
abbrev pub AreSound : List PidEvent → Type 0
AreSound [] = Unit {0}
AreSound (Valid p ∷ more) = (has_payload p ≡ true → 0 < length (payload p)) × AreSound more
AreSound (Wrong ∷ more) = AreSound more
AreSound (Loss ∷ more) = AreSound more

good-no_payload : (s : PacketHistory) (p : List ℕ) (more : List PidEvent)
    → has_payload p ≡ false
    → good_packets_after s (Valid p ∷ more)
    ≡ good_packets_after (record s { has_jump = s.has_jump || announces_jump p }) more
unfolding good_packets_after
good-no_payload s p more none = rw none refl

good-repeat : (s : PacketHistory) (p : List ℕ) (more : List PidEvent)
    → has_payload p ≡ true
    → is_repeat s p ≡ true
    → good_packets_after s (Valid p ∷ more) ≡ good_packets_after (record s { has_repeat = true })
    more
unfolding good_packets_after
good-repeat s p more some again = rw (some, again) refl

good-good : (s : PacketHistory) (p : List ℕ) (more : List PidEvent)
    → has_payload p ≡ true
    → is_repeat s p ≡ false
    → good_packets_after s (Valid p ∷ more)
    ≡ with_good_packet (linked_packet s p) (good_packets_after (empty_history (Some p)) more)
unfolding good_packets_after
good-good s p more some other = rw (some, other) refl

valid-no_payload : (v : JoiningValue) (p : List ℕ)
    → has_payload p ≡ false
    → after_valid_packet v p ≡ record v { has_jump = v.has_jump || announces_jump p }
unfolding after_valid_packet
valid-no_payload v p none = rw none refl

valid-repeat : (v : JoiningValue) (p : List ℕ)
    → has_payload p ≡ true
    → repeats v p ≡ true
    → after_valid_packet v p ≡ record v { has_repeat = true }
unfolding after_valid_packet
valid-repeat v p some again = rw (some, again) refl

valid-good : (v : JoiningValue) (p : List ℕ)
    → has_payload p ≡ true
    → repeats v p ≡ false
    → after_valid_packet v p ≡ after_good_packet (link_after v v.last p) v p
unfolding after_valid_packet
valid-good v p some other = rw (some, other) refl

event_changes_output : (v : JoiningValue) (n : PidEvent) (more : List PidEvent) (all : List ℕ)
    → (has_ended v.part ≡ true → [] ≡ all)
    → (has_ended v.part ≡ false
    → (after_pid_event (without_pending v) n).pending
    ++ later_output (without_pending (after_pid_event (without_pending v) n)) more
    ≡ all)
    → later_output (without_pending v) (n ∷ more) ≡ all
unfolding later_output
event_changes_output v n more all h1 h2 = grind (arith, nat_tests)

joined_output-flags : (v : JoiningValue) (a b c wrong : Bool) (goods : List GoodPacket)
    → joined_output (without_pending (record v { has_repeat = a; has_jump = b; has_break = c }))
    wrong goods
    ≡ joined_output (without_pending v) wrong goods
joined_output-flags v a b c wrong [] = refl
joined_output-flags v a b c wrong (g ∷ more) = refl

last_event_ends_output : (ended wrong given : Bool)
    → (wrong ≡ true → given ≡ false)
    → ◌≡◌ {A = List ℕ} [] (if ended then [] else gap_marker_where (wrong && given))
last_event_ends_output ended wrong given h1 = grind (arith, nat_tests)

-- Data was lost before the first of these good packets; if the list is empty, an unusable packet
-- follows.
abbrev pub StartAfterBreak : Bool → List GoodPacket → Type 0
StartAfterBreak wrong [] = wrong ≡ true
StartAfterBreak wrong (g ∷ more) = g.link ≡ Break

-- If an unusable packet comes after a good packet, the link of the next good packet is a break; if
-- there is no next one, an unusable packet follows the last good packet.
wrong_packet_breaks_next : (s : PacketHistory) (q : List ℕ) (all : List PidEvent)
    → s.has_unusable_packet ≡ true
    → s.good ≡ Some q
    → StartAfterBreak (good_packets_after s all).wrong_after (good_packets_after s all).packets
unfolding good_packets_after
wrong_packet_breaks_next s q [] wrong good = grind (arith, nat_tests)
wrong_packet_breaks_next s q (Wrong ∷ more) wrong good =
    grind (
      arith,
      nat_tests,
      (wrong_packet_breaks_next (record s { has_unusable_packet = true }) q
          more refl good),
    )
wrong_packet_breaks_next s q (Loss ∷ more) wrong good =
    grind (
      arith,
      nat_tests,
      (wrong_packet_breaks_next (record s { has_loss = true }) q more wrong
          good),
    )
wrong_packet_breaks_next s q (Valid p ∷ more) wrong good =
    grind (
      arith,
      nat_tests,
      good-repeat,
      good-good,
      good-no_payload,
      (wrong_packet_breaks_next (record s { has_repeat = true }) q more wrong good),
      (wrong_packet_breaks_next (record s { has_jump = s.has_jump || announces_jump p }) q more
          wrong good),
    )

pending_marker_is_output_first : (f : Found) (v : JoiningValue) (wrong : Bool)
    (more : List GoodPacket)
    → (settle_found f (record v { pending = gap_marker })).pending
    ++ joined_output (without_pending (settle_found f (record v { pending = gap_marker }))) wrong
    more
    ≡ gap_marker ++ ((settle_found f (record v { pending = [] })).pending
    ++ joined_output (without_pending (settle_found f (record v { pending = [] }))) wrong more)
pending_marker_is_output_first f v wrong more = grind (
  arith,
  nat_tests,
  append_assoc,
  joined_output,
)

new_part_marker_comes_first : (b : Bool) (v : JoiningValue) (p : List ℕ) (wrong : Bool)
    (more : List GoodPacket)
    → (begun true b (with_remembered_packet (without_pending (record v { given = given.Packet })) p)
    (payload p)).pending
    ++ joined_output (without_pending (begun true b
    (with_remembered_packet (without_pending (record v { given = given.Packet })) p) (payload p)))
    wrong more
    ≡ gap_marker ++ ((begun true b
    (with_remembered_packet
    (without_pending (record v { has_break = true; given = given.GapMarker })) p)
    (payload p)).pending
    ++ joined_output (without_pending (begun true b
    (with_remembered_packet
    (without_pending (record v { has_break = true; given = given.GapMarker })) p)
    (payload p))) wrong more)
new_part_marker_comes_first true v p wrong more =
    pending_marker_is_output_first (found_in (payload p))
    (record (with_remembered_packet v p) {
      part = Open;
      bytes = payload p;
      last = payload p;
      given = given.GapMarker;
    }) wrong more
new_part_marker_comes_first false v p wrong more = refl

break_marker_is_output_first : (v : JoiningValue) (link : PacketLink) (p : List ℕ) (wrong : Bool)
    (more : List GoodPacket)
    → link ≡ Break
    → (after_good_packet link (without_pending (record v { given = given.Packet })) p).pending
    ++ joined_output (without_pending
    (after_good_packet link (without_pending (record v { given = given.Packet })) p))
    wrong more
    ≡ gap_marker ++ ((after_good_packet link
    (without_pending (record v { has_break = true; given = given.GapMarker })) p).pending
    ++ joined_output (without_pending (after_good_packet link
    (without_pending (record v { has_break = true; given = given.GapMarker })) p)) wrong more)
break_marker_is_output_first v First p wrong more is = absurd cc
break_marker_is_output_first v Follows p wrong more is = absurd cc
break_marker_is_output_first v Seam p wrong more is = absurd cc
break_marker_is_output_first v Break p wrong more is =
    let cut : (begins p || true) ≡ true = disjunction_with_true (begins p) in
    rw cut (new_part_marker_comes_first (begins p) v p wrong more)

-- If the part has not ended the stream, a PES packet became pending last, and data was lost since
-- then, the output of further good packets begins with a gap marker.
gap_marker_is_output_first : (v : JoiningValue) (g : Given) (wrong : Bool) (goods : List GoodPacket)
    → has_ended v.part ≡ false
    → (gave_pes_packet g ≡ true → StartAfterBreak wrong goods)
    → joined_output (without_pending (record v { given = g })) wrong goods
    ≡ gap_marker_where (gave_pes_packet g)
    ++ joined_output (without_pending
    (record v { has_break = true; given = last_output_after true g })) wrong
    goods
gap_marker_is_output_first v given.Nothing wrong goods part_is_open broken =
    sym (joined_output-flags (record v { given = given.Nothing }) v.has_repeat v.has_jump true wrong
    goods)
gap_marker_is_output_first v given.GapMarker wrong goods part_is_open broken =
    sym (joined_output-flags (record v { given = given.GapMarker }) v.has_repeat v.has_jump true
    wrong
    goods)
gap_marker_is_output_first v given.Packet wrong [] part_is_open broken =
    let yes_wrong : wrong ≡ true = broken refl in
    rw (part_is_open, yes_wrong) (sym (append-nil gap_marker))
gap_marker_is_output_first v given.Packet wrong (g ∷ more) part_is_open broken =
    rw part_is_open (break_marker_is_output_first v g.link g.packet wrong more (broken refl))

no_marker_after_unusable : (v : JoiningValue) (s : PacketHistory) (o : Option (List ℕ))
    (all : List PidEvent)
    → s.good ≡ o
    → (s.good ≡ None → gave_pes_packet v.given ≡ false)
    → gave_pes_packet v.given ≡ true
    → StartAfterBreak (good_packets_after (record s { has_unusable_packet = true })
    all).wrong_after
    (good_packets_after (record s { has_unusable_packet = true }) all).packets
no_marker_after_unusable v s o all h1 h2 h3 = grind (arith, nat_tests, wrong_packet_breaks_next)

abbrev pub OutputAgrees : JoiningValue → PacketHistory → List PidEvent → Type 0
OutputAgrees v s all =
    later_output (without_pending v) all
    ≡ joined_output (without_pending v) (good_packets_after s all).wrong_after
    (good_packets_after s all).packets

output_ignores_empty_packet : (v : JoiningValue) (s : PacketHistory) (p : List ℕ)
    (more : List PidEvent)
    → has_payload p ≡ false
    → OutputAgrees (record v { has_jump = v.has_jump || announces_jump p })
    (record s { has_jump = s.has_jump || announces_jump p }) more
    → OutputAgrees v s (Valid p ∷ more)
output_ignores_empty_packet v s p more none rest =
    let goods = good_packets_after s (Valid p ∷ more) in
    let after = good_packets_after (record s { has_jump = s.has_jump || announces_jump p }) more in
    event_changes_output v (Valid p) more (joined_output (without_pending v) goods.wrong_after
    goods.packets)
    (λ yes. sym (joined_output-ended (without_pending v) goods.wrong_after goods.packets yes))
    (λ _. ap (λ (w : JoiningValue). w.pending ++ later_output (without_pending w) more)
    (valid-no_payload (without_pending v) p none)
    ∙ rest
    ∙ joined_output-flags v v.has_repeat (v.has_jump || announces_jump p) v.has_break
    after.wrong_after after.packets
    ∙ ap (λ (g : GoodPackets). joined_output (without_pending v) g.wrong_after g.packets)
    (sym (good-no_payload s p more none)))

output_ignores_repeat : (v : JoiningValue) (s : PacketHistory) (p : List ℕ) (more : List PidEvent)
    → has_payload p ≡ true
    → repeats v p ≡ true
    → is_repeat s p ≡ true
    → OutputAgrees (record v { has_repeat = true }) (record s { has_repeat = true }) more
    → OutputAgrees v s (Valid p ∷ more)
output_ignores_repeat v s p more some again same rest =
    let goods = good_packets_after s (Valid p ∷ more) in
    let after = good_packets_after (record s { has_repeat = true }) more in
    event_changes_output v (Valid p) more (joined_output (without_pending v) goods.wrong_after
    goods.packets)
    (λ yes. sym (joined_output-ended (without_pending v) goods.wrong_after goods.packets yes))
    (λ _. ap (λ (w : JoiningValue). w.pending ++ later_output (without_pending w) more)
    (valid-repeat (without_pending v) p some again)
    ∙ rest
    ∙ joined_output-flags v true v.has_jump v.has_break after.wrong_after after.packets
    ∙ ap (λ (g : GoodPackets). joined_output (without_pending v) g.wrong_after g.packets)
    (sym (good-repeat s p more some same)))

joined_output-next : (v : JoiningValue) (wrong : Bool) (g : GoodPacket) (more : List GoodPacket)
    → has_ended v.part ≡ false
    → joined_output v wrong (g ∷ more)
    ≡ (after_good_packet g.link v g.packet).pending
    ++ joined_output (without_pending (after_good_packet g.link v g.packet)) wrong more
joined_output-next v wrong g more part_is_open = rw part_is_open refl

output_follows_good_packet : (v : JoiningValue) (s : PacketHistory) (p : List ℕ)
    (more : List PidEvent)
    → has_payload p ≡ true
    → repeats v p ≡ false
    → is_repeat s p ≡ false
    → link_after v v.last p ≡ link_from s.good s p
    → OutputAgrees (after_good_packet (link_from s.good s p) (without_pending v) p)
    (empty_history (Some p)) more
    → OutputAgrees v s (Valid p ∷ more)
output_follows_good_packet v s p more some other same link rest =
    let goods = good_packets_after s (Valid p ∷ more) in
    let after = good_packets_after (empty_history (Some p)) more in
    let w : JoiningValue = after_good_packet (link_from s.good s p) (without_pending v) p in
    event_changes_output v (Valid p) more (joined_output (without_pending v) goods.wrong_after
    goods.packets)
    (λ yes. sym (joined_output-ended (without_pending v) goods.wrong_after goods.packets yes))
    (λ no. ap (λ (u : JoiningValue). u.pending ++ later_output (without_pending u) more)
    (valid-good (without_pending v) p some other
    ∙ ap (λ (l : PacketLink). after_good_packet l (without_pending v) p) link)
    ∙ ap (λ l. w.pending ++ l) rest
    ∙ sym (joined_output-next (without_pending v) after.wrong_after (linked_packet s p)
    after.packets no)
    ∙ ap (λ (g : GoodPackets). joined_output (without_pending v) g.wrong_after g.packets)
    (sym (good-good s p more some same)))

last_good_unchanged : (v w : JoiningValue) (o : Option (List ℕ))
    → w.header ≡ v.header
    → w.last ≡ v.last
    → w.announced ≡ v.announced
    → RemembersLast v o
    → RemembersLast w o
last_good_unchanged v w o h1 h2 h3 h4 = grind (arith, nat_tests)

-- If the state of reassembly agrees with the history, and no payload is empty, the output of
-- further events is the output of the good packets among them.
pub joining_agrees_with_events : (v : JoiningValue) (s : PacketHistory) (all : List PidEvent)
    → RemembersHistory v s
    → AreSound all
    → OutputAgrees v s all
unfolding later_output good_packets_after
joining_agrees_with_events v s [] k sound = last_event_ends_output (has_ended v.part)
    s.has_unusable_packet (gave_pes_packet v.given)
    k.no_pes_packet_after_unusable
joining_agrees_with_events v s (Wrong ∷ more) k sound =
    let history : PacketHistory = record s { has_unusable_packet = true } in
    let after : JoiningValue =
    record v { has_break = true; given = last_output_after true v.given } in
    let goods = good_packets_after history more in
    let known : RemembersHistory after history = record {
      repeat = k.repeat;
      jump = k.jump;
      lost = refl;
      no_pes_packet_after_unusable = λ _. gap_ends_packet_output v.given;
      none = λ _. gap_ends_packet_output v.given;
      last = last_good_unchanged v after s.good refl refl refl k.last;
    } in
    event_changes_output v Wrong more (joined_output (without_pending v) goods.wrong_after
    goods.packets)
    (λ yes. sym (joined_output-ended (without_pending v) goods.wrong_after goods.packets yes))
    (λ no. ap (λ l. gap_marker_where (gave_pes_packet v.given) ++ l)
    (joining_agrees_with_events after history more known sound)
    ∙ sym (gap_marker_is_output_first v v.given goods.wrong_after goods.packets no
    (no_marker_after_unusable v s s.good more refl k.none)))
joining_agrees_with_events v s (Loss ∷ more) k sound =
    let history : PacketHistory = record s { has_loss = true } in
    let after : JoiningValue = record v { has_break = true } in
    let goods = good_packets_after history more in
    let known : RemembersHistory after history = record {
      repeat = k.repeat;
      jump = k.jump;
      lost = sym (disjunction_with_true s.has_unusable_packet);
      no_pes_packet_after_unusable = k.no_pes_packet_after_unusable;
      none = k.none;
      last = last_good_unchanged v after s.good refl refl refl k.last;
    } in
    event_changes_output v Loss more (joined_output (without_pending v) goods.wrong_after
    goods.packets)
    (λ yes. sym (joined_output-ended (without_pending v) goods.wrong_after goods.packets yes))
    (λ _. joining_agrees_with_events after history more known sound
    ∙ joined_output-flags v v.has_repeat v.has_jump true goods.wrong_after goods.packets)
joining_agrees_with_events v s (Valid p ∷ more) k sound =
    let link = remembered_link_is_correct v s s.good p k.last k.jump k.lost in
    let next = link_from s.good s p in
    let fresh = good_packet_is_fresh next (without_pending v) p in
    let jumped : JoiningValue = record v { has_jump = v.has_jump || announces_jump p } in
    let repeated : JoiningValue = record v { has_repeat = true } in
    boolean_cases (has_payload p)
    (λ some. let same = repeat_test_is_correct v s s.good p k.last k.repeat k.jump (sound.0 some) in
    boolean_cases (is_repeat s p)
    (λ again. output_ignores_repeat v s p more some (same ∙ again) again
    (joining_agrees_with_events repeated (record s { has_repeat = true }) more (record {
      repeat = refl;
      jump = k.jump;
      lost = k.lost;
      no_pes_packet_after_unusable = k.no_pes_packet_after_unusable;
      none = k.none;
      last = last_good_unchanged v repeated s.good refl refl refl k.last;
    }) sound.1))
    (λ other. output_follows_good_packet v s p more some (same ∙ other) other link
    (joining_agrees_with_events (after_good_packet next (without_pending v) p)
    (empty_history (Some p)) more (record {
      repeat = fresh.repeat_is_cleared;
      jump = fresh.jump_is_cleared;
      lost = fresh.break_is_cleared;
      no_pes_packet_after_unusable = λ e. absurd cc;
      none = λ e. absurd cc;
      last = (fresh.is_last_packet, sound.0 some);
    }) sound.1)))
    (λ none. output_ignores_empty_packet v s p more none
    (joining_agrees_with_events jumped (record s { has_jump = s.has_jump || announces_jump p }) more
    (record {
      repeat = k.repeat;
      jump = ap (λ (b : Bool). b || announces_jump p) k.jump;
      lost = k.lost;
      no_pes_packet_after_unusable = k.no_pes_packet_after_unusable;
      none = k.none;
      last = last_good_unchanged v jumped s.good refl refl refl k.last;
    }) sound.1))

abbrev pub FirstIsUnlinked : List GoodPacket → Type 0
FirstIsUnlinked [] = Unit {0}
FirstIsUnlinked (g ∷ more) = is_unlinked g.link ≡ true

pub first_packet_is_unlinked : (s : PacketHistory) (all : List PidEvent)
    → s.good ≡ None
    → FirstIsUnlinked (good_packets_after s all).packets
unfolding good_packets_after
first_packet_is_unlinked s [] none = grind (arith, nat_tests)
first_packet_is_unlinked s (Wrong ∷ more) none =
    grind (
      arith,
      nat_tests,
      (first_packet_is_unlinked (record s { has_unusable_packet = true })
          more none),
    )
first_packet_is_unlinked s (Loss ∷ more) none =
    grind (arith, nat_tests, (first_packet_is_unlinked (record s { has_loss = true }) more none))
first_packet_is_unlinked s (Valid p ∷ more) none =
    grind (
      arith,
      nat_tests,
      good-repeat,
      good-good,
      good-no_payload,
      (first_packet_is_unlinked (record s { has_repeat = true }) more none),
      (first_packet_is_unlinked (record s { has_jump = s.has_jump || announces_jump p }) more
          none),
    )

pub good_packets_have_payloads : (s : PacketHistory) (all : List PidEvent)
    → AreSound all
    → HavePayloads (good_packets_after s all).packets
unfolding good_packets_after
good_packets_have_payloads s [] sound = tt
good_packets_have_payloads s (Wrong ∷ more) sound = good_packets_have_payloads
    (record s { has_unusable_packet = true }) more sound
good_packets_have_payloads s (Loss ∷ more) sound = good_packets_have_payloads
    (record s { has_loss = true }) more sound
good_packets_have_payloads s (Valid p ∷ more) sound =
    let Have : GoodPackets → Type 0 = λ g. HavePayloads g.packets in
    boolean_cases (has_payload p)
    (λ some. boolean_cases (is_repeat s p)
    (λ again. subst Have (sym (good-repeat s p more some again))
    (good_packets_have_payloads (record s { has_repeat = true }) more sound.1))
    (λ other. subst Have (sym (good-good s p more some other))
    (sound.0 some, good_packets_have_payloads (empty_history (Some p)) more sound.1)))
    (λ empty. subst Have (sym (good-no_payload s p more empty))
    (good_packets_have_payloads (record s { has_jump = s.has_jump || announces_jump p }) more
    sound.1))
