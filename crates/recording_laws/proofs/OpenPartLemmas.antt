-- For any losses, reading the remaining TS packets of a PES packet gives one PES packet with the
-- same start, or none.
use Rattle.std.proofs.Common.{◌≡◌, ℕ, ◌+◌, ◌%◌, ◌≤◌, ◌⊎◌, inl, inr, Bool, true, false, ◌&&◌, ◌||◌}
use Rattle.std.proofs.Common.{List, [], ◌∷◌, ◌++◌, length, length-append, refl, sym, ap, ◌∙◌, subst}
use Rattle.std.proofs.Common.{arith, append_assoc, not, nat_lt, map}
use Rattle.std.specs.List.{AllByRecursion, concat}
use Rattle.std.proofs.lemmas.Bool.{cases_Bool}
use Rattle.std.proofs.lemmas.Bool.Decides.{nat_tests}
use Rattle.std.proofs.lemmas.List.{append-nil, take-append-le}
use Rattle.ttx_pes.specs.PesPackets.{IsPesPacket}
use Rattle.mpeg_ts.specs.CarriedPackets.{gap_marker_where, with_gap_markers}
use Rattle.mpeg_ts.specs.GoodPackets.{GoodPacket}
use Rattle.mpeg_ts.specs.Parts.{Part, begins_part, outcomes, part_bytes, single_packet_part}
use Rattle.mpeg_ts.specs.Parts.{parts_from}
use Rattle.mpeg_ts.specs.Parts.{with_packet, is_break}
use Rattle.mpeg_ts.specs.TransportPacket.{begins, payload}
use Rattle.recording_laws.specs.Losses.{SentUnit, any_unit_damaged, records_all_following, arrives}
use Rattle.recording_laws.specs.Losses.{is_recorded}
use Rattle.recording_laws.specs.Losses.{is_damaged_after, last_carrier, sent_packet}
use Rattle.recording_laws.specs.Losses.{units_before_copy}
use Rattle.recording_laws.specs.Losses.{units_after_copy}
use Rattle.recording_laws.proofs.LossyCarrierLemmas.{carrier-payload}
use Rattle.recording_laws.proofs.ClosedPartLemmas.{ClosesPart, IsBrokenPart, broken-short}
use Rattle.recording_laws.proofs.ClosedPartLemmas.{closes-pes_packet}
use Rattle.recording_laws.proofs.ClosedPartLemmas.{parts_from-some, broken-unbegun, closes-broken}
use Rattle.recording_laws.proofs.PartLemmas.{outcome-whole, IsCompletePart, parts_from-cut}
use Rattle.recording_laws.proofs.PartLemmas.{concat-snoc}
use Rattle.recording_laws.proofs.PartLemmas.{parts_from-follows}
use Rattle.recording_laws.proofs.StartedPartLemmas.{ClosesStartedPes, IsPrefix, closes-prefix}
use Rattle.recording_laws.proofs.ReadingLemmas.{IsMarkerExpected, has_previous, PreviousPes, Fits}
use Rattle.recording_laws.proofs.ReadingLemmas.{PreviousResult, PreviousMarker}
use Rattle.recording_laws.proofs.ReadingLemmas.{Nothing, ReadsSent, reads-marked, skip}
use Rattle.recording_laws.specs.Multiplex.{Carrier, SentPes, carriers_of, carriers_of_pes}
use Rattle.recording_laws.specs.Pace.{up_to_pts}
use Rattle.recording_laws.proofs.LossyNoteLemmas.{IsLossyCarrier}
use Rattle.recording_laws.proofs.PesPacketLemmas.{concat-gap_markers, gap_markers-pes_packets}
use Rattle.recording_laws.proofs.PesPacketLemmas.{gap_markers_where}
use Rattle.recording_laws.proofs.TraceLemmas.{IsGoodCopy, AreTraced}

pub closed-by : (wrong_after : Bool) (part : Part) (given gap : Bool) (prefix : List ℕ)
    (given' gap' : Bool) (g : GoodPacket) (later : List GoodPacket)
    → ClosesPart part given gap prefix given' gap'
    → begins_part g ≡ true
    → with_gap_markers given gap (outcomes wrong_after (parts_from part (g ∷ later)))
    ≡ prefix ++ with_gap_markers given' gap'
    (outcomes wrong_after (parts_from (single_packet_part g) later))
closed-by wrong_after part given gap prefix given' gap' g later h1 h2 =
    grind (arith, nat_tests, parts_from-cut, parts_from-some)

abbrev pub payloads_of : ℕ → List (Carrier SentUnit) → List ℕ
payloads_of distance cs = concat (map (λ c. payload (sent_packet distance c.packet)) cs)

abbrev pub previous_with_marker : Bool → PreviousResult
previous_with_marker true = PreviousMarker
previous_with_marker false = Nothing

-- The bytes are a list of PES packets and gap markers that a reader may output for the PES packets
-- `sent` if the result before them is `previous` (`ReadsSent`).
pub record YieldsResults (few : Bool) (previous : PreviousResult) (sent : List (SentPes SentUnit))
    (bytes : List ℕ)
    : Type 0 where
  pub pes_packets : List (List ℕ)
  pub each : AllByRecursion IsPesPacket pes_packets
  pub joined : bytes ≡ concat pes_packets
  pub reads : ReadsSent few previous sent pes_packets

-- The bytes start with a PES packet that has the same start as `s`, after a gap marker if `marked`
-- is true. The results for the PES packets `sent` follow (`ReadsSent`). If `few` is true, `s`
-- arrives, and the PES packet has exactly the bytes of `s`.
pub record YieldsOneResult (few marked : Bool) (s : SentPes SentUnit) (between : ℕ) (skipped : Bool)
    (sent : List (SentPes SentUnit)) (bytes : List ℕ) : Type 0 where
  pub pes_packet : List ℕ
  pub is_pes_packet : IsPesPacket pes_packet
  pub prefix : up_to_pts pes_packet ≡ up_to_pts s.bytes
  pub equals_sent_bytes : few ≡ true → (arrives s ≡ true) × (pes_packet ≡ s.bytes)
  pub rest : List (List ℕ)
  pub each : AllByRecursion IsPesPacket rest
  pub joined : bytes ≡ gap_marker_where marked ++ (pes_packet ++ concat rest)
  pub reads : ReadsSent few (PreviousPes pes_packet s between skipped) sent rest

-- Either the bytes start with a result for the PES packet `s`, or they are only the results for the
-- PES packets `sent` after `s`. In the second case, `s` does not arrive if `few` is true.
abbrev pub YieldsAtMostOneResult : Bool → Bool → Bool → SentPes SentUnit → ℕ → Bool → List
    (SentPes SentUnit) → List ℕ
    → Type 0
YieldsAtMostOneResult few given marked s between skipped sent bytes =
    YieldsOneResult few marked s between skipped sent bytes
    ⊎ ((few ≡ true → arrives s ≡ false) × YieldsResults few (previous_with_marker given) sent bytes)

previous_with_marker-skip : (few given : Bool) (s : SentPes SentUnit)
    (more : List (SentPes SentUnit))
    (pes_packets : List (List ℕ))
    → ReadsSent few (previous_with_marker given) more pes_packets
    → ReadsSent few (skip (previous_with_marker given) s) more pes_packets
previous_with_marker-skip few true s more pes_packets h = h
previous_with_marker-skip few false s more pes_packets h = h

previous-skip : (few : Bool) (previous : PreviousResult) (given : Bool) (s : SentPes SentUnit)
    (more : List (SentPes SentUnit)) (pes_packets : List (List ℕ))
    → has_previous previous ≡ given
    → ReadsSent few (previous_with_marker given) more pes_packets
    → ReadsSent few (skip previous s) more pes_packets
previous-skip few Nothing true s more pes_packets e h = absurd (cc e)
previous-skip few Nothing false s more pes_packets e h = h
previous-skip few PreviousMarker true s more pes_packets e h = h
previous-skip few PreviousMarker false s more pes_packets e h = absurd (cc e)
previous-skip few (PreviousPes x t between skipped) true s more pes_packets e h =
    reads-marked few x t (between + length (carriers_of_pes s)) true more pes_packets (λ e. refl) h
previous-skip few (PreviousPes x t between skipped) false s more pes_packets e h = absurd (cc e)

pub gives-later : (few given : Bool) (s : SentPes SentUnit) (more : List (SentPes SentUnit))
    (bytes : List ℕ)
    → (few ≡ true → arrives s ≡ false)
    → YieldsResults few (previous_with_marker given) more bytes
    → YieldsResults few (previous_with_marker given) (s ∷ more) bytes
gives-later few given s more bytes gone h = record {
  pes_packets = h.pes_packets;
  each = h.each;
  joined = h.joined;
  reads = inl (gone, previous_with_marker-skip few given s more h.pes_packets h.reads);
}

pub opens-later : (few given marked : Bool) (s : SentPes SentUnit) (between : ℕ) (skipped : Bool)
    (t : SentPes SentUnit) (more : List (SentPes SentUnit)) (bytes : List ℕ)
    → (few ≡ true → arrives t ≡ false)
    → YieldsAtMostOneResult few given marked s (between + length (carriers_of_pes t)) true more
    bytes
    → YieldsAtMostOneResult few given marked s between skipped (t ∷ more) bytes
opens-later few given marked s between skipped t more bytes gone h = elim h [
  | inl one ↦
      inl
      (record {
        pes_packet = one.pes_packet;
        is_pes_packet = one.is_pes_packet;
        prefix = one.prefix;
        equals_sent_bytes = one.equals_sent_bytes;
        rest = one.rest;
        each = one.each;
        joined = one.joined;
        reads = inl (gone, one.reads);
      })
  | inr none ↦ inr (none.0, gives-later few given t more bytes gone none.1)
]

pub gives-opened : (few : Bool) (previous : PreviousResult) (given marked : Bool)
    (s : SentPes SentUnit)
    (more : List (SentPes SentUnit)) (bytes : List ℕ)
    → has_previous previous ≡ given
    → Fits previous marked
    → IsMarkerExpected few previous s marked
    → YieldsAtMostOneResult few given marked s (length s.others) false more bytes
    → YieldsResults few previous (s ∷ more) bytes
gives-opened few previous given marked s more bytes is fits exact h = elim h [
  | inl one ↦
      record {
        pes_packets = gap_markers_where marked ++ (one.pes_packet ∷ one.rest);
        each = gap_markers-pes_packets marked (one.pes_packet ∷ one.rest)
            (one.is_pes_packet, one.each);
        joined = one.joined ∙ sym (concat-gap_markers marked one.pes_packet one.rest);
        reads =
            inr (
              marked,
              one.pes_packet,
              one.rest,
              refl,
              one.prefix,
              fits,
              one.reads,
              one.equals_sent_bytes,
              exact,
            );
      }
  | inr none ↦
      record {
        pes_packets = none.1.pes_packets;
        each = none.1.each;
        joined = none.1.joined;
        reads = inl (
          none.0,
          previous-skip few previous given s more none.1.pes_packets is
              none.1.reads,
        );
      }
]

pub gives-one : (few marked : Bool) (s : SentPes SentUnit) (between : ℕ) (skipped : Bool)
    (sent : List (SentPes SentUnit)) (pes_packet bytes inner : List ℕ)
    → IsPesPacket pes_packet
    → up_to_pts pes_packet ≡ up_to_pts s.bytes
    → (few ≡ true → (arrives s ≡ true) × (pes_packet ≡ s.bytes))
    → bytes ≡ (gap_marker_where marked ++ pes_packet) ++ inner
    → YieldsResults few (PreviousPes pes_packet s between skipped) sent inner
    → YieldsOneResult few marked s between skipped sent bytes
gives-one few marked s between skipped sent pes_packet bytes inner is prefix equals_sent_bytes e
    h = record {
      pes_packet = pes_packet;
      is_pes_packet = is;
      prefix = prefix;
      equals_sent_bytes = equals_sent_bytes;
      rest = h.pes_packets;
      each = h.each;
      joined =
          e
          ∙ append_assoc (gap_marker_where marked) pes_packet inner
          ∙ ap (λ (l : List ℕ). gap_marker_where marked ++ (pes_packet ++ l)) h.joined;
      reads = h.reads;
    }

pub gives-marked : (few : Bool) (x : List ℕ) (s : SentPes SentUnit) (between : ℕ) (skipped : Bool)
    (sent : List (SentPes SentUnit)) (bytes : List ℕ)
    → (few ≡ true → (skipped || is_damaged_after s) ≡ true)
    → YieldsResults few PreviousMarker sent bytes
    → YieldsResults few (PreviousPes x s between skipped) sent bytes
gives-marked few x s between skipped sent bytes gap h = record {
  pes_packets = h.pes_packets;
  each = h.each;
  joined = h.joined;
  reads = reads-marked few x s between skipped sent h.pes_packets gap h.reads;
}

not-there : (a b c d : Bool) → b ≡ false → (not a && (b && (not c && d))) ≡ false
not-there a b c d h1 = grind (arith, nat_tests)

wrong-between : (a b c d : Bool) → (a || c) ≡ true → (not a && (b && (not c && d))) ≡ false
wrong-between a b c d h1 = grind (arith, nat_tests)

there-after : (a b c d : Bool)
    → a ≡ false
    → b ≡ true
    → c ≡ false
    → (not a && (b && (not c && d))) ≡ d
there-after a b c d h1 h2 h3 = grind (arith, nat_tests)

nothing-lost : (a b : Bool) (n : ℕ)
    → ((a || b) || nat_lt 0 n) ≡ false
    → (n ≡ 0) × (a ≡ false) × (b ≡ false)
nothing-lost a b n h1 =
    (grind (arith, nat_tests), grind (arith, nat_tests), grind (arith, nat_tests))

wrong-lost : (a b : Bool) (n : ℕ)
    → ((a || b) || nat_lt 0 n) ≡ true
    → n ≡ 0
    → (a || b) ≡ true
wrong-lost a b n h1 h2 = grind (arith, nat_tests)

module _ (distance number : ℕ) (wrong_after few : Bool) where
  abbrev pub carried_from : Part → Bool → Bool → List GoodPacket → List ℕ
  carried_from part given gap goods =
      with_gap_markers given gap (outcomes wrong_after (parts_from part goods))

  pub record HasAllPackets (part : Part) (s : SentPes SentUnit) (between : ℕ) (skipped : Bool)
      (n : ℕ)
      (wrong : Bool) (cs : List (Carrier SentUnit)) : Type 0 where
    pub skips_nothing : skipped ≡ false
    pub loses_no_packet : n ≡ 0
    pub joined : part_bytes part ++ payloads_of distance cs ≡ s.bytes
    pub near : length cs ≤ between
    pub last : Carrier SentUnit
    pub exact :
        few ≡ true
        → (arrives s ≡ records_all_following last cs)
        × (is_damaged_after s ≡ any_unit_damaged (units_after_copy (last_carrier last cs)))
        × (wrong ≡ any_unit_damaged (units_after_copy last))

  abbrev pub IsLostPes : Part → SentPes SentUnit → Bool → Type 0
  IsLostPes part s skipped =
      (IsBrokenPart part × (arrives s ≡ false))
      ⊎ (IsCompletePart part s.bytes × (arrives s ≡ true) × (skipped ≡ true))

  -- The PES packet `s` is read in part. Either no TS packet is missing so far; or the last n TS
  -- packets, at least one, are missing; or, only if `few` is false, at least 16 were missing
  -- before, so that the continuity counter may have matched again.
  abbrev pub PartContinues : Part → SentPes SentUnit → ℕ → Bool → ℕ → Bool → List (Carrier SentUnit)
      →
      Type 0
  PartContinues part s between skipped n wrong cs =
      HasAllPackets part s between skipped n wrong cs
      ⊎ (((1 ≤ n) × (n + length cs ≤ between) × (few ≡ true → IsLostPes part s skipped))
      ⊎ ((16 + length cs ≤ between) × (few ≡ false)))

  pub record BeginsPes (part : Part) (s : SentPes SentUnit) : Type 0 where
    pub begins : part.begins ≡ true
    pub is_pes_packet : IsPesPacket s.bytes
    pub prefix : few ≡ false → IsPrefix part s

  -- A PES packet is incomplete as long as some of its TS packets remain.
  broken-here : (part : Part) (s : SentPes SentUnit) (between : ℕ) (skipped : Bool) (n : ℕ)
      (wrong : Bool) (c : Carrier SentUnit) (cs : List (Carrier SentUnit))
      → IsPesPacket s.bytes
      → IsLossyCarrier distance number false c
      → HasAllPackets part s between skipped n wrong (c ∷ cs)
      → IsBrokenPart part
  broken-here part s between skipped n wrong c cs is left all =
      let some = carrier-payload distance number false c left in
      broken-short part (payloads_of distance (c ∷ cs)) s.bytes all.joined
      (omega (
        arith,
        some,
        length-append (payload (sent_packet distance c.packet))
            (payloads_of distance cs),
      ))
      is

  going-gone : (part : Part) (s : SentPes SentUnit) (between : ℕ) (skipped : Bool) (n : ℕ)
      (wrong wrong_after_good : Bool) (c : Carrier SentUnit) (cs : List (Carrier SentUnit))
      → IsPesPacket s.bytes
      → IsLossyCarrier distance number false c
      → (few ≡ true → is_recorded c ≡ false)
      → PartContinues part s between skipped n wrong (c ∷ cs)
      → PartContinues part s between skipped (n + 1) wrong_after_good cs
  going-gone part s between skipped n wrong wrong_after_good c cs is left gone (inl all) =
      let none = all.loses_no_packet in
      let near = all.near in
      inr
      (inl (
        omega arith,
        omega (arith, none, near),
        λ e. inl (
          broken-here part s between skipped n wrong c cs is left all,
          (all.exact e).0
              ∙ not-there (any_unit_damaged (units_after_copy all.last)) (is_recorded c)
              (any_unit_damaged (units_before_copy c)) (records_all_following c cs) (gone e),
        ),
      ))
  going-gone part s between skipped n wrong wrong_after_good c cs is left gone (inr (inl some)) =
      let near = some.1 in inr (inl (omega arith, omega (arith, near), some.2))
  going-gone part s between skipped n wrong wrong_after_good c cs is left gone (inr (inr far)) =
      let many = far.0 in inr (inr (omega (arith, many), far.1))

  whole-here : (part : Part) (s : SentPes SentUnit) (between : ℕ) (skipped : Bool) (n : ℕ)
      (wrong : Bool)
      → BeginsPes part s
      → HasAllPackets part s between skipped n wrong []
      → IsCompletePart part s.bytes
  whole-here part s between skipped n wrong first all = record {
    begins = first.begins;
    bytes_are_equal = sym (append-nil (part_bytes part)) ∙ all.joined;
    is_pes_packet = first.is_pes_packet;
  }

  lost-skip : (part : Part) (s : SentPes SentUnit) (skipped : Bool)
      → IsLostPes part s skipped
      → IsLostPes part s true
  lost-skip part s skipped (inl broken) = inl broken
  lost-skip part s skipped (inr whole) = inr (whole.0, whole.1, refl)

  pub going-skip : (part : Part) (s : SentPes SentUnit) (between : ℕ) (skipped : Bool) (n : ℕ)
      (wrong wrong_after_good : Bool) (t : SentPes SentUnit)
      → BeginsPes part s
      → PartContinues part s between skipped n wrong []
      → PartContinues part s (between + length (carriers_of_pes t)) true (n + 1) wrong_after_good
      t.others
  going-skip part s between skipped n wrong wrong_after_good t first (inl all) =
      let none = all.loses_no_packet in
      inr
      (inl (
        omega arith,
        omega (arith, none),
        λ e. inr (
          whole-here part s between skipped n wrong first all,
          (all.exact e).0,
          refl,
        ),
      ))
  going-skip part s between skipped n wrong wrong_after_good t first (inr (inl some)) =
      let near = some.1 in
      inr (inl (omega arith, omega (arith, near), λ e. lost-skip part s skipped (some.2 e)))
  going-skip part s between skipped n wrong wrong_after_good t first (inr (inr far)) =
      let many = far.0 in inr (inr (omega (arith, many), far.1))

  sixteen_packets_are_too_far : (n size between : ℕ)
      → 1 ≤ n
      → n % 16 ≡ 0
      → n + (size + 1) ≤ between
      → 16 + size ≤ between
  sixteen_packets_are_too_far n size between h1 h2 h3 = omega arith

  abbrev IsNextRecorded : ℕ → Bool → Carrier SentUnit → Type 0
  IsNextRecorded n wrong c =
      few ≡ true
      → (n ≡ 0) × (wrong ≡ false) × (any_unit_damaged (units_before_copy c) ≡ false) ×
      (is_recorded c ≡ true)

  -- The payload of a TS packet with the next continuity counter that does not start a PES packet is
  -- joined to the current PES packet.
  going-follows : (part : Part) (s : SentPes SentUnit) (between : ℕ) (skipped : Bool) (n : ℕ)
      (wrong wrong_after_good : Bool) (c : Carrier SentUnit) (cs : List (Carrier SentUnit))
      (g : GoodPacket)
      → PartContinues part s between skipped n wrong (c ∷ cs)
      → payload g.packet ≡ payload (sent_packet distance c.packet)
      → n % 16 ≡ 0
      → IsNextRecorded n wrong c
      → (few ≡ true → wrong_after_good ≡ any_unit_damaged (units_after_copy c))
      → PartContinues (with_packet part g) s between skipped 0 wrong_after_good cs
  going-follows part s between skipped n wrong wrong_after_good c cs g (inl all) same on still is =
      let near = all.near in
      inl
      (record {
        skips_nothing = all.skips_nothing;
        loses_no_packet = refl;
        joined =
            concat-snoc part.payloads (payload g.packet)
            (payloads_of distance cs) s.bytes
            (ap (λ (x : List ℕ).
            part_bytes part ++ (x ++ payloads_of distance cs)) same
            ∙ all.joined);
        near = omega (arith, near);
        last = c;
        exact = λ e. (
          (all.exact e).0
              ∙ there-after (any_unit_damaged (units_after_copy all.last)) (is_recorded c)
              (any_unit_damaged (units_before_copy c)) (records_all_following c cs)
              (sym (all.exact e).2 ∙ (still e).1) (still e).3 (still e).2,
          (all.exact e).1,
          is e,
        );
      })
  going-follows part s between skipped n wrong wrong_after_good c cs g (inr (inl some)) same on
      still
      is =
      elim (cases_Bool few) [
        | inl e ↦
            let first = some.0 in let none = (still e).0 in absurd (omega (arith, first, none))
        | inr many ↦
            let near = some.1 in
            inr (inr (
              sixteen_packets_are_too_far n (length cs) between some.0 on (omega (arith, near)),
              many,
            ))
      ]
  going-follows part s between skipped n wrong wrong_after_good c cs g (inr (inr far)) same on still
      is =
      let many = far.0 in inr (inr (omega (arith, many), far.1))

  pub going-fits : (part : Part) (given gap : Bool) (s : SentPes SentUnit) (between : ℕ)
      (skipped : Bool) (n : ℕ) (wrong : Bool) (pes_packet : List ℕ) (longer breaks : Bool)
      → (part_bytes part ≡ s.bytes → pes_packet ≡ s.bytes)
      → PartContinues part s between skipped n wrong []
      → (breaks ≡ false → n % 16 ≡ 0)
      → Fits (PreviousPes pes_packet s between skipped) (true && (longer || breaks))
  going-fits
      part given gap s between skipped n wrong pes_packet longer breaks equals_sent_bytes (inl all)
      on none =
      inr (all.skips_nothing, equals_sent_bytes (sym (append-nil (part_bytes part)) ∙ all.joined))
  going-fits part given gap s between skipped n wrong pes_packet longer breaks equals_sent_bytes
      (inr (inl some)) on none =
      let follows = on (grind (arith, nat_tests)) in
      let first = some.0 in
      let near = some.1 in
      inl (omega (arith, follows, first, near))
  going-fits
      part given gap s between skipped n wrong pes_packet longer breaks equals_sent_bytes
      (inr (inr far)) on
      none =
      let many = far.0 in inl (omega (arith, many))

  prefix-with : (part : Part) (s : SentPes SentUnit) (g : GoodPacket)
      → IsPrefix part s
      → IsPrefix (with_packet part g) s
  prefix-with part s g h = record {
    begins = h.begins;
    long =
        let long = h.long in
        omega (arith, long, ap length bytes, length-append (part_bytes part) (payload g.packet));
    same =
        ap up_to_pts bytes
        ∙ take-append-le 14 (part_bytes part) (payload g.packet) h.long
        ∙ h.same;
    is_pes_packet = h.is_pes_packet;
  }
    where
      bytes : part_bytes (with_packet part g) ≡ part_bytes part ++ payload g.packet
      bytes =
          sym (append-nil (part_bytes (with_packet part g)))
          ∙ concat-snoc part.payloads (payload g.packet) [] (part_bytes part ++ payload g.packet)
          (ap (λ (x : List ℕ). part_bytes part ++ x) (append-nil (payload g.packet)))

  first-with : (part : Part) (s : SentPes SentUnit) (g : GoodPacket)
      → BeginsPes part s
      → BeginsPes (with_packet part g) s
  first-with part s g h = record {
    begins = h.begins;
    is_pes_packet = h.is_pes_packet;
    prefix = λ e. prefix-with part s g (h.prefix e);
  }

  pub record ClosesAsSent (part : Part) (given gap : Bool) (s : SentPes SentUnit) : Type 0 where
    pub is : ClosesStartedPes part given gap s
    pub exact : few ≡ true → (arrives s ≡ true) × (is.pes_packet ≡ s.bytes) × (is.longer ≡ false)

  abbrev pub ClosesOrBreaks : Part → Bool → Bool → SentPes SentUnit → Type 0
  ClosesOrBreaks part given gap s =
      ClosesAsSent part given gap s
      ⊎ (ClosesPart part given gap [] given true × (few ≡ true → arrives s ≡ false))

  -- If fewer than 15 consecutive TS packets with payload are missing or damaged, a PES packet is
  -- read completely exactly if it arrives.
  abbrev pub IsEndExact : Part → SentPes SentUnit → Type 0
  IsEndExact part s =
      few ≡ true
      → (IsBrokenPart part × (arrives s ≡ false)) ⊎
      (IsCompletePart part s.bytes × (arrives s ≡ true))

  pub closing : (part : Part) (given gap : Bool) (s : SentPes SentUnit)
      → BeginsPes part s
      → IsEndExact part s
      → ClosesOrBreaks part given gap s
  closing part given gap s first ends = elim (cases_Bool few) [
    | inl e ↦ elim (ends e) [
      | inl broken ↦ inr (closes-broken part given gap broken.0, λ f. broken.1)
      | inr whole ↦
          inl
          (record {
            is = record {
              pes_packet = s.bytes;
              longer = false;
              is_pes_packet = first.is_pes_packet;
              prefix = refl;
              equals_sent_bytes = λ e. refl;
              closes =
                  closes-pes_packet part given gap s.bytes false
                  (λ cut_off. outcome-whole cut_off part s.bytes whole.0);
            };
            exact = λ f. (whole.1, refl, refl);
          })
    ]
    | inr many ↦ elim (closes-prefix part given gap s (first.prefix many)) [
      | inl one ↦ inl (record { is = one; exact = λ e. absurd (cc (e, many)) })
      | inr broken ↦ inr (broken, λ e. absurd (cc (e, many)))
    ]
  ]

  lost-ends : (part : Part) (s : SentPes SentUnit) (skipped : Bool)
      → (few ≡ true → IsLostPes part s skipped)
      → IsEndExact part s
  lost-ends part s skipped lost is = elim (lost is) [
    | inl broken ↦ inl broken
    | inr whole ↦ inr (whole.0, whole.1)
  ]

  pub going-ends : (part : Part) (s : SentPes SentUnit) (between : ℕ) (skipped : Bool) (n : ℕ)
      (wrong : Bool)
      → BeginsPes part s
      → PartContinues part s between skipped n wrong []
      → IsEndExact part s
  going-ends part s between skipped n wrong first (inl all) is =
      inr (whole-here part s between skipped n wrong first all, (all.exact is).0)
  going-ends part s between skipped n wrong first (inr (inl some)) is =
      lost-ends part s skipped some.2 is
  going-ends part s between skipped n wrong first (inr (inr far)) is = absurd (cc (is, far.1))

  abbrev pub ContinuesWithoutStart : List (SentPes SentUnit) → Type 0
  ContinuesWithoutStart sent =
      (part : Part) (given gap following : Bool) (n : ℕ) (wrong : Bool) (goods : List GoodPacket)
      → part.begins ≡ false
      → AreTraced distance number few following n wrong (carriers_of sent) goods
      → YieldsResults few (previous_with_marker given) sent (carried_from part given gap goods)

  abbrev pub ContinuesOpenPart : List (SentPes SentUnit) → Type 0
  ContinuesOpenPart sent =
      (part : Part) (given gap : Bool) (s : SentPes SentUnit) (between : ℕ) (skipped : Bool) (n : ℕ)
      (wrong : Bool) (goods : List GoodPacket)
      → BeginsPes part s
      → PartContinues part s between skipped n wrong []
      → AreTraced distance number few true n wrong (carriers_of sent) goods
      → YieldsAtMostOneResult few given (given && (gap || part.after_break)) s between skipped sent
      (carried_from part given gap goods)

  pub record ContinuesReading (sent : List (SentPes SentUnit)) : Type 0 where
    pub headless : ContinuesWithoutStart sent
    pub opened : ContinuesOpenPart sent

  heard-begins : (following : Bool) (n : ℕ) (wrong : Bool) (c : Carrier SentUnit) (g : GoodPacket)
      → IsLossyCarrier distance number false c
      → IsGoodCopy distance number few following n wrong c g
      → begins g.packet ≡ false
  heard-begins following n wrong c g is heard = heard.copy.begins ∙ is.is_carrier.begins

  heard-follows : (n : ℕ) (wrong : Bool) (c : Carrier SentUnit) (g : GoodPacket)
      → IsGoodCopy distance number few true n wrong c g
      → begins_part g ≡ false
      → is_break g.link ≡ false
  heard-follows n wrong c g heard within =
      let link = (heard.linked_packet refl).cut in grind (arith, nat_tests)

  heard-still : (n : ℕ) (wrong : Bool) (c : Carrier SentUnit) (g : GoodPacket)
      → IsGoodCopy distance number few true n wrong c g
      → begins_part g ≡ false
      → IsNextRecorded n wrong c
  heard-still n wrong c g heard within is =
      let none =
      nothing-lost wrong (any_unit_damaged (units_before_copy c)) n
      (sym ((heard.linked_packet refl).exact is).1 ∙ heard-follows n wrong c g heard within) in
      (none.0, none.1, none.2, heard.there is)

  heard-breaks : (n : ℕ) (wrong : Bool) (c : Carrier SentUnit) (g : GoodPacket)
      → begins g.packet ≡ false
      → IsGoodCopy distance number few true n wrong c g
      → begins_part g ≡ true
      → is_break g.link ≡ true
  heard-breaks n wrong c g begun heard cut =
      let link = (heard.linked_packet refl).cut in grind (arith, nat_tests)

  cut-lost : (part : Part) (s : SentPes SentUnit) (between : ℕ) (skipped : Bool) (n : ℕ)
      (wrong : Bool) (c : Carrier SentUnit) (cs : List (Carrier SentUnit)) (g : GoodPacket)
      → IsPesPacket s.bytes
      → IsLossyCarrier distance number false c
      → IsGoodCopy distance number few true n wrong c g
      → begins_part g ≡ true
      → PartContinues part s between skipped n wrong (c ∷ cs)
      → few ≡ true
      → IsLostPes part s skipped
  cut-lost part s between skipped n wrong c cs g is left heard cut (inl all) e =
      inl (
        broken-here part s between skipped n wrong c cs is left all,
        (all.exact e).0
            ∙ wrong-between (any_unit_damaged (units_after_copy all.last)) (is_recorded c)
            (any_unit_damaged (units_before_copy c)) (records_all_following c cs)
            (ap (λ (b : Bool). b || any_unit_damaged (units_before_copy c)) (sym (all.exact e).2)
            ∙ wrong-lost wrong (any_unit_damaged (units_before_copy c)) n
            (sym ((heard.linked_packet refl).exact e).1
            ∙ heard-breaks n wrong c g (heard-begins true n wrong c g left heard) heard cut)
            all.loses_no_packet),
      )
  cut-lost part s between skipped n wrong c cs g is left heard cut (inr (inl some)) e = some.2 e
  cut-lost part s between skipped n wrong c cs g is left heard cut (inr (inr far)) e =
      absurd (cc (e, far.1))

  pub headless-within : (more : List (SentPes SentUnit)) (part : Part) (given gap following : Bool)
      (n : ℕ) (wrong : Bool) (cs : List (Carrier SentUnit)) (goods : List GoodPacket)
      → ContinuesReading more
      → part.begins ≡ false
      → AllByRecursion (IsLossyCarrier distance number false) cs
      → AreTraced distance number few following n wrong (cs ++ carriers_of more) goods
      → YieldsResults few (previous_with_marker given) more (carried_from part given gap goods)
  headless-within more part given gap following n wrong [] goods go headless each
      carriers_are_traced =
      go.headless part given gap following n wrong goods headless carriers_are_traced
  headless-within more part given gap following n wrong (c ∷ cs) goods go headless each
      carriers_are_traced =
      elim carriers_are_traced [
        | inl gone ↦
            headless-within more part given gap following (n + 1) gone.0 cs goods go headless each.1
            gone.2
        | inr here ↦ elim (cases_Bool (begins_part here.0)) [
          | inl cut ↦
              subst (YieldsResults few (previous_with_marker given) more)
              (sym
              (ap (carried_from part given gap) here.2
              ∙ closed-by wrong_after part given gap [] given true here.0 here.1
              (closes-broken part given gap (broken-unbegun part headless)) cut))
              (headless-within more (single_packet_part here.0) given true true 0 here.4 cs
              here.1 go
              (heard-begins following n wrong c here.0 each.0 here.3) each.1 here.6)
          | inr within ↦
              subst (YieldsResults few (previous_with_marker given) more)
              (sym
              (ap (carried_from part given gap) here.2
              ∙ ap (λ (ps : List Part). with_gap_markers given gap (outcomes wrong_after ps))
              (parts_from-follows part here.0 here.1 within)))
              (headless-within more (with_packet part here.0) given gap true 0 here.4 cs here.1 go
              headless each.1 here.6)
        ]
      ]

  open-cut : (more : List (SentPes SentUnit)) (part : Part) (given gap : Bool)
      (s : SentPes SentUnit)
      (between : ℕ) (skipped : Bool) (g : GoodPacket) (later : List GoodPacket)
      → BeginsPes part s
      → (few ≡ true → IsLostPes part s skipped)
      → begins_part g ≡ true
      → ((given' gap' : Bool)
      → YieldsResults few (previous_with_marker given') more
      (carried_from (single_packet_part g) given' gap' later))
      → YieldsAtMostOneResult few given (given && (gap || part.after_break)) s between skipped more
      (carried_from part given gap (g ∷ later))
  open-cut more part given gap s between skipped g later first lost cut go =
      elim (closing part given gap s first (lost-ends part s skipped lost)) [
        | inl one ↦
            inl
            (gives-one few (given && (gap || part.after_break)) s between skipped more
            one.is.pes_packet
            (carried_from part given gap (g ∷ later))
            (carried_from (single_packet_part g) true one.is.longer later) one.is.is_pes_packet
            one.is.prefix
            (λ e. ((one.exact e).0, (one.exact e).1))
            (closed-by wrong_after part given gap
            (gap_marker_where (given && (gap || part.after_break)) ++ one.is.pes_packet) true
            one.is.longer g
            later one.is.closes cut)
            (gives-marked few one.is.pes_packet s between skipped more
            (carried_from (single_packet_part g) true one.is.longer later)
            (λ e. elim (lost e) [
              | inl broken ↦ absurd (cc (broken.1, (one.exact e).0))
              | inr whole ↦ ap (λ (b : Bool). b || is_damaged_after s) whole.2
            ])
            (go true one.is.longer)))
        | inr none ↦
            inr (
              none.1,
              subst (YieldsResults few (previous_with_marker given) more)
                  (sym (closed-by wrong_after part given gap [] given true g later none.0 cut))
                  (go given true),
            )
      ]

  pub open-within : (more : List (SentPes SentUnit)) (part : Part) (given gap : Bool)
      (s : SentPes SentUnit) (between : ℕ) (skipped : Bool) (n : ℕ) (wrong : Bool)
      (cs : List (Carrier SentUnit)) (goods : List GoodPacket)
      → ContinuesReading more
      → BeginsPes part s
      → PartContinues part s between skipped n wrong cs
      → AllByRecursion (IsLossyCarrier distance number false) cs
      → AreTraced distance number few true n wrong (cs ++ carriers_of more) goods
      → YieldsAtMostOneResult few given (given && (gap || part.after_break)) s between skipped more
      (carried_from part given gap goods)
  open-within more part given gap s between skipped n wrong [] goods go first going each
      carriers_are_traced =
      go.opened part given gap s between skipped n wrong goods first going carriers_are_traced
  open-within more part given gap s between skipped n wrong (c ∷ cs) goods go first going each
      carriers_are_traced =
      elim carriers_are_traced [
        | inl gone ↦
            open-within more part given gap s between skipped (n + 1) gone.0 cs goods go first
            (going-gone part s between skipped n wrong gone.0 c cs first.is_pes_packet each.0 gone.1
            going) each.1 gone.2
        | inr here ↦ elim (cases_Bool (begins_part here.0)) [
          | inl cut ↦
              subst
              (λ (goods : List GoodPacket).
              YieldsAtMostOneResult few given (given && (gap || part.after_break)) s between skipped
              more
              (carried_from part given gap goods))
              (sym here.2)
              (open-cut more part given gap s between skipped here.0 here.1 first
              (cut-lost part s between skipped n wrong c cs here.0 first.is_pes_packet each.0 here.3
              cut
              going)
              cut
              (λ given' gap'.
              headless-within more (single_packet_part here.0) given' gap' true 0 here.4 cs
              here.1 go
              (heard-begins true n wrong c here.0 each.0 here.3) each.1 here.6))
          | inr within ↦
              subst (YieldsAtMostOneResult few given (given && (gap || part.after_break)) s between
              skipped more)
              (sym
              (ap (carried_from part given gap) here.2
              ∙ ap (λ (ps : List Part). with_gap_markers given gap (outcomes wrong_after ps))
              (parts_from-follows part here.0 here.1 within)))
              (open-within more (with_packet part here.0) given gap s between skipped 0 here.4 cs
              here.1 go
              (first-with part s here.0 first)
              (going-follows part s between skipped n wrong here.4 c cs here.0 going
              here.3.copy.payload
              ((here.3.linked_packet refl).far (heard-follows n wrong c here.0 here.3 within))
              (heard-still n wrong c here.0 here.3 within) here.5)
              each.1 here.6)
        ]
      ]
