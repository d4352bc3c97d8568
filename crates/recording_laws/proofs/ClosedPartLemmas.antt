-- After the last TS packet of a PES packet, the reader outputs the PES packet or, if it is
-- incomplete, notes a gap. A part is the list of joined payloads of one PES packet.
use Rattle.std.proofs.Common.{◌≡◌, ℕ, ◌<◌, ◌≤◌, inl, inr, Bool, true, false, not, ◌&&◌, ◌||◌, List}
use Rattle.std.proofs.Common.{[], ◌∷◌, ◌++◌, length, length-append, take, Ok, refl, sym, ap, ◌∙◌}
use Rattle.std.proofs.Common.{arith, append_assoc, nat_le}
use Rattle.std.proofs.lemmas.Bool.{cases_Bool}
use Rattle.std.proofs.lemmas.Bool.Decides.{nat_tests}
use Rattle.std.proofs.lemmas.List.{take-append-le}
use Rattle.ttx_pes.specs.PesPackets.{IsPesPacket}
use Rattle.ttx_pes.specs.Reading.{size_at}
use Rattle.mpeg_ts.specs.CarriedPackets.{gap_marker_where, with_gap_markers}
use Rattle.mpeg_ts.specs.GoodPackets.{GoodPacket}
use Rattle.mpeg_ts.specs.Parts.{Gap, PartOutcome, Part, Pes, part_bytes, gap_where, may_be_cut_off}
use Rattle.mpeg_ts.specs.Parts.{outcome, outcomes, parts_from, with_packet}
use Rattle.recording_laws.proofs.PartLemmas.{pes_packet-size}

pub gap-before : (given gap here : Bool) (more : List PartOutcome)
    → with_gap_markers given gap (gap_where here ++ more) ≡ with_gap_markers given (gap || here)
    more
unfolding with_gap_markers
gap-before given gap here more = grind (arith, nat_tests)

-- The bytes are `prefix`, followed by at most one gap marker, and by none unless a PES packet was
-- output before (`given`).
pub record MayEndInGapMarker (given : Bool) (prefix bytes : List ℕ) : Type 0 where
  pub has_gap_marker : Bool
  pub marker_follows_packet : has_gap_marker ≡ true → given ≡ true
  pub bytes_are_equal : bytes ≡ prefix ++ gap_marker_where has_gap_marker

-- The output for the part is `prefix` if another part or an unusable TS packet follows; if the part
-- is the last, one gap marker may follow `prefix`. After the part, `given'` means that a PES packet
-- was output, and `gap'` that data was lost after it.
pub record ClosesPart (part : Part) (given gap : Bool) (prefix : List ℕ) (given' gap' : Bool)
    : Type 0 where
  pub next :
      (wrong_after : Bool) (more : List Part)
      → may_be_cut_off wrong_after more ≡ false
      → with_gap_markers given gap (outcomes wrong_after (part ∷ more))
      ≡ prefix ++ with_gap_markers given' gap' (outcomes wrong_after more)
  pub last :
      (wrong_after : Bool)
      → MayEndInGapMarker given' prefix
      (with_gap_markers given gap (outcomes wrong_after (part ∷ [])))

gap_marker-following : (gap : Bool)
    → (wrong_after : Bool)
    → with_gap_markers true gap (outcomes wrong_after []) ≡ gap_marker_where (gap || wrong_after)
unfolding with_gap_markers outcomes
gap_marker-following gap true = elim (cases_Bool gap) [ inl e ↦ rw e | inr e ↦ rw e ]
gap_marker-following gap false = elim (cases_Bool gap) [ inl e ↦ rw e | inr e ↦ rw e ]

pub closes-pes_packet : (part : Part) (given gap : Bool) (bytes : List ℕ) (longer : Bool)
    → ((cut_off : Bool) → outcome cut_off part ≡ Pes bytes ∷ gap_where longer)
    → ClosesPart part given gap (gap_marker_where (given && (gap || part.after_break)) ++ bytes)
    true
    longer
unfolding with_gap_markers outcomes
closes-pes_packet part given gap bytes longer gives = record {
  next = λ wrong_after more some. reported wrong_after more;
  last = λ wrong_after. record {
    has_gap_marker = longer || wrong_after;
    marker_follows_packet = λ e. refl;
    bytes_are_equal =
        reported wrong_after []
        ∙ ap (λ (x : List ℕ). (gap_marker_where (given && (gap || part.after_break)) ++ bytes) ++ x)
        (gap_marker-following longer wrong_after);
  };
}
  where
    reported : (wrong_after : Bool) (more : List Part)
        → with_gap_markers given gap (outcomes wrong_after (part ∷ more))
        ≡ (gap_marker_where (given && (gap || part.after_break)) ++ bytes)
        ++ with_gap_markers true longer (outcomes wrong_after more)
    reported wrong_after more =
        ap (λ (l : List PartOutcome).
        with_gap_markers given gap (gap_where part.after_break ++ (l ++ outcomes wrong_after more)))
        (gives (may_be_cut_off wrong_after more))
        ∙ gap-before given gap part.after_break
        (Pes bytes ∷ (gap_where longer ++ outcomes wrong_after more))
        ∙ ap (λ (l : List ℕ). gap_marker_where (given && (gap || part.after_break)) ++ (bytes ++ l))
        (gap-before true false longer (outcomes wrong_after more))
        ∙ sym (append_assoc (gap_marker_where (given && (gap || part.after_break))) bytes
        (with_gap_markers true longer (outcomes wrong_after more)))

pub record IsBrokenPart (part : Part) : Type 0 where
  pub outcome_eq : (cut_off : Bool) → outcome cut_off part ≡ gap_where (not cut_off)

pub closes-broken : (part : Part) (given gap : Bool)
    → IsBrokenPart part
    → ClosesPart part given gap [] given true
unfolding with_gap_markers outcomes
closes-broken part given gap h = record {
  next = λ wrong_after more some. reported wrong_after more some;
  last = λ wrong_after. record {
    has_gap_marker = given && ((gap || part.after_break) || wrong_after);
    marker_follows_packet = λ e. grind (arith, nat_tests);
    bytes_are_equal = end wrong_after;
  };
}
  where
    reported : (wrong_after : Bool) (more : List Part)
        → may_be_cut_off wrong_after more ≡ false
        → with_gap_markers given gap (outcomes wrong_after (part ∷ more))
        ≡ with_gap_markers given true (outcomes wrong_after more)
    reported wrong_after more some =
        rw (h.outcome_eq (may_be_cut_off wrong_after more), some)
        (gap-before given gap part.after_break (Gap ∷ outcomes wrong_after more))

    end : (wrong_after : Bool)
        → with_gap_markers given gap (outcomes wrong_after (part ∷ []))
        ≡ gap_marker_where (given && ((gap || part.after_break) || wrong_after))
    end true =
        rw (h.outcome_eq false)
        (gap-before given gap part.after_break (Gap ∷ Gap ∷ [])
        ∙ ap (λ (b : Bool). gap_marker_where (given && b))
        (elim (cases_Bool (gap || part.after_break)) [ inl e ↦ rw e | inr e ↦ rw e ]))
    end false =
        rw (h.outcome_eq true)
        (gap-before given gap part.after_break []
        ∙ ap (λ (b : Bool). gap_marker_where (given && b))
        (elim (cases_Bool (gap || part.after_break)) [ inl e ↦ rw e | inr e ↦ rw e ]))

pub broken-unbegun : (part : Part) → part.begins ≡ false → IsBrokenPart part
unfolding outcome
broken-unbegun part h1 = grind (arith, nat_tests)

pub broken-short : (part : Part) (missing bytes : List ℕ)
    → part_bytes part ++ missing ≡ bytes
    → 0 < length missing
    → IsPesPacket bytes
    → IsBrokenPart part
unfolding outcome
broken-short part missing bytes joined some pes_packet = record { outcome_eq = is }
  where
    short : nat_le (length bytes) (length (part_bytes part)) ≡ false
    short =
        let long = ap length joined in
        grind (arith, nat_tests, length-append (part_bytes part) missing)

    size : (part.begins && nat_le 6 (length (part_bytes part))) ≡ true
        → size_at (take 6 (part_bytes part)) ≡ Ok (length bytes)
    size test =
        let enough : 6 ≤ length (part_bytes part) = grind (arith, nat_tests) in
        ap size_at
        (sym (take-append-le 6 (part_bytes part) missing enough) ∙ ap (take 6) joined)
        ∙ pes_packet-size bytes pes_packet

    is : (cut_off : Bool) → outcome cut_off part ≡ gap_where (not cut_off)
    is cut_off = elim (cases_Bool (part.begins && nat_le 6 (length (part_bytes part)))) [
      | inl test ↦ rw (test, size test, short)
      | inr test ↦ rw test
    ]

pub parts_from-some : (wrong_after : Bool) (part : Part) (goods : List GoodPacket)
    → may_be_cut_off wrong_after (parts_from part goods) ≡ false
unfolding parts_from
parts_from-some wrong_after part [] = grind (arith, nat_tests)
parts_from-some wrong_after part (g ∷ goods) =
    grind (arith, nat_tests, (parts_from-some wrong_after (with_packet part g) goods))
