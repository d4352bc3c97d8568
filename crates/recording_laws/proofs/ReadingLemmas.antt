-- If PES packets with 16 or more TS packets with payload between their starts are more than `pace`
-- frames apart, those read at most `pace` apart, with no gap marker, were sent one after another.
use Rattle.std.proofs.Common.{◌≡◌, ℕ, ◌+◌, ◌<◌, ◌≤◌, ◌⊎◌, inl, inr, Bool, true, false, List, []}
use Rattle.std.proofs.Common.{◌∷◌, ◌++◌, length, refl, sym, ap, ◌∙◌, subst, arith, ◌&&◌, ◌||◌}
use Rattle.std.specs.Bool.{⊤}
use Rattle.std.proofs.lemmas.Bool.{cases_Bool}
use Rattle.std.specs.List.{AllByRecursion}
use Rattle.mpeg_ts.specs.CarriedPackets.{gap_marker}
use Rattle.recording_laws.specs.Losses.{SentUnit, any_unit_damaged, arrives, is_damaged_after}
use Rattle.recording_laws.specs.Losses.{units_before_copy}
use Rattle.recording_laws.specs.Multiplex.{SentPes, carriers_of_pes}
use Rattle.recording_laws.specs.Pace.{AreFarApart, AreFarFrom, KeepPace, KeepPaceFrom}
use Rattle.recording_laws.specs.Pace.{frame_up_to_pts}
use Rattle.recording_laws.specs.Pace.{up_to_pts}
use Rattle.recording_laws.proofs.PesPacketLemmas.{HasNoGapMarker, equal_lists_have_equal_heads}
use Rattle.recording_laws.proofs.PesPacketLemmas.{gap_markers_where}
use Rattle.recording_laws.proofs.PesPacketLemmas.{not-empty}
use Rattle.recording_laws.proofs.PesPacketLemmas.{sent_bytes, equal_lists_have_equal_tails}

-- The state of reading before the next result. `Nothing`: there was no result yet.
-- `PreviousMarker`: data was lost, so a gap marker comes before the next result.
-- `PreviousPes x s between skipped`: the last result `x` was read for the PES packet `s` and has
-- the same start. Between the starts of `s` and of the next PES packet sent are `between` TS
-- packets with payload, and `skipped` is true if a PES packet between them has no result.
pub data PreviousResult : Type 0 where
  Nothing : PreviousResult
  PreviousMarker : PreviousResult
  PreviousPes : List ℕ → SentPes SentUnit → ℕ → Bool → PreviousResult

abbrev pub skip : PreviousResult → SentPes SentUnit → PreviousResult
skip Nothing t = Nothing
skip PreviousMarker t = PreviousMarker
skip (PreviousPes x s between skipped) t = PreviousPes x s (between + length (carriers_of_pes t))
    true

-- A gap marker may be missing before the next result only in three cases: there is no earlier
-- result; the earlier result is the PES packet as sent, and all PES packets after it have results;
-- or 16 or more TS packets with payload are between them.
abbrev pub Fits : PreviousResult → Bool → Type 0
Fits Nothing marked = ⊤
Fits PreviousMarker marked = marked ≡ true
Fits (PreviousPes x s between skipped) marked =
    marked ≡ false → (16 ≤ between) ⊎ ((skipped ≡ false) × (x ≡ s.bytes))

abbrev pub has_previous : PreviousResult → Bool
has_previous Nothing = false
has_previous PreviousMarker = true
has_previous (PreviousPes x s between skipped) = true

abbrev pub is_gap : PreviousResult → Bool
is_gap Nothing = true
is_gap PreviousMarker = true
is_gap (PreviousPes x s between skipped) = skipped || is_damaged_after s

abbrev pub IsMarkerExpected : Bool → PreviousResult → SentPes SentUnit → Bool → Type 0
IsMarkerExpected few previous s marked =
    few ≡ true → marked ≡
    (has_previous previous && (is_gap previous || any_unit_damaged (units_before_copy s.first)))

-- The reader may output `pes_packets` for the PES packets sent after the result `previous`. Each
-- PES packet has at most one result, with the same start. The results are in order, with at most
-- one gap marker before each of them and after the last. If fewer than 15 consecutive TS packets
-- with payload are missing or damaged (`few`), the results are exactly the PES packets that arrive.
abbrev pub ReadsSent : Bool → PreviousResult → List (SentPes SentUnit) → List (List ℕ) → Type 0
ReadsSent few previous [] pes_packets =
    (marked : Bool) × (pes_packets ≡ gap_markers_where marked) × (marked ≡ true → has_previous
    previous ≡ true)
ReadsSent few previous (s ∷ more) pes_packets =
    ((few ≡ true → arrives s ≡ false) × ReadsSent few (skip previous s) more pes_packets)
    ⊎ ((marked : Bool) × (x : List ℕ) × (rest : List (List ℕ))
    × (pes_packets ≡ gap_markers_where marked ++ (x ∷ rest))
    × (up_to_pts x ≡ up_to_pts s.bytes)
    × Fits previous marked
    × ReadsSent few (PreviousPes x s (length s.others) false) more rest
    × (few ≡ true → (arrives s ≡ true) × (x ≡ s.bytes))
    × IsMarkerExpected few previous s marked)

pub reads-marked : (few : Bool) (x : List ℕ) (s : SentPes SentUnit) (between : ℕ) (skipped : Bool)
    (sent : List (SentPes SentUnit)) (pes_packets : List (List ℕ))
    → (few ≡ true → (skipped || is_damaged_after s) ≡ true)
    → ReadsSent few PreviousMarker sent pes_packets
    → ReadsSent few (PreviousPes x s between skipped) sent pes_packets
reads-marked few x s between skipped [] pes_packets gap h = (h.0, h.1, λ e. refl)
reads-marked few x s between skipped (t ∷ more) pes_packets gap h = elim h [
  | inl later ↦
      inl (
        later.0,
        reads-marked few x s (between + length (carriers_of_pes t)) true more pes_packets
            (λ e. refl)
            later.1,
      )
  | inr here ↦
      inr (
        here.0,
        here.1,
        here.2,
        here.3,
        here.4,
        λ none. absurd (cc (here.5, none)),
        here.6,
        here.7,
        λ e. here.8 e
            ∙ ap (λ (z : Bool). z || any_unit_damaged (units_before_copy t.first)) (sym (gap e)),
      )
]

gap_markers-same : (marked : Bool) → AllByRecursion (λ p. p ≡ gap_marker) (gap_markers_where marked)
gap_markers-same true = (refl, tt)
gap_markers-same false = tt

pub no-pes_packet : (pes_packets before tail : List (List ℕ)) (x : List ℕ)
    → AllByRecursion (λ p. p ≡ gap_marker) pes_packets
    → pes_packets ≡ before ++ (x ∷ tail)
    → x ≡ gap_marker
no-pes_packet [] before tail x all e = absurd (not-empty before tail x e)
no-pes_packet (p ∷ pes_packets) [] tail x all e = sym (equal_lists_have_equal_heads p x pes_packets
    tail e) ∙ all.0
no-pes_packet (p ∷ pes_packets) (q ∷ before) tail x all e =
    no-pes_packet pes_packets before tail x all.1 (equal_lists_have_equal_tails p q pes_packets
    (before ++ (x ∷ tail)) e)

module _ (few : Bool) (IsFar : List (SentPes SentUnit) → Type 0)
    (following-far : (s : SentPes SentUnit) (more : List (SentPes SentUnit)) → IsFar (s ∷ more) →
    IsFar
    more)
  where
    -- The result `x` has the same start as one of the PES packets sent, and is equal to that PES
    -- packet if fewer than 15 consecutive TS packets with payload are missing or damaged.
    pub record IsLocated
        (x : List ℕ) (tail : List (List ℕ)) (sent : List (SentPes SentUnit))
        : Type 0 where
      pub earlier : List (List ℕ)
      pub here : SentPes SentUnit
      pub later : List (SentPes SentUnit)
      pub sent_bytes_eq : sent_bytes sent ≡ earlier ++ (here.bytes ∷ sent_bytes later)
      pub prefix : up_to_pts x ≡ up_to_pts here.bytes
      pub reads : ReadsSent few (PreviousPes x here (length here.others) false) later tail
      pub equals_sent_bytes : few ≡ true → x ≡ here.bytes
      pub far : IsFar (here ∷ later)

    read_packet_was_sent-following : (x : List ℕ) (tail : List (List ℕ)) (s : SentPes SentUnit)
        (more : List (SentPes SentUnit))
        → IsLocated x tail more
        → IsLocated x tail (s ∷ more)
    read_packet_was_sent-following x tail s more h = record {
      earlier = s.bytes ∷ h.earlier;
      here = h.here;
      later = h.later;
      sent_bytes_eq = ap (λ (l : List (List ℕ)). s.bytes ∷ l) h.sent_bytes_eq;
      prefix = h.prefix;
      reads = h.reads;
      equals_sent_bytes = h.equals_sent_bytes;
      far = h.far;
    }

    read_packet_was_sent-here : (s : SentPes SentUnit) (more : List (SentPes SentUnit)) (y : List ℕ)
        (rest before tail : List (List ℕ)) (x : List ℕ)
        → y ∷ rest ≡ before ++ (x ∷ tail)
        → up_to_pts y ≡ up_to_pts s.bytes
        → ReadsSent few (PreviousPes y s (length s.others) false) more rest
        → (few ≡ true → y ≡ s.bytes)
        → IsFar (s ∷ more)
        → ((others : List (List ℕ)) → rest ≡ others ++ (x ∷ tail) → IsLocated x tail more)
        → IsLocated x tail (s ∷ more)
    read_packet_was_sent-here s more y rest [] tail x e prefix reads equals_sent_bytes far go =
        let same = equal_lists_have_equal_heads y x rest tail e in
        let following = equal_lists_have_equal_tails y x rest tail e in
        record {
          earlier = [];
          here = s;
          later = more;
          sent_bytes_eq = refl;
          prefix = ap up_to_pts (sym same) ∙ prefix;
          reads =
              subst (λ (z : List ℕ). ReadsSent few (PreviousPes z s (length s.others) false) more
              tail) same
              (subst (ReadsSent few (PreviousPes y s (length s.others) false) more) following
              reads);
          equals_sent_bytes = λ f. sym same ∙ equals_sent_bytes f;
          far = far;
        }
    read_packet_was_sent-here s more y rest (z ∷ before) tail x e prefix reads equals_sent_bytes far
        go =
        read_packet_was_sent-following x tail s more
        (go before (equal_lists_have_equal_tails y z rest (before ++ (x ∷ tail)) e))

    read_packet_was_sent-marked : (marked : Bool) (s : SentPes SentUnit)
        (more : List (SentPes SentUnit)) (y : List ℕ)
        (rest before tail : List (List ℕ)) (x : List ℕ)
        → gap_markers_where marked ++ (y ∷ rest) ≡ before ++ (x ∷ tail)
        → (x ≡ gap_marker → ⊥)
        → up_to_pts y ≡ up_to_pts s.bytes
        → ReadsSent few (PreviousPes y s (length s.others) false) more rest
        → (few ≡ true → y ≡ s.bytes)
        → IsFar (s ∷ more)
        → ((others : List (List ℕ)) → rest ≡ others ++ (x ∷ tail) → IsLocated x tail more)
        → IsLocated x tail (s ∷ more)
    read_packet_was_sent-marked false s more y rest before tail x e none prefix reads
        equals_sent_bytes far go =
        read_packet_was_sent-here s more y rest before tail x e prefix reads equals_sent_bytes far
        go
    read_packet_was_sent-marked true s more y rest [] tail x e none prefix reads equals_sent_bytes
        far go =
        absurd (none (sym (equal_lists_have_equal_heads gap_marker x (y ∷ rest) tail e)))
    read_packet_was_sent-marked true s more y rest (z ∷ before) tail x e none prefix reads
        equals_sent_bytes far go =
        read_packet_was_sent-here s more y rest before tail x
        (equal_lists_have_equal_tails gap_marker z (y ∷ rest) (before ++ (x ∷ tail)) e)
        prefix reads equals_sent_bytes far go

    pub read_packet_was_sent : (previous : PreviousResult) (sent : List (SentPes SentUnit))
        (pes_packets before tail :
        List (List ℕ))
        (x : List ℕ)
        → ReadsSent few previous sent pes_packets
        → pes_packets ≡ before ++ (x ∷ tail)
        → (x ≡ gap_marker → ⊥)
        → IsFar sent
        → IsLocated x tail sent
    read_packet_was_sent previous [] pes_packets before tail x reads e none far =
        absurd
        (none
        (no-pes_packet pes_packets before tail x
        (subst (AllByRecursion (λ p. p ≡ gap_marker)) (sym reads.1) (gap_markers-same reads.0)) e))
    read_packet_was_sent previous (s ∷ more) pes_packets before tail x reads e none
        far = elim reads [
          | inl later ↦
              read_packet_was_sent-following x tail s more
              (read_packet_was_sent (skip previous s) more pes_packets before tail x later.1 e none
              (following-far s more far))
          | inr here ↦
              read_packet_was_sent-marked here.0 s more here.1 here.2 before tail x (sym here.3 ∙ e)
              none here.4
              here.6 (λ f. (here.7 f).1) far
              (λ others f.
              read_packet_was_sent (PreviousPes here.1 s (length s.others) false) more here.2 others
              tail x here.6 f none
              (following-far s more far))
        ]

module _ (frame_of : List ℕ → ℕ) (pace : ℕ) where
  record Follows (x : List ℕ) (s : SentPes SentUnit) (skipped : Bool)
      (more : List (SentPes SentUnit))
      (run : List (List ℕ)) (last : List ℕ) : Type 0 where
    skips_nothing : skipped ≡ false
    equals_sent_bytes : x ≡ s.bytes
    later : List (List ℕ)
    next : List ℕ
    sent_bytes_eq : sent_bytes more ≡ run ++ (next ∷ later)
    prefix : up_to_pts next ≡ up_to_pts last

  -- If PES packets with 16 or more TS packets with payload between their starts are more than
  -- `pace` frames apart, those read at most `pace` frames apart have fewer between their starts.
  too-far : (x y a b : List ℕ) (between : ℕ)
      → up_to_pts x ≡ up_to_pts a
      → up_to_pts y ≡ up_to_pts b
      → (16 ≤ between → frame_up_to_pts frame_of a + pace < frame_up_to_pts frame_of b)
      → frame_up_to_pts frame_of y ≤ frame_up_to_pts frame_of x + pace
      → 16 ≤ between
      → ⊥
  too-far x y a b between h1 h2 h3 h4 h5 =
      let far = h3 h5 in
      let first = ap frame_of h1 in
      let second = ap frame_of h2 in
      omega (arith, far, h4, first, second)

  as-sent : (x y : List ℕ) (s t : SentPes SentUnit) (between : ℕ) (skipped : Bool)
      → up_to_pts x ≡ up_to_pts s.bytes
      → up_to_pts y ≡ up_to_pts t.bytes
      → (16 ≤ between
      → frame_up_to_pts frame_of s.bytes + pace < frame_up_to_pts frame_of t.bytes)
      → frame_up_to_pts frame_of y ≤ frame_up_to_pts frame_of x + pace
      → (16 ≤ between) ⊎ ((skipped ≡ false) × (x ≡ s.bytes))
      → (skipped ≡ false) × (x ≡ s.bytes)
  as-sent x y s t between skipped h1 h2 h3 h4 (inl far) =
      absurd (too-far x y s.bytes t.bytes between h1 h2 h3 h4 far)
  as-sent x y s t between skipped h1 h2 h3 h4 (inr next) = next

  follows-here : (x : List ℕ) (s : SentPes SentUnit) (between : ℕ) (skipped : Bool)
      (t : SentPes SentUnit) (more : List (SentPes SentUnit)) (y : List ℕ)
      (rest run : List (List ℕ))
      (last : List ℕ) (following : List (List ℕ))
      → y ∷ rest ≡ run ++ (last ∷ following)
      → HasNoGapMarker (run ++ last ∷ [])
      → KeepPaceFrom frame_of pace (frame_up_to_pts frame_of x) (run ++ last ∷ [])
      → up_to_pts x ≡ up_to_pts s.bytes
      → up_to_pts y ≡ up_to_pts t.bytes
      → (16 ≤ between) ⊎ ((skipped ≡ false) × (x ≡ s.bytes))
      → (16 ≤ between → frame_up_to_pts frame_of s.bytes + pace < frame_up_to_pts frame_of t.bytes)
      → ((others : List (List ℕ))
      → rest ≡ others ++ (last ∷ following)
      → HasNoGapMarker (others ++ last ∷ [])
      → KeepPaceFrom frame_of pace (frame_up_to_pts frame_of y) (others ++ last ∷ [])
      → Follows y t false more others last)
      → Follows x s skipped (t ∷ more) run last
  follows-here x s between skipped t more y rest [] last following e none keep prefix second fits
      far
      go =
      let same = equal_lists_have_equal_heads y last rest following e in
      let close = subst
      (λ (z : List ℕ). frame_up_to_pts frame_of z ≤ frame_up_to_pts frame_of x + pace)
      (sym same) keep.0 in
      let first = as-sent x y s t between skipped prefix second far close fits in
      record {
        skips_nothing = first.0;
        equals_sent_bytes = first.1;
        later = sent_bytes more;
        next = t.bytes;
        sent_bytes_eq = refl;
        prefix = sym second ∙ ap up_to_pts same;
      }
  follows-here x s between skipped t more y rest (z ∷ run) last following e none keep prefix second
      fits far go =
      let same = equal_lists_have_equal_heads y z rest (run ++ (last ∷ following)) e in
      let close = subst
      (λ (w : List ℕ). frame_up_to_pts frame_of w ≤ frame_up_to_pts frame_of x + pace)
      (sym same) keep.0 in
      let first = as-sent x y s t between skipped prefix second far close fits in
      let more_eq = go run (equal_lists_have_equal_tails y z rest (run ++ (last ∷ following)) e)
      none.1
      (subst (λ (w : List ℕ). KeepPaceFrom frame_of pace (frame_up_to_pts frame_of w)
      (run ++ last ∷ []))
      (sym same) keep.1) in
      record {
        skips_nothing = first.0;
        equals_sent_bytes = first.1;
        later = more_eq.later;
        next = more_eq.next;
        sent_bytes_eq = cc (more_eq.equals_sent_bytes, same, more_eq.sent_bytes_eq);
        prefix = more_eq.prefix;
      }

  follows-marked : (marked : Bool) (x : List ℕ) (s : SentPes SentUnit) (between : ℕ)
      (skipped : Bool) (t : SentPes SentUnit) (more : List (SentPes SentUnit)) (y : List ℕ)
      (rest run : List (List ℕ)) (last : List ℕ) (following : List (List ℕ))
      → gap_markers_where marked ++ (y ∷ rest) ≡ run ++ (last ∷ following)
      → HasNoGapMarker (run ++ last ∷ [])
      → KeepPaceFrom frame_of pace (frame_up_to_pts frame_of x) (run ++ last ∷ [])
      → up_to_pts x ≡ up_to_pts s.bytes
      → up_to_pts y ≡ up_to_pts t.bytes
      → Fits (PreviousPes x s between skipped) marked
      → (16 ≤ between → frame_up_to_pts frame_of s.bytes + pace < frame_up_to_pts frame_of t.bytes)
      → ((others : List (List ℕ))
      → rest ≡ others ++ (last ∷ following)
      → HasNoGapMarker (others ++ last ∷ [])
      → KeepPaceFrom frame_of pace (frame_up_to_pts frame_of y) (others ++ last ∷ [])
      → Follows y t false more others last)
      → Follows x s skipped (t ∷ more) run last
  follows-marked false x s between skipped t more y rest run last following e none keep prefix
      second
      fits far go =
      follows-here x s between skipped t more y rest run last following e none keep prefix second
      (fits refl) far go
  follows-marked true x s between skipped t more y rest [] last following e none keep prefix second
      fits far go =
      absurd (none.0 (sym (equal_lists_have_equal_heads gap_marker last (y ∷ rest) following e)))
  follows-marked true x s between skipped t more y rest (z ∷ run) last following e none keep prefix
      second fits far go =
      absurd (none.0 (sym (equal_lists_have_equal_heads gap_marker z (y ∷ rest)
      (run ++ (last ∷ following)) e)))

  nothing-follows : (rest run : List (List ℕ)) (last : List ℕ) (following : List (List ℕ))
      → AllByRecursion (λ p. p ≡ gap_marker) rest
      → rest ≡ run ++ (last ∷ following)
      → HasNoGapMarker (run ++ last ∷ [])
      → ⊥
  nothing-follows rest [] last following all e none = none.0 (no-pes_packet rest [] following last
      all e)
  nothing-follows rest (z ∷ run) last following all e none =
      none.0 (no-pes_packet rest [] (run ++ (last ∷ following)) z all e)

  follows-later : (x : List ℕ) (s : SentPes SentUnit) (skipped : Bool) (t : SentPes SentUnit)
      (more : List (SentPes SentUnit)) (run : List (List ℕ)) (last : List ℕ)
      → Follows x s true more run last
      → Follows x s skipped (t ∷ more) run last
  follows-later x s skipped t more run last h = absurd (cc h.skips_nothing)

  follows : (x : List ℕ) (s : SentPes SentUnit) (between : ℕ) (skipped : Bool)
      (more : List (SentPes SentUnit)) (rest run : List (List ℕ)) (last : List ℕ)
      (following : List (List ℕ))
      → ReadsSent false (PreviousPes x s between skipped) more rest
      → rest ≡ run ++ (last ∷ following)
      → HasNoGapMarker (run ++ last ∷ [])
      → KeepPaceFrom frame_of pace (frame_up_to_pts frame_of x) (run ++ last ∷ [])
      → up_to_pts x ≡ up_to_pts s.bytes
      → AreFarFrom frame_of pace (frame_up_to_pts frame_of s.bytes) between more
      → AreFarApart frame_of pace more
      → Follows x s skipped more run last
  follows x s between skipped [] rest run last following reads e none keep prefix far apart =
      absurd
      (nothing-follows rest run last following
      (subst (AllByRecursion (λ p. p ≡ gap_marker)) (sym reads.1) (gap_markers-same reads.0)) e
      none)
  follows x s between skipped (t ∷ more) rest run last following reads e none keep prefix far
      apart =
      elim reads [
        | inl later ↦
            follows-later x s skipped t more run last
            (follows x s (between + length (carriers_of_pes t)) true more rest run last following
            later.1 e none keep prefix far.1 apart.1)
        | inr here ↦
            follows-marked here.0 x s between skipped t more here.1 here.2 run last following
            (sym here.3 ∙ e) none keep prefix here.4 here.5 far.0
            (λ others f has_no_gap_marker paced.
            follows here.1 t (length t.others) false more here.2 others last following here.6 f
            has_no_gap_marker paced here.4 apart.0 apart.1)
      ]

  -- The PES packets sent contain the PES packets `run`, directly followed by a PES packet with the
  -- same start as `last`.
  pub record WasSentInOrder (sent : List (SentPes SentUnit)) (run : List (List ℕ)) (last : List ℕ)
      : Type 0 where
    pub earlier : List (List ℕ)
    pub later : List (List ℕ)
    pub next : List ℕ
    pub sent_bytes_eq : sent_bytes sent ≡ earlier ++ (run ++ (next ∷ later))
    pub prefix : up_to_pts next ≡ up_to_pts last

  -- If the PES packets sent are far enough apart, those that are read at most `pace` frames apart,
  -- with no gap marker between them, were sent one after another.
  pub read-run : (previous : PreviousResult) (sent : List (SentPes SentUnit))
      (before run : List (List ℕ))
      (last : List ℕ) (following : List (List ℕ))
      → ReadsSent false previous sent (before ++ (run ++ (last ∷ following)))
      → HasNoGapMarker (run ++ last ∷ [])
      → KeepPace frame_of pace (run ++ last ∷ [])
      → AreFarApart frame_of pace sent
      → WasSentInOrder sent run last
  read-run previous sent before [] last following reads none keep far =
      let found =
      read_packet_was_sent false (AreFarApart frame_of pace) (λ s more far. far.1) previous sent
      (before ++ (last ∷ following)) before following last reads refl none.0 far in
      record {
        earlier = found.earlier;
        later = sent_bytes found.later;
        next = found.here.bytes;
        sent_bytes_eq = found.sent_bytes_eq;
        prefix = sym found.prefix;
      }
  read-run previous sent before (x ∷ run) last following reads none keep far =
      let found =
      read_packet_was_sent false (AreFarApart frame_of pace) (λ s more far. far.1) previous sent
      (before ++ (x ∷ (run ++ (last ∷ following)))) before (run ++ (last ∷ following)) x reads refl
      none.0
      far in
      let after_it =
      follows x found.here (length found.here.others) false found.later (run ++ (last ∷ following))
      run last following found.reads refl none.1 keep found.prefix found.far.0 found.far.1 in
      record {
        earlier = found.earlier;
        later = after_it.later;
        next = after_it.next;
        sent_bytes_eq =
            found.sent_bytes_eq
            ∙ ap (λ (l : List (List ℕ)). found.earlier ++ l)
            (cc (after_it.equals_sent_bytes, after_it.sent_bytes_eq));
        prefix = after_it.prefix;
      }

gap_marker-first : (x : List ℕ) (s : SentPes SentUnit) (between : ℕ)
    (sent : List (SentPes SentUnit))
    (pes_packets : List (List ℕ)) (y : List ℕ) (tail : List (List ℕ))
    → ReadsSent true (PreviousPes x s between true) sent pes_packets
    → pes_packets ≡ y ∷ tail
    → y ≡ gap_marker
gap_marker-first x s between [] pes_packets y tail reads e =
    no-pes_packet pes_packets [] tail y
    (subst (AllByRecursion (λ p. p ≡ gap_marker)) (sym reads.1) (gap_markers-same reads.0)) e
gap_marker-first x s between (t ∷ more) pes_packets y tail reads e = elim reads [
  | inl later ↦
      gap_marker-first x s (between + length (carriers_of_pes t)) more pes_packets y tail later.1 e
  | inr here ↦
      sym
      (equal_lists_have_equal_heads gap_marker y (here.1 ∷ here.2) tail
      (ap (λ (b : Bool). gap_markers_where b ++ (here.1 ∷ here.2)) (sym (here.8 refl))
      ∙ sym here.3 ∙ e))
]

pub sent-next : (x : List ℕ) (s : SentPes SentUnit) (between : ℕ) (sent : List (SentPes SentUnit))
    (pes_packets run following : List (List ℕ))
    → ReadsSent true (PreviousPes x s between false) sent pes_packets
    → pes_packets ≡ run ++ following
    → HasNoGapMarker run
    → (later : List (List ℕ)) × (sent_bytes sent ≡ run ++ later)
sent-next x s between sent pes_packets [] following reads e none = (sent_bytes sent, refl)
sent-next x s between [] pes_packets (y ∷ run) following reads e none =
    absurd
    (none.0
    (no-pes_packet pes_packets [] (run ++ following) y
    (subst (AllByRecursion (λ p. p ≡ gap_marker)) (sym reads.1) (gap_markers-same reads.0)) e))
sent-next x s between (t ∷ more) pes_packets (y ∷ run) following reads e none = elim reads [
  | inl later ↦
      absurd
      (none.0
      (gap_marker-first x s (between + length (carriers_of_pes t)) more pes_packets y
      (run ++ following) later.1
      e))
  | inr here ↦ elim (cases_Bool here.0) [
    | inl is ↦
        absurd
        (none.0
        (sym
        (equal_lists_have_equal_heads gap_marker y (here.1 ∷ here.2) (run ++ following)
        (ap (λ (b : Bool). gap_markers_where b ++ (here.1 ∷ here.2)) (sym is) ∙ sym here.3 ∙ e))))
    | inr not ↦
        let same =
        ap (λ (b : Bool). gap_markers_where b ++ (here.1 ∷ here.2)) (sym not) ∙ sym here.3 ∙ e in
        let next =
        sent-next here.1 t (length t.others) more here.2 run following here.6
        (equal_lists_have_equal_tails here.1 y here.2 (run ++ following) same) none.1 in
        let first = sym (here.7 refl).1 ∙ equal_lists_have_equal_heads here.1 y here.2
        (run ++ following) same in
        (next.0, cc (first, next.1))
  ]
]
