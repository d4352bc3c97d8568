-- If the joined payloads start with the bytes of a PES packet up to its PTS, the reader outputs a
-- PES packet with the same start, or notes a gap.
use Rattle.std.proofs.Common.{◌≡◌, ℕ, ◌≤◌, ◌⊎◌, inl, inr, Bool, true, false, not, ◌&&◌, ◌||◌, List}
use Rattle.std.proofs.Common.{[], ◌∷◌, ◌++◌, length, take, drop, Ok, sym, ap, ◌∙◌, arith, nat_le}
use Rattle.std.proofs.Common.{nat_lt, length-take}
use Rattle.std.specs.Int.{bytes_high_first}
use Rattle.std.proofs.lemmas.Bool.{cases_Bool}
use Rattle.std.proofs.lemmas.Bool.Decides.{nat_tests}
use Rattle.std.proofs.lemmas.List.{take-append-drop, take-append-le}
use Rattle.std.proofs.Math.Seq.{take-length}
use Rattle.ttx_pes.specs.PesGrammar.{packet_length, packet_start}
use Rattle.ttx_pes.specs.PesPackets.{IsPesPacket}
use Rattle.ttx_pes.specs.Reading.{size_at}
use Rattle.mpeg_ts.specs.CarriedPackets.{gap_marker_where}
use Rattle.mpeg_ts.specs.Parts.{Part, Pes, gap_where, outcome, part_bytes}
use Rattle.recording_laws.specs.Losses.{SentUnit}
use Rattle.recording_laws.specs.Multiplex.{SentPes}
use Rattle.recording_laws.specs.Pace.{up_to_pts}
use Rattle.recording_laws.proofs.ClosedPartLemmas.{ClosesPart, closes-broken, closes-pes_packet}
use Rattle.recording_laws.proofs.PartLemmas.{pes_packet-long, pes_packet-size}

take-less : (n m : ℕ) (l : List ℕ) → n ≤ length (take m l) → take n (take m l) ≡ take n l
take-less n m l h =
    sym (take-append-le n (take m l) (drop m l) h) ∙ ap (take n) (take-append-drop m l)

prefix-long : (n m : ℕ) (l : List ℕ) → n ≤ m → m ≤ length l → n ≤ length (take m l)
prefix-long n m l less long = omega (arith, length-take m l)

pub same-has_six_bytes : (a b : List ℕ)
    → 14 ≤ length a
    → 14 ≤ length b
    → up_to_pts a ≡ up_to_pts b
    → take 6 a ≡ take 6 b
same-has_six_bytes a b long_a long_b same =
    sym (take-less 6 14 a (prefix-long 6 14 a (omega arith) long_a))
    ∙ ap (take 6) same
    ∙ take-less 6 14 b (prefix-long 6 14 b (omega arith) long_b)

pes_packet-has_six_bytes : (b : List ℕ) (h : IsPesPacket b)
    → take 6 b ≡ packet_start ++ bytes_high_first 2 (packet_length h.n)
pes_packet-has_six_bytes b h = ap (take 6) h.bytes

pes_packet-as : (b x : List ℕ)
    → IsPesPacket b
    → take 6 x ≡ take 6 b
    → length x ≡ length b
    → IsPesPacket x
pes_packet-as b x h has_six_bytes long = record {
  n = h.n;
  body = drop 6 x;
  bytes = sym (take-append-drop 6 x) ∙ ap (λ (l : List ℕ). l ++ drop 6 x)
      (has_six_bytes ∙ pes_packet-has_six_bytes b h);
  size = h.size;
  long = long ∙ h.long;
}

pub record IsPrefix (part : Part) (s : SentPes SentUnit) : Type 0 where
  pub begins : part.begins ≡ true
  pub long : 14 ≤ length (part_bytes part)
  pub same : up_to_pts (part_bytes part) ≡ up_to_pts s.bytes
  pub is_pes_packet : IsPesPacket s.bytes

abbrev pub bytes_of_started_pes : Part → SentPes SentUnit → List ℕ
bytes_of_started_pes part s = take (length s.bytes) (part_bytes part)

abbrev pub is_longer : Part → SentPes SentUnit → Bool
is_longer part s = nat_lt (length s.bytes) (length (part_bytes part))

prefix-size : (part : Part) (s : SentPes SentUnit)
    → IsPrefix part s
    → size_at (take 6 (part_bytes part)) ≡ Ok (length s.bytes)
prefix-size part s h =
    let long = pes_packet-long s.bytes h.is_pes_packet in
    ap size_at (same-has_six_bytes (part_bytes part) s.bytes h.long (omega (arith, long)) h.same)
    ∙ pes_packet-size s.bytes h.is_pes_packet

outcome-prefix : (cut_off : Bool) (part : Part) (s : SentPes SentUnit)
    → IsPrefix part s
    → nat_le (length s.bytes) (length (part_bytes part)) ≡ true
    → outcome cut_off part ≡ Pes (bytes_of_started_pes part s) ∷ gap_where (is_longer part s)
unfolding outcome
outcome-prefix cut_off part s h enough =
    let size = prefix-size part s h in
    let has_six_bytes : nat_le 6 (length (part_bytes part)) ≡ true =
    let long = h.long in grind (arith, nat_tests) in
    rw (h.begins, has_six_bytes, size, enough)

outcome-short : (cut_off : Bool) (part : Part) (s : SentPes SentUnit)
    → IsPrefix part s
    → nat_le (length s.bytes) (length (part_bytes part)) ≡ false
    → outcome cut_off part ≡ gap_where (not cut_off)
unfolding outcome
outcome-short cut_off part s h short =
    let size = prefix-size part s h in
    let has_six_bytes : nat_le 6 (length (part_bytes part)) ≡ true =
    let long = h.long in grind (arith, nat_tests) in
    rw (h.begins, has_six_bytes, size, short)

given-prefix : (part : Part) (s : SentPes SentUnit)
    → IsPrefix part s
    → nat_le (length s.bytes) (length (part_bytes part)) ≡ true
    → length (bytes_of_started_pes part s) ≡ length s.bytes
    × up_to_pts (bytes_of_started_pes part s) ≡ up_to_pts s.bytes
given-prefix part s h enough = (long, prefix)
  where
    size : 184 ≤ length s.bytes
    size = pes_packet-long s.bytes h.is_pes_packet

    all : length s.bytes ≤ length (part_bytes part)
    all = grind (arith, nat_tests)

    long : length (bytes_of_started_pes part s) ≡ length s.bytes
    long = omega (arith, all, length-take (length s.bytes) (part_bytes part))

    prefix : up_to_pts (bytes_of_started_pes part s) ≡ up_to_pts s.bytes
    prefix =
        take-less 14 (length s.bytes) (part_bytes part) (omega (arith, size, long))
        ∙ h.same

given-pes_packet : (part : Part) (s : SentPes SentUnit)
    → IsPrefix part s
    → nat_le (length s.bytes) (length (part_bytes part)) ≡ true
    → IsPesPacket (bytes_of_started_pes part s)
given-pes_packet part s h enough =
    let is = given-prefix part s h enough in
    let size = pes_packet-long s.bytes h.is_pes_packet in
    let same = is.0 in
    pes_packet-as s.bytes (bytes_of_started_pes part s) h.is_pes_packet
    (same-has_six_bytes (bytes_of_started_pes part s) s.bytes (omega (arith, size, same))
    (omega (arith, size)) is.1)
    is.0

pub record ClosesStartedPes (part : Part) (given gap : Bool) (s : SentPes SentUnit) : Type 0 where
  pub pes_packet : List ℕ
  pub longer : Bool
  pub is_pes_packet : IsPesPacket pes_packet
  pub prefix : up_to_pts pes_packet ≡ up_to_pts s.bytes
  pub equals_sent_bytes : part_bytes part ≡ s.bytes → pes_packet ≡ s.bytes
  pub closes :
      ClosesPart part given gap (gap_marker_where (given && (gap || part.after_break)) ++
      pes_packet)
      true longer

pub closes-prefix : (part : Part) (given gap : Bool) (s : SentPes SentUnit)
    → IsPrefix part s
    → ClosesStartedPes part given gap s ⊎ ClosesPart part given gap [] given true
closes-prefix part given gap s h =
    elim (cases_Bool (nat_le (length s.bytes) (length (part_bytes part)))) [
      | inl enough ↦
          inl
          (record {
            pes_packet = bytes_of_started_pes part s;
            longer = is_longer part s;
            is_pes_packet = given-pes_packet part s h enough;
            prefix = (given-prefix part s h enough).1;
            equals_sent_bytes = λ e. ap (take (length s.bytes)) e ∙ take-length s.bytes;
            closes =
                closes-pes_packet part given gap (bytes_of_started_pes part s) (is_longer part s)
                (λ cut_off. outcome-prefix cut_off part s h enough);
          })
      | inr short ↦
          inr
          (closes-broken part given gap
          (record { outcome_eq = λ cut_off. outcome-short cut_off part s h short }))
    ]
