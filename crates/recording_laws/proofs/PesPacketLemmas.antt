-- Bytes can be split into PES packets in only one way.
use Rattle.std.proofs.lemmas.Bool.Decides.{nat_tests}
use Rattle.std.proofs.Common.{◌≡◌, ℕ, Bool, true, false, List, [], ◌∷◌, ◌++◌, length, length-append}
use Rattle.std.proofs.Common.{take, drop, map, Ok, refl, sym, ap, ◌∙◌, arith}
use Rattle.std.specs.List.{AllByRecursion, concat}
use Rattle.std.proofs.lemmas.List.{take-append-le}
use Rattle.std.proofs.Math.Seq.{drop-append_seam, take-append_seam}
use Rattle.ttx_pes.specs.PesPackets.{IsPesPacket}
use Rattle.ttx_pes.specs.Reading.{size_at}
use Rattle.mpeg_ts.specs.CarriedPackets.{gap_marker, gap_marker_where}
use Rattle.recording_laws.specs.Losses.{SentUnit}
use Rattle.recording_laws.specs.Multiplex.{SentPes}
use Rattle.recording_laws.proofs.PartLemmas.{pes_packet-long, pes_packet-size}

pub equal_lists_have_equal_heads : {A : Type 0} (x y : A) (xs ys : List A) → x ∷ xs ≡ y ∷ ys → x ≡ y
equal_lists_have_equal_heads x y xs ys e = cc

pub equal_lists_have_equal_tails : {A : Type 0} (x y : A) (xs ys : List A) → x ∷ xs ≡ y ∷ ys → xs ≡
    ys
equal_lists_have_equal_tails x y xs ys e = cc

pub not-empty : {A : Type 0} (xs ys : List A) (y : A) → [] ≡ xs ++ (y ∷ ys) → ⊥
not-empty [] ys y e = cc
not-empty (x ∷ xs) ys y e = cc

prefix-size : (p more : List ℕ) → IsPesPacket p → size_at (take 6 (p ++ more)) ≡ Ok (length p)
prefix-size p more h1 = grind (arith, nat_tests, pes_packet-long, take-append-le, pes_packet-size)

prefix-length : (p q more others : List ℕ)
    → IsPesPacket p
    → IsPesPacket q
    → p ++ more ≡ q ++ others
    → length p ≡ length q
prefix-length p q more others h1 h2 h3 = grind (arith, nat_tests, prefix-size)

prefix-pes_packet : (p q more others : List ℕ)
    → length p ≡ length q
    → p ++ more ≡ q ++ others
    → p ≡ q
prefix-pes_packet p q more others long e =
    sym (take-append_seam p more) ∙ ap (take (length p)) e
    ∙ ap (λ (n : ℕ). take n (q ++ others)) long ∙ take-append_seam q others

prefix-rest : (p q more others : List ℕ)
    → length p ≡ length q
    → p ++ more ≡ q ++ others
    → more ≡ others
prefix-rest p q more others long e =
    sym (drop-append_seam p more) ∙ ap (drop (length p)) e
    ∙ ap (λ (n : ℕ). drop n (q ++ others)) long ∙ drop-append_seam q others

pes_packet-some : (p more : List ℕ) → IsPesPacket p → [] ≡ p ++ more → ⊥
pes_packet-some p more h1 h2 = grind (arith, nat_tests, pes_packet-long, length-append)

-- Bytes can be split into PES packets in only one way, since each PES packet contains its size.
pub one-way : (ps qs : List (List ℕ))
    → AllByRecursion IsPesPacket ps
    → AllByRecursion IsPesPacket qs
    → concat ps ≡ concat qs
    → ps ≡ qs
one-way [] [] each others e = refl
one-way [] (q ∷ qs) each others e = absurd (pes_packet-some q (concat qs) others.0 e)
one-way (p ∷ ps) [] each others e = absurd (pes_packet-some p (concat ps) each.0 (sym e))
one-way (p ∷ ps) (q ∷ qs) each others e =
    let long = prefix-length p q (concat ps) (concat qs) each.0 others.0 e in
    let first = prefix-pes_packet p q (concat ps) (concat qs) long e in
    let rest = one-way ps qs each.1 others.1 (prefix-rest p q (concat ps) (concat qs) long e) in
    cc

pub gap_marker-pes_packet : IsPesPacket gap_marker
unfolding gap_marker
gap_marker-pes_packet = grind (arith, nat_tests)

abbrev pub gap_markers_where : Bool → List (List ℕ)
gap_markers_where true = gap_marker ∷ []
gap_markers_where false = []

pub concat-gap_markers : (b : Bool) (x : List ℕ) (xs : List (List ℕ))
    → concat (gap_markers_where b ++ (x ∷ xs)) ≡ gap_marker_where b ++ (x ++ concat xs)
concat-gap_markers b x xs = grind (arith, nat_tests)

pub gap_markers-pes_packets : (b : Bool) (xs : List (List ℕ))
    → AllByRecursion IsPesPacket xs
    → AllByRecursion IsPesPacket (gap_markers_where b ++ xs)
gap_markers-pes_packets b xs h1 = grind (arith, nat_tests, gap_marker-pes_packet)

pub gap_markers-alone : (b : Bool) → AllByRecursion IsPesPacket (gap_markers_where b)
gap_markers-alone b = grind (arith, nat_tests, gap_marker-pes_packet)

pub pes_packets-append : (xs ys : List (List ℕ))
    → AllByRecursion IsPesPacket xs
    → AllByRecursion IsPesPacket ys
    → AllByRecursion IsPesPacket (xs ++ ys)
pes_packets-append [] ys each others = others
pes_packets-append (x ∷ xs) ys each others = (each.0, pes_packets-append xs ys each.1 others)

abbrev pub HasNoGapMarker : List (List ℕ) → Type 0
HasNoGapMarker run = AllByRecursion (λ p. p ≡ gap_marker → ⊥) run

abbrev pub sent_bytes : List (SentPes SentUnit) → List (List ℕ)
sent_bytes sent = map (λ s. s.bytes) sent
