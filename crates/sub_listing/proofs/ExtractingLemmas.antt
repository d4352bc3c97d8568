-- After PES packets were copied one after another, and then the bytes that are not a PES packet,
-- the output has all bytes of the input, or a prefix if a device failed.
use Rattle.std.proofs.lemmas.Bool.Decides.{nat_tests}
use Rattle.std.proofs.Common.{◌≡◌, ◌∙◌, ap, refl, sym, subst, arith, ℕ, zero, suc, ◌+◌, ◌<◌, ◌≤◌}
use Rattle.std.proofs.Common.{◌++◌, List, [], Option, Some, None, length, take, drop}
use Rattle.std.proofs.Common.{append_assoc, if◌then◌else◌, take-append-drop, length-append, Ok, Err}
use Rattle.std.proofs.Common.{inr}
use Rattle.std.proofs.KnownBytes.{Appends-kept, Appends-nil, Appends-trans}
use Rattle.std.specs.Io.KnownBytes.{Appends, Keeps}
use Rattle.sub_io.specs.Device.{AppendsPrefix}
use Rattle.sub_io.proofs.DeviceLemmas.{AppendsPrefix-second, AppendsPrefix-whole}
use Rattle.ttx_pes.specs.declared.fault.PesFault.{PesFault}
use Rattle.std.proofs.lemmas.List.{append-nil, length-drop}
use Rattle.ttx_pes.specs.PesPacketRange.{rest_after_pes_packets, count_pes_packets}
use Rattle.ttx_pes.specs.PesPacketRange.{first_pes_packets, pes_packet_size}
use Rattle.ttx_pes.proofs.PesPacketRangeLemmas.{no_packet_leaves_all_bytes}
use Rattle.ttx_pes.proofs.PesPacketRangeLemmas.{rest_after_pes_packets_suc}
use Rattle.ttx_pes.proofs.PesPacketRangeLemmas.{no_packet_counts_zero}
use Rattle.ttx_pes.proofs.PesPacketRangeLemmas.{count_pes_packets_suc}
use Rattle.ttx_pes.proofs.PesPacketRangeLemmas.{first_pes_packets_suc, pes_packet_size_is_decoded}
use Rattle.sub_listing.specs.Copying.{CopiesRest, HasCopied, HasCopiedPesPackets}
use Rattle.sub_listing.specs.Extracting.{IsExtractedUntilFailure, IsExtractedCompletely}
use Rattle.sub_listing.specs.Extracting.{IsExtractedWithFault, Extracts}
use Rattle.sub_listing.specs.Extracting.{begins_with_gap_marker}
use Rattle.sub_listing.specs.Extracting.{count_gap_markers}
use Rattle.sub_listing.specs.Extracting.{max_pes_packet_count, fault_at_start}
use Rattle.sub_listing.specs.declared.extract.ExtractFault.TheVariants.{Write}
use Rattle.sub_listing.specs.declared.extract.Extracted.{Extracted}

gap_marker_count_of_successor : (n : ℕ) (b : List ℕ) (size : ℕ) → pes_packet_size b ≡ Some size
    → count_gap_markers (suc n) b
    ≡ (if begins_with_gap_marker size b then 1 else 0) + count_gap_markers n (drop size b)
unfolding count_gap_markers
gap_marker_count_of_successor n b size e = rw e refl

pub record HasOneMorePesPacket (k : ℕ) (b : List ℕ) (size : ℕ) : Type 0 where
  pub following : rest_after_pes_packets (suc k) b ≡ drop size (rest_after_pes_packets k b)
  pub first : first_pes_packets (suc k) b ≡ first_pes_packets k b ++ take size
      (rest_after_pes_packets k b)
  pub count : count_pes_packets k b ≡ k → count_pes_packets (suc k) b ≡ suc k
  pub gap_markers :
      count_gap_markers (suc k) b
      ≡ count_gap_markers k b + (if begins_with_gap_marker size (rest_after_pes_packets k b) then 1
      else 0)

pub next_pes_packet_is_counted : (k : ℕ) (b : List ℕ) (size : ℕ)
    → pes_packet_size (rest_after_pes_packets k b) ≡ Some size
    → HasOneMorePesPacket k b size
unfolding rest_after_pes_packets first_pes_packets count_pes_packets count_gap_markers
next_pes_packet_is_counted zero b size e = record {
  following = rw e refl;
  first = rw e (append-nil (take size b));
  count = λ all. rw e refl;
  gap_markers = rw e (omega arith);
}
next_pes_packet_is_counted (suc k) b size e =
    go (pes_packet_size b) refl
    (λ s is. next_pes_packet_is_counted k (drop s b) size
    (ap pes_packet_size (sym (rest_after_pes_packets_suc k b s is)) ∙ e))
  where
    go : (o : Option ℕ) → pes_packet_size b ≡ o
        → ((s : ℕ) → pes_packet_size b ≡ Some s → HasOneMorePesPacket k (drop s b) size)
        → HasOneMorePesPacket (suc k) b size
    go None is others = let same = no_packet_leaves_all_bytes (suc k) b is in absurd cc
    go (Some s) is others =
        let more = others s is in
        record {
          following =
              rest_after_pes_packets_suc (suc k) b s is ∙ more.following
              ∙ ap (drop size) (sym (rest_after_pes_packets_suc k b s is));
          first =
              first_pes_packets_suc (suc k) b s is
              ∙ ap (λ l. take s b ++ l) more.first
              ∙ sym (append_assoc (take s b) (first_pes_packets k (drop s b))
              (take size (rest_after_pes_packets k (drop s b))))
              ∙ ap (λ l. l ++ take size (rest_after_pes_packets k (drop s b)))
              (sym (first_pes_packets_suc k b s is))
              ∙ ap (λ l. first_pes_packets (suc k) b ++ take size l)
              (sym (rest_after_pes_packets_suc k b s is));
          count = λ all.
              let here = count_pes_packets_suc k b s is in
              let there = more.count (omega (arith, here, all)) in
              count_pes_packets_suc (suc k) b s is ∙ ap suc there;
          gap_markers =
              let one = gap_marker_count_of_successor (suc k) b s is in
              let before = gap_marker_count_of_successor k b s is in
              let others = more.gap_markers in
              let same = rest_after_pes_packets_suc k b s is in
              rw same (omega (arith, one, before, others));
        }

-- If bytes begin with at least k PES packets, the first k packets, followed by the remaining bytes,
-- are all these bytes.
pub packets_and_rest_make_bytes : (k : ℕ) (b : List ℕ)
    → count_pes_packets k b ≡ k
    → first_pes_packets k b ++ rest_after_pes_packets k b ≡ b
unfolding rest_after_pes_packets first_pes_packets count_pes_packets
packets_and_rest_make_bytes zero b all = refl
packets_and_rest_make_bytes (suc k) b all =
    go (pes_packet_size b) refl (λ s. packets_and_rest_make_bytes k (drop s b))
  where
    go : (o : Option ℕ) → pes_packet_size b ≡ o
        → ((s : ℕ) → count_pes_packets k (drop s b) ≡ k
        → first_pes_packets k (drop s b) ++ rest_after_pes_packets k (drop s b) ≡ drop s b)
        → first_pes_packets (suc k) b ++ rest_after_pes_packets (suc k) b ≡ b
    go None is others = let none = no_packet_counts_zero (suc k) b is in absurd
        (omega (arith, none, all))
    go (Some s) is others =
        let here = count_pes_packets_suc k b s is in
        let rest = others s (omega (arith, here, all)) in
        rw (first_pes_packets_suc k b s is, rest_after_pes_packets_suc k b s is)
        (append_assoc (take s b) (first_pes_packets k (drop s b)) (rest_after_pes_packets k
        (drop s b))
        ∙ ap (λ l. take s b ++ l) rest
        ∙ take-append-drop s b)

-- A list of bytes begins with at most as many PES packets as it has bytes.
pub pes_packet_count_is_bounded : (k : ℕ) (b : List ℕ) → count_pes_packets k b ≤ length b
unfolding count_pes_packets
pes_packet_count_is_bounded zero b = omega arith
pes_packet_count_is_bounded (suc k) b = go (pes_packet_size b) refl
    (λ s. pes_packet_count_is_bounded k (drop s b))
  where
    go : (o : Option ℕ) → pes_packet_size b ≡ o
        → ((s : ℕ) → count_pes_packets k (drop s b) ≤ length (drop s b))
        → count_pes_packets (suc k) b ≤ length b
    go None is others = let none = no_packet_counts_zero (suc k) b is in omega (arith, none)
    go (Some s) is others =
        let here = count_pes_packets_suc k b s is in
        let reported = pes_packet_size_is_decoded b s is in
        let large = reported.0 in
        let within = reported.2 in
        let less = length-drop s b in
        let rest = others s in
        omega (arith, here, large, within, less, rest)

pub zero_pes_packets_are_copied : (bytes : List ℕ) (reported old : Option (List ℕ))
    → reported ≡ Some bytes
    → HasCopiedPesPackets bytes reported old old 0 0
unfolding rest_after_pes_packets first_pes_packets count_pes_packets count_gap_markers
zero_pes_packets_are_copied bytes reported old is = record {
  left_eq = is;
  written = Appends-nil old;
  number = refl;
  gap_markers = refl;
}

pub copying_next_adds_packet : (bytes : List ℕ) (left next old mid new : Option (List ℕ))
    (k gaps more size : ℕ)
    → HasCopiedPesPackets bytes left old mid k gaps
    → pes_packet_size (rest_after_pes_packets k bytes) ≡ Some size
    → HasCopied (rest_after_pes_packets k bytes) next mid new size
    → more ≡ gaps + (if begins_with_gap_marker size (rest_after_pes_packets k bytes) then 1 else 0)
    → HasCopiedPesPackets bytes next old new (k + 1) more
copying_next_adds_packet bytes left next old mid new k gaps more size so_far is copied counted =
    let one = next_pes_packet_is_counted k bytes size is in
    let rises : k + 1 ≡ suc k = omega arith in
    rw rises (record {
      left_eq = copied.left_eq ∙ ap Some (sym one.following);
      written =
          subst (Appends old new) (sym one.first)
          (Appends-trans old mid new (first_pes_packets k bytes)
          (take size (rest_after_pes_packets k bytes))
          so_far.written copied.written);
      number = one.count so_far.number;
      gap_markers =
          counted
          ∙ ap (λ n. n + (if begins_with_gap_marker size (rest_after_pes_packets k bytes) then 1
          else 0))
          so_far.gap_markers
          ∙ sym one.gap_markers;
    })

pub partial_rest_gives_prefix : (bytes : List ℕ) (left old mid new : Option (List ℕ)) (k gaps : ℕ)
    → HasCopiedPesPackets bytes left old mid k gaps
    → AppendsPrefix mid new (rest_after_pes_packets k bytes)
    → AppendsPrefix old new bytes
partial_rest_gives_prefix bytes left old mid new k gaps so_far part =
    subst (AppendsPrefix old new) (packets_and_rest_make_bytes k bytes so_far.number)
    (AppendsPrefix-second old mid new (first_pes_packets k bytes) (rest_after_pes_packets k bytes)
    so_far.written part)

pub complete_rest_gives_all : (bytes : List ℕ) (left old mid new : Option (List ℕ)) (k gaps : ℕ)
    → HasCopiedPesPackets bytes left old mid k gaps
    → Appends mid new (rest_after_pes_packets k bytes)
    → Appends old new bytes
complete_rest_gives_all bytes left old mid new k gaps so_far rest =
    subst (Appends old new) (packets_and_rest_make_bytes k bytes so_far.number)
    (Appends-trans old mid new (first_pes_packets k bytes) (rest_after_pes_packets k bytes)
    so_far.written rest)

keeping_appends_nothing : (mid new : Option (List ℕ)) → Keeps mid new → Appends mid new []
keeping_appends_nothing mid new kept = Appends-kept mid mid new [] (Appends-nil mid) kept

pub empty_rest_completes_extraction : (bytes : List ℕ) (left old mid new : Option (List ℕ))
    (k gaps : ℕ)
    → HasCopiedPesPackets bytes left old mid k gaps
    → rest_after_pes_packets k bytes ≡ []
    → Keeps mid new
    → 0 < k
    → IsExtractedCompletely bytes old new k gaps
empty_rest_completes_extraction bytes left old mid new k gaps so_far none kept some = record {
  pes_packets = so_far.number;
  whole = none;
  gap_markers = so_far.gap_markers;
  some = some;
  written =
      complete_rest_gives_all bytes left old mid new k gaps so_far
      (rw none (keeping_appends_nothing mid new kept));
}

pub zero_packets_mean_no_bytes : (bytes : List ℕ) (left old mid new : Option (List ℕ)) (k gaps : ℕ)
    → HasCopiedPesPackets bytes left old mid k gaps
    → rest_after_pes_packets k bytes ≡ []
    → Keeps mid new
    → k ≡ 0
    → (bytes ≡ []) × Keeps old new
unfolding rest_after_pes_packets first_pes_packets
zero_packets_mean_no_bytes bytes left old mid new k gaps so_far none kept is = grind
    (arith, nat_tests, append-nil)

pub rejected_rest_ends_extraction : (bytes : List ℕ) (left old mid new : Option (List ℕ))
    (k gaps : ℕ) (f : PesFault)
    → HasCopiedPesPackets bytes left old mid k gaps
    → fault_at_start (rest_after_pes_packets k bytes) ≡ Some f
    → CopiesRest (rest_after_pes_packets k bytes) mid new (Ok tt)
    → IsExtractedWithFault bytes old new f k
rejected_rest_ends_extraction bytes left old mid new k gaps f so_far is rest =
    let all = ap length (packets_and_rest_make_bytes k bytes so_far.number) in
    let joined = length-append (first_pes_packets k bytes) (rest_after_pes_packets k bytes) in
    record {
      pes_packets = so_far.number;
      taken = partial_rest_gives_prefix bytes left old mid new k gaps so_far rest.0;
      written = λ few.
          complete_rest_gives_all bytes left old mid new k gaps so_far
          (rest.1 (omega (arith, few, all, joined)));
      refused = λ few. is;
    }

pub pes_packet_count_is_exceeded : (bytes : List ℕ) (left old mid : Option (List ℕ)) (k gaps : ℕ)
    (f : PesFault)
    → HasCopiedPesPackets bytes left old mid k gaps
    → k ≡ max_pes_packet_count
    → IsExtractedWithFault bytes old mid f max_pes_packet_count
pes_packet_count_is_exceeded bytes left old mid k gaps f so_far is =
    let few = pes_packet_count_is_bounded k bytes in
    let number = so_far.number in
    let large : max_pes_packet_count ≤ length bytes = omega (arith, few, number, is) in
    record {
      pes_packets = rw (sym is) number;
      taken =
          partial_rest_gives_prefix bytes left old mid mid k gaps so_far
          (0, omega arith, Appends-nil mid);
      written = λ less. absurd (omega (arith, large, less));
      refused = λ less. absurd (omega (arith, large, less));
    }

pub source_failed_after_packets : (bytes : List ℕ) (left old mid new : Option (List ℕ)) (k gaps : ℕ)
    → HasCopiedPesPackets bytes left old mid k gaps
    → Keeps mid new
    → IsExtractedUntilFailure bytes old new k
source_failed_after_packets bytes left old mid new k gaps so_far kept = grind (arith, nat_tests)

pub source_failed_in_rest : (bytes : List ℕ) (left old mid new : Option (List ℕ)) (k gaps : ℕ)
    (f : PesFault)
    → HasCopiedPesPackets bytes left old mid k gaps
    → fault_at_start (rest_after_pes_packets k bytes) ≡ Some f
    → AppendsPrefix mid new (rest_after_pes_packets k bytes)
    → IsExtractedUntilFailure bytes old new k
source_failed_in_rest bytes left old mid new k gaps f so_far is part = record {
  pes_packets = so_far.number;
  following = mid;
  given = so_far.written;
  rest = inr (f, is, part);
}

-- If extraction succeeded, and storing the file keeps the bytes written to it, extraction is still
-- successful after the file is stored.
pub extracted-stored : (known old mid new : Option (List ℕ)) (e : Extracted)
    → Extracts known old mid (Ok e)
    → Keeps mid new
    → Extracts known old new (Ok e)
extracted-stored known old mid new e given kept = λ bytes is.
    let g = given bytes is in record {
      pes_packets = g.pes_packets;
      whole = g.whole;
      gap_markers = g.gap_markers;
      some = g.some;
      written = Appends-kept _ _ _ _ g.written kept;
    }

-- If all bytes were written, but the file could not be stored, the file received a prefix of the
-- bytes.
pub extracted-lost : (known old mid new : Option (List ℕ)) (e : Extracted)
    → Extracts known old mid (Ok e)
    → Keeps mid new
    → Extracts known old new (Err Write)
extracted-lost known old mid new e given kept = λ bytes is.
    AppendsPrefix-whole old new bytes (Appends-kept _ _ _ _ (given bytes is).written kept)
