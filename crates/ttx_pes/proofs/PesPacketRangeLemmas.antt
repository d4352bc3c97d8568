-- If bytes begin with a complete PES packet, the functions that skip, count or take n + 1 packets
-- process this packet, and then n packets of the bytes after it.
use Rattle.std.proofs.Common.{◌≡◌, ℕ, zero, suc, ◌<◌, ◌≤◌, List, ◌++◌, length, take, drop}
use Rattle.std.proofs.Common.{Some, None, Result, Ok, Err, refl, sym, ap, ◌∙◌, cond, inl, inr}
use Rattle.std.proofs.Common.{arith}
use Rattle.std.proofs.lemmas.Bool.{cases_lt, le-leb, le-ltb, lt-ltb}
use Rattle.std.proofs.lemmas.Bool.Decides.{nat_tests}
use Rattle.std.specs.Result.{result_ok}
use Rattle.ttx_pes.specs.PesPacketRange.{rest_after_pes_packets, count_pes_packets}
use Rattle.ttx_pes.specs.PesPacketRange.{first_pes_packets, size_if_complete}
use Rattle.ttx_pes.specs.PesPacketRange.{pes_packet_size, stated_packet_size}
use Rattle.ttx_pes.specs.Reading.{size_at}
use Rattle.ttx_pes.specs.declared.fault.PesFault.{PesFault}

pub whole : (b : List ℕ) (size : ℕ) → stated_packet_size b ≡ Some size → size ≤ length b
    → pes_packet_size b ≡ Some size
unfolding pes_packet_size
whole b size e le = rw (e, le-leb size (length b) le) refl

stated_size_covers_header : (h : List ℕ) (size : ℕ) → size_at h ≡ Ok size → 6 ≤ size
unfolding size_at
stated_size_covers_header h size e = grind (arith, nat_tests)

complete_size_is_stated : (count size : ℕ) (r : Result ℕ PesFault)
    → size_if_complete count (result_ok r) ≡ Some size
    → (r ≡ Ok size) × (size ≤ count)
complete_size_is_stated count size (Err f) e = absurd cc
complete_size_is_stated count size (Ok reported) e = grind (arith, nat_tests)

pub pes_packet_size_is_decoded : (b : List ℕ) (size : ℕ)
    → pes_packet_size b ≡ Some size
    → (6 ≤ size) × (size_at (take 6 b) ≡ Ok size) × (size ≤ length b)
unfolding pes_packet_size stated_packet_size
pes_packet_size_is_decoded b size e = elim (cases_lt (length b) 6) [
  | inl lt ↦ let short = lt-ltb (length b) 6 lt in absurd cc
  | inr le ↦
      let long = le-ltb (length b) 6 le in
      let reported = complete_size_is_stated (length b) size (size_at (take 6 b))
      (ap (λ c. size_if_complete (length b) (cond c None (result_ok (size_at (take 6 b)))))
      (sym long) ∙
      e)
      in
      (stated_size_covers_header (take 6 b) size reported.0, reported.0, reported.1)
]

pub no_packet_leaves_all_bytes : (n : ℕ) (b : List ℕ) → pes_packet_size b ≡ None →
    rest_after_pes_packets n b ≡
    b
unfolding rest_after_pes_packets
no_packet_leaves_all_bytes zero b e = refl
no_packet_leaves_all_bytes (suc n) b e = rw e refl

pub no_packet_counts_zero : (n : ℕ) (b : List ℕ) → pes_packet_size b ≡ None → count_pes_packets n b
    ≡ 0
unfolding count_pes_packets
no_packet_counts_zero zero b e = refl
no_packet_counts_zero (suc n) b e = rw e refl

pub no_packet_takes_all_bytes : (n : ℕ) (b : List ℕ) → 0 < n → pes_packet_size b ≡ None →
    first_pes_packets n b ≡ b
unfolding first_pes_packets
no_packet_takes_all_bytes zero b lt e = absurd (omega arith)
no_packet_takes_all_bytes (suc n) b lt e = rw e refl

pub rest_after_pes_packets_suc : (n : ℕ) (b : List ℕ) (size : ℕ) → pes_packet_size b ≡ Some size
    → rest_after_pes_packets (suc n) b ≡ rest_after_pes_packets n (drop size b)
unfolding rest_after_pes_packets
rest_after_pes_packets_suc n b size e = rw e refl

pub count_pes_packets_suc : (n : ℕ) (b : List ℕ) (size : ℕ) → pes_packet_size b ≡ Some size
    → count_pes_packets (suc n) b ≡ suc (count_pes_packets n (drop size b))
unfolding count_pes_packets
count_pes_packets_suc n b size e = rw e refl

pub first_pes_packets_suc : (n : ℕ) (b : List ℕ) (size : ℕ) → pes_packet_size b ≡ Some size
    → first_pes_packets (suc n) b ≡ take size b ++ first_pes_packets n (drop size b)
unfolding first_pes_packets
first_pes_packets_suc n b size e = rw e refl
