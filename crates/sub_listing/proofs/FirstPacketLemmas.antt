-- If the search for the first PES packet consumes no byte, reading after the search gives the same
-- results as reading without it.
use Rattle.std.proofs.lemmas.Bool.Decides.{nat_tests}
use Rattle.std.proofs.Common.{◌≡◌, refl, sym, inr, arith, ℕ, ◌+◌, ◌≤◌, List, [], Bool}
use Rattle.std.proofs.Common.{Option, Some, None}
use Rattle.std.specs.Io.KnownBytes.{Consumes, Keeps}
use Rattle.ttx_pes.specs.Outcome.{PesOutcome, ReadsPackets, ends, fails, gives}
use Rattle.ttx_pes.specs.PesGrammar.{PesValue}
use Rattle.ttx_pes.specs.Reader.{FailsAfterValidPackets, FailsWithinPacket, TakesValidPesPackets}
use Rattle.ttx_pes.specs.Reader.{TakesValidPesPacket}
use Rattle.ttx_pes.specs.Reader.{ConsumesRefusedBytes}
use Rattle.ttx_pes.specs.declared.fault.PesFault.{PesFault}
use Rattle.ttx_pes.specs.declared.fault.PesFault.TheVariants.{Read}
use Rattle.sub_rules.specs.PesPackets.{FailsAtPesPacket}
use Rattle.sub_rules.specs.declared.fault.CheckFault.TheVariants.{Pes}
use Rattle.sub_listing.specs.DeviceCall.{SinkCall, SourceCall}
use Rattle.sub_listing.specs.Faults.{check_line}
use Rattle.sub_listing.specs.FirstPacket.{FirstNumber, PrintsCountedFrom}
use Rattle.sub_listing.specs.Listing.{PrintsListing, PrintsOrFails, fault_listing}
use Rattle.sub_listing.specs.PacketsListing.{ListsPackets, pes_listing}
use Rattle.sub_listing.specs.FaultLine.{counted_from}
use Rattle.sub_listing.specs.declared.status.Status.{Status}
use Rattle.sub_listing.specs.declared.status.Status.TheVariants.{Fault}

pub keeping_preserves_known_bytes : (old mid : Option (List ℕ)) (bytes : List ℕ)
    → Keeps old mid
    → old ≡ Some bytes
    → mid ≡ Some bytes
keeping_preserves_known_bytes None mid bytes kept reported = cc
keeping_preserves_known_bytes (Some x) None bytes kept reported = absurd kept
keeping_preserves_known_bytes (Some x) (Some y) bytes kept reported = cc

pub keeping_then_consuming_consumes : (old mid new : Option (List ℕ)) (bytes : List ℕ)
    → Keeps old mid
    → Consumes mid new bytes
    → Consumes old new bytes
keeping_then_consuming_consumes None mid new bytes kept taken = tt
keeping_then_consuming_consumes (Some x) None new bytes kept taken = absurd kept
keeping_then_consuming_consumes (Some x) (Some y) new bytes kept taken = rw (sym kept) taken

pub keeping_consumes_nothing : (old new : Option (List ℕ)) → Keeps old new → Consumes old new []
keeping_consumes_nothing None new kept = tt
keeping_consumes_nothing (Some x) None kept = absurd kept
keeping_consumes_nothing (Some x) (Some y) kept = sym kept

keeping_preserves_failure_within : (old mid new : Option (List ℕ))
    → Keeps old mid
    → FailsWithinPacket mid new
    → FailsWithinPacket old new
keeping_preserves_failure_within old mid new kept f = grind
    (arith, nat_tests, keeping_then_consuming_consumes)

keeping_preserves_valid_packet : (old mid new : Option (List ℕ)) (v : PesValue)
    → Keeps old mid
    → TakesValidPesPacket mid new v
    → TakesValidPesPacket old new v
keeping_preserves_valid_packet old mid new v kept t = grind
    (arith, nat_tests, keeping_then_consuming_consumes)

keeping_preserves_refusal : (old mid new : Option (List ℕ)) (f : PesFault)
    → Keeps old mid
    → ConsumesRefusedBytes mid new f
    → ConsumesRefusedBytes old new f
keeping_preserves_refusal old mid new f kept t = grind
    (arith, nat_tests, keeping_then_consuming_consumes)

pub keeping_preserves_packets : (n : ℕ) (old mid new : Option (List ℕ))
    → Keeps old mid
    → TakesValidPesPackets n mid new
    → TakesValidPesPackets n old new
keeping_preserves_packets n old mid new kept t = grind
    (arith, nat_tests, keeping_then_consuming_consumes)

pub keeping_preserves_packet_failure : (n : ℕ) (old mid new : Option (List ℕ))
    → Keeps old mid
    → FailsAfterValidPackets n mid new
    → FailsAfterValidPackets n old new
keeping_preserves_packet_failure n old mid new kept f = grind
    (arith, nat_tests, keeping_preserves_packets)

pub keeping_preserves_pes_failure : (n : ℕ) (old mid new : Option (List ℕ))
    → Keeps old mid
    → FailsAtPesPacket n mid new
    → FailsAtPesPacket n old new
keeping_preserves_pes_failure n old mid new kept f = grind
    (arith, nat_tests, keeping_then_consuming_consumes)

pub unchanged_bytes_allow_failure : (old new : Option (List ℕ)) → Keeps old new → FailsWithinPacket
    old new
unchanged_bytes_allow_failure old new kept = grind (arith, nat_tests, keeping_consumes_nothing)

pub unchanged_bytes_allow_packet_failure : (old new : Option (List ℕ)) → Keeps old new →
    FailsAfterValidPackets 0 old new
unchanged_bytes_allow_packet_failure old new kept = grind
    (arith, nat_tests, keeping_consumes_nothing, unchanged_bytes_allow_failure)

pub unchanged_bytes_allow_pes_failure : (old new : Option (List ℕ)) → Keeps old new →
    FailsAtPesPacket 0 old
    new
unchanged_bytes_allow_pes_failure old new kept = grind (
  arith,
  nat_tests,
  keeping_consumes_nothing,
  unchanged_bytes_allow_failure,
)

keeping_preserves_reading : (failed : Bool) (old mid : Option (List ℕ)) (o : PesOutcome)
    (left : Option (List ℕ))
    → Keeps old mid
    → ReadsPackets failed mid o left
    → ReadsPackets failed old o left
keeping_preserves_reading failed old mid ends left kept reads = grind (arith, nat_tests)
keeping_preserves_reading failed old mid (fails f) left kept reads =
    grind (arith, nat_tests, keeping_preserves_failure_within, keeping_preserves_refusal)
keeping_preserves_reading failed old mid (gives v more) left kept reads = grind
    (arith, nat_tests, keeping_preserves_valid_packet)

-- If the search found the first PES packet and consumed no byte, the listing counts PES packets
-- from the number of that packet in the file.
pub listing_counts_from_found_packet : (first : FirstNumber) (number : ℕ)
    (old mid left : Option (List ℕ))
    (old_count mid_count new_count : ℕ) (out : SinkCall) (status : Status)
    → ((n : ℕ) → first.known ≡ Some n → number ≡ n)
    → Keeps old mid
    → mid_count ≡ old_count
    → PrintsListing (ListsPackets number)
    (record { known = mid; left = left; old_count = mid_count; new_count = new_count }) out status
    → PrintsCountedFrom ListsPackets first
    (record { known = old; left = left; old_count = old_count; new_count = new_count }) out status
listing_counts_from_found_packet
    first number old mid left old_count mid_count new_count out status found kept same prints =
    grind (arith, nat_tests, keeping_preserves_known_bytes, keeping_preserves_reading)

-- If the source failed before the first PES packet was found, the listing is only the line about
-- the failure.
pub failed_search_prints_fault : (first : FirstNumber) (number : ℕ) (source : SourceCall)
    (out : SinkCall)
    (status : Status)
    → ((n : ℕ) → first.known ≡ Some n → number ≤ n)
    → number ≡ first.skipped
    → ((n : ℕ) → first.known ≡ Some n → first.left ≡ Some n)
    → Keeps source.known source.left
    → source.new_count ≡ source.old_count + 1
    → PrintsOrFails out (fault_listing (counted_from number (check_line (Pes 0 Read)))) status
    → PrintsCountedFrom ListsPackets first source out status
failed_search_prints_fault first number source out status before skipped same kept risen
    printed = record {
      number = number;
      starts = λ n is. inr (before n is, skipped, same n is, (risen, kept));
      prints = record {
        ending = Some Fault;
        listing = pes_listing number 0 (fails Read);
        is_listed = record {
          outcome = fails Read;
          listing_eq = refl;
          exact = λ bytes reported ok. cc;
          taken = λ other. (
            refl,
            λ is. unchanged_bytes_allow_failure source.known source.left kept,
            λ is. cc,
          );
        };
        source_count = risen;
        cut = λ is. cc;
        printed = printed;
      };
    }
