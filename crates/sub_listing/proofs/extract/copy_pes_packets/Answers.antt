use Rattle.std.proofs.Common.{arith, rules}
use Rattle.sub_listing.proofs.ExtractingLemmas.{source_failed_after_packets, source_failed_in_rest}
use Rattle.sub_listing.proofs.ExtractingLemmas.{copying_next_adds_packet}
use Rattle.sub_listing.proofs.ExtractingLemmas.{zero_pes_packets_are_copied}
use Rattle.sub_listing.proofs.ExtractingLemmas.{zero_packets_mean_no_bytes}
use Rattle.sub_listing.proofs.ExtractingLemmas.{partial_rest_gives_prefix}
use Rattle.sub_listing.proofs.ExtractingLemmas.{empty_rest_completes_extraction}
use Rattle.sub_listing.proofs.ExtractingLemmas.{rejected_rest_ends_extraction}
use Rattle.sub_listing.proofs.ExtractingLemmas.{pes_packet_count_is_exceeded}
use Rattle.sub_listing.proofs.extract.copy_pes_packets.Goals as goal

pub pes_packets-init : goal.pes_packets-init
pes_packets-init g c = record {
  device = search rules;
  pes_packets = search rules;
  file = search rules;
  buffered = λ none. none;
  flushed = λ some. absurd (omega (arith, some));
  few = omega arith;
  copied = λ bytes reported. zero_pes_packets_are_copied bytes _ _ reported;
}

pub returns-then-pes-eq0-clause-extracts : goal.returns-then-pes-eq0-clause-extracts
returns-then-pes-eq0-clause-extracts g c = λ bytes reported.
    let so_far = c.pes_packets.invariant.copied bytes reported in
    let next = c.in-Ok-End.ensures.reported _ so_far.left_eq in
    let here = rw c.in-Ok-End.field-0-is at next in
    zero_packets_mean_no_bytes bytes _ _ _ _ _ _ so_far here.0 here.1 c.if-pes-eq0.true

pub returns-in-Ok-End-clause-extracts : goal.returns-in-Ok-End-clause-extracts
returns-in-Ok-End-clause-extracts g c = λ bytes reported.
    let so_far = c.pes_packets.invariant.copied bytes reported in
    let next = c.in-Ok-End.ensures.reported _ so_far.left_eq in
    let here = rw c.in-Ok-End.field-0-is at next in
    empty_rest_completes_extraction bytes _ _ _ _ _ _ so_far here.0 here.1 (omega arith)

pub returns-in-Ok-clause-extracts : goal.returns-in-Ok-clause-extracts
returns-in-Ok-clause-extracts g c = λ bytes reported.
    let so_far = c.pes_packets.invariant.copied bytes reported in
    let here = rw c.in-Ok-Rest.field-0-is at (c.in-Ok-Rest.ensures.reported _ so_far.left_eq) in
    rejected_rest_ends_extraction bytes _ _ _ _ _ _ _ so_far here.0
    (rw here.2 at (c.in-Ok.ensures.reported _ here.1))

pub returns-in-Err-Read-copy_rest-clause-extracts :
    goal.returns-in-Err-Read-copy_rest-clause-extracts
returns-in-Err-Read-copy_rest-clause-extracts g c = λ bytes reported.
    let so_far = c.pes_packets.invariant.copied bytes reported in
    let here = rw c.in-Ok-Rest.field-0-is at (c.in-Ok-Rest.ensures.reported _ so_far.left_eq) in
    source_failed_in_rest bytes _ _ _ _ _ _ _ so_far here.0
    (rw here.2 at (c.in-Err-Read-copy_rest.ensures.reported _ here.1))

pub returns-in-Err-Write-copy_rest-clause-extracts :
    goal.returns-in-Err-Write-copy_rest-clause-extracts
returns-in-Err-Write-copy_rest-clause-extracts g c = λ bytes reported.
    let so_far = c.pes_packets.invariant.copied bytes reported in
    let here = rw c.in-Ok-Rest.field-0-is at (c.in-Ok-Rest.ensures.reported _ so_far.left_eq) in
    partial_rest_gives_prefix bytes _ _ _ _ _ _ so_far
    (rw here.2 at (c.in-Err-Write-copy_rest.ensures.reported _ here.1))

pub returns-in-Err-Read-clause-extracts : goal.returns-in-Err-Read-clause-extracts
returns-in-Err-Read-clause-extracts g c = λ bytes reported.
    let so_far = c.pes_packets.invariant.copied bytes reported in
    let here = rw c.in-Err-Read.field-0-is at (c.in-Err-Read.ensures.reported _ so_far.left_eq) in
    source_failed_after_packets bytes _ _ _ _ _ _ so_far here

pub returns-in-Err-Write-clause-extracts : goal.returns-in-Err-Write-clause-extracts
returns-in-Err-Write-clause-extracts g c = λ bytes reported.
    let so_far = c.pes_packets.invariant.copied bytes reported in
    let here = rw c.in-Err-Write.field-0-is at (c.in-Err-Write.ensures.reported _ so_far.left_eq) in
    partial_rest_gives_prefix bytes _ _ _ _ _ _ so_far here

pub pes_packets-preserved : goal.pes_packets-preserved
pes_packets-preserved g c = record {
  device = search rules;
  pes_packets = search rules;
  file = search rules;
  buffered = search rules;
  flushed = λ some. search rules;
  few = search rules;
  copied = λ bytes reported.
      let so_far = c.pes_packets.invariant.copied bytes reported in
      let here = rw c.in-Ok-PesPacket.field-0-is at (c.in-Ok-PesPacket.ensures.reported
      _ so_far.left_eq) in
      copying_next_adds_packet bytes _ _ _ _ _ _ _ _ here.0 so_far here.1 here.3 (search rules);
}

pub returns-clause-extracts : goal.returns-clause-extracts
returns-clause-extracts g c = λ bytes reported.
    pes_packet_count_is_exceeded bytes _ _ _ _ _ _ (c.pes_packets.invariant.copied bytes reported)
    (omega arith)
