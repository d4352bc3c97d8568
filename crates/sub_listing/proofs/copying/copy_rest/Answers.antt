use Rattle.std.proofs.Common.{arith, rules}
use Rattle.sub_io.proofs.DeviceLemmas.{AppendsPrefix-whole}
use Rattle.sub_listing.proofs.CopyingLemmas.{all_bytes_are_copied_at_end}
use Rattle.sub_listing.proofs.CopyingLemmas.{failed_write_appends_prefix, copied_bytes_grow}
use Rattle.sub_listing.proofs.CopyingLemmas.{zero_bytes_are_copied}
use Rattle.sub_listing.proofs.CopyingLemmas.{copied_bytes_are_prefix}
use Rattle.sub_listing.proofs.copying.copy_rest.Goals as goal

pub reads-init : goal.reads-init
reads-init g c = record {
  rest = search rules;
  device = search rules;
  pes_packets = search rules;
  file = search rules;
  buffered = λ none. none;
  copied = λ bytes reported. zero_bytes_are_copied bytes _ _ reported;
}

pub returns-in_default-clause-reported : goal.returns-in_default-clause-reported
returns-in_default-clause-reported g c = λ bytes reported.
    copied_bytes_are_prefix bytes _ _ _ _ (c.reads.invariant.copied bytes reported)

pub returns-then-n-eq0-clause-reported : goal.returns-then-n-eq0-clause-reported
returns-then-n-eq0-clause-reported g c = λ bytes reported.
    let taken = c.in-Ok.ensures.bytes in
    let none = c.if-n-eq0.true in
    let all =
    all_bytes_are_copied_at_end bytes _ _ _ _ _ (c.reads.invariant.copied bytes reported)
    (rw none at taken.0)
    (taken.1 none (omega arith)) in
    (AppendsPrefix-whole _ _ bytes all, λ few. all)

pub returns-then-is_err-clause-reported : goal.returns-then-is_err-clause-reported
returns-then-is_err-clause-reported g c = λ bytes reported.
    failed_write_appends_prefix bytes _ _ _ _ _ _ _ c.in-Ok.n (c.reads.invariant.copied bytes
    reported)
    c.in-Ok.ensures.bytes.0 (search rules)

pub reads-preserved : goal.reads-preserved
reads-preserved g c = record {
  rest = search rules;
  device = search rules;
  pes_packets = search rules;
  file = search rules;
  buffered = search rules;
  copied = λ bytes reported.
      copied_bytes_grow bytes _ _ _ _ _ _ _ c.in-Ok.n (c.reads.invariant.copied bytes reported)
      c.in-Ok.ensures.bytes.0 (search rules) (search rules) (search rules);
}

pub returns-clause-reported : goal.returns-clause-reported
returns-clause-reported g c = λ bytes reported.
    let some = c.reads.invariant.copied bytes reported in
    let copies_enough_bytes = some.copies_enough_bytes in
    let within = some.within in (
      copied_bytes_are_prefix bytes _ _ _ _ some,
      λ few. absurd (omega (arith, copies_enough_bytes, within, few, c.reads-test.false)),
    )
