use Rattle.std.proofs.Common.{◌∙◌, ◌+◌, ap, arith, if◌then◌else◌, refl, subst, sym, Some, ℕ}
use Rattle.std.proofs.lemmas.Bool.{true≢false}
use Rattle.std.specs.Io.KnownBytes.{Appends}
use Rattle.sub_io.specs.Device.{AppendsPrefix}
use Rattle.sub_listing.specs.DeviceCall.{read_call, sink_call}
use Rattle.sub_listing.specs.Listing.{has_failed}
use Rattle.sub_listing.proofs.ListingLemmas.{counts-fault, counts-status, prefix-cut, prefix-end}
use Rattle.sub_listing.proofs.ListingLemmas.{prefix-kept, prefix-more, prefix-none, prefix-stopped}
use Rattle.sub_listing.proofs.LastLineLemmas.{only_last_line_is_buffered}
use Rattle.sub_listing.proofs.LastLineLemmas.{raised_count_means_failure}
use Rattle.sub_listing.proofs.listing.list_to.Goals as goal

pub items-init : goal.items-init
items-init g c = record {
  ready = c.requires.ready;
  source = refl;
  device = refl;
  same = refl;
  continues = c.requires.continues;
  holds = λ sound. sound;
  out = refl;
  prefix = prefix-none _ _ _;
}

pub returns-then-printer-clause-out_count : goal.returns-then-printer-clause-out_count
returns-then-printer-clause-out_count g c =
    let before = c.items.invariant in
    let risen =
    (c.next-end.ensures.stays.risen
    (λ same. true≢false (sym c.if-printer.true ∙ same ∙ before.continues))).1 in
    let out = before.out in
    record {
      kept = λ other. absurd (other refl);
      risen = omega (arith, risen, out);
      rises_at_most_once = omega (arith, risen, out);
    }

pub returns-then-printer-clause-input_count : goal.returns-then-printer-clause-input_count
returns-then-printer-clause-input_count g c =
    let same = c.next-end.ensures.counts_failure c.if-printer.true in
    let source = c.items.invariant.source in
    record {
      kept = λ _. same ∙ source;
      risen = omega (arith, same, source);
      rises_at_most_once = omega (arith, same, source);
    }

pub returns-then-printer-clause-listing : goal.returns-then-printer-clause-listing
returns-then-printer-clause-listing g c =
    let before = c.items.invariant in
    let stays = c.next-end.ensures.stays in
    let risen =
    (stays.risen (λ same. true≢false (sym c.if-printer.true ∙ same ∙ before.continues))).1 in
    prefix-stopped (g.L.Lister.lists c.args.lister.now) (g.L.Lister.lists c.items.lister)
    (read_call g.L.Lister.known g.L.Lister.left g.L.Lister.failure_count c.args.input.now
    c.next-end.new.input)
    (sink_call g.K.Sink.contents g.K.Sink.failure_count c.args.printer.now.out.now
    c.next-end.new.printer.out.now)
    _ _ before.prefix (c.next-end.ensures.cut c.if-printer.true) stays.kept
    (risen ∙ ap (λ (n : ℕ). n + 1) before.out)
    (c.next-end.ensures.counts_failure c.if-printer.true ∙ before.source)

pub returns-then-printer-clause-fault : goal.returns-then-printer-clause-fault
returns-then-printer-clause-fault g c = λ _.
    let before = c.items.invariant in
    let risen =
    (c.next-end.ensures.stays.risen
    (λ same. true≢false (sym c.if-printer.true ∙ same ∙ before.continues))).1 in
    let same = c.next-end.ensures.counts_failure c.if-printer.true in
    let out = before.out in
    let source = before.source in
    omega (arith, risen, same, out, source)

pub returns-in-Err-clause-listing : goal.returns-in-Err-clause-listing
returns-in-Err-clause-listing g c =
    let before = c.items.invariant in
    let stays = c.next-end.ensures.stays in
    let out = stays.same (c.if-printer.false ∙ sym before.continues) ∙ before.out in
    let put = c.in-Err.ensures.count in
    prefix-cut (g.L.Lister.lists c.args.lister.now) (g.L.Lister.lists c.items.lister)
    (g.L.Lister.lists c.next-end.new.self)
    (read_call g.L.Lister.known g.L.Lister.left g.L.Lister.failure_count c.args.input.now
    c.next-end.new.input)
    (sink_call g.K.Sink.contents g.K.Sink.failure_count c.args.printer.now.out.now
    c.put.new.self.out.now)
    _ _ c.next-end.new.text.items c.next-end.result
    (prefix-kept _ _ _ _ _ _ _ before.prefix stays.kept)
    (c.next-end.ensures.gives c.if-printer.false)
    (subst (AppendsPrefix (g.K.Sink.contents c.next-end.new.printer.out.now)
    (g.K.Sink.contents c.put.new.self.out.now))
    c.as_slice.ensures.value c.in-Err.ensures.err)
    (omega (arith, out, put))
    (c.next-end.ensures.count c.if-printer.false
    ∙ ap (λ (n : ℕ). n + (if has_failed c.next-end.result then 1 else 0)) before.source)

pub returns-in-Err-clause-out_count : goal.returns-in-Err-clause-out_count
returns-in-Err-clause-out_count g c =
    let before = c.items.invariant in
    let out =
    c.next-end.ensures.stays.same (c.if-printer.false ∙ sym before.continues) ∙ before.out in
    let put = c.in-Err.ensures.count in
    record {
      kept = λ other. absurd (other refl);
      risen = omega (arith, out, put);
      rises_at_most_once = omega (arith, out, put);
    }

pub returns-in-Err-clause-input_count : goal.returns-in-Err-clause-input_count
returns-in-Err-clause-input_count g c =
    counts-fault _ _ (has_failed c.next-end.result)
    (c.next-end.ensures.count c.if-printer.false
    ∙ ap (λ (n : ℕ). n + (if has_failed c.next-end.result then 1 else 0))
    c.items.invariant.source)

pub returns-in-Err-clause-fault : goal.returns-in-Err-clause-fault
returns-in-Err-clause-fault g c = λ _.
    let before = c.items.invariant in
    let out =
    c.next-end.ensures.stays.same (c.if-printer.false ∙ sym before.continues) ∙ before.out in
    let put = c.in-Err.ensures.count in
    let source = (returns-in-Err-clause-input_count g c).risen in
    omega (arith, out, put, source)

pub returns-in-Some-clause-listing : goal.returns-in-Some-clause-listing
returns-in-Some-clause-listing g c =
    let before = c.items.invariant in
    let stays = c.next-end.ensures.stays in
    let out = stays.same (c.if-printer.false ∙ sym before.continues) ∙ before.out in
    let put = c.in-Ok.ensures.count in
    let status = c.in-Some.status in
    prefix-end (g.L.Lister.lists c.args.lister.now) (g.L.Lister.lists c.items.lister)
    (g.L.Lister.lists c.next-end.new.self)
    (read_call g.L.Lister.known g.L.Lister.left g.L.Lister.failure_count c.args.input.now
    c.next-end.new.input)
    (sink_call g.K.Sink.contents g.K.Sink.failure_count c.args.printer.now.out.now
    c.put.new.self.out.now)
    _ _ c.next-end.new.text.items status
    (prefix-kept _ _ _ _ _ _ _ before.prefix stays.kept)
    (c.in-Some.ensures.gives c.if-printer.false)
    (subst (Appends (g.K.Sink.contents c.next-end.new.printer.out.now)
    (g.K.Sink.contents c.put.new.self.out.now))
    c.as_slice.ensures.value c.in-Ok.ensures.ok)
    (omega (arith, out, put))
    (c.in-Some.ensures.count c.if-printer.false
    ∙ ap (λ (n : ℕ). n + (if has_failed (Some status) then 1 else 0)) before.source)

pub returns-in-Some-clause-out_count : goal.returns-in-Some-clause-out_count
returns-in-Some-clause-out_count g c =
    let before = c.items.invariant in
    let out =
    c.next-end.ensures.stays.same (c.if-printer.false ∙ sym before.continues) ∙ before.out in
    let put = c.in-Ok.ensures.count in
    record {
      kept = λ _. omega (arith, out, put);
      risen = omega (arith, out, put);
      rises_at_most_once = omega (arith, out, put);
    }

pub returns-in-Some-clause-input_count : goal.returns-in-Some-clause-input_count
returns-in-Some-clause-input_count g c =
    let status = c.in-Some.status in
    counts-status _ _ status
    (c.in-Some.ensures.count c.if-printer.false
    ∙ ap (λ (n : ℕ). n + (if has_failed (Some status) then 1 else 0))
    c.items.invariant.source)

pub returns-in-Some-clause-fault : goal.returns-in-Some-clause-fault
returns-in-Some-clause-fault g c = λ is.
    let before = c.items.invariant in
    let out =
    c.next-end.ensures.stays.same (c.if-printer.false ∙ sym before.continues) ∙ before.out in
    let put = c.in-Ok.ensures.count in
    let counted = rw is at (c.in-Some.ensures.count c.if-printer.false) in
    let source = before.source in
    omega (arith, out, put, counted, source)

pub items-preserved : goal.items-preserved
items-preserved g c =
    let before = c.items.invariant in
    let stays = c.next-end.ensures.stays in
    let out = stays.same (c.if-printer.false ∙ sym before.continues) ∙ before.out in
    let put = c.in-Ok.ensures.count in
    let source = before.source in
    let counted = c.in_default.ensures.count c.if-printer.false in
    record {
      ready = c.in_default.ensures.ready c.if-printer.false refl;
      source = omega (arith, source, counted);
      device = c.next-end.ensures.device ∙ before.device;
      same = c.put.ensures.same ∙ c.next-end.ensures.same ∙ before.same;
      continues = c.in-Ok.ensures.failed ∙ c.if-printer.false;
      holds = λ sound still. absurd (true≢false (sym c.put.ensures.has_pending ∙ still));
      out = omega (arith, out, put);
      prefix =
          prefix-more (g.L.Lister.lists c.args.lister.now) (g.L.Lister.lists c.items.lister)
          (g.L.Lister.lists c.next-end.new.self) _ _ _ _ _ _ c.next-end.new.text.items
          (prefix-kept _ _ _ _ _ _ _ before.prefix stays.kept)
          (rw (← c.in_default.ensures.settled c.if-printer.false refl)
          (c.in_default.ensures.gives c.if-printer.false))
          (subst
          (Appends (g.K.Sink.contents c.next-end.new.printer.out.now)
          (g.K.Sink.contents c.put.new.self.out.now))
          c.as_slice.ensures.value c.in-Ok.ensures.ok);
    }

pub returns-then-printer-clause-followed : goal.returns-then-printer-clause-followed
returns-then-printer-clause-followed g c = λ is sound risen.
    let same = c.next-end.ensures.counts_failure c.if-printer.true in
    let source = c.items.invariant.source in absurd (omega (arith, same, source, risen))

pub returns-in-Err-clause-followed : goal.returns-in-Err-clause-followed
returns-in-Err-clause-followed g c = λ is sound risen.
    let before = c.items.invariant in
    let fails = raised_count_means_failure _ _ (has_failed c.next-end.result) risen
    (c.next-end.ensures.count c.if-printer.false
    ∙ ap (λ (n : ℕ). n + (if has_failed c.next-end.result then 1 else 0)) before.source) in
    only_last_line_is_buffered _ _ _ _ _ _ _
    (c.next-end.ensures.followed is (before.holds sound) fails c.if-printer.false)
    c.as_slice.ensures.value c.put.ensures.line

pub returns-in-Some-clause-followed : goal.returns-in-Some-clause-followed
returns-in-Some-clause-followed g c = λ is sound risen.
    let before = c.items.invariant in
    let fails = raised_count_means_failure _ _ (has_failed c.next-end.result) risen
    (c.next-end.ensures.count c.if-printer.false
    ∙ ap (λ (n : ℕ). n + (if has_failed c.next-end.result then 1 else 0)) before.source) in
    only_last_line_is_buffered _ _ _ _ _ _ _
    (c.next-end.ensures.followed is (before.holds sound) fails c.if-printer.false)
    c.as_slice.ensures.value c.put.ensures.line
