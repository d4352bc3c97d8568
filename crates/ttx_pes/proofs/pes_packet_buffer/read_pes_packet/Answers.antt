-- At each return of `read_pes_packet`, the bytes read so far agree with the result.
use Rattle.std.proofs.Common.{◌≡◌, ◌∙◌, ℕ, ◌++◌, Ok, ap, arith, inl, inr, refl, rules, sym, take}
use Rattle.std.proofs.lemmas.Bool.{true≢false}
use Rattle.std.proofs.lemmas.List.{length-take-le}
use Rattle.ttx_pes.proofs.BorrowedPacketLemmas.{borrowed_packet_has_header}
use Rattle.ttx_pes.proofs.BorrowedPacketLemmas.{borrowed_rest_completes_packet}
use Rattle.ttx_pes.proofs.AcceptingLemmas.{kept_header_keeps_size}
use Rattle.ttx_pes.proofs.PesPacketBufferLemmas.{buffered_count_is_bounded, read_ahead}
use Rattle.ttx_pes.proofs.PesPacketBufferLemmas.{faulty_rest_is_incomplete}
use Rattle.ttx_pes.proofs.PesPacketBufferLemmas.{incomplete_rest_is_reported}
use Rattle.ttx_pes.proofs.PesPacketBufferLemmas.{short_rest_is_reported}
use Rattle.ttx_pes.proofs.PesPacketBufferLemmas.{size_fault_is_reported}
use Rattle.ttx_pes.proofs.pes_packet_buffer.read_pes_packet.Goals as goal

pub returns-then-is_failed-clause-reads : goal.returns-then-is_failed-clause-reads
returns-then-is_failed-clause-reads g c =
    let got = c.fill_buffer-got.result.0 in
    let len = length-take-le got c.fill_buffer-got.new.room c.fill_buffer-got.ensures.room in
    record {
      consumed = c.fill_buffer-got.ensures.bytes;
      are_read = inl (omega (arith, len, c.fill_buffer-got.ensures.few c.if-is_failed.true));
    }

pub returns-then-is_failed-clause-borrowed : goal.returns-then-is_failed-clause-borrowed
returns-then-is_failed-clause-borrowed g c = λ none holds.
    let fine = c.fill_buffer-got.ensures.borrowed
    (omega (arith, borrowed_packet_has_header _ holds)) in
    absurd (true≢false (sym c.if-is_failed.true ∙ fine.0))

pub returns-then-got-lt-SIZE_BYTES-clause-reads : goal.returns-then-got-lt-SIZE_BYTES-clause-reads
returns-then-got-lt-SIZE_BYTES-clause-reads g c =
    let got = c.fill_buffer-got.result.0 in
    let len = length-take-le got c.fill_buffer-got.new.room c.fill_buffer-got.ensures.room in
    record {
      consumed = c.fill_buffer-got.ensures.bytes;
      are_read = short_rest_is_reported _ _ (omega (arith, len)) (omega (arith, len))
          (c.fill_buffer-got.ensures.end c.if-is_failed.false (omega arith));
    }

pub returns-in-Err-clause-reads : goal.returns-in-Err-clause-reads
returns-in-Err-clause-reads g c =
    let got = c.fill_buffer-got.result.0 in
    let room = c.fill_buffer-got.new.room in
    let len = length-take-le got room c.fill_buffer-got.ensures.room in
    record {
      consumed = c.fill_buffer-got.ensures.bytes;
      are_read = size_fault_is_reported _ _ _ (omega (arith, len))
          (kept_header_keeps_size got got room room c.unwrap.result.now _ (omega arith)
          (omega arith) refl
          (search rules) c.in-Err.ensures.exact);
    }

pub returns-then-has_failed-clause-reads : goal.returns-then-has_failed-clause-reads
returns-then-has_failed-clause-reads g c =
    let got = c.fill_buffer-got.result.0 in
    let all = c.fill_buffer-all.result.0 in
    let room = c.fill_buffer-all.new.room in
    let len = length-take-le all room c.fill_buffer-all.ensures.room in
    let header_states_size = kept_header_keeps_size got all c.fill_buffer-got.new.room room
    c.unwrap.result.now _ (omega arith)
    c.fill_buffer-all.ensures.from c.fill_buffer-all.ensures.kept (search rules)
    c.in-Ok.ensures.exact in
    record {
      consumed = read_ahead _ _ _ _ _ c.fill_buffer-got.ensures.bytes
          c.fill_buffer-all.ensures.bytes;
      are_read = inr (
        c.in-Ok.size,
        header_states_size,
        omega (arith, len, c.fill_buffer-all.ensures.few c.if-has_failed.true),
      );
    }

pub returns-then-has_failed-clause-borrowed : goal.returns-then-has_failed-clause-borrowed
returns-then-has_failed-clause-borrowed g c = λ none holds.
    let got = c.fill_buffer-got.result.0 in
    let room = c.fill_buffer-got.new.room in
    let borrowed = g.S.Source.borrowed c.args.source.now in
    let fine = c.fill_buffer-got.ensures.borrowed
    (omega (arith, borrowed_packet_has_header _ holds)) in
    let header_states_size = kept_header_keeps_size got got room room c.unwrap.result.now
    _ (omega arith) (omega arith) refl
    (search rules) c.in-Ok.ensures.exact in
    let more = borrowed_rest_completes_packet borrowed _ room got c.in-Ok.size holds
    (ap (λ (k : ℕ). take k c.args.room.now ++ borrowed) (sym none) ∙ fine.1) (omega arith)
    c.fill_buffer-got.ensures.room header_states_size in
    absurd (true≢false (sym c.if-has_failed.true ∙ (c.fill_buffer-all.ensures.borrowed more).0))

pub returns-then-all-size-clause-reads : goal.returns-then-all-size-clause-reads
returns-then-all-size-clause-reads g c =
    let got = c.fill_buffer-got.result.0 in
    let all = c.fill_buffer-all.result.0 in
    let room = c.fill_buffer-all.new.room in
    let len = length-take-le all room c.fill_buffer-all.ensures.room in
    let from = c.fill_buffer-all.ensures.from in
    let header_states_size = kept_header_keeps_size got all c.fill_buffer-got.new.room room
    c.unwrap.result.now _ (omega arith)
    from c.fill_buffer-all.ensures.kept (search rules) c.in-Ok.ensures.exact in
    record {
      consumed = read_ahead _ _ _ _ _ c.fill_buffer-got.ensures.bytes
          c.fill_buffer-all.ensures.bytes;
      are_read = incomplete_rest_is_reported _ _ c.in-Ok.size (omega (arith, len, from))
          header_states_size (omega (arith, len))
          (c.fill_buffer-all.ensures.end c.if-has_failed.false (omega arith));
    }

pub returns-clause-reads : goal.returns-clause-reads
returns-clause-reads g c =
    let buffered = c.args.buffered in
    let got = c.fill_buffer-got.result.0 in
    let all = c.fill_buffer-all.result.0 in
    let size = c.in-Ok.size in
    let room = c.fill_buffer-all.new.room in
    let len = length-take-le all room c.fill_buffer-all.ensures.room in
    let from = c.fill_buffer-all.ensures.from in
    let header_states_size = kept_header_keeps_size got all c.fill_buffer-got.new.room room
    c.unwrap.result.now _ (omega arith)
    from c.fill_buffer-all.ensures.kept (search rules) c.in-Ok.ensures.exact in
    let fits = length-take-le buffered c.args.room.now (omega arith) in
    let few = buffered_count_is_bounded buffered got size c.fill_buffer-got.ensures.bound
    c.fill_buffer-got.ensures.none
    (λ has_six_bytes. omega (
      arith,
      fits,
      faulty_rest_is_incomplete (take buffered c.args.room.now) size c.requires.begun
          (omega (arith, fits, has_six_bytes))
          (kept_header_keeps_size buffered buffered c.fill_buffer-got.new.room c.args.room.now
          c.unwrap.result.now
          _ has_six_bytes
          (omega arith) (sym c.fill_buffer-got.ensures.kept) (search rules) c.in-Ok.ensures.exact),
    ))
    (omega (arith, c.in-Ok.ensures.range)) in
    let most = c.fill_buffer-all.ensures.bound few in
    let same : all ≡ size = omega (arith, most) in
    record {
      consumed = read_ahead _ _ _ _ _ c.fill_buffer-got.ensures.bytes
          c.fill_buffer-all.ensures.bytes;
      are_read = (
        omega (arith, len, from),
        header_states_size ∙ ap (λ (k : ℕ). Ok k) (sym (len ∙ same)),
      );
    }
