use Rattle.std.proofs.Common.{ℕ, ◌+◌, ◌*◌, ◌/◌, ◌%◌, ap, ap₂, sym, subst, arith, ◌∙◌}
use Rattle.ttx_packet.specs.Hamming84.{code_word}
use Rattle.ttx_packet.specs.Laws.{IsEncodedHeader}
use Rattle.ttx_packet.specs.PageHeader.{encodable_header}
use Rattle.ttx_packet.proofs.EncodedPacketLemmas.{header_packet-from_words, header_reads_back}
use Rattle.ttx_packet.proofs.packet.encode_header.Goals as goal

pub returns : goal.returns
returns c =
    let h = c.args.header.now in
    let value =
    header_packet-from_words c.args.magazine h _ _ _ _ _ _ _ _ _ _ c.requires
    c.ham.ensures
    c.ham-2.ensures
    c.ham-3.ensures
    c.ham-4.ensures
    c.ham-5.ensures
    (c.ham-6.ensures
    ∙ ap (λ (b : ℕ). code_word (h.subcode / 0x10 % 8 + 8 * b)) c.flag_bit-c4.ensures.value)
    c.ham-7.ensures
    (c.ham-8.ensures
    ∙ ap₂ (λ (b d : ℕ). code_word (h.subcode / 0x1000 % 4 + 4 * b + 8 * d))
    c.flag_bit-c5.ensures.value c.flag_bit-c6.ensures.value)
    c.encode_flags.ensures
    c.encode_flags-2.ensures in
    record {
      value = value;
      made = subst (IsEncodedHeader c.args.magazine (encodable_header h)) (sym value)
          (header_reads_back c.args.magazine h c.requires (omega arith));
    }
