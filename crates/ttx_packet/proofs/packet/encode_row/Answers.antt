use Rattle.std.proofs.Common.{◌∙◌, ◌<◌, sym, subst, arith}
use Rattle.std.proofs.lemmas.Grind.{get_or_default_zero}
use Rattle.ttx_packet.specs.Laws.{IsEncodedRow}
use Rattle.ttx_packet.proofs.EncodedPacketLemmas.{law_of_row_packet, row_packet-from_text}
use Rattle.ttx_packet.proofs.packet.encode_row.Goals as goal

pub returns : goal.returns
returns c =
    let codes = c.args.codes.now in
    let value =
    row_packet-from_text c.args.magazine c.args.row c.ham.result c.ham-2.result codes
    c.copy_from_slice.new.self c.ham.ensures c.ham-2.ensures
    (c.copy_from_slice.ensures.after ∙ c.odd_parity_bytes.ensures) in
    record {
      value = value;
      made = subst (IsEncodedRow c.args.magazine c.args.row codes) (sym value)
          (law_of_row_packet c.args.magazine c.args.row codes c.requires.magazine c.requires.first
          (omega arith) (omega arith)
          (λ k d l. subst (λ code. code < 0x80) (sym (get_or_default_zero codes k d l))
          (c.requires.codes k)));
    }
