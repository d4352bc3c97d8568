use Rattle.hex.specs.Hex.{lower_digits}
use Rattle.sub_listing.proofs.HexDigitLemmas.{interleaving_encodes_hex}
use Rattle.sub_listing.proofs.hex_digits.digits_of_block.Goals as goal

pub returns : goal.returns
returns c =
    rw (
      c.copy_from_slice.ensures.after,
      c.copy_from_slice-2.ensures.after,
      c.first_digits-first.ensures,
      c.second_digits-second.ensures,
    )
    (interleaving_encodes_hex lower_digits c.args.block.now c.told-block)
