use Rattle.std.proofs.Common.{◌/◌, arith}
use Rattle.std.proofs.lemmas.Simd.{zip2_splat}
use Rattle.sub_listing.specs.declared.hex_digits.TheConstants.{DIGITS}
use Rattle.sub_listing.proofs.HexDigitLemmas.{shift_right_value, upper_digits_are_valid_indices}
use Rattle.sub_listing.proofs.HexDigitLemmas.{swizzle_looks_up_digits}
use Rattle.sub_listing.proofs.hex_digits.first_digits.Goals as goal

pub swizzle : goal.swizzle
swizzle c = upper_digits_are_valid_indices c.args.bytes c.fits-bytes.0 c.fits-bytes.1

pub returns : goal.returns
returns c =
    let v = c.args.bytes in
    swizzle_looks_up_digits DIGITS (λ x. x / 16) v _ c.fits-bytes.0 c.fits-bytes.1
    (zip2_splat shift_right_value v 16 4 c.fits-bytes.0) (λ x h. omega arith)
