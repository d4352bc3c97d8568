use Rattle.std.proofs.Common.{◌%◌, bit_and, map, ◌∙◌, arith}
use Rattle.std.proofs.lemmas.Nat.{and_mask}
use Rattle.std.proofs.lemmas.Simd.{zip2_splat}
use Rattle.sub_listing.specs.declared.hex_digits.TheConstants.{DIGITS}
use Rattle.sub_listing.proofs.HexDigitLemmas.{lower_digits_are_valid_indices}
use Rattle.sub_listing.proofs.HexDigitLemmas.{swizzle_looks_up_digits}
use Rattle.sub_listing.proofs.hex_digits.second_digits.Goals as goal

pub swizzle : goal.swizzle
swizzle c = lower_digits_are_valid_indices c.args.bytes c.fits-bytes.0

pub returns : goal.returns
returns c =
    let v = c.args.bytes in
    swizzle_looks_up_digits DIGITS (λ x. x % 16) v _ c.fits-bytes.0 c.fits-bytes.1
    (zip2_splat bit_and v 16 15 c.fits-bytes.0 ∙ λ i. map (λ x. and_mask x 4 i) v)
    (λ x h. omega arith)
