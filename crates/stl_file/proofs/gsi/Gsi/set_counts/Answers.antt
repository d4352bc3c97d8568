-- Setting TNB and TNS does not change the length of the GSI block.
use Rattle.std.proofs.Common.{◌∙◌}
use borrow.Rule.Slice.PartMut.{same_len_mid}
use Rattle.stl_file.proofs.gsi.Gsi.set_counts.Goals as goal

pub invariant_of-self : goal.invariant_of-self
invariant_of-self c = same_len_mid 238 10 _ _ c.copy_from_slice.ensures.len ∙ c.self.invariant
