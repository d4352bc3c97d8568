-- The first 12,800,897 bytes of the input determine the result of the command.
use Rattle.std.proofs.Common.{◌∙◌}
use Rattle.sub_listing.proofs.normal.NormalWorkWork.work.Goals as goal

pub returns-clause-is_written_as_specified : goal.returns-clause-is_written_as_specified
returns-clause-is_written_as_specified g c = λ bytes reported.
    c.in-Err-write_normal_form.ensures.answer bytes
    (c.as_slice.ensures.value ∙ c.in-Ok.ensures.bytes bytes reported)
