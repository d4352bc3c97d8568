-- The printed help is equal to the specified help, character by character.
use Rattle.std.proofs.Common.{refl}
use Rattle.sub_listing.specs.Help.{help_text}
use Rattle.sub_listing.proofs.help.print_help.Goals as goal

pub returns-clause-printed : goal.returns-clause-printed
unfolding help_text
returns-clause-printed g c = c.print_done.ensures.printed help_text refl
