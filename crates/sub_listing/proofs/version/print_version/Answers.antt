-- The printed version is equal to the specified version, character by character.
use Rattle.std.proofs.Common.{refl}
use Rattle.sub_listing.specs.Version.{version_text}
use Rattle.sub_listing.proofs.version.print_version.Goals as goal

pub returns-clause-printed : goal.returns-clause-printed
unfolding version_text
returns-clause-printed g c = c.print_done.ensures.printed version_text refl
