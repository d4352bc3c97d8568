use Rattle.sub_examples.proofs.ScreenTests as example
use Rattle.sub_examples.proofs.screen_examples.example_of_unended_page.Goals as goal

pub returns : goal.returns
returns c = example.example_of_unended_page
