use Rattle.sub_examples.proofs.ScreenTests as example
use Rattle.sub_examples.proofs.screen_examples.examples_of_screens.Goals as goal

pub returns : goal.returns
returns c = record {
  ended = example.example_of_ended_page;
  not_ended = example.example_of_page_not_ended;
  restarted_page = example.example_of_restarted_page;
}
