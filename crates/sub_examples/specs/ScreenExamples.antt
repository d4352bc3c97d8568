-- Examples of the time at which a receiver shows a page on its screen, and of a good transmission
-- that some receivers do not show.
use Rattle.std.specs.Prelude.{◌≡◌, [], ◌∷◌, false, Option, Some, None}
use Rattle.ttx_page.specs.Page.{Rows, blank}
use Rattle.ttx_page.specs.Receiver.ReceiverClass.{Storing}
use Rattle.ttx_page.specs.Screen.{Display, Shows}
use Rattle.stl_rows.specs.Programme.{ProgrammeValue}
use Rattle.sub_plan.specs.Options.{OptionsValue}
use Rattle.sub_plan.specs.Examples.{page_888}
use Rattle.sub_examples.specs.Examples.{english_header, row_22, time_filling_header, one_frame}
use Rattle.sub_examples.specs.Examples.{options_with_bound}
use Rattle.sub_examples.specs.Examples.{no_subtitles}
use Rattle.sub_rules.specs.Good.{Good}
use Rattle.sub_laws.specs.OnScreen.{Complete, ShownWithin}
use Rattle.sub_rules.specs.Transmission.{Transmission, first_frame, last_frame}

-- The state of a receiver that has received no header and has a blank page, with `screen` on its
-- screen.
abbrev pub display_before_header : Option Rows → Display
display_before_header screen =
    record {
      receiver_state = record { heard = false; is_open = false; page = blank };
      screen = screen;
    }

-- When a header ends the page, the receiver shows the page, whatever its state was before.
abbrev pub ExampleOfEndedPage : Type 0
ExampleOfEndedPage =
    (old new : Display)
    → Shows page_888 old (english_header ∷ time_filling_header ∷ []) new
    → new.screen ≡ Some blank

-- A header of the page does not change the screen if the page was not open, and a row never does.
abbrev pub ExampleOfPageNotEnded : Type 0
ExampleOfPageNotEnded =
    (screen : Option Rows) (new : Display)
    → Shows page_888 (display_before_header screen) (english_header ∷ row_22 ∷ []) new
    → new.screen ≡ screen

-- If the header of an open page is received again, some receivers show the page, and others do not.
pub record ExampleOfRestartedPage : Type 0 where
  pub shown : Display
  pub shows : Shows page_888 (display_before_header None) (english_header ∷ english_header ∷ [])
      shown
  pub shows_blank_page : shown.screen ≡ Some blank
  pub other : Display
  pub waits : Shows page_888 (display_before_header None) (english_header ∷ english_header ∷ [])
      other
  pub shows_no_page : other.screen ≡ None

-- The transmission is good, so every receiver has the expected page. But its pages are not
-- complete, so some receivers do not show the page.
pub record IsReceivedButNotShown
    (programme : ProgrammeValue) (transmission : Transmission) (options : OptionsValue)
    : Type 0 where
  pub good : Good programme transmission options
  pub not_complete : Complete transmission options → ⊥
  pub not_shown :
      ShownWithin Storing programme transmission options (first_frame transmission)
      (last_frame transmission)
      → ⊥

-- A header without packets after it is a good transmission, but some receivers do not show its
-- page.
abbrev pub ExampleOfUnendedPage : Type 0
ExampleOfUnendedPage =
    IsReceivedButNotShown no_subtitles (one_frame (english_header ∷ [])) (options_with_bound 1)
