-- The command-line arguments that request help.
use Rattle.std.specs.Prelude.{Bool, false, ◌&&◌, ◌||◌, List, [], ◌∷◌, codes, if◌then◌else◌}
use Rattle.std.specs.Str.{bytes_eq}
use Rattle.clap.specs.Words.{Text}
use Rattle.sub_words.specs.Commands.{is_command}

-- The word is `--help` or `-h`.
abbrev pub is_help_flag : Text → Bool
is_help_flag word = bytes_eq word (codes "--help") || bytes_eq word (codes "-h")

-- The word is `help`, `--help` or `-h`.
abbrev pub is_help_word : Text → Bool
is_help_word word = bytes_eq word (codes "help") || is_help_flag word

-- One of the two words requests help, and the other word is the name of a command. `help` must come
-- first: after a command it is an argument of the command, such as the name of a file.
abbrev pub is_help_of : Text → Text → Bool
is_help_of first second =
    if is_command first then is_help_flag second else is_help_word first && is_command second

-- The arguments request help: the program's name is followed by `help`, `--help` or `-h`, alone or
-- before the name of a command, or by the name of a command and `--help` or `-h`.
unfoldable pub requests_help : List Text → Bool
requests_help (program ∷ word ∷ []) = is_help_word word
requests_help (program ∷ first ∷ second ∷ []) = is_help_of first second
requests_help _ = false
