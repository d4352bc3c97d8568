-- The command-line arguments that request the version.
use Rattle.std.specs.Prelude.{Bool, false, ◌||◌, List, [], ◌∷◌, codes}
use Rattle.std.specs.Str.{bytes_eq}
use Rattle.clap.specs.Words.{Text}

-- The word is `--version` or `-V`.
abbrev pub is_version_word : Text → Bool
is_version_word word = bytes_eq word (codes "--version") || bytes_eq word (codes "-V")

-- The arguments request the version: the program's name is followed only by a word for the version.
unfoldable pub requests_version : List Text → Bool
requests_version (program ∷ word ∷ []) = is_version_word word
requests_version _ = false
