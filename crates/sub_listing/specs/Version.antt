-- The output of `--version` (not defined by a standard).
use Rattle.std.specs.Prelude.{ℕ, List, codes}

-- The line that `--version` prints.
unfoldable pub version_text : List ℕ
version_text = codes "subttx 4.0.0\n"
