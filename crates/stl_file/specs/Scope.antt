-- The accepted subtitle files, by their display standard code, and the subtitles to read, by their
-- TCI.
use Rattle.std.specs.Prelude.{ℕ, Bool, false, not, ◌&&◌, nat_le, nat_lt, List, [], ◌∷◌}
use Rattle.stl_file.specs.declared.scope.Scope.{Scope}
use Rattle.stl_file.specs.TimeCode.{day, frame_from_bytes, is_valid_time_field}
use Rattle.stl_file.specs.Tti.{tci}

-- The scope of all subtitles of a file for Teletext.
abbrev pub whole : Scope
whole = record { takes_open = false; from = 0; to = day }

-- The TCI of the block b is a valid time code outside the scope's range of frames.
unfoldable pub begins_outside : Scope → List ℕ → Bool
begins_outside scope b =
    is_valid_time_field (tci b)
    && not (nat_le scope.from (frame_from_bytes (tci b)) && nat_lt (frame_from_bytes (tci b))
    scope.to)

-- The blocks of a subtitle are outside the scope: the TCI of the first block is a valid time code
-- outside the range.
abbrev pub is_outside : Scope → List (List ℕ) → Bool
is_outside scope [] = false
is_outside scope (b ∷ bs) = begins_outside scope b

-- The blocks of a subtitle are inside the scope: the TCI of the first block is not outside the
-- range, or is no valid time code.
abbrev pub is_inside : Scope → List (List ℕ) → Bool
is_inside scope group = not (is_outside scope group)
