-- The line order of the Teletext units in a PES packet (not defined by a standard), and the lines
-- of the Teletext packets of a frame.
--
-- Units with a defined line are in strictly increasing order: first field before second, then by
-- line_offset. In EN 300 472, line_offset 0 means that the line is not defined, so such a unit may
-- be anywhere.
use Rattle.std.specs.Prelude.{◌≡◌, ◌≢◌, ◌<◌, true, ℕ, ◌+◌, ◌-◌, ◌*◌, Bool, ◌==◌, ◌||◌, nat_lt}
use Rattle.std.specs.Prelude.{if◌then◌else◌, List, [], ◌∷◌}
use Rattle.ttx_pes.specs.DataUnit.{UnitValue, subtitle_id}

-- The line order position of a unit with a defined line: 1 to 31 in the first field, 33 to 63 in
-- the second.
abbrev pub line_order_place : UnitValue → ℕ
line_order_place u = 32 * (u.field - 1) + u.line

-- The line order position that the next unit must follow: the position of the last unit with a
-- defined line, or `before` if no unit has one.
abbrev pub last_place : ℕ → List UnitValue → ℕ
last_place before [] = before
last_place before (u ∷ units) =
    last_place (if u.line == 0 then before else line_order_place u) units

-- The unit may follow the line order position `before`: its own position is greater, or its line is
-- not defined.
abbrev pub may_follow : ℕ → UnitValue → Bool
may_follow before u = (u.line == 0) || nat_lt before (line_order_place u)

-- The units are in line order, after the position `before`: each unit may follow the units before
-- it.
abbrev pub AreInLineOrder : ℕ → List UnitValue → Type 0
AreInLineOrder before [] = Unit {0}
AreInLineOrder before (u ∷ units) =
    (may_follow before u ≡ true)
    × AreInLineOrder (if u.line == 0 then before else line_order_place u) units

-- If both units have a defined line, the second unit has the greater line order position.
abbrev pub PrecedesInLineOrder : UnitValue → UnitValue → Type 0
PrecedesInLineOrder u v = u.line ≢ 0 → v.line ≢ 0 → line_order_place u < line_order_place v

-- The unit that carries Teletext packet number i of a frame, from 0 to 31: lines 7 to 22 of the
-- first field, then 7 to 22 of the second, as in EN 300 472; data_unit_id 03.
abbrev pub numbered_unit : ℕ → List ℕ → UnitValue
numbered_unit i packet =
    if nat_lt i 16 then record { id = subtitle_id; field = 1; line = 7 + i; packet = packet }
    else record { id = subtitle_id; field = 2; line = i - 9; packet = packet }

-- The units that carry the Teletext packets of a frame, from packet number i on.
abbrev pub numbered_units : ℕ → List (List ℕ) → List UnitValue
numbered_units i [] = []
numbered_units i (packet ∷ packets) = numbered_unit i packet ∷ numbered_units (i + 1) packets

-- The line order position of Teletext packet number i of a frame.
abbrev pub numbered_place : ℕ → ℕ
numbered_place i = if nat_lt i 16 then 7 + i else 23 + i
