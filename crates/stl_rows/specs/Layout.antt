-- Layouts: how a broadcaster's inserter draws the texts of subtitles. EBU Tech 3264 does not define
-- the drawing.
use Rattle.std.specs.Prelude.{ℕ, Bool, false, List, [], ◌∷◌, Option, Some, None, ◌==◌, unwrap_or}
use Rattle.std.specs.Prelude.{replicate, slice_index_or, nat_lt, ◌&&◌}
use Rattle.std.specs.List.{find}
use Rattle.stl_file.specs.Scope.{whole}
use Rattle.stl_file.specs.declared.scope.Scope.{Scope}
use Rattle.stl_rows.specs.declared.layout.Attribute.{Attribute}
use Rattle.stl_rows.specs.declared.layout.Attribute.TheVariants.{AlphaRed, AlphaGreen, AlphaYellow}
use Rattle.stl_rows.specs.declared.layout.Attribute.TheVariants.{AlphaBlue, AlphaMagenta, AlphaCyan}
use Rattle.stl_rows.specs.declared.layout.Attribute.TheVariants.{AlphaWhite, Flash, Steady, EndBox}
use Rattle.stl_rows.specs.declared.layout.Attribute.TheVariants.{StartBox, NormalHeight}
use Rattle.stl_rows.specs.declared.layout.Attribute.TheVariants.{DoubleHeight}
use Rattle.stl_rows.specs.declared.layout.Drawing.{Drawing}
use Rattle.stl_rows.specs.declared.layout.Layout.{Layout}
use Rattle.stl_rows.specs.declared.layout.LayoutItems.{LayoutItems}
use Rattle.stl_rows.specs.declared.national.National.{National}

-- ---- spacing attributes of a layout

-- The code of a spacing attribute, 01 to 0D (EN 300 706, spacing attributes).
unfoldable pub attribute_code : Attribute → ℕ
attribute_code AlphaRed = 0x01
attribute_code AlphaGreen = 0x02
attribute_code AlphaYellow = 0x03
attribute_code AlphaBlue = 0x04
attribute_code AlphaMagenta = 0x05
attribute_code AlphaCyan = 0x06
attribute_code AlphaWhite = 0x07
attribute_code Flash = 0x08
attribute_code Steady = 0x09
attribute_code EndBox = 0x0A
attribute_code StartBox = 0x0B
attribute_code NormalHeight = 0x0C
attribute_code DoubleHeight = 0x0D

-- The spacing attributes that a layout may add to a line.
abbrev pub attributes : List Attribute
attributes =
    AlphaRed ∷ AlphaGreen ∷ AlphaYellow ∷ AlphaBlue ∷ AlphaMagenta ∷ AlphaCyan ∷ AlphaWhite
    ∷ Flash ∷ Steady ∷ EndBox ∷ StartBox ∷ NormalHeight ∷ DoubleHeight ∷ []

-- The spacing attribute with this code; `None` if a layout may not add the code.
unfoldable pub attribute_of : ℕ → Option Attribute
attribute_of code = find (λ a. attribute_code a == code) attributes

-- The codes of a list of spacing attributes, without the empty places of the list.
abbrev pub codes_of_places : List (Option Attribute) → List ℕ
codes_of_places [] = []
codes_of_places (None ∷ places) = codes_of_places places
codes_of_places (Some a ∷ places) = attribute_code a ∷ codes_of_places places

-- ---- layout items and their defaults

-- A list of n empty places for spacing attributes.
abbrev pub empty_places : ℕ → List (Option Attribute)
empty_places n = replicate n None

-- The default layout items: two start boxes before a line's own leading codes, two end boxes at the
-- line's end, and nothing else.
unfoldable pub default_items : LayoutItems
default_items = record {
  strip = replicate 32 false;
  ahead = Some StartBox ∷ Some StartBox ∷ None ∷ None ∷ None ∷ None ∷ [];
  following = None ∷ None ∷ None ∷ None ∷ None ∷ None ∷ [];
  after = Some EndBox ∷ Some EndBox ∷ None ∷ None ∷ [];
  fit = false;
  white = false;
  trim = false;
  text = false;
  up = false;
  left = 0;
  right = 0;
  free_jc = 1;
  double = false;
  pack = false;
  last = false;
  rows_down = 0;
  rows_up = 0;
}

-- The default layout.
abbrev pub default_layout : Layout
default_layout = record { items = None }

-- The items of a layout; the default items if the layout has none.
abbrev pub items_of_layout : Layout → LayoutItems
items_of_layout layout = unwrap_or layout.items default_items

-- The layout item `strip` names this byte, 00 to 1F, so the byte of a text has no cell.
abbrev pub strips_byte : LayoutItems → ℕ → Bool
strips_byte items byte = nat_lt byte 0x20 && slice_index_or items.strip byte false

-- Creates a drawing from a national option, a layout and a scope.
abbrev pub drawing_within : National → Layout → Scope → Drawing
drawing_within national layout scope =
    record { national = national; layout = layout; scope = scope }

-- A drawing with a national option and a layout, for all subtitles of a file for Teletext.
abbrev pub drawing_by : National → Layout → Drawing
drawing_by national layout = drawing_within national layout whole
