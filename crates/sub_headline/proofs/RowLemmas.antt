-- For an argument with at most one row, `set_row` replaces the earlier values, and it never changes
-- the values of other arguments. An argument without a row gets its default values, if it has any.
use Rattle.std.proofs.Common.{◌≡◌, ◌∙◌, Bool, true, false, List, [], ◌∷◌, ◌++◌, Option, Some}
use Rattle.std.proofs.Common.{None, refl, sym, ap, drop}
use Rattle.std.proofs.lemmas.Slice.Eq.{bytes_eq-Decides}
use Rattle.std.specs.Prelude.{if◌then◌else◌, option_and_then, slice_get, fold, find, ◌||◌}
use Rattle.std.specs.Str.{bytes_eq}
use Rattle.clap.specs.Walk.{Row, Rule, Text, at_row, default_rows, first_of, has_row, more_values}
use Rattle.clap.specs.Walk.{reading_by, with_default, with_values, without}
use Rattle.clap.specs.declared.builder.value_parser.Reading.{Reading}
use Rattle.clap.specs.declared.parser.matches.ValueSource.{ValueSource}
use Rattle.clap.specs.declared.parser.matches.ValueSource.TheVariants.{CommandLine, DefaultValue}

-- The values of each row with this id; a row has the values of one argument.
abbrev pub values_at : Text → List Row → List (List Text)
values_at id [] = []
values_at id (r ∷ rs) = if bytes_eq r.id id then r.values ∷ values_at id rs else values_at id rs

-- The first text in the first of these lists of values; `None` if there are no lists, or the first
-- list is empty.
abbrev pub first_text : List (List Text) → Option Text
first_text [] = None
first_text (v ∷ vs) = slice_get v 0

abbrev is_present : List (List Text) → Bool
is_present [] = false
is_present (v ∷ vs) = true

-- The rows after an argument was used again: its first row is removed, and the new values are
-- added. So the new values replace the earlier ones if the argument had at most one row.
abbrev pub set_row : Text → Reading → List Text → List Row → List Row
set_row id how option_values rows = with_values id how CommandLine option_values (without id rows)

pub equal_bytes_mean_equal_ids : (a b : Text) → bytes_eq a b ≡ true → a ≡ b
equal_bytes_mean_equal_ids a b is = (bytes_eq-Decides a b).0 is

first_value_by_test : (b : Bool) (id : Text) (r : Row) (rs : List Row)
    → first_of id rs ≡ first_text (values_at id rs)
    → option_and_then (λ (r : Row). slice_get r.values 0)
    (if b then Some r else find (λ (r : Row). bytes_eq r.id id) rs)
    ≡ first_text (if b then r.values ∷ values_at id rs else values_at id rs)
first_value_by_test true id r rs rest = refl
first_value_by_test false id r rs rest = rest

pub first_value_is_first_text : (id : Text) (rows : List Row) → first_of id rows ≡ first_text
    (values_at id rows)
first_value_is_first_text id [] = refl
first_value_is_first_text id (r ∷ rs) = first_value_by_test (bytes_eq r.id id) id r rs
    (first_value_is_first_text id rs)

row_presence_by_test : (b : Bool) (id : Text) (r : Row) (rs : List Row)
    → has_row id rs ≡ is_present (values_at id rs)
    → b || has_row id rs ≡ is_present (if b then r.values ∷ values_at id rs else values_at id rs)
row_presence_by_test true id r rs rest = refl
row_presence_by_test false id r rs rest = rest

row_presence_is_value_presence : (id : Text) (rows : List Row) → has_row id rows ≡ is_present
    (values_at id rows)
row_presence_is_value_presence id [] = refl
row_presence_is_value_presence id (r ∷ rs) = row_presence_by_test (bytes_eq r.id id) id r rs
    (row_presence_is_value_presence id rs)

module _ (id other : Text) (apart : bytes_eq id other ≡ false) where
  row_has_no_other_id : (r : Row) → bytes_eq r.id id ≡ true → bytes_eq r.id other ≡ false
  row_has_no_other_id r is = ap (λ (x : Text). bytes_eq x other) (equal_bytes_mean_equal_ids r.id id
      is) ∙ apart

  -- Suppose that neither the rows that replace a row with the id `id` nor the rows that are added
  -- if there is none change the values for the id `other`. Then `at_row` does not change them.
  module _ (change : Row → List Row) (missing : List Row)
      (changed : (r : Row) → bytes_eq r.id other ≡ false
      → (rs : List Row) → values_at other (change r ++ rs) ≡ values_at other rs)
      (added : values_at other missing ≡ []) where
    removal_keeps_other_by_test : (b : Bool) (r : Row) (rs : List Row)
        → bytes_eq r.id id ≡ b
        → values_at other (at_row id change missing rs) ≡ values_at other rs
        → values_at other (if b then change r ++ rs else r ∷ at_row id change missing rs)
        ≡ values_at other (r ∷ rs)
    removal_keeps_other_by_test true r rs is rest =
        let far = row_has_no_other_id r is in
        changed r far rs
        ∙ sym (ap (λ (b : Bool). if b then r.values ∷ values_at other rs else values_at other rs)
        far)
    removal_keeps_other_by_test false r rs is rest =
        ap
        (λ (vs : List (List Text)). if bytes_eq r.id other then r.values ∷ vs else vs)
        rest

    changed_row_keeps_other_values : (rows : List Row)
        → values_at other (at_row id change missing rows) ≡ values_at other rows
    changed_row_keeps_other_values [] = added
    changed_row_keeps_other_values (r ∷ rs) = removal_keeps_other_by_test (bytes_eq r.id id) r rs
        refl (changed_row_keeps_other_values rs)

  removal_keeps_other_values : (rows : List Row) → values_at other (without id rows) ≡ values_at
      other rows
  removal_keeps_other_values rows = changed_row_keeps_other_values (λ _. []) [] (λ r far rs. refl)
      refl rows

  new_value_keeps_other_values : (how : Reading) (s : ValueSource) (option_values : List Text)
      (rows : List Row)
      → values_at other (with_values id how s option_values rows) ≡ values_at other rows
  new_value_keeps_other_values how s option_values rows =
      changed_row_keeps_other_values (more_values s option_values)
      (record { id = id; values = option_values; count = None; source = Some s; reading = how } ∷
      [])
      (λ r far rs.
      ap
      (λ (b : Bool). if b then (r.values ++ option_values) ∷ values_at other rs else values_at other
      rs)
      far)
      (ap (λ (b : Bool). if b then option_values ∷ [] else []) apart) rows

  pub set_other : (how : Reading) (option_values : List Text) (rows : List Row)
      → values_at other (set_row id how option_values rows) ≡ values_at other rows
  set_other how option_values rows =
      new_value_keeps_other_values how CommandLine option_values (without id rows) ∙
      removal_keeps_other_values rows

module _ (id : Text) (same : bytes_eq id id ≡ true) where
  removal_by_test : (b : Bool) (r : Row) (rs : List Row)
      → bytes_eq r.id id ≡ b
      → values_at id (without id rs) ≡ drop 1 (values_at id rs)
      → values_at id (if b then rs else r ∷ without id rs)
      ≡ drop 1 (if b then r.values ∷ values_at id rs else values_at id rs)
  removal_by_test true r rs is rest = refl
  removal_by_test false r rs is rest =
      ap
      (λ (b : Bool).
      if b then r.values ∷ values_at id (without id rs) else values_at id (without id rs))
      is
      ∙ rest

  removal_drops_first_value : (rows : List Row) → values_at id (without id rows) ≡ drop 1
      (values_at id rows)
  removal_drops_first_value [] = refl
  removal_drops_first_value (r ∷ rs) = removal_by_test (bytes_eq r.id id) r rs refl
      (removal_drops_first_value rs)

  new_value_by_test : (how : Reading) (s : ValueSource) (option_values : List Text) (b : Bool)
      (r : Row)
      (rs : List Row)
      → bytes_eq r.id id ≡ b
      → (if b then r.values ∷ values_at id rs else values_at id rs) ≡ []
      → (values_at id rs ≡ [] → values_at id (with_values id how s option_values rs) ≡ option_values
      ∷ [])
      → values_at id
      (if b then more_values s option_values r ++ rs else r ∷ with_values id how s option_values rs)
      ≡ option_values ∷ []
  new_value_by_test how s option_values true r rs is none rest = cc
  new_value_by_test how s option_values false r rs is none rest =
      ap
      (λ (b : Bool).
      if b then r.values ∷ values_at id (with_values id how s option_values rs)
      else values_at id (with_values id how s option_values rs))
      is
      ∙ rest none

  new_value_is_only_value : (how : Reading) (s : ValueSource) (option_values : List Text)
      (rows : List Row)
      → values_at id rows ≡ []
      → values_at id (with_values id how s option_values rows) ≡ option_values ∷ []
  new_value_is_only_value how s option_values [] none = ap (λ (b : Bool). if b then option_values ∷
      [] else [])
      same
  new_value_is_only_value how s option_values (r ∷ rs) none =
      new_value_by_test how s option_values (bytes_eq r.id id) r rs refl none
      (new_value_is_only_value how s option_values rs)

  pub set_same : (how : Reading) (option_values : List Text) (rows : List Row)
      → drop 1 (values_at id rows) ≡ []
      → values_at id (set_row id how option_values rows) ≡ option_values ∷ []
  set_same how option_values rows short =
      new_value_is_only_value how CommandLine option_values (without id rows)
      (removal_drops_first_value rows ∙ short)

-- The given values; if there are none, the default values, if there are any.
abbrev pub or_default : List (List Text) → List Text → List (List Text)
or_default [] [] = []
or_default [] (v ∷ vs) = (v ∷ vs) ∷ []
or_default (x ∷ xs) defaults = x ∷ xs

abbrev pub default_at : Text → List (List Text) → Rule → List (List Text)
default_at id vs a = if bytes_eq a.id id then or_default vs a.defaults else vs

default_replaces_missing_value : (id : Text) (same : bytes_eq id id ≡ true) (how : Reading)
    (defaults : List Text)
    (rows : List Row) (vs : List (List Text))
    → values_at id rows ≡ vs
    → values_at id (if is_present vs then rows else default_rows id how defaults rows)
    ≡ or_default vs defaults
default_replaces_missing_value id same how [] rows [] is = is
default_replaces_missing_value id same how (v ∷ vs) rows [] is = new_value_is_only_value id same how
    DefaultValue (v ∷ vs) rows is
default_replaces_missing_value id same how defaults rows (x ∷ xs) is = is

default_fills_own_id : (id : Text) (same : bytes_eq id id ≡ true) (how : Reading)
    (defaults : List Text)
    (rows : List Row)
    → values_at id (if has_row id rows then rows else default_rows id how defaults rows)
    ≡ or_default (values_at id rows) defaults
default_fills_own_id id same how defaults rows =
    ap (λ (b : Bool). values_at id (if b then rows else default_rows id how defaults rows))
    (row_presence_is_value_presence id rows)
    ∙ default_replaces_missing_value id same how defaults rows (values_at id rows) refl

default_keeps_other_id : (id other : Text) (apart : bytes_eq id other ≡ false) (how : Reading)
    (defaults : List Text) (rows : List Row) (b : Bool)
    → values_at other (if b then rows else default_rows id how defaults rows) ≡ values_at other rows
default_keeps_other_id id other apart how defaults rows true = refl
default_keeps_other_id id other apart how [] rows false = refl
default_keeps_other_id id other apart how (v ∷ vs) rows false =
    new_value_keeps_other_values id other apart how DefaultValue (v ∷ vs) rows

rule_fills_default : (id : Text) (same : bytes_eq id id ≡ true) (a : Rule) (rows : List Row)
    (b : Bool)
    → bytes_eq a.id id ≡ b
    → values_at id (with_default rows a)
    ≡ (if b then or_default (values_at id rows) a.defaults else values_at id rows)
rule_fills_default id same a rows true is =
    let at : a.id ≡ id = equal_bytes_mean_equal_ids a.id id is in
    ap
    (λ (x : Text).
    values_at id (if has_row x rows then rows else default_rows x (reading_by a) a.defaults rows))
    at
    ∙ default_fills_own_id id same (reading_by a) a.defaults rows
rule_fills_default id same a rows false is =
    default_keeps_other_id a.id id is (reading_by a) a.defaults rows (has_row a.id rows)

pub rules_fill_defaults : (id : Text) (rules : List Rule) (rows : List Row)
    → bytes_eq id id ≡ true
    → values_at id (fold with_default rows rules) ≡ fold (default_at id) (values_at id rows) rules
rules_fill_defaults id [] rows same = refl
rules_fill_defaults id (a ∷ rules) rows same =
    rules_fill_defaults id rules (with_default rows a) same
    ∙ ap (λ (vs : List (List Text)). fold (default_at id) vs rules)
    (rule_fills_default id same a rows (bytes_eq a.id id) refl)
