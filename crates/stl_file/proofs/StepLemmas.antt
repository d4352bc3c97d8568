-- A block that is read without a fault belongs to a subtitle or is skipped.
use Rattle.std.proofs.Common.{◌≡◌, ℕ, Bool, false, true, cond, List, [], ◌∷◌, ◌++◌, length, refl}
use Rattle.std.proofs.Common.{arith, length-append, Option, Some, None, Result, Ok, ◌+◌, ◌<◌, ◌≤◌}
use Rattle.std.proofs.Common.{◌⊎◌}
use Rattle.std.specs.List.{AllByRecursion, flat_map}
use Rattle.std.proofs.lemmas.Grind.{flat_map-append}
use Rattle.std.proofs.lemmas.List.{append-nil}
use Rattle.std.proofs.lemmas.Bool.Decides.{nat_tests}
use Rattle.stl_file.specs.declared.fault.StlFault.{StlFault}
use Rattle.stl_file.specs.Questions.{Checks, result_of_checks}
use Rattle.stl_file.specs.Tti.{ebn, cf, sgn, sn, text_of_block, is_skipped_block}
use Rattle.stl_file.specs.Tti.{is_unskipped_block}
use Rattle.stl_file.specs.SubtitleBlocks.{BelongsTo, AreLinked, AreOutside, Begins, AreBlocksOf}
use Rattle.stl_file.specs.Subtitle.{SubtitleValue}
use Rattle.stl_file.specs.Scope.{begins_outside, is_outside}
use Rattle.stl_file.specs.declared.scope.Scope.{Scope}
use Rattle.stl_file.specs.Reading.{StartedSubtitle, BlockStep, More, Yield, tti_block_step}
use Rattle.stl_file.specs.Reading.{step_after_block}
use Rattle.stl_file.specs.Reading.{subtitle_of_first_block}
use Rattle.stl_file.specs.Reading.{subtitle_block_step}
use Rattle.stl_file.specs.Reading.{first_block_checks, skipped_subtitle_from}

-- If a list of checks yields a value, all checks passed.
pub result_of_checks-right : {X : Type 0} (qs : Checks) (answer : Result X StlFault) (x : X)
    → result_of_checks qs answer ≡ Ok x
    → (answer ≡ Ok x) × AllByRecursion (λ (q : StlFault × Bool). q.1 ≡ false) qs
result_of_checks-right [] answer x e = (e, tt)
result_of_checks-right (q ∷ qs) answer x e =
    grind (arith, nat_tests, result_of_checks-right qs answer x)

-- If a first block is read without a fault, the subtitle has the fields and the text of that block.
pub accepted_first_block_begins : (b : List ℕ) (s : SubtitleValue)
    → subtitle_of_first_block b ≡ Ok s
    → Begins s b × (s.text ≡ text_of_block b)
unfolding subtitle_of_first_block
accepted_first_block_begins b s e =
    let right = result_of_checks-right (first_block_checks b) _ s e in grind (arith, nat_tests)

-- If a block begins a subtitle by the definition `Begins`, reading it as a first block gives that
-- subtitle, with the text of this block.
beginning_block_is_accepted : (b : List ℕ) (s : SubtitleValue)
    → Begins s b
    → subtitle_of_first_block b ≡ Ok (record s { text = text_of_block b })
unfolding subtitle_of_first_block
beginning_block_is_accepted b s h = grind (arith, nat_tests)

abbrev pub started_by_first_block : SubtitleValue → List ℕ → StartedSubtitle
started_by_first_block s b =
    record { subtitle = record s { text = text_of_block b }; blocks = 1; is_skipped = false }

-- If there is no current subtitle, a block inside the scope that begins a valid subtitle starts
-- that subtitle.
pub inside_first_block_starts : (scope : Scope) (s : SubtitleValue) (b : List ℕ)
    → begins_outside scope b ≡ false
    → Begins s b
    → subtitle_block_step scope None b ≡ Ok (step_after_block (ebn b) (started_by_first_block s b))
unfolding subtitle_block_step
inside_first_block_starts scope s b inside h = rw (inside, beginning_block_is_accepted b s h) refl

-- If there is no current subtitle, a block that begins outside the scope starts a skipped subtitle.
pub outside_first_block_starts_skipped : (scope : Scope) (b : List ℕ)
    → begins_outside scope b ≡ true
    → subtitle_block_step scope None b ≡ Ok (step_after_block (ebn b) (skipped_subtitle_from b))
unfolding subtitle_block_step
outside_first_block_starts_skipped scope b outside = rw outside (grind (arith, nat_tests))

abbrev pub extended_by_block : StartedSubtitle → List ℕ → StartedSubtitle
extended_by_block o b = record o {
  subtitle = record o.subtitle { text = o.subtitle.text ++ text_of_block b };
  blocks = o.blocks + 1;
}

-- If the current subtitle has fewer than nine blocks so far, a block with its SGN and SN and with
-- CF 0 extends that subtitle.
pub later_block_extends : (scope : Scope) (o : StartedSubtitle) (b : List ℕ)
    → BelongsTo o.subtitle.sgn o.subtitle.sn b
    → o.blocks < 9
    → subtitle_block_step scope (Some o) b ≡ Ok (step_after_block (ebn b) (extended_by_block o b))
unfolding subtitle_block_step
later_block_extends scope o b belongs few = grind (arith, nat_tests)

abbrev pub Within : ℕ → ℕ → List ℕ → Type 0
Within sgn_is sn_is b = BelongsTo sgn_is sn_is b × (ebn b < 240)

-- The list g has the blocks of the current subtitle so far, 1 to 9, without its last block. The
-- subtitle is skipped if and only if it begins outside the scope.
pub record IsStartedFrom (scope : Scope) (o : StartedSubtitle) (g : List (List ℕ)) : Type 0 where
  pub first : List ℕ
  pub others : List (List ℕ)
  pub blocks : g ≡ first ∷ others
  pub skipped : begins_outside scope first ≡ o.is_skipped
  pub own : (sgn first ≡ o.subtitle.sgn) × (sn first ≡ o.subtitle.sn)
  pub begins : o.is_skipped ≡ false
      → Begins o.subtitle first × (o.subtitle.text ≡ flat_map text_of_block g)
  pub each : AllByRecursion (Within o.subtitle.sgn o.subtitle.sn) g
  pub size : length g ≡ o.blocks
  pub few : o.blocks ≤ 9

-- The list `kept` has the blocks of the current subtitle so far. If there is no current subtitle,
-- the list is empty.
abbrev pub Represents : Scope → Option StartedSubtitle → List (List ℕ) → Type 0
Represents scope None kept = kept ≡ []
Represents scope (Some o) kept = IsStartedFrom scope o kept

-- The effect of a block agrees with the list `kept` of blocks up to this block. After `More None`,
-- the list is empty or has all blocks of a subtitle outside the scope. After `More (Some o)`, it
-- has the blocks of the unfinished subtitle o. After `Yield s`, it has all blocks of the subtitle
-- s, which is not outside the scope.
abbrev pub ReachesState : Scope → List (List ℕ) → BlockStep → Type 0
ReachesState scope kept (More None) = (kept ≡ []) ⊎ AreOutside scope kept
ReachesState scope kept (More (Some o)) = IsStartedFrom scope o kept
ReachesState scope kept (Yield s) = AreBlocksOf s kept × (is_outside scope kept ≡ false)

appended_block_is_within : (sgn_is sn_is : ℕ) (g : List (List ℕ)) (b : List ℕ)
    → AllByRecursion (Within sgn_is sn_is) g
    → Within sgn_is sn_is b
    → AllByRecursion (Within sgn_is sn_is) (g ++ b ∷ [])
appended_block_is_within sgn_is sn_is [] b h w = (w, tt)
appended_block_is_within sgn_is sn_is (x ∷ g) b h w = (
  h.0,
  appended_block_is_within sgn_is sn_is g
      b h.1 w,
)

last_block_completes_links : (sgn_is sn_is : ℕ) (g : List (List ℕ)) (b : List ℕ)
    → AllByRecursion (Within sgn_is sn_is) g
    → BelongsTo sgn_is sn_is b
    → ebn b ≡ 255
    → AreLinked sgn_is sn_is (g ++ b ∷ [])
last_block_completes_links sgn_is sn_is [] b h w e = (w, e)
last_block_completes_links sgn_is sn_is (x ∷ []) b h w e = (h.0.0, h.0.1, (w, e))
last_block_completes_links sgn_is sn_is (x ∷ y ∷ g) b h w e =
    (h.0.0, h.0.1, last_block_completes_links sgn_is sn_is (y ∷ g) b h.1 w e)

first_block_reaches_state : (scope : Scope) (b : List ℕ) (r : BlockStep)
    → length b ≡ 128
    → cf b ≡ 0
    → (ebn b < 240) ⊎ (ebn b ≡ 255)
    → subtitle_block_step scope None b ≡ Ok r
    → ReachesState scope (b ∷ []) r
unfolding subtitle_block_step
first_block_reaches_state scope b r size none e k = grind
    (arith, nat_tests, accepted_first_block_begins, append-nil)

later_block_reaches_state : (scope : Scope) (o : StartedSubtitle) (kept : List (List ℕ))
    (b : List ℕ)
    (r : BlockStep)
    → length b ≡ 128
    → cf b ≡ 0
    → (ebn b < 240) ⊎ (ebn b ≡ 255)
    → IsStartedFrom scope o kept
    → subtitle_block_step scope (Some o) b ≡ Ok r
    → ReachesState scope (kept ++ b ∷ []) r
unfolding subtitle_block_step
later_block_reaches_state scope o kept b r size none e h k =
    grind (
      arith,
      nat_tests,
      appended_block_is_within,
      last_block_completes_links,
      length-append,
      flat_map-append,
      append-nil,
    )

-- If the current subtitle agrees with the blocks read, the effect of one more block also agrees
-- with them, if this block has CF 0 and a valid EBN and is read without a fault.
subtitle_block_reaches_state : (scope : Scope) (begun : Option StartedSubtitle)
    (kept : List (List ℕ)) (b : List ℕ)
    (r : BlockStep)
    → length b ≡ 128
    → cf b ≡ 0
    → (ebn b < 240) ⊎ (ebn b ≡ 255)
    → Represents scope begun kept
    → subtitle_block_step scope begun b ≡ Ok r
    → ReachesState scope (kept ++ b ∷ []) r
subtitle_block_reaches_state scope None kept b r size none e h k = rw h (first_block_reaches_state
    scope b r size none e k)
subtitle_block_reaches_state scope (Some o) kept b r size none e h k = later_block_reaches_state
    scope o kept b r size none e h k

unchanged_state_is_reached : (scope : Scope) (begun : Option StartedSubtitle) (kept : List (List ℕ))
    → Represents scope begun kept
    → ReachesState scope kept (More begun)
unchanged_state_is_reached scope begun kept h = grind (arith, nat_tests)

-- If the current subtitle agrees with the blocks read, without skipped blocks, the effect of one
-- more block also agrees with them, if this block is read without a fault.
pub any_block_reaches_state : (scope : Scope) (begun : Option StartedSubtitle)
    (kept : List (List ℕ))
    (b : List ℕ)
    (r : BlockStep)
    → length b ≡ 128
    → Represents scope begun kept
    → tti_block_step scope begun b ≡ Ok r
    → ReachesState scope (kept ++ cond (is_unskipped_block b) (b ∷ []) []) r
unfolding tti_block_step
any_block_reaches_state scope begun kept b r size h e =
    grind (arith, nat_tests, append-nil, subtitle_block_reaches_state, unchanged_state_is_reached)

-- A block that completes a subtitle inside the scope is not a skipped block.
pub yielding_block_is_subtitle_block : (scope : Scope) (begun : Option StartedSubtitle) (b : List ℕ)
    (s : SubtitleValue)
    → tti_block_step scope begun b ≡ Ok (Yield s)
    → is_unskipped_block b ≡ true
unfolding tti_block_step
yielding_block_is_subtitle_block scope begun b s e = grind (arith, nat_tests)

-- A reader takes a block with a valid EBN and CF 0 as a block of a subtitle.
pub subtitle_block_has_subtitle_step : (scope : Scope) (begun : Option StartedSubtitle) (b : List ℕ)
    → (ebn b < 240) ⊎ (ebn b ≡ 255)
    → cf b ≡ 0
    → tti_block_step scope begun b ≡ subtitle_block_step scope begun b
unfolding tti_block_step
subtitle_block_has_subtitle_step scope begun b e c = grind (arith, nat_tests)

-- A skipped block, which is a comment or user data, does not change the current subtitle.
pub skipped_block_changes_nothing : (scope : Scope) (begun : Option StartedSubtitle) (b : List ℕ)
    → is_skipped_block b ≡ true
    → tti_block_step scope begun b ≡ Ok (More begun)
unfolding tti_block_step
skipped_block_changes_nothing scope begun b p = grind (arith, nat_tests)
