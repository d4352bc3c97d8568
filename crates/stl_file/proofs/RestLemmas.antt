-- Bytes are read without a fault if and only if they are the blocks of subtitles.
use Rattle.std.proofs.Common.{◌≡◌, ℕ, false, true, cond, List, [], ◌∷◌, ◌++◌, length, refl, sym}
use Rattle.std.proofs.Common.{ap, ◌∙◌, append_assoc, arith, take, drop, Option, Some, None, Result}
use Rattle.std.proofs.Common.{Ok, Err, subst, zero, suc, ◌+◌, ◌-◌, ◌<◌, ◌≤◌, length-append, inl}
use Rattle.std.proofs.Common.{inr}
use Rattle.std.specs.Prelude.{filter}
use Rattle.std.specs.List.{AllByRecursion, flat_map, concat, AllZip}
use Rattle.std.proofs.lemmas.List.Folds.{concat-append}
use Rattle.std.proofs.lemmas.List.{append-nil, take-append-drop, length-take-le}
use Rattle.std.proofs.lemmas.Bool.{cases_Bool}
use Rattle.std.proofs.lemmas.Bool.Decides.{nat_tests}
use Rattle.stl_file.specs.declared.fault.StlFault.{StlFault}
use Rattle.stl_file.specs.Tti.{is_unskipped_block, ebn, sgn, sn, text_of_block, is_skipped_block}
use Rattle.stl_file.specs.Scope.{begins_outside, is_inside, is_outside}
use Rattle.stl_file.specs.declared.scope.Scope.{Scope}
use Rattle.stl_file.specs.SubtitleBlocks.{IsBlock, AreLinked, AreOutside, AreSubtitleBlocks}
use Rattle.stl_file.specs.SubtitleBlocks.{AreBlocksOf}
use Rattle.stl_file.specs.Subtitle.{SubtitleValue}
use Rattle.stl_file.specs.NormalForm.{SubtitlesOrFault, subtitles_of, prepend_subtitle}
use Rattle.stl_file.specs.Reading.{StartedSubtitle, BlockStep, More, Yield, Findings}
use Rattle.stl_file.specs.Reading.{step_after_block}
use Rattle.stl_file.specs.Reading.{findings_after_block}
use Rattle.stl_file.specs.Reading.{findings_with_room, subtitle_block_step, skipped_subtitle_from}
use Rattle.stl_file.specs.Reading.{tti_block_step, stopped}
use Rattle.stl_file.proofs.SubtitleBlocksLemmas.{filtering_adds_no_blocks}
use Rattle.stl_file.proofs.SubtitleBlocksLemmas.{linked_first_block_belongs}
use Rattle.stl_file.proofs.StepLemmas.{started_by_first_block, inside_first_block_starts}
use Rattle.stl_file.proofs.StepLemmas.{later_block_extends, extended_by_block}
use Rattle.stl_file.proofs.StepLemmas.{outside_first_block_starts_skipped}
use Rattle.stl_file.proofs.StepLemmas.{Represents, subtitle_block_has_subtitle_step}
use Rattle.stl_file.proofs.StepLemmas.{skipped_block_changes_nothing, any_block_reaches_state}
use Rattle.stl_file.proofs.FindingsLemmas.{findings_break_at_block_limit, findings_take_a_block}
use Rattle.stl_file.proofs.FindingsLemmas.{empty_bytes_end_the_findings}
use Rattle.stl_file.proofs.FindingsLemmas.{findings_take_the_front_block}
use Rattle.stl_file.proofs.FindingsLemmas.{findings_break_at_cut_block}

abbrev pub joined_groups : List (List (List ℕ)) → List (List ℕ)
joined_groups gs = flat_map (λ (g : List (List ℕ)). g) gs

-- `judged_with_room` gives the subtitles of the bytes, or their first fault, if at most `room`
-- blocks are permitted. `begun` is the current subtitle.
abbrev pub judged_with_room : Scope → ℕ → Option StartedSubtitle → List ℕ → SubtitlesOrFault
judged_with_room scope room begun b = subtitles_of (stopped (findings_with_room scope room begun b))

-- ---- completeness: the blocks of a file are read as its subtitles

findings_with_enough_room : (few room : ℕ) (f g : Option StartedSubtitle → Findings) (b : List ℕ)
    (r : Result BlockStep StlFault) (ss : List SubtitleValue)
    → ((next : Option StartedSubtitle) (ts : List SubtitleValue)
    → subtitles_of (stopped (f next)) ≡ Ok ts
    → subtitles_of (stopped (g next)) ≡ Ok ts)
    → subtitles_of (stopped (findings_after_block few f b r)) ≡ Ok ss
    → subtitles_of (stopped (findings_after_block room g b r)) ≡ Ok ss
findings_with_enough_room few room f g b r ss same e = grind arith

-- If blocks without their comments and user data are read as subtitles without a fault, the blocks
-- with them are read as the same subtitles, unless they are too many.
result_without_skipped : (scope : Scope) (bs : List (List ℕ)) (begun : Option StartedSubtitle)
    (few room : ℕ)
    (ss : List SubtitleValue)
    → AllByRecursion IsBlock bs
    → length bs ≤ few
    → length bs ≤ room
    → judged_with_room scope few begun (concat (filter is_unskipped_block bs)) ≡ Ok ss
    → judged_with_room scope room begun (concat bs) ≡ Ok ss
result_without_skipped scope [] begun few room ss h f le e = grind
    (arith, empty_bytes_end_the_findings)
result_without_skipped scope (b ∷ bs) begun few room ss h f le e =
    rw (findings_take_the_front_block scope room (room - 1) begun b (concat bs) (omega arith) h.0)
    (elim (cases_Bool (is_skipped_block b)) [
      | inl skipped ↦
          rw (skipped_block_changes_nothing scope begun b skipped)
          (result_without_skipped scope bs begun few (room - 1) ss h.1 (omega arith) (omega arith)
          (rw skipped at e))
      | inr kept ↦
          findings_with_enough_room (few - 1) (room - 1)
          (λ next. findings_with_room scope (few - 1) next (concat (filter is_unskipped_block bs)))
          (λ next. findings_with_room scope (room - 1) next (concat bs)) b
          (tti_block_step scope begun b) ss
          (λ next ts.
          result_without_skipped scope bs next (few - 1) (room - 1) ts h.1 (omega arith)
          (omega arith))
          (rw (
            kept,
            findings_take_the_front_block scope few (few - 1) begun b
                (concat (filter is_unskipped_block bs)) (omega arith)
                h.0,
          ) at e)
    ])

-- After the blocks of a subtitle, the result is that subtitle, unless it is skipped, followed by
-- the later subtitles.
abbrev judged_after_started : StartedSubtitle → List (List ℕ) → SubtitlesOrFault → SubtitlesOrFault
judged_after_started o tail j =
    cond o.is_skipped j
    (prepend_subtitle (record o.subtitle { text = o.subtitle.text ++ flat_map text_of_block tail })
    j)

-- If the remaining blocks of a subtitle are linked and not too many, reading them returns the
-- subtitle, unless it is skipped, and then the later subtitles.
linked_blocks_are_read : (scope : Scope) (tail : List (List ℕ)) (room : ℕ)
    (begun : Option StartedSubtitle)
    (b rest : List ℕ) (o : StartedSubtitle)
    → subtitle_block_step scope begun b ≡ Ok (step_after_block (ebn b) o)
    → AreLinked o.subtitle.sgn o.subtitle.sn (b ∷ tail)
    → o.blocks + length tail ≤ 9
    → length tail < room
    → judged_with_room scope room begun (b ++ (concat tail ++ rest))
    ≡ judged_after_started o tail (judged_with_room scope (room - length (b ∷ tail)) None rest)
linked_blocks_are_read scope [] room begun b rest o step linked few le =
    let one = findings_take_the_front_block scope room (room - 1) begun b rest (omega arith)
    linked.0.size in
    grind (arith, nat_tests, subtitle_block_has_subtitle_step, append-nil)
linked_blocks_are_read scope (c ∷ tail) room begun b rest o step linked few le =
    let kept = subtitle_block_has_subtitle_step scope begun b (inl linked.1) linked.0.is_subtitle in
    let one = findings_take_the_front_block scope room (room - 1) begun b
    (concat (c ∷ tail) ++ rest) (omega arith)
    linked.0.size in
    let next = later_block_extends scope o c
    (linked_first_block_belongs o.subtitle.sgn o.subtitle.sn c tail linked.2) (omega arith) in
    let on = linked_blocks_are_read scope tail (room - 1) (Some o) c rest (extended_by_block o c)
    next linked.2
    (omega arith) (omega arith) in
    grind (arith, nat_tests, append_assoc)

-- The blocks of a subtitle outside the scope, if they are not too many, do not change the result of
-- reading: it is the result for the bytes after them.
outside_group_is_skipped : (scope : Scope) (b : List ℕ) (others : List (List ℕ)) (room : ℕ)
    (rest : List ℕ)
    → AreOutside scope (b ∷ others)
    → length (b ∷ others) ≤ room
    → judged_with_room scope room None (b ++ (concat others ++ rest))
    ≡ judged_with_room scope (room - length (b ∷ others)) None rest
outside_group_is_skipped scope b others room rest i le =
    let same : b ≡ i.first = let e = i.blocks in cc in
    let linked : AreLinked (sgn b) (sn b) (b ∷ others) =
    subst (λ (x : List ℕ). AreLinked (sgn x) (sn x) (b ∷ others)) (sym same) i.linked in
    let outside : begins_outside scope b ≡ true = rw same i.outside in
    linked_blocks_are_read scope others room None b rest (skipped_subtitle_from b)
    (outside_first_block_starts_skipped scope b outside)
    linked
    (let few = i.few in omega arith) (omega arith)

-- Reading the blocks of a subtitle inside the scope returns the subtitle and then the later
-- subtitles, unless the blocks are too many.
inside_group_yields_subtitle : (scope : Scope) (s : SubtitleValue) (g : List (List ℕ)) (room : ℕ)
    (rest : List ℕ)
    → is_outside scope g ≡ false
    → AreBlocksOf s g
    → length g ≤ room
    → judged_with_room scope room None (concat g ++ rest)
    ≡ prepend_subtitle s (judged_with_room scope (room - length g) None rest)
inside_group_yields_subtitle scope s g room rest inside i le =
    let size = ap length i.blocks in
    let here : begins_outside scope i.first ≡ false = rw i.blocks at inside in
    let one = linked_blocks_are_read scope i.others room None i.first rest (started_by_first_block s
    i.first)
    (inside_first_block_starts scope s i.first here i.begins) (rw i.blocks at i.linked)
    (let few = i.few in omega arith) (omega arith) in
    let text = i.text_eq in
    grind (arith, append_assoc)

skipped_group_keeps_result : (scope : Scope) (b : List ℕ) (others : List (List ℕ))
    (gs : List (List (List ℕ)))
    (ss : List SubtitleValue) (room : ℕ)
    → AreOutside scope (b ∷ others)
    → length (joined_groups ((b ∷ others) ∷ gs)) ≤ room
    → judged_with_room scope (room - length (b ∷ others)) None (concat (joined_groups gs)) ≡ Ok ss
    → judged_with_room scope room None (concat (joined_groups ((b ∷ others) ∷ gs))) ≡ Ok ss
skipped_group_keeps_result scope b others gs ss room i le on =
    let joined : concat (joined_groups ((b ∷ others) ∷ gs))
    ≡ b ++ (concat others ++ concat (joined_groups gs)) =
    ap (λ (x : List ℕ). b ++ x) (concat-append others (joined_groups gs)) in
    rw joined
    (outside_group_is_skipped scope b others room (concat (joined_groups gs)) i
    (omega (arith, length-append (b ∷ others) (joined_groups gs), le))
    ∙ on)

yielded_group_keeps_result : (scope : Scope) (g : List (List ℕ)) (gs : List (List (List ℕ)))
    (kept : List (List (List ℕ))) (ss : List SubtitleValue) (room : ℕ)
    → is_outside scope g ≡ false
    → AllZip AreBlocksOf ss (g ∷ kept)
    → length (joined_groups (g ∷ gs)) ≤ room
    → ((ts : List SubtitleValue) → AllZip AreBlocksOf ts kept
    → judged_with_room scope (room - length g) None (concat (joined_groups gs)) ≡ Ok ts)
    → judged_with_room scope room None (concat (joined_groups (g ∷ gs))) ≡ Ok ss
yielded_group_keeps_result scope g gs kept [] room inside are le on = absurd are
yielded_group_keeps_result scope g gs kept (s ∷ ss) room inside are le on =
    rw (concat-append g (joined_groups gs))
    (inside_group_yields_subtitle scope s g room (concat (joined_groups gs)) inside are.0
    (omega (arith, length-append g (joined_groups gs), le))
    ∙ ap (prepend_subtitle s) (on ss are.1))

groups_yield_subtitles : (scope : Scope) (gs : List (List (List ℕ))) (ss : List SubtitleValue)
    (room : ℕ)
    → AllByRecursion (AreOutside scope) (filter (is_outside scope) gs)
    → AllZip AreBlocksOf ss (filter (is_inside scope) gs)
    → length (joined_groups gs) ≤ room
    → judged_with_room scope room None (concat (joined_groups gs)) ≡ Ok ss
groups_yield_subtitles scope [] [] room out are le = grind
    (arith, nat_tests, empty_bytes_end_the_findings)
groups_yield_subtitles scope [] (s ∷ ss) room out are le = absurd are
groups_yield_subtitles scope ([] ∷ gs) [] room out are le = absurd are
groups_yield_subtitles scope ([] ∷ gs) (s ∷ ss) room out are le = absurd
    (let e = are.0.blocks in cc)
groups_yield_subtitles scope ((b ∷ others) ∷ gs) ss room out are le =
    let few : length (joined_groups gs) ≤ room - length (b ∷ others) =
    omega (arith, length-append (b ∷ others) (joined_groups gs), le) in
    elim (cases_Bool (begins_outside scope b)) [
      | inl outside ↦
          let o = rw outside at out in
          skipped_group_keeps_result scope b others gs ss room o.0 le
          (groups_yield_subtitles scope gs ss (room - length (b ∷ others)) o.1 (rw outside at are)
          few)
      | inr inside ↦
          yielded_group_keeps_result scope (b ∷ others) gs (filter (is_inside scope) gs) ss room
          inside
          (rw inside at are) le
          (λ ts h.
          groups_yield_subtitles scope gs ts (room - length (b ∷ others)) (rw inside at out) h few)
    ]

-- If at most `room` blocks contain the subtitles ss, reading the blocks returns ss without a fault.
pub valid_blocks_are_read : (scope : Scope) (bs : List (List ℕ)) (room : ℕ)
    (ss : List SubtitleValue)
    → AreSubtitleBlocks scope room bs ss
    → judged_with_room scope room None (concat bs) ≡ Ok ss
valid_blocks_are_read scope bs room ss r =
    let few : length (joined_groups r.groups) ≤ room =
    omega (arith, r.few, filtering_adds_no_blocks bs, ap length r.kept) in
    result_without_skipped scope bs None room room ss r.each r.few r.few
    (rw r.kept (groups_yield_subtitles scope r.groups ss room r.outside r.are_subtitle_blocks few))

-- ---- soundness: bytes that are read as subtitles are their blocks

-- The bytes b are at most `room` blocks which, after the blocks `before` of the current subtitle,
-- contain the subtitles ss.
pub record ReadsAsGroups
    (scope : Scope) (room : ℕ) (before : List (List ℕ)) (b : List ℕ) (ss : List SubtitleValue)
    : Type 0 where
  pub blocks : List (List ℕ)
  pub each : AllByRecursion IsBlock blocks
  pub few : length blocks ≤ room
  pub bytes : b ≡ concat blocks
  pub groups : List (List (List ℕ))
  pub kept : before ++ filter is_unskipped_block blocks ≡ joined_groups groups
  pub outside : AllByRecursion (AreOutside scope) (filter (is_outside scope) groups)
  pub inside_groups_match : AllZip AreBlocksOf ss (filter (is_inside scope) groups)

front_block_keeps_reading : (scope : Scope) (room : ℕ) (before k : List (List ℕ)) (b : List ℕ)
    (ss ts : List SubtitleValue) (groups : List (List (List ℕ)))
    → 128 ≤ length b
    → (r : ReadsAsGroups scope room k (drop 128 b) ts)
    → (before ++ cond (is_unskipped_block (take 128 b)) (take 128 b ∷ []) []) ++ filter
    is_unskipped_block r.blocks
    ≡ joined_groups groups
    → AllByRecursion (AreOutside scope) (filter (is_outside scope) groups)
    → AllZip AreBlocksOf ss (filter (is_inside scope) groups)
    → ReadsAsGroups scope (suc room) before b ss
front_block_keeps_reading scope room before k b ss ts groups le r kept out are = record {
  blocks = take 128 b ∷ r.blocks;
  each = (length-take-le 128 b le, r.each);
  few = grind arith;
  bytes = sym (take-append-drop 128 b) ∙ ap (λ (x : List ℕ). take 128 b ++ x) r.bytes;
  groups = groups;
  kept = grind (arith, append_assoc);
  outside = out;
  inside_groups_match = are;
}

pub ok_result_splits : (s : SubtitleValue) (j : SubtitlesOrFault) (ss : List SubtitleValue)
    → prepend_subtitle s j ≡ Ok ss
    → (rest : List SubtitleValue) × (j ≡ Ok rest) × (ss ≡ s ∷ rest)
ok_result_splits s j ss e = grind (arith, nat_tests)

abbrev HasGroups : Scope → List SubtitleValue → List (List (List ℕ)) → Type 0
HasGroups scope ss gs =
    AllByRecursion (AreOutside scope) (filter (is_outside scope) gs)
    × AllZip AreBlocksOf ss (filter (is_inside scope) gs)

outside_group_adds_nothing : (scope : Scope) (ss : List SubtitleValue) (g : List (List ℕ))
    (gs : List (List (List ℕ)))
    → AreOutside scope g
    → HasGroups scope ss gs
    → HasGroups scope ss (g ∷ gs)
outside_group_adds_nothing scope ss [] gs i h = absurd (let e = i.blocks in cc)
outside_group_adds_nothing scope ss (b ∷ others) gs i h =
    let same : b ≡ i.first = let e = i.blocks in cc in
    let outside : begins_outside scope b ≡ true = rw same i.outside in
    (rw outside (i, h.0), rw outside h.1)

inside_group_adds_subtitle : (scope : Scope) (s : SubtitleValue) (ss : List SubtitleValue)
    (g : List (List ℕ))
    (gs : List (List (List ℕ)))
    → is_outside scope g ≡ false
    → AreBlocksOf s g
    → HasGroups scope ss gs
    → HasGroups scope (s ∷ ss) (g ∷ gs)
inside_group_adds_subtitle scope s ss [] gs inside i h = (h.0, (i, h.1))
inside_group_adds_subtitle scope s ss (b ∷ others) gs inside i h = (
  rw inside h.0,
  rw inside
      (i, h.1),
)

step_keeps_reading : (scope : Scope) (room : ℕ) (begun : Option StartedSubtitle)
    (before : List (List ℕ))
    (b : List ℕ) (ss : List SubtitleValue) (r : Result BlockStep StlFault)
    → 128 ≤ length b
    → Represents scope begun before
    → tti_block_step scope begun (take 128 b) ≡ r
    → ((g : Option StartedSubtitle) (k : List (List ℕ)) (ts : List SubtitleValue) → Represents scope
    g k
    → judged_with_room scope room g (drop 128 b) ≡ Ok ts → ReadsAsGroups scope room k (drop 128 b)
    ts)
    → subtitles_of (stopped (findings_after_block room
    (λ next. findings_with_room scope room next (drop 128 b)) (take 128 b) r)) ≡ Ok ss
    → ReadsAsGroups scope (suc room) before b ss
step_keeps_reading scope room begun before b ss (Err f) le rep e go all = absurd (grind arith)
step_keeps_reading scope room begun before b ss (Ok (More (Some o))) le rep e go all =
    let s = any_block_reaches_state scope begun before (take 128 b) (More (Some o))
    (length-take-le 128 b le) rep
    e in
    let r = go (Some o) _ ss s all in
    front_block_keeps_reading scope room before _ b ss ss r.groups le r r.kept r.outside
    r.inside_groups_match
step_keeps_reading scope room begun before b ss (Ok (More None)) le rep e go all =
    elim (any_block_reaches_state scope begun before (take 128 b) (More None)
    (length-take-le 128 b le) rep e) [
      | inl none ↦
          let r = go None _ ss none all in
          front_block_keeps_reading scope room before _ b ss ss r.groups le r r.kept r.outside
          r.inside_groups_match
      | inr out ↦
          let r = go None [] ss refl all in
          let own = before ++ cond (is_unskipped_block (take 128 b)) (take 128 b ∷ []) [] in
          let has = outside_group_adds_nothing scope ss own r.groups out
          (r.outside, r.inside_groups_match) in
          front_block_keeps_reading scope room before [] b ss ss (own ∷ r.groups) le r
          (ap (λ (x : List (List ℕ)). own ++ x) r.kept) has.0 has.1
    ]
step_keeps_reading scope room begun before b ss (Ok (Yield s)) le rep e go all =
    let t = any_block_reaches_state scope begun before (take 128 b) (Yield s)
    (length-take-le 128 b le) rep e in
    let c = ok_result_splits s _ ss all in
    let r = go None [] c.0 refl c.1 in
    let own = before ++ cond (is_unskipped_block (take 128 b)) (take 128 b ∷ []) [] in
    let has = inside_group_adds_subtitle scope s c.0 own r.groups t.1 t.0
    (r.outside, r.inside_groups_match) in
    front_block_keeps_reading scope room before [] b ss c.0 (own ∷ r.groups) le r
    (ap (λ (x : List (List ℕ)). own ++ x) r.kept) has.0
    (subst (λ (x : List SubtitleValue). AllZip AreBlocksOf x
    (filter (is_inside scope) (own ∷ r.groups))) (sym c.2) has.1)

-- If bytes are read as subtitles without a fault, they are blocks which, after the blocks `before`
-- of the current subtitle, contain these subtitles.
pub accepted_bytes_are_valid_blocks : (scope : Scope) (room : ℕ) (begun : Option StartedSubtitle)
    (before : List (List ℕ))
    (b : List ℕ) (ss : List SubtitleValue)
    → Represents scope begun before
    → judged_with_room scope room begun b ≡ Ok ss
    → ReadsAsGroups scope room before b ss
accepted_bytes_are_valid_blocks scope room None before [] ss rep e = record {
  blocks = [];
  each = tt;
  few = omega arith;
  bytes = refl;
  groups = [];
  kept = append-nil before ∙ rep;
  outside = tt;
  inside_groups_match = grind (arith, empty_bytes_end_the_findings);
}
accepted_bytes_are_valid_blocks scope room (Some o) before [] ss rep e = absurd
    (grind (arith, empty_bytes_end_the_findings))
accepted_bytes_are_valid_blocks scope zero begun before (x ∷ b) ss rep e = absurd
    (grind (arith, findings_break_at_block_limit))
accepted_bytes_are_valid_blocks scope (suc room) begun before (x ∷ b) ss rep e =
    let long : 128 ≤ length (x ∷ b) = grind (arith, findings_break_at_cut_block) in
    step_keeps_reading scope room begun before (x ∷ b) ss _ long rep refl
    (λ g k ts. accepted_bytes_are_valid_blocks scope room g k _ ts)
    (rw (findings_take_a_block scope room begun (x ∷ b) long) at e)
