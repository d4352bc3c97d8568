-- The subtitles of a subtitle file are the subtitles that are read from the fixed positions of
-- their fields.
use Rattle.std.proofs.lemmas.Bool.Decides.{nat_tests}
use Rattle.std.proofs.Common.{◌≡◌, ◌∙◌, ℕ, ◌+◌, ◌<◌, Bool, true, false, List, []}
use Rattle.std.proofs.Common.{◌∷◌, ◌++◌, refl, sym, ap, arith, subst, take, drop, map}
use Rattle.std.proofs.Common.{length-append}
use Rattle.std.specs.Prelude.{◌==◌, ◌&&◌, ◌||◌, filter, not, nat_le, nat_lt, if◌then◌else◌}
use Rattle.std.specs.List.{AllByRecursion, AllZip, concat, flat_map}
use Rattle.std.proofs.lemmas.List.{drop_at, get_or-drop, get_or-take}
use Rattle.stl_file.specs.File.{IsFile, IsFileFor}
use Rattle.stl_file.specs.Scope.{begins_outside, is_inside, is_outside, whole}
use Rattle.stl_file.specs.declared.scope.Scope.{Scope}
use Rattle.stl_file.specs.Subtitle.{SubtitleValue}
use Rattle.stl_file.specs.SubtitleBlocks.{AreBlocksOf, AreLinked, AreOutside, IsBlock}
use Rattle.stl_file.specs.TimeCode.{frame_from_bytes, is_valid_time_field}
use Rattle.stl_file.specs.Tti.{cf, ebn, is_unskipped_block, tci, text_of_block}
use Rattle.stl_file.proofs.ScopeLemmas.{whole_scope_keeps_all_groups}
use Rattle.sub_headline.specs.PlainReading.{groups_of_blocks, belongs_to_subtitle}
use Rattle.sub_headline.specs.PlainReading.{chunks_of_size, subtitle_of_blocks}
use Rattle.sub_headline.specs.PlainReading.{begins_in, subtitles_by_place, subtitles_within}
use Rattle.sub_headline.specs.PlainReading.{frame_of_time_code}
use Rattle.sub_headline.proofs.FrameReadingLemmas.{chunks_of_cons}

chunks_are_blocks : (bs : List (List ℕ)) → AllByRecursion IsBlock bs → chunks_of_size 128
    (concat bs) ≡ bs
chunks_are_blocks [] each = refl
chunks_are_blocks (b ∷ bs) each =
    chunks_of_cons 128 b (concat bs) each.0 (omega (arith, length-append b (concat bs), each.0))
    ∙ ap (λ (rest : List (List ℕ)). b ∷ rest) (chunks_are_blocks bs each.1)

abbrev IsNoComment : List ℕ → Type 0
IsNoComment b = cf b ≡ 0

-- Let e be the EBN and c the CF of a block. If c is 0 (no comment) and the block is part of a
-- subtitle by the format of the file, it also passes the simpler test that e is not FE and c is not
-- 01.
kept_block_is_of_subtitle : (e c : ℕ)
    → c ≡ 0
    → not ((e == 0xFE) || ((nat_lt e 0xF0 || (e == 0xFF)) && (c == 0x01))) ≡ true
    → not ((e == 0xFE) || (c == 0x01)) ≡ true
kept_block_is_of_subtitle e c none is = grind (arith, nat_tests)

skipped_block_is_not_of_subtitle : (e c : ℕ)
    → not ((e == 0xFE) || ((nat_lt e 0xF0 || (e == 0xFF)) && (c == 0x01))) ≡ false
    → not ((e == 0xFE) || (c == 0x01)) ≡ false
skipped_block_is_not_of_subtitle e c is = grind (arith, nat_tests)

filters_agree_by_test : (is : Bool) (b : List ℕ) (bs : List (List ℕ))
    → is_unskipped_block b ≡ is
    → AllByRecursion IsNoComment (if is then b ∷ filter is_unskipped_block bs else filter
    is_unskipped_block bs)
    → (belongs_to_subtitle b ≡ is) × AllByRecursion IsNoComment (filter is_unskipped_block bs)
filters_agree_by_test true b bs is none = (
  kept_block_is_of_subtitle (ebn b) (cf b) none.0 is,
  none.1,
)
filters_agree_by_test false b bs is none = (
  skipped_block_is_not_of_subtitle (ebn b) (cf b) is,
  none,
)

filters_agree_without_comments : (bs : List (List ℕ))
    → AllByRecursion IsNoComment (filter is_unskipped_block bs)
    → filter belongs_to_subtitle bs ≡ filter is_unskipped_block bs
filters_agree_without_comments [] none = refl
filters_agree_without_comments (b ∷ bs) none =
    let by = filters_agree_by_test (is_unskipped_block b) b bs refl none in rw
    (by.0, filters_agree_without_comments bs by.1)
    refl

abbrev joined : List (List (List ℕ)) → List (List ℕ)
joined groups = flat_map (λ group. group) groups

joined_lists_satisfy : {X : Type 0} (P : X → Type 0) (xs ys : List X)
    → AllByRecursion P xs
    → AllByRecursion P ys
    → AllByRecursion P (xs ++ ys)
joined_lists_satisfy P [] ys each others = others
joined_lists_satisfy P (x ∷ xs) ys each others = (
  each.0,
  joined_lists_satisfy P xs ys each.1
      others,
)

linked_blocks_have_no_comment : (sgn_is sn_is : ℕ) (g : List (List ℕ))
    → AreLinked sgn_is sn_is g
    → AllByRecursion IsNoComment g
linked_blocks_have_no_comment sgn_is sn_is [] linked = tt
linked_blocks_have_no_comment sgn_is sn_is (b ∷ []) linked = (linked.0.is_subtitle, tt)
linked_blocks_have_no_comment sgn_is sn_is (b ∷ c ∷ g) linked =
    (linked.0.is_subtitle, linked_blocks_have_no_comment sgn_is sn_is (c ∷ g) linked.2)

low_number_is_not_last : (e : ℕ) → e < 0xF0 → (e == 0xFF) ≡ false
low_number_is_not_last e low = grind (arith, nat_tests)

last : (e : ℕ) → e ≡ 0xFF → (e == 0xFF) ≡ true
last e is = grind (arith, nat_tests)

first_group_is_split_off : (sgn_is sn_is : ℕ) (g rest : List (List ℕ))
    → AreLinked sgn_is sn_is g
    → groups_of_blocks (g ++ rest) ≡ g ∷ groups_of_blocks rest
first_group_is_split_off sgn_is sn_is [] rest linked = absurd linked
first_group_is_split_off sgn_is sn_is (b ∷ []) rest linked = rw (last (ebn b) linked.1) refl
first_group_is_split_off sgn_is sn_is (b ∷ c ∷ g) rest linked =
    rw (
      low_number_is_not_last (ebn b) linked.1,
      first_group_is_split_off sgn_is sn_is (c ∷ g) rest
          linked.2,
    ) refl

time_field_gives_frame : (b : List ℕ) (at : ℕ) → frame_of_time_code b at ≡ frame_from_bytes
    (take 4 (drop at b))
unfolding frame_from_bytes
time_field_gives_frame b at =
    let here : at + 0 ≡ at = omega arith in
    rw (
      get_or-take 4 (drop at b) 0 0 (omega arith),
      get_or-take 4 (drop at b) 1 0 (omega arith),
      get_or-take 4 (drop at b) 2 0 (omega arith),
      get_or-take 4 (drop at b) 3 0 (omega arith),
      get_or-drop at b 0 0,
      get_or-drop at b 1 0,
      get_or-drop at b 2 0,
      get_or-drop at b 3 0,
      here,
    ) refl

blocks_give_subtitle : (t : SubtitleValue) (g : List (List ℕ)) → AreBlocksOf t g →
    subtitle_of_blocks g ≡ t
blocks_give_subtitle t g of =
    let has_tci = time_field_gives_frame of.first 5 ∙ sym of.begins.has_tci.is in
    let has_tco = time_field_gives_frame of.first 9 ∙ sym of.begins.has_tco.is in
    let text_eq = ap (flat_map text_of_block) (sym of.blocks) ∙ sym of.text_eq in
    ap subtitle_of_blocks of.blocks
    ∙ rw (
      of.begins.sgn_is,
      of.begins.sn_is,
      has_tci,
      has_tco,
      of.begins.vp_eq,
      of.begins.jc_eq,
      text_eq,
    ) refl

-- The blocks, at least one, are those of one subtitle: all have CF 0 (no comment) and the same SGN
-- and SN, the last has the EBN FF, and the others have an EBN from 00 to EF.
abbrev AreBlocksOfOneSubtitle : List (List ℕ) → Type 0
AreBlocksOfOneSubtitle g = (sgn_is : ℕ) × (sn_is : ℕ) × AreLinked sgn_is sn_is g

group_is_linked_by_test : (scope : Scope) (out : Bool) (ts : List SubtitleValue) (g : List (List ℕ))
    (ins outs : List (List (List ℕ)))
    → is_outside scope g ≡ out
    → AllByRecursion (AreOutside scope) (if out then g ∷ outs else outs)
    → AllZip AreBlocksOf ts (if not out then g ∷ ins else ins)
    → AreBlocksOfOneSubtitle g
group_is_linked_by_test scope true ts g ins outs is outside are = (_, _, outside.0.linked)
group_is_linked_by_test scope false [] g ins outs is outside are = absurd are
group_is_linked_by_test scope false (t ∷ ts) g ins outs is outside are = (t.sgn, t.sn, are.0.linked)

other_groups_are_outside : (scope : Scope) (out : Bool) (g : List (List ℕ))
    (outs : List (List (List ℕ)))
    → AllByRecursion (AreOutside scope) (if out then g ∷ outs else outs)
    → AllByRecursion (AreOutside scope) outs
other_groups_are_outside scope true g outs outside = outside.1
other_groups_are_outside scope false g outs outside = outside

abbrev subtitles_after_group : Bool → List SubtitleValue → List SubtitleValue
subtitles_after_group true ts = ts
subtitles_after_group false [] = []
subtitles_after_group false (t ∷ ts) = ts

other_groups_give_subtitles : (out : Bool) (ts : List SubtitleValue) (g : List (List ℕ))
    (ins : List (List (List ℕ)))
    → AllZip AreBlocksOf ts (if not out then g ∷ ins else ins)
    → AllZip AreBlocksOf (subtitles_after_group out ts) ins
other_groups_give_subtitles true ts g ins are = are
other_groups_give_subtitles false [] g ins are = absurd are
other_groups_give_subtitles false (t ∷ ts) g ins are = are.1

all_groups_are_linked : (scope : Scope) (ts : List SubtitleValue) (groups : List (List (List ℕ)))
    → AllByRecursion (AreOutside scope) (filter (is_outside scope) groups)
    → AllZip AreBlocksOf ts (filter (is_inside scope) groups)
    → AllByRecursion AreBlocksOfOneSubtitle groups
all_groups_are_linked scope ts [] outside are = tt
all_groups_are_linked scope ts (g ∷ groups) outside are =
    let out = is_outside scope g in (
      group_is_linked_by_test scope out ts g (filter (is_inside scope) groups)
          (filter (is_outside scope) groups) refl outside are,
      all_groups_are_linked scope (subtitles_after_group out ts) groups
          (other_groups_are_outside scope out g (filter (is_outside scope) groups) outside)
          (other_groups_give_subtitles out ts g (filter (is_inside scope) groups) are),
    )

groups_have_no_comment : (groups : List (List (List ℕ)))
    → AllByRecursion AreBlocksOfOneSubtitle groups
    → AllByRecursion IsNoComment (joined groups)
groups_have_no_comment [] each = tt
groups_have_no_comment (g ∷ groups) each =
    joined_lists_satisfy IsNoComment g (joined groups)
    (linked_blocks_have_no_comment each.0.0 each.0.1 g each.0.2) (groups_have_no_comment groups
    each.1)

groups_are_split : (groups : List (List (List ℕ)))
    → AllByRecursion AreBlocksOfOneSubtitle groups
    → groups_of_blocks (joined groups) ≡ groups
groups_are_split [] each = refl
groups_are_split (g ∷ groups) each =
    rw (
      first_group_is_split_off each.0.0 each.0.1 g (joined groups) each.0.2,
      groups_are_split groups each.1,
    ) refl

outside_group_fails_scope_test : (scope : Scope) (b : List ℕ)
    → begins_outside scope b ≡ true
    → (nat_le scope.from (frame_from_bytes (tci b)) && nat_lt (frame_from_bytes (tci b)) scope.to) ≡
    false
unfolding begins_outside
outside_group_fails_scope_test scope b is = grind (arith, nat_tests)

inside_group_passes_scope_test : (scope : Scope) (b : List ℕ)
    → is_valid_time_field (tci b) ≡ true
    → begins_outside scope b ≡ false
    → (nat_le scope.from (frame_from_bytes (tci b)) && nat_lt (frame_from_bytes (tci b)) scope.to) ≡
    true
unfolding begins_outside
inside_group_passes_scope_test scope b time is = grind (arith, nat_tests)

outside_subtitle_begins_outside : (scope : Scope) (g : List (List ℕ))
    → AreOutside scope g
    → begins_in scope (subtitle_of_blocks g) ≡ false
outside_subtitle_begins_outside scope g of =
    ap (λ (bs : List (List ℕ)). begins_in scope (subtitle_of_blocks bs)) of.blocks
    ∙ ap (λ (n : ℕ). nat_le scope.from n && nat_lt n scope.to) (time_field_gives_frame of.first 5)
    ∙ outside_group_fails_scope_test scope of.first of.outside

begins_inside_scope : (scope : Scope) (t : SubtitleValue) (g : List (List ℕ))
    → AreBlocksOf t g
    → is_outside scope g ≡ false
    → begins_in scope t ≡ true
begins_inside_scope scope t g of is =
    let here : begins_outside scope of.first ≡ false =
    sym (ap (is_outside scope) of.blocks) ∙ is in
    ap (λ (n : ℕ). nat_le scope.from n && nat_lt n scope.to) of.begins.has_tci.is
    ∙ inside_group_passes_scope_test scope of.first of.begins.has_tci.in_range here

group_gives_subtitle_by_test : (scope : Scope) (out : Bool) (ts : List SubtitleValue)
    (g : List (List ℕ))
    (groups ins outs : List (List (List ℕ)))
    → is_outside scope g ≡ out
    → AllByRecursion (AreOutside scope) (if out then g ∷ outs else outs)
    → AllZip AreBlocksOf ts (if not out then g ∷ ins else ins)
    → filter (begins_in scope) (map subtitle_of_blocks groups) ≡ subtitles_after_group out ts
    → filter (begins_in scope) (map subtitle_of_blocks (g ∷ groups)) ≡ ts
group_gives_subtitle_by_test scope true ts g groups ins outs is outside are rest =
    let others = filter (begins_in scope) (map subtitle_of_blocks groups) in
    ap
    (λ (b : Bool).
    let l : List SubtitleValue = if b then subtitle_of_blocks g ∷ others else others in l)
    (outside_subtitle_begins_outside scope g outside.0)
    ∙ rest
group_gives_subtitle_by_test scope false [] g groups ins outs is outside are rest = absurd are
group_gives_subtitle_by_test scope false (t ∷ ts) g groups ins outs is outside are rest =
    let others = filter (begins_in scope) (map subtitle_of_blocks groups) in
    ap (λ (one : SubtitleValue). filter (begins_in scope) (one ∷ map subtitle_of_blocks groups))
    (blocks_give_subtitle t g are.0)
    ∙ ap (λ (b : Bool). let l : List SubtitleValue = if b then t ∷ others else others in l)
    (begins_inside_scope scope t g are.0 is)
    ∙ ap (λ (l : List SubtitleValue). t ∷ l) rest

groups_in_scope_give_subtitles : (scope : Scope) (ts : List SubtitleValue)
    (groups : List (List (List ℕ)))
    → AllByRecursion (AreOutside scope) (filter (is_outside scope) groups)
    → AllZip AreBlocksOf ts (filter (is_inside scope) groups)
    → filter (begins_in scope) (map subtitle_of_blocks groups) ≡ ts
groups_in_scope_give_subtitles scope [] [] outside are = refl
groups_in_scope_give_subtitles scope (t ∷ ts) [] outside are = absurd are
groups_in_scope_give_subtitles scope ts (g ∷ groups) outside are =
    let out = is_outside scope g in
    let ins = filter (is_inside scope) groups in
    let outs = filter (is_outside scope) groups in
    group_gives_subtitle_by_test scope out ts g groups ins outs refl outside are
    (groups_in_scope_give_subtitles scope (subtitles_after_group out ts) groups
    (other_groups_are_outside scope out g outs outside)
    (other_groups_give_subtitles out ts g ins are))

each_group_gives_subtitle : (ts : List SubtitleValue) (groups : List (List (List ℕ)))
    → AllZip AreBlocksOf ts groups
    → map subtitle_of_blocks groups ≡ ts
each_group_gives_subtitle [] [] each = refl
each_group_gives_subtitle [] (g ∷ groups) each = absurd each
each_group_gives_subtitle (t ∷ ts) [] each = absurd each
each_group_gives_subtitle (t ∷ ts) (g ∷ groups) each = rw (
  blocks_give_subtitle t g each.0,
  each_group_gives_subtitle ts groups each.1,
) refl

file_groups_give_subtitles : (scope : Scope) (bytes gsi : List ℕ) (ts : List SubtitleValue)
    (file : IsFileFor scope bytes gsi ts)
    → subtitles_by_place bytes ≡ map subtitle_of_blocks file.rest.groups
file_groups_give_subtitles scope bytes gsi ts file =
    let each = all_groups_are_linked scope ts file.rest.groups file.rest.outside
    file.rest.are_subtitle_blocks in
    let none : AllByRecursion IsNoComment (filter is_unskipped_block file.blocks) =
    subst (λ (bs : List (List ℕ)). AllByRecursion IsNoComment bs) (sym file.rest.kept)
    (groups_have_no_comment file.rest.groups each) in
    rw (
      file.bytes,
      drop_at gsi (concat file.blocks) 1024 file.gsi.size,
      chunks_are_blocks file.blocks file.rest.each,
      filters_agree_without_comments file.blocks none,
      file.rest.kept,
      groups_are_split file.rest.groups each,
    ) refl

pub file_bytes_give_subtitles : (bytes gsi : List ℕ) (ts : List SubtitleValue)
    → IsFile bytes gsi ts
    → subtitles_by_place bytes ≡ ts
file_bytes_give_subtitles bytes gsi ts file =
    file_groups_give_subtitles whole bytes gsi ts file
    ∙ each_group_gives_subtitle ts file.rest.groups
    (subst (λ (groups : List (List (List ℕ))). AllZip AreBlocksOf ts groups)
    (whole_scope_keeps_all_groups file.rest.groups) file.rest.are_subtitle_blocks)

pub scope_of_file_gives_subtitles : (scope : Scope) (bytes gsi : List ℕ) (ts : List SubtitleValue)
    → IsFileFor scope bytes gsi ts
    → subtitles_within scope bytes ≡ ts
scope_of_file_gives_subtitles scope bytes gsi ts file =
    ap (filter (begins_in scope)) (file_groups_give_subtitles scope bytes gsi ts file)
    ∙ groups_in_scope_give_subtitles scope ts file.rest.groups file.rest.outside
    file.rest.are_subtitle_blocks
