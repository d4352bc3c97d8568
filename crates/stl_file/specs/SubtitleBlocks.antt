-- The definition of the blocks of a subtitle and of a file, independent of any reader (EBU Tech
-- 3264, TTI blocks). The rules for the blocks of one subtitle are this project's choice.
use Rattle.std.specs.Prelude.{◌≡◌, ℕ, ◌<◌, ◌≤◌, true, List, [], ◌∷◌, length, filter}
use Rattle.std.specs.List.{flat_map, AllByRecursion, AllZip}
use Rattle.stl_file.specs.TimeCode.{frame_from_bytes, is_valid_time_field}
use Rattle.stl_file.specs.Tti.{block_size, max_blocks_of_subtitle, first_reserved_ebn}
use Rattle.stl_file.specs.Tti.{last_block_ebn}
use Rattle.stl_file.specs.Tti.{not_cumulative, no_comment, tci, tco}
use Rattle.stl_file.specs.Tti.{sgn, sn, ebn, cs, vp, jc, cf, text_of_block, is_unskipped_block}
use Rattle.stl_file.specs.Subtitle.{SubtitleValue}
use Rattle.stl_file.specs.Scope.{begins_outside, is_inside, is_outside}
use Rattle.stl_file.specs.declared.scope.Scope.{Scope}

-- A TTI block has 128 bytes.
abbrev pub IsBlock : List ℕ → Type 0
IsBlock b = length b ≡ block_size

-- The four bytes b are the time code of this frame.
pub record EncodesFrame (b : List ℕ) (frame : ℕ) : Type 0 where
  pub in_range : is_valid_time_field b ≡ true
  pub is : frame ≡ frame_from_bytes b

-- The block has 128 bytes, is no comment (CF 0), and has this SGN (subtitle group number) and SN
-- (subtitle number).
pub record BelongsTo (sgn_is sn_is : ℕ) (b : List ℕ) : Type 0 where
  pub size : length b ≡ block_size
  pub is_subtitle : cf b ≡ no_comment
  pub same_sgn : sgn b ≡ sgn_is
  pub same_sn : sn b ≡ sn_is

-- The blocks, at least one, belong to one subtitle with this SGN and SN: EBN is FF in the last, and
-- 00 to EF in the others. The order of extension block numbers is not checked.
abbrev pub AreLinked : ℕ → ℕ → List (List ℕ) → Type 0
AreLinked sgn_is sn_is [] = ⊥
AreLinked sgn_is sn_is (b ∷ []) = BelongsTo sgn_is sn_is b × (ebn b ≡ last_block_ebn)
AreLinked sgn_is sn_is (b ∷ c ∷ bs) =
    BelongsTo sgn_is sn_is b × (ebn b < first_reserved_ebn) × AreLinked sgn_is sn_is (c ∷ bs)

-- The block b has the fields of a first block of the subtitle s: CS 0, and SGN, SN, VP, JC, TCI and
-- TCO of s with valid values. EBN and CF are not checked here. The text is not compared, since s
-- also has the text of later blocks.
pub record Begins (s : SubtitleValue) (b : List ℕ) : Type 0 where
  pub cumulative : cs b ≡ not_cumulative
  pub sgn_is : sgn b ≡ s.sgn
  pub sn_is : sn b ≡ s.sn
  pub vp_eq : vp b ≡ s.vp
  pub jc_eq : jc b ≡ s.jc
  pub has_tci : EncodesFrame (tci b) s.tci
  pub has_tco : EncodesFrame (tco b) s.tco
  pub times : s.tci < s.tco
  pub vp_range : (1 ≤ s.vp) × (s.vp ≤ 23)
  pub jc_range : s.jc ≤ 3

-- The list has 1 to 9 blocks, and they are the blocks of the subtitle s: they are linked, the first
-- block has the fields of s, and the text of s is the joined text of all blocks.
pub record AreBlocksOf (s : SubtitleValue) (bs : List (List ℕ)) : Type 0 where
  pub first : List ℕ
  pub others : List (List ℕ)
  pub blocks : bs ≡ first ∷ others
  pub few : length bs ≤ max_blocks_of_subtitle
  pub begins : Begins s first
  pub linked : AreLinked s.sgn s.sn bs
  pub text_eq : s.text ≡ flat_map text_of_block bs

-- The list has 1 to 9 blocks, and they are the blocks of one subtitle outside the scope. Besides
-- SGN, SN, EBN and CF of each block, only the TCI of the first block is checked.
pub record AreOutside (scope : Scope) (bs : List (List ℕ)) : Type 0 where
  pub first : List ℕ
  pub others : List (List ℕ)
  pub blocks : bs ≡ first ∷ others
  pub few : length bs ≤ max_blocks_of_subtitle
  pub linked : AreLinked (sgn first) (sn first) bs
  pub outside : begins_outside scope first ≡ true

-- The blocks bs, at most `most`, contain the subtitles ts. Without skipped blocks, which are
-- comments and user data, bs consists of one group of blocks per subtitle. A group outside the
-- scope only has to be linked and to have at most nine blocks; the groups inside the scope are the
-- blocks of the subtitles ts, in order.
pub record AreSubtitleBlocks (scope : Scope) (most : ℕ) (bs : List (List ℕ))
    (ts : List SubtitleValue) : Type 0 where
  pub each : AllByRecursion IsBlock bs
  pub few : length bs ≤ most
  pub groups : List (List (List ℕ))
  pub kept : filter is_unskipped_block bs ≡ flat_map (λ group. group) groups
  pub outside : AllByRecursion (AreOutside scope) (filter (is_outside scope) groups)
  pub are_subtitle_blocks : AllZip AreBlocksOf ts (filter (is_inside scope) groups)
