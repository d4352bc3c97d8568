-- The blocks of a subtitle have 128 bytes each, and at most 112 bytes of text.
use Rattle.std.proofs.Common.{◌≡◌, ◌*◌, ℕ, List, [], ◌∷◌, length, refl, arith, length-append, ◌<◌}
use Rattle.std.proofs.Common.{◌≤◌}
use Rattle.std.proofs.lemmas.Bool.Decides.{nat_tests}
use Rattle.std.proofs.lemmas.List.Sums.{count_by-le-length, length-filter}
use Rattle.std.specs.Prelude.{filter}
use Rattle.std.specs.List.{AllByRecursion, flat_map, concat}
use Rattle.std.proofs.lemmas.List.{append-nil}
use Rattle.stl_file.specs.Tti.{is_unskipped_block, ebn, text_of_block}
use Rattle.stl_file.specs.SubtitleBlocks.{IsBlock, BelongsTo, AreLinked, AreBlocksOf}
use Rattle.stl_file.specs.Subtitle.{SubtitleValue, IsSubtitle}
use Rattle.stl_file.proofs.TimeCodeLemmas.{in_day}
use Rattle.stl_file.proofs.SubtitleLemmas.{block_text_fits_in_field, has_no_unused_space-texts}

pub length-concat : (bs : List (List ℕ))
    → AllByRecursion IsBlock bs
    → length (concat bs) ≡ 128 * length bs
length-concat [] h = refl
length-concat (x ∷ bs) h = grind (arith, nat_tests, length-append, length-concat bs h.1)

pub filtering_adds_no_blocks : (bs : List (List ℕ)) → length (filter is_unskipped_block bs) ≤ length
    bs
filtering_adds_no_blocks bs = omega (
  arith,
  length-filter is_unskipped_block bs,
  count_by-le-length
      is_unskipped_block bs,
)

pub linked_first_block_belongs : (sgn_is sn_is : ℕ) (b : List ℕ) (bs : List (List ℕ))
    → AreLinked sgn_is sn_is (b ∷ bs)
    → BelongsTo sgn_is sn_is b
linked_first_block_belongs sgn_is sn_is b bs h = grind (arith, nat_tests)

pub front_block_stays_linked : (sgn_is sn_is : ℕ) (b : List ℕ) (bs : List (List ℕ))
    → BelongsTo sgn_is sn_is b
    → ebn b < 240
    → AreLinked sgn_is sn_is bs
    → AreLinked sgn_is sn_is (b ∷ bs)
front_block_stays_linked sgn_is sn_is b bs h lt c = grind (arith, nat_tests)

-- The blocks of one subtitle together have at most 112 bytes of text per block.
pub linked_text_fits_in_blocks : (sgn_is sn_is : ℕ) (g : List (List ℕ))
    → AreLinked sgn_is sn_is g
    → length (flat_map text_of_block g) ≤ 112 * length g
linked_text_fits_in_blocks sgn_is sn_is [] c = absurd c
linked_text_fits_in_blocks sgn_is sn_is (b ∷ []) c = grind
    (arith, nat_tests, block_text_fits_in_field, append-nil)
linked_text_fits_in_blocks sgn_is sn_is (b ∷ x ∷ g) c =
    grind (
      arith,
      nat_tests,
      block_text_fits_in_field,
      length-append,
      linked_text_fits_in_blocks
          sgn_is sn_is (x ∷ g) c.2,
    )

-- If blocks in a file belong to a subtitle, the values of the subtitle are valid.
pub blocks_make_valid_subtitle : (s : SubtitleValue) (g : List (List ℕ)) → AreBlocksOf s g →
    IsSubtitle s
blocks_make_valid_subtitle s g h = grind (
  arith,
  nat_tests,
  linked_text_fits_in_blocks,
  in_day,
  has_no_unused_space-texts,
)
