-- The blocks that are written for a subtitle are read back as that subtitle.
use Rattle.std.proofs.Common.{rules, ◌≡◌, ◌*◌, ℕ, true, List, [], ◌∷◌, ◌++◌, length, refl, ap}
use Rattle.std.proofs.Common.{append_assoc, arith, length-append, take, drop, zero, suc, ◌+◌, ◌-◌}
use Rattle.std.proofs.Common.{◌<◌, ◌≤◌, replicate, length-take}
use Rattle.std.proofs.lemmas.Bool.Decides.{nat_tests}
use Rattle.std.specs.List.{flat_map, concat}
use Rattle.std.proofs.lemmas.List.{append-nil, take-append-drop, length-replicate, length-drop}
use Rattle.std.proofs.lemmas.List.{drop-replicate}
use Rattle.stl_file.specs.Tti.{ebn, text_of_block, unused_space}
use Rattle.stl_file.specs.SubtitleBlocks.{BelongsTo, AreLinked, Begins, AreBlocksOf}
use Rattle.stl_file.specs.Subtitle.{SubtitleValue, IsSubtitle, has_no_unused_space}
use Rattle.stl_file.specs.NormalForm.{block_head, block_of, blocks_from, full_chunk_count}
use Rattle.stl_file.specs.NormalForm.{blocks_of}
use Rattle.stl_file.specs.TimeCode.{frame_from_bytes, is_valid_time_field}
use Rattle.stl_file.proofs.TimeCodeLemmas.{frame_has_valid_time_code}
use Rattle.stl_file.proofs.SubtitleLemmas.{padding_is_unused_space, prefix_has_no_unused_space}
use Rattle.stl_file.proofs.SubtitleLemmas.{suffix_has_no_unused_space}
use Rattle.stl_file.proofs.SubtitleBlocksLemmas.{front_block_stays_linked}
use Rattle.stl_file.proofs.SubtitleBlocksLemmas.{linked_text_fits_in_blocks}
use Rattle.stl_file.proofs.SubtitleBlocksLemmas.{blocks_make_valid_subtitle}

-- A TTI block of the normal form consists of 16 bytes, a part of the subtitle's text, and unused
-- space.
pub block_is_head_text_padding : (s : SubtitleValue) (e : ℕ) (chunk : List ℕ)
    → block_of s e chunk
    ≡ (block_head s e ++ chunk) ++ drop (length chunk) (replicate 112 unused_space)
unfolding block_of
block_is_head_text_padding s e chunk = search (rules, drop-replicate, append_assoc)

pub ruleset block_layout_rules = (append_assoc, block_is_head_text_padding)

block_has_ebn_and_text : (s : SubtitleValue) (e : ℕ) (chunk : List ℕ)
    → has_no_unused_space chunk ≡ true
    → (ebn (block_of s e chunk) ≡ e) × (text_of_block (block_of s e chunk) ≡ chunk)
unfolding block_of
block_has_ebn_and_text s e chunk h = (refl, padding_is_unused_space chunk (112 - length chunk) h)

block_belongs_to_subtitle : (s : SubtitleValue) (e : ℕ) (chunk : List ℕ)
    → length chunk ≤ 112
    → BelongsTo s.sgn s.sn (block_of s e chunk)
unfolding block_of
block_belongs_to_subtitle s e chunk le = grind (arith, length-append, length-replicate)

-- A TTI block written for a valid subtitle can be the first block of that subtitle.
block_begins_subtitle : (s : SubtitleValue) (e : ℕ) (chunk : List ℕ)
    → IsSubtitle s
    → Begins s (block_of s e chunk)
unfolding block_of is_valid_time_field frame_from_bytes
block_begins_subtitle s e chunk h = grind (arith, nat_tests, frame_has_valid_time_code)

-- A text of more than 112 bytes has one more full text field than the same text without its first
-- 112 bytes.
long_text_has_another_chunk : (text : List ℕ)
    → 112 < length text
    → full_chunk_count text ≡ suc (full_chunk_count (drop 112 text))
long_text_has_another_chunk text lt = omega (arith, length-drop 112 text)

pub long_text_blocks_join : (s : SubtitleValue) (ebn : ℕ) (text : List ℕ)
    → 112 < length text
    → concat (blocks_from s (full_chunk_count text) ebn text)
    ≡ block_of s ebn (take 112 text)
    ++ concat (blocks_from s (full_chunk_count (drop 112 text)) (ebn + 1) (drop 112 text))
unfolding blocks_from
long_text_blocks_join s ebn text lt = rw (long_text_has_another_chunk text lt) refl

pub short_text_is_one_block : (s : SubtitleValue) (ebn : ℕ) (text : List ℕ)
    → length text ≤ 112
    → concat (blocks_from s (full_chunk_count text) ebn text) ≡ block_of s 255 text
unfolding blocks_from
short_text_is_one_block s ebn text le = grind (arith, nat_tests, append-nil)

pub one_block_more_than_chunks : (s : SubtitleValue) (full ebn : ℕ) (text : List ℕ)
    → length (blocks_from s full ebn text) ≡ suc full
unfolding blocks_from
one_block_more_than_chunks s zero ebn text = refl
one_block_more_than_chunks s (suc full) ebn text = ap suc (one_block_more_than_chunks s full
    (ebn + 1) (drop 112 text))

pub ruleset spelled = (
  append_assoc,
  length-drop,
  long_text_blocks_join,
  short_text_is_one_block,
  one_block_more_than_chunks,
)

blocks_are_linked : (s : SubtitleValue) (full e : ℕ) (text : List ℕ)
    → length text ≤ 112 * suc full
    → e + full ≤ 240
    → has_no_unused_space text ≡ true
    → AreLinked s.sgn s.sn (blocks_from s full e text)
unfolding blocks_from
blocks_are_linked s zero e text le few h =
    (block_belongs_to_subtitle s 255 text (omega arith), (block_has_ebn_and_text s 255 text h).0)
blocks_are_linked s (suc full) e text le few h =
    let chunk = take 112 text in
    front_block_stays_linked s.sgn s.sn (block_of s e chunk)
    (blocks_from s full (e + 1) (drop 112 text))
    (block_belongs_to_subtitle s e chunk (omega (arith, length-take 112 text)))
    (let b = (block_has_ebn_and_text s e chunk (prefix_has_no_unused_space 112 text h)).0 in omega
    arith)
    (blocks_are_linked s full (e + 1) (drop 112 text) (omega (arith, length-drop 112 text))
    (omega arith) (suffix_has_no_unused_space 112 text h))

-- If a text has no unused space, the joined texts of the blocks written for it are the text again.
blocks_carry_the_text : (s : SubtitleValue) (full e : ℕ) (text : List ℕ)
    → has_no_unused_space text ≡ true
    → flat_map text_of_block (blocks_from s full e text) ≡ text
unfolding blocks_from
blocks_carry_the_text s zero e text h = rw ((block_has_ebn_and_text s 255 text h).1)
    (append-nil text)
blocks_carry_the_text s (suc full) e text h = rw (
  (block_has_ebn_and_text s e (take 112 text) (prefix_has_no_unused_space 112 text h)).1,
  blocks_carry_the_text s full (e + 1) (drop 112 text) (suffix_has_no_unused_space 112 text h),
) (take-append-drop 112 text)

first_block_begins_subtitle : (s : SubtitleValue) (full e : ℕ) (text : List ℕ)
    → IsSubtitle s
    → (first : List ℕ) × ((others : List (List ℕ)) × (blocks_from s full e text ≡ first ∷ others)
    × Begins s first)
unfolding blocks_from
first_block_begins_subtitle s zero e text
    h = (block_of s 255 text, ([], refl, block_begins_subtitle s 255 text h))
first_block_begins_subtitle s (suc full) e text h = (
  block_of s e (take 112 text),
  (blocks_from s full (e + 1) (drop 112 text), refl, block_begins_subtitle s e (take 112 text) h),
)

-- The blocks written for a valid subtitle satisfy the definition of its blocks.
blocks_form_the_subtitle : (s : SubtitleValue) → IsSubtitle s → AreBlocksOf s (blocks_of s)
blocks_form_the_subtitle s h =
    let full = full_chunk_count s.text in
    let b = first_block_begins_subtitle s full 0 s.text h in
    grind (
      arith,
      nat_tests,
      first_block_begins_subtitle,
      one_block_more_than_chunks,
      blocks_are_linked,
      blocks_carry_the_text,
    )

-- A subtitle read from a file can be written again, in no more blocks than the file has for the
-- subtitle.
pub respelling_needs_no_more_blocks : (s : SubtitleValue) (g : List (List ℕ))
    → AreBlocksOf s g
    → AreBlocksOf s (blocks_of s) × (length (blocks_of s) ≤ length g)
respelling_needs_no_more_blocks s g h = search (
  rules,
  blocks_form_the_subtitle,
  blocks_make_valid_subtitle,
  linked_text_fits_in_blocks,
  one_block_more_than_chunks,
)
