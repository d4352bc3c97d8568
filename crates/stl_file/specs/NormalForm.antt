-- The normal form of a subtitle file: its GSI block with the counts of blocks and subtitles, and
-- each subtitle in the fewest blocks, without comments and user data.
use Rattle.std.specs.Prelude.{◌≡◌, ℕ, zero, suc, ◌-◌, ◌+◌, ◌/◌, ◌%◌, List, [], ◌∷◌, ◌++◌, length}
use Rattle.std.specs.Prelude.{take, drop, replicate, Option, Result, Ok, Err}
use Rattle.std.specs.List.{flat_map, concat}
use Rattle.std.specs.Io.KnownBytes.{Keeps, Appends}
use Rattle.sub_io.specs.Device.{AppendsPrefix}
use Rattle.stl_file.specs.declared.fault.NormalFault.{NormalFault}
use Rattle.stl_file.specs.declared.fault.NormalFault.TheVariants.{Refused, Write}
use Rattle.stl_file.specs.TimeCode.{time_bytes}
use Rattle.stl_file.specs.Tti.{unused_space, last_block_ebn, not_cumulative, no_comment}
use Rattle.stl_file.specs.Subtitle.{SubtitleValue}
use Rattle.stl_file.specs.Gsi.{gsi_size, with_counts}
use Rattle.stl_file.specs.Reading.{Outcome, ends, fails, gives}
use Rattle.stl_file.specs.Reader.{outcome_of_file}
use Rattle.stl_file.specs.File.{IsFile}

-- ---- the blocks of one subtitle in the normal form

-- The first 16 bytes of a block of the subtitle s: SGN, SN with its low byte first, EBN, CS, TCI,
-- TCO, VP, JC and CF.
abbrev pub block_head : SubtitleValue → ℕ → List ℕ
block_head s ebn =
    s.sgn ∷ (s.sn % 256) ∷ (s.sn / 256) ∷ ebn ∷ not_cumulative
    ∷ (time_bytes s.tci ++ (time_bytes s.tco ++ (s.vp ∷ s.jc ∷ no_comment ∷ [])))

-- A text field: a part of a subtitle's text, padded with unused space to 112 bytes.
abbrev pub text_field : List ℕ → List ℕ
text_field chunk = chunk ++ replicate (112 - length chunk) unused_space

-- The TTI block of the subtitle s with this EBN and this part of the subtitle's text.
unfoldable pub block_of : SubtitleValue → ℕ → List ℕ → List ℕ
block_of s ebn chunk = block_head s ebn ++ text_field chunk

-- The blocks of a subtitle: `full` blocks with full text fields, whose EBN counts up, then the last
-- block.
unfoldable pub blocks_from : SubtitleValue → ℕ → ℕ → List ℕ → List (List ℕ)
blocks_from s zero ebn text = block_of s last_block_ebn text ∷ []
blocks_from s (suc full) ebn text =
    block_of s ebn (take 112 text) ∷ blocks_from s full (ebn + 1) (drop 112 text)

-- The number of full text fields, of 112 bytes each, before the last text field.
abbrev pub full_chunk_count : List ℕ → ℕ
full_chunk_count text = (length text - 1) / 112

-- The fewest blocks that hold the subtitle s, at least one.
abbrev pub blocks_of : SubtitleValue → List (List ℕ)
blocks_of s = blocks_from s (full_chunk_count s.text) 0x00 s.text

-- ---- the normal form of a whole file

-- The blocks of all subtitles in the list.
abbrev pub blocks_of_subtitles : List SubtitleValue → List (List ℕ)
blocks_of_subtitles ts = flat_map blocks_of ts

-- The GSI block g with TNB and TNS set for the normal form: to the number of blocks of all
-- subtitles, and to the number of subtitles.
abbrev pub gsi_with_counts : List ℕ → List SubtitleValue → List ℕ
gsi_with_counts g ts = with_counts (length (blocks_of_subtitles ts)) (length ts) g

-- The normal form of a file with the GSI block g and the subtitles ts.
abbrev pub normal_form : List ℕ → List SubtitleValue → List ℕ
normal_form g ts = gsi_with_counts g ts ++ concat (blocks_of_subtitles ts)

-- ---- the subtitles of a file as one list

-- The result of reading a file: all its subtitles, or its first fault with the number of the block.
abbrev pub SubtitlesOrFault : Type 0
SubtitlesOrFault = Result (List SubtitleValue) NormalFault

-- Puts the subtitle s in front of the subtitles in a result; a fault is unchanged.
abbrev pub prepend_subtitle : SubtitleValue → SubtitlesOrFault → SubtitlesOrFault
prepend_subtitle s (Ok ss) = Ok (s ∷ ss)
prepend_subtitle s (Err f) = Err f

-- The subtitles in a reader's results, or the first fault with the number of its block.
abbrev pub subtitles_of : Outcome → SubtitlesOrFault
subtitles_of ends = Ok []
subtitles_of (fails f block) = Err (Refused f block)
subtitles_of (gives s block o) = prepend_subtitle s (subtitles_of o)

-- ---- the effect of `normal`

-- The sink received the normal form of the file s, which has n subtitles.
pub record WritesNormal (s : List ℕ) (old new : Option (List ℕ)) (n : ℕ) : Type 0 where
  pub subtitles : List SubtitleValue
  pub is_file : IsFile s (take gsi_size s) subtitles
  pub count : n ≡ length subtitles
  pub wrote : Appends old new (normal_form (take gsi_size s) subtitles)

-- The sink received a prefix of the normal form of the file s.
pub record WritesPrefix (s : List ℕ) (old new : Option (List ℕ)) : Type 0 where
  pub subtitles : List SubtitleValue
  pub is_file : IsFile s (take gsi_size s) subtitles
  pub wrote : AppendsPrefix old new (normal_form (take gsi_size s) subtitles)

-- The effect of `normal` by its result: the sink received the normal form; or nothing, if the file
-- is rejected with its first fault and block; or a prefix of the normal form, if the sink failed.
abbrev pub NormalAnswers :
    List ℕ → Option (List ℕ) → Option (List ℕ) → Result ℕ NormalFault → Type 0
NormalAnswers s old new (Ok n) = WritesNormal s old new n
NormalAnswers s old new (Err (Refused f block)) =
    (subtitles_of (outcome_of_file s) ≡ Err (Refused f block)) × Keeps old new
NormalAnswers s old new (Err Write) = WritesPrefix s old new
