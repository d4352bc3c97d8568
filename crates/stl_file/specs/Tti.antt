-- A TTI block (EBU Tech 3264), 128 bytes:
--
--   0        SGN  subtitle group number
--   1, 2     SN   subtitle number, low byte first
--   3        EBN  extension block number: 00 to EF more blocks follow, F0 to FD reserved,
--                 FE user data, FF the subtitle's last block
--   4        CS   cumulative status: 0 not cumulative
--   5 to 8   TCI  time code in: hours, minutes, seconds and frames, in binary
--   9 to 12  TCO  time code out
--   13       VP   vertical position: row 1 to 23
--   14       JC   justification code: 0 unchanged, 1 left, 2 centred, 3 right
--   15       CF   comment flag: 0 subtitle, 1 comment
--   16 on    TF   text field, 112 bytes
--
-- The functions take the block's bytes; offsets count from 0.
use Rattle.std.specs.Prelude.{ℕ, ◌+◌, ◌*◌, Bool, not, ◌==◌, ◌||◌, ◌&&◌, nat_lt}
use Rattle.std.specs.Prelude.{List, drop, slice_index, [], ◌∷◌, if◌then◌else◌}
use Rattle.stl_file.specs.Gsi.{field}

-- Size of a TTI block in bytes.
abbrev pub block_size : ℕ
block_size = 128

-- The maximum number of TTI blocks of a file: TNB has five digits.
abbrev pub max_blocks : ℕ
max_blocks = 99999

-- The maximum number of blocks of a subtitle, this project's choice.
abbrev pub max_blocks_of_subtitle : ℕ
max_blocks_of_subtitle = 9

-- The first reserved EBN: a subtitle continues after each of its blocks with a smaller EBN.
abbrev pub first_reserved_ebn : ℕ
first_reserved_ebn = 0xF0

-- The EBN of a block with user data.
abbrev pub user_data_ebn : ℕ
user_data_ebn = 0xFE

-- The EBN of a subtitle's last block.
abbrev pub last_block_ebn : ℕ
last_block_ebn = 0xFF

-- The CS of a subtitle that is not part of a cumulative set.
abbrev pub not_cumulative : ℕ
not_cumulative = 0x00

-- The CF of a block that belongs to a subtitle.
abbrev pub no_comment : ℕ
no_comment = 0x00

-- The CF of a block that is a comment.
abbrev pub comment_flag : ℕ
comment_flag = 0x01

-- The byte of a text field that means unused space: the text ends before the first of these bytes.
abbrev pub unused_space : ℕ
unused_space = 0x8F

-- The TTI field SGN, the subtitle group number.
abbrev pub sgn : List ℕ → ℕ
sgn b = slice_index b 0

-- The TTI field SN, the subtitle number, low byte first.
abbrev pub sn : List ℕ → ℕ
sn b = slice_index b 1 + 256 * slice_index b 2

-- The TTI field EBN, the extension block number.
abbrev pub ebn : List ℕ → ℕ
ebn b = slice_index b 3

-- The TTI field CS, the cumulative status.
abbrev pub cs : List ℕ → ℕ
cs b = slice_index b 4

-- The TTI field TCI, the time code in.
abbrev pub tci : List ℕ → List ℕ
tci b = field 5 4 b

-- The TTI field TCO, the time code out.
abbrev pub tco : List ℕ → List ℕ
tco b = field 9 4 b

-- The TTI field VP, the vertical position.
abbrev pub vp : List ℕ → ℕ
vp b = slice_index b 13

-- The TTI field JC, the justification code.
abbrev pub jc : List ℕ → ℕ
jc b = slice_index b 14

-- The TTI field CF, the comment flag.
abbrev pub cf : List ℕ → ℕ
cf b = slice_index b 15

-- The TTI field TF, the text field.
abbrev pub tf : List ℕ → List ℕ
tf b = drop 16 b

-- The bytes of a text field before the first unused space (8F).
abbrev pub bytes_before_unused_space : List ℕ → List ℕ
bytes_before_unused_space [] = []
bytes_before_unused_space (x ∷ xs) = if x == unused_space then [] else x ∷ bytes_before_unused_space
    xs

-- The text of a TTI block: its text field before the first unused space.
abbrev pub text_of_block : List ℕ → List ℕ
text_of_block b = bytes_before_unused_space (tf b)

-- The block is skipped, because it is user data (whatever its CF), or a comment whose EBN is not
-- reserved.
abbrev pub is_skipped_block : List ℕ → Bool
is_skipped_block b =
    (ebn b == user_data_ebn)
    || ((nat_lt (ebn b) first_reserved_ebn || (ebn b == last_block_ebn)) && (cf b == comment_flag))

-- The block is not skipped. So it may be a comment with a reserved EBN, which is a fault.
abbrev pub is_unskipped_block : List ℕ → Bool
is_unskipped_block b = not (is_skipped_block b)
