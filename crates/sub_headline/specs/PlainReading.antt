-- The subtitles, frames and packets in the bytes of both files, read from the fixed positions of
-- their fields. These definitions do not check the bytes; `AreReadFrom` states that the bytes match
-- the formats and contain no other subtitles or frames. With fixed positions, a reader of the
-- headline does not need the grammars of the two formats.
use Rattle.std.specs.Prelude.{ℕ, zero, suc, ◌+◌, ◌-◌, ◌*◌, ◌/◌, ◌%◌, ◌^◌, Bool, not, ◌==◌, ◌||◌}
use Rattle.std.specs.Prelude.{List}
use Rattle.std.specs.Prelude.{[], ◌∷◌, length, take, drop, map, filter, slice_index, slice_index_or}
use Rattle.std.specs.Prelude.{if◌then◌else◌, ◌&&◌, nat_le, nat_lt}
use Rattle.std.specs.List.{flat_map, onto_first, range_with_len}
use Rattle.ttx_packet.specs.BitOrder.{mirror}
use Rattle.stl_file.specs.Subtitle.{SubtitleValue}
use Rattle.stl_file.specs.declared.scope.Scope.{Scope}
use Rattle.stl_file.specs.TimeCode.{frame_of}
use Rattle.stl_file.specs.Tti.{bytes_before_unused_space}
use Rattle.sub_rules.specs.Transmission.{SentFrame, Transmission}

-- Bytes cut into chunks of equal size. A shorter chunk at the end is left out.
abbrev pub chunks_of_size : ℕ → List ℕ → List (List ℕ)
chunks_of_size size bytes =
    map (λ k. take size (drop (size * k) bytes)) (range_with_len 0 (length bytes / size))

-- ---- fields of a PES file

-- The size of the first PES packet (ISO/IEC 13818-1). PES_packet_length, in bytes 4 and 5, is the
-- number of bytes from byte 6 on.
abbrev pub size_of_first_packet : List ℕ → ℕ
size_of_first_packet b = 0x100 * slice_index b 4 + slice_index b 5 + 6

-- The PES packets of a file, in order; the first argument limits their number.
abbrev pub packets_by_size : ℕ → List ℕ → List (List ℕ)
packets_by_size zero b = []
packets_by_size (suc most) [] = []
packets_by_size (suc most) (x ∷ b) =
    take (size_of_first_packet (x ∷ b)) (x ∷ b) ∷ packets_by_size most
    (drop (size_of_first_packet (x ∷ b)) (x ∷ b))

-- The PTS of a PES packet (ISO/IEC 13818-1), bytes 9 to 13: 33 bits in groups of 3, 15 and 15, each
-- followed by a marker bit.
abbrev pub pts_of_packet : List ℕ → ℕ
pts_of_packet b =
    (slice_index b 9 / 2) % 8 * 2 ^ 30
    + slice_index b 10 * 2 ^ 22
    + slice_index b 11 / 2 * 2 ^ 15
    + slice_index b 12 * 2 ^ 7
    + slice_index b 13 / 2

-- The Teletext packet of a data unit (EN 300 472), if the unit carries one (data_unit_id, byte 0,
-- is 02 or 03): bytes 4 to 45, each with its bits in reverse order.
abbrev pub teletext_packet_of_unit : List ℕ → List (List ℕ)
teletext_packet_of_unit unit =
    if (slice_index unit 0 == 0x02) || (slice_index unit 0 == 0x03)
    then map mirror (drop 4 unit) ∷ []
    else []

-- The frame of a PES packet, given the PTS of frame 0: its number, with 3600 ticks of the 33-bit
-- PTS per frame, and the Teletext packets of its data units (EN 300 472), which have 46 bytes each
-- and start at byte 46.
abbrev pub frame_of_pes_packet : ℕ → List ℕ → SentFrame
frame_of_pes_packet origin b = record {
  frame = (pts_of_packet b + (2 ^ 33 - origin)) % 2 ^ 33 / 3600;
  packets = flat_map teletext_packet_of_unit (chunks_of_size 46 (drop 46 b));
}

-- The frames of a PES file, given the PTS of frame 0. The number of PES packets is at most the
-- number of bytes.
abbrev pub frames_by_place : ℕ → List ℕ → Transmission
frames_by_place origin bytes = map (frame_of_pes_packet origin) (packets_by_size (length bytes)
    bytes)

-- ---- fields of a subtitle file

-- The block belongs to a subtitle (EBU Tech 3264, TTI block): it is not user data (EBN, byte 3, is
-- FE) and not a comment (CF, byte 15, is 01).
abbrev pub belongs_to_subtitle : List ℕ → Bool
belongs_to_subtitle b = not ((slice_index b 3 == 0xFE) || (slice_index b 15 == 0x01))

-- The blocks grouped by subtitle: EBN, byte 3, is FF in the last block of each subtitle.
abbrev pub groups_of_blocks : List (List ℕ) → List (List (List ℕ))
groups_of_blocks [] = []
groups_of_blocks (b ∷ blocks) =
    if slice_index b 3 == 0xFF
    then (b ∷ []) ∷ groups_of_blocks blocks
    else onto_first b (groups_of_blocks blocks)

-- The frame of the day for the four bytes from `at` on: hours, minutes, seconds and frames.
abbrev pub frame_of_time_code : List ℕ → ℕ → ℕ
frame_of_time_code b at =
    frame_of (slice_index b at) (slice_index b (at + 1)) (slice_index b (at + 2))
    (slice_index b (at + 3))

-- A subtitle (EBU Tech 3264, TTI block). Its first block has SGN at byte 0, SN at 1 and 2, low byte
-- first, TCI at 5, TCO at 9, VP at 13, JC at 14. The text is TF of each block, from byte 16 on, up
-- to but not including the first 8F.
abbrev pub subtitle_of_blocks : List (List ℕ) → SubtitleValue
subtitle_of_blocks group =
    let b = slice_index_or group 0 [] in
    record {
      sgn = slice_index b 0;
      sn = slice_index b 1 + 0x100 * slice_index b 2;
      tci = frame_of_time_code b 5;
      tco = frame_of_time_code b 9;
      vp = slice_index b 13;
      jc = slice_index b 14;
      text = flat_map (λ block. bytes_before_unused_space (drop 16 block)) group;
    }

-- The subtitles of a file: blocks of 128 bytes after a GSI block of 1024 bytes.
abbrev pub subtitles_by_place : List ℕ → List SubtitleValue
subtitles_by_place bytes =
    map subtitle_of_blocks
    (groups_of_blocks (filter belongs_to_subtitle (chunks_of_size 128 (drop 1024 bytes))))

-- The TCI of the subtitle is in the selected part of the file.
abbrev pub begins_in : Scope → SubtitleValue → Bool
begins_in scope t = nat_le scope.from t.tci && nat_lt t.tci scope.to

-- The subtitles in the selected part of a file.
abbrev pub subtitles_within : Scope → List ℕ → List SubtitleValue
subtitles_within scope bytes = filter (begins_in scope) (subtitles_by_place bytes)
