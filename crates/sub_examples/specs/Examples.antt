-- Transmissions of page 888, byte by byte: a good one, and for each of eight rules that matter to
-- receivers a transmission that breaks only this one of them and fails at a receiver.
use Rattle.std.specs.Prelude.{◌≡◌, ◌≢◌, ◌⊎◌, ℕ, false, List, [], ◌∷◌, ◌++◌, None, replicate}
use Rattle.std.specs.Prelude.{IsFalse, IsTrue}
use Rattle.std.specs.List.{AllZip}
use Rattle.ttx_packet.specs.OneBit.{AreNear}
use Rattle.ttx_page.specs.Page.{cell, space}
use Rattle.ttx_page.specs.Receiver.{Hears, State}
use Rattle.ttx_page.specs.Receiver.ReceiverClass.{Storing}
use Rattle.stl_rows.specs.declared.national.National.TheVariants.{English}
use Rattle.stl_rows.specs.Layout.{default_layout, drawing_by}
use Rattle.stl_rows.specs.Programme.{ProgrammeValue}
use Rattle.sub_plan.specs.Examples.{page_888}
use Rattle.sub_plan.specs.Options.{OptionsValue}
use Rattle.sub_rules.specs.Transmission.{IsRising, Transmission, first_frame, last_frame}
use Rattle.sub_rules.specs.Events.{packet_fault, active_faults_at}
use Rattle.sub_rules.specs.Fault.{code_of_check_fault}
use Rattle.sub_rules.specs.FrameRules.{Criteria, criteria_of}
use Rattle.sub_rules.specs.Good.{Good}
use Rattle.sub_rules.specs.PacketTests.{breaks}
use Rattle.sub_rules.specs.declared.packet_rule.PacketRule.{PacketRule}
use Rattle.sub_laws.specs.CleanStretch.{HoldsAtFrameEnds, HoldsAtPackets, HasNoReceiverFault}
use Rattle.sub_laws.specs.CleanStretch.{is_needed_by_receivers}
use Rattle.sub_laws.specs.Recovery.{RecoversWithin}
use Rattle.sub_laws.specs.Robust.{Robust}

-- ---- Teletext packets of the examples

-- A packet X/0 with ten coded bytes and 32 spaces.
abbrev pub header_of_coded_bytes : List ℕ → List ℕ
header_of_coded_bytes coded = coded ++ replicate 32 0x20

-- A header of page 888 with four given bytes: `c4` codes S2 and C4, `c5_c6` codes S4, C5 and C6,
-- `c7_c10` codes C7 to C10, and `c11_c14` codes C11 to C14. The other coded bytes are the address
-- (two bytes), page units, page tens, S1 and S3.
abbrev pub header_888_with : ℕ → ℕ → ℕ → ℕ → List ℕ
header_888_with c4 c5_c6 c7_c10 c11_c14 =
    header_of_coded_bytes (0x15 ∷ 0x15 ∷ 0xD0 ∷ 0xD0 ∷ 0x15 ∷ c4 ∷ 0x15 ∷ c5_c6 ∷ c7_c10 ∷ c11_c14 ∷
    [])

-- A header of page 888 in English and in parallel mode: C4, C6 and C7 are set.
abbrev pub english_header : List ℕ
english_header = header_888_with 0xD0 0xD0 0x02 0x15

-- A header of page 888 in which C4 (erase page) is clear.
abbrev pub header_without_c4 : List ℕ
header_without_c4 = header_888_with 0x15 0xD0 0x02 0x15

-- A header of page 888 with one wrong bit in its first address byte.
abbrev pub header_with_wrong_bit : List ℕ
header_with_wrong_bit =
    header_of_coded_bytes (0x14 ∷ 0x15 ∷ 0xD0 ∷ 0xD0 ∷ 0x15 ∷ 0xD0 ∷ 0x15 ∷ 0xD0 ∷ 0x02 ∷ 0x15 ∷ [])

-- A packet X/0 whose page units can't be decoded. With one more wrong bit in that byte it is a
-- header.
abbrev pub undecodable_header : List ℕ
undecodable_header = header_of_coded_bytes (0x15 ∷ 0x15 ∷ 0xD3 ∷ 0xD0 ∷ 0x15 ∷ 0xD0 ∷ 0x15 ∷ 0xD0 ∷
    0x02 ∷
    0x15 ∷ [])

-- The header of page FF with subcode 3F7F (in EN 300 706: time filling header), which ends the
-- page.
abbrev pub time_filling_header : List ℕ
time_filling_header =
    header_of_coded_bytes (0x15 ∷ 0x15 ∷ 0xEA ∷ 0xEA ∷ 0xEA ∷ 0x2F ∷ 0xEA ∷ 0x5E ∷ 0x15 ∷ 0x15 ∷ [])

-- Packet 8/1, row 1 of magazine 8: the given first byte of text, and 39 spaces.
abbrev pub row_1 : ℕ → List ℕ
row_1 byte = 0xD0 ∷ 0x15 ∷ byte ∷ replicate 39 0x20

-- Packet 8/22, row 22 of magazine 8: `Hi` in a box in the middle, with each box code sent twice.
abbrev pub row_22 : List ℕ
row_22 =
    (0x15 ∷ 0x9B ∷ [])
    ++ replicate 17 0x20
    ++ (0x0B ∷ 0x0B ∷ 0xC8 ∷ 0xE9 ∷ 0x8A ∷ 0x8A ∷ [])
    ++ replicate 17 0x20

-- ---- transmissions of the examples

-- A transmission of frame 900000, 10:00:00:00, with these packets.
abbrev pub one_frame : List (List ℕ) → Transmission
one_frame packets = record { frame = 900000; packets = packets } ∷ []

-- A transmission of frames 900000 and 900001 with these packets.
abbrev pub two_frames : List (List ℕ) → List (List ℕ) → Transmission
two_frames first second =
    record { frame = 900000; packets = first } ∷ record { frame = 900001; packets = second } ∷ []

-- Options for page 888 with this repeat bound, and PTS 0 for frame 0.
abbrev pub options_with_bound : ℕ → OptionsValue
options_with_bound every =
    record {
      page = page_888;
      every = every;
      origin = 0;
      asks_complete = false;
      within = 0;
      pace = None;
      keeps = false;
    }

-- A transmission of frame 900000 with this header and the header that ends the page.
abbrev pub one_header : List ℕ → Transmission
one_header sent = one_frame (sent ∷ time_filling_header ∷ [])

-- A programme without subtitles: the expected page is always blank.
abbrev pub no_subtitles : ProgrammeValue
no_subtitles = record { drawing = drawing_by English default_layout; records = [] }

-- A programme with one subtitle, with this text, centred in row 22, which lasts for frame 900000
-- only.
abbrev pub one_subtitle : List ℕ → ProgrammeValue
one_subtitle text =
    record {
      drawing = drawing_by English default_layout;
      records =
          record {
            sgn = 0;
            sn = 1;
            tci = 900000;
            tco = 900001;
            vp = 22;
            jc = 2;
            text = text;
          }
          ∷ [];
    }

-- ---- a good transmission

-- The text `Hi` in frame 900000, followed by a blank page in the next frame, is a good
-- transmission.
abbrev pub ExampleOfGoodTransmission : Type 0
ExampleOfGoodTransmission =
    Good (one_subtitle (0x48 ∷ 0x69 ∷ []))
    (two_frames (english_header ∷ row_22 ∷ time_filling_header ∷ [])
    (english_header ∷ time_filling_header ∷ []))
    (options_with_bound 1)

-- ---- for each fault that matters to receivers, a transmission that fails at a receiver

-- The number of the fault for a packet that breaks rule `r`.
abbrev pub fault_number_of : PacketRule → ℕ
fault_number_of r = (code_of_check_fault (packet_fault r 0 0)).number

-- Except for faults with this number: frame numbers increase, no packet of the frames from `a` to
-- `b` breaks a rule that matters to receivers, and no wrong cell or missing header is active at the
-- end of any of these frames.
pub record HasNoReceiverFaultExcept
    (number : ℕ) (g : Criteria) (frames : Transmission) (a b : ℕ)
    : Type 0 where
  pub rising : number ≢ 62 → IsRising frames
  pub packets :
      (r : PacketRule)
      → IsTrue (is_needed_by_receivers r)
      → number ≢ fault_number_of r
      → HoldsAtPackets (λ before p. IsFalse (breaks r g.watched before p)) frames a b
  pub content :
      number ≢ 72 → HoldsAtFrameEnds (λ n f. (active_faults_at g frames n f).content ≡ None)
      frames a b
  pub gap : number ≢ 73 → HoldsAtFrameEnds (λ n f. IsFalse (active_faults_at g frames n f).gap)
      frames a b

-- If the expected pages are blank, the only faults that matter to receivers are faults with this
-- number, and the guarantees to receivers fail (`Robust`, `RecoversWithin`).
pub record IsRuleNeeded (number : ℕ) (transmission : Transmission) (every : ℕ) : Type 0 where
  pub others :
      HasNoReceiverFaultExcept number (criteria_of no_subtitles (options_with_bound every) None)
      transmission
      (first_frame transmission) (last_frame transmission)
  pub not_robust : Robust no_subtitles transmission (options_with_bound every) → ⊥
  pub not_trusted :
      RecoversWithin Storing no_subtitles transmission (options_with_bound every)
      (first_frame transmission)
      (last_frame transmission)
      → ⊥

-- A transmission in which row 1 is first blank, and then has an exclamation mark.
abbrev pub changed_row : Transmission
changed_row = one_frame (english_header ∷ row_1 0x20 ∷ row_1 0xA1 ∷ time_filling_header ∷ [])

-- A transmission with frame 900001 listed after frame 900002, which ends the page. So its row is
-- ignored.
abbrev pub transmission_out_of_order : Transmission
transmission_out_of_order =
    record { frame = 900000; packets = english_header ∷ [] }
    ∷ record { frame = 900002; packets = time_filling_header ∷ [] }
    ∷ record { frame = 900001; packets = row_1 0xA1 ∷ [] }
    ∷ record { frame = 900003; packets = english_header ∷ time_filling_header ∷ [] }
    ∷ []

-- Each of the eight rules is necessary: a transmission that breaks only this one of them fails at a
-- receiver.
pub record ExamplesOfNeededRules : Type 0 where
  -- A receiver of the frames up to 900001 has an exclamation mark that is not expected.
  pub frames_rise : IsRuleNeeded 62 transmission_out_of_order 3
  -- With another wrong bit the address byte can't be decoded, so the receiver misses the header.
  pub exact_addresses : IsRuleNeeded 64 (one_header header_with_wrong_bit) 1
  -- With one wrong bit, a packet X/0 becomes a header that was never sent.
  pub exact_headers : IsRuleNeeded 65
      (one_frame (english_header ∷ time_filling_header ∷ undecodable_header ∷ [])) 1
  -- Without C4, a receiver does not erase its old page.
  pub subtitle_headers : IsRuleNeeded 67 (one_header header_without_c4) 1
  -- The byte A0 may be received as A1, which has odd parity: an exclamation mark that was never
  -- sent.
  pub odd_rows :
      IsRuleNeeded 68 (one_frame (english_header ∷ row_1 0xA0 ∷ time_filling_header ∷ [])) 1
  -- Row 1 is sent twice with different codes. The check uses the first packet, but a receiver
  -- stores the second.
  pub same_rows : IsRuleNeeded 69 changed_row 1
  -- A receiver that receives the header and the row has an exclamation mark that is not expected.
  pub due_content :
      IsRuleNeeded 72 (one_frame (english_header ∷ row_1 0xA1 ∷ time_filling_header ∷ [])) 1
  -- A receiver that starts after the first frame receives no header within the repeat bound.
  pub headers_in_time : IsRuleNeeded 73 (two_frames (english_header ∷ time_filling_header ∷ [])
      (time_filling_header ∷ [])) 1

-- ---- clean frames of a rejected transmission

-- A programme with one subtitle, `Hi`, which lasts for frame 900001 only.
abbrev pub later_subtitle : ProgrammeValue
later_subtitle = record {
  drawing = drawing_by English default_layout;
  records =
      record {
        sgn = 0;
        sn = 1;
        tci = 900001;
        tco = 900002;
        vp = 22;
        jc = 2;
        text = 0x48 ∷ 0x69 ∷ [];
      }
      ∷ [];
}

-- A transmission of three frames. In frame 900000, the header does not erase the page, and a row
-- has a byte with even parity.
abbrev pub transmission_damaged_first : Transmission
transmission_damaged_first =
    record { frame = 900000; packets = header_without_c4 ∷ row_1 0xA0 ∷ time_filling_header ∷ [] }
    ∷ record { frame = 900001; packets = english_header ∷ row_22 ∷ time_filling_header ∷ [] }
    ∷ record { frame = 900002; packets = english_header ∷ time_filling_header ∷ [] }
    ∷ []

-- The transmission is rejected, but no fault that affects receivers is reported after its first
-- frame. So a receiver of frame 900001, with at most one wrong bit in each byte and any earlier
-- state, has the code of `H` in the right cell, or a space.
pub record ExampleOfCleanFrames : Type 0 where
  pub refused : Good later_subtitle transmission_damaged_first (options_with_bound 1) → ⊥
  pub clean : HasNoReceiverFault (criteria_of later_subtitle (options_with_bound 1) None)
      transmission_damaged_first
      900001 900002
  pub receiver_state :
      (got : List (List ℕ)) (old new : State)
      → AllZip AreNear (english_header ∷ row_22 ∷ time_filling_header ∷ []) got
      → Hears page_888 old got new
      → (cell new.page 22 19 ≡ 0x48) ⊎ (cell new.page 22 19 ≡ space)
