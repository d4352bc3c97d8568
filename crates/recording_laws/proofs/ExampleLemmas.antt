-- The two example recordings satisfy the definitions of a complete recording and of a recording
-- with losses.
use Rattle.std.proofs.Common.{◌≡◌, ◌≤◌, ℕ, true, List, [], ◌∷◌, ◌++◌, length, refl, inl, inr, arith}
use Rattle.std.proofs.Common.{le_refl}
use Rattle.std.proofs.lemmas.Bool.{true≢false}
use Rattle.std.proofs.lemmas.Bool.Decides.{nat_tests}
use Rattle.ttx_pes.specs.PesPackets.{IsPesPacket}
use Rattle.mpeg_ts.specs.PacketsInStep.{max_stream_bytes}
use Rattle.mpeg_ts.specs.TransportPacket.{begins, payload}
use Rattle.recording_laws.specs.Examples.{ExampleOfLosses, ExampleOfMultiplex, sent_unit_with}
use Rattle.recording_laws.specs.Examples.{null_packet}
use Rattle.recording_laws.specs.Examples.{packet_with, pes_packet_filled_with}
use Rattle.recording_laws.specs.Examples.{recording_of_two_packets, sent_in_one_packet}
use Rattle.recording_laws.specs.Examples.{damaged_packet_with}
use Rattle.recording_laws.specs.Losses.{RecordedIntact, NotRecorded, RecordedDamaged}
use Rattle.recording_laws.specs.Losses.{arriving_bytes, sent_packet}
use Rattle.recording_laws.specs.Multiplex.{IsRecordedUnit, IsSentPes, carries, packet_in}

is_pes_packet : (filler : ℕ) → IsPesPacket (pes_packet_filled_with filler)
is_pes_packet filler = grind (arith, nat_tests)

sent_complete :
    {A : Type 0} (packet_of : A → List ℕ) (item : A) (filler : ℕ)
    → carries 257 (packet_of item) ≡ true
    → begins (packet_of item) ≡ true
    → payload (packet_of item) ++ [] ≡ pes_packet_filled_with filler
    → IsSentPes packet_of 257 (sent_in_one_packet item (pes_packet_filled_with filler))
sent_complete packet_of item filler carried_bytes begun joined = record {
  is_pes_packet = is_pes_packet filler;
  first = record {
    carries = carried_bytes;
    begins = begun;
    before = tt;
    no_jump = tt;
    again = tt;
    after = tt;
  };
  others = tt;
  joined = joined;
}

packet_is_recorded_unit : (byte_3 filler : ℕ) → IsRecordedUnit 188
    (packet_with byte_3 (pes_packet_filled_with filler))
packet_is_recorded_unit byte_3 filler = record {
  long = le_refl 188;
  short = le_refl 188;
  sync = refl;
}

null_packet_is_unit : IsRecordedUnit 188 null_packet
null_packet_is_unit = record { long = le_refl 188; short = le_refl 188; sync = refl }

few : (bytes : List ℕ) (n : ℕ) → length bytes ≡ n → n ≤ 1000 → length bytes ≤ max_stream_bytes
unfolding max_stream_bytes
few bytes n size short = omega (arith, size, short)

pub example_of_multiplex : ExampleOfMultiplex
example_of_multiplex = record {
  multiplex = record {
    lead = null_packet ∷ [];
    sent =
        sent_in_one_packet (packet_with 0x10 (pes_packet_filled_with 0x20))
        (pes_packet_filled_with 0x20)
        ∷ sent_in_one_packet (packet_with 0x11 (pes_packet_filled_with 0x21))
        (pes_packet_filled_with 0x21)
        ∷ [];
  };
  is_multiplex = record {
    lead = (refl, tt);
    sent = (
      sent_complete (packet_in 188) (packet_with 0x10 (pes_packet_filled_with 0x20)) 0x20 refl refl
          refl,
      (
        sent_complete (packet_in 188) (packet_with 0x11 (pes_packet_filled_with 0x21)) 0x21
            refl refl
            refl,
        tt,
      ),
    );
    in_sequence = (
      record { counter = inl refl; within = λ other. absurd (true≢false other) },
      tt,
    );
  };
  packets_are_equal = refl;
  is_recording = record {
    each = (
      null_packet_is_unit,
      inr refl,
      (
        packet_is_recorded_unit 0x10 0x20,
        inr refl,
        (packet_is_recorded_unit 0x11 0x21, inl refl, tt),
      ),
    );
    joined = refl;
    few = few recording_of_two_packets 564 refl (omega arith);
  };
}

abbrev sent_before_losses : List ℕ
sent_before_losses =
    null_packet
    ++ (packet_with 0x10 (pes_packet_filled_with 0x20)
    ++ (packet_with 0x11 (pes_packet_filled_with 0x21)
    ++ (packet_with 0x12 (pes_packet_filled_with 0x22) ++ packet_with 0x13
    (pes_packet_filled_with 0x23))))

abbrev wrong : List ℕ
wrong = damaged_packet_with 0x12 (pes_packet_filled_with 0x22)

pub example_of_losses : ExampleOfLosses
unfolding arriving_bytes
example_of_losses = record {
  lossy = record {
    losses = record {
      is_multiplex = record {
        lead = (refl, tt);
        sent = (
          sent_complete (sent_packet 188) (sent_unit_with 0x10 0x20 RecordedIntact) 0x20 refl refl
              refl,
          (
            sent_complete (sent_packet 188) (sent_unit_with 0x11 0x21 NotRecorded) 0x21 refl refl
                refl,
            (
              sent_complete (sent_packet 188) (sent_unit_with 0x12 0x22 (RecordedDamaged wrong))
                  0x22 refl refl
                  refl,
              (
                sent_complete (sent_packet 188) (sent_unit_with 0x13 0x23 RecordedIntact) 0x23 refl
                    refl refl,
                tt,
              ),
            ),
          ),
        );
        in_sequence = (
          record { counter = inl refl; within = λ other. absurd (true≢false other) },
          (
            record { counter = inl refl; within = λ other. absurd (true≢false other) },
            (record { counter = inl refl; within = λ other. absurd (true≢false other) }, tt),
          ),
        );
      };
      sent = sent_before_losses;
      is_recording = record {
        each = (
          null_packet_is_unit,
          inr refl,
          (
            packet_is_recorded_unit 0x10 0x20,
            inr refl,
            (
              packet_is_recorded_unit 0x11 0x21,
              inr refl,
              (
                packet_is_recorded_unit 0x12 0x22,
                inr refl,
                (
                  packet_is_recorded_unit 0x13 0x23,
                  inl
                      refl,
                  tt,
                ),
              ),
            ),
          ),
        );
        joined = refl;
        few = few sent_before_losses 940 refl (omega arith);
      };
      no_jump = (refl, (refl, (refl, (refl, (refl, tt)))));
      fates = (
        tt,
        (
          tt,
          (
            tt,
            (
              record {
                size = refl;
                sync = refl;
                original_pid = refl;
                damaged_pid = refl;
                wrong = refl;
              },
              (tt, tt),
            ),
          ),
        ),
      );
      left = refl;
    };
    few = refl;
  };
  arrives = refl;
}
