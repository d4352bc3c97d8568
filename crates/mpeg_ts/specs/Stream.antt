-- The reading state of a recording for one PID, and the output that follows from it.
use Rattle.std.specs.Prelude.{◌≡◌, ℕ, ◌+◌, ◌-◌, ◌^◌, ◌≤◌, ◌==◌, Bool, true, false, if◌then◌else◌}
use Rattle.std.specs.Prelude.{List, [], ◌++◌, length, drop, nat_lt, slice_index, Option, option_map}
use Rattle.mpeg_ts.specs.GoodPackets.{Loss, loss_size, event_of_packet, pid_events}
use Rattle.mpeg_ts.specs.Joining.{JoiningValue, after_pid_event, later_output, without_pending}
use Rattle.mpeg_ts.specs.Joining.{initial_joining}
use Rattle.mpeg_ts.specs.PacketsInStep.{items, lead_size, max_stream_bytes}
use Rattle.mpeg_ts.specs.Pid.{greatest_pid}
use Rattle.mpeg_ts.specs.TransportPacket.{pid, sync_byte}
use Rattle.mpeg_ts.specs.Window.{WindowValue, buffered_and_left}

-- The reading state of a recording: the PID, the packet size, the buffered bytes and the number of
-- bytes that may still be read, the number of bytes to skip before the next item, whether reading
-- is in step, the number of consecutive skipped bytes, and the state of reassembly.
pub record StreamValue : Type 0 where
  pub number : ℕ
  pub distance : ℕ
  pub window : WindowValue
  pub lead : ℕ
  pub in_step : Bool
  pub run : ℕ
  pub joining : JoiningValue

-- The reading state at the start of a recording.
abbrev pub start_of_stream : ℕ → ℕ → StreamValue
start_of_stream number distance = record {
  number = number;
  distance = distance;
  window = record { buffered = []; left = max_stream_bytes };
  lead = lead_size distance;
  in_step = true;
  run = 0;
  joining = initial_joining;
}

-- The output of a reading state: the pending bytes, followed by the output for `bytes`, which begin
-- with the next item.
unfoldable pub stream_output : ℕ → ℕ → ℕ → Bool → JoiningValue → List ℕ → List ℕ
stream_output distance number run in_step joining bytes =
    joining.pending
    ++ later_output (without_pending joining)
    (pid_events distance number run (items distance in_step (length bytes) bytes))

-- The bytes from the next item on, if `bytes` remain in the source.
abbrev pub bytes_ahead : StreamValue → List ℕ → List ℕ
bytes_ahead v bytes = drop v.lead (buffered_and_left v.window bytes)

-- The output still to be returned, if `bytes` remain in the source.
abbrev pub output_of : StreamValue → List ℕ → List ℕ
output_of v bytes =
    stream_output v.distance v.number v.run v.in_step v.joining (bytes_ahead v bytes)

-- The output still to be returned, if the bytes of the source are known.
abbrev pub remaining_output : StreamValue → Option (List ℕ) → Option (List ℕ)
remaining_output v known_bytes = option_map (output_of v) known_bytes

-- Output is still to be returned, if `bytes` remain in the source.
abbrev pub has_output : StreamValue → List ℕ → Bool
has_output v bytes = nat_lt 0 (length (output_of v bytes))

-- The reassembly has pending bytes.
abbrev pub is_output_ready : StreamValue → Bool
is_output_ready v = nat_lt 0 (length v.joining.pending)

-- The maximum number of bytes from the next item on.
abbrev pub bytes_at_most : StreamValue → ℕ
bytes_at_most v = (length v.window.buffered + v.window.left) - v.lead

-- The state of reassembly after a transport packet p; packets of other PIDs do not change it.
abbrev pub after_packet : ℕ → List ℕ → JoiningValue → JoiningValue
after_packet number p j = if pid p == number then after_pid_event j (event_of_packet p) else j

-- The state of reassembly after a skipped byte, if `run` bytes were skipped directly before it.
abbrev pub after_skipped : ℕ → ℕ → JoiningValue → JoiningValue
after_skipped distance run j = if run + 1 == loss_size distance then after_pid_event j Loss else j

-- The bytes begin like a transport packet of the PID: with the sync byte, and with this PID in
-- bytes 1 and 2. (A byte after the end counts as 0.)
abbrev pub BeginsPacket : ℕ → List ℕ → Type 0
BeginsPacket number p = (slice_index p 0 ≡ sync_byte) × (pid p ≡ number)

-- The invariant of the numbers in the reading state.
pub record IsStream (number distance lead run taken : ℕ) (in_step : Bool) : Type 0 where
  pub is_valid_pid : number ≤ greatest_pid
  pub near : 188 ≤ distance
  pub far : distance ≤ 204
  pub lead_at_most_16 : lead ≤ 16
  pub no_lead_out_of_step : in_step ≡ false → lead ≡ 0
  pub no_run_in_step : in_step ≡ true → run ≡ 0
  pub counted : run + taken ≤ 2 ^ 48
