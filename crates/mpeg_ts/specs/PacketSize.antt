-- The number of bytes from the start of one transport packet to the start of the next.
use Rattle.std.specs.Prelude.{ℕ}
use Rattle.mpeg_ts.specs.declared.packet_size.PacketSize.{PacketSize}
use Rattle.mpeg_ts.specs.declared.packet_size.PacketSize.TheVariants.{Plain, TimeStamped}
use Rattle.mpeg_ts.specs.declared.packet_size.PacketSize.TheVariants.{ErrorCorrected}

-- The packet size in bytes. A transport packet has 188 bytes (ISO/IEC 13818-1). A recorder may add
-- a time stamp of 4 bytes before each packet, or a Reed-Solomon code of 16 bytes after it.
abbrev pub bytes_of : PacketSize → ℕ
bytes_of Plain = 188
bytes_of TimeStamped = 192
bytes_of ErrorCorrected = 204
