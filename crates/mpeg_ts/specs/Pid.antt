-- The PID of a transport packet (ISO/IEC 13818-1): 13 bits.
use Rattle.std.specs.Prelude.{ℕ, nat_le, if◌then◌else◌, Option, Some, None}

-- The greatest PID that can be read. The next number, 1FFF, is the PID of null packets (ISO/IEC
-- 13818-1).
abbrev pub greatest_pid : ℕ
greatest_pid = 8190

-- The PID with this number; `None` for numbers greater than 8190.
abbrev pub pid_with_number : ℕ → Option ℕ
pid_with_number number = if nat_le number greatest_pid then Some number else None
