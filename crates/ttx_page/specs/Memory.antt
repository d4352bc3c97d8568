-- The state of the receivers of this crate, and what they store for a byte of even parity (not
-- defined by a standard). Of these definitions, the public types use only `state_of`: in the models
-- of `Keep`, `Blank` and `DropRow`.
use Rattle.std.specs.Prelude.{ℕ, if◌then◌else◌}
use Rattle.ttx_packet.specs.Parity.{character_code, is_odd}
use Rattle.ttx_page.specs.declared.memory.EvenParityChoice.{EvenParityChoice}
use Rattle.ttx_page.specs.declared.memory.EvenParityChoice.TheVariants.{KeepsCell, BlanksCell}
use Rattle.ttx_page.specs.declared.memory.Memory.{Memory}
use Rattle.ttx_page.specs.Page.{space}
use Rattle.ttx_page.specs.Receiver.{State}

-- The state of a receiver, without the page to which it is tuned.
abbrev pub state_of : Memory → State
state_of m = record { heard = m.heard; is_open = m.is_open; page = m.page }

-- The code of a cell after a byte of even parity was received for it: the old code or a space.
abbrev pub code_for_even_parity : EvenParityChoice → ℕ → ℕ
code_for_even_parity KeepsCell was = was
code_for_even_parity BlanksCell was = space

-- The code of a cell after a byte was received for it.
abbrev pub code_after : EvenParityChoice → ℕ → ℕ → ℕ
code_after even byte was =
    if is_odd byte then character_code byte else code_for_even_parity even was
