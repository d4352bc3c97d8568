-- The PID and the pages that the user requests of a survey.
use Rattle.std.specs.Prelude.{◌≡◌, ◌==◌, ℕ, Bool, true, List, [], ◌∷◌, Option, Some, None, map}
use Rattle.std.specs.Prelude.{if◌then◌else◌}
use Rattle.ts_survey.specs.declared.carrier.Carrier.{Carrier}
use Rattle.ts_survey.specs.declared.multiplex.Multiplex.{Multiplex}

-- The PID is requested: the options name it, or name no PID.
abbrev pub is_requested : Option ℕ → ℕ → Bool
is_requested None pid = true
is_requested (Some requested) pid = requested == pid

-- Those of the PIDs that are not requested.
abbrev pub unrequested_pids : Option ℕ → List ℕ → List ℕ
unrequested_pids requested [] = []
unrequested_pids requested (pid ∷ pids) =
    if is_requested requested pid then unrequested_pids requested pids else pid ∷ unrequested_pids
    requested pids

-- The PID that a carrier follows.
abbrev pub followed_pid : Carrier → ℕ
followed_pid carrier = carrier.pid

-- The PIDs that are followed for Teletext although they are not requested.
abbrev pub unrequested_followed_pids : Multiplex → List ℕ
unrequested_followed_pids m = unrequested_pids m.requested (map followed_pid m.carriers.items)

-- The requested PID and pages stay the same, and so do the PIDs that are followed for Teletext
-- although they are not requested.
abbrev pub KeepsRequested : Multiplex → Multiplex → Type 0
KeepsRequested old new =
    (new.requested ≡ old.requested)
    × (new.pages ≡ old.pages)
    × (unrequested_followed_pids new ≡ unrequested_followed_pids old)

-- Processing a packet, or a loss of packets, changes neither the requested PID nor the requested
-- pages, and no further PID that is not requested is followed for Teletext.
abbrev pub packet_keeps_requested : Multiplex → List ℕ → Multiplex → Type 0
packet_keeps_requested old packet new = KeepsRequested old new
