-- The number of the first PES packet to read. Reports count PES packets from this number, unless
-- the source fails before this packet.
use Rattle.std.specs.Prelude.{◌≡◌, ◌⊎◌, ℕ, ◌+◌, ◌≤◌, Option, Some}
use Rattle.std.specs.Io.KnownBytes.{Keeps}
use Rattle.sub_listing.specs.DeviceCall.{SinkCall, SourceCall}
use Rattle.sub_listing.specs.Listing.{ListingRelation, PrintsListing}
use Rattle.sub_listing.specs.declared.status.Status.{Status}

-- The number, in its file, of the first PES packet to read, or the number of PES packets if there
-- is no such packet: before and after a call, if it is known. And the number of PES packets that
-- were skipped before the first packet to read.
pub record FirstNumber : Type 0 where
  pub known : Option ℕ
  pub left : Option ℕ
  pub skipped : ℕ

-- The number of a source's first PES packet before and after a call, given the functions for this
-- number and for the number of skipped PES packets.
abbrev pub first_number : {S : Type 0} → (S → Option ℕ) → (S → ℕ) → S → S → FirstNumber
first_number number skipped old new =
    record { known = number old; left = number new; skipped = skipped new }

-- The source failed before any of its bytes was consumed.
abbrev pub FailsBeforeFirstByte : SourceCall → Type 0
FailsBeforeFirstByte source =
    (source.new_count ≡ source.old_count + 1) × Keeps source.known source.left

-- Reports count PES packets from `number`. If the first number is known (`first.known`), it is
-- `number`; or the source failed before the first PES packet to read, and `number` is the number of
-- skipped PES packets.
abbrev pub StartsAt : FirstNumber → SourceCall → ℕ → Type 0
StartsAt first source number =
    (n : ℕ)
    → first.known ≡ Some n
    → (number ≡ n)
    ⊎ ((number ≤ n) × (number ≡ first.skipped) × (first.left ≡ Some n) × FailsBeforeFirstByte
    source)

-- A source was listed, with PES packets counted from the number that `StartsAt` specifies.
pub record PrintsCountedFrom
    (ListsFrom : ℕ → ListingRelation) (first : FirstNumber) (source : SourceCall) (out : SinkCall)
    (status : Status)
    : Type 0 where
  pub number : ℕ
  pub starts : StartsAt first source number
  pub prints : PrintsListing (ListsFrom number) source out status
