-- After a listing was printed, the sink has received all of it, or has failed and received a prefix
-- of it.
use Rattle.std.proofs.Common.{◌≡◌, ◌≢◌, ℕ, ◌+◌, arith, inl, inr, refl, Bool, true, false}
use Rattle.std.proofs.Common.{if◌then◌else◌}
use Rattle.std.specs.Io.KnownBytes.{Appends}
use Rattle.sub_listing.specs.DeviceCall.{SinkCall}
use Rattle.sub_listing.specs.Listing.{Listing, PrintsOrFails}
use Rattle.sub_listing.specs.declared.status.Status.{Status}
use Rattle.sub_listing.specs.declared.status.Status.TheVariants.{Fault}

-- If the sink did not fail, all of the text was printed, and the status of the listing is returned.
pub printed-whole : (out : SinkCall) (listing : Listing) (status : Status)
    → PrintsOrFails out listing status
    → out.new_count ≡ out.old_count
    → Appends out.old out.new listing.text × (status ≡ listing.status)
unfolding PrintsOrFails
printed-whole out listing status (inl p) same = (p.1, p.2)
printed-whole out listing status (inr p) same =
    let risen = p.0 in absurd (omega (arith, risen, same))

-- A status other than `Fault` is the status of the listing.
pub printed-status : (out : SinkCall) (listing : Listing) (status : Status)
    → PrintsOrFails out listing status
    → status ≢ Fault
    → status ≡ listing.status
unfolding PrintsOrFails
printed-status out listing status (inl p) other = p.2
printed-status out listing status (inr p) other = absurd (other p.2)

pub unchanged_count_means_success : (b : Bool) (old new : ℕ)
    → new ≡ old + (if b then 1 else 0)
    → new ≡ old
    → b ≡ false
unchanged_count_means_success true old new counted same = absurd (omega (arith, counted, same))
unchanged_count_means_success false old new counted same = refl

pub changed_count_means_failure : (b : Bool) (old new : ℕ)
    → new ≡ old + (if b then 1 else 0)
    → new ≢ old
    → b ≡ true
changed_count_means_failure true old new counted other = refl
changed_count_means_failure false old new counted other = absurd (other (omega (arith, counted)))
