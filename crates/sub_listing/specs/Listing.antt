-- The output of a command, and its exit status.
use Rattle.std.specs.Prelude.{◌≡◌, ◌≢◌, ◌⊎◌, ℕ, ◌+◌, ◌==◌, Bool, true, false, nat_le, List, ◌++◌}
use Rattle.std.specs.Prelude.{drop, Option, Some, None, option_map, if◌then◌else◌}
use Rattle.ttx_packet.specs.PacketAddress.{address, address_pair}
use Rattle.ttx_packet.specs.PageHeader.{header}
use Rattle.ttx_packet.specs.declared.Header.{Header}
use Rattle.std.specs.Io.KnownBytes.{Appends}
use Rattle.sub_io.specs.Device.{AppendsPrefix, CountRisesIf}
use Rattle.sub_io.specs.Reading.{IfKnown}
use Rattle.sub_listing.specs.DeviceCall.{SinkCall, SourceCall}
use Rattle.sub_listing.specs.Faults.{packet_line}
use Rattle.sub_listing.specs.Lines.{address_line, header_line, text_line}
use Rattle.sub_listing.specs.FaultLine.{text_of_fault_line, status_of}
use Rattle.sub_listing.specs.declared.packet.PacketFault.TheVariants.{BadAddress, BadHeader}
use Rattle.sub_listing.specs.declared.status.Status.{Status}
use Rattle.sub_listing.specs.declared.status.Status.TheVariants.{Done, Refused, Fault}
use Rattle.sub_listing.specs.declared.fault_line.FaultLine.{FaultLine}

-- The output of a command, or the rest of it after earlier lines, and the exit status if all of it
-- was printed.
pub record Listing : Type 0 where
  pub text : List ℕ
  pub status : Status

-- The output of a successful command, or the rest of it.
abbrev pub done : List ℕ → Listing
done text = record { text = text; status = Done }

-- The line of a fault, with which the output of a command ends.
abbrev pub fault_listing : FaultLine → Listing
fault_listing t = record { text = text_of_fault_line t; status = status_of t.kind }

-- A listing after some text.
abbrev pub followed : List ℕ → Listing → Listing
followed text more = record { text = text ++ more.text; status = more.status }

-- ---- the listing of one Teletext packet

-- The listing of a page header, packet X/0 (EN 300 706): its address, the contents of its eight
-- coded bytes, and its 32 text bytes; or a fault if the coded bytes can't be decoded.
abbrev pub listing_of_header : ℕ → List ℕ → Option Header → Listing
listing_of_header magazine packet None = fault_listing (packet_line BadHeader)
listing_of_header magazine packet (Some h) =
    done (address_line magazine 0 ++ header_line h ++ text_line (drop 10 packet))

-- The listing of a packet X/1 to X/31 (EN 300 706). Packets X/1 to X/24 are listed with their 40
-- text bytes, and packets X/25 to X/31 only with their address.
abbrev pub listing_of_other_packet : ℕ → ℕ → List ℕ → Listing
listing_of_other_packet magazine packet_number packet = if nat_le packet_number 24
    then done (address_line magazine packet_number ++ text_line (drop 2 packet))
    else done (address_line magazine packet_number)

-- The listing of a Teletext packet, given its magazine and packet number, or `None` if the address
-- can't be decoded.
abbrev pub listing_by_address : Option (ℕ × ℕ) → List ℕ → Listing
listing_by_address None packet = fault_listing (packet_line BadAddress)
listing_by_address (Some a) packet = if a.1 == 0
    then listing_of_header a.0 packet (header packet)
    else listing_of_other_packet a.0 a.1 packet

-- The output of `packet` for the 42 bytes of a Teletext packet.
abbrev pub packet_listing : List ℕ → Listing
packet_listing packet = listing_by_address (option_map address_pair (address packet)) packet

-- ---- exit statuses of a listing

-- The exit status as a number.
abbrev pub exit_code : Status → ℕ
exit_code Done = 0
exit_code Refused = 1
exit_code Fault = 2

-- The listing ended because the source failed. A listing has no end, `None`, if the sink failed
-- earlier.
abbrev pub has_failed : Option Status → Bool
has_failed (Some Fault) = true
has_failed _ = false

-- The type of relations between the bytes of a source before and after it was listed, the way in
-- which the listing ends, and the listing.
abbrev pub ListingRelation : Type 1
ListingRelation = Option (List ℕ) → Option (List ℕ) → Option Status → Listing → Type 0

-- ---- the printed text of a listing

-- All of the listing was printed, and its status is returned; or the sink failed once, received a
-- prefix of the text, and the status is `Fault`.
unfoldable pub PrintsOrFails : SinkCall → Listing → Status → Type 0
PrintsOrFails out listing status =
    ((out.new_count ≡ out.old_count) × Appends out.old out.new listing.text
    × (status ≡ listing.status))
    ⊎ ((out.new_count ≡ out.old_count + 1) × AppendsPrefix out.old out.new listing.text
    × (status ≡ Fault))

-- The listing shows the outcome of reading a source. If the bytes of the source are known and the
-- source did not fail, they determine the outcome. If the listing has an end, `Takes` relates the
-- outcome to the bytes that were consumed.
pub record Lists
    {Outcome : Type 0} (listing_of : Outcome → Listing) (given : List ℕ → Outcome)
    (Takes : Bool → Option (List ℕ) → Outcome → Option (List ℕ) → Type 0)
    (known left : Option (List ℕ)) (ending : Option Status) (listing : Listing)
    : Type 0 where
  pub outcome : Outcome
  pub listing_eq : listing ≡ listing_of outcome
  pub exact : IfKnown known (λ bytes. has_failed ending ≡ false → outcome ≡ given bytes)
  pub taken : ending ≢ None → Takes (has_failed ending) known outcome left

-- A source was listed. All of the listing was printed, or the sink failed and received a prefix of
-- it.
pub record PrintsListing
    (Lists : ListingRelation) (source : SourceCall) (out : SinkCall) (status : Status)
    : Type 0 where
  pub ending : Option Status
  pub listing : Listing
  pub is_listed : Lists source.known source.left ending listing
  pub source_count : CountRisesIf source.old_count (has_failed ending) source.new_count
  pub cut : ending ≡ None → out.new_count ≢ out.old_count
  pub printed : PrintsOrFails out listing status

-- One step of a listing: `text` contains the lines of the next PES packet or subtitle, no line if
-- the GSI block was read, or the last line. With `None`, any listing of the bytes after it, and
-- there is at least one, may follow `text`; with a status, the listing ends with `text`.
abbrev pub ListsNext : ListingRelation → ListingRelation
    → Option (List ℕ) → Option (List ℕ) → List ℕ → Option Status → Type 0
ListsNext Before After known left text None =
    ((end : Option (List ℕ)) (ending : Option Status) (more : Listing)
    → After left end ending more → Before known end ending (followed text more))
    × ((more : Listing) × After left left None more)
ListsNext Before After known left text (Some status) =
    Before known left (Some status) (record { text = text; status = status })

-- The sink failed before the next PES packet or subtitle was read, so the listing has no end.
abbrev pub IsEndless : ListingRelation → Option (List ℕ) → Option (List ℕ) → Type 0
IsEndless Lists known left = (more : Listing) × Lists known left None more
