-- While a listing is printed, one PES packet or subtitle after another, the printed lines are the
-- start of each listing that is still possible.
use Rattle.std.proofs.lemmas.Bool.Decides.{nat_tests}
use Rattle.std.proofs.Common.{◌≡◌, ap, refl, sym, subst, arith, ℕ, ◌+◌, ◌<◌, ◌≤◌, List, []}
use Rattle.std.proofs.Common.{◌∷◌, ◌++◌, append_assoc, drop, length, inl, inr, Bool, false, true}
use Rattle.std.proofs.Common.{Option, Some, None, Ok, Err}
use Rattle.std.specs.Io.KnownBytes.{Appends, Consumes, Keeps}
use Rattle.std.proofs.KnownBytes.{Appends-kept, Appends-nil, Appends-trans}
use Rattle.sub_io.specs.Device.{AppendsPrefix, CountRisesIf}
use Rattle.sub_io.specs.Reading.{IfKnown}
use Rattle.sub_io.proofs.DeviceLemmas.{AppendsPrefix-first, AppendsPrefix-second}
use Rattle.sub_io.proofs.DeviceLemmas.{AppendsPrefix-whole}
use Rattle.ttx_pes.specs.Outcome as pes
use Rattle.ttx_pes.specs.Outcome.{ReadsPackets, outcome_after}
use Rattle.ttx_pes.specs.PesGrammar.{PesValue}
use Rattle.ttx_pes.specs.Reader.{ReportsPacket}
use Rattle.ttx_pes.specs.Reading.{max_pes_packets, rest_after}
use Rattle.ttx_pes.specs.declared.progress.Progress.TheVariants.{Reading}
use Rattle.ttx_pes.proofs.OutcomeLemmas.{outcome_after-next}
use Rattle.stl_file.specs.Fault as stl_fault
use Rattle.stl_file.specs.Gsi.{IsGsi, gsi_size}
use Rattle.stl_file.specs.Reader.{EndsWithUnskippedBlock, ReaderValue, RefusesOpening}
use Rattle.stl_file.specs.Reader.{ConsumesSubtitle, open_result}
use Rattle.stl_file.specs.Reader.{findings_within_scope, checked_gsi_of_file, remaining_outcome}
use Rattle.stl_file.specs.Reader.{outcome_of_file}
use Rattle.stl_file.specs.Reading.{ends, fails}
use Rattle.stl_file.specs.Subtitle.{SubtitleValue}
use Rattle.stl_file.proofs.OpeningLemmas.{opening_fault_is_gsi_fault, opened_reader_has_gsi}
use Rattle.stl_file.specs.declared.fault.StlFault.{StlFault}
use Rattle.stl_file.specs.declared.progress.Progress.TheVariants as progress
use Rattle.sub_listing.specs.Faults.{kind_of_failure, stl_line}
use Rattle.sub_listing.specs.DeviceCall.{Counts, SinkCall, SourceCall}
use Rattle.sub_listing.specs.Listing.{ListsNext, IsEndless, ListingRelation, Listing, Lists}
use Rattle.sub_listing.specs.Listing.{PrintsListing}
use Rattle.sub_listing.specs.Listing.{PrintsOrFails, followed, has_failed}
use Rattle.sub_listing.specs.Lines.{number_in_file}
use Rattle.sub_listing.specs.PacketsListing.{pes_packet_lines, pes_listing}
use Rattle.sub_listing.specs.ShowListing.{ListsFrom, ReadsFile, ReadsSubtitles, subtitles_listing}
use Rattle.sub_listing.specs.FaultLine.{text_of_fault_line, status_of}
use Rattle.sub_listing.specs.declared.status.Status.{Status}
use Rattle.sub_listing.specs.declared.status.Status.TheVariants.{Fault}

-- The lines printed so far are the start of any listing that is still possible.
pub record IsPrefix
    (Before Remaining : ListingRelation)
    (reported left old now : Option (List ℕ))
    : Type 0 where
  pub text : List ℕ
  pub printed : Appends old now text
  pub listed :
      (end : Option (List ℕ)) (ending : Option Status) (more : Listing)
      → Remaining left end ending more
      → Before reported end ending (followed text more)

pub prefix-none :
    (Before : ListingRelation)
    (reported old : Option (List ℕ))
    → IsPrefix Before Before reported reported old old
prefix-none Before reported old = record {
  text = [];
  printed = Appends-nil old;
  listed = λ end ending more is. is;
}

followed-twice : (first second : List ℕ) (more : Listing)
    → followed first (followed second more) ≡ followed (first ++ second) more
followed-twice first second more =
    ap (λ (t : List ℕ). let l : Listing = record { text = t; status = more.status } in l)
    (sym (append_assoc first second more.text))

-- If flushing keeps the printed lines, they are still the start of any listing that is possible.
pub prefix-kept :
    (Before Remaining : ListingRelation)
    (reported left old now new : Option (List ℕ))
    → IsPrefix Before Remaining reported left old now
    → Keeps now new
    → IsPrefix Before Remaining reported left old new
prefix-kept Before Remaining reported left old now new i kept = grind (arith, nat_tests)

pub counts-fault : (old new : ℕ) (failed : Bool) → CountRisesIf old failed new → Counts old Fault
    new
counts-fault old new failed risen = grind (arith, nat_tests)

pub counts-status : (old new : ℕ) (status : Status) → CountRisesIf old (has_failed (Some status))
    new
    → Counts old status new
counts-status old new status risen = grind (arith, nat_tests)

pub prefix-more :
    (Before At Remaining : ListingRelation)
    (reported left rest old now new : Option (List ℕ)) (text : List ℕ)
    → IsPrefix Before At reported left old now
    → ListsNext At Remaining left rest text None
    → Appends now new text
    → IsPrefix Before Remaining reported rest old new
prefix-more Before At Remaining reported left rest old now new text i gives p = record {
  text = i.text ++ text;
  printed = Appends-trans old now new i.text text i.printed p;
  listed = λ end ending more is.
      subst (Before reported end ending) (followed-twice i.text text more)
      (i.listed end ending (followed text more) (gives.0 end ending more is));
}

pub prefix-end :
    (Before At Remaining : ListingRelation) (source : SourceCall) (out : SinkCall)
    (left now : Option (List ℕ)) (text : List ℕ)
    (status : Status)
    → IsPrefix Before At source.known left out.old now
    → ListsNext At Remaining left source.left text (Some status)
    → Appends now out.new text
    → out.new_count ≡ out.old_count
    → CountRisesIf source.old_count (has_failed (Some status)) source.new_count
    → PrintsListing Before source out status
unfolding PrintsOrFails
prefix-end Before At Remaining source out left now text status i gives p same counted = record {
  ending = Some status;
  listing = followed i.text (record { text = text; status = status });
  is_listed = i.listed source.left (Some status)
      (record { text = text; status = status }) gives;
  source_count = counted;
  cut = λ e. cc;
  printed = inl (same, Appends-trans out.old now out.new i.text text i.printed p, refl);
}

pub prefix-cut :
    (Before At Remaining : ListingRelation) (source : SourceCall) (out : SinkCall)
    (left now : Option (List ℕ)) (text : List ℕ)
    (end : Option Status)
    → IsPrefix Before At source.known left out.old now
    → ListsNext At Remaining left source.left text end
    → AppendsPrefix now out.new text
    → out.new_count ≡ out.old_count + 1
    → CountRisesIf source.old_count (has_failed end) source.new_count
    → PrintsListing Before source out Fault
unfolding PrintsOrFails
prefix-cut Before At Remaining source out left now text None i gives p risen counted =
    let more = gives.1 in record {
      ending = None;
      listing = followed i.text (followed text more.0);
      is_listed = i.listed source.left None (followed text more.0)
          (gives.0 source.left None more.0 more.1);
      source_count = counted;
      cut = λ e same. omega (arith, risen, same);
      printed = inr (
        risen,
        AppendsPrefix-second out.old now out.new i.text (text ++ more.0.text) i.printed
            (AppendsPrefix-first now out.new text more.0.text p),
        refl,
      );
    }
prefix-cut Before At Remaining source out left now text (Some status) i gives p risen
    counted = record {
      ending = Some status;
      listing = followed i.text (record { text = text; status = status });
      is_listed = i.listed source.left (Some status)
          (record { text = text; status = status }) gives;
      source_count = counted;
      cut = λ e same. omega (arith, risen, same);
      printed = inr (risen, AppendsPrefix-second out.old now out.new i.text text i.printed p, refl);
    }

pub prefix-stopped :
    (Before At : ListingRelation) (source : SourceCall) (out : SinkCall)
    (left now : Option (List ℕ))
    → IsPrefix Before At source.known left out.old now
    → IsEndless At left source.left
    → Keeps now out.new
    → out.new_count ≡ out.old_count + 1
    → source.new_count ≡ source.old_count
    → PrintsListing Before source out Fault
unfolding PrintsOrFails
prefix-stopped Before At source out left now i cut kept risen counted = record {
  ending = None;
  listing = followed i.text cut.0;
  is_listed = i.listed source.left None cut.0 cut.1;
  source_count = omega (arith, counted);
  cut = λ e same. omega (arith, risen, same);
  printed = inr (
    risen,
    AppendsPrefix-first out.old out.new i.text cut.0.text
        (AppendsPrefix-whole out.old out.new i.text (Appends-kept _ _ _ _ i.printed kept)),
    refl,
  );
}

-- If the sink failed before the next PES packet or subtitle was read, there is a listing of the
-- remaining file. If the remaining bytes are known, they determine it.
pub lists-some :
    (O : Type 0) (listing_of : O → Listing) (given : List ℕ → O)
    (Takes : Bool → Option (List ℕ) → O → Option (List ℕ) → Type 0)
    (reported left : Option (List ℕ))
    → O
    → IsEndless (Lists listing_of given Takes) reported left
lists-some O listing_of given Takes None left o = (
  listing_of o,
  record {
    outcome = o;
    listing_eq = refl;
    exact = λ bytes e ok. absurd cc;
    taken = λ other. absurd (other refl);
  },
)
lists-some O listing_of given Takes (Some b) left o = (
  listing_of (given b),
  record {
    outcome = given b;
    listing_eq = refl;
    exact = λ bytes e ok. let same : b ≡ bytes = cc in ap given same;
    taken = λ other. absurd (other refl);
  },
)

pub gives-next :
    (O : Type 0) (before after : O → Listing) (given given' : List ℕ → O)
    (Takes Takes' : Bool → Option (List ℕ) → O → Option (List ℕ) → Type 0)
    (put_before : O → O) (reported left : Option (List ℕ)) (text : List ℕ)
    → ((o : O) → before (put_before o) ≡ followed text (after o))
    → ((o : O) (failed : Bool) (end : Option (List ℕ))
    → Takes' failed left o end → Takes failed reported (put_before o) end)
    → IfKnown reported (λ bytes.
    (rest : List ℕ) × (left ≡ Some rest) × (given bytes ≡ put_before (given' rest)))
    → O
    → ListsNext (Lists before given Takes) (Lists after given' Takes') reported left text None
gives-next O before after given given' Takes Takes' put_before reported left text lines reports
    reads o =
    grind (arith, nat_tests, lists-some)

pub gives-last :
    (O : Type 0) (listing_of : O → Listing) (given : List ℕ → O)
    (Takes : Bool → Option (List ℕ) → O → Option (List ℕ) → Type 0)
    (reported left : Option (List ℕ)) (o : O) (text : List ℕ) (failed : Bool)
    → text ≡ (listing_of o).text
    → has_failed (Some (listing_of o).status) ≡ failed
    → IfKnown reported (λ bytes. failed ≡ false → o ≡ given bytes)
    → Takes failed reported o left
    → Lists listing_of given Takes reported left (Some (listing_of o).status)
    (record { text = text; status = (listing_of o).status })
gives-last O listing_of given Takes reported left o text failed line is exact taken =
    grind (arith, nat_tests)

pub gives-packet :
    (first index : ℕ) (v : PesValue) (reported left : Option (List ℕ)) (text : List ℕ)
    → index ≤ max_pes_packets
    → ReportsPacket (Reading index) reported left (Ok (Some v))
    → text ≡ pes_packet_lines (number_in_file first index) v
    → ListsNext (Lists (pes_listing first index) (outcome_after index) ReadsPackets)
    (Lists (pes_listing first (index + 1)) (outcome_after (index + 1)) ReadsPackets) reported left
    text
    None
gives-packet first index v reported left text few reports lines =
    gives-next _ (pes_listing first index) (pes_listing first (index + 1)) (outcome_after index)
    (outcome_after (index + 1)) ReadsPackets ReadsPackets (pes.gives v) reported left text
    (λ o. ap (λ t. followed t (pes_listing first (index + 1) o)) (sym lines))
    (λ o failed end reads. (left, reports.packet, reads))
    (λ bytes is. (
      rest_after bytes,
      reports.left index refl bytes is,
      outcome_after-next index bytes (Ok (Some v)) few (reports.exact index refl bytes is refl),
    ))
    pes.ends

rises : (from to : ℕ) (blocks : List (List ℕ))
    → EndsWithUnskippedBlock blocks
    → from + length blocks ≡ to
    → from < to
rises from to [] kept counted = absurd kept
rises from to (b ∷ blocks) kept counted = omega arith

-- Each subtitle has at least one block, so reading a subtitle increases the block number.
pub block-rises : (from to : ℕ) (old new : Option (List ℕ)) (s : SubtitleValue)
    → ConsumesSubtitle from to old new s
    → from < to
block-rises from to old new s t = rises from to t.blocks t.ends t.counted

-- The status of a listing that ends with a fault is `Fault` exactly if the fault is a failure of a
-- device or of memory.
pub kind_of_failure-failed : (b : Bool) → has_failed (Some (status_of (kind_of_failure b))) ≡ b
kind_of_failure-failed true = refl
kind_of_failure-failed false = refl

pub gives-opened :
    (count : ℕ) (r : ReaderValue) (reported left : Option (List ℕ))
    → r.block ≡ 0
    → r.progress ≡ progress.Reading
    → IsGsi r.gsi
    → Consumes reported left r.gsi
    → IfKnown reported (λ bytes. left ≡ Some (drop gsi_size bytes))
    → IfKnown reported (λ bytes. open_result bytes ≡ Ok r)
    → ListsNext (ListsFrom None count) (ListsFrom (Some r) count) reported left [] None
unfolding findings_within_scope
gives-opened count r reported left start reading gsi taken rest opened =
    gives-next _ (subtitles_listing count) (subtitles_listing count) outcome_of_file
    (remaining_outcome r)
    ReadsFile (λ failed. ReadsSubtitles failed r.block) (λ o. o) reported left [] (λ o. refl)
    (λ o failed end reads. inr (left, r.gsi, gsi, taken, rw start at reads))
    (λ bytes is. (
      drop gsi_size bytes,
      rest bytes is,
      rw (
        (opened_reader_has_gsi (checked_gsi_of_file false bytes) r (opened bytes is)).0,
        start,
        reading,
      ) refl,
    ))
    ends

pub gives-refused :
    (count : ℕ) (f : StlFault) (reported left : Option (List ℕ)) (text : List ℕ)
    → text ≡ text_of_fault_line (stl_line f 0)
    → IfKnown reported (λ bytes. stl_fault.is_file_read_failure f ≡ false → open_result bytes ≡ Err
    f)
    → (stl_fault.is_file_read_failure f ≡ true
    → (bytes : List ℕ) × (length bytes < gsi_size) × Consumes reported left bytes)
    → (stl_fault.is_file_format_fault f ≡ true → RefusesOpening reported left f)
    → ListsFrom None count reported left
    (Some (status_of (kind_of_failure (stl_fault.is_file_read_failure f))))
    (record {
      text = text;
      status = status_of
          (kind_of_failure (stl_fault.is_file_read_failure f));
    })
unfolding findings_within_scope
gives-refused count f reported left text line exact failed refused =
    gives-last _ (subtitles_listing count) outcome_of_file ReadsFile reported left (fails f 0) text
    (stl_fault.is_file_read_failure f) line
    (kind_of_failure-failed (stl_fault.is_file_read_failure f))
    (λ bytes is fine. rw (opening_fault_is_gsi_fault (checked_gsi_of_file false bytes) f
    (exact bytes is fine)) refl)
    (inl (record {
      fault = f;
      outcome_eq = refl;
      read = refl;
      failure = failed;
      refused = refused;
    }))
