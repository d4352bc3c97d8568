-- The run of the receiver that `listen` simulates determines the output of `listen`.
use Rattle.std.proofs.lemmas.Bool.Decides.{nat_tests}
use Rattle.std.specs.Prelude.{IfOk}
use Rattle.std.proofs.Common.{◌≡◌, ◌∙◌, ℕ, ◌+◌, List, arith, refl, subst, sym, Bool, Option}
use Rattle.std.proofs.Common.{Result}
use Rattle.ttx_packet.specs.PageId.{PageIdValue}
use Rattle.ttx_page.specs.Screen.{Display}
use Rattle.sub_rules.specs.FrameRules.{UnreadReason}
use Rattle.sub_rules.specs.Transmission.{Transmission}
use Rattle.sub_listen.specs.Run.{ReceivesFile}
use Rattle.std.specs.Io.KnownBytes.{Keeps}
use Rattle.ttx_pes.specs.declared.fault.PesFault.TheVariants.{Read}
use Rattle.sub_rules.specs.declared.fault.CheckFault.TheVariants as check
use Rattle.sub_listen.specs.declared.listening.ListenFault.TheVariants as fault
use Rattle.sub_listing.specs.FirstPacket.{FirstNumber}
use Rattle.sub_listing.specs.Faults.{check_line}
use Rattle.sub_listing.specs.Listing.{PrintsOrFails, fault_listing}
use Rattle.sub_listing.specs.FaultLine.{counted_from}
use Rattle.sub_listing.proofs.FirstPacketLemmas.{unchanged_bytes_allow_packet_failure}
use Rattle.sub_listing.proofs.FirstPacketLemmas.{keeping_preserves_packet_failure}
use Rattle.sub_listing.proofs.FirstPacketLemmas.{keeping_preserves_known_bytes}
use Rattle.sub_answer.specs.Answering.{AnswersListen, PrintsReceived}
use Rattle.sub_listing.specs.DeviceCall.{SinkCall, SourceCall}
use Rattle.sub_listing.specs.declared.status.Status.{Status}
use Rattle.sub_answer.specs.ListenListing.{IsOldPage, Listens, listing_of, tuned_to_old_page}
use Rattle.sub_listing.specs.DisplayLines.{PrintsValidPage}
use Rattle.ttx_page.specs.Page.{Rows}
use Rattle.sub_listen.specs.declared.listening.ListenFault.{ListenFault}
use Rattle.sub_request.specs.declared.listening.Listening.{Listening}

pub listening_starts_from_old_page : (leaves : ℕ → ℕ) (l : Listening) (first : ℕ)
    (frames : Transmission)
    → (unread : Option UnreadReason) (reported left : Option (List ℕ)) (w : PageIdValue)
    → (old end : Display) (result : Result (Unit {0}) ListenFault) (page : Rows)
    → (asks_complete : Bool)
    → asks_complete ≡ l.options.asks_complete
    → w ≡ l.options.page
    → old ≡ tuned_to_old_page page
    → IsOldPage page
    → ReceivesFile leaves l frames unread reported left w old end result
    → IfOk result (λ _. PrintsValidPage asks_complete end)
    → Listens leaves l first frames unread reported left (listing_of first asks_complete end result)
listening_starts_from_old_page
    leaves l first frames unread reported left w old end result page asks_complete asks tuned start
    is_old_page hears seen =
    grind (arith, nat_tests)

pub equal_fill_codes_give_equal_answers : (leaves left : ℕ → ℕ) (l : Listening) (pes : SourceCall)
    (first : FirstNumber)
    → (out : SinkCall) (status : Status)
    → leaves ≡ left
    → AnswersListen left l pes first out status
    → AnswersListen leaves l pes first out status
equal_fill_codes_give_equal_answers leaves left l pes first out status same answers = rw same
    answers

pub keeping_preserves_listening : (leaves : ℕ → ℕ) (l : Listening) (number : ℕ)
    (old mid left : Option (List ℕ))
    (old_count mid_count new_count : ℕ) (out : SinkCall) (status : Status)
    → Keeps old mid
    → mid_count ≡ old_count
    → PrintsReceived leaves l number
    (record { known = mid; left = left; old_count = mid_count; new_count = new_count }) out status
    → PrintsReceived leaves l number
    (record { known = old; left = left; old_count = old_count; new_count = new_count }) out status
keeping_preserves_listening leaves l number old mid left old_count mid_count new_count out status
    kept same heard =
    record {
      exact = λ frames unread bytes reported reads none.
          let known = keeping_preserves_known_bytes old mid bytes kept reported in
          let printed = heard.exact frames unread bytes known reads (none ∙ sym same) in (
            printed.0,
            subst (λ (t : Option (List ℕ)).
                Listens leaves l number frames unread t left printed.0)
                (known ∙ sym reported) printed.1,
            printed.2,
          );
      read = λ other.
          let failed = heard.read (λ none. other (none ∙ same)) in (
            failed.0,
            record {
              index = failed.1.index;
              is = failed.1.is;
              place = keeping_preserves_packet_failure failed.1.index old mid left kept
                  failed.1.place;
              heard = λ frames unread bytes reported.
                  failed.1.heard frames unread bytes (keeping_preserves_known_bytes old mid bytes
                  kept reported);
            },
            failed.2,
          );
    }

pub failed_read_hears_nothing : (leaves : ℕ → ℕ) (l : Listening) (number : ℕ) (pes : SourceCall)
    (out : SinkCall)
    (status : Status)
    → Keeps pes.known pes.left
    → pes.new_count ≡ pes.old_count + 1
    → PrintsOrFails out (fault_listing (counted_from number (check_line (check.Pes 0 Read)))) status
    → PrintsReceived leaves l number pes out status
failed_read_hears_nothing leaves l number pes out status kept risen printed = record {
  exact = λ frames unread bytes reported reads none. absurd (omega (arith, risen, none));
  read = λ other. (
    fault.File (check.Pes 0 Read),
    record {
      index = 0;
      is = refl;
      place = unchanged_bytes_allow_packet_failure pes.known pes.left kept;
      heard = λ frames unread bytes reported reads i few. absurd (omega (arith, few));
    },
    printed,
  );
}
