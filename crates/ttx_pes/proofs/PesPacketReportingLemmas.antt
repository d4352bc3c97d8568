-- A reader of PES packets returns the specified result at the end of the file, for a complete
-- packet, and for bytes that do not begin with a complete packet.
use Rattle.std.proofs.Common.{◌≡◌, ◌≢◌, ℕ, List, [], ◌++◌, length, take, drop, Option, None}
use Rattle.std.proofs.Common.{Some, Bool, true, false, Result, Ok, Err, refl, sym, subst, ◌∙◌}
use Rattle.std.proofs.Common.{arith, inl, inr}
use Rattle.std.proofs.lemmas.Option.{same_Some}
use Rattle.std.proofs.KnownBytes.{Consumes-kept, Consumes-nil}
use Rattle.std.proofs.lemmas.Bool.{cases_lt, le-ltb}
use Rattle.std.proofs.lemmas.Bool.Decides.{nat_tests}
use Rattle.std.proofs.lemmas.List.{drop-drop}
use Rattle.std.specs.Io.KnownBytes.{Consumes, IsAtEnd, Keeps}
use Rattle.ttx_pes.specs.Advancing.{Advances, IsReportedRest, TakesPesPacketWith, fault_of_size}
use Rattle.ttx_pes.specs.Advancing.{rest_fault}
use Rattle.ttx_pes.specs.Comparing.{TakesDataField}
use Rattle.ttx_pes.specs.Fault.{is_packet_content_fault, is_read_fault}
use Rattle.ttx_pes.specs.PesGrammar.{PesValue}
use Rattle.ttx_pes.specs.PesPackets.{IsPesPacket, TakesRefusedPesPacket}
use Rattle.ttx_pes.specs.Reader.{ReportsPacket}
use Rattle.ttx_pes.specs.Reading.{is_format_fault, max_pes_packets, size_at, value_at}
use Rattle.ttx_pes.specs.Accepting.{BuffersPesPacket, FrameBufferValue, ReadsValue, SettlesPacket}
use Rattle.ttx_pes.specs.declared.fault.PesFault.{PesFault}
use Rattle.ttx_pes.specs.declared.fault.PesFault.TheVariants as fault
use Rattle.ttx_pes.specs.declared.pes_packets.Received.{Received}
use Rattle.ttx_pes.specs.declared.pes_packets.Received.TheVariants.{PesPacket}
use Rattle.ttx_pes.specs.declared.progress.Progress.TheVariants.{Reading}
use Rattle.ttx_pes.proofs.PesPacketLemmas.{refused_packet_is_consumed}
use Rattle.ttx_pes.proofs.PesPacketBufferLemmas.{pes_packet_size_is_stated}
use Rattle.ttx_pes.proofs.PesPacketBufferLemmas.{rest_fault_is_packet_fault}
use Rattle.ttx_pes.proofs.PesPacketBufferLemmas.{short_rest_is_truncated}
use Rattle.ttx_pes.proofs.AcceptingLemmas.{settled_value_gives_data_field, settled_result_is_value}
use Rattle.ttx_pes.proofs.AcceptingLemmas.{end_of_input_is_answer}
use Rattle.ttx_pes.proofs.AcceptingLemmas.{settled_result_is_answer, too_many_is_answer}
use Rattle.ttx_pes.proofs.AcceptingLemmas.{complete_packet_settles}

-- The fault is `Truncated`, or a wrong start code or length: neither a fault of a complete PES
-- packet nor a device failure.
abbrev pub IsRestFault : PesFault → Type 0
IsRestFault f = (is_format_fault f ≡ true) × (is_packet_content_fault f ≡ false) ×
    (is_read_fault f ≡ false)

size_fault_is_rest_kind : (b : List ℕ) (f : PesFault) → size_at b ≡ Err f → IsRestFault f
unfolding size_at
size_fault_is_rest_kind b f e = grind (arith, nat_tests)

incomplete_packet_is_truncated : (count size : ℕ) (f : PesFault)
    → (let r : Result ℕ PesFault = Ok size in fault_of_size count r) ≡ Some f
    → fault.Truncated ≡ f
incomplete_packet_is_truncated count size f e = grind (arith, nat_tests)

stated_fault_is_rest_kind : (count : ℕ) (b : List ℕ) (r : Result ℕ PesFault) (f : PesFault)
    → size_at b ≡ r
    → fault_of_size count r ≡ Some f
    → IsRestFault f
stated_fault_is_rest_kind count b (Ok size) f is e =
    subst IsRestFault (incomplete_packet_is_truncated count size f e) (refl, refl, refl)
stated_fault_is_rest_kind count b (Err g) f is e = subst IsRestFault (same_Some _ _ e)
    (size_fault_is_rest_kind b g is)

pub rest_fault_is_rest_kind : (b : List ℕ) (f : PesFault) → rest_fault b ≡ Some f → IsRestFault f
unfolding rest_fault
rest_fault_is_rest_kind b f e = elim (cases_lt (length b) 6) [
  | inl lt ↦
      subst IsRestFault (same_Some _ _ (sym (short_rest_is_truncated b lt) ∙ e)) (refl, refl, refl)
  | inr le ↦
      stated_fault_is_rest_kind (length b) (take 6 b) (size_at (take 6 b)) f refl
      (rw (le-ltb (length b) 6 le) at e)
]

pub reported_fault_is_rest_kind : (old left : Option (List ℕ)) (f : PesFault) → IsReportedRest old
    left f → IsRestFault f
reported_fault_is_rest_kind old left f r =
    rest_fault_is_rest_kind (r.bytes ++ []) f (r.shows.all [] (λ end. refl))

module _ {T A : Type 0} (E : Type 0) (is_take : T → List ℕ → A → T → Type 0)
    (old new left : Option (List ℕ)) (before after : T) (received : Received A)
    (on : Advances old new left is_take before after (let r : Result (Received A) E = Ok received
    in r))
  where
    pub received_packet_is_taken : (answer : A) → received ≡ PesPacket answer
        → TakesPesPacketWith is_take old new before answer after × (left ≡ new)
    received_packet_is_taken answer is =
        subst (λ (c : Received A).
        Advances old new left is_take before after (let r : Result (Received A) E = Ok c in r)) is
        on

pub end_reports_no_packet : (given : ℕ) (old new left : Option (List ℕ))
    → Keeps old new
    → left ≡ new
    → IsAtEnd new
    → ReportsPacket (Reading given) old left (Ok None)
end_reports_no_packet given old new left kept same end =
    subst (λ (l : Option (List ℕ)). ReportsPacket (Reading given) old l (Ok None)) (sym same)
    (end_of_input_is_answer given old new [] (Consumes-kept old old new [] (Consumes-nil old) kept)
    refl end)

pub faulty_rest_is_answer : (given : ℕ) (old left : Option (List ℕ)) (f : PesFault)
    → given ≢ max_pes_packets
    → IsReportedRest old left f
    → ReportsPacket (Reading given) old left (Err f)
faulty_rest_is_answer given old left f ne r =
    let settles : SettlesPacket old left r.bytes (Err f) = record {
      consumed = r.consumed;
      some = r.shows.some;
      answer = λ rest end. rest_fault_is_packet_fault (r.bytes ++ rest) f (r.shows.all rest end);
    } in
    settled_result_is_answer given old left r.bytes (Err f) settles ne tt
    (reported_fault_is_rest_kind old left f r).0

-- After as many PES packets as a day has frames, a reader reports `TooMany` for bytes that do not
-- begin with a PES packet.
pub rest_after_limit_is_refused : (given : ℕ) (old left : Option (List ℕ)) (f : PesFault)
    → given ≡ max_pes_packets
    → IsReportedRest old left f
    → ReportsPacket (Reading given) old left (Err fault.TooMany)
rest_after_limit_is_refused given old left f full r =
    too_many_is_answer given old left r.bytes r.consumed r.shows.some full

consumed_packet_settles : (old new : Option (List ℕ)) (p : List ℕ) → IsPesPacket p → Consumes old
    new p
    → SettlesPacket old new p (value_at (drop 6 p))
consumed_packet_settles old new p is consumed =
    let s = pes_packet_size_is_stated p is in
    complete_packet_settles old new p consumed (omega (arith, s.1)) s.0

module _ {T A : Type 0} (is_take : T → List ℕ → A → T → Type 0) (given : ℕ)
    (old new left : Option (List ℕ)) (before : T) (answer : A) (after : T)
  where
    pub packet_after_limit_is_refused : given ≡ max_pes_packets
        → TakesPesPacketWith is_take old new before answer after
        → left ≡ new
        → ReportsPacket (Reading given) old left (Err fault.TooMany)
    packet_after_limit_is_refused full t same =
        let s = pes_packet_size_is_stated t.bytes t.is_pes_packet in
        subst (λ (l : Option (List ℕ)). ReportsPacket (Reading given) old l (Err fault.TooMany))
        (sym same) (too_many_is_answer given old new t.bytes t.consumed (omega (arith, s.1)) full)

module _ (given : ℕ) (old new left : Option (List ℕ)) (before after : FrameBufferValue)
    (ne : given ≢ max_pes_packets)
  where
    pub kept_packet_is_answer : (same : Bool)
        → TakesPesPacketWith BuffersPesPacket old new before (let r : Result Bool PesFault = Ok same
        in r) after
        → left ≡ new
        → ReportsPacket (Reading given) old left (Ok (Some after.frame))
        × TakesDataField old left after.frame after.data_field
    kept_packet_is_answer same t is =
        let p = t.bytes in
        let v = after.frame in
        let settles : SettlesPacket old left p (Ok v) =
        subst (λ (l : Option (List ℕ)). SettlesPacket old l p (Ok v)) (sym is)
        (settled_result_is_value old new p (drop 6 p) (Ok v) (consumed_packet_settles old new p
        t.is_pes_packet
        t.consumed) refl
        t.takes.value) in (
          settled_result_is_answer given old left p (Ok v) settles ne t.fit tt,
          settled_value_gives_data_field old left p (drop 6 p) after.data_field v settles t.fit refl
              (t.takes.field ∙ sym (drop-drop 39 6 p)),
        )

    pub refused_packet_is_answer : (f : PesFault)
        → TakesPesPacketWith BuffersPesPacket old new before (let r : Result Bool PesFault = Err f
        in r)
        after
        → left ≡ new
        → ReportsPacket (Reading given) old left (Err f) × TakesRefusedPesPacket old left f
    refused_packet_is_answer f t is =
        let p = t.bytes in
        let s = pes_packet_size_is_stated p t.is_pes_packet in
        let whole : SettlesPacket old left p (value_at (drop 6 p)) =
        subst (λ (l : Option (List ℕ)). SettlesPacket old l p (value_at (drop 6 p))) (sym is)
        (consumed_packet_settles old new p t.is_pes_packet t.consumed) in (
          settled_result_is_answer given old left p (Err f)
              (settled_result_is_value old left p (drop 6 p) (Err f) whole refl t.takes.err) ne tt
              t.takes.kind,
          refused_packet_is_consumed old left p (drop 6 p) f whole refl t.takes.err t.fit
              (omega (arith, s.1))
              s.0,
        )

module _ (given : ℕ) (old new left : Option (List ℕ)) (before after : PesValue)
    (ne : given ≢ max_pes_packets)
  where
    pub reports_read :
        TakesPesPacketWith ReadsValue old new before (let r : Result (Unit {0}) PesFault = Ok tt
        in r)
        after
        → left ≡ new
        → ReportsPacket (Reading given) old left (Ok (Some after))
    reports_read t is =
        let p = t.bytes in
        let settles : SettlesPacket old left p (Ok after) =
        subst (λ (l : Option (List ℕ)). SettlesPacket old l p (Ok after)) (sym is)
        (settled_result_is_value old new p (drop 6 p) (Ok after) (consumed_packet_settles old new p
        t.is_pes_packet
        t.consumed)
        refl t.takes.value) in
        settled_result_is_answer given old left p (Ok after) settles ne t.fit tt

    pub unreadable_packet_is_answer : (f : PesFault)
        → TakesPesPacketWith ReadsValue old new before (let r : Result (Unit {0}) PesFault = Err f
        in r)
        after
        → left ≡ new
        → ReportsPacket (Reading given) old left (Err f)
    unreadable_packet_is_answer f t is =
        let p = t.bytes in
        let whole : SettlesPacket old left p (value_at (drop 6 p)) =
        subst (λ (l : Option (List ℕ)). SettlesPacket old l p (value_at (drop 6 p))) (sym is)
        (consumed_packet_settles old new p t.is_pes_packet t.consumed) in
        settled_result_is_answer given old left p (Err f)
        (settled_result_is_value old left p (drop 6 p) (Err f) whole refl t.takes.err) ne tt
        t.takes.kind
