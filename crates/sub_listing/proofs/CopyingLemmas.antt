-- Copying appends a PES packet, or bytes that are not a PES packet, to the output unchanged. If the
-- output fails, it has received a prefix of them.
use Rattle.std.proofs.Common.{◌≡◌, ◌∙◌, ap, sym, subst, arith, ℕ, ◌+◌, ◌<◌, ◌≤◌, ◌++◌, List}
use Rattle.std.proofs.Common.{[], Bool, Option, Some, None, Ok, length, take, drop}
use Rattle.std.proofs.Common.{length-append, take-add, take-append-drop}
use Rattle.std.proofs.lemmas.List.{drop-drop, length-drop, length-take-le, take_all}
use Rattle.std.proofs.Math.Seq.{drop-append_seam, take-append_seam}
use Rattle.std.proofs.lemmas.Bool.Decides.{nat_tests}
use Rattle.std.proofs.KnownBytes.{Appends-nil, Appends-trans}
use Rattle.std.specs.Prelude.{◌==◌, ◌&&◌}
use Rattle.std.specs.Io.KnownBytes.{Appends, Consumes, IsAtEnd, Keeps}
use Rattle.ttx_pes.specs.Advancing.{IsReportedRest, rest_fault}
use Rattle.ttx_pes.specs.PesGrammar.{payload_size}
use Rattle.ttx_pes.specs.PesPacketRange.{pes_packet_size}
use Rattle.ttx_pes.specs.PesPackets.{IsPesPacket}
use Rattle.ttx_pes.specs.Reading.{is_all_stuffing, is_gap_marker}
use Rattle.ttx_pes.specs.declared.fault.PesFault.{PesFault}
use Rattle.ttx_pes.specs.declared.pes_packets.Received.TheVariants.{PesPacket}
use Rattle.ttx_pes.proofs.LimitedReadLemmas.{pes_packet_has_its_length, reported_rest_is_faulty}
use Rattle.ttx_pes.proofs.PesPacketBufferLemmas.{pes_packet_size_is_stated}
use Rattle.sub_io.specs.Device.{AppendsPrefix}
use Rattle.sub_io.proofs.DeviceLemmas.{AppendsPrefix-first, AppendsPrefix-second}
use Rattle.sub_listing.specs.Copying.{CopiesNext, HasCopied}
use Rattle.sub_listing.specs.Extracting.{fault_at_start}

pub record ConsumesPrefix (b prefix : List ℕ) (left : Option (List ℕ)) : Type 0 where
  pub same : take (length prefix) b ≡ prefix
  pub left_eq : left ≡ Some (drop (length prefix) b)
  pub within : length prefix ≤ length b
  pub end : IsAtEnd left → length b ≡ length prefix

pub consumed_prefix_equals_bytes : (b prefix : List ℕ) (left : Option (List ℕ))
    → Consumes (Some b) left prefix
    → ConsumesPrefix b prefix left
consumed_prefix_equals_bytes b prefix left taken =
    grind (arith, nat_tests, length-append, take-append_seam, drop-append_seam)

pub buffer_holds_prefix : (b room : List ℕ) (n : ℕ) (left : Option (List ℕ))
    → n ≤ length room
    → Consumes (Some b) left (take n room)
    → (take n b ≡ take n room) × (left ≡ Some (drop n b)) × (n ≤ length b)
    × (IsAtEnd left → length b ≡ n)
buffer_holds_prefix b room n left fits taken = grind
    (arith, nat_tests, consumed_prefix_equals_bytes, length-take-le)

pub pes_packet_size_is_bounded : (p : List ℕ) → IsPesPacket p → length p ≤ 1656
pes_packet_size_is_bounded p is = (pes_packet_size_is_stated p is).2

pub copying_pes_packet_appends_it : (bytes p : List ℕ) (reported left old new : Option (List ℕ))
    (is_a_gap_marker : Bool)
    → reported ≡ Some bytes
    → IsPesPacket p
    → Consumes reported left p
    → is_a_gap_marker ≡ is_gap_marker p
    → Appends old new p
    → CopiesNext bytes left old new (Ok (PesPacket is_a_gap_marker))
copying_pes_packet_appends_it bytes p reported left old new is_a_gap_marker is pes_packet taken
    gap_marker
    written =
    let here : Consumes (Some bytes) left p = rw is at taken in
    let prefix = consumed_prefix_equals_bytes bytes p left here in (
      length p,
      size left here,
      gap_marker
          ∙ ap (λ (l : List ℕ). (length p == payload_size) && is_all_stuffing (drop 6 l))
          (sym prefix.same),
      record {
        left_eq = prefix.left_eq;
        written = subst (Appends old new) (sym prefix.same) written;
      },
    )
  where
    size : (left : Option (List ℕ)) → Consumes (Some bytes) left p
        → pes_packet_size bytes ≡ Some (length p)
    size None taken = absurd taken
    size (Some rest) taken = ap pes_packet_size taken ∙ pes_packet_has_its_length p rest pes_packet

pub failed_copy_appends_prefix : (bytes p : List ℕ) (reported left old new : Option (List ℕ))
    → reported ≡ Some bytes
    → Consumes reported left p
    → AppendsPrefix old new p
    → AppendsPrefix old new bytes
failed_copy_appends_prefix bytes p reported left old new is taken part = go left (rw is at taken)
  where
    go : (left : Option (List ℕ)) → Consumes (Some bytes) left p → AppendsPrefix old new bytes
    go None taken = absurd taken
    go (Some rest) taken =
        subst (AppendsPrefix old new) (sym taken) (AppendsPrefix-first old new p rest part)

pub no_bytes_are_left_at_end : (bytes : List ℕ) (reported left : Option (List ℕ))
    → reported ≡ Some bytes
    → Keeps reported left
    → IsAtEnd left
    → bytes ≡ []
no_bytes_are_left_at_end bytes reported left is kept end = go left (rw is at kept) end
  where
    go : (left : Option (List ℕ)) → Keeps (Some bytes) left → IsAtEnd left → bytes ≡ []
    go None kept end = absurd kept
    go (Some rest) kept end = sym kept ∙ end

fault_of_rest_is_refusal : (b : List ℕ) (f : PesFault) → 0 < length b → rest_fault b ≡ Some f
    → fault_at_start b ≡ Some f
unfolding fault_at_start
fault_of_rest_is_refusal b f some is = grind (arith, nat_tests)

pub rejected_rest_is_not_consumed : (bytes : List ℕ) (reported left following : Option (List ℕ))
    (f : PesFault)
    → reported ≡ Some bytes
    → Keeps reported left
    → IsReportedRest reported following f
    → (fault_at_start bytes ≡ Some f) × (left ≡ Some bytes)
rejected_rest_is_not_consumed bytes reported left following f is kept rest = (
  fault_of_rest_is_refusal bytes f (some following (rw is at rest.consumed))
      (reported_rest_is_faulty reported following f rest bytes is),
  stays left (rw is at kept),
)
  where
    some : (following : Option (List ℕ)) → Consumes (Some bytes) following rest.bytes → 0 < length
        bytes
    some None taken = absurd taken
    some (Some more) taken =
        omega (arith, rest.shows.some, ap length taken, length-append rest.bytes more)

    stays : (left : Option (List ℕ)) → Keeps (Some bytes) left → left ≡ Some bytes
    stays None kept = absurd kept
    stays (Some rest) kept = ap Some kept

pub record HasCopiedAtLeast
    (bytes : List ℕ) (left old new : Option (List ℕ)) (least : ℕ) : Type 0 where
  pub read : ℕ
  pub copies_enough_bytes : least ≤ read
  pub within : read ≤ length bytes
  pub copied : HasCopied bytes left old new read

pub zero_bytes_are_copied : (bytes : List ℕ) (reported old : Option (List ℕ))
    → reported ≡ Some bytes
    → HasCopiedAtLeast bytes reported old old 0
zero_bytes_are_copied bytes reported old is = record {
  read = 0;
  copies_enough_bytes = omega arith;
  within = omega arith;
  copied = record { left_eq = is; written = Appends-nil old };
}

pub copied_bytes_grow : (bytes room : List ℕ) (left next old mid new : Option (List ℕ))
    (least n : ℕ)
    → HasCopiedAtLeast bytes left old mid least
    → Consumes left next (take n room)
    → n ≤ length room
    → (n ≡ 0 → ⊥)
    → Appends mid new (take n room)
    → HasCopiedAtLeast bytes next old new (least + 1)
copied_bytes_grow bytes room left next old mid new least n some taken fits other written =
    let prefix =
    buffer_holds_prefix (drop some.read bytes) room n next fits (rw some.copied.left_eq at taken) in
    let rest = length-drop some.read bytes in
    let within = some.within in
    let there = prefix.2 in
    let copies_enough_bytes = some.copies_enough_bytes in
    record {
      read = some.read + n;
      copies_enough_bytes = omega (arith, copies_enough_bytes, other);
      within = omega (arith, rest, within, there);
      copied = record {
        left_eq = prefix.1 ∙ ap Some (drop-drop n some.read bytes);
        written =
            subst (Appends old new)
            (ap (λ l. take some.read bytes ++ l) (sym prefix.0)
            ∙ sym (take-add some.read n bytes))
            (Appends-trans old mid new (take some.read bytes) (take n room) some.copied.written
            written);
      };
    }

pub copied_bytes_are_prefix : (bytes : List ℕ) (left old mid : Option (List ℕ)) (least : ℕ)
    → HasCopiedAtLeast bytes left old mid least
    → AppendsPrefix old mid bytes
copied_bytes_are_prefix bytes left old mid least
    some = (some.read, some.within, some.copied.written)

pub failed_write_appends_prefix : (bytes room : List ℕ) (left next old mid new : Option (List ℕ))
    (least n : ℕ)
    → HasCopiedAtLeast bytes left old mid least
    → Consumes left next (take n room)
    → AppendsPrefix mid new (take n room)
    → AppendsPrefix old new bytes
failed_write_appends_prefix bytes room left next old mid new least n some taken part =
    let start : Consumes (Some (drop some.read bytes)) next (take n room) =
    rw some.copied.left_eq at taken in
    subst (AppendsPrefix old new) (take-append-drop some.read bytes)
    (AppendsPrefix-second old mid new (take some.read bytes) (drop some.read bytes)
    some.copied.written (cut (drop some.read bytes) next start))
  where
    cut : (rest : List ℕ) (next : Option (List ℕ)) → Consumes (Some rest) next (take n room)
        → AppendsPrefix mid new rest
    cut rest None start = absurd start
    cut rest (Some y) start =
        subst (AppendsPrefix mid new) (sym start) (AppendsPrefix-first mid new (take n room) y part)

pub all_bytes_are_copied_at_end : (bytes : List ℕ) (left next old mid : Option (List ℕ)) (least : ℕ)
    → HasCopiedAtLeast bytes left old mid least
    → Consumes left next []
    → IsAtEnd next
    → Appends old mid bytes
all_bytes_are_copied_at_end bytes left next old mid least some taken end =
    grind (arith, nat_tests, consumed_prefix_equals_bytes, length-drop, take_all)
