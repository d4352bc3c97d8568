-- If bytes that a source has buffered are read in several pulls, the bytes that a pull does not
-- return remain buffered.
use Rattle.std.proofs.Common.{◌≡◌, ◌≢◌, ℕ, ◌+◌, ◌<◌, ◌≤◌, List, [], ◌++◌, length, take, Some, ap}
use Rattle.std.proofs.Common.{◌∙◌, Bool, Ok, Result, arith, false, length-append}
use Rattle.std.proofs.Common.{length-take, length-take-le, sym, true}
use Rattle.std.proofs.lemmas.Bool.Decides.{nat_tests}
use Rattle.std.proofs.lemmas.List.{take-take}
use borrow.Rule.Slice.PartMut.{put_mid}
use Rattle.sub_io.proofs.DeviceLemmas.{Consumes-more}
use Rattle.ttx_pes.specs.BorrowedPacket.{NothingIsPendingUnlessReady, is_enough_for_size}
use Rattle.ttx_pes.specs.BorrowedPacket.{has_enough_for_packet}
use Rattle.ttx_pes.specs.declared.fault.PesFault.{PesFault}
use Rattle.ttx_pes.specs.Reading.{size_at}

borrowed_bytes_remain : (buffered borrowed left room : List ℕ) (least at : ℕ)
    → buffered ++ borrowed ≡ take at room ++ left
    → at < least
    → at ≤ length room
    → least ≤ length buffered + length borrowed
    → left ≢ []
borrowed_bytes_remain buffered borrowed left room least at whole below within many none =
    omega (
      arith,
      ap length whole,
      ap length none,
      length-append buffered borrowed,
      length-append (take at room) left,
      length-take-le at room within,
    )

pub borrowed-more : (buffered borrowed left rest room to : List ℕ) (least at k n : ℕ)
    → buffered ++ borrowed ≡ take at room ++ left
    → (left ≢ [] → left ≡ take n to ++ rest)
    → at < least
    → at ≤ length room
    → n ≤ length to
    → least ≤ length buffered + length borrowed
    → buffered ++ borrowed ≡ take (at + n) (put_mid at k room to) ++ rest
borrowed-more buffered borrowed left rest room to least at k n whole gives below within fits many =
    Consumes-more (Some (buffered ++ borrowed)) (Some left) (Some rest) at k n room to within fits
    whole
    (gives (borrowed_bytes_remain buffered borrowed left room least at whole below within many))

pub borrowed_packet_has_header : (borrowed : List ℕ) → has_enough_for_packet borrowed ≡ true → 6 ≤
    length borrowed
unfolding has_enough_for_packet
borrowed_packet_has_header borrowed holds = grind (arith, nat_tests)

-- If the source has a complete PES packet buffered, and at least the first six of its bytes are
-- read, the rest of the packet is still buffered.
pub borrowed_rest_completes_packet : (borrowed left room : List ℕ) (got size : ℕ)
    → has_enough_for_packet borrowed ≡ true
    → borrowed ≡ take got room ++ left
    → 6 ≤ got
    → got ≤ length room
    → size_at (take 6 (take got room)) ≡ Ok size
    → size ≤ got + length left
unfolding has_enough_for_packet
borrowed_rest_completes_packet borrowed left room got size h1 h2 h3 h4 h5 =
    grind (arith, nat_tests, length-take-le, length-append)

more_bytes_are_enough : (r : Result ℕ PesFault) (m n : ℕ) → m ≤ n → is_enough_for_size m r ≡ true
    → is_enough_for_size n r ≡ true
more_bytes_are_enough r m n h1 h2 = grind (arith, nat_tests)

pub borrowed_bytes_are_enough : (buffered borrowed : List ℕ)
    → take (length buffered) borrowed ≡ buffered
    → has_enough_for_packet buffered ≡ true
    → has_enough_for_packet borrowed ≡ true
unfolding has_enough_for_packet
borrowed_bytes_are_enough buffered borrowed begins holds =
    let head = borrowed_packet_has_header buffered holds in
    let long : length buffered ≤ length borrowed =
    omega (arith, ap length begins, length-take (length buffered) borrowed) in
    let first : take 6 buffered ≡ take 6 borrowed =
    ap (take 6) (sym begins) ∙ take-take 6 (length buffered) borrowed head in
    let all : is_enough_for_size (length buffered) (size_at (take 6 buffered)) ≡ true = grind
    (arith, nat_tests) in
    let more : is_enough_for_size (length borrowed) (size_at (take 6 borrowed)) ≡ true =
    more_bytes_are_enough _ _ _ long (rw first at all) in
    grind (arith, nat_tests)

pub short_bytes_are_not_enough : (bytes : List ℕ) → length bytes < 6 → false ≡ has_enough_for_packet
    bytes
unfolding has_enough_for_packet
short_bytes_are_not_enough bytes few = grind (arith, nat_tests)

pub size_decides_whether_enough : (bytes : List ℕ) (r : Result ℕ PesFault)
    → 6 ≤ length bytes
    → size_at (take 6 bytes) ≡ r
    → is_enough_for_size (length bytes) r ≡ has_enough_for_packet bytes
unfolding has_enough_for_packet
size_decides_whether_enough bytes r many is = grind (arith, nat_tests)

-- If reading a PES packet failed, no report was pending: pending reports are flushed unless the
-- reader is ready, and a ready reader does not fail.
pub failing_read_has_nothing_pending : (has_pending_reports fails ready : Bool)
    → NothingIsPendingUnlessReady has_pending_reports ready
    → (ready ≡ true → fails ≡ false)
    → fails ≡ true
    → has_pending_reports ≡ false
failing_read_has_nothing_pending has_pending_reports fails ready h1 h2 h3 = grind (arith, nat_tests)
