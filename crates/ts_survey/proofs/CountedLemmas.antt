-- All transport packets in the received bytes are found, and counted at the end of the stream.
use Rattle.std.proofs.Common.{◌≡◌, ◌≤◌, ◌+◌, ◌-◌, ◌*◌, ◌∙◌, Bool, List, [], ◌∷◌, ◌++◌, ℕ, ap}
use Rattle.std.proofs.Common.{append-nil, arith, drop, drop-drop, false, length, length-append}
use Rattle.std.proofs.Common.{length-drop, refl, subst, sym, true}
use Rattle.std.proofs.lemmas.List.{drop-append-le}
use Rattle.mpeg_ts.specs.PacketSize.{bytes_of}
use Rattle.mpeg_ts.specs.PacketsInStep.{lead_size}
use Rattle.ttx_page.specs.Receiver.{RunsBy}
use Rattle.ts_survey.specs.Requested.{packet_keeps_requested}
use Rattle.ts_survey.specs.Counted.{BeginsAfterSkipping, IsAtStreamStart, CountsRecording}
use Rattle.ts_survey.specs.Counted.{CountsStream}
use Rattle.ts_survey.specs.Counted.{ReadsStream, HasReadUpToBuffer, ReadsNoMoreOfStream}
use Rattle.ts_survey.specs.Counted.{SomeReceiverTakes, TakesStartedStream}
use Rattle.ts_survey.specs.Following.{accepts_any_state}
use Rattle.ts_survey.specs.InStep.{TakesAll, saturating_count, items_from, packet_count}
use Rattle.ts_survey.specs.InStep.{skipped_byte_count}
use Rattle.ts_survey.specs.Listed.{KeepsKind}
use Rattle.ts_survey.specs.Stream.{TakesPartOfStream, is_unknown}
use Rattle.ts_survey.specs.declared.multiplex.Multiplex.{Multiplex}
use Rattle.ts_survey.specs.declared.packets_in_step.PacketsInStep.{PacketsInStep}
use Rattle.ts_survey.specs.declared.recording.Kind.{Kind}
use Rattle.ts_survey.specs.declared.recording.Kind.TheVariants.{Nothing, Pes, Stream, Unknown}
use Rattle.ts_survey.proofs.InStepLemmas.{law_of_two_calls}

runs-any : (packets : List (List ℕ)) → RunsBy {S = Unit {0}} accepts_any_state (tt {0}) packets
    (tt {0})
runs-any [] = refl
runs-any (p ∷ ps) = (tt, tt, runs-any ps)

taken-any :
    (old new : PacketsInStep) (before after : Multiplex) (bytes : List ℕ) (is_end : Bool) (used : ℕ)
    → TakesAll packet_keeps_requested old before bytes is_end used new after
    → SomeReceiverTakes old bytes is_end used new
taken-any old new before after bytes is_end used takes = record {
  within = takes.within;
  found = record {
    found = takes.found.found;
    items_split_after_found = takes.found.items_split_after_found;
    place_follows_items = takes.found.place_follows_items;
    taken = runs-any _;
    run = takes.found.run;
    number = takes.found.number;
    skipped = takes.found.skipped;
    size = takes.found.size;
  };
  left = takes.left;
  all = takes.all;
}

begun-read :
    (skipped_before : ℕ) (first new : PacketsInStep) (start after : Multiplex)
    (received bytes buffered : List ℕ) (is_end : Bool) (used : ℕ)
    → skipped_before ≤ length received
    → bytes ≡ drop skipped_before received
    → buffered ≡ drop used bytes
    → BeginsAfterSkipping skipped_before first
    → TakesAll packet_keeps_requested first start bytes is_end used new after
    → ReadsStream received buffered is_end new
begun-read skipped_before first new start after received bytes buffered is_end used within is left
    begins
    takes =
    record {
      skipped_before = skipped_before;
      within = within;
      first = first;
      begins = begins;
      used = used;
      taken =
          subst (λ l. SomeReceiverTakes first l is_end used new) is
          (taken-any first new start after bytes is_end used takes);
      left = left ∙ ap (drop used) is;
    }

read-on :
    (mid new : PacketsInStep) (reported after : Multiplex) (received more buffered bytes next : List
    ℕ)
    (is_end : Bool) (used : ℕ)
    → ReadsStream received buffered false mid
    → bytes ≡ buffered ++ more
    → next ≡ drop used bytes
    → TakesAll packet_keeps_requested mid reported bytes is_end used new after
    → ReadsStream (received ++ more) next is_end new
read-on mid new reported after received more buffered bytes next is_end used read is left takes =
    let one = drop read.skipped_before received in
    let all = drop read.skipped_before (received ++ more) in
    let ahead : one ++ more ≡ all = sym (drop-append-le read.skipped_before received more
    read.within) in
    let whole : bytes ≡ drop read.used one ++ more = is ∙ ap (λ l. l ++ more) read.left in
    let following : drop read.used one ++ more ≡ drop read.used all =
    sym (drop-append-le read.used one more read.taken.within) ∙ ap (drop read.used) ahead in
    record {
      skipped_before = read.skipped_before;
      within = omega (arith, read.within, length-append received more);
      first = read.first;
      begins = read.begins;
      used = read.used + used;
      taken =
          subst (λ l. SomeReceiverTakes read.first l is_end (read.used + used) new) ahead
          (law_of_two_calls {T = Unit {0}} accepts_any_state read.first mid new tt tt tt one
          more
          is_end
          read.used used read.taken
          (subst (λ l. SomeReceiverTakes mid l is_end used new) whole
          (taken-any mid new reported after bytes is_end used takes)));
      left =
          left
          ∙ ap (drop used) (whole ∙ following)
          ∙ drop-drop used read.used all;
    }

pub takes-begun : (skipped_before : ℕ) (mid new : Kind) (bytes : List ℕ) (is_end : Bool) (used : ℕ)
    → IsAtStreamStart skipped_before mid
    → TakesPartOfStream mid bytes is_end used new
    → KeepsKind mid new
    → TakesStartedStream skipped_before bytes is_end used new
takes-begun skipped_before Unknown Unknown bytes is_end used begins takes on = tt
takes-begun skipped_before Unknown (Pes g) bytes is_end used begins takes on = tt
takes-begun skipped_before Unknown (Stream q n) bytes is_end used begins takes on = absurd on
takes-begun skipped_before Unknown Nothing bytes is_end used begins takes on = tt
takes-begun skipped_before (Pes f) Unknown bytes is_end used begins takes on = tt
takes-begun skipped_before (Pes f) (Pes g) bytes is_end used begins takes on = tt
takes-begun skipped_before (Pes f) (Stream q n) bytes is_end used begins takes on = absurd on
takes-begun skipped_before (Pes f) Nothing bytes is_end used begins takes on = tt
takes-begun skipped_before (Stream p m) Unknown bytes is_end used begins takes on = tt
takes-begun skipped_before (Stream p m) (Pes g) bytes is_end used begins takes on = tt
takes-begun skipped_before (Stream p m) (Stream q n) bytes is_end used begins takes on =
    record { first = p; begins = begins; start = m; taken = takes }
takes-begun skipped_before (Stream p m) Nothing bytes is_end used begins takes on = tt
takes-begun skipped_before Nothing Unknown bytes is_end used begins takes on = tt
takes-begun skipped_before Nothing (Pes g) bytes is_end used begins takes on = tt
takes-begun skipped_before Nothing (Stream q n) bytes is_end used begins takes on = absurd on
takes-begun skipped_before Nothing Nothing bytes is_end used begins takes on = tt

is_at_place-begun :
    (new : Kind) (skipped skipped_now used : ℕ) (received more buffered bytes next : List ℕ)
    (is_end : Bool)
    → skipped ≤ length received
    → buffered ≡ drop skipped received
    → bytes ≡ buffered ++ more
    → next ≡ drop used bytes
    → used ≤ length bytes
    → (is_unknown new ≡ true → skipped_now ≡ skipped + used)
    → TakesStartedStream skipped bytes is_end used new
    → HasReadUpToBuffer new skipped_now (received ++ more) next is_end
is_at_place-begun
    Unknown skipped skipped_now used received more buffered bytes next is_end within is whole left
    fits
    known takes =
    let count = known refl in
    let all : bytes ≡ drop skipped (received ++ more) =
    whole ∙ ap (λ l. l ++ more) is ∙ sym (drop-append-le skipped received more within) in (
      omega (
        arith,
        within,
        fits,
        count,
        ap length all,
        length-drop skipped (received ++ more),
        length-append received more,
      ),
      left
          ∙ ap (drop used) all
          ∙ drop-drop used skipped (received ++ more)
          ∙ ap (λ n. drop n (received ++ more)) (sym count),
    )
is_at_place-begun
    (Pes f) skipped skipped_now used received more buffered bytes next is_end within is whole left
    fits
    known takes = tt
is_at_place-begun
    (Stream p m) skipped skipped_now used received more buffered bytes next is_end within is whole
    left
    fits known takes =
    begun-read skipped takes.first p takes.start m (received ++ more) bytes next is_end used
    (omega (arith, within, length-append received more))
    (whole ∙ ap (λ l. l ++ more) is ∙ sym (drop-append-le skipped received more within))
    left takes.begins takes.taken
is_at_place-begun
    Nothing skipped skipped_now used received more buffered bytes next is_end within is whole left
    fits
    known takes = tt

is_at_place-on :
    (old new : Kind) (skipped skipped_now used : ℕ) (received more buffered bytes next : List ℕ)
    (is_end : Bool)
    → HasReadUpToBuffer old skipped received buffered false
    → bytes ≡ buffered ++ more
    → next ≡ drop used bytes
    → used ≤ length bytes
    → (is_unknown old ≡ true → is_unknown new ≡ true → skipped_now ≡ skipped + used)
    → (is_unknown old ≡ true → TakesStartedStream skipped bytes is_end used new)
    → (is_unknown old ≡ false → KeepsKind old new × TakesPartOfStream old bytes is_end used new)
    → HasReadUpToBuffer new skipped_now (received ++ more) next is_end
is_at_place-on
    Unknown new skipped skipped_now used received more buffered bytes next is_end is_at_place whole
    left fits
    known begun on =
    is_at_place-begun new skipped skipped_now used received more buffered bytes next is_end
    is_at_place.0 is_at_place.1
    whole left fits (known refl) (begun refl)
is_at_place-on
    (Pes f) Unknown skipped skipped_now used received more buffered bytes next is_end is_at_place
    whole left
    fits known begun on =
    absurd (on refl).0
is_at_place-on
    (Pes f) (Pes g) skipped skipped_now used received more buffered bytes next is_end is_at_place
    whole left
    fits known begun on = tt
is_at_place-on
    (Pes f) (Stream q n) skipped skipped_now used received more buffered bytes next is_end
    is_at_place whole
    left fits known begun on =
    absurd (on refl).0
is_at_place-on
    (Pes f) Nothing skipped skipped_now used received more buffered bytes next is_end is_at_place
    whole left
    fits known begun on = tt
is_at_place-on
    (Stream p m) Unknown skipped skipped_now used received more buffered bytes next is_end
    is_at_place whole
    left fits known begun on =
    absurd (on refl).0
is_at_place-on
    (Stream p m) (Pes g) skipped skipped_now used received more buffered bytes next is_end
    is_at_place whole
    left fits known begun on = tt
is_at_place-on
    (Stream p m) (Stream q n) skipped skipped_now used received more buffered bytes next is_end
    is_at_place
    whole left fits known begun on =
    read-on p q m n received more buffered bytes next is_end used is_at_place whole left (on refl).1
is_at_place-on
    (Stream p m) Nothing skipped skipped_now used received more buffered bytes next is_end
    is_at_place whole
    left fits known begun on = tt
is_at_place-on
    Nothing Unknown skipped skipped_now used received more buffered bytes next is_end is_at_place
    whole left
    fits known begun on =
    absurd (on refl).0
is_at_place-on
    Nothing (Pes g) skipped skipped_now used received more buffered bytes next is_end is_at_place
    whole left
    fits known begun on = tt
is_at_place-on
    Nothing (Stream q n) skipped skipped_now used received more buffered bytes next is_end
    is_at_place whole
    left fits known begun on =
    absurd (on refl).0
is_at_place-on
    Nothing Nothing skipped skipped_now used received more buffered bytes next is_end is_at_place
    whole left
    fits known begun on = tt

pub is_at_place-next :
    (old new : Kind) (skipped skipped_now used : ℕ) (received more buffered now bytes next : List ℕ)
    (is_end : Bool)
    → HasReadUpToBuffer old skipped received buffered false
    → now ≡ buffered ++ more
    → bytes ≡ now
    → next ≡ drop used now
    → used ≤ length bytes
    → (is_unknown old ≡ true → is_unknown new ≡ true → skipped_now ≡ skipped + used)
    → (is_unknown old ≡ true → TakesStartedStream skipped bytes is_end used new)
    → (is_unknown old ≡ false → KeepsKind old new)
    → (is_unknown old ≡ false → TakesPartOfStream old bytes is_end used new)
    → HasReadUpToBuffer new skipped_now (received ++ more) next is_end
is_at_place-next
    old new skipped skipped_now used received more buffered now bytes next is_end is_at_place
    more_eq same skipped_before
    fits known begun on taken =
    is_at_place-on old new skipped skipped_now used received more buffered bytes next is_end
    is_at_place
    (same ∙ more_eq) (skipped_before ∙ ap (drop used) (sym same)) fits known begun
    (λ is. (on is, taken is))

pub is_at_place-start : (kind : Kind) (skipped : ℕ) (buffered : List ℕ)
    → kind ≡ Unknown
    → skipped ≡ 0
    → buffered ≡ []
    → HasReadUpToBuffer kind skipped [] buffered false
is_at_place-start kind skipped buffered unknown none empty =
    subst (λ k. HasReadUpToBuffer k skipped [] buffered false) (sym unknown)
    (subst (λ n. (n ≤ 0) × (buffered ≡ drop n [])) (sym none) (omega arith, empty))

pub is_at_place-kept :
    (old new : Kind) (skipped skipped_now : ℕ) (received buffered : List ℕ) (is_end : Bool)
    → KeepsKind old new
    → ReadsNoMoreOfStream old new
    → skipped_now ≡ skipped
    → HasReadUpToBuffer old skipped received buffered is_end
    → HasReadUpToBuffer new skipped_now received buffered is_end
is_at_place-kept Unknown Unknown skipped skipped_now received buffered is_end on stays same
    is_at_place =
    subst (λ n. (n ≤ length received) × (buffered ≡ drop n received)) (sym same) is_at_place
is_at_place-kept Unknown (Pes g) skipped skipped_now received buffered is_end on stays same
    is_at_place = tt
is_at_place-kept Unknown (Stream q n) skipped skipped_now received buffered is_end on stays same
    is_at_place =
    absurd on
is_at_place-kept Unknown Nothing skipped skipped_now received buffered is_end on stays same
    is_at_place = tt
is_at_place-kept (Pes f) Unknown skipped skipped_now received buffered is_end on stays same
    is_at_place = absurd on
is_at_place-kept (Pes f) (Pes g) skipped skipped_now received buffered is_end on stays same
    is_at_place = tt
is_at_place-kept (Pes f) (Stream q n) skipped skipped_now received buffered is_end on stays same
    is_at_place =
    absurd on
is_at_place-kept (Pes f) Nothing skipped skipped_now received buffered is_end on stays same
    is_at_place = tt
is_at_place-kept (Stream p m) Unknown skipped skipped_now received buffered is_end on stays same
    is_at_place =
    absurd on
is_at_place-kept (Stream p m) (Pes g) skipped skipped_now received buffered is_end on stays same
    is_at_place = tt
is_at_place-kept (Stream p m) (Stream q n) skipped skipped_now received buffered is_end on stays
    same is_at_place =
    subst (λ one. ReadsStream received buffered is_end one) (sym stays) is_at_place
is_at_place-kept (Stream p m) Nothing skipped skipped_now received buffered is_end on stays same
    is_at_place = tt
is_at_place-kept Nothing Unknown skipped skipped_now received buffered is_end on stays same
    is_at_place = absurd on
is_at_place-kept Nothing (Pes g) skipped skipped_now received buffered is_end on stays same
    is_at_place = tt
is_at_place-kept Nothing (Stream q n) skipped skipped_now received buffered is_end on stays same
    is_at_place =
    absurd on
is_at_place-kept Nothing Nothing skipped skipped_now received buffered is_end on stays same
    is_at_place = tt

counted-stream : (received buffered : List ℕ) (packets : PacketsInStep)
    → ReadsStream received buffered true packets
    → CountsStream received packets
counted-stream received buffered packets read =
    let first = read.first in
    let bytes = drop read.skipped_before received in
    let found = read.taken.found in
    let place = read.used + packets.lead in
    let same = found.size in
    let distance = bytes_of first.size in
    let count = packet_count found.found in
    let skipped = skipped_byte_count found.found in
    record {
      skipped_before = read.skipped_before;
      within = read.within;
      found = found.found;
      items =
          ap (λ s. items_from (bytes_of s) true (drop (lead_size (bytes_of s)) bytes)) same
          ∙ ap (λ n. items_from distance true (drop n bytes)) (sym read.begins.lead)
          ∙ ap (λ b. items_from distance b (drop first.lead bytes)) (sym read.begins.in_step)
          ∙ ap (λ l. items_from distance first.in_step (drop first.lead l)) (sym (append-nil bytes))
          ∙ found.items_split_after_found [] (λ is. refl)
          ∙ ap (λ l. found.found ++ items_from distance packets.in_step (drop place l))
          (append-nil bytes)
          ∙ ap (λ s. found.found ++ items_from (bytes_of s) packets.in_step (drop place bytes))
          (sym same)
          ∙ ap (λ l. found.found ++ l) (read.taken.all refl)
          ∙ append-nil found.found;
      number = found.number ∙ ap (λ n. saturating_count n count) read.begins.number;
      skipped =
          found.skipped
          ∙ ap (λ n. saturating_count n (skipped + (length bytes - place))) read.begins.skipped
          ∙ ap (λ n. saturating_count read.skipped_before (skipped + (length bytes - n)))
          (found.place_follows_items
          ∙ ap (λ n. n + distance * count + skipped) read.begins.lead
          ∙ ap (λ s. lead_size (bytes_of s) + bytes_of s * count + skipped) (sym same));
    }

pub counted-all : (kind : Kind) (skipped : ℕ) (received buffered : List ℕ)
    → HasReadUpToBuffer kind skipped received buffered true
    → CountsRecording received kind
counted-all Unknown skipped received buffered is_at_place = tt
counted-all (Pes f) skipped received buffered is_at_place = tt
counted-all (Stream p m) skipped received buffered is_at_place = counted-stream received buffered p
    is_at_place
counted-all Nothing skipped received buffered is_at_place = tt
