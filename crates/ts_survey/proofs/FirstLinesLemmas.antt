-- The first lines of the output stay the same when more of the recording is read.
use Rattle.std.proofs.Common.{◌≡◌, Bool, false, List, [], ◌++◌, ℕ, ◌∷◌, ◌∙◌, ap, append-nil}
use Rattle.std.proofs.Common.{append_assoc, arith, refl, subst, sym, ◌≤◌, drop, length-append, take}
use Rattle.std.proofs.Common.{true}
use Rattle.std.proofs.lemmas.List.{take-append-le}
use Rattle.std.proofs.lemmas.List.Folds.{concat-append}
use Rattle.std.specs.List.{concat}
use Rattle.std.specs.Prelude.{length}
use Rattle.mpeg_ts.specs.PacketSize.{bytes_of}
use Rattle.ts_survey.specs.FirstLines.{FindsKind, requested_pid_texts, begins_with_pes_packet}
use Rattle.ts_survey.specs.FirstLines.{head_size}
use Rattle.ts_survey.specs.FirstLines.{head_texts_if_received}
use Rattle.ts_survey.specs.FirstLines.{newly_reported_head, head_texts, is_pes, kind_texts}
use Rattle.ts_survey.specs.FirstLines.{size_line}
use Rattle.ts_survey.specs.Lines.{AddsTexts}
use Rattle.ts_survey.specs.Listed.{KeepsKind, IsReported}
use Rattle.ts_survey.specs.Stream.{is_unknown}
use Rattle.ts_survey.specs.declared.recording.Kind.{Kind}
use Rattle.ts_survey.specs.declared.recording.Kind.TheVariants.{Nothing, Pes, Stream, Unknown}
use Rattle.ts_survey.specs.declared.recording.Recording.{Recording}
use Rattle.ts_survey.specs.declared.text.Text.{Text}
use Rattle.ts_survey.proofs.TextLemmas.{adds-none}
use Rattle.ts_survey.proofs.TextLemmas.{adds-words}

pub no-items : (xs : List ℕ) → length xs ≡ 0 → xs ≡ []
no-items [] none = refl
no-items (x ∷ xs) none = absurd (omega arith)

kinds-on : (old new : Kind)
    → KeepsKind old new
    → (kind_texts new ≡ kind_texts old)
    × (is_unknown new ≡ is_unknown old)
    × (is_pes new ≡ is_pes old)
kinds-on Unknown Unknown on = (refl, refl, refl)
kinds-on Unknown (Pes g) on = absurd on
kinds-on Unknown (Stream q n) on = absurd on
kinds-on Unknown Nothing on = absurd on
kinds-on (Pes f) Unknown on = absurd on
kinds-on (Pes f) (Pes g) on = (refl, refl, refl)
kinds-on (Pes f) (Stream q n) on = absurd on
kinds-on (Pes f) Nothing on = absurd on
kinds-on (Stream p m) Unknown on = absurd on
kinds-on (Stream p m) (Pes g) on = absurd on
kinds-on (Stream p m) (Stream q n) on = (
  ap (λ size. size_line (bytes_of size) ++ requested_pid_texts n.requested) on.size
      ∙ ap (λ requested. size_line (bytes_of p.size) ++ requested_pid_texts requested) on.keeps.0,
  refl,
  refl,
)
kinds-on (Stream p m) Nothing on = absurd on
kinds-on Nothing Unknown on = absurd on
kinds-on Nothing (Pes g) on = absurd on
kinds-on Nothing (Stream q n) on = absurd on
kinds-on Nothing Nothing on = (refl, refl, refl)

unknown-words : (kind : Kind) → is_unknown kind ≡ true → kind_texts kind ≡ []
unknown-words Unknown is = refl
unknown-words (Pes f) is = absurd cc
unknown-words (Stream p m) is = absurd cc
unknown-words Nothing is = absurd cc

pub adds-nothing : (kind : Kind) (text : Text)
    → is_unknown kind ≡ true
    → AddsTexts text (kind_texts kind) text
adds-nothing kind text is =
    subst (λ words. AddsTexts text words text) (sym (unknown-words kind is)) (adds-none text)

pub reported-start : (recording : Recording)
    → recording.kind ≡ Unknown
    → recording.has_head ≡ false
    → IsReported recording [] []
reported-start recording unknown none = record {
  more = [];
  reported =
      sym (ap (λ kind. concat (head_texts_if_received recording.has_head [] ++ kind_texts kind) ++
      []) unknown
      ∙ ap (λ has. concat (head_texts_if_received has [] ++ []) ++ []) none);
  unknown = λ is. refl;
  none = λ no. ap is_unknown unknown;
  pes = λ has. let e = sym none ∙ has in cc;
}

same-head : (has : Bool) (head other : List ℕ)
    → (has ≡ true → other ≡ head)
    → head_texts_if_received has other ≡ head_texts_if_received has head
same-head true head other same = ap head_texts (same refl)
same-head false head other same = refl

reported-more : (old new : Recording) (received all listing more : List ℕ)
    → IsReported old received listing
    → KeepsKind old.kind new.kind
    → new.has_head ≡ old.has_head
    → (old.has_head ≡ true → take head_size all ≡ take head_size received)
    → (is_unknown old.kind ≡ true → more ≡ [])
    → IsReported new all (listing ++ more)
reported-more old new received all listing more reported on same begins none =
    let head = take head_size all in record {
      more = reported.more ++ more;
      reported =
          ap (λ l. l ++ more) reported.reported
          ∙ append_assoc _ reported.more more
          ∙ ap (λ l. concat (l ++ kind_texts old.kind) ++ (reported.more ++ more))
          (sym (same-head old.has_head (take head_size received) head begins))
          ∙ ap (λ words. concat (head_texts_if_received old.has_head head ++ words) ++
          (reported.more ++ more))
          (sym (kinds-on old.kind new.kind on).0)
          ∙ ap (λ has. concat (head_texts_if_received has head ++ kind_texts new.kind) ++
          (reported.more ++ more))
          (sym same);
      unknown = λ is.
          let was = sym ((kinds-on old.kind new.kind on).1) ∙ is in
          ap (λ l. l ++ more) (reported.unknown was) ∙ none was;
      none = λ not. (kinds-on old.kind new.kind on).1 ∙ reported.none (sym same ∙ not);
      pes = λ has.
          let had = sym same ∙ has in
          (kinds-on old.kind new.kind on).2
          ∙ reported.pes had
          ∙ ap begins_with_pes_packet (sym (begins had));
    }

pub reported-kept : (old new : Recording) (received listing : List ℕ)
    → IsReported old received listing
    → KeepsKind old.kind new.kind
    → new.has_head ≡ old.has_head
    → IsReported new received listing
reported-kept old new received listing reported on same =
    subst (λ l. IsReported new received l) (append-nil listing)
    (reported-more old new received received listing [] reported on same (λ has. refl) (λ is. refl))

head_texts_continue : (before after : Bool) (received all bytes : List ℕ)
    → (before ≡ true → after ≡ true)
    → (before ≡ true → take head_size all ≡ take head_size received)
    → (before ≡ false → all ≡ bytes)
    → head_texts_if_received after (take head_size all)
    ≡ head_texts_if_received before (take head_size received) ++ newly_reported_head before bytes
    after
head_texts_continue true true received all bytes stays begins first =
    ap head_texts (begins refl) ∙ sym (append-nil (head_texts (take head_size received)))
head_texts_continue true false received all bytes stays begins first = let e = stays refl in cc
head_texts_continue false after received all bytes stays begins first =
    ap (λ l. head_texts_if_received after (take head_size l)) (first refl)

pub found-following-head :
    (old mid new : Recording) (bytes : List ℕ) (before between after : Text)
    → old.has_head ≡ false
    → mid.has_head ≡ true
    → new.has_head ≡ mid.has_head
    → mid.kind ≡ Unknown
    → (mid.out_of_memory ≡ false
    → AddsTexts before (head_texts (take head_size bytes) ++ kind_texts mid.kind) between)
    → (mid.out_of_memory ≡ false → is_pes mid.kind ≡ begins_with_pes_packet (take head_size bytes))
    → (new.out_of_memory ≡ false → mid.out_of_memory ≡ false)
    → (new.out_of_memory ≡ false → AddsTexts between (kind_texts new.kind) after)
    → is_pes new.kind ≡ false
    → FindsKind old bytes before after new
found-following-head
    old mid new bytes before between after was has same unknown head pes memory_state kind
    not = record {
      reported = λ enough.
          let words = head_texts (take head_size bytes) in
          let e : newly_reported_head old.has_head bytes new.has_head ≡ words ++ kind_texts
          mid.kind =
          ap (λ had. newly_reported_head had bytes new.has_head) was
          ∙ ap (λ is. head_texts_if_received is (take head_size bytes)) (same ∙ has)
          ∙ sym (append-nil words)
          ∙ ap (λ k. words ++ kind_texts k) (sym unknown) in
          subst (λ l. AddsTexts before (l ++ kind_texts new.kind) after) (sym e)
          (adds-words (words ++ kind_texts mid.kind) (kind_texts new.kind)
          (head (memory_state enough))
          (kind enough));
      stays = λ is. same ∙ has;
      none = λ is. let e = sym (same ∙ has) ∙ is in cc;
      pes = λ enough had is. not ∙ sym (ap is_pes unknown) ∙ pes (memory_state enough);
      kind_is_not_pes = λ had. not;
    }

pub found-with-head : (old new : Recording) (bytes : List ℕ) (before after : Text)
    → old.has_head ≡ true
    → new.has_head ≡ old.has_head
    → (new.out_of_memory ≡ false → AddsTexts before (kind_texts new.kind) after)
    → is_pes new.kind ≡ false
    → FindsKind old bytes before after new
found-with-head old new bytes before after has same kind not = record {
  reported = λ enough.
      let words = kind_texts new.kind in
      subst (λ was. AddsTexts before (newly_reported_head was bytes new.has_head ++ words) after)
      (sym has)
      (kind enough);
  stays = λ is. same ∙ is;
  none = λ is. let e = sym (same ∙ has) ∙ is in cc;
  pes = λ enough had is. let e = sym has ∙ had in cc;
  kind_is_not_pes = λ had. not;
}

unknown-is-no-pes : (kind : Kind) → is_unknown kind ≡ true → is_pes kind ≡ false
unknown-is-no-pes Unknown is = refl
unknown-is-no-pes (Pes f) is = absurd cc
unknown-is-no-pes (Stream p m) is = absurd cc
unknown-is-no-pes Nothing is = absurd cc

found-pes :
    (had : Bool) (old new : Recording) (received all bytes listing : List ℕ) (first last : Text)
    → old.has_head ≡ had
    → IsReported old received listing
    → is_unknown old.kind ≡ true
    → FindsKind old bytes first last new
    → new.out_of_memory ≡ false
    → (old.has_head ≡ true → take head_size all ≡ take head_size received)
    → (old.has_head ≡ false → all ≡ bytes)
    → new.has_head ≡ true
    → is_pes new.kind ≡ begins_with_pes_packet (take head_size all)
found-pes
    true old new received all bytes listing first last had reported is kind_is_found enough begins
    same
    has =
    kind_is_found.kind_is_not_pes had
    ∙ sym (unknown-is-no-pes old.kind is)
    ∙ reported.pes had
    ∙ ap begins_with_pes_packet (sym (begins had))
found-pes
    false old new received all bytes listing first last had reported is kind_is_found enough begins
    same
    has =
    kind_is_found.pes enough had has ∙ ap (λ l. begins_with_pes_packet (take head_size l))
    (sym (same had))

reported-found : (old new : Recording) (received all bytes listing text : List ℕ)
    (first last : Text)
    → IsReported old received listing
    → is_unknown old.kind ≡ true
    → FindsKind old bytes first last new
    → new.out_of_memory ≡ false
    → first.bytes.items ≡ []
    → last.is_lost ≡ false
    → (old.has_head ≡ true → take head_size all ≡ take head_size received)
    → (old.has_head ≡ false → all ≡ bytes)
    → (is_unknown new.kind ≡ true → text ≡ [])
    → IsReported new all (listing ++ (last.bytes.items ++ text))
reported-found
    old new received all bytes listing text first last reported is kind_is_found enough empty whole
    begins
    same
    none =
    let had = head_texts_if_received old.has_head (take head_size received) in
    let more = newly_reported_head old.has_head bytes new.has_head in
    let known = kind_texts new.kind in
    let was : listing ≡ concat had =
    reported.reported
    ∙ ap (λ l. concat (had ++ kind_texts old.kind) ++ l) (reported.unknown is)
    ∙ append-nil (concat (had ++ kind_texts old.kind))
    ∙ ap (λ l. concat (had ++ l)) (unknown-words old.kind is)
    ∙ ap concat (append-nil had) in
    let now : last.bytes.items ≡ concat (more ++ known) =
    (kind_is_found.reported enough).added whole ∙ ap (λ l. l ++ concat (more ++ known)) empty in
    record {
      more = text;
      reported =
          ap (λ l. l ++ (last.bytes.items ++ text)) was
          ∙ ap (λ l. concat had ++ (l ++ text)) now
          ∙ sym (append_assoc (concat had) (concat (more ++ known)) text)
          ∙ ap (λ l. l ++ text) (sym (concat-append had (more ++ known)))
          ∙ ap (λ l. concat l ++ text) (sym (append_assoc had more known))
          ∙ ap (λ l. concat (l ++ known) ++ text)
          (sym (head_texts_continue old.has_head new.has_head received all bytes kind_is_found.stays
          begins same));
      unknown = none;
      none = kind_is_found.none;
      pes = λ has.
          found-pes old.has_head old new received all bytes listing first last refl reported is
          kind_is_found enough
          begins same has;
    }

reported-by : (is : Bool) (old new : Recording) (received all bytes listing text : List ℕ)
    (first last : Text)
    → is_unknown old.kind ≡ is
    → IsReported old received listing
    → (is_unknown old.kind ≡ true → FindsKind old bytes first last new)
    → (is_unknown old.kind ≡ false
    → (last ≡ first) × (new.has_head ≡ old.has_head) × KeepsKind old.kind new.kind)
    → new.out_of_memory ≡ false
    → first.bytes.items ≡ []
    → last.is_lost ≡ false
    → (old.has_head ≡ true → take head_size all ≡ take head_size received)
    → (old.has_head ≡ false → all ≡ bytes)
    → (is_unknown new.kind ≡ true → text ≡ [])
    → IsReported new all (listing ++ (last.bytes.items ++ text))
reported-by
    true old new received all bytes listing text first last is reported kind_is_found goes enough
    empty
    whole begins
    same none =
    reported-found old new received all bytes listing text first last reported is (kind_is_found is)
    enough
    empty whole
    begins same none
reported-by
    false old new received all _ listing text first last is reported kind_is_found goes _ empty
    _ begins
    _ none =
    let on = goes is in
    let no_more : last.bytes.items ≡ [] = ap (λ t. t.bytes.items) on.0 ∙ empty in
    subst (λ l. IsReported new all (listing ++ (l ++ text))) (sym no_more)
    (reported-more old new received all listing text reported on.2 on.1 begins
    (λ unknown. none ((kinds-on old.kind new.kind on.2).1 ∙ unknown)))

pub reported-on : (old new : Recording) (received all bytes listing text : List ℕ)
    (first last : Text)
    → IsReported old received listing
    → (is_unknown old.kind ≡ true → FindsKind old bytes first last new)
    → (is_unknown old.kind ≡ false
    → (last ≡ first) × (new.has_head ≡ old.has_head) × KeepsKind old.kind new.kind)
    → new.out_of_memory ≡ false
    → length first.bytes.items ≡ 0
    → last.is_lost ≡ false
    → (old.has_head ≡ true → take head_size all ≡ take head_size received)
    → (old.has_head ≡ false → all ≡ bytes)
    → (is_unknown new.kind ≡ true → text ≡ [])
    → IsReported new all (listing ++ (last.bytes.items ++ text))
reported-on old new received all bytes listing text first last reported kind_is_found goes enough
    empty =
    reported-by (is_unknown old.kind) old new received all bytes listing text first last refl
    reported kind_is_found
    goes enough (no-items first.bytes.items empty)

-- Once the bytes of the line `head` have been received, further bytes do not change that line.
pub begins-as : (has : Bool) (received more : List ℕ)
    → (has ≡ true → head_size ≤ length received)
    → has ≡ true
    → take head_size (received ++ more) ≡ take head_size received
begins-as has received more long is = take-append-le head_size received more (long is)

pub long-on : (had has : Bool) (received more : List ℕ)
    → (had ≡ true → head_size ≤ length received)
    → (had ≡ false → has ≡ true → head_size ≤ length (received ++ more))
    → has ≡ true
    → head_size ≤ length (received ++ more)
long-on true has received more long enough is =
    let e = length-append received more in omega (arith, e, long refl)
long-on false has received more long enough is = enough refl is

-- If the buffer has all received bytes, it has all of them also after further bytes were received.
pub received-all : (received buffered now bytes more : List ℕ)
    → buffered ≡ received
    → now ≡ buffered ++ more
    → bytes ≡ now
    → received ++ more ≡ bytes
received-all received buffered now bytes more is more_eq same =
    ap (λ l. l ++ more) (sym is) ∙ sym more_eq ∙ sym same

pub still-buffered : (received buffered now after more : List ℕ) (used : ℕ)
    → buffered ≡ received
    → now ≡ buffered ++ more
    → used ≡ 0
    → after ≡ drop used now
    → after ≡ received ++ more
still-buffered received buffered now after more used is more_eq none skipped_before =
    skipped_before ∙ ap (λ n. drop n now) none ∙ more_eq ∙ ap (λ l. l ++ more) is

pub was-none : (had has : Bool) → (had ≡ true → has ≡ true) → has ≡ false → had ≡ false
was-none true has stays none = let e = sym (stays refl) ∙ none in cc
was-none false has stays none = refl
