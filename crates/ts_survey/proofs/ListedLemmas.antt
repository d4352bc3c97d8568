-- Reading more of a recording changes neither its kind, once known, nor the requested options.
use Rattle.std.proofs.Common.{◌≡◌, Bool, false, List, [], ◌++◌, ℕ, Option, Some, None, ◌∷◌, ◌∙◌, ap}
use Rattle.std.proofs.Common.{append-nil, append_assoc, refl, subst, sym, take, true}
use Rattle.std.proofs.KnownBytes.{Appends-trans}
use Rattle.std.specs.Io.KnownBytes.{Appends, Consumes, IsAtEnd, Keeps}
use Rattle.std.specs.List.{concat}
use Rattle.std.specs.Prelude.{IfSome, length}
use Rattle.mpeg_ts.specs.declared.packet_size.PacketSize.{PacketSize}
use Rattle.mpeg_ts.specs.declared.survey_options.SurveyOptions.{SurveyOptions}
use Rattle.ttx_page.specs.Receiver.{RunsBy}
use Rattle.ts_survey.specs.Requested.{KeepsRequested, packet_keeps_requested}
use Rattle.ts_survey.specs.Requested.{unrequested_followed_pids}
use Rattle.ts_survey.specs.Counted.{HasReadUpToBuffer}
use Rattle.ts_survey.specs.FirstLines.{head_size, head_texts_if_received, kind_texts}
use Rattle.ts_survey.specs.InStep.{TakesAll}
use Rattle.ts_survey.specs.Lines.{AddsTexts}
use Rattle.ts_survey.specs.Listed.{KeepsKind, IsAsRequested, IsReported, ReportsEnd, ReportsSurvey}
use Rattle.ts_survey.specs.Listed.{counts_line, stream_packet_count, skipped_count_of_recording}
use Rattle.ts_survey.specs.Stream.{is_unknown}
use Rattle.ts_survey.specs.declared.multiplex.Multiplex.{Multiplex}
use Rattle.ts_survey.specs.declared.packets_in_step.PacketsInStep.{PacketsInStep}
use Rattle.ts_survey.specs.declared.recording.Kind.{Kind}
use Rattle.ts_survey.specs.declared.recording.Kind.TheVariants.{Nothing, Pes, Stream, Unknown}
use Rattle.ts_survey.specs.declared.recording.Recording.{Recording}
use Rattle.ts_survey.specs.declared.text.Text.{Text}
use Rattle.ts_survey.proofs.CountedLemmas.{counted-all, takes-begun}
use Rattle.ts_survey.proofs.FirstLinesLemmas.{no-items}

runs-keep : (old new : Multiplex) (packets : List (List ℕ))
    → RunsBy packet_keeps_requested old packets new
    → KeepsRequested old new
runs-keep old new [] run =
    (ap (λ m. m.requested) run, ap (λ m. m.pages) run, ap (λ m. unrequested_followed_pids m) run)
runs-keep old new (p ∷ ps) run =
    let rest = runs-keep run.0 new ps run.2 in
    (rest.0 ∙ run.1.0, rest.1 ∙ run.1.1, rest.2 ∙ run.1.2)

pub goes-on :
    (packets after : PacketsInStep) (multiplex reported : Multiplex) (bytes : List ℕ)
    (is_end : Bool)
    (used : ℕ)
    → TakesAll packet_keeps_requested packets multiplex bytes is_end used after reported
    → KeepsKind (Stream packets multiplex) (Stream after reported)
goes-on packets after multiplex reported bytes is_end used takes =
    record { size = takes.found.size; keeps = runs-keep multiplex reported _ takes.found.taken }

pub goes-same : (kind : Kind) → KeepsKind kind kind
goes-same Unknown = tt
goes-same (Pes f) = tt
goes-same (Stream p m) = record { size = refl; keeps = (refl, refl, refl) }
goes-same Nothing = tt

pub ruleset what_goes_on = (goes-on, goes-same)

size-on : (requested : Option PacketSize) (old new : PacketSize)
    → new ≡ old
    → IfSome requested (λ size. old ≡ size)
    → IfSome requested (λ size. new ≡ size)
size-on requested old new same is = subst (λ one. IfSome requested (λ size. one ≡ size)) (sym same)
    is

pub as-requested-on : (options : SurveyOptions) (old new : Kind)
    → KeepsKind old new
    → IsAsRequested options old
    → IsAsRequested options new
as-requested-on options Unknown Unknown on requested = tt
as-requested-on options Unknown (Pes f) on requested = tt
as-requested-on options Unknown (Stream p m) on requested = absurd on
as-requested-on options Unknown Nothing on requested = tt
as-requested-on options (Pes f) Unknown on requested = tt
as-requested-on options (Pes f) (Pes g) on requested = tt
as-requested-on options (Pes f) (Stream p m) on requested = absurd on
as-requested-on options (Pes f) Nothing on requested = tt
as-requested-on options (Stream p m) Unknown on requested = tt
as-requested-on options (Stream p m) (Pes f) on requested = tt
as-requested-on options (Stream p m) (Stream q n) on requested = (
  size-on options.packet_size p.size q.size on.size requested.0,
  on.keeps.0 ∙ requested.1,
  on.keeps.1 ∙ requested.2,
  on.keeps.2 ∙ requested.3,
)
as-requested-on options (Stream p m) Nothing on requested = tt
as-requested-on options Nothing Unknown on requested = tt
as-requested-on options Nothing (Pes f) on requested = tt
as-requested-on options Nothing (Stream p m) on requested = absurd on
as-requested-on options Nothing Nothing on requested = tt

pub as-requested-as : (options other : SurveyOptions) (old new : Kind)
    → other ≡ options
    → KeepsKind old new
    → IsAsRequested options old
    → IsAsRequested other new
as-requested-as options other old new same on requested =
    subst (λ (o : SurveyOptions). IsAsRequested o new) (sym same) (as-requested-on options old new
    on requested)

pub ruleset stays_as_requested = (as-requested-as, goes-same)

pub ruleset takes_as_requested = (as-requested-as, goes-same, takes-begun)

pub appends-kept : (old mid new : Option (List ℕ)) (bytes : List ℕ)
    → Appends old mid bytes
    → Keeps mid new
    → Appends old new bytes
appends-kept None mid new bytes one kept = tt
appends-kept (Some xs) None new bytes one kept = absurd one
appends-kept (Some xs) (Some ys) None bytes one kept = absurd kept
appends-kept (Some xs) (Some ys) (Some zs) bytes one kept = kept ∙ one

pub appends-empty : (old : Option (List ℕ)) (bytes : List ℕ)
    → length bytes ≡ 0
    → Appends old old bytes
appends-empty None bytes none = tt
appends-empty (Some xs) bytes none =
    sym (ap (λ l. xs ++ l) (no-items bytes none) ∙ append-nil xs)

pub ruleset all_reported = (appends-kept, appends-empty)

all-read : (start end : Option (List ℕ)) (received : List ℕ)
    → Consumes start end received
    → IsAtEnd end
    → IfSome start (λ bytes. received ≡ bytes)
all-read None end received consumed over = tt
all-read (Some xs) None received consumed over = absurd consumed
all-read (Some xs) (Some ys) received consumed over =
    sym (consumed ∙ ap (λ l. received ++ l) over ∙ append-nil received)

has-head : (is : Bool) (kind : Kind)
    → is_unknown kind ≡ false
    → (is ≡ false → is_unknown kind ≡ true)
    → is ≡ true
has-head true kind known none = refl
has-head false kind known none = let e = sym (none refl) ∙ known in cc

pub ends-reported : (recording : Recording) (mid new : Text) (skipped number : ℕ)
    → skipped ≡ skipped_count_of_recording recording
    → number ≡ stream_packet_count recording.kind
    → AddsTexts mid (counts_line skipped number) new
    → ReportsEnd recording new
ends-reported recording mid new skipped number is are over = record {
  before = mid;
  over =
      subst (λ n. AddsTexts mid (counts_line (skipped_count_of_recording recording) n) new) are
      (subst (λ n. AddsTexts mid (counts_line n number) new) is over);
}

pub reported-end :
    (options : SurveyOptions) (left end start old out : Option (List ℕ)) (recording : Recording)
    (first last : Text) (received buffered before : List ℕ)
    → Consumes left end received
    → IsAtEnd end
    → HasReadUpToBuffer recording.kind recording.skipped received buffered true
    → Appends start old before
    → (ends : ReportsEnd recording last)
    → IsReported recording received (before ++ (first.bytes.items ++ ends.before.bytes.items))
    → is_unknown recording.kind ≡ false
    → IsAsRequested options recording.kind
    → last.is_lost ≡ false
    → Appends old out (first.bytes.items ++ last.bytes.items)
    → ReportsSurvey options left start out
reported-end
    options left end start old out recording first last received buffered before read over
    is_at_place was ends
    reported known requested whole more =
    let kind = recording.kind in
    let head = take head_size received in
    let mid = ends.before.bytes.items in
    let words = concat (counts_line (skipped_count_of_recording recording)
    (stream_packet_count kind)) in
    let is_head = has-head recording.has_head kind known reported.none in
    let same : last.bytes.items ≡ mid ++ words = ends.over.added whole in (
      before ++ (first.bytes.items ++ last.bytes.items),
      Appends-trans start old out before (first.bytes.items ++ last.bytes.items) was more,
      record {
        received = received;
        all = all-read left end received read over;
        last = recording;
        requested = requested;
        known = known;
        pes = reported.pes is_head;
        counted = counted-all recording.kind recording.skipped received buffered is_at_place;
        between = reported.more;
        listed =
            ap (λ l. before ++ (first.bytes.items ++ l)) same
            ∙ ap (λ l. before ++ l) (sym (append_assoc first.bytes.items mid words))
            ∙ sym (append_assoc before (first.bytes.items ++ mid) words)
            ∙ ap (λ l. l ++ words)
            (reported.reported
            ∙ ap (λ has. concat (head_texts_if_received has head ++ kind_texts kind) ++
            reported.more)
            is_head);
      },
    )
