-- Each iteration of `survey` only appends to the output.
use Rattle.std.proofs.Common.{◌≡◌, ◌≤◌, ◌++◌, ◌∙◌, [], ap, false, length, refl, rules, subst}
use Rattle.std.proofs.Common.{sym, take}
use Rattle.std.proofs.KnownBytes.{Appends-trans, Consumes-nil, Consumes-trans}
use Rattle.mpeg_ts.specs.declared.survey_options.SurveyOptions.{SurveyOptions}
use Rattle.ts_survey.specs.Counted.{HasReadUpToBuffer}
use Rattle.ts_survey.specs.FirstLines.{head_size}
use Rattle.ts_survey.specs.Listed.{IsAsRequested}
use Rattle.ts_survey.proofs.CountedLemmas.{is_at_place-kept, is_at_place-next, is_at_place-start}
use Rattle.ts_survey.proofs.FirstLinesLemmas.{begins-as, received-all, long-on, no-items}
use Rattle.ts_survey.proofs.FirstLinesLemmas.{still-buffered}
use Rattle.ts_survey.proofs.FirstLinesLemmas.{reported-kept, reported-on, reported-start, was-none}
use Rattle.ts_survey.proofs.ListedLemmas.{appends-empty, reported-end}
use Rattle.ts_survey.proofs.SurveyLemmas.{grows-more}
use Rattle.ts_survey.proofs.reporting.survey.Goals as goal

pub returns-in_err-flush_pending-clause-grows : goal.returns-in_err-flush_pending-clause-grows
returns-in_err-flush_pending-clause-grows g c =
    grows-more _ _ _ c.reads.invariant.grows c.flush_pending.ensures.grows

pub returns-then-received-clause-grows : goal.returns-then-received-clause-grows
returns-then-received-clause-grows g c =
    grows-more _ _ _ c.reads.invariant.grows c.flush_pending.ensures.grows

pub returns-then-received-clause-listed : goal.returns-then-received-clause-listed
returns-then-received-clause-listed g c =
    let given = c.reads.invariant in
    let taken = c.take-used in
    let received = c.in-Ok.ensures.buffered in
    let ends = c.end_or_flush.ensures.end (search rules) in
    let known = taken.ensures.known (search rules) (search rules) in
    reported-end c.args.options (g.S.Source.remaining c.args.source.now)
    (g.S.Source.remaining c.pull.new.source) (g.K.Sink.contents c.args.out.now)
    (g.K.Sink.contents c.reads.out) (g.K.Sink.contents c.flush_pending.new.out) taken.new.self
    taken.new.first c.end_or_flush.new.text (given.read.0 ++ received.received)
    (take c.skip_bytes.new.self.len c.skip_bytes.new.self.bytes.items) given.grows.0
    (Consumes-trans (g.S.Source.remaining c.args.source.now)
    (g.S.Source.remaining c.reads.source) (g.S.Source.remaining c.pull.new.source) given.read.0
    received.received given.read.1 received.consumed)
    (search rules)
    (subst (λ b. HasReadUpToBuffer taken.new.self.kind taken.new.self.skipped
    (given.read.0 ++ received.received)
    (take c.skip_bytes.new.self.len c.skip_bytes.new.self.bytes.items) b)
    c.if-received.true
    (is_at_place-next c.reads.recording.kind taken.new.self.kind c.reads.recording.skipped
    taken.new.self.skipped taken.result given.read.0 received.received
    (take c.reads.buffer.len c.reads.buffer.bytes.items)
    (take c.pull.new.self.len c.pull.new.self.bytes.items) c.buffered.result.now
    (take c.skip_bytes.new.self.len c.skip_bytes.new.self.bytes.items) c.in-Ok.received.is_end
    given.is_at_place
    received.buffered c.buffered.ensures.bytes c.skip_bytes.ensures.buffered taken.ensures.within
    taken.ensures.skipped_before taken.ensures.begun (λ known. (taken.ensures.continues known).2)
    taken.ensures.taken))
    given.grows.1
    ends
    (reported-on c.reads.recording taken.new.self given.read.0 (given.read.0 ++ received.received)
    c.buffered.result.now given.grows.0 ends.before.bytes.items c.reads.first taken.new.first
    given.reported taken.ensures.kind_is_found taken.ensures.continues (search rules) given.first
    (search rules)
    (begins-as c.reads.recording.has_head given.read.0 received.received given.long)
    (λ not. received-all given.read.0 (take c.reads.buffer.len c.reads.buffer.bytes.items)
    (take c.pull.new.self.len c.pull.new.self.bytes.items) c.buffered.result.now received.received
    (given.buffered not) received.buffered c.buffered.ensures.bytes)
    (λ unknown. let e = sym known ∙ unknown in cc))
    known
    (subst (λ (options : SurveyOptions). IsAsRequested options taken.new.self.kind)
    (taken.ensures.requested ∙ given.requested) (taken.ensures.as_requested given.as_requested))
    (search rules) (search rules)

pub reads-preserved : goal.reads-preserved
reads-preserved g c =
    let given = c.reads.invariant in
    let taken = c.take-used in
    let received = c.in-Ok.ensures.buffered in
    let all : (c.reads.recording.has_head ≡ false
    → given.read.0 ++ received.received ≡ c.buffered.result.now) =
    λ not. received-all given.read.0 (take c.reads.buffer.len c.reads.buffer.bytes.items)
    (take c.pull.new.self.len c.pull.new.self.bytes.items) c.buffered.result.now received.received
    (given.buffered not) received.buffered c.buffered.ensures.bytes in
    let same = c.end_or_flush.ensures.head (search rules) in
    let reported =
    reported-on c.reads.recording taken.new.self given.read.0 (given.read.0 ++ received.received)
    c.buffered.result.now given.grows.0 c.end_or_flush.new.text.bytes.items c.reads.first
    taken.new.first
    given.reported taken.ensures.kind_is_found taken.ensures.continues (search rules) given.first
    (search rules)
    (begins-as c.reads.recording.has_head given.read.0 received.received given.long)
    all
    (λ unknown. ap (λ t. t.bytes.items) (c.end_or_flush.ensures.text (search rules) unknown
    ∙ taken.ensures.unknown unknown)
    ∙ no-items c.reads.text.bytes.items given.none) in record {
      source = search rules;
      out = search rules;
      grows = (
        given.grows.0 ++ (taken.new.first.bytes.items ++ c.end_or_flush.new.text.bytes.items),
        Appends-trans _ (g.K.Sink.contents c.reads.out) _ given.grows.0 _ given.grows.1
            (search rules),
      );
      read = (
        given.read.0 ++ received.received,
        Consumes-trans (g.S.Source.remaining c.args.source.now)
            (g.S.Source.remaining c.reads.source) (g.S.Source.remaining c.pull.new.source)
            given.read.0 received.received given.read.1 received.consumed,
      );
      reported =
          reported-kept taken.new.self c.end_or_flush.new.self _ _ reported
          (c.end_or_flush.ensures.kind (search rules))
          same;
      buffered = λ not.
          let none = sym same ∙ not in
          let had = was-none c.reads.recording.has_head taken.new.self.has_head
          taken.ensures.stays none in
          still-buffered given.read.0 (take c.reads.buffer.len c.reads.buffer.bytes.items)
          (take c.pull.new.self.len c.pull.new.self.bytes.items)
          (take c.skip_bytes.new.self.len c.skip_bytes.new.self.bytes.items) received.received
          taken.result
          (given.buffered had) received.buffered
          (taken.ensures.is_waiting (reported.none none) none) c.skip_bytes.ensures.buffered;
      is_at_place =
          is_at_place-kept taken.new.self.kind c.end_or_flush.new.self.kind taken.new.self.skipped
          c.end_or_flush.new.self.skipped (given.read.0 ++ received.received)
          (take c.skip_bytes.new.self.len c.skip_bytes.new.self.bytes.items) false
          (c.end_or_flush.ensures.kind c.if-received.false)
          (c.end_or_flush.ensures.reads c.if-received.false)
          (c.end_or_flush.ensures.skipped c.if-received.false)
          (subst (λ b. HasReadUpToBuffer taken.new.self.kind taken.new.self.skipped
          (given.read.0 ++ received.received)
          (take c.skip_bytes.new.self.len c.skip_bytes.new.self.bytes.items) b)
          c.if-received.false
          (is_at_place-next c.reads.recording.kind taken.new.self.kind c.reads.recording.skipped
          taken.new.self.skipped taken.result given.read.0 received.received
          (take c.reads.buffer.len c.reads.buffer.bytes.items)
          (take c.pull.new.self.len c.pull.new.self.bytes.items) c.buffered.result.now
          (take c.skip_bytes.new.self.len c.skip_bytes.new.self.bytes.items) c.in-Ok.received.is_end
          given.is_at_place
          received.buffered c.buffered.ensures.bytes c.skip_bytes.ensures.buffered
          taken.ensures.within
          taken.ensures.skipped_before taken.ensures.begun
          (λ known. (taken.ensures.continues known).2)
          taken.ensures.taken));
      long = λ has.
          long-on c.reads.recording.has_head taken.new.self.has_head given.read.0 received.received
          given.long
          (λ had is. subst (λ l. head_size ≤ length l) (sym (all had))
          (taken.ensures.enough c.if-received.false had is))
          (sym same ∙ has);
      enough = search rules;
      requested = c.end_or_flush.ensures.requested ∙ taken.ensures.requested ∙ given.requested;
      as_requested = c.end_or_flush.ensures.as_requested (search rules) (taken.ensures.as_requested
          given.as_requested);
      first = search rules;
      none = search rules;
      kept = search rules;
      buffer = search rules;
      stays_flushed = search rules;
    }

pub reads-init : goal.reads-init
reads-init g c = record {
  source = search rules;
  out = search rules;
  grows = ([], appends-empty (g.K.Sink.contents c.args.out.now) [] refl);
  read = ([], Consumes-nil (g.S.Source.remaining c.args.source.now));
  reported =
      reported-start c.new-recording.result c.new-recording.ensures.kind
      c.new-recording.ensures.none.0;
  buffered = λ not. ap (λ n. take n c.in-Some.buffer.bytes.items) c.in-Some.ensures.0;
  is_at_place =
      is_at_place-start c.new-recording.result.kind c.new-recording.result.skipped
      (take c.in-Some.buffer.len c.in-Some.buffer.bytes.items) c.new-recording.ensures.kind
      c.new-recording.ensures.skipped
      (ap (λ n. take n c.in-Some.buffer.bytes.items) c.in-Some.ensures.0);
  long = λ has. let e = sym c.new-recording.ensures.none.0 ∙ has in cc;
  enough = search rules;
  requested = search rules;
  as_requested = search rules;
  first = search rules;
  none = search rules;
  kept = search rules;
  buffer = search rules;
  stays_flushed = search rules;
}
