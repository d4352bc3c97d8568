use Rattle.std.proofs.Common.{◌≡◌, ◌∙◌, ◌+◌, ap, arith, refl, rules, sym, None, Some, false}
use Rattle.stl_file.specs.Fault.{is_file_read_failure}
use Rattle.stl_file.specs.Reader.{remaining_outcome}
use Rattle.stl_file.specs.Reading.{ends, fails, gives}
use Rattle.stl_file.specs.declared.progress.Progress.TheVariants.{Reading}
use Rattle.sub_listing.specs.Faults.{kind_of_failure}
use Rattle.sub_listing.specs.Lines.{subtitle_line}
use Rattle.sub_listing.specs.Listing.{followed}
use Rattle.sub_listing.specs.ShowListing.{ReadsSubtitles, subtitles_listing}
use Rattle.sub_listing.specs.FaultLine.{status_of}
use Rattle.sub_listing.proofs.ListingLemmas.{block-rises, gives-last, gives-next, gives-opened}
use Rattle.sub_listing.proofs.ListingLemmas.{gives-refused, kind_of_failure-failed}
use Rattle.sub_listing.proofs.show.SubtitleListerLister.next.Goals as goal

pub returns-in-Ok-clause-gives : goal.returns-in-Ok-clause-gives
returns-in-Ok-clause-gives g c =
    let none : c.args.self.now.reader ≡ None = search rules in
    rw (none, c.requires.empty) (λ _.
    gives-opened c.args.self.now.count c.in-Ok.reader _ _ c.in-Ok.ensures.start.0
    c.in-Ok.ensures.start.1 c.in-Ok.ensures.taken.0 c.in-Ok.ensures.taken.1 c.in-Ok.ensures.left
    (λ bytes reported. c.in-Ok.ensures.exact bytes reported refl))

pub returns-in-Err-clause-gives : goal.returns-in-Err-clause-gives
returns-in-Err-clause-gives g c =
    let none : c.args.self.now.reader ≡ None = search rules in
    let end : c.end_with_fault_line.result ≡ Some
    (status_of (kind_of_failure (is_file_read_failure c.in-Err.fault))) =
    search rules in
    rw (none, end) (λ _.
    gives-refused c.args.self.now.count c.in-Err.fault _ _ c.end_with_fault_line.new.text.items
    (search rules) c.in-Err.ensures.exact c.in-Err.ensures.failed c.in-Err.ensures.refused)

pub returns-in-Ok-Some-clause-gives : goal.returns-in-Ok-Some-clause-gives
returns-in-Ok-Some-clause-gives g c =
    let count = c.args.self.now.count in
    let old = c.in-Some.reader in
    let new = c.next.new.self in
    let ready = rw c.in-Some.is at c.requires.ready in
    let line : subtitle_line c.in-Ok-Some.subtitle ≡ c.push_subtitle.new.text.items =
    search rules in
    rw c.in-Some.is (λ _.
    gives-next _ (subtitles_listing count) (subtitles_listing (count + 1))
    (remaining_outcome old) (remaining_outcome new)
    (λ failed. ReadsSubtitles failed old.block)
    (λ failed. ReadsSubtitles failed new.block)
    (gives c.in-Ok-Some.subtitle new.block) _ _ c.push_subtitle.new.text.items
    (λ o. ap (λ t. followed t (subtitles_listing (count + 1) o)) line)
    (λ o failed end reads.
    (_, rw c.in-Ok-Some.field-0-is at (c.in-Ok-Some.ensures.subtitle ready.0), reads))
    (λ bytes reported.
    let answers = rw c.in-Ok-Some.field-0-is at (c.in-Ok-Some.ensures.exact bytes reported refl) in
    (answers.rest, answers.rest_eq, answers.outcome))
    ends)

pub returns-in-Ok-Some-clause-ready : goal.returns-in-Ok-Some-clause-ready
returns-in-Ok-Some-clause-ready g c = λ goes none.
    let ready = rw c.in-Some.is at c.requires.ready in
    let taken = rw c.in-Ok-Some.field-0-is at (c.in-Ok-Some.ensures.subtitle ready.0) in
    let rises = block-rises _ _ _ _ _ taken in
    let few = ready.1 in
    let progress : c.next.new.self.progress ≡ Reading =
    rw c.in-Ok-Some.field-0-is at c.in-Ok-Some.ensures.progress ∙ ready.0 in (
      progress,
      omega (arith, rises, few),
      rw progress at c.in-Ok-Some.ensures.place,
    )

pub returns-in-Ok-Some-clause-items_decrease :
    goal.returns-in-Ok-Some-clause-items_decrease
returns-in-Ok-Some-clause-items_decrease g c = λ goes none.
    let ready = rw c.in-Some.is at c.requires.ready in
    let taken = rw c.in-Ok-Some.field-0-is at (c.in-Ok-Some.ensures.subtitle ready.0) in
    let rises = block-rises _ _ _ _ _ taken in
    let progress : c.next.new.self.progress ≡ Reading =
    rw c.in-Ok-Some.field-0-is at c.in-Ok-Some.ensures.progress ∙ ready.0 in
    let most = rw progress at c.in-Ok-Some.ensures.place in
    rw c.in-Some.is (omega (arith, rises, most))

pub returns-in-Ok-None-clause-gives : goal.returns-in-Ok-None-clause-gives
returns-in-Ok-None-clause-gives g c =
    let ready = rw c.in-Some.is at c.requires.ready in
    rw (c.in-Some.is, c.end_with_count.ensures.end) (λ _.
    gives-last _ (subtitles_listing c.args.self.now.count) (remaining_outcome c.in-Some.reader)
    (λ failed. ReadsSubtitles failed c.in-Some.reader.block) _ _ ends _ false
    c.end_with_count.ensures.line refl
    (λ bytes reported ok.
    let answers = rw c.in-Ok-None.field-0-is at (c.in-Ok-None.ensures.exact bytes reported refl) in
    sym answers.outcome)
    (refl, _, rw c.in-Ok-None.field-0-is at (c.in-Ok-None.ensures.none ready.0)))

pub returns-in-Err-next-clause-gives : goal.returns-in-Err-next-clause-gives
returns-in-Err-next-clause-gives g c =
    let f = c.in-Err-next.fault in
    let ready = rw c.in-Some.is at c.requires.ready in
    let end : c.end_with_fault_line-in-Err-next.result ≡ Some
    (status_of (kind_of_failure (is_file_read_failure f))) =
    search rules in
    rw (c.in-Some.is, end) (λ _.
    gives-last _ (subtitles_listing c.args.self.now.count) (remaining_outcome c.in-Some.reader)
    (λ failed. ReadsSubtitles failed c.in-Some.reader.block) _ _
    (fails f c.next.new.self.block) c.end_with_fault_line-in-Err-next.new.text.items
    (is_file_read_failure f)
    (search rules) (kind_of_failure-failed (is_file_read_failure f))
    (λ bytes reported ok. sym (c.in-Err-next.ensures.exact bytes reported ok).outcome)
    (refl, c.in-Err-next.ensures.failed ready.0, c.in-Err-next.ensures.refused ready.0))
