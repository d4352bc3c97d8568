-- The first 12,800,897 bytes of a file determine its normal form, and storing a file does not
-- change the bytes written to it.
use Rattle.std.proofs.Common.{Ok, Err}
use Rattle.std.proofs.KnownBytes.{Appends-kept}
use Rattle.sub_io.proofs.DeviceLemmas.{AppendsPrefix-whole}
use Rattle.stl_file.specs.declared.fault.NormalFault.TheVariants.{Write}
use Rattle.sub_listing.proofs.NormalLemmas.{read_limit_keeps_answer}
use Rattle.sub_listing.proofs.normal.write_normal_form.Goals as goal

pub returns-in-Ok-store-clause-answer : goal.returns-in-Ok-store-clause-answer
returns-in-Ok-store-clause-answer g c = λ s first.
    let w = c.in-Ok.ensures.answer in
    read_limit_keeps_answer s _ _ _ (Ok c.in-Ok.count) first (record {
      subtitles = w.subtitles;
      is_file = w.is_file;
      count = w.count;
      wrote = Appends-kept _ _ _ _ w.wrote c.in-Ok-store.ensures.bytes;
    })

pub returns-in-Err-store-clause-answer : goal.returns-in-Err-store-clause-answer
returns-in-Err-store-clause-answer g c = λ s first.
    let w = c.in-Ok.ensures.answer in
    read_limit_keeps_answer s _ _ _ (Err Write) first (record {
      subtitles = w.subtitles;
      is_file = w.is_file;
      wrote = AppendsPrefix-whole _ _ _ (Appends-kept _ _ _ _ w.wrote c.in-Err-store.ensures.bytes);
    })

pub returns-in-Err-clause-answer : goal.returns-in-Err-clause-answer
returns-in-Err-clause-answer g c = λ s first.
    read_limit_keeps_answer s c.args.bytes.now (g.F.Sink.contents c.args.file.now)
    (g.F.Sink.contents c.normal.new.sink) (Err c.in-Err.fault) first c.in-Err.ensures.answer
