-- A binary search in the list of cues finds the same index as a binary search in the list of
-- subtitles.
use Rattle.std.proofs.Common.{leb, arith, rules, sym}
use Rattle.std.proofs.lemmas.List.Sorted.{IsPartitionPoint-from_clause, IsPartitionedBy-leb}
use Rattle.std.proofs.lemmas.List.{length-map}
use Rattle.stl_rows.specs.declared.cues.Cue.{Cue}
use Rattle.stl_rows.specs.Cues.{subtitle_of_cue}
use Rattle.stl_rows.proofs.CuesLemmas.{ended-after, ended-before, tcos_never_decrease-cues}
use Rattle.stl_rows.proofs.cues.StoredSubtitles.count_ended_by.Goals as goal

pub returns : goal.returns
returns g c =
    let texts = c.self.inside.texts.items in
    let cs = c.self.inside.cues.items in
    let up = tcos_never_decrease-cues texts cs (rw c.self.view_is c.requires) in
    let parted = IsPartitionedBy-leb (λ (q : Cue). q.tco) cs c.args.frame up in
    let point =
    IsPartitionPoint-from_clause (λ (q : Cue). leb q.tco c.args.frame) cs _
    (rw c.as_slice.ensures.value at c.partition_point.ensures.partitioned) parted
    (λ a r q k. search rules) in
    rw (sym c.self.view_is) (record {
      bound = let l = length-map cs (subtitle_of_cue texts) in omega (arith, l);
      before = ended-before texts cs c.args.frame _ point (omega arith);
      after = ended-after texts cs c.args.frame _ point (omega arith);
    })
