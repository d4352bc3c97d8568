-- The first `n` cues are the cues of the first `n` subtitles.
use Rattle.std.proofs.Common.{ap, ◌∙◌, sym, take, map}
use Rattle.std.proofs.lemmas.List.{take-map}
use Rattle.stl_rows.specs.Cues.{subtitle_of_cue}
use Rattle.stl_rows.proofs.cues.StoredSubtitles.truncate.Goals as goal

pub returns : goal.returns
returns g c =
    ap (map (subtitle_of_cue c.self.inside.texts.items)) c.truncate.ensures.items
    ∙ sym (take-map (subtitle_of_cue c.self.inside.texts.items) c.args.n c.self.inside.cues.items)
    ∙ ap (take c.args.n) c.self.view_is
