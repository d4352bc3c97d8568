-- Appending a text changes no earlier text, and the new subtitle is the last.
use Rattle.std.proofs.Common.{◌≡◌, ◌∙◌, ◌++◌, ◌∷◌, [], ap, map}
use Rattle.stl_rows.specs.Cues.{subtitle_of_cue}
use Rattle.stl_rows.proofs.CuesLemmas.{adding_keeps_cues_in_texts, on_err_of_constant}
use Rattle.stl_rows.proofs.CuesLemmas.{adding_appends_subtitle, appending_keeps_subtitles}
use Rattle.stl_rows.proofs.cues.StoredSubtitles.push.Goals as goal

pub returns-in_err-push-clause-err : goal.returns-in_err-push-clause-err
returns-in_err-push-clause-err g c =
    let same : map (subtitle_of_cue c.extend_from_slice.new.self.items) c.push.new.self.items
    ≡ c.args.self.now =
    rw (c.in_err-push.ensures.items, c.in_ok-extend_from_slice.ensures.items)
    (appending_keeps_subtitles c.self.inside.texts.items _ c.self.inside.cues.items c.self.invariant
    ∙ c.self.view_is) in
    on_err_of_constant c.from_residual-in_err-push.result same

pub invariant_of-self-2 : goal.invariant_of-self-2
invariant_of-self-2 g c =
    rw (
      c.in_ok-push.ensures.items,
      c.in_ok-extend_from_slice.ensures.items,
      c.cue_with_text_at-cue.ensures,
      c.as_slice.ensures.value,
      c.text.ensures.value,
    )
    (adding_keeps_cues_in_texts c.self.inside.texts.items c.self.inside.cues.items
    c.args.subtitle.now
    c.self.invariant c.text.ensures.is)

pub returns-clause-ok : goal.returns-clause-ok
returns-clause-ok g c =
    rw (
      c.in_ok-push.ensures.items,
      c.in_ok-extend_from_slice.ensures.items,
      c.cue_with_text_at-cue.ensures,
      c.as_slice.ensures.value,
      c.text.ensures.value,
    )
    (adding_appends_subtitle c.self.inside.texts.items c.self.inside.cues.items c.args.subtitle.now
    c.self.invariant
    ∙ ap (λ ts. ts ++ c.args.subtitle.now ∷ []) c.self.view_is)
