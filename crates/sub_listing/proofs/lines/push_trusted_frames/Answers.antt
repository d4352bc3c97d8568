use Rattle.std.proofs.Common.{◌≡◌, ◌++◌, ◌∙◌, ap, arith, List, ℕ, append_assoc, codes, ◌%◌}
use Rattle.stl_file.specs.TimeCode.{day}
use Rattle.sub_listing.specs.Lines.{time_text}
use Rattle.sub_listing.proofs.lines.push_trusted_frames.Goals as goal

joined : (a b c d e f : List ℕ)
    → a ++ b ++ c ++ d ++ e ++ f ≡ a ++ (b ++ c ++ d ++ e ++ f)
joined a b c d e f = grind (arith, append_assoc)

pub returns : goal.returns
returns g c =
    let from : List ℕ = time_text (c.args.from % day) in
    let to : List ℕ = time_text (c.args.to % day) in
    c.push_text-3.ensures.items
    ∙ ap (λ l. l ++ codes "\n")
    (c.push_frame_time-2.ensures.items
    ∙ ap (λ l. l ++ to)
    (c.push_text-2.ensures.items
    ∙ ap (λ l. l ++ codes " ")
    (c.push_frame_time.ensures.items ∙ ap (λ l. l ++ from) c.push_text.ensures.items)))
    ∙ joined c.args.line.now.items (codes "trusted frames ") from (codes " ") to (codes "\n")
