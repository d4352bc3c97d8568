-- If a transmission has a frame n, the packets before frame n + 1 are those before frame n,
-- followed by those of frame n.
use Rattle.std.proofs.Common.{◌≡◌, ℕ, ◌+◌, ◌<◌, [], ◌∷◌, ◌++◌, length, get_or, take, sym, ap, ◌∙◌}
use Rattle.std.proofs.Common.{arith}
use Rattle.std.specs.List.{flat_map}
use Rattle.std.proofs.lemmas.List.{flat_map_more, take_more, get_or-map}
use Rattle.sub_rules.specs.FrameRules.{packets_of_frame, packets_before}
use Rattle.sub_rules.specs.Transmission.{SentFrame, Transmission}

pub packets_before_appends_next_frame : (frames : Transmission) (n : ℕ) → n < length frames
    → packets_before frames (n + 1) ≡ packets_before frames n ++ packets_of_frame frames n
packets_before_appends_next_frame [] n l = absurd (omega arith)
packets_before_appends_next_frame (s ∷ ss) n l =
    ap (flat_map (λ (x : SentFrame). x.packets)) (take_more (s ∷ ss) n s l)
    ∙ sym (flat_map_more (λ (x : SentFrame). x.packets) [] (take n (s ∷ ss)) (get_or (s ∷ ss) n s))
    ∙ ap (λ ps. flat_map (λ (x : SentFrame). x.packets) (take n (s ∷ ss)) ++ ps)
    (sym (get_or-map (λ (x : SentFrame). x.packets) (s ∷ ss) n s [] l))
