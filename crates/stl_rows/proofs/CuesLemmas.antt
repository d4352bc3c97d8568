-- Appending a text to the buffer of all texts changes no earlier text, and the new cue points to
-- the new text.
use Rattle.std.proofs.Common.{◌≡◌, ℕ, suc, ◌+◌, ◌<◌, ◌≤◌, List, [], ◌∷◌, ◌++◌, length}
use Rattle.std.proofs.Common.{refl, ap, ◌∙◌, arith, take, drop, map, get_or}
use Rattle.std.proofs.Common.{length-append, length-drop, leb, true, false, Result, Ok, Err, OnErr}
use Rattle.std.proofs.lemmas.List.{take-append-le, drop-append-le, get_or-map, length-map}
use Rattle.std.proofs.lemmas.List.{map-append}
use Rattle.std.proofs.lemmas.List.Elements.{All-push}
use Rattle.std.proofs.lemmas.Bool.Decides.{nat_tests}
use Rattle.std.proofs.Math.Seq.{drop-append_seam, take-length}
use Rattle.std.specs.List.{All}
use Rattle.std.specs.List.Sorted.{IsNonDecreasingBy, IsPartitionPoint}
use Rattle.stl_file.specs.Subtitle.{IsSubtitle, SubtitleValue}
use Rattle.stl_rows.specs.declared.cues.Cue.{Cue}
use Rattle.stl_rows.specs.Cues.{IsCueInTexts, cue_with_text_at, subtitle_of_cue}

pub appending_keeps_text_range : (texts more : List ℕ) (start len : ℕ)
    → start + len ≤ length texts
    → take len (drop start (texts ++ more)) ≡ take len (drop start texts)
appending_keeps_text_range texts more start len within =
    rw (drop-append-le start texts more (omega arith))
    (take-append-le len (drop start texts) more
    (rw (length-drop start texts) (omega arith)))

pub appending_keeps_subtitle : (texts more : List ℕ) (c : Cue)
    → IsCueInTexts texts c
    → subtitle_of_cue (texts ++ more) c ≡ subtitle_of_cue texts c
appending_keeps_subtitle texts more c is = rw (appending_keeps_text_range texts more c.start c.len
    is.within) refl

pub appending_keeps_cue_in_texts : (texts more : List ℕ) (c : Cue)
    → IsCueInTexts texts c
    → IsCueInTexts (texts ++ more) c
appending_keeps_cue_in_texts texts more c is = record {
  within = let l = length-append texts more in let w = is.within in omega (arith, l, w);
  subtitle = rw (appending_keeps_subtitle texts more c is) is.subtitle;
}

pub appending_keeps_subtitles : (texts more : List ℕ) (cs : List Cue)
    → All (IsCueInTexts texts) cs
    → map (subtitle_of_cue (texts ++ more)) cs ≡ map (subtitle_of_cue texts) cs
appending_keeps_subtitles texts more [] all = refl
appending_keeps_subtitles texts more (c ∷ cs) all =
    let rest = appending_keeps_subtitles texts more cs (λ i d b. all (suc i) d (omega arith)) in
    rw (appending_keeps_subtitle texts more c (all 0 c (omega arith)), rest) refl

pub all_kept : (texts more : List ℕ) (cs : List Cue)
    → All (IsCueInTexts texts) cs
    → All (IsCueInTexts (texts ++ more)) cs
all_kept texts more cs all = λ i d b. appending_keeps_cue_in_texts texts more (get_or cs i d)
    (all i d b)

pub added_text_is_found : (texts text : List ℕ)
    → take (length text) (drop (length texts) (texts ++ text)) ≡ text
added_text_is_found texts text = rw (drop-append_seam texts text) (take-length text)

pub added_subtitle_is_read_back : (texts : List ℕ) (s : SubtitleValue)
    → subtitle_of_cue (texts ++ s.text) (cue_with_text_at (length texts) s) ≡ s
added_subtitle_is_read_back texts s = rw (added_text_is_found texts s.text) refl

pub adding_appends_subtitle : (texts : List ℕ) (cs : List Cue) (s : SubtitleValue)
    → All (IsCueInTexts texts) cs
    → map (subtitle_of_cue (texts ++ s.text)) (cs ++ cue_with_text_at (length texts) s ∷ [])
    ≡ map (subtitle_of_cue texts) cs ++ s ∷ []
adding_appends_subtitle texts cs s all =
    map-append (subtitle_of_cue (texts ++ s.text)) cs (cue_with_text_at (length texts) s ∷ [])
    ∙ rw (appending_keeps_subtitles texts s.text cs all, added_subtitle_is_read_back texts s) refl

pub adding_keeps_cues_in_texts : (texts : List ℕ) (cs : List Cue) (s : SubtitleValue)
    → All (IsCueInTexts texts) cs
    → IsSubtitle s
    → All (IsCueInTexts (texts ++ s.text)) (cs ++ cue_with_text_at (length texts) s ∷ [])
adding_keeps_cues_in_texts texts cs s all is =
    let l = length-append texts s.text in
    All-push (IsCueInTexts (texts ++ s.text)) cs (cue_with_text_at (length texts) s)
    (all_kept texts s.text cs all)
    (record { within = omega (arith, l); subtitle = rw (added_subtitle_is_read_back texts s) is })

pub on_err_of_constant : {T E P : Type 0} (r : Result T E) → P → OnErr r P
on_err_of_constant (Ok x) p = tt
on_err_of_constant (Err e) p = p

empty_cue : Cue
empty_cue = record { start = 0; tci = 0; tco = 0; len = 0; sn = 0; sgn = 0; vp = 0; jc = 0 }

pub cue_has_tco_of_subtitle : (texts : List ℕ) (cs : List Cue) (k : ℕ) (c : Cue) (d : SubtitleValue)
    → k < length cs
    → (get_or (map (subtitle_of_cue texts) cs) k d).tco ≡ (get_or cs k c).tco
cue_has_tco_of_subtitle texts cs k c d b =
    ap (λ (t : SubtitleValue). t.tco) (get_or-map (subtitle_of_cue texts) cs k c d b)

-- If the TCOs of the subtitles do not decrease, the TCOs of their cues do not decrease either.
pub tcos_never_decrease-cues : (texts : List ℕ) (cs : List Cue)
    → IsNonDecreasingBy (λ (t : SubtitleValue). t.tco) (map (subtitle_of_cue texts) cs)
    → IsNonDecreasingBy (λ (c : Cue). c.tco) cs
tcos_never_decrease-cues texts cs rises i j d le inside =
    let l = length-map cs (subtitle_of_cue texts) in
    let up = rises i j (subtitle_of_cue texts d) le (omega (arith, l)) in
    rw (
      cue_has_tco_of_subtitle texts cs i d (subtitle_of_cue texts d) (omega arith),
      cue_has_tco_of_subtitle texts cs j d (subtitle_of_cue texts d) inside,
    ) at up

module _ (texts : List ℕ) (cs : List Cue) (f at : ℕ)
    (point : IsPartitionPoint (λ (c : Cue). leb c.tco f ≡ true) (λ (c : Cue). leb c.tco f ≡ false)
    cs at) (inside : at ≤ length cs) where
  pub ended-before : (k : ℕ) (d : SubtitleValue)
      → k < at
      → (get_or (map (subtitle_of_cue texts) cs) k d).tco ≤ f
  ended-before k d b =
      let same = cue_has_tco_of_subtitle texts cs k empty_cue d (omega arith) in
      let early = point.0 k empty_cue (omega arith) b in
      grind (arith, nat_tests)

  pub ended-after : (k : ℕ) (d : SubtitleValue)
      → at ≤ k
      → k < length (map (subtitle_of_cue texts) cs)
      → f < (get_or (map (subtitle_of_cue texts) cs) k d).tco
  ended-after k d a b =
      let l = length-map cs (subtitle_of_cue texts) in
      let same = cue_has_tco_of_subtitle texts cs k empty_cue d (omega (arith, l)) in
      let before_tco = point.1 k empty_cue a (omega (arith, l)) in
      grind (arith, nat_tests)
