-- If words are added to a text one after another, the text grows by the joined words.
use Rattle.std.proofs.Common.{◌≡◌, ◌∙◌, true, false, Bool, List, [], ◌++◌, ℕ, sym, ap, refl}
use Rattle.std.proofs.Common.{subst}
use Rattle.std.proofs.Common.{append-nil}
use Rattle.std.proofs.lemmas.List.{append_assoc}
use Rattle.std.proofs.lemmas.List.Folds.{concat-append}
use Rattle.ts_survey.specs.Lines.{AddsTexts}
use Rattle.ts_survey.specs.Text.{AddsBytes}
use Rattle.ts_survey.specs.declared.text.Text.{Text}

bool_contraposition : (a b : Bool) → (a ≡ true → b ≡ true) → b ≡ false → a ≡ false
bool_contraposition false b stays whole = refl
bool_contraposition true b stays whole = let e = sym (stays refl) ∙ whole in cc

pub adds-none : (text : Text) → AddsTexts text [] text
adds-none text = record {
  added = λ whole. sym (append-nil text.bytes.items);
  stays_lost = λ lost. lost;
}

pub adds-word : {old mid new : Text} {word more : List ℕ}
    → AddsBytes old word mid
    → AddsBytes mid more new
    → AddsBytes old (word ++ more) new
adds-word {old = old} {mid = mid} {new = new} {word = word} {more = more} first then = record {
  added = λ whole.
      then.added whole
      ∙ ap (λ l. l ++ more)
      (first.added (bool_contraposition mid.is_lost new.is_lost then.stays_lost whole))
      ∙ append_assoc old.bytes.items word more;
  stays_lost = λ lost. then.stays_lost (first.stays_lost lost);
}

pub adds-last : {old new : Text} {word : List ℕ} → AddsBytes old word new → AddsBytes old
    (word ++ []) new
adds-last {old = old} {new = new} {word = word} last =
    subst (λ bytes. AddsBytes old bytes new) (sym (append-nil word)) last

pub adds-words : {old mid new : Text} (words more : List (List ℕ))
    → AddsTexts old words mid
    → AddsTexts mid more new
    → AddsTexts old (words ++ more) new
adds-words {old = old} {mid = mid} {new = new} words more first then =
    subst (λ bytes. AddsBytes old bytes new) (sym (concat-append words more)) (adds-word first then)
