-- If each call that consumes bytes keeps the output still to be returned, so do several calls.
use Rattle.std.proofs.Common.{◌≡◌, ℕ, List, [], ◌++◌, Option, Some, None, refl, sym, ap, ◌∙◌}
use Rattle.std.proofs.Common.{append_assoc}
use Rattle.std.proofs.KnownBytes.{Consumes-kept, Consumes-nil, Consumes-trans}
use Rattle.std.specs.Prelude.{option_map}
use Rattle.std.specs.Io.KnownBytes.{Keeps}
use Rattle.mpeg_ts.specs.ConsumedStreamBytes.{TakesPrefix, takes_bytes}

pub empty_take_keeps_output : (old : List ℕ → List ℕ) (known_bytes : Option (List ℕ)) → TakesPrefix
    old old
    known_bytes known_bytes
empty_take_keeps_output old known_bytes = takes_bytes old old known_bytes known_bytes []
    (Consumes-nil known_bytes) (λ more. refl)

pub failed_take_keeps_output : (old : List ℕ → List ℕ) (before after : Option (List ℕ))
    → Keeps before after
    → TakesPrefix old old before after
failed_take_keeps_output old before after keeps =
    takes_bytes old old before after []
    (Consumes-kept before before after [] (Consumes-nil before) keeps) (λ more. refl)

pub takes_compose : (old between new : List ℕ → List ℕ) (before mid after : Option (List ℕ))
    → TakesPrefix old between before mid
    → TakesPrefix between new mid after
    → TakesPrefix old new before after
takes_compose old between new before mid after
    (takes_bytes _ _ _ _ first consumed same) (takes_bytes _ _ _ _ then left alike) =
    takes_bytes old new before after (first ++ then)
    (Consumes-trans before mid after first then consumed left)
    (λ more.
    ap old (append_assoc first then more)
    ∙ same (then ++ more)
    ∙ alike more)

pub take_continues : (old between new : List ℕ → List ℕ) (before after : Option (List ℕ))
    → TakesPrefix old between before after
    → ((more : List ℕ) → new more ≡ between more)
    → TakesPrefix old new before after
take_continues old between new before after (takes_bytes _ _ _ _ bytes consumed same) alike =
    takes_bytes old new before after bytes consumed (λ more. same more ∙ sym (alike more))

pub take_keeps_output : (old new : List ℕ → List ℕ) (before after : Option (List ℕ))
    → TakesPrefix old new before after
    → Keeps (option_map old before) (option_map new after)
take_keeps_output old new None after takes = tt
take_keeps_output old new (Some xs) None (takes_bytes _ _ _ _ bytes consumed same) = absurd consumed
take_keeps_output old new (Some xs) (Some ys) (takes_bytes _ _ _ _ bytes consumed same) =
    sym (same ys) ∙ ap old (sym consumed)
