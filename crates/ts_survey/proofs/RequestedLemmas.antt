-- Processing a packet adds no PID that was not requested to the followed PIDs.
use Rattle.std.proofs.Common.{◌≡◌, zero, suc, ◌<◌, ◌++◌, ◌∙◌, ◌∷◌, [], ℕ, Bool, List, Option}
use Rattle.std.proofs.Common.{true, ap, arith, length, map, refl}
use Rattle.std.proofs.Common.{if◌then◌else◌, slice_index_or, slice_set}
use Rattle.ts_survey.specs.Requested.{is_requested, unrequested_pids, followed_pid}
use Rattle.ts_survey.specs.declared.carrier.Carrier.{Carrier}

pub map-same : {A V : Type 0} (f : A → V) (xs : List A) (i : ℕ) (x d : A)
    → i < length xs
    → f x ≡ f (slice_index_or xs i d)
    → map f (slice_set xs i x) ≡ map f xs
map-same f [] i x d below is = refl
map-same f (y ∷ ys) zero x d below is = ap (λ v. v ∷ map f ys) is
map-same f (y ∷ ys) (suc i) x d below is =
    ap (λ vs. f y ∷ vs) (map-same f ys i x d (omega arith) is)

requested-pid-omitted : (is : Bool) (pid : ℕ) (rest : List ℕ)
    → is ≡ true
    → (if is then rest else pid ∷ rest) ≡ rest
requested-pid-omitted is pid rest known = ap (λ one. if one then rest else pid ∷ rest) known

same-before : (is : Bool) (pid : ℕ) (more rest : List ℕ)
    → more ≡ rest
    → (if is then more else pid ∷ more) ≡ (if is then rest else pid ∷ rest)
same-before is pid more rest same = ap (λ l. if is then l else pid ∷ l) same

more-requested : (requested : Option ℕ) (carriers : List Carrier) (one : Carrier)
    → is_requested requested one.pid ≡ true
    → unrequested_pids requested (map followed_pid (carriers ++ one ∷ []))
    ≡ unrequested_pids requested (map followed_pid carriers)
more-requested requested [] one known =
    requested-pid-omitted (is_requested requested one.pid) one.pid [] known
more-requested requested (c ∷ cs) one known =
    same-before (is_requested requested c.pid) c.pid _ _ (more-requested requested cs one known)

pub one-more-requested : (requested : Option ℕ) (pid : ℕ) (old new : List Carrier) (one : Carrier)
    → is_requested requested pid ≡ true
    → one.pid ≡ pid
    → new ≡ old ++ one ∷ []
    → unrequested_pids requested (map followed_pid new) ≡ unrequested_pids requested
    (map followed_pid old)
one-more-requested requested pid old new one known same more =
    ap (λ l. unrequested_pids requested (map followed_pid l)) more
    ∙ more-requested requested old one (ap (is_requested requested) same ∙ known)

pub pids-kept : (carriers : List Carrier) (i : ℕ) (one other : Carrier)
    → i < length carriers
    → one.pid ≡ (slice_index_or carriers i other).pid
    → map followed_pid (slice_set carriers i one) ≡ map followed_pid carriers
pids-kept carriers i one other below same = map-same followed_pid carriers i one other below same

pub others-kept : (requested : Option ℕ) (carriers : List Carrier) (i : ℕ) (one other : Carrier)
    → i < length carriers
    → one.pid ≡ (slice_index_or carriers i other).pid
    → unrequested_pids requested (map followed_pid (slice_set carriers i one))
    ≡ unrequested_pids requested (map followed_pid carriers)
others-kept requested carriers i one other below same =
    ap (unrequested_pids requested) (pids-kept carriers i one other below same)

pub ruleset one_changed = (pids-kept, others-kept)
