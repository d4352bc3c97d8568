-- The effect of joined lists of packets is the effect of the first list, and then that of the
-- second.
use Rattle.std.proofs.Common.{◌≡◌, ℕ, ◌+◌, ◌<◌, List, [], ◌∷◌, ◌++◌, length, take, get_or, refl, ap}
use Rattle.std.proofs.lemmas.List.{take_more}
use Rattle.ttx_page.specs.Receiver.{RunsBy}

pub RunsBy-append :
    {S : Type 0} (StepsBy : S → List ℕ → S → Type 0) (first more : List (List ℕ)) (old mid new : S)
    → RunsBy StepsBy old first mid
    → RunsBy StepsBy mid more new
    → RunsBy StepsBy old (first ++ more) new
RunsBy-append StepsBy [] more old mid new run next = rw run at next
RunsBy-append StepsBy (p ∷ ps) more old mid new run next =
    (run.0, run.1, RunsBy-append StepsBy ps more run.0 mid new run.2 next)

pub run_extends_by_packet : {S : Type 0} (StepsBy : S → List ℕ → S → Type 0)
    (packets : List (List ℕ)) (i : ℕ)
    (packet : List ℕ) (old mid new : S)
    → i < length packets
    → packet ≡ get_or packets i packet
    → RunsBy StepsBy old (take i packets) mid
    → StepsBy mid packet new
    → RunsBy StepsBy old (take (i + 1) packets) new
run_extends_by_packet StepsBy packets i packet old mid new below is run step =
    rw (take_more packets i packet below, ← is)
    (RunsBy-append StepsBy (take i packets) (packet ∷ []) old mid new run (new, step, refl))

pub RunsBy-as :
    {S T : Type 0} (StepsBy : S → List ℕ → S → Type 0) (GoesBy : T → List ℕ → T → Type 0)
    (seen : S → T) (packets : List (List ℕ)) (old new : S)
    → ((before : S) (packet : List ℕ) (after : S)
    → StepsBy before packet after
    → GoesBy (seen before) packet (seen after))
    → RunsBy StepsBy old packets new
    → RunsBy GoesBy (seen old) packets (seen new)
RunsBy-as StepsBy GoesBy seen [] old new goes run = ap seen run
RunsBy-as StepsBy GoesBy seen (p ∷ ps) old new goes run =
    (seen run.0, goes old p run.0 run.1, RunsBy-as StepsBy GoesBy seen ps run.0 new goes run.2)
