-- The calls of a device that opens files, with their arguments, order and results. A device that
-- does not define the relation `is_call` has the relation `any_file_call`.
use Rattle.std.specs.Prelude.{◌≡◌, ℕ, List, [], ◌∷◌, Option}
use Rattle.sub_files.specs.declared.distinct_files.LookupResult.{LookupResult}

-- A call of a device that opens files, with its result. Input files have type I, output files type
-- O.
pub data FileCall (I O : Type 0) : Type 0 where
  -- Looks up a file by its name.
  LookUp : (name : List ℕ) → LookupResult → FileCall I O
  -- Looks up the file that receives standard output.
  LookUpStandardOutput : LookupResult → FileCall I O
  -- Opens a file for reading; `None` if the file can't be opened.
  Open : (name : List ℕ) → Option I → FileCall I O
  -- Creates a file for writing; `None` if the file can't be created.
  Create : (name : List ℕ) → Option O → FileCall I O
  -- Releases a file that was opened for reading, in its final state.
  ReleaseInput : I → FileCall I O
  -- Releases a file that was created for writing, in its final state.
  ReleaseOutput : O → FileCall I O

-- The call relation of a device about which nothing is known: a call may change any state into any
-- other state.
abbrev pub any_file_call : {I O D : Type 0} → D → FileCall I O → D → Type 0
any_file_call old call new = Unit {0}

-- The device made exactly these calls, one after another.
abbrev pub CallsInOrder :
    {I O D : Type 0} → (D → FileCall I O → D → Type 0) → D → D → List (FileCall I O) → Type 0
CallsInOrder IsCall old new [] = new ≡ old
CallsInOrder {I} {O} {D} IsCall old new (call ∷ calls) =
    (mid : D) × IsCall old call mid × CallsInOrder IsCall mid new calls
