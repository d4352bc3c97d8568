-- After the input was opened, the output file is created only if this empties neither the input
-- file nor, as far as is known, the file that receives standard output.
use Rattle.std.proofs.Common.{◌≡◌, ℕ, Bool, true, false, List, [], ◌∷◌, Option, Some, None}
use Rattle.std.proofs.Common.{option_map, refl, ◌∙◌}
use Rattle.sub_files.specs.DistinctFiles.{may_create}
use Rattle.sub_files.specs.FileCalls.{CallsInOrder, FileCall}
use Rattle.sub_files.specs.FileCalls.FileCall.{Create, LookUp, LookUpStandardOutput, Open}
use Rattle.sub_files.specs.Opening.{OpensAndCreates}
use Rattle.sub_files.specs.declared.files.LookupResults.{LookupResults}
use Rattle.sub_files.specs.declared.opening.OpenedFiles.{OpenedFiles}

pub creates :
    {I O D : Type 0} (IsCall : D → FileCall I O → D → Type 0) (made : I → O → OpenedFiles I O)
    (start opened looked_up end : D)
    (name output : List ℕ) (input : I) (found : LookupResults) (file : Option O)
    → IsCall start (Open name (Some input)) opened
    → CallsInOrder IsCall opened looked_up
    (LookUp name found.input ∷ LookUp output found.output
    ∷ LookUpStandardOutput found.standard_output ∷ [])
    → (may_create found.input found.standard_output found.output ≡ true
    → IsCall looked_up (Create output file) end)
    → (may_create found.input found.standard_output found.output ≡ false
    → (file ≡ None) × (end ≡ looked_up))
    → (calls : List (FileCall I O))
    × CallsInOrder IsCall start end calls
    × OpensAndCreates made name output calls (option_map (made input) file)
creates
    {I} {O} {D} IsCall made start opened looked_up end name output input found file opens
    (mid, first, (last, second, (here, third, looked_up_is))) distinct_files refuses_overwriting =
    go (may_create found.input found.standard_output found.output) refl
  where
    go :
        (b : Bool)
        → may_create found.input found.standard_output found.output ≡ b
        → (calls : List (FileCall I O))
        × CallsInOrder IsCall start end calls
        × OpensAndCreates made name output calls (option_map (made input) file)
    go true is = (
      Open name (Some input)
          ∷ LookUp name found.input
          ∷ LookUp output found.output
          ∷ LookUpStandardOutput found.standard_output
          ∷ Create output file
          ∷ [],
      (
        opened,
        opens,
        (
          mid,
          first,
          (last, second, (here, third, (end, rw looked_up_is at (distinct_files is), refl))),
        ),
      ),
      (refl, refl, refl, rw is (refl, refl)),
    )
    go false is = (
      Open name (Some input)
          ∷ LookUp name found.input
          ∷ LookUp output found.output
          ∷ LookUpStandardOutput found.standard_output
          ∷ [],
      (
        opened,
        opens,
        (mid, first, (last, second, (here, third, (refuses_overwriting is).1 ∙ looked_up_is))),
      ),
      (refl, refl, refl, rw (is, (refuses_overwriting is).0) refl),
    )
