-- The files opened for a request are of the kinds that the request names.
use Rattle.std.proofs.lemmas.Bool.Decides.{nat_tests}
use Rattle.std.proofs.Common.{◌≡◌, ℕ, Bool, List, Some, arith, subst, sym}
use Rattle.sub_request.specs.declared.files.FileNames.{FileNames}
use Rattle.sub_request.specs.declared.files.FileNames.TheVariants as names
use Rattle.sub_files.specs.FileCalls.{FileCall}
use Rattle.sub_files.specs.Opening.{CreatesDistinctFile, Opens, OpensAndCreates}
use Rattle.sub_files.specs.declared.opening.OpenedFiles.{OpenedFiles}
use Rattle.sub_files.specs.declared.opening.OpenedFiles.TheVariants.{Extract, Write}
use Rattle.sub_answer.specs.Ending.{Fits}

created :
    {I O : Type 0} (made : O → OpenedFiles I O) (b : Bool) (output : List ℕ)
    (calls : List (FileCall I O)) (opened : OpenedFiles I O)
    → CreatesDistinctFile made b output calls (Some opened)
    → (file : O) × (opened ≡ made file)
created made b output calls opened is = grind (arith, nat_tests)

made_of :
    {I O : Type 0} (made : I → O → OpenedFiles I O) (input output : List ℕ)
    (calls : List (FileCall I O)) (opened : OpenedFiles I O)
    → OpensAndCreates made input output calls (Some opened)
    → (file : I) × (created : O) × (opened ≡ made file created)
made_of made input output calls opened is = grind (arith, nat_tests, created)

pub fits : {I O : Type 0} (request : FileNames) (calls : List (FileCall I O))
    (opened : OpenedFiles I O)
    → Opens request calls (Some opened)
    → Fits request opened
fits names.None calls opened is = grind (arith, nat_tests)
fits (names.ReadStl stl) calls opened is = grind (arith, nat_tests)
fits (names.ReadPes pes) calls opened is = grind (arith, nat_tests)
fits (names.ReadBoth stl pes) calls opened is = grind (arith, nat_tests)
fits (names.Write stl output) calls opened is =
    let made = made_of Write stl output calls opened is in
    subst (λ o. Fits (names.Write stl output) o) (sym made.2) tt
fits (names.Extract recording output) calls opened is =
    let made = made_of Extract recording output calls opened is in
    subst (λ o. Fits (names.Extract recording output) o) (sym made.2) tt
