-- The calls that open the files of a request, in order, and the opened files.
use Rattle.std.specs.Prelude.{◌≡◌, ℕ, ◌*◌, Bool, true, false, List, [], ◌∷◌, Option, Some, None}
use Rattle.std.specs.Prelude.{option_map}
use Rattle.sub_request.specs.declared.files.FileNames.{FileNames}
use Rattle.sub_request.specs.declared.files.FileNames.TheVariants as names
use Rattle.sub_request.specs.declared.request.UsageFault.{UsageFault}
use Rattle.sub_request.specs.declared.request.UsageFault.TheVariants as usage
use Rattle.sub_files.specs.DistinctFiles.{may_create}
use Rattle.sub_files.specs.FileCalls.{FileCall}
use Rattle.sub_files.specs.FileCalls.FileCall.{Create, LookUp, LookUpStandardOutput, Open}
use Rattle.sub_files.specs.declared.opening.OpenedFiles.{OpenedFiles}
use Rattle.sub_files.specs.declared.opening.OpenedFiles.TheVariants.{Nothing, ReadBoth, ReadPes}
use Rattle.sub_files.specs.declared.opening.OpenedFiles.TheVariants.{ReadStl}
use Rattle.sub_files.specs.declared.opening.OpenedFiles.TheVariants.{Extract, Write}

-- The calls for an output file after the input was opened. If the output may be created, one call
-- tries to create it, and `opened` combines both files; otherwise no further call is made, and no
-- file is returned.
abbrev pub CreatesDistinctFile :
    {I O : Type 0}
    → (O → OpenedFiles I O) → Bool → (output : List ℕ) → List (FileCall I O) → Option
    (OpenedFiles I O)
    → Type 0
CreatesDistinctFile opened true output (Create name file ∷ []) result =
    (name ≡ output) × (result ≡ option_map opened file)
CreatesDistinctFile opened false output [] result = result ≡ None
CreatesDistinctFile opened may_be_created output calls result = ⊥

-- The calls that open an input and create an output. If the input can't be opened, no further call
-- is made. Otherwise both names and standard output are looked up, and the output is created only
-- if `may_create` permits it.
abbrev pub OpensAndCreates :
    {I O : Type 0}
    → (I → O → OpenedFiles I O) → (input output : List ℕ) → List (FileCall I O) → Option
    (OpenedFiles I O)
    → Type 0
OpensAndCreates opened input output (Open name None ∷ []) result =
    (name ≡ input) × (result ≡ None)
OpensAndCreates
    opened input output
    (Open name (Some file)
    ∷ LookUp first found ∷ LookUp other found_file ∷ LookUpStandardOutput own ∷ calls)
    result =
    (name ≡ input) × (first ≡ input) × (other ≡ output)
    × CreatesDistinctFile (opened file) (may_create found own found_file) output calls result
OpensAndCreates _ _ _ _ _ = ⊥

-- The calls that open the files of a request, and the opened files. Input files are opened in the
-- order of the arguments, before an output is created. If a file can't be opened or created, no
-- further call is made, and no files are returned.
abbrev pub Opens :
    {I O : Type 0} → FileNames → List (FileCall I O) → Option (OpenedFiles I O) → Type 0
Opens names.None [] result = result ≡ Some Nothing
Opens (names.ReadStl stl) (Open name file ∷ []) result =
    (name ≡ stl) × (result ≡ option_map ReadStl file)
Opens (names.ReadPes pes) (Open name file ∷ []) result =
    (name ≡ pes) × (result ≡ option_map ReadPes file)
Opens (names.ReadBoth stl pes) (Open name None ∷ []) result = (name ≡ stl) × (result ≡ None)
Opens (names.ReadBoth stl pes) (Open name (Some first) ∷ Open other file ∷ []) result =
    (name ≡ stl) × (other ≡ pes) × (result ≡ option_map (ReadBoth first) file)
Opens (names.Write stl output) calls result = OpensAndCreates Write stl output calls result
Opens (names.Extract recording output) calls result =
    OpensAndCreates Extract recording output calls result
Opens _ _ _ = ⊥

-- The device made exactly the calls that `Opens` allows for the files of a request, with this
-- result: the opened files, or `None` if not all of them were opened or created.
pub record OpensWithCalls
    {I O : Type 0} (AreMade : List (FileCall I O) → Type 0) (names : FileNames)
    (result : Option (OpenedFiles I O))
    : Type 0 where
  pub calls : List (FileCall I O)
  pub calls_were_made : AreMade calls
  pub opens : Opens names calls result

-- The size of a buffer in bytes: the maximum that a system call reads or writes at once.
abbrev pub buffer_size : ℕ
buffer_size = 0x1_0000

-- The total size of the buffers of a request's files in bytes: one buffer per file, and one buffer
-- for a request without files.
abbrev pub total_buffer_size : FileNames → ℕ
total_buffer_size (names.ReadBoth stl pes) = 2 * buffer_size
total_buffer_size (names.Write stl output) = 2 * buffer_size
total_buffer_size (names.Extract recording output) = 2 * buffer_size
total_buffer_size _ = buffer_size

-- The reason why a request gets no files. `Memory`: the device made no call, since memory ran out
-- before. `Open`: the device made the calls of `Opens`, but a file could not be opened or created,
-- or creating the output might empty the input or is known to empty the file that receives standard
-- output. No other fault is a reason.
abbrev pub IsOpeningFault :
    {I O : Type 0} → (List (FileCall I O) → Type 0) → FileNames → UsageFault → Type 0
IsOpeningFault AreMade names usage.Memory = AreMade []
IsOpeningFault AreMade names usage.Open = OpensWithCalls AreMade names None
IsOpeningFault AreMade names _ = ⊥

-- No call of the opened files has failed yet.
abbrev pub HaveNoFailures : {I O : Type 0} → (I → ℕ) → (O → ℕ) → OpenedFiles I O → Type 0
HaveNoFailures reads writes Nothing = Unit {0}
HaveNoFailures reads writes (ReadStl stl) = reads stl ≡ 0
HaveNoFailures reads writes (ReadPes pes) = reads pes ≡ 0
HaveNoFailures reads writes (ReadBoth stl pes) = (reads stl ≡ 0) × (reads pes ≡ 0)
HaveNoFailures reads writes (Write stl output) = (reads stl ≡ 0) × (writes output ≡ 0)
HaveNoFailures reads writes (Extract recording output) = (reads recording ≡ 0) × (writes output ≡ 0)
