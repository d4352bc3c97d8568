-- If a check was answered with files in memory, and neither the output failed nor memory ran out,
-- its status is 0 exactly if their bytes are accepted.
use Rattle.std.proofs.lemmas.Bool.Decides.{nat_tests}
use Rattle.std.proofs.Common.{arith}
use Rattle.std.proofs.Common.{◌≡◌, ◌≢◌, ◌↔◌, ◌∙◌, ap, sym, subst, ℕ, true, false, List}
use Rattle.std.proofs.Common.{◌++◌, Option, Some, None}
use Rattle.std.specs.Prelude.{⊤}
use Rattle.sub_io.specs.Memory.{MemSinkValue}
use Rattle.stl_rows.specs.Layout.{drawing_within}
use Rattle.sub_request.specs.declared.files.FileNames.TheVariants as names
use Rattle.sub_request.specs.declared.request.Request.{Request}
use Rattle.sub_request.specs.declared.request.Request.TheVariants as ask
use Rattle.sub_files.specs.FileCalls.{CallsInOrder, FileCall}
use Rattle.sub_files.specs.MemoryFiles.{IsMemoryCall, MemFilesValue, bytes_at}
use Rattle.sub_files.specs.Opening.{Opens}
use Rattle.sub_files.specs.declared.opening.OpenedFiles.{OpenedFiles}
use Rattle.sub_files.specs.declared.opening.OpenedFiles.TheVariants.{ReadBoth}
use Rattle.sub_check.specs.CheckedFiles.{IsAcceptedBy}
use Rattle.sub_listing.specs.DeviceCall.{SinkCall}
use Rattle.sub_listing.specs.declared.status.Status.{Status}
use Rattle.sub_listing.specs.declared.status.Status.TheVariants.{Done, Fault}
use Rattle.sub_answer.specs.Answering.{InputCall}
use Rattle.sub_answer.specs.Ending.{EndsOverFiles, EndsWith, FilesAfterAnswer, FlushesBuffer}
use Rattle.sub_answer.specs.Ending.{IsSourceOf}
use Rattle.sub_answer.specs.Ending.{BufferedSinkState, devices_of, release}
use Rattle.sub_answer.specs.FilesInMemory.{LawOfFilesInMemory, memory_observations}
use Rattle.sub_answer.specs.Part.{part_requested, bytes_in_range, carried_bytes_if_stream}
use Rattle.sub_answer.specs.Part.{entire_file}
use Rattle.sub_answer.specs.declared.part.Part.{Part}

record AreBothOpened
    (stl pes : List ℕ) (files : MemFilesValue) (opened : OpenedFiles (List ℕ) MemSinkValue)
    : Type 0 where
  pub first : List ℕ
  pub second : List ℕ
  pub opened_eq : opened ≡ ReadBoth first second
  pub first_is : bytes_at stl files ≡ Some first
  pub second_is : bytes_at pes files ≡ Some second

both_opened :
    (stl pes : List ℕ) (before after : MemFilesValue)
    (calls more : List (FileCall (List ℕ) MemSinkValue))
    (opened : OpenedFiles (List ℕ) MemSinkValue)
    → CallsInOrder IsMemoryCall before after (calls ++ more)
    → Opens (names.ReadBoth stl pes) calls (Some opened)
    → AreBothOpened stl pes before opened
both_opened stl pes before after calls more opened made opens = grind (arith, nat_tests)

-- An input that reads a part of a file in memory has the bytes of that part.
part_of_memory_file_is_read : (part : Part) (file : List ℕ) (left : Option (List ℕ))
    (input : InputCall)
    → IsSourceOf memory_observations part (Some file) left input
    → input.call.known ≡ bytes_in_range part.range (carried_bytes_if_stream part.stream (Some file))
part_of_memory_file_is_read part file None input is = absurd is
part_of_memory_file_is_read part file (Some left) input is = is.is_part.known

same_status :
    (printed new : BufferedSinkState) (status result : Status)
    → FlushesBuffer printed status new result
    → result ≢ Fault
    → result ≡ status
same_status printed new status result h runs = grind (arith, nat_tests)

-- The status of `check` is `Done` exactly if the PES packets that were read are accepted for the
-- subtitle file. Nothing is required of the status of another command.
abbrev IsDoneExactlyIfAccepted : Request → List ℕ → List ℕ → Status → Type 0
IsDoneExactlyIfAccepted (ask.Check stl pes options national layout scope all) file bytes status =
    (read : List ℕ)
    → bytes_in_range pes.range (carried_bytes_if_stream pes.stream (Some bytes)) ≡ Some read
    → (status ≡ Done) ↔ IsAcceptedBy (drawing_within national layout scope) options file read
IsDoneExactlyIfAccepted _ file bytes status = ⊤

done_exactly_if_accepted :
    (request : Request) (file bytes : List ℕ) (stl_left pes_left : Option (List ℕ))
    (Untouched : Type 0) (IsFile : InputCall → SinkCall → Type 0)
    (IsAlone : BufferedSinkState → Type 0) (old new : BufferedSinkState) (result : Status)
    → EndsWith request (IsSourceOf memory_observations entire_file (Some file) stl_left)
    (IsSourceOf memory_observations (part_requested request) (Some bytes) pes_left) Untouched IsFile
    IsAlone
    old new result
    → result ≢ Fault
    → IsDoneExactlyIfAccepted request file bytes result
done_exactly_if_accepted
    (ask.Check stl pes options national layout scope true) file bytes stl_left pes_left Untouched
    IsFile IsAlone old new result e runs =
    λ read read_is.
    let same = same_status e.printed new e.status result e.flushed runs in
    subst
    (λ s. (s ≡ Done) ↔ IsAcceptedBy (drawing_within national layout scope) options file read)
    (sym same)
    (e.answers.ends.done_by file (part_of_memory_file_is_read entire_file file stl_left e.first
    e.first_is) read
    (part_of_memory_file_is_read _ bytes pes_left e.second e.second_is ∙ read_is)
    (λ fails. runs (same ∙ fails)))
done_exactly_if_accepted
    (ask.Check stl pes options national layout scope false) file bytes stl_left pes_left Untouched
    IsFile IsAlone old new result e runs =
    λ read read_is.
    let same = same_status e.printed new e.status result e.flushed runs in
    subst
    (λ s. (s ≡ Done) ↔ IsAcceptedBy (drawing_within national layout scope) options file read)
    (sym same)
    (e.answers.ends.done_by file (part_of_memory_file_is_read entire_file file stl_left e.first
    e.first_is) read
    (part_of_memory_file_is_read _ bytes pes_left e.second e.second_is ∙ read_is)
    (λ fails. runs (same ∙ fails)))
done_exactly_if_accepted ask.Help _ _ _ _ _ _ _ _ _ _ _ _ = tt
done_exactly_if_accepted ask.Version _ _ _ _ _ _ _ _ _ _ _ _ = tt
done_exactly_if_accepted (ask.Packet packet) _ _ _ _ _ _ _ _ _ _ _ _ = tt
done_exactly_if_accepted (ask.Packets pes) _ _ _ _ _ _ _ _ _ _ _ _ = tt
done_exactly_if_accepted (ask.Show stl) _ _ _ _ _ _ _ _ _ _ _ _ = tt
done_exactly_if_accepted (ask.Normal input output) _ _ _ _ _ _ _ _ _ _ _ _ = tt
done_exactly_if_accepted
    (ask.Schedule stl pes options serial national layout scope) _ _ _ _ _ _ _ _ _ _ _ _ = tt
done_exactly_if_accepted (ask.Listen pes listening) _ _ _ _ _ _ _ _ _ _ _ _ = tt
done_exactly_if_accepted (ask.Extract recording pes stream) _ _ _ _ _ _ _ _ _ _ _ _ = tt
done_exactly_if_accepted (ask.Survey recording options) _ _ _ _ _ _ _ _ _ _ _ _ = tt

over_both :
    (request : Request) (opened : OpenedFiles (List ℕ) MemSinkValue) (first second : List ℕ)
    (left : FilesAfterAnswer (List ℕ) MemSinkValue) (IsAlone : BufferedSinkState → Type 0)
    (old new : BufferedSinkState) (result : Status)
    → opened ≡ ReadBoth first second
    → EndsOverFiles memory_observations (λ was is. is ≡ was) request
    (devices_of (part_requested request)
    opened)
    left IsAlone old new result
    → EndsOverFiles memory_observations (λ was is. is ≡ was) request
    (devices_of (part_requested request) (ReadBoth first second)) left IsAlone old new result
over_both request opened first second left IsAlone old new result opened_eq ends =
    grind (arith, nat_tests)

same_bytes :
    (reported : Option (List ℕ)) (a b : List ℕ) → reported ≡ Some a → reported ≡ Some b → a ≡ b
same_bytes reported a b one other = let e = sym one ∙ other in cc

pub law_of_files_in_memory : (IsAlone : BufferedSinkState → Type 0) → LawOfFilesInMemory IsAlone
law_of_files_in_memory IsAlone
    (ask.Check stl pes options national layout scope all) before after old new status h runs =
    λ file bytes read file_is bytes_is read_is.
    let o = both_opened stl.now pes.name.now before after h.opened.calls (release h.left) h.files
    h.opened.calls_were_made h.opened.opens in
    subst
    (λ f. (status ≡ Done) ↔ IsAcceptedBy (drawing_within national layout scope) options f read)
    (same_bytes _ o.first file o.first_is file_is)
    (done_exactly_if_accepted (ask.Check stl pes options national layout scope all) o.first o.second
    h.left.first h.left.second _ _ IsAlone old new status
    (over_both (ask.Check stl pes options national layout scope all) h.files o.first o.second h.left
    IsAlone old new status o.opened_eq h.ends)
    runs read
    (ap (λ b. bytes_in_range pes.range (carried_bytes_if_stream pes.stream (Some b)))
    (same_bytes _ o.second bytes o.second_is bytes_is)
    ∙ read_is))
law_of_files_in_memory IsAlone ask.Help before after old new status h runs = tt
law_of_files_in_memory IsAlone ask.Version before after old new status h runs = tt
law_of_files_in_memory IsAlone (ask.Packet packet) before after old new status h runs = tt
law_of_files_in_memory IsAlone (ask.Packets pes) before after old new status h runs = tt
law_of_files_in_memory IsAlone (ask.Show stl) before after old new status h runs = tt
law_of_files_in_memory IsAlone (ask.Normal input output) before after old new status h runs = tt
law_of_files_in_memory IsAlone
    (ask.Schedule stl pes options serial national layout scope) before after old new status h runs =
    tt
law_of_files_in_memory IsAlone (ask.Listen pes listening) before after old new status h runs = tt
law_of_files_in_memory IsAlone
    (ask.Extract recording pes stream) before after old new status h runs =
    tt
law_of_files_in_memory IsAlone
    (ask.Survey recording options) before after old new status h runs =
    tt
