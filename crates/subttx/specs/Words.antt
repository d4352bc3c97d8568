-- The arguments of the command line, as the system returns them (not defined by a standard).
use Rattle.std.specs.Prelude.{◌≡◌, List, Result, Ok, Err, String, map, string_bytes}
use Rattle.std.specs.IoError.{error_kind}
use Rattle.std.specs.Vec.Iter.{into_iter_items}
use Rattle.std.specs.declared.io.Error.{Error}
use Rattle.std.specs.declared.io.ErrorKind.{ErrorKind}
use Rattle.std.specs.declared.io.ErrorKind.TheVariants.{OutOfMemory}
use Rattle.std.specs.declared.vec.IntoIter.{IntoIter}
use Rattle.clap.specs.Words.{Text}
use Rattle.sub_request.specs.declared.request.UsageFault.{UsageFault}
use Rattle.sub_request.specs.declared.request.UsageFault.TheVariants as usage

-- The fault if the system returned no arguments: `Memory` if memory ran out; otherwise `Words`, as
-- for an argument that is not valid text.
abbrev pub argument_fault : ErrorKind → UsageFault
argument_fault OutOfMemory = usage.Memory
argument_fault _ = usage.Words

-- The arguments as texts, or the fault if the system returned no arguments.
abbrev pub arguments_given : {Z : Type 0}
    → Result (IntoIter (String Z) Z) Error → Result (List Text) UsageFault
arguments_given (Ok arguments) = Ok (map string_bytes (into_iter_items arguments))
arguments_given (Err error) = Err (argument_fault (error_kind error))

-- The fault if the arguments are not parsed: memory ran out, or the system returned no arguments.
abbrev pub IsUnparsedFault : Result (List Text) UsageFault → UsageFault → Type 0
IsUnparsedFault (Ok arguments) fault = fault ≡ usage.Memory
IsUnparsedFault (Err why) fault = fault ≡ why
