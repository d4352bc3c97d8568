-- The files that a request reads and writes, in the order of its arguments.
use Rattle.std.specs.Prelude.{Bool, true, false}
use Rattle.sub_request.specs.declared.files.FileNames.{FileNames}
use Rattle.sub_request.specs.declared.files.FileNames.TheVariants as files
use Rattle.sub_request.specs.declared.request.Request.{Request}
use Rattle.sub_request.specs.declared.request.Request.TheVariants as ask

-- The files that a request reads, in the order of its arguments, and the file that it writes.
abbrev pub files_of_request : Request → FileNames
files_of_request ask.Help = files.None
files_of_request ask.Version = files.None
files_of_request (ask.Packet bytes) = files.None
files_of_request (ask.Packets pes) = files.ReadPes pes.name.now
files_of_request (ask.Show stl) = files.ReadStl stl.now
files_of_request (ask.Normal stl normal) = files.Write stl.now normal.now
files_of_request (ask.Schedule stl pes options serial national layout scope) = files.Write stl.now
    pes.now
files_of_request (ask.Check stl pes options national layout scope all) =
    files.ReadBoth stl.now pes.name.now
files_of_request (ask.Listen pes listening) = files.ReadPes pes.name.now
files_of_request (ask.Extract recording pes stream) = files.Extract recording.now pes.now
files_of_request (ask.Survey recording options) = files.ReadPes recording.now

-- The request reads at least one file.
abbrev pub reads_input : FileNames → Bool
reads_input files.None = false
reads_input _ = true

-- The request reads two files.
abbrev pub reads_two_files : FileNames → Bool
reads_two_files (files.ReadBoth first second) = true
reads_two_files _ = false

-- The request writes a file.
abbrev pub writes_file : FileNames → Bool
writes_file (files.Write input output) = true
writes_file (files.Extract input output) = true
writes_file _ = false
