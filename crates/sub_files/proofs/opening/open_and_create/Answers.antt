use Rattle.std.proofs.Common.{◌∷◌, [], None, Some, refl}
use Rattle.sub_files.specs.FileCalls.FileCall.{Open}
use Rattle.sub_files.specs.declared.opening.OpenedFiles.TheVariants.{Write}
use Rattle.sub_files.proofs.CreatingLemmas.{creates}
use Rattle.sub_files.proofs.opening.open_and_create.Goals as goal

pub returns-in_default-clause-calls : goal.returns-in_default-clause-calls
returns-in_default-clause-calls g c = record {
  calls = Open c.args.stl.now None ∷ [];
  calls_were_made = (c.open_stl.new.files, rw c.in_default.is at c.open_stl.ensures.call, refl);
  opens = (refl, refl);
}

pub returns-in-Some-create_distinct_file-clause-calls :
    goal.returns-in-Some-create_distinct_file-clause-calls
returns-in-Some-create_distinct_file-clause-calls g c =
    let created = creates g.D.FileSystem.is_call Write c.args.files.now c.open_stl.new.files
    c.look_up_all-found.new.files c.create_distinct_file.new.files c.args.stl.now c.args.output.now
    c.in-Some.input c.look_up_all-found.result
    (Some c.in-Some-create_distinct_file.created) (rw c.in-Some.is at c.open_stl.ensures.call)
    (rw c.name.ensures at c.look_up_all-found.ensures)
    c.in-Some-create_distinct_file.ensures.distinct_files
    c.in-Some-create_distinct_file.ensures.refuses_overwriting in
    record { calls = created.0; calls_were_made = created.1; opens = created.2 }

pub returns-in-None-clause-calls : goal.returns-in-None-clause-calls
returns-in-None-clause-calls g c =
    let created = creates g.D.FileSystem.is_call Write c.args.files.now c.open_stl.new.files
    c.look_up_all-found.new.files c.create_distinct_file.new.files c.args.stl.now c.args.output.now
    c.in-Some.input c.look_up_all-found.result None
    (rw c.in-Some.is at c.open_stl.ensures.call)
    (rw c.name.ensures at c.look_up_all-found.ensures)
    c.in-None.ensures.distinct_files c.in-None.ensures.refuses_overwriting in
    record { calls = created.0; calls_were_made = created.1; opens = created.2 }
