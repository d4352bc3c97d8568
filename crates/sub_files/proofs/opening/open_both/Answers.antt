use Rattle.std.proofs.Common.{◌∷◌, [], None, Some, refl}
use Rattle.sub_files.specs.FileCalls.FileCall.{Open}
use Rattle.sub_files.proofs.opening.open_both.Goals as goal

pub returns-in_default-clause-calls : goal.returns-in_default-clause-calls
returns-in_default-clause-calls g c = record {
  calls = Open c.args.stl.now None ∷ [];
  calls_were_made = (c.open_stl.new.files, rw c.in_default.is at c.open_stl.ensures.call, refl);
  opens = (refl, refl);
}

pub returns-in-Some-open_pes-clause-calls : goal.returns-in-Some-open_pes-clause-calls
returns-in-Some-open_pes-clause-calls g c = record {
  calls =
      Open c.args.stl.now (Some c.in-Some.first)
      ∷ Open c.args.pes.now (Some c.in-Some-open_pes.second)
      ∷ [];
  calls_were_made = (
    c.open_stl.new.files,
    rw c.in-Some.is at c.open_stl.ensures.call,
    (c.open_pes.new.files, rw c.in-Some-open_pes.is at c.open_pes.ensures.call, refl),
  );
  opens = (refl, refl, refl);
}

pub returns-in-None-clause-calls : goal.returns-in-None-clause-calls
returns-in-None-clause-calls g c = record {
  calls = Open c.args.stl.now (Some c.in-Some.first) ∷ Open c.args.pes.now None ∷ [];
  calls_were_made = (
    c.open_stl.new.files,
    rw c.in-Some.is at c.open_stl.ensures.call,
    (c.open_pes.new.files, rw c.in-None.is at c.open_pes.ensures.call, refl),
  );
  opens = (refl, refl, refl);
}
