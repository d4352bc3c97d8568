use Rattle.std.proofs.Common.{◌∷◌, [], None, Some, refl}
use Rattle.sub_files.specs.FileCalls.FileCall.{Open}
use Rattle.sub_files.proofs.opening.open.Goals as goal

pub returns-in-Some-clause-calls : goal.returns-in-Some-clause-calls
returns-in-Some-clause-calls g c =
    rw c.in-ReadStl.is (record {
      calls = Open c.in-ReadStl.stl (Some c.in-Some.file) ∷ [];
      calls_were_made = (c.open_stl.new.files, rw c.in-Some.is at c.open_stl.ensures.call, refl);
      opens = (refl, refl);
    })

pub returns-in-None-open_stl-clause-calls : goal.returns-in-None-open_stl-clause-calls
returns-in-None-open_stl-clause-calls g c =
    rw c.in-ReadStl.is (record {
      calls = Open c.in-ReadStl.stl None ∷ [];
      calls_were_made = (
        c.open_stl.new.files,
        rw c.in-None-open_stl.is at c.open_stl.ensures.call,
        refl,
      );
      opens = (refl, refl);
    })

pub returns-in-Some-open_pes-clause-calls : goal.returns-in-Some-open_pes-clause-calls
returns-in-Some-open_pes-clause-calls g c =
    rw c.in-ReadPes.is (record {
      calls = Open c.in-ReadPes.pes (Some c.in-Some-open_pes.file) ∷ [];
      calls_were_made = (
        c.open_pes.new.files,
        rw c.in-Some-open_pes.is at c.open_pes.ensures.call,
        refl,
      );
      opens = (refl, refl);
    })

pub returns-in-None-open_pes-clause-calls : goal.returns-in-None-open_pes-clause-calls
returns-in-None-open_pes-clause-calls g c =
    rw c.in-ReadPes.is (record {
      calls = Open c.in-ReadPes.pes None ∷ [];
      calls_were_made = (
        c.open_pes.new.files,
        rw c.in-None-open_pes.is at c.open_pes.ensures.call,
        refl,
      );
      opens = (refl, refl);
    })
