-- Storing the file does not change the bytes written to it. If the file could not be stored, it
-- received a prefix of the bytes.
use Rattle.sub_listing.proofs.ExtractingLemmas.{extracted-stored, extracted-lost}
use Rattle.sub_listing.proofs.extract.write_pes_packets.Goals as goal

pub returns-in-Ok-store-clause-extracts : goal.returns-in-Ok-store-clause-extracts
returns-in-Ok-store-clause-extracts g c =
    extracted-stored _ _ _ _ c.in-Ok.extracted c.in-Ok.ensures.extracts c.in-Ok-store.ensures.bytes

pub returns-in-Err-store-clause-extracts : goal.returns-in-Err-store-clause-extracts
returns-in-Err-store-clause-extracts g c =
    extracted-lost _ _ _ _ c.in-Ok.extracted c.in-Ok.ensures.extracts c.in-Err-store.ensures.bytes
