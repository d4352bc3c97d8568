-- The output if the source of a listing failed: everything before the line about the failure was
-- flushed.
use Rattle.std.specs.Prelude.{◌≡◌, ℕ, Bool, List, Option}
use Rattle.sub_io.specs.Calls.{PutsByPushes}
use Rattle.sub_io.specs.Device.{AppendsPrefix}
use Rattle.sub_listing.specs.FaultLine.{text_of_fault_line}
use Rattle.sub_listing.specs.declared.fault_line.FaultLine.{FaultLine}

-- If `ok`, exactly this line was written; otherwise the sink failed and received a prefix of the
-- line.
pub record PutsLine
    {K : Type 0} (contents : K → Option (List ℕ)) (IsPush : K → List ℕ → Option ℕ → K → Type 0)
    (old : K) (line : List ℕ) (new : K) : Type 0 where
  pub ok : Bool
  pub calls : PutsByPushes IsPush old line ok new
  pub bytes : AppendsPrefix (contents old) (contents new) line

-- Everything before the last line was flushed, and since then only that line, or a prefix of it,
-- was written.
pub record BuffersLastLineOnly
    {K : Type 0} (contents : K → Option (List ℕ)) (buffered : K → ℕ)
    (IsPush : K → List ℕ → Option ℕ → K → Type 0) (new : K) : Type 0 where
  pub before : K
  pub settled : buffered before ≡ 0
  pub reported : FaultLine
  pub line : PutsLine contents IsPush before (text_of_fault_line reported) new

-- The text is the line of a fault, and everything before it was flushed.
pub record IsOnlyFaultLine (buffered : ℕ) (text : List ℕ) : Type 0 where
  pub settled : buffered ≡ 0
  pub reported : FaultLine
  pub line : text ≡ text_of_fault_line reported
