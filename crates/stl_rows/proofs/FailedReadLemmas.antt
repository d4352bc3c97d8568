-- If the source fails, exactly the faults that are found before the block of the failure have been
-- reported.
use Rattle.std.proofs.Common.{◌≡◌, ℕ, ◌+◌, ◌*◌, ◌/◌, List, ◌∷◌, ◌++◌, length, Option, [], Some}
use Rattle.std.proofs.Common.{Result, true, refl, arith, length-append}
use Rattle.std.specs.Prelude.{is_ok}
use Rattle.std.specs.Io.KnownBytes.{Consumes}
use Rattle.std.specs.List.{All, filter}
use Rattle.std.proofs.KnownBytes.{Consumes-trans}
use Rattle.std.proofs.lemmas.Bool.Decides.{nat_tests}
use Rattle.sub_io.specs.Reporting.{Reports}
use Rattle.sub_io.proofs.ReportingLemmas.{Reports-none}
use Rattle.stl_file.specs.declared.fault.StlFault.{StlFault}
use Rattle.stl_file.specs.declared.resuming.Found.{Found}
use Rattle.stl_file.specs.declared.scope.Scope.{Scope}
use Rattle.stl_file.specs.Subtitle.{SubtitleValue}
use Rattle.stl_file.specs.Reading.{StartedSubtitle, findings_from}
use Rattle.stl_file.specs.Reader.{FailsReading, FindsFrom, block_of_byte}
use Rattle.stl_file.specs.Resuming.{LeadsToResult, ResumingValue}
use Rattle.stl_rows.specs.declared.layout.Drawing.{Drawing}
use Rattle.stl_rows.specs.declared.fault.LoadFault.{LoadFault}
use Rattle.stl_rows.specs.declared.times.Times.{Times}
use Rattle.stl_rows.specs.EveryFault.{FailsReporting, faults, is_reported_before}
use Rattle.stl_rows.specs.Keeping.{KeptRecords}
use Rattle.stl_rows.proofs.LoadingLemmas.{LoadingInvariant, IsReportedUpToBlock, reports-unread}

-- The GSI block and `block` TTI blocks have been read completely.
pub record HasConsumedBlocks (old now : Option (List ℕ)) (block : ℕ) : Type 0 where
  pub bytes : List ℕ
  pub consumed : Consumes old now bytes
  pub long : length bytes ≡ 1024 + 128 * block

pub has_taken-next : {old mid now : Option (List ℕ)} {scope : Scope} {from to : ℕ}
    {refused next : Option StartedSubtitle} {t : SubtitleValue} {result : Result Found StlFault}
    → LeadsToResult scope from to refused next mid now t result
    → is_ok result ≡ true
    → HasConsumedBlocks old mid from
    → HasConsumedBlocks old now to
has_taken-next {old} {mid} {now} l goes h =
    grind (arith, nat_tests, Consumes-trans, length-append)

consumed_bytes_leave_rest : (rest : List ℕ) (new : Option (List ℕ)) (bytes : List ℕ)
    → Consumes (Some rest) new bytes
    → (more : List ℕ) × (rest ≡ bytes ++ more)
consumed_bytes_leave_rest rest new bytes p = grind (arith, nat_tests)

block-is : (bytes more : List ℕ) (from to : ℕ)
    → length bytes ≡ 1024 + 128 * from
    → to ≡ from + length more / 128 + 1
    → to ≡ block_of_byte (length (bytes ++ more))
block-is bytes more from to long at = grind (arith, nat_tests, length-append bytes more)

no_fault_before_block_0 : (all : List LoadFault) → filter (is_reported_before 0) all ≡ []
no_fault_before_block_0 [] = refl
no_fault_before_block_0 (f ∷ fs) = grind
    (arith, nat_tests, no_fault_before_block_0 fs)

-- If the source fails while a subtitle is read, exactly the faults that are found before the block
-- of the failure have been reported.
pub fails-next : {drawing : Drawing} {start old new : Option (List ℕ)} {before : Option Times}
    {kept : KeptRecords} {early : List LoadFault} {D : Type 0}
    {IsReported : D → LoadFault → D → Type 0} {reported_old reported_new : D} {scope : Scope}
    (reader : ResumingValue) {block : ℕ}
    → HasConsumedBlocks start old reader.block
    → All (IsReportedUpToBlock reader.block) early
    → Reports IsReported reported_old reported_new early
    → ((all : List ℕ) → start ≡ Some all → (rest : List ℕ) × (old ≡ Some rest)
    × LoadingInvariant drawing all (findings_from scope reader.block reader.refused rest) before
    kept early)
    → FailsReading scope reader.block block reader.refused old new
    → FailsReporting drawing start new IsReported reported_old reported_new block
fails-next {start = start} {old} {new} {scope = scope} reader {block} taken early_reported reported
    goes
    failed =
    record {
      bytes = taken.bytes ++ failed.bytes;
      consumed =
          Consumes-trans start old new taken.bytes failed.bytes taken.consumed failed.consumed;
      block_eq = block-is taken.bytes failed.bytes reader.block block taken.long failed.block;
      reported = λ all is.
          let progress = goes all is in
          let left =
          consumed_bytes_leave_rest progress.0 new failed.bytes
          (rw progress.1 at failed.consumed) in
          let names : FindsFrom block (findings_from scope reader.block reader.refused
          progress.0) =
          rw left.1 (failed.none left.0) in
          reports-unread reader.block block (omega (arith, failed.block)) early_reported names
          progress.2
          reported;
    }

-- No fault is reported before block 0, the GSI block. So if the source fails within the GSI block,
-- no fault has been reported.
pub reads-nothing : (drawing : Drawing) (file : List ℕ)
    {D : Type 0} {IsReported : D → LoadFault → D → Type 0} (reported : D)
    → Reports IsReported reported reported (filter (is_reported_before 0) (faults drawing file))
reads-nothing drawing file reported = grind (
  arith,
  nat_tests,
  no_fault_before_block_0,
  Reports-none,
)
