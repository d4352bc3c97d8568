-- If a statement about the end of a run is true, it stays true when its properties of the inputs
-- and of the file are replaced by weaker ones. The same applies to a statement about the bytes that
-- were written and flushed before a source failed.
use Rattle.std.proofs.lemmas.Bool.Decides.{nat_tests}
use Rattle.std.proofs.Common.{arith}
use Rattle.std.proofs.Common.{◌≡◌, ◌∙◌, ap, refl, subst, ℕ, List, [], ◌∷◌, ◌++◌}
use Rattle.std.proofs.Common.{Bool, Option, Some, false, true, if◌then◌else◌, length, sym}
use Rattle.std.specs.Prelude.{⊤}
use Rattle.std.proofs.lemmas.Bool.{true≢false}
use Rattle.sub_answer.specs.Answering.{Answers, FlushesBeforeRead, InputCall, WritesBeforeRead}
use Rattle.sub_answer.specs.Answering.{fails}
use Rattle.sub_answer.specs.Answering.{first_input, input_call, reads_pes_packets}
use Rattle.sub_answer.specs.Part.{IsPartOf, entire_file}
use Rattle.sub_answer.proofs.BothFilesLemmas.{sources-untouched}
use Rattle.sub_files.specs.FileCalls.{CallsInOrder, FileCall}
use Rattle.sub_listing.specs.DeviceCall.{SinkCall}
use Rattle.sub_listing.specs.LastLine.{BuffersLastLineOnly}
use Rattle.sub_listing.specs.declared.status.Status.{Status}
use Rattle.sub_request.specs.declared.request.Request.{Request}
use Rattle.sub_request.specs.declared.request.Request.TheVariants as ask
use Rattle.ttx_pes.specs.Advancing.{buffered_before_known}
use Rattle.sub_answer.specs.Ending.{BufferedSinkState, BuffersOneLineOnly, EndsWith, IsEmptySource}
use Rattle.sub_answer.specs.Ending.{state_of_sink}

untouched :
    (request : Request) (first second : InputCall) (Untouched Other : Type 0) (file out : SinkCall)
    (status : Status)
    → (Untouched → Other)
    → Answers request first second Untouched file out status
    → Answers request first second Other file out status
untouched request first second Untouched Other file out status other is =
    grind (arith, nat_tests, sources-untouched)

pub answers_second :
    (request : Request) (first second pes_packets : InputCall) (Untouched Other : Type 0)
    (file out : SinkCall) (status : Status)
    → reads_pes_packets request ≡ false
    → pes_packets ≡ second
    → (Untouched → Other)
    → Answers request (first_input request first pes_packets) pes_packets Untouched file out status
    → Answers request first second Other file out status
answers_second request first second pes_packets Untouched Other file out status source same other
    is =
    untouched request first second Untouched Other file out status other
    (subst (λ (p : InputCall). Answers request first p Untouched file out status) same
    (subst (λ (b : Bool). Answers request (if b then pes_packets else first) pes_packets Untouched
    file out
    status) source is))

pub first_input_is_source : (request : Request) (source pes_packets : InputCall) → reads_pes_packets
    request
    ≡ false
    → first_input request source pes_packets ≡ source
first_input_is_source request source pes_packets is =
    subst (λ (b : Bool). (if b then pes_packets else source) ≡ source) (sym is) refl

pub first_input_is_pes_packets : (request : Request) (source pes_packets : InputCall)
    → reads_pes_packets request ≡ true
    → first_input request source pes_packets ≡ pes_packets
first_input_is_pes_packets request source pes_packets is =
    subst (λ (b : Bool). (if b then pes_packets else source) ≡ pes_packets) (sym is) refl

both_inputs_are_empty : (b : Bool) (source pes_packets : InputCall)
    → source.call.known ≡ Some []
    → pes_packets.call.known ≡ Some []
    → (if b then pes_packets else source).call.known ≡ Some []
both_inputs_are_empty true source pes_packets h1 h2 = h2
both_inputs_are_empty false source pes_packets h1 h2 = h1

pub first_input_is_empty : (request : Request) (source pes_packets input : InputCall)
    → input ≡ first_input request source pes_packets
    → source.call.known ≡ Some []
    → pes_packets.call.known ≡ Some []
    → input.call.known ≡ Some []
first_input_is_empty request source pes_packets input is h1 h2 =
    subst (λ (i : InputCall). i.call.known ≡ Some []) (sym is)
    (both_inputs_are_empty (reads_pes_packets request) source pes_packets h1 h2)

pub empty_buffer_leaves_no_bytes : (buffered bytes : List ℕ) → buffered ≡ [] → bytes ≡ []
    → buffered_before_known buffered (Some bytes) ≡ Some []
empty_buffer_leaves_no_bytes buffered bytes none empty = rw (none, empty) refl

abbrev nothing : InputCall
nothing = record {
  call = record { known = Some []; left = Some []; old_count = 0; new_count = 0 };
  number = record { known = Some 0; left = Some 0; skipped = 0 };
}

answer_ignores_second :
    (request : Request) (first second other : InputCall) (Untouched Other : Type 0)
    (file out : SinkCall) (status : Status)
    → reads_pes_packets request ≡ true
    → Answers request first second Untouched file out status
    → Answers request first other Other file out status
answer_ignores_second (ask.Packets pes) first second other U V file out status reads is = is
answer_ignores_second (ask.Listen pes listening) first second other U V file out status reads
    is = is
answer_ignores_second (ask.Extract recording pes stream) first second other U V file out status
    reads is = is
answer_ignores_second ask.Help first second other U V file out status reads is =
    absurd (true≢false (sym reads))
answer_ignores_second ask.Version first second other U V file out status reads is =
    absurd (true≢false (sym reads))
answer_ignores_second (ask.Packet bytes) first second other U V file out status reads is =
    absurd (true≢false (sym reads))
answer_ignores_second (ask.Show stl) first second other U V file out status reads is =
    absurd (true≢false (sym reads))
answer_ignores_second (ask.Normal input output) first second other U V file out status reads is =
    absurd (true≢false (sym reads))
answer_ignores_second
    (ask.Schedule stl pes options serial national layout scope) first second other U V file out
    status reads is =
    absurd (true≢false (sym reads))
answer_ignores_second
    (ask.Check stl pes options national layout scope all) first second other U V file out status
    reads is =
    absurd (true≢false (sym reads))
answer_ignores_second (ask.Survey recording options) first second other U V file out status reads
    is =
    absurd (true≢false (sym reads))

flush_ignores_second :
    (request : Request) (First Second Other IsAlone : Type 0)
    → reads_pes_packets request ≡ true
    → FlushesBeforeRead request First Second IsAlone
    → FlushesBeforeRead request First Other IsAlone
flush_ignores_second (ask.Packets pes) First Second Other IsAlone reads is = is
flush_ignores_second (ask.Listen pes listening) First Second Other IsAlone reads is = tt
flush_ignores_second (ask.Extract recording pes stream) First Second Other IsAlone reads is = tt
flush_ignores_second ask.Help First Second Other IsAlone reads is = tt
flush_ignores_second ask.Version First Second Other IsAlone reads is = tt
flush_ignores_second (ask.Packet bytes) First Second Other IsAlone reads is = tt
flush_ignores_second (ask.Show stl) First Second Other IsAlone reads is = tt
flush_ignores_second (ask.Normal input output) First Second Other IsAlone reads is = tt
flush_ignores_second
    (ask.Schedule stl pes options serial national layout scope) First Second Other IsAlone reads
    is =
    tt
flush_ignores_second
    (ask.Check stl pes options national layout scope all) First Second Other IsAlone reads is =
    absurd (true≢false (sym reads))
flush_ignores_second (ask.Survey recording options) First Second Other IsAlone reads is = is

pub ends_alone :
    {IsAlone : BufferedSinkState → Type 0} (request : Request)
    (IsFirst IsSecond IsFirst' : InputCall → Type 0) (Untouched : Type 0)
    (IsFile : InputCall → SinkCall → Type 0) (old new : BufferedSinkState) (result : Status)
    → reads_pes_packets request ≡ true
    → EndsWith request IsFirst IsSecond Untouched IsFile IsAlone old new result
    → ((call : InputCall) → IsFirst call → IsFirst' call)
    → EndsWith request IsFirst' IsEmptySource ⊤ IsFile IsAlone old new result
ends_alone
    request IsFirst IsSecond IsFirst' Untouched IsFile old new result reads is first = record {
      first = is.first;
      first_is = first is.first is.first_is;
      second = nothing;
      second_is = refl;
      file = is.file;
      file_is = is.file_is;
      status = is.status;
      printed = is.printed;
      answers =
          answer_ignores_second request is.first is.second nothing Untouched ⊤ is.file _ is.status
          reads
          is.answers;
      followed =
          λ none.
          flush_ignores_second request (fails is.first) (fails is.second) (fails nothing) _ reads
          (is.followed none);
      flushed = is.flushed;
    }

pub ends_weaker :
    {IsAlone : BufferedSinkState → Type 0} (request : Request)
    (IsFirst IsSecond IsFirst' IsSecond' : InputCall → Type 0)
    (Untouched Untouched' : Type 0) (IsFile IsFile' : InputCall → SinkCall → Type 0)
    (old new : BufferedSinkState) (result : Status)
    → EndsWith request IsFirst IsSecond Untouched IsFile IsAlone old new result
    → ((call : InputCall) → IsFirst call → IsFirst' call)
    → ((call : InputCall) → IsSecond call → IsSecond' call)
    → (Untouched → Untouched')
    → ((first : InputCall) (call : SinkCall) → IsFile first call → IsFile' first call)
    → EndsWith request IsFirst' IsSecond' Untouched' IsFile' IsAlone old new result
ends_weaker
    request IsFirst IsSecond IsFirst' IsSecond' Untouched Untouched' IsFile IsFile' old new result
    is first second other file = record {
      first = is.first;
      first_is = first is.first is.first_is;
      second = is.second;
      second_is = second is.second is.second_is;
      file = is.file;
      file_is = file is.first is.file is.file_is;
      status = is.status;
      printed = is.printed;
      answers =
          untouched request is.first is.second Untouched Untouched' is.file _ is.status other
          is.answers;
      followed = is.followed;
      flushed = is.flushed;
    }

zero_length_means_empty : (buffered : List ℕ) → length buffered ≡ 0 → buffered ≡ []
zero_length_means_empty [] is = refl
zero_length_means_empty (byte ∷ more) is = grind (arith, nat_tests)

flushes_before_implies :
    (request : Request) (First First' Second Second' IsAlone IsAlone' : Type 0)
    → (First' → First)
    → (Second' → Second)
    → (IsAlone → IsAlone')
    → FlushesBeforeRead request First Second IsAlone
    → FlushesBeforeRead request First' Second' IsAlone'
flushes_before_implies (ask.Packets pes) F F' S S' A A' first second alone is =
    λ fails. alone (is (first fails))
flushes_before_implies (ask.Survey recording options) F F' S S' A A' first second alone is =
    λ fails. alone (is (first fails))
flushes_before_implies
    (ask.Check stl pes options national layout scope true) F F' S S' A A' first second alone is =
    λ fails. alone (is (second fails))
flushes_before_implies
    (ask.Check stl pes options national layout scope false) F F' S S' A A' first second alone is =
    tt
flushes_before_implies ask.Help F F' S S' A A' first second alone is = tt
flushes_before_implies ask.Version F F' S S' A A' first second alone is = tt
flushes_before_implies (ask.Packet bytes) F F' S S' A A' first second alone is = tt
flushes_before_implies (ask.Show stl) F F' S S' A A' first second alone is = tt
flushes_before_implies (ask.Normal input output) F F' S S' A A' first second alone is = tt
flushes_before_implies
    (ask.Schedule stl pes options serial national layout scope) F F' S S' A A' first second alone
    is =
    tt
flushes_before_implies (ask.Listen pes listening) F F' S S' A A' first second alone is = tt
flushes_before_implies (ask.Extract recording pes stream) F F' S S' A A' first second alone is = tt

writes_before_implies :
    (request : Request) (First First' None None' : Type 0)
    → (First' → First)
    → (None → None')
    → WritesBeforeRead request First None
    → WritesBeforeRead request First' None'
writes_before_implies (ask.Extract recording pes stream) F F' N N' first none is =
    λ fails. none (is (first fails))
writes_before_implies ask.Help F F' N N' first none is = tt
writes_before_implies ask.Version F F' N N' first none is = tt
writes_before_implies (ask.Packet bytes) F F' N N' first none is = tt
writes_before_implies (ask.Packets pes) F F' N N' first none is = tt
writes_before_implies (ask.Show stl) F F' N N' first none is = tt
writes_before_implies (ask.Normal input output) F F' N N' first none is = tt
writes_before_implies (ask.Schedule stl pes options serial national layout scope) F F' N N' first
    none is = tt
writes_before_implies (ask.Check stl pes options national layout scope all) F F' N N' first none
    is = tt
writes_before_implies (ask.Listen pes listening) F F' N N' first none is = tt
writes_before_implies (ask.Survey recording options) F F' N N' first none is = tt

pub written_before :
    (request : Request) (Fails : Type 0) (old new : List ℕ)
    → old ≡ []
    → WritesBeforeRead request Fails (length old ≡ 0 → length new ≡ 0)
    → WritesBeforeRead request Fails (new ≡ [])
written_before request Fails old new none is =
    writes_before_implies request Fails Fails _ _ (λ f. f) (λ so. zero_length_means_empty new
    (so (ap length none))) is

equal_inputs_fail_equally : (input other : InputCall) → input ≡ other → fails other → fails input
equal_inputs_fail_equally input other same is = subst (λ (i : InputCall). fails i) (sym same) is

pub followed_with_file :
    (request : Request) (first pes_packets : InputCall) (SecondFails None IsAlone : Type 0)
    → reads_pes_packets request ≡ false
    → (SecondFails → fails pes_packets)
    → FlushesBeforeRead request (fails (first_input request first pes_packets)) (fails pes_packets)
    (None → IsAlone)
    → None
    → FlushesBeforeRead request (fails first) SecondFails IsAlone
followed_with_file request first pes_packets SecondFails None IsAlone source second is none =
    flushes_before_implies request
    _ _ _ _ _ _ (equal_inputs_fail_equally _ _ (first_input_is_source request first pes_packets
    source))
    second (λ so. so none) is

pub written_with_file :
    (request : Request) (first pes_packets : InputCall) (Before None : Type 0)
    → reads_pes_packets request ≡ false
    → WritesBeforeRead request (fails (first_input request first pes_packets)) (Before → None)
    → Before
    → WritesBeforeRead request (fails first) None
written_with_file request first pes_packets Before None source is none =
    writes_before_implies request
    _ _ _ _ (equal_inputs_fail_equally _ _ (first_input_is_source request first pes_packets source))
    (λ so. so none) is

followed_pes_packets :
    (request : Request) (Second Other None IsAlone First : Type 0)
    → reads_pes_packets request ≡ true
    → FlushesBeforeRead request First Second (None → IsAlone)
    → None
    → FlushesBeforeRead request First Other IsAlone
followed_pes_packets request Second Other None IsAlone First reads is none =
    flushes_before_implies request First First Other Other (None → IsAlone) IsAlone (λ f. f)
    (λ f. f)
    (λ so. so none) (flush_ignores_second request First Second Other (None → IsAlone) reads is)

pub followed_of_pes_packets :
    (request : Request) (source pes_packets : InputCall) (FirstFails Second None IsAlone : Type 0)
    → reads_pes_packets request ≡ true
    → (FirstFails → fails pes_packets)
    → FlushesBeforeRead request (fails (first_input request source pes_packets)) (fails pes_packets)
    (None → IsAlone)
    → None
    → FlushesBeforeRead request FirstFails Second IsAlone
followed_of_pes_packets request source pes_packets FirstFails Second None IsAlone reads first is
    none =
    followed_pes_packets request (fails pes_packets) Second None IsAlone FirstFails reads
    (flushes_before_implies request _ _ _ _ _ _
    (λ f. equal_inputs_fail_equally _ _
    (first_input_is_pes_packets request source pes_packets reads) (first f))
    (λ f. f)
    (λ so. so) is)
    none

pub written_of_pes_packets :
    (request : Request) (source pes_packets : InputCall) (FirstFails Before None : Type 0)
    → reads_pes_packets request ≡ true
    → (FirstFails → fails pes_packets)
    → WritesBeforeRead request (fails (first_input request source pes_packets)) (Before → None)
    → Before
    → WritesBeforeRead request FirstFails None
written_of_pes_packets request source pes_packets FirstFails Before None reads first is none =
    writes_before_implies request _ _ _ _
    (λ f. equal_inputs_fail_equally _ _
    (first_input_is_pes_packets request source pes_packets reads) (first f))
    (λ so. so none) is

pub followed_before :
    {O : Type 0} (contents : O → Option (List ℕ)) (buffer_state : O → List ℕ)
    (buffered failure_count : O → ℕ)
    (IsPush : O → List ℕ → Option ℕ → O → Type 0) (old new : O)
    → ((o : O) → buffered o ≡ length (buffer_state o))
    → (request : Request) (First Second : Type 0)
    → FlushesBeforeRead request First Second
    (buffered old ≡ 0 → BuffersLastLineOnly contents buffered IsPush new)
    → buffer_state old ≡ []
    → FlushesBeforeRead request First Second
    (BuffersOneLineOnly contents buffer_state failure_count IsPush
    (state_of_sink contents buffer_state failure_count new))
followed_before
    contents buffer_state buffered failure_count IsPush old new law request First Second is none =
    flushes_before_implies request First First Second Second _ _ (λ f. f) (λ f. f)
    (λ so.
    let last = so (law old ∙ ap length none) in
    record {
      sink = new;
      state_is = refl;
      last = record {
        before = last.before;
        settled = sym (law last.before) ∙ last.settled;
        reported = last.reported;
        line = last.line;
      };
    })
    is

pub entire_source_is_entire_part : {D : Type 0} (remaining : D → Option (List ℕ))
    (failure_count : D → ℕ)
    (old new : D) (input : InputCall)
    → input ≡ input_call remaining failure_count (λ s. Some 0) (λ s. 0) old new
    → IsPartOf entire_file remaining failure_count old new input
entire_source_is_entire_part remaining failure_count old new input is = grind (arith, nat_tests)

pub call_sequences_join : {I O D : Type 0} (IsCall : D → FileCall I O → D → Type 0)
    (old mid new : D)
    (calls more : List (FileCall I O))
    → CallsInOrder IsCall old mid calls
    → CallsInOrder IsCall mid new more
    → CallsInOrder IsCall old new (calls ++ more)
call_sequences_join IsCall old mid new [] more made after =
    subst (λ d. CallsInOrder IsCall d new more) made after
call_sequences_join IsCall old mid new (call ∷ calls) more (next, is, made) after =
    (next, is, call_sequences_join IsCall next mid new calls more made after)
