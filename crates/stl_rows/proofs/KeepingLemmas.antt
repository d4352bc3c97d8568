-- The reliable subtitles of a file are the subtitles kept so far, followed by the reliable
-- subtitles of the rest. The last kept subtitle is left out if the next subtitle is compared with
-- it and is not in order with it.
use Rattle.std.proofs.Common.{◌≡◌, ℕ, zero, suc, ◌+◌, ◌-◌, ◌<◌, ◌≤◌, Bool, false, true, List, []}
use Rattle.std.proofs.Common.{◌∷◌, ◌++◌, length, take, drop, map, replicate, Option, Some, None}
use Rattle.std.proofs.Common.{refl, sym}
use Rattle.std.proofs.Common.{◌∙◌, ap, arith, inl, inr, append_assoc, append-nil, get_or}
use Rattle.std.proofs.Common.{length-append, length-take}
use Rattle.std.proofs.lemmas.List.{length-replicate}
use Rattle.std.proofs.Math.Seq.{drop-cons, take-append_seam}
use Rattle.std.proofs.lemmas.Bool.{cases_Bool}
use Rattle.std.proofs.lemmas.Bool.Decides.{nat_tests}
use Rattle.std.proofs.lemmas.List.Elements.{All-push, All-take}
use Rattle.std.specs.Prelude.{All, IsOk, is_some, option_map, ◌&&◌, not, nat_lt, is_none}
use Rattle.std.specs.Prelude.{if◌then◌else◌}
use Rattle.stl_file.specs.Reading.{Findings, finds, no_more, refuses}
use Rattle.stl_file.specs.Subtitle.{IsSubtitle, SubtitleValue}
use Rattle.stl_file.specs.declared.fault.StlFault.{StlFault}
use Rattle.stl_rows.specs.declared.fault.LoadFault.{LoadFault}
use Rattle.stl_rows.specs.declared.fault.LoadFaultKind.{LoadFaultKind}
use Rattle.stl_rows.specs.declared.layout.Drawing.{Drawing}
use Rattle.stl_rows.specs.declared.times.Times.{Times}
use Rattle.stl_rows.specs.Judged.{ReliableSubtitles, ReliableSubtitle, are_in_order}
use Rattle.stl_rows.specs.Judged.{is_followed_in_order}
use Rattle.stl_rows.specs.Judged.{with_judged_in_front, judged_after, start_no_earlier_than}
use Rattle.stl_rows.specs.Judged.{judged_subtitles_with_bits}
use Rattle.stl_rows.specs.Keeping.{KeptRecords, all_kept, records_after_subtitle, no_subtitles_yet}
use Rattle.stl_rows.specs.Keeping.{after_rejected_subtitle}
use Rattle.stl_rows.specs.EveryFault.{load_fault}
use Rattle.stl_rows.specs.Keeping.{has_no_bits, bits_with_next, is_checkable, are_all_kept}
use Rattle.stl_rows.specs.Keeping.{after_faulty_subtitle, after_kept_subtitle, without_last_kept}
use Rattle.stl_rows.specs.Programme.{AreInOrder, IsProgramme, faults_of_next_subtitle, order_faults}
use Rattle.stl_rows.specs.Programme.{row_faults, times_before, times_of}
use Rattle.stl_rows.proofs.FaultlessLemmas.{empty_append_has_empty_parts}
use Rattle.stl_rows.proofs.ProgrammeLemmas.{IsProgramme-push, draws_without_faults}
use Rattle.stl_rows.proofs.ProgrammeLemmas.{last_element-push}
use Rattle.stl_rows.specs.DrawnPage.{drawn}
use Rattle.stl_rows.specs.TextCode.{first_of}

abbrev with_bit : SubtitleValue → Bool → ReliableSubtitle
with_bit t bit = record { subtitle = t; is_after_unreliable = bit }

taking_from_empty_is_empty : (n : ℕ) → take {A = Bool} n [] ≡ []
taking_from_empty_is_empty zero = refl
taking_from_empty_is_empty (suc n) = refl

pub judged_subtitles_with_bits-set : (ts : List SubtitleValue) (bits : List Bool)
    (t : SubtitleValue)
    → judged_subtitles_with_bits (ts ++ t ∷ [])
    (take (length ts) bits ++ (replicate (length ts - length bits) false ++ true ∷ []))
    ≡ judged_subtitles_with_bits ts bits ++ with_bit t true ∷ []
judged_subtitles_with_bits-set [] bits t =
    let none : 0 - length bits ≡ 0 = omega arith in
    rw none refl
judged_subtitles_with_bits-set (s ∷ ts) [] t =
    let rest = judged_subtitles_with_bits-set ts [] t in
    let left : suc (length ts) - 0 ≡ suc (length ts) = omega arith in
    let same : length ts - 0 ≡ length ts = omega arith in
    rw left (ap (λ (l : List ReliableSubtitle). with_bit s false ∷ l)
    (rw (same, taking_from_empty_is_empty (length ts)) at rest))
judged_subtitles_with_bits-set (s ∷ ts) (bit ∷ bits) t =
    let left : suc (length ts) - suc (length bits) ≡ length ts - length bits = omega arith in
    rw left (ap (λ (l : List ReliableSubtitle). with_bit s bit ∷ l)
    (judged_subtitles_with_bits-set ts bits t))

pub judged_subtitles_with_bits-unset : (ts : List SubtitleValue) (bits : List Bool)
    (t : SubtitleValue)
    → length bits ≤ length ts
    → judged_subtitles_with_bits (ts ++ t ∷ []) bits ≡ judged_subtitles_with_bits ts bits ++
    with_bit t false ∷ []
judged_subtitles_with_bits-unset [] [] t fits = refl
judged_subtitles_with_bits-unset [] (bit ∷ bits) t fits = absurd (omega arith)
judged_subtitles_with_bits-unset (s ∷ ts) [] t fits =
    ap (λ (l : List ReliableSubtitle). with_bit s false ∷ l)
    (judged_subtitles_with_bits-unset ts [] t (omega arith))
judged_subtitles_with_bits-unset (s ∷ ts) (bit ∷ bits) t fits =
    ap (λ (l : List ReliableSubtitle). with_bit s bit ∷ l)
    (judged_subtitles_with_bits-unset ts bits t (omega arith))

pub judged_subtitles_with_bits-take : (n : ℕ) (ts : List SubtitleValue) (bits : List Bool)
    → judged_subtitles_with_bits (take n ts) (take n bits) ≡ take n (judged_subtitles_with_bits ts
    bits)
judged_subtitles_with_bits-take zero ts bits = refl
judged_subtitles_with_bits-take (suc n) [] bits = refl
judged_subtitles_with_bits-take (suc n) (s ∷ ts) [] =
    ap (λ (l : List ReliableSubtitle). with_bit s false ∷ l)
    (rw (taking_from_empty_is_empty n) at (judged_subtitles_with_bits-take n ts []))
judged_subtitles_with_bits-take (suc n) (s ∷ ts) (bit ∷ bits) =
    ap (λ (l : List ReliableSubtitle). with_bit s bit ∷ l)
    (judged_subtitles_with_bits-take n ts bits)

pub judged_subtitles_with_bits-subtitles : (ts : List SubtitleValue) (bits : List Bool)
    → map (λ (j : ReliableSubtitle). j.subtitle) (judged_subtitles_with_bits ts bits) ≡ ts
judged_subtitles_with_bits-subtitles [] bits = refl
judged_subtitles_with_bits-subtitles (s ∷ ts) [] =
    ap (λ (l : List SubtitleValue). s ∷ l) (judged_subtitles_with_bits-subtitles ts [])
judged_subtitles_with_bits-subtitles (s ∷ ts) (bit ∷ bits) =
    ap (λ (l : List SubtitleValue). s ∷ l) (judged_subtitles_with_bits-subtitles ts bits)

start_no_earlier_than-bits : (frame : ℕ) (ts : List SubtitleValue) (bits : List Bool)
    → start_no_earlier_than frame (judged_subtitles_with_bits ts bits) ≡ start_no_earlier_than frame
    (judged_subtitles_with_bits ts [])
start_no_earlier_than-bits frame [] bits = refl
start_no_earlier_than-bits frame (t ∷ ts) [] = refl
start_no_earlier_than-bits frame (t ∷ ts) (bit ∷ bits) = rw (start_no_earlier_than-bits frame ts
    bits) refl

pub in_order-bits : (ts : List SubtitleValue) (bits : List Bool)
    → are_in_order (judged_subtitles_with_bits ts bits) ≡ are_in_order (judged_subtitles_with_bits
    ts [])
in_order-bits [] bits = refl
in_order-bits (t ∷ ts) [] = refl
in_order-bits (t ∷ ts) (bit ∷ bits) =
    rw (start_no_earlier_than-bits t.tco ts bits, in_order-bits ts bits) refl

pub start_no_earlier_than-0 : (js : List ReliableSubtitle) → start_no_earlier_than 0 js ≡ true
start_no_earlier_than-0 [] = refl
start_no_earlier_than-0 (j ∷ js) = grind (arith, nat_tests, start_no_earlier_than-0 js)

start_no_earlier_than-earlier : (early late : ℕ) (js : List ReliableSubtitle)
    → early ≤ late
    → start_no_earlier_than late js ≡ true
    → start_no_earlier_than early js ≡ true
start_no_earlier_than-earlier early late [] le h = refl
start_no_earlier_than-earlier early late (j ∷ js) le h =
    let rest = start_no_earlier_than-earlier early late js le in
    grind (arith, nat_tests)

abbrev pub InOrderFrom : ℕ → List SubtitleValue → Bool
InOrderFrom last ts = start_no_earlier_than last (judged_subtitles_with_bits ts []) && are_in_order
    (judged_subtitles_with_bits ts [])

pub in_order-first : (last : ℕ) (t : SubtitleValue) (ts : List SubtitleValue)
    → t.tci < t.tco
    → nat_lt t.tci last ≡ false
    → InOrderFrom last (t ∷ ts) ≡ InOrderFrom t.tco ts
in_order-first last t ts times from =
    let rest = start_no_earlier_than-earlier last t.tco (judged_subtitles_with_bits ts []) in
    grind (arith, nat_tests)

pub in_order-early : (last : ℕ) (t : SubtitleValue) (ts : List SubtitleValue)
    → nat_lt t.tci last ≡ true
    → InOrderFrom last (t ∷ ts) ≡ false
in_order-early last t ts early = grind (arith, nat_tests)

pub in_order-next : (last i : ℕ) (ts : List SubtitleValue) (t : SubtitleValue)
    → i < length ts
    → get_or ts i t ≡ t
    → t.tci < t.tco
    → nat_lt t.tci last ≡ false
    → InOrderFrom last (drop i ts) ≡ InOrderFrom t.tco (drop (i + 1) ts)
in_order-next last i ts t inside is times from =
    let next : i + 1 ≡ suc i = omega arith in
    rw (drop-cons ts i t inside, is, next) (in_order-first last t (drop (suc i) ts) times from)

pub in_order-end : (last i : ℕ) (ts : List SubtitleValue) (t : SubtitleValue)
    → i < length ts
    → get_or ts i t ≡ t
    → nat_lt t.tci last ≡ true
    → InOrderFrom last (drop i ts) ≡ false
in_order-end last i ts t inside is early =
    rw (drop-cons ts i t inside, is) (in_order-early last t (drop (suc i) ts) early)

pub in_order-all : (ts : List SubtitleValue) → InOrderFrom 0 ts ≡ are_in_order
    (judged_subtitles_with_bits ts [])
in_order-all ts = rw (start_no_earlier_than-0 (judged_subtitles_with_bits ts [])) refl

starts : (frame : ℕ) (ts : List SubtitleValue) (bits : List Bool) (i : ℕ) (d : SubtitleValue)
    → start_no_earlier_than frame (judged_subtitles_with_bits ts bits) ≡ true
    → i < length ts
    → frame ≤ (get_or ts i d).tci
starts frame [] bits i d h inside = absurd (omega arith)
starts frame (t ∷ ts) [] zero d h inside = grind (arith, nat_tests)
starts frame (t ∷ ts) (bit ∷ bits) zero d h inside = grind (arith, nat_tests)
starts frame (t ∷ ts) [] (suc i) d h inside =
    starts frame ts [] i d (grind (arith, nat_tests)) (omega arith)
starts frame (t ∷ ts) (bit ∷ bits) (suc i) d h inside =
    starts frame ts bits i d (grind (arith, nat_tests)) (omega arith)

pub ordered_bits_order_subtitles : (ts : List SubtitleValue) (bits : List Bool)
    → are_in_order (judged_subtitles_with_bits ts bits) ≡ true
    → AreInOrder ts
ordered_bits_order_subtitles [] bits h i j d below inside = absurd (omega arith)
ordered_bits_order_subtitles (t ∷ ts) bits h i zero d below inside = absurd (omega arith)
ordered_bits_order_subtitles (t ∷ ts) [] h zero (suc j) d below inside =
    starts t.tco ts [] j d (grind (arith, nat_tests)) (omega arith)
ordered_bits_order_subtitles (t ∷ ts) (bit ∷ bits) h zero (suc j) d below inside =
    starts t.tco ts bits j d (grind (arith, nat_tests)) (omega arith)
ordered_bits_order_subtitles (t ∷ ts) [] h (suc i) (suc j) d below inside =
    ordered_bits_order_subtitles ts [] (grind (arith, nat_tests)) i j d (omega arith) (omega arith)
ordered_bits_order_subtitles (t ∷ ts) (bit ∷ bits) h (suc i) (suc j) d below inside =
    ordered_bits_order_subtitles ts bits (grind (arith, nat_tests)) i j d (omega arith)
    (omega arith)

abbrev joined : List ReliableSubtitle → ReliableSubtitles → ReliableSubtitles
joined js all = record
    { judged = js ++ all.judged; is_before_unreliable = all.is_before_unreliable }

joined-more : (js : List ReliableSubtitle) (j : ReliableSubtitle) (all : ReliableSubtitles)
    → joined js (with_judged_in_front j all) ≡ joined (js ++ j ∷ []) all
joined-more js j all = grind (arith, nat_tests, append_assoc)

abbrev is_followed : Option Times → Findings → Bool
is_followed None left = true
is_followed (Some times) left = is_followed_in_order times left

-- The reliable subtitles of a file are the kept subtitles, followed by the reliable subtitles of
-- the rest. The last kept subtitle is left out if the next subtitle is compared with it and is not
-- in order with it.
abbrev pub judged_with_kept : Drawing → Option Times → KeptRecords → Findings → ReliableSubtitles
judged_with_kept drawing before k left =
    if k.compares_with_last_kept && not (is_followed before left)
    then joined (take (length k.records - 1) (all_kept k)) (judged_after drawing before true left)
    else joined (all_kept k) (judged_after drawing before k.is_before_unreliable left)

pub judged-start : (drawing : Drawing) (left : Findings)
    → judged_after drawing None false left ≡ judged_with_kept drawing None no_subtitles_yet left
judged-start drawing left = refl

appending_empty_changes_nothing : (latest other : Bool) (js : List ReliableSubtitle)
    (given : ReliableSubtitles)
    → (if latest && false then given
    else record { judged = js ++ []; is_before_unreliable = other })
    ≡ record { judged = js; is_before_unreliable = other }
appending_empty_changes_nothing latest other js given = grind (arith, nat_tests, append-nil)

pub judged-end : (drawing : Drawing) (before : Option Times) (k : KeptRecords)
    → judged_with_kept drawing before k no_more
    ≡ record { judged = all_kept k; is_before_unreliable = k.is_before_unreliable }
unfolding judged_after
judged-end drawing None k = appending_empty_changes_nothing k.compares_with_last_kept
    k.is_before_unreliable (all_kept k) _
judged-end drawing (Some times) k = appending_empty_changes_nothing k.compares_with_last_kept
    k.is_before_unreliable (all_kept k) _

pub judged-refused : (drawing : Drawing) (before : Option Times) (k : KeptRecords)
    (fault : StlFault) (block : ℕ) (left : Findings)
    → judged_with_kept drawing before k (refuses fault block left)
    ≡ judged_with_kept drawing before (after_rejected_subtitle k) left
unfolding judged_after
judged-refused drawing None k fault block left = refl
judged-refused drawing (Some times) k fault block left = refl

clean_subtitle_is_judged : (drawing : Drawing) (before : Option Times) (other : Bool)
    (t : SubtitleValue)
    (block : ℕ) (left : Findings)
    → is_none (first_of (faults_of_next_subtitle drawing before t)) ≡ true
    → judged_after drawing before other (finds t block left)
    ≡ (if is_followed_in_order (times_of t) left
    then with_judged_in_front (with_bit t other) (judged_after drawing (Some (times_of t)) false
    left)
    else judged_after drawing (Some (times_of t)) true left)
unfolding judged_after
clean_subtitle_is_judged drawing before other t block left none = rw none refl

reported_subtitle_is_dropped : (drawing : Drawing) (before : Option Times) (other : Bool)
    (t : SubtitleValue)
    (block : ℕ) (left : Findings)
    → is_none (first_of (faults_of_next_subtitle drawing before t)) ≡ false
    → judged_after drawing before other (finds t block left)
    ≡ judged_after drawing (Some (times_of t)) true left
unfolding judged_after
reported_subtitle_is_dropped drawing before other t block left some = rw some refl

followed_means_no_order_fault : (before : Option Times) (t : SubtitleValue) (block : ℕ)
    (left : Findings)
    → is_followed before (finds t block left)
    ≡ is_none (first_of (order_faults before (times_of t)))
followed_means_no_order_fault None t block left = refl
followed_means_no_order_fault (Some times) t block left = refl

no_fault_excludes_order_fault : (order row : List LoadFaultKind)
    → is_none (first_of (order ++ row)) ≡ true
    → is_none (first_of order) ≡ true
no_fault_excludes_order_fault [] row none = refl
no_fault_excludes_order_fault (k ∷ ks) row none = absurd cc

keeping_appends_judged_subtitle : (k : KeptRecords) (t : SubtitleValue)
    → length k.after_unreliable_bits ≤ length k.records
    → all_kept (after_kept_subtitle t k) ≡ all_kept k ++ with_bit t k.is_before_unreliable ∷ []
keeping_appends_judged_subtitle k t fits = grind (
  arith,
  nat_tests,
  judged_subtitles_with_bits-set,
  judged_subtitles_with_bits-unset,
)

take_drops_last_element : (js : List ReliableSubtitle) (j : ReliableSubtitle) (n : ℕ)
    → n ≡ length js
    → take n (js ++ j ∷ []) ≡ js
take_drops_last_element js j n is = rw is (take-append_seam js (j ∷ []))

bits_keep_subtitle_count : (ts : List SubtitleValue) (bits : List Bool)
    → length (judged_subtitles_with_bits ts bits) ≡ length ts
bits_keep_subtitle_count [] bits = refl
bits_keep_subtitle_count (t ∷ ts) [] = ap suc (bits_keep_subtitle_count ts [])
bits_keep_subtitle_count (t ∷ ts) (bit ∷ bits) = ap suc (bits_keep_subtitle_count ts bits)

judging_clean_subtitle_step : (latest followed : Bool)
    (given following other_after : ReliableSubtitles)
    (js then_kept : List ReliableSubtitle) (j : ReliableSubtitle) (n : ℕ)
    → then_kept ≡ js ++ j ∷ []
    → n ≡ length js
    → (if latest && not true then given
    else joined js (if followed then with_judged_in_front j following else other_after))
    ≡ (if not followed then joined (take n then_kept) other_after else joined then_kept following)
judging_clean_subtitle_step latest followed given following other_after js then_kept j n is size =
    grind (arith, nat_tests, joined-more, take_drops_last_element)

judging_adds_clean_subtitle : (drawing : Drawing) (before : Option Times) (k : KeptRecords)
    (t : SubtitleValue)
    (block : ℕ) (left : Findings)
    → length k.after_unreliable_bits ≤ length k.records
    → is_none (first_of (faults_of_next_subtitle drawing before t)) ≡ true
    → judged_with_kept drawing before k (finds t block left)
    ≡ judged_with_kept drawing (Some (times_of t)) (after_kept_subtitle t k) left
judging_adds_clean_subtitle drawing before k t block left fits none =
    grind (
      arith,
      nat_tests,
      followed_means_no_order_fault,
      no_fault_excludes_order_fault,
      length-append,
      bits_keep_subtitle_count,
      clean_subtitle_is_judged,
      judging_clean_subtitle_step,
      keeping_appends_judged_subtitle,
    )

judging_drops_reported_subtitle : (drawing : Drawing) (before : Option Times) (k : KeptRecords)
    (t : SubtitleValue)
    (block : ℕ) (left : Findings) (in_order : Bool)
    → is_none (first_of (faults_of_next_subtitle drawing before t)) ≡ false
    → in_order ≡ is_none (first_of (order_faults before (times_of t)))
    → judged_with_kept drawing before k (finds t block left)
    ≡ judged_with_kept drawing (Some (times_of t))
    (if k.compares_with_last_kept && not in_order then after_faulty_subtitle (without_last_kept k)
    else after_faulty_subtitle k) left
judging_drops_reported_subtitle drawing before k t block left in_order some is =
    grind (
      arith,
      nat_tests,
      followed_means_no_order_fault,
      reported_subtitle_is_dropped,
      judged_subtitles_with_bits-take,
    )

-- Taking one more subtitle of the file does not change the reliable subtitles of the file.
pub judged-next : (drawing : Drawing) (before : Option Times) (k : KeptRecords)
    (t : SubtitleValue) (block : ℕ) (left : Findings) (in_order clean : Bool)
    → length k.after_unreliable_bits ≤ length k.records
    → in_order ≡ is_none (first_of (order_faults before (times_of t)))
    → clean ≡ is_none (first_of (faults_of_next_subtitle drawing before t))
    → judged_with_kept drawing before k (finds t block left)
    ≡ judged_with_kept drawing (Some (times_of t)) (records_after_subtitle in_order clean t k) left
judged-next drawing before k t block left in_order true fits is_order is_clean =
    judging_adds_clean_subtitle drawing before k t block left fits (sym is_clean)
judged-next drawing before k t block left in_order false fits is_order is_clean =
    judging_drops_reported_subtitle drawing before k t block left in_order (sym is_clean) is_order

-- The kept subtitles are valid and can be drawn. As long as no fault was reported, all subtitles
-- are kept, and they do not overlap.
pub record RecordsMatchFaults (drawing : Drawing) (before : Option Times) (early : List LoadFault)
    (k : KeptRecords) : Type 0 where
  pub each : All IsSubtitle k.records
  pub drawable : All (λ t. IsOk (drawn drawing t)) k.records
  pub fits : length k.after_unreliable_bits ≤ length k.records
  pub whole : are_all_kept k ≡ is_none (first_of early)
  pub programme : early ≡ [] → (before ≡ times_before k.records) × IsProgramme drawing k.records

pub kept-none : (drawing : Drawing) → RecordsMatchFaults drawing None [] no_subtitles_yet
kept-none drawing = grind (arith, nat_tests)

faulty_file_keeps_not_all : (none : Bool) → (none && not true) ≡ false
faulty_file_keeps_not_all none = grind (arith, nat_tests)

list_with_element_has_first : {A : Type 0} (xs ys : List A) (y : A)
    → is_none (first_of (xs ++ y ∷ ys)) ≡ false
list_with_element_has_first [] ys y = refl
list_with_element_has_first (x ∷ xs) ys y = refl

list_with_element_is_nonempty : {A : Type 0} (xs ys : List A) (y : A) → xs ++ y ∷ ys ≡ [] → ⊥
list_with_element_is_nonempty [] ys y e = absurd cc
list_with_element_is_nonempty (x ∷ xs) ys y e = absurd cc

pub kept-refused : {drawing : Drawing} {before : Option Times} {early : List LoadFault}
    {k : KeptRecords} (fault : LoadFault)
    → RecordsMatchFaults drawing before early k
    → RecordsMatchFaults drawing before (early ++ fault ∷ []) (after_rejected_subtitle k)
kept-refused fault kept = grind (
  arith,
  nat_tests,
  faulty_file_keeps_not_all,
  list_with_element_has_first,
  list_with_element_is_nonempty,
)

bits_with_true_are_set : (bits more : List Bool) → has_no_bits (bits ++ (more ++ true ∷ [])) ≡ false
bits_with_true_are_set [] [] = refl
bits_with_true_are_set [] (bit ∷ more) = refl
bits_with_true_are_set (bit ∷ bits) more = refl

pub none-first : {A : Type 0} (xs : List A) → is_none (first_of xs) ≡ true → xs ≡ []
none-first xs h = grind (arith, nat_tests)

added_faults_have_first : (early : List LoadFault) (block : ℕ) (kinds : List LoadFaultKind)
    → is_none (first_of kinds) ≡ false
    → is_none (first_of (early ++ map (load_fault block) kinds)) ≡ false
added_faults_have_first early block [] some = absurd cc
added_faults_have_first early block (kind ∷ kinds) some =
    list_with_element_has_first early (map (load_fault block) kinds) (load_fault block kind)

list_with_first_is_nonempty : {A : Type 0} (xs : List A) → is_none (first_of xs) ≡ false → xs ≡ [] →
    ⊥
list_with_first_is_nonempty xs some none = grind (arith, nat_tests)

module _ {drawing : Drawing} {before : Option Times} {early : List LoadFault} {k : KeptRecords}
    (t : SubtitleValue) (block : ℕ) (kept : RecordsMatchFaults drawing before early k) where
  bits_still_fit : (other : Bool)
      → length (bits_with_next (length k.records) other k.after_unreliable_bits) ≤ length
      (k.records ++ t ∷ [])
  bits_still_fit other = grind (arith, nat_tests, length-append, length-replicate, length-take)

  keeping_preserves_all_kept : are_all_kept (after_kept_subtitle t k) ≡ is_none (first_of early)
  keeping_preserves_all_kept = grind
      (arith, nat_tests, faulty_file_keeps_not_all, bits_with_true_are_set)

  keeping_clean_subtitle_matches : IsSubtitle t
      → faults_of_next_subtitle drawing before t ≡ []
      → RecordsMatchFaults drawing (Some (times_of t))
      (early ++ map (load_fault block) (faults_of_next_subtitle drawing before t))
      (after_kept_subtitle t k)
  keeping_clean_subtitle_matches subtitle none =
      let rows =
      empty_append_has_empty_parts (order_faults before (times_of t)) (row_faults (drawn drawing t))
      none in
      rw (none, append-nil early) (record {
        each = All-push IsSubtitle k.records t kept.each subtitle;
        drawable =
            All-push (λ x. IsOk (drawn drawing x)) k.records t kept.drawable
            (draws_without_faults (drawn drawing t) rows.1);
        fits = bits_still_fit k.is_before_unreliable;
        whole = keeping_preserves_all_kept;
        programme = λ nothing.
            let all = kept.programme nothing in (
              sym (ap (option_map times_of) (last_element-push k.records t)),
              IsProgramme-push drawing k.records t all.1 subtitle (rw all.0 at none),
            );
      })

  dropping_faulty_subtitle_matches : (early_then : List LoadFault) (drops : Bool)
      → is_none (first_of early_then) ≡ false
      → RecordsMatchFaults drawing (Some (times_of t)) early_then
      (if drops then after_faulty_subtitle (without_last_kept k) else after_faulty_subtitle k)
  dropping_faulty_subtitle_matches early_then false some = record {
    each = kept.each;
    drawable = kept.drawable;
    fits = kept.fits;
    whole = faulty_file_keeps_not_all (has_no_bits k.after_unreliable_bits) ∙ sym some;
    programme = λ none. absurd (list_with_first_is_nonempty early_then some none);
  }
  dropping_faulty_subtitle_matches early_then true some =
      let n : ℕ = length k.records - 1 in
      let fits = kept.fits in
      record {
        each = All-take IsSubtitle n k.records kept.each;
        drawable = All-take (λ x. IsOk (drawn drawing x)) n k.records kept.drawable;
        fits = omega (arith, fits, length-take n k.records, length-take n k.after_unreliable_bits);
        whole = faulty_file_keeps_not_all (has_no_bits (take n k.after_unreliable_bits)) ∙ sym some;
        programme = λ none. absurd (list_with_first_is_nonempty early_then some none);
      }

  pub kept-next : (in_order clean : Bool)
      → clean ≡ is_none (first_of (faults_of_next_subtitle drawing before t))
      → IsSubtitle t
      → RecordsMatchFaults drawing (Some (times_of t))
      (early ++ map (load_fault block) (faults_of_next_subtitle drawing before t))
      (records_after_subtitle in_order clean t k)
  kept-next in_order true is_clean subtitle =
      keeping_clean_subtitle_matches subtitle (none-first (faults_of_next_subtitle drawing before t)
      (sym is_clean))
  kept-next in_order false is_clean subtitle =
      dropping_faulty_subtitle_matches
      (early ++ map (load_fault block) (faults_of_next_subtitle drawing before t))
      (k.compares_with_last_kept && not in_order)
      (added_faults_have_first early block (faults_of_next_subtitle drawing before t)
      (sym is_clean))

-- If all subtitles are kept, no fault was reported.
pub all_kept_means_no_faults : {drawing : Drawing} {before : Option Times} {early : List LoadFault}
    {k : KeptRecords}
    → RecordsMatchFaults drawing before early k
    → are_all_kept k ≡ true
    → early ≡ []
all_kept_means_no_faults {early = early} kept whole = none-first early (sym kept.whole ∙ whole)

-- If a transmission can be checked against the kept subtitles, they are a programme.
pub programme-kept : {drawing : Drawing} {before : Option Times} {early : List LoadFault}
    {k : KeptRecords}
    → RecordsMatchFaults drawing before early k
    → is_checkable k ≡ true
    → IsProgramme drawing k.records
programme-kept {k = k} kept enough = elim (cases_Bool (are_all_kept k)) [
  | inl whole ↦ (kept.programme (all_kept_means_no_faults kept whole)).1
  | inr part ↦ record {
    each = kept.each;
    in_order = ordered_bits_order_subtitles k.records k.after_unreliable_bits
        (let h = rw part at enough in grind (arith, nat_tests));
    drawable = kept.drawable;
  }
]

pub enough-some : (k : KeptRecords)
    → are_all_kept k ≡ false
    → 0 < length k.records
    → is_checkable k ≡ are_in_order (judged_subtitles_with_bits k.records [])
enough-some k part some = grind (arith, nat_tests, bits_keep_subtitle_count, in_order-bits)

pub none-requested : {A : Type 0} (x : Option A) (none : Bool)
    → is_some x ≡ not none
    → none ≡ is_none x
none-requested x none h = grind (arith, nat_tests)
