-- The normal form of a file is a file with the same subtitles.
use Rattle.std.proofs.Common.{rules, ◌≡◌, ℕ, List, [], ◌∷◌, ◌++◌, length, refl, ap, ◌∙◌, arith}
use Rattle.std.proofs.Common.{length-append, take, drop, false, Option, Ok, Err}
use Rattle.std.specs.Prelude.{filter}
use Rattle.std.specs.List.{AllByRecursion, concat, AllZip}
use Rattle.std.specs.Io.KnownBytes.{Appends, Keeps}
use Rattle.std.proofs.lemmas.List.Elements.{filter-append}
use Rattle.std.proofs.lemmas.Bool.Decides.{nat_tests}
use Rattle.sub_io.specs.Device.{AppendsPrefix}
use Rattle.stl_file.specs.declared.counts.Counts.{Counts}
use Rattle.stl_file.specs.declared.fault.StlFault.{StlFault}
use Rattle.stl_file.specs.declared.fault.NormalFault.{NormalFault}
use Rattle.stl_file.specs.declared.fault.NormalFault.TheVariants.{Refused, Write}
use Rattle.stl_file.specs.Tti.{is_unskipped_block, max_blocks}
use Rattle.stl_file.specs.SubtitleBlocks.{IsBlock, AreLinked, AreSubtitleBlocks, AreBlocksOf}
use Rattle.stl_file.specs.Reader.{ReaderValue, findings_within_scope, checked_gsi_of_file}
use Rattle.stl_file.specs.Reader.{outcome_from, outcome_of_file}
use Rattle.stl_file.specs.Reader.{open_result}
use Rattle.stl_file.specs.Scope.{whole}
use Rattle.stl_file.specs.Gsi.{with_counts}
use Rattle.stl_file.specs.Subtitle.{SubtitleValue}
use Rattle.stl_file.specs.File.{IsFile}
use Rattle.stl_file.specs.NormalForm.{SubtitlesOrFault, blocks_of_subtitles, gsi_with_counts}
use Rattle.stl_file.specs.NormalForm.{normal_form}
use Rattle.stl_file.specs.NormalForm.{subtitles_of}
use Rattle.stl_file.specs.NormalForm.{WritesNormal, WritesPrefix, NormalAnswers, blocks_of}
use Rattle.stl_file.specs.NormalCounts.{normal_counts, accepted_subtitles}
use Rattle.stl_file.proofs.SubtitleBlocksLemmas.{filtering_adds_no_blocks}
use Rattle.stl_file.proofs.GsiLemmas.{setting_counts_keeps_gsi_valid, setting_counts_is_idempotent}
use Rattle.stl_file.proofs.OpeningLemmas.{good, opening_fault_is_gsi_fault, opened_reader_has_gsi}
use Rattle.stl_file.proofs.OpeningLemmas.{opened_file_has_valid_gsi}
use Rattle.stl_file.proofs.FileLemmas.{accepted_body_makes_file, file_has_one_reading}
use Rattle.stl_file.proofs.RestLemmas.{joined_groups}
use Rattle.stl_file.proofs.ScopeLemmas.{whole_scope_keeps_all_groups, whole_scope_drops_no_group}
use Rattle.stl_file.proofs.BlocksOfLemmas.{respelling_needs_no_more_blocks}

-- The blocks of one subtitle have 128 bytes each, and none of the blocks is a comment or user data.
linked_blocks_are_subtitle_blocks : (sgn_is sn_is : ℕ) (g : List (List ℕ))
    → AreLinked sgn_is sn_is g
    → AllByRecursion IsBlock g × (filter is_unskipped_block g ≡ g)
linked_blocks_are_subtitle_blocks sgn_is sn_is [] c = absurd c
linked_blocks_are_subtitle_blocks sgn_is sn_is (b ∷ []) c = grind (arith, nat_tests)
linked_blocks_are_subtitle_blocks sgn_is sn_is (b ∷ x ∷ g) c =
    let rest = linked_blocks_are_subtitle_blocks sgn_is sn_is (x ∷ g) c.2 in grind
    (arith, nat_tests)

appended_blocks_are_complete : (xs ys : List (List ℕ))
    → AllByRecursion IsBlock xs
    → AllByRecursion IsBlock ys
    → AllByRecursion IsBlock (xs ++ ys)
appended_blocks_are_complete [] ys h k = k
appended_blocks_are_complete (x ∷ xs) ys h k = (h.0, appended_blocks_are_complete xs ys h.1 k)

-- The subtitles of a file can be written in their normal form, in no more blocks than the file has.
respelled_subtitles_are_blocks : (ss : List SubtitleValue) (gs : List (List (List ℕ)))
    → AllZip AreBlocksOf ss gs
    → AreSubtitleBlocks whole (length (joined_groups gs)) (blocks_of_subtitles ss) ss
respelled_subtitles_are_blocks [] gs h = grind (arith, nat_tests)
respelled_subtitles_are_blocks (s ∷ ss) [] h = absurd h
respelled_subtitles_are_blocks (s ∷ ss) (g ∷ gs) h =
    let one = respelling_needs_no_more_blocks s g h.0 in
    let own = linked_blocks_are_subtitle_blocks s.sgn s.sn (blocks_of s) one.0.linked in
    let rest = respelled_subtitles_are_blocks ss gs h.1 in
    let few = rest.few in
    record {
      each = appended_blocks_are_complete (blocks_of s) (blocks_of_subtitles ss) own.0 rest.each;
      few = omega (
        arith,
        one.1,
        length-append (blocks_of s) (blocks_of_subtitles ss),
        length-append g (joined_groups gs),
      );
      groups = blocks_of s ∷ rest.groups;
      kept = filter-append is_unskipped_block (blocks_of s) (blocks_of_subtitles ss) ∙ rw
          (own.1, rest.kept) refl;
      outside = rw (whole_scope_drops_no_group (blocks_of s ∷ rest.groups)) tt;
      are_subtitle_blocks = rw (whole_scope_keeps_all_groups (blocks_of s ∷ rest.groups))
          (one.0, rw (whole_scope_keeps_all_groups rest.groups) at rest.are_subtitle_blocks);
    }

-- If the blocks of a file contain the subtitles ts, the blocks of the normal form contain the same
-- subtitles, and are not too many for a file.
respelling_keeps_the_subtitles : (bs : List (List ℕ)) (ts : List SubtitleValue)
    → AreSubtitleBlocks whole max_blocks bs ts
    → AreSubtitleBlocks whole max_blocks (blocks_of_subtitles ts) ts
respelling_keeps_the_subtitles bs ts r =
    let own = respelled_subtitles_are_blocks ts r.groups (rw (whole_scope_keeps_all_groups r.groups)
    at r.are_subtitle_blocks) in
    record {
      each = own.each;
      few = omega (arith, own.few, ap length r.kept, filtering_adds_no_blocks bs, r.few);
      groups = own.groups;
      kept = own.kept;
      outside = own.outside;
      are_subtitle_blocks = own.are_subtitle_blocks;
    }

-- The normal form of a file is a file with the same subtitles.
pub normal_form_is_file : (s g : List ℕ) (ts : List SubtitleValue)
    → IsFile s g ts
    → IsFile (normal_form g ts) (gsi_with_counts g ts) ts
normal_form_is_file s g ts h = search
    (rules, setting_counts_keeps_gsi_valid, respelling_keeps_the_subtitles)

-- The normal form of a normal form is the normal form itself.
pub normal_form_is_idempotent : (s g h : List ℕ) (ts us : List SubtitleValue)
    → IsFile s g ts
    → IsFile (normal_form g ts) h us
    → normal_form h us ≡ normal_form g ts
normal_form_is_idempotent s g h ts us a b =
    let o = file_has_one_reading (normal_form g ts) h (gsi_with_counts g ts) us ts b
    (normal_form_is_file s g ts a) in
    grind (arith, nat_tests, setting_counts_is_idempotent)

unchanged_sink_keeps_contents : (o : Option (List ℕ)) → Keeps o o
unchanged_sink_keeps_contents o = grind (arith, nat_tests)

-- If the GSI block is rejected, `normal` writes nothing and reports block 0.
pub refused_opening_writes_nothing : (s : List ℕ) (f : StlFault) (old : Option (List ℕ))
    → open_result s ≡ Err f
    → NormalAnswers s old old (Err (Refused f 0))
unfolding findings_within_scope
refused_opening_writes_nothing s f old e = (
  rw (opening_fault_is_gsi_fault (checked_gsi_of_file false s) f e) refl,
  unchanged_sink_keeps_contents old,
)

subtitles_come_from_body : (s : List ℕ) (r : ReaderValue)
    → open_result s ≡ good r
    → subtitles_of (outcome_of_file s) ≡ subtitles_of (outcome_from 0 (drop 1024 s))
unfolding findings_within_scope
subtitles_come_from_body s r e =
    rw (opened_reader_has_gsi (checked_gsi_of_file false s) r e).0 refl

-- If the file is rejected after its GSI block, `normal` writes nothing and reports the first fault.
pub refused_body_writes_nothing : (s : List ℕ) (r : ReaderValue) (f : NormalFault)
    (old : Option (List ℕ))
    → open_result s ≡ good r
    → (f ≡ Write → ⊥)
    → normal_counts (subtitles_of (outcome_from 0 (drop 1024 s))) ≡ Err f
    → NormalAnswers s old old (Err f)
refused_body_writes_nothing s r f old e never c = grind (
  arith,
  nat_tests,
  subtitles_come_from_body,
  unchanged_sink_keeps_contents,
)

-- The file s is accepted: it has the subtitles `ts`, `c.tns` is their number, and the bytes that
-- `normal` writes are the normal form of s.
record Accepted (s : List ℕ) (r : ReaderValue) (c : Counts) : Type 0 where
  ts : List SubtitleValue
  is_file : IsFile s (take 1024 s) ts
  count : c.tns ≡ length ts
  form : with_counts c.tnb c.tns r.gsi
      ++ concat (blocks_of_subtitles
      (accepted_subtitles (subtitles_of (outcome_from 0 (drop 1024 s)))))
      ≡ normal_form (take 1024 s) ts

counts_match_accepted_subtitles : (j : SubtitlesOrFault) (c : Counts)
    → normal_counts j ≡ Ok c
    → (ts : List SubtitleValue) × (j ≡ Ok ts) × (c.tnb ≡ length (blocks_of_subtitles ts))
    × (c.tns ≡ length ts)
counts_match_accepted_subtitles j c e = grind (arith, nat_tests)

-- If the file was opened and the first pass counted its subtitles, the file is accepted.
accepted : (s : List ℕ) (r : ReaderValue) (c : Counts)
    → open_result s ≡ good r
    → normal_counts (subtitles_of (outcome_from 0 (drop 1024 s))) ≡ Ok c
    → Accepted s r c
accepted s r c opened judged =
    let o = opened_file_has_valid_gsi s r opened in
    let j = counts_match_accepted_subtitles _ c judged in
    record {
      ts = j.0;
      is_file = accepted_body_makes_file whole s j.0 o.1 j.1;
      count = j.3;
      form = cc (ap accepted_subtitles j.1, ap (λ (x : ReaderValue). x.gsi) o.2);
    }

module _ (s : List ℕ) (r : ReaderValue) (c : Counts) (g : List ℕ)
    (opened : open_result s ≡ good r)
    (judged : normal_counts (subtitles_of (outcome_from 0 (drop 1024 s))) ≡ Ok c)
    (set : g ≡ with_counts c.tnb c.tns r.gsi) (old new : Option (List ℕ)) where
  pub complete_writes_make_normal_form : Appends old new
      (g ++ concat (blocks_of_subtitles
      (accepted_subtitles (subtitles_of (outcome_from 0 (drop 1024 s))))))
      → WritesNormal s old new c.tns
  complete_writes_make_normal_form w = grind (arith, nat_tests, accepted s r c opened judged)

  pub failed_writes_make_prefix : AppendsPrefix old new
      (g ++ concat (blocks_of_subtitles
      (accepted_subtitles (subtitles_of (outcome_from 0 (drop 1024 s))))))
      → WritesPrefix s old new
  failed_writes_make_prefix w = grind (arith, nat_tests, accepted s r c opened judged)
