-- After all subtitles, the expected page is unknown if an unreliable subtitle follows the last;
-- otherwise the first subtitle that ends after the frame decides.
use Rattle.std.proofs.Common.{arith, length, sym, ◌≡◌}
use Rattle.std.proofs.lemmas.Bool.Decides.{nat_tests}
use Rattle.stl_rows.proofs.JudgedLemmas.{undecided-last, undecided-next, undecided-none}
use Rattle.stl_rows.proofs.programme.is_undecided_at.Goals as goal

pub returns-then-not-is_before_unreliable : goal.returns-then-not-is_before_unreliable
returns-then-not-is_before_unreliable c =
    let empty : length c.args.after_unreliable_bits.now ≡ 0 = grind (arith, nat_tests) in
    let none = undecided-none c.args.subtitles.now c.args.after_unreliable_bits.now 0 c.args.frame
    empty in
    grind (arith, nat_tests)

pub returns-then-at-len : goal.returns-then-at-len
returns-then-at-len c =
    sym (undecided-last c.args.subtitles.now c.args.after_unreliable_bits.now
    c.args.is_before_unreliable 0
    c.args.frame (omega arith) c.requires.each
    (λ k d h. c.first_ending_after-at.ensures.before k d (omega (arith, h))))

pub returns-then-tci-frame : goal.returns-then-tci-frame
returns-then-tci-frame c =
    let next = undecided-next c.args.subtitles.now c.args.after_unreliable_bits.now
    c.args.is_before_unreliable 0
    c.args.frame c.first_ending_after-at.result c.at-subtitle.result (omega arith) c.requires.each
    (omega arith) c.first_ending_after-at.ensures.before c.first_ending_after-at.ensures.after in
    grind (arith, nat_tests)

pub returns : goal.returns
returns c =
    let next = undecided-next c.args.subtitles.now c.args.after_unreliable_bits.now
    c.args.is_before_unreliable 0
    c.args.frame c.first_ending_after-at.result c.at-subtitle.result (omega arith) c.requires.each
    (omega arith) c.first_ending_after-at.ensures.before c.first_ending_after-at.ensures.after in
    grind (arith, nat_tests)
