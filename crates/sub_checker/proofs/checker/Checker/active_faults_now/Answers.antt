-- If `within` is 0, only the expected page of the current frame must be known.
use Rattle.std.proofs.Common.{◌∙◌}
use Rattle.sub_checker.specs.Checker.{is_due_page_undecided}
use Rattle.sub_checker.proofs.UndecidedLemmas.{was-once}
use Rattle.sub_checker.proofs.checker.Checker.active_faults_now.Goals as goal

pub first_wrong-content-requires : goal.first_wrong-content-requires
first_wrong-content-requires c =
    c.is_undecided-undecided.ensures
    ∙ was-once (is_due_page_undecided c.args.self.now) c.args.self.now.first c.args.self.now.frame
    c.args.self.now.within c.requires.each
