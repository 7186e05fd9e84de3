use Rattle.fs_unify.specs.Placing.{source_of}
use Rattle.fs_trim.specs.Cutting.{cut_of}
use Rattle.fs_trim.proofs.TrimLemmas.{without_answer, without_known, without_owes}
use Rattle.fs_trim.proofs.unify_without.Goals as goal

pub returns-clause-answer : goal.returns-clause-answer
returns-clause-answer c =
    without_answer c.args.system.now (source_of c.args.parts.now) (cut_of c.args.cut.now) c.in_ok-kept.kept c.in_ok-kept.ensures.keeps

pub returns-clause-known : goal.returns-clause-known
returns-clause-known c =
    without_known c.args.system.now (source_of c.args.parts.now) (cut_of c.args.cut.now) c.in_ok-kept.kept c.in_ok-kept.ensures.keeps

pub returns-clause-owes : goal.returns-clause-owes
returns-clause-owes c =
    without_owes c.args.system.now (source_of c.args.parts.now) (cut_of c.args.cut.now) c.in_ok-kept.kept c.in_ok-kept.ensures.keeps
