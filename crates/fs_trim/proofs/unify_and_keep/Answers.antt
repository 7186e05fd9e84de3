use Rattle.std.proofs.Common.{subst, length}
use Rattle.std.specs.Prelude.{IfSome, option_map}
use Rattle.type_hierarchy.specs.Table.{count_of}
use Rattle.fs_graph.specs.Facts.{path_of}
use Rattle.fs_graph.specs.GraphMap.{reader_of}
use Rattle.fs_closing.specs.Rules.{system_of}
use Rattle.fs_drawing.specs.Cutting.{IsUnifiedWithout}
use Rattle.fs_unify.specs.Entering.{IsGraphIn}
use Rattle.fs_unify.specs.Placing.{source_of}
use Rattle.fs_trim.specs.Cutting.{cut_of}
use Rattle.fs_trim.proofs.CutLemmas.{keeps_left}
use Rattle.fs_trim.proofs.unify_and_keep.Goals as goal

pub returns-in-Some-clause-keeps : goal.returns-in-Some-clause-keeps
returns-in-Some-clause-keeps c =
    let g = c.args.system.now in
    let answer = rw (c.deref.ensures.value, c.deref-2.ensures.value) at c.in_ok-kept.ensures.answer in
    keeps_left g (source_of c.args.parts.now) (cut_of c.args.cut.now) c.in-Some.kept
    (subst (λ o. IsUnifiedWithout (system_of g) (source_of c.args.parts.now) (path_of c.args.cut.now.at_root.items) (path_of c.args.cut.now.anywhere.items) (option_map reader_of o)) c.in-Some.is answer)
    c.laws.ensures (subst (λ o. IfSome o (IsGraphIn (count_of g.types) (length g.introducers))) c.in-Some.is c.in_ok-kept.ensures.inside)
