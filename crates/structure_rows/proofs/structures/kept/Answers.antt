use Rattle.std.proofs.Common.{All, sym, subst}
use Rattle.std.proofs.lemmas.List.Elements.{All-push}
use Rattle.fs_unify.specs.Placing.{IsAnswerIn}
use Rattle.structure_rows.proofs.structures.kept.Goals as goal

pub returns : goal.returns
returns c =
    subst (All (IsAnswerIn c.args.system.now)) (sym c.in_ok-push.ensures.items)
    (All-push (IsAnswerIn c.args.system.now) c.args.pile.now.items c.args.graph c.requires.known c.requires.graph)
