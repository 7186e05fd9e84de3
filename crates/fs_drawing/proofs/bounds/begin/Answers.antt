use Rattle.std.proofs.Common.{◌∙◌, ap, ◌++◌, ◌∷◌, [], arith}
use Rattle.fs_drawing.proofs.ClimbLemmas.{are_begun}
use Rattle.fs_drawing.proofs.bounds.begin.Goals as goal

pub note-requires : goal.note-requires
note-requires c = omega (arith, c.requires.filled, c.in_ok-widen.ensures.room)

pub returns : goal.returns
returns c = λ limit.
    are_begun c.args.nodes.now c.requires.whole limit _ _ c.opened.result c.requires.filled c.in_ok-widen.ensures.room
    (λ n. c.in_ok-widen.ensures.kept n ∙ c.clear.ensures.none n) c.in_ok-note.ensures c.opened.ensures.node c.opened.ensures.passing
    (c.in_ok-push.ensures.items ∙ ap (λ l. l ++ c.opened.result ∷ []) c.clear-2.ensures.items)
