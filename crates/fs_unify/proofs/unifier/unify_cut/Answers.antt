use Rattle.std.proofs.Common.{◌≡◌, map, ◌∙◌, ap, subst}
use Rattle.std.specs.Result.{IfOk}
use Rattle.std.specs.Option.{option_map}
use Rattle.type_hierarchy.specs.Laws.{HasTypeLaws}
use Rattle.fs_model.specs.Claims.{Has}
use Rattle.fs_graph.specs.Facts.{path_of}
use Rattle.fs_graph.specs.GraphMap.{reader_of}
use Rattle.fs_closing.specs.Rules.{system_of}
use Rattle.fs_closing.proofs.HasLemmas.{Has-map}
use Rattle.fs_closing.proofs.OrderLemmas.{order_of_laws}
use Rattle.fs_drawing.specs.Cutting.{IsUnifiedWithout}
use Rattle.fs_unify.specs.Placing.{placed, source_of, source_in}
use Rattle.fs_unify.proofs.PlaceLemmas.{source_seen}
use Rattle.fs_unify.proofs.unifier.unify_cut.Goals as goal

pub unified_without-answer-requires-clause-order : goal.unified_without-answer-requires-clause-order
unified_without-answer-requires-clause-order c = order_of_laws c.args.system.now (subst HasTypeLaws c.types-types.ensures c.laws.ensures)

pub unified_without-answer-requires-clause-parts : goal.unified_without-answer-requires-clause-parts
unified_without-answer-requires-clause-parts c = λ p h.
    c.requires.parts (placed p) (subst (Has (placed p)) c.parts.view_is (Has-map placed p c.parts.inside.items.items (subst (Has p) c.deref.ensures.value h)))

pub returns-clause-answer : goal.returns-clause-answer
returns-clause-answer c =
    let g = c.args.system.now in
    let is : source_in c.deref.result.now ≡ source_of c.args.parts.now =
    source_seen c.deref.result.now ∙ ap (λ l. source_of (map placed l)) c.deref.ensures.value ∙ ap source_of c.parts.view_is in
    subst (λ s. IfOk c.unified_without-answer.result (λ o. IsUnifiedWithout (system_of g) s (path_of c.args.at_root.now) (path_of c.args.anywhere.now) (option_map reader_of o))) is c.unified_without-answer.ensures.answer
