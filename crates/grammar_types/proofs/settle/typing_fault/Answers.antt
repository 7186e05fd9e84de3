use Rattle.std.proofs.Common.{map, sym, subst}
use Rattle.grammar_files.specs.Placings.{placed_of}
use Rattle.grammar_types.specs.Typings.{type_definitions, StandsAt}
use Rattle.grammar_files.specs.WalkViews.{walked_of}
use Rattle.grammar_types.proofs.SettleFaults.{typing_is}
use Rattle.grammar_types.proofs.SettlePlaces.{has_place}
use Rattle.grammar_types.proofs.settle.typing_fault.Goals as goal

pub returns : goal.returns
returns c =
    typing_is (walked_of c.args.walked.now) (placed_of c.in-Some.placed.now) c.args.fault c.fault_of.result c.requires.once c.requires.fault
    (subst (λ ys. StandsAt (type_definitions (map placed_of ys)) c.args.fault (placed_of c.in-Some.placed.now)) c.deref.ensures.value c.in-Some.ensures) c.fault_of.ensures

pub unreachable-requires : goal.unreachable-requires
unreachable-requires c =
    let w = walked_of c.args.walked.now in
    let p = has_place w.settings.top_type w.settings.string_type w.statements c.args.fault c.requires.once c.requires.fault c.requires.own in
    c.in-None.ensures p.0 (subst (λ ys. StandsAt (type_definitions (map placed_of ys)) c.args.fault p.0) (sym c.deref.ensures.value) p.1)
