use Rattle.std.proofs.Common.{rules, ◌≢◌, map, sym, subst, arith}
use Rattle.std.proofs.lemmas.List.{length-map}
use Rattle.grammar_files.specs.declared.expand_fault.ExpandFault.TheVariants.{NoMemory}
use Rattle.constraint_expand.specs.Conditions.{AreTypesFor}
use Rattle.grammar_files.specs.Placings.{placed_of}
use Rattle.constraint_expand.specs.Systems.{settled_of}
use Rattle.grammar_files.specs.WalkViews.{walked_of}
use Rattle.grammar_load.proofs.ExpandFits.{fit_types, fault_within}
use Rattle.grammar_load.proofs.expanding.expand_types.Goals as goal

pub expand-requires : goal.expand-requires
expand-requires c = subst (λ ps. AreTypesFor c.args.types (map placed_of ps)) (sym c.deref.ensures.value) (fit_types (walked_of c.args.walked.now) c.args.types c.requires)

pub expand_fault-requires : goal.expand_fault-requires
expand_fault-requires c =
    let own : c.in-Err.fault ≢ NoMemory = search rules in
    let within = fault_within c.args.types (settled_of c.in_ok-names.names) (map placed_of c.deref.result.now) c.in-Err.fault c.in-Err.ensures.fault own in
    omega (arith, within, length-map c.deref.result.now placed_of, c.deref.ensures.len)
