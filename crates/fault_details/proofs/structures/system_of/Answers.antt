use Rattle.std.proofs.Common.{List, map, sym, subst}
use Rattle.type_hierarchy.specs.Decls.{texts}
use Rattle.grammar_files.specs.Placings.{placed_of}
use Rattle.grammar_files.specs.declared.placed.Placed.{Placed}
use Rattle.constraint_expand.specs.Conditions.{AreTypesFor}
use Rattle.constraint_expand.specs.Systems.{settled_of, IsSystemOf}
use Rattle.constraint_expand.specs.Found.{IsEarlyFault}
use Rattle.grammar_files.specs.WalkViews.{walked_of}
use Rattle.grammar_load.proofs.ExpandFits.{fit_types}
use Rattle.fault_details.proofs.Systems.{structured}
use Rattle.fault_details.proofs.structures.system_of.Goals as goal

pub type_system-requires : goal.type_system-requires
type_system-requires c =
    subst (λ (ps : List Placed). AreTypesFor c.args.types (map placed_of ps)) (sym c.deref.ensures.value) (fit_types (walked_of c.args.walked.now) c.args.types c.requires)

pub returns-in-Ok-clause-typed : goal.returns-in-Ok-clause-typed
returns-in-Ok-clause-typed c = record {
  types = c.args.types;
  typed = c.requires;
  types_for = fit_types (walked_of c.args.walked.now) c.args.types c.requires;
  system =
      subst (λ (ps : List Placed). IsSystemOf c.args.types (settled_of c.args.names.now) (map placed_of ps) (texts c.in-Ok.typed.feats.items) c.in-Ok.typed.system) c.deref.ensures.value
      c.in-Ok.ensures.system;
  bare = c.in-Ok.ensures.bare;
}

pub returns-in-Err-clause-read : goal.returns-in-Err-clause-read
returns-in-Err-clause-read c = λ unread.
    structured (walked_of c.args.walked.now) (settled_of c.args.names.now) c.args.types c.requires c.in-Err.fault (c.lack_of.ensures (cc))
    (subst (λ (ps : List Placed). IsEarlyFault c.args.types (settled_of c.args.names.now) (map placed_of ps) c.in-Err.fault) c.deref.ensures.value c.in-Err.ensures.fault)
