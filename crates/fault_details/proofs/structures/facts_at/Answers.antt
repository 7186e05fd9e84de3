use Rattle.std.proofs.Common.{◌≡◌, ◌||◌, true, List, map, sym, ap, subst, ◌∙◌}
use Rattle.type_hierarchy.specs.Decls.{texts}
use Rattle.grammar_files.specs.declared.placed.Placed.{Placed}
use Rattle.grammar_files.specs.Placings.{placed_of}
use Rattle.grammar_files.specs.WalkViews.{walked_of}
use Rattle.constraint_expand.specs.Conditions.{AreTypesFor}
use Rattle.constraint_expand.specs.Statements.{statement_at, defines_type, defines_instance}
use Rattle.constraint_expand.specs.Systems.{settled_of, IsSystemOf}
use Rattle.constraint_expand.specs.Faults.{claims_of_definition}
use Rattle.fault_details.proofs.Systems.{types-for, own-system}
use Rattle.fault_details.proofs.structures.facts_at.Goals as goal

-- `c.deref` is the slice of the statements
pub definition_claims-requires-clause-types : goal.definition_claims-requires-clause-types
definition_claims-requires-clause-types c =
    let t = c.args.typed.now in
    subst (λ (ps : List Placed). AreTypesFor t.system.types (map placed_of ps)) (sym c.deref.ensures.value)
    (types-for (walked_of c.args.walked.now) (settled_of c.args.names.now) t c.requires.typed)

pub definition_claims-requires-clause-system : goal.definition_claims-requires-clause-system
definition_claims-requires-clause-system c =
    let t = c.args.typed.now in
    subst (λ (ps : List Placed). IsSystemOf t.system.types (settled_of c.args.names.now) (map placed_of ps) (texts t.feats.items) t.system) (sym c.deref.ensures.value)
    (own-system (walked_of c.args.walked.now) (settled_of c.args.names.now) t c.requires.typed)

pub definition_claims-requires-clause-defined : goal.definition_claims-requires-clause-defined
definition_claims-requires-clause-defined c =
    subst (λ (ps : List Placed). (defines_type (statement_at (map placed_of ps) c.args.k) || defines_instance (statement_at (map placed_of ps) c.args.k)) ≡ true) (sym c.deref.ensures.value)
    c.requires.defines

pub returns-in-Ok-clause-claims : goal.returns-in-Ok-clause-claims
returns-in-Ok-clause-claims c =
    let t = c.args.typed.now in
    let claims = claims_of_definition t.system (settled_of c.args.names.now) (texts t.feats.items) in
    c.in-Ok.ensures.claims ∙ ap (λ (ps : List Placed). claims (statement_at (map placed_of ps) c.args.k)) c.deref.ensures.value
