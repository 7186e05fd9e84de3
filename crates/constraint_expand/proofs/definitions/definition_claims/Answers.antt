use Rattle.std.proofs.Common.{◌≡◌, ◌≤◌, ◌∙◌, map, ap, sym, subst, arith}
use Rattle.type_hierarchy.specs.Decls.{texts}
use Rattle.type_hierarchy.specs.Table.{TypeTable, count_of, completed_count}
use Rattle.fs_graph.specs.Facts.{claims_of}
use Rattle.grammar_files.specs.Placings.{placed_of}
use Rattle.constraint_expand.specs.Statements.{statement_at}
use Rattle.constraint_expand.specs.Systems.{settled_of}
use Rattle.constraint_expand.specs.Faults.{claims_of_definition}
use Rattle.constraint_expand.specs.Shaped.{HaveClaimsIn}
use Rattle.constraint_expand.proofs.FirstLemmas.{at_placed, placed_within}
use Rattle.constraint_expand.proofs.DefinitionLemmas.{claims_in}
use Rattle.constraint_expand.proofs.definitions.definition_claims.Goals as goal

pub returns-clause-claims : goal.returns-clause-claims
returns-clause-claims c =
    let typed = c.args.typed.now in
    let at = at_placed c.args.statements.now c.args.k c.index-statements-k.result c.requires.there c.index-statements-k.is in
    c.in_ok-facts.ensures ∙ ap (claims_of_definition typed.system (settled_of c.args.names.now) (texts typed.feats.items)) (sym at)

pub returns-clause-within : goal.returns-clause-within
returns-clause-within c =
    let typed = c.args.typed.now in
    let s = settled_of c.args.names.now in
    let ps = map placed_of c.args.statements.now in
    let feats = texts typed.feats.items in
    let at = at_placed c.args.statements.now c.args.k c.index-statements-k.result c.requires.there c.index-statements-k.is in
    let is : claims_of c.in_ok-facts.facts.items ≡ claims_of_definition typed.system s feats (statement_at ps c.args.k) =
    c.in_ok-facts.ensures ∙ ap (claims_of_definition typed.system s feats) (sym at) in
    let le : completed_count typed.system.types ≤ count_of typed.system.types =
    subst (λ (t : TypeTable). completed_count t ≤ count_of t) c.types.ensures (omega arith) in
    subst (HaveClaimsIn typed.system) (sym is)
    (claims_in s ps feats typed.system c.requires.types c.requires.system le c.args.k (placed_within c.args.statements.now c.args.k c.requires.there) c.requires.defined)
