use Rattle.std.proofs.Common.{◌≡◌, ◌∙◌, map, ap, sym, subst, IfOk, IfErr, OnOk}
use Rattle.type_hierarchy.specs.Decls.{texts}
use Rattle.type_hierarchy.specs.Table.{TypeTable}
use Rattle.body_facts.specs.Claimed.{WordTable}
use Rattle.body_facts.specs.Writing.{list_names}
use Rattle.body_facts.specs.WordTables.{table_of}
use Rattle.grammar_files.specs.Placings.{placed_of}
use Rattle.constraint_expand.specs.Statements.{statement_at, defines_instance, HoldsOfNone}
use Rattle.constraint_expand.specs.Systems.{words_of, instance_claims}
use Rattle.constraint_expand.specs.Books.{instance_of}
use Rattle.constraint_expand.specs.Shaped.{HaveClaimsIn, AreShaped, HasNoShape, IsFaultyAmongInstances}
use Rattle.constraint_expand.proofs.expansion.instances_with.Goals as goal

pub instances_of-requires-clause-within : goal.instances_of-requires-clause-within
instances_of-requires-clause-within c = λ k lt d.
    let g = c.args.system.now in
    let ps = map placed_of c.args.statements.now in
    let same : table_of c.in_ok-words.words ≡ words_of g.types (list_names c.args.names.now) (texts c.args.feats.now) =
    c.in_ok-words.ensures ∙ ap (λ (y : TypeTable). words_of y (list_names c.args.names.now) (texts c.args.feats.now)) c.types.ensures in
    subst (λ (v : WordTable). HaveClaimsIn g (instance_claims v (statement_at ps k))) (sym same) (c.requires.within k lt d)

pub returns-clause-instances : goal.returns-clause-instances
returns-clause-instances c =
    let g = c.args.system.now in
    let ps = map placed_of c.args.statements.now in
    let same : table_of c.in_ok-words.words ≡ words_of g.types (list_names c.args.names.now) (texts c.args.feats.now) =
    c.in_ok-words.ensures ∙ ap (λ (y : TypeTable). words_of y (list_names c.args.names.now) (texts c.args.feats.now)) c.types.ensures in
    subst (λ (v : WordTable). IfOk c.instances_of.result (λ is. AreShaped g v ps (map instance_of is.items))) same c.instances_of.ensures.instances

pub returns-clause-all : goal.returns-clause-all
returns-clause-all c =
    let g = c.args.system.now in
    let ps = map placed_of c.args.statements.now in
    let same : table_of c.in_ok-words.words ≡ words_of g.types (list_names c.args.names.now) (texts c.args.feats.now) =
    c.in_ok-words.ensures ∙ ap (λ (y : TypeTable). words_of y (list_names c.args.names.now) (texts c.args.feats.now)) c.types.ensures in
    subst (λ (v : WordTable). OnOk c.instances_of.result (HoldsOfNone defines_instance ps (HasNoShape g c.args.names.now.node_limit v))) same c.instances_of.ensures.all

pub returns-clause-fault : goal.returns-clause-fault
returns-clause-fault c =
    let g = c.args.system.now in
    let ps = map placed_of c.args.statements.now in
    let same : table_of c.in_ok-words.words ≡ words_of g.types (list_names c.args.names.now) (texts c.args.feats.now) =
    c.in_ok-words.ensures ∙ ap (λ (y : TypeTable). words_of y (list_names c.args.names.now) (texts c.args.feats.now)) c.types.ensures in
    subst (λ (v : WordTable). IfErr c.instances_of.result (IsFaultyAmongInstances g c.args.names.now.node_limit v ps)) same c.instances_of.ensures.fault
