use Rattle.std.proofs.Common.{◌<◌, List, length, sym, subst}
use Rattle.type_hierarchy.specs.Decls.{texts}
use Rattle.fs_graph.specs.declared.facts.Fact.{Fact}
use Rattle.forced_types.specs.Views.{AreFactsIn}
use Rattle.constraint_expand.specs.Statements.{statement_at}
use Rattle.constraint_expand.specs.Systems.{settled_of}
use Rattle.constraint_expand.specs.Faults.{claims_of_definition}
use Rattle.grammar_files.specs.WalkViews.{walked_of}
use Rattle.fault_details.proofs.Systems.{facts-some, verdicts-moved, lacks-moved, lack-back}
use Rattle.fault_details.proofs.structures.verdict_at.Goals as goal

-- `c.deref` is the slice of the facts
pub lacking_verdict-requires-clause-some : goal.lacking_verdict-requires-clause-some
lacking_verdict-requires-clause-some c =
    let t = c.args.typed.now in
    subst (λ (l : List Fact). 0 < length l) (sym c.deref.ensures.value)
    (facts-some c.in-Ok.facts.items t.system (settled_of c.args.names.now) (texts t.feats.items) (statement_at (walked_of c.args.walked.now).statements c.args.k) c.in-Ok.ensures.claims)

pub lacking_verdict-requires-clause-within : goal.lacking_verdict-requires-clause-within
lacking_verdict-requires-clause-within c = subst (λ (l : List Fact). AreFactsIn c.args.typed.now.system l) (sym c.deref.ensures.value) c.in-Ok.ensures.within

pub returns-in-Ok-clause-verdict : goal.returns-in-Ok-clause-verdict
returns-in-Ok-clause-verdict c =
    let t = c.args.typed.now in
    verdicts-moved t.system c.args.names.now.node_limit c.in-Ok.facts.items c.deref.result.now
    (claims_of_definition t.system (settled_of c.args.names.now) (texts t.feats.items) (statement_at (walked_of c.args.walked.now).statements c.args.k)) c.lacking_verdict.result
    c.in-Ok.ensures.claims c.deref.ensures.value c.lacking_verdict.ensures.verdict

pub returns-in-Ok-clause-lacks : goal.returns-in-Ok-clause-lacks
returns-in-Ok-clause-lacks c =
    let t = c.args.typed.now in
    lacks-moved t.system c.args.names.now.node_limit c.in-Ok.facts.items c.deref.result.now
    (claims_of_definition t.system (settled_of c.args.names.now) (texts t.feats.items) (statement_at (walked_of c.args.walked.now).statements c.args.k)) c.lacking_verdict.result
    c.in-Ok.ensures.claims c.deref.ensures.value c.lacking_verdict.ensures.none

pub lacking_verdict-requires-clause-bare : goal.lacking_verdict-requires-clause-bare
lacking_verdict-requires-clause-bare c = c.requires.typed.bare

pub returns-in-Ok-clause-read : goal.returns-in-Ok-clause-read
returns-in-Ok-clause-read c = λ unread lack.
    let t = c.args.typed.now in
    c.lacking_verdict.ensures.read unread
    (lack-back t.system c.args.names.now.node_limit c.in-Ok.facts.items c.deref.result.now
    (claims_of_definition t.system (settled_of c.args.names.now) (texts t.feats.items) (statement_at (walked_of c.args.walked.now).statements c.args.k))
    c.in-Ok.ensures.claims c.deref.ensures.value lack)
