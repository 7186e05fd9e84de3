use Rattle.std.proofs.Common.{sym, ◌∙◌}
use Rattle.type_hierarchy.proofs.ListLemmas.{list_any-map, any_here, any_next, any_end}
use Rattle.fs_graph.specs.declared.facts.Feat.{Feat}
use Rattle.fs_graph.specs.Facts.{path_of}
use Rattle.fs_unify.specs.Owing.{is_one_of}
use Rattle.fs_unify.proofs.OwedRows.{no_feat}
use Rattle.fs_unify.proofs.owed.holds_one.Goals as goal

pub returns-then-has : goal.returns-then-has
returns-then-has c =
    let test = λ (f : Feat). is_one_of (path_of c.args.feats.now) f.0 in
    sym (list_any-map (is_one_of (path_of c.args.feats.now)) (λ f. f.0) c.args.path.now
    ∙ any_here test c.args.path.now c.loop-feat.feat-index no_feat c.loop-feat-test.true c.loop-feat.invariant (sym c.has.ensures ∙ c.if-has.true))

pub loop-feat-preserved : goal.loop-feat-preserved
loop-feat-preserved c =
    let test = λ (f : Feat). is_one_of (path_of c.args.feats.now) f.0 in
    any_next test c.args.path.now c.loop-feat.feat-index no_feat c.loop-feat-test.true c.loop-feat.invariant (sym c.has.ensures ∙ c.if-has.false)

pub returns : goal.returns
returns c =
    let test = λ (f : Feat). is_one_of (path_of c.args.feats.now) f.0 in
    sym (list_any-map (is_one_of (path_of c.args.feats.now)) (λ f. f.0) c.args.path.now
    ∙ any_end test c.args.path.now c.loop-feat.feat-index c.loop-feat-test.false c.loop-feat.invariant)
