use Rattle.std.proofs.Common.{[], ◌∷◌, ◌+◌, map, take, slice_index_or, ◌∙◌, ap, arith}
use Rattle.std.proofs.lemmas.List.{take_more, map-append}
use Rattle.fs_model.specs.Table.{is_under}
use Rattle.fs_closing.specs.declared.tasks.Bound.{Bound}
use Rattle.fs_closing.proofs.HasLemmas.{Has-at}
use Rattle.fs_unify.proofs.EnterLemmas.{joined_more}
use Rattle.fs_unify.proofs.CarryLemmas.{no_bound}
use Rattle.fs_unify.proofs.entering.push_bounds.Goals as goal

pub overflow_add-offset : goal.overflow_add-offset
overflow_add-offset c =
    let b = slice_index_or c.args.bounds.now c.loop-bound.bound-index no_bound in
    omega (arith, c.requires.small b (Has-at c.args.bounds.now c.loop-bound.bound-index no_bound c.loop-bound-test.true))

pub loop-bound-preserved : goal.loop-bound-preserved
loop-bound-preserved c =
    let n = c.args.offset in
    let i = c.loop-bound.bound-index in
    let list = c.args.bounds.now in
    let b = slice_index_or list i no_bound in
    let claim = λ (x : Bound). is_under (n + x.node) [] x.ty in
    let more = ap (map claim) (take_more list i no_bound c.loop-bound-test.true) ∙ map-append claim (take i list) (b ∷ []) in
    record {
      joined = λ all. joined_more (map claim (take i list)) _ (claim b) _ _ _ more (c.loop-bound.invariant.joined all) (c.in_ok-push_bound.ensures.work all);
      ready = λ size types count inside old.
          let x = inside b (Has-at list i no_bound c.loop-bound-test.true) in
          c.in_ok-push_bound.ensures.ready size types count x.0 x.1 (c.loop-bound.invariant.ready size types count inside old);
    }
