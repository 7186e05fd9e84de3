use Rattle.fs_unify.proofs.LimitLemmas.{laid_plan, laid_count}
use Rattle.fs_unify.proofs.limited.has_few.Goals as goal

pub few_paths-requires : goal.few_paths-requires
few_paths-requires c = record {
  plan = laid_plan c.lay_out.new.picture c.deref.result.now c.deref-2.result.now c.deref.ensures.value c.deref-2.ensures.value c.in_ok-lay_out.ensures.0;
}

pub returns : goal.returns
returns c =
    laid_count c.args.nodes.now c.requires.whole c.none.result c.none.ensures.at_root c.none.ensures.anywhere c.lay_out.new.picture c.deref.result.now c.deref-2.result.now
    c.deref.ensures.value c.deref-2.ensures.value c.in_ok-lay_out.ensures.0 c.in_ok-lay_out.ensures.1 c.args.limit c.in_ok-few.few c.in_ok-few.ensures
