use Rattle.std.proofs.Common.{◌∙◌, IfSome, ap, subst}
use Rattle.type_hierarchy.specs.Table.{TypeTable}
use Rattle.fs_unify.specs.Rules.{Grammar}
use Rattle.mrs_model.specs.Views.{meaning_of}
use Rattle.mrs_places.specs.Paths.{paths_of}
use Rattle.relation_fit.specs.Lists.{list_seen}
use Rattle.relation_fit.specs.Sought.{AreSought}
use Rattle.realized_trees.specs.Sieves.{IsThreaded}
use Rattle.realized_trees.proofs.sifting.sieve_of.Goals as goal

pub returns : goal.returns
returns c =
    let t = c.args.signs.now in
    let p = paths_of c.args.paths.now in
    record {
      threaded = subst (λ o. IfSome o (λ l. IsThreaded t p (list_seen l))) c.in-Some.is c.requires.threaded;
      reach = c.in_ok-leaves_reach.ensures c.if-not-branch.false;
      sought = subst (λ (ty : TypeTable). AreSought ty p (meaning_of c.args.mrs.now) c.in_ok-sought.sought.eps.items) (c.types.ensures ∙ ap (λ (g : Grammar). g.types) c.system.ensures) c.in_ok-sought.ensures;
    }
