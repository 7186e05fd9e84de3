use Rattle.std.proofs.Common.{◌<◌, subst, arith}
use Rattle.type_hierarchy.specs.Inner.Ranks.{rank_of}
use Rattle.type_hierarchy.proofs.RaiseLemmas.{Has-index}
use Rattle.type_hierarchy.proofs.faults.have_ranks_below.Goals as goal

pub returns : goal.returns
returns c = λ _ p h. let i = Has-index p c.args.types.now h in subst (λ q. rank_of c.args.ranks.now q < c.args.bound) i.2 (c.loop-t.invariant i.0 (omega (arith, i.1)))
