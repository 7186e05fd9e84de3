use Rattle.std.proofs.Common.{subst}
use Rattle.forest_unpack.specs.Inner.Classes.{IsAt}
use Rattle.forest_unpack.proofs.Raising.{at_low}
use Rattle.forest_unpack.proofs.tallies.raise_at.Goals as goal

pub raise-requires : goal.raise-requires
raise-requires g c =
    let there = subst (λ xs. IsAt xs c.in-Some.place c.args.number) c.deref.ensures.value c.in-Some.ensures in
    at_low c.args.made.now.items c.in-Some.place there.class there.at

pub returns-in-Some-clause-more : goal.returns-in-Some-clause-more
returns-in-Some-clause-more g c = λ yes. record {
  place = c.in-Some.place;
  at = subst (λ xs. IsAt xs c.in-Some.place c.args.number) c.deref.ensures.value c.in-Some.ensures;
  raised = c.raise.ensures;
}
