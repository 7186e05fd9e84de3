use Rattle.std.proofs.Common.{nat_eq, ◌∙◌, sym}
use Rattle.std.specs.Cmp.Derive.Mapped.{pointwise-map}
use Rattle.fs_graph.specs.declared.facts.Feat.{Feat}
use Rattle.sieve.proofs.quick.is_one.Goals as goal

pub returns : goal.returns
returns c = c.eq.ensures ∙ sym (pointwise-map (λ (f : Feat). f.0) nat_eq c.args.a.now c.args.b.now)
