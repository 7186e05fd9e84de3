use Rattle.std.proofs.Common.{◌∙◌, ap}
use Rattle.generate_model.specs.Indexing.{having_of}
use Rattle.generate_model.proofs.ListLemmas.{having_noted}
use Rattle.generate_model.proofs.index.PredicateIndex.having.Goals as goal

pub returns : goal.returns
returns c = c.noted.ensures ∙ having_noted c.self.inside.keyed.entries c.args.pred.now ∙ ap (λ t. having_of t.keyed c.args.pred.now) c.self.view_is
