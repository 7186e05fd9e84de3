use Rattle.std.proofs.Common.{◌∙◌, ap, sym}
use Rattle.std.proofs.lemmas.List.{take-map}
use Rattle.fs_graph.specs.Facts.{path_of}
use Rattle.body_facts.specs.Running.{running_of, moved}
use Rattle.body_facts.proofs.telling.Told.back_to.Goals as goal

pub returns : goal.returns
returns c =
    ap (λ p. moved p (running_of c.args.self.now)) (ap path_of c.truncate.ensures.items ∙ sym (take-map (λ f. f.0) c.args.depth c.args.self.now.path.items))
