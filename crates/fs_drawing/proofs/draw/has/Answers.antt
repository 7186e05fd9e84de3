use Rattle.std.proofs.Common.{◌==◌, sym, ◌∙◌}
use Rattle.type_hierarchy.proofs.ListLemmas.{list_any-map}
use Rattle.fs_drawing.proofs.draw.has.Goals as goal

pub returns : goal.returns
returns c = c.contains.ensures.value ∙ sym (list_any-map (λ g. g == c.args.feat.0) (λ f. f.0) c.args.feats.now)
