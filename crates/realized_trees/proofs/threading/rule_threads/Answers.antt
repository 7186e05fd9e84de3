use Rattle.tree_model.specs.Signs.{rule_system}
use Rattle.book_signs.specs.Trees.{signs_of}
use Rattle.realized_trees.proofs.Rules.{facts_are, places_are, rule_shows}
use Rattle.realized_trees.proofs.threading.rule_threads.Goals as goal

pub returns : goal.returns
returns c = λ told rule e.
    let t = c.args.signs.now in
    let g = signs_of t in
    c.in_ok-yes.ensures told (rule_system g) rule (places_are g c.args.place rule _ e c.places.ensures.places)
    (rule_shows t c.structure.result.now c.structure.ensures.closed c.structure.ensures.short rule.facts (facts_are g c.args.place rule _ e c.structure.ensures.facts))
