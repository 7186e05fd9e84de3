use Rattle.book_signs.specs.Trees.{signs_of}
use Rattle.std.proofs.Common.{map}
use Rattle.forest_unpack.specs.Parts.{parts_of}
use Rattle.rule_trees.specs.Mothers.{view_in}
use Rattle.rule_trees.proofs.LineLemmas.{numbered_below, phrase_daughters, full_placed, full_numbered, match_both}
use Rattle.lexical_items.specs.Views.{lexeme_seen}
use Rattle.rule_trees.proofs.OweLemmas.{parts_made}
use Rattle.rule_trees.proofs.line.LineFullsFulls.apply.Goals as goal

pub bounds-phrase_rules-rule : goal.bounds-phrase_rules-rule
bounds-phrase_rules-rule c = numbered_below (signs_of c.args.self.now.signs.now) c.phrase_rules.result.now c.args.rule c.phrase_rules.ensures c.requires.rule.0

pub mother_of-requires-clause-rule : goal.mother_of-requires-clause-rule
mother_of-requires-clause-rule c = phrase_daughters (signs_of c.args.self.now.signs.now) c.phrase_rules.result.now c.args.rule 0 c.args.parts.now.count c.phrase_rules.ensures c.requires.rule

pub mother_of-requires-clause-made : goal.mother_of-requires-clause-made
mother_of-requires-clause-made c =
    let t = c.args.self.now.signs.now in
    parts_made (signs_of t) (map (lexeme_seen (λ full. view_in t full.graph)) c.args.self.now.leaves.now) c.args.self.now.end (λ f. view_in t f.graph) (parts_of c.args.parts.now) c.requires.reached

pub returns-in-Ok : goal.returns-in-Ok
returns-in-Ok c =
    let g = signs_of c.args.self.now.signs.now in
    let rules = c.phrase_rules.result.now in
    let fs = map (λ f. view_in c.args.self.now.signs.now f.graph) (parts_of c.args.parts.now) in
    match_both c.in-Ok.full
    (λ no v h. no v (full_placed g rules c.args.rule 0 fs v c.phrase_rules.ensures c.requires.rule.0 h))
    (λ full h. full_numbered g rules c.args.rule 0 fs (view_in c.args.self.now.signs.now full.graph) c.phrase_rules.ensures c.requires.rule.0 h)
    c.in-Ok.ensures.full
