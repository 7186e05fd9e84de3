use Rattle.std.proofs.Common.{◌∙◌, sym}
use Rattle.chart_model.specs.At.{from_get, at_below}
use Rattle.book_signs.specs.Trees.{signs_of, entries_of}
use Rattle.rule_trees.specs.Mothers.{view_in}
use Rattle.rule_trees.proofs.PlaceLemmas.{has_at, entry_at}
use Rattle.rule_trees.proofs.LexicalLemmas.{entry_full}
use Rattle.rule_trees.proofs.lexical.SignFullsLexicalFulls.entry.Goals as goal

pub structure-requires : goal.structure-requires
structure-requires c =
    let g = signs_of c.args.self.now.signs.now in
    let e = entry_at g c.args.place (has_at (entries_of g) c.requires.0 c.args.place c.requires.1) in
    at_below (from_get g.instances c.args.place e.instance e.at)

pub returns : goal.returns
returns c =
    let t = c.args.self.now.signs.now in
    let g = signs_of t in
    entry_full t c.args.place c.structure.result.now (view_in t c.in_ok-full.full.graph) (has_at (entries_of g) c.requires.0 c.args.place c.requires.1) c.structure.ensures.facts c.structure.ensures.closed c.structure.ensures.short
    (c.in-Ok.ensures.same ∙ sym c.in_ok-full.ensures)
