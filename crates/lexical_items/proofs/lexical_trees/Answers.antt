use Rattle.std.proofs.Common.{◌<◌, ◌+◌, length, map, subst}
use Rattle.morph_analysis.specs.LatticeViews.{lattice_of}
use Rattle.morph_analysis.specs.Made.{IsMadeChain, MayHalt}
use Rattle.lexical_items.specs.Inner.Making.{IsAllowedFull}
use Rattle.lexical_items.specs.Inner.Kept.{chain_in}
use Rattle.lexical_items.proofs.Kept.{full_chains, all_full, all_inside, all_answered, deep_answer}
use Rattle.lexical_items.proofs.lexical_trees.Goals as goal

pub trees_of-requires-clause-inside : goal.trees_of-requires-clause-inside
trees_of-requires-clause-inside g c =
    let fulls = c.args.grammar.now.fulls.now in
    all_inside (g.F.LexicalFulls.signs fulls) (g.F.LexicalFulls.entries_of fulls) (g.F.LexicalFulls.rules_of fulls) c.args.grammar.now.lexicon.now c.args.grammar.now.spelling.now c.requires.grammar.numbered c.args.grammar.now.feeds.now (lattice_of c.args.lattice.now) (c.args.most + 1) (g.F.LexicalFulls.value fulls) c.in-Ok.chains.items c.in-Ok.ensures.all

pub trees_of-requires-clause-full : goal.trees_of-requires-clause-full
trees_of-requires-clause-full g c =
    let fulls = c.args.grammar.now.fulls.now in
    all_full (g.F.LexicalFulls.signs fulls) (g.F.LexicalFulls.entries_of fulls) (g.F.LexicalFulls.rules_of fulls) c.args.grammar.now.lexicon.now c.args.grammar.now.spelling.now c.requires.grammar.numbered c.args.grammar.now.feeds.now (lattice_of c.args.lattice.now) (c.args.most + 1) (g.F.LexicalFulls.value fulls) c.in-Ok.chains.items c.in-Ok.ensures.all

pub returns-in_ok-trees-in-Ok : goal.returns-in_ok-trees-in-Ok
returns-in_ok-trees-in-Ok g c =
    let fulls = c.args.grammar.now.fulls.now in
    let value = g.F.LexicalFulls.value fulls in
    all_answered (g.F.LexicalFulls.signs fulls) (g.F.LexicalFulls.entries_of fulls) (g.F.LexicalFulls.rules_of fulls) value c.laws.ensures.entry_places c.laws.ensures.rule_places c.args.grammar.now.lexicon.now c.args.grammar.now.spelling.now c.requires.grammar.numbered c.args.grammar.now.feeds.now c.requires.grammar.feeds
    (lattice_of c.args.lattice.now) c.requires.valid c.args.most (map chain_in c.in-Ok.chains.items)
    (full_chains (g.F.LexicalFulls.signs fulls) (g.F.LexicalFulls.entries_of fulls) (g.F.LexicalFulls.rules_of fulls) c.args.grammar.now.lexicon.now c.args.grammar.now.spelling.now c.requires.grammar.numbered c.args.grammar.now.feeds.now (lattice_of c.args.lattice.now) (c.args.most + 1) value c.in-Ok.chains.items c.in-Ok.ensures.all)
    c.in_ok-trees-in-Ok.trees c.in_ok-trees-in-Ok.ensures

pub returns-in-Err-Enough : goal.returns-in-Err-Enough
returns-in-Err-Enough g c =
    let fulls = c.args.grammar.now.fulls.now in
    let signs = g.F.LexicalFulls.signs fulls in
    let entries = g.F.LexicalFulls.entries_of fulls in
    let rules = g.F.LexicalFulls.rules_of fulls in
    let l = lattice_of c.args.lattice.now in
    let deep = subst (MayHalt (λ rs. c.args.most < length rs) (IsMadeChain (IsAllowedFull signs entries rules c.args.grammar.now.feeds.now) c.args.grammar.now.lexicon.now c.args.grammar.now.spelling.now l (c.args.most + 1))) c.in-Err-Enough.field-0-is c.in-Err-Enough.ensures.halt in
    deep_answer signs entries rules c.laws.ensures.entry_places c.laws.ensures.rule_places c.args.grammar.now.lexicon.now c.args.grammar.now.spelling.now c.requires.grammar.numbered c.args.grammar.now.feeds.now c.requires.grammar.feeds l c.args.most deep.0 deep.1 deep.2
