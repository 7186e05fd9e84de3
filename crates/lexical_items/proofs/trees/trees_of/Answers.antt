use Rattle.std.proofs.Common.{◌∙◌, [], ◌∷◌, length, map, sym, ap, subst, arith}
use Rattle.std.proofs.lemmas.List.{map-append}
use Rattle.std.proofs.lemmas.Iterator.Adapters.{YieldsList-from_vec}
use Rattle.std.proofs.lemmas.Iterator.Consumers.{YieldsList-end, YieldsList-turn}
use Rattle.morph_analysis.proofs.Lists.{same_map}
use Rattle.lexical_items.specs.Views.{lexeme_seen}
use Rattle.lexical_items.specs.Inner.Kept.{chain_in}
use Rattle.lexical_items.proofs.Kept.{IsKeptOf, kept_start, kept_push, kept_deep, full_at, inside_at}
use Rattle.lexical_items.proofs.trees.trees_of.Goals as goal

pub loop-one-init : goal.loop-one-init
loop-one-init g c =
    let fulls = c.args.fulls.now in
    subst (λ xs. IsKeptOf (g.F.LexicalFulls.signs fulls) (g.F.LexicalFulls.entries_of fulls) (g.F.LexicalFulls.rules_of fulls) c.args.most [] (map (lexeme_seen (g.F.LexicalFulls.value fulls)) xs)) (sym c.in_ok-trees.ensures.items)
    (kept_start (g.F.LexicalFulls.signs fulls) (g.F.LexicalFulls.entries_of fulls) (g.F.LexicalFulls.rules_of fulls) c.args.most)

pub tree_of-requires : goal.tree_of-requires
tree_of-requires g c =
    let fulls = c.args.fulls.now in
    let turn = YieldsList-turn (YieldsList-from_vec c.args.chains.items (cc) (cc)) c.loop-one.yielded _ c.loop-one.yielded_by _ c.next.new.self c.in-Some.one c.in-Some.is c.next.ensures.steps in
    inside_at (g.F.LexicalFulls.entries_of fulls) (g.F.LexicalFulls.rules_of fulls) c.args.chains.items (length c.loop-one.yielded) c.in-Some.one c.requires.inside turn.0 turn.1

pub returns-then-len-most : goal.returns-then-len-most
returns-then-len-most g c =
    let fulls = c.args.fulls.now in
    let value = g.F.LexicalFulls.value fulls in
    let turn = YieldsList-turn (YieldsList-from_vec c.args.chains.items (cc) (cc)) c.loop-one.yielded _ c.loop-one.yielded_by _ c.next.new.self c.in-Some.one c.in-Some.is c.next.ensures.steps in
    kept_deep (g.F.LexicalFulls.signs fulls) (g.F.LexicalFulls.entries_of fulls) (g.F.LexicalFulls.rules_of fulls) value c.args.most c.args.chains.items (length c.loop-one.yielded) c.in-Some.one turn.0 turn.1 c.requires.full (grind arith)

pub loop-one-preserved : goal.loop-one-preserved
loop-one-preserved g c =
    let fulls = c.args.fulls.now in
    let value = g.F.LexicalFulls.value fulls in
    let x = c.in-Some.one in
    let turn = YieldsList-turn (YieldsList-from_vec c.args.chains.items (cc) (cc)) c.loop-one.yielded _ c.loop-one.yielded_by _ c.next.new.self x c.in-Some.is c.next.ensures.steps in
    kept_push (g.F.LexicalFulls.signs fulls) (g.F.LexicalFulls.entries_of fulls) (g.F.LexicalFulls.rules_of fulls) value c.args.most c.loop-one.yielded x (map (lexeme_seen value) c.loop-one.trees.items) (map (lexeme_seen value) c.push.new.self.items) (lexeme_seen value c.in_ok-tree_of.field-0)
    c.loop-one.invariant (full_at (g.F.LexicalFulls.signs fulls) (g.F.LexicalFulls.entries_of fulls) (g.F.LexicalFulls.rules_of fulls) value c.args.chains.items (length c.loop-one.yielded) x turn.0 turn.1 c.requires.full) (grind arith)
    c.in_ok-tree_of.ensures (ap (map (lexeme_seen value)) c.in_ok-push.ensures.items ∙ map-append (lexeme_seen value) c.loop-one.trees.items (c.in_ok-tree_of.field-0 ∷ []))

pub returns : goal.returns
returns g c =
    let fulls = c.args.fulls.now in
    let value = g.F.LexicalFulls.value fulls in
    let end = YieldsList-end (YieldsList-from_vec c.args.chains.items (cc) (cc)) c.loop-one.yielded _ c.loop-one.yielded_by _ c.next.new.self c.in-None.is c.next.ensures.steps in
    let all = subst (λ xs. IsKeptOf (g.F.LexicalFulls.signs fulls) (g.F.LexicalFulls.entries_of fulls) (g.F.LexicalFulls.rules_of fulls) c.args.most (map chain_in xs) (map (lexeme_seen value) c.loop-one.trees.items)) (sym (same_map c.loop-one.yielded) ∙ end.0) c.loop-one.invariant in
    (all.low, all.keeps)
