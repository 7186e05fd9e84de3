use Rattle.std.proofs.Common.{◌≡◌, ◌≤◌, ◌+◌, length, map, subst, arith, ap, ◌∙◌}
use Rattle.std.proofs.lemmas.List.{map-append}
use Rattle.lexical_items.specs.Inner.Routes.{IsBelow, AreRoutes, route_seen}
use Rattle.lexical_items.proofs.Chains.{no_items}
use Rattle.lexical_items.proofs.Levels.{below_next_level, below_ended}
use Rattle.lexical_items.proofs.routes.all_routes.Goals as goal

pub returns-then-is_empty : goal.returns-then-is_empty
returns-then-is_empty g c =
    let fulls = c.args.grammar.now.fulls.now in
    let seen = route_seen (g.F.LexicalFulls.value fulls) in
    let none : length c.loop-depth.level.items ≡ 0 = grind arith in
    let low : c.loop-depth._depth ≤ c.args.most = grind arith in
    below_ended c.args.grammar.now.lexicon.now c.args.grammar.now.spelling.now (g.F.LexicalFulls.signs fulls) (g.F.LexicalFulls.entries_of fulls) (g.F.LexicalFulls.rules_of fulls) c.requires.grammar.numbered c.laws.ensures.order c.loop-depth._depth c.args.most (map seen c.loop-depth.routes.items) (map seen c.loop-depth.level.items) low
    (ap (map seen) (no_items c.loop-depth.level.items none)) c.loop-depth.invariant.done c.loop-depth.invariant.level

pub loop-depth-preserved : goal.loop-depth-preserved
loop-depth-preserved g c =
    let fulls = c.args.grammar.now.fulls.now in
    let seen = route_seen (g.F.LexicalFulls.value fulls) in
    record {
      done = below_next_level c.args.grammar.now.lexicon.now c.args.grammar.now.spelling.now (g.F.LexicalFulls.signs fulls) (g.F.LexicalFulls.entries_of fulls) (g.F.LexicalFulls.rules_of fulls) c.requires.grammar.numbered c.loop-depth._depth (map seen c.loop-depth.routes.items) (map seen c.loop-depth.level.items) (map seen c.append.new.self.items)
          c.loop-depth.invariant.done c.loop-depth.invariant.level (ap (map seen) c.in_ok-append.ensures.items ∙ map-append seen c.loop-depth.routes.items c.loop-depth.level.items);
      level = c.in_ok-next.ensures c.loop-depth._depth (rw c.deref.ensures.value c.loop-depth.invariant.level);
    }

pub next_routes-requires-clause-level : goal.next_routes-requires-clause-level
next_routes-requires-clause-level g c = (c.loop-depth._depth, rw c.deref.ensures.value c.loop-depth.invariant.level)

pub returns : goal.returns
returns g c =
    let fulls = c.args.grammar.now.fulls.now in
    let seen = route_seen (g.F.LexicalFulls.value fulls) in
    let same : c.loop-depth._depth ≡ c.args.most = grind arith in
    subst (λ n. AreRoutes c.args.grammar.now.lexicon.now c.args.grammar.now.spelling.now (g.F.LexicalFulls.signs fulls) (g.F.LexicalFulls.entries_of fulls) (g.F.LexicalFulls.rules_of fulls) (IsBelow c.args.grammar.now.lexicon.now c.args.grammar.now.spelling.now (g.F.LexicalFulls.signs fulls) (g.F.LexicalFulls.entries_of fulls) (g.F.LexicalFulls.rules_of fulls) (n + 1)) (map seen c.in_ok-all.all.items)) same
    (below_next_level c.args.grammar.now.lexicon.now c.args.grammar.now.spelling.now (g.F.LexicalFulls.signs fulls) (g.F.LexicalFulls.entries_of fulls) (g.F.LexicalFulls.rules_of fulls) c.requires.grammar.numbered c.loop-depth._depth (map seen c.loop-depth.routes.items) (map seen c.loop-depth.level.items) (map seen c.in_ok-all.all.items)
    c.loop-depth.invariant.done c.loop-depth.invariant.level (ap (map seen) c.in_ok-all.ensures ∙ map-append seen c.loop-depth.routes.items c.loop-depth.level.items))
