use Rattle.std.proofs.Common.{◌≡◌, ◌≤◌, ◌∙◌, ◌++◌, length, ap, arith}
use Rattle.std.specs.List.{flat_map}
use Rattle.std.proofs.lemmas.List.{take_all}
use Rattle.type_hierarchy.specs.Decls.{texts}
use Rattle.grammar_types.proofs.SettleBodies.{term_top, top_flat}
use Rattle.grammar_types.proofs.declarations.push_top_names.Goals as goal

pub returns : goal.returns
returns c =
    let old = texts c.args.names.now.items in
    let items = c.args.body.now.terms.items in
    let past : length items ≤ c.loop-term.term-index = omega (arith, c.loop-term-test.false, c.deref-term-items.ensures.len, c.args.body.now.terms.ok) in
    c.loop-term.invariant ∙ ap (λ l. old ++ flat_map term_top l) (take_all c.loop-term.term-index items past) ∙ ap (λ l. old ++ l) (top_flat items)
