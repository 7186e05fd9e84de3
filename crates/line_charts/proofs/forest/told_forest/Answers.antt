use Rattle.std.proofs.Common.{◌≡◌, ◌<◌, ◌∙◌, All, List, ℕ, length, map, sym, ap, subst}
use Rattle.std.specs.Prelude.{string_bytes}
use Rattle.std.proofs.lemmas.List.{length-map}
use Rattle.chart_model.specs.Calculus.{Along}
use Rattle.chart_core.specs.Kept.{core_of, rows_in}
use Rattle.derivation.specs.Views.{derivation_of}
use Rattle.fs_unify.specs.Rules.{Grammar}
use Rattle.tree_model.specs.Mothers.{RuleSystem}
use Rattle.tree_model.specs.Signs.{rule_system}
use Rattle.book_signs.specs.Trees.{signs_of}
use Rattle.rule_trees.specs.Mothers.{IsShortIn}
use Rattle.lexical_items.specs.declared.lexeme.LexTree.{LexTree}
use Rattle.grammar_shapes.specs.declared.shapes.GrammarShapes.{GrammarShapes}
use Rattle.grammar_shapes.specs.Systems.{grammar_of, rules_of}
use Rattle.line_charts.specs.Views.{class_of}
use Rattle.line_charts.specs.Inner.Stages.{AreApart, AreNumbered}
use Rattle.line_charts.specs.Inner.Hosts.{key_of, row_of, trees_in, IsHostTellable, IsToldHost}
use Rattle.line_charts.specs.Inner.KeyedHosts.{AreBelonging, IsHostKeyed}
use Rattle.line_charts.specs.declared.hosts.Host.{Host}
use Rattle.line_charts.proofs.Told.{hosts_shaped, live, below, short, tellable, forest}
use Rattle.line_charts.proofs.forest.told_forest.Goals as goal

pub keyed_hosts-requires-clause-feats : goal.keyed_hosts-requires-clause-feats
keyed_hosts-requires-clause-feats g c =
    subst (λ (s : GrammarShapes). length c.args.grammar.now.feats.now ≡ length (grammar_of s).introducers) (sym c.shapes.ensures) (c.requires.grammar.feats ∙ ap (λ (g : Grammar). length g.introducers) (sym c.requires.grammar.shapes.grammar))

pub keyed_hosts-requires-clause-belonging : goal.keyed_hosts-requires-clause-belonging
keyed_hosts-requires-clause-belonging g c = subst (λ (s : GrammarShapes). AreBelonging s c.args.packed.finished) (sym c.shapes.ensures) c.requires.packed.3.belonging

pub keyed_hosts-requires-clause-hosts : goal.keyed_hosts-requires-clause-hosts
keyed_hosts-requires-clause-hosts g c =
    hosts_shaped c.args.grammar.now.signs.now c.args.grammar.now.shapes.now c.requires.grammar.shapes (rules_of c.args.grammar.now.shapes.now) c.requires.packed.1 c.requires.packed.0 c.args.packed c.requires.packed.3

pub numbers_of-requires-clause-within : goal.numbers_of-requires-clause-within
numbers_of-requires-clause-within g c =
    let p = c.requires.packed in
    subst (λ n. All (λ (h : Host). row_of h < n) c.deref.result.now) (sym c.rows.ensures)
    (subst (All (λ (h : Host). row_of h < length (rows_in (core_of c.args.packed.finished)))) (sym c.deref.ensures.value)
    (below c.args.grammar.now.signs.now c.args.grammar.now.shapes.now c.requires.grammar.shapes (rules_of c.args.grammar.now.shapes.now) p.1 p.0 c.args.packed p.3 (map string_bytes c.args.grammar.now.feats.now) c.in_ok-hosts.hosts.items c.sort_hosts.new.hosts.items c.in_ok-hosts.ensures.rows
    (subst (λ (s : GrammarShapes). All (IsHostKeyed s c.args.packed.finished (grammar_of s).types (map string_bytes c.args.grammar.now.feats.now)) c.in_ok-hosts.hosts.items) c.shapes.ensures c.in_ok-hosts.ensures.keyed) c.sort_hosts.ensures.moved))

pub numbers_of-requires-clause-apart : goal.numbers_of-requires-clause-apart
numbers_of-requires-clause-apart g c =
    let p = c.requires.packed in
    subst (AreApart row_of) (sym c.deref.ensures.value)
    (live c.args.grammar.now.signs.now c.args.grammar.now.shapes.now c.requires.grammar.shapes (rules_of c.args.grammar.now.shapes.now) p.1 p.0 c.args.packed p.3 (map string_bytes c.args.grammar.now.feats.now) c.in_ok-hosts.hosts.items c.sort_hosts.new.hosts.items c.in_ok-hosts.ensures.rows
    (subst (λ (s : GrammarShapes). All (IsHostKeyed s c.args.packed.finished (grammar_of s).types (map string_bytes c.args.grammar.now.feats.now)) c.in_ok-hosts.hosts.items) c.shapes.ensures c.in_ok-hosts.ensures.keyed) c.sort_hosts.ensures.moved).once

pub told_classes-requires-clause-short : goal.told_classes-requires-clause-short
told_classes-requires-clause-short g c =
    let p = c.requires.packed in
    subst (All (λ (h : Host). IsShortIn c.args.grammar.now.signs.now (key_of h).graph)) (sym c.deref-3.ensures.value)
    (short c.args.grammar.now.signs.now c.args.grammar.now.shapes.now c.requires.grammar.shapes (rules_of c.args.grammar.now.shapes.now) p.1 p.0 c.args.packed p.3 (map string_bytes c.args.grammar.now.feats.now) c.in_ok-hosts.hosts.items c.sort_hosts.new.hosts.items c.in_ok-hosts.ensures.rows
    (subst (λ (s : GrammarShapes). All (IsHostKeyed s c.args.packed.finished (grammar_of s).types (map string_bytes c.args.grammar.now.feats.now)) c.in_ok-hosts.hosts.items) c.shapes.ensures c.in_ok-hosts.ensures.keyed) c.sort_hosts.ensures.moved)

pub told_classes-requires-clause-tellable : goal.told_classes-requires-clause-tellable
told_classes-requires-clause-tellable g c =
    let p = c.requires.packed in
    let rows = rows_in (core_of c.args.packed.finished) in
    let rules = length (rule_system (signs_of c.args.grammar.now.signs.now)).rules in
    let table = c.deref-2.result.now in
    let long : length rows ≡ length table = sym (ap (λ (t : List ℕ). length t) c.deref-2.ensures.value ∙ c.in_ok-numbers.ensures.size ∙ c.rows.ensures) in
    subst (All (IsHostTellable rows (length c.args.trees.now) rules (length table))) (sym c.deref-3.ensures.value)
    (subst (λ n. All (IsHostTellable rows n rules (length table)) c.sort_hosts.new.hosts.items) (length-map c.args.trees.now (λ (x : LexTree _). derivation_of x.tree))
    (tellable c.args.grammar.now.signs.now c.args.grammar.now.shapes.now c.requires.grammar.shapes (rules_of c.args.grammar.now.shapes.now) p.1 p.0 c.args.packed p.3 (map string_bytes c.args.grammar.now.feats.now) c.in_ok-hosts.hosts.items c.sort_hosts.new.hosts.items c.in_ok-hosts.ensures.rows
    (subst (λ (s : GrammarShapes). All (IsHostKeyed s c.args.packed.finished (grammar_of s).types (map string_bytes c.args.grammar.now.feats.now)) c.in_ok-hosts.hosts.items) c.shapes.ensures c.in_ok-hosts.ensures.keyed) c.sort_hosts.ensures.moved (trees_in c.args.trees.now) p.2 rules (length table) (ap (λ (r : RuleSystem). length r.rules) c.requires.grammar.shapes.rules) long))

pub returns-clause-forest : goal.returns-clause-forest
returns-clause-forest g c = λ ls limits words lattice most trees_are chart.
    forest c.args.grammar.now.signs.now c.args.grammar.now.shapes.now c.requires.grammar.shapes limits ls c.args.packed chart (map string_bytes c.args.grammar.now.feats.now) c.in_ok-hosts.hosts.items c.sort_hosts.new.hosts.items c.in_ok-hosts.ensures.rows (subst (λ (s : GrammarShapes). All (IsHostKeyed s c.args.packed.finished (grammar_of s).types (map string_bytes c.args.grammar.now.feats.now)) c.in_ok-hosts.hosts.items) c.shapes.ensures c.in_ok-hosts.ensures.keyed)
    c.sort_hosts.ensures.moved c.sort_hosts.ensures.sorted (trees_in c.args.trees.now) trees_are c.requires.apart c.deref-2.result.now
    (subst (AreNumbered row_of c.sort_hosts.new.hosts.items) (sym c.deref-2.ensures.value) (subst (λ hs. AreNumbered row_of hs c.in_ok-numbers.numbers.items) c.deref.ensures.value c.in_ok-numbers.ensures.numbered)) (map class_of c.in_ok-told.told.items)
    (subst (λ hs. Along (IsToldHost (signs_of c.args.grammar.now.signs.now) (rows_in (core_of c.args.packed.finished)) (trees_in c.args.trees.now) c.deref-2.result.now) hs (map class_of c.in_ok-told.told.items)) c.deref-3.ensures.value c.in_ok-told.ensures.told) words lattice most
