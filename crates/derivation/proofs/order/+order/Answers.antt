use Rattle.std.proofs.Common.{◌≡◌, length, map, min, Vec, Global, get_or, sym, ap, subst, ◌∙◌, arith}
use Rattle.std.specs.Arc.{arc_value}
use Rattle.derivation.specs.declared.Tree.{Tree}
use Rattle.derivation.specs.Counted.{IsCounted, AreCounted}
use Rattle.derivation.proofs.Rows.{derivation_of-Lexical}
use Rattle.derivation.proofs.Counting.{opened, counted_at}
use Rattle.derivation.proofs.Weights.{weight, weight_of, weight_at, weight-Phrase}
use Rattle.std.proofs.lemmas.Slice.Zip.{zip_end, zip_turn}
use Rattle.derivation.specs.Views.{derivation_of}
use Rattle.std.specs.Option.{option_cmp}
use Rattle.std.specs.Ordering.{nat_cmp, on, ordering_then}
use Rattle.std.specs.Cmp.Lexicographic.{slice_cmp}
use Rattle.std.specs.String.{string_bytes}
use Rattle.derivation.specs.Order.{compare_trees, compare_pairs, inwards}
use Rattle.derivation.proofs.Orders.{outermost_first, compare_phrases, slice_cmp-end}
use Rattle.derivation.proofs.order.+order.Goals as goal

pub compare_by-returns-in-Lexical-other : goal.compare_by-returns-in-Lexical-other
compare_by-returns-in-Lexical-other t c =
    let a = c.in-Lexical in
    let b = c.in-Lexical-other in
    let words = slice_cmp (slice_cmp nat_cmp) (map string_bytes (arc_value a.words).items) (map string_bytes (arc_value b.other_words).items) in
    let nodes = option_cmp compare_pairs a.nodes b.other_nodes in
    let chains = slice_cmp nat_cmp (inwards a.entry (arc_value a.rules).items) (inwards b.other_entry (arc_value b.other_rules).items) in
    let value : c.then-in-Lexical-other.result ≡ ordering_then (ordering_then chains words) nodes = cc in
    rw (a.is, b.is, derivation_of-Lexical a.entry a.rules a.words a.nodes, derivation_of-Lexical b.other_entry b.other_rules b.other_words b.other_nodes) (value ∙ outermost_first a.entry (arc_value a.rules).items b.other_entry (arc_value b.other_rules).items words nodes)

pub compare_by-returns-in-Equal : goal.compare_by-returns-in-Equal
compare_by-returns-in-Equal t c =
    compare_phrases c.args.tree.now c.args.other.now c.in-Phrase.rule c.in-Phrase.words c.in-Phrase-other-2.other_rule c.in-Phrase-other-2.words c.in-Phrase.daughters c.in-Phrase-other-2.others
    c.deref-in-Equal-2.result.now c.deref-in-Equal-4.result.now _ c.in-Phrase.is c.in-Phrase-other-2.is
    (c.deref-in-Equal-2.ensures.value ∙ ap (λ (ds : Vec Tree Global). ds.items) c.deref-in-Equal.ensures)
    (c.deref-in-Equal-4.ensures.value ∙ ap (λ (ds : Vec Tree Global). ds.items) c.deref-in-Equal-3.ensures) c.in-Equal.ensures c.compare_daughters.ensures

pub compare_in_turn-returns : goal.compare_in_turn-returns
compare_in_turn-returns t c =
    let ends : length c.loop-tree.yielded ≡ min (length c.args.trees.now) (length c.args.others.now) =
    zip_end c.args.trees.now c.args.others.now c.loop-tree.yielded _ _ c.next.new.self _ (cc) (cc) c.loop-tree.yielded_by c.in-None.is c.next.ensures.steps in
    c.cmp.ensures ∙ sym (slice_cmp-end (on derivation_of compare_trees) c.args.trees.now c.args.others.now _ ends) ∙ sym c.loop-tree.invariant

pub compare_by-compare_daughters-requires : goal.compare_by-compare_daughters-requires
compare_by-compare_daughters-requires t c =
    let a = c.in-Phrase in
    let b = c.in-Phrase-other-2 in
    let left = c.deref-in-Equal-2.ensures.value ∙ ap (λ (ds : Vec Tree Global). ds.items) c.deref-in-Equal.ensures in
    let right = c.deref-in-Equal-4.ensures.value ∙ ap (λ (ds : Vec Tree Global). ds.items) c.deref-in-Equal-3.ensures in
    let whole = weight-Phrase a.rule a.words a.daughters in
    let is = ap (λ d. weight (derivation_of d)) a.is in
    let same = ap weight_of left in (
      omega (arith, whole, is, same),
      λ h. (
        subst AreCounted (sym left) (opened c.args.tree.now a.rule a.words a.daughters a.is (c.requires h).0).1,
        subst AreCounted (sym right) (opened c.args.other.now b.other_rule b.words b.others b.is (c.requires h).1).1,
      ),
    )

pub compare_in_turn-compare_by-requires : goal.compare_in_turn-compare_by-requires
compare_in_turn-compare_by-requires t c =
    let turn = zip_turn c.args.trees.now c.args.others.now c.loop-tree.yielded _ _ c.next.new.self _ (cc) (cc) c.loop-tree.yielded_by _ c.in-Some.is c.next.ensures.steps in
    let k = length c.loop-tree.yielded in
    let tree = c.in-Some.tree.now in
    let other = c.in-Some.other.now in
    let first : tree ≡ get_or c.args.trees.now k tree = cc (turn.2 tree) in
    let second : other ≡ get_or c.args.others.now k other = cc (turn.3 other) in
    let light = weight_at c.args.trees.now k tree turn.0 in
    let is = ap (λ d. weight (derivation_of d)) first in (
      omega (arith, light, is),
      λ h. (
        subst IsCounted (sym first) (counted_at c.args.trees.now k tree (c.requires h).0 turn.0),
        subst IsCounted (sym second) (counted_at c.args.others.now k other (c.requires h).1 turn.1),
      ),
    )
