use Rattle.std.proofs.Common.{◌≡◌, Some, None, refl, sym, subst}
use Rattle.std.specs.Prelude.{option_map}
use Rattle.fs_model.specs.Claims.{Has, IsBare}
use Rattle.fs_model.specs.Sources.{IsUnified, IsGraphOf}
use Rattle.fs_graph.specs.GraphMap.{reader_of}
use Rattle.fs_trim.specs.Cutting.{owed_of}
use Rattle.fs_model.specs.Closure.{AreConsistent}
use Rattle.tree_model.specs.Structures.{Says}
use Rattle.tree_model.specs.Mothers.{Meant, daughters_cut}
use Rattle.tree_model.specs.Signs.{rule_system}
use Rattle.book_signs.specs.Trees.{signs_of}
use Rattle.rule_trees.proofs.OweLemmas.{full_owes}
use Rattle.fs_unify.specs.Rules.{Grammar, system_of}
use Rattle.fs_unify.specs.Placing.{IsPlacedIn, source_of}
use Rattle.tree_structures.proofs.Meaning.{alone_at, alone_in, alone_consistent, alone_meant}
use Rattle.tree_structures.proofs.closing.closed_of.Goals as goal

pub unify-requires-clause-bare : goal.unify-requires-clause-bare
unify-requires-clause-bare c = subst (λ (s : Grammar). IsBare (system_of s)) (sym c.system.ensures) c.laws.ensures.whole.bare

pub unify-requires-clause-parts : goal.unify-requires-clause-parts
unify-requires-clause-parts c p h =
    let graph = c.args.full.now.graph.plain in
    let are : c.add_cut.new.self ≡ alone_at c.owed.result.now graph = rw (c.in_ok-add_cut.ensures.ok, c.new-parts.ensures, c.new.ensures.items, c.graph.ensures) refl in
    let short = c.laws-2.ensures.short in
    subst (λ (s : Grammar). IsPlacedIn s p) (sym c.system.ensures) (alone_in c.args.signs.now c.owed.result.now graph short (owed_of (daughters_cut (rule_system (signs_of c.args.signs.now)))) c.owed.ensures
    (full_owes c.args.signs.now c.args.full.now.graph c.requires.made) p (subst (Has p) are h))

pub unreachable-requires : goal.unreachable-requires
unreachable-requires c =
    let graph = c.args.full.now.graph.plain in
    let t = c.args.signs.now in
    let are : c.add_cut.new.self ≡ alone_at c.owed.result.now graph = rw (c.in_ok-add_cut.ensures.ok, c.new-parts.ensures, c.new.ensures.items, c.graph.ensures) refl in
    let told = subst (λ (s : Grammar). IsUnified (system_of s) (source_of c.add_cut.new.self) (option_map reader_of c.in_ok-graph.field-0)) c.system.ensures c.in_ok-graph.ensures.answer in
    let none = subst (λ o. IsUnified (system_of t.book.system) (source_of c.add_cut.new.self) (option_map reader_of o)) c.in-None.is told in
    let alone = subst (λ ps. IsUnified (system_of t.book.system) (source_of ps) None) are none in
    let sound = subst (λ f. AreConsistent (signs_of t).system (Meant (rule_system (signs_of t)) f)) c.laws-2.ensures.seen c.requires.sound in
    alone (alone_consistent t c.owed.result.now graph c.laws-2.ensures.short sound)

pub returns-clause-meant : goal.returns-clause-meant
returns-clause-meant c =
    let graph = c.args.full.now.graph.plain in
    let t = c.args.signs.now in
    let are : c.add_cut.new.self ≡ alone_at c.owed.result.now graph = rw (c.in_ok-add_cut.ensures.ok, c.new-parts.ensures, c.new.ensures.items, c.graph.ensures) refl in
    let told = subst (λ (s : Grammar). IsUnified (system_of s) (source_of c.add_cut.new.self) (option_map reader_of c.in_ok-graph.field-0)) c.system.ensures c.in_ok-graph.ensures.answer in
    let some = subst (λ o. IsUnified (system_of t.book.system) (source_of c.add_cut.new.self) (option_map reader_of o)) c.in-Some.is told in
    let alone = subst (λ ps. IsUnified (system_of t.book.system) (source_of ps) (Some (reader_of c.in-Some.graph))) are some in
    record {
      graph_is = c.nodes-nodes.ensures.graph;
      structure = subst (λ f. IsGraphOf (system_of t.book.system) (Says (signs_of t).paths f) (reader_of c.in-Some.graph)) (sym c.laws-2.ensures.seen)
          (alone_meant t c.owed.result.now graph c.laws-2.ensures.short (reader_of c.in-Some.graph) alone.1);
    }
