use Rattle.std.proofs.Common.{◌≡◌, sym, subst, refl}
use Rattle.std.specs.Prelude.{◌↔◌, IsTrue}
use Rattle.fs_model.specs.Claims.{Has, IsBare}
use Rattle.fs_model.specs.Closure.{IsConsistent}
use Rattle.fs_model.specs.Sources.{Told}
use Rattle.fs_unify.specs.Rules.{Grammar, system_of}
use Rattle.fs_trim.specs.Cutting.{owed_of}
use Rattle.tree_model.specs.Mothers.{daughters_cut}
use Rattle.tree_model.specs.Signs.{rule_system}
use Rattle.fs_unify.specs.Placing.{IsPlacedIn, source_of}
use Rattle.book_signs.specs.Trees.{signs_of}
use Rattle.rule_trees.specs.Inner.Placed.{placed_both}
use Rattle.rule_trees.proofs.RootLemmas.{rooted_here, both_in}
use Rattle.rule_trees.proofs.roots.rooted_by.Goals as goal

pub unifies-requires-clause-bare : goal.unifies-requires-clause-bare
unifies-requires-clause-bare c = subst (λ (s : Grammar). IsBare (system_of s)) (sym c.system.ensures) c.laws.ensures.whole.bare

pub unifies-requires-clause-parts : goal.unifies-requires-clause-parts
unifies-requires-clause-parts c p h =
    let are : c.add_cut.new.self ≡ placed_both c.owed.result.now c.structure.result.now c.args.full.now = rw (c.in_ok-add_cut.ensures.ok, c.in_ok-add_closed.ensures.ok, c.new-parts.ensures, c.new.ensures.items, c.new-2.ensures.items) refl in
    subst (λ (s : Grammar). IsPlacedIn s p) (sym c.system.ensures) (both_in c.args.signs.now (owed_of (daughters_cut (rule_system (signs_of c.args.signs.now)))) c.owed.result.now c.owed.ensures c.structure.result.now c.args.full.now c.structure.ensures.closed c.requires.short c.requires.owes p (subst (Has p) are h))

pub returns : goal.returns
returns c =
    let are : c.add_cut.new.self ≡ placed_both c.owed.result.now c.structure.result.now c.args.full.now = rw (c.in_ok-add_cut.ensures.ok, c.in_ok-add_closed.ensures.ok, c.new-parts.ensures, c.new.ensures.items, c.new-2.ensures.items) refl in
    rooted_here c.args.signs.now c.owed.result.now c.args.place c.structure.result.now c.args.full.now c.add_cut.new.self c.in_ok-yes.yes c.requires.within c.structure.ensures.facts c.structure.ensures.short c.requires.short are
    (subst (λ (s : Grammar). IsTrue c.in_ok-yes.yes ↔ IsConsistent (system_of s) (Told (source_of c.add_cut.new.self))) c.system.ensures c.in_ok-yes.ensures.answer)
