use Rattle.std.proofs.Common.{◌≡◌, sym, subst, refl}
use Rattle.std.specs.Prelude.{◌↔◌, IsTrue}
use Rattle.fs_model.specs.Claims.{Has, IsBare}
use Rattle.fs_model.specs.Closure.{IsConsistent}
use Rattle.fs_model.specs.Sources.{Told}
use Rattle.fs_unify.specs.Rules.{Grammar, system_of}
use Rattle.fs_unify.specs.Placing.{IsPlacedIn, source_of}
use Rattle.line_charts.proofs.RootedLemmas.{placed_open, open_in, rooted_open}
use Rattle.line_charts.proofs.rooted.rooted_by.Goals as goal

pub unifies-requires-clause-bare : goal.unifies-requires-clause-bare
unifies-requires-clause-bare c = subst (λ (s : Grammar). IsBare (system_of s)) (sym c.system.ensures) c.laws.ensures.whole.bare

pub unifies-requires-clause-parts : goal.unifies-requires-clause-parts
unifies-requires-clause-parts c p h =
    let are : c.add.new.self ≡ placed_open c.structure.result.now c.args.graph.now = rw (c.in_ok-add.ensures.ok, c.in_ok-add_closed.ensures.ok, c.new-parts.ensures, c.new.ensures.items, c.new-2.ensures.items) refl in
    subst (λ (s : Grammar). IsPlacedIn s p) (sym c.system.ensures) (open_in c.args.signs.now c.structure.result.now c.args.graph.now c.structure.ensures.closed c.requires.short p (subst (Has p) are h))

pub returns : goal.returns
returns c =
    let are : c.add.new.self ≡ placed_open c.structure.result.now c.args.graph.now = rw (c.in_ok-add.ensures.ok, c.in_ok-add_closed.ensures.ok, c.new-parts.ensures, c.new.ensures.items, c.new-2.ensures.items) refl in
    rooted_open c.args.signs.now c.args.place c.structure.result.now c.args.graph.now c.add.new.self c.in_ok-yes.yes c.requires.within c.structure.ensures.facts c.structure.ensures.short c.requires.short are
    (subst (λ (s : Grammar). IsTrue c.in_ok-yes.yes ↔ IsConsistent (system_of s) (Told (source_of c.add.new.self))) c.system.ensures c.in_ok-yes.ensures.answer)
