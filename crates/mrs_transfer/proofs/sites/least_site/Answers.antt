use Rattle.std.proofs.Common.{◌≡◌, ℕ, List, [], ◌∙◌, sym, subst}
use Rattle.std.specs.Prelude.{map, string_bytes}
use Rattle.mrs_model.specs.Views.{meaning_of}
use Rattle.transfer_model.specs.Sites.{Site, IsSite, IsLeastSite}
use Rattle.transfer_model.specs.Views.{rule_of, element_of}
use Rattle.mrs_transfer.specs.declared.bound.Pair.{Pair}
use Rattle.mrs_transfer.specs.declared.matching.Sides.{Sides}
use Rattle.mrs_transfer.specs.Inner.Matching.{Task, task_of, IsTask, IsPlaced, Solves, Begins}
use Rattle.mrs_transfer.proofs.Matches.{task_in, start, no_pairs, rule_task, site_from, site_to}
use Rattle.mrs_transfer.proofs.Choosing.{sides_task}
use Rattle.mrs_transfer.proofs.sites.least_site.Goals as goal

pub find-requires-clause-task : goal.find-requires-clause-task
find-requires-clause-task g c =
    let m = meaning_of c.args.mrs.now in
    let r = c.args.rule.now in
    let sides : Sides = record { eps = c.deref.result; all = c.deref-2.result; letters = c.deref-3.result; elements = c.deref-4.result; given = c.deref-5.result } in
    let e : task_of sides ≡ task_in m (map string_bytes r.letters.items) (map element_of r.elements.items) [] = sides_task sides c.args.mrs.now.eps.items c.args.mrs.now.vars.items r.letters.items r.elements.items [] c.deref.ensures.value c.deref-2.ensures.value c.deref-3.ensures.value c.deref-4.ensures.value (c.deref-5.ensures.value ∙ c.new-given.ensures.items) in
    subst (λ (z : Task). IsTask z) (sym e) (rule_task m r c.requires.valid c.requires.rule)

pub find-requires-clause-placed : goal.find-requires-clause-placed
find-requires-clause-placed g c =
    let m = meaning_of c.args.mrs.now in
    let r = c.args.rule.now in
    let sides : Sides = record { eps = c.deref.result; all = c.deref-2.result; letters = c.deref-3.result; elements = c.deref-4.result; given = c.deref-5.result } in
    let e : task_of sides ≡ task_in m (map string_bytes r.letters.items) (map element_of r.elements.items) [] = sides_task sides c.args.mrs.now.eps.items c.args.mrs.now.vars.items r.letters.items r.elements.items [] c.deref.ensures.value c.deref-2.ensures.value c.deref-3.ensures.value c.deref-4.ensures.value (c.deref-5.ensures.value ∙ c.new-given.ensures.items) in
    subst (λ (z : Task). IsPlaced z c.new-places.result.items c.new-pairs.result.items) (sym e)
    (subst (λ (z : List ℕ). IsPlaced (task_in m (map string_bytes r.letters.items) (map element_of r.elements.items) []) z c.new-pairs.result.items) (sym c.new-places.ensures.items)
    (subst (λ (z : List Pair). IsPlaced (task_in m (map string_bytes r.letters.items) (map element_of r.elements.items) []) [] z) (sym c.new-pairs.ensures.items)
    (start (task_in m (map string_bytes r.letters.items) (map element_of r.elements.items) []) (no_pairs m.vars (map string_bytes r.letters.items)))))

pub find-requires-clause-asks : goal.find-requires-clause-asks
find-requires-clause-asks g c = λ qs vs h.
    let m = meaning_of c.args.mrs.now in
    let r = c.args.rule.now in
    let sides : Sides = record { eps = c.deref.result; all = c.deref-2.result; letters = c.deref-3.result; elements = c.deref-4.result; given = c.deref-5.result } in
    let e : task_of sides ≡ task_in m (map string_bytes r.letters.items) (map element_of r.elements.items) [] = sides_task sides c.args.mrs.now.eps.items c.args.mrs.now.vars.items r.letters.items r.elements.items [] c.deref.ensures.value c.deref-2.ensures.value c.deref-3.ensures.value c.deref-4.ensures.value (c.deref-5.ensures.value ∙ c.new-given.ensures.items) in
    (c.requires.valid, c.requires.rule, site_from m r qs vs (subst (λ (z : Task). Solves z qs vs) e h))

pub returns-in-None-clause-none : goal.returns-in-None-clause-none
returns-in-None-clause-none g c = λ allows a s h.
    let m = meaning_of c.args.mrs.now in
    let r = c.args.rule.now in
    let sides : Sides = record { eps = c.deref.result; all = c.deref-2.result; letters = c.deref-3.result; elements = c.deref-4.result; given = c.deref-5.result } in
    let e : task_of sides ≡ task_in m (map string_bytes r.letters.items) (map element_of r.elements.items) [] = sides_task sides c.args.mrs.now.eps.items c.args.mrs.now.vars.items r.letters.items r.elements.items [] c.deref.ensures.value c.deref-2.ensures.value c.deref-3.ensures.value c.deref-4.ensures.value (c.deref-5.ensures.value ∙ c.new-given.ensures.items) in
    let nowhere = rw c.in-None.is at c.in_ok-find.ensures.none in
    nowhere.none allows s.places s.vars a (subst (λ (z : Task). Solves z s.places s.vars) (sym e) (site_to m r s h.site)) (subst (λ (z : List ℕ). Begins z s.places) (sym c.new-places.ensures.items) tt) h

pub returns-clause-site : goal.returns-clause-site
returns-clause-site g c =
    let m = meaning_of c.args.mrs.now in
    let r = c.args.rule.now in
    let sides : Sides = record { eps = c.deref.result; all = c.deref-2.result; letters = c.deref-3.result; elements = c.deref-4.result; given = c.deref-5.result } in
    let e : task_of sides ≡ task_in m (map string_bytes r.letters.items) (map element_of r.elements.items) [] = sides_task sides c.args.mrs.now.eps.items c.args.mrs.now.vars.items r.letters.items r.elements.items [] c.deref.ensures.value c.deref-2.ensures.value c.deref-3.ensures.value c.deref-4.ensures.value (c.deref-5.ensures.value ∙ c.new-given.ensures.items) in
    let least = rw c.in-Some.is at c.in_ok-find.ensures.some in
    subst (λ (z : Site). IsSite m (rule_of r) z) (sym c.new-site.ensures)
    (site_from m r c.find.new.places.items c.in-Some.vars.items (subst (λ (z : Task). Solves z c.find.new.places.items c.in-Some.vars.items) e least.solves))

pub returns-clause-least : goal.returns-clause-least
returns-clause-least g c = λ allows a.
    let m = meaning_of c.args.mrs.now in
    let r = c.args.rule.now in
    let sides : Sides = record { eps = c.deref.result; all = c.deref-2.result; letters = c.deref-3.result; elements = c.deref-4.result; given = c.deref-5.result } in
    let e : task_of sides ≡ task_in m (map string_bytes r.letters.items) (map element_of r.elements.items) [] = sides_task sides c.args.mrs.now.eps.items c.args.mrs.now.vars.items r.letters.items r.elements.items [] c.deref.ensures.value c.deref-2.ensures.value c.deref-3.ensures.value c.deref-4.ensures.value (c.deref-5.ensures.value ∙ c.new-given.ensures.items) in
    let least = rw c.in-Some.is at c.in_ok-find.ensures.some in
    subst (λ (z : Site). IsLeastSite allows c.args.number (rule_of r) m z) (sym c.new-site.ensures)
    (record {
      applies = least.taken allows a;
      least = λ t h b. least.least allows t.places t.vars a (subst (λ (z : Task). Solves z t.places t.vars) (sym e) (site_to m r t h.site)) (subst (λ (z : List ℕ). Begins z t.places) (sym c.new-places.ensures.items) tt) h b;
    })
