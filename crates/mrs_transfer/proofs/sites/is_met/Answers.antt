use Rattle.std.proofs.Common.{◌≡◌, ℕ, List, [], ◌++◌, ◌∙◌, true, sym, subst}
use Rattle.std.specs.Prelude.{map, string_bytes}
use Rattle.mrs_model.specs.Views.{meaning_of}
use Rattle.transfer_model.specs.Sites.{Site}
use Rattle.transfer_model.specs.Views.{rule_of, element_of}
use Rattle.mrs_transfer.specs.declared.bound.Pair.{Pair}
use Rattle.mrs_transfer.specs.declared.matching.Sides.{Sides}
use Rattle.mrs_transfer.specs.Inner.Matching.{Task, task_of, IsTask, IsPlaced, Solves, Begins}
use Rattle.mrs_transfer.proofs.Matches.{task_in, start}
use Rattle.mrs_transfer.proofs.Asking.{asked_of, asked_task, asked_pairs, asked_met, asked_solves}
use Rattle.mrs_transfer.proofs.Choosing.{sides_task}
use Rattle.mrs_transfer.proofs.sites.is_met.Goals as goal

pub find-requires-clause-task : goal.find-requires-clause-task
find-requires-clause-task c =
    let m = meaning_of c.args.mrs.now in
    let xs = map element_of c.args.filter.now.elements.items in
    let letters = map string_bytes c.args.filter.now.letters.items in
    let given = c.in_ok-given.given.items in
    let sides : Sides = record { eps = c.deref.result; all = c.deref-2.result; letters = c.deref-3.result; elements = c.deref-4.result; given = c.deref-5.result } in
    let e : task_of sides ≡ task_in m letters xs given = sides_task sides c.args.mrs.now.eps.items c.args.mrs.now.vars.items c.args.filter.now.letters.items c.args.filter.now.elements.items given c.deref.ensures.value c.deref-2.ensures.value c.deref-3.ensures.value c.deref-4.ensures.value c.deref-5.ensures.value in
    let asked = asked_of m c.args.rule.now c.args.filter.now c.args.vars.now given c.requires.valid c.requires.rule c.requires.filter c.requires.site.0 c.requires.site.1 c.requires.site.2 c.in_ok-given.ensures.size c.in_ok-given.ensures.each in
    subst (λ (z : Task). IsTask z) (sym e) (asked_task m (rule_of c.args.rule.now) xs letters c.args.vars.now given asked)

pub find-requires-clause-placed : goal.find-requires-clause-placed
find-requires-clause-placed c =
    let m = meaning_of c.args.mrs.now in
    let xs = map element_of c.args.filter.now.elements.items in
    let letters = map string_bytes c.args.filter.now.letters.items in
    let given = c.in_ok-given.given.items in
    let sides : Sides = record { eps = c.deref.result; all = c.deref-2.result; letters = c.deref-3.result; elements = c.deref-4.result; given = c.deref-5.result } in
    let e : task_of sides ≡ task_in m letters xs given = sides_task sides c.args.mrs.now.eps.items c.args.mrs.now.vars.items c.args.filter.now.letters.items c.args.filter.now.elements.items given c.deref.ensures.value c.deref-2.ensures.value c.deref-3.ensures.value c.deref-4.ensures.value c.deref-5.ensures.value in
    let asked = asked_of m c.args.rule.now c.args.filter.now c.args.vars.now given c.requires.valid c.requires.rule c.requires.filter c.requires.site.0 c.requires.site.1 c.requires.site.2 c.in_ok-given.ensures.size c.in_ok-given.ensures.each in
    subst (λ (z : Task). IsPlaced z c.new-places.result.items c.in_ok-pairs.pairs.items) (sym e)
    (subst (λ (z : List ℕ). IsPlaced (task_in m letters xs given) z c.in_ok-pairs.pairs.items) (sym c.new-places.ensures.items)
    (subst (λ (z : List Pair). IsPlaced (task_in m letters xs given) [] z) (sym (c.in_ok-pairs.ensures.items ∙ c.deref-6.ensures.value))
    (start (task_in m letters xs given) (asked_pairs m (rule_of c.args.rule.now) xs letters c.args.vars.now given asked))))

pub returns-in-Some-clause-yes : goal.returns-in-Some-clause-yes
returns-in-Some-clause-yes c = λ s k.
    let m = meaning_of c.args.mrs.now in
    let xs = map element_of c.args.filter.now.elements.items in
    let letters = map string_bytes c.args.filter.now.letters.items in
    let given = c.in_ok-given.given.items in
    let sides : Sides = record { eps = c.deref.result; all = c.deref-2.result; letters = c.deref-3.result; elements = c.deref-4.result; given = c.deref-5.result } in
    let e : task_of sides ≡ task_in m letters xs given = sides_task sides c.args.mrs.now.eps.items c.args.mrs.now.vars.items c.args.filter.now.letters.items c.args.filter.now.elements.items given c.deref.ensures.value c.deref-2.ensures.value c.deref-3.ensures.value c.deref-4.ensures.value c.deref-5.ensures.value in
    let asked = asked_of m c.args.rule.now c.args.filter.now c.args.vars.now given c.requires.valid c.requires.rule c.requires.filter c.requires.site.0 c.requires.site.1 c.requires.site.2 c.in_ok-given.ensures.size c.in_ok-given.ensures.each in
    let least = rw c.in-Some.is at c.in_ok-find.ensures.some in
    asked_met m (rule_of c.args.rule.now) xs letters c.args.vars.now given asked c.find.new.places.items c.in-Some.field-0.items (subst (λ (z : Task). Solves z c.find.new.places.items c.in-Some.field-0.items) e least.solves) s k

pub returns-clause-no : goal.returns-clause-no
returns-clause-no c = λ s k h.
    let m = meaning_of c.args.mrs.now in
    let xs = map element_of c.args.filter.now.elements.items in
    let letters = map string_bytes c.args.filter.now.letters.items in
    let given = c.in_ok-given.given.items in
    let sides : Sides = record { eps = c.deref.result; all = c.deref-2.result; letters = c.deref-3.result; elements = c.deref-4.result; given = c.deref-5.result } in
    let e : task_of sides ≡ task_in m letters xs given = sides_task sides c.args.mrs.now.eps.items c.args.mrs.now.vars.items c.args.filter.now.letters.items c.args.filter.now.elements.items given c.deref.ensures.value c.deref-2.ensures.value c.deref-3.ensures.value c.deref-4.ensures.value c.deref-5.ensures.value in
    let asked = asked_of m c.args.rule.now c.args.filter.now c.args.vars.now given c.requires.valid c.requires.rule c.requires.filter c.requires.site.0 c.requires.site.1 c.requires.site.2 c.in_ok-given.ensures.size c.in_ok-given.ensures.each in
    let nowhere = rw c.in-None.is at c.in_ok-find.ensures.none in
    nowhere.none (λ (n : ℕ) (y : Site). true) h.places (s.vars ++ h.others) tt
    (subst (λ (z : Task). Solves z h.places (s.vars ++ h.others)) (sym e) (asked_solves m (rule_of c.args.rule.now) xs letters c.args.vars.now given asked s k h))
    (subst (λ (z : List ℕ). Begins z h.places) (sym c.new-places.ensures.items) tt) tt
