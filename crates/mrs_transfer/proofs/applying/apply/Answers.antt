use Rattle.std.proofs.Common.{ℕ, ◌≡◌, ◌<◌, ◌≤◌, ◌∙◌, List, ◌++◌, length, map, take, sym, subst, ap, arith}
use Rattle.std.specs.Prelude.{All, Contains, string_bytes}
use Rattle.std.proofs.lemmas.List.{length-map, length-take-le}
use Rattle.mrs_model.specs.Views.{predication_of, variable_of, meaning_of}
use Rattle.transfer_model.specs.Applying.{new_variable}
use Rattle.mrs_transfer.proofs.Applied.{inputs_there, gone_some, gone_there, corefs_are, output_fits_at, eps_are, parts_shaped, parts_applied}
use Rattle.mrs_transfer.proofs.applying.apply.Goals as goal

pub slice_bounds-gone-end : goal.slice_bounds-gone-end
slice_bounds-gone-end c =
    let there = inputs_there (meaning_of c.args.mrs) c.args.rule.now c.args.site.now c.requires.valid c.requires.rule c.requires.site in
    sym (length-take-le c.args.rule.now.inputs c.places.result.now (subst (λ (ps : List ℕ). c.args.rule.now.inputs ≤ length ps) (sym c.places.ensures) there))

pub replaced_eps-requires-clause-some : goal.replaced_eps-requires-clause-some
replaced_eps-requires-clause-some c =
    subst (λ (ps : List ℕ). 0 < length (take c.args.rule.now.inputs ps)) (sym c.places.ensures)
    (gone_some (meaning_of c.args.mrs) c.args.rule.now c.args.site.now c.requires.valid c.requires.rule c.requires.site)

pub replaced_eps-requires-clause-there : goal.replaced_eps-requires-clause-there
replaced_eps-requires-clause-there c =
    let there = gone_there (meaning_of c.args.mrs) c.args.rule.now c.args.site.now c.requires.valid c.requires.rule c.requires.site in
    let n = length-map c.args.mrs.eps.items predication_of in
    subst (λ (ps : List ℕ). All (λ p. p < length c.args.mrs.eps.items) (take c.args.rule.now.inputs ps)) (sym c.places.ensures)
    (λ k d l. omega (arith, there k d l, n))

pub replaced_eps-requires-clause-output : goal.replaced_eps-requires-clause-output
replaced_eps-requires-clause-output c =
    let corefs =
    corefs_are (meaning_of c.args.mrs) c.args.rule.now c.args.site.now c.requires.valid c.requires.rule c.requires.site c.in_ok-vars.vars.items c.add_variables.new.vars.items (length c.args.mrs.vars.items) (length c.deref.result.now)
    (c.in_ok-vars.ensures.items ∙ c.vars.ensures) (sym (length-map c.args.mrs.vars.items variable_of)) (ap length c.deref.ensures.value) c.in_ok-add_variables.ensures.vars in
    output_fits_at (meaning_of c.args.mrs) c.args.rule.now c.args.site.now c.requires.valid c.requires.rule c.requires.site c.add_variables.new.vars.items c.deref-3.result.now c.deref-2.result.now corefs c.deref-3.ensures.value c.deref-2.ensures.value

pub trim-requires : goal.trim-requires
trim-requires c =
    let corefs =
    corefs_are (meaning_of c.args.mrs) c.args.rule.now c.args.site.now c.requires.valid c.requires.rule c.requires.site c.in_ok-vars.vars.items c.add_variables.new.vars.items (length c.args.mrs.vars.items) (length c.deref.result.now)
    (c.in_ok-vars.ensures.items ∙ c.vars.ensures) (sym (length-map c.args.mrs.vars.items variable_of)) (ap length c.deref.ensures.value) c.in_ok-add_variables.ensures.vars in
    let variables : map variable_of c.add_variables.new.all.items ≡ map variable_of c.args.mrs.vars.items ++ map new_variable (map string_bytes c.deref.result.now) = c.in_ok-add_variables.ensures.all in
    let eps =
    eps_are (meaning_of c.args.mrs) c.args.rule.now c.args.site.now c.requires.valid c.requires.rule c.requires.site c.places.result.now c.add_variables.new.vars.items c.deref-3.result.now c.deref-2.result.now (map predication_of c.in_ok-eps.eps.items) c.in_ok-eps.ensures.0
    c.places.ensures c.deref-3.ensures.value c.deref-2.ensures.value c.in_ok-eps.ensures.3 in
    parts_shaped (meaning_of c.args.mrs) c.args.rule.now c.args.site.now c.requires.valid c.requires.rule c.requires.site c.in_ok-eps.ensures.0 (map variable_of c.add_variables.new.all.items) (map predication_of c.in_ok-eps.eps.items) c.add_variables.new.vars.items (rw c.deref.ensures.value at variables) corefs eps

pub returns-clause-applied : goal.returns-clause-applied
returns-clause-applied c =
    let corefs =
    corefs_are (meaning_of c.args.mrs) c.args.rule.now c.args.site.now c.requires.valid c.requires.rule c.requires.site c.in_ok-vars.vars.items c.add_variables.new.vars.items (length c.args.mrs.vars.items) (length c.deref.result.now)
    (c.in_ok-vars.ensures.items ∙ c.vars.ensures) (sym (length-map c.args.mrs.vars.items variable_of)) (ap length c.deref.ensures.value) c.in_ok-add_variables.ensures.vars in
    let variables : map variable_of c.add_variables.new.all.items ≡ map variable_of c.args.mrs.vars.items ++ map new_variable (map string_bytes c.deref.result.now) = c.in_ok-add_variables.ensures.all in
    let eps =
    eps_are (meaning_of c.args.mrs) c.args.rule.now c.args.site.now c.requires.valid c.requires.rule c.requires.site c.places.result.now c.add_variables.new.vars.items c.deref-3.result.now c.deref-2.result.now (map predication_of c.in_ok-eps.eps.items) c.in_ok-eps.ensures.0
    c.places.ensures c.deref-3.ensures.value c.deref-2.ensures.value c.in_ok-eps.ensures.3 in
    parts_applied (meaning_of c.args.mrs) c.args.rule.now c.args.site.now c.requires.valid c.requires.rule c.requires.site c.in_ok-eps.ensures.0 (map variable_of c.add_variables.new.all.items) (map predication_of c.in_ok-eps.eps.items) c.add_variables.new.vars.items (rw c.deref.ensures.value at variables) corefs eps c.trim.result
    (subst (λ (ps : List ℕ). Contains (take c.args.rule.now.inputs ps) c.in_ok-eps.ensures.0) c.places.ensures c.in_ok-eps.ensures.1)
    (subst (λ (ps : List ℕ). All (λ p. c.in_ok-eps.ensures.0 ≤ p) (take c.args.rule.now.inputs ps)) c.places.ensures c.in_ok-eps.ensures.2) c.trim.ensures
