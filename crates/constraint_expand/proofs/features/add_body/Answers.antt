use Rattle.std.proofs.Common.{◌<◌, ◌≤◌, ◌∙◌, [], ◌∷◌, false, length, map, slice_index_or, ap, arith}
use Rattle.std.specs.List.{flat_map}
use Rattle.std.proofs.lemmas.List.{take_all, get_or_default}
use Rattle.std.proofs.lemmas.List.Concat.{flat_map_single}
use Rattle.type_hierarchy.specs.Decls.{texts}
use Rattle.body_facts.specs.declared.brackets.Use.{Use}
use Rattle.body_facts.specs.BracketUses.{used_of}
use Rattle.constraint_expand.specs.Found.{with_each}
use Rattle.constraint_expand.proofs.NameLemmas.{each_step, features_of}
use Rattle.constraint_expand.proofs.features.add_body.Goals as goal

pub loop-used-preserved : goal.loop-used-preserved
loop-used-preserved c =
    let xs = c.deref-used-items.result.now in
    let i = c.loop-used.used-index in
    let none : Use = record { feature = record { ref_ptr = (0, 0); now = [] }; at = 0; own = false } in
    let x : Use = slice_index_or xs i none in
    let within : i < length xs = omega arith in
    each_step (λ u. u.feature.now ∷ []) _ _ (texts c.args.features.now.keys) xs i x within (get_or_default xs i none x within) c.in_ok-note.ensures c.loop-used.invariant

pub returns : goal.returns
returns c =
    let xs = c.deref-used-items.result.now in
    let past : length xs ≤ c.loop-used.used-index = omega arith in
    c.loop-used.invariant ∙ ap (λ l. with_each (texts c.args.features.now.keys) (flat_map (λ u. u.feature.now ∷ []) l)) (take_all c.loop-used.used-index xs past)
    ∙ ap (with_each (texts c.args.features.now.keys)) (flat_map_single (λ (u : Use). u.feature.now) xs ∙ features_of xs
    ∙ ap (λ l. map (λ u. u.feature) (map used_of l)) c.deref-used-items.ensures.value ∙ ap (map (λ u. u.feature)) c.in_ok-found.ensures)
