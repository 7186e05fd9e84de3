use Rattle.std.proofs.Common.{◌<◌, ◌≤◌, ◌∙◌, ◌++◌, [], ◌∷◌, false, cond, length, map, slice_index_or, ap, arith}
use Rattle.std.specs.List.{flat_map}
use Rattle.std.proofs.lemmas.List.{take_all, get_or_default}
use Rattle.body_facts.specs.declared.brackets.Use.{Use}
use Rattle.body_facts.specs.BracketUses.{used_of}
use Rattle.constraint_expand.specs.Features.{is_writing}
use Rattle.constraint_expand.specs.Found.{numbers_noted}
use Rattle.type_facts.proofs.ListLemmas.{push_step}
use Rattle.constraint_expand.proofs.WriterLemmas.{writings_flat}
use Rattle.constraint_expand.proofs.writers.note_uses.Goals as goal

pub loop-used-preserved : goal.loop-used-preserved
loop-used-preserved c = λ f.
    let xs = c.deref-used-items.result.now in
    let i = c.loop-used.used-index in
    let none : Use = record { feature = record { ref_ptr = (0, 0); now = [] }; at = 0; own = false } in
    let x : Use = slice_index_or xs i none in
    let within : i < length xs = omega arith in
    push_step (λ u. cond (is_writing f (used_of u)) (c.args.ty.0 ∷ []) []) _ _ (numbers_noted c.args.writers.now.entries f) xs i x within (get_or_default xs i none x within)
    (c.in_ok-note_if_own.ensures f) (c.loop-used.invariant f)

pub returns : goal.returns
returns c = λ f.
    let xs = c.deref-used-items.result.now in
    let old = numbers_noted c.args.writers.now.entries f in
    let past : length xs ≤ c.loop-used.used-index = omega arith in
    c.loop-used.invariant f
    ∙ ap (λ l. old ++ flat_map (λ u. cond (is_writing f (used_of u)) (c.args.ty.0 ∷ []) []) l) (take_all c.loop-used.used-index xs past)
    ∙ ap (λ l. old ++ l) (writings_flat f c.args.ty.0 xs _ (ap (map used_of) c.deref-used-items.ensures.value ∙ c.in_ok-found.ensures))
