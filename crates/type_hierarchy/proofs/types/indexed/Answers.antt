use Rattle.std.proofs.Common.{◌∙◌, ◌++◌, ◌∷◌, [], cond, ap, sym, arith, append_assoc}
use Rattle.std.specs.Vec.Iter.{into_iter_items}
use Rattle.std.proofs.lemmas.List.{append-nil, nil_from_length}
use Rattle.type_hierarchy.proofs.FamilyLemmas.{new_row}
use Rattle.type_hierarchy.proofs.types.indexed.Goals as goal

pub loop-row-init : goal.loop-row-init
loop-row-init c = ap (λ l. l ++ into_iter_items c.into_iter-row-iterator.result) c.new-sets.ensures.empty ∙ c.into_iter-row-iterator.ensures.into_iter_gives.0

pub loop-row-preserved : goal.loop-row-preserved
loop-row-preserved c =
    let before = ap (λ l. c.loop-row.sets.keys ++ l) (sym c.in-Some.ensures.steps.0) ∙ c.loop-row.invariant in
    let new = new_row c.args.rows.items c.loop-row.sets.keys (into_iter_items c.next.new.self) c.in-Some.row c.requires before in
    ap (λ l. l ++ into_iter_items c.next.new.self) (c.in_ok-insert.ensures.keys ∙ ap (λ b. cond b c.loop-row.sets.keys (c.loop-row.sets.keys ++ c.in-Some.row ∷ [])) new)
    ∙ append_assoc c.loop-row.sets.keys (c.in-Some.row ∷ []) (into_iter_items c.next.new.self) ∙ before

pub returns : goal.returns
returns c =
    sym (append-nil c.loop-row.sets.keys) ∙ ap (λ l. c.loop-row.sets.keys ++ l) (sym (nil_from_length (into_iter_items c.loop-row.row-iterator) (omega (arith, c.in-None.ensures.steps.0, c.loop-row.row-iterator.rest.ok)))) ∙ c.loop-row.invariant
