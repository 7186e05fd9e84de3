use Rattle.std.proofs.Common.{◌≡◌, [], ◌∷◌, map, sym, ◌∙◌, ap, subst, arith}
use Rattle.std.proofs.lemmas.List.{map-append}
use Rattle.type_hierarchy.specs.Table.{count_of}
use Rattle.fs_unify.specs.Owing.{HaveOwing}
use Rattle.fs_unify.proofs.OwedRows.{have_none, have_more}
use Rattle.fs_unify.proofs.owed.rows_owed.Goals as goal

pub loop-t-init : goal.loop-t-init
loop-t-init c = λ owed marked.
    subst (HaveOwing c.args.system.now owed c.args.debts.now 0) (sym (ap (map (λ row. row.items)) c.in_ok-rows.ensures.items)) (have_none c.args.system.now owed c.args.debts.now)

pub loop-t-preserved : goal.loop-t-preserved
loop-t-preserved c = λ owed marked.
    let row = c.in_ok-row_owed.field-0 in
    have_more c.args.system.now owed c.args.debts.now c.loop-t.t _ _ row.items (c.loop-t.invariant owed marked)
    (ap (map (λ r. r.items)) c.in_ok-push.ensures.items ∙ map-append (λ r. r.items) c.loop-t.rows.items (row ∷ [])) (c.in_ok-row_owed.ensures owed marked)

pub returns : goal.returns
returns c = λ owed marked.
    let g = c.args.system.now in
    let types : c.types.result.now ≡ g.types = c.types.ensures in
    let all : c.loop-t.t ≡ count_of g.types = omega (arith, c.loop-t-test.false, c.loop-t.auto.t-end, c.counts-count.ensures.all, ap count_of types) in
    subst (λ n. HaveOwing g owed c.args.debts.now n (map (λ row. row.items) c.loop-t.rows.items)) all (c.loop-t.invariant owed marked)
