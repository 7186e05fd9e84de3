use Rattle.std.proofs.Common.{ℕ, ◌≡◌, ◌<◌, ◌≤◌, None, length, set, slice_index, sym, ◌∙◌, subst, arith}
use Rattle.std.proofs.lemmas.List.{length-map}
use Rattle.std.proofs.lemmas.Result.{err_from_is_err_and}
use Rattle.fs_graph.specs.GraphMap.{arc_to, arcs_at}
use Rattle.fs_graph.specs.Visits.{feats_of}
use Rattle.fs_graph.specs.Drawn.{AddsArc, drawn_map}
use Rattle.fs_graph.proofs.DrawLemmas.{drawn_same, drawn_more}
use Rattle.fs_graph.proofs.builder.Builder.arc.Goals as goal

pub invariant_of-self : goal.invariant_of-self
invariant_of-self c =
    let types = c.self.inside.types.items in
    let size = length-map types (λ t. t.0) in
    let view = c.self.view_is in
    let h = subst (λ g. c.args.from.0 < length g.types) (sym view) c.requires.from_in in
    (drawn_same types c.self.inside.rows.items c.self.invariant c.args.from.0 (omega arith) c.index_mut-row.result.now c.insert.new.self c.index_mut-row.ensures.value
    c.in_err-insert.ensures.items).0

pub returns-in_err-insert-clause-err : goal.returns-in_err-insert-clause-err
returns-in_err-insert-clause-err c =
    let types = c.self.inside.types.items in
    let size = length-map types (λ t. t.0) in
    let view = c.self.view_is in
    let h = subst (λ g. c.args.from.0 < length g.types) (sym view) c.requires.from_in in
    let p = err_from_is_err_and c.from_residual.result c.from_residual.ensures.1 in
    rw p.1
    ((drawn_same types c.self.inside.rows.items c.self.invariant c.args.from.0 (omega arith) c.index_mut-row.result.now c.insert.new.self c.index_mut-row.ensures.value
    c.in_err-insert.ensures.items).1 ∙ view)

pub invariant_of-self-2 : goal.invariant_of-self-2
invariant_of-self-2 c =
    let types = c.self.inside.types.items in
    let size = length-map types (λ t. t.0) in
    let view = c.self.view_is in
    let h = subst (λ g. c.args.from.0 < length g.types) (sym view) c.requires.from_in in
    let k = subst (λ g. c.args.to.0 < length g.types) (sym view) c.requires.to_in in
    let none = subst (λ g. arc_to (arcs_at g c.args.from.0) c.args.feat.0 ≡ None) (sym view) c.requires.no_arc in
    let place = c.place_of-place.ensures in
    let row = c.deref.ensures.value in
    (drawn_more types c.self.inside.rows.items c.self.invariant c.args.from.0 (omega arith) c.index_mut-row.result.now c.insert.new.self c.index_mut-row.ensures.value
    c.place_of-place.result c.args.feat.0 c.args.to.0 c.in_ok-insert.ensures.items (subst (λ l. c.place_of-place.result ≤ length l) row place.within) (omega arith) none
    (subst (λ l. (k : ℕ) → k < c.place_of-place.result → slice_index (feats_of l) k < c.args.feat.0) row place.before)
    (subst (λ l. c.place_of-place.result < length l → c.args.feat.0 ≤ slice_index (feats_of l) c.place_of-place.result) row place.found)).0

pub returns-clause-ok : goal.returns-clause-ok
returns-clause-ok c =
    let types = c.self.inside.types.items in
    let size = length-map types (λ t. t.0) in
    let view = c.self.view_is in
    let h = subst (λ g. c.args.from.0 < length g.types) (sym view) c.requires.from_in in
    let k = subst (λ g. c.args.to.0 < length g.types) (sym view) c.requires.to_in in
    let none = subst (λ g. arc_to (arcs_at g c.args.from.0) c.args.feat.0 ≡ None) (sym view) c.requires.no_arc in
    let place = c.place_of-place.ensures in
    let row = c.deref.ensures.value in
    subst (λ g. AddsArc g (drawn_map types (set c.self.inside.rows.items c.args.from.0 c.insert.new.self)) c.args.from.0 c.args.feat.0 c.args.to.0) view
    (drawn_more types c.self.inside.rows.items c.self.invariant c.args.from.0 (omega arith) c.index_mut-row.result.now c.insert.new.self c.index_mut-row.ensures.value
    c.place_of-place.result c.args.feat.0 c.args.to.0 c.in_ok-insert.ensures.items (subst (λ l. c.place_of-place.result ≤ length l) row place.within) (omega arith) none
    (subst (λ l. (k : ℕ) → k < c.place_of-place.result → slice_index (feats_of l) k < c.args.feat.0) row place.before)
    (subst (λ l. c.place_of-place.result < length l → c.args.feat.0 ≤ slice_index (feats_of l) c.place_of-place.result) row place.found)).1
