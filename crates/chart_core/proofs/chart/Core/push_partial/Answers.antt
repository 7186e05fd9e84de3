use Rattle.std.proofs.Common.{◌≡◌, ℕ, ◌∙◌, ◌<◌, ◌++◌, [], ◌∷◌, refl, sym, ap, subst, map, All, None, length, arith, slice_get, vec_capacity}
use Rattle.chart_model.specs.Chart as model
use Rattle.chart_model.specs.Picked.{picked}
use Rattle.chart_core.specs.declared.RowKind.TheVariants as kinds
use Rattle.chart_core.specs.declared.Row.{Row}
use Rattle.chart_core.specs.Lists.{lists_of, bucket, pushed}
use Rattle.chart_core.specs.View.{rows_of, into_of, task_of}
use Rattle.chart_core.specs.Grammar.{Keys}
use Rattle.chart_core.specs.Sound.{is_host, is_partial_kind}
use Rattle.chart_core.proofs.Index.{lists_kept, lists_pushed, full_lists}
use Rattle.chart_core.proofs.Found.{all_at, hosts_found}
use Rattle.chart_core.proofs.Grows.{chart_pushed, chart_same, rows_count, sound_row, sound_like}
use Rattle.chart_core.proofs.chart.Core.push_partial.Goals as goal

pub partial_pairs-requires : goal.partial_pairs-requires
partial_pairs-requires g c =
    let core = c.args.self.now in
    let rows = core.rows.items in
    let ps = bucket (lists_of core.begins) c.end-key.result in
    let all : All (λ p. p < length rows) ps = all_at (λ p. p < length rows) ps (λ n p a. c.requires.sound.sound.begins.inside _ n p a) in
    record { places = subst (λ rs. All (λ p. p < length rs) c.at-places.result.now) (sym c.deref.ensures.value) (subst (All (λ p. p < length rows)) (sym c.at-places.ensures) all) }

pub returns-in_err-append-clause-sound : goal.returns-in_err-append-clause-sound
returns-in_err-append-clause-sound g c =
    let core = c.args.self.now in
    let s = c.requires.sound in
    let keys : Keys g.row.S-Cover.Denot = record { cell = g.S.Cover.Cover.cell_of; begins = g.S.Cover.Cover.begins; ends = g.S.Cover.Cover.ends } in
    record {
      full_cells = s.full_cells;
      full_begins = s.full_begins;
      full_ends = c.in_ok-reserve.ensures.full;
      sound = sound_like keys core.rows.items c.reserve-2.new.self.items core.tasks.items c.append.new.self.items core.history.items c.reserve-3.new.self.items (vec_capacity core.history) (vec_capacity c.reserve-3.new.self) core.made (lists_of core.cells) (lists_of core.begins) (lists_of core.ends) (lists_of c.reserve.new.self)
          s.sound c.in_ok-reserve-2.ensures.items c.in_err-append.ensures.items c.in_ok-reserve-3.ensures.items c.in_ok-reserve-3.ensures.capacity c.in_ok-reserve.ensures.same;
    }

pub returns-clause-ok : goal.returns-clause-ok
returns-clause-ok g c =
    let k = g.S.Shapes.calculus c.args.shapes.now in
    let m = g.S.Shapes.meaning c.args.shapes.now in
    let core = c.args.self.now in
    let w : Row g.row.S.Denot g.row.S-Shape.Denot g.row.S-Cover.Denot g.row.S-Work.Denot g.row.S-Cover-Bound.Denot = record { kind = kinds.Partial c.args.rule; daughters = c.args.daughters; cover = c.args.cover; level = 0; shape = None; into = None } in
    let rows : c.push_reserved-2.new.self.items ≡ core.rows.items ++ w ∷ [] = c.push_reserved-2.ensures.items ∙ ap (λ xs. xs ++ w ∷ []) c.in_ok-reserve-2.ensures.items in
    let number : c.len-number.result ≡ length (rows_of m core.rows.items) = let a = rows_count m core.rows.items in omega (arith, a) in
    let f = λ (n : ℕ). model.partial_task k core.unary (into_of core.rows.items) c.args.rule c.args.cover n in
    let joins = g.met.S.Shapes.joins c.args.shapes.now in
    let found = hosts_found k m g.S.Cover.Cover.begins g.S.Cover.Cover.ends (λ x y j. g.met.S.Cover.Cover.meets (g.S.Shapes.bound_of c.args.shapes.now) x y (subst (λ o. Rattle.std.specs.Prelude.is_some o ≡ Rattle.std.specs.Prelude.true) (joins x y) j)) core.rows.items (lists_of core.begins) c.requires.sound.sound.begins core.unary c.args.rule (length (rows_of m core.rows.items)) c.args.cover in
    let places : c.at-places.result.now ≡ bucket (lists_of core.begins) (g.S.Cover.Cover.ends c.args.cover) = c.at-places.ensures ∙ ap (bucket (lists_of core.begins)) c.end-key.ensures in
    let pairs : map task_of c.in_ok-found.found.items ≡ picked k (f (length (rows_of m core.rows.items))) (slice_get (rows_of m core.rows.items)) (bucket (lists_of core.begins) (g.S.Cover.Cover.ends c.args.cover)) =
    subst (λ ps. map task_of c.in_ok-found.found.items ≡ picked k (f (length (rows_of m core.rows.items))) (slice_get (rows_of m core.rows.items)) ps) places
    (subst (λ n. map task_of c.in_ok-found.found.items ≡ picked k (f n) (slice_get (rows_of m core.rows.items)) c.at-places.result.now) number (rw c.deref.ensures.value at c.in_ok-found.ensures.pairs)) in
    chart_same m c.push_reserved-2.new.self.items (core.rows.items ++ w ∷ []) c.append.new.self.items (core.tasks.items ++ c.in_ok-found.found.items) core.made (length c.reserve-3.new.self.items) (length core.history.items) rows c.in_ok-append.ensures.items (ap length c.in_ok-reserve-3.ensures.items)
    ∙ chart_pushed m core.rows.items core.tasks.items c.in_ok-found.found.items w core.made (length core.history.items) (model.gather k (f (length (rows_of m core.rows.items))) 0 (rows_of m core.rows.items)) c.in_ok-found.ensures.fresh (pairs ∙ sym found)

pub returns-clause-sound : goal.returns-clause-sound
returns-clause-sound g c =
    let core = c.args.self.now in
    let s = c.requires.sound in
    let keys : Keys g.row.S-Cover.Denot = record { cell = g.S.Cover.Cover.cell_of; begins = g.S.Cover.Cover.begins; ends = g.S.Cover.Cover.ends } in
    let w : Row g.row.S.Denot g.row.S-Shape.Denot g.row.S-Cover.Denot g.row.S-Work.Denot g.row.S-Cover-Bound.Denot = record { kind = kinds.Partial c.args.rule; daughters = c.args.daughters; cover = c.args.cover; level = 0; shape = None; into = None } in
    let rows : c.push_reserved-2.new.self.items ≡ core.rows.items ++ w ∷ [] = c.push_reserved-2.ensures.items ∙ ap (λ xs. xs ++ w ∷ []) c.in_ok-reserve-2.ensures.items in
    let found = c.in_ok-found.found.items in
    let bigger = vec_capacity c.reserve-3.new.self in
    let key = c.end-key.result in
    let n : c.len-number.result ≡ length core.rows.items = omega arith in
    let ends : lists_of c.push_reserved.new.self ≡ pushed (lists_of core.ends) (g.S.Cover.Cover.ends c.args.cover) (length core.rows.items) =
    c.push_reserved.ensures.added
    ∙ ap (λ ls. pushed ls key c.len-number.result) c.in_ok-reserve.ensures.same
    ∙ ap (pushed (lists_of core.ends) key) n
    ∙ ap (λ x. pushed (lists_of core.ends) x (length core.rows.items)) c.end-key.ensures in
    record {
      full_cells = s.full_cells;
      full_begins = s.full_begins;
      full_ends = c.push_reserved.ensures.full;
      sound = sound_like keys (core.rows.items ++ w ∷ []) c.push_reserved-2.new.self.items (core.tasks.items ++ found) c.append.new.self.items core.history.items c.reserve-3.new.self.items bigger bigger core.made (lists_of core.cells) (lists_of core.begins) (pushed (lists_of core.ends) (g.S.Cover.Cover.ends c.args.cover) (length core.rows.items)) (lists_of c.push_reserved.new.self)
          (sound_row keys core.rows.items core.tasks.items core.history.items (vec_capacity core.history) core.made (lists_of core.cells) (lists_of core.begins) (lists_of core.ends) s.sound w c.requires.daughters c.requires.in_range found c.in_ok-found.ensures.fresh bigger core.made
          (omega (arith, c.in_ok-reserve-3.ensures.ok, c.len.ensures, c.len-2.ensures)) (omega (arith, s.sound.made_few))
          (lists_of core.cells) (lists_of core.begins) (pushed (lists_of core.ends) (g.S.Cover.Cover.ends c.args.cover) (length core.rows.items))
          (lists_kept is_host (λ row. keys.cell row.cover) core.rows.items (lists_of core.cells) w refl s.sound.cells)
          (lists_kept is_host (λ row. keys.begins row.cover) core.rows.items (lists_of core.begins) w refl s.sound.begins)
          (lists_pushed (λ row. is_partial_kind row.kind) (λ row. keys.ends row.cover) core.rows.items (lists_of core.ends) w (full_lists core.ends s.full_ends) s.sound.ends))
          rows c.in_ok-append.ensures.items c.in_ok-reserve-3.ensures.items (omega arith) ends;
    }
