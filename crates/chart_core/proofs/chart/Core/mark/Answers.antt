use Rattle.std.proofs.Common.{◌≡◌, ◌∙◌, ◌+◌, ◌++◌, [], ◌∷◌, refl, ap, length, arith, Some, slice_set, vec_capacity}
use Rattle.chart_model.specs.At.{at_found, to_get}
use Rattle.chart_core.specs.declared.history.TaskRow.{TaskRow}
use Rattle.chart_core.specs.declared.history.Entry.{Entry}
use Rattle.chart_core.specs.Lists.{lists_of}
use Rattle.chart_core.specs.Grammar.{Keys}
use Rattle.chart_core.proofs.Buckets.{get_here}
use Rattle.chart_core.proofs.Grows.{left_pending, chart_marked, chart_same, sound_mark, sound_like}
use Rattle.chart_core.proofs.chart.Core.mark.Goals as goal

pub push_reserved-requires : goal.push_reserved-requires
push_reserved-requires g c =
    let core = c.args.self.now in
    let f = at_found core.tasks.items c.args.task c.requires.made in
    let e = to_get f.1 in
    let l = left_pending core.tasks.items c.args.task f.0 e (c.requires.pending f.0 e) in
    omega (arith, l, c.requires.sound.sound.counted, c.requires.sound.sound.room)

pub returns-clause-chart : goal.returns-clause-chart
returns-clause-chart g c = λ s.
    let core = c.args.self.now in
    let m = g.S.Shapes.meaning s in
    let was : TaskRow = c.index_mut-info.result.now in
    let at = get_here core.tasks.items c.args.task was c.requires.made c.index_mut-info.ensures.value in
    let n : c.len-place.result ≡ length core.history.items = omega arith in
    let places : length c.push_reserved.new.self.items ≡ length core.history.items + 1 = omega (arith, c.push_reserved.ensures.len) in
    chart_same m core.rows.items core.rows.items (slice_set core.tasks.items c.args.task (record was { done = Some c.len-place.result })) (slice_set core.tasks.items c.args.task (record was { done = Some (length core.history.items) })) core.made (length c.push_reserved.new.self.items) (length core.history.items + 1) refl (ap (λ n. slice_set core.tasks.items c.args.task (record was { done = Some n })) n) places
    ∙ chart_marked m core.rows.items core.tasks.items core.made (length core.history.items) c.args.task was at

pub returns-clause-sound : goal.returns-clause-sound
returns-clause-sound g c =
    let core = c.args.self.now in
    let s = c.requires.sound in
    let keys : Keys g.row.S-Cover.Denot = record { cell = g.S.Cover.Cover.cell_of; begins = g.S.Cover.Cover.begins; ends = g.S.Cover.Cover.ends } in
    let was : TaskRow = c.index_mut-info.result.now in
    let at = get_here core.tasks.items c.args.task was c.requires.made c.index_mut-info.ensures.value in
    let e : Entry = record { task = c.args.task; row = c.args.row; by = c.args.by } in
    let next = slice_set core.tasks.items c.args.task (record was { done = Some c.len-place.result }) in
    record {
      full_cells = s.full_cells;
      full_begins = s.full_begins;
      full_ends = s.full_ends;
      sound = sound_like keys core.rows.items core.rows.items next next (core.history.items ++ e ∷ []) c.push_reserved.new.self.items (vec_capacity core.history) (vec_capacity c.push_reserved.new.self) core.made (lists_of core.cells) (lists_of core.begins) (lists_of core.ends) (lists_of core.ends)
          (sound_mark keys core.rows.items core.tasks.items core.history.items (vec_capacity core.history) core.made (lists_of core.cells) (lists_of core.begins) (lists_of core.ends) s.sound c.args.task c.len-place.result was at (c.requires.pending was at) e c.requires.row)
          refl refl c.push_reserved.ensures.items (omega (arith, c.push_reserved.ensures.capacity)) refl;
    }
