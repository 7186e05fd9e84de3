use Rattle.std.proofs.Common.{◌≡◌, ◌∙◌, ◌+◌, ◌≤◌, ◌++◌, [], ◌∷◌, refl, sym, ap, length, arith, vec_capacity, append-nil, false, Some}
use Rattle.chart_core.specs.declared.Row.{Row}
use Rattle.chart_core.specs.Lists.{lists_of}
use Rattle.chart_core.specs.Grammar.{Keys}
use Rattle.chart_core.specs.Sound.{is_host, is_partial_kind}
use Rattle.chart_core.proofs.Index.{lists_kept}
use Rattle.chart_core.proofs.Grows.{sound_row, sound_like, no_fresh}
use Rattle.chart_core.proofs.chart.Core.push_packed.Goals as goal

pub returns-clause-sound : goal.returns-clause-sound
returns-clause-sound g c =
    let core = c.args.self.now in
    let s = c.requires.sound in
    let keys : Keys g.row.S-Cover.Denot = record { cell = g.S.Cover.Cover.cell_of; begins = g.S.Cover.Cover.begins; ends = g.S.Cover.Cover.ends } in
    let w : Row g.row.S.Denot g.row.S-Shape.Denot g.row.S-Cover.Denot g.row.S-Work.Denot g.row.S-Cover-Bound.Denot = record { kind = c.args.new.kind; daughters = c.args.new.daughters; cover = c.args.new.cover; level = c.args.new.level; shape = Some c.args.new.shape; into = Some (record { 0 = c.args.peer }) } in
    let rows : c.push_reserved.new.self.items ≡ core.rows.items ++ w ∷ [] = c.push_reserved.ensures.items ∙ ap (λ xs. xs ++ c.into_row.result ∷ []) c.in_ok-reserve.ensures.items ∙ ap (λ x. core.rows.items ++ x ∷ []) c.into_row.ensures in
    let host : is_host w ≡ false = refl in
    let few : core.made ≤ length core.rows.items + 1 = omega (arith, s.sound.made_few) in
    let fits : length core.tasks.items + 0 ≤ vec_capacity core.history = omega (arith, s.sound.room) in
    record {
      full_cells = s.full_cells;
      full_begins = s.full_begins;
      full_ends = s.full_ends;
      sound = sound_like keys (core.rows.items ++ w ∷ []) c.push_reserved.new.self.items (core.tasks.items ++ []) core.tasks.items core.history.items core.history.items (vec_capacity core.history) (vec_capacity core.history) core.made (lists_of core.cells) (lists_of core.begins) (lists_of core.ends) (lists_of core.ends)
          (sound_row keys core.rows.items core.tasks.items core.history.items (vec_capacity core.history) core.made (lists_of core.cells) (lists_of core.begins) (lists_of core.ends) s.sound w c.requires.daughters c.requires.in_range [] no_fresh (vec_capacity core.history) core.made fits few
          (lists_of core.cells) (lists_of core.begins) (lists_of core.ends)
          (lists_kept is_host (λ row. keys.cell row.cover) core.rows.items (lists_of core.cells) w host s.sound.cells)
          (lists_kept is_host (λ row. keys.begins row.cover) core.rows.items (lists_of core.begins) w host s.sound.begins)
          (lists_kept (λ row. is_partial_kind row.kind) (λ row. keys.ends row.cover) core.rows.items (lists_of core.ends) w c.requires.whole s.sound.ends))
          rows (sym (append-nil core.tasks.items)) refl (omega arith) refl;
    }
