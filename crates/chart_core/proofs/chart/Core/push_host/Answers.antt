use Rattle.std.proofs.Common.{◌≡◌, ℕ, ◌∙◌, ◌+◌, ◌<◌, ◌≤◌, ◌++◌, [], ◌∷◌, refl, sym, ap, subst, map, All, None, Some, length, arith, vec_capacity}
use Rattle.std.specs.List.{filter}
use Rattle.chart_model.specs.Chart as model
use Rattle.chart_core.specs.declared.Row.{Row}
use Rattle.chart_core.specs.Grammar.{keys_of}
use Rattle.chart_core.specs.Lists.{lists_of, bucket, pushed}
use Rattle.chart_core.specs.CoreView.{limits_of}
use Rattle.chart_core.specs.View.{rows_of, into_of, task_of, write_all, KeepsRows}
use Rattle.chart_core.specs.Tests.{at_place, is_peer}
use Rattle.chart_core.proofs.Found.{all_at}
use Rattle.chart_core.proofs.Index.{full_lists}
use Rattle.chart_core.proofs.Grows.{rows_count}
use Rattle.chart_core.proofs.Frost.{frost_found}
use Rattle.chart_core.proofs.Host.{chart_host, chart_alike, belongs_host, sound_host, sound_alike, kept_below}
use Rattle.chart_core.proofs.chart.Core.push_host.Goals as goal

pub all_under-requires-clause-places : goal.all_under-requires-clause-places
all_under-requires-clause-places g c =
    let core = c.args.self.now in
    let rows = core.rows.items in
    let ps = bucket (lists_of core.cells) c.cell-cell.result in
    let all : All (λ p. p < length rows) ps = all_at (λ p. p < length rows) ps (λ n p a. c.requires.sound.sound.cells.inside _ n p a) in
    subst (λ rs. All (λ p. p < length rs) c.at-places.result.now) (sym c.deref.ensures.value) (subst (All (λ p. p < length rows)) (sym c.at-places.ensures) all)

pub freeze-requires : goal.freeze-requires
freeze-requires g c =
    let k = g.S.Shapes.calculus c.args.shapes.now in
    let m = g.S.Shapes.meaning c.args.shapes.now in
    let core = c.args.self.now in
    let rows = core.rows.items in
    let now = c.room_for_host.ensures.same.rows in
    let below : All (λ p. p < length rows) c.in_ok-under.under.items =
    kept_below (at_place (is_peer k m (k.over (m c.args.new.shape)) c.args.new.cover c.args.new.level) c.deref.result.now) (length rows) c.at-places.result.now c.in_ok-under.under.items c.in_ok-under.ensures
    (λ i p a. c.requires.sound.sound.cells.inside _ i p (subst (λ ps. Rattle.chart_model.specs.At.At ps i p) c.at-places.ensures a)) in
    subst (λ rs. All (λ p. p < length rs) c.deref-3.result.now) (sym now) (subst (All (λ p. p < length rows)) (sym c.deref-3.ensures.value) below)

pub returns-clause-ok : goal.returns-clause-ok
returns-clause-ok g c =
    let k = g.S.Shapes.calculus c.args.shapes.now in
    let m = g.S.Shapes.meaning c.args.shapes.now in
    let core = c.args.self.now in
    let rows = core.rows.items in
    let next = c.freeze.new.rows.items in
    let found = c.in_ok-found.found.items in
    let n = c.len-number.result in
    let new = c.args.new in
    let w : Row g.row.S.Denot g.row.S-Shape.Denot g.row.S-Cover.Denot g.row.S-Work.Denot g.row.S-Cover-Bound.Denot = record { kind = new.kind; daughters = new.daughters; cover = new.cover; level = new.level; shape = Some new.shape; into = None } in
    let F = λ (n : ℕ). model.frosted k (model.has_peer k (k.over (m new.shape)) new.cover new.level) n (rows_of m rows) (into_of rows) in
    let now = c.room_for_host.ensures.same.rows in
    let is : n ≡ length (rows_of m rows) = let a = rows_count m rows in omega (arith, a) in
    let cell : c.at-places.result.now ≡ bucket (lists_of core.cells) (g.S.Cover.Cover.cell_of new.cover) = c.at-places.ensures ∙ ap (bucket (lists_of core.cells)) c.cell-cell.ensures in
    let t = λ (rs : Rattle.std.specs.Prelude.List (Row g.row.S.Denot g.row.S-Shape.Denot g.row.S-Cover.Denot g.row.S-Work.Denot g.row.S-Cover-Bound.Denot)). at_place (is_peer k m (k.over (m new.shape)) new.cover new.level) rs in
    let under : c.in_ok-under.under.items ≡ filter (t rows) (bucket (lists_of core.cells) (g.S.Cover.Cover.cell_of new.cover)) = c.in_ok-under.ensures ∙ ap (λ rs. filter (t rs) c.at-places.result.now) c.deref.ensures.value ∙ ap (filter (t rows)) cell in
    let frost : write_all (into_of rows) c.in_ok-under.under.items n ≡ F n = ap (λ ps. write_all (into_of rows) ps n) under ∙ frost_found k (g.met.S.Shapes.laws c.args.shapes.now) m g.S.Cover.Cover.cell_of rows (lists_of core.cells) c.requires.sound.sound.cells (k.over (m new.shape)) new.cover new.level n in
    let into : into_of next ≡ F n = c.freeze.ensures.into ∙ ap (λ rs. write_all (into_of rs) c.deref-3.result.now n) now ∙ ap (λ ps. write_all (into_of rows) ps n) c.deref-3.ensures.value ∙ frost in
    let keeps : KeepsRows rows next = subst (λ rs. KeepsRows rs next) now c.freeze.ensures.rows in
    let tasks : map task_of found ≡ model.tasks_of_host k (limits_of core) (rows_of m rows) (F n) n new.cover new.level =
    c.in_ok-found.ensures.tasks ∙ ap (λ ps. model.tasks_of_host k (limits_of core) (rows_of m rows) (write_all (into_of rows) ps n) n new.cover new.level) c.deref-2.ensures.value ∙ ap (λ into. model.tasks_of_host k (limits_of core) (rows_of m rows) into n new.cover new.level) frost in
    let pushed : c.push_reserved-3.new.self.items ≡ next ++ w ∷ [] = c.push_reserved-3.ensures.items ∙ ap (λ x. next ++ x ∷ []) c.into_row.ensures in
    let appended : c.append.new.self.items ≡ core.tasks.items ++ found = c.in_ok-append.ensures.items ∙ ap (λ xs. xs ++ found) c.room_for_host.ensures.same.tasks in
    chart_alike k (limits_of core) m c.push_reserved-3.new.self.items (next ++ w ∷ []) c.append.new.self.items (core.tasks.items ++ found) (c.room_for_host.new.self.made + 1) (core.made + 1) (length c.room_for_host.new.self.history.items) (length core.history.items) pushed appended (ap (λ x. x + 1) c.room_for_host.ensures.same.made) (ap length c.room_for_host.ensures.same.history)
    ∙ chart_host k (limits_of core) m rows next core.tasks.items found w (m new.shape) n core.made (length core.history.items) is keeps into c.in_ok-found.ensures.fresh tasks refl

pub returns-clause-belongs : goal.returns-clause-belongs
returns-clause-belongs g c =
    let k = g.S.Shapes.calculus c.args.shapes.now in
    let core = c.args.self.now in
    let rows = core.rows.items in
    let next = c.freeze.new.rows.items in
    let new = c.args.new in
    let w : Row g.row.S.Denot g.row.S-Shape.Denot g.row.S-Cover.Denot g.row.S-Work.Denot g.row.S-Cover-Bound.Denot = record { kind = new.kind; daughters = new.daughters; cover = new.cover; level = new.level; shape = Some new.shape; into = None } in
    let now = c.room_for_host.ensures.same.rows in
    let keeps : KeepsRows rows next = subst (λ rs. KeepsRows rs next) now c.freeze.ensures.rows in
    let pushed : c.push_reserved-3.new.self.items ≡ next ++ w ∷ [] = c.push_reserved-3.ensures.items ∙ ap (λ x. next ++ x ∷ []) c.into_row.ensures in
    subst (All (Rattle.chart_core.specs.View.Belongs k (g.S.Shapes.belongs c.args.shapes.now))) (sym pushed) (belongs_host k (g.S.Shapes.belongs c.args.shapes.now) rows next w keeps c.requires.rows (c.requires.shape, c.requires.proper))

pub returns-clause-sound : goal.returns-clause-sound
returns-clause-sound g c =
    let core = c.args.self.now in
    let s = c.requires.sound in
    let keys = keys_of g.S.Cover.Cover in
    let rows = core.rows.items in
    let next = c.freeze.new.rows.items in
    let found = c.in_ok-found.found.items in
    let n = c.len-number.result in
    let new = c.args.new in
    let w : Row g.row.S.Denot g.row.S-Shape.Denot g.row.S-Cover.Denot g.row.S-Work.Denot g.row.S-Cover-Bound.Denot = record { kind = new.kind; daughters = new.daughters; cover = new.cover; level = new.level; shape = Some new.shape; into = None } in
    let now = c.room_for_host.ensures.same.rows in
    let into : into_of next ≡ write_all (into_of rows) c.in_ok-under.under.items n = c.freeze.ensures.into ∙ ap (λ rs. write_all (into_of rs) c.deref-3.result.now n) now ∙ ap (λ ps. write_all (into_of rows) ps n) c.deref-3.ensures.value in
    let keeps : KeepsRows rows next = subst (λ rs. KeepsRows rs next) now c.freeze.ensures.rows in
    let last : c.push_reserved-3.new.self.items ≡ next ++ w ∷ [] = c.push_reserved-3.ensures.items ∙ ap (λ x. next ++ x ∷ []) c.into_row.ensures in
    let appended : c.append.new.self.items ≡ core.tasks.items ++ found = c.in_ok-append.ensures.items ∙ ap (λ xs. xs ++ found) c.room_for_host.ensures.same.tasks in
    let is : n ≡ length rows = omega arith in
    let bigger = vec_capacity c.room_for_host.new.self.history in
    let fits : length core.tasks.items + length found ≤ bigger = (let a = c.in_ok-room_for_host.ensures.entries in let b = ap length c.room_for_host.ensures.same.tasks in omega (arith, a, b)) in
    let cells : lists_of c.push_reserved.new.self ≡ pushed (lists_of core.cells) (g.S.Cover.Cover.cell_of new.cover) (length rows) =
    c.push_reserved.ensures.added
    ∙ ap (λ ls. pushed ls c.cell-cell.result n) c.room_for_host.ensures.same.cells
    ∙ ap (pushed (lists_of core.cells) c.cell-cell.result) is
    ∙ ap (λ x. pushed (lists_of core.cells) x (length rows)) c.cell-cell.ensures in
    let begins : lists_of c.push_reserved-2.new.self ≡ pushed (lists_of core.begins) (g.S.Cover.Cover.begins new.cover) (length rows) =
    c.push_reserved-2.ensures.added
    ∙ ap (λ ls. pushed ls c.begin-begin.result n) c.room_for_host.ensures.same.begins
    ∙ ap (pushed (lists_of core.begins) c.begin-begin.result) is
    ∙ ap (λ x. pushed (lists_of core.begins) x (length rows)) c.begin-begin.ensures in
    record {
      full_cells = c.push_reserved.ensures.full;
      full_begins = c.push_reserved-2.ensures.full;
      full_ends = c.room_for_host.ensures.sound.full_ends;
      sound = sound_alike keys (next ++ w ∷ []) c.push_reserved-3.new.self.items (core.tasks.items ++ found) c.append.new.self.items core.history.items c.room_for_host.new.self.history.items bigger (core.made + 1) (c.room_for_host.new.self.made + 1)
          (pushed (lists_of core.cells) (g.S.Cover.Cover.cell_of new.cover) (length rows)) (lists_of c.push_reserved.new.self)
          (pushed (lists_of core.begins) (g.S.Cover.Cover.begins new.cover) (length rows)) (lists_of c.push_reserved-2.new.self)
          (lists_of core.ends) (lists_of c.room_for_host.new.self.ends)
          (sound_host keys rows next c.in_ok-under.under.items n core.tasks.items core.history.items (vec_capacity core.history) core.made (lists_of core.cells) (lists_of core.begins) (lists_of core.ends) (full_lists core.cells s.full_cells) (full_lists core.begins s.full_begins) keeps into s.sound w c.requires.whole c.requires.daughters c.requires.in_range found c.in_ok-found.ensures.fresh bigger fits)
          last appended c.room_for_host.ensures.same.history (ap (λ x. x + 1) c.room_for_host.ensures.same.made) cells begins c.room_for_host.ensures.same.ends;
    }
