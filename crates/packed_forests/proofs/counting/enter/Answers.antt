use Rattle.std.proofs.Common.{◌<◌, length, sym, ◌∙◌, subst}
use Rattle.std.proofs.lemmas.List.{length-map}
use Rattle.chart_core.specs.Kept.{core_of, rows_in}
use Rattle.chart_core.specs.View.{into_of}
use Rattle.packed_forests.specs.Inner.Found.{lists_in}
use Rattle.packed_forests.proofs.Finding.{enter_found, skip_found}
use Rattle.packed_forests.proofs.counting.enter.Goals as goal

pub returns-in_ok-push-clause-found : goal.returns-in_ok-push-clause-found
returns-in_ok-push-clause-found g c =
    let rows = rows_in (core_of c.args.finished.now) in
    let full : 0 < length (lists_in c.args.index.now) = subst (λ n. 0 < n) (sym (length-map c.args.index.now.lists.items (λ v. v.items))) c.requires.full in
    enter_found g.S.Cover.Cover.cell_of (into_of rows) rows c.args.number c.row-row.result.now (lists_in c.args.index.now) c.row-row.ensures c.requires.found (lists_in c.push.new.self) c.cell.result full (sym c.counts.ensures ∙ c.if-counts.true) c.cell.ensures c.in_ok-push.ensures.added

pub returns-else-counts-clause-found : goal.returns-else-counts-clause-found
returns-else-counts-clause-found g c =
    let rows = rows_in (core_of c.args.finished.now) in
    skip_found g.S.Cover.Cover.cell_of (into_of rows) rows c.args.number c.row-row.result.now (lists_in c.args.index.now) c.row-row.ensures c.requires.found (sym c.counts.ensures ∙ c.if-counts.false)
