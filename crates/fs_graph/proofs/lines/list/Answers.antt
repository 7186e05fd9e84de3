use Rattle.std.proofs.Common.{◌++◌, Some, refl, ◌∙◌, ap, arith}
use Rattle.fs_graph.specs.Facts.{path_of}
use Rattle.fs_graph.proofs.LineLemmas.{block, to_in, from_in, from_found, line_in, line_path, path_is, listed_again, listed_first, less_left}
use Rattle.fs_graph.proofs.lines.list.Goals as goal

pub index-requires : goal.index-requires
index-requires c =
    let h = (from_in c.args.graph.now c.args.lines.now.lines.items c.args.lines.now.firsts.items c.args.lines.now.waiting.items c.args.next c.requires).1 in
    let ok = c.args.lines.now.firsts.ok in
    omega arith

pub unreachable-requires : goal.unreachable-requires
unreachable-requires c = from_found c.args.graph.now c.args.lines.now.lines.items c.args.lines.now.firsts.items c.args.lines.now.waiting.items c.args.next c.requires c.index.result.now c.index.ensures c.in_default.is

pub index-requires-2 : goal.index-requires-2
index-requires-2 c =
    let h = (line_in c.args.graph.now c.args.lines.now.lines.items c.args.lines.now.firsts.items c.args.lines.now.waiting.items c.args.next c.requires c.args.next.from.0 c.in-Some.from (from_in c.args.graph.now c.args.lines.now.lines.items c.args.lines.now.firsts.items c.args.lines.now.waiting.items c.args.next c.requires).0 c.index.result.now c.index.ensures c.in-Some.is).0 in
    let ok = c.args.lines.now.lines.ok in
    omega arith

pub ty-ty-requires : goal.ty-ty-requires
ty-ty-requires c = to_in c.args.graph.now c.args.lines.now.lines.items c.args.lines.now.firsts.items c.args.lines.now.waiting.items c.args.next c.requires

pub index-requires-3 : goal.index-requires-3
index-requires-3 c =
    let h = (from_in c.args.graph.now c.args.lines.now.lines.items c.args.lines.now.firsts.items c.args.lines.now.waiting.items c.args.next c.requires).2 in
    let ok = c.args.lines.now.firsts.ok in
    omega arith

pub index_mut-requires : goal.index_mut-requires
index_mut-requires c =
    let h = (from_in c.args.graph.now c.args.lines.now.lines.items c.args.lines.now.firsts.items c.args.lines.now.waiting.items c.args.next c.requires).2 in
    let ok = c.args.lines.now.firsts.ok in
    omega arith

pub arcs-requires : goal.arcs-requires
arcs-requires c = to_in c.args.graph.now c.args.lines.now.lines.items c.args.lines.now.firsts.items c.args.lines.now.waiting.items c.args.next c.requires

pub returns-in_default-index-clause-listed : goal.returns-in_default-index-clause-listed
returns-in_default-index-clause-listed c =
    let size = c.len.ensures in
    let ok = c.args.lines.now.lines.ok in
    listed_first c.args.graph.now c.args.lines.now.lines.items c.args.lines.now.firsts.items c.args.lines.now.waiting.items c.args.next c.requires c.index-3.result.now c.index-3.ensures c.in_default-index.is c.len.result _ _ _ _ (omega arith) c.in_ok-push.ensures.items refl
    (c.in_ok-push_arcs.ensures ∙ ap (λ l. c.args.lines.now.waiting.items ++ block c.args.next.arc.to l) c.arcs.ensures) (path_is c.args.graph.now c.args.lines.now.lines.items c.args.lines.now.firsts.items c.args.lines.now.waiting.items c.args.next c.requires c.in-Some.from c.index.result.now c.index-2.result.now c.deref.result.now c.in_ok-path.path.items c.index.ensures c.in-Some.is c.index-2.ensures c.deref.ensures.value c.in_ok-path.ensures) c.ty-ty.ensures refl

pub returns-in_default-index-clause-falls : goal.returns-in_default-index-clause-falls
returns-in_default-index-clause-falls c =
    less_left c.args.graph.now c.args.lines.now.lines.items c.args.lines.now.firsts.items c.args.lines.now.waiting.items c.args.next c.requires c.index-3.result.now c.index-3.ensures c.in_default-index.is c.len.result _ _ refl
    (c.in_ok-push_arcs.ensures ∙ ap (λ l. c.args.lines.now.waiting.items ++ block c.args.next.arc.to l) c.arcs.ensures)

pub index-requires-4 : goal.index-requires-4
index-requires-4 c =
    let h = (line_in c.args.graph.now c.args.lines.now.lines.items c.args.lines.now.firsts.items c.args.lines.now.waiting.items c.args.next c.requires c.args.next.arc.to.0 c.in-Some-index.first (to_in c.args.graph.now c.args.lines.now.lines.items c.args.lines.now.firsts.items c.args.lines.now.waiting.items c.args.next c.requires) c.index-3.result.now c.index-3.ensures c.in-Some-index.is).0 in
    let ok = c.args.lines.now.lines.ok in
    omega arith

pub returns-clause-listed : goal.returns-clause-listed
returns-clause-listed c =
    let low = (line_in c.args.graph.now c.args.lines.now.lines.items c.args.lines.now.firsts.items c.args.lines.now.waiting.items c.args.next c.requires c.args.next.arc.to.0 c.in-Some-index.first (to_in c.args.graph.now c.args.lines.now.lines.items c.args.lines.now.firsts.items c.args.lines.now.waiting.items c.args.next c.requires) c.index-3.result.now c.index-3.ensures c.in-Some-index.is).0 in
    let of_line = line_path c.args.lines.now.lines.items c.in-Some-index.first c.index-4.result.now low c.index-4.ensures in
    listed_again c.args.graph.now c.args.lines.now.lines.items c.args.lines.now.firsts.items c.args.lines.now.waiting.items c.args.next c.requires c.in-Some-index.first c.index-3.result.now _ _ c.index-3.ensures c.in-Some-index.is c.in_ok-push-2.ensures.items (path_is c.args.graph.now c.args.lines.now.lines.items c.args.lines.now.firsts.items c.args.lines.now.waiting.items c.args.next c.requires c.in-Some.from c.index.result.now c.index-2.result.now c.deref.result.now c.in_ok-path.path.items c.index.ensures c.in-Some.is c.index-2.ensures c.deref.ensures.value c.in_ok-path.ensures) c.ty-ty.ensures
    (ap (λ v. Some (path_of v)) (c.in_ok-from_slice.ensures.items ∙ c.deref-2.ensures.value) ∙ ap Some of_line)
