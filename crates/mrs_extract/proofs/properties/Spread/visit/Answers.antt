use Rattle.std.proofs.Common.{◌≡◌, ◌∙◌, ◌<◌, ◌++◌, ◌∷◌, [], map, length, vec_len, sym, subst, rules}
use Rattle.std.specs.Prelude.{All}
use Rattle.mrs_places.specs.Paths.{paths_of}
use Rattle.mrs_extract.specs.Inner.Routes.{numbers_of, properties_of}
use Rattle.mrs_model.specs.Views.{property_of}
use Rattle.mrs_extract.proofs.Spreading.{new_path, count_numbers, count_map, still_waiting, now_waiting, now_fewer, now_told}
use Rattle.mrs_extract.proofs.properties.Spread.visit.Goals as goal

pub note-requires-clause-path : goal.note-requires-clause-path
note-requires-clause-path c =
    let p = paths_of c.args.paths.now in
    let e = new_path _ _ _ _ _ c.truncate.ensures.items c.in_ok-push.ensures.items in
    subst (λ fs. All (λ f. f < length c.args.paths.now.feats.items) (numbers_of fs)) (sym c.deref.ensures.value)
    (still_waiting c.args.graph.now c.laws.ensures p _ _ _ c.args.next _ c.requires.waiting e c.args.types.now (sym (count_map _ _)) c.requires.feats_in).path_in

pub returns-clause-waiting : goal.returns-clause-waiting
returns-clause-waiting c =
    let p = paths_of c.args.paths.now in
    let e = new_path _ _ _ _ _ c.truncate.ensures.items c.in_ok-push.ensures.items in
    let n : vec_len c.push.new.self ≡ length c.push.new.self.items = search rules in
    let deep = c.len.ensures ∙ n ∙ sym (count_numbers c.push.new.self.items) in
    now_waiting c.args.graph.now c.laws.ensures p _ _ _ c.args.next _ c.requires.waiting e _ deep _ c.in_ok-wait.ensures c.args.types.now (sym (count_map _ _)) c.requires.feats_in

pub returns-clause-fewer : goal.returns-clause-fewer
returns-clause-fewer c =
    let p = paths_of c.args.paths.now in
    let e = new_path _ _ _ _ _ c.truncate.ensures.items c.in_ok-push.ensures.items in
    let n : vec_len c.push.new.self ≡ length c.push.new.self.items = search rules in
    let deep = c.len.ensures ∙ n ∙ sym (count_numbers c.push.new.self.items) in
    now_fewer c.args.graph.now c.laws.ensures p _ _ _ c.args.next _ c.requires.waiting e _ deep _ c.in_ok-wait.ensures

pub returns-clause-told : goal.returns-clause-told
returns-clause-told c =
    let p = paths_of c.args.paths.now in
    let e = new_path _ _ _ _ _ c.truncate.ensures.items c.in_ok-push.ensures.items in
    let n : vec_len c.push.new.self ≡ length c.push.new.self.items = search rules in
    let deep = c.len.ensures ∙ n ∙ sym (count_numbers c.push.new.self.items) in
    now_told c.args.graph.now c.laws.ensures p _ _ _ c.args.next _ c.requires.waiting e _ deep _ c.in_ok-wait.ensures c.args.types.now _ _
    (subst (λ fs. map property_of c.note.new.found.items ≡ map property_of c.args.self.now.found.items ++ properties_of c.args.graph.now c.args.types.now p (record { path = numbers_of fs; end = c.args.next.arc.to.0 } ∷ [])) c.deref.ensures.value c.in_ok-note.ensures)
