use Rattle.std.proofs.Common.{◌≡◌, [], ◌++◌, refl, sym, subst, ap, ◌∙◌, append-nil}
use Rattle.fs_model.specs.Claims.{exists_at, same}
use Rattle.fs_graph.specs.Facts.{path_of}
use Rattle.forced_types.specs.declared.nodes.Image.{Image}
use Rattle.forced_types.specs.Forced.{same_exists, same_sym}
use Rattle.forced_types.specs.Inner.Sound.{Forces, AreFronts, IsImage, path_in, place_at}
use Rattle.forced_types.proofs.LoadLemmas.{place_fronts}
use Rattle.forced_types.proofs.nodes.Nodes.enter.Goals as goal

pub reach-requires-clause-fronts : goal.reach-requires-clause-fronts
reach-requires-clause-fronts c =
    let g = c.args.given in
    let place : path_in c.args.self.now 0 ++ path_of c.place_of-at.result.now ≡ place_at g.parts.now c.args.i =
    ap (λ x. x ++ path_of c.place_of-at.result.now) c.requires.sound.entries.root ∙ c.place_of-at.ensures.value in
    subst (AreFronts g) (sym place) (place_fronts g c.args.i c.requires.part)

pub add_node-requires-clause-forced : goal.add_node-requires-clause-forced
add_node-requires-clause-forced c =
    let end = rw c.in-Some.is at c.in_ok-end.ensures.end in
    subst (λ x. Forces c.args.given (exists_at x)) (sym c.in_ok-place.ensures)
    (subst (λ x. Forces c.args.given (exists_at (x ++ path_of c.place_of-at.result.now))) c.requires.sound.entries.root (same_exists _ _ end.equal))

pub add_node-requires-clause-image : goal.add_node-requires-clause-image
add_node-requires-clause-image c = λ im e.
    let first : Image = record { part = c.args.i; node = 0 } in
    let is : first ≡ im = cc in
    subst (λ x. IsImage c.args.given.parts.now (path_of c.in_ok-place.place.items) x) is
    (record {
      part_in = c.requires.part;
      inside = [];
      path_is = c.in_ok-place.ensures ∙ c.place_of-at.ensures.value ∙ sym (append-nil (place_at c.args.given.parts.now c.args.i));
      leads = refl;
    })

pub add_pair-requires-clause-forced : goal.add_pair-requires-clause-forced
add_pair-requires-clause-forced c =
    let g = c.args.given in
    let end = rw c.in-Some.is at c.in_ok-end.ensures.end in
    let t = c.add_node.new.self in
    let kept : path_in t c.in-Some.end ≡ path_in c.reach.new.self c.in-Some.end = c.in_ok-root.ensures.keeps.same_at c.in-Some.end end.inside in
    let root : path_in t c.in_ok-root.root ≡ path_of c.place_of-at.result.now = c.in_ok-root.ensures.path ∙ c.in_ok-place.ensures in
    let equal : Forces g (same (path_of c.place_of-at.result.now) (path_in c.reach.new.self c.in-Some.end)) =
    subst (λ x. Forces g (same (x ++ path_of c.place_of-at.result.now) (path_in c.reach.new.self c.in-Some.end))) c.requires.sound.entries.root end.equal in
    subst (λ x. Forces g (same x (path_in t c.in_ok-root.root))) (sym kept)
    (subst (λ x. Forces g (same (path_in c.reach.new.self c.in-Some.end) x)) (sym root) (same_sym _ _ equal))
