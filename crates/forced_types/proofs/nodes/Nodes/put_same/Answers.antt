use Rattle.std.proofs.Common.{◌≡◌, ◌≤◌, ◌++◌, inl, inr, length, refl, sym, subst}
use Rattle.fs_model.specs.Claims.{same}
use Rattle.fs_model.specs.Sources.{Told}
use Rattle.fs_graph.specs.Facts.{path_of}
use Rattle.fs_closing.specs.Rules.{system_of}
use Rattle.forced_types.specs.Forced.{same_sym, same_trans}
use Rattle.forced_types.specs.Inner.Sound.{Forces, AreFronts, most_of, path_in, source_in}
use Rattle.forced_types.proofs.ForcedLemmas.{forced_within}
use Rattle.forced_types.proofs.nodes.Nodes.put_same.Goals as goal

pub reach-requires-clause-fronts : goal.reach-requires-clause-fronts
reach-requires-clause-fronts c = c.requires.put.fronts _ (inl refl)

pub reach-requires-2-clause-fronts : goal.reach-requires-2-clause-fronts
reach-requires-2-clause-fronts c =
    let kept : path_in c.reach.new.self c.args.n ≡ path_in c.args.self.now c.args.n = c.in_ok-first.ensures.keeps.same_at c.args.n c.requires.node in
    subst (λ x. AreFronts c.args.given (x ++ path_of c.args.b.now)) (sym kept) (c.requires.put.fronts _ (inr refl))

pub add_pair-requires-clause-forced : goal.add_pair-requires-clause-forced
add_pair-requires-clause-forced c =
    let g = c.args.given in
    let P = path_in c.args.self.now c.args.n in
    let kept : path_in c.reach.new.self c.args.n ≡ P = c.in_ok-first.ensures.keeps.same_at c.args.n c.requires.node in
    let one = rw c.in-Some.is at c.in_ok-first.ensures.end in
    let two = rw c.in-Some-2.is at c.in_ok-second.ensures.end in
    let second : Forces g (same (P ++ path_of c.args.b.now) (path_in c.reach-2.new.self c.in-Some-2.second)) =
    subst (λ x. Forces g (same (x ++ path_of c.args.b.now) (path_in c.reach-2.new.self c.in-Some-2.second))) kept two.equal in
    let moved : path_in c.reach-2.new.self c.in-Some.first ≡ path_in c.reach.new.self c.in-Some.first = c.in_ok-second.ensures.keeps.same_at c.in-Some.first one.inside in
    let w1 : length (P ++ path_of c.args.a.now) ≤ most_of g = (forced_within (system_of g.system.now) (most_of g) (Told (source_in g)) _ one.equal).0 in
    let w2 : length (P ++ path_of c.args.b.now) ≤ most_of g = (forced_within (system_of g.system.now) (most_of g) (Told (source_in g)) _ second).0 in
    subst (λ x. Forces g (same x (path_in c.reach-2.new.self c.in-Some-2.second))) (sym moved)
    (same_trans _ _ _ (same_sym _ _ one.equal) (same_trans _ _ _ (c.requires.put.claim (w1, w2)) second))
