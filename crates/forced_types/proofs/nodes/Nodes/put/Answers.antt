use Rattle.std.proofs.Common.{◌≤◌, ◌++◌, length, refl, sym, subst}
use Rattle.fs_model.specs.Claims.{same}
use Rattle.fs_model.specs.Sources.{Told}
use Rattle.fs_graph.specs.declared.facts.Fact.{Fact}
use Rattle.fs_graph.specs.Facts.{path_of, claim_of}
use Rattle.fs_closing.specs.Rules.{system_of}
use Rattle.forced_types.specs.Forced.{same_type}
use Rattle.forced_types.specs.Inner.Sound.{Forces, AreFronts, MayPut, most_of, path_in, source_in}
use Rattle.forced_types.proofs.ForcedLemmas.{forced_within}
use Rattle.forced_types.proofs.nodes.Nodes.put.Goals as goal

pub reach-requires-clause-fronts : goal.reach-requires-clause-fronts
reach-requires-clause-fronts c =
    let put = subst (λ (x : Fact). MayPut c.args.given (path_in c.args.self.now c.args.n) (claim_of x)) c.in-Exists.is c.requires.put in
    subst (λ x. AreFronts c.args.given (path_in c.args.self.now c.args.n ++ path_of x)) (sym c.deref.ensures.value) (put.fronts _ refl)

pub reach-requires-in-Below-clause-fronts : goal.reach-requires-in-Below-clause-fronts
reach-requires-in-Below-clause-fronts c =
    let put = subst (λ (x : Fact). MayPut c.args.given (path_in c.args.self.now c.args.n) (claim_of x)) c.in-Below.is c.requires.put in
    subst (λ x. AreFronts c.args.given (path_in c.args.self.now c.args.n ++ path_of x)) (sym c.deref-in-Below.ensures.value) (put.fronts _ refl)

pub add_type-requires-clause-forced : goal.add_type-requires-clause-forced
add_type-requires-clause-forced c =
    let g = c.args.given in
    let P = path_in c.args.self.now c.args.n in
    let put = subst (λ (x : Fact). MayPut c.args.given P (claim_of x)) c.in-Below.is c.requires.put in
    let end = rw c.in-Some.is at c.in_ok-end-in-Below.ensures.end in
    let equal = subst (λ x. Forces g (same (P ++ path_of x) (path_in c.reach-in-Below.new.self c.in-Some.end))) c.deref-in-Below.ensures.value end.equal in
    let w : length (P ++ path_of c.in-Below.path.items) ≤ most_of g = (forced_within (system_of g.system.now) (most_of g) (Told (source_in g)) _ equal).0 in
    same_type _ _ c.in-Below.ty.0 equal (put.claim w)
