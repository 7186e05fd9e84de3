use Rattle.std.proofs.Common.{◌≡◌, ◌<◌, [], ◌∷◌, ◌++◌, length, arith, sym, subst, ap, ◌∙◌, Some}
use Rattle.fs_model.specs.Claims.{same}
use Rattle.fs_graph.specs.GraphMap.{arc_to}
use Rattle.forced_types.specs.Forced.{same_exists, same_sym, same_trans}
use Rattle.forced_types.specs.Inner.Sound.{Forces, most_of, path_in, entry_in}
use Rattle.forced_types.proofs.SoundLemmas.{entry_count}
use Rattle.forced_types.proofs.StepLemmas.{extended, arc_shorter, arc_has}
use Rattle.forced_types.proofs.nodes.Nodes.step.Goals as goal

pub returns-in-Some-clause-end : goal.returns-in-Some-clause-end
returns-in-Some-clause-end c =
    let t = c.args.self.now in
    let n = c.args.n in
    let f = c.args.feat.0 in
    let at = c.requires.sound.entries.each n (omega (arith, entry_count t, c.requires.node)) in
    let found : arc_to (entry_in t n).arcs f ≡ Some c.in-Some.to = ap (λ x. arc_to x f) (sym c.arcs.ensures) ∙ sym c.find_arc.ensures ∙ c.in-Some.is in
    let a = arc_has (entry_in t n).arcs f c.in-Some.to found in
    let arc : Forces c.args.given (same (path_in t n ++ f ∷ []) (path_in t c.in-Some.to)) =
    subst (λ x. Forces c.args.given (same (path_in t n ++ x ∷ []) (path_in t c.in-Some.to))) a.2
    (subst (λ x. Forces c.args.given (same (path_in t n ++ a.0.feat.0 ∷ []) (path_in t x))) a.3 (at.arc_forced a.0 a.1)) in
    record {
      inside = omega (arith, (at.arc_in a.0 a.1).0, a.3, entry_count t);
      leads = λ p e on. same_trans _ _ _ (extended c.args.given p (path_in t n) f e on (arc_shorter c.args.given (path_in t n) _ f arc)) arc;
    }

pub grow-requires-clause-forced : goal.grow-requires-clause-forced
grow-requires-clause-forced c =
    let t = c.args.self.now in
    let room : length (path_in t c.args.n) < most_of c.args.given = omega (arith, c.depth.ensures, c.most.ensures, c.if-depth-most.false) in
    same_exists _ _ (same_sym _ _ (extended c.args.given c.requires.on.other (path_in t c.args.n) c.args.feat.0 c.requires.on.equal c.requires.on.on room))

pub returns-clause-end : goal.returns-clause-end
returns-clause-end c =
    let t = c.args.self.now in
    let f = c.args.feat.0 in
    let room : length (path_in t c.args.n) < most_of c.args.given = omega (arith, c.depth.ensures, c.most.ensures, c.if-depth-most.false) in
    record {
      inside = c.in_ok-to.ensures.inside;
      leads = λ p e on. subst (λ x. Forces c.args.given (same (p ++ f ∷ []) x)) (sym c.in_ok-to.ensures.path) (extended c.args.given p (path_in t c.args.n) f e on room);
    }

pub grow-requires-clause-lacks : goal.grow-requires-clause-lacks
grow-requires-clause-lacks c = ap (λ x. arc_to x c.args.feat.0) (sym c.arcs.ensures) ∙ sym c.find_arc.ensures ∙ c.in_default.is
