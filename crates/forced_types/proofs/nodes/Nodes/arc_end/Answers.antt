use Rattle.std.proofs.Common.{◌≡◌, [], ◌∷◌, ◌++◌, arith, sym, subst, ap, ◌∙◌, Some}
use Rattle.fs_model.specs.Claims.{same}
use Rattle.fs_graph.specs.GraphMap.{arc_to}
use Rattle.forced_types.specs.Inner.Sound.{Forces, path_in, entry_in}
use Rattle.forced_types.proofs.SoundLemmas.{entry_count}
use Rattle.forced_types.proofs.StepLemmas.{arc_has}
use Rattle.forced_types.proofs.nodes.Nodes.arc_end.Goals as goal

pub returns-clause-end : goal.returns-clause-end
returns-clause-end c =
    let t = c.args.self.now in
    let n = c.args.n in
    let f = c.args.feat.0 in
    let m = c.in_ok-end.end in
    let at = c.requires.sound.entries.each n (omega (arith, entry_count t, c.requires.node)) in
    let was : c.find_arc.result ≡ Some m = c.in_ok-end.was in
    let found : arc_to (entry_in t n).arcs f ≡ Some m = ap (λ x. arc_to x f) (sym c.arcs.ensures) ∙ sym c.find_arc.ensures ∙ was in
    let a = arc_has (entry_in t n).arcs f m found in
    record {
      inside = omega (arith, (at.arc_in a.0 a.1).0, a.3, entry_count t);
      forced = subst (λ x. Forces c.args.given (same (path_in t n ++ x ∷ []) (path_in t m))) a.2
          (subst (λ x. Forces c.args.given (same (path_in t n ++ a.0.feat.0 ∷ []) (path_in t x))) a.3 (at.arc_forced a.0 a.1));
    }
