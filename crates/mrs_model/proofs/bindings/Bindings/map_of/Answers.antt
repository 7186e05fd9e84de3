use Rattle.std.proofs.Common.{◌<◌, ◌+◌, ℕ, List, length, length-append, ap, subst, sym, ◌∙◌, [], ◌∷◌, rules, get_or}
use Rattle.mrs_model.specs.Inner.Bindings.{Binds}
use Rattle.mrs_model.proofs.Slots.{map_more}
use Rattle.mrs_model.proofs.bindings.Bindings.map_of.Goals as goal

pub unreachable-requires : goal.unreachable-requires
unreachable-requires c =
    let lt : c.loop-x.x < c.args.self.now.size = search rules in
    let w = c.requires.all c.loop-x.x lt in
    c.in-None.ensures w.0 w.1

pub loop-x-preserved : goal.loop-x-preserved
loop-x-preserved c =
    let e = c.in_ok-push-in-Some.ensures.items in
    record {
      even = ap length e ∙ length-append c.loop-x.to.items (c.in-Some.y ∷ []) ∙ ap (λ (n : ℕ). n + 1) c.loop-x.invariant.even;
      bound = subst (λ (l : List ℕ). (j : ℕ) → j < c.loop-x.x + 1 → Binds c.args.self.now.pairs j (get_or l j 0)) (sym e)
          (map_more c.args.self.now.pairs c.loop-x.to.items c.loop-x.x c.in-Some.y c.loop-x.invariant.even c.loop-x.invariant.bound c.in-Some.ensures);
    }
