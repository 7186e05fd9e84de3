use Rattle.std.proofs.Common.{◌≡◌, ◌<◌, ◌+◌, length, set, sym, ◌∙◌, ap, subst, arith, rules}
use Rattle.std.proofs.lemmas.List.{get_or-set_same, get_or-set_other, length-set}
use Rattle.type_hierarchy.specs.Table.{count_of}
use Rattle.fs_closing.specs.Constraints.{IsConstraint}
use Rattle.fs_closing.specs.Rules.{Grammar}
use Rattle.fs_closing.proofs.KnownLemmas.{knows_more}
use Rattle.fs_closing.proofs.system.TypeSystem.know.Goals as goal

pub invariant_of-self-2 : goal.invariant_of-self-2
invariant_of-self-2 c =
    let x = c.args.constraint in
    let starts = c.self.inside.starts.items in
    let within : c.args.constraint.ty < count_of c.self.inside.types = omega (arith, ap (λ (g : Grammar). count_of g.types) c.self.view_is, c.requires.ty_in) in
    let place : c.args.constraint.ty < length c.self.inside.starts.items = omega (arith, within, c.self.invariant.known.each) in
    let one : c.in-Ok.place ≡ length c.self.inside.known.items + 1 = search rules in
    let here = subst (λ (g : Grammar). IsConstraint g x.ty x.graph) (sym c.self.view_is) c.requires.known in
    record {
      grammar = c.self.invariant.grammar;
      few = c.self.invariant.few;
      above = c.self.invariant.above;
      known = knows_more _ c.self.inside.known.items _ starts (set starts x.ty c.in-Ok.place) x c.self.invariant.known c.in_ok-push.ensures.items within here
          (get_or-set_same starts x.ty c.in-Ok.place 0 place ∙ one)
          (λ t e. get_or-set_other starts x.ty t c.in-Ok.place 0 e)
          (length-set starts x.ty c.in-Ok.place);
    }
