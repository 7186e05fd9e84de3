use Rattle.std.proofs.Common.{◌≡◌, ◌<◌, ◌^◌, List, map, length, vec_len, subst, arith, rules}
use Rattle.std.specs.List.{All}
use Rattle.mrs_model.specs.declared.Var.{Var}
use Rattle.mrs_model.specs.declared.Ep.{Ep}
use Rattle.mrs_model.specs.declared.Hcon.{Hcon}
use Rattle.mrs_model.specs.declared.Icon.{Icon}
use Rattle.mrs_model.specs.Views.{variable_of, predication_of, hcon_of, icon_of}
use Rattle.mrs_text.specs.Stored.{IsStoredVariable, IsStoredPredication, IsStoredConstraint}
use Rattle.mrs_text.proofs.Looking.{rows}
use Rattle.mrs_text.proofs.storing.stored.Goals as goal

pub returns : goal.returns
returns c =
    let vars = c.args.mrs.now.vars in
    let n = rows variable_of vars.items in
    let m : vec_len vars ≡ length vars.items = search rules in
    let f : vec_len vars < 2 ^ 64 = search rules in record {
      few = omega (arith, n, m, f);
      vars = subst (λ (xs : List Var). All IsStoredVariable (map variable_of xs)) c.deref.ensures.value c.vars_are_stored.ensures;
      eps = subst (λ (xs : List Ep). All IsStoredPredication (map predication_of xs)) c.deref-2.ensures.value c.eps_are_stored.ensures;
      hcons = subst (λ (xs : List Hcon). All IsStoredConstraint (map hcon_of xs)) c.deref-3.ensures.value c.hcons_are_stored.ensures;
      icons = subst (λ (xs : List Icon). All IsStoredConstraint (map icon_of xs)) c.deref-4.ensures.value c.icons_are_stored.ensures;
    }
