-- One turn of the walk along the cells of a list.
use Rattle.std.specs.Prelude.{ℕ, ◌≡◌, ◌+◌, ◌-◌, ◌<◌, ◌||◌, not, Bool, false, Option, Some, None, List, length}
use Rattle.std.proofs.Common.{refl, sym, ◌∙◌, ap, subst, arith, zero, suc, eq-eqb}
use Rattle.std.proofs.lemmas.Bool.{ne_eqb}
use Rattle.type_hierarchy.specs.Table.{TypeTable}
use Rattle.fs_graph.specs.GraphMap.{GraphMap, node_at, arc_to, arcs_at}
use Rattle.mrs_places.specs.Paths.{Paths}
use Rattle.relation_fit.specs.declared.seeking.SoughtEp.{SoughtEp}
use Rattle.relation_fit.specs.Lists.{RelList}
use Rattle.relation_fit.specs.Tests.{cell_fits, misfits, misfits_between, has_misfit}

module _ (types : TypeTable) (g : GraphMap) (p : Paths) (eps : List SoughtEp) (rest end : ℕ) where
  pub turn_ends : (n node : ℕ) (seen : Bool) → 0 < n → node ≡ end → misfits types g p eps rest end n node seen ≡ seen
  turn_ends zero node seen lt e = absurd (omega (arith, lt))
  turn_ends (suc k) node seen lt e = rw (eq-eqb node end e) refl

  pub turn_stops : (n node : ℕ) (seen : Bool) → 0 < n → (node ≡ end → ⊥) → arc_to (arcs_at g node) rest ≡ None → misfits types g p eps rest end n node seen ≡ false
  turn_stops zero node seen lt e a = absurd (omega (arith, lt))
  turn_stops (suc k) node seen lt e a = rw (ne_eqb node end e, a) refl

  pub turn_on : (n m node to : ℕ) (seen : Bool) → n ≡ m + 1 → (node ≡ end → ⊥) → arc_to (arcs_at g node) rest ≡ Some to → misfits types g p eps rest end n node seen ≡ misfits types g p eps rest end m to (seen || not (cell_fits types g p eps node))
  turn_on zero m node to seen n e a = absurd (omega (arith, n))
  turn_on (suc k) m node to seen n e a =
      let same : k ≡ m = omega (arith, n) in
      let turn : misfits types g p eps rest end (suc k) node seen ≡ misfits types g p eps rest end k to (seen || not (cell_fits types g p eps node)) = rw (ne_eqb node end e, a) refl in
      turn ∙ ap (λ j. misfits types g p eps rest end j to (seen || not (cell_fits types g p eps node))) same

-- where both ends are there
pub between_ends : (types : TypeTable) (g : GraphMap) (p : Paths) (eps : List SoughtEp) (l : RelList) (start end : ℕ) → node_at g l.ends.end ≡ Some end → node_at g l.ends.start ≡ Some start →
    has_misfit types g p eps l ≡ misfits types g p eps l.rest end (length g.types) start false
between_ends types g p eps l start end e s = ap (λ o. misfits_between types g p eps l.rest o (node_at g l.ends.start)) e ∙ ap (misfits_between types g p eps l.rest (Some end)) s
