-- The test of a structure, cell by cell: some element fits no elementary predication.
use Rattle.std.specs.Prelude.{ℕ, ◌==◌, ◌&&◌, ◌||◌, not, nat_lt, Bool, true, false, if◌then◌else◌, Option, Some, None, List, length}
use Rattle.std.specs.List.{list_any, list_all}
use Rattle.std.proofs.Common.{zero, suc}
use Rattle.fs_graph.specs.Facts.{path_of}
use Rattle.fs_model.specs.Table.{walk}
use Rattle.fs_graph.specs.GraphMap.{GraphMap, table_of, node_at, type_at, arcs_at, arc_to}
use Rattle.type_hierarchy.specs.Table.{TypeTable, count_of, completed_count, is_below}
use Rattle.mrs_places.specs.Paths.{Paths}
use Rattle.mrs_places.specs.Looking.{step}
use Rattle.relation_fit.specs.Lists.{RelList}
use Rattle.relation_fit.specs.declared.seeking.Named.{Named}
use Rattle.relation_fit.specs.declared.seeking.SoughtProp.{SoughtProp}
use Rattle.relation_fit.specs.declared.seeking.SoughtValue.{SoughtValue}
use Rattle.relation_fit.specs.declared.seeking.SoughtValue.TheVariants.{Text, Var}
use Rattle.relation_fit.specs.declared.seeking.SoughtRole.{SoughtRole}
use Rattle.relation_fit.specs.declared.seeking.SoughtEp.{SoughtEp}

-- a type of the grammar that is at or below another
abbrev pub is_under : TypeTable → ℕ → ℕ → Bool
is_under types t above = nat_lt t (count_of types) && is_below types t above

-- a node of this type may yet get one of these types
abbrev pub may_be : TypeTable → Named → ℕ → Bool
may_be types named t = named.any || list_any (λ u. is_under types u.0 t) named.types.items

module _ (types : TypeTable) (g : GraphMap) where
  -- the end of a path may yet have the value, and has no features; a path that isn't there may yet come
  abbrev pub end_fits : Named → Option ℕ → Bool
  end_fits value None = true
  end_fits value (Some n) = (length (arcs_at g n) == 0) && may_be types value (type_at g n)

  abbrev pub prop_fits : ℕ → SoughtProp → Bool
  prop_fits n x = end_fits x.value (walk (table_of g) n (path_of x.path.items))

  abbrev pub value_fits : ℕ → SoughtValue → Bool
  value_fits n (Text named) = may_be types named (type_at g n)
  value_fits n (Var props) = nat_lt (type_at g n) (completed_count types) && list_all (prop_fits n) props.items

  abbrev pub filler_fits : SoughtValue → Option ℕ → Bool
  filler_fits value None = true
  filler_fits value (Some n) = value_fits n value

  abbrev pub role_fits : ℕ → SoughtRole → Bool
  role_fits n r = filler_fits r.value (arc_to (arcs_at g n) r.feat.0)

  abbrev pub pred_fits : Named → Option ℕ → Bool
  pred_fits pred None = true
  pred_fits pred (Some n) = may_be types pred (type_at g n)

  module _ (p : Paths) where
    -- an element fits an elementary predication where its predicate, and of each role that it has the text or the properties, may yet be those
    abbrev pub ep_fits : ℕ → SoughtEp → Bool
    ep_fits n e = pred_fits e.pred (step g n p.pred) && list_all (role_fits n) e.roles.items

    abbrev pub element_fits : List SoughtEp → Option ℕ → Bool
    element_fits eps None = true
    element_fits eps (Some n) = list_any (ep_fits n) eps

    -- the element of a cell fits some
    abbrev pub cell_fits : List SoughtEp → ℕ → Bool
    cell_fits eps n = element_fits eps (step g n p.first)

    -- from a cell on the end is reached within so many cells, and one of them fits none, or one before did
    abbrev pub misfits : List SoughtEp → ℕ → ℕ → ℕ → ℕ → Bool → Bool
    misfits eps rest end zero node seen = false
    misfits eps rest end (suc k) node seen =
        if node == end then seen else elim (arc_to (arcs_at g node) rest) as (λ _. Bool) [ None ↦ false | Some to ↦ misfits eps rest end k to (seen || not (cell_fits eps node)) ]

    abbrev pub misfits_between : List SoughtEp → ℕ → Option ℕ → Option ℕ → Bool
    misfits_between eps rest None start = false
    misfits_between eps rest (Some end) None = false
    misfits_between eps rest (Some end) (Some start) = misfits eps rest end (length g.types) start false

    -- the list reaches its end, and some element of it fits no elementary predication
    abbrev pub has_misfit : List SoughtEp → RelList → Bool
    has_misfit eps l = misfits_between eps l.rest (node_at g l.ends.end) (node_at g l.ends.start)
