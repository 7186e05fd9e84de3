use Rattle.std.proofs.Common.{◌≡◌, ◌∙◌, map, None, Some, refl, sym, ap, subst}
use Rattle.std.specs.Option.{option_map}
use Rattle.fs_graph.specs.GraphMap.{node_at}
use Rattle.fs_graph.specs.Facts.{path_of}
use Rattle.closed_lists.specs.Names.{names_of}
use Rattle.closed_lists.specs.Inner.Walked.{IsKnownPath}
use Rattle.closed_lists.proofs.ListLemmas.{list_found, no_list, unknown_list}
use Rattle.closed_lists.proofs.lists.list_at.Goals as goal

pub returns-in_default : goal.returns-in_default
returns-in_default c =
    unknown_list c.args.types.now (names_of c.args.names.now) c.args.graph.now (map (option_map (λ f. f.0)) c.args.path.now)
    (subst (λ o. IsKnownPath (map (option_map (λ f. f.0)) c.args.path.now) (option_map (λ v. path_of v.items) o)) c.in_default.is c.in_ok-known.ensures)

pub returns-in_default-at : goal.returns-in_default-at
returns-in_default-at c =
    no_list c.args.types.now (names_of c.args.names.now) c.args.graph.now (map (option_map (λ f. f.0)) c.args.path.now) (path_of c.in-Some.known.items)
    (subst (λ o. IsKnownPath (map (option_map (λ f. f.0)) c.args.path.now) (option_map (λ v. path_of v.items) o)) c.in-Some.is c.in_ok-known.ensures)
    (ap (λ l. node_at c.args.graph.now (path_of l)) (sym c.deref.ensures.value) ∙ sym c.in_default-at.ensures)

pub returns : goal.returns
returns c =
    list_found c.args.types.now (names_of c.args.names.now) c.args.graph.now (map (option_map (λ f. f.0)) c.args.path.now) (path_of c.in-Some.known.items) c.in-Some-at.start.0 _
    (subst (λ o. IsKnownPath (map (option_map (λ f. f.0)) c.args.path.now) (option_map (λ v. path_of v.items) o)) c.in-Some.is c.in_ok-known.ensures)
    (ap (λ l. node_at c.args.graph.now (path_of l)) (sym c.deref.ensures.value) ∙ sym c.in-Some-at.ensures) c.in_ok-found.ensures
