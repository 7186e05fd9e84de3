-- The routes and the trees of a grammar: those of `Routes`, by what they are made of.
use Rattle.std.specs.Prelude.{ℕ, ◌≡◌, Option, MatchOption, List, map}
use Rattle.tree_model.specs.Structures.{Structure}
use Rattle.lexical_items.specs.Grammars.{GrammarTree}
use Rattle.lexical_items.specs.Inflected.{WordTree}
use Rattle.lexical_items.specs.InflectedViews.{tree_seen}
use Rattle.lexical_items.specs.declared.route.Route.{Route}
use Rattle.lexical_items.specs.declared.tree.InflectedTree.{InflectedTree}
use Rattle.lexical_items.specs.Inner.Keyed.{AreOf, Adds}
use Rattle.lexical_items.specs.Inner.Routes.{RouteTree, route_seen, Key, key_of, IsChain, IsRoute, IsAbove, IsDeep, IsBelow, TreeKey, IsTree, IsOfRoute}

abbrev pub RouteIn : GrammarTree → Key → RouteTree → Type 0
RouteIn g = IsRoute g.lexicon g.spelling g.signs g.entries g.rules

-- a route of its own key
abbrev pub IsOwn : GrammarTree → RouteTree → Type 0
IsOwn g r = RouteIn g (key_of r) r

-- the route of a key; or none, where there is no chain
abbrev pub IsRouteOrNone : {T : Type 0} → GrammarTree → (T → Structure) → Key → Option (Route T) → Type 0
IsRouteOrNone g value k o = MatchOption o (IsChain g.lexicon g.spelling g.signs g.entries g.rules k → ⊥) (λ r. RouteIn g k (route_seen value r))

-- exactly the routes under so many rules, and under fewer
abbrev pub AreDeep : {T : Type 0} → GrammarTree → (T → Structure) → ℕ → List (Route T) → Type 0
AreDeep g value depth rs = AreOf (RouteIn g) (IsDeep g.lexicon g.spelling g.signs g.entries g.rules depth) (map (route_seen value) rs)

abbrev pub AreBelow : {T : Type 0} → GrammarTree → (T → Structure) → ℕ → List (Route T) → Type 0
AreBelow g value depth rs = AreOf (RouteIn g) (IsBelow g.lexicon g.spelling g.signs g.entries g.rules depth) (map (route_seen value) rs)

-- a route with each of the first rules more came to a list
abbrev pub AddsAbove : {T : Type 0} → GrammarTree → (T → Structure) → RouteTree → ℕ → List (Route T) → List (Route T) → Type 0
AddsAbove g value r count old new = Adds (RouteIn g) (IsAbove g.lexicon g.spelling g.signs g.entries g.rules r count) (map (route_seen value) old) (map (route_seen value) new)

abbrev pub TreeIn : GrammarTree → TreeKey → WordTree → Type 0
TreeIn g = IsTree g.lexicon g.spelling g.signs g.entries g.rules

-- the trees of a route came to a list
abbrev pub AddsTrees : {T : Type 0} → GrammarTree → (T → Structure) → RouteTree → List (InflectedTree T) → List (InflectedTree T) → Type 0
AddsTrees g value r old new = Adds (TreeIn g) (IsOfRoute g.lexicon g.spelling g.signs g.entries g.rules r r.ends) (map (tree_seen value) old) (map (tree_seen value) new)
