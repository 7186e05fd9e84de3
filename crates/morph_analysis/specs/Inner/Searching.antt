-- What a search adds, by what it stands on: the chains of `Adding` and `Routes` over the fields of a search and of a stem.
use Rattle.std.specs.Prelude.{ℕ, ◌++◌, List, [], ◌∷◌, Option, MatchOption, map, string_bytes}
use denote.Ref.{Bor}
use Rattle.lexicon.specs.Words.{Word}
use Rattle.lexicon.specs.Groups.{GroupTree}
use Rattle.morph_analysis.specs.declared.lattice.Step.{Step}
use Rattle.morph_analysis.specs.declared.made.MadeChain.{MadeChain}
use Rattle.morph_analysis.specs.declared.outward.Route.{Route}
use Rattle.morph_analysis.specs.declared.search.Search.{Search}
use Rattle.morph_analysis.specs.declared.search.Stem.{Stem}
use Rattle.morph_analysis.specs.LatticeViews.{step_of}
use Rattle.morph_analysis.specs.Made.{MadeTree}
use Rattle.morph_analysis.specs.Spelled.{EdgeTree, NodeTree}
use Rattle.morph_analysis.specs.Views.{made_of}
use Rattle.morph_analysis.specs.Inner.Adding.{AddsThose, IsOf, OfGroup, OfWords, OfNode, OfNodes, OfSome, OfStep}
use Rattle.morph_analysis.specs.Inner.Routes.{IsRouteOf, IsOn, IsAlong, IsLonger}

-- exactly those chains are added for which P holds
abbrev pub AddsMade : {T V : Type 0} → (T → V) → (MadeTree V → Type 0) → List (MadeChain T) → List (MadeChain T) → Type 0
AddsMade value P old new = AddsThose P (map (made_of value) old) (map (made_of value) new)

-- the words of chains over a stem: those before it, and that of its step
abbrev pub words_over : Stem → List Word
words_over stem = map string_bytes stem.front.now ++ string_bytes stem.step.now.word ∷ []

-- chains over a stem, for which E holds of the entry, R of entry, rules and what is made of them, and F of the first node
abbrev pub OfStem : {V : Type 0} → (ℕ → Type 0) → (ℕ → List ℕ → V → Type 0) → (ℕ → Type 0) → Stem → MadeTree V → Type 0
OfStem E R F stem = IsOf E R F (words_over stem) stem.step.now.to

-- rules that lead from a stem to its step's word, with what is made of an entry and them
abbrev pub RouteFrom : {M V : Type 0} → (M → ℕ → List ℕ → V → Type 0) → Search M → Stem → ℕ → List ℕ → V → Type 0
RouteFrom makes s stem = IsRouteOf stem.graph.now (makes s.maker.now) s.depth stem.node

-- such rules that go on from these, which lead to a node
abbrev pub OnFrom : {M V : Type 0} → (M → ℕ → List ℕ → V → Type 0) → Search M → Stem → List ℕ → ℕ → ℕ → List ℕ → V → Type 0
OnFrom makes s stem rules node = IsOn stem.graph.now (makes s.maker.now) s.depth rules node

-- a route with one rule more, along an edge; or none, where no rules go on along it
abbrev pub LongerOrNone : {M T V : Type 0} → (M → ℕ → List ℕ → V → Type 0) → (M → T → V) → Search M → List NodeTree → ℕ → List ℕ → EdgeTree → Option (Route T) → Type 0
LongerOrNone {M} {T} {V} makes value s graph entry rules e o =
    MatchOption o ((all : List ℕ) (v : V) → IsAlong graph (makes s.maker.now) s.depth rules e entry all v → ⊥)
    (λ next. IsLonger (makes s.maker.now) s.depth rules e entry next.rules.items next.node (value s.maker.now next.made))

-- chains of some of these entries over a stem
abbrev pub GroupOver : {M V : Type 0} → (M → ℕ → List ℕ → V → Type 0) → Search M → Stem → (ℕ → Type 0) → MadeTree V → Type 0
GroupOver makes s stem E = OfGroup stem.graph.now (makes s.maker.now) s.depth s.arrivals.now (step_of stem.step.now) stem.node (map string_bytes stem.front.now) E

-- chains of the entries of a group, of all entries that end with the word of a node, and of those of the nodes before
abbrev pub WordsAt : {M V : Type 0} → (M → ℕ → List ℕ → V → Type 0) → Search M → List NodeTree → Step → ℕ → GroupTree → MadeTree V → Type 0
WordsAt makes s graph step node group = OfWords graph (makes s.maker.now) s.depth s.arrivals.now (step_of step) node group

abbrev pub NodeAt : {M V : Type 0} → (M → ℕ → List ℕ → V → Type 0) → Search M → List NodeTree → Step → ℕ → MadeTree V → Type 0
NodeAt makes s graph step node = OfNode s.lexicon.now graph (makes s.maker.now) s.depth s.arrivals.now (step_of step) node

abbrev pub NodesBefore : {M V : Type 0} → (M → ℕ → List ℕ → V → Type 0) → Search M → List NodeTree → Step → ℕ → MadeTree V → Type 0
NodesBefore makes s graph step end = OfNodes s.lexicon.now graph (makes s.maker.now) s.depth s.arrivals.now (step_of step) end

-- the chains whose last words are those of steps
abbrev pub StepsOver : {M V : Type 0} → (M → ℕ → List ℕ → V → Type 0) → Search M → List (Bor Step) → MadeTree V → Type 0
StepsOver makes s steps = OfSome (OfStep s.lexicon.now s.spelling.now (makes s.maker.now) s.depth s.arrivals.now) (map (λ (t : Bor Step). step_of t.now) steps)
