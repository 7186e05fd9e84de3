-- The laws of shapes, as they hold of every grammar.
use Rattle.std.specs.Prelude.{ℕ, ◌≡◌, ◌↔◌, ◌++◌, ◌≤◌, Bool, true, Option, Some, None, List, [], ◌∷◌, map, slice_get, length}
pub use Rattle.chart_model.specs.Calculus.{Agreement}
use Rattle.chart_model.specs.Calculus.{Calculus, ShapeLaws}
use Rattle.fs_model.specs.Claims.{Path, Claim, exists_at, same, below, Has, System}
use Rattle.fs_model.specs.Closure.{IsConsistent}
use Rattle.fs_model.specs.Sources.{Reader, Source, Told, Subsumes, IsUnified}
use Rattle.tree_model.specs.Structures.{IsPartialOrder, Structure, over, Beside, Says}
use Rattle.tree_model.specs.Cuts.{Cut, Kept, is_kept}
use Rattle.tree_model.specs.Views.{view, IsInside, AllInside, IsTrimmed, IsKeptOf, source_of, source_alone}
use Rattle.tree_model.specs.Mothers.{Rule, RuleSystem, Applies, IsShape, IsFull, AppliesAt, IsShapeAt, IsFullAt, IsAbstract, Abstract, Whole, Mother, Meant, Agrees, daughters_cut, restrictors_cut, arity_at}

module _ (g : RuleSystem) where
  abbrev pub rules_over : Structure → Structure → Bool
  rules_over = over g.system

  abbrev pub rules_applies : ℕ → List Structure → Type 0
  rules_applies rule ms = AppliesAt g (slice_get g.rules rule) ms

  abbrev pub rules_mother : ℕ → List Structure → Structure → Type 0
  rules_mother rule ms m = IsShapeAt g (slice_get g.rules rule) ms m

  abbrev pub rules_full : ℕ → List Structure → Structure → Type 0
  rules_full rule fs f = IsFullAt g (slice_get g.rules rule) fs f

  -- the calculus of a grammar over covers
  abbrev pub rules_calculus : {C : Type 0} → (ℕ → List C → Option C) → (C → C → Bool) → (C → C → Option C) → (C → ℕ) → (C → Type 0) → Calculus Structure C
  rules_calculus covers equal join size proper =
      record {
        rules = length g.rules;
        arity = λ rule. arity_at g (slice_get g.rules rule);
        over = over g.system;
        applies = λ rule ms. AppliesAt g (slice_get g.rules rule) ms;
        mother = λ rule ms m. IsShapeAt g (slice_get g.rules rule) ms m;
        covers = covers;
        same = equal;
        join = join;
        size = size;
        proper = proper;
      }

-- the laws of shapes
abbrev pub RulesKeepShapes : Type 0
RulesKeepShapes = (g : RuleSystem) → IsPartialOrder g.system → ShapeLaws (rules_over g) (rules_applies g) (rules_mother g)

abbrev pub RulesAgree : Type 0
RulesAgree = (g : RuleSystem) → Agreement (rules_over g) (rules_applies g) (rules_mother g) (rules_full g) (Agrees g)

abbrev pub LeavesAgree : Type 0
LeavesAgree = (g : RuleSystem) (m f : Structure) → IsAbstract g (Meant g f) m → Agrees g m f

-- what an abstract structure is made of: a mother, or a full structure
pub data Basis : Type 0 where
  by_rule : Rule → List Structure → Basis
  by_full : Structure → Basis

abbrev pub claims_of : RuleSystem → Basis → Claim → Type 0
claims_of g (by_rule rule ms) = Mother g rule ms
claims_of g (by_full f) = Meant g f

-- Structures stand for closures: the test of two shapes tells exactly whether the one closure lies in the other.
abbrev pub TestsAreExact : Type 0
TestsAreExact = (g : RuleSystem) (x y : Basis) (a b : Structure) → IsAbstract g (claims_of g x) a → IsAbstract g (claims_of g y) b →
    (over g.system a b ≡ true) ↔ ((c : Claim) → Abstract g (claims_of g x) c → Abstract g (claims_of g y) c)

-- Where each path without restrictors leads to no daughter, the restrictors' cut does for both.
abbrev pub OneCutDoes : Type 0
OneCutDoes = (g : RuleSystem) → ((p : Path) → is_kept (restrictors_cut g) p ≡ true → is_kept (daughters_cut g) p ≡ true) → (rule : Rule) (ms : List Structure) (c : Claim) →
    Kept (restrictors_cut g) (Mother g rule ms) c ↔ Kept (restrictors_cut g) (Whole g rule ms) c

-- a claim speaks of no restrictor
abbrev pub IsClear : List ℕ → Claim → Type 0
IsClear rs (exists_at p) = is_kept (record { at_root = []; anywhere = rs }) p ≡ true
IsClear rs (same p q) = (is_kept (record { at_root = []; anywhere = rs }) p ≡ true) × (is_kept (record { at_root = []; anywhere = rs }) q ≡ true)
IsClear rs (below p t) = is_kept (record { at_root = []; anywhere = rs }) p ≡ true

-- Where no fact of the types that are left speaks of a restrictor, what is kept of a mother is closed as it stands.
abbrev pub NothingIsOwed : Type 0
NothingIsOwed = (g : RuleSystem) (rs : List ℕ) → g.restrictors ≡ record { at_root = []; anywhere = rs } → (rule : Rule) (ms : List Structure) →
    ((p : Path) (t : ℕ) (c : Claim) → is_kept (record { at_root = []; anywhere = rs }) p ≡ true → Mother g rule ms (below p t) → Has c (g.system.facts_of t) → IsClear rs c) →
    (c : Claim) → Abstract g (Mother g rule ms) c → Kept (restrictors_cut g) (Mother g rule ms) c

-- What unification with cuts answers is what the rule makes.
abbrev pub ShapesAreMade : Type 0
ShapesAreMade = (g : RuleSystem) (rule : Rule) (rs : List Reader) (r : Reader) → AllInside g.paths rs → IsInside g.paths r →
    IsTrimmed g.system (source_of rule rs) (daughters_cut g ∷ []) (restrictors_cut g) (Some r) → IsShape g rule (map (view g.paths) rs) (view g.paths r)

abbrev pub FullsAreMade : Type 0
FullsAreMade = (g : RuleSystem) (rule : Rule) (rs : List Reader) (r : Reader) → AllInside g.paths rs → IsInside g.paths r →
    IsTrimmed g.system (source_of rule rs) [] (daughters_cut g) (Some r) → IsFull g rule (map (view g.paths) rs) (view g.paths r)

abbrev pub LeavesAreMade : Type 0
LeavesAreMade = (g : RuleSystem) (full r : Reader) → IsInside g.paths full → IsInside g.paths r →
    IsTrimmed g.system (source_alone full) [] (restrictors_cut g) (Some r) → IsAbstract g (Meant g (view g.paths full)) (view g.paths r)

-- and where it answers none, the rule doesn't apply; this also of the beginning of a tuple
abbrev pub NoneWhereRefused : Type 0
NoneWhereRefused = (g : RuleSystem) (rule : Rule) (rs : List Reader) → AllInside g.paths rs → (IsConsistent g.system (Told (source_of rule rs)) → ⊥) →
    (rest : List Structure) → Applies g rule (map (view g.paths) rs ++ rest) → ⊥

-- the test on views is subsumption of graphs
abbrev pub TestsAreSubsumption : Type 0
TestsAreSubsumption = (g : RuleSystem) (a b : Reader) → IsInside g.paths a → (over g.system (view g.paths a) (view g.paths b) ≡ true) ↔ Subsumes g.system a b

-- A quick test of types: where a daughter and the rule's own facts have types at one path that don't meet, the rule applies to no
-- tuple that begins so.
abbrev pub TypesRefuse : Type 0
TypesRefuse = (g : RuleSystem) (rule : Rule) (front : List Structure) (place p : Path) (m : Structure) (t u : ℕ) → Beside place m rule.places front →
    Says g.paths m (below p t) → Told rule.facts (below (place ++ p) u) → g.system.meet u t ≡ None → (rest : List Structure) → Applies g rule (front ++ rest) → ⊥

-- Unification and a cut give what unification with one cut is to answer.
abbrev pub CutTrims : Type 0
CutTrims = (s : System) (source : Source) (cut : Cut) (whole bare : Reader) → IsUnified s source (Some whole) → IsKeptOf cut whole bare → IsTrimmed s source [] cut (Some bare)

-- That, unified alone and cut again, is what two cuts give; unified alone it never is none.
abbrev pub StepsTrim : Type 0
StepsTrim = (s : System) (source : Source) (cut last : Cut) (bare : Reader) → IsTrimmed s source [] cut (Some bare) →
    ((mother short : Reader) → IsUnified s (source_alone bare) (Some mother) → IsKeptOf last mother short → IsTrimmed s source (cut ∷ []) last (Some short))
    × (IsUnified s (source_alone bare) None → ⊥)

-- No path of an answer is too long.
abbrev pub AnswersAreShort : Type 0
AnswersAreShort = (s : System) (source : Source) (cuts : List Cut) (last : Cut) (r : Reader) → IsTrimmed s source cuts last (Some r) → (p : Path) (n : ℕ) → r.node_at p ≡ Some n → length p ≤ s.path_limit
