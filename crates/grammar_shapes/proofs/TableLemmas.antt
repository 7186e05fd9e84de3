-- What a table of rules keeps, by number.
use Rattle.std.specs.Prelude.{ℕ, ◌≡◌, ◌<◌, ◌+◌, ◌++◌, Option, Some, None, IfSome, List, [], ◌∷◌, All, Vec, length, map, option_map, slice_get, slice_index_or}
use Rattle.std.specs.Global.{Global}
use Rattle.std.proofs.Common.{refl, sym, ◌∙◌, ap, subst, zero, suc, arith, take, get_or}
use Rattle.fs_model.specs.Claims.{Path, Has, here, there}
use Rattle.fs_model.proofs.TableLemmas.{walk_ends}
use Rattle.fs_graph.specs.GraphMap.{GraphMap, IsGraph, node_at, type_at, table_of, reader_of}
use Rattle.type_hierarchy.specs.Table.{TypeTable, count_of, is_below}
use Rattle.type_hierarchy.specs.Laws.{HasTypeLaws}
use Rattle.tree_model.specs.Structures.{IsPartialOrder}
use Rattle.fs_closing.specs.Rules.{Grammar, system_of}
use Rattle.fs_graph.specs.Facts.{path_of}
use Rattle.fs_graph.specs.declared.facts.Feat.{Feat}
use Rattle.fs_unify.specs.Entering.{IsGraphIn}
use Rattle.grammar_shapes.specs.declared.phrase_rule.PhraseRule.{PhraseRule}
use Rattle.sieve.specs.Sketches.{TypeAt, AreTypesIn, type_along, paths_of}
use Rattle.grammar_shapes.specs.Ruled.{places_of, IsRuleIn}
use Rattle.grammar_shapes.specs.Inner.Tables.{sketch_at, rule_sketches, row_of}
use Rattle.grammar_shapes.proofs.PartLemmas.{same_length}
use Rattle.grammar_shapes.proofs.ShapeLemmas.{map_get}
use Rattle.grammar_shapes.proofs.CallLemmas.{rule_at}

pub has_at : {A : Type 0} (xs : List A) (n : ℕ) (x : A) → slice_get xs n ≡ Some x → Has x xs
has_at [] n x e = absurd (cc)
has_at (y ∷ xs) zero x e = let z : y ≡ x = cc in subst (λ w. Has w (y ∷ xs)) z here
has_at (y ∷ xs) (suc n) x e = there (has_at xs n x e)

pub got : {A : Type 0} (xs : List A) (n : ℕ) (x : A) → n < length xs → x ≡ slice_index_or xs n x → slice_get xs n ≡ Some x
got [] n x l e = absurd (omega (arith, l))
got (y ∷ xs) zero x l e = ap Some (sym e)
got (y ∷ xs) (suc n) x l e = got xs n x (omega (arith, l)) e

pub some_at : {A : Type 0} (xs : List A) (n : ℕ) → n < length xs → (x : A) × (slice_get xs n ≡ Some x)
some_at [] n l = absurd (omega (arith, l))
some_at (x ∷ xs) zero l = (x, refl)
some_at (x ∷ xs) (suc n) l = some_at xs n (omega (arith, l))

pub index_at : {A : Type 0} (xs : List A) (n : ℕ) (x d : A) → slice_get xs n ≡ Some x → slice_index_or xs n d ≡ x
index_at [] n x d e = absurd (cc)
index_at (y ∷ xs) zero x d e = let z : y ≡ x = cc in z
index_at (y ∷ xs) (suc n) x d e = index_at xs n x d e

same_map : {A : Type 0} (xs : List A) → map (λ x. x) xs ≡ xs
same_map [] = refl
same_map (x ∷ xs) = ap (λ ys. x ∷ ys) (same_map xs)

-- lists that are one after a map are one at each place
both_at : {A B C : Type 0} (f : A → C) (h : B → C) (xs : List A) (ys : List B) (n : ℕ) (x : A) (y : B) → map f xs ≡ map h ys → slice_get xs n ≡ Some x → slice_get ys n ≡ Some y → f x ≡ h y
both_at f h xs ys n x y e a b = let k = map_get f xs n x a in let l = map_get h ys n y b in let m = ap (λ zs. slice_get zs n) e in let z : Some (f x) ≡ Some (h y) = sym k ∙ m ∙ l in cc

module _ (checks : List Path) (rules : List PhraseRule) (sketches : List (Vec (List TypeAt) Global)) (sketched : map row_of sketches ≡ map (rule_sketches checks) rules) where
  rows_even : length sketches ≡ length rules
  rows_even = sym (same_length row_of sketches) ∙ ap length sketched ∙ same_length (rule_sketches checks) rules

  module _ (rule : ℕ) (r : PhraseRule) (at : slice_get rules rule ≡ Some r) (row : Vec (List TypeAt) Global) (there_is : row ≡ slice_index_or sketches rule row) (l : rule < length rules) where
    row_is : row_of row ≡ rule_sketches checks r
    row_is = both_at row_of (rule_sketches checks) sketches rules rule row r sketched (got sketches rule row (let e = rows_even in omega (arith, l, e)) there_is) at

    pub row_even : length row.items ≡ length (places_of r)
    row_even = ap length row_is ∙ same_length (sketch_at checks r) (places_of r)

    pub sketch_is : (place : ℕ) (p : Path) → slice_get (places_of r) place ≡ Some p → place < length (places_of r) → (s : List TypeAt) → s ≡ slice_index_or row.items place s → s ≡ sketch_at checks r p
    sketch_is place p h l s e =
        both_at (λ x. x) (sketch_at checks r) row.items (places_of r) place s p (same_map row.items ∙ row_is) (got row.items place s (let z = row_even in omega (arith, l, z)) e) h

take_from : {A : Type 0} (xs : List A) (i : ℕ) (x : A) → i < length xs → x ≡ get_or xs i x → take (suc i) xs ≡ take i xs ++ x ∷ []
take_from [] i x l e = absurd (omega (arith, l))
take_from (y ∷ xs) zero x l e = ap (λ w. w ∷ []) (sym e)
take_from (y ∷ xs) (suc i) x l e = ap (λ ws. y ∷ ws) (take_from xs i x (omega (arith, l)) e)

take_next : {A : Type 0} (xs : List A) (i : ℕ) (x : A) → i < length xs → x ≡ get_or xs i x → take (i + 1) xs ≡ take i xs ++ x ∷ []
take_next xs i x l e = let next : suc i ≡ i + 1 = omega arith in subst (λ n. take n xs ≡ take i xs ++ x ∷ []) next (take_from xs i x l e)

map_snoc : {A B : Type 0} (f : A → B) (xs : List A) (x : A) → map f (xs ++ x ∷ []) ≡ map f xs ++ f x ∷ []
map_snoc f [] x = refl
map_snoc f (y ∷ xs) x = ap (λ ys. f y ∷ ys) (map_snoc f xs x)

-- what is made of one path more
pub one_place_more : {B : Type 0} (f : Path → B) (ps : List (Vec Feat Global)) (i : ℕ) (p : Vec Feat Global) (xs ys : List B) (x : B) → i < length ps → p ≡ get_or ps i p → ys ≡ xs ++ x ∷ [] →
    x ≡ f (path_of p.items) → xs ≡ map f (paths_of (take i ps)) → ys ≡ map f (paths_of (take (i + 1) ps))
one_place_more f ps i p xs ys x l e more is h =
    more ∙ ap (λ zs. zs ++ x ∷ []) h ∙ ap (λ y. map f (paths_of (take i ps)) ++ y ∷ []) is
    ∙ sym (ap (λ qs. map f (paths_of qs)) (take_next ps i p l e) ∙ ap (map f) (map_snoc (λ (q : Vec Feat Global). path_of q.items) (take i ps) p) ∙ map_snoc f (paths_of (take i ps)) (path_of p.items))

all_at : {A : Type 0} (P : A → Type 0) (xs : List A) (n : ℕ) (d : A) → n < length xs → All P xs → P (slice_index_or xs n d)
all_at P [] n d l h = absurd (omega (arith, l))
all_at P (x ∷ xs) zero d l h = h 0 x (omega arith)
all_at P (x ∷ xs) (suc n) d l h = all_at P xs n d (omega (arith, l)) (λ i e q. h (suc i) e (omega (arith, q)))

-- a type that a graph has at a path is in range
module _ (types feats : ℕ) (g : GraphMap) (is : IsGraph g) (in_range : IsGraphIn types feats g) where
  type_in : (p : Path) → IfSome (type_along (reader_of g) p) (λ t. t < types)
  type_in p = by_node (node_at g p) refl
    where
      by_node : (o : Option ℕ) → node_at g p ≡ o → IfSome (option_map (type_at g) o) (λ t. t < types)
      by_node None e = tt
      by_node (Some n) e = all_at (λ t. t < types) g.types n 0 ((walk_ends (table_of g) is.numbered.table 0 n p is.numbered.filled e).0) in_range.types_in

  -- so the types of its sketch are, at the paths that these stand for
  pub types_in : (at : Path → Path) (ps : List Path) → All (λ (l : TypeAt). IfSome l.ty (λ t. t < types)) (map (λ p. record { path = p; ty = type_along (reader_of g) (at p) }) ps)
  types_in at [] i o l = absurd (omega (arith, l))
  types_in at (p ∷ ps) zero o l = type_in (at p)
  types_in at (p ∷ ps) (suc i) o l = types_in at ps i o (omega (arith, l))

-- the types of a rule's sketch are in range
pub types_below : (g : Grammar) (rules : List PhraseRule) (rule : ℕ) (r : PhraseRule) → slice_get rules rule ≡ Some r → All (IsRuleIn g) rules → IsGraph r.structure.now → (ps : List Path) (place : Path) → AreTypesIn g.types (sketch_at ps r place)
types_below g rules rule r at all is ps place =
    types_in (count_of g.types) (length g.introducers) r.structure.now is (rule_at (IsRuleIn g) rules rule r at all).structure_in.graph_in (λ p. place ++ p) ps

-- the types of a grammar are in a partial order
pub ordered : (g : Grammar) (types : TypeTable) → types ≡ g.types → HasTypeLaws types → IsPartialOrder (system_of g)
ordered g types e laws = subst (λ t. IsPartialOrder (record (system_of g) { is_below = is_below t })) e (record { reflexive = laws.reflexive; transitive = laws.transitive; antisymmetric = laws.antisymmetric })
