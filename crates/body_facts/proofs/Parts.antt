-- What is gathered from the parts of bodies, as lists.
use Rattle.std.proofs.Common.{◌≡◌, List, [], ◌∷◌, ◌++◌, map, ap, ◌∙◌, sym}
use Rattle.std.specs.List.{flat_map}
use Rattle.tdl_reader.specs.declared.Attr.{Attr}
use Rattle.tdl_reader.specs.declared.Body.{Body}
use Rattle.tdl_reader.specs.declared.Term.{Term}
use Rattle.tdl_reader.specs.Trees.{TermTree, BodyTree, no_terms, and_term, AttrTrees, no_attrs, more_attrs, ItemTrees, no_items, more_items, body_tree, attrs_of, items_of}
use Rattle.tdl_reader.specs.Views.{term_of, body_in, attr_of}

pub body_flat : {A : Type 0} (S : TermTree → List A) (G : BodyTree → List A) → G no_terms ≡ [] →
    ((t : TermTree) (b : BodyTree) → G (and_term t b) ≡ S t ++ G b) → (xs : List Term) → flat_map (λ x. S (term_of x)) xs ≡ G (body_tree (map term_of xs))
body_flat S G none more [] = sym none
body_flat S G none more (x ∷ xs) = ap (λ l. S (term_of x) ++ l) (body_flat S G none more xs) ∙ sym (more (term_of x) (body_tree (map term_of xs)))

pub attrs_flat : {A : Type 0} (S : Attr → List A) (G : AttrTrees → List A) → G no_attrs ≡ [] →
    ((a : Attr) (m : AttrTrees) → G (more_attrs (attr_of a).path (attr_of a).body m) ≡ S a ++ G m) → (xs : List Attr) → flat_map S xs ≡ G (attrs_of (map attr_of xs))
attrs_flat S G none more [] = sym none
attrs_flat S G none more (x ∷ xs) = ap (λ l. S x ++ l) (attrs_flat S G none more xs) ∙ sym (more x (attrs_of (map attr_of xs)))

pub items_flat : {A : Type 0} (S : BodyTree → List A) (G : ItemTrees → List A) → G no_items ≡ [] →
    ((b : BodyTree) (m : ItemTrees) → G (more_items b m) ≡ S b ++ G m) → (xs : List Body) → flat_map (λ x. S (body_in x)) xs ≡ G (items_of (map body_in xs))
items_flat S G none more [] = sym none
items_flat S G none more (x ∷ xs) = ap (λ l. S (body_in x) ++ l) (items_flat S G none more xs) ∙ sym (more (body_in x) (items_of (map body_in xs)))
