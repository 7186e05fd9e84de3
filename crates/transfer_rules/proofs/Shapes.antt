-- Single terms, and bodies of one term.
use Rattle.std.proofs.Common.{◌≡◌, ℕ, List, [], ◌∷◌, Some, None, map, refl, ap}
use Rattle.std.proofs.lemmas.Option.{same_Some}
use Rattle.tdl_reader.specs.declared.Term.{Term}
use Rattle.tdl_reader.specs.Trees.{TermTree, of_name, of_text, of_coref, of_avm, of_list, of_diff, BodyTree, no_terms, and_term, AttrTrees, ItemTrees, closed, open_end, tail_of, body_tree}
use Rattle.tdl_reader.specs.Views.{term_of}
use Rattle.transfer_rules.specs.Features.{feature_in, features_in, features_of, elements_in, elements_of}
use Rattle.transfer_rules.specs.Inner.Terms.{attrs_in, items_in}

-- an attribute that is no feature
pub no_name : (ps : List (List ℕ)) (b : BodyTree) → ((n : List ℕ) → ps ≡ n ∷ [] → ⊥) → feature_in ps b ≡ None
no_name [] b h = refl
no_name (n ∷ []) b h = absurd (h n refl)
no_name (n ∷ m ∷ ps) b h = refl

pub no_value : (n : List ℕ) (ts : List Term) → ((t : Term) → ts ≡ t ∷ [] → ⊥) → feature_in (n ∷ []) (body_tree (map term_of ts)) ≡ None
no_value n [] h = refl
no_value n (t ∷ []) h = absurd (h t refl)
no_value n (t ∷ u ∷ ts) h = refl

-- a body that is one feature term
pub of_attrs : (t : TermTree) (attrs : AttrTrees) → attrs_in t ≡ Some attrs → features_of (and_term t no_terms) ≡ features_in attrs
of_attrs (of_name n at) attrs e = absurd (let f : None ≡ Some attrs = e in cc)
of_attrs (of_text n at) attrs e = absurd (let f : None ≡ Some attrs = e in cc)
of_attrs (of_coref n at) attrs e = absurd (let f : None ≡ Some attrs = e in cc)
of_attrs (of_avm x at) attrs e = ap features_in (same_Some x attrs e)
of_attrs (of_list i r at) attrs e = absurd (let f : None ≡ Some attrs = e in cc)
of_attrs (of_diff i at) attrs e = absurd (let f : None ≡ Some attrs = e in cc)

pub no_attrs_in : (t : TermTree) → attrs_in t ≡ None → features_of (and_term t no_terms) ≡ None
no_attrs_in (of_name n at) e = refl
no_attrs_in (of_text n at) e = refl
no_attrs_in (of_coref n at) e = refl
no_attrs_in (of_avm x at) e = absurd (let f : Some x ≡ None = e in cc)
no_attrs_in (of_list i r at) e = refl
no_attrs_in (of_diff i at) e = refl

features_avm : (t u : TermTree) (b : BodyTree) → features_of (and_term t (and_term u b)) ≡ None
features_avm (of_name n at) u b = refl
features_avm (of_text n at) u b = refl
features_avm (of_coref n at) u b = refl
features_avm (of_avm x at) u b = refl
features_avm (of_list i r at) u b = refl
features_avm (of_diff i at) u b = refl

pub not_one_term : (ts : List Term) → ((t : Term) → ts ≡ t ∷ [] → ⊥) → features_of (body_tree (map term_of ts)) ≡ None
not_one_term [] h = refl
not_one_term (t ∷ []) h = absurd (h t refl)
not_one_term (t ∷ u ∷ ts) h = features_avm (term_of t) (term_of u) (body_tree (map term_of ts))

-- a closed list
pub of_items : (t : TermTree) (items : ItemTrees) → items_in t ≡ Some items → elements_of t ≡ elements_in items
of_items (of_name n at) items e = absurd (let f : None ≡ Some items = e in cc)
of_items (of_text n at) items e = absurd (let f : None ≡ Some items = e in cc)
of_items (of_coref n at) items e = absurd (let f : None ≡ Some items = e in cc)
of_items (of_avm x at) items e = absurd (let f : None ≡ Some items = e in cc)
of_items (of_list i closed at) items e = ap elements_in (same_Some i items e)
of_items (of_list i open_end at) items e = absurd (let f : None ≡ Some items = e in cc)
of_items (of_list i (tail_of b) at) items e = absurd (let f : None ≡ Some items = e in cc)
of_items (of_diff i at) items e = absurd (let f : None ≡ Some items = e in cc)

pub no_items_in : (t : TermTree) → items_in t ≡ None → elements_of t ≡ None
no_items_in (of_name n at) e = refl
no_items_in (of_text n at) e = refl
no_items_in (of_coref n at) e = refl
no_items_in (of_avm x at) e = refl
no_items_in (of_list i closed at) e = absurd (let f : Some i ≡ None = e in cc)
no_items_in (of_list i open_end at) e = refl
no_items_in (of_list i (tail_of b) at) e = refl
no_items_in (of_diff i at) e = refl
