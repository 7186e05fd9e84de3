-- Bodies and their parts, as lists.
use Rattle.std.proofs.Common.{ℕ, ◌≡◌, ◌⊎◌, inl, inr, List, [], ◌∷◌, ◌++◌, map, String, refl, ap, ◌∙◌}
use Rattle.std.specs.Global.{Global}
use Rattle.std.specs.List.{flat_map}
use Rattle.tdl_reader.specs.declared.Attr.{Attr}
use Rattle.tdl_reader.specs.declared.Body.{Body}
use Rattle.tdl_reader.specs.declared.Rest.{Rest, Closed, Open}
use Rattle.tdl_reader.specs.declared.Term.{Term, Name as NameTerm, Coref}
use Rattle.tdl_reader.specs.Trees.{body_tree, attrs_of, items_of}
use Rattle.tdl_reader.specs.Views.{term_of, body_in, attr_of, rest_of}
use Rattle.tdl_reader.proofs.Rows.{view_of_name, view_of_coref, view_of_closed, view_of_open}
use Rattle.grammar_files.specs.BodyStrings.{strings_of_term, strings_of_body, strings_of_attrs, strings_of_items, strings_of_rest}
use Rattle.grammar_settings.specs.Forms.{Name}
use Rattle.grammar_types.specs.Typings.{top_name, top_names}

abbrev pub term_strings : Term → List Name
term_strings t = strings_of_term (term_of t)

abbrev pub attr_strings : Attr → List Name
attr_strings a = strings_of_body (attr_of a).body

abbrev pub item_strings : Body → List Name
item_strings b = strings_of_body (body_in b)

abbrev pub term_top : Term → List Name
term_top t = top_name (term_of t)

pub body_flat : (xs : List Term) → flat_map term_strings xs ≡ strings_of_body (body_tree (map term_of xs))
body_flat [] = refl
body_flat (x ∷ xs) = ap (λ l. strings_of_term (term_of x) ++ l) (body_flat xs)

pub attrs_flat : (xs : List Attr) → flat_map attr_strings xs ≡ strings_of_attrs (attrs_of (map attr_of xs))
attrs_flat [] = refl
attrs_flat (x ∷ xs) = ap (λ l. strings_of_body (attr_of x).body ++ l) (attrs_flat xs)

pub items_flat : (xs : List Body) → flat_map item_strings xs ≡ strings_of_items (items_of (map body_in xs))
items_flat [] = refl
items_flat (x ∷ xs) = ap (λ l. strings_of_body (body_in x) ++ l) (items_flat xs)

pub top_flat : (xs : List Term) → flat_map term_top xs ≡ top_names (body_tree (map term_of xs))
top_flat [] = refl
top_flat (x ∷ xs) = ap (λ l. top_name (term_of x) ++ l) (top_flat xs)

pub no_rest : (r : Rest) → (r ≡ Closed) ⊎ (r ≡ Open) → strings_of_rest (rest_of r) ≡ []
no_rest r (inl e) = ap (λ x. strings_of_rest (rest_of x)) e ∙ ap strings_of_rest view_of_closed
no_rest r (inr e) = ap (λ x. strings_of_rest (rest_of x)) e ∙ ap strings_of_rest view_of_open

pub no_string : (t : Term) → ((x : String Global) × (at : ℕ) × (t ≡ NameTerm x at)) ⊎ ((x : String Global) × (at : ℕ) × (t ≡ Coref x at)) → strings_of_term (term_of t) ≡ []
no_string t (inl h) = ap (λ x. strings_of_term (term_of x)) h.2 ∙ ap strings_of_term (view_of_name h.0 h.1)
no_string t (inr h) = ap (λ x. strings_of_term (term_of x)) h.2 ∙ ap strings_of_term (view_of_coref h.0 h.1)
