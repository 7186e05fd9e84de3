-- What terms are seen as, by what they are made of.
use Rattle.std.proofs.Common.{◌≡◌, ℕ, List, [], ◌∷◌, ◌++◌, map, sym, ◌∙◌, refl, ap, Vec, String}
use Rattle.std.specs.String.{string_bytes}
use Rattle.std.specs.declared.alloc.Global.{Global}
use Rattle.tdl_reader.specs.declared.Body.{Body}
use Rattle.tdl_reader.specs.declared.Attr.{Attr}
use Rattle.tdl_reader.specs.declared.Rest.TheViews.{out-roll-Body, roll-Body}
use Rattle.tdl_reader.specs.declared.Rest.{Rest, Closed, Open, Tail, Tail'}
use Rattle.tdl_reader.specs.declared.Term.{Term, Name, Text, Coref, Avm, Avm', List as ListTerm, List', Diff, Diff', Row_of-Term, end_of-Term, more_of-Term, Row_of-Attr, end_of-Attr, more_of-Attr, Row_of-Body, end_of-Body, more_of-Body, items-the_row-Term, items-the_row-Attr, items-the_row-Body, items_shown-the_row-Term-0, items_hidden-the_row-Term-0, items_hidden-the_row-Attr-1, items_hidden-the_row-Body-2}
use Rattle.tdl_reader.specs.Trees.{TermTree, of_name, of_text, of_coref, of_avm, of_list, of_diff, BodyTree, and_term, AttrTrees, more_attrs, ItemTrees, more_items, closed, open_end, tail_of, body_tree, body_of, attrs_of, items_of}
use Rattle.tdl_reader.specs.Views.{term_of, attrs_tree, terms_tree, items_tree, rest_of, body_in, attr_of}

terms_row : (n : _) (row : Row_of-Term n) → terms_tree row ≡ body_tree (map term_of (items-the_row-Term n row))
unfolding terms_tree
terms_row n end_of-Term = refl
terms_row n (more_of-Term t rest) = ap (and_term (term_of t)) (terms_row _ rest)

both_attrs : (p : List (List ℕ)) (b c : BodyTree) (x y : AttrTrees) → b ≡ c → x ≡ y → more_attrs p b x ≡ more_attrs p c y
both_attrs p b c x y e f = cc

both_items : (b c : BodyTree) (x y : ItemTrees) → b ≡ c → x ≡ y → more_items b x ≡ more_items c y
both_items b c x y e f = cc

attrs_row : (n : _) (row : Row_of-Attr n) → attrs_tree row ≡ attrs_of (map attr_of (items-the_row-Attr n row))
unfolding attrs_tree
attrs_row n end_of-Attr = refl
attrs_row n (more_of-Attr path shape all rest) = both_attrs _ _ _ _ _ (terms_row _ all ∙ ap (λ l. body_tree (map term_of l)) (sym (items_shown-the_row-Term-0 shape all))) (attrs_row _ rest)

items_row : (n : _) (row : Row_of-Body n) → items_tree row ≡ items_of (map body_in (items-the_row-Body n row))
unfolding items_tree
items_row n end_of-Body = refl
items_row n (more_of-Body shape all rest) = both_items _ _ _ _ (terms_row _ all ∙ ap (λ l. body_tree (map term_of l)) (sym (items_shown-the_row-Term-0 shape all))) (items_row _ rest)

abbrev attr_row_of : Term → (n : _) × Row_of-Attr n
attr_row_of (Avm' _ row at) = (_, row)
attr_row_of _ = (_, end_of-Attr)

abbrev item_row_of : Term → (n : _) × Row_of-Body n
item_row_of (List' _ row rest at) = (_, row)
item_row_of (Diff' _ row at) = (_, row)
item_row_of _ = (_, end_of-Body)

abbrev tail_row_of : Rest → (n : _) × Row_of-Term n
tail_row_of (Tail' _ row) = (_, row)
tail_row_of _ = (_, end_of-Term)

pub view_of_name : (name : String Global) (at : ℕ) → term_of (Name name at) ≡ of_name (string_bytes name) at
unfolding term_of
view_of_name name at = refl

pub view_of_text : (text : String Global) (at : ℕ) → term_of (Text text at) ≡ of_text (string_bytes text) at
unfolding term_of
view_of_text text at = refl

pub view_of_coref : (name : String Global) (at : ℕ) → term_of (Coref name at) ≡ of_coref (string_bytes name) at
unfolding term_of
view_of_coref name at = refl

pub view_of_avm : (attrs : Vec Attr Global) (at : ℕ) → term_of (Avm attrs at) ≡ of_avm (attrs_of (map attr_of attrs.items)) at
unfolding term_of
view_of_avm attrs at =
    let row = attr_row_of (Avm attrs at) in
    ap (λ t. of_avm t at) (attrs_row row.0 row.1 ∙ ap (λ l. attrs_of (map attr_of l)) (items_hidden-the_row-Attr-1 attrs))

pub view_of_list : (items : Vec Body Global) (rest : Rest) (at : ℕ) → term_of (ListTerm items rest at) ≡ of_list (items_of (map body_in items.items)) (rest_of rest) at
unfolding term_of
view_of_list items rest at =
    let row = item_row_of (ListTerm items rest at) in
    ap (λ t. of_list t (rest_of rest) at) (items_row row.0 row.1 ∙ ap (λ l. items_of (map body_in l)) (items_hidden-the_row-Body-2 items))

pub view_of_diff : (items : Vec Body Global) (at : ℕ) → term_of (Diff items at) ≡ of_diff (items_of (map body_in items.items)) at
unfolding term_of
view_of_diff items at =
    let row = item_row_of (Diff items at) in
    ap (λ t. of_diff t at) (items_row row.0 row.1 ∙ ap (λ l. items_of (map body_in l)) (items_hidden-the_row-Body-2 items))

pub view_of_closed : rest_of Closed ≡ closed
unfolding rest_of
view_of_closed = refl

pub view_of_open : rest_of Open ≡ open_end
unfolding rest_of
view_of_open = refl

pub view_of_tail : (body : Body) → rest_of (Tail body) ≡ tail_of (body_in body)
unfolding rest_of
view_of_tail body =
    let row = tail_row_of (Tail body) in
    ap tail_of (terms_row row.0 row.1 ∙ ap (λ l. body_tree (map term_of l)) (items_hidden-the_row-Term-0 body.terms))

body_tree-last : (xs : List TermTree) (x : TermTree) → body_tree (xs ++ x ∷ []) ≡ body_of xs x
body_tree-last [] x = refl
body_tree-last (y ∷ ys) x = ap (and_term y) (body_tree-last ys x)

pub map_snoc : {A B : Type 0} (f : A → B) (xs : List A) (x : A) → map f (xs ++ x ∷ []) ≡ map f xs ++ f x ∷ []
map_snoc f [] x = refl
map_snoc f (y ∷ ys) x = ap (λ l. f y ∷ l) (map_snoc f ys x)

-- a body of terms and a last one
pub view_of_body : (terms items : List Term) (last : Term) → items ≡ terms ++ last ∷ [] → body_tree (map term_of items) ≡ body_of (map term_of terms) (term_of last)
view_of_body terms items last e = ap (λ l. body_tree (map term_of l)) e ∙ (ap body_tree (map_snoc term_of terms last) ∙ body_tree-last (map term_of terms) (term_of last))

pub body_roll : (terms : Vec Term Global) → body_in (roll-Body (record { terms = terms })) ≡ body_tree (map term_of terms.items)
body_roll terms = ap (λ r. body_tree (map term_of r.terms.items)) (out-roll-Body (record { terms = terms }))
