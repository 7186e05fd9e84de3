-- The features of brackets, part by part.
use Rattle.std.proofs.Common.{ℕ, ◌≡◌, ◌<◌, ◌+◌, ◌&&◌, ◌==◌, ◌⊎◌, inl, inr, Bool, true, false, List, [], ◌∷◌, ◌++◌, length, take, get_or, map, String, refl, sym, ◌∙◌, ap, arith}
use Rattle.std.specs.Global.{Global}
use Rattle.std.specs.String.{string_bytes}
use Rattle.std.proofs.lemmas.List.{append-nil, append_assoc, take_more, map-append}
use Rattle.std.proofs.lemmas.Bool.Decides.{Decides-eqb}
use Rattle.tdl_reader.specs.declared.Attr.{Attr}
use Rattle.tdl_reader.specs.declared.Body.{Body}
use Rattle.tdl_reader.specs.declared.Rest.{Rest, Closed, Open}
use Rattle.tdl_reader.specs.declared.Term.{Term, Name as NameTerm, Text as TextTerm, Coref as CorefTerm}
use Rattle.tdl_reader.specs.Trees.{items_of}
use Rattle.tdl_reader.specs.Views.{term_of, body_in, rest_of, attr_of}
use Rattle.tdl_reader.proofs.Rows.{view_of_name, view_of_text, view_of_coref, view_of_closed, view_of_open}
use Rattle.type_hierarchy.specs.Decls.{Name}
use Rattle.body_facts.specs.Writing.{ListNames}
use Rattle.body_facts.specs.BracketUses.{Used, used, path_uses, is_empty_path, is_empty_list, cell_uses, term_uses, body_uses, end_uses}

pub no_end : (n : ListNames) (own : Bool) (r : Rest) → (r ≡ Closed) ⊎ (r ≡ Open) → end_uses n own (rest_of r) ≡ []
no_end n own r (inl e) = ap (λ x. end_uses n own (rest_of x)) e ∙ ap (end_uses n own) view_of_closed
no_end n own r (inr e) = ap (λ x. end_uses n own (rest_of x)) e ∙ ap (end_uses n own) view_of_open

pub no_bracket : (n : ListNames) (own : Bool) (t : Term) →
    ((x : String Global) × (at : ℕ) × (t ≡ NameTerm x at)) ⊎ (((x : String Global) × (at : ℕ) × (t ≡ TextTerm x at)) ⊎ ((x : String Global) × (at : ℕ) × (t ≡ CorefTerm x at))) →
    term_uses n own (term_of t) ≡ []
no_bracket n own t (inl h) = ap (λ x. term_uses n own (term_of x)) h.2 ∙ ap (term_uses n own) (view_of_name h.0 h.1)
no_bracket n own t (inr (inl h)) = ap (λ x. term_uses n own (term_of x)) h.2 ∙ ap (term_uses n own) (view_of_text h.0 h.1)
no_bracket n own t (inr (inr h)) = ap (λ x. term_uses n own (term_of x)) h.2 ∙ ap (term_uses n own) (view_of_coref h.0 h.1)

-- nothing is added
pub added_none : {A : Type 0} (old xs : List A) → xs ≡ [] → old ≡ old ++ xs
added_none old xs e = sym (ap (λ l. old ++ l) e ∙ append-nil old)

pub added_two : {A : Type 0} (new mid old xs ys : List A) → mid ≡ old ++ xs → new ≡ mid ++ ys → new ≡ old ++ (xs ++ ys)
added_two new mid old xs ys e f = f ∙ ap (λ l. l ++ ys) e ∙ append_assoc old xs ys

path_snoc : (at : ℕ) (own : Bool) (xs : List Name) (x : Name) → path_uses at own (xs ++ x ∷ []) ≡ path_uses at own xs ++ used at (own && is_empty_path xs) x ∷ []
path_snoc at true [] x = refl
path_snoc at false [] x = refl
path_snoc at true (y ∷ ys) x = ap (λ l. used at true y ∷ l) (map-append (used at false) ys (x ∷ []))
path_snoc at false (y ∷ ys) x = ap (λ l. used at false y ∷ l) (map-append (used at false) ys (x ∷ []))

path_filled : (own : Bool) (xs : List Name) (x : Name) → (own && is_empty_path (xs ++ x ∷ [])) ≡ false
path_filled true [] x = refl
path_filled false [] x = refl
path_filled true (y ∷ ys) x = refl
path_filled false (y ∷ ys) x = refl

texts_next : (xs : List (String Global)) (i : ℕ) (x : String Global) → i < length xs → x ≡ get_or xs i x →
    map string_bytes (take (i + 1) xs) ≡ map string_bytes (take i xs) ++ string_bytes x ∷ []
texts_next xs i x h e =
    ap (map string_bytes) (take_more xs i x h ∙ ap (λ y. take i xs ++ y ∷ []) (sym e)) ∙ map-append string_bytes (take i xs) (x ∷ [])

-- one more feature of a path
pub path_step : (at : ℕ) (own here : Bool) (now new old : List Used) (xs : List (String Global)) (i : ℕ) (x : String Global) → i < length xs → x ≡ get_or xs i x →
    here ≡ (own && is_empty_path (map string_bytes (take i xs))) → new ≡ now ++ used at here (string_bytes x) ∷ [] →
    now ≡ old ++ path_uses at own (map string_bytes (take i xs)) → new ≡ old ++ path_uses at own (map string_bytes (take (i + 1) xs))
path_step at own here now new old xs i x lt is stands grown had =
    grown ∙ ap (λ b. now ++ used at b (string_bytes x) ∷ []) stands ∙ ap (λ l. l ++ used at (own && is_empty_path (map string_bytes (take i xs))) (string_bytes x) ∷ []) had
    ∙ append_assoc old _ _ ∙ ap (λ l. old ++ l) (sym (ap (path_uses at own) (texts_next xs i x lt is) ∙ path_snoc at own (map string_bytes (take i xs)) (string_bytes x)))

pub path_past : (own : Bool) (xs : List (String Global)) (i : ℕ) (x : String Global) → i < length xs → x ≡ get_or xs i x → false ≡ (own && is_empty_path (map string_bytes (take (i + 1) xs)))
path_past own xs i x lt is = sym (ap (λ l. own && is_empty_path l) (texts_next xs i x lt is) ∙ path_filled own (map string_bytes (take i xs)) (string_bytes x))

pub cell_full : (n : ListNames) (at : ℕ) (own : Bool) (xs : List Body) → 0 < length xs → cell_uses n at own (items_of (map body_in xs)) ≡ used at own n.first ∷ used at own n.rest ∷ []
cell_full n at own [] h = absurd (omega arith)
cell_full n at own (x ∷ xs) h = refl

pub cell_none : (n : ListNames) (at : ℕ) (own : Bool) (xs : List Body) → length xs ≡ 0 → cell_uses n at own (items_of (map body_in xs)) ≡ []
cell_none n at own [] h = refl
cell_none n at own (x ∷ xs) h = absurd (omega arith)

unequal : (n : ℕ) → 0 < n → (n == 0) ≡ false
unequal n h = go (n == 0) (Decides-eqb n 0).0
  where
    go : (b : Bool) → (b ≡ true → n ≡ 0) → b ≡ false
    go true f = let z : n ≡ 0 = f refl in absurd (omega (arith, z, h))
    go false f = refl

pub list_empty : (xs : List Body) → (length xs == 0) ≡ is_empty_list (items_of (map body_in xs))
list_empty [] = refl
list_empty (x ∷ xs) = unequal (length (x ∷ xs)) (omega arith)

-- what one attribute has
abbrev pub attr_uses : ListNames → Bool → ℕ → Attr → List Used
attr_uses n own at a = path_uses at own (attr_of a).path ++ body_uses n (own && is_empty_path (attr_of a).path) (attr_of a).body

pub filled : (xs : List Body) (n : ℕ) → n ≡ length xs → (n == 0) ≡ false → 0 < length xs
filled [] n e h = let z : true ≡ false = sym (ap (λ m. m == 0) e) ∙ h in absurd (let w : true ≡ false = z in cc)
filled (x ∷ xs) n e h = omega arith
