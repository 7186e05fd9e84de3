-- Sayings told one after the other, and the path that is spoken of.
use Rattle.std.proofs.Common.{ℕ, ◌≡◌, ◌<◌, ◌+◌, List, [], ◌∷◌, ◌++◌, length, take, get_or, map, Vec, vec_len, refl, sym, ◌∙◌, ap}
use Rattle.std.proofs.lemmas.List.{append_assoc, append-nil, take_more, length-map}
use Rattle.type_hierarchy.specs.Decls.{Name, number_of}
use Rattle.type_hierarchy.specs.Table.{TypeTable}
use Rattle.fs_model.specs.Claims.{Path}
use Rattle.std.specs.Global.{Global}
use Rattle.std.specs.List.{flat_map}
use Rattle.fs_graph.specs.declared.facts.Feat.{Feat}
use Rattle.fs_graph.specs.Facts.{path_of}
use Rattle.tdl_reader.specs.declared.Attr.{Attr}
use Rattle.tdl_reader.specs.declared.Body.{Body}
use Rattle.tdl_reader.specs.Trees.{BodyTree, no_attrs, more_attrs, ItemTrees, no_items, more_items, items_of}
use Rattle.tdl_reader.specs.Views.{body_in, attr_of}
use Rattle.body_facts.specs.Sayings.{Saying, has_type, has_text, carries, is_there, are_equal, body_says, items_say}
use Rattle.body_facts.specs.Writing.{ListNames, past_items}
use Rattle.body_facts.specs.Claimed.{WordTable}
use Rattle.body_facts.proofs.Appended.{flat_map_next}
use Rattle.body_facts.specs.Running.{Running, moved, told_once, told_all, attrs_told, items_told}

pub told_append : (types : TypeTable) (s : Running) (xs ys : List (Saying ℕ)) → told_all types s (xs ++ ys) ≡ told_all types (told_all types s xs) ys
told_append types s [] ys = refl
told_append types s (x ∷ xs) ys = told_append types (told_once types s x) xs ys

once_moved : (types : TypeTable) (p : Path) (s : Running) (x : Saying ℕ) → told_once types (moved p s) x ≡ moved p (told_once types s x)
once_moved types p s (has_type q name) = refl
once_moved types p s (has_text q text) = refl
once_moved types p s (carries q name) = refl
once_moved types p s (is_there q) = refl
once_moved types p s (are_equal q r) = refl

-- what is told doesn't depend on the path that is spoken of, and doesn't move it
pub told_moved : (types : TypeTable) (p : Path) (s : Running) (xs : List (Saying ℕ)) → told_all types (moved p s) xs ≡ moved p (told_all types s xs)
told_moved types p s [] = refl
told_moved types p s (x ∷ xs) = ap (λ t. told_all types t xs) (once_moved types p s x) ∙ told_moved types p (told_once types s x) xs

once_path : (types : TypeTable) (s : Running) (x : Saying ℕ) → (told_once types s x).path ≡ s.path
once_path types s (has_type q name) = refl
once_path types s (has_text q text) = refl
once_path types s (carries q name) = refl
once_path types s (is_there q) = refl
once_path types s (are_equal q r) = refl

pub told_path : (types : TypeTable) (s : Running) (xs : List (Saying ℕ)) → (told_all types s xs).path ≡ s.path
told_path types s [] = refl
told_path types s (x ∷ xs) = told_path types (told_once types s x) xs ∙ once_path types s x

-- back at the path from which it went
pub back : (types : TypeTable) (p : Path) (s : Running) (xs : List (Saying ℕ)) → p ≡ s.path → moved p (told_all types s xs) ≡ told_all types s xs
back types p s xs e = ap (λ q. moved q (told_all types s xs)) (e ∙ sym (told_path types s xs))

pub back_from : (types : TypeTable) (p q : Path) (s : Running) (xs : List (Saying ℕ)) → p ≡ s.path → moved p (told_all types (moved q s) xs) ≡ told_all types s xs
back_from types p q s xs e = ap (moved p) (told_moved types q s xs) ∙ back types p s xs e

pub take_front : {X : Type 0} (xs ys : List X) → take (length xs) (xs ++ ys) ≡ xs
take_front [] ys = go ys
  where
    go : {X : Type 0} (zs : List X) → take 0 zs ≡ []
    go [] = refl
    go (z ∷ zs) = refl
take_front (x ∷ xs) ys = ap (λ l. x ∷ l) (take_front xs ys)

-- the items of a list, and one more
pub one_more : ItemTrees → BodyTree → ItemTrees
one_more no_items b = more_items b no_items
one_more (more_items a m) b = more_items a (one_more m b)

items_snoc : (xs : List Body) (x : Body) → items_of (map body_in (xs ++ x ∷ [])) ≡ one_more (items_of (map body_in xs)) (body_in x)
unfolding one_more
items_snoc [] x = refl
items_snoc (y ∷ ys) x = ap (more_items (body_in y)) (items_snoc ys x)

pub items_next : (xs : List Body) (i : ℕ) (x : Body) → i < length xs → x ≡ get_or xs i x →
    items_of (map body_in (take (i + 1) xs)) ≡ one_more (items_of (map body_in (take i xs))) (body_in x)
items_next xs i x h e =
    ap (λ l. items_of (map body_in l)) (take_more xs i x h ∙ ap (λ y. take i xs ++ y ∷ []) (sym e)) ∙ items_snoc (take i xs) x

past_more : (r : ℕ) (p : Path) (m : ItemTrees) (b : BodyTree) → past_items r p (one_more m b) ≡ past_items r p m ++ r ∷ []
unfolding one_more
past_more r p no_items b = refl
past_more r p (more_items a m) b = past_more r (p ++ r ∷ []) m b

say_more : (f : Name → ℕ) (n : ListNames) (p : Path) (m : ItemTrees) (b : BodyTree) →
    items_say f n p (one_more m b) ≡ items_say f n p m ++ items_say f n (past_items (f n.rest) p m) (more_items b no_items)
unfolding one_more
say_more f n p no_items b = refl
say_more f n p (more_items a m) b =
    let q = p ++ f n.first ∷ [] in
    let r = p ++ f n.rest ∷ [] in
    let cell = has_type p n.cons ∷ is_there q ∷ body_says f n q a in
    ap (λ l. cell ++ is_there r ∷ l) (say_more f n r m b)
    ∙ sym (append_assoc cell (is_there r ∷ items_say f n r m) (items_say f n (past_items (f n.rest) r m) (more_items b no_items)))

-- one more item of a list
pub items_step : (w : WordTable) (s : Running) (m : ItemTrees) (b : BodyTree) →
    items_told w (items_told w s m) (more_items b no_items) ≡ items_told w s (one_more m b)
items_step w s m b =
    let f = number_of w.feats in
    let q = past_items (f w.names.rest) s.path m in
    let had = items_say f w.names s.path m in
    let new = items_say f w.names q (more_items b no_items) in
    ap (moved (q ++ f w.names.rest ∷ [])) (told_moved w.types q (told_all w.types s had) new)
    ∙ ap (moved (q ++ f w.names.rest ∷ [])) (sym (told_append w.types s had new) ∙ sym (ap (told_all w.types s) (say_more f w.names s.path m b)))
    ∙ ap (λ p. moved p (told_all w.types s (items_say f w.names s.path (one_more m b)))) (sym (past_more (f w.names.rest) s.path m b))

pub past_after : (r : ℕ) (p : Path) (m : ItemTrees) → past_items r p m ≡ p ++ past_items r [] m
past_after r p no_items = sym (append-nil p)
past_after r p (more_items b m) =
    past_after r (p ++ r ∷ []) m ∙ append_assoc p (r ∷ []) (past_items r [] m) ∙ sym (ap (λ l. p ++ l) (past_after r (r ∷ []) m))

-- what follows items goes on from the list
pub past_front : (r : ℕ) (p : Path) (m : ItemTrees) → take (length p) (past_items r p m) ≡ p
past_front r p m = ap (take (length p)) (past_after r p m) ∙ take_front p (past_items r [] m)

-- what one attribute says
abbrev pub attr_says : (Name → ℕ) → ListNames → Path → Attr → List (Saying ℕ)
attr_says f n p a = is_there (p ++ map f (attr_of a).path) ∷ body_says f n (p ++ map f (attr_of a).path) (attr_of a).body

-- one more of several, none of which moves the path
pub each_told : {X : Type 0} (types : TypeTable) (S : X → List (Saying ℕ)) (now new old : Running) (xs : List X) (i : ℕ) (x : X) → i < length xs → x ≡ get_or xs i x →
    new ≡ told_all types now (S x) → now ≡ told_all types old (flat_map S (take i xs)) → new ≡ told_all types old (flat_map S (take (i + 1) xs))
each_told types S now new old xs i x h e grown had =
    grown ∙ ap (λ m. told_all types m (S x)) had ∙ sym (told_append types old (flat_map S (take i xs)) (S x)) ∙ ap (told_all types old) (sym (flat_map_next S xs i x h e))

-- still at the path
pub still : (types : TypeTable) (s r : Running) (xs : List (Saying ℕ)) → r ≡ told_all types s xs → r.path ≡ s.path
still types s r xs e = ap (λ t. t.path) e ∙ told_path types s xs

pub attr_step : (w : WordTable) (r new : Running) (p : Path) (a : Attr) → r.path ≡ p → new ≡ attrs_told w r (more_attrs (attr_of a).path (attr_of a).body no_attrs) →
    new ≡ told_all w.types r (attr_says (number_of w.feats) w.names p a)
attr_step w r new p a h e =
    e ∙ ap (told_all w.types r) (append-nil (attr_says (number_of w.feats) w.names r.path a)) ∙ ap (λ q. told_all w.types r (attr_says (number_of w.feats) w.names q a)) h

pub depth_is : (v : Vec Feat Global) (n : ℕ) → n ≡ vec_len v → n ≡ length (path_of v.items)
depth_is v n e = e ∙ v.ok.0 ∙ sym (length-map v.items (λ f. f.0))
