-- What the parts of bodies tell, step by step.
use Rattle.std.proofs.Common.{ℕ, ◌≡◌, List, [], ◌∷◌, ◌++◌, length, take, map, Result, refl, sym, ◌∙◌, ap, subst, OnOk}
use Rattle.std.proofs.lemmas.List.{append_assoc, append-nil}
use Rattle.type_hierarchy.specs.Decls.{Name, number_of}
use Rattle.fs_model.specs.Claims.{Path, exists_at, same, below}
use Rattle.tdl_reader.specs.Trees.{BodyTree, no_attrs, more_attrs, ItemTrees, no_items, more_items, RestTree}
use Rattle.body_facts.specs.Claimed.{WordTable}
use Rattle.body_facts.specs.Numbers.{type_number}
use Rattle.body_facts.specs.Running.{Running, moved, claimed, told_all, body_told, attrs_told, items_told, end_told, list_told, difference_told}
use Rattle.body_facts.specs.Sayings.{Saying, has_type, is_there, are_equal, body_says, items_say, end_says}
use Rattle.body_facts.specs.Writing.{past_items}
use Rattle.body_facts.proofs.RunningLemmas.{told_append, told_path, back_from, take_front, past_after, past_front}

pub on_to : {T E A : Type 0} (r : Result T E) (new x y : A) → x ≡ y → OnOk r (new ≡ x) → OnOk r (new ≡ y)
on_to r new x y e = subst (λ z. OnOk r (new ≡ z)) e

-- an attribute: along its path, the value there, and back
pub attr_done : (w : WordTable) (s s1 s2 s3 s4 : Running) (path : List Name) (body : BodyTree) (depth : ℕ) → depth ≡ length s.path →
    s1 ≡ moved (s.path ++ map (number_of w.feats) path) s → s2 ≡ claimed (exists_at s1.path) s1 → s3 ≡ body_told w s2 body → s4 ≡ moved (take depth s3.path) s3 →
    s4 ≡ attrs_told w s (more_attrs path body no_attrs)
attr_done w s s1 s2 s3 s4 path body depth e e1 e2 e3 e4 =
    let f = number_of w.feats in
    let q = s.path ++ map f path in
    let xs = is_there q ∷ body_says f w.names q body in
    let far = told_all w.types (moved q s) xs in
    e4 ∙ ap (λ r. moved (take depth r.path) r) (e3 ∙ ap (λ r. body_told w r body) (e2 ∙ ap (λ r. claimed (exists_at r.path) r) e1))
    ∙ ap (λ p. moved p far) (ap (take depth) (told_path w.types (moved q s) xs) ∙ ap (λ d. take d q) e ∙ take_front s.path (map f path))
    ∙ back_from w.types s.path q s xs refl ∙ ap (told_all w.types s) (sym (append-nil xs))

-- what a list says of an item: that there is a cons, and what stands at its first
abbrev pub cell_says : WordTable → Path → BodyTree → List (Saying ℕ)
cell_says w p body =
    let q = p ++ number_of w.feats w.names.first ∷ [] in
    has_type p w.names.cons ∷ is_there q ∷ body_says (number_of w.feats) w.names q body

-- an item: a cons, its first with what stands there, and back
pub item_done : (w : WordTable) (s s1 s2 s3 s4 s5 : Running) (body : BodyTree) (depth cons first : ℕ) → depth ≡ length s.path → cons ≡ type_number w.types w.names.cons →
    first ≡ number_of w.feats w.names.first → s1 ≡ claimed (below s.path cons) s → s2 ≡ moved (s1.path ++ first ∷ []) s1 → s3 ≡ claimed (exists_at s2.path) s2 →
    s4 ≡ body_told w s3 body → s5 ≡ moved (take depth s4.path) s4 → s5 ≡ told_all w.types s (cell_says w s.path body)
item_done w s s1 s2 s3 s4 s5 body depth cons first e ec ef e1 e2 e3 e4 e5 =
    let k = number_of w.feats w.names.first in
    let q = s.path ++ k ∷ [] in
    let xs = is_there q ∷ body_says (number_of w.feats) w.names q body in
    let had = claimed (below s.path (type_number w.types w.names.cons)) s in
    let far = told_all w.types (moved q had) xs in
    e5
    ∙ ap (λ r. moved (take depth r.path) r)
    (e4
    ∙ ap (λ r. body_told w r body)
    (e3
    ∙ ap (λ r. claimed (exists_at r.path) r)
    (e2 ∙ ap (λ r. moved (r.path ++ first ∷ []) r) (e1 ∙ ap (λ t. claimed (below s.path t) s) ec) ∙ ap (λ n. moved (s.path ++ n ∷ []) had) ef)))
    ∙ ap (λ p. moved p far) (ap (take depth) (told_path w.types (moved q had) xs) ∙ ap (λ d. take d q) e ∙ take_front s.path (k ∷ []))
    ∙ back_from w.types s.path q had xs refl

-- and on to the rest, which exists
pub item_past : (w : WordTable) (s s5 s6 : Running) (body : BodyTree) (rest : ℕ) → rest ≡ number_of w.feats w.names.rest →
    s5 ≡ told_all w.types s (cell_says w s.path body) → s6 ≡ moved (s5.path ++ rest ∷ []) s5 → claimed (exists_at s6.path) s6 ≡ items_told w s (more_items body no_items)
item_past w s s5 s6 body rest er e5 e6 =
    let xs = cell_says w s.path body in
    let k = number_of w.feats w.names.rest in
    let q = s.path ++ k ∷ [] in
    ap (λ r. claimed (exists_at r.path) r)
    (e6 ∙ ap (λ n. moved (s5.path ++ n ∷ []) s5) er ∙ ap (λ r. moved (r.path ++ k ∷ []) r) e5
    ∙ ap (λ p. moved (p ++ k ∷ []) (told_all w.types s xs)) (told_path w.types s xs))
    ∙ ap (λ r. moved q r) (sym (told_append w.types s xs (is_there q ∷ [])))

-- a list: its items, its end, and back
pub list_done : (w : WordTable) (s s1 s2 s3 : Running) (items : ItemTrees) (rest : RestTree) (depth : ℕ) → depth ≡ length s.path →
    s1 ≡ items_told w s items → s2 ≡ end_told w s1 rest → s3 ≡ moved (take depth s2.path) s2 → s3 ≡ list_told w s items rest
list_done w s s1 s2 s3 items rest depth e e1 e2 e3 =
    let f = number_of w.feats in
    let q = past_items (f w.names.rest) s.path items in
    let within = items_say f w.names s.path items in
    let ending = end_says f w.names q rest in
    let had = told_all w.types s within in
    let far = told_all w.types (moved q had) ending in
    e3 ∙ ap (λ r. moved (take depth r.path) r) (e2 ∙ ap (λ r. end_told w r rest) e1)
    ∙ ap (λ p. moved p far) (ap (take depth) (told_path w.types (moved q had) ending) ∙ ap (λ d. take d q) e ∙ past_front (f w.names.rest) s.path items)
    ∙ back_from w.types s.path q had ending (sym (told_path w.types s within)) ∙ sym (told_append w.types s within ending)

-- the items of a difference list, and back
pub items_back : (w : WordTable) (s s1 s2 s3 : Running) (items : ItemTrees) (depth list : ℕ) → depth ≡ length s.path → list ≡ number_of w.feats w.names.diff_list →
    s1 ≡ moved (s.path ++ list ∷ []) s → s2 ≡ items_told w s1 items → s3 ≡ moved (take depth s2.path) s2 →
    s3 ≡ told_all w.types s (items_say (number_of w.feats) w.names (s.path ++ number_of w.feats w.names.diff_list ∷ []) items)
items_back w s s1 s2 s3 items depth list e el e1 e2 e3 =
    let f = number_of w.feats in
    let k = f w.names.diff_list in
    let l = s.path ++ k ∷ [] in
    let q = past_items (f w.names.rest) l items in
    let within = items_say f w.names l items in
    let front : take (length s.path) q ≡ s.path =
    ap (take (length s.path)) (past_after (f w.names.rest) l items ∙ append_assoc s.path (k ∷ []) (past_items (f w.names.rest) [] items)) ∙ take_front s.path ((k ∷ []) ++ past_items (f w.names.rest) [] items) in
    e3 ∙ ap (λ r. moved (take depth r.path) r) (e2 ∙ ap (λ r. items_told w r items) (e1 ∙ ap (λ n. moved (s.path ++ n ∷ []) s) el))
    ∙ ap (λ p. moved p (told_all w.types (moved l s) within)) (ap (λ d. take d q) e ∙ front)
    ∙ back_from w.types s.path l s within refl

-- where the items of a difference list end
pub items_end : (w : WordTable) (s s1 s2 : Running) (items : ItemTrees) (list : ℕ) → list ≡ number_of w.feats w.names.diff_list → s1 ≡ moved (s.path ++ list ∷ []) s →
    s2 ≡ items_told w s1 items → s2.path ≡ past_items (number_of w.feats w.names.rest) (s.path ++ number_of w.feats w.names.diff_list ∷ []) items
items_end w s s1 s2 items list el e1 e2 = ap (λ r. r.path) (e2 ∙ ap (λ r. items_told w r items) (e1 ∙ ap (λ n. moved (s.path ++ n ∷ []) s) el))

-- that its tail is the last element, and back
pub difference_done : (w : WordTable) (s s3 s4 s5 s6 : Running) (items : ItemTrees) (end : Path) (depth last : ℕ) → depth ≡ length s.path → last ≡ number_of w.feats w.names.diff_last →
    s3 ≡ told_all w.types s (items_say (number_of w.feats) w.names (s.path ++ number_of w.feats w.names.diff_list ∷ []) items) →
    end ≡ past_items (number_of w.feats w.names.rest) (s.path ++ number_of w.feats w.names.diff_list ∷ []) items →
    s4 ≡ moved (s3.path ++ last ∷ []) s3 → s5 ≡ claimed (same end s4.path) s4 → s6 ≡ moved (take depth s5.path) s5 → s6 ≡ difference_told w s items
difference_done w s s3 s4 s5 s6 items end depth last e el e3 ee e4 e5 e6 =
    let f = number_of w.feats in
    let l = s.path ++ f w.names.diff_list ∷ [] in
    let k = f w.names.diff_last in
    let q = past_items (f w.names.rest) l items in
    let within = items_say f w.names l items in
    let had = told_all w.types s within in
    let at = had.path ++ k ∷ [] in
    let there : had.path ≡ s.path = told_path w.types s within in
    e6 ∙ ap (λ r. moved (take depth r.path) r)
    (e5 ∙ ap (λ r. claimed (same end r.path) r) (e4 ∙ ap (λ r. moved (r.path ++ last ∷ []) r) e3 ∙ ap (λ n. moved (had.path ++ n ∷ []) had) el)
    ∙ ap (λ p. claimed (same p at) (moved at had)) ee)
    ∙ ap (λ p. moved p (claimed (same q at) (moved at had))) (ap (λ d. take d at) e ∙ ap (λ p. take (length s.path) (p ++ k ∷ [])) there ∙ take_front s.path (k ∷ []) ∙ sym there)
    ∙ ap (λ p. claimed (same q (p ++ k ∷ [])) had) there
    ∙ sym (told_append w.types s within (are_equal q (s.path ++ k ∷ []) ∷ []))
