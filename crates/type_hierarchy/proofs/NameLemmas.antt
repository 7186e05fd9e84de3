-- Names of types in the order of writing.
use Rattle.std.proofs.Common.{ℕ, ◌≡◌, ◌≤◌, ◌<◌, ◌+◌, ◌||◌, not, ◌⊎◌, inl, inr, Bool, true, false, cond, List, [], ◌∷◌, ◌++◌, length, map, take, slice_index_or, String, refl, sym, ◌∙◌, ap, subst, arith}
use Rattle.std.specs.Global.{Global}
use Rattle.std.specs.List.{list_any}
use Rattle.std.specs.Str.{bytes_eq}
use Rattle.std.specs.String.{string_bytes, string_eq}
use Rattle.std.proofs.lemmas.List.{take_more, map-append, append_assoc, get_or-map}
use Rattle.std.proofs.lemmas.List.Folds.{list_any-append}
use Rattle.std.proofs.lemmas.Bool.{cases_lt}
use Rattle.std.proofs.lemmas.Slice.Eq.{bytes_eq-Decides}
use Rattle.type_hierarchy.specs.declared.decl.Decl.{Decl}
use Rattle.type_hierarchy.specs.Decls.{Name, Declared, declared, decls_of, texts, bare, at_place, is_defined, unwritten}
use Rattle.type_hierarchy.specs.Faults.{IsDuplicate}
use Rattle.type_hierarchy.proofs.ListLemmas.{list_any-map, any_at, any_none}

pub bytes_eq-refl : (n : Name) → bytes_eq n n ≡ true
bytes_eq-refl n = (bytes_eq-Decides n n).1 refl

pub bytes_eq-same : (a b : Name) → bytes_eq a b ≡ true → a ≡ b
bytes_eq-same a b = (bytes_eq-Decides a b).0

pub is_defined_at : (ds : List Declared) (i : ℕ) → i < length ds → is_defined ds (at_place ds i).name ≡ true
is_defined_at ds i h = any_at (λ d. bytes_eq (at_place ds i).name d.name) ds i (bare []) h (bytes_eq-refl (at_place ds i).name)

pub unwritten_apart : (top text : Name) (ds : List Declared) (n : Name) → is_defined ds n ≡ true → is_defined (unwritten top text ds) n ≡ false
unwritten_apart top text ds n h =
    any_none (λ d. bytes_eq n d.name) (λ d. not (is_defined ds d.name))
    (λ d e. ap not (subst (λ m. is_defined ds m ≡ true) (bytes_eq-same n d.name e) h)) (bare top ∷ bare text ∷ [])

-- a name among those collected so far
pub among : (top text : Name) (ds : List Declared) (i : ℕ) (n : Name) (keys : List (String Global)) → is_defined ds n ≡ true →
    texts keys ≡ map (λ d. d.name) (unwritten top text ds) ++ map (λ d. d.name) (take i ds) →
    list_any (λ k. bytes_eq n (string_bytes k)) keys ≡ is_defined (take i ds) n
among top text ds i n keys h is =
    sym (list_any-map (bytes_eq n) string_bytes keys) ∙ ap (list_any (bytes_eq n)) is
    ∙ list_any-append (bytes_eq n) (map (λ d. d.name) (unwritten top text ds)) (map (λ d. d.name) (take i ds))
    ∙ ap (λ b. b || list_any (bytes_eq n) (map (λ d. d.name) (take i ds))) (list_any-map (bytes_eq n) (λ d. d.name) (unwritten top text ds) ∙ unwritten_apart top text ds n h)
    ∙ list_any-map (bytes_eq n) (λ d. d.name) (take i ds)

pub not_false : (b : Bool) → not b ≡ false → b ≡ true
not_false true e = refl
not_false false e = cc

pub not_true : (b : Bool) → not b ≡ true → b ≡ false
not_true true e = cc
not_true false e = refl

-- one more name
pub names_push : (top text : Name) (ds : List Declared) (i : ℕ) (keys new : List (String Global)) (k : String Global) → i < length ds →
    texts keys ≡ map (λ d. d.name) (unwritten top text ds) ++ map (λ d. d.name) (take i ds) → new ≡ keys ++ k ∷ [] →
    string_bytes k ≡ (at_place ds i).name →
    texts new ≡ map (λ d. d.name) (unwritten top text ds) ++ map (λ d. d.name) (take (i + 1) ds)
names_push top text ds i keys new k h is grown e =
    ap texts grown ∙ map-append string_bytes keys (k ∷ []) ∙ ap (λ l. l ++ string_bytes k ∷ []) is ∙ append_assoc us (map (λ d. d.name) (take i ds)) (string_bytes k ∷ [])
    ∙ ap (λ l. us ++ l) (ap (λ n. map (λ d. d.name) (take i ds) ++ n ∷ []) e ∙ sym (ap (map (λ d. d.name)) (take_more ds i (bare []) h) ∙ map-append (λ d. d.name) (take i ds) (at_place ds i ∷ [])))
  where
    us : List Name
    us = map (λ d. d.name) (unwritten top text ds)

pub place_is : (decls : List Decl) (i : ℕ) (d : Decl) → i < length decls → d ≡ slice_index_or decls i d → at_place (decls_of decls) i ≡ declared d
place_is decls i d h e = get_or-map declared decls i d (bare []) h ∙ ap declared (sym e)

-- a new name is put last
pub absent_push : (keys new : List (String Global)) (k : String Global) → list_any (string_eq k) keys ≡ false →
    new ≡ cond (list_any (string_eq k) keys) keys (keys ++ k ∷ []) → new ≡ keys ++ k ∷ []
absent_push keys new k no' is = is ∙ ap (λ b. cond b keys (keys ++ k ∷ [])) no'

pub once_more : (ds : List Declared) (i : ℕ) → ((k : ℕ) → k < i → IsDuplicate ds k → ⊥) → is_defined (take i ds) (at_place ds i).name ≡ false →
    (k : ℕ) → k < i + 1 → IsDuplicate ds k → ⊥
once_more ds i old now k h d = go (cases_lt k i)
  where
    differ : (b : Bool) → b ≡ true → b ≡ false → ⊥
    differ b e f = cc

    go : (k < i) ⊎ (i ≤ k) → ⊥
    go (inl a) = old k a d
    go (inr a) =
        let same : k ≡ i = omega arith in
        differ _ (subst (λ j. is_defined (take j ds) (at_place ds j).name ≡ true) same d.1) now
