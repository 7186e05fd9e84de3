-- The names of the types that are defined.
use Rattle.std.proofs.Common.{ℕ, ◌≡◌, ◌<◌, ◌+◌, ◌&&◌, ◌||◌, ◌⊎◌, inl, inr, Bool, true, false, cond, List, [], ◌∷◌, ◌++◌, length, map, take, get_or, String, refl, sym, ◌∙◌, ap}
use Rattle.std.specs.Global.{Global}
use Rattle.std.specs.List.{list_any}
use Rattle.std.specs.Str.{bytes_eq}
use Rattle.std.specs.String.{string_bytes, string_eq}
use Rattle.std.proofs.lemmas.List.Folds.{list_any-append}
use Rattle.type_hierarchy.specs.Decls.{Name}
use Rattle.grammar_files.specs.declared.placed.Placed.{Placed}
use Rattle.grammar_files.specs.Placings.{PlacedTree, placed_of}
use Rattle.constraint_expand.specs.Statements.{name_of, defines_type}
use Rattle.constraint_expand.specs.Unknowns.{is_defined}
use Rattle.constraint_expand.specs.Found.{has_text_key, defines_named}
use Rattle.type_facts.proofs.ListLemmas.{bools, map_next}
use Rattle.constraint_expand.proofs.NameLemmas.{bytes_eq-same}

or_false : (b : Bool) → (b || false) ≡ b
or_false true = refl
or_false false = refl

pub has_inserted : (keys new : List (String Global)) (k : String Global) (n : Name) → new ≡ cond (list_any (string_eq k) keys) keys (keys ++ k ∷ []) →
    has_text_key new n ≡ (has_text_key keys n || bytes_eq n (string_bytes k))
has_inserted keys new k n is = go (bools (list_any (string_eq k) keys)) (bools (bytes_eq n (string_bytes k)))
  where
    has : Bool → Bool
    has b = b || bytes_eq n (string_bytes k)

    go : (list_any (string_eq k) keys ≡ true) ⊎ (list_any (string_eq k) keys ≡ false) → (bytes_eq n (string_bytes k) ≡ true) ⊎ (bytes_eq n (string_bytes k) ≡ false) →
        has_text_key new n ≡ (has_text_key keys n || bytes_eq n (string_bytes k))
    go (inr e) f =
        ap (λ l. has_text_key l n) (is ∙ ap (λ b. cond b keys (keys ++ k ∷ [])) e) ∙ list_any-append (λ j. bytes_eq n (string_bytes j)) keys (k ∷ [])
        ∙ ap (λ b. has_text_key keys n || b) (or_false (bytes_eq n (string_bytes k)))
    go (inl e) (inr f) =
        ap (λ l. has_text_key l n) (is ∙ ap (λ b. cond b keys (keys ++ k ∷ [])) e) ∙ sym (ap (λ b. has_text_key keys n || b) f ∙ or_false (has_text_key keys n))
    go (inl e) (inl f) =
        let there : has_text_key keys n ≡ true = ap (has_text_key keys) (bytes_eq-same n (string_bytes k) f) ∙ e in
        ap (λ l. has_text_key l n) (is ∙ ap (λ b. cond b keys (keys ++ k ∷ [])) e) ∙ there ∙ sym (ap (λ b. b || bytes_eq n (string_bytes k)) there)

-- a name that is added, and one that isn't
pub name_added : (keys new : List (String Global)) (k : String Global) (n : Name) (p : PlacedTree) → new ≡ cond (list_any (string_eq k) keys) keys (keys ++ k ∷ []) →
    string_bytes k ≡ name_of p → defines_type p ≡ true → has_text_key new n ≡ (has_text_key keys n || defines_named n p)
name_added keys new k n p is named d =
    has_inserted keys new k n is
    ∙ ap (λ b. has_text_key keys n || b) (ap (bytes_eq n) named ∙ sym (ap (λ b. b && bytes_eq n (name_of p)) d))

pub name_passed : (keys : List (String Global)) (n : Name) (p : PlacedTree) → defines_type p ≡ false → has_text_key keys n ≡ (has_text_key keys n || defines_named n p)
name_passed keys n p d =
    sym (ap (λ b. has_text_key keys n || (b && bytes_eq n (name_of p))) d ∙ or_false (has_text_key keys n))

-- one statement more
pub defined_next : (n : Name) (xs : List Placed) (i : ℕ) (x : Placed) (had has : Bool) → i < length xs → x ≡ get_or xs i x →
    has ≡ (had || defines_named n (placed_of x)) → had ≡ is_defined (map placed_of (take i xs)) n → has ≡ is_defined (map placed_of (take (i + 1) xs)) n
defined_next n xs i x had has h e grown before =
    grown ∙ ap (λ b. b || defines_named n (placed_of x)) before
    ∙ sym (ap (λ l. is_defined l n) (map_next placed_of xs i x h e)
    ∙ list_any-append (defines_named n) (map placed_of (take i xs)) (placed_of x ∷ [])
    ∙ ap (λ b. is_defined (map placed_of (take i xs)) n || b) (or_false (defines_named n (placed_of x))))
