-- Which rules are skipped, by a set of names.
use Rattle.std.proofs.Common.{ℕ, suc, ◌≡◌, ◌<◌, ◌≤◌, ◌+◌, ◌||◌, ◌⊎◌, inl, inr, Bool, true, false, cond, List, [], ◌∷◌, ◌++◌, length, map, drop, get_or, String, string_bytes, refl, sym, ◌∙◌, ap, append_assoc, add-one, drop-cons}
use Rattle.std.specs.Global.{Global}
use Rattle.std.specs.List.{list_any}
use Rattle.std.specs.Str.{bytes_eq}
use Rattle.std.specs.String.{string_eq}
use Rattle.std.proofs.lemmas.List.{drop_all}
use Rattle.std.proofs.lemmas.List.Folds.{list_any-append}
use Rattle.std.proofs.lemmas.Slice.Eq.{bytes_eq-Decides}
use Rattle.grammar_settings.specs.Forms.{Name, is_among}
use Rattle.transfer_model.specs.declared.Rule.{Rule as DeclaredRule}
use Rattle.transfer_model.specs.Rules.{Rule}
use Rattle.transfer_model.specs.Views.{rule_of}
use Rattle.transfer_commands.specs.Rewriters.{skipped_by}
use Rattle.transfer_commands.specs.Inner.{has_name, skipped_in}

bools : (b : Bool) → (b ≡ true) ⊎ (b ≡ false)
bools true = inl refl
bools false = inr refl

or-false : (b : Bool) → (b || false) ≡ b
or-false true = refl
or-false false = refl

or-true : (b : Bool) → (b || true) ≡ true
or-true true = refl
or-true false = refl

or-moves : (a b c : Bool) → ((a || b) || c) ≡ (a || (b || c))
or-moves true b c = refl
or-moves false b c = refl

same-name : (a b : Name) → bytes_eq a b ≡ true → a ≡ b
same-name a b = (bytes_eq-Decides a b).0

swap : (n k added : Name) → k ≡ added → bytes_eq n k ≡ bytes_eq added n
swap n k added named = by (bools (bytes_eq n k)) (bools (bytes_eq added n))
  where
    by : (bytes_eq n k ≡ true) ⊎ (bytes_eq n k ≡ false) → (bytes_eq added n ≡ true) ⊎ (bytes_eq added n ≡ false) → bytes_eq n k ≡ bytes_eq added n
    by (inl e) f = e ∙ sym ((bytes_eq-Decides added n).1 (sym named ∙ sym (same-name n k e)))
    by (inr e) (inr f) = e ∙ sym f
    by (inr e) (inl f) = (bytes_eq-Decides n k).1 (sym (same-name added n f) ∙ sym named) ∙ sym f

-- a name that is added to a set
module _ (keys new : List (String Global)) (k : String Global) (added n : Name) (is : new ≡ cond (list_any (string_eq k) keys) keys (keys ++ k ∷ [])) (named : string_bytes k ≡ added) where
  same : bytes_eq n (string_bytes k) ≡ bytes_eq added n
  same = swap n (string_bytes k) added named

  new-is : (b : Bool) → list_any (string_eq k) keys ≡ b → has_name new n ≡ has_name (cond b keys (keys ++ k ∷ [])) n
  new-is b e = ap (λ l. has_name l n) (is ∙ ap (λ c. cond c keys (keys ++ k ∷ [])) e)

  added-by : (list_any (string_eq k) keys ≡ true) ⊎ (list_any (string_eq k) keys ≡ false) → (bytes_eq n (string_bytes k) ≡ true) ⊎ (bytes_eq n (string_bytes k) ≡ false)
      → has_name new n ≡ (has_name keys n || bytes_eq added n)
  added-by (inr e) f =
      new-is false e ∙ list_any-append (λ j. bytes_eq n (string_bytes j)) keys (k ∷ []) ∙ ap (λ b. has_name keys n || b) (or-false (bytes_eq n (string_bytes k)) ∙ same)
  added-by (inl e) (inr f) = new-is true e ∙ sym (ap (λ b. has_name keys n || b) (sym same ∙ f) ∙ or-false (has_name keys n))
  added-by (inl e) (inl f) =
      new-is true e ∙ (ap (has_name keys) (same-name n (string_bytes k) f) ∙ e) ∙ sym (ap (λ b. has_name keys n || b) (sym same ∙ f) ∙ or-true (has_name keys n))

  pub name-added : has_name new n ≡ (has_name keys n || bytes_eq added n)
  name-added = added-by (bools (list_any (string_eq k) keys)) (bools (bytes_eq n (string_bytes k)))

-- the names that are left, one fewer
one-taken : (had has : Bool) (name n : Name) (rest : List Name) → has ≡ (had || bytes_eq name n) → (had || is_among (name ∷ rest) n) ≡ (has || is_among rest n)
one-taken had has name n rest grown = sym (ap (λ b. b || is_among rest n) grown ∙ or-moves had (bytes_eq name n) (is_among rest n))

next-left : {A : Type 0} (xs : List A) (i : ℕ) (x : A) → i < length xs → x ≡ get_or xs i x → drop i xs ≡ x ∷ drop (i + 1) xs
next-left xs i x l e = rw add-one (drop-cons xs i x l ∙ ap (λ y. y ∷ drop (suc i) xs) (sym e))

pub name-taken : (names : List (String Global)) (i : ℕ) (x : String Global) (had has : Bool) (n : Name) → i < length names → x ≡ get_or names i x → has ≡ (had || bytes_eq (string_bytes x) n)
    → (had || is_among (map string_bytes (drop i names)) n) ≡ (has || is_among (map string_bytes (drop (i + 1) names)) n)
name-taken names i x had has n l e grown =
    ap (λ (left : List (String Global)). had || is_among (map string_bytes left) n) (next-left names i x l e) ∙ one-taken had has (string_bytes x) n (map string_bytes (drop (i + 1) names)) grown

pub all-taken : (names : List (String Global)) (i : ℕ) (had all : Bool) (n : Name) → length names ≤ i → (had || is_among (map string_bytes (drop i names)) n) ≡ all → had ≡ all
all-taken names i had all n past e = sym (or-false had) ∙ sym (ap (λ (left : List (String Global)). had || is_among (map string_bytes left) n) (drop_all i names past)) ∙ e

-- the rules that are left, one fewer
pub rule-taken : (keys : List (String Global)) (all : List DeclaredRule) (i : ℕ) (x : DeclaredRule) (name : Name) (hit : Bool) (had has : List Bool) → i < length all → x ≡ get_or all i x
    → name ≡ string_bytes x.name → hit ≡ has_name keys name → has ≡ had ++ hit ∷ [] → has ++ skipped_in keys (map rule_of (drop (i + 1) all)) ≡ had ++ skipped_in keys (map rule_of (drop i all))
rule-taken keys all i x name hit had has l e named is grown =
    let rest = skipped_in keys (map rule_of (drop (i + 1) all)) in
    ap (λ bs. bs ++ rest) grown ∙ append_assoc had (hit ∷ []) rest ∙ ap (λ b. had ++ b ∷ rest) (is ∙ ap (has_name keys) named)
    ∙ ap (λ (left : List DeclaredRule). had ++ skipped_in keys (map rule_of left)) (sym (next-left all i x l e))

-- a set that has these names
pub skipped-same : (keys : List (String Global)) (names : List Name) → ((n : Name) → has_name keys n ≡ is_among names n) → (rules : List Rule) → skipped_in keys rules ≡ skipped_by names rules
skipped-same keys names h [] = refl
skipped-same keys names h (r ∷ rules) = ap (λ b. b ∷ skipped_in keys rules) (h r.name) ∙ ap (λ bs. is_among names r.name ∷ bs) (skipped-same keys names h rules)
