-- Names of features and sorts, as the settings have them.
use Rattle.std.proofs.Common.{ℕ, zero, suc, ◌≡◌, ◌<◌, ◌+◌, Bool, true, false, Option, Some, None, List, [], ◌∷◌, ◌++◌, length, map, take, drop, get_or, refl, sym, ◌∙◌, ap, subst, arith, append_assoc}
use Rattle.std.specs.Prelude.{All, IfSome, option_map, not, codes}
use Rattle.std.specs.Str.{bytes_eq, IsUtf8}
use Rattle.std.proofs.lemmas.Str.{IsUtf8-string_bytes}
use Rattle.std.specs.String.{string_bytes}
use Rattle.std.specs.Prelude.{String}
use Rattle.std.specs.Global.{Global}
use Rattle.fs_graph.specs.declared.facts.Feat.{Feat}
use Rattle.type_hierarchy.specs.declared.types.Ty.{Ty}
use Rattle.type_hierarchy.specs.Table.{TypeTable}
use Rattle.mrs_places.specs.declared.paths.MrsSort.{MrsSort}
use Rattle.mrs_places.specs.Paths.{Paths, Sort, sort_line_of}
use Rattle.mrs_places.specs.Looking.{below, is_number}
use Rattle.mrs_extract.specs.Extraction.{sort_at, feature_name, is_role, is_among}
use Rattle.mrs_extract.specs.Inner.Routes.{joined, numbers_of}
use Rattle.mrs_extract.proofs.Lists.{of_map, all_in}
use Rattle.mrs_extract.proofs.Joining.{joined_more}

-- sorts of the settings
some_in : (n : ℕ) (x : MrsSort) → IfSome (sort_line_of x).ty (λ t. t < n) → IfSome x.ty (λ u. u.0 < n)
some_in n x h = by_type x.ty h
  where
    by_type : (o : Option Ty) → IfSome (option_map (λ t. t.0) o) (λ t. t < n) → IfSome o (λ u. u.0 < n)
    by_type None k = tt
    by_type (Some t) k = k

pub sort_in : (n : ℕ) (ss : List MrsSort) (k : ℕ) (x : MrsSort) → All (λ s. IfSome s.ty (λ t. t < n)) (map sort_line_of ss) → k < length ss → x ≡ get_or ss k x → IfSome x.ty (λ u. u.0 < n)
sort_in n ss k x all lt e = some_in n x (at ss k all lt e)
  where
    at : (rs : List MrsSort) (j : ℕ) → All (λ s. IfSome s.ty (λ t. t < n)) (map sort_line_of rs) → j < length rs → x ≡ get_or rs j x → IfSome (sort_line_of x).ty (λ t. t < n)
    at [] j a l q = absurd (omega (arith, l))
    at (r ∷ rs) zero a l q = subst (λ y. IfSome (sort_line_of y).ty (λ t. t < n)) (sym q) (a 0 (sort_line_of r) (omega arith))
    at (r ∷ rs) (suc j) a l q = at rs j (λ i d m. a (suc i) d (omega (arith, m))) (omega (arith, l)) q

sorts_drop : (ss : List MrsSort) (k : ℕ) (x : MrsSort) → k < length ss → x ≡ get_or ss k x → drop k (map sort_line_of ss) ≡ sort_line_of x ∷ drop (k + 1) (map sort_line_of ss)
sorts_drop [] k x lt e = absurd (omega (arith, lt))
sorts_drop (s ∷ ss) zero x lt e = ap (λ y. sort_line_of y ∷ map sort_line_of ss) (sym e)
sorts_drop (s ∷ ss) (suc k) x lt e =
    let q : suc (k + 1) ≡ suc k + 1 = omega arith in
    sorts_drop ss k x (omega (arith, lt)) e ∙ ap (λ (j : ℕ). sort_line_of x ∷ drop j (map sort_line_of (s ∷ ss))) q

first_fits : (types : TypeTable) (t : ℕ) (s : Sort) (ss : List Sort) → below types t s.ty ≡ true → sort_at types t (s ∷ ss) ≡ s.letters
first_fits types t s ss e = rw e refl

first_not : (types : TypeTable) (t : ℕ) (s : Sort) (ss : List Sort) → below types t s.ty ≡ false → sort_at types t (s ∷ ss) ≡ sort_at types t ss
first_not types t s ss e = rw e refl

pub sort_found : (types : TypeTable) (t : ℕ) (ss : List MrsSort) (k : ℕ) (x : MrsSort) → k < length ss → x ≡ get_or ss k x → below types t (sort_line_of x).ty ≡ true → sort_at types t (drop k (map sort_line_of ss)) ≡ string_bytes x.letters
sort_found types t ss k x lt e h = ap (sort_at types t) (sorts_drop ss k x lt e) ∙ first_fits types t (sort_line_of x) (drop (k + 1) (map sort_line_of ss)) h

pub sort_next : (types : TypeTable) (t : ℕ) (ss : List MrsSort) (k : ℕ) (x : MrsSort) → k < length ss → x ≡ get_or ss k x → below types t (sort_line_of x).ty ≡ false → sort_at types t (drop k (map sort_line_of ss)) ≡ sort_at types t (drop (k + 1) (map sort_line_of ss))
sort_next types t ss k x lt e h = ap (sort_at types t) (sorts_drop ss k x lt e) ∙ first_not types t (sort_line_of x) (drop (k + 1) (map sort_line_of ss)) h

-- features by number
pub number_in : (n : ℕ) (path : List Feat) (k : ℕ) (d : Feat) → All (λ f. f < n) (numbers_of path) → k < length path → (get_or path k d).0 < n
number_in n [] k d all lt = absurd (omega (arith, lt))
number_in n (f ∷ path) zero d all lt = all 0 0 (omega arith)
number_in n (f ∷ path) (suc k) d all lt = number_in n path k d (λ j x l. all (suc j) x (omega (arith, l))) (omega (arith, lt))

pub named_at : (feats : List (String Global)) (x : String Global) (f : ℕ) → f < length feats → x ≡ get_or feats f x → string_bytes x ≡ get_or (map string_bytes feats) f []
named_at [] x f lt e = absurd (omega (arith, lt))
named_at (y ∷ feats) x zero lt e = ap string_bytes e
named_at (y ∷ feats) x (suc f) lt e = named_at feats x f (omega (arith, lt)) e

numbers_one : (path : List Feat) (k : ℕ) (d : Feat) → k < length path → numbers_of (take (k + 1) path) ≡ numbers_of (take k path) ++ (get_or path k d).0 ∷ []
numbers_one [] k d lt = absurd (omega (arith, lt))
numbers_one (f ∷ path) zero d lt = refl
numbers_one (f ∷ path) (suc k) d lt =
    let q : suc k + 1 ≡ suc (k + 1) = omega arith in
    ap (λ (j : ℕ). numbers_of (take j (f ∷ path))) q ∙ ap (λ l. f.0 ∷ l) (numbers_one path k d (omega (arith, lt)))

pub name_next : (p : Paths) (path : List Feat) (k : ℕ) (d : Feat) (old mid new piece : List ℕ) → 0 < k → k < length path → old ≡ joined p (numbers_of (take k path)) → mid ≡ old ++ 46 ∷ [] → new ≡ mid ++ piece → piece ≡ feature_name p (get_or path k d).0
    → new ≡ joined p (numbers_of (take (k + 1) path))
name_next p [] k d old mid new piece some lt o m n e = absurd (omega (arith, lt))
name_next p (f ∷ path) zero d old mid new piece some lt o m n e = absurd (omega (arith, some))
name_next p (f ∷ path) (suc k) d old mid new piece some lt o m n e =
    n ∙ ap (λ l. l ++ piece) m ∙ append_assoc old (46 ∷ []) piece ∙ ap (λ l. l ++ 46 ∷ piece) o ∙ ap (λ l. joined p (numbers_of (take (suc k) (f ∷ path))) ++ 46 ∷ l) e
    ∙ sym (joined_more p f.0 (numbers_of (take k path)) (get_or (f ∷ path) (suc k) d).0) ∙ ap (joined p) (sym (numbers_one (f ∷ path) (suc k) d lt))

-- which features are roles
pub role_tested : (p : Paths) (f : ℕ) (r : Bool) (t : List ℕ) → is_number p.pred.number f ≡ false → is_number p.lbl.number f ≡ false → is_among p.skip_roles f ≡ false → t ≡ feature_name p f → r ≡ not (bytes_eq t (codes "lbl")) → r ≡ is_role p f
role_tested p f r t a b c e h =
    h ∙ ap (λ z. not (bytes_eq z (codes "lbl"))) e ∙ (let z : not (bytes_eq (feature_name p f) (codes "lbl")) ≡ is_role p f = rw (a, b, c) refl in z)

-- names of the program are UTF-8
pub all_utf8 : (feats : List (String Global)) → All IsUtf8 (map string_bytes feats)
all_utf8 feats = all_in IsUtf8 (map string_bytes feats) (λ n h. (let q = of_map string_bytes n feats h in subst IsUtf8 (sym q.2) (IsUtf8-string_bytes q.0)))
