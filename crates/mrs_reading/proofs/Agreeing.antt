-- Properties that are looked for and added, and variables that are looked for.
use Rattle.std.proofs.Common.{◌≡◌, ◌≢◌, ℕ, zero, suc, ◌+◌, ◌-◌, ◌<◌, ◌≤◌, inl, inr, ◌∙◌, Bool, true, false, cond, List, [], ◌∷◌, ◌++◌, Some, None, Result, Ok, Err, IfOk, OnOk, map, refl, ap, sym, subst, length, take, set, get_or, slice_index_or, length-append, String, arith}
use Rattle.std.specs.Global.{Global}
use Rattle.std.specs.Bool.{OnTrue, OnFalse}
use Rattle.std.specs.List.{slice_get, Contains, list_any, position}
use Rattle.std.specs.Str.{bytes_eq}
use Rattle.std.specs.String.{string_bytes, string_eq}
use Rattle.std.proofs.lemmas.Bool.{false≢true}
use Rattle.std.proofs.lemmas.List.{take_more, take_all, map-append, map-set, get_or-map, length-map}
use Rattle.std.proofs.lemmas.List.Elements.{Contains-get_or, Contains-push_cases}
use Rattle.std.proofs.lemmas.List.Quantifiers.{position-Some}
use Rattle.std.proofs.lemmas.Option.{slice_get_within, slice_get-get_or, get_or_from_slice_get, same_Some}
use Rattle.std.proofs.lemmas.Slice.Eq.{bytes_eq-Decides}
use Rattle.indexmap.specs.IndexSet.{insert_key}
use Rattle.mrs_model.specs.declared.Prop.{Prop}
use Rattle.mrs_model.specs.declared.Var.{Var}
use Rattle.mrs_model.specs.Meanings.{Property, Variable}
use Rattle.mrs_model.specs.Views.{property_of, variable_of}
use Rattle.mrs_spelling.specs.declared.kinds.Kind.{Kind}
use Rattle.mrs_spelling.specs.declared.kinds.Kind.TheVariants.{PropValue}
use Rattle.mrs_spelling.specs.Conditions.{Context, Given, BreaksIn, after_kind, gives}
use Rattle.mrs_reading.specs.Inner.Tables.{letters_of, IsAdded, IsGivenTo, added, HasOther, IsGivenAt, HasOtherAt, IsGrown, stays, grows, IsTable}
use Rattle.mrs_reading.proofs.Rising.{added_map}
use Rattle.mrs_reading.proofs.Tabled.{keeps_value, given_table, was_given, get_cases}

pub yes_weaker : {E P Q : Type 0} (r : Result Bool E) → (P → Q) → IfOk r (λ ok. OnTrue ok P) → IfOk r (λ ok. OnTrue ok Q)
yes_weaker (Ok true) f h = f h
yes_weaker (Ok false) f h = tt
yes_weaker (Err e) f h = tt

pub yes_both : {E P Q R : Type 0} (r : Result Bool E) → (P → Q → R) → IfOk r (λ ok. OnTrue ok P) → IfOk r (λ ok. OnTrue ok Q) → IfOk r (λ ok. OnTrue ok R)
yes_both (Ok true) f h k = f h k
yes_both (Ok false) f h k = tt
yes_both (Err e) f h k = tt

pub no_weaker : {E P Q : Type 0} (r : Result Bool E) → (P → Q) → IfOk r (λ ok. OnFalse ok P) → IfOk r (λ ok. OnFalse ok Q)
no_weaker (Ok true) f h = tt
no_weaker (Ok false) f h = f h
no_weaker (Err e) f h = tt

-- the last item
pub last_is : {A : Type 0} (f : A → List ℕ) (xs : List A) (x : A) (n : List ℕ) → slice_get xs (length xs - 1) ≡ Some x → f x ≡ n → map f xs ≡ map f (take (length xs - 1) xs) ++ n ∷ []
last_is {A} f xs x n e g =
    let l = slice_get_within xs (length xs - 1) x e in
    let m : length xs - 1 + 1 ≡ length xs = omega (arith, l) in
    let t : take (length xs - 1 + 1) xs ≡ take (length xs - 1) xs ++ get_or xs (length xs - 1) x ∷ [] = take_more xs (length xs - 1) x l in
    let w : xs ≡ take (length xs - 1) xs ++ x ∷ [] = sym (take_all (length xs - 1 + 1) xs (omega (arith, m))) ∙ t ∙ ap (λ (z : A). take (length xs - 1) xs ++ z ∷ []) (get_or_from_slice_get xs (length xs - 1) x x e) in
    ap (map f) w ∙ map-append f (take (length xs - 1) xs) (x ∷ []) ∙ ap (λ z. map f (take (length xs - 1) xs) ++ z ∷ []) g

prop_here : (props : List Prop) (i : ℕ) (x : Prop) → i < length props → x ≡ slice_index_or props i x → Contains (map property_of props) (property_of x)
prop_here props i x l e =
    let m = length-map props property_of in
    let g : get_or (map property_of props) i (property_of x) ≡ property_of x = get_or-map property_of props i x (property_of x) l ∙ ap property_of (sym e) in
    subst (Contains (map property_of props)) g (Contains-get_or (map property_of props) i (property_of x) (omega (arith, m, l)))

pub same_property : (x : Prop) (name value : List ℕ) → string_bytes x.name ≡ name → string_bytes x.value ≡ value → property_of x ≡ record { name = name; value = value }
same_property x name value a b = rw (a, b) refl

pub found_same : (props : List Prop) (i : ℕ) (x : Prop) (name value : List ℕ) → i < length props → x ≡ slice_index_or props i x → string_bytes x.name ≡ name → string_bytes x.value ≡ value
    → Contains (map property_of props) (record { name = name; value = value })
found_same props i x name value l e a b = subst (Contains (map property_of props)) (same_property x name value a b) (prop_here props i x l e)

pub found_other : (props : List Prop) (i : ℕ) (x : Prop) (name value : List ℕ) → i < length props → x ≡ slice_index_or props i x → string_bytes x.name ≡ name → (string_bytes x.value ≡ value → ⊥)
    → HasOther (map property_of props) (record { name = name; value = value })
found_other props i x name value l e a b = record { other = property_of x; there = prop_here props i x l e; name = a; value = b }

pub none_here : (props : List Prop) (i : ℕ) (x : Prop) (name : List ℕ) → i < length props → x ≡ slice_index_or props i x → (string_bytes x.name ≡ name → ⊥) → ((q : Property) → Contains (map property_of (take i props)) q → q.name ≢ name)
    → (q : Property) → Contains (map property_of (take (i + 1) props)) q → q.name ≢ name
none_here props i x name l e n h = λ q k f.
    let t : map property_of (take (i + 1) props) ≡ map property_of (take i props) ++ property_of x ∷ [] =
    ap (map property_of) (take_more props i x l ∙ ap (λ (z : Prop). take i props ++ z ∷ []) (sym e)) ∙ map-append property_of (take i props) (x ∷ []) in
    elim (Contains-push_cases (map property_of (take i props)) (property_of x) q (subst (λ (z : List Property). Contains z q) t k)) [
      | inl a ↦ h q a f
      | inr a ↦ n (ap (λ (z : Property). z.name) a ∙ f)
    ]

pub none_at_all : (props : List Prop) (i : ℕ) (name : List ℕ) → length props ≤ i → ((q : Property) → Contains (map property_of (take i props)) q → q.name ≢ name) → (q : Property) → Contains (map property_of props) q → q.name ≢ name
none_at_all props i name l h = subst (λ (z : List Prop). (q : Property) → Contains (map property_of z) q → q.name ≢ name) (take_all i props l) h

-- a property that wasn't there was added
pub given_added : (old : List Prop) (x : Prop) (new : List Prop) (p : Property) → property_of x ≡ p → ((q : Property) → Contains (map property_of old) q → q.name ≢ p.name) → IsAdded (λ (y : Prop). string_bytes y.name) old x new
    → IsGivenTo (map property_of old) p (map property_of new)
given_added old x new p e n h = added n (subst (λ (z : Property). IsAdded (λ (q : Property). q.name) (map property_of old) z (map property_of new)) e (added_map property_of (λ (y : Prop). string_bytes y.name) (λ (q : Property). q.name) (λ y. refl) old x new h))

var_there : (vars : List Var) (at : ℕ) (v : Var) → at < length vars → v ≡ slice_index_or vars at v → slice_get (map variable_of vars) at ≡ Some (variable_of v)
var_there vars at v l e =
    let m = length-map vars variable_of in
    slice_get-get_or (map variable_of vars) at (variable_of v) (omega (arith, m, l)) ∙ ap Some (get_or-map variable_of vars at v (variable_of v) l ∙ ap variable_of (sym e))

pub given_at : (vars : List Var) (at : ℕ) (v w : Var) (p : Property) (new : List Var) → at < length vars → v ≡ slice_index_or vars at v → variable_of w ≡ record (variable_of v) { props = map property_of w.props.items }
    → new ≡ set vars at w → IsGivenTo (map property_of v.props.items) p (map property_of w.props.items) → IsGivenAt (map variable_of vars) at p (map variable_of new)
given_at vars at v w p new l e s n g = record {
  before = variable_of v;
  after = variable_of w;
  there = var_there vars at v l e;
  given = g;
  sort = ap (λ (z : Variable). z.sort) s;
  is = ap (map variable_of) n ∙ map-set variable_of vars at w;
}

pub other_at : (vars : List Var) (at : ℕ) (v : Var) (p : Property) → at < length vars → v ≡ slice_index_or vars at v → HasOther (map property_of v.props.items) p → HasOtherAt (map variable_of vars) at p
other_at vars at v p l e h = record { var = variable_of v; there = var_there vars at v l e; other = h }

last_key : (c : Context) (gs : List Given) (keys : List (List ℕ)) (vars : List Variable) (last : ℕ) (name : List ℕ) → last < length vars → IsTable c gs keys vars last name → slice_get keys last ≡ Some c.key
last_key c gs keys vars last name l t = let e = t.even in t.at_last (omega (arith, e, l))

abbrev given_of : List ℕ → List ℕ → Property
given_of n v = record { name = n; value = v }

same_value : (n v m w : List ℕ) → n ≡ m → v ≡ w → given_of n v ≡ given_of m w
same_value n v m w a b = rw (a, b) refl

pub value_table : (c : Context) (gs : List Given) (keys : List (List ℕ)) (vars : List Variable) (last : ℕ) (name n v value : List ℕ) (vars2 : List Variable) → n ≡ name → v ≡ value → last < length vars → IsGivenAt vars last (record { name = n; value = v }) vars2
    → IsTable c gs keys vars last name → IsTable c (gs ++ record { key = c.key; name = c.name; value = value } ∷ []) keys vars2 last name
value_table c gs keys vars last name n v value vars2 e f l g t =
    let p : IsGivenTo g.before.props (record { name = c.name; value = value }) g.after.props = subst (λ (z : Property). IsGivenTo g.before.props z g.after.props) (same_value n v c.name value (e ∙ t.name_is) f) g.given in
    subst (λ (z : List Variable). IsTable c (gs ++ record { key = c.key; name = c.name; value = value } ∷ []) keys z last name) (sym g.is)
    (given_table c gs keys vars last name value g.before g.after (last_key c gs keys vars last name l t) g.there p g.sort t)

pub value_keeps : (c : Context) (gs : List Given) (keys : List (List ℕ)) (vars : List Variable) (last : ℕ) (name n v value : List ℕ) (vars2 : List Variable) → n ≡ name → v ≡ value → last < length vars → IsGivenAt vars last (record { name = n; value = v }) vars2
    → IsTable c gs keys vars last name → BreaksIn c gs PropValue value → ⊥
value_keeps c gs keys vars last name n v value vars2 e f l g t =
    let p : IsGivenTo g.before.props (record { name = c.name; value = value }) g.after.props = subst (λ (z : Property). IsGivenTo g.before.props z g.after.props) (same_value n v c.name value (e ∙ t.name_is) f) g.given in
    keeps_value c gs keys vars last name value g.before g.after.props (last_key c gs keys vars last name l t) g.there p t

pub value_breaks : (c : Context) (gs : List Given) (keys : List (List ℕ)) (vars : List Variable) (last : ℕ) (name n v value : List ℕ) → n ≡ name → v ≡ value → last < length vars → HasOtherAt vars last (record { name = n; value = v })
    → IsTable c gs keys vars last name → BreaksIn c gs PropValue value
value_breaks c gs keys vars last name n v value e f l g t =
    was_given c gs keys vars last name value g.var (last_key c gs keys vars last name l t) g.there (subst (λ (z : Property). HasOther g.var.props z) (same_value n v c.name value (e ∙ t.name_is) f) g.other) t

pub value_kind : (c : Context) (gs : List Given) (k : Kind) (text : List ℕ) (keys : List (List ℕ)) (vars : List Variable) (last : ℕ) (name : List ℕ) → k ≡ PropValue
    → IsTable c (gs ++ record { key = c.key; name = c.name; value = text } ∷ []) keys vars last name → IsTable (after_kind c k text) (gs ++ gives c k text) keys vars last name
value_kind c gs k text keys vars last name e t = subst (λ (z : Kind). IsTable (after_kind c z text) (gs ++ gives c z text) keys vars last name) (sym e) t

-- the place of a key that is there
pub key_found : (keys : List (String Global)) (key : List ℕ) (i : ℕ) → position (λ (k : String Global). bytes_eq key (string_bytes k)) keys ≡ Some i → slice_get (map string_bytes keys) i ≡ Some key
key_found [] key i e = absurd (cc)
key_found (k ∷ ks) key i e =
    let w = position-Some (λ (z : String Global). bytes_eq key (string_bytes z)) (k ∷ ks) i k e in
    let m = length-map (k ∷ ks) (λ (z : String Global). string_bytes z) in
    let q : key ≡ string_bytes (get_or (k ∷ ks) i k) = (bytes_eq-Decides key (string_bytes (get_or (k ∷ ks) i k))).0 w.1 in
    slice_get-get_or (map string_bytes (k ∷ ks)) i (string_bytes k) (omega (arith, m, w.0)) ∙ ap Some (get_or-map string_bytes (k ∷ ks) i k (string_bytes k) w.0 ∙ sym q)

key_any : (keys : List (String Global)) (key : List ℕ) (i : ℕ) → slice_get (map string_bytes keys) i ≡ Some key → list_any (λ (k : String Global). bytes_eq key (string_bytes k)) keys ≡ true
key_any [] key i e = absurd (cc)
key_any (k ∷ ks) key zero e = by (bytes_eq key (string_bytes k)) refl
  where
    by : (b : Bool) → bytes_eq key (string_bytes k) ≡ b → list_any (λ (z : String Global). bytes_eq key (string_bytes z)) (k ∷ ks) ≡ true
    by true h = rw h refl
    by false h = let q : bytes_eq key (string_bytes k) ≡ true = (bytes_eq-Decides key (string_bytes k)).1 (sym (same_Some (string_bytes k) key e)) in absurd (false≢true (sym h ∙ q))
key_any (k ∷ ks) key (suc i) e = let h = key_any ks key i e in by (bytes_eq key (string_bytes k)) refl h
  where
    by : (b : Bool) → bytes_eq key (string_bytes k) ≡ b → list_any (λ (z : String Global). bytes_eq key (string_bytes z)) ks ≡ true → list_any (λ (z : String Global). bytes_eq key (string_bytes z)) (k ∷ ks) ≡ true
    by true h g = rw h refl
    by false h g = rw (h, g) refl

-- a key that isn't there goes to the end
pub key_grown : (keys new : List (String Global)) (vars vars2 : List Variable) (k : String Global) (key : List ℕ) (r : ℕ) (found : String Global) → string_bytes k ≡ key → list_any (λ (z : String Global). bytes_eq key (string_bytes z)) keys ≡ false
    → new ≡ keys ++ k ∷ [] → slice_get new r ≡ Some found → string_bytes found ≡ key → vars2 ≡ vars ++ record { sort = letters_of key; props = [] } ∷ []
    → IsGrown (map string_bytes keys) vars key (map string_bytes new) vars2 r
key_grown keys new vars vars2 k key r found e n g s f v =
    let fresh : (i : ℕ) → slice_get (map string_bytes keys) i ≡ Some key → ⊥ = λ i h. false≢true (sym n ∙ key_any keys key i h) in
    let t : map string_bytes new ≡ map string_bytes keys ++ key ∷ [] = ap (map string_bytes) g ∙ map-append string_bytes keys (k ∷ []) ∙ ap (λ z. map string_bytes keys ++ z ∷ []) e in
    let m = length-map keys (λ (z : String Global). string_bytes z) in
    let o : r ≡ length (map string_bytes keys) = elim (get_cases keys k r found (subst (λ (z : List (String Global)). slice_get z r ≡ Some found) g s)) [
      | inl a ↦ absurd (fresh r (at_key keys r found key a f))
      | inr a ↦ a.0 ∙ sym m
    ] in
    grows r o fresh t v
  where
    at_key : (ks : List (String Global)) (i : ℕ) (x : String Global) (q : List ℕ) → slice_get ks i ≡ Some x → string_bytes x ≡ q → slice_get (map string_bytes ks) i ≡ Some q
    at_key [] i x q a b = absurd (cc)
    at_key (y ∷ ks) zero x q a b = ap Some (ap string_bytes (same_Some y x a) ∙ b)
    at_key (y ∷ ks) (suc i) x q a b = at_key ks i x q a b

pub grown_even : (keys : List (List ℕ)) (vars : List Variable) (k : List ℕ) (keys2 : List (List ℕ)) (vars2 : List Variable) (n : ℕ) → length vars ≡ length keys → IsGrown keys vars k keys2 vars2 n → (0 < length vars2) × (length vars ≤ length vars2)
grown_even keys vars k keys2 vars2 _ e (stays n a p q) = let l = slice_get_within keys n k a in let m = ap length q in (omega (arith, e, l, m), omega (arith, m))
grown_even keys vars k keys2 vars2 _ e (grows n a f p q) = let m = ap length q in let o = length-append vars (record { sort = letters_of k; props = [] } ∷ []) in (omega (arith, m, o), omega (arith, m, o))

pub name_same : (c : Context) (gs : List Given) (k : Kind) (text : List ℕ) (keys : List (List ℕ)) (vars : List Variable) (last : ℕ) (name other : List ℕ) → other ≡ name
    → IsTable (after_kind c k text) (gs ++ gives c k text) keys vars last name → IsTable (after_kind c k text) (gs ++ gives c k text) keys vars last other
name_same c gs k text keys vars last name other e t = subst (λ (z : List ℕ). IsTable (after_kind c k text) (gs ++ gives c k text) keys vars last z) (sym e) t

pub inserted_new : (keys new : List (String Global)) (k : String Global) (key : List ℕ) → string_bytes k ≡ key → list_any (λ (z : String Global). bytes_eq key (string_bytes z)) keys ≡ false → new ≡ insert_key string_eq keys k → new ≡ keys ++ k ∷ []
inserted_new keys new k key e n g =
    let m : list_any (string_eq k) keys ≡ false = subst (λ (b : List ℕ). list_any (λ (z : String Global). bytes_eq b (string_bytes z)) keys ≡ false) (sym e) n in
    g ∙ ap (λ b. cond b keys (keys ++ k ∷ [])) m

abbrev new_variable : List ℕ → Variable
new_variable key = record { sort = letters_of key; props = [] }

pub pushed_variable : (old new : List Var) (v : Var) (key : List ℕ) → string_bytes v.sort ≡ letters_of key → v.props.items ≡ [] → new ≡ old ++ v ∷ [] → map variable_of new ≡ map variable_of old ++ record { sort = letters_of key; props = [] } ∷ []
pushed_variable old new v key e n g =
    let w : variable_of v ≡ new_variable key = rw (e, n) refl in
    ap (map variable_of) g ∙ map-append variable_of old (v ∷ []) ∙ ap (λ (z : Variable). map variable_of old ++ z ∷ []) w

pub kept_ok : {T E : Type 0} (r : Result T E) → OnOk r (Unit {0})
kept_ok (Ok x) = tt
kept_ok (Err e) = tt

-- the last of some names
no_snoc : (xs : List (List ℕ)) (y : List ℕ) → [] ≡ xs ++ y ∷ [] → ⊥
no_snoc [] y e = absurd (cc)
no_snoc (x ∷ xs) y e = absurd (cc)

snoc_same : (xs ys : List (List ℕ)) (x y : List ℕ) → xs ++ x ∷ [] ≡ ys ++ y ∷ [] → x ≡ y
snoc_same [] [] x y e = cc
snoc_same [] (b ∷ ys) x y e = absurd (no_snoc ys y (cc))
snoc_same (a ∷ xs) [] x y e = absurd (no_snoc xs x (cc))
snoc_same (a ∷ xs) (b ∷ ys) x y e = snoc_same xs ys x y (cc)

pub last_name : {A : Type 0} (f : A → List ℕ) (xs : List A) (x : A) (before : List (List ℕ)) (r : List ℕ) → slice_get xs (length xs - 1) ≡ Some x → map f xs ≡ before ++ r ∷ [] → f x ≡ r
last_name f xs x before r e g = snoc_same (map f (take (length xs - 1) xs)) before (f x) r (sym (last_is f xs x (f x) e refl) ∙ g)

pub no_last : {A : Type 0} (f : A → List ℕ) (xs : List A) (before : List (List ℕ)) (r : List ℕ) → slice_get xs (length xs - 1) ≡ None → map f xs ≡ before ++ r ∷ [] → ⊥
no_last f [] before r e g = no_snoc before r g
no_last f (x ∷ xs) before r e g = let h : None ≡ Some (get_or (x ∷ xs) (length (x ∷ xs) - 1) x) = sym e ∙ slice_get-get_or (x ∷ xs) (length (x ∷ xs) - 1) x (omega arith) in absurd (cc)
