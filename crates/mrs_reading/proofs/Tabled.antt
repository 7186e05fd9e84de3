-- What becomes of a table of variables.
use Rattle.std.proofs.Common.{◌≡◌, ◌≢◌, ℕ, zero, suc, ◌⊎◌, inl, inr, ◌↔◌, ◌∙◌, true, false, List, [], ◌∷◌, ◌++◌, Some, refl, ap, sym, subst, length, length-append, map, set, take, drop, append-nil, arith}
use Rattle.std.specs.List.{slice_get, Contains, insert}
use Rattle.std.proofs.lemmas.Bool.{cases_lt, cases_eq}
use Rattle.std.proofs.lemmas.Option.{slice_get_within, slice_get-get_or, get_or_from_slice_get, same_Some}
use Rattle.std.proofs.lemmas.List.{take-append-drop}
use Rattle.std.proofs.lemmas.List.Elements.{Contains-append_left, Contains-append_right, Contains-append_cases, Contains-push, Contains-push_cases}
use Rattle.std.proofs.Math.ListN.{get_or-append}
use Rattle.std.proofs.Math.Seq.{get_or-append_seam}
use Rattle.mrs_model.specs.Meanings.{Property, Variable}
use Rattle.mrs_model.specs.Valid.{Rise}
use Rattle.mrs_spelling.specs.declared.kinds.Kind.{Kind}
use Rattle.mrs_spelling.specs.declared.kinds.Kind.TheVariants.{Top, Index, PropName, PropValue, PredRun, PredText, Link, Role, Filler, OpensText, Text, EpEnd, High, HandleRel, Low, Left, VariableRel, Right}
use Rattle.mrs_spelling.specs.Conditions.{Context, Given, BreaksIn, other_value, after_kind, gives}
use Rattle.mrs_reading.proofs.Naming.{at_value_breaks}
use Rattle.mrs_reading.proofs.Rising.{rise_added}
use Rattle.mrs_reading.specs.Inner.Tables.{is_variable, letters_of, IsGivenTo, there, added, HasOther, property_in, Has, IsGrown, stays, grows, IsTable}

pub get_front : {A : Type 0} (xs ys : List A) (i : ℕ) (x : A) → slice_get xs i ≡ Some x → slice_get (xs ++ ys) i ≡ Some x
get_front xs ys i x e =
    let l = slice_get_within xs i x e in
    let n = length-append xs ys in
    slice_get-get_or (xs ++ ys) i x (omega (arith, l, n)) ∙ ap Some (get_or-append xs ys x i l ∙ get_or_from_slice_get xs i x x e)

pub get_last : {A : Type 0} (xs : List A) (y : A) → slice_get (xs ++ y ∷ []) (length xs) ≡ Some y
get_last xs y = let n = length-append xs (y ∷ []) in slice_get-get_or (xs ++ y ∷ []) (length xs) y (omega (arith, n)) ∙ ap Some (get_or-append_seam xs y [] y)

pub get_cases : {A : Type 0} (xs : List A) (y : A) (i : ℕ) (x : A) → slice_get (xs ++ y ∷ []) i ≡ Some x → (slice_get xs i ≡ Some x) ⊎ ((i ≡ length xs) × (x ≡ y))
get_cases xs y i x e = elim (cases_lt i (length xs)) [
  | inl l ↦ inl (slice_get-get_or xs i x l ∙ ap Some (sym (get_or-append xs (y ∷ []) x i l) ∙ get_or_from_slice_get (xs ++ y ∷ []) i x x e))
  | inr l ↦ inr (let w = slice_get_within (xs ++ y ∷ []) i x e in let n = length-append xs (y ∷ []) in let j : i ≡ length xs = omega (arith, w, n, l) in
      (j, let p = sym e ∙ ap (λ k. slice_get (xs ++ y ∷ []) k) j ∙ get_last xs y in cc))
]

-- another variable is the last one
pub turn_old : (c : Context) (gs : List Given) (keys : List (List ℕ)) (vars : List Variable) (last : ℕ) (name k : List ℕ) (i : ℕ) → slice_get keys i ≡ Some k → IsTable c gs keys vars last name → IsTable (record c { key = k }) gs keys vars i name
turn_old c gs keys vars last name k i e t = record { even = t.even; distinct = t.distinct; at_last = λ _. e; name_is = t.name_is; told = t.told; each = t.each; agree = t.agree }

has_front : (keys : List (List ℕ)) (vars : List Variable) (k : List ℕ) (v : Variable) (g : Given) → Has keys vars g → Has (keys ++ k ∷ []) (vars ++ v ∷ []) g
has_front keys vars k v g h = record { place = h.place; var = h.var; key = get_front keys (k ∷ []) h.place g.key h.key; at = get_front vars (v ∷ []) h.place h.var h.at; props = h.props }

has_back : (keys : List (List ℕ)) (vars : List Variable) (k : List ℕ) (v : Variable) (g : Given) → length vars ≡ length keys → v.props ≡ [] → Has (keys ++ k ∷ []) (vars ++ v ∷ []) g → Has keys vars g
has_back keys vars k v g e n h = elim (get_cases vars v h.place h.var h.at) [
  | inl a ↦ (elim (get_cases keys k h.place g.key h.key) [
    | inl b ↦ record { place = h.place; var = h.var; key = b; at = a; props = h.props }
    | inr b ↦ absurd (let l = slice_get_within vars h.place h.var a in omega (arith, l, e, b.0))
  ])
  | inr a ↦ absurd (let p : Contains [] (property_in g) = subst (λ (z : List Property). Contains z (property_in g)) (ap (λ w. w.props) a.1 ∙ n) h.props in nothing_in (property_in g) p)
]
  where
    nothing_in : (q : Property) → Contains [] q → ⊥
    nothing_in q h = absurd (omega (arith, h.1))

-- a variable that wasn't there is the last one
bare_rises : (v : Variable) → v.props ≡ [] → Rise (map (λ p. p.name) v.props)
bare_rises v e = subst (λ (z : List Property). Rise (map (λ p. p.name) z)) (sym e) (λ j m. absurd (omega arith))

pub turn_new : (c : Context) (gs : List Given) (keys : List (List ℕ)) (vars : List Variable) (last : ℕ) (name k : List ℕ) (v : Variable) → ((i : ℕ) → slice_get keys i ≡ Some k → ⊥) → v.sort ≡ letters_of k → v.props ≡ [] → IsTable c gs keys vars last name
    → IsTable (record c { key = k }) gs (keys ++ k ∷ []) (vars ++ v ∷ []) (length keys) name
turn_new c gs keys vars last name k v fresh f n t = record {
  even = let a = length-append keys (k ∷ []) in let b = length-append vars (v ∷ []) in omega (arith, a, b, t.even);
  distinct = λ i j l p q. (elim (get_cases keys k i l p) [
    | inl a ↦ (elim (get_cases keys k j l q) [ inl b ↦ t.distinct i j l a b | inr b ↦ absurd (fresh i (a ∙ ap Some b.1)) ])
    | inr a ↦ (elim (get_cases keys k j l q) [ inl b ↦ absurd (fresh j (b ∙ ap Some a.1)) | inr b ↦ a.0 ∙ sym b.0 ])
  ]);
  at_last = λ _. get_last keys k;
  name_is = t.name_is;
  told = λ g. (λ h. has_front keys vars k v g ((t.told g).0 h), λ h. (t.told g).1 (has_back keys vars k v g t.even n h));
  each = λ i l u p q. (elim (get_cases keys k i l p) [
    | inl a ↦ (elim (get_cases vars v i u q) [ inl b ↦ t.each i l u a b | inr b ↦ absurd (let d = slice_get_within keys i l a in let e = t.even in let m = b.0 in omega (arith, d, e, m)) ])
    | inr a ↦ (elim (get_cases vars v i u q) [
      | inl b ↦ absurd (let d = slice_get_within vars i u b in let e = t.even in let m = a.0 in omega (arith, d, e, m))
      | inr b ↦ (ap (λ (z : Variable). z.sort) b.1 ∙ f ∙ ap letters_of (sym a.1), bare_rises u (ap (λ (z : Variable). z.props) b.1 ∙ n))
    ])
  ]);
  agree = t.agree;
}

-- the variable that was read is the last one
pub turned : (c : Context) (gs : List Given) (keys : List (List ℕ)) (vars : List Variable) (last : ℕ) (name k : List ℕ) (keys2 : List (List ℕ)) (vars2 : List Variable) (n : ℕ) → IsGrown keys vars k keys2 vars2 n
    → IsTable c gs keys vars last name → IsTable (record c { key = k }) gs keys2 vars2 n name
turned c gs keys vars last name k keys2 vars2 _ (stays n e p q) t =
    let u = turn_old c gs keys vars last name k n e t in
    subst (λ (z : List (List ℕ)). IsTable (record c { key = k }) gs z vars2 n name) (sym p) (subst (λ (z : List Variable). IsTable (record c { key = k }) gs keys z n name) (sym q) u)
turned c gs keys vars last name k keys2 vars2 _ (grows n e fresh p q) t =
    let v : Variable = record { sort = letters_of k; props = [] } in
    let u = turn_new c gs keys vars last name k v fresh refl refl t in
    subst (λ (z : List (List ℕ)). IsTable (record c { key = k }) gs z vars2 n name) (sym p)
    (subst (λ (z : List Variable). IsTable (record c { key = k }) gs (keys ++ k ∷ []) z n name) (sym q)
    (subst (λ (z : ℕ). IsTable (record c { key = k }) gs (keys ++ k ∷ []) (vars ++ v ∷ []) z name) (sym e) u))

-- only the last variable and the last name of a context count
pub same_context : (c d : Context) (gs : List Given) (keys : List (List ℕ)) (vars : List Variable) (last : ℕ) (name : List ℕ) → d.key ≡ c.key → d.name ≡ c.name → IsTable c gs keys vars last name → IsTable d gs keys vars last name
same_context c d gs keys vars last name e f t = record { even = t.even; distinct = t.distinct; at_last = λ l. t.at_last l ∙ ap Some (sym e); name_is = t.name_is ∙ sym f; told = t.told; each = t.each; agree = t.agree }

pub rename : (c : Context) (gs : List Given) (keys : List (List ℕ)) (vars : List Variable) (last : ℕ) (name n m : List ℕ) → m ≡ n → IsTable c gs keys vars last name → IsTable (record c { name = n }) gs keys vars last m
rename c gs keys vars last name n m e t = record { even = t.even; distinct = t.distinct; at_last = t.at_last; name_is = e; told = t.told; each = t.each; agree = t.agree }

-- what other tokens leave
record Kept (c : Context) (k : Kind) (text : List ℕ) : Type 0 where
  pub key : (after_kind c k text).key ≡ c.key
  pub name : (after_kind c k text).name ≡ c.name
  pub none : gives c k text ≡ []

kept : (c : Context) (k : Kind) (text : List ℕ) → is_variable k ≡ false → k ≢ PropName → k ≢ PropValue → Kept c k text
kept c PropName text v a b = absurd (a refl)
kept c PropValue text v a b = absurd (b refl)
kept c PredRun text v a b = record { key = refl; name = refl; none = refl }
kept c PredText text v a b = record { key = refl; name = refl; none = refl }
kept c Link text v a b = record { key = refl; name = refl; none = refl }
kept c Role text v a b = record { key = refl; name = refl; none = refl }
kept c OpensText text v a b = record { key = refl; name = refl; none = refl }
kept c Text text v a b = record { key = refl; name = refl; none = refl }
kept c EpEnd text v a b = record { key = refl; name = refl; none = refl }
kept c HandleRel text v a b = record { key = refl; name = refl; none = refl }
kept c VariableRel text v a b = record { key = refl; name = refl; none = refl }
kept c _ text v a b = absurd (cc)

record Turns (c : Context) (k : Kind) (text : List ℕ) : Type 0 where
  pub is : after_kind c k text ≡ record c { key = text }
  pub none : gives c k text ≡ []

turns : (c : Context) (k : Kind) (text : List ℕ) → is_variable k ≡ true → Turns c k text
turns c Top text v = record { is = refl; none = refl }
turns c Index text v = record { is = refl; none = refl }
turns c Filler text v = record { is = refl; none = refl }
turns c High text v = record { is = refl; none = refl }
turns c Low text v = record { is = refl; none = refl }
turns c Left text v = record { is = refl; none = refl }
turns c Right text v = record { is = refl; none = refl }
turns c _ text v = absurd (cc)

none_more : (gs hs : List Given) → hs ≡ [] → gs ++ hs ≡ gs
none_more gs hs e = ap (λ l. gs ++ l) e ∙ append-nil gs

pub kept_table : (c : Context) (gs : List Given) (keys : List (List ℕ)) (vars : List Variable) (last : ℕ) (name : List ℕ) (k : Kind) (text : List ℕ) → is_variable k ≡ false → k ≢ PropName → k ≢ PropValue
    → IsTable c gs keys vars last name → IsTable (after_kind c k text) (gs ++ gives c k text) keys vars last name
kept_table c gs keys vars last name k text v a b t =
    let w = kept c k text v a b in
    subst (λ (z : List Given). IsTable (after_kind c k text) z keys vars last name) (sym (none_more gs (gives c k text) w.none)) (same_context c (after_kind c k text) gs keys vars last name w.key w.name t)

pub turned_table : (c : Context) (gs : List Given) (keys : List (List ℕ)) (vars : List Variable) (last : ℕ) (name : List ℕ) (k : Kind) (text : List ℕ) (keys2 : List (List ℕ)) (vars2 : List Variable) (n : ℕ) → is_variable k ≡ true
    → IsGrown keys vars text keys2 vars2 n → IsTable c gs keys vars last name → IsTable (after_kind c k text) (gs ++ gives c k text) keys2 vars2 n name
turned_table c gs keys vars last name k text keys2 vars2 n v g t =
    let w = turns c k text v in
    subst (λ (z : List Given). IsTable (after_kind c k text) z keys2 vars2 n name) (sym (none_more gs (gives c k text) w.none))
    (subst (λ (z : Context). IsTable z gs keys2 vars2 n name) (sym w.is) (turned c gs keys vars last name text keys2 vars2 n g t))

pub named_table : (c : Context) (gs : List Given) (keys : List (List ℕ)) (vars : List Variable) (last : ℕ) (name : List ℕ) (k : Kind) (text m : List ℕ) → k ≡ PropName → m ≡ text
    → IsTable c gs keys vars last name → IsTable (after_kind c k text) (gs ++ gives c k text) keys vars last m
named_table c gs keys vars last name k text m e f t =
    subst (λ (z : Kind). IsTable (after_kind c z text) (gs ++ gives c z text) keys vars last m) (sym e)
    (subst (λ (z : List Given). IsTable (record c { name = text }) z keys vars last m) (sym (append-nil gs)) (rename c gs keys vars last name text m f t))

-- a new table holds nothing
pub empty_table : (c : Context) (keys : List (List ℕ)) (vars : List Variable) (last : ℕ) (name : List ℕ) → keys ≡ [] → vars ≡ [] → name ≡ c.name → IsTable c [] keys vars last name
empty_table c keys vars last name e f n =
    subst (λ (z : List (List ℕ)). IsTable c [] z vars last name) (sym e) (subst (λ (z : List Variable). IsTable c [] [] z last name) (sym f) (record {
      even = refl;
      distinct = λ i j k p q. absurd (let l = slice_get_within [] i k p in omega (arith, l));
      at_last = λ l. absurd (omega arith);
      name_is = n;
      told = λ g. (λ h. absurd (omega (arith, h.1)), λ h. absurd (let l = slice_get_within [] h.place g.key h.key in omega (arith, l)));
      each = λ i k v p q. absurd (let l = slice_get_within [] i k p in omega (arith, l));
      agree = λ g h p. absurd (omega (arith, p.1));
    }))

-- where the last variable has a property, it was given for it; where it has none of the name, none was given
pub was_given : (c : Context) (gs : List Given) (keys : List (List ℕ)) (vars : List Variable) (last : ℕ) (name value : List ℕ) (v : Variable) → slice_get keys last ≡ Some c.key → slice_get vars last ≡ Some v → HasOther v.props (record { name = c.name; value = value })
    → IsTable c gs keys vars last name → BreaksIn c gs PropValue value
was_given c gs keys vars last name value v k a h t =
    other_value value (record { key = c.key; name = h.other.name; value = h.other.value }) ((t.told (record { key = c.key; name = h.other.name; value = h.other.value })).1 (record { place = last; var = v; key = k; at = a; props = h.there })) refl h.name h.value

-- what was given for the last variable is among its properties
pub among_last : (c : Context) (gs : List Given) (keys : List (List ℕ)) (vars : List Variable) (last : ℕ) (name : List ℕ) (v : Variable) (g : Given) → slice_get keys last ≡ Some c.key → slice_get vars last ≡ Some v → g.key ≡ c.key → Contains gs g
    → IsTable c gs keys vars last name → Contains v.props (property_in g)
among_last c gs keys vars last name v g k a e h t =
    let w = (t.told g).0 h in
    let i : w.place ≡ last = t.distinct w.place last c.key (w.key ∙ ap Some e) k in
    let u : w.var ≡ v = same_Some w.var v (sym w.at ∙ ap (λ n. slice_get vars n) i ∙ a) in
    subst (λ (z : Variable). Contains z.props (property_in g)) u w.props

-- what a list has to which something was added
pub inserted : {T : Type 0} (xs : List T) (i : ℕ) (x y : T) → Contains (insert xs i x) y ↔ (Contains xs y ⊎ (x ≡ y))
inserted {T} xs i x y = (
  λ h. (elim (Contains-append_cases (take i xs) (x ∷ drop i xs) y h) [
    | inl a ↦ inl (whole (Contains-append_left (take i xs) (drop i xs) y a))
    | inr a ↦ (elim (Contains-append_cases (x ∷ []) (drop i xs) y a) [
      | inl b ↦ inr (one b)
      | inr b ↦ inl (whole (Contains-append_right (take i xs) (drop i xs) y b))
    ])
  ]),
  λ h. (elim h [
    | inl a ↦ (elim (Contains-append_cases (take i xs) (drop i xs) y (subst (λ (l : List T). Contains l y) (sym (take-append-drop i xs)) a)) [
      | inl b ↦ Contains-append_left (take i xs) (x ∷ drop i xs) y b
      | inr b ↦ Contains-append_right (take i xs) (x ∷ drop i xs) y (Contains-append_right (x ∷ []) (drop i xs) y b)
    ])
    | inr e ↦ Contains-append_right (take i xs) (x ∷ drop i xs) y (Contains-append_left (x ∷ []) (drop i xs) y (subst (Contains (x ∷ [])) e (Contains-push [] x)))
  ]),
)
  where
    whole : Contains (take i xs ++ drop i xs) y → Contains xs y
    whole h = subst (λ (l : List T). Contains l y) (take-append-drop i xs) h

    one : Contains (x ∷ []) y → x ≡ y
    one h = elim (Contains-push_cases [] x y h) [ inl a ↦ absurd (omega (arith, a.1)) | inr e ↦ e ]

members : (old : List Property) (p : Property) (new : List Property) → IsGivenTo old p new → (q : Property) → Contains new q ↔ (Contains old q ⊎ (p ≡ q))
members old p new (there h e) q = (λ k. inl (subst (λ (l : List Property). Contains l q) e k), λ k. (elim k [ inl a ↦ subst (λ (l : List Property). Contains l q) (sym e) a | inr f ↦ subst (λ (l : List Property). Contains l q) (sym e) (subst (Contains old) f h) ]))
members old p new (added h a) q = (
  λ k. (inserted old a.place p q).0 (subst (λ (l : List Property). Contains l q) a.is k),
  λ k. subst (λ (l : List Property). Contains l q) (sym a.is) ((inserted old a.place p q).1 k),
)

-- no other value was given for a property that is given now
pub no_other : (c : Context) (gs : List Given) (keys : List (List ℕ)) (vars : List Variable) (last : ℕ) (name value : List ℕ) (v : Variable) (new : List Property) → slice_get keys last ≡ Some c.key → slice_get vars last ≡ Some v
    → IsGivenTo v.props (record { name = c.name; value = value }) new → IsTable c gs keys vars last name → (g : Given) → Contains gs g → g.key ≡ c.key → g.name ≡ c.name → g.value ≡ value
no_other c gs keys vars last name value v new k a (there h e) t g p q r =
    let f : Given = record { key = c.key; name = c.name; value = value } in
    t.agree g f p ((t.told f).1 (record { place = last; var = v; key = k; at = a; props = h })) q r
no_other c gs keys vars last name value v new k a (added h e) t g p q r = absurd (h (property_in g) (among_last c gs keys vars last name v g k a q p t) r)

pub keeps_value : (c : Context) (gs : List Given) (keys : List (List ℕ)) (vars : List Variable) (last : ℕ) (name value : List ℕ) (v : Variable) (new : List Property) → slice_get keys last ≡ Some c.key → slice_get vars last ≡ Some v
    → IsGivenTo v.props (record { name = c.name; value = value }) new → IsTable c gs keys vars last name → BreaksIn c gs PropValue value → ⊥
keeps_value c gs keys vars last name value v new k a h t b = let w = at_value_breaks c gs PropValue value refl b in w.value (no_other c gs keys vars last name value v new k a h t w.other w.there w.key w.name)

set_same : {A : Type 0} (xs : List A) (i : ℕ) (x y : A) → slice_get xs i ≡ Some x → slice_get (set xs i y) i ≡ Some y
set_same [] i x y e = absurd (cc)
set_same (z ∷ xs) zero x y e = refl
set_same (z ∷ xs) (suc i) x y e = set_same xs i x y e

set_other : {A : Type 0} (xs : List A) (i j : ℕ) (y : A) → (j ≡ i → ⊥) → slice_get (set xs i y) j ≡ slice_get xs j
set_other [] i j y h = refl
set_other (z ∷ xs) zero zero y h = absurd (h refl)
set_other (z ∷ xs) zero (suc j) y h = refl
set_other (z ∷ xs) (suc i) zero y h = refl
set_other (z ∷ xs) (suc i) (suc j) y h = set_other xs i j y (λ e. h (ap suc e))

set_length : {A : Type 0} (xs : List A) (i : ℕ) (y : A) → length (set xs i y) ≡ length xs
set_length [] i y = refl
set_length (z ∷ xs) zero y = refl
set_length (z ∷ xs) (suc i) y = ap suc (set_length xs i y)

same_given : (g h : Given) → g.key ≡ h.key → g.name ≡ h.name → g.value ≡ h.value → g ≡ h
same_given g h a b c = rw (a, b, c)

rise_given : (old : List Property) (p : Property) (new : List Property) → IsGivenTo old p new → Rise (map (λ p. p.name) old) → Rise (map (λ p. p.name) new)
rise_given old p new (there h e) r = subst (λ (z : List Property). Rise (map (λ p. p.name) z)) (sym e) r
rise_given old p new (added h a) r = rise_added (λ (q : Property). q.name) old p new a h r

-- the last variable has a property more
pub given_table : (c : Context) (gs : List Given) (keys : List (List ℕ)) (vars : List Variable) (last : ℕ) (name value : List ℕ) (v w : Variable) → slice_get keys last ≡ Some c.key → slice_get vars last ≡ Some v
    → IsGivenTo v.props (record { name = c.name; value = value }) w.props → w.sort ≡ v.sort → IsTable c gs keys vars last name
    → IsTable c (gs ++ record { key = c.key; name = c.name; value = value } ∷ []) keys (set vars last w) last name
given_table c gs keys vars last name value v w k a h o t = record {
  even = set_length vars last w ∙ t.even;
  distinct = t.distinct;
  at_last = t.at_last;
  name_is = t.name_is;
  told = λ g. (
    λ q. (elim (Contains-push_cases gs (record { key = c.key; name = c.name; value = value }) g q) [
      | inl r ↦ stay g ((t.told g).0 r)
      | inr e ↦ subst (λ (z : Given). Has keys (set vars last w) z) e (record { place = last; var = w; key = k; at = set_same vars last v w a; props = (members v.props (record { name = c.name; value = value }) w.props h (record { name = c.name; value = value })).1 (inr refl) })
    ]),
    back g,
  );
  each = λ i l u p q. (elim (cases_eq i last) [
    | inl e ↦ (let x : u ≡ w = same_Some u w (sym q ∙ ap (slice_get (set vars last w)) e ∙ set_same vars last v w a) in
        let y : slice_get keys last ≡ Some l = ap (slice_get keys) (sym e) ∙ p in
        let z = t.each last l v y a in
        subst (λ (z : Variable). (z.sort ≡ letters_of l) × Rise (map (λ p. p.name) z.props)) (sym x) (o ∙ z.0, rise_given v.props (record { name = c.name; value = value }) w.props h z.1))
    | inr n ↦ t.each i l u p (sym (set_other vars last i w n) ∙ q)
  ]);
  agree = λ f g p q e n. (elim (Contains-push_cases gs (record { key = c.key; name = c.name; value = value }) f p) [
    | inl r ↦ (elim (Contains-push_cases gs (record { key = c.key; name = c.name; value = value }) g q) [
      | inl u ↦ t.agree f g r u e n
      | inr u ↦ no_other c gs keys vars last name value v w.props k a h t f r (e ∙ sym (ap (λ z. z.key) u)) (n ∙ sym (ap (λ z. z.name) u)) ∙ ap (λ z. z.value) u
    ])
    | inr r ↦ (elim (Contains-push_cases gs (record { key = c.key; name = c.name; value = value }) g q) [
      | inl u ↦ sym (ap (λ z. z.value) r) ∙ sym (no_other c gs keys vars last name value v w.props k a h t g u (sym e ∙ sym (ap (λ z. z.key) r)) (sym n ∙ sym (ap (λ z. z.name) r)))
      | inr u ↦ sym (ap (λ z. z.value) r) ∙ ap (λ z. z.value) u
    ])
  ]);
}
  where
    stay : (g : Given) → Has keys vars g → Has keys (set vars last w) g
    stay g q = elim (cases_eq q.place last) [
      | inl e ↦ (let u : q.var ≡ v = same_Some q.var v (sym q.at ∙ ap (slice_get vars) e ∙ a) in
          record {
            place = last;
            var = w;
            key = ap (slice_get keys) (sym e) ∙ q.key;
            at = set_same vars last v w a;
            props = (members v.props (record { name = c.name; value = value }) w.props h (property_in g)).1 (inl (subst (λ (z : Variable). Contains z.props (property_in g)) u q.props));
          })
      | inr n ↦ record { place = q.place; var = q.var; key = q.key; at = set_other vars last q.place w n ∙ q.at; props = q.props }
    ]

    back : (g : Given) → Has keys (set vars last w) g → Contains (gs ++ record { key = c.key; name = c.name; value = value } ∷ []) g
    back g q = elim (cases_eq q.place last) [
      | inl e ↦ (let u : q.var ≡ w = same_Some q.var w (sym q.at ∙ ap (slice_get (set vars last w)) e ∙ set_same vars last v w a) in
          let i : g.key ≡ c.key = same_Some g.key c.key (sym q.key ∙ ap (slice_get keys) e ∙ k) in
          elim ((members v.props (record { name = c.name; value = value }) w.props h (property_in g)).0 (subst (λ (z : Variable). Contains z.props (property_in g)) u q.props)) [
            | inl r ↦ Contains-append_left gs (record { key = c.key; name = c.name; value = value } ∷ []) g ((t.told g).1 (record { place = last; var = v; key = k ∙ ap Some (sym i); at = a; props = r }))
            | inr r ↦ subst (Contains (gs ++ record { key = c.key; name = c.name; value = value } ∷ [])) (same_given (record { key = c.key; name = c.name; value = value }) g (sym i) (ap (λ z. z.name) r) (ap (λ z. z.value) r)) (Contains-push gs (record { key = c.key; name = c.name; value = value }))
          ])
      | inr n ↦ Contains-append_left gs (record { key = c.key; name = c.name; value = value } ∷ []) g ((t.told g).1 (record { place = q.place; var = q.var; key = q.key; at = sym (set_other vars last q.place w n) ∙ q.at; props = q.props }))
    ]
