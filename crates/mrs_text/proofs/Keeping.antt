-- No token that is written breaks a condition.
use Rattle.std.proofs.Common.{◌≡◌, ◌≢◌, ℕ, suc, ◌+◌, ◌∙◌, ◌<◌, ◌⊎◌, inl, inr, Bool, true, false, List, [], ◌∷◌, ◌++◌, map, refl, ap, sym, subst, append_assoc, append-nil, length, nat_lt, ◌&&◌, if◌then◌else◌, codes, Option, Some, None, decimal, arith}
use Rattle.std.specs.List.{Contains, All, flat_map, list_all}
use Rattle.std.specs.Str.{chars, str_to_ascii_lowercase}
use Rattle.std.proofs.lemmas.List.Elements.{All-head, All-tail, Contains-append_left, Contains-append_right, Contains-append_cases}
use Rattle.mrs_model.specs.declared.Extent.{Extent}
use Rattle.mrs_model.specs.Meanings.{Property, Variable, Filler as Filled, of_var, of_text, Argument, Predication, Constraint, Meaning}
use Rattle.std.specs.Prelude.{slice_index_or}
use Rattle.std.specs.declared.cmp.Ordering.TheVariants.{Less, Greater}
use Rattle.std.specs.Cmp.Lexicographic.{slice_cmp, nat_list_cmp_total}
use Rattle.std.specs.Ordering.{nat_cmp, ordering_reverse}
use Rattle.mrs_model.specs.Valid.{Rise, IsFiller, IsProperty, IsArgument, IsPredication, IsConstraint}
use Rattle.mrs_spelling.specs.declared.kinds.Kind.{Kind}
use Rattle.mrs_spelling.specs.declared.kinds.Kind.TheVariants.{Top, Index, PropName, PropValue, PredRun, PredText, Link, Role, Filler, OpensText, Text, EpEnd, High, HandleRel, Low, Left, VariableRel, Right}
use Rattle.mrs_spelling.specs.Conditions.{Word, Given, Context, after_kind, gives, given_after, context_after, nothing_before, BreaksIn, AllKeep}
use Rattle.mrs_reading.specs.Meaning.{as_word, is_variable}
use Rattle.mrs_reading.proofs.Naming.{may_break, on_roles, roles_stay, never_breaks, at_role_breaks, at_end_breaks, at_text_breaks, at_value_breaks}
use Rattle.mrs_reading.proofs.Predicated.{nothing_in}
use Rattle.mrs_reading.proofs.Moves.{first_or_other, is_first, is_other}
use Rattle.mrs_text.specs.Signs.{in_pred as is_in_pred}
use Rattle.mrs_text.specs.Written.{upper, escaped, variable_at, place_of, seen_after}
use Rattle.mrs_text.specs.Stored.{IsStoredProperty, IsStoredArgument, IsStoredPredication}
use Rattle.mrs_text.proofs.Taking.{map_join}
use Rattle.mrs_text.proofs.Uppers.{lower_upper}
use Rattle.mrs_text.proofs.Steps.{Step, say, at, number_of, property_pieces, given_pieces, pieces, filler_step, args_then, pred_piece, link_pieces, roles_of, ep_then, eps_then, constraints_then, icons_then, last_step, ending_steps, steps}
use Rattle.mrs_text.proofs.SeenLemmas.{not_placed}
use Rattle.mrs_text.proofs.Ranks.{seen_end, key, Longer, ends_longer, number_is}
use Rattle.mrs_text.proofs.Giving.{is_value, words, variable_does, calm_gives}

-- the same from the left: each word keeps them by what was before it
abbrev pub Keeps : Context → List Given → List Word → Type 0
Keeps c gs [] = Unit {0}
Keeps c gs (w ∷ ws) = (BreaksIn c gs w.kind w.text → ⊥) × Keeps (after_kind c w.kind w.text) (gs ++ gives c w.kind w.text) ws

keeps_at : (before after : List Word) (w : Word) (c : Context) (gs : List Given) → Keeps c gs (before ++ w ∷ after) → BreaksIn (context_after c before) (gs ++ given_after c before) w.kind w.text → ⊥
keeps_at [] after w c gs k b = k.0 (subst (λ (z : List Given). BreaksIn c z w.kind w.text) (append-nil gs) b)
keeps_at (x ∷ before) after w c gs k b =
    let d = after_kind c x.kind x.text in
    let hs = gs ++ gives c x.kind x.text in
    keeps_at before after w d hs k.1 (subst (λ (z : List Given). BreaksIn (context_after d before) z w.kind w.text) (sym (append_assoc gs (gives c x.kind x.text) (given_after d before))) b)

pub all_keep : (ws : List Word) → Keeps nothing_before [] ws → AllKeep ws
all_keep ws k = λ before after w e b. keeps_at before after w nothing_before [] (subst (Keeps nothing_before []) e k) b

pub all_at : {A : Type 0} (P : A → Type 0) (xs : List A) (x : A) → All P xs → Contains xs x → P x
all_at P [] x h c = absurd (nothing_in x c)
all_at P (y ∷ xs) x h c = elim (first_or_other y xs x c) [
  | inl e ↦ subst P e (All-head P y xs h)
  | inr d ↦ all_at P xs x (All-tail P y xs h) d
]

-- names that rise are apart
abbrev Before : List ℕ → List ℕ → Type 0
Before a b = slice_cmp nat_cmp a b ≡ Less

not_self : (a : List ℕ) → Before a a → ⊥
not_self a h = let e = nat_list_cmp_total.antisymm a a in let f : slice_cmp nat_cmp a a ≡ Greater = e ∙ ap ordering_reverse h in cc

pub rise_rest : (n : List ℕ) (ns : List (List ℕ)) → Rise (n ∷ ns) → Rise ns
rise_rest n ns r k l =
    let e : suc k + 1 ≡ suc (k + 1) = omega arith in
    subst (λ (j : ℕ). slice_cmp nat_cmp (slice_index_or (n ∷ ns) (suc k) []) (slice_index_or (n ∷ ns) j []) ≡ Less) e (r (suc k) (omega (arith, l)))

module _ {X : Type 0} (name : X → List ℕ) where
  later : (x : X) (xs : List X) → Rise (map name (x ∷ xs)) → (y : X) → Contains xs y → Before (name x) (name y)
  later x [] r y h = absurd (nothing_in y h)
  later x (z ∷ xs) r y h = elim (first_or_other z xs y h) [
    | inl e ↦ subst (λ (w : X). Before (name x) (name w)) e (r 0 (omega arith))
    | inr k ↦ nat_list_cmp_total.trans (name x) (name z) (name y) (r 0 (omega arith)) (later z xs (rise_rest (name x) (map name (z ∷ xs)) r) y k)
  ]

  pub rise_apart : (x : X) (xs : List X) → Rise (map name (x ∷ xs)) → (y : X) → Contains xs y → name x ≢ name y
  rise_apart x xs r y h = λ e. not_self (name y) (subst (λ (z : List ℕ). Before z (name y)) e (later x xs r y h))

-- a property list
keep_list : (Base : Given → Type 0) (k : List ℕ) (roles : List (List ℕ)) (rest : List Word) → ((d : Context) (hs : List Given) → d.roles ≡ roles → ((g : Given) → Contains hs g → Base g ⊎ (g.key ≡ k)) → Keeps d hs rest)
    → (ps : List Property) (c : Context) (gs : List Given) → c.roles ≡ roles → c.key ≡ k → All IsProperty ps → All IsStoredProperty ps → Rise (map (λ (p : Property). p.name) ps)
    → ((g : Given) → Contains gs g → g.key ≡ k → (p : Property) → Contains ps p → g.name ≢ p.name) → ((g : Given) → Contains gs g → Base g ⊎ (g.key ≡ k)) → Keeps c gs (words (flat_map property_pieces ps) ++ rest)
keep_list Base k roles rest on [] c gs e f h s r n b = on c gs e b
keep_list Base k roles rest on (p ∷ ps) c gs e f h s r n b =
    let x = All-head IsProperty p ps h in
    let y = All-head IsStoredProperty p ps s in
    let t = str_to_ascii_lowercase (upper p.name) in
    let i : t ≡ p.name = lower_upper p.name x.name y.name in
    let d : Context = record c { name = t } in
    let v = str_to_ascii_lowercase p.value in
    let new : Given = record { key = c.key; name = t; value = v } in
    let old : (g : Given) → Contains (gs ++ []) g → Contains gs g = λ g m. subst (λ (z : List Given). Contains z g) (append-nil gs) m in (
      λ z. never_breaks c gs PropName t refl z,
      (
        λ z. (let w = at_value_breaks d (gs ++ []) PropValue v refl z in n w.other (old w.other w.there) (w.key ∙ f) p (is_first p ps) (w.name ∙ i)),
        keep_list Base k roles rest on ps d ((gs ++ []) ++ new ∷ []) e f (All-tail IsProperty p ps h) (All-tail IsStoredProperty p ps s) (rise_rest p.name (map (λ (p : Property). p.name) ps) r)
            (λ g m j q u. elim (Contains-append_cases (gs ++ []) (new ∷ []) g m) [
              | inl a ↦ n g (old g a) j q (is_other p ps q u)
              | inr a ↦ (elim (first_or_other new [] g a) [
                | inl w ↦ (λ z. rise_apart (λ (p : Property). p.name) p ps r q u (sym i ∙ ap (λ (g : Given). g.name) w ∙ z))
                | inr w ↦ absurd (nothing_in g w)
              ])
            ])
            (λ g m. elim (Contains-append_cases (gs ++ []) (new ∷ []) g m) [
              | inl a ↦ b g (old g a)
              | inr a ↦ (elim (first_or_other new [] g a) [
                | inl w ↦ inr (sym (ap (λ (g : Given). g.key) w) ∙ f)
                | inr w ↦ absurd (nothing_in g w)
              ])
            ]),
      ),
    )

variable_calm : (k : Kind) → is_variable k ≡ true → may_break k ≡ false
variable_calm Top e = refl
variable_calm Index e = refl
variable_calm Filler e = refl
variable_calm High e = refl
variable_calm Low e = refl
variable_calm Left e = refl
variable_calm Right e = refl
variable_calm _ e = absurd (cc)

last_is : (xs ys : List (List ℕ)) (a b : List ℕ) → xs ++ a ∷ [] ≡ ys ++ b ∷ [] → a ≡ b
last_is [] [] a b e = cc
last_is [] (y ∷ []) a b e = absurd (cc)
last_is [] (y ∷ z ∷ ys) a b e = absurd (cc)
last_is (x ∷ []) [] a b e = absurd (cc)
last_is (x ∷ z ∷ xs) [] a b e = absurd (cc)
last_is (x ∷ xs) (y ∷ ys) a b e = last_is xs ys a b (cc)

module _ (vars : List Variable) (order : List ℕ) (n : ℕ) (low_is : (v : ℕ) → v < n → str_to_ascii_lowercase (key vars order v) ≡ key vars order v)
    (good : (v : ℕ) → v < n → All IsProperty (variable_at vars v).props × All IsStoredProperty (variable_at vars v).props × Rise (map (λ (p : Property). p.name) (variable_at vars v).props))
    (one_key : (v w : ℕ) → v < n → w < n → key vars order v ≡ key vars order w → v ≡ w) where
  pub record GivenBy (seen : List ℕ) (g : Given) : Type 0 where
    pub by : ℕ
    pub there : Contains seen by
    pub small : by < n
    pub key_is : g.key ≡ key vars order by

  abbrev pub Safe : List (List ℕ) → List ℕ → List Step → Type 0
  Safe roles seen ss = (c : Context) (gs : List Given) → c.roles ≡ roles → ((g : Given) → Contains gs g → GivenBy seen g) → Keeps c gs (words (pieces vars seen ss))

  -- at every place where the variables end as they do
  abbrev pub Free : List (List ℕ) → List Step → Type 0
  Free roles ss = (seen : List ℕ) → seen_end seen ss ≡ order → Safe roles seen ss

  free_at : (roles : List (List ℕ)) (k : Kind) (v : ℕ) (ss : List Step) → is_variable k ≡ true → v < n → Free roles ss → Free roles (at k v ∷ ss)
  free_at roles k v ss q l on seen end c gs e b =
      let u = seen_after (place_of v seen) seen v in
      let a = number_is seen order v (subst (Longer u) end (ends_longer u ss)) in
      let t = (variable_at vars v).sort ++ decimal (number_of (place_of v seen) (length seen)) in
      let i : t ≡ key vars order v = ap (λ z. (variable_at vars v).sort ++ decimal z) a in
      let s = str_to_ascii_lowercase t in
      let j : s ≡ key vars order v = ap str_to_ascii_lowercase i ∙ low_is v l in
      let f = variable_does k c s q in
      let d : Context = record c { key = s } in
      let props = (variable_at vars v).props in (
        λ z. never_breaks c gs k s (variable_calm k q) z,
        subst (λ (z : Context). Keeps z (gs ++ gives c k s) (words (given_pieces (place_of v seen) props ++ pieces vars u ss))) (sym f.1)
            (subst (λ (z : List Given). Keeps d (gs ++ z) (words (given_pieces (place_of v seen) props ++ pieces vars u ss))) (sym f.0)
            (subst (Keeps d (gs ++ [])) (sym (map_join as_word (given_pieces (place_of v seen) props) (pieces vars u ss)))
            (subst (λ (z : List Given). Keeps d z (words (given_pieces (place_of v seen) props) ++ words (pieces vars u ss))) (sym (append-nil gs)) (after (place_of v seen) refl j)))),
      )
    where
      after : (o : Option ℕ) → place_of v seen ≡ o → str_to_ascii_lowercase ((variable_at vars v).sort ++ decimal (number_of (place_of v seen) (length seen))) ≡ key vars order v
          → Keeps (record c { key = str_to_ascii_lowercase ((variable_at vars v).sort ++ decimal (number_of (place_of v seen) (length seen))) }) gs (words (given_pieces o (variable_at vars v).props) ++ words (pieces vars (seen_after o seen v) ss))
      after (Some i) h j = on seen (subst (λ (o : Option ℕ). seen_end (seen_after o seen v) ss ≡ order) h end) (record c { key = str_to_ascii_lowercase ((variable_at vars v).sort ++ decimal (number_of (place_of v seen) (length seen))) }) gs e b
      after None h j =
          let g = good v l in
          let u = seen ++ v ∷ [] in
          keep_list (GivenBy seen) (key vars order v) roles (words (pieces vars u ss))
          (λ d hs r m. on u (subst (λ (o : Option ℕ). seen_end (seen_after o seen v) ss ≡ order) h end) d hs r (λ x y. elim (m x y) [
            | inl p ↦ record { by = p.by; there = Contains-append_left seen (v ∷ []) p.by p.there; small = p.small; key_is = p.key_is }
            | inr p ↦ record { by = v; there = Contains-append_right seen (v ∷ []) v (is_first v []); small = l; key_is = p }
          ]))
          (variable_at vars v).props (record c { key = str_to_ascii_lowercase ((variable_at vars v).sort ++ decimal (number_of (place_of v seen) (length seen))) }) gs e j g.0 g.1 g.2
          (λ x y z p w. absurd (let m = b x y in not_placed v seen h (subst (Contains seen) (one_key m.by v m.small l (sym m.key_is ∙ z)) m.there)))
          (λ x y. inl (b x y))

  abbrev On : List (List ℕ) → List ℕ → List Word → Type 0
  On roles seen rest = (c : Context) (gs : List Given) → c.roles ≡ roles → ((g : Given) → Contains gs g → GivenBy seen g) → Keeps c gs rest

  on_calm : (roles : List (List ℕ)) (seen : List ℕ) (k : Kind) (t : List ℕ) (rest : List Word) → may_break k ≡ false → on_roles k ≡ false → is_value k ≡ false → On roles seen rest → On roles seen (record { kind = k; text = t } ∷ rest)
  on_calm roles seen k t rest p q r on c gs e b = (
    λ z. never_breaks c gs k t p z,
    on (after_kind c k t) (gs ++ gives c k t) (roles_stay c k t q ∙ e) (λ g m. b g (subst (λ (z : List Given). Contains z g) (ap (λ z. gs ++ z) (calm_gives k c t r) ∙ append-nil gs) m)),
  )

  on_role : (roles : List (List ℕ)) (seen : List ℕ) (t : List ℕ) (rest : List Word) → (Contains roles t → ⊥) → On (roles ++ t ∷ []) seen rest → On roles seen (record { kind = Role; text = t } ∷ rest)
  on_role roles seen t rest n on c gs e b = (
    λ z. n (subst (λ (z : List (List ℕ)). Contains z t) e (at_role_breaks c gs Role t refl z)),
    on (record c { roles = c.roles ++ t ∷ [] }) (gs ++ []) (ap (λ z. z ++ t ∷ []) e) (λ g m. b g (subst (λ (z : List Given). Contains z g) (append-nil gs) m)),
  )

  on_text : (roles : List (List ℕ)) (seen : List ℕ) (r x y : List ℕ) (rest : List Word) → r ≢ codes "lbl" → On (roles ++ r ∷ []) seen rest → On (roles ++ r ∷ []) seen (record { kind = OpensText; text = x } ∷ record { kind = Text; text = y } ∷ rest)
  on_text roles seen r x y rest n on c gs e b = (
    λ z. (let w = at_text_breaks c gs OpensText x refl z in n (last_is roles w.0 r (codes "lbl") (sym e ∙ w.1))),
    on_calm (roles ++ r ∷ []) seen Text y rest refl refl refl on c (gs ++ []) e (λ g m. b g (subst (λ (z : List Given). Contains z g) (append-nil gs) m)),
  )

  on_end : (roles : List (List ℕ)) (seen : List ℕ) (t : List ℕ) (rest : List Word) → Contains roles (codes "lbl") → On roles seen rest → On roles seen (record { kind = EpEnd; text = t } ∷ rest)
  on_end roles seen t rest h on c gs e b = (
    λ z. at_end_breaks c gs EpEnd t refl z (subst (λ (z : List (List ℕ)). Contains z (codes "lbl")) (sym e) h),
    on c (gs ++ []) e (λ g m. b g (subst (λ (z : List Given). Contains z g) (append-nil gs) m)),
  )

  on_pred : (roles : List (List ℕ)) (seen : List ℕ) (p : List ℕ) (rest : List Word) → On [] seen rest → On roles seen (as_word (pred_piece p) ∷ rest)
  on_pred roles seen p rest on = by (nat_lt 0 (length p) && list_all is_in_pred (chars p))
    where
      by : (b : Bool) → On roles seen (as_word (if b then record { kind = PredRun; text = p } else record { kind = PredText; text = flat_map escaped p }) ∷ rest)
      by true c gs e b = (λ z. never_breaks c gs PredRun (str_to_ascii_lowercase p) refl z, on (record c { roles = [] }) (gs ++ []) refl (λ g m. b g (subst (λ (z : List Given). Contains z g) (append-nil gs) m)))
      by false c gs e b = (λ z. never_breaks c gs PredText (str_to_ascii_lowercase (flat_map escaped p)) refl z, on (record c { roles = [] }) (gs ++ []) refl (λ g m. b g (subst (λ (z : List Given). Contains z g) (append-nil gs) m)))

  on_link : (seen : List ℕ) (o : Option Extent) (rest : List Word) → On [] seen rest → On [] seen (words (link_pieces o) ++ rest)
  on_link seen None rest on = on
  on_link seen (Some e) rest on = on_calm [] seen Link (str_to_ascii_lowercase (decimal e.from ++ 58 ∷ decimal e.to)) rest refl refl refl on

  free_filler : (roles : List (List ℕ)) (r : List ℕ) (f : Filled) (tail : List Step) → r ≢ codes "lbl" → IsFiller n f → Free (roles ++ r ∷ []) tail → Free (roles ++ r ∷ []) (filler_step f ∷ tail)
  free_filler roles r (of_var v) tail d l on seen end = free_at (roles ++ r ∷ []) Filler v tail refl l on seen end
  free_filler roles r (of_text t) tail d l on seen end = on_text roles seen r (34 ∷ []) (str_to_ascii_lowercase (flat_map escaped t)) (words (pieces vars seen tail)) d (on seen end)

  free_args : (xs : List Argument) (roles : List (List ℕ)) (tail : List Step) → All (IsArgument n) xs → All IsStoredArgument xs → Rise (map (λ (a : Argument). a.role) xs) → ((a : Argument) → Contains xs a → Contains roles a.role → ⊥)
      → Free (roles ++ map (λ (a : Argument). a.role) xs) tail → Free roles (args_then xs tail)
  free_args [] roles tail h s r f on seen end = subst (λ (z : List (List ℕ)). Free z tail) (append-nil roles) on seen end
  free_args (a ∷ xs) roles tail h s r f on seen end =
      let p = All-head (IsArgument n) a xs h in
      let q = All-head IsStoredArgument a xs s in
      let names = map (λ (a : Argument). a.role) xs in
      let more : Free (roles ++ a.role ∷ []) (args_then xs tail) = free_args xs (roles ++ a.role ∷ []) tail (All-tail (IsArgument n) a xs h) (All-tail IsStoredArgument a xs s) (rise_rest a.role names r)
      (λ b m c. elim (Contains-append_cases roles (a.role ∷ []) b.role c) [
        | inl d ↦ f b (is_other a xs b m) d
        | inr d ↦ (elim (first_or_other a.role [] b.role d) [ inl e ↦ rise_apart (λ (a : Argument). a.role) a xs r b m e | inr e ↦ nothing_in b.role e ])
      ])
      (subst (λ (z : List (List ℕ)). Free z tail) (sym (append_assoc roles (a.role ∷ []) names)) on) in
      let rest = words (pieces vars seen (filler_step a.filler ∷ args_then xs tail)) in
      subst (λ (z : List ℕ). On roles seen (record { kind = Role; text = z } ∷ rest)) (sym (lower_upper a.role p.role q.role))
      (on_role roles seen a.role rest (f a (is_first a xs)) (free_filler roles a.role a.filler (args_then xs tail) p.not_label p.filler more seen end))

  free_ep : (e : Predication) (tail : List Step) (roles : List (List ℕ)) → IsPredication n e → IsStoredPredication e → ((rs : List (List ℕ)) → Free rs tail) → Free roles (ep_then e tail)
  free_ep e tail roles h s on seen end =
      let closing = say (codes " ]") (record { kind = EpEnd; text = 93 ∷ [] } ∷ []) ∷ tail in
      let lbl = codes "lbl" in
      let names = map (λ (a : Argument). a.role) e.args in
      let closes : Free (lbl ∷ names) closing = λ u w. on_end (lbl ∷ names) u (93 ∷ []) (words (pieces vars u tail)) (is_first lbl names) (on (lbl ∷ names) u w) in
      let args : Free (lbl ∷ []) (args_then e.args closing) = free_args e.args (lbl ∷ []) closing h.args s.args h.order (λ a m c. elim (first_or_other lbl [] a.role c) [
        | inl i ↦ (all_at (IsArgument n) e.args a h.args m).not_label (sym i)
        | inr i ↦ nothing_in a.role i
      ]) closes in
      let label : Free (lbl ∷ []) (at Filler e.label ∷ args_then e.args closing) = free_at (lbl ∷ []) Filler e.label (args_then e.args closing) refl h.label args in
      let role = on_role [] seen lbl (words (pieces vars seen (at Filler e.label ∷ args_then e.args closing))) (λ c. nothing_in lbl c) (label seen end) in
      let rest = pieces vars seen (args_then (roles_of e) closing) in
      on_pred roles seen e.pred (words (link_pieces e.span ++ rest)) (subst (On [] seen) (sym (map_join as_word (link_pieces e.span) rest)) (on_link seen e.span (words rest) role))

  free_eps : (es : List Predication) (tail : List Step) (roles : List (List ℕ)) → All (IsPredication n) es → All IsStoredPredication es → ((rs : List (List ℕ)) → Free rs tail) → Free roles (eps_then es tail)
  free_eps [] tail roles h s on = on roles
  free_eps (e ∷ es) tail roles h s on =
      free_ep e (eps_then es tail) roles (All-head (IsPredication n) e es h) (All-head IsStoredPredication e es s) (λ rs. free_eps es tail rs (All-tail (IsPredication n) e es h) (All-tail IsStoredPredication e es s) on)

  free_constraints : (one rel_kind two : Kind) → is_variable one ≡ true → is_variable two ≡ true → may_break rel_kind ≡ false → on_roles rel_kind ≡ false → is_value rel_kind ≡ false → (cs : List Constraint) (tail : List Step) (roles : List (List ℕ))
      → All (IsConstraint n) cs → Free roles tail → Free roles (constraints_then one rel_kind two cs tail)
  free_constraints one rel_kind two i j p q r [] tail roles h on = on
  free_constraints one rel_kind two i j p q r (c ∷ cs) tail roles h on =
      let a = All-head (IsConstraint n) c cs h in
      let next = constraints_then one rel_kind two cs tail in
      let second : Free roles (at two c.right ∷ next) = free_at roles two c.right next j a.right (free_constraints one rel_kind two i j p q r cs tail roles (All-tail (IsConstraint n) c cs h) on) in
      free_at roles one c.left (say ((32 ∷ c.rel) ++ 32 ∷ []) (record { kind = rel_kind; text = c.rel } ∷ []) ∷ at two c.right ∷ next) i a.left
      (λ seen end. on_calm roles seen rel_kind (str_to_ascii_lowercase c.rel) (words (pieces vars seen (at two c.right ∷ next))) p q r (second seen end))

  free_last : (roles : List (List ℕ)) → Free roles last_step
  free_last roles seen end c gs e b = tt

  free_icons : (cs : List Constraint) (roles : List (List ℕ)) → All (IsConstraint n) cs → Free roles (icons_then cs last_step)
  free_icons [] roles h = free_last roles
  free_icons (c ∷ cs) roles h = free_constraints Left VariableRel Right refl refl refl refl refl (c ∷ cs) (say (codes " >") [] ∷ last_step) roles h (free_last roles)

  pub free_steps : (m : Meaning) → m.top < n → m.index < n → All (IsPredication n) m.eps → All IsStoredPredication m.eps → All (IsConstraint n) m.hcons → All (IsConstraint n) m.icons → Free [] (steps m)
  free_steps m t i h s k l =
      let after = say (codes " >") [] ∷ ending_steps m in
      free_at [] Top m.top (say (codes " INDEX: ") [] ∷ at Index m.index ∷ say (codes " RELS: <") [] ∷ eps_then m.eps after) refl t
      (free_at [] Index m.index (say (codes " RELS: <") [] ∷ eps_then m.eps after) refl i
      (free_eps m.eps after [] h s (λ rs. free_constraints High HandleRel Low refl refl refl refl refl m.hcons (say (codes " >") [] ∷ icons_then m.icons last_step) rs k (free_icons m.icons rs l))))
