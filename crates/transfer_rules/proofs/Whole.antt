-- Each rule that a statement says is whole.
use Rattle.std.proofs.Common.{◌≡◌, ◌≢◌, ℕ, zero, suc, ◌+◌, ◌∙◌, ◌<◌, ◌≤◌, inl, inr, Bool, true, false, List, [], ◌∷◌, ◌++◌, Option, Some, None, IfSome, map, refl, ap, sym, subst, length, arith, codes}
use Rattle.std.specs.List.{All, AllZip, Any, Contains, flat_map, slice_get}
use Rattle.std.proofs.lemmas.Option.{slice_get_within}
use Rattle.std.proofs.lemmas.List.{length-map, length-append}
use Rattle.std.proofs.lemmas.List.Elements.{All-contains, All-append, All-map, All-nil}
use Rattle.mrs_model.specs.Meanings.{Argument, Filler, Predication, of_var}
use Rattle.mrs_model.specs.Texts.{IsName, IsPred, IsSort}
use Rattle.mrs_model.specs.Valid.{IsArgument, IsPredication, IsFiller as IsInRange}
use Rattle.mrs_reading.proofs.Valued.{pred_is}
use Rattle.tdl_reader.specs.Trees.{TermTree, StatementTree, of_coref, of_text}
use Rattle.transfer_model.specs.Rules.{Element, Rule, IsElement, IsRule, StandsAt, AllStand}
use Rattle.transfer_rules.specs.Features.{Feature, IsElementForm, IsElementOf, IsFeature, IsFiller, is_coref, is_text, IsRole, coref_of, corefs_of, each_once, is_role}
use Rattle.transfer_rules.specs.Forms.{Parts, AreFew, HaveForms, IsFilterOf, no_filter, filters, IsOutputOf, IsRuleBy, IsRuleOf, AreRules, letters_in, some_or_none}
use Rattle.transfer_rules.proofs.Lists.{any_by, some_of, all_by, in_of, flat_in, named_or_not, zip_left, zip_right, zip_all, zip_append}
use Rattle.transfer_rules.proofs.Numbering.{IsSet, no_names, once_set, once_in}
use Rattle.transfer_rules.proofs.Written.{role_is, is_role_by, of_pred, of_label, of_role, kind_of, coref_at, pred_no_coref, coref_named, coref_sort}

-- where one is there, it has the property
there : {A : Type 0} (o : Option A) (P : A → Type 0) → IfSome o P → o ≢ None → (x : A) × (o ≡ Some x) × P x
there None P h n = absurd (n refl)
there (Some x) P h n = (x, refl, h)

weaker : {A : Type 0} (o : Option A) (P Q : A → Type 0) → ((x : A) → P x → Q x) → IfSome o P → IfSome o Q
weaker None P Q f h = tt
weaker (Some x) P Q f h = f x h

-- an element over these names
module _ (out : Bool) (names : List (List ℕ)) (fs : List Feature) (x : Element) (form : IsElementForm out fs) (h : IsElementOf names fs x) where
  feature : (f : Feature) → Contains fs f → IsFeature f
  feature f m = All-contains IsFeature fs f form.each m

  is_pred : IsPred x.pred
  is_pred =
      let w = some_of (λ f. f.name ≡ codes "pred") fs form.pred in
      let p = (feature w.0 w.1).0 w.2 in
      pred_is p.0 x.pred (h.pred w.0 p.0 w.1 w.2 p.1)

  is_label : IfSome x.label (λ c. c < length names)
  is_label = elim (named_or_not (λ (f : Feature). f.name) (codes "lbl") fs) [
    | inl a ↦ (let w = some_of (λ f. f.name ≡ codes "lbl") fs a in
        let v = (feature w.0 w.1).1 w.2 in
        weaker x.label (λ c. slice_get names c ≡ Some v.0) (λ c. c < length names) (λ c e. slice_get_within names c v.0 e) (h.label w.0 v.0 w.1 w.2 (ap coref_of v.2)).0)
    | inr a ↦ subst (λ (o : Option ℕ). IfSome o (λ c. c < length names)) (sym (h.no_label a)) tt
  ]

  in_range : (t : TermTree) (a : Filler) → IsFiller names t a → IsInRange (length names) a
  in_range _ _ (is_coref name at c e) = slice_get_within names c name e
  in_range _ _ (is_text text at) = tt

  is_argument : (a : Argument) → Contains x.args a → IsArgument (length names) a
  is_argument a m =
      let w = some_of (λ f. (is_role f ≡ true) × IsRole names f a) fs (h.all a m) in
      let r = role_is w.0 w.2.0 in record {
        role = subst IsName w.2.1.name ((feature w.0 w.1).2 r.0).1;
        not_label = λ e. r.1 (w.2.1.name ∙ e);
        filler = in_range w.0.value a.filler w.2.1.filler;
      }

  pub element_is : IsElement (length names) x
  element_is = record { pred = is_pred; label = is_label; args = all_by (IsArgument (length names)) x.args is_argument; order = h.order }

  -- a coreference that is written stands in the element
  stands : IsSet names → (c : ℕ) (name : List ℕ) → slice_get names c ≡ Some name → (f : Feature) → Contains fs f → Contains (coref_of f.value) name → StandsAt c x
  stands once c name e f m k =
      let v = coref_at f.value name k in
      elim (kind_of f) [
        | of_pred p ↦ (let w = (feature f m).0 p in absurd (pred_no_coref f.value name w.0 v.0 w.1 v.1))
        | of_label p ↦ (let w = h.label f name m p (ap coref_of v.1) in let l = there x.label (λ d. slice_get names d ≡ Some name) w.0 w.1 in inl (l.1 ∙ ap Some (once l.0 c name l.2 e)))
        | of_role a b ↦ (let w = some_of (IsRole names f) x.args (h.each f m (is_role_by f a b)) in
            inr (any_by (λ a. a.filler ≡ of_var c) x.args w.0 w.1 (filled f.value w.0.filler v.0 w.2.filler v.1)))
      ]
    where
      filled : (t : TermTree) (a : Filler) (at : ℕ) → IsFiller names t a → t ≡ of_coref name at → a ≡ of_var c
      filled _ _ at (is_coref n bt d g) q = let same : n ≡ name = cc in ap of_var (once d c name (g ∙ ap Some same) e)
      filled _ _ at (is_text text bt) q = absurd (let w : of_text text bt ≡ of_coref name at = q in cc)

-- elements over names
module _ (out : Bool) (names : List (List ℕ)) (fss : List (List Feature)) (xs : List Element) (forms : All (IsElementForm out) fss) (h : AllZip (IsElementOf names) fss xs) where
  pub elements_are : All (IsElement (length names)) xs
  elements_are = zip_all (IsElementOf names) (IsElementForm out) (IsElement (length names)) (λ fs x f k. element_is out names fs x f k) fss xs forms h

  pub all_stand : IsSet names → (c : ℕ) (name : List ℕ) → slice_get names c ≡ Some name → Contains (corefs_of fss) name → Any (StandsAt c) xs
  all_stand once c name e m =
      let w = flat_in (flat_map (λ f. coref_of f.value)) fss name m in
      let v = flat_in (λ (f : Feature). coref_of f.value) w.0 name w.2 in
      let y = zip_left (IsElementOf names) fss xs h w.0 w.1 in
      any_by (StandsAt c) xs y.0 y.1 (stands out names w.0 y.0 (All-contains (IsElementForm out) fss w.0 forms w.1) y.2 once c name e v.0 v.1 v.2)

-- the letters of coreferences are sorts
sorts : (out : Bool) (known : List (List ℕ)) (fss : List (List Feature)) → All (IsElementForm out) fss → All IsSort (map letters_in (each_once known (corefs_of fss)))
sorts out known fss forms = All-map IsSort letters_in (each_once known (corefs_of fss)) (all_by (λ n. IsSort (letters_in n)) (each_once known (corefs_of fss)) one)
  where
    one : (n : List ℕ) → Contains (each_once known (corefs_of fss)) n → IsSort (letters_in n)
    one n m =
        let w = flat_in (flat_map (λ f. coref_of f.value)) fss n (once_in known (corefs_of fss) n m) in
        let v = flat_in (λ (f : Feature). coref_of f.value) w.0 n w.2 in
        let t = coref_at v.0.value n v.2 in
        coref_sort n (coref_named v.0 n t.0 (All-contains IsFeature w.0 v.0 (All-contains (IsElementForm out) fss w.0 forms w.1).each v.1) t.1)

-- the names before these numbers have gone
past : (xs ys : List (List ℕ)) (c : ℕ) → length xs ≤ c → c < length xs + length ys → (n : List ℕ) × (slice_get (xs ++ ys) c ≡ Some n) × Contains ys n
past [] ys c l m = let w = at_index ys c (omega (arith, m)) in (w.0, w.1, in_of ys c w.0 w.1)
  where
    at_index : (zs : List (List ℕ)) (k : ℕ) → k < length zs → (n : List ℕ) × (slice_get zs k ≡ Some n)
    at_index [] k l = absurd (omega (arith, l))
    at_index (z ∷ zs) zero l = (z, refl)
    at_index (z ∷ zs) (suc k) l = at_index zs k (omega (arith, l))
past (x ∷ xs) ys zero l m = absurd (omega (arith, l))
past (x ∷ xs) ys (suc c) l m = past xs ys c (omega (arith, l)) (omega (arith, m))

module _ (p : Parts) (r : Rule) (few : AreFew p) (forms : HaveForms p) (h : IsRuleBy p r) where
  names_set : IsSet h.names
  names_set = subst IsSet (sym h.names_are) (once_set [] (corefs_of (p.input ++ p.context)) no_names)

  count : length r.letters ≡ length h.names
  count = ap length h.letters ∙ length-map h.names letters_in

  filter_count : length r.letters + length r.filter_letters ≡ length (h.names ++ h.filter_names)
  filter_count = let a = count in let b : length r.filter_letters ≡ length h.filter_names = ap length h.filter_letters ∙ length-map h.filter_names letters_in in let c = length-append h.names h.filter_names in omega (arith, a, b, c)

  output_count : length r.letters + length r.output_letters ≡ length (h.names ++ h.output_names)
  output_count = let a = count in let b : length r.output_letters ≡ length h.output_names = ap length h.output_letters ∙ length-map h.output_names letters_in in let c = length-append h.names h.output_names in omega (arith, a, b, c)

  sides : AllZip (IsElementOf h.names) (p.input ++ p.context) (r.input ++ r.context)
  sides = zip_append (IsElementOf h.names) p.input r.input p.context r.context h.input h.context

  letters_are : All IsSort (r.letters ++ (r.filter_letters ++ r.output_letters))
  letters_are = All-append IsSort r.letters (r.filter_letters ++ r.output_letters)
      (subst (All IsSort) (sym (h.letters ∙ ap (map letters_in) h.names_are)) (sorts false [] (p.input ++ p.context) forms.sides))
      (All-append IsSort r.filter_letters r.output_letters
      (subst (All IsSort) (sym (h.filter_letters ∙ ap (map letters_in) h.filter_names_are)) (sorts false h.names (some_or_none p.filter) (in_filter p.filter forms.filter)))
      (subst (All IsSort) (sym (h.output_letters ∙ ap (map letters_in) h.output_names_are)) (sorts true h.names p.output forms.output)))
    where
      in_filter : (o : Option (List (List Feature))) → IfSome o (All (IsElementForm false)) → All (IsElementForm false) (some_or_none o)
      in_filter None f = All-nil (IsElementForm false)
      in_filter (Some xs) f = f

  standing : AllStand 0 (length r.letters) (r.input ++ r.context)
  standing c low high =
      let a = count in
      let w = past [] h.names c (omega arith) (omega (arith, a, high)) in
      all_stand false h.names (p.input ++ p.context) (r.input ++ r.context) forms.sides sides names_set c w.0 w.1 (once_in [] (corefs_of (p.input ++ p.context)) w.0 (subst (λ ns. Contains ns w.0) h.names_are w.2))

  filter_is : (o : Option (List (List Feature))) (f : Option (List Element)) → IfSome o (All (IsElementForm false)) → h.filter_names ≡ each_once h.names (corefs_of (some_or_none o)) → IsFilterOf (h.names ++ h.filter_names) o f
      → IfSome f (All (IsElement (length r.letters + length r.filter_letters))) × IfSome f (AllStand (length r.letters) (length r.letters + length r.filter_letters))
  filter_is _ _ a e no_filter = (tt, tt)
  filter_is _ _ a e (filters xs es z) = (
    subst (λ n. All (IsElement n) es) (sym filter_count) (elements_are false (h.names ++ h.filter_names) xs es a z),
    λ c low high. (
        let i = count in
        let j = filter_count in
        let k = length-append h.names h.filter_names in
        let w = past h.names h.filter_names c (omega (arith, low, i)) (omega (arith, high, j, k)) in
        all_stand false (h.names ++ h.filter_names) xs es a z (subst (λ ns. IsSet (h.names ++ ns)) (sym e) (once_set h.names (corefs_of xs) names_set)) c w.0 w.1 (once_in h.names (corefs_of xs) w.0 (subst (λ ns. Contains ns w.0) e w.2))
        ),
  )

  predication_is : (fs : List Feature) (e : Predication) → IsElementForm true fs → IsOutputOf (h.names ++ h.output_names) fs e → IsPredication (length r.letters + length r.output_letters) e
  predication_is fs e f o =
      let x = element_is true (h.names ++ h.output_names) fs (record { pred = e.pred; label = Some e.label; args = e.args }) f o.element in
      subst (λ n. IsPredication n e) (sym output_count) (record { pred = x.pred; label = x.label; args = x.args; order = x.order })

  pub rule_is : IsRule r
  rule_is =
      let f = filter_is p.filter r.filter forms.filter h.filter_names_are h.filter in record {
        some = inputs p.input r.input h.input few.some;
        letters = letters_are;
        elements = subst (λ n. All (IsElement n) (r.input ++ r.context)) (sym count) (elements_are false h.names (p.input ++ p.context) (r.input ++ r.context) forms.sides sides);
        filter = f.0;
        output = zip_all (IsOutputOf (h.names ++ h.output_names)) (IsElementForm true) (IsPredication (length r.letters + length r.output_letters)) predication_is p.output r.output forms.output h.output;
        standing = standing;
        filter_standing = f.1;
      }
    where
      inputs : (xs : List (List Feature)) (ys : List Element) → AllZip (IsElementOf h.names) xs ys → 0 < length xs → 0 < length ys
      inputs [] ys z l = absurd (omega (arith, l))
      inputs (x ∷ xs) [] z l = absurd z
      inputs (x ∷ xs) (y ∷ ys) z l = omega arith

pub all_whole : (ss : List StatementTree) (rs : List Rule) → AreRules ss rs → All IsRule rs
all_whole ss rs h = all_by IsRule rs (λ r m. (let w = zip_right IsRuleOf ss rs h.each r m in rule_is w.2.parts r w.2.has.few w.2.forms w.2.rule))
