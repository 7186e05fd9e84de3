-- What is read of an element, feature by feature.
use Rattle.std.proofs.Common.{◌≡◌, ◌≢◌, ℕ, ◌∙◌, ◌≤◌, ◌⊎◌, inl, inr, Bool, true, false, List, [], ◌∷◌, ◌++◌, Option, Some, None, IfSome, refl, ap, sym, subst, length, arith, codes, append-nil}
use Rattle.std.specs.List.{All, AllZip, Any, Contains, flat_map, slice_get}
use Rattle.std.specs.Str.{str_to_ascii_lowercase}
use Rattle.std.proofs.lemmas.Option.{same_Some}
use Rattle.std.proofs.lemmas.List.{append_assoc}
use Rattle.std.proofs.lemmas.List.Elements.{All-contains, All-nil, All-push, Contains-append_left, Contains-push, Contains-push_cases}
use Rattle.mrs_model.specs.Meanings.{Argument, Filler, Predication}
use Rattle.mrs_reading.specs.Meaning.{Normal}
use Rattle.mrs_reading.proofs.Linked.{zip_more, zip_weaker}
use Rattle.mrs_reading.proofs.Predicated.{nothing_in}
use Rattle.mrs_reading.proofs.Rising.{rise_added}
use Rattle.mrs_reading.proofs.Tabled.{get_front, inserted}
use Rattle.tdl_reader.specs.Trees.{TermTree}
use Rattle.transfer_model.specs.Rules.{Element}
use Rattle.transfer_rules.specs.Features.{Feature, DifferInName, IsElementForm, IsElementOf, IsFeature, IsFiller, is_coref, is_text, IsRole, coref_of, corefs_in, corefs_of, each_once, is_role, pred_in}
use Rattle.transfer_rules.specs.Forms.{IsOutputOf}
use Rattle.transfer_rules.specs.Inner.Drafts.{Draft, no_draft, with_pred, with_label, HasRole, IsDraft, IsSaid, AreSaid}
use Rattle.transfer_rules.proofs.Lists.{any_by, some_of, all_left, named_or_not}
use Rattle.transfer_rules.proofs.Numbering.{once_append}
use Rattle.transfer_rules.proofs.Written.{role_is, pred_not_label}
use Rattle.transfer_rules.proofs.Fronts.{differ_new}

-- more names
filler_grown : (names more : List (List ℕ)) (t : TermTree) (a : Filler) → IsFiller names t a → IsFiller (names ++ more) t a
filler_grown names more _ _ (is_coref name at c e) = is_coref name at c (get_front names more c name e)
filler_grown names more _ _ (is_text text at) = is_text text at

role_grown : (names more : List (List ℕ)) (f : Feature) (a : Argument) → IsRole names f a → IsRole (names ++ more) f a
role_grown names more f a h = record { name = h.name; filler = filler_grown names more f.value a.filler h.filler }

label_grown : (names more : List (List ℕ)) (name : List ℕ) (o : Option ℕ) → IfSome o (λ c. slice_get names c ≡ Some name) → IfSome o (λ c. slice_get (names ++ more) c ≡ Some name)
label_grown names more name None h = h
label_grown names more name (Some c) h = get_front names more c name h

each_grown : (names more : List (List ℕ)) (f : Feature) (args : List Argument) → Any (IsRole names f) args → Any (IsRole (names ++ more) f) args
each_grown names more f args h = let w = some_of (IsRole names f) args h in any_by (IsRole (names ++ more) f) args w.0 w.1 (role_grown names more f w.0 w.2)

all_grown : (names more : List (List ℕ)) (fs : List Feature) (a : Argument) → Any (λ f. (is_role f ≡ true) × IsRole names f a) fs → Any (λ f. (is_role f ≡ true) × IsRole (names ++ more) f a) fs
all_grown names more fs a h = let w = some_of (λ f. (is_role f ≡ true) × IsRole names f a) fs h in any_by (λ f. (is_role f ≡ true) × IsRole (names ++ more) f a) fs w.0 w.1 (w.2.0, role_grown names more w.0 a w.2.1)

pub draft_grown : (names more : List (List ℕ)) (fs : List Feature) (d : Draft) → IsDraft names fs d → IsDraft (names ++ more) fs d
draft_grown names more fs d h = record {
  pred = h.pred;
  no_pred = h.no_pred;
  label = λ f name m e q. (let w = h.label f name m e q in (label_grown names more name d.label w.0, w.1));
  no_label = h.no_label;
  order = h.order;
  each = λ f m r. each_grown names more f d.args (h.each f m r);
  all = λ a m. all_grown names more fs a (h.all a m);
}

pub element_grown : (names more : List (List ℕ)) (fs : List Feature) (x : Element) → IsElementOf names fs x → IsElementOf (names ++ more) fs x
element_grown names more fs x h = record {
  pred = h.pred;
  label = λ f name m e q. (let w = h.label f name m e q in (label_grown names more name x.label w.0, w.1));
  no_label = h.no_label;
  order = h.order;
  each = λ f m r. each_grown names more f x.args (h.each f m r);
  all = λ a m. all_grown names more fs a (h.all a m);
}

pub output_grown : (names more : List (List ℕ)) (fs : List Feature) (e : Predication) → IsOutputOf names fs e → IsOutputOf (names ++ more) fs e
output_grown names more fs e h = record { element = element_grown names more fs (record { pred = e.pred; label = Some e.label; args = e.args }) h.element; span = h.span }

-- feature by feature
pub draft_none : (names : List (List ℕ)) → IsDraft names [] no_draft
draft_none names = record {
  pred = λ f m e. absurd (nothing_in f m);
  no_pred = λ all. refl;
  label = λ f name m e q. absurd (nothing_in f m);
  no_label = λ all. refl;
  order = λ k l. absurd (omega (arith, l));
  each = λ f m r. absurd (nothing_in f m);
  all = λ a m. absurd (nothing_in a m);
}

module _ (names : List (List ℕ)) (fs : List Feature) (f : Feature) (d : Draft) (h : IsDraft names fs d) (once : DifferInName (fs ++ f ∷ [])) where
  new : (g : Feature) → Contains fs g → g.name ≢ f.name
  new = differ_new fs f [] once

  front_all : (n : List ℕ) → All (λ g. g.name ≢ n) (fs ++ f ∷ []) → All (λ g. g.name ≢ n) fs
  front_all n all = all_left (λ g. g.name ≢ n) fs (f ∷ []) all

  not_last : (n : List ℕ) → All (λ g. g.name ≢ n) (fs ++ f ∷ []) → f.name ≢ n
  not_last n all = All-contains (λ g. g.name ≢ n) (fs ++ f ∷ []) f all (Contains-push fs f)

  name_at : (g : Feature) (n : List ℕ) → f ≡ g → g.name ≡ n → f.name ≡ n
  name_at g n q e = ap (λ (z : Feature). z.name) q ∙ e

  all_more : (a : Argument) → Contains d.args a → Any (λ g. (is_role g ≡ true) × IsRole names g a) (fs ++ f ∷ [])
  all_more a m =
      let w = some_of (λ g. (is_role g ≡ true) × IsRole names g a) fs (h.all a m) in
      any_by (λ g. (is_role g ≡ true) × IsRole names g a) (fs ++ f ∷ []) w.0 (Contains-append_left fs (f ∷ []) w.0 w.1) w.2

  pub draft_pred : (text : List ℕ) → f.name ≡ codes "pred" → pred_in f.value ≡ Some text → IsDraft names (fs ++ f ∷ []) (with_pred text d)
  draft_pred text p v = record {
    pred = λ g m e. elim (Contains-push_cases fs f g m) [ inl k ↦ absurd (new g k (e ∙ sym p)) | inr q ↦ ap (λ (z : Feature). pred_in z.value) (sym q) ∙ v ];
    no_pred = λ all. absurd (not_last (codes "pred") all p);
    label = λ g name m e q. elim (Contains-push_cases fs f g m) [ inl k ↦ h.label g name k e q | inr r ↦ absurd (pred_not_label (sym p ∙ name_at g (codes "lbl") r e)) ];
    no_label = λ all. h.no_label (front_all (codes "lbl") all);
    order = h.order;
    each = λ g m r. elim (Contains-push_cases fs f g m) [ inl k ↦ h.each g k r | inr q ↦ absurd ((role_is g r).0 (ap (λ (z : Feature). z.name) (sym q) ∙ p)) ];
    all = all_more;
  }

  pub draft_label : (name : List ℕ) (c : ℕ) → f.name ≡ codes "lbl" → coref_of f.value ≡ name ∷ [] → slice_get names c ≡ Some name → IsDraft names (fs ++ f ∷ []) (with_label c d)
  draft_label name c p v s = record {
    pred = λ g m e. elim (Contains-push_cases fs f g m) [ inl k ↦ h.pred g k e | inr q ↦ absurd (pred_not_label (sym (name_at g (codes "pred") q e) ∙ p)) ];
    no_pred = λ all. h.no_pred (front_all (codes "pred") all);
    label = λ g n m e q. elim (Contains-push_cases fs f g m) [
      | inl k ↦ absurd (new g k (e ∙ sym p))
      | inr r ↦ (let w : name ∷ [] ≡ n ∷ [] = sym v ∙ ap (λ (z : Feature). coref_of z.value) r ∙ q in let same : name ≡ n = cc in (s ∙ ap Some same, λ z. (let y : Some c ≡ None = z in absurd (cc))))
    ];
    no_label = λ all. absurd (not_last (codes "lbl") all p);
    order = h.order;
    each = λ g m r. elim (Contains-push_cases fs f g m) [ inl k ↦ h.each g k r | inr q ↦ absurd ((role_is g r).1 (ap (λ (z : Feature). z.name) (sym q) ∙ p)) ];
    all = all_more;
  }

  module _ (e : Draft) (x : HasRole names f d e) (np : f.name ≢ codes "pred") (nl : f.name ≢ codes "lbl") (role : is_role f ≡ true) where
    there : (a : Argument) → Contains d.args a ⊎ (x.argument ≡ a) → Contains e.args a
    there a w = subst (λ l. Contains l a) (sym x.added.is) ((inserted d.args x.added.place x.argument a).1 w)

    from : (a : Argument) → Contains e.args a → Contains d.args a ⊎ (x.argument ≡ a)
    from a m = (inserted d.args x.added.place x.argument a).0 (subst (λ l. Contains l a) x.added.is m)

    other_role : (a : Argument) → Contains d.args a → a.role ≢ x.argument.role
    other_role a m q = let w = some_of (λ g. (is_role g ≡ true) × IsRole names g a) fs (h.all a m) in new w.0 w.1 (w.2.1.name ∙ q ∙ sym x.is.name)

    last_role : (g : Feature) → f ≡ g → Any (IsRole names g) e.args
    last_role g q = any_by (IsRole names g) e.args x.argument (there x.argument (inr refl)) (subst (λ z. IsRole names z x.argument) q x.is)

    old_role : (g : Feature) → Contains fs g → is_role g ≡ true → Any (IsRole names g) e.args
    old_role g k r = let w = some_of (IsRole names g) d.args (h.each g k r) in any_by (IsRole names g) e.args w.0 (there w.0 (inl w.1)) w.2

    pub draft_role : IsDraft names (fs ++ f ∷ []) e
    draft_role = record {
      pred = λ g m p. elim (Contains-push_cases fs f g m) [ inl k ↦ h.pred g k p ∙ sym x.pred | inr q ↦ absurd (np (name_at g (codes "pred") q p)) ];
      no_pred = λ all. x.pred ∙ h.no_pred (front_all (codes "pred") all);
      label = λ g name m p q. elim (Contains-push_cases fs f g m) [
        | inl k ↦ subst (λ o. IfSome o (λ c. slice_get names c ≡ Some name) × (o ≢ None)) (sym x.label) (h.label g name k p q)
        | inr r ↦ absurd (nl (name_at g (codes "lbl") r p))
      ];
      no_label = λ all. x.label ∙ h.no_label (front_all (codes "lbl") all);
      order = rise_added (λ a. a.role) d.args x.argument e.args x.added other_role h.order;
      each = λ g m r. elim (Contains-push_cases fs f g m) [ inl k ↦ old_role g k r | inr q ↦ last_role g q ];
      all = λ a m. elim (from a m) [
        | inl k ↦ all_more a k
        | inr q ↦ any_by (λ g. (is_role g ≡ true) × IsRole names g a) (fs ++ f ∷ []) f (Contains-push fs f) (role, subst (IsRole names f) q x.is)
      ];
    }

-- the element that is said
some_pred : (names : List (List ℕ)) (fs : List Feature) (d : Draft) (text : List ℕ) → IsDraft names fs d → d.pred ≡ Some text → Any (λ f. f.name ≡ codes "pred") fs
some_pred names fs d text h e = elim (named_or_not (λ (f : Feature). f.name) (codes "pred") fs) [ inl a ↦ a | inr a ↦ absurd (let w : None ≡ Some text = sym (h.no_pred a) ∙ e in cc) ]

pub said_element : (before after : List (List ℕ)) (fs : List Feature) (d : Draft) (text p : List ℕ) → after ≡ before ++ each_once before (corefs_in fs) → IsDraft after fs d → length fs ≤ 100 → DifferInName fs → All IsFeature fs
    → d.pred ≡ Some text → Normal (str_to_ascii_lowercase text) p → IsSaid IsElementOf false before after fs (record { pred = p; label = d.label; args = d.args })
said_element before after fs d text p names h few once each e n = record {
  names = names;
  form = record { few = few; once = once; each = each; pred = some_pred after fs d text h e; label = λ o. (let w : false ≡ true = o in absurd (cc)) };
  is = record {
    pred = λ f t m q v. subst (λ z. Normal (str_to_ascii_lowercase z) p) (same_Some text t (sym e ∙ sym (h.pred f m q) ∙ v)) n;
    label = h.label;
    no_label = h.no_label;
    order = h.order;
    each = h.each;
    all = h.all;
  };
}

pub no_element : (out : Bool) (names : List (List ℕ)) (fs : List Feature) (d : Draft) → IsDraft names fs d → d.pred ≡ None → IsElementForm out fs → ⊥
no_element out names fs d h e form =
    let w = some_of (λ f. f.name ≡ codes "pred") fs form.pred in
    let v = (All-contains IsFeature fs w.0 form.each w.1).0 w.2 in
    let q : None ≡ Some v.0 = sym e ∙ sym (h.pred w.0 w.1 w.2) ∙ v.1 in cc

-- the elementary predication of OUTPUT that is said
pub said_output : (before after : List (List ℕ)) (fs : List Feature) (x : Element) (l : ℕ) → IsSaid IsElementOf false before after fs x → x.label ≡ Some l
    → IsSaid IsOutputOf true before after fs (record { pred = x.pred; label = l; args = x.args; span = None })
said_output before after fs x l s e = record {
  names = s.names;
  form = record { few = s.form.few; once = s.form.once; each = s.form.each; pred = s.form.pred; label = λ o. some_label };
  is = record {
    element = subst (λ o. IsElementOf after fs (record { pred = x.pred; label = o; args = x.args })) e s.is;
    span = refl;
  };
}
  where
    some_label : Any (λ f. f.name ≡ codes "lbl") fs
    some_label = elim (named_or_not (λ (f : Feature). f.name) (codes "lbl") fs) [ inl a ↦ a | inr a ↦ absurd (let w : None ≡ Some l = sym (s.is.no_label a) ∙ e in cc) ]

pub no_output : (before after : List (List ℕ)) (fs : List Feature) (x : Element) → IsSaid IsElementOf false before after fs x → x.label ≡ None → IsElementForm true fs → ⊥
no_output before after fs x s e form =
    let w = some_of (λ f. f.name ≡ codes "lbl") fs (form.label refl) in
    let v = (All-contains IsFeature fs w.0 form.each w.1).1 w.2 in
    (s.is.label w.0 v.0 w.1 w.2 (ap coref_of v.2)).1 e

pub less_form : (fs : List Feature) → IsElementForm true fs → IsElementForm false fs
less_form fs form = record { few = form.few; once = form.once; each = form.each; pred = form.pred; label = λ o. (let w : false ≡ true = o in absurd (cc)) }

-- lists of elements
pub flat_more : {X A : Type 0} (f : X → List A) (xs ys : List X) → flat_map f (xs ++ ys) ≡ flat_map f xs ++ flat_map f ys
flat_more f [] ys = refl
flat_more f (x ∷ xs) ys = ap (λ l. f x ++ l) (flat_more f xs ys) ∙ sym (append_assoc (f x) (flat_map f xs) (flat_map f ys))

pub corefs_more : (xs ys : List (List Feature)) → corefs_of (xs ++ ys) ≡ corefs_of xs ++ corefs_of ys
corefs_more xs ys = flat_more (flat_map (λ f. coref_of f.value)) xs ys

pub names_more : (a b c : List (List ℕ)) (xs ys : List (List Feature)) → b ≡ a ++ each_once a (corefs_of xs) → c ≡ b ++ each_once b (corefs_of ys) → c ≡ a ++ each_once a (corefs_of (xs ++ ys))
names_more a b c xs ys e f =
    f ∙ ap (λ z. z ++ each_once z (corefs_of ys)) e ∙ append_assoc a (each_once a (corefs_of xs)) (each_once (a ++ each_once a (corefs_of xs)) (corefs_of ys))
    ∙ ap (λ z. a ++ z) (sym (once_append a (corefs_of xs) (corefs_of ys))) ∙ ap (λ z. a ++ each_once a z) (sym (corefs_more xs ys))

pub said_none : {A : Type 0} (R : List (List ℕ) → List Feature → A → Type 0) (out : Bool) (names : List (List ℕ)) → AreSaid R out names names [] []
said_none R out names = record { names = sym (append-nil names); forms = All-nil (IsElementForm out); each = tt }

pub zip_grown : {A : Type 0} (R : List (List ℕ) → List Feature → A → Type 0) → ((names more : List (List ℕ)) (fs : List Feature) (x : A) → R names fs x → R (names ++ more) fs x) → (a b more : List (List ℕ)) → b ≡ a ++ more
    → (fss : List (List Feature)) (xs : List A) → AllZip (R a) fss xs → AllZip (R b) fss xs
zip_grown R grow a b more e fss xs h = zip_weaker (R a) (R b) fss xs (λ fs x r. subst (λ ns. R ns fs x) (sym e) (grow a more fs x r)) h

pub said_more : {A : Type 0} (R : List (List ℕ) → List Feature → A → Type 0) → ((names more : List (List ℕ)) (fs : List Feature) (x : A) → R names fs x → R (names ++ more) fs x) → (out : Bool) (a b c : List (List ℕ)) (fss : List (List Feature)) (xs : List A)
    (fs : List Feature) (x : A) → AreSaid R out a b fss xs → IsSaid R out b c fs x → AreSaid R out a c (fss ++ fs ∷ []) (xs ++ x ∷ [])
said_more R grow out a b c fss xs fs x h s = record {
  names = names_more a b c fss (fs ∷ []) h.names (s.names ∙ ap (λ z. b ++ each_once b z) (sym (append-nil (corefs_in fs))));
  forms = All-push (IsElementForm out) fss fs h.forms s.form;
  each = zip_more (R c) fss xs fs x (zip_grown R grow b c (each_once b (corefs_in fs)) s.names fss xs h.each) s.is;
}
