-- Statements say one list of rules, or have one first that is outside the form.
use Rattle.std.proofs.Common.{◌≡◌, ◌≢◌, ℕ, ◌∙◌, ◌<◌, ◌⊎◌, inl, inr, Bool, true, false, List, [], ◌∷◌, ◌++◌, Option, Some, None, IfSome, map, refl, ap, sym, subst, length, arith, codes}
use Rattle.std.specs.Option.{unwrap_or}
use Rattle.std.specs.List.{All, AllZip, Contains, slice_get}
use Rattle.std.specs.Str.{str_to_ascii_lowercase}
use Rattle.std.proofs.lemmas.Option.{same_Some}
use Rattle.std.proofs.lemmas.List.Elements.{All-contains}
use Rattle.mrs_model.specs.Meanings.{Argument, Filler, Predication, of_var, of_text as text_filler}
use Rattle.mrs_reading.proofs.Rises.{rising_one}
use Rattle.std.proofs.lemmas.List.{append_cancel_right}
use Rattle.mrs_reading.specs.Meaning.{Normal, bare, with_rel}
use Rattle.mrs_reading.proofs.Tabled.{get_front}
use Rattle.tdl_reader.specs.Trees.{TermTree, BodyTree, StatementTree, defines, of_coref, of_text}
use Rattle.transfer_model.specs.Rules.{Element, Rule}
use Rattle.transfer_rules.specs.Features.{Feature, IsElementForm, IsElementOf, IsFeature, IsFiller, is_coref, is_text, IsRole, coref_of, corefs_of, each_once, is_role, elements_of, features_of}
use Rattle.transfer_rules.specs.Forms.{Parts, IsPart, absent, there, HasLists, HasParts, HaveForms, IsFilterOf, no_filter, filters, IsOutputOf, IsRuleBy, IsRuleOf, AreRules, IsFirstOutside, letters_in, place_of}
use Rattle.transfer_rules.proofs.Lists.{all_left, all_right, some_of, at_of, named_or_not, zip_one}
use Rattle.transfer_rules.proofs.Numbering.{IsSet, no_names, once_set}

-- the parts of a statement
pub one_part : (name : List ℕ) (fs : List Feature) (a b : Option (List (List Feature))) → IsPart name fs a → IsPart name fs b → a ≡ b
one_part name fs _ _ (absent e) (absent f) = refl
one_part name fs _ _ (absent e) (there x xs f g) = absurd (let w : None ≡ Some x = sym e ∙ f in cc)
one_part name fs _ _ (there x xs e g) (absent f) = absurd (let w : None ≡ Some x = sym f ∙ e in cc)
one_part name fs _ _ (there x xs e g) (there y ys f k) = sym g ∙ ap elements_of (same_Some x y (sym e ∙ f)) ∙ k

defined_names : (a b : List ℕ) (i j : ℕ) (x y : BodyTree) → defines a i None x ≡ defines b j None y → (a ≡ b) × (x ≡ y)
defined_names a b i j x y e = (let f : a ≡ b = cc in f, let f : x ≡ y = cc in f)

same_parts : (p q : Parts) → p.name ≡ q.name → p.input ≡ q.input → p.context ≡ q.context → p.filter ≡ q.filter → p.output ≡ q.output → p ≡ q
same_parts p q a b c d e = rw (a, b, c, d, e) refl

pub one_lists : (fs : List Feature) (p q : Parts) → HasLists fs p → HasLists fs q → p.name ≡ q.name → p ≡ q
one_lists fs p q h k e = same_parts p q e
    (same_Some p.input q.input (one_part (codes "input") fs (Some p.input) (Some q.input) h.input k.input))
    (h.context.2 ∙ ap (λ o. unwrap_or o []) (one_part (codes "context") fs h.context.0 k.context.0 h.context.1 k.context.1) ∙ sym k.context.2)
    (one_part (codes "filter") fs p.filter q.filter h.filter k.filter)
    (h.output.2 ∙ ap (λ o. unwrap_or o []) (one_part (codes "output") fs h.output.0 k.output.0 h.output.1 k.output.1) ∙ sym k.output.2)

pub one_parts : (s : StatementTree) (p q : Parts) → HasParts s p → HasParts s q → p ≡ q
one_parts s p q h k =
    let w = defined_names p.name q.name h.at k.at h.body k.body (sym h.defined ∙ k.defined) in
    let f = same_Some h.fs k.fs (sym h.features ∙ ap features_of w.1 ∙ k.features) in
    one_lists k.fs p q (subst (λ fs. HasLists fs p) f h.lists) k.lists w.0

-- a predicate is normalized in one way
one_normal : (t p q : List ℕ) → Normal t p → Normal t q → p ≡ q
one_normal _ _ q (bare t n) h = other t q n h
  where
    other : (t q : List ℕ) → ((front : List ℕ) → t ≡ front ++ codes "_rel" → ⊥) → Normal t q → t ≡ q
    other _ _ n (bare t m) = refl
    other _ _ n (with_rel front q h) = absurd (n front refl)
one_normal _ _ q (with_rel front p h) k = other (front ++ codes "_rel") q refl k (λ r. one_normal front p q h r)
  where
    other : (t q : List ℕ) → t ≡ front ++ codes "_rel" → Normal t q → (Normal front q → p ≡ q) → p ≡ q
    other _ _ e (bare t m) go = absurd (m front e)
    other _ _ e (with_rel f q r) go = go (subst (λ (z : List ℕ). Normal z q) (append_cancel_right f front (codes "_rel") e) r)

-- the element that features say
same_element : (x y : Element) → x.pred ≡ y.pred → x.label ≡ y.label → x.args ≡ y.args → x ≡ y
same_element x y a b c = rw (a, b, c) refl

same_argument : (a b : Argument) → a.role ≡ b.role → a.filler ≡ b.filler → a ≡ b
same_argument a b e f = rw (e, f) refl

one_filler : (names : List (List ℕ)) (t u : TermTree) (a b : Filler) → IsSet names → t ≡ u → IsFiller names t a → IsFiller names u b → a ≡ b
one_filler names _ _ _ _ once e (is_coref n at c g) (is_coref m bt d k) = let same : n ≡ m = cc in ap of_var (once c d m (g ∙ ap Some same) k)
one_filler names _ _ _ _ once e (is_coref n at c g) (is_text m bt) = absurd (let w : of_coref n at ≡ of_text m bt = e in cc)
one_filler names _ _ _ _ once e (is_text n at) (is_coref m bt d k) = absurd (let w : of_text n at ≡ of_coref m bt = e in cc)
one_filler names _ _ _ _ once e (is_text n at) (is_text m bt) = let same : n ≡ m = cc in ap text_filler same

same_label : (names : List (List ℕ)) (name : List ℕ) (a b : Option ℕ) → IsSet names → IfSome a (λ c. slice_get names c ≡ Some name) → a ≢ None → IfSome b (λ c. slice_get names c ≡ Some name) → b ≢ None → a ≡ b
same_label names name None b once h n k m = absurd (n refl)
same_label names name (Some c) None once h n k m = absurd (m refl)
same_label names name (Some c) (Some d) once h n k m = ap Some (once c d name h k)

module _ (out : Bool) (names : List (List ℕ)) (once : IsSet names) where
  -- each argument of the one is there in the other
  into : (fs : List Feature) (x y : Element) → IsElementOf names fs x → IsElementOf names fs y → (a : Argument) → Contains x.args a → Contains y.args a
  into fs x y h k a m =
      let w = some_of (λ f. (is_role f ≡ true) × IsRole names f a) fs (h.all a m) in
      let v = some_of (IsRole names w.0) y.args (k.each w.0 w.1 w.2.0) in
      subst (Contains y.args) (same_argument v.0 a (sym v.2.name ∙ w.2.1.name) (one_filler names w.0.value w.0.value v.0.filler a.filler once refl v.2.filler w.2.1.filler)) v.1

  pub one_element : (fs : List Feature) (x y : Element) → IsElementForm out fs → IsElementOf names fs x → IsElementOf names fs y → x ≡ y
  one_element fs x y form h k =
      let w = some_of (λ f. f.name ≡ codes "pred") fs form.pred in
      let p = (All-contains IsFeature fs w.0 form.each w.1).0 w.2 in
      same_element x y (one_normal (str_to_ascii_lowercase p.0) x.pred y.pred (h.pred w.0 p.0 w.1 w.2 p.1) (k.pred w.0 p.0 w.1 w.2 p.1)) labels
      (rising_one (λ a. a.role) x.args y.args h.order k.order (into fs x y h k) (into fs y x k h))
    where
      labels : x.label ≡ y.label
      labels = elim (named_or_not (λ (f : Feature). f.name) (codes "lbl") fs) [
        | inl a ↦ (let w = some_of (λ f. f.name ≡ codes "lbl") fs a in
            let v = (All-contains IsFeature fs w.0 form.each w.1).1 w.2 in
            let l = h.label w.0 v.0 w.1 w.2 (ap coref_of v.2) in
            let m = k.label w.0 v.0 w.1 w.2 (ap coref_of v.2) in
            same_label names v.0 x.label y.label once l.0 l.1 m.0 m.1)
        | inr a ↦ h.no_label a ∙ sym (k.no_label a)
      ]

  pub one_elements : (fss : List (List Feature)) (xs ys : List Element) → All (IsElementForm out) fss → AllZip (IsElementOf names) fss xs → AllZip (IsElementOf names) fss ys → xs ≡ ys
  one_elements = zip_one (IsElementOf names) (IsElementForm out) one_element

  same_predication : (a b : Predication) → a.pred ≡ b.pred → a.label ≡ b.label → a.args ≡ b.args → a.span ≡ b.span → a ≡ b
  same_predication a b e f g h = rw (e, f, g, h) refl

  one_output : (fs : List Feature) (a b : Predication) → IsElementForm out fs → IsOutputOf names fs a → IsOutputOf names fs b → a ≡ b
  one_output fs a b form h k =
      let e = one_element fs (record { pred = a.pred; label = Some a.label; args = a.args }) (record { pred = b.pred; label = Some b.label; args = b.args }) form h.element k.element in
      same_predication a b (ap (λ (x : Element). x.pred) e) (same_Some a.label b.label (ap (λ (x : Element). x.label) e)) (ap (λ (x : Element). x.args) e) (h.span ∙ sym k.span)

  pub one_outputs : (fss : List (List Feature)) (xs ys : List Predication) → All (IsElementForm out) fss → AllZip (IsOutputOf names) fss xs → AllZip (IsOutputOf names) fss ys → xs ≡ ys
  one_outputs = zip_one (IsOutputOf names) (IsElementForm out) one_output

one_filter : (names : List (List ℕ)) (o : Option (List (List Feature))) (a b : Option (List Element)) → IsSet names → IfSome o (All (IsElementForm false)) → IsFilterOf names o a → IsFilterOf names o b → a ≡ b
one_filter names None _ _ once forms no_filter no_filter = refl
one_filter names (Some _) _ _ once forms (filters xs es h) (filters _ gs k) = ap Some (one_elements false names once xs es gs forms h k)

same_rule : (r t : Rule) → r.name ≡ t.name → r.input ≡ t.input → r.context ≡ t.context → r.filter ≡ t.filter → r.output ≡ t.output → r.letters ≡ t.letters → r.filter_letters ≡ t.filter_letters → r.output_letters ≡ t.output_letters → r ≡ t
same_rule r t a b c d e f g h = rw (a, b, c, d, e, f, g, h) refl

pub one_rule_by : (p : Parts) (r t : Rule) → HaveForms p → IsRuleBy p r → IsRuleBy p t → r ≡ t
one_rule_by p r t forms h k =
    let n : h.names ≡ k.names = h.names_are ∙ sym k.names_are in
    let f : h.filter_names ≡ k.filter_names = h.filter_names_are ∙ ap (λ ns. each_once ns _) n ∙ sym k.filter_names_are in
    let o : h.output_names ≡ k.output_names = h.output_names_are ∙ ap (λ ns. each_once ns (corefs_of p.output)) n ∙ sym k.output_names_are in
    let once : IsSet k.names = subst IsSet (sym k.names_are) (once_set [] (corefs_of (p.input ++ p.context)) no_names) in
    let filter_once : IsSet (k.names ++ k.filter_names) = subst (λ ns. IsSet (k.names ++ ns)) (sym k.filter_names_are) (once_set k.names _ once) in
    let output_once : IsSet (k.names ++ k.output_names) = subst (λ ns. IsSet (k.names ++ ns)) (sym k.output_names_are) (once_set k.names (corefs_of p.output) once) in
    same_rule r t (h.name ∙ sym k.name)
    (one_elements false k.names once p.input r.input t.input (all_left (IsElementForm false) p.input p.context forms.sides) (subst (λ ns. AllZip (IsElementOf ns) p.input r.input) n h.input) k.input)
    (one_elements false k.names once p.context r.context t.context (all_right (IsElementForm false) p.input p.context forms.sides) (subst (λ ns. AllZip (IsElementOf ns) p.context r.context) n h.context) k.context)
    (one_filter (k.names ++ k.filter_names) p.filter r.filter t.filter filter_once forms.filter (subst (λ ns. IsFilterOf ns p.filter r.filter) (joined n f) h.filter) k.filter)
    (one_outputs true (k.names ++ k.output_names) output_once p.output r.output t.output forms.output (subst (λ ns. AllZip (IsOutputOf ns) p.output r.output) (joined n o) h.output) k.output)
    (h.letters ∙ ap (map letters_in) n ∙ sym k.letters) (h.filter_letters ∙ ap (map letters_in) f ∙ sym k.filter_letters) (h.output_letters ∙ ap (map letters_in) o ∙ sym k.output_letters)
  where
    joined : {a b c d : List (List ℕ)} → a ≡ b → c ≡ d → a ++ c ≡ b ++ d
    joined e f = cc

pub one_rule : (s : StatementTree) (r t : Rule) → IsRuleOf s r → IsRuleOf s t → r ≡ t
one_rule s r t h k = let e = one_parts s h.parts k.parts h.has k.has in one_rule_by k.parts r t k.forms (subst (λ p. IsRuleBy p r) e h.rule) k.rule

-- the rules of statements
all_hold : {X : Type 0} (xs : List X) → All (λ x. Unit {0}) xs
all_hold xs = λ k d l. tt

pub one_each : (ss : List StatementTree) (a b : List Rule) → AllZip IsRuleOf ss a → AllZip IsRuleOf ss b → a ≡ b
one_each ss a b h k = zip_one IsRuleOf (λ s. Unit {0}) (λ s r t u v w. one_rule s r t v w) ss a b (all_hold ss) h k

-- rules of statements in two parts
split : (xs : List StatementTree) (s : StatementTree) (ys : List StatementTree) (rs : List Rule) → AllZip IsRuleOf (xs ++ s ∷ ys) rs
    → (front : List Rule) × (r : Rule) × (rest : List Rule) × (rs ≡ front ++ r ∷ rest) × AllZip IsRuleOf xs front × IsRuleOf s r
split [] s ys [] h = absurd h
split [] s ys (r ∷ rs) h = ([], r, rs, refl, tt, h.0)
split (x ∷ xs) s ys [] h = absurd h
split (x ∷ xs) s ys (r ∷ rs) h = let w = split xs s ys rs h.1 in (r ∷ w.0, w.1, w.2, ap (λ l. r ∷ l) w.3, (h.0, w.4), w.5)

get_at : {A : Type 0} (xs : List A) (x : A) (ys : List A) → slice_get (xs ++ x ∷ ys) (length xs) ≡ Some x
get_at [] x ys = refl
get_at (a ∷ xs) x ys = get_at xs x ys

pub rules_not_outside : (ss : List StatementTree) (rs : List Rule) (at : ℕ) → AreRules ss rs → IsFirstOutside ss at → ⊥
rules_not_outside ss rs at h o =
    let w = split o.front o.statement o.rest rs (subst (λ z. AllZip IsRuleOf z rs) o.is h.each) in
    let e : w.0 ≡ o.rules = one_each o.front w.0 o.rules w.4 o.before.each in
    let q = some_of (λ q. q.name ≡ w.1.name) o.rules (o.outside w.1 w.5) in
    let i : slice_get o.rules q.1.0 ≡ Some q.0 = at_of o.rules q.0 q.1 in
    let j : slice_get (w.0 ++ w.1 ∷ w.2) q.1.0 ≡ Some q.0 = get_front w.0 (w.1 ∷ w.2) q.1.0 q.0 (ap (λ l. slice_get l q.1.0) e ∙ i) in
    let k = h.apart q.1.0 (length w.0) q.0 w.1 (ap (λ l. slice_get l q.1.0) w.3 ∙ j) (ap (λ l. slice_get l (length w.0)) w.3 ∙ get_at w.0 w.1 w.2) q.2 in
    let l : q.1.0 < length o.rules = q.1.1 in
    let m : length w.0 ≡ length o.rules = ap length e in
    absurd (omega (arith, k, l, m))

-- two ways to part a list: the one front is a part of the other, or they are one
parted : {A : Type 0} (xs : List A) (x : A) (us : List A) (ys : List A) (y : A) (vs : List A) → xs ++ x ∷ us ≡ ys ++ y ∷ vs
    → ((more : List A) × (ys ≡ xs ++ x ∷ more)) ⊎ (((more : List A) × (xs ≡ ys ++ y ∷ more)) ⊎ (x ≡ y))
parted [] x us [] y vs e = inr (inr (let f : x ≡ y = cc in f))
parted [] x us (b ∷ ys) y vs e = inl (ys, let f : b ≡ x = cc in ap (λ z. z ∷ ys) f)
parted (a ∷ xs) x us [] y vs e = inr (inl (xs, let f : a ≡ y = cc in ap (λ z. z ∷ xs) f))
parted (a ∷ xs) x us (b ∷ ys) y vs e = elim (parted xs x us ys y vs (let f : xs ++ x ∷ us ≡ ys ++ y ∷ vs = cc in f)) [
  | inl h ↦ inl (h.0, let f : b ≡ a = cc in let g = h.1 in cc)
  | inr (inl h) ↦ inr (inl (h.0, let f : a ≡ b = cc in let g = h.1 in cc))
  | inr (inr h) ↦ inr (inr h)
]

-- a front that says rules can't hold a statement outside
outside_in : (front : List StatementTree) (rs : List Rule) (ss : List StatementTree) (at : ℕ) (more : List StatementTree) → AreRules front rs → (o : IsFirstOutside ss at) → front ≡ o.front ++ o.statement ∷ more → ⊥
outside_in front rs ss at more h o e = rules_not_outside front rs at h (record { front = o.front; statement = o.statement; rest = more; is = e; rules = o.rules; before = o.before; outside = o.outside; at_is = o.at_is })

pub one_first : (ss : List StatementTree) (a b : ℕ) → IsFirstOutside ss a → IsFirstOutside ss b → a ≡ b
one_first ss a b h k = elim (parted h.front h.statement h.rest k.front k.statement k.rest (sym h.is ∙ k.is)) [
  | inl w ↦ absurd (outside_in k.front k.rules ss a w.0 k.before h w.1)
  | inr (inl w) ↦ absurd (outside_in h.front h.rules ss b w.0 h.before k w.1)
  | inr (inr e) ↦ h.at_is ∙ ap place_of e ∙ sym k.at_is
]

pub one_list : (ss : List StatementTree) (a b : List Rule) → AreRules ss a → AreRules ss b → a ≡ b
one_list ss a b h k = one_each ss a b h.each k.each
