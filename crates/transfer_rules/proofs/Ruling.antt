-- Rules that parts say, and lists of them.
use Rattle.std.proofs.Common.{◌≡◌, ℕ, zero, suc, ◌∙◌, inl, inr, true, false, List, [], ◌∷◌, ◌++◌, Option, Some, None, IfSome, map, refl, ap, sym, subst, length, take, drop}
use Rattle.std.specs.Option.{option_map}
use Rattle.std.specs.List.{All, AllZip, Any}
use Rattle.std.specs.String.{string_bytes}
use Rattle.std.proofs.lemmas.List.Elements.{All-append}
use Rattle.mrs_model.specs.Meanings.{Predication}
use Rattle.mrs_reading.proofs.Linked.{zip_more}
use Rattle.tdl_reader.specs.Trees.{StatementTree}
use Rattle.transfer_model.specs.declared.Filter.{Filter}
use Rattle.transfer_model.specs.Rules.{Element, Rule}
use Rattle.transfer_model.specs.Views.{element_of, filter_letters_of}
use Rattle.transfer_rules.specs.Features.{Feature, IsElementForm, IsElementOf, corefs_of, each_once}
use Rattle.transfer_rules.specs.Forms.{Parts, HaveForms, IsFilterOf, no_filter, filters, IsOutputOf, IsRuleBy, IsRuleOf, AreRules, IsFirstOutside, letters_in, place_of, some_or_none}
use Rattle.transfer_rules.specs.Inner.Drafts.{AreSaid, IsFilterSaid, none_said, some_said}
use Rattle.transfer_rules.proofs.Lists.{any_by, in_of}
use Rattle.transfer_rules.proofs.Numbering.{get_cases}
use Rattle.transfer_rules.proofs.Drafting.{element_grown, names_more, zip_grown}

drop_mapped : (xs ys : List (List ℕ)) → drop (length xs) (map letters_in (xs ++ ys)) ≡ map letters_in ys
drop_mapped [] ys = refl
drop_mapped (x ∷ xs) ys = drop_mapped xs ys

take_mapped : (xs ys : List (List ℕ)) → take (length xs) (map letters_in (xs ++ ys)) ≡ map letters_in xs
take_mapped [] ys = refl
take_mapped (x ∷ xs) ys = ap (λ l. letters_in x ∷ l) (take_mapped xs ys)

-- FILTER that is said over the names of INPUT and CONTEXT
pub record IsFilterBy (names : List (List ℕ)) (said : Option (List (List Feature))) (f : Option Filter) : Type 0 where
  pub is : IsFilterOf (names ++ each_once names (corefs_of (some_or_none said))) said (option_map (λ x. map element_of x.elements.items) f)
  pub letters : drop (length names) (filter_letters_of f) ≡ map letters_in (each_once names (corefs_of (some_or_none said)))
  pub front : IfSome f (λ x. take (length names) (map string_bytes x.letters.items) ≡ map letters_in names)
  pub forms : IfSome said (All (IsElementForm false))

drop_none : (k : ℕ) (xs : List (List ℕ)) → xs ≡ [] → drop k xs ≡ []
drop_none zero xs e = e
drop_none (suc k) xs e = ap (drop (suc k)) e

pub filter_by : (names : List (List ℕ)) (said : Option (List (List Feature))) (f : Option Filter) → IsFilterSaid names said f → IsFilterBy names said f
filter_by names _ _ none_said = record { is = no_filter; letters = drop_none (length names) (filter_letters_of None) refl; front = tt; forms = tt }
filter_by names _ _ (some_said after fss f s e) = record {
  is = filters fss (map element_of f.elements.items) (subst (λ ns. AllZip (IsElementOf ns) fss (map element_of f.elements.items)) s.names s.each);
  letters = ap (drop (length names)) (e ∙ ap (map letters_in) s.names) ∙ drop_mapped names (each_once names (corefs_of fss));
  front = ap (take (length names)) (e ∙ ap (map letters_in) s.names) ∙ take_mapped names (each_once names (corefs_of fss));
  forms = s.forms;
}

pub have_forms : (p : Parts) (a b c : List (List ℕ)) (es cs : List Element) (os : List Predication) (f : Option Filter) → AreSaid IsElementOf false [] a p.input es → AreSaid IsElementOf false a b p.context cs → IsFilterSaid b p.filter f
    → AreSaid IsOutputOf true b c p.output os → HaveForms p
have_forms p a b c es cs os f s t u v = record { sides = All-append (IsElementForm false) p.input p.context s.forms t.forms; filter = (filter_by b p.filter f u).forms; output = v.forms }

pub rule_by : (p : Parts) (a b c : List (List ℕ)) (es cs : List Element) (os : List Predication) (f : Option Filter) (r : Rule) → AreSaid IsElementOf false [] a p.input es → AreSaid IsElementOf false a b p.context cs → IsFilterSaid b p.filter f
    → AreSaid IsOutputOf true b c p.output os → r.name ≡ p.name → r.input ≡ es → r.context ≡ cs → r.filter ≡ option_map (λ x. map element_of x.elements.items) f → r.output ≡ os → r.letters ≡ map letters_in b
    → r.filter_letters ≡ drop (length b) (filter_letters_of f) → r.output_letters ≡ map letters_in (each_once b (corefs_of p.output)) → IsRuleBy p r
rule_by p a b c es cs os f r s t u v e1 e2 e3 e4 e5 e6 e7 e8 = let w = filter_by b p.filter f u in record {
  names = b;
  filter_names = each_once b (corefs_of (some_or_none p.filter));
  output_names = each_once b (corefs_of p.output);
  names_are = names_more [] a b p.input p.context s.names t.names;
  filter_names_are = refl;
  output_names_are = refl;
  name = e1;
  letters = e6;
  filter_letters = e7 ∙ w.letters;
  output_letters = e8;
  input = subst (AllZip (IsElementOf b) p.input) (sym e2) (zip_grown IsElementOf element_grown a b (each_once a (corefs_of p.context)) t.names p.input es s.each);
  context = subst (AllZip (IsElementOf b) p.context) (sym e3) t.each;
  filter = subst (IsFilterOf (b ++ each_once b (corefs_of (some_or_none p.filter))) p.filter) (sym e4) w.is;
  output = subst (AllZip (IsOutputOf (b ++ each_once b (corefs_of p.output))) p.output) (sym e5) (subst (λ ns. AllZip (IsOutputOf ns) p.output os) v.names v.each);
}

-- one more rule
pub more_rules : (ss : List StatementTree) (rs : List Rule) (s : StatementTree) (r : Rule) → AreRules ss rs → IsRuleOf s r → (Any (λ q. q.name ≡ r.name) rs → ⊥) → AreRules (ss ++ s ∷ []) (rs ++ r ∷ [])
more_rules ss rs s r h k new = record {
  each = zip_more IsRuleOf ss rs s r h.each k;
  apart = λ i j q t a b e. elim (get_cases rs r i q a) [
    | inl x ↦ (elim (get_cases rs r j t b) [
      | inl y ↦ h.apart i j q t x y e
      | inr y ↦ absurd (new (any_by (λ z. z.name ≡ r.name) rs q (in_of rs i q x) (e ∙ ap (λ (z : Rule). z.name) (sym y.1))))
    ])
    | inr x ↦ (elim (get_cases rs r j t b) [
      | inl y ↦ absurd (new (any_by (λ z. z.name ≡ r.name) rs t (in_of rs j t y) (sym e ∙ ap (λ (z : Rule). z.name) (sym x.1))))
      | inr y ↦ x.0 ∙ sym y.0
    ])
  ];
}

pub no_rules : AreRules [] []
no_rules = record { each = tt; apart = λ i j q t a b e. absurd (let f : None ≡ Some q = a in cc) }

pub outside_at : (front : List StatementTree) (s : StatementTree) (rest ss : List StatementTree) (rs : List Rule) (at : ℕ) → ss ≡ front ++ s ∷ rest → AreRules front rs → ((r : Rule) → IsRuleOf s r → Any (λ q. q.name ≡ r.name) rs) → at ≡ place_of s → IsFirstOutside ss at
outside_at front s rest ss rs at e h o a = record { front = front; statement = s; rest = rest; is = e; rules = rs; before = h; outside = o; at_is = a }
