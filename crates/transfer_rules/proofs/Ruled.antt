-- The rule that is put together.
use Rattle.std.proofs.Common.{Bor, ◌≡◌, ◌∙◌, ℕ, zero, suc, ◌≤◌, true, false, List, [], ◌∷◌, ◌++◌, IfSome, map, refl, ap, sym, subst, length, take, drop, arith}
use Rattle.std.specs.List.{All}
use Rattle.std.specs.String.{string_bytes}
use Rattle.std.proofs.Math.Seq.{take-append_seam, drop-append_seam}
use Rattle.std.proofs.lemmas.List.{length-map, length-append, map-append}
use Rattle.mrs_model.specs.Views.{predication_of}
use Rattle.transfer_model.specs.declared.Element.{Element as DeclaredElement}
use Rattle.transfer_model.specs.declared.Rule.{Rule as DeclaredRule}
use Rattle.transfer_model.specs.Views.{element_of, filter_letters_of, rule_of, IsHeld}
use Rattle.transfer_rules.specs.Features.{IsElementForm, IsElementOf, corefs_of, each_once}
use Rattle.transfer_rules.specs.Forms.{Parts, AreFew, HaveForms, IsOutputOf, IsRuleBy, letters_in}
use Rattle.transfer_rules.specs.Inner.Drafts.{AreSaid, IsFilterSaid}
use Rattle.transfer_rules.specs.Inner.Sides.{AreSides}
use Rattle.transfer_rules.proofs.Lists.{all_left, all_right}
use Rattle.transfer_rules.proofs.Ruling.{filter_by, have_forms, rule_by}
use Rattle.transfer_rules.proofs.Whole.{rule_is}

-- INPUT, and CONTEXT behind it
pub sides_said : (a b c : List (List ℕ)) (p : Parts) (xs ys zs : List DeclaredElement) → zs ≡ xs ++ ys → AreSaid IsElementOf false a b p.input (map element_of xs) → AreSaid IsElementOf false b c p.context (map element_of ys)
    → AreSides a c p (map element_of zs) (length xs)
sides_said a b c p xs ys zs e s t =
    let seen : map element_of zs ≡ map element_of xs ++ map element_of ys = ap (map element_of) e ∙ map-append element_of xs ys in
    let n : length xs ≡ length (map element_of xs) = sym (length-map xs element_of) in
    record {
      between = b;
      input = subst (AreSaid IsElementOf false a b p.input) (sym (ap (take (length xs)) seen ∙ ap (λ k. take k (map element_of xs ++ map element_of ys)) n ∙ take-append_seam (map element_of xs) (map element_of ys))) s;
      context = subst (AreSaid IsElementOf false b c p.context) (sym (ap (drop (length xs)) seen ∙ ap (λ k. drop k (map element_of xs ++ map element_of ys)) n ∙ drop-append_seam (map element_of xs) (map element_of ys))) t;
      within = subst (λ k. length xs ≤ k) (sym (length-map zs element_of ∙ ap length e ∙ length-append xs ys)) (omega arith);
    }

-- FILTER over names that are cut back
pub names_back : (more : List (List ℕ)) (xs ys : List (Bor (List ℕ))) → map (λ n. n.now) ys ≡ map (λ n. n.now) xs ++ more → map (λ n. n.now) (take (length xs) ys) ≡ map (λ n. n.now) xs
names_back more [] ys e = refl
names_back more (x ∷ xs) [] e = absurd (let t : [] ≡ x.now ∷ (map (λ n. n.now) xs ++ more) = e in cc)
names_back more (x ∷ xs) (y ∷ ys) e =
    let head : y.now ≡ x.now = cc in
    let rest : map (λ n. n.now) ys ≡ map (λ n. n.now) xs ++ more = cc in
    both y.now x.now (map (λ n. n.now) (take (length xs) ys)) (map (λ n. n.now) xs) head (names_back more xs ys rest)
  where
    both : (a b : List ℕ) (us vs : List (List ℕ)) → a ≡ b → us ≡ vs → a ∷ us ≡ b ∷ vs
    both a b us vs f g = cc

-- the letters of the names behind the front
pub letters_behind : (k : ℕ) (xs : List (Bor (List ℕ))) → map (λ n. letters_in n.now) (drop k xs) ≡ map letters_in (drop k (map (λ n. n.now) xs))
letters_behind zero [] = refl
letters_behind zero (x ∷ xs) = ap (λ l. letters_in x.now ∷ l) (letters_behind zero xs)
letters_behind (suc k) [] = refl
letters_behind (suc k) (x ∷ xs) = letters_behind k xs

-- all that holds of the rule
pub record IsRuled (p : Parts) (r : DeclaredRule) : Type 0 where
  pub forms : HaveForms p
  pub some : IsRuleBy p (rule_of r)
  pub held : IsHeld r

module _ (p : Parts) (b c : List (List ℕ)) (r : DeclaredRule) (few : AreFew p) (s : AreSides [] b p (map element_of r.elements.items) r.inputs) (u : IsFilterSaid b p.filter r.filter)
    (v : AreSaid IsOutputOf true b c p.output (map predication_of r.output.items)) (name : string_bytes r.name ≡ p.name) (letters : map string_bytes r.letters.items ≡ map letters_in b)
    (others : map string_bytes r.output_letters.items ≡ map letters_in (drop (length b) c)) where
  count : length r.letters.items ≡ length b
  count = sym (length-map r.letters.items string_bytes) ∙ ap length letters ∙ length-map b letters_in

  forms : HaveForms p
  forms = have_forms p s.between b c (take r.inputs (map element_of r.elements.items)) (drop r.inputs (map element_of r.elements.items)) (map predication_of r.output.items) r.filter s.input s.context u v

  by : IsRuleBy p (rule_of r)
  by = rule_by p s.between b c (take r.inputs (map element_of r.elements.items)) (drop r.inputs (map element_of r.elements.items)) (map predication_of r.output.items) r.filter (rule_of r) s.input s.context u v
      name refl refl refl refl letters (ap (λ k. drop k (filter_letters_of r.filter)) count)
      (others ∙ ap (λ z. map letters_in (drop (length b) z)) v.names ∙ ap (map letters_in) (drop-append_seam b (each_once b (corefs_of p.output))))

  front : IfSome r.filter (λ f. take (length r.letters.items) (map string_bytes f.letters.items) ≡ map string_bytes r.letters.items)
  front = subst (λ k. IfSome r.filter (λ f. take k (map string_bytes f.letters.items) ≡ map string_bytes r.letters.items)) (sym count)
      (subst (λ l. IfSome r.filter (λ f. take (length b) (map string_bytes f.letters.items) ≡ l)) (sym letters) (filter_by b p.filter r.filter u).front)

  pub ruled : IsRuled p r
  ruled = record { forms = forms; some = by; held = record { rule = rule_is p (rule_of r) few forms by; inputs = subst (λ k. r.inputs ≤ k) (length-map r.elements.items element_of) s.within; front = front } }

-- the forms of a rule's lists
pub input_forms : (p : Parts) → HaveForms p → All (IsElementForm false) p.input
input_forms p h = all_left (IsElementForm false) p.input p.context h.sides

pub context_forms : (p : Parts) → HaveForms p → All (IsElementForm false) p.context
context_forms p h = all_right (IsElementForm false) p.input p.context h.sides
