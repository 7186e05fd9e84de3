-- Rules that were read, one further.
use Rattle.std.proofs.Common.{◌≡◌, ℕ, ◌+◌, ◌∙◌, ◌<◌, ◌≤◌, ◌||◌, inl, inr, Bool, true, false, not, cond, List, [], ◌∷◌, ◌++◌, String, Global, Result, Ok, Err, None, map, refl, ap, sym, subst, length, get_or, take, drop}
use Rattle.std.specs.Result.{IsErrAnd, OnOk}
use Rattle.std.specs.List.{All, Any, Contains, list_any}
use Rattle.std.specs.Str.{bytes_eq, IsUtf8}
use Rattle.std.specs.String.{string_bytes, string_eq}
use Rattle.std.proofs.lemmas.List.{map-append, take_all}
use Rattle.std.proofs.lemmas.List.Elements.{All-nil, All-push}
use Rattle.std.proofs.lemmas.Slice.Eq.{bytes_eq-Decides}
use Rattle.mrs_reading.proofs.Moves.{is_first, is_other, first_or_other}
use Rattle.mrs_reading.proofs.Predicated.{nothing_in}
use Rattle.tdl_lexer.specs.declared.Token.{Token}
use Rattle.tdl_lexer.specs.Readings.{Tokens, spelled}
use Rattle.tdl_reader.specs.declared.Statement.{Statement}
use Rattle.tdl_reader.specs.Trees.{StatementTree}
use Rattle.tdl_reader.specs.Views.{statement_of}
use Rattle.transfer_model.specs.declared.Rule.{Rule as DeclaredRule}
use Rattle.transfer_model.specs.Rules.{Rule}
use Rattle.transfer_model.specs.Views.{rule_of, IsHeld}
use Rattle.transfer_rules.specs.Forms.{AreRules, IsFirstOutside, IsRuleOf, place_of}
use Rattle.transfer_rules.specs.declared.fault.Refusal.{Refusal}
use Rattle.transfer_rules.specs.declared.fault.Refusal.TheVariants.{Form, NoMemory}
use Rattle.transfer_rules.specs.declared.fault.RulesFault.{RulesFault}
use Rattle.transfer_rules.specs.declared.fault.RulesFault.TheVariants.{Form as RulesForm}
use Rattle.transfer_rules.specs.Inner.Read.{AreRead, fault_of}
use Rattle.transfer_rules.proofs.Fronts.{take_at, parts_at}
use Rattle.transfer_rules.proofs.Lists.{any_by, some_of, bools, true_not_false}
use Rattle.transfer_rules.proofs.Ruling.{more_rules, outside_at}

-- a rule of this name, and the table of names
has_name : (n : List ℕ) (keys : List (String Global)) (rs : List Rule) → map string_bytes keys ≡ map (λ r. r.name) rs → list_any (λ k. bytes_eq n (string_bytes k)) keys ≡ true → Any (λ q. q.name ≡ n) rs
has_name n [] rs e h = absurd (let f : false ≡ true = h in cc)
has_name n (k ∷ keys) [] e h = absurd (let f : string_bytes k ∷ map string_bytes keys ≡ [] = e in cc)
has_name n (k ∷ keys) (r ∷ rs) e h =
    let first : string_bytes k ≡ r.name = cc in
    let rest : map string_bytes keys ≡ map (λ r. r.name) rs = cc in
    elim (bools (bytes_eq n (string_bytes k))) [
      | inl a ↦ any_by (λ q. q.name ≡ n) (r ∷ rs) r (is_first r rs) (sym first ∙ sym ((bytes_eq-Decides n (string_bytes k)).0 a))
      | inr a ↦ (let w = some_of (λ (q : Rule). q.name ≡ n) rs (has_name n keys rs rest (sym (ap (λ b. b || list_any (λ k. bytes_eq n (string_bytes k)) keys) a) ∙ h)) in any_by (λ q. q.name ≡ n) (r ∷ rs) w.0 (is_other r rs w.0 w.1) w.2)
    ]

or_true : (b : Bool) → (b || true) ≡ true
or_true true = refl
or_true false = refl

name_in : (n : List ℕ) (keys : List (String Global)) (rs : List Rule) (q : Rule) → map string_bytes keys ≡ map (λ r. r.name) rs → Contains rs q → q.name ≡ n → list_any (λ k. bytes_eq n (string_bytes k)) keys ≡ true
name_in n keys [] q e m h = absurd (nothing_in q m)
name_in n [] (r ∷ rs) q e m h = absurd (let f : [] ≡ r.name ∷ map (λ r. r.name) rs = e in cc)
name_in n (k ∷ keys) (r ∷ rs) q e m h =
    let first : string_bytes k ≡ r.name = cc in
    let rest : map string_bytes keys ≡ map (λ r. r.name) rs = cc in
    elim (first_or_other r rs q m) [
      | inl a ↦ ap (λ b. b || list_any (λ k. bytes_eq n (string_bytes k)) keys) ((bytes_eq-Decides n (string_bytes k)).1 (sym (first ∙ ap (λ (z : Rule). z.name) a ∙ h)))
      | inr a ↦ ap (λ b. bytes_eq n (string_bytes k) || b) (name_in n keys rs q rest a h) ∙ or_true (bytes_eq n (string_bytes k))
    ]

pub none_read : AreRead [] []
none_read = record { named = refl; held = All-nil IsHeld }

-- by the table's answer, whether the name is new
module _ (keys : List (String Global)) (rules : List DeclaredRule) (rule : DeclaredRule) (k : String Global) (h : AreRead keys rules) (e : string_bytes k ≡ (rule_of rule).name) where
  pub stands : list_any (string_eq k) keys ≡ true → Any (λ q. q.name ≡ (rule_of rule).name) (map rule_of rules)
  stands a = has_name (rule_of rule).name keys (map rule_of rules) h.named (subst (λ (n : List ℕ). list_any (λ (z : String Global). bytes_eq n (string_bytes z)) keys ≡ true) e a)

  pub apart : list_any (string_eq k) keys ≡ false → Any (λ q. q.name ≡ (rule_of rule).name) (map rule_of rules) → ⊥
  apart n a =
      let w = some_of (λ (q : Rule). q.name ≡ (rule_of rule).name) (map rule_of rules) a in
      true_not_false (list_any (string_eq k) keys) (subst (λ (n : List ℕ). list_any (λ (z : String Global). bytes_eq n (string_bytes z)) keys ≡ true) (sym e) (name_in (rule_of rule).name keys (map rule_of rules) w.0 h.named w.1 w.2)) n

  pub one_more : list_any (string_eq k) keys ≡ false → (new : List (String Global)) → new ≡ cond (list_any (string_eq k) keys) keys (keys ++ k ∷ []) → (more : List DeclaredRule) → more ≡ rules ++ rule ∷ [] → IsHeld rule → AreRead new more
  one_more n new f more g w = record {
    named = ap (map string_bytes) (f ∙ ap (λ b. cond b keys (keys ++ k ∷ [])) n) ∙ map-append string_bytes keys (k ∷ []) ∙ ap (λ z. z ++ string_bytes k ∷ []) h.named ∙ ap (λ z. map (λ r. r.name) (map rule_of rules) ++ z ∷ []) e
        ∙ sym (ap (λ z. map (λ r. r.name) (map rule_of z)) g ∙ ap (map (λ r. r.name)) (map-append rule_of rules (rule ∷ [])) ∙ map-append (λ r. r.name) (map rule_of rules) (rule_of rule ∷ []));
    held = subst (All IsHeld) (sym g) (All-push IsHeld rules rule h.held w);
  }

-- one statement more
module _ (ss : List Statement) (i : ℕ) (s : Statement) (l : i < length ss) (e : s ≡ get_or ss i s) (rs : List Rule) (h : AreRules (map statement_of (take i ss)) rs) where
  pub rules_more : (new : List Rule) (r : Rule) → IsRuleOf (statement_of s) r → new ≡ rs ++ r ∷ [] → (Any (λ q. q.name ≡ r.name) rs → ⊥) → AreRules (map statement_of (take (i + 1) ss)) new
  rules_more new r k g n =
      subst (λ z. AreRules z new) (sym (ap (map statement_of) (take_at ss i s l e) ∙ map-append statement_of (take i ss) (s ∷ [])))
      (subst (AreRules (map statement_of (take i ss) ++ statement_of s ∷ [])) (sym g) (more_rules (map statement_of (take i ss)) rs (statement_of s) r h k n))

  pub outside : ((r : Rule) → IsRuleOf (statement_of s) r → Any (λ q. q.name ≡ r.name) rs) → IsFirstOutside (map statement_of ss) (place_of (statement_of s))
  outside o =
      outside_at (map statement_of (take i ss)) (statement_of s) (map statement_of (drop (i + 1) ss)) (map statement_of ss) rs (place_of (statement_of s))
      (ap (map statement_of) (parts_at ss i s l e) ∙ map-append statement_of (take i ss) (s ∷ drop (i + 1) ss)) h o refl

pub rules_all : (ss : List Statement) (i : ℕ) (rs : List Rule) → length ss ≤ i → AreRules (map statement_of (take i ss)) rs → AreRules (map statement_of ss) rs
rules_all ss i rs l h = subst (λ (z : List Statement). AreRules (map statement_of z) rs) (take_all i ss l) h

-- a text that has tokens
pub text_is : (bs : List ℕ) (ts : List Token) → Tokens bs ts None → IsUtf8 bs
text_is bs ts (spelled _ _ u r) = u

pub not_false : (b : Bool) → not b ≡ false → b ≡ true
not_false true e = refl
not_false false e = absurd (let f : true ≡ false = e in cc)

pub not_true : (b : Bool) → not b ≡ true → b ≡ false
not_true true e = absurd (let f : false ≡ true = e in cc)
not_true false e = refl

-- refusals that are passed on
pub err_is : {T U : Type 0} (r : Result T Refusal) (x e : Refusal) → IsErrAnd r (λ y. y ≡ x) → r ≡ Err e → ◌≡◌ {A = Result U Refusal} (Err x) (Err e)
err_is (Ok v) x e h q = absurd h
err_is (Err y) x e h q = let f : y ≡ e = cc in ap Err (sym h ∙ f)

pub took : {T : Type 0} (r : Result T Refusal) (s : StatementTree) (old mid new : List DeclaredRule) (x : DeclaredRule) → mid ≡ old → IsRuleOf s (rule_of x) → OnOk r (new ≡ mid ++ x ∷ [])
    → OnOk r (Any (λ q. q.name ≡ (rule_of x).name) (map rule_of mid) → ⊥)
    → OnOk r ((y : Rule) × IsRuleOf s y × (map rule_of new ≡ map rule_of old ++ y ∷ []) × (Any (λ q. q.name ≡ y.name) (map rule_of old) → ⊥))
took (Err e) s old mid new x m k g n = tt
took (Ok v) s old mid new x m k g n =
    (rule_of x, k, ap (map rule_of) (g ∙ ap (λ z. z ++ x ∷ []) m) ∙ map-append rule_of old (x ∷ []), subst (λ (z : List DeclaredRule). Any (λ q. q.name ≡ (rule_of x).name) (map rule_of z) → ⊥) m n)

pub fault_form : {T : Type 0} (p at : ℕ) (r : Refusal) (f : RulesFault) → f ≡ fault_of p r → ◌≡◌ {A = Result T RulesFault} (Err f) (Err (RulesForm at)) → (r ≡ Form) × (p ≡ at)
fault_form p at Form f h q = (refl, cc)
fault_form p at NoMemory f h q = absurd (cc)

pub refused : {T : Type 0} (r : Refusal) → r ≡ Form → ◌≡◌ {A = Result T Refusal} (Err r) (Err Form)
refused r e = ap Err e
