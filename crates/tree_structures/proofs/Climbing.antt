-- The structure of an entry under lexical rules, rule by rule, and one structure at each step.
use Rattle.std.proofs.Common.{ℕ, ◌≡◌, ◌↔◌, List, [], ◌∷◌, sym, subst}
use Rattle.std.specs.Prelude.{Option, Some, None, Result, Ok, Err, IfOk, MatchOption}
use Rattle.fs_model.specs.Claims.{IsOrder}
use Rattle.fs_model.specs.Sources.{Told}
use Rattle.fs_model.specs.Closure.{Closure}
use Rattle.tree_model.specs.Structures.{Structure, IsStructureOf}
use Rattle.tree_model.specs.Mothers.{IsFull}
use Rattle.tree_model.proofs.Closures.{closure_ends, kept_ends}
use Rattle.tree_model.specs.Signs.{Signs, Instance, rule_system}
use Rattle.tree_model.specs.Lexical.{IsEntry, IsUnderRule, FullUnder, under_none, under_next, FullLexical}
use Rattle.tree_model.proofs.Once.{one_structure}
use Rattle.std.specs.declared.alloc.AllocError.{AllocError as NoMemory}

-- the structures of an entry under all of some rules are those to which the rest of them leads from here
abbrev pub Leads : Signs → ℕ → List ℕ → Structure → List ℕ → Type 0
Leads g entry rules d rest = (f : Structure) → FullLexical g entry rules f ↔ FullUnder g d rest f

module _ (g : Signs) (o : IsOrder g.system) where
  one_entry : {entry : ℕ} {a b : Structure} → IsEntry g entry a → IsEntry g entry b → a ≡ b
  one_entry {a = a} {b = b} x y =
      let e : x.instance ≡ y.instance = (let p = x.at in let q = y.at in cc) in
      one_structure g o (closure_ends g.system) x.structure (subst (λ (i : Instance). IsStructureOf g.system g.paths (Closure g.system (Told i.rule.facts)) b) (sym e) y.structure)

  one_above : {rule : ℕ} {d a b : Structure} → IsUnderRule g rule d a → IsUnderRule g rule d b → a ≡ b
  one_above {d = d} {a = a} {b = b} x y =
      let e : x.instance ≡ y.instance = (let p = x.at in let q = y.at in cc) in
      let z : IsFull (rule_system g) x.instance.rule (d ∷ []) b = subst (λ (i : Instance). IsFull (rule_system g) i.rule (d ∷ []) b) (sym e) y.full in
      one_structure g o (kept_ends (closure_ends g.system)) x.full.1 z.1

  module _ (entry : ℕ) (rules : List ℕ) where
    pub leads_first : (d : Structure) → IsEntry g entry d → Leads g entry rules d rules
    leads_first d x f = (λ h. subst (λ e. FullUnder g e rules f) (one_entry h.1 x) h.2, λ u. (d, x, u))

    pub leads_next : (d e : Structure) (rule : ℕ) (rest : List ℕ) → IsUnderRule g rule d e → Leads g entry rules d (rule ∷ rest) → Leads g entry rules e rest
    leads_next d e rule rest x h f = (λ full. back ((h f).0 full), λ u. (h f).1 (under_next x u))
      where
        back : FullUnder g d (rule ∷ rest) f → FullUnder g e rest f
        back (under_next y u) = subst (λ z. FullUnder g z rest f) (one_above y x) u

    pub leads_nowhere : (d : Structure) (rule : ℕ) (rest : List ℕ) → ((e : Structure) → IsUnderRule g rule d e → ⊥) → Leads g entry rules d (rule ∷ rest) → (f : Structure) → FullLexical g entry rules f → ⊥
    leads_nowhere d rule rest never h f full = stuck ((h f).0 full)
      where
        stuck : FullUnder g d (rule ∷ rest) f → ⊥
        stuck (under_next {e = e} y u) = never e y

    pub leads_here : (d : Structure) → Leads g entry rules d [] → FullLexical g entry rules d
    leads_here d h = (h d).1 under_none

  pub no_entry : {entry : ℕ} {rules : List ℕ} → ((d : Structure) → IsEntry g entry d → ⊥) → (f : Structure) → FullLexical g entry rules f → ⊥
  no_entry never f h = never h.0 h.1

-- an answer in other words
pub match_map : {T A B : Type 0} {P Q : T → Type 0} (r : Result (Option T) NoMemory) → (A → B) → ((x : T) → P x → Q x) → IfOk r (λ o. MatchOption o A P) → IfOk r (λ o. MatchOption o B Q)
match_map (Ok None) f g m = f m
match_map (Ok (Some x)) f g m = g x m
match_map (Err e) f g m = tt
