-- Each variable of a valid MRS is written.
use Rattle.std.proofs.Common.{◌≡◌, ℕ, zero, suc, ◌⊎◌, inl, inr, List, [], ◌∷◌, refl, sym, subst, codes, arith}
use Rattle.std.specs.List.{Contains, Any}
use Rattle.std.proofs.lemmas.List.Elements.{Contains-append_left}
use Rattle.mrs_model.specs.Meanings.{Filler as Filled, of_var, of_text, Argument, Predication, Constraint, Meaning}
use Rattle.mrs_model.specs.Valid.{StandsIn, IsEnd, Stands}
use Rattle.mrs_spelling.specs.declared.kinds.Kind.{Kind}
use Rattle.mrs_spelling.specs.declared.kinds.Kind.TheVariants.{EpEnd, High, HandleRel, Low, Left, VariableRel, Right}
use Rattle.mrs_text.specs.Written.{place_of, seen_after}
use Rattle.mrs_text.proofs.Steps.{Step, say, at, filler_step, args_then, eps_then, constraints_then, icons_then, last_step, ending_steps, steps}
use Rattle.mrs_text.proofs.Ranks.{seen_end, ends_longer}

-- some step is the variable
abbrev pub Writes : ℕ → List Step → Type 0
Writes v [] = ⊥
Writes v (say bs ps ∷ ss) = Writes v ss
Writes v (at k w ∷ ss) = (w ≡ v) ⊎ Writes v ss

-- an element with a property, and one of the others
any_cases : {A : Type 0} (P : A → Type 0) (x : A) (xs : List A) → Any P (x ∷ xs) → P x ⊎ Any P xs
any_cases {A} P x xs (zero, y, l, e, p) = inl (subst P (sym e) p)
any_cases P x xs (suc k, y, l, e, p) = inr (k, y, omega (arith, l), e, p)

no_any : {A : Type 0} (P : A → Type 0) → Any P [] → ⊥
no_any P (k, y, l, e, p) = omega (arith, l)

filler_on : (v : ℕ) (f : Filled) (tail : List Step) → Writes v tail → Writes v (filler_step f ∷ tail)
filler_on v (of_var w) tail h = inr h
filler_on v (of_text t) tail h = h

filler_here : (v : ℕ) (f : Filled) (tail : List Step) → f ≡ of_var v → Writes v (filler_step f ∷ tail)
filler_here v f tail e = subst (λ (z : Filled). Writes v (filler_step z ∷ tail)) (sym e) (inl refl)

args_on : (v : ℕ) (xs : List Argument) (tail : List Step) → Writes v tail → Writes v (args_then xs tail)
args_on v [] tail h = h
args_on v (a ∷ xs) tail h = filler_on v a.filler (args_then xs tail) (args_on v xs tail h)

args_write : (v : ℕ) (xs : List Argument) (tail : List Step) → Any (λ a. a.filler ≡ of_var v) xs → Writes v (args_then xs tail)
args_write v [] tail h = absurd (no_any (λ (a : Argument). a.filler ≡ of_var v) h)
args_write v (a ∷ xs) tail h = elim (any_cases (λ (b : Argument). b.filler ≡ of_var v) a xs h) [
  | inl e ↦ filler_here v a.filler (args_then xs tail) e
  | inr k ↦ filler_on v a.filler (args_then xs tail) (args_write v xs tail k)
]

eps_on : (v : ℕ) (es : List Predication) (tail : List Step) → Writes v tail → Writes v (eps_then es tail)
eps_on v [] tail h = h
eps_on v (e ∷ es) tail h = inr (args_on v e.args (say (codes " ]") (record { kind = EpEnd; text = 93 ∷ [] } ∷ []) ∷ eps_then es tail) (eps_on v es tail h))

eps_write : (v : ℕ) (es : List Predication) (tail : List Step) → Any (StandsIn v) es → Writes v (eps_then es tail)
eps_write v [] tail h = absurd (no_any (StandsIn v) h)
eps_write v (e ∷ es) tail h =
    let rest = say (codes " ]") (record { kind = EpEnd; text = 93 ∷ [] } ∷ []) ∷ eps_then es tail in
    elim (any_cases (StandsIn v) e es h) [
      | inl s ↦ (elim s [ inl i ↦ inl i | inr j ↦ inr (args_write v e.args rest j) ])
      | inr k ↦ inr (args_on v e.args rest (eps_write v es tail k))
    ]

module _ (v : ℕ) (one rel_kind two : Kind) where
  constraints_on : (cs : List Constraint) (tail : List Step) → Writes v tail → Writes v (constraints_then one rel_kind two cs tail)
  constraints_on [] tail h = h
  constraints_on (c ∷ cs) tail h = inr (inr (constraints_on cs tail h))

  constraints_write : (cs : List Constraint) (tail : List Step) → Any (IsEnd v) cs → Writes v (constraints_then one rel_kind two cs tail)
  constraints_write [] tail h = absurd (no_any (IsEnd v) h)
  constraints_write (c ∷ cs) tail h = elim (any_cases (IsEnd v) c cs h) [
    | inl s ↦ (elim s [ inl i ↦ inl i | inr j ↦ inr (inl j) ])
    | inr k ↦ inr (inr (constraints_write cs tail k))
  ]

icons_write : (v : ℕ) (cs : List Constraint) → Any (IsEnd v) cs → Writes v (icons_then cs last_step)
icons_write v [] h = absurd (no_any (IsEnd v) h)
icons_write v (c ∷ cs) h = constraints_write v Left VariableRel Right (c ∷ cs) (say (codes " >") [] ∷ last_step) h

pub all_written : (m : Meaning) (v : ℕ) → Stands m v → Writes v (steps m)
all_written m v (inl e) = inl e
all_written m v (inr (inl e)) = inr (inl e)
all_written m v (inr (inr (inl h))) = inr (inr (eps_write v m.eps (say (codes " >") [] ∷ ending_steps m) h))
all_written m v (inr (inr (inr (inl h)))) = inr (inr (eps_on v m.eps (say (codes " >") [] ∷ ending_steps m) (constraints_write v High HandleRel Low m.hcons (say (codes " >") [] ∷ icons_then m.icons last_step) h)))
all_written m v (inr (inr (inr (inr h)))) = inr (inr (eps_on v m.eps (say (codes " >") [] ∷ ending_steps m) (constraints_on v High HandleRel Low m.hcons (say (codes " >") [] ∷ icons_then m.icons last_step) (icons_write v m.icons h))))

-- it stands among those that were written
pub writes_seen : (v : ℕ) (seen : List ℕ) (ss : List Step) → ((w : ℕ) (s : List ℕ) → Contains (seen_after (place_of w s) s w) w) → Writes v ss → Contains (seen_end seen ss) v
writes_seen v seen [] c h = absurd h
writes_seen v seen (say bs ps ∷ ss) c h = writes_seen v seen ss c h
writes_seen v seen (at k w ∷ ss) c h =
    let u = seen_after (place_of w seen) seen w in
    elim h [
      | inl e ↦ (let l = ends_longer u ss in subst (λ (z : List ℕ). Contains z v) (sym l.is) (Contains-append_left u l.more v (subst (Contains u) e (c w seen))))
      | inr k ↦ writes_seen v u ss c k
    ]
