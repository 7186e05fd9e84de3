-- What stands in the place of what an application removes, and what it makes of an MRS.
use Rattle.std.proofs.Common.{ℕ, ◌≡◌, ◌<◌, ◌≤◌, ◌+◌, ◌∙◌, Bool, true, false, cond, eqb, List, [], ◌∷◌, ◌++◌, length, get_or, take, drop, sym, subst, ap, arith}
use Rattle.std.specs.Prelude.{All, Contains, map, reverse}
use Rattle.std.proofs.lemmas.Bool.{eq-eqb, ne_eqb}
use Rattle.std.proofs.lemmas.List.{length-map, get_or-map, drop-map}
use Rattle.mrs_model.specs.declared.Ep.{Ep}
use Rattle.mrs_model.specs.Meanings.{Variable, Predication, Meaning}
use Rattle.mrs_model.specs.Renaming.{renamed_ep}
use Rattle.mrs_model.specs.Views.{predication_of}
use Rattle.transfer_model.specs.Rules.{Rule}
use Rattle.transfer_model.specs.Sites.{Site}
use Rattle.transfer_model.specs.Applying.{has, removed, replaced, rewritten, variables_at, new_variable}
use Rattle.mrs_transfer.specs.Inner.Replacing.{placed}
use Rattle.mrs_transfer.proofs.Growing.{front_more, popped}
use Rattle.mrs_transfer.proofs.Placed.{placed_all, placed_more}

pub placed_on : (gone : List ℕ) (first : ℕ) (new : List Predication) (es old rest bs mid cs : List Ep) (x : Ep) (b : Bool) → length old ≤ length es → old ≡ take (length old) es → old ≡ rest ++ x ∷ [] → b ≡ has gone (length rest)
    → mid ≡ cond b bs (bs ++ x ∷ []) → map predication_of (reverse cs) ≡ cond (eqb (length rest) first) new [] ++ map predication_of (reverse mid)
    → map predication_of (reverse bs) ≡ placed gone first new (length old) (map predication_of (drop (length old) es))
    → map predication_of (reverse cs) ≡ placed gone first new (length rest) (map predication_of (drop (length rest) es))
placed_on gone first new es old rest bs mid cs x b few front e bit put last h =
    let p = popped es old rest x front few e in
    let n : length (map predication_of es) ≡ length es = length-map es predication_of in
    let k : ℕ = length rest in
    let is : predication_of x ≡ get_or (map predication_of es) k (predication_of x) = ap predication_of p.3 ∙ sym (get_or-map predication_of es k x (predication_of x) p.1) in
    let step = placed_more gone first new (map predication_of es) k (predication_of x) (omega (arith, n, p.1)) is in
    let here : drop k (map predication_of es) ≡ map predication_of (drop k es) = drop-map predication_of k es in
    let next : drop (k + 1) (map predication_of es) ≡ map predication_of (drop (k + 1) es) = drop-map predication_of (k + 1) es in
    let after : map predication_of (reverse bs) ≡ placed gone first new (k + 1) (drop (k + 1) (map predication_of es)) =
    h ∙ (ap (λ (z : ℕ). placed gone first new z (map predication_of (drop z es))) (sym p.0) ∙ ap (λ (zs : List Predication). placed gone first new (k + 1) zs) (sym next)) in
    last ∙ (ap (λ (zs : List Predication). cond (eqb k first) new [] ++ zs)
    (by_bit b put ∙ (ap (λ (c : Bool). cond c [] (predication_of x ∷ []) ++ map predication_of (reverse bs)) bit ∙ ap (λ (zs : List Predication). cond (has gone k) [] (predication_of x ∷ []) ++ zs) after))
    ∙ (sym step ∙ ap (λ (zs : List Predication). placed gone first new k zs) here))
  where
    by_bit : (c : Bool) → mid ≡ cond c bs (bs ++ x ∷ []) → map predication_of (reverse mid) ≡ cond c [] (predication_of x ∷ []) ++ map predication_of (reverse bs)
    by_bit true q = ap (λ (zs : List Ep). map predication_of (reverse zs)) q
    by_bit false q = ap (λ (zs : List Ep). map predication_of (reverse zs)) q ∙ front_more predication_of bs x

-- OUTPUT stands at a place, or at another one
pub put_here : (new zs ys : List Predication) (k first : ℕ) → k ≡ first → zs ≡ new ++ ys → zs ≡ cond (eqb k first) new [] ++ ys
put_here new zs ys k first q e = e ∙ ap (λ (c : Bool). cond c new [] ++ ys) (sym (eq-eqb k first q))

pub none_here : (new zs ys : List Predication) (k first : ℕ) → (k ≡ first → ⊥) → zs ≡ ys → zs ≡ cond (eqb k first) new [] ++ ys
none_here new zs ys k first q e = e ∙ ap (λ (c : Bool). cond c new [] ++ ys) (sym (ne_eqb k first q))

first_there : (gone : List ℕ) (first n : ℕ) → Contains gone first → All (λ p. p < n) gone → first < n
first_there gone first n c a = subst (λ (z : ℕ). z < n) c.2 (a c.0 first c.1)

-- down to the first place
pub placed_end : (gone : List ℕ) (first : ℕ) (new : List Predication) (es rest bs cs : List Ep) → length rest ≡ 0 → cs ≡ reverse bs → Contains gone first → All (λ p. p < length es) gone → All (λ p. first ≤ p) gone
    → map predication_of (reverse bs) ≡ placed gone first new (length rest) (map predication_of (drop (length rest) es)) → map predication_of cs ≡ replaced gone first new (map predication_of es)
placed_end gone first new es rest bs cs none turned among there least h =
    let n : length (map predication_of es) ≡ length es = length-map es predication_of in
    let l : first < length es = first_there gone first (length es) among there in
    ap (map predication_of) turned ∙ (h ∙ (ap (λ (k : ℕ). placed gone first new k (map predication_of (drop k es))) none ∙ placed_all gone first new (map predication_of es) (omega (arith, l, n)) least))

abbrev pub with_parts : Meaning → List Variable → List Predication → Meaning
with_parts m vs es = record { top = m.top; index = m.index; vars = vs; eps = es; hcons = m.hcons; icons = m.icons }

pub rewritten_is : (m : Meaning) (r : Rule) (s : Site) (first : ℕ) (vs : List Variable) (es : List Predication) (gone vars : List ℕ) → vs ≡ m.vars ++ map new_variable r.output_letters → gone ≡ removed r s → vars ≡ variables_at m r s
    → es ≡ replaced gone first (map (renamed_ep vars) r.output) m.eps → with_parts m vs es ≡ rewritten m r s first
rewritten_is m r s first vs es gone vars v g w e =
    ap (λ (xs : List Variable). with_parts m xs es) v
    ∙ ap (λ (zs : List Predication). with_parts m (m.vars ++ map new_variable r.output_letters) zs)
    (e ∙ (ap (λ (ns : List ℕ). replaced ns first (map (renamed_ep vars) r.output) m.eps) g ∙ ap (λ (ns : List ℕ). replaced (removed r s) first (map (renamed_ep ns) r.output) m.eps) w))
