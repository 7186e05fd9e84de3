-- The tests of forms tell what they are to tell.
use Rattle.std.proofs.Common.{◌≡◌, ℕ, ◌&&◌, not, Bool, true, false, Option, subst, refl}
use Rattle.std.proofs.lemmas.Bool.{eqb-true}
use Rattle.mrs_spelling.specs.Forms.{Class, white, letter, digit, in_name, in_pred, any, only, other_than, has, Form, nothing, sign, seq, many, either, token}
use Rattle.mrs_spelling.specs.Reading.{passes}
use Rattle.mrs_spelling.specs.Inner.Fitting.{first_of, Leads, Fits, same_class, leads, fits}

both_hold : (a b : Bool) → (a && b) ≡ true → (a ≡ true) × (b ≡ true)
both_hold true b h = (refl, h)
both_hold false b h = absurd (cc)

not_true : (a : Bool) → not a ≡ true → a ≡ false
not_true true h = absurd (cc)
not_true false h = refl

same_has : (x y : Class) → same_class x y ≡ true → (c : ℕ) → has x c ≡ true → has y c ≡ true
same_has white white e c h = h
same_has letter letter e c h = h
same_has digit digit e c h = h
same_has in_name in_name e c h = h
same_has in_pred in_pred e c h = h
same_has any any e c h = h
same_has (only a) (only d) e c h = subst (λ (z : ℕ). has (only z) c ≡ true) (eqb-true a d e) h
same_has (other_than a) (other_than d) e c h = subst (λ (z : ℕ). has (other_than z) c ≡ true) (eqb-true a d e) h
same_has _ _ e c h = absurd (cc)

pub leads_told : (x : Class) (r : Form) → leads x r ≡ true → Leads x r
leads_told x nothing e = absurd (cc)
leads_told x (sign y) e = same_has x y e
leads_told x (seq p q) e = leads_told x p e
leads_told x (many y p) e = absurd (cc)
leads_told x (either y p q) e = let w = both_hold (leads y p) (leads x q) e in (leads_told y p w.0, leads_told x q w.1)
leads_told x (token k p) e = leads_told x p e

pub fits_told : (r : Form) (next : Option ℕ) → fits r next ≡ true → Fits r next
fits_told nothing next e = tt
fits_told (sign x) next e = e
fits_told (seq p q) next e = let w = both_hold (fits p (first_of q next)) (fits q next) e in (fits_told p (first_of q next) w.0, fits_told q next w.1)
fits_told (many x p) next e =
    let v = both_hold (not (passes x next)) (leads x p && fits p next) e in
    let w = both_hold (leads x p) (fits p next) v.1 in
    (not_true (passes x next) v.0, leads_told x p w.0, fits_told p next w.1)
fits_told (either x p q) next e =
    let u = both_hold (not (passes x (first_of q next))) (leads x p && (fits p next && fits q next)) e in
    let v = both_hold (leads x p) (fits p next && fits q next) u.1 in
    let w = both_hold (fits p next) (fits q next) v.1 in
    (not_true (passes x (first_of q next)) u.0, leads_told x p v.0, fits_told p next w.0, fits_told q next w.1)
fits_told (token k p) next e = fits_told p next e
