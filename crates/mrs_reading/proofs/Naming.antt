-- The roles of an elementary predication, and which tokens break a condition on them.
use Rattle.std.proofs.Common.{◌≡◌, ◌≢◌, ℕ, ◌⊎◌, inl, inr, Bool, true, false, not, List, [], ◌∷◌, ◌++◌, refl, ap, sym, subst, codes}
use Rattle.std.specs.List.{Contains}
use Rattle.mrs_spelling.specs.declared.kinds.Kind.{Kind}
use Rattle.mrs_spelling.specs.declared.kinds.Kind.TheVariants.{PropValue, PredRun, PredText, Role, OpensText, EpEnd}
use Rattle.mrs_spelling.specs.Conditions.{Context, Given, BreaksIn, role_twice, no_label, label_text, other_value, after_kind}

abbrev pub may_break : Kind → Bool
may_break Role = true
may_break EpEnd = true
may_break OpensText = true
may_break PropValue = true
may_break _ = false

abbrev pub on_roles : Kind → Bool
on_roles PredRun = true
on_roles PredText = true
on_roles Role = true
on_roles _ = false

pub never_breaks : (c : Context) (gs : List Given) (k : Kind) (text : List ℕ) → may_break k ≡ false → BreaksIn c gs k text → ⊥
never_breaks c gs _ _ e (role_twice text h) = absurd (cc)
never_breaks c gs _ _ e (no_label text h) = absurd (cc)
never_breaks c gs _ _ e (label_text text before h) = absurd (cc)
never_breaks c gs _ _ e (other_value text g p q r w) = absurd (cc)

pub at_role_breaks : (c : Context) (gs : List Given) (k : Kind) (text : List ℕ) → k ≡ Role → BreaksIn c gs k text → Contains c.roles text
at_role_breaks c gs _ _ e (role_twice text h) = h
at_role_breaks c gs _ _ e (no_label text h) = absurd (cc)
at_role_breaks c gs _ _ e (label_text text before h) = absurd (cc)
at_role_breaks c gs _ _ e (other_value text g p q r w) = absurd (cc)

pub at_end_breaks : (c : Context) (gs : List Given) (k : Kind) (text : List ℕ) → k ≡ EpEnd → BreaksIn c gs k text → Contains c.roles (codes "lbl") → ⊥
at_end_breaks c gs _ _ e (role_twice text h) = absurd (cc)
at_end_breaks c gs _ _ e (no_label text h) = h
at_end_breaks c gs _ _ e (label_text text before h) = absurd (cc)
at_end_breaks c gs _ _ e (other_value text g p q r w) = absurd (cc)

pub at_text_breaks : (c : Context) (gs : List Given) (k : Kind) (text : List ℕ) → k ≡ OpensText → BreaksIn c gs k text → (before : List (List ℕ)) × (c.roles ≡ before ++ codes "lbl" ∷ [])
at_text_breaks c gs _ _ e (role_twice text h) = absurd (cc)
at_text_breaks c gs _ _ e (no_label text h) = absurd (cc)
at_text_breaks c gs _ _ e (label_text text before h) = (before, h)
at_text_breaks c gs _ _ e (other_value text g p q r w) = absurd (cc)

pub record Clash (c : Context) (gs : List Given) (text : List ℕ) : Type 0 where
  pub other : Given
  pub there : Contains gs other
  pub key : other.key ≡ c.key
  pub name : other.name ≡ c.name
  pub value : other.value ≢ text

pub at_value_breaks : (c : Context) (gs : List Given) (k : Kind) (text : List ℕ) → k ≡ PropValue → BreaksIn c gs k text → Clash c gs text
at_value_breaks c gs _ _ e (role_twice text h) = absurd (cc)
at_value_breaks c gs _ _ e (no_label text h) = absurd (cc)
at_value_breaks c gs _ _ e (label_text text before h) = absurd (cc)
at_value_breaks c gs _ _ e (other_value text g p q r w) = record { other = g; there = p; key = q; name = r; value = w }

pub breaks_at_role : (c : Context) (gs : List Given) (k : Kind) (text : List ℕ) → k ≡ Role → Contains c.roles text → BreaksIn c gs k text
breaks_at_role c gs k text e h = subst (λ (z : Kind). BreaksIn c gs z text) (sym e) (role_twice text h)

pub breaks_at_end : (c : Context) (gs : List Given) (k : Kind) (text : List ℕ) → k ≡ EpEnd → (Contains c.roles (codes "lbl") → ⊥) → BreaksIn c gs k text
breaks_at_end c gs k text e h = subst (λ (z : Kind). BreaksIn c gs z text) (sym e) (no_label text h)

pub breaks_at_text : (c : Context) (gs : List Given) (k : Kind) (text : List ℕ) → k ≡ OpensText → (before : List (List ℕ)) → c.roles ≡ before ++ codes "lbl" ∷ [] → BreaksIn c gs k text
breaks_at_text c gs k text e before h = subst (λ (z : Kind). BreaksIn c gs z text) (sym e) (label_text text before h)

-- only a value of a property or a token of an elementary predication breaks one
pub value_or_other : (k : Kind) → (k ≡ PropValue) ⊎ (k ≢ PropValue)
value_or_other PropValue = inl refl
value_or_other _ = inr (λ e. cc)

pub roles_stay : (c : Context) (k : Kind) (text : List ℕ) → on_roles k ≡ false → (after_kind c k text).roles ≡ c.roles
roles_stay c PredRun text e = absurd (cc)
roles_stay c PredText text e = absurd (cc)
roles_stay c Role text e = absurd (cc)
roles_stay c _ text e = refl

pub roles_begin : (c : Context) (k : Kind) (text : List ℕ) → (k ≡ PredRun) ⊎ (k ≡ PredText) → (after_kind c k text).roles ≡ []
roles_begin c k text (inl e) = ap (λ (z : Kind). (after_kind c z text).roles) e
roles_begin c k text (inr e) = ap (λ (z : Kind). (after_kind c z text).roles) e

pub roles_more : (c : Context) (k : Kind) (text : List ℕ) → k ≡ Role → (after_kind c k text).roles ≡ c.roles ++ text ∷ []
roles_more c k text e = ap (λ (z : Kind). (after_kind c z text).roles) e

-- a kind that is none of those that the reader of elementary predications looks at
pub quiet : (k : Kind) → k ≢ PredRun → k ≢ PredText → k ≢ Role → k ≢ OpensText → k ≢ EpEnd → k ≢ PropValue → (may_break k ≡ false) × (on_roles k ≡ false)
quiet PredRun a b c d e f = absurd (a refl)
quiet PredText a b c d e f = absurd (b refl)
quiet Role a b c d e f = absurd (c refl)
quiet OpensText a b c d e f = absurd (d refl)
quiet EpEnd a b c d e f = absurd (e refl)
quiet PropValue a b c d e f = absurd (f refl)
quiet _ a b c d e f = (refl, refl)

pub not_false : (b : Bool) → not b ≡ false → b ≡ true
not_false true e = refl
not_false false e = absurd (cc)
