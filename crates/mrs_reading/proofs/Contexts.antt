-- Contexts after one token more.
use Rattle.std.proofs.Common.{◌≡◌, ◌∙◌, List, [], ◌∷◌, ◌++◌, refl, ap, sym, subst, append_assoc, append-nil}
use Rattle.mrs_spelling.specs.Conditions.{Word, Context, nothing_before, after_kind, context_after, context, gives, given_after, given, BreaksAfter, AllKeep}

context_from : (c : Context) (ws : List Word) (w : Word) → context_after c (ws ++ w ∷ []) ≡ after_kind (context_after c ws) w.kind w.text
context_from c [] w = refl
context_from c (t ∷ ws) w = context_from (after_kind c t.kind t.text) ws w

pub context_more : (ws : List Word) (w : Word) → context (ws ++ w ∷ []) ≡ after_kind (context ws) w.kind w.text
context_more ws w = context_from nothing_before ws w

given_from : (c : Context) (ws : List Word) (w : Word) → given_after c (ws ++ w ∷ []) ≡ given_after c ws ++ gives (context_after c ws) w.kind w.text
given_from c [] w = append-nil (gives c w.kind w.text)
given_from c (t ∷ ws) w =
    let k = after_kind c t.kind t.text in
    ap (λ l. gives c t.kind t.text ++ l) (given_from k ws w) ∙ sym (append_assoc (gives c t.kind t.text) (given_after k ws) (gives (context_after k ws) w.kind w.text))

pub given_more : (ws : List Word) (w : Word) → given (ws ++ w ∷ []) ≡ given ws ++ gives (context ws) w.kind w.text
given_more ws w = given_from nothing_before ws w

-- the last of a list that splits
data Split (ws : List Word) (w : Word) (before : List Word) (t : Word) : Type 0 where
  last : before ≡ ws → t ≡ w → Split ws w before t
  within : (after : List Word) → ws ≡ before ++ t ∷ after → Split ws w before t

deeper : (a : Word) (ws : List Word) (w : Word) (before : List Word) (t : Word) → Split ws w before t → Split (a ∷ ws) w (a ∷ before) t
deeper a ws w before t (last e f) = last (ap (λ l. a ∷ l) e) f
deeper a ws w before t (within after e) = within after (ap (λ l. a ∷ l) e)

split_last : (ws : List Word) (w : Word) (before after : List Word) (t : Word) → ws ++ w ∷ [] ≡ before ++ t ∷ after → Split ws w before t
split_last [] w [] after t e = last refl (cc)
split_last [] w (b ∷ []) after t e = absurd (cc)
split_last [] w (b ∷ c ∷ before) after t e = absurd (cc)
split_last (a ∷ ws) w [] after t e = within ws (let i : a ≡ t = cc in ap (λ z. z ∷ ws) i)
split_last (a ∷ ws) w (b ∷ before) after t e =
    let i : a ≡ b = cc in
    let j : ws ++ w ∷ [] ≡ before ++ t ∷ after = cc in
    subst (λ (z : Word). Split (a ∷ ws) w (z ∷ before) t) i (deeper a ws w before t (split_last ws w before after t j))

keep_by : (ws : List Word) (w : Word) (before : List Word) (t : Word) → AllKeep ws → (BreaksAfter ws w → ⊥) → Split ws w before t → BreaksAfter before t → ⊥
keep_by ws w before t h k (last e f) b = k (subst (λ (z : List Word). BreaksAfter z w) e (subst (λ (z : Word). BreaksAfter before z) f b))
keep_by ws w before t h k (within after e) b = h before after t e b

pub keep_more : (ws : List Word) (w : Word) → AllKeep ws → (BreaksAfter ws w → ⊥) → AllKeep (ws ++ w ∷ [])
keep_more ws w h k = λ before after t e b. keep_by ws w before t h k (split_last ws w before after t e) b

no_split : (before after : List Word) (t : Word) → [] ≡ before ++ t ∷ after → ⊥
no_split [] after t e = absurd (cc)
no_split (b ∷ before) after t e = absurd (cc)

pub keep_none : AllKeep []
keep_none = λ before after t e b. no_split before after t e
