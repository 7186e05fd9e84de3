-- The arcs of a node are drawn one by one.
use Rattle.std.proofs.Common.{ℕ, ◌≡◌, ◌≢◌, ◌⊎◌, inl, inr, Option, Some, None, List, [], ◌∷◌, ◌++◌, refl, sym, ◌∙◌, ap, subst}
use Rattle.std.specs.Option.{option_map}
use Rattle.fs_model.proofs.StepLemmas.{same_or_other}
use Rattle.fs_closing.specs.declared.cells.Cell.{Cell}
use Rattle.fs_closing.specs.Cells.{find_arc, AreOnce}
use Rattle.fs_closing.proofs.ChainLemmas.{find_arc-here, find_arc-past, find_left, find_right}

-- a feature is drawn, or is left
pub record DrawsCells (live : ℕ → ℕ) (all left : List Cell) (arc : ℕ → Option ℕ) : Type 0 where
  pub each : (f : ℕ) → ((find_arc left f ≡ None) × (arc f ≡ option_map live (find_arc all f))) ⊎ ((arc f ≡ None) × (find_arc left f ≡ find_arc all f))

left_free : (xs ys : List Cell) (f : ℕ) → find_arc (xs ++ ys) f ≡ None → find_arc xs f ≡ None
left_free xs ys f e = go (find_arc xs f) refl
  where
    go : (o : Option ℕ) → find_arc xs f ≡ o → find_arc xs f ≡ None
    go None is = is
    go (Some m) is = absurd (let h : Some m ≡ None = sym (find_left xs ys f m is) ∙ e in cc)

pub once_left : (xs ys : List Cell) → AreOnce (xs ++ ys) → AreOnce xs
once_left [] ys once = tt
once_left (x ∷ xs) ys once = (left_free xs ys x.feat once.0, once_left xs ys once.1)

-- what is found in the first list is not in the second one
right_free : (xs ys : List Cell) (f m : ℕ) → AreOnce (xs ++ ys) → find_arc xs f ≡ Some m → find_arc ys f ≡ None
right_free [] ys f m once e = absurd (let h : None ≡ Some m = e in cc)
right_free (x ∷ xs) ys f m once e = go (same_or_other x.feat f) (right_free xs ys f m once.1)
  where
    go : (x.feat ≡ f) ⊎ (x.feat ≢ f) → (find_arc xs f ≡ Some m → find_arc ys f ≡ None) → find_arc ys f ≡ None
    go (inl d) rest =
        let all : find_arc (xs ++ ys) f ≡ None = ap (find_arc (xs ++ ys)) (sym d) ∙ once.0 in
        sym (find_right xs ys f (left_free xs ys f all)) ∙ all
    go (inr d) rest = rest (sym (find_arc-past x xs f d) ∙ e)

-- the second list is drawn, and the first one is left
pub draws_rest : (live : ℕ → ℕ) (xs ys : List Cell) (arc : ℕ → Option ℕ) → AreOnce (xs ++ ys) → ((f : ℕ) → arc f ≡ option_map live (find_arc ys f)) →
    DrawsCells live (xs ++ ys) xs arc
draws_rest live xs ys arc once drawn = record { each = λ f. go f (find_arc xs f) refl }
  where
    go : (f : ℕ) (o : Option ℕ) → find_arc xs f ≡ o →
        ((find_arc xs f ≡ None) × (arc f ≡ option_map live (find_arc (xs ++ ys) f))) ⊎ ((arc f ≡ None) × (find_arc xs f ≡ find_arc (xs ++ ys) f))
    go f None is = inl (is, drawn f ∙ ap (option_map live) (sym (find_right xs ys f is)))
    go f (Some m) is =
        inr (drawn f ∙ ap (option_map live) (right_free xs ys f m once is), is ∙ sym (find_left xs ys f m is))

pub draws_free : (live : ℕ → ℕ) (all left rest : List Cell) (c : Cell) (arc : ℕ → Option ℕ) → left ≡ c ∷ rest → DrawsCells live all left arc → arc c.feat ≡ None
draws_free live all left rest c arc is d = go (d.each c.feat)
  where
    go : ((find_arc left c.feat ≡ None) × (arc c.feat ≡ option_map live (find_arc all c.feat))) ⊎ ((arc c.feat ≡ None) × (find_arc left c.feat ≡ find_arc all c.feat)) →
        arc c.feat ≡ None
    go (inl (e, _)) =
        absurd (let h : None ≡ Some c.to = sym e ∙ ap (λ l. find_arc l c.feat) is ∙ find_arc-here c rest c.feat refl in cc)
    go (inr (e, _)) = e

pub draws_step : (live : ℕ → ℕ) (all left rest : List Cell) (c : Cell) (to : ℕ) (arc arc' : ℕ → Option ℕ) → left ≡ c ∷ rest → AreOnce left → to ≡ live c.to →
    arc' c.feat ≡ Some to → ((f : ℕ) → f ≢ c.feat → arc' f ≡ arc f) → DrawsCells live all left arc → DrawsCells live all rest arc'
draws_step live all left rest c to arc arc' is once is_to here others d = record { each = λ f. each f (same_or_other f c.feat) (d.each f) }
  where
    once' : (find_arc rest c.feat ≡ None) × AreOnce rest
    once' = subst AreOnce is once

    each : (f : ℕ) → (f ≡ c.feat) ⊎ (f ≢ c.feat) →
        ((find_arc left f ≡ None) × (arc f ≡ option_map live (find_arc all f))) ⊎ ((arc f ≡ None) × (find_arc left f ≡ find_arc all f)) →
        ((find_arc rest f ≡ None) × (arc' f ≡ option_map live (find_arc all f))) ⊎ ((arc' f ≡ None) × (find_arc rest f ≡ find_arc all f))
    each f (inl e) (inl (a, b)) =
        absurd (let h : None ≡ Some c.to = sym a ∙ ap (λ l. find_arc l f) is ∙ find_arc-here c rest f (sym e) in cc)
    each f (inl e) (inr (a, b)) =
        let found : find_arc all f ≡ Some c.to = sym b ∙ ap (λ l. find_arc l f) is ∙ find_arc-here c rest f (sym e) in
        inl (ap (find_arc rest) e ∙ once'.0, ap arc' e ∙ here ∙ ap Some is_to ∙ sym (ap (option_map live) found))
    each f (inr e) (inl (a, b)) = inl (sym (find_arc-past c rest f (λ q. e (sym q))) ∙ sym (ap (λ l. find_arc l f) is) ∙ a, others f e ∙ b)
    each f (inr e) (inr (a, b)) = inr (others f e ∙ a, sym (find_arc-past c rest f (λ q. e (sym q))) ∙ sym (ap (λ l. find_arc l f) is) ∙ b)

pub draws_end : (live : ℕ → ℕ) (all : List Cell) (arc : ℕ → Option ℕ) → DrawsCells live all [] arc → (f : ℕ) → arc f ≡ option_map live (find_arc all f)
draws_end live all arc d f = go (d.each f)
  where
    go : ((find_arc [] f ≡ None) × (arc f ≡ option_map live (find_arc all f))) ⊎ ((arc f ≡ None) × (find_arc [] f ≡ find_arc all f)) →
        arc f ≡ option_map live (find_arc all f)
    go (inl (_, b)) = b
    go (inr (a, b)) = a ∙ ap (option_map live) b
