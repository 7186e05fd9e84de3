-- The choices of one of each list.
use Rattle.std.specs.Prelude.{◌≡◌, List, [], ◌∷◌, ◌++◌, map, refl}
use Rattle.std.specs.List.{flat_map}
use Rattle.std.proofs.Common.{ap, subst, sym, ◌∙◌}
use Rattle.tree_model.specs.Lists.{Has, has_here, has_there, AllDiffer, differ_none, differ_more, choices}
use Rattle.tree_model.proofs.Members.{has_map, map_has, differ_map, differ_append, has_flat, flat_has}

-- one of each list, in order
pub data Picks {A : Type 0} : List A → List (List A) → Type 0 where
  picks_none : Picks [] []
  picks_more : {x : A} {xs ps : List A} {rest : List (List A)} → Has x xs → Picks ps rest → Picks (x ∷ ps) (xs ∷ rest)

module _ {A : Type 0} where
  pub has_choice : {ps : List A} {xss : List (List A)} → Picks ps xss → Has ps (choices xss)
  has_choice picks_none = has_here
  has_choice (picks_more {x = x} {rest = rest} h more) = flat_has (λ y. map (λ qs. y ∷ qs) (choices rest)) h (map_has (λ qs. x ∷ qs) (has_choice more))

  picks_from : (x : A) (xs : List A) (rest : List (List A)) (ps : List A) (qs : List A) → Has x xs → Picks qs rest → x ∷ qs ≡ ps → Picks ps (xs ∷ rest)
  picks_from x xs rest ps qs h p e = subst (λ zs. Picks zs (xs ∷ rest)) e (picks_more h p)

  pub choice_picks : (xss : List (List A)) {ps : List A} → Has ps (choices xss) → Picks ps xss
  choice_picks [] (has_here) = picks_none
  choice_picks [] (has_there h) = elim h [ ]
  choice_picks (xs ∷ rest) {ps = ps} h =
      let w = has_flat (λ x. map (λ qs. x ∷ qs) (choices rest)) xs h in
      let m = has_map (λ qs. w.source ∷ qs) (choices rest) w.within in
      picks_from w.source xs rest ps m.source w.has (choice_picks rest m.has) m.is

module _ {A B : Type 0} (f : A → B) where
  -- each list's elements have keys that differ
  pub data AllKeyed : List (List A) → Type 0 where
    keyed_none : AllKeyed []
    keyed_more : {xs : List A} {rest : List (List A)} → AllDiffer (map f xs) → AllKeyed rest → AllKeyed (xs ∷ rest)

  cons_apart : (y : B) (a b : List B) → y ∷ a ≡ y ∷ b → a ≡ b
  cons_apart y a b e = cc

  map_cons : (x : A) (cs : List (List A)) → map (map f) (map (λ qs. x ∷ qs) cs) ≡ map (λ qs. f x ∷ qs) (map (map f) cs)
  map_cons x [] = refl
  map_cons x (c ∷ cs) = ap (λ zs. (f x ∷ map f c) ∷ zs) (map_cons x cs)

  pub map_append : {X Y : Type 0} (g : X → Y) (xs ys : List X) → map g (xs ++ ys) ≡ map g xs ++ map g ys
  map_append g [] ys = refl
  map_append g (x ∷ xs) ys = ap (λ zs. g x ∷ zs) (map_append g xs ys)

  led : (xs : List A) (cs : List (List A)) (b : B) (bs : List B) → Has (b ∷ bs) (map (map f) (flat_map (λ x. map (λ qs. x ∷ qs) cs) xs)) → Has b (map f xs)
  led xs cs b bs h =
      let m = has_map (map f) (flat_map (λ x. map (λ qs. x ∷ qs) cs) xs) h in
      let w = has_flat (λ x. map (λ qs. x ∷ qs) cs) xs m.has in
      let n = has_map (λ qs. w.source ∷ qs) cs w.within in
      let e : f w.source ∷ map f n.source ≡ b ∷ bs = ap (map f) n.is ∙ m.is in
      let e2 : f w.source ≡ b = cc in
      subst (λ z. Has z (map f xs)) e2 (map_has f w.has)

  one_led : (x : A) (cs : List (List A)) (bs : List B) → Has bs (map (λ qs. f x ∷ qs) (map (map f) cs)) → (more : List B) × (f x ∷ more ≡ bs)
  one_led x cs bs h = let m = has_map (λ qs. f x ∷ qs) (map (map f) cs) h in (m.source, m.is)

  differ_lists : (xs : List A) (cs : List (List A)) → AllDiffer (map f xs) → AllDiffer (map (map f) cs) → AllDiffer (map (map f) (flat_map (λ x. map (λ qs. x ∷ qs) cs) xs))
  differ_lists [] cs a b = differ_none
  differ_lists (x ∷ xs) cs (differ_more not rest) b =
      let firsts : AllDiffer (map (λ qs. f x ∷ qs) (map (map f) cs)) = differ_map (λ qs. f x ∷ qs) (cons_apart (f x)) b in
      let others = differ_lists xs cs rest b in
      let e = map_append (map f) (map (λ qs. x ∷ qs) cs) (flat_map (λ y. map (λ qs. y ∷ qs) cs) xs) in
      let both = differ_append (subst AllDiffer (sym (map_cons x cs)) firsts) others (λ bs g h. let o = one_led x cs bs (subst (λ zs. Has bs zs) (map_cons x cs) g) in not (led xs cs (f x) o.0 (subst (λ z. Has z (map (map f) (flat_map (λ y. map (λ qs. y ∷ qs) cs) xs))) (sym o.1) h))) in
      subst AllDiffer (sym e) both

  pub differ_choices : {xss : List (List A)} → AllKeyed xss → AllDiffer (map (map f) (choices xss))
  differ_choices keyed_none = differ_more (λ h. elim h [ ]) differ_none
  differ_choices (keyed_more {xs = xs} {rest = rest} d more) = differ_lists xs (choices rest) d (differ_choices more)
