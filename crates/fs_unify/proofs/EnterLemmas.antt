-- What a graph's nodes force.
use Rattle.std.proofs.Common.{ℕ, ◌≡◌, ◌≤◌, ◌<◌, ◌+◌, ◌==◌, ◌⊎◌, inl, inr, Bool, true, false, cond, Some, None, List, [], ◌∷◌, ◌++◌, find, refl, sym, ◌∙◌, ap, subst, arith}
use Rattle.std.proofs.lemmas.Bool.{cases_lt, eqb-true}
use Rattle.std.specs.Option.{option_map}
use Rattle.fs_model.specs.Claims.{Claim, System, IsBare, Has, here, there}
use Rattle.fs_model.specs.Table.{NodeClaim, is_under, from, Seen}
use Rattle.fs_closing.specs.Joined.{IsJoined}
use Rattle.fs_closing.specs.Keeps.{PushesFacts}
use Rattle.fs_closing.proofs.HasLemmas.{Has-left, Has-right, Has-either, Has-map, Has-of_map}
use Rattle.fs_graph.specs.declared.graph.GraphArc.{GraphArc}
use Rattle.fs_graph.specs.GraphMap.{GraphMap, table_of, type_at, arc_to, arcs_at}
use Rattle.fs_unify.specs.Entering.{Owes, introducer_claims}
pub use Rattle.fs_closing.proofs.BesideLemmas.{rises_found}

abbrev pub no_arc : GraphArc
no_arc = record { feat = record { 0 = 0 }; to = record { 0 = 0 } }

-- what a look-up finds is listed
pub arc_to_has : (arcs : List GraphArc) (f m : ℕ) → arc_to arcs f ≡ Some m → (a : GraphArc) × Has a arcs × (a.feat.0 ≡ f) × (a.to.0 ≡ m)
arc_to_has [] f m e = absurd (let h : None ≡ Some m = e in cc)
arc_to_has (a ∷ arcs) f m e = go (a.feat.0 == f) refl e (arc_to_has arcs f m)
  where
    go : (b : Bool) → (a.feat.0 == f) ≡ b → arc_to (a ∷ arcs) f ≡ Some m → (arc_to arcs f ≡ Some m → (x : GraphArc) × Has x arcs × (x.feat.0 ≡ f) × (x.to.0 ≡ m)) →
        (x : GraphArc) × Has x (a ∷ arcs) × (x.feat.0 ≡ f) × (x.to.0 ≡ m)
    go true is e' rest =
        let found : Some a.to.0 ≡ Some m = sym (ap (λ b. option_map (λ x. x.to.0) (cond b (Some a) (find (λ x. x.feat.0 == f) arcs))) is) ∙ e' in
        (a, here, eqb-true a.feat.0 f is, (let h : a.to.0 ≡ m = cc in h))
    go false is e' rest =
        let r = rest (sym (ap (λ b. option_map (λ x. x.to.0) (cond b (Some a) (find (λ x. x.feat.0 == f) arcs))) is) ∙ e') in
        (r.0, there r.1, r.2, r.3)

-- what one more node forces
pub owes_none : (s : System) (offset : ℕ) (g : GraphMap) (work : List NodeClaim) → Owes s offset g 0 work work
owes_none s offset g work = record {
  facts = λ k x c h b i. absurd (omega arith);
  introduces = λ k a h i. absurd (omega arith);
  rest = λ c h. h;
  only = λ c h. inr (inr h);
}

pub owes_more : (s : System) (offset n at : ℕ) (g : GraphMap) (ty : ℕ) (arcs : List GraphArc) (work one two three : List NodeClaim) → IsBare s → s.top ≡ 0 →
    at ≡ offset + n → ty ≡ type_at g n → arcs ≡ arcs_at g n → Owes s offset g n work one → PushesFacts s at ty 0 0 one two →
    IsJoined (introducer_claims s at arcs) two three → Owes s offset g (n + 1) work three
owes_more s offset n at g ty arcs work one two three bare top is_at is_ty is_arcs old pushed joined = record {
  facts = λ k x c h b i. facts k x c h b i (cases_lt k n);
  introduces = λ k a h i. introduces k a h i (cases_lt k n);
  rest = λ c h. joined.from_old c (pushed.rest c (old.rest c h));
  only = λ c h. last c (joined.only c h);
}
  where
    facts : (k x : ℕ) (c : Claim) → k < n + 1 → s.is_below (type_at g k) x ≡ true → Has c (s.facts_of x) → (k < n) ⊎ (n ≤ k) →
        Has (from (offset + k) c) three ⊎ Seen s (table_of g) (from k c)
    facts k x c h b i (inl a) = kept (old.facts k x c a b i)
      where
        kept : Has (from (offset + k) c) one ⊎ Seen s (table_of g) (from k c) → Has (from (offset + k) c) three ⊎ Seen s (table_of g) (from k c)
        kept (inl z) = inl (joined.from_old _ (pushed.rest _ z))
        kept (inr z) = inr z
    facts k x c h b i (inr a) = go (pushed.facts x c (ap (λ y. s.is_below y x) (is_ty ∙ ap (type_at g) (sym e)) ∙ b) i)
      where
        e : k ≡ n
        e = omega arith

        go : (s.is_below 0 x ≡ true) ⊎ ((s.is_below 0 x ≡ true) ⊎ Has (from at c) two) → Has (from (offset + k) c) three ⊎ Seen s (table_of g) (from k c)
        go (inl z) = absurd (bare x c (ap (λ y. s.is_below y x) top ∙ z) i)
        go (inr (inl z)) = absurd (bare x c (ap (λ y. s.is_below y x) top ∙ z) i)
        go (inr (inr z)) = inl (subst (λ y. Has (from y c) three) (let d : at ≡ offset + k = omega (arith, is_at) in d) (joined.from_old _ z))

    introduces : (k : ℕ) (a : GraphArc) → k < n + 1 → Has a (arcs_at g k) → (k < n) ⊎ (n ≤ k) →
        Has (is_under (offset + k) [] (s.introducer a.feat.0)) three ⊎ (s.is_below (type_at g k) (s.introducer a.feat.0) ≡ true)
    introduces k a h i (inl b) = kept (old.introduces k a b i)
      where
        kept : Has (is_under (offset + k) [] (s.introducer a.feat.0)) one ⊎ (s.is_below (type_at g k) (s.introducer a.feat.0) ≡ true) →
            Has (is_under (offset + k) [] (s.introducer a.feat.0)) three ⊎ (s.is_below (type_at g k) (s.introducer a.feat.0) ≡ true)
        kept (inl z) = inl (joined.from_old _ (pushed.rest _ z))
        kept (inr z) = inr z
    introduces k a h i (inr b) =
        let e : k ≡ n = omega arith in
        let d : at ≡ offset + k = omega (arith, is_at) in
        inl (subst (λ y. Has (is_under y [] (s.introducer a.feat.0)) three) d
        (joined.from_new _ (Has-map (λ (z : GraphArc). is_under at [] (s.introducer z.feat.0)) a arcs
        (subst (Has a) (ap (arcs_at g) e ∙ sym is_arcs) i))))

    first : (c : NodeClaim) →
        ((k : ℕ) × (x : ℕ) × (d : Claim) × (k < n) × (s.is_below (type_at g k) x ≡ true) × Has d (s.facts_of x) × (c ≡ from (offset + k) d)) ⊎
        ((k : ℕ) × (a : GraphArc) × (k < n) × Has a (arcs_at g k) × (c ≡ is_under (offset + k) [] (s.introducer a.feat.0))) ⊎ Has c work →
        ((k : ℕ) × (x : ℕ) × (d : Claim) × (k < n + 1) × (s.is_below (type_at g k) x ≡ true) × Has d (s.facts_of x) × (c ≡ from (offset + k) d)) ⊎
        ((k : ℕ) × (a : GraphArc) × (k < n + 1) × Has a (arcs_at g k) × (c ≡ is_under (offset + k) [] (s.introducer a.feat.0))) ⊎ Has c work
    first c (inl (k, x, d, h, b, i, e)) = inl (k, x, d, omega arith, b, i, e)
    first c (inr (inl (k, a, h, i, e))) = inr (inl (k, a, omega arith, i, e))
    first c (inr (inr h)) = inr (inr h)

    middle : (c : NodeClaim) → ((x : ℕ) × (d : Claim) × (s.is_below ty x ≡ true) × Has d (s.facts_of x) × (c ≡ from at d)) ⊎ Has c one →
        ((k : ℕ) × (x : ℕ) × (d : Claim) × (k < n + 1) × (s.is_below (type_at g k) x ≡ true) × Has d (s.facts_of x) × (c ≡ from (offset + k) d)) ⊎
        ((k : ℕ) × (a : GraphArc) × (k < n + 1) × Has a (arcs_at g k) × (c ≡ is_under (offset + k) [] (s.introducer a.feat.0))) ⊎ Has c work
    middle c (inl (x, d, b, i, e)) =
        inl (n, x, d, omega arith, ap (λ y. s.is_below y x) (sym is_ty) ∙ b, i, e ∙ ap (λ y. from y d) is_at)
    middle c (inr h) = first c (old.only c h)

    last : (c : NodeClaim) → Has c (introducer_claims s at arcs) ⊎ Has c two →
        ((k : ℕ) × (x : ℕ) × (d : Claim) × (k < n + 1) × (s.is_below (type_at g k) x ≡ true) × Has d (s.facts_of x) × (c ≡ from (offset + k) d)) ⊎
        ((k : ℕ) × (a : GraphArc) × (k < n + 1) × Has a (arcs_at g k) × (c ≡ is_under (offset + k) [] (s.introducer a.feat.0))) ⊎ Has c work
    last c (inl h) =
        let r = Has-of_map (λ (z : GraphArc). is_under at [] (s.introducer z.feat.0)) c arcs h in
        inr (inl (n, r.0, omega arith, subst (Has r.0) is_arcs r.1, r.2 ∙ ap (λ y. is_under y [] (s.introducer r.0.feat.0)) is_at))
    last c (inr h) = middle c (pushed.only c h)

pub joined_none : (work : List NodeClaim) → IsJoined [] work work
joined_none work = record { from_new = λ c h. elim h [ ]; from_old = λ c h. h; only = λ c h. inr h }

pub joined_more : (xs xs' : List NodeClaim) (y : NodeClaim) (old now new : List NodeClaim) → xs' ≡ xs ++ y ∷ [] → IsJoined xs old now → IsJoined (y ∷ []) now new →
    IsJoined xs' old new
joined_more xs xs' y old now new is a b = record {
  from_new = λ c h. from_new c (Has-either c xs (y ∷ []) (subst (Has c) is h));
  from_old = λ c h. b.from_old c (a.from_old c h);
  only = λ c h. only c (b.only c h);
}
  where
    from_new : (c : NodeClaim) → Has c xs ⊎ Has c (y ∷ []) → Has c new
    from_new c (inl h) = b.from_old c (a.from_new c h)
    from_new c (inr h) = b.from_new c h

    only : (c : NodeClaim) → Has c (y ∷ []) ⊎ Has c now → Has c xs' ⊎ Has c old
    only c (inl h) = inl (subst (Has c) (sym is) (Has-right c xs (y ∷ []) h))
    only c (inr h) = go (a.only c h)
      where
        go : Has c xs ⊎ Has c old → Has c xs' ⊎ Has c old
        go (inl i) = inl (subst (Has c) (sym is) (Has-left c xs (y ∷ []) i))
        go (inr i) = inr i

-- work that is joined twice
pub joined_both : (xs ys : List NodeClaim) (old now new : List NodeClaim) → IsJoined xs old now → IsJoined ys now new → IsJoined (xs ++ ys) old new
joined_both xs ys old now new a b = record {
  from_new = λ c h. from_new c (Has-either c xs ys h);
  from_old = λ c h. b.from_old c (a.from_old c h);
  only = λ c h. only c (b.only c h);
}
  where
    from_new : (c : NodeClaim) → Has c xs ⊎ Has c ys → Has c new
    from_new c (inl h) = b.from_old c (a.from_new c h)
    from_new c (inr h) = b.from_new c h

    only : (c : NodeClaim) → Has c ys ⊎ Has c now → Has c (xs ++ ys) ⊎ Has c old
    only c (inl h) = inl (Has-right c xs ys h)
    only c (inr h) = go (a.only c h)
      where
        go : Has c xs ⊎ Has c old → Has c (xs ++ ys) ⊎ Has c old
        go (inl i) = inl (Has-left c xs ys i)
        go (inr i) = inr i
