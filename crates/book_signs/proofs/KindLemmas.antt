-- Places of instances by their kinds.
use Rattle.std.proofs.Common.{ℕ, zero, suc, ◌≡◌, ◌+◌, ◌<◌, ◌⊎◌, inl, inr, Bool, true, false, List, [], ◌∷◌, ◌++◌, length, map, drop, get_or, Some, refl, sym, ◌∙◌, ap, subst, arith, append_assoc}
use Rattle.std.specs.Prelude.{slice_get}
use Rattle.std.proofs.lemmas.List.{append-nil, drop_more}
use Rattle.fs_model.specs.Claims.{Has, here, there}
use Rattle.tree_model.specs.Signs.{Kind, an_entry, a_lexical_rule, a_phrase_rule, a_root, another, Instance, is_phrase_rule, phrase_rules}
use Rattle.book_signs.specs.Trees.{is_entry, is_lexical_rule, is_root, places_where}
use Rattle.book_signs.specs.declared.kinds.Kinds.{Kinds}
use Rattle.book_signs.specs.Inner.Noted.{Notes, AreNoted, AreKinds}

where_cons : (test : Kind → Bool) (p : ℕ) (k : Kind) (ks : List Kind) → places_where test p (k ∷ ks) ≡ places_where test p (k ∷ []) ++ places_where test (p + 1) ks
where_cons test p k ks = by_test (test k) refl
  where
    by_test : (b : Bool) → test k ≡ b → places_where test p (k ∷ ks) ≡ places_where test p (k ∷ []) ++ places_where test (p + 1) ks
    by_test true e = rw e refl
    by_test false e = rw e refl

next_in : (test : Kind → Bool) (all old new : List ℕ) (p : ℕ) (k : Kind) (rest : List Kind) → new ≡ old ++ places_where test p (k ∷ []) → old ++ places_where test p (k ∷ rest) ≡ all → new ++ places_where test (p + 1) rest ≡ all
next_in test all old new p k rest e h =
    ap (λ l. l ++ places_where test (p + 1) rest) e ∙ append_assoc old (places_where test p (k ∷ [])) (places_where test (p + 1) rest) ∙ ap (λ l. old ++ l) (sym (where_cons test p k rest)) ∙ h

-- one instance more is noted
noted_cons : (kinds : List Kind) (p : ℕ) (k : Kind) (rest : List Kind) (old new : Kinds) → Notes p k old new → AreNoted kinds p (k ∷ rest) old → AreNoted kinds (p + 1) rest new
noted_cons kinds p k rest old new n h =
    record {
      entries = next_in is_entry _ _ _ p k rest n.entries h.entries;
      lexical_rules = next_in is_lexical_rule _ _ _ p k rest n.lexical_rules h.lexical_rules;
      phrase_rules = next_in is_phrase_rule _ _ _ p k rest n.phrase_rules h.phrase_rules;
      roots = next_in is_root _ _ _ p k rest n.roots h.roots;
    }

pub noted_next : (kinds : List Kind) (i : ℕ) (k : Kind) (old new : Kinds) → i < length kinds → k ≡ get_or kinds i k → Notes i k old new → AreNoted kinds i (drop i kinds) old → AreNoted kinds (i + 1) (drop (i + 1) kinds) new
noted_next kinds i k old new lt at n h =
    noted_cons kinds i k (drop (i + 1) kinds) old new n (subst (λ l. AreNoted kinds i l old) (drop_more kinds i k lt ∙ ap (λ x. x ∷ drop (i + 1) kinds) (sym at)) h)

noted_nil : (test : Kind → Bool) (xs all : List ℕ) (p : ℕ) → xs ++ places_where test p [] ≡ all → xs ≡ all
noted_nil test xs all p h = sym (append-nil xs) ∙ h

pub noted_all : (kinds : List Kind) (i : ℕ) (rest : List Kind) (noted : Kinds) → rest ≡ [] → AreNoted kinds i rest noted → AreKinds kinds noted
noted_all kinds i rest noted e h =
    let z = subst (λ l. AreNoted kinds i l noted) e h in
    record {
      entries = noted_nil is_entry _ _ i z.entries;
      lexical_rules = noted_nil is_lexical_rule _ _ i z.lexical_rules;
      phrase_rules = noted_nil is_phrase_rule _ _ i z.phrase_rules;
      roots = noted_nil is_root _ _ i z.roots;
    }

-- an instance of a kind at a place
pub record Kinded (test : Kind → Bool) (instances : List Instance) (p place : ℕ) : Type 0 where
  pub offset : ℕ
  pub place_is : place ≡ p + offset
  pub instance : Instance
  pub at : slice_get instances offset ≡ Some instance
  pub kind : test instance.kind ≡ true

has_first : {A : Type 0} {x y : A} {ys : List A} → Has x (y ∷ ys) → (x ≡ y) ⊎ Has x ys
has_first here = inl refl
has_first (there h) = inr h

-- what stands among the places is such an instance, and the other way round
pub kinded : (test : Kind → Bool) (p place : ℕ) (is : List Instance) → Has place (places_where test p (map (λ i. i.kind) is)) → Kinded test is p place
kinded test p place [] h = elim h [ ]
kinded test p place (i ∷ is) h = by_test (test i.kind) refl (λ k. kinded test (p + 1) place is k)
  where
    later : Kinded test is (p + 1) place → Kinded test (i ∷ is) p place
    later z = record { offset = suc z.offset; place_is = z.place_is ∙ omega arith; instance = z.instance; at = z.at; kind = z.kind }

    by_first : test i.kind ≡ true → (place ≡ p) ⊎ Has place (places_where test (p + 1) (map (λ i. i.kind) is)) → (Has place (places_where test (p + 1) (map (λ i. i.kind) is)) → Kinded test is (p + 1) place) → Kinded test (i ∷ is) p place
    by_first e (inl q) go = record { offset = 0; place_is = q ∙ omega arith; instance = i; at = refl; kind = e }
    by_first e (inr k) go = later (go k)

    by_test : (b : Bool) → test i.kind ≡ b → (Has place (places_where test (p + 1) (map (λ i. i.kind) is)) → Kinded test is (p + 1) place) → Kinded test (i ∷ is) p place
    by_test true e go = by_first e (has_first (rw e at h)) go
    by_test false e go = later (go (rw e at h))

pub has_kind : (test : Kind → Bool) (p n : ℕ) (is : List Instance) (i : Instance) → slice_get is n ≡ Some i → test i.kind ≡ true → Has (p + n) (places_where test p (map (λ i. i.kind) is))
has_kind test p n [] i e h = absurd (cc)
has_kind test p zero (j ∷ is) i e h =
    let x : j ≡ i = cc in
    let y : test j.kind ≡ true = ap (λ (z : Instance). test z.kind) x ∙ h in
    rw y (subst (λ m. Has m (p ∷ places_where test (p + 1) (map (λ i. i.kind) is))) (omega arith) here)
has_kind test p (suc n) (j ∷ is) i e h =
    let z = subst (λ m. Has m (places_where test (p + 1) (map (λ i. i.kind) is))) (omega arith) (has_kind test (p + 1) n is i e h) in
    by_test (test j.kind) refl z
  where
    by_test : (b : Bool) → test j.kind ≡ b → Has (p + suc n) (places_where test (p + 1) (map (λ i. i.kind) is)) → Has (p + suc n) (places_where test p (map (λ i. i.kind) (j ∷ is)))
    by_test true q z = rw q (there z)
    by_test false q z = rw q z

-- phrase rules are numbered as a chart numbers them
pub phrase_places : (p : ℕ) (is : List Instance) → places_where is_phrase_rule p (map (λ i. i.kind) is) ≡ map (λ r. r.0) (phrase_rules p is)
phrase_places p [] = refl
phrase_places p (i ∷ is) = by_test (is_phrase_rule i.kind) refl (phrase_places (p + 1) is)
  where
    by_test : (b : Bool) → is_phrase_rule i.kind ≡ b → places_where is_phrase_rule (p + 1) (map (λ i. i.kind) is) ≡ map (λ r. r.0) (phrase_rules (p + 1) is) → places_where is_phrase_rule p (map (λ i. i.kind) (i ∷ is)) ≡ map (λ r. r.0) (phrase_rules p (i ∷ is))
    by_test true q go = rw q (ap (λ l. p ∷ l) go)
    by_test false q go = rw q go

-- what a test of kinds says
pub entry_kind : (k : Kind) → is_entry k ≡ true → k ≡ an_entry
entry_kind an_entry h = refl
entry_kind a_lexical_rule h = absurd (cc)
entry_kind a_phrase_rule h = absurd (cc)
entry_kind a_root h = absurd (cc)
entry_kind another h = absurd (cc)

pub lexical_kind : (k : Kind) → is_lexical_rule k ≡ true → k ≡ a_lexical_rule
lexical_kind an_entry h = absurd (cc)
lexical_kind a_lexical_rule h = refl
lexical_kind a_phrase_rule h = absurd (cc)
lexical_kind a_root h = absurd (cc)
lexical_kind another h = absurd (cc)

pub root_kind : (k : Kind) → is_root k ≡ true → k ≡ a_root
root_kind an_entry h = absurd (cc)
root_kind a_lexical_rule h = absurd (cc)
root_kind a_phrase_rule h = absurd (cc)
root_kind a_root h = refl
root_kind another h = absurd (cc)
