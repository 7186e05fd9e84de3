-- Lists that follow one another, by the nodes at which they begin and end.
use Rattle.std.specs.Prelude.{ℕ, ◌≡◌, ◌⊎◌, Some, List, [], ◌∷◌, ◌++◌, map}
use Rattle.std.proofs.Common.{refl, sym, subst, arith, zero, suc, inl, inr}
use Rattle.std.specs.List.{Contains}
use Rattle.std.specs.List.Sorted.{IsPermutation}
use Rattle.std.proofs.lemmas.List.Sorted.{Contains-permutation, IsPermutation-sym}
use Rattle.fs_model.specs.Claims.{Path, same, Has, here, there}
use Rattle.fs_model.specs.Closure.{Closure}
use Rattle.fs_model.specs.Sources.{Told}
use Rattle.fs_graph.specs.GraphMap.{GraphMap, node_at, reader_of}
use Rattle.tree_model.specs.Views.{Shows}
use Rattle.tree_model.specs.Mothers.{Rule, RuleSystem}
use Rattle.generate_model.specs.Threads.{Open, Reaches}
use Rattle.generate_model.specs.Embedding.{moved_to}
use Rattle.generate_model.specs.Threading.{Links, links_none, links_next, IsThreading}
use Rattle.relation_fit.specs.Lists.{RelList}
use Rattle.relation_fit.specs.Inner.Links.{Seen, Linked}
use Rattle.relation_fit.proofs.Nodes.{some_one}

-- members of lists
has_contains : {A : Type 0} {x : A} {xs : List A} → Has x xs → Contains xs x
has_contains here = (0, omega arith, refl)
has_contains (there h) = let r = has_contains h in (suc r.0, (let lt = r.1 in omega (arith, lt)), r.2)

contains_has : {A : Type 0} (xs : List A) (x : A) → Contains xs x → Has x xs
contains_has [] x c = absurd (let lt = c.1 in omega (arith, lt))
contains_has (y ∷ xs) x (zero, lt, e) = subst (λ z. Has z (y ∷ xs)) e here
contains_has (y ∷ xs) x (suc k, lt, e) = there (contains_has xs x (k, omega (arith, lt), e))

has_moved : {A : Type 0} (xs ys : List A) (x : A) → IsPermutation xs ys → Has x xs → Has x ys
has_moved xs ys x p h = contains_has ys x (Contains-permutation xs ys x p (has_contains h))

first_or : {A : Type 0} {x y : A} {ys : List A} → Has x (y ∷ ys) → (x ≡ y) ⊎ Has x ys
first_or here = inl refl
first_or (there h) = inr h

has_left : {A : Type 0} {x : A} {xs : List A} (ys : List A) → Has x xs → Has x (xs ++ ys)
has_left ys here = here
has_left ys (there h) = there (has_left ys h)

has_last : {A : Type 0} (xs : List A) (x : A) → Has x (xs ++ x ∷ [])
has_last [] x = here
has_last (y ∷ xs) x = there (has_last xs x)

left_or_last : {A : Type 0} (xs : List A) {x y : A} → Has x (xs ++ y ∷ []) → Has x xs ⊎ (x ≡ y)
left_or_last [] here = inr refl
left_or_last [] (there h) = elim h [ ]
left_or_last (z ∷ xs) here = inl here
left_or_last (z ∷ xs) (there h) = elim (left_or_last xs h) [ inl m ↦ inl (there m) | inr e ↦ inr e ]

module _ (g : GraphMap) where
  trans : (p q r : Path) → Seen g (same p q) → Seen g (same q r) → Seen g (same p r)
  trans p q r a b = (a.0, a.1, subst (λ n. node_at g r ≡ Some n) (sym (some_one a.2 b.1)) b.2)

  links_last : {a p : Path} {os : List Open} (o : Open) → Links (Seen g) a os p → Seen g (same p o.start) → Seen g (same o.end o.end) → Links (Seen g) a (os ++ o ∷ []) o.end
  links_last o (links_none {a = a} {b = b} h) s e = links_next (trans a b o.start h s) (links_none e)
  links_last o (links_next h ls) s e = links_next h (links_last o ls s e)

  links_end : {a p : Path} {os : List Open} (b : Path) → Links (Seen g) a os p → Seen g (same p b) → Links (Seen g) a os b
  links_end b (links_none {a = a} {b = p} h) s = links_none (trans a p b h s)
  links_end b (links_next h ls) s = links_next h (links_end b ls s)

  module _ (l : RelList) (places : List Path) where
    pub linked_none : (left : List Open) → left ≡ map (λ p. moved_to p l.ends) places → (n : ℕ) → node_at g l.ends.start ≡ Some n → Linked g l places left l.ends.start
    linked_none left e n at = record {
      opens = [];
      links = links_none (n, at, at);
      each = λ o h. elim h [ ];
      all = λ place h. inr (subst (λ os. Has (moved_to place l.ends) os) (sym e) (has_map h));
      among = λ o h. map_has places (subst (λ os. Has o os) e h);
    }
      where
        has_map : {place : Path} {ps : List Path} → Has place ps → Has (moved_to place l.ends) (map (λ p. moved_to p l.ends) ps)
        has_map here = here
        has_map (there h) = there (has_map h)

        map_has : {o : Open} (ps : List Path) → Has o (map (λ p. moved_to p l.ends) ps) → (place : Path) × Has place ps × (o ≡ moved_to place l.ends)
        map_has [] h = elim h [ ]
        map_has (p ∷ ps) here = (p, here, refl)
        map_has (p ∷ ps) (there h) = let r = map_has ps h in (r.0, there r.1, r.2)

    -- a cell of the rule's own
    pub linked_cell : (left : List Open) (path : Path) (n m : ℕ) → node_at g path ≡ Some n → node_at g (path ++ l.rest ∷ []) ≡ Some m → Linked g l places left path → Linked g l places left (path ++ l.rest ∷ [])
    linked_cell left path n m here_is next_is k = record {
      opens = k.opens ++ own ∷ [];
      links = links_last own k.links (n, here_is, here_is) (m, next_is, next_is);
      each = λ o h. elim (left_or_last k.opens h) [ inl a ↦ k.each o a | inr e ↦ inr (1, subst (λ x. Reaches (Seen g) l.rest x 1) (sym e) (m, next_is, next_is)) ];
      all = λ place h. elim (k.all place h) [ inl a ↦ inl (has_left (own ∷ []) a) | inr b ↦ inr b ];
      among = k.among;
    }
      where
        own : Open
        own = record { start = path; end = path ++ l.rest ∷ [] }

    -- a daughter's list
    pub linked_daughter : (left more : List Open) (taken : Open) (path : Path) (n m : ℕ) → IsPermutation left (taken ∷ more) → node_at g path ≡ Some n → node_at g taken.start ≡ Some n → node_at g taken.end ≡ Some m → Linked g l places left path →
        Linked g l places more taken.end
    linked_daughter left more taken path n m moved here_is begins ends k = record {
      opens = k.opens ++ taken ∷ [];
      links = links_last taken k.links (n, here_is, begins) (m, ends, ends);
      each = λ o h. elim (left_or_last k.opens h) [ inl a ↦ k.each o a | inr e ↦ inl (of_daughter o e) ];
      all = λ place h. elim (k.all place h) [ inl a ↦ inl (has_left (taken ∷ []) a) | inr b ↦ by_first place (first_or (has_moved left (taken ∷ more) (moved_to place l.ends) moved b)) ];
      among = λ o h. k.among o (has_moved (taken ∷ more) left o (IsPermutation-sym left (taken ∷ more) moved) (there h));
    }
      where
        of_daughter : (o : Open) → o ≡ taken → (place : Path) × Has place places × (o ≡ moved_to place l.ends)
        of_daughter o e = k.among o (has_moved (taken ∷ more) left o (IsPermutation-sym left (taken ∷ more) moved) (subst (λ x. Has x (taken ∷ more)) (sym e) here))

        by_first : (place : Path) → (moved_to place l.ends ≡ taken) ⊎ Has (moved_to place l.ends) more → Has (moved_to place l.ends) (k.opens ++ taken ∷ []) ⊎ Has (moved_to place l.ends) more
        by_first place (inl e) = inl (subst (λ x. Has x (k.opens ++ taken ∷ [])) (sym e) (has_last k.opens taken))
        by_first place (inr h) = inr h

    -- all are linked
    pub linked_threads : (path : Path) (n : ℕ) → node_at g path ≡ Some n → node_at g l.ends.end ≡ Some n → Linked g l places [] path →
        (h : RuleSystem) (rule : Rule) → rule.places ≡ places → Shows h.system (Closure h.system (Told rule.facts)) (reader_of g) → IsThreading h l.rest l.ends rule
    linked_threads path n here_is ends k h rule e shows = record {
      opens = k.opens;
      links = grown (links_end l.ends.end k.links (n, here_is, ends));
      each = λ o m. elim (k.each o m) [ inl a ↦ inl (a.0, subst (λ ps. Has a.0 ps) (sym e) a.1, a.2) | inr b ↦ inr (b.0, shown b.1) ];
      all = λ place m. elim (k.all place (subst (λ ps. Has place ps) e m)) [ inl a ↦ a | inr b ↦ elim b [ ] ];
    }
      where
        shown : {p q : Path} → Seen g (same p q) → Closure h.system (Told rule.facts) (same p q)
        shown {p} {q} s = (shows.equalities p q).1 s

        grown : {a b : Path} {os : List Open} → Links (Seen g) a os b → Links (Closure h.system (Told rule.facts)) a os b
        grown (links_none s) = links_none (shown s)
        grown (links_next s ls) = links_next (shown s) (grown ls)
