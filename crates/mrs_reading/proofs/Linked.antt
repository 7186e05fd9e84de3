-- What is read of constraints, token by token.
use Rattle.std.proofs.Common.{◌≡◌, ◌≢◌, ℕ, ◌∙◌, inl, inr, Bool, true, false, List, [], ◌∷◌, ◌++◌, Option, Some, None, IfSome, if◌then◌else◌, ◌↔◌, refl, ap, sym, subst, append_assoc, append-nil, arith}
use Rattle.std.specs.List.{slice_get, AllZip, Contains}
use Rattle.std.proofs.lemmas.Option.{slice_get_within, get_or_from_slice_get}
use Rattle.std.proofs.lemmas.List.Elements.{Contains-append_left, Contains-push, Contains-push_cases}
use Rattle.mrs_model.specs.Meanings.{Constraint}
use Rattle.mrs_spelling.specs.declared.kinds.Kind.{Kind}
use Rattle.mrs_spelling.specs.declared.kinds.Kind.TheVariants.{High, HandleRel, Low, Left, VariableRel, Right}
use Rattle.mrs_reading.specs.Meaning.{Piece, low, Is, IsWritten, is_variable, after_all, emitted, Ends, ends_after, Linked, link_at, no_ends, links, IsConstraintOf, is_high, is_handle_rel, is_low, is_left, is_variable_rel, is_right}
use Rattle.mrs_reading.specs.Inner.Reading.{IsLinked, IsMarked, unmarked, marked, Grows}
use Rattle.mrs_reading.proofs.Tabled.{get_front}

pub after_more : {C : Type 0} (next : C → Piece → C) (c : C) (ps : List Piece) (p : Piece) → after_all next c (ps ++ p ∷ []) ≡ next (after_all next c ps) p
after_more next c [] p = refl
after_more next c (q ∷ ps) p = after_more next (next c q) ps p

pub emitted_more : {C A : Type 0} (next : C → Piece → C) (gives : C → Piece → List A) (c : C) (ps : List Piece) (p : Piece) → emitted next gives c (ps ++ p ∷ []) ≡ emitted next gives c ps ++ gives (after_all next c ps) p
emitted_more next gives c [] p = append-nil (gives c p)
emitted_more next gives c (q ∷ ps) p = ap (λ z. gives c q ++ z) (emitted_more next gives (next c q) ps p) ∙ sym (append_assoc (gives c q) (emitted next gives (next c q) ps) (gives (after_all next (next c q) ps) p))

pub zip_more : {A B : Type 0} (R : A → B → Type 0) (xs : List A) (ys : List B) (x : A) (y : B) → AllZip R xs ys → R x y → AllZip R (xs ++ x ∷ []) (ys ++ y ∷ [])
zip_more R [] [] x y h r = (r, tt)
zip_more R [] (b ∷ ys) x y h r = absurd h
zip_more R (a ∷ xs) [] x y h r = absurd h
zip_more R (a ∷ xs) (b ∷ ys) x y h r = (h.0, zip_more R xs ys x y h.1 r)

pub zip_weaker : {A B : Type 0} (R S : A → B → Type 0) (xs : List A) (ys : List B) → ((x : A) (y : B) → R x y → S x y) → AllZip R xs ys → AllZip S xs ys
zip_weaker R S [] [] f h = tt
zip_weaker R S [] (b ∷ ys) f h = absurd h
zip_weaker R S (a ∷ xs) [] f h = absurd h
zip_weaker R S (a ∷ xs) (b ∷ ys) f h = (f a b h.0, zip_weaker R S xs ys f h.1)

some_weaker : (o : Option Piece) (P Q : Piece → Type 0) → ((p : Piece) → P p → Q p) → IfSome o P → IfSome o Q
some_weaker None P Q f h = tt
some_weaker (Some p) P Q f h = f p h

-- more variables
pub linked_grown : (first rel second : Kind → Bool) (keys more : List (List ℕ)) (ps : List Piece) (left : ℕ) (relation : List ℕ) (cs : List Constraint) → IsLinked first rel second keys ps left relation cs → IsLinked first rel second (keys ++ more) ps left relation cs
linked_grown first rel second keys more ps left relation cs h = record {
  done = zip_weaker (IsConstraintOf keys) (IsConstraintOf (keys ++ more)) (links first rel second ps) cs (λ l c k. record {
    left = some_weaker l.ends.first (λ f. Is keys f c.left) (λ f. Is (keys ++ more) f c.left) (λ f e. get_front keys more c.left (low f) e) k.left;
    rel = k.rel;
    right = get_front keys more c.right (low l.second) k.right;
  }) h.done;
  seen = some_weaker (after_all (ends_after first rel) no_ends ps).first (λ f. Is keys f left) (λ f. Is (keys ++ more) f left) (λ f e. get_front keys more left (low f) e) h.seen;
  said = h.said;
}

same_done : (first rel second : Kind → Bool) (keys : List (List ℕ)) (ps : List Piece) (p : Piece) (cs : List Constraint) → second p.kind ≡ false → AllZip (IsConstraintOf keys) (links first rel second ps) cs → AllZip (IsConstraintOf keys) (links first rel second (ps ++ p ∷ [])) cs
same_done first rel second keys ps p cs e h =
    let b = after_all (ends_after first rel) no_ends ps in
    let n : link_at second b p ≡ [] = ap (λ (z : Bool). if z then record { ends = b; second = p } ∷ [] else []) e in
    subst (λ (l : List Linked). AllZip (IsConstraintOf keys) l cs) (sym (emitted_more (ends_after first rel) (link_at second) no_ends ps p ∙ ap (λ l. links first rel second ps ++ l) n ∙ append-nil (links first rel second ps))) h

pub ends_first : (first rel : Kind → Bool) (c : Ends) (p : Piece) → first p.kind ≡ true → ends_after first rel c p ≡ record { first = Some p; rel = c.rel }
ends_first first rel c p e = ap (λ (z : Bool). if z then record { first = Some p; rel = c.rel } else (if rel p.kind then record { first = c.first; rel = low p } else c)) e

pub ends_rel : (first rel : Kind → Bool) (c : Ends) (p : Piece) → first p.kind ≡ false → rel p.kind ≡ true → ends_after first rel c p ≡ record { first = c.first; rel = low p }
ends_rel first rel c p e f = ap (λ (z : Bool). if z then record { first = Some p; rel = c.rel } else (if rel p.kind then record { first = c.first; rel = low p } else c)) e
    ∙ ap (λ (z : Bool). if z then record { first = c.first; rel = low p } else c) f

pub ends_same : (first rel : Kind → Bool) (c : Ends) (p : Piece) → first p.kind ≡ false → rel p.kind ≡ false → ends_after first rel c p ≡ c
ends_same first rel c p e f = ap (λ (z : Bool). if z then record { first = Some p; rel = c.rel } else (if rel p.kind then record { first = c.first; rel = low p } else c)) e
    ∙ ap (λ (z : Bool). if z then record { first = c.first; rel = low p } else c) f

pub linked_first : (first rel second : Kind → Bool) (keys : List (List ℕ)) (ps : List Piece) (p : Piece) (left n : ℕ) (relation : List ℕ) (cs : List Constraint) → first p.kind ≡ true → second p.kind ≡ false → Is keys p n
    → IsLinked first rel second keys ps left relation cs → IsLinked first rel second keys (ps ++ p ∷ []) n relation cs
linked_first first rel second keys ps p left n relation cs e f i h =
    let b = after_all (ends_after first rel) no_ends ps in
    let a : after_all (ends_after first rel) no_ends (ps ++ p ∷ []) ≡ record { first = Some p; rel = b.rel } = after_more (ends_after first rel) no_ends ps p ∙ ends_first first rel b p e in record {
      done = same_done first rel second keys ps p cs f h.done;
      seen = subst (λ (z : Ends). IfSome z.first (λ q. Is keys q n)) (sym a) i;
      said = h.said ∙ ap (λ (z : Ends). z.rel) (sym a);
    }

pub linked_rel : (first rel second : Kind → Bool) (keys : List (List ℕ)) (ps : List Piece) (p : Piece) (left : ℕ) (relation new : List ℕ) (cs : List Constraint) → first p.kind ≡ false → rel p.kind ≡ true → second p.kind ≡ false → new ≡ low p
    → IsLinked first rel second keys ps left relation cs → IsLinked first rel second keys (ps ++ p ∷ []) left new cs
linked_rel first rel second keys ps p left relation new cs e r f n h =
    let b = after_all (ends_after first rel) no_ends ps in
    let a : after_all (ends_after first rel) no_ends (ps ++ p ∷ []) ≡ record { first = b.first; rel = low p } = after_more (ends_after first rel) no_ends ps p ∙ ends_rel first rel b p e r in record {
      done = same_done first rel second keys ps p cs f h.done;
      seen = subst (λ (z : Ends). IfSome z.first (λ q. Is keys q left)) (sym a) h.seen;
      said = n ∙ ap (λ (z : Ends). z.rel) (sym a);
    }

pub linked_second : (first rel second : Kind → Bool) (keys : List (List ℕ)) (ps : List Piece) (p : Piece) (left n : ℕ) (relation : List ℕ) (cs : List Constraint) → first p.kind ≡ false → rel p.kind ≡ false → second p.kind ≡ true → Is keys p n
    → IsLinked first rel second keys ps left relation cs → IsLinked first rel second keys (ps ++ p ∷ []) left relation (cs ++ record { left = left; rel = relation; right = n } ∷ [])
linked_second first rel second keys ps p left n relation cs e r f i h =
    let b = after_all (ends_after first rel) no_ends ps in
    let a : after_all (ends_after first rel) no_ends (ps ++ p ∷ []) ≡ b = after_more (ends_after first rel) no_ends ps p ∙ ends_same first rel b p e r in
    let g : link_at second b p ≡ record { ends = b; second = p } ∷ [] = ap (λ (z : Bool). if z then record { ends = b; second = p } ∷ [] else []) f in
    let l : links first rel second (ps ++ p ∷ []) ≡ links first rel second ps ++ record { ends = b; second = p } ∷ [] = emitted_more (ends_after first rel) (link_at second) no_ends ps p ∙ ap (λ z. links first rel second ps ++ z) g in record {
      done = subst (λ (z : List Linked). AllZip (IsConstraintOf keys) z (cs ++ record { left = left; rel = relation; right = n } ∷ [])) (sym l)
          (zip_more (IsConstraintOf keys) (links first rel second ps) cs (record { ends = b; second = p }) (record { left = left; rel = relation; right = n }) h.done (record { left = h.seen; rel = h.said; right = i }));
      seen = subst (λ (z : Ends). IfSome z.first (λ q. Is keys q left)) (sym a) h.seen;
      said = h.said ∙ ap (λ (z : Ends). z.rel) (sym a);
    }

pub linked_other : (first rel second : Kind → Bool) (keys : List (List ℕ)) (ps : List Piece) (p : Piece) (left : ℕ) (relation : List ℕ) (cs : List Constraint) → first p.kind ≡ false → rel p.kind ≡ false → second p.kind ≡ false
    → IsLinked first rel second keys ps left relation cs → IsLinked first rel second keys (ps ++ p ∷ []) left relation cs
linked_other first rel second keys ps p left relation cs e r f h =
    let b = after_all (ends_after first rel) no_ends ps in
    let a : after_all (ends_after first rel) no_ends (ps ++ p ∷ []) ≡ b = after_more (ends_after first rel) no_ends ps p ∙ ends_same first rel b p e r in record {
      done = same_done first rel second keys ps p cs f h.done;
      seen = subst (λ (z : Ends). IfSome z.first (λ q. Is keys q left)) (sym a) h.seen;
      said = h.said ∙ ap (λ (z : Ends). z.rel) (sym a);
    }

-- the top and the index
pub marked_grown : (kind : Kind → Bool) (keys more : List (List ℕ)) (ps : List Piece) (n : ℕ) → IsMarked kind keys ps n → IsMarked kind (keys ++ more) ps n
marked_grown kind keys more ps n (unmarked h) = unmarked h
marked_grown kind keys more ps n (marked m) = marked (record { piece = m.piece; there = m.there; kind_is = m.kind_is; same = get_front keys more n (low m.piece) m.same })

pub marked_here : (kind : Kind → Bool) (keys : List (List ℕ)) (ps : List Piece) (p : Piece) (n : ℕ) → kind p.kind ≡ true → Is keys p n → IsMarked kind keys (ps ++ p ∷ []) n
marked_here kind keys ps p n e i = marked (record { piece = p; there = Contains-push ps p; kind_is = e; same = i })

pub marked_before : (kind : Kind → Bool) (keys : List (List ℕ)) (ps : List Piece) (p : Piece) (n : ℕ) → kind p.kind ≡ false → IsMarked kind keys ps n → IsMarked kind keys (ps ++ p ∷ []) n
marked_before kind keys ps p n e (unmarked h) = unmarked (λ q k. elim (Contains-push_cases ps p q k) [ inl a ↦ h q a | inr a ↦ ap (λ (z : Piece). kind z.kind) (sym a) ∙ e ])
marked_before kind keys ps p n e (marked m) = marked (record { piece = m.piece; there = Contains-append_left ps (p ∷ []) m.piece m.there; kind_is = m.kind_is; same = m.same })

pub marked_if : (kind : Kind → Bool) (keys : List (List ℕ)) (ps : List Piece) (p : Piece) (old new last : ℕ) → (kind p.kind ≡ true → Is keys p last) → new ≡ (if kind p.kind then last else old) → IsMarked kind keys ps old → IsMarked kind keys (ps ++ p ∷ []) new
marked_if kind keys ps p old new last i e h = by (kind p.kind) refl
  where
    by : (b : Bool) → kind p.kind ≡ b → IsMarked kind keys (ps ++ p ∷ []) new
    by true f = subst (IsMarked kind keys (ps ++ p ∷ [])) (sym (e ∙ ap (λ (z : Bool). if z then last else old) f)) (marked_here kind keys ps p last f (i f))
    by false f = subst (IsMarked kind keys (ps ++ p ∷ [])) (sym (e ∙ ap (λ (z : Bool). if z then last else old) f)) (marked_before kind keys ps p old f h)

-- the variables that are written
pub written_more : (ps : List Piece) (p : Piece) (keys new : List (List ℕ)) (last : ℕ) → Grows keys new p last → ((k : List ℕ) → Contains keys k ↔ IsWritten ps k) → (k : List ℕ) → Contains new k ↔ IsWritten (ps ++ p ∷ []) k
written_more ps p keys new last g h k = (
  λ c. (elim (g.from k c) [
    | inl a ↦ (let w = (h k).0 a in record { piece = w.piece; there = Contains-append_left ps (p ∷ []) w.piece w.there; kind = w.kind; same = w.same })
    | inr a ↦ record { piece = p; there = Contains-push ps p; kind = a.0; same = a.1 }
  ]),
  λ w. (elim (Contains-push_cases ps p w.piece w.there) [
    | inl a ↦ subst (λ (z : List (List ℕ)). Contains z k) (sym g.is) (Contains-append_left keys g.more k ((h k).1 (record { piece = w.piece; there = a; kind = w.kind; same = w.same })))
    | inr a ↦ (let e = g.here (ap (λ (z : Piece). is_variable z.kind) a ∙ w.kind) in
        let s : low p ≡ k = ap low a ∙ w.same in
        subst (Contains new) s (contains_at new last (low p) e))
  ]),
)
  where
    contains_at : (xs : List (List ℕ)) (n : ℕ) (x : List ℕ) → slice_get xs n ≡ Some x → Contains xs x
    contains_at xs n x e = (n, slice_get_within xs n x e, get_or_from_slice_get xs n x x e)

pub not_is_high : (k : Kind) → k ≢ High → is_high k ≡ false
not_is_high High e = absurd (e refl)
not_is_high _ e = refl

pub not_is_handle_rel : (k : Kind) → k ≢ HandleRel → is_handle_rel k ≡ false
not_is_handle_rel HandleRel e = absurd (e refl)
not_is_handle_rel _ e = refl

pub not_is_low : (k : Kind) → k ≢ Low → is_low k ≡ false
not_is_low Low e = absurd (e refl)
not_is_low _ e = refl

pub not_is_left : (k : Kind) → k ≢ Left → is_left k ≡ false
not_is_left Left e = absurd (e refl)
not_is_left _ e = refl

pub not_is_variable_rel : (k : Kind) → k ≢ VariableRel → is_variable_rel k ≡ false
not_is_variable_rel VariableRel e = absurd (e refl)
not_is_variable_rel _ e = refl

pub not_is_right : (k : Kind) → k ≢ Right → is_right k ≡ false
not_is_right Right e = absurd (e refl)
not_is_right _ e = refl

abbrev constraint_of : ℕ → List ℕ → ℕ → Constraint
constraint_of left relation right = record { left = left; rel = relation; right = right }

pub same_constraint : (left : ℕ) (a b : List ℕ) (right : ℕ) → a ≡ b → constraint_of left a right ≡ constraint_of left b right
same_constraint left a b right e = ap (λ z. constraint_of left z right) e

pub nothing_written : (keys : List (List ℕ)) → keys ≡ [] → (k : List ℕ) → Contains keys k ↔ IsWritten [] k
nothing_written keys e k = (
  λ c. absurd (let d = subst (λ (z : List (List ℕ)). Contains z k) e c in let l = d.1 in omega (arith, l)),
  λ w. absurd (let l = w.there.1 in omega (arith, l)),
)

pub none_marked : (kind : Kind → Bool) (keys : List (List ℕ)) (n : ℕ) → IsMarked kind keys [] n
none_marked kind keys n = unmarked (λ q c. absurd (let l = c.1 in omega (arith, l)))
