-- What was given stands at its place, and is taken out in order.
use Rattle.std.proofs.Common.{◌≡◌, ◌≢◌, ◌∙◌, ℕ, zero, suc, ◌<◌, List, [], ◌∷◌, ◌++◌, inl, inr, All, length, drop, reverse, slice_index_or, slice_set, Option, None, Some, refl, sym, ap, subst, ⊎_elim, arith}
use Rattle.std.specs.List.{Contains, slice_get}
use Rattle.std.proofs.lemmas.Bool.{cases_eq}
use Rattle.std.proofs.lemmas.Option.{same_Some, none-some, slice_get_within}
use Rattle.std.proofs.lemmas.List.{map-append, reverse-append, length-append, length-set, get_or_push, get_or_append_left, get_or-set_same, get_or-set_other}
use Rattle.std.proofs.lemmas.List.Elements.{All-pop, Contains-push_cases}
use Rattle.std.proofs.Math.Seq.{drop-length}
use Rattle.side_by_side.specs.declared.posts.Done.{Done}
use Rattle.side_by_side.specs.Works.{AreGiven, no_thing, a_thing}
use Rattle.side_by_side.specs.Inner.Posts.{AreFilled, IsFull, IsDone, places_of}

-- nothing stands at places that are empty
pub first_filled : {T O : Type 0} (gives : ℕ → T → O → Type 0) (things : List T) (places : List (Option O)) (done : List (Done O)) → length places ≡ length things → All (λ p. p ≡ None) places → All (IsDone gives things) done
    → ((x : ℕ) → x < length things → Contains (places_of done) x) → AreFilled gives things places done
first_filled gives things places done count empty still none = record {
  count = count;
  given = λ k lt out is. absurd (none-some out (sym (empty k None lt) ∙ is));
  still = still;
  none_left = λ x lt. inl (none x lt);
}

pub nil_of : {A : Type 0} (xs : List A) → length xs ≡ 0 → xs ≡ []
nil_of [] e = refl
nil_of (x ∷ xs) e = absurd (omega (arith, e))

drop_step : {A : Type 0} (xs : List A) (n : ℕ) (x : A) → slice_get xs n ≡ Some x → drop n xs ≡ x ∷ drop (suc n) xs
drop_step [] n x e = absurd (none-some x e)
drop_step (y ∷ ys) zero x e = ap (λ z. z ∷ ys) (same_Some y x e)
drop_step (y ∷ ys) (suc n) x e = drop_step ys n x e

module _ {T O : Type 0} (gives : ℕ → T → O → Type 0) (things : List T) where
  pub done_within : (done rest : List (Done O)) (d : Done O) → done ≡ rest ++ d ∷ [] → All (IsDone gives things) done → d.place < length things
  done_within done rest d split h = let p = All-pop (IsDone gives things) done rest (Some d) split h in let m = p.1 in slice_get_within things d.place m.0 m.1

  -- what was given is put at its place
  pub one_put : (places new : List (Option O)) (done rest : List (Done O)) (d : Done O) → done ≡ rest ++ d ∷ [] → new ≡ slice_set places d.place (Some d.out) → AreFilled gives things places done → AreFilled gives things new rest
  one_put places new done rest d split put h =
      let p = All-pop (IsDone gives things) done rest (Some d) split h.still in
      let mine : IsDone gives things d = p.1 in
      let lt : d.place < length places = (let w = slice_get_within things d.place mine.0 mine.1 in let c = h.count in omega arith) in
      let long : length new ≡ length places = ap (λ l. length l) put ∙ length-set places d.place (Some d.out) in
      let here : slice_index_or new d.place None ≡ Some d.out = ap (λ l. slice_index_or l d.place None) put ∙ get_or-set_same places d.place (Some d.out) None lt in
      let there : (k : ℕ) → k ≢ d.place → slice_index_or new k None ≡ slice_index_or places k None = λ k n. ap (λ l. slice_index_or l k None) put ∙ get_or-set_other places d.place k (Some d.out) None n in
      let at : (k : ℕ) → k ≡ d.place → slice_index_or new k None ≡ Some d.out = λ k e. ap (λ i. slice_index_or new i None) e ∙ here in
      record {
        count = long ∙ h.count;
        given = λ k low out is.
            ⊎_elim
            (λ (e : k ≡ d.place).
            let same : d.out ≡ out = same_Some d.out out (sym (at k e) ∙ is) in
            (mine.0, ap (λ i. slice_get things i) e ∙ mine.1, subst (λ y. gives k mine.0 y) same (subst (λ i. gives i mine.0 d.out) (sym e) mine.2)))
            (λ (n : k ≢ d.place). h.given k (omega arith) out (sym (there k n) ∙ is))
            (cases_eq k d.place);
        still = p.0;
        none_left = λ x low.
            ⊎_elim
            (λ (c : Contains (places_of done) x).
            ⊎_elim
            (λ (r : Contains (places_of rest) x). inl r)
            (λ (e : d.place ≡ x). inr (d.out, at x (sym e)))
            (Contains-push_cases (places_of rest) d.place x (subst (λ l. Contains l x) (ap (λ l. places_of l) split ∙ map-append (λ y. y.place) rest (d ∷ [])) c)))
            (λ (f : (out : O) × (slice_index_or places x None ≡ Some out)).
            ⊎_elim
            (λ (e : x ≡ d.place). inr (d.out, at x e))
            (λ (n : x ≢ d.place). inr (f.0, there x n ∙ f.1))
            (cases_eq x d.place))
            (h.none_left x low);
      }

  -- once all is put there, each place has what is given
  pub all_full : (places : List (Option O)) (done : List (Done O)) → done ≡ [] → AreFilled gives things places done → IsFull gives things places
  all_full places done none h k lt =
      let c = h.count in
      ⊎_elim
      (λ (r : Contains (places_of done) k). let l = r.1 in let z = ap (λ l. length (places_of l)) none in absurd (omega arith))
      (λ (f : (out : O) × (slice_index_or places k None ≡ Some out)). let g = h.given k lt f.0 f.1 in (g.0, f.0, g.1, f.1, g.2))
      (h.none_left k (omega arith))

  pub full_less : (places rest : List (Option O)) (p : Option O) → places ≡ rest ++ p ∷ [] → IsFull gives things places → IsFull gives things rest
  full_less places rest p split h k lt =
      let long = ap (λ l. length l) split ∙ length-append rest (p ∷ []) in
      let f = h k (omega arith) in
      (f.0, f.1, f.2, sym (ap (λ l. slice_index_or l k None) split ∙ get_or_append_left rest (p ∷ []) None k lt) ∙ f.3, f.4)

  last_there : (places rest : List (Option O)) (p : Option O) → places ≡ rest ++ p ∷ [] → slice_index_or places (length rest) None ≡ p
  last_there places rest p split = ap (λ l. slice_index_or l (length rest) None) split ∙ get_or_push rest p None (length rest) refl

  -- the last place isn't empty
  pub last_some : (places rest : List (Option O)) (p : Option O) → p ≡ None → places ≡ rest ++ p ∷ [] → IsFull gives things places → ⊥
  last_some places rest p none split h =
      let long = ap (λ l. length l) split ∙ length-append rest (p ∷ []) in
      let f = h (length rest) (omega arith) in
      none-some f.1 (sym none ∙ sym (last_there places rest p split) ∙ f.3)

  pub one_taken : (places rest : List (Option O)) (out : O) (outs : List O) → places ≡ rest ++ Some out ∷ [] → IsFull gives things places → AreGiven gives (length places) (drop (length places) things) outs → AreGiven gives (length rest) (drop (length rest) things) (out ∷ outs)
  one_taken places rest out outs split h given =
      let n = length rest in
      let long : length places ≡ suc n = (let l = ap (λ l. length l) split ∙ length-append rest (Some out ∷ []) in omega arith) in
      let f = h n (omega arith) in
      let same : f.1 ≡ out = same_Some f.1 out (sym f.3 ∙ last_there places rest (Some out) split) in
      subst (λ l. AreGiven gives n l (out ∷ outs)) (sym (drop_step things n f.0 f.2))
      (a_thing n f.0 (drop (suc n) things) out outs (subst (λ y. gives n f.0 y) same f.4) (subst (λ m. AreGiven gives m (drop m things) outs) long given))

  pub one_more_taken : (places rest : List (Option O)) (p : Option O) (out : O) (outs more : List O) → places ≡ rest ++ p ∷ [] → p ≡ Some out → more ≡ outs ++ out ∷ [] → IsFull gives things places → AreGiven gives (length places) (drop (length places) things) (reverse outs)
      → AreGiven gives (length rest) (drop (length rest) things) (reverse more)
  one_more_taken places rest p out outs more split is e full given =
      subst (λ l. AreGiven gives (length rest) (drop (length rest) things) l) (sym (ap (λ l. reverse l) e ∙ reverse-append outs (out ∷ [])))
      (one_taken places rest out (reverse outs) (split ∙ ap (λ q. rest ++ q ∷ []) is) full given)

  pub none_taken : (n : ℕ) → n ≡ length things → AreGiven gives n (drop n things) []
  none_taken n e = subst (λ l. AreGiven gives n l []) (sym (ap (λ m. drop m things) e ∙ drop-length things)) (no_thing n)
