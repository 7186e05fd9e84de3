-- What was read, and what an MRS says.
use Rattle.std.proofs.Common.{◌≡◌, ℕ, ◌+◌, ◌<◌, ◌≤◌, ◌∙◌, inl, inr, true, false, if◌then◌else◌, List, [], ◌∷◌, ◌++◌, Some, map, refl, ap, sym, subst, append-nil, length, take, drop, get_or}
use Rattle.std.specs.List.{slice_get, AllZip, Contains}
use Rattle.std.proofs.lemmas.Option.{same_Some}
use Rattle.std.proofs.lemmas.List.{take_more, take_all, take-append-drop, map-append}
use Rattle.std.proofs.lemmas.List.Elements.{Contains-push_cases}
use Rattle.mrs_model.specs.declared.Mrs.{Mrs}
use Rattle.mrs_model.specs.Meanings.{Variable}
use Rattle.mrs_model.specs.Views.{variable_of, hcon_of, icon_of, predication_of, meaning_of}
use Rattle.mrs_spelling.specs.declared.tokens.Token.{Token}
use Rattle.mrs_spelling.specs.declared.kinds.Kind.{Kind}
use Rattle.mrs_spelling.specs.declared.kinds.Kind.TheVariants.{Top, Index}
use Rattle.mrs_spelling.specs.Conditions.{Word, Context, Given, context, given}
use Rattle.mrs_reading.specs.declared.building.Building.{Building}
use Rattle.mrs_reading.specs.Meaning.{Piece, low, as_word, IsVariableOf, is_variable, is_top, is_index, IsConstraintOf, links, is_high, is_handle_rel, is_low, is_left, is_variable_rel, is_right, predications, IsPredicationOf}
use Rattle.mrs_reading.specs.Inner.Stages.{Stage, step, kinds_in, Follow}
use Rattle.mrs_reading.specs.Inner.Predications.{AreEps}
use Rattle.mrs_reading.specs.Inner.Tables.{keys_in, vars_in, IsTable, IsGrown, stays, grows}
use Rattle.mrs_reading.specs.Inner.Built.{IsBuilt, word_at, kinds}
use Rattle.mrs_reading.specs.Inner.Reading.{piece_at, Grows, AreHcons, AreIcons, IsMarked, IsRead, IsNearly, IsFinished}
use Rattle.mrs_reading.proofs.Tabled.{get_last}
use Rattle.mrs_reading.proofs.Linked.{linked_grown, marked_grown, marked_if, written_more}
use Rattle.mrs_reading.proofs.Predicated.{predications_grown}
use Rattle.mrs_reading.proofs.Staging.{next_step, follow_front}

-- a token that is no variable
pub grows_same : (keys new : List (List ℕ)) (p : Piece) (last : ℕ) → new ≡ keys → is_variable p.kind ≡ false → Grows keys new p last
grows_same keys new p last e n = record {
  more = [];
  is = e ∙ sym (append-nil keys);
  here = λ t. absurd (cc);
  from = λ k c. inl (subst (λ (z : List (List ℕ)). Contains z k) e c);
}

pub grows_from : (keys : List (List ℕ)) (vars : List Variable) (p : Piece) (keys2 : List (List ℕ)) (vars2 : List Variable) (n : ℕ) → is_variable p.kind ≡ true → IsGrown keys vars (low p) keys2 vars2 n → Grows keys keys2 p n
grows_from keys vars p keys2 vars2 _ v (stays n a e q) = record {
  more = [];
  is = e ∙ sym (append-nil keys);
  here = λ _. subst (λ (z : List (List ℕ)). slice_get z n ≡ Some (low p)) (sym e) a;
  from = λ k c. inl (subst (λ (z : List (List ℕ)). Contains z k) e c);
}
grows_from keys vars p keys2 vars2 _ v (grows n o fresh e q) = record {
  more = low p ∷ [];
  is = e;
  here = λ _. ap (slice_get keys2) o ∙ ap (λ (z : List (List ℕ)). slice_get z (length keys)) e ∙ get_last keys (low p);
  from = λ k c. (elim (Contains-push_cases keys (low p) k (subst (λ (z : List (List ℕ)). Contains z k) e c)) [ inl a ↦ inl a | inr a ↦ inr (v, a) ]);
}

top_variable : (k : Kind) → is_top k ≡ true → is_variable k ≡ true
top_variable Top e = refl
top_variable _ e = absurd (cc)

index_variable : (k : Kind) → is_index k ≡ true → is_variable k ≡ true
index_variable Index e = refl
index_variable _ e = absurd (cc)

-- one token more
pub read_on : (ps : List Piece) (p : Piece) (old new : Building) (last : ℕ) → Grows (keys_in old.table) (keys_in new.table) p last → IsRead ps old → new.top ≡ (if is_top p.kind then last else old.top) → new.index ≡ (if is_index p.kind then last else old.index)
    → (AreHcons (keys_in new.table) ps old.hcons → AreHcons (keys_in new.table) (ps ++ p ∷ []) new.hcons) → (AreIcons (keys_in new.table) ps old.icons → AreIcons (keys_in new.table) (ps ++ p ∷ []) new.icons)
    → ((s t : Stage) → step s p.kind ≡ Some t → AreEps (keys_in new.table) ps s old.eps → AreEps (keys_in new.table) (ps ++ p ∷ []) t new.eps) → Follow (kinds_in (ps ++ p ∷ [])) → IsRead (ps ++ p ∷ []) new
read_on ps p old new last g h t i a b d f =
    let keys = keys_in old.table in
    let e = g.is in record {
      all = written_more ps p keys (keys_in new.table) last g h.all;
      top = marked_if is_top (keys_in new.table) ps p old.top new.top last (λ k. g.here (top_variable p.kind k)) t
          (subst (λ (z : List (List ℕ)). IsMarked is_top z ps old.top) (sym e) (marked_grown is_top keys g.more ps old.top h.top));
      index = marked_if is_index (keys_in new.table) ps p old.index new.index last (λ k. g.here (index_variable p.kind k)) i
          (subst (λ (z : List (List ℕ)). IsMarked is_index z ps old.index) (sym e) (marked_grown is_index keys g.more ps old.index h.index));
      hcons = a (subst (λ (z : List (List ℕ)). AreHcons z ps old.hcons) (sym e) (linked_grown is_high is_handle_rel is_low keys g.more ps old.hcons.high _ _ h.hcons));
      icons = b (subst (λ (z : List (List ℕ)). AreIcons z ps old.icons) (sym e) (linked_grown is_left is_variable_rel is_right keys g.more ps old.icons.left _ _ h.icons));
      stage = f.0;
      at = f.1;
      eps = d h.stage f.0 (next_step ps p h.stage f h.at) (subst (λ (z : List (List ℕ)). AreEps z ps h.stage old.eps) (sym e) (predications_grown keys g.more ps h.stage _ _ _ h.eps));
    }

pub pieces_more : (ts : List Token) (i : ℕ) (d : Token) (b : Building) → i < length ts → IsRead (map piece_at (take i ts) ++ piece_at (get_or ts i d) ∷ []) b → IsRead (map piece_at (take (i + 1) ts)) b
pieces_more ts i d b l h = subst (λ (z : List Piece). IsRead z b) (sym (ap (map piece_at) (take_more ts i d l) ∙ map-append piece_at (take i ts) (get_or ts i d ∷ []))) h

kinds_at : (ts : List Token) → kinds_in (map piece_at ts) ≡ kinds ts
kinds_at [] = refl
kinds_at (t ∷ ts) = ap (λ (z : List Kind). t.kind ∷ z) (kinds_at ts)

-- the tokens up to the next one follow one another
pub front_follows : (ts : List Token) (i : ℕ) (d : Token) → i < length ts → Follow (kinds ts) → Follow (kinds_in (map piece_at (take i ts) ++ piece_at (get_or ts i d) ∷ []))
front_follows ts i d l f =
    let e : kinds ts ≡ kinds (take (i + 1) ts) ++ kinds (drop (i + 1) ts) = ap kinds (sym (take-append-drop (i + 1) ts)) ∙ map-append (λ (t : Token). t.kind) (take (i + 1) ts) (drop (i + 1) ts) in
    let g : Follow (kinds (take (i + 1) ts)) = follow_front (kinds (take (i + 1) ts)) (kinds (drop (i + 1) ts)) (subst Follow e f) in
    let m : map piece_at (take (i + 1) ts) ≡ map piece_at (take i ts) ++ piece_at (get_or ts i d) ∷ [] = ap (map piece_at) (take_more ts i d l) ∙ map-append piece_at (take i ts) (get_or ts i d ∷ []) in
    subst (λ (z : List Piece). Follow (kinds_in z)) m (subst Follow (sym (kinds_at (take (i + 1) ts))) g)

words_of : (ts : List Token) → map as_word (map piece_at ts) ≡ map word_at ts
words_of [] = refl
words_of (t ∷ ts) = ap (λ (z : List Word). word_at t ∷ z) (words_of ts)

is_of : (c : Context) (gs : List Given) (keys : List (List ℕ)) (vars : List Variable) (last : ℕ) (name : List ℕ) (n : ℕ) (k : List ℕ) (v : Variable) → IsTable c gs keys vars last name → slice_get keys n ≡ Some k → slice_get vars n ≡ Some v → IsVariableOf gs k v
is_of c gs keys vars last name n k v t p q = record {
  sort = (t.each n k v p q).0;
  order = (t.each n k v p q).1;
  props = λ r. (
    λ h. (t.told (record { key = k; name = r.name; value = r.value })).1 (record { place = n; var = v; key = p; at = q; props = h }),
    λ h. (let w = (t.told (record { key = k; name = r.name; value = r.value })).0 h in
        let i : w.place ≡ n = t.distinct w.place n k w.key p in
        let u : w.var ≡ v = same_Some w.var v (sym w.at ∙ ap (slice_get vars) i ∙ q) in
        subst (λ (z : Variable). Contains z.props r) u w.props),
  );
}

-- the MRS of all tokens
pub nearly : (ts : List Token) (i : ℕ) (b : Building) (m : Mrs) → length ts ≤ i → IsBuilt (map word_at (take i ts)) b → IsRead (map piece_at (take i ts)) b → IsFinished b m → IsNearly (map piece_at ts) (meaning_of m)
nearly ts i b m l h0 r0 f =
    let a = take_all i ts l in
    let h : IsBuilt (map word_at ts) b = subst (λ (z : List Token). IsBuilt (map word_at z) b) a h0 in
    let r : IsRead (map piece_at ts) b = subst (λ (z : List Token). IsRead (map piece_at z) b) a r0 in
    let gs = given (map word_at ts) in
    let s : given (map as_word (map piece_at ts)) ≡ gs = ap given (words_of ts) in
    let t = h.table in
    let e : map variable_of m.vars.items ≡ vars_in b.table = ap (map variable_of) f.vars in record {
      keys = keys_in b.table;
      distinct = t.distinct;
      all = r.all;
      even = ap length e ∙ t.even;
      vars = λ n k v p q. subst (λ (z : List Given). IsVariableOf z k v) (sym s) (is_of (context (map word_at ts)) gs (keys_in b.table) (vars_in b.table) b.table.last _ n k v t p (ap (λ (z : List Variable). slice_get z n) (sym e) ∙ q));
      top = subst (IsMarked is_top (keys_in b.table) (map piece_at ts)) (sym f.top) r.top;
      index = subst (IsMarked is_index (keys_in b.table) (map piece_at ts)) (sym f.index) r.index;
      eps = subst (λ z. AllZip (IsPredicationOf (keys_in b.table)) (predications (map piece_at ts)) (map predication_of z)) (sym f.eps) r.eps.done;
      hcons = subst (λ z. AllZip (IsConstraintOf (keys_in b.table)) (links is_high is_handle_rel is_low (map piece_at ts)) (map hcon_of z)) (sym f.hcons) r.hcons.done;
      icons = subst (λ z. AllZip (IsConstraintOf (keys_in b.table)) (links is_left is_variable_rel is_right (map piece_at ts)) (map icon_of z)) (sym f.icons) r.icons.done;
    }
