-- Lists that are gone along, and lists by predicate.
use Rattle.std.proofs.Common.{ℕ, zero, suc, ◌≡◌, ◌<◌, ◌≤◌, ◌+◌, Bool, true, false, cond, IsTrue, ◌↔◌, List, [], ◌∷◌, ◌++◌, length, map, take, drop, get_or, Option, Some, None, String, Vec, Result, Ok, Err, IfOk, string_bytes, refl, sym, ◌∙◌, ap, subst, arith, drop-cons}
use Rattle.std.specs.Global.{Global}
use Rattle.std.specs.Str.{bytes_eq}
use Rattle.std.specs.List.{AllZip}
use Rattle.std.specs.Option.{option_map_or}
use Rattle.std.specs.Map.{lookup}
use Rattle.std.proofs.lemmas.List.{map-append, take_more, append-nil}
use Rattle.type_hierarchy.specs.Table.{TypeTable}
use Rattle.type_hierarchy.specs.declared.types.Ty.{Ty}
use Rattle.lexicon.specs.Words.{noted}
use Rattle.generate_model.specs.Settling.{IsSettled, FirstSettled, no_settled, is_first, is_later}
use Rattle.generate_model.specs.Indexing.{KeyedEntry, list_of, having_of}
use Rattle.generate_model.specs.Inner.Adding.{IsAdded}

pub if_ok : {A E : Type 0} (P Q : A → Type 0) (r : Result A E) → ((x : A) → P x → Q x) → IfOk r P → IfOk r Q
if_ok P Q (Ok x) h p = h x p
if_ok P Q (Err e) h p = p

pub isnt : {P : Type 0} (r : Bool) → IsTrue r ↔ P → r ≡ false → P → ⊥
isnt r h f p = let t : r ≡ true = h.1 p in let z : true ≡ false = sym t ∙ f in absurd (cc)

-- the first that is settled
pub settled_here : (types : TypeTable) (ps : List Ty) (k : ℕ) (d : Ty) → k < length ps → IsSettled types (get_or ps k d).0 → FirstSettled types (map (λ t. t.0) (drop k ps)) (Some (get_or ps k d).0)
settled_here types ps k d lt s = subst (λ l. FirstSettled types (map (λ t. t.0) l) (Some (get_or ps k d).0)) (sym (drop-cons ps k d lt)) (is_first s)

pub settled_next : (types : TypeTable) (ps : List Ty) (k : ℕ) (d : Ty) → k < length ps → (IsSettled types (get_or ps k d).0 → ⊥) → (o : Option ℕ) → FirstSettled types (map (λ t. t.0) (drop (k + 1) ps)) o → FirstSettled types (map (λ t. t.0) (drop k ps)) o
settled_next types ps k d lt n o h =
    let e : k + 1 ≡ suc k = omega arith in
    subst (λ l. FirstSettled types (map (λ t. t.0) l) o) (sym (drop-cons ps k d lt)) (is_later n (subst (λ j. FirstSettled types (map (λ t. t.0) (drop j ps)) o) e h))

drop_all : {A : Type 0} (xs : List A) (k : ℕ) → length xs ≤ k → drop k xs ≡ []
drop_all [] zero le = refl
drop_all [] (suc k) le = refl
drop_all (x ∷ xs) zero le = absurd (omega (arith, le))
drop_all (x ∷ xs) (suc k) le = drop_all xs k (omega (arith, le))

pub settled_none : (types : TypeTable) (ps : List Ty) (k : ℕ) → length ps ≤ k → FirstSettled types (map (λ t. t.0) (drop k ps)) None
settled_none types ps k le = subst (λ l. FirstSettled types (map (λ t. t.0) l) None) (sym (drop_all ps k le)) no_settled

-- one more of two lists that belong together
zip_more : {A B : Type 0} (R : A → B → Type 0) (xs : List A) (ys : List B) (x : A) (y : B) → AllZip R xs ys → R x y → AllZip R (xs ++ x ∷ []) (ys ++ y ∷ [])
zip_more R [] [] x y h r = (r, tt)
zip_more R [] (b ∷ ys) x y h r = absurd h
zip_more R (a ∷ xs) [] x y h r = absurd h
zip_more R (a ∷ xs) (b ∷ ys) x y h r = (h.0, zip_more R xs ys x y h.1 r)

pub named_more : (R : ℕ → List ℕ → Type 0) (ps : List Ty) (k : ℕ) (d : Ty) (old new : List (String Global)) (s : String Global) → k < length ps → new ≡ old ++ s ∷ [] → R (get_or ps k d).0 (string_bytes s) → AllZip R (map (λ t. t.0) (take k ps)) (map string_bytes old) →
    AllZip R (map (λ t. t.0) (take (k + 1) ps)) (map string_bytes new)
named_more R ps k d old new s lt e r h =
    let left : map (λ t. t.0) (take (k + 1) ps) ≡ map (λ t. t.0) (take k ps) ++ (get_or ps k d).0 ∷ [] = ap (map (λ t. t.0)) (take_more ps k d lt) ∙ map-append (λ t. t.0) (take k ps) (get_or ps k d ∷ []) in
    let right : map string_bytes new ≡ map string_bytes old ++ string_bytes s ∷ [] = ap (map string_bytes) e ∙ map-append string_bytes old (s ∷ []) in
    subst (λ l. AllZip R l (map string_bytes new)) (sym left) (subst (λ l. AllZip R (map (λ t. t.0) (take k ps) ++ (get_or ps k d).0 ∷ []) l) (sym right) (zip_more R (map (λ t. t.0) (take k ps)) (map string_bytes old) (get_or ps k d).0 (string_bytes s) h r))

-- lists by predicate
by_first : (b : Bool) (v : Vec ℕ Global) (o : Option (Vec ℕ Global)) (rest : List ℕ) → option_map_or (λ x. x.items) o [] ≡ rest → option_map_or (λ x. x.items) (cond b (Some v) o) [] ≡ cond b v.items rest
by_first true v o rest e = refl
by_first false v o rest e = e

pub having_noted : (entries : List (String Global × Vec ℕ Global)) (pred : List ℕ) → noted entries pred ≡ having_of (map list_of entries) pred
having_noted [] pred = refl
having_noted (e ∷ es) pred = by_first (bytes_eq pred (string_bytes e.0)) e.1 (lookup (λ k. bytes_eq pred (string_bytes k)) es) (having_of (map list_of es) pred) (having_noted es pred)

one_number : (b : Bool) (e : KeyedEntry) → cond b (e.number ∷ []) [] ≡ map (λ x. x.number) (cond b (e ∷ []) [])
one_number true e = refl
one_number false e = refl

pub added_keyed : (old new : List (String Global × Vec ℕ Global)) (apart word : List ℕ) (number : ℕ) → ((w : List ℕ) → noted new w ≡ noted old w ++ cond (bytes_eq w word) (number ∷ []) []) →
    IsAdded (record { number = number; key = Some word }) (record { keyed = map list_of old; apart = apart }) (record { keyed = map list_of new; apart = apart })
added_keyed old new apart word number h = record {
  having = λ pred. sym (having_noted new pred) ∙ h pred ∙ ap (λ l. l ++ cond (bytes_eq pred word) (number ∷ []) []) (having_noted old pred)
      ∙ ap (λ l. having_of (map list_of old) pred ++ l) (one_number (bytes_eq pred word) (record { number = number; key = Some word }));
  apart = sym (append-nil apart);
}
