-- Lists that grow at their end.
use Rattle.std.proofs.Common.{ℕ, ◌≡◌, ◌<◌, ◌+◌, List, [], ◌∷◌, ◌++◌, length, take, get_or, Result, sym, ◌∙◌, ap, subst, OnOk}
use Rattle.std.specs.List.{flat_map}
use Rattle.std.proofs.lemmas.List.{take_more, append_assoc, append-nil}
use Rattle.std.proofs.lemmas.List.Concat.{flat_map-append}

pub on_same : {T E A : Type 0} (r : Result T E) (new old xs ys : List A) → xs ≡ ys → OnOk r (new ≡ old ++ xs) → OnOk r (new ≡ old ++ ys)
on_same r new old xs ys e = subst (λ zs. OnOk r (new ≡ old ++ zs)) e

pub on_then : {T E A : Type 0} (r : Result T E) (new mid old xs ys zs : List A) → mid ≡ old ++ xs → xs ++ ys ≡ zs → OnOk r (new ≡ mid ++ ys) → OnOk r (new ≡ old ++ zs)
on_then r new mid old xs ys zs e f = subst (λ all. OnOk r (new ≡ all)) (ap (λ m. m ++ ys) e ∙ append_assoc old xs ys ∙ ap (λ l. old ++ l) f)

pub flat_map_next : {X A : Type 0} (S : X → List A) (xs : List X) (i : ℕ) (x : X) → i < length xs → x ≡ get_or xs i x →
    flat_map S (take (i + 1) xs) ≡ flat_map S (take i xs) ++ S x
flat_map_next S xs i x h e =
    ap (flat_map S) (take_more xs i x h ∙ ap (λ y. take i xs ++ y ∷ []) (sym e)) ∙ flat_map-append S (take i xs) (x ∷ []) ∙ ap (λ l. flat_map S (take i xs) ++ l) (append-nil (S x))

-- one step of a loop that appends what each gives
pub push_step : {X A : Type 0} (S : X → List A) (now new old : List A) (xs : List X) (i : ℕ) (x : X) → i < length xs → x ≡ get_or xs i x →
    new ≡ now ++ S x → now ≡ old ++ flat_map S (take i xs) → new ≡ old ++ flat_map S (take (i + 1) xs)
push_step S now new old xs i x h e grown had =
    grown ∙ ap (λ m. m ++ S x) had ∙ append_assoc old (flat_map S (take i xs)) (S x) ∙ ap (λ l. old ++ l) (sym (flat_map_next S xs i x h e))
