-- No renaming changes a key.
use Rattle.std.proofs.Common.{◌≡◌, ℕ, List, [], ◌∷◌, ◌∙◌, map, refl, ap, sym}
use Rattle.mrs_model.specs.Meanings.{Filler, of_var, of_text, Argument}
use Rattle.mrs_model.specs.Renaming.{renamed_filler, renamed_argument}
use Rattle.mrs_model.specs.Inner.Elements.{Element, an_ep, an_hcon, an_icon, renamed, key_of}
use Rattle.mrs_model.specs.Digest.{text_key, filler_key, argument_key, arguments_key}

filler_kept : (to : List ℕ) (key : ℕ) (f : Filler) → filler_key key (renamed_filler to f) ≡ filler_key key f
filler_kept to key (of_var v) = refl
filler_kept to key (of_text t) = refl

pub arguments_kept : (to : List ℕ) (key : ℕ) (xs : List Argument) → arguments_key key (map (renamed_argument to) xs) ≡ arguments_key key xs
arguments_kept to key [] = refl
arguments_kept to key (a ∷ xs) =
    arguments_kept to (argument_key key (renamed_argument to a)) xs ∙ ap (λ k. arguments_key k xs) (filler_kept to (text_key key a.role) a.filler)

pub key_kept : (to : List ℕ) (x : Element) → key_of (renamed to x) ≡ key_of x
key_kept to (an_ep e) = arguments_kept to (text_key 1 e.pred) e.args
key_kept to (an_hcon c) = refl
key_kept to (an_icon c) = refl

-- elements with different keys differ
pub keys_differ : (to : List ℕ) (x y : Element) (k l m : ℕ) → k ≡ key_of x → l ≡ key_of y → m ≡ l → (k ≡ m → ⊥) → renamed to x ≡ y → ⊥
keys_differ to x y k l m ek el em ne e = ne (ek ∙ sym (key_kept to x) ∙ ap key_of e ∙ sym el ∙ sym em)
