-- What is told over several calls.
use Rattle.std.proofs.Common.{◌≡◌, ℕ, ◌∙◌, sym, ap, refl, List, [], ◌++◌, take, Option, None, Some, append_assoc, append-nil, subst}
use Rattle.lkb_io.specs.Outside.{Takes, IsAtEnd, Adds, IsFront, AddsFront}

pub Takes-more : (a b c : Option (List ℕ)) (x y : List ℕ) → Takes a b x → Takes b c y → Takes a c (x ++ y)
Takes-more None None None x y h k = tt
Takes-more None None (Some c) x y h k = absurd k
Takes-more None (Some b) c x y h k = absurd h
Takes-more (Some a) None c x y h k = absurd h
Takes-more (Some a) (Some b) None x y h k = absurd k
Takes-more (Some a) (Some b) (Some c) x y h k = h ∙ ap (λ t. x ++ t) k ∙ sym (append_assoc x y c)

pub Takes-none : (a : Option (List ℕ)) → Takes a a []
Takes-none None = tt
Takes-none (Some a) = refl

pub Adds-more : (a b c : Option (List ℕ)) (x y : List ℕ) → Adds a b x → Adds b c y → Adds a c (x ++ y)
Adds-more a b None x y h k = tt
Adds-more a None (Some c) x y h k = absurd k
Adds-more None (Some b) (Some c) x y h k = absurd h
Adds-more (Some a) (Some b) (Some c) x y h k = k ∙ ap (λ t. t ++ y) h ∙ append_assoc a x y

pub Adds-none : (a : Option (List ℕ)) → Adds a a []
Adds-none None = tt
Adds-none (Some a) = sym (append-nil a)

-- what a call added on top of what was added, where the whole of it is told
pub AddsFront-more : (a b c : Option (List ℕ)) (x y whole : List ℕ) → Adds a b x → Adds b c y → IsFront (x ++ y) whole → AddsFront a c whole
AddsFront-more a b c x y whole h k front = (x ++ y, front, Adds-more a b c x y h k)

pub IsAtEnd-after : (a b : Option (List ℕ)) (xs : List ℕ) (n : ℕ) → n ≡ 0 → Takes a b (take n xs) → IsAtEnd a → IsAtEnd b
IsAtEnd-after None None xs n e h k = tt
IsAtEnd-after None (Some b) xs n e h k = absurd h
IsAtEnd-after (Some a) None xs n e h k = absurd h
IsAtEnd-after (Some a) (Some b) xs n e h k = let f : a ≡ take 0 xs ++ b = subst (λ m. a ≡ take m xs ++ b) e h in sym f ∙ k
