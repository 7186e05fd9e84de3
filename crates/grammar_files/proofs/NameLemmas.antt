-- The ending and the folder of a name, byte by byte.
use Rattle.std.proofs.Common.{◌≡◌, ℕ, ◌<◌, ◌+◌, ◌∙◌, sym, ap, refl, List, [], ◌∷◌, ◌++◌, length, take, get_or, Bool, true, false, ◌||◌, ◌&&◌, not, ◌==◌, add-one}
use Rattle.std.proofs.Math.Seq.{take-suc}
use Rattle.grammar_files.specs.FileNames.{has_no_slash, has_ending, folder_of}

and-assoc : (a b c : Bool) → (a && (b && c)) ≡ ((a && b) && c)
and-assoc true b c = refl
and-assoc false b c = refl

and-true : (a : Bool) → (a && true) ≡ a
and-true true = refl
and-true false = refl

and-false : (a : Bool) → (a && false) ≡ false
and-false true = refl
and-false false = refl

or-false : (a : Bool) → (a || false) ≡ a
or-false true = refl
or-false false = refl

law : (p e n d m : Bool) → ((p || (e && n)) || (d && (m && n))) ≡ (p || ((e || (d && m)) && n))
law true e n d m = refl
law false true true d m = refl
law false true false true true = refl
law false true false true false = refl
law false true false false m = refl
law false false n true m = refl
law false false n false m = refl

has_no_slash-more : (bs : List ℕ) (b : ℕ) → has_no_slash (bs ++ b ∷ []) ≡ (has_no_slash bs && not (b == 47))
has_no_slash-more [] b = and-true (not (b == 47))
has_no_slash-more (c ∷ cs) b = ap (λ t. not (c == 47) && t) (has_no_slash-more cs b) ∙ and-assoc (not (c == 47)) (has_no_slash cs) (not (b == 47))

has_ending-append : (bs : List ℕ) (b : ℕ) → has_ending (bs ++ b ∷ []) ≡ ((b == 46) || (has_ending bs && not (b == 47)))
has_ending-append [] b = and-true (b == 46) ∙ sym (or-false (b == 46))
has_ending-append (c ∷ cs) b =
    ap (λ t. t || ((c == 46) && has_no_slash (cs ++ b ∷ []))) (has_ending-append cs b)
    ∙ ap (λ t. ((b == 46) || (has_ending cs && not (b == 47))) || ((c == 46) && t)) (has_no_slash-more cs b)
    ∙ law (b == 46) (has_ending cs) (not (b == 47)) (c == 46) (has_no_slash cs)

-- the byte at this place, after the bytes before it
pub has_ending-more : (bs : List ℕ) (i b : ℕ) → i < length bs → b ≡ get_or bs i 0 → has_ending (take (i + 1) bs) ≡ ((b == 46) || (has_ending (take i bs) && not (b == 47)))
has_ending-more bs i b h e =
    let step : take (i + 1) bs ≡ take i bs ++ b ∷ [] = rw (add-one i, e) (take-suc bs i 0 h) in
    ap has_ending step ∙ has_ending-append (take i bs) b

folder-plain : (bs : List ℕ) → has_no_slash bs ≡ true → folder_of bs ≡ []
folder-plain [] e = refl
folder-plain (b ∷ bs) e = rw e refl

folder-slashed : (b : ℕ) (bs : List ℕ) → has_no_slash (b ∷ bs) ≡ false → folder_of (b ∷ bs) ≡ b ∷ folder_of bs
folder-slashed b bs e = rw e refl

has_no_slash-slash : (bs : List ℕ) → has_no_slash (bs ++ 47 ∷ []) ≡ false
has_no_slash-slash bs = has_no_slash-more bs 47 ∙ and-false (has_no_slash bs)

folder-slash : (bs : List ℕ) → folder_of (bs ++ 47 ∷ []) ≡ bs ++ 47 ∷ []
folder-slash [] = refl
folder-slash (b ∷ bs) = folder-slashed b (bs ++ 47 ∷ []) (has_no_slash-slash (b ∷ bs)) ∙ ap (λ t. b ∷ t) (folder-slash bs)

same_slashes : (bs : List ℕ) (b : ℕ) → (b == 47) ≡ false → has_no_slash (bs ++ b ∷ []) ≡ has_no_slash bs
same_slashes bs b e = has_no_slash-more bs b ∙ ap (λ t. has_no_slash bs && not t) e ∙ and-true (has_no_slash bs)

folder-longer : (c : ℕ) (cs : List ℕ) (b : ℕ) (t : Bool) → has_no_slash (c ∷ cs) ≡ t → (b == 47) ≡ false → folder_of (cs ++ b ∷ []) ≡ folder_of cs
    → folder_of (c ∷ (cs ++ b ∷ [])) ≡ folder_of (c ∷ cs)
folder-longer c cs b true p e h = folder-plain (c ∷ (cs ++ b ∷ [])) (same_slashes (c ∷ cs) b e ∙ p) ∙ sym (folder-plain (c ∷ cs) p)
folder-longer c cs b false p e h = folder-slashed c (cs ++ b ∷ []) (same_slashes (c ∷ cs) b e ∙ p) ∙ ap (λ t. c ∷ t) h ∙ sym (folder-slashed c cs p)

folder-other : (bs : List ℕ) (b : ℕ) → (b == 47) ≡ false → folder_of (bs ++ b ∷ []) ≡ folder_of bs
folder-other [] b e = folder-plain (b ∷ []) (ap (λ t. not t && true) e)
folder-other (c ∷ cs) b e = folder-longer c cs b (has_no_slash (c ∷ cs)) refl e (folder-other cs b e)

step : (bs : List ℕ) (i b : ℕ) → i < length bs → b ≡ get_or bs i 0 → take (i + 1) bs ≡ take i bs ++ b ∷ []
step bs i b h e = rw (add-one i, e) (take-suc bs i 0 h)

-- a slash ends the folder, and another byte leaves it
pub folder-at_slash : (bs : List ℕ) (i : ℕ) → i < length bs → 47 ≡ get_or bs i 0 → folder_of (take (i + 1) bs) ≡ take (i + 1) bs
folder-at_slash bs i h e = ap folder_of (step bs i 47 h e) ∙ folder-slash (take i bs) ∙ sym (step bs i 47 h e)

pub folder-at_other : (bs : List ℕ) (i b : ℕ) → i < length bs → b ≡ get_or bs i 0 → (b == 47) ≡ false → folder_of (take (i + 1) bs) ≡ folder_of (take i bs)
folder-at_other bs i b h e k = ap folder_of (step bs i b h e) ∙ folder-other (take i bs) b k
