-- The faults of lines.
use Rattle.std.proofs.Common.{◌≡◌, ◌∙◌, ◌⊎◌, inl, inr, ℕ, List, length, take, sym, subst, refl, Result, Ok, Err, IfErr}
use Rattle.std.specs.Str.{chars, IsUtf8, IsValidUpTo, encode_utf8_all}
use Rattle.mrs_model.specs.declared.Mrs.{Mrs}
use Rattle.mrs_spelling.specs.Faults.{FirstFault}
use Rattle.mrs_reading.specs.declared.lines.MrsFault.{MrsFault}
use Rattle.mrs_reading.specs.declared.lines.MrsFault.TheVariants.{At, NoMemory}
use Rattle.mrs_reading.specs.Places.{IsText, IsPlace, in_text, in_front, after_text}
use Rattle.mrs_reading.specs.Inner.Placing.{IsFaultOf, IsFrontFault}

abbrev pub Told : List ℕ → MrsFault → Type 0
Told line e = (e ≡ NoMemory) ⊎ ((at : ℕ) × (e ≡ At at) × IsPlace line at)

in_whole : (line text : List ℕ) (e : MrsFault) → text ≡ line → IsUtf8 line → IsFaultOf (chars text) e → Told line e
in_whole line text (At at) s u h =
    let p : IsPlace line (length (encode_utf8_all h.front)) = in_text h.front u (subst (λ (z : List ℕ). FirstFault (chars z) h.front) s h.first) in
    inr (at, refl, subst (IsPlace line) (sym h.at_is) p)
in_whole line text NoMemory s u h = inl refl

pub whole_fault : (line text : List ℕ) (r : Result Mrs MrsFault) → text ≡ line → IsUtf8 line → IfErr r (IsFaultOf (chars text)) → IfErr r (Told line)
whole_fault line text (Ok m) s u h = tt
whole_fault line text (Err e) s u h = in_whole line text e s u h

pub front_fault : (line front : List ℕ) (n : ℕ) (e : MrsFault) → front ≡ take n line → (IsUtf8 line → ⊥) → IsValidUpTo line n → length front ≡ n → IsFrontFault (chars front) (length front) e → Told line e
front_fault line front n (At at) s u v l (inl h) =
    let p : IsPlace line (length (encode_utf8_all h.front)) = in_front n h.front u v (subst (λ (z : List ℕ). FirstFault (chars z) h.front) s h.first) in
    inr (at, refl, subst (IsPlace line) (sym h.at_is) p)
front_fault line front n (At at) s u v l (inr h) =
    let p : IsPlace line n = after_text n u v (subst (λ (z : List ℕ). IsText (chars z)) s h.0) in
    inr (at, refl, subst (IsPlace line) (sym (h.1 ∙ l)) p)
front_fault line front n NoMemory s u v l h = inl refl
