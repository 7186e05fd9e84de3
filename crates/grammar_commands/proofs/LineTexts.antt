-- The texts of lines, one by one.
use Rattle.std.proofs.Common.{ℕ, zero, suc, ◌≡◌, ◌<◌, List, [], ◌∷◌, ◌++◌, length, map, All, Vec, Global, refl, sym, ◌∙◌, ap, subst, arith}
use Rattle.std.proofs.lemmas.List.{append_assoc, append-nil, map-append}
use Rattle.fs_graph.specs.declared.facts.PathLine.{PathLine}
use Rattle.fs_graph.specs.Facts.{Line, line_of}

-- what holds of the lines that are left holds of the next one, and of those after it
pub all-head : (P : Line → Type 0) (lines rest : List PathLine) (x : PathLine) → lines ≡ x ∷ rest → All P (map line_of lines) → P (line_of x)
all-head P lines rest x e h = subst (λ ls. All P (map line_of ls)) e h 0 (line_of x) (omega arith)

pub all-tail : (P : Line → Type 0) (lines rest : List PathLine) (x : PathLine) → lines ≡ x ∷ rest → All P (map line_of lines) → All P (map line_of rest)
all-tail P lines rest x e h = λ k d below. subst (λ ls. All P (map line_of ls)) e h (suc k) d (omega (arith, below))

pub all-one : (P : Line → Type 0) (x : Line) → P x → All P (x ∷ [])
all-one P x h zero d below = h
all-one P x h (suc k) d below = absurd (omega (arith, below))

-- a text more
pub text-more : (f : Line → List ℕ) (all : List (List ℕ)) (texts new : List (Vec ℕ Global)) (lines rest : List PathLine) (x : PathLine) (t : Vec ℕ Global)
    → all ≡ map (λ v. v.items) texts ++ map f (map line_of lines) → lines ≡ x ∷ rest → new ≡ texts ++ t ∷ [] → t.items ≡ f (line_of x) → all ≡ map (λ v. v.items) new ++ map f (map line_of rest)
text-more f all texts new lines rest x t inv next push is =
    inv ∙ ap (λ ls. map (λ v. v.items) texts ++ map f (map line_of ls)) next ∙ ap (λ w. map (λ v. v.items) texts ++ w ∷ map f (map line_of rest)) (sym is)
    ∙ sym (append_assoc (map (λ v. v.items) texts) (t.items ∷ []) (map f (map line_of rest)))
    ∙ ap (λ vs. vs ++ map f (map line_of rest)) (sym (map-append (λ v. v.items) texts (t ∷ [])) ∙ ap (map (λ v. v.items)) (sym push))

-- all texts
pub text-all : (f : Line → List ℕ) (all : List (List ℕ)) (texts : List (Vec ℕ Global)) (lines : List PathLine) → all ≡ map (λ v. v.items) texts ++ map f (map line_of lines) → lines ≡ [] → map (λ v. v.items) texts ≡ all
text-all f all texts lines inv e = sym (inv ∙ ap (λ ls. map (λ v. v.items) texts ++ map f (map line_of ls)) e ∙ append-nil (map (λ v. v.items) texts))
