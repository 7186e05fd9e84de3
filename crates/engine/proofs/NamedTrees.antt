-- The places in licensed trees are those of instances, and an answer has no more trees than its limit.
use Rattle.std.proofs.Common.{ℕ, ◌≡◌, ◌≤◌, ◌<◌, List, [], ◌∷◌, length, map, arith, sym, subst}
use Rattle.std.specs.Prelude.{All}
use Rattle.std.proofs.lemmas.List.Elements.{All-nil, All-cons}
use Rattle.std.proofs.lemmas.List.{get_or-map, length-map}
use Rattle.std.proofs.lemmas.Option.{slice_get_within}
use Rattle.fs_model.specs.Claims.{Has, here, there}
use Rattle.chart_core.specs.declared.Limits as declared
use Rattle.chart_core.specs.Kept.{InRange}
use Rattle.derivation.specs.Trees.{Derivation, Daughters, lexical, phrase, no_more, first}
use Rattle.derivation.specs.Text.{IsNamed, AreNamed}
use Rattle.tree_model.specs.Structures.{Structure}
use Rattle.tree_model.specs.Signs.{Signs}
use Rattle.tree_model.specs.Lexical.{Words, FullUnder, under_next}
use Rattle.tree_model.specs.Trees.{Full, Fulls, full_lexical, full_phrase, more_fulls}
use Rattle.tree_model.specs.Items.{Limits, Answer, LexicalDepth, ByUnaryChain, ByEdges, Readings, Trees}
use Rattle.tree_model.specs.Lattices.{Lattice}
use Rattle.tree_model.specs.Answers.{IsParseAnswer}
use Rattle.packed_items.specs.Answers.{limits_in}
use Rattle.engine.specs.Named as inner

rules-there : (g : Signs) (d f : Structure) (rules : List ℕ) → FullUnder g d rules f → All (λ rule. rule < length g.instances) rules
rules-there g d f [] u = All-nil (λ rule. rule < length g.instances)
rules-there g d f (rule ∷ rules) (under_next {e = e} i u) = All-cons (λ r. r < length g.instances) rule rules (slice_get_within g.instances rule i.instance i.at) (rules-there g e f rules u)

mutual
  tree-named : (g : Signs) (t : Derivation) (f : Structure) → Full g t f → IsNamed (length g.instances) t
  tree-named g (lexical entry rules words nodes) f (full_lexical x) = (slice_get_within g.instances entry x.1.instance x.1.at, rules-there g x.0 f rules x.2)
  tree-named g (phrase rule ds) f (full_phrase fs all p) = (slice_get_within g.instances rule p.instance p.at, daughters-named g ds fs all)

  daughters-named : (g : Signs) (ds : Daughters) (fs : List Structure) → Fulls g ds fs → AreNamed (length g.instances) ds
  daughters-named g no_more fs x = tt
  daughters-named g (first d ds) _ (more_fulls {f = f} {fs = fs} a all) = (tree-named g d f a, daughters-named g ds fs all)

all-named : (P : Derivation → Type 0) (ts : List Derivation) → ((t : Derivation) → Has t ts → P t) → All P ts
all-named P [] h = All-nil P
all-named P (t ∷ ts) h = All-cons P t ts (h t here) (all-named P ts (λ u k. h u (there k)))

-- the trees of an answer
pub answer-named : (g : Signs) (words : Words) (lattice : Lattice) (most : ℕ) (limits : Limits) (a : Answer) (count : ℕ) → count ≡ length g.instances → IsParseAnswer g words lattice most limits a → inner.AreNamed count a
answer-named g words lattice most limits LexicalDepth count e x = tt
answer-named g words lattice most limits ByUnaryChain count e x = tt
answer-named g words lattice most limits ByEdges count e x = tt
answer-named g words lattice most limits Readings count e x = tt
answer-named g words lattice most limits (Trees classes trees) count e x =
    let exactly = x.1.2.2 in
    all-named (IsNamed count) trees (λ t k. let l = exactly.each t k in subst (λ n. IsNamed n t) (sym e) (tree-named g t l.structure l.full))

-- have full structures
pub answer-full : (g : Signs) (words : Words) (lattice : Lattice) (most : ℕ) (limits : Limits) (a : Answer) → IsParseAnswer g words lattice most limits a → inner.AreFull g a
answer-full g words lattice most limits LexicalDepth x = tt
answer-full g words lattice most limits ByUnaryChain x = tt
answer-full g words lattice most limits ByEdges x = tt
answer-full g words lattice most limits Readings x = tt
answer-full g words lattice most limits (Trees classes trees) x =
    let exactly = x.1.2.2 in
    all-named (λ t. (f : Structure) × Full g t f) trees (λ t k. let l = exactly.each t k in (l.structure, l.full))

-- a `u32` can say how many they are
pub answer-few : (g : Signs) (words : Words) (lattice : Lattice) (most : ℕ) (limits : declared.Limits) (a : Answer) → InRange limits → IsParseAnswer g words lattice most (limits_in limits) a → inner.IsFew a
answer-few g words lattice most limits LexicalDepth within x = tt
answer-few g words lattice most limits ByUnaryChain within x = tt
answer-few g words lattice most limits ByEdges within x = tt
answer-few g words lattice most limits Readings within x = tt
answer-few g words lattice most limits (Trees classes trees) within x =
    let few : length trees ≤ limits.readings = x.1.2.3 in
    let bound = within.readings in
    omega (arith, few, bound)

pub unmap : {A B : Type 0} (P : B → Type 0) (f : A → B) (xs : List A) → All P (map f xs) → All (λ x. P (f x)) xs
unmap P f xs h = λ k d lt. subst P (get_or-map f xs k d (f d) lt) (h k (f d) (subst (λ n. k < n) (sym (length-map xs f)) lt))
