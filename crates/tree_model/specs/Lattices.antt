-- Lattices of words, and the trees that fit them.
use Rattle.std.specs.Prelude.{ℕ, List, [], ◌∷◌, Some}
use Rattle.fs_model.specs.Claims.{Has}
use Rattle.derivation.specs.Trees.{Derivation, Daughters, lexical, phrase, no_more, first}

abbrev pub Word : Type 0
Word = List ℕ

pub record Step : Type 0 where
  pub from : ℕ
  pub to : ℕ
  pub word : Word

-- its first node is 0
pub record Lattice : Type 0 where
  pub steps : List Step
  pub end : ℕ

-- some path of steps from the first node to the second carries exactly these words
pub data Carries (lattice : Lattice) : ℕ → List Word → ℕ → Type 0 where
  carries_none : {n : ℕ} → Carries lattice n [] n
  carries_step : {m : ℕ} {ws : List Word} (step : Step) → Has step lattice.steps → Carries lattice step.to ws m → Carries lattice step.from (step.word ∷ ws) m

mutual
  -- the tree fits: it begins at the first node and ends at the second, and each daughter begins where the one to its left ends
  pub data Spans : Derivation → ℕ → ℕ → Type 0 where
    spans_lexical : {entry : ℕ} {rules : List ℕ} {words : List Word} {a b : ℕ} → Spans (lexical entry rules words (Some (a, b))) a b
    spans_phrase : {rule : ℕ} {d : Derivation} {ds : Daughters} {a b c : ℕ} → Spans d a b → SpanOn ds b c → Spans (phrase rule (first d ds)) a c

  -- further daughters from one node to another
  pub data SpanOn : Daughters → ℕ → ℕ → Type 0 where
    spans_no_more : {a : ℕ} → SpanOn no_more a a
    spans_next : {d : Derivation} {ds : Daughters} {a b c : ℕ} → Spans d a b → SpanOn ds b c → SpanOn (first d ds) a c
