-- Where the search ends at a chain that is enough, each function tells its caller of one that the caller asks for too.
use Rattle.std.specs.Prelude.{Result, Ok, Err, IfErr, IsErrAnd}
use Rattle.std.proofs.Common.{ℕ, ◌≡◌, ◌<◌, ◌≤◌, List, [], ◌∷◌, ◌++◌, length, sym, subst}
use Rattle.lexicon.specs.Words.{Word, Has}
use Rattle.lexicon.specs.Entries.{EntryTree}
use Rattle.lexicon.specs.Groups.{GroupTree, AreGroupsOf}
use Rattle.spelling_rules.specs.Trees.{SpellingTree}
use Rattle.morph_analysis.specs.declared.made.Halt.{Halt}
use Rattle.morph_analysis.specs.declared.made.Halt.TheVariants.{Enough, NoMemory}
use Rattle.morph_analysis.specs.Made.{MadeTree, MayHalt}
use Rattle.morph_analysis.specs.Lattices.{StepTree, AreFronts, HaveSame}
use Rattle.morph_analysis.specs.Spelled.{EdgeTree, NodeTree, node_at, Runs, IsSpelled}
use Rattle.morph_analysis.specs.Inner.Adding.{IsOf, OfSome, OfGroup, OfWords, OfNode, OfNodes, OfStep}
use Rattle.morph_analysis.specs.Inner.Routes.{IsRouteOf, IsOn, IsAlong, IsEnded, IsLonger}
use Rattle.morph_analysis.proofs.RouteLemmas.{along_on, ended_on}
use Rattle.morph_analysis.proofs.GroupLemmas.{group_node}
use Rattle.morph_analysis.proofs.StepLemmas.{node_step, step_moved}

halts_like : {V : Type 0} (S : List ℕ → Type 0) (P Q : MadeTree V → Type 0) (e : Halt) → ((x : MadeTree V) → P x → Q x) → MayHalt S P e → MayHalt S Q e
halts_like S P Q Enough f h = (h.0, f h.0 h.1, h.2)
halts_like S P Q NoMemory f h = tt

-- at an exit by the error of a call
pub at_exit : {V A : Type 0} (S : List ℕ → Type 0) (P Q : MadeTree V → Type 0) (r : Result A Halt) (e : Halt) → IsErrAnd r (λ y. y ≡ e) → ((x : MadeTree V) → P x → Q x) → MayHalt S P e → IfErr r (MayHalt S Q)
at_exit S P Q (Ok x) e is f h = tt
at_exit S P Q (Err y) e is f h = subst (MayHalt S Q) (sym is) (halts_like S P Q e f h)

-- the search outwards
module _ {V : Type 0} (nodes : List NodeTree) (A : ℕ → List ℕ → V → Type 0) (depth : ℕ) (E F : ℕ → Type 0) (words : List Word) (to : ℕ) where
  pub ended_is : (rules : List ℕ) (node : ℕ) → length rules ≤ depth → (c : MadeTree V) → IsOf E (IsEnded A rules node) F words to c → IsOf E (IsOn nodes A depth rules node) F words to c
  ended_is rules node le c p = record { entry = p.entry; rules = ended_on nodes A depth rules node c.chain.entry c.chain.rules c.value le p.rules; from = p.from; words_are = p.words_are; to_is = p.to_is }

  pub longer_is : (rules longer : List ℕ) (e : EdgeTree) (entry node start : ℕ) (v : V) → start < length nodes → Has e (node_at nodes start).edges → IsLonger A depth rules e entry longer node v → (c : MadeTree V) → IsOf E (IsOn nodes A depth longer node) F words to c
      → IsOf E (IsOn nodes A depth rules start) F words to c
  longer_is rules longer e entry node start v lt has h c p = record {
    entry = p.entry;
    rules = along_on nodes A depth rules start c.chain.entry c.chain.rules c.value e lt has (subst (λ l. IsOn nodes A depth l e.to c.chain.entry c.chain.rules c.value) h.is (subst (λ n. IsOn nodes A depth longer n c.chain.entry c.chain.rules c.value) h.node_is p.rules));
    from = p.from;
    words_are = p.words_are;
    to_is = p.to_is;
  }

  pub begun_is : (start : ℕ) (rules : List ℕ) → rules ≡ [] → (c : MadeTree V) → IsOf E (IsOn nodes A depth rules start) F words to c → IsOf E (IsRouteOf nodes A depth start) F words to c
  begun_is start rules none c p = record {
    entry = p.entry;
    rules = (subst (λ l. Runs nodes l start 0) (sym (subst (λ l. c.chain.rules ≡ l ++ p.rules.more) none p.rules.is)) p.rules.runs, p.rules.made, p.rules.shallow);
    from = p.from;
    words_are = p.words_are;
    to_is = p.to_is;
  }

-- the loops over first nodes, entries, groups and nodes
pub from_is : {V : Type 0} (E : ℕ → Type 0) (R : ℕ → List ℕ → V → Type 0) (froms : List ℕ) (words : List Word) (to m : ℕ) → Has m froms → (c : MadeTree V) → IsOf E R (λ k. k ≡ m) words to c → IsOf E R (λ k. Has k froms) words to c
from_is E R froms words to m h c p = record { entry = p.entry; rules = p.rules; from = subst (λ k. Has k froms) (sym p.from) h; words_are = p.words_are; to_is = p.to_is }

pub entry_is : {V : Type 0} (nodes : List NodeTree) (A : ℕ → List ℕ → V → Type 0) (depth : ℕ) (steps : List StepTree) (s : StepTree) (n : ℕ) (front : List Word) (entries froms : List ℕ) (a : ℕ) → AreFronts steps front s.from froms → Has a entries → (c : MadeTree V)
    → IsOf (λ e. e ≡ a) (IsRouteOf nodes A depth n) (λ k. Has k froms) (front ++ s.word ∷ []) s.to c → OfGroup nodes A depth steps s n front (λ e. Has e entries) c
entry_is nodes A depth steps s n front entries froms a are h c p = record {
  entry = subst (λ e. Has e entries) (sym p.entry) h;
  rules = p.rules;
  from = are.have c.chain.from p.from;
  words_are = p.words_are;
  to_is = p.to_is;
}

pub group_is : {V : Type 0} (nodes : List NodeTree) (A : ℕ → List ℕ → V → Type 0) (depth : ℕ) (steps : List StepTree) (s : StepTree) (n : ℕ) (g : GroupTree) (front : List Word) (last : Word) → g.words ≡ front ++ last ∷ [] → (c : MadeTree V) → OfGroup nodes A depth steps s n front (λ e. Has e g.entries) c
    → OfWords nodes A depth steps s n g c
group_is nodes A depth steps s n g front last e c o = record { front = front; last = last; split = e; rest = o }

pub node_is : {V : Type 0} (lexicon : List EntryTree) (nodes : List NodeTree) (A : ℕ → List ℕ → V → Type 0) (depth : ℕ) (steps : List StepTree) (s : StepTree) (n : ℕ) (groups : List GroupTree) (g : GroupTree) → AreGroupsOf lexicon (node_at nodes n).word groups → Has g groups → (c : MadeTree V)
    → OfWords nodes A depth steps s n g c → OfNode lexicon nodes A depth steps s n c
node_is lexicon nodes A depth steps s n groups g are h c o = group_node lexicon nodes A depth steps s n groups are c (g, h, o)

pub nodes_are : {V : Type 0} (lexicon : List EntryTree) (nodes : List NodeTree) (A : ℕ → List ℕ → V → Type 0) (depth : ℕ) (steps : List StepTree) (s : StepTree) (end n : ℕ) → n < end → (c : MadeTree V) → OfNode lexicon nodes A depth steps s n c → OfNodes lexicon nodes A depth steps s end c
nodes_are lexicon nodes A depth steps s end n lt c o = (n, lt, o)

-- the loop over steps
pub step_is : {V : Type 0} (lexicon : List EntryTree) (sp : SpellingTree) (nodes : List NodeTree) (A : ℕ → List ℕ → V → Type 0) (depth : ℕ) (steps sorted : List StepTree) (s : StepTree) → IsSpelled sp s.word depth nodes → Has s sorted → (c : MadeTree V)
    → OfNodes lexicon nodes A depth steps s (length nodes) c → OfSome (OfStep lexicon sp A depth steps) sorted c
step_is lexicon sp nodes A depth steps sorted s p h c o = (s, h, node_step lexicon sp nodes A depth steps steps s p (λ t k. k) c o)

pub steps_are : {V : Type 0} (lexicon : List EntryTree) (sp : SpellingTree) (A : ℕ → List ℕ → V → Type 0) (depth : ℕ) (steps others sorted : List StepTree) → HaveSame others steps → HaveSame sorted steps → (c : MadeTree V) → OfSome (OfStep lexicon sp A depth others) sorted c
    → OfSome (OfStep lexicon sp A depth steps) steps c
steps_are lexicon sp A depth steps others sorted same order c o = (o.0, order.there o.0 o.1, step_moved lexicon sp A depth others steps same.there o.0 c o.2)
