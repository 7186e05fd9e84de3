-- What the full structure of a tree means is consistent.
use Rattle.std.specs.Prelude.{ℕ, List}
use Rattle.fs_model.specs.Closure.{AreConsistent}
use Rattle.derivation.specs.Trees.{Derivation}
use Rattle.tree_model.specs.Structures.{Structure}
use Rattle.tree_model.specs.Mothers.{Rule, Meant, IsFull}
use Rattle.tree_model.proofs.Closures.{grows, falls}
use Rattle.tree_model.proofs.MotherLaws.{meant_part, meant_full, mother_consistent}
use Rattle.tree_model.specs.Signs.{Signs, rule_system}
use Rattle.tree_model.specs.Lexical.{FullUnder, under_none, under_next, IsEntry}
use Rattle.tree_model.specs.Trees.{Full, full_lexical, full_phrase}

module _ (g : Signs) where
  entry_sound : {p : ℕ} {d : Structure} → IsEntry g p d → AreConsistent g.system (Meant (rule_system g) d)
  entry_sound x = falls g.system (λ c a. grows g.system (λ e b. b) (meant_part g.system g.paths x.structure a)) x.consistent

  mother_sound : (rule : Rule) (fs : List Structure) (f : Structure) → IsFull (rule_system g) rule fs f → AreConsistent g.system (Meant (rule_system g) f)
  mother_sound rule fs f full = falls g.system (λ c a. meant_full (rule_system g) rule fs f full a) (mother_consistent (rule_system g) rule fs full.0)

  under_sound : {d f : Structure} {ps : List ℕ} → FullUnder g d ps f → AreConsistent g.system (Meant (rule_system g) d) → AreConsistent g.system (Meant (rule_system g) f)
  under_sound under_none h = h
  under_sound (under_next x more) h = under_sound more (mother_sound x.instance.rule _ _ x.full)

  pub sound : (t : Derivation) (f : Structure) → Full g t f → AreConsistent g.system (Meant (rule_system g) f)
  sound _ f (full_lexical x) = under_sound x.2 (entry_sound x.1)
  sound _ f (full_phrase fs all p) = mother_sound p.instance.rule fs f p.full
