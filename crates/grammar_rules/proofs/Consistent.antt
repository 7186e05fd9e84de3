-- The full structure of a lexical tree is consistent, as a graph.
use Rattle.std.specs.Prelude.{ℕ, List}
use Rattle.fs_model.specs.Sources.{Reader, Told}
use Rattle.fs_model.specs.Closure.{AreConsistent, IsConsistent}
use Rattle.tree_model.specs.Structures.{Structure}
use Rattle.tree_model.specs.Mothers.{Meant}
use Rattle.tree_model.specs.Views.{view, IsInside, source_alone}
use Rattle.tree_model.proofs.Closures.{grows, falls}
use Rattle.tree_model.proofs.MotherLaws.{meant_part, meant_full, mother_consistent}
use Rattle.tree_model.proofs.ViewLemmas.{tells_says, alone_to}
use Rattle.tree_model.specs.Signs.{Signs, rule_system}
use Rattle.tree_model.specs.Lexical.{FullUnder, under_none, under_next, IsEntry, FullLexical}

module _ (g : Signs) where
  entry_sound : {p : ℕ} {d : Structure} → IsEntry g p d → AreConsistent g.system (Meant (rule_system g) d)
  entry_sound x = falls g.system (λ c a. grows g.system (λ e b. b) (meant_part g.system g.paths x.structure a)) x.consistent

  under_sound : {d f : Structure} {ps : List ℕ} → FullUnder g d ps f → AreConsistent g.system (Meant (rule_system g) d) → AreConsistent g.system (Meant (rule_system g) f)
  under_sound under_none h = h
  under_sound (under_next x more) h =
      under_sound more (falls g.system (λ c a. meant_full (rule_system g) x.instance.rule _ _ x.full a) (mother_consistent (rule_system g) x.instance.rule _ x.full.0))

  pub lexical_sound : {entry : ℕ} {rules : List ℕ} {f : Structure} → FullLexical g entry rules f → AreConsistent g.system (Meant (rule_system g) f)
  lexical_sound h = under_sound h.2 (entry_sound h.1)

  -- a graph whose structure is consistent
  pub alone_sound : (r : Reader) → IsInside g.paths r → AreConsistent g.system (Meant (rule_system g) (view g.paths r)) → IsConsistent g.system (Told (source_alone r))
  alone_sound r inside h = falls g.system (λ c a. grows g.system (λ e t. tells_says g.system g.paths r inside e (alone_to r e t)) a) h
