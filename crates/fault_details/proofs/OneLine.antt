-- One thing at most is told of a cause beyond its place.
use Rattle.std.proofs.Common.{ℕ, ◌≡◌, true, false, List, Option, Some, Ok, refl, sym, ap, subst, ◌∙◌}
use Rattle.type_hierarchy.specs.Table.{TypeTable}
use Rattle.type_hierarchy.specs.Decls.{Name}
use Rattle.fs_model.specs.Sources.{Told}
use Rattle.fs_unify.specs.Rules.{Grammar, system_of}
use Rattle.fs_unify.specs.Given.{facts_source}
use Rattle.forced_types.specs.Limits.{IsVerdictWithin, VerdictsWithinAreOne}
use Rattle.grammar_files.specs.declared.expand_fault.ExpandFault.{ExpandFault}
use Rattle.grammar_files.specs.declared.expand_fault.ExpandFault.TheVariants.{UnknownName, NoIntro, Intro, NoStructure, NoMemory}
use Rattle.constraint_expand.specs.Statements.{statement_at}
use Rattle.constraint_expand.specs.Systems.{IsSystemOf}
use Rattle.constraint_expand.specs.Faults.{claims_of_definition}
use Rattle.grammar_files.specs.declared.fault.Why.{Why}
use Rattle.grammar_files.specs.declared.fault.Why.TheVariants.{Settings, Shelf, TooLong as FileTooLong, IncludeLoop, TooManyFiles, Lex, Read, Environment, Typing, TooManyTypes, Expand, Arity, Orthography}
use Rattle.grammar_files.specs.Walks.{WalkedTree}
use Rattle.grammar_load.specs.Expanding.{names_by}
use Rattle.grammar_load.proofs.OneSystem.{tree-laws, one-system}
use Rattle.fault_places.specs.Places.{set_in}
use Rattle.fault_details.specs.Further.{told_text, IsClashLine, IsExpansionLine, IsFurtherLine, is_clash, has_further, IsFurther, no_more, one_line}
use Rattle.fault_details.proofs.Systems.{OneTable}
use Rattle.fault_details.proofs.Reading.{OneWalk}

module _ (table : OneTable) (verdict : VerdictsWithinAreOne) (w : WalkedTree) where
  clash-one : (k : ℕ) (x y : List ℕ) → IsClashLine w k x → IsClashLine w k y → x ≡ y
  clash-one k x y a b =
      let s = names_by w.settings in
      let p = statement_at w.statements k in
      let types : b.types ≡ a.types = table w b.types a.types b.typed a.typed in
      let moved = subst (λ (t : TypeTable). IsSystemOf t s w.statements b.feats b.system) types b.system_is in
      let both = one-system a.types s w.statements (tree-laws w a.types a.typed) a.feats b.feats a.system b.system a.system_is moved in
      let here' = subst (λ (l : List Name). IsVerdictWithin (system_of a.system) (Told (facts_source (claims_of_definition a.system s l p))) s.node_limit a.verdict) both.0 a.verdict_is in
      let there' = subst (λ (g : Grammar). IsVerdictWithin (system_of g) (Told (facts_source (claims_of_definition g s b.feats p))) s.node_limit a.verdict) both.1 here' in
      let one : a.verdict ≡ b.verdict = verdict (system_of b.system) (facts_source (claims_of_definition b.system s b.feats p)) s.node_limit a.verdict b.verdict there' b.verdict_is in
      a.line_is ∙ ap (λ (t : TypeTable). told_text t a.feats a.verdict) (sym types) ∙ ap (λ (l : List Name). told_text b.types l a.verdict) both.0
      ∙ ap (told_text b.types b.feats) one ∙ sym b.line_is

  expansion-one : (e : ExpandFault) (x y : List ℕ) → IsExpansionLine w e x → IsExpansionLine w e y → x ≡ y
  expansion-one (NoStructure name k) x y a b = clash-one k x y a b
  expansion-one (UnknownName name at k) x y a b = absurd a
  expansion-one (NoIntro f at k) x y a b = absurd a
  expansion-one (Intro f c d k) x y a b = absurd a
  expansion-one NoMemory x y a b = absurd a

  pub line-one : (why : Why) (x y : List ℕ) → IsFurtherLine w why x → IsFurtherLine w why y → x ≡ y
  line-one Arity x y a b = a ∙ sym b
  line-one Orthography x y a b = a ∙ sym b
  line-one (Expand e) x y a b = expansion-one e x y a b
  line-one Settings x y a b = absurd a
  line-one Shelf x y a b = absurd a
  line-one FileTooLong x y a b = absurd a
  line-one IncludeLoop x y a b = absurd a
  line-one TooManyFiles x y a b = absurd a
  line-one (Lex e) x y a b = absurd a
  line-one (Read e) x y a b = absurd a
  line-one Environment x y a b = absurd a
  line-one (Typing e) x y a b = absurd a
  line-one TooManyTypes x y a b = absurd a

-- a cause of which a line is told has one
expansion-more : (w : WalkedTree) (e : ExpandFault) (x : List ℕ) → IsExpansionLine w e x → is_clash e ≡ true
expansion-more w (NoStructure name k) x a = refl
expansion-more w (UnknownName name at k) x a = absurd a
expansion-more w (NoIntro f at k) x a = absurd a
expansion-more w (Intro f c d k) x a = absurd a
expansion-more w NoMemory x a = absurd a

pub line-more : (w : WalkedTree) (why : Why) (x : List ℕ) → IsFurtherLine w why x → has_further why ≡ true
line-more w Arity x a = refl
line-more w Orthography x a = refl
line-more w (Expand e) x a = expansion-more w e x a
line-more w Settings x a = absurd a
line-more w Shelf x a = absurd a
line-more w FileTooLong x a = absurd a
line-more w IncludeLoop x a = absurd a
line-more w TooManyFiles x a = absurd a
line-more w (Lex e) x a = absurd a
line-more w (Read e) x a = absurd a
line-more w Environment x a = absurd a
line-more w (Typing e) x a = absurd a
line-more w TooManyTypes x a = absurd a

apart : (why : Why) {A : Type 0} → has_further why ≡ false → has_further why ≡ true → A
apart why a b = let no : false ≡ true = sym a ∙ b in absurd cc

pub further-one : OneWalk → OneTable → VerdictsWithinAreOne → (files : Name → Option (List ℕ)) (name : Name) (settings : Option Name) (why : Why) (x y : List ℕ)
    → IsFurther (Some files) name settings why x → IsFurther (Some files) name settings why y → x ≡ y
further-one walk table verdict files name settings why _ _ (no_more e) (no_more d) = refl
further-one walk table verdict files name settings why _ _ (no_more e) (one_line v l b is) = apart why e (line-more v why l is)
further-one walk table verdict files name settings why _ _ (one_line w k a is) (no_more d) = apart why d (line-more w why k is)
further-one walk table verdict files name settings why _ _ (one_line w k a is) (one_line v l b also) =
    let same : Ok v ≡ Ok w = walk files name settings (Ok v) (Ok w) b a in
    let one : v ≡ w = cc in
    ap set_in (line-one table verdict w why k l is (subst (λ (u : WalkedTree). IsFurtherLine u why l) one also))
