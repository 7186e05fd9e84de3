-- The names in statements that were walked are texts.
use Rattle.std.proofs.Common.{ℕ, ◌≡◌, ◌⊎◌, inl, inr, true, false, List, [], ◌∷◌, ◌++◌, map, string_bytes, refl, sym, ap, subst}
use Rattle.tdl_reader.specs.declared.Statement.{Statement}
use Rattle.tdl_reader.specs.declared.Statement.TheVariants.{Define, Adds, Begin, End, Include, Letters}
use Rattle.tdl_reader.specs.declared.Term.{Term, Name as NameTerm, Text, Coref, Avm', List', Diff'}
use Rattle.tdl_reader.specs.Trees.{body_tree}
use Rattle.tdl_reader.specs.Views.{term_of, statement_of}
use Rattle.type_hierarchy.specs.Order.{Has, here, there}
use Rattle.grammar_files.specs.declared.placed.Placed.{Placed}
use Rattle.grammar_files.specs.Placings.{PlacedTree, placed_of}
use Rattle.grammar_files.specs.Statements.{is_define, name_of, body_of, name_written, body_written}
use Rattle.grammar_settings.specs.Forms.{Name}
use Rattle.grammar_files.specs.declared.walking.Walked.{Walked}
use Rattle.grammar_files.specs.WalkViews.{walked_of}
use Rattle.grammar_types.specs.Typings.{top_name, top_names}
use Rattle.grammar_types.specs.Outcomes.{IsStringBytes, HaveTexts}
use Rattle.grammar_types.proofs.EachFault.{split}
use Rattle.grammar_types.proofs.SettleLists.{true_not_false}

one_of : (n m : Name) → Has n (m ∷ []) → n ≡ m
one_of n _ here = refl
one_of n m (there h) = elim h [ ]

term_text : (t : Term) (n : Name) → Has n (top_name (term_of t)) → IsStringBytes n
unfolding term_of
term_text (NameTerm name at) n h = (name, sym (one_of n (string_bytes name) h))
term_text (Text text at) n h = elim h [ ]
term_text (Coref name at) n h = elim h [ ]
term_text (Avm' shape all at) n h = elim h [ ]
term_text (List' shape all rest at) n h = elim h [ ]
term_text (Diff' shape all at) n h = elim h [ ]

top_text : (xs : List Term) (n : Name) → Has n (top_names (body_tree (map term_of xs))) → IsStringBytes n
top_text [] n h = elim h [ ]
top_text (x ∷ xs) n h = go (split n (top_name (term_of x)) (top_names (body_tree (map term_of xs))) h) (top_text xs n)
  where
    go : Has n (top_name (term_of x)) ⊎ Has n (top_names (body_tree (map term_of xs))) → (Has n (top_names (body_tree (map term_of xs))) → IsStringBytes n) → IsStringBytes n
    go (inl k) later = term_text x n k
    go (inr k) later = later k

name_text : (s : Statement) → is_define (statement_of s) ≡ true → IsStringBytes (name_written (statement_of s))
name_text (Define name at affix body) e = (name, refl)
name_text (Adds name at body) e = (name, refl)
name_text (Begin status at) e = absurd (true_not_false false e refl)
name_text (End instance at) e = absurd (true_not_false false e refl)
name_text (Include file at) e = absurd (true_not_false false e refl)
name_text (Letters set at) e = absurd (true_not_false false e refl)

parent_text : (s : Statement) (n : Name) → Has n (top_names (body_written (statement_of s))) → IsStringBytes n
parent_text (Define name at affix body) n h = top_text body.terms.items n h
parent_text (Adds name at body) n h = top_text body.terms.items n h
parent_text (Begin status at) n h = elim h [ ]
parent_text (End instance at) n h = elim h [ ]
parent_text (Include file at) n h = elim h [ ]
parent_text (Letters set at) n h = elim h [ ]

placed_by : (p : PlacedTree) (xs : List Placed) → Has p (map placed_of xs) → (x : Placed) × (placed_of x ≡ p)
placed_by p [] h = elim h [ ]
placed_by p (x ∷ xs) h = go p (placed_of x) refl (map placed_of xs) h (placed_by p xs)
  where
    go : (p q : PlacedTree) → placed_of x ≡ q → (ps : List PlacedTree) → Has p (q ∷ ps) → (Has p ps → (y : Placed) × (placed_of y ≡ p)) → (y : Placed) × (placed_of y ≡ p)
    go p _ e ps here later = (x, e)
    go p q e ps (there h) later = later h

pub texts_walked : (w : Walked) → HaveTexts (walked_of w).statements
texts_walked w = record {
  defined = λ p h d. let r = placed_by p w.statements.items h in
      subst (λ q. is_define q.statement ≡ true → IsStringBytes (name_of q)) r.1 (name_text r.0.statement) d;
  parents = λ p n h m. let r = placed_by p w.statements.items h in
      subst (λ q. Has n (top_names (body_of q)) → IsStringBytes n) r.1 (parent_text r.0.statement n) m;
}
