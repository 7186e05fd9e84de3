-- The note on a line of `parse`.
use Rattle.std.proofs.Common.{ℕ, ◌≡◌, List, [], ◌∷◌, Bool, true, false, ◌&&◌, refl, sym, ◌∙◌, ap, subst}
use Rattle.std.specs.Str.{chars, IsUtf8}
use Rattle.fs_model.specs.Claims.{IsOrder}
use Rattle.tree_model.specs.Items.{Answer, LexicalDepth, ByUnaryChain, ByEdges, Readings, Trees}
use Rattle.tree_model.specs.Lattices.{Step}
use Rattle.tree_model.specs.Licensed.{IsTooDeep}
use Rattle.tree_model.specs.Answers.{IsParseAnswer, ParseAnswersAreOne}
use Rattle.morph_analysis.specs.Lattices.{LatticeTree}
use Rattle.lexical_items.specs.Seen.{lattice_seen}
use Rattle.line_charts.specs.Unknown.{AreUnknown}
use Rattle.line_charts.specs.Laws.{UnknownAreOne}
use Rattle.engine.specs.Speeches.{Speech}
use Rattle.line_commands.specs.declared.lattices.NoLattice.{NoLattice}
use Rattle.line_commands.specs.declared.lattices.NoLattice.TheVariants as why
use Rattle.line_commands.specs.Lines.{IsLatticeOf}
use Rattle.line_commands.specs.Answers.{Asked}
use Rattle.line_commands.specs.Notes.{note_line, has_no_tree, IsNoteIf, IsTreesNote, IsLineNote, no_text_noted, no_lattice_noted, lattice_noted, IsNote}
use Rattle.line_commands.specs.Inner.Lattices.{HasNoLattice, IsReportWithout}
use Rattle.line_commands.specs.Inner.Parsers.{IsLatticeNote}
use Rattle.line_commands.proofs.OneLine.{OneLattice, OneWrong, Apart, one-lattice, not-wrong}

-- ---- a note that is made

module _ (speech : Speech) (asked : Asked) (number : ℕ) where
  module _ (lattice : LatticeTree) (a : Answer) (is : IsParseAnswer speech.signs speech.words (lattice_seen lattice) asked.lexical asked.limits a) where
    -- there is nothing to note
    pub without-note : (verbose : Bool) → (verbose && has_no_tree a) ≡ false → (text : List ℕ) → text ≡ [] → IsLatticeNote verbose speech asked number lattice text
    without-note false e text none = none
    without-note true e text none = record { answer = a; is = is; note = rw e none }

    -- these are the unknown words
    pub with-note : (verbose : Bool) → (verbose && has_no_tree a) ≡ true → (steps : List Step) → AreUnknown speech.signs speech.words (lattice_seen lattice) asked.lexical (lattice_seen lattice).steps steps
        → (text : List ℕ) → text ≡ note_line number steps → IsLatticeNote verbose speech asked number lattice text
    with-note false e steps unknown text told = cc
    with-note true e steps unknown text told = record { answer = a; is = is; note = rw e (steps, unknown, told) }

    -- no lexical tree is too deep where there is an answer with trees
    pub not-deep : (verbose : Bool) → (verbose && has_no_tree a) ≡ true → IsTooDeep speech.signs speech.words (lattice_seen lattice) asked.lexical → ⊥
    not-deep false e deep = cc
    not-deep true e deep = by_answer a e is
      where
        by_answer : (b : Answer) → has_no_tree b ≡ true → IsParseAnswer speech.signs speech.words (lattice_seen lattice) asked.lexical asked.limits b → ⊥
        by_answer LexicalDepth f h = cc
        by_answer ByUnaryChain f h = cc
        by_answer ByEdges f h = cc
        by_answer Readings f h = cc
        by_answer (Trees classes []) f h = h.0 deep
        by_answer (Trees classes (t ∷ ts)) f h = cc

  -- the note on a line with this lattice
  pub note-of-line : (verbose : Bool) (line : List ℕ) (lattice : LatticeTree) (text : List ℕ) → IsUtf8 line → IsLatticeOf asked.lattice (chars line) lattice → IsLatticeNote verbose speech asked number lattice text → IsNote verbose speech asked number line text
  note-of-line false line lattice text utf8 of note = note
  note-of-line true line lattice text utf8 of note = lattice_noted lattice text utf8 of note

  -- a line without one
  pub note-without : (verbose : Bool) (line : List ℕ) (n : NoLattice) → HasNoLattice asked.lattice line n → (lines : List (List ℕ)) (refused : Bool) → IsReportWithout number n lines refused → (text : List ℕ) → text ≡ [] → IsNote verbose speech asked number line text
  note-without false line n h lines refused r text none = none
  note-without true line (why.NoText) h lines refused r text none = subst (IsLineNote asked.lattice (IsTreesNote speech asked number) line) (sym none) (no_text_noted h)
  note-without true line (why.At at) h lines refused r text none = subst (IsLineNote asked.lattice (IsTreesNote speech asked number) line) (sym none) (no_lattice_noted at h.0 h.1 h.2)
  note-without true line (why.NoMemory) h lines refused r text none = absurd r

-- ---- a line has one note

module _ (lattices : OneLattice) (wrongs : OneWrong) (apart : Apart) (answers : ParseAnswersAreOne) (unknown : UnknownAreOne) (speech : Speech) (order : IsOrder speech.signs.system) (asked : Asked) where
  one-if : (b : Bool) (lattice : LatticeTree) (number : ℕ) (own other : List ℕ) → IsNoteIf b (AreUnknown speech.signs speech.words (lattice_seen lattice) asked.lexical (lattice_seen lattice).steps) number own
      → IsNoteIf b (AreUnknown speech.signs speech.words (lattice_seen lattice) asked.lexical (lattice_seen lattice).steps) number other → own ≡ other
  one-if false lattice number own other x y = x ∙ sym y
  one-if true lattice number own other x y = x.2 ∙ ap (note_line number) (unknown speech.signs speech.words (lattice_seen lattice) asked.lexical (lattice_seen lattice).steps x.0 y.0 x.1 y.1) ∙ sym y.2

  one-trees-note : (number : ℕ) (lattice : LatticeTree) (own other : List ℕ) → IsTreesNote speech asked number lattice own → IsTreesNote speech asked number lattice other → own ≡ other
  one-trees-note number lattice own other x y =
      let same = answers speech.signs speech.words (lattice_seen lattice) asked.lexical asked.limits order x.answer y.answer x.is y.is in
      let Unknown = AreUnknown speech.signs speech.words (lattice_seen lattice) asked.lexical (lattice_seen lattice).steps in
      one-if (has_no_tree y.answer) lattice number own other (subst (λ a. IsNoteIf (has_no_tree a) Unknown number own) same x.note) y.note

  one-line-note : (number : ℕ) (line own other : List ℕ) → IsLineNote asked.lattice (IsTreesNote speech asked number) line own → IsLineNote asked.lattice (IsTreesNote speech asked number) line other → own ≡ other
  one-line-note number line _ _ (no_text_noted x) (no_text_noted y) = refl
  one-line-note number line _ _ (no_text_noted x) (no_lattice_noted at u w f) = refl
  one-line-note number line _ _ (no_text_noted x) (lattice_noted l t u k is) = absurd (x u)
  one-line-note number line _ _ (no_lattice_noted at u w f) (no_text_noted y) = refl
  one-line-note number line _ _ (no_lattice_noted at u w f) (no_lattice_noted on v z g) = refl
  one-line-note number line _ _ (no_lattice_noted at u w f) (lattice_noted l t v k is) = absurd (not-wrong lattices wrongs apart asked.lattice (chars line) l at w k f)
  one-line-note number line _ _ (lattice_noted l t u k is) (no_text_noted y) = absurd (y u)
  one-line-note number line _ _ (lattice_noted l t u k is) (no_lattice_noted at v w f) = absurd (not-wrong lattices wrongs apart asked.lattice (chars line) l at w k f)
  one-line-note number line _ _ (lattice_noted l t u k is) (lattice_noted m s v j so) =
      one-trees-note number m t s (subst (λ x. IsTreesNote speech asked number x t) (one-lattice lattices wrongs apart asked.lattice (chars line) l m k j) is) so

  pub one-note : (verbose : Bool) (number : ℕ) (line own other : List ℕ) → IsNote verbose speech asked number line own → IsNote verbose speech asked number line other → own ≡ other
  one-note false number line own other x y = x ∙ sym y
  one-note true number line own other x y = one-line-note number line own other x y
