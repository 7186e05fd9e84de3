-- The text that is written for a valid MRS is a text of the grammar, with the tokens of its steps.
use Rattle.std.proofs.Common.{◌≡◌, ℕ, ◌∙◌, false, List, [], ◌∷◌, ◌++◌, map, refl, ap, sym, subst, append_assoc, append-nil, length, codes, arith}
use Rattle.std.specs.List.{All}
use Rattle.std.specs.Str.{chars}
use Rattle.std.proofs.lemmas.Str.{chars-nil}
use Rattle.std.proofs.lemmas.List.Elements.{All-nil, All-cons, All-head, All-tail}
use Rattle.mrs_model.specs.Meanings.{Predication, Constraint, Meaning}
use Rattle.mrs_model.specs.Valid.{IsPredication, IsConstraint, IsValid}
use Rattle.mrs_spelling.specs.declared.kinds.Kind.TheVariants.{Top, Index, High, HandleRel, Low, Left, VariableRel, Right}
use Rattle.mrs_spelling.specs.Forms.{white, only, Form, nothing, sign, seq, many, either}
use Rattle.mrs_spelling.specs.Grammar.{word, quoted, linked, var, ep, constraints, passed_over, beginning, relations, ending, mrs}
use Rattle.mrs_spelling.specs.Reading.{Tok, done, head, passes, Reads}
use Rattle.mrs_spelling.specs.Faults.{Spells}
use Rattle.mrs_spelling.proofs.Moving.{moved}
use Rattle.mrs_reading.specs.Meaning.{Piece, piece_of}
use Rattle.mrs_text.specs.Written.{variable_at, place_of, seen_after, text_of}
use Rattle.mrs_text.specs.Stored.{IsStoredPredication, IsStoredConstraint, IsStored}
use Rattle.mrs_text.proofs.Taking.{Takes, take_nothing, take_seq, take_then, take_first, take_second}
use Rattle.mrs_text.proofs.Eating.{Eats, past_low, meets_low, eat_word, eat_tight}
use Rattle.mrs_text.proofs.Steps.{Step, say, at, told, variable_pieces, pieces, eps_then, icons_then, last_step, ending_steps, steps, steps_tell}
use Rattle.mrs_text.proofs.Variables.{name_white}
use Rattle.mrs_text.proofs.SeenLemmas.{Fit, fit_none, fit_next}
use Rattle.mrs_text.proofs.Walking.{tl, Led}
use Rattle.mrs_text.proofs.Rolling.{Preds, Links, eat_at, at_first, eps_led, walk_eps, walk_list}

-- a text with these tokens
pub record IsSpelt (cs : List ℕ) (ps : List Piece) : Type 0 where
  pub toks : List Tok
  pub spelled : Spells cs toks
  pub pieces : map piece_of toks ≡ ps

module _ (m : Meaning) (v : IsValid m) (s : IsStored m) where
  all_preds : (es : List Predication) → All (IsPredication (length m.vars)) es → All IsStoredPredication es → All (Preds m.vars s.few v.vars s.vars) es
  all_preds [] h k = All-nil (Preds m.vars s.few v.vars s.vars)
  all_preds (e ∷ es) h k = All-cons (Preds m.vars s.few v.vars s.vars) e es (record { valid_ep = All-head (IsPredication (length m.vars)) e es h; stored_ep = All-head IsStoredPredication e es k })
      (all_preds es (All-tail (IsPredication (length m.vars)) e es h) (All-tail IsStoredPredication e es k))

  all_links : (cs : List Constraint) → All (IsConstraint (length m.vars)) cs → All IsStoredConstraint cs → All (Links m.vars s.few v.vars s.vars) cs
  all_links [] h k = All-nil (Links m.vars s.few v.vars s.vars)
  all_links (c ∷ cs) h k = All-cons (Links m.vars s.few v.vars s.vars) c cs (record { valid_link = All-head (IsConstraint (length m.vars)) c cs h; stored_link = All-head IsStoredConstraint c cs k })
      (all_links cs (All-tail (IsConstraint (length m.vars)) c cs h) (All-tail IsStoredConstraint c cs k))

  abbrev handles : Form
  handles = either (only 72) (seq (word (codes "HCONS")) (constraints High HandleRel Low)) nothing

  abbrev lefts : Form
  lefts = either (only 73) (seq (word (codes "ICONS")) (constraints Left VariableRel Right)) nothing

  last_word : Eats (word (codes "]")) (93 ∷ []) [] []
  last_word = eat_tight (codes "]") [] (omega arith, tt) (ap (λ z. passes white (head z)) chars-nil)

  last_led : (seen : List ℕ) → Led (told m.vars seen last_step)
  last_led seen = record { is = refl; white = past_low white 93 [] (omega arith) refl }

  icons_led : (cs : List Constraint) (seen : List ℕ) → Led (told m.vars seen (icons_then cs last_step))
  icons_led [] seen = last_led seen
  icons_led (c ∷ cs) seen = record { is = refl; white = past_low white 73 (tl (tl (told m.vars seen (icons_then (c ∷ cs) last_step)))) (omega arith) refl }

  end_icons : (cs : List Constraint) (seen : List ℕ) → All (Links m.vars s.few v.vars s.vars) cs → Fit (length m.vars) seen → Eats (seq lefts (word (codes "]"))) (tl (told m.vars seen (icons_then cs last_step))) [] (pieces m.vars seen (icons_then cs last_step))
  end_icons [] seen h f =
      take_then lefts (word (codes "]")) (chars (93 ∷ [])) (chars (93 ∷ [])) (chars []) [] (take_second (only 73) (seq (word (codes "ICONS")) (constraints Left VariableRel Right)) nothing (chars (93 ∷ [])) (chars (93 ∷ [])) [] (past_low (only 73) 93 [] (omega arith) refl) (take_nothing (chars (93 ∷ [])))) last_word
  end_icons (c ∷ cs) seen h f =
      let l = icons_then (c ∷ cs) last_step in
      let w = walk_list m.vars s.few v.vars s.vars Left VariableRel Right (codes "ICONS") (c ∷ cs) last_step seen (omega arith, (omega arith, (omega arith, (omega arith, (omega arith, tt))))) h f last_led in
      subst (Eats (seq lefts (word (codes "]"))) (tl (told m.vars seen l)) []) (sym (w.is ∙ append-nil w.toks))
      (take_then lefts (word (codes "]")) (chars (tl (told m.vars seen l))) (chars (93 ∷ [])) (chars []) w.toks
      (take_first (only 73) (seq (word (codes "ICONS")) (constraints Left VariableRel Right)) nothing (chars (tl (told m.vars seen l))) (chars (93 ∷ [])) w.toks (meets_low (only 73) 73 (tl (tl (told m.vars seen l))) (omega arith) refl) w.eats) last_word)

  end_all : (seen : List ℕ) → Fit (length m.vars) seen → Eats ending (tl (told m.vars seen (ending_steps m))) [] (pieces m.vars seen (ending_steps m))
  end_all seen f =
      let l = ending_steps m in
      let next = icons_then m.icons last_step in
      let w = walk_list m.vars s.few v.vars s.vars High HandleRel Low (codes "HCONS") m.hcons next seen (omega arith, (omega arith, (omega arith, (omega arith, (omega arith, tt))))) (all_links m.hcons v.hcons s.hcons) f (icons_led m.icons) in
      subst (Eats ending (tl (told m.vars seen l)) []) (sym w.is)
      (take_seq handles (seq lefts (word (codes "]"))) (chars (tl (told m.vars seen l))) (chars (tl (told m.vars w.after next))) (chars []) w.toks (pieces m.vars w.after next)
      (take_first (only 72) (seq (word (codes "HCONS")) (constraints High HandleRel Low)) nothing (chars (tl (told m.vars seen l))) (chars (tl (told m.vars w.after next))) w.toks (meets_low (only 72) 72 (tl (tl (told m.vars seen l))) (omega arith) refl) w.eats)
      (end_icons m.icons w.after (all_links m.icons v.icons s.icons) w.fit))

  abbrev after_eps : List Step
  after_eps = say (codes " >") [] ∷ ending_steps m

  after_led : (seen : List ℕ) → Led (told m.vars seen after_eps)
  after_led seen = record { is = refl; white = past_low white 62 (told m.vars seen (ending_steps m)) (omega arith) refl }

  ending_led : (seen : List ℕ) → Led (told m.vars seen (ending_steps m))
  ending_led seen = record { is = refl; white = past_low white 72 (tl (tl (told m.vars seen (ending_steps m)))) (omega arith) refl }

  abbrev from_eps : List Step
  from_eps = eps_then m.eps after_eps

  abbrev from_rels : List Step
  from_rels = say (codes " RELS: <") [] ∷ from_eps

  read_rels : (seen : List ℕ) → Fit (length m.vars) seen → Eats (seq relations ending) (tl (told m.vars seen from_rels)) [] (pieces m.vars seen from_eps)
  read_rels seen f =
      let w = walk_eps m.vars s.few v.vars s.vars m.eps after_eps seen (all_preds m.eps v.eps s.eps) f after_led (λ u. past_low (only 91) 62 (told m.vars u (ending_steps m)) (omega arith) refl) in
      let e = told m.vars seen from_eps in
      let led = eps_led m.vars s.few v.vars s.vars m.eps after_eps after_led seen in
      let t = told m.vars w.after (ending_steps m) in
      let d = ending_led w.after in
      subst (Eats (seq relations ending) (tl (told m.vars seen from_rels)) []) (sym w.is)
      (take_seq relations ending (chars (82 ∷ 69 ∷ 76 ∷ 83 ∷ 58 ∷ 32 ∷ 60 ∷ e)) (chars (tl t)) (chars []) w.toks (pieces m.vars w.after (ending_steps m))
      (take_seq (word (codes "RELS")) (seq (word (codes ":")) (seq (word (codes "<")) (seq (many (only 91) ep) (word (codes ">"))))) (chars (82 ∷ 69 ∷ 76 ∷ 83 ∷ 58 ∷ 32 ∷ 60 ∷ e)) (chars (58 ∷ 32 ∷ 60 ∷ e)) (chars (tl t)) [] w.toks
      (eat_tight (codes "RELS") (58 ∷ 32 ∷ 60 ∷ e) (omega arith, (omega arith, (omega arith, (omega arith, tt)))) (past_low white 58 (32 ∷ 60 ∷ e) (omega arith) refl))
      (take_seq (word (codes ":")) (seq (word (codes "<")) (seq (many (only 91) ep) (word (codes ">")))) (chars (58 ∷ 32 ∷ 60 ∷ e)) (chars (60 ∷ e)) (chars (tl t)) [] w.toks
      (eat_word (codes ":") (60 ∷ e) (omega arith, tt) (past_low white 60 e (omega arith) refl))
      (take_seq (word (codes "<")) (seq (many (only 91) ep) (word (codes ">"))) (chars (60 ∷ e)) (chars (tl e)) (chars (tl t)) [] w.toks
      (subst (λ (l : List ℕ). Eats (word (codes "<")) (60 ∷ l) (tl e) []) (sym led.is) (eat_word (codes "<") (tl e) (omega arith, tt) led.white))
      (take_then (many (only 91) ep) (word (codes ">")) (chars (tl e)) (chars (62 ∷ t)) (chars (tl t)) w.toks w.eats
      (subst (λ (l : List ℕ). Eats (word (codes ">")) (62 ∷ l) (tl t) []) (sym d.is) (eat_word (codes ">") (tl t) (omega arith, tt) d.white))))))
      (end_all w.after w.fit))

  -- the marks that stand before TOP are left out
  passed : (t : List ℕ) → Eats passed_over (84 ∷ t) (84 ∷ t) []
  passed t =
      take_seq (either (only 60) (seq (sign (only 60)) (seq linked (word (codes ">")))) nothing) (either (only 34) (seq (sign (only 34)) (seq quoted (word (codes "\"")))) nothing) (chars (84 ∷ t)) (chars (84 ∷ t)) (chars (84 ∷ t)) [] []
      (take_second (only 60) (seq (sign (only 60)) (seq linked (word (codes ">")))) nothing (chars (84 ∷ t)) (chars (84 ∷ t)) [] (past_low (only 60) 84 t (omega arith) refl) (take_nothing (chars (84 ∷ t))))
      (take_second (only 34) (seq (sign (only 34)) (seq quoted (word (codes "\"")))) nothing (chars (84 ∷ t)) (chars (84 ∷ t)) [] (past_low (only 34) 84 t (omega arith) refl) (take_nothing (chars (84 ∷ t))))

  abbrev seen_top : List ℕ
  seen_top = seen_after (place_of m.top []) [] m.top

  abbrev seen_index : List ℕ
  seen_index = seen_after (place_of m.index seen_top) seen_top m.index

  abbrev from_index : List Step
  from_index = at Index m.index ∷ from_rels

  abbrev top_pieces : List Piece
  top_pieces = variable_pieces Top (place_of m.top []) 0 (variable_at m.vars m.top)

  abbrev index_pieces : List Piece
  index_pieces = variable_pieces Index (place_of m.index seen_top) (length seen_top) (variable_at m.vars m.index)

  fit_top : Fit (length m.vars) seen_top
  fit_top = fit_next (length m.vars) [] m.top (fit_none (length m.vars)) v.top

  read_index : Eats (seq (word (codes "INDEX")) (seq (word (codes ":")) (var Index))) (tl (told m.vars seen_top (say (codes " INDEX: ") [] ∷ from_index))) (tl (told m.vars seen_index from_rels)) index_pieces
  read_index =
      let t = told m.vars seen_top from_index in
      let rest = tl (told m.vars seen_index from_rels) in
      take_seq (word (codes "INDEX")) (seq (word (codes ":")) (var Index)) (chars (73 ∷ 78 ∷ 68 ∷ 69 ∷ 88 ∷ 58 ∷ 32 ∷ t)) (chars (58 ∷ 32 ∷ t)) (chars rest) [] index_pieces
      (eat_tight (codes "INDEX") (58 ∷ 32 ∷ t) (omega arith, (omega arith, (omega arith, (omega arith, (omega arith, tt))))) (past_low white 58 (32 ∷ t) (omega arith) refl))
      (take_seq (word (codes ":")) (var Index) (chars (58 ∷ 32 ∷ t)) (chars t) (chars rest) [] index_pieces
      (eat_word (codes ":") t (omega arith, tt) (at_first m.vars s.few v.vars s.vars white Index seen_top m.index from_rels false v.index name_white))
      (eat_at m.vars s.few v.vars s.vars Index seen_top m.index from_rels fit_top v.index
      (λ u. record { is = refl; white = past_low white 82 (tl (tl (told m.vars u from_rels))) (omega arith) refl }) (λ u. past_low (only 91) 82 (tl (tl (told m.vars u from_rels))) (omega arith) refl)))

  read_top : Eats beginning (told m.vars [] (steps m)) (tl (told m.vars seen_index from_rels)) (top_pieces ++ index_pieces)
  read_top =
      let next = say (codes " INDEX: ") [] ∷ from_index in
      let t = told m.vars [] (at Top m.top ∷ next) in
      let i = tl (told m.vars seen_top next) in
      let rest = tl (told m.vars seen_index from_rels) in
      let ps = top_pieces ++ index_pieces in
      let f4 = seq (var Top) (seq (word (codes "INDEX")) (seq (word (codes ":")) (var Index))) in
      let f3 = seq (word (codes ":")) f4 in
      let tops = either (only 76) (word (codes "LTOP")) (word (codes "TOP")) in
      take_seq (word (codes "[")) (seq passed_over (seq tops f3)) (chars (91 ∷ 32 ∷ 84 ∷ 79 ∷ 80 ∷ 58 ∷ 32 ∷ t)) (chars (84 ∷ 79 ∷ 80 ∷ 58 ∷ 32 ∷ t)) (chars rest) [] ps
      (eat_word (codes "[") (84 ∷ 79 ∷ 80 ∷ 58 ∷ 32 ∷ t) (omega arith, tt) (past_low white 84 (79 ∷ 80 ∷ 58 ∷ 32 ∷ t) (omega arith) refl))
      (take_seq passed_over (seq tops f3) (chars (84 ∷ 79 ∷ 80 ∷ 58 ∷ 32 ∷ t)) (chars (84 ∷ 79 ∷ 80 ∷ 58 ∷ 32 ∷ t)) (chars rest) [] ps (passed (79 ∷ 80 ∷ 58 ∷ 32 ∷ t))
      (take_seq tops f3 (chars (84 ∷ 79 ∷ 80 ∷ 58 ∷ 32 ∷ t)) (chars (58 ∷ 32 ∷ t)) (chars rest) [] ps
      (take_second (only 76) (word (codes "LTOP")) (word (codes "TOP")) (chars (84 ∷ 79 ∷ 80 ∷ 58 ∷ 32 ∷ t)) (chars (58 ∷ 32 ∷ t)) [] (past_low (only 76) 84 (79 ∷ 80 ∷ 58 ∷ 32 ∷ t) (omega arith) refl)
      (eat_tight (codes "TOP") (58 ∷ 32 ∷ t) (omega arith, (omega arith, (omega arith, tt))) (past_low white 58 (32 ∷ t) (omega arith) refl)))
      (take_seq (word (codes ":")) f4 (chars (58 ∷ 32 ∷ t)) (chars t) (chars rest) [] ps
      (eat_word (codes ":") t (omega arith, tt) (at_first m.vars s.few v.vars s.vars white Top [] m.top next false v.top name_white))
      (take_seq (var Top) (seq (word (codes "INDEX")) (seq (word (codes ":")) (var Index))) (chars t) (chars i) (chars rest) top_pieces index_pieces
      (eat_at m.vars s.few v.vars s.vars Top [] m.top next (fit_none (length m.vars)) v.top
      (λ u. record { is = refl; white = past_low white 73 (tl (tl (told m.vars u next))) (omega arith) refl }) (λ u. past_low (only 91) 73 (tl (tl (told m.vars u next))) (omega arith) refl))
      read_index))))

  read_all : Eats mrs (told m.vars [] (steps m)) [] (pieces m.vars [] (steps m))
  read_all =
      subst (Eats mrs (told m.vars [] (steps m)) []) (append_assoc top_pieces index_pieces (pieces m.vars seen_index from_eps))
      (take_seq beginning (seq relations ending) (chars (told m.vars [] (steps m))) (chars (tl (told m.vars seen_index from_rels))) (chars []) (top_pieces ++ index_pieces) (pieces m.vars seen_index from_eps)
      read_top (read_rels seen_index (fit_next (length m.vars) seen_top m.index fit_top v.index)))

  pub is_spelt : IsSpelt (chars (text_of m)) (pieces m.vars [] (steps m))
  is_spelt =
      let cs = chars (text_of m) in
      let r = subst (λ (z : List ℕ). Takes mrs cs z (pieces m.vars [] (steps m))) chars-nil (subst (λ (z : List ℕ). Takes mrs z (chars []) (pieces m.vars [] (steps m))) (ap chars (steps_tell m [])) read_all) in
      let u = r [] in
      let w = moved mrs [] cs u.toks done u.front [] u.reads in
      let e : u.front ≡ cs = w.before ∙ sym (append-nil w.read) ∙ sym w.is in
      record {
        toks = u.toks;
        spelled = record { reads = subst (λ (z : List ℕ). Reads mrs [] cs u.toks done z []) e u.reads };
        pieces = u.pieces;
      }
