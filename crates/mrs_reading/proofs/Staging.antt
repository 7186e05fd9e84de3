-- Which kinds of tokens follow one another.
use Rattle.std.specs.Prelude.{Option}
use Rattle.std.proofs.Common.{◌≡◌, ◌≢◌, ℕ, ◌∙◌, Bool, true, false, List, [], ◌∷◌, ◌++◌, map, None, Some, refl, ap, sym, subst}
use Rattle.std.proofs.lemmas.List.{map-append}
use Rattle.mrs_spelling.specs.declared.kinds.Kind.{Kind}
use Rattle.mrs_spelling.specs.declared.kinds.Kind.TheVariants.{Top, Index, PropName, PropValue, PredRun, PredText, Link, Role, Filler, OpensText, Text, EpEnd, High, HandleRel, Low, Left, VariableRel, Right}
use Rattle.std.specs.List.{Contains}
use Rattle.std.proofs.lemmas.Bool.{false≢true}
use Rattle.std.proofs.lemmas.List.Elements.{Contains-append_left, Contains-append_right, Contains-push}
use Rattle.mrs_reading.specs.Meaning.{Piece, is_top, is_index}
use Rattle.mrs_spelling.specs.Forms.{Form, many}
use Rattle.mrs_spelling.specs.Grammar.{mrs}
use Rattle.mrs_spelling.specs.Reading.{Tok, Outcome, done, stuck, Reads, reads_nothing, sign_yes, sign_no, seq_stop, seq_go, many_none, many_stop, many_go, either_yes, either_no, token_yes, token_no}
use Rattle.mrs_reading.specs.Inner.Stages.{Stage, begun, topped, outside, in_ep, at_role, at_text, at_high, at_handle_rel, at_left, at_variable_rel, named, step, same_stage, only_after, stage_after, kinds_in, Follow, stage_of, if_same, both_same, then_stage, named_after, valued_after}

pub same_told : (s t : Stage) → same_stage s t ≡ true → s ≡ t
same_told begun begun e = refl
same_told topped topped e = refl
same_told outside outside e = refl
same_told in_ep in_ep e = refl
same_told at_role at_role e = refl
same_told at_text at_text e = refl
same_told at_high at_high e = refl
same_told at_handle_rel at_handle_rel e = refl
same_told at_left at_left e = refl
same_told at_variable_rel at_variable_rel e = refl
same_told (named s) (named t) e = ap named (same_told s t e)
same_told _ _ e = absurd (cc)

pub only_told : (b : Bool) (s t : Stage) → only_after b s ≡ Some t → (b ≡ true) × (s ≡ t)
only_told true s t e = (refl, cc)
only_told false s t e = absurd (cc)

if_told : (o : Option Stage) (s t : Stage) → if_same o s ≡ Some t → (o ≡ Some s) × (s ≡ t)
if_told None s t e = absurd (cc)
if_told (Some u) s t e = let w = only_told (same_stage u s) s t e in (ap Some (same_told u s w.0), w.1)

both_told : (o p : Option Stage) (t : Stage) → both_same o p ≡ Some t → (o ≡ Some t) × (p ≡ Some t)
both_told None p t e = absurd (cc)
both_told (Some s) p t e = let w = if_told p s t e in (ap Some w.1, w.0 ∙ ap Some w.1)

pub record Passes (o : Option Stage) (f : Stage → Option Stage) (t : Stage) : Type 0 where
  pub mid : Stage
  pub first : o ≡ Some mid
  pub second : f mid ≡ Some t

then_told : (o : Option Stage) (f : Stage → Option Stage) (t : Stage) → then_stage o f ≡ Some t → Passes o f t
then_told None f t e = absurd (cc)
then_told (Some s) f t e = record { mid = s; first = refl; second = e }

pub none_after : (ks : List Kind) → stage_after None ks ≡ None
none_after [] = refl
none_after (k ∷ ks) = refl

pub stage_append : (o : Option Stage) (ks ls : List Kind) → stage_after o (ks ++ ls) ≡ stage_after (stage_after o ks) ls
stage_append o [] ls = refl
stage_append None (k ∷ ks) ls = sym (none_after ls)
stage_append (Some s) (k ∷ ks) ls = stage_append (step s k) ks ls

abbrev pub kinds_of : List Tok → List Kind
kinds_of es = map (λ e. e.kind) es

tok_append : (o : Option Stage) (es fs : List Tok) → stage_after o (kinds_of (es ++ fs)) ≡ stage_after (stage_after o (kinds_of es)) (kinds_of fs)
tok_append o es fs = ap (stage_after o) (map-append (λ (e : Tok). e.kind) es fs) ∙ stage_append o (kinds_of es) (kinds_of fs)

-- the tokens of a form lead from a stage to the stage after the form, or to some stage where it was not read whole
abbrev pub IsStaged : Outcome → Stage → List Tok → Stage → Type 0
IsStaged done s es t = stage_after (Some s) (kinds_of es) ≡ Some t
IsStaged stuck s es t = (u : Stage) × (stage_after (Some s) (kinds_of es) ≡ Some u)

staged_both : (o : Outcome) (s m t : Stage) (es fs : List Tok) → stage_after (Some s) (kinds_of es) ≡ Some m → IsStaged o m fs t → IsStaged o s (es ++ fs) t
staged_both done s m t es fs e h = tok_append (Some s) es fs ∙ ap (λ z. stage_after z (kinds_of fs)) e ∙ h
staged_both stuck s m t es fs e h = (h.0, tok_append (Some s) es fs ∙ ap (λ z. stage_after z (kinds_of fs)) e ∙ h.1)

staged_as : (o : Outcome) (s t u : Stage) (es : List Tok) → t ≡ u → IsStaged o s es t → IsStaged o s es u
staged_as o s t u es e h = subst (λ (z : Stage). IsStaged o s es z) e h

one_after : (m t : Stage) (e : Tok) → step m e.kind ≡ Some t → stage_after (Some m) (kinds_of (e ∷ [])) ≡ Some t
one_after m t e h = h

pub staged : (r : Form) (b cs : List ℕ) (es : List Tok) (o : Outcome) (d rest : List ℕ) → Reads r b cs es o d rest → (s t : Stage) → stage_of r s ≡ Some t → IsStaged o s es t
staged _ _ _ _ _ _ _ (reads_nothing b cs) s t e = e
staged _ _ _ _ _ _ _ (sign_yes x b cs c h) s t e = e
staged _ _ _ _ _ _ _ (sign_no x b cs h) s t e = (s, refl)
staged _ _ _ _ _ _ _ (seq_stop p q b cs d rest es h) s t e = let w = then_told (stage_of p s) (stage_of q) t e in staged p b cs es stuck d rest h s w.mid w.first
staged _ _ _ _ _ _ _ (seq_go p q b cs m mid d rest es fs o h k) s t e =
    let w = then_told (stage_of p s) (stage_of q) t e in
    staged_both o s w.mid t es fs (staged p b cs es done m mid h s w.mid w.first) (staged q m mid fs o d rest k w.mid t w.second)
staged _ _ _ _ _ _ _ (many_none x p b cs h) s t e = let w = if_told (stage_of p s) s t e in ap Some w.1
staged _ _ _ _ _ _ _ (many_stop x p b cs d rest es g h) s t e = let w = if_told (stage_of p s) s t e in staged p b cs es stuck d rest h s s w.0
staged _ _ _ _ _ _ _ (many_go x p b cs m mid d rest es fs o g h k) s t e =
    let w = if_told (stage_of p s) s t e in
    staged_both o s s t es fs (staged p b cs es done m mid h s s w.0) (staged (many x p) m mid fs o d rest k s t e)
staged _ _ _ _ _ _ _ (either_yes x p q b cs d rest es o g h) s t e = staged p b cs es o d rest h s t (both_told (stage_of p s) (stage_of q s) t e).0
staged _ _ _ _ _ _ _ (either_no x p q b cs d rest es o g h) s t e = staged q b cs es o d rest h s t (both_told (stage_of p s) (stage_of q s) t e).1
staged _ _ _ _ _ _ _ (token_yes k p b cs text rest es h) s t e =
    let w = then_told (stage_of p s) (λ u. step u k) t e in
    staged_both done s w.mid t es (record { kind = k; text = text; at = b } ∷ []) (staged p b cs es done (b ++ text) rest h s w.mid w.first) (one_after w.mid t (record { kind = k; text = text; at = b }) w.second)
staged _ _ _ _ _ _ _ (token_no k p b cs d rest es h) s t e = let w = then_told (stage_of p s) (λ u. step u k) t e in staged p b cs es stuck d rest h s w.mid w.first

pub mrs_staged : (cs : List ℕ) (es : List Tok) (o : Outcome) (d rest : List ℕ) → Reads mrs [] cs es o d rest → IsStaged o begun es outside
mrs_staged cs es o d rest h = staged mrs [] cs es o d rest h begun outside refl

mrs_follow : (o : Outcome) (es : List Tok) → IsStaged o begun es outside → Follow (kinds_of es)
mrs_follow done es h = (outside, h)
mrs_follow stuck es h = h

-- the tokens that the grammar reads follow one another
pub followed : (cs : List ℕ) (es : List Tok) (o : Outcome) (d rest : List ℕ) → Reads mrs [] cs es o d rest → Follow (kinds_of es)
followed cs es o d rest h = mrs_follow o es (mrs_staged cs es o d rest h)

pub follow_front : (ks ls : List Kind) → Follow (ks ++ ls) → Follow ks
follow_front ks ls h = by (stage_after (Some begun) ks) refl
  where
    by : (o : Option Stage) → stage_after (Some begun) ks ≡ o → Follow ks
    by None e = let w : None ≡ Some h.0 = sym (stage_append (Some begun) ks ls ∙ ap (λ z. stage_after z ls) e ∙ none_after ls) ∙ h.1 in absurd (cc)
    by (Some s) e = (s, e)

pub value_after_some : (ks : List Kind) → Follow (ks ++ PropValue ∷ []) → ks ≢ []
value_after_some ks h e =
    let p : stage_after (Some begun) ([] ++ PropValue ∷ []) ≡ Some h.0 = ap (λ z. stage_after (Some begun) (z ++ PropValue ∷ [])) (sym e) ∙ h.1 in
    absurd (cc)

-- the first token is a variable
pub first_is_top : (k : Kind) (ks : List Kind) → Follow (k ∷ ks) → k ≡ Top
first_is_top k ks h = top_only k (follow_front (k ∷ []) ks h)
  where
    top_only : (k : Kind) → Follow (k ∷ []) → k ≡ Top
    top_only Top h = refl
    top_only _ h = absurd (let e = h.1 in cc)

-- before the index
abbrev early : Stage → Bool
early begun = true
early topped = true
early (named s) = early s
early _ = false

not_early : (b : Bool) (s x t u : Stage) → early x ≡ false → early s ≡ true → b ≡ same_stage s x → only_after b u ≡ Some t → ⊥
not_early b s x t u n e f h =
    let w = only_told b u t h in
    let q = same_told s x (sym f ∙ w.0) in
    absurd (let r : early x ≡ true = ap early (sym q) ∙ e in false≢true (sym n ∙ r))

named_early : (s t : Stage) → early s ≡ true → named_after s ≡ Some t → early t ≡ true
named_early begun t e h = absurd (cc)
named_early (named s) t e h = absurd (cc)
named_early topped t e h = let q : named topped ≡ t = cc in ap early (sym q)
named_early _ t e h = absurd (cc)

valued_early : (s t : Stage) → early s ≡ true → valued_after s ≡ Some t → early t ≡ true
valued_early (named s) t e h = let q : s ≡ t = cc in ap early (sym q) ∙ e
valued_early _ t e h = absurd (cc)

early_step : (s : Stage) (k : Kind) (t : Stage) → early s ≡ true → step s k ≡ Some t → is_index k ≡ false → early t ≡ true
early_step s PropName t e h n = named_early s t e h
early_step s PropValue t e h n = valued_early s t e h
early_step s Top t e h n = let w = only_told (same_stage s begun) topped t h in ap early (sym w.1)
early_step s Index t e h n = absurd (cc)
early_step s PredRun t e h n = absurd (not_early (same_stage s outside) s outside t in_ep refl e refl h)
early_step s PredText t e h n = absurd (not_early (same_stage s outside) s outside t in_ep refl e refl h)
early_step s Link t e h n = absurd (not_early (same_stage s in_ep) s in_ep t in_ep refl e refl h)
early_step s Role t e h n = absurd (not_early (same_stage s in_ep) s in_ep t at_role refl e refl h)
early_step s Filler t e h n = absurd (not_early (same_stage s at_role) s at_role t in_ep refl e refl h)
early_step s OpensText t e h n = absurd (not_early (same_stage s at_role) s at_role t at_text refl e refl h)
early_step s Text t e h n = absurd (not_early (same_stage s at_text) s at_text t in_ep refl e refl h)
early_step s EpEnd t e h n = absurd (not_early (same_stage s in_ep) s in_ep t outside refl e refl h)
early_step s High t e h n = absurd (not_early (same_stage s outside) s outside t at_high refl e refl h)
early_step s HandleRel t e h n = absurd (not_early (same_stage s at_high) s at_high t at_handle_rel refl e refl h)
early_step s Low t e h n = absurd (not_early (same_stage s at_handle_rel) s at_handle_rel t outside refl e refl h)
early_step s Left t e h n = absurd (not_early (same_stage s outside) s outside t at_left refl e refl h)
early_step s VariableRel t e h n = absurd (not_early (same_stage s at_left) s at_left t at_variable_rel refl e refl h)
early_step s Right t e h n = absurd (not_early (same_stage s at_variable_rel) s at_variable_rel t outside refl e refl h)

-- where the index was read, a token is the index
pub index_among : (ps : List Piece) (s : Stage) → early s ≡ true → stage_after (Some s) (kinds_in ps) ≡ Some outside → ((q : Piece) → Contains ps q → is_index q.kind ≡ false) → ⊥
index_among [] s e h n = let q : s ≡ outside = cc in false≢true (ap early (sym q) ∙ e)
index_among (p ∷ ps) s e h n = by (step s p.kind) refl h (λ t x g. index_among ps t x g (λ q c. n q (Contains-append_right (p ∷ []) ps q c)))
  where
    by : (o : Option Stage) → step s p.kind ≡ o → stage_after o (kinds_in ps) ≡ Some outside → ((t : Stage) → early t ≡ true → stage_after (Some t) (kinds_in ps) ≡ Some outside → ⊥) → ⊥
    by None f g k = let w : None ≡ Some outside = sym (none_after (kinds_in ps)) ∙ g in absurd (cc)
    by (Some t) f g k = k t (early_step s p.kind t e f (n p (Contains-append_left (p ∷ []) ps p (Contains-push [] p)))) g

-- and the first is the top
pub top_among : (ps : List Piece) → stage_after (Some begun) (kinds_in ps) ≡ Some outside → ((q : Piece) → Contains ps q → is_top q.kind ≡ false) → ⊥
top_among [] h n = absurd (cc)
top_among (p ∷ ps) h n =
    let t = first_is_top p.kind (kinds_in ps) (outside, h) in
    false≢true (sym (n p (Contains-append_left (p ∷ []) ps p (Contains-push [] p))) ∙ ap is_top t)

pub whole_stage : (cs : List ℕ) (es : List Tok) (d rest : List ℕ) → Reads mrs [] cs es done d rest → stage_after (Some begun) (kinds_of es) ≡ Some outside
whole_stage cs es d rest h = mrs_staged cs es done d rest h

-- the next token's step
pub next_step : (ps : List Piece) (p : Piece) (s : Stage) (f : Follow (kinds_in (ps ++ p ∷ []))) → stage_after (Some begun) (kinds_in ps) ≡ Some s → step s p.kind ≡ Some f.0
next_step ps p s f e =
    sym (ap (stage_after (Some begun)) (map-append (λ (q : Piece). q.kind) ps (p ∷ [])) ∙ stage_append (Some begun) (kinds_in ps) (p.kind ∷ []) ∙ ap (λ z. stage_after z (p.kind ∷ [])) e) ∙ f.1
