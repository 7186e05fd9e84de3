-- How the lines of a structure's paths are written.
use Rattle.std.proofs.Common.{ℕ, zero, suc, ◌≡◌, ◌≢◌, ◌<◌, ◌+◌, ◌-◌, ◌*◌, ◌⊎◌, inl, inr, cond, Option, Some, None, List, [], ◌∷◌, ◌++◌, length, map, reverse, set, replicate, slice_index, slice_index_or, refl, sym, ◌∙◌, ap, subst, arith, length-append}
use Rattle.std.specs.Prelude.{All, is_none}
use Rattle.std.specs.List.{sum_by}
use Rattle.std.proofs.lemmas.List.{get_or-map, length-map, map_push, map-append, get_or_read, get_or_push, get_or_append_left, get_or-reverse, length-reverse, get_or-set_same, get_or-set_other, length-set, length_push, same_from_push, get_or-replicate, length-replicate}
use Rattle.std.proofs.lemmas.List.Elements.{All-get_or, All-from_get_or, All-append, All-head, All-tail}
use Rattle.std.proofs.lemmas.List.Sums.{sum_by-set, get_or-le-sum_by}
use Rattle.fs_model.specs.Claims.{Path}
use Rattle.fs_model.specs.Table.{Table, walk}
use Rattle.fs_model.specs.Numbering.{IsBefore, IsLeastPath}
use Rattle.fs_model.specs.Listing.{AreLeast, IsShown, path_at, IsIn, IsArcPath, Waits, Listing}
use Rattle.fs_model.proofs.StepLemmas.{same_or_other}
use Rattle.fs_model.proofs.TableLemmas.{walk_ends}
use Rattle.fs_model.proofs.PathLemmas.{before_branch}
use Rattle.fs_model.proofs.ListingLemmas.{root_least, arc_path_first, arc_path_leads, in_either, in_one}
use Rattle.fs_model.proofs.ListingSteps.{next_waits, not_listed, lists_again, lists_first, least_is, lists_whole, lists_begins}
use Rattle.fs_graph.specs.declared.facts.PathLine.{PathLine}
use Rattle.fs_graph.specs.Facts.{Line, line_of, path_of}
use Rattle.fs_graph.specs.declared.graph.GraphArc.{GraphArc}
use Rattle.fs_graph.specs.declared.graph.Node.{Node}
use Rattle.fs_graph.specs.declared.lines.Waiting.{Waiting}
use Rattle.fs_graph.specs.GraphMap.{GraphMap, arc_to, arcs_at, type_at, table_of, reader_of, Rises, IsGraph}
use Rattle.fs_graph.specs.Visits.{feats_of, targets_of}
use Rattle.fs_graph.specs.PathLists.{IsLineOf, paths_of, IsPathList, wait_path, IsFirst, IsListed, unlisted, lines_left}
use Rattle.fs_graph.proofs.RowLemmas.{arc_found, arc_there}

abbrev pub wait_of : Node → GraphArc → Waiting
wait_of n a = record { from = n; arc = a }

abbrev pub block : Node → List GraphArc → List Waiting
block n arcs = map (wait_of n) (reverse arcs)

abbrev no_arc : GraphArc
no_arc = record { feat = record { 0 = 0 }; to = record { 0 = 0 } }

-- the paths of a node's arcs, the last one first
module _ (least : ℕ → Path) (n : Node) (arcs : List GraphArc) (rises : Rises arcs) where
  abbrev more : List Path
  more = map (wait_path least) (block n arcs)

  block_size : length (block n arcs) ≡ length arcs
  block_size = length-map (reverse arcs) (wait_of n) ∙ length-reverse arcs

  more_size : length more ≡ length arcs
  more_size = length-map (block n arcs) (wait_path least) ∙ block_size

  block_at : (j : ℕ) → j < length arcs → slice_index_or (block n arcs) j (wait_of n no_arc) ≡ wait_of n (slice_index_or arcs (length arcs - 1 - j) no_arc)
  block_at j h =
      get_or-map (wait_of n) (reverse arcs) j no_arc (wait_of n no_arc) (let e = length-reverse arcs in omega arith) ∙ ap (wait_of n) (get_or-reverse arcs j no_arc h)

  more_at : (j : ℕ) → j < length arcs → path_at more j ≡ least n.0 ++ slice_index (feats_of arcs) (length arcs - 1 - j) ∷ []
  more_at j h =
      get_or-map (wait_path least) (block n arcs) j (wait_of n no_arc) [] (let e = block_size in omega arith) ∙ ap (wait_path least) (block_at j h)
      ∙ ap (λ f. least n.0 ++ f ∷ []) (sym (get_or-map (λ a. a.feat.0) arcs (length arcs - 1 - j) no_arc 0 (omega arith)))

  more_falls : (i j : ℕ) → i < j → j < length more → IsBefore (path_at more j) (path_at more i)
  more_falls i j h k =
      let e = more_size in
      subst (λ z. IsBefore z (path_at more i)) (sym (more_at j (omega arith)))
      (subst (λ z. IsBefore (least n.0 ++ slice_index (feats_of arcs) (length arcs - 1 - j) ∷ []) z) (sym (more_at i (omega arith)))
      (before_branch (least n.0) _ _ [] [] (rises (length arcs - 1 - j) (length arcs - 1 - i) (omega arith) (omega arith))))

  more_arcs : (j : ℕ) → j < length more → (f : ℕ) × (m : ℕ) × (arc_to arcs f ≡ Some m) × (path_at more j ≡ least n.0 ++ f ∷ [])
  more_arcs j h =
      let e = more_size in
      let k = length arcs - 1 - j in
      (slice_index (feats_of arcs) k, slice_index (targets_of arcs) k, arc_there arcs k rises (omega arith), more_at j (omega arith))

  more_all : (f m : ℕ) → arc_to arcs f ≡ Some m → IsIn more (least n.0 ++ f ∷ [])
  more_all f m e =
      let r = arc_found arcs f m e in
      let size = more_size in
      let h = r.1 in
      let k : length arcs - 1 - (length arcs - 1 - r.0) ≡ r.0 = omega arith in
      (length arcs - 1 - r.0, omega arith, more_at (length arcs - 1 - r.0) (omega arith) ∙ ap (λ z. least n.0 ++ z ∷ []) (ap (slice_index (feats_of arcs)) k ∙ r.2))

  block_ok : (P : Waiting → Type 0) → ((k : ℕ) → k < length arcs → P (wait_of n (slice_index_or arcs k no_arc))) → All P (block n arcs)
  block_ok P each =
      All-from_get_or P (block n arcs) (wait_of n no_arc)
      (λ j h. let e = block_size in subst P (sym (block_at j (omega arith))) (each (length arcs - 1 - j) (omega arith)))

abbrev flag : Option ℕ → ℕ
flag x = cond (is_none x) 1 0

flag_none : (x : Option ℕ) → x ≡ None → flag x ≡ 1
flag_none x e = ap flag e

one_fewer : (firsts : List (Option ℕ)) (n k : ℕ) → n < length firsts → slice_index_or firsts n None ≡ None → unlisted (set firsts n (Some k)) + 1 ≡ unlisted firsts
one_fewer firsts n k h e =
    let was = flag_none (slice_index_or firsts n None) e in
    omega (arith, sum_by-set flag firsts n (Some k) None h)

-- a line's path
pub line_path : (lines : List PathLine) (i : ℕ) (l : PathLine) → i < length lines → l ≡ slice_index_or lines i l → path_of l.path.items ≡ path_at (paths_of (map line_of lines)) i
line_path lines i l h is =
    ap (λ z. path_of z.path.items) is
    ∙ sym (get_or-map (λ x. x.path) (map line_of lines) i (line_of l) [] (let e = length-map lines line_of in omega arith)
    ∙ ap (λ x. x.path) (get_or-map line_of lines i l (line_of l) h))

listed_size : (lines : List PathLine) → length (paths_of (map line_of lines)) ≡ length lines
listed_size lines = length-map (map line_of lines) (λ l. l.path) ∙ length-map lines line_of

listed_more : (lines : List PathLine) (l : PathLine) → paths_of (map line_of (lines ++ l ∷ [])) ≡ paths_of (map line_of lines) ++ path_of l.path.items ∷ []
listed_more lines l = ap paths_of (map_push line_of lines l) ∙ map_push (λ x. x.path) (map line_of lines) (line_of l)

abbrev is_arc : GraphMap → Waiting → Type 0
is_arc g w = (w.from.0 < length g.types) × ((table_of g).arc w.from.0 w.arc.feat.0 ≡ Some w.arc.to.0)

module _ (g : GraphMap) (lines : List PathLine) (firsts : List (Option ℕ)) (rest : List Waiting) (w : Waiting) (r : IsListed g lines firsts (rest ++ w ∷ [])) where
  abbrev least : ℕ → Path
  least = r.graph.least

  abbrev t : Table
  t = table_of g

  abbrev p : Path
  p = wait_path least w

  abbrev listed : List Path
  listed = paths_of (map line_of lines)

  abbrev rests : List Path
  rests = map (wait_path least) rest

  now : Listing t least listed (rests ++ p ∷ [])
  now = subst (Listing t least listed) (map_push (wait_path least) rest w) r.listing

  own : is_arc g w
  own =
      subst (is_arc g) (get_or_push rest w w (length rest) refl)
      (All-get_or (is_arc g) (rest ++ w ∷ []) (length rest) w (let e = length_push rest w in omega arith) r.arcs)

  abbrev own_path : IsArcPath t least p
  own_path = record { from = w.from.0; feat = w.arc.feat.0; to = w.arc.to.0; in_table = own.0; arc = own.1; path = refl }

  leads_to : walk t 0 p ≡ Some w.arc.to.0
  leads_to = arc_path_leads t least r.graph.numbered r.graph.height r.graph.falls p own_path

  pub to_in : w.arc.to.0 < length g.types
  to_in = (walk_ends t r.graph.numbered.table 0 w.arc.to.0 p r.graph.numbered.filled leads_to).0

  pub from_in : (w.from.0 < length g.types) × (w.from.0 < length firsts) × (w.arc.to.0 < length firsts)
  from_in = let h = own.0 in let k = to_in in let e = r.firsts_all in (h, omega arith, omega arith)

  abbrev waits_now : Waits t least listed p
  waits_now = next_waits t least r.graph.numbered r.graph.height r.graph.falls listed rests p now

  same_to : waits_now.arc_path.to ≡ w.arc.to.0
  same_to =
      let a : Some waits_now.arc_path.to ≡ Some w.arc.to.0 =
      sym (arc_path_leads t least r.graph.numbered r.graph.height r.graph.falls p waits_now.arc_path) ∙ leads_to in
      cc

  from_listed : IsIn listed (least w.from.0)
  from_listed =
      let e = same_from_push (least w.from.0) (least waits_now.arc_path.from) w.arc.feat.0 waits_now.arc_path.feat waits_now.arc_path.path in
      subst (IsIn listed) (sym e.0) waits_now.from_listed

  first_of_node : (n : ℕ) → n < length g.types → (o : Option ℕ) → o ≡ slice_index_or firsts n o → IsFirst listed (least n) o × (slice_index_or firsts n None ≡ o)
  first_of_node n h o e =
      let is = get_or_read firsts n o (let s = r.firsts_all in omega arith) e None in
      (subst (IsFirst listed (least n)) (sym is) (r.firsts_are n h), sym is)

  -- the line of the node from which the path goes on
  pub from_found : (o : Option ℕ) → o ≡ slice_index_or firsts w.from.0 o → o ≡ None → ⊥
  from_found o e d = (subst (IsFirst listed (least w.from.0)) d (first_of_node w.from.0 own.0 o e).0) from_listed

  pub line_in : (n i : ℕ) → n < length g.types → (o : Option ℕ) → o ≡ slice_index_or firsts n o → o ≡ Some i → (i < length lines) × (path_at listed i ≡ least n)
  line_in n i h o e d =
      let f = subst (IsFirst listed (least n)) d (first_of_node n h o e).0 in
      let low = f.0 in
      let size = listed_size lines in
      (omega arith, f.1)

  pub path_is : (i : ℕ) (o : Option ℕ) (l : PathLine) (now path : List _) → o ≡ slice_index_or firsts w.from.0 o → o ≡ Some i → l ≡ slice_index_or lines i l → now ≡ l.path.items →
      path_of path ≡ path_of now ++ w.arc.feat.0 ∷ [] → path_of path ≡ p
  path_is i o l now path e d is n x =
      let at = line_in w.from.0 i own.0 o e d in
      x ∙ ap (λ z. path_of z ++ w.arc.feat.0 ∷ []) n ∙ ap (λ z. z ++ w.arc.feat.0 ∷ []) (line_path lines i l at.0 is ∙ at.1)

  rest_arcs : All (is_arc g) rest
  rest_arcs =
      All-from_get_or (is_arc g) rest w
      (λ i h. subst (is_arc g) (get_or_append_left rest (w ∷ []) w i h) (All-get_or (is_arc g) (rest ++ w ∷ []) i w (let e = length_push rest w in omega arith) r.arcs))

  -- a line of this path
  a_line : (l : PathLine) → path_of l.path.items ≡ p → l.ty.0 ≡ type_at g w.arc.to.0 → IsShown (reader_of g) w.arc.to.0 p (line_of l).same_as → IsLineOf (reader_of g) (line_of l)
  a_line l path ty shown = record {
    node = w.arc.to.0;
    leads = ap (walk t 0) path ∙ leads_to;
    typed = ty;
    shown = subst (λ z. IsShown (reader_of g) w.arc.to.0 z (line_of l).same_as) (sym path) shown;
    first_met = subst (AreLeast (reader_of g)) (sym path) (arc_path_first t least r.graph.numbered r.graph.height r.graph.falls p own_path);
  }

  more_sound : (l : PathLine) → IsLineOf (reader_of g) (line_of l) → All (λ x. IsLineOf (reader_of g) (line_of x)) (lines ++ l ∷ [])
  more_sound l s =
      All-append (λ x. IsLineOf (reader_of g) (line_of x)) lines (l ∷ []) r.sound
      (All-from_get_or (λ x. IsLineOf (reader_of g) (line_of x)) (l ∷ []) l
      (λ i h. let e : 0 ≡ i = omega arith in subst (λ k. IsLineOf (reader_of g) (line_of (slice_index_or (l ∷ []) k l))) e s))

  one_node : (n : ℕ) → n < length g.types → p ≡ least n → n ≡ w.arc.to.0
  one_node n h e =
      let a : Some n ≡ Some w.arc.to.0 = sym (r.graph.numbered.is_least n h).leads ∙ ap (walk t 0) (sym e) ∙ leads_to in
      cc

  -- another path to a node that was listed
  pub listed_again : (first : ℕ) (o : Option ℕ) (l : PathLine) (lines' : List PathLine) → o ≡ slice_index_or firsts w.arc.to.0 o → o ≡ Some first → lines' ≡ lines ++ l ∷ [] →
      path_of l.path.items ≡ p → l.ty.0 ≡ type_at g w.arc.to.0 → (line_of l).same_as ≡ Some (path_at listed first) → IsListed g lines' firsts rest
  listed_again first o l lines' e d is path ty shown = subst (λ z. IsListed g z firsts rest) (sym is) (record {
    graph = r.graph;
    listing = subst (λ z. Listing t least z rests) (sym (listed_more lines l ∙ ap (λ z. listed ++ z ∷ []) path))
        (lists_again t least r.graph.numbered r.graph.height r.graph.falls listed rests p now (subst (λ z. IsIn listed (least z)) (sym same_to) there));
    arcs = rest_arcs;
    firsts_all = r.firsts_all;
    firsts_are = λ n h. subst (λ z. IsFirst z (least n) (slice_index_or firsts n None)) (sym (listed_more lines l ∙ ap (λ z. listed ++ z ∷ []) path))
        (still n h (slice_index_or firsts n None) refl (r.firsts_are n h));
    sound = more_sound l (a_line l path ty (subst (IsShown (reader_of g) w.arc.to.0 p) (sym (shown ∙ ap Some at.1)) (r.graph.numbered.is_least w.arc.to.0 to_in, other)));
  })
    where
      at : (first < length lines) × (path_at listed first ≡ least w.arc.to.0)
      at = line_in w.arc.to.0 first to_in o e d

      there : IsIn listed (least w.arc.to.0)
      there = let h = at.0 in let size = listed_size lines in (first, omega arith, at.1)

      other : least w.arc.to.0 ≢ p
      other x = not_listed t least r.graph.numbered r.graph.height r.graph.falls listed rests p now (subst (IsIn listed) x there)

      still : (n : ℕ) → n < length g.types → (f : Option ℕ) → slice_index_or firsts n None ≡ f → IsFirst listed (least n) f → IsFirst (listed ++ p ∷ []) (least n) f
      still n h None is none = λ x. go (in_either listed (p ∷ []) (least n) x)
        where
          go : IsIn listed (least n) ⊎ IsIn (p ∷ []) (least n) → ⊥
          go (inl y) = none y
          go (inr y) =
              let node = one_node n h (in_one p (least n) y) in
              let a : None ≡ Some first = sym is ∙ ap (λ z. slice_index_or firsts z None) node ∙ (first_of_node w.arc.to.0 to_in o e).1 ∙ d in
              cc
      still n h (Some i) is some =
          let low = some.0 in
          let size = length_push listed p in
          (omega arith, get_or_append_left listed (p ∷ []) [] i some.0 ∙ some.1)

  -- the first path to a node
  module _ (o : Option ℕ) (e : o ≡ slice_index_or firsts w.arc.to.0 o) (d : o ≡ None) where
    unseen : IsIn listed (least waits_now.arc_path.to) → ⊥
    unseen x = (subst (IsFirst listed (least w.arc.to.0)) d (first_of_node w.arc.to.0 to_in o e).0) (subst (λ z. IsIn listed (least z)) same_to x)

    its_least : least w.arc.to.0 ≡ p
    its_least = ap least (sym same_to) ∙ least_is t least r.graph.numbered r.graph.height r.graph.falls listed rests p now unseen

    arcs_rise : Rises (arcs_at g w.arc.to.0)
    arcs_rise = r.graph.rises w.arc.to.0 to_in

    abbrev here : List Path
    here = more least w.arc.to (arcs_at g w.arc.to.0) arcs_rise

    listing' : Listing t least (listed ++ p ∷ []) (rests ++ here)
    listing' =
        lists_first t least r.graph.numbered r.graph.height r.graph.falls listed rests p now unseen here
        (more_falls least w.arc.to (arcs_at g w.arc.to.0) arcs_rise)
        (λ j h.
        let a = more_arcs least w.arc.to (arcs_at g w.arc.to.0) arcs_rise j h in
        (a.0, a.1, ap (λ z. t.arc z a.0) same_to ∙ a.2, a.3 ∙ ap (λ z. z ++ a.0 ∷ []) its_least))
        (λ f m a. subst (λ z. IsIn here (z ++ f ∷ [])) its_least
        (more_all least w.arc.to (arcs_at g w.arc.to.0) arcs_rise f m (ap (λ z. t.arc z f) (sym same_to) ∙ a)))

    pub listed_first : (k : ℕ) (l : PathLine) (lines' : List PathLine) (firsts' : List (Option ℕ)) (waiting' : List Waiting) → k ≡ length lines → lines' ≡ lines ++ l ∷ [] →
        firsts' ≡ set firsts w.arc.to.0 (Some k) → waiting' ≡ rest ++ block w.arc.to (arcs_at g w.arc.to.0) → path_of l.path.items ≡ p → l.ty.0 ≡ type_at g w.arc.to.0 →
        (line_of l).same_as ≡ None → IsListed g lines' firsts' waiting'
    listed_first k l lines' firsts' waiting' size l_is f_is w_is path ty shown =
        subst (λ z. IsListed g z firsts' waiting') (sym l_is)
        (subst (λ z. IsListed g (lines ++ l ∷ []) z waiting') (sym (f_is ∙ ap (λ z. set firsts w.arc.to.0 (Some z)) size))
        (subst (λ z. IsListed g (lines ++ l ∷ []) (set firsts w.arc.to.0 (Some (length lines))) z) (sym w_is) whole))
      where
        listed_is : paths_of (map line_of (lines ++ l ∷ [])) ≡ listed ++ p ∷ []
        listed_is = listed_more lines l ∙ ap (λ z. listed ++ z ∷ []) path

        still : (n : ℕ) → n < length g.types → n ≢ w.arc.to.0 → (f : Option ℕ) → IsFirst listed (least n) f → IsFirst (listed ++ p ∷ []) (least n) f
        still n h apart None none = λ x. go (in_either listed (p ∷ []) (least n) x)
          where
            go : IsIn listed (least n) ⊎ IsIn (p ∷ []) (least n) → ⊥
            go (inl y) = none y
            go (inr y) = apart (one_node n h (in_one p (least n) y))
        still n h apart (Some i) some =
            let low = some.0 in
            let s = length_push listed p in
            (omega arith, get_or_append_left listed (p ∷ []) [] i some.0 ∙ some.1)

        firsts_at : (n : ℕ) → n < length g.types → (n ≡ w.arc.to.0) ⊎ (n ≢ w.arc.to.0) →
            IsFirst (listed ++ p ∷ []) (least n) (slice_index_or (set firsts w.arc.to.0 (Some (length lines))) n None)
        firsts_at n h (inl x) =
            let is : slice_index_or (set firsts w.arc.to.0 (Some (length lines))) n None ≡ Some (length lines) =
            ap (λ z. slice_index_or (set firsts w.arc.to.0 (Some (length lines))) z None) x ∙ get_or-set_same firsts w.arc.to.0 (Some (length lines)) None (from_in).2 in
            let s = length_push listed p in
            let q = listed_size lines in
            subst (IsFirst (listed ++ p ∷ []) (least n)) (sym is) (omega arith, get_or_push listed p [] (length lines) q ∙ sym its_least ∙ ap least (sym x))
        firsts_at n h (inr x) =
            subst (IsFirst (listed ++ p ∷ []) (least n)) (sym (get_or-set_other firsts w.arc.to.0 n (Some (length lines)) None x)) (still n h x _ (r.firsts_are n h))

        whole : IsListed g (lines ++ l ∷ []) (set firsts w.arc.to.0 (Some (length lines))) (rest ++ block w.arc.to (arcs_at g w.arc.to.0))
        whole = record {
          graph = r.graph;
          listing = subst (λ z. Listing t least z (map (wait_path least) (rest ++ block w.arc.to (arcs_at g w.arc.to.0)))) (sym listed_is)
              (subst (Listing t least (listed ++ p ∷ [])) (sym (map-append (wait_path least) rest (block w.arc.to (arcs_at g w.arc.to.0)))) listing');
          arcs = All-append (is_arc g) rest (block w.arc.to (arcs_at g w.arc.to.0)) rest_arcs
              (block_ok least w.arc.to (arcs_at g w.arc.to.0) arcs_rise (is_arc g)
              (λ j h. (
                to_in,
                subst (λ z. arc_to (arcs_at g w.arc.to.0) z ≡ Some (slice_index_or (arcs_at g w.arc.to.0) j no_arc).to.0)
                    (get_or-map (λ a. a.feat.0) (arcs_at g w.arc.to.0) j no_arc 0 h)
                    (arc_there (arcs_at g w.arc.to.0) j arcs_rise h ∙ ap Some (get_or-map (λ a. a.to.0) (arcs_at g w.arc.to.0) j no_arc 0 h)),
              )));
          firsts_all = length-set firsts w.arc.to.0 (Some (length lines)) ∙ r.firsts_all;
          firsts_are = λ n h. subst (λ z. IsFirst z (least n) (slice_index_or (set firsts w.arc.to.0 (Some (length lines))) n None)) (sym listed_is)
              (firsts_at n h (same_or_other n w.arc.to.0));
          sound = more_sound l (a_line l path ty (subst (IsShown (reader_of g) w.arc.to.0 p) (sym shown)
              (subst (IsLeastPath (reader_of g) w.arc.to.0) its_least (r.graph.numbered.is_least w.arc.to.0 to_in))));
        }

    pub less_left : (k : ℕ) (firsts' : List (Option ℕ)) (waiting' : List Waiting) → firsts' ≡ set firsts w.arc.to.0 (Some k) → waiting' ≡ rest ++ block w.arc.to (arcs_at g w.arc.to.0) →
        lines_left g firsts' waiting' < lines_left g firsts (rest ++ w ∷ [])
    less_left k firsts' waiting' f_is w_is =
        let none = (first_of_node w.arc.to.0 to_in o e).1 ∙ d in
        let fewer = one_fewer firsts w.arc.to.0 k (from_in).2 none in
        let room = get_or-le-sum_by length g.arcs w.arc.to.0 [] (let s = r.graph.even in let h = to_in in omega arith) in
        let a = length-append rest (block w.arc.to (arcs_at g w.arc.to.0)) in
        let b = length_push rest w in
        let c = block_size least w.arc.to (arcs_at g w.arc.to.0) arcs_rise in
        subst (λ z. lines_left g z waiting' < lines_left g firsts (rest ++ w ∷ [])) (sym f_is)
        (subst (λ z. lines_left g (set firsts w.arc.to.0 (Some k)) z < lines_left g firsts (rest ++ w ∷ [])) (sym w_is)
        (falls (unlisted (set firsts w.arc.to.0 (Some k))) (unlisted firsts) (sum_by length g.arcs + 1) _ _ fewer (omega arith)))
      where
        falls : (u v k s r : ℕ) → u + 1 ≡ v → s < k + r → u * k + s < v * k + r
        falls u v k s r e h = subst (λ z. u * k + s < z * k + r) e (omega arith)

-- the root's line
pub listed_begins : (g : GraphMap) → IsGraph g → (l : PathLine) (lines : List PathLine) (firsts : List (Option ℕ)) (waiting : List Waiting) (n : Node) → n.0 ≡ 0 →
    lines ≡ l ∷ [] → firsts ≡ set (replicate (length g.types) None) 0 (Some 0) → waiting ≡ block n (arcs_at g n.0) → path_of l.path.items ≡ [] → l.ty.0 ≡ type_at g 0 →
    (line_of l).same_as ≡ None → IsListed g lines firsts waiting
listed_begins g graph l lines firsts waiting n zero_is l_is f_is w_is path ty shown =
    subst (λ z. IsListed g z firsts waiting) (sym l_is) (subst (λ z. IsListed g (l ∷ []) z waiting) (sym f_is) (subst (IsListed g (l ∷ []) start) (sym w_is) whole))
  where
    start : List (Option ℕ)
    start = set (replicate (length g.types) None) 0 (Some 0)

    filled : 0 < length g.types
    filled = graph.numbered.filled

    n_in : n.0 < length g.types
    n_in = let f = filled in omega arith

    root_is : graph.least n.0 ≡ []
    root_is = ap graph.least zero_is ∙ root_least (table_of g) graph.least graph.numbered graph.height graph.falls

    rises : Rises (arcs_at g n.0)
    rises = graph.rises n.0 n_in

    listing : Listing (table_of g) graph.least ([] ∷ []) (map (wait_path graph.least) (block n (arcs_at g n.0)))
    listing =
        lists_begins (table_of g) graph.least graph.numbered graph.height graph.falls (more graph.least n (arcs_at g n.0) rises)
        (more_falls graph.least n (arcs_at g n.0) rises)
        (λ j h.
        let a = more_arcs graph.least n (arcs_at g n.0) rises j h in
        (a.0, a.1, ap (λ z. (table_of g).arc z a.0) (sym zero_is) ∙ a.2, a.3 ∙ ap (λ z. z ++ a.0 ∷ []) root_is))
        (λ f m a. subst (λ z. IsIn (more graph.least n (arcs_at g n.0) rises) (z ++ f ∷ [])) root_is
        (more_all graph.least n (arcs_at g n.0) rises f m (ap (λ z. (table_of g).arc z f) zero_is ∙ a)))

    size : length (replicate {A = Option ℕ} (length g.types) None) ≡ length g.types
    size = length-replicate (length g.types) None

    first_at : (k : ℕ) → k < length g.types → (k ≡ 0) ⊎ (k ≢ 0) → IsFirst (path_of l.path.items ∷ []) (graph.least k) (slice_index_or start k None)
    first_at k h (inl x) =
        let is : slice_index_or start k None ≡ Some 0 =
        ap (λ z. slice_index_or start z None) x ∙ get_or-set_same (replicate (length g.types) None) 0 (Some 0) None (let s = size in let f = filled in omega arith) in
        subst (IsFirst (path_of l.path.items ∷ []) (graph.least k)) (sym is)
        (omega arith, path ∙ sym (ap graph.least x ∙ root_least (table_of g) graph.least graph.numbered graph.height graph.falls))
    first_at k h (inr x) =
        let is : slice_index_or start k None ≡ None =
        get_or-set_other (replicate (length g.types) None) 0 k (Some 0) None x ∙ get_or-replicate (length g.types) k None None h in
        subst (IsFirst (path_of l.path.items ∷ []) (graph.least k)) (sym is)
        (λ y.
        let e : [] ≡ graph.least k = sym path ∙ in_one (path_of l.path.items) (graph.least k) y in
        let a : Some 0 ≡ Some k = ap (walk (table_of g) 0) e ∙ (graph.numbered.is_least k h).leads in
        x (let b : 0 ≡ k = cc in sym b))

    whole : IsListed g (l ∷ []) start (block n (arcs_at g n.0))
    whole = record {
      graph = graph;
      listing = subst (λ z. Listing (table_of g) graph.least (z ∷ []) (map (wait_path graph.least) (block n (arcs_at g n.0)))) (sym path) listing;
      arcs = block_ok graph.least n (arcs_at g n.0) rises (is_arc g)
          (λ j h. (
            n_in,
            subst (λ z. arc_to (arcs_at g n.0) z ≡ Some (slice_index_or (arcs_at g n.0) j no_arc).to.0)
                (get_or-map (λ a. a.feat.0) (arcs_at g n.0) j no_arc 0 h)
                (arc_there (arcs_at g n.0) j rises h ∙ ap Some (get_or-map (λ a. a.to.0) (arcs_at g n.0) j no_arc 0 h)),
          ));
      firsts_all = length-set (replicate (length g.types) None) 0 (Some 0) ∙ size;
      firsts_are = λ k h. first_at k h (same_or_other k 0);
      sound = All-from_get_or (λ x. IsLineOf (reader_of g) (line_of x)) (l ∷ []) l
          (λ i h. let e : 0 ≡ i = omega arith in subst (λ k. IsLineOf (reader_of g) (line_of (slice_index_or (l ∷ []) k l))) e root_line);
    }
      where
        none_before : (q s : Path) (f : ℕ) → [] ≡ q ++ f ∷ s → ⊥
        none_before [] s f e = cc
        none_before (x ∷ q) s f e = cc

        root_line : IsLineOf (reader_of g) (line_of l)
        root_line = record {
          node = 0;
          leads = ap (walk (table_of g) 0) path;
          typed = ty;
          shown = subst (IsShown (reader_of g) 0 (path_of l.path.items)) (sym shown)
              (subst (IsLeastPath (reader_of g) 0) (root_least (table_of g) graph.least graph.numbered graph.height graph.falls ∙ sym path) (graph.numbered.is_least 0 filled));
          first_met = λ q s f m e d. absurd (none_before q s f (sym path ∙ e));
        }

-- the end
pub listed_all : (g : GraphMap) (lines : List PathLine) (firsts : List (Option ℕ)) (waiting : List Waiting) → IsListed g lines firsts waiting → waiting ≡ [] →
    IsPathList (reader_of g) (map line_of lines)
listed_all g lines firsts waiting r over = record {
  rises = λ i j h k. listing.rises i j h (let e = listed_size lines in let d = length-map lines line_of in omega arith);
  sound = All-from_get_or (IsLineOf (reader_of g)) (map line_of lines) none
      (λ i h. sound i h);
  whole = lists_whole (table_of g) r.graph.least r.graph.numbered r.graph.height r.graph.falls (paths_of (map line_of lines)) listing;
}
  where
    listing : Listing (table_of g) r.graph.least (paths_of (map line_of lines)) []
    listing = subst (λ z. Listing (table_of g) r.graph.least (paths_of (map line_of lines)) (map (wait_path r.graph.least) z)) over r.listing

    none : Line
    none = record { path = []; ty = 0; same_as = None }

    sound : (i : ℕ) → i < length (map line_of lines) → IsLineOf (reader_of g) (slice_index_or (map line_of lines) i none)
    sound i h = go lines i h r.sound
      where
        go : (ls : List PathLine) (i : ℕ) → i < length (map line_of ls) → All (λ l. IsLineOf (reader_of g) (line_of l)) ls → IsLineOf (reader_of g) (slice_index_or (map line_of ls) i none)
        go [] i h s = absurd (omega arith)
        go (l ∷ ls) zero h s = All-head (λ x. IsLineOf (reader_of g) (line_of x)) l ls s
        go (l ∷ ls) (suc i) h s = go ls i (omega arith) (All-tail (λ x. IsLineOf (reader_of g) (line_of x)) l ls s)
