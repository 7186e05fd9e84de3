-- Where nothing is pending, each tree with a full structure has a live host whose shape agrees with it.
use Rattle.std.specs.Prelude.{◌≡◌, ℕ, ◌+◌, ◌≤◌, Bool, true, Option, List, [], ◌∷◌, length, refl}
use Rattle.std.proofs.Common.{ap, subst, sym, ◌∙◌, arith}
use Rattle.chart_model.specs.Calculus.{Calculus, Laws, AllOver, none, more, Along, along_none, along_more, Agreement, all_over_itself}
use Rattle.chart_model.specs.Chart.{Kind, OfLeaf, OfPartial, OfWhole, Chart, Leaf, Limits, shapes_at, leaf_row, all_free}
use Rattle.chart_model.specs.Classes.{Class, class_covers, class_shapes, class_level}
use Rattle.chart_model.specs.Grown.{Tree, phrase, Trees, more_trees, Grown, grown_leaf, grown_rule, AllGrown, no_grown, more_grown, LeadsTo, ends, goes, Stands, stands_leaf, stands_phrase, AllStand, none_stand, more_stand, Holds}
use Rattle.chart_model.specs.Finished.{LeavesHaveRows, NothingPending}
use Rattle.chart_model.specs.At.{to_get, at_one, at_below}
use Rattle.chart_model.proofs.Unique.{Unique}
use Rattle.chart_model.proofs.Gather
use Rattle.chart_model.proofs.Complete.{LiveOver, RowOk, whole_ok, Facts, Hosts, no_hosts, more_hosts, hosts_length, hosts_covers, hosts_shapes, hosts_low, LeafRow, WholeRow, Applies, all_due, whole_of, from_row, from_leaf, rule_of, Low, no_low, more_low}

agree_over : {M F : Type 0} {over : M → M → Bool} {agrees : M → F → Type 0} → ((n m : M) (f : F) → over n m ≡ true → agrees m f → agrees n f) → {ns ms : List M} {fs : List F} → AllOver over ns ms → Along agrees ms fs → Along agrees ns fs
agree_over go none along_none = along_none
agree_over go (more {g = n} {s = m} o os) (along_more {y = f} a as') = along_more (go n m f o a) (agree_over go os as')

-- representatives lead to one end
pub leads_one : {into : List (Option ℕ)} {i j h : ℕ} → LeadsTo into i j → LeadsTo into i h → j ≡ h
leads_one (ends a) (ends b) = refl
leads_one (ends a) (goes b after) = absurd (let z = at_one a b in cc)
leads_one (goes a after) (ends b) = absurd (let z = at_one a b in cc)
leads_one {into = into} {h = h} (goes {r = r} a after) (goes {r = s} b others) = let e : s ≡ r = (let z = at_one b a in cc) in leads_one after (subst (λ n. LeadsTo into n h) e others)

module _ {M C : Type 0} (k : Calculus M C) (limits : Limits) (leaves : List (Leaf M C)) (ch : Chart M C) (unique : Unique k limits leaves ch) where
  mutual
    -- a tree stands by one row, in one group
    pub stands_once : {t : Tree} {i h j g : ℕ} → Stands leaves ch t i h → Stands leaves ch t j g → (i ≡ j) × (h ≡ g)
    stands_once (stands_leaf l a) (stands_leaf m b) = (refl, leads_one a b)
    stands_once {i = i} {j = j} {g = g} (stands_phrase {rule = rule} row at kind live ds leads) (stands_phrase other bt kind2 live2 es leads2) =
        let e : row.daughters ≡ other.daughters = all_once ds es in
        let p : i ≡ j = unique.row_once i j row other rule at bt (ap rule_of kind) (ap rule_of kind2) e in
        (p, leads_one leads (subst (λ n. LeadsTo ch.into n g) (sym p) leads2))

    pub all_once : {ts : Trees} {ds es : List ℕ} → AllStand leaves ch ts ds → AllStand leaves ch ts es → ds ≡ es
    all_once none_stand none_stand = refl
    all_once (more_stand s ss) (more_stand r rs) = let p = (stands_once s r).1 in let q = all_once ss rs in cc

module _ {M C F : Type 0} (k : Calculus M C) (full : ℕ → List F → F → Type 0) (agrees : M → F → Type 0) (agree : Agreement k.over k.applies k.mother full agrees) (of_leaf : Leaf M C → F → Type 0) (leaf_agrees : (leaf : Leaf M C) (f : F) → of_leaf leaf f → agrees leaf.shape f) (limits : Limits) (leaves : List (Leaf M C)) (laws : Laws k) (ch : Chart M C) (facts : Facts k limits leaves ch) (all_done : NothingPending ch) (unique : Unique k limits leaves ch) (leaf_rows : LeavesHaveRows k limits leaves ch) where
  -- a class of the chart that a host subsumes and that agrees, in whose group the tree stands
  record Agreed (t : Tree) (c : Class F C) : Type 0 where
    shape : M
    host : ℕ
    live : LiveOver k ch.rows ch.into c.cover c.level shape host
    agrees_too : agrees shape c.shape
    number : ℕ
    stands : Stands leaves ch t number host

  record AgreedAll (ts : Trees) (cs : List (Class F C)) : Type 0 where
    hs : List ℕ
    ds : List (Class M C)
    hosts : Hosts k limits leaves ch.rows ch.into hs ds
    covers : class_covers ds ≡ class_covers cs
    level : class_level ds ≡ class_level cs
    counted : length ds ≡ length cs
    agree_too : Along agrees (class_shapes ds) (class_shapes cs)
    stand : AllStand leaves ch ts hs

  -- the mother that a whole row holds
  mother_of : (rule : ℕ) (hs : List ℕ) (w : WholeRow k limits leaves ch.rows rule hs) (kind : Kind) → w.row.kind ≡ kind → RowOk k limits leaves ch.rows w.row kind → (v : M) × k.mother rule (shapes_at ch.rows hs) v
  mother_of rule hs w (OfLeaf name) e o = absurd (let z = w.kind in cc)
  mother_of rule hs w (OfPartial q) e o = absurd (let z = w.kind in cc)
  mother_of rule hs w (OfWhole q) e (whole_ok _ v q_ok full' covers shape mother level) =
      let same : q ≡ rule = let z = w.kind in cc in
      (v, subst (λ xs. k.mother rule (shapes_at ch.rows xs) v) w.daughters_are (subst (λ x. k.mother x (shapes_at ch.rows w.row.daughters) v) same mother))

  levels : (d : Class M C) (c : Class F C) → d.level ≡ c.level → (ds : List (Class M C)) (cs : List (Class F C)) → length ds ≡ length cs → class_level (d ∷ ds) ≡ class_level (c ∷ cs)
  levels d c e [] [] h = ap (λ n. n + 1) e
  levels d c e [] (y ∷ cs) h = absurd (omega arith)
  levels d c e (x ∷ ds) [] h = absurd (omega arith)
  levels d c e (x ∷ ds) (y ∷ cs) h = refl

  with_first : (t : Tree) (ts : Trees) (c : Class F C) (rest : List (Class F C)) → c.level ≤ limits.unary → Agreed t c → AgreedAll ts rest → AgreedAll (more_trees t ts) (c ∷ rest)
  with_first t ts c rest u a r = record {
    hs = a.host ∷ r.hs;
    ds = record { cover = c.cover; level = c.level; shape = a.shape } ∷ r.ds;
    hosts = more_hosts a.host (record { cover = c.cover; level = c.level; shape = a.shape }) a.live u r.hosts;
    covers = ap (λ xs. c.cover ∷ xs) r.covers;
    level = levels (record { cover = c.cover; level = c.level; shape = a.shape }) c refl r.ds rest r.counted;
    counted = omega (arith, r.counted);
    agree_too = along_more a.agrees_too r.agree_too;
    stand = more_stand a.stands r.stand;
  }

  low_free : {hs : List ℕ} → Low k limits leaves ch.rows ch.into hs → all_free ch.into hs ≡ true
  low_free no_low = refl
  low_free (more_low h l f rest) = rw (Gather.at_free ch.into h f) (low_free rest)

  -- where a tree of a whole row of live hosts stands
  stands_by : (rule : ℕ) (ts : Trees) (hs : List ℕ) (h : ℕ) (w : WholeRow k limits leaves ch.rows rule hs) → Low k limits leaves ch.rows ch.into hs → AllStand leaves ch ts hs → LeadsTo ch.into w.number h → Stands leaves ch (phrase rule ts) w.number h
  stands_by rule ts hs h w low stand leads =
      stands_phrase w.row w.at w.kind (subst (λ xs. all_free ch.into xs ≡ true) (sym w.daughters_are) (low_free low)) (subst (AllStand leaves ch ts) (sym w.daughters_are) stand) leads

  mutual
    agreed : (t : Tree) (c : Class F C) → Grown k full of_leaf limits leaves t c → Agreed t c
    agreed t c (grown_leaf l leaf f a is) =
        let row : LeafRow k limits leaves ch.rows leaf = record { number = l; row = leaf_row k limits leaf; at = leaf_rows.row_is l leaf a; shape = refl; cover = refl; level = refl } in
        let r = from_leaf k limits leaves laws ch facts leaf row in
        record { shape = leaf.shape; host = r.host; live = r.live; agrees_too = leaf_agrees leaf f is; number = l; stands = stands_leaf (at_below a) r.leads }
    agreed t c (grown_rule rule ts cs cover f r_ok len grown cov is) =
        let d = agreed_all ts cs grown in
        let up = agree_over agree.over_agrees (hosts_shapes k limits leaves ch.rows ch.into d.hosts) d.agree_too in
        let a : Applies k limits leaves laws ch facts rule d.hs = record { cover = cover; covers = rw (hosts_covers k limits leaves ch.rows ch.into d.hosts, d.covers) cov; apply = agree.applies_too rule (shapes_at ch.rows d.hs) (class_shapes cs) f up is; whole = hosts_length k limits leaves ch.rows ch.into d.hosts ∙ d.counted ∙ len } in
        let low = hosts_low k limits leaves ch.rows ch.into d.hosts in
        let w = whole_of k limits leaves laws ch facts rule d.hs (all_due k limits leaves ch all_done rule d.hs) r_ok low a in
        let v = mother_of rule d.hs w w.row.kind refl (facts.row_ok w.number w.row w.at) in
        let r = from_row k limits leaves laws ch facts rule d.hs d.ds cover v.0 d.hosts (rw d.covers cov) (λ n m. laws.monotone rule (shapes_at ch.rows d.hs) (shapes_at ch.rows d.hs) n v.0 (all_over_itself k.over laws.reflexive (shapes_at ch.rows d.hs)) m v.1) w w.row.kind refl (facts.row_ok w.number w.row w.at) in
        record { shape = v.0; host = r.host; live = subst (λ l. LiveOver k ch.rows ch.into cover l v.0 r.host) d.level r.live; agrees_too = agree.mother_agrees rule (shapes_at ch.rows d.hs) (class_shapes cs) v.0 f up is v.1; number = w.number; stands = stands_by rule ts d.hs r.host w low d.stand r.leads }

    agreed_all : (ts : Trees) (cs : List (Class F C)) → AllGrown k full of_leaf limits leaves ts cs → AgreedAll ts cs
    agreed_all ts cs no_grown = record { hs = []; ds = []; hosts = no_hosts; covers = refl; level = refl; counted = refl; agree_too = along_none; stand = none_stand }
    agreed_all ts cs (more_grown t rest_ts c rest g u gs) = with_first t rest_ts c rest u (agreed t c g) (agreed_all rest_ts rest gs)

  -- each tree stands in exactly one group, whose host agrees with its full structure
  pub trees_held : (t : Tree) (c : Class F C) → Grown k full of_leaf limits leaves t c → Holds agrees leaves ch t c
  trees_held t c g =
      let a = agreed t c g in
      record {
        number = a.number;
        host = a.host;
        stands = a.stands;
        once = λ i h s. stands_once k limits leaves ch unique s a.stands;
        row = a.live.row;
        at = to_get a.live.at;
        free = Gather.at_free ch.into a.host a.live.free;
        shape = a.live.shape;
        shape_is = a.live.shape_is;
        agrees_too = agree.over_agrees a.live.shape a.shape c.shape a.live.over a.agrees_too;
        cover = a.live.cover_is;
        level = a.live.level_is;
      }
