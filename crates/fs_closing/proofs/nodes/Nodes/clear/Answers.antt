use Rattle.std.proofs.Common.{sym, ◌∙◌, ap, subst, arith}
use Rattle.fs_model.specs.Claims.{Has}
use Rattle.fs_closing.specs.declared.parts.Based.{Based}
use Rattle.fs_closing.specs.Marked.{written_at, type_by, depth_by}
use Rattle.fs_closing.specs.NodeTable.{AreWhole, AreWithin}
use Rattle.fs_closing.specs.Beside.{row_in, type_in, depth_in}
use Rattle.fs_closing.proofs.WiderLemmas.{whole_empty, within_empty}
use Rattle.fs_closing.proofs.nodes.Nodes.clear.Goals as goal

pub returns-clause-whole : goal.returns-clause-whole
returns-clause-whole c =
    let parts = c.clear-3.new.self in
    record {
      stands = subst (λ l. AreWhole (written_at c.clear.new.self) (row_in parts) l 0 0) (sym c.clear-2.ensures)
          (whole_empty (written_at c.clear.new.self) (row_in parts) c.clear.ensures.none (λ n. ap (λ l. row_in l n) c.clear-3.ensures));
      enough = omega arith;
      placed = λ (p : Based) h. elim (subst (Has p) c.clear-3.ensures h) [ ];
    }

pub returns-clause-flat : goal.returns-clause-flat
returns-clause-flat c = λ n.
    ap (depth_by (depth_in c.clear-3.new.self n)) (c.clear.ensures.none n) ∙ ap (λ l. depth_in l n) c.clear-3.ensures

pub returns-clause-within : goal.returns-clause-within
returns-clause-within c = λ types feats.
    let parts = c.clear-3.new.self in
    subst (λ l. AreWithin types feats (λ n. type_by (type_in parts n) (written_at c.clear.new.self n)) (row_in parts) l 0) (sym c.clear-2.ensures)
    (within_empty types feats _ (row_in parts) (λ n. ap (λ l. row_in l n) c.clear-3.ensures))
