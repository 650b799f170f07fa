-- Calls that only read, one after another.
use Rattle.std.proofs.Common.{◌<◌, ◌≤◌, ◌+◌, ℕ, refl, sym, ◌∙◌, subst, arith}
use Rattle.std.specs.Prelude.{IsTrue}
use Rattle.btree_node.specs.Node.{IsNodeOf}
use Rattle.btree_node.specs.Store.{Store, SameStore, SameNodes, SameRoom}
use Rattle.btree_node.specs.Tree.{IsTreeNode, kind_at}
use Rattle.btree_edit.specs.Reading.{ReadsNodes}

pub same_store_both : {a b c : Store} → SameStore a b → SameStore b c → SameStore a c
same_store_both p q = record {
  tells = q.tells ∙ p.tells;
  names = q.names ∙ p.names;
  node_size = q.node_size ∙ p.node_size;
  total = q.total ∙ p.total;
  reserved = λ n. q.reserved n ∙ p.reserved n;
}

pub same_nodes_both : {a b c : Store} → SameNodes a b → SameNodes b c → SameNodes a c
same_nodes_both p q = record { nodes = λ n. q.nodes n ∙ p.nodes n; used = λ n. q.used n ∙ p.used n; header = q.header ∙ p.header }

pub same_room_both : {a b c : Store} → SameRoom a b → SameRoom b c → SameRoom a c
same_room_both p q = record { written = λ n. q.written n ∙ p.written n; unwritten = q.unwritten ∙ p.unwritten; writes_left = q.writes_left ∙ p.writes_left; sectors_left = q.sectors_left ∙ p.sectors_left; sectors = q.sectors ∙ p.sectors }

pub reads_none : (a : Store) → ReadsNodes 0 a a
reads_none a = record {
  shape = refl;
  tree = λ tells. record { nodes = λ n. refl; used = λ n. refl; header = refl };
  room = record { written = λ n. refl; unwritten = refl; writes_left = refl; sectors_left = refl; sectors = refl };
  loads = omega arith;
  same = record { tells = refl; names = refl; node_size = refl; total = refl; reserved = λ n. refl };
}

pub reads_both : {a b c : Store} (m n k : ℕ) → ReadsNodes m a b → ReadsNodes n b c → m + n ≤ k → ReadsNodes k a c
reads_both m n k p q fits = record {
  shape = q.shape ∙ p.shape;
  tree = λ tells. same_nodes_both (p.tree tells) (q.tree (p.same.tells ∙ tells));
  room = same_room_both p.room q.room;
  loads = omega (arith, p.loads, q.loads);
  same = same_store_both p.same q.same;
}

-- a node of the tree is still one after reads
pub still_node : {a b : Store} (m h n : ℕ) → ReadsNodes m a b → IsTrue a.tells → IsTreeNode a h n → (IsTrue b.tells) × (n < b.shape.total) × IsNodeOf (kind_at h) h (b.nodes n)
still_node m h n reads tells node = (
  reads.same.tells ∙ tells,
  omega (arith, node.inside, reads.same.total),
  subst (λ l. IsNodeOf (kind_at h) h l) (sym ((reads.tree tells).nodes n)) node.kind,
)
