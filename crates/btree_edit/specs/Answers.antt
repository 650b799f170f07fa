-- What the edits answer.
use Rattle.std.specs.Prelude.{ℕ, List}
use Rattle.std.specs.declared.cmp.Ordering.{Ordering}
use Rattle.btree_node.specs.Store.{Store}
use Rattle.btree_node.specs.Tree.{pairs_of}
use Rattle.btree_edit.specs.Desk.{HasKey}
use Rattle.btree_edit.specs.declared.edits.Inserted.{Inserted}
use Rattle.btree_edit.specs.declared.edits.Inserted.TheVariants as inserted
use Rattle.btree_edit.specs.declared.edits.Removed.{Removed}
use Rattle.btree_edit.specs.declared.edits.Removed.TheVariants as removed

-- Exists exactly where the tree has the key
abbrev pub AnswersInsert : (List ℕ → List ℕ → Ordering) → List ℕ → Store → Inserted → Type 0
AnswersInsert cmp key store inserted.Exists = HasKey cmp key (pairs_of store)
AnswersInsert cmp key store inserted.Done = HasKey cmp key (pairs_of store) → ⊥

-- Absent exactly where the tree doesn't have the key
abbrev pub AnswersRemove : (List ℕ → List ℕ → Ordering) → List ℕ → Store → Removed → Type 0
AnswersRemove cmp key store removed.Done = HasKey cmp key (pairs_of store)
AnswersRemove cmp key store removed.Absent = HasKey cmp key (pairs_of store) → ⊥
