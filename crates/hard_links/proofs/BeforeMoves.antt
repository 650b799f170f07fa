-- Reads before an edit: the tree stays as it was, and no edit is made.
use Rattle.std.proofs.Common.{◌≡◌, ◌≤◌, ◌<◌, ◌+◌, ◌^◌, ℕ, zero-add, ◌∙◌, sym, subst, arith}
use Rattle.std.specs.Prelude.{IsTrue}
use Rattle.btree_node.specs.Keys.{IsCatalogKey, catalog_cmp}
use Rattle.btree_node.specs.Store.{Store, SameStore}
use Rattle.btree_node.specs.Tree.{IsTree, pairs_of}
use Rattle.btree_edit.specs.Edits.{TakesEdits}
use Rattle.btree_edit.specs.Reading.{ReadsNodes}
use Rattle.btree_edit.proofs.Repeated.{reads_both, reads_none}
use Rattle.catalog.proofs.BeforeEdits.{tree_read, pairs_read, reads_edit_nothing}
use Rattle.catalog.specs.Rooms.{UpdateRoom, TakesUpdates, UpdatesAtMost}
use Rattle.catalog.proofs.RoomLaws.{reads_update_nothing, room_left, updates_add, updates_fewer, most_both}
use Rattle.hard_links.specs.Numbers.{OnlyReads}

pub no_reads : (a : Store) → OnlyReads a a
no_reads a = record { most = 0; reads = reads_none a; later = omega arith }

pub one_read : (most : ℕ) (a b : Store) → ReadsNodes most a b → a.faults ≤ b.faults → OnlyReads a b
one_read most a b reads later = record { most = most; reads = reads; later = later }

pub more_reads : (a b c : Store) → OnlyReads a b → OnlyReads b c → OnlyReads a c
more_reads a b c p q = record { most = p.most + q.most; reads = reads_both p.most q.most (p.most + q.most) p.reads q.reads (omega arith); later = omega (arith, p.later, q.later) }

module _ (a b : Store) (only : OnlyReads a b) where
  pub tree_as : IsTrue b.tells → a.shape.total < 2 ^ 32 → (IsTrue a.tells → IsTree IsCatalogKey catalog_cmp a) → IsTree IsCatalogKey catalog_cmp b
  tree_as tells small tree = let tells_before : IsTrue a.tells = sym only.reads.same.tells ∙ tells in tree_read only.most a b only.reads tells_before small (tree tells_before)

  pub pairs_as : IsTrue a.tells → a.shape.total < 2 ^ 32 → (IsTrue a.tells → IsTree IsCatalogKey catalog_cmp a) → pairs_of b ≡ pairs_of a
  pairs_as tells small tree = pairs_read only.most a b only.reads tells small (tree tells)

  pub edits_none : TakesEdits 0 516 a b
  edits_none = reads_edit_nothing only.most 516 a b only.reads only.later

  pub tells_as : IsTrue b.tells → IsTrue a.tells
  tells_as tells = sym only.reads.same.tells ∙ tells

  pub header_as : IsTrue a.tells → a.header ≡ a.shape → b.header ≡ b.shape
  header_as tells same = (only.reads.tree tells).header ∙ same ∙ sym only.reads.shape

  nothing : TakesUpdates 0 0 516 a b
  nothing = reads_update_nothing only.most 516 a b only.reads only.later

  -- the room, and what is taken, with updates
  pub room_as : (edits updates : ℕ) → (IsTrue a.tells → UpdateRoom edits updates 516 a) → IsTrue b.tells → UpdateRoom edits updates 516 b
  room_as edits updates room =
      room_left 0 0 edits updates 516 a b only.reads.same nothing
      (λ tells. subst (λ n. UpdateRoom n (0 + updates) 516 a) (sym (zero-add edits)) (subst (λ n. UpdateRoom edits n 516 a) (sym (zero-add updates)) (room tells)))

  pub takes_as : (edits updates : ℕ) (c : Store) → TakesUpdates edits updates 516 b c → TakesUpdates edits updates 516 a c
  takes_as edits updates c takes =
      subst (λ n. TakesUpdates n updates 516 a c) (zero-add edits)
      (subst (λ n. TakesUpdates (0 + edits) n 516 a c) (zero-add updates) (updates_add 0 0 edits updates 516 a b c only.reads.same nothing takes))

  pub most_as : (edits updates : ℕ) (c : Store) → UpdatesAtMost edits updates 516 b c → UpdatesAtMost edits updates 516 a c
  most_as edits updates c most =
      subst (λ n. UpdatesAtMost n updates 516 a c) (zero-add edits)
      (subst (λ n. UpdatesAtMost (0 + edits) n 516 a c) (zero-add updates) (most_both 0 0 edits updates 516 a b c only.reads.same nothing most))

  pub takes_nothing : (edits updates : ℕ) → TakesUpdates edits updates 516 a b
  takes_nothing edits updates =
      subst (λ n. TakesUpdates n updates 516 a b) (zero-add edits) (subst (λ n. TakesUpdates (0 + edits) n 516 a b) (zero-add updates) (updates_fewer 0 0 edits updates 516 a b nothing))

  pub most_nothing : (edits updates : ℕ) → UpdatesAtMost edits updates 516 a b
  most_nothing edits updates = (takes_nothing edits updates).takes
