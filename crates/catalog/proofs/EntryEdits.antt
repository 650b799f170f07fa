-- What inserts of two pairs say of an entry.
use Rattle.std.proofs.Common.{◌≡◌, ℕ, List, [], length, refl, sym, ◌∙◌, ap}
use Rattle.std.specs.Prelude.{None, pos}
use Rattle.btree_node.specs.Keys.{catalog_cmp}
use Rattle.btree_node.specs.Levels.{Pair}
use Rattle.btree_node.specs.Store.{Store}
use Rattle.btree_node.specs.Tree.{pairs_of}
use Rattle.btree_edit.specs.Answers.{AnswersInsert}
use Rattle.btree_edit.specs.Desk.{HasKey}
use Rattle.btree_edit.specs.Sorted.{AddsPair}
use Rattle.btree_edit.specs.declared.edits.Inserted.{Inserted}
use Rattle.btree_edit.specs.declared.edits.Inserted.TheVariants as inserted
use Rattle.hfs_volume.specs.Changes.{Adds, Spells, thread_of}
use Rattle.hfs_volume.specs.Records.{Placed, placed_in, record_at}
use Rattle.catalog.specs.Entries.{AnswersAdd, Adding}
use Rattle.catalog.specs.Pairs.{IsKeyOf, AddsBoth}
use Rattle.catalog.specs.declared.pair.Pair.{Pair as CatalogPair}
use Rattle.catalog.proofs.Places.{no_record_no_key, no_key_no_record}

-- a pair put at its rank is an insertion
pub adds_of : (key value : List ℕ) (old new : List Pair) → AddsPair catalog_cmp key value old new → Adds (key, value) old new
adds_of key value old new adds = record { place = adds.place; within = adds.inside; is = adds.is }

pub add_answer : (parent : ℕ) (name key : List ℕ) (store : Store) (answer : Inserted) → IsKeyOf parent name key → AnswersInsert catalog_cmp key store answer
    → AnswersAdd (record_at (placed_in (pairs_of store)) parent name) answer
add_answer parent name key store inserted.Exists is answers = λ none. no_record_no_key parent name key (pairs_of store) is none answers
add_answer parent name key store inserted.Done is answers = no_key_no_record parent name key (pairs_of store) is answers

pub adding_of : (entry : Placed) (pair thread : CatalogPair) (old new : List Pair) (answer : Inserted) → Spells entry (pair.key, pair.value) → Spells (thread_of entry) (thread.key, thread.value)
    → AddsBoth pair thread old new answer → Adding entry old new answer
adding_of entry pair thread old new inserted.Exists spells spells_thread both = both
adding_of entry pair thread old new inserted.Done spells spells_thread both = (
  record {
    between = both.between;
    pair = (pair.key, pair.value);
    is_entry = spells;
    entry_added = adds_of pair.key pair.value old both.between both.one;
    thread = (thread.key, thread.value);
    spare = pos 0;
    is_thread = spells_thread;
    thread_added = adds_of thread.key thread.value both.between new both.both;
  },
  refl,
)
