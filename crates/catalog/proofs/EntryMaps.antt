-- The catalog as a map: adding an entry with its thread is an insertion, dropping one a deletion; and an update is a change of a value.
use Rattle.std.proofs.Common.{◌≡◌, ℕ, List, [], true, false, refl, sym, ◌∙◌, ap, subst}
use Rattle.std.specs.Prelude.{Option, None, Some, ◌==◌, ◌&&◌}
use Rattle.std.proofs.lemmas.Bool.{true≢false}
use Rattle.btree_node.specs.Levels.{Pair}
use Rattle.cat_records.specs.declared.record.CatRecord.{CatRecord}
use Rattle.hfs_volume.specs.Changes.{AddsEntry, AreSorted, ChangesValue, SameKind, thread_with}
use Rattle.hfs_volume.specs.Forks.{forks_in}
use Rattle.hfs_volume.specs.Records.{Placed, placed_in, record_at, is_placed_at, id_of, is_empty}
use Rattle.hfs_volume.proofs.Sides.{OneMore, one_more, no_other_thread}
use Rattle.catalog.specs.Entries.{UpdatesEntry}
use Rattle.catalog.specs.Maps.{InsertsEntry}
use Rattle.catalog.proofs.Beside.{empty_of, false_so, found_at, found_stands, is_found, its_place, left_vacant, named_beside, thread_beside, thread_stands, same_number}

module _ (entry : Placed) (small big : List Pair) (named : is_empty entry.name ≡ false) (order : AreSorted big) (adds : AddsEntry entry small big) where
  unused : record_at (placed_in small) (id_of entry) [] ≡ None
  unused = by_found (record_at (placed_in small) (id_of entry) []) refl
    where
      side : OneMore entry (placed_in small) (placed_in big)
      side = one_more adds named

      by_found : (found : Option Placed) → record_at (placed_in small) (id_of entry) [] ≡ found → found ≡ None
      by_found None is = refl
      by_found (Some other) is =
          let its = found_stands (is_placed_at (id_of entry) []) (placed_in small) other is in
          let place = its_place other (id_of entry) [] its.1 in
          absurd (true≢false (sym (same_number (id_of entry)) ∙ ap (λ n. n == id_of entry) (sym place.0) ∙ no_other_thread side order other its.0 (empty_of other.name (sym place.1))))

  pub inserted : InsertsEntry entry small big
  inserted = record {
    vacant = left_vacant entry small big adds named order;
    there = is_found entry small big adds named order;
    others = λ parent name some apart. named_beside entry small big adds named parent name some (false_so (is_placed_at parent name entry) (λ is. let place = its_place entry parent name is in apart place.0 place.1));
    unused = unused;
    spare = adds.spare;
    thread = found_at big (thread_with adds.spare entry) (id_of entry) [] order (thread_stands entry small big adds named) (λ i. same_number (id_of entry) i && true);
    threads = λ id other. thread_beside entry small big adds named id other;
  }

abbrev or_entry : Placed → Option Placed → Placed
or_entry entry None = entry
or_entry entry (Some other) = other

-- an update that keeps kind, links and forks is a change of the value
pub changes_value : (parent : ℕ) (name : List ℕ) (value : CatRecord) (entry : Placed) (old new : List Pair) → record_at (placed_in old) parent name ≡ Some entry → SameKind entry (record entry { value = value }) → forks_in value ≡ forks_in entry.value
    → UpdatesEntry parent name value old new → ChangesValue entry value old new
changes_value parent name value entry old new found alike forks updates =
    subst (λ (e : Placed). SameKind e (record e { value = value }) → forks_in value ≡ forks_in e.value → ChangesValue e value old new) (ap (or_entry entry) (sym updates.found ∙ found))
    (λ own same. record { pair = updates.pair; is_entry = updates.is_entry.stands; other = updates.other; is_other = updates.is_other; swapped = updates.swapped; alike = own; forks = same })
    alike forks
