-- Another record in the place of one: the room for it, and what it leaves of the volume.
use Rattle.std.proofs.Common.{◌≡◌, ◌<◌, ◌≤◌, ℕ, suc, ◌+◌, ◌*◌, ◌/◌, List, [], min, sym, ◌∙◌, ap, subst, arith}
use Rattle.std.specs.Prelude.{IsTrue, Option, None, Some, Result, Ok, Err, IfOk, OnOk}
use Rattle.std.specs.Option.{option_map}
use Rattle.std.proofs.Math.Nat.{le-div_iff_mul-le, mul-le-mul_right, min-le_left}
use Rattle.hx_bytes.specs.declared.faults.Trouble.{Trouble}
use Rattle.sector_disk.specs.Space.{Space}
use Rattle.btree_node.specs.Levels.{Pair}
use Rattle.btree_node.specs.Store.{HasRoom, unwritten_sectors}
use Rattle.btree_edit.specs.Editing.{CostsAtMost}
use Rattle.btree_edit.specs.declared.edits.Removed.{Removed}
use Rattle.btree_edit.specs.declared.edits.Removed.TheVariants as removed
use Rattle.btree_file.specs.Frame.{FollowsOn}
use Rattle.btree_file.specs.Standing.{pairs_in}
use Rattle.btree_file.specs.State.{sectors_of_tree, state_of}
use Rattle.catalog.specs.Entries.{AnswersRemoval, Updating, UpdatesEntry, IsOfKind}
use Rattle.catalog.specs.Pairs.{value_at}
use Rattle.cat_records.specs.declared.record.CatRecord.{CatRecord}
use Rattle.hfs_volume.specs.Records.{Placed, placed_in, record_at}
use Rattle.volume_base.specs.Changing.{ChangesCatalog, HasRoomToUpdate, ReplacesRecord, catalog_node}
use Rattle.volume_base.specs.Standing.{IsStanding, StandsOver}
use Rattle.volume_base.specs.declared.entries.Entry.{Entry}
use Rattle.volume_base.specs.declared.volume.Volume.{Volume}
use Rattle.volume_base.proofs.CatalogEdited.{catalog_same}
use Rattle.volume_base.proofs.Facts.{size_is}
use Rattle.volume_base.proofs.ListsAfter.{catalog_changes, header_stays}

-- ---- room

one_fits : (n spare : ℕ) → 0 < n → n ≤ spare → 1 ≤ spare / n
one_fits n spare some fits = (le-div_iff_mul-le {k = n} {x = 1} {y = spare} some).1 (omega (arith, fits))

least_low : (m x y : ℕ) → m ≤ y → min m x ≤ y
least_low m x y low = omega (arith, low, min-le_left m x)

pub update_room : (v : Volume) (a : Space) → 4096 ≤ v.catalog.file.shape.node_size → HasRoomToUpdate v a → (names : List ℕ) → IsTrue a.tells → HasRoom 1 (state_of names v.catalog.file a)
update_room v a large room names tells = least_low 1 (state_of names v.catalog.file a).unwritten (a.spare / catalog_node v) (one_fits (catalog_node v) a.spare (omega (arith, large)) (room.told tells))

pub spent_node : (v w : Volume) (a b : Space) → CostsAtMost 1 0 (state_of [] v.catalog.file a) (state_of [] w.catalog.file b) → a.spare ≤ b.spare + catalog_node v
unfolding unwritten_sectors
spent_node v w a b costs =
    let old = (state_of [] v.catalog.file a).unwritten in
    let new = (state_of [] w.catalog.file b).unwritten in
    let some : (state_of [] v.catalog.file a).unwritten ≤ suc (state_of [] w.catalog.file b).unwritten = omega (arith, costs.some) in
    let grown : (state_of [] v.catalog.file a).unwritten * catalog_node v ≤ suc (state_of [] w.catalog.file b).unwritten * catalog_node v =
    mul-le-mul_right {m = (state_of [] v.catalog.file a).unwritten} {n = suc (state_of [] w.catalog.file b).unwritten} (catalog_node v) some in
    let next : suc (state_of [] w.catalog.file b).unwritten * catalog_node v ≡ (state_of [] w.catalog.file b).unwritten * catalog_node v + catalog_node v = omega arith in
    let size : (state_of [] w.catalog.file b).unwritten * (w.catalog.file.shape.node_size / 512) ≡ (state_of [] w.catalog.file b).unwritten * catalog_node v = ap (λ n. (state_of [] w.catalog.file b).unwritten * (n / 512)) costs.same.node_size in
    omega (arith, costs.sectors, grown, next, size)

-- ---- what was there

abbrev value_or : CatRecord → Option CatRecord → CatRecord
value_or other None = other
value_or other (Some r) = r

pub kind_there : (pairs : List Pair) (parent : ℕ) (name : List ℕ) (old rec : CatRecord) → value_at pairs parent name ≡ Some old → IsOfKind rec old → (e : Placed) → record_at (placed_in pairs) parent name ≡ Some e → IsOfKind rec e.value
kind_there pairs parent name old rec there kind e found =
    subst (λ (r : CatRecord). IsOfKind rec r) (ap (value_or old) (sym there ∙ ap (option_map (λ (p : Placed). p.value)) found)) kind

-- ---- behind it

module _ (v w : Volume) (a b : Space) (entry : Entry) (rec : CatRecord) (was : IsStanding v a) (tells : IsTrue a.tells) (stands : IsStanding w b) (follows : FollowsOn v.catalog.file w.catalog.file a b) (rest : w ≡ record v { catalog = w.catalog })
    (there : value_at (pairs_in (sectors_of_tree v.catalog.file) a.content) entry.parent entry.name ≡ Some entry.rec)
  where
    replaced : (answer : Removed) → AnswersRemoval (record_at (placed_in (pairs_in (sectors_of_tree v.catalog.file) a.content)) entry.parent entry.name) answer
        → Updating entry.parent entry.name rec (pairs_in (sectors_of_tree v.catalog.file) a.content) (pairs_in (sectors_of_tree v.catalog.file) b.content) answer → ReplacesRecord entry rec v w a.content b.content
    replaced removed.Absent none same = absurd (let no : None ≡ Some entry.rec = sym (ap (option_map (λ (p : Placed). p.value)) none) ∙ there in cc no)
    replaced removed.Done some updated = record {
      updates = subst (λ (l : List ℕ). UpdatesEntry entry.parent entry.name rec (pairs_in (sectors_of_tree v.catalog.file) a.content) (pairs_in l b.content)) (sym (catalog_same v a b w.catalog follows)) updated;
      changes = subst (λ (x : Volume). ChangesCatalog v x a.content b.content) (sym rest) (catalog_changes v a b w.catalog follows was tells stands.trees.catalog);
      rest = rest;
      headed = header_stays v a b w.catalog follows was tells stands.trees.catalog;
    }

pub replaces : (v w : Volume) (a b : Space) (entry : Entry) (rec : CatRecord) → StandsOver v a → IsTrue a.tells → b.tells ≡ a.tells → FollowsOn v.catalog.file w.catalog.file a b → w ≡ record v { catalog = w.catalog }
    → value_at (pairs_in (sectors_of_tree v.catalog.file) a.content) entry.parent entry.name ≡ Some entry.rec → (result : Result Removed Trouble) → OnOk result (StandsOver w b)
    → IfOk result (λ answer. AnswersRemoval (record_at (placed_in (pairs_in (sectors_of_tree v.catalog.file) a.content)) entry.parent entry.name) answer)
    → IfOk result (λ answer. Updating entry.parent entry.name rec (pairs_in (sectors_of_tree v.catalog.file) a.content) (pairs_in (sectors_of_tree v.catalog.file) b.content) answer)
    → OnOk result (ReplacesRecord entry rec v w a.content b.content)
replaces v w a b entry rec was tells same follows rest there (Ok answer) stands answers updated = replaced v w a b entry rec (was.stands tells) tells (stands.stands (same ∙ tells)) follows rest there answer answers updated
replaces v w a b entry rec was tells same follows rest there (Err why) stands answers updated = tt

-- where the space tells, the catalog's nodes are large enough
pub node_large : (v : Volume) (a : Space) → StandsOver v a → IsTrue a.tells → 4096 ≤ v.catalog.file.shape.node_size
node_large v a was tells =
    let holds = (was.stands tells).trees.catalog in
    omega (arith, holds.file.has_form.least, size_is v.catalog.file a.content holds.stands)
