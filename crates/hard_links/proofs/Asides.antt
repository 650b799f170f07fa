-- An entry moved into the private folder.
use Rattle.std.proofs.Common.{◌≡◌, ℕ, true, false, List, inl, inr, refl, sym, ◌∙◌, ap, subst}
use Rattle.std.specs.Prelude.{Option, None, Some, codes, Result, Ok, Err, IfOk, IfSome, OnOk}
use Rattle.cat_records.specs.Fits.{FitsFile, FitsRecord}
use Rattle.btree_node.specs.Levels.{Pair}
use Rattle.std.specs.Option.{option_map}
use Rattle.cat_records.specs.declared.record.CatRecord.{CatRecord}
use Rattle.cat_records.specs.declared.record.CatRecord.TheVariants.{Folder, File, Thread}
use Rattle.cat_records.specs.declared.record.FileRecord.{FileRecord}
use Rattle.catalog.specs.Pairs.{value_at}
use Rattle.catalog.specs.Entries.{AnswersMove, Moving, RelocatesEntry}
use Rattle.catalog.specs.declared.moving.Moved.{Moved}
use Rattle.catalog.specs.declared.moving.Moved.TheVariants as moved
use Rattle.hfs_volume.specs.Records.{Placed, placed_in, record_at, is_file, is_thread, id_in, id_of}
use Rattle.hfs_volume.specs.Naming.{orphan_name}
use Rattle.hard_links.specs.Orphans.{MakesOrphan, NamesFile, IsOrphanNumber, file_in}
use Rattle.hard_links.specs.Numbers.{IsFree, IsFirstFree}
use Rattle.hard_links.specs.declared.place.EntryAt.{EntryAt}

none_is_some : (entry : Placed) → Some entry ≡ None → ⊥
none_is_some entry same = cc

pub relocated : (from : ℕ) (old_name : List ℕ) (to : ℕ) (name : List ℕ) (old new : List Pair) (answer : Moved) (entry : Placed) → record_at (placed_in old) from old_name ≡ Some entry → record_at (placed_in old) to name ≡ None
    → AnswersMove (record_at (placed_in old) from old_name) (record_at (placed_in old) to name) answer → Moving from old_name to name old new answer → RelocatesEntry from old_name to name old new
relocated from old_name to name old new moved.Absent entry found vacant answers does = absurd (none_is_some entry (sym found ∙ answers))
relocated from old_name to name old new moved.Exists entry found vacant answers does = absurd (answers.1 vacant)
relocated from old_name to name old new moved.Done entry found vacant answers does = does

some_entry : (one other : Placed) → Some one ≡ Some other → one ≡ other
some_entry one other same = ap (λ (o : Option Placed). or one o) same
  where
    or : Placed → Option Placed → Placed
    or p None = p
    or p (Some q) = q

-- a file at its place in the private folder
pub orphan_made : (private : ℕ) (at : EntryAt) (number : ℕ) (name : List ℕ) (old new : List Pair) (entry : Placed) → record_at (placed_in old) at.parent at.name ≡ Some entry → name ≡ orphan_name number
    → IsFirstFree old private (codes "temp") (id_of entry) number → RelocatesEntry at.parent at.name private name old new → MakesOrphan private at old new
orphan_made private at number name old new entry found name_is first moves =
    let named : RelocatesEntry at.parent at.name private (orphan_name number) old new = subst (λ l. RelocatesEntry at.parent at.name private l old new) name_is moves in
    let its = some_entry entry named.entry (sym found ∙ named.found) in
    record {
      entry = named.entry;
      found = named.found;
      number = number;
      first = subst (λ (e : Placed). IsFirstFree old private (codes "temp") (id_of e) number) its first;
      moves = named.moves;
      same_spare = named.same_spare;
    }

-- the number is free
pub first_is_free : (pairs : List Pair) (private : ℕ) (word : List ℕ) (own number : ℕ) → IsFirstFree pairs private word own number → IsFree pairs private word number
first_is_free pairs private word own number first = elim first [
  | inl from_own ↦ from_own.free
  | inr from_one ↦ from_one.1.free
]

-- the file that was read is that of the entry
pub number_of : (private : ℕ) (at : EntryAt) (pairs : List Pair) (number : ℕ) (file : FileRecord) → NamesFile at pairs → Some file ≡ file_in (value_at pairs at.parent at.name) → IsFirstFree pairs private (codes "temp") file.fields.id number → IsOrphanNumber private at pairs number
number_of private at pairs number file names is first = record {
  entry = names.entry;
  found = names.found;
  first = subst (λ n. IsFirstFree pairs private (codes "temp") n number) (sym (own_id names.entry.value (is ∙ ap (λ found. file_in (option_map (λ (placed : Placed). placed.value) found)) names.found))) first;
}
  where
    file_or : Option FileRecord → FileRecord
    file_or None = file
    file_or (Some other) = other

    own_id : (value : CatRecord) → Some file ≡ file_in (Some value) → id_in value ≡ file.fields.id
    own_id (Folder folder) same = cc
    own_id (File other) same = ap (λ found. (file_or found).fields.id) (sym same)
    own_id (Thread thread) same = cc

pub no_file_there : (at : EntryAt) (pairs : List Pair) → NamesFile at pairs → None ≡ file_in (value_at pairs at.parent at.name) → ⊥
no_file_there at pairs names is = not_none names.entry.value names.file (is ∙ ap (λ found. file_in (option_map (λ (placed : Placed). placed.value) found)) names.found)
  where
    not_none : (value : CatRecord) → is_file value ≡ true → None ≡ file_in (Some value) → ⊥
    not_none (Folder folder) file same = cc
    not_none (File other) file same = cc
    not_none (Thread thread) file same = cc

pub ok_so : {T E : Type 0} (result : Result T E) (P Q : T → Type 0) → ((answer : T) → P answer → Q answer) → IfOk result P → IfOk result Q
ok_so (Ok answer) P Q so holds = so answer holds
ok_so (Err why) P Q so holds = tt

-- a file that was read has a spelling
pub file_fits : (found : Option CatRecord) (file : FileRecord) → Some file ≡ file_in found → IfSome found (λ rec. is_thread rec ≡ false → FitsRecord rec) → FitsFile file
file_fits None file is fits = cc
file_fits (Some (Folder folder)) file is fits = cc
file_fits (Some (File other)) file is fits = subst FitsFile (sym (ap or is)) (fits refl)
  where
    or : Option FileRecord → FileRecord
    or None = file
    or (Some f) = f
file_fits (Some (Thread thread)) file is fits = cc

-- the value that was read
pub file_value : (found : Option CatRecord) (file : FileRecord) → Some file ≡ file_in found → found ≡ Some (File file)
file_value None file is = cc
file_value (Some (Folder folder)) file is = cc
file_value (Some (File other)) file is = ap (λ o. Some (File (or o))) (sym is)
  where
    or : Option FileRecord → FileRecord
    or None = file
    or (Some f) = f
file_value (Some (Thread thread)) file is = cc

pub on_ok_so : {T E : Type 0} (result : Result T E) (P Q : Type 0) → (P → Q) → OnOk result P → OnOk result Q
on_ok_so (Ok answer) P Q so holds = so holds
on_ok_so (Err why) P Q so holds = tt
