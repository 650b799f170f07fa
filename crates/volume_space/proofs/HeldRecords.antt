-- Each fork of a file of a sound volume has as many overflow records as its extents fill.
use Rattle.std.proofs.Common.{◌≡◌, ◌≢◌, ◌⊎◌, ℕ, ◌==◌, Bool, true, false, List, length, refl, sym, ◌∙◌, ap, subst, arith, ⊎_elim}
use Rattle.std.specs.Prelude.{Contains, if◌then◌else◌, not}
use Rattle.hx_bytes.specs.Fork.{extents_at}
use Rattle.hx_bytes.specs.Fork as read
use Rattle.hx_bytes.specs.Field.{big_at}
use Rattle.sector_disk.specs.Lists.{Content}
use Rattle.btree_node.specs.Levels.{Pair}
use Rattle.cat_records.specs.Records.{catalog_of, entry_of, thread_of}
use Rattle.cat_records.specs.declared.record.CatRecord.{CatRecord}
use Rattle.cat_records.specs.declared.record.CatRecord.TheVariants.{Folder, File, Thread}
use Rattle.cat_records.specs.declared.record.FileRecord.{FileRecord}
use Rattle.cat_records.specs.declared.record.FolderRecord.{FolderRecord}
use Rattle.cat_records.specs.declared.record.ThreadRecord.{ThreadRecord}
use Rattle.hfs_volume.specs.Content.{overflow_in_volume, records_of, volume_of}
use Rattle.hfs_volume.specs.Cost.{overflow_records}
use Rattle.hfs_volume.specs.Forks.{data_kind, extents_id, resource_kind}
use Rattle.hfs_volume.specs.Records.{Placed, is_empty, placed_in, placed_of}
use Rattle.hfs_volume.proofs.Members.{kept_cases, map_cases}
use Rattle.volume_base.specs.Cutting.{fork_at, kind_of}
use Rattle.volume_base.specs.Reading.{HasFile}
use Rattle.volume_base.specs.Standing.{IsSettled}
use Rattle.volume_base.specs.declared.volume.Volume.{Volume}
use Rattle.volume_space.specs.Recording.{records_in}
use Rattle.volume_space.specs.Writing.{extents_in}
use Rattle.volume_base.specs.declared.forks.ForkKind.{ForkKind}
use Rattle.volume_base.specs.declared.forks.ForkKind.TheVariants as kinds
use Rattle.volume_space.proofs.PutFork.{file_high}
use Rattle.volume_space.proofs.RecordCounts.{records_counted}
use Rattle.volume_space.proofs.SpreadFile.{has_extents}

-- how many places for extents a record's data fork has
-- the forks of a file have places for eight extents
abbrev AreEight : CatRecord → Type 0
AreEight (Folder folder) = Unit {0}
AreEight (File file) = (length file.data_fork.extents.extents ≡ 8) × (length file.resource_fork.extents.extents ≡ 8)
AreEight (Thread thread) = Unit {0}

eight_read : (bytes : List ℕ) (at : ℕ) → length (extents_at bytes at).extents ≡ 8
unfolding extents_at
eight_read bytes at = refl

eight_by : (one two : Bool) (folder : FolderRecord) (file : FileRecord) (thread : ThreadRecord) → AreEight (File file) → AreEight (if one then Folder folder else if two then File file else Thread thread)
eight_by true two folder file thread eight = tt
eight_by false true folder file thread eight = eight
eight_by false false folder file thread eight = tt

eight_places : (bytes : List ℕ) → AreEight (catalog_of bytes)
eight_places bytes =
    eight_by (big_at 2 bytes 0 == 1) (big_at 2 bytes 0 == 2) (record { fields = entry_of bytes }) (record { fields = entry_of bytes; data_fork = read.fork_at bytes 88; resource_fork = read.fork_at bytes 168 }) (thread_of bytes)
    (eight_read bytes 104, eight_read bytes 184)

eight_placed : (pairs : List Pair) (placed : Placed) → Contains (placed_in pairs) placed → AreEight placed.value
unfolding placed_of
eight_placed pairs placed stands =
    let pair = map_cases placed_of pairs placed stands in
    subst (λ (p : Placed). AreEight p.value) (sym pair.2) (eight_places pair.0.1)

module _ (v : Volume) (content : Content) (settled : IsSettled v content) (file : FileRecord) (has : HasFile (records_of (volume_of content)) file) where
  both_eight : AreEight (File file)
  both_eight = subst AreEight has.value (eight_placed (volume_of content).catalog_pairs has.entry (kept_cases (λ (p : Placed). not (is_empty p.name)) (records_of (volume_of content)) has.entry has.stands).0)

  eight : (fork : ForkKind) → length (fork_at (kind_of fork) file).extents.extents ≡ 8
  eight kinds.Data = both_eight.0
  eight kinds.Resource = both_eight.1

  other : file.fields.id ≢ extents_id
  other same = absurd (omega (arith, same, file_high (volume_of content) settled.sound has.entry has.stands file has.value))

  held_of : (fork : ForkKind) → records_in (kind_of fork) (volume_of content) file.fields.id ≡ overflow_records (length (extents_in (kind_of fork) content file))
  held_of fork =
      records_counted file.fields.id (kind_of fork) (volume_of content).overflow_pairs (extents_in (kind_of fork) content file) other
      (has_extents v content settled fork file has (eight fork) (extents_in (kind_of fork) content file) refl (overflow_in_volume (volume_of content)) (kind_of fork) refl refl)

pub held_is : (k : ℕ) (is_kind : (k ≡ data_kind) ⊎ (k ≡ resource_kind)) (v : Volume) (content : Content) (settled : IsSettled v content) (file : FileRecord) (has : HasFile (records_of (volume_of content)) file)
    → records_in k (volume_of content) file.fields.id ≡ overflow_records (length (extents_in k content file))
held_is k is_kind v content settled file has =
    ⊎_elim (λ (same : k ≡ data_kind). subst (λ j. records_in j (volume_of content) file.fields.id ≡ overflow_records (length (extents_in j content file))) (sym same) (held_of v content settled file has kinds.Data))
    (λ (same : k ≡ resource_kind). subst (λ j. records_in j (volume_of content) file.fields.id ≡ overflow_records (length (extents_in j content file))) (sym same) (held_of v content settled file has kinds.Resource)) is_kind
