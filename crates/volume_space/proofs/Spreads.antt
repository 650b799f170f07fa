-- The overflow records of a fork go with its record's first eight extents, whether there are none, or they were stored.
use Rattle.std.proofs.Common.{◌≡◌, ◌≢◌, inl, ◌<◌, ◌≤◌, ℕ, ◌==◌, Bool, true, false, List, [], ◌∷◌, length, map, refl, sym, ◌∙◌, ap, subst, arith}
use Rattle.std.specs.Prelude.{◌&&◌, not, IsTrue, Result, Ok, Err, OnOk}
use Rattle.std.proofs.lemmas.Bool.{and_parts, eqb-false, not-true}
use Rattle.hx_bytes.specs.declared.extents.Extent.{Extent}
use Rattle.hx_bytes.specs.declared.faults.Trouble.{Trouble}
use Rattle.sector_disk.specs.Lists.{Content}
use Rattle.btree_node.specs.Levels.{Pair}
use Rattle.cat_records.specs.Fits.{FitsFile}
use Rattle.cat_records.specs.declared.record.FileRecord.{FileRecord}
use Rattle.hfs_volume.specs.Content.{overflow_in_volume, volume_of}
use Rattle.hfs_volume.specs.Forks.{in_use, is_full}
use Rattle.hfs_volume.specs.Records.{Overflow, overflow_of}
use Rattle.overflow.specs.Reading.{HasExtents}
use Rattle.overflow.proofs.Cutting.{AreUsed}
use Rattle.volume_base.specs.Lists.{lists_of}
use Rattle.volume_space.specs.Spreading.{SpreadsExtents, StoresExtents}
use Rattle.volume_base.specs.Spreading.{StoresFork}
use Rattle.volume_base.specs.Cutting.{kind_of}
use Rattle.volume_base.specs.Standing.{IsSettled}
use Rattle.volume_space.specs.Writing.{IsToldFile}
use Rattle.volume_base.specs.declared.forks.ForkKind.{ForkKind}
use Rattle.volume_base.specs.declared.volume.Volume.{Volume}
use Rattle.volume_space.proofs.PutLists.{holds_few, holds_stored}
use Rattle.volume_space.proofs.SpreadFile.{all_in_use, eight_in, has_extents}

pub full_used : (xs : List Extent) → is_full xs ≡ true → AreUsed xs
full_used [] full = tt
full_used (x ∷ xs) full =
    let parts = and_parts (not (x.count == 0)) (is_full xs) full in
    (eqb-false x.count 0 (not-true (x.count == 0) parts.0), full_used xs parts.1)

pub full_in_use : (xs : List Extent) → is_full xs ≡ true → in_use xs ≡ xs
full_in_use xs full = all_in_use xs (full_used xs full)

-- a fork of few extents keeps none
pub keeps_none : (v : Volume) (content : Content) (id kind : ℕ) (list later : List Extent) → length list < 8 → length later ≤ 8 → HasExtents (map overflow_of (lists_of v content).overflow_pairs) id kind list → SpreadsExtents id kind later v v content content
keeps_none v content id kind list later short many has = record {
  holds = λ fork gets. holds_few id kind has.fork fork later (map overflow_of (lists_of v content).overflow_pairs) has.eight (subst (λ (l : List Extent). length l < 8) (sym has.is) short) gets many has.goes_on;
  lists = refl;
  rest = refl;
  file = record { sectors = refl; total = refl; node_size = refl };
  outside = record { size = refl; each = λ s. inl refl };
}

-- one whose records were stored has these
pub stored_spreads : (v w : Volume) (before after : Content) (id kind : ℕ) (later : List Extent) → 16 ≤ id → is_full later ≡ true → StoresExtents id kind (in_use later) v w before after → SpreadsExtents id kind later v w before after
stored_spreads v w before after id kind later user full stores = record {
  holds = λ fork gets. holds_stored id kind fork later (lists_of v before).overflow_pairs (lists_of w after).overflow_pairs user gets (full_used later full)
      (subst (λ (l : List Extent). StoresFork id kind l (lists_of v before).overflow_pairs (lists_of w after).overflow_pairs) (full_in_use later full) stores.stores);
  lists = stores.lists;
  rest = stores.rest;
  file = stores.file;
  outside = stores.outside;
}

-- the extents of a file that was told
pub told_extents : (v : Volume) (content : Content) → IsSettled v content → (k : ForkKind) (file : FileRecord) → FitsFile file → (list : List Extent) → IsToldFile (kind_of k) file list content → (overflow : List Overflow) → overflow ≡ overflow_in_volume (volume_of content)
    → HasExtents overflow file.fields.id (kind_of k) list
told_extents v content settled k file fits list told overflow same =
    has_extents v content settled k file (record { entry = told.entry; stands = told.stands; value = told.value }) (eight_in k file fits) list told.extents_are overflow (kind_of k) refl same
