-- A volume with another bitmap of the same file, in which blocks were taken or given back, stands as before.
use Rattle.std.proofs.Common.{◌≡◌, ◌⊎◌, ◌<◌, ◌≤◌, ℕ, ◌++◌, List, ◌∷◌, length, refl, sym, ◌∙◌, ap, subst}
use Rattle.std.specs.Prelude.{Result, Ok, Err, OnOk}
use Rattle.std.specs.List.{All, Contains}
use Rattle.hx_bytes.specs.declared.extents.Extent.{Extent}
use Rattle.flag_rows.specs.Bits.{sectors_for}
use Rattle.fork_map.specs.Blocks.{fork_sectors}
use Rattle.alloc_bitmap.specs.Apart.{times}
use Rattle.alloc_bitmap.specs.Map.{BlockMap}
use Rattle.file_io.specs.Places.{KeepsMap, LosesNone}
use Rattle.btree_file.specs.State.{sectors_of_tree}
use Rattle.sector_disk.specs.Lists.{Content}
use Rattle.sector_disk.specs.Space.{Space}
use Rattle.hfs_volume.specs.Content.{VolumeState}
use Rattle.volume_base.specs.Holding.{HoldsOn, KeepsUsed}
use Rattle.volume_base.specs.Lists.{bits_on, lists_of}
use Rattle.volume_base.specs.Service.{IsInService}
use Rattle.volume_base.specs.Standing.{StandsOver, attribute_sectors, file_sectors, map_sectors, own_sectors}
use Rattle.volume_base.specs.declared.volume.Volume.{Volume}

module _ (v : Volume) (m : BlockMap) where
  abbrev pub remapped : Volume
  remapped = record v { map = m }

  module _ (keeps : KeepsMap v.map m) where
    pub map_kept : map_sectors remapped ≡ map_sectors v
    map_kept = λ i. fork_sectors (keeps.fork i) (keeps.per_block i)

    pub own_kept : own_sectors remapped ≡ own_sectors v
    own_kept = λ i. 2 ∷ sectors_of_tree v.extents.file ++ (sectors_of_tree v.catalog.file ++ (attribute_sectors v ++ map_kept i))

    files_kept : file_sectors remapped ≡ file_sectors v
    files_kept = λ i. sectors_of_tree v.extents.file ++ (sectors_of_tree v.catalog.file ++ (attribute_sectors v ++ map_kept i))

    pub service_kept : (a : Space) → IsInService v a → IsInService remapped a
    service_kept a was = record {
      extents = was.extents;
      catalog = was.catalog;
      attributes = was.attributes;
      fits = was.fits;
      least = was.least;
      most = was.most;
      map_inside = subst (λ (l : List ℕ). All (λ at. at < a.sectors) l) (sym map_kept) was.map_inside;
      map_long = subst (λ (k : List ℕ × ℕ). sectors_for k.1 ≤ length k.0) {x = (map_sectors v, length v.map.used)} {y = (map_sectors remapped, length m.used)} (λ i. (sym map_kept i, sym keeps.used i)) was.map_long;
      marks = keeps.changed ∙ was.marks ∙ ap sectors_for (sym keeps.used);
    }

    in_own : (s : ℕ) → Contains (own_sectors remapped) s → Contains (own_sectors v) s
    in_own s has = subst (λ (l : List ℕ). Contains l s) own_kept has

    pub stands_kept : (a : Space) → StandsOver v a → StandsOver remapped a
    stands_kept a was = record {
      service = service_kept a was.service;
      stands = λ tells.
          let here = was.stands tells in
          record {
            trees = record { extents = here.trees.extents; catalog = here.trees.catalog; compare = here.trees.compare; attributes = here.trees.attributes };
            forks = record {
              extents = here.forks.extents;
              extents_per = here.forks.extents_per;
              catalog = here.forks.catalog;
              catalog_per = here.forks.catalog_per;
              attributes = here.forks.attributes;
              attributes_per = here.forks.attributes_per;
              map = keeps.fork ∙ here.forks.map;
              map_per = keeps.per_block ∙ here.forks.map_per;
            };
            whole = here.whole;
            apart = λ s. subst (λ (l : List ℕ). times s l ≤ 1) (sym own_kept) (here.apart s);
            blocks = keeps.used ∙ here.blocks;
            closed = λ at is has. here.closed at is (in_own at has);
            aside = λ at is has. here.aside at is (in_own at has);
            large = here.large;
            inside = λ at has. here.inside at (subst (λ (l : List ℕ). Contains l at) files_kept has);
            fit = here.fit;
            live = λ at is. subst (λ (l : List ℕ). Contains l at) (sym own_kept) (here.live at is);
          };
    }

  -- the lists are as they were, but for the bits
  pub lists_remapped : (content : Content) → lists_of remapped content ≡ record (lists_of v content) { bits = bits_on remapped }
  lists_remapped content = refl

  -- no block that a content has in use is lost where none is lost of the bitmap
  pub holds_remapped : LosesNone v.map m → (committed : Content) → HoldsOn committed v → HoldsOn committed remapped
  holds_remapped none committed was = (none.long was.0, λ block set. none.each was.0 block (was.1 block set))

  pub used_remapped : LosesNone v.map m → KeepsUsed v remapped
  used_remapped none = record { holds = holds_remapped none; shrunk = refl; capacity = refl }

-- what holds where an answer came holds of what follows from it there
pub ok_of : {U T P Q : Type 0} (q : Result U T) → OnOk q P → (P → Q) → OnOk q Q
ok_of (Ok x) holds follows = follows holds
ok_of (Err y) holds follows = tt

pub ok_with : {U T P Q R : Type 0} (q : Result U T) → OnOk q P → OnOk q Q → (P → Q → R) → OnOk q R
ok_with (Ok x) one other follows = follows one other
ok_with (Err y) one other follows = tt
