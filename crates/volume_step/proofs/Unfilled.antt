-- A volume with another growth in hand stands, serves and is settled where the volume was: none of that looks at it.
use Rattle.std.proofs.Common.{◌≡◌, ◌≤◌, ◌*◌, ◌/◌, Bool, refl, subst, sym, ◌∙◌}
use Rattle.std.specs.Prelude.{IsTrue, None, Option, Some}
use Rattle.std.specs.List.{Contains}
use Rattle.alloc_bitmap.specs.declared.bitmap.Bitmap.{Bitmap}
use Rattle.alloc_bitmap.specs.Map.{free_of}
use Rattle.flag_rows.specs.Bits.{count_set}
use Rattle.file_io.specs.Bytes.{HoldZeros, sectors_in}
use Rattle.file_io.specs.Places.{fresh_of, new_blocks, zeros_at}
use Rattle.volume_header.specs.declared.header.VolumeHeader.{VolumeHeader}
use Rattle.sector_disk.specs.Lists.{Content}
use Rattle.sector_disk.specs.Space.{Space}
use Rattle.volume_base.specs.Frame.{Serves}
use Rattle.volume_base.specs.Looking.{KeepsVolume, ReadsVolume}
use Rattle.volume_base.specs.Service.{IsInService}
use Rattle.volume_base.specs.Standing.{IsSettled, IsStanding, StandsOver, own_sectors}
use Rattle.volume_base.specs.Touching.{Looks}
use Rattle.volume_base.proofs.Seeing.{keeps_none, looks_none}
use Rattle.volume_base.specs.declared.volume.Filling.{Filling}
use Rattle.volume_base.specs.declared.volume.Volume.{Volume}
use Rattle.volume_space.specs.Zeroing.{HasFilled}

module _ (v : Volume) (f : Option Filling) where
  pub service_filling : (a : Space) → IsInService v a → IsInService (record v { filling = f }) a
  service_filling a was = record {
    extents = was.extents;
    catalog = was.catalog;
    attributes = was.attributes;
    fits = was.fits;
    least = was.least;
    most = was.most;
    map_inside = was.map_inside;
    map_long = was.map_long;
    marks = was.marks;
  }

  standing_filling : (a : Space) → IsStanding v a → IsStanding (record v { filling = f }) a
  standing_filling a was = record {
    trees = record { extents = was.trees.extents; catalog = was.trees.catalog; compare = was.trees.compare; attributes = was.trees.attributes };
    forks = record {
      extents = was.forks.extents;
      extents_per = was.forks.extents_per;
      catalog = was.forks.catalog;
      catalog_per = was.forks.catalog_per;
      attributes = was.forks.attributes;
      attributes_per = was.forks.attributes_per;
      map = was.forks.map;
      map_per = was.forks.map_per;
    };
    whole = was.whole;
    apart = was.apart;
    blocks = was.blocks;
    closed = was.closed;
    aside = was.aside;
    large = was.large;
    inside = was.inside;
    fit = was.fit;
    live = was.live;
  }

  pub stands_filling : (a : Space) → StandsOver v a → StandsOver (record v { filling = f }) a
  stands_filling a was = record { service = service_filling a was.service; stands = λ tells. standing_filling a (was.stands tells) }

  pub settled_filling : (content : Content) → IsSettled v content → IsSettled (record v { filling = f }) content
  settled_filling content was = record { blocks = was.blocks; lists = was.lists; attributes = was.attributes; sound = was.sound; private = was.private }

  pub serves_filling : (a : Space) → Serves v a → Serves (record v { filling = f }) a
  serves_filling a was = record { stands = stands_filling a was.stands; settled = λ tells. settled_filling a.content (was.settled tells) }

-- where none is in hand, it is filled as it says
pub filled_none : (v : Volume) (a : Space) → v.filling ≡ None → HasFilled v a
filled_none v a none it is = let same : None ≡ Some it = sym none ∙ is in absurd (cc same)

-- and so it is behind a read
pub filled_still : (v w : Volume) (a b : Space) → ReadsVolume v w a b → HasFilled v a → HasFilled w b
filled_still v w a b reads was it is =
    let old = was it (sym reads.keeps.filling ∙ is) in
    record {
      blocks = subst (λ (k : Bitmap × VolumeHeader). it.blocks ≡ fresh_of k.0 (new_blocks k.1.block_size it.old_size it.old_size it.new_size)) {x = (v.map, v.header)} {y = (w.map, w.header)} (λ i. (sym reads.keeps.map i, sym reads.keeps.header i)) old.blocks;
      enough = subst (λ (k : Bitmap × VolumeHeader). new_blocks k.1.block_size it.old_size it.old_size it.new_size ≤ count_set (free_of k.0)) {x = (v.map, v.header)} {y = (w.map, w.header)} (λ i. (sym reads.keeps.map i, sym reads.keeps.header i)) old.enough;
      place = subst (λ (h : VolumeHeader). it.place ≡ zeros_at h.block_size it.old_size it.old_size it.new_size) (sym reads.keeps.header) old.place;
      zeros = λ told.
          let tells = sym reads.looks.same.tells ∙ told in
          subst (λ (k : VolumeHeader × Content). HoldZeros k.1 (sectors_in k.0.block_size it.blocks) (it.place * (k.0.block_size / 512)) (it.done * (k.0.block_size / 512))) {x = (v.header, a.content)} {y = (w.header, b.content)} (λ i. (sym reads.keeps.header i, sym (reads.looks.content tells) i)) (old.zeros tells);
    }

-- what was read alone, but for the growth in hand
pub keeps_filling : (tells : Bool) (v w : Volume) (f : Option Filling) → KeepsVolume tells v w → KeepsVolume tells (record v { filling = f }) (record w { filling = f })
keeps_filling tells v w f was = record {
  header = was.header;
  map = was.map;
  extents = was.extents;
  catalog = was.catalog;
  attributes = was.attributes;
  private = was.private;
  shrunk = was.shrunk;
  capacity = was.capacity;
  kept = was.kept;
  filling = refl;
}

-- and then only the growth in hand was changed
pub keeps_filled : (tells : Bool) (v w x : Volume) → KeepsVolume tells v w → x ≡ record w { filling = x.filling } → KeepsVolume tells (record v { filling = x.filling }) x
keeps_filled tells v w x keeps rest = subst (λ (u : Volume). KeepsVolume tells (record v { filling = x.filling }) u) (sym rest) (keeps_filling tells v w x.filling keeps)

pub reads_filled : (v w x : Volume) (a b c : Space) → ReadsVolume v w a b → x ≡ record w { filling = x.filling } → c ≡ b → ReadsVolume (record v { filling = x.filling }) x a c
reads_filled v w x a b c reads rest still = record {
  keeps = keeps_filled a.tells v w x reads.keeps rest;
  looks = subst (λ (s : Space). Looks (λ n. Contains (own_sectors v) n) a s) (sym still) reads.looks;
}

-- where the volume was read alone
pub keeps_alone : (tells : Bool) (v w : Volume) → KeepsVolume tells v w → KeepsVolume tells (record v { filling = w.filling }) w
keeps_alone tells v w was = record {
  header = was.header;
  map = was.map;
  extents = was.extents;
  catalog = was.catalog;
  attributes = was.attributes;
  private = was.private;
  shrunk = was.shrunk;
  capacity = was.capacity;
  kept = was.kept;
  filling = refl;
}

pub reads_alone : (v w : Volume) (a b : Space) → ReadsVolume v w a b → ReadsVolume (record v { filling = w.filling }) w a b
reads_alone v w a b reads = record { keeps = keeps_alone a.tells v w reads.keeps; looks = reads.looks }

-- and where nothing was done
pub reads_none : (v : Volume) (a : Space) → ReadsVolume (record v { filling = v.filling }) v a a
reads_none v a = record {
  keeps = record {
    header = refl;
    map = refl;
    extents = keeps_none a.tells v.extents;
    catalog = keeps_none a.tells v.catalog;
    attributes = keeps_none a.tells v.attributes;
    private = refl;
    shrunk = refl;
    capacity = refl;
    kept = refl;
    filling = refl;
  };
  looks = looks_none (λ s. Contains (own_sectors v) s) a;
}
