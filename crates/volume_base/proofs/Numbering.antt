-- A volume with other numbers in its header stands as before.
use Rattle.std.proofs.Common.{◌≡◌, subst, sym}
use Rattle.sector_disk.specs.Space.{Space}
use Rattle.volume_header.specs.Header.{FitsHeader}
use Rattle.volume_header.specs.declared.header.VolumeHeader.{VolumeHeader}
use Rattle.hfs_volume.specs.Changes.{with_numbers}
use Rattle.volume_base.specs.Standing.{StandsOver}
use Rattle.volume_base.specs.declared.volume.Volume.{Volume}

abbrev pub renumbered : VolumeHeader → Volume → Volume
renumbered head volume = record volume { header = with_numbers volume.header head }

pub stands_numbered : (head : VolumeHeader) (volume : Volume) (a : Space) → FitsHeader (with_numbers volume.header head) → StandsOver volume a → StandsOver (renumbered head volume) a
stands_numbered head volume a fits was = record {
  service = record {
    extents = was.service.extents;
    catalog = was.service.catalog;
    attributes = was.service.attributes;
    fits = fits;
    least = was.service.least;
    most = was.service.most;
    map_inside = was.service.map_inside;
    map_long = was.service.map_long;
    marks = was.service.marks;
  };
  stands = λ tells.
      let here = was.stands tells in
      record {
        trees = record { extents = here.trees.extents; catalog = here.trees.catalog; compare = here.trees.compare; attributes = here.trees.attributes };
        forks = record {
          extents = here.forks.extents;
          extents_per = here.forks.extents_per;
          catalog = here.forks.catalog;
          catalog_per = here.forks.catalog_per;
          attributes = here.forks.attributes;
          attributes_per = here.forks.attributes_per;
          map = here.forks.map;
          map_per = here.forks.map_per;
        };
        whole = here.whole;
        apart = here.apart;
        blocks = here.blocks;
        closed = here.closed;
        aside = here.aside;
        large = here.large;
        inside = here.inside;
        fit = here.fit;
        live = here.live;
      };
}

-- the same of a header that differs in numbers alone
pub stands_with : (head : VolumeHeader) (volume : Volume) (a : Space) → head ≡ with_numbers volume.header head → FitsHeader head → StandsOver volume a → StandsOver (record volume { header = head }) a
stands_with head volume a numbers fits was =
    subst (λ (h : VolumeHeader). StandsOver (record volume { header = h }) a) (sym numbers) (stands_numbered head volume a (subst (λ (h : VolumeHeader). FitsHeader h) numbers fits) was)
