-- The entries and links of a volume that was just made, in its content.
use Rattle.std.proofs.Common.{◌≡◌, ℕ, ◌^◌, ◌<◌, List, [], ◌∷◌, IsTrue, sym, subst}
use Rattle.std.specs.List.{AllByRecursion}
use Rattle.volume_header.specs.declared.header.VolumeHeader.{VolumeHeader}
use Rattle.btree_node.specs.Levels.{Pair}
use Rattle.jnl_format.specs.Recovery.{Content}
use Rattle.hfs_volume.specs.Records.{Placed, Overflow, placed_in}
use Rattle.hfs_volume.specs.Content.{volume_of, records_of}
use Rattle.hfs_volume.specs.Entries.{AreEntries, AreSpelled}
use Rattle.hfs_volume.specs.Links.{AreLinks}
use Rattle.volume_make.specs.declared.layout.Layout.{Layout}
use Rattle.volume_make.specs.Layout.{CanBe, layout_of}
use Rattle.volume_make.specs.Refusal.{is_name}
use Rattle.volume_make.specs.Texts.{fresh_header}
use Rattle.volume_make.specs.Written.{IsFormatted}
use Rattle.fresh_volume.specs.Fresh.{HasFreshRecords, HasSoundEntries, fresh_records}
use Rattle.fresh_volume.proofs.Trees.{head_is}
use Rattle.fresh_volume.proofs.SixRecords.{has_fresh_records}
use Rattle.fresh_volume.proofs.SixLinks.{links_good}
use Rattle.fresh_volume.proofs.SixEntries.{entries_sound}

-- a name has a first unit
by_name : (layout : Layout) (name : List ℕ) (pairs : List Pair) → IsTrue (is_name name) → placed_in pairs ≡ fresh_records layout name → AreSpelled pairs → AreEntries (fresh_header layout) pairs
by_name layout [] pairs named are spelled = absurd (cc named)
by_name layout (unit ∷ units) pairs named are spelled = entries_sound layout unit units pairs are spelled

pub has_sound_entries : (sectors block journal : ℕ) (name : List ℕ) (old new : Content) → CanBe sectors block journal → IsTrue (is_name name) → AllByRecursion (λ unit. unit < 2 ^ 16) name
    → IsFormatted (layout_of sectors block journal) name old new → HasSoundEntries new
unfolding volume_of
has_sound_entries sectors block journal name old new can named units made =
    let layout : Layout = layout_of sectors block journal in
    let found : HasFreshRecords layout name new = has_fresh_records sectors block journal name old new can named units made in
    let links : AreLinks (fresh_records layout name) [] = links_good layout name in
    record {
      entries =
          subst (λ (h : VolumeHeader). AreEntries h (volume_of new).catalog_pairs) (sym (head_is sectors block journal name old new can named made))
          (by_name layout name (volume_of new).catalog_pairs named found.records found.spelled);
      links = subst (λ (o : List Overflow). AreLinks (records_of (volume_of new)) o) (sym found.overflow) (subst (λ (r : List Placed). AreLinks r []) (sym found.records) links);
    }
