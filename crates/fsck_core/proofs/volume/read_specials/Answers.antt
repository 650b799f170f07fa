use Rattle.std.proofs.Common.{◌-◌, ◌^◌, min, ◌∙◌, ap}
use Rattle.sector_disk.specs.Space.{Space}
use Rattle.jnl_format.specs.Recovery.{Content}
use Rattle.btree_file.specs.FrameLaws.{reads_both}
use Rattle.hfs_volume.specs.Broken.{bits_behind}
use Rattle.hfs_volume.specs.Content.{volume_of}
use Rattle.fsck_core.specs.Overflows.{overflows_in}
use Rattle.fsck_core.proofs.ShownLaws.{shows_still, good_still, head_back, overflow_back}
use Rattle.fsck_core.proofs.volume.read_specials.Goals as goal

pub read_catalog_head-requires : goal.read_catalog_head-requires
read_catalog_head-requires g c =
    let old : Space = g.V.SectorView.space c.args.view.now in
    let first : Space = g.V.SectorView.space c.read_extents_head.new.view in
    record { good = good_still old first c.args.head.now c.read_extents_head.ensures.reads c.requires.good }

pub read_attributes_head-requires : goal.read_attributes_head-requires
read_attributes_head-requires g c =
    let old : Space = g.V.SectorView.space c.args.view.now in
    let first : Space = g.V.SectorView.space c.read_extents_head.new.view in
    let second : Space = g.V.SectorView.space c.read_catalog_head.new.view in
    record { good = good_still old second c.args.head.now (reads_both old first second c.read_extents_head.ensures.reads c.read_catalog_head.ensures.reads) c.requires.good }

pub count_behind-requires : goal.count_behind-requires
count_behind-requires g c =
    let old : Space = g.V.SectorView.space c.args.view.now in
    let first : Space = g.V.SectorView.space c.read_extents_head.new.view in
    let second : Space = g.V.SectorView.space c.read_catalog_head.new.view in
    let third : Space = g.V.SectorView.space c.read_attributes_head.new.view in
    record { good = good_still old third c.args.head.now (reads_both old second third (reads_both old first second c.read_extents_head.ensures.reads c.read_catalog_head.ensures.reads) c.read_attributes_head.ensures.reads) c.requires.good }

pub returns-clause-heads : goal.returns-clause-heads
returns-clause-heads g c content shows head overflow =
    let old : Space = g.V.SectorView.space c.args.view.now in
    let first : Space = g.V.SectorView.space c.read_extents_head.new.view in
    let second : Space = g.V.SectorView.space c.read_catalog_head.new.view in
    record {
      volume = head;
      extents_head = c.in_ok-extents.ensures.value content shows head;
      catalog_head = c.in_ok-catalog.ensures.value content (shows_still old first content shows c.read_extents_head.ensures.reads) head overflow;
      attributes_head = c.in_ok-attributes.ensures.value content (shows_still old second content shows (reads_both old first second c.read_extents_head.ensures.reads c.read_catalog_head.ensures.reads)) head overflow;
    }

pub returns-clause-behind : goal.returns-clause-behind
returns-clause-behind g c content shows head overflow =
    let old : Space = g.V.SectorView.space c.args.view.now in
    let first : Space = g.V.SectorView.space c.read_extents_head.new.view in
    let second : Space = g.V.SectorView.space c.read_catalog_head.new.view in
    let third : Space = g.V.SectorView.space c.read_attributes_head.new.view in
    let there = shows_still old third content shows (reads_both old second third (reads_both old first second c.read_extents_head.ensures.reads c.read_catalog_head.ensures.reads) c.read_attributes_head.ensures.reads) in
    c.in_ok-behind.ensures.value there.tells (head_back third content c.args.head.now there head) (overflow_back third content (overflows_in c.args.rows.now) there overflow) ∙ ap (λ (ct : Content). min (bits_behind (volume_of ct)) (2 ^ 64 - 1)) there.is

pub returns-in_err-behind-clause-below : goal.returns-in_err-behind-clause-below
returns-in_err-behind-clause-below g c =
    g.met.V.SectorView.follows_trans c.args.view.now c.read_attributes_head.new.view c.count_behind.new.view
    (g.met.V.SectorView.follows_trans c.args.view.now c.read_catalog_head.new.view c.read_attributes_head.new.view
    (g.met.V.SectorView.follows_trans c.args.view.now c.read_extents_head.new.view c.read_catalog_head.new.view c.read_extents_head.ensures.below c.read_catalog_head.ensures.below) c.read_attributes_head.ensures.below) c.count_behind.ensures.below

pub returns-clause-below : goal.returns-clause-below
returns-clause-below g c =
    g.met.V.SectorView.follows_trans c.args.view.now c.read_attributes_head.new.view c.count_behind.new.view
    (g.met.V.SectorView.follows_trans c.args.view.now c.read_catalog_head.new.view c.read_attributes_head.new.view
    (g.met.V.SectorView.follows_trans c.args.view.now c.read_extents_head.new.view c.read_catalog_head.new.view c.read_extents_head.ensures.below c.read_catalog_head.ensures.below) c.read_attributes_head.ensures.below) c.count_behind.ensures.below

pub returns-clause-reads : goal.returns-clause-reads
returns-clause-reads g c =
    let old : Space = g.V.SectorView.space c.args.view.now in
    let first : Space = g.V.SectorView.space c.read_extents_head.new.view in
    let second : Space = g.V.SectorView.space c.read_catalog_head.new.view in
    let third : Space = g.V.SectorView.space c.read_attributes_head.new.view in
    let last : Space = g.V.SectorView.space c.count_behind.new.view in
    reads_both old third last (reads_both old second third (reads_both old first second c.read_extents_head.ensures.reads c.read_catalog_head.ensures.reads) c.read_attributes_head.ensures.reads) c.count_behind.ensures.reads
