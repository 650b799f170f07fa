use Rattle.sector_disk.specs.Space.{Space}
use Rattle.btree_file.specs.FrameLaws.{reads_both}
use Rattle.fsck_core.proofs.ShownLaws.{shows_still, good_still}
use Rattle.fsck_repair.proofs.SizeTelling.{no_bits, sizes_told}
use Rattle.fsck_repair.proofs.sizes.read_sizes.Goals as goal

pub has_attributes_size-requires : goal.has_attributes_size-requires
has_attributes_size-requires g c = record { good = good_still (g.V.SectorView.space c.args.view.now) (g.V.SectorView.space c.has_extents_size.new.view) c.args.head.now c.has_extents_size.ensures.reads c.requires.good }

pub read_sized_catalog-requires : goal.read_sized_catalog-requires
read_sized_catalog-requires g c = let old : Space = g.V.SectorView.space c.args.view.now in
    let first : Space = g.V.SectorView.space c.has_extents_size.new.view in
    let second : Space = g.V.SectorView.space c.has_attributes_size.new.view in
    record { good = good_still old second c.args.head.now (reads_both old first second c.has_extents_size.ensures.reads c.has_attributes_size.ensures.reads) c.requires.good }

pub returns-then-not-has_bits-clause-found : goal.returns-then-not-has_bits-clause-found
returns-then-not-has_bits-clause-found g c content shows head overflow = no_bits content c.args.head.now c.has_bits.result head c.if-not-has_bits.true c.has_bits.ensures

pub returns-then-not-extents-clause-found : goal.returns-then-not-extents-clause-found
returns-then-not-extents-clause-found g c content shows head overflow = (c.in_ok-extents.ensures.met content shows head).fails c.if-not-extents.true

pub returns-then-not-attributes-clause-found : goal.returns-then-not-attributes-clause-found
returns-then-not-attributes-clause-found g c content shows head overflow =
    let old : Space = g.V.SectorView.space c.args.view.now in
    let first : Space = g.V.SectorView.space c.has_extents_size.new.view in
    let there = shows_still old first content shows c.has_extents_size.ensures.reads in
    (c.in_ok-attributes.ensures.met content there head overflow).fails c.if-not-attributes.true

pub returns-clause-found : goal.returns-clause-found
returns-clause-found g c content shows head overflow =
    let old : Space = g.V.SectorView.space c.args.view.now in
    let first : Space = g.V.SectorView.space c.has_extents_size.new.view in
    let second : Space = g.V.SectorView.space c.has_attributes_size.new.view in
    let there = shows_still old first content shows c.has_extents_size.ensures.reads in
    let last = shows_still old second content shows (reads_both old first second c.has_extents_size.ensures.reads c.has_attributes_size.ensures.reads) in
    sizes_told content c.args.head.now c.has_bits.result c.in_ok-extents.extents c.in_ok-attributes.attributes c.read_sized_catalog.result head c.if-not-has_bits.false c.has_bits.ensures c.if-not-extents.false (c.in_ok-extents.ensures.met content shows head)
    c.if-not-attributes.false (c.in_ok-attributes.ensures.met content there head overflow) (c.read_sized_catalog.ensures.found content last head overflow)

pub returns-clause-below : goal.returns-clause-below
returns-clause-below g c =
    g.met.V.SectorView.follows_trans c.args.view.now c.has_attributes_size.new.view c.read_sized_catalog.new.view
    (g.met.V.SectorView.follows_trans c.args.view.now c.has_extents_size.new.view c.has_attributes_size.new.view c.has_extents_size.ensures.below c.has_attributes_size.ensures.below) c.read_sized_catalog.ensures.below
