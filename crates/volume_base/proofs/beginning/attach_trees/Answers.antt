use Rattle.std.proofs.Common.{ℕ, refl, arith, sym, ◌∙◌}
use Rattle.hfs_volume.specs.Forks.{attributes_id, catalog_id}
use Rattle.volume_header.specs.declared.header.VolumeHeader.{VolumeHeader}
use Rattle.volume_base.proofs.Begun.{block_then, file_attached, file_then, goes_on, looks_on, open_then, servable_then, service_later, special_then}
use Rattle.volume_base.proofs.Opened.{attributes_nodes, catalog_nodes}
use Rattle.volume_base.proofs.beginning.attach_trees.Goals as goal

pub attach_special-requires-clause-service : goal.attach_special-requires-clause-service
attach_special-requires-clause-service g c =
    c.requires.begun.service

pub attach_special-requires-clause-open : goal.attach_special-requires-clause-open
attach_special-requires-clause-open g c =
    open_then (g.P.SectorView.space c.args.space.now) c.requires.servable c.requires.closed (g.P.SectorView.space c.args.space.now) c.args.header.now c.args.extents.now c.requires.begun

pub attach_special-requires-clause-file : goal.attach_special-requires-clause-file
attach_special-requires-clause-file g c =
    c.requires.begun.file

pub attach_special-requires-clause-special : goal.attach_special-requires-clause-special
attach_special-requires-clause-special g c =
    special_then (g.P.SectorView.space c.args.space.now) c.requires.servable c.requires.closed (g.P.SectorView.space c.args.space.now) c.args.header.now c.args.extents.now c.requires.begun catalog_id (λ h. h.catalog_fork) (λ h. (1, omega arith, refl))

pub attach_special-requires-clause-block : goal.attach_special-requires-clause-block
attach_special-requires-clause-block g c =
    block_then (g.P.SectorView.space c.args.space.now) c.requires.servable c.requires.closed (g.P.SectorView.space c.args.space.now) c.args.header.now c.args.extents.now c.requires.begun

pub attach_special-requires-2-clause-service : goal.attach_special-requires-2-clause-service
attach_special-requires-2-clause-service g c =
    (goes_on (g.P.SectorView.space c.args.space.now) (g.P.SectorView.space c.args.space.now) (g.P.SectorView.space c.attach_special.new.space) c.args.header.now c.args.extents.now c.attach_special.new.extents c.requires.begun c.attach_special.ensures.looks c.attach_special.ensures.keeps).service

pub attach_special-requires-2-clause-open : goal.attach_special-requires-2-clause-open
attach_special-requires-2-clause-open g c =
    open_then (g.P.SectorView.space c.args.space.now) c.requires.servable c.requires.closed (g.P.SectorView.space c.attach_special.new.space) c.args.header.now c.attach_special.new.extents (goes_on (g.P.SectorView.space c.args.space.now) (g.P.SectorView.space c.args.space.now) (g.P.SectorView.space c.attach_special.new.space) c.args.header.now c.args.extents.now c.attach_special.new.extents c.requires.begun c.attach_special.ensures.looks c.attach_special.ensures.keeps)

pub attach_special-requires-2-clause-servable : goal.attach_special-requires-2-clause-servable
attach_special-requires-2-clause-servable g c =
    servable_then (g.P.SectorView.space c.args.space.now) c.requires.servable c.requires.closed (g.P.SectorView.space c.attach_special.new.space) c.args.header.now c.attach_special.new.extents (goes_on (g.P.SectorView.space c.args.space.now) (g.P.SectorView.space c.args.space.now) (g.P.SectorView.space c.attach_special.new.space) c.args.header.now c.args.extents.now c.attach_special.new.extents c.requires.begun c.attach_special.ensures.looks c.attach_special.ensures.keeps)

pub attach_special-requires-2-clause-file : goal.attach_special-requires-2-clause-file
attach_special-requires-2-clause-file g c =
    file_then (g.P.SectorView.space c.args.space.now) c.requires.servable c.requires.closed (g.P.SectorView.space c.attach_special.new.space) c.args.header.now c.attach_special.new.extents (goes_on (g.P.SectorView.space c.args.space.now) (g.P.SectorView.space c.args.space.now) (g.P.SectorView.space c.attach_special.new.space) c.args.header.now c.args.extents.now c.attach_special.new.extents c.requires.begun c.attach_special.ensures.looks c.attach_special.ensures.keeps)

pub attach_special-requires-2-clause-special : goal.attach_special-requires-2-clause-special
attach_special-requires-2-clause-special g c =
    special_then (g.P.SectorView.space c.args.space.now) c.requires.servable c.requires.closed (g.P.SectorView.space c.attach_special.new.space) c.args.header.now c.attach_special.new.extents (goes_on (g.P.SectorView.space c.args.space.now) (g.P.SectorView.space c.args.space.now) (g.P.SectorView.space c.attach_special.new.space) c.args.header.now c.args.extents.now c.attach_special.new.extents c.requires.begun c.attach_special.ensures.looks c.attach_special.ensures.keeps) attributes_id (λ h. h.attributes_fork) (λ h. (4, omega arith, refl))

pub attach_special-requires-2-clause-block : goal.attach_special-requires-2-clause-block
attach_special-requires-2-clause-block g c =
    block_then (g.P.SectorView.space c.args.space.now) c.requires.servable c.requires.closed (g.P.SectorView.space c.attach_special.new.space) c.args.header.now c.attach_special.new.extents (goes_on (g.P.SectorView.space c.args.space.now) (g.P.SectorView.space c.args.space.now) (g.P.SectorView.space c.attach_special.new.space) c.args.header.now c.args.extents.now c.attach_special.new.extents c.requires.begun c.attach_special.ensures.looks c.attach_special.ensures.keeps)

pub returns-in_err-catalog-clause-looks : goal.returns-in_err-catalog-clause-looks
returns-in_err-catalog-clause-looks g c =
    c.attach_special.ensures.looks

pub returns-in_err-attributes-clause-looks : goal.returns-in_err-attributes-clause-looks
returns-in_err-attributes-clause-looks g c =
    looks_on (g.P.SectorView.space c.args.space.now) (g.P.SectorView.space c.attach_special.new.space) (g.P.SectorView.space c.attach_special-2.new.space) c.attach_special.ensures.looks c.attach_special-2.ensures.looks

pub returns-clause-begun : goal.returns-clause-begun
returns-clause-begun g c =
    (goes_on (g.P.SectorView.space c.args.space.now) (g.P.SectorView.space c.attach_special.new.space) (g.P.SectorView.space c.attach_special-2.new.space) c.args.header.now c.attach_special.new.extents c.attach_special-2.new.extents (goes_on (g.P.SectorView.space c.args.space.now) (g.P.SectorView.space c.args.space.now) (g.P.SectorView.space c.attach_special.new.space) c.args.header.now c.args.extents.now c.attach_special.new.extents c.requires.begun c.attach_special.ensures.looks c.attach_special.ensures.keeps) c.attach_special-2.ensures.looks c.attach_special-2.ensures.keeps)

pub returns-clause-catalog : goal.returns-clause-catalog
returns-clause-catalog g c =
    file_attached (g.P.SectorView.space c.args.space.now) c.requires.servable c.requires.closed (g.P.SectorView.space c.args.space.now) c.args.header.now c.args.extents.now c.requires.begun catalog_id (λ (h : VolumeHeader). h.catalog_fork) c.in_ok-catalog.catalog.file (λ tells. catalog_nodes (g.P.SectorView.space c.args.space.now).content (c.requires.servable tells)) c.in_ok-catalog.ensures.file

pub returns-clause-attributes : goal.returns-clause-attributes
returns-clause-attributes g c tells has =
    file_attached (g.P.SectorView.space c.args.space.now) c.requires.servable c.requires.closed (g.P.SectorView.space c.attach_special.new.space) c.args.header.now c.attach_special.new.extents (goes_on (g.P.SectorView.space c.args.space.now) (g.P.SectorView.space c.args.space.now) (g.P.SectorView.space c.attach_special.new.space) c.args.header.now c.args.extents.now c.attach_special.new.extents c.requires.begun c.attach_special.ensures.looks c.attach_special.ensures.keeps) attributes_id (λ (h : VolumeHeader). h.attributes_fork) c.in_ok-attributes.attributes.file (λ t. attributes_nodes (g.P.SectorView.space c.args.space.now).content (c.requires.servable t) has) c.in_ok-attributes.ensures.file tells

pub returns-clause-service : goal.returns-clause-service
returns-clause-service g c =
    (service_later c.in_ok-catalog.catalog (g.P.SectorView.space c.args.space.now) (g.P.SectorView.space c.attach_special-2.new.space) (c.attach_special-2.ensures.looks.same.sectors ∙ c.attach_special.ensures.looks.same.sectors) c.in_ok-catalog.ensures.service, service_later c.in_ok-attributes.attributes (g.P.SectorView.space c.attach_special.new.space) (g.P.SectorView.space c.attach_special-2.new.space) c.attach_special-2.ensures.looks.same.sectors c.in_ok-attributes.ensures.service)

pub returns-clause-looks : goal.returns-clause-looks
returns-clause-looks g c =
    looks_on (g.P.SectorView.space c.args.space.now) (g.P.SectorView.space c.attach_special.new.space) (g.P.SectorView.space c.attach_special-2.new.space) c.attach_special.ensures.looks c.attach_special-2.ensures.looks

pub returns-in_err-attributes-clause-below : goal.returns-in_err-attributes-clause-below
returns-in_err-attributes-clause-below g c = g.met.P.SectorView.follows_trans c.args.space.now c.attach_special.new.space c.attach_special-2.new.space c.attach_special.ensures.below c.attach_special-2.ensures.below

pub returns-clause-below : goal.returns-clause-below
returns-clause-below g c = g.met.P.SectorView.follows_trans c.args.space.now c.attach_special.new.space c.attach_special-2.new.space c.attach_special.ensures.below c.attach_special-2.ensures.below
