use Rattle.std.proofs.Common.{ℕ, arith, sym, ◌∙◌, ap}
use Rattle.std.proofs.lemmas.Result.{err_from_is_err_and}
use Rattle.alloc_bitmap.specs.Map.{BlockMap}
use Rattle.hfs_volume.specs.Forks.{catalog_id}
use Rattle.volume_header.specs.declared.header.VolumeHeader.{VolumeHeader}
use Rattle.volume_base.proofs.Begun.{attributes_back, begun_on, begun_there, catalog_holds_there, catalog_spelled_there, closed_there, file_back, file_then, fresh_then, goes_on, head_then, in_service_then, lies_open, looks_catalog, looks_on, open_then, opened_then, servable_there, served, service_later, settled_then, stands_then}
use Rattle.volume_base.proofs.OpenFiles.{catalog_own}
use Rattle.volume_base.proofs.Seeing.{cause_on}
use Rattle.volume_base.proofs.volume.Volume.attach.Goals as goal

pub attach_trees-requires-clause-servable : goal.attach_trees-requires-clause-servable
attach_trees-requires-clause-servable g c =
    servable_there (g.P.SectorView.space c.args.space.now) (g.P.SectorView.space c.attach_front.new.space) c.attach_front.ensures.looks c.requires.servable

pub attach_trees-requires-clause-closed : goal.attach_trees-requires-clause-closed
attach_trees-requires-clause-closed g c =
    closed_there (g.P.SectorView.space c.args.space.now) (g.P.SectorView.space c.attach_front.new.space) c.attach_front.ensures.looks c.requires.closed

pub attach_trees-requires-clause-begun : goal.attach_trees-requires-clause-begun
attach_trees-requires-clause-begun g c =
    begun_there (g.P.SectorView.space c.args.space.now) (g.P.SectorView.space c.attach_front.new.space) c.in_ok-front.front.header c.in_ok-front.front.extents c.in_ok-front.ensures.begun

pub load_map-requires-clause-service : goal.load_map-requires-clause-service
load_map-requires-clause-service g c =
    (begun_on (g.P.SectorView.space c.args.space.now) (g.P.SectorView.space c.attach_front.new.space) (g.P.SectorView.space c.attach_trees.new.space) c.in_ok-front.front.header c.in_ok-front.front.extents c.attach_trees.new.extents c.in_ok-front.ensures.begun c.in_ok-trees.ensures.begun).service

pub load_map-requires-clause-open : goal.load_map-requires-clause-open
load_map-requires-clause-open g c =
    open_then (g.P.SectorView.space c.args.space.now) c.requires.servable c.requires.closed (g.P.SectorView.space c.attach_trees.new.space) c.in_ok-front.front.header c.attach_trees.new.extents (begun_on (g.P.SectorView.space c.args.space.now) (g.P.SectorView.space c.attach_front.new.space) (g.P.SectorView.space c.attach_trees.new.space) c.in_ok-front.front.header c.in_ok-front.front.extents c.attach_trees.new.extents c.in_ok-front.ensures.begun c.in_ok-trees.ensures.begun)

pub load_map-requires-clause-servable : goal.load_map-requires-clause-servable
load_map-requires-clause-servable g c =
    servable_there (g.P.SectorView.space c.args.space.now) (g.P.SectorView.space c.attach_trees.new.space) (looks_on (g.P.SectorView.space c.args.space.now) (g.P.SectorView.space c.attach_front.new.space) (g.P.SectorView.space c.attach_trees.new.space) c.attach_front.ensures.looks c.attach_trees.ensures.looks) c.requires.servable

pub load_map-requires-clause-file : goal.load_map-requires-clause-file
load_map-requires-clause-file g c =
    file_then (g.P.SectorView.space c.args.space.now) c.requires.servable c.requires.closed (g.P.SectorView.space c.attach_trees.new.space) c.in_ok-front.front.header c.attach_trees.new.extents (begun_on (g.P.SectorView.space c.args.space.now) (g.P.SectorView.space c.attach_front.new.space) (g.P.SectorView.space c.attach_trees.new.space) c.in_ok-front.front.header c.in_ok-front.front.extents c.attach_trees.new.extents c.in_ok-front.ensures.begun c.in_ok-trees.ensures.begun)

pub load_map-requires-clause-head : goal.load_map-requires-clause-head
load_map-requires-clause-head g c =
    head_then (g.P.SectorView.space c.args.space.now) c.requires.servable c.requires.closed (g.P.SectorView.space c.attach_trees.new.space) c.in_ok-front.front.header c.attach_trees.new.extents (begun_on (g.P.SectorView.space c.args.space.now) (g.P.SectorView.space c.attach_front.new.space) (g.P.SectorView.space c.attach_trees.new.space) c.in_ok-front.front.header c.in_ok-front.front.extents c.attach_trees.new.extents c.in_ok-front.ensures.begun c.in_ok-trees.ensures.begun)

pub find_private-requires-clause-service : goal.find_private-requires-clause-service
find_private-requires-clause-service g c =
    service_later c.in_ok-trees.trees.catalog (g.P.SectorView.space c.attach_trees.new.space) (g.P.SectorView.space c.load_map.new.space) c.load_map.ensures.looks.same.sectors c.in_ok-trees.ensures.service.0

pub find_private-requires-clause-open : goal.find_private-requires-clause-open
find_private-requires-clause-open g c =
    lies_open (g.P.SectorView.space c.args.space.now) c.requires.servable c.requires.closed (g.P.SectorView.space c.load_map.new.space) c.in_ok-trees.trees.catalog.file (looks_on (g.P.SectorView.space c.args.space.now) (g.P.SectorView.space c.attach_trees.new.space) (g.P.SectorView.space c.load_map.new.space) (looks_on (g.P.SectorView.space c.args.space.now) (g.P.SectorView.space c.attach_front.new.space) (g.P.SectorView.space c.attach_trees.new.space) c.attach_front.ensures.looks c.attach_trees.ensures.looks) c.load_map.ensures.looks) (λ tells. catalog_own (g.P.SectorView.space c.args.space.now).content (c.requires.servable tells) c.in_ok-trees.trees.catalog.file ((file_back (g.P.SectorView.space c.args.space.now) (g.P.SectorView.space c.attach_front.new.space) c.attach_front.ensures.looks catalog_id (λ (h : VolumeHeader). h.catalog_fork) c.in_ok-trees.trees.catalog.file c.in_ok-trees.ensures.catalog) tells))

pub find_private-requires-clause-holds : goal.find_private-requires-clause-holds
find_private-requires-clause-holds g c =
    catalog_holds_there (g.P.SectorView.space c.args.space.now) (g.P.SectorView.space c.load_map.new.space) c.requires.servable (looks_on (g.P.SectorView.space c.args.space.now) (g.P.SectorView.space c.attach_trees.new.space) (g.P.SectorView.space c.load_map.new.space) (looks_on (g.P.SectorView.space c.args.space.now) (g.P.SectorView.space c.attach_front.new.space) (g.P.SectorView.space c.attach_trees.new.space) c.attach_front.ensures.looks c.attach_trees.ensures.looks) c.load_map.ensures.looks) c.in_ok-trees.trees.catalog.file (file_back (g.P.SectorView.space c.args.space.now) (g.P.SectorView.space c.attach_front.new.space) c.attach_front.ensures.looks catalog_id (λ (h : VolumeHeader). h.catalog_fork) c.in_ok-trees.trees.catalog.file c.in_ok-trees.ensures.catalog)

pub find_private-requires-clause-whole : goal.find_private-requires-clause-whole
find_private-requires-clause-whole g c tells =
    (servable_there (g.P.SectorView.space c.args.space.now) (g.P.SectorView.space c.load_map.new.space) (looks_on (g.P.SectorView.space c.args.space.now) (g.P.SectorView.space c.attach_trees.new.space) (g.P.SectorView.space c.load_map.new.space) (looks_on (g.P.SectorView.space c.args.space.now) (g.P.SectorView.space c.attach_front.new.space) (g.P.SectorView.space c.attach_trees.new.space) c.attach_front.ensures.looks c.attach_trees.ensures.looks) c.load_map.ensures.looks) c.requires.servable tells).whole

pub find_private-requires-clause-spelled : goal.find_private-requires-clause-spelled
find_private-requires-clause-spelled g c =
    catalog_spelled_there (g.P.SectorView.space c.args.space.now) (g.P.SectorView.space c.load_map.new.space) c.requires.servable (looks_on (g.P.SectorView.space c.args.space.now) (g.P.SectorView.space c.attach_trees.new.space) (g.P.SectorView.space c.load_map.new.space) (looks_on (g.P.SectorView.space c.args.space.now) (g.P.SectorView.space c.attach_front.new.space) (g.P.SectorView.space c.attach_trees.new.space) c.attach_front.ensures.looks c.attach_trees.ensures.looks) c.load_map.ensures.looks) c.in_ok-trees.trees.catalog.file (file_back (g.P.SectorView.space c.args.space.now) (g.P.SectorView.space c.attach_front.new.space) c.attach_front.ensures.looks catalog_id (λ (h : VolumeHeader). h.catalog_fork) c.in_ok-trees.trees.catalog.file c.in_ok-trees.ensures.catalog)

pub returns-in_err-front-clause-looks : goal.returns-in_err-front-clause-looks
returns-in_err-front-clause-looks g c =
    c.attach_front.ensures.looks

pub returns-in_err-trees-clause-looks : goal.returns-in_err-trees-clause-looks
returns-in_err-trees-clause-looks g c =
    (looks_on (g.P.SectorView.space c.args.space.now) (g.P.SectorView.space c.attach_front.new.space) (g.P.SectorView.space c.attach_trees.new.space) c.attach_front.ensures.looks c.attach_trees.ensures.looks)

pub returns-in_err-map-clause-looks : goal.returns-in_err-map-clause-looks
returns-in_err-map-clause-looks g c =
    (looks_on (g.P.SectorView.space c.args.space.now) (g.P.SectorView.space c.attach_trees.new.space) (g.P.SectorView.space c.load_map.new.space) (looks_on (g.P.SectorView.space c.args.space.now) (g.P.SectorView.space c.attach_front.new.space) (g.P.SectorView.space c.attach_trees.new.space) c.attach_front.ensures.looks c.attach_trees.ensures.looks) c.load_map.ensures.looks)

pub returns-in_err-private-clause-looks : goal.returns-in_err-private-clause-looks
returns-in_err-private-clause-looks g c =
    (looks_catalog (g.P.SectorView.space c.args.space.now) (g.P.SectorView.space c.load_map.new.space) c.requires.servable (looks_on (g.P.SectorView.space c.args.space.now) (g.P.SectorView.space c.attach_trees.new.space) (g.P.SectorView.space c.load_map.new.space) (looks_on (g.P.SectorView.space c.args.space.now) (g.P.SectorView.space c.attach_front.new.space) (g.P.SectorView.space c.attach_trees.new.space) c.attach_front.ensures.looks c.attach_trees.ensures.looks) c.load_map.ensures.looks) c.in_ok-trees.trees.catalog.file (file_back (g.P.SectorView.space c.args.space.now) (g.P.SectorView.space c.attach_front.new.space) c.attach_front.ensures.looks catalog_id (λ (h : VolumeHeader). h.catalog_fork) c.in_ok-trees.trees.catalog.file c.in_ok-trees.ensures.catalog) (g.P.SectorView.space c.find_private.new.space) c.find_private.ensures.looks)

pub returns-clause-stands : goal.returns-clause-stands
returns-clause-stands g c =
    stands_then (g.P.SectorView.space c.args.space.now) (g.P.SectorView.space c.find_private.new.space) c.requires.servable c.requires.closed c.requires.live (looks_catalog (g.P.SectorView.space c.args.space.now) (g.P.SectorView.space c.load_map.new.space) c.requires.servable (looks_on (g.P.SectorView.space c.args.space.now) (g.P.SectorView.space c.attach_trees.new.space) (g.P.SectorView.space c.load_map.new.space) (looks_on (g.P.SectorView.space c.args.space.now) (g.P.SectorView.space c.attach_front.new.space) (g.P.SectorView.space c.attach_trees.new.space) c.attach_front.ensures.looks c.attach_trees.ensures.looks) c.load_map.ensures.looks) c.in_ok-trees.trees.catalog.file (file_back (g.P.SectorView.space c.args.space.now) (g.P.SectorView.space c.attach_front.new.space) c.attach_front.ensures.looks catalog_id (λ (h : VolumeHeader). h.catalog_fork) c.in_ok-trees.trees.catalog.file c.in_ok-trees.ensures.catalog) (g.P.SectorView.space c.find_private.new.space) c.find_private.ensures.looks) (served c.in_ok-front.front.header c.in_ok-map.map c.load_map.new.extents c.find_private.new.catalog c.in_ok-trees.trees.attributes c.in_ok-private.private c.args.capacity)
    (opened_then (g.P.SectorView.space c.args.space.now) (g.P.SectorView.space c.attach_trees.new.space) (g.P.SectorView.space c.load_map.new.space) c.in_ok-front.front.header c.load_map.new.extents (goes_on (g.P.SectorView.space c.args.space.now) (g.P.SectorView.space c.attach_trees.new.space) (g.P.SectorView.space c.load_map.new.space) c.in_ok-front.front.header c.attach_trees.new.extents c.load_map.new.extents (begun_on (g.P.SectorView.space c.args.space.now) (g.P.SectorView.space c.attach_front.new.space) (g.P.SectorView.space c.attach_trees.new.space) c.in_ok-front.front.header c.in_ok-front.front.extents c.attach_trees.new.extents c.in_ok-front.ensures.begun c.in_ok-trees.ensures.begun) c.load_map.ensures.looks c.load_map.ensures.keeps) (looks_on (g.P.SectorView.space c.args.space.now) (g.P.SectorView.space c.attach_front.new.space) (g.P.SectorView.space c.attach_trees.new.space) c.attach_front.ensures.looks c.attach_trees.ensures.looks) c.in_ok-map.map c.in_ok-trees.trees.catalog c.find_private.new.catalog c.in_ok-trees.trees.attributes c.in_ok-private.private c.args.capacity (file_back (g.P.SectorView.space c.args.space.now) (g.P.SectorView.space c.attach_front.new.space) c.attach_front.ensures.looks catalog_id (λ (h : VolumeHeader). h.catalog_fork) c.in_ok-trees.trees.catalog.file c.in_ok-trees.ensures.catalog) c.find_private.ensures.keeps
    (attributes_back (g.P.SectorView.space c.args.space.now) (g.P.SectorView.space c.attach_front.new.space) c.attach_front.ensures.looks c.in_ok-trees.trees.attributes.file c.in_ok-trees.ensures.attributes) c.in_ok-map.ensures.map (ap (λ (m : BlockMap). m.per_block) c.in_ok-map.ensures.rest) c.in_ok-private.ensures.private)
    (in_service_then (g.P.SectorView.space c.args.space.now) (g.P.SectorView.space c.attach_trees.new.space) (g.P.SectorView.space c.load_map.new.space) c.in_ok-front.front.header c.load_map.new.extents (goes_on (g.P.SectorView.space c.args.space.now) (g.P.SectorView.space c.attach_trees.new.space) (g.P.SectorView.space c.load_map.new.space) c.in_ok-front.front.header c.attach_trees.new.extents c.load_map.new.extents (begun_on (g.P.SectorView.space c.args.space.now) (g.P.SectorView.space c.attach_front.new.space) (g.P.SectorView.space c.attach_trees.new.space) c.in_ok-front.front.header c.in_ok-front.front.extents c.attach_trees.new.extents c.in_ok-front.ensures.begun c.in_ok-trees.ensures.begun) c.load_map.ensures.looks c.load_map.ensures.keeps) (looks_on (g.P.SectorView.space c.args.space.now) (g.P.SectorView.space c.attach_front.new.space) (g.P.SectorView.space c.attach_trees.new.space) c.attach_front.ensures.looks c.attach_trees.ensures.looks) c.in_ok-map.map c.in_ok-trees.trees.catalog c.find_private.new.catalog c.in_ok-trees.trees.attributes c.in_ok-private.private c.args.capacity (g.P.SectorView.space c.find_private.new.space) c.find_private.ensures.looks.same.sectors c.load_map.ensures.looks.same.sectors c.in_ok-trees.ensures.service.0 c.find_private.ensures.keeps c.in_ok-trees.ensures.service.1
    c.in_ok-front.ensures.fits c.in_ok-front.ensures.least c.in_ok-front.ensures.most c.in_ok-map.ensures.inside c.in_ok-map.ensures.long (ap (λ (m : BlockMap). m.changed) c.in_ok-map.ensures.rest))

pub returns-clause-settled : goal.returns-clause-settled
returns-clause-settled g c =
    settled_then (g.P.SectorView.space c.args.space.now) (g.P.SectorView.space c.find_private.new.space) c.requires.servable c.requires.closed c.requires.live (looks_catalog (g.P.SectorView.space c.args.space.now) (g.P.SectorView.space c.load_map.new.space) c.requires.servable (looks_on (g.P.SectorView.space c.args.space.now) (g.P.SectorView.space c.attach_trees.new.space) (g.P.SectorView.space c.load_map.new.space) (looks_on (g.P.SectorView.space c.args.space.now) (g.P.SectorView.space c.attach_front.new.space) (g.P.SectorView.space c.attach_trees.new.space) c.attach_front.ensures.looks c.attach_trees.ensures.looks) c.load_map.ensures.looks) c.in_ok-trees.trees.catalog.file (file_back (g.P.SectorView.space c.args.space.now) (g.P.SectorView.space c.attach_front.new.space) c.attach_front.ensures.looks catalog_id (λ (h : VolumeHeader). h.catalog_fork) c.in_ok-trees.trees.catalog.file c.in_ok-trees.ensures.catalog) (g.P.SectorView.space c.find_private.new.space) c.find_private.ensures.looks) (served c.in_ok-front.front.header c.in_ok-map.map c.load_map.new.extents c.find_private.new.catalog c.in_ok-trees.trees.attributes c.in_ok-private.private c.args.capacity)
    (opened_then (g.P.SectorView.space c.args.space.now) (g.P.SectorView.space c.attach_trees.new.space) (g.P.SectorView.space c.load_map.new.space) c.in_ok-front.front.header c.load_map.new.extents (goes_on (g.P.SectorView.space c.args.space.now) (g.P.SectorView.space c.attach_trees.new.space) (g.P.SectorView.space c.load_map.new.space) c.in_ok-front.front.header c.attach_trees.new.extents c.load_map.new.extents (begun_on (g.P.SectorView.space c.args.space.now) (g.P.SectorView.space c.attach_front.new.space) (g.P.SectorView.space c.attach_trees.new.space) c.in_ok-front.front.header c.in_ok-front.front.extents c.attach_trees.new.extents c.in_ok-front.ensures.begun c.in_ok-trees.ensures.begun) c.load_map.ensures.looks c.load_map.ensures.keeps) (looks_on (g.P.SectorView.space c.args.space.now) (g.P.SectorView.space c.attach_front.new.space) (g.P.SectorView.space c.attach_trees.new.space) c.attach_front.ensures.looks c.attach_trees.ensures.looks) c.in_ok-map.map c.in_ok-trees.trees.catalog c.find_private.new.catalog c.in_ok-trees.trees.attributes c.in_ok-private.private c.args.capacity (file_back (g.P.SectorView.space c.args.space.now) (g.P.SectorView.space c.attach_front.new.space) c.attach_front.ensures.looks catalog_id (λ (h : VolumeHeader). h.catalog_fork) c.in_ok-trees.trees.catalog.file c.in_ok-trees.ensures.catalog) c.find_private.ensures.keeps
    (attributes_back (g.P.SectorView.space c.args.space.now) (g.P.SectorView.space c.attach_front.new.space) c.attach_front.ensures.looks c.in_ok-trees.trees.attributes.file c.in_ok-trees.ensures.attributes) c.in_ok-map.ensures.map (ap (λ (m : BlockMap). m.per_block) c.in_ok-map.ensures.rest) c.in_ok-private.ensures.private)

pub returns-clause-fresh : goal.returns-clause-fresh
returns-clause-fresh g c =
    fresh_then c.in_ok-front.front.header c.in_ok-map.map c.load_map.new.extents c.find_private.new.catalog c.in_ok-trees.trees.attributes c.in_ok-private.private c.args.capacity _ c.in_ok-map.ensures.rest

pub returns-clause-looks : goal.returns-clause-looks
returns-clause-looks g c =
    (looks_catalog (g.P.SectorView.space c.args.space.now) (g.P.SectorView.space c.load_map.new.space) c.requires.servable (looks_on (g.P.SectorView.space c.args.space.now) (g.P.SectorView.space c.attach_trees.new.space) (g.P.SectorView.space c.load_map.new.space) (looks_on (g.P.SectorView.space c.args.space.now) (g.P.SectorView.space c.attach_front.new.space) (g.P.SectorView.space c.attach_trees.new.space) c.attach_front.ensures.looks c.attach_trees.ensures.looks) c.load_map.ensures.looks) c.in_ok-trees.trees.catalog.file (file_back (g.P.SectorView.space c.args.space.now) (g.P.SectorView.space c.attach_front.new.space) c.attach_front.ensures.looks catalog_id (λ (h : VolumeHeader). h.catalog_fork) c.in_ok-trees.trees.catalog.file c.in_ok-trees.ensures.catalog) (g.P.SectorView.space c.find_private.new.space) c.find_private.ensures.looks)

pub returns-in_err-front-clause-below : goal.returns-in_err-front-clause-below
returns-in_err-front-clause-below g c =
    c.attach_front.ensures.below

pub returns-in_err-trees-clause-below : goal.returns-in_err-trees-clause-below
returns-in_err-trees-clause-below g c =
    (g.met.P.SectorView.follows_trans c.args.space.now c.attach_front.new.space c.attach_trees.new.space c.attach_front.ensures.below c.attach_trees.ensures.below)

pub returns-in_err-map-clause-below : goal.returns-in_err-map-clause-below
returns-in_err-map-clause-below g c =
    (g.met.P.SectorView.follows_trans c.args.space.now c.attach_trees.new.space c.load_map.new.space (g.met.P.SectorView.follows_trans c.args.space.now c.attach_front.new.space c.attach_trees.new.space c.attach_front.ensures.below c.attach_trees.ensures.below) c.load_map.ensures.below)

pub returns-in_err-private-clause-below : goal.returns-in_err-private-clause-below
returns-in_err-private-clause-below g c =
    (g.met.P.SectorView.follows_trans c.args.space.now c.load_map.new.space c.find_private.new.space (g.met.P.SectorView.follows_trans c.args.space.now c.attach_trees.new.space c.load_map.new.space (g.met.P.SectorView.follows_trans c.args.space.now c.attach_front.new.space c.attach_trees.new.space c.attach_front.ensures.below c.attach_trees.ensures.below) c.load_map.ensures.below) c.find_private.ensures.below)

pub returns-clause-below : goal.returns-clause-below
returns-clause-below g c =
    (g.met.P.SectorView.follows_trans c.args.space.now c.load_map.new.space c.find_private.new.space (g.met.P.SectorView.follows_trans c.args.space.now c.attach_trees.new.space c.load_map.new.space (g.met.P.SectorView.follows_trans c.args.space.now c.attach_front.new.space c.attach_trees.new.space c.attach_front.ensures.below c.attach_trees.ensures.below) c.load_map.ensures.below) c.find_private.ensures.below)

pub returns-in_err-map-clause-cause : goal.returns-in_err-map-clause-cause
returns-in_err-map-clause-cause g c =
    let p = err_from_is_err_and c.from_residual-in_err-map.result c.from_residual-in_err-map.ensures.1 in
    cause_on c.in_err-map.field-0.0 p.0 (g.P.SectorView.space c.args.space.now).faults (g.P.SectorView.space c.attach_trees.new.space).faults (g.P.SectorView.space c.load_map.new.space).faults c.from_residual-in_err-map.result p.1 p.2 (omega (arith, c.attach_front.ensures.cause.later, c.attach_trees.ensures.cause.later)) c.in_err-map.ensures.cause

pub returns-in_err-private-clause-cause : goal.returns-in_err-private-clause-cause
returns-in_err-private-clause-cause g c =
    let p = err_from_is_err_and c.from_residual-in_err-private.result c.from_residual-in_err-private.ensures.1 in
    cause_on c.in_err-private.field-0.0 p.0 (g.P.SectorView.space c.args.space.now).faults (g.P.SectorView.space c.load_map.new.space).faults (g.P.SectorView.space c.find_private.new.space).faults c.from_residual-in_err-private.result p.1 p.2 (omega (arith, c.attach_front.ensures.cause.later, c.attach_trees.ensures.cause.later, c.load_map.ensures.cause.later)) c.in_err-private.ensures.cause
