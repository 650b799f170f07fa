use Rattle.std.proofs.Common.{◌≡◌, ◌<◌, ◌≤◌, ℕ, ◌*◌, List, inl, length, refl, sym, ◌∙◌, ap, subst, arith}
use Rattle.std.specs.Prelude.{Contains, false, slice_index_or, Result, Err, OnOk, IsErrOf}
use Rattle.std.proofs.lemmas.Result.{err_from_is_err_and}
use Rattle.hx_bytes.specs.declared.faults.Trouble.{Trouble}
use Rattle.hx_bytes.specs.declared.faults.Trouble.TheVariants.{Disk, Memory}
use Rattle.btree_edit.specs.Causes.{FailedThere, HasTroubleCause}
use Rattle.sector_disk.specs.Cause.{Rose}
use Rattle.hx_bytes.specs.declared.extents.Extent.{Extent}
use Rattle.alloc_bitmap.specs.Map.{BlockMap, free_of}
use Rattle.btree_file.specs.declared.tree.TreeFile.{TreeFile}
use Rattle.sector_disk.specs.Space.{Space}
use Rattle.volume_header.specs.declared.header.VolumeHeader.{VolumeHeader}
use Rattle.hfs_volume.specs.Content.{overflow_in_volume}
use Rattle.hfs_volume.specs.Forks.{catalog_id, data_kind}
use Rattle.overflow.specs.Reading.{HasExtents}
use Rattle.volume_base.specs.Lists.{lists_of}
use Rattle.volume_space.specs.SpreadGrowth.{StandsButOver}
use Rattle.volume_space.specs.Growing.{HasFreeRun, Lengthens, TakesRun, blocks_filled, run_load, with_catalog}
use Rattle.volume_base.specs.Mapping.{changed_sectors}
use Rattle.volume_base.specs.Service.{IsInService}
use Rattle.volume_base.specs.Standing.{own_sectors}
use Rattle.volume_base.specs.Touching.{Touches}
use Rattle.volume_base.specs.declared.volume.Volume.{Volume}
use Rattle.volume_base.proofs.CatalogEdited.{catalog_open}
use Rattle.volume_base.proofs.Commanding.{touches_none}
use Rattle.volume_space.proofs.GrownCalls.{grown_apart, run_opens, touches_reading}
use Rattle.volume_space.proofs.SpreadNumbers.{few_nodes, grow_room, per_block_some, run_inside, whole_nodes}
use Rattle.volume_space.proofs.SpreadCatalogLengthened.{but_then, gained_then, has_then, lengthens_then, map_then, nodes_spent, own_failed, own_then, service_then, touches_then}
use Rattle.volume_space.proofs.GrownRun.{same_held, same_length, used_still}
use Rattle.volume_space.proofs.growing_spread.lengthen_catalog_spread.Goals as goal

-- what is said of an answer holds of none
off_ok : {U : Type 0} (P : Type 0) (q : Result U Trouble) (y : Trouble) → q ≡ Err y → OnOk q P
off_ok {U} P q y is = subst (λ (r : Result U Trouble). OnOk r P) (sym is) tt

-- the cause of a failure that names a fault of the disk alone
failed_by : (before now : ℕ) (t : Trouble) → (IsErrOf {T = Unit {0}} (Err t) Disk → Rose before now) → FailedThere {T = Unit {0}} before now (Err t)
failed_by before now Disk disk = disk refl
failed_by before now Memory disk = tt

cause_of : (before now : ℕ) (q : Result (Unit {0}) Trouble) (t y : Trouble) → q ≡ Err y → y ≡ t → before ≤ now → (IsErrOf {T = Unit {0}} (Err t) Disk → Rose before now) → HasTroubleCause before now q
cause_of before now q t y is same later disk = subst (λ (r : Result (Unit {0}) Trouble). HasTroubleCause before now r) (sym (is ∙ ap Err same)) (record { later = later; failed = failed_by before now t disk })

pub count_blocks-blocks-requires : goal.count_blocks-blocks-requires
count_blocks-blocks-requires g c = per_block_some c.args.more c.args.volume.now (g.P.SectorView.space c.args.space.now) c.requires.can (record { start = 0; count = blocks_filled c.args.volume.now.catalog.file c.args.more }) refl

pub take_run-requires-clause-some : goal.take_run-requires-clause-some
take_run-requires-clause-some g c = subst (λ n. 0 < n) (sym c.count_blocks-blocks.ensures) c.requires.can.some

pub take_run-requires-clause-enough : goal.take_run-requires-clause-enough
take_run-requires-clause-enough g c = omega (arith, c.count_blocks-blocks.ensures, c.requires.can.enough)

pub take_run-requires-clause-run : goal.take_run-requires-clause-run
take_run-requires-clause-run g c = subst (λ n. HasFreeRun n (free_of c.args.volume.now.map)) (sym c.count_blocks-blocks.ensures) c.requires.can.run

-- the run that was taken, by the number of its blocks
taken : (v : Volume) (more count : ℕ) (run : Extent) (map_ : BlockMap) → count ≡ blocks_filled v.catalog.file more → TakesRun count run v.map map_ → TakesRun (blocks_filled v.catalog.file more) run v.map map_
taken v more count run map_ is takes = subst (λ n. TakesRun n run v.map map_) is takes

pub grow-requires-clause-inside : goal.grow-requires-clause-inside
grow-requires-clause-inside g c = c.requires.stands.service.catalog.inside

pub grow-requires-clause-run_inside : goal.grow-requires-clause-run_inside
grow-requires-clause-run_inside g c =
    let takes = taken c.args.volume.now c.args.more c.count_blocks-blocks.result c.in_ok-run.run' c.take_run.new.map c.count_blocks-blocks.ensures c.in_ok-run.ensures.takes in
    run_inside c.args.more c.args.volume.now (g.P.SectorView.space c.args.space.now) c.requires.can c.in_ok-run.run' takes.many takes.inside

pub grow-requires-clause-open : goal.grow-requires-clause-open
grow-requires-clause-open g c = catalog_open c.args.volume.now (g.P.SectorView.space c.args.space.now) c.requires.stands

pub grow-requires-clause-run_open : goal.grow-requires-clause-run_open
grow-requires-clause-run_open g c tells =
    let takes = taken c.args.volume.now c.args.more c.count_blocks-blocks.result c.in_ok-run.run' c.take_run.new.map c.count_blocks-blocks.ensures c.in_ok-run.ensures.takes in
    run_opens c.args.volume.now (g.P.SectorView.space c.args.space.now) (c.requires.stands.stands tells) (c.requires.settled tells) (blocks_filled c.args.volume.now.catalog.file c.args.more) c.in_ok-run.run' c.take_run.new.map takes (c.requires.closed tells)

pub grow-requires-clause-stands : goal.grow-requires-clause-stands
grow-requires-clause-stands g c tells = (c.requires.stands.stands tells).trees.catalog.stands

pub grow-requires-clause-apart : goal.grow-requires-clause-apart
grow-requires-clause-apart g c tells =
    let takes = taken c.args.volume.now c.args.more c.count_blocks-blocks.result c.in_ok-run.run' c.take_run.new.map c.count_blocks-blocks.ensures c.in_ok-run.ensures.takes in
    grown_apart c.args.volume.now (g.P.SectorView.space c.args.space.now) (c.requires.stands.stands tells) (c.requires.settled tells) (blocks_filled c.args.volume.now.catalog.file c.args.more) c.in_ok-run.run' c.take_run.new.map takes

pub grow-requires-clause-whole : goal.grow-requires-clause-whole
grow-requires-clause-whole g c = whole_nodes c.args.more c.args.volume.now (g.P.SectorView.space c.args.space.now) c.requires.can c.in_ok-run.run' (c.in_ok-run.ensures.takes.many ∙ c.count_blocks-blocks.ensures)

pub grow-requires-clause-few : goal.grow-requires-clause-few
grow-requires-clause-few g c = few_nodes c.args.more c.args.volume.now (g.P.SectorView.space c.args.space.now) c.requires.can c.in_ok-run.run' (c.in_ok-run.ensures.takes.many ∙ c.count_blocks-blocks.ensures)

pub grow-requires-clause-room : goal.grow-requires-clause-room
grow-requires-clause-room g c = grow_room c.args.more c.args.volume.now (g.P.SectorView.space c.args.space.now) c.requires.can c.in_ok-run.run' (c.in_ok-run.ensures.takes.many ∙ c.count_blocks-blocks.ensures)

pub with_catalog-volume-requires-clause-blocks : goal.with_catalog-volume-requires-clause-blocks
with_catalog-volume-requires-clause-blocks g c = omega (arith, c.requires.can.blocks, c.in_ok-run.ensures.takes.many, c.count_blocks-blocks.ensures)

pub with_catalog-volume-requires-clause-bytes : goal.with_catalog-volume-requires-clause-bytes
with_catalog-volume-requires-clause-bytes g c =
    omega (arith, c.requires.can.bytes, ap (λ n. n * c.args.volume.now.header.block_size) (c.in_ok-run.ensures.takes.many ∙ c.count_blocks-blocks.ensures))

pub with_catalog-volume-requires-clause-free : goal.with_catalog-volume-requires-clause-free
with_catalog-volume-requires-clause-free g c = omega (arith, c.requires.can.counted, c.in_ok-run.ensures.takes.many, c.count_blocks-blocks.ensures)

-- ---- behind it

-- the volume that is made of another one with this header
abbrev made : Volume → BlockMap → TreeFile → VolumeHeader → Volume
made v map_ file head = record v { header = head; map = map_; catalog = record v.catalog { file = file } }

-- its header is that of the longer catalog
headed : (v : Volume) (run : Extent) (list slice fork : List Extent) (head : VolumeHeader) → head ≡ with_catalog run.count slice v.header → slice ≡ list → list ≡ fork → head ≡ with_catalog run.count fork v.header
headed v run list slice fork head is one two = is ∙ ap (λ l. with_catalog run.count l v.header) (one ∙ two)

pub returns-clause-but : goal.returns-clause-but
returns-clause-but g c =
    let v = c.args.volume.now in
    let a : Space = g.P.SectorView.space c.args.space.now in
    let b : Space = g.P.SectorView.space c.grow.new.space in
    let takes = taken v c.args.more c.count_blocks-blocks.result c.in_ok-run.run' c.take_run.new.map c.count_blocks-blocks.ensures c.in_ok-run.ensures.takes in
    let head = headed v c.in_ok-run.run' c.fork.result.now c.as_slice.result.now c.grow.new.self.fork c.with_catalog-volume.result c.with_catalog-volume.ensures.same c.as_slice.ensures c.fork.ensures in
    subst (λ h. StandsButOver catalog_id (made v c.take_run.new.map c.grow.new.self h) b) (sym head)
    (but_then c.args.more v a b c.requires.stands c.requires.settled c.requires.can c.requires.closed c.in_ok-run.run' c.take_run.new.map takes c.grow.new.self c.in_ok-grow.ensures.grown c.grow.ensures.frame)

pub returns-clause-lengthens : goal.returns-clause-lengthens
returns-clause-lengthens g c tells =
    let v = c.args.volume.now in
    let a : Space = g.P.SectorView.space c.args.space.now in
    let b : Space = g.P.SectorView.space c.grow.new.space in
    let takes = taken v c.args.more c.count_blocks-blocks.result c.in_ok-run.run' c.take_run.new.map c.count_blocks-blocks.ensures c.in_ok-run.ensures.takes in
    let head = headed v c.in_ok-run.run' c.fork.result.now c.as_slice.result.now c.grow.new.self.fork c.with_catalog-volume.result c.with_catalog-volume.ensures.same c.as_slice.ensures c.fork.ensures in
    subst (λ h. Lengthens c.args.more v (made v c.take_run.new.map c.grow.new.self h) a b) (sym head)
    (lengthens_then c.args.more v a b c.requires.stands c.requires.settled c.requires.can c.requires.closed c.in_ok-run.run' c.take_run.new.map takes c.grow.new.self c.in_ok-grow.ensures.grown c.grow.ensures.frame tells)

pub returns-clause-records : goal.returns-clause-records
returns-clause-records g c tells =
    let v = c.args.volume.now in
    let a : Space = g.P.SectorView.space c.args.space.now in
    let b : Space = g.P.SectorView.space c.grow.new.space in
    let takes = taken v c.args.more c.count_blocks-blocks.result c.in_ok-run.run' c.take_run.new.map c.count_blocks-blocks.ensures c.in_ok-run.ensures.takes in
    let head = headed v c.in_ok-run.run' c.fork.result.now c.as_slice.result.now c.grow.new.self.fork c.with_catalog-volume.result c.with_catalog-volume.ensures.same c.as_slice.ensures c.fork.ensures in
    subst (λ h. HasExtents (overflow_in_volume (lists_of (made v c.take_run.new.map c.grow.new.self h) b.content)) catalog_id data_kind v.catalog.file.fork) (sym head)
    (has_then c.args.more v a b c.requires.stands c.requires.settled c.requires.can c.requires.closed c.in_ok-run.run' c.take_run.new.map takes c.grow.new.self c.in_ok-grow.ensures.grown c.grow.ensures.frame tells)

pub returns-clause-extents : goal.returns-clause-extents
returns-clause-extents g c = refl

pub returns-in_err-run-clause-extents : goal.returns-in_err-run-clause-extents
returns-in_err-run-clause-extents g c = refl

pub returns-in_err-grow-clause-extents : goal.returns-in_err-grow-clause-extents
returns-in_err-grow-clause-extents g c = refl

pub returns-clause-held : goal.returns-clause-held
returns-clause-held g c = same_held c.count_blocks-blocks.result c.in_ok-run.run' c.args.volume.now.map c.take_run.new.map c.in_ok-run.ensures.takes

pub returns-clause-size : goal.returns-clause-size
returns-clause-size g c = same_length c.count_blocks-blocks.result c.in_ok-run.run' c.args.volume.now.map c.take_run.new.map c.in_ok-run.ensures.takes

pub returns-clause-still : goal.returns-clause-still
returns-clause-still g c k was = used_still c.count_blocks-blocks.result c.in_ok-run.run' c.args.volume.now.map c.take_run.new.map c.in_ok-run.ensures.takes k was

pub returns-clause-own : goal.returns-clause-own
returns-clause-own g c tells s has =
    let v = c.args.volume.now in
    let a : Space = g.P.SectorView.space c.args.space.now in
    let b : Space = g.P.SectorView.space c.grow.new.space in
    let takes = taken v c.args.more c.count_blocks-blocks.result c.in_ok-run.run' c.take_run.new.map c.count_blocks-blocks.ensures c.in_ok-run.ensures.takes in
    let head = headed v c.in_ok-run.run' c.fork.result.now c.as_slice.result.now c.grow.new.self.fork c.with_catalog-volume.result c.with_catalog-volume.ensures.same c.as_slice.ensures c.fork.ensures in
    subst (λ h. Contains (own_sectors (made v c.take_run.new.map c.grow.new.self h)) s) (sym head)
    (own_then c.args.more v a b c.requires.stands c.requires.settled c.requires.can c.requires.closed c.in_ok-run.run' c.take_run.new.map takes c.grow.new.self c.in_ok-grow.ensures.grown c.grow.ensures.frame tells s has)

pub returns-clause-gained : goal.returns-clause-gained
returns-clause-gained g c tells s has =
    let v = c.args.volume.now in
    let a : Space = g.P.SectorView.space c.args.space.now in
    let b : Space = g.P.SectorView.space c.grow.new.space in
    let takes = taken v c.args.more c.count_blocks-blocks.result c.in_ok-run.run' c.take_run.new.map c.count_blocks-blocks.ensures c.in_ok-run.ensures.takes in
    let head = headed v c.in_ok-run.run' c.fork.result.now c.as_slice.result.now c.grow.new.self.fork c.with_catalog-volume.result c.with_catalog-volume.ensures.same c.as_slice.ensures c.fork.ensures in
    gained_then c.args.more v a b c.requires.stands c.requires.settled c.requires.can c.requires.closed c.in_ok-run.run' c.take_run.new.map takes c.grow.new.self c.in_ok-grow.ensures.grown c.grow.ensures.frame tells s
    (subst (λ h. Contains (own_sectors (made v c.take_run.new.map c.grow.new.self h)) s) head has)

pub returns-clause-service : goal.returns-clause-service
returns-clause-service g c =
    let v = c.args.volume.now in
    let a : Space = g.P.SectorView.space c.args.space.now in
    let b : Space = g.P.SectorView.space c.grow.new.space in
    let takes = taken v c.args.more c.count_blocks-blocks.result c.in_ok-run.run' c.take_run.new.map c.count_blocks-blocks.ensures c.in_ok-run.ensures.takes in
    service_then c.args.more v a b c.requires.stands c.requires.settled c.requires.can c.requires.closed c.in_ok-run.run' c.take_run.new.map takes c.grow.new.self c.with_catalog-volume.result
    (c.with_catalog-volume.ensures.fits c.requires.stands.service.fits) (ap (λ h. h.block_size) c.with_catalog-volume.ensures.same) c.grow.ensures.node_size c.grow.ensures.inside c.grow.ensures.frame.same.sectors

pub returns-clause-touches : goal.returns-clause-touches
returns-clause-touches g c committed =
    let v = c.args.volume.now in
    let a : Space = g.P.SectorView.space c.args.space.now in
    let b : Space = g.P.SectorView.space c.grow.new.space in
    let takes = taken v c.args.more c.count_blocks-blocks.result c.in_ok-run.run' c.take_run.new.map c.count_blocks-blocks.ensures c.in_ok-run.ensures.takes in
    let head = headed v c.in_ok-run.run' c.fork.result.now c.as_slice.result.now c.grow.new.self.fork c.with_catalog-volume.result c.with_catalog-volume.ensures.same c.as_slice.ensures c.fork.ensures in
    subst (λ h. Touches committed (λ s. Contains (own_sectors (made v c.take_run.new.map c.grow.new.self h)) s) a b) (sym head)
    (touches_then c.args.more v a b c.requires.stands c.requires.settled c.requires.can c.requires.closed c.in_ok-run.run' c.take_run.new.map takes c.grow.new.self c.in_ok-grow.ensures.grown c.grow.ensures.frame committed)

pub returns-clause-spent : goal.returns-clause-spent
returns-clause-spent g c =
    let takes = taken c.args.volume.now c.args.more c.count_blocks-blocks.result c.in_ok-run.run' c.take_run.new.map c.count_blocks-blocks.ensures c.in_ok-run.ensures.takes in
    nodes_spent c.args.more c.args.volume.now (g.P.SectorView.space c.args.space.now) (g.P.SectorView.space c.grow.new.space) c.requires.stands c.requires.settled c.requires.can c.requires.closed c.in_ok-run.run' c.take_run.new.map takes c.grow.ensures.room

pub returns-clause-map : goal.returns-clause-map
returns-clause-map g c =
    let v = c.args.volume.now in
    let a : Space = g.P.SectorView.space c.args.space.now in
    let b : Space = g.P.SectorView.space c.grow.new.space in
    let takes = taken v c.args.more c.count_blocks-blocks.result c.in_ok-run.run' c.take_run.new.map c.count_blocks-blocks.ensures c.in_ok-run.ensures.takes in
    let head = headed v c.in_ok-run.run' c.fork.result.now c.as_slice.result.now c.grow.new.self.fork c.with_catalog-volume.result c.with_catalog-volume.ensures.same c.as_slice.ensures c.fork.ensures in
    subst (λ h. length (changed_sectors (made v c.take_run.new.map c.grow.new.self h)) ≤ run_load v (blocks_filled v.catalog.file c.args.more)) (sym head)
    (map_then c.args.more v a b c.requires.stands c.requires.settled c.requires.can c.requires.closed c.in_ok-run.run' c.take_run.new.map takes c.grow.new.self c.in_ok-grow.ensures.grown c.grow.ensures.frame)

-- ---- where no memory is found for the run

pub returns-in_err-run-clause-held : goal.returns-in_err-run-clause-held
returns-in_err-run-clause-held g c = ap (λ (m : BlockMap). m.held) c.in_err-run.ensures.same

pub returns-in_err-run-clause-size : goal.returns-in_err-run-clause-size
returns-in_err-run-clause-size g c = ap (λ (m : BlockMap). length m.used) c.in_err-run.ensures.same

pub returns-in_err-run-clause-still : goal.returns-in_err-run-clause-still
returns-in_err-run-clause-still g c k was = ap (λ (m : BlockMap). slice_index_or m.used k false) c.in_err-run.ensures.same ∙ was

pub returns-in_err-run-clause-own : goal.returns-in_err-run-clause-own
returns-in_err-run-clause-own g c tells s has = subst (λ (m : BlockMap). Contains (own_sectors (record c.args.volume.now { map = m })) s) (sym c.in_err-run.ensures.same) has

pub returns-in_err-run-clause-gained : goal.returns-in_err-run-clause-gained
returns-in_err-run-clause-gained g c tells s has = inl (subst (λ (m : BlockMap). Contains (own_sectors (record c.args.volume.now { map = m })) s) c.in_err-run.ensures.same has)

pub returns-in_err-run-clause-service : goal.returns-in_err-run-clause-service
returns-in_err-run-clause-service g c = subst (λ (m : BlockMap). IsInService (record c.args.volume.now { map = m }) (g.P.SectorView.space c.args.space.now)) (sym c.in_err-run.ensures.same) c.requires.stands.service

pub returns-in_err-run-clause-touches : goal.returns-in_err-run-clause-touches
returns-in_err-run-clause-touches g c committed = touches_none committed (λ s. Contains (own_sectors (record c.args.volume.now { map = c.take_run.new.map })) s) (g.P.SectorView.space c.args.space.now)

-- ---- where the file couldn't grow

pub returns-in_err-grow-clause-size : goal.returns-in_err-grow-clause-size
returns-in_err-grow-clause-size g c = same_length c.count_blocks-blocks.result c.in_ok-run.run' c.args.volume.now.map c.take_run.new.map c.in_ok-run.ensures.takes

pub returns-in_err-grow-clause-held : goal.returns-in_err-grow-clause-held
returns-in_err-grow-clause-held g c = same_held c.count_blocks-blocks.result c.in_ok-run.run' c.args.volume.now.map c.take_run.new.map c.in_ok-run.ensures.takes

pub returns-in_err-grow-clause-still : goal.returns-in_err-grow-clause-still
returns-in_err-grow-clause-still g c k was = used_still c.count_blocks-blocks.result c.in_ok-run.run' c.args.volume.now.map c.take_run.new.map c.in_ok-run.ensures.takes k was

pub returns-in_err-grow-clause-own : goal.returns-in_err-grow-clause-own
returns-in_err-grow-clause-own g c tells s has =
    let takes = taken c.args.volume.now c.args.more c.count_blocks-blocks.result c.in_ok-run.run' c.take_run.new.map c.count_blocks-blocks.ensures c.in_ok-run.ensures.takes in
    subst (λ (l : List ℕ). Contains l s) (sym (own_failed c.args.more c.args.volume.now (g.P.SectorView.space c.args.space.now) (g.P.SectorView.space c.grow.new.space) c.requires.stands c.requires.settled c.requires.can c.requires.closed c.in_ok-run.run' c.take_run.new.map takes c.grow.new.self c.in_err-grow.ensures.failed)) has

pub returns-in_err-grow-clause-gained : goal.returns-in_err-grow-clause-gained
returns-in_err-grow-clause-gained g c tells s has =
    let takes = taken c.args.volume.now c.args.more c.count_blocks-blocks.result c.in_ok-run.run' c.take_run.new.map c.count_blocks-blocks.ensures c.in_ok-run.ensures.takes in
    inl (subst (λ (l : List ℕ). Contains l s) (own_failed c.args.more c.args.volume.now (g.P.SectorView.space c.args.space.now) (g.P.SectorView.space c.grow.new.space) c.requires.stands c.requires.settled c.requires.can c.requires.closed c.in_ok-run.run' c.take_run.new.map takes c.grow.new.self c.in_err-grow.ensures.failed) has)

pub returns-in_err-grow-clause-service : goal.returns-in_err-grow-clause-service
returns-in_err-grow-clause-service g c =
    let takes = taken c.args.volume.now c.args.more c.count_blocks-blocks.result c.in_ok-run.run' c.take_run.new.map c.count_blocks-blocks.ensures c.in_ok-run.ensures.takes in
    service_then c.args.more c.args.volume.now (g.P.SectorView.space c.args.space.now) (g.P.SectorView.space c.grow.new.space) c.requires.stands c.requires.settled c.requires.can c.requires.closed c.in_ok-run.run' c.take_run.new.map takes c.grow.new.self c.args.volume.now.header
    c.requires.stands.service.fits refl c.grow.ensures.node_size c.grow.ensures.inside c.grow.ensures.frame.same.sectors

pub returns-in_err-grow-clause-touches : goal.returns-in_err-grow-clause-touches
returns-in_err-grow-clause-touches g c committed =
    touches_reading committed (λ s. Contains (own_sectors (record c.args.volume.now { map = c.take_run.new.map; catalog = record c.args.volume.now.catalog { file = c.grow.new.self } })) s) (g.P.SectorView.space c.args.space.now) (g.P.SectorView.space c.grow.new.space) c.in_err-grow.ensures.reads

pub returns-in_err-grow-clause-spent : goal.returns-in_err-grow-clause-spent
returns-in_err-grow-clause-spent g c =
    let takes = taken c.args.volume.now c.args.more c.count_blocks-blocks.result c.in_ok-run.run' c.take_run.new.map c.count_blocks-blocks.ensures c.in_ok-run.ensures.takes in
    nodes_spent c.args.more c.args.volume.now (g.P.SectorView.space c.args.space.now) (g.P.SectorView.space c.grow.new.space) c.requires.stands c.requires.settled c.requires.can c.requires.closed c.in_ok-run.run' c.take_run.new.map takes c.grow.ensures.room

-- ---- answers, and the reader's order

pub returns-clause-below : goal.returns-clause-below
returns-clause-below g c = c.grow.ensures.below

pub returns-clause-cause : goal.returns-clause-cause
returns-clause-cause g c = record { later = c.grow.ensures.frame.faults; failed = tt }

pub returns-in_err-run-clause-below : goal.returns-in_err-run-clause-below
returns-in_err-run-clause-below g c = g.met.P.SectorView.follows_refl c.args.space.now

pub returns-in_err-run-clause-cause : goal.returns-in_err-run-clause-cause
returns-in_err-run-clause-cause g c =
    let p = err_from_is_err_and c.from_residual.result c.from_residual.ensures.1 in
    subst (λ (r : Result (Unit {0}) Trouble). HasTroubleCause (g.P.SectorView.space c.args.space.now).faults (g.P.SectorView.space c.args.space.now).faults r) (sym (p.1 ∙ ap Err p.2)) (record { later = omega arith; failed = tt })

pub returns-in_err-grow-clause-below : goal.returns-in_err-grow-clause-below
returns-in_err-grow-clause-below g c = c.grow.ensures.below

pub returns-in_err-grow-clause-cause : goal.returns-in_err-grow-clause-cause
returns-in_err-grow-clause-cause g c =
    let p = err_from_is_err_and c.from_residual-in_err-grow.result c.from_residual-in_err-grow.ensures.1 in
    cause_of (g.P.SectorView.space c.args.space.now).faults (g.P.SectorView.space c.grow.new.space).faults c.from_residual-in_err-grow.result c.in_err-grow.field-0.0 p.0 p.1 p.2 c.grow.ensures.frame.faults c.in_err-grow.ensures.disk

pub returns-in_err-run-clause-but : goal.returns-in_err-run-clause-but
returns-in_err-run-clause-but g c = let p = err_from_is_err_and c.from_residual.result c.from_residual.ensures.1 in off_ok _ c.from_residual.result p.0 p.1

pub returns-in_err-grow-clause-but : goal.returns-in_err-grow-clause-but
returns-in_err-grow-clause-but g c = let p = err_from_is_err_and c.from_residual-in_err-grow.result c.from_residual-in_err-grow.ensures.1 in off_ok _ c.from_residual-in_err-grow.result p.0 p.1

pub returns-in_err-run-clause-lengthens : goal.returns-in_err-run-clause-lengthens
returns-in_err-run-clause-lengthens g c tells = let p = err_from_is_err_and c.from_residual.result c.from_residual.ensures.1 in off_ok _ c.from_residual.result p.0 p.1

pub returns-in_err-grow-clause-lengthens : goal.returns-in_err-grow-clause-lengthens
returns-in_err-grow-clause-lengthens g c tells = let p = err_from_is_err_and c.from_residual-in_err-grow.result c.from_residual-in_err-grow.ensures.1 in off_ok _ c.from_residual-in_err-grow.result p.0 p.1

pub returns-in_err-run-clause-records : goal.returns-in_err-run-clause-records
returns-in_err-run-clause-records g c tells = let p = err_from_is_err_and c.from_residual.result c.from_residual.ensures.1 in off_ok _ c.from_residual.result p.0 p.1

pub returns-in_err-grow-clause-records : goal.returns-in_err-grow-clause-records
returns-in_err-grow-clause-records g c tells = let p = err_from_is_err_and c.from_residual-in_err-grow.result c.from_residual-in_err-grow.ensures.1 in off_ok _ c.from_residual-in_err-grow.result p.0 p.1

pub returns-in_err-run-clause-map : goal.returns-in_err-run-clause-map
returns-in_err-run-clause-map g c = let p = err_from_is_err_and c.from_residual.result c.from_residual.ensures.1 in off_ok _ c.from_residual.result p.0 p.1

pub returns-in_err-grow-clause-map : goal.returns-in_err-grow-clause-map
returns-in_err-grow-clause-map g c = let p = err_from_is_err_and c.from_residual-in_err-grow.result c.from_residual-in_err-grow.ensures.1 in off_ok _ c.from_residual-in_err-grow.result p.0 p.1

pub returns-clause-same : goal.returns-clause-same
returns-clause-same g c = (refl, refl, refl)

pub returns-in_err-run-clause-same : goal.returns-in_err-run-clause-same
returns-in_err-run-clause-same g c = (refl, refl, refl)

pub returns-in_err-grow-clause-same : goal.returns-in_err-grow-clause-same
returns-in_err-grow-clause-same g c = (refl, refl, refl)

pub returns-in_err-run-clause-spent : goal.returns-in_err-run-clause-spent
returns-in_err-run-clause-spent g c = omega arith
