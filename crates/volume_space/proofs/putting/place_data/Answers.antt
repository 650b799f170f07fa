use Rattle.std.proofs.Common.{◌≡◌, ◌≤◌, ℕ, ◌+◌, ◌*◌, ◌/◌, List, [], length, refl, sym, ◌∙◌, ap, subst, arith}
use Rattle.std.specs.Prelude.{Contains}
use Rattle.std.proofs.lemmas.Result.{err_from_is_err_and}
use Rattle.btree_node.specs.Levels.{Pair}
use Rattle.catalog.specs.Entries.{IsOfKind}
use Rattle.catalog.specs.Pairs.{value_at}
use Rattle.cat_records.specs.declared.record.CatRecord.{CatRecord}
use Rattle.cat_records.specs.declared.record.CatRecord.TheVariants.{File}
use Rattle.cat_records.specs.declared.record.FileRecord.{FileRecord}
use Rattle.volume_base.specs.declared.forks.ForkKind.{ForkKind}
use Rattle.volume_base.specs.declared.forks.ForkKind.TheVariants as kinds
use Rattle.sector_disk.proofs.SpaceLaws.{space_both}
use Rattle.hfs_volume.specs.Content.{VolumeState, overflow_in_volume}
use Rattle.hfs_volume.specs.Cost.{overflow_records}
use Rattle.hfs_volume.specs.Entries.{AreSpelled}
use Rattle.volume_base.specs.Changing.{catalog_node}
use Rattle.volume_base.specs.Lists.{lists_of}
use Rattle.volume_base.specs.Touching.{Touches}
use Rattle.volume_space.specs.Recording.{records_in}
use Rattle.volume_space.specs.Writing.{IsSureToPut, blocks_put, fork_with, record_with}
use Rattle.volume_base.specs.declared.volume.Volume.{Volume}
use Rattle.volume_base.proofs.Commanding.{touches_both}
use Rattle.volume_base.proofs.FoundEntry.{settled_spelled}
use Rattle.volume_space.proofs.PutLoads.{shape_load}
use Rattle.volume_space.proofs.PutPlaced.{placed_at, stands_free}
use Rattle.volume_base.proofs.Seeing.{cause_on}
use Rattle.volume_space.proofs.Spilled.{may_spill}
use Rattle.volume_space.proofs.Spreads.{told_extents}
use Rattle.volume_base.specs.Cutting.{fork_at, kind_of}
use Rattle.hx_bytes.specs.declared.extents.ForkRecord.{ForkRecord}
use Rattle.alloc_bitmap.specs.Map.{free_of}
use Rattle.flag_rows.specs.Bits.{count_set}
use Rattle.file_io.specs.Bytes.{HoldZeros, sectors_in}
use Rattle.file_io.specs.Places.{first_block, fresh_of, given, middle, old_end, taken, zero_blocks, zeros_at}
use Rattle.overflow.specs.Reading.{HasExtents}
use Rattle.volume_space.specs.Spreading.{SpreadsExtents}
use Rattle.volume_space.proofs.putting.place_data.Goals as goal

pub spill-requires-clause-may_spill : goal.spill-requires-clause-may_spill
spill-requires-clause-may_spill g c = may_spill c.args.volume.now (g.P.SectorView.space c.args.space.now) c.requires.stands c.requires.settled c.requires.closed (omega (arith, c.requires.sure.block.least)) c.requires.sure.fits c.requires.sure.header

pub spill-requires-clause-holds_size : goal.spill-requires-clause-holds_size
spill-requires-clause-holds_size g c = (subst (λ (f : ForkRecord). IsSureToPut c.args.list.now f.logical_size c.args.volume.now (g.P.SectorView.space c.args.space.now)) (sym c.fork_of-fork.ensures) c.requires.sure).holds

pub spill-requires-clause-free : goal.spill-requires-clause-free
spill-requires-clause-free g c = subst (λ (f : ForkRecord). blocks_put c.args.volume.now f.logical_size c.args.from (length c.args.value.now) ≤ count_set (free_of c.args.volume.now.map)) (sym c.fork_of-fork.ensures) c.requires.free

pub spill-requires-clause-few_zeros : goal.spill-requires-clause-few_zeros
spill-requires-clause-few_zeros g c = subst (λ (f : ForkRecord). c.args.zeroed ≤ zero_blocks c.args.volume.now.header.block_size f.logical_size (c.args.from / c.args.volume.now.header.block_size)) (sym c.fork_of-fork.ensures) c.requires.few_zeros

pub spill-requires-clause-zeros : goal.spill-requires-clause-zeros
spill-requires-clause-zeros g c tells =
    subst (λ (f : ForkRecord). HoldZeros (g.P.SectorView.space c.args.space.now).content (sectors_in c.args.volume.now.header.block_size (fresh_of c.args.volume.now.map (blocks_put c.args.volume.now f.logical_size c.args.from (length c.args.value.now)))) (zeros_at c.args.volume.now.header.block_size f.logical_size c.args.from (c.args.from + length c.args.value.now) * (c.args.volume.now.header.block_size / 512)) (c.args.zeroed * (c.args.volume.now.header.block_size / 512)))
    (sym c.fork_of-fork.ensures) (c.requires.zeros tells)

pub returns-in_err-later-clause-cause : goal.returns-in_err-later-clause-cause
returns-in_err-later-clause-cause g c =
    let p = err_from_is_err_and c.from_residual.result c.from_residual.ensures.1 in
    cause_on c.in_err-later.field-0.0 p.0 (g.P.SectorView.space c.args.space.now).faults (g.P.SectorView.space c.args.space.now).faults (g.P.SectorView.space c.spill.new.space).faults c.from_residual.result p.1 p.2 (omega arith) c.in_err-later.ensures.cause

pub returns-in_err-store_later-clause-commit : goal.returns-in_err-store_later-clause-commit
returns-in_err-store_later-clause-commit g c committed holds alike =
    touches_both committed _ (g.P.SectorView.space c.args.space.now) (g.P.SectorView.space c.spill.new.space) (g.P.SectorView.space c.store_later.new.space) (c.spill.ensures.commit committed holds alike)
    (subst (λ (l : List ℕ). Touches committed (λ s. Contains l s) (g.P.SectorView.space c.spill.new.space) (g.P.SectorView.space c.store_later.new.space)) c.spill.ensures.own (c.store_later.ensures.touches committed))

pub returns-in_err-store_later-clause-spent : goal.returns-in_err-store_later-clause-spent
returns-in_err-store_later-clause-spent g c tells = omega (arith, c.spill.ensures.room.spare, c.store_later.ensures.spent (c.spill.ensures.same.tells ∙ tells), shape_load c.args.volume.now c.spill.new.volume c.spill.ensures.rest (c.args.records + overflow_records c.args.most))

pub returns-in_err-store_later-clause-space : goal.returns-in_err-store_later-clause-space
returns-in_err-store_later-clause-space g c = space_both (g.P.SectorView.space c.args.space.now) (g.P.SectorView.space c.spill.new.space) (g.P.SectorView.space c.store_later.new.space) c.spill.ensures.same (c.store_later.ensures.touches []).same

pub returns-in_err-store_later-clause-below : goal.returns-in_err-store_later-clause-below
returns-in_err-store_later-clause-below g c = g.met.P.SectorView.follows_trans c.args.space.now c.spill.new.space c.store_later.new.space c.spill.ensures.below c.store_later.ensures.below

pub returns-in_err-store_later-clause-own : goal.returns-in_err-store_later-clause-own
returns-in_err-store_later-clause-own g c = c.store_later.ensures.own ∙ c.spill.ensures.own

pub returns-then-not-fits_update-clause-commit : goal.returns-then-not-fits_update-clause-commit
returns-then-not-fits_update-clause-commit g c committed holds alike =
    touches_both committed _ (g.P.SectorView.space c.args.space.now) (g.P.SectorView.space c.spill.new.space) (g.P.SectorView.space c.store_later.new.space) (c.spill.ensures.commit committed holds alike)
    (subst (λ (l : List ℕ). Touches committed (λ s. Contains l s) (g.P.SectorView.space c.spill.new.space) (g.P.SectorView.space c.store_later.new.space)) c.spill.ensures.own (c.store_later.ensures.touches committed))

pub returns-then-not-fits_update-clause-spent : goal.returns-then-not-fits_update-clause-spent
returns-then-not-fits_update-clause-spent g c tells = omega (arith, c.spill.ensures.room.spare, c.store_later.ensures.spent (c.spill.ensures.same.tells ∙ tells), shape_load c.args.volume.now c.spill.new.volume c.spill.ensures.rest (c.args.records + overflow_records c.args.most))

pub returns-then-not-fits_update-clause-space : goal.returns-then-not-fits_update-clause-space
returns-then-not-fits_update-clause-space g c = space_both (g.P.SectorView.space c.args.space.now) (g.P.SectorView.space c.spill.new.space) (g.P.SectorView.space c.store_later.new.space) c.spill.ensures.same (c.store_later.ensures.touches []).same

pub returns-then-not-fits_update-clause-below : goal.returns-then-not-fits_update-clause-below
returns-then-not-fits_update-clause-below g c = g.met.P.SectorView.follows_trans c.args.space.now c.spill.new.space c.store_later.new.space c.spill.ensures.below c.store_later.ensures.below

pub returns-then-not-fits_update-clause-own : goal.returns-then-not-fits_update-clause-own
returns-then-not-fits_update-clause-own g c = c.store_later.ensures.own ∙ c.spill.ensures.own

pub returns-then-not-fits_update-clause-cause : goal.returns-then-not-fits_update-clause-cause
returns-then-not-fits_update-clause-cause g c = record { later = omega (arith, c.spill.ensures.cause.later, c.store_later.ensures.cause.later); failed = tt }

pub store_later-requires-clause-has : goal.store_later-requires-clause-has
store_later-requires-clause-has g c told =
    let tells = sym c.spill.ensures.same.tells ∙ told in
    subst (λ n. HasExtents (overflow_in_volume (lists_of c.spill.new.volume (g.P.SectorView.space c.spill.new.space).content)) c.args.file.now.fields.id n c.args.list.now) (sym c.number_of.ensures.same)
    (told_extents c.args.volume.now (g.P.SectorView.space c.args.space.now).content (c.requires.settled tells) c.args.kind c.args.file.now c.requires.fits c.args.list.now (c.requires.told tells) (overflow_in_volume (lists_of c.spill.new.volume (g.P.SectorView.space c.spill.new.space).content))
    (ap (λ (l : VolumeState). overflow_in_volume l) (c.in_ok-later.ensures.lists tells) ∙ sym (ap (λ (l : VolumeState). overflow_in_volume l) (c.requires.settled tells).lists)))

pub store_later-requires-clause-counted : goal.store_later-requires-clause-counted
store_later-requires-clause-counted g c told =
    let tells = sym c.spill.ensures.same.tells ∙ told in
    c.requires.counted tells ∙ sym (ap (λ (l : VolumeState). records_in (kind_of c.args.kind) l c.args.file.now.fields.id) (c.in_ok-later.ensures.lists tells)) ∙ ap (λ n. records_in n (lists_of c.spill.new.volume (g.P.SectorView.space c.spill.new.space).content) c.args.file.now.fields.id) (sym c.number_of.ensures.same)

-- the record of a file with another fork has its CNID
id_stays : (kind : ForkKind) (moment : ℕ) (fork : ForkRecord) (file : FileRecord) → (record_with (kind_of kind) moment fork file).fields.id ≡ file.fields.id
id_stays kinds.Data moment fork file = refl
id_stays kinds.Resource moment fork file = refl

pub replace-requires-clause-same_kind : goal.replace-requires-clause-same_kind
replace-requires-clause-same_kind g c =
    subst (λ (r : CatRecord). IsOfKind (File c.with_data-rec.result) r) (sym c.requires.kind) (record {
      folder = refl;
      file = refl;
      id = ap (λ (f : FileRecord). f.fields.id) c.with_data-rec.ensures.same ∙ id_stays c.args.kind _ _ c.args.file.now;
    })

pub replace-requires-clause-ready : goal.replace-requires-clause-ready
replace-requires-clause-ready g c = record {
  stands = c.in_ok-store_later.ensures.stands;
  spelled = λ told.
      let between = sym (c.store_later.ensures.touches []).same.tells ∙ told in
      let tells = sym c.spill.ensures.same.tells ∙ between in
      subst (λ (ps : List Pair). AreSpelled ps) (sym (ap (λ (l : VolumeState). l.catalog_pairs) (c.in_ok-store_later.ensures.spreads between).lists ∙ ap (λ (l : VolumeState). l.catalog_pairs) (c.in_ok-later.ensures.lists tells))) (settled_spelled c.args.volume.now (g.P.SectorView.space c.args.space.now).content (c.requires.settled tells));
  name = c.requires.name;
  there = λ told.
      let between = sym (c.store_later.ensures.touches []).same.tells ∙ told in
      let tells = sym c.spill.ensures.same.tells ∙ between in
      ap (λ (l : VolumeState). value_at l.catalog_pairs c.args.entry.now.parent c.args.entry.now.name) (c.in_ok-store_later.ensures.spreads between).lists
      ∙ ap (λ (l : VolumeState). value_at l.catalog_pairs c.args.entry.now.parent c.args.entry.now.name) (c.in_ok-later.ensures.lists tells) ∙ c.requires.there tells;
  room = c.fits_update.ensures.room c.if-not-fits_update.false;
}

pub returns-in_err-replace-clause-commit : goal.returns-in_err-replace-clause-commit
returns-in_err-replace-clause-commit g c committed holds alike =
    touches_both committed _ (g.P.SectorView.space c.args.space.now) (g.P.SectorView.space c.spill.new.space) (g.P.SectorView.space c.replace.new.space) (c.spill.ensures.commit committed holds alike)
    (subst (λ (l : List ℕ). Touches committed (λ s. Contains l s) (g.P.SectorView.space c.spill.new.space) (g.P.SectorView.space c.replace.new.space)) c.spill.ensures.own (touches_both committed _ (g.P.SectorView.space c.spill.new.space) (g.P.SectorView.space c.store_later.new.space) (g.P.SectorView.space c.replace.new.space) (c.store_later.ensures.touches committed)
    (subst (λ (l : List ℕ). Touches committed (λ s. Contains l s) (g.P.SectorView.space c.store_later.new.space) (g.P.SectorView.space c.replace.new.space)) c.store_later.ensures.own (c.replace.ensures.edits.ran.touches committed))))

pub returns-in_err-replace-clause-spent : goal.returns-in_err-replace-clause-spent
returns-in_err-replace-clause-spent g c tells =
    let between = (c.store_later.ensures.touches []).same.tells ∙ c.spill.ensures.same.tells ∙ tells in
    omega (arith, c.spill.ensures.room.spare, c.store_later.ensures.spent (c.spill.ensures.same.tells ∙ tells), shape_load c.args.volume.now c.spill.new.volume c.spill.ensures.rest (c.args.records + overflow_records c.args.most), c.replace.ensures.edits.ran.spent between, ap (λ (x : Volume). catalog_node x) c.store_later.ensures.rest, ap (λ (x : Volume). catalog_node x) c.spill.ensures.rest)

pub returns-in_err-replace-clause-space : goal.returns-in_err-replace-clause-space
returns-in_err-replace-clause-space g c = space_both (g.P.SectorView.space c.args.space.now) (g.P.SectorView.space c.store_later.new.space) (g.P.SectorView.space c.replace.new.space) (space_both (g.P.SectorView.space c.args.space.now) (g.P.SectorView.space c.spill.new.space) (g.P.SectorView.space c.store_later.new.space) c.spill.ensures.same (c.store_later.ensures.touches []).same) (c.replace.ensures.edits.ran.touches []).same

pub returns-in_err-replace-clause-below : goal.returns-in_err-replace-clause-below
returns-in_err-replace-clause-below g c = g.met.P.SectorView.follows_trans c.args.space.now c.store_later.new.space c.replace.new.space (g.met.P.SectorView.follows_trans c.args.space.now c.spill.new.space c.store_later.new.space c.spill.ensures.below c.store_later.ensures.below) c.replace.ensures.edits.ran.below

pub returns-clause-commit : goal.returns-clause-commit
returns-clause-commit g c committed holds alike =
    touches_both committed _ (g.P.SectorView.space c.args.space.now) (g.P.SectorView.space c.spill.new.space) (g.P.SectorView.space c.replace.new.space) (c.spill.ensures.commit committed holds alike)
    (subst (λ (l : List ℕ). Touches committed (λ s. Contains l s) (g.P.SectorView.space c.spill.new.space) (g.P.SectorView.space c.replace.new.space)) c.spill.ensures.own (touches_both committed _ (g.P.SectorView.space c.spill.new.space) (g.P.SectorView.space c.store_later.new.space) (g.P.SectorView.space c.replace.new.space) (c.store_later.ensures.touches committed)
    (subst (λ (l : List ℕ). Touches committed (λ s. Contains l s) (g.P.SectorView.space c.store_later.new.space) (g.P.SectorView.space c.replace.new.space)) c.store_later.ensures.own (c.replace.ensures.edits.ran.touches committed))))

pub returns-clause-spent : goal.returns-clause-spent
returns-clause-spent g c tells =
    let between = (c.store_later.ensures.touches []).same.tells ∙ c.spill.ensures.same.tells ∙ tells in
    omega (arith, c.spill.ensures.room.spare, c.store_later.ensures.spent (c.spill.ensures.same.tells ∙ tells), shape_load c.args.volume.now c.spill.new.volume c.spill.ensures.rest (c.args.records + overflow_records c.args.most), c.replace.ensures.edits.ran.spent between, ap (λ (x : Volume). catalog_node x) c.store_later.ensures.rest, ap (λ (x : Volume). catalog_node x) c.spill.ensures.rest)

pub returns-clause-space : goal.returns-clause-space
returns-clause-space g c = space_both (g.P.SectorView.space c.args.space.now) (g.P.SectorView.space c.store_later.new.space) (g.P.SectorView.space c.replace.new.space) (space_both (g.P.SectorView.space c.args.space.now) (g.P.SectorView.space c.spill.new.space) (g.P.SectorView.space c.store_later.new.space) c.spill.ensures.same (c.store_later.ensures.touches []).same) (c.replace.ensures.edits.ran.touches []).same

pub returns-clause-below : goal.returns-clause-below
returns-clause-below g c = g.met.P.SectorView.follows_trans c.args.space.now c.store_later.new.space c.replace.new.space (g.met.P.SectorView.follows_trans c.args.space.now c.spill.new.space c.store_later.new.space c.spill.ensures.below c.store_later.ensures.below) c.replace.ensures.edits.ran.below

pub returns-in_err-store_later-clause-cause : goal.returns-in_err-store_later-clause-cause
returns-in_err-store_later-clause-cause g c =
    let p = err_from_is_err_and c.from_residual-in_err-store_later.result c.from_residual-in_err-store_later.ensures.1 in
    cause_on c.in_err-store_later.field-0.0 p.0 (g.P.SectorView.space c.args.space.now).faults (g.P.SectorView.space c.spill.new.space).faults (g.P.SectorView.space c.store_later.new.space).faults c.from_residual-in_err-store_later.result p.1 p.2 c.spill.ensures.cause.later c.in_err-store_later.ensures.cause

pub returns-in_err-replace-clause-cause : goal.returns-in_err-replace-clause-cause
returns-in_err-replace-clause-cause g c =
    let p = err_from_is_err_and c.from_residual-in_err-replace.result c.from_residual-in_err-replace.ensures.1 in
    cause_on c.in_err-replace.field-0.0 p.0 (g.P.SectorView.space c.args.space.now).faults (g.P.SectorView.space c.store_later.new.space).faults (g.P.SectorView.space c.replace.new.space).faults c.from_residual-in_err-replace.result p.1 p.2 (omega (arith, c.spill.ensures.cause.later, c.store_later.ensures.cause.later)) c.in_err-replace.ensures.edits.ran.cause

pub returns-clause-cause : goal.returns-clause-cause
returns-clause-cause g c = record { later = omega (arith, c.spill.ensures.cause.later, c.store_later.ensures.cause.later, c.replace.ensures.edits.ran.cause.later); failed = tt }

pub returns-clause-stands : goal.returns-clause-stands
returns-clause-stands g c = stands_free c.args.free c.replace.new.self (g.P.SectorView.space c.replace.new.space) c.ranges.free.fits c.in_ok-replace.ensures.edits.ran.stands

pub returns-clause-places : goal.returns-clause-places
returns-clause-places g c tells =
    let between = c.spill.ensures.same.tells ∙ tells in
    placed_at (kind_of c.args.kind) c.args.entry.now c.args.file.now c.args.list.now c.args.from c.args.value.now c.args.total c.args.free c.args.volume.now (g.P.SectorView.space c.args.space.now).content (g.P.SectorView.space c.spill.new.space).content (g.P.SectorView.space c.store_later.new.space).content (g.P.SectorView.space c.replace.new.space).content
    c.spill.new.volume c.store_later.new.volume c.replace.new.self c.in_ok-later.later c.with_data-rec.result
    c.fork_of-fork.result.logical_size (ap (λ (f : ForkRecord). f.logical_size) c.fork_of-fork.ensures)
    c.in_ok-later.ensures.blocks (c.in_ok-later.ensures.bytes tells) c.in_ok-later.ensures.map c.spill.ensures.keeps (c.spill.ensures.touches tells).content (c.in_ok-later.ensures.lists tells) c.spill.ensures.rest
    c.store_later.ensures.rest (subst (λ n. SpreadsExtents c.args.file.now.fields.id n c.in_ok-later.later c.spill.new.volume c.store_later.new.volume (g.P.SectorView.space c.spill.new.space).content (g.P.SectorView.space c.store_later.new.space).content) c.number_of.ensures.same (c.in_ok-store_later.ensures.spreads between)) c.replace.ensures.rest
    (c.in_ok-replace.ensures.replaces ((c.store_later.ensures.touches []).same.tells ∙ between))
    (c.with_data-rec.ensures.fits c.requires.fits)
    (c.with_data-rec.ensures.same ∙ (λ i. record_with (kind_of c.args.kind) c.args.volume.now.header.modify_date (fork_with (c.max-long.ensures i) c.args.total (c.as_slice.ensures i) (fork_at (kind_of c.args.kind) c.args.file.now)) c.args.file.now))

pub returns-clause-map : goal.returns-clause-map
returns-clause-map g c = ap (λ (x : Volume). x.map) c.replace.ensures.rest ∙ ap (λ (x : Volume). x.map) c.store_later.ensures.rest ∙ subst (λ (f : ForkRecord). c.spill.new.volume.map ≡ given (middle (first_block c.args.volume.now.header.block_size f.logical_size c.args.from) (old_end c.args.volume.now.header.block_size f.logical_size (c.args.from + length c.args.value.now)) c.args.list.now) (taken (blocks_put c.args.volume.now f.logical_size c.args.from (length c.args.value.now)) c.args.volume.now.map)) c.fork_of-fork.ensures (c.in_ok-later.ensures.map c.requires.sure.apart)

pub returns-clause-growth : goal.returns-clause-growth
returns-clause-growth g c = ap (λ (x : Volume). x.filling) c.replace.ensures.rest ∙ ap (λ (x : Volume). x.filling) c.store_later.ensures.rest ∙ ap (λ (x : Volume). x.filling) c.spill.ensures.rest
