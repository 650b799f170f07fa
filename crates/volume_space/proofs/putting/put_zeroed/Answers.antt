use Rattle.std.proofs.Common.{◌≡◌, inl, ℕ, ◌+◌, ◌-◌, not, List, length, refl, sym, ◌∙◌, ap, subst, arith}
use Rattle.std.specs.Prelude.{Contains, IfSome, Option, Some}
use Rattle.std.proofs.lemmas.List.Sums.{count_by-le-length}
use Rattle.hx_bytes.specs.declared.extents.ForkRecord.{ForkRecord}
use Rattle.cat_records.specs.declared.record.CatRecord.{CatRecord}
use Rattle.sector_disk.proofs.SpaceLaws.{space_both}
use Rattle.flag_rows.specs.Runs.{fewest_of}
use Rattle.alloc_bitmap.specs.Map.{free_of}
use Rattle.file_io.specs.Places.{first_block, middle, old_end}
use Rattle.hfs_volume.specs.Weight.{free_runs}
use Rattle.volume_base.specs.Mapping.{changed_sectors}
use Rattle.volume_base.specs.Standing.{map_sectors, own_sectors}
use Rattle.volume_base.specs.Touching.{Touches}
use Rattle.volume_space.specs.Writing.{IsSureToPut, blocks_put, most_extents}
use Rattle.volume_space.specs.declared.putting.Sums.{Sums}
use Rattle.volume_base.proofs.Commanding.{touches_both}
use Rattle.volume_space.proofs.PutHeld.{holds_put}
use Rattle.volume_space.proofs.PutLoads.{most_load}
use Rattle.volume_space.proofs.PutOver.{bits_are, changed_few, map_own, old_fits, still_unchanged}
use Rattle.volume_space.proofs.PutStages.{value_put}
use Rattle.volume_base.proofs.Touched.{touches_header, touches_within}
use Rattle.volume_base.specs.Cutting.{fork_at, kind_of}
use Rattle.volume_space.proofs.putting.put_zeroed.Goals as goal

pub count_blocks-counts-requires : goal.count_blocks-counts-requires
count_blocks-counts-requires g c = omega (arith, c.requires.stands.service.least)

pub place_data-requires-clause-sure : goal.place_data-requires-clause-sure
place_data-requires-clause-sure g c = subst (λ (f : ForkRecord). IsSureToPut c.args.list.now f.logical_size c.args.volume.now (g.P.SectorView.space c.args.space.now)) c.fork_of-fork.ensures (c.is_sure.ensures c.if-not-is_sure.false)

pub put_map-requires-clause-stands : goal.put_map-requires-clause-stands
put_map-requires-clause-stands g c = c.in_ok-place_data.ensures.stands

pub put_map-requires-clause-room : goal.put_map-requires-clause-room
put_map-requires-clause-room g c =
    omega (
      arith,
      count_by-le-length (λ (s : ℕ). not ((g.P.SectorView.space c.place_data.new.space).put s)) (changed_sectors c.place_data.new.volume),
      changed_few c.args.volume.now c.place_data.new.volume (g.P.SectorView.space c.args.space.now) (fork_at (kind_of c.args.kind) c.args.file.now).logical_size c.args.from (length c.args.value.now) c.args.list.now (subst (λ (f : ForkRecord). IsSureToPut c.args.list.now f.logical_size c.args.volume.now (g.P.SectorView.space c.args.space.now)) c.fork_of-fork.ensures (c.is_sure.ensures c.if-not-is_sure.false)) c.requires.some c.requires.free c.requires.unchanged c.in_ok-place_data.ensures.map,
      bits_are c.args.volume.now c.count_blocks-counts.result.fresh c.count_blocks-counts.result.freed _ _ c.count_bits-bits.result (c.count_blocks-counts.ensures.fresh ∙ ap (λ (f : ForkRecord). blocks_put c.args.volume.now f.logical_size c.args.from (length c.args.value.now)) c.fork_of-fork.ensures) (c.count_blocks-counts.ensures.freed ∙ ap (λ (f : ForkRecord). old_end c.args.volume.now.header.block_size f.logical_size (c.args.from + length c.args.value.now) - first_block c.args.volume.now.header.block_size f.logical_size c.args.from) c.fork_of-fork.ensures) c.count_bits-bits.ensures.exact,
      c.has_room.ensures c.if-not-has_room.false,
    )

pub put_map-requires-clause-unchanged : goal.put_map-requires-clause-unchanged
put_map-requires-clause-unchanged g c told =
    let tells = sym c.place_data.ensures.space.tells ∙ told in
    still_unchanged c.args.volume.now c.place_data.new.volume (g.P.SectorView.space c.args.space.now) (fork_at (kind_of c.args.kind) c.args.file.now).logical_size c.args.from (length c.args.value.now) c.args.list.now (subst (λ (f : ForkRecord). IsSureToPut c.args.list.now f.logical_size c.args.volume.now (g.P.SectorView.space c.args.space.now)) c.fork_of-fork.ensures (c.is_sure.ensures c.if-not-is_sure.false)) c.requires.some c.requires.free c.requires.unchanged c.in_ok-place_data.ensures.map
    (kind_of c.args.kind) (g.P.SectorView.space c.place_data.new.space).content (c.requires.stands.stands tells) (c.requires.settled tells) c.args.entry.now c.args.file.now refl c.args.value.now refl c.in-Some.sums.total c.in-Some.sums.free (c.in_ok-place_data.ensures.places tells)

pub put_header-requires-clause-stands : goal.put_header-requires-clause-stands
put_header-requires-clause-stands g c = c.put_map.ensures.stands

pub put_header-requires-clause-room : goal.put_header-requires-clause-room
put_header-requires-clause-room g c =
    inl (omega (
      arith,
      c.put_map.ensures.spent,
      count_by-le-length (λ (s : ℕ). not ((g.P.SectorView.space c.place_data.new.space).put s)) (changed_sectors c.place_data.new.volume),
      changed_few c.args.volume.now c.place_data.new.volume (g.P.SectorView.space c.args.space.now) (fork_at (kind_of c.args.kind) c.args.file.now).logical_size c.args.from (length c.args.value.now) c.args.list.now (subst (λ (f : ForkRecord). IsSureToPut c.args.list.now f.logical_size c.args.volume.now (g.P.SectorView.space c.args.space.now)) c.fork_of-fork.ensures (c.is_sure.ensures c.if-not-is_sure.false)) c.requires.some c.requires.free c.requires.unchanged c.in_ok-place_data.ensures.map,
      bits_are c.args.volume.now c.count_blocks-counts.result.fresh c.count_blocks-counts.result.freed _ _ c.count_bits-bits.result (c.count_blocks-counts.ensures.fresh ∙ ap (λ (f : ForkRecord). blocks_put c.args.volume.now f.logical_size c.args.from (length c.args.value.now)) c.fork_of-fork.ensures) (c.count_blocks-counts.ensures.freed ∙ ap (λ (f : ForkRecord). old_end c.args.volume.now.header.block_size f.logical_size (c.args.from + length c.args.value.now) - first_block c.args.volume.now.header.block_size f.logical_size c.args.from) c.fork_of-fork.ensures) c.count_bits-bits.ensures.exact,
      c.has_room.ensures c.if-not-has_room.false,
    ))

pub returns-clause-stands : goal.returns-clause-stands
returns-clause-stands g c = c.put_header.ensures.stands

pub returns-clause-service : goal.returns-clause-service
returns-clause-service g c = c.put_header.ensures.stands.service

pub returns-clause-puts : goal.returns-clause-puts
returns-clause-puts g c tells =
    let v = c.args.volume.now in
    let w = c.place_data.new.volume in
    let told = c.place_data.ensures.space.tells ∙ tells in
    let then = c.put_map.ensures.within.same.tells ∙ told in
    let of = c.requires.told tells in
    let sums = subst (λ (o : Option Sums). IfSome o (λ sums. (sums.free + c.count_blocks-counts.result.fresh ≡ v.header.free_blocks + c.count_blocks-counts.result.freed) × (sums.total + c.count_blocks-counts.result.freed ≡ c.fork_of-fork.result.total_blocks + c.count_blocks-counts.result.fresh))) c.in-Some.is c.count_sums.ensures in
    value_put c.args.kind v w (g.P.SectorView.space c.args.space.now) (g.P.SectorView.space c.place_data.new.space) (g.P.SectorView.space c.put_map.new.space) (g.P.SectorView.space c.put_header.new.space) (c.requires.stands.stands tells) (c.requires.settled tells) c.args.entry.now c.args.file.now c.args.list.now c.args.from c.args.value.now c.in-Some.sums.total c.in-Some.sums.free
    (c.in_ok-place_data.ensures.places tells) (subst (λ (f : ForkRecord). IsSureToPut c.args.list.now f.logical_size c.args.volume.now (g.P.SectorView.space c.args.space.now)) c.fork_of-fork.ensures (c.is_sure.ensures c.if-not-is_sure.false)) c.requires.some c.requires.free of.entry of.stands of.value of.extents_are
    (c.requires.there tells ∙ ap (λ (r : CatRecord). Some r) c.requires.kind) of.no_link c.requires.fits
    (omega (arith, sums.0, (c.count_blocks-counts.ensures.fresh ∙ ap (λ (f : ForkRecord). blocks_put c.args.volume.now f.logical_size c.args.from (length c.args.value.now)) c.fork_of-fork.ensures), (c.count_blocks-counts.ensures.freed ∙ ap (λ (f : ForkRecord). old_end c.args.volume.now.header.block_size f.logical_size (c.args.from + length c.args.value.now) - first_block c.args.volume.now.header.block_size f.logical_size c.args.from) c.fork_of-fork.ensures))) (omega (arith, sums.1, ap (λ (f : ForkRecord). f.total_blocks) c.fork_of-fork.ensures, (c.count_blocks-counts.ensures.fresh ∙ ap (λ (f : ForkRecord). blocks_put c.args.volume.now f.logical_size c.args.from (length c.args.value.now)) c.fork_of-fork.ensures), (c.count_blocks-counts.ensures.freed ∙ ap (λ (f : ForkRecord). old_end c.args.volume.now.header.block_size f.logical_size (c.args.from + length c.args.value.now) - first_block c.args.volume.now.header.block_size f.logical_size c.args.from) c.fork_of-fork.ensures)))
    (c.put_header.ensures.stands.stands (c.put_header.ensures.within.same.tells ∙ then)) then (c.put_map.ensures.put told) (c.put_header.ensures.put then) c.put_header.ensures.within c.other_files_keep_their_bytes.ensures

pub returns-clause-commit : goal.returns-clause-commit
returns-clause-commit g c committed holds alike =
    touches_both committed (λ s. Contains (own_sectors c.args.volume.now) s) (g.P.SectorView.space c.args.space.now) (g.P.SectorView.space c.put_map.new.space) (g.P.SectorView.space c.put_header.new.space)
    (touches_both committed (λ s. Contains (own_sectors c.args.volume.now) s) (g.P.SectorView.space c.args.space.now) (g.P.SectorView.space c.place_data.new.space) (g.P.SectorView.space c.put_map.new.space) (c.place_data.ensures.commit committed holds alike)
    (subst (λ (l : List ℕ). Touches committed (λ s. Contains l s) (g.P.SectorView.space c.place_data.new.space) (g.P.SectorView.space c.put_map.new.space)) c.place_data.ensures.own
    (touches_within committed (map_sectors c.place_data.new.volume) (λ s. Contains (own_sectors c.place_data.new.volume) s) (g.P.SectorView.space c.place_data.new.space) (g.P.SectorView.space c.put_map.new.space) (λ s has. map_own c.place_data.new.volume s has) c.put_map.ensures.within)))
    (subst (λ (l : List ℕ). Touches committed (λ s. Contains l s) (g.P.SectorView.space c.put_map.new.space) (g.P.SectorView.space c.put_header.new.space)) c.place_data.ensures.own
    (touches_header c.place_data.new.volume committed (g.P.SectorView.space c.put_map.new.space) (g.P.SectorView.space c.put_header.new.space) c.put_header.ensures.within))

pub returns-clause-spent : goal.returns-clause-spent
returns-clause-spent g c tells =
    let most : c.most_extents-most.result ≡ most_extents (length c.args.list.now) (fewest_of (blocks_put c.args.volume.now (fork_at (kind_of c.args.kind) c.args.file.now).logical_size c.args.from (length c.args.value.now)) (free_runs (free_of c.args.volume.now.map))) =
    c.most_extents-most.ensures ∙ (λ i. most_extents (c.len.ensures i) ((c.fewest-runs.ensures ∙ ap (λ n. fewest_of n (free_runs (free_of c.args.volume.now.map))) (c.count_blocks-counts.ensures.fresh ∙ ap (λ (f : ForkRecord). blocks_put c.args.volume.now f.logical_size c.args.from (length c.args.value.now)) c.fork_of-fork.ensures)) i)) in
    omega (
      arith,
      c.place_data.ensures.spent tells,
      most_load c.args.volume.now c.args.records (length c.args.list.now) (fork_at (kind_of c.args.kind) c.args.file.now).logical_size c.args.from (length c.args.value.now) c.most_extents-most.result most,
      c.put_map.ensures.spent,
      count_by-le-length (λ (s : ℕ). not ((g.P.SectorView.space c.place_data.new.space).put s)) (changed_sectors c.place_data.new.volume),
      changed_few c.args.volume.now c.place_data.new.volume (g.P.SectorView.space c.args.space.now) (fork_at (kind_of c.args.kind) c.args.file.now).logical_size c.args.from (length c.args.value.now) c.args.list.now (subst (λ (f : ForkRecord). IsSureToPut c.args.list.now f.logical_size c.args.volume.now (g.P.SectorView.space c.args.space.now)) c.fork_of-fork.ensures (c.is_sure.ensures c.if-not-is_sure.false)) c.requires.some c.requires.free c.requires.unchanged c.in_ok-place_data.ensures.map,
      c.put_header.ensures.spent,
    )

pub returns-in_err-place_data-clause-spent : goal.returns-in_err-place_data-clause-spent
returns-in_err-place_data-clause-spent g c tells =
    let most : c.most_extents-most.result ≡ most_extents (length c.args.list.now) (fewest_of (blocks_put c.args.volume.now (fork_at (kind_of c.args.kind) c.args.file.now).logical_size c.args.from (length c.args.value.now)) (free_runs (free_of c.args.volume.now.map))) =
    c.most_extents-most.ensures ∙ (λ i. most_extents (c.len.ensures i) ((c.fewest-runs.ensures ∙ ap (λ n. fewest_of n (free_runs (free_of c.args.volume.now.map))) (c.count_blocks-counts.ensures.fresh ∙ ap (λ (f : ForkRecord). blocks_put c.args.volume.now f.logical_size c.args.from (length c.args.value.now)) c.fork_of-fork.ensures)) i)) in
    omega (
      arith,
      c.place_data.ensures.spent tells,
      most_load c.args.volume.now c.args.records (length c.args.list.now) (fork_at (kind_of c.args.kind) c.args.file.now).logical_size c.args.from (length c.args.value.now) c.most_extents-most.result most,
    )

pub returns-then-not-has_room-clause-spent : goal.returns-then-not-has_room-clause-spent
returns-then-not-has_room-clause-spent g c tells =
    let most : c.most_extents-most.result ≡ most_extents (length c.args.list.now) (fewest_of (blocks_put c.args.volume.now (fork_at (kind_of c.args.kind) c.args.file.now).logical_size c.args.from (length c.args.value.now)) (free_runs (free_of c.args.volume.now.map))) =
    c.most_extents-most.ensures ∙ (λ i. most_extents (c.len.ensures i) ((c.fewest-runs.ensures ∙ ap (λ n. fewest_of n (free_runs (free_of c.args.volume.now.map))) (c.count_blocks-counts.ensures.fresh ∙ ap (λ (f : ForkRecord). blocks_put c.args.volume.now f.logical_size c.args.from (length c.args.value.now)) c.fork_of-fork.ensures)) i)) in
    omega (
      arith,
      c.place_data.ensures.spent tells,
      most_load c.args.volume.now c.args.records (length c.args.list.now) (fork_at (kind_of c.args.kind) c.args.file.now).logical_size c.args.from (length c.args.value.now) c.most_extents-most.result most,
    )

pub returns-clause-space : goal.returns-clause-space
returns-clause-space g c =
    space_both (g.P.SectorView.space c.args.space.now) (g.P.SectorView.space c.put_map.new.space) (g.P.SectorView.space c.put_header.new.space)
    (space_both (g.P.SectorView.space c.args.space.now) (g.P.SectorView.space c.place_data.new.space) (g.P.SectorView.space c.put_map.new.space) c.place_data.ensures.space c.put_map.ensures.within.same) c.put_header.ensures.within.same

pub returns-clause-below : goal.returns-clause-below
returns-clause-below g c = g.met.P.SectorView.follows_trans c.args.space.now c.put_map.new.space c.put_header.new.space (g.met.P.SectorView.follows_trans c.args.space.now c.place_data.new.space c.put_map.new.space c.place_data.ensures.below c.put_map.ensures.below) c.put_header.ensures.below

pub returns-clause-cause : goal.returns-clause-cause
returns-clause-cause g c = record { later = omega (arith, c.place_data.ensures.cause.later, c.put_map.ensures.faults, c.put_header.ensures.faults); failed = tt }

pub returns-clause-holds : goal.returns-clause-holds
returns-clause-holds g c committed was =
    let v = c.args.volume.now in
    let size = (fork_at (kind_of c.args.kind) c.args.file.now).logical_size in
    let long = length c.args.value.now in
    holds_put committed v c.place_data.new.volume (blocks_put v size c.args.from long) (middle (first_block v.header.block_size size c.args.from) (old_end v.header.block_size size (c.args.from + long)) c.args.list.now)
    (old_fits v c.place_data.new.volume (g.P.SectorView.space c.args.space.now) size c.args.from long c.args.list.now (subst (λ (f : ForkRecord). IsSureToPut c.args.list.now f.logical_size c.args.volume.now (g.P.SectorView.space c.args.space.now)) c.fork_of-fork.ensures (c.is_sure.ensures c.if-not-is_sure.false)) c.requires.some c.requires.free c.requires.unchanged c.in_ok-place_data.ensures.map)
    c.in_ok-place_data.ensures.map was
