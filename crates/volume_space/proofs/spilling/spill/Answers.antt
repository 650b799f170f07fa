use Rattle.std.proofs.Common.{◌≡◌, ◌⊎◌, ◌<◌, arith, ◌+◌, ◌/◌, ℕ, List, length, sym, ◌∙◌, subst}
use Rattle.std.specs.Prelude.{Contains}
use Rattle.alloc_bitmap.specs.Map.{BlockMap}
use Rattle.file_io.specs.Bytes.{IsBlockSize}
use Rattle.file_io.specs.Places.{KeepsMap, fresh_of, new_blocks}
use Rattle.file_io.specs.Touching.{IsOneOf, SpillsIn}
use Rattle.fork_map.specs.Blocks.{blocks_of, sectors_of}
use Rattle.sector_disk.specs.Lists.{sector}
use Rattle.sector_disk.specs.Space.{Space}
use Rattle.volume_base.specs.Lists.{bits_on, lists_of}
use Rattle.volume_base.specs.Standing.{own_sectors}
use Rattle.volume_base.specs.declared.volume.Volume.{Volume}
use Rattle.volume_space.proofs.Spilled.{fresh_free, lists_spilled, on_ok, service_spilled, spilled_per, stands_over, touches_spilled}
use Rattle.volume_base.proofs.Seeing.{cause_of}
use Rattle.volume_space.proofs.spilling.spill.Goals as goal

pub returns-clause-service : goal.returns-clause-service
returns-clause-service g c = service_spilled c.args.volume.now (g.P.SectorView.space c.args.space.now) (g.P.SectorView.space c.write.new.space) c.write.new.map (c.write.ensures.keeps c.requires.stands.service.marks) c.write.ensures.same.sectors c.requires.stands.service

-- how many blocks are taken
abbrev many : Volume → (size from long : ℕ) → ℕ
many v size from long = new_blocks v.header.block_size size from (from + long)

-- a block has sectors
some_per : (block : ℕ) → IsBlockSize block → 0 < block / 512
some_per block is = omega (arith, is.least)

pub returns-clause-lists : goal.returns-clause-lists
returns-clause-lists g c tells =
    let v = c.args.volume.now in
    let a : Space = g.P.SectorView.space c.args.space.now in
    let b : Space = g.P.SectorView.space c.write.new.space in
    let n : ℕ = many v c.args.size c.args.from (length c.args.value.now) in
    let fresh : List ℕ = blocks_of (fresh_of v.map n) in
    let was = c.requires.stands.stands tells in
    on_ok c.write.result ((at : ℕ) → (sector b.content at ≡ sector a.content at) ⊎ (length (sector b.content at) ≡ 512)) (lists_of (record v { map = c.write.new.map }) b.content ≡ record (lists_of v a.content) { bits = bits_on (record v { map = c.write.new.map }) })
    (λ sizes. lists_spilled v a b was (c.requires.settled tells) fresh (fresh_free v.map n c.requires.free) (spilled_per v a b was fresh (c.write.ensures.touches tells)) sizes c.write.new.map (c.write.ensures.keeps c.requires.stands.service.marks))
    (c.write.ensures.sizes tells)

pub returns-clause-stands : goal.returns-clause-stands
returns-clause-stands g c = stands_over c.write.result c.args.volume.now (g.P.SectorView.space c.args.space.now) (g.P.SectorView.space c.write.new.space) c.requires.stands c.requires.settled (many c.args.volume.now c.args.size c.args.from (length c.args.value.now)) c.requires.free c.write.ensures.touches c.write.ensures.same c.write.new.map (c.write.ensures.keeps c.requires.stands.service.marks) c.write.ensures.sizes

pub returns-clause-commit : goal.returns-clause-commit
returns-clause-commit g c committed holds alike = touches_spilled committed (λ s. Contains (own_sectors c.args.volume.now) s) c.args.volume.now (g.P.SectorView.space c.args.space.now) (g.P.SectorView.space c.write.new.space) holds alike (some_per c.args.volume.now.header.block_size c.requires.block) (many c.args.volume.now c.args.size c.args.from (length c.args.value.now)) c.requires.free c.write.ensures.touches c.write.ensures.same c.write.ensures.room c.write.ensures.later c.write.ensures.time

pub returns-clause-cause : goal.returns-clause-cause
returns-clause-cause g c = cause_of (g.P.SectorView.space c.args.space.now).faults (g.P.SectorView.space c.write.new.space).faults c.write.result c.write.ensures.later c.write.ensures.disk
