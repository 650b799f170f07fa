use Rattle.std.proofs.Common.{◌≡◌, ◌≤◌, ◌*◌, ◌/◌, ◌%◌, ℕ, true, List, length, sym, ◌∙◌, ap, subst}
use Rattle.std.specs.Prelude.{IfOk, drop, map, take}
use Rattle.std.specs.List.{list_all}
use Rattle.hx_bytes.specs.declared.extents.ForkRecord.{ForkRecord}
use Rattle.fork_map.specs.Blocks.{blocks_of}
use Rattle.file_io.specs.Bytes.{fork_bytes as bytes_read}
use Rattle.btree_file.specs.Standing.{pairs_in}
use Rattle.btree_file.specs.State.{sectors_of_tree}
use Rattle.hfs_volume.specs.Blocks.{GoesOn}
use Rattle.hfs_volume.specs.Forks.{extents_of}
use Rattle.hfs_volume.specs.Records.{overflow_of}
use Rattle.volume_base.specs.Opening.{ends_inside}
use Rattle.volume_base.specs.Cutting.{fork_at, kind_of}
use Rattle.volume_base.proofs.ForkKinds.{kind_is}
use Rattle.volume_base.proofs.Extending.{bytes_told, extents_open, fork_goes_on}
use Rattle.volume_base.proofs.Framed.{serves_still}
use Rattle.volume_base.proofs.Looked.{extents_looked, looked_fault, looked_on}
use Rattle.volume_base.proofs.volume.Volume.read_file.Goals as goal

pub load_extents-requires-clause-open : goal.load_extents-requires-clause-open
load_extents-requires-clause-open g c = extents_open c.args.self.now (g.P.SectorView.space c.args.space.now) c.requires.serves.stands

pub load_extents-requires-clause-holds : goal.load_extents-requires-clause-holds
load_extents-requires-clause-holds g c tells = (c.requires.serves.stands.stands tells).trees.extents

pub load_extents-requires-clause-whole : goal.load_extents-requires-clause-whole
load_extents-requires-clause-whole g c tells = (c.requires.serves.stands.stands tells).whole

pub load_extents-requires-clause-goes_on : goal.load_extents-requires-clause-goes_on
load_extents-requires-clause-goes_on g c tells =
    let old = g.P.SectorView.space c.args.space.now in
    subst (λ (k : ℕ × ForkRecord). GoesOn (map overflow_of (pairs_in (sectors_of_tree c.args.self.now.extents.file) old.content)) (record { id = c.args.file.now.fields.id; kind = k.0; fork = k.1 }))
    {x = (kind_of c.args.kind, fork_at (kind_of c.args.kind) c.args.file.now)} {y = (c.number_of.result, c.fork_of-fork.result)} (λ i. (sym c.number_of.ensures.same i, sym c.fork_of-fork.ensures i))
    (fork_goes_on c.args.self.now old.content (c.requires.serves.settled tells) (kind_of c.args.kind) (kind_is c.args.kind) c.args.file.now (c.requires.there tells))

pub returns-clause-bytes : goal.returns-clause-bytes
returns-clause-bytes g c tells =
    let old = g.P.SectorView.space c.args.space.now in
    let mid = g.P.SectorView.space c.load_extents.new.space in
    let looks = c.load_extents.ensures.looks in
    bytes_told c.args.self.now old.content (c.requires.serves.settled tells) (kind_of c.args.kind) (kind_is c.args.kind) c.args.file.now (c.requires.there tells) mid.content mid.sectors (looks.content tells) (g.met.P.SectorView.well_formed c.args.space.now tells ∙ sym looks.same.sectors)
    c.in_ok-list.list (c.in_ok-list.ensures.found tells ∙ (λ i. extents_of (map overflow_of (pairs_in (sectors_of_tree c.args.self.now.extents.file) old.content)) c.args.file.now.fields.id (c.number_of.ensures.same i) (c.fork_of-fork.ensures i)))
    c.args.from c.args.long c.read_fork.result
    (subst (λ (size : ℕ). c.args.self.now.header.block_size % 512 ≡ 0 → list_all (ends_inside (c.args.self.now.header.block_size / 512) mid.sectors) c.in_ok-list.list ≡ true → size ≤ length (blocks_of c.in_ok-list.list) * c.args.self.now.header.block_size
    → IfOk c.read_fork.result (λ (bytes : List ℕ). bytes ≡ take c.args.long (drop c.args.from (take size (bytes_read mid.content c.args.self.now.header.block_size c.in_ok-list.list)))))
    (ap (λ (f : ForkRecord). f.logical_size) c.fork_of-fork.ensures) (c.read_fork.ensures.bytes (looks.same.tells ∙ tells)))

pub returns-in_err-list-clause-looked : goal.returns-in_err-list-clause-looked
returns-in_err-list-clause-looked g c = looked_fault c.from_residual.ensures.1 (extents_looked c.load_extents.ensures.below c.in_err-list.ensures.cause c.requires.serves.stands c.load_extents.ensures.keeps c.load_extents.ensures.looks c.load_extents.ensures.desk)

pub returns-in_err-list-clause-serves : goal.returns-in_err-list-clause-serves
returns-in_err-list-clause-serves g c = serves_still (returns-in_err-list-clause-looked g c) c.requires.serves

pub returns-clause-looked : goal.returns-clause-looked
returns-clause-looked g c =
    let first = extents_looked c.load_extents.ensures.below c.load_extents.ensures.cause c.requires.serves.stands c.load_extents.ensures.keeps c.load_extents.ensures.looks c.load_extents.ensures.desk in
    looked_on g.met.P.SectorView.follows_trans first c.requires.serves.stands c.read_fork.ensures.below c.read_fork.ensures.cause c.read_fork.ensures.reads

pub returns-clause-serves : goal.returns-clause-serves
returns-clause-serves g c = serves_still (returns-clause-looked g c) c.requires.serves
