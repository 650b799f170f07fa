use Rattle.std.proofs.Common.{◌≡◌, ℕ, List, sym, subst}
use Rattle.std.specs.Prelude.{IfOk, map}
use Rattle.hx_bytes.specs.declared.extents.ForkRecord.{ForkRecord}
use Rattle.btree_file.specs.Standing.{pairs_in}
use Rattle.btree_file.specs.State.{sectors_of_tree}
use Rattle.hfs_volume.specs.Blocks.{GoesOn}
use Rattle.hfs_volume.specs.Content.{overflow_in_volume, volume_of}
use Rattle.hfs_volume.specs.Forks.{extents_of}
use Rattle.hfs_volume.specs.Records.{Overflow, overflow_of}
use Rattle.volume_base.specs.Cutting.{fork_at, kind_of}
use Rattle.volume_base.proofs.ForkKinds.{kind_is}
use Rattle.volume_base.proofs.Extending.{extents_open, fork_goes_on, overflow_told}
use Rattle.volume_base.proofs.Framed.{serves_still}
use Rattle.volume_base.proofs.Looked.{extents_looked}
use Rattle.volume_weights.proofs.data_cost.load_fork.Goals as goal

pub load_extents-requires-clause-open : goal.load_extents-requires-clause-open
load_extents-requires-clause-open g c = extents_open c.args.volume.now (g.P.SectorView.space c.args.space.now) c.requires.serves.stands

pub load_extents-requires-clause-holds : goal.load_extents-requires-clause-holds
load_extents-requires-clause-holds g c tells = (c.requires.serves.stands.stands tells).trees.extents

pub load_extents-requires-clause-whole : goal.load_extents-requires-clause-whole
load_extents-requires-clause-whole g c tells = (c.requires.serves.stands.stands tells).whole

pub load_extents-requires-clause-goes_on : goal.load_extents-requires-clause-goes_on
load_extents-requires-clause-goes_on g c tells =
    let old = g.P.SectorView.space c.args.space.now in
    subst (λ (k : ℕ × ForkRecord). GoesOn (map overflow_of (pairs_in (sectors_of_tree c.args.volume.now.extents.file) old.content)) (record { id = c.args.file.now.fields.id; kind = k.0; fork = k.1 }))
    {x = (kind_of c.args.kind, fork_at (kind_of c.args.kind) c.args.file.now)} {y = (c.number_of.result, c.fork_of.result)} (λ i. (sym c.number_of.ensures.same i, sym c.fork_of.ensures i))
    (fork_goes_on c.args.volume.now old.content (c.requires.serves.settled tells) (kind_of c.args.kind) (kind_is c.args.kind) c.args.file.now (c.requires.there tells))

pub returns-clause-list : goal.returns-clause-list
returns-clause-list g c tells =
    let old = g.P.SectorView.space c.args.space.now in
    subst (λ (k : List Overflow × ℕ × ForkRecord). IfOk c.load_extents.result (λ list. list ≡ extents_of k.0 c.args.file.now.fields.id k.1 k.2))
    {x = (map overflow_of (pairs_in (sectors_of_tree c.args.volume.now.extents.file) old.content), c.number_of.result, c.fork_of.result)}
    {y = (overflow_in_volume (volume_of old.content), kind_of c.args.kind, fork_at (kind_of c.args.kind) c.args.file.now)}
    (λ i. (sym (overflow_told c.args.volume.now old.content (c.requires.serves.settled tells)) i, c.number_of.ensures.same i, c.fork_of.ensures i)) (c.load_extents.ensures.found tells)

pub returns-clause-looked : goal.returns-clause-looked
returns-clause-looked g c = extents_looked c.load_extents.ensures.below c.load_extents.ensures.cause c.requires.serves.stands c.load_extents.ensures.keeps c.load_extents.ensures.looks c.load_extents.ensures.desk

pub returns-clause-serves : goal.returns-clause-serves
returns-clause-serves g c = serves_still (returns-clause-looked g c) c.requires.serves
