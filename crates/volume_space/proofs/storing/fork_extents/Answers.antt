use Rattle.std.proofs.Common.{ℕ, sym, ◌∙◌, subst}
use Rattle.std.specs.Prelude.{map}
use Rattle.hx_bytes.specs.declared.extents.ForkRecord.{ForkRecord}
use Rattle.btree_file.specs.Standing.{pairs_in}
use Rattle.btree_file.specs.State.{sectors_of_tree}
use Rattle.hfs_volume.specs.Blocks.{GoesOn}
use Rattle.hfs_volume.specs.Forks.{extents_of}
use Rattle.hfs_volume.specs.Records.{overflow_of}
use Rattle.volume_base.specs.Cutting.{fork_at}
use Rattle.volume_base.specs.Cutting.{kind_of}
use Rattle.volume_base.proofs.Extending.{extents_open, overflow_told}
use Rattle.volume_base.proofs.Seeing.{if_so}
use Rattle.volume_space.proofs.SpreadFile.{goes_on_told}
use Rattle.volume_base.proofs.Framed.{serves_still}
use Rattle.volume_base.proofs.Looked.{extents_looked}
use Rattle.volume_space.proofs.storing.fork_extents.Goals as goal

pub load_extents-requires-clause-open : goal.load_extents-requires-clause-open
load_extents-requires-clause-open g c = extents_open c.args.volume.now (g.P.SectorView.space c.args.space.now) c.requires.serves.stands

pub load_extents-requires-clause-holds : goal.load_extents-requires-clause-holds
load_extents-requires-clause-holds g c tells = (c.requires.serves.stands.stands tells).trees.extents

pub load_extents-requires-clause-whole : goal.load_extents-requires-clause-whole
load_extents-requires-clause-whole g c tells = (c.requires.serves.stands.stands tells).whole

pub load_extents-requires-clause-goes_on : goal.load_extents-requires-clause-goes_on
load_extents-requires-clause-goes_on g c tells =
    subst (λ (k : ℕ × ForkRecord). GoesOn (map overflow_of (pairs_in (sectors_of_tree c.args.volume.now.extents.file) (g.P.SectorView.space c.args.space.now).content)) (record { id = c.args.file.now.fields.id; kind = k.0; fork = k.1 }))
    {x = (kind_of c.args.kind, fork_at (kind_of c.args.kind) c.args.file.now)} {y = (c.number_of.result, c.fork_of-fork.result)} (λ i. (sym c.number_of.ensures.same i, sym c.fork_of-fork.ensures i))
    (goes_on_told c.args.volume.now (g.P.SectorView.space c.args.space.now).content (c.requires.serves.settled tells) c.args.kind c.args.file.now (c.requires.there tells))

pub returns-clause-found : goal.returns-clause-found
returns-clause-found g c tells =
    if_so _ _ c.load_extents.result
    (λ list is. is ∙ (λ i. extents_of (sym (overflow_told c.args.volume.now (g.P.SectorView.space c.args.space.now).content (c.requires.serves.settled tells)) i) c.args.file.now.fields.id (c.number_of.ensures.same i) (c.fork_of-fork.ensures i)))
    (c.load_extents.ensures.found tells)

pub returns-clause-looked : goal.returns-clause-looked
returns-clause-looked g c = extents_looked c.load_extents.ensures.below c.load_extents.ensures.cause c.requires.serves.stands c.load_extents.ensures.keeps c.load_extents.ensures.looks c.load_extents.ensures.desk

pub returns-clause-serves : goal.returns-clause-serves
returns-clause-serves g c = serves_still (returns-clause-looked g c) c.requires.serves
