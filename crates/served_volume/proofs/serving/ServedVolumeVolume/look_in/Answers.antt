use Rattle.std.proofs.Common.{◌≡◌, sym, subst}
use Rattle.std.specs.Prelude.{Contains, IfOk}
use Rattle.alloc_bitmap.specs.Untold.{told_none}
use Rattle.hfs_model.specs.declared.plain.PlainTree.{PlainTree}
use Rattle.hfs_volume.specs.TreeOf.{tree_of}
use Rattle.hfs_serving.specs.Looks.{IsSeenIn}
use Rattle.volume_base.specs.Standing.{own_sectors}
use Rattle.hfs_serving.proofs.Causes.{counts_none}
use Rattle.served_volume.proofs.Calls.{faults_of_call, quiet, short}
use Rattle.served_volume.proofs.OnlyRead.{read_sized, read_stays, read_takes}
use Rattle.served_volume.proofs.Links.{seen_in}
use Rattle.served_volume.proofs.Seen.{looks_space}
use Rattle.served_volume.proofs.Service.{service_on}
use Rattle.served_volume.proofs.serving.ServedVolumeVolume.look_in.Goals as goal

pub look-seen-requires-clause-serves : goal.look-seen-requires-clause-serves
look-seen-requires-clause-serves g c =
    let self = c.args.self.now in
    record {
      stands = record {
        service = service_on self.volume (told_none self.sectors) (g.G.SectorView.space c.args.base.now) (c.is_elsewhere.ensures c.if-is_elsewhere.false) self.sized;
        stands = λ tells. (c.requires.stands tells).4.known.stands.stands tells;
      };
      settled = λ tells. (c.requires.stands tells).4.known.settled;
    }

pub returns-then-is_elsewhere-clause-touches : goal.returns-then-is_elsewhere-clause-touches
returns-then-is_elsewhere-clause-touches g c tells capacity committed now shrunk stands = quiet committed _ _ stands.leaves

pub returns-then-is_elsewhere-clause-stays : goal.returns-then-is_elsewhere-clause-stays
returns-then-is_elsewhere-clause-stays g c tells capacity committed now shrunk stands = record { reads = stands.reads; heads = stands.heads; known = stands.known }

pub returns-then-is_elsewhere-clause-faults : goal.returns-then-is_elsewhere-clause-faults
returns-then-is_elsewhere-clause-faults g c = short (counts_none _ _)

pub returns-then-is_elsewhere-clause-below : goal.returns-then-is_elsewhere-clause-below
returns-then-is_elsewhere-clause-below g c = g.met.G.SectorView.follows_refl c.args.base.now

pub returns-clause-touches : goal.returns-clause-touches
returns-clause-touches g c tells capacity committed now shrunk stands =
    let looked = c.look-seen.ensures.looked in
    c.look.ensures.sees c.requires.serves.0 committed c.args.base.now looked.edits.ran.below c.requires.serves.1 tells (looks_space committed (λ s. Contains (own_sectors c.args.self.now.volume) s) _ _ tells looked.reads.looks)

pub returns-clause-stays : goal.returns-clause-stays
returns-clause-stays g c tells capacity committed now shrunk stands = read_stays c.look-seen.ensures.looked c.look-seen.ensures.serves capacity committed now shrunk tells _ stands

pub returns-clause-sight : goal.returns-clause-sight
returns-clause-sight g c tells capacity committed now shrunk stands =
    let tree = tree_of (g.G.SectorView.space c.args.base.now).content in
    subst (λ (it : PlainTree). IfOk c.look-seen.result (IsSeenIn it c.args.parent c.args.name.now)) (sym stands.known.alike.tree)
    (seen_in tree c.args.parent c.args.name.now c.look-seen.result (c.look-seen.ensures.sight tells))

pub returns-clause-below : goal.returns-clause-below
returns-clause-below g c = c.look-seen.ensures.looked.edits.ran.below

pub returns-clause-still : goal.returns-clause-still
returns-clause-still g c capacity serves few =
    let now = c.look.ensures.still capacity c.args.base.now c.look-seen.ensures.looked.edits.ran.below serves in
    (now, c.look.ensures.most capacity now)

pub returns-clause-tells : goal.returns-clause-tells
returns-clause-tells g c = c.look-seen.ensures.looked.reads.looks.same.tells

pub returns-clause-anchor : goal.returns-clause-anchor
returns-clause-anchor g c = c.look.ensures.anchor c.args.base.now c.look-seen.ensures.looked.edits.ran.below c.look-seen.ensures.looked.reads.looks.same.names

pub returns-clause-barriers : goal.returns-clause-barriers
returns-clause-barriers g c = c.look-seen.ensures.looked.reads.looks.same.barriers

pub returns-clause-faults : goal.returns-clause-faults
returns-clause-faults g c =
    let looked = c.look-seen.ensures.looked in
    faults_of_call c.look-seen.result (c.look.ensures.counts c.args.base.now looked.edits.ran.below looked.reads.looks.same.sink_faults) looked.edits.ran.cause

pub invariant_of-self : goal.invariant_of-self
invariant_of-self g c =
    let self = c.args.self.now in
    let looked = c.look-seen.ensures.looked in
    record { sized = read_sized looked self.sectors (c.is_elsewhere.ensures c.if-is_elsewhere.false); filled = read_takes looked self.sectors self.filled }
