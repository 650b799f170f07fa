use Rattle.std.proofs.Common.{◌≡◌, length, refl, sym, ◌∙◌, ap, subst, arith}
use Rattle.std.specs.Prelude.{IsTrue}
use Rattle.alloc_bitmap.specs.Untold.{told_none}
use Rattle.sector_disk.specs.Lists.{Content}
use Rattle.hfs_serving.proofs.Agreeing.{committed_reads}
use Rattle.hfs_serving.proofs.Causes.{fine}
use Rattle.volume_step.proofs.Unfilled.{filled_none}
use Rattle.served_volume.proofs.Committing.{committed_knows, differs, service_settled}
use Rattle.served_volume.proofs.serving.ServedVolumeVolume.commit.Goals as goal

pub commit-requires-clause-heads : goal.commit-requires-clause-heads
commit-requires-clause-heads g c tells = (c.requires.stands tells).4.heads

pub returns-in-Ok-clause-knows : goal.returns-in-Ok-clause-knows
returns-in-Ok-clause-knows g c tells capacity committed now shrunk stands =
    let v = c.args.self.now.volume in
    let a = g.G.SectorView.space c.args.base.now in
    let b = g.G.SectorView.space c.commit.new.self in
    let before = g.G.Ground.outside c.args.base.now in
    let after = g.G.Ground.outside c.commit.new.self in
    let commits = c.in-Ok.ensures.done tells in
    let serves = c.requires.serves.1 in
    let heads = c.in-Ok.ensures.heads tells in
    let shows = c.look.ensures.shows c.requires.serves.0 serves tells stands.heads in
    let tells_then = c.in-Ok.ensures.tells ∙ tells in
    let shows_then = c.look-in-Ok.ensures.shows c.requires.serves.0 (c.in-Ok.ensures.still c.requires.serves.0 serves) tells_then heads in
    let differing = differs v capacity committed now shrunk a b before after (g.G.Ground.anchor c.args.base.now) (g.G.Ground.anchor c.commit.new.self) stands.known stands.reads commits c.commit.ensures.anchor shows shows_then in
    let sectors : b.sectors ≡ a.sectors = sym (g.met.G.SectorView.well_formed c.commit.new.self tells_then) ∙ commits.content.size ∙ g.met.G.SectorView.well_formed c.args.base.now tells in
    record {
      reads = committed_reads now a before b after stands.reads commits;
      heads = heads;
      known = committed_knows v c.settle.new.self c.settle.ensures c.aside_is_free.ensures capacity committed now shrunk a b stands.known tells sectors differing;
    }

pub returns-in-Ok-clause-still : goal.returns-in-Ok-clause-still
returns-in-Ok-clause-still g c capacity serves = (c.in-Ok.ensures.still capacity serves, c.in-Ok.ensures.nothing)

pub returns-in-Ok-clause-faults : goal.returns-in-Ok-clause-faults
returns-in-Ok-clause-faults g c = fine c.commit.ensures.counts _

pub returns-in-Err-clause-faults : goal.returns-in-Err-clause-faults
returns-in-Err-clause-faults g c = record { counts = c.commit.ensures.counts; disk = λ is. c.in-Err.ensures.cause }

pub invariant_of-self : goal.invariant_of-self
invariant_of-self g c =
    let there = told_none c.args.self.now.sectors in
    record {
      sized = service_settled c.args.self.now.volume c.settle.new.self c.settle.ensures there c.args.self.now.sized;
      filled = filled_none c.settle.new.self there c.settle.ensures.filling;
    }
