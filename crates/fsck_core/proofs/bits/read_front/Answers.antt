use Rattle.std.proofs.Common.{◌≡◌, ℕ, List, IsTrue, arith, length, length-append, ap, ◌∙◌}
use Rattle.std.specs.Prelude.{slice_get}
use Rattle.sector_disk.specs.Space.{Space}
use Rattle.jnl_format.specs.Recovery.{Content}
use Rattle.fork_map.specs.Blocks.{fork_sectors}
use Rattle.btree_file.specs.FrameLaws.{reads_both}
use Rattle.fsck_scan.specs.Read.{sector_or_zeros}
use Rattle.fsck_core.proofs.BitsLaws.{bits_more}
use Rattle.fsck_core.proofs.bits.read_front.Goals as goal

pub loop-at-preserved : goal.loop-at-preserved
loop-at-preserved g c =
    let old : Space = g.V.SectorView.space c.args.view.now in
    let now : Space = g.V.SectorView.space c.loop-at.view in
    let new : Space = g.V.SectorView.space c.read_sector.new.view in
    let limit : ℕ = c.args.fork.now.limit in
    let sectors : List ℕ = fork_sectors c.args.fork.now.extents.now c.args.fork.now.per_block in
    let i = c.loop-at.invariant in
    record {
      size = omega (arith, ap (λ (l : List ℕ). length l) c.in_ok-push_sector.ensures, length-append c.loop-at.bytes.items c.read_sector.new.into, i.size, c.read_sector.auto.into);
      bits = λ tells.
          let told : IsTrue now.tells = i.reads.same.tells ∙ tells in
          let content : now.content ≡ old.content = (i.reads.sectors tells).content in
          bits_more old.content limit sectors c.loop-at.bytes.items c.read_sector.new.into c.push_sector.new.bytes.items c.loop-at.at i.size c.in_ok-push_sector.ensures (i.bits tells)
          (c.in_ok-read_sector.ensures.value told ∙ ap (λ (ct : Content). sector_or_zeros ct limit (slice_get sectors c.loop-at.at)) content);
      reads = reads_both old now new i.reads c.read_sector.ensures.reads;
      below = g.met.V.SectorView.follows_trans c.args.view.now c.loop-at.view c.read_sector.new.view i.below c.read_sector.ensures.below;
    }

pub returns-in_err-read_sector-clause-reads : goal.returns-in_err-read_sector-clause-reads
returns-in_err-read_sector-clause-reads g c =
    reads_both (g.V.SectorView.space c.args.view.now) (g.V.SectorView.space c.loop-at.view) (g.V.SectorView.space c.read_sector.new.view) c.loop-at.invariant.reads c.read_sector.ensures.reads

pub returns-in_err-push_sector-clause-reads : goal.returns-in_err-push_sector-clause-reads
returns-in_err-push_sector-clause-reads g c =
    reads_both (g.V.SectorView.space c.args.view.now) (g.V.SectorView.space c.loop-at.view) (g.V.SectorView.space c.read_sector.new.view) c.loop-at.invariant.reads c.read_sector.ensures.reads

pub returns-in_err-read_sector-clause-below : goal.returns-in_err-read_sector-clause-below
returns-in_err-read_sector-clause-below g c = g.met.V.SectorView.follows_trans c.args.view.now c.loop-at.view c.read_sector.new.view c.loop-at.invariant.below c.read_sector.ensures.below

pub returns-in_err-push_sector-clause-below : goal.returns-in_err-push_sector-clause-below
returns-in_err-push_sector-clause-below g c = g.met.V.SectorView.follows_trans c.args.view.now c.loop-at.view c.read_sector.new.view c.loop-at.invariant.below c.read_sector.ensures.below
