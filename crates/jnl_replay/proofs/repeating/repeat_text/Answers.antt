use Rattle.std.proofs.Common.{refl, sym, ◌∙◌, ap, arith}
use Rattle.sector_disk.specs.Disk.{Candidates}
use Rattle.sector_disk.proofs.Writing.{same_after, sink_after}
use Rattle.jnl_replay.specs.Repeating.{repeat_at, repeat_ring}
use Rattle.jnl_replay.proofs.Repeated.{repeats_both, repeats_none, ring_more}
use Rattle.jnl_replay.proofs.repeating.repeat_text.Goals as goal

pub loop-k-init : goal.loop-k-init
unfolding repeat_ring
loop-k-init g c = record {
  written = λ tells. refl;
  repeats = λ tells. repeats_none (g.D.SectorDisk.state c.args.disk.now);
  barriers = refl;
  same = record { tells = refl; tells_left = refl; names = refl; sectors = refl };
  sink = record { told = refl; faults = refl };
  faults = omega arith;
}

pub loop-k-preserved : goal.loop-k-preserved
loop-k-preserved g c =
    let s0 = g.D.SectorDisk.state c.args.disk.now in
    let s1 = g.D.SectorDisk.state c.loop-k.disk in
    let s2 = g.D.SectorDisk.state c.repeat_sector.new.disk in
    let inv = c.loop-k.invariant in
    let e = c.repeat_sector.ensures in
    let text = c.args.text.now in
    record {
      written = λ tells.
          c.in_ok-repeat_sector.ensures.written (inv.same.tells ∙ tells)
          ∙ ap (λ (d : Candidates). repeat_at d c.sector_of-at.result) (inv.written tells)
          ∙ ap (λ n. repeat_at (repeat_ring s0.candidates text.span text.start c.loop-k.k) n) c.sector_of-at.ensures.place
          ∙ sym (ring_more s0.candidates text.span text.start c.loop-k.k);
      repeats = λ tells. repeats_both s0 s1 s2 inv.sink (inv.repeats tells) (e.repeats (inv.same.tells ∙ tells));
      barriers = e.barriers ∙ inv.barriers;
      same = same_after s0 s1 s2 inv.same e.same;
      sink = sink_after s0 s1 s2 inv.sink e.sink;
      faults = omega (arith, inv.faults, e.cause.later);
    }
