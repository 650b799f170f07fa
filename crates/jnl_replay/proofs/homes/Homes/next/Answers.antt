use Rattle.std.proofs.Common.{◌∙◌, ap}
use Rattle.sector_disk.specs.Disk.{content}
use Rattle.jnl_replay.specs.Text.{words}
use Rattle.jnl_replay.specs.declared.text.Text.{Text}
use Rattle.jnl_replay.proofs.Pendings.{goes_true, goes_false}
use Rattle.sector_disk.proofs.Writing.{reads_both}
use Rattle.jnl_replay.proofs.ReadOn.{same_words, tells_then}
use Rattle.jnl_replay.proofs.homes.Homes.next.Goals as goal

pub loop-self-preserved : goal.loop-self-preserved
loop-self-preserved g c =
    let s0 = g.D.SectorDisk.state c.args.disk.now in
    let s1 = g.D.SectorDisk.state c.loop-self.disk in
    let s2 = g.D.SectorDisk.state c.step.new.disk in
    let inv = c.loop-self.invariant in
    let t = c.args.self.now.text in
    record {
      reads = reads_both s0 s1 s2 inv.reads c.step.ensures.reads;
      cursor = c.step.ensures.cursor;
      text = c.step.ensures.text ∙ inv.text;
      sectors = c.step.ensures.sectors ∙ inv.sectors;
      reached = c.step.ensures.reached ∙ inv.reached;
      value = λ tells volume homes p.
          goes_true volume (words t (content s0)) (words c.loop-self.self.text (content s1)) c.loop-self.self c.step.new.self c.in_ok-step.field-0 homes
          (ap (λ (x : Text). words x (content s1)) inv.text ∙ same_words t s0 s1 inv.reads) c.if-not-branch.false (c.in_ok-step.ensures.goes (tells_then s0 s1 inv.reads tells)) (inv.value tells volume homes p);
    }

pub returns-then-not-branch-clause-gives : goal.returns-then-not-branch-clause-gives
returns-then-not-branch-clause-gives g c tells volume homes p =
    let s0 = g.D.SectorDisk.state c.args.disk.now in
    let s1 = g.D.SectorDisk.state c.loop-self.disk in
    let inv = c.loop-self.invariant in
    let t = c.args.self.now.text in
    goes_false volume (words t (content s0)) (words c.loop-self.self.text (content s1)) c.loop-self.self c.step.new.self c.in_ok-step.field-0 homes
    (ap (λ (x : Text). words x (content s1)) inv.text ∙ same_words t s0 s1 inv.reads) c.if-not-branch.true (c.in_ok-step.ensures.goes (tells_then s0 s1 inv.reads tells)) (inv.value tells volume homes p)
