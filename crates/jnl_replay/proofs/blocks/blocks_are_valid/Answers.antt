use Rattle.std.proofs.Common.{sym, ◌∙◌, arith, ◌+◌, ◌-◌}
use Rattle.sector_disk.specs.Disk.{content}
use Rattle.jnl_replay.specs.Text.{words}
use Rattle.jnl_replay.proofs.Filling.{fill_on, fill_off, fill_over}
use Rattle.sector_disk.proofs.Writing.{reads_both}
use Rattle.jnl_replay.proofs.ReadOn.{same_words, tells_then}
use Rattle.jnl_replay.proofs.blocks.blocks_are_valid.Goals as goal

pub loop-entry-preserved : goal.loop-entry-preserved
loop-entry-preserved g c =
    let s0 = g.D.SectorDisk.state c.args.disk.now in
    let s1 = g.D.SectorDisk.state c.loop-entry.disk in
    let s2 = g.D.SectorDisk.state c.read_entry_at.new.disk in
    let s3 = g.D.SectorDisk.state c.is_block_of.new.disk in
    let inv = c.loop-entry.invariant in
    let t = c.args.text.now in
    let r2 = reads_both s0 s1 s2 inv.reads c.read_entry_at.ensures.reads in
    record {
      reads = reads_both s0 s2 s3 r2 c.is_block_of.ensures.reads;
      place = omega (arith, inv.place);
      from = omega (arith, inv.from);
      value = λ tells.
          inv.value tells
          ∙ fill_on c.args.volume.now t.order (words t (content s0)) c.args.end c.loop-entry.place c.loop-entry.from (c.args.count - c.loop-entry._entry) (c.args.count - (c.loop-entry._entry + 1))
          (words t (content s1)) (words t (content s2)) c.in_ok-entry.entry c.from-size.result (omega arith) (same_words t s0 s1 inv.reads) (same_words t s0 s2 r2)
          (c.in_ok-entry.ensures.value (tells_then s0 s1 inv.reads tells)) c.from-size.ensures
          c.in_ok-is_block_of.field-0 (c.in_ok-is_block_of.ensures.value (tells_then s0 s2 r2 tells)) c.if-not-branch.false;
    }

pub returns-then-not-branch-clause-value : goal.returns-then-not-branch-clause-value
returns-then-not-branch-clause-value g c tells =
    let s0 = g.D.SectorDisk.state c.args.disk.now in
    let s1 = g.D.SectorDisk.state c.loop-entry.disk in
    let s2 = g.D.SectorDisk.state c.read_entry_at.new.disk in
    let inv = c.loop-entry.invariant in
    let t = c.args.text.now in
    let r2 = reads_both s0 s1 s2 inv.reads c.read_entry_at.ensures.reads in
    sym (inv.value tells
    ∙ fill_off c.args.volume.now t.order (words t (content s0)) c.args.end c.loop-entry.place c.loop-entry.from (c.args.count - c.loop-entry._entry) (c.args.count - (c.loop-entry._entry + 1))
    (words t (content s1)) (words t (content s2)) c.in_ok-entry.entry c.from-size.result (omega arith) (same_words t s0 s1 inv.reads) (same_words t s0 s2 r2)
    (c.in_ok-entry.ensures.value (tells_then s0 s1 inv.reads tells)) c.from-size.ensures
    c.in_ok-is_block_of.field-0 (c.in_ok-is_block_of.ensures.value (tells_then s0 s2 r2 tells)) c.if-not-branch.true)

pub returns-then-end-from-clause-value : goal.returns-then-end-from-clause-value
returns-then-end-from-clause-value g c tells =
    let s0 = g.D.SectorDisk.state c.args.disk.now in
    let s1 = g.D.SectorDisk.state c.loop-entry.disk in
    let inv = c.loop-entry.invariant in
    let t = c.args.text.now in
    sym (inv.value tells
    ∙ fill_over c.args.volume.now t.order (words t (content s0)) c.args.end c.loop-entry.place c.loop-entry.from (c.args.count - c.loop-entry._entry) (c.args.count - (c.loop-entry._entry + 1))
    (words t (content s1)) c.in_ok-entry.entry c.from-size.result (omega arith) (same_words t s0 s1 inv.reads)
    (c.in_ok-entry.ensures.value (tells_then s0 s1 inv.reads tells)) c.from-size.ensures inv.from c.if-end-from.true)
