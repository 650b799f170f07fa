use Rattle.std.proofs.Common.{◌≡◌, ◌≤◌, ◌<◌, refl, ◌∙◌, ap, arith}
use Rattle.sector_disk.specs.Disk.{content}
use Rattle.sector_disk.proofs.Writing.{same_after, sink_after}
use Rattle.jnl_format.specs.declared.blocks.Home.{Home}
use Rattle.jnl_replay.specs.Text.{words}
use Rattle.jnl_replay.specs.declared.text.Text.{Text}
use Rattle.jnl_replay.proofs.Common.{at_some}
use Rattle.jnl_replay.proofs.Homed.{homed_start, homed_read, homed_leaves, homed_step, homed_failed, homed_end, given_next, given_none, words_stay}
use Rattle.jnl_replay.proofs.ReadOn.{same_words, tells_then}
use Rattle.jnl_replay.proofs.homing.write_each.Goals as goal

pub loop-home-init : goal.loop-home-init
loop-home-init g c =
    let s0 = g.D.SectorDisk.state c.args.disk.now in
    let t = c.args.text.now in
    record {
      same = record { tells = refl; tells_left = refl; names = refl; sectors = refl };
      sink = record { told = refl; faults = refl };
      barriers = refl;
      faults = omega arith;
      cursor = c.new-homes.ensures.cursor;
      text = c.new-homes.ensures.text;
      sectors = c.new-homes.ensures.sectors ∙ c.sectors-sectors.ensures;
      value = λ tells volume homes a.
          homed_start s0.sectors t (words t (content s0)) volume homes c.new-homes.result s0 a c.new-homes.ensures.text (c.new-homes.ensures.sectors ∙ c.sectors-sectors.ensures) c.new-homes.ensures.start;
    }

pub loop-home-smaller : goal.loop-home-smaller
loop-home-smaller g c =
    let inv = c.loop-home.invariant in
    let f = at_some (λ (h : Home). (c.loop-home.homes.reached < c.next.new.self.reached) × (c.next.new.self.reached ≤ c.loop-home.homes.text.length)) c.in_ok-home.field-0 c.in-Some.home c.in-Some.is c.in_ok-home.ensures.further in
    omega (arith, f.0, f.1, ap (λ (t : Text). t.length) inv.text)

pub loop-home-preserved : goal.loop-home-preserved
loop-home-preserved g c =
    let s0 = g.D.SectorDisk.state c.args.disk.now in
    let s1 = g.D.SectorDisk.state c.loop-home.disk in
    let s2 = g.D.SectorDisk.state c.next.new.disk in
    let s3 = g.D.SectorDisk.state c.write_home.new.disk in
    let inv = c.loop-home.invariant in
    let t = c.args.text.now in
    let w = words t (content s0) in
    let cur = c.loop-home.homes in
    let reads = c.next.ensures.reads in
    let e = c.write_home.ensures in
    let sink2 = sink_after s0 s1 s2 inv.sink reads.sink in
    record {
      same = same_after s0 s2 s3 (same_after s0 s1 s2 inv.same reads.same) e.same;
      sink = sink_after s0 s2 s3 sink2 e.sink;
      barriers = e.barriers ∙ reads.barriers ∙ inv.barriers;
      faults = omega (arith, inv.faults, reads.faults, e.cause.later);
      cursor = c.next.ensures.cursor;
      text = c.next.ensures.text ∙ inv.text;
      sectors = c.next.ensures.sectors ∙ inv.sectors;
      value = λ tells volume homes a.
          let h1 = inv.value tells volume homes a in
          let t1 = inv.same.tells ∙ tells in
          let w1 : words t (content s1) ≡ w = words_stay s0.sectors t w volume homes cur s0 s1 a h1 in
          let h2 = homed_read volume w cur homes s0 s1 s2 h1 inv.sink reads in
          let given = given_next volume w (words cur.text (content s1)) cur c.next.new.self h2.rest c.in_ok-home.field-0 c.in-Some.home (ap (λ (x : Text). words x (content s1)) inv.text ∙ w1) c.in-Some.is (c.in_ok-home.ensures.gives t1) h2.pending in
          let t2 = tells_then s1 s2 reads t1 in
          homed_step volume w (words t (content s2)) cur c.next.new.self homes s0 s2 s3 h2 c.in-Some.home (same_words t s1 s2 reads ∙ w1) sink2 given
          (c.in_ok-write_home.ensures.written t2) (e.grows t2) (e.crash t2);
    }

pub returns-in_err-home-clause-crash : goal.returns-in_err-home-clause-crash
returns-in_err-home-clause-crash g c tells volume homes a =
    let s0 = g.D.SectorDisk.state c.args.disk.now in
    let s1 = g.D.SectorDisk.state c.loop-home.disk in
    let s2 = g.D.SectorDisk.state c.next.new.disk in
    let inv = c.loop-home.invariant in
    let w = words c.args.text.now (content s0) in
    let cur = c.loop-home.homes in
    homed_leaves volume w cur homes s0 s2 (homed_read volume w cur homes s0 s1 s2 (inv.value tells volume homes a) inv.sink c.next.ensures.reads)

pub returns-in_err-write_home-clause-crash : goal.returns-in_err-write_home-clause-crash
returns-in_err-write_home-clause-crash g c tells volume homes a =
    let s0 = g.D.SectorDisk.state c.args.disk.now in
    let s1 = g.D.SectorDisk.state c.loop-home.disk in
    let s2 = g.D.SectorDisk.state c.next.new.disk in
    let s3 = g.D.SectorDisk.state c.write_home.new.disk in
    let inv = c.loop-home.invariant in
    let t = c.args.text.now in
    let w = words t (content s0) in
    let cur = c.loop-home.homes in
    let reads = c.next.ensures.reads in
    let h1 = inv.value tells volume homes a in
    let t1 = inv.same.tells ∙ tells in
    let w1 : words t (content s1) ≡ w = words_stay s0.sectors t w volume homes cur s0 s1 a h1 in
    let h2 = homed_read volume w cur homes s0 s1 s2 h1 inv.sink reads in
    let given = given_next volume w (words cur.text (content s1)) cur c.next.new.self h2.rest c.in_ok-home.field-0 c.in-Some.home (ap (λ (x : Text). words x (content s1)) inv.text ∙ w1) c.in-Some.is (c.in_ok-home.ensures.gives t1) h2.pending in
    let t2 = tells_then s1 s2 reads t1 in
    homed_failed volume w (words t (content s2)) cur c.next.new.self homes s0 s2 s3 h2 c.in-Some.home (same_words t s1 s2 reads ∙ w1) (sink_after s0 s1 s2 inv.sink reads.sink) given
    (c.write_home.ensures.grows t2) (c.write_home.ensures.crash t2)

pub returns-clause-crash : goal.returns-clause-crash
returns-clause-crash g c tells volume homes a =
    let s0 = g.D.SectorDisk.state c.args.disk.now in
    let s1 = g.D.SectorDisk.state c.loop-home.disk in
    let s2 = g.D.SectorDisk.state c.next.new.disk in
    let inv = c.loop-home.invariant in
    let w = words c.args.text.now (content s0) in
    let cur = c.loop-home.homes in
    homed_leaves volume w cur homes s0 s2 (homed_read volume w cur homes s0 s1 s2 (inv.value tells volume homes a) inv.sink c.next.ensures.reads)

pub returns-clause-written : goal.returns-clause-written
returns-clause-written g c tells volume homes a =
    let s0 = g.D.SectorDisk.state c.args.disk.now in
    let s1 = g.D.SectorDisk.state c.loop-home.disk in
    let s2 = g.D.SectorDisk.state c.next.new.disk in
    let inv = c.loop-home.invariant in
    let t = c.args.text.now in
    let w = words t (content s0) in
    let cur = c.loop-home.homes in
    let h1 = inv.value tells volume homes a in
    let w1 : words t (content s1) ≡ w = words_stay s0.sectors t w volume homes cur s0 s1 a h1 in
    let h2 = homed_read volume w cur homes s0 s1 s2 h1 inv.sink c.next.ensures.reads in
    homed_end volume w cur homes s0 s2 h2
    (given_none volume w (words cur.text (content s1)) cur c.next.new.self h2.rest c.in_ok-home.field-0 (ap (λ (x : Text). words x (content s1)) inv.text ∙ w1) c.in_default.is (c.in_ok-home.ensures.gives (inv.same.tells ∙ tells)) h2.pending)
