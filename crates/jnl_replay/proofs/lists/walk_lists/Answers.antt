use Rattle.std.proofs.Common.{◌≡◌, ◌<◌, ◌≤◌, ◌+◌, length, refl, sym, ◌∙◌, ap, arith, List, ℕ, true, false}
use Rattle.std.specs.Prelude.{Option, is_some}
use Rattle.sector_disk.specs.Disk.{content}
use Rattle.jnl_format.specs.Text.{is_list_as, head_at}
use Rattle.jnl_format.proofs.Lists.{next_bad_as, here_bad_as, none_bad_as}
use Rattle.jnl_replay.specs.Text.{words}
use Rattle.jnl_replay.proofs.Listing.{if_some}
use Rattle.sector_disk.proofs.Writing.{reads_none, reads_both}
use Rattle.jnl_replay.proofs.ReadOn.{same_words, tells_then}
use Rattle.jnl_replay.proofs.Texts.{length-words}
use Rattle.jnl_replay.proofs.lists.walk_lists.Goals as goal

pub loop-at-init : goal.loop-at-init
loop-at-init g c =
    let s0 = g.D.SectorDisk.state c.args.disk.now in
    let w = words c.args.text.now (content s0) in
    record { reads = reads_none s0; inside = omega arith; value = λ tells. (length w, omega arith, refl) }

pub loop-at-preserved : goal.loop-at-preserved
loop-at-preserved g c =
    let s0 = g.D.SectorDisk.state c.args.disk.now in
    let s1 = g.D.SectorDisk.state c.loop-at.disk in
    let s2 = g.D.SectorDisk.state c.list_bytes.new.disk in
    let inv = c.loop-at.invariant in
    let t = c.args.text.now in
    let v = c.args.volume.now in
    let w = words t (content s0) in
    let at = c.loop-at.at in
    let used = c.in-Some.used in
    record {
      reads = reads_both s0 s1 s2 inv.reads c.list_bytes.ensures.reads;
      inside = if_some (λ n. at + n ≤ t.length) c.in_ok-used.field-0 used c.in-Some.is c.in_ok-used.ensures.inside;
      value = λ tells.
          let t1 = tells_then s0 s1 inv.reads tells in
          let same = same_words t s0 s1 inv.reads in
          let long = length-words s0 t (g.met.D.SectorDisk.well_formed c.args.disk.now) tells c.requires.text in
          let known = inv.value tells in
          let below : at < length w = omega (arith, long, c.loop-at-test.true) in
          let good : is_list_as c.args.dialect v t.order t.blhdr w at ≡ true =
          ap (λ (b : List ℕ). is_list_as c.args.dialect v t.order t.blhdr b at) (sym same) ∙ sym (c.in_ok-used.ensures.value t1) ∙ ap (λ (o : Option ℕ). is_some o) c.in-Some.is in
          let is : used ≡ (head_at t.order w at).used =
          if_some (λ n. n ≡ (head_at t.order (words t (content s1)) at).used) c.in_ok-used.field-0 used c.in-Some.is (c.in_ok-used.ensures.used t1) ∙ ap (λ (b : List ℕ). (head_at t.order b at).used) same in
          let some : 0 < used = if_some (λ n. 0 < n) c.in_ok-used.field-0 used c.in-Some.is c.in_ok-used.ensures.some in
          let n = next_bad_as c.args.dialect v t.order t.blhdr w known.0 at used known.1 below good is some in
          (n.0, n.1, known.2 ∙ n.2);
    }

pub returns-in-None-clause-value : goal.returns-in-None-clause-value
returns-in-None-clause-value g c tells =
    let s0 = g.D.SectorDisk.state c.args.disk.now in
    let s1 = g.D.SectorDisk.state c.loop-at.disk in
    let inv = c.loop-at.invariant in
    let t = c.args.text.now in
    let v = c.args.volume.now in
    let w = words t (content s0) in
    let at = c.loop-at.at in
    let t1 = tells_then s0 s1 inv.reads tells in
    let same = same_words t s0 s1 inv.reads in
    let long = length-words s0 t (g.met.D.SectorDisk.well_formed c.args.disk.now) tells c.requires.text in
    let known = inv.value tells in
    let below : at < length w = omega (arith, long, c.loop-at-test.true) in
    let bad : is_list_as c.args.dialect v t.order t.blhdr w at ≡ false =
    ap (λ (b : List ℕ). is_list_as c.args.dialect v t.order t.blhdr b at) (sym same) ∙ sym (c.in_ok-used.ensures.value t1) ∙ ap (λ (o : Option ℕ). is_some o) c.in-None.is in
    sym (known.2 ∙ here_bad_as c.args.dialect v t.order t.blhdr w known.0 at known.1 below bad)

pub returns-clause-value : goal.returns-clause-value
returns-clause-value g c tells =
    let s0 = g.D.SectorDisk.state c.args.disk.now in
    let t = c.args.text.now in
    let v = c.args.volume.now in
    let w = words t (content s0) in
    let long = length-words s0 t (g.met.D.SectorDisk.well_formed c.args.disk.now) tells c.requires.text in
    let known = c.loop-at.invariant.value tells in
    sym (known.2 ∙ none_bad_as c.args.dialect v t.order t.blhdr w known.0 c.loop-at.at (omega (arith, long, c.loop-at-test.false)))
