use Rattle.std.proofs.Common.{◌≡◌, ◌≤◌, ℕ, ◌*◌, ◌-◌, ◌^◌, min, max, IsTrue, List, sym, ◌∙◌, arith}
use Rattle.std.proofs.Math.Nat.{mul-le-mul_right}
use Rattle.sector_disk.specs.Space.{Space}
use Rattle.jnl_format.specs.Recovery.{Content}
use Rattle.hx_bytes.specs.declared.extents.Extent.{Extent}
use Rattle.fork_map.specs.Blocks.{fork_sectors}
use Rattle.btree_file.specs.FrameLaws.{reads_both, reads_none}
use Rattle.fsck_core.specs.Behind.{set_up_to, told_before, all_blocks}
use Rattle.fsck_core.specs.declared.sums.BlockSum.{BlockSum}
use Rattle.fsck_core.proofs.BehindSums.{sums_begin, sums_none, sums_more}
use Rattle.fsck_core.proofs.behind.sum_bits.Goals as goal

pub loop-k-init : goal.loop-k-init
loop-k-init g c =
    let content : Content = (g.V.SectorView.space c.args.view.now).content in
    let limit : ℕ = c.args.whole.now.limit in
    let per : ℕ = c.args.whole.now.per_block in
    record {
      most = omega arith;
      count = λ tells whole. sums_begin content limit c.args.total per;
      sums = λ tells whole. sums_none content limit c.args.total per c.new-sums.result.items c.new-sums.ensures.items;
      reads = reads_none (g.V.SectorView.space c.args.view.now);
      below = g.met.V.SectorView.follows_refl c.args.view.now;
    }

pub loop-k-preserved : goal.loop-k-preserved
loop-k-preserved g c =
    let old : Space = g.V.SectorView.space c.args.view.now in
    let now : Space = g.V.SectorView.space c.loop-k.view in
    let new : Space = g.V.SectorView.space c.count_stretch.new.view in
    let limit : ℕ = c.args.whole.now.limit in
    let per : ℕ = c.args.whole.now.per_block in
    let es : List Extent = c.args.whole.now.extents.now in
    let total : ℕ = c.args.total in
    let done : ℕ = c.loop-k.done in
    let end : ℕ = c.next_end-end.result in
    let further : done * per ≤ end * per = mul-le-mul_right per c.next_end-end.ensures.low in
    let next : max (done * per) (end * per) ≡ end * per = omega (arith, further) in
    let count : IsTrue old.tells → es ≡ all_blocks total → c.in_ok-count.count ≡ told_before old.content limit total per end = λ tells whole.
    let told : IsTrue now.tells = c.loop-k.invariant.reads.same.tells ∙ tells in
    let content : now.content ≡ old.content = (c.loop-k.invariant.reads.sectors tells).content in
    let before : c.loop-k.count ≡ min (set_up_to now.content limit (fork_sectors es per) 0 (8 * (total * per * 512)) (done * per)) (2 ^ 64 - 1) =
    c.loop-k.invariant.count tells whole ∙ (λ i. min (set_up_to (sym content i) limit (fork_sectors (sym whole i) per) 0 (8 * (total * per * 512)) (done * per)) (2 ^ 64 - 1)) in
    c.in_ok-count.ensures.value told before ∙ (λ i. min (set_up_to (content i) limit (fork_sectors (whole i) per) 0 (8 * (total * per * 512)) (next i)) (2 ^ 64 - 1)) in
    let sum : BlockSum = record { block = end; bits = c.in_ok-count.count } in
    record {
      most = c.next_end-end.ensures.high;
      count = count;
      sums = λ tells whole. sums_more old.content limit total per sum c.loop-k.sums.items c.push_sum.new.sums.items c.in_ok-push_sum.ensures (c.loop-k.invariant.sums tells whole) (count tells whole);
      reads = reads_both old now new c.loop-k.invariant.reads c.in_ok-count.ensures.reads;
      below = g.met.V.SectorView.follows_trans c.args.view.now c.loop-k.view c.count_stretch.new.view c.loop-k.invariant.below c.in_ok-count.ensures.below;
    }

pub returns-clause-value : goal.returns-clause-value
returns-clause-value g c = c.loop-k.invariant.sums

pub returns-in_err-count-clause-reads : goal.returns-in_err-count-clause-reads
returns-in_err-count-clause-reads g c = reads_both (g.V.SectorView.space c.args.view.now) (g.V.SectorView.space c.loop-k.view) (g.V.SectorView.space c.count_stretch.new.view) c.loop-k.invariant.reads c.in_err-count.ensures.reads

pub returns-in_err-push_sum-clause-reads : goal.returns-in_err-push_sum-clause-reads
returns-in_err-push_sum-clause-reads g c = reads_both (g.V.SectorView.space c.args.view.now) (g.V.SectorView.space c.loop-k.view) (g.V.SectorView.space c.count_stretch.new.view) c.loop-k.invariant.reads c.in_ok-count.ensures.reads
