use Rattle.std.proofs.Common.{◌≡◌, ◌<◌, ◌≤◌, ℕ, ◌+◌, ◌-◌, ◌*◌, ◌^◌, min, IsTrue, List, sym, ◌∙◌, ap, subst, arith}
use Rattle.std.specs.Prelude.{slice_get, max}
use Rattle.std.specs.List.{count_by, range_with_len}
use Rattle.sector_disk.specs.Space.{Space}
use Rattle.jnl_format.specs.Recovery.{Content}
use Rattle.fork_map.specs.Blocks.{fork_sectors}
use Rattle.btree_file.specs.FrameLaws.{reads_both}
use Rattle.fsck_scan.specs.Read.{sector_or_zeros}
use Rattle.fsck_core.specs.Behind.{fork_bit, reached}
use Rattle.fsck_core.proofs.BehindLaws.{sector_bits, sector_more, saturated}
use Rattle.fsck_core.proofs.behind.count_stretch.Goals as goal

pub loop-at-preserved : goal.loop-at-preserved
loop-at-preserved g c =
    let old : Space = g.V.SectorView.space c.args.view.now in
    let now : Space = g.V.SectorView.space c.loop-at.view in
    let new : Space = g.V.SectorView.space c.read_sector.new.view in
    let limit : ℕ = c.args.fork.now.limit in
    let sectors : List ℕ = fork_sectors c.args.fork.now.extents.now c.args.fork.now.per_block in
    let at : ℕ = c.loop-at.at in
    let from : ℕ = c.bits_from.result in
    let to : ℕ = c.bits_to.result in
    let inside : at * 4096 < 8 * c.args.size = omega (arith, c.loop-at-test.true, c.requires.end) in
    record {
      most = omega (arith, c.loop-at-test.true);
      least_from = omega (arith, c.loop-at.invariant.least_from);
      count = λ tells begun.
          let told : IsTrue now.tells = c.loop-at.invariant.reads.same.tells ∙ tells in
          let content : now.content ≡ old.content = (c.loop-at.invariant.reads.sectors tells).content in
          let sector : c.read_sector.new.into ≡ sector_or_zeros old.content limit (slice_get sectors at) = c.in_ok-read_sector.ensures.value told ∙ ap (λ (ct : Content). sector_or_zeros ct limit (slice_get sectors at)) content in
          let fits : from + (to - from) ≤ 4096 = omega (arith, c.bits_from.ensures.few, c.bits_to.ensures.few) in
          let bits : c.count_bits.result ≡ count_by (fork_bit old.content limit sectors) (range_with_len (at * 4096 + from) (to - from)) =
          c.count_bits.ensures.value ∙ sym (sector_bits old.content limit sectors at from (to - from) c.read_sector.new.into fits sector) in
          saturated (count_by (fork_bit old.content limit sectors) (range_with_len c.args.total (reached c.args.total (8 * c.args.size) at - c.args.total))) c.count_bits.result c.loop-at.count c.saturating_add-count.result (2 ^ 64 - 1)
          (c.loop-at.invariant.count tells begun) c.saturating_add-count.ensures
          ∙ ap (λ n. min n (2 ^ 64 - 1)) (ap (λ n. count_by (fork_bit old.content limit sectors) (range_with_len c.args.total (reached c.args.total (8 * c.args.size) at - c.args.total)) + n) bits
          ∙ sym (sector_more (fork_bit old.content limit sectors) c.args.total (8 * c.args.size) at from to inside c.loop-at.invariant.least c.bits_from.ensures.value c.bits_to.ensures.value));
      least = omega (arith, c.loop-at.invariant.least);
      reads = reads_both old now new c.loop-at.invariant.reads c.read_sector.ensures.reads;
      below = g.met.V.SectorView.follows_trans c.args.view.now c.loop-at.view c.read_sector.new.view c.loop-at.invariant.below c.read_sector.ensures.below;
    }

pub returns-clause-value : goal.returns-clause-value
returns-clause-value g c tells begun =
    let same : c.loop-at.at ≡ max c.args.from c.args.to = omega (arith, c.loop-at-test.false, c.loop-at.invariant.most, c.loop-at.invariant.least_from) in
    subst (λ n. c.loop-at.count ≡ min (count_by (fork_bit (g.V.SectorView.space c.args.view.now).content c.args.fork.now.limit (fork_sectors c.args.fork.now.extents.now c.args.fork.now.per_block)) (range_with_len c.args.total (reached c.args.total (8 * c.args.size) n - c.args.total))) (2 ^ 64 - 1))
    same (c.loop-at.invariant.count tells begun)
