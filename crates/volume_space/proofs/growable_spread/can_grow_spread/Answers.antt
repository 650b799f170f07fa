use Rattle.std.proofs.Common.{IsTrue, ◌≡◌, ◌<◌, ◌*◌, ◌-◌, length, refl, ◌∙◌, subst, arith}
use Rattle.alloc_bitmap.specs.Map.{free_of}
use Rattle.volume_space.specs.Growing.{HasFreeRun, blocks_filled}
use Rattle.volume_space.specs.SpreadGrowth.{HasRoomForRun, NumbersHaveRoom}
use Rattle.volume_space.proofs.growable_spread.can_grow_spread.Goals as goal

pub returns-clause-sure : goal.returns-clause-sure
returns-clause-sure g c is =
    let free = c.if-not-has_free_run.ensures in
    let counts : NumbersHaveRoom c.args.more c.args.file.now c.args.fork c.args.volume.now = c.if-not-numbers_have_room.ensures.room refl in
    let blocks : c.count_blocks-blocks.result ≡ blocks_filled c.args.file.now c.args.more = c.count_blocks-blocks.ensures in
    let size : c.from.result * c.from-2.result ≡ length c.args.volume.now.map.used * c.args.file.now.per_block = λ i. (c.from.ensures ∙ c.total.ensures) i * (c.from-2.ensures ∙ c.per_block-2.ensures) i in
    record {
      some = subst (λ n. 0 < n) blocks (free.some refl);
      whole = counts.whole;
      enough = omega (arith, free.enough refl, blocks);
      run = subst (λ n. HasFreeRun n (free_of c.args.volume.now.map)) blocks (free.run refl);
      nodes = counts.nodes;
      blocks = counts.blocks;
      bytes = counts.bytes;
      counted = counts.counted;
      inside = omega (arith, c.if-from-sectors.false, c.sectors.ensures, size);
      unchanged = c.requires.unchanged;
      room = omega (arith, c.if-spare-sectors.false, c.count_growth_sectors-sectors.ensures, c.spare-spare.ensures);
    }

pub returns-clause-records : goal.returns-clause-records
returns-clause-records g c is = subst (λ n. HasRoomForRun c.args.volume.now n) (λ i. c.spare-spare.ensures i - c.count_growth_sectors-sectors.ensures i) (c.can_store_run.ensures.room is)
