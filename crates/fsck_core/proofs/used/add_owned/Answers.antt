use Rattle.std.proofs.Common.{◌++◌, List, ◌∙◌, ap, arith}
use Rattle.std.specs.List.{flat_map}
use Rattle.std.proofs.lemmas.List.{take_all}
use Rattle.hx_bytes.specs.declared.extents.Extent.{Extent}
use Rattle.fork_map.specs.Blocks.{blocks_of}
use Rattle.fsck_core.specs.Overflows.{overflows_in}
use Rattle.fsck_core.specs.declared.follow.OwnedFork.{OwnedFork}
use Rattle.fsck_core.proofs.UsedLists.{no_fork, blocks_at, owned_blocks_more, owned_blocks_all}
use Rattle.fsck_core.proofs.used.add_owned.Goals as goal

pub loop-owned-preserved : goal.loop-owned-preserved
loop-owned-preserved c = record {
  blocks = owned_blocks_more (overflows_in c.args.rows.now) c.args.forks.now c.loop-owned.owned-index no_fork c.args.list.now c.loop-owned.list c.add_extents.new.list c.in_ok-extents.extents c.loop-owned-test.true
      c.loop-owned.invariant.blocks c.in_ok-extents.ensures (c.in_ok-add_extents.ensures ∙ ap (λ (l : List Extent). c.loop-owned.list ++ l) c.as_slice.ensures);
}

pub returns : goal.returns
returns c = c.loop-owned.invariant.blocks
    ∙ ap (λ (l : List OwnedFork). blocks_of c.args.list.now ++ flat_map (blocks_at (overflows_in c.args.rows.now)) l) (take_all c.loop-owned.owned-index c.args.forks.now (omega (arith, c.loop-owned-test.false)))
    ∙ ap (λ l. blocks_of c.args.list.now ++ l) (owned_blocks_all (overflows_in c.args.rows.now) c.args.forks.now)
