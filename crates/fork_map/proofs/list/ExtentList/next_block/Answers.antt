use Rattle.std.proofs.Common.{◌+◌, List, slice_get, subst, ap, sym, ◌∙◌}
use Rattle.hx_bytes.specs.declared.extents.Extent.{Extent}
use Rattle.fork_map.specs.Blocks.{blocks_of}
use Rattle.fork_map.specs.Cursors.{IsAt}
use Rattle.fork_map.proofs.CursorLaws.{cursor, at_next, at_block, at_behind, at_end}
use Rattle.fork_map.proofs.list.ExtentList.next_block.Goals as goal

pub loop-index-preserved : goal.loop-index-preserved
loop-index-preserved c = λ n s. at_next c.as_slice-items.result.now c.loop-index.index c.loop-index.offset n (record { start = 0; count = 0 }) c.loop-index-test.true c.if-offset-extent.false (c.loop-index.invariant n s)

pub returns-then-offset-extent-clause-block : goal.returns-then-offset-extent-clause-block
returns-then-offset-extent-clause-block c = λ n s.
    let items : List Extent = c.as_slice-items.result.now in
    at_block items c.loop-index.index c.loop-index.offset n (record { start = 0; count = 0 }) c.loop-index-test.true c.if-offset-extent.true
    (c.loop-index.invariant n (subst (λ (l : List Extent). IsAt l c.args.at.now n) (sym c.as_slice-items.ensures) s))
    ∙ ap (λ (l : List Extent). slice_get (blocks_of l) n) c.as_slice-items.ensures

pub returns-then-offset-extent-clause-moved : goal.returns-then-offset-extent-clause-moved
returns-then-offset-extent-clause-moved c = λ n s some.
    let items : List Extent = c.as_slice-items.result.now in
    subst (λ (l : List Extent). IsAt l (cursor c.loop-index.index (c.loop-index.offset + 1)) (n + 1)) c.as_slice-items.ensures
    (at_behind items c.loop-index.index c.loop-index.offset n (record { start = 0; count = 0 }) c.loop-index-test.true c.if-offset-extent.true
    (c.loop-index.invariant n (subst (λ (l : List Extent). IsAt l c.args.at.now n) (sym c.as_slice-items.ensures) s)))

pub returns-clause-block : goal.returns-clause-block
returns-clause-block c = λ n s.
    let items : List Extent = c.as_slice-items.result.now in
    at_end items c.loop-index.index c.loop-index.offset n c.loop-index-test.false
    (c.loop-index.invariant n (subst (λ (l : List Extent). IsAt l c.args.at.now n) (sym c.as_slice-items.ensures) s))
    ∙ ap (λ (l : List Extent). slice_get (blocks_of l) n) c.as_slice-items.ensures
