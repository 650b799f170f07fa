use Rattle.std.proofs.Common.{ap, sym, ◌∙◌, arith, List, slice_get}
use Rattle.hx_bytes.specs.declared.extents.Extent.{Extent}
use Rattle.fork_map.specs.Blocks.{blocks_of}
use Rattle.fork_map.proofs.Laws.{block_at_cut, no_block_at}
use Rattle.fork_map.proofs.list.ExtentList.block_at.Goals as goal

pub returns-then-place-items : goal.returns-then-place-items
returns-then-place-items c =
    let p = c.find_place-place.result in
    let d : Extent = record { start = 0; count = 0 } in
    record {
      block = sym (block_at_cut c.as_slice-items.result.now p.index p.offset c.args.n d c.if-place-items.true (c.find_place-place.ensures.inside d c.if-place-items.true) c.find_place-place.ensures.back)
          ∙ ap (λ (l : List Extent). slice_get (blocks_of l) c.args.n) (c.as_slice-items.ensures.value ∙ c.self.view_is);
      bound = omega arith;
    }

pub returns-else-place-items : goal.returns-else-place-items
returns-else-place-items c = record {
  block = sym (no_block_at c.as_slice-items.result.now c.find_place-place.result.index c.find_place-place.result.offset c.args.n c.if-place-items.false c.find_place-place.ensures.back)
      ∙ ap (λ (l : List Extent). slice_get (blocks_of l) c.args.n) (c.as_slice-items.ensures.value ∙ c.self.view_is);
  bound = tt;
}
