use Rattle.std.proofs.Common.{List, subst}
use Rattle.hx_bytes.specs.declared.extents.Extent.{Extent}
use Rattle.fork_map.specs.Cursors.{IsAt}
use Rattle.fork_map.proofs.CursorLaws.{cursor, at_place}
use Rattle.fork_map.proofs.list.ExtentList.seek.Goals as goal

pub returns : goal.returns
returns c =
    let p = c.find_place-place.result in
    subst (λ (l : List Extent). IsAt l (cursor p.index p.offset) c.args.n) c.as_slice.ensures
    (at_place c.as_slice.result.now p.index p.offset c.args.n c.find_place-place.ensures.inside c.find_place-place.ensures.back)
