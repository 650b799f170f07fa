use Rattle.std.proofs.Common.{◌++◌, List, ap, ◌∙◌}
use Rattle.hx_bytes.specs.declared.extents.Extent.{Extent}
use Rattle.fork_map.proofs.Laws.{no_more_front}
use Rattle.fork_map.proofs.edits.push_front.Goals as goal

pub returns-else-place-items : goal.returns-else-place-items
returns-else-place-items c =
    let p = c.find_place-place.result in
    let d : Extent = record { start = 0; count = 0 } in
    c.in_ok-extend_from_slice.ensures.items ∙ ap (λ (l : List Extent). c.args.list.now.items ++ l) (no_more_front c.args.items.now p.index p.offset c.args.n d c.else-place-items.either (c.find_place-place.ensures.inside d) c.find_place-place.ensures.front)
