use Rattle.std.proofs.Common.{◌++◌, ◌-◌, ◌+◌, List, ap, ◌∙◌, arith, take, drop, length}
use Rattle.hx_bytes.specs.declared.extents.Extent.{Extent}
use Rattle.fork_map.proofs.Laws.{number_at_cut, joins_back, joins_no_back}
use Rattle.fork_map.proofs.edits.push_back.Goals as goal

pub overflow_add-extent : goal.overflow_add-extent
overflow_add-extent c =
    let p = c.find_place-place.result in
    let d : Extent = record { start = 0; count = 0 } in
    omega (arith, number_at_cut c.args.items.now p.index p.offset c.args.n d c.requires c.if-place-items.true (c.find_place-place.ensures.inside d c.if-place-items.true) c.find_place-place.ensures.back)

pub returns-in_ok-extend_from_slice : goal.returns-in_ok-extend_from_slice
returns-in_ok-extend_from_slice c =
    let p = c.find_place-place.result in
    let d : Extent = record { start = 0; count = 0 } in
    c.in_ok-extend_from_slice.ensures.items
    ∙ ap (λ (l : List Extent). l ++ take (length c.args.items.now - (p.index + 1)) (drop (p.index + 1) c.args.items.now)) c.in_ok-push_joined.ensures
    ∙ joins_back c.args.items.now c.args.list.now.items p.index p.offset c.args.n d c.if-place-items.true (c.find_place-place.ensures.inside d c.if-place-items.true) c.find_place-place.ensures.back

pub returns-else-place-items : goal.returns-else-place-items
returns-else-place-items c = joins_no_back c.args.items.now c.args.list.now.items c.find_place-place.result.index c.find_place-place.result.offset c.args.n c.if-place-items.false c.find_place-place.ensures.back
