use Rattle.std.proofs.Common.{◌++◌, ◌-◌, List, ap, ◌∙◌, length, take, drop}
use Rattle.hx_bytes.specs.declared.extents.Extent.{Extent}
use Rattle.fork_map.proofs.Laws.{joins_empty, joins_all}
use Rattle.fork_map.proofs.edits.push_all.Goals as goal

pub returns-in_default : goal.returns-in_default
returns-in_default c = joins_empty c.args.list.now.items c.args.items.now c.in_default.len_below

pub returns-in_ok-extend_from_slice : goal.returns-in_ok-extend_from_slice
returns-in_ok-extend_from_slice c =
    c.in_ok-extend_from_slice.ensures.items
    ∙ ap (λ (l : List Extent). l ++ take (length c.args.items.now - 1) (drop 1 c.args.items.now)) c.in_ok-push_joined.ensures
    ∙ joins_all c.args.list.now.items c.args.items.now (record { start = 0; count = 0 }) c.in-len1-up.len_at_least
