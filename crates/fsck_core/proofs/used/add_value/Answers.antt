use Rattle.std.proofs.Common.{◌≡◌, ◌++◌, List, Err, sym, ◌∙◌, ap, subst, append-nil}
use Rattle.std.specs.Prelude.{OnOk}
use Rattle.hx_bytes.specs.declared.extents.Extent.{Extent}
use Rattle.hfs_volume.specs.Forks.{in_use}
use Rattle.hfs_volume.specs.Values.{extents_in}
use Rattle.fsck_core.proofs.ValueLaws.{reads, unread}
use Rattle.fsck_core.proofs.used.add_value.Goals as goal

pub returns-in-Ok-Fork : goal.returns-in-Ok-Fork
returns-in-Ok-Fork c =
    let there = reads c.args.value.now c.read_attr.result c.in-Ok-Fork.field-0 c.in-Ok-Fork.is c.in-Ok-Fork.ensures.read c.read_attr.ensures.refused in
    subst (λ (l : List Extent). OnOk c.push_used.result (c.push_used.new.list ≡ c.args.list.now ++ l)) (sym (ap (λ r. in_use (extents_in r)) (there.1 ∙ c.in-Ok-Fork.field-0-is))) c.push_used.ensures

pub returns-in-Ok-More : goal.returns-in-Ok-More
returns-in-Ok-More c =
    let there = reads c.args.value.now c.read_attr.result c.in-Ok-More.field-0 c.in-Ok-More.is c.in-Ok-More.ensures.read c.read_attr.ensures.refused in
    subst (λ (l : List Extent). OnOk c.push_used-in-Ok-More.result (c.push_used-in-Ok-More.new.list ≡ c.args.list.now ++ l)) (sym (ap (λ r. in_use (extents_in r)) (there.1 ∙ c.in-Ok-More.field-0-is))) c.push_used-in-Ok-More.ensures

pub returns-in-Ok-Inline : goal.returns-in-Ok-Inline
returns-in-Ok-Inline c =
    let there = reads c.args.value.now c.read_attr.result c.in-Ok-Inline.field-0 c.in-Ok-Inline.is c.in-Ok-Inline.ensures.read c.read_attr.ensures.refused in
    sym (append-nil c.args.list.now) ∙ ap (λ r. c.args.list.now ++ in_use (extents_in r)) (sym (there.1 ∙ c.in-Ok-Inline.field-0-is))

pub returns : goal.returns
returns c =
    let there = unread c.args.value.now c.read_attr.result c.in-Err-BadRecord.field-0-0 c.in-Err-BadRecord.field-0-1 (c.in-Err-BadRecord.is ∙ ap Err c.in-Err-BadRecord.field-0-is) c.read_attr.ensures.refused in
    sym (append-nil c.args.list.now) ∙ ap (λ r. c.args.list.now ++ in_use (extents_in r)) (sym there.1)
