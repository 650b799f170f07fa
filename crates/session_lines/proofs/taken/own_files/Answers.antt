use Rattle.std.proofs.Common.{sym, ◌∙◌, ap}
use Rattle.std.specs.Prelude.{Some}
use Rattle.session_lines.proofs.KeptOwn.{own_all, own_more, own_never}
use Rattle.session_lines.proofs.taken.own_files.Goals as goal

pub loop-told-preserved : goal.loop-told-preserved
loop-told-preserved c =
    own_more c.args.each.now c.loop-told.told-index _ c.told-item.result c.loop-told.files.items c.in-Some.id c.loop-told-test.true c.told-item.is c.loop-told.invariant (sym c.in_ok-id.ensures ∙ c.in-Some.is)
    ∙ ap Some (sym c.in_ok-push-in-Some.ensures.items)

pub returns-in-None : goal.returns-in-None
returns-in-None c = own_never c.args.each.now c.loop-told.told-index _ c.told-item.result c.loop-told-test.true c.told-item.is (sym c.in_ok-id.ensures ∙ c.in-None.is)

pub returns : goal.returns
returns c = own_all c.args.each.now c.loop-told.told-index c.loop-told.files.items c.reverse.new.self.items c.loop-told-test.false c.loop-told.invariant c.reverse.ensures.items
