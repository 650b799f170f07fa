use Rattle.std.proofs.Common.{◌∙◌, ◌++◌, [], ◌∷◌, take, subst, sym, ap}
use Rattle.std.proofs.lemmas.List.{take_all, take_more}
use Rattle.mem_disk.proofs.Settling.{Settles, settles_all, settles_full, settles_one}
use Rattle.mem_disk.proofs.past.settle_all.Goals as goal

pub settle_written-requires : goal.settle_written-requires
settle_written-requires c = settles_full c.args.table.now c.loop-event.table (take c.loop-event.event-index c.args.events.now) c.requires.full c.loop-event.invariant

pub loop-event-preserved : goal.loop-event-preserved
loop-event-preserved c =
    let before = take c.loop-event.event-index c.args.events.now in
    let more = take_more c.args.events.now c.loop-event.event-index c.event-item.result c.loop-event-test.true ∙ ap (λ e. before ++ e ∷ []) (sym c.event-item.is) in
    subst (Settles c.args.table.now c.settle_written.new.table) (sym more)
    (subst (λ t. Settles c.args.table.now t (before ++ c.event-item.result ∷ [])) (sym c.settle_written.ensures) (settles_one c.args.table.now c.loop-event.table before c.event-item.result c.loop-event.invariant))

pub returns : goal.returns
returns c =
    settles_all c.args.table.now c.loop-event.table c.args.events.now
    (subst (Settles c.args.table.now c.loop-event.table) (take_all c.loop-event.event-index c.args.events.now c.loop-event-test.false) c.loop-event.invariant) c.requires.pending
