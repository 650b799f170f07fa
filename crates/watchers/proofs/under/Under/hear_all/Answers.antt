use Rattle.std.proofs.Common.{◌≡◌, ◌+◌, ◌∷◌, ◌++◌, ◌∙◌, [], List, take, subst, sym, ap}
use Rattle.std.proofs.lemmas.List.{take_more}
use Rattle.hfs_language.specs.declared.reply.Change.{Change}
use Rattle.watchers.specs.declared.watcher.Keep.{Keep}
use Rattle.watchers.specs.Under.{HearsUnder, TellsUnder}
use Rattle.watchers.proofs.Hearings.{tells_none, tells_next}
use Rattle.watchers.proofs.under.Under.hear_all.Goals as goal

pub loop-change-init : goal.loop-change-init
loop-change-init g c = tells_none g.W.Watcher.told g.W.Watcher.leaves c.args.self.now

pub loop-change-preserved : goal.loop-change-preserved
loop-change-preserved g c =
    let k = c.loop-change.change-index in
    let there = take_more c.as_slice-change-items.result.now k c.change-item.result c.loop-change-test.true ∙ ap (λ (e : Change). take k c.as_slice-change-items.result.now ++ e ∷ []) (sym c.change-item.is) in
    let more = subst (λ (list : List Change). take (k + 1) list ≡ take k list ++ c.change-item.result ∷ []) c.as_slice-change-items.ensures there in
    let heard = subst (λ (answer : Keep). HearsUnder g.W.Watcher.told g.W.Watcher.leaves c.change-item.result c.loop-change.self c.hear.new.self answer) (c.is_leave.ensures c.if-is_leave.false) c.in_ok-answer.ensures.heard in
    subst (λ (list : List Change). TellsUnder g.W.Watcher.told list c.args.self.now c.hear.new.self) (sym more)
    (tells_next g.W.Watcher.told g.W.Watcher.leaves (take k c.args.changes.now) c.change-item.result c.args.self.now c.loop-change.self c.hear.new.self c.loop-change.invariant heard)
