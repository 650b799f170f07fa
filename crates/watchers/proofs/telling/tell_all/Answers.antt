use Rattle.std.proofs.Common.{◌≡◌, ◌+◌, ◌≤◌, ◌∷◌, ◌++◌, ◌∙◌, [], List, length, take, subst, sym, ap}
use Rattle.std.proofs.lemmas.List.{take_all, take_more}
use Rattle.hfs_language.specs.declared.reply.Change.{Change}
use Rattle.watchers.proofs.Tellings.{told_nothing, told_both, told_same}
use Rattle.watchers.proofs.telling.tell_all.Goals as goal

pub loop-change-init : goal.loop-change-init
loop-change-init g c = λ stay. told_nothing _ _ c.args.watchers.now.items stay

pub loop-change-preserved : goal.loop-change-preserved
loop-change-preserved g c = λ stay.
    let before = take c.loop-change.change-index c.args.changes.now in
    let k = c.loop-change.change-index in
    let there = take_more c.as_slice-change-items.result.now k c.change-item.result c.loop-change-test.true ∙ ap (λ (e : Change). take k c.as_slice-change-items.result.now ++ e ∷ []) (sym c.change-item.is) in
    let more = subst (λ (list : List Change). take (k + 1) list ≡ take k list ++ c.change-item.result ∷ []) c.as_slice-change-items.ensures there in
    told_same _ _ (before ++ c.change-item.result ∷ []) (take (k + 1) c.args.changes.now) _ _ (sym more)
    (told_both _ _ before (c.change-item.result ∷ []) _ _ _ (c.loop-change.invariant stay) c.tell_each.ensures)

pub returns : goal.returns
returns g c = record {
  told = λ stay. told_same _ _ (take c.loop-change.change-index c.args.changes.now) c.args.changes.now _ _ (take_all c.loop-change.change-index c.args.changes.now (subst (λ (list : List Change). length list ≤ c.loop-change.change-index) c.as_slice-change-items.ensures c.loop-change-test.false)) (c.loop-change.invariant stay);
}
