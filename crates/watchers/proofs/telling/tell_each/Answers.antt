use Rattle.std.proofs.Common.{◌<◌, ◌∷◌, ◌++◌, ◌∙◌, [], inl, inr, length, refl, sym, ap, arith}
use Rattle.std.proofs.lemmas.List.{append-nil, get_or_read}
use Rattle.watchers.proofs.Tellings.{half_none, half_stays, half_left, half_end}
use Rattle.watchers.proofs.telling.tell_each.Goals as goal

pub loop-at-init : goal.loop-at-init
loop-at-init g c = half_none _ _ _ c.args.watchers.now.items

pub returns : goal.returns
returns g c = half_end _ _ _ _ _ c.loop-at.at c.loop-at.invariant (omega arith)

pub loop-at-preserved : goal.loop-at-preserved
loop-at-preserved g c =
    let items = c.loop-at.watchers.items in
    let inside : c.loop-at.at < length items = omega arith in
    half_stays _ _ _ c.args.watchers.now.items items c.loop-at.at c.has_left.new.watcher c.loop-at.invariant inside
    (c.has_left.ensures.stays c.if-has_left.false ∙ ap (λ v. g.W.Watcher.told v ++ c.args.change.now ∷ []) (get_or_read items c.loop-at.at c.index_mut.result.now inside c.index_mut.ensures.value c.has_left.new.watcher))
    (sym c.has_left.ensures.leaves ∙ c.if-has_left.false)

pub loop-at-preserved-then-has_left : goal.loop-at-preserved-then-has_left
loop-at-preserved-then-has_left g c =
    let items = c.loop-at.watchers.items in
    let inside : c.loop-at.at < length items = omega arith in
    let same = get_or_read items c.loop-at.at c.index_mut.result.now inside c.index_mut.ensures.value c.has_left.new.watcher in
    elim c.has_left.ensures.unsure [
      | inl heard ↦ half_left _ _ _ c.args.watchers.now.items items c.remove.new.self.items c.loop-at.at c.has_left.new.watcher (c.args.change.now ∷ []) [] c.loop-at.invariant inside
          (heard ∙ ap (λ v. g.W.Watcher.told v ++ c.args.change.now ∷ []) same) refl (sym c.has_left.ensures.leaves ∙ c.if-has_left.true) c.remove.ensures.items
      | inr nothing ↦ half_left _ _ _ c.args.watchers.now.items items c.remove.new.self.items c.loop-at.at c.has_left.new.watcher [] (c.args.change.now ∷ []) c.loop-at.invariant inside
          (nothing ∙ ap (λ v. g.W.Watcher.told v) same ∙ sym (append-nil _)) refl (sym c.has_left.ensures.leaves ∙ c.if-has_left.true) c.remove.ensures.items
    ]
