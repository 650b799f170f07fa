use Rattle.std.proofs.Common.{◌≡◌, [], length, inl, sym, ◌∙◌, ap, subst}
use Rattle.std.specs.Prelude.{slice_index_or}
use Rattle.std.specs.declared.cmp.Ordering.TheVariants.{Equal}
use Rattle.btree_node.specs.Keys.{IsCatalogKey, catalog_cmp}
use Rattle.btree_node.specs.Tree.{pairs_of}
use Rattle.btree_edit.specs.Answers.{AnswersRemove}
use Rattle.btree_edit.specs.Sorted.{ReplacesPair}
use Rattle.catalog.proofs.InPlace.{swapped_most, swapped_takes}
use Rattle.catalog.proofs.RecordLengths.{same_length}
use Rattle.catalog.proofs.Updates.{removal_answer, updating_of}
use Rattle.catalog.proofs.updating.update.Goals as goal

pub swap-requires-clause-key : goal.swap-requires-clause-key
swap-requires-clause-key g c = subst IsCatalogKey (sym c.as_slice.ensures) c.in_ok-pair.ensures.key.is_key

pub swap-requires-clause-room : goal.swap-requires-clause-room
swap-requires-clause-room g c tells = inl (c.requires.room tells)

pub swap-requires-clause-long : goal.swap-requires-clause-long
swap-requires-clause-long g c tells k inside ties =
    let s = g.N.NodeStore.state c.args.store.now in
    same_length c.args.parent c.args.name.now c.in_ok-pair.pair.key c.in_ok-pair.pair.value c.args.rec.now s (c.requires.tree tells) (c.requires.spelled tells) c.in_ok-pair.ensures.key c.in_ok-pair.ensures.spells c.requires.kind
    (c.requires.same_kind tells) k inside (subst (λ l. catalog_cmp (slice_index_or (pairs_of s) k ([], [])).0 l ≡ Equal) c.as_slice.ensures ties)
    ∙ sym (ap length c.as_slice-2.ensures)

pub returns-clause-answer : goal.returns-clause-answer
returns-clause-answer g c tells =
    let s = g.N.NodeStore.state c.args.store.now in
    removal_answer c.args.parent c.args.name.now c.in_ok-pair.pair.key s c.in_ok-answer.answer c.in_ok-pair.ensures.key
    (subst (λ l. AnswersRemove catalog_cmp l s c.in_ok-answer.answer) c.as_slice.ensures (c.in_ok-answer.ensures.answer tells))

pub returns-clause-updated : goal.returns-clause-updated
returns-clause-updated g c tells =
    let s = g.N.NodeStore.state c.args.store.now in
    let new = g.N.NodeStore.state c.swap.new.store in
    updating_of c.args.parent c.args.name.now c.in_ok-pair.pair.key c.in_ok-pair.pair.value c.args.rec.now s (pairs_of new) c.in_ok-answer.answer
    (c.requires.tree tells) (c.requires.spelled tells) c.in_ok-pair.ensures.key c.in_ok-pair.ensures.spells
    (subst (λ l. ReplacesPair catalog_cmp c.in_ok-pair.pair.key l (pairs_of s) (pairs_of new) c.in_ok-answer.answer) c.as_slice-2.ensures
    (subst (λ l. ReplacesPair catalog_cmp l c.as_slice-2.result.now (pairs_of s) (pairs_of new) c.in_ok-answer.answer) c.as_slice.ensures (c.in_ok-answer.ensures.pairs tells)))

pub returns-clause-edits : goal.returns-clause-edits
returns-clause-edits g c = swapped_takes (g.N.NodeStore.state c.args.store.now) (g.N.NodeStore.state c.swap.new.store) c.swap.ensures.does c.swap.ensures.kept c.in_ok-answer.ensures.top

pub returns-clause-most : goal.returns-clause-most
returns-clause-most g c = swapped_most (g.N.NodeStore.state c.args.store.now) (g.N.NodeStore.state c.swap.new.store) c.swap.ensures.does

pub returns-in_err-answer-clause-most : goal.returns-in_err-answer-clause-most
returns-in_err-answer-clause-most g c = swapped_most (g.N.NodeStore.state c.args.store.now) (g.N.NodeStore.state c.swap.new.store) c.swap.ensures.does
