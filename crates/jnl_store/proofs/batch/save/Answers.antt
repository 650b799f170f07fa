use Rattle.std.proofs.Common.{◌∙◌, List, ap, sym, subst, take}
use Rattle.std.proofs.lemmas.Bool.{true≢false}
use Rattle.jnl_store.specs.Batch.{AreOnce, names, restored}
use Rattle.jnl_store.specs.declared.puts.Put.{Put}
use Rattle.jnl_store.proofs.Saved.{none_named, save_room, save_same, save_there, save_within}
use Rattle.jnl_store.proofs.batch.save.Goals as goal

pub add-requires : goal.add-requires
add-requires c = λ none.
    save_room c.args.puts.now.items c.args.saved.now.items c.in-Some.put.now c.args.kept c.args.at c.in-Some.ensures.put c.args.saved.now.memory
    (subst AreOnce c.as_slice-once.ensures.items c.as_slice-once.ensures.once) c.requires.of_kept c.requires.few c.requires.room none

pub returns-in-Some-clause-same : goal.returns-in-Some-clause-same
returns-in-Some-clause-same c =
    ap (λ (l : List Put). restored c.args.puts.now.items l c.args.kept) c.add.ensures.added
    ∙ save_same c.args.puts.now.items c.args.saved.now.items c.in-Some.put.now c.args.kept c.args.at c.in-Some.ensures.put c.among.ensures.once

pub returns-in-Some-clause-of_kept : goal.returns-in-Some-clause-of_kept
returns-in-Some-clause-of_kept c s named =
    save_within c.args.puts.now.items c.args.saved.now.items c.in-Some.put.now c.args.kept c.args.at c.in-Some.ensures.put c.requires.of_kept s (sym (ap (λ (l : List Put). names l s) c.add.ensures.added) ∙ named)

pub returns-in-Some-clause-there : goal.returns-in-Some-clause-there
returns-in-Some-clause-there c named =
    ap (λ (l : List Put). names l c.args.at) c.add.ensures.added
    ∙ save_there c.args.puts.now.items c.args.saved.now.items c.in-Some.put.now c.args.kept c.args.at c.in-Some.ensures.put

pub returns-in-None-clause-there : goal.returns-in-None-clause-there
returns-in-None-clause-there c named = absurd (true≢false (sym named ∙ none_named (take c.args.kept c.args.puts.now.items) c.args.at c.in-None.ensures.put))
