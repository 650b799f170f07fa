-- What `ln` comes to.
use Rattle.std.proofs.Common.{◌≡◌, ℕ, false, List, inl, inr, refl, sym, ◌∙◌, ap}
use Rattle.std.specs.Prelude.{Ok}
use Rattle.jnl_format.specs.Recovery.{Content}
use Rattle.hfs_language.specs.declared.command.Command.TheVariants as command
use Rattle.hfs_language.specs.declared.reply.Change.{Change}
use Rattle.hfs_language.specs.declared.reply.ChangeKind.TheVariants as change
use Rattle.hfs_language.specs.declared.reply.Reply.{Reply}
use Rattle.hfs_language.specs.declared.reply.Reply.TheVariants as reply
use Rattle.hfs_model.specs.Step.{Place, is_private_path, step_line, to_ln}
use Rattle.hfs_model.specs.declared.plain.PlainEntry.{PlainEntry}
use Rattle.hfs_volume.specs.Content.{volume_of}
use Rattle.hfs_volume.specs.Sound.{IsSound}
use Rattle.hfs_volume.specs.TreeOf.{tree_of}
use Rattle.volume_runs.specs.Told.{of_pair}
use Rattle.volume_names.specs.Linking.{HasLinked}
use Rattle.volume_step.specs.Steps.{Affords, KeepsJournal, StepsTo}
use Rattle.volume_step.specs.declared.outcome.Outcome.TheVariants as outcome
use Rattle.volume_step.proofs.Done.{done_steps, first_free, line_free, said_ok}
use Rattle.volume_step.proofs.Kept.{Keeps, keeps_both, values_same}
use Rattle.volume_step.proofs.KeptEntries.{opened_keeps}
use Rattle.volume_step.proofs.KeptFirst.{first_keeps}
use Rattle.volume_step.proofs.KeptLinks.{more_keeps}
use Rattle.volume_step.proofs.Served.{journal_kept}

module _ (capacity number : ℕ) (from to : List (List ℕ)) (before after : Content) (sound_before : IsSound before) (sound_after : IsSound after) (affords : Affords capacity (command.Ln from to) before)
    (said : Reply) (reply_is : said ≡ (step_line (tree_of before) (Ok (command.Ln from to))).0) (tree : tree_of after ≡ (step_line (tree_of before) (Ok (command.Ln from to))).1) (lists : said ≡ reply.Ok → HasLinked from to before after)
  where
    fine_link : said ≡ reply.Ok
    fine_link = said_ok capacity number (command.Ln from to) before after sound_before sound_after affords said refl refl reply_is tree

    keeps_link : Keeps (volume_of before) (volume_of after)
    keeps_link = let it = lists fine_link in elim it.links [
      | inl anew ↦ keeps_both (volume_of before) anew.opened (volume_of after) (opened_keeps (volume_of before) anew.opened anew.opens) (first_keeps it.entry it.place anew.opened (volume_of after) anew.sound sound_after.volume anew.there it.named anew.first)
      | inr again ↦ more_keeps it.entry it.place (volume_of before) (volume_of after) sound_before.volume sound_after.volume it.named again.links
    ]

    pub link_steps : (changes : List Change) → (is_private_path from ≡ false → is_private_path to ≡ false → (pair : PlainEntry × Place) → to_ln (tree_of before) from to ≡ Ok pair → changes ≡ of_pair number change.Linked (Ok pair))
        → StepsTo (outcome.Answered said changes) capacity number (command.Ln from to) before after
    link_steps changes told =
        let it = lists fine_link in
        let free = first_free (is_private_path from) (is_private_path to) (line_free (tree_of before) (command.Ln from to) affords.no_refusal) in
        done_steps capacity number (command.Ln from to) before after sound_before sound_after affords said refl refl reply_is tree keeps_link.forks (values_same (volume_of before) (volume_of after) keeps_link) changes
        (told free.0 free.1 (it.entry, it.place) it.allowed ∙ ap (of_pair number change.Linked) (sym it.allowed))

    pub link_place : KeepsJournal before after
    link_place = journal_kept before after keeps_link.forks
