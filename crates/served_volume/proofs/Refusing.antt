-- Commands that are refused, and what their steps come to.
use Rattle.std.proofs.Common.{◌≡◌, ◌≢◌, ◌<◌, ◌==◌, ℕ, arith, Bool, true, false, List, [], refl, sym, ◌∙◌, subst}
use Rattle.std.proofs.lemmas.Bool.{ne_eqb, true≢false}
use Rattle.std.specs.Prelude.{Option, Result, Ok, Err, if◌then◌else◌, None, Some}
use Rattle.jnl_format.specs.Keeping.{IsSame}
use Rattle.jnl_format.specs.Recovery.{Content, header_of_volume}
use Rattle.volume_header.specs.declared.header.VolumeHeader.{VolumeHeader}
use Rattle.hfs_language.specs.Language.{command_of}
use Rattle.hfs_language.specs.declared.command.Command.{Command}
use Rattle.hfs_language.specs.declared.refusal.Refusal.{Refusal}
use Rattle.hfs_language.specs.declared.refusal.Refusal.TheVariants as refusal
use Rattle.hfs_language.specs.declared.reply.Change.{Change}
use Rattle.hfs_language.specs.declared.reply.Reply.{Reply}
use Rattle.hfs_language.specs.declared.reply.Reply.TheVariants as reply
use Rattle.hfs_model.specs.declared.kinds.KindEdit.{KindEdit}
use Rattle.hfs_volume.specs.declared.asked.Asked.{Asked}
use Rattle.hfs_volume.specs.declared.asked.Asked.TheVariants.{Kind, Plain}
use Rattle.volume_runs.specs.Run.{Entry, asked_in, is_ok, or_before, shrunk_by, wanted_in}
use Rattle.hfs_serving.proofs.Asking.{asked_plainly, kind_own}
use Rattle.hfs_serving.proofs.Tries.{no_memory}
use Rattle.hfs_volume.specs.Sound.{IsSound}
use Rattle.hfs_volume.specs.TreeOf.{tree_of}
use Rattle.volume_links.specs.Steps.{KindStepsTo}
use Rattle.volume_step.specs.Steps.{IsServedAs, KeepsJournal, ShrinksAs, StepsTo}
use Rattle.volume_step.specs.declared.outcome.Outcome.{Outcome}
use Rattle.volume_step.specs.declared.outcome.Outcome.TheVariants as outcome
use Rattle.served_volume.specs.Answering.{AnswersAs, IsDecidedAs, IsDecidedOrWaits, ShrinksBy, unless_short}

-- the entry of a command for which memory is missing
module _ (capacity number : ℕ) (own : Option Asked) (line : List ℕ) (content : Content) (sound : IsSound content) where
  abbrev entry : Entry
  entry = record { line = line; own = own; reply = reply.No refusal.OutOfMemory; before = content; after = content }

  short_entry : IsServedAs capacity number [] entry
  short_entry = record {
    served = record { sound_before = sound; sound_after = sound; is = no_memory capacity own entry (record { reply_is = refl; same = refl }) };
    told = refl;
  }

abbrev ShrinksTo : Reply → Result Command Refusal → Content → Option ℕ → Option ℕ → Type 0
ShrinksTo said asked before old new = new ≡ (if is_ok said then or_before (shrunk_by (tree_of before) asked) old else old)

-- what a step came to
module _ (capacity number : ℕ) (own : Option Asked) (line : List ℕ) (before after : Content) (sound : IsSound before) where
  short_there : after ≡ before → IsServedAs capacity number [] (record { line = line; own = own; reply = reply.No refusal.OutOfMemory; before = before; after = after })
  short_there same =
      subst (λ (c : Content). IsServedAs capacity number [] (record { line = line; own = own; reply = reply.No refusal.OutOfMemory; before = before; after = c })) (sym same) (short_entry capacity number own line before sound)

  pub shortened : (asked : Command) → wanted_in own line ≡ Some (Plain asked) → (fresh : Bool) (o : Outcome) → StepsTo o capacity number asked before after → AnswersAs (unless_short fresh o) capacity number own line before after
  shortened asked wanted true (outcome.Answered said changes) was = (was own line (asked_plainly own line asked wanted)).served
  shortened asked wanted false (outcome.Answered said changes) was = (was own line (asked_plainly own line asked wanted)).served
  shortened asked wanted true outcome.CommitFirst was = short_there was
  shortened asked wanted false outcome.CommitFirst was = was
  shortened asked wanted true outcome.Again was = record { asked = Plain asked; wanted = wanted; goes = was }
  shortened asked wanted false outcome.Again was = record { asked = Plain asked; wanted = wanted; goes = was }

  -- one of a command on a link or a resource fork
  kind_answered : (asked : KindEdit) → wanted_in own line ≡ Some (Kind asked) → (said : Reply) (changes : List Change) → KindStepsTo (outcome.Answered said changes) capacity number asked before after → AnswersAs (outcome.Answered said changes) capacity number own line before after
  kind_answered asked wanted said changes was =
      subst (λ (o : Option Asked). IsServedAs capacity number changes (record { line = line; own = o; reply = said; before = before; after = after })) (sym (kind_own own line asked wanted)) (was line).served

  pub kind_shortened : (asked : KindEdit) → wanted_in own line ≡ Some (Kind asked) → (fresh : Bool) (o : Outcome) → KindStepsTo o capacity number asked before after → AnswersAs (unless_short fresh o) capacity number own line before after
  kind_shortened asked wanted true (outcome.Answered said changes) was = kind_answered asked wanted said changes was
  kind_shortened asked wanted false (outcome.Answered said changes) was = kind_answered asked wanted said changes was
  kind_shortened asked wanted true outcome.CommitFirst was = short_there was
  kind_shortened asked wanted false outcome.CommitFirst was = was
  kind_shortened asked wanted true outcome.Again was = record { asked = Kind asked; wanted = wanted; goes = was }
  kind_shortened asked wanted false outcome.Again was = record { asked = Kind asked; wanted = wanted; goes = was }

-- where something was put since the last commit, it is what its step came to
pub kind_pends : (capacity number : ℕ) (asked : KindEdit) (before after : Content) (fresh : Bool) → fresh ≡ false → (o : Outcome) → KindStepsTo o capacity number asked before after → KindStepsTo (unless_short fresh o) capacity number asked before after
kind_pends capacity number asked before after true put o was = absurd (true≢false put)
kind_pends capacity number asked before after false put (outcome.Answered said changes) was = was
kind_pends capacity number asked before after false put outcome.CommitFirst was = was
kind_pends capacity number asked before after false put outcome.Again was = was

-- where it wants no commit
pub decided : (capacity number : ℕ) (line : List ℕ) (asked : Command) (before after : Content) → command_of line ≡ Ok asked → (fresh : Bool) (o : Outcome) → StepsTo o capacity number asked before after → o ≢ outcome.CommitFirst → IsDecidedAs (unless_short fresh o) capacity line before after
decided capacity number line asked before after spelled true (outcome.Answered said changes) was other = (was None line spelled).decided
decided capacity number line asked before after spelled false (outcome.Answered said changes) was other = (was None line spelled).decided
decided capacity number line asked before after spelled true outcome.CommitFirst was other = absurd (other refl)
decided capacity number line asked before after spelled false outcome.CommitFirst was other = absurd (other refl)
decided capacity number line asked before after spelled true outcome.Again was other = tt
decided capacity number line asked before after spelled false outcome.Again was other = tt

pub some_put : (n : ℕ) → 0 < n → (n == 0) ≡ false
some_put n some = ne_eqb n 0 (λ same. omega (arith, some, same))

-- where something was put since the last commit
pub decided_or_waits : (capacity number : ℕ) (line : List ℕ) (asked : Command) (before after : Content) → command_of line ≡ Ok asked → (fresh : Bool) → fresh ≡ false → (o : Outcome) → StepsTo o capacity number asked before after → IsDecidedOrWaits (unless_short fresh o) capacity line before after
decided_or_waits capacity number line asked before after spelled true put o was = absurd (true≢false put)
decided_or_waits capacity number line asked before after spelled false put (outcome.Answered said changes) was = (was None line spelled).decided
decided_or_waits capacity number line asked before after spelled false put outcome.CommitFirst was = tt
decided_or_waits capacity number line asked before after spelled false put outcome.Again was = tt

-- where nothing was
pub never_waits : (fresh : Bool) → fresh ≡ true → (o : Outcome) → unless_short fresh o ≢ outcome.CommitFirst
never_waits true nothing (outcome.Answered said changes) is = let no : outcome.Answered said changes ≡ outcome.CommitFirst = is in cc no
never_waits true nothing outcome.CommitFirst is = let no : outcome.Answered (reply.No refusal.OutOfMemory) [] ≡ outcome.CommitFirst = is in cc no
never_waits true nothing outcome.Again is = let no : outcome.Again ≡ outcome.CommitFirst = is in cc no
never_waits false nothing o is = true≢false (sym nothing)

-- and the file that was shrunk last
pub shortened_shrinks : (own : Option Asked) (line : List ℕ) (asked : Command) (before : Content) (old new : Option ℕ) → wanted_in own line ≡ Some (Plain asked) → (fresh : Bool) (o : Outcome) → ShrinksAs o asked before old new → ShrinksBy (unless_short fresh o) own line before old new
shortened_shrinks own line asked before old new wanted true (outcome.Answered said changes) was = subst (λ (r : Result Command Refusal). ShrinksTo said r before old new) (sym (asked_plainly own line asked wanted)) was
shortened_shrinks own line asked before old new wanted false (outcome.Answered said changes) was = subst (λ (r : Result Command Refusal). ShrinksTo said r before old new) (sym (asked_plainly own line asked wanted)) was
shortened_shrinks own line asked before old new wanted true outcome.CommitFirst was = was
shortened_shrinks own line asked before old new wanted false outcome.CommitFirst was = was
shortened_shrinks own line asked before old new wanted true outcome.Again was = was
shortened_shrinks own line asked before old new wanted false outcome.Again was = was

-- a command on a link or a resource fork shrinks none
no_file : (said : Reply) (before : Content) (old : Option ℕ) → ShrinksTo said (Err refusal.BadCommand) before old old
no_file said before old = by (is_ok said)
  where
    by : (ok : Bool) → old ≡ (if ok then old else old)
    by true = refl
    by false = refl

pub kind_shrinks : (own : Option Asked) (line : List ℕ) (asked : KindEdit) (before : Content) (old new : Option ℕ) → wanted_in own line ≡ Some (Kind asked) → new ≡ old → (o : Outcome) → ShrinksBy o own line before old new
kind_shrinks own line asked before old new wanted same (outcome.Answered said changes) = subst (λ (q : Option Asked). ShrinksTo said (asked_in q line) before old new) (sym (kind_own own line asked wanted)) (same ∙ no_file said before old)
kind_shrinks own line asked before old new wanted same outcome.CommitFirst = same
kind_shrinks own line asked before old new wanted same outcome.Again = same

header_self : (head : VolumeHeader) → IsSame head head
header_self head = record {
  signature = refl;
  version = refl;
  last_mounted = refl;
  info_block = refl;
  block_size = refl;
  total_blocks = refl;
  bit_12 = refl;
  bit_13 = refl;
  bit_15 = refl;
}

-- where nothing was changed the journal lies where it lay
pub keeps_self : (content : Content) → KeepsJournal content content
keeps_self content = record { journal = refl; locked = refl; heading = header_self (header_of_volume content) }
