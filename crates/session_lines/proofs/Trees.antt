-- What a command that was served leaves of a tree, by its reply.
use Rattle.std.proofs.Common.{◌≡◌, ◌⊎◌, ℕ, Bool, true, false, inl, inr, Ok, Result, refl, sym, ◌∙◌, ap, subst}
use Rattle.std.specs.Prelude.{◌||◌, IsTrue, if◌then◌else◌}
use Rattle.jnl_format.specs.Recovery.{Content}
use Rattle.hfs_language.specs.declared.command.Command.{Command}
use Rattle.hfs_language.specs.declared.command.Command.TheVariants as command
use Rattle.hfs_language.specs.declared.refusal.Refusal.{Refusal}
use Rattle.hfs_language.specs.declared.refusal.Refusal.TheVariants as refusal
use Rattle.hfs_language.specs.declared.reply.Reply.{Reply}
use Rattle.hfs_language.specs.declared.reply.Reply.TheVariants as reply
use Rattle.hfs_model.specs.declared.plain.PlainTree.{PlainTree}
use Rattle.hfs_model.specs.Step.{is_refusal, only_reads, refuses, step_line}
use Rattle.hfs_volume.specs.TreeOf.{tree_of}
use Rattle.hfs_volume.specs.Weight.{changes_nothing}
use Rattle.open_files.specs.Machine.{tree_by}
use Rattle.volume_runs.specs.Run.{DoesLine, Entry, IsAnswered, IsServed, LacksMemory, LacksResource, asked_by, reply_to}
use Rattle.session_lines.proofs.Plains.{served_plainly}

-- a reply that refuses is the step's
step_refuses : (capacity : ℕ) (content : Content) (asked : Command) → is_refusal (reply_to capacity content (Ok asked)) ≡ true → refuses (tree_of content) (Ok asked) ≡ true
step_refuses capacity content (command.Mkdir path) is = is
step_refuses capacity content (command.Create path) is = is
step_refuses capacity content (command.Rm path) is = is
step_refuses capacity content (command.Rmdir path) is = is
step_refuses capacity content (command.Mv from to) is = is
step_refuses capacity content (command.Ln from to) is = is
step_refuses capacity content (command.Write path from value) is = is
step_refuses capacity content (command.Read path from long) is = is
step_refuses capacity content (command.Trunc path size) is = is
step_refuses capacity content (command.Ls path) is = is
step_refuses capacity content (command.Stat path) is = is
step_refuses capacity content (command.Chmod path mode) is = is
step_refuses capacity content (command.SetAttr path name value) is = is
step_refuses capacity content (command.GetAttr path name) is = is
step_refuses capacity content (command.DelAttr path name) is = is
step_refuses capacity content (command.LsAttr path) is = is
step_refuses capacity content (command.At moment) is = is
step_refuses capacity content command.Df is = absurd (cc is)
step_refuses capacity content command.Sync is = is

by_reply : (refused : Bool) (now old new : PlainTree) → (refused ≡ true → now ≡ old) → (refused ≡ false → now ≡ new) → now ≡ (if refused then old else new)
by_reply true now old new when otherwise = when refl
by_reply false now old new when otherwise = otherwise refl

module _ (capacity : ℕ) (entry : Entry) (asked : Command) (spells : asked_by entry ≡ Ok asked) where
  answered_tree : IsAnswered capacity entry → tree_of entry.after ≡ tree_by (tree_of entry.before) asked entry.reply
  answered_tree it =
      let told : entry.reply ≡ reply_to capacity entry.before (Ok asked) = subst (λ (a : Result Command Refusal). entry.reply ≡ reply_to capacity entry.before a) spells it.reply_is in
      let does = subst (λ (a : Result Command Refusal). DoesLine capacity a entry.before entry.after) spells it.does in
      by_reply (is_refusal entry.reply) (tree_of entry.after) (tree_of entry.before) (step_line (tree_of entry.before) (Ok asked)).1
      (λ refused. ap (λ (c : Content). tree_of c) (does.0 (subst IsTrue (sym (step_refuses capacity entry.before asked (ap (λ (r : Reply). is_refusal r) (sym told) ∙ refused))) refl)))
      (λ done. subst (λ (a : Result Command Refusal). tree_of entry.after ≡ (step_line (tree_of entry.before) a).1) spells it.tree)

  short_tree : (why : Refusal) → entry.reply ≡ reply.No why → entry.after ≡ entry.before → tree_of entry.after ≡ tree_by (tree_of entry.before) asked entry.reply
  short_tree why told same =
      by_reply (is_refusal entry.reply) (tree_of entry.after) (tree_of entry.before) (step_line (tree_of entry.before) (Ok asked)).1 (λ refused. ap (λ (c : Content). tree_of c) same)
      (λ done. absurd (cc (ap (λ (r : Reply). is_refusal r) (sym told) ∙ done)))

  -- what is missing for a command leaves the tree as it was, and so does what refuses it
  pub served_tree : IsServed capacity entry → tree_of entry.after ≡ tree_by (tree_of entry.before) asked entry.reply
  served_tree served = go (served_plainly capacity entry asked spells served)
    where
      go : IsAnswered capacity entry ⊎ (LacksResource capacity entry ⊎ LacksMemory capacity entry) → tree_of entry.after ≡ tree_by (tree_of entry.before) asked entry.reply
      go (inl answered) = answered_tree answered
      go (inr (inl lacks)) = short_tree lacks.why lacks.reply_is lacks.same
      go (inr (inr lacks)) = short_tree refusal.OutOfMemory lacks.reply_is lacks.same

  -- ---- a look

  is_true : (b : Bool) → IsTrue b → b ≡ true
  is_true b so = so

  looked : IsTrue (only_reads asked) → IsAnswered capacity entry → entry.after ≡ entry.before
  looked reads it =
      let does = subst (λ (a : Result Command Refusal). DoesLine capacity a entry.before entry.after) spells it.does in
      by_refusal (refuses (tree_of entry.before) (Ok asked)) (λ refused. does.0 (subst IsTrue (sym refused) refl))
      (λ done. (does.1 done).reads (subst (λ b. IsTrue (b || changes_nothing (tree_of entry.before) asked)) (sym (is_true (only_reads asked) reads)) refl))
    where
      by_refusal : (refused : Bool) → (refused ≡ true → entry.after ≡ entry.before) → (refused ≡ false → entry.after ≡ entry.before) → entry.after ≡ entry.before
      by_refusal true when otherwise = when refl
      by_refusal false when otherwise = otherwise refl

  -- a command that only reads leaves the content as it was
  pub looked_same : IsTrue (only_reads asked) → IsServed capacity entry → entry.after ≡ entry.before
  looked_same reads served = go (served_plainly capacity entry asked spells served)
    where
      go : IsAnswered capacity entry ⊎ (LacksResource capacity entry ⊎ LacksMemory capacity entry) → entry.after ≡ entry.before
      go (inl answered) = looked reads answered
      go (inr (inl lacks)) = lacks.same
      go (inr (inr lacks)) = lacks.same
