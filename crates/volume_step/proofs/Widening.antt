-- Commands that shrink no file and put the volume's own sectors, as `step` says what became of both.
use Rattle.std.proofs.Common.{◌≡◌, ℕ, ◌/◌, Bool, true, false, List, [], length, inl, inr, ⊎_elim, refl, sym, ◌∙◌, ap, subst}
use Rattle.std.specs.List.{Contains}
use Rattle.std.specs.Prelude.{slice_index_or, IfOk, Option, None, Result, Ok, Err, if◌then◌else◌}
use Rattle.std.proofs.lemmas.Bool.{true≢false}
use Rattle.hx_bytes.specs.declared.faults.Trouble.{Trouble}
use Rattle.jnl_format.specs.Recovery.{Content}
use Rattle.sector_disk.specs.Space.{Space}
use Rattle.hfs_language.specs.declared.command.Command.{Command}
use Rattle.hfs_language.specs.declared.command.Command.TheVariants as command
use Rattle.hfs_language.specs.declared.refusal.Refusal.{Refusal}
use Rattle.hfs_language.specs.declared.reply.Reply.TheVariants as reply
use Rattle.hfs_model.specs.Step.{only_reads}
use Rattle.hfs_model.specs.declared.plain.PlainTree.{PlainTree}
use Rattle.volume_runs.specs.Run.{is_ok, or_before, shrunk_by}
use Rattle.hfs_volume.specs.TreeOf.{tree_of}
use Rattle.alloc_bitmap.specs.Map.{BlockMap, free_of}
use Rattle.hfs_volume.specs.Forks.{per_block_of}
use Rattle.volume_header.specs.declared.header.VolumeHeader.{VolumeHeader}
use Rattle.volume_space.specs.Growing.{IsOwnOrFree}
use Rattle.volume_base.specs.Looking.{ReadsVolume}
use Rattle.volume_base.specs.Holding.{IsLaidOutAs}
use Rattle.volume_base.specs.Standing.{own_sectors}
use Rattle.volume_base.specs.Touching.{Looks, Touches}
use Rattle.volume_base.specs.declared.volume.Volume.{Volume}
use Rattle.volume_base.proofs.Commanding.{touches_both, touches_looks}
use Rattle.volume_base.proofs.Still.{own_still}
use Rattle.volume_step.specs.Steps.{OwnOf, ShrinksAs}
use Rattle.volume_step.specs.declared.outcome.Outcome.{Outcome}
use Rattle.volume_step.specs.declared.outcome.Outcome.TheVariants as outcome

-- ---- the sectors that are put

pub touches_wider : (committed : Content) (these those : ℕ → Type 0) (a b : Space) → ((s : ℕ) → these s → those s) → Touches committed these a b → Touches committed those a b
touches_wider committed these those a b wider was = record {
  same = was.same;
  durable = was.durable;
  spilled = was.spilled;
  still = was.still;
  live = λ tells s l. ⊎_elim (λ before. inl before) (λ here. inr (wider s here)) (was.live tells s l);
  closed = was.closed;
  still_put = was.still_put;
  spare = was.spare;
  faults = was.faults;
  time = was.time;
}

-- those that were its own before it are among those that were before or behind it
pub touches_own : (committed : Content) (v w : Volume) (a b : Space) → Touches committed (λ s. Contains (own_sectors v) s) a b → Touches committed (OwnOf v w) a b
touches_own committed v w a b was = touches_wider committed (λ s. Contains (own_sectors v) s) (OwnOf v w) a b (λ s here. inl (inl here)) was

pub touches_looked : (committed : Content) (v w : Volume) (a b : Space) → Looks (λ s. Contains (own_sectors v) s) a b → Touches committed (OwnOf v w) a b
touches_looked committed v w a b was = touches_own committed v w a b (touches_looks committed (λ s. Contains (own_sectors v) s) a b was)

-- a content has the blocks of a volume that was read
pub laid_still : (committed : Content) (v w : Volume) → w.header ≡ v.header → w.map ≡ v.map → IsLaidOutAs committed v → IsLaidOutAs committed w
laid_still committed v w header map was = record {
  block = was.block ∙ sym (ap (λ (h : VolumeHeader). h.block_size) header);
  total = was.total ∙ sym (ap (λ (m : BlockMap). length m.used) map);
}

-- reads leave what is a volume's own, and what is free
pub own_or_free_still : (u v : Volume) (a b : Space) → ReadsVolume u v a b → (s : ℕ) → IsOwnOrFree v s → IsOwnOrFree u s
own_or_free_still u v a b reads s is = ⊎_elim
    (λ own. inl (subst (λ (l : List ℕ). Contains l s) (own_still u v a b reads) own))
    (λ free. inr (subst (λ (k : BlockMap × VolumeHeader). slice_index_or (free_of k.0) (s / per_block_of k.1) false ≡ true) {x = (v.map, v.header)} {y = (u.map, u.header)} (λ i. (reads.keeps.map i, reads.keeps.header i)) free))
    is

-- the space was read, and then the call on what was read did it
pub touches_behind : (committed : Content) (u v w : Volume) (a b c : Space) → ((s : ℕ) → IsOwnOrFree v s → IsOwnOrFree u s) → Looks (λ s. Contains (own_sectors u) s) a b → Touches committed (OwnOf v w) b c → Touches committed (OwnOf u w) a c
touches_behind committed u v w a b c same looks was = touches_both committed (OwnOf u w) a b c (touches_looked committed u w a b looks)
    (touches_wider committed (OwnOf v w) (OwnOf u w) b c (λ s here. ⊎_elim (λ before. inl (same s before)) (λ behind. inr behind) here) was)

-- ---- the file that was shrunk last

-- a command that shrinks none leaves it, whatever it came to
shrinks_none : (asked : Command) (before : Content) (old new : Option ℕ) → shrunk_by (tree_of before) (Ok asked) ≡ None → new ≡ old → (o : Outcome) → ShrinksAs o asked before old new
shrinks_none asked before old new none same (outcome.Answered said changes) = same ∙ by (is_ok said)
  where
    by : (b : Bool) → old ≡ (if b then or_before (shrunk_by (tree_of before) (Ok asked)) old else old)
    by true = sym (ap (λ (s : Option ℕ). or_before s old) none)
    by false = refl
shrinks_none asked before old new none same outcome.CommitFirst = same
shrinks_none asked before old new none same outcome.Again = same

pub keeps_shrunk : (asked : Command) (before : Content) (old new : Option ℕ) → shrunk_by (tree_of before) (Ok asked) ≡ None → new ≡ old → (r : Result Outcome Trouble) → IfOk r (λ (o : Outcome). ShrinksAs o asked before old new)
keeps_shrunk asked before old new none same (Ok o) = shrinks_none asked before old new none same o
keeps_shrunk asked before old new none same (Err why) = tt

-- so does one that is refused
pub refused_shrinks : (asked : Command) (before : Content) (old new : Option ℕ) (why : Refusal) (it : Outcome) → it ≡ outcome.Answered (reply.No why) [] → new ≡ old → ShrinksAs it asked before old new
refused_shrinks asked before old new why it is same = subst (λ (o : Outcome). ShrinksAs o asked before old new) (sym is) same

-- so do commands that read
pub reads_shrink_none : (tree : PlainTree) (asked : Command) → only_reads asked ≡ true → shrunk_by tree (Ok asked) ≡ None
reads_shrink_none tree (command.Read path from long) is = refl
reads_shrink_none tree (command.Ls path) is = refl
reads_shrink_none tree (command.Stat path) is = refl
reads_shrink_none tree (command.GetAttr path name) is = refl
reads_shrink_none tree (command.LsAttr path) is = refl
reads_shrink_none tree command.Df is = refl
reads_shrink_none tree command.Sync is = refl
reads_shrink_none tree (command.Mkdir path) is = refl
reads_shrink_none tree (command.Create path) is = refl
reads_shrink_none tree (command.Rm path) is = refl
reads_shrink_none tree (command.Rmdir path) is = refl
reads_shrink_none tree (command.Mv from to) is = refl
reads_shrink_none tree (command.Ln from to) is = refl
reads_shrink_none tree (command.Write path from value) is = refl
reads_shrink_none tree (command.Trunc path size) is = absurd (true≢false (sym is))
reads_shrink_none tree (command.Chmod path mode) is = refl
reads_shrink_none tree (command.SetAttr path name value) is = refl
reads_shrink_none tree (command.DelAttr path name) is = refl
reads_shrink_none tree (command.At moment) is = refl
