-- The growth of a tree, as a step of the command ahead of which it goes.
use Rattle.std.proofs.Common.{◌≡◌, ◌<◌, ◌≤◌, ℕ, ◌+◌, Bool, true, false, List, [], ◌∷◌, inl, inr, refl, sym, ap, subst, arith}
use Rattle.std.specs.Prelude.{nat_lt, slice_index, Option, if◌then◌else◌}
use Rattle.jnl_format.specs.Keeping.{IsSame}
use Rattle.jnl_format.specs.Recovery.{Content}
use Rattle.sector_disk.specs.Space.{Space}
use Rattle.volume_header.specs.Refusal.{is_locked}
use Rattle.volume_header.specs.declared.header.VolumeHeader.{VolumeHeader}
use Rattle.hfs_language.specs.declared.command.Command.{Command}
use Rattle.hfs_volume.specs.Content.{volume_of}
use Rattle.hfs_volume.specs.Reclaim.{GrowsTrees, first_growth}
use Rattle.volume_base.specs.Touching.{Touches}
use Rattle.volume_base.specs.declared.volume.Volume.{Volume}
use Rattle.volume_space.specs.Growing.{GoesAhead, GrowsAhead, IsOwnOrFree, alone}
use Rattle.volume_space.specs.declared.ahead.Growth.{Growth}
use Rattle.volume_space.specs.declared.ahead.Growth.TheVariants as growing
use Rattle.volume_space.specs.declared.ahead.WhichTree.{WhichTree}
use Rattle.volume_space.specs.declared.ahead.WhichTree.TheVariants as which
use Rattle.volume_space.proofs.WhenKept.{touches_those}
use Rattle.volume_step.specs.Steps.{GrowsFirst, KeepsJournal, OwnOf, ShrinksAs, StepsTo, WaitsForGrowth, grown}
use Rattle.volume_step.specs.declared.outcome.Outcome.{Outcome}
use Rattle.volume_step.proofs.Done.{same_place}

-- ---- the first of the trees that are to grow

-- it grows by some of the nodes that all grow by
first_low : (grow : List ℕ) → slice_index (first_growth grow) 0 + slice_index (first_growth grow) 1 + slice_index (first_growth grow) 2 ≤ slice_index grow 0 + slice_index grow 1 + slice_index grow 2
first_low grow = by (nat_lt 0 (slice_index grow 0)) (nat_lt 0 (slice_index grow 1))
  where
    total : List ℕ → ℕ
    total l = slice_index l 0 + slice_index l 1 + slice_index l 2

    by : (x y : Bool) → total (if x then slice_index grow 0 ∷ 0 ∷ 0 ∷ [] else if y then 0 ∷ slice_index grow 1 ∷ 0 ∷ [] else 0 ∷ 0 ∷ slice_index grow 2 ∷ []) ≤ total grow
    by true y = omega arith
    by false true = omega arith
    by false false = omega arith

-- so many nodes of one tree
alone_sum : (tree : WhichTree) (more : ℕ) → more ≡ slice_index (alone tree more) 0 + slice_index (alone tree more) 1 + slice_index (alone tree more) 2
alone_sum which.Extents more = omega arith
alone_sum which.Catalog more = omega arith
alone_sum which.Attributes more = omega arith

pub some_nodes : (tree : WhichTree) (more : ℕ) (grow : List ℕ) → first_growth grow ≡ alone tree more → 0 < more → 0 < slice_index grow 0 + slice_index grow 1 + slice_index grow 2
some_nodes tree more grow first some = omega (arith, some, alone_sum tree more, first_low grow, ap (λ l. slice_index l 0) first, ap (λ l. slice_index l 1) first, ap (λ l. slice_index l 2) first)

-- ---- what it comes to

module _ (tree : WhichTree) (more capacity number : ℕ) (asked : Command) (before after : Content) (waits : WaitsForGrowth tree more capacity asked before) where
  grown_first : GrowsAhead tree more before after → GrowsFirst capacity asked before after
  grown_first ahead = record {
    no_refusal = waits.no_refusal;
    load = waits.load;
    grow = waits.grow;
    affords = waits.weighs;
    some = some_nodes tree more waits.grow waits.first waits.some;
    grows = subst (λ (l : List ℕ). GrowsTrees l (volume_of before) (volume_of after)) (sym waits.first) ahead.grows;
    files = ahead.files;
    values = ahead.values;
    keeps = ahead.keeps;
  }

  by_growth : (went : Growth) → GoesAhead went tree more before after → StepsTo (grown went) capacity number asked before after
  by_growth growing.Grown ahead = inr (inl (grown_first ahead))
  by_growth growing.CommitFirst ahead = ahead

  pub growth_steps : (went : Growth) → GoesAhead went tree more before after → (it : Outcome) → it ≡ grown went → StepsTo it capacity number asked before after
  growth_steps went ahead it is = subst (λ (o : Outcome). StepsTo o capacity number asked before after) (sym is) (by_growth went ahead)

-- the journal's place
grown_place : (tree : WhichTree) (more : ℕ) (before after : Content) → GrowsAhead tree more before after → KeepsJournal before after
unfolding volume_of
grown_place tree more before after ahead = record {
  journal = ahead.journal;
  locked = ap (λ (h : VolumeHeader). is_locked h.attributes) ahead.head;
  heading = subst (λ (h : VolumeHeader). IsSame (volume_of before).head h) (sym ahead.head) (record { signature = refl; version = refl; last_mounted = refl; info_block = refl; block_size = refl; total_blocks = refl; bit_12 = refl; bit_13 = refl; bit_15 = refl });
}

pub growth_place : (tree : WhichTree) (more : ℕ) (before after : Content) (went : Growth) → GoesAhead went tree more before after → KeepsJournal before after
growth_place tree more before after growing.Grown ahead = grown_place tree more before after ahead
growth_place tree more before after growing.CommitFirst same = same_place before after same

-- the file that was shrunk last
pub growth_shrinks : (asked : Command) (before : Content) (old new : Option ℕ) → new ≡ old → (went : Growth) (it : Outcome) → it ≡ grown went → ShrinksAs it asked before old new
growth_shrinks asked before old new same went it is = subst (λ (o : Outcome). ShrinksAs o asked before old new) (sym is) (by went)
  where
    by : (w : Growth) → ShrinksAs (grown w) asked before old new
    by growing.Grown = same
    by growing.CommitFirst = same

-- the sectors that it puts are the volume's own before, or were free
pub growth_touches : (committed : Content) (u v : Volume) (a b : Space) → Touches committed (IsOwnOrFree u) a b → Touches committed (OwnOf u v) a b
growth_touches committed u v a b p = touches_those committed (IsOwnOrFree u) (OwnOf u v) a b (λ tells s is. inl is) p
