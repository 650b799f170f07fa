-- The growth of a tree, as a step of housekeeping ahead of the one that awaits it.
use Rattle.std.proofs.Common.{◌≡◌, ℕ, Bool, List, inl, inr, sym, ◌∙◌, ap, subst}
use Rattle.std.specs.Prelude.{Option, None}
use Rattle.jnl_format.specs.Recovery.{Content}
use Rattle.hfs_volume.specs.Content.{volume_of}
use Rattle.hfs_volume.specs.Reclaim.{GrowsTrees}
use Rattle.volume_runs.specs.Rest.{GrowsFor}
use Rattle.volume_space.specs.Awaiting.{AwaitsGrowth}
use Rattle.volume_space.specs.Growing.{GoesAhead, GrowsAhead, GrowthFits}
use Rattle.volume_space.specs.declared.ahead.Growth.{Growth}
use Rattle.volume_space.specs.declared.ahead.Growth.TheVariants as growing
use Rattle.volume_space.specs.declared.awaiting.TreeWanted.{TreeWanted}
use Rattle.volume_space.specs.declared.tidying.Tidying.{Tidying}
use Rattle.alloc_bitmap.specs.Map.{free_of}
use Rattle.sector_disk.specs.Space.{Space}
use Rattle.volume_base.specs.Keeping.{shrunk_of}
use Rattle.volume_base.specs.Looking.{ReadsVolume}
use Rattle.volume_base.specs.Room.{capacity_of}
use Rattle.volume_base.specs.declared.volume.Volume.{Volume}
use Rattle.volume_space.specs.Orphans.{IsNextShort, TidiesAs}
use Rattle.volume_space.specs.declared.tidying.Tidying.TheVariants as tidying
use Rattle.volume_step.specs.Tidying.{LacksRoom, ReclaimsAs, tidied_by}
use Rattle.volume_step.proofs.Ready.{growth_still}
use Rattle.volume_step.proofs.GrowthSteps.{some_nodes}

module _ (wanted : TreeWanted) (capacity : ℕ) (shrunk : Option ℕ) (before after : Content) (awaits : AwaitsGrowth capacity shrunk before wanted) where
  grown : GrowsAhead wanted.tree wanted.more before after → GrowsFor capacity shrunk None before after
  grown ahead = record {
    grows = record {
      grow = awaits.2.grow;
      wanted = inr (record { step = awaits.0; next = awaits.1; load = awaits.2.load; affords = awaits.2.affords });
      some = some_nodes wanted.tree wanted.more awaits.2.grow awaits.2.first awaits.2.some;
      grows = subst (λ (l : List ℕ). GrowsTrees l (volume_of before) (volume_of after)) (sym awaits.2.first) ahead.grows;
      files = ahead.files;
      values = ahead.values;
      keeps = ahead.keeps;
    };
    own = tt;
  }

  by_growth : (went : Growth) → GoesAhead went wanted.tree wanted.more before after → ReclaimsAs (tidied_by went) capacity shrunk before after
  by_growth growing.Grown ahead = inr (grown ahead)
  by_growth growing.CommitFirst ahead = ahead

  pub grown_for : (went : Growth) → GoesAhead went wanted.tree wanted.more before after → (it : Tidying) → it ≡ tidied_by went → ReclaimsAs it capacity shrunk before after
  grown_for went ahead it is = subst (λ (t : Tidying). ReclaimsAs t capacity shrunk before after) (sym is) (by_growth went ahead)

-- behind reads
pub reclaims_behind : (before between after : Content) → between ≡ before → (capacity first : ℕ) → first ≡ capacity → (shrunk file : Option ℕ) → file ≡ shrunk → (came : Tidying) → ReclaimsAs came first file between after → ReclaimsAs came capacity shrunk before after
reclaims_behind before between after same capacity first one shrunk file two came was =
    subst (λ (k : Content × ℕ × Option ℕ). ReclaimsAs came k.1 k.2 k.0 after) {x = (between, first, file)} {y = (before, capacity, shrunk)} (λ i. (same i, one i, two i)) was

-- ---- a commit that is wanted

-- where there is too little room for a step
pub short_tidied : (v : Volume) (a : Space) (after : Content) (came : Tidying) → TidiesAs came (capacity_of v) (shrunk_of v) (free_of v.map) a.spare a.content after → came ≡ tidying.CommitFirst → LacksRoom v a
short_tidied v a after came was is = inl (subst (λ (t : Tidying). TidiesAs t (capacity_of v) (shrunk_of v) (free_of v.map) a.spare a.content after) is was).1

-- where a growth doesn't fit
pub short_grown : (v : Volume) (a : Space) (wanted : TreeWanted) → AwaitsGrowth (capacity_of v) (shrunk_of v) a.content wanted → (went : Growth) → (GrowthFits wanted.tree wanted.more v a → went ≡ growing.Grown) → (it : Tidying) → it ≡ tidied_by went
    → it ≡ tidying.CommitFirst → LacksRoom v a
short_grown v a wanted awaits went sure it is wants =
    inr (wanted, awaits, λ fits. absurd (let no_commit : tidying.Made ≡ tidying.CommitFirst = sym (is ∙ ap tidied_by (sure fits)) ∙ wants in cc no_commit))

-- behind reads
pub lacks_behind : (v w : Volume) (a b : Space) → ReadsVolume v w a b → b.content ≡ a.content → LacksRoom w b → LacksRoom v a
lacks_behind v w a b reads same (inl short) =
    inl (subst (λ (k : ℕ × Option ℕ × List Bool × ℕ × Content). IsNextShort k.0 k.1 k.2 k.3 (volume_of k.4)) {x = (capacity_of w, shrunk_of w, free_of w.map, b.spare, b.content)} {y = (capacity_of v, shrunk_of v, free_of v.map, a.spare, a.content)}
    (λ i. (reads.keeps.capacity i, reads.keeps.shrunk i, free_of (reads.keeps.map i), reads.looks.spare i, same i)) short)
lacks_behind v w a b reads same (inr grows) = inr (
  grows.0,
  subst (λ (k : ℕ × Option ℕ × Content). AwaitsGrowth k.0 k.1 k.2 grows.0) {x = (capacity_of w, shrunk_of w, b.content)} {y = (capacity_of v, shrunk_of v, a.content)} (λ i. (reads.keeps.capacity i, reads.keeps.shrunk i, same i)) grows.1,
  λ fits. grows.2 (growth_still v w a b reads grows.0.tree grows.0.more fits),
)
