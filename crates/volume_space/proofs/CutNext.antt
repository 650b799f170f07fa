-- A cut that is the next step of reclaiming.
use Rattle.std.proofs.Common.{◌≡◌, ◌⊎◌, ◌<◌, ◌≤◌, ℕ, ◌+◌, Bool, List, [], ◌∷◌, inl, inr, refl, sym, ◌∙◌, ap, subst}
use Rattle.std.specs.Prelude.{IfOk, IfSome, Option, None, Some, Result, Ok, Err}
use Rattle.sector_disk.specs.Lists.{Content}
use Rattle.hx_bytes.specs.declared.faults.Trouble.{Trouble}
use Rattle.hfs_volume.specs.Content.{VolumeState, records_of, volume_of}
use Rattle.hfs_volume.specs.Forks.{data_kind}
use Rattle.hfs_volume.specs.Links.{orphans_of}
use Rattle.hfs_volume.specs.Reclaim.{CutOrphan, CutShrunk, CutsAlone, Does, Reclaim, blocks_wanted, next_reclaim, reclaim_cost, reclaim_cost_with}
use Rattle.hfs_volume.specs.Weight.{cut_cost, free_blocks, room_with}
use Rattle.hfs_volume.specs.declared.cost.Cost.TheVariants as cost
use Rattle.volume_base.proofs.NextDrop.{least_is}
use Rattle.volume_runs.specs.Rest.{IsHeldUp, cut_puts}
use Rattle.volume_space.specs.Cutting.{AffordsCut, CutsFile, CutsOne, CutsTo, IsNextCut, MayCut, PutsCut, RefusesCut}
use Rattle.volume_space.specs.Orphans.{AffordsStep, HasCut, PutsNext, TidiesAs}
use Rattle.volume_space.specs.declared.tidying.Tidying.{Tidying}
use Rattle.volume_space.specs.declared.tidying.Tidying.TheVariants as tidying

-- the next cut may be made
pub next_may : (shrunk : Option ℕ) (content : Content) (id kind keep : ℕ) → IsNextCut shrunk content id kind keep → MayCut content id kind keep
next_may shrunk content id kind keep (inl (next, is_data, least)) = inl (least ∙ ap (blocks_wanted (volume_of content) id) (sym is_data))
next_may shrunk content id kind keep (inr (next, none, lowest)) =
    let found = least_is (orphans_of (records_of (volume_of content))) id lowest in
    inr (none, (found.0, found.1, found.2))

held_by : (capacity : ℕ) (volume : VolumeState) (id : ℕ) → RefusesCut capacity volume → IsHeldUp capacity volume (CutShrunk id)
unfolding reclaim_cost_with
held_by capacity volume id (why, costs) = (why, costs)

held_orphan : (capacity : ℕ) (volume : VolumeState) (id kind : ℕ) → RefusesCut capacity volume → IsHeldUp capacity volume (CutOrphan id kind)
unfolding reclaim_cost_with
held_orphan capacity volume id kind (why, costs) = (why, costs)

affords_by : (capacity : ℕ) (content : Content) (id : ℕ) → AffordsCut capacity (volume_of content) → AffordsStep capacity content (CutShrunk id)
unfolding reclaim_cost_with
affords_by capacity content id it = record { load = it.load; affords = it.affords }

affords_orphan : (capacity : ℕ) (content : Content) (id kind : ℕ) → AffordsCut capacity (volume_of content) → AffordsStep capacity content (CutOrphan id kind)
unfolding reclaim_cost_with
affords_orphan capacity content id kind it = record { load = it.load; affords = it.affords }

module _ (capacity : ℕ) (shrunk : Option ℕ) (before after : Content) (id kind keep : ℕ) where
  -- it was made
  made : IsNextCut shrunk before id kind keep → AffordsCut capacity (volume_of before) → CutsOne id kind keep before after → HasCut capacity shrunk before after
  made (inl (next, is_data, least)) affords one = record {
    cuts = record {
      step = CutShrunk id;
      is_cut = inl (id, refl);
      next = next;
      does = subst (λ (k : ℕ × ℕ). CutsAlone id k.0 k.1 (volume_of before) (volume_of after)) {x = (kind, keep)} {y = (data_kind, blocks_wanted (volume_of before) id data_kind)} (λ i. (is_data i, least i)) one.alone;
      keeps = one.keeps;
      tree = one.tree;
    };
    affords = affords_by capacity before id affords;
  }
  made (inr (next, none, lowest)) affords one = record {
    cuts = record {
      step = CutOrphan id kind;
      is_cut = inr (id, kind, refl);
      next = next;
      does = subst (λ n. CutsAlone id kind n (volume_of before) (volume_of after)) none one.alone;
      keeps = one.keeps;
      tree = one.tree;
    };
    affords = affords_orphan capacity before id kind affords;
  }

  tidies_as : (free : List Bool) (spare : ℕ) → IsNextCut shrunk before id kind keep → (came : Tidying) → CutsTo came capacity spare id kind keep before after → TidiesAs came capacity shrunk free spare before after
  tidies_as free spare next tidying.Made (affords, one) = inr (inr (made next affords one))
  tidies_as free spare (inl next) tidying.Rest (same, refused) = (same, inr (CutShrunk id, next.0, held_by capacity (volume_of before) id refused))
  tidies_as free spare (inr next) tidying.Rest (same, refused) = (same, inr (CutOrphan id kind, next.0, held_orphan capacity (volume_of before) id kind refused))
  tidies_as free spare (inl next) tidying.CommitFirst (same, short) = (same, (CutShrunk id, next.0, short))
  tidies_as free spare (inr next) tidying.CommitFirst (same, short) = (same, (CutOrphan id kind, next.0, short))

  -- what it came to
  pub tidies_next : (free : List Bool) (spare : ℕ) → IsNextCut shrunk before id kind keep → (r : Result Tidying Trouble) → IfOk r (λ (came : Tidying). CutsTo came capacity spare id kind keep before after) → IfOk r (λ (came : Tidying). TidiesAs came capacity shrunk free spare before after)
  tidies_next free spare next (Ok came) was = tidies_as free spare next came was
  tidies_next free spare next (Err why) was = tt

-- and what it puts
pub next_spent : (capacity : ℕ) (shrunk : Option ℕ) (content : Content) (id kind keep : ℕ) → IsNextCut shrunk content id kind keep → (before after : ℕ) → PutsCut capacity (volume_of content) before after → PutsNext capacity shrunk (volume_of content) before after
next_spent capacity shrunk content id kind keep (inl next) before after puts = inr (CutShrunk id, next.0, puts)
next_spent capacity shrunk content id kind keep (inr next) before after puts = inr (CutOrphan id kind, next.0, puts)

-- ---- behind reads

pub cuts_to_behind : (before between after : Content) → between ≡ before → (capacity first : ℕ) → first ≡ capacity → (spare left : ℕ) → left ≡ spare → (id kind keep : ℕ) (r : Result Tidying Trouble)
    → IfOk r (λ (came : Tidying). CutsTo came first left id kind keep between after) → IfOk r (λ (came : Tidying). CutsTo came capacity spare id kind keep before after)
cuts_to_behind before between after same capacity first one spare left two id kind keep r was =
    subst (λ (k : Content × ℕ × ℕ). IfOk r (λ (came : Tidying). CutsTo came k.1 k.2 id kind keep k.0 after)) {x = (between, first, left)} {y = (before, capacity, spare)} (λ i. (same i, one i, two i)) was
