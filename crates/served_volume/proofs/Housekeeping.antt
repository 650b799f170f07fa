-- A step of housekeeping, as serving sees it.
use Rattle.std.proofs.Common.{◌≡◌, ◌⊎◌, ℕ, List, inl, inr, ⊎_elim, sym, ◌∙◌, ap, subst}
use Rattle.std.specs.Prelude.{IfOk, Option, None, Some, Result, Ok, Err}
use Rattle.hfs_volume.specs.Asked.{asked_weight, is_refused}
use Rattle.hx_bytes.specs.declared.faults.Trouble.{Trouble}
use Rattle.jnl_format.specs.Recovery.{Content}
use Rattle.sector_disk.specs.Space.{Space}
use Rattle.hfs_volume.specs.Content.{VolumeState, volume_of}
use Rattle.hfs_volume.specs.Reclaim.{CommandWants, Does, GrowsTreeFirst, GrowsTrees, Reclaims, SameFiles, SameValues, StepWants, first_growth, next_reclaim, reclaim_cost}
use Rattle.hfs_volume.specs.Weight.{weight}
use Rattle.hfs_model.specs.Step.{refuses}
use Rattle.hfs_model.specs.declared.plain.PlainTree.{PlainTree}
use Rattle.hfs_serving.specs.Going.{Stays, Tidied, TidiesTo}
use Rattle.hfs_serving.specs.Grounds.{KeepsHeading}
use Rattle.hfs_serving.specs.Serving.{IsDurable, IsRead}
use Rattle.hfs_serving.specs.declared.volume.Next.{Next}
use Rattle.volume_runs.specs.Rest.{GrowsFor, IsAtRest, IsOwn}
use Rattle.volume_base.specs.Keeping.{shrunk_of}
use Rattle.volume_space.specs.declared.tidying.Tidying.{Tidying}
use Rattle.volume_space.specs.declared.tidying.Tidying.TheVariants as tidying
use Rattle.volume_base.specs.declared.volume.Volume.{Volume}
use Rattle.volume_step.specs.Tidying.{ReclaimsAs}
use Rattle.served_volume.specs.Knowing.{IsAlike, Knows}
use Rattle.served_volume.specs.Tidying.{next_of}
use Rattle.served_volume.proofs.Stepping.{Leaves, follow, heads_then, knows_then, place_then, reads_then}

-- contents that are alike have the same step of reclaiming
reclaims_alike : (capacity : ℕ) (shrunk : Option ℕ) (now next before after : Content) → IsAlike now before → IsAlike next after → Reclaims capacity shrunk before after → Reclaims capacity shrunk now next
reclaims_alike capacity shrunk now next before after one two was =
    record {
      step = was.step;
      next = ap (λ (l : VolumeState). next_reclaim l shrunk) one.lists ∙ was.next;
      load = was.load;
      grow = was.grow;
      affords = ap (λ (l : VolumeState). reclaim_cost capacity l was.step) one.lists ∙ was.affords;
      grows = subst (λ (k : VolumeState × VolumeState). GrowsTrees was.grow k.0 k.1) {x = (volume_of before, volume_of after)} {y = (volume_of now, volume_of next)} (λ i. (sym one.lists i, sym two.lists i)) was.grows;
      does = subst (λ (k : VolumeState × VolumeState). Does was.step k.0 k.1) {x = (volume_of before, volume_of after)} {y = (volume_of now, volume_of next)} (λ i. (sym one.lists i, sym two.lists i)) was.does;
      keeps = record { sound = two.sound; tree = two.tree ∙ was.keeps.tree ∙ sym one.tree };
    }

-- and what wants a growth wants it
wants_alike : (capacity : ℕ) (shrunk : Option ℕ) (now before : Content) (grow : List ℕ) → IsAlike now before → CommandWants capacity before grow ⊎ StepWants capacity shrunk before grow → CommandWants capacity now grow ⊎ StepWants capacity shrunk now grow
wants_alike capacity shrunk now before grow one (inl was) =
    inl (record { asked = was.asked; no_refusal = ap (λ (t : PlainTree). is_refused t was.asked) one.tree ∙ was.no_refusal; load = was.load; affords = (λ i. asked_weight capacity (one.lists i) (one.tree i) was.asked) ∙ was.affords })
wants_alike capacity shrunk now before grow one (inr was) =
    inr (record { step = was.step; next = ap (λ (l : VolumeState). next_reclaim l shrunk) one.lists ∙ was.next; load = was.load; affords = ap (λ (l : VolumeState). reclaim_cost capacity l was.step) one.lists ∙ was.affords })

own_alike : (capacity : ℕ) (shrunk : Option ℕ) (now before : Content) (grow : List ℕ) (one : IsAlike now before) (wanted : CommandWants capacity before grow ⊎ StepWants capacity shrunk before grow) → IsOwn None wanted → IsOwn None (wants_alike capacity shrunk now before grow one wanted)
unfolding wants_alike
own_alike capacity shrunk now before grow one (inl was) own = absurd (let no : None ≡ Some was.asked = own in cc no)
own_alike capacity shrunk now before grow one (inr was) own = tt

-- and the same growth of a tree
growth_alike : (capacity : ℕ) (shrunk : Option ℕ) (now next before after : Content) → IsAlike now before → IsAlike next after → GrowsTreeFirst capacity shrunk before after → GrowsTreeFirst capacity shrunk now next
growth_alike capacity shrunk now next before after one two was =
    record {
      grow = was.grow;
      wanted = wants_alike capacity shrunk now before was.grow one was.wanted;
      some = was.some;
      grows = subst (λ (k : VolumeState × VolumeState). GrowsTrees (first_growth was.grow) k.0 k.1) {x = (volume_of before, volume_of after)} {y = (volume_of now, volume_of next)} (λ i. (sym one.lists i, sym two.lists i)) was.grows;
      files = subst (λ (k : VolumeState × VolumeState). SameFiles k.0 k.1) {x = (volume_of before, volume_of after)} {y = (volume_of now, volume_of next)} (λ i. (sym one.lists i, sym two.lists i)) was.files;
      values = subst (λ (k : VolumeState × VolumeState). SameValues k.0 k.1) {x = (volume_of before, volume_of after)} {y = (volume_of now, volume_of next)} (λ i. (sym one.lists i, sym two.lists i)) was.values;
      keeps = record { sound = two.sound; tree = two.tree ∙ was.keeps.tree ∙ sym one.tree };
    }

-- ahead of no command
alone_alike : (capacity : ℕ) (shrunk : Option ℕ) (now next before after : Content) → IsAlike now before → IsAlike next after → GrowsFor capacity shrunk None before after → GrowsFor capacity shrunk None now next
unfolding growth_alike
alone_alike capacity shrunk now next before after one two was =
    record { grows = growth_alike capacity shrunk now next before after one two was.grows; own = own_alike capacity shrunk now before was.grows.grow one was.grows.wanted was.own }

module _ (v w : Volume) (capacity : ℕ) (committed now : Content) (shrunk : Option ℕ) (a b : Space) (known : Knows v capacity committed now shrunk a) (below : IsDurable committed a) (reads : IsRead now a) (heads : KeepsHeading a) (leaves : Leaves v w committed a b) (kept : shrunk_of w ≡ shrunk_of v)
  where
    tidied : Reclaims capacity shrunk a.content b.content ⊎ GrowsFor capacity shrunk None a.content b.content → Tidied capacity None (λ was is file. Knows w capacity was is file b) committed now shrunk b
    tidied was =
        let f = follow v w capacity committed now shrunk a b known below reads heads leaves in
        record {
          next = f.next;
          tidied = ⊎_elim (λ made. inl (reclaims_alike capacity shrunk now f.next a.content b.content known.alike f.alike made)) (λ grown. inr (inr (inl (alone_alike capacity shrunk now f.next a.content b.content known.alike f.alike grown)))) was;
          place = place_then v w capacity committed now shrunk a b known below reads heads leaves;
          reads = reads_then v w capacity committed now shrunk a b known below reads heads leaves;
          heads = heads_then v w capacity committed now shrunk a b known below reads heads leaves;
          known = knows_then v w capacity committed now shrunk a b known below reads heads leaves shrunk (kept ∙ known.shrunk_is);
        }

    stays : b.content ≡ a.content → Stays (λ was is file. Knows w capacity was is file b) committed now shrunk b
    stays same =
        let f = follow v w capacity committed now shrunk a b known below reads heads leaves in
        let is : f.next ≡ now = f.still same in
        record {
          reads = subst (λ (c : Content). IsRead c b) is (reads_then v w capacity committed now shrunk a b known below reads heads leaves);
          heads = heads_then v w capacity committed now shrunk a b known below reads heads leaves;
          known = subst (λ (c : Content). Knows w capacity committed c shrunk b) is (knows_then v w capacity committed now shrunk a b known below reads heads leaves shrunk (kept ∙ known.shrunk_is));
        }

    tidies : (came : Tidying) → ReclaimsAs came capacity shrunk a.content b.content → TidiesTo (next_of came) capacity (λ was is file. Knows w capacity was is file b) committed now shrunk b
    tidies tidying.Rest was = (stays was.0, subst (λ (l : VolumeState). IsAtRest capacity shrunk l) (sym known.alike.lists) was.1)
    tidies tidying.Made was = tidied was
    tidies tidying.CommitFirst was = stays was

    -- what serving is answered
    pub tidies_as : (came : Tidying) → ReclaimsAs came capacity shrunk a.content b.content → (r : Result Next Trouble) → IfOk r (λ (n : Next). n ≡ next_of came) → IfOk r (λ (n : Next). TidiesTo n capacity (λ was is file. Knows w capacity was is file b) committed now shrunk b)
    tidies_as came was (Ok n) is = subst (λ (k : Next). TidiesTo k capacity (λ past here file. Knows w capacity past here file b) committed now shrunk b) (sym is) (tidies came was)
    tidies_as came was (Err why) is = tt
