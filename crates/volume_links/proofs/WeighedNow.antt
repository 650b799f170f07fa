-- What a verdict on a command on a link or a fork says of the blocks that may be taken, and of the room.
use Rattle.std.proofs.Common.{◌≡◌, ◌≢◌, ◌⊎◌, ◌≤◌, ◌<◌, ℕ, Bool, true, false, List, [], ◌∷◌, inl, inr, ⊎_elim, refl, sym, ◌∙◌, ap, subst, eq-eqb}
use Rattle.std.specs.Prelude.{◌&&◌, ◌==◌, nat_lt, not, Option, None, Some, slice_index, if◌then◌else◌}
use Rattle.std.proofs.lemmas.Bool.{cases_lt, eqb-true, ltb-false, ltb-true, true≢false}
use Rattle.sector_disk.specs.Space.{Space}
use Rattle.hfs_language.specs.declared.reply.Reply.{Reply}
use Rattle.hfs_language.specs.declared.reply.Reply.TheVariants as reply
use Rattle.hfs_model.specs.Kinds.{kind_refuses, kind_told}
use Rattle.hfs_model.specs.Step.{is_refusal}
use Rattle.hfs_model.specs.declared.kinds.KindEdit.{KindEdit}
use Rattle.hfs_volume.specs.Content.{volume_of}
use Rattle.hfs_volume.specs.Cost.{catalog_key, cost_of, growth, tree_at}
use Rattle.hfs_volume.specs.KindWeight.{fork_of_edit, kind_data_of, kind_edits_of, kind_only_reads, kind_weight, kind_weight_with}
use Rattle.hfs_volume.specs.Reclaim.{first_growth}
use Rattle.hfs_volume.specs.TreeOf.{tree_of}
use Rattle.hfs_volume.specs.Weight.{Data, cut_cost, free_blocks, needs_cut_in, needs_in, room_with}
use Rattle.hfs_volume.specs.declared.cost.Cost.{Cost}
use Rattle.hfs_volume.specs.declared.cost.Cost.TheVariants as cost
use Rattle.volume_base.specs.Fitting.{takable_of}
use Rattle.volume_base.specs.Room.{capacity_of}
use Rattle.volume_base.specs.Weighing.{joined, refused_or}
use Rattle.volume_base.specs.declared.volume.Volume.{Volume}
use Rattle.volume_base.specs.declared.weighing.Weight.{Weight}
use Rattle.volume_base.specs.declared.weighing.Weight.TheVariants as answer
use Rattle.volume_space.specs.Growing.{alone}
use Rattle.volume_space.specs.declared.ahead.WhichTree.{WhichTree}
use Rattle.volume_space.specs.declared.ahead.WhichTree.TheVariants as which
use Rattle.volume_step.specs.Steps.{verdict_of}
use Rattle.volume_step.specs.declared.judging.Verdict.TheVariants as verdict
use Rattle.volume_step.proofs.Judged.{first_attributes, first_catalog, first_extents, none, some}
use Rattle.volume_step.proofs.Ready.{of_cost}
use Rattle.volume_links.specs.Judging.{KindIsWeighedNow}
use Rattle.volume_links.specs.Steps.{kind_weighed}
use Rattle.volume_links.specs.Wanting.{KindLacksNow, kind_cost_now}
use Rattle.volume_links.proofs.KindJudged.{kind_three}

-- the load of a command ahead of which no cut goes, by what it needs
pub uncut_cost : (capacity : ℕ) (free : List Bool) (space : Space) (asked : KindEdit) → kind_only_reads asked ≡ false → needs_cut_in (fork_of_edit asked) (volume_of space.content) (kind_data_of (tree_of space.content) asked) ≡ false
    → kind_weight_with capacity free (volume_of space.content) (tree_of space.content) asked
    ≡ cost_of (needs_in (fork_of_edit asked) free (volume_of space.content) (kind_edits_of asked) (kind_data_of (tree_of space.content) asked)) (room_with capacity free (volume_of space.content))
unfolding kind_weight_with
uncut_cost capacity free space asked changes uncut =
    λ i. if changes i then cost.Load 0 (0 ∷ 0 ∷ 0 ∷ []) else if uncut i then cut_cost (room_with capacity free (volume_of space.content))
    else cost_of (needs_in (fork_of_edit asked) free (volume_of space.content) (kind_edits_of asked) (kind_data_of (tree_of space.content) asked)) (room_with capacity free (volume_of space.content))

-- two numbers that aren't told alike are others
unequal : (n m : ℕ) → (n == m) ≡ false → n ≢ m
unequal n m told same = true≢false (sym (eq-eqb n m same) ∙ told)

module _ (v : Volume) (a : Space) (asked : KindEdit) (changes : kind_only_reads asked ≡ false)
    (uncut : kind_refuses (tree_of a.content) asked ≡ false → needs_cut_in (fork_of_edit asked) (volume_of a.content) (kind_data_of (tree_of a.content) asked) ≡ false)
  where
    -- the catalog grows by as many nodes, whichever blocks count as free
    catalog_alike : kind_refuses (tree_of a.content) asked ≡ false → (s t : ℕ) (grow more : List ℕ) → kind_weight (capacity_of v) (volume_of a.content) (tree_of a.content) asked ≡ cost.Load s grow → kind_cost_now asked v a ≡ cost.Load t more
        → slice_index more 1 ≡ slice_index grow 1
    unfolding room_with
    catalog_alike fine s t grow more is now =
        catalog_of (takable_of v) t more now ∙ ap (growth (volume_of a.content).head.block_size catalog_key (tree_at (room_with (capacity_of v) (takable_of v) (volume_of a.content)) 1)) (same (kind_data_of (tree_of a.content) asked)) ∙ sym (catalog_of (free_blocks (volume_of a.content)) s grow is)
      where
        grown_by : List Bool → ℕ
        grown_by free =
            growth (volume_of a.content).head.block_size catalog_key (tree_at (room_with (capacity_of v) free (volume_of a.content)) 1) (slice_index (needs_in (fork_of_edit asked) free (volume_of a.content) (kind_edits_of asked) (kind_data_of (tree_of a.content) asked)).edits 1)

        catalog_of : (free : List Bool) (n : ℕ) (nodes : List ℕ) → kind_weight_with (capacity_of v) free (volume_of a.content) (tree_of a.content) asked ≡ cost.Load n nodes → slice_index nodes 1 ≡ grown_by free
        catalog_of free n nodes weighs =
            ap (λ l. slice_index l 1) (of_cost (needs_in (fork_of_edit asked) free (volume_of a.content) (kind_edits_of asked) (kind_data_of (tree_of a.content) asked)) (room_with (capacity_of v) free (volume_of a.content)) n nodes
            (sym (uncut_cost (capacity_of v) free a asked changes (uncut fine)) ∙ weighs)).1

        same : (d : Option Data) → slice_index (needs_in (fork_of_edit asked) (takable_of v) (volume_of a.content) (kind_edits_of asked) d).edits 1 ≡ slice_index (needs_in (fork_of_edit asked) (free_blocks (volume_of a.content)) (volume_of a.content) (kind_edits_of asked) d).edits 1
        same None = refl
        same (Some put) = refl

    module _ (fine : kind_refuses (tree_of a.content) asked ≡ false) (s t : ℕ) (grow more : List ℕ) (is : kind_weight (capacity_of v) (volume_of a.content) (tree_of a.content) asked ≡ cost.Load s grow) (now : kind_cost_now asked v a ≡ cost.Load t more)
        (extents : slice_index grow 0 ≡ slice_index more 0) (attributes : slice_index grow 2 ≡ slice_index more 2)
      where
        same_growth : more ≡ grow
        same_growth =
            kind_three (capacity_of v) (takable_of v) a.content asked t more now
            ∙ (λ i. sym extents i ∷ catalog_alike fine s t grow more is now i ∷ sym attributes i ∷ [])
            ∙ sym (kind_three (capacity_of v) (free_blocks (volume_of a.content)) a.content asked s grow is)

        grows : (tree : WhichTree) (n : ℕ) → first_growth grow ≡ alone tree n → KindIsWeighedNow (verdict.Grows tree n) v a asked
        grows tree n first = ⊎_elim
            (λ (short : a.spare < t). inl (record { load = t; grow = more; costs = now; room = short }))
            (λ (within : t ≤ a.spare). inr (more, ap first_growth same_growth ∙ first, record { load = t; costs = now; within = within }))
            (cases_lt a.spare t)

        by_spare : (b : Bool) → nat_lt a.spare t ≡ b → grow ≡ 0 ∷ 0 ∷ 0 ∷ [] → KindIsWeighedNow (if b then verdict.CommitFirst else verdict.Fits) v a asked
        by_spare true less all = inl (record { load = t; grow = more; costs = now; room = ltb-true a.spare t less })
        by_spare false enough all = record { load = t; costs = now ∙ ap (cost.Load t) (same_growth ∙ all); within = ltb-false a.spare t enough }

        of_load : KindIsWeighedNow (verdict_of (answer.Load t grow) a.spare) v a asked
        of_load = by (slice_index grow 0 == 0) (slice_index grow 1 == 0) (slice_index grow 2 == 0) refl refl refl
          where
            by : (x y z : Bool) → (slice_index grow 0 == 0) ≡ x → (slice_index grow 1 == 0) ≡ y → (slice_index grow 2 == 0) ≡ z
                → KindIsWeighedNow (if not x then verdict.Grows which.Extents (slice_index grow 0) else if not y then verdict.Grows which.Catalog (slice_index grow 1) else if not z then verdict.Grows which.Attributes (slice_index grow 2) else (if nat_lt a.spare t then verdict.CommitFirst else verdict.Fits)) v a asked
            by false y z one two third = grows which.Extents (slice_index grow 0) (first_extents grow (some (slice_index grow 0) one))
            by true false z one two third = grows which.Catalog (slice_index grow 1) (first_catalog grow (none (slice_index grow 0) one) (some (slice_index grow 1) two))
            by true true false one two third = grows which.Attributes (slice_index grow 2) (first_attributes grow (none (slice_index grow 0) one) (none (slice_index grow 1) two))
            by true true true one two third =
                by_spare (nat_lt a.spare t) refl (kind_three (capacity_of v) (free_blocks (volume_of a.content)) a.content asked s grow is ∙ (λ i. none (slice_index grow 0) one i ∷ none (slice_index grow 1) two i ∷ none (slice_index grow 2) third i ∷ []))

    of_costs : kind_refuses (tree_of a.content) asked ≡ false → (one other : Cost) → kind_weight (capacity_of v) (volume_of a.content) (tree_of a.content) asked ≡ one → kind_cost_now asked v a ≡ other → KindIsWeighedNow (verdict_of (joined one other) a.spare) v a asked
    of_costs fine (cost.Refused why) other is now = tt
    of_costs fine (cost.Load s grow) (cost.Refused why) is now = inr (inl (record { why = why; costs = now }))
    of_costs fine (cost.Load s grow) (cost.Load t more) is now = by (slice_index grow 0 == slice_index more 0) (slice_index grow 2 == slice_index more 2) refl refl
      where
        otherwise : (slice_index grow 0 ≢ slice_index more 0) ⊎ (slice_index grow 2 ≢ slice_index more 2) → KindLacksNow v a asked
        otherwise other = inr (inr (record { load = t; grow = more; costs = now; whole = s; nodes = grow; weighs = is; other = other }))

        by : (x y : Bool) → (slice_index grow 0 == slice_index more 0) ≡ x → (slice_index grow 2 == slice_index more 2) ≡ y → KindIsWeighedNow (verdict_of (if x && y then answer.Load t grow else answer.CommitFirst) a.spare) v a asked
        by true true one third = of_load fine s t grow more is now (eqb-true (slice_index grow 0) (slice_index more 0) one) (eqb-true (slice_index grow 2) (slice_index more 2) third)
        by true false one third = otherwise (inr (unequal (slice_index grow 2) (slice_index more 2) third))
        by false y one third = otherwise (inl (unequal (slice_index grow 0) (slice_index more 0) one))

    of_reply : (said : Reply) → (kind_told (tree_of a.content) asked).0 ≡ said → (one other : Cost) → kind_weight (capacity_of v) (volume_of a.content) (tree_of a.content) asked ≡ one → kind_cost_now asked v a ≡ other → KindIsWeighedNow (verdict_of (refused_or said (joined one other)) a.spare) v a asked
    of_reply (reply.No why) is one other same now = tt
    of_reply reply.Ok is one other same now = of_costs (ap is_refusal is) one other same now
    of_reply (reply.Listing list) is one other same now = of_costs (ap is_refusal is) one other same now
    of_reply (reply.Facts facts) is one other same now = of_costs (ap is_refusal is) one other same now
    of_reply (reply.Content bytes) is one other same now = of_costs (ap is_refusal is) one other same now
    of_reply (reply.Gauge gauge) is one other same now = of_costs (ap is_refusal is) one other same now

    pub weighed_now : (weighs : Weight) → weighs ≡ kind_weighed (capacity_of v) (takable_of v) (volume_of a.content) (tree_of a.content) asked → KindIsWeighedNow (verdict_of weighs a.spare) v a asked
    weighed_now weighs is = subst (λ (w : Weight). KindIsWeighedNow (verdict_of w a.spare) v a asked) (sym is)
        (of_reply (kind_told (tree_of a.content) asked).0 refl (kind_weight (capacity_of v) (volume_of a.content) (tree_of a.content) asked) (kind_cost_now asked v a) refl refl)
