-- Where a commit is wanted, something stands in the command's way.
use Rattle.std.proofs.Common.{◌≡◌, ◌≢◌, ◌⊎◌, ◌≤◌, ◌<◌, ℕ, List, Bool, true, false, inl, inr, ⊎_elim, refl, sym, ◌∙◌, ap, le-leb, eq-eqb}
use Rattle.std.specs.Prelude.{◌&&◌, not, nat_le, Option, None, Some, slice_index}
use Rattle.std.proofs.lemmas.Bool.{cases_eq, cases_lt}
use Rattle.sector_disk.specs.Space.{Space}
use Rattle.hfs_language.specs.declared.command.Command.{Command}
use Rattle.hfs_volume.specs.declared.asked.Asked.TheVariants.{Plain}
use Rattle.hfs_language.specs.declared.refusal.Refusal.{Refusal}
use Rattle.hfs_model.specs.Step.{only_reads}
use Rattle.hfs_volume.specs.Content.{volume_of}
use Rattle.hfs_volume.specs.TreeOf.{tree_of}
use Rattle.hfs_volume.specs.Weight.{Data, data_of, most_zeros, needs_cut, weight, zero_blocks}
use Rattle.hfs_volume.specs.declared.cost.Cost.{Cost}
use Rattle.hfs_volume.specs.declared.cost.Cost.TheVariants as cost
use Rattle.volume_base.specs.Room.{capacity_of}
use Rattle.volume_base.specs.declared.volume.Volume.{Volume}
use Rattle.volume_space.specs.Spreading.{is_met_extents}
use Rattle.volume_space.specs.Writing.{is_data_met}
use Rattle.volume_step.specs.Steps.{FitsReady, LacksCutRoom, PutsNow}
use Rattle.volume_step.specs.declared.outcome.Outcome.{Outcome}
use Rattle.volume_step.specs.declared.outcome.Outcome.TheVariants as outcome
use Rattle.volume_space.specs.declared.tidying.Tidying.{Tidying}
use Rattle.volume_space.specs.declared.tidying.Tidying.TheVariants as tidying
use Rattle.hfs_serving.specs.declared.volume.Next.TheVariants as next
use Rattle.hfs_serving.specs.declared.volume.Performed.TheVariants as performed
use Rattle.served_volume.specs.Answering.{performed_of, unless_short}
use Rattle.served_volume.specs.Tidying.{next_of}
use Rattle.served_volume.specs.Wanting.{GrowsOtherwise, HasManyZeros, LacksBlocks, LacksRoomForLoad, LacksRoomToCut, WantsCommit, cost_now}

-- of two loads the growth
same_growth : (load other : ℕ) (grow nodes : List ℕ) → cost.Load load grow ≡ cost.Load other nodes → grow ≡ nodes
same_growth load other grow nodes same = cc same

no_load : (why : Refusal) (load : ℕ) (grow : List ℕ) → cost.Refused why ≡ cost.Load load grow → ⊥
no_load why load grow same = cc same

-- where the extents overflow file needn't grow, and there is room for the load, it is met
met_extents : (load spare : ℕ) (grow : List ℕ) → slice_index grow 0 ≡ 0 → load ≤ spare → is_met_extents (cost.Load load grow) spare ≡ true
met_extents load spare grow none within = ap (λ (b : Bool). b && nat_le load spare) (eq-eqb (slice_index grow 0) 0 none) ∙ le-leb load spare within

module _ (asked : Command) (volume : Volume) (space : Space) where
  -- what stands in its way where no cut goes ahead of it
  abbrev Stands : Type 0
  Stands = LacksRoomForLoad asked volume space ⊎ LacksBlocks asked volume space ⊎ GrowsOtherwise asked volume space ⊎ HasManyZeros asked volume space

  module _ (not_ready : FitsReady asked volume space → ⊥) (none : data_of (tree_of space.content) asked ≡ None) where
    plain_whole : (load : ℕ) (grow : List ℕ) → cost_now asked volume space None ≡ cost.Load load grow → load ≤ space.spare → (whole : Cost) → weight (capacity_of volume) (volume_of space.content) (tree_of space.content) asked ≡ whole → Stands
    plain_whole load grow costs within (cost.Refused why) is = absurd (not_ready (record {
      now = record { no_data = none; load = load; grow = grow; costs = costs; within = within };
      alike = inr (λ other nodes is_load. absurd (no_load why other nodes (sym is ∙ is_load)));
    }))
    plain_whole load grow costs within (cost.Load whole nodes) is = ⊎_elim
        (λ (same : slice_index nodes 2 ≡ slice_index grow 2). absurd (not_ready (record {
          now = record { no_data = none; load = load; grow = grow; costs = costs; within = within };
          alike = inr (λ other more is_load. ap (λ (g : List ℕ). slice_index g 2) (same_growth other whole more nodes (sym is_load ∙ is)) ∙ same);
        })))
        (λ (other : slice_index nodes 2 ≢ slice_index grow 2). inr (inr (inl (record {
          load = load;
          grow = grow;
          costs = ap (cost_now asked volume space) none ∙ costs;
          other = inl (whole, nodes, is, inr other);
        }))))
        (cases_eq (slice_index nodes 2) (slice_index grow 2))

    plain_stands : (is : Cost) → cost_now asked volume space None ≡ is → Stands
    plain_stands (cost.Refused why) costs = inr (inl (record { why = why; costs = ap (cost_now asked volume space) none ∙ costs }))
    plain_stands (cost.Load load grow) costs = ⊎_elim
        (λ (short : space.spare < load). inl (record { load = load; grow = grow; costs = ap (cost_now asked volume space) none ∙ costs; room = short }))
        (λ (within : load ≤ space.spare). plain_whole load grow costs within (weight (capacity_of volume) (volume_of space.content) (tree_of space.content) asked) refl)
        (cases_lt space.spare load)

  module _ (not_put : PutsNow asked volume space → ⊥) (uncut : needs_cut (volume_of space.content) (data_of (tree_of space.content) asked) ≡ false) (put : Data) (some : data_of (tree_of space.content) asked ≡ Some put) where
    data_met : (load : ℕ) (grow : List ℕ) → cost_now asked volume space (Some put) ≡ cost.Load load grow → slice_index grow 0 ≡ 0 → load ≤ space.spare → is_data_met volume space.spare (volume_of space.content) (data_of (tree_of space.content) asked) ≡ true
    data_met load grow costs none within =
        ap (is_data_met volume space.spare (volume_of space.content)) some
        ∙ ap (λ (b : Bool). not b && is_met_extents (cost_now asked volume space (Some put)) space.spare) (ap (needs_cut (volume_of space.content)) (sym some) ∙ uncut)
        ∙ ap (λ (c : Cost). is_met_extents c space.spare) costs ∙ met_extents load space.spare grow none within

    data_few : (load : ℕ) (grow : List ℕ) → cost_now asked volume space (Some put) ≡ cost.Load load grow → slice_index grow 0 ≡ 0 → load ≤ space.spare
        → ((other : ℕ) (nodes : List ℕ) → weight (capacity_of volume) (volume_of space.content) (tree_of space.content) asked ≡ cost.Load other nodes → slice_index nodes 0 ≡ 0) → Stands
    data_few load grow costs none within alike = ⊎_elim
        (λ (many : most_zeros < zero_blocks (volume_of space.content).head.block_size (tree_of space.content) asked). ⊎_elim
        (λ (less : space.spare < capacity_of volume). inr (inr (inr (record { many = many; put = less }))))
        (λ (empty : capacity_of volume ≤ space.spare). absurd (not_put (record { met = data_met load grow costs none within; alike = alike; few = inr empty })))
        (cases_lt space.spare (capacity_of volume)))
        (λ (few : zero_blocks (volume_of space.content).head.block_size (tree_of space.content) asked ≤ most_zeros). absurd (not_put (record { met = data_met load grow costs none within; alike = alike; few = inl few })))
        (cases_lt most_zeros (zero_blocks (volume_of space.content).head.block_size (tree_of space.content) asked))

    data_whole : (load : ℕ) (grow : List ℕ) → cost_now asked volume space (Some put) ≡ cost.Load load grow → slice_index grow 0 ≡ 0 → load ≤ space.spare → (whole : Cost) → weight (capacity_of volume) (volume_of space.content) (tree_of space.content) asked ≡ whole → Stands
    data_whole load grow costs none within (cost.Refused why) is = data_few load grow costs none within (λ other nodes is_load. absurd (no_load why other nodes (sym is ∙ is_load)))
    data_whole load grow costs none within (cost.Load whole nodes) is = ⊎_elim
        (λ (zero_is : slice_index nodes 0 ≡ 0). data_few load grow costs none within (λ other more is_load. ap (λ (g : List ℕ). slice_index g 0) (same_growth other whole more nodes (sym is_load ∙ is)) ∙ zero_is))
        (λ (some_grow : slice_index nodes 0 ≢ 0). inr (inr (inl (record {
          load = load;
          grow = grow;
          costs = ap (cost_now asked volume space) some ∙ costs;
          other = inl (whole, nodes, is, inl (λ same. some_grow (same ∙ none)));
        }))))
        (cases_eq (slice_index nodes 0) 0)

    data_stands : (is : Cost) → cost_now asked volume space (Some put) ≡ is → Stands
    data_stands (cost.Refused why) costs = inr (inl (record { why = why; costs = ap (cost_now asked volume space) some ∙ costs }))
    data_stands (cost.Load load grow) costs = ⊎_elim
        (λ (short : space.spare < load). inl (record { load = load; grow = grow; costs = ap (cost_now asked volume space) some ∙ costs; room = short }))
        (λ (within : load ≤ space.spare). ⊎_elim
        (λ (none : slice_index grow 0 ≡ 0). data_whole load grow costs none within (weight (capacity_of volume) (volume_of space.content) (tree_of space.content) asked) refl)
        (λ (some_grow : slice_index grow 0 ≢ 0). inr (inr (inl (record { load = load; grow = grow; costs = ap (cost_now asked volume space) some ∙ costs; other = inr some_grow }))))
        (cases_eq (slice_index grow 0) 0))
        (cases_lt space.spare load)

  module _ (not_now : (only_reads asked ≡ true) ⊎ (FitsReady asked volume space ⊎ PutsNow asked volume space) → ⊥) where
    by_data : needs_cut (volume_of space.content) (data_of (tree_of space.content) asked) ≡ false → (it : Option Data) → data_of (tree_of space.content) asked ≡ it → Stands
    by_data uncut None is = plain_stands (λ ready. not_now (inr (inl ready))) is (cost_now asked volume space None) refl
    by_data uncut (Some put) is = data_stands (λ now. not_now (inr (inr now))) uncut put is (cost_now asked volume space (Some put)) refl

    by_cut : (needs_cut (volume_of space.content) (data_of (tree_of space.content) asked) ≡ true → LacksCutRoom volume space) → (cuts : Bool) → needs_cut (volume_of space.content) (data_of (tree_of space.content) asked) ≡ cuts → LacksRoomToCut asked volume space ⊎ Stands
    by_cut short true is = inl (record { needs = is; room = short is })
    by_cut short false is = inr (by_data is (data_of (tree_of space.content) asked) refl)

    by_reading : (needs_cut (volume_of space.content) (data_of (tree_of space.content) asked) ≡ true → LacksCutRoom volume space) → (reads : Bool) → only_reads asked ≡ reads → WantsCommit volume space (Some (Plain asked))
    by_reading short true is = absurd (not_now (inl is))
    by_reading short false is = (is, by_cut short (needs_cut (volume_of space.content) (data_of (tree_of space.content) asked)) refl)

  -- where none of what lets a command go ahead stands, and a cut ahead of it has too little room
  pub wants_commit : ((only_reads asked ≡ true) ⊎ (FitsReady asked volume space ⊎ PutsNow asked volume space) → ⊥) → (needs_cut (volume_of space.content) (data_of (tree_of space.content) asked) ≡ true → LacksCutRoom volume space) → WantsCommit volume space (Some (Plain asked))
  wants_commit not_now short = by_reading not_now short (only_reads asked) refl

-- a step that comes to wanting a commit wanted one
pub wanted_first : (fresh : Bool) (o : Outcome) → unless_short fresh o ≡ outcome.CommitFirst → o ≡ outcome.CommitFirst
wanted_first true (outcome.Answered said changes) is = absurd (cc is)
wanted_first true outcome.CommitFirst is = refl
wanted_first true outcome.Again is = absurd (cc is)
wanted_first false (outcome.Answered said changes) is = absurd (cc is)
wanted_first false outcome.CommitFirst is = refl
wanted_first false outcome.Again is = absurd (cc is)

pub performed_first : (o : Outcome) → performed_of o ≡ performed.CommitFirst → o ≡ outcome.CommitFirst
performed_first (outcome.Answered said changes) is = absurd (cc is)
performed_first outcome.CommitFirst is = refl
performed_first outcome.Again is = absurd (cc is)

pub tidied_first : (came : Tidying) → next_of came ≡ next.CommitFirst → came ≡ tidying.CommitFirst
tidied_first tidying.Rest is = absurd (cc is)
tidied_first tidying.Made is = absurd (cc is)
tidied_first tidying.CommitFirst is = refl
