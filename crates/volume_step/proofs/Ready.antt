-- A command that fits now wants no commit.
use Rattle.std.proofs.Common.{◌≡◌, ◌≢◌, ◌⊎◌, inl, inr, ◌<◌, ◌≤◌, ℕ, ◌+◌, ◌*◌, ◌/◌, min, Bool, true, false, List, [], ◌∷◌, length, refl, sym, ◌∙◌, ap, subst, arith}
use Rattle.std.specs.Prelude.{◌==◌, ◌&&◌, ◌^◌, ◌||◌, nat_le, nat_lt, not, slice_index, is_some, IfOk, IsTrue, Option, None, Some, Result, Ok, Err, if◌then◌else◌}
use Rattle.std.proofs.lemmas.Bool.{and_parts, eq-eqb, eqb-true, le-ltb, leb-true, true≢false}
use Rattle.hx_bytes.specs.declared.faults.Trouble.{Trouble}
use Rattle.jnl_format.specs.Recovery.{Content}
use Rattle.sector_disk.specs.Space.{Space}
use Rattle.alloc_bitmap.specs.declared.bitmap.Bitmap.{Bitmap}
use Rattle.flag_rows.specs.Bits.{sectors_for}
use Rattle.flag_rows.specs.Runs.{longest_of, runs_of}
use Rattle.alloc_bitmap.specs.Map.{free_of}
use Rattle.btree_file.specs.Growth.{map_nodes_for}
use Rattle.btree_file.specs.Map.{bits_of}
use Rattle.btree_file.specs.declared.tree.TreeFile.{TreeFile}
use Rattle.hx_bytes.specs.declared.extents.ForkRecord.{ForkRecord}
use Rattle.volume_header.specs.declared.header.VolumeHeader.{VolumeHeader}
use Rattle.hfs_language.specs.declared.command.Command.{Command}
use Rattle.hfs_language.specs.declared.command.Command.TheVariants as command
use Rattle.hfs_language.specs.declared.refusal.Refusal.{Refusal}
use Rattle.hfs_language.specs.declared.refusal.Refusal.TheVariants as refusal
use Rattle.hfs_language.specs.declared.reply.Change.{Change}
use Rattle.hfs_language.specs.declared.reply.Reply.{Reply}
use Rattle.hfs_language.specs.declared.reply.Reply.TheVariants as reply
use Rattle.hfs_model.specs.Step.{is_refusal, most_bytes, most_size, on, only_reads, size_written, step_line, then_, to_file, unless, written}
use Rattle.hfs_model.specs.declared.plain.PlainNode.{PlainNode}
use Rattle.hfs_model.specs.declared.plain.PlainTree.{PlainTree}
use Rattle.hfs_volume.specs.Content.{VolumeState, has_attributes, volume_of}
use Rattle.hfs_volume.specs.Cost.{catalog_key, cost_of, cost_or, extents_key, growth, load_of, node_sectors, overflow_records, plan_of, resource_refusal, takes_extent, tree_at}
use Rattle.hfs_volume.specs.Reclaim.{first_growth}
use Rattle.hfs_volume.specs.TreeOf.{tree_of}
use Rattle.hfs_volume.specs.Weight.{Data, changes_nothing, cut_cost, data_of, edits_of, free_blocks, lacks_tree, needs_cut, needs_for, room_with, runs_for, values_of, weight, weight_with, with_values, written_data}
use Rattle.hfs_volume.specs.declared.cost.Cost.{Cost}
use Rattle.hfs_volume.specs.declared.cost.Cost.TheVariants as cost
use Rattle.hfs_volume.specs.declared.cost.Needs.{Needs}
use Rattle.hfs_volume.specs.declared.cost.Room.{Room}
use Rattle.hfs_volume.specs.declared.cost.ValueChange.{ValueChange}
use Rattle.volume_base.specs.Fitting.{is_met, needs_of, takable_in, takable_of}
use Rattle.volume_base.specs.Looking.{ReadsVolume}
use Rattle.volume_base.specs.Room.{capacity_of}
use Rattle.volume_base.specs.Service.{KeepsFile}
use Rattle.volume_base.specs.Standing.{IsSettled}
use Rattle.volume_base.specs.Weighing.{joined, refused_or, weighed}
use Rattle.volume_base.specs.declared.volume.Volume.{Volume}
use Rattle.volume_base.specs.declared.weighing.Weight.{Weight}
use Rattle.volume_base.specs.declared.weighing.Weight.TheVariants as answer
use Rattle.volume_space.specs.Growing.{FileFits, GrowthFits, IsThere, WantsFirst, alone, blocks_filled, fork_of, growth_load}
use Rattle.volume_space.specs.declared.ahead.Growth.{Growth}
use Rattle.volume_space.specs.declared.ahead.Growth.TheVariants as growing
use Rattle.volume_space.specs.declared.ahead.WhichTree.{WhichTree}
use Rattle.volume_space.specs.declared.ahead.WhichTree.TheVariants as which
use Rattle.volume_step.specs.Steps.{Affords, FitsNow, IsDoneOk, IsMet, IsTaken, grown, takes_none, verdict_of}
use Rattle.volume_step.specs.declared.judging.Verdict.TheVariants as verdict
use Rattle.volume_step.specs.declared.outcome.Outcome.{Outcome}
use Rattle.volume_step.specs.declared.outcome.Outcome.TheVariants as outcome
use Rattle.volume_step.proofs.Fewer.{met_load}
use Rattle.volume_step.proofs.Done.{step_fine}
use Rattle.volume_step.proofs.Idle.{both_work, grows_works, idle_load}
use Rattle.volume_step.proofs.Judged.{first_attributes, first_catalog, first_extents, none, some, three_of}

-- ---- outcomes

pub answered_now : (said : Reply) (changes : List Change) → outcome.Answered said changes ≢ outcome.CommitFirst
answered_now said changes is = cc is

pub refused_now : (it : Outcome) (why : Refusal) → it ≡ outcome.Answered (reply.No why) [] → it ≢ outcome.CommitFirst
refused_now it why is same = answered_now (reply.No why) [] (sym is ∙ same)

done_is : (it : Outcome) → IsDoneOk it → it ≢ outcome.CommitFirst
done_is (outcome.Answered said changes) done = answered_now said changes
done_is outcome.CommitFirst done = absurd done
done_is outcome.Again done = absurd done

pub done_now : (r : Result Outcome Trouble) → IfOk r IsDoneOk → IfOk r (λ (it : Outcome). it ≢ outcome.CommitFirst)
done_now (Ok it) done = done_is it done
done_now (Err why) done = tt

pub grown_now : (went : Growth) (it : Outcome) → it ≡ grown went → went ≡ growing.Grown → it ≢ outcome.CommitFirst
grown_now went it is fits same = let both : outcome.Again ≡ outcome.CommitFirst = sym (is ∙ ap grown fits) ∙ same in cc both

-- ---- what edits cost

load_in : ℕ → Cost → ℕ
load_in other (cost.Load n grow) = n
load_in other (cost.Refused why) = other

grow_in : List ℕ → Cost → List ℕ
grow_in other (cost.Load n grow) = grow
grow_in other (cost.Refused why) = other

-- a load is that of the plan, and the nodes are the plan's
of_or : (refused : Option Refusal) (n m : ℕ) (grow other : List ℕ) → cost_or refused n grow ≡ cost.Load m other → (m ≡ n) × (other ≡ grow)
unfolding load_in grow_in
of_or None n m grow other is = (sym (ap (load_in n) is), sym (ap (grow_in grow) is))
of_or (Some why) n m grow other is = absurd (let same : cost.Refused why ≡ cost.Load m other = is in cc same)

pub of_cost : (needs : Needs) (room : Room) (n : ℕ) (grow : List ℕ) → cost_of needs room ≡ cost.Load n grow → (n ≡ load_of needs room (plan_of needs room)) × (grow ≡ (plan_of needs room).grow)
unfolding cost_of
of_cost needs room n grow is = of_or (resource_refusal needs room (plan_of needs room)) (load_of needs room (plan_of needs room)) n (plan_of needs room).grow grow is

-- it counts the header and the records that are updated in place
pub load_low : (needs : Needs) (room : Room) (n : ℕ) (grow : List ℕ) → cost_of needs room ≡ cost.Load n grow → 1 + needs.updates * node_sectors (tree_at room 1) ≤ n
unfolding load_of
load_low needs room n grow is = omega (arith, (of_cost needs room n grow is).0)

met_low : (needs : Needs) (room : Room) (spare : ℕ) → is_met (cost_of needs room) spare ≡ true → 1 + needs.updates * node_sectors (tree_at room 1) ≤ spare
met_low needs room spare met = by (cost_of needs room) refl met
  where
    fits : (grow : List ℕ) (n : ℕ) → is_met (cost.Load n grow) spare ≡ true → n ≤ spare
    fits grow n is =
        let first = and_parts (slice_index grow 1 == 0) ((slice_index grow 2 == 0) && nat_le n spare) is in
        let second = and_parts (slice_index grow 2 == 0) (nat_le n spare) first.1 in
        leb-true n spare second.1

    by : (c : Cost) → cost_of needs room ≡ c → is_met c spare ≡ true → 1 + needs.updates * node_sectors (tree_at room 1) ≤ spare
    by (cost.Refused why) is same = absurd (true≢false (sym same))
    by (cost.Load n grow) is same = let low = load_low needs room n grow is in let here = fits grow n same in omega (arith, low, here)

-- what a command needs that puts no data, where the blocks that are free are these
abbrev pub needs_now : List Bool → VolumeState → PlainTree → Command → Needs
needs_now free volume tree asked = with_values free (values_of volume tree asked) (needs_of (edits_of tree asked))

-- values add to the edits of the attributes file alone
pub values_updates : (free : List Bool) (change : Option ValueChange) (needs : Needs) → (with_values free change needs).updates ≡ needs.updates
values_updates free None needs = refl
values_updates free (Some change) needs = refl

values_extents : (free : List Bool) (change : Option ValueChange) (needs : Needs) → slice_index (with_values free change needs).edits 0 ≡ slice_index needs.edits 0
values_extents free None needs = refl
values_extents free (Some change) needs = refl

values_catalog : (free : List Bool) (change : Option ValueChange) (needs : Needs) → slice_index (with_values free change needs).edits 1 ≡ slice_index needs.edits 1
values_catalog free None needs = refl
values_catalog free (Some change) needs = refl

-- where no value takes blocks it is the same, whichever are free
pub same_values : (one other : List Bool) (change : Option ValueChange) (needs : Needs) → takes_none change ≡ true → with_values one change needs ≡ with_values other change needs
same_values one other None needs none = refl
same_values one other (Some change) needs none =
    λ i. record needs {
      edits = slice_index needs.edits 0 ∷ slice_index needs.edits 1 ∷ (slice_index needs.edits 2 + change.records + overflow_records (runs i)) ∷ [];
      new_blocks = change.blocks;
      old_blocks = change.freed;
      runs = runs i;
    }
  where
    runs : runs_for change.blocks one ≡ runs_for change.blocks other
    runs = let nothing = eqb-true change.blocks 0 none in ap (λ n. runs_for n one) nothing ∙ sym (ap (λ n. runs_for n other) nothing)

-- a moment wants a sector
pub moment_fits : (moment : ℕ) (v : Volume) (a : Space) → IsMet (command.At moment) v a → 1 ≤ a.spare
moment_fits moment v a met = let it = met_low (needs_of (edits_of (tree_of a.content) (command.At moment))) (room_with (capacity_of v) (takable_of v) (volume_of a.content)) a.spare met in omega (arith, it)

-- a record that is updated a node of the catalog
pub catalog_node : (capacity : ℕ) (free : List Bool) (v : Volume) (content : Content) → IsSettled v content → node_sectors (tree_at (room_with capacity free (volume_of content)) 1) ≡ v.catalog.file.shape.node_size / 512
unfolding room_with
catalog_node capacity free v content settled = ap (λ (l : VolumeState). l.catalog_tree.shape.node_size / 512) settled.lists

pub update_fits : (asked : Command) (v w : Volume) (a b : Space) → ReadsVolume v w a b → IsTrue a.tells → IsSettled w b.content → (edits_of (tree_of a.content) asked).updates ≡ 1 → IsMet asked v a → w.catalog.file.shape.node_size / 512 ≤ b.spare
update_fits asked v w a b reads tells settled one met =
    let low = met_low (needs_now (takable_of v) (volume_of a.content) (tree_of a.content) asked) (room_with (capacity_of v) (takable_of v) (volume_of a.content)) a.spare met in
    let node = catalog_node (capacity_of v) (takable_of v) w a.content (subst (λ (c : Content). IsSettled w c) (reads.looks.content tells) settled) in
    let updates = ap (λ n. n * node_sectors (tree_at (room_with (capacity_of v) (takable_of v) (volume_of a.content)) 1)) (values_updates (takable_of v) (values_of (volume_of a.content) (tree_of a.content) asked) (needs_of (edits_of (tree_of a.content) asked)) ∙ one) in
    omega (arith, low, node, updates, reads.looks.spare)

-- ---- what a command that puts no data weighs

module _ (capacity : ℕ) (free : List Bool) (volume : VolumeState) (tree : PlainTree) (asked : Command) (works : (only_reads asked || changes_nothing tree asked) ≡ false) (no_data : data_of tree asked ≡ None) where
  abbrev room : Room
  room = room_with capacity free volume

  edits_weigh : weight_with capacity free volume tree asked ≡ (if lacks_tree volume asked then cost.Refused refusal.NoTree else cost_of (needs_now free volume tree asked) room)
  unfolding weight_with
  edits_weigh = λ i. if works i then cost.Load 0 (0 ∷ 0 ∷ 0 ∷ []) else (if needs_cut volume (no_data i) then cut_cost room else if lacks_tree volume asked then cost.Refused refusal.NoTree else cost_of (with_values free (values_of volume tree asked) (needs_for free volume (edits_of tree asked) (no_data i))) room)

  pub edits_load : (n : ℕ) (grow : List ℕ) → weight_with capacity free volume tree asked ≡ cost.Load n grow → cost_of (needs_now free volume tree asked) room ≡ cost.Load n grow
  edits_load n grow is = by (lacks_tree volume asked) (sym edits_weigh ∙ is)
    where
      by : (b : Bool) → (if b then cost.Refused refusal.NoTree else cost_of (needs_now free volume tree asked) room) ≡ cost.Load n grow → cost_of (needs_now free volume tree asked) room ≡ cost.Load n grow
      by true same = absurd (cc same)
      by false same = same

  -- no tree is lacking
  pub not_lacking : (n : ℕ) (grow : List ℕ) → weight_with capacity free volume tree asked ≡ cost.Load n grow → lacks_tree volume asked ≡ false
  not_lacking n grow is = by (lacks_tree volume asked) refl (sym edits_weigh ∙ is)
    where
      by : (b : Bool) → lacks_tree volume asked ≡ b → (if b then cost.Refused refusal.NoTree else cost_of (needs_now free volume tree asked) room) ≡ cost.Load n grow → lacks_tree volume asked ≡ false
      by true lacks same = absurd (cc same)
      by false has same = has

-- where no tree grows its edits are met
pub met_now : (asked : Command) (v : Volume) (a : Space) → (only_reads asked || changes_nothing (tree_of a.content) asked) ≡ false → (now : FitsNow asked v a) → now.grow ≡ 0 ∷ 0 ∷ 0 ∷ [] → IsMet asked v a
met_now asked v a works now none_grow =
    met_load (cost_of (needs_now (takable_of v) (volume_of a.content) (tree_of a.content) asked) (room_with (capacity_of v) (takable_of v) (volume_of a.content))) now.load a.spare
    (edits_load (capacity_of v) (takable_of v) (volume_of a.content) (tree_of a.content) asked works now.no_data now.load now.grow now.costs ∙ ap (cost.Load now.load) none_grow) now.within

-- so a command is done that fits now, or changes nothing
pub ready_done : (asked : Command) (v : Volume) (a : Space) → only_reads asked ≡ false → (now : FitsNow asked v a) → now.grow ≡ 0 ∷ 0 ∷ 0 ∷ [] → (r : Result Outcome Trouble)
    → (IsMet asked v a → IfOk r IsDoneOk) → (changes_nothing (tree_of a.content) asked ≡ true → IfOk r IsDoneOk) → IfOk r (λ (o : Outcome). o ≢ outcome.CommitFirst)
ready_done asked v a unread now none_grow r done still = by (changes_nothing (tree_of a.content) asked) refl
  where
    by : (b : Bool) → changes_nothing (tree_of a.content) asked ≡ b → IfOk r (λ (o : Outcome). o ≢ outcome.CommitFirst)
    by true rests = done_now r (still rests)
    by false moves = done_now r (done (met_now asked v a (both_work (tree_of a.content) asked unread moves) now none_grow))

-- ---- the verdict

-- the trees grow as much, whichever blocks count as free
pub plan_same : (needs : Needs) (capacity : ℕ) (one other : List Bool) (volume : VolumeState) → (plan_of needs (room_with capacity one volume)).grow ≡ (plan_of needs (room_with capacity other volume)).grow
unfolding room_with
plan_same needs capacity one other volume = refl

-- and the catalog does, whichever do
catalog_same : (capacity : ℕ) (one other : List Bool) (volume : VolumeState) (tree : PlainTree) (asked : Command)
    → slice_index (plan_of (needs_now one volume tree asked) (room_with capacity one volume)).grow 1 ≡ slice_index (plan_of (needs_now other volume tree asked) (room_with capacity other volume)).grow 1
unfolding room_with
catalog_same capacity one other volume tree asked =
    ap (λ n. growth (room_with capacity one volume).block catalog_key (tree_at (room_with capacity one volume) 1) n)
    (values_catalog one (values_of volume tree asked) (needs_of (edits_of tree asked)) ∙ sym (values_catalog other (values_of volume tree asked) (needs_of (edits_of tree asked))))

-- the extents overflow file does where the attributes file does
extents_same : (capacity : ℕ) (one other : List Bool) (volume : VolumeState) (tree : PlainTree) (asked : Command)
    → slice_index (plan_of (needs_now one volume tree asked) (room_with capacity one volume)).grow 2 ≡ slice_index (plan_of (needs_now other volume tree asked) (room_with capacity other volume)).grow 2
    → slice_index (plan_of (needs_now one volume tree asked) (room_with capacity one volume)).grow 0 ≡ slice_index (plan_of (needs_now other volume tree asked) (room_with capacity other volume)).grow 0
unfolding room_with
extents_same capacity one other volume tree asked third =
    λ i. growth (room_with capacity one volume).block extents_key (tree_at (room_with capacity one volume) 0)
    (edits i + takes_extent (tree_at (room_with capacity one volume) 1) (catalog_same capacity one other volume tree asked i) + takes_extent (tree_at (room_with capacity one volume) 2) (third i))
  where
    edits : slice_index (needs_now one volume tree asked).edits 0 ≡ slice_index (needs_now other volume tree asked).edits 0
    edits = values_extents one (values_of volume tree asked) (needs_of (edits_of tree asked)) ∙ sym (values_extents other (values_of volume tree asked) (needs_of (edits_of tree asked)))

module _ (capacity : ℕ) (one other : List Bool) (volume : VolumeState) (tree : PlainTree) (asked : Command) (works : (only_reads asked || changes_nothing tree asked) ≡ false) (no_data : data_of tree asked ≡ None) (n m : ℕ) (grow more : List ℕ)
    (is : weight_with capacity one volume tree asked ≡ cost.Load n grow) (also : weight_with capacity other volume tree asked ≡ cost.Load m more)
  where
    one_costs : cost_of (needs_now one volume tree asked) (room_with capacity one volume) ≡ cost.Load n grow
    one_costs = edits_load capacity one volume tree asked works no_data n grow is

    other_costs : cost_of (needs_now other volume tree asked) (room_with capacity other volume) ≡ cost.Load m more
    other_costs = edits_load capacity other volume tree asked works no_data m more also

    -- where the attributes file does each does
    pub grows_same : slice_index grow 2 ≡ slice_index more 2 → grow ≡ more
    grows_same third =
        three_of (needs_now one volume tree asked) (room_with capacity one volume) n grow one_costs
        ∙ (λ i. first i ∷ second i ∷ third i ∷ [])
        ∙ sym (three_of (needs_now other volume tree asked) (room_with capacity other volume) m more other_costs)
      where
        one_plan : grow ≡ (plan_of (needs_now one volume tree asked) (room_with capacity one volume)).grow
        one_plan = (of_cost (needs_now one volume tree asked) (room_with capacity one volume) n grow one_costs).1

        other_plan : more ≡ (plan_of (needs_now other volume tree asked) (room_with capacity other volume)).grow
        other_plan = (of_cost (needs_now other volume tree asked) (room_with capacity other volume) m more other_costs).1

        first : slice_index grow 0 ≡ slice_index more 0
        first =
            ap (λ l. slice_index l 0) one_plan
            ∙ extents_same capacity one other volume tree asked (sym (ap (λ l. slice_index l 2) one_plan) ∙ third ∙ ap (λ l. slice_index l 2) other_plan)
            ∙ sym (ap (λ l. slice_index l 0) other_plan)

        second : slice_index grow 1 ≡ slice_index more 1
        second =
            ap (λ l. slice_index l 1) one_plan
            ∙ catalog_same capacity one other volume tree asked
            ∙ sym (ap (λ l. slice_index l 1) other_plan)

    -- and where no value takes blocks
    pub grows_none_taken : takes_none (values_of volume tree asked) ≡ true → grow ≡ more
    grows_none_taken none_taken =
        (of_cost (needs_now one volume tree asked) (room_with capacity one volume) n grow one_costs).1
        ∙ ap (λ (k : Needs). (plan_of k (room_with capacity one volume)).grow) (same_values one other (values_of volume tree asked) (needs_of (edits_of tree asked)) none_taken)
        ∙ plan_same (needs_now other volume tree asked) capacity one other volume
        ∙ sym (of_cost (needs_now other volume tree asked) (room_with capacity other volume) m more other_costs).1

module _ (capacity : ℕ) (takable : List Bool) (content : Content) (asked : Command) (spare : ℕ) (unread : only_reads asked ≡ false) (no_data : data_of (tree_of content) asked ≡ None) (n : ℕ) (grow : List ℕ)
    (costs : weight_with capacity takable (volume_of content) (tree_of content) asked ≡ cost.Load n grow) (within : n ≤ spare)
    (alike : (takes_none (values_of (volume_of content) (tree_of content) asked) ≡ true) ⊎ ((m : ℕ) (other : List ℕ) → weight capacity (volume_of content) (tree_of content) asked ≡ cost.Load m other → slice_index other 2 ≡ slice_index grow 2))
  where
    abbrev needs : Needs
    needs = needs_now takable (volume_of content) (tree_of content) asked

    abbrev idle : Bool
    idle = only_reads asked || changes_nothing (tree_of content) asked

    taken_costs : idle ≡ false → cost_of needs (room_with capacity takable (volume_of content)) ≡ cost.Load n grow
    taken_costs works = edits_load capacity takable (volume_of content) (tree_of content) asked works no_data n grow costs

    -- three trees grow, or none
    three_here : grow ≡ slice_index grow 0 ∷ slice_index grow 1 ∷ slice_index grow 2 ∷ []
    three_here = by idle refl
      where
        by : (b : Bool) → idle ≡ b → grow ≡ slice_index grow 0 ∷ slice_index grow 1 ∷ slice_index grow 2 ∷ []
        by true rests = subst (λ (l : List ℕ). l ≡ slice_index l 0 ∷ slice_index l 1 ∷ slice_index l 2 ∷ []) (sym (idle_load capacity takable (volume_of content) (tree_of content) asked rests n grow costs).1) refl
        by false works = three_of needs (room_with capacity takable (volume_of content)) n grow (taken_costs works)

    by_grow : IsTaken (verdict_of (answer.Load n grow) spare) grow
    by_grow = by (slice_index grow 0 == 0) (slice_index grow 1 == 0) (slice_index grow 2 == 0) refl refl refl
      where
        by_spare : grow ≡ 0 ∷ 0 ∷ 0 ∷ [] → IsTaken (if nat_lt spare n then verdict.CommitFirst else verdict.Fits) grow
        by_spare all = subst (λ b. IsTaken (if b then verdict.CommitFirst else verdict.Fits) grow) (sym (le-ltb spare n within)) all

        by : (x y z : Bool) → (slice_index grow 0 == 0) ≡ x → (slice_index grow 1 == 0) ≡ y → (slice_index grow 2 == 0) ≡ z
            → IsTaken (if not x then verdict.Grows which.Extents (slice_index grow 0) else if not y then verdict.Grows which.Catalog (slice_index grow 1) else if not z then verdict.Grows which.Attributes (slice_index grow 2) else (if nat_lt spare n then verdict.CommitFirst else verdict.Fits)) grow
        by false y z one two three_ = (some (slice_index grow 0) one, first_extents grow (some (slice_index grow 0) one))
        by true false z one two three_ = (some (slice_index grow 1) two, first_catalog grow (none (slice_index grow 0) one) (some (slice_index grow 1) two))
        by true true false one two three_ = (some (slice_index grow 2) three_, first_attributes grow (none (slice_index grow 0) one) (none (slice_index grow 1) two))
        by true true true one two three_ =
            by_spare (three_here ∙ (λ i. none (slice_index grow 0) one i ∷ none (slice_index grow 1) two i ∷ none (slice_index grow 2) three_ i ∷ []))

    same_grow : (m : ℕ) (other : List ℕ) → weight capacity (volume_of content) (tree_of content) asked ≡ cost.Load m other → other ≡ grow
    same_grow m other is = by idle refl
      where
        by : (b : Bool) → idle ≡ b → other ≡ grow
        by true rests = (idle_load capacity (free_blocks (volume_of content)) (volume_of content) (tree_of content) asked rests m other is).1 ∙ sym (idle_load capacity takable (volume_of content) (tree_of content) asked rests n grow costs).1
        by false works = elim alike [
          | inl none_taken ↦ grows_none_taken capacity (free_blocks (volume_of content)) takable (volume_of content) (tree_of content) asked works no_data m n other grow is costs none_taken
          | inr same ↦ grows_same capacity (free_blocks (volume_of content)) takable (volume_of content) (tree_of content) asked works no_data m n other grow is costs (same m other is)
        ]

    of_costs : (one : Cost) → weight capacity (volume_of content) (tree_of content) asked ≡ one → IsTaken (verdict_of (joined one (cost.Load n grow)) spare) grow
    of_costs (cost.Refused why) is = tt
    of_costs (cost.Load m other) is =
        subst (λ (l : List ℕ). IsTaken (verdict_of (joined (cost.Load m l) (cost.Load n grow)) spare) grow) (sym (same_grow m other is))
        (subst (λ b. IsTaken (verdict_of (if b then answer.Load n grow else answer.CommitFirst) spare) grow) (sym (λ i. eq-eqb (slice_index grow 0) (slice_index grow 0) refl i && eq-eqb (slice_index grow 2) (slice_index grow 2) refl i)) by_grow)

    of_reply : (said : Reply) (weighs : Weight) → IsTaken (verdict_of weighs spare) grow → IsTaken (verdict_of (refused_or said weighs) spare) grow
    of_reply (reply.No why) weighs takes = tt
    of_reply reply.Ok weighs takes = takes
    of_reply (reply.Listing list) weighs takes = takes
    of_reply (reply.Facts facts) weighs takes = takes
    of_reply (reply.Content bytes) weighs takes = takes
    of_reply (reply.Gauge gauge) weighs takes = takes

    pub taken_weight : (weighs : Weight) → weighs ≡ weighed capacity takable (volume_of content) (tree_of content) asked → IsTaken (verdict_of weighs spare) grow
    taken_weight weighs is =
        subst (λ (w : Weight). IsTaken (verdict_of w spare) grow) (sym is)
        (of_reply (step_line (tree_of content) (Ok asked)).0 (joined (weight capacity (volume_of content) (tree_of content) asked) (weight_with capacity takable (volume_of content) (tree_of content) asked))
        (subst (λ (c : Cost). IsTaken (verdict_of (joined (weight capacity (volume_of content) (tree_of content) asked) c) spare) grow) (sym costs) (of_costs (weight capacity (volume_of content) (tree_of content) asked) refl)))

-- ahead of a command that puts no data no cut goes
pub no_cut : (volume : VolumeState) (tree : PlainTree) (asked : Command) → data_of tree asked ≡ None → needs_cut volume (data_of tree asked) ≡ false
no_cut volume tree asked no_data = ap (needs_cut volume) no_data

-- ---- behind reads

pub now_still : (asked : Command) (v w : Volume) (a b : Space) → ReadsVolume v w a b → IsTrue a.tells → (now : FitsNow asked v a) → (it : FitsNow asked w b) × (it.grow ≡ now.grow)
now_still asked v w a b reads tells now = (
  record {
    no_data = subst (λ (k : Content). data_of (tree_of k) asked ≡ None) (sym (reads.looks.content tells)) now.no_data;
    load = now.load;
    grow = now.grow;
    costs = subst (λ (k : ℕ × Bitmap × Content). weight_with k.0 (takable_in k.1) (volume_of k.2) (tree_of k.2) asked ≡ cost.Load now.load now.grow) {x = (capacity_of v, v.map, a.content)} {y = (capacity_of w, w.map, b.content)}
        (λ i. (sym reads.keeps.capacity i, sym reads.keeps.map i, sym (reads.looks.content tells) i)) now.costs;
    within = omega (arith, now.within, reads.looks.spare);
  },
  refl,
)

-- a growth that fits one file fits it still
module _ (more : ℕ) (tells : Bool) (v w : Volume) (a b : Space) (map : w.map ≡ v.map) (header : w.header ≡ v.header) (spare : b.spare ≡ a.spare) (old new : TreeFile) (fork : VolumeHeader → ForkRecord) (keeps : KeepsFile tells old new) where
  filled : blocks_filled new more ≡ blocks_filled old more
  filled = λ i. more * ((keeps.shape i).node_size / 512) / keeps.file.per_block i

  load_same : growth_load w new more ≡ growth_load v old more
  load_same = λ i. (2 + map_nodes_for (keeps.shape i).node_size (bits_of (keeps.file.map i)) ((keeps.shape i).total + more)) * ((keeps.shape i).node_size / 512) + (min (sectors_for (length (map i).used)) (filled i / 4096 + 2) + 1)

  file_still : FileFits more old (fork v.header) v a → FileFits more new (fork w.header) w b
  file_still was = record {
    some = omega (arith, was.some, filled);
    run = subst (λ (k : ℕ × Bitmap). k.0 ≤ longest_of (runs_of (free_of k.1))) {x = (blocks_filled old more, v.map)} {y = (blocks_filled new more, w.map)} (λ i. (sym filled i, sym map i)) was.run;
    counts = record {
      least = omega (arith, was.counts.least, keeps.file.node_size);
      most = omega (arith, was.counts.most, keeps.file.node_size);
      whole = subst (λ (k : ℕ × ℕ × ℕ). k.0 * k.1 ≡ more * (k.2 / 512)) {x = (blocks_filled old more, old.per_block, old.shape.node_size)} {y = (blocks_filled new more, new.per_block, new.shape.node_size)} (λ i. (sym filled i, sym keeps.file.per_block i, sym keeps.file.node_size i)) was.counts.whole;
      extents = subst (λ l. length l < 8) (sym keeps.file.fork) was.counts.extents;
      nodes = omega (arith, was.counts.nodes, keeps.file.total);
      blocks = subst (λ (k : ℕ × VolumeHeader). (fork k.1).total_blocks + k.0 < 2 ^ 32) {x = (blocks_filled old more, v.header)} {y = (blocks_filled new more, w.header)} (λ i. (sym filled i, sym header i)) was.counts.blocks;
      bytes = subst (λ (k : ℕ × VolumeHeader). (fork k.1).logical_size + k.0 * k.1.block_size < 2 ^ 64) {x = (blocks_filled old more, v.header)} {y = (blocks_filled new more, w.header)} (λ i. (sym filled i, sym header i)) was.counts.bytes;
      counted = subst (λ (k : ℕ × VolumeHeader). k.0 ≤ k.1.free_blocks) {x = (blocks_filled old more, v.header)} {y = (blocks_filled new more, w.header)} (λ i. (sym filled i, sym header i)) was.counts.counted;
    };
    room = omega (arith, was.room, load_same, spare);
  }

pub growth_still : (v w : Volume) (a b : Space) → ReadsVolume v w a b → (tree : WhichTree) (more : ℕ) → GrowthFits tree more v a → GrowthFits tree more w b
growth_still v w a b reads which.Extents more (there, fits) = (there, file_still more a.tells v w a b reads.keeps.map reads.keeps.header reads.looks.spare v.extents.file w.extents.file (fork_of which.Extents) reads.keeps.extents.file fits)
growth_still v w a b reads which.Catalog more (there, fits) = (there, file_still more a.tells v w a b reads.keeps.map reads.keeps.header reads.looks.spare v.catalog.file w.catalog.file (fork_of which.Catalog) reads.keeps.catalog.file fits)
growth_still v w a b reads which.Attributes more (there, fits) =
    (subst (λ (h : VolumeHeader). IsTrue (has_attributes h)) (sym reads.keeps.header) there, file_still more a.tells v w a b reads.keeps.map reads.keeps.header reads.looks.spare v.attributes.file w.attributes.file (fork_of which.Attributes) reads.keeps.attributes.file fits)

-- there is such a tree still
pub there_still : (v w : Volume) → w.header ≡ v.header → (tree : WhichTree) → IsThere tree v.header → IsThere tree w.header
there_still v w same tree there = subst (λ (h : VolumeHeader). IsThere tree h) (sym same) there

-- a command that fits now wants the first of its growths
pub wants_now : (asked : Command) (v w : Volume) (a b : Space) → ReadsVolume v w a b → IsTrue a.tells → only_reads asked ≡ false → (now : FitsNow asked v a) → (tree : WhichTree) (more : ℕ) → 0 < more → first_growth now.grow ≡ alone tree more → IsThere tree v.header → WantsFirst tree more w b
wants_now asked v w a b reads tells unread now tree more some first there =
    let still = now_still asked v w a b reads tells now in
    record {
      needs = needs_now (takable_of w) (volume_of b.content) (tree_of b.content) asked;
      capacity = capacity_of w;
      load = still.0.load;
      grow = still.0.grow;
      costs = edits_load (capacity_of w) (takable_of w) (volume_of b.content) (tree_of b.content) asked
          (grows_works (capacity_of w) (takable_of w) (volume_of b.content) (tree_of b.content) asked still.0.load still.0.grow still.0.costs tree more some (ap first_growth still.1 ∙ first)) still.0.no_data still.0.load still.0.grow still.0.costs;
      within = still.0.within;
      some = some;
      first = ap first_growth still.1 ∙ first;
      there = there_still v w reads.keeps.header tree there;
      short = inr refl;
    }

-- with its load
pub wants_load : (asked : Command) (v w : Volume) (a b : Space) → (reads : ReadsVolume v w a b) (tells : IsTrue a.tells) (unread : only_reads asked ≡ false) (now : FitsNow asked v a) → (tree : WhichTree) (more : ℕ) (some : 0 < more) (first : first_growth now.grow ≡ alone tree more) (there : IsThere tree v.header) → (wants_now asked v w a b reads tells unread now tree more some first there).load ≡ now.load
unfolding now_still wants_now
wants_load asked v w a b reads tells unread now tree more some first there = refl

-- ---- `write`

-- data that a step doesn't refuse, and that is none, has no byte
pub written_none : (capacity : ℕ) (path : List (List ℕ)) (from : ℕ) (value : List ℕ) (content : Content) → Affords capacity (command.Write path from value) content → data_of (tree_of content) (command.Write path from value) ≡ None → (length value == 0) ≡ true
written_none capacity path from value content affords no_data = by (to_file (tree_of content) path) (step_fine (tree_of content) (command.Write path from value) affords.no_refusal) no_data
  where
    empty : (b : Bool) (file : PlainNode) → (if◌then◌else◌ {A = Option Data} b None (Some (record { id = file.id; old_size = length file.bytes; new_size = size_written (length file.bytes) from (length value); from = from; end = from + length value }))) ≡ None → b ≡ true
    empty true file is = refl
    empty false file is = absurd (cc is)

    by : (r : Result PlainNode Refusal)
        → is_refusal (on (tree_of content) (then_ r (unless (nat_lt most_size (from + length value) || nat_lt most_bytes (length value)) refusal.TooLarge)) (λ file. (reply.Ok, written file from value (tree_of content)))).0 ≡ false
        → written_data from (length value) r ≡ None → (length value == 0) ≡ true
    by (Ok file) fine none_put = empty (length value == 0) file none_put
    by (Err why) fine none_put = absurd (true≢false fine)

-- ---- `trunc`

-- where no data is put none was
pub longer_none : (a b : Content) (path : List (List ℕ)) (size : ℕ) → b ≡ a → data_of (tree_of a) (command.Trunc path size) ≡ None → is_some (data_of (tree_of b) (command.Trunc path size)) ≡ true → ⊥
longer_none a b path size same no_data is = true≢false (sym is ∙ ap (λ (k : Content). is_some (data_of (tree_of k) (command.Trunc path size))) same ∙ ap is_some no_data)
