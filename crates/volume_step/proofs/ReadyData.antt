-- A command whose data is met wants no commit.
use Rattle.std.proofs.Common.{◌≡◌, ◌≢◌, ◌≤◌, ℕ, ◌/◌, Bool, true, false, List, [], ◌∷◌, inl, inr, refl, sym, ◌∙◌, ap, subst, arith}
use Rattle.std.specs.Prelude.{◌==◌, ◌&&◌, nat_le, not, slice_index, IfOk, OnOk, IfNone, IsTrue, Option, None, Some, Result, Ok, Err, if◌then◌else◌}
use Rattle.std.proofs.lemmas.Bool.{and_parts, eqb-true, le-ltb, leb-true, true≢false}
use Rattle.hx_bytes.specs.declared.faults.Trouble.{Trouble}
use Rattle.jnl_format.specs.Recovery.{Content}
use Rattle.sector_disk.specs.Space.{Space}
use Rattle.alloc_bitmap.specs.Map.{free_of}
use Rattle.alloc_bitmap.specs.declared.bitmap.Bitmap.{Bitmap}
use Rattle.hfs_language.specs.declared.command.Command.{Command}
use Rattle.hfs_language.specs.declared.command.Command.TheVariants as command
use Rattle.hfs_language.specs.declared.refusal.Refusal.TheVariants as refusal
use Rattle.hfs_language.specs.declared.reply.Reply.{Reply}
use Rattle.hfs_language.specs.declared.reply.Reply.TheVariants as reply
use Rattle.hfs_model.specs.Step.{only_reads, step_line}
use Rattle.hfs_model.specs.declared.plain.PlainTree.{PlainTree}
use Rattle.hfs_volume.specs.Content.{VolumeState, volume_of}
use Rattle.hfs_volume.specs.Cost.{attributes_key, catalog_key, cost_of, tree_at}
use Rattle.hfs_volume.specs.TreeOf.{tree_of}
use Rattle.hfs_volume.specs.Weight.{Data, cut_cost, data_of, edits, edits_of, free_blocks, lacks_tree, needs_cut, needs_for, room_with, weight, weight_with, most_zeros, zero_blocks, with_values}
use Rattle.hfs_volume.specs.declared.cost.Cost.{Cost}
use Rattle.hfs_volume.specs.declared.cost.Cost.TheVariants as cost
use Rattle.volume_base.specs.DataWeighing.{needs_data}
use Rattle.volume_base.specs.Fitting.{takable_of}
use Rattle.volume_base.specs.Looking.{ReadsVolume}
use Rattle.volume_base.specs.Room.{capacity_of}
use Rattle.volume_base.specs.Standing.{IsSettled}
use Rattle.volume_base.specs.Weighing.{joined, refused_or, weighed}
use Rattle.volume_base.specs.declared.volume.Volume.{Volume}
use Rattle.volume_base.specs.declared.weighing.Weight.{Weight}
use Rattle.volume_space.specs.Spreading.{is_met_extents}
use Rattle.volume_space.specs.Writing.{is_data_met}
use Rattle.volume_step.specs.Steps.{IsDirect, PutsNow, verdict_of}
use Rattle.volume_step.specs.declared.judging.Verdict.TheVariants as verdict
use Rattle.volume_step.specs.declared.outcome.Outcome.{Outcome}
use Rattle.volume_step.specs.declared.outcome.Outcome.TheVariants as outcome
use Rattle.volume_space.proofs.FewerEdits.{none_lacks}
use Rattle.volume_step.proofs.Idle.{data_edits, data_values}
use Rattle.volume_step.proofs.Judged.{three_of}
use Rattle.volume_step.proofs.Ready.{catalog_node, load_low, of_cost}

-- ---- data that is met

-- What is met, taken apart.
pub record IsMetData (volume : Volume) (spare : ℕ) (lists : VolumeState) (data_put : Option Data) : Type 0 where
  pub put : Data
  pub is : data_put ≡ Some put
  pub uncut : needs_cut lists (Some put) ≡ false
  pub load : ℕ
  pub grow : List ℕ
  pub costs : cost_of (needs_data (free_of volume.map) lists put) (room_with volume.capacity (free_of volume.map) lists) ≡ cost.Load load grow
  pub none : slice_index grow 0 ≡ 0
  pub within : load ≤ spare

not_true : (b : Bool) → not b ≡ true → b ≡ false
not_true true is = absurd (true≢false (sym is))
not_true false is = refl

pub met_data : (volume : Volume) (spare : ℕ) (lists : VolumeState) (data_put : Option Data) → is_data_met volume spare lists data_put ≡ true → IsMetData volume spare lists data_put
met_data volume spare lists None is = absurd (true≢false (sym is))
met_data volume spare lists (Some put) is =
    let first = and_parts (not (needs_cut lists (Some put))) (is_met_extents costs spare) is in
    by costs refl (not_true (needs_cut lists (Some put)) first.0) first.1
  where
    costs : Cost
    costs = cost_of (needs_data (free_of volume.map) lists put) (room_with volume.capacity (free_of volume.map) lists)

    by : (c : Cost) → cost_of (needs_data (free_of volume.map) lists put) (room_with volume.capacity (free_of volume.map) lists) ≡ c → needs_cut lists (Some put) ≡ false → is_met_extents c spare ≡ true → IsMetData volume spare lists (Some put)
    by (cost.Refused why) same uncut met = absurd (true≢false (sym met))
    by (cost.Load load grow) same uncut met =
        let parts = and_parts (slice_index grow 0 == 0) (nat_le load spare) met in
        record { put = put; is = refl; uncut = uncut; load = load; grow = grow; costs = same; none = eqb-true (slice_index grow 0) 0 parts.0; within = leb-true load spare parts.1 }

-- behind reads it is met still
pub data_still : (asked : Command) (v w : Volume) (a b : Space) → ReadsVolume v w a b → IsTrue a.tells → is_data_met v a.spare (volume_of a.content) (data_of (tree_of a.content) asked) ≡ true → is_data_met w b.spare (volume_of b.content) (data_of (tree_of b.content) asked) ≡ true
data_still asked v w a b reads tells met = same ∙ met
  where
    -- it looks at bitmap and capacity alone
    looked : Bitmap → ℕ → ℕ → VolumeState → Option Data → Bool
    looked map capacity spare lists None = false
    looked map capacity spare lists (Some put) =
        not (needs_cut lists (Some put)) && is_met_extents (cost_of (needs_data (free_of map) lists put) (room_with capacity (free_of map) lists)) spare

    is_looked : (u : Volume) (spare : ℕ) (lists : VolumeState) (d : Option Data) → is_data_met u spare lists d ≡ looked u.map u.capacity spare lists d
    is_looked u spare lists None = refl
    is_looked u spare lists (Some put) = refl

    same : is_data_met w b.spare (volume_of b.content) (data_of (tree_of b.content) asked) ≡ is_data_met v a.spare (volume_of a.content) (data_of (tree_of a.content) asked)
    same =
        is_looked w b.spare (volume_of b.content) (data_of (tree_of b.content) asked)
        ∙ (λ i. looked (reads.keeps.map i) (reads.keeps.capacity i) (reads.looks.spare i) (volume_of (reads.looks.content tells i)) (data_of (tree_of (reads.looks.content tells i)) asked))
        ∙ sym (is_looked v a.spare (volume_of a.content) (data_of (tree_of a.content) asked))

-- a record that is updated fits
pub data_update_fits : (asked : Command) (v w : Volume) (a b : Space) → ReadsVolume v w a b → IsTrue a.tells → IsSettled w b.content → is_data_met v a.spare (volume_of a.content) (data_of (tree_of a.content) asked) ≡ true → w.catalog.file.shape.node_size / 512 ≤ b.spare
data_update_fits asked v w a b reads tells settled met =
    let it = met_data v a.spare (volume_of a.content) (data_of (tree_of a.content) asked) met in
    let low = load_low (needs_data (free_of v.map) (volume_of a.content) it.put) (room_with v.capacity (free_of v.map) (volume_of a.content)) it.load it.grow it.costs in
    let node = catalog_node v.capacity (free_of v.map) w a.content (subst (λ (c : Content). IsSettled w c) (reads.looks.content tells) settled) in
    omega (arith, low, node, it.within, reads.looks.spare)

-- ---- the verdict

pub data_weight : (capacity : ℕ) (free : List Bool) (volume : VolumeState) (tree : PlainTree) (asked : Command) (put : Data) → data_of tree asked ≡ Some put → needs_cut volume (Some put) ≡ false
    → weight_with capacity free volume tree asked ≡ cost_of (needs_data free volume put) (room_with capacity free volume)
unfolding weight_with
data_weight capacity free volume tree asked put is uncut =
    let it = data_edits tree asked put is in
    let none_valued = data_values volume tree asked put is in
    (λ i. if it.1 i then cost.Load 0 (0 ∷ 0 ∷ 0 ∷ []) else (if needs_cut volume (is i) then cut_cost (room_with capacity free volume) else if it.2 volume i then cost.Refused refusal.NoTree else cost_of (with_values free (none_valued i) (needs_for free volume (it.0 i) (is i))) (room_with capacity free volume)))
    ∙ ap (λ b. if b then cut_cost (room_with capacity free volume) else cost_of (needs_data free volume put) (room_with capacity free volume)) uncut

-- ahead of data no other tree grows than the extents overflow file
pub data_growth : (capacity : ℕ) (free : List Bool) (volume : VolumeState) (put : Data) (n : ℕ) (grow : List ℕ) → cost_of (needs_data free volume put) (room_with capacity free volume) ≡ cost.Load n grow → grow ≡ slice_index grow 0 ∷ 0 ∷ 0 ∷ []
data_growth capacity free volume put n grow is =
    let planned = (of_cost (needs_data free volume put) (room_with capacity free volume) n grow is).1 in
    let catalog : slice_index grow 1 ≡ 0 = ap (λ l. slice_index l 1) planned ∙ none_lacks (room_with capacity free volume).block catalog_key (tree_at (room_with capacity free volume) 1) in
    let attributes : slice_index grow 2 ≡ 0 = ap (λ l. slice_index l 2) planned ∙ none_lacks (room_with capacity free volume).block attributes_key (tree_at (room_with capacity free volume) 2) in
    three_of (needs_data free volume put) (room_with capacity free volume) n grow is ∙ (λ i. slice_index grow 0 ∷ catalog i ∷ attributes i ∷ [])

-- without growth of it no tree grows
no_growth : (capacity : ℕ) (free : List Bool) (volume : VolumeState) (put : Data) (n : ℕ) (grow : List ℕ) → cost_of (needs_data free volume put) (room_with capacity free volume) ≡ cost.Load n grow → slice_index grow 0 ≡ 0 → grow ≡ 0 ∷ 0 ∷ 0 ∷ []
no_growth capacity free volume put n grow is none = data_growth capacity free volume put n grow is ∙ (λ i. none i ∷ 0 ∷ 0 ∷ [])

module _ (v : Volume) (a : Space) (asked : Command) (puts : PutsNow asked v a) where
  it : IsMetData v a.spare (volume_of a.content) (data_of (tree_of a.content) asked)
  it = met_data v a.spare (volume_of a.content) (data_of (tree_of a.content) asked) puts.met

  takes : weight_with (capacity_of v) (takable_of v) (volume_of a.content) (tree_of a.content) asked ≡ cost.Load it.load (0 ∷ 0 ∷ 0 ∷ [])
  takes =
      data_weight (capacity_of v) (takable_of v) (volume_of a.content) (tree_of a.content) asked it.put it.is it.uncut
      ∙ it.costs ∙ ap (cost.Load it.load) (no_growth (capacity_of v) (takable_of v) (volume_of a.content) it.put it.load it.grow it.costs it.none)

  of_costs : (one : Cost) → weight (capacity_of v) (volume_of a.content) (tree_of a.content) asked ≡ one → IsDirect (verdict_of (joined one (cost.Load it.load (0 ∷ 0 ∷ 0 ∷ []))) a.spare)
  of_costs (cost.Refused why) is = tt
  of_costs (cost.Load n grow) is =
      let all : cost_of (needs_data (free_blocks (volume_of a.content)) (volume_of a.content) it.put) (room_with (capacity_of v) (free_blocks (volume_of a.content)) (volume_of a.content)) ≡ cost.Load n grow =
      sym (data_weight (capacity_of v) (free_blocks (volume_of a.content)) (volume_of a.content) (tree_of a.content) asked it.put it.is it.uncut) ∙ is in
      let none_grow = no_growth (capacity_of v) (free_blocks (volume_of a.content)) (volume_of a.content) it.put n grow all (puts.alike n grow is) in
      subst (λ (l : List ℕ). IsDirect (verdict_of (joined (cost.Load n l) (cost.Load it.load (0 ∷ 0 ∷ 0 ∷ []))) a.spare)) (sym none_grow)
      (subst (λ b. IsDirect (if b then verdict.CommitFirst else verdict.Fits)) (sym (le-ltb a.spare it.load it.within)) tt)

  of_reply : (said : Reply) (weighs : Weight) → IsDirect (verdict_of weighs a.spare) → IsDirect (verdict_of (refused_or said weighs) a.spare)
  of_reply (reply.No why) weighs direct = tt
  of_reply reply.Ok weighs direct = direct
  of_reply (reply.Listing list) weighs direct = direct
  of_reply (reply.Facts facts) weighs direct = direct
  of_reply (reply.Content bytes) weighs direct = direct
  of_reply (reply.Gauge gauge) weighs direct = direct

  pub direct_weight : (weighs : Weight) (spare : ℕ) → weighs ≡ weighed (capacity_of v) (takable_of v) (volume_of a.content) (tree_of a.content) asked → spare ≡ a.spare → IsDirect (verdict_of weighs spare)
  direct_weight weighs spare is same =
      subst (λ (k : Weight × ℕ). IsDirect (verdict_of k.0 k.1)) {x = (weighed (capacity_of v) (takable_of v) (volume_of a.content) (tree_of a.content) asked, a.spare)} {y = (weighs, spare)} (λ i. (sym is i, sym same i))
      (of_reply (step_line (tree_of a.content) (Ok asked)).0 (joined (weight (capacity_of v) (volume_of a.content) (tree_of a.content) asked) (weight_with (capacity_of v) (takable_of v) (volume_of a.content) (tree_of a.content) asked))
      (subst (λ (c : Cost). IsDirect (verdict_of (joined (weight (capacity_of v) (volume_of a.content) (tree_of a.content) asked) c) a.spare)) (sym takes) (of_costs (weight (capacity_of v) (volume_of a.content) (tree_of a.content) asked) refl)))

  -- no cut goes ahead of it
  pub uncut_now : needs_cut (volume_of a.content) (data_of (tree_of a.content) asked) ≡ false
  uncut_now = ap (needs_cut (volume_of a.content)) it.is ∙ it.uncut

-- and it isn't one that puts none
pub no_data_now : (v : Volume) (a : Space) (asked : Command) → is_data_met v a.spare (volume_of a.content) (data_of (tree_of a.content) asked) ≡ true → (r : Result Outcome Trouble) → OnOk r ((tree : PlainTree) → data_of tree asked ≡ None) → IfOk r (λ (o : Outcome). o ≢ outcome.CommitFirst)
no_data_now v a asked met (Ok o) plain = let it = met_data v a.spare (volume_of a.content) (data_of (tree_of a.content) asked) met in absurd (let both : None ≡ Some it.put = sym (plain (tree_of a.content)) ∙ it.is in cc both)
no_data_now v a asked met (Err why) plain = tt

pub puts_still : (asked : Command) (v w : Volume) (a b : Space) → ReadsVolume v w a b → IsTrue a.tells → PutsNow asked v a → PutsNow asked w b
puts_still asked v w a b reads tells puts = record {
  met = data_still asked v w a b reads tells puts.met;
  alike = λ n grow is. puts.alike n grow (subst (λ (k : ℕ × Content). weight k.0 (volume_of k.1) (tree_of k.1) asked ≡ cost.Load n grow) {x = (capacity_of w, b.content)} {y = (capacity_of v, a.content)} (λ i. (reads.keeps.capacity i, reads.looks.content tells i)) is);
  few = elim puts.few [
    | inl zeros ↦ inl (subst (λ (c : Content). zero_blocks (volume_of c).head.block_size (tree_of c) asked ≤ most_zeros) (sym (reads.looks.content tells)) zeros)
    | inr whole ↦ inr (omega (arith, whole, reads.keeps.capacity, reads.looks.spare))
  ];
}

-- ---- what a call didn't put

pub put_none : (said : Option Reply) (is_there : Bool) → said ≡ None → IfNone said (is_there ≡ false) → is_there ≡ true → ⊥
put_none said is_there is none met = true≢false (sym met ∙ subst (λ (o : Option Reply). IfNone o (is_there ≡ false)) is none)

pub any_ok : {A E P : Type 0} (r : Result A E) → P → OnOk r P
any_ok (Ok x) p = p
any_ok (Err e) p = tt
