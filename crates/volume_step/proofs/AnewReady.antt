-- On a transaction to which nothing was put no commit is wanted by a command for which nothing is missing, and ahead of which no cut goes.
use Rattle.std.proofs.Common.{◌≡◌, ◌⊎◌, inl, inr, ◌<◌, ◌≤◌, ℕ, zero, suc, ◌+◌, ◌==◌, ◌&&◌, Bool, true, false, not, List, [], ◌∷◌, length, get_or, replicate, refl, sym, ◌∙◌, ap, subst, arith, ⊎_elim}
use Rattle.std.specs.Prelude.{◌||◌, nat_lt, slice_index, IsTrue, Ok, Option, None, Some, if◌then◌else◌}
use Rattle.std.proofs.lemmas.Bool.{cases_lt, eq-eqb, eqb-true, le-leb, le-ltb, ltb-false, true≢false}
use Rattle.std.proofs.lemmas.List.{get_or-map, get_or-replicate, get_or_past, length-map, length-replicate, same_lists}
use Rattle.alloc_bitmap.specs.Map.{BlockMap, free_of, none, unused_of}
use Rattle.alloc_bitmap.proofs.MapLaws.{get_or-open, length-open}
use Rattle.sector_disk.specs.Space.{Space}
use Rattle.hfs_language.specs.declared.command.Command.{Command}
use Rattle.hfs_language.specs.declared.refusal.Refusal.{Refusal}
use Rattle.hfs_language.specs.declared.refusal.Refusal.TheVariants as refusal
use Rattle.hfs_model.specs.Step.{only_reads, refuses}
use Rattle.hfs_volume.specs.Content.{volume_of}
use Rattle.hfs_volume.specs.Cost.{attributes_key, catalog_key, cost_of, cost_or, deep_refusal, extents_key, first_refusal, growth, growth_blocks, load_of, load_refusal, plan_of, resource_refusal, tree_at, where_}
use Rattle.hfs_volume.specs.Reclaim.{first_growth}
use Rattle.hfs_volume.specs.TreeOf.{tree_of}
use Rattle.hfs_volume.specs.Weight.{Data, changes_nothing, cut_cost, cut_load, data_of, edits_of, free_blocks, needs_cut, room_with, weight, weight_with}
use Rattle.hfs_volume.specs.declared.cost.Cost.{Cost}
use Rattle.hfs_volume.specs.declared.cost.Cost.TheVariants as cost
use Rattle.hfs_volume.specs.declared.cost.Needs.{Needs}
use Rattle.hfs_volume.specs.declared.cost.Room.{Room}
use Rattle.volume_base.specs.DataWeighing.{needs_data}
use Rattle.volume_base.specs.Fitting.{takable_of}
use Rattle.volume_base.specs.Room.{capacity_of}
use Rattle.volume_base.specs.Standing.{IsSettled}
use Rattle.volume_base.specs.declared.volume.Volume.{Volume}
use Rattle.volume_base.proofs.RoomKept.{free_content}
use Rattle.volume_space.specs.Growing.{alone}
use Rattle.volume_space.specs.Spreading.{is_met_extents}
use Rattle.volume_space.specs.Writing.{is_data_met}
use Rattle.volume_space.specs.declared.ahead.WhichTree.{WhichTree}
use Rattle.volume_space.specs.declared.ahead.WhichTree.TheVariants as which
use Rattle.alloc_bitmap.specs.declared.bitmap.Bitmap.{Bitmap}
use Rattle.jnl_format.specs.Recovery.{Content}
use Rattle.hfs_language.specs.declared.reply.Reply.{Reply}
use Rattle.hfs_language.specs.declared.reply.Reply.TheVariants as reply
use Rattle.hfs_model.specs.Step.{step_line}
use Rattle.volume_base.specs.Fitting.{takable_in}
use Rattle.volume_base.specs.Looking.{ReadsVolume}
use Rattle.volume_base.specs.Weighing.{joined, refused_or, weighed}
use Rattle.volume_base.specs.declared.weighing.Weight.{Weight}
use Rattle.volume_base.specs.declared.weighing.Weight.TheVariants as answer
use Rattle.volume_space.specs.Growing.{IsThere, WantsFirst}
use Rattle.volume_step.proofs.GrowthThere.{growth_there}
use Rattle.volume_step.proofs.Judged.{first_attributes, first_catalog, first_extents}
use Rattle.volume_space.proofs.FewerEdits.{none_lacks}
use Rattle.volume_step.specs.Anew.{FitsAlike, FitsAnew, IsAnew}
use Rattle.volume_step.specs.Loads.{IsWithinLoad}
use Rattle.volume_step.specs.Steps.{FitsNow, IsTaken, PutsNow, verdict_of}
use Rattle.volume_step.specs.declared.judging.Verdict.TheVariants as verdict
use Rattle.volume_step.proofs.Judged.{three}
use Rattle.volume_step.proofs.Idle.{idle_load}
use Rattle.volume_step.proofs.Loaded.{cut_load_is, cut_weighs}
use Rattle.volume_step.proofs.Ready.{edits_load, needs_now, now_still, of_cost, there_still, wants_now, wants_load}
use Rattle.volume_step.proofs.ReadyData.{data_weight, puts_still}

-- ---- blocks

none_at : (n k : ℕ) → get_or (replicate n false) k false ≡ false
none_at n k = ⊎_elim (λ low. get_or-replicate n k false false low) (λ past. get_or_past (replicate n false) k false (omega (arith, past, length-replicate n false))) (cases_lt k n)

and_true : (b : Bool) → (b && true) ≡ b
and_true true = refl
and_true false = refl

-- where none is held each block that isn't used may be taken
pub free_none : (blocks : BlockMap) → blocks.held ≡ none (length blocks.used) → free_of blocks ≡ unused_of blocks
free_none blocks held = same_lists (free_of blocks) (unused_of blocks) (length-open blocks.used blocks.held ∙ sym (length-map blocks.used (λ used. not used)))
    (λ k d lt.
    let below : k < length blocks.used = omega (arith, lt, length-open blocks.used blocks.held) in
    let clear : get_or blocks.held k false ≡ false = ap (λ (l : List Bool). get_or l k false) held ∙ none_at (length blocks.used) k in
    get_or-open blocks.used blocks.held k d below
    ∙ ap (λ b. not (get_or blocks.used k true) && not b) clear
    ∙ and_true (not (get_or blocks.used k true))
    ∙ sym (get_or-map (λ used. not used) blocks.used k true d below))

-- ---- a load is one that a transaction holds

later_none : (first : Option Refusal) (rest : List (Option Refusal)) → first_refusal (first ∷ rest) ≡ None → first_refusal rest ≡ None
later_none None rest is = is
later_none (Some why) rest is = absurd (cc is)

last_none : (a b c d e f g last : Option Refusal) → first_refusal (a ∷ b ∷ c ∷ d ∷ e ∷ f ∷ g ∷ last ∷ []) ≡ None → first_refusal (last ∷ []) ≡ None
last_none a b c d e f g last is =
    later_none g (last ∷ [])
    (later_none f (g ∷ last ∷ [])
    (later_none e (f ∷ g ∷ last ∷ [])
    (later_none d (e ∷ f ∷ g ∷ last ∷ [])
    (later_none c (d ∷ e ∷ f ∷ g ∷ last ∷ []) (later_none b (c ∷ d ∷ e ∷ f ∷ g ∷ last ∷ []) (later_none a (b ∷ c ∷ d ∷ e ∷ f ∷ g ∷ last ∷ []) is))))))

none_there : (why : Option Refusal) (load : ℕ) (grow : List ℕ) (n : ℕ) (other : List ℕ) → cost_or why load grow ≡ cost.Load n other → why ≡ None
none_there None load grow n other is = refl
none_there (Some why) load grow n other is = absurd (let same : cost.Refused why ≡ cost.Load n other = is in cc same)

fits_where : (b : Bool) (why : Refusal) → first_refusal (where_ b why ∷ []) ≡ None → b ≡ false
fits_where true why is = absurd (let some : Some why ≡ None = is in cc some)
fits_where false why is = refl

pub load_within : (needs : Needs) (room : Room) (n : ℕ) (grow : List ℕ) → cost_of needs room ≡ cost.Load n grow → n ≤ room.capacity
unfolding cost_of
load_within needs room n grow is =
    let plan = plan_of needs room in
    let blocks = growth_blocks plan room in
    let wanted = needs.new_blocks + blocks in
    let all : resource_refusal needs room plan ≡ None = none_there (resource_refusal needs room plan) (load_of needs room plan) plan.grow n grow is in
    let last = last_none
    (where_ (nat_lt 4294967295 (room.next_id + needs.ids)) (refusal.NoIds room.next_id))
    (deep_refusal extents_key (tree_at room 0) (slice_index plan.edits 0))
    (deep_refusal catalog_key (tree_at room 1) (slice_index plan.edits 1))
    (deep_refusal attributes_key (tree_at room 2) (slice_index plan.edits 2))
    (where_ (not (slice_index plan.grow 0 == 0) && ((tree_at room 0).extents == 8)) (refusal.OverflowFull 8))
    (where_ (nat_lt room.free wanted) (refusal.NoSpace room.free wanted))
    (where_ (not (blocks == 0) && nat_lt room.longest wanted) (refusal.NoRun room.longest wanted))
    (load_refusal (load_of needs room plan) room.capacity) all in
    let fits = fits_where (nat_lt room.capacity (load_of needs room plan)) (refusal.TooBig (load_of needs room plan) room.capacity) last in
    omega (arith, ltb-false room.capacity (load_of needs room plan) fits, (of_cost needs room n grow is).0)

grow_of : List ℕ → Cost → List ℕ
grow_of other (cost.Load n grow) = grow
grow_of other (cost.Refused why) = other

same_grow : (n m : ℕ) (grow other : List ℕ) → cost.Load n grow ≡ cost.Load m other → grow ≡ other
unfolding grow_of
same_grow n m grow other is = ap (grow_of grow) is

-- a cut that goes ahead costs a load that a transaction holds, too
cut_load_within : (room : Room) (n : ℕ) (grow : List ℕ) → cut_cost room ≡ cost.Load n grow → n ≤ room.capacity
cut_load_within room n grow is =
    let all : load_refusal (cut_load room) room.capacity ≡ None = none_there (load_refusal (cut_load room) room.capacity) (cut_load room) (0 ∷ 0 ∷ 0 ∷ []) n grow is in
    let fits = fits_where (nat_lt room.capacity (cut_load room)) (refusal.TooBig (cut_load room) room.capacity) (ap (λ r. first_refusal (r ∷ [])) all) in
    omega (arith, ltb-false room.capacity (cut_load room) fits, cut_load_is room n grow is)

module _ (v : Volume) (a : Space) (asked : Command) (unread : only_reads asked ≡ false) (load : ℕ) (grow : List ℕ) (costs : weight_with (capacity_of v) (takable_of v) (volume_of a.content) (tree_of a.content) asked ≡ cost.Load load grow) where
  edits_cost : (only_reads asked || changes_nothing (tree_of a.content) asked) ≡ false → data_of (tree_of a.content) asked ≡ None → cost_of (needs_now (takable_of v) (volume_of a.content) (tree_of a.content) asked) (room_with (capacity_of v) (takable_of v) (volume_of a.content)) ≡ cost.Load load grow
  edits_cost works is = edits_load (capacity_of v) (takable_of v) (volume_of a.content) (tree_of a.content) asked works is load grow costs

  data_cost : (put : Data) → data_of (tree_of a.content) asked ≡ Some put → needs_cut (volume_of a.content) (data_of (tree_of a.content) asked) ≡ false → cost_of (needs_data (takable_of v) (volume_of a.content) put) (room_with (capacity_of v) (takable_of v) (volume_of a.content)) ≡ cost.Load load grow
  data_cost put is no_cut = sym (data_weight (capacity_of v) (takable_of v) (volume_of a.content) (tree_of a.content) asked put is (ap (needs_cut (volume_of a.content)) (sym is) ∙ no_cut)) ∙ costs

  -- a transaction holds it
  load_held : load ≤ capacity_of v
  unfolding room_with
  load_held = by (needs_cut (volume_of a.content) (data_of (tree_of a.content) asked)) refl (data_of (tree_of a.content) asked) refl
    where
      by : (b : Bool) → needs_cut (volume_of a.content) (data_of (tree_of a.content) asked) ≡ b → (d : Option Data) → data_of (tree_of a.content) asked ≡ d → load ≤ capacity_of v
      by true needs d is = cut_load_within (room_with (capacity_of v) (takable_of v) (volume_of a.content)) load grow (sym (cut_weighs (capacity_of v) (takable_of v) (volume_of a.content) (tree_of a.content) asked unread needs) ∙ costs)
      by false none None is = by_idle (only_reads asked || changes_nothing (tree_of a.content) asked) refl
        where
          by_idle : (b : Bool) → (only_reads asked || changes_nothing (tree_of a.content) asked) ≡ b → load ≤ capacity_of v
          by_idle true idle = omega (arith, (idle_load (capacity_of v) (takable_of v) (volume_of a.content) (tree_of a.content) asked idle load grow costs).0)
          by_idle false works = load_within (needs_now (takable_of v) (volume_of a.content) (tree_of a.content) asked) (room_with (capacity_of v) (takable_of v) (volume_of a.content)) load grow (edits_cost works is)
      by false none (Some put) is = load_within (needs_data (takable_of v) (volume_of a.content) put) (room_with (capacity_of v) (takable_of v) (volume_of a.content)) load grow (data_cost put is none)

-- ---- on a transaction to which nothing was put

module _ (v : Volume) (a : Space) (settled : IsSettled v a.content) (anew : IsAnew v a) (asked : Command) (unread : only_reads asked ≡ false) (fits : FitsAnew asked v a.content) where
  pub ready_alike : FitsAlike asked v a
  ready_alike =
      let takable : takable_of v ≡ free_blocks (volume_of a.content) = free_none v.map anew.held ∙ free_content v a.content settled in
      let costs : weight_with (capacity_of v) (takable_of v) (volume_of a.content) (tree_of a.content) asked ≡ cost.Load fits.load fits.grow =
      ap (λ (f : List Bool). weight_with (capacity_of v) f (volume_of a.content) (tree_of a.content) asked) takable ∙ fits.affords in
      record { load = fits.load; grow = fits.grow; affords = fits.affords; costs = costs; within = omega (arith, load_held v a asked unread fits.load fits.grow costs, anew.whole); whole = anew.whole }

-- ---- the verdict

some_more : (n : ℕ) → (n == 0) ≡ false → 0 < n
some_more zero is = absurd (true≢false is)
some_more (suc n) is = omega arith

none_more : (n : ℕ) → (n == 0) ≡ true → n ≡ 0
none_more n is = eqb-true n 0 is

module _ (capacity : ℕ) (takable : List Bool) (content : Content) (asked : Command) (n : ℕ) (grow : List ℕ) (affords : weight capacity (volume_of content) (tree_of content) asked ≡ cost.Load n grow)
    (costs : weight_with capacity takable (volume_of content) (tree_of content) asked ≡ cost.Load n grow) (spare : ℕ) (within : n ≤ spare)
  where
    by_grow : IsTaken (verdict_of (answer.Load n grow) spare) grow
    by_grow = by (slice_index grow 0 == 0) (slice_index grow 1 == 0) (slice_index grow 2 == 0) refl refl refl
      where
        by_spare : grow ≡ 0 ∷ 0 ∷ 0 ∷ [] → IsTaken (if nat_lt spare n then verdict.CommitFirst else verdict.Fits) grow
        by_spare all = subst (λ b. IsTaken (if b then verdict.CommitFirst else verdict.Fits) grow) (sym (le-ltb spare n within)) all

        by : (x y z : Bool) → (slice_index grow 0 == 0) ≡ x → (slice_index grow 1 == 0) ≡ y → (slice_index grow 2 == 0) ≡ z
            → IsTaken (if not x then verdict.Grows which.Extents (slice_index grow 0) else if not y then verdict.Grows which.Catalog (slice_index grow 1) else if not z then verdict.Grows which.Attributes (slice_index grow 2) else (if nat_lt spare n then verdict.CommitFirst else verdict.Fits)) grow
        by false y z one two three_ = (some_more (slice_index grow 0) one, first_extents grow (some_more (slice_index grow 0) one))
        by true false z one two three_ = (some_more (slice_index grow 1) two, first_catalog grow (none_more (slice_index grow 0) one) (some_more (slice_index grow 1) two))
        by true true false one two three_ = (some_more (slice_index grow 2) three_, first_attributes grow (none_more (slice_index grow 0) one) (none_more (slice_index grow 1) two))
        by true true true one two three_ = by_spare (three capacity content asked n grow affords ∙ (λ i. none_more (slice_index grow 0) one i ∷ none_more (slice_index grow 1) two i ∷ none_more (slice_index grow 2) three_ i ∷ []))

    of_reply : (said : Reply) (weighs : Weight) → IsTaken (verdict_of weighs spare) grow → IsTaken (verdict_of (refused_or said weighs) spare) grow
    of_reply (reply.No why) weighs takes = tt
    of_reply reply.Ok weighs takes = takes
    of_reply (reply.Listing list) weighs takes = takes
    of_reply (reply.Facts facts) weighs takes = takes
    of_reply (reply.Content bytes) weighs takes = takes
    of_reply (reply.Gauge gauge) weighs takes = takes

    pub alike_weight : (weighs : Weight) → weighs ≡ weighed capacity takable (volume_of content) (tree_of content) asked → IsTaken (verdict_of weighs spare) grow
    alike_weight weighs is =
        subst (λ (w : Weight). IsTaken (verdict_of w spare) grow) (sym is)
        (of_reply (step_line (tree_of content) (Ok asked)).0 (joined (weight capacity (volume_of content) (tree_of content) asked) (weight_with capacity takable (volume_of content) (tree_of content) asked))
        (subst (λ (k : Cost × Cost). IsTaken (verdict_of (joined k.0 k.1) spare) grow) {x = (cost.Load n grow, cost.Load n grow)} {y = (weight capacity (volume_of content) (tree_of content) asked, weight_with capacity takable (volume_of content) (tree_of content) asked)} (λ i. (sym affords i, sym costs i))
        (subst (λ b. IsTaken (verdict_of (if b then answer.Load n grow else answer.CommitFirst) spare) grow) (sym (λ i. eq-eqb (slice_index grow 0) (slice_index grow 0) refl i && eq-eqb (slice_index grow 2) (slice_index grow 2) refl i)) by_grow)))

-- ---- behind the verdict

-- the attributes file grows ahead of no data
third_growth : (grow : List ℕ) → slice_index grow 2 ≡ 0 → slice_index (first_growth grow) 2 ≡ 0
third_growth grow none_ = by (nat_lt 0 (slice_index grow 0)) (nat_lt 0 (slice_index grow 1))
  where
    by : (x y : Bool) → slice_index (if x then slice_index grow 0 ∷ 0 ∷ 0 ∷ [] else if y then 0 ∷ slice_index grow 1 ∷ 0 ∷ [] else 0 ∷ 0 ∷ slice_index grow 2 ∷ []) 2 ≡ 0
    by true y = refl
    by false true = refl
    by false false = none_

data_there : (v : Volume) (needs : Needs) (room : Room) (n : ℕ) (grow : List ℕ) → cost_of needs room ≡ cost.Load n grow → slice_index needs.edits 2 ≡ 0 → (tree : WhichTree) (more : ℕ) → 0 < more → first_growth grow ≡ alone tree more → IsThere tree v.header
data_there v needs room n grow is none_ which.Extents more some first = tt
data_there v needs room n grow is none_ which.Catalog more some first = tt
data_there v needs room n grow is none_ which.Attributes more some first =
    let planned : slice_index grow 2 ≡ growth room.block attributes_key (tree_at room 2) (slice_index needs.edits 2) = ap (λ l. slice_index l 2) (of_cost needs room n grow is).1 in
    let flat : slice_index grow 2 ≡ 0 = planned ∙ ap (growth room.block attributes_key (tree_at room 2)) none_ ∙ none_lacks room.block attributes_key (tree_at room 2) in
    absurd (omega (arith, some, ap (λ l. slice_index l 2) first, third_growth grow flat))

module _ (asked : Command) (v w : Volume) (a b : Space) (settled : IsSettled v a.content) (reads : ReadsVolume v w a b) (tells : IsTrue a.tells) (unread : only_reads asked ≡ false) (no_cut : needs_cut (volume_of a.content) (data_of (tree_of a.content) asked) ≡ false) where
  module _ (load : ℕ) (grow : List ℕ) (costs : weight_with (capacity_of v) (takable_of v) (volume_of a.content) (tree_of a.content) asked ≡ cost.Load load grow) (within : load ≤ a.spare) where
    abbrev fits_now : data_of (tree_of a.content) asked ≡ None → FitsNow asked v a
    fits_now is = record { no_data = is; load = load; grow = grow; costs = costs; within = within }

    -- the first growth is wanted still
    pub wants_so : refuses (tree_of a.content) (Ok asked) ≡ false → (tree : WhichTree) (more : ℕ) → 0 < more → first_growth grow ≡ alone tree more → (wants : WantsFirst tree more w b) × (wants.load ≡ load)
    wants_so fine tree more some first = by (data_of (tree_of a.content) asked) refl
      where
        by : (d : Option Data) → data_of (tree_of a.content) asked ≡ d → (wants : WantsFirst tree more w b) × (wants.load ≡ load)
        by None is = (
          wants_now asked v w a b reads tells unread (fits_now is) tree more some first (growth_there v a.content settled asked unread is fine (capacity_of v) (takable_of v) load grow costs tree more some first),
          wants_load asked v w a b reads tells unread (fits_now is) tree more some first (growth_there v a.content settled asked unread is fine (capacity_of v) (takable_of v) load grow costs tree more some first),
        )
        by (Some put) is = (
          record {
            needs = needs_data (takable_of v) (volume_of a.content) put;
            capacity = capacity_of w;
            load = load;
            grow = grow;
            costs = subst (λ (k : ℕ × Bitmap × Content). cost_of (needs_data (takable_of v) (volume_of a.content) put) (room_with k.0 (takable_in k.1) (volume_of k.2)) ≡ cost.Load load grow) {x = (capacity_of v, v.map, a.content)} {y = (capacity_of w, w.map, b.content)}
                (λ i. (sym reads.keeps.capacity i, sym reads.keeps.map i, sym (reads.looks.content tells) i)) (data_cost v a asked unread load grow costs put is no_cut);
            within = omega (arith, within, reads.looks.spare);
            some = some;
            first = first;
            there = there_still v w reads.keeps.header tree (data_there v (needs_data (takable_of v) (volume_of a.content) put) (room_with (capacity_of v) (takable_of v) (volume_of a.content)) load grow (data_cost v a asked unread load grow costs put is no_cut) refl tree more some first);
            short = inr refl;
          },
          refl,
        )

  -- where no tree grows it fits now, or its data is put now
  pub fits_alike : (it : FitsAlike asked v a) → it.grow ≡ 0 ∷ 0 ∷ 0 ∷ [] → ((now : FitsNow asked w b) × (now.grow ≡ 0 ∷ 0 ∷ 0 ∷ [])) ⊎ PutsNow asked w b
  fits_alike it flat = by (data_of (tree_of a.content) asked) refl
    where
      met : (put : Data) → data_of (tree_of a.content) asked ≡ Some put → is_data_met v a.spare (volume_of a.content) (Some put) ≡ true
      met put is =
          (λ i. not ((ap (needs_cut (volume_of a.content)) (sym is) ∙ no_cut) i) && is_met_extents ((data_cost v a asked unread it.load it.grow it.costs put is no_cut ∙ ap (cost.Load it.load) flat) i) a.spare)
          ∙ le-leb it.load a.spare it.within

      by : (d : Option Data) → data_of (tree_of a.content) asked ≡ d → ((now : FitsNow asked w b) × (now.grow ≡ 0 ∷ 0 ∷ 0 ∷ [])) ⊎ PutsNow asked w b
      by None is = let still = now_still asked v w a b reads tells (fits_now it.load it.grow it.costs it.within is) in inl (still.0, still.1 ∙ flat)
      by (Some put) is = inr (puts_still asked v w a b reads tells (record {
        met = ap (is_data_met v a.spare (volume_of a.content)) is ∙ met put is;
        alike = λ n grow weighs. ap (λ l. slice_index l 0) (same_grow n it.load grow it.grow (sym weighs ∙ it.affords) ∙ flat);
        few = inr it.whole;
      }))

  -- a growth puts no more than the load for which it goes first
  pub growth_within : refuses (tree_of a.content) (Ok asked) ≡ false → (tree : WhichTree) (more : ℕ) (c : Space) → ((n : ℕ) (grow : List ℕ) → weight_with (capacity_of v) (takable_of v) (volume_of a.content) (tree_of a.content) asked ≡ cost.Load n grow → (0 < more) × (first_growth grow ≡ alone tree more))
      → ((wants : WantsFirst tree more w b) → b.spare ≤ c.spare + wants.load) → IsWithinLoad asked v a c
  growth_within fine tree more c goes spent load grow costs = elim (cases_lt a.spare load) [
    | inl less ↦ omega (arith, less)
    | inr within ↦
        let first = goes load grow costs in
        let wants = wants_so load grow costs within fine tree more first.0 first.1 in
        omega (arith, reads.looks.spare, spent wants.0, wants.1)
  ]
