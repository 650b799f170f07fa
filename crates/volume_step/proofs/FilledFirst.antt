-- Zero blocks that are filled ahead of a command, and what stands of it behind them.
use Rattle.std.proofs.Common.{◌≡◌, ◌≢◌, ◌<◌, ℕ, ◌+◌, Bool, true, false, List, [], ◌∷◌, inl, inr, refl, sym, ◌∙◌, ap, subst, arith}
use Rattle.std.specs.Prelude.{◌||◌, slice_index, IfOk, OnOk, Option, None, Some, Result, Ok, Err, if◌then◌else◌}
use Rattle.std.proofs.lemmas.Bool.{true≢false}
use Rattle.hx_bytes.specs.declared.faults.Trouble.{Trouble}
use Rattle.jnl_format.specs.Recovery.{Content}
use Rattle.sector_disk.specs.Space.{Space}
use Rattle.hfs_language.specs.declared.command.Command.{Command}
use Rattle.hfs_language.specs.declared.command.Command.TheVariants as command
use Rattle.hfs_language.specs.declared.reply.Change.{Change}
use Rattle.hfs_language.specs.declared.reply.Reply.{Reply}
use Rattle.hfs_model.specs.Step.{only_reads}
use Rattle.hfs_model.specs.declared.plain.PlainTree.{PlainTree}
use Rattle.hfs_volume.specs.Content.{VolumeState, volume_of}
use Rattle.hfs_volume.specs.Reclaim.{FillsZeros}
use Rattle.hfs_volume.specs.TreeOf.{tree_of}
use Rattle.hfs_volume.specs.Weight.{Data, changes_nothing, data_of, free_blocks, most_zeros, needs_cut, zero_blocks, zeros_before_value, zeros_up_to_size}
use Rattle.hfs_volume.specs.declared.cost.Cost.{Cost}
use Rattle.hfs_volume.specs.declared.cost.Cost.TheVariants as cost
use Rattle.volume_base.specs.Room.{capacity_of}
use Rattle.volume_base.specs.declared.volume.Filling.{Filling}
use Rattle.volume_base.specs.declared.volume.Volume.{Volume}
use Rattle.volume_base.specs.Holding.{IsLaidOutAs}
use Rattle.volume_space.specs.Zeroing.{done_of, is_growth_of}
use Rattle.volume_space.specs.declared.ahead.Growth.{Growth}
use Rattle.volume_space.specs.declared.ahead.Growth.TheVariants as growing
use Rattle.volume_space.specs.declared.ahead.WhichTree.{WhichTree}
use Rattle.volume_space.specs.declared.cutting_ahead.CutAhead.{CutAhead}
use Rattle.volume_space.specs.declared.cutting_ahead.CutAhead.TheVariants as ahead
use Rattle.volume_space.specs.declared.zeroing.Zeros.{Zeros}
use Rattle.volume_space.specs.declared.zeroing.Zeros.TheVariants as zeros
use Rattle.volume_step.specs.Steps.{Affords, AreFewLeft, FillsMore, FitsNow, GoesFurther, HasFewLeft, HasFewZeros, IsDoneOk, KeepsGrowth, KeepsJournal, StepsNow, StepsTo, WaitsForGrowth, grown, outcome_of}
use Rattle.volume_step.specs.declared.outcome.Outcome.{Outcome}
use Rattle.volume_step.specs.declared.outcome.Outcome.TheVariants as outcome
use Rattle.volume_step.proofs.Kept.{Keeps, keeps_none}
use Rattle.volume_step.proofs.Idle.{alone_none, idle_load}
use Rattle.volume_step.proofs.Served.{journal_kept, no_data}

pub if_both : {A E : Type 0} (P Q R : A → Type 0) (result : Result A E) → ((a : A) → P a → Q a → R a) → IfOk result P → IfOk result Q → IfOk result R
if_both P Q R (Ok a) step p q = step a p q
if_both P Q R (Err e) step p q = tt

-- ---- what a fill came to

pub few_none : (came : Zeros) → came ≡ zeros.Few → came ≢ zeros.Filled
few_none came few same = let both : zeros.Few ≡ zeros.Filled = sym few ∙ same in cc both

pub commit_none : (came : Zeros) → came ≡ zeros.CommitFirst → came ≢ zeros.Filled
commit_none came first same = let both : zeros.CommitFirst ≡ zeros.Filled = sym first ∙ same in cc both

pub filled_some : (came : Zeros) → came ≡ zeros.Filled → came ≢ zeros.Few
filled_some came filled same = let both : zeros.Filled ≡ zeros.Few = sym filled ∙ same in cc both

pub commit_some : (came : Zeros) → came ≡ zeros.CommitFirst → came ≢ zeros.Few
commit_some came first same = let both : zeros.CommitFirst ≡ zeros.Few = sym first ∙ same in cc both

pub again_now : outcome.Again ≢ outcome.CommitFirst
again_now same = let both : outcome.Again ≡ outcome.CommitFirst = same in cc both

-- ---- some were filled

pub fills_steps : (capacity number : ℕ) (asked : Command) (before after : Content) → Affords capacity asked before → needs_cut (volume_of before) (data_of (tree_of before) asked) ≡ false
    → most_zeros < zero_blocks (volume_of before).head.block_size (tree_of before) asked → FillsZeros before after → StepsTo outcome.Again capacity number asked before after
fills_steps capacity number asked before after affords uncut many fills =
    inr (inr (record { no_refusal = affords.no_refusal; no_surplus = uncut; load = affords.load; affords = affords.affords; many = many; fills = fills }))

pub fills_place : (before after : Content) → FillsZeros before after → KeepsJournal before after
fills_place before after fills = journal_kept before after (subst (λ (l : VolumeState). Keeps (volume_of before) l) (sym fills.volume) (keeps_none (volume_of before))).forks

-- ---- a commit is wanted first

-- a command that puts no data has no zero blocks
none_zeros : (block : ℕ) (tree : PlainTree) (asked : Command) → data_of tree asked ≡ None → zero_blocks block tree asked ≡ 0
none_zeros block tree (command.Write path from value) none = ap (zeros_before_value block) none
none_zeros block tree (command.Trunc path size) none = ap (zeros_up_to_size block) none
none_zeros block tree (command.Mkdir p) none = refl
none_zeros block tree (command.Create p) none = refl
none_zeros block tree (command.Rm p) none = refl
none_zeros block tree (command.Rmdir p) none = refl
none_zeros block tree (command.Mv p q) none = refl
none_zeros block tree (command.Ln p q) none = refl
none_zeros block tree (command.Read p n m) none = refl
none_zeros block tree (command.Ls p) none = refl
none_zeros block tree (command.Stat p) none = refl
none_zeros block tree (command.Chmod p m) none = refl
none_zeros block tree (command.SetAttr p n v) none = refl
none_zeros block tree (command.GetAttr p n) none = refl
none_zeros block tree (command.DelAttr p n) none = refl
none_zeros block tree (command.LsAttr p) none = refl
none_zeros block tree (command.At n) none = refl
none_zeros block tree command.Df none = refl
none_zeros block tree command.Sync none = refl

pub never_many : (block : ℕ) (tree : PlainTree) (asked : Command) → data_of tree asked ≡ None → most_zeros < zero_blocks block tree asked → ⊥
never_many block tree asked none many = omega (arith, many, none_zeros block tree asked none)

pub never_few : (asked : Command) (v : Volume) (a : Space) → HasFewZeros asked v a → most_zeros < zero_blocks (volume_of a.content).head.block_size (tree_of a.content) asked → a.spare < capacity_of v → ⊥
never_few asked v a few many short = elim few [
  | inl zeros_ ↦ omega (arith, zeros_, many)
  | inr whole ↦ omega (arith, whole, short)
]

-- ---- with another growth in hand

module _ (v : Volume) (f : Option Filling) where
  pub now_filling : (asked : Command) (a : Space) → (now : FitsNow asked v a) → (it : FitsNow asked (record v { filling = f }) a) × (it.grow ≡ now.grow)
  now_filling asked a now = (record { no_data = now.no_data; load = now.load; grow = now.grow; costs = now.costs; within = now.within }, refl)

-- ---- each time that it is to be tried again

abbrev grown_in : Cost → List ℕ
grown_in (cost.Refused why) = []
grown_in (cost.Load load grow) = grow

-- what was done at once isn't to be tried again
pub now_steps : (it : Outcome) (capacity number : ℕ) (asked : Command) (before after : Content) → StepsNow it capacity number asked before after → StepsTo it capacity number asked before after
now_steps (outcome.Answered said changes) capacity number asked before after is = is
now_steps outcome.CommitFirst capacity number asked before after is = is
now_steps outcome.Again capacity number asked before after is = absurd is

pub now_never : (it : Outcome) (capacity number : ℕ) (asked : Command) (before after : Content) → StepsNow it capacity number asked before after → it ≢ outcome.Again
now_never it capacity number asked before after is same = absurd (subst (λ (o : Outcome). StepsNow o capacity number asked before after) same is)

pub commit_again : outcome.CommitFirst ≢ outcome.Again
commit_again same = let both : outcome.CommitFirst ≡ outcome.Again = same in cc both

pub answered_again : (it : Outcome) (said : Reply) (changes : List Change) → it ≡ outcome.Answered said changes → it ≢ outcome.Again
answered_again it said changes is same = let both : outcome.Answered said changes ≡ outcome.Again = sym is ∙ same in cc both

module _ (capacity number : ℕ) (asked : Command) (before after : Content) (old new : Option Filling) where
  -- ahead of it a cut went
  pub cut_further : (it : Outcome) → needs_cut (volume_of before) (data_of (tree_of before) asked) ≡ true → StepsTo it capacity number asked before after → it ≡ outcome.Again → GoesFurther capacity asked old new before after
  cut_further it needs is same = elim (subst (λ (o : Outcome). StepsTo o capacity number asked before after) same is) [
    | inl cuts ↦ inl cuts
    | inr later ↦ elim later [
      | inl grows ↦ inr (inl grows)
      | inr fills ↦ absurd (true≢false (sym needs ∙ fills.no_surplus))
    ]
  ]

  -- or a growth
  pub growth_further : (it : Outcome) (tree : WhichTree) (more : ℕ) → WaitsForGrowth tree more capacity asked before → StepsTo it capacity number asked before after → it ≡ outcome.Again → GoesFurther capacity asked old new before after
  growth_further it tree more waits is same = elim (subst (λ (o : Outcome). StepsTo o capacity number asked before after) same is) [
    | inl cuts ↦ inl cuts
    | inr later ↦ elim later [
      | inl grows ↦ inr (inl grows)
      | inr fills ↦ absurd (alone_none tree more waits.grow (ap grown_in (sym waits.weighs ∙ fills.affords)) waits.some waits.first)
    ]
  ]

  -- a command that reads isn't tried again
  pub read_never : (it : Outcome) → only_reads asked ≡ true → StepsTo it capacity number asked before after → it ≢ outcome.Again
  read_never it reads is same = elim (subst (λ (o : Outcome). StepsTo o capacity number asked before after) same is) [
    | inl cuts ↦ true≢false (sym cuts.needs ∙ ap (needs_cut (volume_of before)) (no_data (tree_of before) asked reads))
    | inr later ↦ elim later [
      | inl grows ↦ let flat = idle_load capacity (free_blocks (volume_of before)) (volume_of before) (tree_of before) asked (λ i. reads i || changes_nothing (tree_of before) asked) grows.load grows.grow grows.affords in
          nothing_grows grows.grow flat.1 grows.some
      | inr fills ↦ never_many (volume_of before).head.block_size (tree_of before) asked (no_data (tree_of before) asked reads) fills.many
    ]
  ]
    where
      nothing_grows : (grow : List ℕ) → grow ≡ 0 ∷ 0 ∷ 0 ∷ [] → 0 < slice_index grow 0 + slice_index grow 1 + slice_index grow 2 → ⊥
      nothing_grows grow flat some = let none : 0 < 0 = subst (λ (l : List ℕ). 0 < slice_index l 0 + slice_index l 1 + slice_index l 2) flat some in omega (arith, none)

-- ---- the growth in hand

-- where none is in hand
pub hand_none : (it : Outcome) (puts : Option Data) (filling : Option Filling) → filling ≡ None → KeepsGrowth it puts filling
hand_none it puts filling none = subst (λ (f : Option Filling). KeepsGrowth it puts f) (sym none) tt

pub hand_dropped : (result : Result Outcome Trouble) (puts : Option Data) (filling : Option Filling) → OnOk result (filling ≡ None) → IfOk result (λ it. KeepsGrowth it puts filling)
hand_dropped (Ok it) puts filling none = hand_none it puts filling none
hand_dropped (Err why) puts filling none = tt

-- where more of its zero blocks are filled, it is its own
pub hand_fills : (puts : Option Data) (old new : Option Filling) → FillsMore puts old new → KeepsGrowth outcome.Again puts new
hand_fills None old new more = absurd more
hand_fills (Some put) old None more = tt
hand_fills (Some put) old (Some it) more = by (is_growth_of it put.id put.old_size put.new_size) refl
  where
    never : (n : ℕ) → 0 ≡ n + most_zeros → ⊥
    never n same = omega (arith, same)

    by : (b : Bool) → is_growth_of it put.id put.old_size put.new_size ≡ b → is_growth_of it put.id put.old_size put.new_size ≡ true
    by true is = is
    by false is = absurd (never (done_of old put.id put.old_size put.new_size) (sym (ap (λ b. if b then it.done else 0) is) ∙ more))

-- ---- what isn't done yet

pub cut_undone : (came : CutAhead) → IsDoneOk (outcome_of came) → ⊥
cut_undone ahead.NotNeeded done = done
cut_undone ahead.Made done = done
cut_undone ahead.CommitFirst done = done
cut_undone (ahead.Refused why) done = done

pub growth_undone : (went : Growth) → IsDoneOk (grown went) → ⊥
growth_undone growing.Grown done = done
growth_undone growing.CommitFirst done = done

-- what puts no data has no zero blocks left
pub few_of_none : (asked : Command) (filling : Option Filling) (content : Content) → data_of (tree_of content) asked ≡ None → HasFewLeft asked filling content
few_of_none asked filling content none = subst (λ (d : Option Data). AreFewLeft (zero_blocks (volume_of content).head.block_size (tree_of content) asked) d filling) (sym none) tt

pub if_any : {A E : Type 0} (P : A → Type 0) (result : Result A E) → ((a : A) → P a) → IfOk result P
if_any P (Ok a) every = every a
if_any P (Err e) every = tt
