-- A commit that a command on a link or a fork wants: what stays of its reasons behind reads, and the first growth of a tree for which there is room.
use Rattle.std.proofs.Common.{◌≡◌, ◌≢◌, ◌<◌, ℕ, Bool, true, false, List, [], ◌∷◌, inr, refl, sym, ◌∙◌, ap, subst, arith}
use Rattle.std.specs.Prelude.{IsTrue, IfOk, Result, Ok, Err, Option, None, Some, nat_lt, slice_index, if◌then◌else◌}
use Rattle.alloc_bitmap.specs.declared.bitmap.Bitmap.{Bitmap}
use Rattle.hx_bytes.specs.declared.faults.Trouble.{Trouble}
use Rattle.jnl_format.specs.Recovery.{Content}
use Rattle.sector_disk.specs.Space.{Space}
use Rattle.hfs_model.specs.declared.kinds.KindEdit.{KindEdit}
use Rattle.hfs_model.specs.declared.kinds.KindEdit.TheVariants as edit
use Rattle.hfs_volume.specs.Content.{volume_of}
use Rattle.hfs_volume.specs.Cost.{attributes_key, cost_of, growth, tree_at}
use Rattle.hfs_volume.specs.KindWeight.{fork_of_edit, kind_data_of, kind_edits_of, kind_only_reads, kind_weight_with, kind_zero_blocks}
use Rattle.hfs_volume.specs.Reclaim.{first_growth}
use Rattle.hfs_volume.specs.TreeOf.{tree_of}
use Rattle.hfs_volume.specs.Weight.{Data, most_zeros, needs_cut_in, needs_in, room_with}
use Rattle.hfs_volume.specs.declared.cost.Cost.TheVariants as cost
use Rattle.hfs_volume.specs.declared.cost.Needs.{Needs}
use Rattle.hfs_volume.specs.declared.cost.Room.{Room}
use Rattle.volume_base.specs.Fitting.{takable_in, takable_of}
use Rattle.volume_base.specs.Looking.{ReadsVolume}
use Rattle.volume_base.specs.Room.{capacity_of}
use Rattle.volume_base.specs.declared.volume.Volume.{Volume}
use Rattle.volume_header.specs.declared.header.VolumeHeader.{VolumeHeader}
use Rattle.volume_space.specs.Growing.{IsThere, WantsFirst, alone}
use Rattle.volume_space.specs.declared.ahead.WhichTree.{WhichTree}
use Rattle.volume_space.specs.declared.ahead.WhichTree.TheVariants as which
use Rattle.volume_space.proofs.FewerEdits.{none_lacks}
use Rattle.volume_step.specs.declared.outcome.Outcome.{Outcome}
use Rattle.volume_step.specs.declared.outcome.Outcome.TheVariants as outcome
use Rattle.volume_step.proofs.Loaded.{lacks_still}
use Rattle.volume_step.proofs.Ready.{of_cost}
use Rattle.volume_links.specs.Wanting.{KindFitsNow, KindHasManyZeros, KindLacksRoomToCut, KindWantsCommit}
use Rattle.volume_links.proofs.WeighedNow.{uncut_cost}
use Rattle.volume_base.specs.declared.volume.Filling.{Filling}

module _ (volume : Volume) (space : Space) (asked : KindEdit) where
  pub waits_never : (r : Result Outcome Trouble) → IfOk r (λ it. it ≢ outcome.CommitFirst) → IfOk r (λ it. it ≡ outcome.CommitFirst → KindWantsCommit volume space asked)
  waits_never (Ok it) never = λ is. absurd (never is)
  waits_never (Err why) never = tt

-- ---- behind reads

module _ (v w : Volume) (a b : Space) (reads : ReadsVolume v w a b) (tells : IsTrue a.tells) (asked : KindEdit) where
  -- it fits still
  pub fits_still : (grow : List ℕ) → KindFitsNow grow v a asked → KindFitsNow grow w b asked
  fits_still grow fits = record {
    load = fits.load;
    costs = subst (λ (k : ℕ × Bitmap × Content). kind_weight_with k.0 (takable_in k.1) (volume_of k.2) (tree_of k.2) asked ≡ cost.Load fits.load grow) {x = (capacity_of v, v.map, a.content)} {y = (capacity_of w, w.map, b.content)}
        (λ i. (sym reads.keeps.capacity i, sym reads.keeps.map i, sym (reads.looks.content tells) i)) fits.costs;
    within = omega (arith, fits.within, reads.looks.spare);
  }

  -- a cut that lacks room lacked it, and many zero blocks were many
  pub cut_lacked : KindLacksRoomToCut w b asked → KindLacksRoomToCut v a asked
  cut_lacked lacks = record {
    needs = subst (λ (k : Content). needs_cut_in (fork_of_edit asked) (volume_of k) (kind_data_of (tree_of k) asked) ≡ true) (reads.looks.content tells) lacks.needs;
    room = lacks_still v w a b reads tells lacks.room;
  }

  pub zeros_were : KindHasManyZeros w b asked → KindHasManyZeros v a asked
  zeros_were zeros = record {
    many = subst (λ (k : Content). most_zeros < kind_zero_blocks (volume_of k).head.block_size (tree_of k) asked) (reads.looks.content tells) zeros.many;
    put = omega (arith, zeros.put, reads.looks.spare, reads.keeps.capacity);
  }

-- ---- the first growth

-- links and resource forks change no attributes
no_attributes : (asked : KindEdit) (free : List Bool) (content : Content) (put : Option Data) → slice_index (needs_in (fork_of_edit asked) free (volume_of content) (kind_edits_of asked) put).edits 2 ≡ 0
no_attributes (edit.Symlink path value) free content None = refl
no_attributes (edit.Symlink path value) free content (Some put) = refl
no_attributes (edit.ResourceWrite path from value) free content None = refl
no_attributes (edit.ResourceWrite path from value) free content (Some put) = refl
no_attributes (edit.ResourceRead path from long) free content None = refl
no_attributes (edit.ResourceRead path from long) free content (Some put) = refl

-- where the attributes file doesn't grow it isn't the first to
third_growth : (grow : List ℕ) → slice_index grow 2 ≡ 0 → slice_index (first_growth grow) 2 ≡ 0
third_growth grow none = by (nat_lt 0 (slice_index grow 0)) (nat_lt 0 (slice_index grow 1))
  where
    by : (x y : Bool) → slice_index (if x then slice_index grow 0 ∷ 0 ∷ 0 ∷ [] else if y then 0 ∷ slice_index grow 1 ∷ 0 ∷ [] else 0 ∷ 0 ∷ slice_index grow 2 ∷ []) 2 ≡ 0
    by true y = refl
    by false true = refl
    by false false = none

grows_there : (head : VolumeHeader) (needs : Needs) (room : Room) (n : ℕ) (grow : List ℕ) → cost_of needs room ≡ cost.Load n grow → slice_index needs.edits 2 ≡ 0 → (tree : WhichTree) (more : ℕ) → 0 < more → first_growth grow ≡ alone tree more → IsThere tree head
grows_there head needs room n grow is none which.Extents more some first = tt
grows_there head needs room n grow is none which.Catalog more some first = tt
grows_there head needs room n grow is none which.Attributes more some first =
    let flat : slice_index grow 2 ≡ 0 =
    ap (λ l. slice_index l 2) (of_cost needs room n grow is).1 ∙ ap (growth room.block attributes_key (tree_at room 2)) none ∙ none_lacks room.block attributes_key (tree_at room 2) in
    absurd (omega (arith, some, ap (λ l. slice_index l 2) first, third_growth grow flat))

-- a command that fits now wants the first of its growths
pub kind_wants : (v : Volume) (a : Space) (asked : KindEdit) → kind_only_reads asked ≡ false → needs_cut_in (fork_of_edit asked) (volume_of a.content) (kind_data_of (tree_of a.content) asked) ≡ false
    → (tree : WhichTree) (more : ℕ) → 0 < more → (grow : List ℕ) → first_growth grow ≡ alone tree more → KindFitsNow grow v a asked → WantsFirst tree more v a
kind_wants v a asked changes uncut tree more some grow first fits =
    let needs = needs_in (fork_of_edit asked) (takable_of v) (volume_of a.content) (kind_edits_of asked) (kind_data_of (tree_of a.content) asked) in
    let costs : cost_of needs (room_with (capacity_of v) (takable_of v) (volume_of a.content)) ≡ cost.Load fits.load grow = sym (uncut_cost (capacity_of v) (takable_of v) a asked changes uncut) ∙ fits.costs in
    record {
      needs = needs;
      capacity = capacity_of v;
      load = fits.load;
      grow = grow;
      costs = costs;
      within = fits.within;
      some = some;
      first = first;
      there = grows_there v.header needs (room_with (capacity_of v) (takable_of v) (volume_of a.content)) fits.load grow costs (no_attributes asked (takable_of v) a.content (kind_data_of (tree_of a.content) asked)) tree more some first;
      short = inr refl;
    }

-- whatever growth is in hand
pub fits_filling : (v : Volume) (filling : Option Filling) (a : Space) (asked : KindEdit) (grow : List ℕ) → KindFitsNow grow v a asked → KindFitsNow grow (record v { filling = filling }) a asked
fits_filling v filling a asked grow fits = record { load = fits.load; costs = fits.costs; within = fits.within }
