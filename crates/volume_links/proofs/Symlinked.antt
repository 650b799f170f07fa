-- What `symlink` is told, and what it weighs, by the place that its path names.
use Rattle.std.proofs.Common.{◌≡◌, ◌<◌, ◌≤◌, ℕ, ◌^◌, Bool, true, false, List, [], ◌∷◌, length, refl, sym, ◌∙◌, ap, arith}
use Rattle.std.specs.Prelude.{◌&&◌, nat_le, nat_lt, not, Option, Some, Result, Ok, Err, if◌then◌else◌}
use Rattle.std.specs.Str.{is_utf8}
use Rattle.std.proofs.lemmas.Bool.{and_parts, le-ltb, leb-true, true≢false}
use Rattle.sector_disk.specs.Lists.{Content}
use Rattle.fork_map.specs.Blocks.{blocks_of}
use Rattle.hfs_language.specs.declared.refusal.Refusal.{Refusal}
use Rattle.hfs_language.specs.declared.refusal.Refusal.TheVariants as refusal
use Rattle.hfs_language.specs.declared.reply.Reply.TheVariants as reply
use Rattle.hfs_model.specs.Kinds.{kind_step, kind_told, made_link, to_symlink}
use Rattle.hfs_model.specs.Step.{Place, Step, is_private_path, on, then_, to_make, unless}
use Rattle.hfs_model.specs.Targets.{are_short, components_of, is_target, most_target}
use Rattle.hfs_model.specs.declared.kinds.KindEdit.TheVariants as edit
use Rattle.hfs_model.specs.declared.plain.PlainTree.{PlainTree}
use Rattle.hfs_volume.specs.Content.{VolumeState, overflow_in_volume, volume_of}
use Rattle.hfs_volume.specs.Cost.{cost_of}
use Rattle.hfs_volume.specs.Forks.{data_kind, parts_for}
use Rattle.hfs_volume.specs.KindWeight.{kind_data_of, kind_weight, kind_weight_with, target_data}
use Rattle.hfs_volume.specs.Records.{Placed}
use Rattle.hfs_volume.specs.Sound.{IsSoundVolume}
use Rattle.hfs_volume.specs.TreeOf.{bytes_in, tree_of}
use Rattle.hfs_volume.specs.Weight.{Data, cut_cost, edits, extents_found, file_blocks, file_fork, free_blocks, grows, needs_cut_in, needs_in, room_with}
use Rattle.hfs_volume.proofs.Telling.{next_is}
use Rattle.volume_base.specs.DataWeighing.{needs_target, target_of, target_weighed}
use Rattle.volume_base.specs.Weighing.{joined, refused_or}
use Rattle.volume_base.specs.declared.weighing.Weight.TheVariants as answer
use Rattle.volume_weights.proofs.TargetNeeds.{none_next}
use Rattle.volume_links.specs.Steps.{KindWaitsForCut, kind_weighed, site_weighed}

-- a target has some bytes, and few
pub target_bytes : (value : List ℕ) → is_target value ≡ true → (0 < length value) × (length value ≤ 1023)
unfolding is_target
target_bytes value good =
    let both = and_parts (nat_le 1 (length value) && nat_le (length value) most_target) (is_utf8 value && are_short (components_of value)) good in
    let ends = and_parts (nat_le 1 (length value)) (nat_le (length value) most_target) both.0 in
    (leb-true 1 (length value) ends.0, leb-true (length value) most_target ends.1)

pub target_short : (value : List ℕ) → is_target value ≡ true → length value ≤ 2 ^ 40
target_short value good = omega (arith, (target_bytes value good).1)

-- nothing is past the size of a file that isn't there
no_surplus : (b : Bool) (n : ℕ) (none : n ≡ 0) (want : ℕ) → (b && nat_lt want n) ≡ false
no_surplus true n none want = le-ltb want n (omega (arith, none))
no_surplus false n none want = refl

module _ (tree : PlainTree) (path : List (List ℕ)) (value : List ℕ) where
  pub link_private : is_private_path path ≡ true → kind_told tree (edit.Symlink path value) ≡ (reply.No refusal.Private, tree)
  link_private own = ap (λ b. if b then (reply.No refusal.Private, tree) else kind_step tree (edit.Symlink path value)) own

  pub by_place : is_private_path path ≡ false → (r : Result Place Refusal) → to_symlink tree path value ≡ r → kind_told tree (edit.Symlink path value) ≡ on tree r (λ at. (reply.Ok, made_link at value tree))
  by_place not_own r is =
      ap (λ b. if b then (reply.No refusal.Private, tree) else kind_step tree (edit.Symlink path value)) not_own
      ∙ ap (λ q. on tree q (λ (at : Place). (reply.Ok, made_link at value tree))) is

  pub link_refused : is_private_path path ≡ false → (why : Refusal) → to_make tree path ≡ Err why → kind_told tree (edit.Symlink path value) ≡ (reply.No why, tree)
  link_refused not_own why is = by_place not_own (Err why) (ap (λ r. then_ r (unless (not (is_target value)) refusal.BadTarget)) is)

  pub link_bad : is_private_path path ≡ false → (at : Place) → to_make tree path ≡ Ok at → is_target value ≡ false → kind_told tree (edit.Symlink path value) ≡ (reply.No refusal.BadTarget, tree)
  link_bad not_own at is bad =
      by_place not_own (Err refusal.BadTarget) (ap (λ r. then_ r (unless (not (is_target value)) refusal.BadTarget)) is ∙ ap (λ b. unless (not b) refusal.BadTarget at) bad)

  pub place_is : (at : Place) → to_make tree path ≡ Ok at → is_target value ≡ true → to_symlink tree path value ≡ Ok at
  place_is at is good = ap (λ r. then_ r (unless (not (is_target value)) refusal.BadTarget)) is ∙ ap (λ b. unless (not b) refusal.BadTarget at) good

  -- a refusal is what it weighs
  pub link_why : (capacity : ℕ) (takable : List Bool) (volume : VolumeState) (why : Refusal) → kind_told tree (edit.Symlink path value) ≡ (reply.No why, tree) → answer.Refused why ≡ kind_weighed capacity takable volume tree (edit.Symlink path value)
  link_why capacity takable volume why is =
      sym (ap (λ (s : Step). refused_or s.0 (joined (kind_weight capacity volume tree (edit.Symlink path value)) (kind_weight_with capacity takable volume tree (edit.Symlink path value)))) is)

-- a path to the root
pub link_root : (tree : PlainTree) (path : List (List ℕ)) (value : List ℕ) → length path ≡ 0 → kind_told tree (edit.Symlink path value) ≡ (reply.No refusal.Root, tree)
link_root tree [] value is = link_refused tree [] value refl refusal.Root refl
link_root tree (name ∷ path) value is = absurd (omega (arith, is))

module _ (content : Content) (sound : IsSoundVolume (volume_of content)) (path : List (List ℕ)) (value : List ℕ) where
  -- what a link puts waits for no cut
  pub no_cut : needs_cut_in data_kind (volume_of content) (Some (target_of (volume_of content) (length value))) ≡ false
  no_cut = no_surplus (grows (target_of (volume_of content) (length value))) (length (file_blocks (volume_of content) (volume_of content).head.next_catalog_id data_kind))
      (ap (λ (o : Option Placed). length (blocks_of (extents_found (overflow_in_volume (volume_of content)) (volume_of content).head.next_catalog_id data_kind (file_fork data_kind o)))) (none_next (volume_of content) sound))
      (parts_for 0 (volume_of content).head.block_size)

  next_here : (tree_of content).next_id ≡ (volume_of content).head.next_catalog_id
  unfolding tree_of
  next_here = next_is (volume_of content) (bytes_in content)

  pub data_is : (at : Place) → to_symlink (tree_of content) path value ≡ Ok at → kind_data_of (tree_of content) (edit.Symlink path value) ≡ Some (target_of (volume_of content) (length value))
  data_is at is = ap (λ (k : ℕ). target_data k (length value) (to_symlink (tree_of content) path value)) next_here ∙ ap (target_data (volume_of content).head.next_catalog_id (length value)) is

  pub link_cost : (at : Place) → to_symlink (tree_of content) path value ≡ Ok at → (capacity : ℕ) (free : List Bool)
      → kind_weight_with capacity free (volume_of content) (tree_of content) (edit.Symlink path value) ≡ cost_of (needs_target free (volume_of content) (length value)) (room_with capacity free (volume_of content))
  unfolding kind_weight_with
  link_cost at is capacity free =
      ap (λ (o : Option Data). if needs_cut_in data_kind (volume_of content) o then cut_cost (room_with capacity free (volume_of content)) else cost_of (needs_in data_kind free (volume_of content) (edits 1 2 0 1) o) (room_with capacity free (volume_of content))) (data_is at is)
      ∙ ap (λ b. if b then cut_cost (room_with capacity free (volume_of content)) else cost_of (needs_target free (volume_of content) (length value)) (room_with capacity free (volume_of content))) no_cut

  pub link_weighed : is_private_path path ≡ false → (at : Place) → to_make (tree_of content) path ≡ Ok at → is_target value ≡ true → (capacity : ℕ) (takable : List Bool)
      → target_weighed capacity takable (volume_of content) (length value) ≡ kind_weighed capacity takable (volume_of content) (tree_of content) (edit.Symlink path value)
  link_weighed not_own at is good capacity takable =
      let there = place_is (tree_of content) path value at is good in
      sym (λ i. joined (link_cost at there capacity (free_blocks (volume_of content)) i) (link_cost at there capacity takable i))
      ∙ sym (ap (λ (s : Step). refused_or s.0 (joined (kind_weight capacity (volume_of content) (tree_of content) (edit.Symlink path value)) (kind_weight_with capacity takable (volume_of content) (tree_of content) (edit.Symlink path value)))) (by_place (tree_of content) path value not_own (Ok at) there))

  -- by whether its value is the text of a link
  pub link_site : is_private_path path ≡ false → (at : Place) → to_make (tree_of content) path ≡ Ok at → (capacity : ℕ) (takable : List Bool)
      → site_weighed (is_target value) capacity takable (volume_of content) (length value) ≡ kind_weighed capacity takable (volume_of content) (tree_of content) (edit.Symlink path value)
  link_site not_own at is capacity takable = by (is_target value) refl
    where
      by : (b : Bool) → is_target value ≡ b → site_weighed b capacity takable (volume_of content) (length value) ≡ kind_weighed capacity takable (volume_of content) (tree_of content) (edit.Symlink path value)
      by true good = link_weighed not_own at is good capacity takable
      by false bad = link_why (tree_of content) path value capacity takable (volume_of content) refusal.BadTarget (link_bad (tree_of content) path value not_own at is bad)

-- a link waits for no cut, whatever its path names
pub link_waits : (content : Content) → IsSoundVolume (volume_of content) → (path : List (List ℕ)) (value : List ℕ) → KindWaitsForCut content (edit.Symlink path value) → ⊥
link_waits content sound path value waits = by (to_symlink (tree_of content) path value) refl
  where
    by : (r : Result Place Refusal) → to_symlink (tree_of content) path value ≡ r → ⊥
    by (Ok at) is = true≢false (sym waits.1 ∙ ap (needs_cut_in data_kind (volume_of content)) (data_is content sound path value at is) ∙ no_cut content sound path value)
    by (Err why) is = true≢false (sym waits.1 ∙ ap (λ (r : Result Place Refusal). needs_cut_in data_kind (volume_of content) (target_data (tree_of content).next_id (length value) r)) is)
