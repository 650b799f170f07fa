-- What `rwrite` comes to where its bytes were put: the step's tree, a settled volume, and the lists that it speaks of.
use Rattle.std.proofs.Common.{◌≡◌, ◌<◌, ℕ, ◌+◌, ◌-◌, max, min, inr, true, false, List, [], ◌∷◌, length, refl, sym, ◌∙◌, ap, subst, arith}
use Rattle.std.specs.Prelude.{Contains, ◌==◌, ◌&&◌, not, IsTrue, Some, if◌then◌else◌}
use Rattle.std.proofs.lemmas.Bool.{le-leb, ne_eqb}
use Rattle.file_io.specs.Places.{old_end, first_block as first_of}
use Rattle.sector_disk.specs.Lists.{Content}
use Rattle.sector_disk.specs.Space.{Space}
use Rattle.hfs_language.specs.declared.refusal.Refusal.TheVariants as refusal
use Rattle.hfs_language.specs.declared.reply.Reply.TheVariants as reply
use Rattle.hfs_model.specs.Kinds.{kind_step, kind_told}
use Rattle.hfs_model.specs.declared.kinds.KindEdit.TheVariants as edit
use Rattle.hfs_model.specs.declared.plain.PlainTree.{PlainTree}
use Rattle.hfs_volume.specs.Content.{volume_of}
use Rattle.hfs_volume.specs.Forks.{resource_kind}
use Rattle.hfs_volume.specs.Kinds.{ResourceWriteDoes}
use Rattle.hfs_volume.specs.KindWeight.{kind_data_of}
use Rattle.hfs_volume.specs.TreeOf.{bytes_in, tree_of}
use Rattle.hfs_volume.specs.Weight.{needs_cut_in}
use Rattle.hfs_volume.specs.Writing.{MakesBytes, RewritePuts, RewritesFork, written_bytes}
use Rattle.hfs_volume.proofs.Bytes.{file_bytes_are}
use Rattle.volume_base.specs.DataWeighing.{data_as}
use Rattle.volume_base.specs.Fitting.{takable_of}
use Rattle.volume_base.specs.Room.{capacity_of}
use Rattle.volume_base.specs.Standing.{IsSettled, StandsOver}
use Rattle.volume_base.specs.declared.data_cost.Put.{Put}
use Rattle.volume_base.specs.declared.volume.Volume.{Volume}
use Rattle.volume_space.specs.Spreading.{is_met_extents}
use Rattle.volume_space.specs.Writing.{IsAt, PutsAt, is_data_met_in}
use Rattle.volume_space.proofs.PutForks.{forks_put, rewritten, user_put}
use Rattle.volume_links.specs.Resources.{HasResourceData, IsResourceOf}
use Rattle.volume_links.specs.Wanting.{KindFitsNow}
use Rattle.volume_links.specs.declared.resources.Resource.{Resource}
use Rattle.volume_links.proofs.Weighed.{is_file, put_cost, put_is}

-- what was put, of a fork
abbrev pub put_of : Resource → ℕ → ℕ → Put
put_of fork from long = record { id = fork.id; old_size = fork.size; from = from; end = from + long }

-- where it is put
pub at_is : (tree : PlainTree) (path : List (List ℕ)) (from : ℕ) (value : List ℕ) (fork : Resource) (it : IsResourceOf tree path from value fork) → IsAt (data_as (put_of fork from (length value))) (length it.file.resource) from (from + length value)
at_is tree path from value fork it = record { size_is = sym it.size; new_is = ap (λ n. max n (from + length value)) (sym it.size); end_is = refl; place = ap (λ n. min from n) (sym it.size) }

not_empty : (value : List ℕ) → 0 < length value → (length value == 0) ≡ false
not_empty value some = ne_eqb (length value) 0 (λ same. absurd (omega (arith, some, same)))

-- data is met where no cut goes first, and what the command costs now fits without growth
pub resource_met : (v : Volume) (a : Space) (path : List (List ℕ)) (from : ℕ) (value : List ℕ) (fork : Resource) → IsResourceOf (tree_of a.content) path from value fork → 0 < length value
    → needs_cut_in resource_kind (volume_of a.content) (kind_data_of (tree_of a.content) (edit.ResourceWrite path from value)) ≡ false → KindFitsNow (0 ∷ 0 ∷ 0 ∷ []) v a (edit.ResourceWrite path from value)
    → is_data_met_in resource_kind v a.spare (volume_of a.content) (Some (data_as (put_of fork from (length value)))) ≡ true
resource_met v a path from value fork it some uncut fits =
    let is = put_is (tree_of a.content) path from value fork it (not_empty value some) (put_of fork from (length value)) refl refl refl refl in
    let no_cut = ap (needs_cut_in resource_kind (volume_of a.content)) (sym is) ∙ uncut in
    let costs = sym (put_cost (tree_of a.content) path from value fork it (not_empty value some) (put_of fork from (length value)) refl refl refl refl (capacity_of v) (takable_of v) (volume_of a.content) no_cut) ∙ fits.costs in
    (λ i. not (no_cut i) && is_met_extents (costs i) a.spare) ∙ le-leb fits.load a.spare fits.within

module _ (v w : Volume) (a : Space) (after : Content) (holds : StandsOver v a) (tells : IsTrue a.tells) (settled : IsSettled v a.content) (path : List (List ℕ)) (from : ℕ) (value : List ℕ) (fork : Resource)
    (it : IsResourceOf (tree_of a.content) path from value fork) (some : 0 < length value) (puts : PutsAt resource_kind fork.id from value v w a.content after)
  where
    node_there : Contains (tree_of a.content).nodes it.file × (it.file.folder ≡ false)
    node_there = is_file (tree_of a.content) path from value fork it

    puts_there : PutsAt resource_kind it.file.id from value v w a.content after
    puts_there = subst (λ id. PutsAt resource_kind id from value v w a.content after) (sym it.id) puts

    abbrev Does : ℕ → Type 0
    Does id =
        (does : RewritesFork id resource_kind (first_of v.header.block_size puts.file.resource_fork.logical_size from) (old_end v.header.block_size puts.file.resource_fork.logical_size (from + length value) - first_of v.header.block_size puts.file.resource_fork.logical_size from) puts.puts.fresh (volume_of a.content) puts.puts.lists)
        × MakesBytes (written_bytes from value) does (bytes_in a.content) (bytes_in after)

    written_now : Does it.file.id
    written_now = subst Does (puts.number ∙ sym it.id) (puts.puts.rewrites, puts.puts.makes)

    -- its line isn't one on the volume's own names, so the step of the command is what it is told
    told_step : (kind_told (tree_of a.content) (edit.ResourceWrite path from value)).1 ≡ (kind_step (tree_of a.content) (edit.ResourceWrite path from value)).1
    told_step = ap (λ b. (if b then (reply.No refusal.Private, tree_of a.content) else kind_step (tree_of a.content) (edit.ResourceWrite path from value)).1) it.not_own

    pub resource_done : ResourceWriteDoes → IsSettled w after × (tree_of after ≡ (kind_told (tree_of a.content) (edit.ResourceWrite path from value)).1)
    unfolding tree_of
    resource_done law =
        let does = law path from value it.file (first_of v.header.block_size puts.file.resource_fork.logical_size from) (old_end v.header.block_size puts.file.resource_fork.logical_size (from + length value) - first_of v.header.block_size puts.file.resource_fork.logical_size from)
        puts.puts.fresh (volume_of a.content) puts.puts.lists (bytes_in a.content) (bytes_in after) (file_bytes_are after) settled.sound some it.allowed written_now.0 written_now.1 in
        (puts.puts.settles does.0, puts.puts.tree ∙ does.1 ∙ sym told_step)

    pub resource_lists : needs_cut_in resource_kind (volume_of a.content) (Some (data_as (put_of fork from (length value)))) ≡ false → RewritePuts → HasResourceData (edit.ResourceWrite path from value) a.content after
    resource_lists no_cut law = record {
      put = data_as (put_of fork from (length value));
      is_asked = put_is (tree_of a.content) path from value fork it (not_empty value some) (put_of fork from (length value)) refl refl refl refl;
      no_cut = no_cut;
      fresh = puts_there.puts.fresh;
      rewrites = rewritten resource_kind (inr refl) v w a after holds tells settled it.file node_there.0 node_there.1 from value puts_there (data_as (put_of fork from (length value))) (sym it.id) (at_is (tree_of a.content) path from value fork it);
      forks = forks_put resource_kind (inr refl) v w a after holds tells settled it.file node_there.0 node_there.1 from value puts_there (data_as (put_of fork from (length value))) (sym it.id) (at_is (tree_of a.content) path from value fork it) law;
      user = user_put resource_kind (inr refl) v w a after holds tells settled it.file node_there.0 node_there.1 from value puts_there (data_as (put_of fork from (length value))) (sym it.id) (at_is (tree_of a.content) path from value fork it);
    }
