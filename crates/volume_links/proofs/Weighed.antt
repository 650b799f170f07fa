-- What `rwrite` weighs, by the data that it puts.
use Rattle.std.proofs.Common.{◌≡◌, ◌<◌, ℕ, ◌+◌, ◌-◌, ◌/◌, max, Bool, true, false, List, length, refl, sym, ◌∙◌, ap, arith}
use Rattle.std.specs.Prelude.{◌==◌, ◌||◌, nat_lt, is_some, Contains, Option, None, Some, Ok, if◌then◌else◌}
use Rattle.std.proofs.lemmas.Bool.{ltb-false, ltb-true, ne_eqb, true≢false}
use Rattle.sector_disk.specs.Lists.{Content}
use Rattle.hfs_language.specs.declared.refusal.Refusal.{Refusal}
use Rattle.hfs_language.specs.declared.refusal.Refusal.TheVariants as refusal
use Rattle.hfs_language.specs.declared.reply.Reply.TheVariants as reply
use Rattle.hfs_model.specs.Kinds.{kind_refuses, kind_told, resource_written}
use Rattle.hfs_model.specs.Step.{Step, is_refusal, most_bytes, most_size, size_written, to_file, unless}
use Rattle.hfs_model.specs.declared.kinds.KindEdit.TheVariants as edit
use Rattle.hfs_model.specs.declared.plain.PlainNode.{PlainNode}
use Rattle.hfs_model.specs.declared.plain.PlainTree.{PlainTree}
use Rattle.hfs_volume.specs.Content.{VolumeState, volume_of}
use Rattle.hfs_volume.specs.Cost.{cost_of}
use Rattle.hfs_volume.specs.Forks.{resource_kind}
use Rattle.hfs_volume.specs.KindWeight.{kind_data_of, kind_weight, kind_weight_with, kind_zero_blocks, resource_data}
use Rattle.hfs_volume.specs.TreeOf.{tree_of}
use Rattle.hfs_volume.specs.Weight.{Data, cut_cost, edits, free_blocks, needs_cut_in, needs_in, room_with, zeros_before_value}
use Rattle.hfs_volume.proofs.Reaching.{then_ok, unless_ok}
use Rattle.volume_base.specs.DataWeighing.{data_as, data_weighed_in, needs_data_in}
use Rattle.volume_base.specs.Weighing.{edits_weighed, joined, refused_or}
use Rattle.volume_base.specs.declared.data_cost.Put.{Put}
use Rattle.volume_base.specs.declared.weighing.Weight.{Weight}
use Rattle.volume_base.specs.declared.weighing.Weight.TheVariants as answer
use Rattle.volume_base.proofs.DataCommands.{about_file}
use Rattle.file_io.specs.Places.{blocks_for}
use Rattle.volume_space.proofs.PutNumbers.{parts_are}
use Rattle.volume_links.specs.Resources.{IsResourceOf}
use Rattle.volume_links.specs.Steps.{KindWaitsForCut, kind_weighed}
use Rattle.volume_links.specs.declared.resources.Resource.{Resource}
use Rattle.volume_links.proofs.FoundForks.{told_done}

module _ (tree : PlainTree) (path : List (List ℕ)) (from : ℕ) (value : List ℕ) where
  -- a refusal is what it weighs
  pub weighs_refused : (capacity : ℕ) (takable : List Bool) (volume : VolumeState) (why : Refusal) → kind_told tree (edit.ResourceWrite path from value) ≡ (reply.No why, tree) → answer.Refused why ≡ kind_weighed capacity takable volume tree (edit.ResourceWrite path from value)
  weighs_refused capacity takable volume why is =
      sym (ap (λ (s : Step). refused_or s.0 (joined (kind_weight capacity volume tree (edit.ResourceWrite path from value)) (kind_weight_with capacity takable volume tree (edit.ResourceWrite path from value)))) is)

  -- what is refused waits for no cut
  pub refused_waits : (content : Content) → tree ≡ tree_of content → (why : Refusal) → kind_told tree (edit.ResourceWrite path from value) ≡ (reply.No why, tree) → KindWaitsForCut content (edit.ResourceWrite path from value) → ⊥
  refused_waits content same why is waits = true≢false (sym (ap (λ (s : Step). is_refusal s.0) is) ∙ ap (λ (t : PlainTree). kind_refuses t (edit.ResourceWrite path from value)) same ∙ waits.0)

  module _ (fork : Resource) (it : IsResourceOf tree path from value fork) where
    line : kind_told tree (edit.ResourceWrite path from value) ≡ (reply.Ok, resource_written it.file from value tree)
    line = told_done tree path from value it.not_own it.file it.allowed

    pub not_refused : kind_refuses tree (edit.ResourceWrite path from value) ≡ false
    not_refused = ap (λ (s : Step). is_refusal s.0) line

    -- it weighs what its data costs
    weighs_costs : (capacity : ℕ) (takable : List Bool) (volume : VolumeState)
        → joined (kind_weight capacity volume tree (edit.ResourceWrite path from value)) (kind_weight_with capacity takable volume tree (edit.ResourceWrite path from value)) ≡ kind_weighed capacity takable volume tree (edit.ResourceWrite path from value)
    weighs_costs capacity takable volume =
        sym (ap (λ (s : Step). refused_or s.0 (joined (kind_weight capacity volume tree (edit.ResourceWrite path from value)) (kind_weight_with capacity takable volume tree (edit.ResourceWrite path from value)))) line)

    -- the file that its path stands for
    pub file_is : to_file tree path ≡ Ok it.file
    file_is =
        let own = then_ok (to_file tree path) (unless (nat_lt most_size (from + length value) || nat_lt most_bytes (length value)) refusal.TooLarge) it.file it.allowed in
        own.1 ∙ ap (λ (n : PlainNode). Ok n) (unless_ok (nat_lt most_size (from + length value) || nat_lt most_bytes (length value)) refusal.TooLarge own.0 it.file own.2).1

    pub is_file : Contains tree.nodes it.file × (it.file.folder ≡ false)
    is_file = about_file tree path it.file file_is

    -- no byte
    module _ (none : (length value == 0) ≡ true) where
      no_data : kind_data_of tree (edit.ResourceWrite path from value) ≡ None
      no_data = ap (resource_data from (length value)) file_is
          ∙ ap (λ b. if b then None else Some (record { id = it.file.id; old_size = length it.file.resource; new_size = size_written (length it.file.resource) from (length value); from = from; end = from + length value })) none

      empty_cost : (capacity : ℕ) (free : List Bool) (volume : VolumeState) → kind_weight_with capacity free volume tree (edit.ResourceWrite path from value) ≡ cost_of (needs_in resource_kind free volume (edits 0 0 0 1) None) (room_with capacity free volume)
      unfolding kind_weight_with
      empty_cost capacity free volume =
          ap (λ (o : Option Data). if needs_cut_in resource_kind volume o then cut_cost (room_with capacity free volume) else cost_of (needs_in resource_kind free volume (edits 0 0 0 1) o) (room_with capacity free volume)) no_data

      pub empty_weighed : (capacity : ℕ) (takable : List Bool) (volume : VolumeState) → edits_weighed capacity takable volume (record { ids = 0; catalog = 0; attributes = 0; updates = 1 }) ≡ kind_weighed capacity takable volume tree (edit.ResourceWrite path from value)
      empty_weighed capacity takable volume = sym (λ i. joined (empty_cost capacity (free_blocks volume) volume i) (empty_cost capacity takable volume i)) ∙ weighs_costs capacity takable volume

      pub empty_waits : (content : Content) → tree ≡ tree_of content → KindWaitsForCut content (edit.ResourceWrite path from value) → ⊥
      empty_waits content same waits =
          true≢false (sym waits.1 ∙ ap (λ (t : PlainTree). needs_cut_in resource_kind (volume_of content) (kind_data_of t (edit.ResourceWrite path from value))) (sym same) ∙ ap (needs_cut_in resource_kind (volume_of content)) no_data)

    -- some bytes
    module _ (some : (length value == 0) ≡ false) (put : Put) (id : put.id ≡ fork.id) (old : put.old_size ≡ fork.size) (start : put.from ≡ from) (end : put.end ≡ from + length value) where
      put_there : ℕ → Data
      put_there size = record { id = it.file.id; old_size = length it.file.resource; new_size = size; from = from; end = from + length value }

      by_long : (b : Bool) → nat_lt (length it.file.resource) (from + length value) ≡ b → (if b then from + length value else length it.file.resource) ≡ max put.old_size put.end
      by_long true is = omega (arith, ltb-true (length it.file.resource) (from + length value) is, old, end, it.size)
      by_long false is = omega (arith, ltb-false (length it.file.resource) (from + length value) is, old, end, it.size)

      larger : size_written (length it.file.resource) from (length value) ≡ max put.old_size put.end
      larger = ap (λ b. if b then length it.file.resource else if nat_lt (length it.file.resource) (from + length value) then from + length value else length it.file.resource) some ∙ by_long (nat_lt (length it.file.resource) (from + length value)) refl

      -- the data that it puts
      pub put_is : kind_data_of tree (edit.ResourceWrite path from value) ≡ Some (data_as put)
      unfolding put_there
      put_is =
          ap (resource_data from (length value)) file_is ∙ ap (λ b. if b then None else Some (put_there (size_written (length it.file.resource) from (length value)))) some
          ∙ (λ i. Some (record { id = (it.id ∙ sym id) i; old_size = (it.size ∙ sym old) i; new_size = larger i; from = sym start i; end = sym end i }))

      pub put_cost : (capacity : ℕ) (free : List Bool) (volume : VolumeState) → needs_cut_in resource_kind volume (Some (data_as put)) ≡ false
          → kind_weight_with capacity free volume tree (edit.ResourceWrite path from value) ≡ cost_of (needs_data_in resource_kind free volume (data_as put)) (room_with capacity free volume)
      unfolding kind_weight_with
      put_cost capacity free volume no_cut =
          ap (λ (o : Option Data). if needs_cut_in resource_kind volume o then cut_cost (room_with capacity free volume) else cost_of (needs_in resource_kind free volume (edits 0 0 0 1) o) (room_with capacity free volume)) put_is
          ∙ ap (λ b. if b then cut_cost (room_with capacity free volume) else cost_of (needs_in resource_kind free volume (edits 0 0 0 1) (Some (data_as put))) (room_with capacity free volume)) no_cut

      pub put_weighed : (capacity : ℕ) (takable : List Bool) (volume : VolumeState) → needs_cut_in resource_kind volume (Some (data_as put)) ≡ false
          → data_weighed_in resource_kind capacity takable volume (data_as put) ≡ kind_weighed capacity takable volume tree (edit.ResourceWrite path from value)
      put_weighed capacity takable volume no_cut = sym (λ i. joined (put_cost capacity (free_blocks volume) volume no_cut i) (put_cost capacity takable volume no_cut i)) ∙ weighs_costs capacity takable volume

      -- where it needs a cut it waits for one
      pub put_waits : (content : Content) → tree ≡ tree_of content → needs_cut_in resource_kind (volume_of content) (Some (data_as put)) ≡ true → KindWaitsForCut content (edit.ResourceWrite path from value)
      put_waits content same needs = (
        ap (λ (t : PlainTree). kind_refuses t (edit.ResourceWrite path from value)) (sym same) ∙ not_refused,
        ap (λ (t : PlainTree). needs_cut_in resource_kind (volume_of content) (kind_data_of t (edit.ResourceWrite path from value))) (sym same) ∙ ap (needs_cut_in resource_kind (volume_of content)) put_is ∙ needs,
      )

      -- and nothing is told of it then
      pub waits_untold : (content : Content) → tree ≡ tree_of content → (said : Option Weight) → (is_some said ≡ true → needs_cut_in resource_kind (volume_of content) (Some (data_as put)) ≡ false) → KindWaitsForCut content (edit.ResourceWrite path from value) → is_some said ≡ false
      waits_untold content same said no_cut waits = by (is_some said) no_cut
        where
          needs : needs_cut_in resource_kind (volume_of content) (Some (data_as put)) ≡ true
          needs = sym (ap (λ (t : PlainTree). needs_cut_in resource_kind (volume_of content) (kind_data_of t (edit.ResourceWrite path from value))) (sym same) ∙ ap (needs_cut_in resource_kind (volume_of content)) put_is) ∙ waits.1

          by : (b : Bool) → (b ≡ true → needs_cut_in resource_kind (volume_of content) (Some (data_as put)) ≡ false) → b ≡ false
          by true none = absurd (true≢false (sym needs ∙ none refl))
          by false none = refl

  -- how many of its new blocks hold nothing but the zeros of a growth
  pub zeros_of_resource : (fork : Resource) → IsResourceOf tree path from value fork → 0 < length value → (block : ℕ) → 0 < block → kind_zero_blocks block tree (edit.ResourceWrite path from value) ≡ from / block - blocks_for block fork.size
  zeros_of_resource fork it some block large =
      ap (zeros_before_value block) (put_is fork it (ne_eqb (length value) 0 (λ same. absurd (omega (arith, some, same)))) (record { id = fork.id; old_size = fork.size; from = from; end = from + length value }) refl refl refl refl)
      ∙ ap (λ n. from / block - n) (parts_are fork.size block large)
