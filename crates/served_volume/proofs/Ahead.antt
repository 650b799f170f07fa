-- What goes ahead of a command, over contents that are alike.
use Rattle.std.proofs.Common.{◌≡◌, ◌⊎◌, ◌<◌, ◌+◌, ⊎_elim, ℕ, List, false, inl, inr, refl, sym, ◌∙◌, ap, subst}
use Rattle.std.specs.Prelude.{Option, Some, slice_index}
use Rattle.jnl_format.specs.Recovery.{Content}
use Rattle.hfs_language.specs.declared.command.Command.{Command}
use Rattle.hfs_model.specs.declared.kinds.KindEdit.{KindEdit}
use Rattle.hfs_model.specs.declared.plain.PlainTree.{PlainTree}
use Rattle.hfs_volume.specs.Asked.{asked_needs_cut, asked_weight, data_asked, is_refused}
use Rattle.hfs_volume.specs.Content.{VolumeState, volume_of}
use Rattle.hfs_volume.specs.Reclaim.{CutsAlone, GrowsTrees, KeepsTree, SameFiles, SameValues, blocks_wanted, first_growth}
use Rattle.hfs_volume.specs.TreeOf.{tree_of}
use Rattle.hfs_volume.specs.Weight.{cut_cost, free_blocks, room_with}
use Rattle.hfs_volume.specs.declared.asked.Asked.{Asked}
use Rattle.hfs_volume.specs.declared.asked.Asked.TheVariants.{Kind, Plain}
use Rattle.hfs_volume.specs.declared.cost.Cost.TheVariants as cost
use Rattle.volume_runs.specs.Kinds.{KindCutsFirst, KindFillsFirst, KindGrowsFirst}
use Rattle.volume_runs.specs.Rest.{CutsFor, FillsFor, GrowsFor, file_written}
use Rattle.volume_step.specs.Steps.{CutsFirst, FillsFirst, GrowsFirst}
use Rattle.served_volume.specs.Answering.{GoesAhead}
use Rattle.served_volume.specs.Knowing.{IsAlike}

-- trees have to grow ahead of it: the first of them has grown
pub record GrowsAhead (capacity : ℕ) (asked : Asked) (before after : Content) : Type 0 where
  pub no_refusal : is_refused (tree_of before) asked ≡ false
  pub load : ℕ
  pub grow : List ℕ
  pub affords : asked_weight capacity (volume_of before) (tree_of before) asked ≡ cost.Load load grow
  pub some : 0 < slice_index grow 0 + slice_index grow 1 + slice_index grow 2
  pub grows : GrowsTrees (first_growth grow) (volume_of before) (volume_of after)
  pub files : SameFiles (volume_of before) (volume_of after)
  pub values : SameValues (volume_of before) (volume_of after)
  pub keeps : KeepsTree before after

-- one of these went ahead of what was asked for, whatever it was
abbrev pub Ahead : ℕ → Asked → Content → Content → Type 0
Ahead capacity asked before after = CutsFor capacity (Some asked) before after ⊎ (GrowsAhead capacity asked before after ⊎ FillsFor capacity (Some asked) before after)

module _ (capacity : ℕ) (before after : Content) where
  plain_cuts : (asked : Command) → CutsFirst capacity asked before after → CutsFor capacity (Some (Plain asked)) before after
  plain_cuts asked was = record { own = Plain asked; is_own = refl; no_refusal = was.no_refusal; needs = was.needs; cuts = was.cuts; file = was.file; fork = was.fork }

  plain_grows : (asked : Command) → GrowsFirst capacity asked before after → GrowsAhead capacity (Plain asked) before after
  plain_grows asked was = record { no_refusal = was.no_refusal; load = was.load; grow = was.grow; affords = was.affords; some = was.some; grows = was.grows; files = was.files; values = was.values; keeps = was.keeps }

  plain_fills : (asked : Command) → FillsFirst capacity asked before after → FillsFor capacity (Some (Plain asked)) before after
  plain_fills asked was = record { own = Plain asked; is_own = refl; no_refusal = was.no_refusal; no_surplus = was.no_surplus; load = was.load; affords = was.affords; many = was.many; fills = was.fills }

  kind_cuts : (asked : KindEdit) → KindCutsFirst capacity asked before after → CutsFor capacity (Some (Kind asked)) before after
  kind_cuts asked was = record { own = Kind asked; is_own = refl; no_refusal = was.no_refusal; needs = was.needs; cuts = was.cuts; file = was.file; fork = was.fork }

  kind_grows : (asked : KindEdit) → KindGrowsFirst capacity asked before after → GrowsAhead capacity (Kind asked) before after
  kind_grows asked was = record { no_refusal = was.no_refusal; load = was.load; grow = was.grow; affords = was.affords; some = was.some; grows = was.grows; files = was.files; values = was.values; keeps = was.keeps }

  kind_fills : (asked : KindEdit) → KindFillsFirst capacity asked before after → FillsFor capacity (Some (Kind asked)) before after
  kind_fills asked was = record { own = Kind asked; is_own = refl; no_refusal = was.no_refusal; no_surplus = was.no_surplus; load = was.load; affords = was.affords; many = was.many; fills = was.fills }

  pub ahead : (asked : Asked) → GoesAhead capacity asked before after → Ahead capacity asked before after
  ahead (Plain asked) goes = ⊎_elim (λ cuts. inl (plain_cuts asked cuts)) (λ more. inr (⊎_elim (λ grows. inl (plain_grows asked grows)) (λ fills. inr (plain_fills asked fills)) more)) goes
  ahead (Kind asked) goes = ⊎_elim (λ cuts. inl (kind_cuts asked cuts)) (λ more. inr (⊎_elim (λ grows. inl (kind_grows asked grows)) (λ fills. inr (kind_fills asked fills)) more)) goes

module _ (capacity : ℕ) (wanted : Option Asked) (asked : Asked) (is : wanted ≡ Some asked) (now next before after : Content) (one : IsAlike now before) (two : IsAlike next after) where
  -- contents that are alike have the same cut
  pub cuts_alike : CutsFor capacity (Some asked) before after → CutsFor capacity wanted now next
  cuts_alike was =
      let cut = was.cuts in
      record {
        own = was.own;
        is_own = is ∙ was.is_own;
        no_refusal = ap (λ (t : PlainTree). is_refused t was.own) one.tree ∙ was.no_refusal;
        needs = (λ i. asked_needs_cut (one.lists i) (one.tree i) was.own) ∙ was.needs;
        cuts = record {
          id = cut.id;
          load = cut.load;
          grow = cut.grow;
          kind = cut.kind;
          affords = ap (λ (l : VolumeState). cut_cost (room_with capacity (free_blocks l) l)) one.lists ∙ cut.affords;
          cuts = subst (λ (k : VolumeState × VolumeState). CutsAlone cut.id cut.kind (blocks_wanted k.0 cut.id cut.kind) k.0 k.1) {x = (volume_of before, volume_of after)} {y = (volume_of now, volume_of next)} (λ i. (sym one.lists i, sym two.lists i)) cut.cuts;
          keeps = record { sound = two.sound; tree = two.tree ∙ cut.keeps.tree ∙ sym one.tree };
        };
        file = ap (λ (t : PlainTree). file_written (data_asked t was.own)) one.tree ∙ was.file;
        fork = was.fork;
      }

  -- and the same growth of a tree
  pub grows_alike : (shrunk : Option ℕ) → GrowsAhead capacity asked before after → GrowsFor capacity shrunk wanted now next
  grows_alike shrunk was = record {
    grows = record {
      grow = was.grow;
      wanted = inl (record {
        asked = asked;
        no_refusal = ap (λ (t : PlainTree). is_refused t asked) one.tree ∙ was.no_refusal;
        load = was.load;
        affords = (λ i. asked_weight capacity (one.lists i) (one.tree i) asked) ∙ was.affords;
      });
      some = was.some;
      grows = subst (λ (k : VolumeState × VolumeState). GrowsTrees (first_growth was.grow) k.0 k.1) {x = (volume_of before, volume_of after)} {y = (volume_of now, volume_of next)} (λ i. (sym one.lists i, sym two.lists i)) was.grows;
      files = subst (λ (k : VolumeState × VolumeState). SameFiles k.0 k.1) {x = (volume_of before, volume_of after)} {y = (volume_of now, volume_of next)} (λ i. (sym one.lists i, sym two.lists i)) was.files;
      values = subst (λ (k : VolumeState × VolumeState). SameValues k.0 k.1) {x = (volume_of before, volume_of after)} {y = (volume_of now, volume_of next)} (λ i. (sym one.lists i, sym two.lists i)) was.values;
      keeps = record { sound = two.sound; tree = two.tree ∙ was.keeps.tree ∙ sym one.tree };
    };
    own = is;
  }
