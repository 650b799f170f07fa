-- The load of edits of the catalog, by what they cost.
use Rattle.std.proofs.Common.{◌≡◌, ◌<◌, ◌≤◌, ℕ, ◌+◌, ◌*◌, ◌^◌, true, false, not, sym, ◌∙◌, ap, subst, arith}
use Rattle.std.specs.Prelude.{◌==◌, ◌&&◌, ◌||◌, nat_le, nat_lt, IsTrue}
use Rattle.std.proofs.lemmas.Bool.{ltb-false, ne_eqb}
use Rattle.sector_disk.specs.Space.{Space}
use Rattle.hfs_volume.specs.Content.{volume_of}
use Rattle.hfs_volume.specs.Cost.{catalog_key, cost_of, depth_of, is_too_deep, rises}
use Rattle.hfs_volume.specs.Weight.{room_with}
use Rattle.hfs_volume.specs.declared.cost.TreeCost.{TreeCost}
use Rattle.tree_weights.specs.Weights.{LoadIsOfParts, LoadSaysEnough}
use Rattle.volume_base.specs.Changing.{catalog_node}
use Rattle.volume_base.specs.Fitting.{is_met}
use Rattle.volume_base.specs.Making.{catalog_cost}
use Rattle.volume_base.specs.Room.{capacity_of, free_in}
use Rattle.volume_base.specs.declared.room.FreeBlocks.TheVariants as blocks
use Rattle.volume_base.specs.Standing.{IsSettled}
use Rattle.volume_base.specs.Weighing.{needs_asked}
use Rattle.volume_base.specs.declared.volume.Volume.{Volume}
use Rattle.volume_base.specs.declared.weighing.Edits.{Edits}
use Rattle.volume_base.proofs.Fitted.{catalog}
use Rattle.volume_base.proofs.MakeRoom.{third_low}
use Rattle.volume_names.specs.EditsLeft.{HasLoadFor}

module _ (says : LoadSaysEnough) (of_parts : LoadIsOfParts) (v : Volume) (a : Space) (settled : IsTrue a.tells → IsSettled v a.content) where
  abbrev Meets : Edits → Type 0
  Meets asked = IsTrue a.tells → is_met (cost_of (needs_asked asked) (room_with (capacity_of v) (free_in blocks.Takable v.map) (volume_of a.content))) a.spare ≡ true

  -- a tree that isn't too deep for some edits has fewer records than fit
  few_records : (edits : ℕ) (tree : TreeCost) → (edits == 0) ≡ false → is_too_deep catalog_key tree edits ≡ false → tree.records < 2 ^ 32
  few_records edits tree some is =
      let low = nat_le 8 tree.depth in
      let high = nat_lt 11 (depth_of tree + 1 + rises catalog_key tree edits) in
      let full = nat_lt 4294967295 (tree.records + edits) in
      omega (arith, ltb-false 4294967295 (tree.records + edits) (third_low low high full (sym (ap (λ none. not none && (low || high || full)) some) ∙ is)))

  -- the load has room beside the header's sector and the nodes of the updates
  pub load_fits : (asked : Edits) (beside : ℕ) → (asked.catalog == 0) ≡ false → (IsTrue a.tells → beside ≤ 1 + asked.updates * catalog_node v) → Meets asked → HasLoadFor asked.catalog beside v a
  load_fits asked beside some fits ok = record {
    shallow = λ tells. (catalog says of_parts v a (settled tells) asked (ok tells)).shallow;
    records = λ tells. few_records asked.catalog (catalog_cost v) some (catalog says of_parts v a (settled tells) asked (ok tells)).shallow;
    grown = λ tells. (catalog says of_parts v a (settled tells) asked (ok tells)).none;
    load = λ tells. omega (arith, (catalog says of_parts v a (settled tells) asked (ok tells)).load, fits tells);
  }

  -- the same of three edits more than a number, and six updates
  pub replace_fits : (asked : Edits) (edits : ℕ) → asked.catalog ≡ edits + 3 → asked.updates ≡ 6 → Meets asked → HasLoadFor (edits + 3) (1 + 6 * catalog_node v) v a
  replace_fits asked edits same updates ok =
      subst (λ n. HasLoadFor n (1 + 6 * catalog_node v) v a) same
      (load_fits asked (1 + 6 * catalog_node v) (ne_eqb asked.catalog 0 (λ none. absurd (omega (arith, same, none)))) (λ tells. omega (arith, ap (λ n. n * catalog_node v) updates)) ok)
