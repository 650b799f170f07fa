-- A volume behind a keep: it stands over its space as before, and no sector of its bitmap counts as changed.
use Rattle.std.proofs.Common.{◌≡◌, ◌⊎◌, inl, inr, ℕ, Bool, IsTrue, List, length, refl, sym, ◌∙◌, ap, subst, ⊎_elim}
use Rattle.std.specs.Prelude.{false, Result, Ok, Err, OnOk}
use Rattle.std.proofs.lemmas.List.{length-replicate}
use Rattle.sector_disk.specs.Lists.{Content}
use Rattle.sector_disk.specs.Space.{Space}
use Rattle.flag_rows.specs.Bits.{sectors_for}
use Rattle.alloc_bitmap.specs.Map.{none}
use Rattle.hx_bytes.specs.declared.extents.ForkRecord.{ForkRecord}
use Rattle.btree_file.specs.declared.tree.TreeFile.{TreeFile}
use Rattle.volume_space.specs.Growing.{CountsHaveRoom, GrowthFits, IsOwnOrFree, growth_room}
use Rattle.volume_space.specs.SpreadGrowth.{SpreadFits, SpreadGrowthFits, growth_room_spread}
use Rattle.volume_space.specs.declared.ahead.WhichTree.{WhichTree}
use Rattle.volume_space.specs.declared.ahead.WhichTree.TheVariants as which
use Rattle.volume_base.specs.Keeping.{Keeps}
use Rattle.volume_base.specs.Lists.{lists_of}
use Rattle.volume_base.specs.Service.{IsInService}
use Rattle.volume_base.specs.Holding.{HoldsOn}
use Rattle.volume_base.specs.Standing.{IsSettled, IsStanding, StandsOver}
use Rattle.volume_base.specs.Touching.{Touches}
use Rattle.volume_base.specs.declared.volume.Kept.{Kept}
use Rattle.volume_base.specs.declared.volume.Volume.{Volume}
use Rattle.volume_base.proofs.KeptMarks.{as_marked, is_marked, marked}

-- the counts that a growth raises have room whatever the marks are
counts_marked : (more : ℕ) (file : TreeFile) (fork : ForkRecord) (changed used held : List Bool) (kept : Kept) (v : Volume) → CountsHaveRoom more file fork v → CountsHaveRoom more file fork (marked changed used held kept v)
counts_marked more file fork changed used held kept v it = record { least = it.least; most = it.most; whole = it.whole; extents = it.extents; nodes = it.nodes; blocks = it.blocks; bytes = it.bytes; counted = it.counted }

module _ (v w : Volume) (keeps : Keeps v w) where
  pub free_kept : (s : ℕ) → IsOwnOrFree w s → IsOwnOrFree v s
  free_kept s is = back (subst (λ (u : Volume). IsOwnOrFree u s) (sym (is_marked v w keeps)) is)
    where
      back : IsOwnOrFree (marked w.map.changed w.map.kept_used w.map.kept_held w.kept v) s → IsOwnOrFree v s
      back it = it

  -- a growth fits as it did, and puts as much
  pub fits_kept : (tree : WhichTree) (more : ℕ) (space : Space) → GrowthFits tree more v space → GrowthFits tree more w space
  fits_kept tree more space fits = subst (λ (u : Volume). GrowthFits tree more u space) (is_marked v w keeps) (by tree fits)
    where
      by : (t : WhichTree) → GrowthFits t more v space → GrowthFits t more (as_marked v w keeps) space
      by which.Extents it = (it.0, record { some = it.1.some; run = it.1.run; counts = counts_marked more _ _ w.map.changed w.map.kept_used w.map.kept_held w.kept v it.1.counts; room = it.1.room })
      by which.Catalog it = (it.0, record { some = it.1.some; run = it.1.run; counts = counts_marked more _ _ w.map.changed w.map.kept_used w.map.kept_held w.kept v it.1.counts; room = it.1.room })
      by which.Attributes it = (it.0, record { some = it.1.some; run = it.1.run; counts = counts_marked more _ _ w.map.changed w.map.kept_used w.map.kept_held w.kept v it.1.counts; room = it.1.room })

  pub spread_kept : (tree : WhichTree) (more : ℕ) (space : Space) → SpreadGrowthFits tree more v space → SpreadGrowthFits tree more w space
  spread_kept tree more space fits = subst (λ (u : Volume). SpreadGrowthFits tree more u space) (is_marked v w keeps) (by tree fits)
    where
      marked_fits : (file : TreeFile) (fork : ForkRecord) → SpreadFits more file fork v space → SpreadFits more file fork (as_marked v w keeps) space
      marked_fits file fork it = record {
        some = it.some;
        run = it.run;
        counts = record { least = it.counts.least; most = it.counts.most; whole = it.counts.whole; nodes = it.counts.nodes; blocks = it.counts.blocks; bytes = it.counts.bytes; counted = it.counts.counted };
        room = it.room;
        edit = it.edit;
      }

      by : (t : WhichTree) → SpreadGrowthFits t more v space → SpreadGrowthFits t more (as_marked v w keeps) space
      by which.Extents it = (it.0, record { some = it.1.some; run = it.1.run; counts = counts_marked more _ _ w.map.changed w.map.kept_used w.map.kept_held w.kept v it.1.counts; room = it.1.room })
      by which.Catalog it = marked_fits v.catalog.file v.header.catalog_fork it
      by which.Attributes it = (it.0, marked_fits v.attributes.file v.header.attributes_fork it.1)

  pub load_kept : (tree : WhichTree) (more : ℕ) → growth_room tree more w ≡ growth_room tree more v
  load_kept tree more = ap (λ (u : Volume). growth_room tree more u) (sym (is_marked v w keeps)) ∙ by tree
    where
      by : (t : WhichTree) → growth_room t more (as_marked v w keeps) ≡ growth_room t more v
      by which.Extents = refl
      by which.Catalog = refl
      by which.Attributes = refl

  pub load_kept_spread : (tree : WhichTree) (more : ℕ) → growth_room_spread tree more w ≡ growth_room_spread tree more v
  load_kept_spread tree more = ap (λ (u : Volume). growth_room_spread tree more u) (sym (is_marked v w keeps)) ∙ by tree
    where
      by : (t : WhichTree) → growth_room_spread t more (as_marked v w keeps) ≡ growth_room_spread t more v
      by which.Extents = refl
      by which.Catalog = refl
      by which.Attributes = refl

-- what touches these sectors touches those, where these are among them
pub touches_those : (committed : Content) (these those : ℕ → Type 0) (a b : Space) → (IsTrue a.tells → (s : ℕ) → these s → those s) → Touches committed these a b → Touches committed those a b
touches_those committed these those a b wider was = record {
  same = was.same;
  durable = was.durable;
  spilled = was.spilled;
  still = was.still;
  live = λ tells s l. ⊎_elim (λ before. inl before) (λ here. inr (wider tells s here)) (was.live tells s l);
  closed = was.closed;
  still_put = was.still_put;
  spare = was.spare;
  faults = was.faults;
  time = was.time;
}

-- what is said of an answer, from what else is said of it
pub on_ok : {T E P Q : Type 0} → (P → Q) → (r : Result T E) → OnOk r P → OnOk r Q
on_ok step (Ok x) is = step is
on_ok step (Err why) is = tt
