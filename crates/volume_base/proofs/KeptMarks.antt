-- A volume behind a keep: it stands over its space as before, and no sector of its bitmap counts as changed.
use Rattle.std.proofs.Common.{◌≡◌, ◌∷◌, ◌++◌, ℕ, Bool, IsTrue, List, [], length, refl, sym, ◌∙◌, ap, subst}
use Rattle.std.specs.Prelude.{false, Result, OnOk, if◌then◌else◌}
use Rattle.std.specs.List.{Contains}
use Rattle.std.proofs.lemmas.List.{length-replicate}
use Rattle.sector_disk.specs.Lists.{Content}
use Rattle.sector_disk.specs.Space.{Space}
use Rattle.flag_rows.specs.Bits.{sectors_for}
use Rattle.fork_map.specs.Blocks.{fork_sectors}
use Rattle.alloc_bitmap.specs.Map.{none}
use Rattle.btree_file.specs.State.{sectors_of_tree}
use Rattle.hfs_volume.specs.Content.{has_attributes}
use Rattle.hx_bytes.specs.declared.faults.Trouble.{Trouble}
use Rattle.volume_base.specs.Frame.{Frees, Ran, Serves}
use Rattle.volume_base.specs.Keeping.{Keeps}
use Rattle.volume_base.specs.Lists.{lists_of}
use Rattle.volume_base.specs.Service.{IsInService}
use Rattle.volume_base.specs.Holding.{HoldsOn, KeepsUsed}
use Rattle.volume_base.specs.Standing.{IsSettled, IsStanding, StandsOver, own_sectors}
use Rattle.volume_base.specs.Touching.{Touches}
use Rattle.volume_base.specs.declared.volume.Kept.{Kept}
use Rattle.volume_base.specs.declared.volume.Volume.{Volume}
use Rattle.volume_base.proofs.KeptUsed.{used_both}

-- a volume with other marks of what was changed, and with another state for an undo
abbrev pub marked : List Bool → List Bool → List Bool → Kept → Volume → Volume
marked changed used held kept v = record v { map = record v.map { changed = changed; kept_used = used; kept_held = held }; kept = kept }

module _ (changed used held : List Bool) (kept : Kept) (v : Volume) (space : Space) where
  service_marked : length changed ≡ length v.map.changed → IsInService v space → IsInService (marked changed used held kept v) space
  service_marked long was = record {
    extents = was.extents;
    catalog = was.catalog;
    attributes = was.attributes;
    fits = was.fits;
    least = was.least;
    most = was.most;
    map_inside = was.map_inside;
    map_long = was.map_long;
    marks = long ∙ was.marks;
  }

  standing_marked : IsStanding v space → IsStanding (marked changed used held kept v) space
  standing_marked here = record {
    trees = record { extents = here.trees.extents; catalog = here.trees.catalog; compare = here.trees.compare; attributes = here.trees.attributes };
    forks = record {
      extents = here.forks.extents;
      extents_per = here.forks.extents_per;
      catalog = here.forks.catalog;
      catalog_per = here.forks.catalog_per;
      attributes = here.forks.attributes;
      attributes_per = here.forks.attributes_per;
      map = here.forks.map;
      map_per = here.forks.map_per;
    };
    whole = here.whole;
    apart = here.apart;
    blocks = here.blocks;
    closed = here.closed;
    aside = here.aside;
    large = here.large;
    inside = here.inside;
    fit = here.fit;
    live = here.live;
  }

  settled_marked : (content : Content) → IsSettled v content → IsSettled (marked changed used held kept v) content
  settled_marked content was = record { blocks = was.blocks; lists = was.lists; attributes = was.attributes; sound = was.sound; private = was.private }

module _ (v w : Volume) (keeps : Keeps v w) where
  abbrev pub as_marked : Volume
  as_marked = marked w.map.changed w.map.kept_used w.map.kept_held w.kept v

  pub is_marked : marked w.map.changed w.map.kept_used w.map.kept_held w.kept v ≡ w
  is_marked = λ i. record {
    header = sym keeps.same.header i;
    map = record w.map { used = sym keeps.same.used i; held = sym keeps.held i; fork = sym keeps.same.fork i; per_block = sym keeps.same.per_block i };
    extents = sym keeps.same.extents i;
    catalog = sym keeps.same.catalog i;
    attributes = sym keeps.same.attributes i;
    private = sym keeps.same.private i;
    shrunk = sym keeps.same.shrunk i;
    capacity = sym keeps.same.capacity i;
    kept = w.kept;
    filling = sym keeps.filling i;
  }

  -- its lists
  pub lists_kept : (content : Content) → lists_of w content ≡ lists_of v content
  lists_kept content = ap (λ (u : Volume). lists_of u content) (sym is_marked)

  marks_kept : (space : Space) → IsInService v space → w.map.changed ≡ none (sectors_for (length v.map.used))
  marks_kept space was = keeps.changed ∙ ap none was.marks

  pub unchanged_kept : (space : Space) → IsInService v space → w.map.changed ≡ none (sectors_for (length w.map.used))
  unchanged_kept space was = marks_kept space was ∙ ap (λ (l : List Bool). none (sectors_for (length l))) (sym keeps.same.used)

  pub service_kept : (space : Space) → IsInService v space → IsInService w space
  service_kept space was = subst (λ (u : Volume). IsInService u space) is_marked (service_marked w.map.changed w.map.kept_used w.map.kept_held w.kept v space (long space was) was)
    where
      long : (s : Space) → IsInService v s → length w.map.changed ≡ length v.map.changed
      long s is = ap (λ (l : List Bool). length l) keeps.changed ∙ length-replicate (length v.map.changed) false

  pub stands_kept : (space : Space) → StandsOver v space → StandsOver w space
  stands_kept space was = record {
    service = service_kept space was.service;
    stands = λ tells. subst (λ (u : Volume). IsStanding u space) is_marked (standing_marked w.map.changed w.map.kept_used w.map.kept_held w.kept v space (was.stands tells));
  }

  pub settled_kept : (space : Space) → IsSettled v space.content → IsSettled w space.content
  settled_kept space was = subst (λ (u : Volume). IsSettled u space.content) is_marked (settled_marked w.map.changed w.map.kept_used w.map.kept_held w.kept v space space.content was)

  pub holds_kept : (committed : Content) → HoldsOn committed v → HoldsOn committed w
  holds_kept committed was = subst (λ (u : Volume). HoldsOn committed u) is_marked (was.0, λ block set. was.1 block set)

  pub serves_kept : (space : Space) → Serves v space → Serves w space
  serves_kept space was = record { stands = stands_kept space was.stands; settled = λ tells. settled_kept space (was.settled tells) }

  pub own_kept : own_sectors w ≡ own_sectors v
  own_kept = λ i. 2 ∷ sectors_of_tree (keeps.same.extents i).file ++ (sectors_of_tree (keeps.same.catalog i).file ++ ((if has_attributes (keeps.same.header i) then sectors_of_tree (keeps.same.attributes i).file else []) ++ fork_sectors (keeps.same.fork i) (keeps.same.per_block i)))

  pub used_kept : KeepsUsed v w
  used_kept = record { holds = λ committed was. holds_kept committed was; shrunk = keeps.same.shrunk; capacity = keeps.same.capacity }

  module _ {S T : Type 0} {space_of : S → Space} {follows : S → S → Type 0} {x : Volume} {a b : S} {r : Result T Trouble} where
    -- what a call behind it did is what was done before it
    pub ran_kept : {most : ℕ} → Ran space_of follows (λ s. Contains (own_sectors w) s) most x a b r → Ran space_of follows (λ s. Contains (own_sectors v) s) most x a b r
    ran_kept {most} was = record {
      below = was.below;
      cause = was.cause;
      service = was.service;
      stands = was.stands;
      touches = λ committed. subst (λ (l : List ℕ). Touches committed (λ s. Contains l s) (space_of a) (space_of b)) own_kept (was.touches committed);
      spent = was.spent;
    }

    pub frees_kept : Frees space_of follows w x a b r → Frees space_of follows v x a b r
    frees_kept was = record { ran = ran_kept was.ran; used = used_both v w x used_kept was.used }
