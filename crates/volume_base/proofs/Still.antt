-- What reads leave of a volume in service, and that its catalog can be read.
use Rattle.std.proofs.Common.{◌≡◌, ◌⊎◌, ℕ, ◌<◌, ◌≤◌, ◌*◌, ◌-◌, IsTrue, List, [], ◌∷◌, ◌++◌, length, get_or, replicate, refl, sym, ◌∙◌, ap, subst, ⊎_elim}
use Rattle.std.specs.Prelude.{Bool, true, false, not, ◌==◌, All, Contains, if◌then◌else◌}
use Rattle.std.proofs.lemmas.Bool.{eqb-true}
use Rattle.std.proofs.lemmas.List.Elements.{Contains-append_left, Contains-append_right, All-contains_itself}
use Rattle.std.specs.declared.cmp.Ordering.{Ordering}
use Rattle.sector_disk.specs.Lists.{Content, sector}
use Rattle.sector_disk.specs.Space.{Space}
use Rattle.jnl_format.specs.Recovery.{info_sector_of}
use Rattle.volume_header.specs.Header.{header_of, FitsHeader}
use Rattle.volume_header.specs.declared.header.VolumeHeader.{VolumeHeader}
use Rattle.flag_rows.specs.Bits.{sectors_for}
use Rattle.alloc_bitmap.specs.Apart.{AreApart}
use Rattle.fork_map.specs.Blocks.{fork_sectors}
use Rattle.alloc_bitmap.specs.declared.bitmap.Bitmap.{Bitmap}
use Rattle.btree_node.specs.Keys.{IsCatalogKey, IsExtentKey, IsAttrKey, catalog_cmp, extent_cmp, attr_cmp, is_eight_extents, anything}
use Rattle.btree_node.specs.TreeFile.{TreeForm, tree_head, extents_form, catalog_form, attributes_form}
use Rattle.btree_edit.specs.declared.desk.Desk.{Desk}
use Rattle.btree_file.specs.Map.{bits_of}
use Rattle.btree_file.specs.Standing.{HoldsTree, pairs_in}
use Rattle.btree_file.specs.State.{sectors_of_tree}
use Rattle.btree_file.specs.declared.tree.TreeFile.{TreeFile}
use Rattle.attributes.specs.Values.{AreValued}
use Rattle.hfs_volume.specs.Content.{VolumeState, volume_of, records_of, overflow_in_volume, has_attributes, journal_place}
use Rattle.hfs_volume.specs.Entries.{AreSpelled}
use Rattle.hfs_volume.specs.Forks.{per_block_of, extents_of, extents_id, catalog_id, allocation_id, attributes_id, data_kind}
use Rattle.hfs_volume.specs.Links.{private_id}
use Rattle.hfs_volume.specs.Sound.{IsSoundVolume}
use Rattle.volume_base.specs.Lists.{lists_of, facts_on}
use Rattle.volume_base.specs.Looking.{IsCatalogOver, IsAttributesOver, ReadsTree, KeepsVolume, ReadsVolume}
use Rattle.volume_base.specs.Service.{IsInService, IsTreeInService, KeepsFile, KeepsTree}
use Rattle.volume_base.specs.Standing.{AreWhole, HoldsTrees, HasItsForks, IsStanding, StandsOver, IsSettled, file_sectors, own_sectors, with_attributes_tree}
use Rattle.volume_base.specs.declared.volume.Tree.{Tree}
use Rattle.volume_base.specs.declared.volume.Volume.{Volume}
use Rattle.volume_base.proofs.Over.{sectors_kept, held_kept, inside_kept}
use Rattle.volume_base.proofs.Seeing.{keeps_none, keeps_both, looks_both, looks_wider}

tree_still : (tells : Bool) (a b : Tree) (before after : Space) → KeepsTree tells a b → after.sectors ≡ before.sectors → IsTreeInService a before → IsTreeInService b after
tree_still tells a b before after keeps same was = record {
  desk = keeps.desk was.desk;
  inside = inside_kept tells a.file b.file before after keeps.file same was.inside;
}

facts_still : (tells : Bool) (a b : TreeFile) → KeepsFile tells a b → facts_on b ≡ facts_on a
facts_still tells a b keeps = λ i. record { shape = keeps.shape i; map_bits = bits_of (keeps.file.map i) }

module _ (old new : Volume) (before after : Space) (reads : ReadsVolume old new before after) where
  abbrev keeps : KeepsVolume before.tells old new
  keeps = reads.keeps

  pub service_still : IsInService old before → IsInService new after
  service_still was = record {
    extents = tree_still before.tells old.extents new.extents before after keeps.extents reads.looks.same.sectors was.extents;
    catalog = tree_still before.tells old.catalog new.catalog before after keeps.catalog reads.looks.same.sectors was.catalog;
    attributes = tree_still before.tells old.attributes new.attributes before after keeps.attributes reads.looks.same.sectors was.attributes;
    fits = subst (λ (h : VolumeHeader). FitsHeader h) (sym keeps.header) was.fits;
    least = subst (λ (h : VolumeHeader). 512 ≤ h.block_size) (sym keeps.header) was.least;
    most = subst (λ (h : VolumeHeader). h.block_size ≤ 65536) (sym keeps.header) was.most;
    map_inside = subst (λ (k : Bitmap × ℕ). All (λ at. at < k.1) (fork_sectors k.0.fork k.0.per_block)) {x = (old.map, before.sectors)} {y = (new.map, after.sectors)} (λ i. (sym keeps.map i, sym reads.looks.same.sectors i)) was.map_inside;
    map_long = subst (λ (m : Bitmap). sectors_for (length m.used) ≤ length (fork_sectors m.fork m.per_block)) (sym keeps.map) was.map_long;
    marks = subst (λ (m : Bitmap). length m.changed ≡ sectors_for (length m.used)) (sym keeps.map) was.marks;
  }

  abbrev extents_at : sectors_of_tree new.extents.file ≡ sectors_of_tree old.extents.file
  extents_at = sectors_kept before.tells old.extents.file new.extents.file keeps.extents.file

  abbrev catalog_at : sectors_of_tree new.catalog.file ≡ sectors_of_tree old.catalog.file
  catalog_at = sectors_kept before.tells old.catalog.file new.catalog.file keeps.catalog.file

  abbrev attributes_at : sectors_of_tree new.attributes.file ≡ sectors_of_tree old.attributes.file
  attributes_at = sectors_kept before.tells old.attributes.file new.attributes.file keeps.attributes.file

  pub own_still : own_sectors new ≡ own_sectors old
  own_still = λ i. 2 ∷ extents_at i ++ (catalog_at i ++ ((if has_attributes (keeps.header i) then attributes_at i else []) ++ fork_sectors (keeps.map i).fork (keeps.map i).per_block))

  files_still : file_sectors new ≡ file_sectors old
  files_still = λ i. extents_at i ++ (catalog_at i ++ ((if has_attributes (keeps.header i) then attributes_at i else []) ++ fork_sectors (keeps.map i).fork (keeps.map i).per_block))

  module _ (told : IsTrue before.tells) where
    abbrev content : after.content ≡ before.content
    content = reads.looks.content told

    pub lists_still : lists_of new after.content ≡ lists_of old before.content
    lists_still = λ i. record {
      sectors = length (content i);
      head = keeps.header i;
      alternate = header_of (sector (content i) (length (content i) - 2));
      journal = journal_place (sector (content i) (info_sector_of (keeps.header i)));
      overflow_pairs = pairs_in (extents_at i) (content i);
      catalog_pairs = pairs_in (catalog_at i) (content i);
      attribute_pairs = if has_attributes (keeps.header i) then pairs_in (attributes_at i) (content i) else [];
      extents_tree = facts_still before.tells old.extents.file new.extents.file keeps.extents.file i;
      catalog_tree = facts_still before.tells old.catalog.file new.catalog.file keeps.catalog.file i;
      attributes_tree = facts_still before.tells old.attributes.file new.attributes.file keeps.attributes.file i;
      bits = (keeps.map i).used ++ replicate (8 * (keeps.header i).allocation_fork.logical_size - length (keeps.map i).used) false;
    }

    held_still : (form : TreeForm) (is_key is_value : List ℕ → Type 0) (cmp : List ℕ → List ℕ → Ordering) (a b : TreeFile) → KeepsFile before.tells a b → HoldsTree form is_key is_value cmp a before.content → HoldsTree form is_key is_value cmp b after.content
    held_still form is_key is_value cmp a b kept was = subst (λ (c : Content). HoldsTree form is_key is_value cmp b c) (sym content) (held_kept form is_key is_value cmp before.tells a b before.content told kept was)

    had : IsTrue (has_attributes new.header) → IsTrue (has_attributes old.header)
    had has = subst (λ (h : VolumeHeader). IsTrue (has_attributes h)) keeps.header has

    trees_still : HoldsTrees old before.content → HoldsTrees new after.content
    trees_still was = record {
      extents = held_still extents_form IsExtentKey is_eight_extents extent_cmp old.extents.file new.extents.file keeps.extents.file was.extents;
      catalog = held_still catalog_form IsCatalogKey anything catalog_cmp old.catalog.file new.catalog.file keeps.catalog.file was.catalog;
      compare = ap (λ (h : List ℕ). (tree_head h).compare) (keeps.catalog.file.header told) ∙ was.compare;
      attributes = λ has. held_still attributes_form IsAttrKey anything attr_cmp old.attributes.file new.attributes.file keeps.attributes.file (was.attributes (had has));
    }

    forks_still : HasItsForks old before.content → HasItsForks new after.content
    forks_still was = record {
      extents = keeps.extents.file.file.fork ∙ was.extents ∙ sym (λ i. extents_of [] extents_id data_kind (keeps.header i).extents_fork);
      extents_per = keeps.extents.file.file.per_block ∙ was.extents_per ∙ sym (λ i. per_block_of (keeps.header i));
      catalog = keeps.catalog.file.file.fork ∙ was.catalog ∙ sym (λ i. extents_of (overflow_in_volume (lists_still i)) catalog_id data_kind (keeps.header i).catalog_fork);
      catalog_per = keeps.catalog.file.file.per_block ∙ was.catalog_per ∙ sym (λ i. per_block_of (keeps.header i));
      attributes = λ has. keeps.attributes.file.file.fork ∙ was.attributes (had has) ∙ sym (λ i. extents_of (overflow_in_volume (lists_still i)) attributes_id data_kind (keeps.header i).attributes_fork);
      attributes_per = λ has. keeps.attributes.file.file.per_block ∙ was.attributes_per (had has) ∙ sym (λ i. per_block_of (keeps.header i));
      map = (λ i. (keeps.map i).fork) ∙ was.map ∙ sym (λ i. extents_of (overflow_in_volume (lists_still i)) allocation_id data_kind (keeps.header i).allocation_fork);
      map_per = (λ i. (keeps.map i).per_block) ∙ was.map_per ∙ sym (λ i. per_block_of (keeps.header i));
    }

    standing_still : IsStanding old before → IsStanding new after
    standing_still was = record {
      trees = trees_still was.trees;
      forks = forks_still was.forks;
      whole = subst AreWhole (sym content) was.whole;
      apart = subst AreApart (sym own_still) was.apart;
      blocks = (λ i. length (keeps.map i).used) ∙ was.blocks ∙ sym (λ i. (keeps.header i).total_blocks);
      closed = λ at shut own. was.closed at ((reads.looks.closed told at).0 shut) (subst (λ l. Contains l at) own_still own);
      aside = λ at is own. was.aside at (subst (λ (k : ℕ × VolumeHeader). (at ≡ k.0 - 2) ⊎ (at ≡ info_sector_of k.1)) {x = (length after.content, new.header)} {y = (length before.content, old.header)} (λ i. (length (content i), keeps.header i)) is) (subst (λ l. Contains l at) own_still own);
      large = subst (λ (c : Content). 2 < length c) (sym content) was.large;
      inside = λ at has. subst (λ (h : VolumeHeader). at < h.total_blocks * per_block_of h) (sym keeps.header) (was.inside at (subst (λ l. Contains l at) files_still has));
      fit = subst (λ (k : Content × VolumeHeader). k.1.total_blocks * per_block_of k.1 ≤ length k.0) {x = (before.content, old.header)} {y = (after.content, new.header)} (λ i. (sym content i, sym keeps.header i)) was.fit;
      live = λ at l. subst (λ xs. Contains xs at) (sym own_still) (⊎_elim (λ m. was.live at m) (λ own. own) (reads.looks.live told at l));
    }

    pub settled_still : IsSettled old before.content → IsSettled new after.content
    settled_still was = record {
      blocks = (λ i. length (keeps.map i).used) ∙ was.blocks ∙ sym (λ i. (keeps.header i).total_blocks);
      lists = ap volume_of content ∙ was.lists ∙ sym (λ i. with_attributes_tree (lists_still i) (volume_of (content i)));
      attributes = λ has. ap (λ (c : Content). (volume_of c).attributes_tree) content ∙ was.attributes (had has) ∙ sym (facts_still before.tells old.attributes.file new.attributes.file keeps.attributes.file);
      sound = subst IsSoundVolume (sym (ap volume_of content)) was.sound;
      private = keeps.private ∙ was.private ∙ sym (ap (λ (c : Content). private_id (records_of (volume_of c))) content);
    }

  pub stands_still : StandsOver old before → StandsOver new after
  stands_still was = record { service = service_still was.service; stands = λ told. standing_still (sym reads.looks.same.tells ∙ told) (was.stands (sym reads.looks.same.tells ∙ told)) }

-- the catalog of a volume in service can be read
pub catalog_over : (v : Volume) (space : Space) → StandsOver v space → (IsTrue space.tells → IsSettled v space.content) → IsCatalogOver v.catalog.file v.catalog.desk space
catalog_over v space stands settled = record {
  fits = stands.service.catalog.desk;
  inside = stands.service.catalog.inside;
  unclosed = λ told k low shut. (stands.stands told).closed (get_or (sectors_of_tree v.catalog.file) k 0) shut
      (in_catalog (get_or (sectors_of_tree v.catalog.file) k 0) (All-contains_itself (sectors_of_tree v.catalog.file) k 0 low));
  holds = λ told. (stands.stands told).trees.catalog;
  whole = λ told. (stands.stands told).whole;
  spelled = λ told. subst AreSpelled (ap (λ (l : VolumeState). l.catalog_pairs) (settled told).lists) (settled told).sound.entries.threads.spelled;
}
  where
    in_catalog : (at : ℕ) → Contains (sectors_of_tree v.catalog.file) at → Contains (own_sectors v) at
    in_catalog at here =
        Contains-append_right (2 ∷ sectors_of_tree v.extents.file) (sectors_of_tree v.catalog.file ++ ((if has_attributes v.header then sectors_of_tree v.attributes.file else []) ++ fork_sectors v.map.fork v.map.per_block)) at
        (Contains-append_left (sectors_of_tree v.catalog.file) ((if has_attributes v.header then sectors_of_tree v.attributes.file else []) ++ fork_sectors v.map.fork v.map.per_block) at here)

-- where only its catalog was read, a volume was
pub catalog_read : (v : Volume) (file : TreeFile) (desk : Desk) (before after : Space) → ReadsTree v.catalog.file file before after → IsCatalogOver file desk after → ReadsVolume v (record v { catalog = record { file = file; desk = desk } }) before after
catalog_read v file desk before after reads over = record {
  keeps = record {
    header = refl;
    map = refl;
    extents = keeps_none before.tells v.extents;
    catalog = record { file = reads.keeps; desk = λ d. over.fits };
    attributes = keeps_none before.tells v.attributes;
    private = refl;
    shrunk = refl;
    capacity = refl;
    kept = refl;
    filling = refl;
  };
  looks = looks_wider (λ s. Contains (sectors_of_tree v.catalog.file) s) (λ s. Contains (own_sectors v) s) before after (λ told s here. in_catalog s here) reads.looks;
}
  where
    in_catalog : (at : ℕ) → Contains (sectors_of_tree v.catalog.file) at → Contains (own_sectors v) at
    in_catalog at here =
        Contains-append_right (2 ∷ sectors_of_tree v.extents.file) (sectors_of_tree v.catalog.file ++ ((if has_attributes v.header then sectors_of_tree v.attributes.file else []) ++ fork_sectors v.map.fork v.map.per_block)) at
        (Contains-append_left (sectors_of_tree v.catalog.file) ((if has_attributes v.header then sectors_of_tree v.attributes.file else []) ++ fork_sectors v.map.fork v.map.per_block) at here)

attributes_own : (v : Volume) → IsTrue (has_attributes v.header) → (at : ℕ) → Contains (sectors_of_tree v.attributes.file) at → Contains (own_sectors v) at
attributes_own v has at here =
    let is : sectors_of_tree v.attributes.file ≡ (if has_attributes v.header then sectors_of_tree v.attributes.file else []) = sym (ap (λ b. if b then sectors_of_tree v.attributes.file else []) has) in
    Contains-append_right (2 ∷ sectors_of_tree v.extents.file) (sectors_of_tree v.catalog.file ++ ((if has_attributes v.header then sectors_of_tree v.attributes.file else []) ++ fork_sectors v.map.fork v.map.per_block)) at
    (Contains-append_right (sectors_of_tree v.catalog.file) ((if has_attributes v.header then sectors_of_tree v.attributes.file else []) ++ fork_sectors v.map.fork v.map.per_block) at
    (Contains-append_left (if has_attributes v.header then sectors_of_tree v.attributes.file else []) (fork_sectors v.map.fork v.map.per_block) at (subst (λ l. Contains l at) is here)))

-- a volume whose attributes file isn't empty has one
pub has_them : (h : VolumeHeader) → (h.attributes_fork.logical_size ≡ 0 → ⊥) → has_attributes h ≡ true
has_them h some = by_test (h.attributes_fork.logical_size == 0) refl
  where
    by_test : (b : Bool) → (h.attributes_fork.logical_size == 0) ≡ b → not b ≡ true
    by_test true is = absurd (some (eqb-true h.attributes_fork.logical_size 0 is))
    by_test false is = refl

-- the attributes file of a volume that has one can be read
pub attributes_over : (v : Volume) (space : Space) → StandsOver v space → (IsTrue space.tells → IsSettled v space.content) → IsTrue (has_attributes v.header) → IsAttributesOver v.attributes.file v.attributes.desk space
attributes_over v space stands settled has = record {
  fits = stands.service.attributes.desk;
  inside = stands.service.attributes.inside;
  unclosed = λ told k low shut. (stands.stands told).closed (get_or (sectors_of_tree v.attributes.file) k 0) shut
      (attributes_own v has (get_or (sectors_of_tree v.attributes.file) k 0) (All-contains_itself (sectors_of_tree v.attributes.file) k 0 low));
  holds = λ told. (stands.stands told).trees.attributes has;
  whole = λ told. (stands.stands told).whole;
  values = λ told. subst AreValued (ap (λ (l : VolumeState). l.attribute_pairs) (settled told).lists ∙ ap (λ b. if b then pairs_in (sectors_of_tree v.attributes.file) space.content else []) has)
      (record { each = λ k d low. let it = (settled told).sound.attributes.each k d low in record { spelled = it.spelled; named = it.named }; values = (settled told).sound.attributes.values });
}

-- where only its attributes file was read, a volume was
pub attributes_read : (v : Volume) (file : TreeFile) (desk : Desk) (before after : Space) → IsTrue (has_attributes v.header) → ReadsTree v.attributes.file file before after → IsAttributesOver file desk after
    → ReadsVolume v (record v { attributes = record { file = file; desk = desk } }) before after
attributes_read v file desk before after has reads over = record {
  keeps = record {
    header = refl;
    map = refl;
    extents = keeps_none before.tells v.extents;
    catalog = keeps_none before.tells v.catalog;
    attributes = record { file = reads.keeps; desk = λ d. over.fits };
    private = refl;
    shrunk = refl;
    capacity = refl;
    kept = refl;
    filling = refl;
  };
  looks = looks_wider (λ s. Contains (sectors_of_tree v.attributes.file) s) (λ s. Contains (own_sectors v) s) before after (λ told s here. attributes_own v has s here) reads.looks;
}

-- reads one after another
pub volume_both : (a b c : Volume) (old mid new : Space) → ReadsVolume a b old mid → ReadsVolume b c mid new → ReadsVolume a c old new
volume_both a b c old mid new p q =
    let r = subst (λ t. KeepsVolume t b c) p.looks.same.tells q.keeps in
    record {
      keeps = record {
        header = r.header ∙ p.keeps.header;
        map = r.map ∙ p.keeps.map;
        extents = keeps_both old.tells a.extents b.extents c.extents p.keeps.extents r.extents;
        catalog = keeps_both old.tells a.catalog b.catalog c.catalog p.keeps.catalog r.catalog;
        attributes = keeps_both old.tells a.attributes b.attributes c.attributes p.keeps.attributes r.attributes;
        private = r.private ∙ p.keeps.private;
        shrunk = r.shrunk ∙ p.keeps.shrunk;
        capacity = r.capacity ∙ p.keeps.capacity;
        kept = r.kept ∙ p.keeps.kept;
        filling = r.filling ∙ p.keeps.filling;
      };
      looks = looks_both (λ s. Contains (own_sectors a) s) old mid new p.looks (looks_wider (λ s. Contains (own_sectors b) s) (λ s. Contains (own_sectors a) s) mid new (λ told s. subst (λ l. Contains l s) (own_still a b old mid p)) q.looks);
    }
