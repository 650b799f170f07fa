-- A volume that is being read comes into service step by step: each step reads, and leaves what was read before it.
use Rattle.std.proofs.Common.{◌≡◌, ◌<◌, ◌≤◌, ℕ, ◌*◌, ◌/◌, Bool, true, List, [], ◌∷◌, length, get_or, refl, sym, ◌∙◌, ap, subst, arith, ⊎_elim}
use Rattle.std.specs.Prelude.{Contains, false, IsTrue, Option, None, slice_index}
use Rattle.std.specs.List.{All}
use Rattle.std.proofs.lemmas.List.{length-replicate}
use Rattle.flag_rows.specs.Bits.{sectors_for}
use Rattle.alloc_bitmap.specs.Fork.{HoldsBits}
use Rattle.fork_map.specs.Blocks.{fork_sectors}
use Rattle.alloc_bitmap.specs.Map.{BlockMap, none}
use Rattle.btree_node.specs.Keys.{IsCatalogKey, catalog_cmp, anything}
use Rattle.hx_bytes.specs.declared.extents.ForkRecord.{ForkRecord}
use Rattle.sector_disk.specs.Lists.{Content}
use Rattle.sector_disk.specs.Space.{Space}
use Rattle.jnl_format.specs.Recovery.{header_of_volume}
use Rattle.volume_header.specs.Header.{FitsHeader}
use Rattle.volume_header.specs.Refusal.{header_refusal}
use Rattle.volume_header.specs.declared.header.VolumeHeader.{VolumeHeader}
use Rattle.btree_node.specs.declared.store.TreeShape.{TreeShape}
use Rattle.btree_node.specs.TreeFile.{tree_head, shape_of, catalog_form}
use Rattle.btree_file.specs.Frame.{ReadsSpace}
use Rattle.btree_file.specs.FrameLaws.{same_sectors}
use Rattle.btree_file.specs.Held.{HoldsNodes, file_in}
use Rattle.btree_file.specs.Standing.{Stands, HoldsTree, LiesOpen, pairs_in}
use Rattle.btree_file.specs.State.{sectors_of_tree, nodes_on, per_node, HasMap}
use Rattle.btree_file.specs.declared.tree.Stretch.{Stretch}
use Rattle.btree_file.specs.declared.tree.TreeFile.{TreeFile}
use Rattle.hfs_volume.specs.Aside.{IsJournalSector}
use Rattle.hfs_volume.specs.Content.{volume_of, overflow_of_content, sectors_in, has_attributes}
use Rattle.hfs_volume.specs.Entries.{AreSpelled}
use Rattle.hfs_volume.specs.Links.{private_id}
use Rattle.hfs_volume.specs.Records.{placed_in}
use Rattle.hfs_volume.specs.Forks.{extents_of, special_forks, data_kind, extents_id, catalog_id, allocation_id, attributes_id}
use Rattle.volume_base.specs.Opening.{IsServable, IsFileOf, IsFresh, IsOpened, HasBegun}
use Rattle.volume_base.specs.Service.{IsTreeInService, IsInService, KeepsFile, KeepsTree}
use Rattle.volume_base.specs.Standing.{StandsOver, IsSettled, own_sectors_in}
use Rattle.volume_base.specs.Touching.{Looks}
use Rattle.volume_base.specs.declared.volume.Tree.{Tree}
use Rattle.volume_base.specs.declared.volume.Volume.{Volume}
use Rattle.volume_base.proofs.OpenFiles.{catalog_own, extents_own}
use Rattle.volume_base.proofs.Opened.{catalog_holds, catalog_spelled}
use Rattle.volume_base.proofs.Placing.{default_is}
use Rattle.volume_base.proofs.Seeing.{looks_both, looks_none, looks_reads, looks_wider}
use Rattle.volume_base.proofs.SoundForks.{journal_apart}
use Rattle.volume_base.proofs.Stood.{stands, settled}

-- ---- what is kept of a tree file

pub stands_kept : (tells : Bool) (a b : TreeFile) (content : Content) → IsTrue tells → KeepsFile tells a b → Stands a content → Stands b content
stands_kept tells a b content told keeps was =
    let sectors : sectors_of_tree b ≡ sectors_of_tree a = same_sectors a b keeps.file in
    let header : b.header ≡ a.header = keeps.header told in
    record {
      agrees = subst (λ (l : List ℕ). HasMap l b.shape.node_size b.shape.total b.shape.free b.map.items b.header content) (sym sectors)
          (subst (λ (t : TreeShape). HasMap (sectors_of_tree a) t.node_size t.total t.free b.map.items b.header content) (sym keeps.shape)
          (subst (λ (items : List Stretch). HasMap (sectors_of_tree a) a.shape.node_size a.shape.total a.shape.free items b.header content) (sym keeps.file.map)
          (subst (λ (h : List ℕ). HasMap (sectors_of_tree a) a.shape.node_size a.shape.total a.shape.free a.map.items h content) (sym header) was.agrees)));
      settled = ap (λ (h : List ℕ). shape_of (tree_head h)) header ∙ was.settled ∙ sym keeps.shape;
      whole = ap (λ (t : TreeShape). t.total * per_node t) keeps.shape ∙ was.whole ∙ ap (λ (l : List ℕ). length l) (sym sectors);
      first = ap (λ (l : List ℕ). length (nodes_on l 512 content 0)) sectors ∙ was.first;
    }

pub file_kept : (tells : Bool) (id : ℕ) (fork : ForkRecord) (a b : Tree) (content : Content) → IsTrue tells → KeepsTree tells a b → IsFileOf id fork a.file content → IsFileOf id fork b.file content
file_kept tells id fork a b content told keeps was = record {
  stands = stands_kept tells a.file b.file content told keeps.file was.stands;
  extents = keeps.file.file.fork ∙ was.extents;
  per_block = keeps.file.file.per_block ∙ was.per_block;
}

pub service_kept : (tells : Bool) (a b : Tree) (before after : Space) → KeepsTree tells a b → after.sectors ≡ before.sectors → IsTreeInService a before → IsTreeInService b after
service_kept tells a b before after keeps sectors was = record {
  desk = keeps.desk was.desk;
  inside = subst (λ (l : List ℕ). (k : ℕ) → k < length l → slice_index l k < after.sectors) (sym (same_sectors a.file b.file keeps.file.file))
      (subst (λ n. (k : ℕ) → k < length (sectors_of_tree a.file) → slice_index (sectors_of_tree a.file) k < n) (sym sectors) was.inside);
}

-- the same, where nothing was done to the tree
pub service_later : (a : Tree) (before after : Space) → after.sectors ≡ before.sectors → IsTreeInService a before → IsTreeInService a after
service_later a before after sectors was = record {
  desk = was.desk;
  inside = subst (λ n. (k : ℕ) → k < length (sectors_of_tree a.file) → slice_index (sectors_of_tree a.file) k < n) (sym sectors) was.inside;
}

-- ---- reads of the volume's own sectors, one after another

pub looks_on : (a b c : Space) → Looks (λ at. Contains (own_sectors_in a.content) at) a b → Looks (λ at. Contains (own_sectors_in b.content) at) b c → Looks (λ at. Contains (own_sectors_in a.content) at) a c
looks_on a b c p q = looks_both (λ at. Contains (own_sectors_in a.content) at) a b c p
    (looks_wider (λ at. Contains (own_sectors_in b.content) at) (λ at. Contains (own_sectors_in a.content) at) b c (λ tells at has. subst (λ (k : Content). Contains (own_sectors_in k) at) (p.content (sym p.same.tells ∙ tells)) has) q)

-- the header of a content that can be served is accepted
pub accepted_here : (content : Content) (sectors : ℕ) → IsServable content → length content ≡ sectors → header_refusal (header_of_volume content) sectors ≡ None
unfolding volume_of
accepted_here content sectors good long = subst (λ n. header_refusal (header_of_volume content) n ≡ None) long good.sound.volume.blocks.header.accepted

pub begun : (a b c : Space) (header : VolumeHeader) (extents : Tree) → (IsTrue a.tells → IsServable a.content) → (IsTrue a.tells → length a.content ≡ a.sectors) → ReadsSpace a b → ReadsSpace b c
    → (IsTrue a.tells → header_refusal (header_of_volume a.content) a.sectors ≡ None → header ≡ header_of_volume a.content)
    → (IsTrue b.tells → IsServable b.content → header ≡ header_of_volume b.content → IsFileOf extents_id header.extents_fork extents.file b.content) → IsTreeInService extents b → HasBegun a c header extents
begun a b c header extents good long first second head file service =
    let one : Looks (λ at. Contains (own_sectors_in a.content) at) a b = looks_reads (λ at. Contains (own_sectors_in a.content) at) a b first in
    let two : Looks (λ at. Contains (own_sectors_in a.content) at) b c = looks_reads (λ at. Contains (own_sectors_in a.content) at) b c second in
    let head_is : IsTrue a.tells → header ≡ header_of_volume a.content = λ tells. head tells (accepted_here a.content a.sectors (good tells) (long tells)) in
    record {
      looks = looks_both (λ at. Contains (own_sectors_in a.content) at) a b c one two;
      head = head_is;
      service = service_later extents b c two.same.sectors service;
      file = λ tells.
          let same : b.content ≡ a.content = one.content tells in
          subst (λ (h : VolumeHeader). IsFileOf extents_id h.extents_fork extents.file a.content) (head_is tells)
          (subst (λ (k : Content). IsFileOf extents_id header.extents_fork extents.file k) same
          (file (one.same.tells ∙ tells) (subst (λ (k : Content). IsServable k) (sym same) (good tells)) (head_is tells ∙ ap header_of_volume (sym same))));
    }

-- what was read stands at the later moment, as if it had begun there
pub begun_there : (a b : Space) (header : VolumeHeader) (extents : Tree) → HasBegun a b header extents → HasBegun b b header extents
begun_there a b header extents was =
    let told : IsTrue b.tells → IsTrue a.tells = λ tells. sym was.looks.same.tells ∙ tells in
    let same : IsTrue b.tells → a.content ≡ b.content = λ tells. sym (was.looks.content (told tells)) in
    record {
      looks = looks_none (λ at. Contains (own_sectors_in b.content) at) b;
      head = λ tells. was.head (told tells) ∙ ap header_of_volume (same tells);
      service = was.service;
      file = λ tells. subst (λ (k : Content). IsFileOf extents_id (header_of_volume k).extents_fork extents.file k) (same tells) (was.file (told tells));
    }

-- two stretches of reading
pub begun_on : (a b c : Space) (header : VolumeHeader) (first later : Tree) → HasBegun a b header first → HasBegun b c header later → HasBegun a c header later
begun_on a b c header first later was next = record {
  looks = looks_on a b c was.looks next.looks;
  head = was.head;
  service = next.service;
  file = λ tells. subst (λ (k : Content). IsFileOf extents_id (header_of_volume k).extents_fork later.file k) (was.looks.content tells) (next.file (was.looks.same.tells ∙ tells));
}

-- the journal's sectors stay closed, and no others
pub closed_there : (a b : Space) → Looks (λ at. Contains (own_sectors_in a.content) at) a b → (IsTrue a.tells → (at : ℕ) → a.closed at → IsJournalSector a.content at) → IsTrue b.tells → (at : ℕ) → b.closed at → IsJournalSector b.content at
closed_there a b looks closed tells at is =
    let told : IsTrue a.tells = sym looks.same.tells ∙ tells in
    subst (λ (k : Content). IsJournalSector k at) (sym (looks.content told)) (closed told at ((looks.closed told at).0 is))

pub servable_there : (a b : Space) → Looks (λ at. Contains (own_sectors_in a.content) at) a b → (IsTrue a.tells → IsServable a.content) → IsTrue b.tells → IsServable b.content
servable_there a b looks good tells =
    let told : IsTrue a.tells = sym looks.same.tells ∙ tells in
    subst (λ (k : Content). IsServable k) (sym (looks.content told)) (good told)

-- a step that keeps the extents overflow file
pub goes_on : (a b c : Space) (header : VolumeHeader) (extents later : Tree) → HasBegun a b header extents → Looks (λ at. Contains (own_sectors_in b.content) at) b c → KeepsTree b.tells extents later → HasBegun a c header later
goes_on a b c header extents later was looks keeps = record {
  looks = looks_on a b c was.looks looks;
  head = was.head;
  service = service_kept b.tells extents later b c keeps looks.same.sectors was.service;
  file = λ tells. file_kept b.tells extents_id (header_of_volume a.content).extents_fork extents later a.content (was.looks.same.tells ∙ tells) keeps (was.file tells);
}

module _ (a : Space) (good : IsTrue a.tells → IsServable a.content) (closed : IsTrue a.tells → (at : ℕ) → a.closed at → IsJournalSector a.content at) (b : Space) where
  -- no sector of a tree whose sectors are the volume's own is closed
  pub lies_open : (tree : TreeFile) → Looks (λ at. Contains (own_sectors_in a.content) at) a b → (IsTrue a.tells → (at : ℕ) → Contains (sectors_of_tree tree) at → Contains (own_sectors_in a.content) at) → LiesOpen tree b
  lies_open tree looks own tells k low is =
      let told : IsTrue a.tells = sym looks.same.tells ∙ tells in
      let at : ℕ = get_or (sectors_of_tree tree) k 0 in
      journal_apart a.content (good told).sound (get_or (sectors_of_tree tree) k 0) (closed told (get_or (sectors_of_tree tree) k 0) ((looks.closed told (get_or (sectors_of_tree tree) k 0)).0 is))
      (own told (get_or (sectors_of_tree tree) k 0) (k, low, default_is (sectors_of_tree tree) k (get_or (sectors_of_tree tree) k 0) low))

  module _ (header : VolumeHeader) (extents : Tree) (was : HasBegun a b header extents) where
    told_before : IsTrue b.tells → IsTrue a.tells
    told_before tells = sym was.looks.same.tells ∙ tells

    same_content : IsTrue b.tells → a.content ≡ b.content
    same_content tells = sym (was.looks.content (told_before tells))

    pub open_then : LiesOpen extents.file b
    open_then = lies_open extents.file was.looks (λ tells. extents_own a.content (good tells) extents.file (was.file tells))

    pub servable_then : IsTrue b.tells → IsServable b.content
    servable_then tells = subst (λ (k : Content). IsServable k) (same_content tells) (good (told_before tells))

    pub file_then : IsTrue b.tells → IsFileOf extents_id (header_of_volume b.content).extents_fork extents.file b.content
    file_then tells = subst (λ (k : Content). IsFileOf extents_id (header_of_volume k).extents_fork extents.file k) (same_content tells) (was.file (told_before tells))

    pub head_then : IsTrue b.tells → header ≡ header_of_volume b.content
    head_then tells = was.head (told_before tells) ∙ ap header_of_volume (same_content tells)

    pub block_then : IsTrue b.tells → header.block_size ≡ (header_of_volume b.content).block_size
    block_then tells = ap (λ (h : VolumeHeader). h.block_size) (head_then tells)

    pub special_then : (id : ℕ) (fork_in : VolumeHeader → ForkRecord) → ((h : VolumeHeader) → Contains (special_forks h) (record { id = id; kind = data_kind; fork = fork_in h })) → IsTrue b.tells
        → Contains (special_forks (header_of_volume b.content)) (record { id = id; kind = data_kind; fork = fork_in header })
    special_then id fork_in there tells = subst (λ (h : VolumeHeader). Contains (special_forks (header_of_volume b.content)) (record { id = id; kind = data_kind; fork = fork_in h })) (sym (head_then tells)) (there (header_of_volume b.content))

    -- the file of a tree that was attached then
    pub file_attached : (id : ℕ) (fork_in : VolumeHeader → ForkRecord) (tree : TreeFile)
        → (IsTrue a.tells → HoldsNodes (sectors_in a.content (extents_of (overflow_of_content a.content) id data_kind (fork_in (header_of_volume a.content))))
        (file_in (sectors_in a.content (extents_of (overflow_of_content a.content) id data_kind (fork_in (header_of_volume a.content)))) a.content))
        → (IsTrue b.tells → HoldsNodes (sectors_in b.content (extents_of (overflow_of_content b.content) id data_kind (fork_in header))) (file_in (sectors_in b.content (extents_of (overflow_of_content b.content) id data_kind (fork_in header))) b.content)
        → IsFileOf id (fork_in header) tree b.content)
        → IsTrue a.tells → IsFileOf id (fork_in (header_of_volume a.content)) tree a.content
    file_attached id fork_in tree nodes attached tells =
        let same : b.content ≡ a.content = was.looks.content tells in
        let head : header ≡ header_of_volume a.content = was.head tells in
        subst (λ (h : VolumeHeader). IsFileOf id (fork_in h) tree a.content) head
        (subst (λ (k : Content). IsFileOf id (fork_in header) tree k) same
        (attached (was.looks.same.tells ∙ tells)
        (subst (λ (k : Content). HoldsNodes (sectors_in k (extents_of (overflow_of_content k) id data_kind (fork_in header))) (file_in (sectors_in k (extents_of (overflow_of_content k) id data_kind (fork_in header))) k)) (sym same)
        (subst (λ (h : VolumeHeader). HoldsNodes (sectors_in a.content (extents_of (overflow_of_content a.content) id data_kind (fork_in h))) (file_in (sectors_in a.content (extents_of (overflow_of_content a.content) id data_kind (fork_in h))) a.content))
        (sym head) (nodes tells)))))

-- ---- at the end

module _ (a z : Space) (good : IsTrue a.tells → IsServable a.content) (closed : IsTrue a.tells → (at : ℕ) → a.closed at → IsJournalSector a.content at) (live : IsTrue a.tells → (at : ℕ) → a.live at → Contains (own_sectors_in a.content) at)
    (looks : Looks (λ at. Contains (own_sectors_in a.content) at) a z) (volume : Volume) (opened : IsTrue a.tells → IsOpened volume a.content)
  where
    pub stands_then : IsInService volume z → StandsOver volume z
    stands_then service = record {
      service = service;
      stands = λ tells.
          let told : IsTrue a.tells = sym looks.same.tells ∙ tells in
          stands volume a.content (good told) (opened told) z (looks.content told) (λ at is. closed told at ((looks.closed told at).0 is)) (λ at is. ⊎_elim (λ old. live told at old) (λ own. own) (looks.live told at is));
    }

    pub settled_then : IsTrue a.tells → IsSettled volume z.content
    settled_then tells = subst (λ (k : Content). IsSettled volume k) (sym (looks.content tells)) (settled volume a.content (good tells) (opened tells))

-- ---- the files that were attached, over the content where the reading began

pub file_back : (a b : Space) → Looks (λ at. Contains (own_sectors_in a.content) at) a b → (id : ℕ) (fork_in : VolumeHeader → ForkRecord) (tree : TreeFile) → (IsTrue b.tells → IsFileOf id (fork_in (header_of_volume b.content)) tree b.content)
    → IsTrue a.tells → IsFileOf id (fork_in (header_of_volume a.content)) tree a.content
file_back a b looks id fork_in tree is tells = subst (λ (k : Content). IsFileOf id (fork_in (header_of_volume k)) tree k) (looks.content tells) (is (looks.same.tells ∙ tells))

pub attributes_back : (a b : Space) → Looks (λ at. Contains (own_sectors_in a.content) at) a b → (tree : TreeFile) → (IsTrue b.tells → IsTrue (has_attributes (header_of_volume b.content)) → IsFileOf attributes_id (header_of_volume b.content).attributes_fork tree b.content)
    → IsTrue a.tells → IsTrue (has_attributes (header_of_volume a.content)) → IsFileOf attributes_id (header_of_volume a.content).attributes_fork tree a.content
attributes_back a b looks tree is tells = subst (λ (k : Content). IsTrue (has_attributes (header_of_volume k)) → IsFileOf attributes_id (header_of_volume k).attributes_fork tree k) (looks.content tells) (is (looks.same.tells ∙ tells))

-- the catalog over a later content, where it was read alone
module _ (a b : Space) (good : IsTrue a.tells → IsServable a.content) (looks : Looks (λ at. Contains (own_sectors_in a.content) at) a b) (tree : TreeFile)
    (file : IsTrue a.tells → IsFileOf catalog_id (header_of_volume a.content).catalog_fork tree a.content)
  where
    pub catalog_holds_there : IsTrue b.tells → HoldsTree catalog_form IsCatalogKey anything catalog_cmp tree b.content
    catalog_holds_there tells =
        let told : IsTrue a.tells = sym looks.same.tells ∙ tells in
        subst (λ (k : Content). HoldsTree catalog_form IsCatalogKey anything catalog_cmp tree k) (sym (looks.content told)) (catalog_holds a.content (good told) tree (file told))

    pub catalog_spelled_there : IsTrue b.tells → AreSpelled (pairs_in (sectors_of_tree tree) b.content)
    catalog_spelled_there tells =
        let told : IsTrue a.tells = sym looks.same.tells ∙ tells in
        subst (λ (k : Content). AreSpelled (pairs_in (sectors_of_tree tree) k)) (sym (looks.content told)) (catalog_spelled a.content (good told) tree (file told))

    -- and a read of it reads the volume's own sectors
    pub looks_catalog : (c : Space) → Looks (λ at. Contains (sectors_of_tree tree) at) b c → Looks (λ at. Contains (own_sectors_in a.content) at) a c
    looks_catalog c next = looks_both (λ at. Contains (own_sectors_in a.content) at) a b c looks
        (looks_wider (λ at. Contains (sectors_of_tree tree) at) (λ at. Contains (own_sectors_in a.content) at) b c
        (λ tells at has. let told : IsTrue a.tells = sym looks.same.tells ∙ tells in catalog_own a.content (good told) tree (file told) at has) next)

-- the volume that comes into service
abbrev pub served : VolumeHeader → BlockMap → Tree → Tree → Tree → Option ℕ → ℕ → Volume
served header map extents catalog attributes private capacity = record {
  header = header;
  map = map;
  extents = extents;
  catalog = catalog;
  attributes = attributes;
  private = private;
  shrunk = None;
  capacity = capacity;
  filling = None;
  kept = record { header = header; private = private; shrunk = None };
}

module _ (a d e : Space) (header : VolumeHeader) (extents : Tree) (begun_so : HasBegun a e header extents) (from : Looks (λ at. Contains (own_sectors_in a.content) at) a d) (map : BlockMap) (first catalog attributes : Tree) (private : Option ℕ) (capacity : ℕ) where
  pub opened_then : (catalog_file : IsTrue a.tells → IsFileOf catalog_id (header_of_volume a.content).catalog_fork first.file a.content) (keeps : KeepsTree e.tells first catalog)
      (attributes_file : IsTrue a.tells → IsTrue (has_attributes (header_of_volume a.content)) → IsFileOf attributes_id (header_of_volume a.content).attributes_fork attributes.file a.content)
      (map_is : IsTrue d.tells → (map.fork ≡ extents_of (overflow_of_content d.content) allocation_id data_kind header.allocation_fork) × (length map.used ≡ header.total_blocks) × HoldsBits d.content (fork_sectors map.fork map.per_block) map.used)
      (per_block : map.per_block ≡ header.block_size / 512)
      (private_is : IsTrue e.tells → private ≡ private_id (placed_in (pairs_in (sectors_of_tree first.file) e.content)))
      → IsTrue a.tells → IsOpened (served header map extents catalog attributes private capacity) a.content
  opened_then catalog_file keeps attributes_file map_is per_block private_is tells =
      let head : header ≡ header_of_volume a.content = begun_so.head tells in
      let later : IsTrue e.tells = begun_so.looks.same.tells ∙ tells in
      let read = map_is (from.same.tells ∙ tells) in
      let same : d.content ≡ a.content = from.content tells in
      let sectors : sectors_of_tree catalog.file ≡ sectors_of_tree first.file = same_sectors first.file catalog.file keeps.file.file in
      record {
        header = head;
        extents = begun_so.file tells;
        catalog = file_kept e.tells catalog_id (header_of_volume a.content).catalog_fork first catalog a.content later keeps (catalog_file tells);
        attributes = attributes_file tells;
        map = read.0 ∙ (λ i. extents_of (overflow_of_content (same i)) allocation_id data_kind (head i).allocation_fork);
        map_per = per_block ∙ ap (λ (h : VolumeHeader). h.block_size / 512) head;
        blocks = read.1 ∙ ap (λ (h : VolumeHeader). h.total_blocks) head;
        bits = subst (λ (k : Content). HoldsBits k (fork_sectors map.fork map.per_block) map.used) same read.2;
        private = private_is later ∙ (λ i. private_id (placed_in (pairs_in (sym sectors i) (begun_so.looks.content tells i))));
      }

  pub in_service_then : (z : Space) → z.sectors ≡ e.sectors → e.sectors ≡ d.sectors → IsTreeInService first d → KeepsTree e.tells first catalog → IsTreeInService attributes d → FitsHeader header → 512 ≤ header.block_size → header.block_size ≤ 65536
      → All (λ at. at < d.sectors) (fork_sectors map.fork map.per_block) → sectors_for (length map.used) ≤ length (fork_sectors map.fork map.per_block) → map.changed ≡ none (sectors_for (length map.used))
      → IsInService (served header map extents catalog attributes private capacity) z
  in_service_then z last middle one keeps other fits least most inside long fresh = record {
    extents = service_later extents e z last begun_so.service;
    catalog = service_kept e.tells first catalog d z keeps (last ∙ middle) one;
    attributes = service_later attributes d z (last ∙ middle) other;
    fits = fits;
    least = least;
    most = most;
    map_inside = subst (λ n. All (λ at. at < n) (fork_sectors map.fork map.per_block)) (sym (last ∙ middle)) inside;
    map_long = long;
    marks = ap (λ (l : List Bool). length l) fresh ∙ length-replicate (sectors_for (length map.used)) false;
  }

-- nothing is held, and nothing was changed
pub fresh_then : (header : VolumeHeader) (map : BlockMap) (extents catalog attributes : Tree) (private : Option ℕ) (capacity per_block : ℕ)
    → map ≡ record { used = map.used; held = none (length map.used); changed = none (sectors_for (length map.used)); kept_used = map.used; kept_held = none (length map.used); fork = map.fork; per_block = per_block }
    → IsFresh capacity (served header map extents catalog attributes private capacity)
fresh_then header map extents catalog attributes private capacity per_block rest = record {
  held = ap (λ (m : BlockMap). m.held) rest;
  changed = ap (λ (m : BlockMap). m.changed) rest;
  kept = record {
    used = ap (λ (m : BlockMap). m.kept_used) rest;
    held = ap (λ (m : BlockMap). m.kept_held) rest ∙ sym (ap (λ (m : BlockMap). m.held) rest);
    header = refl;
    private = refl;
    shrunk = refl;
  };
  shrunk = refl;
  filling = refl;
  capacity_is = refl;
}
