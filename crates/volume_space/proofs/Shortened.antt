-- `trunc` where it puts no data: where a file's record got another size, the volume is settled again, and its tree is the step's.
use Rattle.std.proofs.Common.{inl}
use Rattle.hfs_volume.specs.Forks.{data_kind}
use Rattle.volume_base.specs.declared.forks.ForkKind.TheVariants as kinds
use Rattle.std.proofs.Common.{◌≡◌, ◌<◌, ◌≤◌, ℕ, ◌^◌, false, List, [], length, refl, sym, ◌∙◌, ap, subst, arith}
use Rattle.std.specs.Prelude.{Contains, IsTrue, nat_lt, Option, Some, None, Result, Ok}
use Rattle.std.specs.Option.{option_map}
use Rattle.sector_disk.specs.Lists.{Content}
use Rattle.sector_disk.specs.Space.{Space}
use Rattle.jnl_format.specs.Recovery.{header_of_volume}
use Rattle.btree_node.specs.Levels.{Pair}
use Rattle.hx_bytes.specs.declared.extents.ForkRecord.{ForkRecord}
use Rattle.volume_header.specs.declared.header.VolumeHeader.{VolumeHeader}
use Rattle.cat_records.specs.Fits.{FitsFile, FitsRecord}
use Rattle.cat_records.specs.declared.record.CatRecord.{CatRecord}
use Rattle.cat_records.specs.declared.record.CatRecord.TheVariants.{Folder, File, Thread}
use Rattle.cat_records.specs.declared.record.FileRecord.{FileRecord}
use Rattle.catalog.specs.Entries.{UpdatesEntry}
use Rattle.catalog.specs.Pairs.{value_at}
use Rattle.hfs_language.specs.declared.command.Command.TheVariants as command
use Rattle.hfs_language.specs.declared.refusal.Refusal.TheVariants as refusal
use Rattle.hfs_model.specs.Step.{most_size, step, to_file, to_node, to_trunc, unless}
use Rattle.hfs_model.specs.declared.plain.PlainNode.{PlainNode}
use Rattle.hfs_model.specs.declared.plain.PlainTree.{PlainTree}
use Rattle.hfs_volume.specs.Changes.{HasSameNodes}
use Rattle.hfs_volume.specs.Content.{VolumeState, overflow_in_volume, records_of, volume_of}
use Rattle.hfs_volume.specs.Laws.{SoundIsBoth}
use Rattle.hfs_volume.specs.Links.{private_id}
use Rattle.hfs_volume.specs.Records.{Placed, entries_of, id_in, id_of, is_empty, is_placed_at, is_thread, placed_in}
use Rattle.hfs_volume.specs.Reclaim.{blocks_at}
use Rattle.hfs_volume.specs.Sound.{IsSoundVolume}
use Rattle.hfs_volume.specs.TreeOf.{bytes_in, file_bytes, tree_in, tree_of}
use Rattle.hfs_volume.specs.Writing.{RewritesFile, TruncDoes}
use Rattle.hfs_volume.proofs.Bytes.{file_bytes_are}
use Rattle.hfs_volume.proofs.Flat.{found_some, some_same}
use Rattle.hfs_volume.proofs.Hiding.{same_entry}
use Rattle.hfs_volume.proofs.Members.{each_of}
use Rattle.hfs_volume.proofs.Reaching.{then_ok, unless_ok}
use Rattle.hfs_volume.proofs.Sides.{is_entry_of}
use Rattle.volume_base.specs.Lists.{lists_of, facts_on}
use Rattle.volume_space.specs.Resizing.{IsShortened, SetsSize, with_size}
use Rattle.volume_base.specs.Standing.{IsStanding, IsSettled, StandsOver}
use Rattle.volume_base.specs.declared.entries.Entry.{Entry}
use Rattle.volume_base.specs.declared.volume.Volume.{Volume}
use Rattle.volume_base.proofs.FileBytes.{bytes_long}
use Rattle.volume_base.proofs.ListsAgain.{lists_again}
use Rattle.volume_base.proofs.PlainFiles.{IsFileOf, file_of_node}
use Rattle.volume_space.proofs.Resized.{IsRecordOf, blocks_again, private_again, rewritten, shortens, shortens_makes}
use Rattle.volume_base.proofs.Rising.{settled_sorted}
use Rattle.volume_base.proofs.Settling.{header_settled, lists_then, settles_again, tree_again}
use Rattle.volume_base.proofs.ToNode.{node_there}

-- the folder or file of a step that isn't refused
pub trunc_file : (tree : PlainTree) (path : List (List ℕ)) (size : ℕ) (node : PlainNode) → to_trunc tree path size ≡ Ok node → Contains tree.nodes node × (node.folder ≡ false)
trunc_file tree path size node allowed =
    let first = then_ok (to_file tree path) (unless (nat_lt most_size size) refusal.TooLarge) node allowed in
    let same : first.0 ≡ node = (unless_ok (nat_lt most_size size) refusal.TooLarge first.0 node first.2).1 in
    let own = then_ok (to_node tree path) (λ n. unless n.folder refusal.IsFolder n) first.0 first.1 in
    let kind = unless_ok own.0.folder refusal.IsFolder own.0 first.0 own.2 in
    subst (λ (n : PlainNode). Contains tree.nodes n × (n.folder ≡ false)) (kind.1 ∙ same) (node_there tree path own.0 own.1, kind.0)

abbrev value_or : CatRecord → Option CatRecord → CatRecord
value_or other None = other
value_or other (Some r) = r

not_thread : (moment size : ℕ) (rec changed : CatRecord) → with_size moment size rec ≡ Some changed → is_thread rec ≡ false
not_thread moment size (Folder folder) changed is = refl
not_thread moment size (File file) changed is = refl
not_thread moment size (Thread thread) changed is = absurd (let no : None ≡ Some changed = is in cc no)

module _ (law : TruncDoes) (v w : Volume) (a b : Space) (settled : IsSettled v a.content) (holds : IsStanding v a) (stands : IsStanding w b) (entry : Entry) (size : ℕ)
    (sets : SetsSize v.header.modify_date size entry v w a.content b.content) (there : value_at (lists_of v a.content).catalog_pairs entry.parent entry.name ≡ Some entry.rec) (fits : is_thread entry.rec ≡ false → FitsRecord entry.rec)
    (path : List (List ℕ)) (node : PlainNode) (allowed : to_trunc (tree_of a.content) path size ≡ Ok node) (number : node.id ≡ id_in entry.rec) (short : size ≤ length node.bytes)
  where
    abbrev old : VolumeState
    old = volume_of a.content

    abbrev new : VolumeState
    new = lists_then a.content w b.content

    abbrev moment : ℕ
    moment = v.header.modify_date

    pairs_are : (volume_of a.content).catalog_pairs ≡ (lists_of v a.content).catalog_pairs
    pairs_are = ap (λ (l : VolumeState). l.catalog_pairs) settled.lists

    head_is : (volume_of a.content).head ≡ v.header
    head_is = ap (λ (l : VolumeState). l.head) settled.lists

    header_same : w.header ≡ v.header
    header_same = ap (λ (x : Volume). x.header) sets.replaces.rest

    -- ---- the file

    its : IsFileOf (volume_of a.content) (bytes_in a.content) node
    unfolding tree_of
    its =
        let is = trunc_file (tree_of a.content) path size node allowed in
        file_of_node (volume_of a.content) settled.sound (settled_sorted v a.content holds.trees settled) (bytes_in a.content) node is.0 is.1

    abbrev file : FileRecord
    file = its.file

    abbrev sized : ForkRecord
    sized = record its.file.data_fork { logical_size = size }

    updated : UpdatesEntry entry.parent entry.name sets.rec (volume_of a.content).catalog_pairs (lists_of w b.content).catalog_pairs
    updated = subst (λ (l : List Pair). UpdatesEntry entry.parent entry.name sets.rec l (lists_of w b.content).catalog_pairs) (sym pairs_are) sets.replaces.updates

    there_now : value_at (volume_of a.content).catalog_pairs entry.parent entry.name ≡ Some entry.rec
    there_now = ap (λ (l : List Pair). value_at l entry.parent entry.name) pairs_are ∙ there

    found_value : {rec : CatRecord} (u : UpdatesEntry entry.parent entry.name rec (volume_of a.content).catalog_pairs (lists_of w b.content).catalog_pairs) → u.entry.value ≡ entry.rec
    found_value u = some_same u.entry.value entry.rec (sym (ap (option_map (λ (p : Placed). p.value)) u.found) ∙ there_now)

    rec_is : entry.rec ≡ File its.file
    rec_is =
        let found = found_some (is_placed_at entry.parent entry.name) (records_of (volume_of a.content)) updated.entry updated.found in
        let kind : is_thread updated.entry.value ≡ false = ap is_thread (found_value updated) ∙ not_thread moment size entry.rec sets.rec sets.made in
        let named : is_empty updated.entry.name ≡ false =
        sym (each_of (λ (p : Placed). is_thread p.value ≡ is_empty p.name) (records_of (volume_of a.content)) settled.sound.entries.threads.kinds updated.entry found.0) ∙ kind in
        let one : updated.entry ≡ its.entry = same_entry (volume_of a.content).head.next_catalog_id (entries_of (records_of (volume_of a.content))) settled.sound.entries.ids updated.entry its.entry
        (is_entry_of (records_of (volume_of a.content)) updated.entry found.0 named) its.stands
        (ap id_in (found_value updated) ∙ sym number ∙ its.id ∙ sym (ap id_in its.value)) in
        sym (found_value updated) ∙ ap (λ (p : Placed). p.value) one ∙ its.value

    new_rec : sets.rec ≡ File (rewritten kinds.Data moment sized its.file)
    new_rec = some_same sets.rec (File (rewritten kinds.Data moment sized its.file)) (sym sets.made ∙ ap (with_size moment size) rec_is)

    long : length (file_bytes a.content its.file).data_bytes ≡ its.file.data_fork.logical_size
    long = bytes_long a.content settled.sound data_kind (inl refl) its.file its.entry its.stands its.value

    short_fork : size ≤ its.file.data_fork.logical_size
    short_fork = omega (arith, short, ap (λ (l : List ℕ). length l) its.bytes, long)

    file_fits : FitsFile its.file
    file_fits = subst FitsRecord rec_is (fits (not_thread moment size entry.rec sets.rec sets.made))

    is_record : IsRecordOf kinds.Data moment entry.parent entry.name (record its.file.data_fork { logical_size = size }) its.file (volume_of a.content).catalog_pairs (lists_of w b.content).catalog_pairs
    is_record =
        let u : UpdatesEntry entry.parent entry.name (File (rewritten kinds.Data moment sized its.file)) (volume_of a.content).catalog_pairs (lists_of w b.content).catalog_pairs =
        subst (λ (r : CatRecord). UpdatesEntry entry.parent entry.name r (volume_of a.content).catalog_pairs (lists_of w b.content).catalog_pairs) new_rec updated in
        record {
          updates = u;
          value = found_value u ∙ rec_is;
          no_link = its.no_link;
          fits = file_fits;
          fits_fork = record { logical_size = omega (arith, short_fork, file_fits.data_fork.logical_size); clump_size = file_fits.data_fork.clump_size; total_blocks = file_fits.data_fork.total_blocks; extents = file_fits.data_fork.extents };
        }

    -- ---- the lists

    nodes : HasSameNodes (volume_of a.content).catalog_tree (facts_on w.catalog.file)
    nodes = record {
      total = sets.replaces.changes.nodes.0 ∙ sym (ap (λ (l : VolumeState). l.catalog_tree.shape.total) settled.lists);
      size = sets.replaces.changes.nodes.1 ∙ sym (ap (λ (l : VolumeState). l.catalog_tree.shape.node_size) settled.lists);
    }

    rest : lists_then a.content w b.content ≡ record (volume_of a.content) { catalog_pairs = (lists_of w b.content).catalog_pairs; catalog_tree = facts_on w.catalog.file }
    rest =
        (λ i. record (sets.replaces.changes.lists i) { attributes_tree = (volume_of a.content).attributes_tree })
        ∙ sym (λ i. record (settled.lists i) { head = w.header; catalog_pairs = (lists_of w b.content).catalog_pairs; catalog_tree = facts_on w.catalog.file })
        ∙ (λ i. record (volume_of a.content) { head = (header_same ∙ sym head_is) i; catalog_pairs = (lists_of w b.content).catalog_pairs; catalog_tree = facts_on w.catalog.file })

    is_moment : v.header.modify_date ≡ (volume_of a.content).head.modify_date
    is_moment = sym (ap (λ (h : VolumeHeader). h.modify_date) head_is)

    rewrites : RewritesFile node.id 0 0 [] (volume_of a.content) (lists_then a.content w b.content)
    rewrites = shortens node.id size moment entry.parent entry.name its.file (volume_of a.content) (lists_then a.content w b.content) (sym its.id) short_fork is_record settled.sound is_moment nodes rest

    does : IsSoundVolume (lists_then a.content w b.content) × (tree_in (lists_then a.content w b.content) (bytes_in a.content) ≡ (step (tree_in (volume_of a.content) (bytes_in a.content)) (command.Trunc path size)).1)
    unfolding tree_of rewrites
    does = law path size node 0 0 [] (volume_of a.content) (lists_then a.content w b.content) (bytes_in a.content) (bytes_in a.content) (file_bytes_are a.content) settled.sound allowed rewrites
        (shortens_makes node.id size moment entry.parent entry.name its.file (volume_of a.content) (lists_then a.content w b.content) (sym its.id) short_fork is_record settled.sound is_moment nodes rest a.content refl long)

    headed : header_of_volume b.content ≡ w.header
    headed = sets.replaces.headed ∙ header_settled v a.content settled ∙ sym header_same

    private : private_id (placed_in (lists_of w b.content).catalog_pairs) ≡ private_id (placed_in (lists_of v a.content).catalog_pairs)
    private =
        private_again kinds.Data moment entry.parent entry.name sized its.file (volume_of a.content) (lists_then a.content w b.content) is_record settled.sound
        ∙ ap (λ (l : List Pair). private_id (placed_in l)) pairs_are

    settled_now : IsSettled w b.content
    settled_now = settles_again v w a b sets.replaces.changes settled holds stands headed does.0 private

    lists_now : volume_of b.content ≡ lists_then a.content w b.content
    lists_now = lists_again v w a b sets.replaces.changes settled holds settled_now

    pub shortened : IsSettled w b.content × (tree_of b.content ≡ (step (tree_of a.content) (command.Trunc path size)).1) × IsShortened path size a.content b.content
    unfolding tree_of
    shortened = (
      settled_now,
      tree_again v w a b sets.replaces.changes settled holds stands headed does.0 ∙ does.1,
      record {
        file = node;
        allowed = allowed;
        short = short;
        rewrites = subst (λ (l : VolumeState). RewritesFile node.id 0 0 [] (volume_of a.content) l) (sym lists_now) rewrites;
        blocks = λ id kind. ap (λ (l : VolumeState). blocks_at l id kind) lists_now
            ∙ blocks_again moment entry.parent entry.name sized its.file (volume_of a.content) (lists_then a.content w b.content) is_record settled.sound refl rest id kind;
      },
    )

-- the same of a volume that was read before: its content and its tree are those that they were
pub size_set : (law : TruncDoes) (v w : Volume) (a b : Space) → IsSettled v a.content → StandsOver v a → IsTrue a.tells → b.tells ≡ a.tells → (entry : Entry) (size : ℕ)
    → value_at (lists_of v a.content).catalog_pairs entry.parent entry.name ≡ Some entry.rec → (is_thread entry.rec ≡ false → FitsRecord entry.rec) → (before : Content) → a.content ≡ before → (path : List (List ℕ)) (node : PlainNode) → to_trunc (tree_of before) path size ≡ Ok node
    → node.id ≡ id_in entry.rec → size ≤ length node.bytes → StandsOver w b → SetsSize v.header.modify_date size entry v w a.content b.content
    → IsSettled w b.content × (tree_of b.content ≡ (step (tree_of before) (command.Trunc path size)).1) × IsShortened path size before b.content
size_set law v w a b settled was tells same entry size there fits before content path node allowed number short stands sets =
    let does = shortened law v w a b settled (was.stands tells) (stands.stands (same ∙ tells)) entry size sets there fits path node (ap (λ (c : Content). to_trunc (tree_of c) path size) content ∙ allowed) number short in
    (does.0, does.1 ∙ ap (λ (c : Content). (step (tree_of c) (command.Trunc path size)).1) content, subst (λ (c : Content). IsShortened path size c b.content) content does.2)
