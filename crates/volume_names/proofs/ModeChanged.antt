-- `chmod`: where the record of a folder or file got other rights, the volume is settled again, and its tree is the step's.
use Rattle.std.proofs.Common.{◌≡◌, ◌<◌, ℕ, List, refl, sym, ◌∙◌, ap, subst}
use Rattle.std.specs.Prelude.{Some, Ok, IsTrue}
use Rattle.sector_disk.specs.Lists.{Content}
use Rattle.sector_disk.specs.Space.{Space}
use Rattle.jnl_format.specs.Recovery.{header_of_volume}
use Rattle.btree_node.specs.Levels.{Pair}
use Rattle.catalog.specs.Entries.{UpdatesEntry}
use Rattle.catalog.specs.Pairs.{value_at}
use Rattle.hfs_language.specs.declared.command.Command.TheVariants as command
use Rattle.hfs_model.specs.Step.{step, to_node}
use Rattle.hfs_model.specs.declared.plain.PlainNode.{PlainNode}
use Rattle.volume_header.specs.declared.header.VolumeHeader.{VolumeHeader}
use Rattle.hfs_volume.specs.Changes.{HasSameNodes}
use Rattle.hfs_volume.specs.Commands.{ChangesMode, ChmodDoes}
use Rattle.hfs_volume.specs.Content.{VolumeState, volume_of}
use Rattle.hfs_volume.specs.Laws.{SoundIsBoth}
use Rattle.hfs_volume.specs.Links.{private_id}
use Rattle.hfs_volume.specs.Records.{placed_in, id_in}
use Rattle.hfs_volume.specs.Sound.{IsSoundVolume}
use Rattle.hfs_volume.specs.TreeOf.{bytes_in, tree_in, tree_of}
use Rattle.hfs_volume.proofs.Bytes.{file_bytes_are}
use Rattle.hfs_volume.proofs.Telling.{private_after_fields}
use Rattle.volume_names.specs.Changing.{SetsRights}
use Rattle.volume_names.specs.Entering.{with_mode}
use Rattle.volume_base.specs.Lists.{lists_of, facts_on}
use Rattle.volume_base.specs.Standing.{IsStanding, IsSettled, StandsOver}
use Rattle.volume_base.specs.declared.entries.Entry.{Entry}
use Rattle.volume_base.specs.declared.volume.Volume.{Volume}
use Rattle.volume_base.proofs.ListsAgain.{lists_again}
use Rattle.volume_names.proofs.Righting.{changes_mode}
use Rattle.volume_base.proofs.Settling.{lists_then, settles_again, tree_again, header_settled}

module _ (law : ChmodDoes) (halves : (volume : VolumeState) → SoundIsBoth volume) (v w : Volume) (a b : Space) (settled : IsSettled v a.content) (was : IsStanding v a) (stands : IsStanding w b) (entry : Entry) (rights : ℕ) (low : rights < 4096)
    (sets : SetsRights v.header.modify_date rights entry v w a.content b.content) (there : value_at (lists_of v a.content).catalog_pairs entry.parent entry.name ≡ Some entry.rec)
  where
    abbrev old : VolumeState
    old = volume_of a.content

    abbrev new : VolumeState
    new = lists_then a.content w b.content

    pairs_are : (volume_of a.content).catalog_pairs ≡ (lists_of v a.content).catalog_pairs
    pairs_are = ap (λ (l : VolumeState). l.catalog_pairs) settled.lists

    head_is : (volume_of a.content).head ≡ v.header
    head_is = ap (λ (l : VolumeState). l.head) settled.lists

    header_same : w.header ≡ v.header
    header_same = ap (λ (x : Volume). x.header) sets.replaces.rest

    updates : UpdatesEntry entry.parent entry.name sets.rec (volume_of a.content).catalog_pairs (lists_of w b.content).catalog_pairs
    updates = subst (λ (l : List Pair). UpdatesEntry entry.parent entry.name sets.rec l (lists_of w b.content).catalog_pairs) (sym pairs_are) sets.replaces.updates

    nodes : HasSameNodes (volume_of a.content).catalog_tree (facts_on w.catalog.file)
    nodes = record {
      total = sets.replaces.changes.nodes.0 ∙ sym (ap (λ (l : VolumeState). l.catalog_tree.shape.total) settled.lists);
      size = sets.replaces.changes.nodes.1 ∙ sym (ap (λ (l : VolumeState). l.catalog_tree.shape.node_size) settled.lists);
    }

    rest : lists_then a.content w b.content ≡ record (volume_of a.content) { catalog_pairs = (lists_of w b.content).catalog_pairs; catalog_tree = facts_on w.catalog.file }
    rest =
        (λ i. record (sets.replaces.changes.lists i) { attributes_tree = (volume_of a.content).attributes_tree })
        ∙ sym (λ i. record (settled.lists i) { head = w.header; catalog_pairs = (lists_of w b.content).catalog_pairs; catalog_tree = facts_on w.catalog.file })
        ∙ (λ i. record (volume_of a.content) { head = (header_same ∙ sym head_is) i; catalog_pairs = (lists_of w b.content).catalog_pairs; catalog_tree = facts_on w.catalog.file })

    changes : ChangesMode (id_in entry.rec) rights (volume_of a.content) (lists_then a.content w b.content)
    changes = changes_mode (id_in entry.rec) rights entry.parent entry.name sets.rec (volume_of a.content) (lists_then a.content w b.content) low updates nodes rest entry.rec
        (ap (λ (l : List Pair). value_at l entry.parent entry.name) pairs_are ∙ there) (ap (λ (h : VolumeHeader). with_mode h.modify_date rights entry.rec) head_is ∙ sets.made) refl

    module _ (path : List (List ℕ)) (node : PlainNode) (allowed : to_node (tree_of a.content) path ≡ Ok node) (number : node.id ≡ id_in entry.rec) where
      does : IsSoundVolume (lists_then a.content w b.content) × (tree_in (lists_then a.content w b.content) (bytes_in a.content) ≡ (step (tree_in (volume_of a.content) (bytes_in a.content)) (command.Chmod path rights)).1)
      unfolding tree_of
      does = law path rights node (volume_of a.content) (lists_then a.content w b.content) (bytes_in a.content) (file_bytes_are a.content) settled.sound allowed
          (subst (λ id. ChangesMode id rights (volume_of a.content) (lists_then a.content w b.content)) (sym number) changes)

      headed : header_of_volume b.content ≡ w.header
      headed = sets.replaces.headed ∙ header_settled v a.content settled ∙ sym header_same

      private : private_id (placed_in (lists_of w b.content).catalog_pairs) ≡ private_id (placed_in (lists_of v a.content).catalog_pairs)
      private = private_after_fields (id_in entry.rec) (volume_of a.content) (lists_then a.content w b.content) changes.does ((halves (volume_of a.content)).0 settled.sound).0 ∙ ap (λ (l : List Pair). private_id (placed_in l)) pairs_are

      settled_now : IsSettled w b.content
      settled_now = settles_again v w a b sets.replaces.changes settled was stands headed does.0 private

      pub mode_does : IsSettled w b.content × (tree_of b.content ≡ (step (tree_of a.content) (command.Chmod path rights)).1) × ChangesMode (id_in entry.rec) rights (volume_of a.content) (volume_of b.content)
      unfolding tree_of
      mode_does = (
        settled_now,
        tree_again v w a b sets.replaces.changes settled was stands headed does.0 ∙ does.1,
        subst (λ (l : VolumeState). ChangesMode (id_in entry.rec) rights (volume_of a.content) l) (sym (lists_again v w a b sets.replaces.changes settled was settled_now)) changes,
      )

-- the same of a volume that was read before: its content and its tree are those that they were
pub mode_set : (law : ChmodDoes) → ((volume : VolumeState) → SoundIsBoth volume) → (v w : Volume) (a b : Space) → IsSettled v a.content → StandsOver v a → IsTrue a.tells → b.tells ≡ a.tells → (entry : Entry) (rights : ℕ) → rights < 4096
    → value_at (lists_of v a.content).catalog_pairs entry.parent entry.name ≡ Some entry.rec → (before : Content) → a.content ≡ before → (path : List (List ℕ)) (node : PlainNode) → to_node (tree_of before) path ≡ Ok node → node.id ≡ id_in entry.rec
    → StandsOver w b → SetsRights v.header.modify_date rights entry v w a.content b.content → IsSettled w b.content × (tree_of b.content ≡ (step (tree_of before) (command.Chmod path rights)).1) × ChangesMode (id_in entry.rec) rights (volume_of before) (volume_of b.content)
mode_set law halves v w a b settled was tells same entry rights low there before content path node allowed number stands sets =
    let does = mode_does law halves v w a b settled (was.stands tells) (stands.stands (same ∙ tells)) entry rights low sets there path node (ap (λ (c : Content). to_node (tree_of c) path) content ∙ allowed) number in
    (does.0, does.1 ∙ ap (λ (c : Content). (step (tree_of c) (command.Chmod path rights)).1) content, subst (λ (c : Content). ChangesMode (id_in entry.rec) rights (volume_of c) (volume_of b.content)) content does.2)
