-- `trunc` and `write` that put no data: what they answer, and what watchers are told.
use Rattle.std.proofs.Common.{◌≡◌, ◌≤◌, ℕ, Bool, true, false, List, [], ◌∷◌, length, refl, sym, ◌∙◌, ap, subst, arith}
use Rattle.std.specs.Prelude.{◌||◌, nat_lt, Some, None, Result, Ok, Err, if◌then◌else◌}
use Rattle.std.proofs.lemmas.Bool.{le-ltb}
use Rattle.jnl_format.specs.Keeping.{IsSame}
use Rattle.jnl_format.specs.Recovery.{Content}
use Rattle.volume_header.specs.declared.header.VolumeHeader.{VolumeHeader}
use Rattle.hfs_language.specs.declared.command.Command.TheVariants as command
use Rattle.hfs_language.specs.declared.refusal.Refusal.{Refusal}
use Rattle.hfs_language.specs.declared.refusal.Refusal.TheVariants as refusal
use Rattle.hfs_language.specs.declared.reply.Change.{Change}
use Rattle.hfs_language.specs.declared.reply.ChangeKind.TheVariants as change
use Rattle.hfs_language.specs.declared.reply.Reply.{Reply}
use Rattle.hfs_language.specs.declared.reply.Reply.TheVariants as reply
use Rattle.hfs_model.specs.Step.{is_private_path, most_size, on, reached, step, step_line, then_, to_file, to_node, to_trunc, to_write, unless, written}
use Rattle.hfs_model.specs.declared.plain.PlainEntry.{PlainEntry}
use Rattle.hfs_model.specs.declared.plain.PlainNode.{PlainNode}
use Rattle.hfs_model.specs.declared.plain.PlainTree.{PlainTree}
use Rattle.hfs_volume.specs.Content.{VolumeState, volume_of}
use Rattle.hfs_volume.specs.Sound.{IsSound}
use Rattle.volume_runs.specs.Told.{of_entry}
use Rattle.hfs_volume.specs.TreeOf.{tree_of}
use Rattle.hfs_volume.specs.Weight.{Data, data_of, grown_data, written_data}
use Rattle.hfs_volume.specs.Changes.{with_free}
use Rattle.hfs_volume.proofs.Reaching.{then_ok, unless_ok}
use Rattle.volume_space.specs.Resizing.{IsShortened}
use Rattle.volume_step.specs.Steps.{Affords, KeepsJournal, StepsTo}
use Rattle.volume_step.specs.declared.outcome.Outcome.TheVariants as outcome
use Rattle.volume_step.proofs.Done.{done_steps, line_free, line_ok, or_none, reached_node}
use Rattle.volume_step.proofs.Kept.{Keeps, keeps_none, values_same}
use Rattle.volume_step.proofs.Served.{journal_kept}

-- the file of a step that isn't refused
about : (tree : PlainTree) (path : List (List ℕ)) (size : ℕ) (file : PlainNode) → to_trunc tree path size ≡ Ok file → (to_file tree path ≡ Ok file) × (to_node tree path ≡ Ok file)
about tree path size file allowed =
    let first = then_ok (to_file tree path) (unless (nat_lt most_size size) refusal.TooLarge) file allowed in
    let same : first.0 ≡ file = (unless_ok (nat_lt most_size size) refusal.TooLarge first.0 file first.2).1 in
    let own = then_ok (to_node tree path) (λ n. unless n.folder refusal.IsFolder n) first.0 first.1 in
    (first.1 ∙ ap Ok same, own.1 ∙ ap Ok ((unless_ok own.0.folder refusal.IsFolder own.0 first.0 own.2).1 ∙ same))

-- it puts no data
no_data : (tree : PlainTree) (path : List (List ℕ)) (size : ℕ) (file : PlainNode) → to_trunc tree path size ≡ Ok file → size ≤ length file.bytes → data_of tree (command.Trunc path size) ≡ None
no_data tree path size file allowed short =
    ap (grown_data size) (about tree path size file allowed).0 ∙ ap (λ b. if b then Some grown else None) (le-ltb (length file.bytes) size short)
  where
    grown : Data
    grown = record { id = file.id; old_size = length file.bytes; new_size = size; from = length file.bytes; end = size }

same_numbers : (free next : ℕ) (head : VolumeHeader) → IsSame head (with_free free next head)
same_numbers free next head = record { signature = refl; version = refl; last_mounted = refl; info_block = refl; block_size = refl; total_blocks = refl; bit_12 = refl; bit_13 = refl; bit_15 = refl }

shortened_keeps : (path : List (List ℕ)) (size : ℕ) (before after : Content) → IsShortened path size before after → Keeps (volume_of before) (volume_of after)
shortened_keeps path size before after it =
    let puts = it.rewrites.puts in
    let dates = it.rewrites.dates.changes in
    let head : (volume_of after).head ≡ with_free puts.free puts.next (volume_of before).head = ap (λ (v : VolumeState). v.head) dates.rest ∙ ap (λ (v : VolumeState). v.head) puts.puts.rest in
    record {
      forks = record {
        blocks = it.blocks;
        extents = ap (λ (v : VolumeState). v.extents_tree.shape.total) dates.rest ∙ puts.puts.extents_nodes.total;
        catalog = dates.nodes.total ∙ puts.puts.catalog_nodes.total;
        attributes = ap (λ (v : VolumeState). v.attributes_tree.shape.total) dates.rest ∙ ap (λ (v : VolumeState). v.attributes_tree.shape.total) puts.puts.rest;
        journal = ap (λ (v : VolumeState). v.journal) dates.rest ∙ ap (λ (v : VolumeState). v.journal) puts.puts.rest;
        flags = ap (λ (h : VolumeHeader). h.attributes) head;
        same = subst (λ (h : VolumeHeader). IsSame (volume_of before).head h) (sym head) (same_numbers puts.free puts.next (volume_of before).head);
      };
      pairs = ap (λ (v : VolumeState). v.attribute_pairs) dates.rest ∙ ap (λ (v : VolumeState). v.attribute_pairs) puts.puts.rest;
    }

-- ---- `trunc`

module _ (capacity number : ℕ) (path : List (List ℕ)) (size : ℕ) (before after : Content) (sound_before : IsSound before) (sound_after : IsSound after) (affords : Affords capacity (command.Trunc path size) before) (said : Reply)
    (reply_is : said ≡ (step_line (tree_of before) (Ok (command.Trunc path size))).0) (tree : tree_of after ≡ (step_line (tree_of before) (Ok (command.Trunc path size))).1) (lists : said ≡ reply.Ok → IsShortened path size before after)
  where
    fine : said ≡ reply.Ok
    fine = reply_is ∙ line_ok (tree_of before) (command.Trunc path size) refl affords.no_refusal

    keeps : Keeps (volume_of before) (volume_of after)
    keeps = shortened_keeps path size before after (lists fine)

    pub trunc_steps : (changes : List Change) → (is_private_path path ≡ false → (entry : PlainEntry) → reached (tree_of before) path ≡ Ok entry → changes ≡ of_entry number change.Content (Ok entry))
        → StepsTo (outcome.Answered said changes) capacity number (command.Trunc path size) before after
    trunc_steps changes told =
        let it = lists fine in
        let at = reached_node (tree_of before) path it.file (about (tree_of before) path size it.file it.allowed).1 in
        done_steps capacity number (command.Trunc path size) before after sound_before sound_after affords said refl (no_data (tree_of before) path size it.file it.allowed it.short) reply_is tree keeps.forks (values_same (volume_of before) (volume_of after) keeps) changes
        (told (or_none (is_private_path path) (line_free (tree_of before) (command.Trunc path size) affords.no_refusal)) at.0 at.1 ∙ ap (of_entry number change.Content) (sym at.1))

    pub trunc_place : KeepsJournal before after
    trunc_place = journal_kept before after keeps.forks

-- ---- `write` of no byte

none_is : (value : List ℕ) → length value ≡ 0 → value ≡ []
none_is [] none = refl
none_is (byte ∷ value) none = absurd (omega (arith, none))

same_tree : (tree : PlainTree) (path : List (List ℕ)) (from : ℕ) → tree ≡ (step_line tree (Ok (command.Write path from []))).1
same_tree tree path from = by (is_private_path path)
  where
    by_file : (r : Result PlainNode Refusal) → tree ≡ (on tree r (λ file. (reply.Ok, written file from [] tree))).1
    by_file (Ok file) = refl
    by_file (Err why) = refl

    by : (b : Bool) → tree ≡ (if b || false then (reply.No refusal.Private, tree) else step tree (command.Write path from [])).1
    by true = refl
    by false = by_file (to_write tree path from [])

nothing_put : (tree : PlainTree) (path : List (List ℕ)) (from : ℕ) → data_of tree (command.Write path from []) ≡ None
nothing_put tree path from = by (to_file tree path)
  where
    by : (r : Result PlainNode Refusal) → written_data from 0 r ≡ None
    by (Ok file) = refl
    by (Err why) = refl

pub nothing_steps : (capacity number : ℕ) (path : List (List ℕ)) (from : ℕ) (value : List ℕ) (before : Content) → length value ≡ 0 → IsSound before → Affords capacity (command.Write path from value) before → (changes : List Change) → changes ≡ []
    → StepsTo (outcome.Answered reply.Ok changes) capacity number (command.Write path from value) before before
nothing_steps capacity number path from value before empty sound affords changes none =
    subst (λ v. StepsTo (outcome.Answered reply.Ok changes) capacity number (command.Write path from v) before before) (sym (none_is value empty))
    (done_steps capacity number (command.Write path from []) before before sound sound here reply.Ok refl (nothing_put (tree_of before) path from) (sym (line_ok (tree_of before) (command.Write path from []) refl here.no_refusal)) (same_tree (tree_of before) path from)
    (keeps_none (volume_of before)).forks (values_same (volume_of before) (volume_of before) (keeps_none (volume_of before))) changes none)
  where
    here : Affords capacity (command.Write path from []) before
    here = subst (λ v. Affords capacity (command.Write path from v) before) (none_is value empty) affords
