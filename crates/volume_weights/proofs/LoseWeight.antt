-- What `rm` weighs, by the record of what it removes.
use Rattle.std.proofs.Common.{◌≡◌, ℕ, ◌+◌, ◌*◌, Bool, true, false, List, [], ◌∷◌, length, refl, sym, ◌∙◌, ap, subst}
use Rattle.std.specs.Prelude.{◌==◌, nat_lt, is_some, Option, Some, None, Result, Ok, Err, if◌then◌else◌}
use Rattle.std.specs.Option.{ok_or}
use Rattle.std.proofs.lemmas.Bool.{true≢false}
use Rattle.sector_disk.specs.Lists.{Content}
use Rattle.btree_node.specs.Levels.{Pair}
use Rattle.cat_records.specs.declared.record.CatRecord.{CatRecord}
use Rattle.cat_records.specs.declared.record.CatRecord.TheVariants.{Folder, File, Thread}
use Rattle.cat_records.specs.declared.record.FileRecord.{FileRecord}
use Rattle.catalog.specs.Children.{children_in}
use Rattle.catalog.specs.declared.folder.Child.{Child}
use Rattle.hfs_language.specs.Written.{FitsPath}
use Rattle.hfs_language.specs.declared.command.Command.TheVariants as command
use Rattle.hfs_language.specs.declared.refusal.Refusal.{Refusal}
use Rattle.hfs_language.specs.declared.refusal.Refusal.TheVariants as refusal
use Rattle.hfs_model.specs.Plain.{IsPlainTree, names_of, node_at}
use Rattle.hfs_model.specs.Step.{is_private_path, is_root, reached, then_, to_node, to_rm, unless}
use Rattle.hfs_model.specs.declared.plain.PlainEntry.{PlainEntry}
use Rattle.hfs_model.specs.declared.plain.PlainNode.{PlainNode}
use Rattle.hfs_model.specs.declared.plain.PlainTree.{PlainTree}
use Rattle.hfs_volume.specs.Books.{SoundHasPlainTree}
use Rattle.hfs_volume.specs.Content.{VolumeState, attributes_of, records_of, volume_of}
use Rattle.hfs_volume.specs.Cost.{cost_of}
use Rattle.hfs_volume.specs.Links.{private_id}
use Rattle.hfs_volume.specs.TreeOf.{bytes_in, tree_in, tree_of, valued}
use Rattle.hfs_volume.specs.Weight.{Edits as Asked, edits, edits_of, folders_made, free_blocks, needs_for, rm_edits, rm_edits_at, room_with, weight, weight_with}
use Rattle.volume_base.specs.Lists.{lists_of}
use Rattle.volume_base.specs.Losing.{lose_edits}
use Rattle.volume_weights.specs.Losing.{link_edits, loss_weighed, last_edits, unlink_edits}
use Rattle.volume_base.specs.Nodes.{folder_node, node_in, node_reached, root_node}
use Rattle.volume_base.specs.Reaching.{walk_in}
use Rattle.volume_base.specs.declared.reaching.Reached.{Reached}
use Rattle.volume_base.specs.declared.reaching.Reached.TheVariants as reached_as
use Rattle.volume_base.specs.Standing.{HoldsTrees, IsSettled}
use Rattle.volume_base.specs.Weighing.{edits_weighed, joined, refused_or, weighed}
use Rattle.volume_base.specs.declared.nodes.Node.{Node}
use Rattle.volume_base.specs.declared.nodes.Node.TheVariants as node
use Rattle.volume_base.specs.declared.volume.Volume.{Volume}
use Rattle.volume_base.specs.declared.weighing.Edits.{Edits as Spent}
use Rattle.volume_base.specs.declared.weighing.Weight.{Weight}
use Rattle.volume_base.specs.declared.weighing.Weight.TheVariants as answer
use Rattle.volume_base.proofs.Listed.{entries_are, nodes_are}
use Rattle.volume_base.proofs.Lost.{lost_line, private_line, refused_line}
use Rattle.volume_base.proofs.NodeIs.{IsNode, node_same}
use Rattle.volume_base.proofs.Refused.{reached_kind, rooted}
use Rattle.volume_base.proofs.Rising.{settled_is_plain, settled_sorted}
use Rattle.volume_base.proofs.Walked.{Agree}

-- ---- on a tree

abbrev value_or : PlainNode → Result PlainNode Refusal → PlainNode
value_or other (Ok n) = n
value_or other (Err why) = other

abbrev entry_err : Result PlainNode Refusal → Result PlainEntry Refusal
entry_err (Ok n) = Err refusal.NotFound
entry_err (Err why) = Err why

module _ (tree : PlainTree) (path : List (List ℕ)) (some : is_root path ≡ false) where
  -- a file that is reached is what `rm` removes
  rm_of : (e : PlainEntry) (folder : Bool) → reached tree path ≡ Ok e → e.folder ≡ folder → to_rm tree path ≡ (if folder then Err refusal.IsFolder else Ok e)
  rm_of e folder is kind =
      ap (λ (b : Bool). then_ (if b then Err refusal.Root else Ok path) (λ named. then_ (reached tree named) (λ at. unless at.folder refusal.IsFolder at))) some
      ∙ ap (λ (r : Result PlainEntry Refusal). then_ r (λ at. unless at.folder refusal.IsFolder at)) is
      ∙ ap (λ (b : Bool). unless b refusal.IsFolder e) kind

  rm_unreached : (why : Refusal) → reached tree path ≡ Err why → to_rm tree path ≡ Err why
  rm_unreached why is =
      ap (λ (b : Bool). then_ (if b then Err refusal.Root else Ok path) (λ named. then_ (reached tree named) (λ at. unless at.folder refusal.IsFolder at))) some
      ∙ ap (λ (r : Result PlainEntry Refusal). then_ r (λ at. unless at.folder refusal.IsFolder at)) is

  module _ (plain : IsPlainTree tree) where
    -- the folder or file of a path, and its name
    pub record IsThere (n : PlainNode) : Type 0 where
      pub entry : PlainEntry
      pub found : node_at tree entry.id ≡ Some n
      pub removal : to_rm tree path ≡ (if n.folder then Err refusal.IsFolder else Ok entry)

    pub there : (n : PlainNode) → to_node tree path ≡ Ok n → IsThere n
    there n is = by (reached tree path) refl is
      where
        by : (r : Result PlainEntry Refusal) → reached tree path ≡ r → then_ r (λ at. ok_or (node_at tree at.id) refusal.NotFound) ≡ Ok n → IsThere n
        by (Err why) found same = absurd (cc same)
        by (Ok e) found same =
            let kind = reached_kind tree plain path e found in
            let n_is : kind.0 ≡ n = ap (λ (r : Result PlainNode Refusal). value_or kind.0 r) (sym (ap (λ (o : Option PlainNode). ok_or o refusal.NotFound) kind.1) ∙ same) in
            record { entry = e; found = kind.1 ∙ ap (λ (m : PlainNode). Some m) n_is; removal = rm_of e n.folder found (sym kind.2 ∙ ap (λ (m : PlainNode). m.folder) n_is) }

    pub missing : (why : Refusal) → to_node tree path ≡ Err why → to_rm tree path ≡ Err why
    missing why is = by (reached tree path) refl is
      where
        by : (r : Result PlainEntry Refusal) → reached tree path ≡ r → then_ r (λ at. ok_or (node_at tree at.id) refusal.NotFound) ≡ Err why → to_rm tree path ≡ Err why
        by (Err other) found same = rm_unreached other found ∙ ap (λ (r : Result PlainNode Refusal). entry_err r) same
        by (Ok e) found same =
            let kind = reached_kind tree plain path e found in
            absurd (let none : Ok kind.0 ≡ Err why = sym (ap (λ (o : Option PlainNode). ok_or o refusal.NotFound) kind.1) ∙ same in cc none)

-- ---- over records

-- the record of a file is a link's, if it is one
abbrev linked_in : Result Node Refusal → Bool
linked_in (Ok (node.File own b)) = b
linked_in (Ok (node.Folder folder)) = false
linked_in (Err why) = false

folder_alone : (own : FileRecord) (b : Bool) (value : CatRecord) → folder_node value ≡ Ok (node.File own b) → b ≡ false
folder_alone own b (Folder folder) same = absurd (cc same)
folder_alone own b (File file) same = absurd (cc same)
folder_alone own b (Thread thread) same = absurd (cc same)

root_alone : (own : FileRecord) (b : Bool) (children : List Child) → root_node children ≡ Ok (node.File own b) → b ≡ false
root_alone own b [] same = absurd (cc same)
root_alone own b (child ∷ rest) same = folder_alone own b child.rec same

-- without a private folder no record is
no_link : (pairs : List Pair) (own : FileRecord) (b : Bool) (r : Result Reached Refusal) → then_ r (node_reached pairs None) ≡ Ok (node.File own b) → b ≡ false
no_link pairs own b (Err why) same = absurd (cc same)
no_link pairs own b (Ok reached_as.Root) same = root_alone own b (children_in 1 pairs) same
no_link pairs own b (Ok (reached_as.Folder folder)) same = absurd (cc same)
no_link pairs own b (Ok (reached_as.File file)) same = sym (ap linked_in same)

-- ---- over a settled volume

-- the edits, in the weight's words
abbrev asked_to_lose : Option ℕ → Asked
asked_to_lose None = edits 1 5 0 4
asked_to_lose (Some private) = edits 0 3 0 4

asked_is : (private : Option ℕ) → edits (if is_some private then 0 else 1) (3 + 2 * (if is_some private then 0 else 1)) 0 4 ≡ asked_to_lose private
asked_is None = refl
asked_is (Some private) = refl

-- what was spent, in the weight's words
abbrev pub as_asked : Spent → Asked
as_asked spent = edits spent.ids spent.catalog spent.attributes spent.updates

asked_as : (private : Option ℕ) → asked_to_lose private ≡ as_asked (lose_edits private)
asked_as None = refl
asked_as (Some private) = refl

pub has_private_is : (content : Content) → (tree_of content).has_private ≡ is_some (private_id (records_of (volume_of content)))
unfolding tree_of tree_in
has_private_is content = refl

module _ (capacity : ℕ) (takable : List Bool) (volume : VolumeState) (tree : PlainTree) (path : List (List ℕ)) (not_own : is_private_path path ≡ false) where
  abbrev words : Weight
  words = weighed capacity takable volume tree (command.Rm path)

  pub lose_refused : (why : Refusal) → to_rm tree path ≡ Err why → answer.Refused why ≡ words
  lose_refused why is = ap (λ said. refused_or said (joined (weight capacity volume tree (command.Rm path)) (weight_with capacity takable volume tree (command.Rm path)))) (refused_line tree path why not_own is).0

  weights : weight capacity volume tree (command.Rm path) ≡ cost_of (needs_for (free_blocks volume) volume (edits_of tree (command.Rm path)) None) (room_with capacity (free_blocks volume) volume)
  unfolding weight_with
  weights = refl

  takable_weights : weight_with capacity takable volume tree (command.Rm path) ≡ cost_of (needs_for takable volume (edits_of tree (command.Rm path)) None) (room_with capacity takable volume)
  unfolding weight_with
  takable_weights = refl

  pub lose_allowed : (private : Option ℕ) (e : PlainEntry) → to_rm tree path ≡ Ok e → edits_of tree (command.Rm path) ≡ asked_to_lose private → edits_weighed capacity takable volume (lose_edits private) ≡ words
  lose_allowed None e is asked =
      sym ((λ i. joined (weights i) (takable_weights i))
      ∙ ap (λ (k : Asked). joined (cost_of (needs_for (free_blocks volume) volume k None) (room_with capacity (free_blocks volume) volume)) (cost_of (needs_for takable volume k None) (room_with capacity takable volume))) asked)
      ∙ ap (λ said. refused_or said (joined (weight capacity volume tree (command.Rm path)) (weight_with capacity takable volume tree (command.Rm path)))) (lost_line tree path e not_own is).0
  lose_allowed (Some private) e is asked =
      sym ((λ i. joined (weights i) (takable_weights i))
      ∙ ap (λ (k : Asked). joined (cost_of (needs_for (free_blocks volume) volume k None) (room_with capacity (free_blocks volume) volume)) (cost_of (needs_for takable volume k None) (room_with capacity takable volume))) asked)
      ∙ ap (λ said. refused_or said (joined (weight capacity volume tree (command.Rm path)) (weight_with capacity takable volume tree (command.Rm path)))) (lost_line tree path e not_own is).0

  pub unlink_allowed : (e : PlainEntry) → to_rm tree path ≡ Ok e → edits_of tree (command.Rm path) ≡ edits 0 2 0 4 → edits_weighed capacity takable volume unlink_edits ≡ words
  unlink_allowed e is asked =
      sym ((λ i. joined (weights i) (takable_weights i))
      ∙ ap (λ (k : Asked). joined (cost_of (needs_for (free_blocks volume) volume k None) (room_with capacity (free_blocks volume) volume)) (cost_of (needs_for takable volume k None) (room_with capacity takable volume))) asked)
      ∙ ap (λ said. refused_or said (joined (weight capacity volume tree (command.Rm path)) (weight_with capacity takable volume tree (command.Rm path)))) (lost_line tree path e not_own is).0

  pub last_allowed : (e : PlainEntry) → to_rm tree path ≡ Ok e → edits_of tree (command.Rm path) ≡ edits 0 5 0 4 → edits_weighed capacity takable volume last_edits ≡ words
  last_allowed e is asked =
      sym ((λ i. joined (weights i) (takable_weights i))
      ∙ ap (λ (k : Asked). joined (cost_of (needs_for (free_blocks volume) volume k None) (room_with capacity (free_blocks volume) volume)) (cost_of (needs_for takable volume k None) (room_with capacity takable volume))) asked)
      ∙ ap (λ said. refused_or said (joined (weight capacity volume tree (command.Rm path)) (weight_with capacity takable volume tree (command.Rm path)))) (lost_line tree path e not_own is).0

module _ (capacity : ℕ) (takable : List Bool) (volume : VolumeState) (tree : PlainTree) (path : List (List ℕ)) where
  pub private_weighed : is_private_path path ≡ true → answer.Refused refusal.Private ≡ weighed capacity takable volume tree (command.Rm path)
  private_weighed own = ap (λ said. refused_or said (joined (weight capacity volume tree (command.Rm path)) (weight_with capacity takable volume tree (command.Rm path)))) (private_line tree path own).0

  pub root_weighed : (length path == 0) ≡ true → answer.Refused refusal.Root ≡ weighed capacity takable volume tree (command.Rm path)
  root_weighed is = sym (ap (λ (p : List (List ℕ)). weighed capacity takable volume tree (command.Rm p)) (rooted path is))

module _ (law : SoundHasPlainTree) (v : Volume) (content : Content) (holds : HoldsTrees v content) (settled : IsSettled v content) (path : List (List ℕ)) (not_own : is_private_path path ≡ false) (fits : FitsPath path) (some : is_root path ≡ false)
    (said : Result Node Refusal) (found : said ≡ node_in (lists_of v content).catalog_pairs v.private path) (takable : List Bool)
  where
    plain : IsPlainTree (tree_of content)
    plain = settled_is_plain law v content holds settled

    abbrev IsIt : Node → PlainNode → Type 0
    IsIt = IsNode (volume_of content) settled.sound (settled_sorted v content holds settled) (tree_of content) (entries_are content) (settled_is_plain law v content holds settled) (valued (bytes_in content) (attributes_of (volume_of content))) (bytes_in content) (nodes_are content)

    agrees : Agree IsIt said (to_node (tree_of content) path)
    agrees =
        subst (λ (r : Result Node Refusal). Agree IsIt r (to_node (tree_of content) path)) (sym (found ∙ (λ i. node_in (sym (ap (λ (l : VolumeState). l.catalog_pairs) settled.lists) i) (settled.private i) path)))
        (node_same (volume_of content) settled.sound (settled_sorted v content holds settled) (tree_of content) (entries_are content) (settled_is_plain law v content holds settled) (valued (bytes_in content) (attributes_of (volume_of content))) (bytes_in content) (nodes_are content) path not_own fits)

    abbrev words_here : Weight
    words_here = weighed v.capacity takable (volume_of content) (tree_of content) (command.Rm path)

    abbrev loss_here : Weight
    loss_here = edits_weighed v.capacity takable (volume_of content) (lose_edits v.private)

    abbrev unlink_here : Spent → Weight
    unlink_here = edits_weighed v.capacity takable (volume_of content)

    -- why nothing is removed
    pub rm_missing : (why : Refusal) → said ≡ Err why → to_rm (tree_of content) path ≡ Err why
    rm_missing why is = by (to_node (tree_of content) path) refl (subst (λ (r : Result Node Refusal). Agree IsIt r (to_node (tree_of content) path)) is agrees)
      where
        by : (s : Result PlainNode Refusal) → to_node (tree_of content) path ≡ s → Agree IsIt (Err why) s → to_rm (tree_of content) path ≡ Err why
        by (Err other) same agree = missing (tree_of content) path some plain why (same ∙ ap (λ (w : Refusal). Err w) (sym agree))
        by (Ok n) same never = absurd never

    private_here : is_some v.private ≡ (tree_of content).has_private
    private_here = ap (λ (o : Option ℕ). is_some o) settled.private ∙ sym (has_private_is content)

    module _ (n : PlainNode) (at : IsThere (tree_of content) path some plain n) where
      edits_here : (kind : n.folder ≡ false) → edits_of (tree_of content) (command.Rm path) ≡ rm_edits (tree_of content) (Some n)
      edits_here kind = ap (rm_edits_at (tree_of content)) (at.removal ∙ ap (λ (b : Bool). if b then Err refusal.IsFolder else Ok at.entry) kind) ∙ ap (rm_edits (tree_of content)) at.found

      -- what its removal edits, where it has one name and is no link's
      of_alone : n.folder ≡ false → n.linked ≡ false → names_of (tree_of content) n.id ≡ 1 → edits_of (tree_of content) (command.Rm path) ≡ asked_to_lose v.private
      of_alone kind plain_file one =
          edits_here kind ∙ (λ i. if nat_lt 1 (one i) then edits 0 2 0 4 else if plain_file i then edits 0 5 0 4 else edits (if sym private_here i then 0 else 1) (3 + 2 * (if sym private_here i then 0 else 1)) 0 4) ∙ asked_is v.private

      of_file : n.folder ≡ false → n.linked ≡ false → names_of (tree_of content) n.id ≡ 1 → loss_here ≡ words_here
      of_file kind plain_file one =
          lose_allowed v.capacity takable (volume_of content) (tree_of content) path not_own v.private at.entry (at.removal ∙ ap (λ (b : Bool). if b then Err refusal.IsFolder else Ok at.entry) kind) (of_alone kind plain_file one)

      -- the edits where it is a link's, by how many names it has
      of_linked : n.folder ≡ false → n.linked ≡ true → (links : ℕ) → names_of (tree_of content) n.id ≡ links → (b : Bool) → nat_lt 1 links ≡ b → edits_of (tree_of content) (command.Rm path) ≡ as_asked (if b then unlink_edits else last_edits)
      of_linked kind linked links many false is = edits_here kind ∙ (λ i. if (ap (nat_lt 1) many ∙ is) i then edits 0 2 0 4 else if linked i then edits 0 5 0 4 else edits (folders_made (tree_of content)) (3 + 2 * folders_made (tree_of content)) 0 4)
      of_linked kind linked links many true is = edits_here kind ∙ ap (λ (b : Bool). if b then edits 0 2 0 4 else if n.linked then edits 0 5 0 4 else edits (folders_made (tree_of content)) (3 + 2 * folders_made (tree_of content)) 0 4) (ap (nat_lt 1) many ∙ is)

      of_link : n.folder ≡ false → n.linked ≡ true → (links : ℕ) → names_of (tree_of content) n.id ≡ links → (b : Bool) → nat_lt 1 links ≡ b → unlink_here (if b then unlink_edits else last_edits) ≡ words_here
      of_link kind linked links many false is =
          last_allowed v.capacity takable (volume_of content) (tree_of content) path not_own at.entry (at.removal ∙ ap (λ (b : Bool). if b then Err refusal.IsFolder else Ok at.entry) kind)
          (of_linked kind linked links many false is)
      of_link kind linked links many true is =
          unlink_allowed v.capacity takable (volume_of content) (tree_of content) path not_own at.entry (at.removal ∙ ap (λ (b : Bool). if b then Err refusal.IsFolder else Ok at.entry) kind)
          (of_linked kind linked links many true is)

    by_node : (f : Node) (n : PlainNode) → to_node (tree_of content) path ≡ Ok n → IsIt f n → loss_weighed f loss_here unlink_here ≡ words_here
    by_node (node.Folder folder) n is it =
        let at = there (tree_of content) path some plain n is in
        let removal : to_rm (tree_of content) path ≡ Err refusal.IsFolder = at.removal ∙ ap (λ (m : PlainNode). if m.folder then Err refusal.IsFolder else Ok at.entry) it.is in
        lose_refused v.capacity takable (volume_of content) (tree_of content) path not_own refusal.IsFolder removal
    by_node (node.File own true) n is it =
        let at = there (tree_of content) path some plain n is in
        let kind : n.folder ≡ false = ap (λ (m : PlainNode). m.folder) it.is in
        of_link n at kind (ap (λ (m : PlainNode). m.linked) it.is) own.fields.special (ap (λ (m : PlainNode). names_of (tree_of content) m.id) it.is ∙ it.counts) (nat_lt 1 own.fields.special) refl
    by_node (node.File own false) n is it =
        of_file n (there (tree_of content) path some plain n is) (ap (λ (m : PlainNode). m.folder) it.is) (ap (λ (m : PlainNode). m.linked) it.is) (ap (λ (m : PlainNode). names_of (tree_of content) m.id) it.is ∙ it.counts)

    pub loss_told : (f : Node) → said ≡ Ok f → (weighs : Weight) → weighs ≡ loss_weighed f loss_here unlink_here → weighs ≡ words_here
    loss_told f is weighs same =
        same ∙ by (to_node (tree_of content) path) refl (subst (λ (r : Result Node Refusal). Agree IsIt r (to_node (tree_of content) path)) is agrees)
      where
        by : (s : Result PlainNode Refusal) → to_node (tree_of content) path ≡ s → Agree IsIt (Ok f) s → loss_weighed f loss_here unlink_here ≡ words_here
        by (Ok n) at it = by_node f n at it
        by (Err why) at never = absurd never

    -- ---- the file, and what its removal edits

    pub file_is : (n : PlainNode) → to_node (tree_of content) path ≡ Ok n → n.folder ≡ false → (own : FileRecord) × (linked : Bool) × (said ≡ Ok (node.File own linked))
    file_is n is kind = by said refl (subst (λ (s : Result PlainNode Refusal). Agree IsIt said s) is agrees)
      where
        by : (r : Result Node Refusal) → said ≡ r → Agree IsIt r (Ok n) → (own : FileRecord) × (linked : Bool) × (said ≡ Ok (node.File own linked))
        by (Err why) same never = absurd never
        by (Ok (node.Folder folder)) same it = absurd (true≢false (sym (ap (λ (m : PlainNode). m.folder) it.is) ∙ kind))
        by (Ok (node.File own linked)) same it = (own, linked, same)

    module _ (own : FileRecord) (linked : Bool) (same : said ≡ Ok (node.File own linked)) where
      pub file_told : (n : PlainNode) × (to_node (tree_of content) path ≡ Ok n) × (n.folder ≡ false) × (n.id ≡ own.fields.id)
      file_told = by (to_node (tree_of content) path) refl (subst (λ (r : Result Node Refusal). Agree IsIt r (to_node (tree_of content) path)) same agrees)
        where
          by : (s : Result PlainNode Refusal) → to_node (tree_of content) path ≡ s → Agree IsIt (Ok (node.File own linked)) s → (n : PlainNode) × (to_node (tree_of content) path ≡ Ok n) × (n.folder ≡ false) × (n.id ≡ own.fields.id)
          by (Err why) at never = absurd never
          by (Ok n) at it = (n, at, ap (λ (m : PlainNode). m.folder) it.is, ap (λ (m : PlainNode). m.id) it.is)

      pub loss_edits : edits_of (tree_of content) (command.Rm path) ≡ as_asked (if linked then link_edits own.fields.special else lose_edits v.private)
      loss_edits = by (to_node (tree_of content) path) refl linked (subst (λ (r : Result Node Refusal). Agree IsIt r (to_node (tree_of content) path)) same agrees)
        where
          by : (s : Result PlainNode Refusal) → to_node (tree_of content) path ≡ s → (b : Bool) → Agree IsIt (Ok (node.File own b)) s → edits_of (tree_of content) (command.Rm path) ≡ as_asked (if b then link_edits own.fields.special else lose_edits v.private)
          by (Err why) at b never = absurd never
          by (Ok n) at true it =
              of_linked n (there (tree_of content) path some plain n at) (ap (λ (m : PlainNode). m.folder) it.is) (ap (λ (m : PlainNode). m.linked) it.is) own.fields.special (ap (λ (m : PlainNode). names_of (tree_of content) m.id) it.is ∙ it.counts) (nat_lt 1 own.fields.special) refl
          by (Ok n) at false it =
              of_alone n (there (tree_of content) path some plain n at) (ap (λ (m : PlainNode). m.folder) it.is) (ap (λ (m : PlainNode). m.linked) it.is) (ap (λ (m : PlainNode). names_of (tree_of content) m.id) it.is ∙ it.counts) ∙ asked_as v.private

    -- ---- where there is no private folder

    module _ (absent : v.private ≡ None) (e : PlainEntry) (loses : to_rm (tree_of content) path ≡ Ok e) where
      alone : (f : Node) → said ≡ Ok f → (s : Result PlainNode Refusal) → to_node (tree_of content) path ≡ s → Agree IsIt (Ok f) s → edits_of (tree_of content) (command.Rm path) ≡ asked_to_lose v.private
      alone f is (Err why) same never = absurd never
      alone (node.Folder folder) is (Ok n) same it =
          let at = there (tree_of content) path some plain n same in
          absurd (let both : Err refusal.IsFolder ≡ Ok e = sym (at.removal ∙ ap (λ (m : PlainNode). if m.folder then Err refusal.IsFolder else Ok at.entry) it.is) ∙ loses in cc both)
      alone (node.File own true) is (Ok n) same it =
          absurd (true≢false (no_link (lists_of v content).catalog_pairs own true (walk_in (lists_of v content).catalog_pairs reached_as.Root path) (sym (found ∙ ap (λ (p : Option ℕ). node_in (lists_of v content).catalog_pairs p path) absent) ∙ is)))
      alone (node.File own false) is (Ok n) same it =
          of_alone n (there (tree_of content) path some plain n same) (ap (λ (m : PlainNode). m.folder) it.is) (ap (λ (m : PlainNode). m.linked) it.is) (ap (λ (m : PlainNode). names_of (tree_of content) m.id) it.is ∙ it.counts)

      -- a file has one name, and is no link's
      pub rm_alone : edits_of (tree_of content) (command.Rm path) ≡ edits 1 5 0 4
      rm_alone = by said refl ∙ ap (λ (p : Option ℕ). asked_to_lose p) absent
        where
          by : (r : Result Node Refusal) → said ≡ r → edits_of (tree_of content) (command.Rm path) ≡ asked_to_lose v.private
          by (Err why) is = absurd (let both : Err why ≡ Ok e = sym (rm_missing why is) ∙ loses in cc both)
          by (Ok f) is = alone f is (to_node (tree_of content) path) refl (subst (λ (r : Result Node Refusal). Agree IsIt r (to_node (tree_of content) path)) is agrees)
