-- What `rm` takes of the room for puts is within its load.
use Rattle.std.proofs.Common.{◌≡◌, ◌<◌, ◌≤◌, ℕ, ◌+◌, ◌*◌, ◌/◌, ◌^◌, Bool, true, false, not, List, [], ◌∷◌, ◌++◌, inl, inr, refl, sym, ◌∙◌, ap, subst, arith}
use Rattle.std.specs.Prelude.{◌==◌, nat_lt, is_some, Option, None, Some, Result, Ok, Err, if◌then◌else◌}
use Rattle.std.specs.Option.{ok_or, option_map}
use Rattle.std.proofs.lemmas.Bool.{eqb-true, true≢false}
use Rattle.sector_disk.specs.Lists.{Content}
use Rattle.sector_disk.specs.Space.{Space}
use Rattle.btree_node.specs.Levels.{Pair}
use Rattle.cat_records.specs.declared.record.CatRecord.{CatRecord}
use Rattle.cat_records.specs.declared.record.CatRecord.TheVariants.{Folder, File, Thread}
use Rattle.cat_records.specs.declared.record.FileRecord.{FileRecord}
use Rattle.catalog.specs.Pairs.{value_at}
use Rattle.hard_links.specs.Identity.{file_or, identity_of}
use Rattle.hard_links.specs.Linking.{NamesLink}
use Rattle.hfs_language.specs.Written.{FitsPath}
use Rattle.hfs_language.specs.declared.command.Command.TheVariants as command
use Rattle.hfs_language.specs.declared.refusal.Refusal.{Refusal}
use Rattle.hfs_language.specs.declared.refusal.Refusal.TheVariants as refusal
use Rattle.hfs_model.specs.Plain.{IsPlainTree, is_node, names_of, node_at}
use Rattle.hfs_model.specs.Step.{is_private_path, is_root, then_, to_node}
use Rattle.hfs_model.specs.declared.plain.PlainEntry.{PlainEntry}
use Rattle.hfs_model.specs.declared.plain.PlainNode.{PlainNode}
use Rattle.hfs_model.specs.declared.plain.PlainTree.{PlainTree}
use Rattle.hfs_model.proofs.Below.{front-last, last_name-last}
use Rattle.hfs_volume.specs.Books.{SoundHasPlainTree}
use Rattle.hfs_volume.specs.Content.{VolumeState, attributes_of, records_of, volume_of}
use Rattle.hfs_volume.specs.Cost.{catalog_key, cost_of, growth, tree_load}
use Rattle.hfs_volume.specs.Forks.{catalog_id}
use Rattle.hfs_volume.specs.Links.{node_name, private_id}
use Rattle.hfs_volume.specs.Records.{Placed, entries_of, id_in, id_of, is_link_type}
use Rattle.hfs_volume.specs.TreeOf.{bytes_in, tree_in, tree_of, valued}
use Rattle.hfs_volume.specs.Weight.{Edits, cost_of_tree, edits, edits_of, extents_in_use, free_blocks, needs_for, rm_edits, rm_edits_at, room_with, weight, weight_with}
use Rattle.hfs_volume.specs.declared.cost.Cost.TheVariants as cost
use Rattle.hfs_volume.proofs.Flat.{found_some}
use Rattle.hfs_volume.proofs.Hiding.{same_entry}
use Rattle.hfs_volume.proofs.Seeing.{same_number}
use Rattle.volume_base.specs.Lists.{lists_of}
use Rattle.volume_base.specs.Losing.{IsLoss, losing_under, place_of, to_lose}
use Rattle.volume_base.specs.Making.{catalog_cost}
use Rattle.volume_base.specs.Nodes.{file_node, node_in, node_reached}
use Rattle.volume_base.specs.Reaching.{child_in, folder_reached, named, walk_in}
use Rattle.volume_base.specs.Room.{capacity_of}
use Rattle.volume_base.specs.Standing.{IsSettled, IsStanding}
use Rattle.volume_base.specs.declared.losing.Losing.{Losing}
use Rattle.volume_base.specs.declared.nodes.Node.{Node}
use Rattle.volume_base.specs.declared.nodes.Node.TheVariants as node
use Rattle.volume_base.specs.declared.reaching.Reached.{Reached}
use Rattle.volume_base.specs.declared.reaching.Reached.TheVariants as reached_as
use Rattle.volume_base.specs.declared.volume.Volume.{Volume}
use Rattle.volume_base.specs.declared.weighing.Edits.{Edits as Asked}
use Rattle.volume_names.specs.Moving.{replace_edits}
use Rattle.volume_base.proofs.Listed.{entries_are, nodes_are}
use Rattle.volume_base.proofs.Loads.{counts_edits, growth_any}
use Rattle.volume_base.proofs.Lost.{is_loss, link_name, lost}
use Rattle.volume_base.proofs.NodeIs.{IsNode, node_same}
use Rattle.volume_base.proofs.Refused.{reached_kind}
use Rattle.volume_base.proofs.Rising.{settled_is_plain, settled_sorted}
use Rattle.volume_base.proofs.Siting.{front_walk}
use Rattle.volume_base.proofs.Walked.{Agree}
use Rattle.volume_names.specs.LinkLoads.{PutsItsLoad}
use Rattle.volume_names.specs.LossLoads.{AsLinkLost, AsLost, AsNameLost, SpendsFor, SpendsLoss, loss_edits}
use Rattle.volume_names.specs.Unlinking.{links_in}
use Rattle.volume_names.proofs.LastFile.{other_record}

-- ---- the record of the name

abbrev record_or : CatRecord → Option CatRecord → CatRecord
record_or other None = other
record_or other (Some r) = r

-- The record that a path reaches is the file's that is found for its removal.
record Walked (pairs : List Pair) (path : List (List ℕ)) (at : Losing) (name : List ℕ) : Type 0 where
  file : FileRecord
  walks : walk_in pairs reached_as.Root path ≡ Ok (reached_as.File file)
  link : at.link ≡ is_link_type file.fields
  value : value_at pairs at.parent name ≡ Some (File file)

not_root : (above : List (List ℕ)) (name : List ℕ) → is_root (above ++ name ∷ []) ≡ false
not_root [] name = refl
not_root (first ∷ above) name = refl

abbrev parent_or : Result Losing Refusal → Losing → Losing
parent_or (Ok at) other = at
parent_or (Err why) other = other

walked : (pairs : List Pair) (above : List (List ℕ)) (name : List ℕ) (at : Losing) → losing_under pairs above name ≡ Ok at → Walked pairs (above ++ name ∷ []) at name
walked pairs above name at is = by (walk_in pairs reached_as.Root above) refl is
  where
    path : List (List ℕ)
    path = above ++ name ∷ []

    steps : walk_in pairs reached_as.Root (above ++ name ∷ []) ≡ then_ (walk_in pairs reached_as.Root above) (λ n. child_in pairs n name)
    steps = front_walk pairs (above ++ name ∷ []) (not_root above name) reached_as.Root ∙ (λ i. then_ (walk_in pairs reached_as.Root (front-last above name i)) (λ n. child_in pairs n (last_name-last above name i)))

    by_value : (id : ℕ) (r : Reached) (o : Option CatRecord) → walk_in pairs reached_as.Root above ≡ Ok r → folder_reached r ≡ Ok id → value_at pairs id name ≡ o → then_ (named o) (to_lose id) ≡ Ok at → Walked pairs (above ++ name ∷ []) at name
    by_value id r None reaches folder found same = absurd (cc same)
    by_value id r (Some (Folder folder)) reaches kind found same = absurd (cc same)
    by_value id r (Some (Thread thread)) reaches kind found same = absurd (cc same)
    by_value id r (Some (File file)) reaches kind found same =
        let is_it : record { parent = id; link = is_link_type file.fields } ≡ at = ap (λ (k : Result Losing Refusal). parent_or k at) same in
        record {
          file = file;
          walks = steps ∙ ap (λ (k : Result Reached Refusal). then_ k (λ n. child_in pairs n name)) reaches ∙ ap (λ (k : Result ℕ Refusal). then_ k (λ id. named (value_at pairs id name))) kind ∙ ap named found;
          link = sym (ap (λ (k : Losing). k.link) is_it);
          value = ap (λ (k : Losing). value_at pairs k.parent name) (sym is_it) ∙ found;
        }

    by_folder : (r : Reached) (f : Result ℕ Refusal) → walk_in pairs reached_as.Root above ≡ Ok r → folder_reached r ≡ f → then_ f (λ id. then_ (named (value_at pairs id name)) (to_lose id)) ≡ Ok at → Walked pairs (above ++ name ∷ []) at name
    by_folder r (Err why) reaches kind same = absurd (cc same)
    by_folder r (Ok id) reaches kind same = by_value id r (value_at pairs id name) reaches kind refl same

    by : (k : Result Reached Refusal) → walk_in pairs reached_as.Root above ≡ k → then_ (then_ k folder_reached) (λ id. then_ (named (value_at pairs id name)) (to_lose id)) ≡ Ok at → Walked pairs (above ++ name ∷ []) at name
    by (Err why) reaches same = absurd (cc same)
    by (Ok r) reaches same = by_folder r (folder_reached r) reaches refl same

-- a file that is no link's is the record's own
own_itself : (pairs : List Pair) (private : Option ℕ) (file : FileRecord) → is_link_type file.fields ≡ false → file_node pairs private file ≡ node.File file false
own_itself pairs None file isnt = refl
own_itself pairs (Some private) file isnt =
    ap (λ (b : Bool). let own = if b then file_or file (value_at pairs private (node_name file.fields.special)) else file in node.File own (not (own.fields.id == file.fields.id))) isnt
    ∙ ap (λ (b : Bool). node.File file (not b)) (same_number file.fields.id)

-- which file the record stands for
record Stands (pairs : List Pair) (private : Option ℕ) (file : FileRecord) : Type 0 where
  own : FileRecord
  linked : Bool
  is : file_node pairs private file ≡ node.File own linked
  alone : linked ≡ false → own.fields.id ≡ file.fields.id

not_false : (b : Bool) → not b ≡ false → b ≡ true
not_false true is = refl
not_false false is = absurd (true≢false is)

stands_for : (pairs : List Pair) (private : Option ℕ) (file : FileRecord) → Stands pairs private file
stands_for pairs None file = record { own = file; linked = false; is = refl; alone = λ none. refl }
stands_for pairs (Some private) file =
    let own = identity_of pairs private file in
    record { own = own; linked = not (own.fields.id == file.fields.id); is = refl; alone = λ none. eqb-true own.fields.id file.fields.id (not_false (own.fields.id == file.fields.id) none) }

more_is : (k : ℕ) → 1 < k → nat_lt 1 k ≡ true
more_is k some = grind (arith, some)

few_is : (k : ℕ) → k ≤ 1 → nat_lt 1 k ≡ false
few_is k low = grind (arith, low)

private_is : (content : Content) → (tree_of content).has_private ≡ is_some (private_id (records_of (volume_of content)))
unfolding tree_of tree_in
private_is content = refl

-- the edits of a `mv` over a file
abbrev replaced : ℕ → ℕ → Asked
replaced ids catalog = record { ids = ids; catalog = catalog; attributes = 0; updates = 6 }

-- they are asked for with six updates
pub replace_updates : (private : Option ℕ) (link : Bool) (links : ℕ) → (replace_edits private link links).updates ≡ 6
replace_updates private true links = by (nat_lt 1 links)
  where
    by : (b : Bool) → (if b then replaced 0 5 else replaced 0 8).updates ≡ 6
    by true = refl
    by false = refl
replace_updates None false links = refl
replace_updates (Some id) false links = refl

-- ---- the load

module _ (v : Volume) (a : Space) (settled : IsSettled v a.content) (path : List (List ℕ)) where
  extents : ℕ
  extents = extents_in_use (volume_of a.content) catalog_id (volume_of a.content).head.catalog_fork

  weighs : (n : ℕ) (grow : List ℕ) (many : Edits) → edits_of (tree_of a.content) (command.Rm path) ≡ many → weight (capacity_of v) (volume_of a.content) (tree_of a.content) (command.Rm path) ≡ cost.Load n grow
      → cost_of (needs_for (free_blocks (volume_of a.content)) (volume_of a.content) many None) (room_with (capacity_of v) (free_blocks (volume_of a.content)) (volume_of a.content)) ≡ cost.Load n grow
  unfolding weight_with
  weighs n grow many same is =
      ap (λ (k : Edits). cost_of (needs_for (free_blocks (volume_of a.content)) (volume_of a.content) k None) (room_with (capacity_of v) (free_blocks (volume_of a.content)) (volume_of a.content))) (sym same) ∙ is

  spent_for : (ids made : ℕ) (b : Space) → edits_of (tree_of a.content) (command.Rm path) ≡ edits ids made 0 4 → SpendsFor made v a b → PutsItsLoad (command.Rm path) v a b
  unfolding extents
  spent_for ids made b same spends n grow is =
      let grows : growth (volume_of a.content).head.block_size catalog_key (cost_of_tree (volume_of a.content).catalog_tree extents) made ≡ 0 =
      growth_any (volume_of a.content).head.block_size catalog_key made extents 0 (volume_of a.content).catalog_tree ∙ (λ i. growth (settled.lists i).head.block_size catalog_key (cost_of_tree (settled.lists i).catalog_tree 0) made) ∙ spends.grown in
      let load : tree_load catalog_key (cost_of_tree (volume_of a.content).catalog_tree extents) made (growth (volume_of a.content).head.block_size catalog_key (cost_of_tree (volume_of a.content).catalog_tree extents) made) ≡ tree_load catalog_key (catalog_cost v) made 0 =
      ap (tree_load catalog_key (cost_of_tree (volume_of a.content).catalog_tree extents) made) grows ∙ (λ i. tree_load catalog_key (cost_of_tree (settled.lists i).catalog_tree 0) made 0) in
      omega (
        arith,
        counts_edits (free_blocks (volume_of a.content)) (capacity_of v) (volume_of a.content) (edits ids made 0 4) n grow (weighs n grow (edits ids made 0 4) same is),
        ap (λ (l : VolumeState). l.catalog_tree.shape.node_size / 512) settled.lists,
        load,
        spends.spent,
      )

module _ (law : SoundHasPlainTree) (v : Volume) (a : Space) (was : IsStanding v a) (settled : IsSettled v a.content) (next_fits : v.header.next_catalog_id < 2 ^ 32)
    (above : List (List ℕ)) (name : List ℕ) (not_own : is_private_path (above ++ name ∷ []) ≡ false) (fits : FitsPath (above ++ name ∷ []))
    (said : Result Losing Refusal) (found : said ≡ losing_under (lists_of v a.content).catalog_pairs above name) (at : Losing) (is : said ≡ Ok at)
  where
    abbrev path : List (List ℕ)
    path = above ++ name ∷ []

    abbrev pairs : List Pair
    pairs = (lists_of v a.content).catalog_pairs

    abbrev tree : PlainTree
    tree = tree_of a.content

    abbrev entry : PlainEntry
    entry = lost law v a.content was.trees settled above name not_own fits said found at is

    loss : IsLoss tree path entry (place_of at name)
    loss = is_loss law v a.content was.trees settled above name not_own fits said found at is

    plain : IsPlainTree tree
    plain = settled_is_plain law v a.content was.trees settled

    abbrev IsIt : Node → PlainNode → Type 0
    IsIt = IsNode (volume_of a.content) settled.sound (settled_sorted v a.content was.trees settled) tree (entries_are a.content) plain (valued (bytes_in a.content) (attributes_of (volume_of a.content))) (bytes_in a.content) (nodes_are a.content)

    there : (n : PlainNode) × (node_at tree entry.id ≡ Some n)
    there = let kind = reached_kind tree plain path entry loss.reaches_it in (kind.0, kind.1)

    number : there.0.id ≡ entry.id
    number = eqb-true there.0.id entry.id (found_some (is_node entry.id) tree.nodes there.0 there.1).1

    to_it : to_node tree path ≡ Ok there.0
    to_it = ap (λ (r : Result PlainEntry Refusal). then_ r (λ e. ok_or (node_at tree e.id) refusal.NotFound)) loss.reaches_it ∙ ap (λ (o : Option PlainNode). ok_or o refusal.NotFound) there.1

    walk : Walked pairs path at name
    walk = walked pairs above name at (sym found ∙ is)

    agrees : Agree IsIt (node_in pairs v.private path) (to_node tree path)
    agrees =
        subst (λ (r : Result Node Refusal). Agree IsIt r (to_node tree path)) (sym (λ i. node_in (sym (ap (λ (l : VolumeState). l.catalog_pairs) settled.lists) i) (settled.private i) path))
        (node_same (volume_of a.content) settled.sound (settled_sorted v a.content was.trees settled) tree (entries_are a.content) plain (valued (bytes_in a.content) (attributes_of (volume_of a.content))) (bytes_in a.content) (nodes_are a.content) path not_own fits)

    here : (f : Node) → file_node pairs v.private walk.file ≡ f → IsIt f there.0
    here f same =
        subst (λ (k : Result Node Refusal × Result PlainNode Refusal). Agree IsIt k.0 k.1)
        (λ i. ((ap (λ (r : Result Reached Refusal). then_ r (node_reached pairs v.private)) walk.walks ∙ ap (λ (g : Node). Ok g) same) i, to_it i)) agrees

    edits_here : edits_of tree (command.Rm path) ≡ rm_edits tree (Some there.0)
    edits_here = ap (rm_edits_at tree) loss.allowed ∙ ap (rm_edits tree) there.1

    private_here : tree.has_private ≡ is_some v.private
    private_here = private_is a.content ∙ ap (λ (o : Option ℕ). is_some o) (sym settled.private)

    -- by whether it has other names, and was shared
    edits_are : (b linked : Bool) → nat_lt 1 (names_of tree there.0.id) ≡ b → there.0.linked ≡ linked
        → edits_of tree (command.Rm path) ≡ (if b then edits 0 2 0 4 else if linked then edits 0 5 0 4 else edits (if is_some v.private then 0 else 1) (3 + 2 * (if is_some v.private then 0 else 1)) 0 4)
    edits_are b linked names kind =
        edits_here ∙ (λ i. if names i then edits 0 2 0 4 else if kind i then edits 0 5 0 4 else edits (if private_here i then 0 else 1) (3 + 2 * (if private_here i then 0 else 1)) 0 4)

    alone : at.link ≡ false → edits_of tree (command.Rm path) ≡ edits (if is_some v.private then 0 else 1) (3 + 2 * (if is_some v.private then 0 else 1)) 0 4
    alone none =
        let it = here (node.File walk.file false) (own_itself pairs v.private walk.file (sym walk.link ∙ none)) in
        edits_are false false (ap (nat_lt 1) (ap (λ (m : PlainNode). names_of tree m.id) it.is ∙ it.counts)) (ap (λ (m : PlainNode). m.linked) it.is)

    -- a name that is a link leads to a file that is shared
    module _ (linked : at.link ≡ true) where
      for : Stands pairs v.private walk.file
      for = stands_for pairs v.private walk.file

      link : NamesLink (place_of at name) pairs
      link = link_name pairs above name at (sym found ∙ is) linked

      link_value : link.entry.value ≡ File walk.file
      link_value = ap (record_or link.entry.value) (sym (ap (option_map (λ (p : Placed). p.value)) link.found) ∙ walk.value)

      shared : IsIt (node.File for.own true) there.0
      shared = by for.linked refl (here (node.File for.own for.linked) for.is)
        where
          by : (l : Bool) → for.linked ≡ l → IsIt (node.File for.own l) there.0 → IsIt (node.File for.own true) there.0
          by false kind it =
              let its : id_of it.entry ≡ for.own.fields.id = ap id_in it.value in
              absurd (other_record v a settled was path entry (place_of at name) loss link entry.id refl next_fits it.entry it.stands (its ∙ sym (ap (λ (m : PlainNode). m.id) it.is) ∙ number)
              (its ∙ for.alone kind ∙ sym (ap id_in link_value)))
          by true kind it = it

      is_shared : there.0.linked ≡ true
      is_shared = ap (λ (m : PlainNode). m.linked) shared.is

    module _ (holds : ℕ → Type 0) where
      name_edits : at.link ≡ false → AsNameLost holds v → (ids made : ℕ) × (edits_of tree (command.Rm path) ≡ edits ids made 0 4) × holds made
      name_edits none lost = elim lost [
        | inl it ↦ (0, 3, alone none ∙ ap (λ (t : Bool). edits (if t then 0 else 1) (3 + 2 * (if t then 0 else 1)) 0 4) it.0, it.1)
        | inr it ↦ (1, 5, alone none ∙ ap (λ (o : Option ℕ). edits (if is_some o then 0 else 1) (3 + 2 * (if is_some o then 0 else 1)) 0 4) it.0, it.1)
      ]

      link_edits : at.link ≡ true → AsLinkLost holds entry.id a.content → (ids made : ℕ) × (edits_of tree (command.Rm path) ≡ edits ids made 0 4) × holds made
      link_edits linked lost =
          let it = shared linked in
          let its : id_of it.entry ≡ entry.id = ap id_in it.value ∙ sym (ap (λ (m : PlainNode). m.id) it.is) ∙ number in
          let one : lost.file ≡ it.entry = same_entry (volume_of a.content).head.next_catalog_id (entries_of (records_of (volume_of a.content))) settled.sound.entries.ids lost.file it.entry lost.stands it.stands (lost.number ∙ sym its) in
          let links : links_in lost.file.value ≡ (for linked).own.fields.special = ap (λ (p : Placed). links_in p.value) one ∙ ap links_in it.value in
          let names : names_of tree there.0.id ≡ links_in lost.file.value = ap (λ (m : PlainNode). names_of tree m.id) it.is ∙ it.counts ∙ sym links in
          elim lost.spends [
            | inl two ↦ (0, 2, edits_are true true (ap (nat_lt 1) names ∙ more_is (links_in lost.file.value) two.0) (is_shared linked), two.1)
            | inr five ↦ (0, 5, edits_are false true (ap (nat_lt 1) names ∙ few_is (links_in lost.file.value) five.0) (is_shared linked), five.1)
          ]

      -- what is told of the edits by which the name goes is told of those that its weight counts
      edits_told : AsLost holds at.link entry.id v a.content → (ids made : ℕ) × (edits_of tree (command.Rm path) ≡ edits ids made 0 4) × holds made
      edits_told = by at.link refl
        where
          by : (l : Bool) → at.link ≡ l → AsLost holds l entry.id v a.content → (ids made : ℕ) × (edits_of tree (command.Rm path) ≡ edits ids made 0 4) × holds made
          by true linked lost = link_edits linked lost
          by false none lost = name_edits none lost

      pub loss_counted : AsLost holds at.link entry.id v a.content → holds (loss_edits tree path)
      loss_counted lost = let it = edits_told lost in subst holds (sym (ap (λ (k : Edits). k.catalog) it.2)) it.3

    -- what a `mv` over it is asked to have room for
    module _ (links : ℕ) (told : links ≡ names_of tree entry.id) where
      by_names : (more : Bool) → nat_lt 1 links ≡ more → (replace_edits v.private true links).catalog ≡ (if more then edits 0 2 0 4 else edits 0 5 0 4).catalog + 3
      by_names true is = ap (λ (b : Bool). (if b then replaced 0 5 else replaced 0 8).catalog) is
      by_names false is = ap (λ (b : Bool). (if b then replaced 0 5 else replaced 0 8).catalog) is

      by_private : (private : Option ℕ) → (replace_edits private false links).catalog ≡ 3 + 2 * (if is_some private then 0 else 1) + 3
      by_private None = refl
      by_private (Some id) = refl

      by_link : (l : Bool) → at.link ≡ l → (replace_edits v.private l links).catalog ≡ loss_edits tree path + 3
      by_link true linked =
          by_names (nat_lt 1 links) refl
          ∙ (λ i. (if nat_lt 1 ((told ∙ ap (names_of tree) (sym number)) i) then edits 0 2 0 4 else edits 0 5 0 4).catalog + 3)
          ∙ sym (ap (λ (k : Edits). k.catalog + 3) (edits_are (nat_lt 1 (names_of tree there.0.id)) true refl (is_shared linked)))
      by_link false none = by_private v.private ∙ sym (ap (λ (k : Edits). k.catalog + 3) (alone none))

      pub replaces_counted : (replace_edits v.private at.link links).catalog ≡ loss_edits tree path + 3
      replaces_counted = by_link at.link refl

    pub loss_load : (b : Space) → SpendsLoss at.link entry.id v a b → PutsItsLoad (command.Rm path) v a b
    loss_load b lost = let it = edits_told (λ made. SpendsFor made v a b) lost in spent_for v a settled path it.0 it.1 b it.2 it.3
