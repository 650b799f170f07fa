-- Ahead of a command that isn't refused no tree grows that isn't there: where there is no attributes file no folder or file has an attribute.
use Rattle.std.proofs.Common.{◌≡◌, ◌<◌, ℕ, Bool, true, false, List, [], ◌∷◌, ◌+◌, length, map, refl, sym, ◌∙◌, ap, arith}
use Rattle.std.specs.List.{Contains}
use Rattle.std.specs.Prelude.{find, nat_lt, not, sum, ok_or, slice_index, Option, None, Some, Result, Ok, Err, if◌then◌else◌}
use Rattle.std.proofs.lemmas.Bool.{true≢false}
use Rattle.jnl_format.specs.Recovery.{Content}
use Rattle.btree_node.specs.Levels.{Pair}
use Rattle.hfs_language.specs.declared.command.Command.{Command}
use Rattle.hfs_language.specs.declared.command.Command.TheVariants as command
use Rattle.hfs_language.specs.declared.refusal.Refusal.{Refusal}
use Rattle.hfs_language.specs.declared.refusal.Refusal.TheVariants as refusal
use Rattle.hfs_language.specs.declared.reply.Reply.TheVariants as reply
use Rattle.hfs_model.specs.Plain.{attribute_at, is_named, is_node, node_at, with_changed, without_attribute}
use Rattle.hfs_model.specs.Step.{Place, Step, is_refusal, marked, on, only_reads, reached, refuses, step, then_, to_attribute, to_link, to_mv, to_rm, to_rmdir}
use Rattle.hfs_model.specs.declared.plain.PlainAttribute.{PlainAttribute}
use Rattle.hfs_model.specs.declared.plain.PlainEntry.{PlainEntry}
use Rattle.hfs_model.specs.declared.plain.PlainNode.{PlainNode}
use Rattle.hfs_model.specs.declared.plain.PlainTree.{PlainTree}
use Rattle.hfs_volume.specs.Content.{VolumeState, attributes_of, has_attributes, records_of, volume_of}
use Rattle.hfs_volume.specs.Cost.{attributes_key, growth, overflow_records, tree_at}
use Rattle.hfs_volume.specs.Reclaim.{first_growth}
use Rattle.hfs_volume.specs.Records.{attribute_of}
use Rattle.hfs_volume.specs.TreeOf.{bytes_in, plain_attributes, tree_in, tree_of, valued}
use Rattle.hfs_volume.specs.Weight.{Edits, attribute_count, data_of, edits_of, lacks_tree, ln_edits, further_records, mv_edits, over_edits, place_edits, removed_values, rm_edits, rm_edits_at, rmdir_edits, room_with, runs_for, values_of_node, weight_with, with_values}
use Rattle.hfs_volume.specs.declared.cost.Cost.TheVariants as cost
use Rattle.hfs_volume.proofs.Flat.{found_some}
use Rattle.btree_file.specs.Standing.{pairs_in}
use Rattle.btree_file.specs.State.{sectors_of_tree}
use Rattle.volume_base.specs.Fitting.{needs_of}
use Rattle.volume_base.specs.Standing.{IsSettled}
use Rattle.volume_base.specs.declared.volume.Volume.{Volume}
use Rattle.volume_base.proofs.Identities.{node_attributes}
use Rattle.volume_space.specs.Growing.{IsThere, alone}
use Rattle.volume_space.specs.declared.ahead.WhichTree.{WhichTree}
use Rattle.volume_space.specs.declared.ahead.WhichTree.TheVariants as which
use Rattle.volume_space.proofs.FewerEdits.{none_lacks}
use Rattle.volume_step.proofs.Done.{step_fine}
use Rattle.volume_step.proofs.Idle.{grows_works}
use Rattle.volume_step.proofs.Ready.{edits_load, needs_now, not_lacking, of_cost}

-- ---- trees without attributes

-- no folder or file has one
abbrev AreBare : PlainTree → Type 0
AreBare tree = (id : ℕ) (node : PlainNode) → node_at tree id ≡ Some node → node.attributes ≡ []

-- so none is found
none_found : (tree : PlainTree) → AreBare tree → (path : List (List ℕ)) (name : List ℕ) (done : PlainNode × PlainAttribute → Step) → is_refusal (on tree (to_attribute tree path name) done).0 ≡ true
none_found tree bare path name done = by_path (reached tree path)
  where
    by_attribute : (node : PlainNode) (list : List PlainAttribute) → list ≡ [] → is_refusal (on tree (then_ (ok_or (find (is_named name) list) refusal.NoAttribute) (λ attribute. Ok (node, attribute))) done).0 ≡ true
    by_attribute node list none = ap (λ (l : List PlainAttribute). is_refusal (on tree (then_ (ok_or (find (is_named name) l) refusal.NoAttribute) (λ attribute. Ok (node, attribute))) done).0) none

    by_node : (found : Option PlainNode) → ((node : PlainNode) → found ≡ Some node → node.attributes ≡ [])
        → is_refusal (on tree (then_ (ok_or found refusal.NotFound) (λ node. then_ (ok_or (attribute_at node name) refusal.NoAttribute) (λ attribute. Ok (node, attribute)))) done).0 ≡ true
    by_node None each = refl
    by_node (Some node) each = by_attribute node node.attributes (each node refl)

    by_path : (r : Result PlainEntry Refusal)
        → is_refusal (on tree (then_ (then_ r (λ at. ok_or (node_at tree at.id) refusal.NotFound)) (λ node. then_ (ok_or (attribute_at node name) refusal.NoAttribute) (λ attribute. Ok (node, attribute)))) done).0 ≡ true
    by_path (Ok at) = by_node (node_at tree at.id) (bare at.id)
    by_path (Err why) = refl

-- no attribute goes with a folder
no_removal : (tree : PlainTree) → AreBare tree → (r : Result PlainEntry Refusal) → (rmdir_edits tree r).attributes ≡ 0
no_removal tree bare (Ok entry) = by (node_at tree entry.id) (bare entry.id)
  where
    by : (found : Option PlainNode) → ((node : PlainNode) → found ≡ Some node → node.attributes ≡ []) → attribute_count found ≡ 0
    by None each = refl
    by (Some node) each = ap (λ (l : List PlainAttribute). length l) (each node refl)
no_removal tree bare (Err why) = refl

no_loss : (tree : PlainTree) (r : Result PlainEntry Refusal) → (rm_edits_at tree r).attributes ≡ 0
no_loss tree (Ok entry) = by (node_at tree entry.id)
  where
    last : (b c : Bool) (one other more : Edits) → one.attributes ≡ 0 → other.attributes ≡ 0 → more.attributes ≡ 0 → (if b then one else if c then other else more).attributes ≡ 0
    last true c one other more x y z = x
    last false true one other more x y z = y
    last false false one other more x y z = z

    by : (found : Option PlainNode) → (rm_edits tree found).attributes ≡ 0
    by None = refl
    by (Some file) = last _ file.linked _ _ _ refl refl refl
no_loss tree (Err why) = refl

no_move : (tree : PlainTree) (r : Result (PlainEntry × Place) Refusal) → (mv_edits tree r).attributes ≡ 0
no_move tree (Ok pair) = by_place pair.1.found
  where
    last : (b c : Bool) (one other more : Edits) → one.attributes ≡ 0 → other.attributes ≡ 0 → more.attributes ≡ 0 → (if b then one else if c then other else more).attributes ≡ 0
    last true c one other more x y z = x
    last false true one other more x y z = y
    last false false one other more x y z = z

    by_file : (found : Option PlainNode) → (over_edits tree found).attributes ≡ 0
    by_file None = refl
    by_file (Some file) = last _ file.linked _ _ _ refl refl refl

    by_place : (found : Option PlainEntry) → (place_edits tree found).attributes ≡ 0
    by_place None = refl
    by_place (Some other) = by_file (node_at tree other.id)
no_move tree (Err why) = refl

no_link : {X : Type 0} (tree : PlainTree) (r : Result (PlainNode × X) Refusal) → (ln_edits tree r).attributes ≡ 0
no_link tree (Ok pair) = by pair.0.linked _ _ refl refl
  where
    by : (b : Bool) (one other : Edits) → one.attributes ≡ 0 → other.attributes ≡ 0 → (if b then one else other).attributes ≡ 0
    by true one other x y = x
    by false one other x y = y
no_link tree (Err why) = refl

-- a command that its step doesn't refuse, and that lacks no tree, edits no attribute
no_edits : (volume : VolumeState) (tree : PlainTree) → has_attributes volume.head ≡ false → AreBare tree → (asked : Command) → is_refusal (step tree asked).0 ≡ false → lacks_tree volume asked ≡ false → (edits_of tree asked).attributes ≡ 0
no_edits volume tree without bare (command.Mkdir path) fine has = refl
no_edits volume tree without bare (command.Create path) fine has = refl
no_edits volume tree without bare (command.Rm path) fine has = no_loss tree (to_rm tree path)
no_edits volume tree without bare (command.Rmdir path) fine has = no_removal tree bare (to_rmdir tree path)
no_edits volume tree without bare (command.Mv from to) fine has = no_move tree (to_mv tree from to)
no_edits volume tree without bare (command.Ln from to) fine has = no_link tree (to_link tree from to)
no_edits volume tree without bare (command.Write path from value) fine has = refl
no_edits volume tree without bare (command.Read path from long) fine has = refl
no_edits volume tree without bare (command.Trunc path size) fine has = refl
no_edits volume tree without bare (command.Ls path) fine has = refl
no_edits volume tree without bare (command.Stat path) fine has = refl
no_edits volume tree without bare (command.Chmod path mode) fine has = refl
no_edits volume tree without bare (command.SetAttr path name value) fine has = absurd (true≢false (sym (ap not without) ∙ has))
no_edits volume tree without bare (command.GetAttr path name) fine has = refl
no_edits volume tree without bare (command.DelAttr path name) fine has =
    absurd (true≢false (sym (none_found tree bare path name (λ pair. (reply.Ok, marked pair.0.id (with_changed pair.0.id (without_attribute name) tree)))) ∙ fine))
no_edits volume tree without bare (command.LsAttr path) fine has = refl
no_edits volume tree without bare (command.At moment) fine has = refl
no_edits volume tree without bare command.Df fine has = refl
no_edits volume tree without bare command.Sync fine has = refl

-- nor do values go with a folder
no_removed : (free : List Bool) (volume : VolumeState) (tree : PlainTree) → AreBare tree → (many : ℕ) (r : Result PlainEntry Refusal) → slice_index (with_values free (removed_values volume tree r) (record { ids = 0; edits = 0 ∷ 2 ∷ many ∷ []; updates = 1; new_blocks = 0; old_blocks = 0; runs = 0 })).edits 2 ≡ many
no_removed free volume tree bare many (Ok entry) = by (node_at tree entry.id) (bare entry.id)
  where
    by : (found : Option PlainNode) → ((node : PlainNode) → found ≡ Some node → node.attributes ≡ []) → slice_index (with_values free (values_of_node volume found) (record { ids = 0; edits = 0 ∷ 2 ∷ many ∷ []; updates = 1; new_blocks = 0; old_blocks = 0; runs = 0 })).edits 2 ≡ many
    by None each = refl
    by (Some node) each =
        let none : sum (map (λ (a : PlainAttribute). further_records volume node.id a.name) node.attributes) ≡ 0 = ap (λ (l : List PlainAttribute). sum (map (λ (a : PlainAttribute). further_records volume node.id a.name) l)) (each node refl) in
        let one : overflow_records (runs_for 0 free) ≡ 0 = refl in
        omega (arith, none, one)
no_removed free volume tree bare many (Err why) = refl

-- and it needs no edit of one for values
no_values : (free : List Bool) (volume : VolumeState) (tree : PlainTree) (asked : Command) → has_attributes volume.head ≡ false → AreBare tree → is_refusal (step tree asked).0 ≡ false → lacks_tree volume asked ≡ false
    → slice_index (needs_now free volume tree asked).edits 2 ≡ (edits_of tree asked).attributes
no_values free volume tree (command.Mkdir path) without bare fine has = refl
no_values free volume tree (command.Create path) without bare fine has = refl
no_values free volume tree (command.Rm path) without bare fine has = refl
no_values free volume tree (command.Rmdir path) without bare fine has = removal_values (to_rmdir tree path)
  where
    removal_values : (r : Result PlainEntry Refusal) → slice_index (with_values free (removed_values volume tree r) (needs_of (rmdir_edits tree r))).edits 2 ≡ (rmdir_edits tree r).attributes
    removal_values (Ok entry) = no_removed free volume tree bare _ (Ok entry)
    removal_values (Err why) = refl
no_values free volume tree (command.Mv from to) without bare fine has = refl
no_values free volume tree (command.Ln from to) without bare fine has = refl
no_values free volume tree (command.Write path from value) without bare fine has = refl
no_values free volume tree (command.Read path from long) without bare fine has = refl
no_values free volume tree (command.Trunc path size) without bare fine has = refl
no_values free volume tree (command.Ls path) without bare fine has = refl
no_values free volume tree (command.Stat path) without bare fine has = refl
no_values free volume tree (command.Chmod path mode) without bare fine has = refl
no_values free volume tree (command.SetAttr path name value) without bare fine has = absurd (true≢false (sym (ap not without) ∙ has))
no_values free volume tree (command.GetAttr path name) without bare fine has = refl
no_values free volume tree (command.DelAttr path name) without bare fine has =
    absurd (true≢false (sym (none_found tree bare path name (λ pair. (reply.Ok, marked pair.0.id (with_changed pair.0.id (without_attribute name) tree)))) ∙ fine))
no_values free volume tree (command.LsAttr path) without bare fine has = refl
no_values free volume tree (command.At moment) without bare fine has = refl
no_values free volume tree command.Df without bare fine has = refl
no_values free volume tree command.Sync without bare fine has = refl

-- ---- a volume without an attributes file

nodes_are : (content : Content) (n : PlainNode) → Contains (tree_of content).nodes n → n.attributes ≡ plain_attributes (valued (bytes_in content) (attributes_of (volume_of content))) n.id
unfolding tree_of tree_in
nodes_are content n stands = node_attributes (valued (bytes_in content) (attributes_of (volume_of content))) (records_of (volume_of content)) (bytes_in content) n stands

are_bare : (v : Volume) (content : Content) → IsSettled v content → has_attributes v.header ≡ false → AreBare (tree_of content)
unfolding valued
are_bare v content settled without id node found =
    nodes_are content node (found_some (is_node id) (tree_of content).nodes node found).0 ∙ ap (λ (l : List Pair). plain_attributes (valued (bytes_in content) (map attribute_of l)) node.id) no_pairs
  where
    no_pairs : (volume_of content).attribute_pairs ≡ []
    no_pairs = ap (λ (l : VolumeState). l.attribute_pairs) settled.lists ∙ ap (λ b. if b then pairs_in (sectors_of_tree v.attributes.file) content else []) without

-- ---- the tree that grows first

pub third_first : (grow : List ℕ) (more : ℕ) → 0 < more → first_growth grow ≡ alone which.Attributes more → more ≡ slice_index grow 2
third_first grow more some is = by (nat_lt 0 (slice_index grow 0)) (nat_lt 0 (slice_index grow 1)) is
  where
    third : (x y z : ℕ) → x ∷ y ∷ z ∷ [] ≡ 0 ∷ 0 ∷ more ∷ [] → more ≡ z
    third x y z same = sym (ap (λ l. slice_index l 2) same)

    by : (b c : Bool) → (if b then slice_index grow 0 ∷ 0 ∷ 0 ∷ [] else if c then 0 ∷ slice_index grow 1 ∷ 0 ∷ [] else 0 ∷ 0 ∷ slice_index grow 2 ∷ []) ≡ 0 ∷ 0 ∷ more ∷ [] → more ≡ slice_index grow 2
    by true c same = absurd (omega (arith, some, third (slice_index grow 0) 0 0 same))
    by false true same = absurd (omega (arith, some, third 0 (slice_index grow 1) 0 same))
    by false false same = third 0 0 (slice_index grow 2) same

pub growth_there : (v : Volume) (content : Content) → IsSettled v content → (asked : Command) → only_reads asked ≡ false → data_of (tree_of content) asked ≡ None → refuses (tree_of content) (Ok asked) ≡ false
    → (capacity : ℕ) (free : List Bool) (n : ℕ) (grow : List ℕ) → weight_with capacity free (volume_of content) (tree_of content) asked ≡ cost.Load n grow → (tree : WhichTree) (more : ℕ) → 0 < more → first_growth grow ≡ alone tree more → IsThere tree v.header
growth_there v content settled asked unread no_data fine capacity free n grow costs which.Extents more some first = tt
growth_there v content settled asked unread no_data fine capacity free n grow costs which.Catalog more some first = tt
growth_there v content settled asked unread no_data fine capacity free n grow costs which.Attributes more some first = by (has_attributes v.header) refl
  where
    by : (b : Bool) → has_attributes v.header ≡ b → has_attributes v.header ≡ true
    by true is = is
    by false without =
        let head : has_attributes (volume_of content).head ≡ false = ap (λ (l : VolumeState). has_attributes l.head) settled.lists ∙ without in
        let works = grows_works capacity free (volume_of content) (tree_of content) asked n grow costs which.Attributes more some first in
        let none = no_edits (volume_of content) (tree_of content) head (are_bare v content settled without) asked (step_fine (tree_of content) asked fine) (not_lacking capacity free (volume_of content) (tree_of content) asked works no_data n grow costs) in
        let none_valued = no_values free (volume_of content) (tree_of content) asked head (are_bare v content settled without) (step_fine (tree_of content) asked fine) (not_lacking capacity free (volume_of content) (tree_of content) asked works no_data n grow costs) in
        let plan = (of_cost (needs_now free (volume_of content) (tree_of content) asked) (room_with capacity free (volume_of content)) n grow (edits_load capacity free (volume_of content) (tree_of content) asked works no_data n grow costs)).1 in
        let third : slice_index grow 2 ≡ 0 =
        ap (λ (l : List ℕ). slice_index l 2) plan
        ∙ ap (λ k. growth (room_with capacity free (volume_of content)).block attributes_key (tree_at (room_with capacity free (volume_of content)) 2) k) (none_valued ∙ none)
        ∙ none_lacks (room_with capacity free (volume_of content)).block attributes_key (tree_at (room_with capacity free (volume_of content)) 2) in
        absurd (omega (arith, some, third_first grow more some first, third))
