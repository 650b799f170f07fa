-- What `mv` weighs where something stands at the new place.
use Rattle.std.proofs.Common.{◌≡◌, ℕ, ◌+◌, ◌*◌, ◌==◌, Bool, true, false, List, [], ◌∷◌, refl, sym, ◌∙◌, ap, subst, arith, eq-eqb}
use Rattle.std.specs.Prelude.{◌&&◌, ◌||◌, nat_lt, is_some, slice_index, Option, Some, None, ok_or, Result, Ok, Err, if◌then◌else◌}
use Rattle.std.specs.Str.{bytes_eq}
use Rattle.std.proofs.lemmas.Bool.{and_parts, eqb-true, true≢false}
use Rattle.std.proofs.lemmas.Slice.Eq.{bytes_eq-Decides}
use Rattle.sector_disk.specs.Lists.{Content}
use Rattle.cat_records.specs.declared.record.FileRecord.{FileRecord}
use Rattle.hfs_language.specs.Written.{FitsPath}
use Rattle.hfs_language.specs.declared.command.Command.TheVariants as command
use Rattle.hfs_language.specs.declared.refusal.Refusal.{Refusal}
use Rattle.hfs_language.specs.declared.refusal.Refusal.TheVariants as refusal
use Rattle.hfs_model.specs.Plain.{IsPlainTree, entry_at, is_node, names_of, node_at}
use Rattle.hfs_model.specs.Step.{Place, child, front, is_below, is_private_path, is_root, is_same_file, last_name, place, place_in, reached, root_entry, stands_in_way, then_, to_mv, to_node, to_pair, to_rm, unless, walk}
use Rattle.hfs_model.specs.declared.plain.PlainEntry.{PlainEntry}
use Rattle.hfs_model.specs.declared.plain.PlainNode.{PlainNode}
use Rattle.hfs_model.specs.declared.plain.PlainTree.{PlainTree}
use Rattle.hfs_volume.specs.Books.{SoundHasPlainTree}
use Rattle.hfs_volume.specs.Content.{VolumeState, volume_of}
use Rattle.hfs_volume.specs.Cost.{cost_of}
use Rattle.hfs_volume.specs.TreeOf.{tree_of}
use Rattle.hfs_volume.specs.Weight.{Edits as Asked, edits, edits_of, folders_made, free_blocks, moves_onto_itself, mv_edits, needs_for, over_edits, rm_edits, rm_edits_at, room_with, weight, weight_with}
use Rattle.hfs_volume.specs.declared.cost.Cost.{Cost}
use Rattle.hfs_volume.specs.declared.cost.Cost.TheVariants as cost
use Rattle.hfs_volume.proofs.Flat.{found_some}
use Rattle.hfs_volume.proofs.Reaching.{err_or_ok, found_ok, if_ok, ok_same, then_ok}
use Rattle.hfs_volume.proofs.Vacating.{vacates}
use Rattle.volume_base.specs.Lists.{lists_of}
use Rattle.volume_base.specs.Losing.{lose_edits}
use Rattle.volume_base.specs.Moving.{to_free}
use Rattle.volume_base.specs.Nodes.{node_in}
use Rattle.volume_base.specs.Standing.{HoldsTrees, IsSettled}
use Rattle.volume_base.specs.Weighing.{edits_weighed, joined, refused_or, weighed}
use Rattle.volume_base.specs.declared.nodes.Node.{Node}
use Rattle.volume_base.specs.declared.nodes.Node.TheVariants as node
use Rattle.volume_base.specs.declared.volume.Volume.{Volume}
use Rattle.volume_base.specs.declared.weighing.Edits.{Edits as Spent}
use Rattle.volume_base.specs.declared.weighing.Weight.{Weight}
use Rattle.volume_base.specs.declared.weighing.Weight.TheVariants as answer
use Rattle.volume_base.proofs.MovedOver.{reaches, stands}
use Rattle.volume_base.proofs.Refused.{reached_kind}
use Rattle.volume_base.proofs.Rising.{settled_is_plain}
use Rattle.volume_base.proofs.Routed.{moved_line}
use Rattle.volume_base.proofs.Siting.{front_tree}
use Rattle.volume_weights.specs.Losing.{file_in, link_edits}
use Rattle.volume_weights.proofs.LoseWeight.{as_asked, file_is, file_told, loss_edits}
use Rattle.volume_weights.proofs.MoveWeight.{move_refused}

-- the reason that was told
abbrev reason_or : {X : Type 0} → Refusal → Result X Refusal → Refusal
reason_or other (Ok x) = other
reason_or other (Err why) = why

-- ---- no path goes on below a file

below_file : (tree : PlainTree) (path top : List (List ℕ)) (from at other : PlainEntry) → is_below path top ≡ true → walk tree from top ≡ Ok at → at.folder ≡ false → walk tree from path ≡ Ok other → ⊥
below_file tree [] top from at other below is file further = true≢false (sym below)
below_file tree (name ∷ path) [] from at other below is file further =
    let step = then_ok (child tree from name) (λ next. walk tree next path) other further in
    let kind = (if_ok from.folder (ok_or (entry_at tree from.id name) refusal.NotFound) refusal.NotFolder step.0 step.1).0 in
    true≢false (sym kind ∙ ap (λ (e : PlainEntry). e.folder) (ok_same from at is) ∙ file)
below_file tree (name ∷ path) (first ∷ top) from at other below is file further =
    let both = and_parts (bytes_eq name first) (is_below path top) below in
    let step = then_ok (child tree from name) (λ next. walk tree next path) other further in
    let above = then_ok (child tree from first) (λ next. walk tree next top) at is in
    let same : above.0 ≡ step.0 = ok_same above.0 step.0 (sym above.1 ∙ ap (child tree from) (sym ((bytes_eq-Decides name first).0 both.0)) ∙ step.1) in
    below_file tree path top step.0 at other both.1 (ap (λ (e : PlainEntry). walk tree e top) (sym same) ∙ above.2) file step.2

module _ (tree : PlainTree) (from to : List (List ℕ)) (taken : to_free tree from to ≡ Err refusal.Exists) where
  abbrev Pair : Type 0
  Pair = PlainEntry × Place

  abbrev tried : Result Pair Refusal → Result Pair Refusal
  tried r = then_ r (λ p. then_ (unless (stands_in_way p.0 p.1.found) refusal.Exists p) (unless (is_below to from) refusal.Inside))

  abbrev tried_free : Result Pair Refusal → Result Pair Refusal
  tried_free r = then_ r (λ p. then_ (unless (is_some p.1.found) refusal.Exists p) (unless (is_below to from) refusal.Inside))

  -- neither path is the root
  pub no_roots : (is_root from || is_root to) ≡ false
  no_roots = by (is_root from || is_root to) refl taken
    where
      by : (b : Bool) → (is_root from || is_root to) ≡ b → tried_free (then_ (unless b refusal.Root from) (λ named. then_ (reached tree named) (λ at. then_ (place tree to) (λ goal. Ok (at, goal))))) ≡ Err refusal.Exists → (is_root from || is_root to) ≡ false
      by true is same = absurd (cc same)
      by false is same = is

  -- `mv` is refused unless both are files
  pub in_the_way : ((pair : Pair) (other : PlainEntry) → to_pair tree from to ≡ Ok pair → pair.1.found ≡ Some other → pair.0.folder ≡ false → other.folder ≡ false → ⊥) → to_mv tree from to ≡ Err refusal.Exists
  in_the_way not_files = by (to_pair tree from to) refl taken
    where
      by_kinds : (p : Pair) (other : PlainEntry) → to_pair tree from to ≡ Ok p → p.1.found ≡ Some other → (a b : Bool) → p.0.folder ≡ a → other.folder ≡ b → then_ (unless (a || b) refusal.Exists p) (unless (is_below to from) refusal.Inside) ≡ Err refusal.Exists
      by_kinds p other is stood true b first second = refl
      by_kinds p other is stood false true first second = refl
      by_kinds p other is stood false false first second = absurd (not_files p other is stood first second)

      not_inside : (p : Pair) (b : Bool) → (if b then Err refusal.Inside else Ok p) ≡ Err refusal.Exists → ⊥
      not_inside p true same = cc same
      not_inside p false same = cc same

      by_found : (p : Pair) → to_pair tree from to ≡ Ok p → (o : Option PlainEntry) → p.1.found ≡ o → then_ (unless (is_some o) refusal.Exists p) (unless (is_below to from) refusal.Inside) ≡ Err refusal.Exists → tried (Ok p) ≡ Err refusal.Exists
      by_found p is None free same = absurd (not_inside p (is_below to from) same)
      by_found p is (Some other) stood same =
          ap (λ (o : Option PlainEntry). then_ (unless (stands_in_way p.0 o) refusal.Exists p) (unless (is_below to from) refusal.Inside)) stood
          ∙ by_kinds p other is stood p.0.folder other.folder refl refl

      by : (r : Result Pair Refusal) → to_pair tree from to ≡ r → tried_free r ≡ Err refusal.Exists → tried r ≡ Err refusal.Exists
      by (Err why) is same = ap (λ (w : Refusal). Err w) (ap (reason_or why) same)
      by (Ok p) is same = by_found p is p.1.found refl same

  -- a file that is reached by one path takes the place of one that is reached by the other
  module _ (at other : PlainEntry) (is : reached tree from ≡ Ok at) (goal_is : reached tree to ≡ Ok other) (file : at.folder ≡ false) (goal_file : other.folder ≡ false) where
    goal_some : is_root to ≡ false
    goal_some = by (is_root from) (is_root to) no_roots
      where
        by : (a b : Bool) → (a || b) ≡ false → b ≡ false
        by true b same = absurd (true≢false same)
        by false b same = same

    pub above : (x : PlainEntry) × (reached tree (front to) ≡ Ok x) × (child tree x (last_name to) ≡ Ok other)
    above = then_ok (reached tree (front to)) (λ x. child tree x (last_name to)) other (sym (front_tree tree to goal_some root_entry) ∙ goal_is)

    in_folder : (above.0.folder ≡ true) × (ok_or (entry_at tree above.0.id (last_name to)) refusal.NotFound ≡ Ok other)
    in_folder = if_ok above.0.folder (ok_or (entry_at tree above.0.id (last_name to)) refusal.NotFound) refusal.NotFolder other above.2

    abbrev pub goal : Place
    goal = record { folder = above.0.id; name = last_name to; found = Some other }

    placed : place tree to ≡ Ok goal
    placed =
        ap (λ (r : Result PlainEntry Refusal). then_ r (place_in tree (last_name to))) above.1
        ∙ ap (λ b. if b then Ok (record { folder = above.0.id; name = last_name to; found = entry_at tree above.0.id (last_name to) }) else Err refusal.NotFolder) in_folder.0
        ∙ ap (λ (o : Option PlainEntry). Ok (record { folder = above.0.id; name = last_name to; found = o })) (found_ok (entry_at tree above.0.id (last_name to)) refusal.NotFound other in_folder.1)

    pair_is : to_pair tree from to ≡ Ok (at, goal)
    pair_is =
        ap (λ b. then_ (unless b refusal.Root from) (λ named. then_ (reached tree named) (λ x. then_ (place tree to) (λ g. Ok (x, g))))) no_roots
        ∙ ap (λ (r : Result PlainEntry Refusal). then_ r (λ x. then_ (place tree to) (λ g. Ok (x, g)))) is
        ∙ ap (λ (r : Result Place Refusal). then_ r (λ g. Ok (at, g))) placed

    outside : is_below to from ≡ false
    outside = by (is_below to from) refl
      where
        by : (b : Bool) → is_below to from ≡ b → is_below to from ≡ false
        by true below = absurd (below_file tree to from root_entry at other below is file goal_is)
        by false not_below = not_below

    pub takes_over : to_mv tree from to ≡ Ok (at, goal)
    takes_over = ap tried pair_is ∙ (λ i. then_ (unless (file i || goal_file i) refusal.Exists (at, goal)) (unless (outside i) refusal.Inside))

-- ---- what it weighs

-- a loss of a name, and the move
abbrev pub and_moves : Asked → Asked
and_moves loss = edits loss.ids (loss.catalog + 3) 0 6

over_is : (tree : PlainTree) (file : PlainNode) → over_edits tree (Some file) ≡ and_moves (rm_edits tree (Some file))
over_is tree file = by (nat_lt 1 (names_of tree file.id)) file.linked (folders_made tree)
  where
    by : (a b : Bool) (made : ℕ) → (if a then edits 0 5 0 6 else if b then edits 0 8 0 6 else edits made (6 + 2 * made) 0 6) ≡ and_moves (if a then edits 0 2 0 4 else if b then edits 0 5 0 4 else edits made (3 + 2 * made) 0 4)
    by true b made = refl
    by false true made = refl
    by false false made = let sum : 6 + 2 * made ≡ 3 + 2 * made + 3 = omega arith in ap (λ n. edits made n 0 6) sum

module _ (capacity : ℕ) (takable : List Bool) (volume : VolumeState) (tree : PlainTree) (from to : List (List ℕ)) (not_own : is_private_path from ≡ false) (goal_not_own : is_private_path to ≡ false) (pair : PlainEntry × Place) (allowed : to_mv tree from to ≡ Ok pair) where
  said_ok : joined (weight capacity volume tree (command.Mv from to)) (weight_with capacity takable volume tree (command.Mv from to)) ≡ weighed capacity takable volume tree (command.Mv from to)
  said_ok = ap (λ said. refused_or said (joined (weight capacity volume tree (command.Mv from to)) (weight_with capacity takable volume tree (command.Mv from to)))) (moved_line tree from to pair not_own goal_not_own allowed).0

  -- onto itself it weighs nothing
  none_weighs : (free : List Bool) → is_same_file pair.0 pair.1.found ≡ true → weight_with capacity free volume tree (command.Mv from to) ≡ cost.Load 0 (0 ∷ 0 ∷ 0 ∷ [])
  unfolding weight_with
  none_weighs free same =
      (λ i. if moves_onto_itself (allowed i) then cost.Load 0 (0 ∷ 0 ∷ 0 ∷ []) else cost_of (needs_for free volume (mv_edits tree (allowed i)) None) (room_with capacity free volume))
      ∙ ap (λ b. if b then cost.Load 0 (0 ∷ 0 ∷ 0 ∷ []) else cost_of (needs_for free volume (mv_edits tree (Ok pair)) None) (room_with capacity free volume)) same

  pub itself_weighs : is_same_file pair.0 pair.1.found ≡ true → answer.Load 0 (0 ∷ 0 ∷ 0 ∷ []) ≡ weighed capacity takable volume tree (command.Mv from to)
  itself_weighs same = (λ i. joined (sym (none_weighs (free_blocks volume) same) i) (sym (none_weighs takable same) i)) ∙ said_ok

  -- else what its edits do
  edits_weigh : (free : List Bool) → is_same_file pair.0 pair.1.found ≡ false → weight_with capacity free volume tree (command.Mv from to) ≡ cost_of (needs_for free volume (mv_edits tree (Ok pair)) None) (room_with capacity free volume)
  unfolding weight_with
  edits_weigh free other_file =
      (λ i. if moves_onto_itself (allowed i) then cost.Load 0 (0 ∷ 0 ∷ 0 ∷ []) else cost_of (needs_for free volume (mv_edits tree (allowed i)) None) (room_with capacity free volume))
      ∙ ap (λ b. if b then cost.Load 0 (0 ∷ 0 ∷ 0 ∷ []) else cost_of (needs_for free volume (mv_edits tree (Ok pair)) None) (room_with capacity free volume)) other_file

  module _ (other : PlainEntry) (stood : pair.1.found ≡ Some other) (file : PlainNode) (node_is : node_at tree other.id ≡ Some file) where
    removes : edits_of tree (command.Rm to) ≡ rm_edits tree (Some file)
    removes = ap (rm_edits_at tree) (vacates tree from to pair allowed other stood) ∙ ap (rm_edits tree) node_is

    moves : (loss : Spent) → edits_of tree (command.Rm to) ≡ as_asked loss → mv_edits tree (Ok pair) ≡ and_moves (as_asked loss)
    moves loss is =
        ap (λ (o : Option PlainEntry). mv_edits tree (Ok (pair.0, record pair.1 { found = o }))) stood
        ∙ ap (over_edits tree) node_is ∙ over_is tree file ∙ ap and_moves (sym removes ∙ is)

    pub over_weighs : is_same_file pair.0 pair.1.found ≡ false → (loss : Spent) → edits_of tree (command.Rm to) ≡ as_asked loss
        → edits_weighed capacity takable volume (record { ids = loss.ids; catalog = loss.catalog + 3; attributes = 0; updates = 6 }) ≡ weighed capacity takable volume tree (command.Mv from to)
    over_weighs other_file loss is =
        (λ i. joined (sym (by (free_blocks volume)) i) (sym (by takable) i)) ∙ said_ok
      where
        by : (free : List Bool) → weight_with capacity free volume tree (command.Mv from to) ≡ cost_of (needs_for free volume (and_moves (as_asked loss)) None) (room_with capacity free volume)
        by free = edits_weigh free other_file ∙ ap (λ (k : Asked). cost_of (needs_for free volume k None) (room_with capacity free volume)) (moves loss is)

-- ---- by the folders and files that both paths stand for

module _ (tree : PlainTree) (plain : IsPlainTree tree) where
  -- what a path stands for has an entry there
  record IsNamed (path : List (List ℕ)) (n : PlainNode) : Type 0 where
    entry : PlainEntry
    reached_it : reached tree path ≡ Ok entry
    node : node_at tree entry.id ≡ Some n
    id : entry.id ≡ n.id
    kind : entry.folder ≡ n.folder

  node_named : (path : List (List ℕ)) (at : PlainEntry) → reached tree path ≡ Ok at → (n : PlainNode) × (to_node tree path ≡ Ok n) × (n.folder ≡ at.folder)
  node_named path at is =
      let kind = reached_kind tree plain path at is in
      (kind.0, ap (λ (r : Result PlainEntry Refusal). then_ r (λ e. ok_or (node_at tree e.id) refusal.NotFound)) is ∙ ap (λ (o : Option PlainNode). ok_or o refusal.NotFound) kind.1, kind.2)

  named_node : (path : List (List ℕ)) (n : PlainNode) → to_node tree path ≡ Ok n → IsNamed path n
  named_node path n is =
      let step = then_ok (reached tree path) (λ e. ok_or (node_at tree e.id) refusal.NotFound) n is in
      let found = found_ok (node_at tree step.0.id) refusal.NotFound n step.2 in
      let kind = reached_kind tree plain path step.0 step.1 in
      let same : kind.0 ≡ n = ok_same kind.0 n (ap (λ (o : Option PlainNode). ok_or o refusal.NotFound) (sym kind.1 ∙ found)) in
      record {
        entry = step.0;
        reached_it = step.1;
        node = found;
        id = sym (eqb-true n.id step.0.id (found_some (is_node step.0.id) tree.nodes n found).1);
        kind = sym kind.2 ∙ ap (λ (m : PlainNode). m.folder) same;
      }

  module _ (capacity : ℕ) (takable : List Bool) (volume : VolumeState) (from to : List (List ℕ)) (not_own : is_private_path from ≡ false) (goal_not_own : is_private_path to ≡ false) (taken : to_free tree from to ≡ Err refusal.Exists) where
    refused_so : to_mv tree from to ≡ Err refusal.Exists → answer.Refused refusal.Exists ≡ weighed capacity takable volume tree (command.Mv from to)
    refused_so is = move_refused capacity takable volume tree from to not_own goal_not_own refusal.Exists is

    -- it is refused where no file is moved
    pub moves_no_file : ((n : PlainNode) → to_node tree from ≡ Ok n → n.folder ≡ false → ⊥) → answer.Refused refusal.Exists ≡ weighed capacity takable volume tree (command.Mv from to)
    moves_no_file none = refused_so (in_the_way tree from to taken (λ pair other is stood file goal_file.
        let it = node_named from pair.0 (reaches tree from to pair is) in none it.0 it.1 (it.2 ∙ file)))

    -- and where no file stands at the new place
    pub replaces_no_file : ((n : PlainNode) → to_node tree to ≡ Ok n → n.folder ≡ false → ⊥) → answer.Refused refusal.Exists ≡ weighed capacity takable volume tree (command.Mv from to)
    replaces_no_file none = refused_so (in_the_way tree from to taken (λ pair other is stood file goal_file.
        let it = node_named to other (stands tree from to pair is other stood) in none it.0 it.1 (it.2 ∙ goal_file)))

    module _ (n m : PlainNode) (is : to_node tree from ≡ Ok n) (goal_is : to_node tree to ≡ Ok m) (file : n.folder ≡ false) (goal_file : m.folder ≡ false) where
      moved_entry : IsNamed from n
      moved_entry = named_node from n is

      old_entry : IsNamed to m
      old_entry = named_node to m goal_is

      abbrev the_pair : PlainEntry × Place
      the_pair = (moved_entry.entry, goal tree from to taken moved_entry.entry old_entry.entry moved_entry.reached_it old_entry.reached_it (moved_entry.kind ∙ file) (old_entry.kind ∙ goal_file))

      allowed : to_mv tree from to ≡ Ok the_pair
      allowed = takes_over tree from to taken moved_entry.entry old_entry.entry moved_entry.reached_it old_entry.reached_it (moved_entry.kind ∙ file) (old_entry.kind ∙ goal_file)

      same_file : is_same_file the_pair.0 the_pair.1.found ≡ (m.id == n.id)
      same_file = λ i. old_entry.id i == moved_entry.id i

      -- a file onto itself
      pub itself : (m.id == n.id) ≡ true → answer.Load 0 (0 ∷ 0 ∷ 0 ∷ []) ≡ weighed capacity takable volume tree (command.Mv from to)
      itself same = itself_weighs capacity takable volume tree from to not_own goal_not_own the_pair allowed (same_file ∙ same)

      -- a file over another one
      pub over : (m.id == n.id) ≡ false → (loss : Spent) → edits_of tree (command.Rm to) ≡ as_asked loss
          → edits_weighed capacity takable volume (record { ids = loss.ids; catalog = loss.catalog + 3; attributes = 0; updates = 6 }) ≡ weighed capacity takable volume tree (command.Mv from to)
      over other loss lost = over_weighs capacity takable volume tree from to not_own goal_not_own the_pair allowed old_entry.entry refl m old_entry.node (same_file ∙ other) loss lost

-- ---- over a settled volume

left_false : (a b : Bool) → (a || b) ≡ false → a ≡ false
left_false true b is = absurd (true≢false is)
left_false false b is = refl

right_false : (a b : Bool) → (a || b) ≡ false → b ≡ false
right_false true b is = absurd (true≢false is)
right_false false b is = is

-- the file that was found was told so
file_or : FileRecord × Bool → Option (FileRecord × Bool) → FileRecord × Bool
file_or other None = other
file_or other (Some it) = it

file_from : (said : Result Node Refusal) (it : FileRecord × Bool) → file_in said ≡ Some it → said ≡ Ok (node.File it.0 it.1)
unfolding file_or
file_from (Ok (node.File file linked)) it is = let same : (file, linked) ≡ it = ap (file_or it) is in ap (λ (x : FileRecord × Bool). Ok (node.File x.0 x.1)) same
file_from (Ok (node.Folder folder)) it is = absurd (cc is)
file_from (Err why) it is = absurd (cc is)

-- a path stands for the file of this record
abbrev FileThere : PlainTree → List (List ℕ) → FileRecord → Type 0
FileThere tree path own = (n : PlainNode) × (to_node tree path ≡ Ok n) × (n.folder ≡ false) × (n.id ≡ own.fields.id)

module _ (law : SoundHasPlainTree) (v : Volume) (content : Content) (holds : HoldsTrees v content) (settled : IsSettled v content) (from to : List (List ℕ)) (not_own : is_private_path from ≡ false) (goal_not_own : is_private_path to ≡ false) (fits : FitsPath from) (goal_fits : FitsPath to)
    (taken : to_free (tree_of content) from to ≡ Err refusal.Exists) (takable : List Bool) (said : Result Node Refusal) (found : said ≡ node_in (lists_of v content).catalog_pairs v.private from)
  where
    roots : (is_root from || is_root to) ≡ false
    roots = no_roots (tree_of content) from to taken

    some : is_root from ≡ false
    some = left_false (is_root from) (is_root to) roots

    plain : IsPlainTree (tree_of content)
    plain = settled_is_plain law v content holds settled

    abbrev words : Weight
    words = weighed v.capacity takable (volume_of content) (tree_of content) (command.Mv from to)

    pub no_file : file_in said ≡ None → answer.Refused refusal.Exists ≡ words
    no_file none = moves_no_file (tree_of content) plain v.capacity takable (volume_of content) from to not_own goal_not_own taken (λ n is kind.
        let it = file_is law v content holds settled from not_own fits some said found takable n is kind in
        let never : None ≡ Some (it.0, it.1) = sym none ∙ ap file_in it.2 in cc never)

    the_file : (it : FileRecord × Bool) → file_in said ≡ Some it → FileThere (tree_of content) from it.0
    the_file it is = file_told law v content holds settled from not_own fits some said found takable it.0 it.1 (file_from said it is)

    module _ (w : Volume) (later : Content) (holds_later : HoldsTrees w later) (settled_later : IsSettled w later) (same : later ≡ content) (goal_said : Result Node Refusal) (goal_found : goal_said ≡ node_in (lists_of w later).catalog_pairs w.private to) where
      goal_not_root : is_root to ≡ false
      goal_not_root = right_false (is_root from) (is_root to) roots

      pub no_goal_file : file_in goal_said ≡ None → answer.Refused refusal.Exists ≡ words
      no_goal_file none = replaces_no_file (tree_of content) plain v.capacity takable (volume_of content) from to not_own goal_not_own taken (λ n is kind.
          let it = file_is law w later holds_later settled_later to goal_not_own goal_fits goal_not_root goal_said goal_found takable n (subst (λ (k : Content). to_node (tree_of k) to ≡ Ok n) (sym same) is) kind in
          let never : None ≡ Some (it.0, it.1) = sym none ∙ ap file_in it.2 in cc never)

      goal_file : (it : FileRecord × Bool) → file_in goal_said ≡ Some it → FileThere (tree_of content) to it.0
      goal_file it is = subst (λ (k : Content). FileThere (tree_of k) to it.0) same (file_told law w later holds_later settled_later to goal_not_own goal_fits goal_not_root goal_said goal_found takable it.0 it.1 (file_from goal_said it is))

      -- the edits by which the file at the new place loses its name
      abbrev pub lost : FileRecord × Bool → Spent
      lost it = if it.1 then link_edits it.0.fields.special else lose_edits w.private

      goal_edits : (it : FileRecord × Bool) → file_in goal_said ≡ Some it → edits_of (tree_of content) (command.Rm to) ≡ as_asked (lost it)
      goal_edits it is = subst (λ (k : Content). edits_of (tree_of k) (command.Rm to) ≡ as_asked (lost it)) same (loss_edits law w later holds_later settled_later to goal_not_own goal_fits goal_not_root goal_said goal_found takable it.0 it.1 (file_from goal_said it is))

      module _ (file goal_it : FileRecord × Bool) (is : file_in said ≡ Some file) (goal_is : file_in goal_said ≡ Some goal_it) where
        first : FileThere (tree_of content) from file.0
        first = the_file file is

        second : FileThere (tree_of content) to goal_it.0
        second = goal_file goal_it goal_is

        numbers : (second.0.id == first.0.id) ≡ (goal_it.0.fields.id == file.0.fields.id)
        numbers = λ i. second.3 i == first.3 i

        pub onto_itself : goal_it.0.fields.id ≡ file.0.fields.id → answer.Load 0 (0 ∷ 0 ∷ 0 ∷ []) ≡ words
        onto_itself one =
            itself (tree_of content) plain v.capacity takable (volume_of content) from to not_own goal_not_own taken first.0 second.0 first.1 second.1 first.2 second.2
            (numbers ∙ eq-eqb goal_it.0.fields.id file.0.fields.id one)

        pub over_another : (goal_it.0.fields.id ≡ file.0.fields.id → ⊥) → edits_weighed v.capacity takable (volume_of content) (record { ids = (lost goal_it).ids; catalog = (lost goal_it).catalog + 3; attributes = 0; updates = 6 }) ≡ words
        over_another apart =
            over (tree_of content) plain v.capacity takable (volume_of content) from to not_own goal_not_own taken first.0 second.0 first.1 second.1 first.2 second.2
            (numbers ∙ by (goal_it.0.fields.id == file.0.fields.id) refl) (lost goal_it) (goal_edits goal_it goal_is)
          where
            by : (b : Bool) → (goal_it.0.fields.id == file.0.fields.id) ≡ b → (goal_it.0.fields.id == file.0.fields.id) ≡ false
            by true same_id = absurd (apart (eqb-true goal_it.0.fields.id file.0.fields.id same_id))
            by false differs = differs
