-- What `stat` tells, and the place of a new name, say why the plain tree's steps refuse commands.
use Rattle.std.proofs.Common.{◌≡◌, ℕ, ◌+◌, Bool, true, false, List, [], ◌∷◌, length, refl, sym, ◌∙◌, ap, subst, arith}
use Rattle.std.specs.Prelude.{◌==◌, ◌||◌, nat_le, nat_lt, is_some, Option, Some, None, Result, Ok, Err, if◌then◌else◌}
use Rattle.std.specs.Option.{ok_or}
use Rattle.std.proofs.lemmas.Bool.{eqb-true, true≢false}
use Rattle.hfs_language.specs.declared.command.Command.{Command}
use Rattle.hfs_language.specs.declared.command.Command.TheVariants as command
use Rattle.hfs_language.specs.declared.refusal.Refusal.{Refusal}
use Rattle.hfs_language.specs.declared.refusal.Refusal.TheVariants as refusal
use Rattle.hfs_language.specs.declared.reply.Facts.{Facts}
use Rattle.hfs_language.specs.declared.reply.Reply.{Reply}
use Rattle.hfs_language.specs.declared.reply.Reply.TheVariants as reply
use Rattle.hfs_model.specs.Plain.{IsPlainTree, entries_in, entry_at, is_at, is_node, names_of, node_at}
use Rattle.hfs_model.specs.Step.{Place, Step, child, facts_of, front, is_private_path, is_refusal, is_root, last_name, linked, most_bytes, most_links, most_size, new_place, on, place, place_in, reached, refuses, resized, root_entry, size_written, step, step_line, then_, to_make, to_node, unless, walk, written}
use Rattle.hfs_model.specs.declared.plain.PlainEntry.{PlainEntry}
use Rattle.hfs_model.specs.declared.plain.PlainNode.{PlainNode}
use Rattle.hfs_model.specs.declared.plain.PlainTree.{PlainTree}
use Rattle.hfs_volume.specs.Content.{VolumeState}
use Rattle.hfs_volume.specs.Weight.{weight, weight_with}
use Rattle.hfs_volume.proofs.Flat.{found_some}
use Rattle.volume_base.specs.Making.{free_place}
use Rattle.volume_base.specs.Refusing.{against, against_link, against_trunc, against_write, facts_or, is_exists, refusal_in}
use Rattle.volume_base.specs.Weighing.{joined, refused_or, weighed}
use Rattle.volume_base.specs.declared.weighing.Weight.TheVariants as answer
use Rattle.volume_base.proofs.Routed.{root_of}

-- the folder that was found for a name
abbrev pub site_word : Result Place Refusal → Result ℕ Refusal
site_word (Ok goal) = Ok goal.folder
site_word (Err why) = Err why

pub site_is : (goal : Result Place Refusal) (name : List ℕ) (site : Result ℕ Refusal) → ((id : ℕ) → site ≡ Ok id → goal ≡ Ok (free_place id name)) → ((why : Refusal) → site ≡ Err why → goal ≡ Err why) → site ≡ site_word goal
site_is goal name (Ok id) told refused = sym (ap site_word (told id refl))
site_is goal name (Err why) told refused = sym (ap site_word (refused why refl))

-- a name is taken, by the reason that was told
abbrev is_taken : Result PlainEntry Refusal → Bool
is_taken (Ok entry) = false
is_taken (Err why) = is_exists why

abbrev place_taken : Result Place Refusal → Bool
place_taken (Ok at) = false
place_taken (Err why) = is_exists why

abbrev refusal_or : Refusal → Option Refusal → Refusal
refusal_or other None = other
refusal_or other (Some why) = why

-- what is named, and a place
abbrev pair_of : PlainEntry → Place → PlainEntry × Place
pair_of at goal = (at, goal)

abbrev link_of : PlainNode → Place → PlainNode × Place
link_of file goal = (file, goal)

abbrev entry_or : PlainEntry → Result PlainEntry Refusal → PlainEntry
entry_or other (Ok entry) = entry
entry_or other (Err why) = other

module _ (tree : PlainTree) (plain : IsPlainTree tree) where
  -- a folder or file of the tree has this name
  abbrev IsKind : PlainEntry → Type 0
  IsKind at = (node : PlainNode) × (node_at tree at.id ≡ Some node) × (node.folder ≡ at.folder)

  found_kind : (o : Option PlainEntry) (id : ℕ) (name : List ℕ) (next : PlainEntry) → entry_at tree id name ≡ o → ok_or o refusal.NotFound ≡ Ok next → IsKind next
  found_kind None id name next found same = absurd (cc same)
  found_kind (Some entry) id name next found same = subst IsKind (ap (entry_or entry) same) (plain.named entry (found_some (is_at id name) tree.entries entry found).0).named

  child_kind : (at next : PlainEntry) (name : List ℕ) → child tree at name ≡ Ok next → IsKind next
  child_kind at next name is = by at.folder is
    where
      by : (b : Bool) → (if b then ok_or (entry_at tree at.id name) refusal.NotFound else Err refusal.NotFolder) ≡ Ok next → IsKind next
      by true same = found_kind (entry_at tree at.id name) at.id name next refl same
      by false same = absurd (cc same)

  walk_kind : (path : List (List ℕ)) (from at : PlainEntry) → IsKind from → walk tree from path ≡ Ok at → IsKind at
  walk_kind [] from at kind is = subst IsKind (ap (entry_or from) is) kind
  walk_kind (name ∷ path) from at kind is = by (λ next. walk_kind path next at) (child tree from name) refl is
    where
      by : ((next : PlainEntry) → IsKind next → walk tree next path ≡ Ok at → IsKind at) → (r : Result PlainEntry Refusal) → child tree from name ≡ r → then_ r (λ next. walk tree next path) ≡ Ok at → IsKind at
      by go (Ok next) found further = go next (child_kind from next name found) further
      by go (Err why) found further = absurd (cc further)

  pub reached_kind : (path : List (List ℕ)) (at : PlainEntry) → reached tree path ≡ Ok at → IsKind at
  reached_kind path at is = walk_kind path root_entry at (plain.root.0, plain.root.1, plain.root.2) is

  -- a walk isn't refused because a name is taken
  child_free : (at : PlainEntry) (name : List ℕ) (why : Refusal) → child tree at name ≡ Err why → is_exists why ≡ false
  child_free at name why is = by at.folder is
    where
      of_found : (o : Option PlainEntry) → ok_or o refusal.NotFound ≡ Err why → is_exists why ≡ false
      of_found None same = sym (ap is_taken same)
      of_found (Some entry) same = absurd (cc same)

      by : (b : Bool) → (if b then ok_or (entry_at tree at.id name) refusal.NotFound else Err refusal.NotFolder) ≡ Err why → is_exists why ≡ false
      by true same = of_found (entry_at tree at.id name) same
      by false same = sym (ap is_taken same)

  walk_free : (path : List (List ℕ)) (from : PlainEntry) (why : Refusal) → walk tree from path ≡ Err why → is_exists why ≡ false
  walk_free [] from why is = absurd (cc is)
  walk_free (name ∷ path) from why is = by (λ next. walk_free path next why) (child tree from name) refl is
    where
      by : ((next : PlainEntry) → walk tree next path ≡ Err why → is_exists why ≡ false) → (r : Result PlainEntry Refusal) → child tree from name ≡ r → then_ r (λ next. walk tree next path) ≡ Err why → is_exists why ≡ false
      by go (Ok next) found further = go next further
      by go (Err other) found further = sym (ap is_taken further) ∙ child_free from name other found

  place_free : (path : List (List ℕ)) (why : Refusal) → place tree path ≡ Err why → is_exists why ≡ false
  place_free path why is = by (reached tree (front path)) refl is
    where
      in_folder : (goal : Place) (b : Bool) → (if b then Ok goal else Err refusal.NotFolder) ≡ Err why → is_exists why ≡ false
      in_folder goal true same = absurd (cc same)
      in_folder goal false same = sym (ap place_taken same)

      by : (r : Result PlainEntry Refusal) → reached tree (front path) ≡ r → then_ r (place_in tree (last_name path)) ≡ Err why → is_exists why ≡ false
      by (Ok at) found further = in_folder (record { folder = at.id; name = last_name path; found = entry_at tree at.id (last_name path) }) at.folder further
      by (Err other) found further = sym (ap place_taken further) ∙ walk_free (front path) root_entry other found

  -- what `stat` tells of it
  abbrev said : List (List ℕ) → Result Facts Refusal
  said path = facts_or (step_line tree (Ok (command.Stat path))).0

  abbrev told_of : Result PlainNode Refusal → Result Facts Refusal
  told_of r = facts_or (on tree r (λ node. (reply.Facts (facts_of tree node), tree))).0

  abbrev node_under : Result PlainEntry Refusal → Result PlainNode Refusal
  node_under r = then_ r (λ at. ok_or (node_at tree at.id) refusal.NotFound)

  -- so many bytes are too many for a `write`, or for any file
  abbrev is_large : ℕ → List ℕ → Bool
  is_large from value = nat_lt most_size (from + length value) || nat_lt most_bytes (length value)

  module _ (path : List (List ℕ)) where
    pub write_refusal : (from : ℕ) (value : List ℕ) (told : Result Facts Refusal) → told ≡ said path → against told (against_write from (length value)) ≡ refusal_in (step_line tree (Ok (command.Write path from value))).0
    write_refusal from value told is = ap (λ (r : Result Facts Refusal). against r (against_write from (length value))) is ∙ by_own (is_private_path path)
      where
        done : PlainNode → Step
        done file = (reply.Ok, written file from value tree)

        of_size : (node : PlainNode) (b : Bool) → (if b then Some refusal.TooLarge else None) ≡ refusal_in (on tree (if b then Err refusal.TooLarge else Ok node) done).0
        of_size node true = refl
        of_size node false = refl

        of_folder : (node : PlainNode) (entries : ℕ) (b : Bool)
            → (if b then Some refusal.IsFolder else if is_large from value then Some refusal.TooLarge else None)
            ≡ refusal_in (on tree (then_ (if b then Err refusal.IsFolder else Ok node) (unless (is_large from value) refusal.TooLarge)) done).0
        of_folder node entries true = refl
        of_folder node entries false = of_size node (is_large from value)

        by_node : (r : Result PlainNode Refusal) → against (told_of r) (against_write from (length value))
            ≡ refusal_in (on tree (then_ (then_ r (λ node. unless node.folder refusal.IsFolder node)) (unless (is_large from value) refusal.TooLarge)) done).0
        by_node (Err why) = refl
        by_node (Ok node) = of_folder node (length (entries_in tree node.id)) node.folder

        by_own : (b : Bool) → against (facts_or (if b || false then (reply.No refusal.Private, tree) else step tree (command.Stat path)).0) (against_write from (length value))
            ≡ refusal_in (if b || false then (reply.No refusal.Private, tree) else step tree (command.Write path from value)).0
        by_own true = refl
        by_own false = by_node (to_node tree path)

    pub trunc_refusal : (size : ℕ) (told : Result Facts Refusal) → told ≡ said path → against told (against_trunc size) ≡ refusal_in (step_line tree (Ok (command.Trunc path size))).0
    trunc_refusal size told is = ap (λ (r : Result Facts Refusal). against r (against_trunc size)) is ∙ by_own (is_private_path path)
      where
        done : PlainNode → Step
        done file = (reply.Ok, resized file size tree)

        of_size : (node : PlainNode) (b : Bool) → (if b then Some refusal.TooLarge else None) ≡ refusal_in (on tree (if b then Err refusal.TooLarge else Ok node) done).0
        of_size node true = refl
        of_size node false = refl

        of_folder : (node : PlainNode) (entries : ℕ) (b : Bool)
            → (if b then Some refusal.IsFolder else if nat_lt most_size size then Some refusal.TooLarge else None)
            ≡ refusal_in (on tree (then_ (if b then Err refusal.IsFolder else Ok node) (unless (nat_lt most_size size) refusal.TooLarge)) done).0
        of_folder node entries true = refl
        of_folder node entries false = of_size node (nat_lt most_size size)

        by_node : (r : Result PlainNode Refusal) → against (told_of r) (against_trunc size)
            ≡ refusal_in (on tree (then_ (then_ r (λ node. unless node.folder refusal.IsFolder node)) (unless (nat_lt most_size size) refusal.TooLarge)) done).0
        by_node (Err why) = refl
        by_node (Ok node) = of_folder node (length (entries_in tree node.id)) node.folder

        by_own : (b : Bool) → against (facts_or (if b || false then (reply.No refusal.Private, tree) else step tree (command.Stat path)).0) (against_trunc size)
            ≡ refusal_in (if b || false then (reply.No refusal.Private, tree) else step tree (command.Trunc path size)).0
        by_own true = refl
        by_own false = by_node (to_node tree path)

  module _ (from to : List (List ℕ)) (not_root : is_root from ≡ false) (goal_not_root : is_root to ≡ false) (goal_not_own : is_private_path to ≡ false) where
    abbrev done : PlainNode × Place → Step
    done pair = (reply.Ok, linked pair.0 pair.1 tree)

    abbrev to_named : Result PlainEntry Refusal → Result Place Refusal → Result (PlainNode × Place) Refusal
    to_named r p =
        then_ (then_ (then_ r (λ at. then_ p (λ goal. Ok (pair_of at goal)))) (λ pair. then_ (unless pair.0.folder refusal.IsFolder pair) (λ file. then_ (unless (is_some file.1.found) refusal.Exists file) (unless (nat_le most_links (names_of tree file.0.id)) refusal.TooManyLinks))))
        (λ pair. then_ (ok_or (node_at tree pair.0.id) refusal.NotFound) (λ file. Ok (link_of file pair.1)))

    abbrev to_new : Result Place Refusal → Result Place Refusal
    to_new p = then_ p (λ at. unless (is_some at.found) refusal.Exists at)

    -- of a file, with so many names
    in_place : (at : PlainEntry) (goal : Place) (node : PlainNode) (found : Bool) → node_at tree at.id ≡ Some node → is_some goal.found ≡ found
        → against_link (site_word (if found then Err refusal.Exists else Ok goal)) (record (facts_of tree node) { folder = false; links = names_of tree at.id })
        ≡ refusal_in (on tree (then_ (then_ (unless (is_some goal.found) refusal.Exists (pair_of at goal)) (unless (nat_le most_links (names_of tree at.id)) refusal.TooManyLinks)) (λ pair. then_ (ok_or (node_at tree pair.0.id) refusal.NotFound) (λ file. Ok (link_of file pair.1)))) done).0
    in_place at goal node true there is = sym (ap (λ (b : Bool). refusal_in (on tree (then_ (then_ (unless b refusal.Exists (pair_of at goal)) (unless (nat_le most_links (names_of tree at.id)) refusal.TooManyLinks)) (λ pair. then_ (ok_or (node_at tree pair.0.id) refusal.NotFound) (λ file. Ok (link_of file pair.1)))) done).0) is)
    in_place at goal node false there is =
        by (nat_le most_links (names_of tree at.id))
        ∙ sym (ap (λ (b : Bool). refusal_in (on tree (then_ (then_ (unless b refusal.Exists (pair_of at goal)) (unless (nat_le most_links (names_of tree at.id)) refusal.TooManyLinks)) (λ pair. then_ (ok_or (node_at tree pair.0.id) refusal.NotFound) (λ file. Ok (link_of file pair.1)))) done).0) is)
      where
        by : (b : Bool) → (if b then Some refusal.TooManyLinks else None)
            ≡ refusal_in (on tree (then_ (if b then Err refusal.TooManyLinks else Ok (pair_of at goal)) (λ pair. then_ (ok_or (node_at tree pair.0.id) refusal.NotFound) (λ file. Ok (link_of file pair.1)))) done).0
        by true = refl
        by false = sym (ap (λ (o : Option PlainNode). refusal_in (on tree (then_ (ok_or o refusal.NotFound) (λ file. Ok (link_of file goal))) done).0) there)

    of_kind : (at : PlainEntry) (goal : Place) (node : PlainNode) (folder : Bool) → node_at tree at.id ≡ Some node
        → against_link (site_word (unless (is_some goal.found) refusal.Exists goal)) (record (facts_of tree node) { folder = folder; links = if folder then 0 else names_of tree at.id })
        ≡ refusal_in (on tree (then_ (then_ (if folder then Err refusal.IsFolder else Ok (pair_of at goal)) (λ file. then_ (unless (is_some file.1.found) refusal.Exists file) (unless (nat_le most_links (names_of tree file.0.id)) refusal.TooManyLinks)))
        (λ pair. then_ (ok_or (node_at tree pair.0.id) refusal.NotFound) (λ file. Ok (link_of file pair.1)))) done).0
    of_kind at goal node true there = by (is_some goal.found)
      where
        by : (b : Bool) → against_link (site_word (if b then Err refusal.Exists else Ok goal)) (record (facts_of tree node) { folder = true; links = 0 }) ≡ Some refusal.IsFolder
        by true = refl
        by false = refl
    of_kind at goal node false there = in_place at goal node (is_some goal.found) there refl

    by_reached : (r : Result PlainEntry Refusal) → reached tree from ≡ r → (p : Result Place Refusal) → place tree to ≡ p
        → against (told_of (node_under r)) (against_link (site_word (to_new p))) ≡ refusal_in (on tree (to_named r p) done).0
    by_reached (Err why) found p placed = refl
    by_reached (Ok at) found (Err why) placed =
        let kind = reached_kind from at found in
        ap (λ (o : Option PlainNode). against (told_of (ok_or o refusal.NotFound)) (against_link (Err why))) kind.1
        ∙ ap (λ (b : Bool). if b then (if kind.0.folder then Some refusal.IsFolder else Some refusal.Exists) else Some why) (place_free to why placed)
    by_reached (Ok at) found (Ok goal) placed =
        let kind = reached_kind from at found in
        let number : kind.0.id ≡ at.id = eqb-true kind.0.id at.id (found_some (is_node at.id) tree.nodes kind.0 kind.1).1 in
        ap (λ (o : Option PlainNode). against (told_of (ok_or o refusal.NotFound)) (against_link (site_word (to_new (Ok goal))))) kind.1
        ∙ (λ i. against_link (site_word (to_new (Ok goal))) (record (facts_of tree kind.0) { folder = kind.2 i; links = if kind.2 i then 0 else names_of tree (number i) }))
        ∙ of_kind at goal kind.0 at.folder kind.1

    pub link_refusal : (told : Result Facts Refusal) → told ≡ said from → (site : Result ℕ Refusal) → site ≡ site_word (to_make tree to) → against told (against_link site) ≡ refusal_in (step_line tree (Ok (command.Ln from to))).0
    link_refusal told is site site_is = (λ i. against (is i) (against_link (site_is i))) ∙ by_own (is_private_path from)
      where
        named : (b : Bool) → b ≡ false → refusal_in (on tree (to_named (reached tree from) (place tree to)) done).0 ≡ refusal_in (if b || false then (reply.No refusal.Private, tree) else step tree (command.Ln from to)).0
        named b own =
            (λ i. refusal_in (on tree (then_ (then_ (then_ (if sym not_root i || sym goal_not_root i then Err refusal.Root else Ok from) (λ named. then_ (reached tree named) (λ at. then_ (place tree to) (λ goal. Ok (pair_of at goal)))))
            (λ pair. then_ (unless pair.0.folder refusal.IsFolder pair) (λ file. then_ (unless (is_some file.1.found) refusal.Exists file) (unless (nat_le most_links (names_of tree file.0.id)) refusal.TooManyLinks))))
            (λ pair. then_ (ok_or (node_at tree pair.0.id) refusal.NotFound) (λ file. Ok (link_of file pair.1)))) done).0)
            ∙ sym (ap (λ (c : Bool). refusal_in (if c || false then (reply.No refusal.Private, tree) else step tree (command.Ln from to)).0) own)

        by_own : (b : Bool) → against (facts_or (if b || false then (reply.No refusal.Private, tree) else step tree (command.Stat from)).0) (against_link (site_word (to_make tree to)))
            ≡ refusal_in (if b || (is_private_path to || false) then (reply.No refusal.Private, tree) else step tree (command.Ln from to)).0
        by_own true = refl
        by_own false =
            ap (λ (b : Bool). against (told_of (node_under (reached tree from))) (against_link (site_word (then_ (if b then Err refusal.Root else Ok to) (new_place tree))))) goal_not_root
            ∙ by_reached (reached tree from) refl (place tree to) refl ∙ named (is_private_path to) goal_not_own

-- ---- the weight of what a step refuses

pub told_refused : (capacity : ℕ) (takable : List Bool) (volume : VolumeState) (tree : PlainTree) (asked : Command) (why : Refusal) → Some why ≡ refusal_in (step_line tree (Ok asked)).0 → answer.Refused why ≡ weighed capacity takable volume tree asked
told_refused capacity takable volume tree asked why is = by (step_line tree (Ok asked)).0 is
  where
    by : (said : Reply) → Some why ≡ refusal_in said → answer.Refused why ≡ refused_or said (joined (weight capacity volume tree asked) (weight_with capacity takable volume tree asked))
    by (reply.No other) same = ap (λ (o : Option Refusal). answer.Refused (refusal_or why o)) same
    by reply.Ok same = absurd (cc same)
    by (reply.Listing list) same = absurd (cc same)
    by (reply.Facts told) same = absurd (cc same)
    by (reply.Content bytes) same = absurd (cc same)
    by (reply.Gauge gauge) same = absurd (cc same)

pub not_refused : (tree : PlainTree) (asked : Command) → None ≡ refusal_in (step_line tree (Ok asked)).0 → refuses tree (Ok asked) ≡ false
not_refused tree asked is = by (step_line tree (Ok asked)).0 is
  where
    by : (said : Reply) → None ≡ refusal_in said → is_refusal said ≡ false
    by (reply.No other) same = absurd (cc same)
    by reply.Ok same = refl
    by (reply.Listing list) same = refl
    by (reply.Facts told) same = refl
    by (reply.Content bytes) same = refl
    by (reply.Gauge gauge) same = refl

-- ---- the root

pub rooted : (path : List (List ℕ)) → (length path == 0) ≡ true → path ≡ []
rooted [] is = refl
rooted (name ∷ path) is = absurd (omega (arith, eqb-true (length (name ∷ path)) 0 is))

pub unrooted : (path : List (List ℕ)) → (length path == 0) ≡ false → is_root path ≡ false
unrooted [] is = absurd (true≢false is)
unrooted (name ∷ path) is = refl

module _ (tree : PlainTree) (from to : List (List ℕ)) where
  pub from_own : is_private_path from ≡ true → Some refusal.Private ≡ refusal_in (step_line tree (Ok (command.Ln from to))).0
  from_own own = sym (ap (λ (b : Bool). refusal_in (if b || (is_private_path to || false) then (reply.No refusal.Private, tree) else step tree (command.Ln from to)).0) own)

  pub to_own : is_private_path from ≡ false → is_private_path to ≡ true → Some refusal.Private ≡ refusal_in (step_line tree (Ok (command.Ln from to))).0
  to_own free own = sym (λ i. refusal_in (if free i || (own i || false) then (reply.No refusal.Private, tree) else step tree (command.Ln from to)).0)

  root_named : is_private_path from ≡ false → is_private_path to ≡ false → (is_root from || is_root to) ≡ true → Some refusal.Root ≡ refusal_in (step_line tree (Ok (command.Ln from to))).0
  root_named free goal_free rooted =
      sym ((λ i. refusal_in (if free i || (goal_free i || false) then (reply.No refusal.Private, tree) else step tree (command.Ln from to)).0)
      ∙ ap (λ (b : Bool). refusal_in (on tree (then_ (then_ (then_ (if b then Err refusal.Root else Ok from) (λ named. then_ (reached tree named) (λ at. then_ (place tree to) (λ goal. Ok (pair_of at goal)))))
      (λ pair. then_ (unless pair.0.folder refusal.IsFolder pair) (λ file. then_ (unless (is_some file.1.found) refusal.Exists file) (unless (nat_le most_links (names_of tree file.0.id)) refusal.TooManyLinks))))
      (λ pair. then_ (ok_or (node_at tree pair.0.id) refusal.NotFound) (λ file. Ok (link_of file pair.1)))) (λ (pair : PlainNode × Place). (reply.Ok, linked pair.0 pair.1 tree))).0) rooted)

  pub from_root : is_private_path from ≡ false → is_private_path to ≡ false → (length from == 0) ≡ true → Some refusal.Root ≡ refusal_in (step_line tree (Ok (command.Ln from to))).0
  from_root free goal_free is = root_named free goal_free (ap (λ (p : List (List ℕ)). is_root p || is_root to) (rooted from is))

  pub to_root : is_private_path from ≡ false → is_private_path to ≡ false → (length from == 0) ≡ false → length to ≡ 0 → Some refusal.Root ≡ refusal_in (step_line tree (Ok (command.Ln from to))).0
  to_root free goal_free some is = root_named free goal_free ((λ i. unrooted from some i || root_of to is i))
