-- Lines that list a folder or tell facts: what their stages come to is what the machine shows.
use Rattle.std.proofs.Common.{◌≡◌, ◌⊎◌, ◌+◌, ◌-◌, ℕ, Bool, true, false, List, [], ◌∷◌, ◌++◌, length, inl, inr, refl, sym, ◌∙◌, ap, subst, arith, ◌<◌, ◌^◌, zero, suc, ◌≤◌, ⊎_elim}
use Rattle.std.specs.Prelude.{Contains, ◌==◌, ◌&&◌, ◌||◌, not, map, count_by, decimal, is_some, IsTrue, Option, Some, None, Result, Ok, Err, if◌then◌else◌}
use Rattle.std.specs.List.{filter}
use Rattle.std.specs.Option.{ok_or}
use Rattle.std.specs.Str.{bytes_eq}
use Rattle.std.proofs.lemmas.Bool.{eqb-true, true≢false}
use Rattle.std.proofs.lemmas.Slice.Eq.{bytes_eq-Decides}
use Rattle.std.proofs.lemmas.List.Sums.{length-filter}
use Rattle.hfs_language.specs.declared.command.Command.{Command}
use Rattle.hfs_language.specs.declared.command.Command.TheVariants as command
use Rattle.hfs_language.specs.declared.refusal.Refusal.{Refusal}
use Rattle.hfs_language.specs.declared.refusal.Refusal.TheVariants as refusal
use Rattle.hfs_language.specs.declared.reply.Facts.{Facts}
use Rattle.hfs_language.specs.declared.reply.ListedName.{ListedName}
use Rattle.hfs_language.specs.declared.reply.Reply.{Reply}
use Rattle.hfs_language.specs.declared.reply.Reply.TheVariants as reply
use Rattle.hfs_model.specs.Plain.{entries_in, entry_at, is_at, is_node, names_of, node_at}
use Rattle.hfs_model.specs.Sorted.{kept}
use Rattle.hfs_model.specs.Step.{child, facts_of, is_private_path, on, only_reads, reached, root_entry, step, step_line, then_, to_folder, to_node, unless, walk}
use Rattle.hfs_model.specs.Step as steps
use Rattle.hfs_model.specs.declared.plain.PlainEntry.{PlainEntry}
use Rattle.hfs_model.specs.declared.plain.PlainNode.{PlainNode}
use Rattle.hfs_model.specs.declared.plain.PlainTree.{PlainTree}
use Rattle.hfs_model.proofs.Filtered.{filter-kept}
use Rattle.hfs_volume.specs.TreeOf.{tree_of}
use Rattle.hfs_volume.proofs.Flat.{found_none, found_some}
use Rattle.hfs_volume.proofs.Members.{at_front, behind, kept_stands}
use Rattle.hfs_volume.proofs.Reaching.{found_ok, if_ok, ok_same, then_ok}
use Rattle.volume_runs.specs.Run.{Entry, IsServed, asked_by}
use Rattle.open_files.specs.Keeping.{is_keeping_path, is_kept, is_own, is_seen, keepers, keeping_entry, keeping_name, keeping_path, kept_path, seen_entries, seen_names, shown_tree, stands_in}
use Rattle.open_files.specs.Machine.{shows, tree_by}
use Rattle.open_files.specs.declared.act.OpenFile.{OpenFile}
use Rattle.session_lines.specs.declared.stages.Stage.{Stage}
use Rattle.session_lines.specs.declared.stages.Stage.TheVariants as stage
use Rattle.session_lines.specs.Ahead.{IsQuiet, NotLooked}
use Rattle.session_lines.specs.Following.{Follows, does, skips, stays}
use Rattle.session_lines.specs.Made.{AreMade, one_made}
use Rattle.session_lines.specs.Owning.{IsOwnTree}
use Rattle.session_lines.specs.Skipping.{IsSkipped}
use Rattle.session_lines.specs.Stages.{command_at, found_to_tell, heard_at, is_root, listed, one_less, told_without, without_keeping}
use Rattle.session_lines.proofs.Keeping.{filtered}
use Rattle.session_lines.proofs.Opening.{LooksLast, looks_last}
use Rattle.session_lines.proofs.Looks.{absent_told, kept_found, kept_told, look, look_is, names_seen, none_there, not_kept_told, there_told}
use Rattle.session_lines.proofs.Saves.{ended, skip_is}
use Rattle.session_lines.proofs.Shown.{both, none_filtered, root_outside, stands_inside, digits_tell, inside_of, kept_both, kept_parts, kept_length, one_at_place, one_there, reached_outside, root_count, root_nameless, shown_entries, shown_node}
use Rattle.session_lines.proofs.Trees.{looked_same, served_tree}
use Rattle.session_lines.proofs.Unseen.{Looked, list_told, look_told, looked_at, quiet_look, quiet_none}

-- ---- a command of its own that reads, whose reply is told

abbrev asked_or : Command → Option Command → Command
asked_or other None = other
asked_or other (Some asked) = asked

-- It was done, as the first of the entries.
pub record DidFirst (handles : List OpenFile) (tree : PlainTree) (here : Stage) (asked : Command) (run : List Entry) (to : Stage) : Type 0 where
  pub entry : Entry
  pub rest : List Entry
  pub run_is : run ≡ entry ∷ rest
  pub asks : asked_by entry ≡ Ok asked
  pub before : tree_of entry.before ≡ tree
  pub capacity : ℕ
  pub served : IsServed capacity entry
  pub after : tree_of entry.after ≡ tree
  pub follows : Follows handles tree (heard_at handles here entry.reply) rest to

-- It isn't done at all.
pub record SkippedFirst (handles : List OpenFile) (tree : PlainTree) (here : Stage) (asked : Command) (run : List Entry) (to : Stage) : Type 0 where
  pub why : Refusal
  pub skipped : IsSkipped why
  pub follows : Follows handles tree (heard_at handles here (reply.No why)) run to

pub did_first_of : (handles : List OpenFile) (tree : PlainTree) (here : Stage) (asked : Command) → IsTrue (only_reads asked) → (run : List Entry) (to : Stage) → command_at here ≡ Some asked → command_at to ≡ None → Follows handles tree here run to
    → DidFirst handles tree here asked run to ⊎ SkippedFirst handles tree here asked run to
did_first_of handles tree here asked reads [] to at ends (stays _ _) = absurd (cc (sym at ∙ ends))
did_first_of handles tree here asked reads (entry ∷ run) to at ends (does _ _ _ _ _ capacity one is asks before served rest) =
    let its : asked_by entry ≡ Ok asked = asks ∙ ap (λ (a : Command). Ok a) (ap (asked_or one) (sym is ∙ at)) in
    let after : tree_of entry.after ≡ tree = ap (λ c. tree_of c) (looked_same capacity entry asked its reads served) ∙ before in
    inl (record {
      entry = entry;
      rest = run;
      run_is = refl;
      asks = its;
      before = before;
      capacity = capacity;
      served = served;
      after = after;
      follows = subst (λ (t : PlainTree). Follows handles t (heard_at handles here entry.reply) run to) after rest;
    })
did_first_of handles tree here asked reads run to at ends (skips _ _ _ _ one why is skipped rest) = inr (record { why = why; skipped = skipped; follows = rest })

-- What a line that only reads comes to: its own command was done, and it is told what the machine shows.
pub record Told (tree : PlainTree) (asked : Command) (run : List Entry) (to : Stage) : Type 0 where
  pub got : Reply
  pub made : AreMade run (asked ∷ []) (got ∷ [])
  pub quiet : IsQuiet tree run [] [] tree
  pub keeps : tree_by tree asked got ≡ tree
  pub last : to ≡ stage.Says (shows tree asked got)

module _ (handles : List OpenFile) (tree : PlainTree) (here : Stage) (asked : Command) (reads : IsTrue (only_reads asked)) (run : List Entry) (to : Stage) where
  -- it isn't done at all
  pub skipped_own : (skip : SkippedFirst handles tree here asked run to) → heard_at handles here (reply.No skip.why) ≡ stage.Says (reply.No skip.why) → NotLooked tree run to
  skipped_own skip hears =
      let last = ended handles tree (stage.Says (reply.No skip.why)) run to refl (subst (λ (s : Stage). Follows handles tree s run to) hears skip.follows) in
      record { why = skip.why; skipped = skip.skipped; says = last.1; quiet = subst (λ (r : List Entry). IsQuiet tree r [] [] tree) (sym last.0) (quiet_none tree) }

  module _ (did : DidFirst handles tree here asked run to) where
    -- behind it are looks
    pub quiet_behind : IsQuiet tree did.rest [] [] tree → IsQuiet tree run [] [] tree
    quiet_behind quiet = subst (λ (r : List Entry). IsQuiet tree r [] [] tree) (sym did.run_is) (quiet_look tree did.entry asked did.rest [] [] tree did.asks reads did.after quiet)

    pub told_behind : IsQuiet tree did.rest [] [] tree → to ≡ stage.Says (shows tree asked did.entry.reply) → Told tree asked run to
    told_behind quiet last = record {
      got = did.entry.reply;
      made = subst (λ (r : List Entry). AreMade r (asked ∷ []) (did.entry.reply ∷ [])) (sym did.run_is) (one_made did.entry asked did.rest [] [] did.asks quiet.made);
      quiet = quiet_behind quiet;
      keeps = ap (λ (t : PlainTree). tree_by t asked did.entry.reply) (sym did.before) ∙ sym (served_tree did.capacity did.entry asked did.asks did.served) ∙ did.after;
      last = last;
    }

-- ---- lists

-- what is left out of names that are listed
kept_map : {X Y : Type 0} (f : X → Y) (p : Y → Bool) (xs : List X) → kept p (map f xs) ≡ map f (kept (λ x. p (f x)) xs)
kept_map f p [] = refl
kept_map {X} {Y} f p (x ∷ xs) = by (p (f x)) (kept_map f p xs)
  where
    by : (b : Bool) → kept p (map f xs) ≡ map f (kept (λ x. p (f x)) xs) → (if b then f x ∷ [] else []) ++ kept p (map f xs) ≡ map f ((if b then x ∷ [] else []) ++ kept (λ x. p (f x)) xs)
    by true rest = ap (λ l. f x ∷ l) rest
    by false rest = rest

-- a test before another, where it says what a third says behind it
kept_swapped : {X : Type 0} (p q r : X → Bool) (xs : List X) → ((x : X) → Contains xs x → p x ≡ true → r x ≡ q x) → kept r (kept p xs) ≡ kept p (kept q xs)
kept_swapped p q r [] each = refl
kept_swapped {X} p q r (x ∷ xs) each = by (p x) refl (q x) (each x (at_front x xs)) (kept_swapped p q r xs (λ y stands. each y (behind x y xs stands)))
  where
    one : Bool → List X → List X
    one b l = (if b then x ∷ [] else []) ++ l

    by : (a : Bool) → p x ≡ a → (b : Bool) → (p x ≡ true → r x ≡ b) → kept r (kept p xs) ≡ kept p (kept q xs) → kept r (one (p x) (kept p xs)) ≡ kept p (one b (kept q xs))
    by true is true third rest = ap (λ e. kept r (one e (kept p xs))) is ∙ ap (λ e. one e (kept r (kept p xs))) (third is) ∙ ap (λ l. x ∷ l) rest ∙ sym (ap (λ e. one e (kept p (kept q xs))) is)
    by true is false third rest = ap (λ e. kept r (one e (kept p xs))) is ∙ ap (λ e. one e (kept r (kept p xs))) (third is) ∙ rest
    by false is true third rest = ap (λ e. kept r (one e (kept p xs))) is ∙ rest ∙ sym (ap (λ e. one e (kept p (kept q xs))) is)
    by false is false third rest = ap (λ e. kept r (one e (kept p xs))) is ∙ rest

-- ---- what the tree says

module _ (tree : PlainTree) (is : IsOwnTree tree) where
  abbrev shown : PlainTree
  shown = shown_tree tree

  abbrev inside : ℕ → Bool
  inside id = inside_of (keeping_entry tree) id

  -- what a path of some names leads to is an entry
  walk_stands : (name : List ℕ) (path : List (List ℕ)) (from at : PlainEntry) → walk tree from (name ∷ path) ≡ Ok at → Contains tree.entries at
  walk_stands name [] from at same =
      let first = then_ok (child tree from name) (λ next. walk tree next []) at same in
      subst (λ (e : PlainEntry). Contains tree.entries e) (ok_same first.0 at first.2)
      (found_some (is_at from.id name) tree.entries first.0 (found_ok (entry_at tree from.id name) refusal.NotFound first.0 (if_ok from.folder (ok_or (entry_at tree from.id name) refusal.NotFound) refusal.NotFolder first.0 first.1).1)).0
  walk_stands name (next ∷ path) from at same =
      let first = then_ok (child tree from name) (λ entry. walk tree entry (next ∷ path)) at same in
      walk_stands next path first.0 at first.2

  -- the folder or file that a path leads to
  pub record Reaches (path : List (List ℕ)) (node : PlainNode) : Type 0 where
    pub at : PlainEntry
    pub reaches : reached tree path ≡ Ok at
    pub here : node_at tree at.id ≡ Some node
    pub number : node.id ≡ at.id

  pub reaches_of : (path : List (List ℕ)) (node : PlainNode) → to_node tree path ≡ Ok node → Reaches path node
  reaches_of path node found =
      let at = then_ok (reached tree path) (λ at. ok_or (node_at tree at.id) refusal.NotFound) node found in
      let here = found_ok (node_at tree at.0.id) refusal.NotFound node at.2 in
      record { at = at.0; reaches = at.1; here = here; number = eqb-true node.id at.0.id (found_some (is_node at.0.id) tree.nodes node here).1 }

  module _ (path : List (List ℕ)) (own : is_keeping_path path ≡ false) (node : PlainNode) (there : Reaches path node) where
    node_outside : inside node.id ≡ false
    node_outside = ap inside there.number ∙ reached_outside tree is path own there.at there.reaches

    node_below : is_root path ≡ false → (node.id == 2) ≡ false
    node_below root = ap (λ n. n == 2) there.number ∙ by path root there.reaches
      where
        by : (p : List (List ℕ)) → is_root p ≡ false → reached tree p ≡ Ok there.at → (there.at.id == 2) ≡ false
        by [] root found = absurd (true≢false root)
        by (name ∷ p) root found = root_nameless tree is there.at (walk_stands name p root_entry there.at found)

    node_root : is_root path ≡ true → node.id ≡ 2
    node_root root = there.number ∙ by path root there.reaches
      where
        by : (p : List (List ℕ)) → is_root p ≡ true → reached tree p ≡ Ok there.at → there.at.id ≡ 2
        by [] root found = sym (ap (λ (e : PlainEntry). e.id) (ok_same root_entry there.at found))
        by (name ∷ p) root found = absurd (true≢false (sym root))

    -- a file's id is few
    file_few : node.folder ≡ false → node.id < 2 ^ 64
    file_few kind = by (is_root path) refl
      where
        by : (b : Bool) → is_root path ≡ b → node.id < 2 ^ 64
        by true root = omega (arith, node_root root, is.root_drawn, is.few)
        by false root = by_path path root there.reaches
          where
            by_path : (p : List (List ℕ)) → is_root p ≡ false → reached tree p ≡ Ok there.at → node.id < 2 ^ 64
            by_path [] root found = absurd (true≢false root)
            by_path (name ∷ p) root found = omega (arith, there.number, (is.drawn there.at (walk_stands name p root_entry there.at found)).0, is.few)

    -- ---- a folder's names

    root_names : (id : ℕ) → id ≡ 2 → without_keeping (map steps.listed (entries_in tree id)) ≡ map steps.listed (entries_in shown id)
    root_names id root =
        kept_map steps.listed (λ (l : ListedName). not (bytes_eq l.name keeping_name)) (entries_in tree id)
        ∙ ap (map steps.listed) (kept_swapped (λ (e : PlainEntry). e.parent == id) (is_seen tree) (λ (e : PlainEntry). not (bytes_eq e.name keeping_name)) tree.entries (λ entry stands at. each entry (eqb-true entry.parent id at ∙ root)))
      where
        each : (entry : PlainEntry) → entry.parent ≡ 2 → not (bytes_eq entry.name keeping_name) ≡ is_seen tree entry
        each entry at = sym ((λ i. not ((at i == 2) && bytes_eq entry.name keeping_name) && not (out i)) ∙ whole (not (bytes_eq entry.name keeping_name)))
          where
            whole : (b : Bool) → (b && true) ≡ b
            whole true = refl
            whole false = refl

            out : stands_in (keeping_entry tree) entry ≡ false
            out = stands_inside (keeping_entry tree) entry ∙ ap inside at ∙ root_outside tree is

    abbrev listing : PlainTree → Reply
    listing t = reply.Listing (map steps.listed (entries_in t node.id))

    -- a listing as the machine shows it
    shown_listing : listed path (listing tree) ≡ listing shown
    shown_listing = by (is_root path) refl
      where
        abbrev_names : List ListedName
        abbrev_names = map steps.listed (entries_in tree node.id)

        by : (b : Bool) → is_root path ≡ b → listed path (listing tree) ≡ listing shown
        by true root = ap (λ b. if b then reply.Listing (without_keeping abbrev_names) else reply.Listing abbrev_names) root ∙ ap reply.Listing (root_names node.id (node_root root))
        by false root = ap (λ b. if b then reply.Listing (without_keeping abbrev_names) else reply.Listing abbrev_names) root ∙ ap (λ (l : List PlainEntry). reply.Listing (map steps.listed l)) (sym (shown_entries tree is node.id node_outside (node_below root)))

  -- ---- facts

  abbrev facts_by : PlainNode → Bool → ℕ → ℕ → Facts
  facts_by node folder entries names = record {
    folder = node.folder;
    id = node.id;
    size = if folder then entries else length node.bytes;
    links = if folder then 0 else names;
    mode = node.mode;
    created = node.created;
    changed = node.changed;
    attribute = node.attribute;
  }

  abbrev entries_count : PlainTree → PlainNode → ℕ
  entries_count t node = length (entries_in t node.id)

  -- a folder of which all is shown
  folder_facts : (node : PlainNode) → node.folder ≡ true → entries_count tree node ≡ entries_count shown node → facts_of tree node ≡ facts_of shown node
  folder_facts node kind same =
      ap (λ b. facts_by node b (entries_count tree node) (names_of tree node.id)) kind ∙ ap (λ n. facts_by node true n 0) same ∙ sym (ap (λ b. facts_by node b (entries_count shown node) (names_of shown node.id)) kind)

  -- the root without the keeping folder
  module _ (node : PlainNode) (kind : node.folder ≡ true) (root : node.id ≡ 2) where
    root_less : (folder : PlainEntry) → keeping_entry tree ≡ Some folder → entries_count tree node - 1 ≡ entries_count shown node
    root_less folder found =
        let all = root_count tree is in
        let one = one_there tree is folder found in
        omega (arith, all, one, ap (λ n. length (entries_in tree n)) root, ap (λ n. length (entries_in shown n)) root)

    abbrev less_by : Bool → Facts
    less_by b = record (facts_by node b (entries_count tree node) (names_of tree node.id)) { size = (if b then entries_count tree node else length node.bytes) - 1 }

    root_one_less : (folder : PlainEntry) → keeping_entry tree ≡ Some folder → one_less (facts_of tree node) ≡ facts_of shown node
    root_one_less folder found =
        ap (λ b. if b then less_by node.folder else record (facts_of tree node) { links = (facts_of tree node).links - 1 }) kind ∙ ap less_by kind ∙ ap (λ n. facts_by node true n 0) (root_less folder found)
        ∙ sym (ap (λ b. facts_by node b (entries_count shown node) (names_of shown node.id)) kind)

    root_alone : keeping_entry tree ≡ None → facts_of tree node ≡ facts_of shown node
    root_alone none =
        let all = root_count tree is in
        let nothing = kept_length (is_at 2 keeping_name) tree.entries ∙ none_filtered (is_at 2 keeping_name) tree.entries (λ entry stands at. true≢false (sym at ∙ found_none (is_at 2 keeping_name) tree.entries none entry stands)) in
        folder_facts node kind (omega (arith, all, nothing, ap (λ n. length (entries_in tree n)) root, ap (λ n. length (entries_in shown n)) root))

  -- ---- a file's names

  module _ (node : PlainNode) (here : node_at tree node.id ≡ Some node) (kind : node.folder ≡ false) (few : node.id < 2 ^ 64) where
    abbrev node_or : PlainNode → Option PlainNode → PlainNode
    node_or other None = other
    node_or other (Some one) = one

    file_entry : (entry : PlainEntry) → Contains tree.entries entry → entry.id ≡ node.id → entry.folder ≡ false
    file_entry entry stands same =
        let named = (is.plain.named entry stands).named in
        sym named.2 ∙ ap (λ (n : PlainNode). n.folder) (ap (node_or named.0) (sym named.1 ∙ ap (λ n. node_at tree n) same ∙ here)) ∙ kind

    abbrev is_its : PlainEntry → Bool
    is_its entry = entry.id == node.id

    module _ (folder : PlainEntry) (found : keeping_entry tree ≡ Some folder) where
      and_false : (b : Bool) → (b && false) ≡ false
      and_false true = refl
      and_false false = refl

      and_true : (b : Bool) → (b && true) ≡ b
      and_true true = refl
      and_true false = refl

      -- an entry of the folder isn't seen, and its name is its id
      in_folder : (entry : PlainEntry) → Contains tree.entries entry → (entry.parent == folder.id) ≡ true → (is_seen tree entry ≡ false) × (entry.name ≡ decimal entry.id)
      in_folder entry stands inside_it =
          let there : stands_in (keeping_entry tree) entry ≡ true = ap (λ o. stands_in o entry) found ∙ inside_it in
          let own = both (not entry.folder) (bytes_eq entry.name (decimal entry.id)) (is.own entry (kept_stands (stands_in (keeping_entry tree)) tree.entries entry stands there)) in
          (ap (λ b. not (is_at 2 keeping_name entry) && not b) there ∙ and_false (not (is_at 2 keeping_name entry)), (bytes_eq-Decides entry.name (decimal entry.id)).0 own.1)

      -- elsewhere a file's entry is seen
      out_of_folder : (entry : PlainEntry) → Contains tree.entries entry → (entry.parent == folder.id) ≡ false → (entry.id == node.id) ≡ true → is_seen tree entry ≡ true
      out_of_folder entry stands outside same = (λ i. not (no_folder (is_at 2 keeping_name entry) refl i) && not ((ap (λ o. stands_in o entry) found ∙ outside) i))
        where
          no_folder : (b : Bool) → is_at 2 keeping_name entry ≡ b → is_at 2 keeping_name entry ≡ false
          no_folder false isnt = isnt
          no_folder true at = absurd (true≢false (sym (is.folder entry stands at) ∙ file_entry entry stands (eqb-true entry.id node.id same)))

      -- what is kept of it is its entry there
      kept_is_its : (entry : PlainEntry) → Contains tree.entries entry → is_at folder.id (decimal node.id) entry ≡ (is_its entry && not (is_seen tree entry))
      kept_is_its entry stands = by (entry.parent == folder.id) refl
        where
          named_by : (name : List ℕ) → entry.name ≡ decimal entry.id → (b : Bool) → (entry.id == node.id) ≡ b → bytes_eq entry.name (decimal node.id) ≡ b
          named_by name own true same = ap (λ (l : List ℕ). bytes_eq l (decimal node.id)) (own ∙ ap decimal (eqb-true entry.id node.id same)) ∙ (bytes_eq-Decides (decimal node.id) (decimal node.id)).1 refl
          named_by name own false other = never (bytes_eq entry.name (decimal node.id)) refl
            where
              never : (b : Bool) → bytes_eq entry.name (decimal node.id) ≡ b → b ≡ false
              never false isnt = refl
              never true same =
                  let id = digits_tell entry.id node.id (omega (arith, (is.drawn entry stands).0, is.few)) few (sym own ∙ (bytes_eq-Decides entry.name (decimal node.id)).0 same) in
                  absurd (true≢false (sym (ap (λ n. n == node.id) id ∙ equal node.id) ∙ other))
                where
                  equal : (n : ℕ) → (n == n) ≡ true
                  equal n = grind arith

          seen_out : (b : Bool) → (entry.id == node.id) ≡ b → (entry.parent == folder.id) ≡ false → (b && not (is_seen tree entry)) ≡ false
          seen_out true same outside = ap not (out_of_folder entry stands outside same)
          seen_out false other outside = refl

          by : (b : Bool) → (entry.parent == folder.id) ≡ b → is_at folder.id (decimal node.id) entry ≡ (is_its entry && not (is_seen tree entry))
          by true inside_it =
              let its = in_folder entry stands inside_it in
              ap (λ b. b && bytes_eq entry.name (decimal node.id)) inside_it ∙ named_by entry.name its.1 (entry.id == node.id) refl ∙ sym (ap (λ b. is_its entry && not b) its.0 ∙ and_true (is_its entry))
          by false outside = ap (λ b. b && bytes_eq entry.name (decimal node.id)) outside ∙ sym (seen_out (entry.id == node.id) refl outside)

      -- one there where it is kept
      keeper_one : is_kept tree node.id ≡ true → length (kept (is_at folder.id (decimal node.id)) tree.entries) ≡ 1
      keeper_one kept_it = by (entry_at tree folder.id (decimal node.id)) refl
        where
          exactly : (n : ℕ) → n ≤ 1 → (n ≡ 0 → ⊥) → length (kept (is_at folder.id (decimal node.id)) tree.entries) ≡ n → length (kept (is_at folder.id (decimal node.id)) tree.entries) ≡ 1
          exactly zero few some same = absurd (some refl)
          exactly (suc n) few some same = omega (arith, few, same)

          by : (o : Option PlainEntry) → entry_at tree folder.id (decimal node.id) ≡ o → length (kept (is_at folder.id (decimal node.id)) tree.entries) ≡ 1
          by None none = absurd (true≢false (sym kept_it ∙ sym (kept_found tree is node.id folder found) ∙ ap is_some none))
          by (Some keeper) there =
              let at = found_some (is_at folder.id (decimal node.id)) tree.entries keeper there in
              exactly (length (filter (is_at folder.id (decimal node.id)) tree.entries)) (one_at_place folder.id (decimal node.id) tree.entries is.plain.entries_sorted) (filtered (is_at folder.id (decimal node.id)) tree.entries keeper at.0 at.1)
              (kept_length (is_at folder.id (decimal node.id)) tree.entries)

      counted : (xs : List PlainEntry) → count_by is_its xs ≡ length (kept is_its xs)
      counted xs = sym (length-filter is_its xs) ∙ sym (kept_length is_its xs)

      one_more : is_kept tree node.id ≡ true → names_of tree node.id ≡ seen_names tree node.id + 1
      one_more kept_it =
          let parts = kept_parts is_its (is_seen tree) (is_at folder.id (decimal node.id)) tree.entries kept_is_its in
          omega (arith, parts, keeper_one kept_it, counted tree.entries, counted (kept (is_seen tree) tree.entries))

    -- a kept file has one name more than is seen
    pub kept_name : is_kept tree node.id ≡ true → names_of tree node.id ≡ seen_names tree node.id + 1
    kept_name kept_it = by (keeping_entry tree) refl
      where
        by : (o : Option PlainEntry) → keeping_entry tree ≡ o → names_of tree node.id ≡ seen_names tree node.id + 1
        by None none = absurd (true≢false (sym kept_it ∙ none_there tree is node.id none))
        by (Some folder) found = one_more folder found kept_it

    abbrev file_less : Bool → Facts
    file_less b = record (facts_by node b (entries_count tree node) (names_of tree node.id)) { links = (if b then 0 else names_of tree node.id) - 1 }

    pub kept_facts : is_kept tree node.id ≡ true → one_less (facts_of tree node) ≡ facts_of shown node
    kept_facts kept_it =
        let less : names_of tree node.id - 1 ≡ seen_names tree node.id = omega (arith, kept_name kept_it) in
        ap (λ b. if b then record (facts_of tree node) { size = (facts_of tree node).size - 1 } else file_less node.folder) kind ∙ ap file_less kind ∙ ap (λ n. facts_by node false 0 n) less
        ∙ sym (ap (λ b. facts_by node b (entries_count shown node) (names_of shown node.id)) kind)

    pub other_facts : is_kept tree node.id ≡ false → facts_of tree node ≡ facts_of shown node
    other_facts not_kept =
        ap (λ b. facts_by node b (entries_count tree node) (names_of tree node.id)) kind ∙ ap (λ n. facts_by node false 0 n) (sym (names_seen tree is node.id node here kind not_kept))
        ∙ sym (ap (λ b. facts_by node b (entries_count shown node) (names_of shown node.id)) kind)

-- ---- what a list or a look is told, and what is shown

abbrev pub list : PlainTree → List (List ℕ) → Reply
list tree path = (step_line tree (Ok (command.Ls path))).0

module _ (tree : PlainTree) (is : IsOwnTree tree) (path : List (List ℕ)) (own : is_keeping_path path ≡ false) where
  abbrev listed_at : PlainTree → Result PlainNode Refusal → Reply
  listed_at t r = (on t (then_ r (λ node. unless (not node.folder) refusal.NotFolder node)) (λ folder. (reply.Listing (map steps.listed (entries_in t folder.id)), t))).0

  abbrev listed_by : PlainTree → PlainNode → Bool → Reply
  listed_by t node b = (on t (unless (not b) refusal.NotFolder node) (λ folder. (reply.Listing (map steps.listed (entries_in t folder.id)), t))).0

  list_is : (t : PlainTree) → is_private_path path ≡ false → list t path ≡ listed_at t (to_node t path)
  list_is t public = ap (λ b. (if b || false then (reply.No refusal.Private, t) else step t (command.Ls path)).0) public

  list_refused : (why : Refusal) → list tree path ≡ reply.No why → listed path (list tree path) ≡ shows tree (command.Ls path) (list tree path)
  list_refused why refuses = ap (listed path) refuses ∙ sym (ap (shows tree (command.Ls path)) refuses)

  -- a listing is told as the machine shows it
  pub list_shown : listed path (list tree path) ≡ shows tree (command.Ls path) (list tree path)
  list_shown = by_private (is_private_path path) refl
    where
      by_folder : is_private_path path ≡ false → (node : PlainNode) → to_node tree path ≡ Ok node → (b : Bool) → node.folder ≡ b → listed path (list tree path) ≡ shows tree (command.Ls path) (list tree path)
      by_folder public node found false file = list_refused refusal.NotFolder (list_is tree public ∙ ap (listed_at tree) found ∙ ap (listed_by tree node) file)
      by_folder public node found true folder =
          let told : list tree path ≡ reply.Listing (map steps.listed (entries_in tree node.id)) = list_is tree public ∙ ap (listed_at tree) found ∙ ap (listed_by tree node) folder in
          let showed : list (shown_tree tree) path ≡ reply.Listing (map steps.listed (entries_in (shown_tree tree) node.id)) =
          list_is (shown_tree tree) public ∙ ap (listed_at (shown_tree tree)) (shown_node tree is path own ∙ found) ∙ ap (listed_by (shown_tree tree) node) folder in
          ap (listed path) told ∙ shown_listing tree is path own node (reaches_of tree is path node found) ∙ sym showed ∙ sym (ap (shows tree (command.Ls path)) told)

      by_node : is_private_path path ≡ false → (r : Result PlainNode Refusal) → to_node tree path ≡ r → listed path (list tree path) ≡ shows tree (command.Ls path) (list tree path)
      by_node public (Err why) found = list_refused why (list_is tree public ∙ ap (listed_at tree) found)
      by_node public (Ok node) found = by_folder public node found node.folder refl

      by_private : (b : Bool) → is_private_path path ≡ b → listed path (list tree path) ≡ shows tree (command.Ls path) (list tree path)
      by_private true private = list_refused refusal.Private (ap (λ b. (if b || false then (reply.No refusal.Private, tree) else step tree (command.Ls path)).0) private)
      by_private false public = by_node public (to_node tree path) refl

  -- ---- the stages

  module _ (handles : List OpenFile) (run : List Entry) (to : Stage) (ends : command_at to ≡ None) where
    abbrev Comes : Command → Type 0
    Comes asked = Told tree asked run to ⊎ NotLooked tree run to

    -- A line that lists a folder.
    pub listing_line : Follows handles tree (stage.Listing path) run to → Comes (command.Ls path)
    listing_line follows = by (did_first_of handles tree (stage.Listing path) (command.Ls path) refl run to refl ends follows)
      where
        by : DidFirst handles tree (stage.Listing path) (command.Ls path) run to ⊎ SkippedFirst handles tree (stage.Listing path) (command.Ls path) run to → Comes (command.Ls path)
        by (inr skip) = inr (skipped_own handles tree (stage.Listing path) (command.Ls path) refl run to skip refl)
        by (inl did) = inl (told_behind handles tree (stage.Listing path) (command.Ls path) refl run to did
            (subst (λ (r : List Entry). IsQuiet tree r [] [] tree) (sym last.0) (quiet_none tree)) (last.1 ∙ ap stage.Says (same (list_told did.capacity did.entry path did.asks did.served))))
          where
            last : (did.rest ≡ []) × (to ≡ stage.Says (listed path did.entry.reply))
            last = ended handles tree (stage.Says (listed path did.entry.reply)) did.rest to refl did.follows

            same : (did.entry.reply ≡ list (tree_of did.entry.before) path) ⊎ (did.entry.reply ≡ reply.No refusal.OutOfMemory) → listed path did.entry.reply ≡ shows tree (command.Ls path) did.entry.reply
            same (inr short) = ap (listed path) short ∙ sym (ap (shows tree (command.Ls path)) short)
            same (inl told) =
                let said : did.entry.reply ≡ list tree path = told ∙ ap (λ (t : PlainTree). list t path) did.before in
                ap (listed path) said ∙ list_shown ∙ sym (ap (shows tree (command.Ls path)) said)

    -- ---- facts

    abbrev looks : Command
    looks = command.Stat path

    module _ (did : DidFirst handles tree (stage.Stating path) looks run to) where
      -- it is refused
      refused_look : (why : Refusal) → did.entry.reply ≡ reply.No why → Comes looks
      refused_look why said =
          let last = ended handles tree (stage.Says (reply.No why)) did.rest to refl (subst (λ (s : Stage). Follows handles tree s did.rest to) (ap (found_to_tell path) said) did.follows) in
          inl (told_behind handles tree (stage.Stating path) looks refl run to did (subst (λ (r : List Entry). IsQuiet tree r [] [] tree) (sym last.0) (quiet_none tree))
          (last.1 ∙ sym (ap (λ (r : Reply). stage.Says (shows tree looks r)) said)))

      module _ (node : PlainNode) (public : is_private_path path ≡ false) (found : to_node tree path ≡ Ok node) (said : did.entry.reply ≡ reply.Facts (facts_of tree node)) where
        there : Reaches tree is path node
        there = reaches_of tree is path node found

        wanted : shows tree looks did.entry.reply ≡ reply.Facts (facts_of (shown_tree tree) node)
        wanted =
            ap (shows tree looks) said ∙ look_is (shown_tree tree) path public
            ∙ ap (λ (r : Result PlainNode Refusal). (on (shown_tree tree) r (λ node. (reply.Facts (facts_of (shown_tree tree) node), shown_tree tree))).0) (shown_node tree is path own ∙ found)

        next : (s : Stage) → found_to_tell path (reply.Facts (facts_of tree node)) ≡ s → Follows handles tree s did.rest to
        next s is_it = subst (λ (s : Stage). Follows handles tree s did.rest to) (ap (found_to_tell path) said ∙ is_it) did.follows

        -- a look behind it says what is shown
        second : (here : Stage) (goal : List (List ℕ)) → ((got : Reply) → heard_at handles here got ≡ stage.Says (told_without (facts_of tree node) got)) → command_at here ≡ Some (command.Stat goal) → Follows handles tree here did.rest to
            → told_without (facts_of tree node) (look tree goal) ≡ reply.Facts (facts_of (shown_tree tree) node) → Comes looks
        second here goal hears asks follows shows_it = by last.says
          where
            last : LooksLast tree goal (λ got. stage.Says (told_without (facts_of tree node) got)) did.rest to
            last = looks_last handles tree here goal (λ got. stage.Says (told_without (facts_of tree node) got)) hears (λ got. refl) did.rest to asks ends follows

            by : (last.said ≡ look tree goal) ⊎ ((why : Refusal) × IsSkipped why × (last.said ≡ reply.No why)) → Comes looks
            by (inl same) =
                inl (told_behind handles tree (stage.Stating path) looks refl run to did last.quiet (last.last ∙ ap (λ (r : Reply). stage.Says (told_without (facts_of tree node) r)) same ∙ ap stage.Says (shows_it ∙ sym wanted)))
            by (inr skip) = inr (record {
              why = skip.0;
              skipped = skip.1;
              says = last.last ∙ ap (λ (r : Reply). stage.Says (told_without (facts_of tree node) r)) skip.2 ∙ ap (λ b. stage.Says (if b then reply.No skip.0 else reply.Facts (facts_of tree node))) (skip_is skip.0 skip.1);
              quiet = quiet_behind handles tree (stage.Stating path) looks refl run to did last.quiet;
            })

        abbrev step_to : Bool → Bool → Stage
        step_to folder root = if not folder then stage.StatingFile (facts_of tree node) else if root then stage.StatingRoot (facts_of tree node) else stage.Says (reply.Facts (facts_of tree node))

        by_kind : (b : Bool) → node.folder ≡ b → Comes looks
        by_kind false file =
            second (stage.StatingFile (facts_of tree node)) (kept_path node.id) (λ got. refl) refl (next (stage.StatingFile (facts_of tree node)) (ap (λ b. step_to b (is_root path)) file)) (by_kept (is_kept tree node.id) refl)
          where
            here : node_at tree node.id ≡ Some node
            here = ap (node_at tree) there.number ∙ there.here

            few : node.id < 2 ^ 64
            few = file_few tree is path own node there file

            by_kept : (b : Bool) → is_kept tree node.id ≡ b → told_without (facts_of tree node) (look tree (kept_path node.id)) ≡ reply.Facts (facts_of (shown_tree tree) node)
            by_kept true kept_it = ap (told_without (facts_of tree node)) (kept_told tree is node.id kept_it).1 ∙ ap reply.Facts (kept_facts tree is node here file few kept_it)
            by_kept false not_kept = ap (told_without (facts_of tree node)) (not_kept_told tree is node.id not_kept) ∙ ap reply.Facts (other_facts tree is node here file few not_kept)
        by_kind true folder = by_root (is_root path) refl
          where
            by_root : (b : Bool) → is_root path ≡ b → Comes looks
            by_root true root =
                second (stage.StatingRoot (facts_of tree node)) keeping_path (λ got. refl) refl (next (stage.StatingRoot (facts_of tree node)) (λ i. step_to (folder i) (root i))) (by_there (keeping_entry tree) refl)
              where
                number : node.id ≡ 2
                number = node_root tree is path own node there root

                by_there : (o : Option PlainEntry) → keeping_entry tree ≡ o → told_without (facts_of tree node) (look tree keeping_path) ≡ reply.Facts (facts_of (shown_tree tree) node)
                by_there (Some keeping) here = ap (told_without (facts_of tree node)) (there_told tree is keeping here).1 ∙ ap reply.Facts (root_one_less tree is node folder number keeping here)
                by_there None absent = ap (told_without (facts_of tree node)) (absent_told tree is absent) ∙ ap reply.Facts (root_alone tree is node folder number absent)
            by_root false below =
                let last = ended handles tree (stage.Says (reply.Facts (facts_of tree node))) did.rest to refl (next (stage.Says (reply.Facts (facts_of tree node))) (λ i. step_to (folder i) (below i))) in
                let same : facts_of tree node ≡ facts_of (shown_tree tree) node =
                folder_facts tree is node folder (ap (λ (l : List PlainEntry). length l) (sym (shown_entries tree is node.id (node_outside tree is path own node there) (node_below tree is path own node there below)))) in
                inl (told_behind handles tree (stage.Stating path) looks refl run to did (subst (λ (r : List Entry). IsQuiet tree r [] [] tree) (sym last.0) (quiet_none tree)) (last.1 ∙ ap (λ (f : Facts). stage.Says (reply.Facts f)) same ∙ ap stage.Says (sym wanted)))

    -- A line that tells facts.
    pub stating_line : Follows handles tree (stage.Stating path) run to → Comes looks
    stating_line follows = by (did_first_of handles tree (stage.Stating path) looks refl run to refl ends follows)
      where
        by : DidFirst handles tree (stage.Stating path) looks run to ⊎ SkippedFirst handles tree (stage.Stating path) looks run to → Comes looks
        by (inr skip) = inr (skipped_own handles tree (stage.Stating path) looks refl run to skip refl)
        by (inl did) = by_told (look_told did.capacity did.entry path did.asks did.served)
          where
            by_node : is_private_path path ≡ false → did.entry.reply ≡ (on tree (to_node tree path) (λ node. (reply.Facts (facts_of tree node), tree))).0 → (r : Result PlainNode Refusal) → to_node tree path ≡ r → Comes looks
            by_node public said (Err why) found = refused_look did why (said ∙ ap (λ (r : Result PlainNode Refusal). (on tree r (λ node. (reply.Facts (facts_of tree node), tree))).0) found)
            by_node public said (Ok node) found =
                by_kind did node public found (said ∙ ap (λ (r : Result PlainNode Refusal). (on tree r (λ node. (reply.Facts (facts_of tree node), tree))).0) found) node.folder refl

            by_private : did.entry.reply ≡ look tree path → (b : Bool) → is_private_path path ≡ b → Comes looks
            by_private said true private = refused_look did refusal.Private (said ∙ ap (λ b. (if b || false then (reply.No refusal.Private, tree) else step tree (command.Stat path)).0) private)
            by_private said false public = by_node public (said ∙ look_is tree path public) (to_node tree path) refl

            by_told : (did.entry.reply ≡ look (tree_of did.entry.before) path) ⊎ (did.entry.reply ≡ reply.No refusal.OutOfMemory) → Comes looks
            by_told (inr short) = refused_look did refusal.OutOfMemory short
            by_told (inl told) = by_private (told ∙ ap (λ (t : PlainTree). look t path) did.before) (is_private_path path) refl
