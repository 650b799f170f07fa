-- What `mv` over a file is about, and what watchers are told of it.
use Rattle.std.proofs.Common.{◌≡◌, ℕ, ◌==◌, Bool, true, false, List, [], ◌∷◌, refl, sym, ◌∙◌, ap, subst, eq-eqb}
use Rattle.std.specs.Prelude.{◌||◌, is_some, Option, Some, None, ok_or, Result, Ok, Err, if◌then◌else◌}
use Rattle.std.proofs.lemmas.Bool.{eqb-true, true≢false}
use Rattle.sector_disk.specs.Lists.{Content}
use Rattle.hfs_language.specs.Written.{FitsPath}
use Rattle.hfs_language.specs.declared.command.Command.TheVariants as command
use Rattle.hfs_language.specs.declared.refusal.Refusal.{Refusal}
use Rattle.hfs_language.specs.declared.refusal.Refusal.TheVariants as refusal
use Rattle.hfs_language.specs.declared.reply.ChangeKind.TheVariants as change
use Rattle.hfs_language.specs.declared.reply.Facts.{Facts}
use Rattle.hfs_language.specs.declared.reply.Reply.TheVariants as reply
use Rattle.hfs_model.specs.Plain.{IsPlainTree, entry_at, is_node, node_at}
use Rattle.hfs_model.specs.Step.{Place, child, facts_of, front, is_below, is_private_path, is_root, is_same_file, last_name, on, place, place_in, reached, root_entry, step, step_line, then_, to_mv, to_node, to_pair, unless}
use Rattle.hfs_model.specs.declared.plain.PlainEntry.{PlainEntry}
use Rattle.hfs_model.specs.declared.plain.PlainNode.{PlainNode}
use Rattle.hfs_model.specs.declared.plain.PlainTree.{PlainTree}
use Rattle.hfs_model.proofs.Below.{last_name-last}
use Rattle.hfs_volume.specs.Books.{SoundHasPlainTree}
use Rattle.hfs_volume.specs.TreeOf.{tree_of}
use Rattle.hfs_volume.proofs.Flat.{found_some}
use Rattle.hfs_volume.proofs.Reaching.{if_ok, ok_same, then_ok, unless_ok}
use Rattle.hfs_volume.proofs.Vacating.{IsMoving, moving_is}
use Rattle.volume_runs.specs.Told.{of_moved}
use Rattle.volume_base.specs.Lists.{lists_of}
use Rattle.volume_base.specs.Making.{path_to}
use Rattle.volume_base.specs.Moving.{to_free}
use Rattle.volume_base.specs.Refusing.{facts_or}
use Rattle.volume_base.specs.Standing.{HoldsTrees, IsSettled}
use Rattle.volume_base.specs.Watching.{change_of, standing_in}
use Rattle.volume_base.specs.declared.volume.Volume.{Volume}
use Rattle.volume_base.specs.declared.watching.Standing.{Standing}
use Rattle.volume_base.proofs.Refused.{reached_kind}
use Rattle.volume_base.proofs.Rising.{settled_is_plain}
use Rattle.volume_base.proofs.Routed.{child_is}
use Rattle.volume_base.proofs.Siting.{front_tree}
use Rattle.volume_base.proofs.Watched.{place_of, standing_told, standing_value}

right_false : (a b : Bool) → (a || b) ≡ false → b ≡ false
right_false true b is = absurd (true≢false is)
right_false false b is = is

-- `stat` tells the CNID of what a path reaches
pub facts_reached : (tree : PlainTree) → IsPlainTree tree → (path : List (List ℕ)) → is_private_path path ≡ false → (at : PlainEntry) → reached tree path ≡ Ok at → (said : Result Facts Refusal) → said ≡ facts_or (step_line tree (Ok (command.Stat path))).0
    → (told : Facts) × (said ≡ Ok told) × (told.id ≡ at.id)
facts_reached tree plain path own at is said found =
    let kind = reached_kind tree plain path at is in
    let node : to_node tree path ≡ Ok kind.0 = ap (λ (r : Result PlainEntry Refusal). then_ r (λ e. ok_or (node_at tree e.id) refusal.NotFound)) is ∙ ap (λ (o : Option PlainNode). ok_or o refusal.NotFound) kind.1 in (
      facts_of tree kind.0,
      found ∙ ap (λ b. facts_or (if b || false then (reply.No refusal.Private, tree) else step tree (command.Stat path)).0) own ∙ ap (λ (r : Result PlainNode Refusal). facts_or (on tree r (λ n. (reply.Facts (facts_of tree n), tree))).0) node,
      eqb-true kind.0.id at.id (found_some (is_node at.id) tree.nodes kind.0 kind.1).1,
    )

module _ (tree : PlainTree) (from to : List (List ℕ)) (pair : PlainEntry × Place) (allowed : to_mv tree from to ≡ Ok pair) where
  moving : IsMoving tree from to pair
  moving = moving_is tree from to pair allowed

  free_allowed : pair.1.found ≡ None → to_free tree from to ≡ Ok pair
  free_allowed none =
      ap (λ (r : Result (PlainEntry × Place) Refusal). then_ r (λ p. then_ (unless (is_some p.1.found) refusal.Exists p) (unless (is_below to from) refusal.Inside))) moving.is_pair
      ∙ (λ i. then_ (unless (is_some (none i)) refusal.Exists pair) (unless (moving.outside i) refusal.Inside))

  -- where the place isn't free, something stands there
  pub taken_by : to_free tree from to ≡ Err refusal.Exists → (other : PlainEntry) × (pair.1.found ≡ Some other)
  taken_by taken = by pair.1.found refl
    where
      by : (o : Option PlainEntry) → pair.1.found ≡ o → (other : PlainEntry) × (pair.1.found ≡ Some other)
      by None none = absurd (let never : Err refusal.Exists ≡ Ok pair = sym taken ∙ free_allowed none in cc never)
      by (Some other) found = (other, found)

module _ (tree : PlainTree) (from to : List (List ℕ)) (pair : PlainEntry × Place) (is_pair : to_pair tree from to ≡ Ok pair) where
  rooted : (named : List (List ℕ)) × (unless (is_root from || is_root to) refusal.Root from ≡ Ok named) × (then_ (reached tree named) (λ x. then_ (place tree to) (λ g. Ok (x, g))) ≡ Ok pair)
  rooted = then_ok (unless (is_root from || is_root to) refusal.Root from) (λ named. then_ (reached tree named) (λ x. then_ (place tree to) (λ g. Ok (x, g)))) pair is_pair

  no_roots : ((is_root from || is_root to) ≡ false) × (from ≡ rooted.0)
  no_roots = unless_ok (is_root from || is_root to) refusal.Root from rooted.0 rooted.1

  walked : (x : PlainEntry) × (reached tree rooted.0 ≡ Ok x) × (then_ (place tree to) (λ g. Ok (x, g)) ≡ Ok pair)
  walked = then_ok (reached tree rooted.0) (λ x. then_ (place tree to) (λ g. Ok (x, g))) pair rooted.2

  placed : (g : Place) × (place tree to ≡ Ok g) × (let r : Result (PlainEntry × Place) Refusal = Ok (walked.0, g) in r ≡ Ok pair)
  placed = then_ok (place tree to) (λ g. Ok (walked.0, g)) pair walked.2

  parts : (let p : PlainEntry × Place = (walked.0, placed.0) in p ≡ pair)
  parts = ok_same _ pair placed.2

  -- the first path reaches what is moved
  pub reaches : reached tree from ≡ Ok pair.0
  reaches = ap (reached tree) no_roots.1 ∙ walked.1 ∙ ap Ok (ap (λ (p : PlainEntry × Place). p.0) parts)

  placed_at : place tree to ≡ Ok pair.1
  placed_at = placed.1 ∙ ap Ok (ap (λ (p : PlainEntry × Place). p.1) parts)

  above : (x : PlainEntry) × (reached tree (front to) ≡ Ok x) × (place_in tree (last_name to) x ≡ Ok pair.1)
  above = then_ok (reached tree (front to)) (place_in tree (last_name to)) pair.1 placed_at

  abbrev its_place : Place
  its_place = record { folder = above.0.id; name = last_name to; found = entry_at tree above.0.id (last_name to) }

  kind : (above.0.folder ≡ true) × (let r : Result Place Refusal = Ok its_place in r ≡ Ok pair.1)
  kind = if_ok above.0.folder (Ok its_place) refusal.NotFolder pair.1 above.2

  goal_is : its_place ≡ pair.1
  goal_is = ok_same its_place pair.1 kind.1

  -- the place has the last name of the second path
  pub named : pair.1.name ≡ last_name to
  named = ap (λ (x : Place). x.name) (sym goal_is)

  module _ (other : PlainEntry) (stood : pair.1.found ≡ Some other) where
    child_found : child tree above.0 (last_name to) ≡ Ok other
    child_found =
        ap (λ b. if b then ok_or (entry_at tree above.0.id (last_name to)) refusal.NotFound else Err refusal.NotFolder) kind.0
        ∙ ap (λ (o : Option PlainEntry). ok_or o refusal.NotFound) (ap (λ (x : Place). x.found) goal_is ∙ stood)

    -- the second path reaches what stands there
    pub stands : reached tree to ≡ Ok other
    stands =
        front_tree tree to (right_false (is_root from) (is_root to) no_roots.0) root_entry
        ∙ ap (λ (r : Result PlainEntry Refusal). then_ r (λ e. child tree e (last_name to))) above.1
        ∙ child_found

    -- in the folder of the place
    pub folder : other.parent ≡ pair.1.folder
    folder = (child_is tree above.0 other (last_name to) child_found).1 ∙ ap (λ (x : Place). x.folder) goal_is

    module _ (line : ℕ) (told : Facts) (number : told.id ≡ pair.0.id) (at : Standing) (place_is : at ≡ place_of other) where
      same_file : is_same_file pair.0 pair.1.found ≡ (at.id == told.id)
      same_file = ap (is_same_file pair.0) stood ∙ (λ i. (sym place_is i).id == sym number i)

      -- nothing is told where both names are those of one file
      pub tells_nothing : (at.id == told.id) ≡ true → [] ≡ of_moved line (Ok pair)
      tells_nothing same = sym (ap (λ b. if b then [] else change_of line change.Moved pair.0.id pair.1.folder pair.1.name ∷ []) (same_file ∙ same))

      -- else what was moved, at the place
      pub tells_move : (name : List ℕ) → last_name to ≡ name → (at.id == told.id) ≡ false → change_of line change.Moved told.id at.parent name ∷ [] ≡ of_moved line (Ok pair)
      tells_move name last other_file =
          (λ i. change_of line change.Moved (number i) ((ap (λ (s : Standing). s.parent) place_is ∙ folder) i) ((sym last ∙ sym named) i) ∷ [])
          ∙ sym (ap (λ b. if b then [] else change_of line change.Moved pair.0.id pair.1.folder pair.1.name ∷ []) (same_file ∙ other_file))

-- ---- over a settled volume

abbrev told_or : Facts → Result Facts Refusal → Facts
told_or other (Ok told) = told
told_or other (Err why) = other

module _ (law : SoundHasPlainTree) (v : Volume) (content : Content) (holds : HoldsTrees v content) (settled : IsSettled v content) (from to under : List (List ℕ)) (name : List ℕ) (goal_split : to ≡ path_to under name) (not_own : is_private_path from ≡ false) (goal_not_own : is_private_path to ≡ false) (goal_fits : FitsPath to)
    (taken : to_free (tree_of content) from to ≡ Err refusal.Exists) (pair : PlainEntry × Place) (allowed : to_mv (tree_of content) from to ≡ Ok pair) (said : Result Facts Refusal) (found : said ≡ facts_or (step_line (tree_of content) (Ok (command.Stat from))).0)
  where
    is_pair : to_pair (tree_of content) from to ≡ Ok pair
    is_pair = (moving_is (tree_of content) from to pair allowed).is_pair

    pub other : (e : PlainEntry) × (pair.1.found ≡ Some e)
    other = taken_by (tree_of content) from to pair allowed taken

    pub moved_is : (told : Facts) × (said ≡ Ok told) × (told.id ≡ pair.0.id)
    moved_is = facts_reached (tree_of content) (settled_is_plain law v content holds settled) from not_own pair.0 (reaches (tree_of content) from to pair is_pair) said found

    module _ (w : Volume) (later : Content) (holds_later : HoldsTrees w later) (settled_later : IsSettled w later) (same : later ≡ content) (at : Result Standing Refusal) (stood : at ≡ standing_in (lists_of w later).catalog_pairs w.private to under) where
      pub other_is : (at ≡ Ok (place_of other.0)) × (other.0.name ≡ name)
      other_is =
          standing_told law w later holds_later settled_later to under name goal_split goal_not_own goal_fits at stood other.0
          (subst (λ (k : Content). reached (tree_of k) to ≡ Ok other.0) (sym same) (stands (tree_of content) from to pair is_pair other.0 other.1))

      module _ (line : ℕ) (told : Facts) (is : said ≡ Ok told) (standing : Standing) (at_is : at ≡ Ok standing) where
        number : told.id ≡ pair.0.id
        number = ap (λ (f : Facts). f.id) (ap (told_or told) (sym is ∙ moved_is.1)) ∙ moved_is.2

        where_it_stands : standing ≡ place_of other.0
        where_it_stands = ap (standing_value standing) (sym at_is ∙ other_is.0)

        pub told_nothing : standing.id ≡ told.id → [] ≡ of_moved line (Ok pair)
        told_nothing itself = tells_nothing (tree_of content) from to pair is_pair other.0 other.1 line told number standing where_it_stands (eq-eqb standing.id told.id itself)

        pub told_move : (standing.id ≡ told.id → ⊥) → change_of line change.Moved told.id standing.parent name ∷ [] ≡ of_moved line (Ok pair)
        told_move apart = tells_move (tree_of content) from to pair is_pair other.0 other.1 line told number standing where_it_stands name (ap last_name goal_split ∙ last_name-last under name) (by (standing.id == told.id) refl)
          where
            by : (b : Bool) → (standing.id == told.id) ≡ b → (standing.id == told.id) ≡ false
            by true same = absurd (apart (eqb-true standing.id told.id same))
            by false differs = differs
