-- Where the step of `ln` refuses nothing, by the way that was read: the file and the place of its new name; and what `ln` answers.
use Rattle.std.proofs.Common.{◌≡◌, ℕ, Bool, true, false, List, refl, sym, ◌∙◌, ap, subst}
use Rattle.std.specs.Prelude.{◌||◌, nat_le, is_some, Option, Some, None, Result, Ok, Err, if◌then◌else◌}
use Rattle.std.specs.Option.{ok_or, option_map}
use Rattle.sector_disk.specs.Lists.{Content}
use Rattle.btree_node.specs.Levels.{Pair}
use Rattle.cat_records.specs.declared.record.CatRecord.{CatRecord}
use Rattle.cat_records.specs.declared.record.CatRecord.TheVariants.{Folder, File, Thread}
use Rattle.catalog.specs.Pairs.{value_at}
use Rattle.hfs_language.specs.Written.{FitsPath}
use Rattle.hfs_language.specs.declared.command.Command.TheVariants as command
use Rattle.hfs_language.specs.declared.refusal.Refusal.{Refusal}
use Rattle.hfs_language.specs.declared.refusal.Refusal.TheVariants as refusal
use Rattle.hfs_language.specs.declared.reply.Reply.TheVariants as reply
use Rattle.hfs_model.specs.Plain.{names_of, node_at}
use Rattle.hfs_model.specs.Step.{Place, is_private_path, is_root, last_name, linked, most_links, new_place, on, place, reached, step, step_line, then_, to_link, to_ln, to_make, unless}
use Rattle.hfs_model.specs.declared.plain.PlainEntry.{PlainEntry}
use Rattle.hfs_model.specs.declared.plain.PlainNode.{PlainNode}
use Rattle.hfs_model.specs.declared.plain.PlainTree.{PlainTree}
use Rattle.hfs_model.proofs.Below.{last_name-last}
use Rattle.hfs_volume.specs.Books.{SoundHasPlainTree}
use Rattle.hfs_volume.specs.Records.{Placed, is_empty, is_file, is_link, is_link_type, placed_in, record_at, special_of}
use Rattle.hfs_volume.specs.TreeOf.{tree_of}
use Rattle.volume_base.specs.Linking.{IsLinkTo, IsLinking, name_record}
use Rattle.volume_base.specs.Lists.{lists_of}
use Rattle.volume_base.specs.Losing.{IsOnlyName}
use Rattle.volume_base.specs.Making.{free_place, path_to}
use Rattle.volume_base.specs.Moving.{route_in}
use Rattle.volume_base.specs.Refusing.{refusal_in}
use Rattle.volume_base.specs.Standing.{HoldsTrees, IsSettled}
use Rattle.volume_base.specs.declared.linking.NameRecord.{NameRecord}
use Rattle.volume_base.specs.declared.linking.NameRecord.TheVariants as kind
use Rattle.volume_base.specs.declared.moving.Route.{Route}
use Rattle.volume_base.specs.declared.volume.Volume.{Volume}
use Rattle.volume_base.proofs.Refused.{from_own, to_own}
use Rattle.volume_base.proofs.Routed.{way_told}
use Rattle.volume_base.proofs.Sited.{fits_name, not_root, some_name}

-- ---- the record of the name

abbrev number_or : ℕ → NameRecord → ℕ
number_or other (kind.Link reference) = reference
number_or other kind.Own = other
number_or other kind.Other = other

module _ (pairs : List Pair) (parent : ℕ) (name : List ℕ) (reference : ℕ) where
  of_file : (p : Placed) → record_at (placed_in pairs) parent name ≡ Some p → (file : _) → p.value ≡ File file → (b : Bool) → is_link_type file.fields ≡ b → (if b then kind.Link file.fields.special else kind.Own) ≡ kind.Link reference → IsLinkTo parent name reference pairs
  of_file p found file is false test same = absurd (cc same)
  of_file p found file is true test same = record {
    entry = p;
    found = found;
    is_one = ap (λ (v : CatRecord). is_link (record p { value = v })) is ∙ test;
    number = ap (λ (v : CatRecord). special_of (record p { value = v })) is ∙ ap (number_or reference) same;
  }

  of_value : (p : Placed) → record_at (placed_in pairs) parent name ≡ Some p → (value : CatRecord) → p.value ≡ value → name_record (Some value) ≡ kind.Link reference → IsLinkTo parent name reference pairs
  of_value p found (Folder folder) is same = absurd (cc same)
  of_value p found (File file) is same = of_file p found file is (is_link_type file.fields) refl same
  of_value p found (Thread thread) is same = absurd (cc same)

  -- a record that was found to be a link's is one
  pub link_told : name_record (value_at pairs parent name) ≡ kind.Link reference → IsLinkTo parent name reference pairs
  link_told is = by (record_at (placed_in pairs) parent name) refl is
    where
      by : (o : Option Placed) → record_at (placed_in pairs) parent name ≡ o → name_record (option_map (λ (p : Placed). p.value) o) ≡ kind.Link reference → IsLinkTo parent name reference pairs
      by None found same = absurd (cc same)
      by (Some p) found same = of_value p found p.value refl same

-- a record that was found to be a file's own is its only name
module _ (pairs : List Pair) (parent : ℕ) (name : List ℕ) where
  own_file : (p : Placed) → record_at (placed_in pairs) parent name ≡ Some p → (file : _) → p.value ≡ File file → (b : Bool) → is_link_type file.fields ≡ b → (if b then kind.Link file.fields.special else kind.Own) ≡ kind.Own
      → IsOnlyName (record { parent = parent; name = name }) pairs
  own_file p found file is true test same = absurd (cc same)
  own_file p found file is false test same = record {
    names = record { entry = p; found = found; file = ap (λ (v : CatRecord). is_file v) is };
    not_link = ap (λ (v : CatRecord). is_link (record p { value = v })) is ∙ test;
  }

  own_value : (p : Placed) → record_at (placed_in pairs) parent name ≡ Some p → (value : CatRecord) → p.value ≡ value → name_record (Some value) ≡ kind.Own → IsOnlyName (record { parent = parent; name = name }) pairs
  own_value p found (Folder folder) is same = absurd (cc same)
  own_value p found (File file) is same = own_file p found file is (is_link_type file.fields) refl same
  own_value p found (Thread thread) is same = absurd (cc same)

  pub own_told : name_record (value_at pairs parent name) ≡ kind.Own → IsOnlyName (record { parent = parent; name = name }) pairs
  own_told is = by (record_at (placed_in pairs) parent name) refl is
    where
      by : (o : Option Placed) → record_at (placed_in pairs) parent name ≡ o → name_record (option_map (λ (p : Placed). p.value) o) ≡ kind.Own → IsOnlyName (record { parent = parent; name = name }) pairs
      by None found same = absurd (cc same)
      by (Some p) found same = own_value p found p.value refl same

-- ---- the step of a link, by its parts

abbrev pair_of : PlainEntry → Place → PlainEntry × Place
pair_of at goal = (at, goal)

abbrev link_of : PlainNode → Place → PlainNode × Place
link_of file goal = (file, goal)

abbrev found_as : Place → Result Place Refusal
found_as goal = Ok goal

abbrev is_taken : Result Place Refusal → Bool
is_taken (Ok goal) = is_some goal.found
is_taken (Err why) = false

abbrev why_or : Refusal → Option Refusal → Refusal
why_or other None = other
why_or other (Some why) = why

abbrev pair_or : PlainEntry × Place → Result (PlainEntry × Place) Refusal → PlainEntry × Place
pair_or other (Ok pair) = pair
pair_or other (Err why) = other

-- the step doesn't refuse it
abbrev pub IsFine : PlainTree → List (List ℕ) → List (List ℕ) → Type 0
IsFine tree from to = None ≡ refusal_in (step_line tree (Ok (command.Ln from to))).0

module _ (tree : PlainTree) (from to : List (List ℕ)) where
  -- what is refused keeps the tree
  pub refused_reply : (why : Refusal) → Some why ≡ refusal_in (step_line tree (Ok (command.Ln from to))).0 → (reply.No why ≡ (step_line tree (Ok (command.Ln from to))).0) × (tree ≡ (step_line tree (Ok (command.Ln from to))).1)
  refused_reply why is = by_own (is_private_path from || (is_private_path to || false)) is
    where
      by : (r : Result (PlainNode × Place) Refusal) → Some why ≡ refusal_in (on tree r (λ pair. (reply.Ok, linked pair.0 pair.1 tree))).0
          → (reply.No why ≡ (on tree r (λ pair. (reply.Ok, linked pair.0 pair.1 tree))).0) × (tree ≡ (on tree r (λ pair. (reply.Ok, linked pair.0 pair.1 tree))).1)
      by (Ok pair) same = absurd (cc same)
      by (Err other) same = (ap (λ (o : Option Refusal). reply.No (why_or why o)) same, refl)

      by_own : (b : Bool) → Some why ≡ refusal_in (if b then (reply.No refusal.Private, tree) else step tree (command.Ln from to)).0
          → (reply.No why ≡ (if b then (reply.No refusal.Private, tree) else step tree (command.Ln from to)).0) × (tree ≡ (if b then (reply.No refusal.Private, tree) else step tree (command.Ln from to)).1)
      by_own true same = (ap (λ (o : Option Refusal). reply.No (why_or why o)) same, refl)
      by_own false same = by (to_link tree from to) same

  abbrev rest : PlainEntry × Place → Result (PlainEntry × Place) Refusal
  rest file = then_ (unless (is_some file.1.found) refusal.Exists file) (unless (nat_le most_links (names_of tree file.0.id)) refusal.TooManyLinks)

  abbrev judged : PlainEntry × Place → Result (PlainEntry × Place) Refusal
  judged pair = then_ (unless pair.0.folder refusal.IsFolder pair) rest

  module _ (some : is_root from ≡ false) (goal_some : is_root to ≡ false) (at : PlainEntry) (goal : Place) (is : reached tree from ≡ Ok at) (make : to_make tree to ≡ Ok goal) where
    parted : to_ln tree from to ≡ then_ (then_ (reached tree from) (λ e. then_ (place tree to) (λ g. Ok (pair_of e g)))) judged
    parted = λ i. then_ (then_ (if some i || goal_some i then Err refusal.Root else Ok from) (λ named. then_ (reached tree named) (λ e. then_ (place tree to) (λ g. Ok (pair_of e g))))) judged

    made_parted : to_make tree to ≡ then_ (place tree to) (λ g. unless (is_some g.found) refusal.Exists g)
    made_parted = λ i. then_ (if goal_some i then Err refusal.Root else Ok to) (new_place tree)

    placed : (place tree to ≡ Ok goal) × (is_some goal.found ≡ false)
    placed = by (place tree to) refl (sym made_parted ∙ make)
      where
        of_found : (g : Place) (b : Bool) → is_some g.found ≡ b → (if b then Err refusal.Exists else found_as g) ≡ found_as goal → (found_as g ≡ found_as goal) × (is_some goal.found ≡ false)
        of_found g true found same = absurd (cc same)
        of_found g false found same = (same, sym (ap is_taken same) ∙ found)

        by : (r : Result Place Refusal) → place tree to ≡ r → then_ r (λ g. unless (is_some g.found) refusal.Exists g) ≡ Ok goal → (place tree to ≡ Ok goal) × (is_some goal.found ≡ false)
        by (Err why) found same = absurd (cc same)
        by (Ok g) found same = let two = of_found g (is_some g.found) refl same in (found ∙ two.0, two.1)

    pub here : to_ln tree from to ≡ judged (pair_of at goal)
    here = parted ∙ (λ i. then_ (then_ (is i) (λ e. then_ (placed.0 i) (λ g. Ok (pair_of e g)))) judged)

    -- the first two tests, by what the entry and the place say
    of_one : at.folder ≡ false → judged (pair_of at goal) ≡ unless (nat_le most_links (names_of tree at.id)) refusal.TooManyLinks (pair_of at goal)
    of_one kind_is =
        ap (λ (b : Bool). then_ (if b then Err refusal.IsFolder else Ok (pair_of at goal)) rest) kind_is
        ∙ ap (λ (b : Bool). then_ (if b then Err refusal.Exists else Ok (pair_of at goal)) (unless (nat_le most_links (names_of tree at.id)) refusal.TooManyLinks)) placed.1

    of_folder : at.folder ≡ true → judged (pair_of at goal) ≡ Err refusal.IsFolder
    of_folder kind_is = ap (λ (b : Bool). then_ (if b then Err refusal.IsFolder else Ok (pair_of at goal)) rest) kind_is

    -- what may be linked is that entry, at that place
    pub same_pair : (pair : PlainEntry × Place) → to_ln tree from to ≡ Ok pair → pair_of at goal ≡ pair
    same_pair pair ok = by at.folder refl (sym here ∙ ok)
      where
        by_many : (b : Bool) → unless b refusal.TooManyLinks (pair_of at goal) ≡ Ok pair → pair_of at goal ≡ pair
        by_many true same = absurd (cc same)
        by_many false same = ap (pair_or (pair_of at goal)) same

        by : (b : Bool) → at.folder ≡ b → judged (pair_of at goal) ≡ Ok pair → pair_of at goal ≡ pair
        by true kind_is same = absurd (let no : Err refusal.IsFolder ≡ Ok pair = sym (of_folder kind_is) ∙ same in cc no)
        by false kind_is same = by_many (nat_le most_links (names_of tree at.id)) (sym (of_one kind_is) ∙ same)

module _ (tree : PlainTree) (from to : List (List ℕ)) (fine : IsFine tree from to) where
  never : (why : Refusal) → Some why ≡ refusal_in (step_line tree (Ok (command.Ln from to))).0 → ⊥
  never why is = let no : None ≡ Some why = fine ∙ sym is in cc no

  pub not_own : is_private_path from ≡ false
  not_own = by (is_private_path from) refl
    where
      by : (b : Bool) → is_private_path from ≡ b → b ≡ false
      by false is = refl
      by true is = absurd (never refusal.Private (from_own tree from to is))

  pub goal_not_own : is_private_path to ≡ false
  goal_not_own = by (is_private_path to) refl
    where
      by : (b : Bool) → is_private_path to ≡ b → b ≡ false
      by false is = refl
      by true is = absurd (never refusal.Private (to_own tree from to not_own is))

  line : step_line tree (Ok (command.Ln from to)) ≡ step tree (command.Ln from to)
  line = λ i. if not_own i || (goal_not_own i || false) then (reply.No refusal.Private, tree) else step tree (command.Ln from to)

  -- the answer, and the step's tree
  pub linked_line : (reply.Ok ≡ (step_line tree (Ok (command.Ln from to))).0) × ((step tree (command.Ln from to)).1 ≡ (step_line tree (Ok (command.Ln from to))).1)
  linked_line = (by (to_link tree from to) (fine ∙ ap (λ s. refusal_in s.0) line) ∙ sym (ap (λ s. s.0) line), sym (ap (λ s. s.1) line))
    where
      by : (r : Result (PlainNode × Place) Refusal) → None ≡ refusal_in (on tree r (λ pair. (reply.Ok, linked pair.0 pair.1 tree))).0 → reply.Ok ≡ (on tree r (λ pair. (reply.Ok, linked pair.0 pair.1 tree))).0
      by (Ok pair) is = refl
      by (Err why) is = absurd (cc is)

  pub refused : (why : Refusal) → to_ln tree from to ≡ Err why → ⊥
  refused why err =
      let no : None ≡ Some why = fine ∙ ap (λ s. refusal_in s.0) line
      ∙ ap (λ (r : Result (PlainEntry × Place) Refusal). refusal_in (on tree (then_ r (λ pair. then_ (ok_or (node_at tree pair.0.id) refusal.NotFound) (λ file. Ok (link_of file pair.1)))) (λ pair. (reply.Ok, linked pair.0 pair.1 tree))).0) err in
      cc no

  module _ (some : is_root from ≡ false) (goal_some : is_root to ≡ false) (at : PlainEntry) (goal : Place) (is : reached tree from ≡ Ok at) (make : to_make tree to ≡ Ok goal) where
    pub ln_is : to_ln tree from to ≡ Ok (at, goal)
    ln_is = here tree from to some goal_some at goal is make ∙ by at.folder refl
      where
        by_many : (b : Bool) → judged tree from to (pair_of at goal) ≡ unless b refusal.TooManyLinks (pair_of at goal) → judged tree from to (pair_of at goal) ≡ Ok (pair_of at goal)
        by_many false same = same
        by_many true same = absurd (refused refusal.TooManyLinks (here tree from to some goal_some at goal is make ∙ same))

        by : (b : Bool) → at.folder ≡ b → judged tree from to (pair_of at goal) ≡ Ok (pair_of at goal)
        by true kind_is = absurd (refused refusal.IsFolder (here tree from to some goal_some at goal is make ∙ of_folder tree from to some goal_some at goal is make kind_is))
        by false kind_is = by_many (nat_le most_links (names_of tree at.id)) (of_one tree from to some goal_some at goal is make kind_is)

-- ---- over a settled volume

module _ (law : SoundHasPlainTree) (v : Volume) (content : Content) (holds : HoldsTrees v content) (settled : IsSettled v content) (from to above under : List (List ℕ)) (old name : List ℕ) (split : from ≡ path_to above old) (goal_split : to ≡ path_to under name)
    (fine : IsFine (tree_of content) from to) (fits : FitsPath from) (goal_fits : FitsPath to) (said : Result Route Refusal) (found : said ≡ route_in (lists_of v content).catalog_pairs v.private from above under name) (way : Route) (ok : said ≡ Ok way)
  where
    abbrev pub linked_at : PlainEntry
    linked_at = (way_told law v content holds settled from to above under old name split goal_split (not_own (tree_of content) from to fine) (goal_not_own (tree_of content) from to fine) fits goal_fits said found way ok).at

    pub is_linking : IsLinking (tree_of content) from to linked_at way.parent old way.id way.folder name
    is_linking =
        let it = way_told law v content holds settled from to above under old name split goal_split (not_own (tree_of content) from to fine) (goal_not_own (tree_of content) from to fine) fits goal_fits said found way ok in
        record {
          goal_not_own = goal_not_own (tree_of content) from to fine;
          goal_named = ap is_empty (ap last_name goal_split ∙ last_name-last under name) ∙ some_name name (fits_name under name (subst FitsPath goal_split goal_fits)).some;
          allowed = ln_is (tree_of content) from to fine (ap is_root split ∙ not_root above old) (ap is_root goal_split ∙ not_root under name) it.at (free_place way.folder name) it.reaches it.can_make;
          can_make = it.can_make;
          place = it.place;
          number = it.number;
        }

-- what is linked, and where to
module _ (law : SoundHasPlainTree) (v : Volume) (content : Content) (holds : HoldsTrees v content) (settled : IsSettled v content) (from to above under : List (List ℕ)) (old name : List ℕ) (split : from ≡ path_to above old) (goal_split : to ≡ path_to under name)
    (free : is_private_path from ≡ false) (goal_free : is_private_path to ≡ false) (fits : FitsPath from) (goal_fits : FitsPath to) (said : Result Route Refusal) (found : said ≡ route_in (lists_of v content).catalog_pairs v.private from above under name) (way : Route) (ok : said ≡ Ok way)
  where
    pub link_pair : (pair : PlainEntry × Place) → to_ln (tree_of content) from to ≡ Ok pair → (pair.0.id ≡ way.id) × (pair.1 ≡ free_place way.folder name)
    link_pair pair is =
        let it = way_told law v content holds settled from to above under old name split goal_split free goal_free fits goal_fits said found way ok in
        let same = same_pair (tree_of content) from to (ap is_root split ∙ not_root above old) (ap is_root goal_split ∙ not_root under name) it.at (free_place way.folder name) it.reaches it.can_make pair is in
        (ap (λ (p : PlainEntry × Place). p.0.id) (sym same) ∙ it.number, ap (λ (p : PlainEntry × Place). p.1) (sym same))

-- the root gets no other name, and is none
pub linked_some : (tree : PlainTree) (from to : List (List ℕ)) (pair : PlainEntry × Place) → (is_root from || is_root to) ≡ true → to_ln tree from to ≡ Ok pair → ⊥
linked_some tree from to pair root is =
    let no : Err refusal.Root ≡ Ok pair = sym (ap (λ (b : Bool). then_ (then_ (if b then Err refusal.Root else Ok from) (λ named. then_ (reached tree named) (λ e. then_ (place tree to) (λ g. Ok (pair_of e g))))) (judged tree from to)) root) ∙ is in cc no
