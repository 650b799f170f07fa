-- What `mv` comes to where something stands at the new place, and what it does behind the removal of a file there.
use Rattle.std.proofs.Common.{◌≡◌, ℕ, ◌==◌, Bool, true, false, List, [], ◌∷◌, eq-eqb, refl, sym, ◌∙◌, ap, subst}
use Rattle.std.specs.Prelude.{◌||◌, is_some, Option, Some, None, ok_or, Result, Ok, Err, if◌then◌else◌}
use Rattle.std.proofs.lemmas.Bool.{eqb-true, true≢false}
use Rattle.sector_disk.specs.Lists.{Content}
use Rattle.sector_disk.specs.Space.{Space}
use Rattle.hfs_language.specs.declared.command.Command.TheVariants as command
use Rattle.hfs_language.specs.declared.refusal.Refusal.{Refusal}
use Rattle.hfs_language.specs.declared.refusal.Refusal.TheVariants as refusal
use Rattle.hfs_language.specs.declared.reply.Facts.{Facts}
use Rattle.hfs_language.specs.declared.reply.Reply.TheVariants as reply
use Rattle.hfs_model.specs.Plain.{IsPlainTree, entry_at, is_node, names_of, node_at}
use Rattle.hfs_model.specs.Step.{Place, child, facts_of, front, is_below, is_private_path, is_root, is_same_file, last_name, moved, moved_over, on, place, place_in, reached, removed, root_entry, stands_in_way, step, step_line, then_, to_mv, to_pair, to_rm, unless, vacated, walk}
use Rattle.hfs_model.specs.declared.plain.PlainEntry.{PlainEntry}
use Rattle.hfs_model.specs.declared.plain.PlainNode.{PlainNode}
use Rattle.hfs_model.specs.declared.plain.PlainTree.{PlainTree}
use Rattle.hfs_volume.specs.TreeOf.{tree_of}
use Rattle.hfs_volume.proofs.Flat.{found_some}
use Rattle.hfs_volume.proofs.Vacating.{moves_later, vacates}
use Rattle.volume_base.specs.Looking.{ReadsVolume}
use Rattle.volume_base.specs.Moving.{to_free}
use Rattle.volume_base.specs.Refusing.{facts_or, is_exists}
use Rattle.volume_base.proofs.MovedOver.{reaches, stands}
use Rattle.volume_base.proofs.Refused.{reached_kind}
use Rattle.volume_base.specs.declared.volume.Volume.{Volume}
use Rattle.volume_names.specs.Moving.{ComesTo, ReplacesFile, TakesPlace, TellsMove, WasRead, taking_of}
use Rattle.volume_names.specs.declared.replacing.Taking.{Taking}
use Rattle.volume_names.specs.declared.replacing.Taking.TheVariants as taking

-- ---- no walk says that a name is taken

abbrev tells_taken : {X : Type 0} → Result X Refusal → Bool
tells_taken (Ok x) = false
tells_taken (Err why) = is_exists why

found_untaken : {X : Type 0} (o : Option X) → tells_taken (ok_or o refusal.NotFound) ≡ false
found_untaken None = refl
found_untaken (Some x) = refl

child_untaken : (tree : PlainTree) (at : PlainEntry) (name : List ℕ) → tells_taken (child tree at name) ≡ false
child_untaken tree at name = by at.folder
  where
    by : (b : Bool) → tells_taken (if b then ok_or (entry_at tree at.id name) refusal.NotFound else Err refusal.NotFolder) ≡ false
    by true = found_untaken (entry_at tree at.id name)
    by false = refl

then_untaken : {X Y : Type 0} (r : Result X Refusal) (next : X → Result Y Refusal) → tells_taken r ≡ false → ((x : X) → tells_taken (next x) ≡ false) → tells_taken (then_ r next) ≡ false
then_untaken (Ok x) next first rest = rest x
then_untaken (Err why) next first rest = first

walk_untaken : (tree : PlainTree) (path : List (List ℕ)) (at : PlainEntry) → tells_taken (walk tree at path) ≡ false
walk_untaken tree [] at = refl
walk_untaken tree (name ∷ path) at = then_untaken (child tree at name) (λ next. walk tree next path) (child_untaken tree at name) (walk_untaken tree path)

place_untaken : (tree : PlainTree) (path : List (List ℕ)) → tells_taken (place tree path) ≡ false
place_untaken tree path = then_untaken (reached tree (front path)) (place_in tree (last_name path)) (walk_untaken tree (front path) root_entry) (λ at. by at at.folder)
  where
    by : (at : PlainEntry) (b : Bool) → tells_taken {X = Place} (if b then Ok (record { folder = at.id; name = last_name path; found = entry_at tree at.id (last_name path) }) else Err refusal.NotFolder) ≡ false
    by at true = refl
    by at false = refl

root_untaken : (b : Bool) (path : List (List ℕ)) → tells_taken (unless b refusal.Root path) ≡ false
root_untaken true path = refl
root_untaken false path = refl

pair_untaken : (tree : PlainTree) (from to : List (List ℕ)) → tells_taken (to_pair tree from to) ≡ false
pair_untaken tree from to =
    then_untaken (unless (is_root from || is_root to) refusal.Root from) (λ named. then_ (reached tree named) (λ at. then_ (place tree to) (λ goal. Ok (at, goal)))) (root_untaken (is_root from || is_root to) from)
    (λ named. then_untaken (reached tree named) (λ at. then_ (place tree to) (λ goal. Ok (at, goal))) (walk_untaken tree named root_entry) (λ at. then_untaken (place tree to) (λ goal. Ok (at, goal)) (place_untaken tree to) (λ goal. refl)))

-- ---- equal numbers

self_equal : (k : ℕ) → (k == k) ≡ true
self_equal k = eq-eqb k k refl

turned_false : (m n : ℕ) → (m == n) ≡ false → (b : Bool) → (n == m) ≡ b → (n == m) ≡ false
turned_false m n is true same = absurd (true≢false (sym (eq-eqb m n (sym (eqb-true n m same))) ∙ is))
turned_false m n is false same = same

turned : (m n : ℕ) (b : Bool) → (m == n) ≡ b → (n == m) ≡ b
turned m n true is = let same = eqb-true m n is in (λ i. n == same i) ∙ self_equal n
turned m n false is = turned_false m n is (n == m) refl

-- ---- what stands there

abbrev Pair : Type 0
Pair = PlainEntry × Place

-- An entry stands at the place to which something would be moved.
pub record IsTaken (tree : PlainTree) (from to : List (List ℕ)) : Type 0 where
  pub pair : Pair
  pub is_pair : to_pair tree from to ≡ Ok pair
  pub other : PlainEntry
  pub found : pair.1.found ≡ Some other

abbrev tried_free : List (List ℕ) → List (List ℕ) → Result Pair Refusal → Result Pair Refusal
tried_free from to r = then_ r (λ p. then_ (unless (is_some p.1.found) refusal.Exists p) (unless (is_below to from) refusal.Inside))

pub is_taken : (tree : PlainTree) (from to : List (List ℕ)) → to_free tree from to ≡ Err refusal.Exists → IsTaken tree from to
is_taken tree from to taken = by (to_pair tree from to) refl taken
  where
    by_below : (p : Pair) (b : Bool) → (let r : Result Pair Refusal = if b then Err refusal.Inside else Ok p in r ≡ Err refusal.Exists) → IsTaken tree from to
    by_below p true same = absurd (true≢false (sym (ap tells_taken same)))
    by_below p false same = absurd (true≢false (sym (ap tells_taken same)))

    by_found : (p : Pair) → to_pair tree from to ≡ Ok p → (o : Option PlainEntry) → p.1.found ≡ o → (let r : Result Pair Refusal = then_ (unless (is_some o) refusal.Exists p) (unless (is_below to from) refusal.Inside) in r ≡ Err refusal.Exists) → IsTaken tree from to
    by_found p is None free same = by_below p (is_below to from) same
    by_found p is (Some other) found same = record { pair = p; is_pair = is; other = other; found = found }

    by : (r : Result Pair Refusal) → to_pair tree from to ≡ r → tried_free from to r ≡ Err refusal.Exists → IsTaken tree from to
    by (Ok p) is same = by_found p is p.1.found refl same
    by (Err why) is same = absurd (true≢false (sym (ap tells_taken same) ∙ sym (ap tells_taken is) ∙ pair_untaken tree from to))

-- ---- what `stat` tells of both

module _ (tree : PlainTree) (plain : IsPlainTree tree) where
  told : (path : List (List ℕ)) → is_private_path path ≡ false → (at : PlainEntry) (n : PlainNode) → reached tree path ≡ Ok at → node_at tree at.id ≡ Some n → facts_or (step_line tree (Ok (command.Stat path))).0 ≡ Ok (facts_of tree n)
  told path own at n is found =
      ap (λ b. facts_or (if b || false then (reply.No refusal.Private, tree) else step tree (command.Stat path)).0) own
      ∙ ap (λ (r : Result PlainNode Refusal). facts_or (on tree r (λ m. (reply.Facts (facts_of tree m), tree))).0)
      (ap (λ (r : Result PlainEntry Refusal). then_ r (λ e. ok_or (node_at tree e.id) refusal.NotFound)) is ∙ ap (λ (o : Option PlainNode). ok_or o refusal.NotFound) found)

  module _ (from to : List (List ℕ)) (own : is_private_path from ≡ false) (goal_own : is_private_path to ≡ false) (it : IsTaken tree from to) where
    abbrev at : PlainEntry
    at = it.pair.0

    here : reached tree from ≡ Ok at
    here = reaches tree from to it.pair it.is_pair

    there : reached tree to ≡ Ok it.other
    there = stands tree from to it.pair it.is_pair it.other it.found

    kind : (n : PlainNode) × (node_at tree at.id ≡ Some n) × (n.folder ≡ at.folder)
    kind = reached_kind tree plain from at here

    goal_kind : (n : PlainNode) × (node_at tree it.other.id ≡ Some n) × (n.folder ≡ it.other.folder)
    goal_kind = reached_kind tree plain to it.other there

    number : (n : PlainNode) (id : ℕ) → node_at tree id ≡ Some n → n.id ≡ id
    number n id found = eqb-true n.id id (found_some (is_node id) tree.nodes n found).1

    -- the step, by the same tests
    tried : to_mv tree from to ≡ then_ (unless (at.folder || it.other.folder) refusal.Exists it.pair) (unless (is_below to from) refusal.Inside)
    tried =
        ap (λ (r : Result Pair Refusal). then_ r (λ p. then_ (unless (stands_in_way p.0 p.1.found) refusal.Exists p) (unless (is_below to from) refusal.Inside))) it.is_pair
        ∙ ap (λ (o : Option PlainEntry). then_ (unless (stands_in_way at o) refusal.Exists it.pair) (unless (is_below to from) refusal.Inside)) it.found

    same_file : is_same_file at it.pair.1.found ≡ (it.other.id == at.id)
    same_file = ap (is_same_file at) it.found

    by_tests : (a b below same : Bool) → at.folder ≡ a → it.other.folder ≡ b → is_below to from ≡ below → (at.id == it.other.id) ≡ same → (links : ℕ) → (b ≡ false → links ≡ names_of tree it.other.id)
        → ComesTo (if a then taking.Refused refusal.Exists else if b then taking.Refused refusal.Exists else if below then taking.Refused refusal.Inside else if same then taking.Same else taking.Over links) tree from to
    by_tests true b below same first second third fourth links counted = tried ∙ ap (λ f. then_ (unless (f || it.other.folder) refusal.Exists it.pair) (unless (is_below to from) refusal.Inside)) first
    by_tests false true below same first second third fourth links counted = tried ∙ (λ i. then_ (unless (first i || second i) refusal.Exists it.pair) (unless (is_below to from) refusal.Inside))
    by_tests false false true same first second third fourth links counted = tried ∙ (λ i. then_ (unless (first i || second i) refusal.Exists it.pair) (unless (third i) refusal.Inside))
    by_tests false false false true first second third fourth links counted =
        (it.pair, tried ∙ (λ i. then_ (unless (first i || second i) refusal.Exists it.pair) (unless (third i) refusal.Inside)), same_file ∙ turned at.id it.other.id true fourth)
    by_tests false false false false first second third fourth links counted = record {
      pair = it.pair;
      allowed = tried ∙ (λ i. then_ (unless (first i || second i) refusal.Exists it.pair) (unless (third i) refusal.Inside));
      other = it.other;
      stands = it.found;
      differs = same_file ∙ turned at.id it.other.id false fourth;
      reaches = there;
      counted = counted refl;
    }

    links_of : (n : PlainNode) → n.folder ≡ it.other.folder → n.id ≡ it.other.id → it.other.folder ≡ false → (facts_of tree n).links ≡ names_of tree it.other.id
    links_of n same id file = (λ i. if (same ∙ file) i then 0 else names_of tree (id i))

    pub comes_to : (moved_said other_said : Result Facts Refusal) (below : Bool) → moved_said ≡ facts_or (step_line tree (Ok (command.Stat from))).0 → other_said ≡ facts_or (step_line tree (Ok (command.Stat to))).0 → below ≡ is_below to from
        → ComesTo (taking_of moved_said other_said below) tree from to
    comes_to moved_said other_said below moved_is other_is below_is =
        let id = number kind.0 at.id kind.1 in
        let goal_id = number goal_kind.0 it.other.id goal_kind.1 in
        subst (λ (t : Taking). ComesTo t tree from to)
        (sym ((λ i. taking_of ((moved_is ∙ told from own at kind.0 here kind.1) i) ((other_is ∙ told to goal_own it.other goal_kind.0 there goal_kind.1) i) (below_is i))
        ∙ (λ i. if kind.2 i then taking.Refused refusal.Exists else if goal_kind.2 i then taking.Refused refusal.Exists else if is_below to from then taking.Refused refusal.Inside else if id i == goal_id i then taking.Same else taking.Over (facts_of tree goal_kind.0).links)))
        (by_tests at.folder it.other.folder (is_below to from) (at.id == it.other.id) refl refl refl refl (facts_of tree goal_kind.0).links (links_of goal_kind.0 goal_kind.2 goal_id))

-- ---- behind the removal

module _ (tree later : PlainTree) (from to : List (List ℕ)) (links : ℕ) (it : ReplacesFile links tree from to) (goal_own : is_private_path to ≡ false) where
  pub removal : to_rm tree to ≡ Ok it.other
  removal = vacates tree from to it.pair it.allowed it.other it.stands

  -- the removal is done
  pub removal_line : step_line tree (Ok (command.Rm to)) ≡ (reply.Ok, removed it.other tree)
  removal_line = ap (λ b. if b || false then (reply.No refusal.Private, tree) else step tree (command.Rm to)) goal_own ∙ ap (λ r. on tree r (λ x. (reply.Ok, removed x tree))) removal

  module _ (is : later ≡ removed it.other tree) where
    pub allowed_later : to_mv later from to ≡ Ok (it.pair.0, record it.pair.1 { found = None })
    allowed_later = ap (λ (t : PlainTree). to_mv t from to) is ∙ moves_later tree from to it.pair it.allowed it.other it.stands it.differs

    -- the move behind it is that of the whole command
    pub step_later : (step later (command.Mv from to)).1 ≡ (step tree (command.Mv from to)).1
    step_later =
        ap (λ (r : Result Pair Refusal). (on later r (λ p. (reply.Ok, moved_over p.0 p.1 later))).1) allowed_later
        ∙ ap (moved it.pair.0 it.pair.1) is
        ∙ (λ i. if sym it.differs i then tree else moved it.pair.0 it.pair.1 (vacated (sym it.stands i) tree))
        ∙ sym (ap (λ (r : Result Pair Refusal). (on tree r (λ p. (reply.Ok, moved_over p.0 p.1 tree))).1) it.allowed)

-- a file onto itself stays
pub same_stays : (tree : PlainTree) (from to : List (List ℕ)) (pair : Pair) → to_mv tree from to ≡ Ok pair → is_same_file pair.0 pair.1.found ≡ true → tree ≡ (step tree (command.Mv from to)).1
same_stays tree from to pair allowed same = sym (ap (λ (r : Result Pair Refusal). (on tree r (λ p. (reply.Ok, moved_over p.0 p.1 tree))).1) allowed ∙ ap (λ b. if b then tree else moved pair.0 pair.1 (vacated pair.1.found tree)) same)

-- ---- what a move to a free place said

pub tells_ok : {X : Type 0} (r : Result X Refusal) (x : X) (from to : List (List ℕ)) (before after : Content) → r ≡ Ok x → TellsMove r from to before after → TakesPlace from to before after × (tree_of after ≡ (step (tree_of before) (command.Mv from to)).1)
tells_ok r x from to before after is tells = subst (λ s. TellsMove s from to before after) is tells

pub tells_err : {X : Type 0} (r : Result X Refusal) (why : Refusal) (from to : List (List ℕ)) (before after : Content) → r ≡ Err why → TellsMove r from to before after
    → (is_exists why ≡ false → to_mv (tree_of before) from to ≡ Err why) × (why ≡ refusal.Exists → to_free (tree_of before) from to ≡ Err refusal.Exists)
tells_err r why from to before after is tells = subst (λ s. TellsMove s from to before after) is tells

pub read_err : {X : Type 0} (r : Result X Refusal) (why : Refusal) (v w : Volume) (a b : Space) → r ≡ Err why → WasRead r v w a b → ReadsVolume v w a b
read_err r why v w a b is read = subst (λ s. WasRead s v w a b) is read
