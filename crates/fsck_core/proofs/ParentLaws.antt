-- Which rows a folder leads to.
use Rattle.std.proofs.Common.{◌≡◌, ◌⊎◌, ◌↔◌, ◌<◌, ◌≤◌, ℕ, suc, ◌+◌, Bool, true, false, ◌&&◌, ◌||◌, ◌==◌, nat_lt, if◌then◌else◌, List, [], ◌∷◌, ◌++◌, length, replicate, set, inl, inr, refl, sym, ◌∙◌, ap, subst, arith, ⊎_elim, T, length-append, length-set, get_or-set_same, get_or-set_other}
use Rattle.std.specs.Prelude.{Contains, IsTrue, slice_index}
use Rattle.std.specs.List.{list_any}
use Rattle.std.specs.List.Sorted.{IsPartitionPoint}
use Rattle.std.proofs.lemmas.Bool.{cases_lt, cases_eq, eqb-true, eq-eqb}
use Rattle.std.proofs.lemmas.List.{get_or_default, get_or_past, get_or_append_left, set-get_or, length-replicate, get_or-replicate}
use Rattle.std.proofs.lemmas.List.Elements.{Contains-append_left, Contains-append_right, Contains-append_cases}
use Rattle.std.proofs.lemmas.List.Sums.{count_by-le-length}
use Rattle.std.proofs.lemmas.List.Folds.{list_any_at}
use Rattle.flag_rows.specs.Bits.{count_set}
use Rattle.fsck_list.specs.declared.finding.Finding.{Finding}
use Rattle.fsck_list.proofs.MarkLaws.{count_more}
use Rattle.hfs_volume.specs.Records.{Placed, is_folder, id_of}
use Rattle.hfs_volume.specs.Entries.{LiesIn, is_it, below, IsRoot, AreRooted}
use Rattle.hfs_volume.specs.Broken.{IsFailed, FailsParent}
use Rattle.hfs_volume.proofs.Members.{in_one, at_front, all_of, each_of, map_cases, map_stands}
use Rattle.fsck_core.specs.Wants.{as_found}
use Rattle.fsck_core.specs.Rows.{row_of, rows_of, row_at, no_row}
use Rattle.fsck_core.specs.Parents.{is_root_row, IsBelow, is_top, under, marked, Leads, folder_of, IsReaching, Grows, Enters, EntersAll, IsWalking, HasRoom, is_reached, AreReached, FailsReach}
use Rattle.fsck_core.specs.declared.rows.Row.{Row}
use Rattle.fsck_core.proofs.RowLaws.{below_true, below_false}
use Rattle.fsck_core.proofs.WantLaws.{both_true, one_false}
use Rattle.fsck_core.specs.Decided.{IsTold}

row_stands : (rows : List Row) (k : ℕ) → k < length rows → Contains rows (row_at rows k)
row_stands rows k inside = (k, inside, get_or_default rows k (row_at rows k) no_row inside)

-- ---- one mark more

pub mark_back : (marks : List Bool) (at k : ℕ) → marked (set marks at true) k ≡ true → (k ≡ at) ⊎ (marked marks k ≡ true)
mark_back marks at k is = ⊎_elim (λ (same : k ≡ at). inl same) (λ (other : k ≡ at → ⊥). inr (sym (get_or-set_other marks at k true false other) ∙ is)) (cases_eq k at)

pub keeps_mark : (marks : List Bool) (at k : ℕ) → at < length marks → marked marks k ≡ true → marked (set marks at true) k ≡ true
keeps_mark marks at k inside is = ⊎_elim
    (λ (same : k ≡ at). ap (marked (set marks at true)) same ∙ get_or-set_same marks at true false inside)
    (λ (other : k ≡ at → ⊥). get_or-set_other marks at k true false other ∙ is)
    (cases_eq k at)

-- what a row adds lies below it
added_below : {top : ℕ} (rows : List Row) (seen : Bool) (row : Row) → Contains rows row → IsBelow top rows row.parent → (x : ℕ) → Contains (folder_of seen row) x → IsBelow top rows x
added_below {top} rows seen row stands up x there = at seen row.folder refl there
  where
    at : (s b : Bool) → row.folder ≡ b → Contains (if s then [] else if b then row.id ∷ [] else []) x → IsBelow top rows x
    at true b is none = absurd (omega (arith, none.1))
    at false true is one = subst (IsBelow top rows) (sym (in_one row.id x one)) (under row.id row stands is refl up)
    at false false is none = absurd (omega (arith, none.1))

module _ (rows : List Row) (at : ℕ) (marks : List Bool) (folders : List ℕ) (more : List Bool) (further : List ℕ) (inside : at < length marks)
    (marks_are : more ≡ set marks at true) (folders_are : further ≡ folders ++ folder_of (marked marks at) (row_at rows at)) where
  added : List ℕ
  added = folder_of (marked marks at) (row_at rows at)

  before_or_here : (k : ℕ) → marked more k ≡ true → (k ≡ at) ⊎ (marked marks k ≡ true)
  before_or_here k is = mark_back marks at k (sym (ap (λ (l : List Bool). marked l k) marks_are) ∙ is)

  -- a row whose parent lies below it is marked
  pub reach_step : {top : ℕ} → at < length rows → IsBelow top rows (row_at rows at).parent → IsReaching top rows marks folders → IsReaching top rows more further
  reach_step {top} here up reaching = record {
    sound = λ k within is. ⊎_elim
        (λ (same : k ≡ at). subst (λ n. IsBelow top rows (row_at rows n).parent) (sym same) up)
        (λ (old : marked marks k ≡ true). reaching.sound k within old)
        (before_or_here k is);
    below = λ id there. ⊎_elim
        (λ (early : Contains folders id). reaching.below id early)
        (λ (late : Contains (folder_of (marked marks at) (row_at rows at)) id). added_below rows (marked marks at) (row_at rows at) (row_stands rows at here) up id late)
        (Contains-append_cases folders (folder_of (marked marks at) (row_at rows at)) id (subst (λ (l : List ℕ). Contains l id) folders_are there));
    next = λ k within is folder. subst (λ (l : List ℕ). Contains l (row_at rows k).id) (sym folders_are) (⊎_elim
        (λ (same : k ≡ at). subst (λ n. Contains (folders ++ folder_of (marked marks at) (row_at rows at)) (row_at rows n).id) (sym same)
        (this (marked marks at) refl (subst (λ n. (row_at rows n).folder ≡ true) same folder)))
        (λ (old : marked marks k ≡ true). Contains-append_left folders (folder_of (marked marks at) (row_at rows at)) (row_at rows k).id (reaching.next k within old folder))
        (before_or_here k is));
  }
    where
      this : (s : Bool) → marked marks at ≡ s → (row_at rows at).folder ≡ true → Contains (folders ++ folder_of s (row_at rows at)) (row_at rows at).id
      this true is folder = Contains-append_left folders [] (row_at rows at).id (reaching.next at here is folder)
      this false is folder = Contains-append_right folders (folder_of false (row_at rows at)) (row_at rows at).id
          (subst (λ b. Contains (if b then (row_at rows at).id ∷ [] else []) (row_at rows at).id) (sym folder) (at_front (row_at rows at).id []))

  pub grow_step : Grows marks folders more further
  grow_step = record {
    still = λ k is. ap (λ (l : List Bool). marked l k) marks_are ∙ keeps_mark marks at k inside is;
    long = omega (arith, ap (λ (l : List ℕ). length l) folders_are, length-append folders (folder_of (marked marks at) (row_at rows at)));
    same = λ i low. ap (λ (l : List ℕ). slice_index l i) folders_are ∙ get_or_append_left folders (folder_of (marked marks at) (row_at rows at)) 0 i low;
  }

  pub mark_here : marked more at ≡ true
  mark_here = ap (λ (l : List Bool). marked l at) marks_are ∙ get_or-set_same marks at true false inside

  pub long_step : length more ≡ length marks
  long_step = ap (λ (l : List Bool). length l) marks_are ∙ length-set marks at true

  pub room_step : HasRoom marks folders more further
  room_step = by (marked marks at) refl
    where
      few : (b : Bool) (x : ℕ) → length (if b then x ∷ [] else []) ≤ 1
      few true x = omega arith
      few false x = omega arith

      grown : (s : Bool) → marked marks at ≡ s → length further ≡ length folders + length (folder_of s (row_at rows at))
      grown s is = ap (λ (l : List ℕ). length l) (folders_are ∙ ap (λ b. folders ++ folder_of b (row_at rows at)) is) ∙ length-append folders (folder_of s (row_at rows at))

      by : (s : Bool) → marked marks at ≡ s → HasRoom marks folders more further
      by true is =
          let same : more ≡ marks = marks_are ∙ ap (λ b. set marks at b) (sym is) ∙ set-get_or marks at false in
          omega (arith, grown true is, ap count_set same)
      by false is =
          omega (arith, grown false is, few (row_at rows at).folder (row_at rows at).id, ap count_set marks_are, count_more marks at inside (get_or_default marks at true false inside ∙ is))

-- ---- the rows of a parent

pub grows_more : (a : List Bool) (b : List ℕ) (c : List Bool) (d : List ℕ) (e : List Bool) (f : List ℕ) → Grows a b c d → Grows c d e f → Grows a b e f
grows_more a b c d e f first second = record {
  still = λ k is. second.still k (first.still k is);
  long = omega (arith, first.long, second.long);
  same = λ i low. second.same i (omega (arith, low, first.long)) ∙ first.same i low;
}

pub enters_none : {top : ℕ} (rows : List Row) (from : ℕ) (marks : List Bool) (folders : List ℕ) → IsReaching top rows marks folders → Enters top rows from from marks folders marks folders
enters_none {top} rows from marks folders reaching = record {
  reaching = reaching;
  grows = record { still = λ k is. is; long = omega arith; same = λ i low. refl };
  all = λ k low high. absurd (omega (arith, low, high));
}

pub enters_more : {top : ℕ} (rows : List Row) (from at : ℕ) (first : List Bool) (begun : List ℕ) (marks : List Bool) (folders : List ℕ) (more : List Bool) (further : List ℕ) → at < length rows → length marks ≡ length rows
    → more ≡ set marks at true → further ≡ folders ++ folder_of (marked marks at) (row_at rows at) → IsBelow top rows (row_at rows at).parent → Enters top rows from at first begun marks folders → Enters top rows from (at + 1) first begun more further
enters_more {top} rows from at first begun marks folders more further here long marks_are folders_are up enters = record {
  reaching = reach_step rows at marks folders more further inside marks_are folders_are here up enters.reaching;
  grows = grows_more first begun marks folders more further enters.grows (grow_step rows at marks folders more further inside marks_are folders_are);
  all = λ k low high. ⊎_elim
      (λ (less : k < at). (grow_step rows at marks folders more further inside marks_are folders_are).still k (enters.all k low less))
      (λ (most : at ≤ k). let same : at ≡ k = omega (arith, high, most) in subst (λ n. marked more n ≡ true) same (mark_here rows at marks folders more further inside marks_are folders_are))
      (cases_lt k at);
}
  where
    inside : at < length marks
    inside = omega (arith, here, long)

module _ (rows : List Row) (id from to : ℕ) (inside_from : from ≤ length rows) (inside_to : to ≤ length rows)
    (first : IsPartitionPoint (λ (r : Row). nat_lt r.parent id ≡ true) (λ (r : Row). nat_lt r.parent id ≡ false) rows from)
    (last : IsPartitionPoint (λ (r : Row). nat_lt r.parent (id + 1) ≡ true) (λ (r : Row). nat_lt r.parent (id + 1) ≡ false) rows to) where
  pub parent_between : (k : ℕ) → from ≤ k → k < to → (row_at rows k).parent ≡ id
  parent_between k low high =
      let above = below_false (row_at rows k).parent id (first.1 k no_row low (omega (arith, high, inside_to))) in
      let under_it = below_true (row_at rows k).parent (id + 1) (last.0 k no_row (omega arith) high) in
      omega (arith, above, under_it)

  pub between_parent : (k : ℕ) → k < length rows → (row_at rows k).parent ≡ id → (from ≤ k) × (k < to)
  between_parent k inside same = (
    ⊎_elim (λ (low : k < from). absurd (let less = below_true (row_at rows k).parent id (first.0 k no_row (omega arith) low) in omega (arith, less, same))) (λ (high : from ≤ k). high) (cases_lt k from),
    ⊎_elim (λ (low : k < to). low) (λ (high : to ≤ k). absurd (let most = below_false (row_at rows k).parent (id + 1) (last.1 k no_row high inside) in omega (arith, most, same))) (cases_lt k to),
  )

  pub enters_all : {top : ℕ} (marks : List Bool) (folders : List ℕ) (more : List Bool) (further : List ℕ) (at : ℕ) → to ≤ at → Enters top rows from at marks folders more further → EntersAll top rows id marks folders more further
  enters_all {top} marks folders more further at end enters = record {
    reaching = enters.reaching;
    grows = enters.grows;
    all = λ k inside same. let where_it_is = between_parent k inside same in enters.all k where_it_is.0 (omega (arith, where_it_is.1, end));
  }

-- ---- the walk

pub walk_starts : {top : ℕ} (rows : List Row) (marks : List Bool) (folders : List ℕ) → ((k : ℕ) → marked marks k ≡ false) → folders ≡ top ∷ [] → IsWalking top rows marks folders 0
walk_starts {top} rows marks folders none only = record {
  reaching = record {
    sound = λ k inside is. absurd (subst T (sym is ∙ none k) tt);
    below = λ id there. subst (IsBelow top rows) (sym (in_one top id (subst (λ (l : List ℕ). Contains l id) only there))) is_top;
    next = λ k inside is folder. absurd (subst T (sym is ∙ none k) tt);
  };
  first = subst (λ (l : List ℕ). Contains l top) (sym only) (at_front top []);
  done = λ i less. absurd (omega (arith, less));
}

stays : (marks : List Bool) (folders : List ℕ) (more : List Bool) (further : List ℕ) (x : ℕ) → Grows marks folders more further → Contains folders x → Contains further x
stays marks folders more further x grows stands =
    let inside : stands.0 < length further = omega (arith, stands.1, grows.long) in
    (stands.0, inside, get_or_default further stands.0 x 0 inside ∙ grows.same stands.0 stands.1 ∙ get_or_default folders stands.0 0 x stands.1 ∙ stands.2)

pub walk_more : {top : ℕ} (rows : List Row) (marks : List Bool) (folders : List ℕ) (more : List Bool) (further : List ℕ) (at id : ℕ) → at < length folders → id ≡ slice_index folders at
    → IsWalking top rows marks folders at → EntersAll top rows id marks folders more further → IsWalking top rows more further (at + 1)
walk_more {top} rows marks folders more further at id inside is walking enters = record {
  reaching = enters.reaching;
  first = stays marks folders more further top enters.grows walking.first;
  done = λ i less k within same. ⊎_elim
      (λ (low : i < at). enters.grows.still k (walking.done i low k within (same ∙ enters.grows.same i (omega (arith, low, inside)))))
      (λ (high : at ≤ i). let here : i ≡ at = omega (arith, less, high) in enters.all k within (same ∙ ap (λ n. slice_index further n) here ∙ enters.grows.same at inside ∙ sym is))
      (cases_lt i at);
}

pub id_below : {top : ℕ} (rows : List Row) (marks : List Bool) (folders : List ℕ) (at id : ℕ) → at < length folders → id ≡ slice_index folders at → IsWalking top rows marks folders at → IsBelow top rows id
id_below {top} rows marks folders at id inside is walking = walking.reaching.below id (at, inside, get_or_default folders at id 0 inside ∙ sym is)

-- the folders that were reached all were entered, so whatever lies below it is marked
pub walk_ends : {top : ℕ} (rows : List Row) (marks : List Bool) (folders : List ℕ) (at : ℕ) → length folders ≤ at → IsWalking top rows marks folders at → Leads top rows marks
walk_ends {top} rows marks folders at end walking = record {
  sound = walking.reaching.sound;
  whole = λ k inside up. all (row_at rows k).parent up k inside refl;
}
  where
    entered : (id : ℕ) → Contains folders id → (k : ℕ) → k < length rows → (row_at rows k).parent ≡ id → marked marks k ≡ true
    entered id stands k inside same = walking.done stands.0 (omega (arith, stands.1, end)) k inside (same ∙ sym stands.2 ∙ get_or_default folders stands.0 id 0 stands.1)

    all : (id : ℕ) → IsBelow top rows id → (k : ℕ) → k < length rows → (row_at rows k).parent ≡ id → marked marks k ≡ true
    all _ is_top k inside same = entered top walking.first k inside same
    all _ (under id row stands folder own up) k inside same =
        let is : row_at rows stands.0 ≡ row = get_or_default rows stands.0 no_row row stands.1 ∙ stands.2 in
        let seen : marked marks stands.0 ≡ true = all row.parent up stands.0 stands.1 (ap (λ (r : Row). r.parent) is) in
        entered id (subst (λ n. Contains folders n) (ap (λ (r : Row). r.id) is ∙ own) (walking.reaching.next stands.0 stands.1 seen (ap (λ (r : Row). r.folder) is ∙ folder))) k inside same

pub marks_few : (marks : List Bool) → count_set marks ≤ length marks
marks_few marks = count_by-le-length (λ flag. flag) marks

-- ---- the entries

abbrev parent_in : Row → ℕ
parent_in row = row.parent

pub lies_in : {top : ℕ} (entries : List Placed) (id : ℕ) → IsBelow top (rows_of entries) id → LiesIn entries top id
lies_in entries _ is_top = is_it
lies_in {top} entries _ (under id row stands folder own up) =
    let from = map_cases row_of entries row stands in
    below id from.0 from.1 (sym (ap (λ (r : Row). r.folder) from.2) ∙ folder) (sym (ap (λ (r : Row). r.id) from.2) ∙ own) (subst (LiesIn entries top) (ap parent_in from.2) (lies_in entries row.parent up))

pub is_below : {top : ℕ} (entries : List Placed) (id : ℕ) → LiesIn entries top id → IsBelow top (rows_of entries) id
is_below entries _ is_it = is_top
is_below entries _ (below id folder stands is_a own up) = under id (row_of folder) (map_stands row_of entries folder stands) is_a own (is_below entries folder.parent up)

root_parts : (a b c : Bool) → (a && (b && c)) ≡ true → (a ≡ true) × (b ≡ true) × (c ≡ true)
root_parts true true true is = (refl, refl, refl)
root_parts true true false is = absurd (subst T (sym is) tt)
root_parts true false c is = absurd (subst T (sym is) tt)
root_parts false b c is = absurd (subst T (sym is) tt)

pub root_is : (placed : Placed) → is_root_row (row_of placed) ≡ true → IsRoot placed
root_is placed is =
    let parts = root_parts (is_folder placed.value) (id_of placed == 2) (placed.parent == 1) is in
    record { folder = parts.0; id = eqb-true (id_of placed) 2 parts.1; parent = eqb-true placed.parent 1 parts.2 }

pub is_the_root : (placed : Placed) → IsRoot placed → is_root_row (row_of placed) ≡ true
is_the_root placed root = λ i. root.folder i && ((eq-eqb (id_of placed) 2 root.id) i && (eq-eqb placed.parent 1 root.parent) i)

either_true : (a b : Bool) → (a || b) ≡ true → (a ≡ true) ⊎ (b ≡ true)
either_true true b is = inl refl
either_true false b is = inr is

or_left : (a b : Bool) → a ≡ true → (a || b) ≡ true
or_left true b is = refl
or_left false b is = absurd (subst T (sym is) tt)

or_right : (a b : Bool) → b ≡ true → (a || b) ≡ true
or_right true b is = refl
or_right false b is = is

any_at : (p : Row → Bool) (rows : List Row) → list_any p rows ≡ true → (k : ℕ) × (k < length rows) × (p (row_at rows k) ≡ true)
any_at p [] is = absurd (subst T (sym is) tt)
any_at p (row ∷ rows) is = ⊎_elim
    (λ (here : p row ≡ true). (0, (omega arith), here))
    (λ (later : list_any p rows ≡ true). let at = any_at p rows later in (suc at.0, omega (arith, at.1), at.2))
    (either_true (p row) (list_any p rows) is)

module _ (entries : List Placed) (marks : List Bool) (leads : Leads 2 (rows_of entries) marks) where
  entry_at : (k : ℕ) → k < length (rows_of entries) → (placed : Placed) × Contains entries placed × (row_at (rows_of entries) k ≡ row_of placed)
  entry_at k inside = map_cases row_of entries (row_at (rows_of entries) k) (row_stands (rows_of entries) k inside)

  -- there is a root and each row is reached, exactly where all entries are rooted
  pub rooted : list_any is_root_row (rows_of entries) ≡ true → AreReached (rows_of entries) marks → AreRooted entries
  rooted root reached = record {
    root =
        let at = any_at is_root_row (rows_of entries) root in
        let from = entry_at at.0 at.1 in
        (from.0, from.1, root_is from.0 (ap is_root_row (sym from.2) ∙ at.2));
    each = all_of (λ (p : Placed). IsRoot p ⊎ LiesIn entries 2 p.parent) entries (λ p stands.
        let row = map_stands row_of entries p stands in
        let is : row_at (rows_of entries) row.0 ≡ row_of p = get_or_default (rows_of entries) row.0 no_row (row_of p) row.1 ∙ row.2 in
        ⊎_elim
        (λ (yes : is_root_row (row_at (rows_of entries) row.0) ≡ true). inl (root_is p (ap is_root_row (sym is) ∙ yes)))
        (λ (seen : marked marks row.0 ≡ true). inr (lies_in entries p.parent (subst (IsBelow 2 (rows_of entries)) (ap parent_in is) (leads.sound row.0 row.1 seen))))
        (either_true (is_root_row (row_at (rows_of entries) row.0)) (marked marks row.0) (reached row.0 row.1)));
  }

  pub rooted_root : AreRooted entries → list_any is_root_row (rows_of entries) ≡ true
  rooted_root are =
      let row = map_stands row_of entries are.root.0 are.root.1 in
      list_any_at is_root_row (rows_of entries) row.0 (row_of are.root.0) row.1 (ap is_root_row row.2 ∙ is_the_root are.root.0 are.root.2)

  pub rooted_each : AreRooted entries → AreReached (rows_of entries) marks
  rooted_each are k inside =
      let from = entry_at k inside in
      ⊎_elim
      (λ (root : IsRoot from.0). or_left (is_root_row (row_at (rows_of entries) k)) (marked marks k) (ap is_root_row from.2 ∙ is_the_root from.0 root))
      (λ (up : LiesIn entries 2 from.0.parent). or_right (is_root_row (row_at (rows_of entries) k)) (marked marks k)
      (leads.whole k inside (subst (IsBelow 2 (rows_of entries)) (sym (ap parent_in from.2)) (is_below entries from.0.parent up))))
      (each_of (λ (p : Placed). IsRoot p ⊎ LiesIn entries 2 p.parent) entries are.each from.0 from.1)

  -- where a row isn't reached, the rule fails at its entry
  pub row_fails : (place : ℕ) → FailsReach (rows_of entries) marks place → FailsParent entries place
  row_fails place fails =
      let from = entry_at fails.0 fails.1 in
      inr (
        from.0,
        from.1,
        sym (ap (λ (r : Row). r.id) from.2) ∙ fails.2,
        (λ root. subst T (sym (or_left (is_root_row (row_at (rows_of entries) fails.0)) (marked marks fails.0) (ap is_root_row from.2 ∙ is_the_root from.0 root)) ∙ fails.3) tt),
        (λ up. subst T (sym (or_right (is_root_row (row_at (rows_of entries) fails.0)) (marked marks fails.0)
            (leads.whole fails.0 fails.1 (subst (IsBelow 2 (rows_of entries)) (sym (ap parent_in from.2)) (is_below entries from.0.parent up)))) ∙ fails.3) tt),
      )

-- where no row is the root's, the rule fails at the root's id
pub root_fails : (entries : List Placed) (place : ℕ) → place ≡ 2 → list_any is_root_row (rows_of entries) ≡ false → FailsParent entries place
root_fails entries place is none = inl (
  is,
  λ placed stands root.
      let row = map_stands row_of entries placed stands in
      subst T (sym (list_any_at is_root_row (rows_of entries) row.0 (row_of placed) row.1 (ap is_root_row row.2 ∙ is_the_root placed root)) ∙ none) tt,
)

pub none_marked : (n k : ℕ) → marked (replicate n false) k ≡ false
none_marked n k = ⊎_elim (λ (low : k < n). get_or-replicate n k false false low) (λ (high : n ≤ k). get_or_past (replicate n false) k false (omega (arith, high, length-replicate {A = Bool} n false))) (cases_lt k n)

-- ---- a test of each item up to one more

pub all_more : (p : ℕ → Bool) (k : ℕ) (one met both : Bool) → both ≡ (one && met) → one ≡ p k → (IsTrue met → (i : ℕ) → i < k → p i ≡ true) → IsTrue both → (i : ℕ) → i < k + 1 → p i ≡ true
all_more p k one met both is here before holds i less =
    let parts = both_true one met (sym is ∙ holds) in
    ⊎_elim
    (λ (lower : i < k). before parts.1 i lower)
    (λ (high : k ≤ i). let same : i ≡ k = omega (arith, less, high) in ap p same ∙ sym here ∙ parts.0)
    (cases_lt i k)

pub one_missed : (p : ℕ → Bool) (n k : ℕ) (one met both : Bool) → k < n → both ≡ (one && met) → one ≡ p k → (met ≡ false → (i : ℕ) × (i < n) × (p i ≡ false)) → both ≡ false → (i : ℕ) × (i < n) × (p i ≡ false)
one_missed p n k one met both inside is here before fails = ⊎_elim
    (λ (this : one ≡ false). (k, inside, sym here ∙ this))
    (λ (earlier : met ≡ false). before earlier)
    (one_false one met (sym is ∙ fails))

pub all_tell : (p : ℕ → Bool) (n k : ℕ) (met : Bool) → n ≤ k → (IsTrue met → (i : ℕ) → i < k → p i ≡ true) → (met ≡ false → (i : ℕ) × (i < n) × (p i ≡ false)) → IsTrue met ↔ ((i : ℕ) → i < n → p i ≡ true)
all_tell p n k true whole each one = (λ is i inside. each refl i (omega (arith, inside, whole)), λ all. refl)
all_tell p n k false whole each one = (λ is. absurd (subst T (sym is) tt), λ all. let at = one refl in absurd (subst T (sym (all at.0 at.1) ∙ at.2) tt))

-- ---- what is found

abbrev FoundMore : List Finding → List Finding → (ℕ → Type 0) → Type 0
FoundMore old new Fails = (f : Finding) → Contains new f → Contains old f ⊎ IsFailed 10 (as_found f) Fails

pub row_adds : (rows : List Row) (marks : List Bool) (at : ℕ) (first old new : List Finding) → at < length rows → FoundMore first old (FailsReach rows marks)
    → FoundMore old new (λ place. ((row_at rows at).id ≡ place) × (is_reached (row_at rows at) (marked marks at) ≡ false)) → FoundMore first new (FailsReach rows marks)
row_adds rows marks at first old new inside before here f stands = ⊎_elim
    (λ (earlier : Contains old f). before f earlier)
    (λ (fails : IsFailed 10 (as_found f) (λ place. ((row_at rows at).id ≡ place) × (is_reached (row_at rows at) (marked marks at) ≡ false))). inr (fails.0, fails.1, fails.2, (at, inside, fails.3.0, fails.3.1)))
    (here f stands)

pub root_adds : (rows : List Row) (entries : List Placed) (first new : List Finding) → rows ≡ rows_of entries → FoundMore first new (λ place. (place ≡ 2) × (list_any is_root_row rows ≡ false)) → FoundMore first new (FailsParent entries)
root_adds rows entries first new are here f stands = ⊎_elim
    (λ (earlier : Contains first f). inl earlier)
    (λ (fails : IsFailed 10 (as_found f) (λ place. (place ≡ 2) × (list_any is_root_row rows ≡ false))).
    inr (fails.0, fails.1, fails.2, root_fails entries f.place fails.3.0 (ap (list_any is_root_row) (sym are) ∙ fails.3.1)))
    (here f stands)

pub rows_add : (rows : List Row) (entries : List Placed) (marks : List Bool) (first mid new : List Finding) → rows ≡ rows_of entries → Leads 2 rows marks → FoundMore first mid (FailsParent entries)
    → FoundMore mid new (FailsReach rows marks) → FoundMore first new (FailsParent entries)
rows_add rows entries marks first mid new are leads before here f stands = ⊎_elim
    (λ (earlier : Contains mid f). before f earlier)
    (λ (fails : IsFailed 10 (as_found f) (FailsReach rows marks)).
    inr (fails.0, fails.1, fails.2, row_fails entries marks (subst (λ (l : List Row). Leads 2 l marks) are leads) f.place (subst (λ (l : List Row). FailsReach l marks f.place) are fails.3)))
    (here f stands)

-- the same of what is told
pub root_told : (rows : List Row) (entries : List Placed) (list : List Finding) → rows ≡ rows_of entries → IsTold (λ f. IsFailed 10 f (λ place. (place ≡ 2) × (list_any is_root_row rows ≡ false))) list → IsTold (λ f. IsFailed 10 f (FailsParent entries)) list
root_told rows entries list are told =
    (told.0, (told.1.0, told.1.1, told.1.2, root_fails entries told.0.place told.1.3.0 (ap (list_any is_root_row) (sym are) ∙ told.1.3.1)), told.2)

pub rows_told : (rows : List Row) (entries : List Placed) (marks : List Bool) (list : List Finding) → rows ≡ rows_of entries → Leads 2 rows marks → IsTold (λ f. IsFailed 10 f (FailsReach rows marks)) list → IsTold (λ f. IsFailed 10 f (FailsParent entries)) list
rows_told rows entries marks list are leads told =
    (told.0, (told.1.0, told.1.1, told.1.2, row_fails entries marks (subst (λ (l : List Row). Leads 2 l marks) are leads) told.0.place (subst (λ (l : List Row). FailsReach l marks told.0.place) are told.1.3)), told.2)

pub parents_tell : (rows : List Row) (entries : List Placed) (marks : List Bool) (reached root both : Bool) → rows ≡ rows_of entries → Leads 2 rows marks → both ≡ (reached && root) → root ≡ list_any is_root_row rows
    → IsTrue reached ↔ AreReached rows marks → IsTrue both ↔ AreRooted entries
parents_tell rows entries marks reached root both are leads is root_is_there tells =
    let own : Leads 2 (rows_of entries) marks = subst (λ (l : List Row). Leads 2 l marks) are leads in
    let there : root ≡ list_any is_root_row (rows_of entries) = root_is_there ∙ ap (list_any is_root_row) are in
    let each : IsTrue reached ↔ AreReached (rows_of entries) marks = subst (λ (l : List Row). IsTrue reached ↔ AreReached l marks) are tells in (
      λ holds. (let parts = both_true reached root (sym is ∙ holds) in rooted entries marks own (sym there ∙ parts.1) (each.0 parts.0)),
      λ rooted_are. is ∙ (λ i. (each.1 (rooted_each entries marks own rooted_are)) i && (there ∙ rooted_root entries marks own rooted_are) i),
    )
