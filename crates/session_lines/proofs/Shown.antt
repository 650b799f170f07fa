-- The tree as listings and counts tell it, without the keeping folder and what is in it: paths lead where they lead on the tree itself.
use Rattle.std.proofs.Common.{◌≡◌, ◌⊎◌, ◌≤◌, ◌<◌, ◌+◌, ◌^◌, ℕ, zero, suc, Bool, true, false, List, [], ◌∷◌, ◌++◌, length, inl, inr, refl, sym, ◌∙◌, ap, subst, arith, ⊎_elim}
use Rattle.std.specs.Prelude.{Contains, ◌==◌, ◌&&◌, ◌||◌, not, decimal, find, is_some, Option, Some, None, Result, Ok, Err, if◌then◌else◌}
use Rattle.std.specs.List.{AllByRecursion, filter}
use Rattle.std.specs.Option.{ok_or}
use Rattle.std.specs.Str.{bytes_eq}
use Rattle.std.specs.Ordering.{is_lt, nat_cmp, on, ordering_reverse, ordering_then, then_cmp}
use Rattle.std.specs.Cmp.{IsTotalOrder}
use Rattle.std.specs.declared.cmp.Ordering.{Ordering}
use Rattle.std.specs.declared.cmp.Ordering.TheVariants.{Less, Equal, Greater}
use Rattle.std.proofs.lemmas.Cmp.{nat_cmp_total, nat_list_cmp_total, on_total, then_total}
use Rattle.std.specs.Cmp.Lexicographic.{slice_cmp}
use Rattle.std.proofs.lemmas.Bool.{eqb-true, true≢false}
use Rattle.std.proofs.lemmas.Slice.Eq.{bytes_eq-Decides}
use Rattle.std.proofs.lemmas.List.Sums.{length-filter}
use Rattle.cmd_lang.proofs.Numbers.{number_of-decimal}
use Rattle.hfs_language.specs.Language.{number_of}
use Rattle.hfs_language.specs.declared.refusal.Refusal.{Refusal}
use Rattle.hfs_language.specs.declared.refusal.Refusal.TheVariants as refusal
use Rattle.hfs_model.specs.Plain.{entries_in, entry_at, entry_before, is_at, is_node, names_of, node_at}
use Rattle.hfs_model.specs.Sorted.{IsInOrder, kept}
use Rattle.hfs_model.specs.Step.{child, reached, root_entry, then_, to_node, walk}
use Rattle.hfs_model.specs.declared.plain.PlainEntry.{PlainEntry}
use Rattle.hfs_model.specs.declared.plain.PlainNode.{PlainNode}
use Rattle.hfs_model.specs.declared.plain.PlainTree.{PlainTree}
use Rattle.hfs_model.proofs.Filtered.{filter-kept}
use Rattle.hfs_volume.proofs.Flat.{found_some}
use Rattle.hfs_volume.proofs.Members.{at_front, behind, first_or_later, kept_stands}
use Rattle.hfs_volume.proofs.Reaching.{found_ok, if_ok, then_ok}
use Rattle.open_files.specs.Keeping.{is_keeping_path, is_kept, is_own, is_seen, keepers, keeping_entry, keeping_name, seen_entries, seen_names, shown_tree, stands_in}
use Rattle.session_lines.specs.Owning.{IsOwnTree}
use Rattle.session_lines.proofs.Keeping.{filtered, keeps}
use Rattle.session_lines.proofs.Looks.{kept_found, none_there}

-- ---- lists

pub both : (a b : Bool) → (a && b) ≡ true → (a ≡ true) × (b ≡ true)
both true b is = (refl, is)
both false b is = absurd (true≢false (sym is))

-- what passes one test and all of whose items pass another, too, is kept among those as well
pub kept_both : {X : Type 0} (p q : X → Bool) (xs : List X) → ((x : X) → Contains xs x → p x ≡ true → q x ≡ true) → kept p (kept q xs) ≡ kept p xs
kept_both p q [] each = refl
kept_both {X} p q (x ∷ xs) each = by (q x) (each x (at_front x xs)) (kept_both p q xs (λ y stands. each y (behind x y xs stands)))
  where
    one : Bool → List X
    one b = if b then x ∷ [] else []

    out : (a : Bool) → (a ≡ true → false ≡ true) → kept p xs ≡ one a ++ kept p xs
    out true so = absurd (true≢false (sym (so refl)))
    out false so = refl

    by : (b : Bool) → (p x ≡ true → b ≡ true) → kept p (kept q xs) ≡ kept p xs → kept p ((if b then x ∷ [] else []) ++ kept q xs) ≡ one (p x) ++ kept p xs
    by true so rest = ap (λ l. one (p x) ++ l) rest
    by false so rest = rest ∙ out (p x) so

-- the same for what is found
pub find_both : {X : Type 0} (p q : X → Bool) (xs : List X) → ((x : X) → Contains xs x → p x ≡ true → q x ≡ true) → find p (kept q xs) ≡ find p xs
find_both p q [] each = refl
find_both {X} p q (x ∷ xs) each = by (q x) (each x (at_front x xs)) (find_both p q xs (λ y stands. each y (behind x y xs stands)))
  where
    first : Bool → Option X
    first a = if a then Some x else find p xs

    out : (a : Bool) → (a ≡ true → false ≡ true) → find p xs ≡ first a
    out true so = absurd (true≢false (sym (so refl)))
    out false so = refl

    by : (b : Bool) → (p x ≡ true → b ≡ true) → find p (kept q xs) ≡ find p xs → find p ((if b then x ∷ [] else []) ++ kept q xs) ≡ first (p x)
    by true so rest = ap (λ o. if p x then Some x else o) rest
    by false so rest = rest ∙ out (p x) so

-- What passes a test are those of them that pass another, and those that pass a third, which says that the second fails.
pub kept_parts : {X : Type 0} (p q r : X → Bool) (xs : List X) → ((x : X) → Contains xs x → r x ≡ (p x && not (q x))) → length (kept p xs) ≡ length (kept p (kept q xs)) + length (kept r xs)
kept_parts p q r [] each = refl
kept_parts {X} p q r (x ∷ xs) each = by (p x) refl (q x) (each x (at_front x xs)) (kept_parts p q r xs (λ y stands. each y (behind x y xs stands)))
  where
    one : Bool → List X
    one b = if b then x ∷ [] else []

    more : Bool → List X → ℕ
    more b l = length (one b ++ l)

    by : (a : Bool) → p x ≡ a → (b : Bool) → r x ≡ (p x && not b) → length (kept p xs) ≡ length (kept p (kept q xs)) + length (kept r xs)
        → more (p x) (kept p xs) ≡ length (kept p ((if b then x ∷ [] else []) ++ kept q xs)) + more (r x) (kept r xs)
    by true is true third rest = omega (arith, rest, ap (λ e. more e (kept p xs)) is, ap (λ e. more e (kept p (kept q xs))) is, ap (λ e. more e (kept r xs)) (third ∙ ap (λ e. e && false) is))
    by true is false third rest = omega (arith, rest, ap (λ e. more e (kept p xs)) is, ap (λ e. more e (kept r xs)) (third ∙ ap (λ e. e && true) is))
    by false is true third rest = omega (arith, rest, ap (λ e. more e (kept p xs)) is, ap (λ e. more e (kept p (kept q xs))) is, ap (λ e. more e (kept r xs)) (third ∙ ap (λ e. e && false) is))
    by false is false third rest = omega (arith, rest, ap (λ e. more e (kept p xs)) is, ap (λ e. more e (kept r xs)) (third ∙ ap (λ e. e && true) is))

-- one at most passes
pub once : {X : Type 0} (p : X → Bool) (xs : List X) (x y : X) → length (filter p xs) ≤ 1 → Contains xs x → p x ≡ true → Contains xs y → p y ≡ true → x ≡ y
once p [] x y few a px b py = absurd (omega (arith, a.1))
once {X} p (z ∷ zs) x y few a px b py = by (p z) refl few (λ less here there. once p zs x y less here px there py)
  where
    by : (c : Bool) → p z ≡ c → length (if c then z ∷ filter p zs else filter p zs) ≤ 1 → (length (filter p zs) ≤ 1 → Contains zs x → Contains zs y → x ≡ y) → x ≡ y
    by false fails few rest = rest few (later x a px) (later y b py)
      where
        later : (w : X) → Contains (z ∷ zs) w → p w ≡ true → Contains zs w
        later w stands passes = ⊎_elim (λ (same : w ≡ z). absurd (true≢false (sym passes ∙ ap p same ∙ fails))) (λ there. there) (first_or_later z w zs stands)
    by true passes few rest = pair (first_or_later z x zs a) (first_or_later z y zs b)
      where
        pair : (x ≡ z) ⊎ Contains zs x → (y ≡ z) ⊎ Contains zs y → x ≡ y
        pair (inl s) (inl t) = s ∙ sym t
        pair (inl s) (inr t) = absurd (filtered p zs y t py (omega (arith, few)))
        pair (inr s) other = absurd (filtered p zs x s px (omega (arith, few)))

-- nothing passes
pub none_filtered : {X : Type 0} (p : X → Bool) (xs : List X) → ((x : X) → Contains xs x → p x ≡ true → ⊥) → length (filter p xs) ≡ 0
none_filtered p [] none = refl
none_filtered {X} p (x ∷ xs) none = by (p x) (none x (at_front x xs)) (none_filtered p xs (λ y stands. none y (behind x y xs stands)))
  where
    by : (b : Bool) → (b ≡ true → ⊥) → length (filter p xs) ≡ 0 → length (if b then x ∷ filter p xs else filter p xs) ≡ 0
    by true fails rest = absurd (fails refl)
    by false fails rest = rest

-- what holds of all holds of each
each_by : {X : Type 0} (P : X → Type 0) (xs : List X) → AllByRecursion P xs → (x : X) → Contains xs x → P x
each_by P [] all x stands = absurd (omega (arith, stands.1))
each_by P (y ∷ xs) all x stands = ⊎_elim (λ (same : x ≡ y). subst P (sym same) all.0) (λ later. each_by P xs all.1 x later) (first_or_later y x xs stands)

-- ---- entries

one_way : {K : Type 0} {R : K → K → Ordering} → IsTotalOrder R → (x y : K) → is_lt (R x y) ≡ true → is_lt (R y x) ≡ false
one_way {K} {R} total x y before = by_case (R y x) (sym (ap is_lt (total.antisymm x y)) ∙ before)
  where
    by_case : (o : Ordering) → is_lt (ordering_reverse o) ≡ true → is_lt o ≡ false
    by_case Less is = absurd (true≢false (sym is))
    by_case Equal is = refl
    by_case Greater is = refl

entry_one_way : (x y : PlainEntry) → entry_before x y ≡ true → entry_before y x ≡ false
entry_one_way = one_way {R = then_cmp (on (λ (e : PlainEntry). e.parent) nat_cmp) (on (λ (e : PlainEntry). e.name) (slice_cmp nat_cmp))} (then_total (on_total (λ (e : PlainEntry). e.parent) nat_cmp_total) (on_total (λ (e : PlainEntry). e.name) nat_list_cmp_total))

-- two entries at one place don't come one before the other
one_place : (parent : ℕ) (name : List ℕ) (x y : PlainEntry) → is_at parent name x ≡ true → is_at parent name y ≡ true → entry_before x y ≡ true → ⊥
one_place parent name x y at_x at_y first =
    let kx = both (x.parent == parent) (bytes_eq x.name name) at_x in
    let ky = both (y.parent == parent) (bytes_eq y.name name) at_y in
    let px : x.parent ≡ parent = eqb-true x.parent parent kx.0 in
    let py : y.parent ≡ parent = eqb-true y.parent parent ky.0 in
    let nx : x.name ≡ name = (bytes_eq-Decides x.name name).0 kx.1 in
    let ny : y.name ≡ name = (bytes_eq-Decides y.name name).0 ky.1 in
    let forth : entry_before x y ≡ is_lt (ordering_then (nat_cmp parent parent) (slice_cmp nat_cmp name name)) = λ i. is_lt (ordering_then (nat_cmp (px i) (py i)) (slice_cmp nat_cmp (nx i) (ny i))) in
    let back : entry_before y x ≡ is_lt (ordering_then (nat_cmp parent parent) (slice_cmp nat_cmp name name)) = λ i. is_lt (ordering_then (nat_cmp (py i) (px i)) (slice_cmp nat_cmp (ny i) (nx i))) in
    true≢false (sym (back ∙ sym forth ∙ first) ∙ entry_one_way x y first)

-- one entry at most stands at a place
pub one_at_place : (parent : ℕ) (name : List ℕ) (entries : List PlainEntry) → IsInOrder entry_before entries → length (filter (is_at parent name) entries) ≤ 1
one_at_place parent name [] order = omega arith
one_at_place parent name (entry ∷ entries) order = by (is_at parent name entry) refl (one_at_place parent name entries order.1)
  where
    by : (b : Bool) → is_at parent name entry ≡ b → length (filter (is_at parent name) entries) ≤ 1 → length (if b then entry ∷ filter (is_at parent name) entries else filter (is_at parent name) entries) ≤ 1
    by true here rest =
        let none = none_filtered (is_at parent name) entries (λ other stands there. one_place parent name entry other here there (each_by (λ later. entry_before entry later ≡ true) entries order.0 other stands)) in
        omega (arith, none)
    by false here rest = rest

pub kept_length : {X : Type 0} (p : X → Bool) (xs : List X) → length (kept p xs) ≡ length (filter p xs)
kept_length p xs = ap (λ l. length l) (sym (filter-kept p xs))

-- an id's digits are its own
pub digits_tell : (a b : ℕ) → a < 2 ^ 64 → b < 2 ^ 64 → decimal a ≡ decimal b → a ≡ b
digits_tell a b few other same = ap (number_or a) (sym (number_of-decimal a few) ∙ ap number_of same ∙ number_of-decimal b other)
  where
    number_or : ℕ → Result ℕ Refusal → ℕ
    number_or other (Ok n) = n
    number_or other (Err why) = other

-- ---- what is told of a tree

-- the id is the keeping folder's
abbrev pub inside_of : Option PlainEntry → ℕ → Bool
inside_of None id = false
inside_of (Some folder) id = id == folder.id

pub stands_inside : (o : Option PlainEntry) (entry : PlainEntry) → stands_in o entry ≡ inside_of o entry.parent
stands_inside None entry = refl
stands_inside (Some folder) entry = refl

module _ (tree : PlainTree) (is : IsOwnTree tree) where
  abbrev inside : ℕ → Bool
  inside id = inside_of (keeping_entry tree) id

  seen_by_parts : (a b : Bool) → a ≡ false → b ≡ false → (not a && not b) ≡ true
  seen_by_parts a b no_a no_b = λ i. not (no_a i) && not (no_b i)

  -- an entry is seen that stands neither there nor in there
  seen_is : (entry : PlainEntry) → is_at 2 keeping_name entry ≡ false → inside entry.parent ≡ false → is_seen tree entry ≡ true
  seen_is entry not_at not_in = seen_by_parts (is_at 2 keeping_name entry) (stands_in (keeping_entry tree) entry) not_at (stands_inside (keeping_entry tree) entry ∙ not_in)

  -- the root isn't the keeping folder
  pub root_outside : inside 2 ≡ false
  root_outside = by (keeping_entry tree) refl
    where
      by : (o : Option PlainEntry) → keeping_entry tree ≡ o → inside_of o 2 ≡ false
      by None none = refl
      by (Some folder) found = turned folder.id (keeps tree is folder found).below
        where
          turned : (n : ℕ) → (n == 2) ≡ false → (2 == n) ≡ false
          turned n isnt = other (2 == n) refl
            where
              other : (b : Bool) → (2 == n) ≡ b → b ≡ false
              other false same = refl
              other true same = absurd (true≢false (ap (λ m. m == 2) (eqb-true 2 n same) ∙ isnt))

  -- no entry is named by the root's id
  pub root_nameless : (entry : PlainEntry) → Contains tree.entries entry → (entry.id == 2) ≡ false
  root_nameless entry stands = by (entry.id == 2) refl
    where
      by : (b : Bool) → (entry.id == 2) ≡ b → b ≡ false
      by false isnt = refl
      by true root = absurd (filtered (λ (e : PlainEntry). e.id == 2) tree.entries entry stands root (length-filter (λ (e : PlainEntry). e.id == 2) tree.entries ∙ is.plain.root.3))

  -- the folder has one name
  one_folder : (folder : PlainEntry) → keeping_entry tree ≡ Some folder → (entry : PlainEntry) → Contains tree.entries entry → (entry.id == folder.id) ≡ true → entry ≡ folder
  one_folder folder found entry stands same =
      let here = found_some (is_at 2 keeping_name) tree.entries folder found in
      let node = (is.plain.named folder here.0).named in
      let number : node.0.id ≡ folder.id = eqb-true node.0.id folder.id (found_some (is_node folder.id) tree.nodes node.0 node.1).1 in
      let names = ⊎_elim (λ (root : node.0.id ≡ 2). absurd (true≢false (sym (ap (λ n. n == 2) (sym number ∙ root)) ∙ (keeps tree is folder found).below))) (λ (one : names_of tree node.0.id ≡ 1). ap (names_of tree) (sym number) ∙ one)
      (is.plain.folders node.0 (found_some (is_node folder.id) tree.nodes node.0 node.1).0 (node.2 ∙ is.folder folder here.0 here.1)) in
      once (λ (e : PlainEntry). e.id == folder.id) tree.entries entry folder (omega (arith, names, length-filter (λ (e : PlainEntry). e.id == folder.id) tree.entries)) stands same here.0 (same_id folder.id)
    where
      same_id : (n : ℕ) → (n == n) ≡ true
      same_id n = grind arith

  -- ---- paths

  -- an entry that a name leads to is elsewhere, unless the name is the folder's
  next_outside : (from : ℕ) (name : List ℕ) (entry : PlainEntry) → entry_at tree from name ≡ Some entry → ((from == 2) ≡ true → bytes_eq name keeping_name ≡ false) → inside entry.id ≡ false
  next_outside from name entry found other = by (keeping_entry tree) refl
    where
      here : Contains tree.entries entry × (is_at from name entry ≡ true)
      here = found_some (is_at from name) tree.entries entry found

      by : (o : Option PlainEntry) → keeping_entry tree ≡ o → inside_of o entry.id ≡ false
      by None none = refl
      by (Some folder) there = by_id (entry.id == folder.id) refl
        where
          by_id : (b : Bool) → (entry.id == folder.id) ≡ b → b ≡ false
          by_id false isnt = refl
          by_id true same =
              let one = one_folder folder there entry here.0 same in
              let at = both (entry.parent == from) (bytes_eq entry.name name) here.1 in
              let at_root = both (entry.parent == 2) (bytes_eq entry.name keeping_name) (ap (is_at 2 keeping_name) one ∙ (found_some (is_at 2 keeping_name) tree.entries folder there).1) in
              let root : (from == 2) ≡ true = ap (λ n. n == 2) (sym (eqb-true entry.parent from at.0)) ∙ at_root.0 in
              let named : bytes_eq name keeping_name ≡ true = ap (λ (l : List ℕ). bytes_eq l keeping_name) (sym ((bytes_eq-Decides entry.name name).0 at.1)) ∙ at_root.1 in
              absurd (true≢false (sym named ∙ other root))

  -- what stands in another folder is found as on the tree
  shown_at : (from : ℕ) (name : List ℕ) → inside from ≡ false → ((from == 2) ≡ true → bytes_eq name keeping_name ≡ false) → entry_at (shown_tree tree) from name ≡ entry_at tree from name
  shown_at from name not_in other = find_both (is_at from name) (is_seen tree) tree.entries (λ entry stands at.
      let its = both (entry.parent == from) (bytes_eq entry.name name) at in
      seen_is entry (elsewhere entry its.0 its.1 (is_at 2 keeping_name entry) refl) (ap inside (eqb-true entry.parent from its.0) ∙ not_in))
    where
      elsewhere : (entry : PlainEntry) → (entry.parent == from) ≡ true → bytes_eq entry.name name ≡ true → (b : Bool) → is_at 2 keeping_name entry ≡ b → b ≡ false
      elsewhere entry at named false here = refl
      elsewhere entry at named true here =
          let its = both (entry.parent == 2) (bytes_eq entry.name keeping_name) here in
          let root : (from == 2) ≡ true = ap (λ n. n == 2) (sym (eqb-true entry.parent from at)) ∙ its.0 in
          let own : bytes_eq name keeping_name ≡ true = ap (λ (l : List ℕ). bytes_eq l keeping_name) (sym ((bytes_eq-Decides entry.name name).0 named)) ∙ its.1 in
          absurd (true≢false (sym own ∙ other root))

  walked : (path : List (List ℕ)) (from : PlainEntry) → inside from.id ≡ false → ((from.id == 2) ≡ true → is_keeping_path path ≡ false)
      → (walk (shown_tree tree) from path ≡ walk tree from path) × ((at : PlainEntry) → walk tree from path ≡ Ok at → inside at.id ≡ false)
  walked [] from not_in other = (refl, λ at same. ap (λ (e : PlainEntry). inside e.id) (sym (found_here from at same)) ∙ not_in)
    where
      entry_or : PlainEntry → Result PlainEntry Refusal → PlainEntry
      entry_or other (Ok entry) = entry
      entry_or other (Err why) = other

      found_here : (from at : PlainEntry) → ◌≡◌ {A = Result PlainEntry Refusal} (Ok from) (Ok at) → from ≡ at
      found_here from at same = ap (entry_or from) same
  walked (name ∷ path) from not_in other =
      let it = steps (λ next out root. walked path next out root) from.folder (entry_at tree from.id name) refl in
      (ap (λ (o : Option PlainEntry). then_ (if from.folder then ok_or o refusal.NotFound else Err refusal.NotFolder) (λ next. walk (shown_tree tree) next path)) (shown_at from.id name not_in other) ∙ it.0, it.1)
    where
      next_or : Bool → Option PlainEntry → Result PlainEntry Refusal
      next_or b o = if b then ok_or o refusal.NotFound else Err refusal.NotFolder

      Goal : Bool → Option PlainEntry → Type 0
      Goal b o = (then_ (next_or b o) (λ next. walk (shown_tree tree) next path) ≡ then_ (next_or b o) (λ next. walk tree next path))
          × ((at : PlainEntry) → then_ (next_or b o) (λ next. walk tree next path) ≡ Ok at → inside at.id ≡ false)

      Rest : Type 0
      Rest = (next : PlainEntry) → inside next.id ≡ false → ((next.id == 2) ≡ true → is_keeping_path path ≡ false) → (walk (shown_tree tree) next path ≡ walk tree next path) × ((at : PlainEntry) → walk tree next path ≡ Ok at → inside at.id ≡ false)

      steps : Rest → (b : Bool) (o : Option PlainEntry) → entry_at tree from.id name ≡ o → Goal b o
      steps rest false o found = (refl, λ at same. absurd (cc same))
      steps rest true None found = (refl, λ at same. absurd (cc same))
      steps rest true (Some next) found = rest next (next_outside from.id name next found other) (λ root. absurd (true≢false (sym root ∙ root_nameless next (found_some (is_at from.id name) tree.entries next found).0)))

  module _ (path : List (List ℕ)) (own : is_keeping_path path ≡ false) where
    -- a path of another name leads to the same
    pub shown_reached : reached (shown_tree tree) path ≡ reached tree path
    shown_reached = (walked path root_entry root_outside (λ root. own)).0

    pub reached_outside : (at : PlainEntry) → reached tree path ≡ Ok at → inside at.id ≡ false
    reached_outside at found = (walked path root_entry root_outside (λ root. own)).1 at found

    pub shown_node : to_node (shown_tree tree) path ≡ to_node tree path
    shown_node = ap (λ (r : Result PlainEntry Refusal). then_ r (λ at. ok_or (node_at tree at.id) refusal.NotFound)) shown_reached

  -- ---- counts

  -- a folder elsewhere
  pub shown_entries : (id : ℕ) → inside id ≡ false → (id == 2) ≡ false → entries_in (shown_tree tree) id ≡ entries_in tree id
  shown_entries id not_in not_root = kept_both (λ (entry : PlainEntry). entry.parent == id) (is_seen tree) tree.entries (λ entry stands at.
      let same = eqb-true entry.parent id at in
      seen_is entry (ap (λ n. (n == 2) && bytes_eq entry.name keeping_name) same ∙ ap (λ b. b && bytes_eq entry.name keeping_name) not_root) (ap inside same ∙ not_in))

  -- the root has one entry more than is shown, where the folder is there
  pub root_count : length (entries_in tree 2) ≡ length (entries_in (shown_tree tree) 2) + length (kept (is_at 2 keeping_name) tree.entries)
  root_count = kept_parts (λ (entry : PlainEntry). entry.parent == 2) (is_seen tree) (is_at 2 keeping_name) tree.entries (λ entry stands. by entry (entry.parent == 2) refl (bytes_eq entry.name keeping_name))
    where
      by : (entry : PlainEntry) (a : Bool) → (entry.parent == 2) ≡ a → (n : Bool) → (a && n) ≡ (a && not (not (a && n) && not (stands_in (keeping_entry tree) entry)))
      by entry false at n = refl
      by entry true at true = refl
      by entry true at false = sym (ap (λ b. not (not b)) (stands_inside (keeping_entry tree) entry ∙ ap inside (eqb-true entry.parent 2 at) ∙ root_outside))

  pub one_there : (folder : PlainEntry) → keeping_entry tree ≡ Some folder → length (kept (is_at 2 keeping_name) tree.entries) ≡ 1
  one_there folder found =
      let here = found_some (is_at 2 keeping_name) tree.entries folder found in
      let few = one_at_place 2 keeping_name tree.entries is.plain.entries_sorted in
      let some = filtered (is_at 2 keeping_name) tree.entries folder here.0 here.1 in
      exactly (length (filter (is_at 2 keeping_name) tree.entries)) few some (kept_length (is_at 2 keeping_name) tree.entries)
    where
      exactly : (n : ℕ) → n ≤ 1 → (n ≡ 0 → ⊥) → length (kept (is_at 2 keeping_name) tree.entries) ≡ n → length (kept (is_at 2 keeping_name) tree.entries) ≡ 1
      exactly zero few some same = absurd (some refl)
      exactly (suc n) few some same = omega (arith, few, same)
