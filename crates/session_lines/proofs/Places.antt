-- Where names stand on a plain tree: no path but the keeping folder's own leads to it or into it.
use Rattle.std.proofs.Common.{◌≡◌, ◌≢◌, ◌⊎◌, ◌<◌, ◌+◌, ℕ, Bool, true, false, List, [], ◌∷◌, inl, inr, refl, sym, ◌∙◌, ap, subst, arith, eq-eqb, ⊎_elim}
use Rattle.std.specs.Prelude.{Contains, ◌==◌, ◌&&◌, count_by, find, Option, Some, None, Result, Ok, Err, if◌then◌else◌}
use Rattle.std.specs.List.{AllByRecursion}
use Rattle.std.specs.Option.{ok_or}
use Rattle.std.specs.Str.{bytes_eq}
use Rattle.std.proofs.lemmas.Bool.{and_parts, eqb-true, true≢false}
use Rattle.std.proofs.lemmas.Slice.Eq.{bytes_eq-Decides}
use Rattle.hfs_language.specs.declared.refusal.Refusal.{Refusal}
use Rattle.hfs_language.specs.declared.refusal.Refusal.TheVariants as refusal
use Rattle.hfs_model.specs.Plain.{IsPlainTree, entry_at, entry_before, is_at, is_node, names_of, node_at}
use Rattle.hfs_model.specs.Sorted.{IsInOrder}
use Rattle.hfs_model.specs.Step.{Place, child, front, is_root, last_name, place, place_in, reached, root_entry, then_, walk}
use Rattle.hfs_model.specs.declared.plain.PlainEntry.{PlainEntry}
use Rattle.hfs_model.specs.declared.plain.PlainNode.{PlainNode}
use Rattle.hfs_model.specs.declared.plain.PlainTree.{PlainTree}
use Rattle.hfs_volume.specs.Laws.{one_if}
use Rattle.hfs_volume.proofs.Counting.{count_cons}
use Rattle.hfs_volume.proofs.Flat.{found_none, found_some}
use Rattle.hfs_volume.proofs.Fitting.{differs}
use Rattle.hfs_volume.proofs.Members.{behind, first_or_later}
use Rattle.hfs_volume.proofs.Reaching.{found_ok, if_ok, ok_same, then_ok}
use Rattle.open_files.specs.Keeping.{is_keeping_path, keeping_entry, keeping_name}
use Rattle.session_lines.proofs.Sorting.{each_by, entry_one_way}

-- ---- lists

-- what passes is counted
pub counted : {X : Type 0} (p : X → Bool) (xs : List X) (x : X) → Contains xs x → p x ≡ true → 0 < count_by p xs
counted p [] x stands passes = absurd (omega (arith, stands.1))
counted {X} p (y ∷ ys) x stands passes = ⊎_elim
    (λ (same : x ≡ y). let one : one_if (p y) ≡ 1 = ap one_if (ap p (sym same) ∙ passes) in omega (arith, count_cons p y ys, one))
    (λ later. let more = counted p ys x later passes in omega (arith, count_cons p y ys, more)) (first_or_later y x ys stands)

-- where one is counted, it is one thing
pub only_one : {X : Type 0} (p : X → Bool) (xs : List X) (x y : X) → count_by p xs ≡ 1 → Contains xs x → Contains xs y → p x ≡ true → p y ≡ true → x ≡ y
only_one p [] x y one has_x has_y passes_x passes_y = absurd (omega (arith, has_x.1))
only_one {X} p (z ∷ zs) x y one has_x has_y passes_x passes_y = ⊎_elim
    (λ (x_first : x ≡ z). ⊎_elim
    (λ (y_first : y ≡ z). x_first ∙ sym y_first)
    (λ y_later. absurd (twice x x_first passes_x y y_later passes_y)) (first_or_later z y zs has_y))
    (λ x_later. ⊎_elim
    (λ (y_first : y ≡ z). absurd (twice y y_first passes_y x x_later passes_x))
    (λ y_later. by (p z) refl (λ left. only_one p zs x y left x_later y_later passes_x passes_y) x_later) (first_or_later z y zs has_y)) (first_or_later z x zs has_x)
  where
    twice : (a : X) → a ≡ z → p a ≡ true → (b : X) → Contains zs b → p b ≡ true → ⊥
    twice a first passes_a b later passes_b =
        let is_one : one_if (p z) ≡ 1 = ap one_if (ap p (sym first) ∙ passes_a) in
        let more = counted p zs b later passes_b in
        omega (arith, count_cons p z zs, one, is_one, more)

    by : (b : Bool) → p z ≡ b → (count_by p zs ≡ 1 → x ≡ y) → Contains zs x → x ≡ y
    by true is later x_later = absurd (twice z refl is x x_later passes_x)
    by false is later x_later = let none : one_if (p z) ≡ 0 = ap one_if is in later (omega (arith, count_cons p z zs, one, none))

-- ---- places

pub place_parts : (parent : ℕ) (name : List ℕ) (entry : PlainEntry) → is_at parent name entry ≡ true → (entry.parent ≡ parent) × (entry.name ≡ name)
place_parts parent name entry is =
    let parts = and_parts (entry.parent == parent) (bytes_eq entry.name name) is in
    (eqb-true entry.parent parent parts.0, (bytes_eq-Decides entry.name name).0 parts.1)

pub is_placed : (parent : ℕ) (name : List ℕ) (entry : PlainEntry) → entry.parent ≡ parent → entry.name ≡ name → is_at parent name entry ≡ true
is_placed parent name entry there named = λ i. (eq-eqb entry.parent parent there i) && ((bytes_eq-Decides entry.name name).1 named i)

-- two entries at one place are one
pub one_way : (parent : ℕ) (name : List ℕ) (x y : PlainEntry) → is_at parent name x ≡ true → is_at parent name y ≡ true → entry_before x y ≡ true → ⊥
one_way parent name x y at_x at_y first =
    let kx = place_parts parent name x at_x in
    let ky = place_parts parent name y at_y in
    let back : entry_before y x ≡ entry_before x y = λ i. entry_before (record x { parent = (ky.0 ∙ sym kx.0) i; name = (ky.1 ∙ sym kx.1) i }) (record y { parent = (kx.0 ∙ sym ky.0) i; name = (kx.1 ∙ sym ky.1) i }) in
    true≢false (sym (back ∙ first) ∙ entry_one_way x y first)

pub one_at_place : (entries : List PlainEntry) → IsInOrder entry_before entries → (parent : ℕ) (name : List ℕ) (x y : PlainEntry) → Contains entries x → Contains entries y → is_at parent name x ≡ true → is_at parent name y ≡ true → x ≡ y
one_at_place [] order parent name x y has_x has_y at_x at_y = absurd (omega (arith, has_x.1))
one_at_place (z ∷ zs) order parent name x y has_x has_y at_x at_y = ⊎_elim
    (λ (x_first : x ≡ z). ⊎_elim
    (λ (y_first : y ≡ z). x_first ∙ sym y_first)
    (λ y_later. absurd (one_way parent name z y (ap (is_at parent name) (sym x_first) ∙ at_x) at_y (each_by (λ later. entry_before z later ≡ true) zs order.0 y y_later))) (first_or_later z y zs has_y))
    (λ x_later. ⊎_elim
    (λ (y_first : y ≡ z). absurd (one_way parent name z x (ap (is_at parent name) (sym y_first) ∙ at_y) at_x (each_by (λ later. entry_before z later ≡ true) zs order.0 x x_later)))
    (λ y_later. one_at_place zs order.1 parent name x y x_later y_later at_x at_y) (first_or_later z y zs has_y)) (first_or_later z x zs has_x)

-- what stands at a place is found there
pub stands_at : (tree : PlainTree) → IsInOrder entry_before tree.entries → (parent : ℕ) (name : List ℕ) (entry : PlainEntry) → Contains tree.entries entry → is_at parent name entry ≡ true → entry_at tree parent name ≡ Some entry
stands_at tree order parent name entry stands at = by (entry_at tree parent name) refl
  where
    by : (o : Option PlainEntry) → entry_at tree parent name ≡ o → entry_at tree parent name ≡ Some entry
    by None none = absurd (true≢false (sym at ∙ found_none (is_at parent name) tree.entries none entry stands))
    by (Some other) found =
        let it = found_some (is_at parent name) tree.entries other found in
        found ∙ ap Some (one_at_place tree.entries order parent name other entry it.0 stands it.1 at)

-- ---- walks

-- the place of a path: its folder, and its last name
pub record IsPlaced (tree : PlainTree) (path : List (List ℕ)) (folder : ℕ) (name : List ℕ) : Type 0 where
  pub at : PlainEntry
  pub reaches : reached tree (front path) ≡ Ok at
  pub kind : at.folder ≡ true
  pub folder_is : folder ≡ at.id
  pub name_is : name ≡ last_name path

pub placed : (tree : PlainTree) (path : List (List ℕ)) (goal : Place) → place tree path ≡ Ok goal → IsPlaced tree path goal.folder goal.name × (goal.found ≡ entry_at tree goal.folder goal.name)
placed tree path goal is =
    let first = then_ok (reached tree (front path)) (place_in tree (last_name path)) goal is in
    let at = if_ok first.0.folder (Ok (record { folder = first.0.id; name = last_name path; found = entry_at tree first.0.id (last_name path) })) refusal.NotFolder goal first.2 in
    let same : goal ≡ record { folder = first.0.id; name = last_name path; found = entry_at tree first.0.id (last_name path) } = sym (ok_same _ goal at.1) in (
      record { at = first.0; reaches = first.1; kind = at.0; folder_is = ap (λ (p : Place). p.folder) same; name_is = ap (λ (p : Place). p.name) same },
      ap (λ (p : Place). p.found) same ∙ (λ i. entry_at tree (ap (λ (p : Place). p.folder) (sym same) i) (ap (λ (p : Place). p.name) (sym same) i)),
    )

module _ (tree : PlainTree) where
  -- a name leads from one entry to another, which stands there
  pub step_to : (from at : PlainEntry) (name : List ℕ) → child tree from name ≡ Ok at → (from.folder ≡ true) × Contains tree.entries at × (at.parent ≡ from.id) × (at.name ≡ name)
  step_to from at name is =
      let open_it = if_ok from.folder (ok_or (entry_at tree from.id name) refusal.NotFound) refusal.NotFolder at is in
      let found = found_some (is_at from.id name) tree.entries at (found_ok (entry_at tree from.id name) refusal.NotFound at open_it.1) in
      let parts = place_parts from.id name at found.1 in
      (open_it.0, found.0, parts.0, parts.1)

  -- what is reached behind a name stands in the tree
  pub walked_to : (path : List (List ℕ)) (from at : PlainEntry) (name : List ℕ) → walk tree from (name ∷ path) ≡ Ok at → Contains tree.entries at
  walked_to [] from at name is =
      let first = then_ok (child tree from name) (λ next. Ok next) at is in
      subst (λ (e : PlainEntry). Contains tree.entries e) (ok_same first.0 at first.2) (step_to from first.0 name first.1).1
  walked_to (next ∷ path) from at name is =
      let first = then_ok (child tree from name) (λ later. walk tree later (next ∷ path)) at is in
      walked_to path first.0 at next first.2

  module _ (plain : IsPlainTree tree) where
    -- no entry is the root's
    pub no_root : (entry : PlainEntry) → Contains tree.entries entry → entry.id ≢ 2
    no_root entry stands two =
        let some = counted (λ (e : PlainEntry). e.id == 2) tree.entries entry stands (eq-eqb entry.id 2 two) in
        omega (arith, some, plain.root.3)

    -- entries of one folder are one
    pub one_folder : (x y : PlainEntry) → Contains tree.entries x → Contains tree.entries y → x.folder ≡ true → x.id ≡ y.id → x ≡ y
    one_folder x y has_x has_y kind same =
        let named = (plain.named x has_x).named in
        let node = found_some (is_node x.id) tree.nodes named.0 named.1 in
        let id_is : named.0.id ≡ x.id = eqb-true named.0.id x.id node.1 in
        ⊎_elim (λ (root : named.0.id ≡ 2). absurd (no_root x has_x (sym id_is ∙ root)))
        (λ (one : names_of tree named.0.id ≡ 1). only_one (λ (e : PlainEntry). e.id == named.0.id) tree.entries x y one has_x has_y (eq-eqb x.id named.0.id (sym id_is)) (eq-eqb y.id named.0.id (sym same ∙ sym id_is))) (plain.folders named.0 node.0 (named.2 ∙ kind))

    -- ---- the keeping folder

    module _ (folder : PlainEntry) (found : keeping_entry tree ≡ Some folder) (kind : folder.folder ≡ true) where
      its_place : Contains tree.entries folder × (folder.parent ≡ 2) × (folder.name ≡ keeping_name)
      its_place =
          let it = found_some (is_at 2 keeping_name) tree.entries folder found in
          let parts = place_parts 2 keeping_name folder it.1 in
          (it.0, parts.0, parts.1)

      -- a walk that comes to it from elsewhere than the root comes from the root on the way
      not_from_below : (path : List (List ℕ)) (from at : PlainEntry) (name : List ℕ) → Contains tree.entries from → walk tree from (name ∷ path) ≡ Ok at → at.id ≢ folder.id
      not_from_below [] from at name there is same =
          let first = then_ok (child tree from name) (λ next. Ok next) at is in
          let made = step_to from first.0 name first.1 in
          let its = its_place in
          let at_is : first.0 ≡ at = ok_same first.0 at first.2 in
          let one : folder ≡ first.0 = one_folder folder first.0 its.0 made.1 kind (sym same ∙ ap (λ (e : PlainEntry). e.id) (sym at_is)) in
          no_root from there (sym made.2 ∙ ap (λ (e : PlainEntry). e.parent) (sym one) ∙ its.1)
      not_from_below (next ∷ path) from at name there is same =
          let first = then_ok (child tree from name) (λ later. walk tree later (next ∷ path)) at is in
          not_from_below path first.0 at next (step_to from first.0 name first.1).1 first.2 same

      -- no other path of the root leads to it
      pub not_reached : (path : List (List ℕ)) (at : PlainEntry) → is_keeping_path path ≡ false → reached tree path ≡ Ok at → at.id ≢ folder.id
      not_reached [] at other is same = no_root folder its_place.0 (sym same ∙ ap (λ (e : PlainEntry). e.id) (sym (ok_same root_entry at is)))
      not_reached (name ∷ []) at other is same =
          let first = then_ok (child tree root_entry name) (λ next. Ok next) at is in
          let made = step_to root_entry first.0 name first.1 in
          let its = its_place in
          let at_is : first.0 ≡ at = ok_same first.0 at first.2 in
          let one : folder ≡ first.0 = one_folder folder first.0 its.0 made.1 kind (sym same ∙ ap (λ (e : PlainEntry). e.id) (sym at_is)) in
          true≢false (sym ((bytes_eq-Decides name keeping_name).1 (sym made.3 ∙ ap (λ (e : PlainEntry). e.name) (sym one) ∙ its.2)) ∙ other)
      not_reached (name ∷ next ∷ path) at other is same =
          let first = then_ok (child tree root_entry name) (λ later. walk tree later (next ∷ path)) at is in
          not_from_below path first.0 at next (step_to root_entry first.0 name first.1).1 first.2 same

    -- no other path names its place, or one in it
    front_other : (path : List (List ℕ)) → is_keeping_path path ≡ false → is_keeping_path (front path) ≡ false
    front_other [] other = refl
    front_other (name ∷ []) other = refl
    front_other (name ∷ next ∷ path) other = other

    pub apart_from_folder : (path : List (List ℕ)) (parent : ℕ) (name : List ℕ) → is_root path ≡ false → is_keeping_path path ≡ false → IsPlaced tree path parent name → (entry : PlainEntry) → entry.parent ≡ parent → entry.name ≡ name → is_at 2 keeping_name entry ≡ false
    apart_from_folder [] parent name named other is entry its_parent its_name = absurd (true≢false named)
    apart_from_folder (first ∷ []) parent name named other is entry its_parent its_name =
        let same : entry.name ≡ first = its_name ∙ is.name_is in
        by (entry.parent == 2) (bytes_eq entry.name keeping_name) (ap (λ n. bytes_eq n keeping_name) same ∙ other)
      where
        by : (a b : Bool) → b ≡ false → (a && b) ≡ false
        by true b isnt = isnt
        by false b isnt = refl
    apart_from_folder (first ∷ next ∷ path) parent name named other is entry its_parent its_name =
        let there = walked_to (front (next ∷ path)) root_entry is.at first is.reaches in
        ap (λ b. b && bytes_eq entry.name keeping_name) (differs entry.parent 2 (λ two. no_root is.at there (sym (its_parent ∙ is.folder_is) ∙ two)))

    pub apart_from_kept : (folder : PlainEntry) → keeping_entry tree ≡ Some folder → folder.folder ≡ true → (path : List (List ℕ)) (parent : ℕ) (name : List ℕ) → is_keeping_path path ≡ false → IsPlaced tree path parent name → parent ≢ folder.id
    apart_from_kept folder found kind path parent name other is same = not_reached folder found kind (front path) is.at (front_other path other) is.reaches (sym is.folder_is ∙ same)
