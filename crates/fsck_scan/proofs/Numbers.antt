-- The numbers of a tree's header record that are judged stand among those that the rules of a tree want.
use Rattle.std.proofs.Common.{◌≡◌, ◌⊎◌, ◌<◌, ◌≤◌, ℕ, ◌-◌, ◌*◌, ◌==◌, min, max, List, [], ◌∷◌, length, map, get_or, inl, inr, refl, sym, ◌∙◌, ap, subst, arith, if◌then◌else◌}
use Rattle.std.specs.Prelude.{Contains, slice_index, Option, Some, None, IfSome, IfNone, Result, Ok, Err, IfOk}
use Rattle.std.specs.List.{count_by, range_with_len}
use Rattle.btree_node.specs.Levels.{leaves}
use Rattle.btree_node.specs.TreeFile.{TreeFile, TreeHead}
use Rattle.hfs_volume.specs.Broken.{Want, Finding, want, node_place, node_size_wanted, form_wants, levels_in, leaves_in, is_in_use, IsUnmet}
use Rattle.hfs_volume.proofs.Members.{first_or_later, map_cases}
use Rattle.fsck_scan.specs.Form.{form_in, head_in, want_of}
use Rattle.fsck_scan.specs.declared.form.Form.{Form}
use Rattle.fsck_scan.specs.declared.form.Head.{Head}
use Rattle.fsck_scan.specs.declared.form.Number.{Number}

pub none_map : {X : Type 0} (found : Option X) (P Q : Type 0) → (P → Q) → IfNone found P → IfNone found Q
none_map None P Q from holds = from holds
none_map (Some x) P Q from holds = holds

pub some_map : {X : Type 0} (found : Option X) (P Q : X → Type 0) → ((x : X) → P x → Q x) → IfSome found P → IfSome found Q
some_map None P Q from holds = holds
some_map (Some x) P Q from holds = from x holds

pub none_both : {X : Type 0} (found : Option X) (P Q R : Type 0) → (P → Q → R) → IfNone found P → IfNone found Q → IfNone found R
none_both None P Q R from first second = from first second
none_both (Some x) P Q R from first second = first

pub none_any : {X : Type 0} (found : Option X) (P : Type 0) → P → IfNone found P
none_any None P holds = holds
none_any (Some x) P holds = tt

pub ok_none : {X E : Type 0} (result : Result (Option X) E) (P Q : Type 0) → (P → Q) → IfOk result (λ found. IfNone found P) → IfOk result (λ found. IfNone found Q)
ok_none (Ok found) P Q from holds = none_map found P Q from holds
ok_none (Err e) P Q from holds = holds

-- a fact of each number of a list, one after the other
abbrev pub Each : (Number → Type 0) → List Number → Type 0
Each P [] = Unit {0}
Each P (x ∷ xs) = P x × Each P xs

each_at : (P : Number → Type 0) (xs : List Number) → Each P xs → (x : Number) → Contains xs x → P x
each_at P [] each x stands = absurd (omega (arith, stands.1))
each_at P (y ∷ ys) each x stands = elim (first_or_later y x ys stands) [
  | inl is ↦ subst P (sym is) each.0
  | inr later ↦ each_at P ys each.1 x later
]

-- what is unmet among some numbers is unmet among more
pub among_wants : (id : ℕ) (numbers : List Number) (wants : List Want) (finding : Finding) → Each (λ number. Contains wants (want_of id number)) numbers → IsUnmet 4 finding (map (want_of id) numbers) → IsUnmet 4 finding wants
among_wants id numbers wants finding each unmet =
    let from = map_cases (want_of id) numbers (want finding.place finding.found finding.wanted) unmet.2 in
    (unmet.0, unmet.1, subst (λ w. Contains wants w) (sym from.2) (each_at (λ number. Contains wants (want_of id number)) numbers each from.0 from.1))

module _ (form : Form) (head : Head) (tree : TreeFile) (is : tree.head ≡ head_in head) where
  abbrev pub Wants : Want → Type 0
  Wants w = Contains (form_wants (form_in form) form.id tree) w

  pub in_attributes : Wants (want (node_place form.id 0) head.attributes form.attributes)
  in_attributes = (0, omega arith, ap (λ (h : TreeHead). want (node_place form.id 0) h.attributes form.attributes) is)

  pub in_max_key : Wants (want (node_place form.id 0) head.max_key form.max_key)
  in_max_key = (1, omega arith, ap (λ (h : TreeHead). want (node_place form.id 0) h.max_key form.max_key) is)

  pub in_depth : (most : ℕ) → most ≡ min head.shape.depth 12 → Wants (want (node_place form.id 0) head.shape.depth most)
  in_depth most most_is = (2, omega arith, ap (λ (h : TreeHead). want (node_place form.id 0) h.depth (min h.depth 12)) is ∙ ap (want (node_place form.id 0) head.shape.depth) (sym most_is))

  pub in_levels : (height : ℕ) → levels_in tree ≡ height → Wants (want (node_place form.id 0) head.shape.depth height)
  in_levels height levels = (3, omega arith, ap (λ (h : TreeHead). want (node_place form.id 0) h.depth (levels_in tree)) is ∙ ap (want (node_place form.id 0) head.shape.depth) levels)

  pub in_root : (height wanted : ℕ) → levels_in tree ≡ height → wanted ≡ (if height == 0 then 0 else head.shape.root) → Wants (want (node_place form.id 0) head.shape.root wanted)
  in_root height wanted levels wanted_is = (
    4,
    omega arith,
    ap (λ (h : TreeHead). want (node_place form.id 0) h.root (if levels_in tree == 0 then 0 else h.root)) is ∙ ap (λ n. want (node_place form.id 0) head.shape.root (if n == 0 then 0 else head.shape.root)) levels
        ∙ ap (want (node_place form.id 0) head.shape.root) (sym wanted_is),
  )

  pub in_size : (wanted : ℕ) → wanted ≡ node_size_wanted (form_in form) head.shape.node_size → Wants (want (node_place form.id 0) head.shape.node_size wanted)
  in_size wanted wanted_is = (5, omega arith, ap (λ (h : TreeHead). want (node_place form.id 0) h.node_size (node_size_wanted (form_in form) h.node_size)) is ∙ ap (want (node_place form.id 0) head.shape.node_size) (sym wanted_is))

  pub in_first : (list : List ℕ) (wanted : ℕ) → leaves_in tree ≡ list → wanted ≡ slice_index list 0 → Wants (want (node_place form.id 0) head.shape.first wanted)
  in_first list wanted are wanted_is = (
    6,
    omega arith,
    ap (λ (h : TreeHead). want (node_place form.id 0) h.first (slice_index (leaves_in tree) 0)) is ∙ ap (λ (l : List ℕ). want (node_place form.id 0) head.shape.first (slice_index l 0)) are
        ∙ ap (want (node_place form.id 0) head.shape.first) (sym wanted_is),
  )

  pub in_last : (list : List ℕ) (wanted : ℕ) → leaves_in tree ≡ list → wanted ≡ slice_index list (length list - 1) → Wants (want (node_place form.id 0) head.shape.last wanted)
  in_last list wanted are wanted_is = (
    7,
    omega arith,
    ap (λ (h : TreeHead). want (node_place form.id 0) h.last (slice_index (leaves_in tree) (length (leaves_in tree) - 1))) is
        ∙ ap (λ (l : List ℕ). want (node_place form.id 0) head.shape.last (slice_index l (length l - 1))) are ∙ ap (want (node_place form.id 0) head.shape.last) (sym wanted_is),
  )

  pub in_records : (records : ℕ) → length (leaves tree.nodes tree.head.root (levels_in tree)) ≡ records → Wants (want (node_place form.id 0) head.shape.leaf_records records)
  in_records records are = (
    8,
    omega arith,
    ap (λ (h : TreeHead). want (node_place form.id 0) h.leaf_records (length (leaves tree.nodes tree.head.root (levels_in tree)))) is ∙ ap (want (node_place form.id 0) head.shape.leaf_records) are,
  )

  pub in_total : (least : ℕ) → least ≡ max head.shape.total 1 → Wants (want (node_place form.id 0) head.shape.total least)
  in_total least least_is = (9, omega arith, ap (λ (h : TreeHead). want (node_place form.id 0) h.total (max h.total 1)) is ∙ ap (want (node_place form.id 0) head.shape.total) (sym least_is))

  pub in_bits : (bytes most : ℕ) → length tree.map ≡ bytes → most ≡ min head.shape.total (8 * bytes) → Wants (want (node_place form.id 0) head.shape.total most)
  in_bits bytes most bytes_are most_is = (
    10,
    omega arith,
    ap (λ (h : TreeHead). want (node_place form.id 0) h.total (min h.total (8 * length tree.map))) is ∙ ap (λ n. want (node_place form.id 0) head.shape.total (min head.shape.total (8 * n))) bytes_are
        ∙ ap (want (node_place form.id 0) head.shape.total) (sym most_is),
  )

  pub in_free : (used left : ℕ) → count_by (is_in_use tree) (range_with_len 0 tree.head.total) ≡ used → left ≡ head.shape.total - used → Wants (want (node_place form.id 0) head.shape.free left)
  in_free used left used_is left_is = (
    11,
    omega arith,
    ap (λ (h : TreeHead). want (node_place form.id 0) h.free (h.total - count_by (is_in_use tree) (range_with_len 0 tree.head.total))) is ∙ ap (λ n. want (node_place form.id 0) head.shape.free (head.shape.total - n)) used_is
        ∙ ap (want (node_place form.id 0) head.shape.free) (sym left_is),
  )
