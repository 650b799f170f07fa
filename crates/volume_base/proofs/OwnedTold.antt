-- What `setattr` and `delattr` answer.
use Rattle.std.proofs.Common.{◌≡◌, ◌<◌, ◌≤◌, ℕ, Bool, true, false, List, length, refl, sym, ◌∙◌, ap, subst}
use Rattle.std.specs.Prelude.{Contains, ◌||◌, ◌==◌, IsTrue, IfOk, IfSome, not, nat_lt, Option, Some, None, Result, Ok, Err, if◌then◌else◌}
use Rattle.std.specs.Option.{ok_or, option_map}
use Rattle.std.proofs.lemmas.Bool.{lt-ltb, le-ltb}
use Rattle.sector_disk.specs.Lists.{Content}
use Rattle.attributes.specs.Owned.{names_of}
use Rattle.attributes.specs.Values.{value_at}
use Rattle.btree_node.specs.Levels.{Pair}
use Rattle.hfs_language.specs.Written.{FitsPath}
use Rattle.hfs_language.specs.declared.command.Command.TheVariants as command
use Rattle.hfs_language.specs.declared.refusal.Refusal.{Refusal}
use Rattle.hfs_language.specs.declared.refusal.Refusal.TheVariants as refusal
use Rattle.hfs_language.specs.declared.reply.Reply.{Reply}
use Rattle.hfs_language.specs.declared.reply.Reply.TheVariants as reply
use Rattle.hfs_model.specs.Plain.{attribute_at, with_attribute, without_attribute, with_changed}
use Rattle.hfs_model.specs.Step.{is_private_path, marked, most_attribute, on, step, step_line, then_, to_attribute, to_node, to_set, unless}
use Rattle.hfs_model.specs.declared.plain.PlainAttribute.{PlainAttribute}
use Rattle.hfs_model.specs.declared.plain.PlainNode.{PlainNode}
use Rattle.hfs_model.specs.declared.plain.PlainTree.{PlainTree}
use Rattle.hfs_volume.specs.Books.{SoundHasPlainTree}
use Rattle.hfs_volume.specs.Content.{VolumeState, has_attributes}
use Rattle.hfs_volume.specs.TreeOf.{tree_of}
use Rattle.volume_header.specs.declared.header.VolumeHeader.{VolumeHeader}
use Rattle.volume_base.specs.Attributing.{others_owned, set_answer}
use Rattle.volume_base.specs.Lists.{lists_of}
use Rattle.attributes.specs.declared.value.ValueAt.{ValueAt}
use Rattle.jnl_format.specs.Recovery.{header_of_volume}
use Rattle.volume_base.specs.Values.{bytes_of_value, size_of_value, value_told}
use Rattle.volume_base.specs.Owning.{owner_in}
use Rattle.volume_base.specs.Standing.{HoldsTrees, IsSettled}
use Rattle.volume_base.specs.declared.volume.Volume.{Volume}
use Rattle.volume_base.proofs.Listed.{told_value}
use Rattle.volume_base.proofs.ToNode.{node_there}

-- a volume whose attributes file is empty has none
pub has_not : (h : VolumeHeader) → h.attributes_fork.logical_size ≡ 0 → has_attributes h ≡ false
has_not h is = ap (λ n. not (n == 0)) is

-- where there is an answer, this holds
pub all_so : {A E : Type 0} {P : Type 0} (result : Result (Option A) E) → P → IfOk result (λ said. IfSome said (λ more. P))
all_so (Ok None) holds = tt
all_so (Ok (Some more)) holds = holds
all_so (Err why) holds = tt

-- ---- `setattr`

refuses : (has : Bool) (why : Refusal) → reply.No why ≡ set_answer has (reply.No why)
refuses true why = refl
refuses false why = refl

abbrev set_step : PlainTree → List ℕ → List ℕ → Result PlainNode Refusal → Reply × PlainTree
set_step tree name value r = on tree r (λ node. (reply.Ok, marked node.id (with_changed node.id (with_attribute name value) tree)))

module _ (tree : PlainTree) (path : List (List ℕ)) (name value : List ℕ) where
  pub set_private : (has : Bool) → is_private_path path ≡ true
      → (reply.No refusal.Private ≡ set_answer has (step_line tree (Ok (command.SetAttr path name value))).0) × (tree ≡ (step_line tree (Ok (command.SetAttr path name value))).1)
  set_private has own =
      let line = ap (λ b. if b || false then (reply.No refusal.Private, tree) else step tree (command.SetAttr path name value)) own in
      (refuses has refusal.Private ∙ sym (ap (λ (s : Reply × PlainTree). set_answer has s.0) line), sym (ap (λ (s : Reply × PlainTree). s.1) line))

  module _ (not_own : is_private_path path ≡ false) where
    set_line : step_line tree (Ok (command.SetAttr path name value)) ≡ step tree (command.SetAttr path name value)
    set_line = ap (λ b. if b || false then (reply.No refusal.Private, tree) else step tree (command.SetAttr path name value)) not_own

    pub set_tree : (step tree (command.SetAttr path name value)).1 ≡ (step_line tree (Ok (command.SetAttr path name value))).1
    set_tree = sym (ap (λ (s : Reply × PlainTree). s.1) set_line)

    pub set_by : (r : Result PlainNode Refusal) → to_set tree path value ≡ r → step_line tree (Ok (command.SetAttr path name value)) ≡ set_step tree name value r
    set_by r is = set_line ∙ ap (set_step tree name value) is

    set_why : (has : Bool) (why : Refusal) → to_set tree path value ≡ Err why
        → (reply.No why ≡ set_answer has (step_line tree (Ok (command.SetAttr path name value))).0) × (tree ≡ (step_line tree (Ok (command.SetAttr path name value))).1)
    set_why has why is = (refuses has why ∙ sym (ap (λ (s : Reply × PlainTree). set_answer has s.0) (set_by (Err why) is)), sym (ap (λ (s : Reply × PlainTree). s.1) (set_by (Err why) is)))

    pub set_refused : (has : Bool) (why : Refusal) → to_node tree path ≡ Err why
        → (reply.No why ≡ set_answer has (step_line tree (Ok (command.SetAttr path name value))).0) × (tree ≡ (step_line tree (Ok (command.SetAttr path name value))).1)
    set_refused has why is = set_why has why (ap (λ r. then_ r (λ n. unless (nat_lt most_attribute (length value)) refusal.AttributeTooLarge n)) is)

    to_set_by : (node : PlainNode) (b : Bool) → to_node tree path ≡ Ok node → nat_lt most_attribute (length value) ≡ b → to_set tree path value ≡ unless b refusal.AttributeTooLarge node
    to_set_by node b is long = ap (λ r. then_ r (λ n. unless (nat_lt most_attribute (length value)) refusal.AttributeTooLarge n)) is ∙ ap (λ t. unless t refusal.AttributeTooLarge node) long

    pub set_too_large : (has : Bool) (node : PlainNode) → to_node tree path ≡ Ok node → most_attribute < length value
        → (reply.No refusal.AttributeTooLarge ≡ set_answer has (step_line tree (Ok (command.SetAttr path name value))).0) × (tree ≡ (step_line tree (Ok (command.SetAttr path name value))).1)
    set_too_large has node is long = set_why has refusal.AttributeTooLarge (to_set_by node true is (lt-ltb most_attribute (length value) long))

    pub set_allowed : (node : PlainNode) → to_node tree path ≡ Ok node → length value ≤ most_attribute → to_set tree path value ≡ Ok node
    set_allowed node is long = to_set_by node false is (le-ltb most_attribute (length value) long)

    pub set_lacks : (has : Bool) → has ≡ false → (node : PlainNode) → to_node tree path ≡ Ok node → length value ≤ most_attribute → reply.No refusal.NoTree ≡ set_answer has (step_line tree (Ok (command.SetAttr path name value))).0
    set_lacks has none node is long = sym (ap (λ b. set_answer b (step_line tree (Ok (command.SetAttr path name value))).0) none ∙ ap (λ (s : Reply × PlainTree). set_answer false s.0) (set_by (Ok node) (set_allowed node is long)))

    pub set_replied : (has : Bool) → has ≡ true → (node : PlainNode) → to_node tree path ≡ Ok node → length value ≤ most_attribute → reply.Ok ≡ set_answer has (step_line tree (Ok (command.SetAttr path name value))).0
    set_replied has some node is long = sym (ap (λ b. set_answer b (step_line tree (Ok (command.SetAttr path name value))).0) some ∙ ap (λ (s : Reply × PlainTree). s.0) (set_by (Ok node) (set_allowed node is long)))

-- ---- `delattr`

abbrev delete_step : PlainTree → List ℕ → Result (PlainNode × PlainAttribute) Refusal → Reply × PlainTree
delete_step tree name r = on tree r (λ pair. (reply.Ok, marked pair.0.id (with_changed pair.0.id (without_attribute name) tree)))

module _ (tree : PlainTree) (path : List (List ℕ)) (name : List ℕ) where
  pub delete_private : is_private_path path ≡ true → (reply.No refusal.Private ≡ (step_line tree (Ok (command.DelAttr path name))).0) × (tree ≡ (step_line tree (Ok (command.DelAttr path name))).1)
  delete_private own =
      let line = ap (λ b. if b || false then (reply.No refusal.Private, tree) else step tree (command.DelAttr path name)) own in
      (sym (ap (λ (s : Reply × PlainTree). s.0) line), sym (ap (λ (s : Reply × PlainTree). s.1) line))

  module _ (not_own : is_private_path path ≡ false) where
    delete_line : step_line tree (Ok (command.DelAttr path name)) ≡ step tree (command.DelAttr path name)
    delete_line = ap (λ b. if b || false then (reply.No refusal.Private, tree) else step tree (command.DelAttr path name)) not_own

    pub delete_tree : (step tree (command.DelAttr path name)).1 ≡ (step_line tree (Ok (command.DelAttr path name))).1
    delete_tree = sym (ap (λ (s : Reply × PlainTree). s.1) delete_line)

    by_delete : (r : Result (PlainNode × PlainAttribute) Refusal) → to_attribute tree path name ≡ r → step_line tree (Ok (command.DelAttr path name)) ≡ delete_step tree name r
    by_delete r is = delete_line ∙ ap (delete_step tree name) is

    delete_why : (why : Refusal) → to_attribute tree path name ≡ Err why → (reply.No why ≡ (step_line tree (Ok (command.DelAttr path name))).0) × (tree ≡ (step_line tree (Ok (command.DelAttr path name))).1)
    delete_why why is = (sym (ap (λ (s : Reply × PlainTree). s.0) (by_delete (Err why) is)), sym (ap (λ (s : Reply × PlainTree). s.1) (by_delete (Err why) is)))

    abbrev found_in : Result PlainNode Refusal → Result (PlainNode × PlainAttribute) Refusal
    found_in r = then_ r (λ node. then_ (ok_or (attribute_at node name) refusal.NoAttribute) (λ attribute. Ok (node, attribute)))

    pub delete_refused : (why : Refusal) → to_node tree path ≡ Err why → (reply.No why ≡ (step_line tree (Ok (command.DelAttr path name))).0) × (tree ≡ (step_line tree (Ok (command.DelAttr path name))).1)
    delete_refused why is = delete_why why (ap found_in is)

    pub delete_replied : (node : PlainNode) (attribute : PlainAttribute) → to_attribute tree path name ≡ Ok (node, attribute) → reply.Ok ≡ (step_line tree (Ok (command.DelAttr path name))).0
    delete_replied node attribute is = sym (ap (λ (s : Reply × PlainTree). s.0) (by_delete (Ok (node, attribute)) is))

    -- what `getattr` tells of the attribute says whether there is one
    get_line : step_line tree (Ok (command.GetAttr path name)) ≡ step tree (command.GetAttr path name)
    get_line = ap (λ b. if b || false then (reply.No refusal.Private, tree) else step tree (command.GetAttr path name)) not_own

    abbrev told_of : Result (PlainNode × PlainAttribute) Refusal → Reply
    told_of r = (on tree (then_ r (λ pair. unless (nat_lt most_attribute (length pair.1.value)) refusal.TooLarge pair)) (λ pair. (reply.Content pair.1.value, tree))).0

    -- a value that is there is told, or is too large
    not_missing : (node : PlainNode) (attribute : PlainAttribute) (b : Bool) → nat_lt most_attribute (length attribute.value) ≡ b → told_of (Ok (node, attribute)) ≡ reply.No refusal.NoAttribute → ⊥
    not_missing node attribute true long is =
        let no : reply.No refusal.TooLarge ≡ reply.No refusal.NoAttribute = sym (ap (λ b. (on {X = PlainNode × PlainAttribute} tree (unless b refusal.TooLarge (node, attribute)) (λ pair. (reply.Content pair.1.value, tree))).0) long) ∙ is in cc no
    not_missing node attribute false long is =
        let no : reply.Content attribute.value ≡ reply.No refusal.NoAttribute = sym (ap (λ b. (on {X = PlainNode × PlainAttribute} tree (unless b refusal.TooLarge (node, attribute)) (λ pair. (reply.Content pair.1.value, tree))).0) long) ∙ is in cc no

    module _ (node : PlainNode) (is : to_node tree path ≡ Ok node) where
      told_by : (o : Option PlainAttribute) → attribute_at node name ≡ o → (step_line tree (Ok (command.GetAttr path name))).0 ≡ told_of (then_ (ok_or o refusal.NoAttribute) (λ attribute. Ok (node, attribute)))
      told_by o found = ap (λ (s : Reply × PlainTree). s.0) get_line ∙ ap (λ r. told_of (found_in r)) is ∙ ap (λ p. told_of (then_ (ok_or p refusal.NoAttribute) (λ attribute. Ok (node, attribute)))) found

      pub attribute_found : (told : Reply) → (told ≡ reply.No refusal.NoAttribute → ⊥) → told ≡ (step_line tree (Ok (command.GetAttr path name))).0 → (attribute : PlainAttribute) × (to_attribute tree path name ≡ Ok (node, attribute))
      attribute_found told there is_told = by (attribute_at node name) refl
        where
          by : (o : Option PlainAttribute) → attribute_at node name ≡ o → (attribute : PlainAttribute) × (to_attribute tree path name ≡ Ok (node, attribute))
          by None found = absurd (there (is_told ∙ told_by None found))
          by (Some attribute) found = (attribute, ap found_in is ∙ ap (λ p. then_ (ok_or p refusal.NoAttribute) (λ a. Ok (node, a))) found)

      pub attribute_missing : reply.No refusal.NoAttribute ≡ (step_line tree (Ok (command.GetAttr path name))).0
          → (reply.No refusal.NoAttribute ≡ (step_line tree (Ok (command.DelAttr path name))).0) × (tree ≡ (step_line tree (Ok (command.DelAttr path name))).1)
      attribute_missing told = delete_why refusal.NoAttribute (by (attribute_at node name) refl)
        where
          by : (o : Option PlainAttribute) → attribute_at node name ≡ o → to_attribute tree path name ≡ Err refusal.NoAttribute
          by None found = ap found_in is ∙ ap (λ p. then_ (ok_or p refusal.NoAttribute) (λ a. Ok (node, a))) found
          by (Some attribute) found = absurd (not_missing node attribute (nat_lt most_attribute (length attribute.value)) refl (sym (told ∙ told_by (Some attribute) found)))

abbrev node_of : PlainNode → Result (PlainNode × PlainAttribute) Refusal → PlainNode
node_of other (Ok pair) = pair.0
node_of other (Err why) = other

-- the folder or file whose attribute was found stands in the tree
pub attribute_to_node : (tree : PlainTree) (path : List (List ℕ)) (name : List ℕ) (node : PlainNode) (attribute : PlainAttribute) → to_attribute tree path name ≡ Ok (node, attribute) → to_node tree path ≡ Ok node
attribute_to_node tree path name node attribute is = by (to_node tree path) refl is
  where
    by_found : (n : PlainNode) (o : Option PlainAttribute) → then_ {Y = PlainNode × PlainAttribute} (ok_or o refusal.NoAttribute) (λ a. Ok (n, a)) ≡ Ok (node, attribute) → n ≡ node
    by_found n None same = absurd (cc same)
    by_found n (Some a) same = ap (node_of n) same

    by : (r : Result PlainNode Refusal) → to_node tree path ≡ r → then_ {Y = PlainNode × PlainAttribute} r (λ n. then_ (ok_or (attribute_at n name) refusal.NoAttribute) (λ a. Ok (n, a))) ≡ Ok (node, attribute) → to_node tree path ≡ Ok node
    by (Err why) found same = absurd (cc same)
    by (Ok n) found same = found ∙ ap Ok (by_found n (attribute_at n name) same)

pub attribute_node : (tree : PlainTree) (path : List (List ℕ)) (name : List ℕ) (node : PlainNode) (attribute : PlainAttribute) → to_attribute tree path name ≡ Ok (node, attribute) → Contains tree.nodes node
attribute_node tree path name node attribute is = node_there tree path node (attribute_to_node tree path name node attribute is)

-- ---- by the records

value_of_others : (found : Option ValueAt) (count : ℕ) (others : Bool) → Some others ≡ option_map (λ value. nat_lt 1 count) found → (value : ValueAt) × (found ≡ Some value)
value_of_others None count others is = absurd (cc is)
value_of_others (Some value) count others is = (value, refl)

none_of_others : (found : Option ValueAt) (count : ℕ) → None ≡ option_map (λ value. nat_lt 1 count) found → found ≡ None
none_of_others None count is = refl
none_of_others (Some value) count is = absurd (cc is)

-- the reply about a value that is there isn't that there is none
value_there : (content : Content) (block : ℕ) (value : ValueAt) → value_told content block (Some value) ≡ reply.No refusal.NoAttribute → ⊥
value_there content block value = by (nat_lt most_attribute (size_of_value value))
  where
    by : (b : Bool) → (if b then reply.No refusal.TooLarge else reply.Content (bytes_of_value content block value)) ≡ reply.No refusal.NoAttribute → ⊥
    by true is = let no : reply.No refusal.TooLarge ≡ reply.No refusal.NoAttribute = is in cc no
    by false is = let no : reply.Content (bytes_of_value content block value) ≡ reply.No refusal.NoAttribute = is in cc no

module _ (law : SoundHasPlainTree) (v : Volume) (content : Content) (holds : HoldsTrees v content) (settled : IsSettled v content) (path : List (List ℕ)) (name : List ℕ) (not_own : is_private_path path ≡ false) (fits : FitsPath path) (said : Result ℕ Refusal)
    (found : said ≡ owner_in (lists_of v content).catalog_pairs v.private path) (id : ℕ) (ok : said ≡ Ok id) (node : PlainNode) (is : to_node (tree_of content) path ≡ Ok node)
  where
    abbrev pairs : List Pair
    pairs = (lists_of v content).attribute_pairs

    -- an attribute that was found is one of the tree's
    pub attribute_told : (others : Bool) → Some others ≡ others_owned (lists_of v content).attribute_pairs id name → (attribute : PlainAttribute) × (to_attribute (tree_of content) path name ≡ Ok (node, attribute))
    attribute_told others there =
        let it = value_of_others (value_at (lists_of v content).attribute_pairs id name) (length (names_of id (lists_of v content).attribute_pairs)) others there in
        attribute_found (tree_of content) path name not_own node is (value_told content (header_of_volume content).block_size (Some it.0)) (value_there content (header_of_volume content).block_size it.0)
        (told_value law v content holds settled path name not_own fits said found id (value_told content (header_of_volume content).block_size (Some it.0)) ok (ap (value_told content (header_of_volume content).block_size) (sym it.1)))

    -- and one that wasn't is none of them
    pub attribute_untold : None ≡ others_owned (lists_of v content).attribute_pairs id name
        → (reply.No refusal.NoAttribute ≡ (step_line (tree_of content) (Ok (command.DelAttr path name))).0) × (tree_of content ≡ (step_line (tree_of content) (Ok (command.DelAttr path name))).1)
    attribute_untold none =
        let it = none_of_others (value_at (lists_of v content).attribute_pairs id name) (length (names_of id (lists_of v content).attribute_pairs)) none in
        attribute_missing (tree_of content) path name not_own node is
        (told_value law v content holds settled path name not_own fits said found id (reply.No refusal.NoAttribute) ok (ap (value_told content (header_of_volume content).block_size) (sym it)))

-- where there is one, the count of all tells of others
pub others_are : (first later : List Pair) → later ≡ first → (id : ℕ) (name : List ℕ) (value : ValueAt) → Some value ≡ value_at first id name → {E : Type 0} (result : Result (Option Bool) E)
    → IfOk result (λ said. said ≡ Some (nat_lt 1 (length (names_of id later)))) → IfOk result (λ said. said ≡ others_owned first id name)
others_are first later same id name value found (Ok said) counted =
    counted ∙ ap (λ (l : List Pair). Some (nat_lt 1 (length (names_of id l)))) same ∙ ap (option_map (λ v. nat_lt 1 (length (names_of id first)))) found
others_are first later same id name value found (Err why) counted = tt
