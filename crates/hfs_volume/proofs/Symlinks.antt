-- `symlink`: a sound volume stays sound, and its tree is the step's.
use Rattle.std.proofs.Common.{◌≡◌, ℕ, zero, suc, ◌+◌, ◌==◌, ◌%◌, ◌++◌, Bool, true, false, List, [], ◌∷◌, length, map, drop, inl, inr, refl, sym, ◌∙◌, ap, subst, arith, append-nil}
use Rattle.std.specs.Prelude.{Contains, ◌&&◌, ◌||◌, not, Result, Ok, if◌then◌else◌}
use Rattle.std.proofs.lemmas.Bool.{eqb-true}
use Rattle.cat_records.specs.declared.record.CatRecord.{CatRecord}
use Rattle.cat_records.specs.declared.record.CatRecord.TheVariants.{Folder, File, Thread}
use Rattle.cat_records.specs.declared.record.EntryFields.{EntryFields}
use Rattle.hfs_language.specs.declared.refusal.Refusal.{Refusal}
use Rattle.hfs_language.specs.declared.refusal.Refusal.TheVariants as refusal
use Rattle.hfs_language.specs.declared.reply.Reply.TheVariants as reply
use Rattle.hfs_model.specs.Kinds.{made_link, new_link}
use Rattle.hfs_model.specs.Plain.{is_node, node_before}
use Rattle.hfs_model.specs.Sorted.{put_before}
use Rattle.hfs_model.specs.Step.{Place, is_private_path, last_name, on, to_make, unless, with_bytes}
use Rattle.hfs_model.specs.Targets.{is_target}
use Rattle.hfs_model.specs.declared.plain.PlainNode.{PlainNode}
use Rattle.hfs_model.specs.declared.plain.PlainTree.{PlainTree}
use Rattle.volume_header.specs.declared.header.VolumeHeader.{VolumeHeader}
use Rattle.hfs_volume.specs.Commands.{AreBytesOf, AreNewFields, entry_in, with_made}
use Rattle.hfs_volume.specs.Content.{VolumeState, attributes_of, records_of}
use Rattle.hfs_volume.specs.Forks.{data_kind, forks_in, overflow_in}
use Rattle.hfs_volume.specs.Kinds.{IsNewLink, MakesLink, SymlinkDoes, link_mode}
use Rattle.hfs_volume.specs.Laws.{AreEmptyForks, Joins}
use Rattle.hfs_volume.specs.Records.{Attribute, Overflow, id_in, id_of, is_empty}
use Rattle.hfs_volume.specs.Sound.{IsSoundVolume}
use Rattle.hfs_volume.specs.TreeOf.{BytesOf, ForkBytes, empty_forks, is_linked, plain_attributes, plain_node, tree_in, type_bits_in, valued}
use Rattle.hfs_volume.specs.Writing.{MakesBytes, written_bytes}
use Rattle.hfs_volume.proofs.Fields.{dated}
use Rattle.hfs_volume.proofs.Finishing.{empty_of_file, enters_does}
use Rattle.hfs_volume.proofs.Fitting.{not_same}
use Rattle.hfs_volume.proofs.InOrder.{put_stands}
use Rattle.hfs_volume.proofs.Making.{Enters, NewFacts, joins_made, made_as}
use Rattle.hfs_volume.proofs.Members.{at_front, behind, first_or_later}
use Rattle.hfs_volume.proofs.NodesOf.{nodes_from}
use Rattle.hfs_volume.proofs.Reaching.{then_ok, unless_ok}
use Rattle.hfs_volume.proofs.Refielding.{moment_is}
use Rattle.hfs_volume.proofs.Seeing.{same_number}
use Rattle.hfs_volume.proofs.Telling.{nodes_are}
use Rattle.hfs_volume.proofs.WritLaw.{IsFileNode, data_alone, file_node, rewritten_forks, rewritten_sound}

-- ---- a link without its target

-- a link as it is made, before it has its target
abbrev pub bare_link : ℕ → ℕ → PlainNode
bare_link id moment = new_link id moment []

link_node : (attributes : List Attribute) (given moment : ℕ) (fields : EntryFields) (bytes : ForkBytes) (linked : Bool) → AreNewFields given link_mode moment fields
    → plain_attributes attributes fields.id ≡ [] → bytes ≡ empty_forks → linked ≡ false → plain_node attributes fields false bytes linked ≡ bare_link given moment
link_node attributes given moment fields bytes linked are none no_bytes not_linked = λ i. record {
  id = are.id i;
  folder = false;
  type_bits = ap type_bits_in are.mode i;
  mode = ap (λ m. m % 4096) are.mode i;
  created = are.created i;
  changed = are.changed i;
  attribute = are.attribute i;
  attributes = none i;
  bytes = ap (λ (b : ForkBytes). b.data_bytes) no_bytes i;
  resource = ap (λ (b : ForkBytes). b.resource_bytes) no_bytes i;
  linked = not_linked i;
}

link_facts : (given moment : ℕ) (bytes_of : BytesOf) (value : CatRecord) → AreBytesOf bytes_of → IsNewLink given moment value → NewFacts false given (bare_link given moment) bytes_of value
link_facts given moment bytes_of (File f) are is = record {
  kind = refl;
  is_a = refl;
  is_file_ = refl;
  id = is.0.id;
  no_link = λ parent name. is.2;
  valence = refl;
  node = λ attributes records placed none seen not_link not_linked.
      (λ i. if (seen i && not (not_link i)) || not_linked i then plain_node attributes f.fields false (bytes_of.file f) (is_linked records placed) ∷ [] else [])
      ∙ ap (λ n. n ∷ []) (link_node attributes given moment f.fields (bytes_of.file f) (is_linked records placed) is.0 none (are.none f is.3.size is.4.size) not_linked);
}
link_facts given moment bytes_of (Folder f) are is = absurd is
link_facts given moment bytes_of (Thread f) are is = absurd is

link_forks : (given moment : ℕ) (head : VolumeHeader) (overflow : List Overflow) (value : CatRecord) → IsNewLink given moment value → ((kind : ℕ) → overflow_in overflow (id_in value) kind ≡ []) → AreEmptyForks head overflow (forks_in value)
link_forks given moment head overflow (File f) is none = empty_of_file head overflow f is.3 is.4 none
link_forks given moment head overflow (Folder f) is none = absurd is
link_forks given moment head overflow (Thread f) is none = absurd is

-- ---- a change of an item that was put into a list

put_mapped : {X Y : Type 0} (h k : X → Y) (before : X → X → Bool) (x other : X) (ys : List X) → h x ≡ k other → ((y : X) → Contains ys y → h y ≡ k y) → ((y : X) → before x y ≡ before other y)
    → map h (put_before before x ys) ≡ map k (put_before before other ys)
put_mapped h k before x other [] one each same = ap (λ z. z ∷ []) one
put_mapped {X} {Y} h k before x other (y ∷ ys) one each same =
    by_test (before x y) (put_mapped h k before x other ys one (λ z there. each z (behind y z ys there)) same)
    ∙ ap (λ b. map k (if b then other ∷ y ∷ ys else y ∷ put_before before other ys)) (same y)
  where
    all : (zs : List X) → ((z : X) → Contains zs z → h z ≡ k z) → map h zs ≡ map k zs
    all [] alike = refl
    all (z ∷ zs) alike = λ i. alike z (at_front z zs) i ∷ all zs (λ w there. alike w (behind z w zs there)) i

    by_test : (b : Bool) → map h (put_before before x ys) ≡ map k (put_before before other ys) → map h (if b then x ∷ y ∷ ys else y ∷ put_before before x ys) ≡ map k (if b then other ∷ y ∷ ys else y ∷ put_before before other ys)
    by_test true rest = λ i. one i ∷ all (y ∷ ys) each i
    by_test false rest = λ i. each y (at_front y ys) i ∷ rest i

mapped_twice : {X : Type 0} (first second : X → X) (xs : List X) → map second (map first xs) ≡ map (λ x. second (first x)) xs
mapped_twice first second [] = refl
mapped_twice first second (x ∷ xs) = ap (λ l. second (first x) ∷ l) (mapped_twice first second xs)

mapped_there : {X : Type 0} (change : X → X) (xs : List X) (x : X) → Contains xs x → change x ≡ x → Contains (map change xs) x
mapped_there change [] x none same = absurd (omega (arith, none.1))
mapped_there {X} change (y ∷ ys) x there same = elim (first_or_later y x ys there) [
  | inl is ↦ subst (λ z. Contains (change y ∷ map change ys) z) (ap change (sym is) ∙ same) (at_front (change y) (map change ys))
  | inr later ↦ behind (change y) x (map change ys) (mapped_there change ys x later same)
]

abbrev no_bytes : List ℕ
no_bytes = []

-- what is written from the front of no bytes
from_nothing : (value : List ℕ) → written_bytes 0 value [] ≡ value
from_nothing value = ap (λ l. value ++ l) (none_left (0 + length value)) ∙ append-nil value
  where
    none_left : (n : ℕ) → drop n no_bytes ≡ no_bytes
    none_left zero = refl
    none_left (suc n) = refl

-- ---- the two changes together

module _ (path : List (List ℕ)) (value : List ℕ) (at : Place) (fresh : List ℕ) (old new : VolumeState) (bytes_of bytes_after : BytesOf) (are : AreBytesOf bytes_of) (after : AreBytesOf bytes_after) (sound : IsSoundVolume old)
    (not_private : is_private_path path ≡ false) (named : is_empty (last_name path) ≡ false) (allowed : to_make (tree_in old bytes_of) path ≡ Ok at)
    (does : MakesLink at fresh old new) (makes : MakesBytes (written_bytes 0 value) does.writes bytes_of bytes_after) where
  abbrev given : ℕ
  given = old.head.next_catalog_id

  abbrev moment : ℕ
  moment = old.head.modify_date

  abbrev tree : PlainTree
  tree = tree_in old bytes_of

  abbrev node : PlainNode
  node = bare_link given moment

  abbrev enters : Enters false at old does.made
  enters = record { value = does.value; added = does.added; adds = does.adds; sorted = does.sorted; counts = does.counts }

  facts : NewFacts false given node bytes_of enters.value
  facts = link_facts given moment bytes_of does.value are does.is_new

  joins : Joins (entry_in at enters.value) (records_of old)
  joins = joins_made false path at old does.made bytes_of are sound not_private named node enters facts allowed

  entered : IsSoundVolume does.made × (tree_in does.made bytes_of ≡ made_as false node at tree)
  entered = enters_does false path at old does.made bytes_of are sound not_private named allowed node enters facts (λ overflow none. link_forks given moment (with_made false old.head) overflow does.value does.is_new none)

  -- the folder has another CNID
  apart : is_node at.folder node ≡ false
  apart = by_test (given == at.folder) refl
    where
      by_test : (b : Bool) → (given == at.folder) ≡ b → b ≡ false
      by_test false is = refl
      by_test true is = absurd (not_same (id_of joins.folder.0) (id_of (entry_in at enters.value)) (joins.fresh joins.folder.0 joins.folder.1) (joins.folder.3 ∙ sym (eqb-true given at.folder is) ∙ sym facts.id))

  -- and so does each folder and file
  others : (n : PlainNode) → Contains tree.nodes n → is_node given n ≡ false
  others n stands =
      let it = nodes_from (valued bytes_of (attributes_of old)) bytes_of (records_of old) n (subst (λ l. Contains l n) (nodes_are old bytes_of) stands) in
      (λ i. it.id i == sym facts.id i) ∙ joins.fresh it.entry it.stands

  abbrev dates : PlainNode → PlainNode
  dates n = if is_node at.folder n then dated tree.moment n else n

  stays : dates node ≡ node
  stays = ap (λ b. if b then dated tree.moment node else node) apart

  there : Contains (tree_in does.made bytes_of).nodes node
  there = subst (λ (t : PlainTree). Contains t.nodes node) (sym entered.1) (mapped_there dates (put_before node_before node tree.nodes) node (put_stands node_before node tree.nodes) stays)

  it : IsFileNode does.made bytes_of node
  it = file_node does.made bytes_of node there refl

  tree_moment : tree.moment ≡ moment
  tree_moment = moment_is old bytes_of

  abbrev filled : ℕ → PlainNode → PlainNode
  filled now n = record n { bytes = value; changed = now; attribute = now }

  abbrev fills : ℕ → PlainNode → PlainNode
  fills now n = if is_node given n then filled now n else n

  -- a link is made with its bytes
  one : fills tree.moment (dates node) ≡ dates (new_link given moment value)
  one =
      ap (fills tree.moment) stays
      ∙ ap (λ b. if b then filled tree.moment node else node) (same_number given)
      ∙ (λ i. filled (tree_moment i) node)
      ∙ sym (ap (λ b. if b then dated tree.moment (new_link given moment value) else new_link given moment value) apart)

  each : (n : PlainNode) → Contains tree.nodes n → fills tree.moment (dates n) ≡ dates n
  each n stands = by_test (is_node at.folder n)
    where
      by_test : (b : Bool) → fills tree.moment (if b then dated tree.moment n else n) ≡ (if b then dated tree.moment n else n)
      by_test true = ap (λ b. if b then filled tree.moment (dated tree.moment n) else dated tree.moment n) (others n stands)
      by_test false = ap (λ b. if b then filled tree.moment n else n) (others n stands)

  nodes : map (fills tree.moment) (map dates (put_before node_before node tree.nodes)) ≡ map dates (put_before node_before (new_link given moment value) tree.nodes)
  nodes =
      mapped_twice dates (fills tree.moment) (put_before node_before node tree.nodes)
      ∙ put_mapped (λ n. fills tree.moment (dates n)) dates node_before node (new_link given moment value) tree.nodes one each (λ y. refl)

  both : with_bytes given value (made_as false node at tree) ≡ made_as false (new_link given moment value) at tree
  both = λ i. record (made_as false node at tree) { nodes = nodes i }

  pub link_sound : IsSoundVolume new
  link_sound = rewritten_sound (written_bytes 0 value) node data_kind 0 0 fresh does.made new bytes_of bytes_after after entered.0 it does.writes makes

  pub link_tree : tree_in new bytes_after ≡ made_as false (new_link given moment value) at tree
  link_tree =
      rewritten_forks (written_bytes 0 value) node data_kind 0 0 fresh does.made new bytes_of bytes_after after entered.0 it does.writes makes
      ∙ data_alone (written_bytes 0 value) node data_kind 0 0 fresh does.made new bytes_of bytes_after after entered.0 it does.writes makes
      ∙ ap (λ bytes. with_bytes given bytes (tree_in does.made bytes_of)) (from_nothing value)
      ∙ ap (with_bytes given value) entered.1
      ∙ both

-- the numbers of the tree are the header's
linked_as : (value : List ℕ) (at : Place) (old : VolumeState) (bytes_of : BytesOf) → made_as false (new_link old.head.next_catalog_id old.head.modify_date value) at (tree_in old bytes_of) ≡ made_link at value (tree_in old bytes_of)
unfolding tree_in
linked_as value at old bytes_of = refl

abbrev stepped : PlainTree → List ℕ → Result Place Refusal → PlainTree
stepped tree value r = (on tree r (λ at. (reply.Ok, made_link at value tree))).1

pub symlink_law : SymlinkDoes
symlink_law path value at fresh old new bytes_of bytes_after are after sound not_private named allowed does makes =
    let tree = tree_in old bytes_of in
    let first = then_ok (to_make tree path) (unless (not (is_target value)) refusal.BadTarget) at allowed in
    let same : first.0 ≡ at = (unless_ok (not (is_target value)) refusal.BadTarget first.0 at first.2).1 in
    let may : to_make tree path ≡ Ok at = first.1 ∙ ap Ok same in (
      link_sound path value at fresh old new bytes_of bytes_after are after sound not_private named may does makes,
      link_tree path value at fresh old new bytes_of bytes_after are after sound not_private named may does makes
          ∙ linked_as value at old bytes_of
          ∙ sym (ap (stepped tree value) allowed),
    )
