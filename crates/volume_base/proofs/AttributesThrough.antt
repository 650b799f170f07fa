-- Edits of the attributes' tree through a store over a space, as edits of its file.
use Rattle.std.proofs.Common.{◌≡◌, ◌≤◌, ℕ, List, [], IsTrue, sym, ◌∙◌, ap, subst}
use Rattle.std.specs.Prelude.{Result, Ok, Err, OnOk}
use Rattle.std.specs.Result.{IsErrAnd}
use Rattle.std.proofs.lemmas.Result.{err_from_is_err_and}
use Rattle.hx_bytes.specs.declared.faults.Trouble.{Trouble}
use Rattle.sector_disk.specs.Space.{Space}
use Rattle.attributes.specs.Frame.{IsEditable}
use Rattle.attributes.specs.Values.{AreValued}
use Rattle.btree_edit.specs.Causes.{HasTroubleCause}
use Rattle.btree_edit.specs.Desk.{IsDeskOf}
use Rattle.btree_edit.specs.Edits.{TakesAtMost, TakesEdits}
use Rattle.btree_edit.specs.declared.desk.Desk.{Desk}
use Rattle.btree_node.specs.Keys.{IsAttrKey, anything, attr_cmp}
use Rattle.btree_node.specs.Tree.{IsTree, pairs_of}
use Rattle.btree_node.specs.TreeFile.{attributes_form, shape_of, tree_head}
use Rattle.btree_file.specs.Frame.{FollowsOn}
use Rattle.btree_file.specs.Standing.{pairs_in}
use Rattle.btree_file.specs.State.{Agrees, sectors_of_tree, state_of}
use Rattle.btree_file.specs.declared.tree.TreeFile.{TreeFile}
use Rattle.btree_file.proofs.StandingLaws.{pairs_held, tree_held}
use Rattle.hfs_volume.specs.Changes.{AreSortedAttributes}
use Rattle.hfs_volume.specs.Content.{has_attributes}
use Rattle.volume_base.specs.AttributesFile.{EditsAttributes, IsAttributesFile}
use Rattle.volume_base.specs.Lists.{lists_of}
use Rattle.volume_base.specs.Standing.{StandsOver}
use Rattle.volume_base.specs.declared.volume.Volume.{Volume}
use Rattle.volume_base.proofs.AttributesEdited.{attributes_open, holds_again, pairs_where}
use Rattle.volume_base.proofs.EditsOn.{edits_renamed, pairs_again, takes_renamed}
use Rattle.volume_base.proofs.Framed.{handed}

-- a volume that has attributes holds their file
pub attributes_ready : {volume : Volume} {space : Space} → StandsOver volume space → IsTrue (has_attributes volume.header) → 4096 ≤ volume.attributes.file.shape.node_size → (IsTrue space.tells → AreValued (lists_of volume space.content).attribute_pairs)
    → IsAttributesFile volume.attributes.file volume.attributes.desk space
attributes_ready {volume} {space} stands has size values = record {
  desk = stands.service.attributes.desk;
  size = size;
  inside = stands.service.attributes.inside;
  open_sectors = attributes_open volume space has stands;
  holds = λ tells. (stands.stands tells).trees.attributes has;
  values = λ tells. subst AreValued (pairs_where volume space.content has) (values tells);
}

-- a store over it is a tree that may be edited, with the records of values
pub editable_through : (names : List ℕ) {tree : TreeFile} {desk : Desk} {space : Space} → IsAttributesFile tree desk space → IsEditable IsAttrKey attr_cmp 4096 (state_of names tree space) desk
editable_through names {tree} {desk} {space} ready = record {
  size = ready.size;
  desk = ready.desk;
  tree = λ tells. tree_held attributes_form IsAttrKey anything attr_cmp names tree space (ready.holds tells);
}

pub pairs_through : {tree : TreeFile} {desk : Desk} {space : Space} → IsAttributesFile tree desk space → IsTrue space.tells → pairs_of (state_of [] tree space) ≡ pairs_in (sectors_of_tree tree) space.content
pairs_through {tree} {desk} {space} ready tells = pairs_held attributes_form IsAttrKey anything attr_cmp [] tree space (ready.holds tells)

pub valued_through : {tree : TreeFile} {desk : Desk} {space : Space} → IsAttributesFile tree desk space → IsTrue space.tells → AreValued (pairs_of (state_of [] tree space))
valued_through ready tells = subst AreValued (sym (pairs_through ready tells)) (ready.values tells)

-- what the edits did to the store, they did to the file
pub edits_through : {S A : Type 0} {edits : ℕ} {was desk : Desk} (space_of : S → Space) (follows : S → S → Type 0) (first later : List ℕ) (before after : TreeFile) (old new : S) (result : Result A Trouble) → IsAttributesFile before was (space_of old)
    → FollowsOn before after (space_of old) (space_of new) × follows old new → (space_of new).tells ≡ (space_of old).tells → (IsTrue (space_of new).tells → Agrees after (space_of new).content) → IsDeskOf before.shape.node_size desk
    → TakesAtMost edits 266 (state_of first before (space_of old)) (state_of later after (space_of new)) → OnOk result (TakesEdits edits 266 (state_of first before (space_of old)) (state_of later after (space_of new)))
    → (IsTrue (space_of old).tells → OnOk result (IsTree IsAttrKey attr_cmp (state_of later after (space_of new))))
    → (IsTrue (space_of old).tells → shape_of (tree_head before.header) ≡ before.shape → OnOk result (shape_of (tree_head after.header) ≡ after.shape))
    → (IsTrue (space_of old).tells → OnOk result (AreSortedAttributes (pairs_of (state_of later after (space_of new))))) → HasTroubleCause (space_of old).faults (space_of new).faults result
    → EditsAttributes space_of follows edits before after desk old new result
edits_through {S} {A} {edits} {was} {desk} space_of follows first later before after old new result ready passed same agrees fits takes made tree header sorted cause = record {
  below = passed.1;
  cause = cause;
  frame = passed.0;
  desk = subst (λ n. IsDeskOf n desk) (sym passed.0.file.node_size) fits;
  takes = λ names. takes_renamed first later names before after (space_of old) (space_of new) edits 266 takes;
  edits = λ names. edits_renamed first later names before after (space_of old) (space_of new) edits 266 result made;
  holds = λ tells. holds_again later before after (space_of old) (space_of new) tells passed.0 result (ready.holds tells) (agrees (same ∙ tells)) (header tells (ready.holds tells).stands.settled) (tree tells);
  sorted = λ tells. pairs_again [] before after (space_of old) (space_of new) tells passed.0 (λ answer old_pairs new_pairs. AreSortedAttributes new_pairs) result (ready.holds tells).stands (agrees (same ∙ tells)) (header tells (ready.holds tells).stands.settled) (sorted tells);
}

module _ {S T U : Type 0} {space_of : S → Space} {follows : S → S → Type 0} {edits : ℕ} {before after : TreeFile} {desk : Desk} {old new : S} where
  -- another answer is given, or the fault is handed on
  pub through_ok : {x : T} {y : U} → EditsAttributes space_of follows edits before after desk old new (Ok x) → EditsAttributes space_of follows edits before after desk old new (Ok y)
  through_ok was = record {
    below = was.below;
    cause = record { later = was.cause.later; failed = tt };
    frame = was.frame;
    desk = was.desk;
    takes = was.takes;
    edits = was.edits;
    holds = was.holds;
    sorted = was.sorted;
  }

  pub through_err : {e : Trouble} {q : Result U Trouble} → IsErrAnd q (λ y. y ≡ e) → EditsAttributes {T = T} space_of follows edits before after desk old new (Err e) → EditsAttributes space_of follows edits before after desk old new q
  through_err {e} {q} failed was =
      let p = err_from_is_err_and q failed in
      subst (λ (r : Result U Trouble). EditsAttributes space_of follows edits before after desk old new r) (sym (p.1 ∙ ap Err p.2)) (record {
        below = was.below;
        cause = handed {T = T} {U = U} e (space_of old).faults (space_of new).faults was.cause;
        frame = was.frame;
        desk = was.desk;
        takes = was.takes;
        edits = λ names. tt;
        holds = λ tells. tt;
        sorted = λ tells. tt;
      })
