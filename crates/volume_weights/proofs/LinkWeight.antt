-- What `ln` weighs, by what its first path stands for.
use Rattle.std.proofs.Common.{◌≡◌, ℕ, ◌+◌, ◌*◌, Bool, true, false, List, refl, sym, ◌∙◌, ap, subst}
use Rattle.std.specs.Prelude.{is_some, Option, Some, None, Result, Ok, Err, if◌then◌else◌}
use Rattle.std.specs.Option.{ok_or}
use Rattle.sector_disk.specs.Lists.{Content}
use Rattle.hfs_language.specs.Written.{FitsPath}
use Rattle.hfs_language.specs.declared.command.Command.TheVariants as command
use Rattle.hfs_language.specs.declared.refusal.Refusal.{Refusal}
use Rattle.hfs_language.specs.declared.refusal.Refusal.TheVariants as refusal
use Rattle.hfs_model.specs.Plain.{IsPlainTree, node_at}
use Rattle.hfs_model.specs.Step.{Place, reached, step_line, then_, to_link, to_ln, to_node}
use Rattle.hfs_model.specs.declared.plain.PlainEntry.{PlainEntry}
use Rattle.hfs_model.specs.declared.plain.PlainNode.{PlainNode}
use Rattle.hfs_model.specs.declared.plain.PlainTree.{PlainTree}
use Rattle.hfs_volume.specs.Books.{SoundHasPlainTree}
use Rattle.hfs_volume.specs.Content.{VolumeState, attributes_of, volume_of}
use Rattle.hfs_volume.specs.Cost.{cost_of}
use Rattle.hfs_volume.specs.TreeOf.{bytes_in, tree_in, tree_of, valued}
use Rattle.hfs_volume.specs.Weight.{Edits as Asked, edits, edits_of, folders_made, free_blocks, ln_edits, needs_for, room_with, weight, weight_with}
use Rattle.hfs_volume.proofs.Named.{to_ln_is}
use Rattle.volume_weights.specs.Linking.{first_edits, link_weighed, more_edits}
use Rattle.volume_base.specs.Lists.{lists_of}
use Rattle.volume_base.specs.Nodes.{node_in}
use Rattle.volume_base.specs.Standing.{HoldsTrees, IsSettled}
use Rattle.volume_base.specs.Weighing.{edits_weighed, joined, refused_or, weighed}
use Rattle.volume_base.specs.declared.nodes.Node.{Node}
use Rattle.volume_base.specs.declared.nodes.Node.TheVariants as node
use Rattle.volume_base.specs.declared.volume.Volume.{Volume}
use Rattle.volume_base.specs.declared.weighing.Edits.{Edits as Spent}
use Rattle.volume_base.specs.declared.weighing.Weight.{Weight}
use Rattle.volume_weights.proofs.LoseWeight.{has_private_is}
use Rattle.volume_base.proofs.Linkable.{IsFine, goal_not_own, linked_line, not_own, refused}
use Rattle.volume_base.proofs.Listed.{entries_are, nodes_are}
use Rattle.volume_base.proofs.NodeIs.{IsNode, node_same}
use Rattle.volume_base.proofs.Rising.{settled_is_plain, settled_sorted}
use Rattle.volume_base.proofs.Walked.{Agree}

abbrev link_of : PlainNode → Place → PlainNode × Place
link_of file goal = (file, goal)

abbrev node_or : PlainNode → Result PlainNode Refusal → PlainNode
node_or other (Ok n) = n
node_or other (Err why) = other

abbrev weight_or : Weight → Option Weight → Weight
weight_or other None = other
weight_or other (Some weighs) = weighs

-- the edits of a first link, in the weight's words
abbrev asked_first : Option ℕ → Asked
asked_first None = edits 3 9 0 4
asked_first (Some private) = edits 2 7 0 4

asked_is : (private : Option ℕ) → edits (2 + (if is_some private then 0 else 1)) (7 + 2 * (if is_some private then 0 else 1)) 0 4 ≡ asked_first private
asked_is None = refl
asked_is (Some private) = refl

-- the file of a link that may be made
linking_node : (tree : PlainTree) (from to : List (List ℕ)) (pair : PlainEntry × Place) (n : PlainNode) → to_ln tree from to ≡ Ok pair → reached tree from ≡ Ok pair.0 → to_node tree from ≡ Ok n → to_link tree from to ≡ Ok (link_of n pair.1)
linking_node tree from to pair n is reaches node_is =
    ap (λ (r : Result (PlainEntry × Place) Refusal). then_ r (λ p. then_ (ok_or (node_at tree p.0.id) refusal.NotFound) (λ file. Ok (link_of file p.1)))) is
    ∙ ap (λ (r : Result PlainNode Refusal). then_ r (λ file. Ok (link_of file pair.1))) (sym (ap (λ (r : Result PlainEntry Refusal). then_ r (λ at. ok_or (node_at tree at.id) refusal.NotFound)) reaches) ∙ node_is)

module _ (capacity : ℕ) (takable : List Bool) (volume : VolumeState) (tree : PlainTree) (from to : List (List ℕ)) (fine : IsFine tree from to) where
  weights : weight capacity volume tree (command.Ln from to) ≡ cost_of (needs_for (free_blocks volume) volume (edits_of tree (command.Ln from to)) None) (room_with capacity (free_blocks volume) volume)
  unfolding weight_with
  weights = refl

  takable_weights : weight_with capacity takable volume tree (command.Ln from to) ≡ cost_of (needs_for takable volume (edits_of tree (command.Ln from to)) None) (room_with capacity takable volume)
  unfolding weight_with
  takable_weights = refl

  more_allowed : edits_of tree (command.Ln from to) ≡ edits 1 2 0 4 → edits_weighed capacity takable volume more_edits ≡ weighed capacity takable volume tree (command.Ln from to)
  more_allowed asked =
      sym ((λ i. joined (weights i) (takable_weights i))
      ∙ ap (λ (k : Asked). joined (cost_of (needs_for (free_blocks volume) volume k None) (room_with capacity (free_blocks volume) volume)) (cost_of (needs_for takable volume k None) (room_with capacity takable volume))) asked)
      ∙ ap (λ said. refused_or said (joined (weight capacity volume tree (command.Ln from to)) (weight_with capacity takable volume tree (command.Ln from to)))) (linked_line tree from to fine).0

  pub first_allowed : (private : Option ℕ) → edits_of tree (command.Ln from to) ≡ asked_first private → edits_weighed capacity takable volume (first_edits private) ≡ weighed capacity takable volume tree (command.Ln from to)
  first_allowed None asked =
      sym ((λ i. joined (weights i) (takable_weights i))
      ∙ ap (λ (k : Asked). joined (cost_of (needs_for (free_blocks volume) volume k None) (room_with capacity (free_blocks volume) volume)) (cost_of (needs_for takable volume k None) (room_with capacity takable volume))) asked)
      ∙ ap (λ said. refused_or said (joined (weight capacity volume tree (command.Ln from to)) (weight_with capacity takable volume tree (command.Ln from to)))) (linked_line tree from to fine).0
  first_allowed (Some private) asked =
      sym ((λ i. joined (weights i) (takable_weights i))
      ∙ ap (λ (k : Asked). joined (cost_of (needs_for (free_blocks volume) volume k None) (room_with capacity (free_blocks volume) volume)) (cost_of (needs_for takable volume k None) (room_with capacity takable volume))) asked)
      ∙ ap (λ said. refused_or said (joined (weight capacity volume tree (command.Ln from to)) (weight_with capacity takable volume tree (command.Ln from to)))) (linked_line tree from to fine).0

module _ (law : SoundHasPlainTree) (v : Volume) (content : Content) (holds : HoldsTrees v content) (settled : IsSettled v content) (from to : List (List ℕ)) (fine : IsFine (tree_of content) from to) (fits : FitsPath from)
    (said : Result Node Refusal) (found : said ≡ node_in (lists_of v content).catalog_pairs v.private from) (takable : List Bool)
  where
    abbrev IsIt : Node → PlainNode → Type 0
    IsIt = IsNode (volume_of content) settled.sound (settled_sorted v content holds settled) (tree_of content) (entries_are content) (settled_is_plain law v content holds settled) (valued (bytes_in content) (attributes_of (volume_of content))) (bytes_in content) (nodes_are content)

    agrees : Agree IsIt said (to_node (tree_of content) from)
    agrees =
        subst (λ (r : Result Node Refusal). Agree IsIt r (to_node (tree_of content) from)) (sym (found ∙ (λ i. node_in (sym (ap (λ (l : VolumeState). l.catalog_pairs) settled.lists) i) (settled.private i) from)))
        (node_same (volume_of content) settled.sound (settled_sorted v content holds settled) (tree_of content) (entries_are content) (settled_is_plain law v content holds settled) (valued (bytes_in content) (attributes_of (volume_of content))) (bytes_in content) (nodes_are content) from
        (not_own (tree_of content) from to fine) fits)

    reaches : (pair : PlainEntry × Place) → to_ln (tree_of content) from to ≡ Ok pair → reached (tree_of content) from ≡ Ok pair.0
    unfolding tree_of
    reaches pair is = (to_ln_is (volume_of content) (bytes_in content) settled.sound from to pair.0 pair.1 is (goal_not_own (tree_in (volume_of content) (bytes_in content)) from to fine)).0.reached_at

    private_here : is_some v.private ≡ (tree_of content).has_private
    private_here = ap (λ (o : Option ℕ). is_some o) settled.private ∙ sym (has_private_is content)

    -- a file gets its first link, or has links and gets one more
    name_edits : (n : PlainNode) → to_node (tree_of content) from ≡ Ok n → (linked : Bool) → n.linked ≡ linked
        → edits_of (tree_of content) (command.Ln from to) ≡ (if linked then edits 1 2 0 4 else edits (2 + folders_made (tree_of content)) (7 + 2 * folders_made (tree_of content)) 0 4)
    name_edits n is linked kind = by (to_ln (tree_of content) from to) refl
      where
        by : (r : Result (PlainEntry × Place) Refusal) → to_ln (tree_of content) from to ≡ r
            → edits_of (tree_of content) (command.Ln from to) ≡ (if linked then edits 1 2 0 4 else edits (2 + folders_made (tree_of content)) (7 + 2 * folders_made (tree_of content)) 0 4)
        by (Err why) not = absurd (refused (tree_of content) from to fine why not)
        by (Ok pair) ok =
            ap (λ (r : Result (PlainNode × Place) Refusal). ln_edits (tree_of content) r) (linking_node (tree_of content) from to pair n ok (reaches pair ok) is)
            ∙ ap (λ (b : Bool). if b then edits 1 2 0 4 else edits (2 + folders_made (tree_of content)) (7 + 2 * folders_made (tree_of content)) 0 4) kind

    abbrev weighs_here : Spent → Weight
    weighs_here = edits_weighed v.capacity takable (volume_of content)

    abbrev words_here : Weight
    words_here = weighed v.capacity takable (volume_of content) (tree_of content) (command.Ln from to)

    by_linked : (n : PlainNode) → to_node (tree_of content) from ≡ Ok n → (linked : Bool) → n.linked ≡ linked → (if linked then weighs_here more_edits else weighs_here (first_edits v.private)) ≡ words_here
    by_linked n is true kind = more_allowed v.capacity takable (volume_of content) (tree_of content) from to fine (name_edits n is true kind)
    by_linked n is false kind =
        first_allowed v.capacity takable (volume_of content) (tree_of content) from to fine v.private
        (name_edits n is false kind ∙ ap (λ (b : Bool). edits (2 + (if b then 0 else 1)) (7 + 2 * (if b then 0 else 1)) 0 4) (sym private_here) ∙ asked_is v.private)

    by_node : (f : Node) (n : PlainNode) → to_node (tree_of content) from ≡ Ok n → IsIt f n → (w : Weight) → Some w ≡ link_weighed f weighs_here v.private → w ≡ words_here
    by_node (node.Folder folder) n is it w same = absurd (cc same)
    by_node (node.File own linked) n is it w same = ap (weight_or w) same ∙ by_linked n is linked (ap (λ (m : PlainNode). m.linked) it.is)

    pub link_told : (f : Node) → said ≡ Ok f → (w : Weight) → Some w ≡ link_weighed f weighs_here v.private → w ≡ words_here
    link_told f is w same = by (to_node (tree_of content) from) refl (subst (λ (r : Result Node Refusal). Agree IsIt r (to_node (tree_of content) from)) is agrees)
      where
        by : (s : Result PlainNode Refusal) → to_node (tree_of content) from ≡ s → Agree IsIt (Ok f) s → w ≡ words_here
        by (Ok n) at it = by_node f n at it w same
        by (Err why) at never = absurd never
