use Rattle.std.proofs.Common.{◌≡◌, ◌≤◌, ◌+◌, ℕ, Bool, true, List, refl, sym, ◌∙◌, ap, subst, arith}
use Rattle.std.specs.Prelude.{IsTrue, Ok}
use Rattle.std.specs.List.{Contains}
use Rattle.alloc_bitmap.specs.Map.{BlockMap, free_of}
use Rattle.hfs_language.specs.declared.command.Command.TheVariants as command
use Rattle.hfs_model.specs.Step.{to_node}
use Rattle.hfs_volume.specs.Aside.{IsJournalSector}
use Rattle.hfs_volume.specs.declared.cost.Cost.TheVariants as cost
use Rattle.hfs_volume.specs.Content.{has_attributes, volume_of}
use Rattle.hfs_volume.specs.TreeOf.{tree_of}
use Rattle.hfs_volume.specs.Weight.{weight_with}
use Rattle.sector_disk.specs.Lists.{Content}
use Rattle.volume_header.specs.declared.header.VolumeHeader.{VolumeHeader}
use Rattle.volume_base.proofs.OwnedTold.{set_private, set_refused}
use Rattle.volume_base.proofs.ToNode.{node_refused, node_there, node_told}
use Rattle.volume_values.proofs.DeleteAnswers.{if_ok, on_ok_of, serves_from}
use Rattle.volume_values.proofs.SetAnswers.{set_lists, set_refuses, set_reply, set_serves, set_tree_is, set_unmet, set_waiting, set_waits, sets_behind}
use Rattle.volume_values.proofs.Spilling.{spills_behind, spills_err, spills_fewer, spills_looked, spills_none, spills_read}
use Rattle.volume_values.proofs.attribute_change.setattr.Goals as goal

pub set_or_refuse-requires-clause-closed : goal.set_or_refuse-requires-clause-closed
set_or_refuse-requires-clause-closed g c told at closed_ =
    let tells = sym c.owner.ensures.looked.reads.looks.same.tells ∙ told in
    subst (λ (k : Content). IsJournalSector k at) (sym (c.owner.ensures.looked.reads.looks.content tells)) (c.requires.closed tells at ((c.owner.ensures.looked.reads.looks.closed tells at).0 closed_))

pub set_or_refuse-requires-clause-there : goal.set_or_refuse-requires-clause-there
set_or_refuse-requires-clause-there g c told =
    let tells = sym c.owner.ensures.looked.reads.looks.same.tells ∙ told in
    let n = node_told c.sound_has_plain_tree.ensures c.args.volume.now (g.P.SectorView.space c.args.space.now).content (c.requires.serves.stands.stands tells).trees (c.requires.serves.settled tells) c.args.path.now (sym c.is_private_path.ensures ∙ c.if-is_private_path.false) c.requires.fits c.in_ok-id.field-0 (c.in_ok-id.ensures.found tells) c.in-Ok.id c.in-Ok.is in
    (n.0, subst (λ (k : Content). Contains (tree_of k).nodes n.0) (sym (c.owner.ensures.looked.reads.looks.content tells)) (node_there (tree_of (g.P.SectorView.space c.args.space.now).content) c.args.path.now n.0 n.1), n.2)

pub returns-in-Ok-clause-reply : goal.returns-in-Ok-clause-reply
returns-in-Ok-clause-reply g c tells =
    let n = node_told c.sound_has_plain_tree.ensures c.args.volume.now (g.P.SectorView.space c.args.space.now).content (c.requires.serves.stands.stands tells).trees (c.requires.serves.settled tells) c.args.path.now (sym c.is_private_path.ensures ∙ c.if-is_private_path.false) c.requires.fits c.in_ok-id.field-0 (c.in_ok-id.ensures.found tells) c.in-Ok.id c.in-Ok.is in
    let there : (g.P.SectorView.space c.owner.new.space).content ≡ (g.P.SectorView.space c.args.space.now).content = c.owner.ensures.looked.reads.looks.content tells in
    let came = c.set_or_refuse.ensures.answer (c.owner.ensures.looked.reads.looks.same.tells ∙ tells) c.args.path.now n.0 (sym c.is_private_path.ensures ∙ c.if-is_private_path.false) (ap (λ (k : Content). to_node (tree_of k) c.args.path.now) there ∙ n.1) n.2 in
    if_ok c.set_or_refuse.result came (λ said is. set_reply c.args.path.now c.args.name.now c.args.value.now c.args.volume.now c.set_or_refuse.new.volume (g.P.SectorView.space c.args.space.now) (g.P.SectorView.space c.set_or_refuse.new.space) said (sets_behind c.args.path.now c.args.name.now c.args.value.now c.args.volume.now c.owner.new.self c.set_or_refuse.new.volume (g.P.SectorView.space c.args.space.now) (g.P.SectorView.space c.owner.new.space) (g.P.SectorView.space c.set_or_refuse.new.space) c.owner.ensures.looked.reads tells said is))

pub returns-in-Ok-clause-tree : goal.returns-in-Ok-clause-tree
returns-in-Ok-clause-tree g c tells has =
    let n = node_told c.sound_has_plain_tree.ensures c.args.volume.now (g.P.SectorView.space c.args.space.now).content (c.requires.serves.stands.stands tells).trees (c.requires.serves.settled tells) c.args.path.now (sym c.is_private_path.ensures ∙ c.if-is_private_path.false) c.requires.fits c.in_ok-id.field-0 (c.in_ok-id.ensures.found tells) c.in-Ok.id c.in-Ok.is in
    let there : (g.P.SectorView.space c.owner.new.space).content ≡ (g.P.SectorView.space c.args.space.now).content = c.owner.ensures.looked.reads.looks.content tells in
    let came = c.set_or_refuse.ensures.answer (c.owner.ensures.looked.reads.looks.same.tells ∙ tells) c.args.path.now n.0 (sym c.is_private_path.ensures ∙ c.if-is_private_path.false) (ap (λ (k : Content). to_node (tree_of k) c.args.path.now) there ∙ n.1) n.2 in
    if_ok c.set_or_refuse.result came (λ said is. set_tree_is c.args.path.now c.args.name.now c.args.value.now c.args.volume.now c.set_or_refuse.new.volume (g.P.SectorView.space c.args.space.now) (g.P.SectorView.space c.set_or_refuse.new.space) (sym c.is_private_path.ensures ∙ c.if-is_private_path.false) has said (sets_behind c.args.path.now c.args.name.now c.args.value.now c.args.volume.now c.owner.new.self c.set_or_refuse.new.volume (g.P.SectorView.space c.args.space.now) (g.P.SectorView.space c.owner.new.space) (g.P.SectorView.space c.set_or_refuse.new.space) c.owner.ensures.looked.reads tells said is))

pub returns-in-Ok-clause-refused : goal.returns-in-Ok-clause-refused
returns-in-Ok-clause-refused g c tells =
    let n = node_told c.sound_has_plain_tree.ensures c.args.volume.now (g.P.SectorView.space c.args.space.now).content (c.requires.serves.stands.stands tells).trees (c.requires.serves.settled tells) c.args.path.now (sym c.is_private_path.ensures ∙ c.if-is_private_path.false) c.requires.fits c.in_ok-id.field-0 (c.in_ok-id.ensures.found tells) c.in-Ok.id c.in-Ok.is in
    let there : (g.P.SectorView.space c.owner.new.space).content ≡ (g.P.SectorView.space c.args.space.now).content = c.owner.ensures.looked.reads.looks.content tells in
    let came = c.set_or_refuse.ensures.answer (c.owner.ensures.looked.reads.looks.same.tells ∙ tells) c.args.path.now n.0 (sym c.is_private_path.ensures ∙ c.if-is_private_path.false) (ap (λ (k : Content). to_node (tree_of k) c.args.path.now) there ∙ n.1) n.2 in
    if_ok c.set_or_refuse.result came (λ said is. set_refuses c.args.path.now c.args.name.now c.args.value.now c.args.volume.now c.set_or_refuse.new.volume (g.P.SectorView.space c.args.space.now) (g.P.SectorView.space c.set_or_refuse.new.space) said (sets_behind c.args.path.now c.args.name.now c.args.value.now c.args.volume.now c.owner.new.self c.set_or_refuse.new.volume (g.P.SectorView.space c.args.space.now) (g.P.SectorView.space c.owner.new.space) (g.P.SectorView.space c.set_or_refuse.new.space) c.owner.ensures.looked.reads tells said is))

pub returns-in-Ok-clause-waits : goal.returns-in-Ok-clause-waits
returns-in-Ok-clause-waits g c tells =
    let n = node_told c.sound_has_plain_tree.ensures c.args.volume.now (g.P.SectorView.space c.args.space.now).content (c.requires.serves.stands.stands tells).trees (c.requires.serves.settled tells) c.args.path.now (sym c.is_private_path.ensures ∙ c.if-is_private_path.false) c.requires.fits c.in_ok-id.field-0 (c.in_ok-id.ensures.found tells) c.in-Ok.id c.in-Ok.is in
    let there : (g.P.SectorView.space c.owner.new.space).content ≡ (g.P.SectorView.space c.args.space.now).content = c.owner.ensures.looked.reads.looks.content tells in
    let came = c.set_or_refuse.ensures.answer (c.owner.ensures.looked.reads.looks.same.tells ∙ tells) c.args.path.now n.0 (sym c.is_private_path.ensures ∙ c.if-is_private_path.false) (ap (λ (k : Content). to_node (tree_of k) c.args.path.now) there ∙ n.1) n.2 in
    if_ok c.set_or_refuse.result came (λ said is. set_waits c.args.path.now c.args.name.now c.args.value.now c.args.volume.now c.set_or_refuse.new.volume (g.P.SectorView.space c.args.space.now) (g.P.SectorView.space c.set_or_refuse.new.space) said (sets_behind c.args.path.now c.args.name.now c.args.value.now c.args.volume.now c.owner.new.self c.set_or_refuse.new.volume (g.P.SectorView.space c.args.space.now) (g.P.SectorView.space c.owner.new.space) (g.P.SectorView.space c.set_or_refuse.new.space) c.owner.ensures.looked.reads tells said is))

pub returns-in-Ok-clause-unmet : goal.returns-in-Ok-clause-unmet
returns-in-Ok-clause-unmet g c tells =
    let n = node_told c.sound_has_plain_tree.ensures c.args.volume.now (g.P.SectorView.space c.args.space.now).content (c.requires.serves.stands.stands tells).trees (c.requires.serves.settled tells) c.args.path.now (sym c.is_private_path.ensures ∙ c.if-is_private_path.false) c.requires.fits c.in_ok-id.field-0 (c.in_ok-id.ensures.found tells) c.in-Ok.id c.in-Ok.is in
    let there : (g.P.SectorView.space c.owner.new.space).content ≡ (g.P.SectorView.space c.args.space.now).content = c.owner.ensures.looked.reads.looks.content tells in
    let came = c.set_or_refuse.ensures.answer (c.owner.ensures.looked.reads.looks.same.tells ∙ tells) c.args.path.now n.0 (sym c.is_private_path.ensures ∙ c.if-is_private_path.false) (ap (λ (k : Content). to_node (tree_of k) c.args.path.now) there ∙ n.1) n.2 in
    if_ok c.set_or_refuse.result came (λ said is. set_unmet c.args.path.now c.args.name.now c.args.value.now c.args.volume.now c.set_or_refuse.new.volume (g.P.SectorView.space c.args.space.now) (g.P.SectorView.space c.set_or_refuse.new.space) said (sets_behind c.args.path.now c.args.name.now c.args.value.now c.args.volume.now c.owner.new.self c.set_or_refuse.new.volume (g.P.SectorView.space c.args.space.now) (g.P.SectorView.space c.owner.new.space) (g.P.SectorView.space c.set_or_refuse.new.space) c.owner.ensures.looked.reads tells said is))

pub returns-in-Ok-clause-waiting : goal.returns-in-Ok-clause-waiting
returns-in-Ok-clause-waiting g c tells =
    let n = node_told c.sound_has_plain_tree.ensures c.args.volume.now (g.P.SectorView.space c.args.space.now).content (c.requires.serves.stands.stands tells).trees (c.requires.serves.settled tells) c.args.path.now (sym c.is_private_path.ensures ∙ c.if-is_private_path.false) c.requires.fits c.in_ok-id.field-0 (c.in_ok-id.ensures.found tells) c.in-Ok.id c.in-Ok.is in
    let there : (g.P.SectorView.space c.owner.new.space).content ≡ (g.P.SectorView.space c.args.space.now).content = c.owner.ensures.looked.reads.looks.content tells in
    let came = c.set_or_refuse.ensures.answer (c.owner.ensures.looked.reads.looks.same.tells ∙ tells) c.args.path.now n.0 (sym c.is_private_path.ensures ∙ c.if-is_private_path.false) (ap (λ (k : Content). to_node (tree_of k) c.args.path.now) there ∙ n.1) n.2 in
    if_ok c.set_or_refuse.result came (λ said is. set_waiting c.args.path.now c.args.name.now c.args.value.now c.args.volume.now c.set_or_refuse.new.volume (g.P.SectorView.space c.args.space.now) (g.P.SectorView.space c.set_or_refuse.new.space) (sym c.is_private_path.ensures ∙ c.if-is_private_path.false) n.0 n.1 said (sets_behind c.args.path.now c.args.name.now c.args.value.now c.args.volume.now c.owner.new.self c.set_or_refuse.new.volume (g.P.SectorView.space c.args.space.now) (g.P.SectorView.space c.owner.new.space) (g.P.SectorView.space c.set_or_refuse.new.space) c.owner.ensures.looked.reads tells said is))

pub returns-in-Ok-clause-lists : goal.returns-in-Ok-clause-lists
returns-in-Ok-clause-lists g c tells =
    let n = node_told c.sound_has_plain_tree.ensures c.args.volume.now (g.P.SectorView.space c.args.space.now).content (c.requires.serves.stands.stands tells).trees (c.requires.serves.settled tells) c.args.path.now (sym c.is_private_path.ensures ∙ c.if-is_private_path.false) c.requires.fits c.in_ok-id.field-0 (c.in_ok-id.ensures.found tells) c.in-Ok.id c.in-Ok.is in
    let there : (g.P.SectorView.space c.owner.new.space).content ≡ (g.P.SectorView.space c.args.space.now).content = c.owner.ensures.looked.reads.looks.content tells in
    let came = c.set_or_refuse.ensures.answer (c.owner.ensures.looked.reads.looks.same.tells ∙ tells) c.args.path.now n.0 (sym c.is_private_path.ensures ∙ c.if-is_private_path.false) (ap (λ (k : Content). to_node (tree_of k) c.args.path.now) there ∙ n.1) n.2 in
    if_ok c.set_or_refuse.result came (λ said is. set_lists c.args.path.now c.args.name.now c.args.value.now c.args.volume.now c.set_or_refuse.new.volume (g.P.SectorView.space c.args.space.now) (g.P.SectorView.space c.set_or_refuse.new.space) said (sets_behind c.args.path.now c.args.name.now c.args.value.now c.args.volume.now c.owner.new.self c.set_or_refuse.new.volume (g.P.SectorView.space c.args.space.now) (g.P.SectorView.space c.owner.new.space) (g.P.SectorView.space c.set_or_refuse.new.space) c.owner.ensures.looked.reads tells said is))

pub returns-in-Ok-clause-spills : goal.returns-in-Ok-clause-spills
returns-in-Ok-clause-spills g c =
    spills_behind c.args.volume.now c.owner.new.self g.met.P.SectorView.follows_trans c.owner.ensures.looked c.set_or_refuse.ensures.spills (λ tells. omega (arith, c.owner.ensures.looked.reads.looks.spare))

pub returns-in-Ok-clause-serves : goal.returns-in-Ok-clause-serves
returns-in-Ok-clause-serves g c =
    serves_from c.set_or_refuse.result c.set_or_refuse.new.volume (g.P.SectorView.space c.set_or_refuse.new.space) (returns-in-Ok-clause-spills g c).stands (λ told.
    let tells = sym (returns-in-Ok-clause-spills g c).same.tells ∙ told in
    let n = node_told c.sound_has_plain_tree.ensures c.args.volume.now (g.P.SectorView.space c.args.space.now).content (c.requires.serves.stands.stands tells).trees (c.requires.serves.settled tells) c.args.path.now (sym c.is_private_path.ensures ∙ c.if-is_private_path.false) c.requires.fits c.in_ok-id.field-0 (c.in_ok-id.ensures.found tells) c.in-Ok.id c.in-Ok.is in
    let there : (g.P.SectorView.space c.owner.new.space).content ≡ (g.P.SectorView.space c.args.space.now).content = c.owner.ensures.looked.reads.looks.content tells in
    let came = c.set_or_refuse.ensures.answer (c.owner.ensures.looked.reads.looks.same.tells ∙ tells) c.args.path.now n.0 (sym c.is_private_path.ensures ∙ c.if-is_private_path.false) (ap (λ (k : Content). to_node (tree_of k) c.args.path.now) there ∙ n.1) n.2 in
    on_ok_of c.set_or_refuse.result came (λ said is. (set_serves c.args.path.now c.args.name.now c.args.value.now c.args.volume.now c.set_or_refuse.new.volume (g.P.SectorView.space c.args.space.now) (g.P.SectorView.space c.set_or_refuse.new.space) said (sets_behind c.args.path.now c.args.name.now c.args.value.now c.args.volume.now c.owner.new.self c.set_or_refuse.new.volume (g.P.SectorView.space c.args.space.now) (g.P.SectorView.space c.owner.new.space) (g.P.SectorView.space c.set_or_refuse.new.space) c.owner.ensures.looked.reads tells said is)).settled told))

pub returns-in-Ok-clause-loads : goal.returns-in-Ok-clause-loads
returns-in-Ok-clause-loads g c tells n grow is =
    let node = node_told c.sound_has_plain_tree.ensures c.args.volume.now (g.P.SectorView.space c.args.space.now).content (c.requires.serves.stands.stands tells).trees (c.requires.serves.settled tells) c.args.path.now (sym c.is_private_path.ensures ∙ c.if-is_private_path.false) c.requires.fits c.in_ok-id.field-0 (c.in_ok-id.ensures.found tells) c.in-Ok.id c.in-Ok.is in
    let there : (g.P.SectorView.space c.owner.new.space).content ≡ (g.P.SectorView.space c.args.space.now).content = c.owner.ensures.looked.reads.looks.content tells in
    omega (
      arith,
      c.owner.ensures.looked.reads.looks.spare,
      c.set_or_refuse.ensures.loads (c.owner.ensures.looked.reads.looks.same.tells ∙ tells) c.args.path.now node.0 n grow (sym c.is_private_path.ensures ∙ c.if-is_private_path.false) (ap (λ (k : Content). to_node (tree_of k) c.args.path.now) there ∙ node.1) node.2
          (subst (λ (k : (ℕ × BlockMap) × Content). weight_with k.0.0 (free_of k.0.1) (volume_of k.1) (tree_of k.1) (command.SetAttr c.args.path.now c.args.name.now c.args.value.now) ≡ cost.Load n grow) {x = ((c.args.volume.now.capacity, c.args.volume.now.map), (g.P.SectorView.space c.args.space.now).content)} {y = ((c.owner.new.self.capacity, c.owner.new.self.map), (g.P.SectorView.space c.owner.new.space).content)}
          (λ i. ((sym c.owner.ensures.looked.reads.keeps.capacity i, sym c.owner.ensures.looked.reads.keeps.map i), sym there i)) is),
    )

pub returns-in-Err-clause-reply : goal.returns-in-Err-clause-reply
returns-in-Err-clause-reply g c tells =
    (set_refused (tree_of (g.P.SectorView.space c.args.space.now).content) c.args.path.now c.args.name.now c.args.value.now (sym c.is_private_path.ensures ∙ c.if-is_private_path.false) (has_attributes c.args.volume.now.header) c.in-Err.why (node_refused c.sound_has_plain_tree.ensures c.args.volume.now (g.P.SectorView.space c.args.space.now).content (c.requires.serves.stands.stands tells).trees (c.requires.serves.settled tells) c.args.path.now (sym c.is_private_path.ensures ∙ c.if-is_private_path.false) c.requires.fits c.in_ok-id.field-0 (c.in_ok-id.ensures.found tells) c.in-Err.why c.in-Err.is)).0

pub returns-in-Err-clause-tree : goal.returns-in-Err-clause-tree
returns-in-Err-clause-tree g c tells has =
    ap (λ (k : Content). tree_of k) (c.owner.ensures.looked.reads.looks.content tells) ∙ (set_refused (tree_of (g.P.SectorView.space c.args.space.now).content) c.args.path.now c.args.name.now c.args.value.now (sym c.is_private_path.ensures ∙ c.if-is_private_path.false) (has_attributes c.args.volume.now.header) c.in-Err.why (node_refused c.sound_has_plain_tree.ensures c.args.volume.now (g.P.SectorView.space c.args.space.now).content (c.requires.serves.stands.stands tells).trees (c.requires.serves.settled tells) c.args.path.now (sym c.is_private_path.ensures ∙ c.if-is_private_path.false) c.requires.fits c.in_ok-id.field-0 (c.in_ok-id.ensures.found tells) c.in-Err.why c.in-Err.is)).1

pub returns-in-Err-clause-refused : goal.returns-in-Err-clause-refused
returns-in-Err-clause-refused g c tells is =
    c.owner.ensures.looked.reads.looks.content tells

pub returns-in-Err-clause-lists : goal.returns-in-Err-clause-lists
returns-in-Err-clause-lists g c tells ok =
    absurd (cc ok)

pub returns-in-Err-clause-loads : goal.returns-in-Err-clause-loads
returns-in-Err-clause-loads g c tells n grow is =
    omega (arith, c.owner.ensures.looked.reads.looks.spare)

pub returns-in-Err-clause-spills : goal.returns-in-Err-clause-spills
returns-in-Err-clause-spills g c =
    spills_read c.args.volume.now c.owner.ensures.looked

pub returns-in_err-id-clause-spills : goal.returns-in_err-id-clause-spills
returns-in_err-id-clause-spills g c =
    spills_err c.from_residual.ensures.1 (spills_fewer (spills_looked c.args.volume.now c.in_err-id.ensures.looked) (λ tells. omega arith))

pub returns-in_err-id-clause-loads : goal.returns-in_err-id-clause-loads
returns-in_err-id-clause-loads g c tells n grow is =
    omega (arith, c.owner.ensures.looked.reads.looks.spare)

pub returns-then-is_private_path-clause-reply : goal.returns-then-is_private_path-clause-reply
returns-then-is_private_path-clause-reply g c tells =
    (set_private (tree_of (g.P.SectorView.space c.args.space.now).content) c.args.path.now c.args.name.now c.args.value.now (has_attributes c.args.volume.now.header) (sym c.is_private_path.ensures ∙ c.if-is_private_path.true)).0

pub returns-then-is_private_path-clause-tree : goal.returns-then-is_private_path-clause-tree
returns-then-is_private_path-clause-tree g c tells has =
    (set_private (tree_of (g.P.SectorView.space c.args.space.now).content) c.args.path.now c.args.name.now c.args.value.now (has_attributes c.args.volume.now.header) (sym c.is_private_path.ensures ∙ c.if-is_private_path.true)).1

pub returns-then-is_private_path-clause-lists : goal.returns-then-is_private_path-clause-lists
returns-then-is_private_path-clause-lists g c tells ok =
    absurd (cc ok)

pub returns-then-is_private_path-clause-refused : goal.returns-then-is_private_path-clause-refused
returns-then-is_private_path-clause-refused g c tells is =
    refl

pub returns-then-is_private_path-clause-spills : goal.returns-then-is_private_path-clause-spills
returns-then-is_private_path-clause-spills g c =
    spills_none g.met.P.SectorView.follows_refl c.requires.serves.stands
