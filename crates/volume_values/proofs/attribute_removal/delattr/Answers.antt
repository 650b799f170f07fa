use Rattle.std.proofs.Common.{◌≡◌, ◌≤◌, ◌+◌, ℕ, Bool, true, refl, sym, ◌∙◌, ap, subst, arith}
use Rattle.std.specs.Prelude.{IsTrue, IfSome, Option}
use Rattle.std.specs.List.{Contains}
use Rattle.hfs_language.specs.declared.command.Command.TheVariants as command
use Rattle.hfs_model.specs.Step.{to_attribute}
use Rattle.hfs_volume.specs.Content.{VolumeState, volume_of, has_attributes}
use Rattle.hfs_volume.specs.TreeOf.{tree_of}
use Rattle.hfs_volume.specs.Weight.{weight_with}
use Rattle.hfs_volume.specs.declared.cost.Cost.TheVariants as cost
use Rattle.alloc_bitmap.specs.Map.{BlockMap, free_of}
use Rattle.sector_disk.specs.Lists.{Content}
use Rattle.volume_header.specs.declared.header.VolumeHeader.{VolumeHeader}
use Rattle.volume_base.specs.Attributing.{others_owned}
use Rattle.volume_base.proofs.Framed.{serves_still}
use Rattle.volume_base.proofs.Freed.{frees_behind, frees_err, frees_looked, frees_none, frees_ok}
use Rattle.volume_base.proofs.Framed.{looked_both}
use Rattle.volume_base.proofs.OwnedTold.{attribute_told, attribute_untold, delete_private}
use Rattle.volume_base.proofs.OwnedTold.{delete_refused as path_refused}
use Rattle.volume_base.proofs.Still.{lists_still, volume_both}
use Rattle.volume_base.proofs.ToNode.{node_refused, node_there, node_told}
use Rattle.volume_values.proofs.DeleteAnswers.{delete_lists, delete_refused, delete_reply, delete_serves, delete_tree_is, delete_unmet, delete_waiting, delete_waits, deletes_behind, if_ok, on_ok_of, serves_from}
use Rattle.volume_values.proofs.attribute_removal.delattr.Goals as goal

pub delete_now-requires-clause-serves : goal.delete_now-requires-clause-serves
delete_now-requires-clause-serves g c = c.in_ok-others-in-Ok.ensures.serves

pub delete_now-requires-clause-has : goal.delete_now-requires-clause-has
delete_now-requires-clause-has g c = subst (λ (h : VolumeHeader). IsTrue (has_attributes h)) (sym c.owned.ensures.looked.reads.keeps.header) (subst (λ (o : Option Bool). IfSome o (λ more. IsTrue (has_attributes c.owner.new.self.header))) c.in-Some.is c.in_ok-others-in-Ok.ensures.has)

pub delete_now-requires-clause-there : goal.delete_now-requires-clause-there
delete_now-requires-clause-there g c told =
    let tells = sym (volume_both c.args.volume.now c.owner.new.self c.owned.new.self (g.P.SectorView.space c.args.space.now) (g.P.SectorView.space c.owner.new.space) (g.P.SectorView.space c.owned.new.space) c.owner.ensures.looked.reads c.owned.ensures.looked.reads).looks.same.tells ∙ told in
    let n = node_told c.sound_has_plain_tree.ensures c.args.volume.now (g.P.SectorView.space c.args.space.now).content (c.requires.serves.stands.stands tells).trees (c.requires.serves.settled tells) c.args.path.now (sym c.is_private_path.ensures ∙ c.if-is_private_path.false) c.requires.fits c.in_ok-id.field-0 (c.in_ok-id.ensures.found tells) c.in-Ok.id c.in-Ok.is in
    (n.0, subst (λ (k : Content). Contains (tree_of k).nodes n.0) (sym ((volume_both c.args.volume.now c.owner.new.self c.owned.new.self (g.P.SectorView.space c.args.space.now) (g.P.SectorView.space c.owner.new.space) (g.P.SectorView.space c.owned.new.space) c.owner.ensures.looked.reads c.owned.ensures.looked.reads).looks.content tells)) (node_there (tree_of (g.P.SectorView.space c.args.space.now).content) c.args.path.now n.0 n.1), n.2)

pub returns-in-Some-clause-reply : goal.returns-in-Some-clause-reply
returns-in-Some-clause-reply g c tells =
    let n = node_told c.sound_has_plain_tree.ensures c.args.volume.now (g.P.SectorView.space c.args.space.now).content (c.requires.serves.stands.stands tells).trees (c.requires.serves.settled tells) c.args.path.now (sym c.is_private_path.ensures ∙ c.if-is_private_path.false) c.requires.fits c.in_ok-id.field-0 (c.in_ok-id.ensures.found tells) c.in-Ok.id c.in-Ok.is in
    let a = attribute_told c.sound_has_plain_tree.ensures c.args.volume.now (g.P.SectorView.space c.args.space.now).content (c.requires.serves.stands.stands tells).trees (c.requires.serves.settled tells) c.args.path.now c.args.name.now (sym c.is_private_path.ensures ∙ c.if-is_private_path.false) c.requires.fits c.in_ok-id.field-0 (c.in_ok-id.ensures.found tells) c.in-Ok.id c.in-Ok.is n.0 n.1 c.in-Some.others
    (sym c.in-Some.is ∙ c.in_ok-others-in-Ok.ensures.found (c.owner.ensures.looked.reads.looks.same.tells ∙ tells) ∙ ap (λ (l : VolumeState). others_owned l.attribute_pairs c.in-Ok.id c.args.name.now) (lists_still c.args.volume.now c.owner.new.self (g.P.SectorView.space c.args.space.now) (g.P.SectorView.space c.owner.new.space) c.owner.ensures.looked.reads tells)) in
    let there : (g.P.SectorView.space c.owned.new.space).content ≡ (g.P.SectorView.space c.args.space.now).content = (volume_both c.args.volume.now c.owner.new.self c.owned.new.self (g.P.SectorView.space c.args.space.now) (g.P.SectorView.space c.owner.new.space) (g.P.SectorView.space c.owned.new.space) c.owner.ensures.looked.reads c.owned.ensures.looked.reads).looks.content tells in
    let came = c.delete_now.ensures.answer ((volume_both c.args.volume.now c.owner.new.self c.owned.new.self (g.P.SectorView.space c.args.space.now) (g.P.SectorView.space c.owner.new.space) (g.P.SectorView.space c.owned.new.space) c.owner.ensures.looked.reads c.owned.ensures.looked.reads).looks.same.tells ∙ tells) c.args.path.now n.0 a.0 (ap (λ (k : Content). to_attribute (tree_of k) c.args.path.now c.args.name.now) there ∙ a.1) n.2 in
    if_ok c.delete_now.result came (λ said is. delete_reply c.args.path.now c.args.name.now c.args.volume.now c.delete_now.new.volume (g.P.SectorView.space c.args.space.now) (g.P.SectorView.space c.delete_now.new.space) (sym c.is_private_path.ensures ∙ c.if-is_private_path.false) n.0 a.0 a.1 said (deletes_behind c.args.path.now c.args.name.now c.args.volume.now c.owned.new.self c.delete_now.new.volume (g.P.SectorView.space c.args.space.now) (g.P.SectorView.space c.owned.new.space) (g.P.SectorView.space c.delete_now.new.space) (volume_both c.args.volume.now c.owner.new.self c.owned.new.self (g.P.SectorView.space c.args.space.now) (g.P.SectorView.space c.owner.new.space) (g.P.SectorView.space c.owned.new.space) c.owner.ensures.looked.reads c.owned.ensures.looked.reads) tells said is))

pub returns-in-Some-clause-tree : goal.returns-in-Some-clause-tree
returns-in-Some-clause-tree g c tells =
    let n = node_told c.sound_has_plain_tree.ensures c.args.volume.now (g.P.SectorView.space c.args.space.now).content (c.requires.serves.stands.stands tells).trees (c.requires.serves.settled tells) c.args.path.now (sym c.is_private_path.ensures ∙ c.if-is_private_path.false) c.requires.fits c.in_ok-id.field-0 (c.in_ok-id.ensures.found tells) c.in-Ok.id c.in-Ok.is in
    let a = attribute_told c.sound_has_plain_tree.ensures c.args.volume.now (g.P.SectorView.space c.args.space.now).content (c.requires.serves.stands.stands tells).trees (c.requires.serves.settled tells) c.args.path.now c.args.name.now (sym c.is_private_path.ensures ∙ c.if-is_private_path.false) c.requires.fits c.in_ok-id.field-0 (c.in_ok-id.ensures.found tells) c.in-Ok.id c.in-Ok.is n.0 n.1 c.in-Some.others
    (sym c.in-Some.is ∙ c.in_ok-others-in-Ok.ensures.found (c.owner.ensures.looked.reads.looks.same.tells ∙ tells) ∙ ap (λ (l : VolumeState). others_owned l.attribute_pairs c.in-Ok.id c.args.name.now) (lists_still c.args.volume.now c.owner.new.self (g.P.SectorView.space c.args.space.now) (g.P.SectorView.space c.owner.new.space) c.owner.ensures.looked.reads tells)) in
    let there : (g.P.SectorView.space c.owned.new.space).content ≡ (g.P.SectorView.space c.args.space.now).content = (volume_both c.args.volume.now c.owner.new.self c.owned.new.self (g.P.SectorView.space c.args.space.now) (g.P.SectorView.space c.owner.new.space) (g.P.SectorView.space c.owned.new.space) c.owner.ensures.looked.reads c.owned.ensures.looked.reads).looks.content tells in
    let came = c.delete_now.ensures.answer ((volume_both c.args.volume.now c.owner.new.self c.owned.new.self (g.P.SectorView.space c.args.space.now) (g.P.SectorView.space c.owner.new.space) (g.P.SectorView.space c.owned.new.space) c.owner.ensures.looked.reads c.owned.ensures.looked.reads).looks.same.tells ∙ tells) c.args.path.now n.0 a.0 (ap (λ (k : Content). to_attribute (tree_of k) c.args.path.now c.args.name.now) there ∙ a.1) n.2 in
    if_ok c.delete_now.result came (λ said is. delete_tree_is c.args.path.now c.args.name.now c.args.volume.now c.delete_now.new.volume (g.P.SectorView.space c.args.space.now) (g.P.SectorView.space c.delete_now.new.space) (sym c.is_private_path.ensures ∙ c.if-is_private_path.false) n.0 a.0 a.1 said (deletes_behind c.args.path.now c.args.name.now c.args.volume.now c.owned.new.self c.delete_now.new.volume (g.P.SectorView.space c.args.space.now) (g.P.SectorView.space c.owned.new.space) (g.P.SectorView.space c.delete_now.new.space) (volume_both c.args.volume.now c.owner.new.self c.owned.new.self (g.P.SectorView.space c.args.space.now) (g.P.SectorView.space c.owner.new.space) (g.P.SectorView.space c.owned.new.space) c.owner.ensures.looked.reads c.owned.ensures.looked.reads) tells said is))

pub returns-in-Some-clause-refused : goal.returns-in-Some-clause-refused
returns-in-Some-clause-refused g c tells =
    let n = node_told c.sound_has_plain_tree.ensures c.args.volume.now (g.P.SectorView.space c.args.space.now).content (c.requires.serves.stands.stands tells).trees (c.requires.serves.settled tells) c.args.path.now (sym c.is_private_path.ensures ∙ c.if-is_private_path.false) c.requires.fits c.in_ok-id.field-0 (c.in_ok-id.ensures.found tells) c.in-Ok.id c.in-Ok.is in
    let a = attribute_told c.sound_has_plain_tree.ensures c.args.volume.now (g.P.SectorView.space c.args.space.now).content (c.requires.serves.stands.stands tells).trees (c.requires.serves.settled tells) c.args.path.now c.args.name.now (sym c.is_private_path.ensures ∙ c.if-is_private_path.false) c.requires.fits c.in_ok-id.field-0 (c.in_ok-id.ensures.found tells) c.in-Ok.id c.in-Ok.is n.0 n.1 c.in-Some.others
    (sym c.in-Some.is ∙ c.in_ok-others-in-Ok.ensures.found (c.owner.ensures.looked.reads.looks.same.tells ∙ tells) ∙ ap (λ (l : VolumeState). others_owned l.attribute_pairs c.in-Ok.id c.args.name.now) (lists_still c.args.volume.now c.owner.new.self (g.P.SectorView.space c.args.space.now) (g.P.SectorView.space c.owner.new.space) c.owner.ensures.looked.reads tells)) in
    let there : (g.P.SectorView.space c.owned.new.space).content ≡ (g.P.SectorView.space c.args.space.now).content = (volume_both c.args.volume.now c.owner.new.self c.owned.new.self (g.P.SectorView.space c.args.space.now) (g.P.SectorView.space c.owner.new.space) (g.P.SectorView.space c.owned.new.space) c.owner.ensures.looked.reads c.owned.ensures.looked.reads).looks.content tells in
    let came = c.delete_now.ensures.answer ((volume_both c.args.volume.now c.owner.new.self c.owned.new.self (g.P.SectorView.space c.args.space.now) (g.P.SectorView.space c.owner.new.space) (g.P.SectorView.space c.owned.new.space) c.owner.ensures.looked.reads c.owned.ensures.looked.reads).looks.same.tells ∙ tells) c.args.path.now n.0 a.0 (ap (λ (k : Content). to_attribute (tree_of k) c.args.path.now c.args.name.now) there ∙ a.1) n.2 in
    if_ok c.delete_now.result came (λ said is. delete_refused c.args.path.now c.args.name.now c.args.volume.now c.delete_now.new.volume (g.P.SectorView.space c.args.space.now) (g.P.SectorView.space c.delete_now.new.space) said (deletes_behind c.args.path.now c.args.name.now c.args.volume.now c.owned.new.self c.delete_now.new.volume (g.P.SectorView.space c.args.space.now) (g.P.SectorView.space c.owned.new.space) (g.P.SectorView.space c.delete_now.new.space) (volume_both c.args.volume.now c.owner.new.self c.owned.new.self (g.P.SectorView.space c.args.space.now) (g.P.SectorView.space c.owner.new.space) (g.P.SectorView.space c.owned.new.space) c.owner.ensures.looked.reads c.owned.ensures.looked.reads) tells said is))

pub returns-in-Some-clause-lists : goal.returns-in-Some-clause-lists
returns-in-Some-clause-lists g c tells =
    let n = node_told c.sound_has_plain_tree.ensures c.args.volume.now (g.P.SectorView.space c.args.space.now).content (c.requires.serves.stands.stands tells).trees (c.requires.serves.settled tells) c.args.path.now (sym c.is_private_path.ensures ∙ c.if-is_private_path.false) c.requires.fits c.in_ok-id.field-0 (c.in_ok-id.ensures.found tells) c.in-Ok.id c.in-Ok.is in
    let a = attribute_told c.sound_has_plain_tree.ensures c.args.volume.now (g.P.SectorView.space c.args.space.now).content (c.requires.serves.stands.stands tells).trees (c.requires.serves.settled tells) c.args.path.now c.args.name.now (sym c.is_private_path.ensures ∙ c.if-is_private_path.false) c.requires.fits c.in_ok-id.field-0 (c.in_ok-id.ensures.found tells) c.in-Ok.id c.in-Ok.is n.0 n.1 c.in-Some.others
    (sym c.in-Some.is ∙ c.in_ok-others-in-Ok.ensures.found (c.owner.ensures.looked.reads.looks.same.tells ∙ tells) ∙ ap (λ (l : VolumeState). others_owned l.attribute_pairs c.in-Ok.id c.args.name.now) (lists_still c.args.volume.now c.owner.new.self (g.P.SectorView.space c.args.space.now) (g.P.SectorView.space c.owner.new.space) c.owner.ensures.looked.reads tells)) in
    let there : (g.P.SectorView.space c.owned.new.space).content ≡ (g.P.SectorView.space c.args.space.now).content = (volume_both c.args.volume.now c.owner.new.self c.owned.new.self (g.P.SectorView.space c.args.space.now) (g.P.SectorView.space c.owner.new.space) (g.P.SectorView.space c.owned.new.space) c.owner.ensures.looked.reads c.owned.ensures.looked.reads).looks.content tells in
    let came = c.delete_now.ensures.answer ((volume_both c.args.volume.now c.owner.new.self c.owned.new.self (g.P.SectorView.space c.args.space.now) (g.P.SectorView.space c.owner.new.space) (g.P.SectorView.space c.owned.new.space) c.owner.ensures.looked.reads c.owned.ensures.looked.reads).looks.same.tells ∙ tells) c.args.path.now n.0 a.0 (ap (λ (k : Content). to_attribute (tree_of k) c.args.path.now c.args.name.now) there ∙ a.1) n.2 in
    if_ok c.delete_now.result came (λ said is. delete_lists c.args.path.now c.args.name.now c.args.volume.now c.delete_now.new.volume (g.P.SectorView.space c.args.space.now) (g.P.SectorView.space c.delete_now.new.space) said (deletes_behind c.args.path.now c.args.name.now c.args.volume.now c.owned.new.self c.delete_now.new.volume (g.P.SectorView.space c.args.space.now) (g.P.SectorView.space c.owned.new.space) (g.P.SectorView.space c.delete_now.new.space) (volume_both c.args.volume.now c.owner.new.self c.owned.new.self (g.P.SectorView.space c.args.space.now) (g.P.SectorView.space c.owner.new.space) (g.P.SectorView.space c.owned.new.space) c.owner.ensures.looked.reads c.owned.ensures.looked.reads) tells said is))

pub returns-in-Some-clause-waits : goal.returns-in-Some-clause-waits
returns-in-Some-clause-waits g c tells =
    let n = node_told c.sound_has_plain_tree.ensures c.args.volume.now (g.P.SectorView.space c.args.space.now).content (c.requires.serves.stands.stands tells).trees (c.requires.serves.settled tells) c.args.path.now (sym c.is_private_path.ensures ∙ c.if-is_private_path.false) c.requires.fits c.in_ok-id.field-0 (c.in_ok-id.ensures.found tells) c.in-Ok.id c.in-Ok.is in
    let a = attribute_told c.sound_has_plain_tree.ensures c.args.volume.now (g.P.SectorView.space c.args.space.now).content (c.requires.serves.stands.stands tells).trees (c.requires.serves.settled tells) c.args.path.now c.args.name.now (sym c.is_private_path.ensures ∙ c.if-is_private_path.false) c.requires.fits c.in_ok-id.field-0 (c.in_ok-id.ensures.found tells) c.in-Ok.id c.in-Ok.is n.0 n.1 c.in-Some.others
    (sym c.in-Some.is ∙ c.in_ok-others-in-Ok.ensures.found (c.owner.ensures.looked.reads.looks.same.tells ∙ tells) ∙ ap (λ (l : VolumeState). others_owned l.attribute_pairs c.in-Ok.id c.args.name.now) (lists_still c.args.volume.now c.owner.new.self (g.P.SectorView.space c.args.space.now) (g.P.SectorView.space c.owner.new.space) c.owner.ensures.looked.reads tells)) in
    let there : (g.P.SectorView.space c.owned.new.space).content ≡ (g.P.SectorView.space c.args.space.now).content = (volume_both c.args.volume.now c.owner.new.self c.owned.new.self (g.P.SectorView.space c.args.space.now) (g.P.SectorView.space c.owner.new.space) (g.P.SectorView.space c.owned.new.space) c.owner.ensures.looked.reads c.owned.ensures.looked.reads).looks.content tells in
    let came = c.delete_now.ensures.answer ((volume_both c.args.volume.now c.owner.new.self c.owned.new.self (g.P.SectorView.space c.args.space.now) (g.P.SectorView.space c.owner.new.space) (g.P.SectorView.space c.owned.new.space) c.owner.ensures.looked.reads c.owned.ensures.looked.reads).looks.same.tells ∙ tells) c.args.path.now n.0 a.0 (ap (λ (k : Content). to_attribute (tree_of k) c.args.path.now c.args.name.now) there ∙ a.1) n.2 in
    if_ok c.delete_now.result came (λ said is. delete_waits c.args.path.now c.args.name.now c.args.volume.now c.delete_now.new.volume (g.P.SectorView.space c.args.space.now) (g.P.SectorView.space c.delete_now.new.space) said (deletes_behind c.args.path.now c.args.name.now c.args.volume.now c.owned.new.self c.delete_now.new.volume (g.P.SectorView.space c.args.space.now) (g.P.SectorView.space c.owned.new.space) (g.P.SectorView.space c.delete_now.new.space) (volume_both c.args.volume.now c.owner.new.self c.owned.new.self (g.P.SectorView.space c.args.space.now) (g.P.SectorView.space c.owner.new.space) (g.P.SectorView.space c.owned.new.space) c.owner.ensures.looked.reads c.owned.ensures.looked.reads) tells said is))

pub returns-in-Some-clause-unmet : goal.returns-in-Some-clause-unmet
returns-in-Some-clause-unmet g c tells =
    let n = node_told c.sound_has_plain_tree.ensures c.args.volume.now (g.P.SectorView.space c.args.space.now).content (c.requires.serves.stands.stands tells).trees (c.requires.serves.settled tells) c.args.path.now (sym c.is_private_path.ensures ∙ c.if-is_private_path.false) c.requires.fits c.in_ok-id.field-0 (c.in_ok-id.ensures.found tells) c.in-Ok.id c.in-Ok.is in
    let a = attribute_told c.sound_has_plain_tree.ensures c.args.volume.now (g.P.SectorView.space c.args.space.now).content (c.requires.serves.stands.stands tells).trees (c.requires.serves.settled tells) c.args.path.now c.args.name.now (sym c.is_private_path.ensures ∙ c.if-is_private_path.false) c.requires.fits c.in_ok-id.field-0 (c.in_ok-id.ensures.found tells) c.in-Ok.id c.in-Ok.is n.0 n.1 c.in-Some.others
    (sym c.in-Some.is ∙ c.in_ok-others-in-Ok.ensures.found (c.owner.ensures.looked.reads.looks.same.tells ∙ tells) ∙ ap (λ (l : VolumeState). others_owned l.attribute_pairs c.in-Ok.id c.args.name.now) (lists_still c.args.volume.now c.owner.new.self (g.P.SectorView.space c.args.space.now) (g.P.SectorView.space c.owner.new.space) c.owner.ensures.looked.reads tells)) in
    let there : (g.P.SectorView.space c.owned.new.space).content ≡ (g.P.SectorView.space c.args.space.now).content = (volume_both c.args.volume.now c.owner.new.self c.owned.new.self (g.P.SectorView.space c.args.space.now) (g.P.SectorView.space c.owner.new.space) (g.P.SectorView.space c.owned.new.space) c.owner.ensures.looked.reads c.owned.ensures.looked.reads).looks.content tells in
    let came = c.delete_now.ensures.answer ((volume_both c.args.volume.now c.owner.new.self c.owned.new.self (g.P.SectorView.space c.args.space.now) (g.P.SectorView.space c.owner.new.space) (g.P.SectorView.space c.owned.new.space) c.owner.ensures.looked.reads c.owned.ensures.looked.reads).looks.same.tells ∙ tells) c.args.path.now n.0 a.0 (ap (λ (k : Content). to_attribute (tree_of k) c.args.path.now c.args.name.now) there ∙ a.1) n.2 in
    if_ok c.delete_now.result came (λ said is. delete_unmet c.args.path.now c.args.name.now c.args.volume.now c.delete_now.new.volume (g.P.SectorView.space c.args.space.now) (g.P.SectorView.space c.delete_now.new.space) said (deletes_behind c.args.path.now c.args.name.now c.args.volume.now c.owned.new.self c.delete_now.new.volume (g.P.SectorView.space c.args.space.now) (g.P.SectorView.space c.owned.new.space) (g.P.SectorView.space c.delete_now.new.space) (volume_both c.args.volume.now c.owner.new.self c.owned.new.self (g.P.SectorView.space c.args.space.now) (g.P.SectorView.space c.owner.new.space) (g.P.SectorView.space c.owned.new.space) c.owner.ensures.looked.reads c.owned.ensures.looked.reads) tells said is))

pub returns-in-Some-clause-waiting : goal.returns-in-Some-clause-waiting
returns-in-Some-clause-waiting g c tells =
    let n = node_told c.sound_has_plain_tree.ensures c.args.volume.now (g.P.SectorView.space c.args.space.now).content (c.requires.serves.stands.stands tells).trees (c.requires.serves.settled tells) c.args.path.now (sym c.is_private_path.ensures ∙ c.if-is_private_path.false) c.requires.fits c.in_ok-id.field-0 (c.in_ok-id.ensures.found tells) c.in-Ok.id c.in-Ok.is in
    let a = attribute_told c.sound_has_plain_tree.ensures c.args.volume.now (g.P.SectorView.space c.args.space.now).content (c.requires.serves.stands.stands tells).trees (c.requires.serves.settled tells) c.args.path.now c.args.name.now (sym c.is_private_path.ensures ∙ c.if-is_private_path.false) c.requires.fits c.in_ok-id.field-0 (c.in_ok-id.ensures.found tells) c.in-Ok.id c.in-Ok.is n.0 n.1 c.in-Some.others
    (sym c.in-Some.is ∙ c.in_ok-others-in-Ok.ensures.found (c.owner.ensures.looked.reads.looks.same.tells ∙ tells) ∙ ap (λ (l : VolumeState). others_owned l.attribute_pairs c.in-Ok.id c.args.name.now) (lists_still c.args.volume.now c.owner.new.self (g.P.SectorView.space c.args.space.now) (g.P.SectorView.space c.owner.new.space) c.owner.ensures.looked.reads tells)) in
    let there : (g.P.SectorView.space c.owned.new.space).content ≡ (g.P.SectorView.space c.args.space.now).content = (volume_both c.args.volume.now c.owner.new.self c.owned.new.self (g.P.SectorView.space c.args.space.now) (g.P.SectorView.space c.owner.new.space) (g.P.SectorView.space c.owned.new.space) c.owner.ensures.looked.reads c.owned.ensures.looked.reads).looks.content tells in
    let came = c.delete_now.ensures.answer ((volume_both c.args.volume.now c.owner.new.self c.owned.new.self (g.P.SectorView.space c.args.space.now) (g.P.SectorView.space c.owner.new.space) (g.P.SectorView.space c.owned.new.space) c.owner.ensures.looked.reads c.owned.ensures.looked.reads).looks.same.tells ∙ tells) c.args.path.now n.0 a.0 (ap (λ (k : Content). to_attribute (tree_of k) c.args.path.now c.args.name.now) there ∙ a.1) n.2 in
    if_ok c.delete_now.result came (λ said is. delete_waiting c.args.path.now c.args.name.now c.args.volume.now c.delete_now.new.volume (g.P.SectorView.space c.args.space.now) (g.P.SectorView.space c.delete_now.new.space) (sym c.is_private_path.ensures ∙ c.if-is_private_path.false) n.0 a.0 a.1 said)

pub returns-in-Some-clause-loads : goal.returns-in-Some-clause-loads
returns-in-Some-clause-loads g c tells n_load grow is =
    let n = node_told c.sound_has_plain_tree.ensures c.args.volume.now (g.P.SectorView.space c.args.space.now).content (c.requires.serves.stands.stands tells).trees (c.requires.serves.settled tells) c.args.path.now (sym c.is_private_path.ensures ∙ c.if-is_private_path.false) c.requires.fits c.in_ok-id.field-0 (c.in_ok-id.ensures.found tells) c.in-Ok.id c.in-Ok.is in
    let a = attribute_told c.sound_has_plain_tree.ensures c.args.volume.now (g.P.SectorView.space c.args.space.now).content (c.requires.serves.stands.stands tells).trees (c.requires.serves.settled tells) c.args.path.now c.args.name.now (sym c.is_private_path.ensures ∙ c.if-is_private_path.false) c.requires.fits c.in_ok-id.field-0 (c.in_ok-id.ensures.found tells) c.in-Ok.id c.in-Ok.is n.0 n.1 c.in-Some.others
    (sym c.in-Some.is ∙ c.in_ok-others-in-Ok.ensures.found (c.owner.ensures.looked.reads.looks.same.tells ∙ tells) ∙ ap (λ (l : VolumeState). others_owned l.attribute_pairs c.in-Ok.id c.args.name.now) (lists_still c.args.volume.now c.owner.new.self (g.P.SectorView.space c.args.space.now) (g.P.SectorView.space c.owner.new.space) c.owner.ensures.looked.reads tells)) in
    let there : (g.P.SectorView.space c.owned.new.space).content ≡ (g.P.SectorView.space c.args.space.now).content = (volume_both c.args.volume.now c.owner.new.self c.owned.new.self (g.P.SectorView.space c.args.space.now) (g.P.SectorView.space c.owner.new.space) (g.P.SectorView.space c.owned.new.space) c.owner.ensures.looked.reads c.owned.ensures.looked.reads).looks.content tells in
    let counted = c.delete_now.ensures.loads ((volume_both c.args.volume.now c.owner.new.self c.owned.new.self (g.P.SectorView.space c.args.space.now) (g.P.SectorView.space c.owner.new.space) (g.P.SectorView.space c.owned.new.space) c.owner.ensures.looked.reads c.owned.ensures.looked.reads).looks.same.tells ∙ tells) c.args.path.now n.0 a.0 n_load grow (ap (λ (k : Content). to_attribute (tree_of k) c.args.path.now c.args.name.now) there ∙ a.1) n.2
    (subst (λ (k : (ℕ × BlockMap) × Content). weight_with k.0.0 (free_of k.0.1) (volume_of k.1) (tree_of k.1) (command.DelAttr c.args.path.now c.args.name.now) ≡ cost.Load n_load grow) {x = ((c.args.volume.now.capacity, c.args.volume.now.map), (g.P.SectorView.space c.args.space.now).content)} {y = ((c.owned.new.self.capacity, c.owned.new.self.map), (g.P.SectorView.space c.owned.new.space).content)}
    (λ i. ((sym (volume_both c.args.volume.now c.owner.new.self c.owned.new.self (g.P.SectorView.space c.args.space.now) (g.P.SectorView.space c.owner.new.space) (g.P.SectorView.space c.owned.new.space) c.owner.ensures.looked.reads c.owned.ensures.looked.reads).keeps.capacity i, sym (volume_both c.args.volume.now c.owner.new.self c.owned.new.self (g.P.SectorView.space c.args.space.now) (g.P.SectorView.space c.owner.new.space) (g.P.SectorView.space c.owned.new.space) c.owner.ensures.looked.reads c.owned.ensures.looked.reads).keeps.map i), sym there i)) is) in
    omega (arith, counted, (volume_both c.args.volume.now c.owner.new.self c.owned.new.self (g.P.SectorView.space c.args.space.now) (g.P.SectorView.space c.owner.new.space) (g.P.SectorView.space c.owned.new.space) c.owner.ensures.looked.reads c.owned.ensures.looked.reads).looks.spare)

pub returns-in-Some-clause-frees : goal.returns-in-Some-clause-frees
returns-in-Some-clause-frees g c = frees_behind g.met.P.SectorView.follows_trans (looked_both g.met.P.SectorView.follows_trans c.owner.ensures.looked c.owned.ensures.looked) c.delete_now.ensures.frees

pub returns-in-Some-clause-serves : goal.returns-in-Some-clause-serves
returns-in-Some-clause-serves g c =
    serves_from c.delete_now.result c.delete_now.new.volume (g.P.SectorView.space c.delete_now.new.space) c.delete_now.ensures.frees.ran.stands (λ told.
    let tells = sym (volume_both c.args.volume.now c.owner.new.self c.owned.new.self (g.P.SectorView.space c.args.space.now) (g.P.SectorView.space c.owner.new.space) (g.P.SectorView.space c.owned.new.space) c.owner.ensures.looked.reads c.owned.ensures.looked.reads).looks.same.tells ∙ sym ((c.delete_now.ensures.frees.ran.touches (g.P.SectorView.space c.args.space.now).content).same.tells) ∙ told in
    let n = node_told c.sound_has_plain_tree.ensures c.args.volume.now (g.P.SectorView.space c.args.space.now).content (c.requires.serves.stands.stands tells).trees (c.requires.serves.settled tells) c.args.path.now (sym c.is_private_path.ensures ∙ c.if-is_private_path.false) c.requires.fits c.in_ok-id.field-0 (c.in_ok-id.ensures.found tells) c.in-Ok.id c.in-Ok.is in
    let a = attribute_told c.sound_has_plain_tree.ensures c.args.volume.now (g.P.SectorView.space c.args.space.now).content (c.requires.serves.stands.stands tells).trees (c.requires.serves.settled tells) c.args.path.now c.args.name.now (sym c.is_private_path.ensures ∙ c.if-is_private_path.false) c.requires.fits c.in_ok-id.field-0 (c.in_ok-id.ensures.found tells) c.in-Ok.id c.in-Ok.is n.0 n.1 c.in-Some.others
    (sym c.in-Some.is ∙ c.in_ok-others-in-Ok.ensures.found (c.owner.ensures.looked.reads.looks.same.tells ∙ tells) ∙ ap (λ (l : VolumeState). others_owned l.attribute_pairs c.in-Ok.id c.args.name.now) (lists_still c.args.volume.now c.owner.new.self (g.P.SectorView.space c.args.space.now) (g.P.SectorView.space c.owner.new.space) c.owner.ensures.looked.reads tells)) in
    let there : (g.P.SectorView.space c.owned.new.space).content ≡ (g.P.SectorView.space c.args.space.now).content = (volume_both c.args.volume.now c.owner.new.self c.owned.new.self (g.P.SectorView.space c.args.space.now) (g.P.SectorView.space c.owner.new.space) (g.P.SectorView.space c.owned.new.space) c.owner.ensures.looked.reads c.owned.ensures.looked.reads).looks.content tells in
    let came = c.delete_now.ensures.answer ((volume_both c.args.volume.now c.owner.new.self c.owned.new.self (g.P.SectorView.space c.args.space.now) (g.P.SectorView.space c.owner.new.space) (g.P.SectorView.space c.owned.new.space) c.owner.ensures.looked.reads c.owned.ensures.looked.reads).looks.same.tells ∙ tells) c.args.path.now n.0 a.0 (ap (λ (k : Content). to_attribute (tree_of k) c.args.path.now c.args.name.now) there ∙ a.1) n.2 in
    on_ok_of c.delete_now.result came (λ said is. (delete_serves c.args.path.now c.args.name.now c.args.volume.now c.delete_now.new.volume (g.P.SectorView.space c.args.space.now) (g.P.SectorView.space c.delete_now.new.space) said (deletes_behind c.args.path.now c.args.name.now c.args.volume.now c.owned.new.self c.delete_now.new.volume (g.P.SectorView.space c.args.space.now) (g.P.SectorView.space c.owned.new.space) (g.P.SectorView.space c.delete_now.new.space) (volume_both c.args.volume.now c.owner.new.self c.owned.new.self (g.P.SectorView.space c.args.space.now) (g.P.SectorView.space c.owner.new.space) (g.P.SectorView.space c.owned.new.space) c.owner.ensures.looked.reads c.owned.ensures.looked.reads) tells said is)).settled told))

pub returns-in-Err-clause-reply : goal.returns-in-Err-clause-reply
returns-in-Err-clause-reply g c tells =
    (path_refused (tree_of (g.P.SectorView.space c.args.space.now).content) c.args.path.now c.args.name.now (sym c.is_private_path.ensures ∙ c.if-is_private_path.false) c.in-Err.why (node_refused c.sound_has_plain_tree.ensures c.args.volume.now (g.P.SectorView.space c.args.space.now).content (c.requires.serves.stands.stands tells).trees (c.requires.serves.settled tells) c.args.path.now (sym c.is_private_path.ensures ∙ c.if-is_private_path.false) c.requires.fits c.in_ok-id.field-0 (c.in_ok-id.ensures.found tells) c.in-Err.why c.in-Err.is)).0

pub returns-in-Err-clause-tree : goal.returns-in-Err-clause-tree
returns-in-Err-clause-tree g c tells =
    ap (λ (k : Content). tree_of k) (c.owner.ensures.looked.reads.looks.content tells) ∙ (path_refused (tree_of (g.P.SectorView.space c.args.space.now).content) c.args.path.now c.args.name.now (sym c.is_private_path.ensures ∙ c.if-is_private_path.false) c.in-Err.why (node_refused c.sound_has_plain_tree.ensures c.args.volume.now (g.P.SectorView.space c.args.space.now).content (c.requires.serves.stands.stands tells).trees (c.requires.serves.settled tells) c.args.path.now (sym c.is_private_path.ensures ∙ c.if-is_private_path.false) c.requires.fits c.in_ok-id.field-0 (c.in_ok-id.ensures.found tells) c.in-Err.why c.in-Err.is)).1

pub returns-in-Err-clause-refused : goal.returns-in-Err-clause-refused
returns-in-Err-clause-refused g c tells is = c.owner.ensures.looked.reads.looks.content tells

pub returns-in-Err-clause-lists : goal.returns-in-Err-clause-lists
returns-in-Err-clause-lists g c tells ok = absurd (cc ok)

pub returns-in-Err-clause-serves : goal.returns-in-Err-clause-serves
returns-in-Err-clause-serves g c = serves_still c.owner.ensures.looked c.requires.serves

pub returns-in-Err-clause-frees : goal.returns-in-Err-clause-frees
returns-in-Err-clause-frees g c = frees_ok (frees_looked c.in_ok-id.ensures.looked)

pub returns-in-Err-clause-loads : goal.returns-in-Err-clause-loads
returns-in-Err-clause-loads g c tells n grow is = omega (arith, c.owner.ensures.looked.reads.looks.spare)

pub returns-in-None-clause-lists : goal.returns-in-None-clause-lists
returns-in-None-clause-lists g c tells ok = absurd (cc ok)

pub returns-in-None-clause-refused : goal.returns-in-None-clause-refused
returns-in-None-clause-refused g c tells is = (volume_both c.args.volume.now c.owner.new.self c.owned.new.self (g.P.SectorView.space c.args.space.now) (g.P.SectorView.space c.owner.new.space) (g.P.SectorView.space c.owned.new.space) c.owner.ensures.looked.reads c.owned.ensures.looked.reads).looks.content tells

pub returns-in-None-clause-frees : goal.returns-in-None-clause-frees
returns-in-None-clause-frees g c = frees_ok (frees_looked (looked_both g.met.P.SectorView.follows_trans c.owner.ensures.looked c.in_ok-others-in-Ok.ensures.looked))

pub returns-in-None-clause-loads : goal.returns-in-None-clause-loads
returns-in-None-clause-loads g c tells n grow is = omega (arith, (volume_both c.args.volume.now c.owner.new.self c.owned.new.self (g.P.SectorView.space c.args.space.now) (g.P.SectorView.space c.owner.new.space) (g.P.SectorView.space c.owned.new.space) c.owner.ensures.looked.reads c.owned.ensures.looked.reads).looks.spare)

pub returns-then-is_private_path-clause-reply : goal.returns-then-is_private_path-clause-reply
returns-then-is_private_path-clause-reply g c tells = (delete_private (tree_of (g.P.SectorView.space c.args.space.now).content) c.args.path.now c.args.name.now (sym c.is_private_path.ensures ∙ c.if-is_private_path.true)).0

pub returns-then-is_private_path-clause-tree : goal.returns-then-is_private_path-clause-tree
returns-then-is_private_path-clause-tree g c tells = (delete_private (tree_of (g.P.SectorView.space c.args.space.now).content) c.args.path.now c.args.name.now (sym c.is_private_path.ensures ∙ c.if-is_private_path.true)).1

pub returns-then-is_private_path-clause-lists : goal.returns-then-is_private_path-clause-lists
returns-then-is_private_path-clause-lists g c tells ok = absurd (cc ok)

pub returns-then-is_private_path-clause-frees : goal.returns-then-is_private_path-clause-frees
returns-then-is_private_path-clause-frees g c = frees_none g.met.P.SectorView.follows_refl c.requires.serves.stands

pub returns-in-None-clause-reply : goal.returns-in-None-clause-reply
returns-in-None-clause-reply g c tells =
    let n = node_told c.sound_has_plain_tree.ensures c.args.volume.now (g.P.SectorView.space c.args.space.now).content (c.requires.serves.stands.stands tells).trees (c.requires.serves.settled tells) c.args.path.now (sym c.is_private_path.ensures ∙ c.if-is_private_path.false) c.requires.fits c.in_ok-id.field-0 (c.in_ok-id.ensures.found tells) c.in-Ok.id c.in-Ok.is in
    (attribute_untold c.sound_has_plain_tree.ensures c.args.volume.now (g.P.SectorView.space c.args.space.now).content (c.requires.serves.stands.stands tells).trees (c.requires.serves.settled tells) c.args.path.now c.args.name.now (sym c.is_private_path.ensures ∙ c.if-is_private_path.false) c.requires.fits c.in_ok-id.field-0 (c.in_ok-id.ensures.found tells) c.in-Ok.id c.in-Ok.is n.0 n.1
    (sym c.in-None.is ∙ c.in_ok-others-in-Ok.ensures.found (c.owner.ensures.looked.reads.looks.same.tells ∙ tells) ∙ ap (λ (l : VolumeState). others_owned l.attribute_pairs c.in-Ok.id c.args.name.now) (lists_still c.args.volume.now c.owner.new.self (g.P.SectorView.space c.args.space.now) (g.P.SectorView.space c.owner.new.space) c.owner.ensures.looked.reads tells))).0

pub returns-in-None-clause-tree : goal.returns-in-None-clause-tree
returns-in-None-clause-tree g c tells =
    let n = node_told c.sound_has_plain_tree.ensures c.args.volume.now (g.P.SectorView.space c.args.space.now).content (c.requires.serves.stands.stands tells).trees (c.requires.serves.settled tells) c.args.path.now (sym c.is_private_path.ensures ∙ c.if-is_private_path.false) c.requires.fits c.in_ok-id.field-0 (c.in_ok-id.ensures.found tells) c.in-Ok.id c.in-Ok.is in
    ap (λ (k : Content). tree_of k) ((volume_both c.args.volume.now c.owner.new.self c.owned.new.self (g.P.SectorView.space c.args.space.now) (g.P.SectorView.space c.owner.new.space) (g.P.SectorView.space c.owned.new.space) c.owner.ensures.looked.reads c.owned.ensures.looked.reads).looks.content tells) ∙ (attribute_untold c.sound_has_plain_tree.ensures c.args.volume.now (g.P.SectorView.space c.args.space.now).content (c.requires.serves.stands.stands tells).trees (c.requires.serves.settled tells) c.args.path.now c.args.name.now (sym c.is_private_path.ensures ∙ c.if-is_private_path.false) c.requires.fits c.in_ok-id.field-0 (c.in_ok-id.ensures.found tells) c.in-Ok.id c.in-Ok.is n.0 n.1
    (sym c.in-None.is ∙ c.in_ok-others-in-Ok.ensures.found (c.owner.ensures.looked.reads.looks.same.tells ∙ tells) ∙ ap (λ (l : VolumeState). others_owned l.attribute_pairs c.in-Ok.id c.args.name.now) (lists_still c.args.volume.now c.owner.new.self (g.P.SectorView.space c.args.space.now) (g.P.SectorView.space c.owner.new.space) c.owner.ensures.looked.reads tells))).1

pub returns-in_err-others-in-Ok-clause-frees : goal.returns-in_err-others-in-Ok-clause-frees
returns-in_err-others-in-Ok-clause-frees g c = frees_err c.from_residual-in_err-others-in-Ok.ensures.1 (frees_looked (looked_both g.met.P.SectorView.follows_trans c.owner.ensures.looked c.in_err-others-in-Ok.ensures.looked))

pub returns-in_err-others-in-Ok-clause-loads : goal.returns-in_err-others-in-Ok-clause-loads
returns-in_err-others-in-Ok-clause-loads g c tells n grow is = omega (arith, (volume_both c.args.volume.now c.owner.new.self c.owned.new.self (g.P.SectorView.space c.args.space.now) (g.P.SectorView.space c.owner.new.space) (g.P.SectorView.space c.owned.new.space) c.owner.ensures.looked.reads c.owned.ensures.looked.reads).looks.spare)

pub returns-in_err-id-clause-frees : goal.returns-in_err-id-clause-frees
returns-in_err-id-clause-frees g c = frees_err c.from_residual.ensures.1 (frees_looked c.in_err-id.ensures.looked)

pub returns-in_err-id-clause-loads : goal.returns-in_err-id-clause-loads
returns-in_err-id-clause-loads g c tells n grow is = omega (arith, c.owner.ensures.looked.reads.looks.spare)
