use Rattle.std.proofs.Common.{◌≡◌, ℕ, List, sym, ◌∙◌, ap, subst, arith, inl, inr}
use Rattle.std.proofs.lemmas.Bool.{true≢false}
use Rattle.sector_disk.specs.Lists.{Content}
use Rattle.hard_links.specs.Linking.{NamesLink}
use Rattle.hfs_language.specs.Written.{FitsPath}
use Rattle.hfs_language.specs.declared.command.Command.TheVariants as command
use Rattle.hfs_model.specs.Step.{is_private_path, step}
use Rattle.hfs_model.specs.declared.plain.PlainEntry.{PlainEntry}
use Rattle.hfs_volume.specs.Content.{VolumeState}
use Rattle.hfs_volume.specs.TreeOf.{tree_of}
use Rattle.volume_base.specs.Lists.{lists_of}
use Rattle.volume_base.specs.Losing.{IsLoss, IsOnlyName, place_of}
use Rattle.volume_names.specs.Losing.{LosesName}
use Rattle.volume_base.specs.Making.{path_to}
use Rattle.volume_base.specs.Standing.{IsSettled}
use Rattle.volume_base.proofs.Lost.{is_loss, link_name, lose_room_still, losing_refused, lost, lost_allowed, lost_line, lost_step, only_name, refused_line}
use Rattle.volume_base.proofs.Sited.{fits_above, fits_name}
use Rattle.volume_base.proofs.Still.{lists_still}
use Rattle.volume_names.proofs.LossLoads.{leaves_loss_still, loss_still}
use Rattle.volume_names.proofs.LossWeight.{loss_counted, loss_load}
use Rattle.volume_names.specs.LossLoads.{LeavesLoss, LeavesOthers, NoneOr, SpendsFor, SpendsLoss}
use Rattle.volume_base.proofs.Framed.{edits_err, edits_ok, edits_spent}
use Rattle.volume_base.proofs.Joined.{edits_both, edits_serves}
use Rattle.volume_names.proofs.losing.rm_under.Goals as goal

pub losing-requires-clause-fits : goal.losing-requires-clause-fits
losing-requires-clause-fits g c = fits_above c.args.above.now c.args.name.now c.requires.fits

pub losing-requires-clause-name : goal.losing-requires-clause-name
losing-requires-clause-name g c = (fits_name c.args.above.now c.args.name.now c.requires.fits).short

pub lose-requires-clause-some : goal.lose-requires-clause-some
lose-requires-clause-some g c = (fits_name c.args.above.now c.args.name.now c.requires.fits).some

pub lose-requires-clause-name : goal.lose-requires-clause-name
lose-requires-clause-name g c = (fits_name c.args.above.now c.args.name.now c.requires.fits).short

pub lose-requires-clause-room : goal.lose-requires-clause-room
lose-requires-clause-room g c = lose_room_still c.args.volume.now c.losing.new.volume (g.P.SectorView.space c.args.space.now) (g.P.SectorView.space c.losing.new.space) c.losing.ensures.looked.reads c.requires.room

pub returns-in_ok-lose-in-Ok-clause-refused : goal.returns-in_ok-lose-in-Ok-clause-refused
returns-in_ok-lose-in-Ok-clause-refused g c tells is = absurd (true≢false (sym is))

pub returns-in_ok-lose-in-Ok-clause-edits : goal.returns-in_ok-lose-in-Ok-clause-edits
returns-in_ok-lose-in-Ok-clause-edits g c = edits_ok (edits_spent (edits_both g.met.P.SectorView.follows_trans c.losing.ensures.looked.edits c.in_ok-lose-in-Ok.ensures.edits) (λ tells. omega arith))

pub returns-in_ok-lose-in-Ok-clause-serves : goal.returns-in_ok-lose-in-Ok-clause-serves
returns-in_ok-lose-in-Ok-clause-serves g c =
    edits_serves (returns-in_ok-lose-in-Ok-clause-edits g c) (λ tells. let later = c.losing.ensures.looked.reads.looks.same.tells ∙ tells in
    let loss = (is_loss c.sound_has_plain_tree.ensures c.args.volume.now (g.P.SectorView.space c.args.space.now).content (c.requires.serves.stands.stands tells).trees (c.requires.serves.settled tells) c.args.above.now c.args.name.now c.requires.not_own c.requires.fits c.in_ok-at.field-0 (c.in_ok-at.ensures.found tells) c.in-Ok.at c.in-Ok.is) in
    let does = (subst (λ (p : List (List ℕ)). (entry : PlainEntry) → IsLoss (tree_of (g.P.SectorView.space c.losing.new.space).content) p entry (place_of c.in-Ok.at c.args.name.now)
    → IsSettled c.lose.new.volume (g.P.SectorView.space c.lose.new.space).content × (tree_of (g.P.SectorView.space c.lose.new.space).content ≡ (step (tree_of (g.P.SectorView.space c.losing.new.space).content) (command.Rm p)).1)
    × LosesName entry (g.P.SectorView.space c.losing.new.space).content (g.P.SectorView.space c.lose.new.space).content) c.requires.split (c.in_ok-lose-in-Ok.ensures.does later)) (lost c.sound_has_plain_tree.ensures c.args.volume.now (g.P.SectorView.space c.args.space.now).content (c.requires.serves.stands.stands tells).trees (c.requires.serves.settled tells) c.args.above.now c.args.name.now c.requires.not_own c.requires.fits c.in_ok-at.field-0 (c.in_ok-at.ensures.found tells) c.in-Ok.at c.in-Ok.is) (subst (λ (k : Content). IsLoss (tree_of k) (path_to c.args.above.now c.args.name.now) (lost c.sound_has_plain_tree.ensures c.args.volume.now (g.P.SectorView.space c.args.space.now).content (c.requires.serves.stands.stands tells).trees (c.requires.serves.settled tells) c.args.above.now c.args.name.now c.requires.not_own c.requires.fits c.in_ok-at.field-0 (c.in_ok-at.ensures.found tells) c.in-Ok.at c.in-Ok.is) (place_of c.in-Ok.at c.args.name.now)) (sym (c.losing.ensures.looked.reads.looks.content tells)) loss) in
    does.0)

pub returns-in_err-lose-in-Ok-clause-edits : goal.returns-in_err-lose-in-Ok-clause-edits
returns-in_err-lose-in-Ok-clause-edits g c =
    edits_err c.from_residual-in_err-lose-in-Ok.ensures.1 (edits_spent (edits_both g.met.P.SectorView.follows_trans c.losing.ensures.looked.edits c.in_err-lose-in-Ok.ensures.edits) (λ tells. omega arith))

pub returns-in-Err-clause-reply : goal.returns-in-Err-clause-reply
returns-in-Err-clause-reply g c tells =
    (refused_line (tree_of (g.P.SectorView.space c.args.space.now).content) (path_to c.args.above.now c.args.name.now) c.in-Err.why c.requires.not_own (losing_refused c.sound_has_plain_tree.ensures c.args.volume.now (g.P.SectorView.space c.args.space.now).content (c.requires.serves.stands.stands tells).trees (c.requires.serves.settled tells) c.args.above.now c.args.name.now c.requires.not_own c.requires.fits c.in_ok-at.field-0 (c.in_ok-at.ensures.found tells) c.in-Err.why c.in-Err.is)).0

pub returns-in-Err-clause-tree : goal.returns-in-Err-clause-tree
returns-in-Err-clause-tree g c tells =
    ap (λ (k : Content). tree_of k) (c.losing.ensures.looked.reads.looks.content tells)
    ∙ (refused_line (tree_of (g.P.SectorView.space c.args.space.now).content) (path_to c.args.above.now c.args.name.now) c.in-Err.why c.requires.not_own (losing_refused c.sound_has_plain_tree.ensures c.args.volume.now (g.P.SectorView.space c.args.space.now).content (c.requires.serves.stands.stands tells).trees (c.requires.serves.settled tells) c.args.above.now c.args.name.now c.requires.not_own c.requires.fits c.in_ok-at.field-0 (c.in_ok-at.ensures.found tells) c.in-Err.why c.in-Err.is)).1

pub returns-in-Err-clause-refused : goal.returns-in-Err-clause-refused
returns-in-Err-clause-refused g c tells is = c.losing.ensures.looked.reads.looks.content tells

pub returns-in-Err-clause-lists : goal.returns-in-Err-clause-lists
returns-in-Err-clause-lists g c tells is = absurd (cc is)

pub lose-requires-clause-only : goal.lose-requires-clause-only
lose-requires-clause-only g c tells plain =
    let before = sym c.losing.ensures.looked.reads.looks.same.tells ∙ tells in
    subst (λ (l : VolumeState). IsOnlyName (place_of c.in-Ok.at c.args.name.now) l.catalog_pairs) (sym (lists_still c.args.volume.now c.losing.new.volume (g.P.SectorView.space c.args.space.now) (g.P.SectorView.space c.losing.new.space) c.losing.ensures.looked.reads before))
    (only_name (lists_of c.args.volume.now (g.P.SectorView.space c.args.space.now).content).catalog_pairs c.args.above.now c.args.name.now c.in-Ok.at (sym (c.in_ok-at.ensures.found before) ∙ c.in-Ok.is) plain)

pub lose-requires-clause-loses : goal.lose-requires-clause-loses
lose-requires-clause-loses g c tells =
    let before = sym c.losing.ensures.looked.reads.looks.same.tells ∙ tells in
    ((lost c.sound_has_plain_tree.ensures c.args.volume.now (g.P.SectorView.space c.args.space.now).content (c.requires.serves.stands.stands before).trees (c.requires.serves.settled before) c.args.above.now c.args.name.now c.requires.not_own c.requires.fits c.in_ok-at.field-0 (c.in_ok-at.ensures.found before) c.in-Ok.at c.in-Ok.is), subst (λ (k : Content × List (List ℕ)). IsLoss (tree_of k.0) k.1 (lost c.sound_has_plain_tree.ensures c.args.volume.now (g.P.SectorView.space c.args.space.now).content (c.requires.serves.stands.stands before).trees (c.requires.serves.settled before) c.args.above.now c.args.name.now c.requires.not_own c.requires.fits c.in_ok-at.field-0 (c.in_ok-at.ensures.found before) c.in-Ok.at c.in-Ok.is) (place_of c.in-Ok.at c.args.name.now)) (λ i. (sym (c.losing.ensures.looked.reads.looks.content before) i, sym c.requires.split i)) (is_loss c.sound_has_plain_tree.ensures c.args.volume.now (g.P.SectorView.space c.args.space.now).content (c.requires.serves.stands.stands before).trees (c.requires.serves.settled before) c.args.above.now c.args.name.now c.requires.not_own c.requires.fits c.in_ok-at.field-0 (c.in_ok-at.ensures.found before) c.in-Ok.at c.in-Ok.is))

pub returns-in_ok-lose-in-Ok-clause-reply : goal.returns-in_ok-lose-in-Ok-clause-reply
returns-in_ok-lose-in-Ok-clause-reply g c tells = (lost_line (tree_of (g.P.SectorView.space c.args.space.now).content) (path_to c.args.above.now c.args.name.now) (lost c.sound_has_plain_tree.ensures c.args.volume.now (g.P.SectorView.space c.args.space.now).content (c.requires.serves.stands.stands tells).trees (c.requires.serves.settled tells) c.args.above.now c.args.name.now c.requires.not_own c.requires.fits c.in_ok-at.field-0 (c.in_ok-at.ensures.found tells) c.in-Ok.at c.in-Ok.is) c.requires.not_own (lost_allowed c.sound_has_plain_tree.ensures c.args.volume.now (g.P.SectorView.space c.args.space.now).content (c.requires.serves.stands.stands tells).trees (c.requires.serves.settled tells) c.args.above.now c.args.name.now c.requires.not_own c.requires.fits c.in_ok-at.field-0 (c.in_ok-at.ensures.found tells) c.in-Ok.at c.in-Ok.is)).0

pub returns-in_ok-lose-in-Ok-clause-tree : goal.returns-in_ok-lose-in-Ok-clause-tree
returns-in_ok-lose-in-Ok-clause-tree g c tells =
    let later = c.losing.ensures.looked.reads.looks.same.tells ∙ tells in
    let loss = (is_loss c.sound_has_plain_tree.ensures c.args.volume.now (g.P.SectorView.space c.args.space.now).content (c.requires.serves.stands.stands tells).trees (c.requires.serves.settled tells) c.args.above.now c.args.name.now c.requires.not_own c.requires.fits c.in_ok-at.field-0 (c.in_ok-at.ensures.found tells) c.in-Ok.at c.in-Ok.is) in
    let does = (subst (λ (p : List (List ℕ)). (entry : PlainEntry) → IsLoss (tree_of (g.P.SectorView.space c.losing.new.space).content) p entry (place_of c.in-Ok.at c.args.name.now)
    → IsSettled c.lose.new.volume (g.P.SectorView.space c.lose.new.space).content × (tree_of (g.P.SectorView.space c.lose.new.space).content ≡ (step (tree_of (g.P.SectorView.space c.losing.new.space).content) (command.Rm p)).1)
    × LosesName entry (g.P.SectorView.space c.losing.new.space).content (g.P.SectorView.space c.lose.new.space).content) c.requires.split (c.in_ok-lose-in-Ok.ensures.does later)) (lost c.sound_has_plain_tree.ensures c.args.volume.now (g.P.SectorView.space c.args.space.now).content (c.requires.serves.stands.stands tells).trees (c.requires.serves.settled tells) c.args.above.now c.args.name.now c.requires.not_own c.requires.fits c.in_ok-at.field-0 (c.in_ok-at.ensures.found tells) c.in-Ok.at c.in-Ok.is) (subst (λ (k : Content). IsLoss (tree_of k) (path_to c.args.above.now c.args.name.now) (lost c.sound_has_plain_tree.ensures c.args.volume.now (g.P.SectorView.space c.args.space.now).content (c.requires.serves.stands.stands tells).trees (c.requires.serves.settled tells) c.args.above.now c.args.name.now c.requires.not_own c.requires.fits c.in_ok-at.field-0 (c.in_ok-at.ensures.found tells) c.in-Ok.at c.in-Ok.is) (place_of c.in-Ok.at c.args.name.now)) (sym (c.losing.ensures.looked.reads.looks.content tells)) loss) in
    does.1
    ∙ ap (λ (k : Content). (step (tree_of k) (command.Rm (path_to c.args.above.now c.args.name.now))).1) (c.losing.ensures.looked.reads.looks.content tells)
    ∙ lost_step (tree_of (g.P.SectorView.space c.args.space.now).content) (path_to c.args.above.now c.args.name.now) (lost c.sound_has_plain_tree.ensures c.args.volume.now (g.P.SectorView.space c.args.space.now).content (c.requires.serves.stands.stands tells).trees (c.requires.serves.settled tells) c.args.above.now c.args.name.now c.requires.not_own c.requires.fits c.in_ok-at.field-0 (c.in_ok-at.ensures.found tells) c.in-Ok.at c.in-Ok.is) (lost_allowed c.sound_has_plain_tree.ensures c.args.volume.now (g.P.SectorView.space c.args.space.now).content (c.requires.serves.stands.stands tells).trees (c.requires.serves.settled tells) c.args.above.now c.args.name.now c.requires.not_own c.requires.fits c.in_ok-at.field-0 (c.in_ok-at.ensures.found tells) c.in-Ok.at c.in-Ok.is)
    ∙ (lost_line (tree_of (g.P.SectorView.space c.args.space.now).content) (path_to c.args.above.now c.args.name.now) (lost c.sound_has_plain_tree.ensures c.args.volume.now (g.P.SectorView.space c.args.space.now).content (c.requires.serves.stands.stands tells).trees (c.requires.serves.settled tells) c.args.above.now c.args.name.now c.requires.not_own c.requires.fits c.in_ok-at.field-0 (c.in_ok-at.ensures.found tells) c.in-Ok.at c.in-Ok.is) c.requires.not_own (lost_allowed c.sound_has_plain_tree.ensures c.args.volume.now (g.P.SectorView.space c.args.space.now).content (c.requires.serves.stands.stands tells).trees (c.requires.serves.settled tells) c.args.above.now c.args.name.now c.requires.not_own c.requires.fits c.in_ok-at.field-0 (c.in_ok-at.ensures.found tells) c.in-Ok.at c.in-Ok.is)).1

pub returns-in_ok-lose-in-Ok-clause-lists : goal.returns-in_ok-lose-in-Ok-clause-lists
returns-in_ok-lose-in-Ok-clause-lists g c tells is =
    let later = c.losing.ensures.looked.reads.looks.same.tells ∙ tells in
    let loss = (is_loss c.sound_has_plain_tree.ensures c.args.volume.now (g.P.SectorView.space c.args.space.now).content (c.requires.serves.stands.stands tells).trees (c.requires.serves.settled tells) c.args.above.now c.args.name.now c.requires.not_own c.requires.fits c.in_ok-at.field-0 (c.in_ok-at.ensures.found tells) c.in-Ok.at c.in-Ok.is) in
    let does = (subst (λ (p : List (List ℕ)). (entry : PlainEntry) → IsLoss (tree_of (g.P.SectorView.space c.losing.new.space).content) p entry (place_of c.in-Ok.at c.args.name.now)
    → IsSettled c.lose.new.volume (g.P.SectorView.space c.lose.new.space).content × (tree_of (g.P.SectorView.space c.lose.new.space).content ≡ (step (tree_of (g.P.SectorView.space c.losing.new.space).content) (command.Rm p)).1)
    × LosesName entry (g.P.SectorView.space c.losing.new.space).content (g.P.SectorView.space c.lose.new.space).content) c.requires.split (c.in_ok-lose-in-Ok.ensures.does later)) (lost c.sound_has_plain_tree.ensures c.args.volume.now (g.P.SectorView.space c.args.space.now).content (c.requires.serves.stands.stands tells).trees (c.requires.serves.settled tells) c.args.above.now c.args.name.now c.requires.not_own c.requires.fits c.in_ok-at.field-0 (c.in_ok-at.ensures.found tells) c.in-Ok.at c.in-Ok.is) (subst (λ (k : Content). IsLoss (tree_of k) (path_to c.args.above.now c.args.name.now) (lost c.sound_has_plain_tree.ensures c.args.volume.now (g.P.SectorView.space c.args.space.now).content (c.requires.serves.stands.stands tells).trees (c.requires.serves.settled tells) c.args.above.now c.args.name.now c.requires.not_own c.requires.fits c.in_ok-at.field-0 (c.in_ok-at.ensures.found tells) c.in-Ok.at c.in-Ok.is) (place_of c.in-Ok.at c.args.name.now)) (sym (c.losing.ensures.looked.reads.looks.content tells)) loss) in
    record {
      entry = (lost c.sound_has_plain_tree.ensures c.args.volume.now (g.P.SectorView.space c.args.space.now).content (c.requires.serves.stands.stands tells).trees (c.requires.serves.settled tells) c.args.above.now c.args.name.now c.requires.not_own c.requires.fits c.in_ok-at.field-0 (c.in_ok-at.ensures.found tells) c.in-Ok.at c.in-Ok.is);
      allowed = (lost_allowed c.sound_has_plain_tree.ensures c.args.volume.now (g.P.SectorView.space c.args.space.now).content (c.requires.serves.stands.stands tells).trees (c.requires.serves.settled tells) c.args.above.now c.args.name.now c.requires.not_own c.requires.fits c.in_ok-at.field-0 (c.in_ok-at.ensures.found tells) c.in-Ok.at c.in-Ok.is);
      loses = subst (λ (k : Content). LosesName (lost c.sound_has_plain_tree.ensures c.args.volume.now (g.P.SectorView.space c.args.space.now).content (c.requires.serves.stands.stands tells).trees (c.requires.serves.settled tells) c.args.above.now c.args.name.now c.requires.not_own c.requires.fits c.in_ok-at.field-0 (c.in_ok-at.ensures.found tells) c.in-Ok.at c.in-Ok.is) k (g.P.SectorView.space c.lose.new.space).content) (c.losing.ensures.looked.reads.looks.content tells) does.2;
    }

pub lose-requires-clause-fits : goal.lose-requires-clause-fits
lose-requires-clause-fits g c = subst FitsPath (sym c.requires.split) c.requires.fits

pub lose-requires-clause-not_own : goal.lose-requires-clause-not_own
lose-requires-clause-not_own g c = ap is_private_path c.requires.split ∙ c.requires.not_own

pub lose-requires-clause-link : goal.lose-requires-clause-link
lose-requires-clause-link g c tells linked =
    let before = sym c.losing.ensures.looked.reads.looks.same.tells ∙ tells in
    subst (λ (l : VolumeState). NamesLink (place_of c.in-Ok.at c.args.name.now) l.catalog_pairs) (sym (lists_still c.args.volume.now c.losing.new.volume (g.P.SectorView.space c.args.space.now) (g.P.SectorView.space c.losing.new.space) c.losing.ensures.looked.reads before))
    (link_name (lists_of c.args.volume.now (g.P.SectorView.space c.args.space.now).content).catalog_pairs c.args.above.now c.args.name.now c.in-Ok.at (sym (c.in_ok-at.ensures.found before) ∙ c.in-Ok.is) linked)

pub returns-in_ok-lose-in-Ok-clause-loads : goal.returns-in_ok-lose-in-Ok-clause-loads
returns-in_ok-lose-in-Ok-clause-loads g c tells =
    let later = c.losing.ensures.looked.reads.looks.same.tells ∙ tells in
    let loss = (is_loss c.sound_has_plain_tree.ensures c.args.volume.now (g.P.SectorView.space c.args.space.now).content (c.requires.serves.stands.stands tells).trees (c.requires.serves.settled tells) c.args.above.now c.args.name.now c.requires.not_own c.requires.fits c.in_ok-at.field-0 (c.in_ok-at.ensures.found tells) c.in-Ok.at c.in-Ok.is) in
    let spends = (subst (λ (p : List (List ℕ)). (entry : PlainEntry) → IsLoss (tree_of (g.P.SectorView.space c.losing.new.space).content) p entry (place_of c.in-Ok.at c.args.name.now) → NoneOr (SpendsLoss c.in-Ok.at.link entry.id c.losing.new.volume (g.P.SectorView.space c.losing.new.space) (g.P.SectorView.space c.lose.new.space)) (g.P.SectorView.space c.losing.new.space) (g.P.SectorView.space c.lose.new.space)) c.requires.split (c.lose.ensures.spends later))
    (lost c.sound_has_plain_tree.ensures c.args.volume.now (g.P.SectorView.space c.args.space.now).content (c.requires.serves.stands.stands tells).trees (c.requires.serves.settled tells) c.args.above.now c.args.name.now c.requires.not_own c.requires.fits c.in_ok-at.field-0 (c.in_ok-at.ensures.found tells) c.in-Ok.at c.in-Ok.is) (subst (λ (k : Content). IsLoss (tree_of k) (path_to c.args.above.now c.args.name.now) (lost c.sound_has_plain_tree.ensures c.args.volume.now (g.P.SectorView.space c.args.space.now).content (c.requires.serves.stands.stands tells).trees (c.requires.serves.settled tells) c.args.above.now c.args.name.now c.requires.not_own c.requires.fits c.in_ok-at.field-0 (c.in_ok-at.ensures.found tells) c.in-Ok.at c.in-Ok.is) (place_of c.in-Ok.at c.args.name.now)) (sym (c.losing.ensures.looked.reads.looks.content tells)) loss) in
    elim spends [
      | inl none ↦ λ n grow is. omega (arith, none, c.losing.ensures.looked.reads.looks.spare)
      | inr it ↦
          loss_load c.sound_has_plain_tree.ensures c.args.volume.now (g.P.SectorView.space c.args.space.now) (c.requires.serves.stands.stands tells) (c.requires.serves.settled tells) c.requires.serves.stands.service.fits.next_catalog_id c.args.above.now c.args.name.now c.requires.not_own c.requires.fits c.in_ok-at.field-0 (c.in_ok-at.ensures.found tells) c.in-Ok.at c.in-Ok.is (g.P.SectorView.space c.lose.new.space)
          (loss_still c.in-Ok.at.link (lost c.sound_has_plain_tree.ensures c.args.volume.now (g.P.SectorView.space c.args.space.now).content (c.requires.serves.stands.stands tells).trees (c.requires.serves.settled tells) c.args.above.now c.args.name.now c.requires.not_own c.requires.fits c.in_ok-at.field-0 (c.in_ok-at.ensures.found tells) c.in-Ok.at c.in-Ok.is).id c.args.volume.now c.losing.new.volume (g.P.SectorView.space c.args.space.now) (g.P.SectorView.space c.losing.new.space) (g.P.SectorView.space c.lose.new.space) c.losing.ensures.looked.reads tells it)
    ]

pub returns-in_err-lose-in-Ok-clause-loads : goal.returns-in_err-lose-in-Ok-clause-loads
returns-in_err-lose-in-Ok-clause-loads g c tells =
    let later = c.losing.ensures.looked.reads.looks.same.tells ∙ tells in
    let loss = (is_loss c.sound_has_plain_tree.ensures c.args.volume.now (g.P.SectorView.space c.args.space.now).content (c.requires.serves.stands.stands tells).trees (c.requires.serves.settled tells) c.args.above.now c.args.name.now c.requires.not_own c.requires.fits c.in_ok-at.field-0 (c.in_ok-at.ensures.found tells) c.in-Ok.at c.in-Ok.is) in
    let spends = (subst (λ (p : List (List ℕ)). (entry : PlainEntry) → IsLoss (tree_of (g.P.SectorView.space c.losing.new.space).content) p entry (place_of c.in-Ok.at c.args.name.now) → NoneOr (SpendsLoss c.in-Ok.at.link entry.id c.losing.new.volume (g.P.SectorView.space c.losing.new.space) (g.P.SectorView.space c.lose.new.space)) (g.P.SectorView.space c.losing.new.space) (g.P.SectorView.space c.lose.new.space)) c.requires.split (c.lose.ensures.spends later))
    (lost c.sound_has_plain_tree.ensures c.args.volume.now (g.P.SectorView.space c.args.space.now).content (c.requires.serves.stands.stands tells).trees (c.requires.serves.settled tells) c.args.above.now c.args.name.now c.requires.not_own c.requires.fits c.in_ok-at.field-0 (c.in_ok-at.ensures.found tells) c.in-Ok.at c.in-Ok.is) (subst (λ (k : Content). IsLoss (tree_of k) (path_to c.args.above.now c.args.name.now) (lost c.sound_has_plain_tree.ensures c.args.volume.now (g.P.SectorView.space c.args.space.now).content (c.requires.serves.stands.stands tells).trees (c.requires.serves.settled tells) c.args.above.now c.args.name.now c.requires.not_own c.requires.fits c.in_ok-at.field-0 (c.in_ok-at.ensures.found tells) c.in-Ok.at c.in-Ok.is) (place_of c.in-Ok.at c.args.name.now)) (sym (c.losing.ensures.looked.reads.looks.content tells)) loss) in
    elim spends [
      | inl none ↦ λ n grow is. omega (arith, none, c.losing.ensures.looked.reads.looks.spare)
      | inr it ↦
          loss_load c.sound_has_plain_tree.ensures c.args.volume.now (g.P.SectorView.space c.args.space.now) (c.requires.serves.stands.stands tells) (c.requires.serves.settled tells) c.requires.serves.stands.service.fits.next_catalog_id c.args.above.now c.args.name.now c.requires.not_own c.requires.fits c.in_ok-at.field-0 (c.in_ok-at.ensures.found tells) c.in-Ok.at c.in-Ok.is (g.P.SectorView.space c.lose.new.space)
          (loss_still c.in-Ok.at.link (lost c.sound_has_plain_tree.ensures c.args.volume.now (g.P.SectorView.space c.args.space.now).content (c.requires.serves.stands.stands tells).trees (c.requires.serves.settled tells) c.args.above.now c.args.name.now c.requires.not_own c.requires.fits c.in_ok-at.field-0 (c.in_ok-at.ensures.found tells) c.in-Ok.at c.in-Ok.is).id c.args.volume.now c.losing.new.volume (g.P.SectorView.space c.args.space.now) (g.P.SectorView.space c.losing.new.space) (g.P.SectorView.space c.lose.new.space) c.losing.ensures.looked.reads tells it)
    ]

pub returns-in-Err-clause-loads : goal.returns-in-Err-clause-loads
returns-in-Err-clause-loads g c tells n grow is = omega (arith, c.losing.ensures.looked.reads.looks.spare)

pub returns-in_err-at-clause-loads : goal.returns-in_err-at-clause-loads
returns-in_err-at-clause-loads g c tells n grow is = omega (arith, c.losing.ensures.looked.reads.looks.spare)

pub returns-in_ok-lose-in-Ok-clause-spends : goal.returns-in_ok-lose-in-Ok-clause-spends
returns-in_ok-lose-in-Ok-clause-spends g c tells =
    let v = c.args.volume.now in
    let old = g.P.SectorView.space c.args.space.now in
    let read = g.P.SectorView.space c.losing.new.space in
    let new = g.P.SectorView.space c.lose.new.space in
    let later = c.losing.ensures.looked.reads.looks.same.tells ∙ tells in
    let entry = lost c.sound_has_plain_tree.ensures v old.content (c.requires.serves.stands.stands tells).trees (c.requires.serves.settled tells) c.args.above.now c.args.name.now c.requires.not_own c.requires.fits c.in_ok-at.field-0 (c.in_ok-at.ensures.found tells) c.in-Ok.at c.in-Ok.is in
    let loss = is_loss c.sound_has_plain_tree.ensures v old.content (c.requires.serves.stands.stands tells).trees (c.requires.serves.settled tells) c.args.above.now c.args.name.now c.requires.not_own c.requires.fits c.in_ok-at.field-0 (c.in_ok-at.ensures.found tells) c.in-Ok.at c.in-Ok.is in
    let loss_read = subst (λ (k : Content). IsLoss (tree_of k) (path_to c.args.above.now c.args.name.now) entry (place_of c.in-Ok.at c.args.name.now)) (sym (c.losing.ensures.looked.reads.looks.content tells)) loss in
    let spends = (subst (λ (p : List (List ℕ)). (e : PlainEntry) → IsLoss (tree_of read.content) p e (place_of c.in-Ok.at c.args.name.now) → NoneOr (SpendsLoss c.in-Ok.at.link e.id c.losing.new.volume read new) read new) c.requires.split (c.lose.ensures.spends later)) entry loss_read in
    elim spends [
      | inl none ↦ inl (omega (arith, none, c.losing.ensures.looked.reads.looks.spare))
      | inr it ↦ inr (loss_counted c.sound_has_plain_tree.ensures v old (c.requires.serves.stands.stands tells) (c.requires.serves.settled tells) c.requires.serves.stands.service.fits.next_catalog_id c.args.above.now c.args.name.now c.requires.not_own c.requires.fits c.in_ok-at.field-0 (c.in_ok-at.ensures.found tells) c.in-Ok.at c.in-Ok.is (λ made. SpendsFor made v old new) (loss_still c.in-Ok.at.link entry.id v c.losing.new.volume old read new c.losing.ensures.looked.reads tells it))
    ]

pub returns-in_err-lose-in-Ok-clause-spends : goal.returns-in_err-lose-in-Ok-clause-spends
returns-in_err-lose-in-Ok-clause-spends g c tells =
    let v = c.args.volume.now in
    let old = g.P.SectorView.space c.args.space.now in
    let read = g.P.SectorView.space c.losing.new.space in
    let new = g.P.SectorView.space c.lose.new.space in
    let later = c.losing.ensures.looked.reads.looks.same.tells ∙ tells in
    let entry = lost c.sound_has_plain_tree.ensures v old.content (c.requires.serves.stands.stands tells).trees (c.requires.serves.settled tells) c.args.above.now c.args.name.now c.requires.not_own c.requires.fits c.in_ok-at.field-0 (c.in_ok-at.ensures.found tells) c.in-Ok.at c.in-Ok.is in
    let loss = is_loss c.sound_has_plain_tree.ensures v old.content (c.requires.serves.stands.stands tells).trees (c.requires.serves.settled tells) c.args.above.now c.args.name.now c.requires.not_own c.requires.fits c.in_ok-at.field-0 (c.in_ok-at.ensures.found tells) c.in-Ok.at c.in-Ok.is in
    let loss_read = subst (λ (k : Content). IsLoss (tree_of k) (path_to c.args.above.now c.args.name.now) entry (place_of c.in-Ok.at c.args.name.now)) (sym (c.losing.ensures.looked.reads.looks.content tells)) loss in
    let spends = (subst (λ (p : List (List ℕ)). (e : PlainEntry) → IsLoss (tree_of read.content) p e (place_of c.in-Ok.at c.args.name.now) → NoneOr (SpendsLoss c.in-Ok.at.link e.id c.losing.new.volume read new) read new) c.requires.split (c.lose.ensures.spends later)) entry loss_read in
    elim spends [
      | inl none ↦ inl (omega (arith, none, c.losing.ensures.looked.reads.looks.spare))
      | inr it ↦ inr (loss_counted c.sound_has_plain_tree.ensures v old (c.requires.serves.stands.stands tells) (c.requires.serves.settled tells) c.requires.serves.stands.service.fits.next_catalog_id c.args.above.now c.args.name.now c.requires.not_own c.requires.fits c.in_ok-at.field-0 (c.in_ok-at.ensures.found tells) c.in-Ok.at c.in-Ok.is (λ made. SpendsFor made v old new) (loss_still c.in-Ok.at.link entry.id v c.losing.new.volume old read new c.losing.ensures.looked.reads tells it))
    ]

pub returns-in-Err-clause-spends : goal.returns-in-Err-clause-spends
returns-in-Err-clause-spends g c tells = inl (omega (arith, c.losing.ensures.looked.reads.looks.spare))

pub returns-in_err-at-clause-spends : goal.returns-in_err-at-clause-spends
returns-in_err-at-clause-spends g c tells = inl (omega (arith, c.losing.ensures.looked.reads.looks.spare))

pub returns-in_ok-lose-in-Ok-clause-leaves : goal.returns-in_ok-lose-in-Ok-clause-leaves
returns-in_ok-lose-in-Ok-clause-leaves g c tells is =
    let v = c.args.volume.now in
    let old = g.P.SectorView.space c.args.space.now in
    let read = g.P.SectorView.space c.losing.new.space in
    let new = g.P.SectorView.space c.lose.new.space in
    let later = c.losing.ensures.looked.reads.looks.same.tells ∙ tells in
    let entry = lost c.sound_has_plain_tree.ensures v old.content (c.requires.serves.stands.stands tells).trees (c.requires.serves.settled tells) c.args.above.now c.args.name.now c.requires.not_own c.requires.fits c.in_ok-at.field-0 (c.in_ok-at.ensures.found tells) c.in-Ok.at c.in-Ok.is in
    let loss = is_loss c.sound_has_plain_tree.ensures v old.content (c.requires.serves.stands.stands tells).trees (c.requires.serves.settled tells) c.args.above.now c.args.name.now c.requires.not_own c.requires.fits c.in_ok-at.field-0 (c.in_ok-at.ensures.found tells) c.in-Ok.at c.in-Ok.is in
    let loss_read = subst (λ (k : Content). IsLoss (tree_of k) (path_to c.args.above.now c.args.name.now) entry (place_of c.in-Ok.at c.args.name.now)) (sym (c.losing.ensures.looked.reads.looks.content tells)) loss in
    let leaves = (subst (λ (p : List (List ℕ)). (e : PlainEntry) → IsLoss (tree_of read.content) p e (place_of c.in-Ok.at c.args.name.now) → LeavesLoss c.in-Ok.at.link e.id c.losing.new.volume read c.lose.new.volume new) c.requires.split (c.in_ok-lose-in-Ok.ensures.leaves later)) entry loss_read in
    loss_counted c.sound_has_plain_tree.ensures v old (c.requires.serves.stands.stands tells) (c.requires.serves.settled tells) c.requires.serves.stands.service.fits.next_catalog_id c.args.above.now c.args.name.now c.requires.not_own c.requires.fits c.in_ok-at.field-0 (c.in_ok-at.ensures.found tells) c.in-Ok.at c.in-Ok.is (λ made. LeavesOthers made v old c.lose.new.volume new) (leaves_loss_still c.in-Ok.at.link entry.id v c.losing.new.volume c.lose.new.volume old read new c.losing.ensures.looked.reads tells leaves)

pub returns-in-Err-clause-leaves : goal.returns-in-Err-clause-leaves
returns-in-Err-clause-leaves g c tells is = absurd (cc is)
