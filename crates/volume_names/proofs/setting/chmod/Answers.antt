use Rattle.std.proofs.Common.{◌≡◌, ℕ, refl, sym, ◌∙◌, ap, subst, arith}
use Rattle.std.specs.List.{Contains}
use Rattle.std.proofs.lemmas.Bool.{true≢false}
use Rattle.sector_disk.specs.Lists.{Content}
use Rattle.hfs_language.specs.declared.command.Command.TheVariants as command
use Rattle.hfs_model.specs.Step.{step, to_node}
use Rattle.hfs_volume.specs.Commands.{ChangesMode}
use Rattle.hfs_volume.specs.Content.{volume_of}
use Rattle.hfs_volume.specs.TreeOf.{tree_of}
use Rattle.volume_base.specs.declared.volume.Volume.{Volume}
use Rattle.volume_base.proofs.FoundEntry.{room_still, node_still}
use Rattle.volume_base.proofs.Loads.{chmod_load}
use Rattle.volume_base.proofs.ToNode.{node_told, node_refused, node_there, mode_replied, mode_line, mode_refused, mode_private}
use Rattle.volume_base.proofs.Framed.{edits_err, edits_none, edits_ok, edits_spent}
use Rattle.volume_base.proofs.Joined.{edits_both, edits_serves}
use Rattle.volume_names.proofs.setting.chmod.Goals as goal

pub set_mode-requires-clause-there : goal.set_mode-requires-clause-there
set_mode-requires-clause-there g c tells =
    let n = node_told c.sound_has_plain_tree.ensures c.args.volume.now (g.P.SectorView.space c.args.space.now).content (c.requires.serves.stands.stands (sym c.owner.ensures.looked.reads.looks.same.tells ∙ tells)).trees (c.requires.serves.settled (sym c.owner.ensures.looked.reads.looks.same.tells ∙ tells)) c.args.path.now (sym c.is_private_path.ensures ∙ c.if-is_private_path.false) c.requires.fits c.in_ok-id.field-0 (c.in_ok-id.ensures.found (sym c.owner.ensures.looked.reads.looks.same.tells ∙ tells)) c.in-Ok.id c.in-Ok.is in
    (n.0, subst (λ (k : Content). Contains (tree_of k).nodes n.0) (sym (c.owner.ensures.looked.reads.looks.content (sym c.owner.ensures.looked.reads.looks.same.tells ∙ tells))) (node_there (tree_of (g.P.SectorView.space c.args.space.now).content) c.args.path.now n.0 n.1), n.2)

pub set_mode-requires-clause-room : goal.set_mode-requires-clause-room
set_mode-requires-clause-room g c = room_still c.args.volume.now c.owner.new.self (g.P.SectorView.space c.args.space.now) (g.P.SectorView.space c.owner.new.space) c.owner.ensures.looked.reads c.requires.room

pub returns-in_ok-set_mode-in-Ok-clause-reply : goal.returns-in_ok-set_mode-in-Ok-clause-reply
returns-in_ok-set_mode-in-Ok-clause-reply g c tells =
    let n = node_told c.sound_has_plain_tree.ensures c.args.volume.now (g.P.SectorView.space c.args.space.now).content (c.requires.serves.stands.stands tells).trees (c.requires.serves.settled tells) c.args.path.now (sym c.is_private_path.ensures ∙ c.if-is_private_path.false) c.requires.fits c.in_ok-id.field-0 (c.in_ok-id.ensures.found tells) c.in-Ok.id c.in-Ok.is in
    mode_replied (tree_of (g.P.SectorView.space c.args.space.now).content) c.args.path.now c.args.rights (sym c.is_private_path.ensures ∙ c.if-is_private_path.false) n.0 n.1

pub returns-in_ok-set_mode-in-Ok-clause-tree : goal.returns-in_ok-set_mode-in-Ok-clause-tree
returns-in_ok-set_mode-in-Ok-clause-tree g c tells =
    let n = node_told c.sound_has_plain_tree.ensures c.args.volume.now (g.P.SectorView.space c.args.space.now).content (c.requires.serves.stands.stands tells).trees (c.requires.serves.settled tells) c.args.path.now (sym c.is_private_path.ensures ∙ c.if-is_private_path.false) c.requires.fits c.in_ok-id.field-0 (c.in_ok-id.ensures.found tells) c.in-Ok.id c.in-Ok.is in
    let same : (g.P.SectorView.space c.owner.new.space).content ≡ (g.P.SectorView.space c.args.space.now).content = c.owner.ensures.looked.reads.looks.content tells in
    let does = c.in_ok-set_mode-in-Ok.ensures.does (c.owner.ensures.looked.reads.looks.same.tells ∙ tells) c.args.path.now n.0 (ap (λ (k : Content). to_node (tree_of k) c.args.path.now) same ∙ n.1) n.2 in
    does.1 ∙ ap (λ (k : Content). (step (tree_of k) (command.Chmod c.args.path.now c.args.rights)).1) same ∙ mode_line (tree_of (g.P.SectorView.space c.args.space.now).content) c.args.path.now c.args.rights (sym c.is_private_path.ensures ∙ c.if-is_private_path.false)

pub returns-in_ok-set_mode-in-Ok-clause-edits : goal.returns-in_ok-set_mode-in-Ok-clause-edits
returns-in_ok-set_mode-in-Ok-clause-edits g c =
    edits_ok (edits_spent (edits_both g.met.P.SectorView.follows_trans c.owner.ensures.looked.edits c.in_ok-set_mode-in-Ok.ensures.edits) (λ tells. omega (arith, c.owner.ensures.looked.reads.looks.spare, c.set_mode.ensures.edits.ran.spent (c.owner.ensures.looked.reads.looks.same.tells ∙ tells), node_still c.args.volume.now c.owner.new.self (g.P.SectorView.space c.args.space.now) (g.P.SectorView.space c.owner.new.space) c.owner.ensures.looked.reads)))

pub returns-in_ok-set_mode-in-Ok-clause-serves : goal.returns-in_ok-set_mode-in-Ok-clause-serves
returns-in_ok-set_mode-in-Ok-clause-serves g c =
    edits_serves (returns-in_ok-set_mode-in-Ok-clause-edits g c) (λ tells. let n = node_told c.sound_has_plain_tree.ensures c.args.volume.now (g.P.SectorView.space c.args.space.now).content (c.requires.serves.stands.stands tells).trees (c.requires.serves.settled tells) c.args.path.now (sym c.is_private_path.ensures ∙ c.if-is_private_path.false) c.requires.fits c.in_ok-id.field-0 (c.in_ok-id.ensures.found tells) c.in-Ok.id c.in-Ok.is in
    (c.in_ok-set_mode-in-Ok.ensures.does (c.owner.ensures.looked.reads.looks.same.tells ∙ tells) c.args.path.now n.0 (ap (λ (k : Content). to_node (tree_of k) c.args.path.now) (c.owner.ensures.looked.reads.looks.content tells) ∙ n.1) n.2).0)

pub returns-in_ok-set_mode-in-Ok-clause-refused : goal.returns-in_ok-set_mode-in-Ok-clause-refused
returns-in_ok-set_mode-in-Ok-clause-refused g c tells is = absurd (true≢false (sym is))

pub returns-in_err-set_mode-in-Ok-clause-edits : goal.returns-in_err-set_mode-in-Ok-clause-edits
returns-in_err-set_mode-in-Ok-clause-edits g c =
    edits_err c.from_residual-in_err-set_mode-in-Ok.ensures.1 (edits_spent (edits_both g.met.P.SectorView.follows_trans c.owner.ensures.looked.edits c.in_err-set_mode-in-Ok.ensures.edits) (λ tells. omega (arith, c.owner.ensures.looked.reads.looks.spare, c.set_mode.ensures.edits.ran.spent (c.owner.ensures.looked.reads.looks.same.tells ∙ tells), node_still c.args.volume.now c.owner.new.self (g.P.SectorView.space c.args.space.now) (g.P.SectorView.space c.owner.new.space) c.owner.ensures.looked.reads)))

pub returns-in-Err-clause-reply : goal.returns-in-Err-clause-reply
returns-in-Err-clause-reply g c tells =
    (mode_refused (tree_of (g.P.SectorView.space c.args.space.now).content) c.args.path.now c.args.rights (sym c.is_private_path.ensures ∙ c.if-is_private_path.false) c.in-Err.why
    (node_refused c.sound_has_plain_tree.ensures c.args.volume.now (g.P.SectorView.space c.args.space.now).content (c.requires.serves.stands.stands tells).trees (c.requires.serves.settled tells) c.args.path.now (sym c.is_private_path.ensures ∙ c.if-is_private_path.false) c.requires.fits c.in_ok-id.field-0 (c.in_ok-id.ensures.found tells) c.in-Err.why c.in-Err.is)).0

pub returns-in-Err-clause-tree : goal.returns-in-Err-clause-tree
returns-in-Err-clause-tree g c tells =
    ap (λ (k : Content). tree_of k) (c.owner.ensures.looked.reads.looks.content tells)
    ∙ (mode_refused (tree_of (g.P.SectorView.space c.args.space.now).content) c.args.path.now c.args.rights (sym c.is_private_path.ensures ∙ c.if-is_private_path.false) c.in-Err.why
    (node_refused c.sound_has_plain_tree.ensures c.args.volume.now (g.P.SectorView.space c.args.space.now).content (c.requires.serves.stands.stands tells).trees (c.requires.serves.settled tells) c.args.path.now (sym c.is_private_path.ensures ∙ c.if-is_private_path.false) c.requires.fits c.in_ok-id.field-0 (c.in_ok-id.ensures.found tells) c.in-Err.why c.in-Err.is)).1

pub returns-in-Err-clause-refused : goal.returns-in-Err-clause-refused
returns-in-Err-clause-refused g c tells is = c.owner.ensures.looked.reads.looks.content tells

pub returns-then-is_private_path-clause-reply : goal.returns-then-is_private_path-clause-reply
returns-then-is_private_path-clause-reply g c tells = (mode_private (tree_of (g.P.SectorView.space c.args.space.now).content) c.args.path.now c.args.rights (sym c.is_private_path.ensures ∙ c.if-is_private_path.true)).0

pub returns-then-is_private_path-clause-tree : goal.returns-then-is_private_path-clause-tree
returns-then-is_private_path-clause-tree g c tells = (mode_private (tree_of (g.P.SectorView.space c.args.space.now).content) c.args.path.now c.args.rights (sym c.is_private_path.ensures ∙ c.if-is_private_path.true)).1

pub returns-then-is_private_path-clause-refused : goal.returns-then-is_private_path-clause-refused
returns-then-is_private_path-clause-refused g c tells is = refl

pub returns-then-is_private_path-clause-edits : goal.returns-then-is_private_path-clause-edits
returns-then-is_private_path-clause-edits g c = edits_none _ g.met.P.SectorView.follows_refl c.requires.serves.stands

pub returns-in_ok-set_mode-in-Ok-clause-loads : goal.returns-in_ok-set_mode-in-Ok-clause-loads
returns-in_ok-set_mode-in-Ok-clause-loads g c tells n grow is = omega (arith, c.owner.ensures.looked.reads.looks.spare, c.set_mode.ensures.edits.ran.spent (c.owner.ensures.looked.reads.looks.same.tells ∙ tells), node_still c.args.volume.now c.owner.new.self (g.P.SectorView.space c.args.space.now) (g.P.SectorView.space c.owner.new.space) c.owner.ensures.looked.reads, chmod_load c.args.volume.now (g.P.SectorView.space c.args.space.now).content (c.requires.serves.settled tells) c.args.volume.now.capacity c.args.rights c.args.path.now (tree_of (g.P.SectorView.space c.args.space.now).content) n grow is)

pub returns-in_err-set_mode-in-Ok-clause-loads : goal.returns-in_err-set_mode-in-Ok-clause-loads
returns-in_err-set_mode-in-Ok-clause-loads g c tells n grow is = omega (arith, c.owner.ensures.looked.reads.looks.spare, c.set_mode.ensures.edits.ran.spent (c.owner.ensures.looked.reads.looks.same.tells ∙ tells), node_still c.args.volume.now c.owner.new.self (g.P.SectorView.space c.args.space.now) (g.P.SectorView.space c.owner.new.space) c.owner.ensures.looked.reads, chmod_load c.args.volume.now (g.P.SectorView.space c.args.space.now).content (c.requires.serves.settled tells) c.args.volume.now.capacity c.args.rights c.args.path.now (tree_of (g.P.SectorView.space c.args.space.now).content) n grow is)

pub returns-in-Err-clause-loads : goal.returns-in-Err-clause-loads
returns-in-Err-clause-loads g c tells n grow is = omega (arith, c.owner.ensures.looked.reads.looks.spare)

pub returns-in_err-id-clause-loads : goal.returns-in_err-id-clause-loads
returns-in_err-id-clause-loads g c tells n grow is = omega (arith, c.owner.ensures.looked.reads.looks.spare)

pub returns-in_ok-set_mode-in-Ok-clause-lists : goal.returns-in_ok-set_mode-in-Ok-clause-lists
returns-in_ok-set_mode-in-Ok-clause-lists g c tells ok =
    let n = node_told c.sound_has_plain_tree.ensures c.args.volume.now (g.P.SectorView.space c.args.space.now).content (c.requires.serves.stands.stands tells).trees (c.requires.serves.settled tells) c.args.path.now (sym c.is_private_path.ensures ∙ c.if-is_private_path.false) c.requires.fits c.in_ok-id.field-0 (c.in_ok-id.ensures.found tells) c.in-Ok.id c.in-Ok.is in
    let does = c.in_ok-set_mode-in-Ok.ensures.does (c.owner.ensures.looked.reads.looks.same.tells ∙ tells) c.args.path.now n.0 (ap (λ (k : Content). to_node (tree_of k) c.args.path.now) (c.owner.ensures.looked.reads.looks.content tells) ∙ n.1) n.2 in (
      n.0,
      n.1,
      subst (λ (k : ℕ × Content). ChangesMode k.0 c.args.rights (volume_of k.1) (volume_of (g.P.SectorView.space c.set_mode.new.space).content)) {x = (c.in-Ok.id, (g.P.SectorView.space c.owner.new.space).content)} {y = (n.0.id, (g.P.SectorView.space c.args.space.now).content)} (λ i. (sym n.2 i, c.owner.ensures.looked.reads.looks.content tells i)) does.2,
    )

pub returns-in_ok-set_mode-in-Ok-clause-header : goal.returns-in_ok-set_mode-in-Ok-clause-header
returns-in_ok-set_mode-in-Ok-clause-header g c = ap (λ (x : Volume). x.header) c.set_mode.ensures.rest ∙ c.owner.ensures.looked.reads.keeps.header

pub returns-in_err-set_mode-in-Ok-clause-header : goal.returns-in_err-set_mode-in-Ok-clause-header
returns-in_err-set_mode-in-Ok-clause-header g c = ap (λ (x : Volume). x.header) c.set_mode.ensures.rest ∙ c.owner.ensures.looked.reads.keeps.header

pub returns-in-Err-clause-lists : goal.returns-in-Err-clause-lists
returns-in-Err-clause-lists g c tells ok = absurd (cc ok)

pub returns-then-is_private_path-clause-lists : goal.returns-then-is_private_path-clause-lists
returns-then-is_private_path-clause-lists g c tells ok = absurd (cc ok)
