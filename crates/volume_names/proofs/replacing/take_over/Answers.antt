use Rattle.std.proofs.Common.{◌+◌, ◌*◌, inl, inr, sym, ◌∙◌, ap, subst, arith}
use Rattle.sector_disk.specs.Lists.{Content}
use Rattle.hfs_language.specs.declared.command.Command.TheVariants as command
use Rattle.hfs_model.specs.Plain.{names_of}
use Rattle.hfs_model.specs.Step.{step}
use Rattle.hfs_model.specs.declared.plain.PlainEntry.{PlainEntry}
use Rattle.hfs_volume.specs.TreeOf.{tree_of}
use Rattle.hfs_volume.proofs.Reaching.{ok_same}
use Rattle.volume_base.specs.Changing.{catalog_node}
use Rattle.volume_base.proofs.Framed.{edits_err, edits_looked, edits_ok, edits_spent}
use Rattle.volume_base.proofs.Joined.{edits_both, edits_short}
use Rattle.volume_base.proofs.Refused.{reached_kind}
use Rattle.volume_base.proofs.Replaced.{node_large}
use Rattle.volume_base.proofs.Rising.{settled_is_plain}
use Rattle.volume_names.specs.EditsLeft.{HasLoadFor}
use Rattle.volume_names.specs.Losing.{HasLost}
use Rattle.volume_names.specs.LossLoads.{loss_edits}
use Rattle.volume_names.specs.Moving.{ReplacesFile}
use Rattle.volume_names.proofs.LinkLoads.{puts_still}
use Rattle.volume_names.proofs.ReplaceLoads.{both_within, load_behind, load_replaced, removal_within, replace_load, rest_replaced}
use Rattle.volume_names.proofs.Taken.{removal, removal_line, step_later, tells_ok}
use Rattle.volume_names.proofs.replacing.take_over.Goals as goal

pub fits_replace-requires-clause-counted : goal.fits_replace-requires-clause-counted
fits_replace-requires-clause-counted g c tells entry reaches_it =
    let it = c.requires.over tells in
    it.counted ∙ ap (λ (e : PlainEntry). names_of (tree_of (g.P.SectorView.space c.args.space.now).content) e.id) (ok_same it.other entry (sym it.reaches ∙ reaches_it))

pub rm-requires-clause-room : goal.rm-requires-clause-room
rm-requires-clause-room g c = c.fits_lose.ensures.room c.if-not-fits_lose.false

pub move_free-requires-clause-left : goal.move_free-requires-clause-left
move_free-requires-clause-left g c = record {
  told = λ later_told.
      let tells = sym c.fits_replace.ensures.looked.reads.looks.same.tells ∙ (sym (c.rm.ensures.edits.ran.touches (g.P.SectorView.space c.fits_replace.new.space).content).same.tells ∙ later_told) in
      let v = c.args.volume.now in
      let w = c.fits_replace.new.volume in
      let x = c.rm.new.volume in
      let old = g.P.SectorView.space c.args.space.now in
      let read = g.P.SectorView.space c.fits_replace.new.space in
      let lost = g.P.SectorView.space c.rm.new.space in
      let reads = c.fits_replace.ensures.looked.reads in
      let told = reads.looks.same.tells ∙ tells in
      let same = reads.looks.content tells in
      let over = subst (λ (k : Content). ReplacesFile c.args.links (tree_of k) c.args.from.now c.args.to.now) (sym same) (c.requires.over tells) in
      let load = subst (λ (k : Content). HasLoadFor (loss_edits (tree_of k) c.args.to.now + 3) (1 + 6 * catalog_node w) w read) (sym same) (c.in_ok-fits.ensures.room c.if-not-fits.false tells) in
      let line = removal_line (tree_of read.content) (tree_of lost.content) c.args.from.now c.args.to.now c.args.links over c.requires.goal_not_own in
      let fine = c.in_ok-rm.ensures.reply told ∙ ap (λ s. s.0) line in
      let later = (c.rm.ensures.edits.ran.touches read.content).same.tells ∙ told in
      ((c.in_ok-rm.ensures.leaves told fine).1 3 0 (load_behind (loss_edits (tree_of read.content) c.args.to.now + 3) w read load)).told later_told;
}

pub returns-in-Ok-clause-takes : goal.returns-in-Ok-clause-takes
returns-in-Ok-clause-takes g c tells =
    let v = c.args.volume.now in
    let w = c.fits_replace.new.volume in
    let x = c.rm.new.volume in
    let old = g.P.SectorView.space c.args.space.now in
    let read = g.P.SectorView.space c.fits_replace.new.space in
    let lost = g.P.SectorView.space c.rm.new.space in
    let reads = c.fits_replace.ensures.looked.reads in
    let told = reads.looks.same.tells ∙ tells in
    let same = reads.looks.content tells in
    let over = subst (λ (k : Content). ReplacesFile c.args.links (tree_of k) c.args.from.now c.args.to.now) (sym same) (c.requires.over tells) in
    let load = subst (λ (k : Content). HasLoadFor (loss_edits (tree_of k) c.args.to.now + 3) (1 + 6 * catalog_node w) w read) (sym same) (c.in_ok-fits.ensures.room c.if-not-fits.false tells) in
    let line = removal_line (tree_of read.content) (tree_of lost.content) c.args.from.now c.args.to.now c.args.links over c.requires.goal_not_own in
    let fine = c.in_ok-rm.ensures.reply told ∙ ap (λ s. s.0) line in
    let later = (c.rm.ensures.edits.ran.touches read.content).same.tells ∙ told in
    let it = c.requires.over tells in
    record {
      entry = it.pair.0;
      place = it.pair.1;
      allowed = it.allowed;
      between = lost.content;
      sound = (c.in_ok-rm.ensures.serves.settled later).sound;
      loses = subst (λ (k : Content). HasLost c.args.to.now k lost.content) same (c.in_ok-rm.ensures.lists told fine);
      takes = (tells_ok _ _ c.args.from.now c.args.to.now lost.content (g.P.SectorView.space c.move_free.new.space).content c.in-Ok.is (c.in_ok-said.ensures.moves later)).0;
    }

pub returns-in-Ok-clause-tree : goal.returns-in-Ok-clause-tree
returns-in-Ok-clause-tree g c tells =
    let v = c.args.volume.now in
    let w = c.fits_replace.new.volume in
    let x = c.rm.new.volume in
    let old = g.P.SectorView.space c.args.space.now in
    let read = g.P.SectorView.space c.fits_replace.new.space in
    let lost = g.P.SectorView.space c.rm.new.space in
    let reads = c.fits_replace.ensures.looked.reads in
    let told = reads.looks.same.tells ∙ tells in
    let same = reads.looks.content tells in
    let over = subst (λ (k : Content). ReplacesFile c.args.links (tree_of k) c.args.from.now c.args.to.now) (sym same) (c.requires.over tells) in
    let load = subst (λ (k : Content). HasLoadFor (loss_edits (tree_of k) c.args.to.now + 3) (1 + 6 * catalog_node w) w read) (sym same) (c.in_ok-fits.ensures.room c.if-not-fits.false tells) in
    let line = removal_line (tree_of read.content) (tree_of lost.content) c.args.from.now c.args.to.now c.args.links over c.requires.goal_not_own in
    let fine = c.in_ok-rm.ensures.reply told ∙ ap (λ s. s.0) line in
    let later = (c.rm.ensures.edits.ran.touches read.content).same.tells ∙ told in
    let tree_is = c.in_ok-rm.ensures.tree told ∙ ap (λ s. s.1) line in
    (tells_ok _ _ c.args.from.now c.args.to.now lost.content (g.P.SectorView.space c.move_free.new.space).content c.in-Ok.is (c.in_ok-said.ensures.moves later)).1
    ∙ step_later (tree_of read.content) (tree_of lost.content) c.args.from.now c.args.to.now c.args.links over c.requires.goal_not_own tree_is
    ∙ ap (λ (k : Content). (step (tree_of k) (command.Mv c.args.from.now c.args.to.now)).1) same

pub returns-in-Ok-clause-edits : goal.returns-in-Ok-clause-edits
returns-in-Ok-clause-edits g c = edits_ok (edits_spent (edits_both g.met.P.SectorView.follows_trans c.fits_replace.ensures.looked.edits (edits_both g.met.P.SectorView.follows_trans c.rm.ensures.edits c.in_ok-said.ensures.edits)) (λ tells. omega arith))

pub returns-in-Err-clause-edits : goal.returns-in-Err-clause-edits
returns-in-Err-clause-edits g c = edits_short (edits_spent (edits_both g.met.P.SectorView.follows_trans c.fits_replace.ensures.looked.edits (edits_both g.met.P.SectorView.follows_trans c.rm.ensures.edits c.in_ok-said.ensures.edits)) (λ tells. omega arith))

pub returns-in_err-said-clause-edits : goal.returns-in_err-said-clause-edits
returns-in_err-said-clause-edits g c =
    edits_err c.from_residual-in_err-said.ensures.1 (edits_spent (edits_both g.met.P.SectorView.follows_trans c.fits_replace.ensures.looked.edits (edits_both g.met.P.SectorView.follows_trans c.rm.ensures.edits c.in_err-said.ensures.edits)) (λ tells. omega arith))

pub returns-in_err-rm-clause-edits : goal.returns-in_err-rm-clause-edits
returns-in_err-rm-clause-edits g c = edits_err c.from_residual-in_err-rm.ensures.1 (edits_spent (edits_both g.met.P.SectorView.follows_trans c.fits_replace.ensures.looked.edits c.in_err-rm.ensures.edits) (λ tells. omega arith))

pub returns-then-not-fits-clause-edits : goal.returns-then-not-fits-clause-edits
returns-then-not-fits-clause-edits g c = edits_short (edits_looked _ c.fits_replace.ensures.looked)

pub returns-then-not-fits_lose-clause-edits : goal.returns-then-not-fits_lose-clause-edits
returns-then-not-fits_lose-clause-edits g c = edits_short (edits_looked _ c.fits_replace.ensures.looked)

pub returns-then-not-fits-clause-loads : goal.returns-then-not-fits-clause-loads
returns-then-not-fits-clause-loads g c tells n grow is = omega (arith, c.fits_replace.ensures.looked.reads.looks.spare)

pub returns-then-not-fits_lose-clause-loads : goal.returns-then-not-fits_lose-clause-loads
returns-then-not-fits_lose-clause-loads g c tells n grow is = omega (arith, c.fits_replace.ensures.looked.reads.looks.spare)

pub returns-in_err-fits-clause-loads : goal.returns-in_err-fits-clause-loads
returns-in_err-fits-clause-loads g c tells n grow is = omega (arith, c.fits_replace.ensures.looked.reads.looks.spare)

pub returns-in_err-rm-clause-loads : goal.returns-in_err-rm-clause-loads
returns-in_err-rm-clause-loads g c tells =
    let v = c.args.volume.now in
    let w = c.fits_replace.new.volume in
    let x = c.rm.new.volume in
    let old = g.P.SectorView.space c.args.space.now in
    let read = g.P.SectorView.space c.fits_replace.new.space in
    let lost = g.P.SectorView.space c.rm.new.space in
    let reads = c.fits_replace.ensures.looked.reads in
    let told = reads.looks.same.tells ∙ tells in
    let same = reads.looks.content tells in
    let over = subst (λ (k : Content). ReplacesFile c.args.links (tree_of k) c.args.from.now c.args.to.now) (sym same) (c.requires.over tells) in
    let load = subst (λ (k : Content). HasLoadFor (loss_edits (tree_of k) c.args.to.now + 3) (1 + 6 * catalog_node w) w read) (sym same) (c.in_ok-fits.ensures.room c.if-not-fits.false tells) in
    let plain = settled_is_plain c.sound_has_plain_tree.ensures w read.content (c.fits_replace.ensures.serves.stands.stands told).trees (c.fits_replace.ensures.serves.settled told) in
    let kind = reached_kind (tree_of read.content) plain c.args.to.now over.other over.reaches in
    let within = replace_load w read (c.fits_replace.ensures.serves.settled told) c.args.from.now c.args.to.now over.pair over.allowed over.other over.stands over.differs (removal (tree_of read.content) (tree_of lost.content) c.args.from.now c.args.to.now c.args.links over c.requires.goal_not_own) kind.0 kind.1 (load.grown told) in
    puts_still (command.Mv c.args.from.now c.args.to.now) v w old read lost reads tells (elim (c.rm.ensures.spends told) [
      | inl none ↦ λ n grow is. omega (arith, none)
      | inr it ↦ λ n grow is. removal_within (loss_edits (tree_of read.content) c.args.to.now) n w read lost (node_large w read c.fits_replace.ensures.serves.stands told) it (within n grow is)
    ])

pub returns-in-Ok-clause-loads : goal.returns-in-Ok-clause-loads
returns-in-Ok-clause-loads g c tells =
    let v = c.args.volume.now in
    let w = c.fits_replace.new.volume in
    let x = c.rm.new.volume in
    let old = g.P.SectorView.space c.args.space.now in
    let read = g.P.SectorView.space c.fits_replace.new.space in
    let lost = g.P.SectorView.space c.rm.new.space in
    let reads = c.fits_replace.ensures.looked.reads in
    let told = reads.looks.same.tells ∙ tells in
    let same = reads.looks.content tells in
    let over = subst (λ (k : Content). ReplacesFile c.args.links (tree_of k) c.args.from.now c.args.to.now) (sym same) (c.requires.over tells) in
    let load = subst (λ (k : Content). HasLoadFor (loss_edits (tree_of k) c.args.to.now + 3) (1 + 6 * catalog_node w) w read) (sym same) (c.in_ok-fits.ensures.room c.if-not-fits.false tells) in
    let line = removal_line (tree_of read.content) (tree_of lost.content) c.args.from.now c.args.to.now c.args.links over c.requires.goal_not_own in
    let fine = c.in_ok-rm.ensures.reply told ∙ ap (λ s. s.0) line in
    let later = (c.rm.ensures.edits.ran.touches read.content).same.tells ∙ told in
    let plain = settled_is_plain c.sound_has_plain_tree.ensures w read.content (c.fits_replace.ensures.serves.stands.stands told).trees (c.fits_replace.ensures.serves.settled told) in
    let kind = reached_kind (tree_of read.content) plain c.args.to.now over.other over.reaches in
    let within = replace_load w read (c.fits_replace.ensures.serves.settled told) c.args.from.now c.args.to.now over.pair over.allowed over.other over.stands over.differs (removal (tree_of read.content) (tree_of lost.content) c.args.from.now c.args.to.now c.args.links over c.requires.goal_not_own) kind.0 kind.1 (load.grown told) in
    let new = g.P.SectorView.space c.move_free.new.space in
    let edits = loss_edits (tree_of read.content) c.args.to.now + 3 in
    let leaves = c.in_ok-rm.ensures.leaves told fine in
    puts_still (command.Mv c.args.from.now c.args.to.now) v w old read new reads tells
    (λ n grow is. both_within edits n w x read new told leaves.0 load (c.move_free.ensures.beside later (rest_replaced edits w read) (leaves.1 3 (rest_replaced edits w read) (load_replaced edits w read load))) (within n grow is))

pub returns-in-Err-clause-loads : goal.returns-in-Err-clause-loads
returns-in-Err-clause-loads g c tells =
    let v = c.args.volume.now in
    let w = c.fits_replace.new.volume in
    let x = c.rm.new.volume in
    let old = g.P.SectorView.space c.args.space.now in
    let read = g.P.SectorView.space c.fits_replace.new.space in
    let lost = g.P.SectorView.space c.rm.new.space in
    let reads = c.fits_replace.ensures.looked.reads in
    let told = reads.looks.same.tells ∙ tells in
    let same = reads.looks.content tells in
    let over = subst (λ (k : Content). ReplacesFile c.args.links (tree_of k) c.args.from.now c.args.to.now) (sym same) (c.requires.over tells) in
    let load = subst (λ (k : Content). HasLoadFor (loss_edits (tree_of k) c.args.to.now + 3) (1 + 6 * catalog_node w) w read) (sym same) (c.in_ok-fits.ensures.room c.if-not-fits.false tells) in
    let line = removal_line (tree_of read.content) (tree_of lost.content) c.args.from.now c.args.to.now c.args.links over c.requires.goal_not_own in
    let fine = c.in_ok-rm.ensures.reply told ∙ ap (λ s. s.0) line in
    let later = (c.rm.ensures.edits.ran.touches read.content).same.tells ∙ told in
    let plain = settled_is_plain c.sound_has_plain_tree.ensures w read.content (c.fits_replace.ensures.serves.stands.stands told).trees (c.fits_replace.ensures.serves.settled told) in
    let kind = reached_kind (tree_of read.content) plain c.args.to.now over.other over.reaches in
    let within = replace_load w read (c.fits_replace.ensures.serves.settled told) c.args.from.now c.args.to.now over.pair over.allowed over.other over.stands over.differs (removal (tree_of read.content) (tree_of lost.content) c.args.from.now c.args.to.now c.args.links over c.requires.goal_not_own) kind.0 kind.1 (load.grown told) in
    let new = g.P.SectorView.space c.move_free.new.space in
    let edits = loss_edits (tree_of read.content) c.args.to.now + 3 in
    let leaves = c.in_ok-rm.ensures.leaves told fine in
    puts_still (command.Mv c.args.from.now c.args.to.now) v w old read new reads tells
    (λ n grow is. both_within edits n w x read new told leaves.0 load (c.move_free.ensures.beside later (rest_replaced edits w read) (leaves.1 3 (rest_replaced edits w read) (load_replaced edits w read load))) (within n grow is))

pub returns-in_err-said-clause-loads : goal.returns-in_err-said-clause-loads
returns-in_err-said-clause-loads g c tells =
    let v = c.args.volume.now in
    let w = c.fits_replace.new.volume in
    let x = c.rm.new.volume in
    let old = g.P.SectorView.space c.args.space.now in
    let read = g.P.SectorView.space c.fits_replace.new.space in
    let lost = g.P.SectorView.space c.rm.new.space in
    let reads = c.fits_replace.ensures.looked.reads in
    let told = reads.looks.same.tells ∙ tells in
    let same = reads.looks.content tells in
    let over = subst (λ (k : Content). ReplacesFile c.args.links (tree_of k) c.args.from.now c.args.to.now) (sym same) (c.requires.over tells) in
    let load = subst (λ (k : Content). HasLoadFor (loss_edits (tree_of k) c.args.to.now + 3) (1 + 6 * catalog_node w) w read) (sym same) (c.in_ok-fits.ensures.room c.if-not-fits.false tells) in
    let line = removal_line (tree_of read.content) (tree_of lost.content) c.args.from.now c.args.to.now c.args.links over c.requires.goal_not_own in
    let fine = c.in_ok-rm.ensures.reply told ∙ ap (λ s. s.0) line in
    let later = (c.rm.ensures.edits.ran.touches read.content).same.tells ∙ told in
    let plain = settled_is_plain c.sound_has_plain_tree.ensures w read.content (c.fits_replace.ensures.serves.stands.stands told).trees (c.fits_replace.ensures.serves.settled told) in
    let kind = reached_kind (tree_of read.content) plain c.args.to.now over.other over.reaches in
    let within = replace_load w read (c.fits_replace.ensures.serves.settled told) c.args.from.now c.args.to.now over.pair over.allowed over.other over.stands over.differs (removal (tree_of read.content) (tree_of lost.content) c.args.from.now c.args.to.now c.args.links over c.requires.goal_not_own) kind.0 kind.1 (load.grown told) in
    let new = g.P.SectorView.space c.move_free.new.space in
    let edits = loss_edits (tree_of read.content) c.args.to.now + 3 in
    let leaves = c.in_ok-rm.ensures.leaves told fine in
    puts_still (command.Mv c.args.from.now c.args.to.now) v w old read new reads tells
    (λ n grow is. both_within edits n w x read new told leaves.0 load (c.move_free.ensures.beside later (rest_replaced edits w read) (leaves.1 3 (rest_replaced edits w read) (load_replaced edits w read load))) (within n grow is))
