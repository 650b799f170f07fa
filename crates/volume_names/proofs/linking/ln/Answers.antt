use Rattle.volume_names.proofs.LinkLoads.{puts_still}
use Rattle.std.proofs.Common.{◌≡◌, true, sym, ◌∙◌, ap, subst, arith}
use Rattle.std.specs.Prelude.{IfOk, Ok, OnOk}
use Rattle.sector_disk.specs.Lists.{Content}
use Rattle.hfs_language.specs.declared.command.Command.TheVariants as command
use Rattle.hfs_language.specs.declared.reply.Reply.{Reply}
use Rattle.hfs_language.specs.declared.reply.Reply.TheVariants as reply
use Rattle.hfs_model.specs.Step.{is_refusal, step_line}
use Rattle.hfs_volume.specs.TreeOf.{tree_of}
use Rattle.volume_names.specs.Linking.{HasLinked}
use Rattle.volume_base.specs.Refusing.{refusal_in}
use Rattle.volume_base.proofs.Linkable.{refused_reply}
use Rattle.volume_base.proofs.MakeRoom.{make_room_still}
use Rattle.volume_base.proofs.Framed.{edits_spent}
use Rattle.volume_base.proofs.Joined.{edits_both}
use Rattle.volume_names.proofs.linking.ln.Goals as goal

pub ln_fine-requires-clause-fine : goal.ln_fine-requires-clause-fine
ln_fine-requires-clause-fine g c tells =
    let before = sym c.refused_ln.ensures.looked.reads.looks.same.tells ∙ tells in
    sym c.in-None.is ∙ c.in_ok-why.ensures.told before ∙ ap (λ (k : Content). refusal_in (step_line (tree_of k) (Ok (command.Ln c.args.from.now c.args.to.now))).0) (sym (c.refused_ln.ensures.looked.reads.looks.content before))

pub ln_fine-requires-clause-room : goal.ln_fine-requires-clause-room
ln_fine-requires-clause-room g c = make_room_still c.args.volume.now c.refused_ln.new.self (g.P.SectorView.space c.args.space.now) (g.P.SectorView.space c.refused_ln.new.space) c.refused_ln.ensures.looked.reads c.requires.room

pub returns-in-None-clause-reply : goal.returns-in-None-clause-reply
returns-in-None-clause-reply g c tells =
    subst (λ (k : Content). IfOk c.ln_fine.result (λ (said : Reply). said ≡ (step_line (tree_of k) (Ok (command.Ln c.args.from.now c.args.to.now))).0)) (c.refused_ln.ensures.looked.reads.looks.content tells) (c.ln_fine.ensures.reply (c.refused_ln.ensures.looked.reads.looks.same.tells ∙ tells))

pub returns-in-None-clause-tree : goal.returns-in-None-clause-tree
returns-in-None-clause-tree g c tells =
    subst (λ (k : Content). OnOk c.ln_fine.result (tree_of (g.P.SectorView.space c.ln_fine.new.space).content ≡ (step_line (tree_of k) (Ok (command.Ln c.args.from.now c.args.to.now))).1)) (c.refused_ln.ensures.looked.reads.looks.content tells) (c.ln_fine.ensures.tree (c.refused_ln.ensures.looked.reads.looks.same.tells ∙ tells))

pub returns-in-None-clause-refused : goal.returns-in-None-clause-refused
returns-in-None-clause-refused g c tells =
    subst (λ (k : Content). IfOk c.ln_fine.result (λ (said : Reply). is_refusal said ≡ true → (g.P.SectorView.space c.ln_fine.new.space).content ≡ k)) (c.refused_ln.ensures.looked.reads.looks.content tells) (c.ln_fine.ensures.refused (c.refused_ln.ensures.looked.reads.looks.same.tells ∙ tells))

pub returns-in-None-clause-lists : goal.returns-in-None-clause-lists
returns-in-None-clause-lists g c tells =
    subst (λ (k : Content). IfOk c.ln_fine.result (λ (said : Reply). said ≡ reply.Ok → HasLinked c.args.from.now c.args.to.now k (g.P.SectorView.space c.ln_fine.new.space).content)) (c.refused_ln.ensures.looked.reads.looks.content tells) (c.ln_fine.ensures.lists (c.refused_ln.ensures.looked.reads.looks.same.tells ∙ tells))

pub returns-in-None-clause-edits : goal.returns-in-None-clause-edits
returns-in-None-clause-edits g c = edits_spent (edits_both g.met.P.SectorView.follows_trans c.refused_ln.ensures.looked.edits c.ln_fine.ensures.edits) (λ tells. omega arith)

pub returns-in-Some-clause-reply : goal.returns-in-Some-clause-reply
returns-in-Some-clause-reply g c tells = (refused_reply (tree_of (g.P.SectorView.space c.args.space.now).content) c.args.from.now c.args.to.now c.in-Some.why (sym c.in-Some.is ∙ c.in_ok-why.ensures.told tells)).0

pub returns-in-Some-clause-tree : goal.returns-in-Some-clause-tree
returns-in-Some-clause-tree g c tells = ap (λ (k : Content). tree_of k) (c.refused_ln.ensures.looked.reads.looks.content tells) ∙ (refused_reply (tree_of (g.P.SectorView.space c.args.space.now).content) c.args.from.now c.args.to.now c.in-Some.why (sym c.in-Some.is ∙ c.in_ok-why.ensures.told tells)).1

pub returns-in-Some-clause-refused : goal.returns-in-Some-clause-refused
returns-in-Some-clause-refused g c tells is = c.refused_ln.ensures.looked.reads.looks.content tells

pub returns-in-Some-clause-lists : goal.returns-in-Some-clause-lists
returns-in-Some-clause-lists g c tells is = absurd (cc is)

pub returns-in-None-clause-loads : goal.returns-in-None-clause-loads
returns-in-None-clause-loads g c tells =
    puts_still (command.Ln c.args.from.now c.args.to.now) c.args.volume.now c.refused_ln.new.self (g.P.SectorView.space c.args.space.now) (g.P.SectorView.space c.refused_ln.new.space) (g.P.SectorView.space c.ln_fine.new.space) c.refused_ln.ensures.looked.reads tells (c.ln_fine.ensures.loads (c.refused_ln.ensures.looked.reads.looks.same.tells ∙ tells))

pub returns-in-Some-clause-loads : goal.returns-in-Some-clause-loads
returns-in-Some-clause-loads g c tells n grow is = omega (arith, c.refused_ln.ensures.looked.reads.looks.spare)

pub returns-in_err-why-clause-loads : goal.returns-in_err-why-clause-loads
returns-in_err-why-clause-loads g c tells n grow is = omega (arith, c.refused_ln.ensures.looked.reads.looks.spare)
