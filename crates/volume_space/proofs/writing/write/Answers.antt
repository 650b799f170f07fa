use Rattle.std.proofs.Common.{◌≡◌, ℕ, true, false, List, sym, ◌∙◌, ap, subst, arith}
use Rattle.std.specs.Prelude.{Contains, IfNone, IfOk, IfSome, Some, Ok}
use Rattle.sector_disk.specs.Lists.{Content}
use Rattle.sector_disk.proofs.SpaceLaws.{space_both}
use Rattle.hfs_language.specs.declared.command.Command.TheVariants as command
use Rattle.hfs_language.specs.declared.reply.Reply.TheVariants as reply
use Rattle.hfs_model.specs.Step.{is_refusal, refuses, step_line}
use Rattle.hfs_volume.specs.Aside.{IsJournalSector}
use Rattle.hfs_volume.specs.Content.{volume_of}
use Rattle.hfs_volume.specs.TreeOf.{tree_of}
use Rattle.hfs_volume.specs.Forks.{data_kind}
use Rattle.hfs_volume.specs.Weight.{data_of, weight_with}
use Rattle.alloc_bitmap.specs.Map.{free_of}
use Rattle.volume_base.specs.Refusing.{facts_or}
use Rattle.volume_base.specs.Touching.{Touches}
use Rattle.volume_space.specs.Writing.{HasData, is_data_met, is_put_now}
use Rattle.volume_base.proofs.Commanding.{touches_both, touches_looks}
use Rattle.volume_base.proofs.KeptUsed.{used_read}
use Rattle.volume_space.proofs.PutAlike.{alike_read, laid_alike, now_alike}
use Rattle.volume_space.proofs.PutMet.{data_met_alike}
use Rattle.volume_base.proofs.Still.{own_still}
use Rattle.volume_space.proofs.PutTold.{write_refused_stat}
use Rattle.volume_space.proofs.Filling.{filled_read}
use Rattle.volume_space.proofs.writing.write.Goals as goal

pub write_told-requires-clause-settled : goal.write_told-requires-clause-settled
write_told-requires-clause-settled g c tells = c.facts.ensures.serves.settled tells

pub write_told-requires-clause-closed : goal.write_told-requires-clause-closed
write_told-requires-clause-closed g c tells at shut =
    let before = sym c.facts.ensures.looked.reads.looks.same.tells ∙ tells in
    subst (λ (k : Content). IsJournalSector k at) (sym (c.facts.ensures.looked.reads.looks.content before)) (c.requires.closed before at ((c.facts.ensures.looked.reads.looks.closed before at).0 shut))

pub write_told-requires-clause-told : goal.write_told-requires-clause-told
write_told-requires-clause-told g c tells =
    let before = sym c.facts.ensures.looked.reads.looks.same.tells ∙ tells in
    sym c.in-Ok.is ∙ c.in_ok-told.ensures.told before ∙ ap (λ (k : Content). facts_or (step_line (tree_of k) (Ok (command.Stat c.args.path.now))).0) (sym (c.facts.ensures.looked.reads.looks.content before))

pub returns-in-Ok-clause-reply : goal.returns-in-Ok-clause-reply
returns-in-Ok-clause-reply g c tells =
    subst (λ (k : Content). IfOk c.write_told.result (λ said. IfSome said (λ reply. reply ≡ (step_line (tree_of k) (Ok (command.Write c.args.path.now c.args.from c.args.value.now))).0))) (c.facts.ensures.looked.reads.looks.content tells) (c.write_told.ensures.reply (c.facts.ensures.looked.reads.looks.same.tells ∙ tells))

pub returns-in-Ok-clause-tree : goal.returns-in-Ok-clause-tree
returns-in-Ok-clause-tree g c tells =
    subst (λ (k : Content). IfOk c.write_told.result (λ said. IfSome said (λ reply. tree_of (g.P.SectorView.space c.write_told.new.space).content ≡ (step_line (tree_of k) (Ok (command.Write c.args.path.now c.args.from c.args.value.now))).1))) (c.facts.ensures.looked.reads.looks.content tells) (c.write_told.ensures.tree (c.facts.ensures.looked.reads.looks.same.tells ∙ tells))

pub returns-in-Ok-clause-refused : goal.returns-in-Ok-clause-refused
returns-in-Ok-clause-refused g c tells =
    subst (λ (k : Content). IfOk c.write_told.result (λ said. IfSome said (λ reply. is_refusal reply ≡ true → (g.P.SectorView.space c.write_told.new.space).content ≡ k))) (c.facts.ensures.looked.reads.looks.content tells) (c.write_told.ensures.refused (c.facts.ensures.looked.reads.looks.same.tells ∙ tells))

pub returns-in-Ok-clause-lists : goal.returns-in-Ok-clause-lists
returns-in-Ok-clause-lists g c tells =
    subst (λ (k : Content). IfOk c.write_told.result (λ said. said ≡ Some reply.Ok → HasData (command.Write c.args.path.now c.args.from c.args.value.now) k (g.P.SectorView.space c.write_told.new.space).content)) (c.facts.ensures.looked.reads.looks.content tells) (c.write_told.ensures.lists (c.facts.ensures.looked.reads.looks.same.tells ∙ tells))

pub returns-in-Ok-clause-waits : goal.returns-in-Ok-clause-waits
returns-in-Ok-clause-waits g c tells =
    subst (λ (k : Content). IfOk c.write_told.result (λ said. IfNone said ((g.P.SectorView.space c.write_told.new.space).content ≡ k))) (c.facts.ensures.looked.reads.looks.content tells) (c.write_told.ensures.waits (c.facts.ensures.looked.reads.looks.same.tells ∙ tells))

pub returns-in-Ok-clause-waiting : goal.returns-in-Ok-clause-waiting
returns-in-Ok-clause-waiting g c tells =
    subst (λ (k : Content). IfOk c.write_told.result (λ said. IfNone said (refuses (tree_of k) (Ok (command.Write c.args.path.now c.args.from c.args.value.now)) ≡ false))) (c.facts.ensures.looked.reads.looks.content tells) (c.write_told.ensures.waiting (c.facts.ensures.looked.reads.looks.same.tells ∙ tells))

pub returns-in-Ok-clause-exactly : goal.returns-in-Ok-clause-exactly
returns-in-Ok-clause-exactly g c tells =
    subst (λ b. IfOk c.write_told.result (λ said. IfNone said (b ≡ false)))
    ((λ i. is_put_now c.facts.new.self (c.facts.ensures.looked.reads.looks.spare i) (volume_of (c.facts.ensures.looked.reads.looks.content tells i)) (data_of (tree_of (c.facts.ensures.looked.reads.looks.content tells i)) (command.Write c.args.path.now c.args.from c.args.value.now))) ∙ now_alike c.args.volume.now c.facts.new.self (alike_read c.args.volume.now c.facts.new.self (g.P.SectorView.space c.args.space.now) (g.P.SectorView.space c.facts.new.space) c.facts.ensures.looked.reads) data_kind (g.P.SectorView.space c.args.space.now).spare (volume_of (g.P.SectorView.space c.args.space.now).content) (data_of (tree_of (g.P.SectorView.space c.args.space.now).content) (command.Write c.args.path.now c.args.from c.args.value.now)))
    (c.write_told.ensures.exactly (c.facts.ensures.looked.reads.looks.same.tells ∙ tells))

pub returns-in-Ok-clause-met : goal.returns-in-Ok-clause-met
returns-in-Ok-clause-met g c tells =
    subst (λ b. IfOk c.write_told.result (λ said. IfNone said (b ≡ false)))
    ((λ i. is_data_met c.facts.new.self (c.facts.ensures.looked.reads.looks.spare i) (volume_of (c.facts.ensures.looked.reads.looks.content tells i)) (data_of (tree_of (c.facts.ensures.looked.reads.looks.content tells i)) (command.Write c.args.path.now c.args.from c.args.value.now))) ∙ data_met_alike data_kind c.args.volume.now c.facts.new.self (alike_read c.args.volume.now c.facts.new.self (g.P.SectorView.space c.args.space.now) (g.P.SectorView.space c.facts.new.space) c.facts.ensures.looked.reads) c.facts.ensures.looked.reads.keeps.capacity (g.P.SectorView.space c.args.space.now).spare (volume_of (g.P.SectorView.space c.args.space.now).content) (data_of (tree_of (g.P.SectorView.space c.args.space.now).content) (command.Write c.args.path.now c.args.from c.args.value.now)))
    (c.write_told.ensures.met (c.facts.ensures.looked.reads.looks.same.tells ∙ tells))

pub returns-in-Ok-clause-loads : goal.returns-in-Ok-clause-loads
returns-in-Ok-clause-loads g c tells n grow is =
    omega (
      arith,
      c.facts.ensures.looked.reads.looks.spare,
      c.write_told.ensures.loads (c.facts.ensures.looked.reads.looks.same.tells ∙ tells) n grow
          ((λ i. weight_with (c.facts.ensures.looked.reads.keeps.capacity i) (free_of (c.facts.ensures.looked.reads.keeps.map i)) (volume_of (c.facts.ensures.looked.reads.looks.content tells i)) (tree_of (c.facts.ensures.looked.reads.looks.content tells i)) (command.Write c.args.path.now c.args.from c.args.value.now)) ∙ is),
    )

pub returns-in-Ok-clause-shrunk : goal.returns-in-Ok-clause-shrunk
returns-in-Ok-clause-shrunk g c = c.write_told.ensures.same.1 ∙ c.facts.ensures.looked.reads.keeps.shrunk

pub returns-in-Ok-clause-capacity : goal.returns-in-Ok-clause-capacity
returns-in-Ok-clause-capacity g c = c.write_told.ensures.same.2 ∙ c.facts.ensures.looked.reads.keeps.capacity

pub returns-in-Ok-clause-touches : goal.returns-in-Ok-clause-touches
returns-in-Ok-clause-touches g c committed holds alike =
    touches_both committed _ (g.P.SectorView.space c.args.space.now) (g.P.SectorView.space c.facts.new.space) (g.P.SectorView.space c.write_told.new.space) (touches_looks committed _ (g.P.SectorView.space c.args.space.now) (g.P.SectorView.space c.facts.new.space) c.facts.ensures.looked.reads.looks)
    (subst (λ (l : List ℕ). Touches committed (λ s. Contains l s) (g.P.SectorView.space c.facts.new.space) (g.P.SectorView.space c.write_told.new.space)) (own_still c.args.volume.now c.facts.new.self (g.P.SectorView.space c.args.space.now) (g.P.SectorView.space c.facts.new.space) c.facts.ensures.looked.reads) (c.write_told.ensures.touches committed ((used_read c.args.volume.now c.facts.new.self (g.P.SectorView.space c.args.space.now) (g.P.SectorView.space c.facts.new.space) c.facts.ensures.looked.reads).holds committed holds) (laid_alike c.args.volume.now c.facts.new.self (alike_read c.args.volume.now c.facts.new.self (g.P.SectorView.space c.args.space.now) (g.P.SectorView.space c.facts.new.space) c.facts.ensures.looked.reads) committed alike)))

pub returns-in-Ok-clause-holds : goal.returns-in-Ok-clause-holds
returns-in-Ok-clause-holds g c committed was = c.write_told.ensures.holds committed ((used_read c.args.volume.now c.facts.new.self (g.P.SectorView.space c.args.space.now) (g.P.SectorView.space c.facts.new.space) c.facts.ensures.looked.reads).holds committed was)

pub returns-in-Ok-clause-same : goal.returns-in-Ok-clause-same
returns-in-Ok-clause-same g c = space_both (g.P.SectorView.space c.args.space.now) (g.P.SectorView.space c.facts.new.space) (g.P.SectorView.space c.write_told.new.space) c.facts.ensures.looked.reads.looks.same c.write_told.ensures.space

pub returns-in-Ok-clause-below : goal.returns-in-Ok-clause-below
returns-in-Ok-clause-below g c = g.met.P.SectorView.follows_trans c.args.space.now c.facts.new.space c.write_told.new.space c.facts.ensures.looked.edits.ran.below c.write_told.ensures.below

pub returns-in-Err-clause-reply : goal.returns-in-Err-clause-reply
returns-in-Err-clause-reply g c tells = (write_refused_stat (tree_of (g.P.SectorView.space c.args.space.now).content) c.args.path.now c.args.from c.args.value.now c.in-Err.why (sym c.in-Err.is ∙ c.in_ok-told.ensures.told tells)).0

pub returns-in-Err-clause-tree : goal.returns-in-Err-clause-tree
returns-in-Err-clause-tree g c tells = ap (λ (k : Content). tree_of k) (c.facts.ensures.looked.reads.looks.content tells) ∙ (write_refused_stat (tree_of (g.P.SectorView.space c.args.space.now).content) c.args.path.now c.args.from c.args.value.now c.in-Err.why (sym c.in-Err.is ∙ c.in_ok-told.ensures.told tells)).1

pub returns-in-Err-clause-refused : goal.returns-in-Err-clause-refused
returns-in-Err-clause-refused g c tells is = (c.facts.ensures.looked.reads.looks.content tells)

pub returns-in-Err-clause-lists : goal.returns-in-Err-clause-lists
returns-in-Err-clause-lists g c tells said = absurd (let no : Some (reply.No c.in-Err.why) ≡ Some reply.Ok = said in cc no)

pub returns-in-Err-clause-holds : goal.returns-in-Err-clause-holds
returns-in-Err-clause-holds g c committed was = (used_read c.args.volume.now c.facts.new.self (g.P.SectorView.space c.args.space.now) (g.P.SectorView.space c.facts.new.space) c.facts.ensures.looked.reads).holds committed was

pub returns-in-Err-clause-touches : goal.returns-in-Err-clause-touches
returns-in-Err-clause-touches g c committed holds alike = touches_looks committed _ (g.P.SectorView.space c.args.space.now) (g.P.SectorView.space c.facts.new.space) c.facts.ensures.looked.reads.looks

pub returns-in-Err-clause-service : goal.returns-in-Err-clause-service
returns-in-Err-clause-service g c = c.facts.ensures.looked.stands.service

pub returns-in-Err-clause-loads : goal.returns-in-Err-clause-loads
returns-in-Err-clause-loads g c tells n grow is = omega (arith, c.facts.ensures.looked.reads.looks.spare)

pub returns-in-Err-clause-shrunk : goal.returns-in-Err-clause-shrunk
returns-in-Err-clause-shrunk g c = c.facts.ensures.looked.reads.keeps.shrunk

pub returns-in-Err-clause-capacity : goal.returns-in-Err-clause-capacity
returns-in-Err-clause-capacity g c = c.facts.ensures.looked.reads.keeps.capacity

pub returns-in-Err-clause-same : goal.returns-in-Err-clause-same
returns-in-Err-clause-same g c = c.facts.ensures.looked.reads.looks.same

pub returns-in_err-told-clause-touches : goal.returns-in_err-told-clause-touches
returns-in_err-told-clause-touches g c committed holds alike = touches_looks committed _ (g.P.SectorView.space c.args.space.now) (g.P.SectorView.space c.facts.new.space) c.facts.ensures.looked.reads.looks

pub returns-in_err-told-clause-service : goal.returns-in_err-told-clause-service
returns-in_err-told-clause-service g c = c.facts.ensures.looked.stands.service

pub returns-in_err-told-clause-loads : goal.returns-in_err-told-clause-loads
returns-in_err-told-clause-loads g c tells n grow is = omega (arith, c.facts.ensures.looked.reads.looks.spare)

pub returns-in_err-told-clause-shrunk : goal.returns-in_err-told-clause-shrunk
returns-in_err-told-clause-shrunk g c = c.facts.ensures.looked.reads.keeps.shrunk

pub returns-in_err-told-clause-capacity : goal.returns-in_err-told-clause-capacity
returns-in_err-told-clause-capacity g c = c.facts.ensures.looked.reads.keeps.capacity

pub returns-in_err-told-clause-same : goal.returns-in_err-told-clause-same
returns-in_err-told-clause-same g c = c.facts.ensures.looked.reads.looks.same

pub returns-in-Err-clause-settled : goal.returns-in-Err-clause-settled
returns-in-Err-clause-settled g c tells = c.facts.ensures.serves.settled (c.facts.ensures.looked.reads.looks.same.tells ∙ tells)

pub returns-in-Ok-clause-settled : goal.returns-in-Ok-clause-settled
returns-in-Ok-clause-settled g c tells = c.write_told.ensures.settled (c.facts.ensures.looked.reads.looks.same.tells ∙ tells)

pub write_told-requires-clause-filled : goal.write_told-requires-clause-filled
write_told-requires-clause-filled g c = filled_read c.args.volume.now c.facts.new.self (g.P.SectorView.space c.args.space.now) (g.P.SectorView.space c.facts.new.space) c.facts.ensures.looked.reads c.requires.filled

pub returns-in-Err-clause-filled : goal.returns-in-Err-clause-filled
returns-in-Err-clause-filled g c = filled_read c.args.volume.now c.facts.new.self (g.P.SectorView.space c.args.space.now) (g.P.SectorView.space c.facts.new.space) c.facts.ensures.looked.reads c.requires.filled
