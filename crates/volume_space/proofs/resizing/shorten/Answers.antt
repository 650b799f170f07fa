use Rattle.std.proofs.Common.{◌≡◌, ◌≤◌, ℕ, true, List, refl, sym, ◌∙◌, ap, subst, arith}
use Rattle.std.specs.Prelude.{Contains, IfNone, IfOk, IfSome, is_some, Option, Some, None, Result, Ok, Err}
use Rattle.sector_disk.specs.Lists.{Content}
use Rattle.hfs_language.specs.declared.command.Command.TheVariants as command
use Rattle.hfs_language.specs.declared.reply.Reply.{Reply}
use Rattle.hfs_language.specs.declared.reply.Reply.TheVariants as reply
use Rattle.hfs_model.specs.Step.{is_refusal, step_line}
use Rattle.hfs_volume.specs.Content.{volume_of}
use Rattle.hfs_volume.specs.TreeOf.{tree_of}
use Rattle.hfs_volume.specs.Weight.{data_of, weight}
use Rattle.hfs_volume.specs.declared.cost.Cost.TheVariants as cost
use Rattle.volume_base.specs.Looking.{ReadsVolume}
use Rattle.volume_base.specs.Refusing.{facts_or}
use Rattle.volume_space.specs.Resizing.{IsShortened}
use Rattle.volume_base.specs.Resizing.{shrunk_then}
use Rattle.volume_base.specs.Touching.{Touches}
use Rattle.volume_base.proofs.Commanding.{touches_both, touches_looks}
use Rattle.volume_base.proofs.FoundEntry.{node_still, room_still}
use Rattle.volume_space.proofs.ShortenedCalls.{refused_stat}
use Rattle.volume_base.proofs.DataCommands.{none_so}
use Rattle.volume_base.proofs.Seeing.{if_so}
use Rattle.volume_base.proofs.Still.{own_still, volume_both}
use Rattle.volume_space.proofs.resizing.shorten.Goals as goal

pub shorten_told-requires-clause-settled : goal.shorten_told-requires-clause-settled
shorten_told-requires-clause-settled g c tells = c.facts.ensures.serves.settled tells

pub shorten_told-requires-clause-told : goal.shorten_told-requires-clause-told
shorten_told-requires-clause-told g c tells =
    let before = (sym c.facts.ensures.looked.reads.looks.same.tells ∙ tells) in
    sym c.in-Ok.is ∙ c.in_ok-told.ensures.told before ∙ ap (λ (k : Content). facts_or (step_line (tree_of k) (Ok (command.Stat c.args.path.now))).0) (sym (c.facts.ensures.looked.reads.looks.content before))

pub shorten_told-requires-clause-room : goal.shorten_told-requires-clause-room
shorten_told-requires-clause-room g c = room_still c.args.volume.now c.facts.new.self (g.P.SectorView.space c.args.space.now) (g.P.SectorView.space c.facts.new.space) c.facts.ensures.looked.reads c.requires.room

pub returns-in-Ok-clause-reply : goal.returns-in-Ok-clause-reply
returns-in-Ok-clause-reply g c tells =
    subst (λ (k : Content). IfOk c.shorten_told.result (λ said. IfSome said (λ reply. reply ≡ (step_line (tree_of k) (Ok (command.Trunc c.args.path.now c.args.size))).0))) (c.facts.ensures.looked.reads.looks.content tells) (c.shorten_told.ensures.reply (c.facts.ensures.looked.reads.looks.same.tells ∙ tells))

pub returns-in-Ok-clause-tree : goal.returns-in-Ok-clause-tree
returns-in-Ok-clause-tree g c tells =
    subst (λ (k : Content). IfOk c.shorten_told.result (λ said. IfSome said (λ reply. tree_of (g.P.SectorView.space c.shorten_told.new.space).content ≡ (step_line (tree_of k) (Ok (command.Trunc c.args.path.now c.args.size))).1))) (c.facts.ensures.looked.reads.looks.content tells) (c.shorten_told.ensures.tree (c.facts.ensures.looked.reads.looks.same.tells ∙ tells))

pub returns-in-Ok-clause-refused : goal.returns-in-Ok-clause-refused
returns-in-Ok-clause-refused g c tells =
    subst (λ (k : Content). IfOk c.shorten_told.result (λ said. IfSome said (λ reply. is_refusal reply ≡ true → (g.P.SectorView.space c.shorten_told.new.space).content ≡ k))) (c.facts.ensures.looked.reads.looks.content tells) (c.shorten_told.ensures.refused (c.facts.ensures.looked.reads.looks.same.tells ∙ tells))

pub returns-in-Ok-clause-lists : goal.returns-in-Ok-clause-lists
returns-in-Ok-clause-lists g c tells =
    subst (λ (k : Content). IfOk c.shorten_told.result (λ said. said ≡ Some reply.Ok → IsShortened c.args.path.now c.args.size k (g.P.SectorView.space c.shorten_told.new.space).content)) (c.facts.ensures.looked.reads.looks.content tells) (c.shorten_told.ensures.lists (c.facts.ensures.looked.reads.looks.same.tells ∙ tells))

pub returns-in-Ok-clause-grows : goal.returns-in-Ok-clause-grows
returns-in-Ok-clause-grows g c tells =
    subst (λ (k : Content). IfOk c.shorten_told.result (λ said. IfNone said ((is_some (data_of (tree_of k) (command.Trunc c.args.path.now c.args.size)) ≡ true) × ((g.P.SectorView.space c.shorten_told.new.space).content ≡ k)))) (c.facts.ensures.looked.reads.looks.content tells) (c.shorten_told.ensures.grows (c.facts.ensures.looked.reads.looks.same.tells ∙ tells))

pub returns-in-Ok-clause-shrunk : goal.returns-in-Ok-clause-shrunk
returns-in-Ok-clause-shrunk g c tells =
    subst (λ (k : Content × Option ℕ). IfOk c.shorten_told.result (λ said. c.shorten_told.new.volume.shrunk ≡ shrunk_then (tree_of k.0) c.args.path.now c.args.size said k.1)) {x = ((g.P.SectorView.space c.facts.new.space).content, c.facts.new.self.shrunk)} {y = ((g.P.SectorView.space c.args.space.now).content, c.args.volume.now.shrunk)} (λ i. (c.facts.ensures.looked.reads.looks.content tells i, c.facts.ensures.looked.reads.keeps.shrunk i)) (c.shorten_told.ensures.shrunk (c.facts.ensures.looked.reads.looks.same.tells ∙ tells))

pub returns-in-Ok-clause-touches : goal.returns-in-Ok-clause-touches
returns-in-Ok-clause-touches g c committed =
    touches_both committed _ (g.P.SectorView.space c.args.space.now) (g.P.SectorView.space c.facts.new.space) (g.P.SectorView.space c.shorten_told.new.space) (touches_looks committed _ (g.P.SectorView.space c.args.space.now) (g.P.SectorView.space c.facts.new.space) c.facts.ensures.looked.reads.looks)
    (subst (λ (l : List ℕ). Touches committed (λ s. Contains l s) (g.P.SectorView.space c.facts.new.space) (g.P.SectorView.space c.shorten_told.new.space)) (own_still c.args.volume.now c.facts.new.self (g.P.SectorView.space c.args.space.now) (g.P.SectorView.space c.facts.new.space) c.facts.ensures.looked.reads) (c.shorten_told.ensures.touches committed))

pub returns-in-Ok-clause-below : goal.returns-in-Ok-clause-below
returns-in-Ok-clause-below g c = g.met.P.SectorView.follows_trans c.args.space.now c.facts.new.space c.shorten_told.new.space c.facts.ensures.looked.edits.ran.below c.shorten_told.ensures.below

pub returns-in-Ok-clause-spent : goal.returns-in-Ok-clause-spent
returns-in-Ok-clause-spent g c tells = omega (arith, c.facts.ensures.looked.reads.looks.spare, c.shorten_told.ensures.spent (c.facts.ensures.looked.reads.looks.same.tells ∙ tells), node_still c.args.volume.now c.facts.new.self (g.P.SectorView.space c.args.space.now) (g.P.SectorView.space c.facts.new.space) c.facts.ensures.looked.reads)

pub returns-in-Ok-clause-loads : goal.returns-in-Ok-clause-loads
returns-in-Ok-clause-loads g c tells n grow is =
    omega (arith, c.facts.ensures.looked.reads.looks.spare, c.shorten_told.ensures.loads (c.facts.ensures.looked.reads.looks.same.tells ∙ tells) n grow ((λ i. weight (c.facts.ensures.looked.reads.keeps.capacity i) (volume_of (c.facts.ensures.looked.reads.looks.content tells i)) (tree_of (c.facts.ensures.looked.reads.looks.content tells i)) (command.Trunc c.args.path.now c.args.size)) ∙ is))

pub returns-in-Ok-clause-header : goal.returns-in-Ok-clause-header
returns-in-Ok-clause-header g c = c.shorten_told.ensures.header ∙ c.facts.ensures.looked.reads.keeps.header

pub returns-in-Ok-clause-map : goal.returns-in-Ok-clause-map
returns-in-Ok-clause-map g c = c.shorten_told.ensures.map ∙ c.facts.ensures.looked.reads.keeps.map

pub returns-in-Err-clause-reply : goal.returns-in-Err-clause-reply
returns-in-Err-clause-reply g c tells = (refused_stat (tree_of (g.P.SectorView.space c.args.space.now).content) c.args.path.now c.args.size c.in-Err.why (sym c.in-Err.is ∙ c.in_ok-told.ensures.told tells)).0

pub returns-in-Err-clause-tree : goal.returns-in-Err-clause-tree
returns-in-Err-clause-tree g c tells = ap (λ (k : Content). tree_of k) (c.facts.ensures.looked.reads.looks.content tells) ∙ (refused_stat (tree_of (g.P.SectorView.space c.args.space.now).content) c.args.path.now c.args.size c.in-Err.why (sym c.in-Err.is ∙ c.in_ok-told.ensures.told tells)).1

pub returns-in-Err-clause-refused : goal.returns-in-Err-clause-refused
returns-in-Err-clause-refused g c tells is = c.facts.ensures.looked.reads.looks.content tells

pub returns-in-Err-clause-lists : goal.returns-in-Err-clause-lists
returns-in-Err-clause-lists g c tells said = absurd (let no : Some (reply.No c.in-Err.why) ≡ Some reply.Ok = said in cc no)

pub returns-in-Err-clause-touches : goal.returns-in-Err-clause-touches
returns-in-Err-clause-touches g c committed = touches_looks committed _ (g.P.SectorView.space c.args.space.now) (g.P.SectorView.space c.facts.new.space) c.facts.ensures.looked.reads.looks

pub returns-in-Err-clause-spent : goal.returns-in-Err-clause-spent
returns-in-Err-clause-spent g c tells = omega (arith, c.facts.ensures.looked.reads.looks.spare)

pub returns-in-Err-clause-loads : goal.returns-in-Err-clause-loads
returns-in-Err-clause-loads g c tells n grow is = omega (arith, c.facts.ensures.looked.reads.looks.spare)

pub returns-in-Err-clause-service : goal.returns-in-Err-clause-service
returns-in-Err-clause-service g c = c.facts.ensures.looked.stands.service

pub returns-in_err-told-clause-touches : goal.returns-in_err-told-clause-touches
returns-in_err-told-clause-touches g c committed = touches_looks committed _ (g.P.SectorView.space c.args.space.now) (g.P.SectorView.space c.facts.new.space) c.facts.ensures.looked.reads.looks

pub returns-in_err-told-clause-service : goal.returns-in_err-told-clause-service
returns-in_err-told-clause-service g c = c.facts.ensures.looked.stands.service

pub returns-in_err-told-clause-spent : goal.returns-in_err-told-clause-spent
returns-in_err-told-clause-spent g c tells = omega (arith, c.facts.ensures.looked.reads.looks.spare)

pub returns-in_err-told-clause-loads : goal.returns-in_err-told-clause-loads
returns-in_err-told-clause-loads g c tells n grow is = omega (arith, c.facts.ensures.looked.reads.looks.spare)

pub returns-in-Ok-clause-idle : goal.returns-in-Ok-clause-idle
returns-in-Ok-clause-idle g c =
    if_so (λ (said : Option Reply). IfNone said (ReadsVolume c.facts.new.self c.shorten_told.new.volume (g.P.SectorView.space c.facts.new.space) (g.P.SectorView.space c.shorten_told.new.space)))
    (λ (said : Option Reply). IfNone said (ReadsVolume c.args.volume.now c.shorten_told.new.volume (g.P.SectorView.space c.args.space.now) (g.P.SectorView.space c.shorten_told.new.space))) c.shorten_told.result
    (λ said was. none_so said _ _ (λ reads. volume_both c.args.volume.now c.facts.new.self c.shorten_told.new.volume (g.P.SectorView.space c.args.space.now) (g.P.SectorView.space c.facts.new.space) (g.P.SectorView.space c.shorten_told.new.space) c.facts.ensures.looked.reads reads) was) c.shorten_told.ensures.idle

pub returns-in-Err-clause-settled : goal.returns-in-Err-clause-settled
returns-in-Err-clause-settled g c tells = c.facts.ensures.serves.settled (c.facts.ensures.looked.reads.looks.same.tells ∙ tells)

pub returns-in-Ok-clause-settled : goal.returns-in-Ok-clause-settled
returns-in-Ok-clause-settled g c tells = c.shorten_told.ensures.settled (c.facts.ensures.looked.reads.looks.same.tells ∙ tells)
