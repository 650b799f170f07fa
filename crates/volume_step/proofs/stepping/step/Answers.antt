use Rattle.std.proofs.Common.{inl, inr, sym, ◌∙◌, arith}
use Rattle.std.proofs.lemmas.Bool.{true≢false}
use Rattle.std.specs.Prelude.{None}
use Rattle.hfs_volume.specs.TreeOf.{tree_of}
use Rattle.volume_base.proofs.Seeing.{if_so}
use Rattle.volume_base.specs.Keeping.{shrunk_of}
use Rattle.volume_step.proofs.AnewReady.{ready_alike}
use Rattle.volume_step.proofs.Widening.{keeps_shrunk, reads_shrink_none}
use Rattle.volume_step.proofs.Loaded.{within_none}
use Rattle.volume_step.proofs.ReadyData.{any_ok}
use Rattle.volume_step.proofs.Unfilled.{filled_none, serves_filling}
use Rattle.volume_base.specs.Room.{capacity_of}
use Rattle.volume_step.proofs.FilledFirst.{few_of_none, hand_dropped, read_never}
use Rattle.hfs_volume.specs.Weight.{data_of}
use Rattle.volume_step.proofs.Served.{no_data}
use Rattle.volume_step.proofs.Performed.{performs_from, performs_looked, performs_own}
use Rattle.volume_step.proofs.stepping.step.Goals as goal

pub returns-then-only_reads-clause-shrunk : goal.returns-then-only_reads-clause-shrunk
returns-then-only_reads-clause-shrunk g c tells =
    keeps_shrunk c.args.command.now (g.P.SectorView.space c.args.space.now).content (shrunk_of c.args.volume.now) (shrunk_of c.answer.new.volume)
    (reads_shrink_none (tree_of (g.P.SectorView.space c.args.space.now).content) c.args.command.now (sym c.only_reads.ensures ∙ c.if-only_reads.true)) c.answer.ensures.looked.reads.keeps.shrunk c.answer.result

pub returns-clause-ready : goal.returns-clause-ready
returns-clause-ready g c tells ready = elim ready [
  | inl reads ↦ absurd (true≢false (sym reads ∙ sym c.only_reads.ensures ∙ c.if-only_reads.false))
  | inr does ↦ elim does [
    | inl is ↦ c.change.ensures.ready tells is
    | inr puts ↦ c.change.ensures.puts tells puts
  ]
]

pub returns-clause-anew : goal.returns-clause-anew
returns-clause-anew g c tells anew fits =
    c.change.ensures.alike tells (ready_alike c.args.volume.now (g.P.SectorView.space c.args.space.now) (c.requires.serves.settled tells) anew c.args.command.now (sym c.only_reads.ensures ∙ c.if-only_reads.false) fits)

pub returns-then-only_reads-clause-loads : goal.returns-then-only_reads-clause-loads
returns-then-only_reads-clause-loads g c tells = within_none c.args.command.now c.args.volume.now (g.P.SectorView.space c.args.space.now) (g.P.SectorView.space c.answer.new.space) (omega (arith, c.answer.ensures.looked.reads.looks.spare))

pub returns-then-only_reads-clause-short : goal.returns-then-only_reads-clause-short
returns-then-only_reads-clause-short g c tells needs = if_so _ _ c.answer.result (λ it never same. absurd (never same)) c.answer.ensures.ready

pub returns-clause-short : goal.returns-clause-short
returns-clause-short g c tells needs = c.change.ensures.short tells needs

pub returns-then-only_reads-clause-filled : goal.returns-then-only_reads-clause-filled
returns-then-only_reads-clause-filled g c = any_ok c.answer.result (filled_none c.answer.new.volume (g.P.SectorView.space c.answer.new.space) c.answer.ensures.looked.reads.keeps.filling)

pub returns-then-only_reads-clause-further : goal.returns-then-only_reads-clause-further
returns-then-only_reads-clause-further g c tells = if_so _ _ c.answer.result (λ it is same. absurd (read_never (capacity_of c.args.volume.now) c.args.number c.args.command.now (g.P.SectorView.space c.args.space.now).content (g.P.SectorView.space c.answer.new.space).content c.args.volume.now.filling c.args.volume.now.filling it (sym c.only_reads.ensures ∙ c.if-only_reads.true) is same)) (c.answer.ensures.answered tells)

pub returns-clause-further : goal.returns-clause-further
returns-clause-further g c tells = c.change.ensures.further tells

pub returns-then-only_reads-clause-least : goal.returns-then-only_reads-clause-least
returns-then-only_reads-clause-least g c tells = if_so _ _ c.answer.result (λ it never done. few_of_none c.args.command.now c.args.volume.now.filling (g.P.SectorView.space c.args.space.now).content (no_data (tree_of (g.P.SectorView.space c.args.space.now).content) c.args.command.now (sym c.only_reads.ensures ∙ c.if-only_reads.true))) c.answer.ensures.ready

pub returns-clause-least : goal.returns-clause-least
returns-clause-least g c tells = c.change.ensures.least tells

pub answer-requires-clause-serves : goal.answer-requires-clause-serves
answer-requires-clause-serves g c = serves_filling c.args.volume.now None (g.P.SectorView.space c.args.space.now) c.requires.serves

pub returns-then-only_reads-clause-answered : goal.returns-then-only_reads-clause-answered
returns-then-only_reads-clause-answered g c tells = c.answer.ensures.answered tells

pub returns-then-only_reads-clause-ready : goal.returns-then-only_reads-clause-ready
returns-then-only_reads-clause-ready g c tells ready = c.answer.ensures.ready

pub returns-then-only_reads-clause-anew : goal.returns-then-only_reads-clause-anew
returns-then-only_reads-clause-anew g c tells anew fits = c.answer.ensures.ready

pub returns-then-only_reads-clause-hand : goal.returns-then-only_reads-clause-hand
returns-then-only_reads-clause-hand g c tells = hand_dropped c.answer.result (data_of (tree_of (g.P.SectorView.space c.args.space.now).content) c.args.command.now) c.answer.new.volume.filling (any_ok c.answer.result c.answer.ensures.looked.reads.keeps.filling)

pub returns-clause-hand : goal.returns-clause-hand
returns-clause-hand g c tells = c.change.ensures.hand tells

pub returns-then-only_reads-clause-frame : goal.returns-then-only_reads-clause-frame
returns-then-only_reads-clause-frame g c = performs_from None (performs_own (performs_looked c.answer.ensures.looked c.answer.ensures.serves))

pub returns-clause-frame : goal.returns-clause-frame
returns-clause-frame g c = c.change.ensures.frame
