use Rattle.std.proofs.Common.{inl, inr, sym, ◌∙◌, ap, subst, arith}
use Rattle.std.proofs.lemmas.Bool.{true≢false}
use Rattle.sector_disk.specs.Lists.{Content}
use Rattle.hfs_language.specs.declared.command.Command.TheVariants as command
use Rattle.hfs_model.specs.Step.{step}
use Rattle.hfs_volume.specs.TreeOf.{tree_of}
use Rattle.volume_base.proofs.Framed.{edits_err, edits_ok, edits_spent, looked_ok}
use Rattle.volume_base.proofs.Joined.{edits_both}
use Rattle.volume_base.proofs.Routed.{moved_line, mv_refused_line}
use Rattle.volume_names.specs.Moving.{ComesTo, ReplacesFile, TakesOver}
use Rattle.volume_names.specs.declared.replacing.Taking.{Taking}
use Rattle.volume_names.proofs.LinkLoads.{puts_still}
use Rattle.volume_names.proofs.Taken.{same_stays}
use Rattle.volume_names.proofs.replacing.mv_over.Goals as goal

pub take_over-requires-clause-over : goal.take_over-requires-clause-over
take_over-requires-clause-over g c told =
    let tells = sym c.find_taking.ensures.looked.reads.looks.same.tells ∙ told in
    let v = c.args.volume.now in
    let w = c.find_taking.new.volume in
    let old = g.P.SectorView.space c.args.space.now in
    let read = g.P.SectorView.space c.find_taking.new.space in
    let tree = tree_of old.content in
    let reads = c.find_taking.ensures.looked.reads in
    let same = reads.looks.content tells in
    let it = subst (λ (t : Taking). ComesTo t tree c.args.from.now c.args.to.now) c.in-Over.is (c.in_ok-it.ensures.tells tells) in
    subst (λ (k : Content). ReplacesFile c.in-Over.links (tree_of k) c.args.from.now c.args.to.now) (sym same) it

pub returns-in-Refused-clause-reply : goal.returns-in-Refused-clause-reply
returns-in-Refused-clause-reply g c tells =
    let v = c.args.volume.now in
    let w = c.find_taking.new.volume in
    let old = g.P.SectorView.space c.args.space.now in
    let read = g.P.SectorView.space c.find_taking.new.space in
    let tree = tree_of old.content in
    let reads = c.find_taking.ensures.looked.reads in
    let same = reads.looks.content tells in
    let it = subst (λ (t : Taking). ComesTo t tree c.args.from.now c.args.to.now) c.in-Refused.is (c.in_ok-it.ensures.tells tells) in
    (mv_refused_line tree c.args.from.now c.args.to.now c.in-Refused.why c.requires.not_own c.requires.goal_not_own it).0

pub returns-in-Refused-clause-tree : goal.returns-in-Refused-clause-tree
returns-in-Refused-clause-tree g c tells =
    let v = c.args.volume.now in
    let w = c.find_taking.new.volume in
    let old = g.P.SectorView.space c.args.space.now in
    let read = g.P.SectorView.space c.find_taking.new.space in
    let tree = tree_of old.content in
    let reads = c.find_taking.ensures.looked.reads in
    let same = reads.looks.content tells in
    let it = subst (λ (t : Taking). ComesTo t tree c.args.from.now c.args.to.now) c.in-Refused.is (c.in_ok-it.ensures.tells tells) in
    ap (λ (k : Content). tree_of k) same ∙ (mv_refused_line tree c.args.from.now c.args.to.now c.in-Refused.why c.requires.not_own c.requires.goal_not_own it).1

pub returns-in-Refused-clause-refused : goal.returns-in-Refused-clause-refused
returns-in-Refused-clause-refused g c tells is = c.find_taking.ensures.looked.reads.looks.content tells

pub returns-in-Refused-clause-lists : goal.returns-in-Refused-clause-lists
returns-in-Refused-clause-lists g c tells is = absurd (cc is)

pub returns-in-Refused-clause-edits : goal.returns-in-Refused-clause-edits
returns-in-Refused-clause-edits g c = looked_ok _ c.find_taking.ensures.looked

pub returns-in-Refused-clause-loads : goal.returns-in-Refused-clause-loads
returns-in-Refused-clause-loads g c tells n grow is = omega (arith, c.find_taking.ensures.looked.reads.looks.spare)

pub returns-in-Same-clause-reply : goal.returns-in-Same-clause-reply
returns-in-Same-clause-reply g c tells =
    let v = c.args.volume.now in
    let w = c.find_taking.new.volume in
    let old = g.P.SectorView.space c.args.space.now in
    let read = g.P.SectorView.space c.find_taking.new.space in
    let tree = tree_of old.content in
    let reads = c.find_taking.ensures.looked.reads in
    let same = reads.looks.content tells in
    let it = subst (λ (t : Taking). ComesTo t tree c.args.from.now c.args.to.now) c.in-Same.is (c.in_ok-it.ensures.tells tells) in
    (moved_line tree c.args.from.now c.args.to.now it.0 c.requires.not_own c.requires.goal_not_own it.1).0

pub returns-in-Same-clause-tree : goal.returns-in-Same-clause-tree
returns-in-Same-clause-tree g c tells =
    let v = c.args.volume.now in
    let w = c.find_taking.new.volume in
    let old = g.P.SectorView.space c.args.space.now in
    let read = g.P.SectorView.space c.find_taking.new.space in
    let tree = tree_of old.content in
    let reads = c.find_taking.ensures.looked.reads in
    let same = reads.looks.content tells in
    let it = subst (λ (t : Taking). ComesTo t tree c.args.from.now c.args.to.now) c.in-Same.is (c.in_ok-it.ensures.tells tells) in
    ap (λ (k : Content). tree_of k) same ∙ same_stays tree c.args.from.now c.args.to.now it.0 it.1 it.2 ∙ (moved_line tree c.args.from.now c.args.to.now it.0 c.requires.not_own c.requires.goal_not_own it.1).1

pub returns-in-Same-clause-refused : goal.returns-in-Same-clause-refused
returns-in-Same-clause-refused g c tells is = absurd (true≢false (sym is))

pub returns-in-Same-clause-lists : goal.returns-in-Same-clause-lists
returns-in-Same-clause-lists g c tells is =
    let v = c.args.volume.now in
    let w = c.find_taking.new.volume in
    let old = g.P.SectorView.space c.args.space.now in
    let read = g.P.SectorView.space c.find_taking.new.space in
    let tree = tree_of old.content in
    let reads = c.find_taking.ensures.looked.reads in
    let same = reads.looks.content tells in
    let it = subst (λ (t : Taking). ComesTo t tree c.args.from.now c.args.to.now) c.in-Same.is (c.in_ok-it.ensures.tells tells) in
    inr (inr (record { entry = it.0.0; place = it.0.1; allowed = it.1; same = same }))

pub returns-in-Same-clause-edits : goal.returns-in-Same-clause-edits
returns-in-Same-clause-edits g c = looked_ok _ c.find_taking.ensures.looked

pub returns-in-Same-clause-loads : goal.returns-in-Same-clause-loads
returns-in-Same-clause-loads g c tells n grow is = omega (arith, c.find_taking.ensures.looked.reads.looks.spare)

pub returns-in_err-it-clause-loads : goal.returns-in_err-it-clause-loads
returns-in_err-it-clause-loads g c tells n grow is = omega (arith, c.find_taking.ensures.looked.reads.looks.spare)

pub returns-in_ok-take_over-in-Over-clause-reply : goal.returns-in_ok-take_over-in-Over-clause-reply
returns-in_ok-take_over-in-Over-clause-reply g c tells =
    let v = c.args.volume.now in
    let w = c.find_taking.new.volume in
    let old = g.P.SectorView.space c.args.space.now in
    let read = g.P.SectorView.space c.find_taking.new.space in
    let tree = tree_of old.content in
    let reads = c.find_taking.ensures.looked.reads in
    let same = reads.looks.content tells in
    let it = subst (λ (t : Taking). ComesTo t tree c.args.from.now c.args.to.now) c.in-Over.is (c.in_ok-it.ensures.tells tells) in
    (moved_line tree c.args.from.now c.args.to.now it.pair c.requires.not_own c.requires.goal_not_own it.allowed).0

pub returns-in_ok-take_over-in-Over-clause-tree : goal.returns-in_ok-take_over-in-Over-clause-tree
returns-in_ok-take_over-in-Over-clause-tree g c tells =
    let v = c.args.volume.now in
    let w = c.find_taking.new.volume in
    let old = g.P.SectorView.space c.args.space.now in
    let read = g.P.SectorView.space c.find_taking.new.space in
    let tree = tree_of old.content in
    let reads = c.find_taking.ensures.looked.reads in
    let same = reads.looks.content tells in
    let it = subst (λ (t : Taking). ComesTo t tree c.args.from.now c.args.to.now) c.in-Over.is (c.in_ok-it.ensures.tells tells) in
    c.in_ok-take_over-in-Over.ensures.tree (reads.looks.same.tells ∙ tells) ∙ ap (λ (k : Content). (step (tree_of k) (command.Mv c.args.from.now c.args.to.now)).1) same
    ∙ (moved_line tree c.args.from.now c.args.to.now it.pair c.requires.not_own c.requires.goal_not_own it.allowed).1

pub returns-in_ok-take_over-in-Over-clause-refused : goal.returns-in_ok-take_over-in-Over-clause-refused
returns-in_ok-take_over-in-Over-clause-refused g c tells is = absurd (true≢false (sym is))

pub returns-in_ok-take_over-in-Over-clause-lists : goal.returns-in_ok-take_over-in-Over-clause-lists
returns-in_ok-take_over-in-Over-clause-lists g c tells is =
    let reads = c.find_taking.ensures.looked.reads in
    inr (inl (subst (λ (k : Content). TakesOver c.args.from.now c.args.to.now k (g.P.SectorView.space c.take_over.new.space).content) (reads.looks.content tells) (c.in_ok-take_over-in-Over.ensures.takes (reads.looks.same.tells ∙ tells))))

pub returns-in_ok-take_over-in-Over-clause-edits : goal.returns-in_ok-take_over-in-Over-clause-edits
returns-in_ok-take_over-in-Over-clause-edits g c = edits_ok (edits_spent (edits_both g.met.P.SectorView.follows_trans c.find_taking.ensures.looked.edits c.in_ok-take_over-in-Over.ensures.edits) (λ tells. omega arith))

pub returns-in_err-take_over-in-Over-clause-edits : goal.returns-in_err-take_over-in-Over-clause-edits
returns-in_err-take_over-in-Over-clause-edits g c =
    edits_err c.from_residual-in_err-take_over-in-Over.ensures.1 (edits_spent (edits_both g.met.P.SectorView.follows_trans c.find_taking.ensures.looked.edits c.in_err-take_over-in-Over.ensures.edits) (λ tells. omega arith))

pub returns-in_ok-take_over-in-Over-clause-loads : goal.returns-in_ok-take_over-in-Over-clause-loads
returns-in_ok-take_over-in-Over-clause-loads g c tells =
    let reads = c.find_taking.ensures.looked.reads in
    puts_still (command.Mv c.args.from.now c.args.to.now) c.args.volume.now c.find_taking.new.volume (g.P.SectorView.space c.args.space.now) (g.P.SectorView.space c.find_taking.new.space) (g.P.SectorView.space c.take_over.new.space) reads tells (c.take_over.ensures.loads (reads.looks.same.tells ∙ tells))

pub returns-in_err-take_over-in-Over-clause-loads : goal.returns-in_err-take_over-in-Over-clause-loads
returns-in_err-take_over-in-Over-clause-loads g c tells =
    let reads = c.find_taking.ensures.looked.reads in
    puts_still (command.Mv c.args.from.now c.args.to.now) c.args.volume.now c.find_taking.new.volume (g.P.SectorView.space c.args.space.now) (g.P.SectorView.space c.find_taking.new.space) (g.P.SectorView.space c.take_over.new.space) reads tells (c.take_over.ensures.loads (reads.looks.same.tells ∙ tells))
