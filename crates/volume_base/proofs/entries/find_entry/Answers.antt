use Rattle.std.proofs.Common.{◌≡◌, List, sym, ◌∙◌, ap}
use Rattle.std.specs.Prelude.{Option}
use Rattle.btree_node.specs.Levels.{Pair}
use Rattle.btree_file.specs.Standing.{pairs_in}
use Rattle.btree_file.specs.State.{sectors_of_tree}
use Rattle.volume_base.specs.Entering.{entry_by_id, entry_told, entry_under}
use Rattle.volume_base.specs.declared.entries.Entry.{Entry}
use Rattle.volume_base.proofs.Over.{reads_both, pairs_read}
use Rattle.volume_base.proofs.Seeing.{if_so}
use Rattle.volume_base.proofs.entries.find_entry.Goals as goal

pub returns-in-Some-clause-found : goal.returns-in-Some-clause-found
returns-in-Some-clause-found g c tells =
    let old = pairs_in (sectors_of_tree c.args.tree.now) (g.P.SectorView.space c.args.space.now).content in
    if_so (λ (f : Option Entry). f ≡ entry_under (pairs_in (sectors_of_tree c.find_thread.new.tree) (g.P.SectorView.space c.find_thread.new.space).content) c.in-Some.thread)
    (λ (f : Option Entry). f ≡ entry_by_id (pairs_in (sectors_of_tree c.args.tree.now) (g.P.SectorView.space c.args.space.now).content) c.args.id) c.entry_under.result
    (λ f is. is ∙ ap (λ (l : List Pair). entry_under l c.in-Some.thread) (pairs_read c.args.tree.now c.find_thread.new.tree (g.P.SectorView.space c.args.space.now) (g.P.SectorView.space c.find_thread.new.space) tells c.find_thread.ensures.reads)
    ∙ ap (entry_told (pairs_in (sectors_of_tree c.args.tree.now) (g.P.SectorView.space c.args.space.now).content)) (sym c.in-Some.is ∙ c.in_ok-thread.ensures.found tells))
    (c.entry_under.ensures.found (c.find_thread.ensures.reads.looks.same.tells ∙ tells))

pub returns-in-Some-clause-reads : goal.returns-in-Some-clause-reads
returns-in-Some-clause-reads g c =
    reads_both c.args.tree.now c.find_thread.new.tree c.entry_under.new.tree (g.P.SectorView.space c.args.space.now) (g.P.SectorView.space c.find_thread.new.space) (g.P.SectorView.space c.entry_under.new.space) c.find_thread.ensures.reads c.entry_under.ensures.reads

pub returns-in-None-clause-found : goal.returns-in-None-clause-found
returns-in-None-clause-found g c tells = ap (entry_told (pairs_in (sectors_of_tree c.args.tree.now) (g.P.SectorView.space c.args.space.now).content)) (sym c.in-None.is ∙ c.in_ok-thread.ensures.found tells)
