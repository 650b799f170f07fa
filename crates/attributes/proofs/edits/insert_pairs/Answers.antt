use Rattle.std.proofs.Common.{length, sym, ◌∙◌, subst, arith}
use Rattle.std.specs.Prelude.{IsTrue}
use Rattle.std.proofs.lemmas.List.{get_or_default}
use Rattle.btree_node.specs.Tree.{pairs_of}
use Rattle.btree_edit.specs.Edits.{EditRoom}
use Rattle.attributes.specs.Forks.{IsShortPair}
use Rattle.attributes.proofs.Rounds.{room_next, room_round}
use Rattle.attributes.proofs.Row.{no_pair, puts_all, puts_next, puts_none}
use Rattle.attributes.proofs.Framing.{edits_none, edits_ok, edits_err, edits_upto, edits_then, ready_again}
use Rattle.attributes.proofs.edits.insert_pairs.Goals as goal

pub loop-pair-init : goal.loop-pair-init
loop-pair-init g c =
    let s = g.N.NodeStore.state c.args.store.now in
    record {
      within = omega arith;
      puts = λ tells id name parts spell rise some spelled none. puts_none id name parts c.args.pairs.now (pairs_of s) spell rise none spelled;
      room = λ tells. subst (λ n. EditRoom n 266 s) (omega arith) (c.requires.room tells);
      later = omega arith;
      frame = edits_none g.N.NodeStore.state g.N.NodeStore.follows 266 c.args.store.now c.requires.ready g.met.N.NodeStore.follows_refl;
    }

pub insert_pair-requires-clause-key : goal.insert_pair-requires-clause-key
insert_pair-requires-clause-key g c = (subst IsShortPair (sym c.pair-item.is) (c.requires.keys c.loop-pair.pair-index c.pair-item.result c.loop-pair-test.true)).key

pub insert_pair-requires-clause-short : goal.insert_pair-requires-clause-short
insert_pair-requires-clause-short g c = (subst IsShortPair (sym c.pair-item.is) (c.requires.keys c.loop-pair.pair-index c.pair-item.result c.loop-pair-test.true)).short

pub insert_pair-requires-clause-room : goal.insert_pair-requires-clause-room
insert_pair-requires-clause-room g c = room_round (length c.args.pairs.now) c.loop-pair.pair-index 266 (g.N.NodeStore.state c.loop-pair.store) c.loop-pair-test.true c.loop-pair.invariant.room

pub loop-pair-preserved : goal.loop-pair-preserved
loop-pair-preserved g c =
    let s = g.N.NodeStore.state c.args.store.now in
    let now = g.N.NodeStore.state c.loop-pair.store in
    let new = g.N.NodeStore.state c.insert_pair.new.store in
    let known = c.loop-pair.invariant in
    let done = c.in_ok-insert_pair.ensures in
    record {
      within = omega (arith, c.loop-pair-test.true);
      puts = λ tells id name parts spell rise some spelled none.
          let tells_now : IsTrue now.tells = known.frame.same.tells ∙ tells in
          puts_next id name c.args.pairs.now c.loop-pair.pair-index (pairs_of s) now (pairs_of new) c.pair-item.result c.in_ok-insert_pair.field-0 some c.loop-pair-test.true
          (known.puts tells id name parts spell rise some spelled none) (c.pair-item.is ∙ sym (get_or_default c.args.pairs.now c.loop-pair.pair-index no_pair c.pair-item.result c.loop-pair-test.true)) (done.answer tells_now) (done.pairs tells_now);
      room = room_next (length c.args.pairs.now) c.loop-pair.pair-index 266 now new c.loop-pair-test.true c.insert_pair.ensures.frame.same done.frame.edits known.room;
      later = omega (arith, known.later, c.insert_pair.ensures.cause.later);
      frame = edits_ok (edits_then known.frame done.frame g.met.N.NodeStore.follows_trans);
    }

pub returns-clause-put : goal.returns-clause-put
returns-clause-put g c tells id name parts spell rise some spelled none =
    let s = g.N.NodeStore.state c.args.store.now in
    let now = g.N.NodeStore.state c.loop-pair.store in
    puts_all id name c.args.pairs.now c.loop-pair.pair-index (pairs_of s) (pairs_of now) (omega (arith, c.loop-pair-test.false)) (c.loop-pair.invariant.puts tells id name parts spell rise some spelled none)

pub insert_pair-requires-clause-ready : goal.insert_pair-requires-clause-ready
insert_pair-requires-clause-ready g c = ready_again c.loop-pair.invariant.frame c.requires.ready

pub returns-in_err-insert_pair-clause-frame : goal.returns-in_err-insert_pair-clause-frame
returns-in_err-insert_pair-clause-frame g c =
    edits_upto (length c.args.pairs.now) (edits_err _ c.from_residual.ensures.1 (edits_then c.loop-pair.invariant.frame c.in_err-insert_pair.ensures.frame g.met.N.NodeStore.follows_trans)) (omega (arith, c.loop-pair-test.true))

pub returns-clause-frame : goal.returns-clause-frame
returns-clause-frame g c = edits_upto (length c.args.pairs.now) (edits_ok c.loop-pair.invariant.frame) c.loop-pair.invariant.within
