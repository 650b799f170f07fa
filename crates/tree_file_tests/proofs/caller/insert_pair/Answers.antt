use Rattle.std.proofs.Common.{◌≡◌, ℕ, List, ◌∷◌, [], IsTrue, get_or, sym, ◌∙◌, ap}
use Rattle.sector_disk.specs.Space.{Space}
use Rattle.btree_file.proofs.StandingLaws.{tree_held, values_held}
use Rattle.tree_file_tests.proofs.Callers.{holds_again, pairs_again, room_taken}
use Rattle.tree_file_tests.proofs.caller.insert_pair.Goals as goal

pub insert-requires-clause-tree : goal.insert-requires-clause-tree
insert-requires-clause-tree g c tells =
    let has = c.requires.holds tells in
    tree_held has.0 g.K.KeyOrder.is_key g.K.KeyOrder.is_value g.K.KeyOrder.cmp _ c.args.tree.now (g.P.SectorView.space c.args.space.now) has.1

pub insert-requires-clause-room : goal.insert-requires-clause-room
insert-requires-clause-room g c = λ tells. c.requires.room tells []

pub returns-clause-frame : goal.returns-clause-frame
returns-clause-frame g c =
    let names = c.insert.ensures.does.same.names in
    let tree_is = c.tree-1.given.1 (sym (ap (λ (l : List ℕ). get_or l 0 0) names)) in
    let space_is = c.space-1.given.1 (sym (ap (λ (l : List ℕ). get_or l 1 0) names)) in
    rw (tree_is, space_is) c.insert.ensures.below.0

pub returns-clause-below : goal.returns-clause-below
returns-clause-below g c =
    let space_is = c.space-1.given.1 (sym (ap (λ (l : List ℕ). get_or l 1 0) c.insert.ensures.does.same.names)) in
    rw space_is c.insert.ensures.below.1

pub returns-clause-room : goal.returns-clause-room
returns-clause-room g c =
    let names = c.insert.ensures.does.same.names in
    let space_is = c.space-1.given.1 (sym (ap (λ (l : List ℕ). get_or l 1 0) names)) in
    rw space_is (room_taken _ _ c.args.tree.now c.insert.new.store.tree.now (g.P.SectorView.space c.args.space.now) (g.P.SectorView.space c.insert.new.store.space.now) _ _ c.insert.ensures.does)

pub returns-clause-holds : goal.returns-clause-holds
returns-clause-holds g c tells form was =
    let names = c.insert.ensures.does.same.names in
    let tree_is = c.tree-1.given.1 (sym (ap (λ (l : List ℕ). get_or l 0 0) names)) in
    let space_is = c.space-1.given.1 (sym (ap (λ (l : List ℕ). get_or l 1 0) names)) in
    rw (tree_is, space_is) (holds_again g.K.KeyOrder.is_key g.K.KeyOrder.is_value g.K.KeyOrder.cmp _ c.args.tree.now c.insert.new.store.tree.now (g.P.SectorView.space c.args.space.now) (g.P.SectorView.space c.insert.new.store.space.now) tells c.insert.ensures.below.0 form c.insert.result was (c.insert.new.store.agrees (c.insert.ensures.does.same.tells ∙ tells)) (c.insert.ensures.header tells was.stands.settled) (c.insert.ensures.tree tells) (c.insert.ensures.values tells (values_held form g.K.KeyOrder.is_key g.K.KeyOrder.is_value g.K.KeyOrder.cmp [] c.args.tree.now (g.P.SectorView.space c.args.space.now) was)))

pub returns-clause-pairs : goal.returns-clause-pairs
returns-clause-pairs g c tells =
    let names = c.insert.ensures.does.same.names in
    let space_is = c.space-1.given.1 (sym (ap (λ (l : List ℕ). get_or l 1 0) names)) in
    let has = c.requires.holds tells in
    rw space_is (pairs_again g.K.KeyOrder.is_key g.K.KeyOrder.is_value g.K.KeyOrder.cmp [] c.args.tree.now c.insert.new.store.tree.now (g.P.SectorView.space c.args.space.now) (g.P.SectorView.space c.insert.new.store.space.now) tells c.insert.ensures.below.0 c.args.key.now c.args.value.now c.insert.result has.1.stands (c.insert.new.store.agrees (c.insert.ensures.does.same.tells ∙ tells)) (c.insert.ensures.header tells has.1.stands.settled) (c.insert.ensures.pairs tells))
