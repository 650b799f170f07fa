-- How edits and records updated in place add up.
use Rattle.std.proofs.Common.{◌≡◌, ◌≤◌, ◌+◌, ◌*◌, ◌-◌, ℕ, sym, ◌∙◌, subst, arith}
use Rattle.std.specs.Prelude.{IsTrue}
use Rattle.btree_node.specs.Store.{Store, SameStore, HasRoom}
use Rattle.btree_edit.specs.Editing.{edit_writes}
use Rattle.btree_edit.specs.Edits.{top_of, tops, IsNoHigher, EditRoom, TakesAtMost, TakesEdits}
use Rattle.btree_edit.specs.LevelEdit.{node_room}
use Rattle.btree_edit.specs.Reading.{ReadsNodes}
use Rattle.btree_edit.proofs.Doing.{does_both}
use Rattle.btree_edit.proofs.EditLaws.{costs_more, deep_first, deep_then, no_higher_trans, tops_add, tops_count, tops_keep, tops_no_lower, takes_none}
use Rattle.catalog.specs.Rooms.{UpdateRoom, UpdatesAtMost, TakesUpdates}
use Rattle.catalog.proofs.BeforeEdits.{reads_edit_nothing}

-- edits are edits and no update
pub most_edits : (edits longest : ℕ) (a b : Store) → TakesAtMost edits longest a b → UpdatesAtMost edits 0 longest a b
most_edits edits longest a b p tells deepest deep =
    costs_more (edits * edit_writes deepest) (edits * (deepest + 1)) (edits * edit_writes deepest + 0) (edits * (deepest + 1)) (p tells deepest deep) (omega arith) (omega arith)

pub edits_are : (edits longest : ℕ) (a b : Store) → TakesEdits edits longest a b → TakesUpdates edits 0 longest a b
edits_are edits longest a b p = record { takes = most_edits edits longest a b p.takes; top = p.top; records = p.records }

-- what calls take adds up
pub most_both : (first one others more longest : ℕ) (a b c : Store) → SameStore a b → TakesUpdates first one longest a b → UpdatesAtMost others more longest b c → UpdatesAtMost (first + others) (one + more) longest a c
most_both first one others more longest a b c same p q tells deepest deep =
    let rest = deep_then first others longest deepest a b same (p.top tells) deep in
    does_both (first * edit_writes deepest + one) (first * (deepest + 1)) (others * edit_writes deepest + more) (others * (deepest + 1)) ((first + others) * edit_writes deepest + (one + more)) ((first + others) * (deepest + 1))
    (p.takes tells deepest (deep_first first others longest deepest a deep)) (q (same.tells ∙ tells) deepest rest) (omega arith) (omega arith)

pub updates_add : (first one others more longest : ℕ) (a b c : Store) → SameStore a b → TakesUpdates first one longest a b → TakesUpdates others more longest b c → TakesUpdates (first + others) (one + more) longest a c
updates_add first one others more longest a b c same p q = record {
  takes = most_both first one others more longest a b c same p q.takes;
  top = λ tells.
      let room = node_room a.shape.node_size in
      let next = subst (λ n. IsNoHigher (top_of c) (tops (node_room n) (longest + 8) others (top_of b))) same.node_size (q.top (same.tells ∙ tells)) in
      let low = tops_keep room (longest + 8) others (top_of b) (tops room (longest + 8) first (top_of a)) (tops_count room (longest + 8) first (top_of a) (omega arith)) (p.top tells) in
      subst (λ top. IsNoHigher (top_of c) top) (sym (tops_add room (longest + 8) first others (top_of a))) (no_higher_trans next low);
  records = λ tells. omega (arith, p.records tells, q.records (same.tells ∙ tells));
}

-- what wasn't made takes nothing
pub most_fewer : (first one others more longest : ℕ) (a b : Store) → UpdatesAtMost first one longest a b → UpdatesAtMost (first + others) (one + more) longest a b
most_fewer first one others more longest a b p tells deepest deep =
    costs_more (first * edit_writes deepest + one) (first * (deepest + 1)) ((first + others) * edit_writes deepest + (one + more)) ((first + others) * (deepest + 1)) (p tells deepest (deep_first first others longest deepest a deep)) (omega arith) (omega arith)

pub updates_fewer : (first one others more longest : ℕ) (a b : Store) → TakesUpdates first one longest a b → TakesUpdates (first + others) (one + more) longest a b
updates_fewer first one others more longest a b p = record {
  takes = most_fewer first one others more longest a b p.takes;
  top = λ tells.
      let room = node_room a.shape.node_size in
      let higher = subst (λ top. IsNoHigher (tops room (longest + 8) first (top_of a)) top) (sym (tops_add room (longest + 8) first others (top_of a))) (tops_no_lower room (longest + 8) others (tops room (longest + 8) first (top_of a))) in
      no_higher_trans (p.top tells) higher;
  records = λ tells. omega (arith, p.records tells);
}

-- a call that didn't begin took nothing
pub most_none : (edits updates longest : ℕ) (store : Store) → UpdatesAtMost edits updates longest store store
most_none edits updates longest store tells deepest deep =
    costs_more (edits * edit_writes deepest) (edits * (deepest + 1)) (edits * edit_writes deepest + updates) (edits * (deepest + 1)) (takes_none edits longest store tells deepest deep) (omega arith) (omega arith)

pub updates_none : (edits updates longest : ℕ) (store : Store) → TakesUpdates edits updates longest store store
updates_none edits updates longest store = record {
  takes = most_none edits updates longest store;
  top = λ tells. tops_no_lower (node_room store.shape.node_size) (longest + 8) edits (top_of store);
  records = λ tells. omega arith;
}

-- reads are no update
pub reads_update_nothing : (most longest : ℕ) (a b : Store) → ReadsNodes most a b → a.faults ≤ b.faults → TakesUpdates 0 0 longest a b
reads_update_nothing most longest a b reads later = edits_are 0 longest a b (reads_edit_nothing most longest a b reads later)

-- ---- room

fewer_writes : (few all : ℕ) (store : Store) → few ≤ all → HasRoom all store → HasRoom few store
fewer_writes few all store less has = omega (arith, less, has)

writes_then : (m n all : ℕ) (a b : Store) → all ≡ m + n → b.unwritten ≤ a.unwritten → a.unwritten ≤ b.unwritten + m → a.writes_left + b.unwritten ≤ b.writes_left + a.unwritten → HasRoom all a → HasRoom n b
writes_then m n all a b is fewer some left has = omega (arith, is, fewer, some, left, has)

-- room for the edits alone
pub edits_room : (edits updates longest : ℕ) (store : Store) → (IsTrue store.tells → UpdateRoom edits updates longest store) → IsTrue store.tells → EditRoom edits longest store
edits_room edits updates longest store room tells = (room tells).room

-- the room that is left to the others
pub room_left : (first one others more longest : ℕ) (a b : Store) → SameStore a b → TakesUpdates first one longest a b → (IsTrue a.tells → UpdateRoom (first + others) (one + more) longest a)
    → IsTrue b.tells → UpdateRoom others more longest b
room_left first one others more longest a b same takes room tells_now =
    let tells : IsTrue a.tells = sym same.tells ∙ tells_now in
    let had = room tells in
    let deepest = had.room.deepest in
    let costs = takes.takes tells deepest (deep_first first others longest deepest a had.room.deep) in
    let left = writes_then (first * edit_writes deepest + one) (others * edit_writes deepest + more) ((first + others) * edit_writes deepest + (one + more)) a b (omega arith) costs.fewer costs.some costs.left had.beside in
    record {
      room = record {
        deepest = deepest;
        deep = deep_then first others longest deepest a b same (takes.top tells) had.room.deep;
        depth = λ some. had.room.depth (omega (arith, some));
        records = omega (arith, takes.records tells, had.room.records);
        free = omega (arith, had.room.free, costs.free);
        writes = fewer_writes (others * edit_writes deepest) (others * edit_writes deepest + more) b (omega arith) left;
      };
      beside = left;
    }

-- room for what comes first
pub room_before : (first one others more longest : ℕ) (store : Store) → (IsTrue store.tells → UpdateRoom (first + others) (one + more) longest store) → IsTrue store.tells → UpdateRoom first one longest store
room_before first one others more longest store room tells =
    let had = room tells in
    let deepest = had.room.deepest in
    let few = fewer_writes (first * edit_writes deepest + one) ((first + others) * edit_writes deepest + (one + more)) store (omega arith) had.beside in
    record {
      room = record {
        deepest = deepest;
        deep = deep_first first others longest deepest store had.room.deep;
        depth = λ some. had.room.depth (omega (arith, some));
        records = omega (arith, had.room.records);
        free = omega (arith, had.room.free);
        writes = fewer_writes (first * edit_writes deepest) (first * edit_writes deepest + one) store (omega arith) few;
      };
      beside = few;
    }

-- room for an update
pub update_room : (store : Store) → (IsTrue store.tells → UpdateRoom 0 1 516 store) → IsTrue store.tells → HasRoom 1 store
update_room store room tells = let had = room tells in fewer_writes 1 (0 * edit_writes had.room.deepest + 1) store (omega arith) had.beside
