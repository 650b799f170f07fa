-- How edits of one tree add up.
use Rattle.std.proofs.Common.{◌≡◌, ◌<◌, ◌≤◌, ℕ, zero, suc, ◌+◌, ◌-◌, ◌*◌, ◌^◌, Bool, true, false, length, refl, sym, ◌∙◌, ap, subst, inl, inr, arith, zero-add}
use Rattle.std.specs.Prelude.{IsTrue, nat_lt, if◌then◌else◌}
use Rattle.std.proofs.lemmas.Bool.{cases_lt, ltb-true, lt-ltb, true≢false}
use Rattle.std.proofs.Math.Nat.{mul-le-mul_left}
use Rattle.btree_node.specs.Node.{items}
use Rattle.btree_node.specs.Store.{Store, SameStore, HasRoom}
use Rattle.btree_edit.specs.Editing.{CostsAtMost, edit_writes}
use Rattle.btree_edit.specs.LevelEdit.{node_room}
use Rattle.btree_edit.specs.Rising.{BoundsRoot}
use Rattle.btree_edit.specs.Edits.{TreeTop, top_of, top_after, tops, IsNoHigher, GoesNoDeeper, EditRoom, TakesAtMost, TakesEdits}
use Rattle.btree_edit.proofs.Doing.{does_both}

-- ---- tops

pub no_higher_refl : (top : TreeTop) → IsNoHigher top top
no_higher_refl top = record { depth = omega arith; records = λ _ _. omega arith }

pub no_higher_trans : {a b c : TreeTop} → IsNoHigher a b → IsNoHigher b c → IsNoHigher a c
no_higher_trans {a} {b} {c} p q = record {
  depth = omega (arith, p.depth, q.depth);
  records = λ same deep. omega (arith, p.records (omega (arith, p.depth, q.depth, same)) deep, q.records (omega (arith, p.depth, q.depth, same)) (omega (arith, p.depth, deep)));
}

-- the top where one record more fits, or doesn't
abbrev rises_or_grows : Bool → (above records : ℕ) → TreeTop
rises_or_grows fuller above records = if fuller then record { depth = suc (suc (suc above)); records = 2 } else record { depth = suc (suc above); records = records + 1 }

module _ (room wide : ℕ) where
  after_grows : (depth records : ℕ) → depth ≤ (top_after room wide depth records).depth
  after_grows zero records = omega arith
  after_grows (suc zero) records = omega arith
  after_grows (suc (suc above)) records = by_test (nat_lt room (wide * (records + 1)))
    where
      by_test : (fuller : Bool) → suc (suc above) ≤ (rises_or_grows fuller above records).depth
      by_test true = omega arith
      by_test false = omega arith

  after_counts : (depth records : ℕ) → 1 ≤ records → 1 ≤ (top_after room wide depth records).records
  after_counts zero records some = omega arith
  after_counts (suc zero) records some = omega arith
  after_counts (suc (suc above)) records some = by_test (nat_lt room (wide * (records + 1)))
    where
      by_test : (fuller : Bool) → 1 ≤ (rises_or_grows fuller above records).records
      by_test true = omega arith
      by_test false = omega arith

  -- an index root at the same depth with more records gets no lower
  same_depth : (above few many : ℕ) → few ≤ many → IsNoHigher (top_after room wide (suc (suc above)) few) (top_after room wide (suc (suc above)) many)
  same_depth above few many more = by_tests (nat_lt room (wide * (few + 1))) refl (nat_lt room (wide * (many + 1))) refl
    where
      wider : wide * (few + 1) ≤ wide * (many + 1)
      wider = mul-le-mul_left wide (omega (arith, more))

      by_tests : (one : Bool) → nat_lt room (wide * (few + 1)) ≡ one → (other : Bool) → nat_lt room (wide * (many + 1)) ≡ other
          → IsNoHigher (rises_or_grows one above few) (rises_or_grows other above many)
      by_tests true is true also = record { depth = omega arith; records = λ _ _. omega arith }
      by_tests true is false also = absurd (not_less (ltb-true room (wide * (few + 1)) is))
        where
          not_less : room < wide * (few + 1) → ⊥
          not_less less = true≢false (sym (lt-ltb room (wide * (many + 1)) (omega (arith, less, wider))) ∙ also)
      by_tests false is true also = record { depth = omega arith; records = λ same _. omega (arith, same) }
      by_tests false is false also = record { depth = omega arith; records = λ _ _. omega (arith, more) }

  lower_depth : (one few other many : ℕ) → one < other → 1 ≤ many → IsNoHigher (top_after room wide one few) (top_after room wide other many)
  lower_depth zero few zero many less some = absurd (omega (arith, less))
  lower_depth zero few (suc zero) many less some = record { depth = omega arith; records = λ same deep. omega (arith, same) }
  lower_depth zero few (suc (suc above)) many less some = let grows = after_grows (suc (suc above)) many in record { depth = omega (arith, grows); records = λ same deep. omega (arith, grows, same) }
  lower_depth (suc zero) few zero many less some = absurd (omega (arith, less))
  lower_depth (suc zero) few (suc zero) many less some = absurd (omega (arith, less))
  lower_depth (suc zero) few (suc (suc above)) many less some = by_test (nat_lt room (wide * (many + 1)))
    where
      by_test : (fuller : Bool) → IsNoHigher (record { depth = 2; records = 2 }) (rises_or_grows fuller above many)
      by_test true = record { depth = omega arith; records = λ same deep. omega (arith, same) }
      by_test false = record { depth = omega arith; records = λ same deep. omega (arith, some) }
  lower_depth (suc (suc below)) few zero many less some = absurd (omega (arith, less))
  lower_depth (suc (suc below)) few (suc zero) many less some = absurd (omega (arith, less))
  lower_depth (suc (suc below)) few (suc (suc above)) many less some = by_tests (nat_lt room (wide * (few + 1))) (nat_lt room (wide * (many + 1)))
    where
      by_tests : (one other : Bool) → IsNoHigher (rises_or_grows one below few) (rises_or_grows other above many)
      by_tests true true = record { depth = omega (arith, less); records = λ same deep. omega arith }
      by_tests true false = record { depth = omega (arith, less); records = λ same deep. omega (arith, some) }
      by_tests false true = record { depth = omega (arith, less); records = λ same deep. omega (arith, less, same) }
      by_tests false false = record { depth = omega (arith, less); records = λ same deep. omega (arith, less, same) }

  -- edits keep the order of tops
  after_keeps : (a b : TreeTop) → 1 ≤ b.records → IsNoHigher a b → IsNoHigher (top_after room wide a.depth a.records) (top_after room wide b.depth b.records)
  after_keeps a b some low = elim (cases_lt a.depth b.depth) [
    | inl less ↦ lower_depth a.depth a.records b.depth b.records less some
    | inr most ↦ subst (λ depth. IsNoHigher (top_after room wide a.depth a.records) (top_after room wide depth b.records)) (equal most) (level a.depth (λ deep. low.records (equal most) deep))
  ]
    where
      equal : b.depth ≤ a.depth → a.depth ≡ b.depth
      equal most = omega (arith, most, low.depth)

      level : (depth : ℕ) → (2 ≤ depth → a.records ≤ b.records) → IsNoHigher (top_after room wide depth a.records) (top_after room wide depth b.records)
      level zero fewer = no_higher_refl (record { depth = 1; records = 1 })
      level (suc zero) fewer = no_higher_refl (record { depth = 2; records = 2 })
      level (suc (suc above)) fewer = same_depth above a.records b.records (fewer (omega arith))

  pub tops_keep : (edits : ℕ) (a b : TreeTop) → 1 ≤ b.records → IsNoHigher a b → IsNoHigher (tops room wide edits a) (tops room wide edits b)
  tops_keep zero a b some low = low
  tops_keep (suc edits) a b some low =
      tops_keep edits (top_after room wide a.depth a.records) (top_after room wide b.depth b.records) (after_counts b.depth b.records some) (after_keeps a b some low)

  pub tops_grow : (edits : ℕ) (top : TreeTop) → top.depth ≤ (tops room wide edits top).depth
  tops_grow zero top = omega arith
  tops_grow (suc edits) top =
      let rest = tops_grow edits (top_after room wide top.depth top.records) in
      let first = after_grows top.depth top.records in
      omega (arith, rest, first)

  after_no_lower : (depth records : ℕ) → IsNoHigher (record { depth = depth; records = records }) (top_after room wide depth records)
  after_no_lower zero records = record { depth = omega arith; records = λ same deep. omega (arith, same) }
  after_no_lower (suc zero) records = record { depth = omega arith; records = λ same deep. omega (arith, same) }
  after_no_lower (suc (suc above)) records = by_test (nat_lt room (wide * (records + 1)))
    where
      by_test : (fuller : Bool) → IsNoHigher (record { depth = suc (suc above); records = records }) (rises_or_grows fuller above records)
      by_test true = record { depth = omega arith; records = λ same deep. omega (arith, same) }
      by_test false = record { depth = omega arith; records = λ same deep. omega arith }

  pub tops_no_lower : (edits : ℕ) (top : TreeTop) → IsNoHigher top (tops room wide edits top)
  tops_no_lower zero top = no_higher_refl top
  tops_no_lower (suc edits) top = no_higher_trans (after_no_lower top.depth top.records) (tops_no_lower edits (top_after room wide top.depth top.records))

  pub tops_add : (first others : ℕ) (top : TreeTop) → tops room wide (first + others) top ≡ tops room wide others (tops room wide first top)
  tops_add zero others top = ap (λ n. tops room wide n top) (zero-add others)
  tops_add (suc first) others top =
      ap (λ n. tops room wide n top) (suc_add first others) ∙ tops_add first others (top_after room wide top.depth top.records)
    where
      suc_add : (m n : ℕ) → suc m + n ≡ suc (m + n)
      suc_add m n = omega arith

  pub tops_count : (edits : ℕ) (top : TreeTop) → 1 ≤ top.records → 1 ≤ (tops room wide edits top).records
  tops_count zero top some = some
  tops_count (suc edits) top some = tops_count edits (top_after room wide top.depth top.records) (after_counts top.depth top.records some)

-- ---- one edit

-- an edit makes the top no higher than the definition says
pub top_of_one : (longest : ℕ) (old new : Store) → new.shape.depth ≤ old.shape.depth + 1 → BoundsRoot longest old new new.shape.depth new.shape.root
    → IsNoHigher (top_of new) (tops (node_room old.shape.node_size) (longest + 8) 1 (top_of old))
top_of_one longest old new depth bounds = by_depth old.shape.depth refl
  where
    by_depth : (was : ℕ) → old.shape.depth ≡ was → IsNoHigher (top_of new) (top_after (node_room old.shape.node_size) (longest + 8) was (top_of old).records)
    by_depth zero is = record { depth = omega (arith, is, depth); records = λ same deep. omega (arith, same, deep) }
    by_depth (suc zero) is = record {
      depth = omega (arith, is, depth);
      records = λ same deep. omega (arith, bounds.two (omega (arith, is)) (omega (arith, is, same)));
    }
    by_depth (suc (suc above)) is = by_test (nat_lt (node_room old.shape.node_size) ((longest + 8) * ((top_of old).records + 1))) refl
      where
        by_test : (fuller : Bool) → nat_lt (node_room old.shape.node_size) ((longest + 8) * ((top_of old).records + 1)) ≡ fuller → IsNoHigher (top_of new) (rises_or_grows fuller above (top_of old).records)
        by_test true full = record {
          depth = omega (arith, is, depth);
          records = λ same deep. omega (arith, bounds.two (omega (arith, is)) (omega (arith, is, same)));
        }
        by_test false full = elim (cases_lt old.shape.depth new.shape.depth) [
          | inl deeper ↦ absurd (true≢false (sym (lt-ltb (node_room old.shape.node_size) ((longest + 8) * ((top_of old).records + 1)) (over deeper)) ∙ full))
          | inr most ↦ record {
            depth = omega (arith, is, most);
            records = λ same deep. omega (arith, bounds.grown (omega (arith, is)) (omega (arith, is, same)));
          }
        ]
          where
            over : old.shape.depth < new.shape.depth → node_room old.shape.node_size < (longest + 8) * ((top_of old).records + 1)
            over deeper =
                let full_now = bounds.over (omega (arith, is)) deeper in
                let wider = mul-le-mul_left {m = length (items (old.nodes old.shape.root)) + 1} {n = (top_of old).records + 1} (longest + 8) (omega arith) in
                omega (arith, full_now, wider)

-- what costs little costs no more than that
pub costs_more : {a b : Store} (m t n u : ℕ) → CostsAtMost m t a b → m ≤ n → t ≤ u → CostsAtMost n u a b
costs_more m t n u p most takes = record {
  fewer = p.fewer;
  some = omega (arith, p.some, most);
  left = p.left;
  sectors = p.sectors;
  free = omega (arith, p.free, takes);
  later = p.later;
  same = p.same;
}

-- a tree isn't deeper than it may become
pub depth_below : (edits longest deepest : ℕ) (store : Store) → GoesNoDeeper edits longest deepest store → store.shape.depth ≤ deepest
depth_below edits longest deepest store deep =
    let grows = tops_grow (node_room store.shape.node_size) (longest + 8) edits (top_of store) in
    omega (arith, grows, deep)

-- an edit, made or not, takes at most what one does
pub takes_one : (longest : ℕ) (old new : Store) → CostsAtMost (edit_writes old.shape.depth) (old.shape.depth + 1) old new → TakesAtMost 1 longest old new
takes_one longest old new costs tells deepest deep =
    let low = depth_below 1 longest deepest old deep in
    costs_more (edit_writes old.shape.depth) (old.shape.depth + 1) (1 * edit_writes deepest) (1 * (deepest + 1)) costs (omega (arith, low)) (omega (arith, low))

pub edits_one : (longest : ℕ) (old new : Store) → CostsAtMost (edit_writes old.shape.depth) (old.shape.depth + 1) old new → new.shape.depth ≤ old.shape.depth + 1
    → new.shape.leaf_records ≤ old.shape.leaf_records + 1 → (IsTrue old.tells → BoundsRoot longest old new new.shape.depth new.shape.root) → TakesEdits 1 longest old new
edits_one longest old new costs depth records bounds = record {
  takes = takes_one longest old new costs;
  top = λ tells. top_of_one longest old new depth (bounds tells);
  records = λ tells. records;
}

-- ---- several edits

-- the first of several edits go no deeper than all
pub deep_first : (first others longest deepest : ℕ) (store : Store) → GoesNoDeeper (first + others) longest deepest store → GoesNoDeeper first longest deepest store
deep_first first others longest deepest store deep =
    let room = node_room store.shape.node_size in
    let grows = tops_grow room (longest + 8) others (tops room (longest + 8) first (top_of store)) in
    let sum = ap (λ (top : TreeTop). top.depth) (tops_add room (longest + 8) first others (top_of store)) in
    omega (arith, grows, deep, sum)

-- those that follow go no deeper either
pub deep_then : (first others longest deepest : ℕ) (a b : Store) → SameStore a b → IsNoHigher (top_of b) (tops (node_room a.shape.node_size) (longest + 8) first (top_of a))
    → GoesNoDeeper (first + others) longest deepest a → GoesNoDeeper others longest deepest b
deep_then first others longest deepest a b same top deep =
    let room = node_room a.shape.node_size in
    let low = tops_keep room (longest + 8) others (top_of b) (tops room (longest + 8) first (top_of a)) (tops_count room (longest + 8) first (top_of a) (omega arith)) top in
    let sum = ap (λ (t : TreeTop). t.depth) (tops_add room (longest + 8) first others (top_of a)) in
    let size = ap (λ n. (tops (node_room n) (longest + 8) others (top_of b)).depth) same.node_size in
    omega (arith, low.depth, deep, sum, size)

-- what calls take adds up
pub takes_both : (first others longest : ℕ) (a b c : Store) → SameStore a b → TakesEdits first longest a b → TakesAtMost others longest b c → TakesAtMost (first + others) longest a c
takes_both first others longest a b c same p q tells deepest deep =
    does_both (first * edit_writes deepest) (first * (deepest + 1)) (others * edit_writes deepest) (others * (deepest + 1)) ((first + others) * edit_writes deepest) ((first + others) * (deepest + 1))
    (p.takes tells deepest (deep_first first others longest deepest a deep)) (q (same.tells ∙ tells) deepest (deep_then first others longest deepest a b same (p.top tells) deep)) (omega arith) (omega arith)

pub edits_add : (first others longest : ℕ) (a b c : Store) → SameStore a b → TakesEdits first longest a b → TakesEdits others longest b c → TakesEdits (first + others) longest a c
edits_add first others longest a b c same p q = record {
  takes = takes_both first others longest a b c same p q.takes;
  top = λ tells.
      let room = node_room a.shape.node_size in
      let next = subst (λ n. IsNoHigher (top_of c) (tops (node_room n) (longest + 8) others (top_of b))) same.node_size (q.top (subst IsTrue (sym same.tells) tells)) in
      let low = tops_keep room (longest + 8) others (top_of b) (tops room (longest + 8) first (top_of a)) (tops_count room (longest + 8) first (top_of a) (omega arith)) (p.top tells) in
      subst (λ top. IsNoHigher (top_of c) top) (sym (tops_add room (longest + 8) first others (top_of a))) (no_higher_trans next low);
  records = λ tells. omega (arith, p.records tells, q.records (same.tells ∙ tells));
}

-- edits that weren't made take nothing
pub takes_fewer : (made others longest : ℕ) (a b : Store) → TakesAtMost made longest a b → TakesAtMost (made + others) longest a b
takes_fewer made others longest a b p tells deepest deep =
    costs_more (made * edit_writes deepest) (made * (deepest + 1)) ((made + others) * edit_writes deepest) ((made + others) * (deepest + 1)) (p tells deepest (deep_first made others longest deepest a deep)) (omega arith) (omega arith)

pub edits_fewer : (made others longest : ℕ) (a b : Store) → TakesEdits made longest a b → TakesEdits (made + others) longest a b
edits_fewer made others longest a b p = record {
  takes = takes_fewer made others longest a b p.takes;
  top = λ tells.
      let room = node_room a.shape.node_size in
      let more = subst (λ top. IsNoHigher (tops room (longest + 8) made (top_of a)) top) (sym (tops_add room (longest + 8) made others (top_of a))) (tops_no_lower room (longest + 8) others (tops room (longest + 8) made (top_of a))) in
      no_higher_trans (p.top tells) more;
  records = λ tells. omega (arith, p.records tells);
}

-- the room that the edits made leave to the others
pub room_then : (first others longest : ℕ) (a b : Store) → SameStore a b → TakesEdits first longest a b → (IsTrue a.tells → EditRoom (first + others) longest a) → IsTrue b.tells → EditRoom others longest b
room_then first others longest a b same takes has tells_now =
    let tells : IsTrue a.tells = sym same.tells ∙ tells_now in
    let room = has tells in
    let costs = takes.takes tells room.deepest (deep_first first others longest room.deepest a room.deep) in
    record {
      deepest = room.deepest;
      deep = deep_then first others longest room.deepest a b same (takes.top tells) room.deep;
      depth = λ some. room.depth (omega (arith, some));
      records = omega (arith, takes.records tells, room.records);
      free = omega (arith, room.free, costs.free);
      writes = writes_then (first * edit_writes room.deepest) (others * edit_writes room.deepest) ((first + others) * edit_writes room.deepest) a b (omega arith) costs.fewer costs.some costs.left room.writes;
    }
  where
    writes_then : (m n all : ℕ) (a b : Store) → all ≡ m + n → b.unwritten ≤ a.unwritten → a.unwritten ≤ b.unwritten + m → a.writes_left + b.unwritten ≤ b.writes_left + a.unwritten
        → HasRoom all a → HasRoom n b
    writes_then m n all a b is fewer some left has = omega (arith, is, fewer, some, left, has)

-- what an edit needs
pub record EditNeeds (store : Store) : Type 0 where
  pub depth : store.shape.depth ≤ 11
  pub free : store.shape.depth + 1 ≤ store.shape.free
  pub room : HasRoom (edit_writes store.shape.depth) store
  pub records : store.shape.leaf_records < 2 ^ 32 - 1

-- an edit has what it needs, where there is room for one and perhaps for others
pub room_for_one : (others longest : ℕ) (store : Store) → (IsTrue store.tells → EditRoom (1 + others) longest store) → IsTrue store.tells → EditNeeds store
room_for_one others longest store has tells =
    let room = has tells in
    let low = depth_below (1 + others) longest room.deepest store room.deep in
    let free = room.free in
    let writes = room.writes in
    let many : (1 + others) * edit_writes room.deepest ≡ edit_writes room.deepest + others * edit_writes room.deepest = omega arith in
    let more : (1 + others) * (room.deepest + 1) ≡ room.deepest + 1 + others * (room.deepest + 1) = omega arith in
    record {
      depth = omega (arith, low, room.depth (omega arith));
      free = omega (arith, low, free, more);
      room = omega (arith, low, writes, many);
      records = omega (arith, room.records);
    }

-- room for several edits is room for the first of them
pub room_first : (first others longest : ℕ) (store : Store) → (IsTrue store.tells → EditRoom (first + others) longest store) → IsTrue store.tells → EditRoom first longest store
room_first first others longest store has tells =
    let room = has tells in
    record {
      deepest = room.deepest;
      deep = deep_first first others longest room.deepest store room.deep;
      depth = λ some. room.depth (omega (arith, some));
      records = omega (arith, room.records);
      free = omega (arith, room.free);
      writes = writes_first (first * edit_writes room.deepest) ((first + others) * edit_writes room.deepest) store (omega arith) room.writes;
    }
  where
    writes_first : (few all : ℕ) (store : Store) → few ≤ all → HasRoom all store → HasRoom few store
    writes_first few all store less has = omega (arith, less, has)

-- a call that didn't begin took nothing
pub takes_none : (edits longest : ℕ) (store : Store) → TakesAtMost edits longest store store
takes_none edits longest store tells deepest deep = record {
  fewer = omega arith;
  some = omega arith;
  left = omega arith;
  sectors = omega arith;
  free = omega arith;
  later = omega arith;
  same = record { tells = refl; names = refl; node_size = refl; total = refl; reserved = λ n. refl };
}
