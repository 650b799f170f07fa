-- Edits one after another, up to so many: the room that is left, and what all of them take.
use Rattle.std.proofs.Common.{◌≡◌, ◌<◌, ◌≤◌, ◌+◌, ◌-◌, ℕ, subst, arith}
use Rattle.std.specs.Prelude.{IsTrue}
use Rattle.btree_node.specs.Store.{Store, SameStore}
use Rattle.btree_edit.specs.Edits.{EditRoom, TakesEdits, TakesAtMost}
use Rattle.btree_edit.proofs.EditLaws.{edits_fewer, room_first, room_then, takes_fewer}

one_of : (most made : ℕ) → made < most → most - made ≡ 1 + (most - made - 1)
one_of most made less = omega (arith, less)

pub room_round : (most made longest : ℕ) (s : Store) → made < most → (IsTrue s.tells → EditRoom (most - made) longest s) → IsTrue s.tells → EditRoom 1 longest s
room_round most made longest s less room = room_first 1 (most - made - 1) longest s (λ tells. subst (λ n. EditRoom n longest s) (one_of most made less) (room tells))

pub room_next : (most made longest : ℕ) (s t : Store) → made < most → SameStore s t → TakesEdits 1 longest s t → (IsTrue s.tells → EditRoom (most - made) longest s) → IsTrue t.tells → EditRoom (most - (made + 1)) longest t
room_next most made longest s t less same edits room tells =
    let left : most - made - 1 ≡ most - (made + 1) = omega arith in
    subst (λ n. EditRoom n longest t) left (room_then 1 (most - made - 1) longest s t same edits (λ before. subst (λ n. EditRoom n longest s) (one_of most made less) (room before)) tells)

pub edits_to : (made most longest : ℕ) (s t : Store) → made ≤ most → TakesEdits made longest s t → TakesEdits most longest s t
edits_to made most longest s t few edits =
    let all : made + (most - made) ≡ most = omega (arith, few) in
    subst (λ n. TakesEdits n longest s t) all (edits_fewer made (most - made) longest s t edits)

pub takes_to : (made most longest : ℕ) (s t : Store) → made ≤ most → TakesAtMost made longest s t → TakesAtMost most longest s t
takes_to made most longest s t few takes =
    let all : made + (most - made) ≡ most = omega (arith, few) in
    subst (λ n. TakesAtMost n longest s t) all (takes_fewer made (most - made) longest s t takes)
