-- The nodes that are written, and the room for more, when the sectors of one node are put.
use Rattle.std.proofs.Common.{◌≡◌, ◌≢◌, ◌⊎◌, ℕ, ◌+◌, ◌*◌, ◌/◌, ◌≤◌, ◌<◌, Bool, true, false, not, cond, IsTrue, List, length, min, inl, inr, refl, sym, ◌∙◌, ap, subst, arith, ⊎_elim}
use Rattle.std.specs.List.{Contains, list_all, count_by, range_with_len}
use Rattle.std.proofs.Math.Nat.{mul-le-mul_right}
use Rattle.std.proofs.Math.Path.{fun_ext}
use Rattle.std.proofs.lemmas.Bool.{cases_lt, cases_eq, cases_Bool, true≢false}
use Rattle.std.proofs.lemmas.List.{get_or_default}
use Rattle.std.proofs.lemmas.List.Sums.{count_by-le-length}
use Rattle.sector_disk.specs.Space.{Space}
use Rattle.btree_file.specs.Place.{AreApart, sectors_at}
use Rattle.btree_file.specs.Putting.{unput, TakesRoomFor}
use Rattle.btree_file.proofs.PlaceLaws.{many}
use Rattle.btree_file.proofs.NodeLaws.{apart_nodes, in_node}
use Rattle.btree_file.proofs.RoomLaws.{all_from, all_same, all_still, none_unput, count_less, count_none, room_for, one_node}

-- each sector of a node was put
abbrev pub whole_put : List ℕ → ℕ → (ℕ → Bool) → ℕ → Bool
whole_put sectors per put n = list_all put (sectors_at sectors per n)

-- how many nodes weren't put
abbrev pub count_left : List ℕ → ℕ → ℕ → (ℕ → Bool) → ℕ
count_left sectors per total put = count_by (λ n. not (whole_put sectors per put n)) (range_with_len 0 total)

-- at most one node was written for the first time
pub record PutsOnce (sectors : List ℕ) (per total : ℕ) (put : ℕ → Bool) (before : ℕ) (more : ℕ → Bool) (left : ℕ) : Type 0 where
  pub still : (m : ℕ) → IsTrue (whole_put sectors per put m) → IsTrue (whole_put sectors per more m)
  pub fewer : count_left sectors per total more ≤ count_left sectors per total put
  pub some : count_left sectors per total put ≤ count_left sectors per total more + 1
  pub writes : before / per + count_left sectors per total more ≤ left / per + count_left sectors per total put
  pub room : before + count_left sectors per total more * per ≤ left + count_left sectors per total put * per

-- nothing was written that wasn't before
pub record PutsAgain (sectors : List ℕ) (per total : ℕ) (put : ℕ → Bool) (room : ℕ) (more : ℕ → Bool) (left : ℕ) : Type 0 where
  pub written : (m : ℕ) → whole_put sectors per more m ≡ whole_put sectors per put m
  pub unwritten : count_left sectors per total more ≡ count_left sectors per total put
  pub spare : left ≡ room

pub whole_node : (total per n long : ℕ) → total * per ≤ long → n < total → (n + 1) * per ≤ long
whole_node total per n long whole inside = let more = mul-le-mul_right {m = n + 1} {n = total} per (omega (arith, inside)) in omega (arith, more, whole)

module _ (sectors : List ℕ) (per total : ℕ) (apart : AreApart sectors) (whole : total * per ≤ length sectors) (some : 0 < per) (old new : Space) (n : ℕ) (inside : n < total)
    (room : TakesRoomFor (sectors_at sectors per n) old new)
  where
    pub put_here : whole_put sectors per new.put n ≡ true
    put_here = all_from new.put (sectors_at sectors per n) (λ s c. (room.put s).1 (inr c))

    still_put : (m : ℕ) → whole_put sectors per old.put m ≡ true → whole_put sectors per new.put m ≡ true
    still_put m = all_still old.put new.put (sectors_at sectors per m) (λ s t. (room.put s).1 (inl t))

    same_flag : (a b : Bool) → (b ≡ true → a ≡ true) → (a ≡ true → b ≡ true) → b ≡ a
    same_flag true b back forth = forth refl
    same_flag false true back forth = sym (back refl)
    same_flag false false back forth = refl

    put_other : (m : ℕ) → m ≢ n → whole_put sectors per new.put m ≡ whole_put sectors per old.put m
    put_other m other = all_same old.put new.put (sectors_at sectors per m)
        (λ s c. same_flag (old.put s) (new.put s)
        (λ t. ⊎_elim (λ o. o) (λ also. absurd (other (apart_nodes sectors per m n s apart c also))) ((room.put s).0 t))
        (λ t. (room.put s).1 (inl t)))

    counts : count_left sectors per total new.put + cond (not (whole_put sectors per old.put n)) 1 0 ≡ count_left sectors per total old.put
    counts = count_less (λ m. not (whole_put sectors per old.put m)) (λ m. not (whole_put sectors per new.put m)) 0 total n (omega arith) (omega (arith, inside)) (ap not put_here) (λ m other. ap not (put_other m other))

    takes_few : unput old.put (sectors_at sectors per n) ≤ per
    takes_few = omega (arith, count_by-le-length (λ s. not (old.put s)) (sectors_at sectors per n), many sectors per n (whole_node total per n (length sectors) whole inside))

    pub puts_again : whole_put sectors per old.put n ≡ true → PutsAgain sectors per total old.put old.spare new.put new.spare
    puts_again was =
        let none = none_unput old.put (sectors_at sectors per n) was in
        let none_more : ◌≡◌ {A = ℕ} (cond (not (whole_put sectors per old.put n)) 1 0) 0 = rw was refl in
        record {
          written = λ m. same_flag (whole_put sectors per old.put m) (whole_put sectors per new.put m)
              (λ t. ⊎_elim (λ (e : m ≡ n). ap (whole_put sectors per old.put) e ∙ was) (λ (other : m ≢ n). sym (put_other m other) ∙ t) (cases_eq m n)) (still_put m);
          unwritten = omega (arith, counts, none_more);
          spare = omega (arith, room.spare, room.no_more, none);
        }

    pub puts_once : PutsOnce sectors per total old.put old.spare new.put new.spare
    puts_once = elim (cases_Bool (whole_put sectors per old.put n)) [
      | inl was ↦
          let same = puts_again was in
          let product : count_left sectors per total new.put * per ≡ count_left sectors per total old.put * per = ap (λ k. k * per) same.unwritten in
          let quotient : new.spare / per ≡ old.spare / per = ap (λ k. k / per) same.spare in
          record {
            still = still_put;
            fewer = omega (arith, same.unwritten);
            some = omega (arith, same.unwritten);
            writes = omega (arith, same.unwritten, quotient);
            room = omega (arith, product, same.spare);
          }
      | inr fresh ↦
          let one : ◌≡◌ {A = ℕ} (cond (not (whole_put sectors per old.put n)) 1 0) 1 = rw fresh refl in
          let less : count_left sectors per total new.put + 1 ≡ count_left sectors per total old.put = omega (arith, counts, one) in
          let few = takes_few in
          let by_one = one_node old.spare new.spare per some (omega (arith, few, room.spare)) in
          let product : (count_left sectors per total new.put + 1) * per ≡ count_left sectors per total old.put * per = ap (λ k. k * per) less in
          record {
            still = still_put;
            fewer = omega (arith, less);
            some = omega (arith, less);
            writes = omega (arith, less, by_one);
            room = omega (arith, product, few, room.spare);
          }
    ]

-- the same, where reads came first
pub once_after : (sectors : List ℕ) (per total : ℕ) (put mid more : ℕ → Bool) (spare room left : ℕ) → ((s : ℕ) → mid s ≡ put s) → room ≡ spare → PutsOnce sectors per total mid room more left → PutsOnce sectors per total put spare more left
once_after sectors per total put mid more spare room left same equal once =
    let puts : mid ≡ put = fun_ext same in
    subst (λ (p : ℕ → Bool). PutsOnce sectors per total p spare more left) puts (subst (λ k. PutsOnce sectors per total mid k more left) equal once)

-- reads write nothing
pub once_read : (sectors : List ℕ) (per total : ℕ) (put more : ℕ → Bool) (spare left : ℕ) → ((s : ℕ) → more s ≡ put s) → left ≡ spare → PutsAgain sectors per total put spare more left
once_read sectors per total put more spare left same equal =
    let puts : more ≡ put = fun_ext same in
    record {
      written = λ m. ap (λ (p : ℕ → Bool). whole_put sectors per p m) puts;
      unwritten = ap (λ (p : ℕ → Bool). count_left sectors per total p) puts;
      spare = equal;
    }

pub once_again : (sectors : List ℕ) (per total : ℕ) (put more : ℕ → Bool) (spare left : ℕ) → PutsAgain sectors per total put spare more left → PutsOnce sectors per total put spare more left
once_again sectors per total put more spare left same =
    let product : count_left sectors per total more * per ≡ count_left sectors per total put * per = ap (λ k. k * per) same.unwritten in
    let quotient : left / per ≡ spare / per = ap (λ k. k / per) same.spare in
    record {
      still = λ m t. same.written m ∙ t;
      fewer = omega (arith, same.unwritten);
      some = omega (arith, same.unwritten);
      writes = omega (arith, same.unwritten, quotient);
      room = omega (arith, product, same.spare);
    }

-- there is room to put a node that has room to be written
pub may_put : (sectors : List ℕ) (per total : ℕ) (space : Space) (n : ℕ) → total * per ≤ length sectors → 0 < per → n < total
    → (min 1 (count_left sectors per total space.put) ≤ space.spare / per) ⊎ IsTrue (whole_put sectors per space.put n) → unput space.put (sectors_at sectors per n) ≤ space.spare
may_put sectors per total space n whole some inside room =
    let few : unput space.put (sectors_at sectors per n) ≤ per = omega (arith, count_by-le-length (λ s. not (space.put s)) (sectors_at sectors per n), many sectors per n (whole_node total per n (length sectors) whole inside)) in
    let done : whole_put sectors per space.put n ≡ true → unput space.put (sectors_at sectors per n) ≤ space.spare = λ was. omega (arith, none_unput space.put (sectors_at sectors per n) was) in
    ⊎_elim
    (λ has. ⊎_elim (λ was. done was)
    (λ (fresh : whole_put sectors per space.put n ≡ false).
    let left : 0 < count_left sectors per total space.put = ⊎_elim (λ (lt : 0 < count_left sectors per total space.put). lt)
    (λ (none : count_left sectors per total space.put ≤ 0). let no : not (whole_put sectors per space.put n) ≡ false = count_none (λ m. not (whole_put sectors per space.put m)) 0 total n (omega arith) (omega (arith, inside)) (omega (arith, none)) in absurd (true≢false (sym (ap not fresh) ∙ no)))
    (cases_lt 0 (count_left sectors per total space.put)) in
    let spare = room_for space.spare per (count_left sectors per total space.put) some has left in omega (arith, few, spare))
    (cases_Bool (whole_put sectors per space.put n)))
    done
    room

-- a node's sector is one of the fork's
pub of_fork : (fork : List ℕ) (per n s : ℕ) → Contains (sectors_at fork per n) s → Contains fork s
of_fork fork per n s c = let at = in_node fork per n s c in (n * per + at.0, at.2, get_or_default fork (n * per + at.0) s 0 at.2 ∙ at.3)

-- the same, where the numbers of the shape are said otherwise
pub record WritesShaped (sectors : List ℕ) (size total now_size now_total : ℕ) (put : ℕ → Bool) (before : ℕ) (more : ℕ → Bool) (left : ℕ) : Type 0 where
  pub still : (m : ℕ) → IsTrue (whole_put sectors (size / 512) put m) → IsTrue (whole_put sectors (now_size / 512) more m)
  pub fewer : count_left sectors (now_size / 512) now_total more ≤ count_left sectors (size / 512) total put
  pub some : count_left sectors (size / 512) total put ≤ count_left sectors (now_size / 512) now_total more + 1
  pub writes : before / (size / 512) + count_left sectors (now_size / 512) now_total more ≤ left / (now_size / 512) + count_left sectors (size / 512) total put
  pub room : before + count_left sectors (now_size / 512) now_total more * (now_size / 512) ≤ left + count_left sectors (size / 512) total put * (size / 512)

pub writes_shaped : (sectors : List ℕ) (size total now_size now_total : ℕ) (put : ℕ → Bool) (before : ℕ) (more : ℕ → Bool) (left : ℕ) → now_size ≡ size → now_total ≡ total → PutsOnce sectors (size / 512) total put before more left
    → WritesShaped sectors size total now_size now_total put before more left
writes_shaped sectors size total now_size now_total put before more left size_is total_is once =
    subst (λ n. WritesShaped sectors size total n now_total put before more left) (sym size_is)
    (subst (λ n. WritesShaped sectors size total size n put before more left) (sym total_is) (record { still = once.still; fewer = once.fewer; some = once.some; writes = once.writes; room = once.room }))

-- the room for a node after reads
pub unput_read : (old mid : Space) (xs : List ℕ) → ((s : ℕ) → mid.put s ≡ old.put s) → mid.spare ≡ old.spare → unput old.put xs ≤ old.spare → unput mid.put xs ≤ mid.spare
unput_read old mid xs same equal room = omega (arith, room, equal, ap (λ (p : ℕ → Bool). unput p xs) (fun_ext same))
