-- The room that puts of whole nodes take, of nodes that are written for the first time and of those that are written again.
use Rattle.std.proofs.Common.{◌≡◌, ◌⊎◌, ℕ, ◌+◌, ◌*◌, ◌/◌, ◌≤◌, ◌<◌, Bool, not, List, length, drop, inl, sym, subst, arith, ⊎_elim}
use Rattle.std.proofs.Math.Nat.{le-div_iff_mul-le}
use Rattle.std.proofs.lemmas.List.{length-take}
use Rattle.std.proofs.lemmas.List.Sums.{count_by-le-length}
use Rattle.sector_disk.specs.Space.{Space}
use Rattle.btree_file.specs.Growth.{unwritten_in}
use Rattle.btree_file.specs.Place.{AreApart, sectors_at}
use Rattle.btree_file.specs.Putting.{unput, PutsNode, TakesRoomFor}
use Rattle.sector_disk.proofs.PutLaws.{fewer_unput}
use Rattle.btree_file.proofs.RoomLaws.{none_unput}
use Rattle.btree_file.proofs.Rooms.{put_here, puts_once, may_put}

-- the sectors of a node that weren't put are at most its own
pub few : (put : ℕ → Bool) (sectors : List ℕ) (per n : ℕ) → unput put (sectors_at sectors per n) ≤ per
few put sectors per n = omega (arith, count_by-le-length (λ s. not (put s)) (sectors_at sectors per n), length-take per (drop (n * per) sectors))

-- room for all nodes that aren't written is room for each
pub fits : (sectors : List ℕ) (per nodes : ℕ) (space : Space) (n : ℕ) → nodes * per ≤ length sectors → 0 < per → n < nodes → unwritten_in sectors per nodes space.put * per ≤ space.spare → unput space.put (sectors_at sectors per n) ≤ space.spare
fits sectors per nodes space n whole some inside room =
    let left : unwritten_in sectors per nodes space.put ≤ space.spare / per = (le-div_iff_mul-le some).1 room in
    may_put sectors per nodes space n whole some inside (inl (omega (arith, left)))

-- what was put, and the room for it, where a node's length is said otherwise
pub puts_as : (sectors : List ℕ) (long size n : ℕ) (bytes : List ℕ) (old new : Space) → long ≡ size → PutsNode (sectors_at sectors (long / 512) n) bytes old new → PutsNode (sectors_at sectors (size / 512) n) bytes old new
puts_as sectors long size n bytes old new is puts = subst (λ k. PutsNode (sectors_at sectors (k / 512) n) bytes old new) is puts

pub room_as : (sectors : List ℕ) (long size n : ℕ) (old new : Space) → long ≡ size → TakesRoomFor (sectors_at sectors (long / 512) n) old new → TakesRoomFor (sectors_at sectors (size / 512) n) old new
room_as sectors long size n old new is room = subst (λ k. TakesRoomFor (sectors_at sectors (k / 512) n) old new) is room

pub unput_as : (sectors : List ℕ) (long size n : ℕ) (space : Space) → long ≡ size → unput space.put (sectors_at sectors (size / 512) n) ≤ space.spare → unput space.put (sectors_at sectors (long / 512) n) ≤ space.spare
unput_as sectors long size n space is room = subst (λ k. unput space.put (sectors_at sectors (k / 512) n) ≤ space.spare) (sym is) room

-- one put
module _ (sectors : List ℕ) (per nodes : ℕ) (apart : AreApart sectors) (whole : nodes * per ≤ length sectors) (some : 0 < per) (old new : Space) (n : ℕ) (inside : n < nodes) (room : TakesRoomFor (sectors_at sectors per n) old new) where
  pub gone : unput new.put (sectors_at sectors per n) ≡ 0
  gone = none_unput new.put (sectors_at sectors per n) (put_here sectors per nodes apart whole some old new n inside room)

  pub fewer : (m : ℕ) → unput new.put (sectors_at sectors per m) ≤ unput old.put (sectors_at sectors per m)
  fewer m = fewer_unput old.put new.put (sectors_at sectors per m) (λ s t. (room.put s).1 (inl t))

  pub spends : old.spare + unwritten_in sectors per nodes new.put * per ≤ new.spare + unwritten_in sectors per nodes old.put * per
  spends = (puts_once sectors per nodes apart whole some old new n inside room).room

-- three puts: of the last map node, of a new one, and of the header node
module _ (sectors : List ℕ) (per nodes last node : ℕ) (apart : AreApart sectors) (whole : nodes * per ≤ length sectors) (some : 0 < per) (last_low : last < nodes) (low : node < nodes) (a b c d : Space)
    (has : (unput a.put (sectors_at sectors per 0) + unput a.put (sectors_at sectors per last) + 1 * per ≤ a.spare) ⊎ (unwritten_in sectors per nodes a.put * per ≤ a.spare))
  where
    pub room_first : unput a.put (sectors_at sectors per last) ≤ a.spare
    room_first = ⊎_elim (λ (both : unput a.put (sectors_at sectors per 0) + unput a.put (sectors_at sectors per last) + 1 * per ≤ a.spare). omega (arith, both)) (λ all. fits sectors per nodes a last whole some last_low all) has

    module _ (first : TakesRoomFor (sectors_at sectors per last) a b) where
      pub room_second : unput b.put (sectors_at sectors per node) ≤ b.spare
      room_second = ⊎_elim
          (λ (both : unput a.put (sectors_at sectors per 0) + unput a.put (sectors_at sectors per last) + 1 * per ≤ a.spare). omega (arith, both, first.spare, few b.put sectors per node))
          (λ (all : unwritten_in sectors per nodes a.put * per ≤ a.spare). fits sectors per nodes b node whole some low (omega (arith, all, spends sectors per nodes apart whole some a b last last_low first)))
          has

      module _ (second : TakesRoomFor (sectors_at sectors per node) b c) where
        pub room_third : unput c.put (sectors_at sectors per 0) ≤ c.spare
        room_third = ⊎_elim
            (λ (both : unput a.put (sectors_at sectors per 0) + unput a.put (sectors_at sectors per last) + 1 * per ≤ a.spare).
            omega (arith, both, first.spare, second.spare, few b.put sectors per node, fewer sectors per nodes apart whole some a b last last_low first 0, fewer sectors per nodes apart whole some b c node low second 0))
            (λ (all : unwritten_in sectors per nodes a.put * per ≤ a.spare).
            fits sectors per nodes c 0 whole some (omega (arith, low)) (omega (arith, all, spends sectors per nodes apart whole some a b last last_low first, spends sectors per nodes apart whole some b c node low second)))
            has

        module _ (third : TakesRoomFor (sectors_at sectors per 0) c d) where
          pub spends_three : a.spare + unwritten_in sectors per nodes d.put * per ≤ d.spare + unwritten_in sectors per nodes a.put * per
          spends_three = omega (arith, spends sectors per nodes apart whole some a b last last_low first, spends sectors per nodes apart whole some b c node low second, spends sectors per nodes apart whole some c d 0 (omega (arith, low)) third)

          pub written_three : a.spare + (unput d.put (sectors_at sectors per 0) + unput d.put (sectors_at sectors per node)) ≤ d.spare + (unput a.put (sectors_at sectors per 0) + unput a.put (sectors_at sectors per last)) + per
          written_three = omega (
            arith,
            first.spare,
            second.spare,
            third.spare,
            few b.put sectors per node,
            fewer sectors per nodes apart whole some a b last last_low first 0,
            fewer sectors per nodes apart whole some b c node low second 0,
            gone sectors per nodes apart whole some b c node low second,
            fewer sectors per nodes apart whole some c d 0 (omega (arith, low)) third node,
            gone sectors per nodes apart whole some c d 0 (omega (arith, low)) third,
          )
