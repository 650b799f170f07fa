-- A node's bytes in parts of 512, and a node of which the first sectors were put.
use Rattle.std.proofs.Common.{◌≡◌, ℕ, zero, suc, ◌+◌, ◌-◌, ◌*◌, ◌<◌, ◌++◌, IsTrue, List, [], get_or, slice_range, take, drop, sym, ◌∙◌, ap, subst, arith, append-nil}
use Rattle.std.specs.List.{Contains}
use Rattle.std.specs.Simd.{first_chunks}
use Rattle.std.proofs.lemmas.List.{drop-drop}
use Rattle.sector_disk.specs.Lists.{sector}
use Rattle.sector_disk.specs.Space.{Space}
use Rattle.sector_disk.specs.Putting.{unput, PutsThese, TakesRoomOf}
use Rattle.sector_disk.proofs.PutLaws.{PutSoFar}

-- the k-th of the parts
part_at : (n many : ℕ) (bytes : List ℕ) (k : ℕ) (d : List ℕ) → k < many → get_or (first_chunks n many bytes) k d ≡ take n (drop (k * n) bytes)
part_at n zero bytes k d low = absurd (omega (arith, low))
part_at n (suc many) bytes zero d low = let none : 0 ≡ 0 * n = omega arith in ap (λ m. take n (drop m bytes)) none
part_at n (suc many) bytes (suc k) d low =
    let place : n + k * n ≡ suc k * n = omega arith in
    part_at n many (drop n bytes) k d (omega (arith, low)) ∙ ap (λ (l : List ℕ). take n l) (drop-drop (k * n) n bytes ∙ ap (λ m. drop m bytes) place)

pub sector_part : (many : ℕ) (bytes : List ℕ) (k : ℕ) (d : List ℕ) → k < many → get_or (first_chunks 512 many bytes) k d ≡ slice_range bytes (k * 512) (k * 512 + 512)
sector_part many bytes k d low =
    let long : 512 ≡ k * 512 + 512 - k * 512 = omega arith in
    part_at 512 many bytes k d low ∙ ap (λ m. take m (drop (k * 512) bytes)) long

-- each of a list was put, with bytes that belong there
pub record AllPut (all : List ℕ) (belongs : ℕ → List ℕ → Type 0) (old now : Space) : Type 0 where
  pub puts : IsTrue old.tells → PutsThese (λ s. Contains all s) old now
  pub bytes : IsTrue old.tells → (at : ℕ) → Contains all at → belongs at (sector now.content at)
  pub room : TakesRoomOf (λ s. Contains all s) (unput old.put all) old now

pub none_left : (all left : List ℕ) (belongs : ℕ → List ℕ → Type 0) (old now : Space) → PutSoFar all left belongs old now → left ≡ [] → AllPut all belongs old now
none_left all left belongs old now s none =
    let is : s.done ≡ all = sym (s.parts ∙ ap (λ (l : List ℕ). s.done ++ l) none ∙ append-nil s.done) in
    subst (λ (l : List ℕ). AllPut l belongs old now) is (record { puts = s.puts; bytes = s.bytes; room = s.room })
